-- What the transmitting PDCP entity does (TS 38.323, 5.2.1 and 5.4): each rule gives what it holds afterwards,
-- and its answer.
use Rattle.std.specs.Prelude.{◌≡◌, ℕ, ◌+◌, ◌-◌, ◌^◌, nat_lt, nat_le, ◌==◌, not, if◌then◌else◌, List, [], ◌∷◌, ◌++◌, length, Result, Ok, Err}
use Rattle.std.specs.List.{filter, enumerate_from, range_with_len}
use Rattle.dc_base.specs.Count.{window}
use Rattle.pdcp_pdu.specs.Bitmap.{names}
use Rattle.pdcp_tx.specs.declared.tx.TxErr.{TxErr}
use Rattle.pdcp_tx.specs.declared.tx.TxErr.TheVariants.{Full, Exhausted, Memory}
use Rattle.pdcp_tx.specs.Sender.{Sender, low}

-- an SDU is taken: it has the next COUNT, unless the window is full or no COUNT is left
abbrev pub take_sdu : Sender → List ℕ → Result (Sender × ℕ) TxErr
take_sdu s sdu =
    if nat_le (low s + window s.n) s.next then Err (Full (low s) s.next)
    else if s.next == 2 ^ 32 - 1 then Err Exhausted
    else Ok (record s { next = s.next + 1; kept = s.kept ++ (s.next, sdu) ∷ [] }, s.next)

-- an SDU waits for a COUNT
abbrev pub hold_sdu : Sender → List ℕ → Sender
hold_sdu s sdu = record s { held = s.held ++ sdu ∷ [] }

-- all that wait have the next COUNTs, in order, unless the window has no room or too few COUNTs are left
abbrev pub give_numbers : Sender → Result (Sender × List ℕ) TxErr
give_numbers s =
    if nat_lt (low s + window s.n) (s.next + length s.held) then Err (Full (low s) s.next)
    else if nat_lt (2 ^ 32 - 1) (s.next + length s.held) then Err Exhausted
    else Ok (record s { next = s.next + length s.held; kept = s.kept ++ enumerate_from s.next s.held; held = [] }, range_with_len s.next (length s.held))

-- this COUNT is confirmed
abbrev pub confirm_count : Sender → ℕ → Sender
confirm_count s count = record s { kept = filter (λ e. not (e.0 == count)) s.kept }

-- all COUNTs that a status report names are confirmed
abbrev pub take_report : Sender → ℕ → List ℕ → Sender
take_report s fmc bits = record s { kept = filter (λ e. not (names fmc bits e.0)) s.kept }

-- why a call was refused is what the rule says, or want of memory
abbrev pub IsRefused : {A : Type 0} → Result A TxErr → TxErr → Type 0
IsRefused r Memory = Unit {0}
IsRefused r Exhausted = r ≡ Err Exhausted
IsRefused r (Full lowest next) = r ≡ Err (Full lowest next)
