-- When each rule refuses, and when it does not.
use Rattle.std.proofs.Common.{ℕ, ◌≡◌, ◌+◌, ◌-◌, ◌^◌, ◌<◌, ◌≤◌, ◌∷◌, ◌++◌, [], List, Ok, Err, length, refl}
use Rattle.std.specs.List.{enumerate_from, range_with_len}
use Rattle.std.proofs.lemmas.Bool.{le-leb, lt-leb, lt-ltb, le-ltb, eq-eqb, ne_eqb}
use Rattle.dc_base.specs.Count.{window}
use Rattle.pdcp_tx.specs.declared.tx.TxErr.TheVariants.{Full, Exhausted}
use Rattle.pdcp_tx.specs.Sender.{Sender, low}
use Rattle.pdcp_tx.specs.Sending.{take_sdu, give_numbers}

pub take_sdu-full : (s : Sender) (sdu : List ℕ) → low s + window s.n ≤ s.next → take_sdu s sdu ≡ Err (Full (low s) s.next)
take_sdu-full s sdu full = rw (le-leb _ _ full) refl

pub take_sdu-exhausted : (s : Sender) (sdu : List ℕ) → s.next < low s + window s.n → s.next ≡ 2 ^ 32 - 1 → take_sdu s sdu ≡ Err Exhausted
take_sdu-exhausted s sdu room last = rw (lt-leb _ _ room, eq-eqb _ _ last) refl

pub take_sdu-ok : (s : Sender) (sdu : List ℕ) → s.next < low s + window s.n → (s.next ≡ 2 ^ 32 - 1 → ⊥)
    → take_sdu s sdu ≡ Ok (record s { next = s.next + 1; kept = s.kept ++ (s.next, sdu) ∷ [] }, s.next)
take_sdu-ok s sdu room left = rw (lt-leb _ _ room, ne_eqb _ _ left) refl

pub give_numbers-full : (s : Sender) → low s + window s.n < s.next + length s.held → give_numbers s ≡ Err (Full (low s) s.next)
give_numbers-full s full = rw (lt-ltb _ _ full) refl

pub give_numbers-exhausted : (s : Sender) → s.next + length s.held ≤ low s + window s.n → 2 ^ 32 - 1 < s.next + length s.held → give_numbers s ≡ Err Exhausted
give_numbers-exhausted s room last = rw (le-ltb _ _ room, lt-ltb _ _ last) refl

pub give_numbers-ok : (s : Sender) → s.next + length s.held ≤ low s + window s.n → s.next + length s.held ≤ 2 ^ 32 - 1
    → give_numbers s ≡ Ok (record s { next = s.next + length s.held; kept = s.kept ++ enumerate_from s.next s.held; held = [] }, range_with_len s.next (length s.held))
give_numbers-ok s room left = rw (le-ltb _ _ room, le-ltb _ _ left) refl
