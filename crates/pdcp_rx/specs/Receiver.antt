-- The receiving entity (TS 38.323, 5.2.2) without a reordering timer: what it holds, and what a received SDU does.
use Rattle.std.specs.Prelude.{ℕ, ◌≡◌, ◌+◌, ◌-◌, ◌<◌, ◌^◌, ◌⊎◌, nat_lt, if◌then◌else◌, true, List, [], ◌∷◌, ◌++◌, length, drop}
use Rattle.std.specs.List.{AllByRecursion}
use Rattle.dc_base.specs.Count.{window}
use Rattle.pdcp_rx.specs.declared.entity.Put.{Put}
use Rattle.pdcp_rx.specs.declared.entity.Put.TheVariants.{Stored, Old, Again}
use Rattle.pdcp_rx.specs.declared.entity.RxParts.{RxParts}
use Rattle.pdcp_rx.specs.Entries.{Entry, AscendFrom, is_stored, with_sdu}
use Rattle.pdcp_rx.specs.Run.{run_from}

-- what is stored ascends above RX_DELIV, within the window, and the last COUNT is not used
pub record IsInOrder (r : RxParts) : Type 0 where
  pub ascends : AscendFrom (r.deliv + 1) r.stored
  pub in_window : AllByRecursion (λ e. e.0 < r.deliv + window r.n) r.stored
  pub not_last : AllByRecursion (λ e. e.0 < 2 ^ 32 - 1) r.stored

-- the SDU with this COUNT was received: it was handed up, or is stored
abbrev pub Received : RxParts → ℕ → Type 0
Received r c = (c < r.deliv) ⊎ (is_stored c r.stored ≡ true)

-- the run at RX_DELIV is handed up: it leaves what is stored, and RX_DELIV becomes the first COUNT after it
abbrev pub handed_up : RxParts → RxParts × Put
handed_up r =
    let run = run_from r.deliv r.stored in
    (record r { deliv = r.deliv + length run; stored = drop (length run) r.stored }, Stored run)

-- an SDU is received: one that was received before is discarded, any other is stored, and then the run is handed up
abbrev pub put : RxParts → ℕ → List ℕ → RxParts × Put
put r c sdu =
    if nat_lt c r.deliv then (r, Old r.deliv)
    else if is_stored c r.stored then (r, Again)
    else handed_up (record r { stored = with_sdu c sdu r.stored })

-- what an answer hands up
abbrev pub handed_of : Put → List Entry
handed_of (Stored handed) = handed
handed_of (Old deliv) = []
handed_of Again = []

-- SDUs are received one after the other: what is held then, and all that was handed up
abbrev pub put_all : RxParts → List Entry → RxParts × List Entry
put_all r [] = (r, [])
put_all r (e ∷ es) =
    let here = put r e.0 e.1 in
    let later = put_all here.0 es in
    (later.0, handed_of here.1 ++ later.1)
