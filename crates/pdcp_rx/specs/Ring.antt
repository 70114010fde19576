-- SDUs in a ring of slots: a COUNT has the slot at COUNT modulo the number of slots.
use Rattle.std.specs.Prelude.{ℕ, zero, suc, ◌≡◌, ◌+◌, ◌%◌, Option, Some, None, List, [], ◌∷◌, length, slice_index_or}
use Rattle.pdcp_rx.specs.declared.entity.RxParts.{RxParts}
use Rattle.pdcp_rx.specs.Entries.{Entry, past_greatest}
use Rattle.pdcp_rx.specs.Receiver.{IsInOrder}

-- slots, each with an SDU or free
abbrev pub Slots : Type 0
Slots = List (Option (List ℕ))

-- what stands in the slot of a COUNT
abbrev pub slot_of : Slots → ℕ → Option (List ℕ)
slot_of slots c = slice_index_or slots (c % length slots) None

-- what stands in the slot of c, with c, before these
abbrev pub before : ℕ → Option (List ℕ) → List Entry → List Entry
before c None es = es
before c (Some sdu) es = (c, sdu) ∷ es

-- what stands in the slots of k COUNTs from c on
abbrev pub slots_from : Slots → ℕ → ℕ → List Entry
slots_from slots c zero = []
slots_from slots c (suc k) = before c (slot_of slots c) (slots_from slots (c + 1) k)

-- what stands in a ring whose least COUNT is c
abbrev pub ring_from : Slots → ℕ → List Entry
ring_from slots c = slots_from slots c (length slots)

-- an entity's parts are in order, and `next` is RX_NEXT
pub record IsKept (r : RxParts) (next : ℕ) : Type 0 where
  pub in_order : IsInOrder r
  pub next_is : next ≡ past_greatest r.deliv r.stored
