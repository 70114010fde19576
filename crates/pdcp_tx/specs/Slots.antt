-- How a transmitting entity keeps its SDUs: in slots under ascending COUNTs. What is confirmed behind an SDU that
-- is not leaves its slot there, without the SDU and under another mark, until it stands in front.
use Rattle.std.specs.Prelude.{◌≡◌, ℕ, ◌+◌, ◌-◌, ◌≤◌, ◌^◌, nat_lt, not, ◌&&◌, if◌then◌else◌, Bool, true, false, List, [], ◌∷◌, map}
use Rattle.std.specs.List.{filter}
use Rattle.std.specs.List.Sorted.{IsPartitionPoint}
use Rattle.pdcp_pdu.specs.Bitmap.{names}
use Rattle.dc_base.specs.declared.numbers.SnLen.{SnLen}
use Rattle.pdcp_tx.specs.Sender.{Entry, Rises, InWindow}

-- whether the slot with this mark has its SDU: a mark near next is a COUNT
unfoldable pub is_live : ℕ → ℕ → Bool
is_live next mark = nat_lt ((next - mark) + (mark - next)) (2 ^ 30)

-- the number furthest from this one, the mark of an empty slot of this COUNT
unfoldable pub opposite : ℕ → ℕ
opposite count = if nat_lt count (2 ^ 31) then count + 2 ^ 31 else count - 2 ^ 31

-- the COUNT of the slot with this mark
abbrev pub count_at : ℕ → ℕ → ℕ
count_at next mark = if is_live next mark then mark else opposite mark

-- the SDUs that are kept, under their COUNTs
abbrev pub live : ℕ → List Entry → List Entry
live next slots = filter (λ e. is_live next e.0) slots

-- whether the slot with this mark has its SDU, and a status report names it
abbrev pub is_due : ℕ → ℕ → List ℕ → ℕ → Bool
is_due next fmc bits mark = is_live next mark && names fmc bits mark

-- all slots, under their COUNTs
abbrev pub slot_entries : ℕ → List Entry → List Entry
slot_entries next slots = map (λ e. (count_at next e.0, e.1)) slots

-- the COUNTs of the slots rise, below next and near it
pub record AreSlots (next : ℕ) (slots : List Entry) : Type 0 where
  pub from : ℕ
  pub near : next ≤ from + 2 ^ 17
  pub rises : Rises from next (slot_entries next slots)

-- whether the first slot is empty
abbrev pub begins_empty : ℕ → List Entry → Bool
begins_empty next [] = false
begins_empty next (e ∷ slots) = not (is_live next e.0)

-- what is kept is in the window, and the first slot is not empty
pub record IsSlotQueue (n : SnLen) (next : ℕ) (kept : List Entry) : Type 0 where
  pub window : InWindow n next (live next kept)
  pub slots : AreSlots next kept
  pub begins : begins_empty next kept ≡ false

-- the slots before place i have COUNTs below this one, and those from it on have not
abbrev pub IsSlotPlace : ℕ → ℕ → List Entry → ℕ → Type 0
IsSlotPlace next count slots i = IsPartitionPoint (λ e. nat_lt (count_at next e.0) count ≡ true) (λ e. nat_lt (count_at next e.0) count ≡ false) slots i
