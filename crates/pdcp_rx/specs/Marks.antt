-- A bitmap in words of 64 bits, with a bit for each slot of a ring.
use Rattle.std.specs.Prelude.{ℕ, ◌≡◌, ◌-◌, ◌*◌, ◌/◌, ◌%◌, ◌^◌, ◌<◌, ◌≤◌, ◌==◌, Bool, None, List, length, slice_index_or, slice_set, bit_and, bit_or, not}
use Rattle.std.specs.Option.{is_some}
use Rattle.pdcp_rx.specs.Ring.{Slots}

-- the word with the bit of a slot
abbrev pub word_of : List ℕ → ℕ → ℕ
word_of ws i = slice_index_or ws (i / 64) 0

-- whether the bit of a slot is set
abbrev pub is_marked : List ℕ → ℕ → Bool
is_marked ws i = not (bit_and (word_of ws i) (2 ^ (i % 64)) == 0)

-- the bitmap with the bit of a slot set
abbrev pub marked : List ℕ → ℕ → List ℕ
marked ws i = slice_set ws (i / 64) (bit_or (word_of ws i) (2 ^ (i % 64)))

-- the bitmap with the bit of a slot cleared
abbrev pub unmarked : List ℕ → ℕ → List ℕ
unmarked ws i = slice_set ws (i / 64) (bit_and (word_of ws i) (2 ^ 64 - 1 - 2 ^ (i % 64)))

-- the bits that are set are those of the slots that are taken
pub record MarksAre (ws : List ℕ) (s : Slots) : Type 0 where
  pub enough : length s ≤ 64 * length ws
  pub each : (i : ℕ) → i < length s → is_marked ws i ≡ is_some (slice_index_or s i None)
