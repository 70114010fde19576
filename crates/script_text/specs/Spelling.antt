-- Words and what they stand for.
use Rattle.std.specs.Prelude.{ℕ, List, [], ◌∷◌, Option, Some, None, if◌then◌else◌}
use Rattle.std.specs.Borrow.{Bor}
use Rattle.std.specs.Str.{bytes_eq}

-- the value beside the word
unfoldable pub value_of : {T : Type 0} → List (Bor (List ℕ) × T) → List ℕ → Option T
value_of [] field = None
value_of (row ∷ rows) field = if bytes_eq row.0.now field then Some row.1 else value_of rows field
