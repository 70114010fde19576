-- The lines of octets, each of which LF ends; the last may have none.
use Rattle.std.specs.Prelude.{◌≡◌, ◌≢◌, ℕ, ◌+◌, ◌-◌, ◌≤◌, ◌==◌, if◌then◌else◌, Bool, List, [], length, slice_index, EachIndex, ⊤, None, Some, Option}
use Rattle.std.specs.List.{after_first, before_first}
use Rattle.std.specs.Io.KnownBytes.{Consumes, prepend_known}

-- the octet is LF, which ends a line
abbrev pub is_line_feed : ℕ → Bool
is_line_feed octet = octet == 10

-- no LF is among the octets: they lie within one line
abbrev pub HasNoLineFeed : List ℕ → Type 0
HasNoLineFeed octets = EachIndex octets (λ k. slice_index octets k ≢ 10)

-- the first line, without its LF
abbrev pub line_of : List ℕ → List ℕ
line_of octets = before_first is_line_feed octets

-- what comes after the first line and its LF
abbrev pub rest_of : List ℕ → List ℕ
rest_of octets = after_first is_line_feed octets

-- how many octets the first line takes, with its LF
abbrev pub span : List ℕ → ℕ
span octets = length octets - length (rest_of octets)

-- how many octets a line takes: with its LF, but where the input ended without one
abbrev pub taken_by : List ℕ → Bool → ℕ
taken_by line ended = length line + (if ended then 0 else 1)

-- a reader of lines: what it took from its source and did not hand out yet, how many octets its lines took so far, and
-- whether a read found the source at its end
pub record Reader : Type 0 where
  pub held : List ℕ
  pub passed : ℕ
  pub ended : Bool

-- the octets that the lines to come are made of, where the source tells what it has left
abbrev pub input : Reader → Option (List ℕ) → Option (List ℕ)
input reader left = prepend_known reader.held left

-- the input was not at its end, line is its first line, and what comes after it is left
abbrev pub GivesLine : Option (List ℕ) → Option (List ℕ) → List ℕ → Type 0
GivesLine None new line = ⊤
GivesLine (Some octets) new line = (octets ≢ []) × (line ≡ line_of octets) × (new ≡ Some (rest_of octets))

-- all that was taken from the input is the beginning of a line whose LF did not come, which is not too long
abbrev pub IsCutOff : Option (List ℕ) → Option (List ℕ) → Type 0
IsCutOff old left = (part : List ℕ) × Consumes old left part × HasNoLineFeed part × (length part ≤ 20000)
