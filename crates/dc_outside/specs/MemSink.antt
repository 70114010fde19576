-- A sink in memory, as its callers see it.
use Rattle.std.specs.Prelude.{ℕ, ◌+◌, ◌-◌, ◌++◌, List, length, Contains}
use Rattle.dc_outside.specs.Faults.{counted}

-- octets that were put out, in a room of a fixed size, and the writes that fail
pub record Sink : Type 0 where
  pub octets : List ℕ  -- what was put out
  pub room : ℕ  -- how many octets fit in all
  pub fail : List ℕ  -- the numbers of the writes that fail, counted from 1
  pub writes : ℕ  -- how many writes came, up to the last value of a count
  pub faults : ℕ  -- how many of them failed

-- the next write fails by its number
abbrev pub IsRefused : Sink → Type 0
IsRefused s = Contains s.fail (s.writes + 1)

-- how many octets still fit
abbrev pub free : Sink → ℕ
free s = s.room - length s.octets

-- after a write of these octets
abbrev pub written : Sink → List ℕ → Sink
written s bytes = record s { octets = s.octets ++ bytes; writes = counted s.writes }

-- after a write that failed and added these octets
abbrev pub failed : Sink → List ℕ → Sink
failed s bytes = record s { octets = s.octets ++ bytes; writes = counted s.writes; faults = counted s.faults }
