-- A source in memory, as its callers see it.
use Rattle.std.specs.Prelude.{ℕ, ◌+◌, List, drop, Contains}
use Rattle.dc_outside.specs.Faults.{counted}

-- octets to be given, and the reads that fail
pub record Source : Type 0 where
  pub left : List ℕ  -- the octets that were not given yet
  pub fail : List ℕ  -- the numbers of the reads that fail, counted from 1
  pub reads : ℕ  -- how many reads came, up to the last value of a count
  pub faults : ℕ  -- how many of them failed

-- the next read fails by its number
abbrev pub IsRefused : Source → Type 0
IsRefused s = Contains s.fail (s.reads + 1)

-- after a read that gave n octets
abbrev pub given : Source → ℕ → Source
given s n = record s { left = drop n s.left; reads = counted s.reads }

-- after a read that failed
abbrev pub failed : Source → Source
failed s = record s { reads = counted s.reads; faults = counted s.faults }
