-- A count that rose in one step of a longer call rose in the call.
use Rattle.std.proofs.Common.{ℕ, ◌≤◌, arith}
use Rattle.dc_outside.specs.Faults.{Rose}

-- a count that rose between two moments rose between an earlier and a later one
pub Rose-within : (earlier before now later : ℕ) → earlier ≤ before → Rose before now → now ≤ later → Rose earlier later
Rose-within earlier before now later first rose last = omega arith

-- a count from 0 to 2^64 - 1 that rose is not 0
pub Rose-pos : (before now : ℕ) → Rose before now → 1 ≤ now
Rose-pos before now rose = omega arith
