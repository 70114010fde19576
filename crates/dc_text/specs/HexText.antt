-- The digits of octets in text.
use Rattle.std.specs.Prelude.{ℕ, ◌≤◌, ◌⊎◌}

-- a lower-case hexadecimal digit: `0` to `9` or `a` to `f`
abbrev pub IsLowerDigit : ℕ → Type 0
IsLowerDigit c = ((48 ≤ c) × (c ≤ 57)) ⊎ ((97 ≤ c) × (c ≤ 102))
