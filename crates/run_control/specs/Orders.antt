-- Lists by ascending identities.
use Rattle.std.specs.Prelude.{List, [], ℕ, ⊤, ◌+◌, ◌∷◌, ◌≤◌}

-- the identities ascend, from this one on
abbrev pub AscendsFrom : {X : Type 0} → ℕ → List (ℕ × X) → Type 0
AscendsFrom from [] = ⊤
AscendsFrom from (x ∷ xs) = (from ≤ x.0) × AscendsFrom (x.0 + 1) xs

-- they ascend
abbrev pub Ascends : {X : Type 0} → List (ℕ × X) → Type 0
Ascends xs = AscendsFrom 0 xs
