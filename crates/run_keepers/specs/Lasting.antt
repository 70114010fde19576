-- Which anchors stay active, but for those that are dropped.
use Rattle.std.specs.Prelude.{Some, ℕ, ◌≡◌, ◌⊎◌}
use Rattle.run_holders.specs.Actives.{Actives}

-- whatever is active by the one is active so by the other, or is dropped
abbrev pub Lasts : (ℕ → Type 0) → Actives → Actives → Type 0
Lasts D a b = (k g : ℕ) → a k ≡ Some g → (b k ≡ Some g) ⊎ D k
