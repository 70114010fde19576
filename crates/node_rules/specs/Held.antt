-- What a node holds of its bearers: by their identities, which ascend.
use Rattle.std.specs.BTreeMap.{insert_entry, is_at}
use Rattle.std.specs.Map.{lookup, remove_entry}
use Rattle.std.specs.Ordering.{nat_cmp}
use Rattle.std.specs.Prelude.{List, None, Option, Some, map, ℕ}

-- what is held of an identity (this product's own)
abbrev pub held : {X : Type 0} → ℕ → List (ℕ × X) → Option X
held id xs = lookup (is_at (nat_cmp id)) xs

-- this is held of it from now on, or nothing (this product's own)
abbrev pub holding : {X : Type 0} → ℕ → Option X → List (ℕ × X) → List (ℕ × X)
holding id None xs = remove_entry (is_at (nat_cmp id)) xs
holding id (Some x) xs = insert_entry nat_cmp xs id x

-- the identities of which something is held (this product's own)
abbrev pub identities : {X : Type 0} → List (ℕ × X) → List ℕ
identities xs = map (λ x. x.0) xs
