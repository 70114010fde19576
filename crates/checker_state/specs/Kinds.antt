-- What a command is, and which root it names, as the claims have them.
use Rattle.std.specs.Prelude.{List, None, Option, Some, [], ℕ, ◌∷◌}
use Rattle.claims.specs.Table as table
use Rattle.checker_state.specs.declared.table.Kind.{Kind}
use Rattle.checker_state.specs.declared.table.Kind.TheVariants.{Change, Recovery}

-- a change under a generation, or the recovery of an identity
abbrev pub kind_of : Kind → table.Kind
kind_of (Change g) = table.change g
kind_of (Recovery id) = table.recovery id

-- the octets of a new root, if there is one
abbrev pub named_roots : Option (List ℕ) → List (List ℕ)
named_roots None = []
named_roots (Some octets) = octets ∷ []
