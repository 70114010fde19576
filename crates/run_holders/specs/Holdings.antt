-- What of the past says who holds each bearer.
use Rattle.std.specs.Option.{option_and_then}
use Rattle.std.specs.Prelude.{List, None, Option, Some, [], find, fold, if◌then◌else◌, map, nat_le, nat_lt, ℕ, ◌&&◌, ◌==◌, ◌∷◌}
use Rattle.dc_base.specs.declared.nodes.Node.{Node}
use Rattle.dc_base.specs.declared.records.Item.{Item}
use Rattle.dc_base.specs.declared.records.Item.TheVariants.{Set, Unset}
use Rattle.claims.specs.Past.{Bearer, Past}
use Rattle.claims.specs.Reading.{Setting, holds_any}

-- an establishment: its name and identity, who holds it in which generation, and the generation of the last `own`
pub record Holding : Type 0 where
  pub g : ℕ
  pub id : ℕ
  pub holder : Option (Node × ℕ)
  pub owned : ℕ

-- what the past has of an establishment
abbrev pub holding_of : Bearer → Holding
holding_of b = record { g = b.g; id = b.id; holder = b.holder; owned = b.owned }

-- of all, the latest first
abbrev pub holdings : Past → List Holding
holdings p = map holding_of p.bearers

-- the latest of an identity
abbrev pub latest_in : ℕ → List Holding → Option Holding
latest_in id hs = find (λ (h : Holding). h.id == id) hs

-- the latest that was drawn by a generation, if that sets the identity
abbrev pub named_in : ℕ → ℕ → Option Setting → List Holding → Option Holding
named_in id g None hs = None
named_in id g (Some s) hs = find (λ (h : Holding). (h.id == id) && nat_le h.g g) hs

-- who holds the latest of an identity
abbrev pub holder_in : ℕ → List Holding → Option (Node × ℕ)
holder_in id hs = option_and_then (λ (h : Holding). h.holder) (latest_in id hs)

-- ---- changing an establishment

-- the one of this name, changed
abbrev pub on_named : ℕ → (Holding → Holding) → List Holding → List Holding
on_named g f hs = map (λ (h : Holding). if h.g == g then f h else h) hs

-- the one that was found, changed
abbrev pub changed_in : (Holding → Holding) → List Holding → Option Holding → List Holding
changed_in f hs None = hs
changed_in f hs (Some h) = on_named h.g f hs

-- the latest of an identity, changed
abbrev pub on_latest : ℕ → (Holding → Holding) → List Holding → List Holding
on_latest id f [] = []
on_latest id f (h ∷ hs) = if h.id == id then f h ∷ hs else h ∷ on_latest id f hs

-- the node holds it in this generation
abbrev pub taken_by : Node → ℕ → Holding → Holding
taken_by x g h = record h { holder = Some (x, g); owned = g }

-- the node holds it no more
abbrev pub let_go : Node → Holding → Holding
let_go x h = if holds_any x h.holder then record h { holder = None } else h

-- a new one, which nobody holds
abbrev pub new_holding : ℕ → ℕ → Holding
new_holding g id = record { g = g; id = id; holder = None; owned = 0 }

-- the one that an item establishes, and the earlier ones
abbrev pub with_new : ℕ → List Holding → Item → List Holding
with_new g hs (Set id n first shape threshold policy key None) = new_holding g id ∷ hs
with_new g hs (Set id n first shape threshold policy key (Some old)) = hs
with_new g hs (Unset id) = hs

-- of an identity that an item drops in this generation, the node holds none that was drawn before
abbrev pub dropped_by : Node → ℕ → Holding → Item → Holding
dropped_by x g h (Set id n first shape threshold policy key old) = h
dropped_by x g h (Unset id) = if (h.id == id) && nat_lt h.g g then let_go x h else h

-- by each of several items
abbrev pub dropped_all : Node → ℕ → List Item → List Holding → List Holding
dropped_all x g items hs = fold (λ (us : List Holding) (i : Item). map (λ (h : Holding). dropped_by x g h i) us) hs items
