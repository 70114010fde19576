-- Who holds each bearer, by the past and by the anchors of the nodes.
use Rattle.std.specs.List.{AllByRecursion}
use Rattle.std.specs.Prelude.{List, None, Option, Some, [], false, if◌then◌else◌, ⊤, ℕ, ◌<◌, ◌≡◌, ◌≤◌, ◌∷◌, ◌⊎◌}
use Rattle.dc_base.specs.declared.nodes.Node.{Node}
use Rattle.node_rules.specs.World.{World}
use Rattle.claims.specs.Past.{Bearer, Past}
use Rattle.claims.specs.Reading.{latest}
use Rattle.run_control.specs.SecondControl.{is_holding}
use Rattle.run_control.specs.Views.{View}
use Rattle.run_places.specs.Tokens.{anchors_at}

-- the generation in which an anchor is active
abbrev pub active_in : Option View → Option ℕ
active_in None = None
active_in (Some v) = if is_holding v.stage then Some v.bearer.g else None

-- by the past the node holds the latest establishment of an identity in this generation
pub record IsHolder (p : Past) (id : ℕ) (x : Node) (g : ℕ) : Type 0 where
  pub bearer : Bearer
  pub at : latest p id ≡ Some bearer
  pub holds : bearer.holder ≡ Some (x, g)

-- a node with an active anchor of a bearer is its holder by the past, in the anchor's generation
abbrev pub ActiveHolds : Past → World → ℕ → Type 0
ActiveHolds p w id = (x : Node) (g : ℕ) → active_in (anchors_at x w id) ≡ Some g → IsHolder p id x g

-- where no node has an active anchor, nobody holds the bearer by the past
abbrev pub NoneHolds : Past → World → ℕ → Type 0
NoneHolds p w id = ((x : Node) → active_in (anchors_at x w id) ≡ None) → (b : Bearer) → latest p id ≡ Some b → b.holder ≡ None

-- the holder of a bearer by the past is the node whose anchor is active
pub record HasHolder (p : Past) (w : World) (id : ℕ) : Type 0 where
  pub active : ActiveHolds p w id
  pub none : NoneHolds p w id

-- an earlier establishment of this identity is held by nobody
abbrev pub IsFreeBehind : ℕ → Bearer → Type 0
IsFreeBehind id b = b.id ≡ id → b.holder ≡ None

-- so is each that is not the latest of its identity
abbrev pub AreFreeBehind : List Bearer → Type 0
AreFreeBehind [] = ⊤
AreFreeBehind (b ∷ bs) = AllByRecursion (IsFreeBehind b.id) bs × AreFreeBehind bs

-- the generation of the last `own` of an establishment: that of the holder, if there is one; none before the first, and no other one
-- before the establishment, nor past the generation drawn last
pub record HasOwned (last : ℕ) (b : Bearer) : Type 0 where
  pub held : (x : Node) (g : ℕ) → b.holder ≡ Some (x, g) → b.owned ≡ g
  pub since : (b.owned ≡ 0) ⊎ (b.g ≤ b.owned)
  pub upto : b.owned ≤ last

-- so of each
abbrev pub HaveOwned : Past → Type 0
HaveOwned p = AllByRecursion (HasOwned p.table.last) p.bearers

-- while an anchor of the bearer waits in a generation, the last `own` was of an earlier one
abbrev pub OwnedBefore : Past → World → ℕ → Type 0
OwnedBefore p w id =
    (x : Node) (v : View) (b : Bearer) → anchors_at x w id ≡ Some v → is_holding v.stage ≡ false → latest p id ≡ Some b → b.owned < v.bearer.g
