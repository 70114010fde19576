-- How plans lay bearers out.
use Rattle.std.specs.Prelude.{List, [], false, true, ◌∷◌, ⊤, ℕ, ◌==◌, ◌<◌, ◌^◌, ◌≡◌}
use Rattle.std.specs.List.{AllByRecursion}
use Rattle.dc_base.specs.Records.{item_id}
use Rattle.dc_base.specs.declared.nodes.Node.{Node}
use Rattle.dc_base.specs.declared.nodes.Shape.{Shape}
use Rattle.dc_base.specs.declared.numbers.SnLen.{SnLen}
use Rattle.dc_base.specs.declared.records.Item.{Item}
use Rattle.dc_base.specs.declared.records.Item.TheVariants.{Set, Unset}
use Rattle.dc_base.specs.declared.records.Plan.{Plan}
use Rattle.dc_base.specs.declared.records.Rec.{Rec}
use Rattle.dc_base.specs.declared.records.Rec.TheVariants as rec
use Rattle.node_rules.specs.Places.{anchor_at, is_host_at}
use Rattle.run_confirmed.specs.Nodes.{IsNameable}
use Rattle.run_confirmed.specs.Stories.{Layout}

-- a bearer is set up where the layout says, with SNs of its length, under an identity and a generation that a TEID names
pub record IsLaidOut (layout : Layout) (p : Plan) (id : ℕ) (n : SnLen) (first : ℕ) (shape : Shape) : Type 0 where
  pub home : layout.home id p.g ≡ anchor_at p.sec shape
  pub host : (y : Node) → is_host_at p.sec shape y ≡ true → layout.host id p.g ≡ y
  pub same_n : n ≡ layout.n id p.g
  pub named : IsNameable id p.g
  pub small : first < 2 ^ 32

-- an item sets its bearer up so
abbrev pub SetsAsLaidOut : Layout → Plan → Item → Type 0
SetsAsLaidOut layout p (Set id n first shape threshold policy key old) = IsLaidOut layout p id n first shape
SetsAsLaidOut layout p (Unset id) = ⊤

-- each item of a plan does
abbrev pub LaysOut : Layout → Plan → Type 0
LaysOut layout p = AllByRecursion (SetsAsLaidOut layout p) p.items

-- a plan is carried out in a generation of which this is so, and lays its bearers out so
abbrev pub IsFit : Layout → (ℕ → Type 0) → Plan → Type 0
IsFit layout fresh p = fresh p.g × LaysOut layout p

-- the plan of a record for a secondary node is; a release of generation 0 is none; a status transfer has a COUNT of 32 bits
abbrev pub IsFitRecord : Layout → (ℕ → Type 0) → Rec → Type 0
IsFitRecord layout fresh (rec.Addreq plan key) = IsFit layout fresh plan
IsFitRecord layout fresh (rec.Modreq plan key) = IsFit layout fresh plan
IsFitRecord layout fresh (rec.Relreq plan) = IsFit layout fresh plan
IsFitRecord layout fresh (rec.Chgcnf plan) = IsFit layout fresh plan
IsFitRecord layout fresh (rec.Relcnf plan) = (plan.g == 0) ≡ false → IsFit layout fresh plan
IsFitRecord layout fresh (rec.Snst status) = status.dl < 2 ^ 32
IsFitRecord layout fresh _ = ⊤

-- items are of different identities
abbrev pub AreApart : List Item → Type 0
AreApart [] = ⊤
AreApart (i ∷ items) = AllByRecursion (λ (j : Item). (item_id i == item_id j) ≡ false) items × AreApart items

-- the plan of a record for the terminal is so, and its items are of different identities
abbrev pub IsFitOrder : Layout → (ℕ → Type 0) → Rec → Type 0
IsFitOrder layout fresh (rec.Reconf plan key) = IsFit layout fresh plan × AreApart plan.items
IsFitOrder layout fresh _ = ⊤
