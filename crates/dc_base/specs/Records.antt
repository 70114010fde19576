-- Records between nodes (TS 38.423, 8.3), and what a good plan is.
use Rattle.std.specs.Prelude.{ℕ, ◌+◌, ◌^◌, ◌<◌, ◌≤◌, ⊤, List, [], ◌∷◌, Option, None, Some, IsSome, IsTrue, not}
use Rattle.dc_base.specs.declared.nodes.Node.{Node}
use Rattle.dc_base.specs.declared.records.Item.{Item}
use Rattle.dc_base.specs.declared.records.Item.TheVariants.{Set, Unset}
use Rattle.dc_base.specs.declared.records.Plan.{Plan}
use Rattle.dc_base.specs.declared.records.Rec.{Rec}
use Rattle.dc_base.specs.declared.records.Rec.TheVariants as rec
use Rattle.dc_base.specs.declared.records.RecKind.{RecKind}
use Rattle.dc_base.specs.declared.records.RecKind.TheVariants as kind
use Rattle.dc_base.specs.Nodes.{is_secondary, is_mm}

-- the identity that an item is about
abbrev pub item_id : Item → ℕ
item_id (Set id n first shape threshold policy key old) = id
item_id (Unset id) = id

-- the identities of the items ascend, from this one on
abbrev pub AscendFrom : ℕ → List Item → Type 0
AscendFrom low [] = ⊤
AscendFrom low (item ∷ items) = (low ≤ item_id item) × AscendFrom (item_id item + 1) items

-- an item that has its anchor or a leg at the secondary node finds one
abbrev pub HasItsSecondary : Option Node → Item → Type 0
HasItsSecondary sec (Set id n first shape threshold policy key old) = IsTrue (not (is_mm shape)) → IsSome sec
HasItsSecondary sec (Unset id) = ⊤

-- and so does each of them
abbrev pub HaveTheirSecondary : Option Node → List Item → Type 0
HaveTheirSecondary sec [] = ⊤
HaveTheirSecondary sec (item ∷ items) = HasItsSecondary sec item × HaveTheirSecondary sec items

-- there is no secondary node after the change, or it is one of the two
abbrev pub IsNoneOrSecondary : Option Node → Type 0
IsNoneOrSecondary None = ⊤
IsNoneOrSecondary (Some node) = IsTrue (is_secondary node)

-- a plan as the master draws it
pub record IsGoodPlan (plan : Plan) : Type 0 where
  pub small : plan.g < 2 ^ 24
  pub ascends : AscendFrom 1 plan.items
  pub sec : IsNoneOrSecondary plan.sec
  pub has : HaveTheirSecondary plan.sec plan.items

-- which record it is
abbrev pub kind_of : Rec → RecKind
kind_of (rec.Reconf plan key) = kind.Reconf
kind_of (rec.Rcomp g) = kind.Rcomp
kind_of (rec.Scgf failed) = kind.Scgf
kind_of (rec.Recov id) = kind.Recov
kind_of (rec.Recovd id) = kind.Recovd
kind_of (rec.Addreq plan key) = kind.Addreq
kind_of (rec.Addack g) = kind.Addack
kind_of (rec.Addrej g) = kind.Addrej
kind_of (rec.Modreq plan key) = kind.Modreq
kind_of (rec.Modack g) = kind.Modack
kind_of (rec.Modrej g) = kind.Modrej
kind_of (rec.Recfg g) = kind.Recfg
kind_of (rec.Relreq plan) = kind.Relreq
kind_of (rec.Relack g) = kind.Relack
kind_of (rec.Relrej g) = kind.Relrej
kind_of (rec.Uecr g) = kind.Uecr
kind_of (rec.Snst status) = kind.Snst
kind_of (rec.Moved g id) = kind.Moved
kind_of (rec.Scgn id g) = kind.Scgn
kind_of rec.Modrqd = kind.Modrqd
kind_of (rec.Modcnf g) = kind.Modcnf
kind_of (rec.Modref word) = kind.Modref
kind_of rec.Chgrqd = kind.Chgrqd
kind_of (rec.Chgcnf plan) = kind.Chgcnf
kind_of (rec.Chgref word) = kind.Chgref
kind_of rec.Relrqd = kind.Relrqd
kind_of (rec.Relcnf plan) = kind.Relcnf
