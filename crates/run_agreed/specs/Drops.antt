-- A drop that is asked of a secondary node is not rejected.
use Rattle.std.specs.List.{AllByRecursion, list_any}
use Rattle.std.specs.Prelude.{Bool, List, None, Option, Some, false, true, ℕ, ⊤, ◌==◌, ◌≡◌, ◌≤◌}
use Rattle.dc_base.specs.Nodes.{is_secondary}
use Rattle.dc_base.specs.declared.nodes.Node.{Node}
use Rattle.dc_base.specs.declared.nodes.Node.TheVariants.{M}
use Rattle.dc_base.specs.declared.records.Item.{Item}
use Rattle.dc_base.specs.declared.records.Plan.{Plan}
use Rattle.dc_base.specs.declared.records.Rec.{Rec}
use Rattle.dc_base.specs.declared.records.Rec.TheVariants as rec
use Rattle.node_rules.specs.SecondRecords.{is_one_drop}
use Rattle.node_rules.specs.World.{World}
use Rattle.node_rules.specs.declared.commands.Change.{Change}
use Rattle.node_rules.specs.declared.commands.Command.{Command}
use Rattle.node_rules.specs.declared.commands.Command.TheVariants.{Asked as asked, Gone as gone, Recovering as recovering}
use Rattle.node_rules.specs.declared.commands.First.{First}
use Rattle.node_rules.specs.declared.commands.First.TheVariants.{Addition as addition, Modification as modification, Release as release}
use Rattle.run_control.specs.Links.{records_on}
use Rattle.run_agreed.specs.Lines.{Pair}

-- the plan that awaits its agreement
abbrev pub asked_plan : Option Command → Option Plan
asked_plan None = None
asked_plan (Some (asked c first who wanted)) = Some c.plan
asked_plan (Some (gone plan going)) = None
asked_plan (Some (recovering id terminal second)) = None

-- this is so of that plan, if it is of this generation
abbrev pub OfAsked : (Plan → Type 0) → ℕ → Option Plan → Type 0
OfAsked P g None = ⊤
OfAsked P g (Some p) = p.g ≡ g → P p

-- the plan for which a record asks for a modification
abbrev pub modification_in : Rec → Option Plan
modification_in (rec.Modreq p key) = Some p
modification_in _ = None

-- it is the one that was drawn with its generation
abbrev pub IsDrawnPlan : ℕ → Option Plan → Option Plan → Type 0
IsDrawnPlan last o None = ⊤
IsDrawnPlan last o (Some p) = (p.g ≤ last) × OfAsked (λ q. q ≡ p) p.g o

-- so of each request for a modification
abbrev pub RequestFits : ℕ → Option Plan → Rec → Type 0
RequestFits last o r = IsDrawnPlan last o (modification_in r)

-- the generation of the modification that a record rejects
abbrev pub rejected_in : Rec → Option ℕ
rejected_in (rec.Modrej g) = Some g
rejected_in _ = None

-- it was no drop
abbrev pub IsNoDrop : ℕ → Option Plan → Option ℕ → Type 0
IsNoDrop last o None = ⊤
IsNoDrop last o (Some g) = (g ≤ last) × OfAsked (λ q. is_one_drop q.items ≡ false) g o

-- so of each rejection of a modification
abbrev pub RejectionFits : ℕ → Option Plan → Rec → Type 0
RejectionFits last o r = IsNoDrop last o (rejected_in r)

-- a drop is asked for by a modification
abbrev pub IsDropFirst : First → List Item → Type 0
IsDropFirst addition items = is_one_drop items ≡ false
IsDropFirst modification items = ⊤
IsDropFirst release items = is_one_drop items ≡ false

-- by the open command
abbrev pub DropsByModification : Option Command → Type 0
DropsByModification None = ⊤
DropsByModification (Some (asked c first who wanted)) = IsDropFirst first c.plan.items
DropsByModification (Some (gone plan going)) = ⊤
DropsByModification (Some (recovering id terminal second)) = ⊤

-- what is kept of a pair
pub record DropStands (a : Pair) : Type 0 where
  pub requests : AllByRecursion (RequestFits a.m.table.last (asked_plan a.m.command)) a.down
  pub rejections : AllByRecursion (RejectionFits a.m.table.last (asked_plan a.m.command)) a.up
  pub first : DropsByModification a.m.command

-- the record rejects the modification of a generation
abbrev pub is_modrej : ℕ → Rec → Bool
is_modrej g (rec.Modrej h) = h == g
is_modrej g _ = false

-- where the open command asks for the drop of a bearer, by a modification, no rejection of that stands on a link to the master
abbrev pub NoDropRefused : World → Type 0
NoDropRefused w = (x : Node) → is_secondary x ≡ true → (c : Change) (first : First) (who : Node) (wanted : Bool) → w.master.proc.command ≡ Some (asked c first who wanted)
    → is_one_drop c.plan.items ≡ true → (first ≡ modification) × (list_any (is_modrej c.plan.g) (records_on x M w) ≡ false)
