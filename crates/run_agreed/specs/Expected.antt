-- What is needed besides agreement, for each record to have its row where it comes: of the bearers at a secondary node, and of the
-- link to the master.
use Rattle.std.specs.List.{AllByRecursion, list_any}
use Rattle.std.specs.Prelude.{List, None, Option, Some, false, find, true, ℕ, ⊤, ◌==◌, ◌≡◌}
use Rattle.dc_base.specs.Nodes.{is_same_node, is_secondary}
use Rattle.dc_base.specs.declared.events.Event.{Event}
use Rattle.dc_base.specs.declared.events.Header.{Header}
use Rattle.dc_base.specs.declared.nodes.Node.{Node}
use Rattle.dc_base.specs.declared.nodes.Node.TheVariants.{M, T}
use Rattle.dc_base.specs.declared.records.Item.{Item}
use Rattle.dc_base.specs.declared.records.Item.TheVariants as item
use Rattle.dc_base.specs.declared.records.Plan.{Plan}
use Rattle.dc_base.specs.declared.records.Rec.{Rec}
use Rattle.dc_base.specs.declared.records.Rec.TheVariants as rec
use Rattle.node_rules.specs.Choices.{Choices}
use Rattle.node_rules.specs.MasterRecords.{is_moving}
use Rattle.node_rules.specs.Run.{world_after}
use Rattle.node_rules.specs.SecondStep.{plan_in, recovery_in}
use Rattle.node_rules.specs.World.{World, new_world}
use Rattle.node_rules.specs.declared.commands.Command.{Command}
use Rattle.node_rules.specs.declared.commands.Command.TheVariants.{Asked as asked, Gone as gone, Recovering as recovering}
use Rattle.node_rules.specs.declared.commands.First.TheVariants.{Addition as addition, Modification as modification, Release as release}
use Rattle.run_control.specs.Claims.{Agrees, FirstIs, second_at}
use Rattle.run_control.specs.Links.{records_on}
use Rattle.run_control.specs.SecondControl.{Views, holds_like, holds_there}
use Rattle.run_control.specs.Sound.{AreSound}
use Rattle.run_control.specs.Views.{second_view}
use Rattle.run_control.specs.Wants.{IsAskedFor}

-- ---- agreement in each state of each run

-- each secondary node agrees with the master
abbrev pub AgreesAlways : Choices → Header → Type 0
AgreesAlways c h = (es : List Event) → AreSound es → (x : Node) → is_secondary x ≡ true → Agrees (world_after c (new_world h) es) x

-- ---- bearers at a secondary node

-- where the item has its old anchor at the node, that has the bearer, of this SN length and first COUNT
abbrev pub ItemFitsThere : Node → Views → Item → Type 0
ItemFitsThere x views (item.Set id n first shape threshold policy key None) = ⊤
ItemFitsThere x views (item.Set id n first shape threshold policy key (Some old)) = is_same_node old x ≡ true → holds_like n first (views id) ≡ true
ItemFitsThere x views (item.Unset id) = ⊤

-- so of each item of a plan that comes first
abbrev pub PlanFitsThere : Node → Views → Option Plan → Type 0
PlanFitsThere x views None = ⊤
PlanFitsThere x views (Some p) = AllByRecursion (ItemFitsThere x views) p.items

-- the anchor of a bearer that is to recover has the bearer
abbrev pub RecoveryFitsThere : Views → Option ℕ → Type 0
RecoveryFitsThere views None = ⊤
RecoveryFitsThere views (Some id) = holds_there (views id) ≡ true

-- the first record from the master presupposes no bearer that the node does not have
pub record BearersFitThere (w : World) (x : Node) : Type 0 where
  pub plan : FirstIs (λ r. PlanFitsThere x (second_view (second_at x w)) (plan_in r)) (records_on M x w)
  pub recovery : FirstIs (λ r. RecoveryFitsThere (second_view (second_at x w)) (recovery_in r)) (records_on M x w)

-- ---- the link to the master

-- the open command is the recovery of this bearer, and waits for this node
abbrev pub IsRecovery : Node → ℕ → Option Command → Type 0
IsRecovery x id None = ⊥
IsRecovery x id (Some (asked c first who wanted)) = ⊥
IsRecovery x id (Some (gone plan going)) = ⊥
IsRecovery x id (Some (recovering i terminal second)) = (i ≡ id) × (second ≡ Some x)

-- a record from a secondary node is an acknowledge or a rejection of what is asked for, the acknowledge of a release, which may come
-- late, a request, or of bearers under way
abbrev pub IsAwaited : Node → Option Command → Rec → Type 0
IsAwaited x o (rec.Addack g) = IsAskedFor addition x g o
IsAwaited x o (rec.Addrej g) = IsAskedFor addition x g o
IsAwaited x o (rec.Modack g) = IsAskedFor modification x g o
IsAwaited x o (rec.Modrej g) = IsAskedFor modification x g o
IsAwaited x o (rec.Relack g) = ⊤
IsAwaited x o (rec.Relrej g) = IsAskedFor release x g o
IsAwaited x o (rec.Recovd id) = ⊤
IsAwaited x o (rec.Snst status) = ⊤
IsAwaited x o (rec.Moved g id) = ⊤
IsAwaited x o rec.Modrqd = ⊤
IsAwaited x o rec.Chgrqd = ⊤
IsAwaited x o rec.Relrqd = ⊤
IsAwaited x o _ = ⊥

-- so of each record on the link
abbrev pub AwaitedAlone : World → Node → Type 0
AwaitedAlone w x = AllByRecursion (IsAwaited x w.master.proc.command) (records_on x M w)

-- the new anchor of a bearer that moves is not this node
abbrev pub IsElsewhere : Node → Option (ℕ × Node) → Type 0
IsElsewhere x None = ⊥
IsElsewhere x (Some y) = (is_same_node x y.1 ≡ false) × (is_same_node T y.1 ≡ false)

-- what else stands there: the news of a recovery that is waited for, a status transfer of a bearer that the open command moves away
-- from this node, and that of an adoption of one that it moves to it
abbrev pub IsUnderWay : Node → Option Command → Rec → Type 0
IsUnderWay x o (rec.Recovd id) = IsRecovery x id o
IsUnderWay x (Some (gone p going)) (rec.Snst status) = (p.g ≡ status.g) × IsElsewhere x (find (λ (y : ℕ × Node). y.0 == status.id) going.moving)
IsUnderWay x (Some (gone p going)) (rec.Moved g id) = (p.g ≡ g) × (list_any (is_moving id x) going.moving ≡ true)
IsUnderWay x _ (rec.Snst status) = ⊥
IsUnderWay x _ (rec.Moved g id) = ⊥
IsUnderWay x _ _ = ⊤

-- so of the first record on the link
abbrev pub UnderWay : World → Node → Type 0
UnderWay w x = FirstIs (IsUnderWay x w.master.proc.command) (records_on x M w)
