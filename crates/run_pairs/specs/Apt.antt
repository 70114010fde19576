-- What holds of the master's procedures in each state: the anchors of its table, and the nodes that its open command speaks of.
use Rattle.std.specs.List.{AllByRecursion}
use Rattle.std.specs.Prelude.{Bool, List, None, Option, Some, false, find, true, ℕ, ⊤, ◌==◌, ◌≡◌}
use Rattle.dc_base.specs.Nodes.{is_mm, is_secondary}
use Rattle.dc_base.specs.declared.nodes.Node.{Node}
use Rattle.dc_base.specs.declared.nodes.Node.TheVariants.{A, B, M, T}
use Rattle.node_rules.specs.CommandTable.{Table, carried}
use Rattle.node_rules.specs.MasterState.{MasterProc}
use Rattle.node_rules.specs.Places.{is_at, other_second}
use Rattle.node_rules.specs.declared.commands.Change.{Change}
use Rattle.node_rules.specs.declared.commands.Command.{Command}
use Rattle.node_rules.specs.declared.commands.Command.TheVariants.{Asked as asked, Gone as gone, Recovering as recovering}
use Rattle.node_rules.specs.declared.commands.First.{First}
use Rattle.node_rules.specs.declared.commands.First.TheVariants.{Addition as addition, Modification as modification, Release as release}
use Rattle.node_rules.specs.declared.commands.Going.{Going}
use Rattle.node_rules.specs.declared.commands.Row.{Row}
use Rattle.run_control.specs.Books.{RowsFrom}
use Rattle.run_control.specs.Sound.{IsSecond}
use Rattle.run_pairs.specs.Bearers.{IsOfTable}

-- ---- anchors

-- a node is the secondary node of this table, if it is one
abbrev pub IsPlaced : Option Node → Node → Type 0
IsPlaced sec T = ⊤
IsPlaced sec M = ⊤
IsPlaced sec A = is_at A sec ≡ true
IsPlaced sec B = is_at B sec ≡ true

-- the anchor of a row is there; that of a bearer of the master alone is at the master
abbrev pub IsPlacedRow : Option Node → Option Row → Type 0
IsPlacedRow sec None = ⊤
IsPlacedRow sec (Some r) = IsPlaced sec r.anchor × (is_mm r.shape ≡ true → r.anchor ≡ M)

-- of each identity
abbrev pub ArePlaced : Option Node → List Row → Type 0
ArePlaced sec rows = (id : ℕ) → IsPlacedRow sec (find (λ r. r.id == id) rows)

-- ---- the open command

-- the node that is asked, the secondary node of the plan and that of the table
abbrev pub IsAskedAs : First → Node → Bool → Option Node → Option Node → Type 0
IsAskedAs addition who wanted after before = (after ≡ Some who) × (is_secondary who ≡ true) × (is_at who before ≡ false) × (wanted ≡ true → before ≡ Some (other_second who))
IsAskedAs modification who wanted after before = (after ≡ Some who) × (before ≡ Some who)
IsAskedAs release who wanted after before = (after ≡ None) × (before ≡ Some who)

-- a plan that awaits its agreement
pub record IsAptAsked (t : Table) (c : Change) (first : First) (who : Node) (wanted : Bool) : Type 0 where
  pub fresh : c.plan.g ≡ t.last
  pub nodes : IsAskedAs first who wanted c.plan.sec t.sec
  pub rows : ArePlaced c.plan.sec (carried t c).rows
  pub items : IsOfTable t.rows c.plan.items

-- the node that is to hear of the completion is the secondary node
abbrev pub IsDueAt : Option Node → Option Node → Type 0
IsDueAt None sec = ⊤
IsDueAt (Some x) sec = sec ≡ Some x

-- the node that leaves is not
abbrev pub IsLeavingFrom : Option Node → Option Node → Type 0
IsLeavingFrom None sec = ⊤
IsLeavingFrom (Some x) sec = is_at x sec ≡ false

-- a plan that was carried out
pub record IsAptGone (sec : Option Node) (going : Going) : Type 0 where
  pub due : IsDueAt going.due sec
  pub leaving : IsLeavingFrom going.leaving sec
  pub moving : AllByRecursion (λ (x : ℕ × Node). IsPlaced sec x.1) going.moving

-- the command
abbrev pub IsAptCommand : Table → Option Command → Type 0
IsAptCommand t None = ⊤
IsAptCommand t (Some (asked c first who wanted)) = IsAptAsked t c first who wanted
IsAptCommand t (Some (gone plan going)) = (t.sec ≡ plan.sec) × IsAptGone t.sec going
IsAptCommand t (Some (recovering id terminal second)) = ⊤

-- the state
pub record IsApt (m : MasterProc) : Type 0 where
  pub second : IsSecond m.table.sec
  pub rows : ArePlaced m.table.sec m.table.rows
  pub up : RowsFrom 0 m.table.rows
  pub command : IsAptCommand m.table m.command
