-- What of the bearers of a secondary node is to hold beside a pair, so that each record that comes first to the node fits.
use Rattle.std.specs.List.{AllByRecursion, list_any}
use Rattle.std.specs.Prelude.{List, None, Option, Some, [], fold, is_none, false, true, ℕ, ⊤, ◌+◌, ◌<◌, ◌≡◌}
use Rattle.dc_base.specs.declared.nodes.Node.{Node}
use Rattle.dc_base.specs.declared.records.Rec.{Rec}
use Rattle.dc_base.specs.declared.records.Rec.TheVariants as rec
use Rattle.node_rules.specs.CommandTable.{rows_after}
use Rattle.node_rules.specs.MasterGo.{moving_by}
use Rattle.node_rules.specs.MasterRecords.{is_moving}
use Rattle.node_rules.specs.MasterState.{MasterProc}
use Rattle.node_rules.specs.declared.commands.Command.{Command}
use Rattle.node_rules.specs.declared.commands.Command.TheVariants.{Asked as asked, Gone as gone, Recovering as recovering}
use Rattle.node_rules.specs.declared.commands.Row.{Row}
use Rattle.run_control.specs.Claims.{Stand, agrees, asks, goes_on, refuses, rests}
use Rattle.run_control.specs.SecondControl.{Views, holds_there}
use Rattle.run_control.specs.Views.{View}
use Rattle.run_pairs.specs.Bearers.{AreHeld, IsFitLine}

-- the rows by which a node has its bearers, what of them moves, in which generation, and a bound of the generations that it has
pub record Bearing : Type 0 where
  pub rows : List Row
  pub moving : List (ℕ × Node)
  pub gen : ℕ
  pub below : ℕ

-- what moves by the open command
abbrev pub moving_in : Option Command → List (ℕ × Node)
moving_in None = []
moving_in (Some (asked c first who wanted)) = []
moving_in (Some (gone plan going)) = going.moving
moving_in (Some (recovering id terminal second)) = []

-- in this generation
abbrev pub gen_in : Option Command → ℕ
gen_in None = 0
gen_in (Some (asked c first who wanted)) = 0
gen_in (Some (gone plan going)) = plan.g
gen_in (Some (recovering id terminal second)) = 0

-- by how the open command stands to the node: a node that agreed has what the table is to have, and one that is asked has nothing
-- of the generation of the plan
abbrev pub bearing_by : MasterProc → Option Command → Stand → Bearing
bearing_by m c (agrees first p) = record { rows = fold (rows_after m.table p.g p.sec) m.table.rows p.items; moving = moving_by p; gen = p.g; below = m.table.last + 1 }
bearing_by m c (asks first p) = record { rows = m.table.rows; moving = []; gen = 0; below = p.g }
bearing_by m c (refuses first p) = record { rows = m.table.rows; moving = []; gen = 0; below = m.table.last + 1 }
bearing_by m c rests = record { rows = m.table.rows; moving = moving_in c; gen = gen_in c; below = m.table.last + 1 }
bearing_by m c (goes_on leaves) = record { rows = m.table.rows; moving = moving_in c; gen = gen_in c; below = m.table.last + 1 }

-- a bearer that moves to the node is held, once the node said that it adopted it
abbrev pub IsMovedHeld : Node → Bearing → Views → Rec → Type 0
IsMovedHeld x b at (rec.Moved g id) = g ≡ b.gen → list_any (is_moving id x) b.moving ≡ true → holds_there (at id) ≡ true
IsMovedHeld x b at _ = ⊤

-- a bearer that a node adopted is of a generation below this one
abbrev pub IsMovedBelow : ℕ → Rec → Type 0
IsMovedBelow n (rec.Moved g id) = g < n
IsMovedBelow n _ = ⊤

-- an anchor, if there is one, is of a generation below this one
abbrev pub IsViewBelow : ℕ → Option View → Type 0
IsViewBelow n None = ⊤
IsViewBelow n (Some v) = v.bearer.g < n

-- so of a plan by which the node leaves
abbrev pub IsPlanBelow : ℕ → Rec → Type 0
IsPlanBelow n (rec.Relreq plan) = is_none plan.sec ≡ false → plan.g < n
IsPlanBelow n (rec.Chgcnf plan) = plan.g < n
IsPlanBelow n (rec.Relcnf plan) = plan.g < n
IsPlanBelow n _ = ⊤

-- the bearers of a node, with the whole lines to it and from it
pub record AreFitting (x : Node) (b : Bearing) (at : Views) (down up : List Rec) : Type 0 where
  pub line : IsFitLine x at down
  pub held : AreHeld x at b.moving b.rows
  pub moved : AllByRecursion (IsMovedHeld x b at) up
  pub up_below : AllByRecursion (IsMovedBelow b.below) up
  pub at_below : (k : ℕ) → IsViewBelow b.below (at k)
  pub down_below : AllByRecursion (IsPlanBelow b.below) down
