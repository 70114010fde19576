-- What the master's procedures hold: the command table, the command that is open, and the releases that were asked for.
use Rattle.std.specs.List.{list_any}
use Rattle.std.specs.Prelude.{Bool, List, None, Option, Some, false, is_some, not, ℕ, ◌&&◌, ◌==◌}
use Rattle.dc_base.specs.declared.nodes.Node.{Node}
use Rattle.dc_base.specs.declared.nodes.Node.TheVariants.{A, B, M, T}
use Rattle.dc_base.specs.declared.records.Item.{Item}
use Rattle.dc_base.specs.declared.records.Item.TheVariants as item
use Rattle.dc_base.specs.declared.records.Plan.{Plan}
use Rattle.transcript.specs.Bearers.{change}
use Rattle.node_rules.specs.declared.acts.Act.{Act}
use Rattle.node_rules.specs.declared.commands.Change.{Change}
use Rattle.node_rules.specs.CommandTable.{Table, new_table, row}
use Rattle.node_rules.specs.declared.commands.First.{First}
use Rattle.node_rules.specs.declared.commands.Going.{Going}
use Rattle.node_rules.specs.declared.commands.Command.{Command}
use Rattle.node_rules.specs.declared.commands.Command.TheVariants.{Asked as asked, Gone as gone, Recovering as recovering}

-- `a_waits`, `b_waits`: that node asked for its release, and has no answer (this product's own)
pub record MasterProc : Type 0 where
  pub table : Table
  pub command : Option Command
  pub a_waits : Bool
  pub b_waits : Bool

-- the state with what the node has to do (this product's own)
abbrev pub MasterActs : Type 0
MasterActs = MasterProc × List Act

-- the state before the first command (this product's own)
abbrev pub new_master_proc : ℕ → List ℕ → MasterProc
new_master_proc used root = record { table = new_table used root; command = None; a_waits = false; b_waits = false }

-- the generation of a plan is being established or dropped by an item for this identity (this product's own)
abbrev pub is_unsettled_by : ℕ → Item → Bool
is_unsettled_by id (item.Set i n first shape threshold policy key None) = i == id
is_unsettled_by id (item.Set i n first shape threshold policy key (Some old)) = false
is_unsettled_by id (item.Unset i) = i == id

-- the open command sets the bearer up or drops it (this product's own)
abbrev pub is_unsettled : ℕ → Option Command → Bool
is_unsettled id None = false
is_unsettled id (Some (asked c first who wanted)) = list_any (is_unsettled_by id) c.plan.items
is_unsettled id (Some (gone plan going)) = list_any (is_unsettled_by id) plan.items
is_unsettled id (Some (recovering i terminal second)) = false

-- the bearer is established, and no command drops it (this product's own)
abbrev pub has_bearer : MasterProc → ℕ → Bool
has_bearer m id = is_some (row m.table id) && not (is_unsettled id m.command)

-- the release that a node asked for waits (this product's own)
abbrev pub waits_at : MasterProc → Node → Bool
waits_at m A = m.a_waits
waits_at m B = m.b_waits
waits_at m M = false
waits_at m T = false

-- a node's request waits from now on, or does no longer (this product's own)
abbrev pub with_waits : Bool → Node → MasterProc → MasterProc
with_waits w A m = record m { a_waits = w }
with_waits w B m = record m { b_waits = w }
with_waits w M m = m
with_waits w T m = m
