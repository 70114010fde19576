-- A first record that the master sends (TS 38.423, 8.3.1, 8.3.3 and 8.3.6).
use Rattle.std.specs.Prelude.{Bool, Some, [], ◌∷◌}
use Rattle.dc_base.specs.declared.nodes.Node.{Node}
use Rattle.node_rules.specs.declared.acts.Act.TheVariants.{Send as send}
use Rattle.node_rules.specs.declared.commands.Change.{Change}
use Rattle.node_rules.specs.declared.commands.Command.TheVariants.{Asked as asked}
use Rattle.node_rules.specs.declared.commands.First.{First}
use Rattle.node_rules.specs.MasterGo.{first_record}
use Rattle.node_rules.specs.MasterState.{MasterActs, MasterProc}

-- the command waits for the answer of this node
abbrev pub asks : MasterProc → Change → First → Node → Bool → MasterActs
asks m c first who wanted = (
  record m { command = Some (asked c first who wanted) },
  send who (first_record m.table.book.roots first c) ∷ [],
)
