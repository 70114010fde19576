use Rattle.std.proofs.Common.{◌≡◌, fold, take}
use Rattle.node_rules.specs.CommandTable.{rows_after}
use Rattle.command_table.proofs.table.CommandTable.rows_after.Given as goal

abbrev pub invariant-loop-item : goal.invariant-loop-item
invariant-loop-item l = l.rows.items ≡ fold (rows_after l.self l.plan.g l.plan.sec) l.self.rows (take l.item-index l.item-items)
