-- A status transfer that the master passes on (TS 38.423, 8.2.2).
use Rattle.std.specs.Prelude.{Ok, Result, [], if◌then◌else◌, ◌∷◌}
use Rattle.dc_base.specs.Nodes.{is_same_node}
use Rattle.dc_base.specs.declared.nodes.Node.{Node}
use Rattle.dc_base.specs.declared.records.Rec.TheVariants as rec
use Rattle.dc_base.specs.declared.records.RecKind.TheVariants as kind
use Rattle.dc_base.specs.declared.records.StatusTransfer.{StatusTransfer}
use Rattle.node_rules.specs.Acts.{ProcFault}
use Rattle.node_rules.specs.declared.acts.Act.TheVariants.{Send as send}
use Rattle.node_rules.specs.MasterRecords.{no_row}
use Rattle.node_rules.specs.MasterState.{MasterActs, MasterProc}

-- to a secondary node, which did not send it
abbrev pub passed_on : MasterProc → StatusTransfer → Node → Node → Result MasterActs ProcFault
passed_on m s from to = if is_same_node from to then no_row kind.Snst else Ok (m, send to (rec.Snst s) ∷ [])
