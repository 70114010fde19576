use Rattle.std.proofs.Common.{◌≡◌, ◌++◌}
use Rattle.node_rules.specs.Held.{identities}
use Rattle.master_core.proofs.master.Master.identities.Given as goal

abbrev pub invariant-loop-id : goal.invariant-loop-id
invariant-loop-id l = l.ids ++ identities l.id-iterator ≡ identities l.self.anchors
