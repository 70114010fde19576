use Rattle.std.proofs.Common.{◌≡◌, ℕ, take}
use Rattle.std.specs.List.{flat_map}
use Rattle.node_rules.specs.CommandTable.{row}
use Rattle.node_rules.specs.MasterRecords.{failing}
use Rattle.xn_procs.proofs.master.MasterProc.take_failed_legs.Given as goal

abbrev pub invariant-loop-id : goal.invariant-loop-id
invariant-loop-id l = l.made ≡ flat_map (λ (x : ℕ × ℕ). failing x.0 x.1 (row l.self.table x.0)) (take l.id-index l.failed)
