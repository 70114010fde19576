use Rattle.std.proofs.Common.{◌≡◌, filter, not, take}
use Rattle.node_rules.specs.MasterRecords.{is_moving}
use Rattle.xn_procs.proofs.master.moves.still_moving.Given as goal

abbrev pub invariant-loop-moved : goal.invariant-loop-moved
invariant-loop-moved l = l.still ≡ filter (λ y. not (is_moving l.id l.node y)) (take l.moved-index l.moving)
