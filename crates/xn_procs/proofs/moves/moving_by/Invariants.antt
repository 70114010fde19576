use Rattle.std.proofs.Common.{◌≡◌, take}
use Rattle.std.specs.List.{flat_map}
use Rattle.node_rules.specs.MasterGo.{moving_of}
use Rattle.xn_procs.proofs.moves.moving_by.Given as goal

abbrev pub invariant-loop-item : goal.invariant-loop-item
invariant-loop-item l = l.moving ≡ flat_map (moving_of l.plan.sec) (take l.item-index l.item-items)
