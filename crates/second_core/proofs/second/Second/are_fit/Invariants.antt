use Rattle.std.proofs.Common.{◌≡◌, take, false}
use Rattle.std.specs.List.{list_any}
use Rattle.node_rules.specs.SecondStep.{is_unfit}
use Rattle.second_core.proofs.second.Second.are_fit.Given as goal

abbrev pub invariant-loop-item : goal.invariant-loop-item
invariant-loop-item l = list_any (is_unfit l.self) (take l.item-index l.items) ≡ false
