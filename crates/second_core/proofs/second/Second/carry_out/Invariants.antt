use Rattle.std.proofs.Common.{◌≡◌, take}
use Rattle.node_rules.specs.Effects.{in_turn}
use Rattle.node_rules.specs.SecondPlan.{second_item}
use Rattle.second_core.proofs.second.Second.carry_out.Given as goal

abbrev pub invariant-loop-item : goal.invariant-loop-item
invariant-loop-item l =
    in_turn (second_item l.key l.plan) l.initial.self (take l.item-index l.plan.items) ≡ (l.self, l.effects)
