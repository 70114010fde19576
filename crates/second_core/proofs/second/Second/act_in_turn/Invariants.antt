use Rattle.std.proofs.Common.{◌≡◌}
use Rattle.node_rules.specs.Choices.{by_policies}
use Rattle.node_rules.specs.Effects.{in_turn}
use Rattle.node_rules.specs.SecondPlan.{second_act}
use Rattle.split_leg.specs.Stored.{margins}
use Rattle.second_core.proofs.second.Second.act_in_turn.Given as goal

abbrev pub invariant-loop-act : goal.invariant-loop-act
invariant-loop-act g l =
    in_turn (second_act (by_policies (margins l.policies)) l.key) l.initial.self l.yielded ≡ (l.self, l.effects)
