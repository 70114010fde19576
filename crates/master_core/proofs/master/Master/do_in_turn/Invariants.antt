use Rattle.std.proofs.Common.{◌≡◌}
use Rattle.node_rules.specs.Choices.{by_policies}
use Rattle.node_rules.specs.Effects.{in_turn}
use Rattle.node_rules.specs.MasterPlan.{master_did}
use Rattle.split_leg.specs.Stored.{margins}
use Rattle.master_core.proofs.master.Master.do_in_turn.Given as goal

abbrev pub invariant-loop-act : goal.invariant-loop-act
invariant-loop-act g l =
    in_turn (master_did (by_policies (margins l.policies))) l.initial.self l.yielded ≡ (l.self, l.effects)
