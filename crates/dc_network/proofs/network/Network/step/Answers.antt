use Rattle.std.proofs.Common.{◌≡◌, ◌&&◌, false, rules}
use Rattle.std.specs.Prelude.{nat_lt}
use Rattle.dc_base.specs.Links.{is_ordered}
use Rattle.node_rules.specs.Choices.{by_policies}
use Rattle.split_leg.specs.Stored.{margins}
use Rattle.dc_network.proofs.Moves.{step_given}
use Rattle.dc_network.proofs.network.Network.step.Goals as goal
use Rattle.dc_network.proofs.network.Network.step.Goals.{else-is_ordered-via-then-is_ordered+else-index-gt0, else-is_ordered-via-else-is_ordered}

pub returns : goal.returns
returns g c =
    let in_turn : (is_ordered c.args.link.class && nat_lt 0 c.args.index) ≡ false =
    elim c.else-is_ordered.branch [ else-is_ordered-via-then-is_ordered+else-index-gt0 w ↦ search rules | else-is_ordered-via-else-is_ordered w ↦ search rules ] in
    rw (← c.self.view_is) (step_given (by_policies (margins c.args.policies.now)) _ c.args.link c.args.index c.take-flight.result c.take-flight.new.self c.in_ok-weight.weight c.give.new.self c.give.result c.take-flight.ensures.flight in_turn c.take-flight.ensures.rest c.in_ok-weight.ensures c.if-is_aged_for.ensures c.give.ensures)
