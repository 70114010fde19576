use Rattle.node_rules.specs.Choices.{by_policies}
use Rattle.split_leg.specs.Stored.{margins}
use Rattle.dc_network.proofs.Keeping.{kept_within}
use Rattle.dc_network.proofs.world.World.event.Goals as goal

pub returns : goal.returns
returns g c =
    let first = rw c.in_ok-copy.ensures at c.in_ok-push.ensures.ok in
    kept_within (by_policies (margins c.args.policies.now)) c.self.inside.network c.self.inside.lines c.args.self.now c.args.event c.event.new.self (record { event = c.args.event; answer = c.in_ok-answer.field-0.answer; lines = c.in_ok-answer.field-0.lines }) c.push.new.self c.push-2.new.self c.append.new.self c.self.view_is c.in_ok-answer.ensures first c.in_ok-push-2.ensures.ok c.in_ok-append.ensures
