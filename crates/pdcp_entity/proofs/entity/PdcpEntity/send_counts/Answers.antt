use Rattle.node_rules.specs.Choices.{by_policies}
use Rattle.split_leg.specs.Stored.{margins}
use Rattle.pdcp_entity.proofs.Sends.{sent_more}
use Rattle.pdcp_entity.proofs.entity.PdcpEntity.send_counts.Goals as goal

pub loop-count-preserved : goal.loop-count-preserved
loop-count-preserved g c =
    sent_more (by_policies (margins c.args.policies.now)) c.args.self.now c.loop-count.self c.send_if_kept.new.self c.loop-count.put c.send_if_kept.new.put c.args.send.now c.loop-count.count-index
    c.loop-count-test.true c.loop-count.invariant c.in_ok-send_if_kept.ensures.entity c.in_ok-send_if_kept.ensures.put
