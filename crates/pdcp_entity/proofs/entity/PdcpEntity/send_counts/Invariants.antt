use Rattle.node_rules.specs.Choices.{by_policies}
use Rattle.split_leg.specs.Stored.{margins}
use Rattle.pdcp_entity.proofs.Sends.{AreSent}
use Rattle.pdcp_entity.proofs.entity.PdcpEntity.send_counts.Given as goal

abbrev pub invariant-loop-count : goal.invariant-loop-count
invariant-loop-count g l = AreSent (by_policies (margins l.policies)) l.initial.self l.send l.count-index l.self l.put
