use Rattle.node_rules.specs.Choices.{by_policies}
use Rattle.split_leg.specs.Stored.{margins}
use Rattle.dc_network.proofs.network.Network.take_from_link.Goals as goal

pub returns-in-Again : goal.returns-in-Again
returns-in-Again g c = rw c.in-Again.is (c.repeat.ensures (by_policies (margins c.args.policies.now)))
