use Rattle.node_rules.specs.Choices.{by_policies}
use Rattle.split_leg.specs.Stored.{margins}
use Rattle.dc_network.proofs.Moves.{gives_a, gives_b}
use Rattle.dc_network.proofs.network.Network.give.Goals as goal

pub returns-in-A : goal.returns-in-A
returns-in-A g c =
    rw (← c.self.view_is, c.in-A.is) (gives_a (by_policies (margins c.args.policies.now)) _ c.args.input c.step-in-A.new.self c.step-in-A.result c.step-in-A.ensures)

pub returns-in-B : goal.returns-in-B
returns-in-B g c =
    rw (← c.self.view_is, c.in-B.is) (gives_b (by_policies (margins c.args.policies.now)) _ c.args.input c.step-in-B.new.self c.step-in-B.result c.step-in-B.ensures)
