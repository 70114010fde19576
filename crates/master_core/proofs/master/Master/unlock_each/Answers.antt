use Rattle.node_rules.specs.AnchorSending.{unlock}
use Rattle.node_rules.specs.Choices.{by_policies}
use Rattle.node_rules.specs.Held.{held}
use Rattle.node_rules.specs.Master.{MasterNode, on_anchor_of}
use Rattle.split_leg.specs.Stored.{margins}
use Rattle.master_core.proofs.Turns.{in_turn_at}
use Rattle.master_core.proofs.master.Master.unlock_each.Goals as goal

pub loop-id-preserved : goal.loop-id-preserved
loop-id-preserved g c =
    in_turn_at (λ (n : MasterNode) id. on_anchor_of n c.args.g (unlock (by_policies (margins c.args.policies.now))) id (held id n.anchors)) c.args.self.now c.args.ids.now c.loop-id.id-index c.id-item.result (c.loop-id.self, c.loop-id.effects) (c.anchor_of_does.new.self, c.in_ok-done.done) c.add.new.effects
    c.loop-id-test.true c.id-item.is c.loop-id.invariant c.in_ok-done.ensures c.in_ok-add.ensures
