use Rattle.node_rules.specs.MasterPlan.{prepares_item}
use Rattle.master_core.proofs.Turns.{in_turn_at}
use Rattle.master_core.proofs.master.Master.prepare.Goals as goal

pub loop-item-preserved : goal.loop-item-preserved
loop-item-preserved c =
    in_turn_at (prepares_item c.args.plan.now) c.args.self.now c.args.plan.now.items c.loop-item.item-index c.item-item.result (c.loop-item.self, c.loop-item.effects) (c.prepare_item.new.self, c.in_ok-done.done) c.add.new.effects
    (rw c.as_slice-item-items.ensures at c.loop-item-test.true) (rw c.as_slice-item-items.ensures at c.item-item.is) c.loop-item.invariant c.in_ok-done.ensures c.in_ok-add.ensures
