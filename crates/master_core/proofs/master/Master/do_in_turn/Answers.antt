use Rattle.std.proofs.Common.{sym}
use Rattle.node_rules.specs.Choices.{by_policies}
use Rattle.node_rules.specs.MasterPlan.{master_did}
use Rattle.split_leg.specs.Stored.{margins}
use Rattle.master_core.proofs.Turns.{in_turn_push}
use Rattle.master_core.proofs.master.Master.do_in_turn.Goals as goal

pub loop-act-preserved : goal.loop-act-preserved
loop-act-preserved g c =
    rw c.in_ok-add.ensures (sym (in_turn_push (master_did (by_policies (margins c.args.policies.now))) c.args.self.now c.loop-act.yielded c.in-Some.act (c.loop-act.self, c.loop-act.effects) (c.do_one.new.self, c.in_ok-done.done) (sym c.loop-act.invariant) c.in_ok-done.ensures))
