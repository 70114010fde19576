use Rattle.std.proofs.Common.{arith, refl, rules}
use Rattle.node_rules.specs.Choices.{by_policies}
use Rattle.split_leg.specs.Stored.{margins}
use Rattle.workers.proofs.Turns.{drove, idle}
use Rattle.workers.specs.Working.{around}
use Rattle.workers.proofs.worker.Worker.drive.Goals as goal

pub returns-then-not-is_due : goal.returns-then-not-is_due
returns-then-not-is_due g c ids o s =
    idle g.C.NodeCore.node g.S.Shaper.is_lossless (around ids (by_policies (margins c.args.policies.now))) o c.args.turn _ c.args.self.now s (c.is_due.ensures.waits (search rules))

pub returns : goal.returns
returns g c ids o s =
    drove g.C.NodeCore.node g.S.Shaper.is_lossless (around ids (by_policies (margins c.args.policies.now))) o c.args.turn c.in-Some.clock c.unwrap-event.result c.args.self.now (record c.args.self.now { lines = c.pop_front.new.self }) c.note.new.self c.note.result s
    refl (rw c.unwrap-event.ensures at c.pop_front.ensures.items) (omega arith) c.note.ensures
