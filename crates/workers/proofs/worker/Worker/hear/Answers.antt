use Rattle.std.proofs.Common.{arith}
use Rattle.node_rules.specs.Choices.{by_policies}
use Rattle.split_leg.specs.Stored.{margins}
use Rattle.workers.proofs.Turns.{heard}
use Rattle.workers.specs.Working.{around}
use Rattle.workers.proofs.worker.Worker.hear.Goals as goal

pub returns : goal.returns
returns g c ids o s =
    heard g.C.NodeCore.node g.S.Shaper.is_lossless (around ids (by_policies (margins c.args.policies.now))) o c.args.turn c.in-Some.clock c.args.message c.in_ok-what.what c.args.self.now c.fate_of.new.self c.note.new.self c.note.result s
    c.in_ok-what.ensures (omega arith) (omega arith) c.note.ensures
