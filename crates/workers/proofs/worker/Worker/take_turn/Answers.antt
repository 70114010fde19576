use Rattle.std.proofs.Common.{refl, ◌∙◌}
use Rattle.journals.specs.Journals.{sent}
use Rattle.journals.specs.Messages.{to}
use Rattle.node_rules.specs.Choices.{by_policies}
use Rattle.split_leg.specs.Stored.{margins}
use Rattle.outlets.specs.Boxes.{ids}
use Rattle.workers.proofs.Turns.{went_on}
use Rattle.workers.specs.Working.{around}
use Rattle.workers.proofs.worker.Worker.take_turn.Goals as goal

pub returns-in-Some : goal.returns-in-Some
returns-in-Some g c o s =
    let w = c.args.self.now in
    c.hear.ensures (ids c.args.boxes.now) o
    (went_on g.C.NodeCore.node g.S.Shaper.is_lossless (around (ids c.args.boxes.now) (by_policies (margins c.args.policies.now))) o c.args.turn _ _ w
    (record w { gate = c.pass.new.self; outlets = c.offer_all.new.self; ticket = c.take.new.ticket }) s refl (c.offer_all.ensures (λ k. to k (sent w.journal)) s.ways) (c.in-Some.ensures.pass.0 ∙ c.at.ensures, c.in-Some.ensures.pass.1)
    (rw s.right at c.in-Some.ensures.got))

pub returns-in-None : goal.returns-in-None
returns-in-None g c o s =
    let w = c.args.self.now in
    c.drive.ensures (ids c.args.boxes.now) o
    (went_on g.C.NodeCore.node g.S.Shaper.is_lossless (around (ids c.args.boxes.now) (by_policies (margins c.args.policies.now))) o c.args.turn _ _ w
    (record w { gate = c.pass.new.self; outlets = c.offer_all.new.self; ticket = c.take.new.ticket }) s refl (c.offer_all.ensures (λ k. to k (sent w.journal)) s.ways) (c.in-None.ensures.pass.0 ∙ c.at.ensures, c.in-None.ensures.pass.1)
    (c.in-None.ensures.got ∙ s.right))
