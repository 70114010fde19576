use Rattle.std.proofs.Common.{sym, subst}
use Rattle.checker.specs.Parts.{ArePartsOf, Parts}
use Rattle.checker.proofs.Deciding.{judged_if}
use Rattle.checker.proofs.checker.Checker.judge.Goals as goal

pub returns : goal.returns
returns c = λ p are.
    judged_if _ c.take.new.self c.judge.new.self p c.args.event.now c.args.answer c.in_ok-given.given
    (subst (λ (s : Parts). ArePartsOf s p) (sym c.self.view_is) are) (c.in_ok-given.ensures p are) c.take.ensures c.in_ok-judge.ensures
