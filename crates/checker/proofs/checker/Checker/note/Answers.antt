use Rattle.std.proofs.Common.{sym, subst}
use Rattle.checker.specs.Parts.{ArePartsOf, Parts}
use Rattle.checker.proofs.Deciding.{noted_if}
use Rattle.checker.proofs.checker.Checker.note.Goals as goal

pub returns : goal.returns
returns c = λ p are.
    noted_if c.note.result _ c.put.new.self c.note.new.self p c.args.line.now (subst (λ (s : Parts). ArePartsOf s p) (sym c.self.view_is) are) c.in_ok-put.ensures c.note.ensures
