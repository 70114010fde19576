use Rattle.std.proofs.Common.{sym, ◌∙◌, subst, arith}
use Rattle.checker.specs.Parts.{ArePartsOf, Parts}
use Rattle.checker.proofs.Deciding.{not_first, step_missing, the_first, unordered}
use Rattle.checker.proofs.checker.Checker.step_due.Goals as goal

pub returns-then-index-len : goal.returns-then-index-len
returns-then-index-len c = λ p a are. sym
    (step_missing _ p a c.args.link c.args.index (subst (λ (s : Parts). ArePartsOf s p) (sym c.self.view_is) are) (omega (arith, c.len.ensures)))

pub returns-then-not-is_ordered : goal.returns-then-not-is_ordered
returns-then-not-is_ordered c = λ p a are. sym
    (unordered _ p a c.args.link c.args.index (subst (λ (s : Parts). ArePartsOf s p) (sym c.self.view_is) are) (omega (arith, c.len.ensures))
    (sym c.is_ordered.ensures ∙ c.if-not-is_ordered.true))

pub returns-then-index-gt0 : goal.returns-then-index-gt0
returns-then-index-gt0 c = λ p a are. sym
    (not_first _ p a c.args.link c.args.index (subst (λ (s : Parts). ArePartsOf s p) (sym c.self.view_is) are) (omega (arith, c.len.ensures))
    (sym c.is_ordered.ensures ∙ c.if-not-is_ordered.false) (omega arith))

pub returns-else-index-gt0 : goal.returns-else-index-gt0
returns-else-index-gt0 c = λ p a are. sym
    (the_first _ p a c.args.link c.args.index (subst (λ (s : Parts). ArePartsOf s p) (sym c.self.view_is) are) (omega (arith, c.len.ensures))
    (sym c.is_ordered.ensures ∙ c.if-not-is_ordered.false) (omega arith))
