use Rattle.std.proofs.Common.{true, false, refl, sym, ◌∙◌, subst}
use Rattle.claims.specs.Planned.{is_planned}
use Rattle.checker.specs.Decided.{is_on_link}
use Rattle.checker.specs.Parts.{ArePartsOf, Parts}
use Rattle.checker.proofs.Deciding.{broken_is, planned_by_state}
use Rattle.checker.proofs.checker.Checker.broken_by.Goals as goal

pub returns-then-not-is_consequence : goal.returns-then-not-is_consequence
returns-then-not-is_consequence c = λ p are.
    let x = c.args.line.now in
    sym (broken_is p x false (is_on_link p x) (is_planned p x) (sym (c.is_consequence.ensures p) ∙ c.if-not-is_consequence.true) refl refl)

pub returns-then-not-is_on_link : goal.returns-then-not-is_on_link
returns-then-not-is_on_link c = λ p are.
    let x = c.args.line.now in
    sym (broken_is p x true false (is_planned p x) (sym (c.is_consequence.ensures p) ∙ c.if-not-is_consequence.false)
    (sym (c.is_on_link.ensures p) ∙ c.if-not-is_on_link.true) refl)

pub returns-then-not-is_planned : goal.returns-then-not-is_planned
returns-then-not-is_planned c = λ p are.
    let x = c.args.line.now in
    sym (broken_is p x true true false (sym (c.is_consequence.ensures p) ∙ c.if-not-is_consequence.false)
    (sym (c.is_on_link.ensures p) ∙ c.if-not-is_on_link.false)
    (planned_by_state _ p x (subst (λ (s : Parts). ArePartsOf s p) (sym c.self.view_is) are) ∙ sym c.is_planned.ensures ∙ c.if-not-is_planned.true))

pub returns-else-not-is_planned : goal.returns-else-not-is_planned
returns-else-not-is_planned c = λ p are.
    let x = c.args.line.now in
    sym (broken_is p x true true true (sym (c.is_consequence.ensures p) ∙ c.if-not-is_consequence.false)
    (sym (c.is_on_link.ensures p) ∙ c.if-not-is_on_link.false)
    (planned_by_state _ p x (subst (λ (s : Parts). ArePartsOf s p) (sym c.self.view_is) are) ∙ sym c.is_planned.ensures ∙ c.if-not-is_planned.false))
