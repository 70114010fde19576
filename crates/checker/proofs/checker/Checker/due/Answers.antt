use Rattle.std.proofs.Common.{◌≡◌, false, sym, subst, rules}
use Rattle.checker_state.specs.Due.{is_of_link}
use Rattle.checker.specs.Parts.{ArePartsOf, Parts}
use Rattle.checker.proofs.Deciding.{due_if}
use Rattle.checker.proofs.checker.Checker.due.Goals as goal

pub returns-in_default : goal.returns-in_default
returns-in_default c = λ p are.
    let own : is_of_link c.args.event.now ≡ false = search rules in
    due_if c.due.result _ p c.args.answer c.args.event.now (subst (λ (s : Parts). ArePartsOf s p) (sym c.self.view_is) are) own (c.due.ensures own)
