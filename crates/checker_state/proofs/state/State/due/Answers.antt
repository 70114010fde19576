use Rattle.std.proofs.Common.{sym, ap, ◌∙◌}
use Rattle.dc_base.specs.declared.events.Event.{Event}
use Rattle.checker_state.specs.Due.{decided_due}
use Rattle.checker_state.proofs.KeptDue.{want_due}
use Rattle.checker_state.proofs.state.State.due.Goals as goal

pub returns-in-Add : goal.returns-in-Add
returns-in-Add c = λ own. c.due_to_addition.ensures c.in-Add.node ∙ ap (λ (e : Event). decided_due c.args.answer c.args.self.now e) (sym c.in-Add.is)

pub returns-in-Submit : goal.returns-in-Submit
returns-in-Submit c = λ own. c.due_to_submission.ensures c.in-Submit.sdu ∙ ap (λ (e : Event). decided_due c.args.answer c.args.self.now e) (sym c.in-Submit.is)

pub returns-in-Ask : goal.returns-in-Ask
returns-in-Ask c = λ own.
    c.due_to_want.ensures c.in-Ask.what ∙ want_due c.args.answer c.args.self.now c.in-Ask.node c.in-Ask.what
    ∙ ap (λ (e : Event). decided_due c.args.answer c.args.self.now e) (sym c.in-Ask.is)
