use Rattle.std.proofs.Common.{sym, ap, ◌∙◌}
use Rattle.dc_base.specs.declared.events.Note.{Note}
use Rattle.checker_state.specs.Steps.{kept_note}
use Rattle.checker_state.proofs.state.State.take_note.Goals as goal

pub returns-in-Give : goal.returns-in-Give
returns-in-Give c = c.change_latest.ensures ∙ ap (λ (n : Note). kept_note n c.args.self.now) (sym c.in-Give.is)

pub returns-in_ok-change-in-Own : goal.returns-in_ok-change-in-Own
returns-in_ok-change-in-Own c = c.in_ok-change-in-Own.ensures ∙ ap (λ (n : Note). kept_note n c.args.self.now) (sym c.in-Own.is)

pub returns-in_ok-change-in-Set : goal.returns-in_ok-change-in-Set
returns-in_ok-change-in-Set c = c.in_ok-change-in-Set.ensures ∙ ap (λ (n : Note). kept_note n c.args.self.now) (sym c.in-Set.is)
