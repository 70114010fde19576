use Rattle.std.proofs.Common.{sym, ◌∙◌}
use Rattle.std.proofs.lemmas.Result.{err_from_is_err_and, IfOk-weaker, IfErr-weaker}
use Rattle.script_text.proofs.Whole.{has_a_field, line_of_rest, column_of_rest}
use Rattle.script_text.proofs.Outside.{outside_of, outside_at_word}
use Rattle.script_text.proofs.Unique.{same_line}
use Rattle.script_text.specs.declared.scripted.Scripted.TheVariants.{One}
use Rattle.script_text.proofs.reading.read_line.Goals as goal

pub returns-in_err-word-clause-column : goal.returns-in_err-word-clause-column
returns-in_err-word-clause-column c = absurd (has_a_field c.args.line.now _ c.new-fields.ensures.fields c.in_err-word.ensures.none)

pub returns-in-Some-clause-read : goal.returns-in-Some-clause-read
returns-in-Some-clause-read c =
    IfOk-weaker c.read_rest.result _ _
    (λ s h. line_of_rest s c.args.line.now c.in_ok-word.word.now _ _ _ c.new-fields.ensures.fields c.in_ok-word.ensures.found c.in-Some.ensures.some h)
    c.read_rest.ensures.read

pub returns-in-Some-clause-column : goal.returns-in-Some-clause-column
returns-in-Some-clause-column c =
    IfErr-weaker c.read_rest.result _ _
    (λ f h. column_of_rest f c.args.line.now c.in_ok-word.word.now _ _ _ c.new-fields.ensures.at c.new-fields.ensures.fields c.in_ok-word.ensures.found c.in_ok-word.ensures.moved c.in-Some.ensures.some h)
    c.read_rest.ensures.fault

pub returns-in_err-word-clause-outside : goal.returns-in_err-word-clause-outside
returns-in_err-word-clause-outside c = absurd (has_a_field c.args.line.now _ c.new-fields.ensures.fields c.in_err-word.ensures.none)

pub returns-in-Some-clause-outside : goal.returns-in-Some-clause-outside
returns-in-Some-clause-outside c =
    IfErr-weaker c.read_rest.result _ _
    (λ f h. outside_of f c.args.line.now
    (column_of_rest f c.args.line.now c.in_ok-word.word.now _ _ _ c.new-fields.ensures.at c.new-fields.ensures.fields c.in_ok-word.ensures.found c.in_ok-word.ensures.moved
    c.in-Some.ensures.some h))
    c.read_rest.ensures.fault

pub returns-in-None-clause-outside : goal.returns-in-None-clause-outside
returns-in-None-clause-outside c =
    outside_at_word c.args.line.now c.in_ok-word.word.now _ (sym c.new-fields.ensures.fields ∙ c.in_ok-word.ensures.found) c.in-None.ensures.none

pub returns-in_err-word-clause-event : goal.returns-in_err-word-clause-event
returns-in_err-word-clause-event c = absurd (has_a_field c.args.line.now _ c.new-fields.ensures.fields c.in_err-word.ensures.none)

pub returns-in-Some-clause-event : goal.returns-in-Some-clause-event
returns-in-Some-clause-event c = λ e h written.
    IfOk-weaker c.read_rest.result _ _
    (λ s f. same_line s (One e) c.args.line.now
    (line_of_rest s c.args.line.now c.in_ok-word.word.now _ _ _ c.new-fields.ensures.fields c.in_ok-word.ensures.found c.in-Some.ensures.some f)
    (h, written))
    c.read_rest.ensures.read
