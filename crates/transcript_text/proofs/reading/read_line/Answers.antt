use Rattle.std.proofs.Common.{Result, Ok, Err}
use Rattle.std.specs.Prelude.{IfOk}
use Rattle.std.proofs.lemmas.Result.{err_from_is_err_and, IfErr-weaker}
use Rattle.transcript_text.specs.Words.{mark_word}
use Rattle.transcript_text.specs.Grammar.{AfterMark}
use Rattle.transcript_text.proofs.Taking.{at_word, after_word}
use Rattle.transcript_text.proofs.Lines.{column_of, outside_of, text_read}
use Rattle.transcript_text.proofs.reading.read_line.Goals as goal

-- three facts of a value give a fourth
from_three : {X Y : Type 0} (r : Result X Y) (P Q R S : X → Type 0) → ((x : X) → P x → Q x → R x → S x) → IfOk r P → IfOk r Q → IfOk r R
    → IfOk r S
from_three (Ok x) P Q R S f p q r = f x p q r
from_three (Err e) P Q R S f p q r = tt

pub returns-in_err-mark-clause-column : goal.returns-in_err-mark-clause-column
returns-in_err-mark-clause-column c =
    let p = err_from_is_err_and c.from_residual.result c.from_residual.ensures.1 in
    rw (p.1, p.2)
    (column_of _ c.args.octets.now c.new-fields.result c.new-fields.ensures.at c.new-fields.ensures.fields
    (at_word mark_word AfterMark c.new-fields.result _ c.in_err-mark.ensures.fault))

pub returns-in_err-mark-clause-outside : goal.returns-in_err-mark-clause-outside
returns-in_err-mark-clause-outside c =
    let p = err_from_is_err_and c.from_residual.result c.from_residual.ensures.1 in
    rw (p.1, p.2)
    (outside_of _ c.args.octets.now
    (column_of _ c.args.octets.now c.new-fields.result c.new-fields.ensures.at c.new-fields.ensures.fields
    (at_word mark_word AfterMark c.new-fields.result _ c.in_err-mark.ensures.fault)))

pub returns-clause-column : goal.returns-clause-column
returns-clause-column c =
    IfErr-weaker c.read_marked.result _ _
    (λ f h. column_of f c.args.octets.now c.new-fields.result c.new-fields.ensures.at c.new-fields.ensures.fields
    (after_word mark_word AfterMark c.in_ok-mark.mark _ _ f c.in_ok-mark.ensures.taken h))
    c.read_marked.ensures.fault

pub returns-clause-outside : goal.returns-clause-outside
returns-clause-outside c =
    IfErr-weaker c.read_marked.result _ _
    (λ f h. outside_of f c.args.octets.now
    (column_of f c.args.octets.now c.new-fields.result c.new-fields.ensures.at c.new-fields.ensures.fields
    (after_word mark_word AfterMark c.in_ok-mark.mark _ _ f c.in_ok-mark.ensures.taken h)))
    c.read_marked.ensures.fault

pub returns-clause-read : goal.returns-clause-read
returns-clause-read c =
    from_three c.read_marked.result _ _ _ _
    (λ l after is h. text_read l c.args.octets.now c.in_ok-mark.mark _ _ h c.new-fields.ensures.fields c.in_ok-mark.ensures.taken after is)
    c.read_marked.ensures.read c.read_marked.ensures.mark c.read_marked.ensures.range
