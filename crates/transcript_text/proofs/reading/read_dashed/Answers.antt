use Rattle.std.proofs.Common.{sym, ◌∙◌}
use Rattle.std.proofs.lemmas.Result.{err_from_is_err_and, IfOk-weaker, IfErr-weaker}
use Rattle.transcript_text.specs.Words.{consequence_word}
use Rattle.transcript_text.specs.Grammar.{AfterConsequence}
use Rattle.transcript_text.proofs.Taking.{at_word, after_word}
use Rattle.transcript_text.proofs.reading.read_dashed.Goals as goal

pub returns-in_err-consequence-clause-fault : goal.returns-in_err-consequence-clause-fault
returns-in_err-consequence-clause-fault c =
    let p = err_from_is_err_and c.from_residual.result c.from_residual.ensures.1 in
    rw (p.1, p.2) (at_word consequence_word AfterConsequence c.args.fields.now _ c.in_err-consequence.ensures.fault)

pub returns-clause-fault : goal.returns-clause-fault
returns-clause-fault c =
    IfErr-weaker c.read_consequence.result _ _
    (λ f h. after_word consequence_word AfterConsequence c.in_ok-consequence.consequence _ _ f c.in_ok-consequence.ensures.taken h)
    c.read_consequence.ensures.fault

pub returns-clause-read : goal.returns-clause-read
returns-clause-read c =
    IfOk-weaker c.read_consequence.result _ _ (λ l h. h ∙ sym c.in_ok-consequence.ensures.taken.found) c.read_consequence.ensures.read
