use Rattle.std.proofs.lemmas.Result.{err_from_is_err_and}
use Rattle.transcript_text.specs.Words.{verdict_word}
use Rattle.transcript_text.specs.Grammar.{AfterVerdict}
use Rattle.transcript_text.proofs.Taking.{at_word, after_word}
use Rattle.transcript_text.proofs.reading.read_verdict.Goals as goal

pub returns-in_err-verdict-clause-fault : goal.returns-in_err-verdict-clause-fault
returns-in_err-verdict-clause-fault c =
    let p = err_from_is_err_and c.from_residual.result c.from_residual.ensures.1 in
    rw (p.1, p.2) (at_word verdict_word AfterVerdict c.args.fields.now _ c.in_err-verdict.ensures.fault)

pub returns-in_err-answer-clause-fault : goal.returns-in_err-answer-clause-fault
returns-in_err-answer-clause-fault c =
    let p = err_from_is_err_and c.from_residual-in_err-answer.result c.from_residual-in_err-answer.ensures.1 in
    rw (p.1, p.2) (after_word verdict_word AfterVerdict c.in_ok-verdict.verdict _ _ _ c.in_ok-verdict.ensures.taken c.in_err-answer.ensures.fault)
