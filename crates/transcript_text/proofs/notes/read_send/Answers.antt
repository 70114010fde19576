use Rattle.std.proofs.lemmas.Result.{err_from_is_err_and}
use Rattle.transcript_text.specs.Grammar.{AfterCarried}
use Rattle.transcript_text.specs.Words.{carried_word}
use Rattle.transcript_text.proofs.Taking.{at_link, after_link, after_link_at_word, after_word}
use Rattle.transcript_text.proofs.notes.read_send.Goals as goal

pub returns-in_err-link-clause-fault : goal.returns-in_err-link-clause-fault
returns-in_err-link-clause-fault c =
    let p = err_from_is_err_and c.from_residual.result c.from_residual.ensures.1 in
    rw (p.1, p.2) (at_link c.args.fields.now _ c.in_err-link.ensures.fault)

pub returns-in_err-carried-clause-fault : goal.returns-in_err-carried-clause-fault
returns-in_err-carried-clause-fault c =
    let p = err_from_is_err_and c.from_residual-in_err-carried.result c.from_residual-in_err-carried.ensures.1 in
    rw (p.1, p.2)
    (after_link_at_word _ _ _ _ c.in_ok-link.ensures.allowed c.in_ok-link.ensures.taken c.in_err-carried.ensures.fault)

pub returns-in_err-flight-clause-fault : goal.returns-in_err-flight-clause-fault
returns-in_err-flight-clause-fault c =
    let p = err_from_is_err_and c.from_residual-in_err-flight.result c.from_residual-in_err-flight.ensures.1 in
    rw (p.1, p.2)
    (after_link _ _ _ _ c.in_ok-link.ensures.allowed c.in_ok-link.ensures.taken
    (after_word carried_word AfterCarried c.in_ok-carried.carried _ _ _ c.in_ok-carried.ensures.taken c.in_err-flight.ensures.fault))
