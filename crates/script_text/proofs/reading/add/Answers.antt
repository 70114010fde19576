use Rattle.std.proofs.Common.{[]}
use Rattle.std.proofs.lemmas.Result.{err_from_is_err_and}
use Rattle.script_text.proofs.reading.add.Goals as goal

pub returns-in_err-secondary-clause-fault : goal.returns-in_err-secondary-clause-fault
returns-in_err-secondary-clause-fault c =
    let p = err_from_is_err_and c.from_residual.result c.from_residual.ensures.1 in
    rw (p.1, p.2) (c.in_err-secondary.ensures.fault [])
