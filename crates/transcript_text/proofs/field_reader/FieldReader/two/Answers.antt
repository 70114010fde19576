use Rattle.std.proofs.Common.{[], ◌∷◌}
use Rattle.std.proofs.lemmas.Result.{err_from_is_err_and}
use Rattle.transcript_text.proofs.Taking.{here}
use Rattle.transcript_text.proofs.field_reader.FieldReader.two.Goals as goal

pub returns-in_err-first-clause-fault : goal.returns-in_err-first-clause-fault
returns-in_err-first-clause-fault g c =
    let p = err_from_is_err_and c.from_residual.result c.from_residual.ensures.1 in
    rw (p.1, p.2) (here g.A.Spelled.kind (g.B.Spelled.kind ∷ []) c.args.self.now _ c.in_err-first.ensures.fault)
