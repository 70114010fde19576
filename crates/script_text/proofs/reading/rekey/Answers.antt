use Rattle.std.proofs.Common.{◌≡◌, [], ◌∙◌}
use Rattle.std.specs.Prelude.{codes}
use Rattle.std.proofs.lemmas.Bool.Decides.{Decides-eqb}
use Rattle.std.proofs.lemmas.Slice.Eq.{slice_eq-Decides}
use Rattle.std.proofs.lemmas.Result.{err_from_is_err_and}
use Rattle.script_text.proofs.Whole.{rekey_master_fault, rekey_master_fields}
use Rattle.script_text.proofs.reading.rekey.Goals as goal

pub returns-in_err-root-clause-fault : goal.returns-in_err-root-clause-fault
returns-in_err-root-clause-fault c =
    let p = err_from_is_err_and c.from_residual-in_err-root.result c.from_residual-in_err-root.ensures.1 in
    let same : c.in_ok-side.side.now ≡ codes "m" = (slice_eq-Decides Decides-eqb _ _ _ c.eq.ensures).0 c.if-eq.true ∙ c.as_slice.ensures in
    rw (p.1, p.2)
    (rekey_master_fault c.in_ok-side.side.now _ _ _ same c.in_ok-side.ensures.found c.in_ok-side.ensures.moved
    (c.in_err-root.ensures.fault []))

pub returns-in_ok-take_end-clause-read : goal.returns-in_ok-take_end-clause-read
returns-in_ok-take_end-clause-read c =
    let same : c.in_ok-side.side.now ≡ codes "m" = (slice_eq-Decides Decides-eqb _ _ _ c.eq.ensures).0 c.if-eq.true ∙ c.as_slice.ensures in (
      c.in_ok-root.ensures.range,
      rekey_master_fields c.in_ok-side.side.now _ _ _ _ same c.in_ok-side.ensures.found c.in_ok-root.ensures.taken.found
          c.in_ok-take_end.ensures.none,
    )
