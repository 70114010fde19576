use Rattle.std.proofs.Common.{sym}
use Rattle.std.proofs.lemmas.Bool.{eqb-true}
use Rattle.nr_u.proofs.Ranges.{reads_range, reads_all}
use Rattle.nr_u.proofs.decoding.ranges.Goals as goal

pub loop-rest-preserved : goal.loop-rest-preserved
loop-rest-preserved c =
    let r = c.first_range.result.0 in
    rw c.in_ok-push.ensures.items (reads_range _ _ _ _ _ _ r _ c.loop-rest.invariant c.first_range.ensures.parts c.first_range.ensures.from c.first_range.ensures.to c.if-range-low.false c.if-range.false)

pub returns-clause-found : goal.returns-clause-found
returns-clause-found c =
    rw c.from_vec.ensures (reads_all _ _ _ _ _ _ c.loop-rest.invariant (eqb-true _ _ (sym c.loop-rest-test.ensures)))
