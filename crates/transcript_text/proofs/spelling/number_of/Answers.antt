use Rattle.std.proofs.Common.{arith}
use Rattle.script_text.proofs.Ranges.{low_number}
use Rattle.transcript_text.proofs.spelling.number_of.Goals as goal

pub returns-else-number-from-clause-none : goal.returns-else-number-from-clause-none
returns-else-number-from-clause-none c = λ w.
    low_number c.args.low c.args.high c.in-Some.number c.args.field.now (omega arith) (omega (arith, c.in-Some.ensures.some.1))
    (omega arith) c.in-Some.ensures.some.0 (w.0, w.1.0, w.1.1, w.2)
