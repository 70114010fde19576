use Rattle.std.proofs.Common.{sym, ◌∙◌, arith}
use Rattle.forward.proofs.Numbers.{below-more, absent_if}
use Rattle.forward.proofs.incoming.first_missing.Goals as goal

pub loop-missing-smaller : goal.loop-missing-smaller
loop-missing-smaller c = omega (arith, c.requires.small c.loop-missing.missing (sym c.has.ensures ∙ c.loop-missing-test.true))

pub loop-missing-preserved : goal.loop-missing-preserved
loop-missing-preserved c = below-more _ _ c.loop-missing.invariant (sym c.has.ensures ∙ c.loop-missing-test.true)

pub returns : goal.returns
returns c = record { below = c.loop-missing.invariant; absent = absent_if _ _ c.has.ensures c.loop-missing-test.false; small = c.requires.small }
