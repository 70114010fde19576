use Rattle.std.proofs.Common.{arith}
use Rattle.nr_u.proofs.Gaps.{unlisted_next, unlisted_here, unlisted_none}
use Rattle.nr_u.proofs.tunnel.gaps.first_unlisted.Goals as goal

pub loop-from-preserved : goal.loop-from-preserved
loop-from-preserved c =
    (unlisted_next c.loop-from.passed _ _ c.args.gaps.now.entries (c.in-Some.field-0-0.now, c.in-Some.from.now) c.loop-from.invariant.0 c.in-Some.ensures.steps (omega (arith, c.loop-from.invariant.1, c.if-passed-eq-LISTED.false)), omega (arith, c.loop-from.invariant.1, c.if-passed-eq-LISTED.false))

pub returns-then-passed-eq-LISTED : goal.returns-then-passed-eq-LISTED
returns-then-passed-eq-LISTED c =
    unlisted_here 16777216 c.loop-from.passed _ _ c.args.gaps.now.entries (c.in-Some.field-0-0.now, c.in-Some.from.now) c.loop-from.invariant.0 c.in-Some.ensures.steps c.if-passed-eq-LISTED.true

pub returns : goal.returns
returns c = unlisted_none 16777216 c.loop-from.passed _ c.args.gaps.now.entries c.loop-from.invariant.0 c.in-None.ensures.steps.0
