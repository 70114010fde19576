use Rattle.std.proofs.Common.{suc, ◌≡◌, ◌+◌, ◌-◌, ◌<◌, ◌^◌, length, sym, ap, ◌∙◌, arith}
use Rattle.pdcp_rx.proofs.RingSteps.{gap_free, gap_taken, each_after, below_here}
use Rattle.pdcp_rx.proofs.ring.first_gap.Goals as goal

pub returns-then-not-is_taken : goal.returns-then-not-is_taken
returns-then-not-is_taken c =
    let s = c.args.ring.now in
    let m = length s - (c.loop.counter + 1) in
    let more : length s - c.loop.counter ≡ suc m = omega arith in
    let none = gap_free s c.loop.gap (length s - c.loop.counter) m more (sym c.is_taken.ensures ∙ c.if-not-is_taken.true) in
    omega (arith, c.loop.invariant.gap, ap length none)

pub overflow_add-gap : goal.overflow_add-gap
overflow_add-gap c =
    let s = c.args.ring.now in
    let m = length s - (c.loop.counter + 1) in
    let more : length s - c.loop.counter ≡ suc m = omega arith in
    let below = below_here (2 ^ 32 - 1) s c.loop.gap (length s - c.loop.counter) m more (sym c.is_taken.ensures
    ∙ c.if-not-is_taken.false) c.loop.invariant.counts in
    omega (arith, below)

pub loop-preserved : goal.loop-preserved
loop-preserved c =
    let s = c.args.ring.now in
    let k = length s - c.loop.counter in
    let m = length s - (c.loop.counter + 1) in
    let more : k ≡ suc m = omega arith in
    record {
      counts = each_after (λ e. e.0 < 2 ^ 32 - 1) s c.loop.gap k m more c.loop.invariant.counts;
      gap = omega (arith, c.loop.invariant.gap, gap_taken s c.loop.gap k m more (sym c.is_taken.ensures ∙ c.if-not-is_taken.false));
    }
