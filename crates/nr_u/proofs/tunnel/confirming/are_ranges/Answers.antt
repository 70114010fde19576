use Rattle.std.proofs.Common.{drop, refl, arith}
use Rattle.std.proofs.lemmas.List.{drop_all}
use Rattle.nr_u.proofs.Confirming.{checked_step, checked_ends}
use Rattle.nr_u.proofs.tunnel.confirming.are_ranges.Goals as goal

pub loop-range-init : goal.loop-range-init
loop-range-init c = record { rising = λ up. up; small = λ all. all }

pub loop-range-preserved : goal.loop-range-preserved
loop-range-preserved c =
    checked_step c.loop-range.low _ c.args.lost.now c.loop-range.range-index _ c.loop-range-test.true c.loop-range.invariant (omega arith) (omega arith) (omega arith) refl

pub returns : goal.returns
returns c = λ is. checked_ends c.loop-range.low c.args.lost.now (drop c.loop-range.range-index c.args.lost.now) c.loop-range.invariant (drop_all c.loop-range.range-index c.args.lost.now c.loop-range-test.false)
