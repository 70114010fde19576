use Rattle.std.proofs.Common.{drop, refl, arith}
use Rattle.std.proofs.lemmas.List.{drop_all}
use Rattle.nr_u.proofs.Confirming.{walk_starts, walk_step, walk_ends, walk_small}
use Rattle.nr_u.proofs.tunnel.confirming.confirmed_between.Goals as goal

pub loop-range-init : goal.loop-range-init
loop-range-init c = walk_starts c.args.highest c.args.lost.now c.args.waiting.now.entries _ c.requires.ranges c.new-found.ensures.items

pub overflow_add-from : goal.overflow_add-from
overflow_add-from c =
    omega (arith, walk_small c.args.highest c.loop-range.from c.args.lost.now c.loop-range.range-index (record { from = 0; to = 0 }) c.loop-range.found.items c.args.waiting.now.entries c.loop-range-test.true c.loop-range.invariant)

pub loop-range-preserved : goal.loop-range-preserved
loop-range-preserved c =
    walk_step c.args.highest _ _ c.args.lost.now c.loop-range.range-index _ _ _ c.args.waiting.now.entries c.loop-range-test.true c.loop-range.invariant c.in_ok-add_between.ensures.ordered c.requires.climbs c.in_ok-add_between.ensures.added refl

pub returns-clause-found : goal.returns-clause-found
returns-clause-found c =
    walk_ends c.args.highest _ c.args.next c.args.lost.now (drop c.loop-range.range-index c.args.lost.now) _ _ c.args.waiting.now.entries c.loop-range.invariant (drop_all c.loop-range.range-index c.args.lost.now c.loop-range-test.false) c.requires.given c.requires.climbs c.in_ok-add_between-2.ensures.added
