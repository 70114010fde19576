use Rattle.std.proofs.lemmas.List.{take_all}
use Rattle.nr_u.proofs.Asking.{after_none, after_next}
use Rattle.nr_u.proofs.tunnel.asking.take_asked.Goals as goal

pub loop-range-init : goal.loop-range-init
loop-range-init c =
    rw c.new-again.ensures.items (after_none c.args.low c.args.confirmed.now.keys c.args.unasked.now.entries c.args.askable.now.entries c.requires.sorted c.requires.covers)

pub loop-range-preserved : goal.loop-range-preserved
loop-range-preserved c =
    after_next c.args.low c.args.confirmed.now.keys c.args.lost.now c.loop-range.range-index _ c.args.unasked.now.entries c.args.askable.now.entries _ _ _ _ _ _ c.loop-range-test.true c.loop-range.invariant c.in_ok-take_range.ensures.looked c.in_ok-take_range.ensures.left c.in_ok-take_range.ensures.again

pub returns-clause-counts : goal.returns-clause-counts
returns-clause-counts c =
    let all = take_all c.loop-range.range-index c.args.lost.now c.loop-range-test.false in
    rw (← all) c.loop-range.invariant.again_is

pub returns-clause-left : goal.returns-clause-left
returns-clause-left c =
    let all = take_all c.loop-range.range-index c.args.lost.now c.loop-range-test.false in
    rw (← all) c.loop-range.invariant.left_is

pub returns-in_err-take_range-clause-given : goal.returns-in_err-take_range-clause-given
returns-in_err-take_range-clause-given c = λ next all. rw c.in_err-take_range.ensures.err_unasked (c.loop-range.invariant.given next all)

pub returns-in_err-take_range-clause-given_askable : goal.returns-in_err-take_range-clause-given_askable
returns-in_err-take_range-clause-given_askable c = λ next all. rw c.in_err-take_range.ensures.err_askable (c.loop-range.invariant.given_askable next all)
