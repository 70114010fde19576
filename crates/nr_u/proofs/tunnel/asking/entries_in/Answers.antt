use Rattle.std.proofs.Common.{◌∙◌}
use Rattle.nr_u.proofs.Asking.{all_starts, all_next}
use Rattle.nr_u.proofs.tunnel.asking.entries_in.Goals as goal

pub loop-number-init : goal.loop-number-init
loop-number-init c =
    let between = c.into_iter-number-iterator.ensures.into_iter_gives ∙ c.range-number-items.ensures.between c.new.ensures.exhausted in
    all_starts c.args.range _ _ c.args.askable.now.entries _ _ c.new.ensures.start c.new.ensures.end c.new-found.ensures.items between

pub loop-number-preserved : goal.loop-number-preserved
loop-number-preserved c =
    all_next _ _ _ _ _ (c.in-Some.number.now, c.in-Some.count.now) c.loop-number.invariant c.in-Some.ensures.steps c.in_ok-push.ensures.items
