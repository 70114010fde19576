use Rattle.std.proofs.Common.{take, get_or, ap, sym, ◌∙◌}
use Rattle.std.specs.Ordering.{nat_cmp}
use Rattle.std.specs.BTreeSet.{insert_key}
use Rattle.std.proofs.lemmas.List.Sums.{fold_more}
use Rattle.nr_u.proofs.History.{fold_keeps}
use Rattle.nr_u.proofs.tunnel.outbound.add_all.Goals as goal

pub loop-count-preserved : goal.loop-count-preserved
loop-count-preserved c =
    c.in_ok-insert.ensures.keys ∙ ap (λ ks. insert_key nat_cmp ks (get_or c.args.counts.now c.loop-count.count-index 0)) c.loop-count.invariant ∙ sym (fold_more (insert_key nat_cmp) c.args.set.now.keys c.args.counts.now c.loop-count.count-index 0 c.loop-count-test.true)

pub returns-in_err-insert-clause-keeps : goal.returns-in_err-insert-clause-keeps
returns-in_err-insert-clause-keeps c = λ count there.
    rw (c.in_err-insert.ensures.err, c.loop-count.invariant) (fold_keeps count c.args.set.now.keys (take c.loop-count.count-index c.args.counts.now) there)

pub returns-clause-keeps : goal.returns-clause-keeps
returns-clause-keeps c = λ count there.
    rw c.loop-count.invariant (fold_keeps count c.args.set.now.keys (take c.loop-count.count-index c.args.counts.now) there)
