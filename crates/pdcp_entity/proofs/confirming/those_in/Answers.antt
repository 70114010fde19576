use Rattle.std.proofs.Common.{sym, ◌∙◌}
use Rattle.std.specs.BTreeSet.{contains as has}
use Rattle.std.specs.Ordering.{nat_cmp}
use Rattle.pdcp_entity.proofs.Confirmed.{passed_yes, passed_no}
use Rattle.pdcp_entity.proofs.confirming.those_in.Goals.{then-contains+in_ok-push, else-contains}
use Rattle.pdcp_entity.proofs.confirming.those_in.Goals as goal

pub loop-count-preserved : goal.loop-count-preserved
loop-count-preserved c =
    let xs = c.args.counts.now in
    let i = c.loop-count.count-index in
    let test = has nat_cmp c.args.set.now in
    elim c.if-contains.branch [
      | then-contains+in_ok-push w ↦ w.found-is ∙ w.in_ok-push.ensures.ok ∙ passed_yes test xs i c.loop-count.found c.loop-count-test.true c.loop-count.invariant (sym c.contains.ensures ∙ w.if-contains.true)
      | else-contains w ↦ w.found-is ∙ passed_no test xs i c.loop-count.found c.loop-count-test.true c.loop-count.invariant (sym c.contains.ensures ∙ w.if-contains.false)
    ]
