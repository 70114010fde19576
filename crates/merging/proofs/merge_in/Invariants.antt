use Rattle.std.proofs.Common.{◌≡◌, ◌+◌, ◌++◌, length}
use Rattle.journals.specs.Journals.{Rising}
use Rattle.journals.specs.Merging.{Sorted, put_all}
use Rattle.merging.proofs.merge_in.Given as goal

abbrev pub invariant-loop-node : goal.invariant-loop-node
invariant-loop-node l = record {
  same : l.merged.items ++ put_all l.fn.node l.entries.items l.others.items ≡ put_all l.fn.node l.fn.entries.items l.fn.others.items;
  rising : Rising 0 0 l.entries.items;
  sorted : Sorted l.others.items;
}

abbrev pub decreases-loop-node : goal.decreases-loop-node
decreases-loop-node l = length l.entries.items + length l.others.items

abbrev pub invariant-loop-other : goal.invariant-loop-other
invariant-loop-other l = l.merged.items ++ l.others.items ≡ put_all l.fn.node l.fn.entries.items l.fn.others.items

abbrev pub decreases-loop-other : goal.decreases-loop-other
decreases-loop-other l = length l.others.items
