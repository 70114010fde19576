use Rattle.std.specs.BTreeSet.{contains}
use Rattle.std.specs.Ordering.{nat_cmp}
use Rattle.split_leg.proofs.Outstanding.{IsSettling, open_len}
use Rattle.split_leg.proofs.leg.settle_open.Given as goal

abbrev pub invariant-loop-num : goal.invariant-loop-num
invariant-loop-num l = IsSettling l.fn.first l.fn.end l.fn.pdus.items l.pdus.items l.octets (λ k. contains nat_cmp l.open_keys k)

abbrev pub decreases-loop-num : goal.decreases-loop-num
decreases-loop-num l = open_len l.pdus.items
