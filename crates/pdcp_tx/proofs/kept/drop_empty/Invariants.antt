use Rattle.std.proofs.Common.{◌≡◌}
use Rattle.std.specs.VecDeque.{deque_len}
use Rattle.pdcp_tx.specs.Slots.{live, AreSlots}
use Rattle.pdcp_tx.proofs.kept.drop_empty.Given as goal

abbrev pub invariant-loop-kept : goal.invariant-loop-kept
invariant-loop-kept l = record {
  live : live l.next l.kept.items ≡ live l.next l.initial.kept.items;
  slots : AreSlots l.next l.kept.items;
}

abbrev pub decreases-loop-kept : goal.decreases-loop-kept
decreases-loop-kept l = deque_len l.kept
