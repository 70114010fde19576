use Rattle.std.proofs.Common.{◌≡◌, ◌+◌, ◌<◌, ◌≤◌, ◌^◌, ◌++◌, length, vec_len, vec_capacity}
use Rattle.std.specs.List.{enumerate_from, range_with_len}
use Rattle.std.specs.VecDeque.{deque_len, deque_capacity}
use Rattle.pdcp_tx.proofs.kept.number_all.Given as goal

abbrev pub invariant-loop-sdu : goal.invariant-loop-sdu
invariant-loop-sdu l = record {
  room_kept : deque_len l.kept + deque_len l.held ≤ deque_capacity l.kept;
  room_counts : vec_len l.counts + deque_len l.held ≤ vec_capacity l.counts;
  last : l.next + length l.held.items < 2 ^ 32;
  next : l.initial.next + length l.initial.held.items ≡ l.next + length l.held.items;
  kept : l.initial.kept.items ++ enumerate_from l.initial.next l.initial.held.items ≡ l.kept.items ++ enumerate_from l.next l.held.items;
  counts : l.initial.counts.items ++ range_with_len l.initial.next (length l.initial.held.items) ≡ l.counts.items ++ range_with_len l.next (length l.held.items);
}

abbrev pub decreases-loop-sdu : goal.decreases-loop-sdu
decreases-loop-sdu l = deque_len l.held
