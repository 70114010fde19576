use Rattle.std.proofs.Common.{◌≡◌, ◌+◌, ◌-◌, ◌≤◌, ◌++◌, take, drop, length, vec_len, vec_capacity}
use Rattle.pdcp_rx.specs.Run.{run_from}
use Rattle.pdcp_rx.specs.Ring.{ring_from}
use Rattle.pdcp_rx.proofs.ring.take_first.Given as goal

abbrev pub invariant-loop : goal.invariant-loop
invariant-loop l = record {
  there : l.number ≤ l.counter + length (run_from l.next (ring_from l.ring l.next));
  next : l.next ≡ l.count + l.counter;
  room : vec_len l.handed + (l.number - l.counter) ≤ vec_capacity l.handed;
  handed : l.handed.items ≡ l.initial.handed.items ++ take l.counter (ring_from l.initial.ring l.count);
  left : ring_from l.ring l.next ≡ drop l.counter (ring_from l.initial.ring l.count);
}
