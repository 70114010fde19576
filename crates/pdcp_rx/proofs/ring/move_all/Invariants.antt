use Rattle.std.proofs.Common.{◌≡◌, ◌+◌, ◌-◌, ◌++◌, length}
use Rattle.pdcp_rx.specs.Ring.{slots_from, ring_from}
use Rattle.pdcp_rx.proofs.ring.move_all.Given as goal

abbrev pub invariant-loop : goal.invariant-loop
invariant-loop l = record {
  from_len : length l.from ≡ length l.initial.from;
  to_len : length l.to ≡ length l.initial.to;
  count : l.count ≡ l.deliv + l.counter;
  items : ring_from l.to l.deliv ++ slots_from l.from l.count (length l.from - l.counter) ≡ ring_from l.initial.from l.deliv;
}
