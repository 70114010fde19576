use Rattle.std.proofs.Common.{◌≡◌, ◌+◌, ◌-◌, ◌<◌, ◌^◌, ◌++◌, length}
use Rattle.std.specs.List.{AllByRecursion}
use Rattle.pdcp_rx.specs.Ring.{slots_from, ring_from}
use Rattle.pdcp_rx.proofs.ring.take_all.Given as goal

abbrev pub invariant-loop : goal.invariant-loop
invariant-loop l = record {
  len : length l.ring ≡ length l.initial.ring;
  count : l.count ≡ l.deliv + l.counter;
  rest : AllByRecursion (λ e. e.0 < 2 ^ 32 - 1) (slots_from l.ring l.count (length l.ring - l.counter));
  items : l.all.items ++ slots_from l.ring l.count (length l.ring - l.counter) ≡ ring_from l.initial.ring l.deliv;
}
