use Rattle.std.proofs.Common.{◌≡◌, ◌+◌, ◌-◌, ◌<◌, ◌^◌, ◌++◌, length}
use Rattle.std.specs.List.{AllByRecursion}
use Rattle.pdcp_rx.specs.Entries.{counts_of}
use Rattle.pdcp_rx.specs.Ring.{slots_from, ring_from}
use Rattle.pdcp_rx.proofs.ring.counts.Given as goal

abbrev pub invariant-loop : goal.invariant-loop
invariant-loop l = record {
  count : l.count ≡ l.deliv + l.counter;
  rest : AllByRecursion (λ e. e.0 < 2 ^ 32 - 1) (slots_from l.ring l.count (length l.ring - l.counter));
  items : l.counts.items ++ counts_of (slots_from l.ring l.count (length l.ring - l.counter)) ≡ counts_of (ring_from l.ring l.deliv);
}
