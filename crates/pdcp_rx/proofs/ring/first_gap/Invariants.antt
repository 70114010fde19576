use Rattle.std.proofs.Common.{◌≡◌, ◌+◌, ◌-◌, ◌<◌, ◌^◌, length}
use Rattle.std.specs.List.{AllByRecursion}
use Rattle.pdcp_rx.specs.Run.{run_from}
use Rattle.pdcp_rx.specs.Ring.{slots_from, ring_from}
use Rattle.pdcp_rx.proofs.ring.first_gap.Given as goal

abbrev pub invariant-loop : goal.invariant-loop
invariant-loop l = record {
  counts : AllByRecursion (λ e. e.0 < 2 ^ 32 - 1) (slots_from l.ring l.gap (length l.ring - l.counter));
  gap : l.count + length (run_from l.count (ring_from l.ring l.count)) ≡ l.gap + length (run_from l.gap (slots_from l.ring l.gap (length l.ring - l.counter)));
}
