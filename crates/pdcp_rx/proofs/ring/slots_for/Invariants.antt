use Rattle.std.proofs.Common.{◌+◌, ◌-◌, ◌≤◌, ◌^◌}
use Rattle.pdcp_rx.proofs.ring.slots_for.Given as goal

abbrev pub invariant-loop-number : goal.invariant-loop-number
invariant-loop-number l = record { some : 64 ≤ l.number; few : l.number ≤ 2 ^ 18 }

abbrev pub decreases-loop-number : goal.decreases-loop-number
decreases-loop-number l = l.need + 1 - l.number
