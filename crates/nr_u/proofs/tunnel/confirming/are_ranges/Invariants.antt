use Rattle.std.proofs.Common.{◌^◌, ◌<◌, drop}
use Rattle.nr_u.proofs.Confirming.{Checked}
use Rattle.nr_u.proofs.tunnel.confirming.are_ranges.Given as goal

abbrev pub invariant-loop-range : goal.invariant-loop-range
invariant-loop-range l = Checked l.low (drop l.range-index l.lost) l.lost
