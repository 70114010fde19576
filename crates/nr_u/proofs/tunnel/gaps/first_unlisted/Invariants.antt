use Rattle.std.proofs.Common.{◌≡◌, ◌≤◌, ◌-◌}
use Rattle.std.specs.Prelude.{map, slice_get}
use Rattle.nr_u.specs.Tunnel.Kept.{gap_range}
use Rattle.nr_u.proofs.tunnel.gaps.first_unlisted.Given as goal

abbrev pub invariant-loop-from : goal.invariant-loop-from
invariant-loop-from l = (slice_get (map gap_range l.from-iterator) (168 - l.passed) ≡ slice_get (map gap_range l.gaps.entries) 168) × (l.passed ≤ 168)
