use Rattle.std.proofs.Common.{◌≡◌, ◌≤◌, ◌++◌, length}
use Rattle.std.specs.Prelude.{map}
use Rattle.nr_u.specs.Tunnel.Kept.{gap_range}
use Rattle.nr_u.proofs.tunnel.gaps.listed.Given as goal

abbrev pub invariant-loop-to : goal.invariant-loop-to
invariant-loop-to l = (l.lost ++ map gap_range l.to-iterator ≡ map gap_range l.gaps.entries) × (length l.lost ≤ 168)
