use Rattle.std.proofs.Common.{length}
use Rattle.nr_u.proofs.Ranges.{Reading}
use Rattle.nr_u.proofs.decoding.ranges.Given as goal

abbrev pub invariant-loop-rest : goal.invariant-loop-rest
invariant-loop-rest l = Reading l.octets l.fn.place l.found.items l.low l.place l.rest

abbrev pub decreases-loop-rest : goal.decreases-loop-rest
decreases-loop-rest l = length l.rest
