use Rattle.std.proofs.Common.{◌≡◌}
use Rattle.figures.proofs.tunnels.send_run.Given as goal

abbrev pub invariant-loop-count : goal.invariant-loop-count
invariant-loop-count l = l.outbound.next ≡ l.count
