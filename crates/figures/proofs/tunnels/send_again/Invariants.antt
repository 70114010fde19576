use Rattle.std.proofs.Common.{◌≡◌, ◌+◌}
use Rattle.dc_base.specs.declared.numbers.SnLen.{SnLen}
use Rattle.figures.proofs.tunnels.send_again.Given as goal

abbrev pub invariant-loop-count : goal.invariant-loop-count
invariant-loop-count l = (l.outbound.next ≡ l.initial.outbound.next + l.count) × (l.inbound.n ≡ SnLen.S18)
