use Rattle.std.proofs.Common.{◌≡◌}
use Rattle.dc_base.specs.declared.numbers.SnLen.{SnLen}
use Rattle.figures.proofs.tunnels.close_gaps.Given as goal

abbrev pub invariant-loop-turn : goal.invariant-loop-turn
invariant-loop-turn l = l.inbound.n ≡ SnLen.S18
