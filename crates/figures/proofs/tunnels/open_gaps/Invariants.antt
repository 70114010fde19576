use Rattle.std.proofs.Common.{◌≡◌}
use Rattle.dc_base.specs.declared.numbers.SnLen.{SnLen}
use Rattle.figures.proofs.tunnels.open_gaps.Given as goal

abbrev pub invariant-loop-gap : goal.invariant-loop-gap
invariant-loop-gap l = l.inbound.n ≡ SnLen.S18
