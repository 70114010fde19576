use Rattle.std.proofs.Common.{◌≡◌, ◌++◌}
use Rattle.dc_network.proofs.counting.CountedLines.append.Given as goal

abbrev pub invariant-loop-line : goal.invariant-loop-line
invariant-loop-line l = l.self ≡ l.initial.self ++ l.yielded
