use Rattle.std.proofs.Common.{◌≡◌, take}
use Rattle.dc_network.specs.Counting.{counted, counts_of_both}
use Rattle.dc_network.proofs.counting.Counts.with_lines.Given as goal

abbrev pub invariant-loop-line : goal.invariant-loop-line
invariant-loop-line l = l.counts ≡ counts_of_both l.initial.counts (counted (take l.line-index l.lines))
