use Rattle.std.proofs.Common.{◌≡◌, take}
use Rattle.summary.specs.Summed.{with_lines}
use Rattle.summary.proofs.summing.Summary.add_all.Given as goal

abbrev pub invariant-loop-line : goal.invariant-loop-line
invariant-loop-line l = l.self ≡ with_lines l.initial.self (take l.line-index l.lines)
