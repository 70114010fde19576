use Rattle.std.proofs.Common.{◌≡◌, ◌++◌, take}
use Rattle.made_runs.specs.Made.{lines_words}
use Rattle.made_runs.proofs.writing.write_lines.Given as goal

abbrev pub invariant-loop-line : goal.invariant-loop-line
invariant-loop-line l = l.out ≡ l.initial.out ++ lines_words (take l.line-index l.lines)
