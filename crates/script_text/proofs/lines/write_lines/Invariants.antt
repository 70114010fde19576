use Rattle.std.proofs.Common.{◌≡◌, ◌++◌, take}
use Rattle.transcript.specs.Text.{lines_text}
use Rattle.script_text.proofs.lines.write_lines.Given as goal

abbrev pub invariant-loop-line : goal.invariant-loop-line
invariant-loop-line l = l.out ≡ l.initial.out ++ lines_text (take l.line-index l.lines)
