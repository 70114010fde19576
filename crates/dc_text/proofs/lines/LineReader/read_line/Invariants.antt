use Rattle.std.proofs.Common.{◌≡◌, ◌-◌, ◌≤◌, ◌++◌, false, length}
use Rattle.std.specs.Io.KnownBytes.{Keeps, prepend_known}
use Rattle.dc_text.specs.Lines.{HasNoLineFeed, input}
use Rattle.dc_text.proofs.lines.LineReader.read_line.Given as goal

-- the line so far has no LF and is not too long, and nothing is lost
abbrev pub invariant-loop-line : goal.invariant-loop-line
invariant-loop-line g l =
    Keeps (input l.fn.self (g.S.Source.left l.fn.source)) (prepend_known (l.line ++ l.self.held) (g.S.Source.left l.source))
    × HasNoLineFeed l.line
    × (length l.line ≤ 20000)
    × (l.self.passed ≡ l.fn.self.passed)
    × (length l.self.held ≤ 65536)
    × (l.self.ended ≡ false)
    × (g.S.Source.fault_count l.source ≡ g.S.Source.fault_count l.fn.source)

abbrev pub decreases-loop-line : goal.decreases-loop-line
decreases-loop-line g l = 20001 - length l.line
