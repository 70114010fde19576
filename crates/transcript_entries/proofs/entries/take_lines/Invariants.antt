use Rattle.std.proofs.Common.{◌≡◌, ◌+◌, length}
use Rattle.std.specs.List.{AllByRecursion}
use Rattle.transcript_entries.specs.Lines.{HaveRead, IsSettled, texts}
use Rattle.transcript_entries.specs.Places.{IsRead}
use Rattle.transcript_entries.specs.Read.{IsNoEvent, ahead}
use Rattle.transcript_entries.proofs.entries.take_lines.Given as goal

abbrev pub invariant-loop-before : goal.invariant-loop-before
invariant-loop-before g l = record {
  read : IsSettled (ahead l.fn.reader (g.S.Source.left l.fn.source)) → HaveRead (ahead l.fn.reader (g.S.Source.left l.fn.source)) (texts l.lines) (ahead l.reader (g.S.Source.left l.source));
  good : AllByRecursion IsRead l.lines;
  no_event : AllByRecursion IsNoEvent l.lines;
  taken : l.before ≡ l.fn.taken + length l.lines;
  kept : g.S.Source.fault_count l.source ≡ g.S.Source.fault_count l.fn.source;
}
