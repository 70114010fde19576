use Rattle.std.proofs.Common.{◌∙◌, ap, sym}
use Rattle.dc_text.specs.Lines.{input}
use Rattle.transcript_entries.specs.Read.{ahead}
use Rattle.transcript_entries.proofs.Nexts.{end_came, line_came}
use Rattle.transcript_entries.proofs.lines.next_text.Goals as goal

pub returns-in-Ok-clause-line : goal.returns-in-Ok-clause-line
returns-in-Ok-clause-line g c =
    line_came c.in-Ok.found (ahead c.args.reader.now (g.S.Source.left c.args.source.now)) (ahead c.next.new.self (g.S.Source.left c.next.new.source))
    c.in-Ok.ensures.line c.in-Ok.ensures.passed c.in-Ok.ensures.last

pub returns-in-Ok-clause-end : goal.returns-in-Ok-clause-end
returns-in-Ok-clause-end g c = λ settled.
    end_came c.in-Ok.found c.args.reader.now.ended (input c.args.reader.now (g.S.Source.left c.args.source.now)) (input c.next.new.self (g.S.Source.left c.next.new.source))
    c.in-Ok.ensures.end
    (λ over. let same = c.in-Ok.ensures.after_end over in
    ap (λ r. input r (g.S.Source.left c.next.new.source)) same.1 ∙ ap (λ s. input c.args.reader.now (g.S.Source.left s)) same.2)
    settled
