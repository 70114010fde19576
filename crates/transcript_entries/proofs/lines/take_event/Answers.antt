use Rattle.std.proofs.Common.{◌≡◌, ◌+◌, None, refl, sym, subst, rules}
use Rattle.transcript_entries.specs.Places.{opening, place_after_line}
use Rattle.transcript_entries.specs.Read.{IsUnread, ahead}
use Rattle.transcript_entries.specs.Lines.{Ahead}
use Rattle.transcript_entries.proofs.Unreading.{misplaced, next_unread}
use Rattle.transcript_entries.proofs.lines.take_event.Goals as goal

pub returns-in_err-line-clause-unread : goal.returns-in_err-line-clause-unread
returns-in_err-line-clause-unread g c =
    let a : Ahead = ahead c.args.reader.now (g.S.Source.left c.args.source.now) in
    let cut : IsUnread c.in_err-line.field-0.0 opening c.args.taken a =
    next_unread c.in_err-line.field-0.0 opening c.args.taken (c.args.taken + 1) a refl c.in_err-line.ensures.unread in
    search rules

pub returns-in-Err-clause-unread : goal.returns-in-Err-clause-unread
returns-in-Err-clause-unread g c =
    let a : Ahead = ahead c.args.reader.now (g.S.Source.left c.args.source.now) in
    let n : Ahead = ahead c.next_line.new.reader (g.S.Source.left c.next_line.new.source) in
    subst (λ f. IsUnread f opening c.args.taken a) (sym c.misplaced.ensures)
    (misplaced a n opening c.args.taken (c.args.taken + 1) c.in-Some.line refl (rw c.in-Some.is at c.in_ok-line.ensures.read) (rw c.in-Some.is at c.in_ok-line.ensures.good)
    (subst (λ l. place_after_line opening l ≡ None) c.in-Err.ensures.event.0 c.in-Err.ensures.misplaced))
