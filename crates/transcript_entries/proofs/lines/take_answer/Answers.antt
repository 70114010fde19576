use Rattle.std.proofs.Common.{◌≡◌, ◌+◌, None, refl, sym, subst, rules}
use Rattle.transcript_entries.specs.Places.{answering, place_after_line}
use Rattle.transcript_entries.specs.Read.{IsUnread, ahead}
use Rattle.transcript_entries.specs.Lines.{Ahead}
use Rattle.transcript_entries.proofs.Unreading.{misplaced, missing, next_unread}
use Rattle.transcript_entries.proofs.lines.take_answer.Goals as goal

pub returns-in_err-line-clause-unread : goal.returns-in_err-line-clause-unread
returns-in_err-line-clause-unread g c = λ settled.
    let a : Ahead = ahead c.args.reader.now (g.S.Source.left c.args.source.now) in
    let cut : IsUnread c.in_err-line.field-0.0 answering c.args.taken a =
    next_unread c.in_err-line.field-0.0 answering c.args.taken (c.args.taken + 1) a refl c.in_err-line.ensures.unread in
    search rules

pub returns-in_default-clause-unread : goal.returns-in_default-clause-unread
returns-in_default-clause-unread g c = λ settled.
    let a : Ahead = ahead c.args.reader.now (g.S.Source.left c.args.source.now) in
    let ends = rw c.in_default.is at c.in_ok-line.ensures.end in
    subst (λ f. IsUnread f answering c.args.taken a) (sym c.misplaced.ensures) (missing a c.args.taken (c.args.taken + 1) refl (ends settled).0)

pub returns-in-Err-clause-unread : goal.returns-in-Err-clause-unread
returns-in-Err-clause-unread g c = λ settled.
    let a : Ahead = ahead c.args.reader.now (g.S.Source.left c.args.source.now) in
    let n : Ahead = ahead c.next_line.new.reader (g.S.Source.left c.next_line.new.source) in
    subst (λ f. IsUnread f answering c.args.taken a) (sym c.misplaced-in-Err.ensures)
    (misplaced a n answering c.args.taken (c.args.taken + 1) c.in-Some.line refl (rw c.in-Some.is at c.in_ok-line.ensures.read) (rw c.in-Some.is at c.in_ok-line.ensures.good)
    (subst (λ l. place_after_line answering l ≡ None) c.in-Err.ensures.answer c.in-Err.ensures.misplaced))
