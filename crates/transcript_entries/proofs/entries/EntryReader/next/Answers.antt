use Rattle.std.proofs.Common.{ℕ, ◌≡◌, ◌+◌, ◌++◌, List, [], ◌∷◌, Option, refl, sym, ◌∙◌, subst, arith}
use Rattle.std.specs.Prelude.{IfErr}
use Rattle.std.proofs.lemmas.Result.{err_from_is_err_and}
use Rattle.dc_base.specs.declared.events.Line.TheVariants as line
use Rattle.transcript_entries.specs.declared.fault.EntryFault.TheVariants as fault
use Rattle.transcript_entries.specs.Lines.{Ahead, IsSettled, text_of, texts}
use Rattle.transcript_entries.specs.Places.{answering}
use Rattle.transcript_entries.specs.Read.{Entries, GivesEntry, IsUnread, ahead, event_line}
use Rattle.transcript_entries.proofs.Taking.{join_if, unread_if}
use Rattle.transcript_entries.proofs.Unreading.{many_unread}
use Rattle.transcript_entries.proofs.entries.EntryReader.next.Goals as goal

pub returns-then-number-clause-unread : goal.returns-then-number-clause-unread
returns-then-number-clause-unread g c =
    let left : Option (List ℕ) = g.S.Source.left c.args.source.now in
    subst (λ (s : Entries). IsSettled (ahead s.reader left) → IsUnread fault.TooLong answering s.taken (ahead s.reader left)) c.self.view_is
    (λ settled. many_unread answering c.self.inside.taken (ahead c.self.inside.reader left) (omega (arith, c.if-number.true)))

pub returns-in_err-rest-clause-unread : goal.returns-in_err-rest-clause-unread
returns-in_err-rest-clause-unread g c =
    let left : Option (List ℕ) = g.S.Source.left c.args.source.now in
    let mid : Ahead = ahead c.take_answer.new.reader (g.S.Source.left c.take_answer.new.source) in
    subst (λ (s : Entries). IsSettled (ahead s.reader left) → IfErr c.from_residual-in_err-rest.result (λ f. IsUnread f answering s.taken (ahead s.reader left))) c.self.view_is
    (λ settled.
    let p = err_from_is_err_and c.from_residual-in_err-rest.result c.from_residual-in_err-rest.ensures.1 in
    rw (p.1, p.2) (unread_if c.in_err-rest.field-0.0 (ahead c.self.inside.reader left) mid c.self.inside.taken c.in_ok-answer.answer
    c.in_ok-answer.ensures.read c.in_err-rest.ensures.unread))

pub returns-clause-entry : goal.returns-clause-entry
returns-clause-entry g c =
    let left : Option (List ℕ) = g.S.Source.left c.args.source.now in
    let mid : Ahead = ahead c.take_answer.new.reader (g.S.Source.left c.take_answer.new.source) in
    let new : Ahead = ahead c.take_lines.new.reader (g.S.Source.left c.take_lines.new.source) in
    subst (λ (s : Entries). IsSettled (ahead s.reader left) → GivesEntry s (record { taken = c.in_ok-rest.rest.taken; event = c.in_ok-rest.rest.event; reader = c.take_lines.new.reader }) left (g.S.Source.left c.take_lines.new.source)
    (record { event = c.in-Some.event; answer = c.in_ok-answer.answer; lines = c.in_ok-rest.rest.lines; number = c.self.inside.taken })) c.self.view_is
    (λ settled. record {
      event = sym c.take.ensures.value ∙ c.in-Some.is;
      read = join_if c.in_ok-rest.rest.event (ahead c.self.inside.reader left) mid new (text_of (line.Answer c.in_ok-answer.answer) ∷ []) (texts (c.in_ok-rest.rest.lines ++ event_line c.in_ok-rest.rest.event))
          c.in_ok-answer.ensures.read c.in_ok-rest.ensures.read;
      good = c.in_ok-rest.ensures.good;
      no_event = c.in_ok-rest.ensures.no_event;
      number = refl;
      taken = c.in_ok-rest.ensures.taken;
    })
