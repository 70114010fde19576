use Rattle.std.proofs.Common.{ℕ, ◌≡◌, List, [], ◌∷◌, Option, refl, sym, ap, subst, rules}
use Rattle.transcript.specs.Text.{header_text}
use Rattle.transcript_entries.specs.Lines.{Ahead, HaveRead, IsSettled, texts}
use Rattle.transcript_entries.specs.Read.{IsNoHeader, IsUnopened, ahead, event_line, unread}
use Rattle.transcript_entries.proofs.Opening.{at_beginning, no_event, no_header, settled_first}
use Rattle.transcript_entries.proofs.Taking.{join_if}
use Rattle.transcript_entries.proofs.entries.EntryReader.open.Goals as goal

pub returns-in_err-header-clause-unopened : goal.returns-in_err-header-clause-unopened
returns-in_err-header-clause-unopened g c =
    let left : Option (List ℕ) = g.S.Source.left c.args.source.now in
    let first : ahead c.new-reader.result left ≡ unread left =
    at_beginning c.new-reader.result left c.new-reader.ensures.held c.new-reader.ensures.passed c.new-reader.ensures.ended in
    let cut = c.in_err-header.ensures.unread (subst IsSettled (sym first) (settled_first left)) c.new-reader.ensures.passed in
    let why : IsUnopened c.in_err-header.field-0.0 left =
    no_header c.in_err-header.field-0.0 left (subst (λ (a : Ahead). IsNoHeader c.in_err-header.field-0.0 a.octets) first cut) in
    search rules

pub returns-in_err-event-clause-unopened : goal.returns-in_err-event-clause-unopened
returns-in_err-event-clause-unopened g c =
    let left : Option (List ℕ) = g.S.Source.left c.args.source.now in
    let mid : Ahead = ahead c.take_header.new.reader (g.S.Source.left c.take_header.new.source) in
    let first : ahead c.new-reader.result left ≡ unread left =
    at_beginning c.new-reader.result left c.new-reader.ensures.held c.new-reader.ensures.passed c.new-reader.ensures.ended in
    let why : IsUnopened c.in_err-event.field-0.0 left =
    no_event c.in_err-event.field-0.0 (unread left) mid c.in_ok-header.header refl c.in_ok-header.ensures.header
    (subst (λ a. HaveRead a (header_text c.in_ok-header.header ∷ []) mid) first c.in_ok-header.ensures.read) c.in_err-event.ensures.unread in
    search rules

pub returns-clause-opened : goal.returns-clause-opened
returns-clause-opened g c =
    let left : Option (List ℕ) = g.S.Source.left c.args.source.now in
    let mid : Ahead = ahead c.take_header.new.reader (g.S.Source.left c.take_header.new.source) in
    let new : Ahead = ahead c.take_event.new.reader (g.S.Source.left c.take_event.new.source) in
    let first : ahead c.new-reader.result left ≡ unread left =
    at_beginning c.new-reader.result left c.new-reader.ensures.held c.new-reader.ensures.passed c.new-reader.ensures.ended in
    record {
      header = c.in_ok-header.ensures.header;
      read = join_if c.in_ok-event.event (unread left) mid new (header_text c.in_ok-header.header ∷ []) (texts (event_line c.in_ok-event.event))
          (subst (λ a. HaveRead a (header_text c.in_ok-header.header ∷ []) mid) first c.in_ok-header.ensures.read) c.in_ok-event.ensures.read;
      good = c.in_ok-event.ensures.good;
      taken = c.taken_with-taken.ensures;
    }
