use Rattle.std.proofs.Common.{◌≡◌, ℕ, subst, arith}
use Rattle.transcript_text.specs.Grammar.{parts}
use Rattle.transcript_text.proofs.EventFields.{long_fault, event_fault, event_read}
use Rattle.transcript_text.proofs.reading.read_event.Goals as goal

pub returns-then-text-gt-MAX_EVENT-clause-fault : goal.returns-then-text-gt-MAX_EVENT-clause-fault
returns-then-text-gt-MAX_EVENT-clause-fault c =
    let cut : c.args.fields.now.fields ≡ parts 32 c.in-Some.text.now =
    subst (λ (s : ℕ). c.args.fields.now.fields ≡ parts s c.in-Some.text.now) c.requires c.in-Some.ensures.some in
    long_fault c.args.fields.now.fields c.in-Some.text.now c.args.fields.now.at _ cut c.if-text-gt-MAX_EVENT.true
    (omega (arith, c.at-at.ensures.value))

pub returns-in-Ok-One-clause-read : goal.returns-in-Ok-One-clause-read
returns-in-Ok-One-clause-read c =
    let cut : c.args.fields.now.fields ≡ parts 32 c.in-Some.text.now =
    subst (λ (s : ℕ). c.args.fields.now.fields ≡ parts s c.in-Some.text.now) c.requires c.in-Some.ensures.some in
    let read = rw c.in-Ok-One.field-0-is at c.in-Ok-One.ensures.read in
    event_read c.in-Ok-One.event c.in-Some.text.now c.args.fields.now.fields read cut

pub returns-in-Err-Column-clause-fault : goal.returns-in-Err-Column-clause-fault
returns-in-Err-Column-clause-fault c =
    let cut : c.args.fields.now.fields ≡ parts 32 c.in-Some.text.now =
    subst (λ (s : ℕ). c.args.fields.now.fields ≡ parts s c.in-Some.text.now) c.requires c.in-Some.ensures.some in
    let column = rw c.in-Err-Column.field-0-is at c.in-Err-Column.ensures.column in
    event_fault c.args.fields.now.fields c.in-Some.text.now c.args.fields.now.at c.in-Err-Column.column _ cut c.if-text-gt-MAX_EVENT.false
    column (omega (arith, c.at-at.ensures.value))
