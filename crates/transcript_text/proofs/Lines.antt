-- The fields of a line make its text, and have no fault.
use Rattle.std.proofs.Common.{◌≡◌, ℕ, ◌+◌, ◌≤◌, List, [], ◌∷◌, ◌++◌, length, refl, sym, ap, subst, ◌∙◌, inl, inr, arith}
use Rattle.std.specs.Prelude.{codes}
use Rattle.std.proofs.lemmas.List.Splits.{join_with_byte-slice_split}
use Rattle.dc_base.specs.declared.answers.Answer.{Answer}
use Rattle.dc_base.specs.declared.answers.Answer.TheVariants.{Ok, No}
use Rattle.dc_base.specs.declared.events.Event.{Event}
use Rattle.dc_base.specs.declared.events.Line.{Line}
use Rattle.dc_base.specs.declared.events.Line.TheVariants as line
use Rattle.dc_base.specs.declared.flights.Flight.{Flight}
use Rattle.dc_base.specs.declared.nodes.LinkId.{LinkId}
use Rattle.transcript.specs.Words.{spaced, link_word, refusal_word}
use Rattle.transcript.specs.Text.{event_text, line_text, mark}
use Rattle.script_text.specs.declared.scripted.Scripted.TheVariants.{One, Drain}
use Rattle.script_text.specs.Grammar.{IsFaultOf}
use Rattle.script_text.specs.Scripts.{IsScripted, event_fields}
use Rattle.script_text.proofs.Spaceless.{link_is_spaceless}
use Rattle.script_text.proofs.Whole.{spaced-event_fields}
use Rattle.script_text.proofs.Outside.{is_command, fields-event_text, no_column}
use Rattle.script_text.proofs.Unique.{same_line}
use Rattle.transcript_text.specs.declared.words.Consequence.TheVariants as consequence
use Rattle.transcript_text.specs.declared.words.Verdict.TheVariants as verdict
use Rattle.transcript_text.specs.Words.{mark_word, verdict_word, consequence_word, carried_word}
use Rattle.transcript_text.specs.Ranges.{IsLine}
use Rattle.transcript_text.specs.Fields.{flight_fields, note_fields, answer_fields, fields_after_mark, mark_of, line_fields}
use Rattle.transcript_text.specs.Grammar.{Refused, IsFaultAfter, AfterMark, AfterVerdict, AfterConsequence, AfterCarried, IsEventFault, IsSendFault, IsColumn, parts}
use Rattle.transcript_text.specs.Spelling.{IsTextOf}
use Rattle.transcript_text.specs.Places.{Left, Takes, FaultAt, ForColumn}
use Rattle.transcript_text.specs.declared.fault.LineFault.{LineFault}
use Rattle.transcript_text.specs.declared.fault.LineFault.TheVariants as fault
use Rattle.transcript_text.specs.declared.words.Mark.{Mark}
use Rattle.transcript_text.proofs.Free.{AllFree, parts-joined, free_of_space, all_free_of_space}
use Rattle.transcript_text.proofs.Sorts.{refusal_plain}
use Rattle.transcript_text.proofs.Matching.{no_fault, no_fault_after}
use Rattle.transcript_text.proofs.Distinct.{same_mark, same_verdict, same_consequence, same_carried, mark_free, consequence_free, carried_free}
use Rattle.transcript_text.proofs.Beginning.{no_fault_begun, begun_free}
use Rattle.transcript_text.proofs.FlightFields.{flight_begins, spaced-flight_fields}
use Rattle.transcript_text.proofs.NoteFields.{note_begins, spaced-note_fields}

-- ---- text

-- one more field before others
spaced_more : (m : List ℕ) (fs : List (List ℕ)) (w : List ℕ) (rest : List (List ℕ)) → fs ≡ w ∷ rest → spaced (m ∷ fs) ≡ m ++ 32 ∷ spaced fs
spaced_more m fs w rest e = rw e refl

spaced-answer : (a : Answer) → spaced (line_fields (line.Answer a)) ≡ mark (line.Answer a) ++ line_text (line.Answer a)
spaced-answer Ok = refl
spaced-answer (No why) = refl

-- the fields of a line make its text
pub spaced-line_fields : (l : Line) → IsLine l → spaced (line_fields l) ≡ mark l ++ line_text l
spaced-line_fields (line.Event e) h =
    let k = is_command e h.0 in
    spaced_more (codes ">") (event_fields e) _ _ k.is ∙ ap (λ (t : List ℕ). codes ">" ++ 32 ∷ t) (spaced-event_fields e)
spaced-line_fields (line.Answer a) h = spaced-answer a
spaced-line_fields (line.Note n) h =
    let b = note_begins n h in
    spaced_more (codes "-") (note_fields n) _ _ b.is ∙ ap (λ (t : List ℕ). codes "-" ++ 32 ∷ t) (spaced-note_fields n)
spaced-line_fields (line.Send l f) h =
    let b = flight_begins f h.1 in
    ap (λ (t : List ℕ). codes "- send " ++ t)
    (spaced_more (link_word l) (flight_fields f) _ _ b.is ∙ ap (λ (t : List ℕ). link_word l ++ 32 ∷ t) (spaced-flight_fields f))

answer_free : (a : Answer) → AllFree 32 (answer_fields a)
answer_free Ok = (refl, tt)
answer_free (No why) = (refl, ((refusal_plain why).0, tt))

after_mark_free : (l : Line) → IsLine l → AllFree 32 (fields_after_mark l)
after_mark_free (line.Event e) h = all_free_of_space (event_fields e) (is_command e h.0).spaceless
after_mark_free (line.Answer a) h = answer_free a
after_mark_free (line.Note n) h = begun_free consequence_word AfterConsequence consequence_free (note_fields n) (note_begins n h)
after_mark_free (line.Send l f) h = (
  refl,
  (
    free_of_space (link_word l) (link_is_spaceless l),
    begun_free carried_word AfterCarried carried_free (flight_fields f) (flight_begins f h.1),
  ),
)

-- the fields of the text of a line
pub parts-line : (l : Line) (octets : List ℕ) → IsTextOf l octets → parts 32 octets ≡ line_fields l
parts-line l octets is =
    ap (parts 32) (is.1 ∙ sym (spaced-line_fields l is.0))
    ∙ parts-joined 32 (mark_word (mark_of l)) (fields_after_mark l) (mark_free (mark_of l), after_mark_free l is.0)

-- a text that is cut into the fields of a line is its text
pub text_of_parts : (l : Line) (octets : List ℕ) → IsLine l → parts 32 octets ≡ line_fields l → IsTextOf l octets
text_of_parts l octets h e = (h, sym (join_with_byte-slice_split 32 octets) ∙ (ap spaced e ∙ spaced-line_fields l h))

-- ---- faults

event_none : (fs : List (List ℕ)) (w : List ℕ) (rest : List (List ℕ)) → fs ≡ w ∷ rest → length (spaced fs) ≤ 20000
    → ((d : ℕ) → IsFaultOf fs d → ⊥) → (fs ≡ codes "drain" ∷ [] → ⊥) → (at c : ℕ) → IsEventFault at fs c → ⊥
event_none [] w rest e short none other at c bad = cc
event_none (f ∷ fs) w rest e short none other at c bad =
    elim bad [
      | inl long ↦ omega (arith, long.0, short)
      | inr within ↦ elim within.1 [ inl some ↦ none some.0 some.1 | inr drain ↦ other drain.0 ]
    ]

-- no event is a drain
no_drain : (e : Event) → IsScripted e → event_fields e ≡ codes "drain" ∷ [] → ⊥
no_drain e h same =
    let text : event_text e ≡ codes "drain" = sym (spaced-event_fields e) ∙ ap spaced same in
    let one = same_line (One e) Drain (event_text e) (h, refl) text in
    cc

event_has_no_fault : (e : Event) → IsScripted e → length (event_text e) ≤ 20000 → (at c : ℕ) → IsEventFault at (event_fields e) c → ⊥
event_has_no_fault e h short =
    let k = is_command e h in
    event_none (event_fields e) _ _ k.is
    (subst (λ (t : List ℕ). length t ≤ 20000) (sym (spaced-event_fields e)) short)
    (λ d bad. no_column (One e) (event_text e) (h, refl) d (subst (λ (fs : List (List ℕ)). IsFaultOf fs d) (sym (fields-event_text e h)) bad))
    (no_drain e h)

answer_has_no_fault : (a : Answer) (at c : ℕ) → IsFaultAfter verdict_word AfterVerdict at (answer_fields a) c → ⊥
answer_has_no_fault Ok = no_fault_after verdict_word AfterVerdict same_verdict verdict.Ok [] (λ at c bad. bad)
answer_has_no_fault (No why) =
    no_fault_after verdict_word AfterVerdict same_verdict verdict.No (refusal_word why ∷ [])
    (λ at c bad. no_fault (Refused ∷ []) (refusal_word why ∷ []) at c ((why, refl), tt) bad)

send_has_no_fault : (l : LinkId) (f : Flight) → IsLine (line.Send l f) → (at c : ℕ) → IsSendFault at (link_word l ∷ flight_fields f) c → ⊥
send_has_no_fault l f h at c bad =
    elim bad [
      | inl here ↦ here.0 (l, h.0, refl)
      | inr more ↦
          no_fault_begun carried_word AfterCarried same_carried (flight_fields f) (flight_begins f h.1) (at + length (link_word l) + 1) c more.1
    ]

has_no_fault : (l : Line) → IsLine l → (at c : ℕ) → AfterMark (mark_of l) at (fields_after_mark l) c → ⊥
has_no_fault (line.Event e) h = event_has_no_fault e h.0 h.1
has_no_fault (line.Answer a) h = answer_has_no_fault a
has_no_fault (line.Note n) h = no_fault_begun consequence_word AfterConsequence same_consequence (note_fields n) (note_begins n h)
has_no_fault (line.Send l f) h =
    no_fault_after consequence_word AfterConsequence same_consequence consequence.Send (link_word l ∷ flight_fields f) (send_has_no_fault l f h)

-- the text of a line has no column
pub line_has_no_column : (l : Line) (octets : List ℕ) → IsTextOf l octets → (c : ℕ) → IsColumn octets c → ⊥
line_has_no_column l octets is c bad =
    no_fault_after mark_word AfterMark same_mark (mark_of l) (fields_after_mark l) (has_no_fault l is.0) 0 c
    (subst (λ (fs : List (List ℕ)). IsFaultAfter mark_word AfterMark 0 fs c) (parts-line l octets is) bad)

-- ---- what a reader says

-- the fault of all fields is the line's
pub column_of : (f : LineFault) (octets : List ℕ) (left : Left) → left.at ≡ 0 → left.fields ≡ parts 32 octets
    → FaultAt (IsFaultAfter mark_word AfterMark) left f → ForColumn f (IsColumn octets)
column_of (fault.Column c) octets left zero start h =
    subst (λ (fs : List (List ℕ)). IsFaultAfter mark_word AfterMark 0 fs c) start
    (subst (λ (a : ℕ). IsFaultAfter mark_word AfterMark a left.fields c) zero h)
column_of fault.Memory octets left zero start h = tt

-- a text with a column is no line's
pub outside_of : (f : LineFault) (octets : List ℕ) → ForColumn f (IsColumn octets) → ForColumn f (λ _. (l : Line) → IsTextOf l octets → ⊥)
outside_of (fault.Column c) octets h = λ l is. line_has_no_column l octets is c h
outside_of fault.Memory octets h = tt

-- a line whose fields were read has the text
pub text_read : (l : Line) (octets : List ℕ) (m : Mark) (old new : Left) → IsLine l → old.fields ≡ parts 32 octets → Takes (mark_word m) old new
    → fields_after_mark l ≡ new.fields → mark_of l ≡ m → IsTextOf l octets
text_read l octets m old new h start taken after is =
    text_of_parts l octets h (sym start ∙ (taken.found ∙ (ap (λ (w : Mark). mark_word w ∷ new.fields) (sym is)
    ∙ ap (λ (fs : List (List ℕ)). mark_word (mark_of l) ∷ fs) (sym after))))
