-- Plans, roots and the algorithm stay at an event that draws no command.
use Rattle.std.proofs.Common.{ℕ, ◌≡◌, true, false, List, [], ◌∷◌, Option, Some, None, refl, ap, ◌∙◌}
use Rattle.std.specs.Prelude.{fold}
use Rattle.dc_base.specs.declared.answers.Answer.{Answer}
use Rattle.dc_base.specs.declared.answers.Answer.TheVariants as answer
use Rattle.dc_base.specs.declared.events.Event.{Event}
use Rattle.dc_base.specs.declared.events.Event.TheVariants as event
use Rattle.dc_base.specs.declared.events.Line.{Line}
use Rattle.dc_base.specs.declared.events.Line.TheVariants as line
use Rattle.dc_base.specs.declared.events.Note.{Note}
use Rattle.dc_base.specs.declared.events.Note.TheVariants as note
use Rattle.dc_base.specs.declared.flights.Flight.{Flight}
use Rattle.dc_base.specs.declared.flights.Flight.TheVariants as flight
use Rattle.dc_base.specs.declared.nodes.Dir.TheVariants.{Dl, Ul}
use Rattle.dc_base.specs.declared.nodes.LinkId.{LinkId}
use Rattle.dc_base.specs.declared.records.Rec.{Rec}
use Rattle.dc_base.specs.declared.records.Rec.TheVariants as rec
use Rattle.claims.specs.Drafts.{Draft, draft}
use Rattle.claims.specs.Judged.{judged}
use Rattle.claims.specs.Noted.{after, noted}
use Rattle.claims.specs.Past.{Past}
use Rattle.claims.specs.Reading.{Setting, setting}
use Rattle.transcript.specs.Transcript.{Entry}
use Rattle.run_receivers.specs.Pdus.{Ciphering}
use Rattle.run_uplinks.specs.Seen.{Seen, answered, seen, setting_in, with_event, with_flight, with_given, with_line, with_note, with_record}
use Rattle.run_uplinks.specs.Uplinks.{Plane, plane}
use Rattle.run_uplinks.proofs.Lines.{NoneBegins}
use Rattle.run_uplinks.proofs.Seeing.{flight_at, judged_seen, noted_seen}
use Rattle.key_chain.specs.KeyNames.{octets}
use Rattle.run_received.specs.Changes.{draws_none}
use Rattle.run_received.specs.Receivers.{ciphering_of}

note_plane : (s : Seen) (n : Note) → plane (with_note s n) ≡ plane s
note_plane s (note.Begin w) = refl
note_plane s (note.Join x g) = refl
note_plane s (note.Leave x g) = refl
note_plane s (note.Give x id g) = refl
note_plane s (note.Own x id g) = refl
note_plane s (note.Set id g) = refl
note_plane s (note.Unset id) = refl
note_plane s (note.Up x id d count sdu) = refl
note_plane s (note.Freed id Dl count) = refl
note_plane s (note.Freed id Ul count) = refl
note_plane s (note.Confirmed x) = refl
note_plane s (note.Refused x w) = refl
note_plane s note.Done = refl
note_plane s note.Rejected = refl

line_plane : (s : Seen) (x : Line) → plane (with_line s x) ≡ plane s
line_plane s (line.Note n) = note_plane s n
line_plane s (line.Send l f) = refl
line_plane s (line.Event e) = refl
line_plane s (line.Answer a) = refl

lines_plane : (xs : List Line) (p : Past) → NoneBegins xs → plane (seen (fold noted p xs)) ≡ plane (seen p)
lines_plane [] p none = refl
lines_plane (x ∷ xs) p none = lines_plane xs (noted p x) none.1 ∙ ap plane (noted_seen p x none.0) ∙ line_plane (seen p) x

record_plane : (s : Seen) (r : Rec) → plane (with_record r s) ≡ plane s
record_plane s (rec.Reconf q key) = refl
record_plane s (rec.Rcomp g) = refl
record_plane s (rec.Scgf pairs) = refl
record_plane s (rec.Recov k) = refl
record_plane s (rec.Recovd k) = refl
record_plane s (rec.Addreq q key) = refl
record_plane s (rec.Addack g) = refl
record_plane s (rec.Addrej g) = refl
record_plane s (rec.Modreq q key) = refl
record_plane s (rec.Modack g) = refl
record_plane s (rec.Modrej g) = refl
record_plane s (rec.Recfg g) = refl
record_plane s (rec.Relreq q) = refl
record_plane s (rec.Relack g) = refl
record_plane s (rec.Relrej g) = refl
record_plane s (rec.Uecr g) = refl
record_plane s (rec.Snst st) = refl
record_plane s (rec.Moved g k) = refl
record_plane s (rec.Scgn k g) = refl
record_plane s rec.Modrqd = refl
record_plane s (rec.Modcnf g) = refl
record_plane s (rec.Modref w) = refl
record_plane s rec.Chgrqd = refl
record_plane s (rec.Chgcnf q) = refl
record_plane s (rec.Chgref w) = refl
record_plane s rec.Relrqd = refl
record_plane s (rec.Relcnf q) = refl

flight_plane : (s : Seen) (f : Flight) → plane (with_flight f s) ≡ plane s
flight_plane s (flight.Ctl r) = record_plane s r
flight_plane s (flight.Air id g num tag pdu) = refl
flight_plane s (flight.Ack id g num) = refl
flight_plane s (flight.Tun tag packet) = refl
flight_plane s (flight.Sdu id g sdu) = refl
flight_plane s (flight.End id g) = refl
flight_plane s (flight.Told id g count) = refl

given_plane : (s : Seen) (o : Option (LinkId × Flight)) → plane (with_given o s) ≡ plane s
given_plane s None = refl
given_plane s (Some x) = flight_plane s x.1

event_plane : (d : Option Draft) (o : Option (LinkId × Flight)) (e : Event) (s : Seen) → draws_none e ≡ true → plane (with_event d o e s) ≡ plane s
event_plane d o (event.Bearer id n first shape threshold policy) s none = absurd (let bad : false ≡ true = none in cc)
event_plane d o (event.Reshape id shape) s none = absurd (let bad : false ≡ true = none in cc)
event_plane d o (event.Remove id) s none = absurd (let bad : false ≡ true = none in cc)
event_plane d o (event.Add x) s none = absurd (let bad : false ≡ true = none in cc)
event_plane d o event.Change s none = absurd (let bad : false ≡ true = none in cc)
event_plane d o event.Release s none = absurd (let bad : false ≡ true = none in cc)
event_plane d o event.RekeySecond s none = absurd (let bad : false ≡ true = none in cc)
event_plane d o (event.RekeyMaster root) s none = absurd (let bad : false ≡ true = none in cc)
event_plane d o (event.Recover id) s none = refl
event_plane d o (event.Submit id Dl sdu) s none = refl
event_plane d o (event.Submit id Ul sdu) s none = refl
event_plane d o (event.Report x id) s none = refl
event_plane d o (event.Deny x on) s none = refl
event_plane d o (event.Ask x w) s none = refl
event_plane d o event.ScgFail s none = refl
event_plane d o (event.Step l i) s none = given_plane s o
event_plane d o (event.Lose l i) s none = refl
event_plane d o (event.Again l i) s none = refl

answer_plane : (d : Option Draft) (o : Option (LinkId × Flight)) (e : Event) (a : Answer) (s : Seen) → draws_none e ≡ true
    → plane (answered d o e a s) ≡ plane s
answer_plane d o e answer.Ok s none = event_plane d o e s none
answer_plane d o e (answer.No why) s none = refl

-- of an event whose lines begin no command either
pub plane_after : (p : Past) (x : Entry) → draws_none x.event ≡ true → NoneBegins x.lines → plane (seen (after p x)) ≡ plane (seen p)
plane_after p x none begins =
    lines_plane x.lines (judged x.event x.answer p) begins
    ∙ ap plane (judged_seen x.event x.answer p)
    ∙ answer_plane (draft p.table x.event) (flight_at p.standing x.event) x.event x.answer (seen p) none

-- then plans set the same
pub same_setting : (p q : Past) → plane (seen q) ≡ plane (seen p) → (id g : ℕ) → setting q id g ≡ setting p id g
same_setting p q same id g = ap (λ (k : Plane). setting_in k.plans id g) same

-- and PDUs are ciphered alike
pub same_ciphering : (p q : Past) → plane (seen q) ≡ plane (seen p) → (id : ℕ) (s : Setting) → ciphering_of q id s ≡ ciphering_of p id s
same_ciphering p q same id s = ap {B = Ciphering} (λ (k : Plane). record { alg = k.alg; key = octets k.roots s.key; id = id; d = Ul }) same
