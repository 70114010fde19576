-- The lines of an event leave the flight that was given.
use Rattle.std.proofs.Common.{ℕ, ◌≡◌, Bool, true, false, List, [], ◌∷◌, Option, Some, None, refl, ◌∙◌}
use Rattle.std.specs.Prelude.{fold}
use Rattle.dc_base.specs.declared.events.Line.{Line}
use Rattle.dc_base.specs.declared.events.Line.TheVariants as line
use Rattle.dc_base.specs.declared.events.Note.{Note}
use Rattle.dc_base.specs.declared.events.Note.TheVariants as note
use Rattle.dc_base.specs.declared.events.Event.{Event}
use Rattle.dc_base.specs.declared.flights.Flight.{Flight}
use Rattle.dc_base.specs.declared.flights.Flight.TheVariants as flight
use Rattle.dc_base.specs.declared.nodes.LinkId.{LinkId}
use Rattle.dc_base.specs.declared.nodes.Node.{Node}
use Rattle.dc_base.specs.declared.nodes.Node.TheVariants.{A, B, M, T}
use Rattle.dc_base.specs.declared.nodes.Want.{Want}
use Rattle.dc_base.specs.declared.records.Plan.{Plan}
use Rattle.dc_base.specs.declared.records.Rec.{Rec}
use Rattle.dc_base.specs.declared.records.Rec.TheVariants as rec
use Rattle.claims.specs.Carrying.{carry, carry_if, carry_plan, carry_with, drawn_by, with_draft}
use Rattle.claims.specs.Drafts.{Draft, command_of, draft}
use Rattle.claims.specs.Noted.{answers, as_send, begun, noted, noted_flight, noted_line, noted_note, noted_record, put}
use Rattle.claims.specs.Past.{Past, Second}
use Rattle.claims.specs.Reading.{plan, second, with_second}
use Rattle.claims.specs.Table.{Command}

second_given : (x : Node) (s : Second) (p : Past) → (with_second x s p).given ≡ p.given
second_given A s p = refl
second_given B s p = refl
second_given T s p = refl
second_given M s p = refl

draft_given : (p : Past) (e : Event) (asker : Option Node) (o : Option Draft) → (with_draft p e asker o).given ≡ p.given
draft_given p e asker None = refl
draft_given p e asker (Some d) = refl

drawn_given : (e : Event) (asker : Option Node) (p : Past) → (drawn_by e asker p).given ≡ p.given
drawn_given e asker p = draft_given p e asker (draft p.table e)

answers_given : (x : Node) (p : Past) → (answers x p).given ≡ p.given
answers_given x p = second_given x (record (second x p) { request = None }) p

begun_given : (o : Option Node) (w : Want) (p : Past) → (begun o w p).given ≡ p.given
begun_given None w p = drawn_given (command_of w) None p
begun_given (Some x) w p = drawn_given (command_of w) (Some x) (answers x p) ∙ answers_given x p

plan_given : (p : Past) (g : ℕ) (c : Command) (o : Option Plan) → (carry_plan p g c o).given ≡ p.given
plan_given p g c None = refl
plan_given p g c (Some q) = refl

carry_if_given : (p : Past) (g : ℕ) (c : Command) (b : Bool) → (carry_if p g c b).given ≡ p.given
carry_if_given p g c false = refl
carry_if_given p g c true = plan_given p g c (plan p g)

carry_with_given : (p : Past) (g : ℕ) (o : Option Command) → (carry_with p g o).given ≡ p.given
carry_with_given p g None = refl
carry_with_given p g (Some c) = carry_if_given p g c _

note_given : (n : Note) (p : Past) → (noted_note n p).given ≡ p.given
note_given (note.Begin w) p = begun_given p.table.sec w p
note_given (note.Join x g) p = second_given x _ p
note_given (note.Leave x g) p = second_given x _ p
note_given (note.Give x id g) p = refl
note_given (note.Own x id g) p = refl
note_given (note.Set id g) p = refl
note_given (note.Unset id) p = refl
note_given (note.Up x id d count sdu) p = refl
note_given (note.Freed id d count) p = refl
note_given (note.Confirmed x) p = second_given x _ p
note_given (note.Refused x w) p = second_given x _ p
note_given note.Done p = refl
note_given note.Rejected p = refl

record_given : (x : Node) (r : Rec) (p : Past) → (noted_record x r p).given ≡ p.given
record_given x (rec.Reconf q key) p = carry_with_given p q.g p.table.command
record_given x (rec.Modref w) p = answers_given x p
record_given x (rec.Chgref w) p = answers_given x p
record_given x (rec.Relcnf q) p = answers_given x p
record_given x (rec.Rcomp g) p = refl
record_given x (rec.Scgf failed) p = refl
record_given x (rec.Recov id) p = refl
record_given x (rec.Recovd id) p = refl
record_given x (rec.Addreq plan' key) p = refl
record_given x (rec.Addack g) p = refl
record_given x (rec.Addrej g) p = refl
record_given x (rec.Modreq plan' key) p = refl
record_given x (rec.Modack g) p = refl
record_given x (rec.Modrej g) p = refl
record_given x (rec.Recfg g) p = refl
record_given x (rec.Relreq plan') p = refl
record_given x (rec.Relack g) p = refl
record_given x (rec.Relrej g) p = refl
record_given x (rec.Uecr g) p = refl
record_given x (rec.Snst status) p = refl
record_given x (rec.Moved g id) p = refl
record_given x (rec.Scgn id g) p = refl
record_given x rec.Modrqd p = refl
record_given x (rec.Modcnf g) p = refl
record_given x rec.Chgrqd p = refl
record_given x (rec.Chgcnf plan') p = refl
record_given x rec.Relrqd p = refl

flight_given : (l : LinkId) (f : Flight) (p : Past) → (noted_flight l f p).given ≡ p.given
flight_given l (flight.Ctl r) p = record_given l.to r p
flight_given l (flight.Told id g count) p = refl
flight_given l (flight.Air id g num tag pdu) p = refl
flight_given l (flight.Ack id g num) p = refl
flight_given l (flight.Tun tag packet) p = refl
flight_given l (flight.Sdu id g sdu) p = refl
flight_given l (flight.End id g) p = refl

put_given : (o : Option (LinkId × Flight)) (l : LinkId) (f : Flight) (p : Past) → (as_send o l f p).given ≡ p.given
put_given None l f p = refl
put_given (Some s) l f p = refl

-- one line
pub given_kept : (p : Past) (x : Line) → (noted p x).given ≡ p.given
given_kept p (line.Note n) = note_given n p
given_kept p (line.Send l f) = flight_given l f (put l f p) ∙ put_given p.copied l f p
given_kept p (line.Event e) = refl
given_kept p (line.Answer a) = refl

-- several
pub all_given_kept : (xs : List Line) (p : Past) → (fold noted p xs).given ≡ p.given
all_given_kept [] p = refl
all_given_kept (x ∷ xs) p = all_given_kept xs (noted p x) ∙ given_kept p x
