-- The flight that an event gives, and the one that it copies, are the same at each of its lines.
use Rattle.std.proofs.Common.{ℕ, ◌≡◌, Bool, true, false, Option, Some, None, refl, ◌∙◌}
use Rattle.std.specs.Prelude.{is_some}
use Rattle.dc_base.specs.declared.events.Event.{Event}
use Rattle.dc_base.specs.declared.events.Line.{Line}
use Rattle.dc_base.specs.declared.events.Line.TheVariants as line
use Rattle.dc_base.specs.declared.events.Note.{Note}
use Rattle.dc_base.specs.declared.events.Note.TheVariants as note
use Rattle.dc_base.specs.declared.flights.Flight.{Flight}
use Rattle.dc_base.specs.declared.flights.Flight.TheVariants as flight
use Rattle.dc_base.specs.declared.nodes.LinkId.{LinkId}
use Rattle.dc_base.specs.declared.nodes.Node.{Node}
use Rattle.dc_base.specs.declared.nodes.Node.TheVariants.{A, B, M, T}
use Rattle.dc_base.specs.declared.nodes.Want.{Want}
use Rattle.dc_base.specs.declared.records.Plan.{Plan}
use Rattle.dc_base.specs.declared.records.Rec.{Rec}
use Rattle.dc_base.specs.declared.records.Rec.TheVariants as rec
use Rattle.claims.specs.Carrying.{carry_if, carry_plan, carry_with, with_draft}
use Rattle.claims.specs.Drafts.{Draft, command_of, draft}
use Rattle.claims.specs.Noted.{answers, as_send, begun, noted, noted_flight, noted_line, noted_note, noted_record, put}
use Rattle.claims.specs.Packets.{packet_of}
use Rattle.claims.specs.Past.{Bearer, Past, Second}
use Rattle.claims.specs.Reading.{Setting, bearer_of, holds, plan, setting, with_second}
use Rattle.claims.specs.Table.{Command}
use Rattle.claims.specs.Taking.{delivered, delivered_to, on_delivery, on_forward, on_pdu, on_record, on_set_pdu, taken_from}
use Rattle.claims.specs.Views.{Delivery, Pdu, delivery_in, forwarding_in, pdu_in, pdu_of}

-- both
abbrev pub context : Past → Option (LinkId × Flight) × Option (LinkId × Flight)
context p = (p.given, p.copied)

second_context : (x : Node) (s : Second) (p : Past) → context (with_second x s p) ≡ context p
second_context T s p = refl
second_context M s p = refl
second_context A s p = refl
second_context B s p = refl

-- ---- notes

draft_context : (p : Past) (e : Event) (asker : Option Node) (o : Option Draft) → context (with_draft p e asker o) ≡ context p
draft_context p e asker None = refl
draft_context p e asker (Some d) = refl

begun_context : (o : Option Node) (w : Want) (p : Past) → context (begun o w p) ≡ context p
begun_context None w p = draft_context p (command_of w) None (draft p.table (command_of w))
begun_context (Some x) w p = let q = answers x p in draft_context q (command_of w) (Some x) (draft q.table (command_of w)) ∙ second_context x _ p

note_context : (n : Note) (p : Past) → context (noted_note n p) ≡ context p
note_context (note.Begin w) p = begun_context p.table.sec w p
note_context (note.Join x g) p = second_context x _ p
note_context (note.Leave x g) p = second_context x _ p
note_context (note.Give x id g) p = refl
note_context (note.Own x id g) p = refl
note_context (note.Set id g) p = refl
note_context (note.Unset id) p = refl
note_context (note.Up x id d count sdu) p = refl
note_context (note.Freed id d count) p = refl
note_context (note.Confirmed x) p = second_context x _ p
note_context (note.Refused x w) p = second_context x _ p
note_context note.Done p = refl
note_context note.Rejected p = refl

-- ---- sends

plan_context : (p : Past) (g : ℕ) (c : Command) (o : Option Plan) → context (carry_plan p g c o) ≡ context p
plan_context p g c None = refl
plan_context p g c (Some q) = refl

carry_if_context : (p : Past) (g : ℕ) (c : Command) (is : Bool) → context (carry_if p g c is) ≡ context p
carry_if_context p g c false = refl
carry_if_context p g c true = plan_context p g c (plan p g)

carry_context : (p : Past) (g : ℕ) (o : Option Command) → context (carry_with p g o) ≡ context p
carry_context p g None = refl
carry_context p g (Some c) = carry_if_context p g c _

record_context : (x : Node) (r : Rec) (p : Past) → context (noted_record x r p) ≡ context p
record_context x (rec.Reconf q key) p = carry_context p q.g p.table.command
record_context x (rec.Rcomp g) p = refl
record_context x (rec.Scgf pairs) p = refl
record_context x (rec.Recov id) p = refl
record_context x (rec.Recovd id) p = refl
record_context x (rec.Addreq q key) p = refl
record_context x (rec.Addack g) p = refl
record_context x (rec.Addrej g) p = refl
record_context x (rec.Modreq q key) p = refl
record_context x (rec.Modack g) p = refl
record_context x (rec.Modrej g) p = refl
record_context x (rec.Recfg g) p = refl
record_context x (rec.Relreq q) p = refl
record_context x (rec.Relack g) p = refl
record_context x (rec.Relrej g) p = refl
record_context x (rec.Uecr g) p = refl
record_context x (rec.Snst s) p = refl
record_context x (rec.Moved g id) p = refl
record_context x (rec.Scgn id g) p = refl
record_context x rec.Modrqd p = refl
record_context x (rec.Modcnf g) p = refl
record_context x (rec.Modref w) p = second_context x _ p
record_context x rec.Chgrqd p = refl
record_context x (rec.Chgcnf q) p = refl
record_context x (rec.Chgref w) p = second_context x _ p
record_context x rec.Relrqd p = refl
record_context x (rec.Relcnf q) p = second_context x _ p

flight_context : (l : LinkId) (f : Flight) (p : Past) → context (noted_flight l f p) ≡ context p
flight_context l (flight.Air id g num tag pdu) p = refl
flight_context l (flight.Ack id g num) p = refl
flight_context l (flight.Tun tag packet) p = refl
flight_context l (flight.Sdu id g sdu) p = refl
flight_context l (flight.End id g) p = refl
flight_context l (flight.Told id g count) p = refl
flight_context l (flight.Ctl r) p = record_context l.to r p

sent_context : (o : Option (LinkId × Flight)) (l : LinkId) (f : Flight) (p : Past) → context (as_send o l f p) ≡ context p
sent_context None l f p = refl
sent_context (Some s) l f p = refl

line_context : (x : Line) (p : Past) → context (noted_line x p) ≡ context p
line_context (line.Note n) p = note_context n p
line_context (line.Send l f) p = flight_context l f (put l f p) ∙ sent_context p.copied l f p
line_context (line.Event e) p = refl
line_context (line.Answer a) p = refl

-- at a line
pub noted_context : (p : Past) (x : Line) → context (noted p x) ≡ context p
noted_context p x = line_context x p

-- ---- a flight that is taken

set_pdu_context : (l : LinkId) (u : Pdu) (p : Past) (o : Option Setting) → context (on_set_pdu l u p o) ≡ context p
set_pdu_context l u p None = refl
set_pdu_context l u p (Some s) = refl

pdu_context : (l : LinkId) (o : Option Pdu) (p : Past) → context (on_pdu l o p) ≡ context p
pdu_context l None p = refl
pdu_context l (Some u) p = set_pdu_context l u p (setting p u.id u.g)

delivered_context : (is : Bool) (l : LinkId) (v : Delivery) (b : Bearer) (p : Past) → context (delivered is l v b p) ≡ context p
delivered_context false l v b p = refl
delivered_context true l v b p = refl

delivered_to_context : (l : LinkId) (v : Delivery) (p : Past) (o : Option Bearer) → context (delivered_to l v p o) ≡ context p
delivered_to_context l v p None = refl
delivered_to_context l v p (Some b) = delivered_context (holds l.to v.g b.holder) l v b p

delivery_context : (l : LinkId) (o : Option Delivery) (p : Past) → context (on_delivery l o p) ≡ context p
delivery_context l None p = refl
delivery_context l (Some v) p = delivered_to_context l v p (bearer_of p v.id v.g)

forward_context : (l : LinkId) (f : Flight) (is : Bool) (p : Past) → context (on_forward l f is p) ≡ context p
forward_context l f false p = refl
forward_context l f true p = refl

on_record_context : (l : LinkId) (r : Rec) (p : Past) → context (on_record l r p) ≡ context p
on_record_context l (rec.Reconf q key) p = refl
on_record_context l (rec.Rcomp g) p = refl
on_record_context l (rec.Scgf pairs) p = refl
on_record_context l (rec.Recov id) p = refl
on_record_context l (rec.Recovd id) p = refl
on_record_context l (rec.Addreq q key) p = refl
on_record_context l (rec.Addack g) p = refl
on_record_context l (rec.Addrej g) p = refl
on_record_context l (rec.Modreq q key) p = refl
on_record_context l (rec.Modack g) p = refl
on_record_context l (rec.Modrej g) p = refl
on_record_context l (rec.Recfg g) p = refl
on_record_context l (rec.Relreq q) p = refl
on_record_context l (rec.Relack g) p = refl
on_record_context l (rec.Relrej g) p = refl
on_record_context l (rec.Uecr g) p = refl
on_record_context l (rec.Snst s) p = refl
on_record_context l (rec.Moved g id) p = refl
on_record_context l (rec.Scgn id g) p = refl
on_record_context l rec.Modrqd p = second_context l.from _ p
on_record_context l (rec.Modcnf g) p = refl
on_record_context l (rec.Modref w) p = refl
on_record_context l rec.Chgrqd p = second_context l.from _ p
on_record_context l (rec.Chgcnf q) p = refl
on_record_context l (rec.Chgref w) p = refl
on_record_context l rec.Relrqd p = second_context l.from _ p
on_record_context l (rec.Relcnf q) p = refl

-- as a flight is taken
pub taken_context : (l : LinkId) (f : Flight) (p : Past) → context (taken_from l f p) ≡ context p
taken_context l (flight.Air id g num tag pdu) p = pdu_context l (pdu_of (flight.Air id g num tag pdu)) p
taken_context l (flight.Ack id g num) p = refl
taken_context l (flight.Tun tag packet) p =
    let view = packet_of packet in
    let q = on_pdu l (pdu_in tag view) p in
    forward_context l (flight.Tun tag packet) (is_some (forwarding_in view)) (on_delivery l (delivery_in tag view) q) ∙ delivery_context l (delivery_in tag view) q ∙ pdu_context l (pdu_in tag view) p
taken_context l (flight.Sdu id g sdu) p = refl
taken_context l (flight.End id g) p = refl
taken_context l (flight.Told id g count) p = refl
taken_context l (flight.Ctl r) p = on_record_context l r p
