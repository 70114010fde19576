-- The steps of the past leave how many policies were handed in.
use Rattle.std.proofs.Common.{ℕ, ◌≡◌, Bool, true, false, List, [], ◌∷◌, Option, Some, None, refl, ◌∙◌}
use Rattle.std.specs.Prelude.{fold, is_some}
use Rattle.dc_base.specs.declared.answers.Answer.{Answer}
use Rattle.dc_base.specs.declared.answers.Answer.TheVariants as answer
use Rattle.dc_base.specs.declared.answers.Refusal.{Refusal}
use Rattle.dc_base.specs.declared.answers.Refusal.TheVariants as refusal
use Rattle.dc_base.specs.declared.events.Event.{Event}
use Rattle.dc_base.specs.declared.events.Event.TheVariants as event
use Rattle.dc_base.specs.declared.events.Line.{Line}
use Rattle.dc_base.specs.declared.events.Line.TheVariants as line
use Rattle.dc_base.specs.declared.events.Note.{Note}
use Rattle.dc_base.specs.declared.events.Note.TheVariants as note
use Rattle.dc_base.specs.declared.flights.Flight.{Flight}
use Rattle.dc_base.specs.declared.flights.Flight.TheVariants as flight
use Rattle.dc_base.specs.declared.nodes.LinkId.{LinkId}
use Rattle.dc_base.specs.declared.nodes.Node.{Node}
use Rattle.dc_base.specs.declared.nodes.Node.TheVariants.{T, M, A, B}
use Rattle.dc_base.specs.declared.nodes.Want.{Want}
use Rattle.dc_base.specs.declared.records.Plan.{Plan}
use Rattle.dc_base.specs.declared.records.Rec.{Rec}
use Rattle.dc_base.specs.declared.records.Rec.TheVariants as rec
use Rattle.transcript.specs.Transcript.{Entry}
use Rattle.claims.specs.Links.{find_at, without}
use Rattle.claims.specs.Packets.{packet_of}
use Rattle.claims.specs.Views.{Delivery, Pdu, delivery_in, forwarding_in, forwarding_of, owner_of, pdu_in, pdu_of}
use Rattle.claims.specs.Table.{Command}
use Rattle.claims.specs.Past.{Bearer, Past, Second}
use Rattle.claims.specs.Reading.{Setting, bearer_of, holds, on_latest, plan, setting, with_second}
use Rattle.claims.specs.Drafts.{Draft, command_of, draft}
use Rattle.claims.specs.Carrying.{carry, carry_if, carry_plan, carry_with, drawn_by, with_draft}
use Rattle.claims.specs.Taking.{delivered, delivered_to, given_if, on_delivery, on_forward, on_pdu, on_record, on_set_pdu, taken_from}
use Rattle.claims.specs.Judged.{accepted, aged, forward_lost, judged, lost_if, own_lost, refused, trouble}
use Rattle.claims.specs.Noted.{after, answers, as_send, begun, noted, noted_flight, noted_line, noted_note, noted_record, put}

-- ---- what draws, carries out and answers

second_policies : (x : Node) (s : Second) (p : Past) → (with_second x s p).policies ≡ p.policies
second_policies T s p = refl
second_policies M s p = refl
second_policies A s p = refl
second_policies B s p = refl

draft_policies : (e : Event) (asker : Option Node) (p : Past) (o : Option Draft) → (with_draft p e asker o).policies ≡ p.policies
draft_policies e asker p None = refl
draft_policies e asker p (Some d) = refl

drawn_policies : (e : Event) (asker : Option Node) (p : Past) → (drawn_by e asker p).policies ≡ p.policies
drawn_policies e asker p = draft_policies e asker p (draft p.table e)

plan_policies : (g : ℕ) (p : Past) (c : Command) (o : Option Plan) → (carry_plan p g c o).policies ≡ p.policies
plan_policies g p c None = refl
plan_policies g p c (Some q) = refl

carry_if_policies : (g : ℕ) (p : Past) (c : Command) (is : Bool) → (carry_if p g c is).policies ≡ p.policies
carry_if_policies g p c false = refl
carry_if_policies g p c true = plan_policies g p c (plan p g)

carry_with_policies : (g : ℕ) (p : Past) (o : Option Command) → (carry_with p g o).policies ≡ p.policies
carry_with_policies g p None = refl
carry_with_policies g p (Some c) = carry_if_policies g p c _

carry_policies : (g : ℕ) (p : Past) → (carry g p).policies ≡ p.policies
carry_policies g p = carry_with_policies g p p.table.command

begun_policies : (o : Option Node) (w : Want) (p : Past) → (begun o w p).policies ≡ p.policies
begun_policies None w p = drawn_policies (command_of w) None p
begun_policies (Some x) w p = drawn_policies (command_of w) (Some x) (answers x p) ∙ second_policies x _ p

-- ---- a line

note_policies : (n : Note) (p : Past) → (noted_note n p).policies ≡ p.policies
note_policies (note.Begin w) p = begun_policies p.table.sec w p
note_policies (note.Join x g) p = second_policies x _ p
note_policies (note.Leave x g) p = second_policies x _ p
note_policies (note.Give x id g) p = refl
note_policies (note.Own x id g) p = refl
note_policies (note.Set id g) p = refl
note_policies (note.Unset id) p = refl
note_policies (note.Up x id d count sdu) p = refl
note_policies (note.Freed id d count) p = refl
note_policies (note.Confirmed x) p = second_policies x _ p
note_policies (note.Refused x w) p = second_policies x _ p
note_policies note.Done p = refl
note_policies note.Rejected p = refl

record_policies : (x : Node) (r : Rec) (p : Past) → (noted_record x r p).policies ≡ p.policies
record_policies x (rec.Reconf q key) p = carry_policies q.g p
record_policies x (rec.Rcomp g) p = refl
record_policies x (rec.Scgf pairs) p = refl
record_policies x (rec.Recov id) p = refl
record_policies x (rec.Recovd id) p = refl
record_policies x (rec.Addreq q key) p = refl
record_policies x (rec.Addack g) p = refl
record_policies x (rec.Addrej g) p = refl
record_policies x (rec.Modreq q key) p = refl
record_policies x (rec.Modack g) p = refl
record_policies x (rec.Modrej g) p = refl
record_policies x (rec.Recfg g) p = refl
record_policies x (rec.Relreq q) p = refl
record_policies x (rec.Relack g) p = refl
record_policies x (rec.Relrej g) p = refl
record_policies x (rec.Uecr g) p = refl
record_policies x (rec.Snst s) p = refl
record_policies x (rec.Moved g id) p = refl
record_policies x (rec.Scgn id g) p = refl
record_policies x rec.Modrqd p = refl
record_policies x (rec.Modcnf g) p = refl
record_policies x (rec.Modref w) p = second_policies x _ p
record_policies x rec.Chgrqd p = refl
record_policies x (rec.Chgcnf q) p = refl
record_policies x (rec.Chgref w) p = second_policies x _ p
record_policies x rec.Relrqd p = refl
record_policies x (rec.Relcnf q) p = second_policies x _ p

flight_policies : (l : LinkId) (f : Flight) (p : Past) → (noted_flight l f p).policies ≡ p.policies
flight_policies l (flight.Air id g num tag pdu) p = refl
flight_policies l (flight.Ack id g num) p = refl
flight_policies l (flight.Tun tag packet) p = refl
flight_policies l (flight.Sdu id g sdu) p = refl
flight_policies l (flight.End id g) p = refl
flight_policies l (flight.Told id g count) p = refl
flight_policies l (flight.Ctl r) p = record_policies l.to r p

as_send_policies : (o : Option (LinkId × Flight)) (l : LinkId) (f : Flight) (p : Past) → (as_send o l f p).policies ≡ p.policies
as_send_policies None l f p = refl
as_send_policies (Some s) l f p = refl

put_policies : (l : LinkId) (f : Flight) (p : Past) → (put l f p).policies ≡ p.policies
put_policies l f p = as_send_policies p.copied l f p

line_policies : (x : Line) (p : Past) → (noted_line x p).policies ≡ p.policies
line_policies (line.Note n) p = note_policies n p
line_policies (line.Send l f) p = flight_policies l f (put l f p) ∙ put_policies l f p
line_policies (line.Event e) p = refl
line_policies (line.Answer a) p = refl

-- a line of an event
noted_policies : (p : Past) (x : Line) → (noted p x).policies ≡ p.policies
noted_policies p x = line_policies x p

-- several lines
all_noted_policies : (xs : List Line) (p : Past) → (fold noted p xs).policies ≡ p.policies
all_noted_policies [] p = refl
all_noted_policies (x ∷ xs) p = all_noted_policies xs (noted p x) ∙ noted_policies p x

-- ---- an event

own_policies : (o : Option (ℕ × ℕ)) (p : Past) → (own_lost o p).policies ≡ p.policies
own_policies None p = refl
own_policies (Some x) p = refl

forward_policies : (o : Option (ℕ × ℕ)) (p : Past) → (forward_lost o p).policies ≡ p.policies
forward_policies None p = refl
forward_policies (Some x) p = refl

lost_policies : (o : Option (LinkId × Flight)) (p : Past) → (lost_if o p).policies ≡ p.policies
lost_policies None p = refl
lost_policies (Some s) p =
    let q = record p { bearers = trouble p.bearers } in
    forward_policies (forwarding_of s.1) (own_lost (owner_of s.1) q) ∙ own_policies (owner_of s.1) q

set_pdu_policies : (l : LinkId) (u : Pdu) (p : Past) (o : Option Setting) → (on_set_pdu l u p o).policies ≡ p.policies
set_pdu_policies l u p None = refl
set_pdu_policies l u p (Some s) = refl

pdu_policies : (l : LinkId) (o : Option Pdu) (p : Past) → (on_pdu l o p).policies ≡ p.policies
pdu_policies l None p = refl
pdu_policies l (Some u) p = set_pdu_policies l u p (setting p u.id u.g)

delivered_policies : (is : Bool) (l : LinkId) (v : Delivery) (b : Bearer) (p : Past) → (delivered is l v b p).policies ≡ p.policies
delivered_policies false l v b p = refl
delivered_policies true l v b p = refl

delivered_to_policies : (l : LinkId) (v : Delivery) (p : Past) (o : Option Bearer) → (delivered_to l v p o).policies ≡ p.policies
delivered_to_policies l v p None = refl
delivered_to_policies l v p (Some b) = delivered_policies (holds l.to v.g b.holder) l v b p

delivery_policies : (l : LinkId) (o : Option Delivery) (p : Past) → (on_delivery l o p).policies ≡ p.policies
delivery_policies l None p = refl
delivery_policies l (Some v) p = delivered_to_policies l v p (bearer_of p v.id v.g)

on_forward_policies : (l : LinkId) (f : Flight) (is : Bool) (p : Past) → (on_forward l f is p).policies ≡ p.policies
on_forward_policies l f false p = refl
on_forward_policies l f true p = refl

on_record_policies : (l : LinkId) (r : Rec) (p : Past) → (on_record l r p).policies ≡ p.policies
on_record_policies l (rec.Reconf q key) p = refl
on_record_policies l (rec.Rcomp g) p = refl
on_record_policies l (rec.Scgf pairs) p = refl
on_record_policies l (rec.Recov id) p = refl
on_record_policies l (rec.Recovd id) p = refl
on_record_policies l (rec.Addreq q key) p = refl
on_record_policies l (rec.Addack g) p = refl
on_record_policies l (rec.Addrej g) p = refl
on_record_policies l (rec.Modreq q key) p = refl
on_record_policies l (rec.Modack g) p = refl
on_record_policies l (rec.Modrej g) p = refl
on_record_policies l (rec.Recfg g) p = refl
on_record_policies l (rec.Relreq q) p = refl
on_record_policies l (rec.Relack g) p = refl
on_record_policies l (rec.Relrej g) p = refl
on_record_policies l (rec.Uecr g) p = refl
on_record_policies l (rec.Snst s) p = refl
on_record_policies l (rec.Moved g id) p = refl
on_record_policies l (rec.Scgn id g) p = refl
on_record_policies l rec.Modrqd p = second_policies l.from _ p
on_record_policies l (rec.Modcnf g) p = refl
on_record_policies l (rec.Modref w) p = refl
on_record_policies l rec.Chgrqd p = second_policies l.from _ p
on_record_policies l (rec.Chgcnf q) p = refl
on_record_policies l (rec.Chgref w) p = refl
on_record_policies l rec.Relrqd p = second_policies l.from _ p
on_record_policies l (rec.Relcnf q) p = refl

taken_policies : (l : LinkId) (f : Flight) (p : Past) → (taken_from l f p).policies ≡ p.policies
taken_policies l (flight.Air id g num tag pdu) p = pdu_policies l (pdu_of (flight.Air id g num tag pdu)) p
taken_policies l (flight.Ack id g num) p = refl
taken_policies l (flight.Tun tag packet) p =
    let seen = packet_of packet in
    let q = on_pdu l (pdu_in tag seen) p in
    on_forward_policies l (flight.Tun tag packet) (is_some (forwarding_in seen)) (on_delivery l (delivery_in tag seen) q)
    ∙ delivery_policies l (delivery_in tag seen) q ∙ pdu_policies l (pdu_in tag seen) p
taken_policies l (flight.Sdu id g sdu) p = refl
taken_policies l (flight.End id g) p = refl
taken_policies l (flight.Told id g count) p = refl
taken_policies l (flight.Ctl r) p = on_record_policies l r p

given_policies : (o : Option (LinkId × Flight)) (p : Past) → (given_if o p).policies ≡ p.policies
given_policies None p = refl
given_policies (Some s) p = taken_policies s.0 s.1 (record p { given = Some s })

accepted_policies : (e : Event) (p : Past) → (accepted e p).policies ≡ p.policies
accepted_policies (event.Bearer id n first shape threshold policy) p = drawn_policies (event.Bearer id n first shape threshold policy) None p
accepted_policies (event.Reshape id shape) p = drawn_policies (event.Reshape id shape) None p
accepted_policies (event.Remove id) p = drawn_policies (event.Remove id) None (record p { bearers = on_latest id (λ b. record b { is_dropped = true }) p.bearers })
accepted_policies (event.Add x) p = drawn_policies (event.Add x) None p
accepted_policies event.Change p = drawn_policies event.Change None p
accepted_policies event.Release p = drawn_policies event.Release None p
accepted_policies event.RekeySecond p = drawn_policies event.RekeySecond None p
accepted_policies (event.RekeyMaster root) p = drawn_policies (event.RekeyMaster root) None p
accepted_policies (event.Recover id) p = refl
accepted_policies (event.Report x id) p = refl
accepted_policies (event.Deny x on) p = second_policies x _ p
accepted_policies (event.Ask x w) p = second_policies x _ p
accepted_policies event.ScgFail p = refl
accepted_policies (event.Submit id d sdu) p = refl
accepted_policies (event.Step l i) p = given_policies (find_at l i p.standing) (record p { standing = without l i p.standing })
accepted_policies (event.Lose l i) p = lost_policies (find_at l i p.standing) (record p { standing = without l i p.standing })
accepted_policies (event.Again l i) p = refl

aged_policies : (e : Event) (p : Past) → (aged e p).policies ≡ p.policies
aged_policies (event.Bearer id n first shape threshold policy) p = refl
aged_policies (event.Reshape id shape) p = refl
aged_policies (event.Remove id) p = refl
aged_policies (event.Add x) p = refl
aged_policies event.Change p = refl
aged_policies event.Release p = refl
aged_policies event.RekeySecond p = refl
aged_policies (event.RekeyMaster root) p = refl
aged_policies (event.Recover id) p = refl
aged_policies (event.Report x id) p = refl
aged_policies (event.Deny x on) p = refl
aged_policies (event.Ask x w) p = refl
aged_policies event.ScgFail p = refl
aged_policies (event.Submit id d sdu) p = refl
aged_policies (event.Step l i) p = refl
aged_policies (event.Lose l i) p = refl
aged_policies (event.Again l i) p = refl

refused_policies : (why : Refusal) (e : Event) (p : Past) → (refused why e p).policies ≡ p.policies
refused_policies refusal.NoBearer e p = refl
refused_policies refusal.BearerThere e p = refl
refused_policies refusal.Busy e p = refl
refused_policies refusal.NoSecondary e p = refl
refused_policies refusal.SecondaryThere e p = refl
refused_policies refusal.SameShape e p = refl
refused_policies refusal.IdSpent e p = refl
refused_policies refusal.CounterSpent e p = refl
refused_policies refusal.RootUsed e p = refl
refused_policies refusal.NoFlight e p = refl
refused_policies refusal.NotFirst e p = refl
refused_policies refusal.NotTunnel e p = refl
refused_policies refusal.Full e p = refl
refused_policies refusal.Exhausted e p = refl
refused_policies refusal.NoPolicy e p = refl
refused_policies refusal.Aged e p = aged_policies e p

judged_policies : (e : Event) (a : Answer) (p : Past) → (judged e a p).policies ≡ p.policies
judged_policies e answer.Ok p = accepted_policies e (record p { earlier = p.pdus; event = e; answer = answer.Ok; given = None; copied = None; fresh = []; said = [] })
judged_policies e (answer.No why) p = refused_policies why e (record p { earlier = p.pdus; event = e; answer = answer.No why; given = None; copied = None; fresh = []; said = [] })

-- the past after an entry
pub after_policies : (p : Past) (x : Entry) → (after p x).policies ≡ p.policies
after_policies p x =
    all_noted_policies x.lines (judged x.event x.answer p) ∙ judged_policies x.event x.answer p
