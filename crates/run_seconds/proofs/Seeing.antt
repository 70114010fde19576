-- What a step of the past does to what it says of the secondary nodes.
use Rattle.std.proofs.Common.{ℕ, ◌≡◌, Bool, true, false, List, [], ◌∷◌, Option, Some, None, refl, ap, ◌∙◌}
use Rattle.std.specs.Prelude.{fold, is_some}
use Rattle.dc_base.specs.declared.answers.Answer.{Answer}
use Rattle.dc_base.specs.declared.answers.Answer.TheVariants as answer
use Rattle.dc_base.specs.declared.answers.Refusal.{Refusal}
use Rattle.dc_base.specs.declared.answers.Refusal.TheVariants as refusal
use Rattle.dc_base.specs.declared.events.Event.{Event}
use Rattle.dc_base.specs.declared.events.Event.TheVariants as event
use Rattle.dc_base.specs.declared.events.Line.{Line}
use Rattle.dc_base.specs.declared.events.Line.TheVariants as line
use Rattle.dc_base.specs.declared.events.Note.{Note}
use Rattle.dc_base.specs.declared.events.Note.TheVariants as note
use Rattle.dc_base.specs.declared.flights.Flight.{Flight}
use Rattle.dc_base.specs.declared.flights.Flight.TheVariants as flight
use Rattle.dc_base.specs.declared.nodes.LinkId.{LinkId}
use Rattle.dc_base.specs.declared.nodes.Node.{Node}
use Rattle.dc_base.specs.declared.nodes.Node.TheVariants.{T, M, A, B}
use Rattle.dc_base.specs.declared.nodes.Want.{Want}
use Rattle.dc_base.specs.declared.nodes.Want.TheVariants as want
use Rattle.dc_base.specs.declared.records.Plan.{Plan}
use Rattle.dc_base.specs.declared.records.Rec.{Rec}
use Rattle.dc_base.specs.declared.records.Rec.TheVariants as rec
use Rattle.transcript.specs.Transcript.{Entry}
use Rattle.claims.specs.Links.{find_at, without}
use Rattle.claims.specs.Packets.{packet_of}
use Rattle.claims.specs.Views.{Delivery, Pdu, delivery_in, forwarding_in, forwarding_of, owner_of, pdu_in, pdu_of}
use Rattle.claims.specs.Table.{Command}
use Rattle.claims.specs.Past.{Bearer, Past, Second}
use Rattle.claims.specs.Reading.{Setting, bearer_of, holds, on_latest, plan, second, setting, with_second}
use Rattle.claims.specs.Drafts.{Draft, command_of, draft}
use Rattle.claims.specs.Carrying.{carry, carry_if, carry_plan, carry_with, drawn_by, with_draft}
use Rattle.claims.specs.Taking.{delivered, delivered_to, given_if, on_delivery, on_forward, on_pdu, on_record, on_set_pdu, taken_from}
use Rattle.claims.specs.Judged.{accepted, aged, forward_lost, judged, lost_if, own_lost, refused, trouble}
use Rattle.claims.specs.Noted.{after, answers, as_send, begun, noted, noted_flight, noted_line, noted_note, noted_record, put}
use Rattle.run_seconds.specs.Sides.{Side, answered, denying, joining, on_side, side_of, sides, wanting, with_event, with_line, with_note}

-- ---- what draws, carries out and answers

-- a request that the master took, or answered
request_sides : (x : Node) (w : Option Want) (p : Past) → sides (with_second x (record (second x p) { request = w }) p) ≡ sides p
request_sides T w p = refl
request_sides M w p = refl
request_sides A w p = refl
request_sides B w p = refl

-- what is changed of one of them
changed_sides : (x : Node) (f : Second → Second) (k : Side → Side) → ((s : Second) → side_of (f s) ≡ k (side_of s)) → (p : Past) → sides (with_second x (f (second x p)) p) ≡ on_side x k (sides p)
changed_sides T f k same p = refl
changed_sides M f k same p = refl
changed_sides A f k same p = ap (λ s. record (sides p) { a = s }) (same p.a)
changed_sides B f k same p = ap (λ s. record (sides p) { b = s }) (same p.b)

draft_sides : (e : Event) (asker : Option Node) (p : Past) (o : Option Draft) → sides (with_draft p e asker o) ≡ sides p
draft_sides e asker p None = refl
draft_sides e asker p (Some d) = refl

drawn_sides : (e : Event) (asker : Option Node) (p : Past) → sides (drawn_by e asker p) ≡ sides p
drawn_sides e asker p = draft_sides e asker p (draft p.table e)

plan_sides : (g : ℕ) (p : Past) (c : Command) (o : Option Plan) → sides (carry_plan p g c o) ≡ sides p
plan_sides g p c None = refl
plan_sides g p c (Some q) = refl

carry_if_sides : (g : ℕ) (p : Past) (c : Command) (is : Bool) → sides (carry_if p g c is) ≡ sides p
carry_if_sides g p c false = refl
carry_if_sides g p c true = plan_sides g p c (plan p g)

carry_with_sides : (g : ℕ) (p : Past) (o : Option Command) → sides (carry_with p g o) ≡ sides p
carry_with_sides g p None = refl
carry_with_sides g p (Some c) = carry_if_sides g p c _

carry_sides : (g : ℕ) (p : Past) → sides (carry g p) ≡ sides p
carry_sides g p = carry_with_sides g p p.table.command

begun_sides : (o : Option Node) (w : Want) (p : Past) → sides (begun o w p) ≡ sides p
begun_sides None w p = drawn_sides (command_of w) None p
begun_sides (Some x) w p = drawn_sides (command_of w) (Some x) (answers x p) ∙ request_sides x None p

-- ---- a line

note_sides : (n : Note) (p : Past) → sides (noted_note n p) ≡ with_note (sides p) n
note_sides (note.Begin w) p = begun_sides p.table.sec w p
note_sides (note.Join x g) p = changed_sides x (λ s. record s { joined = true }) (joining true) (λ s. refl) p
note_sides (note.Leave x g) p = changed_sides x (λ s. record s { joined = false }) (joining false) (λ s. refl) p
note_sides (note.Give x id g) p = refl
note_sides (note.Own x id g) p = refl
note_sides (note.Set id g) p = refl
note_sides (note.Unset id) p = refl
note_sides (note.Up x id d count sdu) p = refl
note_sides (note.Freed id d count) p = refl
note_sides (note.Confirmed x) p = changed_sides x (λ s. record s { wants = None }) (wanting None) (λ s. refl) p
note_sides (note.Refused x w) p = changed_sides x (λ s. record s { wants = None }) (wanting None) (λ s. refl) p
note_sides note.Done p = refl
note_sides note.Rejected p = refl

record_sides : (x : Node) (r : Rec) (p : Past) → sides (noted_record x r p) ≡ sides p
record_sides x (rec.Reconf q key) p = carry_sides q.g p
record_sides x (rec.Rcomp g) p = refl
record_sides x (rec.Scgf pairs) p = refl
record_sides x (rec.Recov id) p = refl
record_sides x (rec.Recovd id) p = refl
record_sides x (rec.Addreq q key) p = refl
record_sides x (rec.Addack g) p = refl
record_sides x (rec.Addrej g) p = refl
record_sides x (rec.Modreq q key) p = refl
record_sides x (rec.Modack g) p = refl
record_sides x (rec.Modrej g) p = refl
record_sides x (rec.Recfg g) p = refl
record_sides x (rec.Relreq q) p = refl
record_sides x (rec.Relack g) p = refl
record_sides x (rec.Relrej g) p = refl
record_sides x (rec.Uecr g) p = refl
record_sides x (rec.Snst s) p = refl
record_sides x (rec.Moved g id) p = refl
record_sides x (rec.Scgn id g) p = refl
record_sides x rec.Modrqd p = refl
record_sides x (rec.Modcnf g) p = refl
record_sides x (rec.Modref w) p = request_sides x None p
record_sides x rec.Chgrqd p = refl
record_sides x (rec.Chgcnf q) p = refl
record_sides x (rec.Chgref w) p = request_sides x None p
record_sides x rec.Relrqd p = refl
record_sides x (rec.Relcnf q) p = request_sides x None p

flight_sides : (l : LinkId) (f : Flight) (p : Past) → sides (noted_flight l f p) ≡ sides p
flight_sides l (flight.Air id g num tag pdu) p = refl
flight_sides l (flight.Ack id g num) p = refl
flight_sides l (flight.Tun tag packet) p = refl
flight_sides l (flight.Sdu id g sdu) p = refl
flight_sides l (flight.End id g) p = refl
flight_sides l (flight.Told id g count) p = refl
flight_sides l (flight.Ctl r) p = record_sides l.to r p

as_send_sides : (o : Option (LinkId × Flight)) (l : LinkId) (f : Flight) (p : Past) → sides (as_send o l f p) ≡ sides p
as_send_sides None l f p = refl
as_send_sides (Some s) l f p = refl

put_sides : (l : LinkId) (f : Flight) (p : Past) → sides (put l f p) ≡ sides p
put_sides l f p = as_send_sides p.copied l f p

line_sides : (x : Line) (p : Past) → sides (noted_line x p) ≡ with_line (sides p) x
line_sides (line.Note n) p = note_sides n p
line_sides (line.Send l f) p = flight_sides l f (put l f p) ∙ put_sides l f p
line_sides (line.Event e) p = refl
line_sides (line.Answer a) p = refl

-- a line of an event
pub noted_sides : (p : Past) (x : Line) → sides (noted p x) ≡ with_line (sides p) x
noted_sides p x = line_sides x p

-- several lines
pub all_noted_sides : (xs : List Line) (p : Past) → sides (fold noted p xs) ≡ fold with_line (sides p) xs
all_noted_sides [] p = refl
all_noted_sides (x ∷ xs) p = all_noted_sides xs (noted p x) ∙ ap (λ s. fold with_line s xs) (noted_sides p x)

-- ---- an event

own_sides : (o : Option (ℕ × ℕ)) (p : Past) → sides (own_lost o p) ≡ sides p
own_sides None p = refl
own_sides (Some x) p = refl

forward_sides : (o : Option (ℕ × ℕ)) (p : Past) → sides (forward_lost o p) ≡ sides p
forward_sides None p = refl
forward_sides (Some x) p = refl

lost_sides : (o : Option (LinkId × Flight)) (p : Past) → sides (lost_if o p) ≡ sides p
lost_sides None p = refl
lost_sides (Some s) p =
    let q = record p { bearers = trouble p.bearers } in
    forward_sides (forwarding_of s.1) (own_lost (owner_of s.1) q) ∙ own_sides (owner_of s.1) q

set_pdu_sides : (l : LinkId) (u : Pdu) (p : Past) (o : Option Setting) → sides (on_set_pdu l u p o) ≡ sides p
set_pdu_sides l u p None = refl
set_pdu_sides l u p (Some s) = refl

pdu_sides : (l : LinkId) (o : Option Pdu) (p : Past) → sides (on_pdu l o p) ≡ sides p
pdu_sides l None p = refl
pdu_sides l (Some u) p = set_pdu_sides l u p (setting p u.id u.g)

delivered_sides : (is : Bool) (l : LinkId) (v : Delivery) (b : Bearer) (p : Past) → sides (delivered is l v b p) ≡ sides p
delivered_sides false l v b p = refl
delivered_sides true l v b p = refl

delivered_to_sides : (l : LinkId) (v : Delivery) (p : Past) (o : Option Bearer) → sides (delivered_to l v p o) ≡ sides p
delivered_to_sides l v p None = refl
delivered_to_sides l v p (Some b) = delivered_sides (holds l.to v.g b.holder) l v b p

delivery_sides : (l : LinkId) (o : Option Delivery) (p : Past) → sides (on_delivery l o p) ≡ sides p
delivery_sides l None p = refl
delivery_sides l (Some v) p = delivered_to_sides l v p (bearer_of p v.id v.g)

on_forward_sides : (l : LinkId) (f : Flight) (is : Bool) (p : Past) → sides (on_forward l f is p) ≡ sides p
on_forward_sides l f false p = refl
on_forward_sides l f true p = refl

on_record_sides : (l : LinkId) (r : Rec) (p : Past) → sides (on_record l r p) ≡ sides p
on_record_sides l (rec.Reconf q key) p = refl
on_record_sides l (rec.Rcomp g) p = refl
on_record_sides l (rec.Scgf pairs) p = refl
on_record_sides l (rec.Recov id) p = refl
on_record_sides l (rec.Recovd id) p = refl
on_record_sides l (rec.Addreq q key) p = refl
on_record_sides l (rec.Addack g) p = refl
on_record_sides l (rec.Addrej g) p = refl
on_record_sides l (rec.Modreq q key) p = refl
on_record_sides l (rec.Modack g) p = refl
on_record_sides l (rec.Modrej g) p = refl
on_record_sides l (rec.Recfg g) p = refl
on_record_sides l (rec.Relreq q) p = refl
on_record_sides l (rec.Relack g) p = refl
on_record_sides l (rec.Relrej g) p = refl
on_record_sides l (rec.Uecr g) p = refl
on_record_sides l (rec.Snst s) p = refl
on_record_sides l (rec.Moved g id) p = refl
on_record_sides l (rec.Scgn id g) p = refl
on_record_sides l rec.Modrqd p = request_sides l.from (Some want.Rekey) p
on_record_sides l (rec.Modcnf g) p = refl
on_record_sides l (rec.Modref w) p = refl
on_record_sides l rec.Chgrqd p = request_sides l.from (Some want.Change) p
on_record_sides l (rec.Chgcnf q) p = refl
on_record_sides l (rec.Chgref w) p = refl
on_record_sides l rec.Relrqd p = request_sides l.from (Some want.Release) p
on_record_sides l (rec.Relcnf q) p = refl

taken_sides : (l : LinkId) (f : Flight) (p : Past) → sides (taken_from l f p) ≡ sides p
taken_sides l (flight.Air id g num tag pdu) p = pdu_sides l (pdu_of (flight.Air id g num tag pdu)) p
taken_sides l (flight.Ack id g num) p = refl
taken_sides l (flight.Tun tag packet) p =
    let seen = packet_of packet in
    let q = on_pdu l (pdu_in tag seen) p in
    on_forward_sides l (flight.Tun tag packet) (is_some (forwarding_in seen)) (on_delivery l (delivery_in tag seen) q)
    ∙ delivery_sides l (delivery_in tag seen) q ∙ pdu_sides l (pdu_in tag seen) p
taken_sides l (flight.Sdu id g sdu) p = refl
taken_sides l (flight.End id g) p = refl
taken_sides l (flight.Told id g count) p = refl
taken_sides l (flight.Ctl r) p = on_record_sides l r p

given_sides : (o : Option (LinkId × Flight)) (p : Past) → sides (given_if o p) ≡ sides p
given_sides None p = refl
given_sides (Some s) p = taken_sides s.0 s.1 (record p { given = Some s })

accepted_sides : (e : Event) (p : Past) → sides (accepted e p) ≡ with_event e (sides p)
accepted_sides (event.Bearer id n first shape threshold policy) p = drawn_sides (event.Bearer id n first shape threshold policy) None p
accepted_sides (event.Reshape id shape) p = drawn_sides (event.Reshape id shape) None p
accepted_sides (event.Remove id) p = drawn_sides (event.Remove id) None (record p { bearers = on_latest id (λ b. record b { is_dropped = true }) p.bearers })
accepted_sides (event.Add x) p = drawn_sides (event.Add x) None p
accepted_sides event.Change p = drawn_sides event.Change None p
accepted_sides event.Release p = drawn_sides event.Release None p
accepted_sides event.RekeySecond p = drawn_sides event.RekeySecond None p
accepted_sides (event.RekeyMaster root) p = drawn_sides (event.RekeyMaster root) None p
accepted_sides (event.Recover id) p = refl
accepted_sides (event.Report x id) p = refl
accepted_sides (event.Deny x on) p = changed_sides x (λ s. record s { denies = on }) (denying on) (λ s. refl) p
accepted_sides (event.Ask x w) p = changed_sides x (λ s. record s { wants = Some w }) (wanting (Some w)) (λ s. refl) p
accepted_sides event.ScgFail p = refl
accepted_sides (event.Submit id d sdu) p = refl
accepted_sides (event.Step l i) p = given_sides (find_at l i p.standing) (record p { standing = without l i p.standing })
accepted_sides (event.Lose l i) p = lost_sides (find_at l i p.standing) (record p { standing = without l i p.standing })
accepted_sides (event.Again l i) p = refl

aged_sides : (e : Event) (p : Past) → sides (aged e p) ≡ sides p
aged_sides (event.Bearer id n first shape threshold policy) p = refl
aged_sides (event.Reshape id shape) p = refl
aged_sides (event.Remove id) p = refl
aged_sides (event.Add x) p = refl
aged_sides event.Change p = refl
aged_sides event.Release p = refl
aged_sides event.RekeySecond p = refl
aged_sides (event.RekeyMaster root) p = refl
aged_sides (event.Recover id) p = refl
aged_sides (event.Report x id) p = refl
aged_sides (event.Deny x on) p = refl
aged_sides (event.Ask x w) p = refl
aged_sides event.ScgFail p = refl
aged_sides (event.Submit id d sdu) p = refl
aged_sides (event.Step l i) p = refl
aged_sides (event.Lose l i) p = refl
aged_sides (event.Again l i) p = refl

refused_sides : (why : Refusal) (e : Event) (p : Past) → sides (refused why e p) ≡ sides p
refused_sides refusal.NoBearer e p = refl
refused_sides refusal.BearerThere e p = refl
refused_sides refusal.Busy e p = refl
refused_sides refusal.NoSecondary e p = refl
refused_sides refusal.SecondaryThere e p = refl
refused_sides refusal.SameShape e p = refl
refused_sides refusal.IdSpent e p = refl
refused_sides refusal.CounterSpent e p = refl
refused_sides refusal.RootUsed e p = refl
refused_sides refusal.NoFlight e p = refl
refused_sides refusal.NotFirst e p = refl
refused_sides refusal.NotTunnel e p = refl
refused_sides refusal.Full e p = refl
refused_sides refusal.Exhausted e p = refl
refused_sides refusal.NoPolicy e p = refl
refused_sides refusal.Aged e p = aged_sides e p

judged_sides : (e : Event) (a : Answer) (p : Past) → sides (judged e a p) ≡ answered e a (sides p)
judged_sides e answer.Ok p = accepted_sides e (record p { earlier = p.pdus; event = e; answer = answer.Ok; given = None; copied = None; fresh = []; said = [] })
judged_sides e (answer.No why) p = refused_sides why e (record p { earlier = p.pdus; event = e; answer = answer.No why; given = None; copied = None; fresh = []; said = [] })

-- the past after an entry
pub after_sides : (p : Past) (x : Entry) → sides (after p x) ≡ fold with_line (answered x.event x.answer (sides p)) x.lines
after_sides p x =
    all_noted_sides x.lines (judged x.event x.answer p) ∙ ap (λ s. fold with_line s x.lines) (judged_sides x.event x.answer p)
