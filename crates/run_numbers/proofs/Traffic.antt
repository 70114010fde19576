-- What the steps of a past leave of the PDUs and forwarded packets that were sent: each line that sends adds its own.
use Rattle.std.proofs.Common.{ℕ, ◌≡◌, Bool, true, false, [], Option, Some, None, refl, ap, ◌∙◌}
use Rattle.std.specs.Prelude.{is_some}
use Rattle.dc_base.specs.declared.answers.Answer.{Answer}
use Rattle.dc_base.specs.declared.answers.Answer.TheVariants as answer
use Rattle.dc_base.specs.declared.answers.Refusal.{Refusal}
use Rattle.dc_base.specs.declared.answers.Refusal.TheVariants as refusal
use Rattle.dc_base.specs.declared.events.Event.{Event}
use Rattle.dc_base.specs.declared.events.Event.TheVariants as event
use Rattle.dc_base.specs.declared.events.Line.TheVariants as line
use Rattle.dc_base.specs.declared.events.Note.{Note}
use Rattle.dc_base.specs.declared.events.Note.TheVariants as note
use Rattle.dc_base.specs.declared.flights.Flight.{Flight}
use Rattle.dc_base.specs.declared.flights.Flight.TheVariants as flight
use Rattle.dc_base.specs.declared.nodes.LinkId.{LinkId}
use Rattle.dc_base.specs.declared.nodes.Node.{Node}
use Rattle.dc_base.specs.declared.nodes.Node.TheVariants.{T, M, A, B}
use Rattle.dc_base.specs.declared.nodes.Want.{Want}
use Rattle.dc_base.specs.declared.records.Plan.{Plan}
use Rattle.dc_base.specs.declared.records.Rec.{Rec}
use Rattle.dc_base.specs.declared.records.Rec.TheVariants as rec
use Rattle.claims.specs.Links.{find_at, without}
use Rattle.claims.specs.Packets.{packet_of}
use Rattle.claims.specs.Views.{Delivery, Pdu, delivery_in, forwarding_in, forwarding_of, owner_of, pdu_in, pdu_of}
use Rattle.claims.specs.Table.{Command}
use Rattle.claims.specs.Past.{Bearer, Past, Second}
use Rattle.claims.specs.Reading.{Setting, bearer_of, holds, on_latest, plan, setting, with_second}
use Rattle.claims.specs.Drafts.{Draft, command_of, draft}
use Rattle.claims.specs.Carrying.{carry, carry_if, carry_plan, carry_with, drawn_by, with_draft}
use Rattle.claims.specs.Taking.{delivered, delivered_to, given_if, on_delivery, on_forward, on_pdu, on_record, on_set_pdu, taken_from}
use Rattle.claims.specs.Judged.{accepted, aged, answered, forward_lost, judged, lost_if, own_lost, refused, trouble}
use Rattle.claims.specs.Noted.{answers, as_send, begun, noted, noted_flight, noted_note, noted_record, put}
use Rattle.claims.specs.Noted.{with_forward, with_pdu}
use Rattle.claims.specs.Views.{packet_in}
use Rattle.run_numbers.specs.Traffic.{Traffic, copied_by, traffic}

-- ---- what draws, carries out and answers

second_stays : (x : Node) (s : Second) (p : Past) → traffic (with_second x s p) ≡ traffic p
second_stays T s p = refl
second_stays M s p = refl
second_stays A s p = refl
second_stays B s p = refl

draft_stays : (e : Event) (asker : Option Node) (p : Past) (o : Option Draft) → traffic (with_draft p e asker o) ≡ traffic p
draft_stays e asker p None = refl
draft_stays e asker p (Some d) = refl

drawn_stays : (e : Event) (asker : Option Node) (p : Past) → traffic (drawn_by e asker p) ≡ traffic p
drawn_stays e asker p = draft_stays e asker p (draft p.table e)

plan_stays : (g : ℕ) (p : Past) (c : Command) (o : Option Plan) → traffic (carry_plan p g c o) ≡ traffic p
plan_stays g p c None = refl
plan_stays g p c (Some q) = refl

carry_if_stays : (g : ℕ) (p : Past) (c : Command) (is : Bool) → traffic (carry_if p g c is) ≡ traffic p
carry_if_stays g p c false = refl
carry_if_stays g p c true = plan_stays g p c (plan p g)

carry_with_stays : (g : ℕ) (p : Past) (o : Option Command) → traffic (carry_with p g o) ≡ traffic p
carry_with_stays g p None = refl
carry_with_stays g p (Some c) = carry_if_stays g p c _

carry_stays : (g : ℕ) (p : Past) → traffic (carry g p) ≡ traffic p
carry_stays g p = carry_with_stays g p p.table.command

begun_stays : (o : Option Node) (w : Want) (p : Past) → traffic (begun o w p) ≡ traffic p
begun_stays None w p = drawn_stays (command_of w) None p
begun_stays (Some x) w p = drawn_stays (command_of w) (Some x) (answers x p) ∙ second_stays x _ p

-- ---- a line

note_stays : (n : Note) (p : Past) → traffic (noted_note n p) ≡ traffic p
note_stays (note.Begin w) p = begun_stays p.table.sec w p
note_stays (note.Join x g) p = second_stays x _ p
note_stays (note.Leave x g) p = second_stays x _ p
note_stays (note.Give x id g) p = refl
note_stays (note.Own x id g) p = refl
note_stays (note.Set id g) p = refl
note_stays (note.Unset id) p = refl
note_stays (note.Up x id d count sdu) p = refl
note_stays (note.Freed id d count) p = refl
note_stays (note.Confirmed x) p = second_stays x _ p
note_stays (note.Refused x w) p = second_stays x _ p
note_stays note.Done p = refl
note_stays note.Rejected p = refl

record_stays : (x : Node) (r : Rec) (p : Past) → traffic (noted_record x r p) ≡ traffic p
record_stays x (rec.Reconf q key) p = carry_stays q.g p
record_stays x (rec.Rcomp g) p = refl
record_stays x (rec.Scgf pairs) p = refl
record_stays x (rec.Recov id) p = refl
record_stays x (rec.Recovd id) p = refl
record_stays x (rec.Addreq q key) p = refl
record_stays x (rec.Addack g) p = refl
record_stays x (rec.Addrej g) p = refl
record_stays x (rec.Modreq q key) p = refl
record_stays x (rec.Modack g) p = refl
record_stays x (rec.Modrej g) p = refl
record_stays x (rec.Recfg g) p = refl
record_stays x (rec.Relreq q) p = refl
record_stays x (rec.Relack g) p = refl
record_stays x (rec.Relrej g) p = refl
record_stays x (rec.Uecr g) p = refl
record_stays x (rec.Snst s) p = refl
record_stays x (rec.Moved g id) p = refl
record_stays x (rec.Scgn id g) p = refl
record_stays x rec.Modrqd p = refl
record_stays x (rec.Modcnf g) p = refl
record_stays x (rec.Modref w) p = second_stays x _ p
record_stays x rec.Chgrqd p = refl
record_stays x (rec.Chgcnf q) p = refl
record_stays x (rec.Chgref w) p = second_stays x _ p
record_stays x rec.Relrqd p = refl
record_stays x (rec.Relcnf q) p = second_stays x _ p

flight_stays : (l : LinkId) (f : Flight) (p : Past) → traffic (noted_flight l f p) ≡ traffic p
flight_stays l (flight.Air id g num tag pdu) p = refl
flight_stays l (flight.Ack id g num) p = refl
flight_stays l (flight.Tun tag packet) p = refl
flight_stays l (flight.Sdu id g sdu) p = refl
flight_stays l (flight.End id g) p = refl
flight_stays l (flight.Told id g count) p = refl
flight_stays l (flight.Ctl r) p = record_stays l.to r p

-- a flight that is put is sent, unless it is a copy
abbrev with_flight : LinkId → Flight → Traffic → Traffic
with_flight l f t = record t { pdus = with_pdu l (pdu_of f) t.pdus; forwards = with_forward l (packet_in f) t.forwards }

put_sends : (l : LinkId) (f : Flight) (p : Past) → p.copied ≡ None → traffic (put l f p) ≡ with_flight l f (traffic p)
put_sends l f p none = ap (λ o. traffic (as_send o l f p)) none

-- a note leaves them
pub note_leaves : (p : Past) (n : Note) → traffic (noted p (line.Note n)) ≡ traffic p
note_leaves p n = note_stays n p

-- a send is one more
pub send_adds : (p : Past) (l : LinkId) (f : Flight) → p.copied ≡ None → traffic (noted p (line.Send l f)) ≡ with_flight l f (traffic p)
send_adds p l f none = flight_stays l f (put l f p) ∙ put_sends l f p none

-- a copy is none
pub copy_leaves : (p : Past) (l : LinkId) (f : Flight) (s : LinkId × Flight) → p.copied ≡ Some s → traffic (noted p (line.Send l f)) ≡ traffic p
copy_leaves p l f s some = flight_stays l f (put l f p) ∙ ap (λ o. traffic (as_send o l f p)) some

-- ---- an event

own_stays : (o : Option (ℕ × ℕ)) (p : Past) → traffic (own_lost o p) ≡ traffic p
own_stays None p = refl
own_stays (Some x) p = refl

forward_stays : (o : Option (ℕ × ℕ)) (p : Past) → traffic (forward_lost o p) ≡ traffic p
forward_stays None p = refl
forward_stays (Some x) p = refl

lost_stays : (o : Option (LinkId × Flight)) (p : Past) → traffic (lost_if o p) ≡ traffic p
lost_stays None p = refl
lost_stays (Some s) p = let q = record p { bearers = trouble p.bearers } in forward_stays (forwarding_of s.1) (own_lost (owner_of s.1) q) ∙ own_stays (owner_of s.1) q

set_pdu_stays : (l : LinkId) (u : Pdu) (p : Past) (o : Option Setting) → traffic (on_set_pdu l u p o) ≡ traffic p
set_pdu_stays l u p None = refl
set_pdu_stays l u p (Some s) = refl

pdu_stays : (l : LinkId) (o : Option Pdu) (p : Past) → traffic (on_pdu l o p) ≡ traffic p
pdu_stays l None p = refl
pdu_stays l (Some u) p = set_pdu_stays l u p (setting p u.id u.g)

delivered_stays : (is : Bool) (l : LinkId) (v : Delivery) (b : Bearer) (p : Past) → traffic (delivered is l v b p) ≡ traffic p
delivered_stays false l v b p = refl
delivered_stays true l v b p = refl

delivered_to_stays : (l : LinkId) (v : Delivery) (p : Past) (o : Option Bearer) → traffic (delivered_to l v p o) ≡ traffic p
delivered_to_stays l v p None = refl
delivered_to_stays l v p (Some b) = delivered_stays (holds l.to v.g b.holder) l v b p

delivery_stays : (l : LinkId) (o : Option Delivery) (p : Past) → traffic (on_delivery l o p) ≡ traffic p
delivery_stays l None p = refl
delivery_stays l (Some v) p = delivered_to_stays l v p (bearer_of p v.id v.g)

on_forward_stays : (l : LinkId) (f : Flight) (is : Bool) (p : Past) → traffic (on_forward l f is p) ≡ traffic p
on_forward_stays l f false p = refl
on_forward_stays l f true p = refl

on_record_stays : (l : LinkId) (r : Rec) (p : Past) → traffic (on_record l r p) ≡ traffic p
on_record_stays l (rec.Reconf q key) p = refl
on_record_stays l (rec.Rcomp g) p = refl
on_record_stays l (rec.Scgf pairs) p = refl
on_record_stays l (rec.Recov id) p = refl
on_record_stays l (rec.Recovd id) p = refl
on_record_stays l (rec.Addreq q key) p = refl
on_record_stays l (rec.Addack g) p = refl
on_record_stays l (rec.Addrej g) p = refl
on_record_stays l (rec.Modreq q key) p = refl
on_record_stays l (rec.Modack g) p = refl
on_record_stays l (rec.Modrej g) p = refl
on_record_stays l (rec.Recfg g) p = refl
on_record_stays l (rec.Relreq q) p = refl
on_record_stays l (rec.Relack g) p = refl
on_record_stays l (rec.Relrej g) p = refl
on_record_stays l (rec.Uecr g) p = refl
on_record_stays l (rec.Snst s) p = refl
on_record_stays l (rec.Moved g id) p = refl
on_record_stays l (rec.Scgn id g) p = refl
on_record_stays l rec.Modrqd p = second_stays l.from _ p
on_record_stays l (rec.Modcnf g) p = refl
on_record_stays l (rec.Modref w) p = refl
on_record_stays l rec.Chgrqd p = second_stays l.from _ p
on_record_stays l (rec.Chgcnf q) p = refl
on_record_stays l (rec.Chgref w) p = refl
on_record_stays l rec.Relrqd p = second_stays l.from _ p
on_record_stays l (rec.Relcnf q) p = refl

taken_stays : (l : LinkId) (f : Flight) (p : Past) → traffic (taken_from l f p) ≡ traffic p
taken_stays l (flight.Air id g num tag pdu) p = pdu_stays l (pdu_of (flight.Air id g num tag pdu)) p
taken_stays l (flight.Ack id g num) p = refl
taken_stays l (flight.Tun tag packet) p =
    let view = packet_of packet in
    let q = on_pdu l (pdu_in tag view) p in
    on_forward_stays l (flight.Tun tag packet) (is_some (forwarding_in view)) (on_delivery l (delivery_in tag view) q)
    ∙ delivery_stays l (delivery_in tag view) q ∙ pdu_stays l (pdu_in tag view) p
taken_stays l (flight.Sdu id g sdu) p = refl
taken_stays l (flight.End id g) p = refl
taken_stays l (flight.Told id g count) p = refl
taken_stays l (flight.Ctl r) p = on_record_stays l r p

given_stays : (o : Option (LinkId × Flight)) (p : Past) → traffic (given_if o p) ≡ traffic p
given_stays None p = refl
given_stays (Some s) p = taken_stays s.0 s.1 (record p { given = Some s })

-- an event that is answered ok
accepted_copies : (e : Event) (p : Past) → p.copied ≡ None → traffic (accepted e p) ≡ record (traffic p) { copied = copied_by answer.Ok e p.standing }
accepted_copies (event.Bearer id n first shape threshold policy) p none = drawn_stays (event.Bearer id n first shape threshold policy) None p ∙ ap (λ o. record (traffic p) { copied = o }) none
accepted_copies (event.Reshape id shape) p none = drawn_stays (event.Reshape id shape) None p ∙ ap (λ o. record (traffic p) { copied = o }) none
accepted_copies (event.Remove id) p none = drawn_stays (event.Remove id) None (record p { bearers = on_latest id (λ b. record b { is_dropped = true }) p.bearers }) ∙ ap (λ o. record (traffic p) { copied = o }) none
accepted_copies (event.Add x) p none = drawn_stays (event.Add x) None p ∙ ap (λ o. record (traffic p) { copied = o }) none
accepted_copies event.Change p none = drawn_stays event.Change None p ∙ ap (λ o. record (traffic p) { copied = o }) none
accepted_copies event.Release p none = drawn_stays event.Release None p ∙ ap (λ o. record (traffic p) { copied = o }) none
accepted_copies event.RekeySecond p none = drawn_stays event.RekeySecond None p ∙ ap (λ o. record (traffic p) { copied = o }) none
accepted_copies (event.RekeyMaster root) p none = drawn_stays (event.RekeyMaster root) None p ∙ ap (λ o. record (traffic p) { copied = o }) none
accepted_copies (event.Recover id) p none = ap (λ o. record (traffic p) { copied = o }) none
accepted_copies (event.Report x id) p none = ap (λ o. record (traffic p) { copied = o }) none
accepted_copies (event.Deny x on) p none = second_stays x _ p ∙ ap (λ o. record (traffic p) { copied = o }) none
accepted_copies (event.Ask x w) p none = second_stays x _ p ∙ ap (λ o. record (traffic p) { copied = o }) none
accepted_copies event.ScgFail p none = ap (λ o. record (traffic p) { copied = o }) none
accepted_copies (event.Submit id d sdu) p none = ap (λ o. record (traffic p) { copied = o }) none
accepted_copies (event.Step l i) p none = given_stays (find_at l i p.standing) (record p { standing = without l i p.standing }) ∙ ap (λ o. record (traffic p) { copied = o }) none
accepted_copies (event.Lose l i) p none = lost_stays (find_at l i p.standing) (record p { standing = without l i p.standing }) ∙ ap (λ o. record (traffic p) { copied = o }) none
accepted_copies (event.Again l i) p none = refl

-- a refusal leaves all as it is, unless the flight is aged
not_aged : (why : Refusal) (e : Event) (p : Past) → aged e p ≡ p → refused why e p ≡ p
not_aged refusal.NoBearer e p stays = refl
not_aged refusal.BearerThere e p stays = refl
not_aged refusal.Busy e p stays = refl
not_aged refusal.NoSecondary e p stays = refl
not_aged refusal.SecondaryThere e p stays = refl
not_aged refusal.SameShape e p stays = refl
not_aged refusal.IdSpent e p stays = refl
not_aged refusal.CounterSpent e p stays = refl
not_aged refusal.RootUsed e p stays = refl
not_aged refusal.NoFlight e p stays = refl
not_aged refusal.NotFirst e p stays = refl
not_aged refusal.NotTunnel e p stays = refl
not_aged refusal.Aged e p stays = stays
not_aged refusal.Full e p stays = refl
not_aged refusal.Exhausted e p stays = refl
not_aged refusal.NoPolicy e p stays = refl

step_keeps : (why : Refusal) (l : LinkId) (i : ℕ) (p : Past) → traffic (refused why (event.Step l i) p) ≡ traffic p
step_keeps refusal.NoBearer l i p = refl
step_keeps refusal.BearerThere l i p = refl
step_keeps refusal.Busy l i p = refl
step_keeps refusal.NoSecondary l i p = refl
step_keeps refusal.SecondaryThere l i p = refl
step_keeps refusal.SameShape l i p = refl
step_keeps refusal.IdSpent l i p = refl
step_keeps refusal.CounterSpent l i p = refl
step_keeps refusal.RootUsed l i p = refl
step_keeps refusal.NoFlight l i p = refl
step_keeps refusal.NotFirst l i p = refl
step_keeps refusal.NotTunnel l i p = refl
step_keeps refusal.Aged l i p = refl
step_keeps refusal.Full l i p = refl
step_keeps refusal.Exhausted l i p = refl
step_keeps refusal.NoPolicy l i p = refl

refused_keeps : (why : Refusal) (e : Event) (p : Past) → traffic (refused why e p) ≡ traffic p
refused_keeps why (event.Bearer id n first shape threshold policy) p = ap traffic (not_aged why (event.Bearer id n first shape threshold policy) p refl)
refused_keeps why (event.Reshape id shape) p = ap traffic (not_aged why (event.Reshape id shape) p refl)
refused_keeps why (event.Remove id) p = ap traffic (not_aged why (event.Remove id) p refl)
refused_keeps why (event.Add x) p = ap traffic (not_aged why (event.Add x) p refl)
refused_keeps why event.Change p = ap traffic (not_aged why event.Change p refl)
refused_keeps why event.Release p = ap traffic (not_aged why event.Release p refl)
refused_keeps why event.RekeySecond p = ap traffic (not_aged why event.RekeySecond p refl)
refused_keeps why (event.RekeyMaster root) p = ap traffic (not_aged why (event.RekeyMaster root) p refl)
refused_keeps why (event.Recover id) p = ap traffic (not_aged why (event.Recover id) p refl)
refused_keeps why (event.Report x id) p = ap traffic (not_aged why (event.Report x id) p refl)
refused_keeps why (event.Deny x on) p = ap traffic (not_aged why (event.Deny x on) p refl)
refused_keeps why (event.Ask x w) p = ap traffic (not_aged why (event.Ask x w) p refl)
refused_keeps why event.ScgFail p = ap traffic (not_aged why event.ScgFail p refl)
refused_keeps why (event.Submit id d sdu) p = ap traffic (not_aged why (event.Submit id d sdu) p refl)
refused_keeps why (event.Step l i) p = step_keeps why l i p
refused_keeps why (event.Lose l i) p = ap traffic (not_aged why (event.Lose l i) p refl)
refused_keeps why (event.Again l i) p = ap traffic (not_aged why (event.Again l i) p refl)

answered_copies : (e : Event) (a : Answer) (p : Past) → p.copied ≡ None → traffic (answered e a p) ≡ record (traffic p) { copied = copied_by a e p.standing }
answered_copies e answer.Ok p none = accepted_copies e p none
answered_copies e (answer.No why) p none = refused_keeps why e p ∙ ap (λ o. record (traffic p) { copied = o }) none

-- before the lines of an event all is as it was, but for what is copied
pub judged_copies : (e : Event) (a : Answer) (p : Past) → traffic (judged e a p) ≡ record (traffic p) { copied = copied_by a e p.standing }
judged_copies e a p = answered_copies e a (record p { earlier = p.pdus; event = e; answer = a; given = None; copied = None; fresh = []; said = [] }) refl
