-- What a step of the past leaves as it is: the flights that stand, and the lines of the event so far.
use Rattle.std.proofs.Common.{ℕ, ◌≡◌, ◌++◌, Bool, true, false, List, [], ◌∷◌, Option, Some, None, refl, sym, ap, ◌∙◌, append_assoc}
use Rattle.std.specs.Prelude.{fold, is_some}
use Rattle.std.proofs.lemmas.List.{append-nil}
use Rattle.dc_base.specs.declared.answers.Answer.{Answer}
use Rattle.dc_base.specs.declared.answers.Answer.TheVariants as answer
use Rattle.dc_base.specs.declared.answers.Refusal.{Refusal}
use Rattle.dc_base.specs.declared.answers.Refusal.TheVariants as refusal
use Rattle.dc_base.specs.declared.events.Event.{Event}
use Rattle.dc_base.specs.declared.events.Event.TheVariants as event
use Rattle.dc_base.specs.declared.events.Line.{Line}
use Rattle.dc_base.specs.declared.events.Line.TheVariants as line
use Rattle.dc_base.specs.declared.events.Note.{Note}
use Rattle.dc_base.specs.declared.events.Note.TheVariants as note
use Rattle.dc_base.specs.declared.flights.Flight.{Flight}
use Rattle.dc_base.specs.declared.flights.Flight.TheVariants as flight
use Rattle.dc_base.specs.declared.nodes.LinkId.{LinkId}
use Rattle.dc_base.specs.declared.nodes.Node.{Node}
use Rattle.dc_base.specs.declared.nodes.Node.TheVariants.{T, M, A, B}
use Rattle.dc_base.specs.declared.nodes.Want.{Want}
use Rattle.dc_base.specs.declared.records.Plan.{Plan}
use Rattle.dc_base.specs.declared.records.Rec.{Rec}
use Rattle.dc_base.specs.declared.records.Rec.TheVariants as rec
use Rattle.transcript.specs.Content.{place_taken}
use Rattle.transcript.specs.Transcript.{Entry, sends, sends_of}
use Rattle.claims.specs.Links.{find_at, without}
use Rattle.claims.specs.Packets.{packet_of}
use Rattle.claims.specs.Views.{Delivery, Pdu, delivery_in, forwarding_in, forwarding_of, owner_of, pdu_in, pdu_of}
use Rattle.claims.specs.Table.{Command}
use Rattle.claims.specs.Past.{Bearer, Past, Second}
use Rattle.claims.specs.Reading.{Setting, bearer_of, holds, on_latest, plan, setting, with_second}
use Rattle.claims.specs.Drafts.{Draft, command_of, draft}
use Rattle.claims.specs.Carrying.{carry, carry_if, carry_plan, carry_with, drawn_by, with_draft}
use Rattle.claims.specs.Taking.{delivered, delivered_to, given_if, on_delivery, on_forward, on_pdu, on_record, on_set_pdu, taken_from}
use Rattle.claims.specs.Judged.{accepted, aged, answered, forward_lost, judged, lost_if, own_lost, refused, trouble}
use Rattle.claims.specs.Noted.{after, answers, as_send, begun, noted, noted_flight, noted_line, noted_note, noted_record, put}
use Rattle.checker.proofs.Moments.{Moment, moment, left_after}

-- ---- what draws, carries out and answers

second_stays : (x : Node) (s : Second) (p : Past) → moment (with_second x s p) ≡ moment p
second_stays T s p = refl
second_stays M s p = refl
second_stays A s p = refl
second_stays B s p = refl

draft_stays : (e : Event) (asker : Option Node) (p : Past) (o : Option Draft) → moment (with_draft p e asker o) ≡ moment p
draft_stays e asker p None = refl
draft_stays e asker p (Some d) = refl

drawn_stays : (e : Event) (asker : Option Node) (p : Past) → moment (drawn_by e asker p) ≡ moment p
drawn_stays e asker p = draft_stays e asker p (draft p.table e)

plan_stays : (g : ℕ) (p : Past) (c : Command) (o : Option Plan) → moment (carry_plan p g c o) ≡ moment p
plan_stays g p c None = refl
plan_stays g p c (Some q) = refl

carry_if_stays : (g : ℕ) (p : Past) (c : Command) (is : Bool) → moment (carry_if p g c is) ≡ moment p
carry_if_stays g p c false = refl
carry_if_stays g p c true = plan_stays g p c (plan p g)

carry_with_stays : (g : ℕ) (p : Past) (o : Option Command) → moment (carry_with p g o) ≡ moment p
carry_with_stays g p None = refl
carry_with_stays g p (Some c) = carry_if_stays g p c _

carry_stays : (g : ℕ) (p : Past) → moment (carry g p) ≡ moment p
carry_stays g p = carry_with_stays g p p.table.command

begun_stays : (o : Option Node) (w : Want) (p : Past) → moment (begun o w p) ≡ moment p
begun_stays None w p = drawn_stays (command_of w) None p
begun_stays (Some x) w p = drawn_stays (command_of w) (Some x) (answers x p) ∙ second_stays x _ p

-- ---- a line

note_stays : (n : Note) (p : Past) → moment (noted_note n p) ≡ moment p
note_stays (note.Begin w) p = begun_stays p.table.sec w p
note_stays (note.Join x g) p = second_stays x _ p
note_stays (note.Leave x g) p = second_stays x _ p
note_stays (note.Give x id g) p = refl
note_stays (note.Own x id g) p = refl
note_stays (note.Set id g) p = refl
note_stays (note.Unset id) p = refl
note_stays (note.Up x id d count sdu) p = refl
note_stays (note.Freed id d count) p = refl
note_stays (note.Confirmed x) p = second_stays x _ p
note_stays (note.Refused x w) p = second_stays x _ p
note_stays note.Done p = refl
note_stays note.Rejected p = refl

record_stays : (x : Node) (r : Rec) (p : Past) → moment (noted_record x r p) ≡ moment p
record_stays x (rec.Reconf q key) p = carry_stays q.g p
record_stays x (rec.Rcomp g) p = refl
record_stays x (rec.Scgf pairs) p = refl
record_stays x (rec.Recov id) p = refl
record_stays x (rec.Recovd id) p = refl
record_stays x (rec.Addreq q key) p = refl
record_stays x (rec.Addack g) p = refl
record_stays x (rec.Addrej g) p = refl
record_stays x (rec.Modreq q key) p = refl
record_stays x (rec.Modack g) p = refl
record_stays x (rec.Modrej g) p = refl
record_stays x (rec.Recfg g) p = refl
record_stays x (rec.Relreq q) p = refl
record_stays x (rec.Relack g) p = refl
record_stays x (rec.Relrej g) p = refl
record_stays x (rec.Uecr g) p = refl
record_stays x (rec.Snst s) p = refl
record_stays x (rec.Moved g id) p = refl
record_stays x (rec.Scgn id g) p = refl
record_stays x rec.Modrqd p = refl
record_stays x (rec.Modcnf g) p = refl
record_stays x (rec.Modref w) p = second_stays x _ p
record_stays x rec.Chgrqd p = refl
record_stays x (rec.Chgcnf q) p = refl
record_stays x (rec.Chgref w) p = second_stays x _ p
record_stays x rec.Relrqd p = refl
record_stays x (rec.Relcnf q) p = second_stays x _ p

flight_stays : (l : LinkId) (f : Flight) (p : Past) → moment (noted_flight l f p) ≡ moment p
flight_stays l (flight.Air id g num tag pdu) p = refl
flight_stays l (flight.Ack id g num) p = refl
flight_stays l (flight.Tun tag packet) p = refl
flight_stays l (flight.Sdu id g sdu) p = refl
flight_stays l (flight.End id g) p = refl
flight_stays l (flight.Told id g count) p = refl
flight_stays l (flight.Ctl r) p = record_stays l.to r p

as_send_stays : (o : Option (LinkId × Flight)) (l : LinkId) (f : Flight) (p : Past) → moment (as_send o l f p) ≡ moment p
as_send_stays None l f p = refl
as_send_stays (Some s) l f p = refl

-- a flight that is put stands at the end
put_stands : (l : LinkId) (f : Flight) (p : Past) → moment (put l f p) ≡ record (moment p) { standing = p.standing ++ (l, f) ∷ [] }
put_stands l f p = ap (λ (m : Moment). record m { standing = m.standing ++ (l, f) ∷ [] }) (as_send_stays p.copied l f p)

-- a line of an event: its flight stands at the end, and it is the last line
line_stands : (x : Line) (p : Past) → moment (noted_line x p) ≡ record (moment p) { standing = p.standing ++ sends_of x }
line_stands (line.Note n) p = note_stays n p ∙ ap (λ ss. record (moment p) { standing = ss }) (sym (append-nil p.standing))
line_stands (line.Send l f) p = flight_stays l f (put l f p) ∙ put_stands l f p
line_stands (line.Event e) p = ap (λ ss. record (moment p) { standing = ss }) (sym (append-nil p.standing))
line_stands (line.Answer a) p = ap (λ ss. record (moment p) { standing = ss }) (sym (append-nil p.standing))

pub noted_stands : (p : Past) (x : Line) → moment (noted p x) ≡ record { standing = p.standing ++ sends_of x; said = p.said ++ x ∷ [] }
noted_stands p x = ap (λ (m : Moment). record m { said = m.said ++ x ∷ [] }) (line_stands x p)

-- several lines
pub all_noted : (xs : List Line) (p : Past) → (fold noted p xs).standing ≡ p.standing ++ sends xs
all_noted [] p = sym (append-nil p.standing)
all_noted (x ∷ xs) p =
    all_noted xs (noted p x) ∙ ap (λ (m : Moment). m.standing ++ sends xs) (noted_stands p x) ∙ append_assoc p.standing (sends_of x) (sends xs)

-- ---- an event

own_stays : (o : Option (ℕ × ℕ)) (p : Past) → moment (own_lost o p) ≡ moment p
own_stays None p = refl
own_stays (Some x) p = refl

forward_stays : (o : Option (ℕ × ℕ)) (p : Past) → moment (forward_lost o p) ≡ moment p
forward_stays None p = refl
forward_stays (Some x) p = refl

lost_stays : (o : Option (LinkId × Flight)) (p : Past) → moment (lost_if o p) ≡ moment p
lost_stays None p = refl
lost_stays (Some s) p = let q = record p { bearers = trouble p.bearers } in forward_stays (forwarding_of s.1) (own_lost (owner_of s.1) q) ∙ own_stays (owner_of s.1) q

set_pdu_stays : (l : LinkId) (u : Pdu) (p : Past) (o : Option Setting) → moment (on_set_pdu l u p o) ≡ moment p
set_pdu_stays l u p None = refl
set_pdu_stays l u p (Some s) = refl

pdu_stays : (l : LinkId) (o : Option Pdu) (p : Past) → moment (on_pdu l o p) ≡ moment p
pdu_stays l None p = refl
pdu_stays l (Some u) p = set_pdu_stays l u p (setting p u.id u.g)

delivered_stays : (is : Bool) (l : LinkId) (v : Delivery) (b : Bearer) (p : Past) → moment (delivered is l v b p) ≡ moment p
delivered_stays false l v b p = refl
delivered_stays true l v b p = refl

delivered_to_stays : (l : LinkId) (v : Delivery) (p : Past) (o : Option Bearer) → moment (delivered_to l v p o) ≡ moment p
delivered_to_stays l v p None = refl
delivered_to_stays l v p (Some b) = delivered_stays (holds l.to v.g b.holder) l v b p

delivery_stays : (l : LinkId) (o : Option Delivery) (p : Past) → moment (on_delivery l o p) ≡ moment p
delivery_stays l None p = refl
delivery_stays l (Some v) p = delivered_to_stays l v p (bearer_of p v.id v.g)

on_forward_stays : (l : LinkId) (f : Flight) (is : Bool) (p : Past) → moment (on_forward l f is p) ≡ moment p
on_forward_stays l f false p = refl
on_forward_stays l f true p = refl

on_record_stays : (l : LinkId) (r : Rec) (p : Past) → moment (on_record l r p) ≡ moment p
on_record_stays l (rec.Reconf q key) p = refl
on_record_stays l (rec.Rcomp g) p = refl
on_record_stays l (rec.Scgf pairs) p = refl
on_record_stays l (rec.Recov id) p = refl
on_record_stays l (rec.Recovd id) p = refl
on_record_stays l (rec.Addreq q key) p = refl
on_record_stays l (rec.Addack g) p = refl
on_record_stays l (rec.Addrej g) p = refl
on_record_stays l (rec.Modreq q key) p = refl
on_record_stays l (rec.Modack g) p = refl
on_record_stays l (rec.Modrej g) p = refl
on_record_stays l (rec.Recfg g) p = refl
on_record_stays l (rec.Relreq q) p = refl
on_record_stays l (rec.Relack g) p = refl
on_record_stays l (rec.Relrej g) p = refl
on_record_stays l (rec.Uecr g) p = refl
on_record_stays l (rec.Snst s) p = refl
on_record_stays l (rec.Moved g id) p = refl
on_record_stays l (rec.Scgn id g) p = refl
on_record_stays l rec.Modrqd p = second_stays l.from _ p
on_record_stays l (rec.Modcnf g) p = refl
on_record_stays l (rec.Modref w) p = refl
on_record_stays l rec.Chgrqd p = second_stays l.from _ p
on_record_stays l (rec.Chgcnf q) p = refl
on_record_stays l (rec.Chgref w) p = refl
on_record_stays l rec.Relrqd p = second_stays l.from _ p
on_record_stays l (rec.Relcnf q) p = refl

taken_stays : (l : LinkId) (f : Flight) (p : Past) → moment (taken_from l f p) ≡ moment p
taken_stays l (flight.Air id g num tag pdu) p = pdu_stays l (pdu_of (flight.Air id g num tag pdu)) p
taken_stays l (flight.Ack id g num) p = refl
taken_stays l (flight.Tun tag packet) p =
    let view = packet_of packet in
    let q = on_pdu l (pdu_in tag view) p in
    on_forward_stays l (flight.Tun tag packet) (is_some (forwarding_in view)) (on_delivery l (delivery_in tag view) q)
    ∙ delivery_stays l (delivery_in tag view) q ∙ pdu_stays l (pdu_in tag view) p
taken_stays l (flight.Sdu id g sdu) p = refl
taken_stays l (flight.End id g) p = refl
taken_stays l (flight.Told id g count) p = refl
taken_stays l (flight.Ctl r) p = on_record_stays l r p

given_stays : (o : Option (LinkId × Flight)) (p : Past) → moment (given_if o p) ≡ moment p
given_stays None p = refl
given_stays (Some s) p = taken_stays s.0 s.1 (record p { given = Some s })

-- the flight that the event takes is gone
accepted_stands : (e : Event) (p : Past) → moment (accepted e p) ≡ record (moment p) { standing = left_after (place_taken e answer.Ok) p.standing }
accepted_stands (event.Bearer id n first shape threshold policy) p = drawn_stays (event.Bearer id n first shape threshold policy) None p
accepted_stands (event.Reshape id shape) p = drawn_stays (event.Reshape id shape) None p
accepted_stands (event.Remove id) p = drawn_stays (event.Remove id) None (record p { bearers = on_latest id (λ b. record b { is_dropped = true }) p.bearers })
accepted_stands (event.Add x) p = drawn_stays (event.Add x) None p
accepted_stands event.Change p = drawn_stays event.Change None p
accepted_stands event.Release p = drawn_stays event.Release None p
accepted_stands event.RekeySecond p = drawn_stays event.RekeySecond None p
accepted_stands (event.RekeyMaster root) p = drawn_stays (event.RekeyMaster root) None p
accepted_stands (event.Recover id) p = refl
accepted_stands (event.Report x id) p = refl
accepted_stands (event.Deny x on) p = second_stays x _ p
accepted_stands (event.Ask x w) p = second_stays x _ p
accepted_stands event.ScgFail p = refl
accepted_stands (event.Submit id d sdu) p = refl
accepted_stands (event.Step l i) p = given_stays (find_at l i p.standing) (record p { standing = without l i p.standing })
accepted_stands (event.Lose l i) p = lost_stays (find_at l i p.standing) (record p { standing = without l i p.standing })
accepted_stands (event.Again l i) p = refl

-- a refusal leaves all as it is, unless the flight is aged
not_aged : (why : Refusal) (e : Event) (p : Past) → aged e p ≡ p → refused why e p ≡ p
not_aged refusal.NoBearer e p stays = refl
not_aged refusal.BearerThere e p stays = refl
not_aged refusal.Busy e p stays = refl
not_aged refusal.NoSecondary e p stays = refl
not_aged refusal.SecondaryThere e p stays = refl
not_aged refusal.SameShape e p stays = refl
not_aged refusal.IdSpent e p stays = refl
not_aged refusal.CounterSpent e p stays = refl
not_aged refusal.RootUsed e p stays = refl
not_aged refusal.NoFlight e p stays = refl
not_aged refusal.NotFirst e p stays = refl
not_aged refusal.NotTunnel e p stays = refl
not_aged refusal.Aged e p stays = stays
not_aged refusal.Full e p stays = refl
not_aged refusal.Exhausted e p stays = refl
not_aged refusal.NoPolicy e p stays = refl

step_stands : (why : Refusal) (l : LinkId) (i : ℕ) (p : Past)
    → moment (refused why (event.Step l i) p) ≡ record (moment p) { standing = left_after (place_taken (event.Step l i) (answer.No why)) p.standing }
step_stands refusal.NoBearer l i p = refl
step_stands refusal.BearerThere l i p = refl
step_stands refusal.Busy l i p = refl
step_stands refusal.NoSecondary l i p = refl
step_stands refusal.SecondaryThere l i p = refl
step_stands refusal.SameShape l i p = refl
step_stands refusal.IdSpent l i p = refl
step_stands refusal.CounterSpent l i p = refl
step_stands refusal.RootUsed l i p = refl
step_stands refusal.NoFlight l i p = refl
step_stands refusal.NotFirst l i p = refl
step_stands refusal.NotTunnel l i p = refl
step_stands refusal.Aged l i p = refl
step_stands refusal.Full l i p = refl
step_stands refusal.Exhausted l i p = refl
step_stands refusal.NoPolicy l i p = refl

refused_stands : (why : Refusal) (e : Event) (p : Past) → moment (refused why e p) ≡ record (moment p) { standing = left_after (place_taken e (answer.No why)) p.standing }
refused_stands why (event.Bearer id n first shape threshold policy) p = ap moment (not_aged why (event.Bearer id n first shape threshold policy) p refl)
refused_stands why (event.Reshape id shape) p = ap moment (not_aged why (event.Reshape id shape) p refl)
refused_stands why (event.Remove id) p = ap moment (not_aged why (event.Remove id) p refl)
refused_stands why (event.Add x) p = ap moment (not_aged why (event.Add x) p refl)
refused_stands why event.Change p = ap moment (not_aged why event.Change p refl)
refused_stands why event.Release p = ap moment (not_aged why event.Release p refl)
refused_stands why event.RekeySecond p = ap moment (not_aged why event.RekeySecond p refl)
refused_stands why (event.RekeyMaster root) p = ap moment (not_aged why (event.RekeyMaster root) p refl)
refused_stands why (event.Recover id) p = ap moment (not_aged why (event.Recover id) p refl)
refused_stands why (event.Report x id) p = ap moment (not_aged why (event.Report x id) p refl)
refused_stands why (event.Deny x on) p = ap moment (not_aged why (event.Deny x on) p refl)
refused_stands why (event.Ask x w) p = ap moment (not_aged why (event.Ask x w) p refl)
refused_stands why event.ScgFail p = ap moment (not_aged why event.ScgFail p refl)
refused_stands why (event.Submit id d sdu) p = ap moment (not_aged why (event.Submit id d sdu) p refl)
refused_stands why (event.Step l i) p = step_stands why l i p
refused_stands why (event.Lose l i) p = ap moment (not_aged why (event.Lose l i) p refl)
refused_stands why (event.Again l i) p = ap moment (not_aged why (event.Again l i) p refl)

answered_stands : (e : Event) (a : Answer) (p : Past) → moment (answered e a p) ≡ record (moment p) { standing = left_after (place_taken e a) p.standing }
answered_stands e answer.Ok p = accepted_stands e p
answered_stands e (answer.No why) p = refused_stands why e p

-- before the lines of an event the flight that it took is gone, and nothing else
pub judged_stands : (e : Event) (a : Answer) (p : Past) → moment (judged e a p) ≡ record { standing = left_after (place_taken e a) p.standing; said = [] }
judged_stands e a p = answered_stands e a (record p { earlier = p.pdus; event = e; answer = a; given = None; copied = None; fresh = []; said = [] })

-- after them there stands besides what they sent
pub after_stands : (p : Past) (x : Entry) → (after p x).standing ≡ left_after (place_taken x.event x.answer) p.standing ++ sends x.lines
after_stands p x = all_noted x.lines (judged x.event x.answer p) ∙ ap (λ (m : Moment). m.standing ++ sends x.lines) (judged_stands x.event x.answer p)
