-- What the steps of the past do to the command table and the plans.
use Rattle.std.proofs.Common.{ℕ, ◌≡◌, Bool, true, false, List, [], ◌∷◌, Option, Some, None, refl, ap, ◌∙◌}
use Rattle.std.specs.Prelude.{fold, is_some}
use Rattle.dc_base.specs.declared.answers.Answer.{Answer}
use Rattle.dc_base.specs.declared.answers.Answer.TheVariants as answer
use Rattle.dc_base.specs.declared.answers.Refusal.{Refusal}
use Rattle.dc_base.specs.declared.answers.Refusal.TheVariants as refusal
use Rattle.dc_base.specs.declared.events.Event.{Event}
use Rattle.dc_base.specs.declared.events.Event.TheVariants as event
use Rattle.dc_base.specs.declared.events.Line.{Line}
use Rattle.dc_base.specs.declared.events.Line.TheVariants as line
use Rattle.dc_base.specs.declared.events.Note.{Note}
use Rattle.dc_base.specs.declared.events.Note.TheVariants as note
use Rattle.dc_base.specs.declared.flights.Flight.{Flight}
use Rattle.dc_base.specs.declared.flights.Flight.TheVariants as flight
use Rattle.dc_base.specs.declared.nodes.LinkId.{LinkId}
use Rattle.dc_base.specs.declared.nodes.Node.{Node}
use Rattle.dc_base.specs.declared.nodes.Node.TheVariants.{T, M, A, B}
use Rattle.dc_base.specs.declared.nodes.Want.{Want}
use Rattle.dc_base.specs.declared.records.Plan.{Plan}
use Rattle.dc_base.specs.declared.records.Rec.{Rec}
use Rattle.dc_base.specs.declared.records.Rec.TheVariants as rec
use Rattle.transcript.specs.Transcript.{Entry}
use Rattle.claims.specs.Links.{find_at, without}
use Rattle.claims.specs.Packets.{packet_of}
use Rattle.claims.specs.Views.{Delivery, Pdu, delivery_in, forwarding_in, forwarding_of, owner_of, pdu_in, pdu_of}
use Rattle.claims.specs.Table.{Command, recovery}
use Rattle.claims.specs.Past.{Bearer, Past, Second}
use Rattle.claims.specs.Reading.{Setting, bearer_of, holds, on_latest, plan, setting, with_second}
use Rattle.claims.specs.Drafts.{Draft, command_of, draft}
use Rattle.claims.specs.Carrying.{carry, carry_if, carry_plan, carry_with, drawn_by, with_draft}
use Rattle.claims.specs.Taking.{delivered, delivered_to, given_if, on_delivery, on_forward, on_pdu, on_record, on_set_pdu, taken_from}
use Rattle.claims.specs.Judged.{accepted, aged, forward_lost, judged, lost_command, lost_if, own_lost, refused, trouble}
use Rattle.claims.specs.Noted.{after, answers, as_send, begun, noted, noted_flight, noted_line, noted_note, noted_record, put}
use Rattle.run_table.specs.View.{View, carries, carries_if, carries_plan, carries_with, draws, draws_if, view}
use Rattle.run_table.specs.Words.{hears, hears_flight, hears_note, hears_record}

-- ---- what draws, carries out and answers

pub second_view : (x : Node) (s : Second) (p : Past) → view (with_second x s p) ≡ view p
second_view T s p = refl
second_view M s p = refl
second_view A s p = refl
second_view B s p = refl

draft_view : (e : Event) (asker : Option Node) (p : Past) (o : Option Draft) → view (with_draft p e asker o) ≡ draws_if e asker o (view p)
draft_view e asker p None = refl
draft_view e asker p (Some d) = refl

drawn_view : (e : Event) (asker : Option Node) (p : Past) → view (drawn_by e asker p) ≡ draws e asker (view p)
drawn_view e asker p = draft_view e asker p (draft p.table e)

plan_view : (g : ℕ) (p : Past) (c : Command) (o : Option Plan) → view (carry_plan p g c o) ≡ carries_plan g c o (view p)
plan_view g p c None = refl
plan_view g p c (Some q) = refl

carry_if_view : (g : ℕ) (p : Past) (c : Command) (is : Bool) → view (carry_if p g c is) ≡ carries_if g c is (view p)
carry_if_view g p c false = refl
carry_if_view g p c true = plan_view g p c (plan p g)

carry_with_view : (g : ℕ) (p : Past) (o : Option Command) → view (carry_with p g o) ≡ carries_with g o (view p)
carry_with_view g p None = refl
carry_with_view g p (Some c) = carry_if_view g p c _

carry_view : (g : ℕ) (p : Past) → view (carry g p) ≡ carries g (view p)
carry_view g p = carry_with_view g p p.table.command

begun_view : (o : Option Node) (w : Want) (p : Past) → view (begun o w p) ≡ draws (command_of w) o (view p)
begun_view None w p = drawn_view (command_of w) None p
begun_view (Some x) w p = drawn_view (command_of w) (Some x) (answers x p) ∙ ap (draws (command_of w) (Some x)) (second_view x _ p)

-- ---- a line

note_view : (n : Note) (p : Past) → view (noted_note n p) ≡ hears_note (view p) n
note_view (note.Begin w) p = begun_view p.table.sec w p
note_view (note.Join x g) p = second_view x _ p
note_view (note.Leave x g) p = second_view x _ p
note_view (note.Give x id g) p = refl
note_view (note.Own x id g) p = refl
note_view (note.Set id g) p = refl
note_view (note.Unset id) p = refl
note_view (note.Up x id d count sdu) p = refl
note_view (note.Freed id d count) p = refl
note_view (note.Confirmed x) p = second_view x _ p
note_view (note.Refused x w) p = second_view x _ p
note_view note.Done p = refl
note_view note.Rejected p = refl

record_view : (x : Node) (r : Rec) (p : Past) → view (noted_record x r p) ≡ hears_record (view p) r
record_view x (rec.Reconf q key) p = carry_view q.g p
record_view x (rec.Rcomp g) p = refl
record_view x (rec.Scgf pairs) p = refl
record_view x (rec.Recov id) p = refl
record_view x (rec.Recovd id) p = refl
record_view x (rec.Addreq q key) p = refl
record_view x (rec.Addack g) p = refl
record_view x (rec.Addrej g) p = refl
record_view x (rec.Modreq q key) p = refl
record_view x (rec.Modack g) p = refl
record_view x (rec.Modrej g) p = refl
record_view x (rec.Recfg g) p = refl
record_view x (rec.Relreq q) p = refl
record_view x (rec.Relack g) p = refl
record_view x (rec.Relrej g) p = refl
record_view x (rec.Uecr g) p = refl
record_view x (rec.Snst s) p = refl
record_view x (rec.Moved g id) p = refl
record_view x (rec.Scgn id g) p = refl
record_view x rec.Modrqd p = refl
record_view x (rec.Modcnf g) p = refl
record_view x (rec.Modref w) p = second_view x _ p
record_view x rec.Chgrqd p = refl
record_view x (rec.Chgcnf q) p = refl
record_view x (rec.Chgref w) p = second_view x _ p
record_view x rec.Relrqd p = refl
record_view x (rec.Relcnf q) p = second_view x _ p

flight_view : (l : LinkId) (f : Flight) (p : Past) → view (noted_flight l f p) ≡ hears_flight (view p) f
flight_view l (flight.Air id g num tag pdu) p = refl
flight_view l (flight.Ack id g num) p = refl
flight_view l (flight.Tun tag packet) p = refl
flight_view l (flight.Sdu id g sdu) p = refl
flight_view l (flight.End id g) p = refl
flight_view l (flight.Told id g count) p = refl
flight_view l (flight.Ctl r) p = record_view l.to r p

as_send_view : (o : Option (LinkId × Flight)) (l : LinkId) (f : Flight) (p : Past) → view (as_send o l f p) ≡ view p
as_send_view None l f p = refl
as_send_view (Some s) l f p = refl

put_view : (l : LinkId) (f : Flight) (p : Past) → view (put l f p) ≡ view p
put_view l f p = as_send_view p.copied l f p

line_view : (x : Line) (p : Past) → view (noted_line x p) ≡ hears (view p) x
line_view (line.Note n) p = note_view n p
line_view (line.Send l f) p = flight_view l f (put l f p) ∙ ap (λ v. hears_flight v f) (put_view l f p)
line_view (line.Event e) p = refl
line_view (line.Answer a) p = refl

-- a line of an event
pub noted_view : (p : Past) (x : Line) → view (noted p x) ≡ hears (view p) x
noted_view p x = line_view x p

-- several lines
pub all_noted_view : (xs : List Line) (p : Past) → view (fold noted p xs) ≡ fold hears (view p) xs
all_noted_view [] p = refl
all_noted_view (x ∷ xs) p = all_noted_view xs (noted p x) ∙ ap (λ v. fold hears v xs) (noted_view p x)

-- ---- an event

-- a forwarded packet of the open command is lost
abbrev pub loses : Option (ℕ × ℕ) → View → View
loses None v = v
loses (Some x) v = record v { table = record v.table { command = lost_command x.1 v.table.command } }

-- a flight that is lost
abbrev pub loses_flight : Option (LinkId × Flight) → View → View
loses_flight None v = v
loses_flight (Some s) v = loses (forwarding_of s.1) v

-- the recovery of an identity is open
abbrev pub recovers : ℕ → View → View
recovers id v = record v {
  table = record v.table {
    command = Some (record {
      kind = recovery id;
      event = event.Recover id;
      asker = None;
      target = None;
      root = v.table.root;
      second_key = v.table.second_key;
      is_carried = true;
      is_lost = false;
    });
  };
}

own_view : (o : Option (ℕ × ℕ)) (p : Past) → view (own_lost o p) ≡ view p
own_view None p = refl
own_view (Some x) p = refl

forward_view : (o : Option (ℕ × ℕ)) (p : Past) → view (forward_lost o p) ≡ loses o (view p)
forward_view None p = refl
forward_view (Some x) p = refl

lost_view : (o : Option (LinkId × Flight)) (p : Past) → view (lost_if o p) ≡ loses_flight o (view p)
lost_view None p = refl
lost_view (Some s) p =
    let q = record p { bearers = trouble p.bearers } in
    forward_view (forwarding_of s.1) (own_lost (owner_of s.1) q) ∙ ap (loses (forwarding_of s.1)) (own_view (owner_of s.1) q)

set_pdu_view : (l : LinkId) (u : Pdu) (p : Past) (o : Option Setting) → view (on_set_pdu l u p o) ≡ view p
set_pdu_view l u p None = refl
set_pdu_view l u p (Some s) = refl

pdu_view : (l : LinkId) (o : Option Pdu) (p : Past) → view (on_pdu l o p) ≡ view p
pdu_view l None p = refl
pdu_view l (Some u) p = set_pdu_view l u p (setting p u.id u.g)

delivered_view : (is : Bool) (l : LinkId) (v : Delivery) (b : Bearer) (p : Past) → view (delivered is l v b p) ≡ view p
delivered_view false l v b p = refl
delivered_view true l v b p = refl

delivered_to_view : (l : LinkId) (v : Delivery) (p : Past) (o : Option Bearer) → view (delivered_to l v p o) ≡ view p
delivered_to_view l v p None = refl
delivered_to_view l v p (Some b) = delivered_view (holds l.to v.g b.holder) l v b p

delivery_view : (l : LinkId) (o : Option Delivery) (p : Past) → view (on_delivery l o p) ≡ view p
delivery_view l None p = refl
delivery_view l (Some v) p = delivered_to_view l v p (bearer_of p v.id v.g)

on_forward_view : (l : LinkId) (f : Flight) (is : Bool) (p : Past) → view (on_forward l f is p) ≡ view p
on_forward_view l f false p = refl
on_forward_view l f true p = refl

on_record_view : (l : LinkId) (r : Rec) (p : Past) → view (on_record l r p) ≡ view p
on_record_view l (rec.Reconf q key) p = refl
on_record_view l (rec.Rcomp g) p = refl
on_record_view l (rec.Scgf pairs) p = refl
on_record_view l (rec.Recov id) p = refl
on_record_view l (rec.Recovd id) p = refl
on_record_view l (rec.Addreq q key) p = refl
on_record_view l (rec.Addack g) p = refl
on_record_view l (rec.Addrej g) p = refl
on_record_view l (rec.Modreq q key) p = refl
on_record_view l (rec.Modack g) p = refl
on_record_view l (rec.Modrej g) p = refl
on_record_view l (rec.Recfg g) p = refl
on_record_view l (rec.Relreq q) p = refl
on_record_view l (rec.Relack g) p = refl
on_record_view l (rec.Relrej g) p = refl
on_record_view l (rec.Uecr g) p = refl
on_record_view l (rec.Snst s) p = refl
on_record_view l (rec.Moved g id) p = refl
on_record_view l (rec.Scgn id g) p = refl
on_record_view l rec.Modrqd p = second_view l.from _ p
on_record_view l (rec.Modcnf g) p = refl
on_record_view l (rec.Modref w) p = refl
on_record_view l rec.Chgrqd p = second_view l.from _ p
on_record_view l (rec.Chgcnf q) p = refl
on_record_view l (rec.Chgref w) p = refl
on_record_view l rec.Relrqd p = second_view l.from _ p
on_record_view l (rec.Relcnf q) p = refl

taken_view : (l : LinkId) (f : Flight) (p : Past) → view (taken_from l f p) ≡ view p
taken_view l (flight.Air id g num tag pdu) p = pdu_view l (pdu_of (flight.Air id g num tag pdu)) p
taken_view l (flight.Ack id g num) p = refl
taken_view l (flight.Tun tag packet) p =
    let seen = packet_of packet in
    let q = on_pdu l (pdu_in tag seen) p in
    on_forward_view l (flight.Tun tag packet) (is_some (forwarding_in seen)) (on_delivery l (delivery_in tag seen) q)
    ∙ delivery_view l (delivery_in tag seen) q ∙ pdu_view l (pdu_in tag seen) p
taken_view l (flight.Sdu id g sdu) p = refl
taken_view l (flight.End id g) p = refl
taken_view l (flight.Told id g count) p = refl
taken_view l (flight.Ctl r) p = on_record_view l r p

given_view : (o : Option (LinkId × Flight)) (p : Past) → view (given_if o p) ≡ view p
given_view None p = refl
given_view (Some s) p = taken_view s.0 s.1 (record p { given = Some s })

-- what an event does that is answered ok: a command of the master's draws, and a loss is kept in mind
abbrev pub hears_event : Past → Event → View → View
hears_event p (event.Bearer id n first shape threshold policy) v = draws (event.Bearer id n first shape threshold policy) None v
hears_event p (event.Reshape id shape) v = draws (event.Reshape id shape) None v
hears_event p (event.Remove id) v = draws (event.Remove id) None v
hears_event p (event.Add x) v = draws (event.Add x) None v
hears_event p event.Change v = draws event.Change None v
hears_event p event.Release v = draws event.Release None v
hears_event p event.RekeySecond v = draws event.RekeySecond None v
hears_event p (event.RekeyMaster root) v = draws (event.RekeyMaster root) None v
hears_event p (event.Recover id) v = recovers id v
hears_event p (event.Lose l i) v = loses_flight (find_at l i p.standing) v
hears_event p _ v = v

accepted_view : (e : Event) (p : Past) → view (accepted e p) ≡ hears_event p e (view p)
accepted_view (event.Bearer id n first shape threshold policy) p = drawn_view (event.Bearer id n first shape threshold policy) None p
accepted_view (event.Reshape id shape) p = drawn_view (event.Reshape id shape) None p
accepted_view (event.Remove id) p = drawn_view (event.Remove id) None (record p { bearers = on_latest id (λ b. record b { is_dropped = true }) p.bearers })
accepted_view (event.Add x) p = drawn_view (event.Add x) None p
accepted_view event.Change p = drawn_view event.Change None p
accepted_view event.Release p = drawn_view event.Release None p
accepted_view event.RekeySecond p = drawn_view event.RekeySecond None p
accepted_view (event.RekeyMaster root) p = drawn_view (event.RekeyMaster root) None p
accepted_view (event.Recover id) p = refl
accepted_view (event.Report x id) p = refl
accepted_view (event.Deny x on) p = second_view x _ p
accepted_view (event.Ask x w) p = second_view x _ p
accepted_view event.ScgFail p = refl
accepted_view (event.Submit id d sdu) p = refl
accepted_view (event.Step l i) p = given_view (find_at l i p.standing) (record p { standing = without l i p.standing })
accepted_view (event.Lose l i) p = lost_view (find_at l i p.standing) (record p { standing = without l i p.standing })
accepted_view (event.Again l i) p = refl

aged_view : (e : Event) (p : Past) → view (aged e p) ≡ view p
aged_view (event.Bearer id n first shape threshold policy) p = refl
aged_view (event.Reshape id shape) p = refl
aged_view (event.Remove id) p = refl
aged_view (event.Add x) p = refl
aged_view event.Change p = refl
aged_view event.Release p = refl
aged_view event.RekeySecond p = refl
aged_view (event.RekeyMaster root) p = refl
aged_view (event.Recover id) p = refl
aged_view (event.Report x id) p = refl
aged_view (event.Deny x on) p = refl
aged_view (event.Ask x w) p = refl
aged_view event.ScgFail p = refl
aged_view (event.Submit id d sdu) p = refl
aged_view (event.Step l i) p = refl
aged_view (event.Lose l i) p = refl
aged_view (event.Again l i) p = refl

refused_view : (why : Refusal) (e : Event) (p : Past) → view (refused why e p) ≡ view p
refused_view refusal.NoBearer e p = refl
refused_view refusal.BearerThere e p = refl
refused_view refusal.Busy e p = refl
refused_view refusal.NoSecondary e p = refl
refused_view refusal.SecondaryThere e p = refl
refused_view refusal.SameShape e p = refl
refused_view refusal.IdSpent e p = refl
refused_view refusal.CounterSpent e p = refl
refused_view refusal.RootUsed e p = refl
refused_view refusal.NoFlight e p = refl
refused_view refusal.NotFirst e p = refl
refused_view refusal.NotTunnel e p = refl
refused_view refusal.Full e p = refl
refused_view refusal.Exhausted e p = refl
refused_view refusal.NoPolicy e p = refl
refused_view refusal.Aged e p = aged_view e p

-- the past before the lines of an event: a refused one changes nothing
abbrev pub hears_answer : Past → Event → Answer → View → View
hears_answer p e answer.Ok v = hears_event p e v
hears_answer p e (answer.No why) v = v

pub judged_view : (e : Event) (a : Answer) (p : Past) → view (judged e a p) ≡ hears_answer p e a (view p)
judged_view e answer.Ok p = accepted_view e (record p { earlier = p.pdus; event = e; answer = answer.Ok; given = None; copied = None; fresh = []; said = [] })
judged_view e (answer.No why) p = refused_view why e (record p { earlier = p.pdus; event = e; answer = answer.No why; given = None; copied = None; fresh = []; said = [] })

-- the past after an entry
pub after_view : (p : Past) (x : Entry) → view (after p x) ≡ fold hears (hears_answer p x.event x.answer (view p)) x.lines
after_view p x =
    all_noted_view x.lines (judged x.event x.answer p) ∙ ap (λ v. fold hears v x.lines) (judged_view x.event x.answer p)
