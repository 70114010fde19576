-- What a step of the past does to what is seen of the downlinks.
use Rattle.std.proofs.Common.{ℕ, ◌≡◌, ◌==◌, Bool, true, false, List, [], Option, Some, None, refl, ap, ◌∙◌}
use Rattle.std.specs.Prelude.{filter, if◌then◌else◌, is_some, map, nat_lt, not, ◌&&◌}
use Rattle.dc_base.specs.Links.{reverse}
use Rattle.dc_base.specs.declared.answers.Answer.{Answer}
use Rattle.dc_base.specs.declared.answers.Answer.TheVariants as answer
use Rattle.dc_base.specs.declared.answers.Refusal.{Refusal}
use Rattle.dc_base.specs.declared.answers.Refusal.TheVariants as refusal
use Rattle.dc_base.specs.declared.events.Event.{Event}
use Rattle.dc_base.specs.declared.events.Event.TheVariants as event
use Rattle.dc_base.specs.declared.events.Line.{Line}
use Rattle.dc_base.specs.declared.events.Line.TheVariants as line
use Rattle.dc_base.specs.declared.events.Note.{Note}
use Rattle.dc_base.specs.declared.events.Note.TheVariants as note
use Rattle.dc_base.specs.declared.flights.Flight.{Flight}
use Rattle.dc_base.specs.declared.flights.Flight.TheVariants as flight
use Rattle.dc_base.specs.declared.nodes.Dir.TheVariants.{Dl, Ul}
use Rattle.dc_base.specs.declared.nodes.LinkId.{LinkId}
use Rattle.dc_base.specs.declared.nodes.Node.{Node}
use Rattle.dc_base.specs.declared.nodes.Node.TheVariants.{T, M, A, B}
use Rattle.dc_base.specs.declared.nodes.Want.{Want}
use Rattle.dc_base.specs.declared.records.Item.{Item}
use Rattle.dc_base.specs.declared.records.Item.TheVariants.{Set, Unset}
use Rattle.dc_base.specs.declared.records.Rec.{Rec}
use Rattle.dc_base.specs.declared.records.Rec.TheVariants as rec
use Rattle.claims.specs.Links.{find_at, without}
use Rattle.claims.specs.Packets.{packet_of}
use Rattle.claims.specs.Views.{Delivery, Pdu, delivery_in, forwarding_in, forwarding_of, owner_of, pdu_in, pdu_of}
use Rattle.claims.specs.Table.{Command, is_change}
use Rattle.claims.specs.Past.{Bearer, Past, Second, lossy}
use Rattle.claims.specs.Reading.{Setting, bearer_of, holds, lane, setting, with_lane, with_second}
use Rattle.claims.specs.Reading as reading
use Rattle.claims.specs.Drafts.{command_of, draft}
use Rattle.claims.specs.Carrying.{dropped_at}
use Rattle.claims.specs.Taking.{ack_taken, acked_count, delivered, delivered_to, drop_taken, given_if, is_asked, listed_numbers, settled, tunnelled, on_delivery, on_forward, on_pdu, on_record, on_set_pdu, pair_taken, pdu_taken, taken_from, told_taken, warn, with_delivery}
use Rattle.claims.specs.Judged.{accepted, aged, calmed, fails, fails_in, forward_lost, has_scg_in, judged, leg_fails, lost_if, own_lost, refused, trouble, troubled, with_submission}
use Rattle.claims.specs.Judged as judging
use Rattle.claims.specs.Noted.{answers, as_send, begun, done_by, given_away, noted, noted_flight, noted_line, noted_note, noted_record, owned_by, put, set_to_generation, with_up}
use Rattle.run_uplinks.proofs.Seeing.{begins, begins_line}
use Rattle.run_uplinks.specs.Seen.{draws, one_more}
use Rattle.run_downlinks.specs.Seen.{answered, downlink_of, seen, with_event}
use Rattle.run_downlinks.proofs.Unseen.{ack_unseen, all_unseen, carry_seen, change_unseen, changed_unseen, confirmed_unseen, draft_seen, dropped_unseen, fold_unseen, if_unseen, latest_seen, latest_unseen, one_unseen, owned_unseen, pdu_taken_unseen, second_seen, told_unseen, with_bearers}

-- ---- a note

second_table : (x : Node) (r : Second) (p : Past) → (with_second x r p).table ≡ p.table
second_table T r p = refl
second_table M r p = refl
second_table A r p = refl
second_table B r p = refl

-- a command that begins is drawn
pub begun_seen : (o : Option Node) (w : Want) (p : Past) → seen (begun o w p) ≡ draws (draft p.table (command_of w)) (seen p)
begun_seen None w p = draft_seen p (command_of w) None (draft p.table (command_of w))
begun_seen (Some x) w p =
    let q = answers x p in
    let e = command_of w in
    draft_seen q e (Some x) (draft q.table e) ∙ ap (λ t. draws (draft t e) (seen q)) (second_table x _ p) ∙ ap (draws (draft p.table e)) (second_seen x _ p)

done_unseen : (o : Option Command) (bs : List Bearer) → map downlink_of (done_by o bs) ≡ map downlink_of bs
done_unseen None bs = refl
done_unseen (Some c) bs = all_unseen (λ (b : Bearer). if is_change b.g c.kind then record b { is_done = true } else b) (if_unseen (λ b. is_change b.g c.kind) (λ b. record b { is_done = true }) (λ b. refl)) bs

note_seen : (n : Note) (p : Past) → begins n ≡ false → seen (noted_note n p) ≡ seen p
note_seen (note.Begin w) p no' = absurd cc
note_seen (note.Join x g) p no' = second_seen x _ p
note_seen (note.Leave x g) p no' = second_seen x _ p
note_seen (note.Give x id g) p no' = with_bearers (seen p) _ (latest_unseen id (given_away x g) (dropped_unseen x) p.bearers)
note_seen (note.Own x id g) p no' = with_bearers (seen p) _ (change_unseen p id g (owned_by x g) (owned_unseen x g))
note_seen (note.Set id g) p no' = with_bearers (seen p) _ (change_unseen p id g (set_to_generation g) (λ b. refl))
note_seen (note.Unset id) p no' = with_bearers (seen p) _ (latest_unseen id (λ b. record b { terminal = None }) (λ b. refl) p.bearers)
note_seen (note.Up x id Ul count sdu) p no' = with_bearers (seen p) _ (latest_unseen id (λ b. with_lane Ul (with_up count sdu (lane Ul b)) b) (λ b. refl) p.bearers)
note_seen (note.Up x id Dl count sdu) p no' = with_bearers (seen p) _ (latest_unseen id (λ b. with_lane Dl (with_up count sdu (lane Dl b)) b) (λ b. refl) p.bearers)
note_seen (note.Freed id Dl count) p no' = with_bearers (seen p) _ (latest_unseen id (λ b. with_lane Dl (record (lane Dl b) { freed = count }) b) (λ b. refl) p.bearers)
note_seen (note.Freed id Ul count) p no' = with_bearers (seen p) _ (latest_unseen id (λ b. with_lane Ul (record (lane Ul b) { freed = count }) b) (λ b. refl) p.bearers)
note_seen (note.Confirmed x) p no' = second_seen x _ p
note_seen (note.Refused x w) p no' = second_seen x _ p
note_seen note.Done p no' = with_bearers (seen p) _ (done_unseen p.table.command p.bearers)
note_seen note.Rejected p no' = refl

-- ---- a line

record_seen : (x : Node) (r : Rec) (p : Past) → seen (noted_record x r p) ≡ seen p
record_seen x (rec.Reconf q key) p = carry_seen q.g p
record_seen x (rec.Rcomp g) p = refl
record_seen x (rec.Scgf pairs) p = refl
record_seen x (rec.Recov id) p = refl
record_seen x (rec.Recovd id) p = refl
record_seen x (rec.Addreq q key) p = refl
record_seen x (rec.Addack g) p = refl
record_seen x (rec.Addrej g) p = refl
record_seen x (rec.Modreq q key) p = refl
record_seen x (rec.Modack g) p = refl
record_seen x (rec.Modrej g) p = refl
record_seen x (rec.Recfg g) p = refl
record_seen x (rec.Relreq q) p = refl
record_seen x (rec.Relack g) p = refl
record_seen x (rec.Relrej g) p = refl
record_seen x (rec.Uecr g) p = refl
record_seen x (rec.Snst s) p = refl
record_seen x (rec.Moved g id) p = refl
record_seen x (rec.Scgn id g) p = refl
record_seen x rec.Modrqd p = refl
record_seen x (rec.Modcnf g) p = refl
record_seen x (rec.Modref w) p = second_seen x _ p
record_seen x rec.Chgrqd p = refl
record_seen x (rec.Chgcnf q) p = refl
record_seen x (rec.Chgref w) p = second_seen x _ p
record_seen x rec.Relrqd p = refl
record_seen x (rec.Relcnf q) p = second_seen x _ p

flight_seen : (l : LinkId) (f : Flight) (p : Past) → seen (noted_flight l f p) ≡ seen p
flight_seen l (flight.Air id g num tag pdu) p = refl
flight_seen l (flight.Ack id g num) p = refl
flight_seen l (flight.Tun tag packet) p = refl
flight_seen l (flight.Sdu id g sdu) p = refl
flight_seen l (flight.End id g) p = refl
flight_seen l (flight.Told id g count) p = with_bearers (seen p) _ (change_unseen p id g (λ b. record b { tells = count }) (λ b. refl))
flight_seen l (flight.Ctl r) p = record_seen l.to r p

as_send_seen : (o : Option (LinkId × Flight)) (l : LinkId) (f : Flight) (p : Past) → seen (as_send o l f p) ≡ seen p
as_send_seen None l f p = refl
as_send_seen (Some s) l f p = refl

put_seen : (l : LinkId) (f : Flight) (p : Past) → seen (put l f p) ≡ seen p
put_seen l f p = as_send_seen p.copied l f p

line_seen : (x : Line) (p : Past) → begins_line x ≡ false → seen (noted_line x p) ≡ seen p
line_seen (line.Note n) p no' = note_seen n p no'
line_seen (line.Send l f) p no' = flight_seen l f (put l f p) ∙ put_seen l f p
line_seen (line.Event e) p no' = refl
line_seen (line.Answer a) p no' = refl

-- of a line
pub noted_seen : (p : Past) (x : Line) → begins_line x ≡ false → seen (noted p x) ≡ seen p
noted_seen p x no' = line_seen x p no'

-- ---- an event

own_seen : (o : Option (ℕ × ℕ)) (p : Past) → seen (own_lost o p) ≡ seen p
own_seen None p = refl
own_seen (Some x) p = with_bearers (seen p) _ (change_unseen p x.0 x.1 (λ b. record b { calm = lossy }) (λ b. refl))

forward_seen : (o : Option (ℕ × ℕ)) (p : Past) → seen (forward_lost o p) ≡ seen p
forward_seen None p = refl
forward_seen (Some x) p = with_bearers (seen p) _ (change_unseen p x.0 x.1 (λ b. record b { lost_forward = true }) (λ b. refl))

trouble_unseen : (bs : List Bearer) → map downlink_of (trouble bs) ≡ map downlink_of bs
trouble_unseen bs = all_unseen (λ b. record b { calm = troubled b.calm }) (λ b. refl) bs

lost_seen : (o : Option (LinkId × Flight)) (p : Past) → seen (lost_if o p) ≡ seen p
lost_seen None p = refl
lost_seen (Some s) p =
    let q = record p { bearers = trouble p.bearers } in
    forward_seen (forwarding_of s.1) (own_lost (owner_of s.1) q) ∙ own_seen (owner_of s.1) q ∙ with_bearers (seen p) _ (trouble_unseen p.bearers)

set_pdu_seen : (l : LinkId) (u : Pdu) (p : Past) (o : Option Setting) → seen (on_set_pdu l u p o) ≡ seen p
set_pdu_seen l u p None = refl
set_pdu_seen l u p (Some s) = with_bearers (seen p) _ (change_unseen p u.id u.g (pdu_taken l u s) (pdu_taken_unseen l u s))

pdu_seen : (l : LinkId) (o : Option Pdu) (p : Past) → seen (on_pdu l o p) ≡ seen p
pdu_seen l None p = refl
pdu_seen l (Some u) p = set_pdu_seen l u p (setting p u.id u.g)

delivered_seen : (is : Bool) (l : LinkId) (v : Delivery) (b : Bearer) (p : Past) → seen (delivered is l v b p) ≡ seen p
delivered_seen false l v b p = refl
delivered_seen true l v b p = with_bearers (seen p) _ (
    let us = tunnelled (reverse l) v.id v.g p in
    one_unseen b.g (with_delivery v us (filter (λ k. not (is_asked v.g b.asked k)) (listed_numbers v.lost us))) (λ x. confirmed_unseen Dl (settled v.tag v.lost us) x) p.bearers)

delivered_to_seen : (l : LinkId) (v : Delivery) (p : Past) (o : Option Bearer) → seen (delivered_to l v p o) ≡ seen p
delivered_to_seen l v p None = refl
delivered_to_seen l v p (Some b) = delivered_seen (holds l.to v.g b.holder) l v b p

delivery_seen : (l : LinkId) (o : Option Delivery) (p : Past) → seen (on_delivery l o p) ≡ seen p
delivery_seen l None p = refl
delivery_seen l (Some v) p = delivered_to_seen l v p (bearer_of p v.id v.g)

on_forward_seen : (l : LinkId) (f : Flight) (is : Bool) (p : Past) → seen (on_forward l f is p) ≡ seen p
on_forward_seen l f false p = refl
on_forward_seen l f true p = refl

pair_unseen : (p : Past) (bs : List Bearer) (x : ℕ × ℕ) → map downlink_of (pair_taken p bs x) ≡ map downlink_of bs
pair_unseen p bs (id, g) = changed_unseen (warn M g) (λ b. refl) _ bs

drop_unseen : (x : Node) (g : ℕ) (bs : List Bearer) (i : Item) → map downlink_of (drop_taken x g bs i) ≡ map downlink_of bs
drop_unseen x g bs (Set id n first shape threshold policy key old) = refl
drop_unseen x g bs (Unset id) =
    all_unseen (λ b. if (b.id == id) && nat_lt b.g g then dropped_at x b else b) (if_unseen (λ b. (b.id == id) && nat_lt b.g g) (dropped_at x) (dropped_unseen x)) bs

on_record_seen : (l : LinkId) (r : Rec) (p : Past) → seen (on_record l r p) ≡ seen p
on_record_seen l (rec.Reconf q key) p = refl
on_record_seen l (rec.Rcomp g) p = refl
on_record_seen l (rec.Scgf pairs) p = with_bearers (seen p) _ (fold_unseen (pair_taken p) (pair_unseen p) pairs p.bearers)
on_record_seen l (rec.Recov id) p = refl
on_record_seen l (rec.Recovd id) p = refl
on_record_seen l (rec.Addreq q key) p = refl
on_record_seen l (rec.Addack g) p = refl
on_record_seen l (rec.Addrej g) p = refl
on_record_seen l (rec.Modreq q key) p = with_bearers (seen p) _ (fold_unseen (drop_taken l.to q.g) (drop_unseen l.to q.g) q.items p.bearers)
on_record_seen l (rec.Modack g) p = refl
on_record_seen l (rec.Modrej g) p = refl
on_record_seen l (rec.Recfg g) p = refl
on_record_seen l (rec.Relreq q) p = refl
on_record_seen l (rec.Relack g) p = refl
on_record_seen l (rec.Relrej g) p = refl
on_record_seen l (rec.Uecr g) p = refl
on_record_seen l (rec.Snst s) p = refl
on_record_seen l (rec.Moved g id) p = refl
on_record_seen l (rec.Scgn id g) p = with_bearers (seen p) _ (change_unseen p id g (warn l.to g) (λ b. refl))
on_record_seen l rec.Modrqd p = second_seen l.from _ p
on_record_seen l (rec.Modcnf g) p = refl
on_record_seen l (rec.Modref w) p = refl
on_record_seen l rec.Chgrqd p = second_seen l.from _ p
on_record_seen l (rec.Chgcnf q) p = refl
on_record_seen l (rec.Chgref w) p = refl
on_record_seen l rec.Relrqd p = second_seen l.from _ p
on_record_seen l (rec.Relcnf q) p = refl

taken_seen : (l : LinkId) (f : Flight) (p : Past) → seen (taken_from l f p) ≡ seen p
taken_seen l (flight.Air id g num tag pdu) p = pdu_seen l (pdu_of (flight.Air id g num tag pdu)) p
taken_seen l (flight.Ack id g num) p = with_bearers (seen p) _ (change_unseen p id g (ack_taken l g (acked_count l id g num p)) (ack_unseen l g (acked_count l id g num p)))
taken_seen l (flight.Tun tag packet) p =
    let view = packet_of packet in
    let q = on_pdu l (pdu_in tag view) p in
    on_forward_seen l (flight.Tun tag packet) (is_some (forwarding_in view)) (on_delivery l (delivery_in tag view) q)
    ∙ delivery_seen l (delivery_in tag view) q ∙ pdu_seen l (pdu_in tag view) p
taken_seen l (flight.Sdu id g sdu) p = refl
taken_seen l (flight.End id g) p = refl
taken_seen l (flight.Told id g count) p = with_bearers (seen p) _ (change_unseen p id g (told_taken count) (told_unseen count))
taken_seen l (flight.Ctl r) p = on_record_seen l r p

given_seen : (o : Option (LinkId × Flight)) (p : Past) → seen (given_if o p) ≡ seen p
given_seen None p = refl
given_seen (Some s) p = taken_seen s.0 s.1 (record p { given = Some s })

leg_unseen : (is : Bool) (b : Bearer) → downlink_of (leg_fails is b) ≡ downlink_of b
leg_unseen false b = refl
leg_unseen true b = refl

fails_in_unseen : (p : Past) (b : Bearer) (o : Option ℕ) → downlink_of (fails_in p b o) ≡ downlink_of b
fails_in_unseen p b None = refl
fails_in_unseen p b (Some g) = leg_unseen (has_scg_in (setting p b.id g)) b

accepted_seen : (e : Event) (p : Past) → seen (accepted e p) ≡ with_event (draft p.table e) e (seen p)
accepted_seen (event.Bearer id n first shape threshold policy) p = let e = event.Bearer id n first shape threshold policy in draft_seen p e None (draft p.table e)
accepted_seen (event.Reshape id shape) p = let e = event.Reshape id shape in draft_seen p e None (draft p.table e)
accepted_seen (event.Remove id) p =
    let q = record p { bearers = reading.on_latest id (λ b. record b { is_dropped = true }) p.bearers } in
    let e = event.Remove id in
    draft_seen q e None (draft p.table e)
    ∙ ap (λ us. draws (draft p.table e) (record (seen p) { bearers = us })) (latest_unseen id (λ b. record b { is_dropped = true }) (λ b. refl) p.bearers)
accepted_seen (event.Add x) p = let e = event.Add x in draft_seen p e None (draft p.table e)
accepted_seen event.Change p = draft_seen p event.Change None (draft p.table event.Change)
accepted_seen event.Release p = draft_seen p event.Release None (draft p.table event.Release)
accepted_seen event.RekeySecond p = draft_seen p event.RekeySecond None (draft p.table event.RekeySecond)
accepted_seen (event.RekeyMaster root) p = let e = event.RekeyMaster root in draft_seen p e None (draft p.table e)
accepted_seen (event.Recover id) p = with_bearers (seen p) _ (latest_unseen id (λ b. record b { calm = calmed b.calm }) (λ b. refl) p.bearers)
accepted_seen (event.Report x id) p = refl
accepted_seen (event.Deny x on) p = second_seen x _ p
accepted_seen (event.Ask x w) p = second_seen x _ p
accepted_seen event.ScgFail p = with_bearers (seen p) _ (trouble_unseen (map (fails p) p.bearers) ∙ all_unseen (fails p) (λ b. fails_in_unseen p b b.terminal) p.bearers)
accepted_seen (event.Submit id Ul sdu) p = with_bearers (seen p) _ (latest_unseen id (λ b. with_lane Ul (with_submission sdu (lane Ul b)) b) (λ b. refl) p.bearers)
accepted_seen (event.Submit id Dl sdu) p =
    ap (λ us. record (seen p) { bearers = us }) (latest_seen id (λ b. with_lane Dl (with_submission sdu (lane Dl b)) b) (one_more sdu) (λ b. refl) p.bearers)
accepted_seen (event.Step l i) p = given_seen (find_at l i p.standing) (record p { standing = without l i p.standing })
accepted_seen (event.Lose l i) p = lost_seen (find_at l i p.standing) (record p { standing = without l i p.standing })
accepted_seen (event.Again l i) p = refl

aged_seen : (e : Event) (p : Past) → seen (aged e p) ≡ seen p
aged_seen (event.Step l i) p = refl
aged_seen (event.Bearer id n first shape threshold policy) p = refl
aged_seen (event.Reshape id shape) p = refl
aged_seen (event.Remove id) p = refl
aged_seen (event.Add x) p = refl
aged_seen event.Change p = refl
aged_seen event.Release p = refl
aged_seen event.RekeySecond p = refl
aged_seen (event.RekeyMaster root) p = refl
aged_seen (event.Recover id) p = refl
aged_seen (event.Report x id) p = refl
aged_seen (event.Deny x on) p = refl
aged_seen (event.Ask x w) p = refl
aged_seen event.ScgFail p = refl
aged_seen (event.Submit id d sdu) p = refl
aged_seen (event.Lose l i) p = refl
aged_seen (event.Again l i) p = refl

refused_seen : (why : Refusal) (e : Event) (p : Past) → seen (refused why e p) ≡ seen p
refused_seen refusal.NoBearer e p = refl
refused_seen refusal.BearerThere e p = refl
refused_seen refusal.Busy e p = refl
refused_seen refusal.NoSecondary e p = refl
refused_seen refusal.SecondaryThere e p = refl
refused_seen refusal.SameShape e p = refl
refused_seen refusal.IdSpent e p = refl
refused_seen refusal.CounterSpent e p = refl
refused_seen refusal.RootUsed e p = refl
refused_seen refusal.NoFlight e p = refl
refused_seen refusal.NotFirst e p = refl
refused_seen refusal.NotTunnel e p = refl
refused_seen refusal.Aged e p = aged_seen e p
refused_seen refusal.Full e p = refl
refused_seen refusal.Exhausted e p = refl
refused_seen refusal.NoPolicy e p = refl

answered_seen : (e : Event) (a : Answer) (p : Past) → seen (judging.answered e a p) ≡ answered (draft p.table e) e a (seen p)
answered_seen e answer.Ok p = accepted_seen e p
answered_seen e (answer.No why) p = refused_seen why e p

-- of an event, before its lines
pub judged_seen : (e : Event) (a : Answer) (p : Past) → seen (judged e a p) ≡ answered (draft p.table e) e a (seen p)
judged_seen e a p = answered_seen e a (record p { earlier = p.pdus; event = e; answer = a; given = None; copied = None; fresh = []; said = [] })
