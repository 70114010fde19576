-- What a step of the past does to what it says of who holds each bearer.
use Rattle.std.proofs.Common.{ℕ, ◌≡◌, ◌==◌, Bool, true, false, List, [], ◌∷◌, Option, Some, None, refl, sym, ap, ◌∙◌, ◌+◌, inl, inr}
use Rattle.std.specs.Prelude.{filter, find, fold, if◌then◌else◌, is_some, map, not, ◌⊎◌}
use Rattle.dc_base.specs.Links.{reverse}
use Rattle.dc_base.specs.declared.answers.Answer.{Answer}
use Rattle.dc_base.specs.declared.answers.Answer.TheVariants as answer
use Rattle.dc_base.specs.declared.answers.Refusal.{Refusal}
use Rattle.dc_base.specs.declared.answers.Refusal.TheVariants as refusal
use Rattle.dc_base.specs.declared.events.Event.{Event}
use Rattle.dc_base.specs.declared.events.Event.TheVariants as event
use Rattle.dc_base.specs.declared.events.Line.{Line}
use Rattle.dc_base.specs.declared.events.Line.TheVariants as line
use Rattle.dc_base.specs.declared.events.Note.{Note}
use Rattle.dc_base.specs.declared.events.Note.TheVariants as note
use Rattle.dc_base.specs.declared.flights.Flight.{Flight}
use Rattle.dc_base.specs.declared.flights.Flight.TheVariants as flight
use Rattle.dc_base.specs.declared.nodes.Dir.TheVariants.{Dl, Ul}
use Rattle.dc_base.specs.declared.nodes.LinkId.{LinkId}
use Rattle.dc_base.specs.declared.nodes.Node.{Node}
use Rattle.dc_base.specs.declared.nodes.Node.TheVariants.{T, M, A, B}
use Rattle.dc_base.specs.declared.nodes.Want.{Want}
use Rattle.dc_base.specs.declared.records.Rec.{Rec}
use Rattle.dc_base.specs.declared.records.Rec.TheVariants as rec
use Rattle.claims.specs.Links.{find_at, without}
use Rattle.claims.specs.Packets.{packet_of}
use Rattle.claims.specs.Views.{Delivery, Pdu, delivery_in, forwarding_in, forwarding_of, owner_of, pdu_in, pdu_of}
use Rattle.claims.specs.Shapes.{mm}
use Rattle.claims.specs.Table.{Command, Row, Table, is_change, next_key}
use Rattle.dc_base.specs.Nodes.{is_mm}
use Rattle.run_table.specs.Words.{is_order, orders}
use Rattle.dc_base.specs.declared.nodes.KeyName.{KeyName}
use Rattle.dc_base.specs.declared.nodes.Shape.{Shape}
use Rattle.dc_base.specs.declared.nodes.Want.TheVariants as want
use Rattle.dc_base.specs.declared.records.Plan.{Plan}
use Rattle.claims.specs.Past.{Bearer, Past, Second, lossy}
use Rattle.claims.specs.Reading.{Setting, bearer_of, holds, lane, plan, setting, with_lane, with_second}
use Rattle.claims.specs.Reading as reading
use Rattle.claims.specs.Drafts.{Draft, change_draft, command_of, draft, rekey_second_draft, release_draft, set_to}
use Rattle.claims.specs.Carrying.{carry, with_draft}
use Rattle.claims.specs.Taking.{ack_taken, acked_count, delivered, delivered_to, given_if, is_asked, listed_numbers, settled, tunnelled, on_delivery, on_forward, on_pdu, on_record, on_set_pdu, pair_taken, pdu_taken, taken_from, told_taken, warn, with_delivery}
use Rattle.claims.specs.Judged.{accepted, aged, calmed, fails, fails_in, forward_lost, has_scg_in, judged, leg_fails, lost_if, own_lost, refused, trouble, troubled, with_submission}
use Rattle.claims.specs.Judged as judging
use Rattle.claims.specs.Noted.{answers, as_send, begun, done_by, given_away, noted, noted_flight, noted_line, noted_note, noted_record, owned_by, put, set_to_generation, with_up}
use Rattle.run_holders.specs.Holdings.{Holding, changed_in, dropped_all, holding_of, holdings, let_go, named_in, on_latest, taken_by, with_new}
use Rattle.run_holders.proofs.StillHeld.{Carries, carries_nothing, carries_out, ack_unseen, all_unseen, carry_seen, change_seen, change_unseen, changed_unseen, confirmed_unseen, draft_seen, drop_seen, fold_unseen, given_seen, if_unseen, latest_seen, latest_unseen, one_unseen, owned_seen, pdu_taken_unseen, second_seen, told_unseen}

-- ---- a note

second_table : (x : Node) (r : Second) (p : Past) → (with_second x r p).table ≡ p.table
second_table T r p = refl
second_table M r p = refl
second_table A r p = refl
second_table B r p = refl

-- items that set bearers that were there before establish none
pub settings_none : (g : ℕ) (t : Table) (root : ℕ) (k : KeyName) (shape : Row → Shape) (rows : List Row) (hs : List Holding) → fold (with_new g) hs (map (set_to t root k shape) rows) ≡ hs
settings_none g t root k shape [] hs = refl
settings_none g t root k shape (r ∷ rows) hs = settings_none g t root k shape rows hs

draft_still : (p : Past) (w : Want) (asker : Option Node) → holdings (with_draft p (command_of w) asker (draft p.table (command_of w))) ≡ holdings p
draft_still p want.Rekey asker = draft_seen p event.RekeySecond asker (rekey_second_draft p.table) ∙ settings_none (p.table.last + 1) p.table p.table.root (next_key p.table) (λ r. r.shape) (filter (λ (r : Row). r.shape.at_second) p.table.rows) (holdings p)
draft_still p want.Change asker = draft_seen p event.Change asker (change_draft p.table) ∙ settings_none (p.table.last + 1) p.table p.table.root (next_key p.table) (λ r. r.shape) (filter (λ (r : Row). not (is_mm r.shape)) p.table.rows) (holdings p)
draft_still p want.Release asker = draft_seen p event.Release asker (release_draft p.table) ∙ settings_none (p.table.last + 1) p.table p.table.root p.table.second_key (λ r. mm) (filter (λ (r : Row). not (is_mm r.shape)) p.table.rows) (holdings p)

-- a command that begins for a secondary node establishes no bearer
begun_seen : (o : Option Node) (w : Want) (p : Past) → holdings (begun o w p) ≡ holdings p
begun_seen None w p = draft_still p w None
begun_seen (Some x) w p = draft_still (answers x p) w (Some x) ∙ second_seen x _ p

done_unseen : (o : Option Command) (bs : List Bearer) → map holding_of (done_by o bs) ≡ map holding_of bs
done_unseen None bs = refl
done_unseen (Some c) bs = all_unseen (λ (b : Bearer). if is_change b.g c.kind then record b { is_done = true } else b) (if_unseen (λ b. is_change b.g c.kind) (λ b. record b { is_done = true }) (λ b. refl)) bs

-- the note says that an anchor is active, or was frozen
abbrev pub is_move : Note → Bool
is_move (note.Own x id g) = true
is_move (note.Give x id g) = true
is_move _ = false

note_seen : (n : Note) (p : Past) → is_move n ≡ false → holdings (noted_note n p) ≡ holdings p
note_seen (note.Begin w) p no' = begun_seen p.table.sec w p
note_seen (note.Join x g) p no' = second_seen x _ p
note_seen (note.Leave x g) p no' = second_seen x _ p
note_seen (note.Give x id g) p no' = absurd cc
note_seen (note.Own x id g) p no' = absurd cc
note_seen (note.Set id g) p no' = change_unseen p id g (set_to_generation g) (λ b. refl)
note_seen (note.Unset id) p no' = latest_unseen id (λ b. record b { terminal = None }) (λ b. refl) p.bearers
note_seen (note.Up x id Ul count sdu) p no' = latest_unseen id (λ b. with_lane Ul (with_up count sdu (lane Ul b)) b) (λ b. refl) p.bearers
note_seen (note.Up x id Dl count sdu) p no' = latest_unseen id (λ b. with_lane Dl (with_up count sdu (lane Dl b)) b) (λ b. refl) p.bearers
note_seen (note.Freed id Dl count) p no' = latest_unseen id (λ b. with_lane Dl (record (lane Dl b) { freed = count }) b) (λ b. refl) p.bearers
note_seen (note.Freed id Ul count) p no' = latest_unseen id (λ b. with_lane Ul (record (lane Ul b) { freed = count }) b) (λ b. refl) p.bearers
note_seen (note.Confirmed x) p no' = second_seen x _ p
note_seen (note.Refused x w) p no' = second_seen x _ p
note_seen note.Done p no' = done_unseen p.table.command p.bearers
note_seen note.Rejected p no' = refl

-- ---- a line

record_seen : (x : Node) (r : Rec) (p : Past) → is_order r ≡ false → holdings (noted_record x r p) ≡ holdings p
record_seen x (rec.Reconf q key) p none = absurd cc
record_seen x (rec.Rcomp g) p none = refl
record_seen x (rec.Scgf pairs) p none = refl
record_seen x (rec.Recov id) p none = refl
record_seen x (rec.Recovd id) p none = refl
record_seen x (rec.Addreq q key) p none = refl
record_seen x (rec.Addack g) p none = refl
record_seen x (rec.Addrej g) p none = refl
record_seen x (rec.Modreq q key) p none = refl
record_seen x (rec.Modack g) p none = refl
record_seen x (rec.Modrej g) p none = refl
record_seen x (rec.Recfg g) p none = refl
record_seen x (rec.Relreq q) p none = refl
record_seen x (rec.Relack g) p none = refl
record_seen x (rec.Relrej g) p none = refl
record_seen x (rec.Uecr g) p none = refl
record_seen x (rec.Snst s) p none = refl
record_seen x (rec.Moved g id) p none = refl
record_seen x (rec.Scgn id g) p none = refl
record_seen x rec.Modrqd p none = refl
record_seen x (rec.Modcnf g) p none = refl
record_seen x (rec.Modref w) p none = second_seen x _ p
record_seen x rec.Chgrqd p none = refl
record_seen x (rec.Chgcnf q) p none = refl
record_seen x (rec.Chgref w) p none = second_seen x _ p
record_seen x rec.Relrqd p none = refl
record_seen x (rec.Relcnf q) p none = second_seen x _ p

flight_seen : (l : LinkId) (f : Flight) (p : Past) → orders f ≡ false → holdings (noted_flight l f p) ≡ holdings p
flight_seen l (flight.Air id g num tag pdu) p none = refl
flight_seen l (flight.Ack id g num) p none = refl
flight_seen l (flight.Tun tag packet) p none = refl
flight_seen l (flight.Sdu id g sdu) p none = refl
flight_seen l (flight.End id g) p none = refl
flight_seen l (flight.Told id g count) p none = (change_unseen p id g (λ b. record b { tells = count }) (λ b. refl))
flight_seen l (flight.Ctl r) p none = record_seen l.to r p none

as_send_seen : (o : Option (LinkId × Flight)) (l : LinkId) (f : Flight) (p : Past) → holdings (as_send o l f p) ≡ holdings p
as_send_seen None l f p = refl
as_send_seen (Some s) l f p = refl

put_seen : (l : LinkId) (f : Flight) (p : Past) → holdings (put l f p) ≡ holdings p
put_seen l f p = as_send_seen p.copied l f p

-- the line is such a note, or has the terminal reconfigure
abbrev pub is_moving_line : Line → Bool
is_moving_line (line.Note n) = is_move n
is_moving_line (line.Send l f) = orders f
is_moving_line _ = false

line_seen : (x : Line) (p : Past) → is_moving_line x ≡ false → holdings (noted_line x p) ≡ holdings p
line_seen (line.Note n) p no' = note_seen n p no'
line_seen (line.Send l f) p no' = flight_seen l f (put l f p) no' ∙ put_seen l f p
line_seen (line.Event e) p no' = refl
line_seen (line.Answer a) p no' = refl

-- any other line says nothing of who holds
pub noted_seen : (p : Past) (x : Line) → is_moving_line x ≡ false → holdings (noted p x) ≡ holdings p
noted_seen p x no' = line_seen x p no'

-- an anchor becomes active
pub noted_own : (p : Past) (x : Node) (id g : ℕ) → holdings (noted p (line.Note (note.Own x id g))) ≡ changed_in (taken_by x g) (holdings p) (named_in id g (setting p id g) (holdings p))
noted_own p x id g = change_seen p id g (owned_by x g) (taken_by x g) (owned_seen x g)

-- or is frozen
pub noted_give : (p : Past) (x : Node) (id g : ℕ) → holdings (noted p (line.Note (note.Give x id g))) ≡ on_latest id (let_go x) (holdings p)
noted_give p x id g = latest_seen id (given_away x g) (let_go x) (given_seen x g) p.bearers

-- a plan is carried out
pub noted_order : (p : Past) (l : LinkId) (q : Plan) (key : List ℕ)
    → (holdings (noted p (line.Send l (flight.Ctl (rec.Reconf q key)))) ≡ holdings p)
    ⊎ ((r : Plan) × (plan p q.g ≡ Some r) × (holdings (noted p (line.Send l (flight.Ctl (rec.Reconf q key)))) ≡ dropped_all M q.g r.items (holdings p)))
noted_order p l q key = by (carry_seen q.g (put l (flight.Ctl (rec.Reconf q key)) p))
  where
    f : Flight
    f = flight.Ctl (rec.Reconf q key)

    plans : (o : Option (LinkId × Flight)) → (as_send o l f p).plans ≡ p.plans
    plans None = refl
    plans (Some s) = refl

    by : Carries (put l f p) (carry q.g (put l f p)) q.g
        → (holdings (noted p (line.Send l f)) ≡ holdings p) ⊎ ((r : Plan) × (plan p q.g ≡ Some r) × (holdings (noted p (line.Send l f)) ≡ dropped_all M q.g r.items (holdings p)))
    by (carries_nothing same) = inl (same ∙ put_seen l f p)
    by (carries_out r at drops) =
        inr (r, ap (λ (ps : List Plan). find (λ (z : Plan). z.g == q.g) ps) (sym (plans p.copied)) ∙ at, drops ∙ ap (λ hs. dropped_all M q.g r.items hs) (put_seen l f p))

-- ---- an event

own_seen : (o : Option (ℕ × ℕ)) (p : Past) → holdings (own_lost o p) ≡ holdings p
own_seen None p = refl
own_seen (Some x) p = (change_unseen p x.0 x.1 (λ b. record b { calm = lossy }) (λ b. refl))

forward_seen : (o : Option (ℕ × ℕ)) (p : Past) → holdings (forward_lost o p) ≡ holdings p
forward_seen None p = refl
forward_seen (Some x) p = (change_unseen p x.0 x.1 (λ b. record b { lost_forward = true }) (λ b. refl))

trouble_unseen : (bs : List Bearer) → map holding_of (trouble bs) ≡ map holding_of bs
trouble_unseen bs = all_unseen (λ b. record b { calm = troubled b.calm }) (λ b. refl) bs

lost_seen : (o : Option (LinkId × Flight)) (p : Past) → holdings (lost_if o p) ≡ holdings p
lost_seen None p = refl
lost_seen (Some s) p =
    let q = record p { bearers = trouble p.bearers } in
    forward_seen (forwarding_of s.1) (own_lost (owner_of s.1) q) ∙ own_seen (owner_of s.1) q ∙ (trouble_unseen p.bearers)

set_pdu_seen : (l : LinkId) (u : Pdu) (p : Past) (o : Option Setting) → holdings (on_set_pdu l u p o) ≡ holdings p
set_pdu_seen l u p None = refl
set_pdu_seen l u p (Some s) = (change_unseen p u.id u.g (pdu_taken l u s) (pdu_taken_unseen l u s))

pdu_seen : (l : LinkId) (o : Option Pdu) (p : Past) → holdings (on_pdu l o p) ≡ holdings p
pdu_seen l None p = refl
pdu_seen l (Some u) p = set_pdu_seen l u p (setting p u.id u.g)

delivered_seen : (is : Bool) (l : LinkId) (v : Delivery) (b : Bearer) (p : Past) → holdings (delivered is l v b p) ≡ holdings p
delivered_seen false l v b p = refl
delivered_seen true l v b p = (
    let us = tunnelled (reverse l) v.id v.g p in
    one_unseen b.g (with_delivery v us (filter (λ k. not (is_asked v.g b.asked k)) (listed_numbers v.lost us))) (λ x. confirmed_unseen Dl (settled v.tag v.lost us) x) p.bearers)

delivered_to_seen : (l : LinkId) (v : Delivery) (p : Past) (o : Option Bearer) → holdings (delivered_to l v p o) ≡ holdings p
delivered_to_seen l v p None = refl
delivered_to_seen l v p (Some b) = delivered_seen (holds l.to v.g b.holder) l v b p

delivery_seen : (l : LinkId) (o : Option Delivery) (p : Past) → holdings (on_delivery l o p) ≡ holdings p
delivery_seen l None p = refl
delivery_seen l (Some v) p = delivered_to_seen l v p (bearer_of p v.id v.g)

on_forward_seen : (l : LinkId) (f : Flight) (is : Bool) (p : Past) → holdings (on_forward l f is p) ≡ holdings p
on_forward_seen l f false p = refl
on_forward_seen l f true p = refl

pair_unseen : (p : Past) (bs : List Bearer) (x : ℕ × ℕ) → map holding_of (pair_taken p bs x) ≡ map holding_of bs
pair_unseen p bs (id, g) = changed_unseen (warn M g) (λ b. refl) _ bs

-- what a record that a node takes drops there
abbrev pub with_record : Node → Rec → List Holding → List Holding
with_record x (rec.Modreq q key) hs = dropped_all x q.g q.items hs
with_record x _ hs = hs

-- and a flight
abbrev pub with_flight : LinkId → Flight → List Holding → List Holding
with_flight l (flight.Ctl r) hs = with_record l.to r hs
with_flight l _ hs = hs

on_record_seen : (l : LinkId) (r : Rec) (p : Past) → holdings (on_record l r p) ≡ with_record l.to r (holdings p)
on_record_seen l (rec.Reconf q key) p = refl
on_record_seen l (rec.Rcomp g) p = refl
on_record_seen l (rec.Scgf pairs) p = (fold_unseen (pair_taken p) (pair_unseen p) pairs p.bearers)
on_record_seen l (rec.Recov id) p = refl
on_record_seen l (rec.Recovd id) p = refl
on_record_seen l (rec.Addreq q key) p = refl
on_record_seen l (rec.Addack g) p = refl
on_record_seen l (rec.Addrej g) p = refl
on_record_seen l (rec.Modreq q key) p = drop_seen l.to q.g q.items p.bearers
on_record_seen l (rec.Modack g) p = refl
on_record_seen l (rec.Modrej g) p = refl
on_record_seen l (rec.Recfg g) p = refl
on_record_seen l (rec.Relreq q) p = refl
on_record_seen l (rec.Relack g) p = refl
on_record_seen l (rec.Relrej g) p = refl
on_record_seen l (rec.Uecr g) p = refl
on_record_seen l (rec.Snst s) p = refl
on_record_seen l (rec.Moved g id) p = refl
on_record_seen l (rec.Scgn id g) p = (change_unseen p id g (warn l.to g) (λ b. refl))
on_record_seen l rec.Modrqd p = second_seen l.from _ p
on_record_seen l (rec.Modcnf g) p = refl
on_record_seen l (rec.Modref w) p = refl
on_record_seen l rec.Chgrqd p = second_seen l.from _ p
on_record_seen l (rec.Chgcnf q) p = refl
on_record_seen l (rec.Chgref w) p = refl
on_record_seen l rec.Relrqd p = second_seen l.from _ p
on_record_seen l (rec.Relcnf q) p = refl

taken_seen : (l : LinkId) (f : Flight) (p : Past) → holdings (taken_from l f p) ≡ with_flight l f (holdings p)
taken_seen l (flight.Air id g num tag pdu) p = pdu_seen l (pdu_of (flight.Air id g num tag pdu)) p
taken_seen l (flight.Ack id g num) p = (change_unseen p id g (ack_taken l g (acked_count l id g num p)) (ack_unseen l g (acked_count l id g num p)))
taken_seen l (flight.Tun tag packet) p =
    let view = packet_of packet in
    let q = on_pdu l (pdu_in tag view) p in
    on_forward_seen l (flight.Tun tag packet) (is_some (forwarding_in view)) (on_delivery l (delivery_in tag view) q)
    ∙ delivery_seen l (delivery_in tag view) q ∙ pdu_seen l (pdu_in tag view) p
taken_seen l (flight.Sdu id g sdu) p = refl
taken_seen l (flight.End id g) p = refl
taken_seen l (flight.Told id g count) p = (change_unseen p id g (told_taken count) (told_unseen count))
taken_seen l (flight.Ctl r) p = on_record_seen l r p

-- if one is given
abbrev pub with_given : Option (LinkId × Flight) → List Holding → List Holding
with_given None hs = hs
with_given (Some s) hs = with_flight s.0 s.1 hs

taken_given : (o : Option (LinkId × Flight)) (p : Past) → holdings (given_if o p) ≡ with_given o (holdings p)
taken_given None p = refl
taken_given (Some s) p = taken_seen s.0 s.1 (record p { given = Some s })

fails_in_unseen : (p : Past) (b : Bearer) (o : Option ℕ) → holding_of (fails_in p b o) ≡ holding_of b
fails_in_unseen p b None = refl
fails_in_unseen p b (Some g) = by (has_scg_in (setting p b.id g))
  where
    by : (is : Bool) → holding_of (leg_fails is b) ≡ holding_of b
    by true = refl
    by false = refl

-- a draft is drawn
abbrev pub draws : ℕ → Option Draft → List Holding → List Holding
draws g None hs = hs
draws g (Some d) hs = fold (with_new g) hs d.items

draws_seen : (p : Past) (e : Event) (asker : Option Node) (o : Option Draft) → holdings (with_draft p e asker o) ≡ draws (p.table.last + 1) o (holdings p)
draws_seen p e asker None = refl
draws_seen p e asker (Some d) = draft_seen p e asker d

-- an event that was answered ok
abbrev pub with_event : Past → Event → List Holding → List Holding
with_event p (event.Step l i) hs = with_given (find_at l i p.standing) hs
with_event p e hs = draws (p.table.last + 1) (draft p.table e) hs

accepted_seen : (e : Event) (p : Past) → holdings (accepted e p) ≡ with_event p e (holdings p)
accepted_seen (event.Bearer id n first shape threshold policy) p = draws_seen p (event.Bearer id n first shape threshold policy) None (draft p.table (event.Bearer id n first shape threshold policy))
accepted_seen (event.Reshape id shape) p = draws_seen p (event.Reshape id shape) None (draft p.table (event.Reshape id shape))
accepted_seen (event.Add x) p = draws_seen p (event.Add x) None (draft p.table (event.Add x))
accepted_seen event.Change p = draws_seen p event.Change None (draft p.table event.Change)
accepted_seen event.Release p = draws_seen p event.Release None (draft p.table event.Release)
accepted_seen event.RekeySecond p = draws_seen p event.RekeySecond None (draft p.table event.RekeySecond)
accepted_seen (event.RekeyMaster root) p = draws_seen p (event.RekeyMaster root) None (draft p.table (event.RekeyMaster root))
accepted_seen (event.Remove id) p =
    let q = record p { bearers = reading.on_latest id (λ b. record b { is_dropped = true }) p.bearers } in
    let e = event.Remove id in
    draws_seen q e None (draft p.table e) ∙ ap (λ hs. draws (p.table.last + 1) (draft p.table e) hs) (latest_unseen id (λ b. record b { is_dropped = true }) (λ b. refl) p.bearers)
accepted_seen (event.Recover id) p = latest_unseen id (λ b. record b { calm = calmed b.calm }) (λ b. refl) p.bearers
accepted_seen (event.Report x id) p = refl
accepted_seen (event.Deny x on) p = second_seen x _ p
accepted_seen (event.Ask x w) p = second_seen x _ p
accepted_seen event.ScgFail p = trouble_unseen (map (fails p) p.bearers) ∙ all_unseen (fails p) (λ b. fails_in_unseen p b b.terminal) p.bearers
accepted_seen (event.Submit id Ul sdu) p = latest_unseen id (λ b. with_lane Ul (with_submission sdu (lane Ul b)) b) (λ b. refl) p.bearers
accepted_seen (event.Submit id Dl sdu) p = latest_unseen id (λ b. with_lane Dl (with_submission sdu (lane Dl b)) b) (λ b. refl) p.bearers
accepted_seen (event.Step l i) p = taken_given (find_at l i p.standing) (record p { standing = without l i p.standing })
accepted_seen (event.Lose l i) p = lost_seen (find_at l i p.standing) (record p { standing = without l i p.standing })
accepted_seen (event.Again l i) p = refl

aged_seen : (e : Event) (p : Past) → holdings (aged e p) ≡ holdings p
aged_seen (event.Step l i) p = refl
aged_seen (event.Bearer id n first shape threshold policy) p = refl
aged_seen (event.Reshape id shape) p = refl
aged_seen (event.Remove id) p = refl
aged_seen (event.Add x) p = refl
aged_seen event.Change p = refl
aged_seen event.Release p = refl
aged_seen event.RekeySecond p = refl
aged_seen (event.RekeyMaster root) p = refl
aged_seen (event.Recover id) p = refl
aged_seen (event.Report x id) p = refl
aged_seen (event.Deny x on) p = refl
aged_seen (event.Ask x w) p = refl
aged_seen event.ScgFail p = refl
aged_seen (event.Submit id d sdu) p = refl
aged_seen (event.Lose l i) p = refl
aged_seen (event.Again l i) p = refl

refused_seen : (why : Refusal) (e : Event) (p : Past) → holdings (refused why e p) ≡ holdings p
refused_seen refusal.NoBearer e p = refl
refused_seen refusal.BearerThere e p = refl
refused_seen refusal.Busy e p = refl
refused_seen refusal.NoSecondary e p = refl
refused_seen refusal.SecondaryThere e p = refl
refused_seen refusal.SameShape e p = refl
refused_seen refusal.IdSpent e p = refl
refused_seen refusal.CounterSpent e p = refl
refused_seen refusal.RootUsed e p = refl
refused_seen refusal.NoFlight e p = refl
refused_seen refusal.NotFirst e p = refl
refused_seen refusal.NotTunnel e p = refl
refused_seen refusal.Aged e p = aged_seen e p
refused_seen refusal.Full e p = refl
refused_seen refusal.Exhausted e p = refl
refused_seen refusal.NoPolicy e p = refl

-- an event with its answer
abbrev pub with_answer : Past → Event → Answer → List Holding → List Holding
with_answer p e answer.Ok hs = with_event p e hs
with_answer p e (answer.No why) hs = hs

answered_seen : (e : Event) (a : Answer) (p : Past) → holdings (judging.answered e a p) ≡ with_answer p e a (holdings p)
answered_seen e answer.Ok p = accepted_seen e p
answered_seen e (answer.No why) p = refused_seen why e p

-- of an event, before its lines
pub judged_seen : (e : Event) (a : Answer) (p : Past) → holdings (judged e a p) ≡ with_answer p e a (holdings p)
judged_seen e a p = answered_seen e a (record p { earlier = p.pdus; event = e; answer = a; given = None; copied = None; fresh = []; said = [] })
