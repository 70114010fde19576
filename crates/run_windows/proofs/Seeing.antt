-- What a step of the past does to what is seen of it.
use Rattle.std.proofs.Common.{ℕ, ◌≡◌, ◌+◌, ◌==◌, Bool, true, false, List, [], ◌∷◌, Option, Some, None, length, refl, sym, ap, ◌∙◌, inl, inr}
use Rattle.std.specs.Prelude.{fold, filter, if◌then◌else◌, is_some, map, nat_lt, not, ◌&&◌}
use Rattle.std.specs.Option.{option_map}
use Rattle.std.proofs.lemmas.Bool.{cases_Bool}
use Rattle.std.proofs.lemmas.List.{length-append}
use Rattle.dc_base.specs.declared.answers.Answer.{Answer}
use Rattle.dc_base.specs.declared.answers.Answer.TheVariants as answer
use Rattle.dc_base.specs.declared.answers.Refusal.{Refusal}
use Rattle.dc_base.specs.declared.answers.Refusal.TheVariants as refusal
use Rattle.dc_base.specs.declared.events.Event.{Event}
use Rattle.dc_base.specs.declared.events.Event.TheVariants as event
use Rattle.dc_base.specs.declared.events.Line.{Line}
use Rattle.dc_base.specs.declared.events.Line.TheVariants as line
use Rattle.dc_base.specs.declared.events.Note.{Note}
use Rattle.dc_base.specs.declared.events.Note.TheVariants as note
use Rattle.dc_base.specs.declared.flights.Flight.{Flight}
use Rattle.dc_base.specs.declared.flights.Flight.TheVariants as flight
use Rattle.dc_base.specs.declared.nodes.Dir.{Dir}
use Rattle.dc_base.specs.declared.nodes.Dir.TheVariants.{Dl, Ul}
use Rattle.dc_base.specs.declared.nodes.KeyName.{KeyName}
use Rattle.dc_base.specs.declared.nodes.LinkId.{LinkId}
use Rattle.dc_base.specs.declared.nodes.Node.{Node}
use Rattle.dc_base.specs.declared.nodes.Node.TheVariants.{T, M, A, B}
use Rattle.dc_base.specs.declared.nodes.Shape.{Shape}
use Rattle.dc_base.specs.declared.nodes.Want.{Want}
use Rattle.dc_base.specs.declared.nodes.Want.TheVariants as want
use Rattle.dc_base.specs.declared.records.Item.{Item}
use Rattle.dc_base.specs.declared.records.Item.TheVariants.{Set, Unset}
use Rattle.dc_base.specs.declared.records.Plan.{Plan}
use Rattle.dc_base.specs.declared.records.Rec.{Rec}
use Rattle.dc_base.specs.declared.records.Rec.TheVariants as rec
use Rattle.pdcp_pdu.specs.DataPdu.{is_data}
use Rattle.pdcp_pdu.specs.Pdu.{decoded}
use Rattle.transcript.specs.Transcript.{Entry}
use Rattle.claims.specs.Confirming.{Confirmation, acked}
use Rattle.claims.specs.Links.{find_at, without}
use Rattle.claims.specs.Packets.{packet_of}
use Rattle.claims.specs.Views.{Delivery, Pdu, delivery_in, forwarding_in, forwarding_of, owner_of, pdu_in, pdu_of, report_in}
use Rattle.claims.specs.Table.{Command, Kind, Row, Table, is_change, next_key, recovery, row, second_key}
use Rattle.claims.specs.Past.{Bearer, Past, Second, lossy}
use Rattle.claims.specs.Reading.{Setting, bearer_of, change_bearer, changed, holds, holds_any, lane, low, on_bearer, plan, setting, with_lane, with_second}
use Rattle.claims.specs.Reading as reading
use Rattle.claims.specs.Drafts.{Draft, bearer_draft, change_draft, command_of, draft_of, is_mm_row, rekey_master_draft, rekey_second_draft, release_draft, renewing, set_to, shape_draft, unless}
use Rattle.claims.specs.Shapes.{mm}
use Rattle.dc_base.specs.Nodes.{is_mm}
use Rattle.claims.specs.Carrying.{carry, carry_if, carry_plan, carry_with, drawn_by, dropped_at, gone_at_master, on_item, with_draft, with_item, with_new, with_plan_drawn, with_set}
use Rattle.claims.specs.Taking.{ack_taken, acked_count, confirmed_by, data_taken, delivered, delivered_to, drop_taken, given_if, is_live, kept_count, kept_report, on_delivery, on_forward, on_pdu, on_record, on_set_pdu, pair_taken, pdu_taken, report_taken, taken_from, told_taken, warn, with_delivery, with_taken, is_waiting, direction_in, confirming, told_at_least}
use Rattle.claims.specs.Judged.{accepted, aged, calmed, fails, fails_in, forward_lost, has_scg_in, judged, leg_fails, lost_command, lost_if, own_lost, refused, trouble, troubled, with_submission}
use Rattle.claims.specs.Judged as judging
use Rattle.claims.specs.Noted.{after, answers, as_send, begun, given_away, noted, noted_flight, noted_line, noted_note, noted_record, owned_by, put, set_to_generation, with_early, with_holder, with_up}
use Rattle.claims.specs.Noted as noting
use Rattle.run_windows.specs.Seen.{Face, Count, Seen, answered, count_of, done_by, done_in, drawn, dropped, face_of, freed_to, new_seen, on_latest, one_more, seen, seen_of, with_event, with_line, with_note}

-- a change of bearers of which nothing is seen
abbrev Unseen : (Bearer → Bearer) → Type 0
Unseen f = (b : Bearer) → seen_of (f b) ≡ seen_of b

all_unseen : (f : Bearer → Bearer) → Unseen f → (bs : List Bearer) → map seen_of (map f bs) ≡ map seen_of bs
all_unseen f same [] = refl
all_unseen f same (b ∷ bs) = ap (λ x. x ∷ map seen_of (map f bs)) (same b) ∙ ap (λ xs. seen_of b ∷ xs) (all_unseen f same bs)

if_unseen : (t : Bearer → Bool) (f : Bearer → Bearer) → Unseen f → Unseen (λ b. if t b then f b else b)
if_unseen t f same b = elim (cases_Bool (t b)) [ inl yes' ↦ rw yes' (same b) | inr no' ↦ rw no' refl ]

one_unseen : (g : ℕ) (f : Bearer → Bearer) → Unseen f → (bs : List Bearer) → map seen_of (on_bearer g f bs) ≡ map seen_of bs
one_unseen g f same bs = all_unseen (λ b. if b.g == g then f b else b) (if_unseen (λ b. b.g == g) f same) bs

changed_unseen : (f : Bearer → Bearer) → Unseen f → (o : Option Bearer) (bs : List Bearer) → map seen_of (changed f bs o) ≡ map seen_of bs
changed_unseen f same None bs = refl
changed_unseen f same (Some b) bs = one_unseen b.g f same bs

change_unseen : (p : Past) (id g : ℕ) (f : Bearer → Bearer) → Unseen f → map seen_of (change_bearer p id g f) ≡ map seen_of p.bearers
change_unseen p id g f same = changed_unseen f same (bearer_of p id g) p.bearers

-- of the latest of an identity this is seen
latest_seen : (id : ℕ) (f : Bearer → Bearer) (k : Face × Count → Face × Count) → ((b : Bearer) → seen_of (f b) ≡ k (seen_of b))
    → (bs : List Bearer) → map seen_of (reading.on_latest id f bs) ≡ on_latest id k (map seen_of bs)
latest_seen id f k same [] = refl
latest_seen id f k same (b ∷ bs) =
    elim (cases_Bool (b.id == id)) [
      | inl here ↦ rw here (ap (λ x. x ∷ map seen_of bs) (same b))
      | inr there ↦ rw there (ap (λ xs. seen_of b ∷ xs) (latest_seen id f k same bs))
    ]

latest_unseen : (id : ℕ) (f : Bearer → Bearer) → Unseen f → (bs : List Bearer) → map seen_of (reading.on_latest id f bs) ≡ map seen_of bs
latest_unseen id f same [] = refl
latest_unseen id f same (b ∷ bs) =
    elim (cases_Bool (b.id == id)) [
      | inl here ↦ rw here (ap (λ x. x ∷ map seen_of bs) (same b))
      | inr there ↦ rw there (ap (λ xs. seen_of b ∷ xs) (latest_unseen id f same bs))
    ]

-- other establishments, and nothing else
with_bearers : (s : Seen) (bs : List (Face × Count)) → bs ≡ s.bearers → record s { bearers = bs } ≡ s
with_bearers s bs same = ap (λ xs. record s { bearers = xs }) same

-- several steps of which nothing is seen
fold_unseen : {X : Type 0} (f : List Bearer → X → List Bearer) → ((bs : List Bearer) (x : X) → map seen_of (f bs x) ≡ map seen_of bs)
    → (xs : List X) (bs : List Bearer) → map seen_of (fold f bs xs) ≡ map seen_of bs
fold_unseen f same [] bs = refl
fold_unseen f same (x ∷ xs) bs = fold_unseen f same xs (f bs x) ∙ same bs x

-- ---- what draws, carries out and answers

second_seen : (x : Node) (s : Second) (p : Past) → seen (with_second x s p) ≡ seen p
second_seen T s p = refl
second_seen M s p = refl
second_seen A s p = refl
second_seen B s p = refl

-- a bearer of the table is none that is new
none_new : (g : ℕ) (t : Table) (root : ℕ) (k : KeyName) (shape : Row → Shape) (rows : List Row) (bs : List Bearer) → fold (with_new g) bs (map (set_to t root k shape) rows) ≡ bs
none_new g t root k shape [] bs = refl
none_new g t root k shape (r ∷ rows) bs = none_new g t root k shape rows bs

-- a draft that sets up no bearer
draft_seen : (p : Past) (e : Event) (asker : Option Node) (d : Draft) → ((bs : List Bearer) → fold (with_new (p.table.last + 1)) bs d.items ≡ bs)
    → seen (with_draft p e asker (Some d)) ≡ drawn (seen p)
draft_seen p e asker d none =
    with_bearers (drawn (seen p)) _ (ap (map seen_of) (none (map (with_plan_drawn d.items) p.bearers)) ∙ all_unseen (with_plan_drawn d.items) (λ b. refl) p.bearers)

rekey_second_seen : (asker : Option Node) (p : Past) → seen (drawn_by event.RekeySecond asker p) ≡ drawn (seen p)
rekey_second_seen asker p = draft_seen p event.RekeySecond asker (rekey_second_draft p.table) (none_new (p.table.last + 1) p.table p.table.root (next_key p.table) (λ r. r.shape) (filter (λ r. r.shape.at_second) p.table.rows))

change_seen : (asker : Option Node) (p : Past) → seen (drawn_by event.Change asker p) ≡ drawn (seen p)
change_seen asker p = draft_seen p event.Change asker (change_draft p.table) (none_new (p.table.last + 1) p.table p.table.root (next_key p.table) (λ r. r.shape) (filter (λ r. not (is_mm r.shape)) p.table.rows))

release_seen : (asker : Option Node) (p : Past) → seen (drawn_by event.Release asker p) ≡ drawn (seen p)
release_seen asker p = draft_seen p event.Release asker (release_draft p.table) (none_new (p.table.last + 1) p.table p.table.root p.table.second_key (λ r. mm) (filter (λ r. not (is_mm r.shape)) p.table.rows))

request_seen : (w : Want) (asker : Option Node) (p : Past) → seen (drawn_by (command_of w) asker p) ≡ drawn (seen p)
request_seen want.Rekey asker p = rekey_second_seen asker p
request_seen want.Change asker p = change_seen asker p
request_seen want.Release asker p = release_seen asker p

begun_seen : (o : Option Node) (w : Want) (p : Past) → seen (begun o w p) ≡ drawn (seen p)
begun_seen None w p = request_seen w None p
begun_seen (Some x) w p = request_seen w (Some x) (answers x p) ∙ ap drawn (second_seen x _ p)

-- the bearers and the table with an item carried out
on_item_unseen : (p : Past) (g : ℕ) (bs : List Bearer) (i : Item) → map seen_of (on_item p g bs i) ≡ map seen_of bs
on_item_unseen p g bs (Set id n first shape threshold policy key old) = changed_unseen (with_set g) (λ b. refl) (bearer_of p id g) bs
on_item_unseen p g bs (Unset id) =
    all_unseen (λ b. if (b.id == id) && nat_lt b.g g then gone_at_master b else b) (if_unseen (λ b. (b.id == id) && nat_lt b.g g) gone_at_master gone_unseen) bs
  where
    gone_unseen : Unseen gone_at_master
    gone_unseen b = elim (cases_Bool (holds_any M b.holder)) [ inl yes' ↦ rw yes' refl | inr no' ↦ rw no' refl ]

last_stays : (g : ℕ) (items : List Item) (t : Table) → (fold (with_item g) t items).last ≡ t.last
last_stays g [] t = refl
last_stays g (Set id n first shape threshold policy key old ∷ items) t = last_stays g items (with_item g t (Set id n first shape threshold policy key old))
last_stays g (Unset id ∷ items) t = last_stays g items (with_item g t (Unset id))

plan_seen : (g : ℕ) (p : Past) (c : Command) (o : Option Plan) → p.table.command ≡ Some c → seen (carry_plan p g c o) ≡ seen p
plan_seen g p c None open' = refl
plan_seen g p c (Some q) open' =
    ap (λ bs. record { bearers = bs; last = (fold (with_item g) p.table q.items).last; kind = Some c.kind }) (fold_unseen (on_item p g) (on_item_unseen p g) q.items p.bearers)
    ∙ ap (λ k. record (seen p) { last = k; kind = Some c.kind }) (last_stays g q.items p.table)
    ∙ ap (λ k. record (seen p) { kind = k }) (sym (ap (option_map (λ (c : Command). c.kind)) open'))

carry_if_seen : (g : ℕ) (p : Past) (c : Command) (is : Bool) → p.table.command ≡ Some c → seen (carry_if p g c is) ≡ seen p
carry_if_seen g p c false open' = refl
carry_if_seen g p c true open' = plan_seen g p c (plan p g) open'

carry_with_seen : (g : ℕ) (p : Past) (o : Option Command) → p.table.command ≡ o → seen (carry_with p g o) ≡ seen p
carry_with_seen g p None is = refl
carry_with_seen g p (Some c) is = carry_if_seen g p c _ is

carry_seen : (g : ℕ) (p : Past) → seen (carry g p) ≡ seen p
carry_seen g p = carry_with_seen g p p.table.command refl

-- ---- what confirms and changes a bearer

confirmed_unseen : (d : Dir) (cs : List Confirmation) → Unseen (confirmed_by d cs)
confirmed_unseen Ul cs b = refl
confirmed_unseen Dl cs b =
    let after = record b { down = confirming cs b.down } in by (low Dl after) (holds_any M b.holder && nat_lt (low Dl b) (low Dl after))
  where
    by : (c : ℕ) (rises : Bool) → seen_of (record b { down = told_at_least c rises (confirming cs b.down) }) ≡ seen_of b
    by c true = refl
    by c false = refl

dropped_unseen : (x : Node) → Unseen (dropped_at x)
dropped_unseen x b = elim (cases_Bool (holds_any x b.holder)) [ inl yes' ↦ rw yes' refl | inr no' ↦ rw no' refl ]

owned_unseen : (x : Node) (g : ℕ) → Unseen (owned_by x g)
owned_unseen x g b = confirmed_unseen Dl _ (with_early x g (with_holder x g b))

kept_count_unseen : (is : Bool) (x : Node) (g : ℕ) (c : Option ℕ) → Unseen (kept_count is x g c)
kept_count_unseen false x g c b = refl
kept_count_unseen true x g None b = refl
kept_count_unseen true x g (Some c) b = refl

with_taken_down : (c : Option ℕ) (b : Bearer) → seen_of (record b { down = with_taken c b.down }) ≡ seen_of b
with_taken_down None b = refl
with_taken_down (Some c) b = refl

data_unseen : (l : LinkId) (g : ℕ) (s : Setting) (d : Dir) (c : Option ℕ) → Unseen (data_taken l g s d c)
data_unseen l g s Dl c b = elim (cases_Bool (is_live l g b)) [ inl yes' ↦ rw yes' (with_taken_down c b) | inr no' ↦ rw no' refl ]
data_unseen l g s Ul c b =
    elim (cases_Bool (holds l.to g b.holder)) [ inl yes' ↦ rw yes' refl | inr no' ↦ rw no' (kept_count_unseen (is_waiting l.to g s b) l.to g c b) ]

kept_report_unseen : (is : Bool) (x : Node) (g : ℕ) (c : Confirmation) → Unseen (kept_report is x g c)
kept_report_unseen false x g c b = refl
kept_report_unseen true x g c b = refl

report_unseen : (l : LinkId) (g : ℕ) (s : Setting) (d : Dir) (o : Option Confirmation) → Unseen (report_taken l g s d o)
report_unseen l g s Dl None b = refl
report_unseen l g s Ul None b = refl
report_unseen l g s Dl (Some c) b = elim (cases_Bool (is_live l g b)) [ inl yes' ↦ rw yes' (confirmed_unseen Ul (c ∷ []) b) | inr no' ↦ rw no' refl ]
report_unseen l g s Ul (Some c) b =
    elim (cases_Bool (holds l.to g b.holder)) [
      | inl yes' ↦ rw yes' (confirmed_unseen Dl (c ∷ []) b)
      | inr no' ↦ rw no' (kept_report_unseen (is_waiting l.to g s b) l.to g c b)
    ]

pdu_taken_unseen : (l : LinkId) (u : Pdu) (s : Setting) → Unseen (pdu_taken l u s)
pdu_taken_unseen l u s b = by (direction_in l s) (report_in (decoded b.n u.octets)) (is_data u.octets)
  where
    by : (d : Dir) (o : Option Confirmation) (is : Bool) → seen_of (if is then data_taken l u.g s d u.tag b else report_taken l u.g s d o b) ≡ seen_of b
    by d o true = data_unseen l u.g s d u.tag b
    by d o false = report_unseen l u.g s d o b

ack_unseen : (l : LinkId) (g : ℕ) (o : Option ℕ) → Unseen (ack_taken l g o)
ack_unseen l g None b = refl
ack_unseen l g (Some c) b = elim (cases_Bool (holds l.to g b.holder)) [ inl yes' ↦ rw yes' (confirmed_unseen Dl (acked c ∷ []) b) | inr no' ↦ rw no' refl ]

told_unseen : (c : ℕ) → Unseen (told_taken c)
told_unseen c b = elim (cases_Bool b.is_gone) [ inl yes' ↦ rw yes' refl | inr no' ↦ rw no' refl ]

-- ---- a line

note_seen : (n : Note) (p : Past) → seen (noted_note n p) ≡ with_note (seen p) n
note_seen (note.Begin w) p = begun_seen p.table.sec w p
note_seen (note.Join x g) p = second_seen x _ p
note_seen (note.Leave x g) p = second_seen x _ p
note_seen (note.Give x id g) p = with_bearers (seen p) _ (latest_unseen id (given_away x g) (dropped_unseen x) p.bearers)
note_seen (note.Own x id g) p = with_bearers (seen p) _ (change_unseen p id g (owned_by x g) (owned_unseen x g))
note_seen (note.Set id g) p = with_bearers (seen p) _ (change_unseen p id g (set_to_generation g) (λ b. refl))
note_seen (note.Unset id) p = with_bearers (seen p) _ (latest_unseen id (λ b. record b { terminal = None }) (λ b. refl) p.bearers)
note_seen (note.Up x id Ul count sdu) p = with_bearers (seen p) _ (latest_unseen id (λ b. with_lane Ul (with_up count sdu (lane Ul b)) b) (λ b. refl) p.bearers)
note_seen (note.Up x id Dl count sdu) p = with_bearers (seen p) _ (latest_unseen id (λ b. with_lane Dl (with_up count sdu (lane Dl b)) b) (λ b. refl) p.bearers)
note_seen (note.Freed id Dl count) p =
    ap (λ bs. record (seen p) { bearers = bs }) (latest_seen id (λ b. with_lane Dl (record (lane Dl b) { freed = count }) b) (freed_to count) (λ b. refl) p.bearers)
note_seen (note.Freed id Ul count) p = with_bearers (seen p) _ (latest_unseen id (λ b. with_lane Ul (record (lane Ul b) { freed = count }) b) (λ b. refl) p.bearers)
note_seen (note.Confirmed x) p = second_seen x _ p
note_seen (note.Refused x w) p = second_seen x _ p
note_seen note.Done p = ap (λ bs. record (seen p) { bearers = bs; kind = None }) (done_seen p.table.command p.bearers)
  where
    each_done : (k : Kind) (bs : List Bearer) → map seen_of (map (λ (b : Bearer). if is_change b.g k then record b { is_done = true } else b) bs) ≡ map (done_in k) (map seen_of bs)
    each_done k [] = refl
    each_done k (b ∷ bs) =
        elim (cases_Bool (is_change b.g k)) [
          | inl yes' ↦ rw yes' (ap (λ xs. (record (face_of b) { is_done = true }, count_of b) ∷ xs) (each_done k bs))
          | inr no' ↦ rw no' (ap (λ xs. seen_of b ∷ xs) (each_done k bs))
        ]

    done_seen : (o : Option Command) (bs : List Bearer) → map seen_of (noting.done_by o bs) ≡ done_by (option_map (λ (c : Command). c.kind) o) (map seen_of bs)
    done_seen None bs = refl
    done_seen (Some c) bs = each_done c.kind bs
note_seen note.Rejected p = refl

record_seen : (x : Node) (r : Rec) (p : Past) → seen (noted_record x r p) ≡ seen p
record_seen x (rec.Reconf q key) p = carry_seen q.g p
record_seen x (rec.Rcomp g) p = refl
record_seen x (rec.Scgf pairs) p = refl
record_seen x (rec.Recov id) p = refl
record_seen x (rec.Recovd id) p = refl
record_seen x (rec.Addreq q key) p = refl
record_seen x (rec.Addack g) p = refl
record_seen x (rec.Addrej g) p = refl
record_seen x (rec.Modreq q key) p = refl
record_seen x (rec.Modack g) p = refl
record_seen x (rec.Modrej g) p = refl
record_seen x (rec.Recfg g) p = refl
record_seen x (rec.Relreq q) p = refl
record_seen x (rec.Relack g) p = refl
record_seen x (rec.Relrej g) p = refl
record_seen x (rec.Uecr g) p = refl
record_seen x (rec.Snst s) p = refl
record_seen x (rec.Moved g id) p = refl
record_seen x (rec.Scgn id g) p = refl
record_seen x rec.Modrqd p = refl
record_seen x (rec.Modcnf g) p = refl
record_seen x (rec.Modref w) p = second_seen x _ p
record_seen x rec.Chgrqd p = refl
record_seen x (rec.Chgcnf q) p = refl
record_seen x (rec.Chgref w) p = second_seen x _ p
record_seen x rec.Relrqd p = refl
record_seen x (rec.Relcnf q) p = second_seen x _ p

flight_seen : (l : LinkId) (f : Flight) (p : Past) → seen (noted_flight l f p) ≡ seen p
flight_seen l (flight.Air id g num tag pdu) p = refl
flight_seen l (flight.Ack id g num) p = refl
flight_seen l (flight.Tun tag packet) p = refl
flight_seen l (flight.Sdu id g sdu) p = refl
flight_seen l (flight.End id g) p = refl
flight_seen l (flight.Told id g count) p = with_bearers (seen p) _ (change_unseen p id g (λ b. record b { tells = count }) (λ b. refl))
flight_seen l (flight.Ctl r) p = record_seen l.to r p

as_send_seen : (o : Option (LinkId × Flight)) (l : LinkId) (f : Flight) (p : Past) → seen (as_send o l f p) ≡ seen p
as_send_seen None l f p = refl
as_send_seen (Some s) l f p = refl

put_seen : (l : LinkId) (f : Flight) (p : Past) → seen (put l f p) ≡ seen p
put_seen l f p = as_send_seen p.copied l f p

line_seen : (x : Line) (p : Past) → seen (noted_line x p) ≡ with_line (seen p) x
line_seen (line.Note n) p = note_seen n p
line_seen (line.Send l f) p = flight_seen l f (put l f p) ∙ put_seen l f p
line_seen (line.Event e) p = refl
line_seen (line.Answer a) p = refl

-- of a line
pub noted_seen : (p : Past) (x : Line) → seen (noted p x) ≡ with_line (seen p) x
noted_seen p x = line_seen x p

pub all_noted_seen : (xs : List Line) (p : Past) → seen (fold noted p xs) ≡ fold with_line (seen p) xs
all_noted_seen [] p = refl
all_noted_seen (x ∷ xs) p = all_noted_seen xs (noted p x) ∙ ap (λ s. fold with_line s xs) (noted_seen p x)

-- ---- an event

own_seen : (o : Option (ℕ × ℕ)) (p : Past) → seen (own_lost o p) ≡ seen p
own_seen None p = refl
own_seen (Some x) p = with_bearers (seen p) _ (change_unseen p x.0 x.1 (λ b. record b { calm = lossy }) (λ b. refl))

lost_kind : (g : ℕ) (o : Option Command) → option_map (λ (c : Command). c.kind) (lost_command g o) ≡ option_map (λ (c : Command). c.kind) o
lost_kind g None = refl
lost_kind g (Some c) = refl

forward_seen : (o : Option (ℕ × ℕ)) (p : Past) → seen (forward_lost o p) ≡ seen p
forward_seen None p = refl
forward_seen (Some x) p =
    ap (λ bs. record (seen p) { bearers = bs; kind = option_map (λ (c : Command). c.kind) (lost_command x.1 p.table.command) })
    (change_unseen p x.0 x.1 (λ b. record b { lost_forward = true }) (λ b. refl))
    ∙ ap (λ k. record (seen p) { kind = k }) (lost_kind x.1 p.table.command)

trouble_unseen : (bs : List Bearer) → map seen_of (trouble bs) ≡ map seen_of bs
trouble_unseen bs = all_unseen (λ b. record b { calm = troubled b.calm }) (λ b. refl) bs

lost_seen : (o : Option (LinkId × Flight)) (p : Past) → seen (lost_if o p) ≡ seen p
lost_seen None p = refl
lost_seen (Some s) p =
    let q = record p { bearers = trouble p.bearers } in
    forward_seen (forwarding_of s.1) (own_lost (owner_of s.1) q) ∙ own_seen (owner_of s.1) q ∙ with_bearers (seen p) _ (trouble_unseen p.bearers)

set_pdu_seen : (l : LinkId) (u : Pdu) (p : Past) (o : Option Setting) → seen (on_set_pdu l u p o) ≡ seen p
set_pdu_seen l u p None = refl
set_pdu_seen l u p (Some s) = with_bearers (seen p) _ (change_unseen p u.id u.g (pdu_taken l u s) (pdu_taken_unseen l u s))

pdu_seen : (l : LinkId) (o : Option Pdu) (p : Past) → seen (on_pdu l o p) ≡ seen p
pdu_seen l None p = refl
pdu_seen l (Some u) p = set_pdu_seen l u p (setting p u.id u.g)

delivered_seen : (is : Bool) (l : LinkId) (v : Delivery) (b : Bearer) (p : Past) → seen (delivered is l v b p) ≡ seen p
delivered_seen false l v b p = refl
delivered_seen true l v b p = with_bearers (seen p) _ (one_unseen b.g (with_delivery v _ _) (λ x. confirmed_unseen Dl _ x) p.bearers)

delivered_to_seen : (l : LinkId) (v : Delivery) (p : Past) (o : Option Bearer) → seen (delivered_to l v p o) ≡ seen p
delivered_to_seen l v p None = refl
delivered_to_seen l v p (Some b) = delivered_seen (holds l.to v.g b.holder) l v b p

delivery_seen : (l : LinkId) (o : Option Delivery) (p : Past) → seen (on_delivery l o p) ≡ seen p
delivery_seen l None p = refl
delivery_seen l (Some v) p = delivered_to_seen l v p (bearer_of p v.id v.g)

on_forward_seen : (l : LinkId) (f : Flight) (is : Bool) (p : Past) → seen (on_forward l f is p) ≡ seen p
on_forward_seen l f false p = refl
on_forward_seen l f true p = refl

pair_unseen : (p : Past) (bs : List Bearer) (x : ℕ × ℕ) → map seen_of (pair_taken p bs x) ≡ map seen_of bs
pair_unseen p bs (id, g) = changed_unseen (warn M g) (λ b. refl) _ bs

drop_unseen : (x : Node) (g : ℕ) (bs : List Bearer) (i : Item) → map seen_of (drop_taken x g bs i) ≡ map seen_of bs
drop_unseen x g bs (Set id n first shape threshold policy key old) = refl
drop_unseen x g bs (Unset id) =
    all_unseen (λ b. if (b.id == id) && nat_lt b.g g then dropped_at x b else b) (if_unseen (λ b. (b.id == id) && nat_lt b.g g) (dropped_at x) (dropped_unseen x)) bs

on_record_seen : (l : LinkId) (r : Rec) (p : Past) → seen (on_record l r p) ≡ seen p
on_record_seen l (rec.Reconf q key) p = refl
on_record_seen l (rec.Rcomp g) p = refl
on_record_seen l (rec.Scgf pairs) p = with_bearers (seen p) _ (fold_unseen (pair_taken p) (pair_unseen p) pairs p.bearers)
on_record_seen l (rec.Recov id) p = refl
on_record_seen l (rec.Recovd id) p = refl
on_record_seen l (rec.Addreq q key) p = refl
on_record_seen l (rec.Addack g) p = refl
on_record_seen l (rec.Addrej g) p = refl
on_record_seen l (rec.Modreq q key) p = with_bearers (seen p) _ (fold_unseen (drop_taken l.to q.g) (drop_unseen l.to q.g) q.items p.bearers)
on_record_seen l (rec.Modack g) p = refl
on_record_seen l (rec.Modrej g) p = refl
on_record_seen l (rec.Recfg g) p = refl
on_record_seen l (rec.Relreq q) p = refl
on_record_seen l (rec.Relack g) p = refl
on_record_seen l (rec.Relrej g) p = refl
on_record_seen l (rec.Uecr g) p = refl
on_record_seen l (rec.Snst s) p = refl
on_record_seen l (rec.Moved g id) p = refl
on_record_seen l (rec.Scgn id g) p = with_bearers (seen p) _ (change_unseen p id g (warn l.to g) (λ b. refl))
on_record_seen l rec.Modrqd p = second_seen l.from _ p
on_record_seen l (rec.Modcnf g) p = refl
on_record_seen l (rec.Modref w) p = refl
on_record_seen l rec.Chgrqd p = second_seen l.from _ p
on_record_seen l (rec.Chgcnf q) p = refl
on_record_seen l (rec.Chgref w) p = refl
on_record_seen l rec.Relrqd p = second_seen l.from _ p
on_record_seen l (rec.Relcnf q) p = refl

taken_seen : (l : LinkId) (f : Flight) (p : Past) → seen (taken_from l f p) ≡ seen p
taken_seen l (flight.Air id g num tag pdu) p = pdu_seen l (pdu_of (flight.Air id g num tag pdu)) p
taken_seen l (flight.Ack id g num) p = with_bearers (seen p) _ (change_unseen p id g (ack_taken l g (acked_count l id g num p)) (ack_unseen l g (acked_count l id g num p)))
taken_seen l (flight.Tun tag packet) p =
    let view = packet_of packet in
    let q = on_pdu l (pdu_in tag view) p in
    on_forward_seen l (flight.Tun tag packet) (is_some (forwarding_in view)) (on_delivery l (delivery_in tag view) q)
    ∙ delivery_seen l (delivery_in tag view) q ∙ pdu_seen l (pdu_in tag view) p
taken_seen l (flight.Sdu id g sdu) p = refl
taken_seen l (flight.End id g) p = refl
taken_seen l (flight.Told id g count) p = with_bearers (seen p) _ (change_unseen p id g (told_taken count) (told_unseen count))
taken_seen l (flight.Ctl r) p = on_record_seen l r p

given_seen : (o : Option (LinkId × Flight)) (p : Past) → seen (given_if o p) ≡ seen p
given_seen None p = refl
given_seen (Some s) p = taken_seen s.0 s.1 (record p { given = Some s })

leg_unseen : (is : Bool) → Unseen (leg_fails is)
leg_unseen false b = refl
leg_unseen true b = refl

fails_in_unseen : (p : Past) (b : Bearer) (o : Option ℕ) → seen_of (fails_in p b o) ≡ seen_of b
fails_in_unseen p b None = refl
fails_in_unseen p b (Some g) = leg_unseen (has_scg_in (setting p b.id g)) b

-- what the last payload adds
one_longer : (sdu : List ℕ) (b : Bearer) → seen_of (with_lane Dl (with_submission sdu (lane Dl b)) b) ≡ one_more (seen_of b)
one_longer sdu b = ap (λ k. (face_of b, record (count_of b) { submitted = k })) (length-append b.down.submitted (sdu ∷ []))

accepted_seen : (e : Event) (p : Past) → seen (accepted e p) ≡ with_event e (seen p)
accepted_seen (event.Bearer id n first shape threshold policy) p =
    ap (λ bs. record (drawn (seen p)) { bearers = new_seen (p.table.last + 1) id n first ∷ bs }) (all_unseen (with_plan_drawn (bearer_draft p.table id n first shape threshold policy).items) (λ b. refl) p.bearers)
accepted_seen (event.Reshape id shape) p = draft_seen p (event.Reshape id shape) None (shape_draft p.table id shape) (none_new (p.table.last + 1) p.table p.table.root p.table.second_key (λ r. shape) (filter (λ r. r.id == id) p.table.rows))
accepted_seen (event.Remove id) p =
    let q = record p { bearers = reading.on_latest id (λ b. record b { is_dropped = true }) p.bearers } in
    draft_seen q (event.Remove id) None (draft_of p.table (Unset id ∷ []) (unless (is_mm_row (row p.table id)) p.table.sec)) (λ bs. refl)
    ∙ ap (λ bs. record (drawn (seen p)) { bearers = bs }) (latest_seen id (λ b. record b { is_dropped = true }) dropped (λ b. refl) p.bearers)
accepted_seen (event.Add x) p = draft_seen p (event.Add x) None (renewing p.table (Some x) []) (λ bs. refl)
accepted_seen event.Change p = change_seen None p
accepted_seen event.Release p = release_seen None p
accepted_seen event.RekeySecond p = rekey_second_seen None p
accepted_seen (event.RekeyMaster root) p = draft_seen p (event.RekeyMaster root) None (rekey_master_draft p.table root) (none_new (p.table.last + 1) p.table (length p.table.roots) (second_key (length p.table.roots) 0) (λ r. r.shape) p.table.rows)
accepted_seen (event.Recover id) p =
    ap (λ bs. record (seen p) { bearers = bs; kind = Some (recovery id) }) (latest_unseen id (λ b. record b { calm = calmed b.calm }) (λ b. refl) p.bearers)
accepted_seen (event.Report x id) p = refl
accepted_seen (event.Deny x on) p = second_seen x _ p
accepted_seen (event.Ask x w) p = second_seen x _ p
accepted_seen event.ScgFail p = with_bearers (seen p) _ (trouble_unseen (map (fails p) p.bearers) ∙ all_unseen (fails p) (λ b. fails_in_unseen p b b.terminal) p.bearers)
accepted_seen (event.Submit id Ul sdu) p = with_bearers (seen p) _ (latest_unseen id (λ b. with_lane Ul (with_submission sdu (lane Ul b)) b) (λ b. refl) p.bearers)
accepted_seen (event.Submit id Dl sdu) p =
    ap (λ bs. record (seen p) { bearers = bs }) (latest_seen id (λ b. with_lane Dl (with_submission sdu (lane Dl b)) b) one_more (one_longer sdu) p.bearers)
accepted_seen (event.Step l i) p = given_seen (find_at l i p.standing) (record p { standing = without l i p.standing })
accepted_seen (event.Lose l i) p = lost_seen (find_at l i p.standing) (record p { standing = without l i p.standing })
accepted_seen (event.Again l i) p = refl

aged_seen : (e : Event) (p : Past) → seen (aged e p) ≡ seen p
aged_seen (event.Step l i) p = refl
aged_seen (event.Bearer id n first shape threshold policy) p = refl
aged_seen (event.Reshape id shape) p = refl
aged_seen (event.Remove id) p = refl
aged_seen (event.Add x) p = refl
aged_seen event.Change p = refl
aged_seen event.Release p = refl
aged_seen event.RekeySecond p = refl
aged_seen (event.RekeyMaster root) p = refl
aged_seen (event.Recover id) p = refl
aged_seen (event.Report x id) p = refl
aged_seen (event.Deny x on) p = refl
aged_seen (event.Ask x w) p = refl
aged_seen event.ScgFail p = refl
aged_seen (event.Submit id d sdu) p = refl
aged_seen (event.Lose l i) p = refl
aged_seen (event.Again l i) p = refl

refused_seen : (why : Refusal) (e : Event) (p : Past) → seen (refused why e p) ≡ seen p
refused_seen refusal.NoBearer e p = refl
refused_seen refusal.BearerThere e p = refl
refused_seen refusal.Busy e p = refl
refused_seen refusal.NoSecondary e p = refl
refused_seen refusal.SecondaryThere e p = refl
refused_seen refusal.SameShape e p = refl
refused_seen refusal.IdSpent e p = refl
refused_seen refusal.CounterSpent e p = refl
refused_seen refusal.RootUsed e p = refl
refused_seen refusal.NoFlight e p = refl
refused_seen refusal.NotFirst e p = refl
refused_seen refusal.NotTunnel e p = refl
refused_seen refusal.Aged e p = aged_seen e p
refused_seen refusal.Full e p = refl
refused_seen refusal.Exhausted e p = refl
refused_seen refusal.NoPolicy e p = refl

answered_seen : (e : Event) (a : Answer) (p : Past) → seen (judging.answered e a p) ≡ answered e a (seen p)
answered_seen e answer.Ok p = accepted_seen e p
answered_seen e (answer.No why) p = refused_seen why e p

-- of an event, before its lines
pub judged_seen : (e : Event) (a : Answer) (p : Past) → seen (judged e a p) ≡ answered e a (seen p)
judged_seen e a p = answered_seen e a (record p { earlier = p.pdus; event = e; answer = a; given = None; copied = None; fresh = []; said = [] })

-- of an entry
pub after_seen : (p : Past) (x : Entry) → seen (after p x) ≡ fold with_line (answered x.event x.answer (seen p)) x.lines
after_seen p x = all_noted_seen x.lines (judged x.event x.answer p) ∙ ap (λ s. fold with_line s x.lines) (judged_seen x.event x.answer p)
