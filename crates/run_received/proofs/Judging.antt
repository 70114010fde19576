-- What an event changes of the uplink of the latest establishment of an identity, before its lines.
use Rattle.std.proofs.Common.{ℕ, ◌≡◌, ◌==◌, Bool, true, false, List, [], ◌∷◌, Option, Some, None, refl, sym, ap, ◌∙◌, inl, inr}
use Rattle.std.specs.Prelude.{filter, fold, if◌then◌else◌, is_some, map, nat_lt, not, ◌&&◌, ◌||◌, ◌++◌}
use Rattle.std.specs.Option.{option_map}
use Rattle.std.proofs.lemmas.Bool.{cases_Bool}
use Rattle.dc_base.specs.Links.{reverse}
use Rattle.dc_base.specs.declared.answers.Answer.{Answer}
use Rattle.dc_base.specs.declared.answers.Answer.TheVariants as answer
use Rattle.dc_base.specs.declared.answers.Refusal.{Refusal}
use Rattle.dc_base.specs.declared.answers.Refusal.TheVariants as refusal
use Rattle.dc_base.specs.declared.events.Event.{Event}
use Rattle.dc_base.specs.declared.events.Event.TheVariants as event
use Rattle.dc_base.specs.declared.flights.Flight.{Flight}
use Rattle.dc_base.specs.declared.flights.Flight.TheVariants as flight
use Rattle.dc_base.specs.declared.nodes.Dir.{Dir}
use Rattle.dc_base.specs.declared.nodes.Dir.TheVariants.{Dl, Ul}
use Rattle.dc_base.specs.declared.nodes.LinkId.{LinkId}
use Rattle.dc_base.specs.declared.nodes.Node.{Node}
use Rattle.dc_base.specs.declared.nodes.Node.TheVariants.{M}
use Rattle.dc_base.specs.declared.records.Item.{Item}
use Rattle.dc_base.specs.declared.records.Item.TheVariants.{Set, Unset}
use Rattle.dc_base.specs.declared.records.Rec.{Rec}
use Rattle.dc_base.specs.declared.records.Rec.TheVariants as rec
use Rattle.claims.specs.Carrying.{dropped_at}
use Rattle.claims.specs.Confirming.{Confirmation}
use Rattle.claims.specs.Judged.{accepted, aged, answered, calmed, fails, fails_in, forward_lost, has_scg_in}
use Rattle.claims.specs.Judged.{judged, leg_fails, lost_if, own_lost, refused, trouble, troubled, with_submission}
use Rattle.claims.specs.Links.{find_at, without}
use Rattle.claims.specs.Packets.{packet_of}
use Rattle.claims.specs.Past.{Bearer, Past, lossy}
use Rattle.claims.specs.Reading.{Setting, bearer_of, holds, lane, setting, with_lane}
use Rattle.claims.specs.Taking.{ack_taken, acked_count, data_taken, delivered, delivered_to, direction_in, drop_taken}
use Rattle.claims.specs.Taking.{given_if, is_asked, is_live, is_waiting, kept_count, kept_report, listed_numbers}
use Rattle.claims.specs.Taking.{on_delivery, on_forward, on_pdu, on_record, on_set_pdu, pair_taken, pdu_taken}
use Rattle.claims.specs.Taking.{report_taken, taken_from, told_taken, tunnelled, warn, with_delivery, with_taken}
use Rattle.claims.specs.Views.{Delivery, Pdu, delivery_in, forwarding_in, forwarding_of, owner_of, pdu_in, pdu_of, report_in}
use Rattle.pdcp_pdu.specs.DataPdu.{is_data}
use Rattle.pdcp_pdu.specs.Pdu.{decoded}
use Rattle.run_received.specs.Changes.{answered_on, count_on, data_on, draws_none, dropped_on, early_on, event_on, fails_on}
use Rattle.run_received.specs.Changes.{given_on, item_on, maybe_pdu_on, pdu_on, report_on, set_pdu_on, taken_on, taken_record_on}
use Rattle.run_received.specs.Receipts.{Receipt, receipt, receipt_of}
use Rattle.run_received.proofs.Latest.{Distinct, KeepsId, latest_in, latest_map}
use Rattle.run_received.proofs.Noting.{IsSeenAs, IsUnseen, all_unseen, change_seen, changed_unseen, dropped_keeps, dropped_seen, if_seen}
use Rattle.run_received.proofs.Noting.{keeps_if, latest_seen, map_again, one_unseen, same_either, same_receipt, second_receipt, seen_of}

-- nothing of the uplink changes
still : (o : Option Receipt) (x : Option Receipt) → x ≡ o → x ≡ option_map (λ r. r) o
still o x is = is ∙ sym (same_receipt o)

-- ---- a PDU comes

count_seen : (c : Option ℕ) (b : Bearer) → receipt_of (record b { up = with_taken c b.up }) ≡ count_on c (receipt_of b)
count_seen None b = refl
count_seen (Some c) b = refl

down_unseen : (c : Option ℕ) (b : Bearer) → receipt_of (record b { down = with_taken c b.down }) ≡ receipt_of b
down_unseen c b = refl

early_seen : (is : Bool) (x : Node) (g : ℕ) (c : Option ℕ) (b : Bearer) → receipt_of (kept_count is x g c b) ≡ early_on is x g c (receipt_of b)
early_seen false x g c b = refl
early_seen true x g None b = refl
early_seen true x g (Some c) b = refl

data_seen : (l : LinkId) (g : ℕ) (s : Setting) (d : Dir) (c : Option ℕ) (b : Bearer) → receipt_of (data_taken l g s d c b) ≡ data_on l g s d c (receipt_of b)
data_seen l g s Dl c b = elim (cases_Bool (is_live l g b)) [ inl yes' ↦ rw yes' (down_unseen c b) | inr no' ↦ rw no' refl ]
data_seen l g s Ul c b =
    elim (cases_Bool (holds l.to g b.holder)) [
      | inl yes' ↦ rw yes' (count_seen c b)
      | inr no' ↦ rw no' (early_seen (is_waiting l.to g s b) l.to g c b)
    ]

kept_report_unseen : (is : Bool) (x : Node) (g : ℕ) (c : Confirmation) (b : Bearer) → receipt_of (kept_report is x g c b) ≡ receipt_of b
kept_report_unseen false x g c b = refl
kept_report_unseen true x g c b = refl

report_seen : (l : LinkId) (g : ℕ) (s : Setting) (d : Dir) (o : Option Confirmation) (b : Bearer)
    → receipt_of (report_taken l g s d o b) ≡ report_on l g d o (receipt_of b)
report_seen l g s Dl None b = refl
report_seen l g s Ul None b = refl
report_seen l g s Dl (Some c) b = elim (cases_Bool (is_live l g b)) [ inl yes' ↦ rw yes' refl | inr no' ↦ rw no' refl ]
report_seen l g s Ul (Some c) b =
    elim (cases_Bool (holds l.to g b.holder)) [ inl yes' ↦ rw yes' refl | inr no' ↦ rw no' (kept_report_unseen (is_waiting l.to g s b) l.to g c b) ]

pdu_seen : (l : LinkId) (u : Pdu) (s : Setting) → IsSeenAs (pdu_taken l u s) (pdu_on l u s)
pdu_seen l u s b = by (is_data u.octets)
  where
    by : (is : Bool)
        → receipt_of (if is then data_taken l u.g s (direction_in l s) u.tag b else report_taken l u.g s (direction_in l s) (report_in
        (decoded b.n u.octets)) b)
        ≡ (if is then data_on l u.g s (direction_in l s) u.tag (receipt_of b)
        else report_on l u.g (direction_in l s) (report_in (decoded b.n u.octets)) (receipt_of b))
    by true = data_seen l u.g s (direction_in l s) u.tag b
    by false = report_seen l u.g s (direction_in l s) (report_in (decoded b.n u.octets)) b

count_keeps : (c : Option ℕ) (x : Node) (g : ℕ) (is : Bool) → KeepsId (kept_count is x g c)
count_keeps c x g false b = refl
count_keeps None x g true b = refl
count_keeps (Some c) x g true b = refl

data_keeps : (l : LinkId) (g : ℕ) (s : Setting) (d : Dir) (c : Option ℕ) → KeepsId (data_taken l g s d c)
data_keeps l g s Dl c b = elim (cases_Bool (is_live l g b)) [ inl yes' ↦ rw yes' refl | inr no' ↦ rw no' refl ]
data_keeps l g s Ul c b =
    elim (cases_Bool (holds l.to g b.holder)) [ inl yes' ↦ rw yes' refl | inr no' ↦ rw no' (count_keeps c l.to g (is_waiting l.to g s b) b) ]

kept_report_keeps : (is : Bool) (x : Node) (g : ℕ) (c : Confirmation) → KeepsId (kept_report is x g c)
kept_report_keeps false x g c b = refl
kept_report_keeps true x g c b = refl

report_keeps : (l : LinkId) (g : ℕ) (s : Setting) (d : Dir) (o : Option Confirmation) → KeepsId (report_taken l g s d o)
report_keeps l g s Dl None b = refl
report_keeps l g s Ul None b = refl
report_keeps l g s Dl (Some c) b = elim (cases_Bool (is_live l g b)) [ inl yes' ↦ rw yes' refl | inr no' ↦ rw no' refl ]
report_keeps l g s Ul (Some c) b =
    elim (cases_Bool (holds l.to g b.holder)) [ inl yes' ↦ rw yes' refl | inr no' ↦ rw no' (kept_report_keeps (is_waiting l.to g s b) l.to g c b) ]

pdu_keeps : (l : LinkId) (u : Pdu) (s : Setting) → KeepsId (pdu_taken l u s)
pdu_keeps l u s b = by (is_data u.octets)
  where
    by : (is : Bool)
        → (if is then data_taken l u.g s (direction_in l s) u.tag b else report_taken l u.g s (direction_in l s) (report_in (decoded b.n u.octets)) b).id ≡ b.id
    by true = data_keeps l u.g s (direction_in l s) u.tag b
    by false = report_keeps l u.g s (direction_in l s) (report_in (decoded b.n u.octets)) b

set_pdu_receipt : (l : LinkId) (u : Pdu) (p : Past) (id : ℕ) → Distinct p.bearers → (o : Option Setting)
    → receipt (on_set_pdu l u p o) id ≡ option_map (set_pdu_on p l u o) (receipt p id)
set_pdu_receipt l u p id distinct None = still (receipt p id) (receipt p id) refl
set_pdu_receipt l u p id distinct (Some s) = change_seen p id u.id u.g (pdu_taken l u s) (pdu_on l u s) (pdu_keeps l u s) (pdu_seen l u s) distinct

on_pdu_receipt : (l : LinkId) (o : Option Pdu) (p : Past) (id : ℕ) → Distinct p.bearers
    → receipt (on_pdu l o p) id ≡ option_map (maybe_pdu_on p l o) (receipt p id)
on_pdu_receipt l None p id distinct = still (receipt p id) (receipt p id) refl
on_pdu_receipt l (Some u) p id distinct = set_pdu_receipt l u p id distinct (setting p u.id u.g)

-- ---- other flights

ack_unseen : (l : LinkId) (g : ℕ) (o : Option ℕ) → IsUnseen (ack_taken l g o)
ack_unseen l g None b = refl
ack_unseen l g (Some c) b = elim (cases_Bool (holds l.to g b.holder)) [ inl yes' ↦ rw yes' refl | inr no' ↦ rw no' refl ]

ack_keeps : (l : LinkId) (g : ℕ) (o : Option ℕ) → KeepsId (ack_taken l g o)
ack_keeps l g None b = refl
ack_keeps l g (Some c) b = elim (cases_Bool (holds l.to g b.holder)) [ inl yes' ↦ rw yes' refl | inr no' ↦ rw no' refl ]

told_unseen : (c : ℕ) → IsUnseen (told_taken c)
told_unseen c b = elim (cases_Bool b.is_gone) [ inl yes' ↦ rw yes' refl | inr no' ↦ rw no' refl ]

told_keeps : (c : ℕ) → KeepsId (told_taken c)
told_keeps c b = elim (cases_Bool b.is_gone) [ inl yes' ↦ rw yes' refl | inr no' ↦ rw no' refl ]

delivered_receipt : (is : Bool) (l : LinkId) (v : Delivery) (b : Bearer) (p : Past) (id : ℕ) → receipt (delivered is l v b p) id ≡ receipt p id
delivered_receipt false l v b p id = refl
delivered_receipt true l v b p id =
    let us = tunnelled (reverse l) v.id v.g p in
    one_unseen id b.g (with_delivery v us (filter (λ k. not (is_asked v.g b.asked k)) (listed_numbers v.lost us))) (λ x. refl) (λ x. refl) p.bearers

delivered_to_receipt : (l : LinkId) (v : Delivery) (p : Past) (o : Option Bearer) (id : ℕ) → receipt (delivered_to l v p o) id ≡ receipt p id
delivered_to_receipt l v p None id = refl
delivered_to_receipt l v p (Some b) id = delivered_receipt (holds l.to v.g b.holder) l v b p id

delivery_receipt : (l : LinkId) (o : Option Delivery) (p : Past) (id : ℕ) → receipt (on_delivery l o p) id ≡ receipt p id
delivery_receipt l None p id = refl
delivery_receipt l (Some v) p id = delivered_to_receipt l v p (bearer_of p v.id v.g) id

on_forward_receipt : (l : LinkId) (f : Flight) (is : Bool) (p : Past) (id : ℕ) → receipt (on_forward l f is p) id ≡ receipt p id
on_forward_receipt l f false p id = refl
on_forward_receipt l f true p id = refl

pairs_receipt : (id : ℕ) (p : Past) (pairs : List (ℕ × ℕ)) (bs : List Bearer)
    → option_map receipt_of (latest_in id (fold (pair_taken p) bs pairs)) ≡ option_map receipt_of (latest_in id bs)
pairs_receipt id p [] bs = refl
pairs_receipt id p ((k, g) ∷ pairs) bs =
    pairs_receipt id p pairs (pair_taken p bs (k, g)) ∙ changed_unseen id (warn M g) (λ b. refl) (λ b. refl) _ bs

-- drops that a secondary node carries out
drop_seen : (id : ℕ) (x : Node) (g : ℕ) (bs : List Bearer) (i : Item)
    → option_map receipt_of (latest_in id (drop_taken x g bs i)) ≡ option_map (λ r. item_on x g r i) (option_map receipt_of (latest_in id bs))
drop_seen id x g bs (Set k n first shape threshold policy key old) = sym (same_receipt (option_map receipt_of (latest_in id bs)))
drop_seen id x g bs (Unset k) =
    ap (option_map receipt_of) (latest_map id (λ (b : Bearer). if (b.id == k) && nat_lt b.g g then dropped_at x b else b)
    (keeps_if (λ b. (b.id == k) && nat_lt b.g g) (dropped_at x) (dropped_keeps x)) bs)
    ∙ seen_of (λ b. if (b.id == k) && nat_lt b.g g then dropped_at x b else b) (λ r. item_on x g r (Unset k))
    (λ b. if_seen ((b.id == k) && nat_lt b.g g) (dropped_at x) (dropped_on x) b (dropped_seen x b)) (latest_in id bs)

drops_receipt : (id : ℕ) (x : Node) (g : ℕ) (items : List Item) (bs : List Bearer)
    → option_map receipt_of (latest_in id (fold (drop_taken x g) bs items)) ≡ option_map
    (λ r. fold (item_on x g) r items) (option_map receipt_of (latest_in id bs))
drops_receipt id x g [] bs = sym (same_receipt (option_map receipt_of (latest_in id bs)))
drops_receipt id x g (i ∷ items) bs =
    drops_receipt id x g items (drop_taken x g bs i)
    ∙ ap (option_map (λ r. fold (item_on x g) r items)) (drop_seen id x g bs i)
    ∙ map_again (λ r. fold (item_on x g) r items) (λ r. item_on x g r i) (option_map receipt_of (latest_in id bs))

on_record_receipt : (l : LinkId) (r : Rec) (p : Past) (id : ℕ) → receipt (on_record l r p) id ≡ option_map (taken_record_on l r) (receipt p id)
on_record_receipt l (rec.Modreq q key) p id = drops_receipt id l.to q.g q.items p.bearers
on_record_receipt l (rec.Scgf pairs) p id = still (receipt p id) _ (pairs_receipt id p pairs p.bearers)
on_record_receipt l (rec.Scgn k g) p id = still (receipt p id) _ (changed_unseen id (warn l.to g) (λ b. refl) (λ b. refl) (bearer_of p k g) p.bearers)
on_record_receipt l rec.Modrqd p id = still (receipt p id) _ (second_receipt l.from _ p id)
on_record_receipt l rec.Chgrqd p id = still (receipt p id) _ (second_receipt l.from _ p id)
on_record_receipt l rec.Relrqd p id = still (receipt p id) _ (second_receipt l.from _ p id)
on_record_receipt l (rec.Reconf q key) p id = still (receipt p id) _ refl
on_record_receipt l (rec.Rcomp g) p id = still (receipt p id) _ refl
on_record_receipt l (rec.Recov k) p id = still (receipt p id) _ refl
on_record_receipt l (rec.Recovd k) p id = still (receipt p id) _ refl
on_record_receipt l (rec.Addreq q key) p id = still (receipt p id) _ refl
on_record_receipt l (rec.Addack g) p id = still (receipt p id) _ refl
on_record_receipt l (rec.Addrej g) p id = still (receipt p id) _ refl
on_record_receipt l (rec.Modack g) p id = still (receipt p id) _ refl
on_record_receipt l (rec.Modrej g) p id = still (receipt p id) _ refl
on_record_receipt l (rec.Recfg g) p id = still (receipt p id) _ refl
on_record_receipt l (rec.Relreq q) p id = still (receipt p id) _ refl
on_record_receipt l (rec.Relack g) p id = still (receipt p id) _ refl
on_record_receipt l (rec.Relrej g) p id = still (receipt p id) _ refl
on_record_receipt l (rec.Uecr g) p id = still (receipt p id) _ refl
on_record_receipt l (rec.Snst s) p id = still (receipt p id) _ refl
on_record_receipt l (rec.Moved g k) p id = still (receipt p id) _ refl
on_record_receipt l (rec.Modcnf g) p id = still (receipt p id) _ refl
on_record_receipt l (rec.Modref w) p id = still (receipt p id) _ refl
on_record_receipt l (rec.Chgcnf q) p id = still (receipt p id) _ refl
on_record_receipt l (rec.Chgref w) p id = still (receipt p id) _ refl
on_record_receipt l (rec.Relcnf q) p id = still (receipt p id) _ refl

taken_receipt : (l : LinkId) (f : Flight) (p : Past) (id : ℕ) → Distinct p.bearers → receipt (taken_from l f p) id ≡ option_map (taken_on p l f) (receipt p id)
taken_receipt l (flight.Air k g num tag pdu) p id distinct = on_pdu_receipt l (pdu_of (flight.Air k g num tag pdu)) p id distinct
taken_receipt l (flight.Ack k g num) p id distinct =
    still (receipt p id) _ (changed_unseen id (ack_taken l g (acked_count l k g num p)) (ack_keeps l g (acked_count l k g num p))
    (ack_unseen l g (acked_count l k g num p)) (bearer_of p k g) p.bearers)
taken_receipt l (flight.Tun tag packet) p id distinct =
    let view = packet_of packet in
    let q = on_pdu l (pdu_in tag view) p in
    on_forward_receipt l (flight.Tun tag packet) (is_some (forwarding_in view)) (on_delivery l (delivery_in tag view) q) id
    ∙ delivery_receipt l (delivery_in tag view) q id ∙ on_pdu_receipt l (pdu_in tag view) p id distinct
taken_receipt l (flight.Sdu k g sdu) p id distinct = still (receipt p id) _ refl
taken_receipt l (flight.End k g) p id distinct = still (receipt p id) _ refl
taken_receipt l (flight.Told k g count) p id distinct =
    still (receipt p id) _ (changed_unseen id (told_taken count) (told_keeps count) (told_unseen count) (bearer_of p k g) p.bearers)
taken_receipt l (flight.Ctl r) p id distinct = on_record_receipt l r p id

given_receipt : (o : Option (LinkId × Flight)) (p : Past) (id : ℕ) → Distinct p.bearers → receipt (given_if o p) id ≡ option_map (given_on p o) (receipt p id)
given_receipt None p id distinct = still (receipt p id) _ refl
given_receipt (Some s) p id distinct = taken_receipt s.0 s.1 (record p { given = Some s }) id distinct

-- ---- losses and failures

own_receipt : (o : Option (ℕ × ℕ)) (p : Past) (id : ℕ) → receipt (own_lost o p) id ≡ receipt p id
own_receipt None p id = refl
own_receipt (Some x) p id = changed_unseen id (λ b. record b { calm = lossy }) (λ b. refl) (λ b. refl) (bearer_of p x.0 x.1) p.bearers

forward_receipt : (o : Option (ℕ × ℕ)) (p : Past) (id : ℕ) → receipt (forward_lost o p) id ≡ receipt p id
forward_receipt None p id = refl
forward_receipt (Some x) p id = changed_unseen id (λ b. record b { lost_forward = true }) (λ b. refl) (λ b. refl) (bearer_of p x.0 x.1) p.bearers

trouble_receipt : (id : ℕ) (bs : List Bearer) → option_map receipt_of (latest_in id (trouble bs)) ≡ option_map receipt_of (latest_in id bs)
trouble_receipt id bs = all_unseen id (λ b. record b { calm = troubled b.calm }) (λ b. refl) (λ b. refl) bs

lost_receipt : (o : Option (LinkId × Flight)) (p : Past) (id : ℕ) → receipt (lost_if o p) id ≡ receipt p id
lost_receipt None p id = refl
lost_receipt (Some s) p id =
    let q = record p { bearers = trouble p.bearers } in
    forward_receipt (forwarding_of s.1) (own_lost (owner_of s.1) q) id ∙ own_receipt (owner_of s.1) q id ∙ trouble_receipt id p.bearers

fails_seen : (p : Past) (b : Bearer) (o : Option ℕ) → receipt_of (fails_in p b o) ≡ fails_on p o (receipt_of b)
fails_seen p b None = refl
fails_seen p b (Some g) = by (has_scg_in (setting p b.id g))
  where
    by : (is : Bool) → receipt_of (leg_fails is b) ≡ record (receipt_of b) { is_failed = is || b.is_failed }
    by true = refl
    by false = refl

fails_keep : (p : Past) (b : Bearer) (o : Option ℕ) → (fails_in p b o).id ≡ b.id
fails_keep p b None = refl
fails_keep p b (Some g) = by (has_scg_in (setting p b.id g))
  where
    by : (is : Bool) → (leg_fails is b).id ≡ b.id
    by true = refl
    by false = refl

failure_receipt : (p : Past) (id : ℕ)
    → option_map receipt_of (latest_in id (trouble (map (fails p) p.bearers))) ≡ option_map (λ r. fails_on p r.terminal r) (receipt p id)
failure_receipt p id =
    trouble_receipt id (map (fails p) p.bearers)
    ∙ ap (option_map receipt_of) (latest_map id (fails p) (λ b. fails_keep p b b.terminal) p.bearers)
    ∙ seen_of (fails p) (λ r. fails_on p r.terminal r) (λ b. fails_seen p b b.terminal) (latest_in id p.bearers)

-- ---- the event

accepted_receipt : (e : Event) (p : Past) (id : ℕ) → draws_none e ≡ true → Distinct p.bearers
    → receipt (accepted e p) id ≡ option_map (event_on p e) (receipt p id)
accepted_receipt (event.Bearer k n first shape threshold policy) p id none distinct = absurd (let bad : false ≡ true = none in cc)
accepted_receipt (event.Reshape k shape) p id none distinct = absurd (let bad : false ≡ true = none in cc)
accepted_receipt (event.Remove k) p id none distinct = absurd (let bad : false ≡ true = none in cc)
accepted_receipt (event.Add x) p id none distinct = absurd (let bad : false ≡ true = none in cc)
accepted_receipt event.Change p id none distinct = absurd (let bad : false ≡ true = none in cc)
accepted_receipt event.Release p id none distinct = absurd (let bad : false ≡ true = none in cc)
accepted_receipt event.RekeySecond p id none distinct = absurd (let bad : false ≡ true = none in cc)
accepted_receipt (event.RekeyMaster root) p id none distinct = absurd (let bad : false ≡ true = none in cc)
accepted_receipt (event.Recover k) p id none distinct =
    latest_seen id k (λ b. record b { calm = calmed b.calm }) (λ r. r) (λ b. refl) (λ b. refl) p.bearers ∙ same_either k (receipt p id)
accepted_receipt (event.Submit k Ul sdu) p id none distinct =
    latest_seen id k (λ b. with_lane Ul (with_submission sdu (lane Ul b)) b) (λ r. record r { submitted = r.submitted ++ sdu ∷ [] }) (λ b. refl)
    (λ b. refl) p.bearers
accepted_receipt (event.Submit k Dl sdu) p id none distinct =
    latest_seen id k (λ b. with_lane Dl (with_submission sdu (lane Dl b)) b) (λ r. r) (λ b. refl) (λ b. refl) p.bearers ∙ same_either k (receipt p id)
accepted_receipt (event.Report x k) p id none distinct = still (receipt p id) _ refl
accepted_receipt (event.Deny x on) p id none distinct = still (receipt p id) _ (second_receipt x _ p id)
accepted_receipt (event.Ask x w) p id none distinct = still (receipt p id) _ (second_receipt x _ p id)
accepted_receipt event.ScgFail p id none distinct = failure_receipt p id
accepted_receipt (event.Step l i) p id none distinct = given_receipt (find_at l i p.standing) (record p { standing = without l i p.standing }) id distinct
accepted_receipt (event.Lose l i) p id none distinct =
    still (receipt p id) _ (lost_receipt (find_at l i p.standing) (record p { standing = without l i p.standing }) id)
accepted_receipt (event.Again l i) p id none distinct = still (receipt p id) _ refl

aged_receipt : (e : Event) (p : Past) (id : ℕ) → receipt (aged e p) id ≡ receipt p id
aged_receipt (event.Bearer k n first shape threshold policy) p id = refl
aged_receipt (event.Reshape k shape) p id = refl
aged_receipt (event.Remove k) p id = refl
aged_receipt (event.Add x) p id = refl
aged_receipt event.Change p id = refl
aged_receipt event.Release p id = refl
aged_receipt event.RekeySecond p id = refl
aged_receipt (event.RekeyMaster root) p id = refl
aged_receipt (event.Recover k) p id = refl
aged_receipt (event.Submit k d sdu) p id = refl
aged_receipt (event.Report x k) p id = refl
aged_receipt (event.Deny x on) p id = refl
aged_receipt (event.Ask x w) p id = refl
aged_receipt event.ScgFail p id = refl
aged_receipt (event.Step l i) p id = refl
aged_receipt (event.Lose l i) p id = refl
aged_receipt (event.Again l i) p id = refl

pub refused_receipt : (why : Refusal) (e : Event) (p : Past) (id : ℕ) → receipt (refused why e p) id ≡ receipt p id
refused_receipt refusal.Aged e p id = aged_receipt e p id
refused_receipt refusal.NoBearer e p id = refl
refused_receipt refusal.BearerThere e p id = refl
refused_receipt refusal.Busy e p id = refl
refused_receipt refusal.NoSecondary e p id = refl
refused_receipt refusal.SecondaryThere e p id = refl
refused_receipt refusal.SameShape e p id = refl
refused_receipt refusal.IdSpent e p id = refl
refused_receipt refusal.CounterSpent e p id = refl
refused_receipt refusal.RootUsed e p id = refl
refused_receipt refusal.NoFlight e p id = refl
refused_receipt refusal.NotFirst e p id = refl
refused_receipt refusal.NotTunnel e p id = refl
refused_receipt refusal.Full e p id = refl
refused_receipt refusal.Exhausted e p id = refl
refused_receipt refusal.NoPolicy e p id = refl

pub answered_receipt : (e : Event) (a : Answer) (p : Past) (id : ℕ) → draws_none e ≡ true → Distinct p.bearers
    → receipt (answered e a p) id ≡ option_map (answered_on p e a) (receipt p id)
answered_receipt e answer.Ok p id none distinct = accepted_receipt e p id none distinct
answered_receipt e (answer.No why) p id none distinct = still (receipt p id) _ (refused_receipt why e p id)

-- of an event that draws no command, before its lines
pub judged_receipt : (e : Event) (a : Answer) (p : Past) (id : ℕ) → draws_none e ≡ true → Distinct p.bearers
    → receipt (judged e a p) id ≡ option_map (answered_on p e a) (receipt p id)
judged_receipt e a p id none distinct =
    answered_receipt e a (record p { earlier = p.pdus; event = e; answer = a; given = None; copied = None; fresh = []; said = [] }) id none distinct
