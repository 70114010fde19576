-- What of a step of the past nothing is seen of the downlinks.
use Rattle.std.proofs.Common.{ℕ, ◌≡◌, ◌+◌, ◌==◌, ◌++◌, Bool, true, false, List, [], ◌∷◌, Option, Some, None, refl, ap, ◌∙◌, inl, inr}
use Rattle.std.specs.Prelude.{filter, fold, if◌then◌else◌, map, nat_lt, ◌&&◌}
use Rattle.std.proofs.lemmas.Bool.{cases_Bool}
use Rattle.dc_base.specs.declared.events.Event.{Event}
use Rattle.dc_base.specs.declared.nodes.Dir.{Dir}
use Rattle.dc_base.specs.declared.nodes.Dir.TheVariants.{Dl, Ul}
use Rattle.dc_base.specs.declared.nodes.LinkId.{LinkId}
use Rattle.dc_base.specs.declared.nodes.Node.{Node}
use Rattle.dc_base.specs.declared.nodes.Node.TheVariants.{T, M, A, B}
use Rattle.dc_base.specs.declared.records.Item.{Item}
use Rattle.dc_base.specs.declared.records.Item.TheVariants.{Set, Unset}
use Rattle.dc_base.specs.declared.records.Plan.{Plan}
use Rattle.pdcp_pdu.specs.DataPdu.{is_data}
use Rattle.pdcp_pdu.specs.Pdu.{decoded}
use Rattle.claims.specs.Confirming.{Confirmation, acked}
use Rattle.claims.specs.Views.{Pdu, report_in}
use Rattle.claims.specs.Table.{Command, Table}
use Rattle.claims.specs.Past.{Bearer, Past, Second}
use Rattle.claims.specs.Reading.{Setting, bearer_of, change_bearer, changed, holds, holds_any, low, on_bearer, plan, setting, with_second}
use Rattle.claims.specs.Reading as reading
use Rattle.claims.specs.Drafts.{Draft}
use Rattle.claims.specs.Carrying.{carry, carry_if, carry_plan, carry_with, dropped_at, gone_at_master, on_item, with_draft, with_item, with_plan_drawn, with_set}
use Rattle.claims.specs.Carrying as carrying
use Rattle.claims.specs.Taking.{ack_taken, confirmed_by, confirming, data_taken, direction_in, is_live, is_waiting, kept_count, kept_report, pdu_taken, report_taken, told_at_least, told_taken, with_taken}
use Rattle.claims.specs.Noted.{is_kept_by, owned_by, with_early, with_holder}
use Rattle.run_uplinks.specs.Seen.{Seen, Uplink, draws, on_latest, with_new}
use Rattle.run_downlinks.specs.Seen.{downlink_of, seen}

-- a change of bearers of which nothing is seen
abbrev pub Unseen : (Bearer → Bearer) → Type 0
Unseen f = (b : Bearer) → downlink_of (f b) ≡ downlink_of b

pub all_unseen : (f : Bearer → Bearer) → Unseen f → (bs : List Bearer) → map downlink_of (map f bs) ≡ map downlink_of bs
all_unseen f same [] = refl
all_unseen f same (b ∷ bs) = ap (λ x. x ∷ map downlink_of (map f bs)) (same b) ∙ ap (λ xs. downlink_of b ∷ xs) (all_unseen f same bs)

pub if_unseen : (t : Bearer → Bool) (f : Bearer → Bearer) → Unseen f → Unseen (λ b. if t b then f b else b)
if_unseen t f same b = elim (cases_Bool (t b)) [ inl yes' ↦ rw yes' (same b) | inr no' ↦ rw no' refl ]

pub one_unseen : (g : ℕ) (f : Bearer → Bearer) → Unseen f → (bs : List Bearer) → map downlink_of (on_bearer g f bs) ≡ map downlink_of bs
one_unseen g f same bs = all_unseen (λ b. if b.g == g then f b else b) (if_unseen (λ b. b.g == g) f same) bs

pub changed_unseen : (f : Bearer → Bearer) → Unseen f → (o : Option Bearer) (bs : List Bearer) → map downlink_of (changed f bs o) ≡ map downlink_of bs
changed_unseen f same None bs = refl
changed_unseen f same (Some b) bs = one_unseen b.g f same bs

pub change_unseen : (p : Past) (id g : ℕ) (f : Bearer → Bearer) → Unseen f → map downlink_of (change_bearer p id g f) ≡ map downlink_of p.bearers
change_unseen p id g f same = changed_unseen f same (bearer_of p id g) p.bearers

pub latest_unseen : (id : ℕ) (f : Bearer → Bearer) → Unseen f → (bs : List Bearer) → map downlink_of (reading.on_latest id f bs) ≡ map downlink_of bs
latest_unseen id f same [] = refl
latest_unseen id f same (b ∷ bs) =
    elim (cases_Bool (b.id == id)) [
      | inl here ↦ rw here (ap (λ x. x ∷ map downlink_of bs) (same b))
      | inr there ↦ rw there (ap (λ xs. downlink_of b ∷ xs) (latest_unseen id f same bs))
    ]

-- ---- changes that are seen

-- of the latest of an identity
pub latest_seen : (id : ℕ) (f : Bearer → Bearer) (k : Uplink → Uplink) → ((b : Bearer) → downlink_of (f b) ≡ k (downlink_of b))
    → (bs : List Bearer) → map downlink_of (reading.on_latest id f bs) ≡ on_latest id k (map downlink_of bs)
latest_seen id f k same [] = refl
latest_seen id f k same (b ∷ bs) =
    elim (cases_Bool (b.id == id)) [
      | inl here ↦ rw here (ap (λ x. x ∷ map downlink_of bs) (same b))
      | inr there ↦ rw there (ap (λ xs. downlink_of b ∷ xs) (latest_seen id f k same bs))
    ]

-- other establishments, and nothing else
pub with_bearers : (s : Seen) (us : List Uplink) → us ≡ s.bearers → record s { bearers = us } ≡ s
with_bearers s us same = ap (λ xs. record s { bearers = xs }) same

-- several steps of which nothing is seen
pub fold_unseen : {X : Type 0} (f : List Bearer → X → List Bearer) → ((bs : List Bearer) (x : X) → map downlink_of (f bs x) ≡ map downlink_of bs)
    → (xs : List X) (bs : List Bearer) → map downlink_of (fold f bs xs) ≡ map downlink_of bs
fold_unseen f same [] bs = refl
fold_unseen f same (x ∷ xs) bs = fold_unseen f same xs (f bs x) ∙ same bs x

pub second_seen : (x : Node) (s : Second) (p : Past) → seen (with_second x s p) ≡ seen p
second_seen T s p = refl
second_seen M s p = refl
second_seen A s p = refl
second_seen B s p = refl

-- ---- what draws

new_seen : (g : ℕ) (items : List Item) (bs : List Bearer) → map downlink_of (fold (carrying.with_new g) bs items) ≡ fold (with_new g) (map downlink_of bs) items
new_seen g [] bs = refl
new_seen g (Set id n first shape threshold policy key None ∷ items) bs = new_seen g items (carrying.with_new g bs (Set id n first shape threshold policy key None))
new_seen g (Set id n first shape threshold policy key (Some old) ∷ items) bs = new_seen g items bs
new_seen g (Unset id ∷ items) bs = new_seen g items bs

pub draft_seen : (p : Past) (e : Event) (asker : Option Node) (o : Option Draft) → seen (with_draft p e asker o) ≡ draws o (seen p)
draft_seen p e asker None = refl
draft_seen p e asker (Some d) =
    ap (λ us. record { bearers = us; plans = record { g = p.table.last + 1; sec = d.sec; items = d.items } ∷ p.plans; roots = p.table.roots ++ d.named; last = p.table.last + 1; alg = p.header.alg; sec = None })
    (new_seen (p.table.last + 1) d.items (map (with_plan_drawn d.items) p.bearers) ∙ ap (λ us. fold (with_new (p.table.last + 1)) us d.items) (all_unseen (with_plan_drawn d.items) (λ b. refl) p.bearers))

-- ---- what carries out

on_item_unseen : (p : Past) (g : ℕ) (bs : List Bearer) (i : Item) → map downlink_of (on_item p g bs i) ≡ map downlink_of bs
on_item_unseen p g bs (Set id n first shape threshold policy key old) = changed_unseen (with_set g) (λ b. refl) (bearer_of p id g) bs
on_item_unseen p g bs (Unset id) =
    all_unseen (λ b. if (b.id == id) && nat_lt b.g g then gone_at_master b else b) (if_unseen (λ b. (b.id == id) && nat_lt b.g g) gone_at_master gone_unseen) bs
  where
    gone_unseen : Unseen gone_at_master
    gone_unseen b = elim (cases_Bool (holds_any M b.holder)) [ inl yes' ↦ rw yes' refl | inr no' ↦ rw no' refl ]

last_stays : (g : ℕ) (items : List Item) (t : Table) → (fold (with_item g) t items).last ≡ t.last
last_stays g [] t = refl
last_stays g (Set id n first shape threshold policy key old ∷ items) t = last_stays g items (with_item g t (Set id n first shape threshold policy key old))
last_stays g (Unset id ∷ items) t = last_stays g items (with_item g t (Unset id))

roots_stay : (g : ℕ) (items : List Item) (t : Table) → (fold (with_item g) t items).roots ≡ t.roots
roots_stay g [] t = refl
roots_stay g (Set id n first shape threshold policy key old ∷ items) t = roots_stay g items (with_item g t (Set id n first shape threshold policy key old))
roots_stay g (Unset id ∷ items) t = roots_stay g items (with_item g t (Unset id))

plan_seen : (g : ℕ) (p : Past) (c : Command) (o : Option Plan) → seen (carry_plan p g c o) ≡ seen p
plan_seen g p c None = refl
plan_seen g p c (Some q) =
    let t = fold (with_item g) p.table q.items in
    ap (λ us. record { bearers = us; plans = p.plans; roots = t.roots; last = t.last; alg = p.header.alg; sec = None }) (fold_unseen (on_item p g) (on_item_unseen p g) q.items p.bearers)
    ∙ ap (λ k. record (seen p) { roots = t.roots; last = k }) (last_stays g q.items p.table) ∙ ap (λ rs. record (seen p) { roots = rs }) (roots_stay g q.items p.table)

carry_if_seen : (g : ℕ) (p : Past) (c : Command) (is : Bool) → seen (carry_if p g c is) ≡ seen p
carry_if_seen g p c false = refl
carry_if_seen g p c true = plan_seen g p c (plan p g)

carry_with_seen : (g : ℕ) (p : Past) (o : Option Command) → seen (carry_with p g o) ≡ seen p
carry_with_seen g p None = refl
carry_with_seen g p (Some c) = carry_if_seen g p c _

pub carry_seen : (g : ℕ) (p : Past) → seen (carry g p) ≡ seen p
carry_seen g p = carry_with_seen g p p.table.command

-- ---- what confirms and changes a bearer

pub confirmed_unseen : (d : Dir) (cs : List Confirmation) → Unseen (confirmed_by d cs)
confirmed_unseen Ul cs b = refl
confirmed_unseen Dl cs b =
    let after = record b { down = confirming cs b.down } in by (low Dl after) (holds_any M b.holder && nat_lt (low Dl b) (low Dl after))
  where
    by : (c : ℕ) (rises : Bool) → downlink_of (record b { down = told_at_least c rises (confirming cs b.down) }) ≡ downlink_of b
    by c true = refl
    by c false = refl

pub dropped_unseen : (x : Node) → Unseen (dropped_at x)
dropped_unseen x b = elim (cases_Bool (holds_any x b.holder)) [ inl yes' ↦ rw yes' refl | inr no' ↦ rw no' refl ]

pub owned_unseen : (x : Node) (g : ℕ) → Unseen (owned_by x g)
owned_unseen x g b = confirmed_unseen Dl (map (λ w. w.names) (filter (is_kept_by x g) b.reports)) (with_early x g (with_holder x g b))

kept_count_unseen : (is : Bool) (x : Node) (g : ℕ) (c : Option ℕ) → Unseen (kept_count is x g c)
kept_count_unseen false x g c b = refl
kept_count_unseen true x g None b = refl
kept_count_unseen true x g (Some c) b = refl

with_taken_down : (c : Option ℕ) (b : Bearer) → downlink_of (record b { down = with_taken c b.down }) ≡ downlink_of b
with_taken_down None b = refl
with_taken_down (Some c) b = refl

with_taken_up : (c : Option ℕ) (b : Bearer) → downlink_of (record b { up = with_taken c b.up }) ≡ downlink_of b
with_taken_up None b = refl
with_taken_up (Some c) b = refl

data_unseen : (l : LinkId) (g : ℕ) (s : Setting) (d : Dir) (c : Option ℕ) → Unseen (data_taken l g s d c)
data_unseen l g s Dl c b = elim (cases_Bool (is_live l g b)) [ inl yes' ↦ rw yes' (with_taken_down c b) | inr no' ↦ rw no' refl ]
data_unseen l g s Ul c b =
    elim (cases_Bool (holds l.to g b.holder)) [ inl yes' ↦ rw yes' (with_taken_up c b) | inr no' ↦ rw no' (kept_count_unseen (is_waiting l.to g s b) l.to g c b) ]

kept_report_unseen : (is : Bool) (x : Node) (g : ℕ) (c : Confirmation) → Unseen (kept_report is x g c)
kept_report_unseen false x g c b = refl
kept_report_unseen true x g c b = refl

report_unseen : (l : LinkId) (g : ℕ) (s : Setting) (d : Dir) (o : Option Confirmation) → Unseen (report_taken l g s d o)
report_unseen l g s Dl None b = refl
report_unseen l g s Ul None b = refl
report_unseen l g s Dl (Some c) b = elim (cases_Bool (is_live l g b)) [ inl yes' ↦ rw yes' (confirmed_unseen Ul (c ∷ []) b) | inr no' ↦ rw no' refl ]
report_unseen l g s Ul (Some c) b =
    elim (cases_Bool (holds l.to g b.holder)) [
      | inl yes' ↦ rw yes' (confirmed_unseen Dl (c ∷ []) b)
      | inr no' ↦ rw no' (kept_report_unseen (is_waiting l.to g s b) l.to g c b)
    ]

pub pdu_taken_unseen : (l : LinkId) (u : Pdu) (s : Setting) → Unseen (pdu_taken l u s)
pdu_taken_unseen l u s b = by (direction_in l s) (report_in (decoded b.n u.octets)) (is_data u.octets)
  where
    by : (d : Dir) (o : Option Confirmation) (is : Bool) → downlink_of (if is then data_taken l u.g s d u.tag b else report_taken l u.g s d o b) ≡ downlink_of b
    by d o true = data_unseen l u.g s d u.tag b
    by d o false = report_unseen l u.g s d o b

pub ack_unseen : (l : LinkId) (g : ℕ) (o : Option ℕ) → Unseen (ack_taken l g o)
ack_unseen l g None b = refl
ack_unseen l g (Some c) b = elim (cases_Bool (holds l.to g b.holder)) [ inl yes' ↦ rw yes' (confirmed_unseen Dl (acked c ∷ []) b) | inr no' ↦ rw no' refl ]

pub told_unseen : (c : ℕ) → Unseen (told_taken c)
told_unseen c b = elim (cases_Bool b.is_gone) [ inl yes' ↦ rw yes' refl | inr no' ↦ rw no' refl ]
