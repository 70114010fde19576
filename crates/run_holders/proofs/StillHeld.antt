-- What of a step of the past says nothing of who holds a bearer, and what does.
use Rattle.std.proofs.Common.{ℕ, ◌≡◌, ◌+◌, ◌==◌, Bool, true, false, List, [], ◌∷◌, Option, Some, None, refl, sym, ap, ◌∙◌, inl, inr}
use Rattle.std.specs.Prelude.{filter, fold, find, if◌then◌else◌, map, nat_le, nat_lt, ◌&&◌}
use Rattle.std.specs.Option.{option_map}
use Rattle.std.proofs.lemmas.Bool.{cases_Bool}
use Rattle.dc_base.specs.declared.events.Event.{Event}
use Rattle.dc_base.specs.declared.nodes.Dir.{Dir}
use Rattle.dc_base.specs.declared.nodes.Dir.TheVariants.{Dl, Ul}
use Rattle.dc_base.specs.declared.nodes.LinkId.{LinkId}
use Rattle.dc_base.specs.declared.nodes.Node.{Node}
use Rattle.dc_base.specs.declared.nodes.Node.TheVariants.{T, M, A, B}
use Rattle.dc_base.specs.declared.records.Item.{Item}
use Rattle.dc_base.specs.declared.records.Item.TheVariants.{Set, Unset}
use Rattle.dc_base.specs.declared.records.Plan.{Plan}
use Rattle.pdcp_pdu.specs.DataPdu.{is_data}
use Rattle.pdcp_pdu.specs.Pdu.{decoded}
use Rattle.claims.specs.Confirming.{Confirmation, acked}
use Rattle.claims.specs.Views.{Pdu, report_in}
use Rattle.claims.specs.Table.{Command}
use Rattle.claims.specs.Past.{Bearer, Past, Second}
use Rattle.claims.specs.Reading.{Setting, bearer_of, change_bearer, changed, holds, holds_any, low, on_bearer, plan, setting, with_second}
use Rattle.claims.specs.Reading as reading
use Rattle.claims.specs.Drafts.{Draft}
use Rattle.claims.specs.Carrying.{carry, carry_if, carry_plan, carry_with, dropped_at, gone_at_master, on_item, with_draft, with_item, with_plan_drawn, with_set}
use Rattle.claims.specs.Carrying as carrying
use Rattle.claims.specs.Taking.{ack_taken, drop_taken, confirmed_by, confirming, data_taken, direction_in, is_live, is_waiting, kept_count, kept_report, pdu_taken, report_taken, told_at_least, told_taken, with_taken}
use Rattle.claims.specs.Noted.{given_away, is_kept_by, owned_by, with_early, with_holder}
use Rattle.run_holders.specs.Holdings.{Holding, changed_in, dropped_all, dropped_by, holding_of, holdings, latest_in, let_go, named_in, on_latest, on_named, taken_by, with_new}

-- a change of bearers of which nothing is said
abbrev pub Unseen : (Bearer → Bearer) → Type 0
Unseen f = (b : Bearer) → holding_of (f b) ≡ holding_of b

pub all_unseen : (f : Bearer → Bearer) → Unseen f → (bs : List Bearer) → map holding_of (map f bs) ≡ map holding_of bs
all_unseen f same [] = refl
all_unseen f same (b ∷ bs) = ap (λ x. x ∷ map holding_of (map f bs)) (same b) ∙ ap (λ xs. holding_of b ∷ xs) (all_unseen f same bs)

pub if_unseen : (t : Bearer → Bool) (f : Bearer → Bearer) → Unseen f → Unseen (λ b. if t b then f b else b)
if_unseen t f same b = elim (cases_Bool (t b)) [ inl yes' ↦ rw yes' (same b) | inr no' ↦ rw no' refl ]

pub one_unseen : (g : ℕ) (f : Bearer → Bearer) → Unseen f → (bs : List Bearer) → map holding_of (on_bearer g f bs) ≡ map holding_of bs
one_unseen g f same bs = all_unseen (λ b. if b.g == g then f b else b) (if_unseen (λ b. b.g == g) f same) bs

pub changed_unseen : (f : Bearer → Bearer) → Unseen f → (o : Option Bearer) (bs : List Bearer) → map holding_of (changed f bs o) ≡ map holding_of bs
changed_unseen f same None bs = refl
changed_unseen f same (Some b) bs = one_unseen b.g f same bs

pub change_unseen : (p : Past) (id g : ℕ) (f : Bearer → Bearer) → Unseen f → map holding_of (change_bearer p id g f) ≡ map holding_of p.bearers
change_unseen p id g f same = changed_unseen f same (bearer_of p id g) p.bearers

pub latest_unseen : (id : ℕ) (f : Bearer → Bearer) → Unseen f → (bs : List Bearer) → map holding_of (reading.on_latest id f bs) ≡ map holding_of bs
latest_unseen id f same [] = refl
latest_unseen id f same (b ∷ bs) =
    elim (cases_Bool (b.id == id)) [
      | inl here ↦ rw here (ap (λ x. x ∷ map holding_of bs) (same b))
      | inr there ↦ rw there (ap (λ xs. holding_of b ∷ xs) (latest_unseen id f same bs))
    ]

-- ---- changes that are seen

-- of the latest of an identity
pub latest_seen : (id : ℕ) (f : Bearer → Bearer) (k : Holding → Holding) → ((b : Bearer) → holding_of (f b) ≡ k (holding_of b))
    → (bs : List Bearer) → map holding_of (reading.on_latest id f bs) ≡ on_latest id k (map holding_of bs)
latest_seen id f k same [] = refl
latest_seen id f k same (b ∷ bs) =
    elim (cases_Bool (b.id == id)) [
      | inl here ↦ rw here (ap (λ x. x ∷ map holding_of bs) (same b))
      | inr there ↦ rw there (ap (λ xs. holding_of b ∷ xs) (latest_seen id f k same bs))
    ]

-- of the one of a name
named_seen : (g : ℕ) (f : Bearer → Bearer) (k : Holding → Holding) → ((b : Bearer) → holding_of (f b) ≡ k (holding_of b))
    → (bs : List Bearer) → map holding_of (on_bearer g f bs) ≡ on_named g k (map holding_of bs)
named_seen g f k same [] = refl
named_seen g f k same (b ∷ bs) =
    elim (cases_Bool (b.g == g)) [
      | inl here ↦ rw here (ap (λ x. x ∷ map holding_of (on_bearer g f bs)) (same b) ∙ ap (λ xs. k (holding_of b) ∷ xs) (named_seen g f k same bs))
      | inr there ↦ rw there (ap (λ xs. holding_of b ∷ xs) (named_seen g f k same bs))
    ]

-- what is found by what is seen
pub found_seen : (t : Holding → Bool) (bs : List Bearer) → find t (map holding_of bs) ≡ option_map holding_of (find (λ b. t (holding_of b)) bs)
found_seen t [] = refl
found_seen t (b ∷ bs) = elim (cases_Bool (t (holding_of b))) [ inl here ↦ rw here refl | inr there ↦ rw there (found_seen t bs) ]

pub latest_is : (id : ℕ) (bs : List Bearer) → latest_in id (map holding_of bs) ≡ option_map holding_of (find (λ (b : Bearer). b.id == id) bs)
latest_is id bs = found_seen (λ (u : Holding). u.id == id) bs

named_is : (p : Past) (id g : ℕ) (x : Option Setting) → named_in id g x (map holding_of p.bearers) ≡ option_map holding_of (reading.named p id g x)
named_is p id g None = refl
named_is p id g (Some x) = found_seen (λ (u : Holding). (u.id == id) && nat_le u.g g) p.bearers

pub change_seen : (p : Past) (id g : ℕ) (f : Bearer → Bearer) (k : Holding → Holding) → ((b : Bearer) → holding_of (f b) ≡ k (holding_of b))
    → map holding_of (change_bearer p id g f) ≡ changed_in k (map holding_of p.bearers) (named_in id g (setting p id g) (map holding_of p.bearers))
change_seen p id g f k same =
    by (bearer_of p id g) ∙ ap (changed_in k (map holding_of p.bearers)) (sym (named_is p id g (setting p id g)))
  where
    by : (o : Option Bearer) → map holding_of (changed f p.bearers o) ≡ changed_in k (map holding_of p.bearers) (option_map holding_of o)
    by None = refl
    by (Some b) = named_seen b.g f k same p.bearers

-- several steps of which nothing is said
pub fold_unseen : {X : Type 0} (f : List Bearer → X → List Bearer) → ((bs : List Bearer) (x : X) → map holding_of (f bs x) ≡ map holding_of bs)
    → (xs : List X) (bs : List Bearer) → map holding_of (fold f bs xs) ≡ map holding_of bs
fold_unseen f same [] bs = refl
fold_unseen f same (x ∷ xs) bs = fold_unseen f same xs (f bs x) ∙ same bs x

pub second_seen : (x : Node) (s : Second) (p : Past) → holdings (with_second x s p) ≡ holdings p
second_seen T s p = refl
second_seen M s p = refl
second_seen A s p = refl
second_seen B s p = refl

-- ---- what draws

new_seen : (g : ℕ) (items : List Item) (bs : List Bearer) → map holding_of (fold (carrying.with_new g) bs items) ≡ fold (with_new g) (map holding_of bs) items
new_seen g [] bs = refl
new_seen g (Set id n first shape threshold policy key None ∷ items) bs = new_seen g items (carrying.with_new g bs (Set id n first shape threshold policy key None))
new_seen g (Set id n first shape threshold policy key (Some old) ∷ items) bs = new_seen g items bs
new_seen g (Unset id ∷ items) bs = new_seen g items bs

pub draft_seen : (p : Past) (e : Event) (asker : Option Node) (d : Draft) → holdings (with_draft p e asker (Some d)) ≡ fold (with_new (p.table.last + 1)) (holdings p) d.items
draft_seen p e asker d =
    new_seen (p.table.last + 1) d.items (map (with_plan_drawn d.items) p.bearers) ∙ ap (λ us. fold (with_new (p.table.last + 1)) us d.items) (all_unseen (with_plan_drawn d.items) (λ b. refl) p.bearers)

-- ---- what drops

dropped_seen : (x : Node) (b : Bearer) → holding_of (dropped_at x b) ≡ let_go x (holding_of b)
dropped_seen x b = by (holds_any x b.holder)
  where
    by : (d : Bool) → holding_of (if d then record b { holder = None } else b) ≡ (if d then record (holding_of b) { holder = None } else holding_of b)
    by true = refl
    by false = refl

gone_seen : (b : Bearer) → holding_of (gone_at_master b) ≡ let_go M (holding_of b)
gone_seen b = by (holds_any M b.holder)
  where
    by : (d : Bool) → holding_of (record (if d then record b { holder = None } else b) { is_gone = true }) ≡ (if d then record (holding_of b) { holder = None } else holding_of b)
    by true = refl
    by false = refl

-- by a test
drops_if : (x : Node) (f : Bearer → Bearer) (id g : ℕ) → ((b : Bearer) → holding_of (f b) ≡ let_go x (holding_of b)) → (bs : List Bearer)
    → map holding_of (map (λ (b : Bearer). if (b.id == id) && nat_lt b.g g then f b else b) bs) ≡ map (λ (h : Holding). dropped_by x g h (Unset id)) (map holding_of bs)
drops_if x f id g same [] = refl
drops_if x f id g same (b ∷ bs) =
    ap (λ z. z ∷ map holding_of (map (λ (y : Bearer). if (y.id == id) && nat_lt y.g g then f y else y) bs)) (by ((b.id == id) && nat_lt b.g g)) ∙ ap (λ zs. dropped_by x g (holding_of b) (Unset id) ∷ zs) (drops_if x f id g same bs)
  where
    by : (d : Bool) → holding_of (if d then f b else b) ≡ (if d then let_go x (holding_of b) else holding_of b)
    by true = same b
    by false = refl

map_same : (hs : List Holding) → map (λ (h : Holding). h) hs ≡ hs
map_same [] = refl
map_same (h ∷ hs) = ap (λ zs. h ∷ zs) (map_same hs)

pub drop_seen : (x : Node) (g : ℕ) (items : List Item) (bs : List Bearer) → map holding_of (fold (drop_taken x g) bs items) ≡ dropped_all x g items (map holding_of bs)
drop_seen x g [] bs = refl
drop_seen x g (Set id n first shape threshold policy key old ∷ items) bs = drop_seen x g items bs ∙ ap (λ hs. dropped_all x g items hs) (sym (map_same (map holding_of bs)))
drop_seen x g (Unset id ∷ items) bs =
    drop_seen x g items (map (λ (b : Bearer). if (b.id == id) && nat_lt b.g g then dropped_at x b else b) bs) ∙ ap (λ hs. dropped_all x g items hs) (drops_if x (dropped_at x) id g (dropped_seen x) bs)

-- ---- what carries out

item_seen : (p : Past) (g : ℕ) (items : List Item) (bs : List Bearer) → map holding_of (fold (on_item p g) bs items) ≡ dropped_all M g items (map holding_of bs)
item_seen p g [] bs = refl
item_seen p g (Set id n first shape threshold policy key old ∷ items) bs =
    item_seen p g items (changed (with_set g) bs (bearer_of p id g)) ∙ ap (λ hs. dropped_all M g items hs) (changed_unseen (with_set g) (λ b. refl) (bearer_of p id g) bs ∙ sym (map_same (map holding_of bs)))
item_seen p g (Unset id ∷ items) bs =
    item_seen p g items (map (λ (b : Bearer). if (b.id == id) && nat_lt b.g g then gone_at_master b else b) bs) ∙ ap (λ hs. dropped_all M g items hs) (drops_if M gone_at_master id g gone_seen bs)

-- nothing is dropped, or what the items of a plan drop that was drawn
pub data Carries (p p' : Past) (g : ℕ) : Type 0 where
  carries_nothing : (same : holdings p' ≡ holdings p) → Carries p p' g
  carries_out : (q : Plan) → (at : plan p g ≡ Some q) → (drops : holdings p' ≡ dropped_all M g q.items (holdings p)) → Carries p p' g

plan_carries : (g : ℕ) (p : Past) (c : Command) (o : Option Plan) → plan p g ≡ o → Carries p (carry_plan p g c o) g
plan_carries g p c None at = carries_nothing refl
plan_carries g p c (Some q) at = carries_out q at (item_seen p g q.items p.bearers)

if_carries : (g : ℕ) (p : Past) (c : Command) (is : Bool) → Carries p (carry_if p g c is) g
if_carries g p c false = carries_nothing refl
if_carries g p c true = plan_carries g p c (plan p g) refl

with_carries : (g : ℕ) (p : Past) (o : Option Command) → Carries p (carry_with p g o) g
with_carries g p None = carries_nothing refl
with_carries g p (Some c) = if_carries g p c _

pub carry_seen : (g : ℕ) (p : Past) → Carries p (carry g p) g
carry_seen g p = with_carries g p p.table.command

-- ---- what confirms and changes a bearer

pub confirmed_unseen : (d : Dir) (cs : List Confirmation) → Unseen (confirmed_by d cs)
confirmed_unseen Ul cs b = refl
confirmed_unseen Dl cs b =
    let after = record b { down = confirming cs b.down } in by (low Dl after) (holds_any M b.holder && nat_lt (low Dl b) (low Dl after))
  where
    by : (c : ℕ) (rises : Bool) → holding_of (record b { down = told_at_least c rises (confirming cs b.down) }) ≡ holding_of b
    by c true = refl
    by c false = refl

-- an anchor becomes active
pub owned_seen : (x : Node) (g : ℕ) (b : Bearer) → holding_of (owned_by x g b) ≡ taken_by x g (holding_of b)
owned_seen x g b = confirmed_unseen Dl (map (λ w. w.names) (filter (is_kept_by x g) b.reports)) (with_early x g (with_holder x g b))

-- or is frozen
pub given_seen : (x : Node) (g : ℕ) (b : Bearer) → holding_of (given_away x g b) ≡ let_go x (holding_of b)
given_seen x g b = by (holds_any x b.holder)
  where
    by : (d : Bool) → holding_of (record (if d then record b { holder = None } else b) { gave = Some (x, g) }) ≡ (if d then record (holding_of b) { holder = None } else holding_of b)
    by true = refl
    by false = refl

kept_count_unseen : (is : Bool) (x : Node) (g : ℕ) (c : Option ℕ) → Unseen (kept_count is x g c)
kept_count_unseen false x g c b = refl
kept_count_unseen true x g None b = refl
kept_count_unseen true x g (Some c) b = refl

with_taken_down : (c : Option ℕ) (b : Bearer) → holding_of (record b { down = with_taken c b.down }) ≡ holding_of b
with_taken_down None b = refl
with_taken_down (Some c) b = refl

with_taken_up : (c : Option ℕ) (b : Bearer) → holding_of (record b { up = with_taken c b.up }) ≡ holding_of b
with_taken_up None b = refl
with_taken_up (Some c) b = refl

data_unseen : (l : LinkId) (g : ℕ) (s : Setting) (d : Dir) (c : Option ℕ) → Unseen (data_taken l g s d c)
data_unseen l g s Dl c b = elim (cases_Bool (is_live l g b)) [ inl yes' ↦ rw yes' (with_taken_down c b) | inr no' ↦ rw no' refl ]
data_unseen l g s Ul c b =
    elim (cases_Bool (holds l.to g b.holder)) [ inl yes' ↦ rw yes' (with_taken_up c b) | inr no' ↦ rw no' (kept_count_unseen (is_waiting l.to g s b) l.to g c b) ]

kept_report_unseen : (is : Bool) (x : Node) (g : ℕ) (c : Confirmation) → Unseen (kept_report is x g c)
kept_report_unseen false x g c b = refl
kept_report_unseen true x g c b = refl

report_unseen : (l : LinkId) (g : ℕ) (s : Setting) (d : Dir) (o : Option Confirmation) → Unseen (report_taken l g s d o)
report_unseen l g s Dl None b = refl
report_unseen l g s Ul None b = refl
report_unseen l g s Dl (Some c) b = elim (cases_Bool (is_live l g b)) [ inl yes' ↦ rw yes' (confirmed_unseen Ul (c ∷ []) b) | inr no' ↦ rw no' refl ]
report_unseen l g s Ul (Some c) b =
    elim (cases_Bool (holds l.to g b.holder)) [
      | inl yes' ↦ rw yes' (confirmed_unseen Dl (c ∷ []) b)
      | inr no' ↦ rw no' (kept_report_unseen (is_waiting l.to g s b) l.to g c b)
    ]

pub pdu_taken_unseen : (l : LinkId) (u : Pdu) (s : Setting) → Unseen (pdu_taken l u s)
pdu_taken_unseen l u s b = by (direction_in l s) (report_in (decoded b.n u.octets)) (is_data u.octets)
  where
    by : (d : Dir) (o : Option Confirmation) (is : Bool) → holding_of (if is then data_taken l u.g s d u.tag b else report_taken l u.g s d o b) ≡ holding_of b
    by d o true = data_unseen l u.g s d u.tag b
    by d o false = report_unseen l u.g s d o b

pub ack_unseen : (l : LinkId) (g : ℕ) (o : Option ℕ) → Unseen (ack_taken l g o)
ack_unseen l g None b = refl
ack_unseen l g (Some c) b = elim (cases_Bool (holds l.to g b.holder)) [ inl yes' ↦ rw yes' (confirmed_unseen Dl (acked c ∷ []) b) | inr no' ↦ rw no' refl ]

pub told_unseen : (c : ℕ) → Unseen (told_taken c)
told_unseen c b = elim (cases_Bool b.is_gone) [ inl yes' ↦ rw yes' refl | inr no' ↦ rw no' refl ]
