-- The anchors of the command table stand at the master or at the secondary node, whatever plan is carried out; and whom a draft asks.
use Rattle.std.proofs.Common.{ℕ, ◌≡◌, ◌+◌, ◌==◌, Bool, true, false, List, [], ◌∷◌, Option, Some, None, refl, sym, ap, subst, ◌∙◌, inl, inr}
use Rattle.std.specs.Prelude.{filter, find, fold, if◌then◌else◌, map, not, ⊤, ◌&&◌, ◌||◌}
use Rattle.std.specs.List.{AllByRecursion, flat_map, list_any}
use Rattle.std.proofs.lemmas.Bool.{cases_Bool, eqb-false, eqb-true, ne_eqb}
use Rattle.std.proofs.lemmas.Option.{same_Some}
use Rattle.dc_base.specs.Nodes.{is_mcg, is_mm, is_same_node, is_secondary}
use Rattle.dc_base.specs.Records.{item_id}
use Rattle.dc_base.specs.declared.events.Event.{Event}
use Rattle.dc_base.specs.declared.events.Event.TheVariants as event
use Rattle.dc_base.specs.declared.nodes.KeyName.{KeyName}
use Rattle.dc_base.specs.declared.nodes.Node.{Node}
use Rattle.dc_base.specs.declared.nodes.Node.TheVariants.{A, B, M, T}
use Rattle.dc_base.specs.declared.nodes.Shape.{Shape}
use Rattle.dc_base.specs.declared.records.Item.{Item}
use Rattle.dc_base.specs.declared.records.Item.TheVariants as item
use Rattle.dc_base.specs.declared.records.Plan.{Plan}
use Rattle.transcript.proofs.OnEach.{each_append}
use Rattle.node_rules.specs.CommandTable.{Table, row, rows_after}
use Rattle.node_rules.specs.Drafts.{Draft, asking, asking_for, draft, next_second, next_second_key, set_to, shape_of, shared_rows}
use Rattle.node_rules.specs.MasterGo.{moving_by, moving_of}
use Rattle.node_rules.specs.Places.{anchor_at, is_at, mm, node_or_master, other_second}
use Rattle.node_rules.specs.declared.commands.First.{First}
use Rattle.node_rules.specs.declared.commands.First.TheVariants.{Addition as addition, Modification as modification, Release as release}
use Rattle.node_rules.specs.declared.commands.Row.{Row}
use Rattle.master_runs.proofs.Holding.{row-other, row-same}
use Rattle.run_control.specs.Sound.{IsSecond}
use Rattle.run_control.proofs.Sent.{either}
use Rattle.run_control.proofs.Sound.{other_is}
use Rattle.run_control.proofs.Turns.{never}
use Rattle.run_control.specs.Books.{RowsFrom}
use Rattle.run_pairs.proofs.DraftBearers.{draft_of_table}
use Rattle.run_pairs.specs.Bearers.{IsAtMaster, IsOfTable}
use Rattle.run_pairs.specs.Apt.{ArePlaced, IsAskedAs, IsPlaced, IsPlacedRow}

-- ---- an anchor

node_placed : (sec : Option Node) → IsPlaced sec (node_or_master sec)
node_placed None = tt
node_placed (Some T) = tt
node_placed (Some M) = tt
node_placed (Some A) = refl
node_placed (Some B) = refl

anchor_placed : (sec : Option Node) (shape : Shape) → IsPlaced sec (anchor_at sec shape)
anchor_placed sec shape = either (IsPlaced sec) shape.at_second (node_or_master sec) M (node_placed sec) tt

anchor_here : (sec : Option Node) (shape : Shape) → is_mm shape ≡ true → anchor_at sec shape ≡ M
anchor_here sec shape alone = by shape.at_second (is_mcg shape.legs) alone
  where
    by : (b d : Bool) → (not b && d) ≡ true → (if b then node_or_master sec else M) ≡ M
    by true d no' = absurd cc
    by false d is = refl

-- where there is no secondary node, every anchor is at the master
alone_placed : (sec : Option Node) (x : Node) → IsPlaced None x → IsPlaced sec x
alone_placed sec T is = tt
alone_placed sec M is = tt
alone_placed sec A is = absurd cc
alone_placed sec B is = absurd cc

alone_row : (sec : Option Node) (o : Option Row) → IsPlacedRow None o → IsPlacedRow sec o
alone_row sec None is = tt
alone_row sec (Some r) is = (alone_placed sec r.anchor is.0, is.1)

-- ---- an item

pub gone_row : (id : ℕ) (rows : List Row) (k : ℕ) → find (λ (r : Row). r.id == k) (filter (λ (r : Row). not (r.id == id)) rows) ≡ (if id == k then None else find (λ (r : Row). r.id == k) rows)
gone_row id [] k = elim (cases_Bool (id == k)) [ inl here ↦ rw here refl | inr apart ↦ rw apart refl ]
gone_row id (x ∷ xs) k =
    elim (cases_Bool (x.id == id)) [
      | inl gone ↦ rw gone (
          gone_row id xs k ∙ elim (cases_Bool (id == k)) [
            | inl here ↦ rw here refl
            | inr apart ↦ let other : (x.id == k) ≡ false = ap (λ n. n == k) (eqb-true x.id id gone) ∙ apart in rw (apart, other) refl
          ])
      | inr stays ↦ rw stays (
          elim (cases_Bool (x.id == k)) [
            | inl here ↦ let other : (id == k) ≡ false = ne_eqb id k (λ e. eqb-false x.id id stays (eqb-true x.id k here ∙ sym e)) in rw (here, other) refl
            | inr apart ↦ rw apart (gone_row id xs k)
          ])
    ]

module _ (t : Table) (g : ℕ) (sec : Option Node) where
  -- the bearer that it sets or drops
  item_here : (rows : List Row) (i : Item) (k : ℕ) → (item_id i == k) ≡ true → IsPlacedRow sec (find (λ (r : Row). r.id == k) (rows_after t g sec rows i))
  item_here rows (item.Set id n first shape threshold policy key old) k here =
      subst (λ j. IsPlacedRow sec (find (λ (r : Row). r.id == j) (rows_after t g sec rows (item.Set id n first shape threshold policy key old)))) (eqb-true id k here)
      (subst (IsPlacedRow sec) (sym (row-same _ rows)) (anchor_placed sec shape, anchor_here sec shape))
  item_here rows (item.Unset id) k here = subst (IsPlacedRow sec) (sym (gone_row id rows k ∙ ap (λ b. if b then None else find (λ (r : Row). r.id == k) rows) here)) tt

  -- any other one
  pub item_apart : (rows : List Row) (i : Item) (k : ℕ) → (item_id i == k) ≡ false → find (λ (r : Row). r.id == k) (rows_after t g sec rows i) ≡ find (λ (r : Row). r.id == k) rows
  item_apart rows (item.Set id n first shape threshold policy key old) k apart = row-other _ k rows apart
  item_apart rows (item.Unset id) k apart = gone_row id rows k ∙ ap (λ b. if b then None else find (λ (r : Row). r.id == k) rows) apart

  -- several: a bearer that none of them names was placed before
  pub items_placed : (items : List Item) (rows : List Row) (k : ℕ) → (list_any (λ i. item_id i == k) items ≡ false → IsPlacedRow sec (find (λ (r : Row). r.id == k) rows))
      → IsPlacedRow sec (find (λ (r : Row). r.id == k) (fold (rows_after t g sec) rows items))
  items_placed [] rows k so = so refl
  items_placed (i ∷ items) rows k so = items_placed items (rows_after t g sec rows i) k (by (item_id i == k) refl)
    where
      by : (b : Bool) → (item_id i == k) ≡ b → list_any (λ i. item_id i == k) items ≡ false → IsPlacedRow sec (find (λ (r : Row). r.id == k) (rows_after t g sec rows i))
      by true here none = item_here rows i k here
      by false apart none = subst (IsPlacedRow sec) (sym (item_apart rows i k apart)) (so (ap (λ b. b || list_any (λ i. item_id i == k) items) apart ∙ none))

-- ---- plans

-- with the same secondary node
same_placed : (t : Table) (g : ℕ) (sec : Option Node) (rows : List Row) (items : List Item) → ArePlaced sec rows → ArePlaced sec (fold (rows_after t g sec) rows items)
same_placed t g sec rows items placed k = items_placed t g sec items rows k (λ none. placed k)

-- with the first one
added_placed : (t : Table) (g : ℕ) (sec : Option Node) (rows : List Row) (items : List Item) → ArePlaced None rows → ArePlaced sec (fold (rows_after t g sec) rows items)
added_placed t g sec rows items placed k = items_placed t g sec items rows k (λ none. alone_row sec (find (λ (r : Row). r.id == k) rows) (placed k))

-- a bearer that the secondary node has a part in is named
shared_named : (root : ℕ) (key : KeyName) (shape : Row → Shape) (rows : List Row) (k : ℕ) (r : Row) → find (λ (y : Row). y.id == k) rows ≡ Some r → is_mm r.shape ≡ false
    → list_any (λ i. item_id i == k) (map (set_to root key shape) (filter (λ (y : Row). not (is_mm y.shape)) rows)) ≡ true
shared_named root key shape [] k r at shared = absurd cc
shared_named root key shape (x ∷ xs) k r at shared = by (x.id == k) refl at (is_mm x.shape) refl (λ later. shared_named root key shape xs k r later shared)
  where
    named : List Row → Bool
    named rows = list_any (λ i. item_id i == k) (map (set_to root key shape) (filter (λ (y : Row). not (is_mm y.shape)) rows))

    by : (b : Bool) → (x.id == k) ≡ b → (if b then Some x else find (λ (y : Row). y.id == k) xs) ≡ Some r → (d : Bool) → is_mm x.shape ≡ d
        → (find (λ (y : Row). y.id == k) xs ≡ Some r → list_any (λ i. item_id i == k) (map (set_to root key shape) (filter (λ (y : Row). not (is_mm y.shape)) xs)) ≡ true)
        → list_any (λ i. item_id i == k) (map (set_to root key shape) (if not d then x ∷ filter (λ (y : Row). not (is_mm y.shape)) xs else filter (λ (y : Row). not (is_mm y.shape)) xs)) ≡ true
    by true here is true alone more = never (is_mm x.shape) alone (ap (λ (y : Row). is_mm y.shape) (same_Some x r is) ∙ shared)
    by true here is false joint more = ap (λ b. b || list_any (λ i. item_id i == k) (map (set_to root key shape) (filter (λ (y : Row). not (is_mm y.shape)) xs))) here
    by false apart is true alone more = more is
    by false apart is false joint more = ap (λ b. b || list_any (λ i. item_id i == k) (map (set_to root key shape) (filter (λ (y : Row). not (is_mm y.shape)) xs))) apart ∙ more is

-- away from a secondary node
moved_placed : (t : Table) (g : ℕ) (before after : Option Node) (root : ℕ) (key : KeyName) (shape : Row → Shape) (rows : List Row) → ArePlaced before rows
    → ArePlaced after (fold (rows_after t g after) rows (map (set_to root key shape) (filter (λ (y : Row). not (is_mm y.shape)) rows)))
moved_placed t g before after root key shape rows placed k =
    items_placed t g after (map (set_to root key shape) (filter (λ (y : Row). not (is_mm y.shape)) rows)) rows k (λ none. by none (find (λ (r : Row). r.id == k) rows) refl (placed k))
  where
    by : list_any (λ i. item_id i == k) (map (set_to root key shape) (filter (λ (y : Row). not (is_mm y.shape)) rows)) ≡ false
        → (o : Option Row) → find (λ (r : Row). r.id == k) rows ≡ o → IsPlacedRow before o → IsPlacedRow after o
    by none None at is = tt
    by none (Some r) at is = one (is_mm r.shape) refl
      where
        one : (b : Bool) → is_mm r.shape ≡ b → IsPlacedRow after (Some r)
        one true alone = (subst (IsPlaced after) (sym (is.1 alone)) tt, is.1)
        one false joint = never (list_any (λ i. item_id i == k) (map (set_to root key shape) (filter (λ (y : Row). not (is_mm y.shape)) rows))) (shared_named root key shape rows k r at joint) none

-- the new anchors of the bearers that a plan moves
moving_item : (sec : Option Node) (i : Item) → AllByRecursion (λ (x : ℕ × Node). IsPlaced sec x.1) (moving_of sec i)
moving_item sec (item.Set id n first shape threshold policy key None) = tt
moving_item sec (item.Set id n first shape threshold policy key (Some old)) =
    either (AllByRecursion (λ (x : ℕ × Node). IsPlaced sec x.1)) (is_same_node old (anchor_at sec shape)) [] ((id, anchor_at sec shape) ∷ []) tt (anchor_placed sec shape, tt)
moving_item sec (item.Unset id) = tt

moving_items : (sec : Option Node) (items : List Item) → AllByRecursion (λ (x : ℕ × Node). IsPlaced sec x.1) (flat_map (moving_of sec) items)
moving_items sec [] = tt
moving_items sec (i ∷ items) = each_append (λ (x : ℕ × Node). IsPlaced sec x.1) (moving_of sec i) (flat_map (moving_of sec) items) (moving_item sec i) (moving_items sec items)

pub moving_placed : (p : Plan) → AllByRecursion (λ (x : ℕ × Node). IsPlaced p.sec x.1) (moving_by p)
moving_placed p = moving_items p.sec p.items

-- ---- drafts

-- whom it asks, if anyone
abbrev pub IsStart : Bool → Option (First × Node) → Option Node → Option Node → Type 0
IsStart wanted None after before = after ≡ before
IsStart wanted (Some (first, who)) after before = IsAskedAs first who wanted after before

-- a draft that the master may begin
pub record IsAptDraft (t : Table) (wanted : Bool) (d : Draft) : Type 0 where
  pub fresh : d.change.plan.g ≡ t.last + 1
  pub second : IsSecond d.change.plan.sec
  pub start : IsStart wanted d.first d.change.plan.sec t.sec
  pub items : IsOfTable t.rows d.change.plan.items
  pub alone : d.first ≡ None → AllByRecursion (IsAtMaster d.change.plan.sec) d.change.plan.items
  pub rows : (u : Table) → ArePlaced d.change.plan.sec (fold (rows_after u d.change.plan.g d.change.plan.sec) t.rows d.change.plan.items)

-- if there is one
abbrev pub AptDraft : Table → Bool → Option Draft → Type 0
AptDraft t wanted None = ⊤
AptDraft t wanted (Some d) = IsAptDraft t wanted d

-- the secondary node is asked, if there is one
asks_modification : (wanted : Bool) (sec : Option Node) → IsStart wanted (asking modification sec) sec sec
asks_modification wanted None = refl
asks_modification wanted (Some x) = (refl, refl)

asks_for : (wanted : Bool) (s : Shape) (sec : Option Node) → IsStart wanted (asking_for s sec) sec sec
asks_for wanted s sec = either (λ o. IsStart wanted o sec sec) (is_mm s) None (asking modification sec) refl (asks_modification wanted sec)

asks_release : (wanted : Bool) (sec : Option Node) → IsStart wanted (asking release sec) None sec
asks_release wanted None = refl
asks_release wanted (Some x) = (refl, refl)

pub other_apart : (x : Node) → is_same_node (other_second x) x ≡ false
other_apart T = refl
other_apart M = refl
other_apart A = refl
other_apart B = refl

pub other_twice : (x : Node) → is_secondary x ≡ true → other_second (other_second x) ≡ x
other_twice T is = absurd cc
other_twice M is = absurd cc
other_twice A is = refl
other_twice B is = refl

asks_change : (wanted : Bool) (sec : Option Node) → IsSecond sec → IsStart wanted (asking addition (next_second sec)) (next_second sec) sec
asks_change wanted None is = refl
asks_change wanted (Some x) is = (refl, other_is x, other_apart x, λ w. ap (λ y. Some y) (sym (other_twice x is)))

change_second : (sec : Option Node) → IsSecond (next_second sec)
change_second None = tt
change_second (Some x) = other_is x

change_placed : (t u : Table) (g root : ℕ) (key : KeyName) → ArePlaced t.sec t.rows
    → ArePlaced (next_second t.sec) (fold (rows_after u g (next_second t.sec)) t.rows (map (set_to root key (λ r. r.shape)) (shared_rows t)))
change_placed t u g root key placed = moved_placed u g t.sec (next_second t.sec) root key (λ r. r.shape) t.rows placed

-- a command that another one may begin with: only an addition wants that there is no secondary node
abbrev pub MayBegin : Table → Bool → Event → Type 0
MayBegin t wanted (event.Add node) = (wanted ≡ false) × (t.sec ≡ None) × (is_secondary node ≡ true)
MayBegin t wanted _ = ⊤

no_wanted : {X : Type 0} (wanted : Bool) → wanted ≡ false → wanted ≡ true → X
no_wanted wanted no' yes' = never wanted yes' no'

-- a draft that asks nobody sets its bearers at the master
asks_none : (f : First) (o : Option Node) → asking f o ≡ None → o ≡ None
asks_none f None none = refl
asks_none f (Some x) none = absurd cc

none_items : (items : List Item) → AllByRecursion (IsAtMaster None) items
none_items [] = tt
none_items (item.Set id n first shape threshold policy key old ∷ items) = (either (λ y. y ≡ M) shape.at_second M M refl refl, none_items items)
none_items (item.Unset id ∷ items) = (tt, none_items items)

sec_items : (sec : Option Node) → sec ≡ None → (items : List Item) → AllByRecursion (IsAtMaster sec) items
sec_items sec none items = subst (λ s. AllByRecursion (IsAtMaster s) items) (sym none) (none_items items)

bearer_alone : (shape : Shape) (sec : Option Node) → asking_for shape sec ≡ None → anchor_at sec shape ≡ M
bearer_alone shape sec none = by (is_mm shape) refl none
  where
    by : (b : Bool) → is_mm shape ≡ b → (if b then None else asking modification sec) ≡ None → anchor_at sec shape ≡ M
    by true alone none = anchor_here sec shape alone
    by false joint none = subst (λ s. anchor_at s shape ≡ M) (sym (asks_none modification sec none)) (either (λ y. y ≡ M) shape.at_second M M refl refl)

-- a plan with the same secondary node
kept_draft : (t : Table) (wanted : Bool) (d : Draft) → IsSecond t.sec → ArePlaced t.sec t.rows → IsOfTable t.rows d.change.plan.items → (d.first ≡ None → AllByRecursion (IsAtMaster t.sec) d.change.plan.items) → d.change.plan.g ≡ t.last + 1 → d.change.plan.sec ≡ t.sec → IsStart wanted d.first t.sec t.sec → IsAptDraft t wanted d
kept_draft t wanted d second placed items alone fresh same start = record {
  items = items;
  alone = λ none. subst (λ s. AllByRecursion (IsAtMaster s) d.change.plan.items) (sym same) (alone none);
  fresh = fresh;
  second = subst IsSecond (sym same) second;
  start = subst (λ s. IsStart wanted d.first s t.sec) (sym same) start;
  rows = λ u. same_placed u d.change.plan.g d.change.plan.sec t.rows d.change.plan.items (subst (λ s. ArePlaced s t.rows) (sym same) placed);
}

pub apt_draft : (t : Table) (wanted : Bool) (e : Event) → IsSecond t.sec → ArePlaced t.sec t.rows → RowsFrom 0 t.rows → MayBegin t wanted e → AptDraft t wanted (draft t e)
apt_draft t wanted (event.Bearer id n first shape threshold policy) second placed up may = kept_draft t wanted _ second placed (draft_of_table t (event.Bearer id n first shape threshold policy) up) (λ none. (bearer_alone shape t.sec none, tt)) refl refl (asks_for wanted shape t.sec)
apt_draft t wanted (event.Reshape id shape) second placed up may = kept_draft t wanted _ second placed (draft_of_table t (event.Reshape id shape) up) (λ none. sec_items t.sec (asks_none modification t.sec none) _) refl refl (asks_modification wanted t.sec)
apt_draft t wanted (event.Remove id) second placed up may = kept_draft t wanted _ second placed (draft_of_table t (event.Remove id) up) (λ none. (tt, tt)) refl refl (asks_for wanted (shape_of (row t id)) t.sec)
apt_draft t wanted (event.Add node) second placed up may = record {
  items = draft_of_table t (event.Add node) up;
  alone = λ none. tt;
  fresh = refl;
  second = may.2;
  start = (refl, may.2, ap (is_at node) may.1, no_wanted wanted may.0);
  rows = λ u. added_placed u (t.last + 1) (Some node) t.rows [] (subst (λ s. ArePlaced s t.rows) may.1 placed);
}
apt_draft t wanted event.Change second placed up may = record {
  items = draft_of_table t event.Change up;
  alone = λ none. sec_items (next_second t.sec) (asks_none addition (next_second t.sec) none) _;
  fresh = refl;
  second = change_second t.sec;
  start = asks_change wanted t.sec second;
  rows = λ u. change_placed t u (t.last + 1) t.book.current (next_second_key t) placed;
}
apt_draft t wanted event.Release second placed up may = record { fresh = refl; second = tt; items = draft_of_table t event.Release up; alone = λ none. none_items _; start = asks_release wanted t.sec; rows = λ u. moved_placed u (t.last + 1) t.sec None t.book.current t.second_key (λ r. mm) t.rows placed }
apt_draft t wanted event.RekeySecond second placed up may = kept_draft t wanted _ second placed (draft_of_table t event.RekeySecond up) (λ none. sec_items t.sec (asks_none modification t.sec none) _) refl refl (asks_modification wanted t.sec)
apt_draft t wanted (event.RekeyMaster root) second placed up may = kept_draft t wanted _ second placed (draft_of_table t (event.RekeyMaster root) up) (λ none. sec_items t.sec (asks_none modification t.sec none) _) refl refl (asks_modification wanted t.sec)
apt_draft t wanted (event.Recover id) second placed up may = tt
apt_draft t wanted (event.Report node id) second placed up may = tt
apt_draft t wanted (event.Deny node on) second placed up may = tt
apt_draft t wanted (event.Ask node what) second placed up may = tt
apt_draft t wanted event.ScgFail second placed up may = tt
apt_draft t wanted (event.Submit id d payload) second placed up may = tt
apt_draft t wanted (event.Step l i) second placed up may = tt
apt_draft t wanted (event.Lose l i) second placed up may = tt
apt_draft t wanted (event.Again l i) second placed up may = tt
