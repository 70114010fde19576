-- The items of a draft are of rows of the table, each of its own identity; and what is of rows fits a secondary node that holds them.
use Rattle.std.proofs.Common.{ℕ, ◌≡◌, ◌<◌, ◌≤◌, ◌+◌, ◌==◌, Bool, true, false, List, [], ◌∷◌, Option, Some, None, length, refl, sym, ap, subst, ◌∙◌, arith}
use Rattle.std.specs.Prelude.{filter, find, if◌then◌else◌, map, not, ⊤, ◌&&◌, ◌||◌}
use Rattle.std.specs.List.{AllByRecursion, list_any}
use Rattle.std.proofs.lemmas.Bool.{eq-eqb, ne_eqb}
use Rattle.dc_base.specs.Nodes.{is_mm, is_same_node}
use Rattle.dc_base.specs.Records.{item_id}
use Rattle.dc_base.specs.declared.events.Event.{Event}
use Rattle.dc_base.specs.declared.events.Event.TheVariants as event
use Rattle.dc_base.specs.declared.nodes.KeyName.{KeyName}
use Rattle.dc_base.specs.declared.nodes.Node.{Node}
use Rattle.dc_base.specs.declared.nodes.Shape.{Shape}
use Rattle.dc_base.specs.declared.numbers.SnLen.{SnLen}
use Rattle.dc_base.specs.declared.records.Item.{Item}
use Rattle.dc_base.specs.declared.records.Item.TheVariants as item
use Rattle.dc_base.specs.declared.records.Plan.{Plan}
use Rattle.node_rules.specs.CommandTable.{Table, second_key_of}
use Rattle.node_rules.specs.Drafts.{Draft, draft, next_second_key, set_to}
use Rattle.node_rules.specs.Places.{mm}
use Rattle.node_rules.specs.declared.commands.Row.{Row}
use Rattle.run_control.specs.Books.{RowsFrom}
use Rattle.run_control.specs.SecondControl.{Views, fits_plan, holds_like, misses}
use Rattle.run_control.specs.Views.{View}
use Rattle.run_pairs.specs.Bearers.{AreApart, AreHeld, IsHeldAt, IsOfRow, IsOfTable, IsRowOf}
use Rattle.run_pairs.proofs.FitLines.{both_held}
use Rattle.run_pairs.proofs.Replies.{node_itself, same_node}

-- ---- rows by ascending identities

-- a row that stands among these is found there
abbrev AreFound : List Row → ℕ → List Row → Type 0
AreFound rows lo qs = AllByRecursion (λ (r : Row). (find (λ (y : Row). y.id == r.id) rows ≡ Some r) × (lo ≤ r.id)) qs

later_found : (x r : Row) (xs : List Row) → x.id < r.id → find (λ (y : Row). y.id == r.id) xs ≡ Some r → find (λ (y : Row). y.id == r.id) (x ∷ xs) ≡ Some r
later_found x r xs lt is = ap (λ b. if b then Some x else find (λ (y : Row). y.id == r.id) xs) (ne_eqb x.id r.id (λ e. omega (arith, lt, e))) ∙ is

widen : (lo : ℕ) (x : Row) (xs qs : List Row) → lo ≤ x.id → AreFound xs (x.id + 1) qs → AreFound (x ∷ xs) lo qs
widen lo x xs [] le all = tt
widen lo x xs (q ∷ qs) le all = ((later_found x q xs (omega (arith, all.0.1)) all.0.0, omega (arith, le, all.0.1)), widen lo x xs qs le all.1)

all_found : (lo : ℕ) (rows : List Row) → RowsFrom lo rows → AreFound rows lo rows
all_found lo [] up = tt
all_found lo (x ∷ xs) up =
    ((ap (λ b. if b then Some x else find (λ (y : Row). y.id == x.id) xs) (eq-eqb x.id x.id refl), up.0), widen lo x xs xs up.0 (all_found (x.id + 1) xs up.1))

some_found : (test : Row → Bool) (rows : List Row) (lo : ℕ) (qs : List Row) → AreFound rows lo qs → AreFound rows lo (filter test qs)
some_found test rows lo [] all = tt
some_found test rows lo (q ∷ qs) all = by (test q) all.0 (some_found test rows lo qs all.1)
  where
    by : (b : Bool) → (find (λ (y : Row). y.id == q.id) rows ≡ Some q) × (lo ≤ q.id) → AreFound rows lo (filter test qs) → AreFound rows lo (if b then q ∷ filter test qs else filter test qs)
    by true this rest = (this, rest)
    by false this rest = rest

-- ---- the items that set rows

set_olds : (root : ℕ) (key : KeyName) (shape : Row → Shape) (rows : List Row) (lo : ℕ) (qs : List Row) → AreFound rows lo qs → AllByRecursion (IsOfRow rows) (map (set_to root key shape) qs)
set_olds root key shape rows lo [] all = tt
set_olds root key shape rows lo (q ∷ qs) all = (subst (IsRowOf q.anchor q.n q.first) (sym all.0.0) (refl, refl, refl), set_olds root key shape rows lo qs all.1)

-- none is of a lower identity
none_lower : (root : ℕ) (key : KeyName) (shape : Row → Shape) (test : Row → Bool) (id lo : ℕ) (rows : List Row) → id < lo → RowsFrom lo rows → list_any (λ j. item_id j == id) (map (set_to root key shape) (filter test rows)) ≡ false
none_lower root key shape test id lo [] lt up = refl
none_lower root key shape test id lo (x ∷ xs) lt up = by (test x) (none_lower root key shape test id (x.id + 1) xs (omega (arith, lt, up.0)) up.1)
  where
    by : (b : Bool) → list_any (λ j. item_id j == id) (map (set_to root key shape) (filter test xs)) ≡ false → list_any (λ j. item_id j == id) (map (set_to root key shape) (if b then x ∷ filter test xs else filter test xs)) ≡ false
    by true rest = ap (λ b. b || list_any (λ j. item_id j == id) (map (set_to root key shape) (filter test xs))) (ne_eqb x.id id (λ e. omega (arith, e, lt, up.0))) ∙ rest
    by false rest = rest

set_apart : (root : ℕ) (key : KeyName) (shape : Row → Shape) (test : Row → Bool) (lo : ℕ) (rows : List Row) → RowsFrom lo rows → AreApart (map (set_to root key shape) (filter test rows))
set_apart root key shape test lo [] up = tt
set_apart root key shape test lo (x ∷ xs) up = by (test x) (set_apart root key shape test (x.id + 1) xs up.1)
  where
    by : (b : Bool) → AreApart (map (set_to root key shape) (filter test xs)) → AreApart (map (set_to root key shape) (if b then x ∷ filter test xs else filter test xs))
    by true rest = (none_lower root key shape test x.id (x.id + 1) xs (omega arith) up.1, rest)
    by false rest = rest

-- some of the rows
pub some_of_table : (root : ℕ) (key : KeyName) (shape : Row → Shape) (test : Row → Bool) (rows : List Row) → RowsFrom 0 rows → IsOfTable rows (map (set_to root key shape) (filter test rows))
some_of_table root key shape test rows up = record {
  olds = set_olds root key shape rows 0 (filter test rows) (some_found test rows 0 rows (all_found 0 rows up));
  apart = set_apart root key shape test 0 rows up;
}

-- all of them
every : (rows : List Row) → filter (λ (r : Row). true) rows ≡ rows
every [] = refl
every (x ∷ xs) = ap (λ rs. x ∷ rs) (every xs)

all_of_table : (root : ℕ) (key : KeyName) (shape : Row → Shape) (rows : List Row) → RowsFrom 0 rows → IsOfTable rows (map (set_to root key shape) rows)
all_of_table root key shape rows up = subst (λ qs. IsOfTable rows (map (set_to root key shape) qs)) (every rows) (some_of_table root key shape (λ r. true) rows up)

one_of_table : (rows : List Row) (i : Item) → IsOfRow rows i → IsOfTable rows (i ∷ [])
one_of_table rows i is = record { olds = (is, tt); apart = (refl, tt) }

-- ---- a draft

-- if there is one
abbrev pub OfTable : List Row → Option Draft → Type 0
OfTable rows None = ⊤
OfTable rows (Some d) = IsOfTable rows d.change.plan.items

pub draft_of_table : (t : Table) (e : Event) → RowsFrom 0 t.rows → OfTable t.rows (draft t e)
draft_of_table t (event.Bearer id n first shape threshold policy) up = one_of_table t.rows _ tt
draft_of_table t (event.Reshape id shape) up = some_of_table t.book.current t.second_key (λ r. shape) (λ r. r.id == id) t.rows up
draft_of_table t (event.Remove id) up = one_of_table t.rows (item.Unset id) tt
draft_of_table t (event.Add node) up = record { olds = tt; apart = tt }
draft_of_table t event.Change up = some_of_table t.book.current (next_second_key t) (λ r. r.shape) (λ r. not (is_mm r.shape)) t.rows up
draft_of_table t event.Release up = some_of_table t.book.current t.second_key (λ r. mm) (λ r. not (is_mm r.shape)) t.rows up
draft_of_table t event.RekeySecond up = some_of_table t.book.current (next_second_key t) (λ r. r.shape) (λ r. r.shape.at_second) t.rows up
draft_of_table t (event.RekeyMaster root) up = all_of_table (length t.book.roots) (second_key_of (length t.book.roots) 0) (λ r. r.shape) t.rows up
draft_of_table t (event.Recover id) up = tt
draft_of_table t (event.Report node id) up = tt
draft_of_table t (event.Deny node on) up = tt
draft_of_table t (event.Ask node what) up = tt
draft_of_table t event.ScgFail up = tt
draft_of_table t (event.Submit id d payload) up = tt
draft_of_table t (event.Step l i) up = tt
draft_of_table t (event.Lose l i) up = tt
draft_of_table t (event.Again l i) up = tt

-- ---- it fits

module _ (x : Node) (views : Views) (rows : List Row) (held : AreHeld x views [] rows) where
  row_held : (old : Node) (n : SnLen) (first : ℕ) (v : Option View) (o : Option Row) → IsHeldAt x v false o → IsRowOf old n first o → is_same_node old x ≡ true → holds_like n first v ≡ true
  row_held old n first v None at is mine = absurd is
  row_held old n first v (Some r) at is mine =
      let here : is_same_node x r.anchor ≡ true = subst (λ z. is_same_node x z ≡ true) (sym (same_node old x mine) ∙ sym is.0) (node_itself x) in
      let both = at here in
      subst (λ m. holds_like m first v ≡ true) is.1 (subst (λ f. holds_like r.n f v ≡ true) is.2 (both_held r.n r.first v both.0 (both.1 refl)))

  item_fits : (i : Item) → IsOfRow rows i → misses x views i ≡ false
  item_fits (item.Set id n first shape threshold policy key None) is = refl
  item_fits (item.Set id n first shape threshold policy key (Some old)) is = by (is_same_node old x) refl
    where
      by : (b : Bool) → is_same_node old x ≡ b → (b && not (holds_like n first (views id))) ≡ false
      by true mine = ap not (row_held old n first (views id) (find (λ (r : Row). r.id == id) rows) (held id) is mine)
      by false other = refl
  item_fits (item.Unset id) is = refl

  items_fit : (items : List Item) → AllByRecursion (IsOfRow rows) items → list_any (misses x views) items ≡ false
  items_fit [] all = refl
  items_fit (i ∷ items) all = ap (λ b. b || list_any (misses x views) items) (item_fits i all.0) ∙ items_fit items all.1

  -- a plan of the table's rows fits a node that holds them
  pub plan_fits : (p : Plan) → AllByRecursion (IsOfRow rows) p.items → fits_plan x views (Some p) ≡ true
  plan_fits p all = ap not (items_fit p.items all)
