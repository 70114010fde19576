-- The rows of the command table after a plan; and that the plans of commands fit them.
use Rattle.std.proofs.Common.{ℕ, ◌≡◌, ◌<◌, ◌≤◌, ◌+◌, ◌==◌, Bool, true, false, List, [], ◌∷◌, Option, Some, None, refl, sym, ap, subst, ◌∙◌, arith, inl, inr}
use Rattle.std.specs.Prelude.{filter, find, fold, if◌then◌else◌, is_none, is_some, map, nat_lt, not, ◌&&◌}
use Rattle.std.specs.List.{AllByRecursion}
use Rattle.std.proofs.lemmas.Bool.{cases_Bool, cases_order, eq-eqb, eqb-false, eqb-true, ne_eqb}
use Rattle.std.proofs.lemmas.Bool.Decides.{nat_tests}
use Rattle.dc_base.specs.Count.{bits}
use Rattle.dc_base.specs.Records.{item_id}
use Rattle.dc_base.specs.declared.nodes.Node.{Node}
use Rattle.dc_base.specs.declared.nodes.Shape.{Shape}
use Rattle.dc_base.specs.declared.records.Item.{Item}
use Rattle.dc_base.specs.declared.records.Item.TheVariants as item
use Rattle.dc_base.specs.declared.nodes.KeyName.{KeyName}
use Rattle.node_rules.specs.CommandTable.{Table, rows_after, with_row}
use Rattle.node_rules.specs.Drafts.{set_to}
use Rattle.node_rules.specs.declared.commands.Row.{Row}
use Rattle.master_runs.proofs.Holding.{row-other, row-same}
use Rattle.run_control.specs.Books.{Fit, Have, RowsFrom, has_like, have_after, have_with, item_fits, item_has, row_has, rows_have}

-- ---- what the rows have

-- a row in its place
with_row_has : (r : Row) (rows : List Row) (k : ℕ) → rows_have (with_row r rows) k ≡ (if r.id == k then Some (bits r.n, r.first) else rows_have rows k)
with_row_has r rows k =
    elim (cases_Bool (r.id == k)) [
      | inl here ↦ rw here (subst (λ j. rows_have (with_row r rows) j ≡ Some (bits r.n, r.first)) (eqb-true r.id k here) (ap row_has (row-same r rows)))
      | inr apart ↦ rw apart (ap row_has (row-other r k rows apart))
    ]

-- a row gone
without_row_has : (id : ℕ) (rows : List Row) (k : ℕ) → rows_have (filter (λ (r : Row). not (r.id == id)) rows) k ≡ (if id == k then None else rows_have rows k)
without_row_has id [] k = elim (cases_Bool (id == k)) [ inl here ↦ rw here refl | inr apart ↦ rw apart refl ]
without_row_has id (x ∷ xs) k =
    elim (cases_Bool (x.id == id)) [
      | inl gone ↦ rw gone (
          without_row_has id xs k ∙ elim (cases_Bool (id == k)) [
            | inl here ↦ rw here refl
            | inr apart ↦ let other : (x.id == k) ≡ false = ap (λ n. n == k) (eqb-true x.id id gone) ∙ apart in rw (apart, other) refl
          ])
      | inr stays ↦ rw stays (
          elim (cases_Bool (x.id == k)) [
            | inl here ↦ let other : (id == k) ≡ false = ne_eqb id k (λ e. eqb-false x.id id stays (eqb-true x.id k here ∙ sym e)) in rw (here, other) refl
            | inr apart ↦ rw apart (without_row_has id xs k)
          ])
    ]

-- after an item
item_rows : (t : Table) (g : ℕ) (sec : Option Node) (rows : List Row) (i : Item) (k : ℕ) → rows_have (rows_after t g sec rows i) k ≡ have_with i (rows_have rows) k
item_rows t g sec rows (item.Set id n first shape threshold policy key old) k = with_row_has _ rows k
item_rows t g sec rows (item.Unset id) k = without_row_has id rows k

-- what is alike stays so
have_alike : (items : List Item) (v w : Have) → ((k : ℕ) → v k ≡ w k) → (k : ℕ) → have_after items v k ≡ have_after items w k
have_alike [] v w same = same
have_alike (i ∷ items) v w same = have_alike items (have_with i v) (have_with i w) (λ k. ap (λ z. if item_id i == k then item_has i else z) (same k))

-- after a plan
pub plan_rows : (t : Table) (g : ℕ) (sec : Option Node) (items : List Item) (rows : List Row) (k : ℕ) → rows_have (fold (rows_after t g sec) rows items) k ≡ have_after items (rows_have rows) k
plan_rows t g sec [] rows k = refl
plan_rows t g sec (i ∷ items) rows k =
    plan_rows t g sec items (rows_after t g sec rows i) k ∙ have_alike items (rows_have (rows_after t g sec rows i)) (have_with i (rows_have rows)) (λ j. item_rows t g sec rows i j) k

pub after_alike : (items : List Item) (v w : Have) → ((k : ℕ) → v k ≡ w k) → (k : ℕ) → have_after items v k ≡ have_after items w k
after_alike items v w same k = have_alike items v w same k

-- ---- they ascend

lower : (lo hi : ℕ) (rows : List Row) → lo ≤ hi → RowsFrom hi rows → RowsFrom lo rows
lower lo hi [] le up = tt
lower lo hi (r ∷ rows) le up = (omega (arith, le, up.0), up.1)

row_put : (lo : ℕ) (r : Row) (rows : List Row) → lo ≤ r.id → RowsFrom lo rows → RowsFrom lo (with_row r rows)
row_put lo r [] le up = (le, tt)
row_put lo r (x ∷ xs) le up =
    elim (cases_Bool (x.id == r.id)) [
      | inl here ↦ rw here (le, subst (λ n. RowsFrom (n + 1) xs) (eqb-true x.id r.id here) up.1)
      | inr apart ↦
          let unlike = eqb-false x.id r.id apart in
          elim (cases_Bool (nat_lt r.id x.id)) [
            | inl before ↦ rw (apart, before) (le, (grind (arith, nat_tests, before), up.1))
            | inr after ↦ rw (apart, after) (up.0, row_put (x.id + 1) r xs (later x.id r.id after unlike) up.1)
          ]
    ]
  where
    later : (a b : ℕ) → nat_lt b a ≡ false → ((a ≡ b) → ⊥) → (a + 1) ≤ b
    later a b after unlike = elim (cases_order a b) [ inl same ↦ absurd (unlike same) | inr apart ↦ elim apart [ inl lt ↦ omega (arith, lt) | inr gt ↦ absurd (let yes' : nat_lt b a ≡ true = grind (arith, nat_tests, gt) in cc) ] ]

row_gone : (lo id : ℕ) (rows : List Row) → RowsFrom lo rows → RowsFrom lo (filter (λ (r : Row). not (r.id == id)) rows)
row_gone lo id [] up = tt
row_gone lo id (x ∷ xs) up =
    elim (cases_Bool (x.id == id)) [
      | inl here ↦ rw here (row_gone lo id xs (lower lo (x.id + 1) xs (omega (arith, up.0)) up.1))
      | inr apart ↦ rw apart (up.0, row_gone (x.id + 1) id xs up.1)
    ]

item_ascends : (t : Table) (g : ℕ) (sec : Option Node) (rows : List Row) (i : Item) → RowsFrom 0 rows → RowsFrom 0 (rows_after t g sec rows i)
item_ascends t g sec rows (item.Set id n first shape threshold policy key old) up = row_put 0 _ rows (omega arith) up
item_ascends t g sec rows (item.Unset id) up = row_gone 0 id rows up

pub plan_ascends : (t : Table) (g : ℕ) (sec : Option Node) (items : List Item) (rows : List Row) → RowsFrom 0 rows → RowsFrom 0 (fold (rows_after t g sec) rows items)
plan_ascends t g sec [] rows up = up
plan_ascends t g sec (i ∷ items) rows up = plan_ascends t g sec items (rows_after t g sec rows i) (item_ascends t g sec rows i up)

-- ---- what is set to a shape fits

front_row : (x : Row) (xs : List Row) → rows_have (x ∷ xs) x.id ≡ Some (bits x.n, x.first)
front_row x xs = ap (λ b. row_has (if b then Some x else find (λ (r : Row). r.id == x.id) xs)) (eq-eqb x.id x.id refl)

later_row : (lo : ℕ) (x r : Row) (xs : List Row) → x.id < r.id → rows_have xs r.id ≡ Some (bits r.n, r.first) → rows_have (x ∷ xs) r.id ≡ Some (bits r.n, r.first)
later_row lo x r xs lt is = ap (λ b. row_has (if b then Some x else find (λ (y : Row). y.id == r.id) xs)) (ne_eqb x.id r.id (λ e. omega (arith, lt, e))) ∙ is

-- each of the rows below is one of these
abbrev AreRowsOf : List Row → ℕ → List Row → Type 0
AreRowsOf rows lo qs = AllByRecursion (λ (r : Row). (rows_have rows r.id ≡ Some (bits r.n, r.first)) × (lo ≤ r.id)) qs

widen : (lo : ℕ) (x : Row) (xs qs : List Row) → lo ≤ x.id → AreRowsOf xs (x.id + 1) qs → AreRowsOf (x ∷ xs) lo qs
widen lo x xs [] le all = tt
widen lo x xs (q ∷ qs) le all = ((later_row lo x q xs (omega (arith, all.0.1)) all.0.0, omega (arith, le, all.0.1)), widen lo x xs qs le all.1)

all_rows : (lo : ℕ) (rows : List Row) → RowsFrom lo rows → AreRowsOf rows lo rows
all_rows lo [] up = tt
all_rows lo (x ∷ xs) up = ((front_row x xs, up.0), widen lo x xs xs up.0 (all_rows (x.id + 1) xs up.1))

some_rows : (test : Row → Bool) (rows : List Row) (lo : ℕ) (qs : List Row) → AreRowsOf rows lo qs → AreRowsOf rows lo (filter test qs)
some_rows test rows lo [] all = tt
some_rows test rows lo (q ∷ qs) all = by (test q) all.0 (some_rows test rows lo qs all.1)
  where
    by : (b : Bool) → (rows_have rows q.id ≡ Some (bits q.n, q.first)) × (lo ≤ q.id) → AreRowsOf rows lo (filter test qs) → AreRowsOf rows lo (if b then q ∷ filter test qs else filter test qs)
    by true this rest = (this, rest)
    by false this rest = rest

like_itself : (n first : ℕ) → has_like n first (Some (n, first)) ≡ true
like_itself n first = ap (λ b. b && (first == first)) (eq-eqb n n refl) ∙ eq-eqb first first refl

set_fits : (root : ℕ) (second_key : KeyName) (shape : Row → Shape) (rows : List Row) (lo : ℕ) (qs : List Row) → AreRowsOf rows lo qs → Fit (rows_have rows) (map (set_to root second_key shape) qs)
set_fits root second_key shape rows lo [] all = tt
set_fits root second_key shape rows lo (q ∷ qs) all = (ap (has_like (bits q.n) q.first) all.0.0 ∙ like_itself (bits q.n) q.first, set_fits root second_key shape rows lo qs all.1)

-- all of the rows, and some of them
pub all_fit : (root : ℕ) (second_key : KeyName) (shape : Row → Shape) (rows : List Row) → RowsFrom 0 rows → Fit (rows_have rows) (map (set_to root second_key shape) rows)
all_fit root second_key shape rows up = set_fits root second_key shape rows 0 rows (all_rows 0 rows up)

pub some_fit : (root : ℕ) (second_key : KeyName) (shape : Row → Shape) (test : Row → Bool) (rows : List Row) → RowsFrom 0 rows → Fit (rows_have rows) (map (set_to root second_key shape) (filter test rows))
some_fit root second_key shape test rows up = set_fits root second_key shape rows 0 (filter test rows) (some_rows test rows 0 rows (all_rows 0 rows up))

-- what is alike fits alike
item_alike : (v w : Have) (i : Item) → ((k : ℕ) → v k ≡ w k) → item_fits v i ≡ item_fits w i
item_alike v w (item.Set id n first shape threshold policy key None) same = ap (λ (o : Option (ℕ × ℕ)). is_none o) (same id)
item_alike v w (item.Set id n first shape threshold policy key (Some old)) same = ap (has_like (bits n) first) (same id)
item_alike v w (item.Unset id) same = ap (λ (o : Option (ℕ × ℕ)). is_some o) (same id)

pub fit_alike : (v w : Have) (items : List Item) → ((k : ℕ) → v k ≡ w k) → Fit v items → Fit w items
fit_alike v w [] same fits = tt
fit_alike v w (i ∷ items) same fits = (sym (item_alike v w i same) ∙ fits.0, fit_alike v w items same fits.1)
