-- The command table after a plan is carried out.
use Rattle.std.proofs.Common.{ℕ, ◌≡◌, ◌≤◌, ◌+◌, ◌==◌, Bool, false, List, [], ◌∷◌, Option, Some, None, refl, sym, ap, subst, ◌∙◌, arith, inl, inr}
use Rattle.std.specs.Prelude.{fold, filter, find, map, nat_lt, not, if◌then◌else◌}
use Rattle.std.specs.List.{AllByRecursion}
use Rattle.std.proofs.lemmas.Bool.{cases_Bool, eqb-true, eqb-false, eq-eqb, ltb-false, ltb-true, ne_eqb}
use Rattle.dc_base.specs.declared.nodes.Node.{Node}
use Rattle.dc_base.specs.declared.records.Item.{Item}
use Rattle.dc_base.specs.declared.records.Item.TheVariants as item
use Rattle.dc_base.specs.declared.nodes.KeyName.{KeyName}
use Rattle.dc_base.specs.declared.nodes.Shape.{Shape}
use Rattle.node_rules.specs.CommandTable.{Table, establishment, row, rows_after, with_row}
use Rattle.node_rules.specs.Drafts.{set_to}
use Rattle.node_rules.specs.Places.{anchor_at}
use Rattle.node_rules.specs.declared.commands.Row.{Row}
use Rattle.master_runs.proofs.Holding.{row-same, row-other}
use Rattle.run_windows.specs.Fits.{AreAscending, IsOfRow}

-- the row of an identity among rows
abbrev pub row_in : ℕ → List Row → Option Row
row_in id rows = find (λ r. r.id == id) rows

-- both have no row, or rows with one length of SNs and one first COUNT
pub data AreAlike (x y : Option Row) : Type 0 where
  neither : (none : x ≡ None) → (none_too : y ≡ None) → AreAlike x y
  rows : (r : Row) → (is : x ≡ Some r) → (q : Row) → (is_too : y ≡ Some q) → (same_n : q.n ≡ r.n) → (same_first : q.first ≡ r.first) → AreAlike x y

pub alike_itself : (x : Option Row) → AreAlike x x
alike_itself None = neither refl refl
alike_itself (Some r) = rows r refl r refl refl refl

pub some_row : (x : Option Row) (r q : Row) → x ≡ Some r → x ≡ Some q → r ≡ q
some_row x r q is too = ap (λ (o : Option Row). elim o [ None ↦ r | Some y ↦ y ]) (sym is ∙ too)

alike_then : (x y z : Option Row) → AreAlike x y → AreAlike y z → AreAlike x z
alike_then x y z (neither a b) (neither c d) = neither a d
alike_then x y z (neither a b) (rows r is q too n f) = let bad : None ≡ Some r = sym b ∙ is in absurd (cc bad)
alike_then x y z (rows r is q too n f) (neither c d) = let bad : None ≡ Some q = sym c ∙ too in absurd (cc bad)
alike_then x y z (rows r is q too n f) (rows s at p there m g) =
    let same : q ≡ s = some_row y q s too at in rows r is p there (m ∙ ap (λ (x : Row). x.n) (sym same) ∙ n) (g ∙ ap (λ (x : Row). x.first) (sym same) ∙ f)

-- an item of a bearer of the table leaves it as it was, in this respect
set_alike : (t : Table) (g : ℕ) (sec : Option Node) (xs : List Row) (i : Item) → ((id : ℕ) → AreAlike (row t id) (row_in id xs)) → IsOfRow t i → (id : ℕ) → AreAlike (row t id) (row_in id (rows_after t g sec xs i))
set_alike t g sec xs (item.Set k n first shape threshold policy key (Some old)) alike of id =
    let new : Row = record { id = k; est = establishment g (Some old) (row t k); n = n; first = first; shape = shape; threshold = threshold; policy = policy; key = key; anchor = anchor_at sec shape; g = g } in
    elim (cases_Bool (k == id)) [
      | inl same ↦
          subst (λ j. AreAlike (row t j) (row_in j (rows_after t g sec xs (item.Set k n first shape threshold policy key (Some old))))) (eqb-true k id same)
          (rows of.0 of.1 new (row-same new xs) (sym of.2) (sym of.3))
      | inr other ↦ subst (λ y. AreAlike (row t id) y) (sym (row-other new id xs other)) (alike id)
    ]
set_alike t g sec xs (item.Set k n first shape threshold policy key None) alike of id = absurd of
set_alike t g sec xs (item.Unset k) alike of id = absurd of

pub all_alike : (t : Table) (g : ℕ) (sec : Option Node) (items : List Item) (xs : List Row) → ((id : ℕ) → AreAlike (row t id) (row_in id xs)) → AllByRecursion (IsOfRow t) items
    → (id : ℕ) → AreAlike (row t id) (row_in id (fold (rows_after t g sec) xs items))
all_alike t g sec [] xs alike all id = alike id
all_alike t g sec (i ∷ items) xs alike all id = all_alike t g sec items (rows_after t g sec xs i) (set_alike t g sec xs i alike all.0) all.1 id

-- a bearer that is dropped has no row any more, and the others keep theirs
pub dropped_row : (id : ℕ) (xs : List Row) → row_in id (filter (λ r. not (r.id == id)) xs) ≡ None
dropped_row id [] = refl
dropped_row id (x ∷ xs) =
    elim (cases_Bool (x.id == id)) [ inl here ↦ rw here (dropped_row id xs) | inr there ↦ rw there (rw there (dropped_row id xs)) ]

pub kept_row : (id k : ℕ) (xs : List Row) → (id == k) ≡ false → row_in k (filter (λ r. not (r.id == id)) xs) ≡ row_in k xs
kept_row id k [] apart = refl
kept_row id k (x ∷ xs) apart =
    elim (cases_Bool (x.id == id)) [
      | inl here ↦ let other : (x.id == k) ≡ false = ap (λ j. j == k) (eqb-true x.id id here) ∙ apart in rw (here, other) (kept_row id k xs apart)
      | inr there ↦ rw there (ap (λ o. if x.id == k then Some x else o) (kept_row id k xs apart))
    ]

-- ---- rows by ascending identities

lower : (low more : ℕ) (rs : List Row) → low ≤ more → AreAscending more rs → AreAscending low rs
lower low more [] le up = tt
lower low more (r ∷ rs) le up = (omega (arith, up.0), up.1)

put_ascends : (low : ℕ) (r : Row) (rs : List Row) → low ≤ r.id → AreAscending low rs → AreAscending low (with_row r rs)
put_ascends low r [] above up = (above, tt)
put_ascends low r (x ∷ rs) above up =
    elim (cases_Bool (x.id == r.id)) [
      | inl here ↦ rw here (above, subst (λ k. AreAscending (k + 1) rs) (eqb-true x.id r.id here) up.1)
      | inr there ↦ elim (cases_Bool (nat_lt r.id x.id)) [
        | inl before ↦ rw (there, before) (above, (omega (arith, ltb-true r.id x.id before), up.1))
        | inr after ↦
            let not_less = ltb-false r.id x.id after in
            rw (there, after) (up.0, put_ascends (x.id + 1) r rs (omega (arith, not_less, eqb-false x.id r.id there)) up.1)
      ]
    ]

filter_ascends : (f : Row → Bool) (low : ℕ) (rs : List Row) → AreAscending low rs → AreAscending low (filter f rs)
filter_ascends f low [] up = tt
filter_ascends f low (r ∷ rs) up =
    elim (cases_Bool (f r)) [
      | inl yes' ↦ rw yes' (up.0, filter_ascends f (r.id + 1) rs up.1)
      | inr no' ↦ rw no' (lower low (r.id + 1) (filter f rs) (omega (arith, up.0)) (filter_ascends f (r.id + 1) rs up.1))
    ]

pub rows_ascend : (t : Table) (g : ℕ) (sec : Option Node) (items : List Item) (rs : List Row) → AreAscending 0 rs → AreAscending 0 (fold (rows_after t g sec) rs items)
rows_ascend t g sec [] rs up = up
rows_ascend t g sec (item.Set k n first shape threshold policy key old ∷ items) rs up =
    let r : Row = record { id = k; est = establishment g old (row t k); n = n; first = first; shape = shape; threshold = threshold; policy = policy; key = key; anchor = anchor_at sec shape; g = g } in
    rows_ascend t g sec items (with_row r rs) (put_ascends 0 r rs (omega arith) up)
rows_ascend t g sec (item.Unset k ∷ items) rs up = rows_ascend t g sec items (filter (λ r. not (r.id == k)) rs) (filter_ascends (λ r. not (r.id == k)) 0 rs up)

all_above : (low : ℕ) (rs : List Row) → AreAscending low rs → AllByRecursion (λ (r : Row). low ≤ r.id) rs
all_above low [] up = tt
all_above low (r ∷ rs) up = (up.0, all_above low rs (lower low (r.id + 1) rs (omega (arith, up.0)) up.1))

-- each is the row of its identity
pub own_rows : (low : ℕ) (rs : List Row) → AreAscending low rs → AllByRecursion (λ (r : Row). row_in r.id rs ≡ Some r) rs
own_rows low [] up = tt
own_rows low (r ∷ rs) up = (rw (eq-eqb r.id r.id refl) refl, later rs (own_rows (r.id + 1) rs up.1) (all_above (r.id + 1) rs up.1))
  where
    later : (qs : List Row) → AllByRecursion (λ (q : Row). row_in q.id rs ≡ Some q) qs → AllByRecursion (λ (q : Row). r.id + 1 ≤ q.id) qs → AllByRecursion (λ (q : Row). row_in q.id (r ∷ rs) ≡ Some q) qs
    later [] own above = tt
    later (q ∷ qs) own above =
        (ap (λ b. if b then Some r else row_in q.id rs) (ne_eqb r.id q.id (λ same. omega (arith, same, above.0))) ∙ own.0, later qs own.1 above.1)

each_filter : (P : Row → Type 0) (f : Row → Bool) (rs : List Row) → AllByRecursion P rs → AllByRecursion P (filter f rs)
each_filter P f [] all = tt
each_filter P f (r ∷ rs) all = elim (cases_Bool (f r)) [ inl yes' ↦ rw yes' (all.0, each_filter P f rs all.1) | inr no' ↦ rw no' (each_filter P f rs all.1) ]

-- an item that sets a row of the table to a shape is of that row
pub all_of_rows : (t : Table) (root : ℕ) (k : KeyName) (shape : Row → Shape) (rs : List Row) → AllByRecursion (λ (r : Row). row t r.id ≡ Some r) rs
    → AllByRecursion (IsOfRow t) (map (set_to root k shape) rs)
all_of_rows t root k shape [] all = tt
all_of_rows t root k shape (r ∷ rs) all = ((r, all.0, refl, refl), all_of_rows t root k shape rs all.1)

-- so it is of those that pass a test
pub some_of_rows : (t : Table) (root : ℕ) (k : KeyName) (shape : Row → Shape) (f : Row → Bool) → AreAscending 0 t.rows → AllByRecursion (IsOfRow t) (map (set_to root k shape) (filter f t.rows))
some_of_rows t root k shape f up = all_of_rows t root k shape (filter f t.rows) (each_filter (λ (r : Row). row t r.id ≡ Some r) f t.rows (own_rows 0 t.rows up))
