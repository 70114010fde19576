-- The rows of both tables, by ascending identity.
use Rattle.std.proofs.Common.{ℕ, ◌≡◌, ◌++◌, ◌<◌, ◌==◌, Bool, true, false, List, [], ◌∷◌, Option, Some, refl, sym, ap, subst, ◌∙◌, inl, inr, arith, append_assoc}
use Rattle.std.specs.Prelude.{filter, find, fold, if◌then◌else◌, map, nat_lt}
use Rattle.std.specs.List.{AllByRecursion}
use Rattle.std.proofs.lemmas.Bool.{cases_Bool, eqb-true}
use Rattle.std.proofs.lemmas.Bool.Decides.{nat_tests}
use Rattle.dc_base.specs.declared.nodes.KeyName.{KeyName}
use Rattle.dc_base.specs.declared.nodes.Node.{Node}
use Rattle.dc_base.specs.declared.nodes.Shape.{Shape}
use Rattle.transcript.proofs.OnEach.{each_append}
use Rattle.claims.specs.Carrying as claims
use Rattle.claims.specs.Table as claimed
use Rattle.node_rules.specs.CommandTable.{Table, establishment, row, rows_after, with_row}
use Rattle.node_rules.specs.Drafts.{key_for, set_to}
use Rattle.node_rules.specs.Places.{anchor_at}
use Rattle.node_rules.specs.declared.commands.Row.{Row}
use Rattle.run_table.specs.SameTable.{Ascend, row_of}

-- ---- one row in its place

-- the claims put it where the master does
pub same_place : (r : Row) (rows : List Row) → claims.with_row (row_of r) (map row_of rows) ≡ map row_of (with_row r rows)
same_place r [] = refl
same_place r (x ∷ xs) =
    elim (cases_Bool (x.id == r.id)) [
      | inl here ↦ rw here refl
      | inr apart ↦ elim (cases_Bool (nat_lt r.id x.id)) [
        | inl above ↦ rw apart (rw above refl)
        | inr below ↦ rw apart (rw below (ap (λ rs. row_of x ∷ rs) (same_place r xs)))
      ]
    ]

-- it is found there
pub found_there : (r : claimed.Row) (rows : List claimed.Row) → find (λ x. x.id == r.id) (claims.with_row r rows) ≡ Some r
found_there r [] = let is : (r.id == r.id) ≡ true = grind (arith, nat_tests) in rw is refl
found_there r (x ∷ xs) =
    let is : (r.id == r.id) ≡ true = grind (arith, nat_tests) in
    elim (cases_Bool (x.id == r.id)) [
      | inl here ↦ rw here (rw is refl)
      | inr apart ↦ elim (cases_Bool (nat_lt r.id x.id)) [
        | inl above ↦ rw apart (rw above (rw is refl))
        | inr below ↦ rw apart (rw below (rw apart (found_there r xs)))
      ]
    ]

-- and any other as before
pub found_else : (id : ℕ) (r : claimed.Row) (rows : List claimed.Row) → (r.id == id) ≡ false → find (λ x. x.id == id) (claims.with_row r rows) ≡ find (λ x. x.id == id) rows
found_else id r [] other = rw other refl
found_else id r (x ∷ xs) other =
    elim (cases_Bool (x.id == r.id)) [
      | inl here ↦ let too : (x.id == id) ≡ false = ap (λ k. k == id) (eqb-true x.id r.id here) ∙ other in rw here (rw other (rw too refl))
      | inr apart ↦ elim (cases_Bool (nat_lt r.id x.id)) [
        | inl above ↦ rw apart (rw above (rw other refl))
        | inr below ↦ elim (cases_Bool (x.id == id)) [
          | inl it ↦ rw apart (rw below (rw it refl))
          | inr not_it ↦ rw apart (rw below (rw not_it (found_else id r xs other)))
        ]
      ]
    ]

-- what is so of a row and of the others is so of all
pub each_placed : (P : Row → Type 0) (r : Row) (rows : List Row) → P r → AllByRecursion P rows → AllByRecursion P (with_row r rows)
each_placed P r [] here all = (here, tt)
each_placed P r (x ∷ xs) here all =
    elim (cases_Bool (x.id == r.id)) [
      | inl same ↦ rw same (here, all.1)
      | inr apart ↦ elim (cases_Bool (nat_lt r.id x.id)) [
        | inl above ↦ rw apart (rw above (here, all))
        | inr below ↦ rw apart (rw below (all.0, each_placed P r xs here all.1))
      ]
    ]

pub each_left : {X : Type 0} (P : X → Type 0) (f : X → Bool) (xs : List X) → AllByRecursion P xs → AllByRecursion P (filter f xs)
each_left P f [] all = tt
each_left P f (x ∷ xs) all = elim (cases_Bool (f x)) [ inl yes' ↦ rw yes' (all.0, each_left P f xs all.1) | inr no' ↦ rw no' (each_left P f xs all.1) ]

pub each_weaker : {X : Type 0} (P Q : X → Type 0) → ((x : X) → P x → Q x) → (xs : List X) → AllByRecursion P xs → AllByRecursion Q xs
each_weaker P Q to [] all = tt
each_weaker P Q to (x ∷ xs) all = (to x all.0, each_weaker P Q to xs all.1)

-- ---- they ascend

from_lower : (a b : ℕ) (rows : List Row) → a < b → AllByRecursion (λ (x : Row). b < x.id) rows → AllByRecursion (λ (x : Row). a < x.id) rows
from_lower a b rows lt all = each_weaker (λ (x : Row). b < x.id) (λ (x : Row). a < x.id) (λ x above. omega arith) rows all

pub placed_ascend : (r : Row) (rows : List Row) → Ascend rows → Ascend (with_row r rows)
placed_ascend r [] up = (tt, tt)
placed_ascend r (x ∷ xs) up =
    elim (cases_Bool (x.id == r.id)) [
      | inl same ↦
          let is : x.id ≡ r.id = eqb-true x.id r.id same in
          rw same (each_weaker (λ (y : Row). x.id < y.id) (λ (y : Row). r.id < y.id) (λ y above. omega arith) xs up.0, up.1)
      | inr apart ↦ elim (cases_Bool (nat_lt r.id x.id)) [
        | inl above ↦
            let lt : r.id < x.id = grind (arith, nat_tests) in rw apart (rw above ((lt, from_lower r.id x.id xs lt up.0), up))
        | inr below ↦
            let gt : x.id < r.id = grind (arith, nat_tests) in
            rw apart (rw below (each_placed (λ (y : Row). x.id < y.id) r xs gt up.0, placed_ascend r xs up.1))
      ]
    ]

pub left_ascend : (f : Row → Bool) (rows : List Row) → Ascend rows → Ascend (filter f rows)
left_ascend f [] up = tt
left_ascend f (x ∷ xs) up =
    elim (cases_Bool (f x)) [ inl yes' ↦ rw yes' (each_left (λ (y : Row). x.id < y.id) f xs up.0, left_ascend f xs up.1) | inr no' ↦ rw no' (left_ascend f xs up.1) ]

-- ---- rows that a plan sets anew

-- a row once it is set
abbrev pub moved : Table → ℕ → Option Node → ℕ → KeyName → (Row → Shape) → Row → Row
moved t g sec root k shape r = record {
  id = r.id;
  est = establishment g (Some r.anchor) (row t r.id);
  n = r.n;
  first = r.first;
  shape = shape r;
  threshold = r.threshold;
  policy = r.policy;
  key = key_for (shape r) root k;
  anchor = anchor_at sec (shape r);
  g = g;
}

-- a row takes the place of the one of its identity, after those of smaller ones
replaced : (r x : Row) (before after : List Row) → x.id ≡ r.id → AllByRecursion (λ (y : Row). y.id < r.id) before → with_row r (before ++ x ∷ after) ≡ before ++ r ∷ after
replaced r x [] after is all = let same : (x.id == r.id) ≡ true = grind (arith, nat_tests) in rw same refl
replaced r x (y ∷ before) after is all =
    let lt : y.id < r.id = all.0 in
    let apart : (y.id == r.id) ≡ false = grind (arith, nat_tests) in
    let below : nat_lt r.id y.id ≡ false = grind (arith, nat_tests) in
    rw apart (rw below (ap (λ rs. y ∷ rs) (replaced r x before after is all.1)))

-- all of the first rows have smaller identities than all of the others
abbrev AreBefore : List Row → List Row → Type 0
AreBefore before after = AllByRecursion (λ (x : Row). AllByRecursion (λ (y : Row). y.id < x.id) before) after

-- one more
before_more : (x z : Row) (before after : List Row) → z.id ≡ x.id → AllByRecursion (λ (y : Row). x.id < y.id) after → AreBefore before after → AreBefore (before ++ z ∷ []) after
before_more x z before [] is up all = tt
before_more x z before (y ∷ ys) is up all =
    (each_append (λ (w : Row). w.id < y.id) before (z ∷ []) all.0 (let lt : x.id < y.id = up.0 in omega arith, tt), before_more x z before ys is up.1 all.1)

module _ (t : Table) (g : ℕ) (sec : Option Node) (root : ℕ) (k : KeyName) (shape : Row → Shape) (f : Row → Bool) where
  abbrev pub set_if : Row → Row
  set_if r = if f r then moved t g sec root k shape r else r

  set_from : (rest before : List Row) → Ascend rest → AreBefore before rest
      → fold (rows_after t g sec) (before ++ rest) (map (set_to root k shape) (filter f rest)) ≡ before ++ map set_if rest
  set_from [] before up all = refl
  set_from (x ∷ xs) before up all =
      elim (cases_Bool (f x)) [
        | inl yes' ↦
            let z = moved t g sec root k shape x in
            let items = map (set_to root k shape) (filter f xs) in
            rw yes' (
            ap (λ rows. fold (rows_after t g sec) rows items) (replaced z x before xs refl all.0 ∙ sym (append_assoc before (z ∷ []) xs))
            ∙ set_from xs (before ++ z ∷ []) up.1 (before_more x z before xs refl up.0 all.1) ∙ append_assoc before (z ∷ []) (map set_if xs)
            )
        | inr no' ↦
            let items = map (set_to root k shape) (filter f xs) in
            rw no' (
            ap (λ rows. fold (rows_after t g sec) rows items) (sym (append_assoc before (x ∷ []) xs))
            ∙ set_from xs (before ++ x ∷ []) up.1 (before_more x x before xs refl up.0 all.1) ∙ append_assoc before (x ∷ []) (map set_if xs)
            )
      ]

  none_before : (rest : List Row) → AreBefore [] rest
  none_before [] = tt
  none_before (x ∷ xs) = (tt, none_before xs)

  -- the rows that a plan sets anew, and the others as they are
  pub set_rows : (rows : List Row) → Ascend rows → fold (rows_after t g sec) rows (map (set_to root k shape) (filter f rows)) ≡ map set_if rows
  set_rows rows up = set_from rows [] up (none_before rows)

  same_id : (r : Row) → (set_if r).id ≡ r.id
  same_id r = elim (cases_Bool (f r)) [ inl yes' ↦ rw yes' refl | inr no' ↦ rw no' refl ]

  -- they still ascend
  above_set : (n : ℕ) (xs : List Row) → AllByRecursion (λ (y : Row). n < y.id) xs → AllByRecursion (λ (y : Row). n < y.id) (map set_if xs)
  above_set n [] up = tt
  above_set n (y ∷ ys) up = (subst (λ i. n < i) (sym (same_id y)) up.0, above_set n ys up.1)

  pub set_ascend : (rows : List Row) → Ascend rows → Ascend (map set_if rows)
  set_ascend [] up = tt
  set_ascend (x ∷ xs) up = (subst (λ n. AllByRecursion (λ (y : Row). n < y.id) (map set_if xs)) (sym (same_id x)) (above_set x.id xs up.0), set_ascend xs up.1)

  -- what is so of each that is set, and of each that is not, is so of all
  pub each_set : (P Q : Row → Type 0) → ((r : Row) → P r → f r ≡ true → Q (moved t g sec root k shape r)) → ((r : Row) → P r → f r ≡ false → Q r)
      → (rows : List Row) → AllByRecursion P rows → AllByRecursion Q (map set_if rows)
  each_set P Q by_set by_left [] all = tt
  each_set P Q by_set by_left (x ∷ xs) all =
      elim (cases_Bool (f x)) [
        | inl yes' ↦ rw yes' (by_set x all.0 yes', each_set P Q by_set by_left xs all.1)
        | inr no' ↦ rw no' (by_left x all.0 no', each_set P Q by_set by_left xs all.1)
      ]
