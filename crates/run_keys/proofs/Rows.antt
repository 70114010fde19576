-- The claims that a plan makes of rows of the table, and the rows once it is carried out.
use Rattle.std.proofs.Common.{ℕ, ◌≡◌, ◌==◌, ◌<◌, ◌≤◌, Bool, true, false, List, [], ◌∷◌, Option, Some, refl, sym, ap, subst, ◌∙◌, inl, inr, arith}
use Rattle.std.specs.Prelude.{filter, find, map, option_map}
use Rattle.std.specs.List.{AllByRecursion, flat_map}
use Rattle.std.proofs.lemmas.Bool.{cases_Bool, eq-eqb}
use Rattle.std.proofs.lemmas.Bool.Decides.{nat_tests}
use Rattle.dc_base.specs.declared.nodes.KeyName.{KeyName}
use Rattle.dc_base.specs.declared.nodes.Node.{Node}
use Rattle.dc_base.specs.declared.nodes.Shape.{Shape}
use Rattle.key_chain.specs.Book.{Claim}
use Rattle.node_rules.specs.CommandTable.{Table, claims_of, establishment, row}
use Rattle.node_rules.specs.Drafts.{key_for, set_to}
use Rattle.node_rules.specs.declared.commands.Row.{Row}
use Rattle.run_table.specs.SameTable.{Ascend}
use Rattle.run_table.proofs.Rows.{moved, set_if}
use Rattle.run_keys.specs.Keyed.{IsSetIn}

-- ---- a row is found by its identity

above_other : (r : Row) (rows : List Row) → AllByRecursion (λ (y : Row). r.id < y.id) rows → AllByRecursion (λ (y : Row). (r.id == y.id) ≡ false) rows
above_other r [] up = tt
above_other r (y ∷ rows) up = let lt : r.id < y.id = up.0 in (grind (arith, nat_tests, lt), above_other r rows up.1)

found_in : (x : Row) (xs rest : List Row) → AllByRecursion (λ (y : Row). (x.id == y.id) ≡ false) rest
    → AllByRecursion (λ (r : Row). find (λ y. y.id == r.id) xs ≡ Some r) rest → AllByRecursion (λ (r : Row). find (λ y. y.id == r.id) (x ∷ xs) ≡ Some r) rest
found_in x xs [] apart all = tt
found_in x xs (r ∷ rest) apart all = (rw (apart.0) all.0, found_in x xs rest apart.1 all.1)

pub rows_found : (rows : List Row) → Ascend rows → AllByRecursion (λ (r : Row). find (λ y. y.id == r.id) rows ≡ Some r) rows
rows_found [] up = tt
rows_found (x ∷ xs) up = (rw (eq-eqb x.id x.id refl) refl, found_in x xs xs (above_other x xs up.0) (rows_found xs up.1))

-- ---- claims of rows that a plan sets

module _ (t : Table) (g root : ℕ) (k : KeyName) (shape : Row → Shape) (f : Row → Bool) where
  -- the claim of a row that is set
  abbrev pub set_claim : Row → Claim
  set_claim r = record { id = r.id; key = key_for (shape r) root k; est = r.est }

  -- those of the plan
  abbrev pub set_claims : List Row → List Claim
  set_claims rows = flat_map (claims_of t g) (map (set_to root k shape) (filter f rows))

  own_est : (r : Row) (old : Node) → row t r.id ≡ Some r → establishment g (Some old) (row t r.id) ≡ r.est
  own_est r old is = ap (λ o. establishment g (Some old) o) is

  -- what is so of the claim of each row that is set is so of each
  pub each_set_claim : (Q : Claim → Type 0) (rows : List Row) → AllByRecursion (λ (r : Row). row t r.id ≡ Some r) rows → AllByRecursion (λ (r : Row). f r ≡ true → Q (set_claim r)) rows
      → AllByRecursion Q (set_claims rows)
  each_set_claim Q [] there all = tt
  each_set_claim Q (r ∷ rows) there all =
      elim (cases_Bool (f r)) [
        | inl yes' ↦ rw yes' (subst (λ e. Q (record { id = r.id; key = key_for (shape r) root k; est = e })) (sym (own_est r r.anchor there.0)) (all.0 yes'), each_set_claim Q rows there.1 all.1)
        | inr no' ↦ rw no' (each_set_claim Q rows there.1 all.1)
      ]

  pub of_set_claim : (Q : Claim → Type 0) (rows : List Row) → AllByRecursion (λ (r : Row). row t r.id ≡ Some r) rows → AllByRecursion Q (set_claims rows)
      → AllByRecursion (λ (r : Row). f r ≡ true → Q (set_claim r)) rows
  of_set_claim Q [] there all = tt
  of_set_claim Q (r ∷ rows) there all =
      elim (cases_Bool (f r)) [
        | inl yes' ↦
            let here = rw yes' at all in
            (λ is. subst (λ e. Q (record { id = r.id; key = key_for (shape r) root k; est = e })) (own_est r r.anchor there.0) here.0, of_set_claim Q rows there.1 here.1)
        | inr no' ↦ (λ is. absurd (let bad : false ≡ true = sym no' ∙ is in cc), of_set_claim Q rows there.1 (rw no' at all))
      ]

  -- ---- the rows after it

  module _ (sec : Option Node) where
    set_id : (r : Row) → (set_if t g sec root k shape f r).id ≡ r.id
    set_id r = elim (cases_Bool (f r)) [ inl yes' ↦ rw yes' refl | inr no' ↦ rw no' refl ]

    -- the one of an identity is that of before, set anew if it is to be
    pub found_set : (id : ℕ) (rows : List Row) → find (λ y. y.id == id) (map (set_if t g sec root k shape f) rows) ≡ option_map (set_if t g sec root k shape f) (find (λ y. y.id == id) rows)
    found_set id [] = refl
    found_set id (r ∷ rows) =
        let same : ((set_if t g sec root k shape f r).id == id) ≡ (r.id == id) = ap (λ i. i == id) (set_id r) in
        elim (cases_Bool (r.id == id)) [
          | inl here ↦ let too : ((set_if t g sec root k shape f r).id == id) ≡ true = same ∙ here in rw here (rw too refl)
          | inr apart ↦ let too : ((set_if t g sec root k shape f r).id == id) ≡ false = same ∙ apart in rw apart (rw too (found_set id rows))
        ]

    -- each item that sets a row is set in the table with those rows
    pub all_set_in : (u : Table) (last : ℕ) → u.rows ≡ map (set_if t g sec root k shape f) t.rows → last ≤ g → (rest : List Row) → AllByRecursion (λ (r : Row). row t r.id ≡ Some r) rest
        → AllByRecursion (λ (r : Row). r.est ≤ last) rest → AllByRecursion (IsSetIn u g) (map (set_to root k shape) (filter f rest))
    all_set_in u last is le [] there below = tt
    all_set_in u last is le (r ∷ rest) there below =
        elim (cases_Bool (f r)) [
          | inl yes' ↦
              let own : establishment g (Some r.anchor) (row t r.id) ≡ r.est = own_est r r.anchor there.0 in
              let at : row u r.id ≡ Some (moved t g sec root k shape r) =
              ap (λ rows. find (λ y. y.id == r.id) rows) is ∙ found_set r.id t.rows ∙ ap (λ o. option_map (set_if t g sec root k shape f) o) there.0 ∙ (rw yes' refl) in
              let under : r.est ≤ last = below.0 in
              rw yes' ((moved t g sec root k shape r, at, refl, subst (λ e. e ≤ g) (sym own) (omega (arith, under, le))), all_set_in u last is le rest there.1 below.1)
          | inr no' ↦ rw no' (all_set_in u last is le rest there.1 below.1)
        ]
