-- What is held by ascending identities, after something is not held any more.
use Rattle.std.proofs.Common.{ℕ, ◌≡◌, ◌<◌, ◌≤◌, ◌+◌, ◌==◌, Bool, true, false, List, [], ◌∷◌, Option, Some, None, refl, sym, ap, subst, ◌∙◌, arith, inl, inr}
use Rattle.std.specs.Prelude.{if◌then◌else◌, filter}
use Rattle.std.specs.Option.{option_map}
use Rattle.std.specs.Ordering.{nat_cmp, is_eq}
use Rattle.std.proofs.lemmas.Bool.{cases_order, cases_Bool, eqb-true, eqb-false, ne_eqb}
use Rattle.node_rules.specs.Held.{held, holding}
use Rattle.run_control.specs.Orders.{Ascends, AscendsFrom}
use Rattle.master_runs.proofs.Holding.{equal_is, greater_is, held-cons, less_is, same_key}

module _ {X : Type 0} where
  pub ascends_lower : (lo hi : ℕ) (xs : List (ℕ × X)) → lo ≤ hi → AscendsFrom hi xs → AscendsFrom lo xs
  ascends_lower lo hi [] le up = tt
  ascends_lower lo hi (x ∷ xs) le up = (omega (arith, le, up.0), up.1)

  -- below the first nothing is held
  pub held_below : (lo k : ℕ) (xs : List (ℕ × X)) → AscendsFrom lo xs → k < lo → held k xs ≡ None
  held_below lo k [] up lt = refl
  held_below lo k (x ∷ xs) up lt =
      let apart : (k == x.0) ≡ false = ne_eqb k x.0 (λ same. omega (arith, up.0, lt)) in
      held-cons k x xs ∙ ap (λ b. if b then Some x.1 else held k xs) apart ∙ held_below (x.0 + 1) k xs up.1 (omega (arith, up.0, lt))

  -- something is held from now on
  pub ascends_with : (lo id : ℕ) (x : X) (xs : List (ℕ × X)) → lo ≤ id → AscendsFrom lo xs → AscendsFrom lo (holding id (Some x) xs)
  ascends_with lo id x [] le up = (le, tt)
  ascends_with lo id x (e ∷ es) le up =
      elim (cases_order id e.0) [
        | inl same ↦ let order : nat_cmp id e.0 ≡ _ = ap (nat_cmp id) (sym same) ∙ equal_is id in rw order (up.0, up.1)
        | inr apart ↦ elim apart [
          | inl lt ↦ rw (less_is id e.0 lt) (le, (omega (arith, lt), up.1))
          | inr gt ↦ rw (greater_is id e.0 gt) (up.0, ascends_with (e.0 + 1) id x es (omega (arith, gt)) up.1)
        ]
      ]

  -- or nothing
  pub ascends_without : (lo id : ℕ) (xs : List (ℕ × X)) → AscendsFrom lo xs → AscendsFrom lo (holding id None xs)
  ascends_without lo id [] up = tt
  ascends_without lo id (e ∷ es) up =
      elim (cases_Bool (id == e.0)) [
        | inl here ↦ let is = same_key id e.0 ∙ here in rw is (ascends_lower lo (e.0 + 1) es (omega (arith, up.0)) up.1)
        | inr apart ↦ let is = same_key id e.0 ∙ apart in rw is (up.0, ascends_without (e.0 + 1) id es up.1)
      ]

  -- of the one that it is not held of any more
  held_gone : (lo id : ℕ) (xs : List (ℕ × X)) → AscendsFrom lo xs → held id (holding id None xs) ≡ None
  held_gone lo id [] up = refl
  held_gone lo id (e ∷ es) up =
      elim (cases_Bool (id == e.0)) [
        | inl here ↦
            let is = same_key id e.0 ∙ here in
            let same = eqb-true id e.0 here in
            rw is (held_below (e.0 + 1) id es up.1 (omega (arith, same)))
        | inr apart ↦ let is = same_key id e.0 ∙ apart in rw (is, is) (held_gone (e.0 + 1) id es up.1)
      ]

  -- of any other
  held_still : (id k : ℕ) (xs : List (ℕ × X)) → (id == k) ≡ false → held k (holding id None xs) ≡ held k xs
  held_still id k [] apart = refl
  held_still id k (e ∷ es) apart =
      elim (cases_Bool (id == e.0)) [
        | inl here ↦
            let is = same_key id e.0 ∙ here in
            let no : (k == e.0) ≡ false = ne_eqb k e.0 (λ same. eqb-false id k apart (eqb-true id e.0 here ∙ sym same)) in
            rw is (sym (held-cons k e es ∙ ap (λ b. if b then Some e.1 else held k es) no))
        | inr other ↦
            let is = same_key id e.0 ∙ other in
            rw is (ap (λ o. if is_eq (nat_cmp k e.0) then Some e.1 else o) (held_still id k es apart))
      ]

  -- what is seen of each identity
  pub seen_without : {Y : Type 0} (f : X → Y) (id k : ℕ) (xs : List (ℕ × X)) → Ascends xs
      → option_map f (held k (holding id None xs)) ≡ (if id == k then None else option_map f (held k xs))
  seen_without f id k xs up =
      elim (cases_Bool (id == k)) [
        | inl same ↦ rw same (subst (λ j. option_map f (held j (holding id None xs)) ≡ None) (eqb-true id k same) (ap (λ o. option_map f o) (held_gone 0 id xs up)))
        | inr apart ↦ rw apart (ap (λ o. option_map f o) (held_still id k xs apart))
      ]

  -- ---- some are held no more

  -- by a test
  abbrev pub kept_by : (X → Bool) → Option X → Option X
  kept_by test None = None
  kept_by test (Some x) = if test x then Some x else None

  pub ascends_some : (test : X → Bool) (lo : ℕ) (xs : List (ℕ × X)) → AscendsFrom lo xs → AscendsFrom lo (filter (λ (x : ℕ × X). test x.1) xs)
  ascends_some test lo [] up = tt
  ascends_some test lo (e ∷ es) up =
      elim (cases_Bool (test e.1)) [
        | inl yes' ↦ rw yes' (up.0, ascends_some test (e.0 + 1) es up.1)
        | inr no' ↦ rw no' (ascends_lower lo (e.0 + 1) _ (omega (arith, up.0)) (ascends_some test (e.0 + 1) es up.1))
      ]

  pub held_some : (test : X → Bool) (lo k : ℕ) (xs : List (ℕ × X)) → AscendsFrom lo xs → held k (filter (λ (x : ℕ × X). test x.1) xs) ≡ kept_by test (held k xs)
  held_some test lo k [] up = refl
  held_some test lo k (e ∷ es) up =
      by (test e.1) (k == e.0) refl refl (held_some test (e.0 + 1) k es up.1) ∙ sym (ap (kept_by test) (held-cons k e es))
    where
      by : (b c : Bool) → test e.1 ≡ b → (k == e.0) ≡ c → held k (filter (λ (x : ℕ × X). test x.1) es) ≡ kept_by test (held k es) → held k (if b then e ∷ (filter (λ (x : ℕ × X). test x.1) es) else (filter (λ (x : ℕ × X). test x.1) es)) ≡ kept_by test (if c then Some e.1 else held k es)
      by true true yes' here more = held-cons k e (filter (λ (x : ℕ × X). test x.1) es) ∙ ap (λ z. if z then Some e.1 else held k (filter (λ (x : ℕ × X). test x.1) es)) here ∙ sym (ap (λ z. if z then Some e.1 else None) yes')
      by true false yes' apart more = held-cons k e (filter (λ (x : ℕ × X). test x.1) es) ∙ ap (λ z. if z then Some e.1 else held k (filter (λ (x : ℕ × X). test x.1) es)) apart ∙ more
      by false true no' here more =
          let same = eqb-true k e.0 here in
          held_below (e.0 + 1) k (filter (λ (x : ℕ × X). test x.1) es) (ascends_some test (e.0 + 1) es up.1) (omega (arith, same)) ∙ sym (ap (λ z. if z then Some e.1 else None) no')
      by false false no' apart more = more
