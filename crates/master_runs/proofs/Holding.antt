-- What is held of each identity, after something is held of one of them from now on.
use Rattle.std.proofs.Common.{ℕ, ◌≡◌, ◌<◌, ◌==◌, false, List, [], ◌∷◌, Some, None, refl, sym, ap, subst, ◌∙◌, arith, inl, inr}
use Rattle.std.specs.Prelude.{find, nat_lt, if◌then◌else◌}
use Rattle.std.proofs.Common.{Less, Equal, Greater}
use Rattle.std.specs.Ordering.{nat_cmp, is_eq}
use Rattle.std.specs.Cmp.{nat_cmp_is}
use Rattle.std.proofs.lemmas.Bool.{cases_order, cases_Bool, eqb-true, eqb-false, eq-eqb, ne_eqb}
use Rattle.node_rules.specs.Held.{held, holding}
use Rattle.node_rules.specs.declared.commands.Row.{Row}
use Rattle.node_rules.specs.CommandTable.{with_row}

-- two numbers in their three orders
pub less_is : (x y : ℕ) → x < y → nat_cmp x y ≡ Less
less_is x y lt = sym (nat_cmp_is x y Less lt)

pub equal_is : (x : ℕ) → nat_cmp x x ≡ Equal
equal_is x = sym (nat_cmp_is x x Equal refl)

pub greater_is : (x y : ℕ) → y < x → nat_cmp x y ≡ Greater
greater_is x y lt = sym (nat_cmp_is x y Greater lt)

-- the comparison is by ==
pub same_key : (x y : ℕ) → is_eq (nat_cmp x y) ≡ (x == y)
same_key x y =
    elim (cases_order x y) [
      | inl same ↦ subst (λ z. is_eq (nat_cmp x z) ≡ (x == z)) same (ap is_eq (equal_is x) ∙ sym (eq-eqb x x refl))
      | inr apart ↦ elim apart [
        | inl lt ↦ ap is_eq (less_is x y lt) ∙ sym (ne_eqb x y (λ e. omega arith))
        | inr gt ↦ ap is_eq (greater_is x y gt) ∙ sym (ne_eqb x y (λ e. omega arith))
      ]
    ]

module _ {X : Type 0} where
  -- what is held of an identity, with one entry in front
  pub held-cons : (k : ℕ) (e : ℕ × X) (es : List (ℕ × X)) → held k (e ∷ es) ≡ (if k == e.0 then Some e.1 else held k es)
  held-cons k e es = ap (λ b. if b then Some e.1 else held k es) (same_key k e.0)

  -- of the one that it is held of
  pub held-same : (id : ℕ) (x : X) (xs : List (ℕ × X)) → held id (holding id (Some x) xs) ≡ Some x
  held-same id x [] = rw (equal_is id) refl
  held-same id x (e ∷ es) =
      elim (cases_order id e.0) [
        | inl same ↦ rw (← same, equal_is id, equal_is id) refl
        | inr apart ↦ elim apart [
          | inl lt ↦ rw (less_is id e.0 lt, equal_is id) refl
          | inr gt ↦ rw (greater_is id e.0 gt, greater_is id e.0 gt) (held-same id x es)
        ]
      ]

  -- of any other
  pub held-other : (id k : ℕ) (x : X) (xs : List (ℕ × X)) → (id == k) ≡ false → held k (holding id (Some x) xs) ≡ held k xs
  held-other id k x [] apart = held-cons k (id, x) [] ∙ ap (λ b. if b then Some x else None) (ne_eqb k id (λ e. eqb-false id k apart (sym e)))
  held-other id k x (e ∷ es) apart =
      let no = ne_eqb k id (λ e. eqb-false id k apart (sym e)) in
      elim (cases_order id e.0) [
        | inl same ↦
            let order : nat_cmp id e.0 ≡ Equal = ap (nat_cmp id) (sym same) ∙ equal_is id in
            let here : is_eq (nat_cmp k e.0) ≡ false = same_key k e.0 ∙ ap (λ n. k == n) (sym same) ∙ no in
            rw (order, here) refl
        | inr unlike ↦ elim unlike [
          | inl lt ↦ let here : is_eq (nat_cmp k id) ≡ false = same_key k id ∙ no in rw (less_is id e.0 lt, here) refl
          | inr gt ↦ rw (greater_is id e.0 gt) (ap (λ o. if is_eq (nat_cmp k e.0) then Some e.1 else o) (held-other id k x es apart))
        ]
      ]

-- the bearer of an identity in the table, with one in its place
pub row-same : (r : Row) (rows : List Row) → find (λ x. x.id == r.id) (with_row r rows) ≡ Some r
row-same r [] = rw (eq-eqb r.id r.id refl) refl
row-same r (x ∷ xs) =
    elim (cases_Bool (x.id == r.id)) [
      | inl here ↦ rw (here, eq-eqb r.id r.id refl) refl
      | inr there ↦ elim (cases_Bool (nat_lt r.id x.id)) [
        | inl before ↦ rw (there, before, eq-eqb r.id r.id refl) refl
        | inr after ↦ rw (there, after, there) (row-same r xs)
      ]
    ]

pub row-other : (r : Row) (k : ℕ) (rows : List Row) → (r.id == k) ≡ false → find (λ x. x.id == k) (with_row r rows) ≡ find (λ x. x.id == k) rows
row-other r k [] apart = rw apart refl
row-other r k (x ∷ xs) apart =
    elim (cases_Bool (x.id == r.id)) [
      | inl here ↦ let other = ap (λ n. n == k) (eqb-true x.id r.id here) ∙ apart in rw (here, apart, other) refl
      | inr there ↦ elim (cases_Bool (nat_lt r.id x.id)) [
        | inl before ↦ rw (there, before, apart) refl
        | inr after ↦ rw (there, after) (ap (λ o. if x.id == k then Some x else o) (row-other r k xs apart))
      ]
    ]
