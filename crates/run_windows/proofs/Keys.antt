-- What is held by ascending identities, with one taken out or put in.
use Rattle.std.proofs.Common.{ℕ, ◌≡◌, ◌≤◌, ◌<◌, ◌+◌, ◌==◌, ◌⊎◌, false, List, [], ◌∷◌, Some, None, refl, sym, ap, ◌∙◌, arith, inl, inr}
use Rattle.std.proofs.Common.{Less, Equal, Greater}
use Rattle.std.specs.Prelude.{if◌then◌else◌}
use Rattle.std.specs.Ordering.{nat_cmp}
use Rattle.std.specs.Cmp.{nat_cmp_is}
use Rattle.std.proofs.lemmas.Bool.{cases_order, eqb-false, ne_eqb}
use Rattle.node_rules.specs.Held.{held, holding}
use Rattle.master_runs.proofs.Holding.{held-cons}
use Rattle.run_windows.specs.Windows.{Ascends}

-- how two numbers compare
compared : (a b : ℕ) → ((nat_cmp a b ≡ Less) × (a < b)) ⊎ (((nat_cmp a b ≡ Equal) × (a ≡ b)) ⊎ ((nat_cmp a b ≡ Greater) × (b < a)))
compared a b =
    elim (cases_order a b) [
      | inl same ↦ inr (inl (sym (nat_cmp_is a b Equal same), same))
      | inr apart ↦ elim apart [
        | inl less ↦ inl (sym (nat_cmp_is a b Less less), less)
        | inr more ↦ inr (inr (sym (nat_cmp_is a b Greater more), more))
      ]
    ]

module _ {X : Type 0} where
  weaker : (low more : ℕ) (es : List (ℕ × X)) → low ≤ more → Ascends more es → Ascends low es
  weaker low more [] le up = tt
  weaker low more (e ∷ es) le up = (omega (arith, up.0), up.1)

  none_below : (low k : ℕ) (es : List (ℕ × X)) → Ascends low es → k < low → held k es ≡ None
  none_below low k [] up below = refl
  none_below low k (e ∷ es) up below =
      held-cons k e es ∙ ap (λ b. if b then Some e.1 else held k es) (ne_eqb k e.0 (λ same. omega (arith, up.0)))
      ∙ none_below (e.0 + 1) k es up.1 (omega (arith, up.0))

  pub ascends-put : (low k : ℕ) (x : X) (es : List (ℕ × X)) → low ≤ k → Ascends low es → Ascends low (holding k (Some x) es)
  ascends-put low k x [] above up = (above, tt)
  ascends-put low k x (e ∷ es) above up =
      elim (compared k e.0) [
        | inl less ↦ rw less.0 (above, (omega (arith, less.1), up.1))
        | inr rest ↦ elim rest [
          | inl same ↦ rw same.0 (up.0, up.1)
          | inr more ↦ rw more.0 (up.0, ascends-put (e.0 + 1) k x es (omega (arith, more.1)) up.1)
        ]
      ]

  pub ascends-out : (low k : ℕ) (es : List (ℕ × X)) → Ascends low es → Ascends low (holding k None es)
  ascends-out low k [] up = tt
  ascends-out low k (e ∷ es) up =
      elim (compared k e.0) [
        | inl less ↦ rw less.0 (up.0, ascends-out (e.0 + 1) k es up.1)
        | inr rest ↦ elim rest [
          | inl same ↦ rw same.0 (weaker low (e.0 + 1) es (omega (arith, up.0)) up.1)
          | inr more ↦ rw more.0 (up.0, ascends-out (e.0 + 1) k es up.1)
        ]
      ]

  -- what is taken out is not there
  pub out-same : (low k : ℕ) (es : List (ℕ × X)) → Ascends low es → held k (holding k None es) ≡ None
  out-same low k [] up = refl
  out-same low k (e ∷ es) up =
      elim (compared k e.0) [
        | inl less ↦ rw (less.0, less.0) (out-same (e.0 + 1) k es up.1)
        | inr rest ↦ elim rest [
          | inl same ↦ rw same.0 (none_below (e.0 + 1) k es up.1 (omega (arith, same.1)))
          | inr more ↦ rw (more.0, more.0) (out-same (e.0 + 1) k es up.1)
        ]
      ]

  -- what is held of others stays
  pub out-other : (k j : ℕ) (es : List (ℕ × X)) → (k == j) ≡ false → held j (holding k None es) ≡ held j es
  out-other k j [] apart = refl
  out-other k j (e ∷ es) apart =
      let rest = out-other k j es apart in
      let keeps : held j (e ∷ holding k None es) ≡ held j (e ∷ es) = held-cons j e (holding k None es) ∙ ap (λ o. if j == e.0 then Some e.1 else o) rest ∙ sym (held-cons j e es) in
      elim (compared k e.0) [
        | inl less ↦ rw less.0 keeps
        | inr more ↦ elim more [
          | inl same ↦ rw same.0 (sym (held-cons j e es ∙ ap (λ b. if b then Some e.1 else held j es) (ne_eqb j e.0 (λ here. eqb-false k j apart (same.1 ∙ sym here)))))
          | inr greater ↦ rw greater.0 keeps
        ]
      ]
