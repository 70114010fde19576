-- What is seen of each identity, after something is held of one of them from now on.
use Rattle.std.proofs.Common.{ℕ, ◌≡◌, ◌==◌, List, Some, ap, subst, ◌∙◌, sym, inl, inr}
use Rattle.std.specs.Prelude.{if◌then◌else◌}
use Rattle.std.specs.Option.{option_map}
use Rattle.std.proofs.lemmas.Bool.{cases_Bool, eqb-true}
use Rattle.node_rules.specs.Held.{held, holding}
use Rattle.master_runs.proofs.Holding.{held-other, held-same}

module _ {X : Type 0} where
  -- what is seen of each identity, after one of them is held
  pub seen_with : {Y : Type 0} (f : X → Y) (id k : ℕ) (x : X) (xs : List (ℕ × X))
      → option_map f (held k (holding id (Some x) xs)) ≡ (if id == k then Some (f x) else option_map f (held k xs))
  seen_with f id k x xs =
      elim (cases_Bool (id == k)) [
        | inl same ↦ rw same (subst (λ j. option_map f (held j (holding id (Some x) xs)) ≡ Some (f x)) (eqb-true id k same) (ap (λ o. option_map f o) (held-same id x xs)))
        | inr apart ↦ rw apart (ap (λ o. option_map f o) (held-other id k x xs apart))
      ]

  -- after something is held that is seen as what was held before
  pub seen_again : {Y : Type 0} (f : X → Y) (id k : ℕ) (x y : X) (xs : List (ℕ × X)) → held id xs ≡ Some y → f x ≡ f y
      → option_map f (held k (holding id (Some x) xs)) ≡ option_map f (held k xs)
  seen_again f id k x y xs at same =
      elim (cases_Bool (id == k)) [
        | inl here ↦
            subst (λ j. option_map f (held j (holding id (Some x) xs)) ≡ option_map f (held j xs)) (eqb-true id k here)
            (ap (λ o. option_map f o) (held-same id x xs) ∙ ap (λ z. Some z) same ∙ sym (ap (λ o. option_map f o) at))
        | inr apart ↦ ap (λ o. option_map f o) (held-other id k x xs apart)
      ]
