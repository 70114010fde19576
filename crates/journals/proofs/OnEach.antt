-- What is so of each element, by recursion on the list.
use Rattle.std.proofs.Common.{Bool, List, [], inl, inr, ◌++◌, ◌∷◌}
use Rattle.std.proofs.lemmas.Bool.{cases_Bool}
use Rattle.std.specs.List.{AllByRecursion, filter}

module _ {X : Type 0} (P : X → Type 0) where
  pub each_append : (xs ys : List X) → AllByRecursion P xs → AllByRecursion P ys → AllByRecursion P (xs ++ ys)
  each_append [] ys all more = more
  each_append (x ∷ xs) ys all more = (all.0, each_append xs ys all.1 more)

  pub each_weaker : (Q : X → Type 0) → ((x : X) → P x → Q x) → (xs : List X) → AllByRecursion P xs → AllByRecursion Q xs
  each_weaker Q so [] all = tt
  each_weaker Q so (x ∷ xs) all = (so x all.0, each_weaker Q so xs all.1)

  pub each_both : (Q : X → Type 0) (xs : List X) → AllByRecursion P xs → AllByRecursion Q xs → AllByRecursion (λ x. P x × Q x) xs
  each_both Q [] p q = tt
  each_both Q (x ∷ xs) p q = ((p.0, q.0), each_both Q xs p.1 q.1)

  pub each_filter : (test : X → Bool) (xs : List X) → AllByRecursion P xs → AllByRecursion P (filter test xs)
  each_filter test [] all = tt
  each_filter test (x ∷ xs) all =
      elim (cases_Bool (test x)) [ inl yes' ↦ rw yes' (all.0, each_filter test xs all.1) | inr no' ↦ rw no' (each_filter test xs all.1) ]
