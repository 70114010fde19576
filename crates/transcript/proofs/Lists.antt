-- Lists from their end, and their elements.
use Rattle.std.proofs.Common.{◌≡◌, List, [], ◌∷◌, ◌++◌, Bool, sym, subst, append_assoc, append-nil, Contains, filter, arith, inl, inr}
use Rattle.std.proofs.lemmas.List.Elements.{All-filter, All-contains, All-contains_itself, Contains-push_cases}

-- what holds of no elements, and of one more at the end, holds of each list
module _ {A : Type 0} (P : List A → Type 0) (more : (t : List A) (e : A) → P t → P (t ++ e ∷ [])) where
  by_pushes-from : (before es : List A) → P before → P (before ++ es)
  by_pushes-from before [] so = subst P (sym (append-nil before)) so
  by_pushes-from before (e ∷ es) so = subst P (append_assoc before (e ∷ []) es) (by_pushes-from (before ++ e ∷ []) es (more before e so))

  pub by_pushes : P [] → (t : List A) → P t
  by_pushes none t = by_pushes-from [] t none

module _ {A : Type 0} where
  -- what a filter keeps was there before
  pub contains_kept : (test : A → Bool) (xs : List A) (x : A) → Contains (filter test xs) x → Contains xs x
  contains_kept test xs x there = All-contains (Contains xs) (filter test xs) x (All-filter test (Contains xs) xs (All-contains_itself xs)) there

  -- the empty list has no element
  pub contains-none : (x : A) → Contains [] x → ⊥
  contains-none x there = let lt = there.1 in absurd (omega arith)

  -- a list of one element has no other
  pub contains_one : (x y : A) → Contains (x ∷ []) y → x ≡ y
  contains_one x y there = elim (Contains-push_cases [] x y there) [ inl none ↦ absurd (contains-none y none) | inr same ↦ same ]
