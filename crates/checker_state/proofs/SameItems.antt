-- Lists of items of different lengths are not the same.
use Rattle.std.proofs.Common.{◌≡◌, suc, false, List, [], ◌∷◌, length, refl, ap, inl, inr}
use Rattle.std.proofs.lemmas.Bool.{cases_Bool}
use Rattle.dc_base.specs.declared.records.Item.{Item}
use Rattle.claims.specs.Sameness.{are_same_items, is_same_item}

pub other_length : (xs ys : List Item) → (length xs ≡ length ys → ⊥) → false ≡ are_same_items xs ys
other_length [] [] apart = absurd (apart refl)
other_length [] (y ∷ ys) apart = refl
other_length (x ∷ xs) [] apart = refl
other_length (x ∷ xs) (y ∷ ys) apart = elim (cases_Bool (is_same_item x y)) [
  | inl e ↦ rw e (other_length xs ys (λ same. apart (ap suc same)))
  | inr e ↦ rw e refl
]
