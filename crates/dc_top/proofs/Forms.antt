-- The words of the command line.
use Rattle.std.proofs.Common.{ℕ, ◌≡◌, ◌≤◌, ◌<◌, Bool, true, List, [], ◌∷◌, length, map, sym, ap, ◌∙◌, arith}
use Rattle.std.specs.Prelude.{slice_index_or, bytes_eq}
use Rattle.std.proofs.lemmas.Slice.Eq.{bytes_eq-Decides}

-- a list of one is mapped to that one
pub map-one : {A B : Type 0} (f : A → B) (xs : List A) (x : A) → 1 ≤ length xs → length xs < 2 → x ≡ slice_index_or xs 0 x → map f xs ≡ f x ∷ []
map-one f [] x least most is = absurd (omega arith)
map-one f (y ∷ []) x least most is = ap (λ z. f z ∷ []) (sym is)
map-one f (y ∷ z ∷ xs) x least most is = absurd (omega arith)

-- so a test of the one word is a test of the list
pub only_word : {A : Type 0} (f : A → List ℕ) (xs : List A) (x : A) (r : Bool) (text : List ℕ) → 1 ≤ length xs → length xs < 2 → x ≡ slice_index_or xs 0 x
    → r ≡ bytes_eq (f x) text → (r ≡ true → map f xs ≡ text ∷ []) × (map f xs ≡ text ∷ [] → r ≡ true)
only_word f xs x r text least most is tested =
    let one = map-one f xs x least most is in
    let decides = bytes_eq-Decides (f x) text in (
      λ yes'. one ∙ ap (λ z. z ∷ []) (decides.0 (sym tested ∙ yes')),
      λ same. tested ∙ decides.1 (let both : f x ∷ [] ≡ text ∷ [] = sym one ∙ same in cc),
    )
