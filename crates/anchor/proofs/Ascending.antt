-- The ascending order of COUNTs: the one sorted list that has each of them as often.
use Rattle.std.proofs.Common.{ℕ, zero, suc, ◌≡◌, ◌+◌, ◌<◌, ◌≤◌, ◌==◌, ltb, if◌then◌else◌, true, false, List, [], ◌∷◌, length, refl, sym, ◌∙◌, ap, arith, inl, inr, slice_index_or}
use Rattle.std.specs.Prelude.{sum_by}
use Rattle.std.specs.List.Sorted.{IsPermutation, IsSorted, IsNonDecreasingBy}
use Rattle.std.specs.Ordering.{nat_cmp}
use Rattle.std.proofs.lemmas.Bool.{cases_Bool, ltb-true, ltb-false}
use Rattle.std.proofs.lemmas.Bool.Decides.{nat_tests}
use Rattle.std.proofs.lemmas.List.Sorted.{sum_by-IsPermutation, IsNonDecreasingBy-from_sort}
use Rattle.std.proofs.lemmas.List.Sums.{sum_by-cons}
use Rattle.node_rules.specs.AnchorReceiving.{in_place, ascending}

-- they ascend, and none is below b
abbrev pub Up : ℕ → List ℕ → Type 0
Up b [] = Unit {0}
Up b (x ∷ xs) = (b ≤ x) × Up x xs

-- 1 for this COUNT, 0 for another
abbrev times : ℕ → ℕ → ℕ
times k x = if x == k then 1 else 0

Up-in_place : (b c : ℕ) (xs : List ℕ) → b ≤ c → Up b xs → Up b (in_place c xs)
Up-in_place b c [] le up = (le, tt)
Up-in_place b c (x ∷ xs) le up =
    elim (cases_Bool (ltb x c)) [
      | inl yes' ↦ let lt = ltb-true x c yes' in rw yes' (up.0, Up-in_place x c xs (omega arith) up.1)
      | inr no' ↦ let le' = ltb-false x c no' in rw no' (le, (le', up.1))
    ]

Up-ascending : (xs : List ℕ) → Up 0 (ascending xs)
Up-ascending [] = tt
Up-ascending (x ∷ xs) = Up-in_place 0 x (ascending xs) (omega arith) (Up-ascending xs)

sum-in_place : (f : ℕ → ℕ) (c : ℕ) (xs : List ℕ) → sum_by f (in_place c xs) ≡ f c + sum_by f xs
sum-in_place f c [] = sum_by-cons f c []
sum-in_place f c (x ∷ xs) =
    elim (cases_Bool (ltb x c)) [
      | inl yes' ↦ rw yes' (omega (arith, sum_by-cons f x (in_place c xs), sum-in_place f c xs, sum_by-cons f x xs))
      | inr no' ↦ rw no' (sum_by-cons f c (x ∷ xs))
    ]

sum-ascending : (f : ℕ → ℕ) (xs : List ℕ) → sum_by f (ascending xs) ≡ sum_by f xs
sum-ascending f [] = refl
sum-ascending f (x ∷ xs) = omega (arith, sum-in_place f x (ascending xs), sum-ascending f xs, sum_by-cons f x xs)

times_same : (k : ℕ) → times k k ≡ 1
times_same k = grind (arith, nat_tests)

times_other : (k x : ℕ) → k < x → times k x ≡ 0
times_other k x lt = grind (arith, nat_tests)

none_below : (k b : ℕ) (xs : List ℕ) → k < b → Up b xs → sum_by (times k) xs ≡ 0
none_below k b [] lt up = refl
none_below k b (x ∷ xs) lt up = omega (arith, sum_by-cons (times k) x xs, times_other k x (omega (arith, up.0)), none_below k x xs (omega (arith, up.0)) up.1)

-- the first of the one is not below that of the other
first_le : (x y : ℕ) (xs ys : List ℕ) → Up y ys → sum_by (times x) (x ∷ xs) ≡ sum_by (times x) (y ∷ ys) → y ≤ x
first_le x y xs ys up eq =
    elim (cases_Bool (ltb x y)) [
      | inl yes' ↦ let lt = ltb-true x y yes' in absurd (omega (arith, eq, sum_by-cons (times x) x xs, times_same x, sum_by-cons (times x) y ys, times_other x y lt, none_below x y ys lt up))
      | inr no' ↦ ltb-false x y no'
    ]

same_sorted : (a b : ℕ) (xs ys : List ℕ) → Up a xs → Up b ys → ((k : ℕ) → sum_by (times k) xs ≡ sum_by (times k) ys) → xs ≡ ys
same_sorted a b [] [] up up' eq = refl
same_sorted a b [] (y ∷ ys) up up' eq = absurd (omega (arith, eq y, sum_by-cons (times y) y ys, times_same y))
same_sorted a b (x ∷ xs) [] up up' eq = absurd (omega (arith, eq x, sum_by-cons (times x) x xs, times_same x))
same_sorted a b (x ∷ xs) (y ∷ ys) up up' eq =
    let le = first_le x y xs ys up'.1 (eq x) in
    let ge = first_le y x ys xs up.1 (sym (eq y)) in
    let is : x ≡ y = omega arith in
    let rest = same_sorted x y xs ys up.1 up'.1 (λ k. omega (arith, eq k, sum_by-cons (times k) x xs, sum_by-cons (times k) y ys, ap (times k) is)) in
    cc

Up-non_decreasing : (b : ℕ) (ys : List ℕ) → (0 < length ys → b ≤ slice_index_or ys 0 0) → IsNonDecreasingBy (λ x. x) ys → Up b ys
Up-non_decreasing b [] first up = tt
Up-non_decreasing b (y ∷ ys) first up =
    (first (omega arith), Up-non_decreasing y ys (λ some. up 0 1 0 (omega arith) (omega arith)) (λ i j d le lt. up (suc i) (suc j) d (omega arith) (omega arith)))

-- the sorted list that has the same COUNTs
pub ascending-is : (xs ys : List ℕ) → IsPermutation xs ys → IsSorted nat_cmp ys → ys ≡ ascending xs
ascending-is xs ys moved sorted =
    same_sorted 0 0 ys (ascending xs) (Up-non_decreasing 0 ys (λ some. omega arith) (IsNonDecreasingBy-from_sort (λ x. x) ys sorted)) (Up-ascending xs)
    (λ k. sum_by-IsPermutation (times k) xs ys moved ∙ sym (sum-ascending (times k) xs))
