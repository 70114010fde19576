-- Ascending lists of COUNTs, and which COUNTs are among them.
use Rattle.std.proofs.Common.{ℕ, zero, suc, ◌≡◌, ◌+◌, ◌-◌, ◌<◌, ◌≤◌, ◌==◌, true, false, List, [], ◌∷◌, Some, length, take, get_or, refl, ap, ◌∙◌, subst, arith, inl, inr}
use Rattle.std.specs.List.{All, AllByRecursion, slice_get}
use Rattle.std.specs.List.Sorted.{IsStrictlyIncreasing}
use Rattle.std.proofs.lemmas.Bool.{or_cases, eqb-true, ne_eqb}
use Rattle.std.proofs.lemmas.List.Elements.{recursion_from_All}
use Rattle.pdcp_pdu.specs.Bitmap.{is_among, last_or}

-- the numbers rise, and all are above c
abbrev pub Ascending : ℕ → List ℕ → Type 0
Ascending c [] = Unit {0}
Ascending c (x ∷ xs) = (c < x) × Ascending x xs

from_increasing : (c : ℕ) (xs : List ℕ) → IsStrictlyIncreasing xs → (0 < length xs → c < get_or xs 0 0) → Ascending c xs
from_increasing c [] rise above = tt
from_increasing c (x ∷ xs) rise above = (above (omega arith), from_increasing x xs (λ k h. let next : suc k + 1 ≡ suc (k + 1) = omega arith in subst (λ (j : ℕ). get_or xs k 0 < get_or (x ∷ xs) j 0) next (rise (suc k) (omega arith))) (λ h. rise 0 (omega arith)))

pub ascending : (c : ℕ) (xs : List ℕ) → IsStrictlyIncreasing xs → All (λ x. c < x) xs → Ascending c xs
ascending c xs rise above = from_increasing c xs rise (first xs (recursion_from_All (λ x. c < x) xs above))
  where
    first : (xs : List ℕ) → AllByRecursion (λ x. c < x) xs → 0 < length xs → c < get_or xs 0 0
    first [] above some = absurd (omega arith)
    first (x ∷ xs) above some = above.0

pub get_or-above : (c : ℕ) (xs : List ℕ) (i : ℕ) → Ascending c xs → i < length xs → c < get_or xs i 0
get_or-above c [] i up h = absurd (omega arith)
get_or-above c (x ∷ xs) zero up h = up.0
get_or-above c (x ∷ xs) (suc i) up h = let later = get_or-above x xs i up.1 (omega arith) in omega (arith, up.0)

-- none of those before place i is the one there
pub none_before : (c : ℕ) (xs : List ℕ) (i : ℕ) → Ascending c xs → i < length xs → is_among (take i xs) (get_or xs i 0) ≡ false
none_before c [] i up h = absurd (omega arith)
none_before c (x ∷ xs) zero up h = refl
none_before c (x ∷ xs) (suc i) up h =
    let here : x == get_or xs i 0 ≡ false = ne_eqb _ _ (λ same. let later = get_or-above x xs i up.1 (omega arith) in omega arith) in
    rw here (none_before x xs i up.1 (omega arith))

pub among_above : (c : ℕ) (xs : List ℕ) (d : ℕ) → Ascending c xs → is_among xs d ≡ true → c < d
among_above c [] d up h = absurd cc
among_above c (x ∷ xs) d up h =
    elim (or_cases _ _ h) [
      | inl here ↦ let same = eqb-true x d here in omega (arith, up.0)
      | inr there ↦ let later = among_above x xs d up.1 there in omega (arith, up.0)
    ]

pub last_above : (c : ℕ) (xs : List ℕ) → Ascending c xs → c ≤ last_or c xs
last_above c [] up = omega arith
last_above c (x ∷ xs) up = let later = last_above x xs up.1 in omega (arith, up.0)

pub among_last : (c : ℕ) (xs : List ℕ) (d : ℕ) → Ascending c xs → is_among xs d ≡ true → d ≤ last_or c xs
among_last c [] d up h = absurd cc
among_last c (x ∷ xs) d up h =
    elim (or_cases _ _ h) [
      | inl here ↦ let same = eqb-true x d here in let later = last_above x xs up.1 in omega arith
      | inr there ↦ among_last x xs d up.1 there
    ]

pub among_small : (b : ℕ) (xs : List ℕ) (d : ℕ) → ((i : ℕ) → get_or xs i 0 < b) → is_among xs d ≡ true → d < b
among_small b [] d small h = absurd cc
among_small b (x ∷ xs) d small h =
    elim (or_cases _ _ h) [
      | inl here ↦ let same = eqb-true x d here in let first : x < b = small 0 in omega arith
      | inr there ↦ among_small b xs d (λ i. small (suc i)) there
    ]

-- the last of a list that is not empty
pub last_is : (c : ℕ) (xs : List ℕ) (l : ℕ) → Some l ≡ slice_get xs (length xs - 1) → last_or c xs ≡ l
last_is c [] l e = absurd cc
last_is c (x ∷ []) l e = cc
last_is c (x ∷ y ∷ xs) l e =
    let n : suc (suc (length xs)) - 1 ≡ suc (suc (length xs) - 1) = omega arith in
    last_is x (y ∷ xs) l (e ∙ ap (λ (i : ℕ). slice_get (x ∷ y ∷ xs) i) n)
