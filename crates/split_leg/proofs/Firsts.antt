-- The place of the first PDU that a test finds.
use Rattle.std.proofs.Common.{◌≡◌, ◌∙◌, ℕ, zero, suc, ◌<◌, ◌≤◌, Bool, true, false, ◌||◌, List, [], ◌∷◌, ◌++◌, length, take, get_or, set, ltb, Option, Some, None, ⊎_elim, ap, sym, refl, arith}
use Rattle.std.specs.List.{list_any}
use Rattle.std.proofs.lemmas.Bool.{cases_lt}
use Rattle.std.proofs.lemmas.Bool.Decides.{nat_tests}
use Rattle.std.proofs.lemmas.List.{take-append-le, take_all, length-append}
use Rattle.std.proofs.lemmas.List.Folds.{list_any-append}
use Rattle.split_leg.specs.Indexes.{is_below, first_after}

-- the first element that passes test c is at place `first c`
abbrev IsFirsts : {X : Type 0} → (ℕ → X → Bool) → List X → (ℕ → Option ℕ) → Type 0
IsFirsts test xs first = (c k : ℕ) → list_any (test c) (take k xs) ≡ is_below k (first c)

-- a place that is known is within the list
first_within : {X : Type 0} (test : ℕ → X → Bool) (xs : List X) (f : ℕ → Option ℕ) → IsFirsts test xs f → (c n : ℕ) → f c ≡ Some n → n < length xs
first_within test xs f h c n e =
    ⊎_elim (λ less. less)
    (λ past.
    let after : list_any (test c) (take (suc n) xs) ≡ ltb n (suc n) = h c (suc n) ∙ ap (is_below (suc n)) e in
    let all : list_any (test c) (take (length xs) xs) ≡ ltb n (length xs) = h c (length xs) ∙ ap (is_below (length xs)) e in
    let same : ltb n (length xs) ≡ ltb n (suc n) =
    sym all ∙ ap (list_any (test c)) (take_all (length xs) xs (omega arith)) ∙ sym (ap (list_any (test c)) (take_all (suc n) xs (omega arith))) ∙ after in
    grind (arith, nat_tests, same))
    (cases_lt n (length xs))

below_after : (o : Option ℕ) (b : Bool) (len k : ℕ) → k ≤ len → is_below k o ≡ is_below k (first_after b len o)
below_after (Some n) b len k le = refl
below_after None true len k le = grind (arith, nat_tests)
below_after None false len k le = refl

below_pushed : (o : Option ℕ) (b : Bool) (len k : ℕ) → ((n : ℕ) → o ≡ Some n → n < len) → len < k → is_below len o || (b || false) ≡ is_below k (first_after b len o)
below_pushed (Some n) b len k inside lt = let within : n < len = inside n refl in grind (arith, nat_tests)
below_pushed None true len k inside lt = grind (arith, nat_tests)
below_pushed None false len k inside lt = refl

-- after one more element
pub firsts_push : {X : Type 0} (test : ℕ → X → Bool) (xs : List X) (f g : ℕ → Option ℕ) (x : X) → ((c k : ℕ) → list_any (test c) (take k xs) ≡ is_below k (f c))
    → ((c : ℕ) → g c ≡ first_after (test c x) (length xs) (f c)) → (c k : ℕ) → list_any (test c) (take k (xs ++ x ∷ [])) ≡ is_below k (g c)
firsts_push test xs f g x h notes c k =
    ⊎_elim
    (λ past.
    let long : length (xs ++ x ∷ []) ≤ k = omega (arith, length-append xs (x ∷ [])) in
    let all : list_any (test c) xs ≡ is_below (length xs) (f c) = ap (list_any (test c)) (sym (take_all (length xs) xs (omega arith))) ∙ h c (length xs) in
    ap (list_any (test c)) (take_all k (xs ++ x ∷ []) long) ∙ list_any-append (test c) xs (x ∷ [])
    ∙ ap (λ b. b || (test c x || false)) all ∙ below_pushed (f c) (test c x) (length xs) k (first_within test xs f h c) past ∙ ap (is_below k) (sym (notes c)))
    (λ within.
    ap (list_any (test c)) (take-append-le k xs (x ∷ []) within) ∙ h c k ∙ below_after (f c) (test c x) (length xs) k within ∙ ap (is_below k) (sym (notes c)))
    (cases_lt (length xs) k)

-- an element in place of one with the same answer changes no answer
pub same_any : {X : Type 0} (test : X → Bool) (k : ℕ) (xs : List X) (i : ℕ) (q r : X) → r ≡ get_or xs i r → test q ≡ test r → list_any test (take k (set xs i q)) ≡ list_any test (take k xs)
same_any test zero xs i q r read same = refl
same_any test (suc k) [] i q r read same = refl
same_any test (suc k) (x ∷ xs) zero q r read same = ap (λ b. b || list_any test (take k xs)) (same ∙ ap test read)
same_any test (suc k) (x ∷ xs) (suc i) q r read same = ap (λ b. test x || b) (same_any test k xs i q r read same)
