-- Lists of payloads and of their COUNTs: places in them, and one more at the end.
use Rattle.std.proofs.Common.{ℕ, zero, suc, ◌≡◌, ◌+◌, ◌<◌, ◌≤◌, ◌==◌, ◌||◌, ◌++◌, Bool, true, false, not, List, [], ◌∷◌, Some, length, take, slice_get, refl, ap, ◌∙◌, subst, arith, inl, inr, ◌⊎◌, drop, ◌&&◌}
use Rattle.std.specs.Prelude.{filter}
use Rattle.std.specs.List.{AllByRecursion}
use Rattle.std.proofs.lemmas.Bool.{cases_Bool, eqb-true, or_cases, or_right}
use Rattle.std.proofs.lemmas.Bool.Decides.{nat_tests}
use Rattle.pdcp_tx.specs.Sender.{Entry, least, is_kept, Rises}
use Rattle.pdcp_tx.proofs.Entries.{Rises-bounds}
use Rattle.pdcp_rx.specs.Run.{IsConsecutive, run_from}
use Rattle.transcript.specs.Bearers.{Confirmation, is_confirmed, numbered, least_but}
use Rattle.pdcp_rx.specs.Entries.{is_stored, with_sdu}

-- a place of the first list is one of the two
pub slice_get_left : {X : Type 0} (xs ys : List X) (k : ℕ) (x : X) → slice_get xs k ≡ Some x → slice_get (xs ++ ys) k ≡ Some x
slice_get_left [] ys k x h = absurd cc
slice_get_left (y ∷ xs) ys zero x h = h
slice_get_left (y ∷ xs) ys (suc k) x h = slice_get_left xs ys k x h

-- a place of the second list, after the first
pub slice_get_right : {X : Type 0} (xs ys : List X) (k : ℕ) (y : X) → slice_get ys k ≡ Some y → slice_get (xs ++ ys) (length xs + k) ≡ Some y
slice_get_right [] ys k y at = subst (λ i. slice_get ys i ≡ Some y) (omega arith) at
slice_get_right (x ∷ xs) ys k y at =
    let next : suc (length xs + k) ≡ suc (length xs) + k = omega arith in
    subst (λ i. slice_get (x ∷ (xs ++ ys)) i ≡ Some y) next (slice_get_right xs ys k y at)

-- the last place
pub slice_get_last : {X : Type 0} (xs : List X) (x : X) → slice_get (xs ++ x ∷ []) (length xs) ≡ Some x
slice_get_last [] x = refl
slice_get_last (y ∷ xs) x = slice_get_last xs x

-- one more element is taken
pub take_next : {X : Type 0} (xs : List X) (k : ℕ) (x : X) → slice_get xs k ≡ Some x → take (suc k) xs ≡ take k xs ++ x ∷ []
take_next [] k x h = absurd cc
take_next (y ∷ xs) zero x h = cc
take_next (y ∷ xs) (suc k) x h = let more = take_next xs k x h in cc

-- what is so of each is so of each that passes a test
pub each_filter : {X : Type 0} (P : X → Type 0) (test : X → Bool) (xs : List X) → AllByRecursion P xs → AllByRecursion P (filter test xs)
each_filter P test [] all = tt
each_filter P test (x ∷ xs) all =
    elim (cases_Bool (test x)) [ inl yes' ↦ rw yes' (all.0, each_filter P test xs all.1) | inr no' ↦ rw no' (each_filter P test xs all.1) ]

-- the COUNTs go on where the first payloads end
pub numbered-append : (c : ℕ) (xs ys : List (List ℕ)) → numbered c (xs ++ ys) ≡ numbered c xs ++ numbered (c + length xs) ys
numbered-append c [] ys = ap (λ k. numbered k ys) (omega arith)
numbered-append c (x ∷ xs) ys =
    ap (λ (es : List (ℕ × List ℕ)). (c, x) ∷ es)
    (numbered-append (c + 1) xs ys ∙ ap (λ k. numbered (c + 1) xs ++ numbered k ys) (omega arith))

-- ---- what is kept

-- a COUNT that is kept is not below the least
pub least_upto : (next c : ℕ) (es : List Entry) → is_kept es c ≡ true → least next es ≤ c
least_upto next c [] kept = absurd cc
least_upto next c (e ∷ es) kept =
    elim (or_cases (e.0 == c) (is_kept es c) kept) [
      | inl here ↦ let is = eqb-true e.0 c here in omega arith
      | inr later ↦ let rest = least_upto next c es later in omega arith
    ]

-- one more is kept: those below it are as before
pub kept_before : (next c : ℕ) (p : List ℕ) (es : List Entry) → c < next → is_kept (es ++ (next, p) ∷ []) c ≡ is_kept es c
kept_before next c p [] lt = grind (arith, nat_tests)
kept_before next c p (e ∷ es) lt = ap (λ b. (e.0 == c) || b) (kept_before next c p es lt)

-- and it is kept itself
pub kept_same : (next c : ℕ) (p : List ℕ) (es : List Entry) → next ≡ c → is_kept (es ++ (next, p) ∷ []) c ≡ true
kept_same next c p [] is = grind (arith, nat_tests)
kept_same next c p (e ∷ es) is = or_right (e.0 == c) _ (kept_same next c p es is)

-- where the first COUNT is not kept, they rise from the one after it
pub Rises-past : (c next : ℕ) (es : List Entry) → c < next → is_kept es c ≡ false → Rises c next es → Rises (c + 1) next es
Rises-past c next [] lt none up = omega arith
Rises-past c next (e ∷ es) lt none up =
    elim (cases_Bool (e.0 == c)) [
      | inl here ↦ absurd (grind (arith, nat_tests))
      | inr apart ↦ (grind (arith, nat_tests, up.0), up.1)
    ]

-- nothing is kept where no COUNT was given
Rises-none : (c : ℕ) (es : List Entry) → Rises c c es → least c es ≡ c
Rises-none c es up = let bounds = Rises-bounds c c es up in omega (arith, bounds.0, bounds.1)

-- a COUNT is left where it is neither among these nor the one
pub but_one : (b i : Bool) → (not b && not i) ≡ not (b || (i || false))
but_one true i = refl
but_one false true = refl
but_one false false = refl

-- where what is kept are the COUNTs not confirmed, the least kept is the least not confirmed
pub least_is : (confirms : List Confirmation) (k c : ℕ) (es : List Entry) → Rises c (c + k) es
    → ((d : ℕ) → c ≤ d → d < c + k → is_kept es d ≡ not (is_confirmed confirms d)) → least (c + k) es ≡ least_but confirms c k
least_is confirms zero c es up are = let end : c + zero ≡ c = omega arith in rw end (Rises-none c es (subst (λ k. Rises c k es) end up))
least_is confirms (suc k) c es up are =
    let here = are c (omega arith) (omega arith) in
    elim (cases_Bool (is_confirmed confirms c)) [
      | inl gone ↦
          let end : c + suc k ≡ c + 1 + k = omega arith in
          let past = Rises-past c (c + suc k) es (omega arith) (here ∙ ap not gone) up in
          rw gone (ap (λ m. least m es) end ∙ least_is confirms k (c + 1) es (subst (λ m. Rises (c + 1) m es) end past) (λ d from below. are d (omega arith) (omega arith)))
      | inr left ↦
          let upto = least_upto (c + suc k) c es (here ∙ ap not left) in
          let bounds = Rises-bounds c (c + suc k) es up in
          rw left (omega (arith, bounds.0))
    ]

-- ---- what is stored

-- nothing else than c is stored with it
pub is_stored-with_sdu_other : (b c : ℕ) (p : List ℕ) (es : List (ℕ × List ℕ)) → is_stored b (with_sdu c p es) ≡ true → (b ≡ c) ⊎ (is_stored b es ≡ true)
is_stored-with_sdu_other b c p [] h = grind (arith, nat_tests)
is_stored-with_sdu_other b c p (e ∷ es) h = grind (arith, nat_tests, is_stored-with_sdu_other b c p es)

-- each COUNT of a run was stored
pub run_stored : (c d : ℕ) (es : List (ℕ × List ℕ)) → c ≤ d → d < c + length (run_from c es) → is_stored d es ≡ true
run_stored c d [] le lt = absurd (omega arith)
run_stored c d (e ∷ es) le lt = grind (arith, nat_tests, run_stored (c + 1) d es)

-- what is left was there
pub stored_before_drop : (k c : ℕ) (es : List (ℕ × List ℕ)) → is_stored c (drop k es) ≡ true → is_stored c es ≡ true
stored_before_drop zero c es h = h
stored_before_drop (suc k) c [] h = absurd cc
stored_before_drop (suc k) c (e ∷ es) h = grind (arith, nat_tests, stored_before_drop k c es)

-- ---- what goes up

-- consecutive COUNTs are not below the first
pub consecutive_from : (a c : ℕ) (es : List (ℕ × List ℕ)) → a ≤ c → IsConsecutive c es → AllByRecursion (λ u. a ≤ u.0) es
consecutive_from a c [] le run = tt
consecutive_from a c (e ∷ es) le run = (omega (arith, run.0), consecutive_from a (c + 1) es (omega arith) run.1)

-- two facts of each element are one
pub each_both : {X : Type 0} (P Q : X → Type 0) (xs : List X) → AllByRecursion P xs → AllByRecursion Q xs → AllByRecursion (λ x. P x × Q x) xs
each_both P Q [] all more = tt
each_both P Q (x ∷ xs) all more = ((all.0, more.0), each_both P Q xs all.1 more.1)
