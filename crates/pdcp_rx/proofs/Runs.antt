-- The laws of the run: it is consecutive, the COUNT after it is not stored, and it is the front of what is stored.
use Rattle.std.proofs.Common.{ℕ, ◌≡◌, ◌+◌, ◌<◌, ◌≤◌, ◌⊎◌, ◌==◌, ◌++◌, true, false, List, [], ◌∷◌, zero, suc, Some, length, take, drop, slice_get, refl, sym, ap, subst, add-zero, arith, inl, inr}
use Rattle.std.proofs.lemmas.Bool.Decides.{nat_tests}
use Rattle.std.proofs.lemmas.Bool.{cases_Bool, eqb-true}
use Rattle.pdcp_rx.specs.Entries.{Entry, AscendFrom, is_stored}
use Rattle.pdcp_rx.specs.Run.{IsConsecutive, run_from}
use Rattle.pdcp_rx.proofs.Entries.{stored_below}

-- the run is consecutive
pub run_consecutive : (c : ℕ) (es : List Entry) → IsConsecutive c (run_from c es)
run_consecutive c [] = tt
run_consecutive c (e ∷ es) =
    elim (cases_Bool (e.0 == c)) [ inl yes' ↦ rw yes' (eqb-true e.0 c yes', run_consecutive (c + 1) es) | inr no' ↦ rw no' tt ]

-- the COUNT after the run is not stored
pub run_ends : (c : ℕ) (es : List Entry) → AscendFrom c es → is_stored (c + length (run_from c es)) es ≡ false
run_ends c [] ascends = refl
run_ends c (e ∷ es) ascends = grind (arith, nat_tests, run_ends (c + 1) es, stored_below (e.0 + 1) c es)

-- the run is the front of what is stored
pub run-take : (c : ℕ) (es : List Entry) → run_from c es ≡ take (length (run_from c es)) es
run-take c [] = refl
run-take c (e ∷ es) =
    elim (cases_Bool (e.0 == c)) [ inl yes' ↦ rw yes' (ap (λ (xs : List Entry). e ∷ xs) (run-take (c + 1) es)) | inr no' ↦ rw no' refl ]

pub run_short : (c : ℕ) (es : List Entry) → length (run_from c es) ≤ length es
run_short c [] = omega arith
run_short c (e ∷ es) = grind (arith, nat_tests, run_short (c + 1) es)

-- it begins with the first, where that has its COUNT
pub run_first : (c : ℕ) (sdu : List ℕ) (es : List Entry) → run_from c ((c, sdu) ∷ es) ≡ (c, sdu) ∷ run_from (c + 1) es
run_first c sdu es = grind (arith, nat_tests)

-- nothing is handed up where the first is not there
pub run_none : (c : ℕ) (es : List Entry) → AscendFrom (c + 1) es → run_from c es ≡ []
run_none c [] ascends = refl
run_none c (e ∷ es) ascends = grind (arith, nat_tests, ascends.0)

-- what is left ascends above the COUNT after the run
pub ascends_past_run : (c : ℕ) (es : List Entry) → AscendFrom c es → AscendFrom (c + length (run_from c es) + 1) (drop (length (run_from c es)) es)
ascends_past_run c [] ascends = tt
ascends_past_run c (e ∷ es) ascends = grind (arith, nat_tests, ascends_past_run (c + 1) es)

-- what is stored is in the run or left after it
pub stored_past_run : (b c : ℕ) (es : List Entry) → is_stored b es ≡ true → (b < c + length (run_from c es)) ⊎ (is_stored b (drop (length (run_from c es)) es) ≡ true)
stored_past_run b c [] stored = absurd cc
stored_past_run b c (e ∷ es) stored = grind (arith, nat_tests, stored_past_run b (c + 1) es)

-- one run after another
pub IsConsecutive-append : (c : ℕ) (es fs : List Entry) → IsConsecutive c es → IsConsecutive (c + length es) fs → IsConsecutive c (es ++ fs)
IsConsecutive-append c [] fs one other = rw (sym (add-zero c)) other
IsConsecutive-append c (e ∷ es) fs one other =
    let place : c + length (e ∷ es) ≡ c + 1 + length es = omega arith in
    (one.0, IsConsecutive-append (c + 1) es fs one.1 (subst (λ b. IsConsecutive b fs) place other))

-- each COUNT stands at its own place, so none stands twice
pub consecutive_at : (c i : ℕ) (e : Entry) (es : List Entry) → IsConsecutive c es → slice_get es i ≡ Some e → e.0 ≡ c + i
consecutive_at c i e [] all at' = absurd cc
consecutive_at c zero e (f ∷ es) all at' = let is : f ≡ e = cc in omega (arith, all.0, ap (λ (x : Entry). x.0) is)
consecutive_at c (suc i) e (f ∷ es) all at' = omega (arith, consecutive_at (c + 1) i e es all.1 at')
