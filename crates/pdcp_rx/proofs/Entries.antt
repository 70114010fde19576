-- SDUs in ascending COUNT, and one more among them.
use Rattle.std.proofs.Common.{ℕ, ◌≡◌, ◌+◌, ◌<◌, ◌≤◌, ◌++◌, ltb, true, false, List, [], ◌∷◌, take, drop, zero, suc, refl, arith, inl, inr}
use Rattle.std.specs.List.{AllByRecursion}
use Rattle.std.proofs.lemmas.Bool.Decides.{nat_tests}
use Rattle.std.proofs.lemmas.Bool.{cases_Bool}
use Rattle.pdcp_rx.specs.Entries.{Entry, AscendFrom, is_stored, with_sdu}

pub AscendFrom-weaker : (b c : ℕ) (es : List Entry) → b ≤ c → AscendFrom c es → AscendFrom b es
AscendFrom-weaker b c [] le ascends = tt
AscendFrom-weaker b c (e ∷ es) le ascends = (omega arith, ascends.1)

pub AscendFrom-with_sdu : (b c : ℕ) (sdu : List ℕ) (es : List Entry) → b ≤ c → is_stored c es ≡ false → AscendFrom b es → AscendFrom b (with_sdu c sdu es)
AscendFrom-with_sdu b c sdu [] le new ascends = (le, tt)
AscendFrom-with_sdu b c sdu (e ∷ es) le new ascends = grind (arith, nat_tests, AscendFrom-with_sdu (e.0 + 1) c sdu es)

-- each entry is at or above where the COUNTs ascend from
pub ascend_at : (b c : ℕ) (sdu : List ℕ) (es fs : List Entry) → AscendFrom b (es ++ (c, sdu) ∷ fs) → b ≤ c
ascend_at b c sdu [] fs ascends = ascends.0
ascend_at b c sdu (e ∷ es) fs ascends = omega (arith, ascends.0, ascend_at (e.0 + 1) c sdu es fs ascends.1)

-- what is stored is not below where the COUNTs ascend from
pub stored_from : (b c : ℕ) (es : List Entry) → AscendFrom b es → is_stored c es ≡ true → b ≤ c
stored_from b c [] ascends stored = absurd cc
stored_from b c (e ∷ es) ascends stored = grind (arith, nat_tests, stored_from (e.0 + 1) c es)

pub stored_below : (b c : ℕ) (es : List Entry) → AscendFrom b es → c < b → is_stored c es ≡ false
stored_below b c [] ascends lt = refl
stored_below b c (e ∷ es) ascends lt = grind (arith, nat_tests, stored_below (e.0 + 1) c es)

pub is_stored-with_sdu_same : (c : ℕ) (sdu : List ℕ) (es : List Entry) → is_stored c (with_sdu c sdu es) ≡ true
is_stored-with_sdu_same c sdu [] = grind (arith, nat_tests)
is_stored-with_sdu_same c sdu (e ∷ es) = grind (arith, nat_tests, is_stored-with_sdu_same c sdu es)

pub is_stored-with_sdu : (b c : ℕ) (sdu : List ℕ) (es : List Entry) → is_stored b es ≡ true → is_stored b (with_sdu c sdu es) ≡ true
is_stored-with_sdu b c sdu [] stored = absurd cc
is_stored-with_sdu b c sdu (e ∷ es) stored = grind (arith, nat_tests, is_stored-with_sdu b c sdu es)

-- below all that is stored, the new one is first
pub with_sdu_first : (c : ℕ) (sdu : List ℕ) (es : List Entry) → AscendFrom (c + 1) es → with_sdu c sdu es ≡ (c, sdu) ∷ es
with_sdu_first c sdu [] ascends = refl
with_sdu_first c sdu (e ∷ es) ascends = grind (arith, nat_tests, ascends.0)

module _ (P : Entry → Type 0) where
  pub each_with_sdu : (c : ℕ) (sdu : List ℕ) (es : List Entry) → P (c, sdu) → AllByRecursion P es → AllByRecursion P (with_sdu c sdu es)
  each_with_sdu c sdu [] one all = (one, tt)
  each_with_sdu c sdu (e ∷ es) one all =
      elim (cases_Bool (ltb c e.0)) [ inl yes' ↦ rw yes' (one, all) | inr no' ↦ rw no' (all.0, each_with_sdu c sdu es one all.1) ]

  pub each_take : (n : ℕ) (es : List Entry) → AllByRecursion P es → AllByRecursion P (take n es)
  each_take zero es all = tt
  each_take (suc n) [] all = tt
  each_take (suc n) (e ∷ es) all = (all.0, each_take n es all.1)

  pub each_drop : (n : ℕ) (es : List Entry) → AllByRecursion P es → AllByRecursion P (drop n es)
  each_drop zero es all = all
  each_drop (suc n) [] all = tt
  each_drop (suc n) (e ∷ es) all = each_drop n es all.1

  pub each_append : (es fs : List Entry) → AllByRecursion P es → AllByRecursion P fs → AllByRecursion P (es ++ fs)
  each_append [] fs all more = more
  each_append (e ∷ es) fs all more = (all.0, each_append es fs all.1 more)

pub each_weaker : (P Q : Entry → Type 0) → ((e : Entry) → P e → Q e) → (es : List Entry) → AllByRecursion P es → AllByRecursion Q es
each_weaker P Q weaker [] all = tt
each_weaker P Q weaker (e ∷ es) all = (weaker e all.0, each_weaker P Q weaker es all.1)
