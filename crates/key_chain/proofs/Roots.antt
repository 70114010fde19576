-- The roots with their counts, and the lists that contracts see.
use Rattle.std.proofs.Common.{◌≡◌, ℕ, zero, suc, ◌<◌, Bool, true, false, cond, ◌||◌, List, [], ◌∷◌, ◌++◌, Option, Some, is_some, length, slice_index, slice_get, get_or, set, refl, ap, ◌∙◌, arith}
use Rattle.std.specs.List.{list_any}
use Rattle.std.specs.Map.{keys_of, lookup, values_of}
use Rattle.indexmap.specs.IndexMap.{set_value_at}

-- a key is one of the keys where a look-up finds it
pub list_any-keys_of : (test : List ℕ → Bool) (es : List (List ℕ × ℕ)) → list_any test (keys_of es) ≡ is_some (lookup test es)
list_any-keys_of test [] = refl
list_any-keys_of test (e ∷ es) = ap (λ b. test e.0 || b) (list_any-keys_of test es) ∙ by (test e.0)
  where
    by : (b : Bool) → (b || is_some (lookup test es)) ≡ is_some (cond b (Some e.1) (lookup test es))
    by true = refl
    by false = refl

pub keys_of-append : (es : List (List ℕ × ℕ)) (e : List ℕ × ℕ) → keys_of (es ++ e ∷ []) ≡ keys_of es ++ e.0 ∷ []
keys_of-append [] e = refl
keys_of-append (x ∷ xs) e = ap (λ ks. x.0 ∷ ks) (keys_of-append xs e)

pub values_of-append : (es : List (List ℕ × ℕ)) (e : List ℕ × ℕ) → values_of (es ++ e ∷ []) ≡ values_of es ++ e.1 ∷ []
values_of-append [] e = refl
values_of-append (x ∷ xs) e = ap (λ vs. x.1 ∷ vs) (values_of-append xs e)

-- a count that is written leaves the roots, and is the count in its place
pub keys_of-set_value_at : (es : List (List ℕ × ℕ)) (i w : ℕ) → keys_of (set_value_at es i w) ≡ keys_of es
keys_of-set_value_at [] i w = refl
keys_of-set_value_at (e ∷ es) zero w = refl
keys_of-set_value_at (e ∷ es) (suc i) w = ap (λ ks. e.0 ∷ ks) (keys_of-set_value_at es i w)

pub values_of-set_value_at : (es : List (List ℕ × ℕ)) (i w : ℕ) → values_of (set_value_at es i w) ≡ set (values_of es) i w
values_of-set_value_at [] i w = refl
values_of-set_value_at (e ∷ es) zero w = refl
values_of-set_value_at (e ∷ es) (suc i) w = ap (λ vs. e.1 ∷ vs) (values_of-set_value_at es i w)

-- the root in a place
pub key_at : (es : List (List ℕ × ℕ)) (i : ℕ) (e : List ℕ × ℕ) (none : List ℕ) → slice_get es i ≡ Some e → get_or (keys_of es) i none ≡ e.0
key_at [] i e none at = absurd cc
key_at (x ∷ xs) zero e none at = let same : x ≡ e = cc in ap (λ (p : List ℕ × ℕ). p.0) same
key_at (x ∷ xs) (suc i) e none at = key_at xs i e none at
