-- Filters of numbers with their COUNTs, and what is taken out.
use Rattle.std.proofs.Common.{◌≡◌, ℕ, ◌<◌, ◌≤◌, ◌++◌, ◌&&◌, ◌||◌, Bool, true, false, not, List, [], ◌∷◌, refl, ap, ◌∙◌, inl, inr, sym, arith}
use Rattle.std.specs.Prelude.{filter}
use Rattle.std.specs.List.{AllByRecursion, AllZip}
use Rattle.std.specs.List.Sorted.{IsStrictlySortedBy}
use Rattle.std.specs.Ordering.{nat_cmp}
use Rattle.std.specs.declared.cmp.Ordering.TheVariants.{Less}
use Rattle.std.specs.BTreeMap.{is_at}
use Rattle.std.specs.Map.{keys_of, remove_entry}
use Rattle.std.proofs.lemmas.Bool.{cases_Bool}
use Rattle.std.proofs.lemmas.Map.Keys.{sorted_head, sorted_tail}
use Rattle.nr_u.specs.Tunnel.Outgoing.{Counted}
use Rattle.nr_u.specs.Tunnel.Waiting.{taken_out, AreGiven, ByNumber}
use Rattle.nr_u.proofs.ByNumber.{cmp_tells}

-- ---- two filters

pub filter_ext : {X : Type 0} (p q : X → Bool) (xs : List X) → ((x : X) → p x ≡ q x) → filter p xs ≡ filter q xs
filter_ext p q [] same = refl
filter_ext p q (x ∷ xs) same = rw (same x, filter_ext p q xs same) refl

pub filter_swap : {X : Type 0} (p q : X → Bool) (xs : List X) → filter p (filter q xs) ≡ filter q (filter p xs)
filter_swap p q [] = refl
filter_swap p q (x ∷ xs) = grind (arith, filter_swap p q xs)

pub filter_both : {X : Type 0} (p q : X → Bool) (xs : List X) → filter q (filter p xs) ≡ filter (λ x. p x && q x) xs
filter_both p q [] = refl
filter_both p q (x ∷ xs) = grind (arith, filter_both p q xs)

-- a filter that passes less
pub filter_less : {X : Type 0} (p q : X → Bool) (xs : List X) → ((x : X) → q x ≡ true → p x ≡ true) → filter q (filter p xs) ≡ filter q xs
filter_less p q [] less = refl
filter_less p q (x ∷ xs) less =
    let rest = filter_less p q xs less in
    elim (cases_Bool (q x)) [
      | inl passes ↦ grind (arith, rest, passes, less x passes)
      | inr fails ↦ grind (arith, rest, fails)
    ]

-- nothing passes
pub none_passes : (p : Counted → Bool) (us : List Counted) → ((e : Counted) → p e ≡ false) → (filter p us ≡ []) × (filter (λ e. not (p e)) us ≡ us)
none_passes p [] none = (refl, refl)
none_passes p (u ∷ us) none = let rest = none_passes p us none in rw (none u) (rest.0, ap (λ (x : List Counted). u ∷ x) rest.1)

pub all_filter : {X : Type 0} (P Q : X → Type 0) (p : X → Bool) (xs : List X) → AllByRecursion P xs → ((x : X) → P x → p x ≡ true → Q x) → AllByRecursion Q (filter p xs)
all_filter P Q p [] all gives = tt
all_filter P Q p (x ∷ xs) all gives =
    elim (cases_Bool (p x)) [
      | inl passes ↦ rw passes (gives x all.0 passes, all_filter P Q p xs all.1 gives)
      | inr fails ↦ rw fails (all_filter P Q p xs all.1 gives)
    ]

pub given_filter : (next : ℕ) (p : Counted → Bool) (es : List Counted) → AreGiven next es → AreGiven next (filter p es)
given_filter next p es all = all_filter (λ (e : Counted). e.0 < next) (λ (e : Counted). e.0 < next) p es all (λ e is passes. is)

-- ---- by numbers

above_keys : (p : Counted → Bool) (k : ℕ) (us : List Counted) → AllByRecursion (λ y. nat_cmp k y ≡ Less) (keys_of us) → AllByRecursion (λ y. nat_cmp k y ≡ Less) (keys_of (filter p us))
above_keys p k [] all = tt
above_keys p k (u ∷ us) all =
    elim (cases_Bool (p u)) [
      | inl passes ↦ rw passes (all.0, above_keys p k us all.1)
      | inr fails ↦ rw fails (above_keys p k us all.1)
    ]

sorted_cons : (k : ℕ) (ks : List ℕ) → AllByRecursion (λ y. nat_cmp k y ≡ Less) ks → IsStrictlySortedBy nat_cmp ks → IsStrictlySortedBy nat_cmp (k ∷ ks)
unfolding IsStrictlySortedBy
sorted_cons k ks above sorted = (above, sorted)

pub sorted_none : ByNumber []
unfolding IsStrictlySortedBy
sorted_none = tt

pub by_number_filter : (p : Counted → Bool) (us : List Counted) → ByNumber us → ByNumber (filter p us)
by_number_filter p [] sorted = sorted
by_number_filter p (u ∷ us) sorted =
    let rest = by_number_filter p us (sorted_tail nat_cmp u.0 (keys_of us) sorted) in
    elim (cases_Bool (p u)) [
      | inl passes ↦ rw passes (sorted_cons u.0 (keys_of (filter p us)) (above_keys p u.0 us (sorted_head nat_cmp u.0 (keys_of us) sorted)) rest)
      | inr fails ↦ rw fails rest
    ]

-- ---- a filter's entries, taken out

-- the first stays where none of these has its number
skips : (u : Counted) (us fs : List Counted) → AllByRecursion (λ f. nat_cmp u.0 f.0 ≡ Less) fs → taken_out (u ∷ us) fs ≡ u ∷ taken_out us fs
skips u us [] all = refl
skips u us (f ∷ fs) all =
    let step : remove_entry (is_at (nat_cmp f.0)) (u ∷ us) ≡ u ∷ remove_entry (is_at (nat_cmp f.0)) us = grind (arith, cmp_tells u.0 f.0, cmp_tells f.0 u.0, all.0) in
    ap (λ (x : List Counted). taken_out x fs) step ∙ skips u (remove_entry (is_at (nat_cmp f.0)) us) fs all.1

above_all : (p : Counted → Bool) (k : ℕ) (us : List Counted) → AllByRecursion (λ y. nat_cmp k y ≡ Less) (keys_of us) → AllByRecursion (λ (f : Counted). nat_cmp k f.0 ≡ Less) (filter p us)
above_all p k [] all = tt
above_all p k (u ∷ us) all =
    elim (cases_Bool (p u)) [
      | inl passes ↦ rw passes (all.0, above_all p k us all.1)
      | inr fails ↦ rw fails (above_all p k us all.1)
    ]

taken_out-filter : (p : Counted → Bool) (us : List Counted) → ByNumber us → taken_out us (filter p us) ≡ filter (λ e. not (p e)) us
taken_out-filter p [] sorted = refl
taken_out-filter p (u ∷ us) sorted =
    let rest = taken_out-filter p us (sorted_tail nat_cmp u.0 (keys_of us) sorted) in
    elim (cases_Bool (p u)) [
      | inl passes ↦
          let step : remove_entry (is_at (nat_cmp u.0)) (u ∷ us) ≡ us = grind (arith, cmp_tells u.0 u.0) in
          rw passes (ap (λ (x : List Counted). taken_out x (filter p us)) step ∙ rest)
      | inr fails ↦
          rw fails (skips u us (filter p us) (above_all p u.0 us (sorted_head nat_cmp u.0 (keys_of us) sorted)) ∙ ap (λ (x : List Counted). u ∷ x) rest)
    ]

pub left_out : (p : Counted → Bool) (us found slice left : List Counted) → ByNumber us → found ≡ filter p us → slice ≡ found → left ≡ taken_out us slice → left ≡ filter (λ e. not (p e)) us
left_out p us found slice left sorted found_is slice_is left_is = left_is ∙ ap (taken_out us) (slice_is ∙ found_is) ∙ taken_out-filter p us sorted

-- ---- a clone

pub pair_is : (x y : Counted) → x.0 ≡ y.0 → x.1 ≡ y.1 → x ≡ y
pair_is x y first second = ap (λ (k : ℕ). (k, x.1)) first ∙ ap (λ (k : ℕ). (y.0, k)) second

pub cloned : (xs ys : List Counted) → AllZip (λ (x y : Counted). (y.0 ≡ x.0) × (y.1 ≡ x.1)) xs ys → ys ≡ xs
cloned [] [] same = refl
cloned [] (y ∷ ys) same = absurd same
cloned (x ∷ xs) [] same = absurd same
cloned (x ∷ xs) (y ∷ ys) same =
    let here : y ≡ x = pair_is y x same.0.0 same.0.1 in
    ap (λ (e : Counted). e ∷ ys) here ∙ ap (λ (l : List Counted). x ∷ l) (cloned xs ys same.1)
