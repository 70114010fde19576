-- What came by number, as the code keeps it.
use Rattle.std.proofs.Common.{◌≡◌, ℕ, zero, suc, ◌+◌, ◌^◌, ◌<◌, ◌≤◌, ◌⊎◌, inl, inr, Bool, true, false, cond, List, [], ◌∷◌, ◌++◌, length, Option, Some, None, refl, sym, ap, subst, ◌∙◌, arith, length-append}
use Rattle.std.specs.Prelude.{IsSome, is_some, slice_get}
use Rattle.std.specs.Ordering.{nat_cmp}
use Rattle.std.specs.BTreeMap.{insert_entry, is_at}
use Rattle.std.proofs.lemmas.Bool.{cases_lt, cases_order}
use Rattle.nr_u.proofs.ByNumber.{cmp_tells}
use Rattle.forward.specs.Load.{Sdu}
use Rattle.forward.specs.Forwarded.{Forwarded, sdu_under, in_front, all_from, all_by, whole}
use Rattle.forward.specs.Kept.{under, IsFront, CameBelow, AreSmall, IsFirstMissing}

under-insert_same : (es : List (ℕ × Sdu)) (k : ℕ) (s : Sdu) → under (insert_entry nat_cmp es k s) k ≡ Some s
under-insert_same [] k s = grind (arith, cmp_tells k k)
under-insert_same (e ∷ es) k s = grind (arith, cmp_tells k e.0, cmp_tells k k, under-insert_same es k s)

under-insert_other : (es : List (ℕ × Sdu)) (k : ℕ) (s : Sdu) (q : ℕ) → (q ≡ k → ⊥) → under (insert_entry nat_cmp es k s) q ≡ under es q
under-insert_other [] k s q apart = grind (arith, cmp_tells q k)
under-insert_other (e ∷ es) k s q apart = grind (arith, cmp_tells k e.0, cmp_tells q e.0, cmp_tells q k, under-insert_other es k s q apart)

-- what is there once one more is there
pub under-insert : (es : List (ℕ × Sdu)) (k : ℕ) (s : Sdu) (q : ℕ) → ((q ≡ k) × (under (insert_entry nat_cmp es k s) q ≡ Some s)) ⊎ (under (insert_entry nat_cmp es k s) q ≡ under es q)
under-insert es k s q =
    elim (cases_order q k) [
      | inl same ↦ inl (same, ap (under (insert_entry nat_cmp es k s)) same ∙ under-insert_same es k s)
      | inr apart ↦ inr (under-insert_other es k s q (λ same. elim apart [ inl less ↦ omega (arith, same, less) | inr more ↦ omega (arith, same, more) ]))
    ]

not_at : (k q : ℕ) → k < q → is_at (nat_cmp k) q ≡ false
not_at k q less = grind (arith, cmp_tells k q)

-- entries without one number, at a greater one
pub under-removed : (es fs : List (ℕ × Sdu)) (k q : ℕ) → k < q → under fs q ≡ cond (is_at (nat_cmp k) q) None (under es q) → under fs q ≡ under es q
under-removed es fs k q less h = h ∙ ap (λ b. cond b None (under es q)) (not_at k q less)

pub nothing_missing : (es : List (ℕ × Sdu)) → es ≡ [] → IsFirstMissing es 0
nothing_missing es e =
    let none : (q : ℕ) → under es q ≡ None = λ q. ap (λ (xs : List (ℕ × Sdu)). under xs q) e in
    record {
      below = λ number less. absurd (omega arith);
      absent = none 0;
      small = λ number some. let h : is_some (under es number) ≡ true = some in absurd (cc (h, none number));
    }

-- ---- one more

pub below-insert : (es : List (ℕ × Sdu)) (k : ℕ) (s : Sdu) (end : ℕ) → CameBelow es end → CameBelow (insert_entry nat_cmp es k s) end
below-insert es k s end below q less =
    elim (under-insert es k s q) [ inl new ↦ ap is_some new.1 | inr old ↦ ap is_some old ∙ below q less ]

pub small-insert : (es : List (ℕ × Sdu)) (k : ℕ) (s : Sdu) → k < 2 ^ 24 → AreSmall es → AreSmall (insert_entry nat_cmp es k s)
small-insert es k s fits small q some =
    elim (under-insert es k s q) [ inl new ↦ omega (arith, fits, new.0) | inr old ↦ small q (sym (ap is_some old) ∙ some) ]

pub below-more : (es : List (ℕ × Sdu)) (end : ℕ) → CameBelow es end → IsSome (under es end) → CameBelow es (end + 1)
below-more es end below here q less =
    elim (cases_lt q end) [
      | inl before ↦ below q before
      | inr after ↦ let key : end ≡ q = omega arith in subst (λ (k : ℕ). IsSome (under es k)) key here
    ]

pub absent_if : (o : Option Sdu) (b : Bool) → b ≡ is_some o → b ≡ false → o ≡ None
absent_if None b e f = refl
absent_if (Some s) b e f = absurd cc

-- ---- the list

pub slice_get-more : {A : Type 0} (xs : List A) (x : A) (k : ℕ) → k < length xs → slice_get (xs ++ x ∷ []) k ≡ slice_get xs k
slice_get-more [] x k less = absurd (omega arith)
slice_get-more (y ∷ ys) x zero less = refl
slice_get-more (y ∷ ys) x (suc k) less = slice_get-more ys x k (omega arith)

pub slice_get-last : {A : Type 0} (xs : List A) (x : A) → slice_get (xs ++ x ∷ []) (length xs) ≡ Some x
slice_get-last [] x = refl
slice_get-last (y ∷ ys) x = slice_get-last ys x

-- one more SDU
pub front-more : (m : List (ℕ × Sdu)) (end : ℕ) (list list' : List Sdu) (s : Sdu) → IsFront m end list → under m end ≡ Some s → list' ≡ list ++ s ∷ [] → IsFront m (end + 1) list'
front-more m end list list' s front here is =
    subst (IsFront m (end + 1)) (sym is) (record {
      whole = omega (arith, front.whole, length-append list (s ∷ []));
      each = λ k less.
          elim (cases_lt k end) [
            | inl before ↦ slice_get-more list s k (omega (arith, front.whole)) ∙ front.each k before
            | inr after ↦
                let key : k ≡ end = omega arith in
                let place : k ≡ length list = omega (arith, front.whole) in
                ap (slice_get (list ++ s ∷ [])) place ∙ (slice_get-last list s ∙ (sym here ∙ ap (under m) (sym key)))
          ];
    })

-- ---- all of it

in_front_made : (o : Option Sdu) (r : Option (List Sdu)) → IsSome o → IsSome r → IsSome (in_front o r)
in_front_made None r some more = absurd cc
in_front_made (Some s) None some more = absurd cc
in_front_made (Some s) (Some xs) some more = refl

in_front_of : (o : Option Sdu) (r : Option (List Sdu)) → IsSome (in_front o r) → IsSome o × IsSome r
in_front_of None r some = absurd cc
in_front_of (Some s) None some = absurd cc
in_front_of (Some s) (Some xs) some = (refl, refl)

-- each number of a stretch came
abbrev pub CameFrom : Forwarded → ℕ → ℕ → Type 0
CameFrom f number k = (i : ℕ) → i < k → IsSome (sdu_under f (number + i))

came_later : (f : Forwarded) (number k : ℕ) → CameFrom f number (suc k) → CameFrom f (number + 1) k
came_later f number k came i less = let place : number + suc i ≡ (number + 1) + i = omega arith in subst (λ (q : ℕ). IsSome (sdu_under f q)) place (came (suc i) (omega arith))

pub all_from_made : (f : Forwarded) (number k : ℕ) → CameFrom f number k → IsSome (all_from f number k)
all_from_made f number zero came = refl
all_from_made f number (suc k) came =
    let place : number + 0 ≡ number = omega arith in
    in_front_made (sdu_under f number) (all_from f (number + 1) k) (subst (λ (q : ℕ). IsSome (sdu_under f q)) place (came 0 (omega arith)))
    (all_from_made f (number + 1) k (came_later f number k came))

pub all_from_came : (f : Forwarded) (number k : ℕ) → IsSome (all_from f number k) → CameFrom f number k
all_from_came f number zero some i less = absurd (omega arith)
all_from_came f number (suc k) some zero less =
    let place : number ≡ number + 0 = omega arith in
    subst (λ (q : ℕ). IsSome (sdu_under f q)) place (in_front_of (sdu_under f number) (all_from f (number + 1) k) some).0
all_from_came f number (suc k) some (suc i) less =
    let place : (number + 1) + i ≡ number + suc i = omega arith in
    subst (λ (q : ℕ). IsSome (sdu_under f q)) place (all_from_came f (number + 1) k (in_front_of (sdu_under f number) (all_from f (number + 1) k) some).1 i (omega arith))

pub all_from_list : (f : Forwarded) (list : List Sdu) (number k : ℕ) → length list ≡ k → ((i : ℕ) → i < k → slice_get list i ≡ sdu_under f (number + i)) → all_from f number k ≡ Some list
all_from_list f [] number zero len each = refl
all_from_list f [] number (suc k) len each = absurd (omega (arith, len))
all_from_list f (x ∷ xs) number zero len each = absurd (omega (arith, len))
all_from_list f (x ∷ xs) number (suc k) len each =
    let place : number + 0 ≡ number = omega arith in
    let here : Some x ≡ sdu_under f number = each 0 (omega arith) ∙ ap (sdu_under f) place in
    let later : (i : ℕ) → i < k → slice_get xs i ≡ sdu_under f ((number + 1) + i) =
    λ i less. let at : number + suc i ≡ (number + 1) + i = omega arith in each (suc i) (omega arith) ∙ ap (sdu_under f) at in
    let rest : all_from f (number + 1) k ≡ Some xs = all_from_list f xs (number + 1) k (omega (arith, len)) later in
    rw (← here, rest) refl

none_if : {A : Type 0} (o : Option A) → (IsSome o → ⊥) → o ≡ None
none_if None never = refl
none_if (Some a) never = absurd (never refl)

from_zero : (f : Forwarded) (k : ℕ) → CameBelow f.sdus k → CameFrom f 0 k
from_zero f k came i less = let place : i ≡ 0 + i = omega arith in subst (λ (q : ℕ). IsSome (sdu_under f q)) place (came i less)

pub all_if : (f : Forwarded) (missing total : ℕ) → IsFirstMissing f.sdus missing → total ≤ missing → IsSome (all_from f 0 total)
all_if f missing total first fits = all_from_made f 0 total (from_zero f total (λ q less. first.below q (omega (arith, less, fits))))

pub not_all_if : (f : Forwarded) (missing total : ℕ) → IsFirstMissing f.sdus missing → missing < total → all_from f 0 total ≡ None
not_all_if f missing total first more =
    none_if (all_from f 0 total) (λ some.
    let place : 0 + missing ≡ missing = omega arith in
    let there : is_some (under f.sdus missing) ≡ true = subst (λ (q : ℕ). IsSome (sdu_under f q)) place (all_from_came f 0 total some missing more) in
    cc (there, first.absent))

pub all_of_front : (f : Forwarded) (total : ℕ) (list : List Sdu) → IsFront f.sdus total list → all_from f 0 total ≡ Some list
all_of_front f total list front =
    all_from_list f list 0 total front.whole (λ i less. let place : i ≡ 0 + i = omega arith in front.each i less ∙ ap (sdu_under f) place)

pub whole_if : (f v : Forwarded) (missing total : ℕ) → v ≡ f → v.total ≡ Some total → IsFirstMissing v.sdus missing → total ≤ missing → IsSome (whole f)
whole_if f v missing total is known first fits =
    subst (λ (x : Forwarded). IsSome (whole x)) is (ap (λ t. is_some (all_by v t)) known ∙ all_if v missing total first fits)

pub not_whole_if : (f v : Forwarded) (missing total : ℕ) → v ≡ f → v.total ≡ Some total → IsFirstMissing v.sdus missing → missing < total → whole f ≡ None
not_whole_if f v missing total is known first more =
    subst (λ (x : Forwarded). whole x ≡ None) is (ap (all_by v) known ∙ not_all_if v missing total first more)

pub whole_of_front : (f v : Forwarded) (total : ℕ) (list : List Sdu) → v ≡ f → v.total ≡ Some total → IsFront v.sdus total list → whole f ≡ Some list
whole_of_front f v total list is known front =
    subst (λ (x : Forwarded). whole x ≡ Some list) is (ap (all_by v) known ∙ all_of_front v total list front)

pub not_none : {A : Type 0} (o : Option A) → IsSome o → o ≡ None → ⊥
not_none None some none = absurd cc
not_none (Some a) some none = cc none
