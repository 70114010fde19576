-- What waits between the listed ranges is what a frame confirms.
use Rattle.std.proofs.Common.{◌≡◌, ℕ, ◌+◌, ◌<◌, ◌≤◌, ◌^◌, ◌++◌, ◌&&◌, ◌||◌, Bool, true, false, cond, not, ltb, leb, suc, List, [], ◌∷◌, length, get_or, drop, drop-cons, add-one, refl, sym, ap, subst, ◌∙◌, append_assoc, append-nil, inl, inr, arith}
use Rattle.std.specs.Prelude.{Some, filter, take_while, max}
use Rattle.std.specs.List.{AllByRecursion}
use Rattle.std.specs.Ordering.{nat_cmp}
use Rattle.std.specs.declared.cmp.Ordering.TheVariants.{Less}
use Rattle.std.specs.BTreeMap.Range.{entries_between, range_contains}
use Rattle.std.specs.declared.ops.Bound.TheVariants.{Included, Excluded}
use Rattle.std.specs.Map.{keys_of}
use Rattle.std.proofs.lemmas.Bool.Decides.{nat_tests}
use Rattle.std.proofs.lemmas.Bool.{le-leb, leb-true, leb-false, lt-leb, lt-ltb, le-ltb, cases_lt, cases_Bool}
use Rattle.std.proofs.lemmas.List.Sums.{take_while-cons}
use Rattle.std.proofs.lemmas.Map.Keys.{sorted_head, sorted_tail}
use Rattle.nr_u.specs.declared.frame.Range.{Range}
use Rattle.nr_u.specs.Frames.{Rising, AreRanges}
use Rattle.nr_u.specs.Tunnel.Outgoing.{Counted, is_listed, confirms}
use Rattle.nr_u.specs.Tunnel.Waiting.{Climbs, AreGiven, ByNumber, lies_in}
use Rattle.nr_u.proofs.ByNumber.{cmp_tells}
use Rattle.nr_u.proofs.Filters.{filter_ext, filter_both}

-- ---- the turns of a loop that adds a front

lies_between : (from end k : ℕ) → range_contains nat_cmp (Included from) (Excluded (max end from)) k ≡ (leb from k && ltb k end)
lies_between from end k = grind (arith, nat_tests, cmp_tells from k, cmp_tells (max end from) k)

pub front_starts : (from end last highest : ℕ) (es between left found : List Counted) → last ≡ max end from → between ≡ entries_between nat_cmp (Included from) (Excluded last) es → left ≡ between
    → found ++ take_while (λ e. leb e.1 highest) left ≡ found ++ take_while (λ e. leb e.1 highest) (filter (lies_in from end) es)
front_starts from end last highest es between left found last_is between_is left_is =
    rw (left_is, between_is, last_is) (ap (λ (l : List Counted). found ++ take_while (λ e. leb e.1 highest) l) (filter_ext _ _ es (λ e. lies_between from end e.0)))

pub front_next : (p : Counted → Bool) (found more left after all : List Counted) (e : Counted) → found ++ take_while p left ≡ all → left ≡ e ∷ after → p e ≡ true → more ≡ found ++ e ∷ [] → more ++ take_while p after ≡ all
front_next p found more left after all e so_far left_is within more_is =
    let front : take_while p left ≡ e ∷ take_while p after = ap (take_while p) left_is ∙ take_while-cons p e after ∙ rw within refl in
    rw more_is (append_assoc found (e ∷ []) (take_while p after) ∙ ap (λ (l : List Counted). found ++ l) (sym front) ∙ so_far)

pub front_stops : (p : Counted → Bool) (found left after all : List Counted) (e : Counted) → found ++ take_while p left ≡ all → left ≡ e ∷ after → p e ≡ false → found ≡ all
front_stops p found left after all e so_far left_is past =
    let front : take_while p left ≡ [] = ap (take_while p) left_is ∙ take_while-cons p e after ∙ rw past refl in
    sym (append-nil found) ∙ ap (λ (l : List Counted). found ++ l) (sym front) ∙ so_far

-- ---- a front of COUNTs that do not fall

climbs_later : (low next : ℕ) (es : List Counted) → low ≤ next → Climbs next es → Climbs low es
climbs_later low next [] le up = tt
climbs_later low next (e ∷ es) le up = (omega (arith, up.0), up.1)

pub climbs_filter : (p : Counted → Bool) (low : ℕ) (es : List Counted) → Climbs low es → Climbs low (filter p es)
climbs_filter p low [] up = tt
climbs_filter p low (e ∷ es) up =
    elim (cases_Bool (p e)) [
      | inl passes ↦ rw passes (up.0, climbs_filter p e.1 es up.1)
      | inr fails ↦ rw fails (climbs_later low e.1 (filter p es) up.0 (climbs_filter p e.1 es up.1))
    ]

-- none from the first COUNT above the highest on
none_past : (highest low : ℕ) (es : List Counted) → Climbs low es → highest < low → filter (λ (e : Counted). leb e.1 highest) es ≡ []
none_past highest low [] up past = refl
none_past highest low (e ∷ es) up past =
    let above : leb e.1 highest ≡ false = lt-leb _ _ (omega (arith, up.0)) in
    rw above (none_past highest e.1 es up.1 (omega (arith, up.0)))

front_is : (highest low : ℕ) (es : List Counted) → Climbs low es → take_while (λ (e : Counted). leb e.1 highest) es ≡ filter (λ (e : Counted). leb e.1 highest) es
front_is highest low [] up = refl
front_is highest low (e ∷ es) up =
    take_while-cons (λ (x : Counted). leb x.1 highest) e es ∙ elim (cases_Bool (leb e.1 highest)) [
      | inl within ↦ rw within (ap (λ (x : List Counted). e ∷ x) (front_is highest e.1 es up.1))
      | inr past ↦ rw past (sym (none_past highest e.1 es up.1 (leb-false _ _ past)))
    ]

-- what waits between two numbers, up to the highest COUNT
between_is : (from end highest : ℕ) (es : List Counted) → Climbs 0 es → take_while (λ (e : Counted). leb e.1 highest) (filter (lies_in from end) es) ≡ filter (λ e. lies_in from end e && leb e.1 highest) es
between_is from end highest es up = front_is highest 0 (filter (lies_in from end) es) (climbs_filter (lies_in from end) 0 es up) ∙ filter_both (lies_in from end) (λ (e : Counted). leb e.1 highest) es

-- ---- two stretches of numbers, one after the other

none_before : (a : Counted → Bool) (t k : ℕ) (es : List Counted) → ((e : Counted) → a e ≡ true → e.0 < t) → t ≤ k → AllByRecursion (λ y. nat_cmp k y ≡ Less) (keys_of es) → filter a es ≡ []
none_before a t k [] before le all = refl
none_before a t k (e ∷ es) before le all =
    let rest = none_before a t k es before le all.1 in
    elim (cases_Bool (a e)) [
      | inl passes ↦ absurd (grind (arith, before e passes, cmp_tells k e.0, all.0))
      | inr fails ↦ rw fails rest
    ]

stretches : (a b c : Counted → Bool) (t : ℕ) (es : List Counted) → ByNumber es → ((e : Counted) → a e ≡ true → e.0 < t) → ((e : Counted) → b e ≡ true → t ≤ e.0) → ((e : Counted) → c e ≡ (a e || b e))
    → filter a es ++ filter b es ≡ filter c es
stretches a b c t [] sorted before behind is = refl
stretches a b c t (e ∷ es) sorted before behind is =
    let rest = stretches a b c t es (sorted_tail nat_cmp e.0 (keys_of es) sorted) before behind is in
    elim (cases_Bool (a e)) [
      | inl first ↦
          let other : b e ≡ false = elim (cases_Bool (b e)) [ inl too ↦ absurd (omega (arith, before e first, behind e too)) | inr fails ↦ fails ] in
          let both : c e ≡ true = is e ∙ rw first refl in
          rw (first, other, both) (ap (λ (x : List Counted). e ∷ x) rest)
      | inr not_first ↦
          elim (cases_Bool (b e)) [
            | inl second ↦
                let both : c e ≡ true = is e ∙ rw (not_first, second) refl in
                let none : filter a es ≡ [] = none_before a t e.0 es before (behind e second) (sorted_head nat_cmp e.0 (keys_of es) sorted) in
                let tail : filter b es ≡ filter c es = ap (λ (x : List Counted). x ++ filter b es) (sym none) ∙ rest in
                rw (not_first, second, both, none) (ap (λ (x : List Counted). e ∷ x) tail)
            | inr neither ↦
                let both : c e ≡ false = is e ∙ rw (not_first, neither) refl in
                rw (not_first, neither, both) rest
          ]
    ]

-- ---- from one listed range to the next

-- what is confirmed from a number on, by the ranges from there on
abbrev confirmed_from : ℕ → ℕ → List Range → Counted → Bool
confirmed_from from highest lost e = leb from e.0 && confirms (Some highest) lost e

unlisted_before : (low k : ℕ) (lost : List Range) → Rising low lost → k < low → is_listed lost k ≡ false
unlisted_before low k [] up before = refl
unlisted_before low k (r ∷ lost) up before =
    let test : leb r.from k ≡ false = lt-leb _ _ (omega (arith, up.0)) in
    rw test (unlisted_before (r.to + 1) k lost up.2 (omega (arith, up.0, up.1)))

and_false : (b : Bool) → (b && false) ≡ false
and_false true = refl
and_false false = refl

or_false : (b : Bool) → (b || false) ≡ b
or_false true = refl
or_false false = refl

when_past : (x l : Bool) → (true && (x && not (false || l))) ≡ (((true && false) && x) || (true && (x && not l)))
when_past true l = refl
when_past false l = refl

when_before : (f x : Bool) → (f && (x && not ((false && true) || false))) ≡ (((f && true) && x) || (false && (x && not false)))
when_before true true = refl
when_before true false = refl
when_before false x = refl

step_is : (from highest : ℕ) (r : Range) (lost : List Range) (e : Counted) → Rising from (r ∷ lost)
    → confirmed_from from highest (r ∷ lost) e ≡ ((lies_in from r.from e && leb e.1 highest) || confirmed_from (r.to + 1) highest lost e)
step_is from highest r lost e up =
    elim (cases_lt e.0 r.from) [
      | inl before ↦
          let a : leb r.from e.0 ≡ false = lt-leb _ _ before in
          let b : ltb e.0 r.from ≡ true = lt-ltb _ _ before in
          let c : leb (r.to + 1) e.0 ≡ false = lt-leb _ _ (omega (arith, up.1)) in
          let d : is_listed lost e.0 ≡ false = unlisted_before (r.to + 1) e.0 lost up.2 (omega (arith, up.1)) in
          rw (a, b, c, d) (when_before (leb from e.0) (leb e.1 highest))
      | inr begun ↦
          let a : leb r.from e.0 ≡ true = le-leb _ _ begun in
          let b : ltb e.0 r.from ≡ false = le-ltb _ _ begun in
          let f : leb from e.0 ≡ true = le-leb _ _ (omega (arith, up.0)) in
          elim (cases_lt r.to e.0) [
            | inl past ↦
                let c : leb (r.to + 1) e.0 ≡ true = le-leb _ _ (omega arith) in
                let d : leb e.0 r.to ≡ false = lt-leb _ _ past in
                rw (a, b, c, d, f) (when_past (leb e.1 highest) (is_listed lost e.0))
            | inr inside ↦
                let c : leb (r.to + 1) e.0 ≡ false = lt-leb _ _ (omega arith) in
                let d : leb e.0 r.to ≡ true = le-leb _ _ inside in
                rw (a, b, c, d, f) (and_false (leb e.1 highest))
          ]
    ]

and_left : (a b : Bool) → (a && b) ≡ true → a ≡ true
and_left true b both = refl
and_left false b both = absurd cc

lies_before : (from end highest : ℕ) (e : Counted) → (lies_in from end e && leb e.1 highest) ≡ true → e.0 < end
lies_before from end highest e is = grind (arith, nat_tests, is)

from_behind : (from highest : ℕ) (lost : List Range) (e : Counted) → confirmed_from from highest lost e ≡ true → from ≤ e.0
from_behind from highest lost e is = leb-true _ _ (and_left (leb from e.0) (confirms (Some highest) lost e) is)

-- one step of the walk
pub step_between : (from highest : ℕ) (r : Range) (lost : List Range) (es : List Counted) → ByNumber es → Climbs 0 es → Rising from (r ∷ lost)
    → take_while (λ (e : Counted). leb e.1 highest) (filter (lies_in from r.from) es) ++ filter (confirmed_from (r.to + 1) highest lost) es ≡ filter (confirmed_from from highest (r ∷ lost)) es
step_between from highest r lost es sorted climbs up =
    rw (between_is from r.from highest es climbs)
    (stretches (λ e. lies_in from r.from e && leb e.1 highest) (confirmed_from (r.to + 1) highest lost) (confirmed_from from highest (r ∷ lost)) r.from es sorted
    (λ e is. lies_before from r.from highest e is)
    (λ e is. let past = from_behind (r.to + 1) highest lost e is in omega (arith, past, up.1))
    (λ e. step_is from highest r lost e up))

-- the last stretch
last_is : (from next highest : ℕ) (es : List Counted) → AreGiven next es → filter (λ e. lies_in from next e && leb e.1 highest) es ≡ filter (confirmed_from from highest []) es
last_is from next highest [] given = refl
last_is from next highest (e ∷ es) given =
    let test : ltb e.0 next ≡ true = lt-ltb _ _ given.0 in
    let rest = last_is from next highest es given.1 in
    rw test (grind (arith, rest))

pub last_between : (from next highest : ℕ) (es : List Counted) → AreGiven next es → Climbs 0 es → take_while (λ (e : Counted). leb e.1 highest) (filter (lies_in from next) es) ≡ filter (confirmed_from from highest []) es
last_between from next highest es given climbs = between_is from next highest es climbs ∙ last_is from next highest es given

pub all_from_zero : (highest : ℕ) (lost : List Range) (es : List Counted) → filter (confirmed_from 0 highest lost) es ≡ filter (confirms (Some highest) lost) es
all_from_zero highest lost es = filter_ext _ _ es (λ e. let test : leb 0 e.0 ≡ true = le-leb _ _ (omega arith) in rw test refl)

-- what is found, and what is still to be found between the ranges that are left
pub record Walk (highest from : ℕ) (lost left : List Range) (found es : List Counted) : Type 0 where
  pub rising : Rising from left
  pub small : AllByRecursion (λ r. r.to < 2 ^ 24) left
  pub found_is : found ++ filter (confirmed_from from highest left) es ≡ filter (confirms (Some highest) lost) es

pub walk_starts : (highest : ℕ) (lost : List Range) (es found : List Counted) → AreRanges lost → found ≡ [] → Walk highest 0 lost lost found es
walk_starts highest lost es found are none = record { rising = are.0; small = are.1; found_is = rw none (all_from_zero highest lost es) }

pub walk_next : (highest from from' : ℕ) (lost left after : List Range) (r : Range) (found more es : List Counted) → Walk highest from lost left found es → left ≡ r ∷ after → ByNumber es → Climbs 0 es
    → more ≡ found ++ take_while (λ (e : Counted). leb e.1 highest) (filter (lies_in from r.from) es) → from' ≡ r.to + 1 → Walk highest from' lost after more es
walk_next highest from from' lost left after r found more es walk left_is sorted climbs more_is from_is =
    let up : Rising from (r ∷ after) = subst (λ (l : List Range). Rising from l) left_is walk.rising in
    let small : AllByRecursion (λ (x : Range). x.to < 2 ^ 24) (r ∷ after) = subst (λ (l : List Range). AllByRecursion (λ (x : Range). x.to < 2 ^ 24) l) left_is walk.small in
    let so_far = subst (λ (l : List Range). found ++ filter (confirmed_from from highest l) es ≡ filter (confirms (Some highest) lost) es) left_is walk.found_is in
    record {
      rising = rw from_is up.2;
      small = small.1;
      found_is = rw (from_is, more_is) (append_assoc found _ _ ∙ ap (λ (x : List Counted). found ++ x) (step_between from highest r after es sorted climbs up) ∙ so_far);
    }

pub walk_ends : (highest from next : ℕ) (lost left : List Range) (found all es : List Counted) → Walk highest from lost left found es → left ≡ [] → AreGiven next es → Climbs 0 es
    → all ≡ found ++ take_while (λ (e : Counted). leb e.1 highest) (filter (lies_in from next) es) → all ≡ filter (confirms (Some highest) lost) es
walk_ends highest from next lost left found all es walk left_is given climbs all_is =
    let so_far = subst (λ (l : List Range). found ++ filter (confirmed_from from highest l) es ≡ filter (confirms (Some highest) lost) es) left_is walk.found_is in
    all_is ∙ ap (λ (x : List Counted). found ++ x) (last_between from next highest es given climbs) ∙ so_far

-- ---- the check of the ranges

-- what is checked: the ranges that are left decide
pub record Checked (low : ℕ) (left lost : List Range) : Type 0 where
  pub rising : Rising low left → Rising 0 lost
  pub small : AllByRecursion (λ r. r.to < 2 ^ 24) left → AllByRecursion (λ r. r.to < 2 ^ 24) lost

pub checked_next : (low low' : ℕ) (lost left after : List Range) (r : Range) → Checked low left lost → left ≡ r ∷ after → low ≤ r.from → r.from ≤ r.to → r.to < 2 ^ 24 → low' ≡ r.to + 1 → Checked low' after lost
checked_next low low' lost left after r checked left_is begins ends fits low_is =
    let checked' = subst (λ (l : List Range). Checked low l lost) left_is checked in
    record {
      rising = λ up. checked'.rising (begins, ends, subst (λ (x : ℕ). Rising x after) low_is up);
      small = λ all. checked'.small (fits, all);
    }

pub checked_ends : (low : ℕ) (lost left : List Range) → Checked low left lost → left ≡ [] → AreRanges lost
checked_ends low lost left checked left_is =
    let checked' = subst (λ (l : List Range). Checked low l lost) left_is checked in
    (checked'.rising tt, checked'.small tt)

-- ---- the same, by the place of the range

pub walk_step : (highest from from' : ℕ) (lost : List Range) (i : ℕ) (d : Range) (found more es : List Counted) → i < length lost → Walk highest from lost (drop i lost) found es → ByNumber es → Climbs 0 es
    → more ≡ found ++ take_while (λ (e : Counted). leb e.1 highest) (filter (lies_in from (get_or lost i d).from) es) → from' ≡ (get_or lost i d).to + 1 → Walk highest from' lost (drop (i + 1) lost) more es
walk_step highest from from' lost i d found more es inside walk sorted climbs more_is from_is =
    rw (add-one i) (walk_next highest from from' lost (drop i lost) (drop (suc i) lost) (get_or lost i d) found more es walk (drop-cons lost i d inside) sorted climbs more_is from_is)

pub walk_small : (highest from : ℕ) (lost : List Range) (i : ℕ) (d : Range) (found es : List Counted) → i < length lost → Walk highest from lost (drop i lost) found es → (get_or lost i d).to < 2 ^ 24
walk_small highest from lost i d found es inside walk =
    (subst (λ (l : List Range). AllByRecursion (λ (x : Range). x.to < 2 ^ 24) l) (drop-cons lost i d inside) walk.small).0

pub checked_step : (low low' : ℕ) (lost : List Range) (i : ℕ) (d : Range) → i < length lost → Checked low (drop i lost) lost → low ≤ (get_or lost i d).from → (get_or lost i d).from ≤ (get_or lost i d).to → (get_or lost i d).to < 2 ^ 24 → low' ≡ (get_or lost i d).to + 1
    → Checked low' (drop (i + 1) lost) lost
checked_step low low' lost i d inside checked begins ends fits low_is =
    rw (add-one i) (checked_next low low' lost (drop i lost) (drop (suc i) lost) (get_or lost i d) checked (drop-cons lost i d inside) begins ends fits low_is)
