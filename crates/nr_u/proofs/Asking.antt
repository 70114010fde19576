-- What a frame asks for again is found among what is to be looked at.
use Rattle.std.proofs.Common.{◌≡◌, ℕ, ◌+◌, ◌<◌, ◌≤◌, ◌++◌, ◌&&◌, ◌||◌, Bool, true, false, not, leb, List, [], ◌∷◌, length, get_or, take, refl, sym, ap, subst, ◌∙◌, append_assoc, inl, inr, arith}
use Rattle.std.specs.Prelude.{filter, map}
use Rattle.std.specs.List.Sorted.{IsPermutation}
use Rattle.std.specs.Ordering.{nat_cmp}
use Rattle.std.specs.BTreeMap.Range.{entries_between, range_contains}
use Rattle.std.specs.declared.ops.Bound.TheVariants.{Included}
use Rattle.std.proofs.lemmas.Bool.Decides.{nat_tests}
use Rattle.std.proofs.lemmas.Bool.{le-leb, leb-true, lt-leb, cases_lt, cases_Bool}
use Rattle.std.proofs.lemmas.List.{map-append, take_more}
use Rattle.std.proofs.lemmas.List.Folds.{list_any-append}
use Rattle.std.proofs.lemmas.List.Sorted.{IsPermutation-refl, IsPermutation-cons, IsPermutation-middle, IsPermutation-trans, IsPermutation-sym, IsPermutation-map, IsPermutation-append_left}
use Rattle.nr_u.specs.declared.frame.Range.{Range}
use Rattle.nr_u.specs.Tunnel.Incoming.{contains}
use Rattle.nr_u.specs.Tunnel.Outgoing.{Counted, is_listed, is_open, asks}
use Rattle.nr_u.specs.Tunnel.Waiting.{AreGiven, ByNumber, Covers}
use Rattle.nr_u.proofs.ByNumber.{cmp_tells}
use Rattle.nr_u.proofs.Filters.{filter_ext, filter_swap, filter_both, filter_less, none_passes, by_number_filter, given_filter}

-- ---- the numbers of one range

or_false : (b : Bool) → (b || false) ≡ b
or_false true = refl
or_false false = refl

and_false : (b : Bool) → (b && false) ≡ false
and_false true = refl
and_false false = refl

in_range : (from to k : ℕ) → range_contains nat_cmp (Included from) (Included to) k ≡ ((leb from k && leb k to) || false)
in_range from to k = grind (arith, nat_tests, cmp_tells from k, cmp_tells to k)

pub range_entries : (r : Range) (from to : ℕ) (us : List Counted) → from ≡ r.from → to ≡ r.to → entries_between nat_cmp (Included from) (Included to) us ≡ filter (λ e. is_listed (r ∷ []) e.0) us
range_entries r from to us from_is to_is = rw (from_is, to_is) (filter_ext _ _ us (λ e. in_range r.from r.to e.0))

pub empty_range : (r : Range) → r.to < r.from → (k : ℕ) → is_listed (r ∷ []) k ≡ false
empty_range r past k =
    elim (cases_lt k r.from) [
      | inl before ↦ let test : leb r.from k ≡ false = lt-leb _ _ before in rw test refl
      | inr begun ↦ let test : leb k r.to ≡ false = lt-leb _ _ (omega (arith, begun)) in rw (test, and_false (leb r.from k)) refl
    ]

-- what is open in a range is found
pub open_found : (low : ℕ) (confirmed : List ℕ) (r : Range) (askable unasked listed slice asked : List Counted) → Covers low confirmed askable unasked
    → listed ≡ filter (λ e. is_listed (r ∷ []) e.0) askable → slice ≡ listed → asked ≡ filter (λ e. is_open low confirmed e.1) slice → asked ≡ filter (asks low confirmed (r ∷ [])) unasked
open_found low confirmed r askable unasked listed slice asked covers listed_is slice_is asked_is =
    let listed_in : Counted → Bool = λ e. is_listed (r ∷ []) e.0 in
    let may : Counted → Bool = λ e. is_open low confirmed e.1 in
    asked_is ∙ ap (filter may) (slice_is ∙ listed_is) ∙ filter_swap may listed_in askable ∙ ap (filter listed_in) covers ∙ filter_swap listed_in may unasked ∙ filter_both listed_in may unasked

same_left : (a b : Bool) → (not (a && b) && b) ≡ (b && not a)
same_left true true = refl
same_left true false = refl
same_left false true = refl
same_left false false = refl

and_swap : (a b : Bool) → (a && b) ≡ (b && a)
and_swap true true = refl
and_swap true false = refl
and_swap false true = refl
and_swap false false = refl

-- and what is left is still covered
covers_left : (low : ℕ) (confirmed : List ℕ) (r : Range) (askable unasked : List Counted) → Covers low confirmed askable unasked
    → Covers low confirmed (filter (λ e. not (is_listed (r ∷ []) e.0)) askable) (filter (λ e. not (asks low confirmed (r ∷ []) e)) unasked)
covers_left low confirmed r askable unasked covers =
    let outside : Counted → Bool = λ e. not (is_listed (r ∷ []) e.0) in
    let may : Counted → Bool = λ e. is_open low confirmed e.1 in
    let kept : Counted → Bool = λ e. not (asks low confirmed (r ∷ []) e) in
    filter_swap may outside askable ∙ ap (filter outside) covers ∙ filter_both may outside unasked
    ∙ filter_ext (λ e. may e && outside e) (λ e. kept e && may e) unasked (λ e. sym (same_left (is_listed (r ∷ []) e.0) (may e)))
    ∙ sym (filter_both kept may unasked)

-- ---- another reference, and more that is confirmed

open_none : (b : Bool) → (b && false) ≡ true → ⊥
open_none true is = cc
open_none false is = cc

open_left : (a b : Bool) → (a && b) ≡ true → a ≡ true
open_left true b is = refl
open_left false b is = absurd cc

open_less : (low low' : ℕ) (confirmed confirmed' : List ℕ) (c : ℕ) → low ≤ low' → ((d : ℕ) → contains d confirmed ≡ true → contains d confirmed' ≡ true) → is_open low' confirmed' c ≡ true → is_open low confirmed c ≡ true
open_less low low' confirmed confirmed' c le more is =
    elim (cases_Bool (contains c confirmed)) [
      | inl there ↦
          let there' : contains c confirmed' ≡ true = more c there in
          absurd (let no : (leb low' c && false) ≡ true = rw there' at is in open_none (leb low' c) no)
      | inr absent ↦
          let above : low' ≤ c = leb-true _ _ (open_left (leb low' c) (not (contains c confirmed')) is) in
          let test : leb low c ≡ true = le-leb _ _ (omega (arith, above)) in
          rw (absent, test) refl
    ]

pub covers_less : (low low' : ℕ) (confirmed confirmed' : List ℕ) (askable unasked : List Counted) → low ≤ low' → ((c : ℕ) → contains c confirmed ≡ true → contains c confirmed' ≡ true)
    → Covers low confirmed askable unasked → Covers low' confirmed' askable unasked
covers_less low low' confirmed confirmed' askable unasked le more covers =
    let p : Counted → Bool = λ e. is_open low confirmed e.1 in
    let q : Counted → Bool = λ e. is_open low' confirmed' e.1 in
    let less : (e : Counted) → q e ≡ true → p e ≡ true = λ e is. open_less low low' confirmed confirmed' e.1 le more is in
    sym (filter_less p q askable less) ∙ ap (filter q) covers ∙ filter_less p q unasked less

-- ---- one range after another

-- a test that is one of two, in turn
filter_left : (p q both : Counted → Bool) (us : List Counted) → ((x : Counted) → both x ≡ (p x || q x)) → filter (λ e. not (q e)) (filter (λ e. not (p e)) us) ≡ filter (λ e. not (both e)) us
filter_left p q both [] is = refl
filter_left p q both (u ∷ us) is = grind (arith, is u, filter_left p q both us is)

filter_moves : (p q both : Counted → Bool) (us : List Counted) → ((x : Counted) → both x ≡ (p x || q x)) → IsPermutation (filter both us) (filter p us ++ filter q (filter (λ e. not (p e)) us))
filter_moves p q both [] is = IsPermutation-refl []
filter_moves p q both (u ∷ us) is =
    let rest = filter_moves p q both us is in
    elim (cases_Bool (p u)) [
      | inl first ↦
          let passes : both u ≡ true = is u ∙ rw first refl in
          rw (passes, first) (IsPermutation-cons u _ _ rest)
      | inr later ↦
          let same : both u ≡ q u = is u ∙ rw later refl in
          elim (cases_Bool (q u)) [
            | inl second ↦
                rw (same, later, second) (IsPermutation-trans _ _ _ (IsPermutation-cons u _ _ rest) (IsPermutation-sym _ _ (IsPermutation-middle (filter p us) u (filter q (filter (λ e. not (p e)) us)))))
            | inr neither ↦ rw (same, later, neither) rest
          ]
    ]

and_or : (a b c : Bool) → ((a || b) && c) ≡ ((a && c) || (b && c))
and_or true true true = refl
and_or true true false = refl
and_or true false true = refl
and_or true false false = refl
and_or false b c = refl

asks_more : (low : ℕ) (confirmed : List ℕ) (lost : List Range) (r : Range) (e : Counted) → asks low confirmed (lost ++ r ∷ []) e ≡ (asks low confirmed lost e || asks low confirmed (r ∷ []) e)
asks_more low confirmed lost r e =
    rw (list_any-append (λ (x : Range). leb x.from e.0 && leb e.0 x.to) lost (r ∷ [])) (and_or (is_listed lost e.0) (is_listed (r ∷ []) e.0) _)

-- what is left, what is still to be looked at, and what was asked for, after some ranges
pub record AfterRanges (low : ℕ) (confirmed : List ℕ) (lost : List Range) (before before' left left' : List Counted) (again : List ℕ) : Type 0 where
  pub left_is : left ≡ filter (λ e. not (asks low confirmed lost e)) before
  pub again_is : IsPermutation (map (λ e. e.1) (filter (asks low confirmed lost) before)) again
  pub sorted : ByNumber left
  pub covers : Covers low confirmed left' left
  pub given : (next : ℕ) → AreGiven next before → AreGiven next left
  pub given_askable : (next : ℕ) → AreGiven next before' → AreGiven next left'

pub after_none : (low : ℕ) (confirmed : List ℕ) (us us' : List Counted) → ByNumber us → Covers low confirmed us' us → AfterRanges low confirmed [] us us' us us' []
after_none low confirmed us us' sorted covers = record {
  left_is = sym (none_passes (asks low confirmed []) us (λ e. refl)).1;
  again_is = rw (none_passes (asks low confirmed []) us (λ e. refl)).0 (IsPermutation-refl []);
  sorted = sorted;
  covers = covers;
  given = λ next all. all;
  given_askable = λ next all. all;
}

abbrev counts : List Counted → List ℕ
counts es = map (λ e. e.1) es

taken_after : (p q both : Counted → Bool) (before left : List Counted) (again more : List ℕ) → ((x : Counted) → both x ≡ (p x || q x)) → left ≡ filter (λ e. not (p e)) before
    → IsPermutation (counts (filter p before)) again → more ≡ again ++ counts (filter q left) → IsPermutation (counts (filter both before)) more
taken_after p q both before left again more is left_is again_is more_is =
    let rest = filter q (filter (λ e. not (p e)) before) in
    let moved = IsPermutation-map (λ (e : Counted). e.1) _ _ (filter_moves p q both before is) in
    let split : IsPermutation (counts (filter both before)) (counts (filter p before) ++ counts rest) = subst (λ (l : List ℕ). IsPermutation (counts (filter both before)) l) (map-append (λ (e : Counted). e.1) (filter p before) rest) moved in
    rw (more_is, left_is) (IsPermutation-trans _ _ _ split (IsPermutation-append_left (counts rest) _ _ again_is))

after_more : (low : ℕ) (confirmed : List ℕ) (lost : List Range) (r : Range) (before before' left left' later later' : List Counted) (again more : List ℕ) → AfterRanges low confirmed lost before before' left left' again
    → later' ≡ filter (λ e. not (is_listed (r ∷ []) e.0)) left' → later ≡ filter (λ e. not (asks low confirmed (r ∷ []) e)) left → more ≡ again ++ map (λ e. e.1) (filter (asks low confirmed (r ∷ [])) left)
    → AfterRanges low confirmed (lost ++ r ∷ []) before before' later later' more
after_more low confirmed lost r before before' left left' later later' again more after later_is' later_is more_is =
    let p = asks low confirmed lost in
    let q = asks low confirmed (r ∷ []) in
    let both = asks low confirmed (lost ++ r ∷ []) in
    let is : (x : Counted) → both x ≡ (p x || q x) = λ x. asks_more low confirmed lost r x in
    record {
      left_is = later_is ∙ ap (filter (λ (e : Counted). not (q e))) after.left_is ∙ filter_left p q both before is;
      again_is = taken_after p q both before left again more is after.left_is after.again_is more_is;
      sorted = rw later_is (by_number_filter (λ e. not (q e)) left after.sorted);
      covers = rw (later_is, later_is') (covers_left low confirmed r left' left after.covers);
      given = λ next all. rw later_is (given_filter next (λ e. not (q e)) left (after.given next all));
      given_askable = λ next all. rw later_is' (given_filter next _ left' (after.given_askable next all));
    }

-- the same, by the place of the range
pub after_next : (low : ℕ) (confirmed : List ℕ) (lost : List Range) (i : ℕ) (d : Range) (before before' left left' later later' : List Counted) (again more : List ℕ) → i < length lost
    → AfterRanges low confirmed (take i lost) before before' left left' again
    → later' ≡ filter (λ e. not (is_listed (get_or lost i d ∷ []) e.0)) left' → later ≡ filter (λ e. not (asks low confirmed (get_or lost i d ∷ []) e)) left
    → more ≡ again ++ map (λ e. e.1) (filter (asks low confirmed (get_or lost i d ∷ [])) left)
    → AfterRanges low confirmed (take (i + 1) lost) before before' later later' more
after_next low confirmed lost i d before before' left left' later later' again more inside after later_is' later_is more_is =
    rw (take_more lost i d inside) (after_more low confirmed (take i lost) (get_or lost i d) before before' left left' later later' again more after later_is' later_is more_is)

-- nothing is asked for in a range that is empty
pub empty_asks : (low : ℕ) (confirmed : List ℕ) (r : Range) → r.to < r.from → (e : Counted) → asks low confirmed (r ∷ []) e ≡ false
empty_asks low confirmed r past e = rw (empty_range r past e.0) refl

-- ---- the turns of a loop that takes all

pub all_next : (found more left after all : List Counted) (e : Counted) → found ++ left ≡ all → left ≡ e ∷ after → more ≡ found ++ e ∷ [] → more ++ after ≡ all
all_next found more left after all e so_far left_is more_is =
    rw more_is (append_assoc found (e ∷ []) after ∙ ap (λ (l : List Counted). found ++ l) (sym left_is) ∙ so_far)

pub all_starts : (r : Range) (from to : ℕ) (us found left : List Counted) → from ≡ r.from → to ≡ r.to → found ≡ [] → left ≡ entries_between nat_cmp (Included from) (Included to) us → found ++ left ≡ filter (λ e. is_listed (r ∷ []) e.0) us
all_starts r from to us found left from_is to_is none left_is = rw none (left_is ∙ range_entries r from to us from_is to_is)
