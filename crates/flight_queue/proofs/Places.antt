-- Where a flight stands among runs.
use Rattle.std.proofs.Common.{ℕ, zero, suc, ◌≡◌, ◌+◌, ◌-◌, ◌<◌, ◌≤◌, ◌++◌, Bool, true, false, List, [], ◌∷◌, Option, Some, None, length, drop, remove, slice_get, slice_index_or, slice_set, refl, sym, ap, subst, ◌∙◌, inl, inr, arith, append_assoc}
use Rattle.std.specs.Option.{option_map}
use Rattle.std.specs.Prelude.{Err, Ok, OnOk, Result, if◌then◌else◌, nat_lt}
use Rattle.std.proofs.lemmas.Bool.{cases_Bool, le-ltb, lt-ltb, ltb-false, ltb-true}
use Rattle.std.proofs.lemmas.List.{append-nil, drop_all, drop_more, get_or-set_same, get_or_default, length-append, length-set}
use Rattle.std.proofs.lemmas.List.Edits.{length-remove, remove-append_left, remove-append_right}
use Rattle.std.proofs.lemmas.Option.{slice_get_past}
use Rattle.dc_base.specs.declared.flights.Flight.{Flight}
use Rattle.flight_queue.specs.Runs.{joined, next_run, place_in}

-- ---- looking for it

-- with so many runs before these
abbrev pub behind : ℕ → ℕ × ℕ → ℕ × ℕ
behind i p = (p.0 + i, p.1)

abbrev pub places_from : ℕ → List (List Flight) → ℕ → Option (ℕ × ℕ)
places_from i rs k = option_map (behind i) (place_in rs k)

none_behind : (o : Option (ℕ × ℕ)) → option_map (behind 0) o ≡ o
none_behind None = refl
none_behind (Some p) = let same : p.0 + 0 ≡ p.0 = omega arith in ap (λ k. Some (k, p.1)) same

pub start : (rs : List (List Flight)) (k : ℕ) → place_in rs k ≡ places_from 0 rs k
start rs k = sym (none_behind (place_in rs k))

further : (i : ℕ) (o : Option (ℕ × ℕ)) → option_map (behind i) (option_map next_run o) ≡ option_map (behind (i + 1)) o
further i None = refl
further i (Some p) = let same : suc p.0 + i ≡ p.0 + (i + 1) = omega arith in ap (λ k. Some (k, p.1)) same

at_run : (r : List Flight) (rs : List (List Flight)) (k : ℕ) (b : Bool) → nat_lt k (length r) ≡ b → place_in (r ∷ rs) k ≡ (if b then Some (0, k) else option_map next_run (place_in rs (k - length r)))
at_run r rs k b is = ap (λ t. if t then Some (0, k) else option_map next_run (place_in rs (k - length r))) is

pub here : (rs : List (List Flight)) (i k : ℕ) → i < length rs → k < length (slice_index_or rs i []) → places_from i (drop i rs) k ≡ Some (i, k)
here rs i k less there =
    ap (λ xs. places_from i xs k) (drop_more rs i [] less) ∙ ap (option_map (behind i)) (at_run (slice_index_or rs i []) (drop (i + 1) rs) k true (lt-ltb k _ there))
    ∙ (let same : 0 + i ≡ i = omega arith in ap (λ j. Some (j, k)) same)

pub later : (rs : List (List Flight)) (i k : ℕ) → i < length rs → length (slice_index_or rs i []) ≤ k
    → places_from i (drop i rs) k ≡ places_from (i + 1) (drop (i + 1) rs) (k - length (slice_index_or rs i []))
later rs i k less past =
    ap (λ xs. places_from i xs k) (drop_more rs i [] less)
    ∙ ap (option_map (behind i)) (at_run (slice_index_or rs i []) (drop (i + 1) rs) k false (le-ltb k _ past))
    ∙ further i (place_in (drop (i + 1) rs) (k - length (slice_index_or rs i [])))

pub ended : (rs : List (List Flight)) (i k : ℕ) → length rs ≤ i → places_from i (drop i rs) k ≡ None
ended rs i k le = ap (λ xs. places_from i xs k) (drop_all i rs le)

-- ---- what stands there

get_left : (xs ys : List Flight) (k : ℕ) → nat_lt k (length xs) ≡ true → slice_get (xs ++ ys) k ≡ slice_get xs k
get_left [] ys k less = absurd (omega (arith, ltb-true k 0 less))
get_left (x ∷ xs) ys zero less = refl
get_left (x ∷ xs) ys (suc k) less = get_left xs ys k (let is = ltb-true (suc k) (suc (length xs)) less in lt-ltb k (length xs) (omega (arith, is)))

get_right : (xs ys : List Flight) (k : ℕ) → length xs ≤ k → slice_get (xs ++ ys) k ≡ slice_get ys (k - length xs)
get_right [] ys k le = let same : k ≡ k - 0 = omega arith in ap (slice_get ys) same
get_right (x ∷ xs) ys zero le = absurd (omega (arith, le))
get_right (x ∷ xs) ys (suc k) le = get_right xs ys k (omega (arith, le)) ∙ (let same : k - length xs ≡ suc k - suc (length xs) = omega arith in ap (slice_get ys) same)

-- the flight at a place of all stands at this place of this run
pub record IsPlace (rs : List (List Flight)) (k i o : ℕ) : Type 0 where
  pub run : i < length rs
  pub place : o < length (slice_index_or rs i [])
  pub at : slice_get (joined rs) k ≡ slice_get (slice_index_or rs i []) o
  pub without : remove (joined rs) k ≡ joined (slice_set rs i (remove (slice_index_or rs i []) o))

-- it stands behind the first run
next_place : (r : List Flight) (rs : List (List Flight)) (k : ℕ) (p : ℕ × ℕ) → length r ≤ k → IsPlace rs (k - length r) p.0 p.1 → IsPlace (r ∷ rs) k (suc p.0) p.1
next_place r rs k p past there = record {
  run = (let less = there.run in omega (arith, less));
  place = there.place;
  at = get_right r (joined rs) k past ∙ there.at;
  without = remove-append_right r (joined rs) (length r) k refl past ∙ ap (λ xs. r ++ xs) there.without;
}

pub is_place : (rs : List (List Flight)) (k : ℕ) (p : ℕ × ℕ) → place_in rs k ≡ Some p → IsPlace rs k p.0 p.1
is_place [] k p found = absurd (let bad : None ≡ Some p = found in cc)
is_place (r ∷ rs) k p found =
    elim (cases_Bool (nat_lt k (length r))) [
      | inl yes' ↦
          let less = ltb-true k (length r) yes' in
          let same : Some (0, k) ≡ Some p = sym (at_run r rs k true yes') ∙ found in
          let first : (0, k) ≡ p = cc in
          subst (λ (x : ℕ × ℕ). IsPlace (r ∷ rs) k x.0 x.1) first (record { run = omega arith; place = less; at = get_left r (joined rs) k yes'; without = remove-append_left r (joined rs) k less })
      | inr no' ↦ by (place_in rs (k - length r)) (λ x is. is_place rs (k - length r) x is) (sym (at_run r rs k false no') ∙ found) (ltb-false k (length r) no')
    ]
  where
    by : (x : Option (ℕ × ℕ)) → ((y : ℕ × ℕ) → x ≡ Some y → IsPlace rs (k - length r) y.0 y.1) → option_map next_run x ≡ Some p → length r ≤ k → IsPlace (r ∷ rs) k p.0 p.1
    by None is bad past = absurd cc
    by (Some y) is same past =
        let next : next_run y ≡ p = cc in
        subst (λ (x : ℕ × ℕ). IsPlace (r ∷ rs) k x.0 x.1) next (next_place r rs k y past (is y refl))

pub no_place : (rs : List (List Flight)) (k : ℕ) → place_in rs k ≡ None → length (joined rs) ≤ k
no_place [] k none = omega arith
no_place (r ∷ rs) k none =
    elim (cases_Bool (nat_lt k (length r))) [
      | inl yes' ↦ absurd (let bad : Some (0, k) ≡ None = sym (at_run r rs k true yes') ∙ none in cc)
      | inr no' ↦ by (place_in rs (k - length r)) (no_place rs (k - length r)) (sym (at_run r rs k false no') ∙ none) (ltb-false k (length r) no')
    ]
  where
    by : (x : Option (ℕ × ℕ)) → (x ≡ None → length (joined rs) ≤ k - length r) → option_map next_run x ≡ None → length r ≤ k → length (joined (r ∷ rs)) ≤ k
    by None is same past = let rest = is refl in let long = length-append r (joined rs) in omega (arith, rest, long, past)
    by (Some p) is bad past = absurd cc

-- ---- what is changed

pub put_last : (rs : List (List Flight)) (i : ℕ) (f : Flight) → i + 1 ≡ length rs → joined (slice_set rs i (slice_index_or rs i [] ++ f ∷ [])) ≡ joined rs ++ f ∷ []
put_last [] i f last = absurd (omega (arith, last))
put_last (r ∷ []) zero f last = append-nil (r ++ f ∷ []) ∙ ap (λ xs. xs ++ f ∷ []) (sym (append-nil r))
put_last (r ∷ []) (suc i) f last = absurd (omega (arith, last))
put_last (r ∷ s ∷ rs) zero f last = absurd (omega (arith, last))
put_last (r ∷ s ∷ rs) (suc i) f last = ap (λ xs. r ++ xs) (put_last (s ∷ rs) i f (omega (arith, last))) ∙ sym (append_assoc r (joined (s ∷ rs)) (f ∷ []))

pub put_new : (rs : List (List Flight)) (f : Flight) → joined (rs ++ (f ∷ []) ∷ []) ≡ joined rs ++ f ∷ []
put_new [] f = refl
put_new (r ∷ rs) f = ap (λ xs. r ++ xs) (put_new rs f) ∙ sym (append_assoc r (joined rs) (f ∷ []))

-- an empty run goes
pub drop_empty : (rs : List (List Flight)) (i : ℕ) → i < length rs → slice_index_or rs i [] ≡ [] → joined (remove rs i) ≡ joined rs
drop_empty [] i less none = absurd (omega (arith, less))
drop_empty (r ∷ rs) zero less none = ap (λ xs. xs ++ joined rs) (sym none)
drop_empty (r ∷ rs) (suc i) less none = ap (λ xs. r ++ xs) (drop_empty rs i (omega (arith, less)) none)

-- a flight is put at the end of the last run, which is read with any other in its place
pub put_at : (rs : List (List Flight)) (count : ℕ) (now new : List Flight) (f : Flight) → count ≡ length rs → 0 < count → now ≡ slice_index_or rs (count - 1) now → new ≡ now ++ f ∷ []
    → joined (slice_set rs (count - 1) new) ≡ joined rs ++ f ∷ []
put_at rs count now new f all some is put =
    let last : count - 1 + 1 ≡ length rs = omega (arith, all, some) in
    let read : now ≡ slice_index_or rs (count - 1) [] = is ∙ get_or_default rs (count - 1) now [] (omega (arith, all, some)) in
    ap (λ r. joined (slice_set rs (count - 1) r)) (put ∙ ap (λ r. r ++ f ∷ []) read) ∙ put_last rs (count - 1) f last

pub if_ok : {X : Type 0} {E : Type 0} (r : Result X E) (P Q : Type 0) → (P → Q) → OnOk r P → OnOk r Q
if_ok (Ok x) P Q so is = so is
if_ok (Err e) P Q so is = is

-- a run of which the last flight was taken goes
pub take_last : (rs after : List (List Flight)) (i o : ℕ) (r : List Flight) → i < length rs → r ≡ remove (slice_index_or rs i []) o → r ≡ [] → after ≡ remove (slice_set rs i r) i
    → joined after ≡ joined (slice_set rs i (remove (slice_index_or rs i []) o))
take_last rs after i o r less taken none is =
    ap joined is
    ∙ drop_empty (slice_set rs i r) i (let same = length-set rs i r in omega (arith, less, same)) (get_or-set_same rs i r [] less ∙ none)
    ∙ ap (λ x. joined (slice_set rs i x)) taken

-- one flight fewer
pub one_less : (xs ys : List Flight) (len k : ℕ) → len ≡ length xs → k < len → ys ≡ remove xs k → len - 1 ≡ length ys
one_less xs ys len k all less is = let shorter = length-remove xs k (omega (arith, all, less)) in let same = ap length is in omega (arith, all, shorter, same, less)
