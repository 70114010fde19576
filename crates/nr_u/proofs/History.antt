-- What was sent, beside what is kept of it.
use Rattle.std.proofs.Common.{◌≡◌, ℕ, zero, suc, ◌+◌, ◌<◌, ◌++◌, ◌⊎◌, ◌||◌, Bool, true, false, not, cond, List, [], ◌∷◌, length, Option, Some, None, refl, sym, ap, ◌∙◌, subst, inl, inr, arith}
use Rattle.std.specs.Prelude.{◌≢◌, filter, map, fold, slice_get}
use Rattle.std.specs.List.{AllByRecursion, list_any}
use Rattle.std.specs.Ordering.{nat_cmp}
use Rattle.std.specs.BTreeMap.{insert_entry, is_at}
use Rattle.std.specs.BTreeSet.{insert_key}
use Rattle.std.specs.Map.{lookup}
use Rattle.std.proofs.lemmas.Bool.{cases_Bool}
use Rattle.std.proofs.lemmas.Option.{slice_get_within}
use Rattle.std.proofs.lemmas.List.{length-append}
use Rattle.nr_u.specs.declared.frame.Range.{Range}
use Rattle.nr_u.specs.declared.frame.Frame.{Frame}
use Rattle.nr_u.specs.declared.frame.Frame.TheVariants.{User, Status}
use Rattle.nr_u.specs.declared.tunnel.outbound.Sent.{Sent}
use Rattle.nr_u.specs.Tunnel.Incoming.{contains}
use Rattle.nr_u.specs.Tunnel.Outgoing.{Outgoing, Counted, noted, with_sent, highest_of, confirms, confirmed_by, with_status, first_send, AreFirstSends, Waits, IsHistory}
use Rattle.nr_u.specs.Tunnel.Verdicts.{after_frame, confirmed_of, SaysDelivered}
use Rattle.nr_u.proofs.ByNumber.{cmp_tells}
use Rattle.nr_u.proofs.Filters.{all_filter, pair_is}

-- ---- places of a list with one more at its end

get_before : {X : Type 0} (xs : List X) (x v : X) (k : ℕ) → slice_get xs k ≡ Some v → slice_get (xs ++ x ∷ []) k ≡ Some v
get_before [] x v k is = absurd cc
get_before (y ∷ ys) x v zero is = is
get_before (y ∷ ys) x v (suc k) is = get_before ys x v k is

get_last : {X : Type 0} (xs : List X) (x : X) → slice_get (xs ++ x ∷ []) (length xs) ≡ Some x
get_last [] x = refl
get_last (y ∷ ys) x = get_last ys x

pub get_cases : {X : Type 0} (xs : List X) (x v : X) (k : ℕ) → slice_get (xs ++ x ∷ []) k ≡ Some v → (slice_get xs k ≡ Some v) ⊎ ((k ≡ length xs) × (x ≡ v))
get_cases [] x v zero is = let same : x ≡ v = cc in inr (refl, same)
get_cases [] x v (suc k) is = absurd cc
get_cases (y ∷ ys) x v zero is = inl is
get_cases (y ∷ ys) x v (suc k) is =
    elim (get_cases ys x v k is) [
      | inl before ↦ inl before
      | inr last ↦ inr (ap suc last.0, last.1)
    ]

-- ---- first sends that wait

firsts_push : (sent : List Sent) (s : Sent) (es : List Counted) → AreFirstSends sent es → AreFirstSends (sent ++ s ∷ []) es
firsts_push sent s [] all = tt
firsts_push sent s (e ∷ es) all = (get_before sent s (first_send e.1) e.0 all.0, firsts_push sent s es all.1)

all_insert : (P : Counted → Type 0) (k v : ℕ) (es : List Counted) → P (k, v) → AllByRecursion P es → AllByRecursion P (insert_entry nat_cmp es k v)
all_insert P k v [] here all = (here, tt)
all_insert P k v (e ∷ es) here all =
    elim (cmp_tells k e.0) [
      | inl less ↦ rw less.0 (here, all)
      | inr rest ↦ elim rest [
        | inl same ↦ rw same.0 (subst (λ (x : ℕ). P (x, v)) same.1 here, all.1)
        | inr more ↦ rw more.0 (all.0, all_insert P k v es here all.1)
      ]
    ]

firsts_noted : (sent : List Sent) (next : ℕ) (count : Option ℕ) (repeat : Bool) (es : List Counted) → length sent ≡ next → AreFirstSends sent es
    → AreFirstSends (sent ++ (record { count = count; repeat = repeat }) ∷ []) (cond repeat es (noted count next es))
firsts_noted sent next count true es len all = firsts_push sent _ es all
firsts_noted sent next None false es len all = firsts_push sent _ es all
firsts_noted sent next (Some c) false es len all =
    let here : slice_get (sent ++ first_send c ∷ []) next ≡ Some (first_send c) = rw (← len) (get_last sent (first_send c)) in
    all_insert _ next c es here (firsts_push sent (first_send c) es all)

lookup_other : (j k v : ℕ) (es : List Counted) → j ≢ k → lookup (is_at (nat_cmp j)) (insert_entry nat_cmp es k v) ≡ lookup (is_at (nat_cmp j)) es
lookup_other j k v [] other = grind (arith, cmp_tells j k)
lookup_other j k v (e ∷ es) other = grind (arith, cmp_tells k e.0, cmp_tells j e.0, cmp_tells j k, lookup_other j k v es other)

lookup_new : (k v : ℕ) (es : List Counted) → lookup (is_at (nat_cmp k)) (insert_entry nat_cmp es k v) ≡ Some v
lookup_new k v [] = grind (arith, cmp_tells k k)
lookup_new k v (e ∷ es) = grind (arith, cmp_tells k e.0, cmp_tells k k, lookup_new k v es)

waits_noted : (next : ℕ) (count : Option ℕ) (repeat : Bool) (es : List Counted) (j c : ℕ) → j < next → lookup (is_at (nat_cmp j)) es ≡ Some c → lookup (is_at (nat_cmp j)) (cond repeat es (noted count next es)) ≡ Some c
waits_noted next count true es j c before is = is
waits_noted next None false es j c before is = is
waits_noted next (Some d) false es j c before is = lookup_other j next d es (λ same. omega (arith, same, before)) ∙ is

waits_new : (next : ℕ) (count : Option ℕ) (repeat : Bool) (es : List Counted) (c : ℕ) → count ≡ Some c → repeat ≡ false → lookup (is_at (nat_cmp next)) (cond repeat es (noted count next es)) ≡ Some c
waits_new next count repeat es c count_is repeat_is = rw (count_is, repeat_is) (lookup_new next c es)

-- ---- nothing was sent

pub history_none : (o : Outgoing) → o.next ≡ 0 → o.waiting ≡ [] → IsHistory [] o
history_none o next_is waiting_is = record {
  numbers = sym next_is;
  firsts = rw waiting_is tt;
  settled = λ number count at. absurd cc;
}

-- ---- a PDU is sent

pub history_sent : (sent : List Sent) (o : Outgoing) (count : Option ℕ) (repeat : Bool) → IsHistory sent o
    → IsHistory (sent ++ (record { count = count; repeat = repeat }) ∷ []) (with_sent o (record { count = count; repeat = repeat }))
history_sent sent o count repeat was = record {
  numbers = omega (arith, was.numbers, length-append sent ((record { count = count; repeat = repeat }) ∷ []));
  firsts = firsts_noted sent o.next count repeat o.waiting was.numbers was.firsts;
  settled = λ number c at.
      elim (get_cases sent (record { count = count; repeat = repeat }) (first_send c) number at) [
        | inl before ↦
            let inside : number < o.next = omega (arith, was.numbers, slice_get_within sent number (first_send c) before) in
            elim (was.settled number c before) [
              | inl waits ↦ inl (waits_noted o.next count repeat o.waiting number c inside waits)
              | inr confirmed ↦ inr confirmed
            ]
        | inr last ↦
            let count_is : count ≡ Some c = ap (λ (s : Sent). s.count) last.1 in
            let repeat_is : repeat ≡ false = ap (λ (s : Sent). s.repeat) last.1 in
            let at_next : number ≡ o.next = last.0 ∙ was.numbers in
            inl (rw at_next (waits_new o.next count repeat o.waiting c count_is repeat_is))
      ];
}

-- ---- a frame comes

pub contains_insert : (c k : ℕ) (ks : List ℕ) → contains c ks ≡ true → contains c (insert_key nat_cmp ks k) ≡ true
contains_insert c k [] there = absurd cc
contains_insert c k (x ∷ ks) there = grind (arith, cmp_tells k x, cmp_tells c x, cmp_tells c k, contains_insert c k ks)

contains_new : (k : ℕ) (ks : List ℕ) → contains k (insert_key nat_cmp ks k) ≡ true
contains_new k [] = grind (arith, cmp_tells k k)
contains_new k (x ∷ ks) = grind (arith, cmp_tells k x, cmp_tells k k, contains_new k ks)

pub fold_keeps : (c : ℕ) (ks more : List ℕ) → contains c ks ≡ true → contains c (fold (insert_key nat_cmp) ks more) ≡ true
fold_keeps c ks [] there = there
fold_keeps c ks (k ∷ more) there = fold_keeps c (insert_key nat_cmp ks k) more (contains_insert c k ks there)

fold_adds : (c : ℕ) (ks more : List ℕ) → contains c more ≡ true → contains c (fold (insert_key nat_cmp) ks more) ≡ true
fold_adds c ks [] there = absurd cc
fold_adds c ks (k ∷ more) there =
    elim (cmp_tells c k) [
      | inl less ↦ fold_adds c (insert_key nat_cmp ks k) more (grind (arith, less.0, there))
      | inr rest ↦ elim rest [
        | inl same ↦ fold_keeps c (insert_key nat_cmp ks k) more (rw same.1 (contains_new k ks))
        | inr more_than ↦ fold_adds c (insert_key nat_cmp ks k) more (grind (arith, more_than.0, there))
      ]
    ]

waits_later : (p : Counted → Bool) (k c : ℕ) (e : Counted) (es : List Counted) → contains c (map (λ (e : Counted). e.1) (filter p es)) ≡ true → contains c (map (λ (e : Counted). e.1) (filter p (e ∷ es))) ≡ true
waits_later p k c e es there =
    elim (cases_Bool (p e)) [
      | inl passes ↦ rw passes (grind (arith, cmp_tells c e.1, there))
      | inr fails ↦ rw fails there
    ]

-- what waits and passes the test is among those that pass
waits_passes : (p : Counted → Bool) (k c : ℕ) (es : List Counted) → lookup (is_at (nat_cmp k)) es ≡ Some c → p (k, c) ≡ true → contains c (map (λ (e : Counted). e.1) (filter p es)) ≡ true
waits_passes p k c [] is passes = absurd cc
waits_passes p k c (e ∷ es) is passes =
    elim (cmp_tells k e.0) [
      | inl less ↦ waits_later p k c e es (waits_passes p k c es (grind (arith, less.0, is)) passes)
      | inr rest ↦ elim rest [
        | inl same ↦
            let value : e.1 ≡ c = grind (arith, same.0, is) in
            let here : p e ≡ true = subst (λ (x : Counted). p x ≡ true) (pair_is (k, c) e same.1 (sym value)) passes in
            rw here (grind (arith, cmp_tells c e.1, value))
        | inr more ↦ waits_later p k c e es (waits_passes p k c es (grind (arith, more.0, is)) passes)
      ]
    ]

-- what waits and fails the test waits on
waits_stays : (p : Counted → Bool) (k c : ℕ) (es : List Counted) → lookup (is_at (nat_cmp k)) es ≡ Some c → p (k, c) ≡ false → lookup (is_at (nat_cmp k)) (filter (λ e. not (p e)) es) ≡ Some c
waits_stays p k c [] is fails = absurd cc
waits_stays p k c (e ∷ es) is fails =
    elim (cmp_tells k e.0) [
      | inl less ↦
          let rest = waits_stays p k c es (grind (arith, less.0, is)) fails in
          elim (cases_Bool (p e)) [ inl out ↦ rw out rest | inr stays ↦ rw stays (grind (arith, less.0, rest)) ]
      | inr others ↦ elim others [
        | inl same ↦
            let value : e.1 ≡ c = grind (arith, same.0, is) in
            let here : p e ≡ false = subst (λ (x : Counted). p x ≡ false) (pair_is (k, c) e same.1 (sym value)) fails in
            rw here (grind (arith, same.0, value))
        | inr more ↦
            let rest = waits_stays p k c es (grind (arith, more.0, is)) fails in
            elim (cases_Bool (p e)) [ inl out ↦ rw out rest | inr stays ↦ rw stays (grind (arith, more.0, rest)) ]
      ]
    ]

pub history_frame : (sent : List Sent) (o : Outgoing) (low : ℕ) (f : Frame) → IsHistory sent o → IsHistory sent (after_frame o low f)
history_frame sent o low (User n user repeat) was = was
history_frame sent o low (Status highest lost) was =
    let p = confirms (highest_of o.n low highest) lost in
    record {
      numbers = was.numbers;
      firsts = all_filter (λ (e : Counted). slice_get sent e.0 ≡ Some (first_send e.1)) (λ (e : Counted). slice_get sent e.0 ≡ Some (first_send e.1)) (λ e. not (p e)) o.waiting was.firsts (λ e is passes. is);
      settled = λ number c at.
          elim (was.settled number c at) [
            | inr confirmed ↦ inr (fold_keeps c o.confirmed (map (λ (e : Counted). e.1) (confirmed_by o low highest lost)) confirmed)
            | inl waits ↦ elim (cases_Bool (p (number, c))) [
              | inl now ↦ inr (fold_adds c o.confirmed (map (λ (e : Counted). e.1) (confirmed_by o low highest lost)) (waits_passes p number c o.waiting waits now))
              | inr later ↦ inl (waits_stays p number c o.waiting waits later)
            ]
          ];
    }

-- each first send that the frame says was delivered is confirmed, by it or by a frame before it
pub delivered : (sent : List Sent) (o : Outgoing) (low : ℕ) (f : Frame) (number count : ℕ) → IsHistory sent o → slice_get sent number ≡ Some (first_send count) → SaysDelivered o low f (number, count)
    → (contains count (confirmed_of o low f) ≡ true) ⊎ (contains count o.confirmed ≡ true)
delivered sent o low (User n user repeat) number count was at says = absurd says
delivered sent o low (Status highest lost) number count was at says =
    elim (was.settled number count at) [
      | inr confirmed ↦ inr confirmed
      | inl waits ↦ inl (waits_passes (confirms (highest_of o.n low highest) lost) number count o.waiting waits says)
    ]
