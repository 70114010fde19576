-- The front that a status looks at is what lies below a limit.
use Rattle.std.proofs.Common.{◌≡◌, ℕ, suc, ◌+◌, ◌<◌, ◌≤◌, ◌^◌, ◌++◌, ◌&&◌, Bool, true, false, not, ltb, List, [], ◌∷◌, Option, Some, None, refl, sym, ap, ◌∙◌, inl, inr, arith}
use Rattle.std.specs.Prelude.{min, map, filter, take_while, option_map, option_and_then, slice_get, ◌≢◌}
use Rattle.std.specs.List.{prefix_len}
use Rattle.std.specs.Ordering.{nat_cmp}
use Rattle.std.specs.declared.ops.Bound.TheVariants.{Unbounded, Excluded}
use Rattle.std.specs.BTreeMap.Range.{entries_between, range_contains}
use Rattle.std.proofs.lemmas.Bool.{le-ltb, lt-ltb, cases_lt, false≢true}
use Rattle.std.proofs.lemmas.Bool.Decides.{nat_tests}
use Rattle.nr_u.specs.declared.frame.Range.{Range}
use Rattle.nr_u.specs.declared.tunnel.inbound.Arrival.{Arrival}
use Rattle.nr_u.specs.Tunnel.Incoming.{Numbered, Incoming, Ascends, has, contains, gaps, is_below, is_first, last, settled, named}
use Rattle.nr_u.specs.Tunnel.Kept.{ByEnd, next_after, gap_range, from_or, IsFirstOf, IsInboundState}
use Rattle.nr_u.proofs.ByNumber.{cmp_tells, Came, next_after-above}

-- ---- the last of a list

pub last-push : {X : Type 0} (xs : List X) (x : X) → last (xs ++ x ∷ []) ≡ Some x
last-push [] x = refl
last-push (y ∷ []) x = refl
last-push (y ∷ z ∷ xs) x = last-push (z ∷ xs) x

-- ---- filters

filter_ext : {X : Type 0} (p q : X → Bool) (xs : List X) → ((x : X) → p x ≡ q x) → filter p xs ≡ filter q xs
filter_ext p q [] same = refl
filter_ext p q (x ∷ xs) same = rw (same x, filter_ext p q xs same) refl

filter_swap : {X : Type 0} (p q : X → Bool) (xs : List X) → filter p (filter q xs) ≡ filter q (filter p xs)
filter_swap p q [] = refl
filter_swap p q (x ∷ xs) = grind (arith, filter_swap p q xs)

-- what a range below a limit has
below_limit : (limit k : ℕ) → range_contains nat_cmp Unbounded (Excluded limit) k ≡ ltb k limit
below_limit limit k = grind (arith, nat_tests, cmp_tells limit k)

pub entries_below-filter : (limit : ℕ) (es : List Numbered) → entries_between nat_cmp Unbounded (Excluded limit) es ≡ filter (λ a. ltb a.0 limit) es
entries_below-filter limit es = filter_ext _ _ es (λ a. below_limit limit a.0)

-- ---- the front

and_false : (b : Bool) → (b && false) ≡ false
and_false true = refl
and_false false = refl

-- nothing from the limit on
none_below : (limit low : ℕ) (es : List Numbered) → Ascends low es → limit ≤ low → filter (λ a. ltb a.0 limit) es ≡ []
none_below limit low [] up past = refl
none_below limit low (e ∷ es) up past =
    let test : ltb e.0 limit ≡ false = le-ltb _ _ (omega (arith, up.0)) in
    rw test (none_below limit (e.0 + 1) es up.1 (omega (arith, up.0)))

pub has_before : (j low : ℕ) (es : List Numbered) → Ascends low es → j < low → has j es ≡ false
has_before j low [] up before = refl
has_before j low (e ∷ es) up before = grind (arith, cmp_tells j e.0, has_before j (e.0 + 1) es up.1, up.0)

pub has_head : (e : Numbered) (es : List Numbered) → has e.0 (e ∷ es) ≡ true
has_head e es = grind (arith, cmp_tells e.0 e.0)

pub has_other : (k : ℕ) (e : Numbered) (es : List Numbered) → k ≢ e.0 → has k (e ∷ es) ≡ has k es
has_other k e es other = grind (arith, cmp_tells k e.0)

take_while-step : (p : Numbered → Bool) (e : Numbered) (es : List Numbered) → p e ≡ true → take_while p (e ∷ es) ≡ e ∷ take_while p es
take_while-step p e es passes =
    let one : 1 + prefix_len p es ≡ suc (prefix_len p es) = omega arith in
    rw (passes, one) refl

-- a test that passes below the limit, and fails at the first that is not below it, keeps what is below
front_is : (test : ℕ → Bool) (limit low : ℕ) (es : List Numbered) → Ascends low es → ((k : ℕ) → k < limit → test k ≡ true)
    → ((k : ℕ) → limit ≤ k → has k es ≡ true → ((j : ℕ) → limit ≤ j → j < k → has j es ≡ false) → test k ≡ false)
    → take_while (λ a. test a.0) es ≡ filter (λ a. ltb a.0 limit) es
front_is test limit low [] up passes fails = refl
front_is test limit low (e ∷ es) up passes fails =
    elim (cases_lt e.0 limit) [
      | inl less ↦
          let kept : test e.0 ≡ true = passes e.0 less in
          let below : ltb e.0 limit ≡ true = lt-ltb _ _ less in
          take_while-step (λ a. test a.0) e es kept ∙ rw below (ap (λ (x : List Numbered). e ∷ x) (front_is test limit (e.0 + 1) es up.1 passes (λ k past there none.
          let other : k ≢ e.0 = λ same. absurd (omega (arith, same)) in
          fails k past (has_other k e es other ∙ there) (λ j from before. has_other j e es (λ same. absurd (omega (arith, same))) ∙ none j from before))))
      | inr past ↦
          let stops : test e.0 ≡ false = fails e.0 past (has_head e es) (λ j from before. has_other j e es (λ same. absurd (omega (arith, same))) ∙ has_before j (e.0 + 1) es up.1 (omega arith)) in
          let above : ltb e.0 limit ≡ false = le-ltb _ _ past in
          rw (stops, above) (sym (none_below limit (e.0 + 1) es up.1 (omega arith)))
    ]

pub next_bounds : (low k : ℕ) (es : List Numbered) → Ascends low es → has k es ≡ true → k < next_after low es
next_bounds low k [] up there = absurd cc
next_bounds low k (e ∷ es) up there =
    let top = next_after-above (e.0 + 1) es up.1 in
    grind (arith, cmp_tells k e.0, next_bounds (e.0 + 1) k es up.1)

Came-has : (k : ℕ) (es : List Numbered) (ks : List ℕ) → Came es ks → contains k ks ≡ true → has k es ≡ true
Came-has k es [] all there = absurd cc
Came-has k es (x ∷ ks) all there = grind (arith, cmp_tells k x, Came-has k es ks all.1, all.0)

below_gap : (o : Option Range) (k : ℕ) → k < from_or (2 ^ 24) o → is_below o k ≡ true
below_gap None k below = refl
below_gap (Some gap) k below = lt-ltb _ _ below

past_gap : (o : Option Range) (k : ℕ) → k < 2 ^ 24 → from_or (2 ^ 24) o ≤ k → is_below o k ≡ false
past_gap None k small past = absurd (omega arith)
past_gap (Some gap) k small past = le-ltb _ _ past

-- the front that a status looks at lies below the least number that is not acked and the first gap that is not listed
pub settled-filter : (i : Incoming) (first : ℕ) → Ascends 0 i.came → next_after 0 i.came ≤ 2 ^ 24 → Came i.came i.unacked → IsFirstOf i.unacked first
    → settled i ≡ filter (λ a. ltb a.0 (min first (from_or (2 ^ 24) (slice_get (gaps 0 i.came) 168)))) i.came
settled-filter i first up small came is =
    let unlisted = slice_get (gaps 0 i.came) 168 in
    let limit = min first (from_or (2 ^ 24) unlisted) in
    front_is (λ k. not (contains k i.unacked) && is_below unlisted k) limit 0 i.came up
    (λ k below. rw (is.none_below k (omega arith), below_gap unlisted k (omega arith)) refl)
    (λ k past there none.
    let fits : k < 2 ^ 24 = omega (arith, small, next_bounds 0 k i.came up there) in
    elim (cases_lt k (from_or (2 ^ 24) unlisted)) [
      | inr behind ↦ rw (past_gap unlisted k fits behind) (and_false (not (contains k i.unacked)))
      | inl before ↦ elim is.there [
        | inl end ↦ absurd (omega arith)
        | inr first_there ↦
            let first_came = Came-has first i.came i.unacked came first_there in
            elim (cases_lt first k) [
              | inl less ↦ absurd (false≢true (sym (none first (omega arith) less) ∙ first_came))
              | inr not_less ↦
                  let same : first ≡ k = omega arith in
                  rw (← same, first_there) refl
            ]
      ]
    ])

-- the PDU that a status names is the last of the first sends below the limit
pub named-last : (i : Incoming) (firsts : List Numbered) (missing : List Range) (first : ℕ) → Ascends 0 i.came → next_after 0 i.came ≤ 2 ^ 24 → Came i.came i.unacked → IsFirstOf i.unacked first
    → firsts ≡ filter (λ a. is_first a.1) i.came → missing ≡ gaps 0 i.came
    → named i ≡ last (filter (λ a. ltb a.0 (min first (from_or (2 ^ 24) (slice_get missing 168)))) firsts)
named-last i firsts missing first up small came is firsts_are gaps_are =
    rw (settled-filter i first up small came is, firsts_are, gaps_are) (ap last (filter_swap (λ (a : Numbered). is_first a.1) _ i.came))

-- what is told of the named PDU
pub told_some : {Y : Type 0} (f : Arrival → Option Y) (o : Option Numbered) (a : Arrival) → Some a ≡ option_map (λ (n : Numbered). n.1) o → f a ≡ option_and_then (λ (n : Numbered). f n.1) o
told_some f None a is = absurd cc
told_some f (Some n) a is = let same : a ≡ n.1 = cc in ap f same

pub told_none : {Y : Type 0} (f : Arrival → Option Y) (o : Option Numbered) → None ≡ option_map (λ (n : Numbered). n.1) o → None ≡ option_and_then (λ (n : Numbered). f n.1) o
told_none f None is = refl
told_none f (Some n) is = absurd cc

-- what `Inbound` finds is the PDU that a status names
pub finds_named : (i : Incoming) (firsts : List Numbered) (ends : ByEnd) (next first unlisted limit : ℕ) (found : Option Arrival) → IsInboundState i.came i.unacked firsts ends next → IsFirstOf i.unacked first
    → unlisted ≡ from_or (2 ^ 24) (slice_get (map gap_range ends) 168) → limit ≡ min first unlisted → found ≡ option_map (λ (a : Numbered). a.1) (last (filter (λ a. ltb a.0 limit) firsts))
    → found ≡ option_map (λ (a : Numbered). a.1) (named i)
finds_named i firsts ends next first unlisted limit found state is unlisted_is limit_is found_is =
    found_is ∙ rw (limit_is, unlisted_is) (ap (option_map (λ (a : Numbered). a.1)) (sym (named-last i firsts (map gap_range ends) first state.ascends state.small state.unacked_came is state.firsts_are state.gaps_are)))
