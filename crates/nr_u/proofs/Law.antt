-- A delivery status confirms what came and was acked, and nothing else.
use Rattle.std.proofs.Common.{◌≡◌, ℕ, zero, suc, ◌+◌, ◌<◌, ◌≤◌, ◌^◌, ◌⊎◌, ◌&&◌, ◌||◌, Bool, true, false, not, ltb, leb, List, [], ◌∷◌, length, take, Option, Some, None, is_some, refl, sym, ap, ◌∙◌, subst, inl, inr, arith}
use Rattle.std.specs.Prelude.{◌≢◌, IfSome, filter, map, take_while, option_map, option_and_then, slice_get}
use Rattle.std.specs.List.{AllByRecursion}
use Rattle.std.specs.Option.{IsSomeAnd}
use Rattle.std.proofs.lemmas.Bool.{lt-ltb, ltb-true, le-leb, leb-true, cases_lt, cases_Bool, false≢true}
use Rattle.std.proofs.lemmas.List.Sums.{take_while-cons}
use Rattle.dc_base.specs.declared.numbers.SnLen.{SnLen}
use Rattle.dc_base.specs.declared.numbers.SnLen.TheVariants.{S12, S18}
use Rattle.dc_base.specs.Count.{modulus, window, sn, count_for}
use Rattle.dc_base.proofs.Counting.{count_for_finds, sn_small}
use Rattle.nr_u.specs.declared.frame.Range.{Range}
use Rattle.nr_u.specs.declared.frame.Frame.{Frame}
use Rattle.nr_u.specs.declared.frame.Frame.TheVariants.{Status}
use Rattle.nr_u.specs.declared.tunnel.inbound.Arrival.{Arrival}
use Rattle.nr_u.specs.declared.tunnel.outbound.Sent.{Sent}
use Rattle.nr_u.specs.Frames.{Rising, IsWritable}
use Rattle.nr_u.specs.Tunnel.Incoming.{Incoming, Numbered, Ascends, has, contains, gaps, listed, is_below, is_first, last, settled, named}
use Rattle.nr_u.specs.Tunnel.Kept.{ByEnd, next_after, IsInboundState}
use Rattle.nr_u.specs.Tunnel.Delivery.{status_of}
use Rattle.nr_u.specs.Tunnel.Outgoing.{Outgoing, Counted, highest_of, is_listed, confirms, confirmed_by, first_send, AreFirstSends}
use Rattle.nr_u.specs.Tunnel.Verdicts.{confirmed_of}
use Rattle.nr_u.specs.Tunnel.Ends.{IsAsSent, IsOtherEnd, WasAckedUnder, WasAcked}
use Rattle.nr_u.proofs.ByNumber.{cmp_tells}
use Rattle.nr_u.proofs.Filters.{all_filter}
use Rattle.nr_u.proofs.Gaps.{IsMissing, gaps-missing, gaps-rising, gaps-end}
use Rattle.nr_u.proofs.Settled.{has_before, has_head, has_other, next_bounds}

-- ---- what is in a list

abbrev Within : {X : Type 0} → X → List X → Type 0
Within x [] = ⊥
Within x (y ∷ ys) = (y ≡ x) ⊎ Within x ys

last_within : {X : Type 0} (x : X) (xs : List X) → last xs ≡ Some x → Within x xs
last_within x [] is = absurd cc
last_within x (y ∷ []) is = let same : y ≡ x = cc in inl same
last_within x (y ∷ z ∷ ys) is = inr (last_within x (z ∷ ys) is)

filter_within : {X : Type 0} (p : X → Bool) (x : X) (xs : List X) → Within x (filter p xs) → (p x ≡ true) × Within x xs
filter_within p x [] there = absurd there
filter_within {X} p x (y ∷ ys) there =
    elim (cases_Bool (p y)) [
      | inl passes ↦
          let step : filter p (y ∷ ys) ≡ y ∷ filter p ys = rw passes refl in
          let kept : Within x (y ∷ filter p ys) = subst (λ (l : List X). Within x l) step there in
          elim kept [
            | inl same ↦ (rw (← same) passes, inl same)
            | inr later ↦ let rest = filter_within p x ys later in (rest.0, inr rest.1)
          ]
      | inr fails ↦
          let step : filter p (y ∷ ys) ≡ filter p ys = rw fails refl in
          let kept : Within x (filter p ys) = subst (λ (l : List X). Within x l) step there in
          let rest = filter_within p x ys kept in (rest.0, inr rest.1)
    ]

all_within : {X : Type 0} (P : X → Type 0) (x : X) (xs : List X) → AllByRecursion P xs → Within x xs → P x
all_within P x [] all there = absurd there
all_within P x (y ∷ ys) all there =
    elim there [
      | inl same ↦ subst P same all.0
      | inr later ↦ all_within P x ys all.1 later
    ]

all_map : {X Y : Type 0} (P : X → Type 0) (Q : Y → Type 0) (f : X → Y) (xs : List X) → AllByRecursion P xs → ((x : X) → P x → Q (f x)) → AllByRecursion Q (map f xs)
all_map P Q f [] all gives = tt
all_map P Q f (x ∷ xs) all gives = (gives x all.0, all_map P Q f xs all.1 gives)

-- ---- tests

and_true : (a b : Bool) → (a && b) ≡ true → (a ≡ true) × (b ≡ true)
and_true true b both = (refl, both)
and_true false b both = absurd cc

not_true : (b : Bool) → not b ≡ true → b ≡ false
not_true true is = absurd cc
not_true false is = refl

or_right : (a b : Bool) → b ≡ true → (a || b) ≡ true
or_right true b is = refl
or_right false b is = is

-- ---- the front of what came

-- up to a PDU of the front, each number that came passes the test of the front
front_passes : (test : ℕ → Bool) (low k : ℕ) (a : Numbered) (es : List Numbered) → Ascends low es → Within a (take_while (λ e. test e.0) es) → k ≤ a.0 → has k es ≡ true → test k ≡ true
front_passes test low k a [] up there le came = absurd there
front_passes test low k a (e ∷ es) up there le came =
    elim (cases_Bool (test e.0)) [
      | inl passes ↦
          let step : take_while (λ (x : Numbered). test x.0) (e ∷ es) ≡ e ∷ take_while (λ (x : Numbered). test x.0) es = take_while-cons (λ (x : Numbered). test x.0) e es ∙ rw passes refl in
          let kept : Within a (e ∷ take_while (λ (x : Numbered). test x.0) es) = subst (λ (l : List Numbered). Within a l) step there in
          elim (cmp_tells k e.0) [
            | inl less ↦ absurd (false≢true (sym (has_before k e.0 (e ∷ es) (omega arith, up.1) less.1) ∙ came))
            | inr rest ↦ elim rest [
              | inl same ↦ rw same.1 passes
              | inr more ↦
                  let other : k ≢ e.0 = λ same. absurd (omega (arith, same, more.1)) in
                  elim kept [
                    | inl same ↦ let at : e.0 ≡ a.0 = ap (λ (x : Numbered). x.0) same in absurd (omega (arith, at, more.1))
                    | inr later ↦ front_passes test (e.0 + 1) k a es up.1 later le (sym (has_other k e es other) ∙ came)
                  ]
            ]
          ]
      | inr fails ↦
          let step : take_while (λ (x : Numbered). test x.0) (e ∷ es) ≡ [] = take_while-cons (λ (x : Numbered). test x.0) e es ∙ rw fails refl in
          absurd (subst (λ (l : List Numbered). Within a l) step there)
    ]

front_within : (p : Numbered → Bool) (a : Numbered) (es : List Numbered) → Within a (take_while p es) → Within a es
front_within p a [] there = absurd there
front_within p a (e ∷ es) there =
    elim (cases_Bool (p e)) [
      | inl passes ↦
          let step : take_while p (e ∷ es) ≡ e ∷ take_while p es = take_while-cons p e es ∙ rw passes refl in
          let kept : Within a (e ∷ take_while p es) = subst (λ (l : List Numbered). Within a l) step there in
          elim kept [ inl same ↦ inl same | inr later ↦ inr (front_within p a es later) ]
      | inr fails ↦
          let step : take_while p (e ∷ es) ≡ [] = take_while-cons p e es ∙ rw fails refl in
          absurd (subst (λ (l : List Numbered). Within a l) step there)
    ]

within_has : (a : Numbered) (es : List Numbered) → Within a es → has a.0 es ≡ true
within_has a [] there = absurd there
within_has a (e ∷ es) there =
    elim there [
      | inl same ↦ subst (λ (x : Numbered). has x.0 (e ∷ es) ≡ true) same (has_head e es)
      | inr later ↦ let came = within_has a es later in grind (arith, cmp_tells a.0 e.0)
    ]

-- ---- the gaps that are listed

missing_from : (low k : ℕ) (rs : List Range) → Rising low rs → IsMissing k rs → low ≤ k
missing_from low k [] up missing = absurd missing
missing_from low k (r ∷ rs) up missing =
    elim missing [
      | inl here ↦ omega (arith, up.0, here.0)
      | inr there ↦ omega (arith, up.0, up.1, missing_from (r.to + 1) k rs up.2 there)
    ]

-- a number in a gap below the first that is not listed is in a listed one
missing_listed : (n low k : ℕ) (rs : List Range) → Rising low rs → IsMissing k rs → is_below (slice_get rs n) k ≡ true → is_listed (take n rs) k ≡ true
missing_listed n low k [] up missing below = absurd missing
missing_listed zero low k (r ∷ rs) up missing below =
    let before : k < r.from = ltb-true _ _ below in
    elim missing [
      | inl here ↦ absurd (omega (arith, here.0, before))
      | inr there ↦ absurd (omega (arith, before, up.1, missing_from (r.to + 1) k rs up.2 there))
    ]
missing_listed (suc n) low k (r ∷ rs) up missing below =
    elim missing [
      | inl here ↦ rw (le-leb _ _ here.0, le-leb _ _ here.1) refl
      | inr there ↦ or_right (leb r.from k && leb k r.to) _ (missing_listed n (r.to + 1) k rs up.2 there below)
    ]

below_too : (o : Option Range) (j k : ℕ) → j ≤ k → is_below o k ≡ true → is_below o j ≡ true
below_too None j k le below = refl
below_too (Some gap) j k le below = let before : k < gap.from = ltb-true _ _ below in lt-ltb _ _ (omega (arith, before))

-- up to a PDU of the front, each number that is in no listed gap came and was acked
front_acked : (i : Incoming) (a : Numbered) (k : ℕ) → Ascends 0 i.came → Within a (settled i) → k ≤ a.0 → is_listed (listed i.came) k ≡ false → (has k i.came ≡ true) × (contains k i.unacked ≡ false)
front_acked i a k up there le unlisted =
    let limit = slice_get (gaps 0 i.came) 168 in
    let test : ℕ → Bool = λ x. not (contains x i.unacked) && is_below limit x in
    let a_came = within_has a i.came (front_within (λ x. test x.0) a i.came there) in
    elim (cases_Bool (has k i.came)) [
      | inl came ↦ (came, not_true _ (and_true _ _ (front_passes test 0 k a i.came up there le came)).0)
      | inr absent ↦
          let a_below : is_below limit a.0 ≡ true = (and_true (not (contains a.0 i.unacked)) _ (front_passes test 0 a.0 a i.came up there (omega arith) a_came)).1 in
          let missing = gaps-missing 0 k i.came (omega arith) (omega (arith, le, next_bounds 0 a.0 i.came up a_came)) absent in
          absurd (false≢true (sym unlisted ∙ missing_listed 168 0 k (gaps 0 i.came) (gaps-rising 0 i.came up) missing (below_too limit k a.0 le a_below)))
    ]

-- ---- the COUNT that is named

same_count : (n : SnLen) (low c d : ℕ) → low ≤ c + window n → c < low + window n → low ≤ d + window n → d < low + window n → sn n d ≡ sn n c → d ≡ c
unfolding sn modulus window
same_count S12 low c d c_low c_high d_low d_high same = omega arith
same_count S18 low c d c_low c_high d_low d_high same = omega arith

-- the highest COUNT that a frame confirms is the one whose sequence number it names
highest_is : (n : SnLen) (low c top : ℕ) → low ≤ c + window n → c < low + window n → highest_of n low (Some (sn n c)) ≡ Some top → top ≡ c
highest_is n low c top c_low c_high is =
    let small = sn_small n c in
    let test : ltb (sn n c) (modulus n) ≡ true = lt-ltb _ _ small in
    let step : highest_of n low (Some (sn n c)) ≡ count_for n low (sn n c) = rw test refl in
    let found = (count_for_finds n low (sn n c) top small (sym step ∙ is)).0 in
    same_count n low c top c_low c_high found.low found.high found.shows

confirms_below : (h : Option ℕ) (lost : List Range) (e : Counted) → confirms h lost e ≡ true → (top : ℕ) × ((h ≡ Some top) × (e.1 ≤ top) × (is_listed lost e.0 ≡ false))
confirms_below None lost e confirmed = absurd cc
confirms_below (Some top) lost e confirmed =
    let both = and_true (leb e.1 top) (not (is_listed lost e.0)) confirmed in
    (top, (refl, leb-true _ _ both.0, not_true _ both.1))

sent_is : (s : Sent) (c : ℕ) → s.count ≡ Some c → s.repeat ≡ false → s ≡ first_send c
sent_is s c count repeat =
    let made : Option ℕ → Bool → Sent = λ x b. record { count = x; repeat = b } in
    ap (λ (x : Option ℕ). made x s.repeat) count ∙ ap (λ (b : Bool). made (Some c) b) repeat

-- a first send that came was sent as one
first_parts : (n : SnLen) (count sn_came : Option ℕ) (repeat : Bool) → is_some sn_came ≡ true → sn_came ≡ option_map (sn n) count → (c : ℕ) × ((count ≡ Some c) × (sn_came ≡ Some (sn n c)))
first_parts n None sn_came repeat some is = absurd (false≢true (sym (ap is_some is) ∙ some))
first_parts n (Some c) sn_came repeat some is = (c, (refl, is))

came_first : (n : SnLen) (a : Arrival) (sent : Option Sent) → is_first a ≡ true → IsSomeAnd sent (IsAsSent n a) → (c : ℕ) × ((sent ≡ Some (first_send c)) × (a.sn ≡ Some (sn n c)))
came_first n a None first is = absurd is
came_first n a (Some s) first is =
    let both = and_true (is_some a.sn) (not a.repeat) first in
    let parts = first_parts n s.count a.sn s.repeat both.0 is.1 in
    (parts.0, (ap Some (sent_is s parts.0 parts.1.0 (sym is.0 ∙ not_true _ both.1)), parts.1.1))

-- ---- the law

acked_under : (sent : List Sent) (o : Outgoing) (low : ℕ) (i : Incoming) (e : Counted) (named_is : Option Numbered) → IsOtherEnd o.n sent low i → slice_get sent e.0 ≡ Some (first_send e.1) → named i ≡ named_is
    → confirms (highest_of o.n low (option_and_then (λ (a : Numbered). a.1.sn) named_is)) (listed i.came) e ≡ true → WasAckedUnder sent i e.1 e.0
acked_under sent o low i e None end first_is is confirmed = absurd cc
acked_under sent o low i e (Some a) end first_is is confirmed =
    let there = filter_within (λ (x : Numbered). is_first x.1) a (settled i) (last_within a _ is) in
    let a_came = front_within (λ x. not (contains x.0 i.unacked) && is_below (slice_get (gaps 0 i.came) 168) x.0) a i.came there.1 in
    let first = came_first o.n a.1 (slice_get sent a.0) there.0 (all_within _ a i.came end.as_sent a_came) in
    let c = first.0 in
    let near = end.near a c is first.1.0 in
    let below = confirms_below (highest_of o.n low a.1.sn) (listed i.came) e confirmed in
    let top : below.0 ≡ c = highest_is o.n low c below.0 near.0 near.1 (ap (highest_of o.n low) (sym first.1.1) ∙ below.1.0) in
    elim (cases_lt a.0 e.0) [
      | inl after ↦ absurd (omega (arith, top, below.1.1, end.rise a.0 e.0 c e.1 after first.1.0 first_is))
      | inr not_after ↦
          let acked = front_acked i a e.0 end.ascends there.1 not_after below.1.2 in
          record { sent_first = first_is; came = acked.0; acked = acked.1 }
    ]

-- a number that did not come, or was not acked, is never confirmed
only_acked : (sent : List Sent) (o : Outgoing) (low : ℕ) (i : Incoming) → IsOtherEnd o.n sent low i → AreFirstSends sent o.waiting
    → AllByRecursion (λ e. WasAckedUnder sent i e.1 e.0) (confirmed_by o low (option_and_then (λ (a : Numbered). a.1.sn) (named i)) (listed i.came))
only_acked sent o low i end waits =
    all_filter (λ e. slice_get sent e.0 ≡ Some (first_send e.1)) _ _ o.waiting waits (λ e first_is confirmed. acked_under sent o low i e (named i) end first_is refl confirmed)

-- the same of the COUNTs
pub counts_acked : (sent : List Sent) (o : Outgoing) (low : ℕ) (i : Incoming) (f : Frame) → IsOtherEnd o.n sent low i → AreFirstSends sent o.waiting → f ≡ status_of i → AllByRecursion (WasAcked sent i) (confirmed_of o low f)
counts_acked sent o low i f end waits is =
    rw is (all_map (λ (e : Counted). WasAckedUnder sent i e.1 e.0) (WasAcked sent i) (λ (e : Counted). e.1) _ (only_acked sent o low i end waits) (λ e under. (e.0, under)))

-- ---- a status can be encoded

rising_take : (n low : ℕ) (rs : List Range) → Rising low rs → Rising low (take n rs)
rising_take zero low rs up = tt
rising_take (suc n) low [] up = tt
rising_take (suc n) low (r ∷ rs) up = (up.0, up.1, rising_take n (r.to + 1) rs up.2)

take_len : (n : ℕ) (rs : List Range) → length (take n rs) ≤ n
take_len zero rs = omega arith
take_len (suc n) [] = omega arith
take_len (suc n) (r ∷ rs) = omega (arith, take_len n rs)

small_take : (n top : ℕ) (rs : List Range) → top ≤ 2 ^ 24 → AllByRecursion (λ (r : Range). r.to < top) rs → AllByRecursion (λ (r : Range). r.to < 2 ^ 24) (take n rs)
small_take zero top rs le all = tt
small_take (suc n) top [] le all = tt
small_take (suc n) top (r ∷ rs) le all = (omega (arith, all.0), small_take n top rs le all.1)

named_small : (i : Incoming) (named_is : Option Numbered) → named i ≡ named_is → AllByRecursion (λ (a : Numbered). IfSome a.1.sn (λ s. s < 2 ^ 18)) i.came → IfSome (option_and_then (λ (a : Numbered). a.1.sn) named_is) (λ s. s < 2 ^ 18)
named_small i None is all = tt
named_small i (Some a) is all =
    let there = filter_within (λ (x : Numbered). is_first x.1) a (settled i) (last_within a _ is) in
    all_within (λ (x : Numbered). IfSome x.1.sn (λ s. s < 2 ^ 18)) a i.came all (front_within (λ x. not (contains x.0 i.unacked) && is_below (slice_get (gaps 0 i.came) 168) x.0) a i.came there.1)

pub status_writable : (i : Incoming) (firsts : List Numbered) (ends : ByEnd) (next : ℕ) → IsInboundState i.came i.unacked firsts ends next → IsWritable (status_of i)
status_writable i firsts ends next state =
    (named_small i (named i) refl state.sns, take_len 168 (gaps 0 i.came), (rising_take 168 0 (gaps 0 i.came) (gaps-rising 0 i.came state.ascends), small_take 168 (next_after 0 i.came) (gaps 0 i.came) state.small (gaps-end 0 i.came state.ascends)))
