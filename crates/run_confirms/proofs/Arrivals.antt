-- What came in a tunnel stays as it was sent, and the delivery status of it says the truth.
use Rattle.std.proofs.Common.{◌≡◌, ℕ, ◌+◌, ◌++◌, ◌<◌, ◌≤◌, ◌^◌, ◌&&◌, ◌∷◌, [], true, false, Bool, List, Option, Some, None, is_some, zero, suc, length, not, leb, refl, sym, ap, ◌∙◌, subst, inl, inr, arith}
use Rattle.std.specs.Prelude.{◌≢◌, IfSome, filter, option_and_then, option_map, slice_get, take}
use Rattle.std.specs.List.{AllByRecursion}
use Rattle.std.specs.Option.{IsSomeAnd}
use Rattle.std.specs.Ordering.{nat_cmp}
use Rattle.std.specs.BTreeMap.{is_at}
use Rattle.std.specs.BTreeSet.{insert_key}
use Rattle.std.specs.Set.{remove_key}
use Rattle.std.proofs.lemmas.Bool.{and_parts, cases_Bool, cases_eq, false≢true, le-leb, leb-true}
use Rattle.std.proofs.lemmas.Option.{slice_get_within}
use Rattle.dc_base.specs.declared.numbers.SnLen.{SnLen}
use Rattle.dc_base.specs.Count.{sn, window}
use Rattle.dc_base.proofs.Counting.{modulus_bounds, sn_small, window_some}
use Rattle.nr_u.specs.declared.frame.Range.{Range}
use Rattle.nr_u.specs.Frames.{IsWritable, Rising}
use Rattle.nr_u.specs.declared.tunnel.inbound.Arrival.{Arrival}
use Rattle.nr_u.specs.declared.tunnel.outbound.Sent.{Sent}
use Rattle.nr_u.specs.Tunnel.Delivery.{status_of, tag_of}
use Rattle.nr_u.specs.Tunnel.Ends.{FirstSendsRise, IsAsSent, IsOtherEnd, WasAcked, WasAckedUnder}
use Rattle.nr_u.specs.Tunnel.Incoming.{Incoming, Numbered, contains, gaps, has, is_first, last, listed, named, settled, with_ack, with_arrival}
use Rattle.nr_u.specs.Tunnel.Kept.{next_after}
use Rattle.nr_u.specs.Tunnel.Outgoing.{Outgoing, confirms, first_send, highest_of, is_listed}
use Rattle.nr_u.specs.Tunnel.Verdicts.{confirmed_of}
use Rattle.nr_u.proofs.ByNumber.{Ascends-insert, cmp_tells, insert_all}
use Rattle.nr_u.proofs.Filters.{all_filter}
use Rattle.nr_u.proofs.Gaps.{gaps-end, gaps-rising}
use Rattle.nr_u.proofs.History.{contains_insert}
use Rattle.nr_u.proofs.Law.{counts_acked}
use Rattle.nr_u.proofs.Settled.{has_other}
use Rattle.run_confirms.specs.Arrivals.{CameAs, HasCome, IsReceivedIfAcked}
use Rattle.run_confirms.specs.Statuses.{AreReceivedTo, FirstsBelow, IsStatusOf, Stays, WasFirst, count_under}
use Rattle.run_confirms.proofs.Statuses.{get_front, highest_is, if_some_stays, not_true}

-- ---- what holds of each

pub each_both : {X : Type 0} (P Q R : X → Type 0) (xs : List X) → AllByRecursion P xs → AllByRecursion Q xs → ((x : X) → P x → Q x → R x) → AllByRecursion R xs
each_both P Q R [] ps qs gives = tt
each_both P Q R (x ∷ xs) ps qs gives = (gives x ps.0 qs.0, each_both P Q R xs ps.1 qs.1 gives)

pub each_with : {X : Type 0} (P Q : X → Type 0) (xs : List X) → AllByRecursion P xs → ((x : X) → P x → Q x) → AllByRecursion Q xs
each_with P Q xs ps gives = each_both P P Q xs ps ps (λ x p q. gives x p)

each_take : {X : Type 0} (P : X → Type 0) (k : ℕ) (xs : List X) → AllByRecursion P xs → AllByRecursion P (take k xs)
each_take P zero xs ps = tt
each_take P (suc k) [] ps = tt
each_take P (suc k) (x ∷ xs) ps = (ps.0, each_take P k xs ps.1)

last_one : {X : Type 0} (P : X → Type 0) (xs : List X) → AllByRecursion P xs → IfSome (last xs) P
last_one P [] ps = tt
last_one P (x ∷ []) ps = ps.0
last_one P (x ∷ y ∷ xs) ps = last_one P (y ∷ xs) ps.1

-- what holds of each that came holds of the one that came under a number
pub has_one : (P : Numbered → Type 0) (k : ℕ) (es : List Numbered) → AllByRecursion P es → has k es ≡ true → (a : Arrival) × P (k, a)
has_one P k [] ps there = absurd cc
has_one P k (e ∷ es) ps there =
    elim (cases_eq k e.0) [
      | inl same ↦ (e.1, subst (λ (x : ℕ). P (x, e.1)) (sym same) ps.0)
      | inr other ↦ has_one P k es ps.1 (sym (has_other k e es other) ∙ there)
    ]

-- ---- sets of numbers

contains_new : (k : ℕ) (ks : List ℕ) → contains k (insert_key nat_cmp ks k) ≡ true
contains_new k [] = grind (arith, cmp_tells k k)
contains_new k (x ∷ ks) = grind (arith, cmp_tells k x, cmp_tells k k, contains_new k ks)

contains_less : (c k : ℕ) (ks : List ℕ) → contains c (insert_key nat_cmp ks k) ≡ false → contains c ks ≡ false
contains_less c k ks absent =
    elim (cases_Bool (contains c ks)) [
      | inl there ↦ absurd (false≢true (sym absent ∙ contains_insert c k ks there))
      | inr is ↦ is
    ]

contains_left : (c k : ℕ) (ks : List ℕ) → c ≢ k → contains c (remove_key (is_at (nat_cmp k)) ks) ≡ contains c ks
contains_left c k [] other = refl
contains_left c k (x ∷ ks) other = grind (arith, cmp_tells k x, cmp_tells c x, contains_left c k ks other)

-- ---- more is sent, more is received

some_front : {X : Type 0} (P : X → Type 0) (xs ys : List X) (k : ℕ) → IsSomeAnd (slice_get xs k) P → IsSomeAnd (slice_get (xs ++ ys) k) P
some_front {X} P xs ys k there = by (slice_get xs k) refl there
  where
    by : (o : Option X) → slice_get xs k ≡ o → IsSomeAnd o P → IsSomeAnd (slice_get (xs ++ ys) k) P
    by None at holds = absurd holds
    by (Some x) at holds = rw (get_front xs ys k x at) holds

pub come_lasts : (tun more : List Sent) (received later : ℕ → Type 0) (i : Incoming) → Stays received later → HasCome tun received i
    → HasCome (tun ++ more) later i
come_lasts tun more received later i stays is = record {
  ascends = is.ascends;
  sent = each_with (λ (a : Numbered). IsSomeAnd (slice_get tun a.0) (CameAs i.n a.1)) (λ (a : Numbered). IsSomeAnd (slice_get (tun ++ more) a.0) (CameAs i.n a.1)) i.came is.sent
      (λ a at. some_front (CameAs i.n a.1) tun more a.0 at);
  acked = each_with (IsReceivedIfAcked received i.unacked) (IsReceivedIfAcked later i.unacked) i.came is.acked (λ a was absent. if_some_stays received later a.1.tag stays (was absent));
}

-- ---- a PDU comes, and an ack

-- a PDU comes under a number
pub arrival_kept : (tun : List Sent) (received : ℕ → Type 0) (i : Incoming) (number : ℕ) (a : Arrival) → IsSomeAnd (slice_get tun number) (CameAs i.n a)
    → HasCome tun received i → HasCome tun received (with_arrival i number a)
arrival_kept tun received i number a here is =
    elim (cases_Bool (has number i.came)) [
      | inl came ↦ rw came is
      | inr new ↦ rw new (record {
        ascends = Ascends-insert 0 number a i.came (omega arith) is.ascends new;
        sent = insert_all (λ (e : Numbered). IsSomeAnd (slice_get tun e.0) (CameAs i.n e.1)) number a i.came here is.sent;
        acked = insert_all (IsReceivedIfAcked received (insert_key nat_cmp i.unacked number)) number a i.came
            (λ absent. absurd (false≢true (sym absent ∙ contains_new number i.unacked)))
            (each_with (IsReceivedIfAcked received i.unacked) (IsReceivedIfAcked received (insert_key nat_cmp i.unacked number)) i.came is.acked
            (λ e was absent. was (contains_less e.0 number i.unacked absent)));
      })
    ]

-- the tag of what came is the COUNT of what was sent
tag_is : (n : SnLen) (tun : List Sent) (number : ℕ) (a : Arrival) → IsSomeAnd (slice_get tun number) (CameAs n a) → a.tag ≡ count_under tun number
tag_is n tun number a there = by (slice_get tun number) refl there
  where
    by : (o : Option Sent) → slice_get tun number ≡ o → IsSomeAnd o (CameAs n a) → a.tag ≡ count_under tun number
    by None at holds = absurd holds
    by (Some s) at holds = rw at holds.1

-- the PDU of a number is acked, which was received if it is a data PDU
pub ack_kept : (tun : List Sent) (received : ℕ → Type 0) (i : Incoming) (number : ℕ) → IfSome (count_under tun number) received → HasCome tun received i
    → HasCome tun received (with_ack i number)
ack_kept tun received i number here is = record {
  ascends = is.ascends;
  sent = is.sent;
  acked = each_both (λ (a : Numbered). IsSomeAnd (slice_get tun a.0) (CameAs i.n a.1)) (IsReceivedIfAcked received i.unacked)
      (IsReceivedIfAcked received (remove_key (is_at (nat_cmp number)) i.unacked)) i.came is.sent is.acked (λ a at was absent. one a at was absent);
}
  where
    one : (a : Numbered) → IsSomeAnd (slice_get tun a.0) (CameAs i.n a.1) → IsReceivedIfAcked received i.unacked a
        → contains a.0 (remove_key (is_at (nat_cmp number)) i.unacked) ≡ false
        → IfSome a.1.tag received
    one a at was absent =
        elim (cases_eq a.0 number) [
          | inl same ↦
              let tag : a.1.tag ≡ count_under tun number = tag_is i.n tun a.0 a.1 at ∙ ap (count_under tun) same in
              rw tag here
          | inr other ↦ was (sym (contains_left a.0 number i.unacked other) ∙ absent)
        ]

-- ---- the numbers that a status lists were given

next_given : (end low : ℕ) (es : List Numbered) → low ≤ end → AllByRecursion (λ (a : Numbered). a.0 < end) es → next_after low es ≤ end
next_given end low [] le all = le
next_given end low (a ∷ es) le all = next_given end (a.0 + 1) es (omega (arith, all.0)) all.1

some_given : (tun : List Sent) (n : SnLen) (a : Numbered) → IsSomeAnd (slice_get tun a.0) (CameAs n a.1) → a.0 < length tun
some_given tun n a there = by (slice_get tun a.0) refl there
  where
    by : (o : Option Sent) → slice_get tun a.0 ≡ o → IsSomeAnd o (CameAs n a.1) → a.0 < length tun
    by None at holds = absurd holds
    by (Some s) at holds = slice_get_within tun a.0 s at

listed_below : (end number : ℕ) (rs : List Range) → AllByRecursion (λ (r : Range). r.to < end) rs → is_listed rs number ≡ true → number < end
listed_below end number [] all is = absurd cc
listed_below end number (r ∷ rs) all is =
    elim (cases_Bool (leb r.from number && leb number r.to)) [
      | inl here ↦ let le : number ≤ r.to = leb-true _ _ (and_parts (leb r.from number) (leb number r.to) here).1 in omega (arith, le, all.0)
      | inr later ↦ let step : is_listed (r ∷ rs) number ≡ is_listed rs number = rw later refl in listed_below end number rs all.1 (sym step ∙ is)
    ]

listed_given : (tun : List Sent) (received : ℕ → Type 0) (i : Incoming) → HasCome tun received i → (number : ℕ) → is_listed (listed i.came) number ≡ true
    → number < length tun
listed_given tun received i is number there =
    let came : AllByRecursion (λ (a : Numbered). a.0 < length tun) i.came =
    each_with (λ (a : Numbered). IsSomeAnd (slice_get tun a.0) (CameAs i.n a.1)) (λ (a : Numbered). a.0 < length tun) i.came is.sent (some_given tun i.n) in
    let below : number < next_after 0 i.came =
    listed_below (next_after 0 i.came) number (listed i.came) (each_take (λ (r : Range). r.to < next_after 0 i.came) 168 (gaps 0 i.came) (gaps-end 0 i.came is.ascends)) there in
    omega (arith, below, next_given (length tun) 0 i.came (omega arith) came)

-- ---- the PDU whose sequence number a status shows

-- it came as it was sent, and is a first send
abbrev IsNamed : List Sent → SnLen → Numbered → Type 0
IsNamed tun n a = IsSomeAnd (slice_get tun a.0) (CameAs n a.1) × (is_first a.1 ≡ true)

named_one : (tun : List Sent) (received : ℕ → Type 0) (i : Incoming) → HasCome tun received i → IfSome (named i) (IsNamed tun i.n)
named_one tun received i is =
    let front : AllByRecursion (λ (a : Numbered). IsSomeAnd (slice_get tun a.0) (CameAs i.n a.1)) (settled i) =
    each_take (λ (a : Numbered). IsSomeAnd (slice_get tun a.0) (CameAs i.n a.1)) _ i.came is.sent in
    last_one (IsNamed tun i.n) (filter (λ (a : Numbered). is_first a.1) (settled i))
    (all_filter (λ (a : Numbered). IsSomeAnd (slice_get tun a.0) (CameAs i.n a.1)) (IsNamed tun i.n) (λ (a : Numbered). is_first a.1) (settled i) front (λ a at first. (at, first)))

shown_as : (n : SnLen) (tun : List Sent) (o : Option Numbered) → IfSome o (IsNamed tun n)
    → option_and_then (λ (a : Numbered). a.1.sn) o ≡ option_map (sn n) (option_and_then (λ (a : Numbered). a.1.tag) o)
shown_as n tun None is = refl
shown_as n tun (Some a) is = by (slice_get tun a.0) is.0
  where
    by : (o : Option Sent) → IsSomeAnd o (CameAs n a.1) → a.1.sn ≡ option_map (sn n) a.1.tag
    by None holds = absurd holds
    by (Some s) holds = holds.0.1 ∙ ap (option_map (sn n)) (sym holds.1)

pub sent_is : (s : Sent) (c : ℕ) → s.count ≡ Some c → s.repeat ≡ false → s ≡ first_send c
sent_is s c count repeat =
    let made : Option ℕ → Bool → Sent = λ x b. record { count = x; repeat = b } in
    ap (λ (x : Option ℕ). made x s.repeat) count ∙ ap (λ (b : Bool). made (Some c) b) repeat

-- the PDU with this tag was sent for the first time under its number
first_under : (n : SnLen) (tun : List Sent) (a : Numbered) (h : ℕ) → IsNamed tun n a → a.1.tag ≡ Some h → slice_get tun a.0 ≡ Some (first_send h)
first_under n tun a h is tag = by (slice_get tun a.0) refl is.0
  where
    by : (o : Option Sent) → slice_get tun a.0 ≡ o → IsSomeAnd o (CameAs n a.1) → slice_get tun a.0 ≡ Some (first_send h)
    by None at holds = absurd holds
    by (Some s) at holds =
        let repeat : s.repeat ≡ false = sym holds.0.0 ∙ not_true _ (and_parts (is_some a.1.sn) (not a.1.repeat) is.1).1 in
        at ∙ ap Some (sent_is s h (sym holds.1 ∙ tag) repeat)

first_as : (n : SnLen) (tun : List Sent) (o : Option Numbered) → IfSome o (IsNamed tun n)
    → IfSome (option_and_then (λ (a : Numbered). a.1.tag) o) (WasFirst tun)
first_as n tun None is = tt
first_as n tun (Some a) is = by a.1.tag refl
  where
    by : (tag : Option ℕ) → a.1.tag ≡ tag → IfSome tag (WasFirst tun)
    by None tag = tt
    by (Some h) tag = (a.0, first_under n tun a h is tag)

-- ---- what is not listed was received

-- a first send up to the named one, under a number that is not listed, was received
one_received : (tun : List Sent) (received : ℕ → Type 0) (i : Incoming) (a : Numbered) (h number count : ℕ) → FirstSendsRise tun → FirstsBelow (2 ^ 32) tun
    → HasCome tun received i → named i ≡ Some a
    → slice_get tun a.0 ≡ Some (first_send h) → option_and_then (λ (b : Numbered). b.1.sn) (named i) ≡ Some (sn i.n h)
    → slice_get tun number ≡ Some (first_send count) → count ≤ h → is_listed (listed i.came) number ≡ false → received count
one_received tun received i a h number count rise small is named_is first shown at le unlisted =
    let o : Outgoing = record { n = i.n; next = 0; waiting = (number, count) ∷ []; unasked = []; confirmed = [] } in
    let some : 0 < window i.n = window_some i.n in
    let end : IsOtherEnd i.n tun h i = record {
      ascends = is.ascends;
      rise = rise;
      as_sent = each_with (λ (e : Numbered). IsSomeAnd (slice_get tun e.0) (CameAs i.n e.1)) (λ (e : Numbered). IsSomeAnd (slice_get tun e.0) (IsAsSent i.n e.1)) i.came is.sent (as_sent i.n tun);
      near = λ b c b_is b_at. near_one b c some (cc) b_at;
    } in
    let top : highest_of i.n h (option_and_then (λ (b : Numbered). b.1.sn) (named i)) ≡ Some h = rw shown (highest_is i.n h h (small a.0 h first) (omega arith) (omega (arith, some))) in
    let says : confirms (highest_of i.n h (option_and_then (λ (b : Numbered). b.1.sn) (named i))) (listed i.came) (number, count) ≡ true = rw (top, le-leb count h le, unlisted) refl in
    let those : confirmed_of o h (status_of i) ≡ count ∷ [] = rw says refl in
    let acked = (subst (AllByRecursion (WasAcked tun i)) those (counts_acked tun o h i (status_of i) end (at, tt) refl)).0 in
    acked_one acked.0 acked.1
  where
    as_sent : (n : SnLen) (sent : List Sent) (e : Numbered) → IsSomeAnd (slice_get sent e.0) (CameAs n e.1) → IsSomeAnd (slice_get sent e.0) (IsAsSent n e.1)
    as_sent n sent e there = by (slice_get sent e.0) there
      where
        by : (o : Option Sent) → IsSomeAnd o (CameAs n e.1) → IsSomeAnd o (IsAsSent n e.1)
        by None holds = absurd holds
        by (Some s) holds = holds.0

    near_one : (b : Numbered) (c : ℕ) → 0 < window i.n → Some a ≡ Some b → slice_get tun b.0 ≡ Some (first_send c) → (h ≤ c + window i.n) × (c < h + window i.n)
    near_one b c some same b_at =
        let place : a.0 ≡ b.0 = cc in
        let both : Some (first_send h) ≡ Some (first_send c) = sym first ∙ ap (slice_get tun) place ∙ b_at in
        let counts : Some h ≡ Some c = ap (λ (o : Option Sent). option_and_then (λ (s : Sent). s.count) o) both in
        let equal : h ≡ c = cc in
        (omega (arith, equal), omega (arith, equal, some))

    acked_one : (k : ℕ) → WasAckedUnder tun i count k → received count
    acked_one k was =
        let came = has_one (λ (e : Numbered). IsSomeAnd (slice_get tun e.0) (CameAs i.n e.1) × IsReceivedIfAcked received i.unacked e) k i.came
        (each_both (λ (e : Numbered). IsSomeAnd (slice_get tun e.0) (CameAs i.n e.1)) (IsReceivedIfAcked received i.unacked)
        (λ (e : Numbered). IsSomeAnd (slice_get tun e.0) (CameAs i.n e.1) × IsReceivedIfAcked received i.unacked e) i.came is.sent is.acked (λ e s r. (s, r))) was.came in
        let tag : came.0.tag ≡ Some count = tag_is i.n tun k came.0 came.1.0 ∙ rw was.sent_first refl in
        subst (λ (t : Option ℕ). IfSome t received) tag (came.1.1 was.acked)

received_to : (tun : List Sent) (received : ℕ → Type 0) (i : Incoming) (o : Option Numbered) → FirstSendsRise tun → FirstsBelow (2 ^ 32) tun
    → HasCome tun received i → named i ≡ o → IfSome o (IsNamed tun i.n)
    → IfSome (option_and_then (λ (a : Numbered). a.1.tag) o) (AreReceivedTo tun received (listed i.came))
received_to tun received i None rise small is named_is there = tt
received_to tun received i (Some a) rise small is named_is there = by a.1.tag refl
  where
    by : (tag : Option ℕ) → a.1.tag ≡ tag → IfSome tag (AreReceivedTo tun received (listed i.came))
    by None tag = tt
    by (Some h) tag = λ number count at le unlisted.
        let shown : option_and_then (λ (b : Numbered). b.1.sn) (named i) ≡ Some (sn i.n h) =
        ap (option_and_then (λ (b : Numbered). b.1.sn)) named_is ∙ shown_as i.n tun (Some a) there ∙ ap (option_map (sn i.n)) tag in
        one_received tun received i a h number count rise small is named_is (first_under i.n tun a h there tag) shown at le unlisted

-- ---- the delivery status

-- the delivery status of what came says the truth of what was sent
pub says_truth : (tun : List Sent) (received : ℕ → Type 0) (i : Incoming) → FirstSendsRise tun → FirstsBelow (2 ^ 32) tun → HasCome tun received i
    → IsStatusOf i.n tun received (tag_of i) (status_of i)
says_truth tun received i rise small is =
    let there = named_one tun received i is in
    record {
      highest = option_and_then (λ (a : Numbered). a.1.sn) (named i);
      lost = listed i.came;
      frame = refl;
      given = listed_given tun received i is;
      shown = shown_as i.n tun (named i) there;
      first = first_as i.n tun (named i) there;
      delivered = received_to tun received i (named i) rise small is refl there;
    }

rising_take : (n low : ℕ) (rs : List Range) → Rising low rs → Rising low (take n rs)
rising_take zero low rs up = tt
rising_take (suc n) low [] up = tt
rising_take (suc n) low (r ∷ rs) up = (up.0, up.1, rising_take n (r.to + 1) rs up.2)

take_len : (n : ℕ) (rs : List Range) → length (take n rs) ≤ n
take_len zero rs = omega arith
take_len (suc n) [] = omega arith
take_len (suc n) (r ∷ rs) = omega (arith, take_len n rs)

sn_fits : (n : SnLen) (tag : Option ℕ) → IfSome (option_map (sn n) tag) (λ s. s < 2 ^ 18)
sn_fits n None = tt
sn_fits n (Some h) = omega (arith, sn_small n h, (modulus_bounds n).3)

-- it can be written, while the numbers of the tunnel have 24 bits
pub status_fits : (tun : List Sent) (received : ℕ → Type 0) (i : Incoming) → length tun ≤ 2 ^ 24 → HasCome tun received i → IsWritable (status_of i)
status_fits tun received i small is =
    let came : AllByRecursion (λ (a : Numbered). a.0 < length tun) i.came =
    each_with (λ (a : Numbered). IsSomeAnd (slice_get tun a.0) (CameAs i.n a.1)) (λ (a : Numbered). a.0 < length tun) i.came is.sent (some_given tun i.n) in
    let top : next_after 0 i.came ≤ length tun = next_given (length tun) 0 i.came (omega arith) came in
    let shown = shown_as i.n tun (named i) (named_one tun received i is) in (
      subst (λ (o : Option ℕ). IfSome o (λ s. s < 2 ^ 18)) (sym shown) (sn_fits i.n (option_and_then (λ (a : Numbered). a.1.tag) (named i))),
      take_len 168 (gaps 0 i.came),
      (
        rising_take 168 0 (gaps 0 i.came) (gaps-rising 0 i.came is.ascends),
        each_take (λ (r : Range). r.to < 2 ^ 24) 168 (gaps 0 i.came)
            (each_with (λ (r : Range). r.to < next_after 0 i.came) (λ (r : Range). r.to < 2 ^ 24) (gaps 0 i.came) (gaps-end 0 i.came is.ascends) (λ r below. omega (arith, below, top, small))),
      ),
    )
