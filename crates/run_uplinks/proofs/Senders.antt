-- The sending entity of an uplink after each of its steps.
use Rattle.std.proofs.Common.{ℕ, ◌≡◌, ◌≤◌, ◌+◌, ◌-◌, ◌++◌, Bool, true, false, List, [], ◌∷◌, Option, Some, None, length, refl, sym, ap, subst, ◌∙◌, arith, inl, inr}
use Rattle.std.specs.Prelude.{filter, if◌then◌else◌, min, nat_le, nat_lt, not, slice_get}
use Rattle.std.specs.List.{AllByRecursion}
use Rattle.std.proofs.lemmas.Bool.{cases_Bool, le-leb, leb-false, ltb-false}
use Rattle.std.proofs.lemmas.List.{length-append}
use Rattle.transcript.proofs.OnEach.{each_append}
use Rattle.dc_base.specs.Count.{window}
use Rattle.pdcp_tx.specs.Sender.{Entry, Rises, Sender, least, low}
use Rattle.pdcp_tx.proofs.Entries.{Rises-bounds, Rises-enumerated, Rises-filter, Rises-least}
use Rattle.master_runs.proofs.Lists.{each_filter, slice_get_last, slice_get_left}
use Rattle.node_rules.specs.Entity.{risen}
use Rattle.run_uplinks.specs.Seen.{Uplink, freed_to, one_more}
use Rattle.run_uplinks.specs.Uplinks.{IsSender, IsSubmitted}

-- ---- a new one

pub sender_new : (u : Uplink) → u.submitted ≡ [] → u.freed ≡ u.first
    → IsSender u (record { n = u.n; next = u.first; kept = []; held = [] })
sender_new u none begins = record {
  n = refl;
  next = let k : length u.submitted ≡ 0 = ap length none in omega (arith, k);
  held_none = refl;
  rises = omega arith;
  low_is = sym begins;
  near = omega (arith, begins);
  payloads = tt;
}

-- of an establishment with the same submissions
each_as : (u v : Uplink) → v.first ≡ u.first → v.submitted ≡ u.submitted → (es : List Entry) → AllByRecursion (IsSubmitted u) es → AllByRecursion (IsSubmitted v) es
each_as u v same_first same_submitted [] all = tt
each_as u v same_first same_submitted (e ∷ es) all = (
  subst (λ f. (if nat_le f e.0 then slice_get v.submitted (e.0 - f) else None) ≡ Some e.1) (sym same_first)
      (subst (λ xs. (if nat_le u.first e.0 then slice_get xs (e.0 - u.first) else None) ≡ Some e.1) (sym same_submitted) all.0),
  each_as u v same_first same_submitted es all.1,
)

pub sender_as : (u v : Uplink) (tx : Sender) → v.n ≡ u.n → v.first ≡ u.first → v.submitted ≡ u.submitted → v.freed ≡ u.freed → IsSender u tx → IsSender v tx
sender_as u v tx same_n same_first same_submitted same_freed is = record {
  n = is.n ∙ sym same_n;
  next = let k = ap length same_submitted in omega (arith, is.next, same_first, k);
  held_none = is.held_none;
  rises = subst (λ f. Rises f tx.next tx.kept) (sym same_first) is.rises;
  low_is = is.low_is ∙ sym same_freed;
  near = let w = ap window same_n in omega (arith, is.near, same_freed, w);
  payloads = each_as u v same_first same_submitted tx.kept is.payloads;
}

-- ---- one more SDU

-- the least stays
least_more : (next : ℕ) (sdu : List ℕ) (es : List Entry) → least (next + 1) (es ++ (next, sdu) ∷ []) ≡ least next es
least_more next sdu [] = omega arith
least_more next sdu (e ∷ es) = ap (min e.0) (least_more next sdu es)

-- what was submitted before is found as before
found_before : (u : Uplink) (sdu : List ℕ) (e : Entry) → IsSubmitted u e → IsSubmitted (one_more sdu u) e
found_before u sdu e is = by (nat_le u.first e.0) is
  where
    by : (b : Bool) → (if b then slice_get u.submitted (e.0 - u.first) else None) ≡ Some e.1 → (if b then slice_get (u.submitted ++ sdu ∷ []) (e.0 - u.first) else None) ≡ Some e.1
    by true at = slice_get_left u.submitted (sdu ∷ []) (e.0 - u.first) e.1 at
    by false at = absurd (let bad : None ≡ Some e.1 = at in cc)

all_before : (u : Uplink) (sdu : List ℕ) (es : List Entry) → AllByRecursion (IsSubmitted u) es → AllByRecursion (IsSubmitted (one_more sdu u)) es
all_before u sdu [] all = tt
all_before u sdu (e ∷ es) all = (found_before u sdu e all.0, all_before u sdu es all.1)

-- and the new one under the next COUNT
found_last : (u : Uplink) (sdu : List ℕ) (next : ℕ) → next ≡ u.first + length u.submitted → IsSubmitted (one_more sdu u) (next, sdu)
found_last u sdu next is =
    let from : nat_le u.first next ≡ true = le-leb u.first next (omega (arith, is)) in
    let at : next - u.first ≡ length u.submitted = omega (arith, is) in
    rw (from, at) (slice_get_last u.submitted sdu)

pub sender_more : (u : Uplink) (tx : Sender) (sdu : List ℕ) → IsSender u tx → nat_le (low tx + window tx.n) tx.next ≡ false
    → IsSender (one_more sdu u) (record tx { next = tx.next + 1; kept = tx.kept ++ (tx.next, sdu) ∷ [] })
sender_more u tx sdu is room = record {
  n = is.n;
  next = let more = length-append u.submitted (sdu ∷ []) in omega (arith, is.next, more);
  held_none = is.held_none;
  rises = Rises-enumerated u.first tx.next tx.kept (sdu ∷ []) is.rises;
  low_is = least_more tx.next sdu tx.kept ∙ is.low_is;
  near = let below = leb-false (low tx + window tx.n) tx.next room in let same = ap window is.n in omega (arith, below, is.low_is, same);
  payloads = each_append (IsSubmitted (one_more sdu u)) tx.kept ((tx.next, sdu) ∷ []) (all_before u sdu tx.kept is.payloads) (found_last u sdu tx.next is.next, tt);
}

-- ---- some are confirmed

-- what is kept of those that do not pass the test
abbrev pub unconfirmed : (ℕ → Bool) → Sender → Sender
unconfirmed test tx = record tx { kept = filter (λ (x : Entry). not (test x.0)) tx.kept }

-- Low does not fall
low_rises : (u : Uplink) (tx : Sender) (test : ℕ → Bool) → IsSender u tx → low tx ≤ low (unconfirmed test tx)
low_rises u tx test is =
    let up = Rises-least u.first tx.next tx.kept is.rises in
    (Rises-bounds (least tx.next tx.kept) tx.next (filter (λ (x : Entry). not (test x.0)) tx.kept) (Rises-filter (λ (x : Entry). not (test x.0)) (least tx.next tx.kept) tx.next tx.kept up)).0

-- the window begins where Low is now
abbrev pub freed_if : Option ℕ → Uplink → Uplink
freed_if None u = u
freed_if (Some count) u = freed_to count u

sender_at : (u v : Uplink) (tx : Sender) (test : ℕ → Bool) → IsSender u tx → v.n ≡ u.n → v.first ≡ u.first → v.submitted ≡ u.submitted → low (unconfirmed test tx) ≡ v.freed → low tx ≤ v.freed
    → IsSender v (unconfirmed test tx)
sender_at u v tx test is same_n same_first same_submitted now rises = record {
  n = is.n ∙ sym same_n;
  next = let k = ap length same_submitted in omega (arith, is.next, same_first, k);
  held_none = is.held_none;
  rises = subst (λ f. Rises f tx.next (unconfirmed test tx).kept) (sym same_first) (Rises-filter (λ (x : Entry). not (test x.0)) u.first tx.next tx.kept is.rises);
  low_is = now;
  near = let w = ap window same_n in omega (arith, is.near, is.low_is, rises, w);
  payloads = each_as u v same_first same_submitted (unconfirmed test tx).kept (each_filter (IsSubmitted u) (λ (x : Entry). not (test x.0)) tx.kept is.payloads);
}

pub sender_confirmed : (u : Uplink) (tx : Sender) (test : ℕ → Bool) → IsSender u tx → IsSender (freed_if (risen (low tx) (low (unconfirmed test tx))) u) (unconfirmed test tx)
sender_confirmed u tx test is =
    let before = low tx in
    let after = low (unconfirmed test tx) in
    let up = low_rises u tx test is in
    elim (cases_Bool (nat_lt before after)) [
      | inl rises ↦ rw rises (sender_at u (freed_to after u) tx test is refl refl refl refl up)
      | inr stays ↦
          let not_less = ltb-false before after stays in
          rw stays (sender_at u u tx test is refl refl refl (omega (arith, up, not_less, is.low_is)) (omega (arith, is.low_is)))
    ]
