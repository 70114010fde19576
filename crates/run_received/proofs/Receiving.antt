-- The receiving entity of an uplink stays what the past says of it as PDUs are taken, as more is submitted, and as COUNTs are confirmed
-- (TS 38.323, 5.2 and 5.4).
use Rattle.std.proofs.Common.{ℕ, zero, suc, ◌≡◌, ◌+◌, ◌-◌, ◌^◌, ◌<◌, ◌≤◌, ◌++◌, ◌&&◌, ◌||◌, ◌==◌, ◌⊎◌, Bool, true}
use Rattle.std.proofs.Common.{false, not, List, [], ◌∷◌, Option, Some, None, refl, sym, ap, ◌∙◌, subst, arith, inl, inr, length}
use Rattle.std.specs.Prelude.{if◌then◌else◌, nat_le, slice_get}
use Rattle.std.specs.List.{AllByRecursion}
use Rattle.std.proofs.lemmas.Bool.{cases_Bool, cases_lt, eqb-false, eqb-true, eq-eqb, leb-true, or_cases, or_left, or_right}
use Rattle.std.proofs.lemmas.List.Folds.{list_any-append}
use Rattle.transcript.proofs.OnEach.{each_weaker}
use Rattle.dc_base.specs.Count.{window}
use Rattle.claims.specs.Confirming.{Confirmation, is_confirmed, is_of, least_but}
use Rattle.claims.specs.Past.{Bearer}
use Rattle.claims.specs.Sameness.{is_among}
use Rattle.pdcp_pdu.specs.DataPdu.{IsPayload}
use Rattle.pdcp_rx.specs.Entries.{Entry, is_stored}
use Rattle.pdcp_rx.specs.Receiver.{Received}
use Rattle.pdcp_rx.specs.declared.entity.RxParts.{RxParts}
use Rattle.pdcp_tx.specs.Sender.{Rises, Sender, is_kept, least, low}
use Rattle.pdcp_tx.proofs.Entries.{Rises-bounds}
use Rattle.pdcp_tx.proofs.Laws.{is_kept-without}
use Rattle.master_runs.proofs.Lists.{kept_before, kept_same, least_upto}
use Rattle.node_rules.specs.Entity.{Entity, confirmed_where}
use Rattle.run_legs.specs.Puts.{IsAmong}
use Rattle.run_receivers.specs.Lanes.{IsLane}
use Rattle.run_receivers.specs.Receiving.{HasTaken, IsReceiving}
use Rattle.run_receivers.specs.Submitted.{IsSubmission, Submitted, next_of}
use Rattle.run_receivers.proofs.Growing.{below_next, handed_later, receiving_more}
use Rattle.run_receivers.proofs.Lanes.{lane_confirmed}
use Rattle.run_uplinks.specs.Seen.{uplink_of}
use Rattle.run_uplinks.specs.Uplinks.{IsSender, IsSubmitted}
use Rattle.run_received.specs.Changes.{low_of}
use Rattle.run_received.specs.Receipts.{Receipt, receipt_of, submitted_to}
use Rattle.run_received.specs.Receivers.{IsFound, IsReceiver, IsSource}

-- ---- among COUNTs

among_cases : (c : ℕ) (xs ys : List ℕ) → is_among c (xs ++ ys) ≡ true → (is_among c xs ≡ true) ⊎ (is_among c ys ≡ true)
among_cases c xs ys there = or_cases (is_among c xs) (is_among c ys) (sym (list_any-append (λ x. x == c) xs ys) ∙ there)

pub among_first : (c : ℕ) (xs ys : List ℕ) → is_among c xs ≡ true → is_among c (xs ++ ys) ≡ true
among_first c xs ys there = list_any-append (λ x. x == c) xs ys ∙ or_left (is_among c xs) (is_among c ys) there

pub among_second : (c : ℕ) (xs ys : List ℕ) → is_among c ys ≡ true → is_among c (xs ++ ys) ≡ true
among_second c xs ys there = list_any-append (λ x. x == c) xs ys ∙ or_right (is_among c xs) (is_among c ys) there

-- ---- PDUs are taken

-- an establishment with more COUNTs taken, and more handed up
abbrev pub with_taken : List ℕ → List Entry → Receipt → Receipt
with_taken counts ups r = record r { taken = counts ++ r.taken; handed = r.handed ++ ups }

-- these are the COUNTs of the PDUs
pub record AreTags (counts : List ℕ) (tags : List (Option ℕ)) : Type 0 where
  pub came : (c : ℕ) → is_among c counts ≡ true → IsAmong tags (Some c)
  pub only : (c : ℕ) → IsAmong tags (Some c) → is_among c counts ≡ true

-- the one COUNT of a data PDU
pub one_tag : (c : ℕ) → AreTags (c ∷ []) (Some c ∷ [])
one_tag c = record {
  came = λ d there. elim (or_cases (c == d) false there) [
    | inl here ↦ inl (ap Some (sym (eqb-true c d here)))
    | inr no' ↦ absurd
        (let bad : false ≡ true = no' in cc)
  ];
  only = λ d there. elim there [ inl here ↦ or_left (c == d) false (eq-eqb c d (let same : d ≡ c = cc in sym same)) | inr none ↦ absurd none ];
}

-- none of a status report
pub no_tag : AreTags [] (None ∷ [])
no_tag = record {
  came = λ d there. absurd (let bad : false ≡ true = there in cc);
  only = λ d there. elim there [ inl here ↦ absurd (let bad : Some d ≡ None = here in cc) | inr none ↦ absurd none ];
}

-- where nothing came
pub no_tags : AreTags [] []
no_tags = record { came = λ d there. absurd (let bad : false ≡ true = there in cc); only = λ d there. absurd there }

-- PDUs were taken
pub receives_more : (r : Receipt) (rx after : RxParts) (tags : List (Option ℕ)) (counts : List ℕ) (ups : List Entry) → IsReceiver r rx
    → HasTaken (submitted_to r) r.freed tags rx after ups → AreTags counts tags → IsReceiver (with_taken counts ups r) after
receives_more r rx after tags counts ups is t these = record {
  receiving = t.receiving;
  handed = ap (λ (es : List Entry). es ++ ups) is.handed ∙ t.handed;
  taken = λ c there. elim (among_cases c counts r.taken there) [ inl new ↦ t.came c (these.came c new) | inr old ↦ t.grown c (is.taken c old) ];
  only = λ c from got. elim (t.only c got) [
    | inl new ↦ among_first c counts r.taken (these.only c new)
    | inr old ↦ among_second c counts r.taken (is.only c from old)
  ];
  confirmed = λ c yes'. t.grown c (is.confirmed c yes');
}

-- what was received was submitted
pub received_below : (r : Receipt) (rx : RxParts) (c : ℕ) → IsReceiver r rx → Received rx c → c < next_of (submitted_to r)
received_below r rx c is (inl handed) = let upto = is.receiving.upto in omega (arith, handed, upto)
received_below r rx c is (inr there) = stored_below (submitted_to r) c rx.stored is.receiving.stored there
  where
    stored_below : (u : Submitted) (c : ℕ) (es : List Entry) → AllByRecursion (IsSubmission u) es → is_stored c es ≡ true → c < next_of u
    stored_below u c [] all there' = absurd (let bad : false ≡ true = there' in cc)
    stored_below u c (e ∷ es) all there' =
        elim (or_cases (e.0 == c) (is_stored c es) there') [
          | inl here ↦ let same = eqb-true e.0 c here in let below = below_next u e all.0 in omega (arith, same, below)
          | inr later ↦ stored_below u c es all.1 later
        ]

-- ---- the sending side

-- an SDU is kept under the COUNT of its submission
submission_is : (b : Bearer) (e : Entry) → IsSubmitted (uplink_of b) e → IsSubmission (submitted_to (receipt_of b)) e
submission_is b e is = by (nat_le b.first e.0) refl is
  where
    by : (t : Bool) → nat_le b.first e.0 ≡ t → (if t then slice_get b.up.submitted (e.0 - b.first) else None) ≡ Some e.1
        → IsSubmission (submitted_to (receipt_of b)) e
    by true from at = record { from = leb-true b.first e.0 from; payload = at }
    by false from at = absurd (let bad : None ≡ Some e.1 = at in cc)

-- what the terminal does not keep was received
pub found_of : (r : Receipt) (tx : Sender) (rx : RxParts) → IsReceiver r rx → IsSource r tx → IsFound r tx rx
found_of r tx rx is s c from below =
    elim (cases_Bool (is_confirmed r.confirms c)) [
      | inl yes' ↦ inr (is.confirmed c yes')
      | inr no' ↦ inl (s c from below ∙ ap not no')
    ]

-- both entities of the uplink
pub lane_of : (b : Bearer) (tx : Sender) (rx : RxParts) → IsSender (uplink_of b) tx → IsFound (receipt_of b) tx rx → IsReceiver (receipt_of b) rx
    → IsLane (submitted_to (receipt_of b)) tx rx
lane_of b tx rx s found is = record {
  sending = record {
    same_n = s.n;
    next = s.next;
    rises = s.rises;
    kept = each_weaker (IsSubmitted (uplink_of b)) (IsSubmission (submitted_to (receipt_of b))) (submission_is b) tx.kept s.payloads;
    found = found;
  };
  receiving = subst (λ k. IsReceiving (submitted_to (receipt_of b)) k rx) (sym s.low_is) is.receiving;
}

-- ---- more is submitted

-- an establishment with one more submission
abbrev pub with_one : List ℕ → Receipt → Receipt
with_one p r = record r { submitted = r.submitted ++ p ∷ [] }

pub submits_more : (r : Receipt) (rx : RxParts) (p : List ℕ) → IsReceiver r rx → IsPayload p → next_of (submitted_to r) < r.freed + window r.n
    → next_of (submitted_to r) < 2 ^ 32 - 1 → IsReceiver (with_one p r) rx
submits_more r rx p is good room left = record {
  receiving = receiving_more (submitted_to r) r.freed rx p is.receiving good room left;
  handed = is.handed ∙ sym (handed_later (submitted_to r) r.freed (p ∷ []) rx is.receiving);
  taken = is.taken;
  only = is.only;
  confirmed = is.confirmed;
}

-- what was confirmed was submitted before
confirmed_below : (r : Receipt) (rx : RxParts) (c : ℕ) → IsReceiver r rx → next_of (submitted_to r) ≤ c → is_confirmed r.confirms c ≡ false
confirmed_below r rx c is above =
    elim (cases_Bool (is_confirmed r.confirms c)) [
      | inl yes' ↦ absurd (let below = received_below r rx c is (is.confirmed c yes') in omega (arith, above, below))
      | inr no' ↦ no'
    ]

-- the next COUNT is kept
pub source_more : (r : Receipt) (tx : Sender) (rx : RxParts) (p : List ℕ) → tx.next ≡ next_of (submitted_to r) → IsReceiver r rx → IsSource r tx
    → IsSource (with_one p r) (record tx { next = tx.next + 1; kept = tx.kept ++ (tx.next, p) ∷ [] })
source_more r tx rx p next is s c from below =
    elim (cases_lt c tx.next) [
      | inl lt ↦ kept_before tx.next c p tx.kept lt ∙ s c from lt
      | inr ge ↦
          kept_same tx.next c p tx.kept (omega (arith, below, ge))
          ∙ sym (ap not (confirmed_below r rx c is (omega (arith, ge, next))))
    ]

-- ---- COUNTs are confirmed

-- an establishment with more confirmations, and with Told and the last `freed` line at this COUNT
abbrev pub with_confirms : List Confirmation → ℕ → Receipt → Receipt
with_confirms cs count r = record r { confirms = r.confirms ++ cs; told = count; freed = count }

-- the confirmations are of those COUNTs that pass the test
abbrev pub AreOf : List Confirmation → (ℕ → Bool) → Type 0
AreOf cs test = (c : ℕ) → is_confirmed cs c ≡ test c

confirmed_more : (cs more : List Confirmation) (c : ℕ) → is_confirmed (cs ++ more) c ≡ (is_confirmed cs c || is_confirmed more c)
confirmed_more cs more c = list_any-append (is_of c) cs more

not_either : (a b : Bool) → (not a && not b) ≡ not (a || b)
not_either true b = refl
not_either false b = refl

-- the terminal keeps what is still not confirmed
pub source_confirmed : (r : Receipt) (e : Entity) (test : ℕ → Bool) (cs : List Confirmation) (count : ℕ) → AreOf cs test → IsSource r e.tx
    → IsSource (with_confirms cs count r) (confirmed_where test e).tx
source_confirmed r e test cs count of s c from below =
    is_kept-without test e.tx.kept c
    ∙ ap (λ b. b && not (test c)) (s c from below)
    ∙ not_either (is_confirmed r.confirms c) (test c)
    ∙ sym (ap not (confirmed_more r.confirms cs c ∙ ap (λ b. is_confirmed r.confirms c || b) (of c)))

-- the window begins at the terminal's Low
pub receives_confirmed : (b : Bearer) (e : Entity) (rx : RxParts) (test : ℕ → Bool) (cs : List Confirmation) → IsSender (uplink_of b) e.tx
    → IsSource (receipt_of b) e.tx → IsReceiver (receipt_of b) rx → AreOf cs test → ((c : ℕ) → test c ≡ true → Received rx c)
    → IsReceiver (with_confirms cs (low (confirmed_where test e).tx) (receipt_of b)) rx
receives_confirmed b e rx test cs sender s is of got =
    let r = receipt_of b in
    let lane = lane_of b e.tx rx sender (found_of r e.tx rx is s) is in
    let now = (lane_confirmed (submitted_to r) e rx test lane (λ c from below yes'. got c yes')).0 in
    record {
      receiving = now.receiving;
      handed = is.handed;
      taken = is.taken;
      only = is.only;
      confirmed = λ c yes'. elim (or_cases (is_confirmed r.confirms c) (is_confirmed cs c) (sym (confirmed_more r.confirms cs c) ∙ yes')) [
        | inl old ↦ is.confirmed c old
        | inr new ↦ got c (sym (of c) ∙ new)
      ];
    }

-- ---- Low, as the past has it

-- where the first COUNT is not kept, they rise from the one after it
rises_past : (c next : ℕ) (es : List Entry) → c < next → is_kept es c ≡ false → Rises c next es → Rises (c + 1) next es
rises_past c next [] lt none up = omega arith
rises_past c next (e ∷ es) lt none up =
    elim (cases_Bool (e.0 == c)) [
      | inl here ↦ absurd (let bad : true ≡ false = sym (or_left (e.0 == c) (is_kept es c) here) ∙ none in cc)
      | inr apart ↦ (let ne = eqb-false e.0 c apart in grind (arith, up.0, ne), up.1)
    ]

-- where what is kept are the COUNTs not confirmed, the least kept is the least not confirmed
pub least_is : (confirms : List Confirmation) (k c : ℕ) (es : List Entry) → Rises c (c + k) es
    → ((d : ℕ) → c ≤ d → d < c + k → is_kept es d ≡ not (is_confirmed confirms d)) → least (c + k) es ≡ least_but confirms c k
least_is confirms zero c es up are =
    let end : c + zero ≡ c = omega arith in
    let bounds = Rises-bounds c c es (subst (λ k. Rises c k es) end up) in rw end (omega (arith, bounds.0, bounds.1))
least_is confirms (suc k) c es up are =
    let here = are c (omega arith) (omega arith) in
    elim (cases_Bool (is_confirmed confirms c)) [
      | inl gone ↦
          let end : c + suc k ≡ c + 1 + k = omega arith in
          let past = rises_past c (c + suc k) es (omega arith) (here ∙ ap not gone) up in
          rw gone (ap (λ m. least m es) end
          ∙ least_is confirms k (c + 1) es (subst (λ m. Rises (c + 1) m es) end past) (λ d from below. are d (omega arith) (omega arith)))
      | inr left ↦
          let upto = least_upto (c + suc k) c es (here ∙ ap not left) in
          let bounds = Rises-bounds c (c + suc k) es up in
          rw left (omega (arith, bounds.0, upto))
    ]

-- Low of the terminal's sending entity is Low by the past
pub low_by : (r : Receipt) (tx : Sender) → tx.next ≡ next_of (submitted_to r) → Rises r.first tx.next tx.kept → IsSource r tx → low tx ≡ low_of r
low_by r tx next up source =
    ap (λ k. least k tx.kept) next
    ∙ least_is r.confirms (length r.submitted) r.first tx.kept (subst (λ k. Rises r.first k tx.kept) next up)
    (λ d from below. source d from (omega (arith, below, next)))
