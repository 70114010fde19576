-- Both entities of a direction: what is submitted, what is received, and what a report confirms keep the lane.
use Rattle.std.proofs.Common.{ℕ, ◌≡◌, ◌+◌, ◌-◌, ◌^◌, ◌<◌, ◌≤◌, ◌++◌, Bool, true, not, List, [], ◌∷◌, Option, Ok, refl, sym, ap, ◌∙◌, subst, arith, inl, inr, Some, slice_get, ◌==◌, append_assoc, length-append, length}
use Rattle.std.specs.List.{AllByRecursion, enumerate_from, range_with_len}
use Rattle.std.specs.Prelude.{nat_lt}
use Rattle.std.proofs.lemmas.Bool.{cases_Bool, cases_lt, and_from, or_cases, or_left, or_right, eq-eqb, ltb-false}
use Rattle.dc_base.specs.Count.{window}
use Rattle.pdcp_pdu.specs.Bitmap.{names}
use Rattle.pdcp_pdu.specs.DataPdu.{IsPayload}
use Rattle.pdcp_pdu.specs.Pdu.{Content, report, sdu}
use Rattle.pdcp_rx.specs.Entries.{Entry}
use Rattle.pdcp_rx.specs.Receiver.{Received}
use Rattle.pdcp_rx.specs.declared.entity.RxParts.{RxParts}
use Rattle.pdcp_rx.proofs.Entries.{stored_from}
use Rattle.pdcp_tx.specs.Sender.{Sender, is_kept, low}
use Rattle.pdcp_tx.specs.Sending.{take_sdu, give_numbers}
use Rattle.pdcp_tx.proofs.Entries.{Rises-bounds, Rises-enumerated, Rises-filter, Rises-least}
use Rattle.pdcp_tx.proofs.Laws.{is_kept-without, low-give_numbers}
use Rattle.transcript.proofs.OnEach.{each_append, each_weaker}
use Rattle.node_rules.specs.Entity.{Entity, confirmed_where, new_entity, take_pdu, take_pdus}
use Rattle.node_rules.specs.Setup.{Setup}
use Rattle.master_runs.proofs.Lists.{each_filter, kept_before, kept_same, least_upto, slice_get_last, slice_get_right}
use Rattle.master_runs.proofs.Room.{has_room}
use Rattle.run_receivers.specs.Lanes.{IsLane, IsSending}
use Rattle.run_receivers.specs.Receiving.{HasTaken, IsReceiving}
use Rattle.run_receivers.specs.Reports.{IsReportOf, MayConfirm}
use Rattle.run_receivers.specs.Submitted.{IsSubmission, Submitted, next_of, with_more}
use Rattle.run_receivers.proofs.Growing.{fresh_receiving, receiving_higher, receiving_more, submission_later}

-- nothing was submitted yet
pub fresh_lane : (s : Setup) → s.first ≤ 2 ^ 32 - 1 → IsLane (record { n = s.n; first = s.first; payloads = [] }) (new_entity s).tx (new_entity s).rx
fresh_lane s small = record {
  sending = record { same_n = refl; next = omega arith; rises = omega arith; kept = tt; found = λ c from below. absurd (omega arith) };
  receiving = fresh_receiving s.n s.first small;
}

-- Low is not past RX_DELIV: that was not received, so it is kept
pub low_behind : (u : Submitted) (bound : ℕ) (tx : Sender) (rx : RxParts) → IsSending u tx rx → IsReceiving u bound rx → low tx ≤ rx.deliv
low_behind u bound tx rx s r =
    let from = r.from in let above = r.above in let upto = r.upto in let next = s.next in
    elim (cases_lt rx.deliv tx.next) [
      | inl below ↦ elim (s.found rx.deliv (omega arith) below) [
        | inl kept ↦ least_upto tx.next rx.deliv tx.kept kept
        | inr got ↦ elim got [
          | inl lt ↦ absurd (omega arith)
          | inr stored ↦ absurd (let past = stored_from (rx.deliv + 1) rx.deliv rx.stored r.ascends stored in omega arith)
        ]
      ]
      | inr all ↦ let bounds = Rises-bounds u.first tx.next tx.kept s.rises in omega (arith, bounds.1)
    ]

-- ---- a submission

pub lane_submitted : (u : Submitted) (tx after : Sender) (rx : RxParts) (p : List ℕ) (c : ℕ) → IsLane u tx rx → IsPayload p → take_sdu tx p ≡ Ok (after, c)
    → (c ≡ next_of u) × IsLane (with_more u (p ∷ [])) after rx
lane_submitted u tx after rx p c lane good ok =
    let s = lane.sending in
    let t = has_room tx after p c ok in
    let left = t.left in let room = t.room in let next = s.next in let small = lane.receiving.small in
    let same : window tx.n ≡ window u.n = ap window s.same_n in
    let longer = length-append u.payloads (p ∷ []) in
    let last_is : IsSubmission (with_more u (p ∷ [])) (tx.next, p) = record {
      from = omega arith;
      payload = subst (λ i. slice_get (u.payloads ++ p ∷ []) i ≡ Some p) (omega arith) (slice_get_last u.payloads p);
    } in
    let now : Sender = record tx { next = tx.next + 1; kept = tx.kept ++ (tx.next, p) ∷ [] } in
    let still : low now ≡ low tx = ap (λ (q : Sender × ℕ). low q.0) t.is ∙ t.still in
    let more : IsReceiving (with_more u (p ∷ [])) (low now) rx =
    subst (λ k. IsReceiving (with_more u (p ∷ [])) k rx) (sym still) (receiving_more u (low tx) rx p lane.receiving good (omega arith) (omega arith)) in
    let sending : IsSending (with_more u (p ∷ [])) now rx = record {
      same_n = s.same_n;
      next = omega arith;
      rises = Rises-enumerated u.first tx.next tx.kept (p ∷ []) s.rises;
      kept = each_append (IsSubmission (with_more u (p ∷ []))) tx.kept ((tx.next, p) ∷ [])
          (each_weaker (IsSubmission u) (IsSubmission (with_more u (p ∷ []))) (submission_later u (p ∷ [])) tx.kept s.kept) (last_is, tt);
      found = λ d from below. elim (cases_lt d tx.next) [
        | inl before ↦ elim (s.found d from before) [ inl kept ↦ inl (kept_before tx.next d p tx.kept before ∙ kept) | inr got ↦ inr got ]
        | inr above ↦ inl (kept_same tx.next d p tx.kept (omega arith))
      ];
    } in
    subst (λ (q : Sender × ℕ). (q.1 ≡ next_of u) × IsLane (with_more u (p ∷ [])) q.0 rx) t.is (next, record { sending = sending; receiving = more })

-- ---- what waited for COUNTs has them

kept_more : (xs ys : List Entry) (c : ℕ) → is_kept xs c ≡ true → is_kept (xs ++ ys) c ≡ true
kept_more [] ys c is = absurd cc
kept_more (x ∷ xs) ys c is =
    elim (or_cases (x.0 == c) (is_kept xs c) is) [ inl here ↦ or_left (x.0 == c) _ here | inr later ↦ or_right (x.0 == c) _ (kept_more xs ys c later) ]

kept_behind : (xs ys : List Entry) (c : ℕ) → is_kept ys c ≡ true → is_kept (xs ++ ys) c ≡ true
kept_behind [] ys c is = is
kept_behind (x ∷ xs) ys c is = or_right (x.0 == c) _ (kept_behind xs ys c is)

all_given : (from c : ℕ) (ps : List (List ℕ)) → from ≤ c → c < from + length ps → is_kept (enumerate_from from ps) c ≡ true
all_given from c [] le lt = absurd (omega arith)
all_given from c (p ∷ ps) le lt =
    elim (cases_lt from c) [
      | inl past ↦ or_right (from == c) _ (all_given (from + 1) c ps (omega arith) (omega arith))
      | inr here ↦ or_left (from == c) _ (eq-eqb from c (omega arith))
    ]

-- payloads behind others are submitted under the COUNTs that follow
given_are : (u : Submitted) (before ps : List (List ℕ))
    → AllByRecursion (IsSubmission (record u { payloads = before ++ ps })) (enumerate_from (u.first + length before) ps)
given_are u before [] = tt
given_are u before (p ∷ ps) =
    let place : length before + 0 ≡ u.first + length before - u.first = omega arith in
    let there = slice_get_right before (p ∷ ps) 0 p refl in
    let same : (before ++ p ∷ []) ++ ps ≡ before ++ p ∷ ps = append_assoc before (p ∷ []) ps in
    let longer = length-append before (p ∷ []) in
    let next : u.first + length (before ++ p ∷ []) ≡ u.first + length before + 1 = omega arith in (
      record { from = omega arith; payload = subst (λ i. slice_get (before ++ p ∷ ps) i ≡ Some p) place there },
      subst (λ zs. AllByRecursion (IsSubmission (record u { payloads = zs })) (enumerate_from (u.first + length before + 1) ps)) same
          (subst (λ k. AllByRecursion (IsSubmission (record u { payloads = (before ++ p ∷ []) ++ ps })) (enumerate_from k ps)) next
          (given_are u (before ++ p ∷ []) ps)),
    )

-- why it is that they have them, and what is held then
record HasGiven (s after : Sender) : Type 0 where
  room : s.next + length s.held ≤ low s + window s.n
  few : s.next + length s.held ≤ 2 ^ 32 - 1
  is : record s { next = s.next + length s.held; kept = s.kept ++ enumerate_from s.next s.held; held = [] } ≡ after

has_given : (s after : Sender) (given : List ℕ) → give_numbers s ≡ Ok (after, given) → HasGiven s after
has_given s after given ok =
    elim (cases_Bool (nat_lt (low s + window s.n) (s.next + length s.held))) [
      | inl full ↦ let f = rw full at ok in absurd (cc (f))
      | inr room ↦
          let f = rw room at ok in
          elim (cases_Bool (nat_lt (2 ^ 32 - 1) (s.next + length s.held))) [
            | inl last ↦ let g = rw last at f in absurd (cc (g))
            | inr few ↦
                let g = rw few at f in
                let both : ◌≡◌ {A = Sender × List ℕ} (
                  record s { next = s.next + length s.held; kept = s.kept ++ enumerate_from s.next s.held; held = [] },
                  range_with_len s.next
                      (length s.held),
                ) (after, given) = cc (g) in
                record { room = ltb-false _ _ room; few = ltb-false _ _ few; is = ap (λ (q : Sender × List ℕ). q.0) both }
          ]
    ]

-- all that was held is submitted under the next COUNTs
pub lane_given : (u : Submitted) (tx after : Sender) (rx : RxParts) (given : List ℕ) → IsLane u tx rx → AllByRecursion IsPayload tx.held
    → give_numbers tx ≡ Ok (after, given) → IsLane (with_more u tx.held) after rx
lane_given u tx after rx given lane good ok =
    let s = lane.sending in let r = lane.receiving in
    let t = has_given tx after given ok in
    let room = t.room in let few = t.few in let next = s.next in let upto = r.upto in
    let same : window tx.n ≡ window u.n = ap window s.same_n in
    let longer = length-append u.payloads tx.held in
    let v = with_more u tx.held in
    let now : Sender = record tx { next = tx.next + length tx.held; kept = tx.kept ++ enumerate_from tx.next tx.held; held = [] } in
    let risen : low tx ≤ low now = low-give_numbers tx now given (ok ∙ ap (λ (x : Sender). Ok (x, given)) (sym t.is)) in
    let more : IsReceiving v (low tx) rx = record {
      same_n = r.same_n;
      payloads = each_append IsPayload u.payloads tx.held r.payloads good;
      small = omega arith;
      from = r.from;
      above = r.above;
      upto = omega arith;
      near = omega arith;
      ascends = r.ascends;
      stored = each_weaker (IsSubmission u) (IsSubmission v) (submission_later u tx.held) rx.stored r.stored;
    } in
    let sending : IsSending v now rx = record {
      same_n = s.same_n;
      next = omega arith;
      rises = Rises-enumerated u.first tx.next tx.kept tx.held s.rises;
      kept =
          each_append (IsSubmission v) tx.kept (enumerate_from tx.next tx.held)
          (each_weaker (IsSubmission u) (IsSubmission v) (submission_later u tx.held) tx.kept s.kept)
          (subst (λ k. AllByRecursion (IsSubmission v) (enumerate_from k tx.held)) (sym next) (given_are u u.payloads tx.held));
      found = λ c from below. elim (cases_lt c tx.next) [
        | inl before ↦ elim (s.found c from before) [ inl kept ↦ inl (kept_more tx.kept (enumerate_from tx.next tx.held) c kept) | inr got ↦ inr got ]
        | inr above ↦ inl (kept_behind tx.kept (enumerate_from tx.next tx.held) c (all_given tx.next c tx.held above below))
      ];
    } in
    subst (λ x. IsLane v x rx) t.is (record {
      sending = sending;
      receiving = receiving_higher v (low tx) (low now) rx more risen
          (low_behind v (low tx) now rx sending more);
    })

-- what waits for COUNTs is no part of the lane
pub lane_held : (u : Submitted) (tx : Sender) (rx : RxParts) (held : List (List ℕ)) → IsLane u tx rx → IsLane u (record tx { held = held }) rx
lane_held u tx rx held lane = record {
  sending = record { same_n = lane.sending.same_n; next = lane.sending.next; rises = lane.sending.rises; kept = lane.sending.kept; found = lane.sending.found };
  receiving = lane.receiving;
}

-- ---- PDUs are taken

pub lane_received : (u : Submitted) (tx : Sender) (tags : List (Option ℕ)) (rx after : RxParts) (ups : List Entry) → IsLane u tx rx
    → HasTaken u (low tx) tags rx after ups → IsLane u tx after
lane_received u tx tags rx after ups lane t =
    let s = lane.sending in
    record {
      sending = record {
        same_n = s.same_n;
        next = s.next;
        rises = s.rises;
        kept = s.kept;
        found = λ c from below. elim (s.found c from below) [ inl kept ↦ inl kept | inr got ↦ inr (t.grown c got) ];
      };
      receiving = t.receiving;
    }

-- ---- COUNTs are confirmed

-- Low rises, where none but COUNTs that were received are confirmed
pub lane_confirmed : (u : Submitted) (e : Entity) (rx : RxParts) (test : ℕ → Bool) → IsLane u e.tx rx
    → ((c : ℕ) → u.first ≤ c → c < next_of u → test c ≡ true → Received rx c)
    → IsLane u (confirmed_where test e).tx rx × (low e.tx ≤ low (confirmed_where test e).tx)
lane_confirmed u e rx test lane got =
    let s = lane.sending in let next = s.next in
    let now : Sender = (confirmed_where test e).tx in
    let up = Rises-filter (λ x. not (test x.0)) (low e.tx) e.tx.next e.tx.kept (Rises-least u.first e.tx.next e.tx.kept s.rises) in
    let risen : low e.tx ≤ low now = (Rises-bounds (low e.tx) e.tx.next now.kept up).0 in
    let sending : IsSending u now rx = record {
      same_n = s.same_n;
      next = s.next;
      rises = Rises-filter (λ x. not (test x.0)) u.first e.tx.next e.tx.kept s.rises;
      kept = each_filter (IsSubmission u) (λ x. not (test x.0)) e.tx.kept s.kept;
      found = λ c from below. elim (cases_Bool (test c)) [
        | inl yes' ↦ inr (got c from (omega arith) yes')
        | inr no' ↦ elim (s.found c from below) [
          | inl kept ↦ inl (is_kept-without test e.tx.kept c ∙ and_from (is_kept e.tx.kept c) (not (test c)) kept (ap not no'))
          | inr received ↦ inr received
        ]
      ];
    } in (
      record {
        sending = sending;
        receiving = receiving_higher u (low e.tx) (low now) rx lane.receiving risen
            (low_behind u (low e.tx) now rx sending lane.receiving);
      },
      risen,
    )

-- the node that sends takes a status report of the entity that receives; or a data PDU, which leaves its sending side
pub lane_reported : (u : Submitted) (e : Entity) (rx : RxParts) (x : Content) → IsLane u e.tx rx → IsReportOf rx x
    → IsLane u (take_pdu e x).0.tx rx × (low e.tx ≤ low (take_pdu e x).0.tx)
lane_reported u e rx (sdu sn body) lane is = absurd is
lane_reported u e rx (report fmc bits) lane is = lane_confirmed u e rx (names fmc bits) lane (λ c from below named. is.received c named)

-- any PDU that comes to the node that sends
pub lane_pdu : (u : Submitted) (e : Entity) (rx : RxParts) (x : Content) → IsLane u e.tx rx → MayConfirm rx x
    → IsLane u (take_pdu e x).0.tx rx × (low e.tx ≤ low (take_pdu e x).0.tx)
lane_pdu u e rx (sdu sn body) lane is = (lane, omega arith)
lane_pdu u e rx (report fmc bits) lane is = lane_reported u e rx (report fmc bits) lane is

-- and PDUs one after another, as an anchor takes those that it kept
pub lane_pdus : (u : Submitted) (e : Entity) (rx : RxParts) (xs : List Content) → IsLane u e.tx rx → AllByRecursion (MayConfirm rx) xs
    → IsLane u (take_pdus e xs).0.tx rx × (low e.tx ≤ low (take_pdus e xs).0.tx)
lane_pdus u e rx [] lane all = (lane, omega arith)
lane_pdus u e rx (x ∷ xs) lane all =
    let here = lane_pdu u e rx x lane all.0 in
    let later = lane_pdus u (take_pdu e x).0 rx xs here.0 all.1 in
    (later.0, omega (arith, here.1, later.1))
