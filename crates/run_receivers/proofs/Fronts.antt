-- One SDU is put: what goes up are the next of the submissions. A receiving entity that is right is that of a lane, whose sending
-- entity keeps all that was not handed up; so what is known of lanes holds of it.
use Rattle.std.proofs.Common.{ℕ, suc, zero, ◌≡◌, ◌+◌, ◌-◌, ◌<◌, ◌≤◌, ◌||◌, ◌++◌, true, false, List, [], ◌∷◌, Some, length, take, drop, refl, ap, subst, arith, inl, inr, length-drop, append_assoc, length-append, slice_get}
use Rattle.std.specs.Prelude.{nat_lt}
use Rattle.std.specs.List.{AllByRecursion}
use Rattle.std.proofs.lemmas.Bool.{cases_lt, lt-ltb, le-ltb, ne_eqb, eq-eqb}
use Rattle.std.proofs.lemmas.List.{take-append-drop, length-take-le}
use Rattle.pdcp_pdu.specs.Bitmap.{is_among, is_shown}
use Rattle.pdcp_pdu.proofs.Bitmaps.{is_shown-past}
use Rattle.pdcp_rx.specs.Receiver.{Received, handed_of, put}
use Rattle.pdcp_rx.specs.declared.entity.RxParts.{RxParts}
use Rattle.pdcp_rx.proofs.Laws.{Received-put, Received-put_same, deliv-put, handed_consecutive}
use Rattle.pdcp_tx.specs.Sender.{Rises, Sender, is_kept}
use Rattle.pdcp_tx.proofs.Entries.{Rises-bounds, Rises-weaker}
use Rattle.transcript.specs.Bearers.{Confirmation, is_confirmed, numbered, reported}
use Rattle.transcript.proofs.OnEach.{each_weaker}
use Rattle.master_runs.proofs.Lane.{IsLane, IsNumbered, Received-only, lane_handed, lane_put, put_below}
use Rattle.master_runs.proofs.Lists.{consecutive_from, each_both, slice_get_right}
use Rattle.run_receivers.specs.Receiving.{HasTaken, IsReceiving}
use Rattle.run_receivers.specs.Submitted.{IsSubmission, Submitted, next_of}

-- ---- payloads in their order

numbered_rise : (from : ℕ) (xs : List (List ℕ)) → Rises from (from + length xs) (numbered from xs)
numbered_rise from [] = omega arith
numbered_rise from (x ∷ xs) =
    let end : from + 1 + length xs ≡ from + suc (length xs) = omega arith in
    (omega arith, subst (λ (k : ℕ). Rises (from + 1) k (numbered (from + 1) xs)) end (numbered_rise (from + 1) xs))

none_below : (from c : ℕ) (xs : List (List ℕ)) → c < from → is_kept (numbered from xs) c ≡ false
none_below from c [] lt = refl
none_below from c (x ∷ xs) lt = rw (ne_eqb from c (λ same. omega arith)) (none_below (from + 1) c xs (omega arith))

all_above : (from c : ℕ) (xs : List (List ℕ)) → from ≤ c → c < from + length xs → is_kept (numbered from xs) c ≡ true
all_above from c [] le lt = absurd (omega arith)
all_above from c (x ∷ xs) le lt =
    elim (cases_lt from c) [
      | inl past ↦ rw (ne_eqb from c (λ same. omega arith)) (all_above (from + 1) c xs (omega arith) (omega arith))
      | inr here ↦ rw (eq-eqb from c (omega arith)) refl
    ]

each_of : (first : ℕ) (xs ys : List (List ℕ)) → AllByRecursion (IsNumbered first (xs ++ ys)) (numbered (first + length xs) ys)
each_of first xs [] = tt
each_of first xs (y ∷ ys) =
    let place : length xs + 0 ≡ first + length xs - first = omega arith in
    let there = slice_get_right xs (y ∷ ys) 0 y refl in
    let later = each_of first (xs ++ y ∷ []) ys in
    let same : (xs ++ y ∷ []) ++ ys ≡ xs ++ y ∷ ys = append_assoc xs (y ∷ []) ys in
    let longer = length-append xs (y ∷ []) in
    let next : first + length (xs ++ y ∷ []) ≡ first + length xs + 1 = omega arith in (
      record { counted = omega arith; payload = subst (λ i. slice_get (xs ++ y ∷ ys) i ≡ Some y) place there },
      subst (λ zs. AllByRecursion (IsNumbered first zs) (numbered (first + length xs + 1) ys)) same
          (subst (λ k. AllByRecursion (IsNumbered first ((xs ++ y ∷ []) ++ ys)) (numbered k ys)) next later),
    )

-- ---- the lane

-- a report that names all below a COUNT and no other
none_shown : (i : ℕ) → is_shown [] i ≡ false
none_shown zero = refl
none_shown (suc i) = is_shown-past (is_among []) 0 0 i (omega arith)

module _ (u : Submitted) (low : ℕ) (rx : RxParts) (r : IsReceiving u low rx) where
  -- what was not handed up
  abbrev rest : List (List ℕ)
  rest = drop (rx.deliv - u.first) u.payloads

  -- a sending entity that keeps it
  abbrev tx : Sender
  tx = record { n = u.n; next = next_of u; kept = numbered rx.deliv rest; held = [] }

  -- what it knows to be received
  abbrev confirms : List Confirmation
  confirms = reported rx.deliv [] ∷ []

  end_is : rx.deliv + length rest ≡ next_of u
  end_is = let from = r.from in let above = r.above in let upto = r.upto in let len = length-drop (rx.deliv - u.first) u.payloads in omega arith

  confirmed_is : (c : ℕ) → is_confirmed confirms c ≡ ((nat_lt c rx.deliv || false) || false)
  confirmed_is c = ap (λ b. (nat_lt c rx.deliv || b) || false) (none_shown (c - rx.deliv))

  rise : Rises rx.deliv (next_of u) (numbered rx.deliv rest)
  rise = subst (λ (k : ℕ). Rises rx.deliv k (numbered rx.deliv rest)) end_is (numbered_rise rx.deliv rest)

  payloads_kept : AllByRecursion (IsNumbered u.first u.payloads) (numbered rx.deliv rest)
  payloads_kept =
      let from = r.from in let above = r.above in let upto = r.upto in
      let front = length-take-le (rx.deliv - u.first) u.payloads (omega arith) in
      let begin : u.first + length (take (rx.deliv - u.first) u.payloads) ≡ rx.deliv = omega arith in
      let all = each_of u.first (take (rx.deliv - u.first) u.payloads) rest in
      let same : take (rx.deliv - u.first) u.payloads ++ rest ≡ u.payloads = take-append-drop (rx.deliv - u.first) u.payloads in
      subst (λ zs. AllByRecursion (IsNumbered u.first zs) (numbered rx.deliv rest)) same
      (subst (λ k. AllByRecursion (IsNumbered u.first (take (rx.deliv - u.first) u.payloads ++ rest)) (numbered k rest)) begin all)

  lane : IsLane u.n u.first u.payloads confirms tx [] rx
  lane =
      let small = r.small in let from = r.from in let above = r.above in let near = r.near in let upto = r.upto in
      let bounds = Rises-bounds rx.deliv (next_of u) (numbered rx.deliv rest) rise in
      let end = end_is in
      record {
        tx_length = refl;
        rx_length = r.same_n;
        payloads = r.payloads;
        counted = refl;
        small = omega arith;
        given = tt;
        rises = Rises-weaker u.first rx.deliv (next_of u) (numbered rx.deliv rest) (omega arith) rise;
        near = omega (arith, bounds.0);
        kept_are = λ c first next. elim (cases_lt c rx.deliv) [
          | inl below ↦ rw (confirmed_is c, lt-ltb c rx.deliv below) (none_below rx.deliv c rest below)
          | inr le ↦ rw (confirmed_is c, le-ltb c rx.deliv le) (all_above rx.deliv c rest le (omega arith))
        ];
        not_yet = λ c past. rw (confirmed_is c, le-ltb c rx.deliv (omega arith)) refl;
        kept_payloads = payloads_kept;
        from = omega arith;
        upto = upto;
        ascends = r.ascends;
        stored = each_weaker (IsSubmission u) (IsNumbered u.first u.payloads) (λ e s. record { counted = s.from; payload = s.payload }) rx.stored r.stored;
        found = λ c first next. elim (cases_lt c rx.deliv) [ inl below ↦ inr (inl below) | inr le ↦ inl (all_above rx.deliv c rest le (omega arith)) ];
      }

  module _ (c : ℕ) (p : List ℕ) (s : IsSubmission u (c, p)) where
    numbered_so : IsNumbered u.first u.payloads (c, p)
    numbered_so = record { counted = s.from; payload = s.payload }

    put_receiving : IsReceiving u low (put rx c p).0
    put_receiving =
        let later = lane_put u.n u.first u.payloads confirms tx [] rx lane c p numbered_so in
        let above = r.above in let risen = deliv-put rx c p in
        record {
          same_n = later.rx_length;
          payloads = r.payloads;
          small = r.small;
          from = r.from;
          above = omega arith;
          upto = later.upto;
          near = r.near;
          ascends = later.ascends;
          stored = each_weaker (IsNumbered u.first u.payloads) (IsSubmission u) (λ e n. record { from = n.counted; payload = n.payload })
              (put rx c p).0.stored later.stored;
        }

    -- one SDU is put
    pub put_taken : HasTaken u low (Some c ∷ []) rx (put rx c p).0 (handed_of (put rx c p).1)
    put_taken =
        let from = r.from in let above = r.above in let risen = deliv-put rx c p in
        record {
          receiving = put_receiving;
          handed = lane_handed u.n u.first u.payloads confirms tx [] rx lane c p numbered_so;
          rises = omega arith;
          each = each_both (λ e. u.first ≤ e.0) (λ e. e.0 < (put rx c p).0.deliv) (handed_of (put rx c p).1)
              (consecutive_from u.first rx.deliv (handed_of (put rx c p).1) (omega arith) (handed_consecutive rx c p)) (put_below rx c p);
          grown = λ d got. Received-put rx d c p got;
          came = λ d there. elim there [
            | inl same ↦ subst (Received (put rx c p).0) (one same) (Received-put_same rx c p)
            | inr none ↦ absurd none
          ];
          only = λ d got. elim (Received-only rx c d p got) [ inl same ↦ inl (inl (ap (λ k. Some k) same)) | inr before ↦ inr before ];
        }
      where
        one : {d : ℕ} → Some d ≡ Some c → c ≡ d
        one same = cc
