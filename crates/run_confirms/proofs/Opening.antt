-- When an anchor sends for the first time: at a submission, and at its opening.
use Rattle.std.proofs.Common.{◌≡◌, ℕ, ◌+◌, ◌++◌, ◌-◌, ◌≤◌, ◌^◌, ◌∷◌, [], true, false, Bool, List, Option, Result, Ok, Err, length, not, refl, sym, ap, ◌∙◌, subst, inl, inr, arith}
use Rattle.std.specs.Prelude.{is_some}
use Rattle.std.specs.List.{AllByRecursion, enumerate_from, filter_map, range_with_len}
use Rattle.std.proofs.lemmas.Bool.{cases_eq, cases_lt}
use Rattle.dc_base.specs.declared.numbers.SnLen.{SnLen}
use Rattle.dc_base.specs.Count.{window}
use Rattle.nr_u.specs.declared.tunnel.outbound.Sent.{Sent}
use Rattle.pdcp_tx.specs.Sender.{InWindow, Rises, Sender, counts, low, sdu_at}
use Rattle.pdcp_tx.specs.Sending.{give_numbers, hold_sdu, take_sdu}
use Rattle.pdcp_tx.specs.declared.tx.TxErr.{TxErr}
use Rattle.pdcp_tx.specs.declared.tx.TxErr.TheVariants.{Exhausted, Full}
use Rattle.pdcp_tx.proofs.Rules.{give_numbers-exhausted, give_numbers-full, give_numbers-ok, take_sdu-exhausted, take_sdu-full, take_sdu-ok}
use Rattle.split_leg.specs.Legs.{leg_at}
use Rattle.node_rules.specs.Anchor.{Active}
use Rattle.node_rules.specs.AnchorSending.{anchor_recovers, anchor_sends, open_if, opens, submit_as, submit_at, with_numbers, with_tx}
use Rattle.node_rules.specs.Choices.{Choices}
use Rattle.node_rules.specs.Sending.{pdu_at, send_each}
use Rattle.run_legs.proofs.Sends.{each_more}
use Rattle.run_confirms.specs.Anchors.{AnchorSent, HasSent, Sends, far_cell, sent_on, was_put}
use Rattle.run_confirms.proofs.Anchors.{fit_counts, fit_range, fit_rising, kept_there, none_step, rises_by, sends_step, then_step}
use Rattle.run_confirms.proofs.Legs.{RisesTo}
use Rattle.run_confirms.proofs.Sending.{entries_sent, far_rises, not_shut, still_sent, with_tx_sent}

each_right : {X : Type 0} (P : X → Type 0) (xs ys : List X) → AllByRecursion P (xs ++ ys) → AllByRecursion P ys
each_right P [] ys all = all
each_right P (x ∷ xs) ys all = each_right P xs ys all.1

-- ---- a submission

-- one that is held
held_step : (air : List (Option ℕ)) (tun : List Sent) (a : Active) (sdu : List ℕ) → AnchorSent air tun a
    → Sends air tun a (with_tx a (hold_sdu a.entity.tx sdu), [])
held_step air tun a sdu is = none_step air tun a (with_tx a (hold_sdu a.entity.tx sdu)) (record {
  sent = with_tx_sent air tun a (hold_sdu a.entity.tx sdu) (omega arith) is.sent;
  closed = is.closed;
  all_sent = is.all_sent;
})

-- the sending side with one SDU more
abbrev one_taken : Sender → List ℕ → Sender
one_taken s sdu = record s { next = s.next + 1; kept = s.kept ++ (s.next, sdu) ∷ [] }

-- one that is numbered, and sent
numbered_step : (c : Choices) (air : List (Option ℕ)) (tun : List Sent) (a : Active) (sdu : List ℕ) → a.is_open ≡ true → AnchorSent air tun a
    → Sends air tun a (anchor_sends c (with_tx a (one_taken a.entity.tx sdu)) (a.entity.tx.next ∷ []))
numbered_step c air tun a sdu opened is =
    let s = a.entity.tx in
    let b = with_tx a (one_taken s sdu) in
    let e = b.entity in
    let new : List (ℕ × List ℕ) = (s.next, sdu) ∷ [] in
    let pdus = filter_map (pdu_at e) (s.next ∷ []) in
    let step = sends_step c air tun b pdus (with_tx_sent air tun a (one_taken s sdu) (omega arith) is.sent)
    (rises_by c pdus e.setup.legs s.next (s.next + 1) (far_cell e) (λ live. fit_counts e e.setup.legs s.next (s.next + 1) (s.next ∷ []) (s.next + 1, ((omega arith, inr (omega arith, omega arith)), omega arith)))
    (omega arith) (far_rises air tun a is.sent))
    (λ shut. not_shut a.is_open opened shut)
    (λ also live. each_more (λ (x : ℕ × List ℕ). was_put (send_each c pdus e.setup.legs).0 x.0 ≡ true) s.kept new
    (still_sent c e (s.next ∷ []) s.kept (is.all_sent opened live))
    (entries_sent c e (s.next ∷ []) new live refl (each_right (λ (x : ℕ × List ℕ). is_some (sdu_at e.tx.kept x.0) ≡ true) s.kept new (kept_there e.tx.kept))))
    in record { more_air = step.more_air; more_tun = step.more_tun; after = step.after; flights = step.flights }

-- an SDU is submitted: an open anchor numbers and sends it if there is room
pub submit_step : (c : Choices) (air : List (Option ℕ)) (tun : List Sent) (a : Active) (sdu : List ℕ) → AnchorSent air tun a
    → Sends air tun a (submit_at a.is_open c a sdu)
submit_step c air tun a sdu is = by a.is_open refl
  where
    s : Sender
    s = a.entity.tx

    given_as : (r : Result (Sender × ℕ) TxErr) → take_sdu s sdu ≡ r → Sends air tun a (submit_as c a sdu r)
        → Sends air tun a (submit_as c a sdu (take_sdu s sdu))
    given_as r is_r step = subst (λ (x : Result (Sender × ℕ) TxErr). Sends air tun a (submit_as c a sdu x)) (sym is_r) step

    by : (b : Bool) → a.is_open ≡ b → Sends air tun a (submit_at b c a sdu)
    by false shut = held_step air tun a sdu is
    by true opened =
        elim (cases_lt s.next (low s + window s.n)) [
          | inr full ↦ given_as (Err (Full (low s) s.next)) (take_sdu-full s sdu full) (held_step air tun a sdu is)
          | inl room ↦ elim (cases_eq s.next (2 ^ 32 - 1)) [
            | inl last ↦ given_as (Err Exhausted) (take_sdu-exhausted s sdu room last) (held_step air tun a sdu is)
            | inr more ↦ given_as (Ok (one_taken s sdu, s.next)) (take_sdu-ok s sdu room more) (numbered_step c air tun a sdu opened is)
          ]
        ]

-- ---- an opening

rises_le : (from next : ℕ) (es : List (ℕ × List ℕ)) → Rises from next es → from ≤ next
rises_le from next [] up = up
rises_le from next (e ∷ es) up = omega (arith, up.0, rises_le (e.0 + 1) next es up.1)

counts_enumerated : (from : ℕ) (held : List (List ℕ)) → counts (enumerate_from from held) ≡ range_with_len from (length held)
counts_enumerated from [] = refl
counts_enumerated from (sdu ∷ held) = ap (λ (cs : List ℕ). from ∷ cs) (counts_enumerated (from + 1) held)

-- the sending side when all that was held is numbered
abbrev all_taken : Sender → Sender
all_taken s = record s { next = s.next + length s.held; kept = s.kept ++ enumerate_from s.next s.held; held = [] }

-- the SDUs that were held are numbered, and sent
given_step : (c : Choices) (air : List (Option ℕ)) (tun : List Sent) (a : Active) → a.is_open ≡ true → AnchorSent air tun a
    → Sends air tun a (anchor_sends c (with_tx a (all_taken a.entity.tx)) (range_with_len a.entity.tx.next (length a.entity.tx.held)))
given_step c air tun a opened is =
    let s = a.entity.tx in
    let b = with_tx a (all_taken s) in
    let e = b.entity in
    let cs = range_with_len s.next (length s.held) in
    let new : List (ℕ × List ℕ) = enumerate_from s.next s.held in
    let pdus = filter_map (pdu_at e) cs in
    let step = sends_step c air tun b pdus (with_tx_sent air tun a (all_taken s) (omega arith) is.sent)
    (rises_by c pdus e.setup.legs s.next (s.next + length s.held) (far_cell e)
    (λ live. fit_counts e e.setup.legs s.next (s.next + length s.held) cs (fit_range e.setup.legs s.next (length s.held) (s.next + length s.held) refl))
    (omega arith) (far_rises air tun a is.sent))
    (λ shut. not_shut a.is_open opened shut)
    (λ also live. each_more (λ (x : ℕ × List ℕ). was_put (send_each c pdus e.setup.legs).0 x.0 ≡ true) s.kept new
    (still_sent c e cs s.kept (is.all_sent opened live))
    (entries_sent c e cs new live (counts_enumerated s.next s.held) (each_right (λ (x : ℕ × List ℕ). is_some (sdu_at e.tx.kept x.0) ≡ true) s.kept new (kept_there e.tx.kept))))
    in record { more_air = step.more_air; more_tun = step.more_tun; after = step.after; flights = step.flights }

-- what was held is numbered and sent, or there is no room
numbers_step : (c : Choices) (air : List (Option ℕ)) (tun : List Sent) (a : Active) → a.is_open ≡ true → AnchorSent air tun a
    → Sends air tun a (with_numbers c a (give_numbers a.entity.tx))
numbers_step c air tun a opened is =
    elim (cases_lt (low s + window s.n) (s.next + length s.held)) [
      | inl full ↦ given_as (Err (Full (low s) s.next)) (give_numbers-full s full) (none_step air tun a a is)
      | inr room ↦ elim (cases_lt (2 ^ 32 - 1) (s.next + length s.held)) [
        | inl last ↦ given_as (Err Exhausted) (give_numbers-exhausted s room last) (none_step air tun a a is)
        | inr more ↦ given_as (Ok (all_taken s, range_with_len s.next (length s.held))) (give_numbers-ok s room more) (given_step c air tun a opened is)
      ]
    ]
  where
    s : Sender
    s = a.entity.tx

    given_as : (r : Result (Sender × List ℕ) TxErr) → give_numbers s ≡ r → Sends air tun a (with_numbers c a r)
        → Sends air tun a (with_numbers c a (give_numbers s))
    given_as r is_r step = subst (λ (x : Result (Sender × List ℕ) TxErr). Sends air tun a (with_numbers c a x)) (sym is_r) step

-- all that is kept is sent, for the first time in the generation
first_step : (c : Choices) (air : List (Option ℕ)) (tun : List Sent) (a : Active) (n : SnLen) → a.is_open ≡ false → AnchorSent air tun a
    → InWindow n a.entity.tx.next a.entity.tx.kept
    → Sends air tun (record a { is_open = true }) (anchor_recovers c (record a { is_open = true }))
first_step c air tun a n shut is window =
    let e = a.entity in
    let b : Active = record a { is_open = true } in
    let cs = counts e.tx.kept in
    let pdus = filter_map (pdu_at e) cs in
    let none = is.closed shut in
    let has : HasSent air tun b = record {
      own = is.sent.own;
      far = is.sent.far;
      history = is.sent.history;
      unasked = is.sent.unasked;
      rise = is.sent.rise;
      below = is.sent.below;
      marks = is.sent.marks;
      same_n = is.sent.same_n;
    } in
    let nothing : sent_on (leg_at e.setup.legs (far_cell e)) ≡ [] = is.sent.far ∙ none.1 in
    sends_step c air tun b pdus has
    (rises_by c pdus e.setup.legs window.from e.tx.next (far_cell e) (λ live. fit_counts e e.setup.legs window.from e.tx.next cs (fit_rising e.setup.legs window.from e.tx.next e.tx.kept window.rises))
    (rises_le window.from e.tx.next e.tx.kept window.rises) (rw nothing (none_rises window.from)))
    (λ again. not_shut true refl again)
    (λ also live. entries_sent c e cs e.tx.kept live refl (kept_there e.tx.kept))
  where
    none_rises : (from : ℕ) → RisesTo from []
    none_rises from = (λ j k c d less at_j at_k. absurd cc, λ number count at. absurd cc)

-- a closed anchor opens
pub opens_step : (c : Choices) (air : List (Option ℕ)) (tun : List Sent) (a : Active) (n : SnLen) → a.is_open ≡ false → AnchorSent air tun a
    → InWindow n a.entity.tx.next a.entity.tx.kept → Sends air tun a (opens c a)
opens_step c air tun a n shut is window =
    let b : Active = record a { is_open = true } in
    let again = anchor_recovers c b in
    let one = first_step c air tun a n shut is window in
    let first : Sends air tun a again = record { more_air = one.more_air; more_tun = one.more_tun; after = one.after; flights = one.flights } in
    then_step air tun a again.0 again (with_numbers c again.0 (give_numbers again.0.entity.tx)) refl refl first
    (numbers_step c (air ++ one.more_air) (tun ++ one.more_tun) again.0 refl one.after)

-- the reconfiguration is complete: an anchor that is closed opens
pub unlock_step : (c : Choices) (air : List (Option ℕ)) (tun : List Sent) (a : Active) (n : SnLen) → AnchorSent air tun a
    → InWindow n a.entity.tx.next a.entity.tx.kept → Sends air tun a (open_if (not a.is_open) c a)
unlock_step c air tun a n is window = by a.is_open refl
  where
    by : (b : Bool) → a.is_open ≡ b → Sends air tun a (open_if (not b) c a)
    by true opened = none_step air tun a a is
    by false shut = opens_step c air tun a n shut is window
