-- Each step of an anchor, active or waiting: what it sends is behind what it sent before.
use Rattle.std.proofs.Common.{◌≡◌, ℕ, ◌++◌, [], true, false, Bool, List, Option, Result, Ok, Err, not, refl, sym, ap, ◌∙◌, subst, inl, inr}
use Rattle.std.specs.List.{AllByRecursion}
use Rattle.std.proofs.lemmas.Bool.{cases_Bool}
use Rattle.std.proofs.lemmas.List.{append-nil}
use Rattle.dc_base.specs.declared.flights.Flight.{Flight}
use Rattle.dc_base.specs.declared.flights.Flight.TheVariants as flight
use Rattle.dc_base.specs.declared.nodes.Cell.{Cell}
use Rattle.nr_u.specs.declared.frame.Frame.{Frame}
use Rattle.nr_u.specs.declared.tunnel.outbound.Sent.{Sent}
use Rattle.pdcp_pdu.specs.Bitmap.{names}
use Rattle.pdcp_pdu.specs.Pdu.{Content, decoded, report, sdu}
use Rattle.pdcp_pdu.specs.declared.pdu.PduErr.{PduErr}
use Rattle.node_rules.specs.Anchor.{Active, AnchorState, active_anchor, setup_at, silent, waiting_anchor}
use Rattle.node_rules.specs.AnchorReceiving.{ack, air_ack, air_in, air_pdu, delivery_in, is_on_leg, pdu_in, relayed_pdu, with_confirm}
use Rattle.node_rules.specs.AnchorSending.{fail_scg, open_if, recover, recover_at, report as report_asked, report_at, sent_by, submit, submit_at, unlock, with_failure}
use Rattle.node_rules.specs.Choices.{Choices, Send}
use Rattle.node_rules.specs.Entity.{take_pdu}
use Rattle.node_rules.specs.Setup.{Setup, anchor_cell, has_failed}
use Rattle.node_rules.specs.declared.bearers.AnchorOut.{AnchorOut}
use Rattle.run_confirms.specs.Anchors.{AnchorSent, IsOfAnchor, Sends}
use Rattle.run_confirms.specs.States.{KeepsInWindow, StateSends, StateSent}
use Rattle.run_confirms.proofs.Confirming.{confirmed_sent, less_kept, same_none}
use Rattle.run_confirms.proofs.Opening.{submit_step, unlock_step}
use Rattle.run_confirms.proofs.Sending.{failure_step, recover_step, report_step}
use Rattle.run_confirms.proofs.Verdicts.{ack_sent, delivery_step}

-- ---- steps as they are told of

-- nothing of its own is sent
pub stays_at : (air : List (Option ℕ)) (tun : List Sent) (s : AnchorState) (done : AnchorState × AnchorOut) → StateSent air tun done.0
    → AllByRecursion (λ (x : Send). IsOfAnchor (setup_at s).id (setup_at s).g (air ++ []) (tun ++ []) x.1) done.1.sends → StateSends air tun s done
stays_at air tun s done is flights = record {
  more_air = [];
  more_tun = [];
  after = subst (λ (t : List Sent). StateSent (air ++ []) t done.0) (sym (append-nil tun)) (subst (λ (xs : List (Option ℕ)). StateSent xs tun done.0) (sym (append-nil air)) is);
  flights = flights;
}

-- a step of an active anchor
by_sends : (air : List (Option ℕ)) (tun : List Sent) (a : Active) (done : Active × List Send) → Sends air tun a done
    → StateSends air tun (active_anchor a) (sent_by done)
by_sends air tun a done is = record { more_air = is.more_air; more_tun = is.more_tun; after = is.after; flights = is.flights }

-- ---- what the node has it do

-- an SDU is submitted
pub submit_sends : (c : Choices) (air : List (Option ℕ)) (tun : List Sent) (s : AnchorState) (payload : List ℕ) → StateSent air tun s
    → StateSends air tun s (submit c s payload)
submit_sends c air tun (waiting_anchor w) payload is = stays_at air tun (waiting_anchor w) (submit c (waiting_anchor w) payload) is tt
submit_sends c air tun (active_anchor a) payload is = by_sends air tun a (submit_at a.is_open c a payload) (submit_step c air tun a payload is)

-- the reconfiguration is complete
pub unlock_sends : (c : Choices) (air : List (Option ℕ)) (tun : List Sent) (s : AnchorState) → KeepsInWindow s → StateSent air tun s
    → StateSends air tun s (unlock c s)
unlock_sends c air tun (waiting_anchor w) window is = stays_at air tun (waiting_anchor w) (unlock c (waiting_anchor w)) is tt
unlock_sends c air tun (active_anchor a) window is = by_sends air tun a (open_if (not a.is_open) c a) (unlock_step c air tun a a.entity.setup.n is window)

-- PDCP data recovery is asked for
pub recover_sends : (c : Choices) (air : List (Option ℕ)) (tun : List Sent) (s : AnchorState) → StateSent air tun s → StateSends air tun s (recover c s)
recover_sends c air tun (waiting_anchor w) is = stays_at air tun (waiting_anchor w) (recover c (waiting_anchor w)) is tt
recover_sends c air tun (active_anchor a) is = by_sends air tun a (recover_at a.is_open c a) (recover_step c air tun a is)

-- the anchor learns that the SCG leg failed
pub fail_sends : (c : Choices) (air : List (Option ℕ)) (tun : List Sent) (s : AnchorState) → StateSent air tun s → StateSends air tun s (fail_scg c s)
fail_sends c air tun (waiting_anchor w) is = stays_at air tun (waiting_anchor w) (fail_scg c (waiting_anchor w)) is tt
fail_sends c air tun (active_anchor a) is = by_sends air tun a (recover_at a.is_open c (record a { entity = with_failure a.entity })) (failure_step c air tun a is)

-- a status report is asked for
pub report_sends : (c : Choices) (air : List (Option ℕ)) (tun : List Sent) (s : AnchorState) → StateSent air tun s → StateSends air tun s (report_asked c s)
report_sends c air tun (waiting_anchor w) is = stays_at air tun (waiting_anchor w) (report_asked c (waiting_anchor w)) is tt
report_sends c air tun (active_anchor a) is = by_sends air tun a (report_at a.is_open c a) (report_step c air tun a is)

-- ---- what comes

-- an uplink PDU: a data PDU changes nothing on the sending side, a report confirms
pub pdu_sent : (air : List (Option ℕ)) (tun : List Sent) (a : Active) (x : Content) → AnchorSent air tun a
    → AnchorSent air tun (record a { entity = (take_pdu a.entity x).0 })
pdu_sent air tun a (sdu s body) is = less_kept air tun a (take_pdu a.entity (sdu s body)).0 (same_none a.entity.setup.legs) refl refl (λ P all. all) is
pdu_sent air tun a (report fmc bits) is = confirmed_sent air tun a (names fmc bits) is

pdu_in_sent : (air : List (Option ℕ)) (tun : List Sent) (s : AnchorState) (x : Content) → StateSent air tun s → StateSent air tun (pdu_in s x).0
pdu_in_sent air tun (waiting_anchor w) x is = is
pdu_in_sent air tun (active_anchor a) x is = pdu_sent air tun a x is

pdu_in_silent : (s : AnchorState) (x : Content) → (pdu_in s x).1.sends ≡ []
pdu_in_silent (waiting_anchor w) x = refl
pdu_in_silent (active_anchor a) x = refl

-- the confirms of uplink PDUs are no PDUs
ack_of_anchor : (id g : ℕ) (air : List (Option ℕ)) (tun : List Sent) (s : Setup) (num : ℕ) (failed : Bool)
    → AllByRecursion (λ (x : Send). IsOfAnchor id g air tun x.1) (ack s num failed)
ack_of_anchor id g air tun s num true = tt
ack_of_anchor id g air tun s num false = (tt, tt)

air_pdu_sends : (air : List (Option ℕ)) (tun : List Sent) (s : AnchorState) (num : ℕ) (x : Result Content PduErr) → StateSent air tun s
    → StateSends air tun s (air_pdu s num x)
air_pdu_sends air tun s num (Err e) is = stays_at air tun s (s, silent) is tt
air_pdu_sends air tun s num (Ok x) is =
    let setup = setup_at s in
    let acks = ack setup num (has_failed setup (anchor_cell setup.legs.shape)) in
    let here : acks ++ (pdu_in s x).1.sends ≡ acks = ap (λ (xs : List Send). acks ++ xs) (pdu_in_silent s x) ∙ append-nil acks in
    stays_at air tun s (with_confirm acks (pdu_in s x)) (pdu_in_sent air tun s x is)
    (subst (λ (xs : List Send). AllByRecursion (λ (y : Send). IsOfAnchor setup.id setup.g (air ++ []) (tun ++ []) y.1) xs) (sym here) (ack_of_anchor setup.id setup.g (air ++ []) (tun ++ []) setup num (has_failed setup (anchor_cell setup.legs.shape))))

air_ack_sends : (air : List (Option ℕ)) (tun : List Sent) (s : AnchorState) (num : ℕ) → StateSent air tun s → StateSends air tun s (air_ack s num)
air_ack_sends air tun (waiting_anchor w) num is = stays_at air tun (waiting_anchor w) (air_ack (waiting_anchor w) num) is tt
air_ack_sends air tun (active_anchor a) num is = stays_at air tun (active_anchor a) (air_ack (active_anchor a) num) (ack_sent air tun a num is) tt

-- over the air
pub air_sends : (air : List (Option ℕ)) (tun : List Sent) (s : AnchorState) (cell : Cell) (f : Flight) → StateSent air tun s
    → StateSends air tun s (air_in s cell f)
air_sends air tun s cell (flight.Air id g num tag pdu) is =
    elim (cases_Bool (is_on_leg (setup_at s) cell id g)) [
      | inl ours ↦ rw ours (air_pdu_sends air tun s num (decoded (setup_at s).n pdu) is)
      | inr others ↦ rw others (stays_at air tun s (s, silent) is tt)
    ]
air_sends air tun s cell (flight.Ack id g num) is =
    elim (cases_Bool (is_on_leg (setup_at s) cell id g)) [
      | inl ours ↦ rw ours (air_ack_sends air tun s num is)
      | inr others ↦ rw others (stays_at air tun s (s, silent) is tt)
    ]
air_sends air tun s cell (flight.Tun tag packet) is = stays_at air tun s (s, silent) is tt
air_sends air tun s cell (flight.Sdu id g payload) is = stays_at air tun s (s, silent) is tt
air_sends air tun s cell (flight.End id g) is = stays_at air tun s (s, silent) is tt
air_sends air tun s cell (flight.Told id g count) is = stays_at air tun s (s, silent) is tt
air_sends air tun s cell (flight.Ctl r) is = stays_at air tun s (s, silent) is tt

-- a delivery status
pub delivery_sends : (c : Choices) (air : List (Option ℕ)) (tun : List Sent) (s : AnchorState) (status : Frame) → StateSent air tun s
    → StateSends air tun s (delivery_in c s status)
delivery_sends c air tun (waiting_anchor w) status is = stays_at air tun (waiting_anchor w) (delivery_in c (waiting_anchor w) status) is tt
delivery_sends c air tun (active_anchor a) status is =
    let step = delivery_step c air tun a status is in
    record { more_air = step.more_air; more_tun = step.more_tun; after = step.after; flights = step.flights }

-- an uplink PDU that the host relays
pub relayed_sends : (air : List (Option ℕ)) (tun : List Sent) (s : AnchorState) (x : Result Content PduErr) → StateSent air tun s
    → StateSends air tun s (relayed_pdu s x)
relayed_sends air tun s (Err e) is = stays_at air tun s (s, silent) is tt
relayed_sends air tun s (Ok x) is =
    stays_at air tun s (pdu_in s x) (pdu_in_sent air tun s x is)
    (subst (λ (xs : List Send). AllByRecursion (λ (y : Send). IsOfAnchor (setup_at s).id (setup_at s).g (air ++ []) (tun ++ []) y.1) xs) (sym (pdu_in_silent s x)) tt)
