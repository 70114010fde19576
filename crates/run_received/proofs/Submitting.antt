-- Each uplink after the terminal submits one more SDU.
use Rattle.std.proofs.Common.{ℕ, ◌≡◌, ◌+◌, ◌-◌, ◌^◌, ◌<◌, ◌≤◌, ◌==◌, ◌++◌, true, false, List}
use Rattle.std.proofs.Common.{[], ◌∷◌, Option, Some, None, refl, sym, ap, subst, ◌∙◌, inl, inr, arith}
use Rattle.std.specs.Prelude.{Ok, nat_le}
use Rattle.std.specs.List.{AllByRecursion, filter_map, flat_map}
use Rattle.std.proofs.lemmas.Bool.{and_from, eq-eqb, or_left, or_right}
use Rattle.std.proofs.lemmas.List.Folds.{list_any-append}
use Rattle.transcript.proofs.OnEach.{each_append, each_weaker}
use Rattle.dc_base.specs.Count.{window}
use Rattle.dc_base.specs.Nodes.{is_same_node}
use Rattle.dc_base.specs.declared.answers.Answer.TheVariants as answer
use Rattle.dc_base.specs.declared.events.Event.TheVariants as event
use Rattle.dc_base.specs.declared.flights.Flight.TheVariants as flight
use Rattle.dc_base.specs.declared.nodes.Cell.{Cell}
use Rattle.dc_base.specs.declared.nodes.Cell.TheVariants.{Mcg, Scg}
use Rattle.dc_base.specs.declared.nodes.Dir.TheVariants.{Ul}
use Rattle.dc_base.specs.declared.nodes.Node.{Node}
use Rattle.dc_base.specs.declared.nodes.Node.TheVariants.{T}
use Rattle.node_rules.specs.Choices.{Choices, Send}
use Rattle.node_rules.specs.Held.{held}
use Rattle.node_rules.specs.Run.{carried_on, happening}
use Rattle.node_rules.specs.Sending.{Pdu, pdu_at, send_counts}
use Rattle.node_rules.specs.Setup.{Setup, node_of}
use Rattle.node_rules.specs.Terminal.{half_submitted, submitted_there, with_half}
use Rattle.node_rules.specs.TerminalHalf.{TerminalHalf, leg_send, submit_as, with_sends}
use Rattle.node_rules.specs.World.{World}
use Rattle.node_rules.specs.declared.bearers.OnLeg.{OnLeg}
use Rattle.node_rules.specs.declared.inputs.Outcome.{Outcome}
use Rattle.pdcp_rx.specs.declared.entity.RxParts.{RxParts}
use Rattle.pdcp_tx.specs.Sender.{Sender, low, sdu_at}
use Rattle.pdcp_tx.specs.Sending.{take_sdu}
use Rattle.run_legs.specs.Puts.{IsAmong}
use Rattle.run_legs.proofs.Entities.{has_sent}
use Rattle.run_receivers.specs.Submitted.{next_of}
use Rattle.run_received.specs.OnTheWay.{Comes, IsDue, UpComes, is_air_of, is_sent_in}
use Rattle.run_received.specs.Receipts.{Receipt, submitted_to}
use Rattle.run_received.proofs.Terminals.{with_next}

-- ---- what is sent

-- a PDU of this bearer and generation, with this COUNT, to another node than the terminal
abbrev pub IsUpSend : ℕ → ℕ → ℕ → Send → Type 0
IsUpSend id g count (l, flight.Air i h num tag pdu) = (is_same_node l.to T ≡ false) × (i ≡ id) × (h ≡ g) × (tag ≡ Some count)
IsUpSend id g count (l, flight.Ack i h num) = ⊥
IsUpSend id g count (l, flight.Tun tag packet) = ⊥
IsUpSend id g count (l, flight.Sdu i h payload) = ⊥
IsUpSend id g count (l, flight.End i h) = ⊥
IsUpSend id g count (l, flight.Told i h c) = ⊥
IsUpSend id g count (l, flight.Ctl r) = ⊥

one_count : (x : TerminalHalf) (count : ℕ) → AllByRecursion (λ (z : Pdu). z.0 ≡ Some count) (filter_map (pdu_at x) (count ∷ []))
one_count x count = by (sdu_at x.tx.kept count) refl
  where
    by : (o : Option (List ℕ)) → sdu_at x.tx.kept count ≡ o → AllByRecursion (λ (z : Pdu). z.0 ≡ Some count) (filter_map (pdu_at x) (count ∷ []))
    by None none = rw none tt
    by (Some sdu) some = rw some (refl, tt)

among_so : {X : Type 0} (P : X → Type 0) (xs : List X) (x : X) → AllByRecursion P xs → IsAmong xs x → P x
among_so P [] x all there = absurd there
among_so P (y ∷ ys) x all (inl is) = subst P (sym is) all.0
among_so P (y ∷ ys) x all (inr more) = among_so P ys x all.1 more

-- the secondary node of a setup is another node than the terminal
abbrev pub IsApart : Setup → Type 0
IsApart s = (y : Node) → s.sec ≡ Some y → is_same_node y T ≡ false

on_leg : (s : Setup) (count : ℕ) (p : OnLeg) → IsApart s → p.pdu.0 ≡ Some count → AllByRecursion (IsUpSend s.id s.g count) (leg_send s p (node_of s.sec p.cell))
on_leg s count p apart is = by p.cell
  where
    to_second : (o : Option Node) → s.sec ≡ o → AllByRecursion (IsUpSend s.id s.g count) (leg_send s p o)
    to_second None none = tt
    to_second (Some y) some = ((apart y some, refl, refl, is), tt)

    by : (cell : Cell) → AllByRecursion (IsUpSend s.id s.g count) (leg_send s p (node_of s.sec cell))
    by Mcg = ((refl, refl, refl, is), tt)
    by Scg = to_second s.sec refl

on_legs : (s : Setup) (count : ℕ) (ps : List OnLeg) → IsApart s → AllByRecursion (λ (p : OnLeg). p.pdu.0 ≡ Some count) ps
    → AllByRecursion (IsUpSend s.id s.g count) (flat_map (λ (p : OnLeg). leg_send s p (node_of s.sec p.cell)) ps)
on_legs s count [] apart all = tt
on_legs s count (p ∷ ps) apart all =
    each_append (IsUpSend s.id s.g count) (leg_send s p (node_of s.sec p.cell)) (flat_map (λ (q : OnLeg). leg_send s q (node_of s.sec q.cell)) ps)
    (on_leg s count p apart all.0) (on_legs s count ps apart all.1)

-- what the terminal sends of one COUNT
pub sends_up : (c : Choices) (x : TerminalHalf) (count : ℕ) → IsApart x.setup
    → AllByRecursion (IsUpSend x.setup.id x.setup.g count) (with_sends (send_counts c x (count ∷ []))).1
sends_up c x count apart =
    let pdus = filter_map (pdu_at x) (count ∷ []) in
    let sent = has_sent c x pdus in
    on_legs (send_counts c x (count ∷ [])).0.setup count (send_counts c x (count ∷ [])).1 apart
    (each_weaker (λ (p : OnLeg). IsAmong pdus p.pdu) (λ (p : OnLeg). p.pdu.0 ≡ Some count) (λ p there. among_so
    (λ (z : Pdu). z.0 ≡ Some count) pdus p.pdu (one_count x count) there)
    (send_counts c x (count ∷ [])).1 sent.legs.those)

-- ---- they were sent

first_sent : (id g count : ℕ) (s : Send) → IsUpSend id g count s → is_air_of id g s.1 ≡ true
first_sent id g count (l, flight.Air i h num tag pdu) is = and_from (i == id) (h == g) (eq-eqb i id is.1) (eq-eqb h g is.2)
first_sent id g count (l, flight.Ack i h num) is = absurd is
first_sent id g count (l, flight.Tun tag packet) is = absurd is
first_sent id g count (l, flight.Sdu i h payload) is = absurd is
first_sent id g count (l, flight.End i h) is = absurd is
first_sent id g count (l, flight.Told i h c) is = absurd is
first_sent id g count (l, flight.Ctl r) is = absurd is

-- a PDU of a submission is due
up_comes : (sent : List Send) (r : Receipt) (rx : RxParts) (g count : ℕ) → r.first ≤ count → count < next_of (submitted_to r) → r.terminal ≡ Some g
    → r.freed ≤ count → is_sent_in r.id g sent ≡ true → (s : Send) → IsUpSend r.id g count s → Comes sent r rx s.0 s.1
up_comes sent r rx g count from below at late sends (l, flight.Air i h num tag pdu) is =
    let due : UpComes sent r i h tag pdu = λ of data'. subst (λ k. IsDue sent r k tag) (sym is.2) (record {
      count = count;
      tagged = is.3;
      from = from;
      submitted = below;
      sends = sends;
      set = λ k set. (let same : Some g ≡ Some k = sym at ∙ set in let one : g ≡ k = cc in omega (arith, one));
      late = λ above. late;
    }) in
    rw is.0 due
up_comes sent r rx g count from below at late sends (l, flight.Ack i h num) is = absurd is
up_comes sent r rx g count from below at late sends (l, flight.Tun tag packet) is = absurd is
up_comes sent r rx g count from below at late sends (l, flight.Sdu i h payload) is = absurd is
up_comes sent r rx g count from below at late sends (l, flight.End i h) is = absurd is
up_comes sent r rx g count from below at late sends (l, flight.Told i h c) is = absurd is
up_comes sent r rx g count from below at late sends (l, flight.Ctl c) is = absurd is

-- each of them is, once they were sent
pub sends_come : (before : List Send) (r : Receipt) (rx : RxParts) (g count : ℕ) → r.first ≤ count → count < next_of (submitted_to r) → r.terminal ≡ Some g
    → r.freed ≤ count → (ss : List Send) → AllByRecursion (IsUpSend r.id g count) ss
    → AllByRecursion (λ (s : Send). Comes (before ++ ss) r rx s.0 s.1) ss
sends_come before r rx g count from below at late [] all = tt
sends_come before r rx g count from below at late (s ∷ ss) all =
    let first : is_sent_in r.id g (s ∷ ss) ≡ true = or_left (is_air_of r.id g s.1) (is_sent_in r.id g ss) (first_sent r.id g count s all.0) in
    let sends : is_sent_in r.id g (before ++ s ∷ ss) ≡ true =
    list_any-append (λ (z : Send). is_air_of r.id g z.1) before (s ∷ ss) ∙ or_right (is_sent_in r.id g before) (is_sent_in r.id g (s ∷ ss)) first in
    each_weaker (IsUpSend r.id g count)
    (λ (z : Send). Comes (before ++ s ∷ ss) r rx z.0 z.1) (up_comes (before ++ s ∷ ss) r rx g count from below at late sends) (s ∷ ss) all

-- ---- the submission

-- where there is room and a COUNT left
took_it : (tx : Sender) (payload : List ℕ) → nat_le (low tx + window tx.n) tx.next ≡ false → (tx.next == 2 ^ 32 - 1) ≡ false
    → take_sdu tx payload ≡ Ok (with_next payload tx, tx.next)
took_it tx payload room left = rw (room, left) refl

-- the half after it
abbrev pub submitted_half : Choices → TerminalHalf → List ℕ → TerminalHalf × List Send
submitted_half c e payload = with_sends (send_counts c (record e { tx = with_next payload e.tx }) (e.tx.next ∷ []))

-- the outcome of it
abbrev pub submitted_outcome : Choices → TerminalHalf → List ℕ → Outcome
submitted_outcome c e payload = record { answer = answer.Ok; notes = []; sends = (submitted_half c e payload).1 }

pub submission_happens : (c : Choices) (w : World) (id : ℕ) (e : TerminalHalf) (payload : List ℕ) → held id w.terminal.halves ≡ Some e
    → nat_le (low e.tx + window e.tx.n) e.tx.next ≡ false → (e.tx.next == 2 ^ 32 - 1) ≡ false
    → carried_on c w (happening w (event.Submit id Ul payload))
    ≡ (record w { terminal = with_half w.terminal id (Some (submitted_half c e payload).0) }, submitted_outcome c e payload)
submission_happens c w id e payload there room left =
    ap {B = World × Outcome} (λ o. let done = submitted_there c w.terminal id payload o in (record w { terminal = done.0 }, done.1)) there
    ∙ ap {B = World × Outcome} (λ x. let done = half_submitted w.terminal id (submit_as c e x) in (record w { terminal = done.0 }, done.1))
    (took_it e.tx payload room left)
