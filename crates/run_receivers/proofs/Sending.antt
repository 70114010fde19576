-- What an entity sends of a lane: PDUs of what was submitted, with no COUNT below Low; and the terminal's half, which sends in uplink.
use Rattle.std.proofs.Common.{ℕ, ◌≡◌, ◌+◌, ◌≤◌, ◌==◌, ◌⊎◌, List, [], ◌∷◌, Option, Some, None, Ok, refl, sym, subst, arith, inl, inr}
use Rattle.std.specs.Prelude.{Err, Result}
use Rattle.std.specs.List.{AllByRecursion, filter_map, flat_map}
use Rattle.std.proofs.lemmas.Bool.{cases_Bool, eqb-true}
use Rattle.dc_base.specs.declared.answers.Answer.{Answer}
use Rattle.dc_base.specs.declared.answers.Answer.TheVariants as answer
use Rattle.dc_base.specs.declared.flights.Flight.{Flight}
use Rattle.dc_base.specs.declared.flights.Flight.TheVariants as flight
use Rattle.dc_base.specs.declared.nodes.Node.{Node}
use Rattle.pdcp_pdu.specs.DataPdu.{IsPayload}
use Rattle.pdcp_pdu.specs.Pdu.{Content, report, sdu}
use Rattle.pdcp_rx.specs.declared.entity.RxParts.{RxParts}
use Rattle.pdcp_tx.specs.Sender.{Entry, Rises, Sender, counts, low, sdu_at}
use Rattle.pdcp_tx.specs.Sending.{take_sdu}
use Rattle.pdcp_tx.specs.declared.tx.TxErr.{TxErr}
use Rattle.pdcp_tx.specs.declared.tx.TxErr.TheVariants as unable
use Rattle.pdcp_tx.proofs.Entries.{Rises-least}
use Rattle.pdcp_tx.proofs.Laws.{low-take_sdu}
use Rattle.transcript.proofs.OnEach.{each_append, each_weaker}
use Rattle.master_runs.proofs.Lists.{each_both}
use Rattle.node_rules.specs.Choices.{Choices, Send}
use Rattle.node_rules.specs.Entity.{Entity, pdu_of, renewed}
use Rattle.node_rules.specs.Sending.{Pdu, pdu_at, send_counts, send_kept, send_report}
use Rattle.node_rules.specs.Setup.{Setup, node_of}
use Rattle.node_rules.specs.TerminalHalf.{TerminalHalf, leg_send, submit_as, terminal_recover, terminal_renew, terminal_report, terminal_submit}
use Rattle.node_rules.specs.declared.bearers.OnLeg.{OnLeg}
use Rattle.run_legs.specs.Entities.{IsOfKept}
use Rattle.run_legs.specs.Puts.{IsAmong}
use Rattle.run_legs.proofs.Entities.{counts_are_kept, counts_sent}
use Rattle.run_receivers.specs.Lanes.{IsLane}
use Rattle.run_receivers.specs.Pdus.{CarriesPdu, Ciphering, IsFrom, IsPdu, IsPduFrom, IsWriter}
use Rattle.run_receivers.specs.Receiving.{IsReceiving}
use Rattle.run_receivers.specs.Reports.{IsReportOf}
use Rattle.run_receivers.specs.Submitted.{IsSubmission, Submitted, with_more}
use Rattle.run_receivers.proofs.Ciphering.{pdu_sent}
use Rattle.run_receivers.proofs.Lanes.{lane_submitted}
use Rattle.run_receivers.proofs.Reporting.{IsReportOnLeg, reports_sent}

-- ---- lists

-- an SDU that is found is kept
found_kept : (P : Entry → Type 0) (es : List Entry) (count : ℕ) (p : List ℕ) → AllByRecursion P es → sdu_at es count ≡ Some p → P (count, p)
found_kept P [] count p all at = absurd (let bad : None ≡ Some p = at in cc)
found_kept P (e ∷ es) count p all at =
    elim (cases_Bool (e.0 == count)) [
      | inl here ↦ let same = one e.1 (rw here at at) in subst (λ n. P (n, p)) (eqb-true e.0 count here) (subst (λ y. P (e.0, y)) same all.0)
      | inr there ↦ found_kept P es count p all.1 (rw there at at)
    ]
  where
    one : (x : List ℕ) → Some x ≡ Some p → x ≡ p
    one x is = cc

rises_above : (from next : ℕ) (es : List Entry) → Rises from next es → AllByRecursion (λ e. from ≤ e.0) es
rises_above from next [] up = tt
rises_above from next (e ∷ es) up =
    (up.0, each_weaker (λ x. e.0 + 1 ≤ x.0) (λ x. from ≤ x.0) (λ x le. omega (arith, le, up.0)) es (rises_above (e.0 + 1) next es up.1))

among_each : {X : Type 0} (P : X → Type 0) (xs : List X) (x : X) → AllByRecursion P xs → IsAmong xs x → P x
among_each P [] x all there = absurd there
among_each P (y ∷ ys) x all (inl is) = subst P (sym is) all.0
among_each P (y ∷ ys) x all (inr more) = among_each P ys x all.1 more

each_flat : {X Y : Type 0} (P : Y → Type 0) (f : X → List Y) (xs : List X) → AllByRecursion (λ x. AllByRecursion P (f x)) xs → AllByRecursion P (flat_map f xs)
each_flat P f [] all = tt
each_flat P f (x ∷ xs) all = each_append P (f x) (flat_map f xs) all.0 (each_flat P f xs all.1)

-- ---- what an entity puts on its legs

-- a PDU of the lane on a leg
abbrev pub IsOnLeg : Submitted → Ciphering → ℕ → OnLeg → Type 0
IsOnLeg u k low p = IsPduFrom u k low p.pdu.0 p.pdu.1

module _ (u : Submitted) (k : Ciphering) (e : Entity) (rx : RxParts) (lane : IsLane u e.tx rx) (writer : IsWriter u k e.setup) where
  kept_pdu : (pdu : Pdu) → IsOfKept e pdu → IsPduFrom u k (low e.tx) pdu.0 pdu.1
  kept_pdu pdu of =
      let s = lane.sending in
      let all = each_both (IsSubmission u) (λ x. low e.tx ≤ x.0) e.tx.kept s.kept
      (rises_above (low e.tx) e.tx.next e.tx.kept (Rises-least u.first e.tx.next e.tx.kept s.rises)) in
      let found = found_kept (λ x. IsSubmission u x × (low e.tx ≤ x.0)) e.tx.kept of.count of.sdu all of.kept in
      let whole : IsPduFrom u k (low e.tx) (Some of.count) (pdu_of e.setup (of.count, of.sdu)) =
      record { pdu = pdu_sent u k e.setup of.count of.sdu lane.receiving.payloads writer found.0; from = found.1 } in
      subst (λ (x : Pdu). IsPduFrom u k (low e.tx) x.0 x.1) (sym of.is) whole

  -- the PDUs of COUNTs that are kept
  pub counts_on_legs : (c : Choices) (cs : List ℕ) → AllByRecursion (IsOnLeg u k (low e.tx)) (send_counts c e cs).1
  counts_on_legs c cs =
      let pdus = filter_map (pdu_at e) cs in
      let good = each_weaker (IsOfKept e) (λ (x : Pdu). IsPduFrom u k (low e.tx) x.0 x.1) kept_pdu pdus (counts_are_kept e cs) in
      each_weaker (λ (p : OnLeg). IsAmong pdus p.pdu) (IsOnLeg u k (low e.tx))
      (λ p there. among_each (λ (x : Pdu). IsPduFrom u k (low e.tx) x.0 x.1) pdus p.pdu good there)
      (send_counts c e cs).1 (counts_sent c e cs).legs.those

  -- and of all that is kept
  pub kept_on_legs : (c : Choices) → AllByRecursion (IsOnLeg u k (low e.tx)) (send_kept c e).1
  kept_on_legs c = counts_on_legs c (counts e.tx.kept)

-- a status report of the other direction
pub reports_on_legs : (u other : Submitted) (k : Ciphering) (bound other_low : ℕ) (c : Choices) (e : Entity) → IsReceiving other other_low e.rx
    → AllByRecursion (IsOnLeg u k bound) (send_report c e).1
reports_on_legs u other k bound other_low c e r =
    each_weaker (IsReportOnLeg e.rx u.n) (IsOnLeg u k bound)
    (λ p both. subst (λ (o : Option ℕ). IsPduFrom u k bound o p.pdu.1) (sym both.0)
    (record { pdu = record { content = both.1.content; read = both.1.read; is = none both.1.content both.1.is }; from = tt }))
    (send_report c e).1 (reports_sent other other_low c e u.n r)
  where
    none : (x : Content) → IsReportOf e.rx x → IsPdu u k None x
    none (sdu sn body) is = is
    none (report fmc bits) is = tt

-- ---- the terminal

leg_carries : (u : Submitted) (k : Ciphering) (bound : ℕ) (s : Setup) (p : OnLeg) (o : Option Node) → IsOnLeg u k bound p
    → AllByRecursion (λ (x : Send). CarriesPdu u k bound s.id s.g x.1) (leg_send s p o)
leg_carries u k bound s p None on = tt
leg_carries u k bound s p (Some node) on = ((refl, refl, on), tt)

legs_carry : (u : Submitted) (k : Ciphering) (bound : ℕ) (s : Setup) (ps : List OnLeg) → AllByRecursion (IsOnLeg u k bound) ps
    → AllByRecursion (λ (x : Send). CarriesPdu u k bound s.id s.g x.1) (flat_map (λ p. leg_send s p (node_of s.sec p.cell)) ps)
legs_carry u k bound s ps all =
    each_flat (λ (x : Send). CarriesPdu u k bound s.id s.g x.1) (λ p. leg_send s p (node_of s.sec p.cell)) ps
    (each_weaker (IsOnLeg u k bound) (λ p. AllByRecursion (λ (x : Send). CarriesPdu u k bound s.id s.g x.1) (leg_send s p (node_of s.sec p.cell)))
    (λ p on. leg_carries u k bound s p (node_of s.sec p.cell) on) ps all)

-- a recovery, and a new generation
pub recovery_carries : (u : Submitted) (k : Ciphering) (h : TerminalHalf) (rx : RxParts) (c : Choices) → IsLane u h.tx rx → IsWriter u k h.setup
    → AllByRecursion (λ (x : Send). CarriesPdu u k (low h.tx) h.setup.id h.setup.g x.1) (terminal_recover c h).1
recovery_carries u k h rx c lane writer = legs_carry u k (low h.tx) (send_kept c h).0.setup (send_kept c h).1 (kept_on_legs u k h rx lane writer c)

pub renewal_carries : (u : Submitted) (k : Ciphering) (h : TerminalHalf) (rx : RxParts) (c : Choices) (s : Setup) → IsLane u h.tx rx → IsWriter u k s
    → AllByRecursion (λ (x : Send). CarriesPdu u k (low h.tx) s.id s.g x.1) (terminal_renew c h s).1
renewal_carries u k h rx c s lane writer = recovery_carries u k (renewed h s) rx c lane writer

-- a status report
pub report_carries : (u other : Submitted) (k : Ciphering) (bound other_low : ℕ) (h : TerminalHalf) (c : Choices) → IsReceiving other other_low h.rx
    → AllByRecursion (λ (x : Send). CarriesPdu u k bound h.setup.id h.setup.g x.1) (terminal_report c h).1
report_carries u other k bound other_low h c r =
    legs_carry u k bound (send_report c h).0.setup (send_report c h).1 (reports_on_legs u other k bound other_low c h r)

-- a submission that is taken is the next, and is sent
pub record HasSubmitted (u : Submitted) (k : Ciphering) (rx : RxParts) (p : List ℕ) (h : TerminalHalf) (done : TerminalHalf × Answer × List Send) : Type 0 where
  pub ok : done.1 ≡ answer.Ok
  pub lane : IsLane (with_more u (p ∷ [])) done.0.tx rx
  pub sends : AllByRecursion (λ (x : Send). CarriesPdu (with_more u (p ∷ [])) k (low h.tx) h.setup.id h.setup.g x.1) done.2

-- one that is refused leaves all as it was
pub record IsRefused (h : TerminalHalf) (done : TerminalHalf × Answer × List Send) : Type 0 where
  pub not_ok : done.1 ≡ answer.Ok → ⊥
  pub same : done.0 ≡ h
  pub none : done.2 ≡ []

pub from_lower : (u : Submitted) (k : Ciphering) (low higher : ℕ) (id g : ℕ) (sends : List Send) → low ≤ higher
    → AllByRecursion (λ (x : Send). CarriesPdu u k higher id g x.1) sends
    → AllByRecursion (λ (x : Send). CarriesPdu u k low id g x.1) sends
from_lower u k low higher id g sends le all =
    each_weaker (λ (x : Send). CarriesPdu u k higher id g x.1) (λ (x : Send). CarriesPdu u k low id g x.1) (λ x is. one x.1 is) sends all
  where
    from : (tag : Option ℕ) → IsFrom higher tag → IsFrom low tag
    from (Some tag) above = omega arith
    from None above = tt

    one : (f : Flight) → CarriesPdu u k higher id g f → CarriesPdu u k low id g f
    one (flight.Air i h num tag pdu) is = (is.0, is.1, record { pdu = is.2.pdu; from = from tag is.2.from })
    one (flight.Ack i h num) is = is
    one (flight.Tun tag packet) is = is
    one (flight.Sdu i h p) is = is
    one (flight.End i h) is = is
    one (flight.Told i h count) is = is
    one (flight.Ctl rec) is = is

by_submission : (u : Submitted) (k : Ciphering) (h : TerminalHalf) (rx : RxParts) (c : Choices) (p : List ℕ) (r : Result (Sender × ℕ) TxErr)
    → take_sdu h.tx p ≡ r → IsLane u h.tx rx → IsPayload p → IsWriter u k h.setup
    → HasSubmitted u k rx p h (submit_as c h r) ⊎ IsRefused h (submit_as c h r)
by_submission u k h rx c p (Ok x) is lane good writer =
    let next = lane_submitted u h.tx x.0 rx p x.1 lane good is in
    let e : Entity = record h { tx = x.0 } in
    let on = counts_on_legs (with_more u (p ∷ [])) k e rx next.1 (record { same_n = writer.same_n; same_key = writer.same_key }) c (x.1 ∷ []) in
    let carried = legs_carry (with_more u (p ∷ [])) k (low x.0) (send_counts c e (x.1 ∷ [])).0.setup (send_counts c e (x.1 ∷ [])).1 on in
    inl (record {
      ok = refl;
      lane = next.1;
      sends = from_lower (with_more u (p ∷ [])) k (low h.tx) (low x.0) h.setup.id h.setup.g _
          (low-take_sdu h.tx x.0 p x.1 is) carried;
    })
by_submission u k h rx c p (Err (unable.Full lowest next)) is lane good writer = inr (record { not_ok = λ ok. cc; same = refl; none = refl })
by_submission u k h rx c p (Err unable.Exhausted) is lane good writer = inr (record { not_ok = λ ok. cc; same = refl; none = refl })
by_submission u k h rx c p (Err unable.Memory) is lane good writer = inr (record { not_ok = λ ok. cc; same = refl; none = refl })

-- a submission in uplink
pub submission_carries : (u : Submitted) (k : Ciphering) (h : TerminalHalf) (rx : RxParts) (c : Choices) (p : List ℕ) → IsLane u h.tx rx → IsPayload p
    → IsWriter u k h.setup
    → HasSubmitted u k rx p h (terminal_submit c h p) ⊎ IsRefused h (terminal_submit c h p)
submission_carries u k h rx c p lane good writer = by_submission u k h rx c p (take_sdu h.tx p) refl lane good writer
