-- What an entity of the terminal sends has a COUNT from Low to the next one.
use Rattle.std.proofs.Common.{ℕ, ◌≡◌, ◌+◌, ◌<◌, ◌≤◌, ◌==◌, Bool, true, false, List, [], ◌∷◌, Option, Some, None, refl, sym, ◌∙◌, inl, inr, arith}
use Rattle.std.specs.Prelude.{is_some}
use Rattle.std.specs.List.{AllByRecursion, filter_map, flat_map}
use Rattle.std.proofs.lemmas.Bool.{cases_Bool, eqb-true}
use Rattle.transcript.proofs.OnEach.{each_append}
use Rattle.dc_base.specs.declared.nodes.Node.{Node}
use Rattle.pdcp_pdu.specs.DataPdu.{is_data}
use Rattle.pdcp_pdu.specs.StatusReport.{report_pdu}
use Rattle.pdcp_rx.specs.Entries.{counts_of}
use Rattle.pdcp_tx.specs.Sender.{Entry, Rises, sdu_at}
use Rattle.pdcp_tx.proofs.Entries.{Rises-bounds}
use Rattle.split_leg.specs.Legs.{LegsState, is_repeat, with_send}
use Rattle.split_leg.specs.Routes.{route_of}
use Rattle.split_leg.specs.declared.legs.Route.{Route}
use Rattle.split_leg.specs.declared.legs.Route.TheVariants as route
use Rattle.node_rules.specs.Choices.{Choices, Send}
use Rattle.node_rules.specs.Sending as sending
use Rattle.node_rules.specs.Sending.{pdu_at, put_by, send_counts, send_each, send_one, send_report}
use Rattle.node_rules.specs.Setup.{Setup, node_of}
use Rattle.node_rules.specs.Terminal.{TerminalNode}
use Rattle.node_rules.specs.TerminalHalf.{TerminalHalf, leg_send, with_sends}
use Rattle.node_rules.specs.declared.bearers.OnLeg.{OnLeg}
use Rattle.run_relays.specs.Ages.{AreTimely, IsOfWindow, IsTimely}

-- what is found among entries that rise is between their bounds
pub found_between : (from next : ℕ) (es : List Entry) (count : ℕ) (sdu : List ℕ) → Rises from next es → sdu_at es count ≡ Some sdu → (from ≤ count) × (count < next)
found_between from next [] count sdu up at = absurd (let bad : None ≡ Some sdu = at in cc)
found_between from next (e ∷ es) count sdu up at =
    elim (cases_Bool (e.0 == count)) [
      | inl here ↦
          let same : e.0 ≡ count = eqb-true e.0 count here in
          let rest = Rises-bounds (e.0 + 1) next es up.1 in
          (omega (arith, same, up.0), omega (arith, same, rest.0, rest.1))
      | inr there ↦
          let rest = found_between (e.0 + 1) next es count sdu up.1 (rw there at at) in
          (omega (arith, up.0, rest.0), rest.1)
    ]

-- a status report is no data PDU
no_data : (fmc : ℕ) (bits : List ℕ) → is_data (report_pdu fmc bits) ≡ false
unfolding report_pdu
no_data fmc bits = refl

-- each PDU of these is put on legs
module _ (P : sending.Pdu → Type 0) where
  abbrev OfLeg : OnLeg → Type 0
  OfLeg o = P o.pdu

  by_route : (r : Route) (repeat : Bool) (x : sending.Pdu) (legs : LegsState) → P x → AllByRecursion OfLeg (put_by r repeat x legs).1
  by_route route.None repeat x legs is = tt
  by_route (route.One cell) repeat x legs is = (is, tt)
  by_route route.Both repeat x legs is = (is, (is, tt))

  each_put : (c : Choices) (pdus : List sending.Pdu) (legs : LegsState) → AllByRecursion P pdus → AllByRecursion OfLeg (send_each c pdus legs).1
  each_put c [] legs all = tt
  each_put c (x ∷ pdus) legs all =
      let here = send_one c x legs in
      each_append OfLeg here.1 (send_each c pdus here.0).1 (by_route (route_of legs c.policies (is_some x.0)) (is_repeat (with_send legs) x.0) x (with_send legs) all.0) (each_put c pdus here.0 all.1)

module _ (t : TerminalNode) where
  abbrev OfPdu : ℕ → sending.Pdu → Type 0
  OfPdu id x = is_data x.1 ≡ true → IsOfWindow t id x.0

  leg_timely : (s : Setup) (o : OnLeg) (node : Option Node) → OfPdu s.id o.pdu → AreTimely t (leg_send s o node)
  leg_timely s o None x = tt
  leg_timely s o (Some node) x = (x, tt)

  legs_timely : (s : Setup) (os : List OnLeg) → AllByRecursion (λ o. OfPdu s.id o.pdu) os → AreTimely t (flat_map (λ o. leg_send s o (node_of s.sec o.cell)) os)
  legs_timely s [] all = tt
  legs_timely s (o ∷ os) all =
      each_append (λ (x : Send). IsTimely t x.1) (leg_send s o (node_of s.sec o.cell)) (flat_map (λ o. leg_send s o (node_of s.sec o.cell)) os)
      (leg_timely s o (node_of s.sec o.cell) all.0) (legs_timely s os all.1)

  -- each COUNT that is found kept is one of the window
  abbrev pub Found : TerminalHalf → Type 0
  Found h = (count : ℕ) (sdu : List ℕ) → sdu_at h.tx.kept count ≡ Some sdu → IsOfWindow t h.setup.id (Some count)

  data_timely : (h : TerminalHalf) → Found h → (cs : List ℕ) → AllByRecursion (OfPdu h.setup.id) (filter_map (pdu_at h) cs)
  data_timely h found [] = tt
  data_timely h found (count ∷ cs) = by (sdu_at h.tx.kept count) refl (data_timely h found cs)
    where
      by : (o : Option (List ℕ)) → sdu_at h.tx.kept count ≡ o → AllByRecursion (OfPdu h.setup.id) (filter_map (pdu_at h) cs) → AllByRecursion (OfPdu h.setup.id) (filter_map (pdu_at h) (count ∷ cs))
      by None none more = rw none more
      by (Some sdu) some more = let now = found count sdu some in rw some ((λ data'. now), more)

  -- what is sent of these COUNTs
  pub counts_timely : (c : Choices) (h : TerminalHalf) → Found h → (cs : List ℕ) → AreTimely t (with_sends (send_counts c h cs)).1
  counts_timely c h found cs =
      let done = send_counts c h cs in
      legs_timely done.0.setup done.1 (each_put (OfPdu h.setup.id) c (filter_map (pdu_at h) cs) h.setup.legs (data_timely h found cs))

  -- a report
  pub report_timely : (c : Choices) (h : TerminalHalf) → AreTimely t (with_sends (send_report c h)).1
  report_timely c h =
      let done = send_report c h in
      let none : OfPdu h.setup.id (None, report_pdu h.rx.deliv (counts_of h.rx.stored)) = λ data'. absurd (let no' = no_data h.rx.deliv (counts_of h.rx.stored) in let bad : true ≡ false = sym data' ∙ no' in cc) in
      legs_timely done.0.setup done.1 (each_put (OfPdu h.setup.id) c ((None, report_pdu h.rx.deliv (counts_of h.rx.stored)) ∷ []) h.setup.legs (none, tt))
