-- Each data PDU that the terminal sends protects the submission of its tag.
use Rattle.std.proofs.Common.{ℕ, ◌≡◌, ◌+◌, ◌-◌, ◌==◌, ◌&&◌, ◌^◌, Bool, true, false, List, [], ◌∷◌, Option, Some, None, slice_get, refl, sym, ap, subst, ◌∙◌, inl, inr}
use Rattle.std.specs.Prelude.{if◌then◌else◌, nat_le, nat_lt, not, ⊤}
use Rattle.std.specs.List.{AllByRecursion, list_any}
use Rattle.std.proofs.lemmas.Bool.{cases_Bool}
use Rattle.dc_base.specs.Count.{window}
use Rattle.dc_base.specs.Links.{is_ordered, is_tunnel, link}
use Rattle.dc_base.specs.declared.answers.Answer.{Answer}
use Rattle.dc_base.specs.declared.answers.Answer.TheVariants as answer
use Rattle.dc_base.specs.declared.answers.Refusal.TheVariants as refusal
use Rattle.dc_base.specs.declared.events.Event.{Event}
use Rattle.dc_base.specs.declared.events.Event.TheVariants as event
use Rattle.dc_base.specs.declared.events.Header.{Header}
use Rattle.dc_base.specs.declared.flights.Flight.{Flight}
use Rattle.dc_base.specs.declared.flights.Flight.TheVariants as flight
use Rattle.dc_base.specs.declared.nodes.Class.TheVariants.{Ctl}
use Rattle.dc_base.specs.declared.nodes.Dir.TheVariants.{Dl, Ul}
use Rattle.dc_base.specs.declared.nodes.LinkId.{LinkId}
use Rattle.dc_base.specs.declared.nodes.Node.{Node}
use Rattle.dc_base.specs.declared.nodes.Node.TheVariants.{A, B, M, T}
use Rattle.dc_base.specs.declared.records.Plan.{Plan}
use Rattle.dc_base.specs.declared.records.Rec.TheVariants as rec
use Rattle.claims.specs.Claim.{EachLine}
use Rattle.claims.specs.Judged.{judged}
use Rattle.claims.specs.Noted.{past}
use Rattle.claims.specs.Past.{Past, new_past}
use Rattle.claims.specs.Protected.{is_protected}
use Rattle.pdcp_tx.specs.Sender.{low}
use Rattle.node_rules.specs.Choices.{Choices}
use Rattle.node_rules.specs.Effects.{accepted, quiet}
use Rattle.node_rules.specs.Flights.{weight}
use Rattle.node_rules.specs.Held.{held}
use Rattle.node_rules.specs.Lines.{lines_of}
use Rattle.node_rules.specs.Readers.{is_aged_for}
use Rattle.node_rules.specs.Run.{Happening, copy_of, entries_from, given_to, happening, loss_of, node_at, on_links, refused_for, step_of, world_after}
use Rattle.node_rules.specs.Sending.{send_counts}
use Rattle.node_rules.specs.Terminal.{TerminalNode, is_takable, plan_taken, reported_there, scg_fails, submitted_there, terminal_step, terminal_takes, with_half}
use Rattle.node_rules.specs.TerminalHalf.{TerminalHalf}
use Rattle.node_rules.specs.World.{World, flights_on, new_world}
use Rattle.node_rules.specs.declared.inputs.Effects.{Effects}
use Rattle.node_rules.specs.declared.inputs.Input.TheVariants.{Come}
use Rattle.node_rules.specs.declared.inputs.Outcome.{Outcome}
use Rattle.master_runs.proofs.Holding.{held-same}
use Rattle.run_control.specs.Sound.{AddsSecond}
use Rattle.run_table.specs.View.{view}
use Rattle.run_table.specs.Words.{orders}
use Rattle.run_uplinks.specs.Readings.{IsGood, reading}
use Rattle.run_uplinks.specs.Seen.{one_more, seen}
use Rattle.run_uplinks.proofs.Changing.{with_latest}
use Rattle.run_uplinks.proofs.Events.{before, given_is, order_is, zero_is}
use Rattle.run_uplinks.proofs.Given.{does_flight}
use Rattle.run_uplinks.proofs.Held.{Holds, taken_next}
use Rattle.run_uplinks.proofs.Lines.{IsOfTerminal}
use Rattle.run_uplinks.proofs.Plans.{plan_up}
use Rattle.run_uplinks.proofs.Protecting.{report_good, sends_good}
use Rattle.run_uplinks.proofs.ReadStays.{flight_reads, lines_protected}
use Rattle.run_uplinks.proofs.Runs.{holds_new, holds_on}
use Rattle.run_uplinks.proofs.Seeing.{judged_seen}
use Rattle.run_uplinks.proofs.Standing.{IsDrawnOrder}
use Rattle.run_uplinks.proofs.Terminals.{accepted_up, present_at, seen_after, taking}
use Rattle.run_uplinks.proofs.TerminalNotes.{plan_notes}

-- each line of an outcome protects, with the past up to it
abbrev pub Protects : Past → Event → Outcome → Type 0
Protects p e o = EachLine is_protected (judged e o.answer p) (lines_of o)

-- if it is one of the terminal
abbrev pub ProtectsIf : Choices → World → Past → Event → Happening → Type 0
ProtectsIf c w p e (given_to T i) = Protects p e (terminal_step c w.terminal i).1
ProtectsIf c w p e (given_to M i) = ⊤
ProtectsIf c w p e (given_to A i) = ⊤
ProtectsIf c w p e (given_to B i) = ⊤
ProtectsIf c w p e (refused_for why) = ⊤
ProtectsIf c w p e (on_links effects) = ⊤

module _ (c : Choices) (w : World) (p : Past) (h : Holds p w) where
  by_sends : (k : ℕ) (e : Event) (o : Outcome) → AllByRecursion (IsOfTerminal k) o.notes → AllByRecursion (IsGood (reading (before c w p h e o.answer))) o.sends → Protects p e o
  by_sends k e o notes good = lines_protected k o (judged e o.answer p) (reading (before c w p h e o.answer)) (ap reading (judged_seen e o.answer p)) notes good

  -- ---- its events

  submission_good : (id : ℕ) (payload : List ℕ) (o : Option TerminalHalf) → held id w.terminal.halves ≡ o
      → let done = submitted_there c w.terminal id payload o in AllByRecursion (IsGood (reading (seen_after c (seen p) w.terminal h.up id payload done.1.answer))) done.1.sends
  submission_good id payload None at = tt
  submission_good id payload (Some x) at =
      let u = present_at c (seen p) w.terminal h.up id x at in
      elim (cases_Bool (nat_le (low x.tx + window x.tx.n) x.tx.next)) [
        | inl full ↦ rw full tt
        | inr room ↦ elim (cases_Bool (x.tx.next == 2 ^ 32 - 1)) [
          | inl spent ↦ rw (room, spent) tt
          | inr left ↦
              let y = taking c (seen p) w.terminal h.up x payload in
              let after = (send_counts c y (x.tx.next ∷ [])).0 in
              rw (room, left)
              (sends_good c (with_latest id (one_more payload) (seen p)) (with_half w.terminal id (Some after)) (accepted_up c (seen p) w.terminal h.up id payload x u.0 u.1 u.2 room) id y (x.tx.next ∷ [])
              (held-same id after w.terminal.halves))
        ]
      ]

  submission_protects : (id : ℕ) (payload : List ℕ) (o : Option TerminalHalf) → held id w.terminal.halves ≡ o → Protects p (event.Submit id Ul payload) (submitted_there c w.terminal id payload o).1
  submission_protects id payload o at =
      let done = submitted_there c w.terminal id payload o in
      by_sends 4 (event.Submit id Ul payload) done.1 (notes o) (subst (λ s. AllByRecursion (IsGood (reading s)) done.1.sends) (same done.1.answer) (submission_good id payload o at))
    where
      notes : (o : Option TerminalHalf) → AllByRecursion (IsOfTerminal 4) (submitted_there c w.terminal id payload o).1.notes
      notes None = tt
      notes (Some x) = tt

      same : (a : Answer) → seen_after c (seen p) w.terminal h.up id payload a ≡ before c w p h (event.Submit id Ul payload) a
      same answer.Ok = refl
      same (answer.No why) = refl

  report_protects : (id : ℕ) (o : Option TerminalHalf) → Protects p (event.Report T id) (reported_there c w.terminal id o).1
  report_protects id None = by_sends 4 (event.Report T id) (reported_there c w.terminal id None).1 tt tt
  report_protects id (Some x) = by_sends 4 (event.Report T id) (reported_there c w.terminal id (Some x)).1 tt (report_good c (seen p) w.terminal h.up id x)

  failure_protects : (o : Option Node) → Protects p event.ScgFail (scg_fails w.terminal o).1
  failure_protects None = by_sends 4 event.ScgFail (scg_fails w.terminal None).1 tt tt
  failure_protects (Some x) = by_sends 4 event.ScgFail (scg_fails w.terminal (Some x)).1 tt (λ q same. refl, tt)

  idle_protects : (e : Event) → Protects p e (accepted (w.terminal, quiet)).1
  idle_protects e = by_sends 4 e (accepted (w.terminal, quiet)).1 tt tt

  -- ---- a flight is given

  given_protects : (l : LinkId) (i : ℕ) (f : Flight) → slice_get (flights_on l w.links) i ≡ Some f → (k : ℕ) (done : TerminalNode × Effects) → AllByRecursion (IsOfTerminal k) done.1.notes
      → AllByRecursion (IsGood (reading (seen p))) done.1.sends → Protects p (event.Step l i) (accepted done).1
  given_protects l i f at k done notes good =
      let same = ap reading (given_is c w p h l i f at) ∙ flight_reads f (seen p) in
      by_sends k (event.Step l i) (accepted done).1 notes (subst (λ r. AllByRecursion (IsGood r) done.1.sends) (sym same) good)

  no_plan_protects : (l : LinkId) (i : ℕ) (f : Flight) → slice_get (flights_on l w.links) i ≡ Some f → orders f ≡ false → Protects p (event.Step l i) (terminal_step c w.terminal (Come l f)).1
  no_plan_protects l i f at no' =
      let does = does_flight c (seen p) w.terminal h.up l.from f l.class no' in given_protects l i f at 4 (terminal_takes c w.terminal l.from f l.class) does.notes does.good

  plan_protects : (q : Plan) (key : List ℕ) → slice_get (flights_on (link M T Ctl) w.links) 0 ≡ Some (flight.Ctl (rec.Reconf q key)) → IsDrawnOrder (view p) (Some (q, key))
      → Protects p (event.Step (link M T Ctl) 0) (terminal_step c w.terminal (Come (link M T Ctl) (flight.Ctl (rec.Reconf q key)))).1
  plan_protects q key at drawn =
      let x = taken_next p w q key h drawn.0 drawn.1 at in
      let takes = not (list_any (λ i. not (is_takable w.terminal i)) q.items) in
      given_protects (link M T Ctl) 0 (flight.Ctl (rec.Reconf q key)) at 2 (plan_taken c key q w.terminal takes) (plan_notes c key q w.terminal takes)
      (plan_up c key q x.qs (seen p) w.terminal h.up x.last takes refl x.takes).good

  order_protects : (l : LinkId) (i : ℕ) (q : Plan) (key : List ℕ) → slice_get (flights_on l w.links) i ≡ Some (flight.Ctl (rec.Reconf q key)) → (is_ordered l.class && nat_lt 0 i) ≡ false
      → Protects p (event.Step l i) (terminal_step c w.terminal (Come l (flight.Ctl (rec.Reconf q key)))).1
  order_protects l i q key at first =
      let f = flight.Ctl (rec.Reconf q key) in
      let x = order_is c w p h l i f at refl in
      let front : i ≡ 0 = zero_is i (ap (λ (k : LinkId). is_ordered k.class && nat_lt 0 i) (sym x.0) ∙ first) in
      subst (λ j. Protects p (event.Step l j) (terminal_step c w.terminal (Come l f)).1) (sym front)
      (subst (λ k. Protects p (event.Step k 0) (terminal_step c w.terminal (Come k f)).1) (sym x.0)
      (plan_protects q key (subst (λ k. slice_get (flights_on k w.links) 0 ≡ Some f) x.0 (subst (λ j. slice_get (flights_on l w.links) j ≡ Some f) front at)) x.1))

  flight_protects : (l : LinkId) (i : ℕ) (f : Flight) → slice_get (flights_on l w.links) i ≡ Some f → (is_ordered l.class && nat_lt 0 i) ≡ false → Protects p (event.Step l i) (terminal_step c w.terminal (Come l f)).1
  flight_protects l i (flight.Ctl (rec.Reconf q key)) at first = order_protects l i q key at first
  flight_protects l i (flight.Ctl (rec.Rcomp g)) at first = no_plan_protects l i (flight.Ctl (rec.Rcomp g)) at refl
  flight_protects l i (flight.Ctl (rec.Scgf failed)) at first = no_plan_protects l i (flight.Ctl (rec.Scgf failed)) at refl
  flight_protects l i (flight.Ctl (rec.Recov id)) at first = no_plan_protects l i (flight.Ctl (rec.Recov id)) at refl
  flight_protects l i (flight.Ctl (rec.Recovd id)) at first = no_plan_protects l i (flight.Ctl (rec.Recovd id)) at refl
  flight_protects l i (flight.Ctl (rec.Addreq plan key)) at first = no_plan_protects l i (flight.Ctl (rec.Addreq plan key)) at refl
  flight_protects l i (flight.Ctl (rec.Addack g)) at first = no_plan_protects l i (flight.Ctl (rec.Addack g)) at refl
  flight_protects l i (flight.Ctl (rec.Addrej g)) at first = no_plan_protects l i (flight.Ctl (rec.Addrej g)) at refl
  flight_protects l i (flight.Ctl (rec.Modreq plan key)) at first = no_plan_protects l i (flight.Ctl (rec.Modreq plan key)) at refl
  flight_protects l i (flight.Ctl (rec.Modack g)) at first = no_plan_protects l i (flight.Ctl (rec.Modack g)) at refl
  flight_protects l i (flight.Ctl (rec.Modrej g)) at first = no_plan_protects l i (flight.Ctl (rec.Modrej g)) at refl
  flight_protects l i (flight.Ctl (rec.Recfg g)) at first = no_plan_protects l i (flight.Ctl (rec.Recfg g)) at refl
  flight_protects l i (flight.Ctl (rec.Relreq plan)) at first = no_plan_protects l i (flight.Ctl (rec.Relreq plan)) at refl
  flight_protects l i (flight.Ctl (rec.Relack g)) at first = no_plan_protects l i (flight.Ctl (rec.Relack g)) at refl
  flight_protects l i (flight.Ctl (rec.Relrej g)) at first = no_plan_protects l i (flight.Ctl (rec.Relrej g)) at refl
  flight_protects l i (flight.Ctl (rec.Uecr g)) at first = no_plan_protects l i (flight.Ctl (rec.Uecr g)) at refl
  flight_protects l i (flight.Ctl (rec.Snst status)) at first = no_plan_protects l i (flight.Ctl (rec.Snst status)) at refl
  flight_protects l i (flight.Ctl (rec.Moved g id)) at first = no_plan_protects l i (flight.Ctl (rec.Moved g id)) at refl
  flight_protects l i (flight.Ctl (rec.Scgn id g)) at first = no_plan_protects l i (flight.Ctl (rec.Scgn id g)) at refl
  flight_protects l i (flight.Ctl rec.Modrqd) at first = no_plan_protects l i (flight.Ctl rec.Modrqd) at refl
  flight_protects l i (flight.Ctl (rec.Modcnf g)) at first = no_plan_protects l i (flight.Ctl (rec.Modcnf g)) at refl
  flight_protects l i (flight.Ctl (rec.Modref word)) at first = no_plan_protects l i (flight.Ctl (rec.Modref word)) at refl
  flight_protects l i (flight.Ctl rec.Chgrqd) at first = no_plan_protects l i (flight.Ctl rec.Chgrqd) at refl
  flight_protects l i (flight.Ctl (rec.Chgcnf plan)) at first = no_plan_protects l i (flight.Ctl (rec.Chgcnf plan)) at refl
  flight_protects l i (flight.Ctl (rec.Chgref word)) at first = no_plan_protects l i (flight.Ctl (rec.Chgref word)) at refl
  flight_protects l i (flight.Ctl rec.Relrqd) at first = no_plan_protects l i (flight.Ctl rec.Relrqd) at refl
  flight_protects l i (flight.Ctl (rec.Relcnf plan)) at first = no_plan_protects l i (flight.Ctl (rec.Relcnf plan)) at refl
  flight_protects l i (flight.Air id g num tag pdu) at first = no_plan_protects l i (flight.Air id g num tag pdu) at refl
  flight_protects l i (flight.Ack id g num) at first = no_plan_protects l i (flight.Ack id g num) at refl
  flight_protects l i (flight.Tun tag packet) at first = no_plan_protects l i (flight.Tun tag packet) at refl
  flight_protects l i (flight.Sdu id g payload) at first = no_plan_protects l i (flight.Sdu id g payload) at refl
  flight_protects l i (flight.End id g) at first = no_plan_protects l i (flight.End id g) at refl
  flight_protects l i (flight.Told id g count) at first = no_plan_protects l i (flight.Told id g count) at refl

  to_node : (l : LinkId) (i : ℕ) (f : Flight) → slice_get (flights_on l w.links) i ≡ Some f → (is_ordered l.class && nat_lt 0 i) ≡ false → (x : Node) → ProtectsIf c w p (event.Step l i) (given_to x (Come l f))
  to_node l i f at first T = flight_protects l i f at first
  to_node l i f at first M = tt
  to_node l i f at first A = tt
  to_node l i f at first B = tt

  step_protects : (l : LinkId) (i : ℕ) (o : Option Flight) → slice_get (flights_on l w.links) i ≡ o → ProtectsIf c w p (event.Step l i) (step_of w l i o)
  step_protects l i None at = tt
  step_protects l i (Some f) at =
      elim (cases_Bool (is_ordered l.class && nat_lt 0 i)) [
        | inl behind ↦ rw behind tt
        | inr first ↦ elim (cases_Bool (is_aged_for (node_at w l.to) (weight f))) [
          | inl aged ↦ rw (first, aged) tt
          | inr fresh ↦ rw (first, fresh) (to_node l i f at first l.to)
        ]
      ]

  loss_protects : (e : Event) (in_it : Bool) (o : Option Flight) → ProtectsIf c w p e (if in_it then loss_of o else refused_for refusal.NotTunnel)
  loss_protects e false o = tt
  loss_protects e true None = tt
  loss_protects e true (Some f) = tt

  copy_protects : (e : Event) (l : LinkId) (in_it : Bool) (o : Option Flight) → ProtectsIf c w p e (if in_it then copy_of l o else refused_for refusal.NotTunnel)
  copy_protects e l false o = tt
  copy_protects e l true None = tt
  copy_protects e l true (Some f) = tt

  -- any event
  pub event_protects : (e : Event) → ProtectsIf c w p e (happening w e)
  event_protects (event.Submit id Ul payload) = submission_protects id payload (held id w.terminal.halves) refl
  event_protects (event.Submit id Dl payload) = tt
  event_protects (event.Report T id) = report_protects id (held id w.terminal.halves)
  event_protects (event.Report M id) = tt
  event_protects (event.Report A id) = tt
  event_protects (event.Report B id) = tt
  event_protects (event.Deny T on) = idle_protects (event.Deny T on)
  event_protects (event.Deny M on) = tt
  event_protects (event.Deny A on) = tt
  event_protects (event.Deny B on) = tt
  event_protects (event.Ask T what) = idle_protects (event.Ask T what)
  event_protects (event.Ask M what) = tt
  event_protects (event.Ask A what) = tt
  event_protects (event.Ask B what) = tt
  event_protects event.ScgFail = failure_protects w.terminal.sec
  event_protects (event.Step l i) = step_protects l i (slice_get (flights_on l w.links) i) refl
  event_protects (event.Lose l i) = loss_protects (event.Lose l i) (is_tunnel l.class) (slice_get (flights_on l w.links) i)
  event_protects (event.Again l i) = copy_protects (event.Again l i) l (is_tunnel l.class) (slice_get (flights_on l w.links) i)
  event_protects (event.Bearer id n first shape threshold policy) = tt
  event_protects (event.Reshape id shape) = tt
  event_protects (event.Remove id) = tt
  event_protects (event.Add x) = tt
  event_protects event.Change = tt
  event_protects event.Release = tt
  event_protects event.RekeySecond = tt
  event_protects (event.RekeyMaster root) = tt
  event_protects (event.Recover id) = tt

-- at any moment of a run, whatever event the terminal takes next: each data PDU that it sends protects the submission of its tag,
-- under the key of the plan of its generation
pub uplinks_protected : (c : Choices) (h : Header) (policies : ℕ) (es : List Event) → AllByRecursion AddsSecond es → (e : Event)
    → (let w = world_after c (new_world h) es in ProtectsIf c w (past h policies (entries_from c (new_world h) es)) e (happening w e))
uplinks_protected c h policies es names e =
    event_protects c (world_after c (new_world h) es) (past h policies (entries_from c (new_world h) es)) (holds_on c es names (new_world h) (new_past h policies) (holds_new c h policies)) e
