-- What is so of identity and generation of each bearer at the terminal, and of all that the plans set that it takes, is so of all that it
-- sends.
use Rattle.std.proofs.Common.{ℕ, Bool, true, false, List, [], ◌∷◌, Option, Some, None, sym, subst}
use Rattle.std.specs.Prelude.{Err, Ok, Result, flat_map, if◌then◌else◌, map, not, ⊤}
use Rattle.std.specs.List.{AllByRecursion, list_any}
use Rattle.dc_base.specs.declared.events.Event.{Event}
use Rattle.dc_base.specs.declared.events.Event.TheVariants as event
use Rattle.dc_base.specs.declared.flights.Flight.{Flight}
use Rattle.dc_base.specs.declared.flights.Flight.TheVariants as flight
use Rattle.dc_base.specs.declared.nodes.Cell.TheVariants.{Scg}
use Rattle.dc_base.specs.declared.nodes.Class.{Class}
use Rattle.dc_base.specs.declared.nodes.Class.TheVariants.{Air, Ctl, Feed, Tun}
use Rattle.dc_base.specs.declared.nodes.Node.{Node}
use Rattle.dc_base.specs.declared.records.Item.{Item}
use Rattle.dc_base.specs.declared.records.Item.TheVariants as item
use Rattle.dc_base.specs.declared.records.Plan.{Plan}
use Rattle.dc_base.specs.declared.records.Rec.{Rec}
use Rattle.dc_base.specs.declared.records.Rec.TheVariants as rec
use Rattle.pdcp_pdu.specs.Pdu.{Content, decoded}
use Rattle.pdcp_pdu.specs.declared.pdu.PduErr.{PduErr}
use Rattle.pdcp_tx.specs.Sender.{Sender}
use Rattle.pdcp_tx.specs.Sending.{take_sdu}
use Rattle.pdcp_tx.specs.declared.tx.TxErr.{TxErr}
use Rattle.pdcp_tx.specs.declared.tx.TxErr.TheVariants as unable
use Rattle.transcript.proofs.OnEach.{each_append}
use Rattle.node_rules.specs.Choices.{Choices, Send}
use Rattle.node_rules.specs.Effects.{in_turn}
use Rattle.node_rules.specs.Entity.{Entity}
use Rattle.node_rules.specs.Flights.{Named, flight_named}
use Rattle.node_rules.specs.Held.{held, holding}
use Rattle.node_rules.specs.Sending.{send_counts, send_kept, send_report}
use Rattle.node_rules.specs.Setup.{Setup, has_cell, with_failed_scg}
use Rattle.node_rules.specs.Terminal.{TerminalNode, air_taken, air_taken_by, half_set, is_takable, item_taken, plan_taken, recovered_half, reported_there, scg_fails, submitted_there, terminal_event, terminal_record, terminal_step, terminal_takes}
use Rattle.node_rules.specs.TerminalHalf.{TerminalHalf, acked, is_taken, leg_send, pdu_came, silent, submit_as, terminal_air_in, terminal_fail, with_sends}
use Rattle.node_rules.specs.declared.bearers.HalfOut.{HalfOut}
use Rattle.node_rules.specs.declared.bearers.OnLeg.{OnLeg}
use Rattle.node_rules.specs.declared.inputs.Effects.{Effects}
use Rattle.node_rules.specs.declared.inputs.Input.{Input}
use Rattle.node_rules.specs.declared.inputs.Input.TheVariants.{Cmd, Come}
use Rattle.run_control.specs.Views.{Bearer}
use Rattle.run_control.proofs.Arrivals.{pdu_bearer}
use Rattle.claims.specs.Views.{carried_plan}
use Rattle.run_senders.specs.Holders.{IfThere}
use Rattle.run_senders.proofs.Held.{held_so, holding_so}
use Rattle.run_keys.specs.Tables.{OfSome, ordered}
use Rattle.run_keys.specs.Halves.{AreSentOf, HalvesOf, IsHalfOf, IsSentOf, SetsItem, SetsOnly}

module _ (P : ℕ → ℕ → Type 0) where
  -- a step: what the terminal has then, and what it sent, is below
  abbrev pub HalfFares : TerminalNode × Effects → Type 0
  HalfFares done = HalvesOf P done.0 × AreSentOf P done.1.sends

  -- ---- what goes on legs

  leg_below : (s : Setup) (p : OnLeg) (o : Option Node) → P s.id s.g → AreSentOf P (leg_send s p o)
  leg_below s p None le = tt
  leg_below s p (Some node) le = (le, tt)

  flat_below : {X : Type 0} (f : X → List Send) (xs : List X) → ((x : X) → AreSentOf P (f x)) → AreSentOf P (flat_map f xs)
  flat_below f [] good = tt
  flat_below f (x ∷ xs) good = each_append (IsSentOf P) (f x) (flat_map f xs) (good x) (flat_below f xs good)

  entity_below : (done : Entity × List OnLeg) → P done.0.setup.id done.0.setup.g → AreSentOf P (with_sends done).1
  entity_below done le = flat_below _ done.1 (λ p. leg_below done.0.setup p _ le)

  -- ---- events

  with_half_below : (t : TerminalNode) (id : ℕ) (h : TerminalHalf) → IsHalfOf P h → HalvesOf P t → HalvesOf P (record t { halves = holding id (Some h) t.halves })
  with_half_below t id h le is = holding_so (IsHalfOf P) id (Some h) le t.halves is

  submission_below : (c : Choices) (h : TerminalHalf) (r : Result (Sender × ℕ) TxErr) → IsHalfOf P h → IsHalfOf P (submit_as c h r).0 × AreSentOf P (submit_as c h r).2
  submission_below c h (Ok (tx, count)) le = (le, entity_below (send_counts c (record h { tx = tx }) (count ∷ [])) le)
  submission_below c h (Err (unable.Full lowest next)) le = (le, tt)
  submission_below c h (Err unable.Exhausted) le = (le, tt)
  submission_below c h (Err unable.Memory) le = (le, tt)

  submitted_fares : (c : Choices) (t : TerminalNode) (id : ℕ) (payload : List ℕ) (o : Option TerminalHalf) → IfThere (IsHalfOf P) o → HalvesOf P t
      → HalvesOf P (submitted_there c t id payload o).0 × AreSentOf P (submitted_there c t id payload o).1.sends
  submitted_fares c t id payload None le is = (is, tt)
  submitted_fares c t id payload (Some h) le is =
      let done = submission_below c h (take_sdu h.tx payload) le in (with_half_below t id (submit_as c h (take_sdu h.tx payload)).0 done.0 is, done.1)

  reported_fares : (c : Choices) (t : TerminalNode) (id : ℕ) (o : Option TerminalHalf) → IfThere (IsHalfOf P) o → HalvesOf P t
      → HalvesOf P (reported_there c t id o).0 × AreSentOf P (reported_there c t id o).1.sends
  reported_fares c t id None le is = (is, tt)
  reported_fares c t id (Some h) le is = (with_half_below t id (send_report c h).0 le is, entity_below (send_report c h) le)

  failed_below : (h : TerminalHalf) → IsHalfOf P h → IsHalfOf P (terminal_fail h)
  failed_below h le = by (has_cell h.setup Scg)
    where
      by : (t : Bool) → IsHalfOf P (if t then record h { setup = with_failed_scg h.setup } else h)
      by true = le
      by false = le

  all_failed : (xs : List (ℕ × TerminalHalf)) → AllByRecursion (λ (x : ℕ × TerminalHalf). IsHalfOf P x.1) xs → AllByRecursion (λ (x : ℕ × TerminalHalf). IsHalfOf P x.1) (map (λ (x : ℕ × TerminalHalf). (x.0, terminal_fail x.1)) xs)
  all_failed [] all = tt
  all_failed (x ∷ xs) all = (failed_below x.1 all.0, all_failed xs all.1)

  fails_fares : (t : TerminalNode) (o : Option Node) → HalvesOf P t → HalvesOf P (scg_fails t o).0 × AreSentOf P (scg_fails t o).1.sends
  fails_fares t None is = (is, tt)
  fails_fares t (Some sec) is = (all_failed t.halves is, (tt, tt))

  event_fares : (c : Choices) (t : TerminalNode) (e : Event) → HalvesOf P t → HalvesOf P (terminal_event c t e).0 × AreSentOf P (terminal_event c t e).1.sends
  event_fares c t (event.Submit id d payload) is = submitted_fares c t id payload (held id t.halves) (held_so (IsHalfOf P) id t.halves is) is
  event_fares c t (event.Report node id) is = reported_fares c t id (held id t.halves) (held_so (IsHalfOf P) id t.halves is) is
  event_fares c t event.ScgFail is = fails_fares t t.sec is
  event_fares c t (event.Bearer id n first shape threshold policy) is = (is, tt)
  event_fares c t (event.Reshape id shape) is = (is, tt)
  event_fares c t (event.Remove id) is = (is, tt)
  event_fares c t (event.Add node) is = (is, tt)
  event_fares c t event.Change is = (is, tt)
  event_fares c t event.Release is = (is, tt)
  event_fares c t event.RekeySecond is = (is, tt)
  event_fares c t (event.RekeyMaster root) is = (is, tt)
  event_fares c t (event.Recover id) is = (is, tt)
  event_fares c t (event.Deny node on) is = (is, tt)
  event_fares c t (event.Ask node what) is = (is, tt)
  event_fares c t (event.Step l i) is = (is, tt)
  event_fares c t (event.Lose l i) is = (is, tt)
  event_fares c t (event.Again l i) is = (is, tt)

  -- ---- a plan

  set_fares : (c : Choices) (t : TerminalNode) (id : ℕ) (s : Setup) (o : Option TerminalHalf) → P s.id s.g → HalvesOf P t → HalfFares (half_set c t id s o)
  set_fares c t id s None le is = (holding_so (IsHalfOf P) id (Some _) le t.halves is, tt)
  set_fares c t id s (Some h) le is = (holding_so (IsHalfOf P) id (Some _) le t.halves is, entity_below (send_kept c (record h { setup = s })) le)

  item_fares : (c : Choices) (root : List ℕ) (p : Plan) (t : TerminalNode) (i : Item) → SetsItem P p.g i → HalvesOf P t → HalfFares (item_taken c root p t i)
  item_fares c root p t (item.Set id n first shape threshold policy key old) le is = set_fares c t id _ (held id t.halves) le is
  item_fares c root p t (item.Unset id) le is = (holding_so (IsHalfOf P) id None tt t.halves is, tt)

  items_fare : (c : Choices) (root : List ℕ) (p : Plan) (t : TerminalNode) (is : List Item) → AllByRecursion (SetsItem P p.g) is → HalvesOf P t → HalfFares (in_turn (item_taken c root p) t is)
  items_fare c root p t [] le all = (all, tt)
  items_fare c root p t (i ∷ is) le all =
      let here = item_fares c root p t i le.0 all in
      let later = items_fare c root p (item_taken c root p t i).0 is le.1 here.0 in
      (later.0, each_append (IsSentOf P) (item_taken c root p t i).1.sends (in_turn (item_taken c root p) (item_taken c root p t i).0 is).1.sends here.1 later.1)

  plan_fares : (c : Choices) (root : List ℕ) (p : Plan) (t : TerminalNode) (takes : Bool) → SetsOnly P p → HalvesOf P t → HalfFares (plan_taken c root p t takes)
  plan_fares c root p t true le is = let done = items_fare c root p (record t { sec = p.sec }) p.items le is in (done.0, (tt, done.1))
  plan_fares c root p t false le is = (is, tt)

  recovered_fares : (c : Choices) (t : TerminalNode) (id : ℕ) (o : Option TerminalHalf) → IfThere (IsHalfOf P) o → HalvesOf P t → HalfFares (recovered_half c t id o)
  recovered_fares c t id None le is = (is, tt)
  recovered_fares c t id (Some h) le is = (holding_so (IsHalfOf P) id (Some (send_kept c h).0) le t.halves is, (tt, entity_below (send_kept c h) le))

  record_fares : (c : Choices) (t : TerminalNode) (r : Rec) → OfSome (SetsOnly P) (ordered r) → HalvesOf P t → HalfFares (terminal_record c t r)
  record_fares c t (rec.Reconf plan key) plans is = plan_fares c key plan t (not (list_any (λ i. not (is_takable t i)) plan.items)) (plans) is
  record_fares c t (rec.Recov id) plans is = recovered_fares c t id (held id t.halves) (held_so (IsHalfOf P) id t.halves is) is
  record_fares c t (rec.Rcomp g) plans is = (is, tt)
  record_fares c t (rec.Scgf failed) plans is = (is, tt)
  record_fares c t (rec.Recovd id) plans is = (is, tt)
  record_fares c t (rec.Addreq plan key) plans is = (is, tt)
  record_fares c t (rec.Addack g) plans is = (is, tt)
  record_fares c t (rec.Addrej g) plans is = (is, tt)
  record_fares c t (rec.Modreq plan key) plans is = (is, tt)
  record_fares c t (rec.Modack g) plans is = (is, tt)
  record_fares c t (rec.Modrej g) plans is = (is, tt)
  record_fares c t (rec.Recfg g) plans is = (is, tt)
  record_fares c t (rec.Relreq plan) plans is = (is, tt)
  record_fares c t (rec.Relack g) plans is = (is, tt)
  record_fares c t (rec.Relrej g) plans is = (is, tt)
  record_fares c t (rec.Uecr g) plans is = (is, tt)
  record_fares c t (rec.Snst status) plans is = (is, tt)
  record_fares c t (rec.Moved g id) plans is = (is, tt)
  record_fares c t (rec.Scgn id g) plans is = (is, tt)
  record_fares c t rec.Modrqd plans is = (is, tt)
  record_fares c t (rec.Modcnf g) plans is = (is, tt)
  record_fares c t (rec.Modref word) plans is = (is, tt)
  record_fares c t rec.Chgrqd plans is = (is, tt)
  record_fares c t (rec.Chgcnf plan) plans is = (is, tt)
  record_fares c t (rec.Chgref word) plans is = (is, tt)
  record_fares c t rec.Relrqd plans is = (is, tt)
  record_fares c t (rec.Relcnf plan) plans is = (is, tt)

  -- ---- over the air

  abbrev FaresBy : TerminalHalf × HalfOut → Type 0
  FaresBy done = IsHalfOf P done.0 × AreSentOf P done.1.sends

  fares_if : (t : Bool) (x y : TerminalHalf × HalfOut) → FaresBy x → FaresBy y → FaresBy (if t then x else y)
  fares_if true x y is else' = is
  fares_if false x y is else' = else'

  pdu_fares : (h : TerminalHalf) (from : Node) (num : ℕ) (r : Result Content PduErr) → IsHalfOf P h → FaresBy (pdu_came h from num r)
  pdu_fares h from num (Err e) le = (le, tt)
  pdu_fares h from num (Ok x) le = (subst (λ (v : Bearer). P v.id v.g) (sym (pdu_bearer h x)) le, (tt, tt))

  air_fares : (h : TerminalHalf) (from : Node) (f : Flight) → IsHalfOf P h → FaresBy (terminal_air_in h from f)
  air_fares h from (flight.Air id g num tag pdu) le = fares_if (is_taken h.setup from id g) (pdu_came h from num (decoded h.setup.n pdu)) (h, silent) (pdu_fares h from num (decoded h.setup.n pdu) le) (le, tt)
  air_fares h from (flight.Ack id g num) le = fares_if (is_taken h.setup from id g) (acked h _ num, silent) (h, silent) (le, tt) (le, tt)
  air_fares h from (flight.Tun tag packet) le = (le, tt)
  air_fares h from (flight.Sdu id g sdu) le = (le, tt)
  air_fares h from (flight.End id g) le = (le, tt)
  air_fares h from (flight.Told id g count) le = (le, tt)
  air_fares h from (flight.Ctl r) le = (le, tt)

  air_for_fares : (t : TerminalNode) (from : Node) (f : Flight) (id : ℕ) (o : Option TerminalHalf) → IfThere (IsHalfOf P) o → HalvesOf P t → HalfFares (air_taken_by t from f id o)
  air_for_fares t from f id None le is = (is, tt)
  air_for_fares t from f id (Some h) le is = let done = air_fares h from f le in (holding_so (IsHalfOf P) id (Some (terminal_air_in h from f).0) done.0 t.halves is, done.1)

  air_named_fares : (t : TerminalNode) (from : Node) (f : Flight) (o : Option Named) → HalvesOf P t → HalfFares (air_taken t from f o)
  air_named_fares t from f None is = (is, tt)
  air_named_fares t from f (Some (id, g)) is = air_for_fares t from f id (held id t.halves) (held_so (IsHalfOf P) id t.halves is) is

  -- ---- any input

  takes_fares : (c : Choices) (t : TerminalNode) (f : Flight) (k : Class) (from : Node) → OfSome (SetsOnly P) (carried_plan f) → HalvesOf P t → HalfFares (terminal_takes c t from f k)
  takes_fares c t (flight.Ctl r) Ctl from plans is = record_fares c t r plans is
  takes_fares c t (flight.Air id g num tag pdu) Ctl from plans is = (is, tt)
  takes_fares c t (flight.Ack id g num) Ctl from plans is = (is, tt)
  takes_fares c t (flight.Tun tag packet) Ctl from plans is = (is, tt)
  takes_fares c t (flight.Sdu id g payload) Ctl from plans is = (is, tt)
  takes_fares c t (flight.End id g) Ctl from plans is = (is, tt)
  takes_fares c t (flight.Told id g count) Ctl from plans is = (is, tt)
  takes_fares c t f Feed from plans is = (is, tt)
  takes_fares c t f Air from plans is = air_named_fares t from f (flight_named f) is
  takes_fares c t f Tun from plans is = (is, tt)

  -- an input brings only such a plan
  abbrev pub OfInput : Input → Type 0
  OfInput (Cmd e) = ⊤
  OfInput (Come l f) = OfSome (SetsOnly P) (carried_plan f)

  -- whatever the terminal takes
  pub terminal_fares : (c : Choices) (t : TerminalNode) (i : Input) → OfInput i → HalvesOf P t → HalvesOf P (terminal_step c t i).0 × AreSentOf P (terminal_step c t i).1.sends
  terminal_fares c t (Cmd e) plans is = event_fares c t e is
  terminal_fares c t (Come l f) plans is = takes_fares c t f l.class l.from plans is
