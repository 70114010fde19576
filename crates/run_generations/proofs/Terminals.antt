-- What the terminal has, and what it sends, stays below a bound that the plans that it takes are below.
use Rattle.std.proofs.Common.{ℕ, ◌≡◌, ◌≤◌, ◌+◌, Bool, true, false, List, [], ◌∷◌, Option, Some, None, refl, sym, subst, arith}
use Rattle.std.specs.Prelude.{Err, Ok, Result, flat_map, if◌then◌else◌, map, not}
use Rattle.std.specs.List.{AllByRecursion, list_any}
use Rattle.dc_base.specs.declared.events.Event.{Event}
use Rattle.dc_base.specs.declared.events.Event.TheVariants as event
use Rattle.dc_base.specs.declared.flights.Flight.{Flight}
use Rattle.dc_base.specs.declared.flights.Flight.TheVariants as flight
use Rattle.dc_base.specs.declared.nodes.Cell.TheVariants.{Scg}
use Rattle.dc_base.specs.declared.nodes.Class.{Class}
use Rattle.dc_base.specs.declared.nodes.Class.TheVariants.{Air, Ctl, Feed, Tun}
use Rattle.dc_base.specs.declared.nodes.Node.{Node}
use Rattle.dc_base.specs.declared.records.Item.{Item}
use Rattle.dc_base.specs.declared.records.Item.TheVariants as item
use Rattle.dc_base.specs.declared.records.Plan.{Plan}
use Rattle.dc_base.specs.declared.records.Rec.{Rec}
use Rattle.dc_base.specs.declared.records.Rec.TheVariants as rec
use Rattle.pdcp_pdu.specs.Pdu.{Content, decoded}
use Rattle.pdcp_pdu.specs.declared.pdu.PduErr.{PduErr}
use Rattle.pdcp_tx.specs.Sender.{Sender}
use Rattle.pdcp_tx.specs.Sending.{take_sdu}
use Rattle.pdcp_tx.specs.declared.tx.TxErr.{TxErr}
use Rattle.pdcp_tx.specs.declared.tx.TxErr.TheVariants as unable
use Rattle.transcript.proofs.OnEach.{each_append}
use Rattle.node_rules.specs.Choices.{Choices, Send}
use Rattle.node_rules.specs.Effects.{in_turn}
use Rattle.node_rules.specs.Entity.{Entity}
use Rattle.node_rules.specs.Flights.{Named, flight_named}
use Rattle.node_rules.specs.Held.{held, holding}
use Rattle.node_rules.specs.Sending.{send_counts, send_kept, send_report}
use Rattle.node_rules.specs.Setup.{Setup, has_cell, with_failed_scg}
use Rattle.node_rules.specs.Terminal.{TerminalNode, air_taken, air_taken_by, half_set, is_takable, item_taken, plan_taken, recovered_half, reported_there, scg_fails, submitted_there, terminal_event, terminal_record, terminal_step, terminal_takes}
use Rattle.node_rules.specs.TerminalHalf.{TerminalHalf, acked, is_taken, leg_send, pdu_came, silent, submit_as, terminal_air_in, terminal_fail, with_sends}
use Rattle.node_rules.specs.declared.bearers.HalfOut.{HalfOut}
use Rattle.node_rules.specs.declared.bearers.OnLeg.{OnLeg}
use Rattle.node_rules.specs.declared.inputs.Effects.{Effects}
use Rattle.node_rules.specs.declared.inputs.Input.{Input}
use Rattle.node_rules.specs.declared.inputs.Input.TheVariants.{Cmd, Come}
use Rattle.run_control.specs.Steps.{record_in}
use Rattle.run_control.specs.Views.{Bearer}
use Rattle.run_control.proofs.Arrivals.{pdu_bearer}
use Rattle.run_generations.specs.Ahead.{AllBelow, AreSentBelow, HalvesBelow, IsHalfBelow, IsSentBelow}
use Rattle.run_generations.specs.Newer.{plan_generation}
use Rattle.run_generations.proofs.Held.{IfThere, each_held, each_with}
use Rattle.run_generations.proofs.Orders.{later_below}

module _ (b : ℕ) where
  -- a step: what the terminal has then, and what it sent, is below
  abbrev pub HalfFares : TerminalNode × Effects → Type 0
  HalfFares done = HalvesBelow b done.0 × AreSentBelow b done.1.sends

  -- ---- what goes on legs

  leg_below : (s : Setup) (p : OnLeg) (o : Option Node) → s.g + 1 ≤ b → AreSentBelow b (leg_send s p o)
  leg_below s p None le = tt
  leg_below s p (Some node) le = (le, tt)

  flat_below : {X : Type 0} (f : X → List Send) (xs : List X) → ((x : X) → AreSentBelow b (f x)) → AreSentBelow b (flat_map f xs)
  flat_below f [] good = tt
  flat_below f (x ∷ xs) good = each_append (IsSentBelow b) (f x) (flat_map f xs) (good x) (flat_below f xs good)

  entity_below : (done : Entity × List OnLeg) → done.0.setup.g + 1 ≤ b → AreSentBelow b (with_sends done).1
  entity_below done le = flat_below _ done.1 (λ p. leg_below done.0.setup p _ le)

  -- ---- events

  with_half_below : (t : TerminalNode) (id : ℕ) (h : TerminalHalf) → IsHalfBelow b h → HalvesBelow b t → HalvesBelow b (record t { halves = holding id (Some h) t.halves })
  with_half_below t id h le is = each_with (IsHalfBelow b) id (Some h) t.halves le is

  submission_below : (c : Choices) (h : TerminalHalf) (r : Result (Sender × ℕ) TxErr) → IsHalfBelow b h → IsHalfBelow b (submit_as c h r).0 × AreSentBelow b (submit_as c h r).2
  submission_below c h (Ok (tx, count)) le = (le, entity_below (send_counts c (record h { tx = tx }) (count ∷ [])) le)
  submission_below c h (Err (unable.Full lowest next)) le = (le, tt)
  submission_below c h (Err unable.Exhausted) le = (le, tt)
  submission_below c h (Err unable.Memory) le = (le, tt)

  submitted_fares : (c : Choices) (t : TerminalNode) (id : ℕ) (payload : List ℕ) (o : Option TerminalHalf) → IfThere (IsHalfBelow b) o → HalvesBelow b t
      → HalvesBelow b (submitted_there c t id payload o).0 × AreSentBelow b (submitted_there c t id payload o).1.sends
  submitted_fares c t id payload None le is = (is, tt)
  submitted_fares c t id payload (Some h) le is =
      let done = submission_below c h (take_sdu h.tx payload) le in (with_half_below t id (submit_as c h (take_sdu h.tx payload)).0 done.0 is, done.1)

  reported_fares : (c : Choices) (t : TerminalNode) (id : ℕ) (o : Option TerminalHalf) → IfThere (IsHalfBelow b) o → HalvesBelow b t
      → HalvesBelow b (reported_there c t id o).0 × AreSentBelow b (reported_there c t id o).1.sends
  reported_fares c t id None le is = (is, tt)
  reported_fares c t id (Some h) le is = (with_half_below t id (send_report c h).0 le is, entity_below (send_report c h) le)

  failed_below : (h : TerminalHalf) → IsHalfBelow b h → IsHalfBelow b (terminal_fail h)
  failed_below h le = by (has_cell h.setup Scg)
    where
      by : (t : Bool) → IsHalfBelow b (if t then record h { setup = with_failed_scg h.setup } else h)
      by true = le
      by false = le

  all_failed : (xs : List (ℕ × TerminalHalf)) → AllByRecursion (λ (x : ℕ × TerminalHalf). IsHalfBelow b x.1) xs → AllByRecursion (λ (x : ℕ × TerminalHalf). IsHalfBelow b x.1) (map (λ (x : ℕ × TerminalHalf). (x.0, terminal_fail x.1)) xs)
  all_failed [] all = tt
  all_failed (x ∷ xs) all = (failed_below x.1 all.0, all_failed xs all.1)

  fails_fares : (t : TerminalNode) (o : Option Node) → HalvesBelow b t → HalvesBelow b (scg_fails t o).0 × AreSentBelow b (scg_fails t o).1.sends
  fails_fares t None is = (is, tt)
  fails_fares t (Some sec) is = (all_failed t.halves is, (tt, tt))

  event_fares : (c : Choices) (t : TerminalNode) (e : Event) → HalvesBelow b t → HalvesBelow b (terminal_event c t e).0 × AreSentBelow b (terminal_event c t e).1.sends
  event_fares c t (event.Submit id d payload) is = submitted_fares c t id payload (held id t.halves) (each_held (IsHalfBelow b) id t.halves is) is
  event_fares c t (event.Report node id) is = reported_fares c t id (held id t.halves) (each_held (IsHalfBelow b) id t.halves is) is
  event_fares c t event.ScgFail is = fails_fares t t.sec is
  event_fares c t (event.Bearer id n first shape threshold policy) is = (is, tt)
  event_fares c t (event.Reshape id shape) is = (is, tt)
  event_fares c t (event.Remove id) is = (is, tt)
  event_fares c t (event.Add node) is = (is, tt)
  event_fares c t event.Change is = (is, tt)
  event_fares c t event.Release is = (is, tt)
  event_fares c t event.RekeySecond is = (is, tt)
  event_fares c t (event.RekeyMaster root) is = (is, tt)
  event_fares c t (event.Recover id) is = (is, tt)
  event_fares c t (event.Deny node on) is = (is, tt)
  event_fares c t (event.Ask node what) is = (is, tt)
  event_fares c t (event.Step l i) is = (is, tt)
  event_fares c t (event.Lose l i) is = (is, tt)
  event_fares c t (event.Again l i) is = (is, tt)

  -- ---- a plan

  set_fares : (c : Choices) (t : TerminalNode) (id : ℕ) (s : Setup) (o : Option TerminalHalf) → s.g + 1 ≤ b → HalvesBelow b t → HalfFares (half_set c t id s o)
  set_fares c t id s None le is = (each_with (IsHalfBelow b) id (Some _) t.halves le is, tt)
  set_fares c t id s (Some h) le is = (each_with (IsHalfBelow b) id (Some _) t.halves le is, entity_below (send_kept c (record h { setup = s })) le)

  item_fares : (c : Choices) (root : List ℕ) (p : Plan) → p.g + 1 ≤ b → (t : TerminalNode) (i : Item) → HalvesBelow b t → HalfFares (item_taken c root p t i)
  item_fares c root p le t (item.Set id n first shape threshold policy key old) is = set_fares c t id _ (held id t.halves) le is
  item_fares c root p le t (item.Unset id) is = (each_with (IsHalfBelow b) id None t.halves tt is, tt)

  items_fare : (c : Choices) (root : List ℕ) (p : Plan) → p.g + 1 ≤ b → (t : TerminalNode) (is : List Item) → HalvesBelow b t → HalfFares (in_turn (item_taken c root p) t is)
  items_fare c root p le t [] all = (all, tt)
  items_fare c root p le t (i ∷ is) all =
      let here = item_fares c root p le t i all in
      let later = items_fare c root p le (item_taken c root p t i).0 is here.0 in
      (later.0, each_append (IsSentBelow b) (item_taken c root p t i).1.sends (in_turn (item_taken c root p) (item_taken c root p t i).0 is).1.sends here.1 later.1)

  plan_fares : (c : Choices) (root : List ℕ) (p : Plan) (t : TerminalNode) (takes : Bool) → p.g + 1 ≤ b → HalvesBelow b t → HalfFares (plan_taken c root p t takes)
  plan_fares c root p t true le is = let done = items_fare c root p le (record t { sec = p.sec }) p.items is in (done.0, (tt, done.1))
  plan_fares c root p t false le is = (is, tt)

  recovered_fares : (c : Choices) (t : TerminalNode) (id : ℕ) (o : Option TerminalHalf) → IfThere (IsHalfBelow b) o → HalvesBelow b t → HalfFares (recovered_half c t id o)
  recovered_fares c t id None le is = (is, tt)
  recovered_fares c t id (Some h) le is = (each_with (IsHalfBelow b) id (Some (send_kept c h).0) t.halves le is, (tt, entity_below (send_kept c h) le))

  record_fares : (c : Choices) (t : TerminalNode) (r : Rec) → 1 ≤ b → AllBelow b (plan_generation r) → HalvesBelow b t → HalfFares (terminal_record c t r)
  record_fares c t (rec.Reconf plan key) one plans is = plan_fares c key plan t (not (list_any (λ i. not (is_takable t i)) plan.items)) (later_below b plan.g one plans) is
  record_fares c t (rec.Recov id) one plans is = recovered_fares c t id (held id t.halves) (each_held (IsHalfBelow b) id t.halves is) is
  record_fares c t (rec.Rcomp g) one plans is = (is, tt)
  record_fares c t (rec.Scgf failed) one plans is = (is, tt)
  record_fares c t (rec.Recovd id) one plans is = (is, tt)
  record_fares c t (rec.Addreq plan key) one plans is = (is, tt)
  record_fares c t (rec.Addack g) one plans is = (is, tt)
  record_fares c t (rec.Addrej g) one plans is = (is, tt)
  record_fares c t (rec.Modreq plan key) one plans is = (is, tt)
  record_fares c t (rec.Modack g) one plans is = (is, tt)
  record_fares c t (rec.Modrej g) one plans is = (is, tt)
  record_fares c t (rec.Recfg g) one plans is = (is, tt)
  record_fares c t (rec.Relreq plan) one plans is = (is, tt)
  record_fares c t (rec.Relack g) one plans is = (is, tt)
  record_fares c t (rec.Relrej g) one plans is = (is, tt)
  record_fares c t (rec.Uecr g) one plans is = (is, tt)
  record_fares c t (rec.Snst status) one plans is = (is, tt)
  record_fares c t (rec.Moved g id) one plans is = (is, tt)
  record_fares c t (rec.Scgn id g) one plans is = (is, tt)
  record_fares c t rec.Modrqd one plans is = (is, tt)
  record_fares c t (rec.Modcnf g) one plans is = (is, tt)
  record_fares c t (rec.Modref word) one plans is = (is, tt)
  record_fares c t rec.Chgrqd one plans is = (is, tt)
  record_fares c t (rec.Chgcnf plan) one plans is = (is, tt)
  record_fares c t (rec.Chgref word) one plans is = (is, tt)
  record_fares c t rec.Relrqd one plans is = (is, tt)
  record_fares c t (rec.Relcnf plan) one plans is = (is, tt)

  -- ---- over the air

  abbrev FaresBy : TerminalHalf × HalfOut → Type 0
  FaresBy done = IsHalfBelow b done.0 × AreSentBelow b done.1.sends

  fares_if : (t : Bool) (x y : TerminalHalf × HalfOut) → FaresBy x → FaresBy y → FaresBy (if t then x else y)
  fares_if true x y is else' = is
  fares_if false x y is else' = else'

  pdu_fares : (h : TerminalHalf) (from : Node) (num : ℕ) (r : Result Content PduErr) → IsHalfBelow b h → FaresBy (pdu_came h from num r)
  pdu_fares h from num (Err e) le = (le, tt)
  pdu_fares h from num (Ok x) le = (subst (λ (v : Bearer). v.g + 1 ≤ b) (sym (pdu_bearer h x)) le, (tt, tt))

  air_fares : (h : TerminalHalf) (from : Node) (f : Flight) → IsHalfBelow b h → FaresBy (terminal_air_in h from f)
  air_fares h from (flight.Air id g num tag pdu) le = fares_if (is_taken h.setup from id g) (pdu_came h from num (decoded h.setup.n pdu)) (h, silent) (pdu_fares h from num (decoded h.setup.n pdu) le) (le, tt)
  air_fares h from (flight.Ack id g num) le = fares_if (is_taken h.setup from id g) (acked h _ num, silent) (h, silent) (le, tt) (le, tt)
  air_fares h from (flight.Tun tag packet) le = (le, tt)
  air_fares h from (flight.Sdu id g sdu) le = (le, tt)
  air_fares h from (flight.End id g) le = (le, tt)
  air_fares h from (flight.Told id g count) le = (le, tt)
  air_fares h from (flight.Ctl r) le = (le, tt)

  air_for_fares : (t : TerminalNode) (from : Node) (f : Flight) (id : ℕ) (o : Option TerminalHalf) → IfThere (IsHalfBelow b) o → HalvesBelow b t → HalfFares (air_taken_by t from f id o)
  air_for_fares t from f id None le is = (is, tt)
  air_for_fares t from f id (Some h) le is = let done = air_fares h from f le in (each_with (IsHalfBelow b) id (Some (terminal_air_in h from f).0) t.halves done.0 is, done.1)

  air_named_fares : (t : TerminalNode) (from : Node) (f : Flight) (o : Option Named) → HalvesBelow b t → HalfFares (air_taken t from f o)
  air_named_fares t from f None is = (is, tt)
  air_named_fares t from f (Some (id, g)) is = air_for_fares t from f id (held id t.halves) (each_held (IsHalfBelow b) id t.halves is) is

  -- ---- any input

  takes_fares : (c : Choices) (t : TerminalNode) (f : Flight) (k : Class) (from to : Node) → 1 ≤ b → ((r : Rec) → record_in (Come (record { from = from; to = to; class = k }) f) ≡ Some r → AllBelow b (plan_generation r)) → HalvesBelow b t
      → HalfFares (terminal_takes c t from f k)
  takes_fares c t (flight.Ctl r) Ctl from to one plans is = record_fares c t r one (plans r refl) is
  takes_fares c t (flight.Air id g num tag pdu) Ctl from to one plans is = (is, tt)
  takes_fares c t (flight.Ack id g num) Ctl from to one plans is = (is, tt)
  takes_fares c t (flight.Tun tag packet) Ctl from to one plans is = (is, tt)
  takes_fares c t (flight.Sdu id g payload) Ctl from to one plans is = (is, tt)
  takes_fares c t (flight.End id g) Ctl from to one plans is = (is, tt)
  takes_fares c t (flight.Told id g count) Ctl from to one plans is = (is, tt)
  takes_fares c t f Feed from to one plans is = (is, tt)
  takes_fares c t f Air from to one plans is = air_named_fares t from f (flight_named f) is
  takes_fares c t f Tun from to one plans is = (is, tt)

  -- whatever the terminal takes
  pub terminal_fares : (c : Choices) (t : TerminalNode) (i : Input) → 1 ≤ b → ((r : Rec) → record_in i ≡ Some r → AllBelow b (plan_generation r)) → HalvesBelow b t
      → HalvesBelow b (terminal_step c t i).0 × AreSentBelow b (terminal_step c t i).1.sends
  terminal_fares c t (Cmd e) one plans is = event_fares c t e is
  terminal_fares c t (Come l f) one plans is = takes_fares c t f l.class l.from l.to one plans is

-- below a greater bound
halves_each : (a b : ℕ) (xs : List (ℕ × TerminalHalf)) → a ≤ b → AllByRecursion (λ (x : ℕ × TerminalHalf). IsHalfBelow a x.1) xs → AllByRecursion (λ (x : ℕ × TerminalHalf). IsHalfBelow b x.1) xs
halves_each a b [] le all = tt
halves_each a b (x ∷ xs) le all = (omega (arith, le, all.0), halves_each a b xs le all.1)

pub halves_later : (a b : ℕ) (t : TerminalNode) → a ≤ b → HalvesBelow a t → HalvesBelow b t
halves_later a b t le is = halves_each a b t.halves le is
