-- What the terminal notes says nothing of active anchors, nor of what is handed up in uplink.
use Rattle.std.proofs.Common.{ℕ, ◌≡◌, Bool, true, false, List, [], ◌∷◌, Option, Some, None, refl}
use Rattle.std.specs.Prelude.{not}
use Rattle.std.specs.List.{AllByRecursion, list_any}
use Rattle.dc_base.specs.declared.events.Event.{Event}
use Rattle.dc_base.specs.declared.events.Event.TheVariants as event
use Rattle.dc_base.specs.declared.events.Note.{Note}
use Rattle.dc_base.specs.declared.events.Note.TheVariants as note
use Rattle.dc_base.specs.declared.flights.Flight.{Flight}
use Rattle.dc_base.specs.declared.flights.Flight.TheVariants as flight
use Rattle.dc_base.specs.declared.nodes.Class.{Class}
use Rattle.dc_base.specs.declared.nodes.Class.TheVariants.{Air, Ctl, Feed, Tun}
use Rattle.dc_base.specs.declared.nodes.Dir.TheVariants.{Dl, Ul}
use Rattle.dc_base.specs.declared.nodes.Node.{Node}
use Rattle.dc_base.specs.declared.nodes.Node.TheVariants.{T}
use Rattle.dc_base.specs.declared.records.Rec.{Rec}
use Rattle.dc_base.specs.declared.records.Rec.TheVariants as rec
use Rattle.node_rules.specs.Choices.{Choices}
use Rattle.node_rules.specs.Flights.{flight_named, Named}
use Rattle.node_rules.specs.Held.{held}
use Rattle.node_rules.specs.Terminal.{TerminalNode, is_takable, recovered_half, reported_there, scg_fails, submitted_there, terminal_control, terminal_record, terminal_step, terminal_takes, air_taken, air_taken_by, half_did, half_set, half_set_if, item_taken, plan_taken, uplink_freed}
use Rattle.node_rules.specs.TerminalHalf.{TerminalHalf, terminal_air_in}
use Rattle.node_rules.specs.declared.inputs.Input.{Input}
use Rattle.node_rules.specs.declared.inputs.Input.TheVariants.{Cmd, Come}
use Rattle.dc_base.specs.declared.records.Item.{Item}
use Rattle.dc_base.specs.declared.records.Item.TheVariants as item
use Rattle.dc_base.specs.declared.records.Plan.{Plan}
use Rattle.key_chain.specs.KeyNames.{octets_of_side}
use Rattle.transcript.proofs.OnEach.{each_append}
use Rattle.node_rules.specs.Effects.{in_turn}
use Rattle.node_rules.specs.Master.{handed_up}
use Rattle.node_rules.specs.Setup.{Setup, setup_of}
use Rattle.node_rules.specs.declared.bearers.HalfOut.{HalfOut}

-- the note is of no anchor, but for what the terminal hands up
abbrev pub is_idle : Note → Bool
is_idle (note.Own x id g) = false
is_idle (note.Give x id g) = false
is_idle (note.Up x id Ul count sdu) = false
is_idle _ = true

abbrev pub IsIdle : Note → Type 0
IsIdle n = is_idle n ≡ true

-- so is each
abbrev pub AreIdle : List Note → Type 0
AreIdle ns = AllByRecursion IsIdle ns

-- ---- a plan

by_half : (c : Choices) (t : TerminalNode) (id : ℕ) (s : Setup) (o : Option TerminalHalf) → AllByRecursion IsIdle (half_set c t id s o).1.notes
by_half c t id s None = tt
by_half c t id s (Some h) = tt

by_half_if : (c : Choices) (t : TerminalNode) (id : ℕ) (o : Option Setup) → AllByRecursion IsIdle (half_set_if c t id o).1.notes
by_half_if c t id None = tt
by_half_if c t id (Some s) = by_half c t id s (held id t.halves)

by_item : (c : Choices) (root : List ℕ) (p : Plan) (t : TerminalNode) (i : Item) → AllByRecursion IsIdle (item_taken c root p t i).1.notes
by_item c root p t (item.Set id n first shape threshold policy key old) =
    (refl, by_half_if c t id (setup_of T p t.alg (octets_of_side root key.side) (item.Set id n first shape threshold policy key old)))
by_item c root p t (item.Unset id) = (refl, tt)

by_items : (c : Choices) (root : List ℕ) (p : Plan) (t : TerminalNode) (items : List Item) → AllByRecursion IsIdle (in_turn (item_taken c root p) t items).1.notes
by_items c root p t [] = tt
by_items c root p t (i ∷ items) =
    let here = item_taken c root p t i in
    each_append IsIdle here.1.notes (in_turn (item_taken c root p) here.0 items).1.notes (by_item c root p t i) (by_items c root p here.0 items)

plan_notes : (c : Choices) (root : List ℕ) (p : Plan) (t : TerminalNode) (takes : Bool) → AllByRecursion IsIdle (plan_taken c root p t takes).1.notes
plan_notes c root p t true = by_items c root p (record t { sec = p.sec }) p.items
plan_notes c root p t false = tt

-- ---- a flight over the air

by_ups : (id : ℕ) (ups : List (ℕ × List ℕ)) → AllByRecursion IsIdle (handed_up T id Dl ups)
by_ups id [] = tt
by_ups id (u ∷ ups) = (refl, by_ups id ups)

by_freed : (id : ℕ) (o : Option ℕ) → AllByRecursion IsIdle (uplink_freed id o)
by_freed id None = tt
by_freed id (Some count) = (refl, tt)

did_notes : (t : TerminalNode) (id : ℕ) (done : TerminalHalf × HalfOut) → AllByRecursion IsIdle (half_did t id done).1.notes
did_notes t id done = each_append IsIdle (handed_up T id Dl done.1.ups) (uplink_freed id done.1.low) (by_ups id done.1.ups) (by_freed id done.1.low)

by_air : (t : TerminalNode) (from : Node) (f : Flight) (id : ℕ) (o : Option TerminalHalf) → AllByRecursion IsIdle (air_taken_by t from f id o).1.notes
by_air t from f id None = tt
by_air t from f id (Some h) = did_notes t id (terminal_air_in h from f)

air_notes : (t : TerminalNode) (from : Node) (f : Flight) (o : Option Named) → AllByRecursion IsIdle (air_taken t from f o).1.notes
air_notes t from f None = tt
air_notes t from f (Some (id, g)) = by_air t from f id (held id t.halves)

-- ---- the terminal

module _ (c : Choices) (t : TerminalNode) where
  by_recovery : (id : ℕ) (o : Option TerminalHalf) → AreIdle (recovered_half c t id o).1.notes
  by_recovery id None = tt
  by_recovery id (Some h) = tt

  by_record : (r : Rec) → AreIdle (terminal_record c t r).1.notes
  by_record (rec.Reconf plan key) =
      let takes = not (list_any (λ i. not (is_takable t i)) plan.items) in plan_notes c key plan t takes
  by_record (rec.Recov id) = by_recovery id (held id t.halves)
  by_record (rec.Rcomp g) = tt
  by_record (rec.Scgf failed) = tt
  by_record (rec.Recovd id) = tt
  by_record (rec.Addreq plan key) = tt
  by_record (rec.Addack g) = tt
  by_record (rec.Addrej g) = tt
  by_record (rec.Modreq plan key) = tt
  by_record (rec.Modack g) = tt
  by_record (rec.Modrej g) = tt
  by_record (rec.Recfg g) = tt
  by_record (rec.Relreq plan) = tt
  by_record (rec.Relack g) = tt
  by_record (rec.Relrej g) = tt
  by_record (rec.Uecr g) = tt
  by_record (rec.Snst status) = tt
  by_record (rec.Moved g id) = tt
  by_record (rec.Scgn id g) = tt
  by_record rec.Modrqd = tt
  by_record (rec.Modcnf g) = tt
  by_record (rec.Modref word) = tt
  by_record rec.Chgrqd = tt
  by_record (rec.Chgcnf plan) = tt
  by_record (rec.Chgref word) = tt
  by_record rec.Relrqd = tt
  by_record (rec.Relcnf plan) = tt

  by_control : (f : Flight) → AreIdle (terminal_control c t f).1.notes
  by_control (flight.Ctl r) = by_record r
  by_control (flight.Air id g num tag pdu) = tt
  by_control (flight.Ack id g num) = tt
  by_control (flight.Tun tag packet) = tt
  by_control (flight.Sdu id g payload) = tt
  by_control (flight.End id g) = tt
  by_control (flight.Told id g count) = tt

  by_class : (from : Node) (f : Flight) (k : Class) → AreIdle (terminal_takes c t from f k).1.notes
  by_class from f Ctl = by_control f
  by_class from f Feed = tt
  by_class from f Air = air_notes t from f (flight_named f)
  by_class from f Tun = tt

  by_submission : (id : ℕ) (payload : List ℕ) (o : Option TerminalHalf) → AreIdle (submitted_there c t id payload o).1.notes
  by_submission id payload None = tt
  by_submission id payload (Some h) = tt

  by_report : (id : ℕ) (o : Option TerminalHalf) → AreIdle (reported_there c t id o).1.notes
  by_report id None = tt
  by_report id (Some h) = tt

  by_failure : (o : Option Node) → AreIdle (scg_fails t o).1.notes
  by_failure None = tt
  by_failure (Some x) = tt

  by_event : (e : Event) → AreIdle (terminal_step c t (Cmd e)).1.notes
  by_event (event.Submit id d payload) = by_submission id payload (held id t.halves)
  by_event (event.Report node id) = by_report id (held id t.halves)
  by_event event.ScgFail = by_failure t.sec
  by_event (event.Bearer id n first shape threshold policy) = tt
  by_event (event.Reshape id shape) = tt
  by_event (event.Remove id) = tt
  by_event (event.Add node) = tt
  by_event event.Change = tt
  by_event event.Release = tt
  by_event event.RekeySecond = tt
  by_event (event.RekeyMaster root) = tt
  by_event (event.Recover id) = tt
  by_event (event.Deny node on) = tt
  by_event (event.Ask node what) = tt
  by_event (event.Step l i) = tt
  by_event (event.Lose l i) = tt
  by_event (event.Again l i) = tt

  pub terminal_idle : (i : Input) → AreIdle (terminal_step c t i).1.notes
  terminal_idle (Cmd e) = by_event e
  terminal_idle (Come l f) = by_class l.from f l.class
