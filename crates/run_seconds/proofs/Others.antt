-- What the terminal and the master note says nothing of the secondary nodes.
use Rattle.std.proofs.Common.{ℕ, ◌≡◌, Bool, true, false, List, [], ◌∷◌, Option, Some, None, refl, inl, inr}
use Rattle.std.specs.Prelude.{not, ◌||◌, ⊤}
use Rattle.std.specs.List.{AllByRecursion, list_any}
use Rattle.std.proofs.lemmas.Bool.{cases_Bool}
use Rattle.dc_base.specs.declared.events.Event.{Event}
use Rattle.dc_base.specs.declared.events.Event.TheVariants as event
use Rattle.dc_base.specs.declared.events.Note.{Note}
use Rattle.dc_base.specs.declared.flights.Flight.{Flight}
use Rattle.dc_base.specs.declared.flights.Flight.TheVariants as flight
use Rattle.dc_base.specs.declared.nodes.Class.{Class}
use Rattle.dc_base.specs.declared.nodes.Class.TheVariants.{Air, Ctl, Feed, Tun}
use Rattle.dc_base.specs.declared.nodes.Dir.TheVariants.{Dl, Ul}
use Rattle.dc_base.specs.declared.nodes.Node.{Node}
use Rattle.dc_base.specs.declared.nodes.Node.TheVariants.{A, B, M, T}
use Rattle.dc_base.specs.declared.records.Rec.{Rec}
use Rattle.dc_base.specs.declared.records.Rec.TheVariants as rec
use Rattle.node_rules.specs.Choices.{Choices}
use Rattle.node_rules.specs.Flights.{flight_named}
use Rattle.node_rules.specs.Held.{held}
use Rattle.node_rules.specs.Lines.{is_end}
use Rattle.node_rules.specs.MasterStep.{master_step}
use Rattle.node_rules.specs.Terminal.{TerminalNode, is_takable, recovered_half, reported_there, scg_fails, submitted_there, terminal_control, terminal_record, terminal_step, terminal_takes}
use Rattle.node_rules.specs.TerminalHalf.{TerminalHalf}
use Rattle.node_rules.specs.Master.{MasterNode}
use Rattle.node_rules.specs.declared.inputs.Input.{Input}
use Rattle.node_rules.specs.declared.inputs.Input.TheVariants.{Cmd, Come}
use Rattle.run_uplinks.specs.Notes.{changes, is_of_second}
use Rattle.run_uplinks.proofs.Lines.{IsOfTerminal}
use Rattle.run_uplinks.proofs.MasterNotes.{AreMasters, master_notes}
use Rattle.run_uplinks.proofs.TerminalNotes.{air_notes, plan_notes}

-- the note is none of a secondary node's procedures
abbrev pub IsOther : Note → Type 0
IsOther n = is_of_second n ≡ false

abbrev pub AreOther : List Note → Type 0
AreOther ns = AllByRecursion IsOther ns

or_second : (a b : Bool) → (a || b) ≡ false → b ≡ false
or_second true b is = absurd (let bad : true ≡ false = is in cc)
or_second false b is = is

of_terminal : (k : ℕ) (ns : List Note) → AllByRecursion (IsOfTerminal k) ns → AreOther ns
of_terminal k [] all = tt
of_terminal k (n ∷ ns) all = (or_second (is_end n) (is_of_second n) all.0.0, of_terminal k ns all.1)

of_master : (ns : List Note) → AreMasters ns → AreOther ns
of_master [] all = tt
of_master (n ∷ ns) all = (or_second (changes n) (is_of_second n) all.0, of_master ns all.1)

-- ---- the master

pub master_other : (c : Choices) (m : MasterNode) (i : Input) → AreOther (master_step c m i).1.notes
master_other c m i = of_master (master_step c m i).1.notes (master_notes c m i)

-- ---- the terminal

module _ (c : Choices) (t : TerminalNode) where
  by_recovery : (id : ℕ) (o : Option TerminalHalf) → AreOther (recovered_half c t id o).1.notes
  by_recovery id None = tt
  by_recovery id (Some h) = tt

  by_record : (r : Rec) → AreOther (terminal_record c t r).1.notes
  by_record (rec.Reconf plan key) =
      let takes = not (list_any (λ i. not (is_takable t i)) plan.items) in of_terminal 2 (terminal_record c t (rec.Reconf plan key)).1.notes (plan_notes c key plan t takes)
  by_record (rec.Recov id) = by_recovery id (held id t.halves)
  by_record (rec.Rcomp g) = tt
  by_record (rec.Scgf failed) = tt
  by_record (rec.Recovd id) = tt
  by_record (rec.Addreq plan key) = tt
  by_record (rec.Addack g) = tt
  by_record (rec.Addrej g) = tt
  by_record (rec.Modreq plan key) = tt
  by_record (rec.Modack g) = tt
  by_record (rec.Modrej g) = tt
  by_record (rec.Recfg g) = tt
  by_record (rec.Relreq plan) = tt
  by_record (rec.Relack g) = tt
  by_record (rec.Relrej g) = tt
  by_record (rec.Uecr g) = tt
  by_record (rec.Snst status) = tt
  by_record (rec.Moved g id) = tt
  by_record (rec.Scgn id g) = tt
  by_record rec.Modrqd = tt
  by_record (rec.Modcnf g) = tt
  by_record (rec.Modref word) = tt
  by_record rec.Chgrqd = tt
  by_record (rec.Chgcnf plan) = tt
  by_record (rec.Chgref word) = tt
  by_record rec.Relrqd = tt
  by_record (rec.Relcnf plan) = tt

  by_control : (f : Flight) → AreOther (terminal_control c t f).1.notes
  by_control (flight.Ctl r) = by_record r
  by_control (flight.Air id g num tag pdu) = tt
  by_control (flight.Ack id g num) = tt
  by_control (flight.Tun tag packet) = tt
  by_control (flight.Sdu id g payload) = tt
  by_control (flight.End id g) = tt
  by_control (flight.Told id g count) = tt

  by_class : (from : Node) (f : Flight) (k : Class) → AreOther (terminal_takes c t from f k).1.notes
  by_class from f Ctl = by_control f
  by_class from f Feed = tt
  by_class from f Air = of_terminal 4 (terminal_takes c t from f Air).1.notes (air_notes t from f (flight_named f))
  by_class from f Tun = tt

  by_submission : (id : ℕ) (payload : List ℕ) (o : Option TerminalHalf) → AreOther (submitted_there c t id payload o).1.notes
  by_submission id payload None = tt
  by_submission id payload (Some h) = tt

  by_report : (id : ℕ) (o : Option TerminalHalf) → AreOther (reported_there c t id o).1.notes
  by_report id None = tt
  by_report id (Some h) = tt

  by_failure : (o : Option Node) → AreOther (scg_fails t o).1.notes
  by_failure None = tt
  by_failure (Some x) = tt

  by_event : (e : Event) → AreOther (terminal_step c t (Cmd e)).1.notes
  by_event (event.Submit id d payload) = by_submission id payload (held id t.halves)
  by_event (event.Report node id) = by_report id (held id t.halves)
  by_event event.ScgFail = by_failure t.sec
  by_event (event.Bearer id n first shape threshold policy) = tt
  by_event (event.Reshape id shape) = tt
  by_event (event.Remove id) = tt
  by_event (event.Add node) = tt
  by_event event.Change = tt
  by_event event.Release = tt
  by_event event.RekeySecond = tt
  by_event (event.RekeyMaster root) = tt
  by_event (event.Recover id) = tt
  by_event (event.Deny node on) = tt
  by_event (event.Ask node what) = tt
  by_event (event.Step l i) = tt
  by_event (event.Lose l i) = tt
  by_event (event.Again l i) = tt

  pub terminal_other : (i : Input) → AreOther (terminal_step c t i).1.notes
  terminal_other (Cmd e) = by_event e
  terminal_other (Come l f) = by_class l.from f l.class
