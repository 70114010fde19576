-- What the terminal sends is a PDU or an ack on the air, or a record of its own for the master.
use Rattle.std.proofs.Common.{ℕ, ◌≡◌, Bool, true, false, List, [], ◌∷◌, Option, Some, None, refl, inl, inr}
use Rattle.std.specs.Prelude.{Ok, Err, Result, not}
use Rattle.std.specs.List.{AllByRecursion, list_any}
use Rattle.std.proofs.lemmas.Bool.{cases_Bool}
use Rattle.dc_base.specs.declared.events.Event.{Event}
use Rattle.dc_base.specs.declared.events.Event.TheVariants as event
use Rattle.dc_base.specs.declared.flights.Flight.{Flight}
use Rattle.dc_base.specs.declared.flights.Flight.TheVariants as flight
use Rattle.dc_base.specs.declared.nodes.Class.{Class}
use Rattle.dc_base.specs.declared.nodes.Class.TheVariants.{Air, Ctl, Feed, Tun}
use Rattle.dc_base.specs.declared.nodes.Node.{Node}
use Rattle.dc_base.specs.declared.nodes.Node.TheVariants.{T}
use Rattle.dc_base.specs.declared.records.Item.{Item}
use Rattle.dc_base.specs.declared.records.Item.TheVariants as item
use Rattle.dc_base.specs.declared.records.Plan.{Plan}
use Rattle.dc_base.specs.declared.records.Rec.{Rec}
use Rattle.dc_base.specs.declared.records.Rec.TheVariants as rec
use Rattle.key_chain.specs.KeyNames.{octets_of_side}
use Rattle.pdcp_pdu.specs.Pdu.{Content, decoded}
use Rattle.pdcp_pdu.specs.declared.pdu.PduErr.{PduErr}
use Rattle.pdcp_tx.specs.Sender.{Sender}
use Rattle.pdcp_tx.specs.Sending.{take_sdu}
use Rattle.pdcp_tx.specs.declared.tx.TxErr.{TxErr}
use Rattle.pdcp_tx.specs.declared.tx.TxErr.TheVariants as unable
use Rattle.transcript.proofs.OnEach.{each_append}
use Rattle.node_rules.specs.Choices.{Choices, Send}
use Rattle.node_rules.specs.Effects.{in_turn}
use Rattle.node_rules.specs.Entity.{Entity, renewed}
use Rattle.node_rules.specs.Flights.{Named, flight_named}
use Rattle.node_rules.specs.Held.{held}
use Rattle.node_rules.specs.Sending.{send_counts, send_kept, send_report}
use Rattle.node_rules.specs.Setup.{Setup, node_of, setup_of}
use Rattle.node_rules.specs.Terminal.{TerminalNode, air_taken, air_taken_by, half_set, half_set_if, is_takable, item_taken, plan_taken, recovered_half, reported_there, scg_fails, submitted_there, terminal_control, terminal_event, terminal_record, terminal_step, terminal_takes}
use Rattle.node_rules.specs.TerminalHalf.{TerminalHalf, is_taken, leg_send, pdu_came, submit_as, terminal_air_in, with_sends}
use Rattle.node_rules.specs.declared.bearers.OnLeg.{OnLeg}
use Rattle.node_rules.specs.declared.inputs.Effects.{Effects}
use Rattle.node_rules.specs.declared.inputs.Input.{Input}
use Rattle.node_rules.specs.declared.inputs.Input.TheVariants.{Cmd, Come}
use Rattle.run_words.proofs.Lines.{each_flat}
use Rattle.run_senders.specs.Kinds.{is_of_terminal}

-- a send may come from the terminal
abbrev IsOfTerminal : Send → Type 0
IsOfTerminal s = is_of_terminal s.0 s.1 ≡ true

-- each may
abbrev AreOfTerminal : List Send → Type 0
AreOfTerminal ss = AllByRecursion IsOfTerminal ss

-- ---- from its entities

by_leg : (s : Setup) (p : OnLeg) (o : Option Node) → AreOfTerminal (leg_send s p o)
by_leg s p None = tt
by_leg s p (Some node) = (refl, tt)

by_entity : (done : Entity × List OnLeg) → AreOfTerminal (with_sends done).1
by_entity done = each_flat IsOfTerminal (λ p. leg_send done.0.setup p (node_of done.0.setup.sec p.cell)) done.1 (λ p. by_leg done.0.setup p (node_of done.0.setup.sec p.cell))

-- ---- events

by_submission : (c : Choices) (h : TerminalHalf) (r : Result (Sender × ℕ) TxErr) → AreOfTerminal (submit_as c h r).2
by_submission c h (Ok (tx, count)) = by_entity (send_counts c (record h { tx = tx }) (count ∷ []))
by_submission c h (Err (unable.Full lowest next)) = tt
by_submission c h (Err unable.Exhausted) = tt
by_submission c h (Err unable.Memory) = tt

by_submitted : (c : Choices) (t : TerminalNode) (id : ℕ) (payload : List ℕ) (o : Option TerminalHalf) → AreOfTerminal (submitted_there c t id payload o).1.sends
by_submitted c t id payload None = tt
by_submitted c t id payload (Some h) = by_submission c h (take_sdu h.tx payload)

by_reported : (c : Choices) (t : TerminalNode) (id : ℕ) (o : Option TerminalHalf) → AreOfTerminal (reported_there c t id o).1.sends
by_reported c t id None = tt
by_reported c t id (Some h) = by_entity (send_report c h)

by_failure : (t : TerminalNode) (o : Option Node) → AreOfTerminal (scg_fails t o).1.sends
by_failure t None = tt
by_failure t (Some sec) = (refl, tt)

by_event : (c : Choices) (t : TerminalNode) (e : Event) → AreOfTerminal (terminal_event c t e).1.sends
by_event c t (event.Submit id d payload) = by_submitted c t id payload (held id t.halves)
by_event c t (event.Report node id) = by_reported c t id (held id t.halves)
by_event c t event.ScgFail = by_failure t t.sec
by_event c t (event.Bearer id n first shape threshold policy) = tt
by_event c t (event.Reshape id shape) = tt
by_event c t (event.Remove id) = tt
by_event c t (event.Add node) = tt
by_event c t event.Change = tt
by_event c t event.Release = tt
by_event c t event.RekeySecond = tt
by_event c t (event.RekeyMaster root) = tt
by_event c t (event.Recover id) = tt
by_event c t (event.Deny node on) = tt
by_event c t (event.Ask node what) = tt
by_event c t (event.Step l i) = tt
by_event c t (event.Lose l i) = tt
by_event c t (event.Again l i) = tt

-- ---- records

by_each : {S X : Type 0} (f : S → X → S × Effects) → ((s : S) (x : X) → AreOfTerminal (f s x).1.sends) → (s : S) (xs : List X) → AreOfTerminal (in_turn f s xs).1.sends
by_each f each s [] = tt
by_each f each s (x ∷ xs) = each_append IsOfTerminal (f s x).1.sends (in_turn f (f s x).0 xs).1.sends (each s x) (by_each f each (f s x).0 xs)

by_half : (c : Choices) (t : TerminalNode) (id : ℕ) (s : Setup) (o : Option TerminalHalf) → AreOfTerminal (half_set c t id s o).1.sends
by_half c t id s None = tt
by_half c t id s (Some h) = by_entity (send_kept c (renewed h s))

by_half_if : (c : Choices) (t : TerminalNode) (id : ℕ) (o : Option Setup) → AreOfTerminal (half_set_if c t id o).1.sends
by_half_if c t id None = tt
by_half_if c t id (Some s) = by_half c t id s (held id t.halves)

by_item : (c : Choices) (root : List ℕ) (p : Plan) (t : TerminalNode) (i : Item) → AreOfTerminal (item_taken c root p t i).1.sends
by_item c root p t (item.Set id n first shape threshold policy key old) =
    by_half_if c t id (setup_of T p t.alg (octets_of_side root key.side) (item.Set id n first shape threshold policy key old))
by_item c root p t (item.Unset id) = tt

by_plan : (c : Choices) (root : List ℕ) (p : Plan) (t : TerminalNode) (takes : Bool) → AreOfTerminal (plan_taken c root p t takes).1.sends
by_plan c root p t true = (refl, by_each (item_taken c root p) (by_item c root p) (record t { sec = p.sec }) p.items)
by_plan c root p t false = tt

by_recovered : (c : Choices) (t : TerminalNode) (id : ℕ) (o : Option TerminalHalf) → AreOfTerminal (recovered_half c t id o).1.sends
by_recovered c t id None = tt
by_recovered c t id (Some h) = (refl, by_entity (send_kept c h))

by_record : (c : Choices) (t : TerminalNode) (r : Rec) → AreOfTerminal (terminal_record c t r).1.sends
by_record c t (rec.Reconf plan key) = by_plan c key plan t (not (list_any (λ i. not (is_takable t i)) plan.items))
by_record c t (rec.Recov id) = by_recovered c t id (held id t.halves)
by_record c t (rec.Rcomp g) = tt
by_record c t (rec.Scgf failed) = tt
by_record c t (rec.Recovd id) = tt
by_record c t (rec.Addreq plan key) = tt
by_record c t (rec.Addack g) = tt
by_record c t (rec.Addrej g) = tt
by_record c t (rec.Modreq plan key) = tt
by_record c t (rec.Modack g) = tt
by_record c t (rec.Modrej g) = tt
by_record c t (rec.Recfg g) = tt
by_record c t (rec.Relreq plan) = tt
by_record c t (rec.Relack g) = tt
by_record c t (rec.Relrej g) = tt
by_record c t (rec.Uecr g) = tt
by_record c t (rec.Snst status) = tt
by_record c t (rec.Moved g id) = tt
by_record c t (rec.Scgn id g) = tt
by_record c t rec.Modrqd = tt
by_record c t (rec.Modcnf g) = tt
by_record c t (rec.Modref word) = tt
by_record c t rec.Chgrqd = tt
by_record c t (rec.Chgcnf plan) = tt
by_record c t (rec.Chgref word) = tt
by_record c t rec.Relrqd = tt
by_record c t (rec.Relcnf plan) = tt

-- ---- flights

by_pdu : (h : TerminalHalf) (from : Node) (num : ℕ) (r : Result Content PduErr) → AreOfTerminal (pdu_came h from num r).1.sends
by_pdu h from num (Err e) = tt
by_pdu h from num (Ok x) = (refl, tt)

by_air : (h : TerminalHalf) (from : Node) (f : Flight) → AreOfTerminal (terminal_air_in h from f).1.sends
by_air h from (flight.Air id g num tag pdu) =
    elim (cases_Bool (is_taken h.setup from id g)) [ inl yes' ↦ rw yes' (by_pdu h from num (decoded h.setup.n pdu)) | inr no' ↦ rw no' tt ]
by_air h from (flight.Ack id g num) = elim (cases_Bool (is_taken h.setup from id g)) [ inl yes' ↦ rw yes' tt | inr no' ↦ rw no' tt ]
by_air h from (flight.Tun tag packet) = tt
by_air h from (flight.Sdu id g sdu) = tt
by_air h from (flight.End id g) = tt
by_air h from (flight.Told id g count) = tt
by_air h from (flight.Ctl r) = tt

by_air_for : (t : TerminalNode) (from : Node) (f : Flight) (id : ℕ) (o : Option TerminalHalf) → AreOfTerminal (air_taken_by t from f id o).1.sends
by_air_for t from f id None = tt
by_air_for t from f id (Some h) = by_air h from f

by_air_named : (t : TerminalNode) (from : Node) (f : Flight) (o : Option Named) → AreOfTerminal (air_taken t from f o).1.sends
by_air_named t from f None = tt
by_air_named t from f (Some (id, g)) = by_air_for t from f id (held id t.halves)

by_control : (c : Choices) (t : TerminalNode) (f : Flight) → AreOfTerminal (terminal_control c t f).1.sends
by_control c t (flight.Ctl r) = by_record c t r
by_control c t (flight.Air id g num tag pdu) = tt
by_control c t (flight.Ack id g num) = tt
by_control c t (flight.Tun tag packet) = tt
by_control c t (flight.Sdu id g payload) = tt
by_control c t (flight.End id g) = tt
by_control c t (flight.Told id g count) = tt

by_class : (c : Choices) (t : TerminalNode) (from : Node) (f : Flight) (k : Class) → AreOfTerminal (terminal_takes c t from f k).1.sends
by_class c t from f Ctl = by_control c t f
by_class c t from f Feed = tt
by_class c t from f Air = by_air_named t from f (flight_named f)
by_class c t from f Tun = tt

-- all that it sends, whatever comes
pub terminal_kinds : (c : Choices) (t : TerminalNode) (i : Input) → AreOfTerminal (terminal_step c t i).1.sends
terminal_kinds c t (Cmd e) = by_event c t e
terminal_kinds c t (Come l f) = by_class c t l.from f l.class
