-- What the master does with one input.
use Rattle.std.specs.Prelude.{Bool, Err, List, None, Ok, Option, Result, Some, [], false, if◌then◌else◌, length, nat_le, true, ℕ, ◌+◌, ◌-◌, ◌==◌, ◌^◌, ◌∷◌}
use Rattle.dc_base.specs.Count.{window}
use Rattle.dc_base.specs.Links.{link}
use Rattle.dc_base.specs.declared.answers.Refusal.{Refusal}
use Rattle.dc_base.specs.declared.answers.Refusal.TheVariants as refusal
use Rattle.dc_base.specs.declared.events.Event.{Event}
use Rattle.dc_base.specs.declared.events.Event.TheVariants as event
use Rattle.dc_base.specs.declared.flights.Flight.{Flight}
use Rattle.dc_base.specs.declared.flights.Flight.TheVariants as flight
use Rattle.dc_base.specs.declared.nodes.Cell.TheVariants as cell
use Rattle.dc_base.specs.declared.nodes.Class.{Class}
use Rattle.dc_base.specs.declared.nodes.Class.TheVariants.{Air, Ctl, Feed, Tun}
use Rattle.dc_base.specs.declared.nodes.Node.{Node}
use Rattle.dc_base.specs.declared.nodes.Node.TheVariants.{A, B, M, T}
use Rattle.node_rules.specs.Acts.{ProcFault, first_refusal, refused, unexpected}
use Rattle.node_rules.specs.declared.bearers.AnchorOut.{AnchorOut}
use Rattle.node_rules.specs.Anchor.{AnchorState, setup_at}
use Rattle.node_rules.specs.AnchorReceiving.{air_in, tunnel_in}
use Rattle.node_rules.specs.AnchorSending.{report, submit}
use Rattle.node_rules.specs.declared.inputs.Input.{Input}
use Rattle.node_rules.specs.declared.inputs.Outcome.{Outcome}
use Rattle.node_rules.specs.declared.inputs.Input.TheVariants.{Cmd, Come}
use Rattle.node_rules.specs.Choices.{Choices, Send}
use Rattle.node_rules.specs.declared.commands.Row.{Row}
use Rattle.node_rules.specs.CommandTable.{row}
use Rattle.node_rules.specs.declared.inputs.Effects.{Effects}
use Rattle.node_rules.specs.Effects.{accepted, in_turn, quiet, sent, turned_down, unless}
use Rattle.node_rules.specs.Flights.{Named, flight_named}
use Rattle.node_rules.specs.Held.{held, holding}
use Rattle.node_rules.specs.Host.{Host}
use Rattle.node_rules.specs.HostRules.{host_air_in, host_tunnel_in}
use Rattle.node_rules.specs.declared.bearers.Window.{Window}
use Rattle.node_rules.specs.Master.{MasterNode, on_anchor, told_by}
use Rattle.node_rules.specs.MasterCommands.{master_command}
use Rattle.node_rules.specs.MasterPlan.{does, master_did, on_waiting}
use Rattle.node_rules.specs.MasterState.{MasterActs, has_bearer, is_unsettled}
use Rattle.node_rules.specs.MasterTaking.{master_take}

-- ---- its events

-- a command is carried on, or refused (part of the rule command_taken)
abbrev pub commanded : Choices → MasterNode → Result MasterActs ProcFault → MasterNode × Outcome
commanded c m (Ok r) = accepted (does c m r)
commanded c m (Err (refused why)) = turned_down m why
commanded c m (Err (unexpected k)) = accepted (m, quiet)

-- a submission goes to the anchor: at the master at once, else over the core's line, with the generation of the bearer's path
-- (TS 37.340, 8; the line is this product's own)
abbrev pub to_anchor_at : Choices → MasterNode → ℕ → ℕ → List ℕ → Node → MasterNode × Effects
to_anchor_at c m id g payload M = on_anchor m id (λ a. submit c a payload) (held id m.anchors)
to_anchor_at c m id g payload A = (m, sent (link M A Feed) (flight.Sdu id g payload))
to_anchor_at c m id g payload B = (m, sent (link M B Feed) (flight.Sdu id g payload))
to_anchor_at c m id g payload T = (m, quiet)

-- one more submission is accepted (part of the rule submitted_to)
abbrev pub with_accepted : MasterNode → ℕ → Window → MasterNode
with_accepted m id w = record m { windows = holding id (Some (record w { accepted = w.accepted + 1 })) m.windows }

-- the conditions under which a submission is refused, in their order: the window is full, or the COUNTs are used up
-- (TS 38.323, 5.2.1; the refusals are this product's own)
abbrev pub submit_refusals : Row → Window → List (Bool × Refusal)
submit_refusals r w =
    (nat_le (window r.n) (r.first + w.accepted - w.told), refusal.Full) ∷ (r.first + w.accepted == 2 ^ 32 - 1, refusal.Exhausted) ∷ []

-- a payload is submitted to a bearer of the table (part of the rule submitted)
abbrev pub submitted_to : Choices → MasterNode → ℕ → List ℕ → Row → Option Window → MasterNode × Outcome
submitted_to c m id payload r None = turned_down m refusal.NoBearer
submitted_to c m id payload r (Some w) =
    unless m (first_refusal (submit_refusals r w)) (to_anchor_at c (with_accepted m id w) id r.g payload r.anchor)

-- the bearer, unless a command is setting it up or dropping it (part of the rule submitted)
abbrev pub settled_row : MasterNode → ℕ → Option Row
settled_row m id = if is_unsettled id m.proc.command then None else row m.proc.table id

-- a payload is submitted in downlink (TS 38.323, 5.2.1)
abbrev pub submitted : Choices → MasterNode → ℕ → List ℕ → Option Row → MasterNode × Outcome
submitted c m id payload None = turned_down m refusal.NoBearer
submitted c m id payload (Some r) = submitted_to c m id payload r (held id m.windows)

-- a status report is asked for: where the anchor is elsewhere, waiting or closed, nothing is sent
-- (TS 38.323, 5.4.1; the command is this product's own)
abbrev pub report_asked : Choices → MasterNode → ℕ → Bool → MasterNode × Outcome
report_asked c m id false = turned_down m refusal.NoBearer
report_asked c m id true = accepted (on_anchor m id (report c) (held id m.anchors))

-- a command is given (this product's own)
abbrev pub command_taken : Choices → MasterNode → Event → MasterNode × Outcome
command_taken c m e = commanded c m (master_command (length c.policies) m.proc e)

-- an event that the master takes; any other one does nothing there (this product's own)
abbrev pub master_event : Choices → MasterNode → Event → MasterNode × Outcome
master_event c m (event.Bearer id n first shape threshold policy) = command_taken c m (event.Bearer id n first shape threshold policy)
master_event c m (event.Reshape id shape) = command_taken c m (event.Reshape id shape)
master_event c m (event.Remove id) = command_taken c m (event.Remove id)
master_event c m (event.Add node) = command_taken c m (event.Add node)
master_event c m event.Change = command_taken c m event.Change
master_event c m event.Release = command_taken c m event.Release
master_event c m event.RekeySecond = command_taken c m event.RekeySecond
master_event c m (event.RekeyMaster root) = command_taken c m (event.RekeyMaster root)
master_event c m (event.Recover id) = command_taken c m (event.Recover id)
master_event c m (event.Report node id) = report_asked c m id (has_bearer m.proc id)
master_event c m (event.Deny node on) = accepted (m, quiet)
master_event c m (event.Ask node what) = accepted (m, quiet)
master_event c m event.ScgFail = accepted (m, quiet)
master_event c m (event.Submit id d payload) = submitted c m id payload (settled_row m id)
master_event c m (event.Step l i) = accepted (m, quiet)
master_event c m (event.Lose l i) = accepted (m, quiet)
master_event c m (event.Again l i) = accepted (m, quiet)

-- ---- flights

-- a record is taken; one that has no row in the state is taken without effect
-- (TS 38.423, 8.3; that such a record does nothing is this product's own)
abbrev pub record_taken : Choices → MasterNode → Result MasterActs ProcFault → MasterNode × Effects
record_taken c m (Ok r) = in_turn (master_did c) (record m { proc = r.0 }) r.1
record_taken c m (Err why) = (m, quiet)

-- a leg host after its step (part of the rule on_host)
abbrev pub host_did : MasterNode → ℕ → Host × List Send → MasterNode × Effects
host_did m id done = (record m { hosts = holding id (Some done.0) m.hosts }, record { notes = []; sends = done.1 })

-- a step of the leg host of a bearer, where the master has it (TS 38.425, 5.4)
abbrev pub on_host : MasterNode → ℕ → (Host → Host × List Send) → Option Host → MasterNode × Effects
on_host m id f None = (m, quiet)
on_host m id f (Some h) = host_did m id (f h)

-- the anchor is the one of this generation (part of the rule data_taken)
abbrev pub is_anchor_of : ℕ → Option AnchorState → Bool
is_anchor_of g None = false
is_anchor_of g (Some a) = (setup_at a).g == g

-- a flight of user data: for the anchor of its bearer and generation, or else for the leg host (TS 37.340, 4.2.2)
abbrev pub data_taken : Choices → MasterNode → (AnchorState → AnchorState × AnchorOut) → (Host → Host × List Send) → Option Named → MasterNode × Effects
data_taken c m f h None = (m, quiet)
data_taken c m f h (Some (id, g)) =
    if is_anchor_of g (held id m.anchors) then on_waiting c m id f (held id m.anchors) else on_host m id h (held id m.hosts)

-- a flight comes on the line from a secondary anchor: only Low is told there (this product's own)
abbrev pub line_taken : MasterNode → Flight → MasterNode × Effects
line_taken m (flight.Told id g count) = told_by m id g count (row m.proc.table id)
line_taken m (flight.Sdu id g payload) = (m, quiet)
line_taken m (flight.End id g) = (m, quiet)
line_taken m (flight.Air id g num tag pdu) = (m, quiet)
line_taken m (flight.Ack id g num) = (m, quiet)
line_taken m (flight.Tun tag packet) = (m, quiet)
line_taken m (flight.Ctl r) = (m, quiet)

-- a flight comes on a control link: only records do (TS 38.423, 8.3; TS 38.331, 5.3.5 and 5.7.3)
abbrev pub control_taken : Choices → MasterNode → Node → Flight → MasterNode × Effects
control_taken c m from (flight.Ctl r) = record_taken c m (master_take from m.proc r)
control_taken c m from (flight.Air id g num tag pdu) = (m, quiet)
control_taken c m from (flight.Ack id g num) = (m, quiet)
control_taken c m from (flight.Tun tag packet) = (m, quiet)
control_taken c m from (flight.Sdu id g payload) = (m, quiet)
control_taken c m from (flight.End id g) = (m, quiet)
control_taken c m from (flight.Told id g count) = (m, quiet)

-- a flight comes from a node on a link of this class (this product's own)
abbrev pub master_takes : Choices → MasterNode → Node → Flight → Class → MasterNode × Effects
master_takes c m from f Ctl = control_taken c m from f
master_takes c m from f Feed = line_taken m f
master_takes c m from f Air = data_taken c m (λ a. air_in a cell.Mcg f) (λ h. host_air_in h f) (flight_named f)
master_takes c m from f Tun = data_taken c m (λ a. tunnel_in c a f) (λ h. host_tunnel_in h f) (flight_named f)

-- the master takes an input (this product's own)
abbrev pub master_step : Choices → MasterNode → Input → MasterNode × Outcome
master_step c m (Cmd e) = master_event c m e
master_step c m (Come l f) = accepted (master_takes c m l.from f l.class)
