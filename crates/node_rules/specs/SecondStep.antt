-- What a secondary node does with one input.
use Rattle.std.specs.List.{list_any}
use Rattle.std.specs.Prelude.{Bool, Err, List, None, Ok, Option, Result, Some, [], false, if◌then◌else◌, is_some, nat_lt, not, true, ℕ, ◌&&◌, ◌==◌}
use Rattle.dc_base.specs.Count.{bits}
use Rattle.dc_base.specs.Nodes.{is_same_node}
use Rattle.dc_base.specs.declared.answers.Refusal.TheVariants as refusal
use Rattle.dc_base.specs.declared.events.Event.{Event}
use Rattle.dc_base.specs.declared.events.Event.TheVariants as event
use Rattle.dc_base.specs.declared.flights.Flight.{Flight}
use Rattle.dc_base.specs.declared.flights.Flight.TheVariants as flight
use Rattle.dc_base.specs.declared.nodes.Cell.TheVariants as cell
use Rattle.dc_base.specs.declared.nodes.Class.{Class}
use Rattle.dc_base.specs.declared.nodes.Class.TheVariants.{Air, Ctl, Feed, Tun}
use Rattle.dc_base.specs.declared.numbers.SnLen.{SnLen}
use Rattle.dc_base.specs.declared.records.Item.{Item}
use Rattle.dc_base.specs.declared.records.Item.TheVariants as item
use Rattle.dc_base.specs.declared.records.Plan.{Plan}
use Rattle.dc_base.specs.declared.records.Rec.{Rec}
use Rattle.dc_base.specs.declared.records.Rec.TheVariants as rec
use Rattle.node_rules.specs.Acts.{ProcFault, refused, unexpected}
use Rattle.node_rules.specs.declared.bearers.AnchorOut.{AnchorOut}
use Rattle.node_rules.specs.Anchor.{Active, AnchorState}
use Rattle.node_rules.specs.AnchorReceiving.{air_in, tunnel_in}
use Rattle.node_rules.specs.AnchorSending.{report}
use Rattle.node_rules.specs.declared.inputs.Input.{Input}
use Rattle.node_rules.specs.declared.inputs.Outcome.{Outcome}
use Rattle.node_rules.specs.declared.inputs.Input.TheVariants.{Cmd, Come}
use Rattle.node_rules.specs.Choices.{Choices, Send}
use Rattle.node_rules.specs.declared.inputs.Effects.{Effects}
use Rattle.node_rules.specs.Effects.{accepted, quiet, turned_down}
use Rattle.node_rules.specs.Feed.{Fed, Frozen, end_in, frozen_end_in, frozen_sdu_in, sdu_in}
use Rattle.node_rules.specs.Flights.{Named, flight_named}
use Rattle.node_rules.specs.Held.{held, holding}
use Rattle.node_rules.specs.Host.{Host}
use Rattle.node_rules.specs.HostRules.{host_air_in, host_tunnel_in}
use Rattle.node_rules.specs.SecondPlan.{second_does, with_fed}
use Rattle.node_rules.specs.SecondRecords.{second_take}
use Rattle.node_rules.specs.SecondState.{SecondActs, second_command}
use Rattle.node_rules.specs.Secondary.{SecondNode, active_at, fed_did, is_fed_of, name_of, on_fed}

-- ---- its events

-- a command is carried on, or refused (part of the rule second_event)
abbrev pub second_commanded : Choices → SecondNode → Result SecondActs ProcFault → SecondNode × Outcome
second_commanded c s (Ok r) = accepted (second_does c [] s r)
second_commanded c s (Err (refused why)) = turned_down s why
second_commanded c s (Err (unexpected k)) = accepted (s, quiet)

-- a status report is asked for; a node that only waits for a bearer does not have it
-- (TS 38.323, 5.4.1; the command is this product's own)
abbrev pub second_report : Choices → SecondNode → ℕ → Option Active → SecondNode × Outcome
second_report c s id None = turned_down s refusal.NoBearer
second_report c s id (Some a) = accepted (on_fed s id (report c) (held id s.anchors))

-- an event that a secondary node takes; any other one does nothing there (this product's own)
abbrev pub second_event : Choices → SecondNode → Event → SecondNode × Outcome
second_event c s (event.Report node id) = second_report c s id (active_at s id)
second_event c s (event.Deny node on) = second_commanded c s (second_command s.proc (event.Deny node on))
second_event c s (event.Ask node what) = second_commanded c s (second_command s.proc (event.Ask node what))
second_event c s (event.Bearer id n first shape threshold policy) = accepted (s, quiet)
second_event c s (event.Reshape id shape) = accepted (s, quiet)
second_event c s (event.Remove id) = accepted (s, quiet)
second_event c s (event.Add node) = accepted (s, quiet)
second_event c s event.Change = accepted (s, quiet)
second_event c s event.Release = accepted (s, quiet)
second_event c s event.RekeySecond = accepted (s, quiet)
second_event c s (event.RekeyMaster root) = accepted (s, quiet)
second_event c s (event.Recover id) = accepted (s, quiet)
second_event c s event.ScgFail = accepted (s, quiet)
second_event c s (event.Submit id d payload) = accepted (s, quiet)
second_event c s (event.Step l i) = accepted (s, quiet)
second_event c s (event.Lose l i) = accepted (s, quiet)
second_event c s (event.Again l i) = accepted (s, quiet)

-- ---- records

-- the plan that a record for a secondary node carries (part of the rule is_fit)
abbrev pub plan_in : Rec → Option Plan
plan_in (rec.Addreq plan key) = Some plan
plan_in (rec.Modreq plan key) = Some plan
plan_in (rec.Relreq plan) = Some plan
plan_in (rec.Chgcnf plan) = Some plan
plan_in (rec.Relcnf plan) = Some plan
plan_in (rec.Reconf plan key) = None
plan_in (rec.Rcomp g) = None
plan_in (rec.Scgf failed) = None
plan_in (rec.Recov id) = None
plan_in (rec.Recovd id) = None
plan_in (rec.Addack g) = None
plan_in (rec.Addrej g) = None
plan_in (rec.Modack g) = None
plan_in (rec.Modrej g) = None
plan_in (rec.Recfg g) = None
plan_in (rec.Relack g) = None
plan_in (rec.Relrej g) = None
plan_in (rec.Uecr g) = None
plan_in (rec.Snst status) = None
plan_in (rec.Moved g id) = None
plan_in (rec.Scgn id g) = None
plan_in rec.Modrqd = None
plan_in (rec.Modcnf g) = None
plan_in (rec.Modref word) = None
plan_in rec.Chgrqd = None
plan_in (rec.Chgref word) = None
plan_in rec.Relrqd = None

-- the octets of the K_SN that it carries (TS 38.423, 8.3.1 and 8.3.3; TS 33.501, 6.10)
abbrev pub key_in : Rec → List ℕ
key_in (rec.Addreq plan key) = key
key_in (rec.Modreq plan key) = key
key_in (rec.Reconf plan key) = []
key_in (rec.Rcomp g) = []
key_in (rec.Scgf failed) = []
key_in (rec.Recov id) = []
key_in (rec.Recovd id) = []
key_in (rec.Addack g) = []
key_in (rec.Addrej g) = []
key_in (rec.Modack g) = []
key_in (rec.Modrej g) = []
key_in (rec.Recfg g) = []
key_in (rec.Relreq plan) = []
key_in (rec.Relack g) = []
key_in (rec.Relrej g) = []
key_in (rec.Uecr g) = []
key_in (rec.Snst status) = []
key_in (rec.Moved g id) = []
key_in (rec.Scgn id g) = []
key_in rec.Modrqd = []
key_in (rec.Modcnf g) = []
key_in (rec.Modref word) = []
key_in rec.Chgrqd = []
key_in (rec.Chgcnf plan) = []
key_in (rec.Chgref word) = []
key_in rec.Relrqd = []
key_in (rec.Relcnf plan) = []

-- the active anchor is of a bearer of this SN length and first COUNT (part of the rule is_unfit)
abbrev pub is_like : SnLen → ℕ → Option Active → Bool
is_like n first None = false
is_like n first (Some a) = (bits a.entity.setup.n == bits n) && (a.entity.setup.first == first)

-- an item has its old anchor at the node, which has no such active one (part of the rule is_fit_plan)
abbrev pub is_unfit : SecondNode → Item → Bool
is_unfit s (item.Set id n first shape threshold policy key None) = false
is_unfit s (item.Set id n first shape threshold policy key (Some old)) = is_same_node old (name_of s) && not (is_like n first (active_at s id))
is_unfit s (item.Unset id) = false

-- none of a plan does (part of the rule is_fit)
abbrev pub is_fit_plan : SecondNode → Option Plan → Bool
is_fit_plan s None = true
is_fit_plan s (Some p) = not (list_any (is_unfit s) p.items)

-- the bearer that a record orders to recover (part of the rule is_fit)
abbrev pub recovery_in : Rec → Option ℕ
recovery_in (rec.Reconf plan key) = None
recovery_in (rec.Rcomp g) = None
recovery_in (rec.Scgf failed) = None
recovery_in (rec.Recov id) = Some id
recovery_in (rec.Recovd id) = None
recovery_in (rec.Addreq plan key) = None
recovery_in (rec.Addack g) = None
recovery_in (rec.Addrej g) = None
recovery_in (rec.Modreq plan key) = None
recovery_in (rec.Modack g) = None
recovery_in (rec.Modrej g) = None
recovery_in (rec.Recfg g) = None
recovery_in (rec.Relreq plan) = None
recovery_in (rec.Relack g) = None
recovery_in (rec.Relrej g) = None
recovery_in (rec.Uecr g) = None
recovery_in (rec.Snst status) = None
recovery_in (rec.Moved g id) = None
recovery_in (rec.Scgn id g) = None
recovery_in rec.Modrqd = None
recovery_in (rec.Modcnf g) = None
recovery_in (rec.Modref word) = None
recovery_in rec.Chgrqd = None
recovery_in (rec.Chgcnf plan) = None
recovery_in (rec.Chgref word) = None
recovery_in rec.Relrqd = None
recovery_in (rec.Relcnf plan) = None

-- it is active at the node (part of the rule is_fit)
abbrev pub is_fit_recovery : SecondNode → Option ℕ → Bool
is_fit_recovery s None = true
is_fit_recovery s (Some id) = is_some (active_at s id)

-- a record fits the anchors of the node (this product's own)
abbrev pub is_fit : SecondNode → Rec → Bool
is_fit s r = is_fit_plan s (plan_in r) && is_fit_recovery s (recovery_in r)

-- a record that has no row in the state is taken without effect
-- (TS 38.423, 8.3; that such a record does nothing is this product's own)
abbrev pub second_record_taken : Choices → List ℕ → SecondNode → Result SecondActs ProcFault → SecondNode × Effects
second_record_taken c key s (Ok r) = second_does c key s r
second_record_taken c key s (Err why) = (s, quiet)

-- a record that does not fit the anchors is taken without effect, whatever the procedures would do
-- (TS 38.423, 8.3; that such a record does nothing is this product's own)
abbrev pub second_record : Choices → SecondNode → Rec → Bool → SecondNode × Effects
second_record c s r true = second_record_taken c (key_in r) s (second_take s.proc r)
second_record c s r false = (s, quiet)

-- ---- the core's lines

-- the SDU is one that a frozen anchor forwards (part of the rule second_line)
abbrev pub is_before_change : ℕ → Option Frozen → Bool
is_before_change g None = false
is_before_change g (Some f) = nat_lt g f.tunnel.g

-- an SDU comes to a frozen anchor (TS 37.340, 10)
abbrev pub frozen_took : SecondNode → ℕ → ℕ → List ℕ → Option Frozen → SecondNode × Effects
frozen_took s id g payload None = (s, quiet)
frozen_took s id g payload (Some f) =
    let done = frozen_sdu_in f g payload in
    (record s { frozen = holding id (Some done.0) s.frozen }, record { notes = []; sends = done.1 })

-- or to an anchor (TS 37.340, 8)
abbrev pub fed_took : Choices → SecondNode → ℕ → ℕ → List ℕ → Option Fed → SecondNode × Effects
fed_took c s id g payload None = (s, quiet)
fed_took c s id g payload (Some x) = fed_did s id (sdu_in c x g payload)

-- the line of a frozen anchor ends (TS 37.340, 10; TS 29.281, 7.3.2)
abbrev pub frozen_ended : SecondNode → ℕ → ℕ → Option Frozen → SecondNode × Effects
frozen_ended s id g None = (s, quiet)
frozen_ended s id g (Some f) =
    let done = frozen_end_in f g in (record s { frozen = holding id done.0 s.frozen }, record { notes = []; sends = done.1 })

-- or that of an anchor (this product's own)
abbrev pub fed_ended : SecondNode → ℕ → ℕ → Option Fed → SecondNode × Effects
fed_ended s id g None = (s, quiet)
fed_ended s id g (Some x) = (with_fed s id (Some (end_in x g x.anchor)), quiet)

-- a flight comes on the line from the core: SDUs and the end of a path do (TS 37.340, 8 and 10; the line is this product's own)
abbrev pub second_line : Choices → SecondNode → Flight → SecondNode × Effects
second_line c s (flight.Sdu id g payload) =
    if is_before_change g (held id s.frozen) then frozen_took s id g payload (held id s.frozen)
    else fed_took c s id g payload (held id s.anchors)
second_line c s (flight.End id g) =
    if is_some (held id s.frozen) then frozen_ended s id g (held id s.frozen) else fed_ended s id g (held id s.anchors)
second_line c s (flight.Told id g count) = (s, quiet)
second_line c s (flight.Air id g num tag pdu) = (s, quiet)
second_line c s (flight.Ack id g num) = (s, quiet)
second_line c s (flight.Tun tag packet) = (s, quiet)
second_line c s (flight.Ctl r) = (s, quiet)

-- ---- other flights

-- a step of the leg host of a bearer, where the node has it (TS 38.425, 5.4)
abbrev pub on_second_host : SecondNode → ℕ → (Host → Host × List Send) → Option Host → SecondNode × Effects
on_second_host s id f None = (s, quiet)
on_second_host s id f (Some h) =
    let done = f h in (record s { hosts = holding id (Some done.0) s.hosts }, record { notes = []; sends = done.1 })

-- a flight of user data: for the anchor of its bearer and generation, or else for the leg host (TS 37.340, 4.2.2)
abbrev pub second_data : SecondNode → (AnchorState → AnchorState × AnchorOut) → (Host → Host × List Send) → Option Named → SecondNode × Effects
second_data s f h None = (s, quiet)
second_data s f h (Some (id, g)) =
    if is_fed_of g (held id s.anchors) then on_fed s id f (held id s.anchors) else on_second_host s id h (held id s.hosts)

-- a flight comes on a control link: only records do (TS 38.423, 8.2.2, 8.2.7 and 8.3)
abbrev pub second_control : Choices → SecondNode → Flight → SecondNode × Effects
second_control c s (flight.Ctl r) = second_record c s r (is_fit s r)
second_control c s (flight.Air id g num tag pdu) = (s, quiet)
second_control c s (flight.Ack id g num) = (s, quiet)
second_control c s (flight.Tun tag packet) = (s, quiet)
second_control c s (flight.Sdu id g payload) = (s, quiet)
second_control c s (flight.End id g) = (s, quiet)
second_control c s (flight.Told id g count) = (s, quiet)

-- a flight comes on a link of this class (this product's own)
abbrev pub second_takes : Choices → SecondNode → Flight → Class → SecondNode × Effects
second_takes c s f Ctl = second_control c s f
second_takes c s f Feed = second_line c s f
second_takes c s f Air = second_data s (λ a. air_in a cell.Scg f) (λ h. host_air_in h f) (flight_named f)
second_takes c s f Tun = second_data s (λ a. tunnel_in c a f) (λ h. host_tunnel_in h f) (flight_named f)

-- a secondary node takes an input (this product's own)
abbrev pub second_step : Choices → SecondNode → Input → SecondNode × Outcome
second_step c s (Cmd e) = second_event c s e
second_step c s (Come l f) = accepted (second_takes c s f l.class)
