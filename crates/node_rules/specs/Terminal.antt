-- The terminal: what it holds, and what it does with one input (TS 38.331, 5.3.5 and 5.7.3).
use Rattle.std.specs.List.{list_any}
use Rattle.std.specs.Prelude.{Bool, List, None, Option, Some, [], false, flat_map, if◌then◌else◌, is_none, is_some, map, not, true, ℕ, ◌&&◌, ◌++◌, ◌==◌, ◌∷◌}
use Rattle.dc_base.specs.Count.{bits}
use Rattle.dc_base.specs.declared.answers.Answer.{Answer}
use Rattle.dc_base.specs.declared.answers.Refusal.TheVariants as refusal
use Rattle.dc_base.specs.declared.events.Event.{Event}
use Rattle.dc_base.specs.declared.events.Event.TheVariants as event
use Rattle.dc_base.specs.declared.events.Note.{Note}
use Rattle.dc_base.specs.declared.events.Note.TheVariants as note
use Rattle.dc_base.specs.declared.flights.Flight.{Flight}
use Rattle.dc_base.specs.declared.flights.Flight.TheVariants as flight
use Rattle.dc_base.specs.declared.nodes.Alg.{Alg}
use Rattle.dc_base.specs.declared.nodes.Class.{Class}
use Rattle.dc_base.specs.declared.nodes.Class.TheVariants.{Air, Ctl, Feed, Tun}
use Rattle.dc_base.specs.declared.nodes.Dir.TheVariants.{Dl, Ul}
use Rattle.dc_base.specs.declared.nodes.Node.{Node}
use Rattle.dc_base.specs.declared.nodes.Node.TheVariants.{M, T}
use Rattle.dc_base.specs.declared.numbers.SnLen.{SnLen}
use Rattle.dc_base.specs.declared.records.Item.{Item}
use Rattle.dc_base.specs.declared.records.Item.TheVariants as item
use Rattle.dc_base.specs.declared.records.Plan.{Plan}
use Rattle.dc_base.specs.declared.records.Rec.{Rec}
use Rattle.dc_base.specs.declared.records.Rec.TheVariants as rec
use Rattle.key_chain.specs.KeyNames.{octets_of_side}
use Rattle.node_rules.specs.declared.inputs.Input.{Input}
use Rattle.node_rules.specs.declared.inputs.Outcome.{Outcome}
use Rattle.node_rules.specs.declared.inputs.Input.TheVariants.{Cmd, Come}
use Rattle.node_rules.specs.Choices.{Choices, Send}
use Rattle.node_rules.specs.declared.inputs.Effects.{Effects}
use Rattle.node_rules.specs.Effects.{accepted, after_effects, in_turn, noted, quiet, told, turned_down}
use Rattle.node_rules.specs.Flights.{Named, flight_named}
use Rattle.node_rules.specs.Held.{held, holding}
use Rattle.node_rules.specs.Master.{handed_up}
use Rattle.node_rules.specs.Setup.{Setup, setup_of}
use Rattle.node_rules.specs.declared.bearers.HalfOut.{HalfOut}
use Rattle.node_rules.specs.TerminalHalf.{TerminalHalf, has_live_scg, terminal_air_in, terminal_fail, terminal_new, terminal_recover, terminal_renew, terminal_report, terminal_submit}

-- the secondary node of the last plan taken, and the bearers (this product's own)
pub record TerminalNode : Type 0 where
  pub alg : Alg
  pub sec : Option Node
  pub halves : List (ℕ × TerminalHalf)

-- the terminal before the first event (this product's own)
abbrev pub new_terminal : Alg → TerminalNode
new_terminal alg = record { alg = alg; sec = None; halves = [] }

-- the terminal with a bearer after a step (this product's own)
abbrev pub with_half : TerminalNode → ℕ → Option TerminalHalf → TerminalNode
with_half t id h = record t { halves = holding id h t.halves }

-- a bearer after a step that sent something (this product's own)
abbrev pub half_sent : TerminalNode → ℕ → TerminalHalf × List Send → TerminalNode × Effects
half_sent t id done = (with_half t id (Some done.0), record { notes = []; sends = done.1 })

-- ---- its events

-- an answer, with what comes of the event (this product's own)
abbrev pub answered_with : TerminalNode → Answer → Effects → TerminalNode × Outcome
answered_with t a x = (t, record { answer = a; notes = x.notes; sends = x.sends })

-- a payload is submitted in uplink (TS 38.323, 5.2.1)
abbrev pub half_submitted : TerminalNode → ℕ → TerminalHalf × Answer × List Send → TerminalNode × Outcome
half_submitted t id done = answered_with (with_half t id (Some done.0)) done.1 (record { notes = []; sends = done.2 })

-- where the terminal has the bearer (TS 38.323, 5.2.1)
abbrev pub submitted_there : Choices → TerminalNode → ℕ → List ℕ → Option TerminalHalf → TerminalNode × Outcome
submitted_there c t id payload None = turned_down t refusal.NoBearer
submitted_there c t id payload (Some h) = half_submitted t id (terminal_submit c h payload)

-- a status report is asked for (TS 38.323, 5.4.1; the command is this product's own)
abbrev pub reported_there : Choices → TerminalNode → ℕ → Option TerminalHalf → TerminalNode × Outcome
reported_there c t id None = turned_down t refusal.NoBearer
reported_there c t id (Some h) = accepted (half_sent t id (terminal_report c h))

-- the bearers whose SCG leg fails now, with their generations (TS 38.331, 5.7.3)
abbrev pub failing_half : ℕ × TerminalHalf → List (ℕ × ℕ)
failing_half x = if has_live_scg x.1 then (x.0, x.1.setup.g) ∷ [] else []

-- the secondary cell group fails (TS 37.340, 7.7): the legs are marked, and the master is told
abbrev pub scg_fails : TerminalNode → Option Node → TerminalNode × Outcome
scg_fails t None = turned_down t refusal.NoSecondary
scg_fails t (Some sec) = accepted (
  record t { halves = map (λ (x : ℕ × TerminalHalf). (x.0, terminal_fail x.1)) t.halves },
  told T M (rec.Scgf (flat_map failing_half t.halves)),
)

-- an event that the terminal takes; any other one does nothing there (this product's own)
abbrev pub terminal_event : Choices → TerminalNode → Event → TerminalNode × Outcome
terminal_event c t (event.Submit id d payload) = submitted_there c t id payload (held id t.halves)
terminal_event c t (event.Report node id) = reported_there c t id (held id t.halves)
terminal_event c t event.ScgFail = scg_fails t t.sec
terminal_event c t (event.Bearer id n first shape threshold policy) = accepted (t, quiet)
terminal_event c t (event.Reshape id shape) = accepted (t, quiet)
terminal_event c t (event.Remove id) = accepted (t, quiet)
terminal_event c t (event.Add node) = accepted (t, quiet)
terminal_event c t event.Change = accepted (t, quiet)
terminal_event c t event.Release = accepted (t, quiet)
terminal_event c t event.RekeySecond = accepted (t, quiet)
terminal_event c t (event.RekeyMaster root) = accepted (t, quiet)
terminal_event c t (event.Recover id) = accepted (t, quiet)
terminal_event c t (event.Deny node on) = accepted (t, quiet)
terminal_event c t (event.Ask node what) = accepted (t, quiet)
terminal_event c t (event.Step l i) = accepted (t, quiet)
terminal_event c t (event.Lose l i) = accepted (t, quiet)
terminal_event c t (event.Again l i) = accepted (t, quiet)

-- ---- records

-- the bearer is there with this SN length and first COUNT (part of the rule is_takable)
abbrev pub is_bearer_like : SnLen → ℕ → Option TerminalHalf → Bool
is_bearer_like n first None = false
is_bearer_like n first (Some h) = (bits h.setup.n == bits n) && (h.setup.first == first)

-- an item can be taken: a new bearer is not there, and one that is changed or dropped is
-- (TS 38.331, 5.3.5; the test is this product's own)
abbrev pub is_takable : TerminalNode → Item → Bool
is_takable t (item.Set id n first shape threshold policy key None) = is_none (held id t.halves)
is_takable t (item.Set id n first shape threshold policy key (Some old)) = is_bearer_like n first (held id t.halves)
is_takable t (item.Unset id) = is_some (held id t.halves)

-- the bearer that a plan sets up, or the one that is there in the new generation, which recovers its uplink
-- (TS 38.331, 5.3.5.6.5; TS 38.323, 5.1.2 and 5.5)
abbrev pub half_set : Choices → TerminalNode → ℕ → Setup → Option TerminalHalf → TerminalNode × Effects
half_set c t id s None = (with_half t id (Some (terminal_new s)), quiet)
half_set c t id s (Some h) = half_sent t id (terminal_renew c h s)

-- what an item sets up (part of the rule item_taken)
abbrev pub half_set_if : Choices → TerminalNode → ℕ → Option Setup → TerminalNode × Effects
half_set_if c t id None = (t, quiet)
half_set_if c t id (Some s) = half_set c t id s (held id t.halves)

-- an item is taken (TS 38.331, 5.3.5)
abbrev pub item_taken : Choices → List ℕ → Plan → TerminalNode → Item → TerminalNode × Effects
item_taken c root p t (item.Set id n first shape threshold policy key old) =
    let i = item.Set id n first shape threshold policy key old in
    after_effects (noted (note.Set id p.g)) (half_set_if c t id (setup_of T p t.alg (octets_of_side root key.side) i))
item_taken c root p t (item.Unset id) = (with_half t id None, noted (note.Unset id))

-- a plan is taken, and answered before the uplink is recovered; one with an item that can not be taken does nothing
-- (TS 38.331, 5.3.5; that such a plan does nothing is this product's own)
abbrev pub plan_taken : Choices → List ℕ → Plan → TerminalNode → Bool → TerminalNode × Effects
plan_taken c root p t true = after_effects (told T M (rec.Rcomp p.g)) (in_turn (item_taken c root p) (record t { sec = p.sec }) p.items)
plan_taken c root p t false = (t, quiet)

-- the uplink of a bearer is recovered (TS 38.323, 5.5; the record is this product's own)
abbrev pub recovered_half : Choices → TerminalNode → ℕ → Option TerminalHalf → TerminalNode × Effects
recovered_half c t id None = (t, quiet)
recovered_half c t id (Some h) = after_effects (told T M (rec.Recovd id)) (half_sent t id (terminal_recover c h))

-- a record from the master: the terminal takes plans and orders to recover
-- (TS 38.331, 5.3.5; the order to recover is this product's own)
abbrev pub terminal_record : Choices → TerminalNode → Rec → TerminalNode × Effects
terminal_record c t (rec.Reconf plan key) = plan_taken c key plan t (not (list_any (λ i. not (is_takable t i)) plan.items))
terminal_record c t (rec.Recov id) = recovered_half c t id (held id t.halves)
terminal_record c t (rec.Rcomp g) = (t, quiet)
terminal_record c t (rec.Scgf failed) = (t, quiet)
terminal_record c t (rec.Recovd id) = (t, quiet)
terminal_record c t (rec.Addreq plan key) = (t, quiet)
terminal_record c t (rec.Addack g) = (t, quiet)
terminal_record c t (rec.Addrej g) = (t, quiet)
terminal_record c t (rec.Modreq plan key) = (t, quiet)
terminal_record c t (rec.Modack g) = (t, quiet)
terminal_record c t (rec.Modrej g) = (t, quiet)
terminal_record c t (rec.Recfg g) = (t, quiet)
terminal_record c t (rec.Relreq plan) = (t, quiet)
terminal_record c t (rec.Relack g) = (t, quiet)
terminal_record c t (rec.Relrej g) = (t, quiet)
terminal_record c t (rec.Uecr g) = (t, quiet)
terminal_record c t (rec.Snst status) = (t, quiet)
terminal_record c t (rec.Moved g id) = (t, quiet)
terminal_record c t (rec.Scgn id g) = (t, quiet)
terminal_record c t rec.Modrqd = (t, quiet)
terminal_record c t (rec.Modcnf g) = (t, quiet)
terminal_record c t (rec.Modref word) = (t, quiet)
terminal_record c t rec.Chgrqd = (t, quiet)
terminal_record c t (rec.Chgcnf plan) = (t, quiet)
terminal_record c t (rec.Chgref word) = (t, quiet)
terminal_record c t rec.Relrqd = (t, quiet)
terminal_record c t (rec.Relcnf plan) = (t, quiet)

-- ---- flights

-- Low rose: the window of the uplink begins there (this product's own)
abbrev pub uplink_freed : ℕ → Option ℕ → List Note
uplink_freed id None = []
uplink_freed id (Some count) = note.Freed id Ul count ∷ []

-- a bearer after a flight came over the air (part of the rule air_taken_by)
abbrev pub half_did : TerminalNode → ℕ → TerminalHalf × HalfOut → TerminalNode × Effects
half_did t id done =
    (with_half t id (Some done.0), record { notes = handed_up T id Dl done.1.ups ++ uplink_freed id done.1.low; sends = done.1.sends })

-- a flight over the air, where the terminal has its bearer (part of the rule air_taken)
abbrev pub air_taken_by : TerminalNode → Node → Flight → ℕ → Option TerminalHalf → TerminalNode × Effects
air_taken_by t from f id None = (t, quiet)
air_taken_by t from f id (Some h) = half_did t id (terminal_air_in h from f)

-- a flight over the air is for the bearer that it names (TS 38.323, 5.2.2)
abbrev pub air_taken : TerminalNode → Node → Flight → Option Named → TerminalNode × Effects
air_taken t from f None = (t, quiet)
air_taken t from f (Some (id, g)) = air_taken_by t from f id (held id t.halves)

-- a flight comes on a control link: only records do (TS 38.331, 5.3.5)
abbrev pub terminal_control : Choices → TerminalNode → Flight → TerminalNode × Effects
terminal_control c t (flight.Ctl r) = terminal_record c t r
terminal_control c t (flight.Air id g num tag pdu) = (t, quiet)
terminal_control c t (flight.Ack id g num) = (t, quiet)
terminal_control c t (flight.Tun tag packet) = (t, quiet)
terminal_control c t (flight.Sdu id g payload) = (t, quiet)
terminal_control c t (flight.End id g) = (t, quiet)
terminal_control c t (flight.Told id g count) = (t, quiet)

-- a flight comes from a node on a link of this class (this product's own)
abbrev pub terminal_takes : Choices → TerminalNode → Node → Flight → Class → TerminalNode × Effects
terminal_takes c t from f Ctl = terminal_control c t f
terminal_takes c t from f Feed = (t, quiet)
terminal_takes c t from f Air = air_taken t from f (flight_named f)
terminal_takes c t from f Tun = (t, quiet)

-- the terminal takes an input (this product's own)
abbrev pub terminal_step : Choices → TerminalNode → Input → TerminalNode × Outcome
terminal_step c t (Cmd e) = terminal_event c t e
terminal_step c t (Come l f) = accepted (terminal_takes c t l.from f l.class)
