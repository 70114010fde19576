-- In each run of a sound script the master's procedures keep to secondary nodes and the terminal.
use Rattle.std.proofs.Common.{ℕ, ◌≡◌, List, [], ◌∷◌, Option, Some, None, length, sym, ap, subst, ◌∙◌, slice_get}
use Rattle.std.specs.Prelude.{Ok, Result, if◌then◌else◌, nat_lt, ⊤, ◌&&◌}
use Rattle.dc_base.specs.Links.{is_ordered, is_tunnel}
use Rattle.dc_base.specs.declared.answers.Refusal.TheVariants as refusal
use Rattle.dc_base.specs.declared.events.Event.{Event}
use Rattle.dc_base.specs.declared.events.Event.TheVariants as event
use Rattle.dc_base.specs.declared.events.Header.{Header}
use Rattle.dc_base.specs.declared.flights.Flight.{Flight}
use Rattle.dc_base.specs.declared.nodes.Class.{Class}
use Rattle.dc_base.specs.declared.nodes.LinkId.{LinkId}
use Rattle.dc_base.specs.declared.nodes.Node.TheVariants.{A, B, M, T}
use Rattle.node_rules.specs.Acts.{ProcFault}
use Rattle.node_rules.specs.Choices.{Choices}
use Rattle.node_rules.specs.Effects.{after_effects, quiet}
use Rattle.node_rules.specs.Flights.{weight}
use Rattle.node_rules.specs.Master.{MasterNode}
use Rattle.node_rules.specs.MasterCommands.{master_command}
use Rattle.node_rules.specs.MasterPlan.{does}
use Rattle.node_rules.specs.MasterState.{MasterActs}
use Rattle.node_rules.specs.MasterStep.{master_step}
use Rattle.node_rules.specs.MasterTaking.{master_adopted, master_take}
use Rattle.node_rules.specs.Readers.{is_aged_for}
use Rattle.node_rules.specs.Run.{Happening, carried_on, copy_of, given_to, happening, in_tunnel, loss_of, node_at, on_links, refused_for, step_of, world_after, world_step}
use Rattle.node_rules.specs.World.{World, flights_on, new_world}
use Rattle.node_rules.specs.declared.inputs.Effects.{Effects}
use Rattle.node_rules.specs.declared.inputs.Input.{Input}
use Rattle.node_rules.specs.declared.inputs.Input.TheVariants.{Cmd, Come}
use Rattle.run_control.specs.MasterControl.{adopts_by_it, master_heard, master_no_row, master_ordered, master_passed, master_refused, waits_on}
use Rattle.run_control.specs.Orders.{Ascends}
use Rattle.run_control.specs.Sound.{AddsSecond, AreSound, AreSoundActs, IsSound, TakesSound}
use Rattle.run_control.specs.Steps.{AreOrdered, MasterStepped, master_by_command, master_by_nothing, master_by_record, master_by_traffic, sender_of}
use Rattle.run_control.specs.Traffic.{came, master_adopts, master_keeps}
use Rattle.run_control.proofs.MasterActs.{does_projects}
use Rattle.run_control.proofs.Sent.{either}
use Rattle.run_control.proofs.Sound.{adoption_sound, command_sound, take_sound}
use Rattle.run_control.proofs.Steps.{event_ordered, master_stepped}

-- ---- the master

-- what was taken is sound
taken_sound : (t : Result MasterActs ProcFault) (acts : MasterActs) → t ≡ Ok acts → TakesSound t → AreSoundActs acts
taken_sound t acts is sound = subst TakesSound is sound

-- after an adoption
adopted_sound : (c : Choices) (m next : MasterNode) (before : Effects) (id : ℕ) (done : MasterNode × Effects) → Ascends next.anchors → IsSound m.proc → next.proc ≡ m.proc
    → done ≡ after_effects before (does c next (master_adopted next.proc id)) → IsSound done.0.proc
adopted_sound c m next before id done up sound same is =
    let acts = master_adopted next.proc id in
    let now : done.0.proc ≡ acts.0 = ap (λ (x : MasterNode × Effects). x.0.proc) is ∙ (does_projects c next acts up).proc in
    subst IsSound (sym now) (adoption_sound next.proc id (subst IsSound (sym same) sound)).state

-- nothing was done
nothing_sound : (m : MasterNode) (done : MasterNode × Effects) → done ≡ (m, quiet) → IsSound m.proc → IsSound done.0.proc
nothing_sound m done is sound = subst (λ (x : MasterNode × Effects). IsSound x.0.proc) (sym is) sound

-- a command of a sound script
abbrev pub AddsIn : Input → Type 0
AddsIn (Cmd e) = AddsSecond e
AddsIn (Come l f) = ⊤

step_sound : (c : Choices) (m : MasterNode) (i : Input) (done : MasterNode × Effects) → AddsIn i → Ascends m.anchors → IsSound m.proc → MasterStepped c m i done → IsSound done.0.proc
step_sound c m i done adds up sound (master_by_traffic (master_keeps proc views sends ascends)) = subst IsSound (sym proc) sound
step_sound c m i done adds up sound (master_by_traffic (master_adopts id v at had next before proc views sends ascends is)) = adopted_sound c m next before id done (ascends up) sound proc is
step_sound c m i done adds up sound (master_by_record r came_in (master_heard acts taken plain is)) =
    subst IsSound (sym is.proc) (taken_sound (master_take (sender_of i) m.proc r) acts taken (take_sound (sender_of i) m.proc r sound)).state
step_sound c m i done adds up sound (master_by_record r came_in (master_passed status taken (waits_on did))) = subst IsSound (sym did.proc) sound
step_sound c m i done adds up sound (master_by_record r came_in (master_passed status taken (adopts_by_it v at awaited next before did is))) =
    adopted_sound c m next before status.id done did.ascends sound did.proc is
step_sound c m i done adds up sound (master_by_record r came_in (master_no_row why taken is)) = nothing_sound m done is sound
step_sound c m i done adds up sound (master_by_command e came_in (master_ordered acts taken is)) =
    let good : AddsSecond e = subst AddsIn came_in adds in
    subst IsSound (sym is.proc) (taken_sound (master_command (length c.policies) m.proc e) acts taken (command_sound (length c.policies) m.proc e good sound)).state
step_sound c m i done adds up sound (master_by_command e came_in (master_refused why refused is)) = nothing_sound m done is sound
step_sound c m i done adds up sound (master_by_nothing is) = nothing_sound m done is sound

-- ---- an event

-- an input for a node is of the event
abbrev pub AddsBy : Happening → Type 0
AddsBy (given_to x i) = AddsIn i
AddsBy (refused_for why) = ⊤
AddsBy (on_links effects) = ⊤

step_adds : (w : World) (l : LinkId) (i : ℕ) (o : Option Flight) → AddsBy (step_of w l i o)
step_adds w l i None = tt
step_adds w l i (Some f) =
    either AddsBy (is_ordered l.class && nat_lt 0 i) (refused_for refusal.NotFirst) (if is_aged_for (node_at w l.to) (weight f) then refused_for refusal.Aged else given_to l.to (Come l f))
    tt (either AddsBy (is_aged_for (node_at w l.to) (weight f)) (refused_for refusal.Aged) (given_to l.to (Come l f)) tt tt)

tunnel_adds : (k : Class) (h : Happening) → AddsBy h → AddsBy (in_tunnel k h)
tunnel_adds k h adds = either AddsBy (is_tunnel k) h (refused_for refusal.NotTunnel) adds tt

loss_adds : (o : Option Flight) → AddsBy (loss_of o)
loss_adds None = tt
loss_adds (Some f) = tt

copy_adds : (l : LinkId) (o : Option Flight) → AddsBy (copy_of l o)
copy_adds l None = tt
copy_adds l (Some f) = tt

pub event_adds : (w : World) (e : Event) → AddsSecond e → AddsBy (happening w e)
event_adds w (event.Bearer id n first shape threshold policy) adds = adds
event_adds w (event.Reshape id shape) adds = adds
event_adds w (event.Remove id) adds = adds
event_adds w (event.Add node) adds = adds
event_adds w event.Change adds = adds
event_adds w event.Release adds = adds
event_adds w event.RekeySecond adds = adds
event_adds w (event.RekeyMaster root) adds = adds
event_adds w (event.Recover id) adds = adds
event_adds w (event.Report node id) adds = adds
event_adds w (event.Deny node on) adds = adds
event_adds w (event.Ask node what) adds = adds
event_adds w event.ScgFail adds = adds
event_adds w (event.Submit id d payload) adds = adds
event_adds w (event.Step l i) adds = step_adds w l i (slice_get (flights_on l w.links) i)
event_adds w (event.Lose l i) adds = tunnel_adds l.class (loss_of (slice_get (flights_on l w.links) i)) (loss_adds (slice_get (flights_on l w.links) i))
event_adds w (event.Again l i) adds = tunnel_adds l.class (copy_of l (slice_get (flights_on l w.links) i)) (copy_adds l (slice_get (flights_on l w.links) i))

happening_sound : (c : Choices) (w : World) (what : Happening) → AddsBy what → AreOrdered w → IsSound w.master.proc → IsSound (carried_on c w what).0.master.proc
happening_sound c w (given_to T i) adds up sound = sound
happening_sound c w (given_to M i) adds up sound = step_sound c w.master i (came (master_step c w.master i)) adds up.master sound (master_stepped c w.master i up.master)
happening_sound c w (given_to A i) adds up sound = sound
happening_sound c w (given_to B i) adds up sound = sound
happening_sound c w (refused_for why) adds up sound = sound
happening_sound c w (on_links effects) adds up sound = sound

-- an event of a sound script keeps it
pub event_sound : (c : Choices) (w : World) (e : Event) → AddsSecond e → AreOrdered w → IsSound w.master.proc → IsSound (world_step c w e).0.master.proc
event_sound c w e adds up sound = happening_sound c w (happening w e) (event_adds w e adds) up sound

run_sound : (c : Choices) (w : World) (es : List Event) → AreSound es → AreOrdered w → IsSound w.master.proc → IsSound (world_after c w es).master.proc
run_sound c w [] adds up sound = sound
run_sound c w (e ∷ es) adds up sound = run_sound c (world_step c w e).0 es adds.1 (event_ordered c w e up) (event_sound c w e adds.0 up sound)

-- in each run
pub always_sound : (c : Choices) (h : Header) (es : List Event) → AreSound es → IsSound (world_after c (new_world h) es).master.proc
always_sound c h es adds = run_sound c (new_world h) es adds (record { terminal = tt; master = tt; a = tt; b = tt }) (record { sec = tt; command = tt })
