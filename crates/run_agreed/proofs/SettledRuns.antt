-- In each run an open command waits for something, and a release that waits where none is open would set a spent key.
use Rattle.std.proofs.Common.{ℕ, ◌≡◌, true, false, List, [], ◌∷◌, refl, sym, ap, subst, ◌∙◌}
use Rattle.std.specs.Prelude.{length}
use Rattle.dc_base.specs.declared.events.Event.{Event}
use Rattle.dc_base.specs.declared.events.Header.{Header}
use Rattle.dc_base.specs.declared.nodes.Node.TheVariants.{A, B, M, T}
use Rattle.node_rules.specs.Choices.{Choices}
use Rattle.node_rules.specs.Effects.{after_effects}
use Rattle.node_rules.specs.Master.{MasterNode}
use Rattle.node_rules.specs.MasterPlan.{does}
use Rattle.node_rules.specs.MasterTaking.{master_adopted}
use Rattle.node_rules.specs.Run.{Happening, carried_on, given_to, happening, on_links, refused_for, world_after, world_step}
use Rattle.node_rules.specs.MasterStep.{master_step}
use Rattle.node_rules.specs.World.{World, new_world}
use Rattle.node_rules.specs.declared.inputs.Effects.{Effects}
use Rattle.node_rules.specs.declared.inputs.Input.{Input}
use Rattle.run_control.specs.MasterControl.{adopts_by_it, master_heard, master_no_row, master_ordered, master_passed, master_refused, waits_on}
use Rattle.run_control.specs.Orders.{Ascends}
use Rattle.run_control.specs.Steps.{AreOrdered, MasterStepped, master_by_command, master_by_nothing, master_by_record, master_by_traffic, sender_of}
use Rattle.run_control.specs.Traffic.{came, master_adopts, master_keeps}
use Rattle.run_control.proofs.MasterActs.{does_projects}
use Rattle.run_control.proofs.Steps.{event_ordered, master_stepped}
use Rattle.run_agreed.specs.Stalls.{IsSettled}
use Rattle.run_agreed.proofs.Settled.{without_command}
use Rattle.run_agreed.proofs.SettledSteps.{OfSettled, adoption_settled, command_settled, take_settled}

-- ---- an event

adopted_by : (c : Choices) (m next : MasterNode) (before : Effects) (id : ℕ) (done : MasterNode × Effects) → Ascends next.anchors → IsSettled m.proc → next.proc ≡ m.proc
    → done ≡ after_effects before (does c next (master_adopted next.proc id)) → IsSettled done.0.proc
adopted_by c m next before id done up settled same is =
    let acts = master_adopted next.proc id in
    subst IsSettled (sym (ap (λ (x : MasterNode × Effects). x.0.proc) is ∙ (does_projects c next acts up).proc)) (adoption_settled next.proc (subst IsSettled (sym same) settled) id)

step_settled : (c : Choices) (m : MasterNode) (i : Input) (done : MasterNode × Effects) → Ascends m.anchors → IsSettled m.proc → MasterStepped c m i done → IsSettled done.0.proc
step_settled c m i done up settled (master_by_traffic (master_keeps proc views sends ascends)) = subst IsSettled (sym proc) settled
step_settled c m i done up settled (master_by_traffic (master_adopts id v at had next before proc views sends ascends is)) = adopted_by c m next before id done (ascends up) settled proc is
step_settled c m i done up settled (master_by_record r came_in (master_heard acts taken plain is)) = subst IsSettled (sym is.proc) (subst OfSettled taken (take_settled m.proc settled (sender_of i) r))
step_settled c m i done up settled (master_by_record r came_in (master_passed status taken (waits_on did))) = subst IsSettled (sym did.proc) settled
step_settled c m i done up settled (master_by_record r came_in (master_passed status taken (adopts_by_it v at awaited next before did is))) = adopted_by c m next before status.id done did.ascends settled did.proc is
step_settled c m i done up settled (master_by_record r came_in (master_no_row why taken is)) = subst IsSettled (sym (ap (λ (x : MasterNode × Effects). x.0.proc) is)) settled
step_settled c m i done up settled (master_by_command e came_in (master_ordered acts taken is)) = subst IsSettled (sym is.proc) (subst OfSettled taken (command_settled m.proc settled (length c.policies) e))
step_settled c m i done up settled (master_by_command e came_in (master_refused why refused is)) = subst IsSettled (sym (ap (λ (x : MasterNode × Effects). x.0.proc) is)) settled
step_settled c m i done up settled (master_by_nothing is) = subst IsSettled (sym (ap (λ (x : MasterNode × Effects). x.0.proc) is)) settled

carried_settled : (c : Choices) (w : World) (what : Happening) → AreOrdered w → IsSettled w.master.proc → IsSettled (carried_on c w what).0.master.proc
carried_settled c w (given_to T i) up settled = settled
carried_settled c w (given_to M i) up settled = step_settled c w.master i (came (master_step c w.master i)) up.master settled (master_stepped c w.master i up.master)
carried_settled c w (given_to A i) up settled = settled
carried_settled c w (given_to B i) up settled = settled
carried_settled c w (refused_for why) up settled = settled
carried_settled c w (on_links effects) up settled = settled

-- each event keeps it
pub event_settled : (c : Choices) (w : World) (e : Event) → AreOrdered w → IsSettled w.master.proc → IsSettled (world_step c w e).0.master.proc
event_settled c w e up settled = carried_settled c w (happening w e) up settled

run_settled : (c : Choices) (w : World) (es : List Event) → AreOrdered w → IsSettled w.master.proc → IsSettled (world_after c w es).master.proc
run_settled c w [] up settled = settled
run_settled c w (e ∷ es) up settled = run_settled c (world_step c w e).0 es (event_ordered c w e up) (event_settled c w e up settled)

-- in each state of each run an open command waits for something, and where none is open a release that waits would set a spent key
pub settled_always : (c : Choices) (h : Header) (es : List Event) → IsSettled (world_after c (new_world h) es).master.proc
settled_always c h es =
    run_settled c (new_world h) es (record { terminal = tt; master = tt; a = tt; b = tt }) (without_command (new_world h).master.proc refl (λ waiting. let bad : false ≡ true = waiting in cc) (λ waiting. let bad : false ≡ true = waiting in cc))
