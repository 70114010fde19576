-- A step of the master: what it puts on the control link to a node is newer than what it told it before.
use Rattle.std.proofs.Common.{ℕ, ◌≡◌, [], length, sym, ap, subst, ◌∙◌}
use Rattle.dc_base.specs.declared.nodes.Node.{Node}
use Rattle.dc_base.specs.declared.records.Rec.{Rec}
use Rattle.dc_base.specs.declared.records.StatusTransfer.{StatusTransfer}
use Rattle.node_rules.specs.Choices.{Choices}
use Rattle.node_rules.specs.Effects.{after_effects, quiet}
use Rattle.node_rules.specs.Master.{MasterNode}
use Rattle.node_rules.specs.MasterPlan.{does}
use Rattle.node_rules.specs.MasterState.{MasterActs, MasterProc}
use Rattle.node_rules.specs.MasterTaking.{master_adopted}
use Rattle.node_rules.specs.declared.inputs.Effects.{Effects}
use Rattle.node_rules.specs.declared.inputs.Input.{Input}
use Rattle.run_control.specs.MasterControl.{MasterHeard, MasterPassed, adopts_by_it, master_heard, master_no_row, master_ordered, master_passed, master_refused, waits_on}
use Rattle.run_control.specs.Orders.{Ascends}
use Rattle.run_control.specs.SecondControl.{records_sent}
use Rattle.run_control.specs.Sound.{IsSound}
use Rattle.run_control.specs.Steps.{MasterStepped, master_by_command, master_by_nothing, master_by_record, master_by_traffic, sender_of}
use Rattle.run_control.specs.Traffic.{master_adopts, master_keeps}
use Rattle.run_control.specs.Views.{master_view}
use Rattle.run_control.proofs.MasterActs.{does_projects}
use Rattle.run_control.proofs.Sequences.{no_records, records_both}
use Rattle.run_generations.specs.Newer.{Between, IsDrawn, IsNewer, TakesNewer, fresh_from, told_in}
use Rattle.run_generations.proofs.Putting.{acts_put, put_to}
use Rattle.run_generations.proofs.Taking.{adoption_newer, command_newer, take_newer}
use Rattle.run_generations.proofs.Telling.{stays_newer}

module _ (y : Node) where
  -- what it put there ascends, from what it might tell before, and is no more to be told
  pub record HasTold (m : MasterProc) (done : MasterNode × Effects) : Type 0 where
    pub told : Between (fresh_from y m) (put_to y (records_sent done.1.sends)) (fresh_from y done.0.proc)
    pub drawn : IsDrawn done.0.proc

  by_acts : (m : MasterProc) (acts : MasterActs) (done : MasterNode × Effects) → IsNewer y (fresh_from y m) acts → done.0.proc ≡ acts.0 → put_to y (records_sent done.1.sends) ≡ told_in y acts.1 → HasTold m done
  by_acts m acts done newer proc put = record {
    told = subst (λ gs. Between (fresh_from y m) gs (fresh_from y done.0.proc)) (sym put) (subst (λ p. Between (fresh_from y m) (told_in y acts.1) (fresh_from y p)) (sym proc) newer.told);
    drawn = subst IsDrawn (sym proc) newer.drawn;
  }

  stays : (m : MasterProc) (done : MasterNode × Effects) → IsDrawn m → done.0.proc ≡ m → records_sent done.1.sends ≡ [] → HasTold m done
  stays m done drawn proc none = by_acts m (m, []) done (stays_newer y m drawn) proc (ap (put_to y) none)

  nothing : (m : MasterNode) (done : MasterNode × Effects) → IsDrawn m.proc → done ≡ (m, quiet) → HasTold m.proc done
  nothing m done drawn is = stays m.proc done drawn (ap (λ (x : MasterNode × Effects). x.0.proc) is) (ap (λ (x : MasterNode × Effects). records_sent x.1.sends) is)

  adopted : (c : Choices) (m next : MasterNode) (before : Effects) (id : ℕ) (done : MasterNode × Effects) → IsDrawn m.proc → next.proc ≡ m.proc → records_sent before.sends ≡ [] → Ascends next.anchors
      → done ≡ after_effects before (does c next (master_adopted next.proc id)) → HasTold m.proc done
  adopted c m next before id done drawn proc none up is =
      let acts = master_adopted next.proc id in
      let then' = does c next acts in
      let projects = does_projects c next acts up in
      by_acts m.proc acts done
      (subst (λ p. IsNewer y (fresh_from y p) acts) proc (adoption_newer y next.proc id (subst IsDrawn (sym proc) drawn)))
      (ap (λ (x : MasterNode × Effects). x.0.proc) is ∙ projects.proc)
      (ap (put_to y) (ap (λ (x : MasterNode × Effects). records_sent x.1.sends) is ∙ records_both before.sends then'.1.sends none projects.told) ∙ acts_put y acts.1 (master_view next))

  passed : (c : Choices) (m : MasterNode) (status : StatusTransfer) (done : MasterNode × Effects) → IsDrawn m.proc → MasterPassed c m status done → HasTold m.proc done
  passed c m status done drawn (waits_on did) = stays m.proc done drawn did.proc did.told
  passed c m status done drawn (adopts_by_it v at awaited next before did is) = adopted c m next before status.id done drawn did.proc did.told did.ascends is

  heard : (c : Choices) (m : MasterNode) (from : Node) (r : Rec) (done : MasterNode × Effects) → IsSound m.proc → IsDrawn m.proc → MasterHeard c m from r done → HasTold m.proc done
  heard c m from r done sound drawn (master_heard acts taken plain is) =
      by_acts m.proc acts done (subst (TakesNewer y (fresh_from y m.proc)) taken (take_newer y from m.proc r sound drawn)) is.proc (ap (put_to y) is.told ∙ acts_put y acts.1 (master_view m))
  heard c m from r done sound drawn (master_passed status taken is) = passed c m status done drawn is
  heard c m from r done sound drawn (master_no_row why taken is) = nothing m done drawn is

  -- whatever input it takes
  pub stepped_told : (c : Choices) (m : MasterNode) (i : Input) (done : MasterNode × Effects) → Ascends m.anchors → IsSound m.proc → IsDrawn m.proc → MasterStepped c m i done → HasTold m.proc done
  stepped_told c m i done up sound drawn (master_by_traffic (master_keeps proc views sends ascends)) = stays m.proc done drawn proc (no_records done.1.sends sends)
  stepped_told c m i done up sound drawn (master_by_traffic (master_adopts id v at had next before proc views sends ascends is)) =
      adopted c m next before id done drawn proc (no_records before.sends sends) (ascends up) is
  stepped_told c m i done up sound drawn (master_by_record r came_in is) = heard c m (sender_of i) r done sound drawn is
  stepped_told c m i done up sound drawn (master_by_command e came_in (master_ordered acts taken is)) =
      by_acts m.proc acts done (subst (TakesNewer y (fresh_from y m.proc)) taken (command_newer y (length c.policies) m.proc e drawn)) is.proc (ap (put_to y) is.told ∙ acts_put y acts.1 (master_view m))
  stepped_told c m i done up sound drawn (master_by_command e came_in (master_refused why refused is)) = nothing m done drawn is
  stepped_told c m i done up sound drawn (master_by_nothing is) = nothing m done drawn is
