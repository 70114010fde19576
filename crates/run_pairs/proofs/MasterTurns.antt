-- A step of the master: how the pair of it and a secondary node goes on.
use Rattle.std.proofs.Common.{ℕ, ◌≡◌, ◌++◌, true, false, List, [], ◌∷◌, Option, Some, None, length, refl, sym, ap, subst, ◌∙◌}
use Rattle.std.proofs.lemmas.List.{append-nil}
use Rattle.dc_base.specs.Nodes.{is_same_node, is_secondary}
use Rattle.dc_base.specs.declared.nodes.Node.{Node}
use Rattle.dc_base.specs.declared.nodes.Node.TheVariants.{A, B, M, T}
use Rattle.dc_base.specs.declared.nodes.Want.{Want}
use Rattle.dc_base.specs.declared.records.Rec.{Rec}
use Rattle.dc_base.specs.declared.records.StatusTransfer.{StatusTransfer}
use Rattle.node_rules.specs.Choices.{Choices}
use Rattle.node_rules.specs.Effects.{after_effects, quiet}
use Rattle.node_rules.specs.Master.{MasterNode}
use Rattle.node_rules.specs.MasterPlan.{does}
use Rattle.node_rules.specs.MasterState.{MasterActs, MasterProc}
use Rattle.node_rules.specs.MasterTaking.{master_adopted, master_take}
use Rattle.node_rules.specs.declared.acts.Act.TheVariants.{Pass as pass}
use Rattle.node_rules.specs.declared.commands.Membership.{Membership}
use Rattle.node_rules.specs.declared.inputs.Effects.{Effects}
use Rattle.node_rules.specs.declared.inputs.Input.{Input}
use Rattle.run_control.specs.MasterControl.{MasterHeard, MasterPassed, adopts_by_it, master_heard, master_no_row, master_ordered, master_passed, master_refused, own_acts_sends, waits_on}
use Rattle.run_control.specs.Orders.{Ascends}
use Rattle.run_control.specs.SecondControl.{Views, records_sent}
use Rattle.run_control.specs.Sound.{AddsSecond}
use Rattle.run_control.specs.Steps.{MasterStepped, master_by_command, master_by_nothing, master_by_record, master_by_traffic, record_in, sender_of}
use Rattle.run_control.specs.Traffic.{master_adopts, master_keeps}
use Rattle.run_control.specs.Views.{master_view}
use Rattle.run_control.proofs.MasterActs.{does_projects}
use Rattle.run_control.proofs.Runs.{AddsIn}
use Rattle.run_control.proofs.Sequences.{no_records, records_both}
use Rattle.run_pairs.specs.Apt.{IsApt}
use Rattle.run_pairs.specs.Pairs.{standing}
use Rattle.run_pairs.proofs.Answering.{Goes, follows_goes}
use Rattle.run_pairs.proofs.Following.{Follows, follows_still, taken_or}
use Rattle.run_pairs.proofs.Hearing.{elsewhere_follows, terminal_follows}
use Rattle.run_pairs.proofs.Ordering.{command_follows}
use Rattle.run_pairs.proofs.Pairing.{IsPaired}
use Rattle.run_pairs.proofs.Putting.{heard_of, put}
use Rattle.run_pairs.proofs.Taking.{adoption_follows}

module _ (x : Node) (second : is_secondary x ≡ true) (mem : Membership) (w : Option Want) (at : Views) (down up : List Rec) where
  -- the state and the pair after what the master did
  pub record HasSpoken (done : MasterNode × Effects) : Type 0 where
    pub apt : IsApt done.0.proc
    pub paired : IsPaired x done.0.proc mem w at (down ++ heard_of x (records_sent done.1.sends)) up

  -- by acts
  acts_spoken : (acts : MasterActs) (done : MasterNode × Effects) (m : MasterNode) → Goes x mem w at down up acts → done.0.proc ≡ acts.0 → records_sent done.1.sends ≡ own_acts_sends acts.1 (master_view m) → HasSpoken done
  acts_spoken acts done m goes proc told = record {
    apt = subst IsApt (sym proc) goes.apt;
    paired = subst (λ p. IsPaired x p mem w at (down ++ heard_of x (records_sent done.1.sends)) up) (sym proc)
        (subst (λ sends. IsPaired x acts.0 mem w at (down ++ heard_of x sends) up) (sym told) (goes.paired (master_view m)));
  }

  -- the procedures stay, and no record is sent
  silent_spoken : (m : MasterProc) (done : MasterNode × Effects) → IsApt m → IsPaired x m mem w at down up → done.0.proc ≡ m → records_sent done.1.sends ≡ [] → HasSpoken done
  silent_spoken m done apt pair proc none = record {
    apt = subst IsApt (sym proc) apt;
    paired = subst (λ p. IsPaired x p mem w at (down ++ heard_of x (records_sent done.1.sends)) up) (sym proc)
        (subst (λ sends. IsPaired x m mem w at (down ++ heard_of x sends) up) (sym none) (subst (λ ds. IsPaired x m mem w at ds up) (sym (append-nil down)) pair));
  }

  nothing_spoken : (m : MasterNode) (done : MasterNode × Effects) → IsApt m.proc → IsPaired x m.proc mem w at down up → done ≡ (m, quiet) → HasSpoken done
  nothing_spoken m done apt pair is = silent_spoken m.proc done apt pair (ap (λ (z : MasterNode × Effects). z.0.proc) is) (ap (λ (z : MasterNode × Effects). records_sent z.1.sends) is)

  -- an anchor adopts
  adopted_spoken : (c : Choices) (m : MasterProc) (next : MasterNode) (before : Effects) (id : ℕ) (done : MasterNode × Effects) → IsApt m → IsPaired x m mem w at down up → next.proc ≡ m → records_sent before.sends ≡ [] → Ascends next.anchors
      → done ≡ after_effects before (does c next (master_adopted next.proc id)) → HasSpoken done
  adopted_spoken c m next before id done apt pair proc none up' is =
      let acts = master_adopted next.proc id in
      let then' = does c next acts in
      let projects = does_projects c next acts up' in
      let apt' : IsApt next.proc = subst IsApt (sym proc) apt in
      let pair' : IsPaired x next.proc mem w at down up = subst (λ p. IsPaired x p mem w at down up) (sym proc) pair in
      acts_spoken acts done next
      (follows_goes x (standing x next.proc pair'.stand) mem w at down up acts (adoption_follows x second next.proc apt' pair'.stand pair'.stands id) pair'.pair pair'.fitting pair'.empty)
      (ap (λ (z : MasterNode × Effects). z.0.proc) is ∙ projects.proc)
      (ap (λ (z : MasterNode × Effects). records_sent z.1.sends) is ∙ records_both before.sends then'.1.sends none projects.told)

  -- a status transfer that is passed to the master's own anchor
  passed_spoken : (c : Choices) (m : MasterNode) (status : StatusTransfer) (done : MasterNode × Effects) → IsApt m.proc → IsPaired x m.proc mem w at down up → MasterPassed c m status done → HasSpoken done
  passed_spoken c m status done apt pair (waits_on did) = silent_spoken m.proc done apt pair did.proc did.told
  passed_spoken c m status done apt pair (adopts_by_it v at awaited next before did is) = adopted_spoken c m.proc next before status.id done apt pair did.proc did.told did.ascends is

  quiet_goes : (r : MasterActs) → put x r.1 (λ k. None) ≡ [] → Goes x mem w at down up r → IsPaired x r.0 mem w at down up
  quiet_goes r none goes = subst (λ ds. IsPaired x r.0 mem w at ds up) (ap (λ rs. down ++ rs) none ∙ append-nil down) (goes.paired (λ k. None))

  -- a record is heard
  pub heard_spoken : (c : Choices) (m : MasterNode) (from : Node) (r : Rec) (done : MasterNode × Effects) → Goes x mem w at down up (taken_or m.proc (master_take from m.proc r)) → MasterHeard c m from r done → HasSpoken done
  heard_spoken c m from r done goes (master_heard acts taken plain is) = acts_spoken acts done m (subst (λ t. Goes x mem w at down up (taken_or m.proc t)) taken goes) is.proc is.told
  heard_spoken c m from r done goes (master_passed status taken is) =
      let now : Goes x mem w at down up (m.proc, pass status ∷ []) = subst (λ t. Goes x mem w at down up (taken_or m.proc t)) taken goes in
      passed_spoken c m status done now.apt (quiet_goes (m.proc, pass status ∷ []) refl now) is
  heard_spoken c m from r done goes (master_no_row why taken is) =
      let now : Goes x mem w at down up (m.proc, []) = subst (λ t. Goes x mem w at down up (taken_or m.proc t)) taken goes in
      nothing_spoken m done now.apt (quiet_goes (m.proc, []) refl now) is

  -- from another node
  other_goes : (m : MasterProc) (y : Node) (r : Rec) → is_same_node x y ≡ false → IsApt m → IsPaired x m mem w at down up → Goes x mem w at down up (taken_or m (master_take y m r))
  other_goes m T r apart apt pair = follows_goes x (standing x m pair.stand) mem w at down up _ (terminal_follows x second m apt pair.stand pair.stands r) pair.pair pair.fitting pair.empty
  other_goes m M r apart apt pair = follows_goes x (standing x m pair.stand) mem w at down up (m, []) (follows_still x m pair.stand pair.stands apt) pair.pair pair.fitting pair.empty
  other_goes m A r apart apt pair = follows_goes x (standing x m pair.stand) mem w at down up _ (elsewhere_follows x second m apt pair.stand pair.stands A r apart refl) pair.pair pair.fitting pair.empty
  other_goes m B r apart apt pair = follows_goes x (standing x m pair.stand) mem w at down up _ (elsewhere_follows x second m apt pair.stand pair.stands B r apart refl) pair.pair pair.fitting pair.empty

  -- any input that brings no record of the node
  pub master_alone : (c : Choices) (m : MasterNode) (i : Input) (done : MasterNode × Effects) → AddsIn i → Ascends m.anchors → IsApt m.proc → IsPaired x m.proc mem w at down up
      → ((r : Rec) → record_in i ≡ Some r → is_same_node x (sender_of i) ≡ false) → MasterStepped c m i done → HasSpoken done
  master_alone c m i done adds ascends apt pair elsewhere (master_by_traffic (master_keeps proc views sends up')) = silent_spoken m.proc done apt pair proc (no_records done.1.sends sends)
  master_alone c m i done adds ascends apt pair elsewhere (master_by_traffic (master_adopts id v at had next before proc views sends up' is)) =
      adopted_spoken c m.proc next before id done apt pair proc (no_records before.sends sends) (up' ascends) is
  master_alone c m i done adds ascends apt pair elsewhere (master_by_record r came_in is) = heard_spoken c m (sender_of i) r done (other_goes m.proc (sender_of i) r (elsewhere r came_in) apt pair) is
  master_alone c m i done adds ascends apt pair elsewhere (master_by_command e came_in (master_ordered acts taken is)) =
      let good : AddsSecond e = subst AddsIn came_in adds in
      let follows : Follows x (standing x m.proc pair.stand) acts = subst (λ t. Follows x (standing x m.proc pair.stand) (taken_or m.proc t)) taken (command_follows x second m.proc apt pair.stand pair.stands (length c.policies) e good) in
      acts_spoken acts done m (follows_goes x (standing x m.proc pair.stand) mem w at down up acts follows pair.pair pair.fitting pair.empty) is.proc is.told
  master_alone c m i done adds ascends apt pair elsewhere (master_by_command e came_in (master_refused why refused is)) = nothing_spoken m done apt pair is
  master_alone c m i done adds ascends apt pair elsewhere (master_by_nothing is) = nothing_spoken m done apt pair is
