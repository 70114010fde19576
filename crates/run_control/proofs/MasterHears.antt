-- What the master does with a record and with a command, as the control plane sees it.
use Rattle.std.proofs.Common.{ℕ, ◌≡◌, ◌++◌, ◌==◌, Bool, true, false, List, [], ◌∷◌, Option, Some, None, refl, sym, ap, subst, ◌∙◌}
use Rattle.std.specs.Prelude.{Err, Ok, Result, if◌then◌else◌, ◌||◌}
use Rattle.std.specs.List.{list_any}
use Rattle.std.specs.Option.{option_map}
use Rattle.std.proofs.lemmas.List.{append-nil}
use Rattle.dc_base.specs.declared.events.Event.{Event}
use Rattle.dc_base.specs.declared.events.Note.{Note}
use Rattle.dc_base.specs.declared.events.Note.TheVariants as note
use Rattle.dc_base.specs.declared.flights.Flight.TheVariants as flight
use Rattle.dc_base.specs.declared.nodes.Class.TheVariants.{Ctl}
use Rattle.dc_base.specs.declared.nodes.Node.{Node}
use Rattle.dc_base.specs.declared.nodes.Node.TheVariants.{M}
use Rattle.dc_base.specs.declared.records.Rec.{Rec}
use Rattle.dc_base.specs.declared.records.StatusTransfer.{StatusTransfer}
use Rattle.node_rules.specs.Acts.{ProcFault, refused, unexpected}
use Rattle.node_rules.specs.Adopting.{status_in}
use Rattle.node_rules.specs.Anchor.{AnchorState, setup_at}
use Rattle.node_rules.specs.Choices.{Choices, Send}
use Rattle.node_rules.specs.Effects.{after_effects, both, in_turn, noted, quiet}
use Rattle.node_rules.specs.Held.{held}
use Rattle.node_rules.specs.Master.{MasterNode, anchor_did}
use Rattle.node_rules.specs.MasterCommands.{master_command}
use Rattle.node_rules.specs.MasterPlan.{adopts_if, master_act, master_did, on_waiting}
use Rattle.node_rules.specs.MasterState.{MasterActs}
use Rattle.node_rules.specs.MasterStep.{commanded, master_takes, record_taken}
use Rattle.node_rules.specs.MasterTaking.{master_take}
use Rattle.node_rules.specs.declared.acts.Act.{Act}
use Rattle.node_rules.specs.declared.acts.Act.TheVariants.{FailOne as fail_one, Go as go, Pass as pass, Prepare as prepare, RecoverOne as recover_one, Say as say, Send as send, UnlockAll as unlock_all}
use Rattle.node_rules.specs.declared.bearers.AnchorOut.{AnchorOut}
use Rattle.node_rules.specs.declared.inputs.Effects.{Effects}
use Rattle.run_control.specs.MasterControl.{MasterHeard, MasterOrdered, MasterPassed, MasterProjects, Passes_nothing, adopts_by_it, is_pass, master_heard, master_no_row, master_ordered, master_passed, master_refused, waits_on}
use Rattle.run_control.specs.Orders.{Ascends}
use Rattle.run_control.specs.SecondControl.{at_id, passed}
use Rattle.run_control.specs.Traffic.{OnStatus, adopts_at_once, came, notes, passes}
use Rattle.run_control.specs.Views.{at_stage, has_status, master_view, view_of}
use Rattle.run_control.proofs.Arrivals.{status_is}
use Rattle.run_control.proofs.Holding.{seen_again, seen_with}
use Rattle.run_control.proofs.MasterActs.{does_projects}
use Rattle.run_control.proofs.MasterItems.{unchanged_here}
use Rattle.run_control.proofs.Masters.{anchor_done}
use Rattle.run_control.proofs.Plain.{PlainOrPass, no_row_there, pass_alone, plain, take_pass}
use Rattle.run_control.proofs.Sequences.{at_same, no_records}

-- ---- a status transfer for the master's own anchor

status_did : (c : Choices) (m : MasterNode) (st : StatusTransfer) (a : AnchorState) (done : AnchorState × AnchorOut) → Ascends m.anchors → held st.id m.anchors ≡ Some a → OnStatus st a done
    → MasterPassed c m st (adopts_if c st.id (setup_at a).g done.1.adopted (anchor_did m st.id done))
status_did c m st a done up at (passes other is) =
    let did = anchor_done m st.id done is.sends in
    let seen : master_view m st.id ≡ Some (view_of a) = ap (λ o. option_map view_of o) at in
    let old : passed st false (master_view m st.id) ≡ Some (view_of a) = ap (passed st false) seen ∙ ap (λ b. Some (if b then at_stage has_status (view_of a) else view_of a)) other in
    subst (λ b. MasterPassed c m st (adopts_if c st.id (setup_at a).g b (anchor_did m st.id done))) (sym is.stays)
    (waits_on (record {
      proc = did.proc;
      after = λ k. did.views k ∙ seen_again view_of st.id k done.0 a m.anchors at is.view ∙ at_same st.id k (master_view m) ∙ ap (λ z. at_id st.id z (master_view m) k) (seen ∙ sym old);
      told = no_records (anchor_did m st.id done).1.sends did.sends;
      ascends = did.ascends up;
    }))
status_did c m st a done up at (notes awaited stays view sends) =
    let did = anchor_done m st.id done sends in
    let seen : master_view m st.id ≡ Some (view_of a) = ap (λ o. option_map view_of o) at in
    let new : passed st false (master_view m st.id) ≡ Some (at_stage has_status (view_of a)) =
    ap (passed st false) seen ∙ ap (λ b. Some (if b then at_stage has_status (view_of a) else view_of a)) awaited in
    subst (λ b. MasterPassed c m st (adopts_if c st.id (setup_at a).g b (anchor_did m st.id done))) (sym stays)
    (waits_on (record {
      proc = did.proc;
      after = λ k. did.views k ∙ seen_with view_of st.id k done.0 m.anchors ∙ ap (λ z. if st.id == k then z else master_view m k) (ap (λ v. Some v) view ∙ sym new);
      told = no_records (anchor_did m st.id done).1.sends did.sends;
      ascends = did.ascends up;
    }))
status_did c m st a done up at (adopts_at_once awaited adopted view sends) =
    let did = anchor_done m st.id done sends in
    let seen : master_view m st.id ≡ Some (view_of a) = ap (λ o. option_map view_of o) at in
    let before : Effects = both (noted (note.Own M st.id (setup_at a).g)) (anchor_did m st.id done).1 in
    subst (λ b. MasterPassed c m st (adopts_if c st.id (setup_at a).g b (anchor_did m st.id done))) (sym adopted)
    (adopts_by_it (view_of a) seen awaited (anchor_did m st.id done).0 before (record {
      proc = did.proc;
      after = λ k. did.views k ∙ seen_with view_of st.id k done.0 m.anchors ∙ ap (λ v. if st.id == k then Some v else master_view m k) view;
      told = no_records (anchor_did m st.id done).1.sends did.sends;
      ascends = did.ascends up;
    }) refl)

passed_is : (c : Choices) (m : MasterNode) (st : StatusTransfer) (o : Option AnchorState) → Ascends m.anchors → held st.id m.anchors ≡ o → MasterPassed c m st (on_waiting c m st.id (λ a. status_in c a st) o)
passed_is c m st None up at =
    let seen : master_view m st.id ≡ None = ap (λ o. option_map view_of o) at in
    waits_on (unchanged_here m st.id (passed st false (master_view m st.id)) up (seen ∙ sym (ap (passed st false) seen)))
passed_is c m st (Some a) up at = status_did c m st a (status_in c a st) up at (status_is c a st)

-- one that stands alone
after_none : (m : MasterNode) (done : MasterNode × Effects) → after_effects done.1 (done.0, quiet) ≡ done
after_none m done = ap (λ (x : Effects). (done.0, x)) (both_none done.1)
  where
    both_none : (x : Effects) → both x quiet ≡ x
    both_none x = ap (λ (ns : List Note). record { notes = ns; sends = x.sends ++ [] }) (append-nil x.notes) ∙ ap (λ (ss : List Send). record { notes = x.notes; sends = ss }) (append-nil x.sends)

-- ---- the acts of a record are those of the procedures, but for a status transfer

plain_act : (c : Choices) (m : MasterNode) (a : Act) → is_pass a ≡ false → master_did c m a ≡ master_act c m a
plain_act c m (send to r) no' = refl
plain_act c m (prepare p) no' = refl
plain_act c m (go p) no' = refl
plain_act c m (unlock_all g) no' = refl
plain_act c m (say n) no' = refl
plain_act c m (recover_one id) no' = refl
plain_act c m (fail_one id g) no' = refl
plain_act c m (pass st) no' = absurd cc

none_first : (b d : Bool) → (b || d) ≡ false → b ≡ false
none_first true d no' = no'
none_first false d no' = refl

none_later : (b d : Bool) → (b || d) ≡ false → d ≡ false
none_later true d no' = absurd cc
none_later false d no' = no'

plain_acts : (c : Choices) (m : MasterNode) (acts : List Act) → Passes_nothing acts → in_turn (master_did c) m acts ≡ in_turn (master_act c) m acts
plain_acts c m [] none = refl
plain_acts c m (a ∷ acts) none =
    let here = none_first (is_pass a) (list_any is_pass acts) none in
    let later = none_later (is_pass a) (list_any is_pass acts) none in
    ap (λ (done : MasterNode × Effects). after_effects done.1 (in_turn (master_did c) done.0 acts)) (plain_act c m a here)
    ∙ ap (λ (more : MasterNode × Effects). after_effects (master_act c m a).1 more) (plain_acts c (master_act c m a).0 acts later)

-- ---- a record

heard_by : (c : Choices) (m : MasterNode) (from : Node) (r : Rec) (t : Result MasterActs ProcFault) → Ascends m.anchors → master_take from m.proc r ≡ t → PlainOrPass m.proc t
    → MasterHeard c m from r (record_taken c m t)
heard_by c m from r t up taken (plain acts none) =
    master_heard acts taken none (subst (MasterProjects m acts) (sym (plain_acts c (record m { proc = acts.0 }) acts.1 none)) (does_projects c m acts up))
heard_by c m from r t up taken (pass_alone st) =
    master_passed st taken (subst (MasterPassed c m st) (sym (after_none m (on_waiting c m st.id (λ a. status_in c a st) (held st.id m.anchors)))) (passed_is c m st (held st.id m.anchors) up refl))
heard_by c m from r t up taken (no_row_there why) = master_no_row why taken refl

-- a record comes to the master
pub master_hears : (c : Choices) (m : MasterNode) (from : Node) (r : Rec) → Ascends m.anchors → MasterHeard c m from r (master_takes c m from (flight.Ctl r) Ctl)
master_hears c m from r up = heard_by c m from r (master_take from m.proc r) up refl (take_pass from m.proc r)

-- ---- a command

ordered_by : (c : Choices) (m : MasterNode) (policies : ℕ) (e : Event) (t : Result MasterActs ProcFault) → Ascends m.anchors → master_command policies m.proc e ≡ t
    → MasterOrdered m policies e (came (commanded c m t))
ordered_by c m policies e (Ok acts) up is = master_ordered acts is (does_projects c m acts up)
ordered_by c m policies e (Err (refused why)) up is = master_refused (refused why) is refl
ordered_by c m policies e (Err (unexpected k)) up is = master_refused (unexpected k) is refl

pub master_orders : (c : Choices) (m : MasterNode) (policies : ℕ) (e : Event) → Ascends m.anchors → MasterOrdered m policies e (came (commanded c m (master_command policies m.proc e)))
master_orders c m policies e up = ordered_by c m policies e (master_command policies m.proc e) up refl
