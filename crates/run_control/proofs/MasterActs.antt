-- What the master's procedures have it do, act by act, as the control plane sees it.
use Rattle.std.proofs.Common.{ℕ, ◌≡◌, ◌++◌, ◌==◌, Bool, true, false, List, [], ◌∷◌, Option, Some, None, refl, sym, ap, ◌∙◌}
use Rattle.std.specs.Prelude.{if◌then◌else◌, not}
use Rattle.std.specs.Option.{option_map}
use Rattle.dc_base.specs.declared.events.Note.{Note}
use Rattle.dc_base.specs.declared.records.StatusTransfer.{StatusTransfer}
use Rattle.node_rules.specs.Anchor.{AnchorState, active_anchor, setup_at, waiting_anchor}
use Rattle.node_rules.specs.AnchorSending.{fail_scg, recover, unlock}
use Rattle.node_rules.specs.Choices.{Choices, Send}
use Rattle.node_rules.specs.Effects.{in_turn, noted, quiet}
use Rattle.node_rules.specs.Held.{held, identities}
use Rattle.node_rules.specs.Master.{MasterNode, anchor_did, is_waiting, on_anchor, on_anchor_of, without_waiting}
use Rattle.node_rules.specs.MasterPlan.{does, is_rejection, master_act}
use Rattle.node_rules.specs.MasterState.{MasterActs}
use Rattle.node_rules.specs.declared.acts.Act.{Act}
use Rattle.node_rules.specs.declared.acts.Act.TheVariants.{FailOne as fail_one, Go as go, Pass as pass, Prepare as prepare, RecoverOne as recover_one, Say as say, Send as send, UnlockAll as unlock_all}
use Rattle.node_rules.specs.declared.bearers.AnchorOut.{AnchorOut}
use Rattle.node_rules.specs.declared.inputs.Effects.{Effects}
use Rattle.run_control.specs.MasterControl.{MasterDid, MasterProjects, active_at, active_only, own_act_sends, own_act_view, own_acts_sends, own_acts_view}
use Rattle.run_control.specs.Orders.{Ascends}
use Rattle.run_control.specs.SecondControl.{Views, at_id, opened_by}
use Rattle.run_control.specs.Traffic.{Keeps}
use Rattle.run_control.specs.Views.{View, master_view, view_of, waits_with}
use Rattle.run_control.proofs.Anchors.{fail_keeps, recover_keeps, unlock_opens}
use Rattle.run_control.proofs.Ascending.{ascends_some, held_some, kept_by}
use Rattle.run_control.proofs.Holding.{seen_again, seen_with}
use Rattle.run_control.proofs.MasterItems.{here_alike, idle_here, own_items_did, prepared_alike, prepared_did, sent_alike, unchanged_here}
use Rattle.run_control.proofs.Masters.{anchor_done}
use Rattle.run_control.proofs.SecondActs.{all_opened, opened_alike, opened_in}
use Rattle.run_control.proofs.Seconds.{setup_g}
use Rattle.run_control.proofs.Sequences.{Alike, no_records, records_both}

-- ---- an anchor that stays

kept_own : (m : MasterNode) (id : ℕ) (f : AnchorState → AnchorState × AnchorOut) (o : Option AnchorState) → ((a : AnchorState) → Keeps a (f a)) → Ascends m.anchors → held id m.anchors ≡ o
    → MasterDid m (master_view m) [] (on_anchor m id f o)
kept_own m id f None is up at = idle_here m up
kept_own m id f (Some a) is up at =
    let did = anchor_done m id (f a) (is a).sends in
    record {
      proc = did.proc;
      after = λ k. did.views k ∙ seen_again view_of id k (f a).0 a m.anchors at (is a).view;
      told = no_records (anchor_did m id (f a)).1.sends did.sends;
      ascends = did.ascends up;
    }

either_own : (m : MasterNode) (views : Views) (told : List Send) (b : Bool) (x y : MasterNode × Effects) → MasterDid m views told x → MasterDid m views told y → MasterDid m views told (if b then x else y)
either_own m views told true x y p q = p
either_own m views told false x y p q = q

failed_own : (c : Choices) (m : MasterNode) (id g : ℕ) (o : Option AnchorState) → Ascends m.anchors → held id m.anchors ≡ o → MasterDid m (master_view m) [] (on_anchor_of m g (fail_scg c) id o)
failed_own c m id g None up at = idle_here m up
failed_own c m id g (Some a) up at =
    either_own m (master_view m) [] ((setup_at a).g == g) (anchor_did m id (fail_scg c a)) (m, quiet) (kept_own m id (fail_scg c) (Some a) (λ x. fail_keeps c x) up at) (idle_here m up)

-- ---- the anchors of a generation open

opened_by_own : (c : Choices) (m : MasterNode) (id g : ℕ) (a : AnchorState) (own : Bool) → Ascends m.anchors → held id m.anchors ≡ Some a → ((setup_at a).g == g) ≡ own
    → MasterDid m (at_id id (opened_by g (master_view m id)) (master_view m)) [] (if own then anchor_did m id (unlock c a) else (m, quiet))
opened_by_own c m id g a true up at own =
    let is = unlock_opens c a in
    let did = anchor_done m id (unlock c a) is.sends in
    let seen : master_view m id ≡ Some (view_of a) = ap (λ o. option_map view_of o) at in
    let mine : ((view_of a).bearer.g == g) ≡ true = ap (λ n. n == g) (sym (setup_g a)) ∙ own in
    let new : opened_by g (master_view m id) ≡ Some (record (view_of a) { opened = true }) =
    ap (opened_by g) seen ∙ ap (λ b. Some (if b then record (view_of a) { opened = true } else view_of a)) mine in
    record {
      proc = did.proc;
      after = λ k. did.views k ∙ seen_with view_of id k (unlock c a).0 m.anchors ∙ ap (λ z. if id == k then z else master_view m k) (ap (λ v. Some v) is.view ∙ sym new);
      told = no_records (anchor_did m id (unlock c a)).1.sends did.sends;
      ascends = did.ascends up;
    }
opened_by_own c m id g a false up at own =
    let seen : master_view m id ≡ Some (view_of a) = ap (λ o. option_map view_of o) at in
    let other : ((view_of a).bearer.g == g) ≡ false = ap (λ n. n == g) (sym (setup_g a)) ∙ own in
    let old : opened_by g (master_view m id) ≡ Some (view_of a) = ap (opened_by g) seen ∙ ap (λ b. Some (if b then record (view_of a) { opened = true } else view_of a)) other in
    unchanged_here m id (opened_by g (master_view m id)) up (seen ∙ sym old)

opened_own : (c : Choices) (m : MasterNode) (id g : ℕ) (o : Option AnchorState) → Ascends m.anchors → held id m.anchors ≡ o
    → MasterDid m (at_id id (opened_by g (master_view m id)) (master_view m)) [] (on_anchor_of m g (unlock c) id o)
opened_own c m id g None up at =
    let seen : master_view m id ≡ None = ap (λ o. option_map view_of o) at in
    unchanged_here m id (opened_by g (master_view m id)) up (seen ∙ sym (ap (opened_by g) seen))
opened_own c m id g (Some a) up at = opened_by_own c m id g a ((setup_at a).g == g) up at refl

opened_each_own : (c : Choices) (g : ℕ) (m : MasterNode) (ids : List ℕ) → Ascends m.anchors
    → MasterDid m (opened_in g ids (master_view m)) [] (in_turn (λ n id. on_anchor_of n g (unlock c) id (held id n.anchors)) m ids)
opened_each_own c g m [] up = idle_here m up
opened_each_own c g m (id ∷ ids) up =
    let step = λ (n : MasterNode) (i : ℕ). on_anchor_of n g (unlock c) i (held i n.anchors) in
    let here = step m id in
    let one = opened_own c m id g (held id m.anchors) up refl in
    let more = opened_each_own c g here.0 ids one.ascends in
    record {
      proc = more.proc ∙ one.proc;
      after = λ k. more.after k ∙ opened_alike g ids (master_view here.0) (at_id id (opened_by g (master_view m id)) (master_view m)) one.after k;
      told = records_both here.1.sends (in_turn step here.0 ids).1.sends one.told more.told;
      ascends = more.ascends;
    }

unlocked_own : (c : Choices) (g : ℕ) (m : MasterNode) → Ascends m.anchors
    → MasterDid m (λ k. opened_by g (master_view m k)) [] (in_turn (λ n id. on_anchor_of n g (unlock c) id (held id n.anchors)) m (identities m.anchors))
unlocked_own c g m up =
    let is = opened_each_own c g m (identities m.anchors) up in
    record { proc = is.proc; after = λ k. is.after k ∙ all_opened view_of g m.anchors k; told = is.told; ascends = is.ascends }

-- ---- a rejection

waits_gone : (v : View) (t : Option StatusTransfer) → None ≡ active_at (waits_with t) v
waits_gone v None = refl
waits_gone v (Some st) = refl

active_kept : (o : Option AnchorState) → option_map view_of (kept_by (λ a. not (is_waiting a)) o) ≡ active_only (option_map view_of o)
active_kept None = refl
active_kept (Some (waiting_anchor w)) = waits_gone (view_of (waiting_anchor w)) w.transfer
active_kept (Some (active_anchor a)) = refl

said_by : (m : MasterNode) (n : Note) (rejected : Bool) → Ascends m.anchors
    → MasterDid m (λ k. if rejected then active_only (master_view m k) else master_view m k) [] (if rejected then without_waiting m else m, noted n)
said_by m n true up = record {
  proc = refl;
  after = λ k. ap (λ o. option_map view_of o) (held_some (λ a. not (is_waiting a)) 0 k m.anchors up) ∙ active_kept (held k m.anchors);
  told = refl;
  ascends = ascends_some (λ a. not (is_waiting a)) 0 m.anchors up;
}
said_by m n false up = record { proc = refl; after = λ k. refl; told = refl; ascends = up }

-- ---- an act

pub own_act_did : (c : Choices) (m : MasterNode) (a : Act) → Ascends m.anchors → MasterDid m (own_act_view a (master_view m)) (own_act_sends a (master_view m)) (master_act c m a)
own_act_did c m (send to r) up = record { proc = refl; after = λ k. refl; told = refl; ascends = up }
own_act_did c m (prepare p) up = prepared_did p m p.items up
own_act_did c m (go p) up = own_items_did p m p.items up
own_act_did c m (unlock_all g) up = unlocked_own c g m up
own_act_did c m (say n) up = said_by m n (is_rejection n) up
own_act_did c m (recover_one id) up = kept_own m id (recover c) (held id m.anchors) (λ a. recover_keeps c a) up refl
own_act_did c m (fail_one id g) up = failed_own c m id g (held id m.anchors) up refl
own_act_did c m (pass st) up = idle_here m up

-- ---- several

said_alike : (b : Bool) (v w : Views) → Alike v w → Alike (λ k. if b then active_only (v k) else v k) (λ k. if b then active_only (w k) else w k)
said_alike b v w same k = ap (λ z. if b then active_only z else z) (same k)

own_act_alike : (a : Act) (v w : Views) → Alike v w → Alike (own_act_view a v) (own_act_view a w)
own_act_alike (send to r) v w same = same
own_act_alike (prepare p) v w same = prepared_alike p p.items v w same
own_act_alike (go p) v w same = here_alike p p.items v w same
own_act_alike (unlock_all g) v w same = λ k. ap (opened_by g) (same k)
own_act_alike (say n) v w same = said_alike (is_rejection n) v w same
own_act_alike (recover_one id) v w same = same
own_act_alike (fail_one id g) v w same = same
own_act_alike (pass st) v w same = same

own_sends_alike : (a : Act) (v w : Views) → Alike v w → own_act_sends a v ≡ own_act_sends a w
own_sends_alike (send to r) v w same = refl
own_sends_alike (prepare p) v w same = refl
own_sends_alike (go p) v w same = sent_alike p p.items v w same
own_sends_alike (unlock_all g) v w same = refl
own_sends_alike (say n) v w same = refl
own_sends_alike (recover_one id) v w same = refl
own_sends_alike (fail_one id g) v w same = refl
own_sends_alike (pass st) v w same = refl

pub own_acts_alike : (acts : List Act) (v w : Views) → Alike v w → Alike (own_acts_view acts v) (own_acts_view acts w)
own_acts_alike [] v w same = same
own_acts_alike (a ∷ acts) v w same = own_acts_alike acts _ _ (own_act_alike a v w same)

pub own_acts_sends_alike : (acts : List Act) (v w : Views) → Alike v w → own_acts_sends acts v ≡ own_acts_sends acts w
own_acts_sends_alike [] v w same = refl
own_acts_sends_alike (a ∷ acts) v w same =
    ap (λ zs. zs ++ own_acts_sends acts (own_act_view a v)) (own_sends_alike a v w same)
    ∙ ap (λ zs. own_act_sends a w ++ zs) (own_acts_sends_alike acts _ _ (own_act_alike a v w same))

pub own_acts_did : (c : Choices) (m : MasterNode) (acts : List Act) → Ascends m.anchors → MasterDid m (own_acts_view acts (master_view m)) (own_acts_sends acts (master_view m)) (in_turn (master_act c) m acts)
own_acts_did c m [] up = idle_here m up
own_acts_did c m (a ∷ acts) up =
    let here = master_act c m a in
    let one = own_act_did c m a up in
    let more = own_acts_did c here.0 acts one.ascends in
    record {
      proc = more.proc ∙ one.proc;
      after = λ k. more.after k ∙ own_acts_alike acts (master_view here.0) (own_act_view a (master_view m)) one.after k;
      told = records_both here.1.sends (in_turn (master_act c) here.0 acts).1.sends one.told (more.told ∙ own_acts_sends_alike acts (master_view here.0) (own_act_view a (master_view m)) one.after);
      ascends = more.ascends;
    }

-- ---- a step of the procedures

pub does_projects : (c : Choices) (m : MasterNode) (acts : MasterActs) → Ascends m.anchors → MasterProjects m acts (does c m acts)
does_projects c m acts up =
    let did = own_acts_did c (record m { proc = acts.0 }) acts.1 up in
    record { proc = did.proc; after = did.after; told = did.told; ascends = did.ascends }
