-- How the master carries a plan out, item by item, as the control plane sees it.
use Rattle.std.proofs.Common.{ℕ, ◌≡◌, ◌++◌, ◌==◌, true, List, [], ◌∷◌, Option, Some, None, refl, sym, ap, subst, ◌∙◌}
use Rattle.std.specs.Prelude.{if◌then◌else◌}
use Rattle.std.specs.Option.{option_map}
use Rattle.dc_base.specs.Links.{link}
use Rattle.dc_base.specs.Nodes.{is_same_node}
use Rattle.dc_base.specs.Records.{item_id}
use Rattle.dc_base.specs.declared.flights.Flight.TheVariants as flight
use Rattle.dc_base.specs.declared.nodes.Alg.{Alg}
use Rattle.dc_base.specs.declared.nodes.Class.TheVariants.{Ctl, Feed}
use Rattle.dc_base.specs.declared.nodes.Node.{Node}
use Rattle.dc_base.specs.declared.nodes.Node.TheVariants.{A, B, M, T}
use Rattle.dc_base.specs.declared.records.Item.{Item}
use Rattle.dc_base.specs.declared.records.Item.TheVariants as item
use Rattle.dc_base.specs.declared.records.Plan.{Plan}
use Rattle.dc_base.specs.declared.records.Rec.TheVariants as rec
use Rattle.dc_base.specs.declared.records.StatusTransfer.{StatusTransfer}
use Rattle.node_rules.specs.Anchor.{AnchorState, active_anchor, fresh, renew, waiting, waiting_anchor}
use Rattle.node_rules.specs.Choices.{Send}
use Rattle.node_rules.specs.Effects.{in_turn, quiet, sent}
use Rattle.node_rules.specs.Freezing.{freeze}
use Rattle.node_rules.specs.Held.{held, holding}
use Rattle.node_rules.specs.Master.{MasterNode}
use Rattle.node_rules.specs.MasterPlan.{carries_item, frozen_here, line_end, line_ends, master_part, master_setup, prepares_item, prepares_part, renewed_here, with_host_and_window}
use Rattle.node_rules.specs.Parts.{part_at}
use Rattle.node_rules.specs.Places.{anchor_at}
use Rattle.node_rules.specs.Setup.{Setup, setup_of}
use Rattle.node_rules.specs.declared.inputs.Effects.{Effects}
use Rattle.node_rules.specs.declared.parts.Part.{Part}
use Rattle.node_rules.specs.declared.parts.Part.TheVariants.{Awaits as awaits, Drops as drops, Establishes as establishes, HandsOver as hands_over, HasNoAnchor as has_no_anchor, Renews as renews}
use Rattle.run_control.specs.MasterControl.{MasterDid, carried_here, own_part_sends, own_part_view, prepared_here, prepared_view, sent_here, with_own_item, with_prepared}
use Rattle.run_control.specs.Orders.{Ascends}
use Rattle.run_control.specs.SecondControl.{Views, at_id, given, made, renewed, set_by, status_of, tells, tells_at}
use Rattle.run_control.specs.Views.{View, bearer_of, controls, holds, lacks_status, master_view, view_of, waits_with}
use Rattle.run_control.proofs.SecondItems.{ascends_put, freeze_none, seen_put, set_bearer, waits_given, waits_renewed}
use Rattle.run_control.proofs.Sent.{either}
use Rattle.run_control.proofs.Sequences.{Alike, at_alike, at_same, no_records, records_both}

-- nothing is done
pub idle_here : (m : MasterNode) → Ascends m.anchors → MasterDid m (master_view m) [] (m, quiet)
idle_here m up = record { proc = refl; after = λ k. refl; told = refl; ascends = up }

-- nothing is done, where that is what is to be done
pub unchanged_here : (m : MasterNode) (id : ℕ) (v : Option View) → Ascends m.anchors → master_view m id ≡ v → MasterDid m (at_id id v (master_view m)) [] (m, quiet)
unchanged_here m id v up is = record { proc = refl; after = λ k. at_same id k (master_view m) ∙ ap (λ z. at_id id z (master_view m) k) is; told = refl; ascends = up }

-- another anchor, or none
put_here : (m : MasterNode) (id : ℕ) (x : Option AnchorState) (v : Option View) (effects : Effects) → controls effects.sends ≡ [] → Ascends m.anchors → option_map view_of x ≡ v
    → MasterDid m (at_id id v (master_view m)) [] (record m { anchors = holding id x m.anchors }, effects)
put_here m id x v effects none up is = record {
  proc = refl;
  after = λ k. seen_put view_of id k x m.anchors up ∙ ap (λ z. if id == k then z else master_view m k) is;
  told = no_records effects.sends none;
  ascends = ascends_put id x m.anchors up;
}

-- other sends
told_here : (m : MasterNode) (views : Views) (us vs : List Send) (done : MasterNode × Effects) → us ≡ vs → MasterDid m views us done → MasterDid m views vs done
told_here m views us vs done same is = record { proc = is.proc; after = is.after; told = is.told ∙ same; ascends = is.ascends }

-- ---- an anchor begins

begun_here : (p : Plan) (alg : Alg) (key : List ℕ) (i : Item) → option_map view_of (option_map fresh (setup_of M p alg key i)) ≡ made holds (set_by p.g i)
begun_here p alg key (item.Set id n first shape threshold policy name old) = refl
begun_here p alg key (item.Unset id) = refl

awaited_here : (p : Plan) (alg : Alg) (key : List ℕ) (i : Item) → option_map view_of (option_map waiting (setup_of M p alg key i)) ≡ made lacks_status (set_by p.g i)
awaited_here p alg key (item.Set id n first shape threshold policy name old) = refl
awaited_here p alg key (item.Unset id) = refl

-- ---- it stays

renewed_own : (m : MasterNode) (id g : ℕ) (setup : Option Setup) (o : Option AnchorState) → Ascends m.anchors → held id m.anchors ≡ o
    → MasterDid m (at_id id (renewed (option_map bearer_of setup) (master_view m id)) (master_view m)) [] (renewed_here m id g setup o)
renewed_own m id g None o up at = unchanged_here m id (master_view m id) up refl
renewed_own m id g (Some st) None up at =
    let seen : master_view m id ≡ None = ap (λ o. option_map view_of o) at in
    unchanged_here m id (renewed (Some (bearer_of st)) (master_view m id)) up (seen ∙ sym (ap (renewed (Some (bearer_of st))) seen))
renewed_own m id g (Some st) (Some (waiting_anchor w)) up at =
    let seen : master_view m id ≡ Some (view_of (waiting_anchor w)) = ap (λ o. option_map view_of o) at in
    unchanged_here m id (renewed (Some (bearer_of st)) (master_view m id)) up
    (seen ∙ ap (λ z. Some z) (sym (waits_renewed (bearer_of st) (view_of (waiting_anchor w)) w.transfer)) ∙ sym (ap (renewed (Some (bearer_of st))) seen))
renewed_own m id g (Some st) (Some (active_anchor a)) up at =
    let seen : master_view m id ≡ Some (view_of (active_anchor a)) = ap (λ o. option_map view_of o) at in
    put_here m id (Some (active_anchor (renew a st))) (renewed (Some (bearer_of st)) (master_view m id)) _ refl up (sym (ap (renewed (Some (bearer_of st))) seen))

-- ---- it is given up

waits_tells : (to : Node) (g : ℕ) (v : View) (t : Option StatusTransfer) → tells_at (waits_with t) (link M to Ctl) g v ≡ []
waits_tells to g v None = refl
waits_tells to g v (Some st) = refl

frozen_own : (m : MasterNode) (id g : ℕ) (to : Node) (o : Option AnchorState) → Ascends m.anchors → held id m.anchors ≡ o
    → MasterDid m (at_id id (given (master_view m id)) (master_view m)) (tells (link M to Ctl) g (master_view m id)) (frozen_here m id g to o)
frozen_own m id g to None up at =
    let seen : master_view m id ≡ None = ap (λ o. option_map view_of o) at in
    told_here m (at_id id (given (master_view m id)) (master_view m)) [] (tells (link M to Ctl) g (master_view m id)) (m, quiet) (sym (ap (tells (link M to Ctl) g) seen))
    (unchanged_here m id (given (master_view m id)) up (seen ∙ sym (ap given seen)))
frozen_own m id g to (Some (waiting_anchor w)) up at =
    let v = view_of (waiting_anchor w) in
    let seen : master_view m id ≡ Some v = ap (λ o. option_map view_of o) at in
    told_here m (at_id id (given (master_view m id)) (master_view m)) [] (tells (link M to Ctl) g (master_view m id)) (m, quiet) (sym (ap (tells (link M to Ctl) g) seen ∙ waits_tells to g v w.transfer))
    (unchanged_here m id (given (master_view m id)) up (seen ∙ sym (waits_given v w.transfer) ∙ sym (ap given seen)))
frozen_own m id g to (Some (active_anchor a)) up at =
    let v = view_of (active_anchor a) in
    let seen : master_view m id ≡ Some v = ap (λ o. option_map view_of o) at in
    record {
      proc = refl;
      after = λ k. seen_put view_of id k None m.anchors up ∙ ap (λ z. if id == k then z else master_view m k) (sym (ap given seen));
      told = ap (λ (zs : List Send). (link M to Ctl, flight.Ctl (rec.Snst (status_of g a.entity.setup.id))) ∷ zs) (no_records (freeze a to g true).sends (freeze_none a to g true))
          ∙ sym (ap (tells (link M to Ctl) g) seen);
      ascends = ascends_put id None m.anchors up;
    }

-- ---- an item

own_part_did : (p : Plan) (m : MasterNode) (i : Item) (part : Part) → Ascends m.anchors
    → MasterDid m (at_id (item_id i) (own_part_view p.g i part (master_view m (item_id i))) (master_view m)) (own_part_sends p.g part (master_view m (item_id i))) (master_part m p i part)
own_part_did p m i establishes up = put_here m (item_id i) (option_map fresh (master_setup m p i)) (made holds (set_by p.g i)) _ refl up (begun_here p m.alg _ i)
own_part_did p m i renews up =
    subst (λ b. MasterDid m (at_id (item_id i) (renewed b (master_view m (item_id i))) (master_view m)) [] (renewed_here m (item_id i) p.g (master_setup m p i) (held (item_id i) m.anchors)))
    (set_bearer M p m.alg _ i) (renewed_own m (item_id i) p.g (master_setup m p i) (held (item_id i) m.anchors) up refl)
own_part_did p m i awaits up = unchanged_here m (item_id i) (master_view m (item_id i)) up refl
own_part_did p m i (hands_over to) up = frozen_own m (item_id i) p.g to (held (item_id i) m.anchors) up refl
own_part_did p m i drops up = put_here m (item_id i) None None quiet refl up refl
own_part_did p m i has_no_anchor up = unchanged_here m (item_id i) (master_view m (item_id i)) up refl

-- the end of the core's line is no record
line_none : (g id : ℕ) (new old : Node) → controls (line_end g id new old).sends ≡ []
line_none g id new M = refl
line_none g id new T = refl
line_none g id new A = either (λ (x : Effects). controls x.sends ≡ []) (is_same_node new A) quiet (sent (link M A Feed) (flight.End id g)) refl refl
line_none g id new B = either (λ (x : Effects). controls x.sends ≡ []) (is_same_node new B) quiet (sent (link M B Feed) (flight.End id g)) refl refl

lines_none : (g : ℕ) (sec : Option Node) (i : Item) → controls (line_ends g sec i).sends ≡ []
lines_none g sec (item.Set id n first shape threshold policy key None) = refl
lines_none g sec (item.Set id n first shape threshold policy key (Some old)) = line_none g id (anchor_at sec shape) old
lines_none g sec (item.Unset id) = refl

pub own_item_did : (p : Plan) (m : MasterNode) (i : Item) → Ascends m.anchors
    → MasterDid m (with_own_item p i (master_view m)) (own_part_sends p.g (part_at M p.sec i) (master_view m (item_id i))) (carries_item p m i)
own_item_did p m i up =
    let m' = with_host_and_window p m i in
    let is = own_part_did p m' i (part_at M p.sec i) up in
    record {
      proc = is.proc;
      after = is.after;
      told = records_both (line_ends p.g p.sec i).sends (master_part m' p i (part_at M p.sec i)).1.sends (no_records (line_ends p.g p.sec i).sends (lines_none p.g p.sec i)) is.told;
      ascends = is.ascends;
    }

prepared_part : (p : Plan) (m : MasterNode) (i : Item) (part : Part) → Ascends m.anchors
    → MasterDid m (at_id (item_id i) (prepared_view p.g i part (master_view m (item_id i))) (master_view m)) [] (prepares_part m p i part)
prepared_part p m i establishes up = unchanged_here m (item_id i) (master_view m (item_id i)) up refl
prepared_part p m i renews up = unchanged_here m (item_id i) (master_view m (item_id i)) up refl
prepared_part p m i awaits up = put_here m (item_id i) (option_map waiting (master_setup m p i)) (made lacks_status (set_by p.g i)) quiet refl up (awaited_here p m.alg _ i)
prepared_part p m i (hands_over to) up = unchanged_here m (item_id i) (master_view m (item_id i)) up refl
prepared_part p m i drops up = unchanged_here m (item_id i) (master_view m (item_id i)) up refl
prepared_part p m i has_no_anchor up = unchanged_here m (item_id i) (master_view m (item_id i)) up refl

-- ---- a plan

own_alike : (p : Plan) (i : Item) (v w : Views) → Alike v w → Alike (with_own_item p i v) (with_own_item p i w)
own_alike p i v w same = at_alike (item_id i) _ _ v w (ap (own_part_view p.g i (part_at M p.sec i)) (same (item_id i))) same

pub here_alike : (p : Plan) (items : List Item) (v w : Views) → Alike v w → Alike (carried_here p items v) (carried_here p items w)
here_alike p [] v w same = same
here_alike p (i ∷ items) v w same = here_alike p items _ _ (own_alike p i v w same)

pub sent_alike : (p : Plan) (items : List Item) (v w : Views) → Alike v w → sent_here p items v ≡ sent_here p items w
sent_alike p [] v w same = refl
sent_alike p (i ∷ items) v w same =
    ap (λ zs. zs ++ sent_here p items (with_own_item p i v)) (ap (own_part_sends p.g (part_at M p.sec i)) (same (item_id i)))
    ∙ ap (λ zs. own_part_sends p.g (part_at M p.sec i) (w (item_id i)) ++ zs) (sent_alike p items _ _ (own_alike p i v w same))

one_prepared_alike : (p : Plan) (i : Item) (v w : Views) → Alike v w → Alike (with_prepared p i v) (with_prepared p i w)
one_prepared_alike p i v w same = at_alike (item_id i) _ _ v w (ap (prepared_view p.g i (part_at M p.sec i)) (same (item_id i))) same

pub prepared_alike : (p : Plan) (items : List Item) (v w : Views) → Alike v w → Alike (prepared_here p items v) (prepared_here p items w)
prepared_alike p [] v w same = same
prepared_alike p (i ∷ items) v w same = prepared_alike p items _ _ (one_prepared_alike p i v w same)

pub own_items_did : (p : Plan) (m : MasterNode) (items : List Item) → Ascends m.anchors → MasterDid m (carried_here p items (master_view m)) (sent_here p items (master_view m)) (in_turn (carries_item p) m items)
own_items_did p m [] up = idle_here m up
own_items_did p m (i ∷ items) up =
    let here = carries_item p m i in
    let one = own_item_did p m i up in
    let more = own_items_did p here.0 items one.ascends in
    record {
      proc = more.proc ∙ one.proc;
      after = λ k. more.after k ∙ here_alike p items (master_view here.0) (with_own_item p i (master_view m)) one.after k;
      told = records_both here.1.sends (in_turn (carries_item p) here.0 items).1.sends one.told (more.told ∙ sent_alike p items (master_view here.0) (with_own_item p i (master_view m)) one.after);
      ascends = more.ascends;
    }

pub prepared_did : (p : Plan) (m : MasterNode) (items : List Item) → Ascends m.anchors → MasterDid m (prepared_here p items (master_view m)) [] (in_turn (prepares_item p) m items)
prepared_did p m [] up = idle_here m up
prepared_did p m (i ∷ items) up =
    let here = prepares_item p m i in
    let one = prepared_part p m i (part_at M p.sec i) up in
    let more = prepared_did p here.0 items one.ascends in
    record {
      proc = more.proc ∙ one.proc;
      after = λ k. more.after k ∙ prepared_alike p items (master_view here.0) (with_prepared p i (master_view m)) one.after k;
      told = records_both here.1.sends (in_turn (prepares_item p) here.0 items).1.sends one.told more.told;
      ascends = more.ascends;
    }
