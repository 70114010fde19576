-- What the master notes in a step fits its active anchors, and says which are active after it.
use Rattle.std.proofs.Common.{ℕ, ◌≡◌, ◌==◌, ◌++◌, ◌∙◌, Bool, true, false, List, [], ◌∷◌, Option, Some, None, refl, sym, ap, subst, arith, inl, inr}
use Rattle.std.specs.Option.{option_map}
use Rattle.std.specs.Prelude.{Err, Ok, Result, if◌then◌else◌, is_some, length, nat_lt, not, ◌⊎◌}
use Rattle.dc_base.specs.declared.nodes.Dir.TheVariants.{Dl, Ul}
use Rattle.node_rules.specs.Anchor.{AnchorState, active_anchor, fresh, renew, setup_at, waiting, waiting_anchor}
use Rattle.node_rules.specs.Effects.{after_effects, both, in_turn, noted, quiet, unless}
use Rattle.node_rules.specs.Master.{MasterNode, anchor_did, handed_up, is_waiting, low_rises, on_anchor, on_anchor_of, told_by, window_told, without_waiting}
use Rattle.node_rules.specs.MasterPlan.{adopts_if, carries_item, does, frozen_here, is_rejection, line_end, line_ends, master_act, master_did, master_part, master_setup, on_waiting, owned, prepares_item, prepares_part, renewed_here, says, with_host_and_window}
use Rattle.node_rules.specs.Parts.{part_at}
use Rattle.node_rules.specs.declared.inputs.Outcome.{Outcome}
use Rattle.dc_base.specs.Nodes.{is_same_node}
use Rattle.dc_base.specs.Records.{item_id}
use Rattle.dc_base.specs.declared.answers.Refusal.{Refusal}
use Rattle.dc_base.specs.declared.events.Event.{Event}
use Rattle.dc_base.specs.declared.events.Event.TheVariants as event
use Rattle.dc_base.specs.declared.events.Note.TheVariants as note
use Rattle.dc_base.specs.declared.flights.Flight.{Flight}
use Rattle.dc_base.specs.declared.flights.Flight.TheVariants as flight
use Rattle.dc_base.specs.declared.nodes.Cell.TheVariants as cell
use Rattle.dc_base.specs.declared.nodes.Class.{Class}
use Rattle.dc_base.specs.declared.nodes.Class.TheVariants.{Air, Ctl, Feed, Tun}
use Rattle.dc_base.specs.declared.nodes.Node.{Node}
use Rattle.dc_base.specs.declared.nodes.Node.TheVariants.{A, B, M, T}
use Rattle.dc_base.specs.declared.records.Item.{Item}
use Rattle.dc_base.specs.declared.records.Item.TheVariants as item
use Rattle.dc_base.specs.declared.records.Plan.{Plan}
use Rattle.node_rules.specs.Acts.{ProcFault, first_refusal, refused, unexpected}
use Rattle.node_rules.specs.Adopting.{status_in}
use Rattle.node_rules.specs.AnchorReceiving.{air_in, tunnel_in}
use Rattle.node_rules.specs.AnchorSending.{fail_scg, recover, report, submit, unlock}
use Rattle.node_rules.specs.Choices.{Choices, Send}
use Rattle.node_rules.specs.CommandTable.{row}
use Rattle.node_rules.specs.Flights.{Named, flight_named}
use Rattle.node_rules.specs.Held.{held, holding, identities}
use Rattle.node_rules.specs.Host.{Host}
use Rattle.node_rules.specs.HostRules.{host_air_in, host_tunnel_in}
use Rattle.node_rules.specs.MasterCommands.{command_refusals, commands_unless}
use Rattle.node_rules.specs.MasterState.{MasterActs, has_bearer}
use Rattle.node_rules.specs.MasterStep.{command_taken, commanded, control_taken, data_taken, is_anchor_of, line_taken, master_event, master_step, master_takes, on_host, record_taken, report_asked, settled_row, submit_refusals, submitted, submitted_to, to_anchor_at, with_accepted}
use Rattle.node_rules.specs.MasterTaking.{master_adopted, master_take}
use Rattle.node_rules.specs.Places.{anchor_at}
use Rattle.node_rules.specs.Setup.{Setup}
use Rattle.node_rules.specs.declared.acts.Act.{Act}
use Rattle.node_rules.specs.declared.acts.Act.TheVariants.{FailOne as fail_one, Go as go, Pass as pass, Prepare as prepare, RecoverOne as recover_one, Say as say, Send as send, UnlockAll as unlock_all}
use Rattle.node_rules.specs.declared.bearers.AnchorOut.{AnchorOut}
use Rattle.node_rules.specs.declared.bearers.Window.{Window}
use Rattle.node_rules.specs.declared.commands.Row.{Row}
use Rattle.node_rules.specs.declared.inputs.Effects.{Effects}
use Rattle.node_rules.specs.declared.inputs.Input.{Input}
use Rattle.node_rules.specs.declared.inputs.Input.TheVariants.{Cmd, Come}
use Rattle.node_rules.specs.declared.parts.Part.{Part}
use Rattle.node_rules.specs.declared.parts.Part.TheVariants.{Awaits as awaits, Drops as drops, Establishes as establishes, HandsOver as hands_over, HasNoAnchor as has_no_anchor, Renews as renews}
use Rattle.dc_base.specs.declared.events.Note.{Note}
use Rattle.run_control.specs.Orders.{Ascends}
use Rattle.run_control.proofs.Ascending.{ascends_some, ascends_with, held_some, kept_by}
use Rattle.run_control.proofs.Holding.{seen_again}
use Rattle.run_control.proofs.SecondItems.{ascends_put, seen_put}
use Rattle.run_holders.specs.Actives.{Actives, Within, active_of, is_of_anchor, master_actives, with_active}
use Rattle.run_holders.proofs.AnchorSteps.{Stays, Steps, air_steps, either, fail_stays, goes_on, recover_stays, report_stays, status_steps, submit_stays, takes_over, tunnel_steps, unlock_stays}
use Rattle.run_holders.proofs.MasterSaying.{SayPlain, SaysPlain, TakesPlain, adopted_says, commands_says, take_says}
use Rattle.run_holders.proofs.Notes.{within_itself, within_then}
use Rattle.run_holders.proofs.Telling.{Tells, beside, hands_tell, less_with, own_tells, quietly, tells_then, with_whatever}

-- ---- what a step of the master tells

-- its anchors stay in order, and what it notes says which are active
pub record MasterTells (m : MasterNode) (done : MasterNode × Effects) : Type 0 where
  pub up : Ascends done.0.anchors
  pub tells : Tells M (master_actives m) done.1.notes (master_actives done.0)

master_then : (m mid : MasterNode) (x : Effects) (done : MasterNode × Effects) → MasterTells m (mid, x) → MasterTells mid done → MasterTells m (after_effects x done)
master_then m mid x done one two = record {
  up = two.up;
  tells = tells_then M (master_actives m) (master_actives mid) (master_actives done.0) x.notes done.1.notes one.tells two.tells;
}

-- its anchors stay, and it notes nothing
same_anchors : (m m' : MasterNode) (x : Effects) → m'.anchors ≡ m.anchors → x.notes ≡ [] → Ascends m.anchors → MasterTells m (m', x)
same_anchors m m' x same none up = record {
  up = subst (λ xs. Ascends xs) (sym same) up;
  tells = subst (λ ns. Tells M (master_actives m) ns (master_actives m')) (sym none)
      (quietly M (master_actives m) (master_actives m') (subst (λ xs. Within (master_actives (record m' { anchors = xs })) (master_actives m)) (sym same) (within_itself (master_actives m))));
}

idle : (m : MasterNode) → Ascends m.anchors → MasterTells m (m, quiet)
idle m up = same_anchors m m quiet refl refl up

-- the master with another anchor
abbrev with_anchor : MasterNode → ℕ → Option AnchorState → MasterNode
with_anchor m id o = record m { anchors = holding id o m.anchors }

same_map : {X : Type 0} (o : Option X) → option_map (λ (x : X). x) o ≡ o
same_map None = refl
same_map (Some x) = refl

put_is : (m : MasterNode) (id k : ℕ) (o : Option AnchorState) → Ascends m.anchors → master_actives (with_anchor m id o) k ≡ (if id == k then active_of o else master_actives m k)
put_is m id k o up =
    ap active_of (sym (same_map (held k (holding id o m.anchors))) ∙ seen_put (λ (a : AnchorState). a) id k o m.anchors up) ∙ by (id == k)
  where
    by : (d : Bool) → active_of (if d then option_map (λ (a : AnchorState). a) o else option_map (λ (a : AnchorState). a) (held k m.anchors)) ≡ (if d then active_of o else master_actives m k)
    by true = ap active_of (same_map o)
    by false = ap active_of (same_map (held k m.anchors))

put_within : (m : MasterNode) (id : ℕ) (o : Option AnchorState) → Ascends m.anchors → Within (master_actives (with_anchor m id o)) (with_active id (active_of o) (master_actives m))
put_within m id o up k g at = sym (put_is m id k o up) ∙ at

again_within : (m : MasterNode) (id : ℕ) (x y : AnchorState) → held id m.anchors ≡ Some y → active_of (Some x) ≡ active_of (Some y) → Within (master_actives (with_anchor m id (Some x))) (master_actives m)
again_within m id x y at same k g is =
    sym (ap (λ (o : Option (Option ℕ)). flat o) (seen_again (λ (z : AnchorState). active_of (Some z)) id k x y m.anchors at same) ∙ flat_is (held k m.anchors)) ∙ flat_is (held k (holding id (Some x) m.anchors)) ∙ is
  where
    flat : Option (Option ℕ) → Option ℕ
    flat None = None
    flat (Some o) = o

    flat_is : (o : Option AnchorState) → flat (option_map (λ (z : AnchorState). active_of (Some z)) o) ≡ active_of o
    flat_is None = refl
    flat_is (Some z) = refl

-- ---- windows

by_window : (m : MasterNode) (id count : ℕ) (o : Option Window) → Ascends m.anchors → MasterTells m (window_told m id count o)
by_window m id count None up = idle m up
by_window m id count (Some w) up =
    either (MasterTells m) (nat_lt w.told count) (record m { windows = holding id (Some (record w { told = count })) m.windows }, noted (note.Freed id Dl count)) (m, quiet)
    (record { up = up; tells = record { fits = (tt, tt); after = within_itself (master_actives m) } }) (idle m up)

by_low : (m : MasterNode) (id : ℕ) (o : Option ℕ) → Ascends m.anchors → MasterTells m (low_rises m id o)
by_low m id None up = idle m up
by_low m id (Some count) up = by_window m id count (held id m.windows) up

by_told : (m : MasterNode) (id g count : ℕ) (o : Option Row) → Ascends m.anchors → MasterTells m (told_by m id g count o)
by_told m id g count None up = idle m up
by_told m id g count (Some r) up = either (MasterTells m) (nat_lt g r.est) (m, quiet) (window_told m id count (held id m.windows)) (idle m up) (by_window m id count (held id m.windows) up)

-- ---- anchors

-- what an anchor did, where these are active before
did_tells : (m : MasterNode) (id : ℕ) (done : AnchorState × AnchorOut) (a : Actives) → Ascends m.anchors → Within (master_actives (with_anchor m id (Some done.0))) a → (is_some (a id) ≡ true) ⊎ (done.1.ups ≡ [])
    → Tells M a (anchor_did m id done).1.notes (master_actives (anchor_did m id done).0) × Ascends (anchor_did m id done).0.anchors
did_tells m id done a up less ups =
    let m' = with_anchor m id (Some done.0) in
    let low = by_low m' id done.1.low (ascends_with 0 id done.0 m.anchors (omega arith) up) in
    (tells_then M a (master_actives m') (master_actives (low_rises m' id done.1.low).0) (handed_up M id Ul done.1.ups) (low_rises m' id done.1.low).1.notes (hands_tell M id done.1.ups a (master_actives m') less ups) low.tells, low.up)

steps_ups : (m : MasterNode) (id : ℕ) (s : AnchorState) (ups : List (ℕ × List ℕ)) → held id m.anchors ≡ Some s → (is_some (active_of (Some s)) ≡ true) ⊎ (ups ≡ []) → (is_some (master_actives m id) ≡ true) ⊎ (ups ≡ [])
steps_ups m id s ups at (inl is) = inl (ap (λ o. is_some (active_of o)) at ∙ is)
steps_ups m id s ups at (inr none) = inr none

-- an anchor that does not adopt
stays_tells : (m : MasterNode) (id : ℕ) (s : AnchorState) (done : AnchorState × AnchorOut) → Ascends m.anchors → held id m.anchors ≡ Some s → active_of (Some done.0) ≡ active_of (Some s) → (is_some (active_of (Some s)) ≡ true) ⊎ (done.1.ups ≡ [])
    → MasterTells m (anchor_did m id done)
stays_tells m id s done up at same ups =
    let is = did_tells m id done (master_actives m) up (again_within m id done.0 s at same) (steps_ups m id s done.1.ups at ups) in record { up = is.1; tells = is.0 }

on_anchor_tells : (m : MasterNode) (id : ℕ) (f : AnchorState → AnchorState × AnchorOut) (o : Option AnchorState) → ((s : AnchorState) → Stays s (f s)) → Ascends m.anchors → held id m.anchors ≡ o → MasterTells m (on_anchor m id f o)
on_anchor_tells m id f None stays up at = idle m up
on_anchor_tells m id f (Some s) stays up at = stays_tells m id s (f s) up at (stays s).active (inr (stays s).ups)

on_anchor_of_tells : (m : MasterNode) (g : ℕ) (f : AnchorState → AnchorState × AnchorOut) (id : ℕ) (o : Option AnchorState) → ((s : AnchorState) → Stays s (f s)) → Ascends m.anchors → held id m.anchors ≡ o → MasterTells m (on_anchor_of m g f id o)
on_anchor_of_tells m g f id None stays up at = idle m up
on_anchor_of_tells m g f id (Some s) stays up at =
    either (MasterTells m) ((setup_at s).g == g) (anchor_did m id (f s)) (m, quiet) (stays_tells m id s (f s) up at (stays s).active (inr (stays s).ups)) (idle m up)

each_tells : {X : Type 0} (f : MasterNode → X → MasterNode × Effects) → ((m : MasterNode) (x : X) → Ascends m.anchors → MasterTells m (f m x)) → (m : MasterNode) (xs : List X) → Ascends m.anchors → MasterTells m (in_turn f m xs)
each_tells f each m [] up = idle m up
each_tells f each m (x ∷ xs) up = let one = each m x up in master_then m (f m x).0 (f m x).1 (in_turn f (f m x).0 xs) one (each_tells f each (f m x).0 xs one.up)

-- ---- a plan

owned_tells : (m : MasterNode) (id g : ℕ) (o : Option AnchorState) → Ascends m.anchors → Within (with_active id (active_of o) (master_actives m)) (with_active id (Some g) (master_actives m)) → MasterTells m (owned m id g o)
owned_tells m id g o up less = record {
  up = ascends_put id o m.anchors up;
  tells = own_tells M id g (master_actives m) (master_actives (with_anchor m id o)) (within_then (master_actives (with_anchor m id o)) _ _ (put_within m id o up) less);
}

silent_tells : (m : MasterNode) (id : ℕ) (o : Option AnchorState) → Ascends m.anchors → active_of o ≡ None → MasterTells m (with_anchor m id o, quiet)
silent_tells m id o up none = record {
  up = ascends_put id o m.anchors up;
  tells = quietly M (master_actives m) (master_actives (with_anchor m id o))
      (within_then (master_actives (with_anchor m id o)) (with_active id None (master_actives m)) (master_actives m)
      (subst (λ z. Within (master_actives (with_anchor m id o)) (with_active id z (master_actives m))) none (put_within m id o up)) (less_with id (master_actives m)));
}

begun_less : (m : MasterNode) (p : Plan) (id : ℕ) (a : Actives) (i : Item) → Within (with_active id (active_of (option_map fresh (master_setup m p i))) a) (with_active id (Some p.g) a)
begun_less m p id a (item.Set j n first shape threshold policy name old) = within_itself (with_active id (Some p.g) a)
begun_less m p id a (item.Unset j) = λ k g. by k g (id == k)
  where
    by : (k g : ℕ) (d : Bool) → (if d then None else a k) ≡ Some g → (if d then Some p.g else a k) ≡ Some g
    by k g true at = absurd cc
    by k g false at = at

waits_none : (m : MasterNode) (p : Plan) (i : Item) → active_of (option_map waiting (master_setup m p i)) ≡ None
waits_none m p (item.Set j n first shape threshold policy name old) = refl
waits_none m p (item.Unset j) = refl

setup_g : (m : MasterNode) (p : Plan) (i : Item) (st : Setup) → master_setup m p i ≡ Some st → st.g ≡ p.g
setup_g m p (item.Set j n first shape threshold policy name old) st is = sym (ap (λ (o : Option Setup). g_of o) is)
  where
    g_of : Option Setup → ℕ
    g_of None = p.g
    g_of (Some z) = z.g
setup_g m p (item.Unset j) st is = absurd (let bad : None ≡ Some st = is in cc)

renews_tells : (m : MasterNode) (id g : ℕ) (o : Option Setup) (s : Option AnchorState) → Ascends m.anchors → ((st : Setup) → o ≡ Some st → st.g ≡ g) → MasterTells m (renewed_here m id g o s)
renews_tells m id g None s up same = idle m up
renews_tells m id g (Some st) None up same = idle m up
renews_tells m id g (Some st) (Some (waiting_anchor w)) up same = idle m up
renews_tells m id g (Some st) (Some (active_anchor a)) up same =
    owned_tells m id g (Some (active_anchor (renew a st))) up
    (subst (λ z. Within (with_active id (Some z) (master_actives m)) (with_active id (Some g) (master_actives m))) (sym (same st refl)) (within_itself (with_active id (Some g) (master_actives m))))

frozen_tells : (m : MasterNode) (id g : ℕ) (to : Node) (o : Option AnchorState) → Ascends m.anchors → held id m.anchors ≡ o → MasterTells m (frozen_here m id g to o)
frozen_tells m id g to None up at = idle m up
frozen_tells m id g to (Some (waiting_anchor w)) up at = idle m up
frozen_tells m id g to (Some (active_anchor a)) up at = record {
  up = ascends_put id None m.anchors up;
  tells = record { fits = ((refl, ap (λ o. is_some (active_of o)) at), tt); after = put_within m id None up };
}

part_tells : (m : MasterNode) (p : Plan) (i : Item) (part : Part) → Ascends m.anchors → MasterTells m (master_part m p i part)
part_tells m p i establishes up = owned_tells m (item_id i) p.g (option_map fresh (master_setup m p i)) up (begun_less m p (item_id i) (master_actives m) i)
part_tells m p i renews up = renews_tells m (item_id i) p.g (master_setup m p i) (held (item_id i) m.anchors) up (setup_g m p i)
part_tells m p i awaits up = idle m up
part_tells m p i (hands_over to) up = frozen_tells m (item_id i) p.g to (held (item_id i) m.anchors) up refl
part_tells m p i drops up = silent_tells m (item_id i) None up refl
part_tells m p i has_no_anchor up = idle m up

end_silent : (g id : ℕ) (new old : Node) → (line_end g id new old).notes ≡ []
end_silent g id new M = refl
end_silent g id new T = refl
end_silent g id new A = either (λ (x : Effects). x.notes ≡ []) (is_same_node new A) _ _ refl refl
end_silent g id new B = either (λ (x : Effects). x.notes ≡ []) (is_same_node new B) _ _ refl refl

ends_silent : (g : ℕ) (sec : Option Node) (i : Item) → (line_ends g sec i).notes ≡ []
ends_silent g sec (item.Set id n first shape threshold policy key None) = refl
ends_silent g sec (item.Set id n first shape threshold policy key (Some old)) = end_silent g id (anchor_at sec shape) old
ends_silent g sec (item.Unset id) = refl

item_tells : (p : Plan) (m : MasterNode) (i : Item) → Ascends m.anchors → MasterTells m (carries_item p m i)
item_tells p m i up =
    let k = with_host_and_window p m i in
    master_then m k (line_ends p.g p.sec i) (master_part k p i (part_at M p.sec i)) (same_anchors m k (line_ends p.g p.sec i) refl (ends_silent p.g p.sec i) up) (part_tells k p i (part_at M p.sec i) up)

prepares_tells : (m : MasterNode) (p : Plan) (i : Item) (part : Part) → Ascends m.anchors → MasterTells m (prepares_part m p i part)
prepares_tells m p i establishes up = idle m up
prepares_tells m p i renews up = idle m up
prepares_tells m p i awaits up = silent_tells m (item_id i) (option_map waiting (master_setup m p i)) up (waits_none m p i)
prepares_tells m p i (hands_over to) up = idle m up
prepares_tells m p i drops up = idle m up
prepares_tells m p i has_no_anchor up = idle m up

-- ---- acts

without_within : (m : MasterNode) → Ascends m.anchors → Within (master_actives (without_waiting m)) (master_actives m)
without_within m up k g is = by (held k m.anchors) (sym (ap active_of (held_some (λ a. not (is_waiting a)) 0 k m.anchors up)) ∙ is)
  where
    by : (o : Option AnchorState) → active_of (kept_by (λ a. not (is_waiting a)) o) ≡ Some g → active_of o ≡ Some g
    by None at = at
    by (Some (waiting_anchor w)) at = at
    by (Some (active_anchor a)) at = at

says_tells : (m : MasterNode) (n : Note) → is_of_anchor n ≡ false → Ascends m.anchors → MasterTells m (says m n)
says_tells m n none up =
    let is = beside n none in
    either (λ (m' : MasterNode). MasterTells m (m', noted n)) (is_rejection n) (without_waiting m) m
    (record {
      up = ascends_some (λ a. not (is_waiting a)) 0 m.anchors up;
      tells = record { fits = (is.fits M (master_actives m), tt); after = subst (Within (master_actives (without_waiting m))) (sym (is.still (master_actives m))) (without_within m up) };
    })
    (record { up = up; tells = record { fits = (is.fits M (master_actives m), tt); after = subst (Within (master_actives m)) (sym (is.still (master_actives m))) (within_itself (master_actives m)) } })

act_tells : (c : Choices) (m : MasterNode) (a : Act) → SaysPlain a → Ascends m.anchors → MasterTells m (master_act c m a)
act_tells c m (send to r) says up = same_anchors m m _ refl refl up
act_tells c m (prepare p) says up = each_tells (prepares_item p) (λ n i above. prepares_tells n p i (part_at M p.sec i) above) m p.items up
act_tells c m (go p) says up = each_tells (carries_item p) (item_tells p) m p.items up
act_tells c m (unlock_all g) says up =
    each_tells (λ n id. on_anchor_of n g (unlock c) id (held id n.anchors)) (λ n id above. on_anchor_of_tells n g (unlock c) id (held id n.anchors) (unlock_stays c) above refl) m (identities m.anchors) up
act_tells c m (say n) says up = says_tells m n says up
act_tells c m (recover_one id) says up = on_anchor_tells m id (recover c) (held id m.anchors) (recover_stays c) up refl
act_tells c m (fail_one id g) says up = on_anchor_of_tells m g (fail_scg c) id (held id m.anchors) (fail_stays c) up refl
act_tells c m (pass st) says up = idle m up

acts_tell : (c : Choices) (m : MasterNode) (acts : List Act) → SayPlain acts → Ascends m.anchors → MasterTells m (in_turn (master_act c) m acts)
acts_tell c m [] says up = idle m up
acts_tell c m (a ∷ acts) says up =
    let one = act_tells c m a says.0 up in
    master_then m (master_act c m a).0 (master_act c m a).1 (in_turn (master_act c) (master_act c m a).0 acts) one (acts_tell c (master_act c m a).0 acts says.1 one.up)

pub does_tell : (c : Choices) (m : MasterNode) (r : MasterActs) → SayPlain r.1 → Ascends m.anchors → MasterTells m (does c m r)
does_tell c m r says up = let is = acts_tell c (record m { proc = r.0 }) r.1 says up in record { up = is.up; tells = is.tells }

-- ---- the anchor may adopt

adopts_tells : (c : Choices) (m : MasterNode) (id g : ℕ) (done : MasterNode × Effects) → Tells M (with_active id (Some g) (master_actives m)) done.1.notes (master_actives done.0) → Ascends done.0.anchors
    → MasterTells m (after_effects (both (noted (note.Own M id g)) done.1) (does c done.0 (master_adopted done.0.proc id)))
adopts_tells c m id g done tells up =
    let r = master_adopted done.0.proc id in
    let more = does_tell c done.0 r (adopted_says id done.0.proc done.0.proc.command) up in
    let now = with_active id (Some g) (master_actives m) in
    record {
      up = more.up;
      tells = tells_then M (master_actives m) now (master_actives (does c done.0 r).0) (note.Own M id g ∷ []) (done.1.notes ++ (does c done.0 r).1.notes) (own_tells M id g (master_actives m) now (within_itself now))
          (tells_then M now (master_actives done.0) (master_actives (does c done.0 r).0) done.1.notes (does c done.0 r).1.notes tells more.tells);
    }

waiting_tells : (c : Choices) (m : MasterNode) (id : ℕ) (s : AnchorState) (done : AnchorState × AnchorOut) → Steps s done → Ascends m.anchors → held id m.anchors ≡ Some s → MasterTells m (adopts_if c id (setup_at s).g done.1.adopted (anchor_did m id done))
waiting_tells c m id s done (goes_on stays active ups) up at =
    subst (λ b. MasterTells m (adopts_if c id (setup_at s).g b (anchor_did m id done))) (sym stays) (stays_tells m id s done up at active ups)
waiting_tells c m id s done (takes_over adopts active same) up at =
    let now = with_active id (Some (setup_at s).g) (master_actives m) in
    let is = did_tells m id done now up (subst (λ z. Within (master_actives (with_anchor m id (Some done.0))) (with_active id z (master_actives m))) active (put_within m id (Some done.0) up)) (inl (with_whatever id (setup_at s).g (master_actives m))) in
    subst (λ b. MasterTells m (adopts_if c id (setup_at s).g b (anchor_did m id done))) (sym adopts) (adopts_tells c m id (setup_at s).g (anchor_did m id done) is.0 is.1)

on_waiting_tells : (c : Choices) (m : MasterNode) (id : ℕ) (f : AnchorState → AnchorState × AnchorOut) (o : Option AnchorState) → ((s : AnchorState) → Steps s (f s)) → Ascends m.anchors → held id m.anchors ≡ o → MasterTells m (on_waiting c m id f o)
on_waiting_tells c m id f None steps up at = idle m up
on_waiting_tells c m id f (Some s) steps up at = waiting_tells c m id s (f s) (steps s) up at

did_one : (c : Choices) (m : MasterNode) (a : Act) → SaysPlain a → Ascends m.anchors → MasterTells m (master_did c m a)
did_one c m (send to r) says up = act_tells c m (send to r) says up
did_one c m (prepare p) says up = act_tells c m (prepare p) says up
did_one c m (go p) says up = act_tells c m (go p) says up
did_one c m (unlock_all g) says up = act_tells c m (unlock_all g) says up
did_one c m (say n) says up = act_tells c m (say n) says up
did_one c m (recover_one id) says up = act_tells c m (recover_one id) says up
did_one c m (fail_one id g) says up = act_tells c m (fail_one id g) says up
did_one c m (pass st) says up = on_waiting_tells c m st.id (λ a. status_in c a st) (held st.id m.anchors) (λ a. status_steps c a st) up refl

did_all : (c : Choices) (m : MasterNode) (acts : List Act) → SayPlain acts → Ascends m.anchors → MasterTells m (in_turn (master_did c) m acts)
did_all c m [] says up = idle m up
did_all c m (a ∷ acts) says up =
    let one = did_one c m a says.0 up in
    master_then m (master_did c m a).0 (master_did c m a).1 (in_turn (master_did c) (master_did c m a).0 acts) one (did_all c (master_did c m a).0 acts says.1 one.up)

-- ---- inputs

by_record : (c : Choices) (m : MasterNode) (r : Result MasterActs ProcFault) → TakesPlain r → Ascends m.anchors → MasterTells m (record_taken c m r)
by_record c m (Ok r) says up = let is = did_all c (record m { proc = r.0 }) r.1 says up in record { up = is.up; tells = is.tells }
by_record c m (Err why) says up = idle m up

-- what comes of an outcome
abbrev pub Told : MasterNode → MasterNode × Outcome → Type 0
Told m done = MasterTells m (done.0, record { notes = done.1.notes; sends = done.1.sends })

by_commanded : (c : Choices) (m : MasterNode) (r : Result MasterActs ProcFault) → TakesPlain r → Ascends m.anchors → Told m (commanded c m r)
by_commanded c m (Ok r) says up = does_tell c m r says up
by_commanded c m (Err (refused why)) says up = idle m up
by_commanded c m (Err (unexpected k)) says up = idle m up

by_to_anchor : (c : Choices) (m : MasterNode) (id g : ℕ) (payload : List ℕ) (x : Node) → Ascends m.anchors → MasterTells m (to_anchor_at c m id g payload x)
by_to_anchor c m id g payload M up = on_anchor_tells m id (λ a. submit c a payload) (held id m.anchors) (λ a. submit_stays c a payload) up refl
by_to_anchor c m id g payload A up = same_anchors m m _ refl refl up
by_to_anchor c m id g payload B up = same_anchors m m _ refl refl up
by_to_anchor c m id g payload T up = idle m up

by_unless : (c : Choices) (m : MasterNode) (id : ℕ) (payload : List ℕ) (r : Row) (k : MasterNode) (o : Option Refusal) → k.anchors ≡ m.anchors → Ascends m.anchors → Told m (unless m o (to_anchor_at c k id r.g payload r.anchor))
by_unless c m id payload r k (Some why) same up = idle m up
by_unless c m id payload r k None same up =
    let is = by_to_anchor c k id r.g payload r.anchor (subst (λ xs. Ascends xs) (sym same) up) in
    record { up = is.up; tells = subst (λ xs. Tells M (λ k'. active_of (held k' xs)) (to_anchor_at c k id r.g payload r.anchor).1.notes (master_actives (to_anchor_at c k id r.g payload r.anchor).0)) same is.tells }

by_submitted_to : (c : Choices) (m : MasterNode) (id : ℕ) (payload : List ℕ) (r : Row) (o : Option Window) → Ascends m.anchors → Told m (submitted_to c m id payload r o)
by_submitted_to c m id payload r None up = idle m up
by_submitted_to c m id payload r (Some w) up = by_unless c m id payload r (with_accepted m id w) (first_refusal (submit_refusals r w)) refl up

by_submitted : (c : Choices) (m : MasterNode) (id : ℕ) (payload : List ℕ) (o : Option Row) → Ascends m.anchors → Told m (submitted c m id payload o)
by_submitted c m id payload None up = idle m up
by_submitted c m id payload (Some r) up = by_submitted_to c m id payload r (held id m.windows) up

by_report : (c : Choices) (m : MasterNode) (id : ℕ) (b : Bool) → Ascends m.anchors → Told m (report_asked c m id b)
by_report c m id false up = idle m up
by_report c m id true up = on_anchor_tells m id (report c) (held id m.anchors) (report_stays c) up refl

by_command : (c : Choices) (m : MasterNode) (e : Event) → Ascends m.anchors → Told m (command_taken c m e)
by_command c m e up = by_commanded c m (commands_unless m.proc e (first_refusal (command_refusals (length c.policies) m.proc e))) (commands_says m.proc e (first_refusal (command_refusals (length c.policies) m.proc e))) up

by_event : (c : Choices) (m : MasterNode) (e : Event) → Ascends m.anchors → Told m (master_event c m e)
by_event c m (event.Bearer id n first shape threshold policy) up = by_command c m (event.Bearer id n first shape threshold policy) up
by_event c m (event.Reshape id shape) up = by_command c m (event.Reshape id shape) up
by_event c m (event.Remove id) up = by_command c m (event.Remove id) up
by_event c m (event.Add node) up = by_command c m (event.Add node) up
by_event c m event.Change up = by_command c m event.Change up
by_event c m event.Release up = by_command c m event.Release up
by_event c m event.RekeySecond up = by_command c m event.RekeySecond up
by_event c m (event.RekeyMaster root) up = by_command c m (event.RekeyMaster root) up
by_event c m (event.Recover id) up = by_command c m (event.Recover id) up
by_event c m (event.Report node id) up = by_report c m id (has_bearer m.proc id) up
by_event c m (event.Submit id d payload) up = by_submitted c m id payload (settled_row m id) up
by_event c m (event.Deny node on) up = idle m up
by_event c m (event.Ask node what) up = idle m up
by_event c m event.ScgFail up = idle m up
by_event c m (event.Step l i) up = idle m up
by_event c m (event.Lose l i) up = idle m up
by_event c m (event.Again l i) up = idle m up

by_host : (m : MasterNode) (id : ℕ) (f : Host → Host × List Send) (o : Option Host) → Ascends m.anchors → MasterTells m (on_host m id f o)
by_host m id f None up = idle m up
by_host m id f (Some h) up = same_anchors m _ _ refl refl up

by_data : (c : Choices) (m : MasterNode) (f : AnchorState → AnchorState × AnchorOut) (h : Host → Host × List Send) (o : Option Named) → ((s : AnchorState) → Steps s (f s)) → Ascends m.anchors → MasterTells m (data_taken c m f h o)
by_data c m f h None steps up = idle m up
by_data c m f h (Some (id, g)) steps up =
    either (MasterTells m) (is_anchor_of g (held id m.anchors)) (on_waiting c m id f (held id m.anchors)) (on_host m id h (held id m.hosts))
    (on_waiting_tells c m id f (held id m.anchors) steps up refl) (by_host m id h (held id m.hosts) up)

by_line : (m : MasterNode) (f : Flight) → Ascends m.anchors → MasterTells m (line_taken m f)
by_line m (flight.Told id g count) up = by_told m id g count (row m.proc.table id) up
by_line m (flight.Sdu id g payload) up = idle m up
by_line m (flight.End id g) up = idle m up
by_line m (flight.Air id g num tag pdu) up = idle m up
by_line m (flight.Ack id g num) up = idle m up
by_line m (flight.Tun tag packet) up = idle m up
by_line m (flight.Ctl r) up = idle m up

by_control : (c : Choices) (m : MasterNode) (from : Node) (f : Flight) → Ascends m.anchors → MasterTells m (control_taken c m from f)
by_control c m from (flight.Ctl r) up = by_record c m (master_take from m.proc r) (take_says from m.proc r) up
by_control c m from (flight.Air id g num tag pdu) up = idle m up
by_control c m from (flight.Ack id g num) up = idle m up
by_control c m from (flight.Tun tag packet) up = idle m up
by_control c m from (flight.Sdu id g payload) up = idle m up
by_control c m from (flight.End id g) up = idle m up
by_control c m from (flight.Told id g count) up = idle m up

by_class : (c : Choices) (m : MasterNode) (from : Node) (f : Flight) (k : Class) → Ascends m.anchors → MasterTells m (master_takes c m from f k)
by_class c m from f Ctl up = by_control c m from f up
by_class c m from f Feed up = by_line m f up
by_class c m from f Air up = by_data c m (λ a. air_in a cell.Mcg f) (λ h. host_air_in h f) (flight_named f) (λ a. air_steps a cell.Mcg f) up
by_class c m from f Tun up = by_data c m (λ a. tunnel_in c a f) (λ h. host_tunnel_in h f) (flight_named f) (λ a. tunnel_steps c a f) up

-- whatever the master takes, what it notes says which of its anchors are active
pub master_tells : (c : Choices) (m : MasterNode) (i : Input) → Ascends m.anchors → Told m (master_step c m i)
master_tells c m (Cmd e) up = by_event c m e up
master_tells c m (Come l f) up = by_class c m l.from f l.class up
