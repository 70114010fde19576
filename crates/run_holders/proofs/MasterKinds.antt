-- In a step of the master either no anchor is frozen, or none hands up.
use Rattle.std.proofs.Common.{ℕ, ◌≡◌, ◌==◌, ◌++◌, ◌∙◌, Bool, true, false, List, [], ◌∷◌, Option, Some, None, refl, sym, ap, inl, inr}
use Rattle.std.specs.List.{AllByRecursion, list_any}
use Rattle.std.specs.Prelude.{Err, Ok, Result, filter, if◌then◌else◌, length, nat_lt, not, ⊤, ◌||◌}
use Rattle.dc_base.specs.declared.nodes.Dir.TheVariants.{Dl, Ul}
use Rattle.node_rules.specs.Anchor.{AnchorState, active_anchor, setup_at, waiting_anchor}
use Rattle.node_rules.specs.Effects.{in_turn, noted, quiet, unless}
use Rattle.node_rules.specs.Master.{MasterNode, anchor_did, handed_up, low_rises, on_anchor, on_anchor_of, told_by, window_told}
use Rattle.node_rules.specs.MasterPlan.{adopts_if, carries_item, does, frozen_here, line_end, line_ends, master_act, master_did, master_part, master_setup, on_waiting, prepares_item, prepares_part, renewed_here, says, with_host_and_window}
use Rattle.node_rules.specs.Parts.{part_at, moved_part}
use Rattle.dc_base.specs.Nodes.{is_same_node}
use Rattle.dc_base.specs.Records.{item_id}
use Rattle.dc_base.specs.declared.answers.Refusal.{Refusal}
use Rattle.dc_base.specs.declared.events.Event.{Event}
use Rattle.dc_base.specs.declared.events.Event.TheVariants as event
use Rattle.dc_base.specs.declared.events.Note.TheVariants as note
use Rattle.dc_base.specs.declared.flights.Flight.{Flight}
use Rattle.dc_base.specs.declared.flights.Flight.TheVariants as flight
use Rattle.dc_base.specs.declared.nodes.Cell.TheVariants as cell
use Rattle.dc_base.specs.declared.nodes.Class.{Class}
use Rattle.dc_base.specs.declared.nodes.Class.TheVariants.{Air, Ctl, Feed, Tun}
use Rattle.dc_base.specs.declared.nodes.Node.{Node}
use Rattle.dc_base.specs.declared.nodes.Node.TheVariants.{A, B, M, T}
use Rattle.dc_base.specs.declared.records.Item.{Item}
use Rattle.dc_base.specs.declared.records.Item.TheVariants as item
use Rattle.dc_base.specs.declared.records.Plan.{Plan}
use Rattle.node_rules.specs.Acts.{ProcFault, first_refusal, refused, unexpected}
use Rattle.node_rules.specs.Adopting.{status_in}
use Rattle.node_rules.specs.AnchorReceiving.{air_in, tunnel_in}
use Rattle.node_rules.specs.AnchorSending.{fail_scg, recover, report, submit, unlock}
use Rattle.node_rules.specs.Choices.{Choices, Send}
use Rattle.node_rules.specs.CommandTable.{row}
use Rattle.node_rules.specs.Flights.{Named, flight_named}
use Rattle.node_rules.specs.Held.{held, holding, identities}
use Rattle.node_rules.specs.Host.{Host}
use Rattle.node_rules.specs.HostRules.{host_air_in, host_tunnel_in}
use Rattle.node_rules.specs.MasterCommands.{command_refusals, commands_unless}
use Rattle.node_rules.specs.MasterState.{MasterActs, has_bearer, MasterProc, waits_at, with_waits}
use Rattle.node_rules.specs.MasterStep.{command_taken, commanded, control_taken, data_taken, is_anchor_of, line_taken, master_event, master_step, master_takes, on_host, record_taken, report_asked, settled_row, submit_refusals, submitted, submitted_to, to_anchor_at, with_accepted}
use Rattle.node_rules.specs.MasterTaking.{master_adopted, master_take, adopted_here}
use Rattle.node_rules.specs.Places.{anchor_at, is_at, node_or_master, other_second}
use Rattle.node_rules.specs.Setup.{Setup}
use Rattle.node_rules.specs.declared.acts.Act.{Act}
use Rattle.node_rules.specs.declared.acts.Act.TheVariants.{FailOne as fail_one, Go as go, Pass as pass, Prepare as prepare, RecoverOne as recover_one, Say as say, Send as send, UnlockAll as unlock_all}
use Rattle.node_rules.specs.declared.bearers.AnchorOut.{AnchorOut}
use Rattle.node_rules.specs.declared.bearers.Window.{Window}
use Rattle.node_rules.specs.declared.commands.Row.{Row}
use Rattle.node_rules.specs.declared.inputs.Effects.{Effects}
use Rattle.node_rules.specs.declared.inputs.Input.{Input}
use Rattle.node_rules.specs.declared.inputs.Input.TheVariants.{Cmd, Come}
use Rattle.node_rules.specs.declared.parts.Part.{Part}
use Rattle.node_rules.specs.declared.parts.Part.TheVariants.{Awaits as awaits, Drops as drops, Establishes as establishes, HandsOver as hands_over, HasNoAnchor as has_no_anchor, Renews as renews}
use Rattle.dc_base.specs.declared.events.Note.{Note}
use Rattle.transcript.proofs.OnEach.{each_append}
use Rattle.node_rules.specs.Drafts.{Draft, draft}
use Rattle.node_rules.specs.MasterEnds.{ends, ends_gone, forgetting, is_release_spent, releases_if, retries, tried_first, tries, tries_if, tries_now}
use Rattle.node_rules.specs.MasterGo.{drawn, goes, leave_acts, let_go, lets_go, moves_here, preparing}
use Rattle.node_rules.specs.MasterRecords.{is_moving}
use Rattle.node_rules.specs.declared.commands.Command.{Command}
use Rattle.node_rules.specs.declared.commands.Command.TheVariants.{Asked as asked, Gone as gone, Recovering as recovering}
use Rattle.node_rules.specs.declared.commands.Going.{Going}
use Rattle.node_rules.specs.declared.commands.Leaving.{Leaving}
use Rattle.run_control.specs.MasterControl.{Passes_nothing, is_pass}
use Rattle.run_control.proofs.Plain.{PlainOrPass, no_row_there, pass_alone, plain, take_pass}
use Rattle.run_holders.specs.Actives.{GiveOrHand, is_give, is_handing, is_of_anchor}
use Rattle.run_holders.proofs.AnchorSteps.{Stays, either, fail_stays, recover_stays, unlock_stays}
use Rattle.run_holders.proofs.MasterSaying.{SayPlain, SaysPlain, TakesPlain, commands_says, take_says}
use Rattle.run_holders.proofs.SecondKinds.{None_is, none_then, said_hand, ups_give_none}

-- ---- windows

module _ (f : Note → Bool) (freed : (id count : ℕ) → f (note.Freed id Dl count) ≡ false) where
  window_none : (m : MasterNode) (id count : ℕ) (o : Option Window) → None_is f (window_told m id count o).1.notes
  window_none m id count None = refl
  window_none m id count (Some w) =
      either (λ (done : MasterNode × Effects). None_is f done.1.notes) (nat_lt w.told count) (record m { windows = holding id (Some (record w { told = count })) m.windows }, noted (note.Freed id Dl count)) (m, quiet)
      (ap (λ b. b || false) (freed id count)) refl

  low_none : (m : MasterNode) (id : ℕ) (o : Option ℕ) → None_is f (low_rises m id o).1.notes
  low_none m id None = refl
  low_none m id (Some count) = window_none m id count (held id m.windows)

  told_none : (m : MasterNode) (id g count : ℕ) (o : Option Row) → None_is f (told_by m id g count o).1.notes
  told_none m id g count None = refl
  told_none m id g count (Some r) = either (λ (done : MasterNode × Effects). None_is f done.1.notes) (nat_lt g r.est) (m, quiet) (window_told m id count (held id m.windows)) refl (window_none m id count (held id m.windows))

-- ---- no anchor is frozen

did_give : (m : MasterNode) (id : ℕ) (done : AnchorState × AnchorOut) → None_is is_give (anchor_did m id done).1.notes
did_give m id done =
    none_then is_give (handed_up M id Ul done.1.ups) (low_rises (record m { anchors = holding id (Some done.0) m.anchors }) id done.1.low).1.notes (ups_give_none M id Ul done.1.ups)
    (low_none is_give (λ i count. refl) (record m { anchors = holding id (Some done.0) m.anchors }) id done.1.low)

on_anchor_give : (m : MasterNode) (id : ℕ) (f : AnchorState → AnchorState × AnchorOut) (o : Option AnchorState) → None_is is_give (on_anchor m id f o).1.notes
on_anchor_give m id f None = refl
on_anchor_give m id f (Some s) = did_give m id (f s)

on_anchor_of_give : (m : MasterNode) (g : ℕ) (f : AnchorState → AnchorState × AnchorOut) (id : ℕ) (o : Option AnchorState) → None_is is_give (on_anchor_of m g f id o).1.notes
on_anchor_of_give m g f id None = refl
on_anchor_of_give m g f id (Some s) = either (λ (done : MasterNode × Effects). None_is is_give done.1.notes) ((setup_at s).g == g) (anchor_did m id (f s)) (m, quiet) (did_give m id (f s)) refl

each_give : {X : Type 0} (f : MasterNode → X → MasterNode × Effects) → ((m : MasterNode) (x : X) → None_is is_give (f m x).1.notes) → (m : MasterNode) (xs : List X) → None_is is_give (in_turn f m xs).1.notes
each_give f each m [] = refl
each_give f each m (x ∷ xs) = none_then is_give (f m x).1.notes (in_turn f (f m x).0 xs).1.notes (each m x) (each_give f each (f m x).0 xs)

-- a plan without a secondary node moves no bearer away from the master
never_away : (sec : Option Node) (i : Item) (to : Node) → sec ≡ None → part_at M sec i ≡ hands_over to → ⊥
never_away sec (item.Unset id) to none is = absurd (let bad : drops ≡ hands_over to = is in cc)
never_away sec (item.Set id n first shape threshold policy key None) to none is = by (is_same_node M (anchor_at sec shape)) is
  where
    by : (b : Bool) → (if b then establishes else has_no_anchor) ≡ hands_over to → ⊥
    by true e = absurd (let bad : establishes ≡ hands_over to = e in cc)
    by false e = absurd (let bad : has_no_anchor ≡ hands_over to = e in cc)
never_away sec (item.Set id n first shape threshold policy key (Some old)) to none is =
    by (is_same_node M old) (ap (λ o. moved_part (anchor_at sec shape) (is_same_node M old) (is_same_node M (anchor_at o shape))) (sym none) ∙ is')
  where
    is' : moved_part (anchor_at sec shape) (is_same_node M old) (is_same_node M (anchor_at sec shape)) ≡ hands_over to
    is' = is

    here : (b : Bool) → is_same_node M (if b then node_or_master None else M) ≡ true
    here true = refl
    here false = refl

    by : (b : Bool) → moved_part (anchor_at sec shape) b (is_same_node M (anchor_at None shape)) ≡ hands_over to → ⊥
    by b e = go_on b (sym (ap (λ d. moved_part (anchor_at sec shape) b d) (here shape.at_second)) ∙ e)
      where
        go_on : (b : Bool) → moved_part (anchor_at sec shape) b true ≡ hands_over to → ⊥
        go_on true q = absurd (let bad : renews ≡ hands_over to = q in cc)
        go_on false q = absurd (let bad : awaits ≡ hands_over to = q in cc)

renews_give : (m : MasterNode) (id g : ℕ) (o : Option Setup) (s : Option AnchorState) → None_is is_give (renewed_here m id g o s).1.notes
renews_give m id g None s = refl
renews_give m id g (Some st) None = refl
renews_give m id g (Some st) (Some (waiting_anchor w)) = refl
renews_give m id g (Some st) (Some (active_anchor a)) = refl

part_give : (m : MasterNode) (p : Plan) (i : Item) (part : Part) → ((to : Node) → part ≡ hands_over to → ⊥) → None_is is_give (master_part m p i part).1.notes
part_give m p i establishes never = refl
part_give m p i renews never = renews_give m (item_id i) p.g (master_setup m p i) (held (item_id i) m.anchors)
part_give m p i awaits never = refl
part_give m p i (hands_over to) never = absurd (never to refl)
part_give m p i drops never = refl
part_give m p i has_no_anchor never = refl

end_none : (f : Note → Bool) (g id : ℕ) (new old : Node) → None_is f (line_end g id new old).notes
end_none f g id new M = refl
end_none f g id new T = refl
end_none f g id new A = either (λ (x : Effects). None_is f x.notes) (is_same_node new A) _ _ refl refl
end_none f g id new B = either (λ (x : Effects). None_is f x.notes) (is_same_node new B) _ _ refl refl

ends_none : (f : Note → Bool) (g : ℕ) (sec : Option Node) (i : Item) → None_is f (line_ends g sec i).notes
ends_none f g sec (item.Set id n first shape threshold policy key None) = refl
ends_none f g sec (item.Set id n first shape threshold policy key (Some old)) = end_none f g id (anchor_at sec shape) old
ends_none f g sec (item.Unset id) = refl

item_give : (p : Plan) → p.sec ≡ None → (m : MasterNode) (i : Item) → None_is is_give (carries_item p m i).1.notes
item_give p none m i =
    let k = with_host_and_window p m i in
    none_then is_give (line_ends p.g p.sec i).notes (master_part k p i (part_at M p.sec i)).1.notes (ends_none is_give p.g p.sec i) (part_give k p i (part_at M p.sec i) (λ to is. never_away p.sec i to none is))

prepares_none : (f : Note → Bool) (m : MasterNode) (p : Plan) (i : Item) (part : Part) → None_is f (prepares_part m p i part).1.notes
prepares_none f m p i establishes = refl
prepares_none f m p i renews = refl
prepares_none f m p i awaits = refl
prepares_none f m p i (hands_over to) = refl
prepares_none f m p i drops = refl
prepares_none f m p i has_no_anchor = refl

-- an act that freezes none: it carries out no plan with a secondary node
abbrev IsMild : Act → Type 0
IsMild (go p) = p.sec ≡ None
IsMild (say n) = is_of_anchor n ≡ false
IsMild _ = ⊤

abbrev AreMild : List Act → Type 0
AreMild acts = AllByRecursion IsMild acts

said_give : (n : Note) → is_of_anchor n ≡ false → is_give n ≡ false
said_give (note.Give x id g) none = absurd cc
said_give (note.Own x id g) none = refl
said_give (note.Up x id d count sdu) none = refl
said_give (note.Begin w) none = refl
said_give (note.Join x g) none = refl
said_give (note.Leave x g) none = refl
said_give (note.Set id g) none = refl
said_give (note.Unset id) none = refl
said_give (note.Freed id d count) none = refl
said_give (note.Confirmed x) none = refl
said_give (note.Refused x w) none = refl
said_give note.Done none = refl
said_give note.Rejected none = refl

act_give : (c : Choices) (m : MasterNode) (a : Act) → IsMild a → None_is is_give (master_act c m a).1.notes
act_give c m (send to r) mild = refl
act_give c m (prepare p) mild = each_give (prepares_item p) (λ n i. prepares_none is_give n p i (part_at M p.sec i)) m p.items
act_give c m (go p) mild = each_give (carries_item p) (item_give p mild) m p.items
act_give c m (unlock_all g) mild = each_give (λ n id. on_anchor_of n g (unlock c) id (held id n.anchors)) (λ n id. on_anchor_of_give n g (unlock c) id (held id n.anchors)) m (identities m.anchors)
act_give c m (say n) mild = ap (λ b. b || false) (said_give n mild)
act_give c m (recover_one id) mild = on_anchor_give m id (recover c) (held id m.anchors)
act_give c m (fail_one id g) mild = on_anchor_of_give m g (fail_scg c) id (held id m.anchors)
act_give c m (pass st) mild = refl

acts_give : (c : Choices) (m : MasterNode) (acts : List Act) → AreMild acts → None_is is_give (in_turn (master_act c) m acts).1.notes
acts_give c m [] mild = refl
acts_give c m (a ∷ acts) mild = none_then is_give (master_act c m a).1.notes (in_turn (master_act c) (master_act c m a).0 acts).1.notes (act_give c m a mild.0) (acts_give c (master_act c m a).0 acts mild.1)

-- ---- what the procedures have the master do once its anchor adopted a bearer

preparing_mild : (p : Plan) → AreMild (preparing p)
preparing_mild p = either AreMild (moves_here p) (prepare p ∷ []) [] (tt, tt) tt

leave_mild : (x : Option Node) (how : Option Leaving) (p : Plan) → AreMild (leave_acts x how p)
leave_mild None how p = tt
leave_mild (Some x) None p = tt
leave_mild (Some x) (Some how) p = (tt, tt)

lets_go_mild : (m : MasterProc) (x : Node) (d : Draft) → d.change.plan.sec ≡ None → AreMild (lets_go m x d).1
lets_go_mild m x d none =
    let w = let_go x in
    (refl, each_append IsMild (preparing d.change.plan) (goes (drawn m d) d.change w).1 (preparing_mild d.change.plan) (tt, (none, leave_mild w.leaving w.told d.change.plan)))

-- no plan of a release has a secondary node
abbrev IsAlone : Option Draft → Type 0
IsAlone None = ⊤
IsAlone (Some d) = d.change.plan.sec ≡ None

releases_mild : (m : MasterProc) (x : Node) (spent : Bool) (o : Option Draft) → IsAlone o → AreMild (releases_if m x spent o).1
releases_mild m x spent None none = tt
releases_mild m x true (Some d) none = tt
releases_mild m x false (Some d) none = lets_go_mild (with_waits false x m) x d none

tries_now_mild : (m : MasterProc) (x : Node) (is : Bool) → AreMild (tries_now m x is).1
tries_now_mild m x true = releases_mild m x (is_release_spent m.table (draft m.table event.Release)) (draft m.table event.Release) refl
tries_now_mild m x false = (tt, tt)

tries_if_mild : (m : MasterProc) (x : Node) (waits : Bool) (o : Option Command) → AreMild (tries_if m x waits o).1
tries_if_mild m x false o = tt
tries_if_mild m x true None = tries_now_mild m x (is_at x m.table.sec)
tries_if_mild m x true (Some (asked c first who wanted)) = tt
tries_if_mild m x true (Some (gone plan going)) = tt
tries_if_mild m x true (Some (recovering id terminal second)) = tt

tries_mild : (x : Node) (m : MasterProc) → AreMild (tries x m).1
tries_mild x m = tries_if_mild m x (waits_at m x) m.command

retries_mild : (m : MasterProc) → AreMild (retries m).1
retries_mild m = let x = tried_first m.table.sec in each_append IsMild (tries x m).1 (tries (other_second x) (tries x m).0).1 (tries_mild x m) (tries_mild (other_second x) (tries x m).0)

ends_mild : (m : MasterProc) (acts : List Act) (n : Note) → AreMild acts → is_of_anchor n ≡ false → AreMild (ends m acts n).1
ends_mild m acts n mild is =
    each_append IsMild (acts ++ say n ∷ []) (retries (record m { command = None })).1 (each_append IsMild acts (say n ∷ []) mild (is, tt)) (retries_mild (record m { command = None }))

forgetting_mild : (x : Option Node) (g : ℕ) → AreMild (forgetting x g)
forgetting_mild None g = tt
forgetting_mild (Some x) g = (tt, tt)

ends_gone_mild : (m : MasterProc) (p : Plan) (w : Going) (complete : Bool) (moving : List (ℕ × Node)) → AreMild (ends_gone m p w complete moving).1
ends_gone_mild m p w false moving = tt
ends_gone_mild m p w true (x ∷ xs) = tt
ends_gone_mild m p w true [] = ends_mild m (forgetting w.leaving p.g) note.Done (forgetting_mild w.leaving p.g) refl

adopted_mild : (id : ℕ) (m : MasterProc) (o : Option Command) → AreMild (adopted_here id m o).1
adopted_mild id m None = tt
adopted_mild id m (Some (asked c first who wanted)) = tt
adopted_mild id m (Some (gone p w)) =
    let moving = filter (λ (y : ℕ × Node). not (is_moving id M y)) w.moving in
    let now = record w { moving = moving } in ends_gone_mild (record m { command = Some (gone p now) }) p now now.complete moving
adopted_mild id m (Some (recovering i terminal second)) = tt

adopts_give : (c : Choices) (id g : ℕ) (b : Bool) (done : MasterNode × Effects) → None_is is_give done.1.notes → None_is is_give (adopts_if c id g b done).1.notes
adopts_give c id g false done none = none
adopts_give c id g true done none =
    none_then is_give (note.Own M id g ∷ done.1.notes) (does c done.0 (master_adopted done.0.proc id)).1.notes none
    (acts_give c (record done.0 { proc = (master_adopted done.0.proc id).0 }) (master_adopted done.0.proc id).1 (adopted_mild id done.0.proc done.0.proc.command))

on_waiting_give : (c : Choices) (m : MasterNode) (id : ℕ) (f : AnchorState → AnchorState × AnchorOut) (o : Option AnchorState) → None_is is_give (on_waiting c m id f o).1.notes
on_waiting_give c m id f None = refl
on_waiting_give c m id f (Some s) = adopts_give c id (setup_at s).g (f s).1.adopted (anchor_did m id (f s)) (did_give m id (f s))

-- ---- none hands up

did_hand : (m : MasterNode) (id : ℕ) (done : AnchorState × AnchorOut) → done.1.ups ≡ [] → None_is is_handing (anchor_did m id done).1.notes
did_hand m id done none =
    none_then is_handing (handed_up M id Ul done.1.ups) (low_rises (record m { anchors = holding id (Some done.0) m.anchors }) id done.1.low).1.notes (ap (λ us. list_any is_handing (handed_up M id Ul us)) none)
    (low_none is_handing (λ i count. refl) (record m { anchors = holding id (Some done.0) m.anchors }) id done.1.low)

on_anchor_hand : (m : MasterNode) (id : ℕ) (f : AnchorState → AnchorState × AnchorOut) → ((s : AnchorState) → Stays s (f s)) → (o : Option AnchorState) → None_is is_handing (on_anchor m id f o).1.notes
on_anchor_hand m id f stays None = refl
on_anchor_hand m id f stays (Some s) = did_hand m id (f s) (stays s).ups

on_anchor_of_hand : (m : MasterNode) (g : ℕ) (f : AnchorState → AnchorState × AnchorOut) → ((s : AnchorState) → Stays s (f s)) → (id : ℕ) (o : Option AnchorState) → None_is is_handing (on_anchor_of m g f id o).1.notes
on_anchor_of_hand m g f stays id None = refl
on_anchor_of_hand m g f stays id (Some s) = either (λ (done : MasterNode × Effects). None_is is_handing done.1.notes) ((setup_at s).g == g) (anchor_did m id (f s)) (m, quiet) (did_hand m id (f s) (stays s).ups) refl

each_hand : {X : Type 0} (f : MasterNode → X → MasterNode × Effects) → ((m : MasterNode) (x : X) → None_is is_handing (f m x).1.notes) → (m : MasterNode) (xs : List X) → None_is is_handing (in_turn f m xs).1.notes
each_hand f each m [] = refl
each_hand f each m (x ∷ xs) = none_then is_handing (f m x).1.notes (in_turn f (f m x).0 xs).1.notes (each m x) (each_hand f each (f m x).0 xs)

renews_hand : (m : MasterNode) (id g : ℕ) (o : Option Setup) (s : Option AnchorState) → None_is is_handing (renewed_here m id g o s).1.notes
renews_hand m id g None s = refl
renews_hand m id g (Some st) None = refl
renews_hand m id g (Some st) (Some (waiting_anchor w)) = refl
renews_hand m id g (Some st) (Some (active_anchor a)) = refl

frozen_hand : (m : MasterNode) (id g : ℕ) (to : Node) (o : Option AnchorState) → None_is is_handing (frozen_here m id g to o).1.notes
frozen_hand m id g to None = refl
frozen_hand m id g to (Some (waiting_anchor w)) = refl
frozen_hand m id g to (Some (active_anchor a)) = refl

part_hand : (m : MasterNode) (p : Plan) (i : Item) (part : Part) → None_is is_handing (master_part m p i part).1.notes
part_hand m p i establishes = refl
part_hand m p i renews = renews_hand m (item_id i) p.g (master_setup m p i) (held (item_id i) m.anchors)
part_hand m p i awaits = refl
part_hand m p i (hands_over to) = frozen_hand m (item_id i) p.g to (held (item_id i) m.anchors)
part_hand m p i drops = refl
part_hand m p i has_no_anchor = refl

item_hand : (p : Plan) (m : MasterNode) (i : Item) → None_is is_handing (carries_item p m i).1.notes
item_hand p m i =
    let k = with_host_and_window p m i in
    none_then is_handing (line_ends p.g p.sec i).notes (master_part k p i (part_at M p.sec i)).1.notes (ends_none is_handing p.g p.sec i) (part_hand k p i (part_at M p.sec i))

act_hand : (c : Choices) (m : MasterNode) (a : Act) → SaysPlain a → None_is is_handing (master_act c m a).1.notes
act_hand c m (send to r) says = refl
act_hand c m (prepare p) says = each_hand (prepares_item p) (λ n i. prepares_none is_handing n p i (part_at M p.sec i)) m p.items
act_hand c m (go p) says = each_hand (carries_item p) (item_hand p) m p.items
act_hand c m (unlock_all g) says = each_hand (λ n id. on_anchor_of n g (unlock c) id (held id n.anchors)) (λ n id. on_anchor_of_hand n g (unlock c) (unlock_stays c) id (held id n.anchors)) m (identities m.anchors)
act_hand c m (say n) says = ap (λ b. b || false) (said_hand n says)
act_hand c m (recover_one id) says = on_anchor_hand m id (recover c) (recover_stays c) (held id m.anchors)
act_hand c m (fail_one id g) says = on_anchor_of_hand m g (fail_scg c) (fail_stays c) id (held id m.anchors)
act_hand c m (pass st) says = refl

acts_hand : (c : Choices) (m : MasterNode) (acts : List Act) → SayPlain acts → None_is is_handing (in_turn (master_act c) m acts).1.notes
acts_hand c m [] says = refl
acts_hand c m (a ∷ acts) says = none_then is_handing (master_act c m a).1.notes (in_turn (master_act c) (master_act c m a).0 acts).1.notes (act_hand c m a says.0) (acts_hand c (master_act c m a).0 acts says.1)

-- of a record: the acts pass no status transfer to the master's own anchor
did_one_hand : (c : Choices) (m : MasterNode) (a : Act) → is_pass a ≡ false → SaysPlain a → None_is is_handing (master_did c m a).1.notes
did_one_hand c m (send to r) none says = act_hand c m (send to r) says
did_one_hand c m (prepare p) none says = act_hand c m (prepare p) says
did_one_hand c m (go p) none says = act_hand c m (go p) says
did_one_hand c m (unlock_all g) none says = act_hand c m (unlock_all g) says
did_one_hand c m (say n) none says = act_hand c m (say n) says
did_one_hand c m (recover_one id) none says = act_hand c m (recover_one id) says
did_one_hand c m (fail_one id g) none says = act_hand c m (fail_one id g) says
did_one_hand c m (pass st) none says = absurd cc

did_all_hand : (c : Choices) (m : MasterNode) (acts : List Act) → Passes_nothing acts → SayPlain acts → None_is is_handing (in_turn (master_did c) m acts).1.notes
did_all_hand c m [] none says = refl
did_all_hand c m (a ∷ acts) none says =
    let parts = both (is_pass a) (list_any is_pass acts) none in
    none_then is_handing (master_did c m a).1.notes (in_turn (master_did c) (master_did c m a).0 acts).1.notes (did_one_hand c m a parts.0 says.0) (did_all_hand c (master_did c m a).0 acts parts.1 says.1)
  where
    both : (b d : Bool) → (b || d) ≡ false → (b ≡ false) × (d ≡ false)
    both true d is = absurd cc
    both false d is = (refl, is)

-- ---- inputs

by_record : (c : Choices) (m : MasterNode) (r : Result MasterActs ProcFault) → PlainOrPass m.proc r → TakesPlain r → GiveOrHand (record_taken c m r).1.notes
by_record c m r (plain acts none) says = inr (did_all_hand c (record m { proc = acts.0 }) acts.1 none says)
by_record c m r (pass_alone st) says =
    inl (none_then is_give (on_waiting c m st.id (λ a. status_in c a st) (held st.id m.anchors)).1.notes [] (on_waiting_give c m st.id (λ a. status_in c a st) (held st.id m.anchors)) refl)
by_record c m r (no_row_there why) says = inl refl

by_commanded : (c : Choices) (m : MasterNode) (r : Result MasterActs ProcFault) → TakesPlain r → GiveOrHand (commanded c m r).1.notes
by_commanded c m (Ok r) says = inr (acts_hand c (record m { proc = r.0 }) r.1 says)
by_commanded c m (Err (refused why)) says = inl refl
by_commanded c m (Err (unexpected k)) says = inl refl

to_anchor_give : (c : Choices) (m : MasterNode) (id g : ℕ) (payload : List ℕ) (x : Node) → None_is is_give (to_anchor_at c m id g payload x).1.notes
to_anchor_give c m id g payload M = on_anchor_give m id (λ a. submit c a payload) (held id m.anchors)
to_anchor_give c m id g payload A = refl
to_anchor_give c m id g payload B = refl
to_anchor_give c m id g payload T = refl

unless_give : (c : Choices) (m k : MasterNode) (id g : ℕ) (payload : List ℕ) (x : Node) (o : Option Refusal) → None_is is_give (unless m o (to_anchor_at c k id g payload x)).1.notes
unless_give c m k id g payload x None = to_anchor_give c k id g payload x
unless_give c m k id g payload x (Some why) = refl

submitted_to_give : (c : Choices) (m : MasterNode) (id : ℕ) (payload : List ℕ) (r : Row) (o : Option Window) → None_is is_give (submitted_to c m id payload r o).1.notes
submitted_to_give c m id payload r None = refl
submitted_to_give c m id payload r (Some w) = unless_give c m (with_accepted m id w) id r.g payload r.anchor (first_refusal (submit_refusals r w))

submitted_give : (c : Choices) (m : MasterNode) (id : ℕ) (payload : List ℕ) (o : Option Row) → None_is is_give (submitted c m id payload o).1.notes
submitted_give c m id payload None = refl
submitted_give c m id payload (Some r) = submitted_to_give c m id payload r (held id m.windows)

report_give : (c : Choices) (m : MasterNode) (id : ℕ) (b : Bool) → None_is is_give (report_asked c m id b).1.notes
report_give c m id false = refl
report_give c m id true = on_anchor_give m id (report c) (held id m.anchors)

by_command : (c : Choices) (m : MasterNode) (e : Event) → GiveOrHand (command_taken c m e).1.notes
by_command c m e = by_commanded c m (commands_unless m.proc e (first_refusal (command_refusals (length c.policies) m.proc e))) (commands_says m.proc e (first_refusal (command_refusals (length c.policies) m.proc e)))

by_event : (c : Choices) (m : MasterNode) (e : Event) → GiveOrHand (master_event c m e).1.notes
by_event c m (event.Bearer id n first shape threshold policy) = by_command c m (event.Bearer id n first shape threshold policy)
by_event c m (event.Reshape id shape) = by_command c m (event.Reshape id shape)
by_event c m (event.Remove id) = by_command c m (event.Remove id)
by_event c m (event.Add node) = by_command c m (event.Add node)
by_event c m event.Change = by_command c m event.Change
by_event c m event.Release = by_command c m event.Release
by_event c m event.RekeySecond = by_command c m event.RekeySecond
by_event c m (event.RekeyMaster root) = by_command c m (event.RekeyMaster root)
by_event c m (event.Recover id) = by_command c m (event.Recover id)
by_event c m (event.Report node id) = inl (report_give c m id (has_bearer m.proc id))
by_event c m (event.Submit id d payload) = inl (submitted_give c m id payload (settled_row m id))
by_event c m (event.Deny node on) = inl refl
by_event c m (event.Ask node what) = inl refl
by_event c m event.ScgFail = inl refl
by_event c m (event.Step l i) = inl refl
by_event c m (event.Lose l i) = inl refl
by_event c m (event.Again l i) = inl refl

host_give : (m : MasterNode) (id : ℕ) (f : Host → Host × List Send) (o : Option Host) → None_is is_give (on_host m id f o).1.notes
host_give m id f None = refl
host_give m id f (Some h) = refl

data_give : (c : Choices) (m : MasterNode) (f : AnchorState → AnchorState × AnchorOut) (h : Host → Host × List Send) (o : Option Named) → None_is is_give (data_taken c m f h o).1.notes
data_give c m f h None = refl
data_give c m f h (Some (id, g)) =
    either (λ (done : MasterNode × Effects). None_is is_give done.1.notes) (is_anchor_of g (held id m.anchors)) (on_waiting c m id f (held id m.anchors)) (on_host m id h (held id m.hosts))
    (on_waiting_give c m id f (held id m.anchors)) (host_give m id h (held id m.hosts))

line_give : (m : MasterNode) (f : Flight) → None_is is_give (line_taken m f).1.notes
line_give m (flight.Told id g count) = told_none is_give (λ i k. refl) m id g count (row m.proc.table id)
line_give m (flight.Sdu id g payload) = refl
line_give m (flight.End id g) = refl
line_give m (flight.Air id g num tag pdu) = refl
line_give m (flight.Ack id g num) = refl
line_give m (flight.Tun tag packet) = refl
line_give m (flight.Ctl r) = refl

by_control : (c : Choices) (m : MasterNode) (from : Node) (f : Flight) → GiveOrHand (control_taken c m from f).1.notes
by_control c m from (flight.Ctl r) = by_record c m (master_take from m.proc r) (take_pass from m.proc r) (take_says from m.proc r)
by_control c m from (flight.Air id g num tag pdu) = inl refl
by_control c m from (flight.Ack id g num) = inl refl
by_control c m from (flight.Tun tag packet) = inl refl
by_control c m from (flight.Sdu id g payload) = inl refl
by_control c m from (flight.End id g) = inl refl
by_control c m from (flight.Told id g count) = inl refl

by_class : (c : Choices) (m : MasterNode) (from : Node) (f : Flight) (k : Class) → GiveOrHand (master_takes c m from f k).1.notes
by_class c m from f Ctl = by_control c m from f
by_class c m from f Feed = inl (line_give m f)
by_class c m from f Air = inl (data_give c m (λ a. air_in a cell.Mcg f) (λ h. host_air_in h f) (flight_named f))
by_class c m from f Tun = inl (data_give c m (λ a. tunnel_in c a f) (λ h. host_tunnel_in h f) (flight_named f))

-- whatever the master takes, no anchor of it is frozen, or none hands up
pub master_kinds : (c : Choices) (m : MasterNode) (i : Input) → GiveOrHand (master_step c m i).1.notes
master_kinds c m (Cmd e) = by_event c m e
master_kinds c m (Come l f) = by_class c m l.from f l.class
