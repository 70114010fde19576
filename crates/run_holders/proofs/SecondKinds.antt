-- In a step of a secondary node either no anchor is frozen, or none hands up.
use Rattle.std.proofs.Common.{ℕ, ◌≡◌, ◌==◌, ◌++◌, ◌∙◌, Bool, true, false, List, [], ◌∷◌, Option, Some, None, refl, ap, inl, inr}
use Rattle.std.specs.List.{AllByRecursion, list_any}
use Rattle.std.proofs.lemmas.List.Folds.{list_any-append}
use Rattle.node_rules.specs.Effects.{in_turn, quiet}
use Rattle.std.specs.Prelude.{Err, Ok, Result, if◌then◌else◌, is_none, is_some, not, ⊤, ◌&&◌, ◌||◌}
use Rattle.dc_base.specs.Records.{item_id}
use Rattle.dc_base.specs.declared.answers.Refusal.{Refusal}
use Rattle.dc_base.specs.declared.answers.Word.{Word}
use Rattle.dc_base.specs.declared.events.Event.{Event}
use Rattle.dc_base.specs.declared.events.Event.TheVariants as event
use Rattle.dc_base.specs.declared.events.Note.{Note}
use Rattle.dc_base.specs.declared.events.Note.TheVariants as note
use Rattle.dc_base.specs.declared.flights.Flight.{Flight}
use Rattle.dc_base.specs.declared.flights.Flight.TheVariants as flight
use Rattle.dc_base.specs.declared.nodes.Cell.TheVariants as cell
use Rattle.dc_base.specs.declared.nodes.Class.{Class}
use Rattle.dc_base.specs.declared.nodes.Class.TheVariants.{Air, Ctl, Feed, Tun}
use Rattle.dc_base.specs.declared.nodes.Dir.{Dir}
use Rattle.dc_base.specs.declared.nodes.Dir.TheVariants.{Ul}
use Rattle.dc_base.specs.declared.nodes.Node.{Node}
use Rattle.dc_base.specs.declared.nodes.Want.TheVariants as want
use Rattle.dc_base.specs.declared.records.Plan.{Plan}
use Rattle.dc_base.specs.declared.records.Rec.{Rec}
use Rattle.dc_base.specs.declared.records.Rec.TheVariants as rec
use Rattle.dc_base.specs.declared.records.RecKind.{RecKind}
use Rattle.dc_base.specs.declared.records.RecKind.TheVariants as kind
use Rattle.dc_base.specs.declared.records.StatusTransfer.{StatusTransfer}
use Rattle.node_rules.specs.Acts.{ProcFault, first_refusal, refused, unexpected}
use Rattle.node_rules.specs.Adopting.{status_in}
use Rattle.node_rules.specs.Anchor.{Active, AnchorState, setup_at}
use Rattle.node_rules.specs.AnchorReceiving.{air_in, tunnel_in}
use Rattle.node_rules.specs.AnchorSending.{fail_scg, recover, report, unlock}
use Rattle.node_rules.specs.Choices.{Choices, Send}
use Rattle.node_rules.specs.Feed.{Fed, Frozen, sdu_in}
use Rattle.node_rules.specs.Flights.{Named, flight_named}
use Rattle.node_rules.specs.Held.{held, identities}
use Rattle.node_rules.specs.Host.{Host}
use Rattle.node_rules.specs.HostRules.{host_air_in, host_tunnel_in}
use Rattle.node_rules.specs.Master.{handed_up}
use Rattle.node_rules.specs.Parts.{part_at}
use Rattle.node_rules.specs.SecondPlan.{frozen_active, frozen_there, renewed_active, renewed_there, second_act, second_item, second_part}
use Rattle.node_rules.specs.SecondRecords.{added, addition_asked, failure_told, forgotten, is_one_drop, is_wanted, key_confirmed, leave_confirmed, let_off, modification_asked, modified, reconfigured, recovery_asked, refused_there, release_asked, release_confirmed, release_needless, second_take, status_passed}
use Rattle.node_rules.specs.SecondState.{SecondActs, SecondProc, second_command, second_commands, second_commands_unless, second_refusals}
use Rattle.node_rules.specs.SecondStep.{fed_ended, fed_took, frozen_ended, frozen_took, is_before_change, is_fit, key_in, on_second_host, second_commanded, second_control, second_data, second_event, second_line, second_record, second_record_taken, second_report, second_step, second_takes}
use Rattle.node_rules.specs.Secondary.{SecondNode, active_at, active_in, adopted_there, is_fed_of, low_told, name_of, on_fed, on_fed_of, second_effects, within}
use Rattle.node_rules.specs.Setup.{Setup, setup_of}
use Rattle.node_rules.specs.declared.acts.Act.{Act}
use Rattle.node_rules.specs.declared.acts.Act.TheVariants.{FailOne as fail_one, Go as go, Pass as pass, Prepare as prepare, RecoverOne as recover_one, Say as say, Send as send, UnlockAll as unlock_all}
use Rattle.node_rules.specs.declared.bearers.AnchorOut.{AnchorOut}
use Rattle.node_rules.specs.declared.commands.Membership.{Membership}
use Rattle.node_rules.specs.declared.commands.Membership.TheVariants.{Joined as joined, Left as left, Outside as outside}
use Rattle.node_rules.specs.declared.inputs.Effects.{Effects}
use Rattle.node_rules.specs.declared.inputs.Input.{Input}
use Rattle.node_rules.specs.declared.inputs.Input.TheVariants.{Cmd, Come}
use Rattle.node_rules.specs.declared.parts.Part.{Part}
use Rattle.node_rules.specs.declared.parts.Part.TheVariants.{Awaits as awaits, Drops as drops, Establishes as establishes, HandsOver as hands_over, HasNoAnchor as has_no_anchor, Renews as renews}
use Rattle.run_holders.specs.Actives.{GiveOrHand, is_give, is_handing, is_of_anchor}
use Rattle.run_holders.proofs.AnchorSteps.{Stays, either, fail_stays, recover_stays, unlock_stays}

-- ---- notes of which none says this

-- the test holds of none of them
abbrev pub None_is : (Note → Bool) → List Note → Type 0
None_is f ns = list_any f ns ≡ false

pub none_then : (f : Note → Bool) (ns ms : List Note) → None_is f ns → None_is f ms → None_is f (ns ++ ms)
none_then f ns ms one two = list_any-append f ns ms ∙ ap (λ b. b || list_any f ms) one ∙ two

pub ups_give_none : (x : Node) (id : ℕ) (d : Dir) (ups : List (ℕ × List ℕ)) → None_is is_give (handed_up x id d ups)
ups_give_none x id d [] = refl
ups_give_none x id d (u ∷ ups) = ups_give_none x id d ups

-- ---- no anchor is frozen

effects_give : (me : Node) (id g : ℕ) (out : AnchorOut) → None_is is_give (second_effects me id g out).notes
effects_give me id g out =
    none_then is_give ((adopted_there me id g out.adopted).notes ++ handed_up me id Ul out.ups) (low_told me id g out.low).notes
    (none_then is_give (adopted_there me id g out.adopted).notes (handed_up me id Ul out.ups) (by out.adopted) (ups_give_none me id Ul out.ups)) (low out.low)
  where
    by : (b : Bool) → None_is is_give (adopted_there me id g b).notes
    by true = refl
    by false = refl

    low : (o : Option ℕ) → None_is is_give (low_told me id g o).notes
    low None = refl
    low (Some count) = refl

on_fed_give : (s : SecondNode) (id : ℕ) (f : AnchorState → AnchorState × AnchorOut) (o : Option Fed) → None_is is_give (on_fed s id f o).1.notes
on_fed_give s id f None = refl
on_fed_give s id f (Some x) = effects_give (name_of s) id (setup_at (f x.anchor).0).g (f x.anchor).1

-- ---- none hands up

effects_hand : (me : Node) (id g : ℕ) (out : AnchorOut) → out.ups ≡ [] → None_is is_handing (second_effects me id g out).notes
effects_hand me id g out none =
    none_then is_handing ((adopted_there me id g out.adopted).notes ++ handed_up me id Ul out.ups) (low_told me id g out.low).notes
    (none_then is_handing (adopted_there me id g out.adopted).notes (handed_up me id Ul out.ups) (by out.adopted) (ap (λ us. list_any is_handing (handed_up me id Ul us)) none)) (low out.low)
  where
    by : (b : Bool) → None_is is_handing (adopted_there me id g b).notes
    by true = refl
    by false = refl

    low : (o : Option ℕ) → None_is is_handing (low_told me id g o).notes
    low None = refl
    low (Some count) = refl

on_fed_hand : (s : SecondNode) (id : ℕ) (f : AnchorState → AnchorState × AnchorOut) → ((a : AnchorState) → Stays a (f a)) → (o : Option Fed) → None_is is_handing (on_fed s id f o).1.notes
on_fed_hand s id f stays None = refl
on_fed_hand s id f stays (Some x) = effects_hand (name_of s) id (setup_at (f x.anchor).0).g (f x.anchor).1 (stays x.anchor).ups

on_fed_of_hand : (s : SecondNode) (g : ℕ) (f : AnchorState → AnchorState × AnchorOut) → ((a : AnchorState) → Stays a (f a)) → (id : ℕ) (o : Option Fed) → None_is is_handing (on_fed_of s g f id o).1.notes
on_fed_of_hand s g f stays id o =
    either (λ (done : SecondNode × Effects). None_is is_handing done.1.notes) (is_fed_of g o) (on_fed s id f o) (s, quiet) (on_fed_hand s id f stays o) refl

each_hand : {X : Type 0} (f : SecondNode → X → SecondNode × Effects) → ((s : SecondNode) (x : X) → None_is is_handing (f s x).1.notes) → (s : SecondNode) (xs : List X) → None_is is_handing (in_turn f s xs).1.notes
each_hand f each s [] = refl
each_hand f each s (x ∷ xs) = none_then is_handing (f s x).1.notes (in_turn f (f s x).0 xs).1.notes (each s x) (each_hand f each (f s x).0 xs)

renewed_hand : (s : SecondNode) (id g : ℕ) (st : Setup) (x : Fed) (o : Option Active) → None_is is_handing (renewed_active s id g st x o).1.notes
renewed_hand s id g st x None = refl
renewed_hand s id g st x (Some a) = refl

renews_hand : (s : SecondNode) (id g : ℕ) (o : Option Setup) (x : Option Fed) → None_is is_handing (renewed_there s id g o x).1.notes
renews_hand s id g None x = refl
renews_hand s id g (Some st) None = refl
renews_hand s id g (Some st) (Some x) = renewed_hand s id g st x (active_in x.anchor)

gives_hand : (s : SecondNode) (id g : ℕ) (to : Node) (x : Fed) (o : Option Active) → None_is is_handing (frozen_active s id g to x o).1.notes
gives_hand s id g to x None = refl
gives_hand s id g to x (Some a) = refl

frozen_hand : (s : SecondNode) (id g : ℕ) (to : Node) (o : Option Fed) → None_is is_handing (frozen_there s id g to o).1.notes
frozen_hand s id g to None = refl
frozen_hand s id g to (Some x) = gives_hand s id g to x (active_in x.anchor)

part_hand : (s : SecondNode) (p : Plan) (setup : Option Setup) (id : ℕ) (part : Part) → None_is is_handing (second_part s p setup id part).1.notes
part_hand s p setup id establishes = refl
part_hand s p setup id renews = renews_hand s id p.g setup (held id s.anchors)
part_hand s p setup id awaits = refl
part_hand s p setup id (hands_over to) = frozen_hand s id p.g to (held id s.anchors)
part_hand s p setup id drops = refl
part_hand s p setup id has_no_anchor = refl

-- an act that says nothing of anchors, and passes no status transfer
abbrev pub IsHandless : Act → Type 0
IsHandless (say n) = is_of_anchor n ≡ false
IsHandless (pass st) = ⊥
IsHandless _ = ⊤

pub said_hand : (n : Note) → is_of_anchor n ≡ false → is_handing n ≡ false
said_hand (note.Up x id d count sdu) none = absurd cc
said_hand (note.Own x id g) none = refl
said_hand (note.Give x id g) none = refl
said_hand (note.Begin w) none = refl
said_hand (note.Join x g) none = refl
said_hand (note.Leave x g) none = refl
said_hand (note.Set id g) none = refl
said_hand (note.Unset id) none = refl
said_hand (note.Freed id d count) none = refl
said_hand (note.Confirmed x) none = refl
said_hand (note.Refused x w) none = refl
said_hand note.Done none = refl
said_hand note.Rejected none = refl

act_hand : (c : Choices) (key : List ℕ) (s : SecondNode) (a : Act) → IsHandless a → None_is is_handing (second_act c key s a).1.notes
act_hand c key s (send to r) is = refl
act_hand c key s (prepare p) is = refl
act_hand c key s (go p) is = each_hand (second_item key p) (λ n i. part_hand _ p (setup_of (name_of n) p n.alg key i) (item_id i) (part_at (name_of n) p.sec i)) s p.items
act_hand c key s (unlock_all g) is = each_hand (λ n id. on_fed_of n g (unlock c) id (held id n.anchors)) (λ n id. on_fed_of_hand n g (unlock c) (unlock_stays c) id (held id n.anchors)) s (identities s.anchors)
act_hand c key s (say n) is = ap (λ b. b || false) (said_hand n is)
act_hand c key s (recover_one id) is = on_fed_hand s id (recover c) (recover_stays c) (held id s.anchors)
act_hand c key s (fail_one id g) is = on_fed_of_hand s g (fail_scg c) (fail_stays c) id (held id s.anchors)
act_hand c key s (pass st) is = absurd is

acts_hand : (c : Choices) (key : List ℕ) (s : SecondNode) (acts : List Act) → AllByRecursion IsHandless acts → None_is is_handing (in_turn (second_act c key) s acts).1.notes
acts_hand c key s [] is = refl
acts_hand c key s (a ∷ acts) is = none_then is_handing (second_act c key s a).1.notes (in_turn (second_act c key) (second_act c key s a).0 acts).1.notes (act_hand c key s a is.0) (acts_hand c key (second_act c key s a).0 acts is.1)

-- ---- what its procedures answer

-- acts that hand nothing up, or a status transfer that is passed on alone
pub data Answers : Result SecondActs ProcFault → Type 0 where
  acts_by_hand : (r : SecondActs) → (are : AllByRecursion IsHandless r.1) → Answers (Ok r)
  passes_alone : (s : SecondProc) → (st : StatusTransfer) → Answers (Ok (s, pass st ∷ []))
  answers_nothing : (why : ProcFault) → Answers (Err why)

module _ (s : SecondProc) where
  added_says : (p : Plan) (rejects : Bool) → Answers (Ok (added s p rejects))
  added_says p true = acts_by_hand _ (tt, tt)
  added_says p false = acts_by_hand _ (refl, (tt, (tt, tt)))

  addition_says : (p : Plan) (m : Membership) → Answers (addition_asked s p m)
  addition_says p outside = added_says p s.denies
  addition_says p joined = answers_nothing _
  addition_says p left = answers_nothing _

  modified_says : (p : Plan) (rejects : Bool) → Answers (Ok (modified s p rejects))
  modified_says p true = acts_by_hand _ (tt, tt)
  modified_says p false = acts_by_hand _ (tt, (tt, tt))

  modification_says : (p : Plan) (m : Membership) → Answers (modification_asked s p m)
  modification_says p outside = answers_nothing _
  modification_says p joined = modified_says p (s.denies && not (is_one_drop p.items))
  modification_says p left = answers_nothing _

  let_off_says : (p : Plan) (rejects : Bool) → Answers (Ok (let_off s p rejects))
  let_off_says p true = acts_by_hand _ (tt, tt)
  let_off_says p false = acts_by_hand _ (tt, (refl, (tt, tt)))

  release_says : (p : Plan) (m : Membership) → Answers (release_asked s p m)
  release_says p outside = answers_nothing _
  release_says p joined = let_off_says p (s.denies && is_none p.sec)
  release_says p left = answers_nothing _

  forgotten_says : (m : Membership) → Answers (forgotten s m)
  forgotten_says outside = answers_nothing _
  forgotten_says joined = answers_nothing _
  forgotten_says left = acts_by_hand _ tt

  refused_says : (k : RecKind) (w : Word) (wanted : Bool) → Answers (refused_there k s w wanted)
  refused_says k w true = acts_by_hand _ (refl, tt)
  refused_says k w false = answers_nothing _

  key_says : (g : ℕ) (wanted : Bool) (m : Membership) → Answers (key_confirmed s g wanted m)
  key_says g true outside = answers_nothing _
  key_says g true joined = acts_by_hand _ (tt, (refl, tt))
  key_says g true left = answers_nothing _
  key_says g false outside = answers_nothing _
  key_says g false joined = answers_nothing _
  key_says g false left = answers_nothing _

  leave_says : (k : RecKind) (p : Plan) (wanted : Bool) (m : Membership) → Answers (leave_confirmed k s p wanted m)
  leave_says k p true outside = answers_nothing _
  leave_says k p true joined = acts_by_hand _ (refl, (refl, (tt, tt)))
  leave_says k p true left = answers_nothing _
  leave_says k p false outside = answers_nothing _
  leave_says k p false joined = answers_nothing _
  leave_says k p false left = answers_nothing _

  needless_says : (wanted : Bool) → Answers (release_needless s wanted)
  needless_says true = acts_by_hand _ (refl, tt)
  needless_says false = answers_nothing _

  release_confirmed_says : (p : Plan) → Answers (release_confirmed s p)
  release_confirmed_says p = by (p.g == 0)
    where
      by : (b : Bool) → Answers (if b then release_needless s (is_wanted want.Release s.want) else leave_confirmed kind.Relcnf s p (is_wanted want.Release s.want) s.membership)
      by true = needless_says (is_wanted want.Release s.want)
      by false = leave_says kind.Relcnf p (is_wanted want.Release s.want) s.membership

  reconfigured_says : (g : ℕ) (m : Membership) → Answers (reconfigured s g m)
  reconfigured_says g outside = answers_nothing _
  reconfigured_says g joined = acts_by_hand _ (tt, tt)
  reconfigured_says g left = answers_nothing _

  status_says : (st : StatusTransfer) (m : Membership) → Answers (status_passed s st m)
  status_says st outside = answers_nothing _
  status_says st joined = passes_alone s st
  status_says st left = answers_nothing _

  recovery_says : (id : ℕ) (m : Membership) → Answers (recovery_asked s id m)
  recovery_says id outside = answers_nothing _
  recovery_says id joined = acts_by_hand _ (tt, (tt, tt))
  recovery_says id left = answers_nothing _

  failure_says : (id g : ℕ) (m : Membership) → Answers (failure_told s id g m)
  failure_says id g outside = answers_nothing _
  failure_says id g joined = acts_by_hand _ (tt, tt)
  failure_says id g left = acts_by_hand _ (tt, tt)

  pub take_says : (r : Rec) → Answers (second_take s r)
  take_says (rec.Addreq plan key) = addition_says plan s.membership
  take_says (rec.Modreq plan key) = modification_says plan s.membership
  take_says (rec.Relreq plan) = release_says plan s.membership
  take_says (rec.Uecr g) = forgotten_says s.membership
  take_says (rec.Recfg g) = reconfigured_says g s.membership
  take_says (rec.Modcnf g) = key_says g (is_wanted want.Rekey s.want) s.membership
  take_says (rec.Modref word) = refused_says kind.Modref word (is_wanted want.Rekey s.want)
  take_says (rec.Chgcnf plan) = leave_says kind.Chgcnf plan (is_wanted want.Change s.want) s.membership
  take_says (rec.Chgref word) = refused_says kind.Chgref word (is_wanted want.Change s.want)
  take_says (rec.Relcnf plan) = release_confirmed_says plan
  take_says (rec.Snst status) = status_says status s.membership
  take_says (rec.Recov id) = recovery_says id s.membership
  take_says (rec.Scgn id g) = failure_says id g s.membership
  take_says (rec.Reconf plan key) = answers_nothing _
  take_says (rec.Rcomp g) = answers_nothing _
  take_says (rec.Scgf failed) = answers_nothing _
  take_says (rec.Recovd id) = answers_nothing _
  take_says (rec.Addack g) = answers_nothing _
  take_says (rec.Addrej g) = answers_nothing _
  take_says (rec.Modack g) = answers_nothing _
  take_says (rec.Modrej g) = answers_nothing _
  take_says (rec.Relack g) = answers_nothing _
  take_says (rec.Relrej g) = answers_nothing _
  take_says (rec.Moved g id) = answers_nothing _
  take_says rec.Modrqd = answers_nothing _
  take_says rec.Chgrqd = answers_nothing _
  take_says rec.Relrqd = answers_nothing _

  ordered_says : (e : Event) (o : Option Refusal) → AllByRecursion IsHandless (second_commands s e).1 → Answers (second_commands_unless s e o)
  ordered_says e None says = acts_by_hand (second_commands s e) says
  ordered_says e (Some why) says = answers_nothing (refused why)

-- ---- inputs

by_record : (c : Choices) (s : SecondNode) (r : Rec) (b : Bool) → GiveOrHand (second_record c s r b).1.notes
by_record c s r false = inl refl
by_record c s r true = by (second_take s.proc r) (take_says s.proc r)
  where
    by : (t : Result SecondActs ProcFault) → Answers t → GiveOrHand (second_record_taken c (key_in r) s t).1.notes
    by t (acts_by_hand acts are) = inr (acts_hand c (key_in r) (within acts.0.membership (record s { proc = acts.0 })) acts.1 are)
    by t (passes_alone p st) = inl (none_then is_give (on_fed _ st.id (λ a. status_in c a st) (held st.id _)).1.notes [] (on_fed_give _ st.id (λ a. status_in c a st) _) refl)
    by t (answers_nothing why) = inl refl

by_order : (c : Choices) (s : SecondNode) (t : Result SecondActs ProcFault) → Answers t → GiveOrHand (second_commanded c s t).1.notes
by_order c s t (acts_by_hand acts are) = inr (acts_hand c [] (within acts.0.membership (record s { proc = acts.0 })) acts.1 are)
by_order c s t (passes_alone p st) = inl (none_then is_give (on_fed _ st.id (λ a. status_in c a st) (held st.id _)).1.notes [] (on_fed_give _ st.id (λ a. status_in c a st) _) refl)
by_order c s t (answers_nothing (refused why)) = inl refl
by_order c s t (answers_nothing (unexpected k)) = inl refl

by_report : (c : Choices) (s : SecondNode) (id : ℕ) (o : Option Active) → GiveOrHand (second_report c s id o).1.notes
by_report c s id None = inl refl
by_report c s id (Some a) = inl (on_fed_give s id (report c) (held id s.anchors))

by_event : (c : Choices) (s : SecondNode) (e : Event) → GiveOrHand (second_event c s e).1.notes
by_event c s (event.Report node id) = by_report c s id (active_at s id)
by_event c s (event.Deny node on) = by_order c s (second_command s.proc (event.Deny node on)) (ordered_says s.proc (event.Deny node on) (first_refusal (second_refusals s.proc (event.Deny node on))) tt)
by_event c s (event.Ask node what) = by_order c s (second_command s.proc (event.Ask node what)) (ordered_says s.proc (event.Ask node what) (first_refusal (second_refusals s.proc (event.Ask node what))) (tt, tt))
by_event c s (event.Bearer id n first shape threshold policy) = inl refl
by_event c s (event.Reshape id shape) = inl refl
by_event c s (event.Remove id) = inl refl
by_event c s (event.Add node) = inl refl
by_event c s event.Change = inl refl
by_event c s event.Release = inl refl
by_event c s event.RekeySecond = inl refl
by_event c s (event.RekeyMaster root) = inl refl
by_event c s (event.Recover id) = inl refl
by_event c s event.ScgFail = inl refl
by_event c s (event.Submit id d payload) = inl refl
by_event c s (event.Step l i) = inl refl
by_event c s (event.Lose l i) = inl refl
by_event c s (event.Again l i) = inl refl

fed_took_give : (c : Choices) (s : SecondNode) (id g : ℕ) (payload : List ℕ) (o : Option Fed) → None_is is_give (fed_took c s id g payload o).1.notes
fed_took_give c s id g payload None = refl
fed_took_give c s id g payload (Some x) = effects_give (name_of s) id (setup_at (sdu_in c x g payload).0.anchor).g (sdu_in c x g payload).1

frozen_took_give : (s : SecondNode) (id g : ℕ) (payload : List ℕ) (o : Option Frozen) → None_is is_give (frozen_took s id g payload o).1.notes
frozen_took_give s id g payload None = refl
frozen_took_give s id g payload (Some f) = refl

frozen_ended_give : (s : SecondNode) (id g : ℕ) (o : Option Frozen) → None_is is_give (frozen_ended s id g o).1.notes
frozen_ended_give s id g None = refl
frozen_ended_give s id g (Some f) = refl

fed_ended_give : (s : SecondNode) (id g : ℕ) (o : Option Fed) → None_is is_give (fed_ended s id g o).1.notes
fed_ended_give s id g None = refl
fed_ended_give s id g (Some x) = refl

line_give : (c : Choices) (s : SecondNode) (f : Flight) → None_is is_give (second_line c s f).1.notes
line_give c s (flight.Sdu id g payload) =
    either (λ (done : SecondNode × Effects). None_is is_give done.1.notes) (is_before_change g (held id s.frozen)) (frozen_took s id g payload (held id s.frozen)) (fed_took c s id g payload (held id s.anchors))
    (frozen_took_give s id g payload (held id s.frozen)) (fed_took_give c s id g payload (held id s.anchors))
line_give c s (flight.End id g) =
    either (λ (done : SecondNode × Effects). None_is is_give done.1.notes) (is_some (held id s.frozen)) (frozen_ended s id g (held id s.frozen)) (fed_ended s id g (held id s.anchors))
    (frozen_ended_give s id g (held id s.frozen)) (fed_ended_give s id g (held id s.anchors))
line_give c s (flight.Told id g count) = refl
line_give c s (flight.Air id g num tag pdu) = refl
line_give c s (flight.Ack id g num) = refl
line_give c s (flight.Tun tag packet) = refl
line_give c s (flight.Ctl r) = refl

host_give : (s : SecondNode) (id : ℕ) (f : Host → Host × List Send) (o : Option Host) → None_is is_give (on_second_host s id f o).1.notes
host_give s id f None = refl
host_give s id f (Some h) = refl

data_give : (s : SecondNode) (f : AnchorState → AnchorState × AnchorOut) (h : Host → Host × List Send) (o : Option Named) → None_is is_give (second_data s f h o).1.notes
data_give s f h None = refl
data_give s f h (Some (id, g)) =
    either (λ (done : SecondNode × Effects). None_is is_give done.1.notes) (is_fed_of g (held id s.anchors)) (on_fed s id f (held id s.anchors)) (on_second_host s id h (held id s.hosts))
    (on_fed_give s id f (held id s.anchors)) (host_give s id h (held id s.hosts))

by_control : (c : Choices) (s : SecondNode) (f : Flight) → GiveOrHand (second_control c s f).1.notes
by_control c s (flight.Ctl r) = by_record c s r (is_fit s r)
by_control c s (flight.Air id g num tag pdu) = inl refl
by_control c s (flight.Ack id g num) = inl refl
by_control c s (flight.Tun tag packet) = inl refl
by_control c s (flight.Sdu id g payload) = inl refl
by_control c s (flight.End id g) = inl refl
by_control c s (flight.Told id g count) = inl refl

by_class : (c : Choices) (s : SecondNode) (f : Flight) (k : Class) → GiveOrHand (second_takes c s f k).1.notes
by_class c s f Ctl = by_control c s f
by_class c s f Feed = inl (line_give c s f)
by_class c s f Air = inl (data_give s (λ a. air_in a cell.Scg f) (λ h. host_air_in h f) (flight_named f))
by_class c s f Tun = inl (data_give s (λ a. tunnel_in c a f) (λ h. host_tunnel_in h f) (flight_named f))

-- whatever a secondary node takes, no anchor of it is frozen, or none hands up
pub second_kinds : (c : Choices) (s : SecondNode) (i : Input) → GiveOrHand (second_step c s i).1.notes
second_kinds c s (Cmd e) = by_event c s e
second_kinds c s (Come l f) = by_class c s f l.class
