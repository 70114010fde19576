-- What a secondary node notes says nothing of the terminal's side.
use Rattle.std.proofs.Common.{ℕ, ◌≡◌, ◌==◌, ◌++◌, Bool, true, false, List, [], ◌∷◌, Option, Some, None, refl, inl, inr}
use Rattle.std.specs.Prelude.{Ok, Err, Result, is_none, is_some, not, ◌&&◌, ◌||◌, ⊤}
use Rattle.std.specs.List.{AllByRecursion}
use Rattle.std.proofs.lemmas.Bool.{cases_Bool}
use Rattle.dc_base.specs.declared.events.Event.{Event}
use Rattle.dc_base.specs.declared.events.Event.TheVariants as event
use Rattle.dc_base.specs.declared.flights.Flight.{Flight}
use Rattle.dc_base.specs.declared.flights.Flight.TheVariants as flight
use Rattle.dc_base.specs.declared.nodes.Class.{Class}
use Rattle.dc_base.specs.declared.nodes.Class.TheVariants.{Air, Ctl, Feed, Tun}
use Rattle.dc_base.specs.declared.nodes.Node.{Node}
use Rattle.dc_base.specs.declared.records.Item.{Item}
use Rattle.dc_base.specs.declared.records.Plan.{Plan}
use Rattle.dc_base.specs.declared.records.Rec.{Rec}
use Rattle.dc_base.specs.declared.records.Rec.TheVariants as rec
use Rattle.transcript.proofs.OnEach.{each_append}
use Rattle.node_rules.specs.Choices.{Choices, Send}
use Rattle.node_rules.specs.Effects.{in_turn}
use Rattle.node_rules.specs.Flights.{Named, flight_named}
use Rattle.node_rules.specs.Held.{held}
use Rattle.node_rules.specs.Setup.{Setup, setup_of}
use Rattle.node_rules.specs.declared.inputs.Effects.{Effects}
use Rattle.node_rules.specs.declared.inputs.Input.{Input}
use Rattle.node_rules.specs.declared.inputs.Input.TheVariants.{Cmd, Come}
use Rattle.dc_base.specs.declared.events.Note.{Note}
use Rattle.dc_base.specs.declared.nodes.Dir.{Dir}
use Rattle.dc_base.specs.declared.nodes.Dir.TheVariants.{Ul}
use Rattle.dc_base.specs.declared.answers.Refusal.{Refusal}
use Rattle.dc_base.specs.declared.records.RecKind.{RecKind}
use Rattle.dc_base.specs.declared.records.RecKind.TheVariants as kind
use Rattle.dc_base.specs.declared.answers.Word.{Word}
use Rattle.dc_base.specs.declared.records.StatusTransfer.{StatusTransfer}
use Rattle.dc_base.specs.declared.nodes.Want.TheVariants as want
use Rattle.dc_base.specs.declared.nodes.Cell.TheVariants as cell
use Rattle.dc_base.specs.Records.{item_id}
use Rattle.node_rules.specs.Master.{handed_up}
use Rattle.node_rules.specs.declared.bearers.AnchorOut.{AnchorOut}
use Rattle.node_rules.specs.declared.acts.Act.{Act}
use Rattle.node_rules.specs.declared.acts.Act.TheVariants.{FailOne as fail_one, Go as go, Pass as pass, Prepare as prepare, RecoverOne as recover_one, Say as say, Send as send, UnlockAll as unlock_all}
use Rattle.node_rules.specs.declared.commands.Membership.{Membership}
use Rattle.node_rules.specs.declared.commands.Membership.TheVariants.{Joined as joined, Left as left, Outside as outside}
use Rattle.node_rules.specs.Acts.{ProcFault, first_refusal}
use Rattle.node_rules.specs.Anchor.{Active, AnchorState, setup_at}
use Rattle.node_rules.specs.AnchorReceiving.{air_in, tunnel_in}
use Rattle.node_rules.specs.AnchorSending.{fail_scg, recover, report, unlock}
use Rattle.node_rules.specs.Adopting.{status_in}
use Rattle.node_rules.specs.Feed.{Fed, Frozen, sdu_in}
use Rattle.node_rules.specs.Host.{Host}
use Rattle.node_rules.specs.HostRules.{host_air_in, host_tunnel_in}
use Rattle.node_rules.specs.Parts.{part_at}
use Rattle.node_rules.specs.declared.parts.Part.{Part}
use Rattle.node_rules.specs.declared.parts.Part.TheVariants.{Establishes as establishes, Renews as renews, Awaits as awaits, HandsOver as hands_over, Drops as drops, HasNoAnchor as has_no_anchor}
use Rattle.node_rules.specs.Held.{identities}
use Rattle.node_rules.specs.SecondPlan.{frozen_active, frozen_there, renewed_active, renewed_there, second_act, second_item, second_part}
use Rattle.node_rules.specs.SecondRecords.{added, addition_asked, failure_told, forgotten, is_one_drop, is_wanted, key_confirmed, leave_confirmed, let_off, modification_asked, modified, reconfigured, recovery_asked, refused_there, release_asked, release_confirmed, release_needless, second_take, status_passed}
use Rattle.node_rules.specs.SecondState.{SecondActs, SecondProc, second_commands, second_commands_unless, second_refusals}
use Rattle.node_rules.specs.SecondStep.{fed_ended, fed_took, frozen_ended, frozen_took, is_before_change, is_fit, key_in, on_second_host, second_commanded, second_control, second_data, second_event, second_line, second_record, second_record_taken, second_report, second_step, second_takes}
use Rattle.node_rules.specs.Secondary.{SecondNode, active_at, active_in, adopted_there, is_fed_of, low_told, name_of, on_fed, on_fed_of, second_effects, within}
use Rattle.run_uplinks.specs.Notes.{changes, is_procedural}

-- the notes say nothing of the terminal's side
abbrev pub IsPlain : Note → Type 0
IsPlain n = changes n ≡ false

abbrev pub ArePlain : List Note → Type 0
ArePlain ns = AllByRecursion IsPlain ns

-- nor do they say anything of the procedures of a node: they are of its anchors
abbrev pub IsOfAnchor : Note → Type 0
IsOfAnchor n = (changes n || is_procedural n) ≡ false

abbrev pub AreOfAnchors : List Note → Type 0
AreOfAnchors ns = AllByRecursion IsOfAnchor ns

are_plain : (ns : List Note) → AreOfAnchors ns → ArePlain ns
are_plain [] all = tt
are_plain (n ∷ ns) all =
    elim (cases_Bool (changes n)) [ inl yes' ↦ absurd (let bad : true ≡ false = rw yes' at all.0 in cc) | inr no' ↦ (no', are_plain ns all.1) ]

pub by_ups : (x : Node) (id : ℕ) (d : Dir) (ups : List (ℕ × List ℕ)) → AreOfAnchors (handed_up x id d ups)
by_ups x id d [] = tt
by_ups x id d (u ∷ ups) = (refl, by_ups x id d ups)

-- ---- a secondary node

second_by_adopted : (me : Node) (id g : ℕ) (is : Bool) → AreOfAnchors (adopted_there me id g is).notes
second_by_adopted me id g false = tt
second_by_adopted me id g true = (refl, tt)

second_by_low : (me : Node) (id g : ℕ) (o : Option ℕ) → AreOfAnchors (low_told me id g o).notes
second_by_low me id g None = tt
second_by_low me id g (Some count) = tt

second_by_effects : (me : Node) (id g : ℕ) (out : AnchorOut) → AreOfAnchors (second_effects me id g out).notes
second_by_effects me id g out =
    each_append IsOfAnchor ((adopted_there me id g out.adopted).notes ++ handed_up me id Ul out.ups) (low_told me id g out.low).notes
    (each_append IsOfAnchor (adopted_there me id g out.adopted).notes (handed_up me id Ul out.ups) (second_by_adopted me id g out.adopted) (by_ups me id Ul out.ups)) (second_by_low me id g out.low)

pub second_by_fed : (s : SecondNode) (id : ℕ) (f : AnchorState → AnchorState × AnchorOut) (o : Option Fed) → AreOfAnchors (on_fed s id f o).1.notes
second_by_fed s id f None = tt
second_by_fed s id f (Some x) = second_by_effects (name_of s) id (setup_at (f x.anchor).0).g (f x.anchor).1

pub second_by_fed_of : (s : SecondNode) (g : ℕ) (f : AnchorState → AnchorState × AnchorOut) (id : ℕ) (o : Option Fed) → AreOfAnchors (on_fed_of s g f id o).1.notes
second_by_fed_of s g f id o = elim (cases_Bool (is_fed_of g o)) [ inl yes' ↦ rw yes' (second_by_fed s id f o) | inr no' ↦ rw no' tt ]

pub second_by_each : {X : Type 0} (f : SecondNode → X → SecondNode × Effects) → ((s : SecondNode) (x : X) → AreOfAnchors (f s x).1.notes) → (s : SecondNode) (xs : List X) → AreOfAnchors (in_turn f s xs).1.notes
second_by_each f each s [] = tt
second_by_each f each s (x ∷ xs) = each_append IsOfAnchor (f s x).1.notes (in_turn f (f s x).0 xs).1.notes (each s x) (second_by_each f each (f s x).0 xs)

second_by_active : (s : SecondNode) (id g : ℕ) (setup : Setup) (x : Fed) (o : Option Active) → AreOfAnchors (renewed_active s id g setup x o).1.notes
second_by_active s id g setup x None = tt
second_by_active s id g setup x (Some a) = (refl, tt)

second_by_renewed : (s : SecondNode) (id g : ℕ) (setup : Option Setup) (o : Option Fed) → AreOfAnchors (renewed_there s id g setup o).1.notes
second_by_renewed s id g None o = tt
second_by_renewed s id g (Some setup) None = tt
second_by_renewed s id g (Some setup) (Some x) = second_by_active s id g setup x (active_in x.anchor)

second_by_frozen : (s : SecondNode) (id g : ℕ) (to : Node) (x : Fed) (o : Option Active) → AreOfAnchors (frozen_active s id g to x o).1.notes
second_by_frozen s id g to x None = tt
second_by_frozen s id g to x (Some a) = (refl, tt)

second_by_frozen_there : (s : SecondNode) (id g : ℕ) (to : Node) (o : Option Fed) → AreOfAnchors (frozen_there s id g to o).1.notes
second_by_frozen_there s id g to None = tt
second_by_frozen_there s id g to (Some x) = second_by_frozen s id g to x (active_in x.anchor)

second_by_part : (s : SecondNode) (p : Plan) (setup : Option Setup) (id : ℕ) (part : Part) → AreOfAnchors (second_part s p setup id part).1.notes
second_by_part s p setup id establishes = (refl, tt)
second_by_part s p setup id renews = second_by_renewed s id p.g setup (held id s.anchors)
second_by_part s p setup id awaits = tt
second_by_part s p setup id (hands_over to) = second_by_frozen_there s id p.g to (held id s.anchors)
second_by_part s p setup id drops = tt
second_by_part s p setup id has_no_anchor = tt

pub second_by_item : (key : List ℕ) (p : Plan) (s : SecondNode) (i : Item) → AreOfAnchors (second_item key p s i).1.notes
second_by_item key p s i = second_by_part _ p (setup_of (name_of s) p s.alg key i) (item_id i) (part_at (name_of s) p.sec i)

-- what it says of itself is neither
abbrev SaysNothing : Act → Type 0
SaysNothing (send to r) = ⊤
SaysNothing (prepare p) = ⊤
SaysNothing (go p) = ⊤
SaysNothing (unlock_all g) = ⊤
SaysNothing (say n) = IsPlain n
SaysNothing (recover_one id) = ⊤
SaysNothing (fail_one id g) = ⊤
SaysNothing (pass st) = ⊤

second_by_act : (c : Choices) (key : List ℕ) (s : SecondNode) (a : Act) → SaysNothing a → ArePlain (second_act c key s a).1.notes
second_by_act c key s (send to r) says = tt
second_by_act c key s (prepare p) says = tt
second_by_act c key s (go p) says = are_plain (in_turn (second_item key p) s p.items).1.notes (second_by_each (second_item key p) (second_by_item key p) s p.items)
second_by_act c key s (unlock_all g) says =
    are_plain (second_act c key s (unlock_all g)).1.notes
    (second_by_each (λ n id. on_fed_of n g (unlock c) id (held id n.anchors)) (λ n id. second_by_fed_of n g (unlock c) id (held id n.anchors)) s (identities s.anchors))
second_by_act c key s (say n) says = (says, tt)
second_by_act c key s (recover_one id) says = are_plain (on_fed s id (recover c) (held id s.anchors)).1.notes (second_by_fed s id (recover c) (held id s.anchors))
second_by_act c key s (fail_one id g) says = are_plain (on_fed_of s g (fail_scg c) id (held id s.anchors)).1.notes (second_by_fed_of s g (fail_scg c) id (held id s.anchors))
second_by_act c key s (pass st) says = are_plain (second_act c key s (pass st)).1.notes (second_by_fed s st.id (λ a. status_in c a st) (held st.id s.anchors))

second_by_acts : (c : Choices) (key : List ℕ) (s : SecondNode) (acts : List Act) → AllByRecursion SaysNothing acts → ArePlain (in_turn (second_act c key) s acts).1.notes
second_by_acts c key s [] says = tt
second_by_acts c key s (a ∷ acts) says =
    each_append IsPlain (second_act c key s a).1.notes (in_turn (second_act c key) (second_act c key s a).0 acts).1.notes (second_by_act c key s a says.0) (second_by_acts c key (second_act c key s a).0 acts says.1)

-- of what its procedures answer
abbrev SayNothing : Result SecondActs ProcFault → Type 0
SayNothing (Ok r) = AllByRecursion SaysNothing r.1
SayNothing (Err why) = ⊤

second_by_taken : (c : Choices) (key : List ℕ) (s : SecondNode) (r : Result SecondActs ProcFault) → SayNothing r → ArePlain (second_record_taken c key s r).1.notes
second_by_taken c key s (Ok r) says = second_by_acts c key (within r.0.membership (record s { proc = r.0 })) r.1 says
second_by_taken c key s (Err why) says = tt

module _ (s : SecondProc) where
  added_says : (p : Plan) (rejects : Bool) → AllByRecursion SaysNothing (added s p rejects).1
  added_says p true = (tt, tt)
  added_says p false = (refl, (tt, (tt, tt)))

  addition_says : (p : Plan) (m : Membership) → SayNothing (addition_asked s p m)
  addition_says p outside = added_says p s.denies
  addition_says p joined = tt
  addition_says p left = tt

  modified_says : (p : Plan) (rejects : Bool) → AllByRecursion SaysNothing (modified s p rejects).1
  modified_says p true = (tt, tt)
  modified_says p false = (tt, (tt, tt))

  modification_says : (p : Plan) (m : Membership) → SayNothing (modification_asked s p m)
  modification_says p outside = tt
  modification_says p joined = modified_says p (s.denies && not (is_one_drop p.items))
  modification_says p left = tt

  let_off_says : (p : Plan) (rejects : Bool) → AllByRecursion SaysNothing (let_off s p rejects).1
  let_off_says p true = (tt, tt)
  let_off_says p false = (tt, (refl, (tt, tt)))

  release_says : (p : Plan) (m : Membership) → SayNothing (release_asked s p m)
  release_says p outside = tt
  release_says p joined = let_off_says p (s.denies && is_none p.sec)
  release_says p left = tt

  forgotten_says : (m : Membership) → SayNothing (forgotten s m)
  forgotten_says outside = tt
  forgotten_says joined = tt
  forgotten_says left = tt

  refused_says : (k : RecKind) (w : Word) (wanted : Bool) → SayNothing (refused_there k s w wanted)
  refused_says k w true = (refl, tt)
  refused_says k w false = tt

  key_says : (g : ℕ) (wanted : Bool) (m : Membership) → SayNothing (key_confirmed s g wanted m)
  key_says g true outside = tt
  key_says g true joined = (tt, (refl, tt))
  key_says g true left = tt
  key_says g false outside = tt
  key_says g false joined = tt
  key_says g false left = tt

  leave_says : (k : RecKind) (p : Plan) (wanted : Bool) (m : Membership) → SayNothing (leave_confirmed k s p wanted m)
  leave_says k p true outside = tt
  leave_says k p true joined = (refl, (refl, (tt, tt)))
  leave_says k p true left = tt
  leave_says k p false outside = tt
  leave_says k p false joined = tt
  leave_says k p false left = tt

  needless_says : (wanted : Bool) → SayNothing (release_needless s wanted)
  needless_says true = (refl, tt)
  needless_says false = tt

  release_confirmed_says : (p : Plan) → SayNothing (release_confirmed s p)
  release_confirmed_says p =
      elim (cases_Bool (p.g == 0)) [
        | inl idle ↦ rw idle (needless_says (is_wanted want.Release s.want))
        | inr plan ↦ rw plan (leave_says kind.Relcnf p (is_wanted want.Release s.want) s.membership)
      ]

  reconfigured_says : (g : ℕ) (m : Membership) → SayNothing (reconfigured s g m)
  reconfigured_says g outside = tt
  reconfigured_says g joined = (tt, tt)
  reconfigured_says g left = tt

  status_says : (st : StatusTransfer) (m : Membership) → SayNothing (status_passed s st m)
  status_says st outside = tt
  status_says st joined = (tt, tt)
  status_says st left = tt

  recovery_says : (id : ℕ) (m : Membership) → SayNothing (recovery_asked s id m)
  recovery_says id outside = tt
  recovery_says id joined = (tt, (tt, tt))
  recovery_says id left = tt

  failure_says : (id g : ℕ) (m : Membership) → SayNothing (failure_told s id g m)
  failure_says id g outside = tt
  failure_says id g joined = (tt, tt)
  failure_says id g left = (tt, tt)

  take_says : (r : Rec) → SayNothing (second_take s r)
  take_says (rec.Addreq plan key) = addition_says plan s.membership
  take_says (rec.Modreq plan key) = modification_says plan s.membership
  take_says (rec.Relreq plan) = release_says plan s.membership
  take_says (rec.Uecr g) = forgotten_says s.membership
  take_says (rec.Recfg g) = reconfigured_says g s.membership
  take_says (rec.Modcnf g) = key_says g (is_wanted want.Rekey s.want) s.membership
  take_says (rec.Modref word) = refused_says kind.Modref word (is_wanted want.Rekey s.want)
  take_says (rec.Chgcnf plan) = leave_says kind.Chgcnf plan (is_wanted want.Change s.want) s.membership
  take_says (rec.Chgref word) = refused_says kind.Chgref word (is_wanted want.Change s.want)
  take_says (rec.Relcnf plan) = release_confirmed_says plan
  take_says (rec.Snst status) = status_says status s.membership
  take_says (rec.Recov id) = recovery_says id s.membership
  take_says (rec.Scgn id g) = failure_says id g s.membership
  take_says (rec.Reconf plan key) = tt
  take_says (rec.Rcomp g) = tt
  take_says (rec.Scgf failed) = tt
  take_says (rec.Recovd id) = tt
  take_says (rec.Addack g) = tt
  take_says (rec.Addrej g) = tt
  take_says (rec.Modack g) = tt
  take_says (rec.Modrej g) = tt
  take_says (rec.Relack g) = tt
  take_says (rec.Relrej g) = tt
  take_says (rec.Moved g id) = tt
  take_says rec.Modrqd = tt
  take_says rec.Chgrqd = tt
  take_says rec.Relrqd = tt

second_by_record : (c : Choices) (s : SecondNode) (r : Rec) (fits : Bool) → ArePlain (second_record c s r fits).1.notes
second_by_record c s r true = second_by_taken c (key_in r) s (second_take s.proc r) (take_says s.proc r)
second_by_record c s r false = tt

-- commands of its own
second_by_unless : (c : Choices) (s : SecondNode) (e : Event) (o : Option Refusal) → AllByRecursion SaysNothing (second_commands s.proc e).1 → ArePlain (second_commanded c s (second_commands_unless s.proc e o)).1.notes
second_by_unless c s e None says = second_by_acts c [] (within (second_commands s.proc e).0.membership (record s { proc = (second_commands s.proc e).0 })) (second_commands s.proc e).1 says
second_by_unless c s e (Some why) says = tt

pub second_by_report : (c : Choices) (s : SecondNode) (id : ℕ) (o : Option Active) → AreOfAnchors (second_report c s id o).1.notes
second_by_report c s id None = tt
second_by_report c s id (Some a) = second_by_fed s id (report c) (held id s.anchors)

second_by_event : (c : Choices) (s : SecondNode) (e : Event) → ArePlain (second_event c s e).1.notes
second_by_event c s (event.Report node id) = are_plain (second_report c s id (active_at s id)).1.notes (second_by_report c s id (active_at s id))
second_by_event c s (event.Deny node on) = second_by_unless c s (event.Deny node on) (first_refusal (second_refusals s.proc (event.Deny node on))) tt
second_by_event c s (event.Ask node what) = second_by_unless c s (event.Ask node what) (first_refusal (second_refusals s.proc (event.Ask node what))) (tt, tt)
second_by_event c s (event.Bearer id n first shape threshold policy) = tt
second_by_event c s (event.Reshape id shape) = tt
second_by_event c s (event.Remove id) = tt
second_by_event c s (event.Add node) = tt
second_by_event c s event.Change = tt
second_by_event c s event.Release = tt
second_by_event c s event.RekeySecond = tt
second_by_event c s (event.RekeyMaster root) = tt
second_by_event c s (event.Recover id) = tt
second_by_event c s event.ScgFail = tt
second_by_event c s (event.Submit id d payload) = tt
second_by_event c s (event.Step l i) = tt
second_by_event c s (event.Lose l i) = tt
second_by_event c s (event.Again l i) = tt

-- the lines of the core
second_by_frozen_took : (s : SecondNode) (id g : ℕ) (payload : List ℕ) (o : Option Frozen) → AreOfAnchors (frozen_took s id g payload o).1.notes
second_by_frozen_took s id g payload None = tt
second_by_frozen_took s id g payload (Some f) = tt

second_by_fed_took : (c : Choices) (s : SecondNode) (id g : ℕ) (payload : List ℕ) (o : Option Fed) → AreOfAnchors (fed_took c s id g payload o).1.notes
second_by_fed_took c s id g payload None = tt
second_by_fed_took c s id g payload (Some x) = second_by_effects (name_of s) id (setup_at (sdu_in c x g payload).0.anchor).g (sdu_in c x g payload).1

second_by_frozen_ended : (s : SecondNode) (id g : ℕ) (o : Option Frozen) → AreOfAnchors (frozen_ended s id g o).1.notes
second_by_frozen_ended s id g None = tt
second_by_frozen_ended s id g (Some f) = tt

second_by_fed_ended : (s : SecondNode) (id g : ℕ) (o : Option Fed) → AreOfAnchors (fed_ended s id g o).1.notes
second_by_fed_ended s id g None = tt
second_by_fed_ended s id g (Some x) = tt

pub second_by_line : (c : Choices) (s : SecondNode) (f : Flight) → AreOfAnchors (second_line c s f).1.notes
second_by_line c s (flight.Sdu id g payload) =
    elim (cases_Bool (is_before_change g (held id s.frozen))) [
      | inl yes' ↦ rw yes' (second_by_frozen_took s id g payload (held id s.frozen))
      | inr no' ↦ rw no' (second_by_fed_took c s id g payload (held id s.anchors))
    ]
second_by_line c s (flight.End id g) =
    elim (cases_Bool (is_some (held id s.frozen))) [
      | inl yes' ↦ rw yes' (second_by_frozen_ended s id g (held id s.frozen))
      | inr no' ↦ rw no' (second_by_fed_ended s id g (held id s.anchors))
    ]
second_by_line c s (flight.Told id g count) = tt
second_by_line c s (flight.Air id g num tag pdu) = tt
second_by_line c s (flight.Ack id g num) = tt
second_by_line c s (flight.Tun tag packet) = tt
second_by_line c s (flight.Ctl r) = tt

second_by_host : (s : SecondNode) (id : ℕ) (f : Host → Host × List Send) (o : Option Host) → AreOfAnchors (on_second_host s id f o).1.notes
second_by_host s id f None = tt
second_by_host s id f (Some h) = tt

pub second_by_data : (s : SecondNode) (f : AnchorState → AnchorState × AnchorOut) (h : Host → Host × List Send) (o : Option Named) → AreOfAnchors (second_data s f h o).1.notes
second_by_data s f h None = tt
second_by_data s f h (Some (id, g)) =
    elim (cases_Bool (is_fed_of g (held id s.anchors))) [ inl yes' ↦ rw yes' (second_by_fed s id f (held id s.anchors)) | inr no' ↦ rw no' (second_by_host s id h (held id s.hosts)) ]

second_by_control : (c : Choices) (s : SecondNode) (f : Flight) → ArePlain (second_control c s f).1.notes
second_by_control c s (flight.Ctl r) = second_by_record c s r (is_fit s r)
second_by_control c s (flight.Air id g num tag pdu) = tt
second_by_control c s (flight.Ack id g num) = tt
second_by_control c s (flight.Tun tag packet) = tt
second_by_control c s (flight.Sdu id g payload) = tt
second_by_control c s (flight.End id g) = tt
second_by_control c s (flight.Told id g count) = tt

second_by_class : (c : Choices) (s : SecondNode) (f : Flight) (k : Class) → ArePlain (second_takes c s f k).1.notes
second_by_class c s f Ctl = second_by_control c s f
second_by_class c s f Feed = are_plain (second_line c s f).1.notes (second_by_line c s f)
second_by_class c s f Air = are_plain (second_takes c s f Air).1.notes (second_by_data s (λ a. air_in a cell.Scg f) (λ h. host_air_in h f) (flight_named f))
second_by_class c s f Tun = are_plain (second_takes c s f Tun).1.notes (second_by_data s (λ a. tunnel_in c a f) (λ h. host_tunnel_in h f) (flight_named f))

-- all that it notes, whatever comes
pub second_plain : (c : Choices) (s : SecondNode) (i : Input) → ArePlain (second_step c s i).1.notes
second_plain c s (Cmd e) = second_by_event c s e
second_plain c s (Come l f) = second_by_class c s f l.class
