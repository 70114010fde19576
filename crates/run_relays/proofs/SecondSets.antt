-- What a secondary node sets up is what plans that were drawn set.
use Rattle.std.proofs.Common.{ℕ, ◌≡◌, ◌==◌, Bool, true, false, List, [], Option, Some, None, sym, ap, subst, inl, inr, ◌⊎◌}
use Rattle.std.specs.Prelude.{Err, Ok, Result, is_none, is_some, nat_lt, not, ⊤, ◌&&◌}
use Rattle.std.specs.List.{AllByRecursion}
use Rattle.std.specs.Option.{option_map}
use Rattle.std.proofs.lemmas.Bool.{cases_Bool, eqb-false}
use Rattle.dc_base.specs.Records.{item_id}
use Rattle.dc_base.specs.declared.events.Event.{Event}
use Rattle.dc_base.specs.declared.events.Event.TheVariants as event
use Rattle.dc_base.specs.declared.flights.Flight.{Flight}
use Rattle.dc_base.specs.declared.flights.Flight.TheVariants as flight
use Rattle.dc_base.specs.declared.nodes.Cell.TheVariants as cell
use Rattle.dc_base.specs.declared.nodes.Class.{Class}
use Rattle.dc_base.specs.declared.nodes.Class.TheVariants.{Air, Ctl, Feed, Tun}
use Rattle.dc_base.specs.declared.nodes.Node.{Node}
use Rattle.dc_base.specs.declared.records.Item.{Item}
use Rattle.dc_base.specs.declared.records.Plan.{Plan}
use Rattle.dc_base.specs.declared.records.Rec.{Rec}
use Rattle.node_rules.specs.Acts.{ProcFault, first_refusal}
use Rattle.node_rules.specs.Adopting.{status_in}
use Rattle.node_rules.specs.Anchor.{Active, AnchorState, active_anchor, fresh, renew, waiting, waiting_anchor}
use Rattle.node_rules.specs.AnchorReceiving.{air_in, tunnel_in}
use Rattle.node_rules.specs.AnchorSending.{fail_scg, recover, report, unlock}
use Rattle.node_rules.specs.Choices.{Choices, Send}
use Rattle.node_rules.specs.Effects.{quiet}
use Rattle.node_rules.specs.Feed.{Fed, Frozen, end_in, freeze_fed, frozen_end_in, frozen_of, frozen_sdu_in, sdu_in}
use Rattle.node_rules.specs.Flights.{Named, flight_named}
use Rattle.node_rules.specs.Held.{held, holding, identities}
use Rattle.node_rules.specs.Host.{Host}
use Rattle.node_rules.specs.HostRules.{host_air_in, host_tunnel_in}
use Rattle.node_rules.specs.Parts.{host_at, part_at}
use Rattle.node_rules.specs.SecondPlan.{beginning, frozen_active, frozen_there, renewed_active, renewed_there, second_act, second_does, second_item, second_part}
use Rattle.node_rules.specs.SecondRecords.{second_take}
use Rattle.node_rules.specs.SecondState.{SecondActs, second_commands_unless, second_refusals}
use Rattle.node_rules.specs.SecondStep.{fed_ended, fed_took, frozen_ended, frozen_took, is_before_change, is_fit, key_in, on_second_host, second_commanded, second_control, second_data, second_line, second_record, second_record_taken, second_report, second_step, second_takes}
use Rattle.node_rules.specs.Secondary.{SecondNode, active_at, active_in, is_fed_of, name_of, on_fed, on_fed_of, within}
use Rattle.node_rules.specs.Setup.{Setup, setup_of}
use Rattle.node_rules.specs.declared.acts.Act.{Act}
use Rattle.node_rules.specs.declared.acts.Act.TheVariants.{FailOne as fail_one, Go as go, Pass as pass, Prepare as prepare, RecoverOne as recover_one, Say as say, Send as send, UnlockAll as unlock_all}
use Rattle.node_rules.specs.declared.bearers.AnchorOut.{AnchorOut}
use Rattle.node_rules.specs.declared.commands.Membership.{Membership}
use Rattle.node_rules.specs.declared.commands.Membership.TheVariants.{Joined as joined, Left as left, Outside as outside}
use Rattle.node_rules.specs.declared.inputs.Effects.{Effects}
use Rattle.node_rules.specs.declared.inputs.Input.TheVariants.{Cmd, Come}
use Rattle.node_rules.specs.declared.parts.Part.{Part}
use Rattle.node_rules.specs.declared.parts.Part.TheVariants.{Awaits as awaits, Drops as drops, Establishes as establishes, HandsOver as hands_over, HasNoAnchor as has_no_anchor, Renews as renews}
use Rattle.run_control.proofs.Sent.{either}
use Rattle.run_senders.specs.Holders.{AllHeld, IfThere}
use Rattle.run_senders.proofs.Held.{held_so, holding_so}
use Rattle.dc_base.specs.declared.nodes.LinkId.{LinkId}
use Rattle.claims.specs.Planned.{plan_in}
use Rattle.node_rules.specs.SecondRecords.{added, addition_asked, forgotten, is_one_drop, is_wanted, key_confirmed, leave_confirmed, let_off, modification_asked, modified, reconfigured, recovery_asked, refused_there, release_asked, release_confirmed, release_needless, failure_told, status_passed}
use Rattle.dc_base.specs.declared.answers.Word.{Word}
use Rattle.dc_base.specs.declared.nodes.Want.TheVariants as want
use Rattle.dc_base.specs.declared.records.Rec.TheVariants as rec
use Rattle.dc_base.specs.declared.records.RecKind.{RecKind}
use Rattle.dc_base.specs.declared.records.RecKind.TheVariants as kind
use Rattle.dc_base.specs.declared.records.StatusTransfer.{StatusTransfer}
use Rattle.dc_base.specs.declared.answers.Refusal.{Refusal}
use Rattle.node_rules.specs.SecondState.{SecondProc, second_commands}
use Rattle.run_relays.specs.Setups.{FedOf, HostOf, IsHostOfPlan, IsOfPlan, core, no_release}
use Rattle.run_relays.proofs.Cores.{KeepsCore, KeepsHost, air_core, fail_core, host_air_core, host_tunnel_core, recover_core, report_core, status_core, submit_core, tunnel_core, unlock_core}
use Rattle.run_relays.proofs.Planned.{FoundIn, Runs, RunsOnly, any_fit, each_found, host_is, setup_is, turn_keeps}

module _ (plans : List Plan) where
  -- all that the node has is set up so
  pub record K (s : SecondNode) : Type 0 where
    pub anchors : AllHeld (FedOf (IsOfPlan plans)) s.anchors
    pub hosts : AllHeld (HostOf (IsHostOfPlan plans)) s.hosts

  abbrev Anchored : Fed → Type 0
  Anchored f = FedOf (IsOfPlan plans) f

  with_anchor : (s : SecondNode) (id : ℕ) (o : Option Fed) → IfThere Anchored o → K s → K (record s { anchors = holding id o s.anchors })
  with_anchor s id o so is = record { anchors = holding_so Anchored id o so s.anchors is.anchors; hosts = is.hosts }

  with_frozen : (s : SecondNode) (id : ℕ) (o : Option Frozen) → K s → K (record s { frozen = holding id o s.frozen })
  with_frozen s id o is = record { anchors = is.anchors; hosts = is.hosts }

  with_host : (s : SecondNode) (id : ℕ) (o : Option Host) → IfThere (HostOf (IsHostOfPlan plans)) o → K s → K (record s { hosts = holding id o s.hosts })
  with_host s id o so is = record { anchors = is.anchors; hosts = holding_so (HostOf (IsHostOfPlan plans)) id o so s.hosts is.hosts }

  anchor_here : (s : SecondNode) (id : ℕ) → K s → IfThere Anchored (held id s.anchors)
  anchor_here s id is = held_so Anchored id s.anchors is.anchors

  -- ---- anchors

  -- a step of an anchor
  abbrev AnchorsKeep : (AnchorState → AnchorState × AnchorOut) → Type 0
  AnchorsKeep f = (a : AnchorState) → KeepsCore a (f a)

  by_fed : (s : SecondNode) (id : ℕ) (f : AnchorState → AnchorState × AnchorOut) → AnchorsKeep f → (o : Option Fed) → IfThere Anchored o → K s → K (on_fed s id f o).0
  by_fed s id f keep None here is = is
  by_fed s id f keep (Some y) here is = with_anchor s id (Some (record y { anchor = (f y.anchor).0 })) (subst (IsOfPlan plans) (sym (keep y.anchor)) here) is

  by_fed_of : (s : SecondNode) (g : ℕ) (f : AnchorState → AnchorState × AnchorOut) → AnchorsKeep f → (id : ℕ) (o : Option Fed) → IfThere Anchored o → K s → K (on_fed_of s g f id o).0
  by_fed_of s g f keep id o here is = either (λ (done : SecondNode × Effects). K done.0) (is_fed_of g o) (on_fed s id f o) (s, quiet) (by_fed s id f keep o here is) is

  -- ---- how a plan is carried out

  abbrev SetIs : Option Setup → Type 0
  SetIs o = IfThere (λ (x : Setup). IsOfPlan plans (core x)) o

  by_renewed_active : (s : SecondNode) (id g : ℕ) (setup : Setup) (y : Fed) (o : Option Active) → IsOfPlan plans (core setup) → K s → K (renewed_active s id g setup y o).0
  by_renewed_active s id g setup y None here is = is
  by_renewed_active s id g setup y (Some a) here is = with_anchor s id (Some (record y { anchor = active_anchor (renew a setup) })) here is

  by_renewed : (s : SecondNode) (id g : ℕ) (setup : Option Setup) (o : Option Fed) → SetIs setup → K s → K (renewed_there s id g setup o).0
  by_renewed s id g None o here is = is
  by_renewed s id g (Some setup) None here is = is
  by_renewed s id g (Some setup) (Some y) here is = by_renewed_active s id g setup y (active_in y.anchor) here is

  by_frozen_active : (s : SecondNode) (id g : ℕ) (to : Node) (y : Fed) (o : Option Active) → K s → K (frozen_active s id g to y o).0
  by_frozen_active s id g to y None is = is
  by_frozen_active s id g to y (Some a) is =
      with_frozen (record s { anchors = holding id None s.anchors }) id (frozen_of y.since (freeze_fed y a to g).rest) (with_anchor s id None tt is)

  by_frozen : (s : SecondNode) (id g : ℕ) (to : Node) (o : Option Fed) → K s → K (frozen_there s id g to o).0
  by_frozen s id g to None is = is
  by_frozen s id g to (Some y) is = by_frozen_active s id g to y (active_in y.anchor) is

  fresh_is : (g : ℕ) (o : Option Setup) → SetIs o → IfThere Anchored (option_map (λ s. beginning g (fresh s)) o)
  fresh_is g None here = tt
  fresh_is g (Some s) here = here

  waiting_is : (g : ℕ) (o : Option Setup) → SetIs o → IfThere Anchored (option_map (λ s. beginning g (waiting s)) o)
  waiting_is g None here = tt
  waiting_is g (Some s) here = here

  by_part : (s : SecondNode) (p : Plan) (setup : Option Setup) (id : ℕ) (part : Part) → SetIs setup → K s → K (second_part s p setup id part).0
  by_part s p setup id establishes here is = with_anchor s id (option_map (λ y. beginning p.g (fresh y)) setup) (fresh_is p.g setup here) is
  by_part s p setup id renews here is = by_renewed s id p.g setup (held id s.anchors) here is
  by_part s p setup id awaits here is = with_anchor s id (option_map (λ y. beginning p.g (waiting y)) setup) (waiting_is p.g setup here) is
  by_part s p setup id (hands_over to) here is = by_frozen s id p.g to (held id s.anchors) is
  by_part s p setup id drops here is = with_anchor s id None tt is
  by_part s p setup id has_no_anchor here is = is

  by_item : (key : List ℕ) (p : Plan) → Runs plans p → (s : SecondNode) (i : Item) → FoundIn p.items i → K s → K (second_item key p s i).0
  by_item key p runs s i found is =
      by_part (record s { hosts = holding (item_id i) (host_at (name_of s) p i) s.hosts }) p (setup_of (name_of s) p s.alg key i) (item_id i) (part_at (name_of s) p.sec i)
      (setup_is plans (name_of s) p s.alg key i runs found) (with_host s (item_id i) (host_at (name_of s) p i) (host_is plans (name_of s) p i runs found) is)

  -- ---- acts

  by_act : (c : Choices) (key : List ℕ) (s : SecondNode) (a : Act) → RunsOnly plans a → K s → K (second_act c key s a).0
  by_act c key s (send to r) runs is = is
  by_act c key s (prepare p) runs is = is
  by_act c key s (go p) runs is = turn_keeps K (FoundIn p.items) (second_item key p) (λ k i found so. by_item key p runs k i found so) s p.items (each_found 0 p.items runs.1) is
  by_act c key s (unlock_all g) runs is =
      turn_keeps K (λ id. ⊤) (λ n id. on_fed_of n g (unlock c) id (held id n.anchors))
      (λ n id fits so. by_fed_of n g (unlock c) (unlock_core c) id (held id n.anchors) (anchor_here n id so) so) s (identities s.anchors) (any_fit (identities s.anchors)) is
  by_act c key s (say n) runs is = is
  by_act c key s (recover_one id) runs is = by_fed s id (recover c) (recover_core c) (held id s.anchors) (anchor_here s id is) is
  by_act c key s (fail_one id g) runs is = by_fed_of s g (fail_scg c) (fail_core c) id (held id s.anchors) (anchor_here s id is) is
  by_act c key s (pass st) runs is = by_fed s st.id (λ a. status_in c a st) (λ a. status_core c a st) (held st.id s.anchors) (anchor_here s st.id is) is

  within_so : (k : Membership) (s : SecondNode) → K s → K (within k s)
  within_so outside s is = record { anchors = tt; hosts = tt }
  within_so joined s is = is
  within_so left s is = is

  by_does : (c : Choices) (key : List ℕ) (s : SecondNode) (r : SecondActs) → AllByRecursion (RunsOnly plans) r.1 → K s → K (second_does c key s r).0
  by_does c key s r runs is =
      let k : SecondNode = record s { proc = r.0 } in
      turn_keeps K (RunsOnly plans) (second_act c key) (λ x a fits so. by_act c key x a fits so) (within r.0.membership k) r.1 runs (within_so r.0.membership k (record { anchors = is.anchors; hosts = is.hosts }))

  -- ---- records

  -- the plan of a record was drawn; or it is of generation 0, with which the record says that there is nothing to release
  abbrev pub BringsPlan : Rec → Option Plan → Type 0
  BringsPlan r None = ⊤
  BringsPlan r (Some p) = Runs plans p ⊎ ((p ≡ no_release) × (r ≡ rec.Relcnf p))

  abbrev pub BringsRec : Rec → Type 0
  BringsRec r = BringsPlan r (plan_in r)

  -- what is done about it carries that plan out
  abbrev RunsIf : Result SecondActs ProcFault → Type 0
  RunsIf (Ok r) = AllByRecursion (RunsOnly plans) r.1
  RunsIf (Err why) = ⊤

  runs_added : (s : SecondProc) (p : Plan) (denies : Bool) → Runs plans p → AllByRecursion (RunsOnly plans) (added s p denies).1
  runs_added s p true runs = (tt, tt)
  runs_added s p false runs = (tt, (tt, (runs, tt)))

  by_addition : (s : SecondProc) (p : Plan) (k : Membership) → Runs plans p → RunsIf (addition_asked s p k)
  by_addition s p outside runs = runs_added s p s.denies runs
  by_addition s p joined runs = tt
  by_addition s p left runs = tt

  runs_modified : (s : SecondProc) (p : Plan) (denies : Bool) → Runs plans p → AllByRecursion (RunsOnly plans) (modified s p denies).1
  runs_modified s p true runs = (tt, tt)
  runs_modified s p false runs = (tt, (runs, tt))

  by_modification : (s : SecondProc) (p : Plan) (k : Membership) → Runs plans p → RunsIf (modification_asked s p k)
  by_modification s p outside runs = tt
  by_modification s p joined runs = runs_modified s p (s.denies && not (is_one_drop p.items)) runs
  by_modification s p left runs = tt

  runs_off : (s : SecondProc) (p : Plan) (denies : Bool) → Runs plans p → AllByRecursion (RunsOnly plans) (let_off s p denies).1
  runs_off s p true runs = (tt, tt)
  runs_off s p false runs = (tt, (tt, (runs, tt)))

  by_release : (s : SecondProc) (p : Plan) (k : Membership) → Runs plans p → RunsIf (release_asked s p k)
  by_release s p outside runs = tt
  by_release s p joined runs = runs_off s p (s.denies && is_none p.sec) runs
  by_release s p left runs = tt

  by_forgotten : (s : SecondProc) (k : Membership) → RunsIf (forgotten s k)
  by_forgotten s outside = tt
  by_forgotten s joined = tt
  by_forgotten s left = tt

  by_refused : (k : RecKind) (s : SecondProc) (w : Word) (wanted : Bool) → RunsIf (refused_there k s w wanted)
  by_refused k s w true = (tt, tt)
  by_refused k s w false = tt

  by_key : (s : SecondProc) (g : ℕ) (wanted : Bool) (k : Membership) → RunsIf (key_confirmed s g wanted k)
  by_key s g true outside = tt
  by_key s g true joined = (tt, (tt, tt))
  by_key s g true left = tt
  by_key s g false k = tt

  by_leave : (k : RecKind) (s : SecondProc) (p : Plan) (wanted : Bool) (m : Membership) → Runs plans p → RunsIf (leave_confirmed k s p wanted m)
  by_leave k s p true outside runs = tt
  by_leave k s p true joined runs = (tt, (tt, (runs, tt)))
  by_leave k s p true left runs = tt
  by_leave k s p false m runs = tt

  by_needless : (s : SecondProc) (wanted : Bool) → RunsIf (release_needless s wanted)
  by_needless s true = (tt, tt)
  by_needless s false = tt

  by_confirmed : (s : SecondProc) (p : Plan) → Runs plans p ⊎ (p.g ≡ 0) → RunsIf (release_confirmed s p)
  by_confirmed s p brings =
      elim (cases_Bool (p.g == 0)) [
        | inl none ↦ rw none (by_needless s (is_wanted want.Release s.want))
        | inr some ↦ elim brings [
          | inl runs ↦ rw some (by_leave kind.Relcnf s p (is_wanted want.Release s.want) s.membership runs)
          | inr zero' ↦ absurd (eqb-false p.g 0 some zero')
        ]
      ]

  by_reconfigured : (s : SecondProc) (g : ℕ) (k : Membership) → RunsIf (reconfigured s g k)
  by_reconfigured s g outside = tt
  by_reconfigured s g joined = (tt, tt)
  by_reconfigured s g left = tt

  by_status : (s : SecondProc) (st : StatusTransfer) (k : Membership) → RunsIf (status_passed s st k)
  by_status s st outside = tt
  by_status s st joined = (tt, tt)
  by_status s st left = tt

  by_recovery : (s : SecondProc) (id : ℕ) (k : Membership) → RunsIf (recovery_asked s id k)
  by_recovery s id outside = tt
  by_recovery s id joined = (tt, (tt, tt))
  by_recovery s id left = tt

  by_failure : (s : SecondProc) (id g : ℕ) (k : Membership) → RunsIf (failure_told s id g k)
  by_failure s id g outside = tt
  by_failure s id g joined = (tt, tt)
  by_failure s id g left = (tt, tt)

  -- a plan that is brought by another record was drawn
  surely : (r : Rec) (p : Plan) → (r ≡ rec.Relcnf p → ⊥) → Runs plans p ⊎ ((p ≡ no_release) × (r ≡ rec.Relcnf p)) → Runs plans p
  surely r p other (inl runs) = runs
  surely r p other (inr none) = absurd (other none.1)

  of_confirm : (p : Plan) → Runs plans p ⊎ ((p ≡ no_release) × (rec.Relcnf p ≡ rec.Relcnf p)) → Runs plans p ⊎ (p.g ≡ 0)
  of_confirm p (inl runs) = inl runs
  of_confirm p (inr none) = inr (ap (λ (q : Plan). q.g) none.0)

  runs_taken : (s : SecondProc) (r : Rec) → BringsRec r → RunsIf (second_take s r)
  runs_taken s (rec.Addreq p key) brings = by_addition s p s.membership (surely (rec.Addreq p key) p (λ same. cc) brings)
  runs_taken s (rec.Modreq p key) brings = by_modification s p s.membership (surely (rec.Modreq p key) p (λ same. cc) brings)
  runs_taken s (rec.Relreq p) brings = by_release s p s.membership (surely (rec.Relreq p) p (λ same. cc) brings)
  runs_taken s (rec.Uecr g) brings = by_forgotten s s.membership
  runs_taken s (rec.Recfg g) brings = by_reconfigured s g s.membership
  runs_taken s (rec.Modcnf g) brings = by_key s g (is_wanted want.Rekey s.want) s.membership
  runs_taken s (rec.Modref word) brings = by_refused kind.Modref s word (is_wanted want.Rekey s.want)
  runs_taken s (rec.Chgcnf p) brings = by_leave kind.Chgcnf s p (is_wanted want.Change s.want) s.membership (surely (rec.Chgcnf p) p (λ same. cc) brings)
  runs_taken s (rec.Chgref word) brings = by_refused kind.Chgref s word (is_wanted want.Change s.want)
  runs_taken s (rec.Relcnf p) brings = by_confirmed s p (of_confirm p brings)
  runs_taken s (rec.Snst status) brings = by_status s status s.membership
  runs_taken s (rec.Recov id) brings = by_recovery s id s.membership
  runs_taken s (rec.Scgn id g) brings = by_failure s id g s.membership
  runs_taken s (rec.Reconf p key) brings = tt
  runs_taken s (rec.Rcomp g) brings = tt
  runs_taken s (rec.Scgf failed) brings = tt
  runs_taken s (rec.Recovd id) brings = tt
  runs_taken s (rec.Addack g) brings = tt
  runs_taken s (rec.Addrej g) brings = tt
  runs_taken s (rec.Modack g) brings = tt
  runs_taken s (rec.Modrej g) brings = tt
  runs_taken s (rec.Relack g) brings = tt
  runs_taken s (rec.Relrej g) brings = tt
  runs_taken s (rec.Moved g id) brings = tt
  runs_taken s rec.Modrqd brings = tt
  runs_taken s rec.Chgrqd brings = tt
  runs_taken s rec.Relrqd brings = tt

  by_taken : (c : Choices) (key : List ℕ) (s : SecondNode) (r : Result SecondActs ProcFault) → RunsIf r → K s → K (second_record_taken c key s r).0
  by_taken c key s (Ok r) runs is = by_does c key s r runs is
  by_taken c key s (Err why) runs is = is

  by_record : (c : Choices) (s : SecondNode) (r : Rec) (fits : Bool) → BringsRec r → K s → K (second_record c s r fits).0
  by_record c s r true brings is = by_taken c (key_in r) s (second_take s.proc r) (runs_taken s.proc r brings) is
  by_record c s r false brings is = is

  -- ---- the core's lines

  by_frozen_took : (s : SecondNode) (id g : ℕ) (payload : List ℕ) (o : Option Frozen) → K s → K (frozen_took s id g payload o).0
  by_frozen_took s id g payload None is = is
  by_frozen_took s id g payload (Some f) is = with_frozen s id (Some (frozen_sdu_in f g payload).0) is

  sdu_core : (c : Choices) (f : Fed) (g : ℕ) (payload : List ℕ) → Anchored f → Anchored (sdu_in c f g payload).0
  sdu_core c f g payload here =
      either (λ (done : Fed × AnchorOut). Anchored done.0) (nat_lt g f.since) _ _ here (subst (IsOfPlan plans) (sym (submit_core c f.anchor payload)) here)

  by_fed_took : (c : Choices) (s : SecondNode) (id g : ℕ) (payload : List ℕ) (o : Option Fed) → IfThere Anchored o → K s → K (fed_took c s id g payload o).0
  by_fed_took c s id g payload None here is = is
  by_fed_took c s id g payload (Some y) here is = with_anchor s id (Some (sdu_in c y g payload).0) (sdu_core c y g payload here) is

  by_frozen_ended : (s : SecondNode) (id g : ℕ) (o : Option Frozen) → K s → K (frozen_ended s id g o).0
  by_frozen_ended s id g None is = is
  by_frozen_ended s id g (Some f) is = with_frozen s id (frozen_end_in f g).0 is

  end_is : (f : Fed) (g : ℕ) (a : AnchorState) → Anchored f → Anchored (end_in f g a)
  end_is f g (waiting_anchor w) here = here
  end_is f g (active_anchor a) here = here

  by_fed_ended : (s : SecondNode) (id g : ℕ) (o : Option Fed) → IfThere Anchored o → K s → K (fed_ended s id g o).0
  by_fed_ended s id g None here is = is
  by_fed_ended s id g (Some y) here is = with_anchor s id (Some (end_in y g y.anchor)) (end_is y g y.anchor here) is

  by_line : (c : Choices) (s : SecondNode) (f : Flight) → K s → K (second_line c s f).0
  by_line c s (flight.Sdu id g payload) is =
      either (λ (done : SecondNode × Effects). K done.0) (is_before_change g (held id s.frozen)) (frozen_took s id g payload (held id s.frozen)) (fed_took c s id g payload (held id s.anchors))
      (by_frozen_took s id g payload (held id s.frozen) is) (by_fed_took c s id g payload (held id s.anchors) (anchor_here s id is) is)
  by_line c s (flight.End id g) is =
      either (λ (done : SecondNode × Effects). K done.0) (is_some (held id s.frozen)) (frozen_ended s id g (held id s.frozen)) (fed_ended s id g (held id s.anchors))
      (by_frozen_ended s id g (held id s.frozen) is) (by_fed_ended s id g (held id s.anchors) (anchor_here s id is) is)
  by_line c s (flight.Told id g count) is = is
  by_line c s (flight.Air id g num tag pdu) is = is
  by_line c s (flight.Ack id g num) is = is
  by_line c s (flight.Tun tag packet) is = is
  by_line c s (flight.Ctl r) is = is

  -- the plan of a flight was drawn, if it has one
  abbrev pub BringsFlight : Flight → Type 0
  BringsFlight (flight.Ctl r) = BringsRec r
  BringsFlight (flight.Air id g num tag pdu) = ⊤
  BringsFlight (flight.Ack id g num) = ⊤
  BringsFlight (flight.Tun tag packet) = ⊤
  BringsFlight (flight.Sdu id g payload) = ⊤
  BringsFlight (flight.End id g) = ⊤
  BringsFlight (flight.Told id g count) = ⊤

  by_control : (c : Choices) (s : SecondNode) (f : Flight) → BringsFlight f → K s → K (second_control c s f).0
  by_control c s (flight.Ctl r) brings is = by_record c s r (is_fit s r) brings is
  by_control c s (flight.Air id g num tag pdu) brings is = is
  by_control c s (flight.Ack id g num) brings is = is
  by_control c s (flight.Tun tag packet) brings is = is
  by_control c s (flight.Sdu id g payload) brings is = is
  by_control c s (flight.End id g) brings is = is
  by_control c s (flight.Told id g count) brings is = is

  by_host : (s : SecondNode) (id : ℕ) (h : Host → Host × List Send) → ((x : Host) → KeepsHost x (h x)) → (o : Option Host) → IfThere (HostOf (IsHostOfPlan plans)) o → K s → K (on_second_host s id h o).0
  by_host s id h keep None here is = is
  by_host s id h keep (Some x) here is = with_host s id (Some (h x).0) (subst (IsHostOfPlan plans) (sym (keep x)) here) is

  by_data : (s : SecondNode) (a : AnchorState → AnchorState × AnchorOut) (h : Host → Host × List Send) → AnchorsKeep a → ((x : Host) → KeepsHost x (h x)) → (o : Option Named) → K s → K (second_data s a h o).0
  by_data s a h keep hosts None is = is
  by_data s a h keep hosts (Some (id, g)) is =
      either (λ (done : SecondNode × Effects). K done.0) (is_fed_of g (held id s.anchors)) (on_fed s id a (held id s.anchors)) (on_second_host s id h (held id s.hosts))
      (by_fed s id a keep (held id s.anchors) (anchor_here s id is) is) (by_host s id h hosts (held id s.hosts) (held_so (HostOf (IsHostOfPlan plans)) id s.hosts is.hosts) is)

  by_class : (c : Choices) (s : SecondNode) (f : Flight) (k : Class) → BringsFlight f → K s → K (second_takes c s f k).0
  by_class c s f Ctl brings is = by_control c s f brings is
  by_class c s f Feed brings is = by_line c s f is
  by_class c s f Air brings is = by_data s (λ a. air_in a cell.Scg f) (λ h. host_air_in h f) (λ a. air_core a cell.Scg f) (λ h. host_air_core h f) (flight_named f) is
  by_class c s f Tun brings is = by_data s (λ a. tunnel_in c a f) (λ h. host_tunnel_in h f) (λ a. tunnel_core c a f) (λ h. host_tunnel_core h f) (flight_named f) is

  -- a flight that the node takes
  pub flight_keeps : (c : Choices) (s : SecondNode) (l : LinkId) (f : Flight) → BringsFlight f → K s → K (second_step c s (Come l f)).0
  flight_keeps c s l f brings is = by_class c s f l.class brings is

  -- ---- its events

  asks_nothing : (s : SecondProc) (e : Event) → AllByRecursion (RunsOnly plans) (second_commands s e).1
  asks_nothing s (event.Ask node what) = (tt, tt)
  asks_nothing s (event.Deny node on) = tt
  asks_nothing s (event.Bearer id n first shape threshold policy) = tt
  asks_nothing s (event.Reshape id shape) = tt
  asks_nothing s (event.Remove id) = tt
  asks_nothing s (event.Add node) = tt
  asks_nothing s event.Change = tt
  asks_nothing s event.Release = tt
  asks_nothing s event.RekeySecond = tt
  asks_nothing s (event.RekeyMaster root) = tt
  asks_nothing s (event.Recover id) = tt
  asks_nothing s (event.Report node id) = tt
  asks_nothing s event.ScgFail = tt
  asks_nothing s (event.Submit id d payload) = tt
  asks_nothing s (event.Step l i) = tt
  asks_nothing s (event.Lose l i) = tt
  asks_nothing s (event.Again l i) = tt

  by_command : (c : Choices) (s : SecondNode) (e : Event) (o : Option Refusal) → K s → K (second_commanded c s (second_commands_unless s.proc e o)).0
  by_command c s e None is = by_does c [] s (second_commands s.proc e) (asks_nothing s.proc e) is
  by_command c s e (Some why) is = is

  by_report : (c : Choices) (s : SecondNode) (id : ℕ) (o : Option Active) → K s → K (second_report c s id o).0
  by_report c s id None is = is
  by_report c s id (Some a) is = by_fed s id (report c) (report_core c) (held id s.anchors) (anchor_here s id is) is

  -- an event that the node takes
  pub event_keeps : (c : Choices) (s : SecondNode) (e : Event) → K s → K (second_step c s (Cmd e)).0
  event_keeps c s (event.Report node id) is = by_report c s id (active_at s id) is
  event_keeps c s (event.Deny node on) is = by_command c s (event.Deny node on) (first_refusal (second_refusals s.proc (event.Deny node on))) is
  event_keeps c s (event.Ask node what) is = by_command c s (event.Ask node what) (first_refusal (second_refusals s.proc (event.Ask node what))) is
  event_keeps c s (event.Bearer id n first shape threshold policy) is = is
  event_keeps c s (event.Reshape id shape) is = is
  event_keeps c s (event.Remove id) is = is
  event_keeps c s (event.Add node) is = is
  event_keeps c s event.Change is = is
  event_keeps c s event.Release is = is
  event_keeps c s event.RekeySecond is = is
  event_keeps c s (event.RekeyMaster root) is = is
  event_keeps c s (event.Recover id) is = is
  event_keeps c s event.ScgFail is = is
  event_keeps c s (event.Submit id d payload) is = is
  event_keeps c s (event.Step l i) is = is
  event_keeps c s (event.Lose l i) is = is
  event_keeps c s (event.Again l i) is = is
