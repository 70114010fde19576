-- What the master notes in a step leaves no other anchors active than it has after it, but for those that its plan drops.
use Rattle.std.proofs.Common.{ℕ, ◌≡◌, ◌==◌, ◌∙◌, Bool, true, false, List, [], ◌∷◌, Option, Some, None, refl, sym, ap, subst, arith, inl, inr}
use Rattle.std.specs.Option.{option_map}
use Rattle.std.specs.Prelude.{Err, Ok, Result, if◌then◌else◌, length, nat_lt, not, ◌⊎◌}
use Rattle.dc_base.specs.declared.nodes.Dir.TheVariants.{Dl, Ul}
use Rattle.node_rules.specs.Anchor.{AnchorState, active_anchor, fresh, renew, setup_at, waiting, waiting_anchor}
use Rattle.node_rules.specs.Effects.{after_effects, both, in_turn, noted, quiet, unless}
use Rattle.node_rules.specs.Master.{MasterNode, anchor_did, handed_up, is_waiting, low_rises, on_anchor, on_anchor_of, told_by, window_told, without_waiting}
use Rattle.node_rules.specs.MasterPlan.{adopts_if, carries_item, does, frozen_here, is_rejection, line_end, line_ends, master_act, master_did, master_part, master_setup, on_waiting, owned, prepares_item, prepares_part, renewed_here, says, with_host_and_window}
use Rattle.node_rules.specs.Parts.{part_at}
use Rattle.node_rules.specs.declared.inputs.Outcome.{Outcome}
use Rattle.dc_base.specs.Nodes.{is_same_node}
use Rattle.dc_base.specs.Records.{item_id}
use Rattle.dc_base.specs.declared.answers.Refusal.{Refusal}
use Rattle.dc_base.specs.declared.events.Event.{Event}
use Rattle.dc_base.specs.declared.events.Event.TheVariants as event
use Rattle.dc_base.specs.declared.events.Note.TheVariants as note
use Rattle.dc_base.specs.declared.flights.Flight.{Flight}
use Rattle.dc_base.specs.declared.flights.Flight.TheVariants as flight
use Rattle.dc_base.specs.declared.nodes.Cell.TheVariants as cell
use Rattle.dc_base.specs.declared.nodes.Class.{Class}
use Rattle.dc_base.specs.declared.nodes.Class.TheVariants.{Air, Ctl, Feed, Tun}
use Rattle.dc_base.specs.declared.nodes.Node.{Node}
use Rattle.dc_base.specs.declared.nodes.Node.TheVariants.{A, B, M, T}
use Rattle.dc_base.specs.declared.records.Item.{Item}
use Rattle.dc_base.specs.declared.records.Item.TheVariants as item
use Rattle.dc_base.specs.declared.records.Plan.{Plan}
use Rattle.node_rules.specs.Acts.{ProcFault, first_refusal, refused, unexpected}
use Rattle.node_rules.specs.Adopting.{status_in}
use Rattle.node_rules.specs.AnchorReceiving.{air_in, tunnel_in}
use Rattle.node_rules.specs.AnchorSending.{fail_scg, recover, report, submit, unlock}
use Rattle.node_rules.specs.Choices.{Choices, Send}
use Rattle.node_rules.specs.CommandTable.{row}
use Rattle.node_rules.specs.Flights.{Named, flight_named}
use Rattle.node_rules.specs.Held.{held, holding, identities}
use Rattle.node_rules.specs.Host.{Host}
use Rattle.node_rules.specs.HostRules.{host_air_in, host_tunnel_in}
use Rattle.node_rules.specs.MasterCommands.{command_refusals, commands_unless}
use Rattle.node_rules.specs.MasterState.{MasterActs, has_bearer}
use Rattle.node_rules.specs.MasterStep.{command_taken, commanded, data_taken, is_anchor_of, line_taken, master_event, master_step, master_takes, on_host, record_taken, report_asked, settled_row, submit_refusals, submitted, submitted_to, to_anchor_at, with_accepted}
use Rattle.node_rules.specs.MasterTaking.{master_adopted, master_take}
use Rattle.node_rules.specs.Places.{anchor_at}
use Rattle.node_rules.specs.Setup.{Setup}
use Rattle.node_rules.specs.declared.acts.Act.{Act}
use Rattle.node_rules.specs.declared.acts.Act.TheVariants.{FailOne as fail_one, Go as go, Pass as pass, Prepare as prepare, RecoverOne as recover_one, Say as say, Send as send, UnlockAll as unlock_all}
use Rattle.node_rules.specs.declared.bearers.AnchorOut.{AnchorOut}
use Rattle.node_rules.specs.declared.bearers.Window.{Window}
use Rattle.node_rules.specs.declared.commands.Row.{Row}
use Rattle.node_rules.specs.declared.inputs.Effects.{Effects}
use Rattle.node_rules.specs.declared.inputs.Input.{Input}
use Rattle.node_rules.specs.declared.inputs.Input.TheVariants.{Cmd, Come}
use Rattle.node_rules.specs.declared.parts.Part.{Part}
use Rattle.node_rules.specs.declared.parts.Part.TheVariants.{Awaits as awaits, Drops as drops, Establishes as establishes, HandsOver as hands_over, HasNoAnchor as has_no_anchor, Renews as renews}
use Rattle.dc_base.specs.declared.events.Note.{Note}
use Rattle.run_control.specs.Orders.{Ascends}
use Rattle.run_control.proofs.Ascending.{ascends_some, ascends_with, held_some, kept_by}
use Rattle.run_control.proofs.Holding.{seen_again}
use Rattle.run_control.proofs.SecondItems.{ascends_put, seen_put}
use Rattle.run_holders.proofs.AnchorSteps.{Stays, Steps, air_steps, either, fail_stays, goes_on, recover_stays, report_stays, status_steps, submit_stays, takes_over, tunnel_steps, unlock_stays}
use Rattle.run_holders.proofs.MasterSaying.{SayPlain, SaysPlain, TakesPlain, adopted_says, commands_says, take_says}
use Rattle.std.specs.List.{AllByRecursion}
use Rattle.std.specs.Prelude.{⊤}
use Rattle.std.proofs.lemmas.Bool.{eqb-true}
use Rattle.dc_base.specs.declared.records.Rec.{Rec}
use Rattle.dc_base.specs.declared.nodes.LinkId.{LinkId}
use Rattle.dc_base.specs.declared.records.StatusTransfer.{StatusTransfer}
use Rattle.node_rules.specs.MasterCommands.{master_command}
use Rattle.run_holders.specs.Actives.{Actives, active_of, is_of_anchor, master_actives, with_active}
use Rattle.run_keepers.specs.Lasting.{Lasts}
use Rattle.run_keepers.proofs.Lasting.{LastsOver, hands_still, lasts_itself, over_then, still}

module _ (D : ℕ → Type 0) where
  -- ---- what the acts have to meet

  -- where a plan is carried out, what it does away with is dropped
  abbrev pub GoesLet : Option Node → Item → Type 0
  GoesLet sec i = part_at M sec i ≡ drops → D (item_id i)

  -- where anchors are made that wait, what was there is dropped
  abbrev pub PreparesLet : Option Node → Item → Type 0
  PreparesLet sec i = part_at M sec i ≡ awaits → D (item_id i)

  -- so of an act; that of a status transfer is looked at by itself
  abbrev pub ActLets : Act → Type 0
  ActLets (go p) = AllByRecursion (GoesLet p.sec) p.items
  ActLets (prepare p) = AllByRecursion (PreparesLet p.sec) p.items
  ActLets (send to r) = ⊤
  ActLets (unlock_all g) = ⊤
  ActLets (say n) = ⊤
  ActLets (recover_one id) = ⊤
  ActLets (fail_one id g) = ⊤
  ActLets (pass st) = ⊤

  abbrev pub ActsLet : List Act → Type 0
  ActsLet acts = AllByRecursion ActLets acts

  -- no status transfer is taken by an act
  abbrev pub IsPassless : Act → Type 0
  IsPassless (pass st) = ⊥
  IsPassless (send to r) = ⊤
  IsPassless (prepare p) = ⊤
  IsPassless (go p) = ⊤
  IsPassless (unlock_all g) = ⊤
  IsPassless (say n) = ⊤
  IsPassless (recover_one id) = ⊤
  IsPassless (fail_one id g) = ⊤

  -- the acts by a record: without a status transfer, or that alone, by which a bearer may be adopted
  abbrev pub TakesLet : Result MasterActs ProcFault → Type 0
  TakesLet (Ok r) = (ActsLet r.1 × AllByRecursion IsPassless r.1) ⊎ ((st : StatusTransfer) × (r.1 ≡ pass st ∷ []) × ActsLet (master_adopted r.0 st.id).1)
  TakesLet (Err why) = ⊤

  -- those by an event
  abbrev pub OrderLets : Result MasterActs ProcFault → Type 0
  OrderLets (Ok r) = ActsLet r.1
  OrderLets (Err why) = ⊤

  -- ---- what stays active in a step of the master

  pub record MasterLasts (m : MasterNode) (done : MasterNode × Effects) : Type 0 where
    pub up : Ascends done.0.anchors
    pub lasts : LastsOver D (master_actives m) done.1.notes (master_actives done.0)

  master_then : (m mid : MasterNode) (x : Effects) (done : MasterNode × Effects) → MasterLasts m (mid, x) → MasterLasts mid done → MasterLasts m (after_effects x done)
  master_then m mid x done one two = record {
    up = two.up;
    lasts = over_then D (master_actives m) (master_actives mid) (master_actives done.0) x.notes done.1.notes one.lasts two.lasts;
  }

  -- its anchors stay, and it notes nothing
  same_anchors : (m m' : MasterNode) (x : Effects) → m'.anchors ≡ m.anchors → x.notes ≡ [] → Ascends m.anchors → MasterLasts m (m', x)
  same_anchors m m' x same none up = record {
    up = subst (λ xs. Ascends xs) (sym same) up;
    lasts = subst (λ ns. LastsOver D (master_actives m) ns (master_actives m')) (sym none)
        (subst (λ xs. Lasts D (master_actives m) (master_actives (record m' { anchors = xs }))) (sym same) (lasts_itself D (master_actives m)));
  }

  idle : (m : MasterNode) → Ascends m.anchors → MasterLasts m (m, quiet)
  idle m up = same_anchors m m quiet refl refl up

  -- the master with another anchor
  abbrev with_anchor : MasterNode → ℕ → Option AnchorState → MasterNode
  with_anchor m id o = record m { anchors = holding id o m.anchors }

  same_map : {X : Type 0} (o : Option X) → option_map (λ (x : X). x) o ≡ o
  same_map None = refl
  same_map (Some x) = refl

  put_is : (m : MasterNode) (id k : ℕ) (o : Option AnchorState) → Ascends m.anchors → master_actives (with_anchor m id o) k ≡ with_active id (active_of o) (master_actives m) k
  put_is m id k o up =
      ap active_of (sym (same_map (held k (holding id o m.anchors))) ∙ seen_put (λ (a : AnchorState). a) id k o m.anchors up) ∙ by (id == k)
    where
      by : (d : Bool) → active_of (if d then option_map (λ (a : AnchorState). a) o else option_map (λ (a : AnchorState). a) (held k m.anchors)) ≡ (if d then active_of o else master_actives m k)
      by true = ap active_of (same_map o)
      by false = ap active_of (same_map (held k m.anchors))

  put_lasts : (m : MasterNode) (id : ℕ) (o : Option AnchorState) → Ascends m.anchors → Lasts D (with_active id (active_of o) (master_actives m)) (master_actives (with_anchor m id o))
  put_lasts m id o up k g at = inl (put_is m id k o up ∙ at)

  again_lasts : (m : MasterNode) (id : ℕ) (x y : AnchorState) → held id m.anchors ≡ Some y → active_of (Some x) ≡ active_of (Some y) → Lasts D (master_actives m) (master_actives (with_anchor m id (Some x)))
  again_lasts m id x y at same k g is =
      inl (sym (flat_is (held k (holding id (Some x) m.anchors))) ∙ ap (λ (o : Option (Option ℕ)). flat o) (seen_again (λ (z : AnchorState). active_of (Some z)) id k x y m.anchors at same) ∙ flat_is (held k m.anchors) ∙ is)
    where
      flat : Option (Option ℕ) → Option ℕ
      flat None = None
      flat (Some o) = o

      flat_is : (o : Option AnchorState) → flat (option_map (λ (z : AnchorState). active_of (Some z)) o) ≡ active_of o
      flat_is None = refl
      flat_is (Some z) = refl

  -- ---- windows

  by_window : (m : MasterNode) (id count : ℕ) (o : Option Window) → Ascends m.anchors → MasterLasts m (window_told m id count o)
  by_window m id count None up = idle m up
  by_window m id count (Some w) up =
      either (MasterLasts m) (nat_lt w.told count) (record m { windows = holding id (Some (record w { told = count })) m.windows }, noted (note.Freed id Dl count)) (m, quiet)
      (record { up = up; lasts = lasts_itself D (master_actives m) }) (idle m up)

  by_low : (m : MasterNode) (id : ℕ) (o : Option ℕ) → Ascends m.anchors → MasterLasts m (low_rises m id o)
  by_low m id None up = idle m up
  by_low m id (Some count) up = by_window m id count (held id m.windows) up

  by_told : (m : MasterNode) (id g count : ℕ) (o : Option Row) → Ascends m.anchors → MasterLasts m (told_by m id g count o)
  by_told m id g count None up = idle m up
  by_told m id g count (Some r) up = either (MasterLasts m) (nat_lt g r.est) (m, quiet) (window_told m id count (held id m.windows)) (idle m up) (by_window m id count (held id m.windows) up)

  -- ---- anchors

  -- what an anchor did, where these are active before
  did_lasts : (m : MasterNode) (id : ℕ) (done : AnchorState × AnchorOut) (a : Actives) → Ascends m.anchors → Lasts D a (master_actives (with_anchor m id (Some done.0)))
      → LastsOver D a (anchor_did m id done).1.notes (master_actives (anchor_did m id done).0) × Ascends (anchor_did m id done).0.anchors
  did_lasts m id done a up more =
      let m' = with_anchor m id (Some done.0) in
      let low = by_low m' id done.1.low (ascends_with 0 id done.0 m.anchors (omega arith) up) in (
        over_then D a (master_actives m') (master_actives (low_rises m' id done.1.low).0) (handed_up M id Ul done.1.ups) (low_rises m' id done.1.low).1.notes
            (subst (λ z. Lasts D z (master_actives m')) (sym (hands_still M id done.1.ups a)) more) low.lasts,
        low.up,
      )

  -- an anchor that does not adopt
  stays_last : (m : MasterNode) (id : ℕ) (s : AnchorState) (done : AnchorState × AnchorOut) → Ascends m.anchors → held id m.anchors ≡ Some s → active_of (Some done.0) ≡ active_of (Some s) → MasterLasts m (anchor_did m id done)
  stays_last m id s done up at same = let is = did_lasts m id done (master_actives m) up (again_lasts m id done.0 s at same) in record { up = is.1; lasts = is.0 }

  on_anchor_lasts : (m : MasterNode) (id : ℕ) (f : AnchorState → AnchorState × AnchorOut) (o : Option AnchorState) → ((s : AnchorState) → Stays s (f s)) → Ascends m.anchors → held id m.anchors ≡ o → MasterLasts m (on_anchor m id f o)
  on_anchor_lasts m id f None stays up at = idle m up
  on_anchor_lasts m id f (Some s) stays up at = stays_last m id s (f s) up at (stays s).active

  on_anchor_of_lasts : (m : MasterNode) (g : ℕ) (f : AnchorState → AnchorState × AnchorOut) (id : ℕ) (o : Option AnchorState) → ((s : AnchorState) → Stays s (f s)) → Ascends m.anchors → held id m.anchors ≡ o → MasterLasts m (on_anchor_of m g f id o)
  on_anchor_of_lasts m g f id None stays up at = idle m up
  on_anchor_of_lasts m g f id (Some s) stays up at =
      either (MasterLasts m) ((setup_at s).g == g) (anchor_did m id (f s)) (m, quiet) (stays_last m id s (f s) up at (stays s).active) (idle m up)

  each_lasts : {X : Type 0} (P : X → Type 0) (f : MasterNode → X → MasterNode × Effects) → ((m : MasterNode) (x : X) → P x → Ascends m.anchors → MasterLasts m (f m x)) → (m : MasterNode) (xs : List X) → AllByRecursion P xs → Ascends m.anchors → MasterLasts m (in_turn f m xs)
  each_lasts P f each m [] all up = idle m up
  each_lasts P f each m (x ∷ xs) all up = let one = each m x all.0 up in master_then m (f m x).0 (f m x).1 (in_turn f (f m x).0 xs) one (each_lasts P f each (f m x).0 xs all.1 one.up)

  none_asked : {X : Type 0} (xs : List X) → AllByRecursion (λ (x : X). ⊤) xs
  none_asked [] = tt
  none_asked (x ∷ xs) = (tt, none_asked xs)

  -- ---- a plan

  owned_lasts : (m : MasterNode) (id g : ℕ) (o : Option AnchorState) → Ascends m.anchors → active_of o ≡ Some g → MasterLasts m (owned m id g o)
  owned_lasts m id g o up is = record {
    up = ascends_put id o m.anchors up;
    lasts = subst (λ z. Lasts D (with_active id z (master_actives m)) (master_actives (with_anchor m id o))) is (put_lasts m id o up);
  }

  -- what was there is dropped
  silent_lasts : (m : MasterNode) (id : ℕ) (o : Option AnchorState) → Ascends m.anchors → D id → MasterLasts m (with_anchor m id o, quiet)
  silent_lasts m id o up gone = record {
    up = ascends_put id o m.anchors up;
    lasts = λ k g at. by k g at (id == k) refl;
  }
    where
      by : (k g : ℕ) → master_actives m k ≡ Some g → (d : Bool) → (id == k) ≡ d → (master_actives (with_anchor m id o) k ≡ Some g) ⊎ D k
      by k g at true here = inr (subst D (eqb-true id k here) gone)
      by k g at false apart = inl (put_is m id k o up ∙ ap (λ d. if d then active_of o else master_actives m k) apart ∙ at)

  begins_active : (m : MasterNode) (p : Plan) (i : Item) → part_at M p.sec i ≡ establishes → active_of (option_map fresh (master_setup m p i)) ≡ Some p.g
  begins_active m p (item.Set j n first shape threshold policy name old) is = refl
  begins_active m p (item.Unset j) is = absurd cc

  setup_g : (m : MasterNode) (p : Plan) (i : Item) (st : Setup) → master_setup m p i ≡ Some st → st.g ≡ p.g
  setup_g m p (item.Set j n first shape threshold policy name old) st is = sym (ap (λ (o : Option Setup). g_of o) is)
    where
      g_of : Option Setup → ℕ
      g_of None = p.g
      g_of (Some z) = z.g
  setup_g m p (item.Unset j) st is = absurd (let bad : None ≡ Some st = is in cc)

  renews_last : (m : MasterNode) (id g : ℕ) (o : Option Setup) (s : Option AnchorState) → Ascends m.anchors → ((st : Setup) → o ≡ Some st → st.g ≡ g) → MasterLasts m (renewed_here m id g o s)
  renews_last m id g None s up same = idle m up
  renews_last m id g (Some st) None up same = idle m up
  renews_last m id g (Some st) (Some (waiting_anchor w)) up same = idle m up
  renews_last m id g (Some st) (Some (active_anchor a)) up same = owned_lasts m id g (Some (active_anchor (renew a st))) up (ap (λ z. Some z) (same st refl))

  frozen_lasts : (m : MasterNode) (id g : ℕ) (to : Node) (o : Option AnchorState) → Ascends m.anchors → MasterLasts m (frozen_here m id g to o)
  frozen_lasts m id g to None up = idle m up
  frozen_lasts m id g to (Some (waiting_anchor w)) up = idle m up
  frozen_lasts m id g to (Some (active_anchor a)) up = record { up = ascends_put id None m.anchors up; lasts = put_lasts m id None up }

  part_lasts : (m : MasterNode) (p : Plan) (i : Item) (part : Part) → part_at M p.sec i ≡ part → (part ≡ drops → D (item_id i)) → Ascends m.anchors → MasterLasts m (master_part m p i part)
  part_lasts m p i establishes is lets up = owned_lasts m (item_id i) p.g (option_map fresh (master_setup m p i)) up (begins_active m p i is)
  part_lasts m p i renews is lets up = renews_last m (item_id i) p.g (master_setup m p i) (held (item_id i) m.anchors) up (setup_g m p i)
  part_lasts m p i awaits is lets up = idle m up
  part_lasts m p i (hands_over to) is lets up = frozen_lasts m (item_id i) p.g to (held (item_id i) m.anchors) up
  part_lasts m p i drops is lets up = silent_lasts m (item_id i) None up (lets refl)
  part_lasts m p i has_no_anchor is lets up = idle m up

  end_silent : (g id : ℕ) (new old : Node) → (line_end g id new old).notes ≡ []
  end_silent g id new M = refl
  end_silent g id new T = refl
  end_silent g id new A = either (λ (x : Effects). x.notes ≡ []) (is_same_node new A) _ _ refl refl
  end_silent g id new B = either (λ (x : Effects). x.notes ≡ []) (is_same_node new B) _ _ refl refl

  ends_silent : (g : ℕ) (sec : Option Node) (i : Item) → (line_ends g sec i).notes ≡ []
  ends_silent g sec (item.Set id n first shape threshold policy key None) = refl
  ends_silent g sec (item.Set id n first shape threshold policy key (Some old)) = end_silent g id (anchor_at sec shape) old
  ends_silent g sec (item.Unset id) = refl

  item_lasts : (p : Plan) (m : MasterNode) (i : Item) → GoesLet p.sec i → Ascends m.anchors → MasterLasts m (carries_item p m i)
  item_lasts p m i lets up =
      let k = with_host_and_window p m i in
      master_then m k (line_ends p.g p.sec i) (master_part k p i (part_at M p.sec i)) (same_anchors m k (line_ends p.g p.sec i) refl (ends_silent p.g p.sec i) up) (part_lasts k p i (part_at M p.sec i) refl lets up)

  prepares_last : (m : MasterNode) (p : Plan) (i : Item) (part : Part) → (part ≡ awaits → D (item_id i)) → Ascends m.anchors → MasterLasts m (prepares_part m p i part)
  prepares_last m p i establishes lets up = idle m up
  prepares_last m p i renews lets up = idle m up
  prepares_last m p i awaits lets up = silent_lasts m (item_id i) (option_map waiting (master_setup m p i)) up (lets refl)
  prepares_last m p i (hands_over to) lets up = idle m up
  prepares_last m p i drops lets up = idle m up
  prepares_last m p i has_no_anchor lets up = idle m up

  -- ---- acts

  without_lasts : (m : MasterNode) → Ascends m.anchors → Lasts D (master_actives m) (master_actives (without_waiting m))
  without_lasts m up k g is = inl (ap active_of (held_some (λ a. not (is_waiting a)) 0 k m.anchors up) ∙ by (held k m.anchors) is)
    where
      by : (o : Option AnchorState) → active_of o ≡ Some g → active_of (kept_by (λ a. not (is_waiting a)) o) ≡ Some g
      by None at = at
      by (Some (waiting_anchor w)) at = absurd (let bad : None ≡ Some g = at in cc)
      by (Some (active_anchor a)) at = at

  says_last : (m : MasterNode) (n : Note) → is_of_anchor n ≡ false → Ascends m.anchors → MasterLasts m (says m n)
  says_last m n none up =
      either (λ (m' : MasterNode). MasterLasts m (m', noted n)) (is_rejection n) (without_waiting m) m
      (record { up = ascends_some (λ a. not (is_waiting a)) 0 m.anchors up; lasts = subst (λ z. Lasts D z (master_actives (without_waiting m))) (sym (still n (master_actives m) none)) (without_lasts m up) })
      (record { up = up; lasts = subst (λ z. Lasts D z (master_actives m)) (sym (still n (master_actives m) none)) (lasts_itself D (master_actives m)) })

  act_lasts : (c : Choices) (m : MasterNode) (a : Act) → ActLets a → SaysPlain a → Ascends m.anchors → MasterLasts m (master_act c m a)
  act_lasts c m (send to r) lets plain up = same_anchors m m _ refl refl up
  act_lasts c m (prepare p) lets plain up = each_lasts (PreparesLet p.sec) (prepares_item p) (λ n i let' above. prepares_last n p i (part_at M p.sec i) let' above) m p.items lets up
  act_lasts c m (go p) lets plain up = each_lasts (GoesLet p.sec) (carries_item p) (item_lasts p) m p.items lets up
  act_lasts c m (unlock_all g) lets plain up =
      each_lasts (λ (id : ℕ). ⊤) (λ n id. on_anchor_of n g (unlock c) id (held id n.anchors)) (λ n id asked above. on_anchor_of_lasts n g (unlock c) id (held id n.anchors) (unlock_stays c) above refl) m (identities m.anchors)
      (none_asked (identities m.anchors)) up
  act_lasts c m (say n) lets plain up = says_last m n plain up
  act_lasts c m (recover_one id) lets plain up = on_anchor_lasts m id (recover c) (held id m.anchors) (recover_stays c) up refl
  act_lasts c m (fail_one id g) lets plain up = on_anchor_of_lasts m g (fail_scg c) id (held id m.anchors) (fail_stays c) up refl
  act_lasts c m (pass st) lets plain up = idle m up

  acts_last : (c : Choices) (m : MasterNode) (acts : List Act) → ActsLet acts → SayPlain acts → Ascends m.anchors → MasterLasts m (in_turn (master_act c) m acts)
  acts_last c m [] lets plain up = idle m up
  acts_last c m (a ∷ acts) lets plain up =
      let one = act_lasts c m a lets.0 plain.0 up in
      master_then m (master_act c m a).0 (master_act c m a).1 (in_turn (master_act c) (master_act c m a).0 acts) one (acts_last c (master_act c m a).0 acts lets.1 plain.1 one.up)

  does_last : (c : Choices) (m : MasterNode) (r : MasterActs) → ActsLet r.1 → SayPlain r.1 → Ascends m.anchors → MasterLasts m (does c m r)
  does_last c m r lets plain up = let is = acts_last c (record m { proc = r.0 }) r.1 lets plain up in record { up = is.up; lasts = is.lasts }

  -- ---- the anchor may adopt

  -- what the procedures have the master do once an anchor adopted its bearer
  abbrev pub AdoptsLet : MasterNode → ℕ → Type 0
  AdoptsLet m id = ActsLet (master_adopted m.proc id).1

  low_proc : (m : MasterNode) (id : ℕ) (o : Option ℕ) → (low_rises m id o).0.proc ≡ m.proc
  low_proc m id None = refl
  low_proc m id (Some count) = by (held id m.windows)
    where
      by : (o : Option Window) → (window_told m id count o).0.proc ≡ m.proc
      by None = refl
      by (Some w) = either (λ (z : MasterNode × Effects). z.0.proc ≡ m.proc) (nat_lt w.told count) (record m { windows = holding id (Some (record w { told = count })) m.windows }, noted (note.Freed id Dl count)) (m, quiet) refl refl

  adopts_last : (c : Choices) (m : MasterNode) (id g : ℕ) (done : MasterNode × Effects) → ActsLet (master_adopted done.0.proc id).1 → LastsOver D (with_active id (Some g) (master_actives m)) done.1.notes (master_actives done.0) → Ascends done.0.anchors
      → MasterLasts m (after_effects (both (noted (note.Own M id g)) done.1) (does c done.0 (master_adopted done.0.proc id)))
  adopts_last c m id g done lets lasts up =
      let r = master_adopted done.0.proc id in
      let more = does_last c done.0 r lets (adopted_says id done.0.proc done.0.proc.command) up in
      record {
        up = more.up;
        lasts = over_then D (with_active id (Some g) (master_actives m)) (master_actives done.0) (master_actives (does c done.0 r).0) done.1.notes (does c done.0 r).1.notes lasts more.lasts;
      }

  waiting_lasts : (c : Choices) (m : MasterNode) (id : ℕ) (s : AnchorState) (done : AnchorState × AnchorOut) → AdoptsLet m id → Steps s done → Ascends m.anchors → held id m.anchors ≡ Some s → MasterLasts m (adopts_if c id (setup_at s).g done.1.adopted (anchor_did m id done))
  waiting_lasts c m id s done lets (goes_on stays active ups) up at =
      subst (λ b. MasterLasts m (adopts_if c id (setup_at s).g b (anchor_did m id done))) (sym stays) (stays_last m id s done up at active)
  waiting_lasts c m id s done lets (takes_over adopts active same) up at =
      let now = with_active id (Some (setup_at s).g) (master_actives m) in
      let is = did_lasts m id done now up (subst (λ z. Lasts D (with_active id z (master_actives m)) (master_actives (with_anchor m id (Some done.0)))) active (put_lasts m id (Some done.0) up)) in
      subst (λ b. MasterLasts m (adopts_if c id (setup_at s).g b (anchor_did m id done))) (sym adopts)
      (adopts_last c m id (setup_at s).g (anchor_did m id done) (subst (λ z. ActsLet (master_adopted z id).1) (sym (low_proc (with_anchor m id (Some done.0)) id done.1.low)) lets) is.0 is.1)

  on_waiting_lasts : (c : Choices) (m : MasterNode) (id : ℕ) (f : AnchorState → AnchorState × AnchorOut) (o : Option AnchorState) → AdoptsLet m id → ((s : AnchorState) → Steps s (f s)) → Ascends m.anchors → held id m.anchors ≡ o → MasterLasts m (on_waiting c m id f o)
  on_waiting_lasts c m id f None lets steps up at = idle m up
  on_waiting_lasts c m id f (Some s) lets steps up at = waiting_lasts c m id s (f s) lets (steps s) up at

  did_one : (c : Choices) (m : MasterNode) (a : Act) → IsPassless a → ActLets a → SaysPlain a → Ascends m.anchors → MasterLasts m (master_did c m a)
  did_one c m (send to r) passless lets plain up = act_lasts c m (send to r) lets plain up
  did_one c m (prepare p) passless lets plain up = act_lasts c m (prepare p) lets plain up
  did_one c m (go p) passless lets plain up = act_lasts c m (go p) lets plain up
  did_one c m (unlock_all g) passless lets plain up = act_lasts c m (unlock_all g) lets plain up
  did_one c m (say n) passless lets plain up = act_lasts c m (say n) lets plain up
  did_one c m (recover_one id) passless lets plain up = act_lasts c m (recover_one id) lets plain up
  did_one c m (fail_one id g) passless lets plain up = act_lasts c m (fail_one id g) lets plain up
  did_one c m (pass st) passless lets plain up = absurd passless

  did_all : (c : Choices) (m : MasterNode) (acts : List Act) → AllByRecursion IsPassless acts → ActsLet acts → SayPlain acts → Ascends m.anchors → MasterLasts m (in_turn (master_did c) m acts)
  did_all c m [] passless lets plain up = idle m up
  did_all c m (a ∷ acts) passless lets plain up =
      let one = did_one c m a passless.0 lets.0 plain.0 up in
      master_then m (master_did c m a).0 (master_did c m a).1 (in_turn (master_did c) (master_did c m a).0 acts) one (did_all c (master_did c m a).0 acts passless.1 lets.1 plain.1 one.up)

  did_pass : (c : Choices) (m : MasterNode) (st : StatusTransfer) → AdoptsLet m st.id → Ascends m.anchors → MasterLasts m (in_turn (master_did c) m (pass st ∷ []))
  did_pass c m st lets up =
      let done = on_waiting c m st.id (λ a. status_in c a st) (held st.id m.anchors) in
      let one = on_waiting_lasts c m st.id (λ a. status_in c a st) (held st.id m.anchors) lets (λ a. status_steps c a st) up refl in
      master_then m done.0 done.1 (done.0, quiet) one (idle done.0 one.up)

  -- ---- inputs

  by_record : (c : Choices) (m : MasterNode) (r : Result MasterActs ProcFault) → TakesLet r → TakesPlain r → Ascends m.anchors → MasterLasts m (record_taken c m r)
  by_record c m (Ok r) (inl lets) plain up = let is = did_all c (record m { proc = r.0 }) r.1 lets.1 lets.0 plain up in record { up = is.up; lasts = is.lasts }
  by_record c m (Ok r) (inr (st, one, lets)) plain up =
      let is = did_pass c (record m { proc = r.0 }) st lets up in
      subst (λ acts. MasterLasts m (in_turn (master_did c) (record m { proc = r.0 }) acts)) (sym one) (record { up = is.up; lasts = is.lasts })
  by_record c m (Err why) lets plain up = idle m up

  -- what comes of an outcome
  abbrev pub Lasting : MasterNode → MasterNode × Outcome → Type 0
  Lasting m done = MasterLasts m (done.0, record { notes = done.1.notes; sends = done.1.sends })

  by_commanded : (c : Choices) (m : MasterNode) (r : Result MasterActs ProcFault) → OrderLets r → TakesPlain r → Ascends m.anchors → Lasting m (commanded c m r)
  by_commanded c m (Ok r) lets plain up = does_last c m r lets plain up
  by_commanded c m (Err (refused why)) lets plain up = idle m up
  by_commanded c m (Err (unexpected k)) lets plain up = idle m up

  by_to_anchor : (c : Choices) (m : MasterNode) (id g : ℕ) (payload : List ℕ) (x : Node) → Ascends m.anchors → MasterLasts m (to_anchor_at c m id g payload x)
  by_to_anchor c m id g payload M up = on_anchor_lasts m id (λ a. submit c a payload) (held id m.anchors) (λ a. submit_stays c a payload) up refl
  by_to_anchor c m id g payload A up = same_anchors m m _ refl refl up
  by_to_anchor c m id g payload B up = same_anchors m m _ refl refl up
  by_to_anchor c m id g payload T up = idle m up

  by_unless : (c : Choices) (m : MasterNode) (id : ℕ) (payload : List ℕ) (r : Row) (w : Window) (o : Option Refusal) → Ascends m.anchors → Lasting m (unless m o (to_anchor_at c (with_accepted m id w) id r.g payload r.anchor))
  by_unless c m id payload r w (Some why) up = idle m up
  by_unless c m id payload r w None up = let is = by_to_anchor c (with_accepted m id w) id r.g payload r.anchor up in record { up = is.up; lasts = is.lasts }

  by_submitted_to : (c : Choices) (m : MasterNode) (id : ℕ) (payload : List ℕ) (r : Row) (o : Option Window) → Ascends m.anchors → Lasting m (submitted_to c m id payload r o)
  by_submitted_to c m id payload r None up = idle m up
  by_submitted_to c m id payload r (Some w) up = by_unless c m id payload r w (first_refusal (submit_refusals r w)) up

  by_submitted : (c : Choices) (m : MasterNode) (id : ℕ) (payload : List ℕ) (o : Option Row) → Ascends m.anchors → Lasting m (submitted c m id payload o)
  by_submitted c m id payload None up = idle m up
  by_submitted c m id payload (Some r) up = by_submitted_to c m id payload r (held id m.windows) up

  by_report : (c : Choices) (m : MasterNode) (id : ℕ) (b : Bool) → Ascends m.anchors → Lasting m (report_asked c m id b)
  by_report c m id false up = idle m up
  by_report c m id true up = on_anchor_lasts m id (report c) (held id m.anchors) (report_stays c) up refl

  by_host : (m : MasterNode) (id : ℕ) (f : Host → Host × List Send) (o : Option Host) → Ascends m.anchors → MasterLasts m (on_host m id f o)
  by_host m id f None up = idle m up
  by_host m id f (Some h) up = same_anchors m _ _ refl refl up

  by_data : (c : Choices) (m : MasterNode) (f : AnchorState → AnchorState × AnchorOut) (h : Host → Host × List Send) (o : Option Named) → ((id : ℕ) → AdoptsLet m id) → ((s : AnchorState) → Steps s (f s)) → Ascends m.anchors → MasterLasts m (data_taken c m f h o)
  by_data c m f h None lets steps up = idle m up
  by_data c m f h (Some (id, g)) lets steps up =
      either (MasterLasts m) (is_anchor_of g (held id m.anchors)) (on_waiting c m id f (held id m.anchors)) (on_host m id h (held id m.hosts))
      (on_waiting_lasts c m id f (held id m.anchors) (lets id) steps up refl) (by_host m id h (held id m.hosts) up)

  by_line : (m : MasterNode) (f : Flight) → Ascends m.anchors → MasterLasts m (line_taken m f)
  by_line m (flight.Told id g count) up = by_told m id g count (row m.proc.table id) up
  by_line m f up = idle m up

  -- ---- what the procedures answer

  -- so whatever the master takes: a command, a record, or what an anchor may adopt by
  pub record InputLets (c : Choices) (m : MasterNode) (i : Input) : Type 0 where
    pub orders : (e : Event) → i ≡ Cmd e → OrderLets (master_command (length c.policies) m.proc e)
    pub takes : (l : LinkId) (r : Rec) → i ≡ Come l (flight.Ctl r) → TakesLet (master_take l.from m.proc r)
    pub adopts : (id : ℕ) → AdoptsLet m id

  by_command : (c : Choices) (m : MasterNode) (e : Event) → OrderLets (master_command (length c.policies) m.proc e) → Ascends m.anchors → Lasting m (command_taken c m e)
  by_command c m e lets up = by_commanded c m (commands_unless m.proc e (first_refusal (command_refusals (length c.policies) m.proc e))) lets (commands_says m.proc e (first_refusal (command_refusals (length c.policies) m.proc e))) up

  by_event : (c : Choices) (m : MasterNode) (e : Event) → OrderLets (master_command (length c.policies) m.proc e) → Ascends m.anchors → Lasting m (master_event c m e)
  by_event c m (event.Bearer id n first shape threshold policy) lets up = by_command c m (event.Bearer id n first shape threshold policy) lets up
  by_event c m (event.Reshape id shape) lets up = by_command c m (event.Reshape id shape) lets up
  by_event c m (event.Remove id) lets up = by_command c m (event.Remove id) lets up
  by_event c m (event.Add node) lets up = by_command c m (event.Add node) lets up
  by_event c m event.Change lets up = by_command c m event.Change lets up
  by_event c m event.Release lets up = by_command c m event.Release lets up
  by_event c m event.RekeySecond lets up = by_command c m event.RekeySecond lets up
  by_event c m (event.RekeyMaster root) lets up = by_command c m (event.RekeyMaster root) lets up
  by_event c m (event.Recover id) lets up = by_command c m (event.Recover id) lets up
  by_event c m (event.Report node id) lets up = by_report c m id (has_bearer m.proc id) up
  by_event c m (event.Submit id d payload) lets up = by_submitted c m id payload (settled_row m id) up
  by_event c m e lets up = idle m up

  by_class : (c : Choices) (m : MasterNode) (from : Node) (f : Flight) (k : Class) → ((r : Rec) → f ≡ flight.Ctl r → TakesLet (master_take from m.proc r)) → ((id : ℕ) → AdoptsLet m id) → Ascends m.anchors → MasterLasts m (master_takes c m from f k)
  by_class c m from (flight.Ctl r) Ctl takes adopts up = by_record c m (master_take from m.proc r) (takes r refl) (take_says from m.proc r) up
  by_class c m from f Ctl takes adopts up = idle m up
  by_class c m from f Feed takes adopts up = by_line m f up
  by_class c m from f Air takes adopts up = by_data c m (λ a. air_in a cell.Mcg f) (λ h. host_air_in h f) (flight_named f) adopts (λ a. air_steps a cell.Mcg f) up
  by_class c m from f Tun takes adopts up = by_data c m (λ a. tunnel_in c a f) (λ h. host_tunnel_in h f) (flight_named f) adopts (λ a. tunnel_steps c a f) up

  -- whatever the master takes, what it notes leaves no other anchors active than it has after it, but for what its plan drops
  pub master_lasts : (c : Choices) (m : MasterNode) (i : Input) → InputLets c m i → Ascends m.anchors → Lasting m (master_step c m i)
  master_lasts c m (Cmd e) lets up = by_event c m e (lets.orders e refl) up
  master_lasts c m (Come l f) lets up = by_class c m l.from f l.class (λ r is. lets.takes l r (ap (Come l) is)) lets.adopts up
