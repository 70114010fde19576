-- What a secondary node notes in a step leaves no other anchors active than the node has after it, but for those that its plan drops.
use Rattle.std.proofs.Common.{ℕ, ◌≡◌, ◌==◌, ◌++◌, ◌∙◌, Bool, true, false, List, [], ◌∷◌, Option, Some, None, refl, sym, ap, subst, arith, inl, inr}
use Rattle.std.specs.List.{AllByRecursion}
use Rattle.std.specs.Option.{option_map}
use Rattle.std.specs.Prelude.{Err, Ok, Result, if◌then◌else◌, is_none, is_some, nat_lt, not, ⊤, ◌&&◌, ◌⊎◌}
use Rattle.dc_base.specs.Records.{item_id}
use Rattle.dc_base.specs.declared.answers.Refusal.{Refusal}
use Rattle.dc_base.specs.declared.events.Event.{Event}
use Rattle.dc_base.specs.declared.events.Event.TheVariants as event
use Rattle.dc_base.specs.declared.flights.Flight.{Flight}
use Rattle.dc_base.specs.declared.flights.Flight.TheVariants as flight
use Rattle.dc_base.specs.declared.nodes.Cell.TheVariants as cell
use Rattle.dc_base.specs.declared.nodes.Class.{Class}
use Rattle.dc_base.specs.declared.nodes.Class.TheVariants.{Air, Ctl, Feed, Tun}
use Rattle.dc_base.specs.declared.nodes.Dir.TheVariants.{Ul}
use Rattle.dc_base.specs.declared.nodes.Node.{Node}
use Rattle.dc_base.specs.declared.nodes.Want.TheVariants as want
use Rattle.dc_base.specs.declared.records.Item.{Item}
use Rattle.dc_base.specs.declared.records.Item.TheVariants as item
use Rattle.dc_base.specs.declared.records.Plan.{Plan}
use Rattle.dc_base.specs.declared.records.Rec.{Rec}
use Rattle.dc_base.specs.declared.records.Rec.TheVariants as rec
use Rattle.dc_base.specs.declared.records.RecKind.TheVariants as kind
use Rattle.node_rules.specs.Acts.{ProcFault, first_refusal}
use Rattle.node_rules.specs.Adopting.{status_in}
use Rattle.node_rules.specs.Anchor.{Active, AnchorState, active_anchor, fresh, renew, setup_at, silent, waiting, waiting_anchor}
use Rattle.node_rules.specs.AnchorReceiving.{air_in, tunnel_in}
use Rattle.node_rules.specs.AnchorSending.{fail_scg, recover, report, submit, unlock}
use Rattle.node_rules.specs.Choices.{Choices, Send}
use Rattle.node_rules.specs.Effects.{after_effects, in_turn, quiet}
use Rattle.node_rules.specs.Feed.{Fed, Frozen, end_in, sdu_in}
use Rattle.node_rules.specs.Flights.{Named, flight_named}
use Rattle.node_rules.specs.Held.{held, holding, identities}
use Rattle.node_rules.specs.Host.{Host}
use Rattle.node_rules.specs.HostRules.{host_air_in, host_tunnel_in}
use Rattle.node_rules.specs.Master.{handed_up}
use Rattle.node_rules.specs.Parts.{host_at, part_at}
use Rattle.node_rules.specs.SecondPlan.{beginning, frozen_active, frozen_there, owned_there, renewed_active, renewed_there, second_act, second_item, second_part, with_fed}
use Rattle.node_rules.specs.SecondRecords.{added, is_one_drop, is_wanted, key_confirmed, leave_confirmed, let_off, modified, refused_there, release_needless, second_take}
use Rattle.node_rules.specs.SecondState.{SecondActs, SecondProc, second_commands, second_commands_unless, second_refusals}
use Rattle.node_rules.specs.SecondStep.{fed_ended, fed_took, frozen_ended, frozen_took, is_before_change, is_fit, key_in, on_second_host, second_commanded, second_control, second_data, second_event, second_line, second_record, second_record_taken, second_report, second_step, second_takes}
use Rattle.node_rules.specs.Secondary.{SecondNode, active_at, active_in, adopted_there, anchored, fed_did, is_fed_of, low_told, name_of, on_fed, on_fed_of, second_effects, within}
use Rattle.node_rules.specs.Setup.{Setup, setup_of}
use Rattle.node_rules.specs.declared.acts.Act.{Act}
use Rattle.node_rules.specs.declared.acts.Act.TheVariants.{FailOne as fail_one, Go as go, Pass as pass, Prepare as prepare, RecoverOne as recover_one, Say as say, Send as send, UnlockAll as unlock_all}
use Rattle.node_rules.specs.declared.bearers.AnchorOut.{AnchorOut}
use Rattle.node_rules.specs.declared.commands.Membership.{Membership}
use Rattle.node_rules.specs.declared.commands.Membership.TheVariants.{Joined as joined, Left as left, Outside as outside}
use Rattle.node_rules.specs.declared.inputs.Effects.{Effects}
use Rattle.node_rules.specs.declared.inputs.Input.{Input}
use Rattle.node_rules.specs.declared.inputs.Outcome.{Outcome}
use Rattle.node_rules.specs.declared.inputs.Input.TheVariants.{Cmd, Come}
use Rattle.node_rules.specs.declared.parts.Part.{Part}
use Rattle.node_rules.specs.declared.parts.Part.TheVariants.{Awaits as awaits, Drops as drops, Establishes as establishes, HandsOver as hands_over, HasNoAnchor as has_no_anchor, Renews as renews}
use Rattle.run_control.specs.Orders.{Ascends}
use Rattle.run_control.proofs.Ascending.{ascends_with}
use Rattle.run_control.proofs.Holding.{seen_again}
use Rattle.run_control.proofs.SecondItems.{ascends_put, seen_put}
use Rattle.std.proofs.lemmas.Bool.{eq-eqb, eqb-true}
use Rattle.std.specs.Prelude.{◌||◌}
use Rattle.std.specs.List.{list_any}
use Rattle.node_rules.specs.SecondState.{is_joined, second_commands}
use Rattle.node_rules.specs.SecondPlan.{second_does}
use Rattle.node_rules.specs.SecondStep.{plan_in}
use Rattle.run_control.specs.Steps.{record_in, record_on}
use Rattle.std.specs.Prelude.{fold}
use Rattle.run_pairs.specs.Bearers.{AreApart}
use Rattle.run_holders.specs.Actives.{Actives, active_of, note_actives, second_actives, with_active}
use Rattle.run_holders.proofs.AnchorSteps.{Steps, air_steps, either, fail_stays, goes_on, recover_stays, report_stays, status_steps, stays_steps, submit_stays, takes_over, tunnel_steps, unlock_stays}
use Rattle.run_holders.proofs.SecondTelling.{AnswersBeside, SaysBeside, take_says}
use Rattle.run_holders.proofs.SecondWellActs.{IsAmong}
use Rattle.run_keepers.specs.Lasting.{Lasts}
use Rattle.run_keepers.proofs.Lasting.{LastsOver, lasts_itself, over_then, still}

-- ---- what a plan and the acts have to meet

module _ (D : ℕ → Type 0) where
  -- what a part does away with is dropped; where an anchor is made that waits, none was active
  abbrev pub PartLets : Actives → ℕ → Part → Type 0
  PartLets a id drops = D id
  PartLets a id awaits = a id ≡ None
  PartLets a id establishes = ⊤
  PartLets a id renews = ⊤
  PartLets a id (hands_over to) = ⊤
  PartLets a id has_no_anchor = ⊤

  -- so does each item of a plan at the node, where no two are of one identity
  abbrev pub ItemsLet : Node → Actives → Option Node → List Item → Type 0
  ItemsLet me a sec items = (i : Item) → IsAmong i items → PartLets a (item_id i) (part_at me sec i)

  pub record PlanLets (me : Node) (a : Actives) (p : Plan) : Type 0 where
    pub apart : AreApart p.items
    pub items : ItemsLet me a p.sec p.items

  -- an act carries no plan out
  abbrev NoGo : Act → Type 0
  NoGo (go p) = ⊥
  NoGo (send to r) = ⊤
  NoGo (prepare p) = ⊤
  NoGo (unlock_all g) = ⊤
  NoGo (say n) = ⊤
  NoGo (recover_one id) = ⊤
  NoGo (fail_one id g) = ⊤
  NoGo (pass st) = ⊤

  -- one plan is carried out at most, before anything else is done to anchors
  abbrev ActsLet : Node → Actives → List Act → Type 0
  ActsLet me a [] = ⊤
  ActsLet me a (go p ∷ acts) = PlanLets me a p × AllByRecursion NoGo acts
  ActsLet me a (send to r ∷ acts) = ActsLet me a acts
  ActsLet me a (say n ∷ acts) = ActsLet me a acts
  ActsLet me a (prepare p ∷ acts) = AllByRecursion NoGo acts
  ActsLet me a (unlock_all g ∷ acts) = AllByRecursion NoGo acts
  ActsLet me a (recover_one id ∷ acts) = AllByRecursion NoGo acts
  ActsLet me a (fail_one id g ∷ acts) = AllByRecursion NoGo acts
  ActsLet me a (pass st ∷ acts) = AllByRecursion NoGo acts

  -- ---- what stays active in a step of the node

  -- the node stays itself, with its anchors in order, and what it notes leaves no other anchors active than it has
  pub record SecondLasts (s : SecondNode) (done : SecondNode × Effects) : Type 0 where
    pub name : name_of done.0 ≡ name_of s
    pub up : Ascends done.0.anchors
    pub lasts : LastsOver D (second_actives s) done.1.notes (second_actives done.0)

  second_then : (s mid : SecondNode) (x : Effects) (done : SecondNode × Effects) → SecondLasts s (mid, x) → SecondLasts mid done → SecondLasts s (after_effects x done)
  second_then s mid x done one two = record {
    name = two.name ∙ one.name;
    up = two.up;
    lasts = over_then D (second_actives s) (second_actives mid) (second_actives done.0) x.notes done.1.notes one.lasts two.lasts;
  }

  idle : (s : SecondNode) → Ascends s.anchors → SecondLasts s (s, quiet)
  idle s up = record { name = refl; up = up; lasts = lasts_itself D (second_actives s) }

  -- the active anchor of what is held
  abbrev fed_active : Option Fed → Option ℕ
  fed_active o = active_of (option_map (λ (x : Fed). x.anchor) o)

  put_is : (s : SecondNode) (id k : ℕ) (o : Option Fed) → Ascends s.anchors → second_actives (with_fed s id o) k ≡ with_active id (fed_active o) (second_actives s) k
  put_is s id k o up = ap active_of (seen_put (λ (x : Fed). x.anchor) id k o s.anchors up) ∙ by (id == k)
    where
      by : (d : Bool) → active_of (if d then option_map (λ (x : Fed). x.anchor) o else option_map (λ (x : Fed). x.anchor) (held k s.anchors)) ≡ (if d then fed_active o else second_actives s k)
      by true = refl
      by false = refl

  put_lasts : (s : SecondNode) (id : ℕ) (o : Option Fed) → Ascends s.anchors → Lasts D (with_active id (fed_active o) (second_actives s)) (second_actives (with_fed s id o))
  put_lasts s id o up k g at = inl (put_is s id k o up ∙ at)

  put_other : (s : SecondNode) (id k : ℕ) (o : Option Fed) → (id == k) ≡ false → Ascends s.anchors → second_actives (with_fed s id o) k ≡ second_actives s k
  put_other s id k o apart up = put_is s id k o up ∙ ap (λ d. if d then fed_active o else second_actives s k) apart

  -- ---- an anchor with its line

  -- it is held as it was, as far as it is active
  again_is : (s : SecondNode) (id : ℕ) (x y : Fed) → held id s.anchors ≡ Some y → active_of (Some x.anchor) ≡ active_of (Some y.anchor) → (k : ℕ)
      → second_actives (with_fed s id (Some x)) k ≡ second_actives s k
  again_is s id x y at same k =
      sym (flat_is (held k (holding id (Some x) s.anchors))) ∙ ap (λ (o : Option (Option ℕ)). flat o) (seen_again (λ (z : Fed). active_of (Some z.anchor)) id k x y s.anchors at same)
      ∙ flat_is (held k s.anchors)
    where
      flat : Option (Option ℕ) → Option ℕ
      flat None = None
      flat (Some o) = o

      flat_is : (o : Option Fed) → flat (option_map (λ (z : Fed). active_of (Some z.anchor)) o) ≡ active_of (option_map (λ (z : Fed). z.anchor) o)
      flat_is None = refl
      flat_is (Some z) = refl

  again_lasts : (s : SecondNode) (id : ℕ) (x y : Fed) → held id s.anchors ≡ Some y → active_of (Some x.anchor) ≡ active_of (Some y.anchor)
      → Lasts D (second_actives s) (second_actives (with_fed s id (Some x)))
  again_lasts s id x y at same k g is = inl (again_is s id x y at same k ∙ is)

  low_silent : (me : Node) (id g : ℕ) (o : Option ℕ) → (low_told me id g o).notes ≡ []
  low_silent me id g None = refl
  low_silent me id g (Some count) = refl

  -- what it notes
  notes_fold : (me : Node) (id g : ℕ) (out : AnchorOut) (b : Bool) (a : Actives) → out.adopted ≡ b
      → fold note_actives a (second_effects me id g out).notes ≡ fold note_actives (fold note_actives a (adopted_there me id g b).notes) (handed_up me id Ul out.ups ++ [])
  notes_fold me id g out b a is =
      ap (λ z. fold note_actives a ((z.notes ++ handed_up me id Ul out.ups) ++ (low_told me id g out.low).notes)) (ap (adopted_there me id g) is)
      ∙ ap (λ z. fold note_actives a (((adopted_there me id g b).notes ++ handed_up me id Ul out.ups) ++ z)) (low_silent me id g out.low) ∙ by b
    where
      by : (b' : Bool) → fold note_actives a (((adopted_there me id g b').notes ++ handed_up me id Ul out.ups) ++ []) ≡ fold note_actives (fold note_actives a (adopted_there me id g b').notes) (handed_up me id Ul out.ups ++ [])
      by false = refl
      by true = refl

  ups_still : (me : Node) (id : ℕ) (ups : List (ℕ × List ℕ)) (a : Actives) → fold note_actives a (handed_up me id Ul ups ++ []) ≡ a
  ups_still me id [] a = refl
  ups_still me id (u ∷ ups) a = ups_still me id ups a

  fed_lasts : (s : SecondNode) (id : ℕ) (x : Fed) (done : Fed × AnchorOut) → Ascends s.anchors → held id s.anchors ≡ Some x → Steps x.anchor (done.0.anchor, done.1) → SecondLasts s (fed_did s id done)
  fed_lasts s id x done up at (goes_on stays active ups) = record {
    name = refl;
    up = ascends_with 0 id done.0 s.anchors (omega arith) up;
    lasts = subst (λ z. Lasts D z (second_actives (with_fed s id (Some done.0))))
        (sym (notes_fold (name_of s) id (setup_at done.0.anchor).g done.1 false (second_actives s) stays ∙ ups_still (name_of s) id done.1.ups (second_actives s)))
        (again_lasts s id done.0 x at active);
  }
  fed_lasts s id x done up at (takes_over adopts active same) = record {
    name = refl;
    up = ascends_with 0 id done.0 s.anchors (omega arith) up;
    lasts =
        let g = (setup_at done.0.anchor).g in
        let own = with_active id (Some g) (second_actives s) in
        subst (λ z. Lasts D z (second_actives (with_fed s id (Some done.0))))
        (sym (notes_fold (name_of s) id g done.1 true (second_actives s) adopts ∙ ups_still (name_of s) id done.1.ups own))
        (subst (λ z. Lasts D (with_active id z (second_actives s)) (second_actives (with_fed s id (Some done.0)))) (active ∙ ap (λ z. Some z) (sym same)) (put_lasts s id (Some done.0) up));
  }

  on_fed_lasts : (s : SecondNode) (id : ℕ) (f : AnchorState → AnchorState × AnchorOut) (o : Option Fed) → ((a : AnchorState) → Steps a (f a)) → Ascends s.anchors → held id s.anchors ≡ o → SecondLasts s (on_fed s id f o)
  on_fed_lasts s id f None steps up at = idle s up
  on_fed_lasts s id f (Some x) steps up at = fed_lasts s id x (anchored x (f x.anchor)) up at (steps x.anchor)

  on_fed_of_lasts : (s : SecondNode) (g : ℕ) (f : AnchorState → AnchorState × AnchorOut) (id : ℕ) → ((a : AnchorState) → Steps a (f a)) → Ascends s.anchors → SecondLasts s (on_fed_of s g f id (held id s.anchors))
  on_fed_of_lasts s g f id steps up =
      either (SecondLasts s) (is_fed_of g (held id s.anchors)) (on_fed s id f (held id s.anchors)) (s, quiet) (on_fed_lasts s id f (held id s.anchors) steps up refl) (idle s up)

  each_lasts : {X : Type 0} (f : SecondNode → X → SecondNode × Effects) → ((s : SecondNode) (x : X) → Ascends s.anchors → SecondLasts s (f s x)) → (s : SecondNode) (xs : List X) → Ascends s.anchors → SecondLasts s (in_turn f s xs)
  each_lasts f each s [] up = idle s up
  each_lasts f each s (x ∷ xs) up =
      let one = each s x up in second_then s (f s x).0 (f s x).1 (in_turn f (f s x).0 xs) one (each_lasts f each (f s x).0 xs one.up)

  -- ---- a plan

  -- an anchor is put there and noted
  owned_lasts : (s : SecondNode) (id g : ℕ) (o : Option Fed) → Ascends s.anchors → fed_active o ≡ Some g → SecondLasts s (owned_there s id g o)
  owned_lasts s id g o up is = record {
    name = refl;
    up = ascends_put id o s.anchors up;
    lasts = subst (λ z. Lasts D (with_active id z (second_actives s)) (second_actives (with_fed s id o))) is (put_lasts s id o up);
  }

  -- or put there silently, where none was active, or what was is dropped
  silent_lasts : (s : SecondNode) (id : ℕ) (o : Option Fed) → Ascends s.anchors → (second_actives s id ≡ None) ⊎ D id → SecondLasts s (with_fed s id o, quiet)
  silent_lasts s id o up so = record {
    name = refl;
    up = ascends_put id o s.anchors up;
    lasts = λ k g at. by k g at (id == k) refl;
  }
    where
      gone : (k g : ℕ) → id ≡ k → second_actives s k ≡ Some g → (second_actives s id ≡ None) ⊎ D id → (second_actives (with_fed s id o) k ≡ Some g) ⊎ D k
      gone k g same at (inl none) = absurd (let bad : None ≡ Some g = sym (subst (λ z. second_actives s z ≡ None) same none) ∙ at in cc)
      gone k g same at (inr d) = inr (subst D same d)

      by : (k g : ℕ) → second_actives s k ≡ Some g → (d : Bool) → (id == k) ≡ d → (second_actives (with_fed s id o) k ≡ Some g) ⊎ D k
      by k g at true here = gone k g (eqb-true id k here) at so
      by k g at false apart = inl (put_other s id k o apart up ∙ at)

  renewed_lasts : (s : SecondNode) (id g : ℕ) (st : Setup) (x : Fed) (o : Option Active) → Ascends s.anchors → st.g ≡ g → SecondLasts s (renewed_active s id g st x o)
  renewed_lasts s id g st x None up same = idle s up
  renewed_lasts s id g st x (Some a) up same = owned_lasts s id g (Some (record x { anchor = active_anchor (renew a st) })) up (ap (λ z. Some z) same)

  renews_last : (s : SecondNode) (id g : ℕ) (o : Option Setup) (x : Option Fed) → Ascends s.anchors → ((st : Setup) → o ≡ Some st → st.g ≡ g) → SecondLasts s (renewed_there s id g o x)
  renews_last s id g None x up same = idle s up
  renews_last s id g (Some st) None up same = idle s up
  renews_last s id g (Some st) (Some x) up same = renewed_lasts s id g st x (active_in x.anchor) up (same st refl)

  setup_g : (me : Node) (p : Plan) (s : SecondNode) (key : List ℕ) (i : Item) (st : Setup) → setup_of me p s.alg key i ≡ Some st → st.g ≡ p.g
  setup_g me p s key (item.Set j n first shape threshold policy name old) st is = sym (ap (λ (o : Option Setup). g_of o) is)
    where
      g_of : Option Setup → ℕ
      g_of None = p.g
      g_of (Some z) = z.g
  setup_g me p s key (item.Unset j) st is = absurd (let bad : None ≡ Some st = is in cc)

  gives_last : (s : SecondNode) (id g : ℕ) (to : Node) (x : Fed) (o : Option Active) → Ascends s.anchors → SecondLasts s (frozen_active s id g to x o)
  gives_last s id g to x None up = idle s up
  gives_last s id g to x (Some a) up = record { name = refl; up = ascends_put id None s.anchors up; lasts = put_lasts s id None up }

  frozen_lasts : (s : SecondNode) (id g : ℕ) (to : Node) (o : Option Fed) → Ascends s.anchors → SecondLasts s (frozen_there s id g to o)
  frozen_lasts s id g to None up = idle s up
  frozen_lasts s id g to (Some x) up = gives_last s id g to x (active_in x.anchor) up

  -- a bearer that is new is set by its item
  begins_active : (s : SecondNode) (p : Plan) (me : Node) (key : List ℕ) (i : Item) → part_at me p.sec i ≡ establishes
      → fed_active (option_map (λ x. beginning p.g (fresh x)) (setup_of me p s.alg key i)) ≡ Some p.g
  begins_active s p me key (item.Set j n first shape threshold policy name old) is = refl
  begins_active s p me key (item.Unset j) is = absurd cc

  part_lasts : (key : List ℕ) (p : Plan) (s : SecondNode) (i : Item) (part : Part) → part_at (name_of s) p.sec i ≡ part → PartLets (second_actives s) (item_id i) part → Ascends s.anchors
      → SecondLasts s (second_part s p (setup_of (name_of s) p s.alg key i) (item_id i) part)
  part_lasts key p s i establishes is lets up =
      owned_lasts s (item_id i) p.g (option_map (λ x. beginning p.g (fresh x)) (setup_of (name_of s) p s.alg key i)) up (begins_active s p (name_of s) key i is)
  part_lasts key p s i renews is lets up = renews_last s (item_id i) p.g (setup_of (name_of s) p s.alg key i) (held (item_id i) s.anchors) up (setup_g (name_of s) p s key i)
  part_lasts key p s i awaits is lets up = silent_lasts s (item_id i) (option_map (λ x. beginning p.g (waiting x)) (setup_of (name_of s) p s.alg key i)) up (inl lets)
  part_lasts key p s i (hands_over to) is lets up = frozen_lasts s (item_id i) p.g to (held (item_id i) s.anchors) up
  part_lasts key p s i drops is lets up = silent_lasts s (item_id i) None up (inr lets)
  part_lasts key p s i has_no_anchor is lets up = idle s up

  item_lasts : (key : List ℕ) (p : Plan) (s : SecondNode) (i : Item) → PartLets (second_actives s) (item_id i) (part_at (name_of s) p.sec i) → Ascends s.anchors → SecondLasts s (second_item key p s i)
  item_lasts key p s i lets up =
      let s' : SecondNode = record s { hosts = holding (item_id i) (host_at (name_of s) p i) s.hosts } in
      let is = part_lasts key p s' i (part_at (name_of s) p.sec i) refl lets up in
      record { name = is.name; up = is.up; lasts = is.lasts }

  -- other bearers stay as they are
  renews_other : (s : SecondNode) (id k g : ℕ) (o : Option Setup) (x : Option Fed) → (id == k) ≡ false → Ascends s.anchors → second_actives (renewed_there s id g o x).0 k ≡ second_actives s k
  renews_other s id k g None x apart up = refl
  renews_other s id k g (Some st) None apart up = refl
  renews_other s id k g (Some st) (Some x) apart up = by (active_in x.anchor)
    where
      by : (o : Option Active) → second_actives (renewed_active s id g st x o).0 k ≡ second_actives s k
      by None = refl
      by (Some a) = put_other s id k (Some (record x { anchor = active_anchor (renew a st) })) apart up

  frozen_other : (s : SecondNode) (id k g : ℕ) (to : Node) (o : Option Fed) → (id == k) ≡ false → Ascends s.anchors → second_actives (frozen_there s id g to o).0 k ≡ second_actives s k
  frozen_other s id k g to None apart up = refl
  frozen_other s id k g to (Some x) apart up = by (active_in x.anchor)
    where
      by : (o : Option Active) → second_actives (frozen_active s id g to x o).0 k ≡ second_actives s k
      by None = refl
      by (Some a) = put_other s id k None apart up

  part_other : (p : Plan) (s : SecondNode) (st : Option Setup) (id k : ℕ) (part : Part) → (id == k) ≡ false → Ascends s.anchors → second_actives (second_part s p st id part).0 k ≡ second_actives s k
  part_other p s st id k establishes apart up = put_other s id k (option_map (λ x. beginning p.g (fresh x)) st) apart up
  part_other p s st id k renews apart up = renews_other s id k p.g st (held id s.anchors) apart up
  part_other p s st id k awaits apart up = put_other s id k (option_map (λ x. beginning p.g (waiting x)) st) apart up
  part_other p s st id k (hands_over to) apart up = frozen_other s id k p.g to (held id s.anchors) apart up
  part_other p s st id k drops apart up = put_other s id k None apart up
  part_other p s st id k has_no_anchor apart up = refl

  item_other : (key : List ℕ) (p : Plan) (s : SecondNode) (i : Item) (k : ℕ) → (item_id i == k) ≡ false → Ascends s.anchors → second_actives (second_item key p s i).0 k ≡ second_actives s k
  item_other key p s i k apart up =
      let s' : SecondNode = record s { hosts = holding (item_id i) (host_at (name_of s) p i) s.hosts } in
      part_other p s' (setup_of (name_of s) p s.alg key i) (item_id i) k (part_at (name_of s) p.sec i) apart up

  lets_same : (a b : Actives) (id : ℕ) (part : Part) → b id ≡ a id → PartLets a id part → PartLets b id part
  lets_same a b id drops same lets = lets
  lets_same a b id awaits same lets = same ∙ lets
  lets_same a b id establishes same lets = tt
  lets_same a b id renews same lets = tt
  lets_same a b id (hands_over to) same lets = tt
  lets_same a b id has_no_anchor same lets = tt

  flipped : (a b : ℕ) → (a == b) ≡ false → (b == a) ≡ false
  flipped a b is = by (b == a) refl
    where
      by : (d : Bool) → (b == a) ≡ d → d ≡ false
      by false e = refl
      by true e = absurd (let bad : true ≡ false = sym (eq-eqb a b (sym (eqb-true b a e))) ∙ is in cc)

  -- of no item of these
  apart_from : (id : ℕ) (items : List Item) (j : Item) → list_any (λ i. item_id i == id) items ≡ false → IsAmong j items → (id == item_id j) ≡ false
  apart_from id [] j none among = absurd among
  apart_from id (i ∷ items) j none among = by (item_id i == id) refl none among (λ none' later. apart_from id items j none' later)
    where
      by : (b : Bool) → (item_id i == id) ≡ b → (b || list_any (λ i'. item_id i' == id) items) ≡ false → IsAmong j (i ∷ items)
          → (list_any (λ i'. item_id i' == id) items ≡ false → IsAmong j items → (id == item_id j) ≡ false) → (id == item_id j) ≡ false
      by true here none' among' more = absurd (let bad : true ≡ false = none' in cc)
      by false apart none' (inl same) more = flipped (item_id j) id (subst (λ z. (item_id z == id) ≡ false) same apart)
      by false apart none' (inr later) more = more none' later

  items_last : (key : List ℕ) (p : Plan) (s : SecondNode) (items : List Item) → AreApart items → ItemsLet (name_of s) (second_actives s) p.sec items → Ascends s.anchors → SecondLasts s (in_turn (second_item key p) s items)
  items_last key p s [] apart lets up = idle s up
  items_last key p s (i ∷ items) apart lets up =
      let done = second_item key p s i in
      let one = item_lasts key p s i (lets i (inl refl)) up in
      let more : ItemsLet (name_of done.0) (second_actives done.0) p.sec items = λ j among.
      subst (λ y. PartLets (second_actives done.0) (item_id j) (part_at y p.sec j)) (sym one.name)
      (lets_same (second_actives s) (second_actives done.0) (item_id j) (part_at (name_of s) p.sec j) (item_other key p s i (item_id j) (apart_from (item_id i) items j apart.0 among) up) (lets j (inr among))) in
      second_then s done.0 done.1 (in_turn (second_item key p) done.0 items) one (items_last key p done.0 items apart.1 more one.up)

  -- ---- acts

  act_lasts : (c : Choices) (key : List ℕ) (s : SecondNode) (a : Act) → NoGo a → SaysBeside a → Ascends s.anchors → SecondLasts s (second_act c key s a)
  act_lasts c key s (send to r) none beside up = record { name = refl; up = up; lasts = lasts_itself D (second_actives s) }
  act_lasts c key s (prepare p) none beside up = idle s up
  act_lasts c key s (go p) none beside up = absurd none
  act_lasts c key s (unlock_all g) none beside up =
      each_lasts (λ n id. on_fed_of n g (unlock c) id (held id n.anchors)) (λ n id above. on_fed_of_lasts n g (unlock c) id (λ a. stays_steps (unlock_stays c a)) above) s (identities s.anchors) up
  act_lasts c key s (say n) none beside up = record { name = refl; up = up; lasts = subst (λ z. Lasts D z (second_actives s)) (sym (still n (second_actives s) beside)) (lasts_itself D (second_actives s)) }
  act_lasts c key s (recover_one id) none beside up = on_fed_lasts s id (recover c) (held id s.anchors) (λ a. stays_steps (recover_stays c a)) up refl
  act_lasts c key s (fail_one id g) none beside up = on_fed_of_lasts s g (fail_scg c) id (λ a. stays_steps (fail_stays c a)) up
  act_lasts c key s (pass st) none beside up = on_fed_lasts s st.id (λ a. status_in c a st) (held st.id s.anchors) (λ a. status_steps c a st) up refl

  no_goes_last : (c : Choices) (key : List ℕ) (s : SecondNode) (acts : List Act) → AllByRecursion NoGo acts → AllByRecursion SaysBeside acts → Ascends s.anchors → SecondLasts s (in_turn (second_act c key) s acts)
  no_goes_last c key s [] none beside up = idle s up
  no_goes_last c key s (a ∷ acts) none beside up =
      let one = act_lasts c key s a none.0 beside.0 up in
      second_then s (second_act c key s a).0 (second_act c key s a).1 (in_turn (second_act c key) (second_act c key s a).0 acts) one
      (no_goes_last c key (second_act c key s a).0 acts none.1 beside.1 one.up)

  acts_last : (c : Choices) (key : List ℕ) (s : SecondNode) (acts : List Act) → ActsLet (name_of s) (second_actives s) acts → AllByRecursion SaysBeside acts → Ascends s.anchors → SecondLasts s (in_turn (second_act c key) s acts)
  acts_last c key s [] lets beside up = idle s up
  acts_last c key s (go p ∷ acts) lets beside up =
      let done = in_turn (second_item key p) s p.items in
      let one = items_last key p s p.items lets.0.apart lets.0.items up in
      second_then s done.0 done.1 (in_turn (second_act c key) done.0 acts) one (no_goes_last c key done.0 acts lets.1 beside.1 one.up)
  acts_last c key s (send to r ∷ acts) lets beside up =
      second_then s s (second_act c key s (send to r)).1 (in_turn (second_act c key) s acts) (act_lasts c key s (send to r) tt tt up) (acts_last c key s acts lets beside.1 up)
  acts_last c key s (say n ∷ acts) lets beside up =
      second_then s s (second_act c key s (say n)).1 (in_turn (second_act c key) s acts) (act_lasts c key s (say n) tt beside.0 up) (acts_last c key s acts lets beside.1 up)
  acts_last c key s (prepare p ∷ acts) lets beside up = no_goes_last c key s (prepare p ∷ acts) (tt, lets) beside up
  acts_last c key s (unlock_all g ∷ acts) lets beside up = no_goes_last c key s (unlock_all g ∷ acts) (tt, lets) beside up
  acts_last c key s (recover_one id ∷ acts) lets beside up = no_goes_last c key s (recover_one id ∷ acts) (tt, lets) beside up
  acts_last c key s (fail_one id g ∷ acts) lets beside up = no_goes_last c key s (fail_one id g ∷ acts) (tt, lets) beside up
  acts_last c key s (pass st ∷ acts) lets beside up = no_goes_last c key s (pass st ∷ acts) (tt, lets) beside up

  -- ---- its procedures

  -- none is active at a node that comes to have no context
  abbrev LetsOut : Membership → Actives → Type 0
  LetsOut outside a = (k : ℕ) → a k ≡ None
  LetsOut joined a = ⊤
  LetsOut left a = ⊤

  acts_same : (me : Node) (a b : Actives) (acts : List Act) → ((k : ℕ) → b k ≡ a k) → ActsLet me a acts → ActsLet me b acts
  acts_same me a b [] same lets = tt
  acts_same me a b (go p ∷ acts) same lets =
      (record { apart = lets.0.apart; items = λ i among. lets_same a b (item_id i) (part_at me p.sec i) (same (item_id i)) (lets.0.items i among) }, lets.1)
  acts_same me a b (send to r ∷ acts) same lets = acts_same me a b acts same lets
  acts_same me a b (say n ∷ acts) same lets = acts_same me a b acts same lets
  acts_same me a b (prepare p ∷ acts) same lets = lets
  acts_same me a b (unlock_all g ∷ acts) same lets = lets
  acts_same me a b (recover_one id ∷ acts) same lets = lets
  acts_same me a b (fail_one id g ∷ acts) same lets = lets
  acts_same me a b (pass st ∷ acts) same lets = lets

  -- the node with its procedures after their step
  entered : (m : Membership) (s : SecondNode) → LetsOut m (second_actives s) → Ascends s.anchors → SecondLasts s (within m s, quiet)
  entered outside s none up = record { name = refl; up = tt; lasts = λ k g at. absurd (let bad : None ≡ Some g = sym (none k) ∙ at in cc) }
  entered joined s out up = idle s up
  entered left s out up = idle s up

  entered_same : (m : Membership) (s : SecondNode) → LetsOut m (second_actives s) → (k : ℕ) → second_actives (within m s) k ≡ second_actives s k
  entered_same outside s none k = sym (none k)
  entered_same joined s out k = refl
  entered_same left s out k = refl

  does_last : (c : Choices) (key : List ℕ) (s : SecondNode) (r : SecondActs) → r.0.me ≡ name_of s → LetsOut r.0.membership (second_actives s) → ActsLet (name_of s) (second_actives s) r.1 → AllByRecursion SaysBeside r.1
      → Ascends s.anchors → SecondLasts s (in_turn (second_act c key) (within r.0.membership (record s { proc = r.0 })) r.1)
  does_last c key s r me out lets beside up =
      let s' : SecondNode = record s { proc = r.0 } in
      let n = within r.0.membership s' in
      let one = entered r.0.membership s' out up in
      let more = acts_last c key n r.1
      (subst (λ y. ActsLet y (second_actives n) r.1) (sym (one.name ∙ me)) (acts_same (name_of s) (second_actives s) (second_actives n) r.1 (entered_same r.0.membership s' out) lets)) beside one.up in
      second_then s n quiet (in_turn (second_act c key) n r.1) (record { name = one.name ∙ me; up = one.up; lasts = one.lasts }) more

  -- what its procedures answer
  abbrev AnswersLet : Node → Actives → Result SecondActs ProcFault → Type 0
  AnswersLet me a (Ok r) = LetsOut r.0.membership a × ActsLet me a r.1
  AnswersLet me a (Err why) = ⊤

  module _ (a : Actives) (s : SecondProc) where
    -- a node with a context
    as_joined : (r : Rec) → ((p : Plan) → plan_in r ≡ Some p → PlanLets s.me a p) → AnswersLet s.me a (second_take (record s { membership = joined }) r)
    as_joined (rec.Modreq plan key) lets = by (s.denies && not (is_one_drop plan.items))
      where
        by : (b : Bool) → AnswersLet s.me a (Ok (modified (record s { membership = joined }) plan b))
        by true = (tt, tt)
        by false = (tt, (lets plan refl, tt))
    as_joined (rec.Relreq plan) lets = by (s.denies && is_none plan.sec)
      where
        by : (b : Bool) → AnswersLet s.me a (Ok (let_off (record s { membership = joined }) plan b))
        by true = (tt, tt)
        by false = (tt, (lets plan refl, tt))
    as_joined (rec.Chgcnf plan) lets = by (is_wanted want.Change s.want)
      where
        by : (b : Bool) → AnswersLet s.me a (leave_confirmed kind.Chgcnf (record s { membership = joined }) plan b joined)
        by true = (tt, (lets plan refl, tt))
        by false = tt
    as_joined (rec.Relcnf plan) lets = by (plan.g == 0) (is_wanted want.Release s.want)
      where
        by : (z b : Bool) → AnswersLet s.me a (if z then release_needless (record s { membership = joined }) b else leave_confirmed kind.Relcnf (record s { membership = joined }) plan b joined)
        by true true = (tt, tt)
        by true false = tt
        by false true = (tt, (lets plan refl, tt))
        by false false = tt
    as_joined (rec.Modcnf g) lets = by (is_wanted want.Rekey s.want)
      where
        by : (b : Bool) → AnswersLet s.me a (key_confirmed (record s { membership = joined }) g b joined)
        by true = (tt, (tt, tt))
        by false = tt
    as_joined (rec.Modref w) lets = by (is_wanted want.Rekey s.want)
      where
        by : (b : Bool) → AnswersLet s.me a (refused_there kind.Modref (record s { membership = joined }) w b)
        by true = (tt, tt)
        by false = tt
    as_joined (rec.Chgref w) lets = by (is_wanted want.Change s.want)
      where
        by : (b : Bool) → AnswersLet s.me a (refused_there kind.Chgref (record s { membership = joined }) w b)
        by true = (tt, tt)
        by false = tt
    as_joined (rec.Recfg g) lets = (tt, tt)
    as_joined (rec.Snst status) lets = (tt, tt)
    as_joined (rec.Recov id) lets = (tt, tt)
    as_joined (rec.Scgn id g) lets = (tt, tt)
    as_joined r lets = tt

    -- one that left
    as_left : (r : Rec) → ((k : ℕ) → a k ≡ None) → AnswersLet s.me a (second_take (record s { membership = left }) r)
    as_left (rec.Uecr g) none = (none, tt)
    as_left (rec.Relcnf plan) none = by (plan.g == 0) (is_wanted want.Release s.want)
      where
        by : (z b : Bool) → AnswersLet s.me a (if z then release_needless (record s { membership = left }) b else leave_confirmed kind.Relcnf (record s { membership = left }) plan b left)
        by true true = (tt, tt)
        by true false = tt
        by false true = tt
        by false false = tt
    as_left (rec.Chgcnf plan) none = by (is_wanted want.Change s.want)
      where
        by : (b : Bool) → AnswersLet s.me a (leave_confirmed kind.Chgcnf (record s { membership = left }) plan b left)
        by true = tt
        by false = tt
    as_left (rec.Modcnf g) none = by (is_wanted want.Rekey s.want)
      where
        by : (b : Bool) → AnswersLet s.me a (key_confirmed (record s { membership = left }) g b left)
        by true = tt
        by false = tt
    as_left (rec.Modref w) none = by (is_wanted want.Rekey s.want)
      where
        by : (b : Bool) → AnswersLet s.me a (refused_there kind.Modref (record s { membership = left }) w b)
        by true = (tt, tt)
        by false = tt
    as_left (rec.Chgref w) none = by (is_wanted want.Change s.want)
      where
        by : (b : Bool) → AnswersLet s.me a (refused_there kind.Chgref (record s { membership = left }) w b)
        by true = (tt, tt)
        by false = tt
    as_left (rec.Scgn id g) none = (tt, tt)
    as_left r none = tt

    -- one without a context
    as_outside : (r : Rec) → ((p : Plan) → plan_in r ≡ Some p → PlanLets s.me a p) → ((k : ℕ) → a k ≡ None) → AnswersLet s.me a (second_take (record s { membership = outside }) r)
    as_outside (rec.Addreq plan key) lets none = by s.denies
      where
        by : (b : Bool) → AnswersLet s.me a (Ok (added (record s { membership = outside }) plan b))
        by true = (none, tt)
        by false = (tt, (lets plan refl, tt))
    as_outside (rec.Relcnf plan) lets none = by (plan.g == 0) (is_wanted want.Release s.want)
      where
        by : (z b : Bool) → AnswersLet s.me a (if z then release_needless (record s { membership = outside }) b else leave_confirmed kind.Relcnf (record s { membership = outside }) plan b outside)
        by true true = (none, tt)
        by true false = tt
        by false true = tt
        by false false = tt
    as_outside (rec.Chgcnf plan) lets none = by (is_wanted want.Change s.want)
      where
        by : (b : Bool) → AnswersLet s.me a (leave_confirmed kind.Chgcnf (record s { membership = outside }) plan b outside)
        by true = tt
        by false = tt
    as_outside (rec.Modcnf g) lets none = by (is_wanted want.Rekey s.want)
      where
        by : (b : Bool) → AnswersLet s.me a (key_confirmed (record s { membership = outside }) g b outside)
        by true = tt
        by false = tt
    as_outside (rec.Modref w) lets none = by (is_wanted want.Rekey s.want)
      where
        by : (b : Bool) → AnswersLet s.me a (refused_there kind.Modref (record s { membership = outside }) w b)
        by true = (none, tt)
        by false = tt
    as_outside (rec.Chgref w) lets none = by (is_wanted want.Change s.want)
      where
        by : (b : Bool) → AnswersLet s.me a (refused_there kind.Chgref (record s { membership = outside }) w b)
        by true = (none, tt)
        by false = tt
    as_outside r lets none = tt

    take_lets : (r : Rec) (m : Membership) → s.membership ≡ m → (is_joined m ≡ false → (k : ℕ) → a k ≡ None) → ((p : Plan) → plan_in r ≡ Some p → PlanLets s.me a p) → AnswersLet s.me a (second_take s r)
    take_lets r joined at bare lets = subst (λ m. AnswersLet s.me a (second_take (record s { membership = m }) r)) (sym at) (as_joined r lets)
    take_lets r left at bare lets = subst (λ m. AnswersLet s.me a (second_take (record s { membership = m }) r)) (sym at) (as_left r (bare refl))
    take_lets r outside at bare lets = subst (λ m. AnswersLet s.me a (second_take (record s { membership = m }) r)) (sym at) (as_outside r lets (bare refl))

  -- ---- inputs

  -- a node without a context, or that left, has no active anchor
  abbrev pub IsBare : SecondNode → Type 0
  IsBare s = is_joined s.proc.membership ≡ false → (k : ℕ) → second_actives s k ≡ None

  bare_out : (m : Membership) (a : Actives) → (is_joined m ≡ false → (k : ℕ) → a k ≡ None) → LetsOut m a
  bare_out outside a bare = bare refl
  bare_out joined a bare = tt
  bare_out left a bare = tt

  by_record : (c : Choices) (s : SecondNode) (r : Rec) (b : Bool) → is_fit s r ≡ b → IsBare s → (is_fit s r ≡ true → (p : Plan) → plan_in r ≡ Some p → PlanLets (name_of s) (second_actives s) p) → Ascends s.anchors → SecondLasts s (second_record c s r b)
  by_record c s r false fit bare lets up = idle s up
  by_record c s r true fit bare lets up = by (second_take s.proc r) (take_says s.proc r) (take_lets (second_actives s) s.proc r s.proc.membership refl bare (lets fit))
    where
      by : (t : Result SecondActs ProcFault) → AnswersBeside s.proc t → AnswersLet (name_of s) (second_actives s) t → SecondLasts s (second_record_taken c (key_in r) s t)
      by (Ok acts) says let' = does_last c (key_in r) s acts says.0 let'.0 let'.1 says.1 up
      by (Err why) says let' = idle s up

  -- what comes of an outcome
  abbrev pub Lasting : SecondNode → SecondNode × Outcome → Type 0
  Lasting s done = SecondLasts s (done.0, record { notes = done.1.notes; sends = done.1.sends })

  by_order : (c : Choices) (s : SecondNode) (o : Option Refusal) (acts : SecondActs) (e : Event) → second_commands s.proc e ≡ acts → acts.0.me ≡ name_of s → acts.0.membership ≡ s.proc.membership → AllByRecursion SaysBeside acts.1 → ActsLet (name_of s) (second_actives s) acts.1
      → IsBare s → Ascends s.anchors → Lasting s (second_commanded c s (second_commands_unless s.proc e o))
  by_order c s (Some why) acts e is me member says lets bare up = idle s up
  by_order c s None acts e is me member says lets bare up =
      subst (λ z. SecondLasts s (second_does c [] s z)) (sym is)
      (does_last c [] s acts me (subst (λ m. LetsOut m (second_actives s)) (sym member) (bare_out s.proc.membership (second_actives s) bare)) lets says up)

  by_report : (c : Choices) (s : SecondNode) (id : ℕ) (o : Option Active) → Ascends s.anchors → Lasting s (second_report c s id o)
  by_report c s id None up = idle s up
  by_report c s id (Some a) up = on_fed_lasts s id (report c) (held id s.anchors) (λ x. stays_steps (report_stays c x)) up refl

  by_event : (c : Choices) (s : SecondNode) (e : Event) → IsBare s → Ascends s.anchors → Lasting s (second_event c s e)
  by_event c s (event.Report node id) bare up = by_report c s id (active_at s id) up
  by_event c s (event.Deny node on) bare up =
      by_order c s (first_refusal (second_refusals s.proc (event.Deny node on))) (second_commands s.proc (event.Deny node on)) (event.Deny node on) refl refl refl tt tt bare up
  by_event c s (event.Ask node what) bare up =
      by_order c s (first_refusal (second_refusals s.proc (event.Ask node what))) (second_commands s.proc (event.Ask node what)) (event.Ask node what) refl refl refl (tt, tt) tt bare up
  by_event c s e bare up = idle s up

  -- the core's lines
  same_anchors : (s s' : SecondNode) (x : Effects) → s'.anchors ≡ s.anchors → name_of s' ≡ name_of s → x.notes ≡ [] → Ascends s.anchors → SecondLasts s (s', x)
  same_anchors s s' x same name none up = record {
    name = name;
    up = subst (λ xs. Ascends xs) (sym same) up;
    lasts = subst (λ ns. LastsOver D (second_actives s) ns (second_actives s')) (sym none)
        (subst (λ xs. Lasts D (second_actives s) (second_actives (record s' { anchors = xs }))) (sym same) (lasts_itself D (second_actives s)));
  }

  frozen_took_lasts : (s : SecondNode) (id g : ℕ) (payload : List ℕ) (o : Option Frozen) → Ascends s.anchors → SecondLasts s (frozen_took s id g payload o)
  frozen_took_lasts s id g payload None up = idle s up
  frozen_took_lasts s id g payload (Some f) up = same_anchors s _ _ refl refl refl up

  sdu_steps : (c : Choices) (x : Fed) (g : ℕ) (payload : List ℕ) → Steps x.anchor ((sdu_in c x g payload).0.anchor, (sdu_in c x g payload).1)
  sdu_steps c x g payload =
      either (λ (done : Fed × AnchorOut). Steps x.anchor (done.0.anchor, done.1)) (nat_lt g x.since) (x, silent) (record x { anchor = (submit c x.anchor payload).0 }, (submit c x.anchor payload).1)
      (goes_on refl refl (inr refl)) (stays_steps (submit_stays c x.anchor payload))

  fed_took_lasts : (c : Choices) (s : SecondNode) (id g : ℕ) (payload : List ℕ) (o : Option Fed) → Ascends s.anchors → held id s.anchors ≡ o → SecondLasts s (fed_took c s id g payload o)
  fed_took_lasts c s id g payload None up at = idle s up
  fed_took_lasts c s id g payload (Some x) up at = fed_lasts s id x (sdu_in c x g payload) up at (sdu_steps c x g payload)

  frozen_ended_lasts : (s : SecondNode) (id g : ℕ) (o : Option Frozen) → Ascends s.anchors → SecondLasts s (frozen_ended s id g o)
  frozen_ended_lasts s id g None up = idle s up
  frozen_ended_lasts s id g (Some f) up = same_anchors s _ _ refl refl refl up

  end_active : (x : Fed) (g : ℕ) (a : AnchorState) → active_of (Some (end_in x g a).anchor) ≡ active_of (Some x.anchor)
  end_active x g (active_anchor a) = refl
  end_active x g (waiting_anchor w) = refl

  fed_ended_lasts : (s : SecondNode) (id g : ℕ) (o : Option Fed) → Ascends s.anchors → held id s.anchors ≡ o → SecondLasts s (fed_ended s id g o)
  fed_ended_lasts s id g None up at = idle s up
  fed_ended_lasts s id g (Some x) up at = record {
    name = refl;
    up = ascends_with 0 id (end_in x g x.anchor) s.anchors (omega arith) up;
    lasts = again_lasts s id (end_in x g x.anchor) x at (end_active x g x.anchor);
  }

  by_line : (c : Choices) (s : SecondNode) (f : Flight) → Ascends s.anchors → SecondLasts s (second_line c s f)
  by_line c s (flight.Sdu id g payload) up =
      either (SecondLasts s) (is_before_change g (held id s.frozen)) (frozen_took s id g payload (held id s.frozen)) (fed_took c s id g payload (held id s.anchors))
      (frozen_took_lasts s id g payload (held id s.frozen) up) (fed_took_lasts c s id g payload (held id s.anchors) up refl)
  by_line c s (flight.End id g) up =
      either (SecondLasts s) (is_some (held id s.frozen)) (frozen_ended s id g (held id s.frozen)) (fed_ended s id g (held id s.anchors))
      (frozen_ended_lasts s id g (held id s.frozen) up) (fed_ended_lasts s id g (held id s.anchors) up refl)
  by_line c s f up = idle s up

  by_host : (s : SecondNode) (id : ℕ) (f : Host → Host × List Send) (o : Option Host) → Ascends s.anchors → SecondLasts s (on_second_host s id f o)
  by_host s id f None up = idle s up
  by_host s id f (Some h) up = same_anchors s _ _ refl refl refl up

  by_data : (s : SecondNode) (f : AnchorState → AnchorState × AnchorOut) (h : Host → Host × List Send) (o : Option Named) → ((a : AnchorState) → Steps a (f a)) → Ascends s.anchors → SecondLasts s (second_data s f h o)
  by_data s f h None steps up = idle s up
  by_data s f h (Some (id, g)) steps up =
      either (SecondLasts s) (is_fed_of g (held id s.anchors)) (on_fed s id f (held id s.anchors)) (on_second_host s id h (held id s.hosts))
      (on_fed_lasts s id f (held id s.anchors) steps up refl) (by_host s id h (held id s.hosts) up)

  -- what the plan of a record is to meet, where the record fits the anchors
  abbrev pub RecordLets : SecondNode → Rec → Type 0
  RecordLets s r = is_fit s r ≡ true → (p : Plan) → plan_in r ≡ Some p → PlanLets (name_of s) (second_actives s) p

  abbrev pub InputLets : SecondNode → Input → Type 0
  InputLets s i = (r : Rec) → record_in i ≡ Some r → RecordLets s r

  by_control : (c : Choices) (s : SecondNode) (f : Flight) → IsBare s → ((r : Rec) → f ≡ flight.Ctl r → RecordLets s r) → Ascends s.anchors → SecondLasts s (second_control c s f)
  by_control c s (flight.Ctl r) bare lets up = by_record c s r (is_fit s r) refl bare (lets r refl) up
  by_control c s f bare lets up = idle s up

  by_class : (c : Choices) (s : SecondNode) (f : Flight) (k : Class) → IsBare s → (k ≡ Ctl → (r : Rec) → f ≡ flight.Ctl r → RecordLets s r) → Ascends s.anchors → SecondLasts s (second_takes c s f k)
  by_class c s f Ctl bare lets up = by_control c s f bare (lets refl) up
  by_class c s f Feed bare lets up = by_line c s f up
  by_class c s f Air bare lets up = by_data s (λ a. air_in a cell.Scg f) (λ h. host_air_in h f) (flight_named f) (λ a. air_steps a cell.Scg f) up
  by_class c s f Tun bare lets up = by_data s (λ a. tunnel_in c a f) (λ h. host_tunnel_in h f) (flight_named f) (λ a. tunnel_steps c a f) up

  -- whatever a secondary node takes, what it notes leaves no other anchors active than it has after it, but for what its plan drops
  pub second_lasts : (c : Choices) (s : SecondNode) (i : Input) → IsBare s → InputLets s i → Ascends s.anchors → Lasting s (second_step c s i)
  second_lasts c s (Cmd e) bare lets up = by_event c s e bare up
  second_lasts c s (Come l f) bare lets up = by_class c s f l.class bare (λ here r is. lets r (ap (λ k. record_on k f) here ∙ ap (record_on Ctl) is)) up
