-- What a secondary node has, and what it sends, stays below a bound that the plans that it takes are below.
use Rattle.std.proofs.Common.{ℕ, ◌≡◌, ◌≤◌, ◌+◌, ◌++◌, ◌==◌, Bool, true, false, List, [], ◌∷◌, Option, Some, None, refl, sym, subst, arith}
use Rattle.std.specs.Prelude.{Err, Ok, Result, if◌then◌else◌, is_some, length, nat_le, nat_lt, ⊤, ◌&&◌}
use Rattle.std.specs.List.{AllByRecursion}
use Rattle.std.specs.Option.{option_map}
use Rattle.dc_base.specs.Records.{item_id}
use Rattle.dc_base.specs.declared.events.Event.{Event}
use Rattle.dc_base.specs.declared.events.Event.TheVariants as event
use Rattle.dc_base.specs.declared.flights.Flight.{Flight}
use Rattle.dc_base.specs.declared.flights.Flight.TheVariants as flight
use Rattle.dc_base.specs.declared.nodes.Cell.TheVariants as cell
use Rattle.dc_base.specs.declared.nodes.Class.{Class}
use Rattle.dc_base.specs.declared.nodes.Class.TheVariants.{Air, Ctl, Feed, Tun}
use Rattle.dc_base.specs.declared.nodes.Node.{Node}
use Rattle.dc_base.specs.declared.records.Item.{Item}
use Rattle.dc_base.specs.declared.records.Item.TheVariants as item
use Rattle.dc_base.specs.declared.records.Plan.{Plan}
use Rattle.dc_base.specs.declared.records.Rec.{Rec}
use Rattle.transcript.proofs.OnEach.{each_append}
use Rattle.node_rules.specs.Acts.{ProcFault, refused, unexpected}
use Rattle.node_rules.specs.Adopting.{status_in}
use Rattle.node_rules.specs.Anchor.{Active, AnchorState, active_anchor, fresh, renew, setup_at, silent, waiting, waiting_anchor}
use Rattle.node_rules.specs.AnchorReceiving.{air_in, tunnel_in}
use Rattle.node_rules.specs.AnchorSending.{fail_scg, recover, report, submit, unlock}
use Rattle.node_rules.specs.Choices.{Choices, Send}
use Rattle.node_rules.specs.Effects.{in_turn, quiet}
use Rattle.node_rules.specs.Feed.{Fed, Frozen, end_in, freeze_fed, frozen_end_in, frozen_of, frozen_sdu_in, has_ended, sdu_in}
use Rattle.node_rules.specs.Flights.{Named, flight_named}
use Rattle.node_rules.specs.Freezing.{down_sdus, forward_end, forward_fresh, new_tunnel, rest_of}
use Rattle.node_rules.specs.Held.{held, holding, identities}
use Rattle.node_rules.specs.Host.{Host, new_host}
use Rattle.node_rules.specs.HostRules.{host_air_in, host_tunnel_in}
use Rattle.node_rules.specs.Parts.{host_at, part_at}
use Rattle.node_rules.specs.Places.{anchor_at, is_host_at}
use Rattle.node_rules.specs.SecondPlan.{beginning, frozen_active, frozen_there, renewed_active, renewed_there, second_act, second_does, second_item, second_part}
use Rattle.node_rules.specs.SecondRecords.{second_take}
use Rattle.node_rules.specs.SecondState.{SecondActs, second_command}
use Rattle.node_rules.specs.SecondStep.{fed_ended, fed_took, frozen_ended, frozen_took, is_before_change, is_fit, key_in, on_second_host, second_commanded, second_data, second_event, second_line, second_record, second_record_taken, second_report, second_step, second_takes}
use Rattle.node_rules.specs.Secondary.{SecondNode, active_at, active_in, adopted_there, fed_did, is_fed_of, low_told, name_of, on_fed, on_fed_of, second_effects, within}
use Rattle.node_rules.specs.Setup.{Setup, setup_of}
use Rattle.node_rules.specs.declared.acts.Act.{Act}
use Rattle.node_rules.specs.declared.acts.Act.TheVariants.{FailOne as fail_one, Go as go, Pass as pass, Prepare as prepare, RecoverOne as recover_one, Say as say, Send as send, UnlockAll as unlock_all}
use Rattle.node_rules.specs.declared.bearers.AnchorOut.{AnchorOut}
use Rattle.node_rules.specs.declared.commands.Membership.{Membership}
use Rattle.node_rules.specs.declared.commands.Membership.TheVariants.{Joined as joined, Left as left, Outside as outside}
use Rattle.node_rules.specs.declared.inputs.Effects.{Effects}
use Rattle.node_rules.specs.declared.inputs.Input.{Input}
use Rattle.node_rules.specs.declared.inputs.Input.TheVariants.{Cmd, Come}
use Rattle.node_rules.specs.declared.parts.Part.{Part}
use Rattle.node_rules.specs.declared.parts.Part.TheVariants.{Awaits as awaits, Drops as drops, Establishes as establishes, HandsOver as hands_over, HasNoAnchor as has_no_anchor, Renews as renews}
use Rattle.run_control.specs.Steps.{record_in}
use Rattle.run_control.proofs.Anchors.{fail_keeps, recover_keeps, report_keeps, submit_keeps, unlock_opens}
use Rattle.run_control.proofs.Arrivals.{air_keeps, status_is, tunnel_is}
use Rattle.run_control.proofs.Sent.{either}
use Rattle.run_generations.specs.Ahead.{AllBelow, AreSentBelow, HasBelow, IsFedBelow, IsFrozenBelow, IsHostBelow, IsSentBelow}
use Rattle.run_generations.specs.Newer.{plan_generation}
use Rattle.run_generations.proofs.Orders.{GoesBelow, TakesBelow, command_below, take_below}
use Rattle.run_generations.proofs.Keeping.{host_air, host_tunnel, opens_generation, same_generation, status_generation, traffic_generation}
use Rattle.run_generations.proofs.Held.{IfThere, each_held, each_with}
use Rattle.run_generations.proofs.Sends.{air_good, fail_good, freeze_good, frozen_end_good, frozen_sdu_good, host_air_good, host_tunnel_good, recover_good, report_good, status_good, submit_good, tunnel_good, unlock_good}

module _ (b : ℕ) where
  -- a step: what the node has then, and what it sent, is below
  abbrev pub Fares : SecondNode × Effects → Type 0
  Fares done = HasBelow b done.0 × AreSentBelow b done.1.sends

  -- a step of an anchor
  abbrev FaresAt : AnchorState × AnchorOut → Type 0
  FaresAt done = ((setup_at done.0).g + 1 ≤ b) × AreSentBelow b done.1.sends

  -- of any that is below
  abbrev Steps : (AnchorState → AnchorState × AnchorOut) → Type 0
  Steps f = (a : AnchorState) → (setup_at a).g + 1 ≤ b → FaresAt (f a)

  fares_by : (a : AnchorState) (done : AnchorState × AnchorOut) → (setup_at a).g + 1 ≤ b → (setup_at done.0).g ≡ (setup_at a).g → AreSentBelow b done.1.sends → FaresAt done
  fares_by a done le same sends = (subst (λ g. g + 1 ≤ b) (sym same) le, sends)

  fares_either : (t : Bool) (x y : SecondNode × Effects) → Fares x → Fares y → Fares (if t then x else y)
  fares_either true x y is else' = is
  fares_either false x y is else' = else'

  -- several steps in turn
  turns_fare : {X : Type 0} (Q : X → Type 0) (f : SecondNode → X → SecondNode × Effects) → ((s : SecondNode) (x : X) → Q x → HasBelow b s → Fares (f s x)) → (s : SecondNode) (xs : List X) → AllByRecursion Q xs → HasBelow b s
      → Fares (in_turn f s xs)
  turns_fare Q f step s [] all is = (is, tt)
  turns_fare Q f step s (x ∷ xs) all is =
      let here = step s x all.0 is in
      let later = turns_fare Q f step (f s x).0 xs all.1 here.0 in
      (later.0, each_append (IsSentBelow b) (f s x).1.sends (in_turn f (f s x).0 xs).1.sends here.1 later.1)

  each_yes : {X : Type 0} (xs : List X) → AllByRecursion (λ x. ⊤) xs
  each_yes [] = tt
  each_yes (x ∷ xs) = (tt, each_yes xs)

  -- ---- anchors

  adopted_good : (me : Node) (id g : ℕ) (t : Bool) → AreSentBelow b (adopted_there me id g t).sends
  adopted_good me id g true = (tt, tt)
  adopted_good me id g false = tt

  low_good : (me : Node) (id g : ℕ) (o : Option ℕ) → AreSentBelow b (low_told me id g o).sends
  low_good me id g None = tt
  low_good me id g (Some count) = (tt, tt)

  effects_good : (me : Node) (id g : ℕ) (out : AnchorOut) → AreSentBelow b out.sends → AreSentBelow b (second_effects me id g out).sends
  effects_good me id g out good =
      each_append (IsSentBelow b) ((adopted_there me id g out.adopted).sends ++ out.sends) (low_told me id g out.low).sends
      (each_append (IsSentBelow b) (adopted_there me id g out.adopted).sends out.sends (adopted_good me id g out.adopted) good) (low_good me id g out.low)

  did_fares : (s : SecondNode) (id : ℕ) (done : Fed × AnchorOut) → FaresAt (done.0.anchor, done.1) → HasBelow b s → Fares (fed_did s id done)
  did_fares s id done step is = ((each_with (IsFedBelow b) id (Some done.0) s.anchors step.0 is.0, is.1), effects_good (name_of s) id (setup_at done.0.anchor).g done.1 step.1)

  on_fed_fares : (s : SecondNode) (id : ℕ) (f : AnchorState → AnchorState × AnchorOut) (o : Option Fed) → Steps f → IfThere (IsFedBelow b) o → HasBelow b s → Fares (on_fed s id f o)
  on_fed_fares s id f None steps below is = (is, tt)
  on_fed_fares s id f (Some x) steps below is = did_fares s id (record x { anchor = (f x.anchor).0 }, (f x.anchor).1) (steps x.anchor below) is

  -- the anchor of a bearer
  held_fares : (s : SecondNode) (id : ℕ) (f : AnchorState → AnchorState × AnchorOut) → Steps f → HasBelow b s → Fares (on_fed s id f (held id s.anchors))
  held_fares s id f steps is = on_fed_fares s id f (held id s.anchors) steps (each_held (IsFedBelow b) id s.anchors is.0) is

  -- of a generation
  of_fares : (s : SecondNode) (g : ℕ) (f : AnchorState → AnchorState × AnchorOut) (id : ℕ) → Steps f → HasBelow b s → Fares (on_fed_of s g f id (held id s.anchors))
  of_fares s g f id steps is = fares_either (is_fed_of g (held id s.anchors)) (on_fed s id f (held id s.anchors)) (s, quiet) (held_fares s id f steps is) (is, tt)

  report_steps : (c : Choices) → Steps (report c)
  report_steps c a le = fares_by a (report c a) le (same_generation a (report c a).0 (report_keeps c a).view) (report_good b c a le)

  recover_steps : (c : Choices) → Steps (recover c)
  recover_steps c a le = fares_by a (recover c a) le (same_generation a (recover c a).0 (recover_keeps c a).view) (recover_good b c a le)

  fail_steps : (c : Choices) → Steps (fail_scg c)
  fail_steps c a le = fares_by a (fail_scg c a) le (same_generation a (fail_scg c a).0 (fail_keeps c a).view) (fail_good b c a le)

  unlock_steps : (c : Choices) → Steps (unlock c)
  unlock_steps c a le = fares_by a (unlock c a) le (opens_generation a (unlock c a) (unlock_opens c a)) (unlock_good b c a le)

  status_steps : (c : Choices) (st : _) → Steps (λ a. status_in c a st)
  status_steps c st a le = fares_by a (status_in c a st) le (status_generation st a (status_in c a st) (status_is c a st)) (status_good b c a st le)

  air_steps : (f : Flight) → Steps (λ a. air_in a cell.Scg f)
  air_steps f a le = fares_by a (air_in a cell.Scg f) le (traffic_generation a (air_in a cell.Scg f) (air_keeps a cell.Scg f)) (air_good b a cell.Scg f)

  tunnel_steps : (c : Choices) (f : Flight) → Steps (λ a. tunnel_in c a f)
  tunnel_steps c f a le = fares_by a (tunnel_in c a f) le (traffic_generation a (tunnel_in c a f) (tunnel_is c a f)) (tunnel_good b c a f le)

  -- ---- leg hosts, and flights of user data

  host_fares : (s : SecondNode) (id : ℕ) (f : Host → Host × List Send) (o : Option Host) → ((h : Host) → (f h).0.g ≡ h.g) → ((h : Host) → h.g + 1 ≤ b → AreSentBelow b (f h).1) → IfThere (IsHostBelow b) o → HasBelow b s
      → Fares (on_second_host s id f o)
  host_fares s id f None same good below is = (is, tt)
  host_fares s id f (Some h) same good below is = ((is.0, (each_with (IsHostBelow b) id (Some (f h).0) s.hosts (subst (λ g. g + 1 ≤ b) (sym (same h)) below) is.1.0, is.1.1)), good h below)

  data_fares : (s : SecondNode) (f : AnchorState → AnchorState × AnchorOut) (h : Host → Host × List Send) (o : Option Named) → Steps f → ((x : Host) → (h x).0.g ≡ x.g) → ((x : Host) → x.g + 1 ≤ b → AreSentBelow b (h x).1) → HasBelow b s
      → Fares (second_data s f h o)
  data_fares s f h None steps same good is = (is, tt)
  data_fares s f h (Some (id, g)) steps same good is =
      fares_either (is_fed_of g (held id s.anchors)) (on_fed s id f (held id s.anchors)) (on_second_host s id h (held id s.hosts)) (held_fares s id f steps is)
      (host_fares s id h (held id s.hosts) same good (each_held (IsHostBelow b) id s.hosts is.1.0) is)

  -- ---- the core's lines

  frozen_took_fares : (s : SecondNode) (id g : ℕ) (payload : List ℕ) (o : Option Frozen) → IfThere (IsFrozenBelow b) o → HasBelow b s → Fares (frozen_took s id g payload o)
  frozen_took_fares s id g payload None below is = (is, tt)
  frozen_took_fares s id g payload (Some f) below is = (
    (
      is.0,
      (
        is.1.0,
        each_with (IsFrozenBelow b) id (Some (frozen_sdu_in f g payload).0) s.frozen
            (either (λ (done : Frozen × List Send). IsFrozenBelow b done.0) (nat_le f.since g && nat_lt g f.tunnel.g) (record f { tunnel = (forward_fresh f.tunnel payload).0 }, (forward_fresh f.tunnel payload).1) (f, []) below below) is.1.1,
      ),
    ),
    frozen_sdu_good b f g payload below,
  )

  frozen_ended_fares : (s : SecondNode) (id g : ℕ) (o : Option Frozen) → IfThere (IsFrozenBelow b) o → HasBelow b s → Fares (frozen_ended s id g o)
  frozen_ended_fares s id g None below is = (is, tt)
  frozen_ended_fares s id g (Some f) below is = (
    (
      is.0,
      (
        is.1.0,
        each_with (IsFrozenBelow b) id (frozen_end_in f g).0 s.frozen
            (either (λ (done : Option Frozen × List Send). IfThere (IsFrozenBelow b) done.0) (f.tunnel.g == g) (None, forward_end f.tunnel) (Some f, []) tt below) is.1.1,
      ),
    ),
    frozen_end_good b f g below,
  )

  sdu_fares : (c : Choices) (x : Fed) (g : ℕ) (payload : List ℕ) → IsFedBelow b x → FaresAt ((sdu_in c x g payload).0.anchor, (sdu_in c x g payload).1)
  sdu_fares c x g payload below =
      either (λ (done : Fed × AnchorOut). FaresAt (done.0.anchor, done.1)) (nat_lt g x.since) (x, silent) (record x { anchor = (submit c x.anchor payload).0 }, (submit c x.anchor payload).1) (below, tt)
      (fares_by x.anchor (submit c x.anchor payload) below (same_generation x.anchor (submit c x.anchor payload).0 (submit_keeps c x.anchor payload).view) (submit_good b c x.anchor payload below))

  fed_took_fares : (c : Choices) (s : SecondNode) (id g : ℕ) (payload : List ℕ) (o : Option Fed) → IfThere (IsFedBelow b) o → HasBelow b s → Fares (fed_took c s id g payload o)
  fed_took_fares c s id g payload None below is = (is, tt)
  fed_took_fares c s id g payload (Some x) below is = did_fares s id (sdu_in c x g payload) (sdu_fares c x g payload below) is

  end_below : (x : Fed) (g : ℕ) (a : AnchorState) → IsFedBelow b x → IsFedBelow b (end_in x g a)
  end_below x g (active_anchor a) below = below
  end_below x g (waiting_anchor w) below = below

  fed_ended_fares : (s : SecondNode) (id g : ℕ) (o : Option Fed) → IfThere (IsFedBelow b) o → HasBelow b s → Fares (fed_ended s id g o)
  fed_ended_fares s id g None below is = (is, tt)
  fed_ended_fares s id g (Some x) below is = ((each_with (IsFedBelow b) id (Some (end_in x g x.anchor)) s.anchors (end_below x g x.anchor below) is.0, is.1), tt)

  line_fares : (c : Choices) (s : SecondNode) (f : Flight) → HasBelow b s → Fares (second_line c s f)
  line_fares c s (flight.Sdu id g payload) is =
      fares_either (is_before_change g (held id s.frozen)) (frozen_took s id g payload (held id s.frozen)) (fed_took c s id g payload (held id s.anchors))
      (frozen_took_fares s id g payload (held id s.frozen) (each_held (IsFrozenBelow b) id s.frozen is.1.1) is) (fed_took_fares c s id g payload (held id s.anchors) (each_held (IsFedBelow b) id s.anchors is.0) is)
  line_fares c s (flight.End id g) is =
      fares_either (is_some (held id s.frozen)) (frozen_ended s id g (held id s.frozen)) (fed_ended s id g (held id s.anchors))
      (frozen_ended_fares s id g (held id s.frozen) (each_held (IsFrozenBelow b) id s.frozen is.1.1) is) (fed_ended_fares s id g (held id s.anchors) (each_held (IsFedBelow b) id s.anchors is.0) is)
  line_fares c s (flight.Told id g count) is = (is, tt)
  line_fares c s (flight.Air id g num tag pdu) is = (is, tt)
  line_fares c s (flight.Ack id g num) is = (is, tt)
  line_fares c s (flight.Tun tag packet) is = (is, tt)
  line_fares c s (flight.Ctl r) is = (is, tt)

  -- ---- a plan

  -- the setup of an item
  abbrev IsSetBelow : Option Setup → Type 0
  IsSetBelow None = ⊤
  IsSetBelow (Some x) = x.g + 1 ≤ b

  setup_below : (me : Node) (p : Plan) (alg : _) (key : List ℕ) (i : Item) → p.g + 1 ≤ b → IsSetBelow (setup_of me p alg key i)
  setup_below me p alg key (item.Set id n first shape threshold policy name old) le = le
  setup_below me p alg key (item.Unset id) le = tt

  begins_below : (g : ℕ) (o : Option Setup) (f : Setup → AnchorState) → ((x : Setup) → (setup_at (f x)).g ≡ x.g) → IsSetBelow o → IfThere (IsFedBelow b) (option_map (λ x. beginning g (f x)) o)
  begins_below g None f same le = tt
  begins_below g (Some x) f same le = subst (λ k. k + 1 ≤ b) (sym (same x)) le

  renewed_fares : (s : SecondNode) (id g : ℕ) (setup : Option Setup) (o : Option Fed) → IsSetBelow setup → HasBelow b s → Fares (renewed_there s id g setup o)
  renewed_fares s id g None o le is = (is, tt)
  renewed_fares s id g (Some setup) None le is = (is, tt)
  renewed_fares s id g (Some setup) (Some x) le is = by (active_in x.anchor)
    where
      by : (o : Option Active) → Fares (renewed_active s id g setup x o)
      by None = (is, tt)
      by (Some a) = ((each_with (IsFedBelow b) id (Some (record x { anchor = active_anchor (renew a setup) })) s.anchors le is.0, is.1), tt)

  frozen_fares : (s : SecondNode) (id g : ℕ) (to : Node) (o : Option Fed) → g + 1 ≤ b → HasBelow b s → Fares (frozen_there s id g to o)
  frozen_fares s id g to None below is = (is, tt)
  frozen_fares s id g to (Some x) below is = by (active_in x.anchor)
    where
      remains : (a : Active) (last : Bool) → IfThere (IsFrozenBelow b) (frozen_of x.since (rest_of (new_tunnel a.entity to g) last (length (down_sdus a.entity))))
      remains a true = tt
      remains a false = below

      by : (o : Option Active) → Fares (frozen_active s id g to x o)
      by None = (is, tt)
      by (Some a) = (
        (each_with (IsFedBelow b) id None s.anchors tt is.0, (is.1.0, each_with (IsFrozenBelow b) id (frozen_of x.since (freeze_fed x a to g).rest) s.frozen (remains a (has_ended x.ended g)) is.1.1)),
        (tt, freeze_good b a to g (has_ended x.ended g) below),
      )

  part_fares : (s : SecondNode) (p : Plan) (setup : Option Setup) (id : ℕ) (part : Part) → IsSetBelow setup → p.g + 1 ≤ b → HasBelow b s → Fares (second_part s p setup id part)
  part_fares s p setup id establishes le below is =
      ((each_with (IsFedBelow b) id (option_map (λ x. beginning p.g (fresh x)) setup) s.anchors (begins_below p.g setup fresh (λ x. refl) le) is.0, is.1), tt)
  part_fares s p setup id renews le below is = renewed_fares s id p.g setup (held id s.anchors) le is
  part_fares s p setup id awaits le below is =
      ((each_with (IsFedBelow b) id (option_map (λ x. beginning p.g (waiting x)) setup) s.anchors (begins_below p.g setup waiting (λ x. refl) le) is.0, is.1), tt)
  part_fares s p setup id (hands_over to) le below is = frozen_fares s id p.g to (held id s.anchors) below is
  part_fares s p setup id drops le below is = ((each_with (IsFedBelow b) id None s.anchors tt is.0, is.1), tt)
  part_fares s p setup id has_no_anchor le below is = (is, tt)

  host_there : (me : Node) (p : Plan) (i : Item) → p.g + 1 ≤ b → IfThere (IsHostBelow b) (host_at me p i)
  host_there me p (item.Set id n first shape threshold policy key old) below =
      either (IfThere (IsHostBelow b)) (is_host_at p.sec shape me) (Some (new_host me (anchor_at p.sec shape) p.g id n)) None below tt
  host_there me p (item.Unset id) below = tt

  item_fares : (key : List ℕ) (p : Plan) → p.g + 1 ≤ b → (s : SecondNode) (i : Item) → HasBelow b s → Fares (second_item key p s i)
  item_fares key p below s i is =
      part_fares (record s { hosts = holding (item_id i) (host_at (name_of s) p i) s.hosts }) p (setup_of (name_of s) p s.alg key i) (item_id i) (part_at (name_of s) p.sec i)
      (setup_below (name_of s) p s.alg key i below) below
      (is.0, (each_with (IsHostBelow b) (item_id i) (host_at (name_of s) p i) s.hosts (host_there (name_of s) p i below) is.1.0, is.1.1))

  act_fares : (c : Choices) (key : List ℕ) (s : SecondNode) (a : Act) → GoesBelow b a → HasBelow b s → Fares (second_act c key s a)
  act_fares c key s (send to r) goes is = (is, (tt, tt))
  act_fares c key s (prepare p) goes is = (is, tt)
  act_fares c key s (go p) goes is = turns_fare (λ i. ⊤) (second_item key p) (λ n i yes. item_fares key p goes n i) s p.items (each_yes p.items) is
  act_fares c key s (unlock_all g) goes is =
      turns_fare (λ i. ⊤) (λ (n : SecondNode) (id : ℕ). on_fed_of n g (unlock c) id (held id n.anchors)) (λ n id yes. of_fares n g (unlock c) id (unlock_steps c)) s (identities s.anchors) (each_yes (identities s.anchors)) is
  act_fares c key s (say n) goes is = (is, tt)
  act_fares c key s (recover_one id) goes is = held_fares s id (recover c) (recover_steps c) is
  act_fares c key s (fail_one id g) goes is = of_fares s g (fail_scg c) id (fail_steps c) is
  act_fares c key s (pass status) goes is = held_fares s status.id (λ a. status_in c a status) (status_steps c status) is

  within_below : (m : Membership) (s : SecondNode) → HasBelow b s → HasBelow b (within m s)
  within_below outside s is = (tt, (tt, tt))
  within_below joined s is = is
  within_below left s is = is

  does_fares : (c : Choices) (key : List ℕ) (s : SecondNode) (r : SecondActs) → AllByRecursion (GoesBelow b) r.1 → HasBelow b s → Fares (second_does c key s r)
  does_fares c key s r goes is =
      turns_fare (GoesBelow b) (second_act c key) (λ n a. act_fares c key n a) (within r.0.membership (record s { proc = r.0 })) r.1 goes (within_below r.0.membership (record s { proc = r.0 }) is)

  -- ---- any input

  taken_fares : (c : Choices) (key : List ℕ) (s : SecondNode) (t : Result SecondActs ProcFault) → TakesBelow b t → HasBelow b s → Fares (second_record_taken c key s t)
  taken_fares c key s (Ok r) goes is = does_fares c key s r goes is
  taken_fares c key s (Err why) goes is = (is, tt)

  record_fares : (c : Choices) (s : SecondNode) (r : Rec) (fit : Bool) → 1 ≤ b → AllBelow b (plan_generation r) → HasBelow b s → Fares (second_record c s r fit)
  record_fares c s r true one plans is = taken_fares c (key_in r) s (second_take s.proc r) (take_below b s.proc r one plans) is
  record_fares c s r false one plans is = (is, tt)

  takes_fares : (c : Choices) (s : SecondNode) (f : Flight) (k : Class) (from to : Node) → 1 ≤ b → ((r : Rec) → record_in (Come (record { from = from; to = to; class = k }) f) ≡ Some r → AllBelow b (plan_generation r)) → HasBelow b s
      → Fares (second_takes c s f k)
  takes_fares c s (flight.Ctl r) Ctl from to one plans is = record_fares c s r (is_fit s r) one (plans r refl) is
  takes_fares c s (flight.Air id g num tag pdu) Ctl from to one plans is = (is, tt)
  takes_fares c s (flight.Ack id g num) Ctl from to one plans is = (is, tt)
  takes_fares c s (flight.Tun tag packet) Ctl from to one plans is = (is, tt)
  takes_fares c s (flight.Sdu id g payload) Ctl from to one plans is = (is, tt)
  takes_fares c s (flight.End id g) Ctl from to one plans is = (is, tt)
  takes_fares c s (flight.Told id g count) Ctl from to one plans is = (is, tt)
  takes_fares c s f Feed from to one plans is = line_fares c s f is
  takes_fares c s f Air from to one plans is = data_fares s (λ a. air_in a cell.Scg f) (λ h. host_air_in h f) (flight_named f) (air_steps f) (host_air f) (λ h. host_air_good b h f) is
  takes_fares c s f Tun from to one plans is = data_fares s (λ a. tunnel_in c a f) (λ h. host_tunnel_in h f) (flight_named f) (tunnel_steps c f) (host_tunnel f) (λ h. host_tunnel_good b h f) is

  commanded_fares : (c : Choices) (s : SecondNode) (t : Result SecondActs ProcFault) → TakesBelow b t → HasBelow b s → HasBelow b (second_commanded c s t).0 × AreSentBelow b (second_commanded c s t).1.sends
  commanded_fares c s (Ok r) goes is = does_fares c [] s r goes is
  commanded_fares c s (Err (refused why)) goes is = (is, tt)
  commanded_fares c s (Err (unexpected k)) goes is = (is, tt)

  report_fares : (c : Choices) (s : SecondNode) (id : ℕ) (o : Option Active) → HasBelow b s → HasBelow b (second_report c s id o).0 × AreSentBelow b (second_report c s id o).1.sends
  report_fares c s id None is = (is, tt)
  report_fares c s id (Some a) is = held_fares s id (report c) (report_steps c) is

  event_fares : (c : Choices) (s : SecondNode) (e : Event) → HasBelow b s → HasBelow b (second_event c s e).0 × AreSentBelow b (second_event c s e).1.sends
  event_fares c s (event.Report node id) is = report_fares c s id (active_at s id) is
  event_fares c s (event.Deny node on) is = commanded_fares c s (second_command s.proc (event.Deny node on)) (command_below b s.proc (event.Deny node on)) is
  event_fares c s (event.Ask node what) is = commanded_fares c s (second_command s.proc (event.Ask node what)) (command_below b s.proc (event.Ask node what)) is
  event_fares c s (event.Bearer id n first shape threshold policy) is = (is, tt)
  event_fares c s (event.Reshape id shape) is = (is, tt)
  event_fares c s (event.Remove id) is = (is, tt)
  event_fares c s (event.Add node) is = (is, tt)
  event_fares c s event.Change is = (is, tt)
  event_fares c s event.Release is = (is, tt)
  event_fares c s event.RekeySecond is = (is, tt)
  event_fares c s (event.RekeyMaster root) is = (is, tt)
  event_fares c s (event.Recover id) is = (is, tt)
  event_fares c s event.ScgFail is = (is, tt)
  event_fares c s (event.Submit id d payload) is = (is, tt)
  event_fares c s (event.Step l i) is = (is, tt)
  event_fares c s (event.Lose l i) is = (is, tt)
  event_fares c s (event.Again l i) is = (is, tt)

  -- whatever the node takes
  pub second_fares : (c : Choices) (s : SecondNode) (i : Input) → 1 ≤ b → ((r : Rec) → record_in i ≡ Some r → AllBelow b (plan_generation r)) → HasBelow b s
      → HasBelow b (second_step c s i).0 × AreSentBelow b (second_step c s i).1.sends
  second_fares c s (Cmd e) one plans is = event_fares c s e is
  second_fares c s (Come l f) one plans is = takes_fares c s f l.class l.from l.to one plans is

-- ---- a greater bound

each_later : {X : Type 0} (P Q : X → Type 0) → ((x : X) → P x → Q x) → (xs : List (ℕ × X)) → AllByRecursion (λ (e : ℕ × X). P e.1) xs → AllByRecursion (λ (e : ℕ × X). Q e.1) xs
each_later P Q later [] all = tt
each_later P Q later (x ∷ xs) all = (later x.1 all.0, each_later P Q later xs all.1)

pub has_later : (a b : ℕ) (s : SecondNode) → a ≤ b → HasBelow a s → HasBelow b s
has_later a b s le is = (
  each_later (IsFedBelow a) (IsFedBelow b) (λ x p. omega (arith, le, p)) s.anchors is.0,
  (each_later (IsHostBelow a) (IsHostBelow b) (λ x p. omega (arith, le, p)) s.hosts is.1.0, each_later (IsFrozenBelow a) (IsFrozenBelow b) (λ x p. omega (arith, le, p)) s.frozen is.1.1),
)
