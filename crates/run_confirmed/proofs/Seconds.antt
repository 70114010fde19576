-- Each step of a secondary node adds to the stories of its anchors and leg hosts alone, behind what it has.
use Rattle.std.proofs.Common.{◌≡◌, ℕ, ◌++◌, true, false, Bool, List, [], ◌∷◌, Option, Some, None, refl, sym, subst}
use Rattle.std.specs.Prelude.{is_some, nat_lt}
use Rattle.std.specs.List.{AllByRecursion}
use Rattle.dc_base.specs.Nodes.{is_same_node}
use Rattle.dc_base.specs.declared.flights.Flight.{Flight}
use Rattle.dc_base.specs.declared.flights.Flight.TheVariants as flight
use Rattle.dc_base.specs.declared.nodes.Cell.TheVariants as cell
use Rattle.dc_base.specs.declared.nodes.LinkId.{LinkId}
use Rattle.dc_base.specs.declared.nodes.Node.{Node}
use Rattle.dc_base.specs.declared.nodes.Node.TheVariants.{T}
use Rattle.transcript.proofs.OnEach.{each_append}
use Rattle.node_rules.specs.Anchor.{AnchorState, active_anchor, setup_at, silent, waiting_anchor}
use Rattle.node_rules.specs.AnchorReceiving.{air_in, tunnel_in}
use Rattle.node_rules.specs.AnchorSending.{submit}
use Rattle.node_rules.specs.Choices.{Choices, Send}
use Rattle.node_rules.specs.Effects.{in_turn, quiet}
use Rattle.node_rules.specs.Feed.{Fed, Frozen, end_in, frozen_end_in, frozen_sdu_in, sdu_in}
use Rattle.node_rules.specs.Flights.{Named, flight_named}
use Rattle.node_rules.specs.Held.{held, holding}
use Rattle.node_rules.specs.Host.{Host}
use Rattle.node_rules.specs.HostRules.{host_air_in, host_tunnel_in}
use Rattle.node_rules.specs.Secondary.{SecondNode, adopted_there, fed_did, is_fed_of, low_told, name_of, on_fed, on_fed_of, second_effects}
use Rattle.node_rules.specs.SecondStep.{fed_ended, fed_took, frozen_ended, frozen_took, is_before_change, on_second_host, second_data, second_line}
use Rattle.node_rules.specs.declared.bearers.AnchorOut.{AnchorOut}
use Rattle.node_rules.specs.declared.inputs.Effects.{Effects}
use Rattle.run_control.proofs.Sent.{either}
use Rattle.run_confirms.proofs.States.{stays_at}
use Rattle.run_senders.specs.Holders.{IfThere}
use Rattle.run_confirmed.specs.Flights.{IsReadRight, IsTrue, IsTrueSend}
use Rattle.run_confirmed.specs.Nodes.{Goes, IsAnchorOf, IsHostOf, IsSecondOf, IsSteady}
use Rattle.run_confirmed.specs.Stories.{IsInOrder, Layout, Stories}
use Rattle.run_confirmed.proofs.Asides.{frozen_end_true, frozen_sdu_true}
use Rattle.run_confirmed.proofs.Growing.{none_by, sends_later, then_by, with_story}
use Rattle.run_confirmed.proofs.Held.{if_there, put_so, set_ascends, set_so}
use Rattle.run_confirmed.proofs.Hosts.{HostGoes, anchor_kept, anchor_other, host_air_goes, host_kept, host_other, host_tunnel_goes}
use Rattle.run_confirmed.proofs.Steps.{IsStep, air_is, anchor_goes, submit_is, tunnelled_is}

-- ---- steps one after another

module _ {S : Type 0} (layout : Layout) (x : Node) (P : Stories → S → Type 0) where
  -- a step
  abbrev pub Step : Stories → S × Effects → Type 0
  Step stories done = Goes layout x P stories done.0 done.1.sends

  -- the stories of a step are in order
  pub order_then : (stories : Stories) (state : S) (sent : List Send) → (g : Goes layout x P stories state sent) → (id k : ℕ) → IsInOrder (g.later id k)
  order_then stories state sent g id k = (g.by id k).later.order

  -- nothing is added
  pub stays_goes : (stories : Stories) → ((id g : ℕ) → IsInOrder (stories id g)) → (state : S) (sent : List Send) → P stories state
      → AllByRecursion (IsTrueSend layout stories) sent
      → Goes layout x P stories state sent
  stays_goes stories order state sent so true' = record { later = stories; by = none_by layout x stories order; so = so; sends = true' }

  -- one step and then another
  pub then_goes : (stories : Stories) (one two : S) (sent more : List Send) → (first : Goes layout x P stories one sent) → Goes layout x P first.later two more
      → Goes layout x P stories two (sent ++ more)
  then_goes stories one two sent more first then' = record {
    later = then'.later;
    by = then_by layout x stories first.later then'.later first.by then'.by;
    so = then'.so;
    sends =
        each_append (IsTrueSend layout then'.later) sent more (sends_later layout first.later then'.later (λ id g. (then'.by id g).later) sent first.sends) then'.sends;
  }

  -- more is sent before
  pub before_goes : (stories : Stories) (state : S) (sent more : List Send) → ((later : Stories) → AllByRecursion (IsTrueSend layout later) sent)
      → Goes layout x P stories state more
      → Goes layout x P stories state (sent ++ more)
  before_goes stories state sent more so g =
      record { later = g.later; by = g.by; so = g.so; sends = each_append (IsTrueSend layout g.later) sent more (so g.later) g.sends }

  pub after_goes : (stories : Stories) (state : S) (sent more : List Send) → ((later : Stories) → AllByRecursion (IsTrueSend layout later) more)
      → Goes layout x P stories state sent
      → Goes layout x P stories state (sent ++ more)
  after_goes stories state sent more so g =
      record { later = g.later; by = g.by; so = g.so; sends = each_append (IsTrueSend layout g.later) sent more g.sends (so g.later) }

  -- several in turn, each of which needs nothing but what the node has
  pub turns_go : {X : Type 0} (f : S → X → S × Effects)
      → ((stories : Stories) (s : S) (y : X) → ((id g : ℕ) → IsInOrder (stories id g)) → P stories s → Step stories (f s y))
      → (stories : Stories) (s : S) (ys : List X) → ((id g : ℕ) → IsInOrder (stories id g)) → P stories s → Step stories (in_turn f s ys)
  turns_go f step stories s [] order is = stays_goes stories order s [] is tt
  turns_go f step stories s (y ∷ ys) order is =
      let first = step stories s y order is in
      let rest = turns_go f step first.later (f s y).0 ys (order_then stories (f s y).0 (f s y).1.sends first) first.so in
      then_goes stories (f s y).0 (in_turn f (f s y).0 ys).0 (f s y).1.sends (in_turn f (f s y).0 ys).1.sends first rest

-- ---- a secondary node

module _ (layout : Layout) (x : Node) (other : is_same_node x T ≡ false) where
  -- what it has
  abbrev pub Has : Stories → SecondNode → Type 0
  Has stories s = IsSecondOf layout x stories s

  abbrev pub SecondGoes : Stories → SecondNode × Effects → Type 0
  SecondGoes stories done = Goes layout x Has stories done.0 done.1.sends

  abbrev InOrder : Stories → Type 0
  InOrder stories = (id g : ℕ) → IsInOrder (stories id g)

  pub idle_goes : (stories : Stories) (s : SecondNode) → InOrder stories → Has stories s → SecondGoes stories (s, quiet)
  idle_goes stories s order is = stays_goes layout x Has stories order s [] is tt

  -- ---- anchors

  adopted_true : (later : Stories) (me : Node) (id g : ℕ) (b : Bool) → AllByRecursion (IsTrueSend layout later) (adopted_there me id g b).sends
  adopted_true later me id g false = tt
  adopted_true later me id g true = (tt, tt)

  low_true : (later : Stories) (me : Node) (id g : ℕ) (o : Option ℕ) → AllByRecursion (IsTrueSend layout later) (low_told me id g o).sends
  low_true later me id g None = tt
  low_true later me id g (Some count) = (tt, tt)

  effects_true : (later : Stories) (me : Node) (id g : ℕ) (out : AnchorOut) → AllByRecursion (IsTrueSend layout later) out.sends
      → AllByRecursion (IsTrueSend layout later) (second_effects me id g out).sends
  effects_true later me id g out are =
      each_append (IsTrueSend layout later) ((adopted_there me id g out.adopted).sends ++ out.sends) (low_told me id g out.low).sends
      (each_append (IsTrueSend layout later) (adopted_there me id g out.adopted).sends out.sends (adopted_true later me id g out.adopted) are) (low_true later me id g out.low)

  -- of an anchor with its line
  abbrev FedIs : Stories → ℕ → Fed → Type 0
  FedIs stories id f = IsAnchorOf layout stories x id f.anchor

  -- the anchor of an identity after a step of it
  pub fed_goes : (stories : Stories) (order : InOrder stories) (s : SecondNode) (id : ℕ) (f : Fed) (done : Fed × AnchorOut) → Has stories s
      → FedIs stories id f → IsStep f.anchor (done.0.anchor, done.1)
      → SecondGoes stories (fed_did s id done)
  fed_goes stories order s id f done is here step =
      let g = (setup_at f.anchor).g in
      let got = anchor_goes layout x stories order id f.anchor (done.0.anchor, done.1) other here step in
      let later = with_story id g got.story stories in
      record {
        later = later;
        by = got.by;
        so = record {
          name = is.name;
          anchors = put_so (FedIs later) id done.0 s.anchors got.so
              (λ k apart. if_there (FedIs stories k) (FedIs later k) (λ y was. anchor_other layout x stories order id g got.story k y.anchor apart was) (held k s.anchors) (is.anchors k));
          hosts =
              λ k. if_there (IsHostOf layout stories x k) (IsHostOf layout later x k) (λ y was. host_kept layout x stories order id g got.story here.home k y was) (held k s.hosts) (is.hosts k);
          anchors_ascend = set_ascends (FedIs later) id (Some done.0) s.anchors is.anchors_ascend;
          hosts_ascend = is.hosts_ascend;
        };
        sends = effects_true later (name_of s) id (setup_at done.0.anchor).g done.1 got.sends;
      }

  -- a step that any anchor may take
  abbrev pub AnchorSteps : (AnchorState → AnchorState × AnchorOut) → Type 0
  AnchorSteps f = (a : AnchorState) → IsSteady a → IsStep a (f a)

  pub on_fed_goes : (stories : Stories) (order : InOrder stories) (s : SecondNode) (id : ℕ) (f : AnchorState → AnchorState × AnchorOut) (o : Option Fed)
      → AnchorSteps f → IfThere (FedIs stories id) o
      → Has stories s → SecondGoes stories (on_fed s id f o)
  on_fed_goes stories order s id f None steps here is = idle_goes stories s order is
  on_fed_goes stories order s id f (Some y) steps here is =
      fed_goes stories order s id y (record y { anchor = (f y.anchor).0 }, (f y.anchor).1) is here (steps y.anchor here.steady)

  pub held_goes : (stories : Stories) (order : InOrder stories) (s : SecondNode) (id : ℕ) (f : AnchorState → AnchorState × AnchorOut) → AnchorSteps f
      → Has stories s → SecondGoes stories (on_fed s id f (held id s.anchors))
  held_goes stories order s id f steps is = on_fed_goes stories order s id f (held id s.anchors) steps (is.anchors id) is

  pub of_goes : (stories : Stories) (order : InOrder stories) (s : SecondNode) (g : ℕ) (f : AnchorState → AnchorState × AnchorOut) (id : ℕ) → AnchorSteps f
      → Has stories s
      → SecondGoes stories (on_fed_of s g f id (held id s.anchors))
  of_goes stories order s g f id steps is =
      either (SecondGoes stories) (is_fed_of g (held id s.anchors)) (on_fed s id f (held id s.anchors)) (s, quiet) (held_goes stories order s id f steps is) (idle_goes stories s order is)

  -- ---- leg hosts

  pub on_host_goes : (stories : Stories) (order : InOrder stories) (s : SecondNode) (id : ℕ) (f : Host → Host × List Send) (o : Option Host)
      → IfThere (λ (h : Host). HostGoes layout x stories order id h.g (f h)) o → IfThere (IsHostOf layout stories x id) o → Has stories s
      → SecondGoes stories (on_second_host s id f o)
  on_host_goes stories order s id f None goes here is = idle_goes stories s order is
  on_host_goes stories order s id f (Some h) got here is =
      let g = h.g in
      let later = with_story id g got.story stories in
      record {
        later = later;
        by = got.by;
        so = record {
          name = is.name;
          anchors =
              λ k. if_there (FedIs stories k) (FedIs later k) (λ y was. anchor_kept layout x stories order id g got.story here.apart k y.anchor was) (held k s.anchors) (is.anchors k);
          hosts = put_so (λ k y. IsHostOf layout later x k y) id (f h).0 s.hosts got.so
              (λ k apart. if_there (IsHostOf layout stories x k) (IsHostOf layout later x k) (λ y was. host_other layout x stories order id g got.story k y apart was) (held k s.hosts) (is.hosts k));
          anchors_ascend = is.anchors_ascend;
          hosts_ascend = set_ascends (λ k y. IsHostOf layout later x k y) id (Some (f h).0) s.hosts is.hosts_ascend;
        };
        sends = got.sends;
      }

  -- ---- flights of user data

  data_goes : (stories : Stories) (order : InOrder stories) (s : SecondNode) (f : AnchorState → AnchorState × AnchorOut) (h : Host → Host × List Send) (o : Option Named) → AnchorSteps f
      → ((id : ℕ) (y : Host) → IsHostOf layout stories x id y → HostGoes layout x stories order id y.g (h y)) → Has stories s
      → SecondGoes stories (second_data s f h o)
  data_goes stories order s f h None steps hosts is = idle_goes stories s order is
  data_goes stories order s f h (Some (id, g)) steps hosts is =
      either (SecondGoes stories) (is_fed_of g (held id s.anchors)) (on_fed s id f (held id s.anchors)) (on_second_host s id h (held id s.hosts)) (held_goes stories order s id f steps is)
      (on_host_goes stories order s id h (held id s.hosts)
      (if_there (IsHostOf layout stories x id) (λ (y : Host). HostGoes layout x stories order id y.g (h y)) (λ y was. hosts id y was) (held id s.hosts) (is.hosts id)) (is.hosts id) is)

  -- over the air
  pub air_goes : (stories : Stories) (order : InOrder stories) (s : SecondNode) (l : LinkId) (f : Flight) → is_same_node l.from T ≡ true → l.to ≡ x
      → IsTrue layout stories l f → Has stories s
      → SecondGoes stories (second_data s (λ a. air_in a cell.Scg f) (λ h. host_air_in h f) (flight_named f))
  air_goes stories order s l f from to truth is =
      data_goes stories order s (λ a. air_in a cell.Scg f) (λ h. host_air_in h f) (flight_named f) (air_is cell.Scg f) (λ id y was. host_air_goes layout x stories order id y l f other was from to truth) is

  -- and through a tunnel
  pub tunnel_goes : (stories : Stories) (order : InOrder stories) (c : Choices) (s : SecondNode) (l : LinkId) (f : Flight) → IsTrue layout stories l f
      → IsReadRight layout stories l f → Has stories s
      → SecondGoes stories (second_data s (λ a. tunnel_in c a f) (λ h. host_tunnel_in h f) (flight_named f))
  tunnel_goes stories order c s l f truth reads is =
      data_goes stories order s (λ a. tunnel_in c a f) (λ h. host_tunnel_in h f) (flight_named f) (tunnelled_is c f) (λ id y was. host_tunnel_goes layout x stories order id y l f was truth reads) is

  -- ---- the core's lines

  with_frozen : (stories : Stories) (s : SecondNode) (frozen : List (ℕ × Frozen)) → Has stories s → Has stories (record s { frozen = frozen })
  with_frozen stories s frozen is =
      record { name = is.name; anchors = is.anchors; hosts = is.hosts; anchors_ascend = is.anchors_ascend; hosts_ascend = is.hosts_ascend }

  frozen_took_goes : (stories : Stories) (order : InOrder stories) (s : SecondNode) (id g : ℕ) (payload : List ℕ) (o : Option Frozen) → Has stories s
      → SecondGoes stories (frozen_took s id g payload o)
  frozen_took_goes stories order s id g payload None is = idle_goes stories s order is
  frozen_took_goes stories order s id g payload (Some f) is =
      let done = frozen_sdu_in f g payload in
      let frozen = holding id (Some done.0) s.frozen in
      stays_goes layout x Has stories order (record s { frozen = frozen }) done.1 (with_frozen stories s frozen is) (frozen_sdu_true layout stories f g payload)

  frozen_ended_goes : (stories : Stories) (order : InOrder stories) (s : SecondNode) (id g : ℕ) (o : Option Frozen) → Has stories s
      → SecondGoes stories (frozen_ended s id g o)
  frozen_ended_goes stories order s id g None is = idle_goes stories s order is
  frozen_ended_goes stories order s id g (Some f) is =
      let done = frozen_end_in f g in
      let frozen = holding id done.0 s.frozen in
      stays_goes layout x Has stories order (record s { frozen = frozen }) done.1 (with_frozen stories s frozen is) (frozen_end_true layout stories f g)

  pub none_is : (a : AnchorState) → IsSteady a → IsStep a (a, silent)
  none_is a is =
      record { bearer = refl; stays = record { node = refl; by = tt }; plain = refl; sends = λ air tun sent. stays_at air tun a (a, silent) sent tt; steady = is }

  sdu_is : (c : Choices) (f : Fed) (g : ℕ) (payload : List ℕ) → IsSteady f.anchor → IsStep f.anchor ((sdu_in c f g payload).0.anchor, (sdu_in c f g payload).1)
  sdu_is c f g payload is =
      either (λ (done : Fed × AnchorOut). IsStep f.anchor (done.0.anchor, done.1)) (nat_lt g f.since) (f, silent) (record f { anchor = (submit c f.anchor payload).0 }, (submit c f.anchor payload).1)
      (none_is f.anchor is) (submit_is c payload f.anchor is)

  fed_took_goes : (stories : Stories) (order : InOrder stories) (c : Choices) (s : SecondNode) (id g : ℕ) (payload : List ℕ) (o : Option Fed)
      → IfThere (FedIs stories id) o → Has stories s
      → SecondGoes stories (fed_took c s id g payload o)
  fed_took_goes stories order c s id g payload None here is = idle_goes stories s order is
  fed_took_goes stories order c s id g payload (Some f) here is =
      fed_goes stories order s id f (sdu_in c f g payload) is here (sdu_is c f g payload here.steady)

  end_same : (f : Fed) (g : ℕ) (a : AnchorState) → (end_in f g a).anchor ≡ f.anchor
  end_same f g (active_anchor a) = refl
  end_same f g (waiting_anchor w) = refl

  -- another anchor with the same story
  pub put_fed : (stories : Stories) (s : SecondNode) (id : ℕ) (o : Option Fed) → IfThere (FedIs stories id) o → Has stories s
      → Has stories (record s { anchors = holding id o s.anchors })
  put_fed stories s id o here is = record {
    name = is.name;
    anchors = set_so (FedIs stories) id o s.anchors is.anchors_ascend here (λ k apart. is.anchors k);
    hosts = is.hosts;
    anchors_ascend = set_ascends (FedIs stories) id o s.anchors is.anchors_ascend;
    hosts_ascend = is.hosts_ascend;
  }

  fed_ended_goes : (stories : Stories) (order : InOrder stories) (s : SecondNode) (id g : ℕ) (o : Option Fed) → IfThere (FedIs stories id) o → Has stories s
      → SecondGoes stories (fed_ended s id g o)
  fed_ended_goes stories order s id g None here is = idle_goes stories s order is
  fed_ended_goes stories order s id g (Some f) here is =
      let after = end_in f g f.anchor in
      let same : IsAnchorOf layout stories x id after.anchor = subst (IsAnchorOf layout stories x id) (sym (end_same f g f.anchor)) here in
      stays_goes layout x Has stories order (record s { anchors = holding id (Some after) s.anchors }) [] (put_fed stories s id (Some after) same is) tt

  pub line_goes : (stories : Stories) (order : InOrder stories) (c : Choices) (s : SecondNode) (f : Flight) → Has stories s
      → SecondGoes stories (second_line c s f)
  line_goes stories order c s (flight.Sdu id g payload) is =
      either (SecondGoes stories) (is_before_change g (held id s.frozen)) (frozen_took s id g payload (held id s.frozen)) (fed_took c s id g payload (held id s.anchors))
      (frozen_took_goes stories order s id g payload (held id s.frozen) is) (fed_took_goes stories order c s id g payload (held id s.anchors) (is.anchors id) is)
  line_goes stories order c s (flight.End id g) is =
      either (SecondGoes stories) (is_some (held id s.frozen)) (frozen_ended s id g (held id s.frozen)) (fed_ended s id g (held id s.anchors)) (frozen_ended_goes stories order s id g (held id s.frozen) is)
      (fed_ended_goes stories order s id g (held id s.anchors) (is.anchors id) is)
  line_goes stories order c s (flight.Told id g count) is = idle_goes stories s order is
  line_goes stories order c s (flight.Air id g num tag pdu) is = idle_goes stories s order is
  line_goes stories order c s (flight.Ack id g num) is = idle_goes stories s order is
  line_goes stories order c s (flight.Tun tag packet) is = idle_goes stories s order is
  line_goes stories order c s (flight.Ctl r) is = idle_goes stories s order is
