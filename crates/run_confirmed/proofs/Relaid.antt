-- What a secondary node adds in a step is of generations below those that it may yet be told of: the others stay unused.
use Rattle.std.proofs.Common.{◌≡◌, ℕ, ◌+◌, ◌≤◌, true, false, Bool, List, [], ◌∷◌, Option, Some, None, refl, sym, ap, ◌∙◌, subst, inl, inr, arith}
use Rattle.std.specs.Prelude.{if◌then◌else◌, nat_lt, slice_get, ⊤}
use Rattle.std.specs.List.{AllByRecursion}
use Rattle.std.proofs.lemmas.Bool.{cases_Bool, lt-ltb, ltb-false, ltb-true}
use Rattle.dc_base.specs.Nodes.{is_same_node}
use Rattle.dc_base.specs.declared.flights.Flight.{Flight}
use Rattle.dc_base.specs.declared.flights.Flight.TheVariants as flight
use Rattle.dc_base.specs.declared.nodes.Class.TheVariants.{Air, Ctl}
use Rattle.dc_base.specs.declared.nodes.LinkId.{LinkId}
use Rattle.dc_base.specs.declared.nodes.Node.{Node}
use Rattle.dc_base.specs.declared.nodes.Node.TheVariants.{T}
use Rattle.dc_base.specs.declared.records.Item.{Item}
use Rattle.dc_base.specs.declared.records.Item.TheVariants as item
use Rattle.dc_base.specs.declared.records.Plan.{Plan}
use Rattle.dc_base.specs.declared.records.Rec.{Rec}
use Rattle.dc_base.specs.declared.records.Rec.TheVariants as rec
use Rattle.node_rules.specs.Anchor.{AnchorState, setup_at}
use Rattle.node_rules.specs.Choices.{Choices, Send}
use Rattle.node_rules.specs.Feed.{Fed}
use Rattle.node_rules.specs.Held.{held}
use Rattle.node_rules.specs.Host.{Host}
use Rattle.node_rules.specs.SecondStep.{second_step}
use Rattle.node_rules.specs.Secondary.{SecondNode}
use Rattle.node_rules.specs.declared.inputs.Input.{Input}
use Rattle.node_rules.specs.declared.inputs.Input.TheVariants.{Cmd, Come}
use Rattle.run_confirms.specs.Statuses.{IsAckOf}
use Rattle.run_generations.specs.Ahead.{AllBelow, AreSentBelow, HasBelow, IsFedBelow, IsHostBelow}
use Rattle.run_generations.specs.Newer.{plan_generation}
use Rattle.run_generations.proofs.Orders.{later_below}
use Rattle.run_senders.specs.Holders.{IfThere}
use Rattle.run_senders.specs.Kinds.{MayBeOn}
use Rattle.run_senders.proofs.Held.{held_so}
use Rattle.run_words.specs.Senders.{AreBy as AreSentBy}
use Rattle.run_confirmed.specs.Flights.{IsReadRight, IsTrue, IsTruePacket, IsTrueSend}
use Rattle.run_confirmed.specs.Nodes.{Goes, IsAnchorOf, IsHostOf, IsSecondOf}
use Rattle.run_confirmed.specs.Plans.{IsFit, IsFitRecord, SetsAsLaidOut}
use Rattle.run_confirmed.specs.Stories.{AreBy, IsInOrder, IsNew, IsUnused, Layout, ReceivedBy, Stories, leg_of}
use Rattle.run_confirmed.proofs.SecondSteps.{InputIsRight, second_goes}

-- ---- another layout: from this generation on no node of the network has an anchor or a leg host

module _ (layout : Layout) (k : ℕ) where
  abbrev place : (ℕ → ℕ → Node) → ℕ → ℕ → Node
  place f id g = if nat_lt g k then f id g else T

  abbrev relaid : Layout
  relaid = record { home = place layout.home; host = place layout.host; n = layout.n }

  placed_below : (f : ℕ → ℕ → Node) (id g : ℕ) → g + 1 ≤ k → place f id g ≡ f id g
  placed_below f id g le = ap (λ (b : Bool). if b then f id g else T) (lt-ltb g k (omega (arith, le)))

  placed_above : (f : ℕ → ℕ → Node) (id g : ℕ) → nat_lt g k ≡ false → place f id g ≡ T
  placed_above f id g above = ap (λ (b : Bool). if b then f id g else T) above

  leg_below : (stories : Stories) (id g : ℕ) (y : Node) → g + 1 ≤ k → leg_of relaid stories id g y ≡ leg_of layout stories id g y
  leg_below stories id g y le = ap (λ (z : Node). if is_same_node y z then (stories id g).own else (stories id g).far) (placed_below layout.home id g le)

  -- ---- what it has

  module _ (x : Node) (stories : Stories) where
    anchor_to : (id : ℕ) (a : AnchorState) → (setup_at a).g + 1 ≤ k → IsAnchorOf layout stories x id a → IsAnchorOf relaid stories x id a
    anchor_to id a le is = record {
      same_id = is.same_id;
      node = is.node;
      home = placed_below layout.home id (setup_at a).g le ∙ is.home;
      n = is.n;
      sent = is.sent;
      steady = is.steady;
      named = is.named;
    }

    anchor_back : (id : ℕ) (a : AnchorState) → (setup_at a).g + 1 ≤ k → IsAnchorOf relaid stories x id a → IsAnchorOf layout stories x id a
    anchor_back id a le is = record {
      same_id = is.same_id;
      node = is.node;
      home = sym (placed_below layout.home id (setup_at a).g le) ∙ is.home;
      n = is.n;
      sent = is.sent;
      steady = is.steady;
      named = is.named;
    }

    host_to : (id : ℕ) (h : Host) → h.g + 1 ≤ k → IsHostOf layout stories x id h → IsHostOf relaid stories x id h
    host_to id h le is = record {
      same_id = is.same_id;
      node = is.node;
      host = placed_below layout.host id h.g le ∙ is.host;
      apart = ap (is_same_node x) (placed_below layout.home id h.g le) ∙ is.apart;
      n = is.n;
      has = is.has;
      leg = is.leg;
      named = is.named;
    }

    host_back : (id : ℕ) (h : Host) → h.g + 1 ≤ k → IsHostOf relaid stories x id h → IsHostOf layout stories x id h
    host_back id h le is = record {
      same_id = is.same_id;
      node = is.node;
      host = sym (placed_below layout.host id h.g le) ∙ is.host;
      apart = ap (is_same_node x) (sym (placed_below layout.home id h.g le)) ∙ is.apart;
      n = is.n;
      has = is.has;
      leg = is.leg;
      named = is.named;
    }

    both_there : {X : Type 0} (P Q R : X → Type 0) → ((y : X) → P y → Q y → R y) → (o : Option X) → IfThere P o → IfThere Q o → IfThere R o
    both_there P Q R each None p q = tt
    both_there P Q R each (Some y) p q = each y p q

    second_to : (s : SecondNode) → HasBelow k s → IsSecondOf layout x stories s → IsSecondOf relaid x stories s
    second_to s below is = record {
      name = is.name;
      anchors = λ id.
          both_there (IsFedBelow k) (λ (f : Fed). IsAnchorOf layout stories x id f.anchor) (λ (f : Fed). IsAnchorOf relaid stories x id f.anchor) (λ f le was. anchor_to id f.anchor le was) (held id s.anchors)
          (held_so (IsFedBelow k) id s.anchors below.0) (is.anchors id);
      hosts = λ id.
          both_there (IsHostBelow k) (IsHostOf layout stories x id) (IsHostOf relaid stories x id) (λ h le was. host_to id h le was) (held id s.hosts) (held_so (IsHostBelow k) id s.hosts below.1.0)
          (is.hosts id);
      anchors_ascend = is.anchors_ascend;
      hosts_ascend = is.hosts_ascend;
    }

    second_back : (s : SecondNode) → HasBelow k s → IsSecondOf relaid x stories s → IsSecondOf layout x stories s
    second_back s below is = record {
      name = is.name;
      anchors = λ id.
          both_there (IsFedBelow k) (λ (f : Fed). IsAnchorOf relaid stories x id f.anchor) (λ (f : Fed). IsAnchorOf layout stories x id f.anchor) (λ f le was. anchor_back id f.anchor le was) (held id s.anchors)
          (held_so (IsFedBelow k) id s.anchors below.0) (is.anchors id);
      hosts = λ id.
          both_there (IsHostBelow k) (IsHostOf relaid stories x id) (IsHostOf layout stories x id) (λ h le was. host_back id h le was) (held id s.hosts) (held_so (IsHostBelow k) id s.hosts below.1.0)
          (is.hosts id);
      anchors_ascend = is.anchors_ascend;
      hosts_ascend = is.hosts_ascend;
    }

  -- ---- plans

  laid_to : (p : Plan) (le : p.g + 1 ≤ k) (items : List Item) → AllByRecursion (SetsAsLaidOut layout p) items → AllByRecursion (SetsAsLaidOut relaid p) items
  laid_to p le [] laid = tt
  laid_to p le (item.Set id n first shape threshold policy key old ∷ items) laid = (
    record {
      home = placed_below layout.home id p.g le ∙ laid.0.home;
      host = λ y hosts. placed_below layout.host id p.g le ∙ laid.0.host y hosts;
      same_n = laid.0.same_n;
      named = laid.0.named;
      small = laid.0.small;
    },
    laid_to p le items laid.1,
  )
  laid_to p le (item.Unset id ∷ items) laid = (tt, laid_to p le items laid.1)

  unused_to : (x : Node) (stories : Stories) (id g : ℕ) → g + 1 ≤ k → IsUnused layout x id g (stories id g) → IsUnused relaid x id g (stories id g)
  unused_to x stories id g le is = record {
    own = λ here. is.own (sym (ap (is_same_node x) (placed_below layout.home id g le)) ∙ here);
    tunnel = λ here. is.tunnel (sym (ap (is_same_node x) (placed_below layout.home id g le)) ∙ here);
    far = λ here. is.far (sym (ap (is_same_node x) (placed_below layout.host id g le)) ∙ here);
    rx = is.rx;
  }

  fit_to : (x : Node) (stories : Stories) (p : Plan) → p.g + 1 ≤ k → IsFit layout (IsNew layout x stories) p → IsFit relaid (IsNew relaid x stories) p
  fit_to x stories p le fit = ((λ id. unused_to x stories id p.g le (fit.0 id)), laid_to p le p.items fit.1)

  record_to : (x : Node) (stories : Stories) → 1 ≤ k → (r : Rec) → AllBelow k (plan_generation r) → IsFitRecord layout (IsNew layout x stories) r
      → IsFitRecord relaid (IsNew relaid x stories) r
  record_to x stories one (rec.Addreq p key) below fit = fit_to x stories p (later_below k p.g one below) fit
  record_to x stories one (rec.Modreq p key) below fit = fit_to x stories p (later_below k p.g one below) fit
  record_to x stories one (rec.Relreq p) below fit = fit_to x stories p (later_below k p.g one below) fit
  record_to x stories one (rec.Chgcnf p) below fit = fit_to x stories p (later_below k p.g one below) fit
  record_to x stories one (rec.Relcnf p) below fit = λ some. fit_to x stories p (later_below k p.g one below) (fit some)
  record_to x stories one (rec.Snst status) below fit = fit
  record_to x stories one (rec.Reconf p key) below fit = tt
  record_to x stories one (rec.Rcomp g) below fit = tt
  record_to x stories one (rec.Scgf failed) below fit = tt
  record_to x stories one (rec.Recov id) below fit = tt
  record_to x stories one (rec.Recovd id) below fit = tt
  record_to x stories one (rec.Addack g) below fit = tt
  record_to x stories one (rec.Addrej g) below fit = tt
  record_to x stories one (rec.Modack g) below fit = tt
  record_to x stories one (rec.Modrej g) below fit = tt
  record_to x stories one (rec.Recfg g) below fit = tt
  record_to x stories one (rec.Relack g) below fit = tt
  record_to x stories one (rec.Relrej g) below fit = tt
  record_to x stories one (rec.Uecr g) below fit = tt
  record_to x stories one (rec.Moved g id) below fit = tt
  record_to x stories one (rec.Scgn id g) below fit = tt
  record_to x stories one rec.Modrqd below fit = tt
  record_to x stories one (rec.Modcnf g) below fit = tt
  record_to x stories one (rec.Modref word) below fit = tt
  record_to x stories one rec.Chgrqd below fit = tt
  record_to x stories one (rec.Chgref word) below fit = tt
  record_to x stories one rec.Relrqd below fit = tt

  -- ---- flights

  packet_to : (stories : Stories) (tag : Option ℕ) (packet : List ℕ) → IsTruePacket layout stories tag packet → IsTruePacket relaid stories tag packet
  packet_to stories tag packet (inl down) = inl down
  packet_to stories tag packet (inr (inl told)) =
      inr (inl (record { id = told.id; g = told.g; status = told.status; is = told.is; truth = told.truth; fits = told.fits; named = told.named }))
  packet_to stories tag packet (inr (inr aside)) = inr (inr aside)

  packet_back : (stories : Stories) (tag : Option ℕ) (packet : List ℕ) → IsTruePacket relaid stories tag packet → IsTruePacket layout stories tag packet
  packet_back stories tag packet (inl down) = inl down
  packet_back stories tag packet (inr (inl told)) =
      inr (inl (record { id = told.id; g = told.g; status = told.status; is = told.is; truth = told.truth; fits = told.fits; named = told.named }))
  packet_back stories tag packet (inr (inr aside)) = inr (inr aside)

  reads_to : (stories : Stories) (l : LinkId) (f : Flight) → IsReadRight layout stories l f → IsReadRight relaid stories l f
  reads_to stories l (flight.Tun tag packet) reads = λ d. let is = reads d in record { small = is.small; short = is.short; shows = is.shows }
  reads_to stories l (flight.Air id g num tag pdu) reads = reads
  reads_to stories l (flight.Ack id g num) reads = tt
  reads_to stories l (flight.Sdu id g payload) reads = tt
  reads_to stories l (flight.End id g) reads = tt
  reads_to stories l (flight.Told id g count) reads = tt
  reads_to stories l (flight.Ctl r) reads = tt

  no_ack : (received : ℕ → Type 0) (leg : List (Option ℕ)) (num : ℕ) → leg ≡ [] → IsAckOf leg received num → ⊥
  no_ack received leg num none ack = subst (λ (l : List (Option ℕ)). IsAckOf l received num) none ack

  module _ (x : Node) (other : is_same_node x T ≡ false) (stories : Stories) (unused : (id g : ℕ) → k ≤ g → IsUnused layout x id g (stories id g)) where
    -- the leg of a later generation at the node
    leg_above : (id g : ℕ) → nat_lt g k ≡ false → leg_of relaid stories id g x ≡ (stories id g).far
    leg_above id g above =
        ap (λ (b : Bool). if b then (stories id g).own else (stories id g).far) (ap (is_same_node x) (placed_above layout.home id g above) ∙ other)

    ack_to : (id g num : ℕ) (b : Bool) → nat_lt g k ≡ b → IsAckOf (leg_of layout stories id g x) (ReceivedBy (stories id g).rx) num
        → IsAckOf (leg_of relaid stories id g x) (ReceivedBy (stories id g).rx) num
    ack_to id g num true below ack =
        subst (λ (leg : List (Option ℕ)). IsAckOf leg (ReceivedBy (stories id g).rx) num) (sym (leg_below stories id g x (let le = ltb-true g k below in omega (arith, le)))) ack
    ack_to id g num false above ack = subst (λ (leg : List (Option ℕ)). IsAckOf leg (ReceivedBy (stories id g).rx) num) (sym (leg_above id g above)) (by (is_same_node x (layout.home id g)) refl ack)
      where
        by : (b : Bool) → is_same_node x (layout.home id g) ≡ b → IsAckOf (if b then (stories id g).own else (stories id g).far) (ReceivedBy (stories id g).rx) num
            → IsAckOf (stories id g).far (ReceivedBy (stories id g).rx) num
        by true here ack = absurd (no_ack (ReceivedBy (stories id g).rx) (stories id g).own num ((unused id g (ltb-false g k above)).own here) ack)
        by false there ack = ack

    true_to : (l : LinkId) (f : Flight) → MayBeOn l f → (l.class ≡ Air → is_same_node l.from T ≡ true) → l.to ≡ x → IsTrue layout stories l f
        → IsTrue relaid stories l f
    true_to l (flight.Air id g num tag pdu) may from to true' = λ down. absurd (let bad : true ≡ false = sym (from may.class) ∙ down in cc)
    true_to l (flight.Ack id g num) may from to true' = λ up.
        subst (λ (y : Node). IsAckOf (leg_of relaid stories id g y) (ReceivedBy (stories id g).rx) num) (sym to)
        (ack_to id g num (nat_lt g k) refl (subst (λ (y : Node). IsAckOf (leg_of layout stories id g y) (ReceivedBy (stories id g).rx) num) to (true' up)))
    true_to l (flight.Tun tag packet) may from to true' = packet_to stories tag packet true'
    true_to l (flight.Ctl r) may from to true' = true'
    true_to l (flight.Sdu id g payload) may from to true' = tt
    true_to l (flight.End id g) may from to true' = tt
    true_to l (flight.Told id g count) may from to true' = tt

  -- what the node sends
  send_back : (x : Node) → is_same_node x T ≡ false → (later : Stories) (ss : List Send) → AreSentBelow k ss → AreSentBy x ss
      → AllByRecursion (IsTrueSend relaid later) ss → AllByRecursion (IsTrueSend layout later) ss
  send_back x other later [] below by all = tt
  send_back x other later ((l, flight.Air id g num tag pdu) ∷ ss) below by all = (
    λ down. ap (λ (leg : List (Option ℕ)). slice_get leg num) (sym (leg_below later id g l.from below.0)) ∙ all.0 down,
    send_back x other later ss below.1 by.1 all.1,
  )
  send_back x other later ((l, flight.Ack id g num) ∷ ss) below by all = (
    λ up. absurd (let bad : true ≡ false = sym up ∙ ap (λ (y : Node). is_same_node y T) by.0.0 ∙ other in cc),
    send_back x other later ss below.1 by.1 all.1,
  )
  send_back x other later ((l, flight.Tun tag packet) ∷ ss) below by all = (packet_back later tag packet all.0, send_back x other later ss below.1 by.1 all.1)
  send_back x other later ((l, flight.Ctl r) ∷ ss) below by all = (all.0, send_back x other later ss below.1 by.1 all.1)
  send_back x other later ((l, flight.Sdu id g payload) ∷ ss) below by all = (tt, send_back x other later ss below.1 by.1 all.1)
  send_back x other later ((l, flight.End id g) ∷ ss) below by all = (tt, send_back x other later ss below.1 by.1 all.1)
  send_back x other later ((l, flight.Told id g count) ∷ ss) below by all = (tt, send_back x other later ss below.1 by.1 all.1)

  -- ---- what it adds

  module _ (x : Node) (other : is_same_node x T ≡ false) (a b : Stories) (by : AreBy relaid x a b) where
    away : (f : ℕ → ℕ → Node) (id g : ℕ) → is_same_node x (f id g) ≡ false → is_same_node x (place f id g) ≡ false
    away f id g apart = elim (cases_Bool (nat_lt g k)) [
      | inl below ↦ ap (λ (t : Bool). is_same_node x (if t then f id g else T)) below ∙ apart
      | inr above ↦ ap (λ (t : Bool). is_same_node x (if t then f id g else T)) above ∙ other
    ]

    by_back : AreBy layout x a b
    by_back id g = let is = by id g in record {
      later = is.later;
      own = λ apart. is.own (away layout.home id g apart);
      tunnel = λ apart. is.tunnel (away layout.home id g apart);
      far = λ apart. is.far (away layout.host id g apart);
      rx = is.rx;
    }

    beyond : (f : ℕ → ℕ → Node) (id g : ℕ) → k ≤ g → is_same_node x (place f id g) ≡ false
    beyond f id g above = elim (cases_Bool (nat_lt g k)) [
      | inl below ↦ absurd (let less = ltb-true g k below in omega (arith, less, above))
      | inr not_below ↦ ap (λ (t : Bool). is_same_node x (if t then f id g else T)) not_below ∙ other
    ]

    unused_back : (id g : ℕ) → k ≤ g → IsUnused layout x id g (a id g) → IsUnused layout x id g (b id g)
    unused_back id g above is = record {
      own = λ here. (by id g).own (beyond layout.home id g above) ∙ is.own here;
      tunnel = λ here. (by id g).tunnel (beyond layout.home id g above) ∙ is.tunnel here;
      far = λ here. (by id g).far (beyond layout.host id g above) ∙ is.far here;
      rx = λ up. absurd (let bad : true ≡ false = sym up ∙ other in cc);
    }

-- a step of a secondary node, after which what was not used yet from this generation on is not
pub record StaysUnused (layout : Layout) (x : Node) (k : ℕ) (stories : Stories) (state : SecondNode) (sent : List Send) : Type 0 where
  pub goes : Goes layout x (λ (later : Stories) (s : SecondNode). IsSecondOf layout x later s) stories state sent
  pub unused : (id g : ℕ) → k ≤ g → IsUnused layout x id g (goes.later id g)

-- what comes may be on its link
abbrev pub InputMayBe : Input → Type 0
InputMayBe (Cmd e) = ⊤
InputMayBe (Come l f) = MayBeOn l f

-- a record in it has a plan below this generation
abbrev pub InputIsBelow : ℕ → Input → Type 0
InputIsBelow k (Cmd e) = ⊤
InputIsBelow k (Come l f) = (r : Rec) → f ≡ flight.Ctl r → l.class ≡ Ctl → AllBelow k (plan_generation r)

module _ (layout : Layout) (x : Node) (other : is_same_node x T ≡ false) (k : ℕ) (one : 1 ≤ k) (stories : Stories) (order : (id g : ℕ) → IsInOrder (stories id g)) (unused : (id g : ℕ) → k ≤ g → IsUnused layout x id g (stories id g)) where
  input_to : (i : Input) → InputMayBe i → InputIsBelow k i → InputIsRight layout x other stories i → InputIsRight (relaid layout k) x other stories i
  input_to (Cmd e) may below right = tt
  input_to (Come l f) may below right = record {
    from = right.from;
    to = right.to;
    true' = true_to layout k x other stories unused l f may right.from right.to right.true';
    reads = reads_to layout k stories l f right.reads;
    fits = λ r same class. record_to layout k x stories one r (below r same class) (right.fits r same class);
  }

  pub second_unused : (c : Choices) (s : SecondNode) (i : Input) → InputMayBe i → InputIsBelow k i → InputIsRight layout x other stories i
      → IsSecondOf layout x stories s
      → HasBelow k s → HasBelow k (second_step c s i).0 → AreSentBelow k (second_step c s i).1.sends → AreSentBy x (second_step c s i).1.sends
      → StaysUnused layout x k stories (second_step c s i).0 (second_step c s i).1.sends
  second_unused c s i may below right is had has sent by =
      let got = second_goes (relaid layout k) x other stories order c s i (input_to i may below right) (second_to layout k x stories s had is) in
      record {
        goes = record {
          later = got.later;
          by = by_back layout k x other stories got.later got.by;
          so = second_back layout k x got.later (second_step c s i).0 has got.so;
          sends = send_back layout k x other got.later (second_step c s i).1.sends sent by got.sends;
        };
        unused = λ id g above. unused_back layout k x other stories got.later got.by id g above (unused id g above);
      }
