-- What comes to a leg host adds to its story behind what it has.
use Rattle.std.proofs.Common.{◌≡◌, ℕ, ◌++◌, ◌==◌, ◌&&◌, ◌^◌, true, false, Bool, List, [], ◌∷◌, Option, Some, None, Result, Ok, Err, refl, sym, ap, ◌∙◌, subst, inl, inr, arith}
use Rattle.std.specs.Prelude.{if◌then◌else◌, slice_get}
use Rattle.std.specs.List.{AllByRecursion}
use Rattle.std.proofs.lemmas.Bool.{and_parts, cases_Bool, eqb-true}
use Rattle.std.proofs.lemmas.List.{append-nil}
use Rattle.dc_base.specs.Nodes.{is_same_node}
use Rattle.dc_base.specs.declared.flights.Flight.{Flight}
use Rattle.dc_base.specs.declared.flights.Flight.TheVariants as flight
use Rattle.dc_base.specs.declared.nodes.LinkId.{LinkId}
use Rattle.dc_base.specs.declared.nodes.Node.{Node}
use Rattle.dc_base.specs.declared.nodes.Node.TheVariants.{T}
use Rattle.dc_base.specs.declared.numbers.SnLen.{SnLen}
use Rattle.nr_u.specs.Frames.{IsWritable}
use Rattle.nr_u.specs.declared.frame.Frame.{Frame}
use Rattle.nr_u.specs.Tunnel.Incoming.{has}
use Rattle.nr_u.specs.declared.tunnel.outbound.Sent.{Sent}
use Rattle.pdcp_pdu.specs.Pdu.{Content, decoded}
use Rattle.pdcp_pdu.specs.declared.pdu.PduErr.{PduErr}
use Rattle.pdcp_rx.specs.declared.entity.RxParts.{RxParts}
use Rattle.node_rules.specs.Anchor.{AnchorState, setup_at}
use Rattle.node_rules.specs.Choices.{Send}
use Rattle.node_rules.specs.Host.{Host}
use Rattle.node_rules.specs.HostRules.{confirmed, host_air_in, host_packet, host_tunnel_in, is_hosts, pdu_came, put_on_leg, sn_in, to_anchor, to_terminal}
use Rattle.node_rules.specs.Packets.{Packet, delivery, forwarding, nothing, packet_of, pdu_down, pdu_up, status_packet, up_packet}
use Rattle.run_control.proofs.Sent.{either}
use Rattle.run_confirms.specs.Hosts.{HostHas, IsNumberedOn, SendsStatus, Shows, WasSent, host_leg}
use Rattle.run_confirms.specs.Packets.{IsTrueFor}
use Rattle.run_confirms.specs.States.{StateSent}
use Rattle.run_confirms.specs.Statuses.{IsAckOf, IsStatusOf}
use Rattle.run_confirms.proofs.Arriving.{host_hears, host_relays, host_takes}
use Rattle.run_confirms.proofs.Packets.{down_is_read, status_is_read}
use Rattle.run_senders.specs.Holders.{HostStays}
use Rattle.run_senders.proofs.Hosts.{host_air_stays, host_tunnel_stays}
use Rattle.run_words.specs.Senders.{AreBy as AreSentBy}
use Rattle.run_confirmed.specs.Flights.{IsReadRight, IsTold, IsTrue, IsTruePacket, IsTrueSend, is_aside}
use Rattle.run_confirmed.specs.Nodes.{IsAnchorOf, IsHostOf, IsNameable}
use Rattle.run_confirmed.specs.Stories.{AreBy, IsInOrder, IsLater, Layout, ReceivedBy, Stories, Story, fitting, leg_of}
use Rattle.run_confirmed.proofs.Asides.{up_aside}
use Rattle.run_confirmed.proofs.Growing.{extends_none, fitting_front, fitting_get, fitting_short, front_below, front_order, host_more, later_none, story_by, story_else, story_here, story_other, with_story}
use Rattle.run_confirmed.proofs.Steps.{itself}

-- ---- what a packet says is so

module _ (layout : Layout) (stories : Stories) (tag : Option ℕ) where
  -- what a packet says is so of a bearer and generation
  abbrev At : Packet → ℕ → ℕ → Type 0
  At p id g = IsTrueFor id g (layout.n id g) (fitting (stories id g).tunnel) (ReceivedBy (stories id g).rx) tag p

  -- if it is so of its own
  down_for : (i h id g number : ℕ) (repeat : Bool) (pdu : List ℕ) → At (pdu_down i h number repeat pdu) i h → At (pdu_down i h number repeat pdu) id g
  down_for i h id g number repeat pdu is = λ same_id same_g.
      subst (λ (k : ℕ). WasSent (fitting (stories k g).tunnel) number repeat tag × Shows (layout.n k g) tag (decoded (layout.n k g) pdu)) same_id
      (subst (λ (m : ℕ). WasSent (fitting (stories i m).tunnel) number repeat tag × Shows (layout.n i m) tag (decoded (layout.n i m) pdu)) same_g (is refl refl))

  status_for : (i h id g : ℕ) (status : Frame) → At (delivery i h status) i h → At (delivery i h status) id g
  status_for i h id g status is = λ same_id same_g.
      subst (λ (k : ℕ). IsStatusOf (layout.n k g) (fitting (stories k g).tunnel) (ReceivedBy (stories k g).rx) tag status) same_id
      (subst (λ (m : ℕ). IsStatusOf (layout.n i m) (fitting (stories i m).tunnel) (ReceivedBy (stories i m).rx) tag status) same_g (is refl refl))

  aside_for : (id g : ℕ) (p : Packet) → is_aside p ≡ true → At p id g
  aside_for id g (pdu_down i h number repeat pdu) aside = absurd (let bad : false ≡ true = aside in cc)
  aside_for id g (pdu_up i h pdu) aside = tt
  aside_for id g (delivery i h status) aside = absurd (let bad : false ≡ true = aside in cc)
  aside_for id g (forwarding i h d load) aside = tt
  aside_for id g nothing aside = tt

  -- a packet is so of any bearer and generation
  pub packet_true : (l : LinkId) (packet : List ℕ) (id g : ℕ) → IsTruePacket layout stories tag packet → IsReadRight layout stories l (flight.Tun tag packet)
      → At (packet_of packet) id g
  packet_true l packet id g (inl x) reads =
      let i = x.id in
      let h = x.g in
      let number = x.sent.number in
      let repeat = x.sent.repeat in
      let pdu = x.sent.pdu in
      let read = reads x in
      let said : packet_of packet ≡ pdu_down i h number repeat pdu = ap packet_of x.sent.is ∙ down_is_read i h number repeat pdu read.small (record { some = x.named.some; small = x.named.small; generation = x.named.generation; short = read.short }) in
      let fits : WasSent (fitting (stories i h).tunnel) number repeat tag = fitting_get (stories i h).tunnel number (record { count = tag; repeat = repeat }) read.small x.sent.sent in
      subst (λ (p : Packet). At p id g) (sym said) (down_for i h id g number repeat pdu (λ same_id same_g. (fits, read.shows.shows)))
  packet_true l packet id g (inr (inl x)) reads =
      let i = x.id in
      let h = x.g in
      let truth = x.truth in
      let said : packet_of packet ≡ delivery i h x.status =
      ap packet_of x.is ∙ ap (λ (f : Frame). packet_of (status_packet h i f)) truth.frame ∙ status_is_read i h truth.highest truth.lost (subst IsWritable truth.frame x.fits) x.named
      ∙ ap (delivery i h) (sym truth.frame) in
      subst (λ (p : Packet). At p id g) (sym said) (status_for i h id g x.status (λ same_id same_g. truth))
  packet_true l packet id g (inr (inr aside)) reads = aside_for id g (packet_of packet) aside

-- ---- what stays of a host

-- it is the same host, and sends from its node
pub record IsSameHost (h : Host) (done : Host × List Send) : Type 0 where
  pub id : done.0.id ≡ h.id
  pub g : done.0.g ≡ h.g
  pub n : done.0.tunnel.n ≡ h.tunnel.n
  pub stays : HostStays h done

-- but for its node
abbrev SameFace : Host → Host → Type 0
SameFace h after = (after.id ≡ h.id) × (after.g ≡ h.g) × (after.tunnel.n ≡ h.tunnel.n)

same_face : (h : Host) → SameFace h h
same_face h = (refl, refl, refl)

put_face : (h : Host) (number : ℕ) (repeat : Bool) (tag : Option ℕ) (pdu : List ℕ) (sn : Option ℕ) → SameFace h (put_on_leg h number repeat tag pdu sn).0
put_face h number repeat tag pdu sn =
    elim (cases_Bool (has number h.tunnel.came)) [ inl there ↦ rw there (refl, refl, refl) | inr new ↦ rw new (refl, refl, refl) ]

came_face : (h : Host) (number : ℕ) (repeat : Bool) (tag : Option ℕ) (pdu : List ℕ) (x : Result Content PduErr)
    → SameFace h (pdu_came h number repeat tag pdu x).0
came_face h number repeat tag pdu (Err e) = same_face h
came_face h number repeat tag pdu (Ok x) =
    either (λ (done : Host × List Send). SameFace h done.0) (has number h.tunnel.came) (h, []) (put_on_leg h number repeat tag pdu (sn_in x)) (same_face h) (put_face h number repeat tag pdu (sn_in x))

packet_face : (h : Host) (tag : Option ℕ) (p : Packet) → SameFace h (host_packet h tag p).0
packet_face h tag (pdu_down id g number repeat pdu) =
    either (λ (done : Host × List Send). SameFace h done.0) (is_hosts h id g) (pdu_came h number repeat tag pdu (decoded h.tunnel.n pdu)) (h, []) (came_face h number repeat tag pdu (decoded h.tunnel.n pdu)) (same_face h)
packet_face h tag (pdu_up id g pdu) = same_face h
packet_face h tag (delivery id g status) = same_face h
packet_face h tag (forwarding id g d load) = same_face h
packet_face h tag nothing = same_face h

confirmed_face : (h : Host) (o : Option ℕ) → SameFace h (confirmed h o).0
confirmed_face h None = same_face h
confirmed_face h (Some number) = (refl, refl, refl)

-- ---- what it sends for a packet goes over the air

abbrev is_air : Flight → Bool
is_air (flight.Air id g num tag pdu) = true
is_air _ = false

abbrev AllAir : List Send → Type 0
AllAir ss = AllByRecursion (λ (s : Send). is_air s.1 ≡ true) ss

came_air : (h : Host) (number : ℕ) (repeat : Bool) (tag : Option ℕ) (pdu : List ℕ) (x : Result Content PduErr) → AllAir (pdu_came h number repeat tag pdu x).1
came_air h number repeat tag pdu (Err e) = tt
came_air h number repeat tag pdu (Ok x) =
    either (λ (done : Host × List Send). AllAir done.1) (has number h.tunnel.came) (h, []) (put_on_leg h number repeat tag pdu (sn_in x)) tt (refl, tt)

packet_air : (h : Host) (tag : Option ℕ) (p : Packet) → AllAir (host_packet h tag p).1
packet_air h tag (pdu_down id g number repeat pdu) =
    either (λ (done : Host × List Send). AllAir done.1) (is_hosts h id g) (pdu_came h number repeat tag pdu (decoded h.tunnel.n pdu)) (h, []) (came_air h number repeat tag pdu (decoded h.tunnel.n pdu)) tt
packet_air h tag (pdu_up id g pdu) = tt
packet_air h tag (delivery id g status) = tt
packet_air h tag (forwarding id g d load) = tt
packet_air h tag nothing = tt

-- ---- a step

module _ (layout : Layout) (x : Node) (stories : Stories) (order : (id g : ℕ) → IsInOrder (stories id g)) where
  -- a host after it, with the story of its generation
  pub record HostGoes (id g : ℕ) (done : Host × List Send) : Type 0 where
    pub story : Story
    pub by : AreBy layout x stories (with_story id g story stories)
    pub so : IsHostOf layout (with_story id g story stories) x id done.0
    pub sends : AllByRecursion (IsTrueSend layout (with_story id g story stories)) done.1

  -- the leg of a host
  far_leg : (later : Stories) (id g : ℕ) → is_same_node x (layout.home id g) ≡ false → leg_of layout later id g x ≡ (later id g).far
  far_leg later id g apart = ap (λ (b : Bool). if b then (later id g).own else (later id g).far) apart

  -- PDUs that it puts on its leg are so
  air_true : (later : Stories) (id g : ℕ) → is_same_node x (layout.home id g) ≡ false → (ss : List Send) → AreSentBy x ss → AllAir ss
      → AllByRecursion (λ (s : Send). IsNumberedOn id g (later id g).far s.1) ss → AllByRecursion (IsTrueSend layout later) ss
  air_true later id g apart [] by air are = tt
  air_true later id g apart ((l, flight.Air i h num tag pdu) ∷ ss) by air are = (
    λ down.
        ap (λ (y : Node). slice_get (leg_of layout later i h y) num) by.0.0 ∙ ap (λ (k : ℕ). slice_get (leg_of layout later k h x) num) are.0.0
        ∙ ap (λ (k : ℕ). slice_get (leg_of layout later id k x) num) are.0.1 ∙ ap (λ (leg : List (Option ℕ)). slice_get leg num) (far_leg later id g apart) ∙ are.0.2,
    air_true later id g apart ss by.1 air.1 are.1,
  )
  air_true later id g apart ((l, flight.Ack i h num) ∷ ss) by air are = absurd (let bad : false ≡ true = air.0 in cc)
  air_true later id g apart ((l, flight.Tun tag packet) ∷ ss) by air are = absurd (let bad : false ≡ true = air.0 in cc)
  air_true later id g apart ((l, flight.Sdu i h payload) ∷ ss) by air are = absurd (let bad : false ≡ true = air.0 in cc)
  air_true later id g apart ((l, flight.End i h) ∷ ss) by air are = absurd (let bad : false ≡ true = air.0 in cc)
  air_true later id g apart ((l, flight.Told i h count) ∷ ss) by air are = absurd (let bad : false ≡ true = air.0 in cc)
  air_true later id g apart ((l, flight.Ctl r) ∷ ss) by air are = absurd (let bad : false ≡ true = air.0 in cc)

  -- the stories where its leg is this one
  abbrev with_far : ℕ → ℕ → List (Option ℕ) → Story
  with_far id g far = record (stories id g) { far = far }

  far_by : (id g : ℕ) (far more : List (Option ℕ)) → layout.host id g ≡ x → far ≡ (stories id g).far ++ more
      → AreBy layout x stories (with_story id g (with_far id g far) stories)
  far_by id g far more host is =
      let s = stories id g in
      story_by layout x id g (with_far id g far) stories order (record {
        later = record {
          own = extends_none s.own;
          tunnel = extends_none s.tunnel;
          far = record { more = more; is = is };
          received = λ count yes'. yes';
          order = record { rise = (order id g).rise; below = (order id g).below };
        };
        own = λ apart. refl;
        tunnel = λ apart. refl;
        far = λ apart. absurd (let bad : true ≡ false = sym (ap (is_same_node x) host ∙ itself x) ∙ apart in cc);
        rx = λ apart. refl;
      })

  -- a host that has what was sent
  far_so : (id : ℕ) (h : Host) (done : Host × List Send) → IsHostOf layout stories x id h → IsSameHost h done
      → HostHas (fitting (stories id h.g).tunnel) (ReceivedBy (stories id h.g).rx) done.0
      → IsHostOf layout (with_story id h.g (with_far id h.g (host_leg (fitting (stories id h.g).tunnel) done.0)) stories) x id done.0
  far_so id h done is same has =
      let g = h.g in
      let s = with_far id g (host_leg (fitting (stories id g).tunnel) done.0) in
      let later = with_story id g s stories in
      let here : later id g ≡ s = story_here id g s stories in
      let there : later id done.0.g ≡ s = ap (later id) same.g ∙ here in
      record {
        same_id = same.id ∙ is.same_id;
        node = same.stays.node ∙ is.node;
        host = ap (layout.host id) same.g ∙ is.host;
        apart = ap (λ k. is_same_node x (layout.home id k)) same.g ∙ is.apart;
        n = same.n ∙ is.n ∙ ap (layout.n id) (sym same.g);
        has = subst (λ (t : Story). HostHas (fitting t.tunnel) (ReceivedBy t.rx) done.0) (sym there) has;
        leg = subst (λ (t : Story). host_leg (fitting t.tunnel) done.0 ≡ t.far) (sym there) refl;
        named = subst (IsNameable id) (sym same.g) is.named;
      }

  -- a packet comes
  pub packet_goes : (id : ℕ) (h : Host) (l : LinkId) (tag : Option ℕ) (packet : List ℕ) → IsHostOf layout stories x id h
      → IsTruePacket layout stories tag packet
      → IsReadRight layout stories l (flight.Tun tag packet)
      → HostGoes id h.g (host_tunnel_in h (flight.Tun tag packet))
  packet_goes id h l tag packet is truth reads =
      let g = h.g in
      let tun = fitting (stories id g).tunnel in
      let received = ReceivedBy (stories id g).rx in
      let p = packet_of packet in
      let done = host_packet h tag p in
      let said : IsTrueFor h.id g h.tunnel.n tun received tag p =
      subst (λ (n : SnLen). IsTrueFor h.id g n tun received tag p) (sym is.n)
      (subst (λ (k : ℕ). IsTrueFor k g (layout.n id g) tun received tag p) (sym is.same_id) (packet_true layout stories tag l packet id g truth reads)) in
      let taken = host_takes tun received h tag p said is.has in
      let face = packet_face h tag p in
      let same : IsSameHost h done = record { id = face.0; g = face.1; n = face.2; stays = host_tunnel_stays h (flight.Tun tag packet) } in
      let far = host_leg tun done.0 in
      let s = with_far id g far in
      let later = with_story id g s stories in
      let puts : AllByRecursion (λ (e : Send). IsNumberedOn id g (later id g).far e.1) done.1 =
      subst (λ (t : Story). AllByRecursion (λ (e : Send). IsNumberedOn id g t.far e.1) done.1) (sym (story_here id g s stories))
      (subst (λ (k : ℕ). AllByRecursion (λ (e : Send). IsNumberedOn k g far e.1) done.1) is.same_id taken.puts) in
      record {
        story = s;
        by = far_by id g far taken.more is.host (taken.leg ∙ ap (λ l. l ++ taken.more) is.leg);
        so = far_so id h done is same taken.has;
        sends = air_true later id g is.apart done.1 (subst (λ (y : Node). AreSentBy y done.1) is.node same.stays.by) (packet_air h tag p) puts;
      }

  -- it is of the host's identity and generation
  named_hosts : (h : Host) (i g : ℕ) → is_hosts h i g ≡ true → (h.id ≡ i) × (h.g ≡ g)
  named_hosts h i g ours = let both = and_parts (h.id == i) (h.g == g) ours in (eqb-true h.id i both.0, eqb-true h.g g both.1)

  ack_face : (h : Host) (i g num : ℕ) → SameFace h (host_air_in h (flight.Ack i g num)).0
  ack_face h i g num =
      either (λ (done : Host × List Send). SameFace h done.0) (is_hosts h i g) (confirmed h (slice_get h.carried num)) (h, []) (confirmed_face h (slice_get h.carried num)) (same_face h)

  -- delivery statuses that it sends are so
  says_true : (id : ℕ) (h : Host) (later : Stories) → IsHostOf layout stories x id h → (later id h.g).tunnel ≡ (stories id h.g).tunnel
      → (later id h.g).rx ≡ (stories id h.g).rx → (ss : List Send)
      → AllByRecursion (SendsStatus (fitting (stories id h.g).tunnel) (ReceivedBy (stories id h.g).rx) h) ss → AllByRecursion (IsTrueSend layout later) ss
  says_true id h later is same_tunnel same_rx [] says = tt
  says_true id h later is same_tunnel same_rx (s ∷ ss) says =
      let one = says.0 in
      let g = h.g in
      let truth : IsStatusOf (layout.n id g) (fitting (later id g).tunnel) (ReceivedBy (later id g).rx) one.tag one.status =
      subst (λ (n : SnLen). IsStatusOf n (fitting (later id g).tunnel) (ReceivedBy (later id g).rx) one.tag one.status) is.n
      (subst (λ (t : List Sent). IsStatusOf h.tunnel.n (fitting t) (ReceivedBy (later id g).rx) one.tag one.status) (sym same_tunnel)
      (subst (λ (r : Option RxParts). IsStatusOf h.tunnel.n (fitting (stories id g).tunnel) (ReceivedBy r) one.tag one.status) (sym same_rx) one.truth)) in
      let told : IsTold layout later one.tag (status_packet g h.id one.status) = record {
        id = id;
        g = g;
        status = one.status;
        is = ap (λ (k : ℕ). status_packet g k one.status) is.same_id;
        truth = truth;
        fits = one.fits;
        named = record { some = is.named.some; small = is.named.small; generation = omega (arith, is.named.generation); short = omega arith };
      } in
      (subst (IsTrueSend layout later) (sym one.is) (inr (inl told)), says_true id h later is same_tunnel same_rx ss says.1)

  -- an ack over the air
  pub ack_goes : (id : ℕ) (h : Host) (l : LinkId) (i g num : ℕ) → IsHostOf layout stories x id h → is_same_node l.from T ≡ true → l.to ≡ x
      → IsTrue layout stories l (flight.Ack i g num)
      → HostGoes id h.g (host_air_in h (flight.Ack i g num))
  ack_goes id h l i g num is from to truth =
      let k = h.g in
      let t = (stories id k).tunnel in
      let tun = fitting t in
      let received = ReceivedBy (stories id k).rx in
      let done = host_air_in h (flight.Ack i g num) in
      let acks : is_hosts h i g ≡ true → IsAckOf (host_leg tun h) received num = λ ours.
      let name = named_hosts h i g ours in
      let at : IsAckOf (leg_of layout stories id k x) received num =
      subst (λ (j : ℕ). IsAckOf (leg_of layout stories j k x) (ReceivedBy (stories j k).rx) num) (sym name.0 ∙ is.same_id)
      (subst (λ (j : ℕ). IsAckOf (leg_of layout stories i j x) (ReceivedBy (stories i j).rx) num) (sym name.1) (subst (λ (y : Node). IsAckOf (leg_of layout stories i g y) (ReceivedBy (stories i g).rx) num) to (truth from))) in
      subst (λ (leg : List (Option ℕ)). IsAckOf leg received num) (far_leg stories id k is.apart ∙ sym is.leg) at in
      let told = host_hears tun received h i g num (front_order tun t (fitting_front t) (order id k).rise) (front_below (2 ^ 32) tun t (fitting_front t) (order id k).below) (fitting_short t) acks is.has in
      let face = ack_face h i g num in
      let same : IsSameHost h done = record { id = face.0; g = face.1; n = face.2; stays = host_air_stays h (flight.Ack i g num) } in
      let far = host_leg tun done.0 in
      let s = with_far id k far in
      let later = with_story id k s stories in
      let here = story_here id k s stories in
      record {
        story = s;
        by = far_by id k far [] is.host (told.leg ∙ is.leg ∙ sym (append-nil (stories id k).far));
        so = far_so id h done is same told.has;
        sends = says_true id h later is (ap (λ (z : Story). z.tunnel) here) (ap (λ (z : Story). z.rx) here) done.1 told.says;
      }

  -- an uplink PDU, which it acks and relays
  pub relay_goes : (id : ℕ) (h : Host) (i g num : ℕ) (tag : Option ℕ) (pdu : List ℕ) → is_same_node x T ≡ false → IsHostOf layout stories x id h
      → HostGoes id h.g (host_air_in h (flight.Air i g num tag pdu))
  relay_goes id h i g num tag pdu other is =
      let k = h.g in
      let tun = fitting (stories id k).tunnel in
      let done = host_air_in h (flight.Air i g num tag pdu) in
      let stays : done.0 ≡ h = host_relays h i g num tag pdu in
      let same : IsSameHost h done = record {
        id = ap (λ (y : Host). y.id) stays;
        g = ap (λ (y : Host). y.g) stays;
        n = ap (λ (y : Host). y.tunnel.n) stays;
        stays = host_air_stays h (flight.Air i g num tag pdu);
      } in
      let far = host_leg tun done.0 in
      let s = with_far id k far in
      let later = with_story id k s stories in
      record {
        story = s;
        by = far_by id k far [] is.host (ap (host_leg tun) stays ∙ is.leg ∙ sym (append-nil (stories id k).far));
        so = far_so id h done is same (subst (λ (y : Host). HostHas tun (ReceivedBy (stories id k).rx) y) (sym stays) is.has);
        sends =
            either (λ (e : Host × List Send). AllByRecursion (IsTrueSend layout later) e.1) (is_hosts h i g) (h, to_terminal h (flight.Ack i g num) ∷ to_anchor h tag (up_packet g i pdu) ∷ []) (h, [])
            ((λ up. absurd (let bad : true ≡ false = sym up ∙ ap (λ y. is_same_node y T) is.node ∙ other in cc)), (inr (inr (up_aside g i pdu)), tt)) tt;
      }

  -- nothing comes of it
  idle_goes : (id : ℕ) (h : Host) → IsHostOf layout stories x id h → HostGoes id h.g (h, [])
  idle_goes id h is =
      let k = h.g in
      let tun = fitting (stories id k).tunnel in
      let far = host_leg tun h in
      let same : IsSameHost h (h, []) = record { id = refl; g = refl; n = refl; stays = record { node = refl; by = tt } } in
      record {
        story = with_far id k far;
        by = far_by id k far [] is.host (is.leg ∙ sym (append-nil (stories id k).far));
        so = far_so id h (h, []) is same is.has;
        sends = tt;
      }

  -- whatever comes over the air
  pub host_air_goes : (id : ℕ) (h : Host) (l : LinkId) (f : Flight) → is_same_node x T ≡ false → IsHostOf layout stories x id h → is_same_node l.from T ≡ true
      → l.to ≡ x → IsTrue layout stories l f
      → HostGoes id h.g (host_air_in h f)
  host_air_goes id h l (flight.Air i g num tag pdu) other is from to truth = relay_goes id h i g num tag pdu other is
  host_air_goes id h l (flight.Ack i g num) other is from to truth = ack_goes id h l i g num is from to truth
  host_air_goes id h l (flight.Tun tag packet) other is from to truth = idle_goes id h is
  host_air_goes id h l (flight.Sdu i g payload) other is from to truth = idle_goes id h is
  host_air_goes id h l (flight.End i g) other is from to truth = idle_goes id h is
  host_air_goes id h l (flight.Told i g count) other is from to truth = idle_goes id h is
  host_air_goes id h l (flight.Ctl r) other is from to truth = idle_goes id h is

  -- and through a tunnel
  pub host_tunnel_goes : (id : ℕ) (h : Host) (l : LinkId) (f : Flight) → IsHostOf layout stories x id h → IsTrue layout stories l f → IsReadRight layout stories l f
      → HostGoes id h.g (host_tunnel_in h f)
  host_tunnel_goes id h l (flight.Tun tag packet) is truth reads = packet_goes id h l tag packet is truth reads
  host_tunnel_goes id h l (flight.Air i g num tag pdu) is truth reads = idle_goes id h is
  host_tunnel_goes id h l (flight.Ack i g num) is truth reads = idle_goes id h is
  host_tunnel_goes id h l (flight.Sdu i g payload) is truth reads = idle_goes id h is
  host_tunnel_goes id h l (flight.End i g) is truth reads = idle_goes id h is
  host_tunnel_goes id h l (flight.Told i g count) is truth reads = idle_goes id h is
  host_tunnel_goes id h l (flight.Ctl r) is truth reads = idle_goes id h is

-- ---- what a change of one generation leaves as it is

module _ (layout : Layout) (x : Node) (stories : Stories) (order : (id g : ℕ) → IsInOrder (stories id g)) where
  -- an anchor whose story is the same
  anchor_same : (later : Stories) (k : ℕ) (a : AnchorState) → later k (setup_at a).g ≡ stories k (setup_at a).g → IsAnchorOf layout stories x k a
      → IsAnchorOf layout later x k a
  anchor_same later k a same is = record {
    same_id = is.same_id;
    node = is.node;
    home = is.home;
    n = is.n;
    sent = subst (λ (t : Story). StateSent t.own t.tunnel a) (sym same) is.sent;
    steady = is.steady;
    named = is.named;
  }

  host_same : (later : Stories) (k : ℕ) (h : Host) → later k h.g ≡ stories k h.g → IsHostOf layout stories x k h → IsHostOf layout later x k h
  host_same later k h same is =
      host_more layout x k h stories later (subst (λ (t : Story). IsLater (stories k h.g) t) (sym same) (later_none (stories k h.g) (order k h.g))) (ap (λ (t : Story). t.far) same) is

  not_both : (k i m g : ℕ) → (k ≡ i → m ≡ g → ⊥) → ((k == i) && (m == g)) ≡ false
  not_both k i m g apart = elim (cases_Bool ((k == i) && (m == g))) [
    | inl both ↦ let parts = and_parts (k == i) (m == g) both in absurd (apart (eqb-true k i parts.0) (eqb-true m g parts.1))
    | inr no' ↦ no'
  ]

  -- the change is in a generation of which the node has no anchor
  pub anchor_kept : (id g : ℕ) (s : Story) → is_same_node x (layout.home id g) ≡ false → (k : ℕ) (a : AnchorState) → IsAnchorOf layout stories x k a
      → IsAnchorOf layout (with_story id g s stories) x k a
  anchor_kept id g s away k a is =
      let apart : k ≡ id → (setup_at a).g ≡ g → ⊥ = λ same_id same_g.
      let here : is_same_node x (layout.home id g) ≡ true = ap (λ j. is_same_node x (layout.home j g)) (sym same_id) ∙ ap (λ j. is_same_node x (layout.home k j)) (sym same_g) ∙ ap (is_same_node x) is.home ∙ itself x in
      let bad : true ≡ false = sym here ∙ away in cc in
      anchor_same (with_story id g s stories) k a (story_else id g s stories k (setup_at a).g (not_both k id (setup_at a).g g apart)) is

  -- of another identity
  pub anchor_other : (id g : ℕ) (s : Story) (k : ℕ) (a : AnchorState) → (id == k) ≡ false → IsAnchorOf layout stories x k a
      → IsAnchorOf layout (with_story id g s stories) x k a
  anchor_other id g s k a other is = anchor_same (with_story id g s stories) k a (story_other id g s stories k (setup_at a).g other) is

  -- the change is in a generation of which the node has the anchor
  pub host_kept : (id g : ℕ) (s : Story) → layout.home id g ≡ x → (k : ℕ) (h : Host) → IsHostOf layout stories x k h
      → IsHostOf layout (with_story id g s stories) x k h
  host_kept id g s home k h is =
      let apart : k ≡ id → h.g ≡ g → ⊥ = λ same_id same_g.
      let here : is_same_node x (layout.home k h.g) ≡ true = ap (λ j. is_same_node x (layout.home j h.g)) same_id ∙ ap (λ j. is_same_node x (layout.home id j)) same_g ∙ ap (is_same_node x) home ∙ itself x in
      let bad : true ≡ false = sym here ∙ is.apart in cc in
      host_same (with_story id g s stories) k h (story_else id g s stories k h.g (not_both k id h.g g apart)) is

  pub host_other : (id g : ℕ) (s : Story) (k : ℕ) (h : Host) → (id == k) ≡ false → IsHostOf layout stories x k h
      → IsHostOf layout (with_story id g s stories) x k h
  host_other id g s k h other is = host_same (with_story id g s stories) k h (story_other id g s stories k h.g other) is
