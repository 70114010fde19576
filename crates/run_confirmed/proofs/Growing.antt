-- Stories only grow: what flights say, and what other nodes have, is so when more was added.
use Rattle.std.proofs.Common.{◌≡◌, ℕ, ◌++◌, ◌<◌, ◌≤◌, ◌^◌, ◌&&◌, ◌==◌, true, false, Bool, List, [], ◌∷◌, Option, Some, zero, suc, length, refl, sym, ap, ◌∙◌, subst, inl, inr, append_assoc, arith}
use Rattle.std.specs.Prelude.{if◌then◌else◌, drop, slice_get, take}
use Rattle.std.specs.List.{AllByRecursion}
use Rattle.std.proofs.lemmas.Bool.{and_parts, cases_Bool, eq-eqb, eqb-true}
use Rattle.std.proofs.lemmas.List.{append-nil, take-append-drop}
use Rattle.dc_base.specs.Nodes.{is_same_node}
use Rattle.dc_base.specs.declared.flights.Flight.{Flight}
use Rattle.dc_base.specs.declared.flights.Flight.TheVariants as flight
use Rattle.dc_base.specs.declared.nodes.LinkId.{LinkId}
use Rattle.dc_base.specs.declared.nodes.Node.{Node}
use Rattle.nr_u.specs.declared.tunnel.outbound.Sent.{Sent}
use Rattle.dc_base.specs.declared.numbers.SnLen.{SnLen}
use Rattle.nr_u.specs.Tunnel.Ends.{FirstSendsRise}
use Rattle.nr_u.specs.Tunnel.Outgoing.{first_send}
use Rattle.nr_u.specs.declared.frame.Frame.{Frame}
use Rattle.node_rules.specs.Anchor.{AnchorState, setup_at}
use Rattle.node_rules.specs.Choices.{Send}
use Rattle.node_rules.specs.Host.{Host}
use Rattle.run_confirms.specs.Hosts.{HostHas, host_leg}
use Rattle.run_confirms.specs.States.{StateSent}
use Rattle.run_confirms.specs.Statuses.{FirstsBelow, IsAckOf, IsStatusOf}
use Rattle.run_confirms.proofs.Hosts.{host_lasts, host_leg_lasts}
use Rattle.run_confirms.proofs.Statuses.{ack_lasts, get_front, status_lasts}
use Rattle.run_confirmed.specs.Flights.{IsTrue, IsTruePacket, IsTrueSend}
use Rattle.run_confirmed.specs.Nodes.{IsAnchorOf, IsHostOf}
use Rattle.run_confirmed.specs.Stories.{AreBy, Extends, IsBy, IsInOrder, IsLater, Layout, ReceivedBy, Stories, Story, fitting, leg_of}

-- ---- lists

pub extends_none : {X : Type 0} (xs : List X) → Extends xs xs
extends_none xs = record { more = []; is = sym (append-nil xs) }

pub extends_then : {X : Type 0} (xs ys zs : List X) → Extends xs ys → Extends ys zs → Extends xs zs
extends_then xs ys zs first then' = record {
  more = first.more ++ then'.more;
  is = then'.is ∙ ap (λ l. l ++ then'.more) first.is ∙ append_assoc xs first.more then'.more;
}

pub extends_same : {X : Type 0} (xs ys : List X) → ys ≡ xs → Extends xs ys
extends_same xs ys same = record { more = []; is = same ∙ sym (append-nil xs) }

-- what is at a place stays there
pub get_later : {X : Type 0} (xs ys : List X) (k : ℕ) (x : X) → Extends xs ys → slice_get xs k ≡ Some x → slice_get ys k ≡ Some x
get_later xs ys k x grows at = ap (λ l. slice_get l k) grows.is ∙ get_front xs grows.more k x at

-- ---- one story

pub later_none : (s : Story) → IsInOrder s → IsLater s s
later_none s order = record { own = extends_none s.own; tunnel = extends_none s.tunnel; far = extends_none s.far; received = λ c is. is; order = order }

pub later_then : (a b c : Story) → IsLater a b → IsLater b c → IsLater a c
later_then a b c first then' = record {
  own = extends_then a.own b.own c.own first.own then'.own;
  tunnel = extends_then a.tunnel b.tunnel c.tunnel first.tunnel then'.tunnel;
  far = extends_then a.far b.far c.far first.far then'.far;
  received = λ count is. then'.received count (first.received count is);
  order = then'.order;
}

-- ---- all

module _ (layout : Layout) (x : Node) where
  pub none_by : (stories : Stories) → ((id g : ℕ) → IsInOrder (stories id g)) → AreBy layout x stories stories
  none_by stories order id g =
      record { later = later_none (stories id g) (order id g); own = λ apart. refl; tunnel = λ apart. refl; far = λ apart. refl; rx = λ apart. refl }

  pub then_by : (a b c : Stories) → AreBy layout x a b → AreBy layout x b c → AreBy layout x a c
  then_by a b c first then' id g =
      let one = first id g in
      let two = then' id g in
      record {
        later = later_then (a id g) (b id g) (c id g) one.later two.later;
        own = λ apart. two.own apart ∙ one.own apart;
        tunnel = λ apart. two.tunnel apart ∙ one.tunnel apart;
        far = λ apart. two.far apart ∙ one.far apart;
        rx = λ apart. two.rx apart ∙ one.rx apart;
      }

-- ---- one generation alone is changed

-- the stories with another one for a generation
abbrev pub with_story : ℕ → ℕ → Story → Stories → Stories
with_story id g s stories = λ i h. if (i == id) && (h == g) then s else stories i h

pub story_here : (id g : ℕ) (s : Story) (stories : Stories) → with_story id g s stories id g ≡ s
story_here id g s stories = rw (eq-eqb id id refl, eq-eqb g g refl) refl

pub story_else : (id g : ℕ) (s : Story) (stories : Stories) (i h : ℕ) → ((i == id) && (h == g)) ≡ false → with_story id g s stories i h ≡ stories i h
story_else id g s stories i h other = rw other refl

pub story_other : (id g : ℕ) (s : Story) (stories : Stories) (i h : ℕ) → (id == i) ≡ false → with_story id g s stories i h ≡ stories i h
story_other id g s stories i h other = story_else id g s stories i h (not_same i other)
  where
    not_same : (i : ℕ) → (id == i) ≡ false → ((i == id) && (h == g)) ≡ false
    not_same i other = elim (cases_Bool (i == id)) [
      | inl same ↦ absurd (let bad : true ≡ false = sym (eq-eqb id i (sym (eqb-true i id same))) ∙ other in cc)
      | inr apart ↦ rw apart refl
    ]

pub story_older : (id g : ℕ) (s : Story) (stories : Stories) (i h : ℕ) → (h == g) ≡ false → with_story id g s stories i h ≡ stories i h
story_older id g s stories i h other = story_else id g s stories i h (by (i == id))
  where
    by : (b : Bool) → (b && (h == g)) ≡ false
    by true = other
    by false = refl

pub story_by : (layout : Layout) (x : Node) (id g : ℕ) (s : Story) (stories : Stories) → ((i h : ℕ) → IsInOrder (stories i h))
    → IsBy layout x id g (stories id g) s
    → AreBy layout x stories (with_story id g s stories)
story_by layout x id g s stories order is i h =
    elim (cases_Bool ((i == id) && (h == g))) [
      | inl here ↦
          let both = and_parts (i == id) (h == g) here in
          let same : with_story id g s stories i h ≡ s = rw here refl in
          subst (λ t. IsBy layout x i h (stories i h) t) (sym same)
          (subst (λ k. IsBy layout x k h (stories k h) s) (sym (eqb-true i id both.0)) (subst (λ k. IsBy layout x id k (stories id k) s) (sym (eqb-true h g both.1)) is))
      | inr else' ↦ subst (λ t. IsBy layout x i h (stories i h) t) (sym (story_else id g s stories i h else')) (none_by layout x stories order i h)
    ]

-- ---- what fits in a tunnel

take_more : {X : Type 0} (n : ℕ) (xs more : List X) → Extends (take n xs) (take n (xs ++ more))
take_more zero xs more = extends_none []
take_more (suc n) [] more = record { more = take (suc n) more; is = refl }
take_more (suc n) (x ∷ xs) more = let rest = take_more n xs more in record { more = rest.more; is = ap (λ l. x ∷ l) rest.is }

get_take : {X : Type 0} (n : ℕ) (xs : List X) (k : ℕ) (x : X) → k < n → slice_get xs k ≡ Some x → slice_get (take n xs) k ≡ Some x
get_take zero xs k x small at = absurd (omega (arith, small))
get_take (suc n) [] k x small at = at
get_take (suc n) (y ∷ xs) zero x small at = at
get_take (suc n) (y ∷ xs) (suc k) x small at = get_take n xs k x (omega (arith, small)) at

take_short : {X : Type 0} (n : ℕ) (xs : List X) → length (take n xs) ≤ n
take_short zero xs = omega arith
take_short (suc n) [] = omega arith
take_short (suc n) (x ∷ xs) = omega (arith, take_short n xs)

-- it is a front of what was sent
pub fitting_front : (xs : List Sent) → Extends (fitting xs) xs
unfolding fitting
fitting_front xs = let n : ℕ = 2 ^ 24 in record { more = drop n xs; is = sym (take-append-drop n xs) }

pub fitting_short : (xs : List Sent) → length (fitting xs) ≤ 2 ^ 24
unfolding fitting
fitting_short xs = let n : ℕ = 2 ^ 24 in take_short n xs

pub fitting_get : (xs : List Sent) (k : ℕ) (x : Sent) → k < 2 ^ 24 → slice_get xs k ≡ Some x → slice_get (fitting xs) k ≡ Some x
unfolding fitting
fitting_get xs k x small at = get_take (2 ^ 24) xs k x small at

pub fitting_later : (xs ys : List Sent) → Extends xs ys → Extends (fitting xs) (fitting ys)
unfolding fitting
fitting_later xs ys grows = subst (λ (l : List Sent). Extends (take (2 ^ 24) xs) (take (2 ^ 24) l)) (sym grows.is) (take_more (2 ^ 24) xs grows.more)

pub fitting_none : fitting [] ≡ []
unfolding fitting
fitting_none = refl

-- in a front first sends rise as they do in all
pub front_order : (xs ys : List Sent) → Extends xs ys → FirstSendsRise ys → FirstSendsRise xs
front_order xs ys grows rise =
    λ j k c d less at_j at_k. rise j k c d less (get_later xs ys j (first_send c) grows at_j) (get_later xs ys k (first_send d) grows at_k)

pub front_below : (end : ℕ) (xs ys : List Sent) → Extends xs ys → FirstsBelow end ys → FirstsBelow end xs
front_below end xs ys grows below = λ number count at. below number count (get_later xs ys number (first_send count) grows at)

-- ---- flights

pub leg_later : (layout : Layout) (a b : Stories) → ((id g : ℕ) → IsLater (a id g) (b id g)) → (id g : ℕ) (y : Node)
    → Extends (leg_of layout a id g y) (leg_of layout b id g y)
leg_later layout a b later id g y = by (is_same_node y (layout.home id g))
  where
    by : (t : Bool) → Extends (if t then (a id g).own else (a id g).far) (if t then (b id g).own else (b id g).far)
    by true = (later id g).own
    by false = (later id g).far

-- a delivery status
pub status_later : (n : SnLen) (a b : Story) (tag : Option ℕ) (f : Frame) → IsLater a b → IsStatusOf n (fitting a.tunnel) (ReceivedBy a.rx) tag f
    → IsStatusOf n (fitting b.tunnel) (ReceivedBy b.rx) tag f
status_later n a b tag f later is =
    let grows = fitting_later a.tunnel b.tunnel later.tunnel in
    let rise : FirstSendsRise (fitting b.tunnel) = front_order (fitting b.tunnel) b.tunnel (fitting_front b.tunnel) later.order.rise in
    subst (λ (tun : List Sent). IsStatusOf n tun (ReceivedBy b.rx) tag f) (sym grows.is)
    (status_lasts n (fitting a.tunnel) grows.more (ReceivedBy a.rx) (ReceivedBy b.rx) tag f (subst FirstSendsRise grows.is rise) later.received is)

module _ (layout : Layout) (a b : Stories) (later : (id g : ℕ) → IsLater (a id g) (b id g)) where
  packet_later : (tag : Option ℕ) (packet : List ℕ) → IsTruePacket layout a tag packet → IsTruePacket layout b tag packet
  packet_later tag packet (inl x) = inl (record {
    id = x.id;
    g = x.g;
    named = x.named;
    sent = record {
      number = x.sent.number;
      repeat = x.sent.repeat;
      pdu = x.sent.pdu;
      is = x.sent.is;
      sent =
          get_later (a x.id x.g).tunnel (b x.id x.g).tunnel x.sent.number (record { count = tag; repeat = x.sent.repeat }) (later x.id x.g).tunnel x.sent.sent;
    };
  })
  packet_later tag packet (inr (inl x)) = inr (inl (record {
    id = x.id;
    g = x.g;
    status = x.status;
    is = x.is;
    truth = status_later (layout.n x.id x.g) (a x.id x.g) (b x.id x.g) tag x.status (later x.id x.g) x.truth;
    fits = x.fits;
    named = x.named;
  }))
  packet_later tag packet (inr (inr aside)) = inr (inr aside)

  pub true_later : (l : LinkId) (f : Flight) → IsTrue layout a l f → IsTrue layout b l f
  true_later l (flight.Air id g num tag pdu) is =
      λ down. get_later (leg_of layout a id g l.from) (leg_of layout b id g l.from) num tag (leg_later layout a b later id g l.from) (is down)
  true_later l (flight.Ack id g num) is = λ up.
      let grows = leg_later layout a b later id g l.to in
      subst (λ (leg : List (Option ℕ)). IsAckOf leg (ReceivedBy (b id g).rx) num) (sym grows.is)
      (ack_lasts (leg_of layout a id g l.to) grows.more (ReceivedBy (a id g).rx) (ReceivedBy (b id g).rx) num (later id g).received (is up))
  true_later l (flight.Tun tag packet) is = packet_later tag packet is
  true_later l (flight.Ctl r) is = is
  true_later l (flight.Sdu id g payload) is = tt
  true_later l (flight.End id g) is = tt
  true_later l (flight.Told id g count) is = tt

  pub trues_later : (l : LinkId) (fs : List Flight) → AllByRecursion (IsTrue layout a l) fs → AllByRecursion (IsTrue layout b l) fs
  trues_later l [] all = tt
  trues_later l (f ∷ fs) all = (true_later l f all.0, trues_later l fs all.1)

  pub sends_later : (ss : List Send) → AllByRecursion (IsTrueSend layout a) ss → AllByRecursion (IsTrueSend layout b) ss
  sends_later [] all = tt
  sends_later (s ∷ ss) all = (true_later s.0 s.1 all.0, sends_later ss all.1)

-- ---- what nodes have

-- a leg host whose leg stays as it is
pub host_more : (layout : Layout) (y : Node) (id : ℕ) (h : Host) (a b : Stories) → IsLater (a id h.g) (b id h.g) → (b id h.g).far ≡ (a id h.g).far
    → IsHostOf layout a y id h
    → IsHostOf layout b y id h
host_more layout y id h a b later far is =
    let g = h.g in
    let grows = fitting_later (a id g).tunnel (b id g).tunnel later.tunnel in
    record {
      same_id = is.same_id;
      node = is.node;
      host = is.host;
      apart = is.apart;
      n = is.n;
      has = subst (λ (tun : List Sent). HostHas tun (ReceivedBy (b id g).rx) h) (sym grows.is)
          (host_lasts (fitting (a id g).tunnel) grows.more (ReceivedBy (a id g).rx) (ReceivedBy (b id g).rx) h later.received is.has);
      leg =
          ap (λ (tun : List Sent). host_leg tun h) grows.is ∙ host_leg_lasts (fitting (a id g).tunnel) grows.more (ReceivedBy (a id g).rx) h is.has ∙ is.leg ∙ sym far;
      named = is.named;
    }

module _ (layout : Layout) (x : Node) (a b : Stories) (by : AreBy layout x a b) where
  -- an anchor at another node
  pub anchor_else : (y : Node) (id : ℕ) (s : AnchorState) → is_same_node x y ≡ false → IsAnchorOf layout a y id s → IsAnchorOf layout b y id s
  anchor_else y id s apart is =
      let g = (setup_at s).g in
      let away : is_same_node x (layout.home id g) ≡ false = ap (is_same_node x) is.home ∙ apart in
      record {
        same_id = is.same_id;
        node = is.node;
        home = is.home;
        n = is.n;
        sent = subst (λ (own : List (Option ℕ)). StateSent own (b id g).tunnel s) (sym ((by id g).own away))
            (subst (λ (tun : List Sent). StateSent (a id g).own tun s) (sym ((by id g).tunnel away)) is.sent);
        steady = is.steady;
        named = is.named;
      }

  -- a leg host there
  pub host_else : (y : Node) (id : ℕ) (h : Host) → is_same_node x y ≡ false → IsHostOf layout a y id h → IsHostOf layout b y id h
  host_else y id h apart is = host_more layout y id h a b (by id h.g).later ((by id h.g).far (ap (is_same_node x) is.host ∙ apart)) is
