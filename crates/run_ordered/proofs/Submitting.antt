-- The order of the downlink is kept by a submission: it is behind all others, where the path leads.
use Rattle.std.proofs.Common.{Bool, List, None, Option, Some, [], false, refl, sym, subst, ap, arith, true, ℕ, inl, inr, length, ◌+◌, ◌++◌, ◌<◌, ◌≡◌, ◌≤◌, ◌∙◌, ◌∷◌, append_assoc}
use Rattle.std.specs.List.{AllByRecursion}
use Rattle.std.proofs.lemmas.List.{append-nil, length-append}
use Rattle.std.proofs.lemmas.List.Elements.{filter_map-append}
use Rattle.dc_base.specs.Count.{window}
use Rattle.dc_base.specs.Nodes.{is_same_node}
use Rattle.dc_base.specs.declared.flights.Flight.{Flight}
use Rattle.dc_base.specs.declared.flights.Flight.TheVariants as flight
use Rattle.dc_base.specs.declared.nodes.LinkId.{LinkId}
use Rattle.dc_base.specs.declared.nodes.Node.{Node}
use Rattle.forward.specs.Forwarded.{nothing_came}
use Rattle.forward.specs.Tunnel.{IsEndOf}
use Rattle.pdcp_tx.specs.Sender.{Sender, low}
use Rattle.transcript.proofs.OnEach.{each_append, each_weaker}
use Rattle.node_rules.specs.Anchor.{Active, Waiting, active_anchor, waiting_anchor}
use Rattle.node_rules.specs.Feed.{Fed}
use Rattle.node_rules.specs.Setup.{Setup}
use Rattle.node_rules.specs.declared.bearers.Window.{Window}
use Rattle.node_rules.specs.declared.commands.Row.{Row}
use Rattle.run_pairs.proofs.Replies.{apart_turned, node_itself}
use Rattle.run_receivers.specs.Submitted.{Submitted, with_more}
use Rattle.run_senders.specs.Holders.{IfThere}
use Rattle.run_ordered.specs.Feeds.{AreUpto, IsBefore, IsUpto, IsLastLineOf, IsLineOf, IsSince, IsSinceUpto, IsTold, sdu_of, sdus_of}
use Rattle.run_ordered.specs.Forwarding.{IsBeforeFreeze, IsOfSender, IsTakingOver, down_tunnel}
use Rattle.run_ordered.specs.Fronts.{HasFront, IsFront}
use Rattle.run_ordered.specs.Orders.{AreAway, IsAwaiting, IsFrozenAs, IsOrdered, IsSendingAt, IsWindowOf, Place, Scene, about_to_move, at_anchor, coming_to, is_dropped, on_its_way, to_new, to_old}
use Rattle.run_ordered.specs.Scenes.{CountsOne, SendsOn, SubmitsTo, SubmitsWaiting}
use Rattle.run_ordered.proofs.Feeding.{first_is}
use Rattle.run_ordered.proofs.Fronts.{front_more}
use Rattle.run_ordered.proofs.Saying.{else_before, else_of}
use Rattle.run_ordered.proofs.Scenes.{same_active, same_waiting, away_still, awaits_still, frozen_still, not_none, one_kind, same_or}

-- one SDU more on a line
pub sdus_more : (est id g : ℕ) (p : List ℕ) (line : List Flight) → est ≤ g → sdus_of est id (line ++ flight.Sdu id g p ∷ []) ≡ sdus_of est id line ++ p ∷ []
sdus_more est id g p line le = filter_map-append (sdu_of est id) line (flight.Sdu id g p ∷ []) ∙ ap (λ xs. sdus_of est id line ++ xs) (first_is est id g p [] le)

module _ (u : Submitted) (r : Row) (id : ℕ) (p : List ℕ) (s s' : Scene) (same_n : r.n ≡ u.n) (same_first : r.first ≡ u.first) (upto : r.est ≤ r.g) where
  v : Submitted
  v = with_more u (p ∷ [])

  -- the window with one more
  window_more : (tx ty : Sender) → CountsOne r s s' → low tx ≤ low ty → ((z : Node) → (s'.at z).told ≡ (s.at z).told) → IsWindowOf u r.est id s tx → IsWindowOf (with_more u (p ∷ [])) r.est id s' ty
  window_more tx ty counts le told is =
      let same : counts.before ≡ is.begun = one counts.before is.begun (sym counts.there ∙ is.there) in
      let accepted_is : counts.before.accepted ≡ length u.payloads = ap (λ (w : Window). w.accepted) same ∙ is.accepted in
      let told_is : counts.before.told ≡ is.begun.told = ap (λ (w : Window). w.told) same in
      let longer = length-append u.payloads (p ∷ []) in
      let room = counts.room in
      let n_is : window r.n ≡ window u.n = ap window same_n in
      let low_is = is.told in
      record {
        begun = record counts.before { accepted = counts.before.accepted + 1 };
        there = counts.after;
        accepted = omega arith;
        told = omega arith;
        near = omega arith;
        on_lines = λ z. subst (AllByRecursion (IsTold r.est id (low ty))) (sym (told z)) (each_weaker (IsTold r.est id (low tx)) (IsTold r.est id (low ty)) (λ f so. told_more f so) (s.at z).told (is.on_lines z));
      }
    where
      one : (a b : Window) → Some a ≡ Some b → a ≡ b
      one a b is = cc

      told_more : (f : Flight) → IsTold r.est id (low tx) f → IsTold r.est id (low ty) f
      told_more (flight.Told i g count) so = λ named since. let few = so named since in omega (arith, few, le)
      told_more (flight.Air i g num tag pdu) so = tt
      told_more (flight.Ack i g num) so = tt
      told_more (flight.Tun tag packet) so = tt
      told_more (flight.Sdu i g payload) so = tt
      told_more (flight.End i g) so = tt
      told_more (flight.Ctl x) so = tt

  -- an entity with one more to come
  more_front : (rest : List (List ℕ)) (is_open : Bool) (tx : Sender) → CountsOne r s s' → IsWindowOf u r.est id s tx → IsFront u rest is_open tx → IsFront (with_more u (p ∷ [])) (rest ++ p ∷ []) is_open tx
  more_front rest is_open tx counts told f =
      let same : counts.before ≡ told.begun = one counts.before told.begun (sym counts.there ∙ told.there) in
      let accepted_is : counts.before.accepted ≡ length u.payloads = ap (λ (w : Window). w.accepted) same ∙ told.accepted in
      let told_is : counts.before.told ≡ told.begun.told = ap (λ (w : Window). w.told) same in
      let room = counts.room in
      let few = counts.few in
      let n_is : window r.n ≡ window u.n = ap window same_n in
      let low_is = told.told in
      front_more u rest is_open tx p f (omega arith) (omega arith)
    where
      one : (a b : Window) → Some a ≡ Some b → a ≡ b
      one a b is = cc

  -- ---- over the line to a secondary node

  module _ (sends : SendsOn r id p s s') where
    e : Node
    e = r.anchor

    told_same : (z : Node) → (s'.at z).told ≡ (s.at z).told
    told_same z = elim (same_or r.anchor z) [
      | inl here ↦ subst (λ k. (s'.at k).told ≡ (s.at k).told) here (ap (λ (q : Place). q.told) sends.line)
      | inr off ↦ ap (λ (q : Place). q.told) (sends.alone.others z off)
    ]

    sdus_after : sdus_of r.est id (s'.at r.anchor).line ≡ sdus_of r.est id (s.at r.anchor).line ++ p ∷ []
    sdus_after = ap (λ (q : Place). sdus_of r.est id q.line) sends.line ∙ sdus_more r.est id r.g p (s.at r.anchor).line upto

    fed_same : (s'.at r.anchor).fed ≡ (s.at r.anchor).fed
    fed_same = ap (λ (q : Place). q.fed) sends.line

    -- what the node takes from its line
    line_more : (o : Option Fed) → IsSinceUpto r.g o → IfThere (λ (f : Fed). IsLineOf r.est id f (s.at r.anchor).line) o → IfThere (λ (f : Fed). IsLineOf r.est id f ((s.at r.anchor).line ++ flight.Sdu id r.g p ∷ [])) o
    line_more None le is = tt
    line_more (Some f) le is = record { since = each_append (IsSince r.est id f.since) (s.at r.anchor).line (flight.Sdu id r.g p ∷ []) is.since (λ named since. le, tt); from = is.from }

    line_after : IsSinceUpto r.g (s.at r.anchor).fed → IfThere (λ (f : Fed). IsLineOf r.est id f (s.at r.anchor).line) (s.at r.anchor).fed → IfThere (λ (f : Fed). IsLineOf r.est id f (s'.at r.anchor).line) (s'.at r.anchor).fed
    line_after le is = subst (λ (q : Place). IfThere (λ (f : Fed). IsLineOf r.est id f q.line) q.fed) (sym sends.line) (line_more (s.at r.anchor).fed le is)

    known_after : (h : ℕ) → r.g ≤ h → AreUpto id h (s.at r.anchor).line (s.at r.anchor).fed → AreUpto id h (s'.at r.anchor).line (s'.at r.anchor).fed
    known_after h le is =
        subst (λ (q : Place). AreUpto id h q.line q.fed) (sym sends.line) (record { stand = each_append (IsUpto id h) (s.at r.anchor).line (flight.Sdu id r.g p ∷ []) is.stand (λ named. le, tt); taken = is.taken })

    -- at the anchor to which the path leads
    sends_here : (later : List (List ℕ)) → later ≡ [] → IsSendingAt u r id s r.anchor later → IsSendingAt (with_more u (p ∷ [])) r id s' r.anchor later
    sends_here later none is = record {
      anchor = is.anchor;
      there = ap (λ (q : Place). q.anchor) sends.line ∙ is.there;
      front = record {
        same_n = is.front.same_n;
        front = subst (λ xs. IsFront (with_more u (p ∷ [])) xs is.anchor.is_open is.anchor.entity.tx) behind (more_front (sdus_of r.est id (s.at r.anchor).line ++ later) is.anchor.is_open is.anchor.entity.tx sends.counts is.told is.front.front);
      };
      line = line_after is.upto is.line;
      upto = subst (IsSinceUpto r.g) (sym fed_same) is.upto;
      known = known_after r.g (omega arith) is.known;
      frozen = ap (λ (q : Place). q.frozen) sends.line ∙ is.frozen;
      told = window_more is.anchor.entity.tx is.anchor.entity.tx sends.counts (omega arith) told_same is.told;
    }
      where
        behind : (sdus_of r.est id (s.at r.anchor).line ++ later) ++ p ∷ [] ≡ sdus_of r.est id (s'.at r.anchor).line ++ later
        behind =
            ap (λ xs. (sdus_of r.est id (s.at r.anchor).line ++ xs) ++ p ∷ []) none ∙ ap (λ xs. xs ++ p ∷ []) (append-nil (sdus_of r.est id (s.at r.anchor).line)) ∙ sym sdus_after
            ∙ sym (append-nil (sdus_of r.est id (s'.at r.anchor).line)) ∙ ap (λ xs. sdus_of r.est id (s'.at r.anchor).line ++ xs) (sym none)

    -- what comes to a waiting one
    behind : (xs : List (List ℕ)) (w : Waiting) → (xs ++ coming_to r.est id (s.at r.anchor) w) ++ p ∷ [] ≡ xs ++ coming_to r.est id (s'.at r.anchor) w
    behind xs w =
        append_assoc xs (coming_to r.est id (s.at r.anchor) w) (p ∷ []) ∙ ap (λ ys. xs ++ ys) (append_assoc w.fresh (sdus_of r.est id (s.at r.anchor).line) (p ∷ []) ∙ ap (λ ys. w.fresh ++ ys) (sym sdus_after))

    -- elsewhere, where it comes behind
    sends_elsewhere : (x : Node) (w : Waiting) → is_same_node r.anchor x ≡ false → IsSendingAt u r id s x (coming_to r.est id (s.at r.anchor) w) → IsSendingAt (with_more u (p ∷ [])) r id s' x (coming_to r.est id (s'.at r.anchor) w)
    sends_elsewhere x w off is =
        let at = sends.alone.others x off in
        record {
          anchor = is.anchor;
          there = ap (λ (q : Place). q.anchor) at ∙ is.there;
          front = record {
            same_n = is.front.same_n;
            front = subst (λ (q : Place). IsFront (with_more u (p ∷ [])) (sdus_of r.est id q.line ++ coming_to r.est id (s'.at r.anchor) w) is.anchor.is_open is.anchor.entity.tx) (sym at)
                (subst (λ xs. IsFront (with_more u (p ∷ [])) xs is.anchor.is_open is.anchor.entity.tx) (behind (sdus_of r.est id (s.at x).line) w)
                (more_front (sdus_of r.est id (s.at x).line ++ coming_to r.est id (s.at r.anchor) w) is.anchor.is_open is.anchor.entity.tx sends.counts is.told is.front.front));
          };
          line = subst (λ (q : Place). IfThere (λ (f : Fed). IsLineOf r.est id f q.line) q.fed) (sym at) is.line;
          upto = subst (λ (q : Place). IsSinceUpto r.g q.fed) (sym at) is.upto;
          known = subst (λ (q : Place). AreUpto id r.g q.line q.fed) (sym at) is.known;
          frozen = ap (λ (q : Place). q.frozen) at ∙ is.frozen;
          told = window_more is.anchor.entity.tx is.anchor.entity.tx sends.counts (omega arith) told_same is.told;
        }

    -- a waiting anchor to which the path leads
    awaits_here : (new : IsAwaiting u r.est id (s.at r.anchor)) → r.g ≡ new.anchor.setup.g → IsAwaiting (with_more u (p ∷ [])) r.est id (s'.at r.anchor)
    awaits_here new now = record {
      anchor = new.anchor;
      there = ap (λ (q : Place). q.anchor) sends.line ∙ new.there;
      same_n = new.same_n;
      line = line_after (subst (λ g. IsSinceUpto g (s.at r.anchor).fed) (sym now) new.upto) new.line;
      upto = subst (IsSinceUpto new.anchor.setup.g) (sym fed_same) new.upto;
      known = known_after new.anchor.setup.g (omega (arith, now)) new.known;
      frozen = ap (λ (q : Place). q.frozen) sends.line ∙ new.frozen;
    }

    -- elsewhere
    awaits_elsewhere : (y : Node) → is_same_node r.anchor y ≡ false → IsAwaiting u r.est id (s.at y) → IsAwaiting (with_more u (p ∷ [])) r.est id (s'.at y)
    awaits_elsewhere y off new =
        let at = sends.alone.others y off in
        record {
          anchor = new.anchor;
          there = ap (λ (q : Place). q.anchor) at ∙ new.there;
          same_n = new.same_n;
          line = subst (λ (q : Place). IfThere (λ (f : Fed). IsLineOf r.est id f q.line) q.fed) (sym at) new.line;
          upto = subst (λ (q : Place). IsSinceUpto new.anchor.setup.g q.fed) (sym at) new.upto;
          known = subst (λ (q : Place). AreUpto id new.anchor.setup.g q.line q.fed) (sym at) new.known;
          frozen = ap (λ (q : Place). q.frozen) at ∙ new.frozen;
        }

    -- a frozen anchor to which the path still leads
    frozen_here : (closed : Bool) (tx : Sender) (g : ℕ) → r.g < g → IsFrozenAs closed tx r id (s.at r.anchor) r.anchor g → IsFrozenAs closed tx r id (s'.at r.anchor) r.anchor g
    frozen_here true tx g older is = absurd (differ (sym (node_itself r.anchor) ∙ is.2))
      where
        differ : true ≡ false → ⊥
        differ bad = absurd cc
    frozen_here false tx g older is = record {
      frozen = is.frozen;
      there = ap (λ (q : Place). q.frozen) sends.line ∙ is.there;
      g_is = is.g_is;
      id_is = is.id_is;
      n_is = is.n_is;
      next = is.next;
      from = is.from;
      upto = is.upto;
      since = subst (λ (q : Place). AllByRecursion (IsSince r.est id is.frozen.since) q.line) (sym sends.line)
          (each_append (IsSince r.est id is.frozen.since) (s.at r.anchor).line (flight.Sdu id r.g p ∷ []) is.since (λ named since. is.upto, tt));
      before = subst (λ (q : Place). AllByRecursion (IsBefore r.est id g) q.line) (sym sends.line) (each_append (IsBefore r.est id g) (s.at r.anchor).line (flight.Sdu id r.g p ∷ []) is.before (λ named since. older, tt));
      known = subst (λ (q : Place). AllByRecursion (IsUpto id r.g) q.line) (sym sends.line) (each_append (IsUpto id r.g) (s.at r.anchor).line (flight.Sdu id r.g p ∷ []) is.known (λ named. omega arith, tt));
      ends = λ elsewhere. absurd (differ (sym (node_itself r.anchor) ∙ elsewhere));
    }
      where
        differ : true ≡ false → ⊥
        differ bad = absurd cc

    before_after : (g : ℕ) → ((l : LinkId) → AllByRecursion (IsBeforeFreeze g id) (s.flights l)) → (l : LinkId) → AllByRecursion (IsBeforeFreeze g id) (s'.flights l)
    before_after g before l = sends.alone.flights (IsBeforeFreeze g id) (λ f none. else_before g id f none) l (before l)

    of_after : (tx : Sender) (closed : Bool) (g : ℕ) → ((l : LinkId) → AllByRecursion (IsOfSender tx closed g id) (s.flights l)) → (l : LinkId) → AllByRecursion (IsOfSender tx closed g id) (s'.flights l)
    of_after tx closed g flights l = sends.alone.flights (IsOfSender tx closed g id) (λ f none. else_of tx closed g id f none) l (flights l)

    coming_none : (y : Node) (w : Waiting) → is_same_node r.anchor y ≡ false → coming_to r.est id (s.at y) w ≡ [] → coming_to r.est id (s'.at y) w ≡ []
    coming_none y w off none = ap (λ (q : Place). coming_to r.est id q w) (sends.alone.others y off) ∙ none

    -- from the anchor that is about to be left
    abbrev Leaving : Node → Type 0
    Leaving x =
        (y : Node) → is_same_node x y ≡ false → (new : IsAwaiting u r.est id (s.at y)) → IsSendingAt u r id s x (coming_to r.est id (s.at y) new.anchor) → r.g < new.anchor.setup.g → coming_to r.est id (s.at y) new.anchor ≡ []
        → new.anchor.transfer ≡ None → new.anchor.down ≡ nothing_came → ((l : LinkId) → AllByRecursion (IsBeforeFreeze new.anchor.setup.g id) (s.flights l)) → AreAway r.est id s x y → IsOrdered (with_more u (p ∷ [])) r id s'

    leaving : Leaving r.anchor
    unfolding awaits_elsewhere
    leaving y apart new is older none no_transfer nothing before away =
        about_to_move r.anchor y apart (awaits_elsewhere y apart new)
        (subst (λ xs. IsSendingAt (with_more u (p ∷ [])) r id s' r.anchor xs) (none ∙ sym (coming_none y new.anchor apart none)) (sends_here (coming_to r.est id (s.at y) new.anchor) none is))
        (to_old refl older (coming_none y new.anchor apart none)) (λ elsewhere. absurd (differ (sym (node_itself r.anchor) ∙ elsewhere))) no_transfer nothing (before_after new.anchor.setup.g before)
        (away_still u r id s s' r.anchor y (λ z one two. sends.alone.others z one) away)
      where
        differ : true ≡ false → ⊥
        differ bad = absurd cc

    -- to the anchor that waits
    abbrev Joining : Node → Type 0
    Joining y =
        (x : Node) → is_same_node x y ≡ false → (new : IsAwaiting u r.est id (s.at y)) → IsSendingAt u r id s x (coming_to r.est id (s.at y) new.anchor) → r.g ≡ new.anchor.setup.g
        → (is_same_node x r.anchor ≡ false → IfThere (λ (f : Fed). IsLastLineOf r.est id r.g f (s.at x).line) (s.at x).fed) → new.anchor.transfer ≡ None → new.anchor.down ≡ nothing_came
        → ((l : LinkId) → AllByRecursion (IsBeforeFreeze new.anchor.setup.g id) (s.flights l)) → AreAway r.est id s x y → IsOrdered (with_more u (p ∷ [])) r id s'

    joining : Joining r.anchor
    unfolding awaits_here
    joining x apart new is now last no_transfer nothing before away =
        let off = apart_turned x r.anchor apart in
        about_to_move x r.anchor apart (awaits_here new now) (sends_elsewhere x new.anchor off is) (to_new refl now)
        (λ elsewhere. subst (λ (q : Place). IfThere (λ (f : Fed). IsLastLineOf r.est id r.g f q.line) q.fed) (sym (sends.alone.others x off)) (last elsewhere)) no_transfer nothing (before_after new.anchor.setup.g before)
        (away_still u r id s s' x r.anchor (λ z one two. sends.alone.others z two) away)

    -- from the frozen one
    abbrev Frozen' : Node → Type 0
    Frozen' x =
        (y : Node) → is_same_node x y ≡ false → (new : IsAwaiting u r.est id (s.at y)) → (s.at x).anchor ≡ None → (tx : Sender) (closed : Bool) → IsTakingOver tx closed new.anchor
        → IsFront u (sdus_of r.est id (s.at x).line ++ coming_to r.est id (s.at y) new.anchor) false tx → r.g < new.anchor.setup.g → coming_to r.est id (s.at y) new.anchor ≡ [] → IsFrozenAs closed tx r id (s.at x) x new.anchor.setup.g
        → ((l : LinkId) → AllByRecursion (IsOfSender tx closed new.anchor.setup.g id) (s.flights l)) → IsWindowOf u r.est id s tx → AreAway r.est id s x y → IsOrdered (with_more u (p ∷ [])) r id s'

    through_old : Frozen' r.anchor
    unfolding awaits_elsewhere
    through_old y apart new gone tx closed takes' front older none frozen flights told away =
        on_its_way r.anchor y apart (awaits_elsewhere y apart new) (ap (λ (q : Place). q.anchor) sends.line ∙ gone) tx closed takes'
        (subst (λ xs. IsFront (with_more u (p ∷ [])) xs false tx) behind' (more_front (sdus_of r.est id (s.at r.anchor).line ++ coming_to r.est id (s.at y) new.anchor) false tx sends.counts told front))
        (to_old refl older (coming_none y new.anchor apart none)) (frozen_here closed tx new.anchor.setup.g older frozen) (of_after tx closed new.anchor.setup.g flights) (window_more tx tx sends.counts (omega arith) told_same told)
        (away_still u r id s s' r.anchor y (λ z one two. sends.alone.others z one) away)
      where
        behind' : (sdus_of r.est id (s.at r.anchor).line ++ coming_to r.est id (s.at y) new.anchor) ++ p ∷ [] ≡ sdus_of r.est id (s'.at r.anchor).line ++ coming_to r.est id (s'.at y) new.anchor
        behind' =
            ap (λ xs. (sdus_of r.est id (s.at r.anchor).line ++ xs) ++ p ∷ []) none ∙ ap (λ xs. xs ++ p ∷ []) (append-nil (sdus_of r.est id (s.at r.anchor).line)) ∙ sym sdus_after
            ∙ sym (append-nil (sdus_of r.est id (s'.at r.anchor).line)) ∙ ap (λ xs. sdus_of r.est id (s'.at r.anchor).line ++ xs) (sym (coming_none y new.anchor apart none))

    -- to the one that takes over
    abbrev Taking : Node → Type 0
    Taking y =
        (x : Node) → is_same_node x y ≡ false → (new : IsAwaiting u r.est id (s.at y)) → (s.at x).anchor ≡ None → (tx : Sender) (closed : Bool) → IsTakingOver tx closed new.anchor
        → IsFront u (sdus_of r.est id (s.at x).line ++ coming_to r.est id (s.at y) new.anchor) false tx → r.g ≡ new.anchor.setup.g → IsFrozenAs closed tx r id (s.at x) x new.anchor.setup.g
        → ((l : LinkId) → AllByRecursion (IsOfSender tx closed new.anchor.setup.g id) (s.flights l)) → IsWindowOf u r.est id s tx → AreAway r.est id s x y → IsOrdered (with_more u (p ∷ [])) r id s'

    to_taking : Taking r.anchor
    unfolding awaits_here
    to_taking x apart new gone tx closed takes' front now frozen flights told away =
        let off = apart_turned x r.anchor apart in
        let at = sends.alone.others x off in
        on_its_way x r.anchor apart (awaits_here new now) (ap (λ (q : Place). q.anchor) at ∙ gone) tx closed takes'
        (subst (λ (q : Place). IsFront (with_more u (p ∷ [])) (sdus_of r.est id q.line ++ coming_to r.est id (s'.at r.anchor) new.anchor) false tx) (sym at)
        (subst (λ xs. IsFront (with_more u (p ∷ [])) xs false tx) (behind (sdus_of r.est id (s.at x).line) new.anchor)
        (more_front (sdus_of r.est id (s.at x).line ++ coming_to r.est id (s.at r.anchor) new.anchor) false tx sends.counts told front))) (to_new refl now)
        (frozen_still u r id s s' closed tx x new.anchor.setup.g at frozen) (of_after tx closed new.anchor.setup.g flights) (window_more tx tx sends.counts (omega arith) told_same told)
        (away_still u r id s s' x r.anchor (λ z one two. sends.alone.others z two) away)

    -- whichever it is
    pub sends_ordered : IsOrdered u r id s → IsOrdered (with_more u (p ∷ [])) r id s'
    sends_ordered (is_dropped none unsettled) = absurd (let bad : true ≡ false = sym unsettled ∙ sends.counts.settled in cc)
    sends_ordered (at_anchor x path is away) =
        at_anchor r.anchor refl (sends_here [] refl (subst (λ k. IsSendingAt u r id s k []) (sym path) is))
        (away_still u r id s s' r.anchor r.anchor (λ z one two. sends.alone.others z one) (subst (λ k. AreAway r.est id s k k) (sym path) away))
    sends_ordered (about_to_move x y apart new is (to_old at older none) last no_transfer nothing before away) = subst Leaving at leaving y apart new is older none no_transfer nothing before away
    sends_ordered (about_to_move x y apart new is (to_new at now) last no_transfer nothing before away) = subst Joining at joining x apart new is now last no_transfer nothing before away
    sends_ordered (on_its_way x y apart new gone tx closed takes' front (to_old at older none) frozen flights told away) = subst Frozen' at through_old y apart new gone tx closed takes' front older none frozen flights told away
    sends_ordered (on_its_way x y apart new gone tx closed takes' front (to_new at now) frozen flights told away) = subst Taking at to_taking x apart new gone tx closed takes' front now frozen flights told away

  -- ---- to an active anchor at the master

  module _ (a b : Active) (submits : SubmitsTo r id p s s' a b) where
    -- nothing comes on a line
    no_line : (later : List (List ℕ)) → later ≡ [] → sdus_of r.est id (s.at r.anchor).line ++ later ≡ []
    no_line later none = ap (λ line. sdus_of r.est id line ++ later) submits.none ∙ none

    no_line_after : (later : List (List ℕ)) → later ≡ [] → sdus_of r.est id (s'.at r.anchor).line ++ later ≡ []
    no_line_after later none = ap (λ line. sdus_of r.est id line ++ later) submits.none_after ∙ none

    takes_it : (later after : List (List ℕ)) → later ≡ [] → after ≡ [] → IsSendingAt u r id s r.anchor later → IsSendingAt (with_more u (p ∷ [])) r id s' r.anchor after
    takes_it later after none none' is =
        let same : is.anchor ≡ a = same_active is.anchor a (s.at r.anchor).anchor is.there submits.was in
        let told : IsWindowOf u r.est id s a.entity.tx = subst (λ (k : Active). IsWindowOf u r.est id s k.entity.tx) same is.told in
        let front : HasFront u [] a = subst (λ xs. HasFront u xs a) (no_line later none) (subst (HasFront u (sdus_of r.est id (s.at r.anchor).line ++ later)) same is.front) in
        record {
          anchor = b;
          there = submits.is;
          front = subst (λ xs. HasFront (with_more u (p ∷ [])) xs b) (sym (no_line_after after none'))
              (submits.front (with_more u (p ∷ [])) [] (record { same_n = front.same_n; front = more_front [] a.is_open a.entity.tx submits.counts told front.front }));
          line = submits.line.line is.line;
          upto = submits.line.upto r.g is.upto;
          known = submits.line.known r.g is.known;
          frozen = submits.line.frozen ∙ is.frozen;
          told = window_more a.entity.tx b.entity.tx submits.counts submits.rises submits.told told;
        }

    -- from one that is about to be left
    abbrev LeavingTo : Node → Type 0
    LeavingTo x =
        (y : Node) → is_same_node x y ≡ false → (new : IsAwaiting u r.est id (s.at y)) → IsSendingAt u r id s x (coming_to r.est id (s.at y) new.anchor) → r.g < new.anchor.setup.g → coming_to r.est id (s.at y) new.anchor ≡ []
        → new.anchor.transfer ≡ None → new.anchor.down ≡ nothing_came → ((l : LinkId) → AllByRecursion (IsBeforeFreeze new.anchor.setup.g id) (s.flights l)) → AreAway r.est id s x y → IsOrdered (with_more u (p ∷ [])) r id s'

    leaving_to : LeavingTo r.anchor
    unfolding awaits_still
    leaving_to y apart new is older none no_transfer nothing before away =
        let at = submits.alone.others y apart in
        let none' : coming_to r.est id (s'.at y) new.anchor ≡ [] = ap (λ (q : Place). coming_to r.est id q new.anchor) at ∙ none in
        let still = awaits_still u r id s s' y at new in
        about_to_move r.anchor y apart
        (record { anchor = new.anchor; there = still.there; same_n = still.same_n; line = still.line; upto = still.upto; known = still.known; frozen = still.frozen })
        (takes_it (coming_to r.est id (s.at y) new.anchor) (coming_to r.est id (s'.at y) new.anchor) none none' is) (to_old refl older none') (λ elsewhere. absurd (differ (sym (node_itself r.anchor) ∙ elsewhere))) no_transfer nothing
        (λ l. submits.alone.flights (IsBeforeFreeze new.anchor.setup.g id) (λ f silent. else_before new.anchor.setup.g id f silent) l (before l)) (away_still u r id s s' r.anchor y (λ z one two. submits.alone.others z one) away)
      where
        differ : true ≡ false → ⊥
        differ bad = absurd cc

    -- no anchor waits where this one is
    not_waiting : (y : Node) → r.anchor ≡ y → (w : Waiting) → (s.at y).anchor ≡ Some (waiting_anchor w) → ⊥
    not_waiting y at w there = one_kind a w (s.at r.anchor).anchor submits.was (subst (λ k. (s.at k).anchor ≡ Some (waiting_anchor w)) (sym at) there)

    pub submits_ordered : IsOrdered u r id s → IsOrdered (with_more u (p ∷ [])) r id s'
    submits_ordered (is_dropped none unsettled) = absurd (not_none (active_anchor a) (s.at r.anchor).anchor submits.was (none r.anchor))
    submits_ordered (at_anchor x path is away) =
        at_anchor r.anchor refl (takes_it [] [] refl refl (subst (λ k. IsSendingAt u r id s k []) (sym path) is))
        (away_still u r id s s' r.anchor r.anchor (λ z one two. submits.alone.others z one) (subst (λ k. AreAway r.est id s k k) (sym path) away))
    submits_ordered (about_to_move x y apart new is (to_old at older none) last no_transfer nothing before away) = subst LeavingTo at leaving_to y apart new is older none no_transfer nothing before away
    submits_ordered (about_to_move x y apart new is (to_new at now) last no_transfer nothing before away) = absurd (not_waiting y at new.anchor new.there)
    submits_ordered (on_its_way x y apart new gone tx closed takes' front (to_old at older none) frozen flights told away) =
        absurd (not_none (active_anchor a) (s.at r.anchor).anchor submits.was (subst (λ k. (s.at k).anchor ≡ None) (sym at) gone))
    submits_ordered (on_its_way x y apart new gone tx closed takes' front (to_new at now) frozen flights told away) = absurd (not_waiting y at new.anchor new.there)

  -- ---- to one that waits there

  module _ (w k : Waiting) (submits : SubmitsWaiting r id p s s' w k) where
    -- what comes to it
    coming_more : (w' : Waiting) → w' ≡ w → (xs : List (List ℕ)) → (xs ++ coming_to r.est id (s.at r.anchor) w') ++ p ∷ [] ≡ xs ++ coming_to r.est id (s'.at r.anchor) k
    coming_more w' same xs =
        ap (λ (j : Waiting). (xs ++ coming_to r.est id (s.at r.anchor) j) ++ p ∷ []) same ∙ ap (λ line. (xs ++ (w.fresh ++ sdus_of r.est id line)) ++ p ∷ []) submits.none
        ∙ ap (λ ys. (xs ++ ys) ++ p ∷ []) (append-nil w.fresh) ∙ append_assoc xs w.fresh (p ∷ []) ∙ ap (λ ys. xs ++ ys) (sym (append-nil (w.fresh ++ p ∷ [])))
        ∙ ap (λ line. xs ++ ((w.fresh ++ p ∷ []) ++ sdus_of r.est id line)) (sym submits.none_after) ∙ ap (λ (j : Waiting). xs ++ coming_to r.est id (s'.at r.anchor) j) (sym submits.keeps)

    awaits_it : (new : IsAwaiting u r.est id (s.at r.anchor)) → new.anchor ≡ w → IsAwaiting (with_more u (p ∷ [])) r.est id (s'.at r.anchor)
    awaits_it new same =
        let setup : k.setup ≡ new.anchor.setup = ap (λ (j : Waiting). j.setup) submits.keeps ∙ ap (λ (j : Waiting). j.setup) (sym same) in
        record {
          anchor = k;
          there = submits.is;
          same_n = ap (λ (x : Setup). x.n) setup ∙ new.same_n;
          line = submits.line.line new.line;
          upto = submits.line.upto k.setup.g (subst (λ (x : Setup). IsSinceUpto x.g (s.at r.anchor).fed) (sym setup) new.upto);
          known = submits.line.known k.setup.g (subst (λ (x : Setup). AreUpto id x.g (s.at r.anchor).line (s.at r.anchor).fed) (sym setup) new.known);
          frozen = submits.line.frozen ∙ new.frozen;
        }

    sends_behind : (x : Node) (w' : Waiting) → w' ≡ w → is_same_node r.anchor x ≡ false → IsSendingAt u r id s x (coming_to r.est id (s.at r.anchor) w') → IsSendingAt (with_more u (p ∷ [])) r id s' x (coming_to r.est id (s'.at r.anchor) k)
    sends_behind x w' same off is =
        let at = submits.alone.others x off in
        record {
          anchor = is.anchor;
          there = ap (λ (q : Place). q.anchor) at ∙ is.there;
          front = record {
            same_n = is.front.same_n;
            front = subst (λ (q : Place). IsFront (with_more u (p ∷ [])) (sdus_of r.est id q.line ++ coming_to r.est id (s'.at r.anchor) k) is.anchor.is_open is.anchor.entity.tx) (sym at)
                (subst (λ xs. IsFront (with_more u (p ∷ [])) xs is.anchor.is_open is.anchor.entity.tx) (coming_more w' same (sdus_of r.est id (s.at x).line))
                (more_front (sdus_of r.est id (s.at x).line ++ coming_to r.est id (s.at r.anchor) w') is.anchor.is_open is.anchor.entity.tx submits.counts is.told is.front.front));
          };
          line = subst (λ (q : Place). IfThere (λ (f : Fed). IsLineOf r.est id f q.line) q.fed) (sym at) is.line;
          upto = subst (λ (q : Place). IsSinceUpto r.g q.fed) (sym at) is.upto;
          known = subst (λ (q : Place). AreUpto id r.g q.line q.fed) (sym at) is.known;
          frozen = ap (λ (q : Place). q.frozen) at ∙ is.frozen;
          told = window_more is.anchor.entity.tx is.anchor.entity.tx submits.counts (omega arith) submits.told is.told;
        }

    setup_is : (new : Waiting) → new ≡ w → k.setup ≡ new.setup
    setup_is new same = ap (λ (j : Waiting). j.setup) submits.keeps ∙ ap (λ (j : Waiting). j.setup) (sym same)

    abbrev JoiningIt : Node → Type 0
    JoiningIt y =
        (x : Node) → is_same_node x y ≡ false → (new : IsAwaiting u r.est id (s.at y)) → IsSendingAt u r id s x (coming_to r.est id (s.at y) new.anchor) → r.g ≡ new.anchor.setup.g
        → (is_same_node x r.anchor ≡ false → IfThere (λ (f : Fed). IsLastLineOf r.est id r.g f (s.at x).line) (s.at x).fed) → new.anchor.transfer ≡ None → new.anchor.down ≡ nothing_came
        → ((l : LinkId) → AllByRecursion (IsBeforeFreeze new.anchor.setup.g id) (s.flights l)) → AreAway r.est id s x y → IsOrdered (with_more u (p ∷ [])) r id s'

    joining_it : JoiningIt r.anchor
    unfolding awaits_it
    joining_it x apart new is now last no_transfer nothing before away =
        let same : new.anchor ≡ w = same_waiting new.anchor w (s.at r.anchor).anchor new.there submits.was in
        let off = apart_turned x r.anchor apart in
        let g_is : new.anchor.setup.g ≡ k.setup.g = ap (λ (x : Setup). x.g) (sym (setup_is new.anchor same)) in
        about_to_move x r.anchor apart (awaits_it new same) (sends_behind x new.anchor same off is) (to_new refl (now ∙ g_is))
        (λ elsewhere. subst (λ (q : Place). IfThere (λ (f : Fed). IsLastLineOf r.est id r.g f q.line) q.fed) (sym (submits.alone.others x off)) (last elsewhere))
        (ap (λ (j : Waiting). j.transfer) submits.keeps ∙ ap (λ (j : Waiting). j.transfer) (sym same) ∙ no_transfer) (ap (λ (j : Waiting). j.down) submits.keeps ∙ ap (λ (j : Waiting). j.down) (sym same) ∙ nothing)
        (λ l. submits.alone.flights (IsBeforeFreeze k.setup.g id) (λ f silent. else_before k.setup.g id f silent) l (subst (λ g. AllByRecursion (IsBeforeFreeze g id) (s.flights l)) g_is (before l)))
        (away_still u r id s s' x r.anchor (λ z one two. submits.alone.others z two) away)

    abbrev TakingIt : Node → Type 0
    TakingIt y =
        (x : Node) → is_same_node x y ≡ false → (new : IsAwaiting u r.est id (s.at y)) → (s.at x).anchor ≡ None → (tx : Sender) (closed : Bool) → IsTakingOver tx closed new.anchor
        → IsFront u (sdus_of r.est id (s.at x).line ++ coming_to r.est id (s.at y) new.anchor) false tx → r.g ≡ new.anchor.setup.g → IsFrozenAs closed tx r id (s.at x) x new.anchor.setup.g
        → ((l : LinkId) → AllByRecursion (IsOfSender tx closed new.anchor.setup.g id) (s.flights l)) → IsWindowOf u r.est id s tx → AreAway r.est id s x y → IsOrdered (with_more u (p ∷ [])) r id s'

    taking_it : TakingIt r.anchor
    unfolding awaits_it
    taking_it x apart new gone tx closed takes' front now frozen flights told away =
        let same : new.anchor ≡ w = same_waiting new.anchor w (s.at r.anchor).anchor new.there submits.was in
        let off = apart_turned x r.anchor apart in
        let at = submits.alone.others x off in
        let g_is : new.anchor.setup.g ≡ k.setup.g = ap (λ (x : Setup). x.g) (sym (setup_is new.anchor same)) in
        on_its_way x r.anchor apart (awaits_it new same) (ap (λ (q : Place). q.anchor) at ∙ gone) tx closed
        (record {
          same_n = ap (λ (x : Setup). x.n) (setup_is new.anchor same) ∙ takes'.same_n;
          transfer = λ st is. takes'.transfer st (ap (λ (j : Waiting). j.transfer) same ∙ sym (ap (λ (j : Waiting). j.transfer) submits.keeps) ∙ is);
          down = subst (IsEndOf (down_tunnel tx closed)) (ap (λ (j : Waiting). j.down) same ∙ sym (ap (λ (j : Waiting). j.down) submits.keeps)) takes'.down;
        })
        (subst (λ (q : Place). IsFront (with_more u (p ∷ [])) (sdus_of r.est id q.line ++ coming_to r.est id (s'.at r.anchor) k) false tx) (sym at)
        (subst (λ xs. IsFront (with_more u (p ∷ [])) xs false tx) (coming_more new.anchor same (sdus_of r.est id (s.at x).line))
        (more_front (sdus_of r.est id (s.at x).line ++ coming_to r.est id (s.at r.anchor) new.anchor) false tx submits.counts told front))) (to_new refl (now ∙ g_is))
        (subst (IsFrozenAs closed tx r id (s'.at x) x) g_is (frozen_still u r id s s' closed tx x new.anchor.setup.g at frozen))
        (λ l. submits.alone.flights (IsOfSender tx closed k.setup.g id) (λ f silent. else_of tx closed k.setup.g id f silent) l (subst (λ g. AllByRecursion (IsOfSender tx closed g id) (s.flights l)) g_is (flights l)))
        (window_more tx tx submits.counts (omega arith) submits.told told) (away_still u r id s s' x r.anchor (λ z one two. submits.alone.others z two) away)

    not_active : (x : Node) → r.anchor ≡ x → (a : Active) → (s.at x).anchor ≡ Some (active_anchor a) → ⊥
    not_active x at a there = one_kind a w (s.at r.anchor).anchor (subst (λ j. (s.at j).anchor ≡ Some (active_anchor a)) (sym at) there) submits.was

    pub waiting_ordered : IsOrdered u r id s → IsOrdered (with_more u (p ∷ [])) r id s'
    waiting_ordered (is_dropped none unsettled) = absurd (not_none (waiting_anchor w) (s.at r.anchor).anchor submits.was (none r.anchor))
    waiting_ordered (at_anchor x path is away) = absurd (not_active x path is.anchor is.there)
    waiting_ordered (about_to_move x y apart new is (to_old at older none) last no_transfer nothing before away) = absurd (not_active x at is.anchor is.there)
    waiting_ordered (about_to_move x y apart new is (to_new at now) last no_transfer nothing before away) = subst JoiningIt at joining_it x apart new is now last no_transfer nothing before away
    waiting_ordered (on_its_way x y apart new gone tx closed takes' front (to_old at older none) frozen flights told away) =
        absurd (not_none (waiting_anchor w) (s.at r.anchor).anchor submits.was (subst (λ j. (s.at j).anchor ≡ None) (sym at) gone))
    waiting_ordered (on_its_way x y apart new gone tx closed takes' front (to_new at now) frozen flights told away) = subst TakingIt at taking_it x apart new gone tx closed takes' front now frozen flights told away
