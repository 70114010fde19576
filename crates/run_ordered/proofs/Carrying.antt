-- The order of the downlink is kept as a plan is carried out at the master: the row is of a new generation, and the path may lead to the
-- anchor that waits.
use Rattle.std.proofs.Common.{Bool, List, None, Option, Some, [], false, refl, sym, subst, ap, arith, true, ℕ, ◌++◌, ◌<◌, ◌≡◌, ◌≤◌, ◌∙◌, ◌∷◌}
use Rattle.std.specs.List.{AllByRecursion}
use Rattle.dc_base.specs.Nodes.{is_same_node}
use Rattle.dc_base.specs.declared.flights.Flight.TheVariants as flight
use Rattle.dc_base.specs.declared.nodes.LinkId.{LinkId}
use Rattle.dc_base.specs.declared.nodes.Node.{Node}
use Rattle.forward.specs.Forwarded.{nothing_came}
use Rattle.pdcp_tx.specs.Sender.{Sender}
use Rattle.transcript.proofs.OnEach.{each_append}
use Rattle.node_rules.specs.Anchor.{Active}
use Rattle.node_rules.specs.Feed.{Fed}
use Rattle.node_rules.specs.declared.commands.Row.{Row}
use Rattle.run_pairs.proofs.Replies.{node_itself}
use Rattle.run_receivers.specs.Submitted.{Submitted}
use Rattle.run_senders.specs.Holders.{IfThere}
use Rattle.run_ordered.specs.Feeds.{AreUpto, EndsLine, IsBefore, IsLastLineOf, IsLineOf, IsSince, IsSinceUpto, IsUpto, sdus_of}
use Rattle.run_ordered.specs.Forwarding.{IsBeforeFreeze, IsOfSender, IsTakingOver}
use Rattle.run_ordered.specs.Fronts.{HasFront, IsFront}
use Rattle.run_ordered.specs.Orders.{AreAway, IsAway, IsAwaiting, IsFrozenAs, IsOrdered, IsSendingAt, IsWindowOf, Place, Scene, about_to_move, at_anchor, coming_to, on_its_way, to_new}
use Rattle.run_ordered.specs.Turns.{IsRenamed, PathLeaves, PathTurns}
use Rattle.run_ordered.proofs.Saying.{else_before, else_of}
use Rattle.run_ordered.proofs.Scenes.{same_active}
use Rattle.run_ordered.proofs.Taking.{waiting_takes}
use Rattle.run_ordered.proofs.Turning.{are_more, ends_new, sdus_end, since_more, upto_before, upto_more}

module _ (u : Submitted) (r q : Row) (id : ℕ) (s s' : Scene) where
  -- ---- the anchor stays

  -- a row of the same establishment, in a later generation
  pub renamed_here : (x : Node) → IsRenamed r q x → IsSendingAt u r id s x [] → AreAway r.est id s x x → IsOrdered u q id s
  renamed_here x renamed is away =
      at_anchor x renamed.anchor
      (record {
        anchor = is.anchor;
        there = is.there;
        front = subst (λ e. HasFront u (sdus_of e id (s.at x).line ++ []) is.anchor) (sym renamed.est) is.front;
        line = subst (λ e. IfThere (λ (f : Fed). IsLineOf e id f (s.at x).line) (s.at x).fed) (sym renamed.est) is.line;
        upto = since_more r.g q.g (s.at x).fed renamed.newer is.upto;
        known = are_more id r.g q.g (s.at x).line (s.at x).fed renamed.newer is.known;
        frozen = is.frozen;
        told = subst (λ e. IsWindowOf u e id s is.anchor.entity.tx) (sym renamed.est) is.told;
      }) (λ z one two. subst (λ e. IsAway e id (s.at z)) (sym renamed.est) (away z one two))

  -- ---- the path turns to another node

  -- what is so of the place of another node
  module _ (same : q.est ≡ r.est) where
    awaits_as : (y : Node) → s'.at y ≡ s.at y → IsAwaiting u r.est id (s.at y) → IsAwaiting u q.est id (s'.at y)
    awaits_as y at new = record {
      anchor = new.anchor;
      there = ap (λ (p : Place). p.anchor) at ∙ new.there;
      same_n = new.same_n;
      line = subst (λ e. IfThere (λ (f : Fed). IsLineOf e id f (s'.at y).line) (s'.at y).fed) (sym same) (subst (λ (p : Place). IfThere (λ (f : Fed). IsLineOf r.est id f p.line) p.fed) (sym at) new.line);
      upto = subst (λ (p : Place). IsSinceUpto new.anchor.setup.g p.fed) (sym at) new.upto;
      known = subst (λ (p : Place). AreUpto id new.anchor.setup.g p.line p.fed) (sym at) new.known;
      frozen = ap (λ (p : Place). p.frozen) at ∙ new.frozen;
    }

    away_as : (x y : Node) → ((z : Node) → is_same_node x z ≡ false → s'.at z ≡ s.at z) → AreAway r.est id s x y → AreAway q.est id s' x y
    away_as x y others away z one two = subst (λ e. IsAway e id (s'.at z)) (sym same) (subst (λ (p : Place). IsAway r.est id p) (sym (others z one)) (away z one two))

  module _ (x y : Node) (apart : is_same_node x y ≡ false) (turns : PathTurns u r q id s s' x y) where
    same_est : q.est ≡ r.est
    same_est = turns.renamed.est

    line_is : (s'.at x).line ≡ (s.at x).line ++ flight.End id q.g ∷ []
    line_is = ap (λ (p : Place). p.line) turns.line

    sdus_same : sdus_of q.est id (s'.at x).line ≡ sdus_of r.est id (s.at x).line
    sdus_same = ap (λ e. sdus_of e id (s'.at x).line) same_est ∙ ap (sdus_of r.est id) line_is ∙ sdus_end r.est id q.g (s.at x).line

    -- what the anchor takes from its line
    line_more : (o : Option Fed) → IfThere (λ (f : Fed). IsLineOf r.est id f (s.at x).line) o → IfThere (λ (f : Fed). IsLineOf r.est id f ((s.at x).line ++ flight.End id q.g ∷ [])) o
    line_more None is = tt
    line_more (Some f) is = record { since = each_append (IsSince r.est id f.since) (s.at x).line (flight.End id q.g ∷ []) is.since (tt, tt); from = is.from }

    last_more : (o : Option Fed) → r.g < q.g → AllByRecursion (IsUpto id r.g) (s.at x).line → IfThere (λ (f : Fed). (h : ℕ) → f.ended ≡ Some h → h ≤ r.g) o
        → IfThere (λ (f : Fed). IsLastLineOf r.est id q.g f ((s.at x).line ++ flight.End id q.g ∷ [])) o
    last_more None newer stand taken = tt
    last_more (Some f) newer stand taken = record {
      before = each_append (IsBefore r.est id q.g) (s.at x).line (flight.End id q.g ∷ []) (upto_before r.est id r.g q.g (s.at x).line newer stand) (tt, tt);
      ends = ends_new r.est id r.g q.g (s.at x).line newer stand;
      ended = λ is. absurd (let le = taken q.g is in omega (arith, le, newer));
    }

    known_more : AreUpto id r.g (s.at x).line (s.at x).fed → AreUpto id q.g ((s.at x).line ++ flight.End id q.g ∷ []) (s.at x).fed
    known_more is =
        let more = are_more id r.g q.g (s.at x).line (s.at x).fed turns.renamed.newer is in
        record { stand = each_append (IsUpto id q.g) (s.at x).line (flight.End id q.g ∷ []) more.stand ((λ named. omega arith), tt); taken = more.taken }

    -- the anchor is still active there
    pub turns_ordered : (new : IsAwaiting u r.est id (s.at y)) → IsSendingAt u r id s x (coming_to r.est id (s.at y) new.anchor) → r.g < new.anchor.setup.g → q.g ≡ new.anchor.setup.g → new.anchor.transfer ≡ None → new.anchor.down ≡ nothing_came
        → ((l : LinkId) → AllByRecursion (IsBeforeFreeze new.anchor.setup.g id) (s.flights l)) → AreAway r.est id s x y → IsOrdered u q id s'
    unfolding awaits_as
    turns_ordered new is older now no_transfer nothing before away =
        let at = turns.alone.others y apart in
        let less : r.g < q.g = omega (arith, older, now) in
        about_to_move x y apart (awaits_as same_est y at new)
        (record {
          anchor = is.anchor;
          there = ap (λ (p : Place). p.anchor) turns.line ∙ is.there;
          front = subst (λ xs. HasFront u (xs ++ coming_to q.est id (s'.at y) new.anchor) is.anchor) (sym sdus_same)
              (subst (λ xs. HasFront u (sdus_of r.est id (s.at x).line ++ xs) is.anchor) (ap (λ e. coming_to e id (s.at y) new.anchor) (sym same_est) ∙ ap (λ (p : Place). coming_to q.est id p new.anchor) (sym at)) is.front);
          line = subst (λ e. IfThere (λ (f : Fed). IsLineOf e id f (s'.at x).line) (s'.at x).fed) (sym same_est)
              (subst (λ (p : Place). IfThere (λ (f : Fed). IsLineOf r.est id f p.line) p.fed) (sym turns.line) (line_more (s.at x).fed is.line));
          upto = subst (λ (p : Place). IsSinceUpto q.g p.fed) (sym turns.line) (since_more r.g q.g (s.at x).fed turns.renamed.newer is.upto);
          known = subst (λ (p : Place). AreUpto id q.g p.line p.fed) (sym turns.line) (known_more is.known);
          frozen = ap (λ (p : Place). p.frozen) turns.line ∙ is.frozen;
          told = turns.told is.anchor.entity.tx is.told;
        }) (to_new turns.renamed.anchor now)
        (λ elsewhere. subst (λ e. IfThere (λ (f : Fed). IsLastLineOf e id q.g f (s'.at x).line) (s'.at x).fed) (sym same_est)
        (subst (λ (p : Place). IfThere (λ (f : Fed). IsLastLineOf r.est id q.g f p.line) p.fed) (sym turns.line) (last_more (s.at x).fed less is.known.stand is.known.taken))) no_transfer nothing
        (λ l. turns.alone.flights (IsBeforeFreeze new.anchor.setup.g id) (λ f none. else_before new.anchor.setup.g id f none) l (before l)) (away_as same_est x y turns.alone.others away)

    -- or it was frozen before
    frozen_turns : (tx : Sender) (closed : Bool) (g : ℕ) → r.anchor ≡ x → r.g < g → q.g ≡ g → IsFrozenAs closed tx r id (s.at x) x g → IsFrozenAs closed tx q id (s'.at x) x g
    frozen_turns tx true g path older now is = absurd (let bad : true ≡ false = sym (node_itself x) ∙ ap (is_same_node x) (sym path) ∙ is.2 in cc)
    frozen_turns tx false g path older now is =
        let less : r.g < q.g = omega (arith, older, now) in
        record {
          frozen = is.frozen;
          there = ap (λ (p : Place). p.frozen) turns.line ∙ is.there;
          g_is = is.g_is;
          id_is = is.id_is;
          n_is = is.n_is;
          next = is.next;
          from = subst (λ e. e ≤ is.frozen.since) (sym same_est) is.from;
          upto = (let le = is.upto in let newer = turns.renamed.newer in omega arith);
          since = subst (λ e. AllByRecursion (IsSince e id is.frozen.since) (s'.at x).line) (sym same_est)
              (subst (AllByRecursion (IsSince r.est id is.frozen.since)) (sym line_is) (each_append (IsSince r.est id is.frozen.since) (s.at x).line (flight.End id q.g ∷ []) is.since (tt, tt)));
          before = subst (λ e. AllByRecursion (IsBefore e id g) (s'.at x).line) (sym same_est)
              (subst (AllByRecursion (IsBefore r.est id g)) (sym line_is) (each_append (IsBefore r.est id g) (s.at x).line (flight.End id q.g ∷ []) is.before (tt, tt)));
          known = subst (AllByRecursion (IsUpto id q.g)) (sym line_is)
              (each_append (IsUpto id q.g) (s.at x).line (flight.End id q.g ∷ []) (upto_more id r.g q.g (s.at x).line turns.renamed.newer is.known) ((λ named. omega arith), tt));
          ends = λ elsewhere. subst (λ e. EndsLine e id g (s'.at x).line) (sym same_est)
              (subst (EndsLine r.est id g) (sym line_is) (subst (λ k. EndsLine r.est id k ((s.at x).line ++ flight.End id q.g ∷ [])) now (ends_new r.est id r.g q.g (s.at x).line less is.known)));
        }

    pub frozen_turns_ordered : (new : IsAwaiting u r.est id (s.at y)) → (s.at x).anchor ≡ None → (tx : Sender) (closed : Bool) → IsTakingOver tx closed new.anchor
        → IsFront u (sdus_of r.est id (s.at x).line ++ coming_to r.est id (s.at y) new.anchor) false tx → r.anchor ≡ x → r.g < new.anchor.setup.g → q.g ≡ new.anchor.setup.g → IsFrozenAs closed tx r id (s.at x) x new.anchor.setup.g
        → ((l : LinkId) → AllByRecursion (IsOfSender tx closed new.anchor.setup.g id) (s.flights l)) → IsWindowOf u r.est id s tx → AreAway r.est id s x y → IsOrdered u q id s'
    unfolding awaits_as
    frozen_turns_ordered new gone tx closed takes' front path older now frozen flights told away =
        let at = turns.alone.others y apart in
        on_its_way x y apart (awaits_as same_est y at new) (ap (λ (p : Place). p.anchor) turns.line ∙ gone) tx closed takes'
        (subst (λ xs. IsFront u (xs ++ coming_to q.est id (s'.at y) new.anchor) false tx) (sym sdus_same)
        (subst (λ xs. IsFront u (sdus_of r.est id (s.at x).line ++ xs) false tx) (ap (λ e. coming_to e id (s.at y) new.anchor) (sym same_est) ∙ ap (λ (p : Place). coming_to q.est id p new.anchor) (sym at)) front))
        (to_new turns.renamed.anchor now) (frozen_turns tx closed new.anchor.setup.g path older now frozen)
        (λ l. turns.alone.flights (IsOfSender tx closed new.anchor.setup.g id) (λ f none. else_of tx closed new.anchor.setup.g id f none) l (flights l)) (turns.told tx told) (away_as same_est x y turns.alone.others away)

  -- ---- the path leaves the master

  module _ (x y : Node) (apart : is_same_node x y ≡ false) (a : Active) (leaves : PathLeaves u r q id s s' x y a) where
    pub leaves_ordered : (new : IsAwaiting u r.est id (s.at y)) → IsSendingAt u r id s x (coming_to r.est id (s.at y) new.anchor) → q.g ≡ new.anchor.setup.g → new.anchor.transfer ≡ None → new.anchor.down ≡ nothing_came
        → ((l : LinkId) → AllByRecursion (IsBeforeFreeze new.anchor.setup.g id) (s.flights l)) → AreAway r.est id s x y → IsOrdered u q id s'
    unfolding awaits_as
    leaves_ordered new is now no_transfer nothing before away =
        let same : is.anchor ≡ a = same_active is.anchor a (s.at x).anchor is.there leaves.was in
        let same_e : q.est ≡ r.est = leaves.renamed.est in
        let at = leaves.others y apart in
        let front : HasFront u (sdus_of r.est id (s.at x).line ++ coming_to r.est id (s.at y) new.anchor) a = subst (HasFront u (sdus_of r.est id (s.at x).line ++ coming_to r.est id (s.at y) new.anchor)) same is.front in
        let line_none : sdus_of q.est id (s'.at x).line ≡ [] = ap (sdus_of q.est id) leaves.line_after in
        let flights = leaves.flights (subst (λ g. (l : LinkId) → AllByRecursion (IsBeforeFreeze g id) (s.flights l)) (sym now) before) in
        on_its_way x y apart (awaits_as same_e y at new) leaves.none a.entity.tx true (waiting_takes a.entity.tx true new.anchor.setup (new.same_n ∙ sym front.front.same_n) new.anchor refl no_transfer nothing)
        (subst (λ xs. IsFront u (xs ++ coming_to q.est id (s'.at y) new.anchor) false a.entity.tx) (sym line_none)
        (subst (λ xs. IsFront u xs false a.entity.tx) (ap (λ line. sdus_of r.est id line ++ coming_to r.est id (s.at y) new.anchor) leaves.line ∙ ap (λ e. coming_to e id (s.at y) new.anchor) (sym same_e) ∙ ap (λ (p : Place). coming_to q.est id p new.anchor) (sym at))
        (shut_front a.is_open front.front))) (to_new leaves.renamed.anchor now) (leaves.frozen, line_none, ap (is_same_node x) leaves.renamed.anchor ∙ apart)
        (subst (λ g. (l : LinkId) → AllByRecursion (IsOfSender a.entity.tx true g id) (s'.flights l)) now flights) (leaves.told (subst (λ (k : Active). IsWindowOf u r.est id s k.entity.tx) same is.told)) (away_as same_e x y leaves.others away)
      where
        shut_front : {rest : List (List ℕ)} {tx : Sender} (is_open : Bool) → IsFront u rest is_open tx → IsFront u rest false tx
        shut_front is_open f = record { same_n = f.same_n; given = f.given; next = f.next; all = f.all; rises = f.rises; kept = f.kept; room = f.room; small = f.small; none_held = λ shut. absurd cc }
