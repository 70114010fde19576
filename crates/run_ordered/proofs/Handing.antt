-- The order of the downlink is kept as a frozen anchor forwards, and as the anchor that waits takes over; and where nothing is done with
-- the bearer.
use Rattle.std.proofs.Common.{Bool, List, None, Option, Some, [], false, refl, sym, subst, ap, true, ℕ, inl, inr, ◌++◌, ◌<◌, ◌≡◌, ◌∙◌, ◌⊎◌}
use Rattle.std.specs.List.{AllByRecursion, cons_option}
use Rattle.std.proofs.lemmas.List.{append-nil}
use Rattle.dc_base.specs.Nodes.{is_same_node}
use Rattle.dc_base.specs.declared.flights.Flight.{Flight}
use Rattle.dc_base.specs.declared.nodes.LinkId.{LinkId}
use Rattle.dc_base.specs.declared.nodes.Node.{Node}
use Rattle.forward.specs.Forwarded.{nothing_came}
use Rattle.forward.proofs.Arrivals.{end_later}
use Rattle.pdcp_tx.specs.Sender.{Sender}
use Rattle.node_rules.specs.Anchor.{AnchorState, Waiting, active_anchor, waiting_anchor}
use Rattle.node_rules.specs.Feed.{Fed}
use Rattle.node_rules.specs.declared.commands.Row.{Row}
use Rattle.run_pairs.proofs.Replies.{apart_turned, node_itself, same_node}
use Rattle.run_receivers.specs.Submitted.{Submitted}
use Rattle.run_senders.specs.Holders.{IfThere}
use Rattle.run_ordered.specs.Feeds.{AreUpto, EndsLine, IsBefore, IsUpto, IsSince, IsLastLineOf, IsLineOf, IsSinceUpto, sdus_of}
use Rattle.run_ordered.specs.Forwarding.{IsBeforeFreeze, IsOfSender, IsTakingOver, down_tunnel}
use Rattle.run_ordered.specs.Fronts.{ArePayloads, HasFront, IsFront}
use Rattle.run_ordered.specs.Orders.{AreAway, IsAway, IsAwaiting, IsFrozenAs, IsOrdered, IsPath, IsSendingAt, IsWindowOf, Place, Scene, about_to_move, at_anchor, coming_to, is_dropped, on_its_way, to_new, to_old}
use Rattle.run_ordered.specs.Scenes.{HasRisen, Shrinks, first_gone, same_line, Forwards, HasOrTakes, IsWindowAt, Receives, StaysSo, has, takes}
use Rattle.run_ordered.proofs.Saying.{else_before, else_of}
use Rattle.run_ordered.proofs.Scenes.{awaits_still, path_still, away_still, not_none, one_kind, same_or, same_waiting, waits_ordered}

-- ---- a line that shrinks

shrunk_sdus : (est id : ℕ) (line line' : List Flight) → Shrinks est id line line' → sdus_of est id line' ≡ sdus_of est id line
shrunk_sdus est id line line' same_line = refl
shrunk_sdus est id line line' (first_gone f rest first other) = sym (ap (sdus_of est id) first ∙ ap (λ o. cons_option o (sdus_of est id rest)) other)

shrunk_all : {est id : ℕ} (P : Flight → Type 0) (line line' : List Flight) → Shrinks est id line line' → AllByRecursion P line → AllByRecursion P line'
shrunk_all P line line' same_line all = all
shrunk_all P line line' (first_gone f rest first other) all = (subst (AllByRecursion P) first all).1

shrunk_ends : {est id : ℕ} (g : ℕ) (line line' : List Flight) → Shrinks est id line line' → EndsLine est id g line → EndsLine est id g line'
shrunk_ends g line line' same_line ends = ends
shrunk_ends {est} {id} g line line' (first_gone f rest first other) ends = (subst (EndsLine est id g) first ends).1

shrunk_line : (est id : ℕ) (line line' : List Flight) (o : Option Fed) → Shrinks est id line line' → IfThere (λ (f : Fed). IsLineOf est id f line) o → IfThere (λ (f : Fed). IsLineOf est id f line') o
shrunk_line est id line line' None less is = tt
shrunk_line est id line line' (Some f) less is = record { since = shrunk_all (IsSince est id f.since) line line' less is.since; from = is.from }

shrunk_last : (est id h : ℕ) (line line' : List Flight) (o : Option Fed) → Shrinks est id line line' → IfThere (λ (f : Fed). IsLastLineOf est id h f line) o → IfThere (λ (f : Fed). IsLastLineOf est id h f line') o
shrunk_last est id h line line' None less is = tt
shrunk_last est id h line line' (Some f) less is = record {
  before = shrunk_all (IsBefore est id h) line line' less is.before;
  ends = shrunk_ends h line line' less is.ends;
  ended = λ at. shrunk_sdus est id line line' less ∙ is.ended at;
}

shrunk_known : {est : ℕ} (id h : ℕ) (line line' : List Flight) (o : Option Fed) → Shrinks est id line line' → AreUpto id h line o → AreUpto id h line' o
shrunk_known id h line line' o less is = record { stand = shrunk_all (IsUpto id h) line line' less is.stand; taken = is.taken }

module _ (u : Submitted) (r : Row) (id : ℕ) (s s' : Scene) where
  -- ---- nothing is done with it

  module _ (stays : StaysSo r.est id s s') where
    sdus_so : (x : Node) → sdus_of r.est id (s'.at x).line ≡ sdus_of r.est id (s.at x).line
    sdus_so x = shrunk_sdus r.est id (s.at x).line (s'.at x).line (stays.line x)

    line_so : (x : Node) → IfThere (λ (f : Fed). IsLineOf r.est id f (s.at x).line) (s.at x).fed → IfThere (λ (f : Fed). IsLineOf r.est id f (s'.at x).line) (s'.at x).fed
    line_so x is = subst (λ fed. IfThere (λ (f : Fed). IsLineOf r.est id f (s'.at x).line) fed) (sym (stays.fed x)) (shrunk_line r.est id (s.at x).line (s'.at x).line (s.at x).fed (stays.line x) is)

    known_so : (x : Node) (h : ℕ) → AreUpto id h (s.at x).line (s.at x).fed → AreUpto id h (s'.at x).line (s'.at x).fed
    known_so x h is = subst (AreUpto id h (s'.at x).line) (sym (stays.fed x)) (shrunk_known id h (s.at x).line (s'.at x).line (s.at x).fed (stays.line x) is)

    sends_so : (x : Node) (later : List (List ℕ)) → IsSendingAt u r id s x later → IsSendingAt u r id s' x later
    sends_so x later is = record {
      anchor = is.anchor;
      there = stays.anchor x ∙ is.there;
      front = subst (λ xs. HasFront u (xs ++ later) is.anchor) (sym (sdus_so x)) is.front;
      line = line_so x is.line;
      upto = subst (IsSinceUpto r.g) (sym (stays.fed x)) is.upto;
      known = known_so x r.g is.known;
      frozen = stays.frozen x ∙ is.frozen;
      told = stays.told u is.anchor.entity.tx is.told;
    }

    awaits_so : (y : Node) → IsAwaiting u r.est id (s.at y) → IsAwaiting u r.est id (s'.at y)
    awaits_so y new = record {
      anchor = new.anchor;
      there = stays.anchor y ∙ new.there;
      same_n = new.same_n;
      line = line_so y new.line;
      upto = subst (IsSinceUpto new.anchor.setup.g) (sym (stays.fed y)) new.upto;
      known = known_so y new.anchor.setup.g new.known;
      frozen = stays.frozen y ∙ new.frozen;
    }

    coming_so : (y : Node) (w : Waiting) → coming_to r.est id (s.at y) w ≡ coming_to r.est id (s'.at y) w
    coming_so y w = ap (λ xs. w.fresh ++ xs) (sym (sdus_so y))

    path_so : (x y : Node) (w : Waiting) → IsPath r id (s.at y) x y w → IsPath r id (s'.at y) x y w
    path_so x y w (to_old at older none) = to_old at older (sym (coming_so y w) ∙ none)
    path_so x y w (to_new at same) = to_new at same

    away_so : (x y : Node) → AreAway r.est id s x y → AreAway r.est id s' x y
    away_so x y away z off off' = let is = away z off off' in record { anchor = stays.anchor z ∙ is.anchor; frozen = stays.frozen z ∙ is.frozen; line = sdus_so z ∙ is.line }

    frozen_so : (closed : Bool) (tx : Sender) (x : Node) (g : ℕ) → IsFrozenAs closed tx r id (s.at x) x g → IsFrozenAs closed tx r id (s'.at x) x g
    frozen_so true tx x g is = (stays.frozen x ∙ is.0, sdus_so x ∙ is.1, is.2)
    frozen_so false tx x g is = record {
      frozen = is.frozen;
      there = stays.frozen x ∙ is.there;
      g_is = is.g_is;
      id_is = is.id_is;
      n_is = is.n_is;
      next = is.next;
      from = is.from;
      upto = is.upto;
      since = shrunk_all (IsSince r.est id is.frozen.since) (s.at x).line (s'.at x).line (stays.line x) is.since;
      before = shrunk_all (IsBefore r.est id g) (s.at x).line (s'.at x).line (stays.line x) is.before;
      known = shrunk_all (IsUpto id r.g) (s.at x).line (s'.at x).line (stays.line x) is.known;
      ends = λ elsewhere. shrunk_ends g (s.at x).line (s'.at x).line (stays.line x) (is.ends elsewhere);
    }

    pub stays_ordered : IsOrdered u r id s → IsOrdered u r id s'
    unfolding awaits_so
    stays_ordered (is_dropped none unsettled) = is_dropped (λ z. stays.anchor z ∙ none z) (stays.unsettled ∙ unsettled)
    stays_ordered (at_anchor x path is away) = at_anchor x path (sends_so x [] is) (away_so x x away)
    stays_ordered (about_to_move x y apart new is path last no_transfer nothing before away) =
        about_to_move x y apart (awaits_so y new)
        (subst (IsSendingAt u r id s' x) (coming_so y new.anchor) (sends_so x (coming_to r.est id (s.at y) new.anchor) is)) (path_so x y new.anchor path)
        (λ elsewhere. subst (λ fed. IfThere (λ (f : Fed). IsLastLineOf r.est id r.g f (s'.at x).line) fed) (sym (stays.fed x))
        (shrunk_last r.est id r.g (s.at x).line (s'.at x).line (s.at x).fed (stays.line x) (last elsewhere))) no_transfer nothing
        (λ l. stays.flights (IsBeforeFreeze new.anchor.setup.g id) (λ f none. else_before new.anchor.setup.g id f none) l (before l)) (away_so x y away)
    stays_ordered (on_its_way x y apart new gone tx closed takes' front path frozen flights told away) =
        on_its_way x y apart (awaits_so y new) (stays.anchor x ∙ gone) tx closed takes'
        (subst (λ xs. IsFront u (xs ++ coming_to r.est id (s'.at y) new.anchor) false tx) (sym (sdus_so x))
        (subst (λ xs. IsFront u (sdus_of r.est id (s.at x).line ++ xs) false tx) (coming_so y new.anchor) front)) (path_so x y new.anchor path) (frozen_so closed tx x new.anchor.setup.g frozen)
        (λ l. stays.flights (IsOfSender tx closed new.anchor.setup.g id) (λ f none. else_of tx closed new.anchor.setup.g id f none) l (flights l)) (stays.told u tx told) (away_so x y away)

  -- ---- the entity is taken over

  module _ (payloads : ArePayloads u) (y : Node) (w : Waiting) (t : AnchorState) (receives : Receives r.est id s s' y w t) where
    abbrev Comes : Node → Type 0
    Comes z =
        (x : Node) → is_same_node x z ≡ false → (new : IsAwaiting u r.est id (s.at z)) → (s.at x).anchor ≡ None → (tx : Sender) (closed : Bool) → IsTakingOver tx closed new.anchor
        → IsFront u (sdus_of r.est id (s.at x).line ++ coming_to r.est id (s.at z) new.anchor) false tx → IsPath r id (s.at z) x z new.anchor → IsFrozenAs closed tx r id (s.at x) x new.anchor.setup.g
        → ((l : LinkId) → AllByRecursion (IsOfSender tx closed new.anchor.setup.g id) (s.flights l)) → IsWindowOf u r.est id s tx → AreAway r.est id s x z → IsOrdered u r id s'

    -- where the anchor is this one
    module _ (x : Node) (apart : is_same_node x y ≡ false) (new : IsAwaiting u r.est id (s.at y)) (gone : (s.at x).anchor ≡ None) (tx : Sender) (closed : Bool) (path : IsPath r id (s.at y) x y w) (frozen : IsFrozenAs closed tx r id (s.at x) x w.setup.g)
        (flights : (l : LinkId) → AllByRecursion (IsOfSender tx closed w.setup.g id) (s.flights l)) (away : AreAway r.est id s x y) (same : new.anchor ≡ w) where
      off : is_same_node y x ≡ false
      off = apart_turned x y apart

      at_x : s'.at x ≡ s.at x
      at_x = receives.alone.others x off

      g_is : new.anchor.setup.g ≡ w.setup.g
      g_is = ap (λ (k : Waiting). k.setup.g) same

      path_after : (v : Waiting) → v.setup.g ≡ w.setup.g → v.fresh ≡ w.fresh → IsPath r id (s.at y) x y w → IsPath r id (s'.at y) x y v
      path_after v v_g v_fresh (to_old at older none) =
          to_old at (subst (λ g. r.g < g) (sym v_g) older) (ap (λ xs. xs ++ sdus_of r.est id (s'.at y).line) v_fresh ∙ ap (λ xs. w.fresh ++ xs) receives.same ∙ none)
      path_after v v_g v_fresh (to_new at now) = to_new at (now ∙ sym v_g)

      -- the path leads here, once all was forwarded
      led_here : closed ≡ true → IsPath r id (s.at y) x y w → (r.anchor ≡ y) × (r.g ≡ w.setup.g)
      led_here shut (to_new at now) = (at, now)
      led_here shut (to_old at older none) =
          let elsewhere = (subst (λ b. IsFrozenAs b tx r id (s.at x) x w.setup.g) shut frozen).2 in
          absurd (differ (sym (node_itself x) ∙ ap (is_same_node x) (sym at) ∙ elsewhere))
        where
          differ : true ≡ false → ⊥
          differ e = absurd cc

      after_it : (k : AnchorState) → (s'.at y).anchor ≡ Some k → HasOrTakes u w.setup.g w.fresh (sdus_of r.est id (s.at x).line) (sdus_of r.est id (s.at y).line) tx closed k → (HasRisen tx k → IsWindowAt u r.est id s' tx k) → IsOrdered u r id s'
      after_it k there (takes v v_g v_fresh is moving) told =
          on_its_way x y apart
          (record {
            anchor = v;
            there = there;
            same_n = is.same_n ∙ moving.same_n;
            line = receives.line.line new.line;
            upto = receives.line.upto v.setup.g (subst (λ g. IsSinceUpto g (s.at y).fed) (g_is ∙ sym v_g) new.upto);
            known = receives.line.known v.setup.g (subst (λ g. AreUpto id g (s.at y).line (s.at y).fed) (g_is ∙ sym v_g) new.known);
            frozen = receives.line.frozen ∙ new.frozen;
          }) (ap (λ (p : Place). p.anchor) at_x ∙ gone) tx closed is
          (subst (λ (p : Place). IsFront u (sdus_of r.est id p.line ++ (v.fresh ++ sdus_of r.est id (s'.at y).line)) false tx) (sym at_x)
          (subst (λ xs. IsFront u (sdus_of r.est id (s.at x).line ++ (v.fresh ++ xs)) false tx) (sym receives.same) moving)) (path_after v v_g v_fresh path)
          (subst (λ (p : Place). IsFrozenAs closed tx r id p x v.setup.g) (sym at_x) (subst (IsFrozenAs closed tx r id (s.at x) x) (sym v_g) frozen))
          (λ l. receives.alone.flights (IsOfSender tx closed v.setup.g id) (λ f none. else_of tx closed v.setup.g id f none) l (subst (λ g. AllByRecursion (IsOfSender tx closed g id) (s.flights l)) (sym v_g) (flights l))) (told tt)
          (away_still u r id s s' x y (λ z one two. receives.alone.others z two) away)
      after_it k there (has a shut front rises) told =
          let led = led_here shut path in
          at_anchor y led.0
          (record {
            anchor = a;
            there = there;
            front = subst (λ xs. HasFront u xs a) (sym receives.same ∙ sym (append-nil (sdus_of r.est id (s'.at y).line))) front;
            line = receives.line.line new.line;
            upto = receives.line.upto r.g (subst (λ g. IsSinceUpto g (s.at y).fed) (g_is ∙ sym led.1) new.upto);
            known = receives.line.known r.g (subst (λ g. AreUpto id g (s.at y).line (s.at y).fed) (g_is ∙ sym led.1) new.known);
            frozen = receives.line.frozen ∙ new.frozen;
            told = told rises;
          }) (λ z one two. subst (λ (p : Place). IsAway r.est id p) (sym (receives.alone.others z one)) (elsewhere z one (is_same_node x z) refl))
        where
          shut_x : IsAway r.est id (s.at x)
          shut_x = let is = subst (λ b. IsFrozenAs b tx r id (s.at x) x w.setup.g) shut frozen in record { anchor = gone; frozen = is.0; line = is.1 }

          elsewhere : (z : Node) → is_same_node y z ≡ false → (b : Bool) → is_same_node x z ≡ b → IsAway r.est id (s.at z)
          elsewhere z one true there' = subst (λ k. IsAway r.est id (s.at k)) (same_node x z there') shut_x
          elsewhere z one false apart' = away z apart' one

    comes_on : Comes y
    comes_on x apart new gone tx closed takes' front path frozen flights told away =
        let same : new.anchor ≡ w = same_waiting new.anchor w (s.at y).anchor new.there receives.was in
        let frozen' : IsFrozenAs closed tx r id (s.at x) x w.setup.g = subst (λ (k : Waiting). IsFrozenAs closed tx r id (s.at x) x k.setup.g) same frozen in
        let flights' : (l : LinkId) → AllByRecursion (IsOfSender tx closed w.setup.g id) (s.flights l) = subst (λ (k : Waiting). (l : LinkId) → AllByRecursion (IsOfSender tx closed k.setup.g id) (s.flights l)) same flights in
        let path' : IsPath r id (s.at y) x y w = subst (IsPath r id (s.at y) x y) same path in
        let front' : IsFront u (sdus_of r.est id (s.at x).line ++ coming_to r.est id (s.at y) w) false tx = subst (λ (k : Waiting). IsFront u (sdus_of r.est id (s.at x).line ++ coming_to r.est id (s.at y) k) false tx) same front in
        after_it x apart new gone tx closed path' frozen' flights' away same t receives.is
        (receives.after u (sdus_of r.est id (s.at x).line) (sdus_of r.est id (s.at y).line) tx closed payloads (λ shut. (subst (λ b. IsFrozenAs b tx r id (s.at x) x w.setup.g) shut frozen').1) flights' (subst (IsTakingOver tx closed) same takes') front')
        (λ risen. receives.told u tx risen told)

    abbrev Moves : Node → Type 0
    Moves z = (new : IsAwaiting u r.est id (s.at z)) → new.anchor.transfer ≡ None → new.anchor.down ≡ nothing_came → ((l : LinkId) → AllByRecursion (IsBeforeFreeze new.anchor.setup.g id) (s.flights l)) → IsOrdered u r id s → IsOrdered u r id s'

    moves_on : Moves y
    moves_on new no_transfer nothing before is =
        let same : new.anchor ≡ w = same_waiting new.anchor w (s.at y).anchor new.there receives.was in
        let on = receives.before (subst (λ (k : Waiting). (l : LinkId) → AllByRecursion (IsBeforeFreeze k.setup.g id) (s.flights l)) same before) (ap (λ (k : Waiting). k.transfer) (sym same) ∙ no_transfer) (ap (λ (k : Waiting). k.down) (sym same) ∙ nothing) in
        waits_ordered u r id s s' y w on.0 on.1 is

    pub receives_ordered : IsOrdered u r id s → IsOrdered u r id s'
    receives_ordered (is_dropped none unsettled) = absurd (not_none (waiting_anchor w) (s.at y).anchor receives.was (none y))
    receives_ordered (at_anchor z path is away) = elim (same_or z y) [
      | inl here ↦ absurd (one_kind is.anchor w (s.at y).anchor (subst (λ k. (s.at k).anchor ≡ Some (active_anchor is.anchor)) here is.there) receives.was)
      | inr apart ↦ absurd (not_none (waiting_anchor w) (s.at y).anchor receives.was (away y apart apart).anchor)
    ]
    receives_ordered (about_to_move x z apart new is path last no_transfer nothing before away) = elim (same_or z y) [
      | inl here ↦ subst Moves (sym here) moves_on new no_transfer nothing before (about_to_move x z apart new is path last no_transfer nothing before away)
      | inr off ↦ elim (same_or x y) [
        | inl there ↦ absurd (one_kind is.anchor w (s.at y).anchor (subst (λ k. (s.at k).anchor ≡ Some (active_anchor is.anchor)) there is.there) receives.was)
        | inr off' ↦ absurd (not_none (waiting_anchor w) (s.at y).anchor receives.was (away y off' off).anchor)
      ]
    ]
    receives_ordered (on_its_way x z apart new gone tx closed takes' front path frozen flights told away) = elim (same_or z y) [
      | inl here ↦ subst Comes (sym here) comes_on x apart new gone tx closed takes' front path frozen flights told away
      | inr off ↦ elim (same_or x y) [
        | inl there ↦ absurd (not_none (waiting_anchor w) (s.at y).anchor receives.was (subst (λ k. (s.at k).anchor ≡ None) there gone))
        | inr off' ↦ absurd (not_none (waiting_anchor w) (s.at y).anchor receives.was (away y off' off).anchor)
      ]
    ]

  -- ---- a frozen anchor forwards

  module _ (payloads : ArePayloads u) (x : Node) (forwards : Forwards r id s s' x) where
    -- where the anchor was this one
    abbrev Going : Node → Type 0
    Going z =
        (y : Node) → is_same_node z y ≡ false → (new : IsAwaiting u r.est id (s.at y)) → (s.at z).anchor ≡ None → (tx : Sender) (closed : Bool) → IsTakingOver tx closed new.anchor
        → IsFront u (sdus_of r.est id (s.at z).line ++ coming_to r.est id (s.at y) new.anchor) false tx → IsPath r id (s.at y) z y new.anchor → IsFrozenAs closed tx r id (s.at z) z new.anchor.setup.g
        → ((l : LinkId) → AllByRecursion (IsOfSender tx closed new.anchor.setup.g id) (s.flights l)) → IsWindowOf u r.est id s tx → AreAway r.est id s z y → IsOrdered u r id s'

    leads : (y : Node) → is_same_node x y ≡ false → (w : Waiting) → IsPath r id (s.at y) x y w → (is_same_node x r.anchor ≡ false) ⊎ (r.g < w.setup.g)
    leads y apart w (to_old at older none) = inr older
    leads y apart w (to_new at now) = inl (ap (is_same_node x) at ∙ apart)

    goes_on : Going x
    unfolding awaits_still
    goes_on y apart new gone tx true takes' front path frozen flights told away = absurd (forwards.had frozen.0)
    goes_on y apart new gone tx false takes' front path frozen flights told away =
        let done = forwards.after u (coming_to r.est id (s.at y) new.anchor) tx new.anchor.setup.g payloads (leads y apart new.anchor path) frozen front in
        let at = forwards.others y apart in
        on_its_way x y apart (awaits_still u r id s s' y at new) (forwards.anchor ∙ gone) done.after done.closed
        (record {
          same_n = takes'.same_n ∙ sym done.same_n;
          transfer = λ st is. takes'.transfer st is ∙ sym done.next;
          down = end_later (down_tunnel tx false) (down_tunnel done.after done.closed) new.anchor.down done.longer takes'.down;
        })
        (subst (λ (p : Place). IsFront u (sdus_of r.est id (s'.at x).line ++ coming_to r.est id p new.anchor) false done.after) (sym at) done.front) (path_still u r id s s' x y new.anchor at path) done.frozen (done.flights flights)
        (forwards.told u tx done.after done.low_is told) (away_still u r id s s' x y (λ z one two. forwards.others z one) away)

    -- where it was another
    pub forwards_ordered : IsOrdered u r id s → IsOrdered u r id s'
    forwards_ordered (is_dropped none unsettled) = is_dropped (λ z. none_at z (none z)) (forwards.unsettled ∙ unsettled)
      where
        none_at : (z : Node) → (s.at z).anchor ≡ None → (s'.at z).anchor ≡ None
        none_at z no' = elim (same_or x z) [
          | inl here ↦ subst (λ k. (s'.at k).anchor ≡ None) here (forwards.anchor ∙ subst (λ k. (s.at k).anchor ≡ None) (sym here) no')
          | inr off ↦ ap (λ (p : Place). p.anchor) (forwards.others z off) ∙ no'
        ]
    forwards_ordered (at_anchor z path is away) = elim (same_or z x) [
      | inl here ↦ absurd (forwards.had (subst (λ k. (s.at k).frozen ≡ None) here is.frozen))
      | inr apart ↦ absurd (forwards.had (away x apart apart).frozen)
    ]
    forwards_ordered (about_to_move z y apart new is path last no_transfer nothing before away) = elim (same_or z x) [
      | inl here ↦ absurd (forwards.had (subst (λ k. (s.at k).frozen ≡ None) here is.frozen))
      | inr off ↦ elim (same_or y x) [
        | inl there ↦ absurd (forwards.had (subst (λ k. (s.at k).frozen ≡ None) there new.frozen))
        | inr off' ↦ absurd (forwards.had (away x off off').frozen)
      ]
    ]
    forwards_ordered (on_its_way z y apart new gone tx closed takes' front path frozen flights told away) = elim (same_or z x) [
      | inl here ↦ subst Going (sym here) goes_on y apart new gone tx closed takes' front path frozen flights told away
      | inr off ↦ elim (same_or y x) [
        | inl there ↦ absurd (forwards.had (subst (λ k. (s.at k).frozen ≡ None) there new.frozen))
        | inr off' ↦ absurd (forwards.had (away x off off').frozen)
      ]
    ]
