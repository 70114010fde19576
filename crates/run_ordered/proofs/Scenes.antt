-- The order of the downlink is kept by each step of an anchor that has the bearer or waits for it, where no plan is carried out.
use Rattle.std.proofs.Common.{Bool, List, None, Option, Some, [], false, sym, subst, ap, ℕ, inl, inr, ◌++◌, ◌<◌, ◌≡◌, ◌∙◌, ◌⊎◌}
use Rattle.std.specs.List.{AllByRecursion}
use Rattle.std.proofs.lemmas.Bool.{cases_Bool}
use Rattle.dc_base.specs.Nodes.{is_same_node}
use Rattle.dc_base.specs.declared.nodes.LinkId.{LinkId}
use Rattle.dc_base.specs.declared.nodes.Node.{Node}
use Rattle.forward.specs.Forwarded.{Forwarded, nothing_came}
use Rattle.forward.specs.Tunnel.{IsEndOf}
use Rattle.pdcp_tx.specs.Sender.{Sender}
use Rattle.node_rules.specs.Anchor.{Active, AnchorState, Waiting, active_anchor, waiting_anchor}
use Rattle.node_rules.specs.Feed.{Fed}
use Rattle.node_rules.specs.declared.commands.Row.{Row}
use Rattle.run_pairs.proofs.Replies.{apart_turned, same_node}
use Rattle.run_receivers.specs.Submitted.{Submitted}
use Rattle.run_senders.specs.Holders.{IfThere}
use Rattle.run_ordered.specs.Feeds.{AreUpto, IsSinceUpto, IsLastLineOf, IsLineOf, sdus_of}
use Rattle.run_ordered.specs.Forwarding.{IsBeforeFreeze, IsOfSender, IsTakingOver, down_tunnel}
use Rattle.run_ordered.specs.Fronts.{HasFront, IsFront}
use Rattle.run_ordered.specs.Orders.{AreAway, IsAway, IsAwaiting, IsFrozenAs, IsOrdered, IsPath, IsSendingAt, IsWindowOf, Place, Scene, about_to_move, at_anchor, coming_to, is_dropped, on_its_way, to_new, to_old}
use Rattle.run_ordered.specs.Scenes.{Serves, WaitsOn}
use Rattle.run_ordered.proofs.Saying.{else_before, else_of}

-- ---- which node it is

-- one or the other
pub same_or : (x z : Node) → (x ≡ z) ⊎ (is_same_node x z ≡ false)
same_or x z = elim (cases_Bool (is_same_node x z)) [ inl yes' ↦ inl (same_node x z yes') | inr no' ↦ inr no' ]

-- an anchor is of one kind
pub one_kind : (a : Active) (w : Waiting) (o : Option AnchorState) → o ≡ Some (active_anchor a) → o ≡ Some (waiting_anchor w) → ⊥
one_kind a w o one two = let bad : Some (active_anchor a) ≡ Some (waiting_anchor w) = sym one ∙ two in cc

pub not_none : (t : AnchorState) (o : Option AnchorState) → o ≡ Some t → o ≡ None → ⊥
not_none t o one two = let bad : Some t ≡ None = sym one ∙ two in cc

pub same_active : (a b : Active) (o : Option AnchorState) → o ≡ Some (active_anchor a) → o ≡ Some (active_anchor b) → a ≡ b
same_active a b o one two = let both : Some (active_anchor a) ≡ Some (active_anchor b) = sym one ∙ two in cc

pub same_waiting : (a b : Waiting) (o : Option AnchorState) → o ≡ Some (waiting_anchor a) → o ≡ Some (waiting_anchor b) → a ≡ b
same_waiting a b o one two = let both : Some (waiting_anchor a) ≡ Some (waiting_anchor b) = sym one ∙ two in cc

-- ---- what is as it was

module _ (u : Submitted) (r : Row) (id : ℕ) (s s' : Scene) where
  -- a node that waits
  unfoldable pub awaits_still : (y : Node) → s'.at y ≡ s.at y → IsAwaiting u r.est id (s.at y) → IsAwaiting u r.est id (s'.at y)
  awaits_still y same new = record {
    anchor = new.anchor;
    there = ap (λ (p : Place). p.anchor) same ∙ new.there;
    same_n = new.same_n;
    line = subst (λ (p : Place). IfThere (λ (f : Fed). IsLineOf r.est id f p.line) p.fed) (sym same) new.line;
    upto = subst (λ (p : Place). IsSinceUpto new.anchor.setup.g p.fed) (sym same) new.upto;
    known = subst (λ (p : Place). AreUpto id new.anchor.setup.g p.line p.fed) (sym same) new.known;
    frozen = ap (λ (p : Place). p.frozen) same ∙ new.frozen;
  }

  pub path_still : (x y : Node) (w : Waiting) → s'.at y ≡ s.at y → IsPath r id (s.at y) x y w → IsPath r id (s'.at y) x y w
  path_still x y w same path = subst (λ (p : Place). IsPath r id p x y w) (sym same) path

  pub frozen_still : (closed : Bool) (tx : Sender) (x : Node) (g : ℕ) → s'.at x ≡ s.at x → IsFrozenAs closed tx r id (s.at x) x g → IsFrozenAs closed tx r id (s'.at x) x g
  frozen_still closed tx x g same is = subst (λ (p : Place). IsFrozenAs closed tx r id p x g) (sym same) is

  pub away_still : (x y : Node) → ((z : Node) → is_same_node x z ≡ false → is_same_node y z ≡ false → s'.at z ≡ s.at z) → AreAway r.est id s x y → AreAway r.est id s' x y
  away_still x y same away z off off' = subst (λ (p : Place). IsAway r.est id p) (sym (same z off off')) (away z off off')

  pub none_still : (x : Node) → s'.at x ≡ s.at x → (s.at x).anchor ≡ None → (s'.at x).anchor ≡ None
  none_still x same none = ap (λ (p : Place). p.anchor) same ∙ none

  -- ---- the active anchor does something

  module _ (x : Node) (a b : Active) (served : Serves r.est id s s' x a b) where
    before_still : (g : ℕ) → ((l : LinkId) → AllByRecursion (IsBeforeFreeze g id) (s.flights l)) → (l : LinkId) → AllByRecursion (IsBeforeFreeze g id) (s'.flights l)
    before_still g before l = served.alone.flights (IsBeforeFreeze g id) (λ f none. else_before g id f none) l (before l)

    -- with what was to come behind
    sends_on : (later : List (List ℕ)) → IsSendingAt u r id s x later → IsSendingAt u r id s' x later
    sends_on later is =
        let same : is.anchor ≡ a = same_active is.anchor a (s.at x).anchor is.there served.was in
        record {
          anchor = b;
          there = served.is;
          front = served.front u later (subst (HasFront u (sdus_of r.est id (s.at x).line ++ later)) same is.front);
          line = served.line.line is.line;
          upto = served.line.upto r.g is.upto;
          known = served.line.known r.g is.known;
          frozen = served.line.frozen ∙ is.frozen;
          told = served.told u (subst (λ (c : Active). IsWindowOf u r.est id s c.entity.tx) same is.told);
        }

    pub served_ordered : IsOrdered u r id s → IsOrdered u r id s'
    unfolding awaits_still
    served_ordered (is_dropped none unsettled) = absurd (not_none (active_anchor a) (s.at x).anchor served.was (none x))
    served_ordered (at_anchor z path is away) = elim (same_or z x) [
      | inl here ↦ at_anchor x (path ∙ here) (sends_on [] (subst (λ y. IsSendingAt u r id s y []) here is))
          (away_still x x (λ k off off'. served.alone.others k off) (subst (λ y. AreAway r.est id s y y) here away))
      | inr apart ↦ absurd (not_none (active_anchor a) (s.at x).anchor served.was (away x apart apart).anchor)
    ]
    served_ordered (about_to_move z y apart new is path last no_transfer nothing before away) = elim (same_or z x) [
      | inl here ↦ moves_on z here y apart new is path last no_transfer nothing before away
      | inr off ↦ elim (same_or y x) [
        | inl there ↦ absurd (one_kind a new.anchor (s.at x).anchor served.was (subst (λ k. (s.at k).anchor ≡ Some (waiting_anchor new.anchor)) there new.there))
        | inr off' ↦ absurd (not_none (active_anchor a) (s.at x).anchor served.was (away x off off').anchor)
      ]
    ]
      where
        moves_on : (z : Node) → z ≡ x → (y : Node) → (apart : is_same_node z y ≡ false) → (new : IsAwaiting u r.est id (s.at y)) → IsSendingAt u r id s z (coming_to r.est id (s.at y) new.anchor)
            → IsPath r id (s.at y) z y new.anchor → (is_same_node z r.anchor ≡ false → IfThere (λ (f : Fed). IsLastLineOf r.est id r.g f (s.at z).line) (s.at z).fed)
            → new.anchor.transfer ≡ None → new.anchor.down ≡ nothing_came → ((l : LinkId) → AllByRecursion (IsBeforeFreeze new.anchor.setup.g id) (s.flights l)) → AreAway r.est id s z y → IsOrdered u r id s'
        moves_on z here y apart new is path last no_transfer nothing before away =
            let off : is_same_node x y ≡ false = subst (λ k. is_same_node k y ≡ false) here apart in
            let same = served.alone.others y off in
            about_to_move x y off (awaits_still y same new)
            (subst (λ (p : Place). IsSendingAt u r id s' x (coming_to r.est id p new.anchor)) (sym same) (sends_on (coming_to r.est id (s.at y) new.anchor) (subst (λ k. IsSendingAt u r id s k (coming_to r.est id (s.at y) new.anchor)) here is)))
            (path_still x y new.anchor same (subst (λ k. IsPath r id (s.at y) k y new.anchor) here path))
            (λ elsewhere. served.line.last r.g (subst (λ k. is_same_node k r.anchor ≡ false → IfThere (λ (f : Fed). IsLastLineOf r.est id r.g f (s.at k).line) (s.at k).fed) here last elsewhere)) no_transfer nothing
            (before_still new.anchor.setup.g before) (away_still x y (λ k one two. served.alone.others k one) (subst (λ k. AreAway r.est id s k y) here away))
    served_ordered (on_its_way z y apart new gone tx closed takes front path frozen flights told away) = elim (same_or z x) [
      | inl here ↦ absurd (not_none (active_anchor a) (s.at x).anchor served.was (subst (λ k. (s.at k).anchor ≡ None) here gone))
      | inr off ↦ elim (same_or y x) [
        | inl there ↦ absurd (one_kind a new.anchor (s.at x).anchor served.was (subst (λ k. (s.at k).anchor ≡ Some (waiting_anchor new.anchor)) there new.there))
        | inr off' ↦ absurd (not_none (active_anchor a) (s.at x).anchor served.was (away x off off').anchor)
      ]
    ]

  -- ---- the waiting one does

  module _ (y : Node) (w v : Waiting) (waits : WaitsOn r.est id s s' y w v) where
    awaits_on : (new : IsAwaiting u r.est id (s.at y)) → IsAwaiting u r.est id (s'.at y)
    awaits_on new =
        let same : new.anchor ≡ w = same_waiting new.anchor w (s.at y).anchor new.there waits.was in
        record {
          anchor = v;
          there = waits.is;
          same_n = waits.same_n ∙ ap (λ (k : Waiting). k.setup.n) (sym same) ∙ new.same_n;
          line = waits.line.line new.line;
          upto = waits.line.upto v.setup.g (subst (λ g. IsSinceUpto g (s.at y).fed) (ap (λ (k : Waiting). k.setup.g) same ∙ sym waits.same_g) new.upto);
          known = waits.line.known v.setup.g (subst (λ g. AreUpto id g (s.at y).line (s.at y).fed) (ap (λ (k : Waiting). k.setup.g) same ∙ sym waits.same_g) new.known);
          frozen = waits.line.frozen ∙ new.frozen;
        }

    path_on : (x : Node) (k : Waiting) → k ≡ w → IsPath r id (s.at y) x y k → IsPath r id (s'.at y) x y v
    path_on x k same (to_old at older none) =
        to_old at (subst (λ g. r.g < g) (ap (λ (j : Waiting). j.setup.g) same ∙ sym waits.same_g) older) (waits.coming ∙ ap (coming_to r.est id (s.at y)) (sym same) ∙ none)
    path_on x k same (to_new at now) = to_new at (now ∙ ap (λ (j : Waiting). j.setup.g) same ∙ sym waits.same_g)

    -- an active anchor elsewhere goes on
    others_on : (x : Node) (k : Waiting) → k ≡ w → is_same_node y x ≡ false → IsSendingAt u r id s x (coming_to r.est id (s.at y) k) → IsSendingAt u r id s' x (coming_to r.est id (s'.at y) v)
    others_on x k same off is =
        let at = waits.alone.others x off in
        let coming : coming_to r.est id (s.at y) k ≡ coming_to r.est id (s'.at y) v = ap (coming_to r.est id (s.at y)) same ∙ sym waits.coming in
        record {
          anchor = is.anchor;
          there = ap (λ (p : Place). p.anchor) at ∙ is.there;
          front = subst (λ (p : Place). HasFront u (sdus_of r.est id p.line ++ coming_to r.est id (s'.at y) v) is.anchor) (sym at)
              (subst (λ xs. HasFront u (sdus_of r.est id (s.at x).line ++ xs) is.anchor) coming is.front);
          line = subst (λ (p : Place). IfThere (λ (f : Fed). IsLineOf r.est id f p.line) p.fed) (sym at) is.line;
          upto = subst (λ (p : Place). IsSinceUpto r.g p.fed) (sym at) is.upto;
          known = subst (λ (p : Place). AreUpto id r.g p.line p.fed) (sym at) is.known;
          frozen = ap (λ (p : Place). p.frozen) at ∙ is.frozen;
          told = waits.told u is.anchor.entity.tx is.told;
        }

    -- while it is about to have the bearer
    abbrev Moves : Node → Type 0
    Moves z =
        (x : Node) → is_same_node x z ≡ false → (new : IsAwaiting u r.est id (s.at z)) → IsSendingAt u r id s x (coming_to r.est id (s.at z) new.anchor) → IsPath r id (s.at z) x z new.anchor
        → (is_same_node x r.anchor ≡ false → IfThere (λ (f : Fed). IsLastLineOf r.est id r.g f (s.at x).line) (s.at x).fed) → new.anchor.transfer ≡ None → new.anchor.down ≡ nothing_came
        → ((l : LinkId) → AllByRecursion (IsBeforeFreeze new.anchor.setup.g id) (s.flights l)) → AreAway r.est id s x z → IsOrdered u r id s'

    moves_on : Moves y
    unfolding awaits_on
    moves_on x apart new is path last no_transfer nothing before away =
        let same : new.anchor ≡ w = same_waiting new.anchor w (s.at y).anchor new.there waits.was in
        let off = apart_turned x y apart in
        let at = waits.alone.others x off in
        let g_is : new.anchor.setup.g ≡ v.setup.g = ap (λ (k : Waiting). k.setup.g) same ∙ sym waits.same_g in
        about_to_move x y apart (awaits_on new) (others_on x new.anchor same off is) (path_on x new.anchor same path)
        (λ elsewhere. subst (λ (p : Place). IfThere (λ (f : Fed). IsLastLineOf r.est id r.g f p.line) p.fed) (sym at) (last elsewhere)) (waits.transfer ∙ ap (λ (k : Waiting). k.transfer) (sym same) ∙ no_transfer)
        (waits.down ∙ ap (λ (k : Waiting). k.down) (sym same) ∙ nothing)
        (λ l. waits.alone.flights (IsBeforeFreeze v.setup.g id) (λ f none. else_before v.setup.g id f none) l (subst (λ g. AllByRecursion (IsBeforeFreeze g id) (s.flights l)) g_is (before l)))
        (away_still x y (λ k one two. waits.alone.others k two) away)

    -- while the entity is on its way
    abbrev Comes : Node → Type 0
    Comes z =
        (x : Node) → is_same_node x z ≡ false → (new : IsAwaiting u r.est id (s.at z)) → (s.at x).anchor ≡ None → (tx : Sender) (closed : Bool) → IsTakingOver tx closed new.anchor
        → IsFront u (sdus_of r.est id (s.at x).line ++ coming_to r.est id (s.at z) new.anchor) false tx → IsPath r id (s.at z) x z new.anchor → IsFrozenAs closed tx r id (s.at x) x new.anchor.setup.g
        → ((l : LinkId) → AllByRecursion (IsOfSender tx closed new.anchor.setup.g id) (s.flights l)) → IsWindowOf u r.est id s tx → AreAway r.est id s x z → IsOrdered u r id s'

    comes_on : Comes y
    unfolding awaits_on
    comes_on x apart new gone tx closed takes front path frozen flights told away =
        let same : new.anchor ≡ w = same_waiting new.anchor w (s.at y).anchor new.there waits.was in
        let off = apart_turned x y apart in
        let at = waits.alone.others x off in
        let g_is : new.anchor.setup.g ≡ v.setup.g = ap (λ (k : Waiting). k.setup.g) same ∙ sym waits.same_g in
        let coming : coming_to r.est id (s.at y) new.anchor ≡ coming_to r.est id (s'.at y) v = ap (coming_to r.est id (s.at y)) same ∙ sym waits.coming in
        on_its_way x y apart (awaits_on new) (none_still x at gone) tx closed
        (record {
          same_n = waits.same_n ∙ ap (λ (k : Waiting). k.setup.n) (sym same) ∙ takes.same_n;
          transfer = λ st is. takes.transfer st (ap (λ (k : Waiting). k.transfer) same ∙ sym waits.transfer ∙ is);
          down = subst (λ (d : Forwarded). IsEndOf (down_tunnel tx closed) d) (ap (λ (k : Waiting). k.down) same ∙ sym waits.down) takes.down;
        })
        (subst (λ (p : Place). IsFront u (sdus_of r.est id p.line ++ coming_to r.est id (s'.at y) v) false tx) (sym at) (subst (λ xs. IsFront u (sdus_of r.est id (s.at x).line ++ xs) false tx) coming front))
        (path_on x new.anchor same path) (frozen_still closed tx x v.setup.g at (subst (IsFrozenAs closed tx r id (s.at x) x) g_is frozen))
        (λ l. waits.alone.flights (IsOfSender tx closed v.setup.g id) (λ f none. else_of tx closed v.setup.g id f none) l (subst (λ g. AllByRecursion (IsOfSender tx closed g id) (s.flights l)) g_is (flights l)))
        (waits.told u tx told) (away_still x y (λ k one two. waits.alone.others k two) away)

    pub waits_ordered : IsOrdered u r id s → IsOrdered u r id s'
    waits_ordered (is_dropped none unsettled) = absurd (not_none (waiting_anchor w) (s.at y).anchor waits.was (none y))
    waits_ordered (at_anchor z path is away) = elim (same_or z y) [
      | inl here ↦ absurd (one_kind is.anchor w (s.at y).anchor (subst (λ k. (s.at k).anchor ≡ Some (active_anchor is.anchor)) here is.there) waits.was)
      | inr apart ↦ absurd (not_none (waiting_anchor w) (s.at y).anchor waits.was (away y apart apart).anchor)
    ]
    waits_ordered (about_to_move x z apart new is path last no_transfer nothing before away) = elim (same_or z y) [
      | inl here ↦ subst Moves (sym here) moves_on x apart new is path last no_transfer nothing before away
      | inr off ↦ elim (same_or x y) [
        | inl there ↦ absurd (one_kind is.anchor w (s.at y).anchor (subst (λ k. (s.at k).anchor ≡ Some (active_anchor is.anchor)) there is.there) waits.was)
        | inr off' ↦ absurd (not_none (waiting_anchor w) (s.at y).anchor waits.was (away y off' off).anchor)
      ]
    ]
    waits_ordered (on_its_way x z apart new gone tx closed takes front path frozen flights told away) = elim (same_or z y) [
      | inl here ↦ subst Comes (sym here) comes_on x apart new gone tx closed takes front path frozen flights told away
      | inr off ↦ elim (same_or x y) [
        | inl there ↦ absurd (not_none (waiting_anchor w) (s.at y).anchor waits.was (subst (λ k. (s.at k).anchor ≡ None) there gone))
        | inr off' ↦ absurd (not_none (waiting_anchor w) (s.at y).anchor waits.was (away y off' off).anchor)
      ]
    ]
