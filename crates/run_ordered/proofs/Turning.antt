-- The order of the downlink is kept as a plan moves a bearer, or its anchor goes on in a new generation, or is dropped.
use Rattle.std.proofs.Common.{Bool, List, None, Option, Some, [], false, refl, sym, subst, ap, arith, true, ℕ, length, ◌++◌, ◌<◌, ◌≡◌, ◌≤◌, ◌∙◌, ◌∷◌}
use Rattle.std.specs.List.{AllByRecursion}
use Rattle.std.specs.Prelude.{nat_le, ◌&&◌, ◌==◌}
use Rattle.std.proofs.lemmas.Bool.{eq-eqb, eqb-true, le-leb}
use Rattle.std.proofs.lemmas.List.{append-nil}
use Rattle.std.proofs.lemmas.List.Elements.{filter_map-append}
use Rattle.dc_base.specs.Nodes.{is_same_node}
use Rattle.dc_base.specs.declared.flights.Flight.{Flight}
use Rattle.dc_base.specs.declared.flights.Flight.TheVariants as flight
use Rattle.dc_base.specs.declared.nodes.LinkId.{LinkId}
use Rattle.dc_base.specs.declared.nodes.Node.{Node}
use Rattle.forward.specs.Forwarded.{nothing_came}
use Rattle.pdcp_tx.specs.Sender.{Sender}
use Rattle.transcript.proofs.OnEach.{each_weaker}
use Rattle.node_rules.specs.Anchor.{Active, Waiting, renew}
use Rattle.node_rules.specs.Feed.{Fed, freeze_fed, frozen_of, has_ended}
use Rattle.node_rules.specs.Freezing.{down_sdus, new_tunnel, numbered, rest_of}
use Rattle.run_moves.proofs.Taken.{unnumbered}
use Rattle.node_rules.specs.Setup.{Setup}
use Rattle.node_rules.specs.declared.commands.Row.{Row}
use Rattle.run_pairs.proofs.Replies.{apart_turned, node_itself, same_node}
use Rattle.run_receivers.specs.Submitted.{Submitted}
use Rattle.run_senders.specs.Holders.{IfThere}
use Rattle.run_ordered.specs.Feeds.{AreUpto, EndsLine, IsBefore, IsLastLineOf, IsLineOf, IsSince, IsSinceUpto, IsUpto, is_end_of, sdu_of, sdus_of}
use Rattle.run_ordered.specs.Forwarding.{IsBeforeFreeze}
use Rattle.run_ordered.specs.Fronts.{HasFront, IsFront}
use Rattle.run_ordered.specs.Orders.{AreAway, IsAway, IsAwaiting, IsFrozenAs, IsOrdered, IsPath, IsSendingAt, IsWindowOf, Place, Scene, about_to_move, at_anchor, coming_to, is_dropped, on_its_way, to_new, to_old}
use Rattle.run_ordered.specs.Turns.{BeginsToWait, IsDroppedThere, IsFrozenThere, WaitsNoLonger}
use Rattle.run_ordered.proofs.Scenes.{away_still, awaits_still, path_still, same_active}
use Rattle.run_ordered.proofs.Taking.{waiting_takes}

-- ---- the anchor stays

-- in a new generation the entity is as it was, and closed
pub renew_front : (u : Submitted) (rest : List (List ℕ)) (a : Active) (s : Setup) → s.n ≡ a.entity.setup.n → HasFront u rest a → HasFront u rest (renew a s)
renew_front u rest a s n_is f = record {
  same_n = n_is ∙ f.same_n;
  front = record {
    same_n = f.front.same_n;
    given = f.front.given;
    next = f.front.next;
    all = f.front.all;
    rises = f.front.rises;
    kept = f.front.kept;
    room = f.front.room;
    small = f.front.small;
    none_held = λ is. absurd cc;
  };
}

-- ---- lines

first_is' : (est id i g : ℕ) (p : List ℕ) (line : List Flight) → (i == id) ≡ true → nat_le est g ≡ true → sdus_of est id (flight.Sdu i g p ∷ line) ≡ p ∷ sdus_of est id line
first_is' est id i g p line named le = rw (named, le) refl

first_not : (est id i g : ℕ) (p : List ℕ) (line : List Flight) (b d : Bool) → (i == id) ≡ b → nat_le est g ≡ d → (b && d) ≡ false → sdus_of est id (flight.Sdu i g p ∷ line) ≡ sdus_of est id line
first_not est id i g p line true true named le no'' = absurd cc
first_not est id i g p line true false named le no'' = rw (named, le) refl
first_not est id i g p line false d named le no'' = rw named refl

no' : {X : Type 0} {b : Bool} → b ≡ false → b ≡ true → X
no' one two = absurd (let bad : false ≡ true = sym one ∙ two in cc)

-- no SDU of the establishment is on a line: whatever is, is of that generation
none_since : (est id since : ℕ) (line : List Flight) → sdus_of est id line ≡ [] → AllByRecursion (IsSince est id since) line
none_since est id since [] none = tt
none_since est id since (flight.Sdu i g payload ∷ line) none = by (i == id) (nat_le est g) refl refl none (λ none'. none_since est id since line none')
  where
    by : (p q : Bool) → (i == id) ≡ p → nat_le est g ≡ q → sdus_of est id (flight.Sdu i g payload ∷ line) ≡ [] → (sdus_of est id line ≡ [] → AllByRecursion (IsSince est id since) line)
        → (i ≡ id → est ≤ g → since ≤ g) × AllByRecursion (IsSince est id since) line
    by true true named le none' more = absurd (let bad : payload ∷ sdus_of est id line ≡ [] = sym (first_is' est id i g payload line named le) ∙ none' in cc)
    by false q other le none' more = (λ same. no' other (eq-eqb i id same), more (sym (first_not est id i g payload line false q other le refl) ∙ none'))
    by true false named less none' more = ((λ same le. no' less (le-leb est g le)), more (sym (first_not est id i g payload line true false named less refl) ∙ none'))
none_since est id since (flight.Air i g num tag pdu ∷ line) none = (tt, none_since est id since line none)
none_since est id since (flight.Ack i g num ∷ line) none = (tt, none_since est id since line none)
none_since est id since (flight.Tun tag packet ∷ line) none = (tt, none_since est id since line none)
none_since est id since (flight.End i g ∷ line) none = (tt, none_since est id since line none)
none_since est id since (flight.Told i g count ∷ line) none = (tt, none_since est id since line none)
none_since est id since (flight.Ctl x ∷ line) none = (tt, none_since est id since line none)

-- SDUs of no later generation than one are of an earlier one than the next
pub upto_before : (est id h g : ℕ) (line : List Flight) → h < g → AllByRecursion (IsUpto id h) line → AllByRecursion (IsBefore est id g) line
upto_before est id h g line less all = each_weaker (IsUpto id h) (IsBefore est id g) (λ f so. one f so) line all
  where
    one : (f : Flight) → IsUpto id h f → IsBefore est id g f
    one (flight.Sdu i k payload) so = λ named since. let le = so named in omega (arith, le, less)
    one (flight.Air i k num tag pdu) so = tt
    one (flight.Ack i k num) so = tt
    one (flight.Tun tag packet) so = tt
    one (flight.End i k) so = tt
    one (flight.Told i k count) so = tt
    one (flight.Ctl x) so = tt

pub upto_more : (id h k : ℕ) (line : List Flight) → h ≤ k → AllByRecursion (IsUpto id h) line → AllByRecursion (IsUpto id k) line
upto_more id h k line le all = each_weaker (IsUpto id h) (IsUpto id k) (λ f so. one f so) line all
  where
    one : (f : Flight) → IsUpto id h f → IsUpto id k f
    one (flight.Sdu i g payload) so = λ named. let few = so named in omega (arith, few, le)
    one (flight.End i g) so = λ named. let few = so named in omega (arith, few, le)
    one (flight.Air i g num tag pdu) so = tt
    one (flight.Ack i g num) so = tt
    one (flight.Tun tag packet) so = tt
    one (flight.Told i g count) so = tt
    one (flight.Ctl x) so = tt

pub are_more : (id h k : ℕ) (line : List Flight) (o : Option Fed) → h ≤ k → AreUpto id h line o → AreUpto id k line o
are_more id h k line None le is = record { stand = upto_more id h k line le is.stand; taken = tt }
are_more id h k line (Some f) le is = record { stand = upto_more id h k line le is.stand; taken = λ g ended. let few = is.taken g ended in omega (arith, few, le) }

pub since_more : (h k : ℕ) (o : Option Fed) → h ≤ k → IsSinceUpto h o → IsSinceUpto k o
since_more h k None le is = tt
since_more h k (Some f) le is = omega (arith, is, le)

-- an end that is new stands behind all
pub ends_new : (est id h g : ℕ) (line : List Flight) → h < g → AllByRecursion (IsUpto id h) line → EndsLine est id g (line ++ flight.End id g ∷ [])
ends_new est id h g [] less all = ((λ is. refl), tt)
ends_new est id h g (f ∷ line) less all = ((λ is. absurd (never f all.0 is)), ends_new est id h g line less all.1)
  where
    named : (i k : ℕ) → ((i == id) && (k == g)) ≡ true → (i ≡ id) × (k ≡ g)
    named i k is = by (i == id) (k == g) refl refl is
      where
        by : (p q : Bool) → (i == id) ≡ p → (k == g) ≡ q → (p && q) ≡ true → (i ≡ id) × (k ≡ g)
        by true true one two both = (eqb-true i id one, eqb-true k g two)
        by true false one two both = absurd cc
        by false q one two both = absurd cc

    never : (f : Flight) → IsUpto id h f → is_end_of id g f ≡ true → ⊥
    never (flight.End i k) so is = let both = named i k is in let le = so both.0 in omega (arith, le, less, both.1)
    never (flight.Sdu i k payload) so is = absurd cc
    never (flight.Air i k num tag pdu) so is = absurd cc
    never (flight.Ack i k num) so is = absurd cc
    never (flight.Tun tag packet) so is = absurd cc
    never (flight.Told i k count) so is = absurd cc
    never (flight.Ctl x) so is = absurd cc

-- an end is no SDU
pub sdus_end : (est id g : ℕ) (line : List Flight) → sdus_of est id (line ++ flight.End id g ∷ []) ≡ sdus_of est id line
sdus_end est id g line = filter_map-append (sdu_of est id) line (flight.End id g ∷ []) ∙ append-nil (sdus_of est id line)

right_nil : {X : Type 0} (xs ys : List X) → xs ++ ys ≡ [] → ys ≡ []
right_nil [] ys none = none
right_nil (x ∷ xs) ys none = absurd cc

module _ (u : Submitted) (r : Row) (id : ℕ) (s s' : Scene) where
  -- ---- it is about to move

  -- an anchor that waits for it is made
  pub waits_made : (x y : Node) (w : Waiting) → is_same_node x y ≡ false → r.est ≤ r.g → BeginsToWait u r id s s' y w → r.anchor ≡ x → IsSendingAt u r id s x [] → AreAway r.est id s x x → IsOrdered u r id s'
  waits_made x y w apart upto begins path is away =
      let off = apart_turned x y apart in
      let at = begins.alone.others x off in
      let away_y = away y apart apart in
      let line_none : sdus_of r.est id (s'.at y).line ≡ [] = ap (sdus_of r.est id) begins.line ∙ away_y.line in
      let none : coming_to r.est id (s'.at y) w ≡ [] = ap (λ xs. xs ++ sdus_of r.est id (s'.at y).line) begins.fresh ∙ line_none in
      about_to_move x y apart
      (record {
        anchor = w;
        there = begins.is;
        same_n = begins.same_n;
        line = line_of (s'.at y).fed begins.fed line_none;
        upto = since_of (s'.at y).fed begins.fed;
        known = begins.known;
        frozen = begins.frozen ∙ away_y.frozen;
      })
      (record {
        anchor = is.anchor;
        there = ap (λ (p : Place). p.anchor) at ∙ is.there;
        front = subst (λ (p : Place). HasFront u (sdus_of r.est id p.line ++ coming_to r.est id (s'.at y) w) is.anchor) (sym at) (subst (λ xs. HasFront u (sdus_of r.est id (s.at x).line ++ xs) is.anchor) (sym none) is.front);
        line = subst (λ (p : Place). IfThere (λ (f : Fed). IsLineOf r.est id f p.line) p.fed) (sym at) is.line;
        upto = subst (λ (p : Place). IsSinceUpto r.g p.fed) (sym at) is.upto;
        known = subst (λ (p : Place). AreUpto id r.g p.line p.fed) (sym at) is.known;
        frozen = ap (λ (p : Place). p.frozen) at ∙ is.frozen;
        told = begins.told is.anchor.entity.tx is.told;
      }) (to_old path begins.newer none) (λ elsewhere. absurd (differ (sym (node_itself x) ∙ ap (is_same_node x) (sym path) ∙ elsewhere))) begins.transfer begins.down begins.silent
      (λ z one two. subst (λ (p : Place). IsAway r.est id p) (sym (begins.alone.others z two)) (away z one one))
    where
      differ : true ≡ false → ⊥
      differ bad = absurd cc

      line_of : (o : Option Fed) → IfThere (λ (f : Fed). (r.est ≤ f.since) × (f.since ≤ w.setup.g)) o → sdus_of r.est id (s'.at y).line ≡ [] → IfThere (λ (f : Fed). IsLineOf r.est id f (s'.at y).line) o
      line_of None is' none' = tt
      line_of (Some f) is' none' = record { since = none_since r.est id f.since (s'.at y).line none'; from = is'.0 }

      since_of : (o : Option Fed) → IfThere (λ (f : Fed). (r.est ≤ f.since) × (f.since ≤ w.setup.g)) o → IsSinceUpto w.setup.g o
      since_of None is' = tt
      since_of (Some f) is' = is'.1

  -- it goes again
  abbrev Rejected : Node → Type 0
  Rejected z =
      (x : Node) → is_same_node x z ≡ false → (new : IsAwaiting u r.est id (s.at z)) → IsSendingAt u r id s x (coming_to r.est id (s.at z) new.anchor) → r.anchor ≡ x → coming_to r.est id (s.at z) new.anchor ≡ [] → AreAway r.est id s x z → IsOrdered u r id s'

  pub waits_gone : (y : Node) (w : Waiting) → WaitsNoLonger u r.est id s s' y w → Rejected y
  waits_gone y w goes x apart new is path none away =
      let off = apart_turned x y apart in
      let at = goes.alone.others x off in
      at_anchor x path
      (record {
        anchor = is.anchor;
        there = ap (λ (p : Place). p.anchor) at ∙ is.there;
        front = subst (λ (p : Place). HasFront u (sdus_of r.est id p.line ++ []) is.anchor) (sym at) (subst (λ xs. HasFront u (sdus_of r.est id (s.at x).line ++ xs) is.anchor) none is.front);
        line = subst (λ (p : Place). IfThere (λ (f : Fed). IsLineOf r.est id f p.line) p.fed) (sym at) is.line;
        upto = subst (λ (p : Place). IsSinceUpto r.g p.fed) (sym at) is.upto;
        known = subst (λ (p : Place). AreUpto id r.g p.line p.fed) (sym at) is.known;
        frozen = ap (λ (p : Place). p.frozen) at ∙ is.frozen;
        told = goes.told is.anchor.entity.tx is.told;
      }) (λ z one two. elsewhere z one (is_same_node y z) refl)
    where
      gone_y : IsAway r.est id (s'.at y)
      gone_y = record { anchor = goes.none; frozen = goes.frozen ∙ new.frozen; line = ap (sdus_of r.est id) goes.line ∙ right_nil new.anchor.fresh (sdus_of r.est id (s.at y).line) none }

      elsewhere : (z : Node) → is_same_node x z ≡ false → (b : Bool) → is_same_node y z ≡ b → IsAway r.est id (s'.at z)
      elsewhere z one true here = subst (λ k. IsAway r.est id (s'.at k)) (same_node y z here) gone_y
      elsewhere z one false two = subst (λ (p : Place). IsAway r.est id p) (sym (goes.alone.others z two)) (away z one two)

  -- ---- it is dropped

  pub dropped_there : (x : Node) → IsDroppedThere s s' x → AreAway r.est id s x x → IsOrdered u r id s'
  dropped_there x drops away = is_dropped (λ z. none z (is_same_node x z) refl) drops.unsettled
    where
      none : (z : Node) → (b : Bool) → is_same_node x z ≡ b → (s'.at z).anchor ≡ None
      none z true here = subst (λ k. (s'.at k).anchor ≡ None) (same_node x z here) drops.none
      none z false off = ap (λ (p : Place). p.anchor) (drops.others z off) ∙ (away z off off).anchor

  -- ---- the old anchor is frozen

  -- what is left of it
  frozen_as : (x y : Node) (a : Active) (g : ℕ) (fed : Fed) (w : Waiting) → IsFrozenThere u r.est id s s' x y a g → (s.at x).fed ≡ Some fed → (s'.at x).frozen ≡ frozen_of fed.since (freeze_fed fed a y g).rest → is_same_node x y ≡ false
      → (closed : Bool) → has_ended fed.ended g ≡ closed → a.entity.tx.n ≡ a.entity.setup.n → IsSendingAt u r id s x (coming_to r.est id (s.at y) w) → IsPath r id (s.at y) x y w → w.setup.g ≡ g
      → (is_same_node x r.anchor ≡ false → IfThere (λ (f : Fed). IsLastLineOf r.est id r.g f (s.at x).line) (s.at x).fed) → IsFrozenAs closed a.entity.tx r id (s'.at x) x g
  frozen_as x y a g fed w freezes had left apart true ended n_is is (to_old at older none) g_is last =
      absurd (let known = subst (IfThere (λ (f : Fed). (h : ℕ) → f.ended ≡ Some h → h ≤ r.g)) had is.known.taken in let le = known g (ended_some fed.ended ended) in omega (arith, le, older, g_is))
    where
      ended_some : (o : Option ℕ) → has_ended o g ≡ true → o ≡ Some g
      ended_some None no'' = absurd cc
      ended_some (Some h) yes'' = ap (λ k. Some k) (eqb-true h g yes'')
  frozen_as x y a g fed w freezes had left apart true ended n_is is (to_new at now) g_is last =
      let elsewhere : is_same_node x r.anchor ≡ false = ap (is_same_node x) at ∙ apart in
      let line = subst (IfThere (λ (f : Fed). IsLastLineOf r.est id r.g f (s.at x).line)) had (last elsewhere) in
      (left ∙ ap (λ b. frozen_of fed.since (rest_of (new_tunnel a.entity y g) b (length (down_sdus a.entity)))) ended, ap (sdus_of r.est id) freezes.line ∙ line.ended (ended_some fed.ended ended ∙ ap (λ k. Some k) (sym g_is ∙ sym now)), elsewhere)
    where
      ended_some : (o : Option ℕ) → has_ended o g ≡ true → o ≡ Some g
      ended_some None no'' = absurd cc
      ended_some (Some h) yes'' = ap (λ k. Some k) (eqb-true h g yes'')
  frozen_as x y a g fed w freezes had left apart false ended n_is is path g_is last =
      let line = subst (IfThere (λ (f : Fed). IsLineOf r.est id f (s.at x).line)) had is.line in
      let upto = subst (IsSinceUpto r.g) had is.upto in
      let t = new_tunnel a.entity y g in
      record {
        frozen = record { since = fed.since; tunnel = record t { next = length (down_sdus a.entity) } };
        there = left ∙ ap (λ b. frozen_of fed.since (rest_of t b (length (down_sdus a.entity)))) ended;
        g_is = refl;
        id_is = freezes.named;
        n_is = sym n_is;
        next = ap (λ n. length (numbered n a.entity.tx.kept ++ unnumbered a.entity.tx.held)) (sym n_is);
        from = line.from;
        upto = upto;
        since = subst (AllByRecursion (IsSince r.est id fed.since)) (sym freezes.line) line.since;
        before = subst (AllByRecursion (IsBefore r.est id g)) (sym freezes.line) (before_is path);
        known = subst (AllByRecursion (IsUpto id r.g)) (sym freezes.line) is.known.stand;
        ends = λ elsewhere. subst (EndsLine r.est id g) (sym freezes.line) (ends_are path elsewhere);
      }
    where
      before_is : IsPath r id (s.at y) x y w → AllByRecursion (IsBefore r.est id g) (s.at x).line
      before_is (to_old at older none) = upto_before r.est id r.g g (s.at x).line (omega (arith, older, g_is)) is.known.stand
      before_is (to_new at now) =
          let last' = subst (IfThere (λ (f : Fed). IsLastLineOf r.est id r.g f (s.at x).line)) had (last (ap (is_same_node x) at ∙ apart)) in
          subst (λ k. AllByRecursion (IsBefore r.est id k) (s.at x).line) (now ∙ g_is) last'.before

      ends_are : IsPath r id (s.at y) x y w → is_same_node x r.anchor ≡ false → EndsLine r.est id g (s.at x).line
      ends_are (to_old at older none) elsewhere = absurd (let bad : true ≡ false = sym (node_itself x) ∙ ap (is_same_node x) (sym at) ∙ elsewhere in cc)
      ends_are (to_new at now) elsewhere =
          let last' = subst (IfThere (λ (f : Fed). IsLastLineOf r.est id r.g f (s.at x).line)) had (last elsewhere) in
          subst (λ k. EndsLine r.est id k (s.at x).line) (now ∙ g_is) last'.ends

  abbrev Freezing : Node → Active → Type 0
  Freezing x a =
      (y : Node) → is_same_node x y ≡ false → (new : IsAwaiting u r.est id (s.at y)) → (is : IsSendingAt u r id s x (coming_to r.est id (s.at y) new.anchor)) → IsPath r id (s.at y) x y new.anchor
      → (is_same_node x r.anchor ≡ false → IfThere (λ (f : Fed). IsLastLineOf r.est id r.g f (s.at x).line) (s.at x).fed) → new.anchor.transfer ≡ None → new.anchor.down ≡ nothing_came
      → ((l : LinkId) → AllByRecursion (IsBeforeFreeze new.anchor.setup.g id) (s.flights l)) → AreAway r.est id s x y → IsFrozenThere u r.est id s s' x y a new.anchor.setup.g → IsOrdered u r id s'

  pub freezes : (x : Node) (a : Active) → Freezing x a
  unfolding awaits_still
  freezes x a y apart new is path last no_transfer nothing before away freezes' =
      let same : is.anchor ≡ a = same_active is.anchor a (s.at x).anchor is.there freezes'.was in
      let front : HasFront u (sdus_of r.est id (s.at x).line ++ coming_to r.est id (s.at y) new.anchor) a = subst (HasFront u (sdus_of r.est id (s.at x).line ++ coming_to r.est id (s.at y) new.anchor)) same is.front in
      let at = freezes'.others y apart in
      let closed = has_ended freezes'.fed.ended new.anchor.setup.g in
      on_its_way x y apart (awaits_still u r id s s' y at new) freezes'.none a.entity.tx closed
      (waiting_takes a.entity.tx closed new.anchor.setup (new.same_n ∙ sym front.front.same_n) new.anchor refl no_transfer nothing)
      (subst (λ line. IsFront u (sdus_of r.est id line ++ coming_to r.est id (s'.at y) new.anchor) false a.entity.tx) (sym freezes'.line)
      (subst (λ (p : Place). IsFront u (sdus_of r.est id (s.at x).line ++ coming_to r.est id p new.anchor) false a.entity.tx) (sym at) (shut_front a.is_open front.front)))
      (path_still u r id s s' x y new.anchor at path)
      (frozen_as x y a new.anchor.setup.g freezes'.fed new.anchor freezes' freezes'.had freezes'.frozen apart closed refl (front.front.same_n ∙ sym front.same_n) is path refl last) (freezes'.flights before)
      (freezes'.told (subst (λ (k : Active). IsWindowOf u r.est id s k.entity.tx) same is.told)) (away_still u r id s s' x y (λ z one two. freezes'.others z one) away)
    where
      shut_front : {rest : List (List ℕ)} {tx : Sender} (is_open : Bool) → IsFront u rest is_open tx → IsFront u rest false tx
      shut_front is_open f = record { same_n = f.same_n; given = f.given; next = f.next; all = f.all; rises = f.rises; kept = f.kept; room = f.room; small = f.small; none_held = λ shut. absurd cc }
