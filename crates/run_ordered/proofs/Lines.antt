-- What comes first on the core's line to a secondary node keeps the order of the downlink, whatever the node has of the bearer.
use Rattle.std.proofs.Common.{Bool, List, None, Option, Some, [], false, refl, sym, subst, ap, arith, true, ℕ, inl, inr, ◌+◌, ◌++◌, ◌<◌, ◌^◌, ◌≡◌, ◌≤◌, ◌∙◌, ◌∷◌, ◌==◌, ◌⊎◌, ◌%◌, ◌/◌, length}
use Rattle.std.specs.List.{AllByRecursion, cons_option}
use Rattle.std.specs.Option.{option_map}
use Rattle.std.specs.Prelude.{if◌then◌else◌, is_some, nat_le, nat_lt, ◌&&◌}
use Rattle.std.proofs.lemmas.List.{append-nil, append_assoc, length-append}
use Rattle.std.proofs.lemmas.Bool.{cases_lt, eq-eqb, eqb-false, eqb-true, ne_eqb, lt-leb, ltb-false, ltb-true}
use Rattle.dc_base.specs.Nodes.{is_same_node}
use Rattle.dc_base.specs.Tunnel.{teid}
use Rattle.dc_base.specs.declared.nodes.Dir.TheVariants.{Dl}
use Rattle.forward.specs.Outgoing.{end_marker, sdu_packet, total_packet}
use Rattle.gtpu.specs.Content.{Content}
use Rattle.gtpu.specs.Spelling.{spelling}
use Rattle.run_receivers.proofs.Packets.{id_in_teid, says_forwarded, teid_fits}
use Rattle.dc_base.specs.declared.flights.Flight.{Flight}
use Rattle.dc_base.specs.declared.flights.Flight.TheVariants as flight
use Rattle.dc_base.specs.declared.nodes.Node.{Node}
use Rattle.pdcp_pdu.specs.DataPdu.{IsPayload}
use Rattle.pdcp_tx.specs.Sender.{Entry, Sender, low}
use Rattle.pdcp_tx.specs.Sending.{hold_sdu}
use Rattle.master_runs.proofs.Holding.{held-other, held-same, same_key}
use Rattle.std.specs.Ordering.{is_eq, nat_cmp}
use Rattle.node_rules.specs.Anchor.{Active, AnchorState, Waiting, active_anchor, setup_at, silent, waiting_anchor}
use Rattle.node_rules.specs.AnchorSending.{submit}
use Rattle.node_rules.specs.Choices.{Choices, Send}
use Rattle.node_rules.specs.Feed.{Fed, Frozen, end_in, frozen_sdu_in, sdu_in}
use Rattle.node_rules.specs.Freezing.{forward_end, forward_fresh}
use Rattle.node_rules.specs.Held.{held, holding}
use Rattle.node_rules.specs.Secondary.{SecondNode, adopted_there, fed_did, low_told, name_of, second_effects}
use Rattle.transcript.proofs.OnEach.{each_append, each_weaker}
use Rattle.node_rules.specs.Effects.{quiet}
use Rattle.node_rules.specs.SecondPlan.{with_fed}
use Rattle.node_rules.specs.SecondStep.{fed_ended, fed_took, frozen_ended, frozen_took, is_before_change, second_line}
use Rattle.node_rules.specs.declared.bearers.AnchorOut.{AnchorOut}
use Rattle.node_rules.specs.declared.commands.Row.{Row}
use Rattle.node_rules.specs.declared.inputs.Effects.{Effects}
use Rattle.run_pairs.proofs.Replies.{same_node}
use Rattle.run_receivers.specs.Submitted.{Submitted}
use Rattle.run_senders.specs.Holders.{IfThere}
use Rattle.run_ordered.specs.Feeds.{EndsLine, IsBefore, IsLastLineOf, IsLineOf, IsSince, IsSinceUpto, IsTold, IsUpto, is_end_of, sdu_of, sdus_of}
use Rattle.run_ordered.specs.Forwarding.{IsOfSender, SaysOnlyOf, forwarded_by, IsQuiet, IsSilent, IsSilentOf}
use Rattle.run_ordered.specs.Fronts.{ArePayloads, HasFront, IsFront}
use Rattle.run_ordered.specs.Orders.{IsAway, IsAwaiting, IsForwarding, IsFrozenAs, IsOrdered, IsSendingAt, IsWindowOf, Place, Scene, about_to_move, at_anchor, coming_to, is_dropped, on_its_way, second_place}
use Rattle.run_ordered.specs.Scenes.{Follows, HasForwarded, HasOf, IsAtOne, KeepsLine, Shrinks, same_line, active_there, dropped, first_gone, frozen_there, nothing_there, waiting_there}
use Rattle.run_ordered.proofs.Feeding as Feeding
use Rattle.run_ordered.proofs.Feeding.{first_is, forwarded, older, sdu_forwarded}
use Rattle.run_ordered.proofs.Freezing.{HasPayloads, end_says, later_closed, forwarded_few, forwarded_more, fresh_says, later_more}
use Rattle.run_ordered.proofs.Taking.{held_payloads, kept_payloads}
use Rattle.run_ordered.proofs.Handing.{forwards_ordered, stays_ordered}
use Rattle.run_ordered.proofs.Saying.{of_later, only_of, silent_else}
use Rattle.run_ordered.proofs.Scenes.{not_none, one_kind, same_or, served_ordered, waits_ordered}
use Rattle.run_ordered.proofs.Serving.{IsSmall, submit_served}
use Rattle.run_ordered.proofs.Telling.{stays, window_next}

-- ---- what a node has

module _ (u : Submitted) (r : Row) (id : ℕ) (s : Scene) where
  away_has : (x : Node) → IsAway r.est id (s.at x) → HasOf r id s x
  away_has x is = nothing_there is.anchor is.frozen is.line

  sending_has : (x : Node) (later : List (List ℕ)) → IsSendingAt u r id s x later → HasOf r id s x
  sending_has x later is = active_there is.anchor is.there is.frozen is.line

  awaiting_has : (y : Node) → IsAwaiting u r.est id (s.at y) → HasOf r id s y
  awaiting_has y new = waiting_there new.anchor new.there new.frozen new.line

  frozen_has : (x : Node) (closed : Bool) (tx : Sender) (g : ℕ) → (s.at x).anchor ≡ None → IsFrozenAs closed tx r id (s.at x) x g → HasOf r id s x
  frozen_has x true tx g gone is = nothing_there gone is.0 is.1
  frozen_has x false tx g gone is = frozen_there gone tx g is

  -- by where the bearer is
  pub has_at : (x : Node) → IsOrdered u r id s → HasOf r id s x
  has_at x (is_dropped none unsettled) = dropped none unsettled
  has_at x (at_anchor z path is away) = elim (same_or z x) [ inl here ↦ subst (HasOf r id s) here (sending_has z [] is) | inr off ↦ away_has x (away x off off) ]
  has_at x (about_to_move z y apart new is path last no_transfer nothing before away) = elim (same_or z x) [
    | inl here ↦ subst (HasOf r id s) here (sending_has z (coming_to r.est id (s.at y) new.anchor) is)
    | inr off ↦ elim (same_or y x) [ inl there ↦ subst (HasOf r id s) there (awaiting_has y new) | inr off' ↦ away_has x (away x off off') ]
  ]
  has_at x (on_its_way z y apart new gone tx closed takes front path frozen flights told away) = elim (same_or z x) [
    | inl here ↦ subst (HasOf r id s) here (frozen_has z closed tx new.anchor.setup.g gone frozen)
    | inr off ↦ elim (same_or y x) [ inl there ↦ subst (HasOf r id s) there (awaiting_has y new) | inr off' ↦ away_has x (away x off off') ]
  ]

-- ---- what an anchor sends

quiet_silent : (f : Flight) → IsQuiet f → IsSilent f
quiet_silent (flight.Air id' g' num tag pdu) is = tt
quiet_silent (flight.Ack id' g' num) is = tt
quiet_silent (flight.Tun tag packet) is = is
quiet_silent (flight.Sdu id' g' payload) is = tt
quiet_silent (flight.End id' g') is = tt
quiet_silent (flight.Told id' g' count) is = absurd is
quiet_silent (flight.Ctl r) is = is

quiet_told : (est id k : ℕ) (f : Flight) → IsQuiet f → IsTold est id k f
quiet_told est id k (flight.Air id' g' num tag pdu) is = tt
quiet_told est id k (flight.Ack id' g' num) is = tt
quiet_told est id k (flight.Tun tag packet) is = tt
quiet_told est id k (flight.Sdu id' g' payload) is = tt
quiet_told est id k (flight.End id' g') is = tt
quiet_told est id k (flight.Told id' g' count) is = absurd is
quiet_told est id k (flight.Ctl r) is = tt

-- a node that sent this, and told at most this
pub record SaysLittle (est id : ℕ) (most : ℕ) (sends : List Send) : Type 0 where
  pub silent : AllByRecursion (λ (y : Send). IsSilentOf id y.1) sends
  pub told : AllByRecursion (λ (y : Send). IsTold est id most y.1) sends

-- what it sent for another identity tells nothing of this one
abbrev pub SaysNothing : ℕ → ℕ → List Send → Type 0
SaysNothing est id sends = (most : ℕ) → SaysLittle est id most sends

quiet_says : (est id most : ℕ) (sends : List Send) → AllByRecursion (λ (y : Send). IsQuiet y.1) sends → SaysLittle est id most sends
quiet_says est id most sends all = record {
  silent = each_weaker (λ (y : Send). IsQuiet y.1) (λ (y : Send). IsSilentOf id y.1) (λ y is. silent_else id y.1 (quiet_silent y.1 is)) sends all;
  told = each_weaker (λ (y : Send). IsQuiet y.1) (λ (y : Send). IsTold est id most y.1) (λ y. quiet_told est id most y.1) sends all;
}

says_both : (est id most : ℕ) (xs ys : List Send) → SaysLittle est id most xs → SaysLittle est id most ys → SaysLittle est id most (xs ++ ys)
says_both est id most xs ys one two = record {
  silent = each_append (λ (y : Send). IsSilentOf id y.1) xs ys one.silent two.silent;
  told = each_append (λ (y : Send). IsTold est id most y.1) xs ys one.told two.told;
}

pub low_says : (est id most : ℕ) (me : Node) (i g : ℕ) (o : Option ℕ) → ((k : ℕ) → o ≡ Some k → i ≡ id → k ≤ most) → SaysLittle est id most (low_told me i g o).sends
low_says est id most me i g None le = record { silent = tt; told = tt }
low_says est id most me i g (Some k) le = record { silent = (tt, tt); told = (λ named since. le k refl named, tt) }

adopted_says : (est id most : ℕ) (me : Node) (i g : ℕ) (adopted : Bool) → SaysLittle est id most (adopted_there me i g adopted).sends
adopted_says est id most me i g true = record { silent = (tt, tt); told = (tt, tt) }
adopted_says est id most me i g false = record { silent = tt; told = tt }

pub effects_say : (est id most : ℕ) (me : Node) (i g : ℕ) (out : AnchorOut) → AllByRecursion (λ (y : Send). IsQuiet y.1) out.sends → ((k : ℕ) → out.low ≡ Some k → i ≡ id → k ≤ most) → SaysLittle est id most (second_effects me i g out).sends
effects_say est id most me i g out quiet le =
    says_both est id most ((adopted_there me i g out.adopted).sends ++ out.sends) (low_told me i g out.low).sends
    (says_both est id most (adopted_there me i g out.adopted).sends out.sends (adopted_says est id most me i g out.adopted) (quiet_says est id most out.sends quiet)) (low_says est id most me i g out.low le)

-- ---- a step of the node, for the scene

module _ (est id : ℕ) (s s' : Scene) (x : Node) (sends : List Send) (follows : Follows s s' x sends) where
  pub alone_of : AllByRecursion (λ (y : Send). IsSilentOf id y.1) sends → IsAtOne id s s' x
  alone_of silent = record {
    others = follows.others;
    unsettled = follows.unsettled;
    flights = λ P closed l all. follows.flights P (each_weaker (λ (y : Send). IsSilentOf id y.1) (λ (y : Send). P y.1) (λ y. closed y.1) sends silent) l all;
  }

  window_told : (u : Submitted) (tx ty : Sender) → low tx ≤ low ty → AllByRecursion (λ (y : Send). IsTold est id (low ty) y.1) sends → IsWindowOf u est id s tx → IsWindowOf u est id s' ty
  window_told u tx ty le says is = window_next u est id s s' tx ty le (stays follows.window) (λ z all. lines z (is_same_node x z) refl all) is
    where
      lines : (z : Node) (b : Bool) → is_same_node x z ≡ b → AllByRecursion (IsTold est id (low ty)) (s.at z).told → AllByRecursion (IsTold est id (low ty)) (s'.at z).told
      lines z true here all =
          subst (λ k. AllByRecursion (IsTold est id (low ty)) (s'.at k).told) (same_node x z here)
          (follows.told (IsTold est id (low ty)) says (subst (λ k. AllByRecursion (IsTold est id (low ty)) (s.at k).told) (sym (same_node x z here)) all))
      lines z false off all = subst (λ (p : Place). AllByRecursion (IsTold est id (low ty)) p.told) (sym (follows.others z off)) all

  pub window_of : (u : Submitted) (tx ty : Sender) → low tx ≤ low ty → SaysLittle est id (low ty) sends → IsWindowOf u est id s tx → IsWindowOf u est id s' ty
  window_of u tx ty le says is = window_told u tx ty le says.told is

-- what is kept and held may be forwarded
has_payloads : (v : Submitted) → ArePayloads v → (rest : List (List ℕ)) (tx : Sender) → IsFront v rest false tx → HasPayloads tx
has_payloads v all rest tx f = (
  each_weaker (λ (e : Entry). IsPayload e.1) (λ (e : Entry). length e.1 ≤ 9000) (λ e good. good.most) tx.kept (kept_payloads v all tx.kept f.kept),
  each_weaker IsPayload (λ (sdu : List ℕ). length sdu ≤ 9000) (λ sdu good. good.most) tx.held (held_payloads v all rest false tx f),
)

-- nothing is held of one identity any more: of another it is as it was
gone_other : {X : Type 0} (i k : ℕ) (xs : List (ℕ × X)) → (i == k) ≡ false → held k (holding i None xs) ≡ held k xs
gone_other i k [] apart = refl
gone_other i k (e ∷ es) apart = by (is_eq (nat_cmp i e.0)) refl (gone_other i k es apart)
  where
    not_at : is_eq (nat_cmp i e.0) ≡ true → is_eq (nat_cmp k e.0) ≡ false
    not_at at =
        let same : i ≡ e.0 = eqb-true i e.0 (sym (same_key i e.0) ∙ at) in
        same_key k e.0 ∙ ne_eqb k e.0 (λ bad. eqb-false i k apart (same ∙ sym bad))

    by : (t : Bool) → is_eq (nat_cmp i e.0) ≡ t → held k (holding i None es) ≡ held k es → held k (holding i None (e ∷ es)) ≡ held k (e ∷ es)
    by true at more = ap (λ b. held k (if b then es else e ∷ holding i None es)) at ∙ sym (ap (λ b. if b then Some e.1 else held k es) (not_at at))
    by false off more = ap (λ b. held k (if b then es else e ∷ holding i None es)) off ∙ ap (λ o. if is_eq (nat_cmp k e.0) then Some e.1 else o) more

-- ---- what the line brings

module _ (c : Choices) (u : Submitted) (r : Row) (id : ℕ) (s s' : Scene) (x : Node) (n : SecondNode) (f : Flight) (line told told' : List Flight) (here : s.at x ≡ second_place n id (f ∷ line) told) where
  fed_is : (s.at x).fed ≡ held id n.anchors
  fed_is = ap (λ (p : Place). p.fed) here

  frozen_is : (s.at x).frozen ≡ held id n.frozen
  frozen_is = ap (λ (p : Place). p.frozen) here

  anchor_is : (s.at x).anchor ≡ option_map (λ (y : Fed). y.anchor) (held id n.anchors)
  anchor_is = ap (λ (p : Place). p.anchor) here

  line_is : (s.at x).line ≡ f ∷ line
  line_is = ap (λ (p : Place). p.line) here

  -- ---- nothing for this bearer

  -- it is of another, or of an earlier establishment, and all that the node has of the identity stays
  pub passes : (done : SecondNode × Effects) → held id done.0.anchors ≡ held id n.anchors → held id done.0.frozen ≡ held id n.frozen → s'.at x ≡ second_place done.0 id line told' → Follows s s' x done.1.sends → SaysNothing r.est id done.1.sends
      → sdu_of r.est id f ≡ None → IsOrdered u r id s → IsOrdered u r id s'
  passes done anchors frozen after follows says other ordered =
      stays_ordered u r id s s'
      (record {
        anchor = λ z. by_node (λ k. (s'.at k).anchor ≡ (s.at k).anchor) z (ap (λ (p : Place). p.anchor) after ∙ ap (λ o. option_map (λ (y : Fed). y.anchor) o) anchors ∙ sym anchor_is) (λ same. ap (λ (p : Place). p.anchor) same);
        fed = λ z. by_node (λ k. (s'.at k).fed ≡ (s.at k).fed) z (ap (λ (p : Place). p.fed) after ∙ anchors ∙ sym fed_is) (λ same. ap (λ (p : Place). p.fed) same);
        frozen = λ z. by_node (λ k. (s'.at k).frozen ≡ (s.at k).frozen) z (ap (λ (p : Place). p.frozen) after ∙ frozen ∙ sym frozen_is) (λ same. ap (λ (p : Place). p.frozen) same);
        line = λ z. by_node (λ k. Shrinks r.est id (s.at k).line (s'.at k).line) z
            (subst (λ l. Shrinks r.est id (s.at x).line l) (sym (ap (λ (p : Place). p.line) after)) (first_gone f line line_is other))
            (λ same. subst (λ l. Shrinks r.est id (s.at z).line l) (sym (ap (λ (p : Place). p.line) same)) same_line);
        unsettled = follows.unsettled;
        flights = λ P closed l all. (alone_of r.est id s s' x done.1.sends follows (says 0).silent).flights P closed l all;
        told = λ v tx is. window_of r.est id s s' x done.1.sends follows v tx tx (omega arith) (says (low tx)) is;
      }) ordered
    where
      by_node : (P : Node → Type 0) (z : Node) → P x → (s'.at z ≡ s.at z → P z) → P z
      by_node P z mine theirs = elim (same_or x z) [ inl same ↦ subst P same mine | inr off ↦ theirs (follows.others z off) ]

  -- ---- an SDU for an anchor

  -- what the anchor takes from the rest of the line
  line_tail : (g : ℕ) (payload : List ℕ) → f ≡ flight.Sdu id g payload → (y z : Fed) → held id n.anchors ≡ Some y → z.since ≡ y.since → z.ended ≡ y.ended → (done : SecondNode × Effects) → held id done.0.anchors ≡ Some z → held id done.0.frozen ≡ held id n.frozen
      → s'.at x ≡ second_place done.0 id line told' → KeepsLine r.est id (s.at x) (s'.at x)
  line_tail g payload is y z had since ended done has left after = record {
    line = λ all. subst (IfThere (λ (k : Fed). IsLineOf r.est id k (s'.at x).line)) (sym now)
        (let l = tail (subst (λ o. IfThere (λ (k : Fed). IsLineOf r.est id k (s.at x).line) o) before all) in
        record { since = subst (AllByRecursion (IsSince r.est id z.since)) (sym rest) (subst (λ t. AllByRecursion (IsSince r.est id t) line) (sym since) l.since); from = subst (λ t. r.est ≤ t) (sym since) l.from });
    upto = λ h all. subst (IsSinceUpto h) (sym now) (subst (λ t. t ≤ h) (sym since) (subst (IsSinceUpto h) before all));
    known = λ h all. record {
      stand = subst (AllByRecursion (IsUpto id h)) (sym rest) (subst (AllByRecursion (IsUpto id h)) line_is all.stand).1;
      taken = subst (IfThere (λ (k : Fed). (j : ℕ) → k.ended ≡ Some j → j ≤ h)) (sym now) (λ j at. subst (IfThere (λ (k : Fed). (i : ℕ) → k.ended ≡ Some i → i ≤ h)) before all.taken j (sym ended ∙ at));
    };
    last = λ h all. subst (IfThere (λ (k : Fed). IsLastLineOf r.est id h k (s'.at x).line)) (sym now)
        (let l = subst (IfThere (λ (k : Fed). IsLastLineOf r.est id h k (s.at x).line)) before all in
        record {
          before = subst (AllByRecursion (IsBefore r.est id h)) (sym rest) (subst (AllByRecursion (IsBefore r.est id h)) line_is l.before).1;
          ends = subst (EndsLine r.est id h) (sym rest) (subst (EndsLine r.est id h) line_is l.ends).1;
          ended = λ at. ap (sdus_of r.est id) rest ∙ none_behind (sdu_of r.est id f) (sdus_of r.est id line) (sym (ap (sdus_of r.est id) line_is) ∙ l.ended (sym ended ∙ at));
        });
    frozen = ap (λ (p : Place). p.frozen) after ∙ left ∙ sym frozen_is;
  }
    where
      before : (s.at x).fed ≡ Some y
      before = fed_is ∙ had

      now : (s'.at x).fed ≡ Some z
      now = ap (λ (p : Place). p.fed) after ∙ has

      rest : (s'.at x).line ≡ line
      rest = ap (λ (p : Place). p.line) after

      tail : IsLineOf r.est id y (s.at x).line → IsLineOf r.est id y line
      tail l = record { since = (subst (AllByRecursion (IsSince r.est id y.since)) line_is l.since).1; from = l.from }

      none_behind : (o : Option (List ℕ)) (ps : List (List ℕ)) → cons_option o ps ≡ [] → ps ≡ []
      none_behind None ps is' = is'
      none_behind (Some p) ps is' = absurd cc

  -- the active anchor takes it
  pub sdu_served : (g : ℕ) (payload : List ℕ) → f ≡ flight.Sdu id g payload → (y : Fed) (a : Active) → held id n.anchors ≡ Some y → y.anchor ≡ active_anchor a → IsSmall a.entity.setup → (done : SecondNode × Effects) → done ≡ fed_took c n id g payload (held id n.anchors)
      → s'.at x ≡ second_place done.0 id line told' → Follows s s' x done.1.sends → IfThere (λ (k : Fed). IsLineOf r.est id k (s.at x).line) (s.at x).fed → IsOrdered u r id s → IsOrdered u r id s'
  sdu_served g payload is y a had at small done took after follows lines ordered = by (nat_lt g y.since) refl
    where
      mine : IsLineOf r.est id y (s.at x).line
      mine = subst (IfThere (λ (k : Fed). IsLineOf r.est id k (s.at x).line)) (fed_is ∙ had) lines

      first_so : r.est ≤ g → y.since ≤ g
      first_so = subst (IsSince r.est id y.since) is (subst (AllByRecursion (IsSince r.est id y.since)) line_is mine.since).0 refl

      took_it : done ≡ fed_did n id (sdu_in c y g payload)
      took_it = took ∙ ap (fed_took c n id g payload) had

      by : (t : Bool) → nat_lt g y.since ≡ t → IsOrdered u r id s'
      by true old =
          let less = ltb-true g y.since old in
          let same : sdu_in c y g payload ≡ (y, silent) = ap (λ b. if◌then◌else◌ {A = Fed × AnchorOut} b (y, silent) (record y { anchor = (submit c y.anchor payload).0 }, (submit c y.anchor payload).1)) old in
          let is_done : done ≡ fed_did n id (y, silent) = took_it ∙ ap (fed_did n id) same in
          let older : g < r.est = elim (cases_lt g r.est) [ inl less' ↦ less' | inr le ↦ absurd (let le' = first_so le in omega (arith, less, le')) ] in
          passes done (ap (λ (d : SecondNode × Effects). held id d.0.anchors) is_done ∙ held-same id y n.anchors ∙ sym had) (ap (λ (d : SecondNode × Effects). held id d.0.frozen) is_done) after follows
          (λ most. subst (λ (d : SecondNode × Effects). SaysLittle r.est id most d.1.sends) (sym is_done) (record { silent = tt; told = tt })) (ap (sdu_of r.est id) is ∙ older_none older) ordered
        where
          older_none : g < r.est → sdu_of r.est id (flight.Sdu id g payload) ≡ None
          older_none less = rw (eq-eqb id id refl, lt-leb r.est g less) refl
      by false now =
          let le = ltb-false g y.since now in
          let serve = submit_served c a small payload in
          let z : Fed = record y { anchor = (submit c y.anchor payload).0 } in
          let out : AnchorOut = (submit c y.anchor payload).1 in
          let same : sdu_in c y g payload ≡ (z, out) = ap (λ b. if◌then◌else◌ {A = Fed × AnchorOut} b (y, silent) (z, out)) now in
          let is_done : done ≡ fed_did n id (z, out) = took_it ∙ ap (fed_did n id) same in
          let has : held id done.0.anchors ≡ Some z = ap (λ (d : SecondNode × Effects). held id d.0.anchors) is_done ∙ held-same id z n.anchors in
          let rest : (s'.at x).line ≡ line = ap (λ (p : Place). p.line) after in
          let from = mine.from in
          let says : SaysLittle r.est id (low serve.after.entity.tx) done.1.sends =
          subst (λ (d : SecondNode × Effects). SaysLittle r.est id (low serve.after.entity.tx) d.1.sends) (sym is_done)
          (effects_say r.est id (low serve.after.entity.tx) (name_of n) id (setup_at z.anchor).g out (subst (λ (t : AnchorState). AllByRecursion (λ (k : Send). IsQuiet k.1) (submit c t payload).1.sends) (sym at) serve.silent)
          (λ k low_is named. serve.told k (ap (λ (t : AnchorState). (submit c t payload).1.low) (sym at) ∙ low_is))) in
          served_ordered u r id s s' x a serve.after
          (record {
            alone = alone_of r.est id s s' x done.1.sends follows says.silent;
            was = anchor_is ∙ ap (λ o. option_map (λ (k : Fed). k.anchor) o) had ∙ ap (λ t. Some t) at;
            is = ap (λ (p : Place). p.anchor) after ∙ ap (λ o. option_map (λ (k : Fed). k.anchor) o) has ∙ ap (λ (t : AnchorState). Some (submit c t payload).0) at ∙ ap (λ t. Some t) serve.is;
            line = line_tail g payload is y z had refl refl done has (ap (λ (d : SecondNode × Effects). held id d.0.frozen) is_done) after;
            front = λ v later front. subst (λ l. HasFront v (sdus_of r.est id l ++ later) serve.after) (sym rest)
                (serve.front v (sdus_of r.est id line ++ later)
                (subst (λ xs. HasFront v (xs ++ later) a) (ap (sdus_of r.est id) line_is ∙ ap (λ k. sdus_of r.est id (k ∷ line)) is ∙ first_is r.est id g payload line (omega (arith, from, le))) front));
            told = λ v. window_of r.est id s s' x done.1.sends follows v a.entity.tx serve.after.entity.tx serve.rises says;
          }) ordered

  -- a waiting one keeps it
  pub sdu_kept : (g : ℕ) (payload : List ℕ) → f ≡ flight.Sdu id g payload → (y : Fed) (w : Waiting) → held id n.anchors ≡ Some y → y.anchor ≡ waiting_anchor w → (done : SecondNode × Effects) → done ≡ fed_took c n id g payload (held id n.anchors)
      → s'.at x ≡ second_place done.0 id line told' → Follows s s' x done.1.sends → IfThere (λ (k : Fed). IsLineOf r.est id k (s.at x).line) (s.at x).fed → IsOrdered u r id s → IsOrdered u r id s'
  sdu_kept g payload is y w had at done took after follows lines ordered = by (nat_lt g y.since) refl
    where
      mine : IsLineOf r.est id y (s.at x).line
      mine = subst (IfThere (λ (k : Fed). IsLineOf r.est id k (s.at x).line)) (fed_is ∙ had) lines

      first_so : r.est ≤ g → y.since ≤ g
      first_so = subst (IsSince r.est id y.since) is (subst (AllByRecursion (IsSince r.est id y.since)) line_is mine.since).0 refl

      took_it : done ≡ fed_did n id (sdu_in c y g payload)
      took_it = took ∙ ap (fed_took c n id g payload) had

      by : (t : Bool) → nat_lt g y.since ≡ t → IsOrdered u r id s'
      by true old =
          let less = ltb-true g y.since old in
          let same : sdu_in c y g payload ≡ (y, silent) = ap (λ b. if◌then◌else◌ {A = Fed × AnchorOut} b (y, silent) (record y { anchor = (submit c y.anchor payload).0 }, (submit c y.anchor payload).1)) old in
          let is_done : done ≡ fed_did n id (y, silent) = took_it ∙ ap (fed_did n id) same in
          let older : g < r.est = elim (cases_lt g r.est) [ inl less' ↦ less' | inr le ↦ absurd (let le' = first_so le in omega (arith, less, le')) ] in
          passes done (ap (λ (d : SecondNode × Effects). held id d.0.anchors) is_done ∙ held-same id y n.anchors ∙ sym had) (ap (λ (d : SecondNode × Effects). held id d.0.frozen) is_done) after follows
          (λ most. subst (λ (d : SecondNode × Effects). SaysLittle r.est id most d.1.sends) (sym is_done) (record { silent = tt; told = tt })) (ap (sdu_of r.est id) is ∙ older_none older) ordered
        where
          older_none : g < r.est → sdu_of r.est id (flight.Sdu id g payload) ≡ None
          older_none less = rw (eq-eqb id id refl, lt-leb r.est g less) refl
      by false now =
          let le = ltb-false g y.since now in
          let v : Waiting = record w { fresh = w.fresh ++ payload ∷ [] } in
          let z : Fed = record y { anchor = (submit c y.anchor payload).0 } in
          let out : AnchorOut = (submit c y.anchor payload).1 in
          let same : sdu_in c y g payload ≡ (z, out) = ap (λ b. if◌then◌else◌ {A = Fed × AnchorOut} b (y, silent) (z, out)) now in
          let is_done : done ≡ fed_did n id (z, out) = took_it ∙ ap (fed_did n id) same in
          let has : held id done.0.anchors ≡ Some z = ap (λ (d : SecondNode × Effects). held id d.0.anchors) is_done ∙ held-same id z n.anchors in
          let rest : (s'.at x).line ≡ line = ap (λ (p : Place). p.line) after in
          let from = mine.from in
          let says : SaysNothing r.est id done.1.sends =
          λ most. subst (λ (d : SecondNode × Effects). SaysLittle r.est id most d.1.sends) (sym is_done)
          (effects_say r.est id most (name_of n) id (setup_at z.anchor).g out (subst (λ (t : AnchorState). AllByRecursion (λ (k : Send). IsQuiet k.1) (submit c t payload).1.sends) (sym at) tt)
          (λ k low_is named. absurd (none_low k (ap (λ (t : AnchorState). (submit c t payload).1.low) (sym at) ∙ low_is)))) in
          waits_ordered u r id s s' x w v
          (record {
            alone = alone_of r.est id s s' x done.1.sends follows (says 0).silent;
            was = anchor_is ∙ ap (λ o. option_map (λ (k : Fed). k.anchor) o) had ∙ ap (λ t. Some t) at;
            is = ap (λ (p : Place). p.anchor) after ∙ ap (λ o. option_map (λ (k : Fed). k.anchor) o) has ∙ ap (λ (t : AnchorState). Some (submit c t payload).0) at;
            line = line_tail g payload is y z had refl refl done has (ap (λ (d : SecondNode × Effects). held id d.0.frozen) is_done) after;
            coming = ap (λ l. (w.fresh ++ payload ∷ []) ++ sdus_of r.est id l) rest ∙ append_assoc w.fresh (payload ∷ []) (sdus_of r.est id line)
                ∙ ap (λ xs. w.fresh ++ xs) (sym (ap (sdus_of r.est id) line_is ∙ ap (λ k. sdus_of r.est id (k ∷ line)) is ∙ first_is r.est id g payload line (omega (arith, from, le))));
            same_g = refl;
            same_n = refl;
            transfer = refl;
            down = refl;
            told = λ q tx is'. window_of r.est id s s' x done.1.sends follows q tx tx (omega arith) (says (low tx)) is';
          }) ordered
        where
          none_low : (k : ℕ) → None ≡ Some k → ⊥
          none_low k bad = cc

  -- ---- the line ends for an anchor

  -- an active one notes it
  pub end_noted : (g : ℕ) → f ≡ flight.End id g → (y : Fed) (a : Active) → held id n.anchors ≡ Some y → y.anchor ≡ active_anchor a → (done : SecondNode × Effects) → done ≡ fed_ended n id g (held id n.anchors) → s'.at x ≡ second_place done.0 id line told'
      → Follows s s' x done.1.sends → IsOrdered u r id s → IsOrdered u r id s'
  end_noted g is y a had at done took after follows ordered =
      let z : Fed = record y { ended = Some g } in
      let is_done : done ≡ (with_fed n id (Some z), quiet) = took ∙ ap (fed_ended n id g) had ∙ ap (λ t. (with_fed n id (Some (end_in y g t)), quiet)) at in
      let has : held id done.0.anchors ≡ Some z = ap (λ (d : SecondNode × Effects). held id d.0.anchors) is_done ∙ held-same id z n.anchors in
      let rest : (s'.at x).line ≡ line = ap (λ (p : Place). p.line) after in
      let says : SaysNothing r.est id done.1.sends = λ most. subst (λ (d : SecondNode × Effects). SaysLittle r.est id most d.1.sends) (sym is_done) (record { silent = tt; told = tt }) in
      let none : sdu_of r.est id f ≡ None = ap (sdu_of r.est id) is in
      let less : sdus_of r.est id (s'.at x).line ≡ sdus_of r.est id (s.at x).line =
      ap (sdus_of r.est id) rest ∙ sym (ap (sdus_of r.est id) line_is ∙ ap (λ o. cons_option o (sdus_of r.est id line)) none) in
      served_ordered u r id s s' x a a
      (record {
        alone = alone_of r.est id s s' x done.1.sends follows (says 0).silent;
        was = anchor_is ∙ ap (λ o. option_map (λ (k : Fed). k.anchor) o) had ∙ ap (λ t. Some t) at;
        is = ap (λ (p : Place). p.anchor) after ∙ ap (λ o. option_map (λ (k : Fed). k.anchor) o) has ∙ ap (λ t. Some t) at;
        line = record {
          line = λ all. subst (IfThere (λ (k : Fed). IsLineOf r.est id k (s'.at x).line)) (sym (now_is done has after))
              (let l = subst (IfThere (λ (k : Fed). IsLineOf r.est id k (s.at x).line)) (before_is had) all in
              record { since = subst (AllByRecursion (IsSince r.est id y.since)) (sym rest) (subst (AllByRecursion (IsSince r.est id y.since)) line_is l.since).1; from = l.from });
          upto = λ h all. subst (IsSinceUpto h) (sym (now_is done has after)) (subst (IsSinceUpto h) (before_is had) all);
          known = λ h all. record {
            stand = subst (AllByRecursion (IsUpto id h)) (sym rest) (subst (AllByRecursion (IsUpto id h)) line_is all.stand).1;
            taken = subst (IfThere (λ (k : Fed). (j : ℕ) → k.ended ≡ Some j → j ≤ h)) (sym (now_is done has after))
                (λ j noted. subst (λ k. k ≤ h) (one j noted) (subst (IsUpto id h) is (subst (AllByRecursion (IsUpto id h)) line_is all.stand).0 refl));
          };
          last = λ h all. subst (IfThere (λ (k : Fed). IsLastLineOf r.est id h k (s'.at x).line)) (sym (now_is done has after))
              (let l = subst (IfThere (λ (k : Fed). IsLastLineOf r.est id h k (s.at x).line)) (before_is had) all in
              let ends = subst (EndsLine r.est id h) line_is l.ends in
              record {
                before = subst (AllByRecursion (IsBefore r.est id h)) (sym rest) (subst (AllByRecursion (IsBefore r.est id h)) line_is l.before).1;
                ends = subst (EndsLine r.est id h) (sym rest) ends.1;
                ended = λ noted. ap (sdus_of r.est id) rest ∙ ends.0 (ap (is_end_of id h) is ∙ is_it h (one h noted));
              });
          frozen = ap (λ (p : Place). p.frozen) after ∙ ap (λ (d : SecondNode × Effects). held id d.0.frozen) is_done ∙ sym frozen_is;
        };
        front = λ v later front. subst (λ xs. HasFront v (xs ++ later) a) (sym less) front;
        told = λ v. window_of r.est id s s' x done.1.sends follows v a.entity.tx a.entity.tx (omega arith) (says (low a.entity.tx));
      }) ordered
    where
      before_is : held id n.anchors ≡ Some y → (s.at x).fed ≡ Some y
      before_is had = fed_is ∙ had

      now_is : (done : SecondNode × Effects) → held id done.0.anchors ≡ Some (record y { ended = Some g }) → s'.at x ≡ second_place done.0 id line told' → (s'.at x).fed ≡ Some (record y { ended = Some g })
      now_is done has after = ap (λ (p : Place). p.fed) after ∙ has

      one : (j : ℕ) → Some g ≡ Some j → g ≡ j
      one j same = cc

      is_it : (h : ℕ) → g ≡ h → ((id == id) && (g == h)) ≡ true
      is_it h same = ap (λ b. b && (g == h)) (eq-eqb id id refl) ∙ eq-eqb g h same

  -- a waiting one does not
  pub end_unheard : (g : ℕ) → f ≡ flight.End id g → (y : Fed) (w : Waiting) → held id n.anchors ≡ Some y → y.anchor ≡ waiting_anchor w → (done : SecondNode × Effects) → done ≡ fed_ended n id g (held id n.anchors) → s'.at x ≡ second_place done.0 id line told'
      → Follows s s' x done.1.sends → IsOrdered u r id s → IsOrdered u r id s'
  end_unheard g is y w had at done took after follows ordered =
      let is_done : done ≡ (with_fed n id (Some y), quiet) = took ∙ ap (fed_ended n id g) had ∙ ap (λ t. (with_fed n id (Some (end_in y g t)), quiet)) at in
      passes done (ap (λ (d : SecondNode × Effects). held id d.0.anchors) is_done ∙ held-same id y n.anchors ∙ sym had) (ap (λ (d : SecondNode × Effects). held id d.0.frozen) is_done) after follows
      (λ most. subst (λ (d : SecondNode × Effects). SaysLittle r.est id most d.1.sends) (sym is_done) (record { silent = tt; told = tt })) (ap (sdu_of r.est id) is) ordered

  -- ---- an SDU for a frozen anchor

  frozen_told : (fr : Frozen) (g most : ℕ) (payload : List ℕ) → AllByRecursion (λ (k : Send). IsTold r.est id most k.1) (frozen_sdu_in fr g payload).1
  frozen_told fr g most payload = by (nat_le fr.since g && nat_lt g fr.tunnel.g)
    where
      by : (t : Bool) → AllByRecursion (λ (k : Send). IsTold r.est id most k.1) (if◌then◌else◌ {A = Frozen × List Send} t (record fr { tunnel = (forward_fresh fr.tunnel payload).0 }, (forward_fresh fr.tunnel payload).1) (fr, [])).1
      by true = (tt, tt)
      by false = tt

  -- it is forwarded
  pub sdu_forwards : ArePayloads u → (g : ℕ) (payload : List ℕ) → f ≡ flight.Sdu id g payload → (fr : Frozen) → held id n.frozen ≡ Some fr → fr.tunnel.g < 2 ^ 24 → 1 ≤ id → id ≤ 32 → (done : SecondNode × Effects) → done ≡ frozen_took n id g payload (held id n.frozen)
      → s'.at x ≡ second_place done.0 id line told' → Follows s s' x done.1.sends → IsOrdered u r id s → IsOrdered u r id s'
  sdu_forwards payloads' g payload is fr had small some most done took after follows ordered =
      forwards_ordered u r id s s' payloads' x
      (record {
        others = follows.others;
        unsettled = follows.unsettled;
        anchor = ap (λ (p : Place). p.anchor) after ∙ ap (λ (d : SecondNode × Effects). option_map (λ (k : Fed). k.anchor) (held id d.0.anchors)) is_done ∙ sym anchor_is;
        had = λ none. differ (sym none ∙ frozen_is ∙ had);
        after = forwarded_then;
        told = λ v tx ty same. window_told r.est id s s' x done.1.sends follows v tx ty (omega (arith, same)) (subst (λ (d : SecondNode × Effects). AllByRecursion (λ (k : Send). IsTold r.est id (low ty) k.1) d.1.sends) (sym is_done) (frozen_told fr g (low ty) payload));
      }) ordered
    where
      differ : None ≡ Some fr → ⊥
      differ bad = cc

      is_done : done ≡ frozen_took n id g payload (Some fr)
      is_done = took ∙ ap (frozen_took n id g payload) had

      rest : (s'.at x).line ≡ line
      rest = ap (λ (p : Place). p.line) after

      left : (d : Frozen × List Send) → frozen_sdu_in fr g payload ≡ d → (s'.at x).frozen ≡ Some d.0
      left d same = ap (λ (p : Place). p.frozen) after ∙ ap (λ (e : SecondNode × Effects). held id e.0.frozen) is_done ∙ held-same id (frozen_sdu_in fr g payload).0 n.frozen ∙ ap (λ (e : Frozen × List Send). Some e.0) same

      sent_is : (d : Frozen × List Send) → frozen_sdu_in fr g payload ≡ d → done.1.sends ≡ d.1
      sent_is d same = ap (λ (e : SecondNode × Effects). e.1.sends) is_done ∙ ap (λ (e : Frozen × List Send). e.1) same

      one : (a b : Frozen) → Some a ≡ Some b → a ≡ b
      one a b same = cc

      forwarded_then : (v : Submitted) (later : List (List ℕ)) (tx : Sender) (h : ℕ) → ArePayloads v → (is_same_node x r.anchor ≡ false) ⊎ (r.g < h) → IsForwarding tx r id (s.at x) x h → IsFront v (sdus_of r.est id (s.at x).line ++ later) false tx
          → HasForwarded v later r id s s' x h tx
      forwarded_then v later tx h goods path w front =
          let same : w.frozen ≡ fr = one w.frozen fr (sym w.there ∙ frozen_is ∙ had) in
          let since' : AllByRecursion (IsSince r.est id fr.since) (f ∷ line) = subst (AllByRecursion (IsSince r.est id fr.since)) line_is (subst (λ (k : Frozen). AllByRecursion (IsSince r.est id k.since) (s.at x).line) same w.since) in
          let before' = subst (AllByRecursion (IsBefore r.est id h)) line_is w.before in
          let g_is : fr.tunnel.g ≡ h = ap (λ (k : Frozen). k.tunnel.g) (sym same) ∙ w.g_is in
          let first_since : r.est ≤ g → fr.since ≤ g = subst (IsSince r.est id fr.since) is since'.0 refl in
          let first_before : r.est ≤ g → g < fr.tunnel.g = λ le. subst (λ k. g < k) (sym g_is) (subst (IsBefore r.est id h) is before'.0 refl le) in
          let from : r.est ≤ fr.since = subst (λ (k : Frozen). r.est ≤ k.since) same w.from in
          let front' : IsFront v (sdus_of r.est id (flight.Sdu id g payload ∷ line) ++ later) false tx = subst (λ xs. IsFront v (xs ++ later) false tx) (ap (sdus_of r.est id) line_is ∙ ap (λ k. sdus_of r.est id (k ∷ line)) is) front in
          by (frozen_sdu_in fr g payload) refl (sdu_forwarded v r.est id fr tx g payload line later from first_since first_before front')
        where
          goes : (fr' : Frozen) (tx' : Sender) → (s'.at x).frozen ≡ Some fr' → fr'.since ≡ fr.since → fr'.tunnel.g ≡ fr.tunnel.g → fr'.tunnel.id ≡ fr.tunnel.id → fr'.tunnel.n ≡ fr.tunnel.n → tx'.n ≡ tx.n → fr'.tunnel.next ≡ length (forwarded_by tx') → w.frozen ≡ fr
              → IsForwarding tx' r id (s'.at x) x h
          goes fr' tx' there since g' i' n' same_n next same = record {
            frozen = fr';
            there = there;
            g_is = g' ∙ ap (λ (k : Frozen). k.tunnel.g) (sym same) ∙ w.g_is;
            id_is = i' ∙ ap (λ (k : Frozen). k.tunnel.id) (sym same) ∙ w.id_is;
            n_is = n' ∙ ap (λ (k : Frozen). k.tunnel.n) (sym same) ∙ w.n_is ∙ sym same_n;
            next = next;
            from = subst (λ t. r.est ≤ t) (ap (λ (k : Frozen). k.since) same ∙ sym since) w.from;
            upto = subst (λ t. t ≤ r.g) (ap (λ (k : Frozen). k.since) same ∙ sym since) w.upto;
            since = subst (AllByRecursion (IsSince r.est id fr'.since)) (sym rest) (subst (λ t. AllByRecursion (IsSince r.est id t) line) (ap (λ (k : Frozen). k.since) same ∙ sym since) (subst (AllByRecursion (IsSince r.est id w.frozen.since)) line_is w.since).1);
            before = subst (AllByRecursion (IsBefore r.est id h)) (sym rest) (subst (AllByRecursion (IsBefore r.est id h)) line_is w.before).1;
            known = subst (AllByRecursion (IsUpto id r.g)) (sym rest) (subst (AllByRecursion (IsUpto id r.g)) line_is w.known).1;
            ends = λ elsewhere. subst (EndsLine r.est id h) (sym rest) (subst (EndsLine r.est id h) line_is (w.ends elsewhere)).1;
          }

          by : (d : Frozen × List Send) → frozen_sdu_in fr g payload ≡ d → Feeding.HasForwarded v r.est id (sdus_of r.est id line ++ later) tx fr payload d → HasForwarded v later r id s s' x h tx
          by d same (older alike front'') =
              let at : w.frozen ≡ fr = one w.frozen fr (sym w.there ∙ frozen_is ∙ had) in
              record {
                after = tx;
                closed = false;
                front = subst (λ l. IsFront v (sdus_of r.est id l ++ later) false tx) (sym rest) front'';
                frozen = goes fr tx (left (fr, []) (same ∙ alike)) refl refl refl refl refl (ap (λ (k : Frozen). k.tunnel.next) (sym at) ∙ w.next) at;
                longer = record { more = []; longer = sym (append-nil (forwarded_by tx)); last = λ shut. absurd cc };
                same_n = refl;
                next = refl;
                low_is = refl;
                flights = λ all l. follows.flights (IsOfSender tx false h id) (subst (AllByRecursion (λ (k : Send). IsOfSender tx false h id k.1)) (sym (sent_is (fr, []) (same ∙ alike))) tt) l (all l);
              }
          by d same (forwarded alike front'') =
              let at : w.frozen ≡ fr = one w.frozen fr (sym w.there ∙ frozen_is ∙ had) in
              let ty = hold_sdu tx payload in
              let t = fr.tunnel in
              let fr' : Frozen = record fr { tunnel = (forward_fresh t payload).0 } in
              let sends = (forward_fresh t payload).1 in
              let next : t.next ≡ length (forwarded_by tx) = ap (λ (k : Frozen). k.tunnel.next) (sym at) ∙ w.next in
              let longer = forwarded_more tx payload in
              let more = length-append (forwarded_by tx) ((None, payload) ∷ []) in
              let g_is : t.g ≡ h = ap (λ (k : Frozen). k.tunnel.g) (sym at) ∙ w.g_is in
              let id_is : t.id ≡ id = ap (λ (k : Frozen). k.tunnel.id) (sym at) ∙ w.id_is in
              let n_is : t.n ≡ tx.n = ap (λ (k : Frozen). k.tunnel.n) (sym at) ∙ w.n_is in
              let said = fresh_says ty false h id (subst (λ k. k < 2 ^ 24) g_is small) some most t (forwarded_by tx) payload n_is g_is id_is longer next
              (forwarded_few v (sdus_of r.est id line ++ later) false ty front'') (has_payloads v goods (sdus_of r.est id line ++ later) ty front'') in
              record {
                after = ty;
                closed = false;
                front = subst (λ l. IsFront v (sdus_of r.est id l ++ later) false ty) (sym rest) front'';
                frozen = goes fr' ty (left (fr', sends) (same ∙ alike)) refl refl refl refl refl (ap (λ k. k + 1) next ∙ sym (ap length longer ∙ more)) at;
                longer = later_more tx payload;
                same_n = refl;
                next = refl;
                low_is = refl;
                flights = λ all l. follows.flights (IsOfSender ty false h id)
                    (subst (AllByRecursion (λ (k : Send). IsOfSender ty false h id k.1)) (sym (sent_is (fr', sends) (same ∙ alike)))
                    (each_weaker (λ (k : Send). SaysOnlyOf ty false h id k.1) (λ (k : Send). IsOfSender ty false h id k.1) (λ k. only_of ty false h id k.1) sends said)) l
                    (each_weaker (IsOfSender tx false h id) (IsOfSender ty false h id) (λ k. of_later tx ty false false h id k (later_more tx payload) refl) (s.flights l) (all l));
              }

  -- ---- the line of a frozen anchor ends

  -- it tells how much it forwarded; nothing is left of it, of which there was but one
  pub end_forwards : ArePayloads u → (g : ℕ) → f ≡ flight.End id g → (fr : Frozen) → held id n.frozen ≡ Some fr → held id (holding id None n.frozen) ≡ None → fr.tunnel.g < 2 ^ 24 → 1 ≤ id → id ≤ 32 → (done : SecondNode × Effects)
      → done ≡ frozen_ended n id g (held id n.frozen) → s'.at x ≡ second_place done.0 id line told' → Follows s s' x done.1.sends → IsOrdered u r id s → IsOrdered u r id s'
  end_forwards payloads' g is fr had alone small some most done took after follows ordered = by (fr.tunnel.g == g) refl
    where
      none : sdu_of r.est id f ≡ None
      none = ap (sdu_of r.est id) is

      took_it : (t : Bool) → (fr.tunnel.g == g) ≡ t
          → done ≡ (let d = if◌then◌else◌ {A = Option Frozen × List Send} t (None, forward_end fr.tunnel) (Some fr, []) in (record n { frozen = holding id d.0 n.frozen }, record { notes = []; sends = d.1 }))
      took_it t same =
          took ∙ ap (frozen_ended n id g) had
          ∙ ap (λ b. (let d = if◌then◌else◌ {A = Option Frozen × List Send} b (None, forward_end fr.tunnel) (Some fr, []) in (record n { frozen = holding id d.0 n.frozen }, record { notes = []; sends = d.1 }))) same

      rest : (s'.at x).line ≡ line
      rest = ap (λ (p : Place). p.line) after

      one : (a b : Frozen) → Some a ≡ Some b → a ≡ b
      one a b same = cc

      differ : None ≡ Some fr → ⊥
      differ bad = cc

      ended_then : (fr.tunnel.g == g) ≡ true → (v : Submitted) (later : List (List ℕ)) (tx : Sender) (h : ℕ) → ArePayloads v → (is_same_node x r.anchor ≡ false) ⊎ (r.g < h) → IsForwarding tx r id (s.at x) x h
          → IsFront v (sdus_of r.est id (s.at x).line ++ later) false tx → HasForwarded v later r id s s' x h tx
      ended_then ours v later tx h goods path w front =
          let at : w.frozen ≡ fr = one w.frozen fr (sym w.there ∙ frozen_is ∙ had) in
          let g_is : fr.tunnel.g ≡ h = ap (λ (k : Frozen). k.tunnel.g) (sym at) ∙ w.g_is in
          let id_is : fr.tunnel.id ≡ id = ap (λ (k : Frozen). k.tunnel.id) (sym at) ∙ w.id_is in
          let next : fr.tunnel.next ≡ length (forwarded_by tx) = ap (λ (k : Frozen). k.tunnel.next) (sym at) ∙ w.next in
          let g_here : g ≡ h = sym (eqb-true fr.tunnel.g g ours) ∙ g_is in
          let known : g ≤ r.g = subst (IsUpto id r.g) is (subst (AllByRecursion (IsUpto id r.g)) line_is w.known).0 refl in
          let elsewhere : is_same_node x r.anchor ≡ false = elim path [ inl off ↦ off | inr older' ↦ absurd (omega (arith, known, older', g_here)) ] in
          let ends = subst (EndsLine r.est id h) line_is (w.ends elsewhere) in
          let empty : sdus_of r.est id line ≡ [] = ends.0 (ap (is_end_of id h) is ∙ ap (λ b. b && (g == h)) (eq-eqb id id refl) ∙ eq-eqb g h g_here) in
          let few = forwarded_few v (sdus_of r.est id (s.at x).line ++ later) false tx front in
          let sends_are : done.1.sends ≡ forward_end fr.tunnel = ap (λ (e : SecondNode × Effects). e.1.sends) (took_it true ours) in
          let said = end_says tx true h id (subst (λ k. k < 2 ^ 24) g_is small) some most fr.tunnel g_is id_is refl next few in
          record {
            after = tx;
            closed = true;
            front = subst (λ l. IsFront v (sdus_of r.est id l ++ later) false tx) (sym rest)
                (subst (λ xs. IsFront v (xs ++ later) false tx) (ap (sdus_of r.est id) line_is ∙ ap (λ o. cons_option o (sdus_of r.est id line)) none) front);
            frozen = (ap (λ (p : Place). p.frozen) after ∙ ap (λ (e : SecondNode × Effects). held id e.0.frozen) (took_it true ours) ∙ alone, ap (sdus_of r.est id) rest ∙ empty, elsewhere);
            longer = later_closed tx;
            same_n = refl;
            next = refl;
            low_is = refl;
            flights = λ all l. follows.flights (IsOfSender tx true h id)
                (subst (AllByRecursion (λ (k : Send). IsOfSender tx true h id k.1)) (sym sends_are)
                (each_weaker (λ (k : Send). SaysOnlyOf tx true h id k.1) (λ (k : Send). IsOfSender tx true h id k.1) (λ k. only_of tx true h id k.1) (forward_end fr.tunnel) said)) l
                (each_weaker (IsOfSender tx false h id) (IsOfSender tx true h id) (λ k. of_later tx tx false true h id k (later_closed tx) refl) (s.flights l) (all l));
          }

      by : (t : Bool) → (fr.tunnel.g == g) ≡ t → IsOrdered u r id s'
      by true ours =
          forwards_ordered u r id s s' payloads' x
          (record {
            others = follows.others;
            unsettled = follows.unsettled;
            anchor = ap (λ (p : Place). p.anchor) after ∙ ap (λ (d : SecondNode × Effects). option_map (λ (k : Fed). k.anchor) (held id d.0.anchors)) (took_it true ours) ∙ sym anchor_is;
            had = λ no'. differ (sym no' ∙ frozen_is ∙ had);
            after = ended_then ours;
            told = λ v tx ty same. window_told r.est id s s' x done.1.sends follows v tx ty (omega (arith, same))
                (subst (λ (d : SecondNode × Effects). AllByRecursion (λ (k : Send). IsTold r.est id (low ty) k.1) d.1.sends) (sym (took_it true ours)) (tt, (tt, tt)));
          }) ordered
      by false other =
          passes done (ap (λ (d : SecondNode × Effects). held id d.0.anchors) (took_it false other)) (ap (λ (d : SecondNode × Effects). held id d.0.frozen) (took_it false other) ∙ held-same id fr n.frozen ∙ sym had) after follows
          (λ most'. subst (λ (d : SecondNode × Effects). SaysLittle r.est id most' d.1.sends) (sym (took_it false other)) (record { silent = tt; told = tt })) none ordered

  -- ---- whatever it is

  -- all that the node has is of small generations and of identities, and of each at most one is frozen
  pub record HasSmall : Type 0 where
    pub anchors : (k : ℕ) (y : Fed) → held k n.anchors ≡ Some y → IsSmall (setup_at y.anchor)
    pub frozen : (k : ℕ) (fr : Frozen) → held k n.frozen ≡ Some fr → (fr.tunnel.id ≡ k) × (1 ≤ k) × (k ≤ 32) × (fr.tunnel.g < 2 ^ 24)
    pub alone : (k : ℕ) → held k (holding k None n.frozen) ≡ None

  module _ (payloads : ArePayloads u) (few : HasSmall) (done : SecondNode × Effects) (after : s'.at x ≡ second_place done.0 id line told') (follows : Follows s s' x done.1.sends) (ordered : IsOrdered u r id s) where
    -- nothing is done
    idle_ordered : done ≡ (n, quiet) → sdu_of r.est id f ≡ None → IsOrdered u r id s'
    idle_ordered is none =
        passes done (ap (λ (d : SecondNode × Effects). held id d.0.anchors) is) (ap (λ (d : SecondNode × Effects). held id d.0.frozen) is) after follows
        (λ most. subst (λ (d : SecondNode × Effects). SaysLittle r.est id most d.1.sends) (sym is) (record { silent = tt; told = tt })) none ordered

    -- the bearer was dropped here
    dropped_on : held id done.0.anchors ≡ held id n.anchors → ((z : Node) → (s.at z).anchor ≡ None) → s.unsettled ≡ true → IsOrdered u r id s'
    dropped_on same none unsettled = is_dropped (λ z. by z (same_or x z)) (follows.unsettled ∙ unsettled)
      where
        by : (z : Node) → (x ≡ z) ⊎ (is_same_node x z ≡ false) → (s'.at z).anchor ≡ None
        by z (inl here') = subst (λ k. (s'.at k).anchor ≡ None) here' (ap (λ (p : Place). p.anchor) after ∙ ap (λ o. option_map (λ (y : Fed). y.anchor) o) same ∙ sym anchor_is ∙ none x)
        by z (inr off) = ap (λ (p : Place). p.anchor) (follows.others z off) ∙ none z

    anchor_of_fed : (y : Fed) → held id n.anchors ≡ Some y → (s.at x).anchor ≡ Some y.anchor
    anchor_of_fed y had = anchor_is ∙ ap (λ o. option_map (λ (k : Fed). k.anchor) o) had

    some_none : {X : Type 0} (t : AnchorState) → (s.at x).anchor ≡ Some t → (s.at x).anchor ≡ None → X
    some_none t one two = absurd (not_none t (s.at x).anchor one two)

    none_first : sdus_of r.est id (s.at x).line ≡ [] → sdu_of r.est id f ≡ None
    none_first none = by (sdu_of r.est id f) (sdus_of r.est id line) (sym (ap (sdus_of r.est id) line_is) ∙ none)
      where
        by : (o : Option (List ℕ)) (ps : List (List ℕ)) → cons_option o ps ≡ [] → o ≡ None
        by None ps is = refl
        by (Some p) ps is = absurd cc

    frozen_some : {X : Type 0} (fr : Frozen) → held id n.frozen ≡ Some fr → (s.at x).frozen ≡ None → X
    frozen_some fr one two = absurd (let bad : Some fr ≡ None = sym one ∙ sym frozen_is ∙ two in differ bad)
      where
        differ : Some fr ≡ None → ⊥
        differ bad = cc

    frozen_none : {X : Type 0} (fr : Frozen) → held id n.frozen ≡ None → (s.at x).frozen ≡ Some fr → X
    frozen_none fr one two = absurd (let bad : Some fr ≡ None = sym two ∙ frozen_is ∙ one in differ bad)
      where
        differ : Some fr ≡ None → ⊥
        differ bad = cc

    -- an SDU of this identity, where nothing forwards it
    fed_sdu : (g : ℕ) (payload : List ℕ) → f ≡ flight.Sdu id g payload → done ≡ fed_took c n id g payload (held id n.anchors) → held id n.frozen ≡ None → IsOrdered u r id s'
    fed_sdu g payload is took unfrozen = by (held id n.anchors) refl (has_at u r id s x ordered)
      where
        nothing_took : held id n.anchors ≡ None → done ≡ (n, quiet)
        nothing_took none = took ∙ ap (fed_took c n id g payload) none

        by_state : (y : Fed) (t : AnchorState) → held id n.anchors ≡ Some y → y.anchor ≡ t → HasOf r id s x → IsOrdered u r id s'
        by_state y (active_anchor a) had at (active_there b there frozen lines) = sdu_served g payload is y a had at (subst (λ t. IsSmall (setup_at t)) at (few.anchors id y had)) done took after follows lines ordered
        by_state y (waiting_anchor w) had at (waiting_there b there frozen lines) = sdu_kept g payload is y w had at done took after follows lines ordered
        by_state y (active_anchor a) had at (waiting_there w there frozen lines) = absurd (one_kind a w (s.at x).anchor (anchor_of_fed y had ∙ ap (λ t. Some t) at) there)
        by_state y (waiting_anchor w) had at (active_there a there frozen lines) = absurd (one_kind a w (s.at x).anchor there (anchor_of_fed y had ∙ ap (λ t. Some t) at))
        by_state y t had at (frozen_there none tx h w) = some_none y.anchor (anchor_of_fed y had) none
        by_state y t had at (nothing_there none frozen none') = some_none y.anchor (anchor_of_fed y had) none
        by_state y t had at (dropped none unsettled) = some_none y.anchor (anchor_of_fed y had) (none x)

        by : (p : Option Fed) → held id n.anchors ≡ p → HasOf r id s x → IsOrdered u r id s'
        by (Some y) had has = by_state y y.anchor had refl has
        by None had (active_there a there frozen lines) = some_none (active_anchor a) there (anchor_is ∙ ap (λ o. option_map (λ (k : Fed). k.anchor) o) had)
        by None had (waiting_there w there frozen lines) = some_none (waiting_anchor w) there (anchor_is ∙ ap (λ o. option_map (λ (k : Fed). k.anchor) o) had)
        by None had (frozen_there none tx h w) = frozen_none w.frozen unfrozen w.there
        by None had (nothing_there none frozen none') = idle_ordered (nothing_took had) (none_first none')
        by None had (dropped none unsettled) = dropped_on (ap (λ (d : SecondNode × Effects). held id d.0.anchors) (nothing_took had)) none unsettled

    -- one that came after the change, to a frozen anchor
    late_sdu : (g : ℕ) (payload : List ℕ) → f ≡ flight.Sdu id g payload → done ≡ fed_took c n id g payload (held id n.anchors) → (fr : Frozen) → held id n.frozen ≡ Some fr → nat_lt g fr.tunnel.g ≡ false → IsOrdered u r id s'
    late_sdu g payload is took fr had late = by (held id n.anchors) refl (has_at u r id s x ordered)
      where
        one : (a b : Frozen) → Some a ≡ Some b → a ≡ b
        one a b same = cc

        none_of : g < r.est → sdu_of r.est id (flight.Sdu id g payload) ≡ None
        none_of less = rw (eq-eqb id id refl, lt-leb r.est g less) refl

        by : (p : Option Fed) → held id n.anchors ≡ p → HasOf r id s x → IsOrdered u r id s'
        by p had' (active_there a there frozen lines) = frozen_some fr had frozen
        by p had' (waiting_there w there frozen lines) = frozen_some fr had frozen
        by p had' (nothing_there none frozen none') = frozen_some fr had frozen
        by (Some y) had' (frozen_there none tx h w) = some_none y.anchor (anchor_of_fed y had') none
        by (Some y) had' (dropped none unsettled) = some_none y.anchor (anchor_of_fed y had') (none x)
        by None had' (dropped none unsettled) = dropped_on (ap (λ (d : SecondNode × Effects). held id d.0.anchors) (took ∙ ap (fed_took c n id g payload) had')) none unsettled
        by None had' (frozen_there none tx h w) =
            let same : w.frozen ≡ fr = one w.frozen fr (sym w.there ∙ frozen_is ∙ had) in
            let g_is : fr.tunnel.g ≡ h = ap (λ (k : Frozen). k.tunnel.g) (sym same) ∙ w.g_is in
            let le = ltb-false g fr.tunnel.g late in
            let before : r.est ≤ g → g < h = subst (IsBefore r.est id h) is (subst (AllByRecursion (IsBefore r.est id h)) line_is w.before).0 refl in
            let older' : g < r.est = elim (cases_lt g r.est) [ inl less ↦ less | inr le' ↦ absurd (let less = before le' in omega (arith, le, less, g_is)) ] in
            idle_ordered (took ∙ ap (fed_took c n id g payload) had') (ap (sdu_of r.est id) is ∙ none_of older')

    -- an SDU of this identity
    own_sdu : (g : ℕ) (payload : List ℕ) → f ≡ flight.Sdu id g payload → done ≡ second_line c n (flight.Sdu id g payload) → IsOrdered u r id s'
    own_sdu g payload is took = by (held id n.frozen) refl
      where
        route : (b : Bool) → is_before_change g (held id n.frozen) ≡ b
            → done ≡ (if◌then◌else◌ {A = SecondNode × Effects} b (frozen_took n id g payload (held id n.frozen)) (fed_took c n id g payload (held id n.anchors)))
        route b same = took ∙ ap (λ k. if◌then◌else◌ {A = SecondNode × Effects} k (frozen_took n id g payload (held id n.frozen)) (fed_took c n id g payload (held id n.anchors))) same

        by_time : (fr : Frozen) → held id n.frozen ≡ Some fr → (b : Bool) → nat_lt g fr.tunnel.g ≡ b → IsOrdered u r id s'
        by_time fr had true early =
            let bounds = few.frozen id fr had in
            sdu_forwards payloads g payload is fr had bounds.3 bounds.1 bounds.2 done (route true (ap (is_before_change g) had ∙ early)) after follows ordered
        by_time fr had false late = late_sdu g payload is (route false (ap (is_before_change g) had ∙ late)) fr had late

        by : (o : Option Frozen) → held id n.frozen ≡ o → IsOrdered u r id s'
        by None had = fed_sdu g payload is (route false (ap (is_before_change g) had)) had
        by (Some fr) had = by_time fr had (nat_lt g fr.tunnel.g) refl

    -- an end of this identity's line
    own_end : (g : ℕ) → f ≡ flight.End id g → done ≡ second_line c n (flight.End id g) → IsOrdered u r id s'
    own_end g is took = by (held id n.frozen) refl
      where
        route : (b : Bool) → is_some (held id n.frozen) ≡ b → done ≡ (if◌then◌else◌ {A = SecondNode × Effects} b (frozen_ended n id g (held id n.frozen)) (fed_ended n id g (held id n.anchors)))
        route b same = took ∙ ap (λ k. if◌then◌else◌ {A = SecondNode × Effects} k (frozen_ended n id g (held id n.frozen)) (fed_ended n id g (held id n.anchors))) same

        by_state : (y : Fed) (t : AnchorState) → held id n.anchors ≡ Some y → y.anchor ≡ t → done ≡ fed_ended n id g (held id n.anchors) → IsOrdered u r id s'
        by_state y (active_anchor a) had at ends = end_noted g is y a had at done ends after follows ordered
        by_state y (waiting_anchor w) had at ends = end_unheard g is y w had at done ends after follows ordered

        by_fed : (p : Option Fed) → held id n.anchors ≡ p → done ≡ fed_ended n id g (held id n.anchors) → IsOrdered u r id s'
        by_fed None had ends = idle_ordered (ends ∙ ap (fed_ended n id g) had) (ap (sdu_of r.est id) is)
        by_fed (Some y) had ends = by_state y y.anchor had refl ends

        by : (o : Option Frozen) → held id n.frozen ≡ o → IsOrdered u r id s'
        by None had = by_fed (held id n.anchors) refl (route false (ap is_some had))
        by (Some fr) had = let bounds = few.frozen id fr had in end_forwards payloads g is fr had (few.alone id) bounds.3 bounds.1 bounds.2 done (route true (ap is_some had)) after follows ordered

    -- ---- for another identity

    -- a packet of another bearer's downlink tunnel
    packet_else : (fr : Frozen) (i : ℕ) → (i == id) ≡ false → held i n.frozen ≡ Some fr → (p : Content) → p.teid ≡ teid fr.tunnel.g fr.tunnel.id 1 → IsSilentOf id (flight.Tun None (spelling p))
    packet_else fr i apart had p is j h load says named =
        let bounds = few.frozen i fr had in
        let most : fr.tunnel.id ≤ 32 = subst (λ k. k ≤ 32) (sym bounds.0) bounds.2 in
        let some : 1 ≤ fr.tunnel.id = subst (λ k. 1 ≤ k) (sym bounds.0) bounds.1 in
        let fits : p.teid < 2 ^ 32 = subst (λ k. k < 2 ^ 32) (sym is) (teid_fits fr.tunnel.g fr.tunnel.id 1 bounds.3 most (omega arith)) in
        let said = says_forwarded p j h Dl load fits says in
        let identity : j ≡ fr.tunnel.id = sym said.id_is ∙ ap (λ k. 1 + k % 128 / 4) is ∙ id_in_teid fr.tunnel.g fr.tunnel.id 1 some most (omega arith) in
        absurd (eqb-false i id apart (sym bounds.0 ∙ sym identity ∙ named))

    frozen_says_else : (fr : Frozen) (i g : ℕ) (payload : List ℕ) → (i == id) ≡ false → held i n.frozen ≡ Some fr → SaysNothing r.est id (frozen_sdu_in fr g payload).1
    frozen_says_else fr i g payload apart had most = by (nat_le fr.since g && nat_lt g fr.tunnel.g)
      where
        by : (t : Bool) → SaysLittle r.est id most (if◌then◌else◌ {A = Frozen × List Send} t (record fr { tunnel = (forward_fresh fr.tunnel payload).0 }, (forward_fresh fr.tunnel payload).1) (fr, [])).1
        by true = record { silent = (packet_else fr i apart had (sdu_packet (teid fr.tunnel.g fr.tunnel.id 1) fr.tunnel.n fr.tunnel.next (None, payload)) refl, tt); told = (tt, tt) }
        by false = record { silent = tt; told = tt }

    frozen_took_else : (i g : ℕ) (payload : List ℕ) → (i == id) ≡ false → (o : Option Frozen) → held i n.frozen ≡ o → done ≡ frozen_took n i g payload o → sdu_of r.est id f ≡ None → IsOrdered u r id s'
    frozen_took_else i g payload apart None had took none = idle_ordered took none
    frozen_took_else i g payload apart (Some fr) had took none =
        passes done (ap (λ (d : SecondNode × Effects). held id d.0.anchors) took) (ap (λ (d : SecondNode × Effects). held id d.0.frozen) took ∙ held-other i id (frozen_sdu_in fr g payload).0 n.frozen apart) after follows
        (λ most. subst (λ (d : SecondNode × Effects). SaysLittle r.est id most d.1.sends) (sym took) (frozen_says_else fr i g payload apart had most)) none ordered

    fed_quiet : (y : Fed) (g : ℕ) (payload : List ℕ) → IsSmall (setup_at y.anchor) → AllByRecursion (λ (k : Send). IsQuiet k.1) (sdu_in c y g payload).1.sends
    fed_quiet y g payload small = by (nat_lt g y.since)
      where
        of_state : (t : AnchorState) → IsSmall (setup_at t) → AllByRecursion (λ (k : Send). IsQuiet k.1) (submit c t payload).1.sends
        of_state (active_anchor a) small' = (submit_served c a small' payload).silent
        of_state (waiting_anchor w) small' = tt

        by : (t : Bool) → AllByRecursion (λ (k : Send). IsQuiet k.1) (if◌then◌else◌ {A = Fed × AnchorOut} t (y, silent) (record y { anchor = (submit c y.anchor payload).0 }, (submit c y.anchor payload).1)).1.sends
        by true = tt
        by false = of_state y.anchor small

    fed_took_else : (i g : ℕ) (payload : List ℕ) → (i == id) ≡ false → (p : Option Fed) → held i n.anchors ≡ p → done ≡ fed_took c n i g payload p → sdu_of r.est id f ≡ None → IsOrdered u r id s'
    fed_took_else i g payload apart None had took none = idle_ordered took none
    fed_took_else i g payload apart (Some y) had took none =
        let d = sdu_in c y g payload in
        passes done (ap (λ (k : SecondNode × Effects). held id k.0.anchors) took ∙ held-other i id d.0 n.anchors apart) (ap (λ (k : SecondNode × Effects). held id k.0.frozen) took) after follows
        (λ most. subst (λ (k : SecondNode × Effects). SaysLittle r.est id most k.1.sends) (sym took)
        (effects_say r.est id most (name_of n) i (setup_at d.0.anchor).g d.1 (fed_quiet y g payload (few.anchors i y had)) (λ k low_is named. absurd (eqb-false i id apart named)))) none ordered

    other_sdu : (i g : ℕ) (payload : List ℕ) → (i == id) ≡ false → f ≡ flight.Sdu i g payload → done ≡ second_line c n (flight.Sdu i g payload) → IsOrdered u r id s'
    other_sdu i g payload apart is took = by (is_before_change g (held i n.frozen)) refl
      where
        none : sdu_of r.est id f ≡ None
        none = ap (sdu_of r.est id) is ∙ ap (λ b. if◌then◌else◌ {A = Option (List ℕ)} (b && nat_le r.est g) (Some payload) None) apart

        by : (b : Bool) → is_before_change g (held i n.frozen) ≡ b → IsOrdered u r id s'
        by true same =
            frozen_took_else i g payload apart (held i n.frozen) refl
            (took ∙ ap (λ k. if◌then◌else◌ {A = SecondNode × Effects} k (frozen_took n i g payload (held i n.frozen)) (fed_took c n i g payload (held i n.anchors))) same) none
        by false same =
            fed_took_else i g payload apart (held i n.anchors) refl
            (took ∙ ap (λ k. if◌then◌else◌ {A = SecondNode × Effects} k (frozen_took n i g payload (held i n.frozen)) (fed_took c n i g payload (held i n.anchors))) same) none

    frozen_ended_else : (i g : ℕ) → (i == id) ≡ false → (o : Option Frozen) → held i n.frozen ≡ o → done ≡ frozen_ended n i g o → sdu_of r.est id f ≡ None → held id (holding i None n.frozen) ≡ held id n.frozen → IsOrdered u r id s'
    frozen_ended_else i g apart None had took none gone = idle_ordered took none
    frozen_ended_else i g apart (Some fr) had took none gone = by (fr.tunnel.g == g) refl
      where
        took_it : (t : Bool) → (fr.tunnel.g == g) ≡ t
            → done ≡ (let d = if◌then◌else◌ {A = Option Frozen × List Send} t (None, forward_end fr.tunnel) (Some fr, []) in (record n { frozen = holding i d.0 n.frozen }, record { notes = []; sends = d.1 }))
        took_it t same =
            took ∙ ap (λ b. (let d = if◌then◌else◌ {A = Option Frozen × List Send} b (None, forward_end fr.tunnel) (Some fr, []) in (record n { frozen = holding i d.0 n.frozen }, record { notes = []; sends = d.1 }))) same

        by : (t : Bool) → (fr.tunnel.g == g) ≡ t → IsOrdered u r id s'
        by true ours =
            passes done (ap (λ (d : SecondNode × Effects). held id d.0.anchors) (took_it true ours)) (ap (λ (d : SecondNode × Effects). held id d.0.frozen) (took_it true ours) ∙ gone) after follows
            (λ most. subst (λ (d : SecondNode × Effects). SaysLittle r.est id most d.1.sends) (sym (took_it true ours))
            (record {
              silent = (packet_else fr i apart had (total_packet (teid fr.tunnel.g fr.tunnel.id 1) fr.tunnel.next) refl, (packet_else fr i apart had (end_marker (teid fr.tunnel.g fr.tunnel.id 1)) refl, tt));
              told = (tt, (tt, tt));
            })) none ordered
        by false other =
            passes done (ap (λ (d : SecondNode × Effects). held id d.0.anchors) (took_it false other)) (ap (λ (d : SecondNode × Effects). held id d.0.frozen) (took_it false other) ∙ held-other i id fr n.frozen apart) after follows
            (λ most. subst (λ (d : SecondNode × Effects). SaysLittle r.est id most d.1.sends) (sym (took_it false other)) (record { silent = tt; told = tt })) none ordered

    fed_ended_else : (i g : ℕ) → (i == id) ≡ false → (p : Option Fed) → done ≡ fed_ended n i g p → sdu_of r.est id f ≡ None → IsOrdered u r id s'
    fed_ended_else i g apart None took none = idle_ordered took none
    fed_ended_else i g apart (Some y) took none =
        passes done (ap (λ (d : SecondNode × Effects). held id d.0.anchors) took ∙ held-other i id (end_in y g y.anchor) n.anchors apart) (ap (λ (d : SecondNode × Effects). held id d.0.frozen) took) after follows
        (λ most. subst (λ (d : SecondNode × Effects). SaysLittle r.est id most d.1.sends) (sym took) (record { silent = tt; told = tt })) none ordered

    other_end : (i g : ℕ) → (i == id) ≡ false → f ≡ flight.End i g → done ≡ second_line c n (flight.End i g) → held id (holding i None n.frozen) ≡ held id n.frozen → IsOrdered u r id s'
    other_end i g apart is took gone = by (is_some (held i n.frozen)) refl
      where
        route : (b : Bool) → is_some (held i n.frozen) ≡ b → done ≡ (if◌then◌else◌ {A = SecondNode × Effects} b (frozen_ended n i g (held i n.frozen)) (fed_ended n i g (held i n.anchors)))
        route b same = took ∙ ap (λ k. if◌then◌else◌ {A = SecondNode × Effects} k (frozen_ended n i g (held i n.frozen)) (fed_ended n i g (held i n.anchors))) same

        by : (b : Bool) → is_some (held i n.frozen) ≡ b → IsOrdered u r id s'
        by true same = frozen_ended_else i g apart (held i n.frozen) refl (route true same) (ap (sdu_of r.est id) is) gone
        by false same = fed_ended_else i g apart (held i n.anchors) (route false same) (ap (sdu_of r.est id) is)

    -- ---- all of it

    -- whatever stands first on the line to a secondary node, and whatever the node has of the bearer: once the node has taken it, the
    -- submissions that have no COUNT yet are where they are to be, in their order
    pub line_ordered : done ≡ second_line c n f → IsOrdered u r id s'
    line_ordered took = by f refl
      where
        by_sdu : (i g : ℕ) (payload : List ℕ) → f ≡ flight.Sdu i g payload → (b : Bool) → (i == id) ≡ b → IsOrdered u r id s'
        by_sdu i g payload is true same =
            let mine : f ≡ flight.Sdu id g payload = is ∙ ap (λ k. flight.Sdu k g payload) (eqb-true i id same) in
            own_sdu g payload mine (took ∙ ap (second_line c n) mine)
        by_sdu i g payload is false apart = other_sdu i g payload apart is (took ∙ ap (second_line c n) is)

        by_end : (i g : ℕ) → f ≡ flight.End i g → (b : Bool) → (i == id) ≡ b → IsOrdered u r id s'
        by_end i g is true same =
            let mine : f ≡ flight.End id g = is ∙ ap (λ k. flight.End k g) (eqb-true i id same) in
            own_end g mine (took ∙ ap (second_line c n) mine)
        by_end i g is false apart = other_end i g apart is (took ∙ ap (second_line c n) is) (gone_other i id n.frozen apart)

        by : (k : Flight) → f ≡ k → IsOrdered u r id s'
        by (flight.Sdu i g payload) is = by_sdu i g payload is (i == id) refl
        by (flight.End i g) is = by_end i g is (i == id) refl
        by (flight.Told i g count) is = idle_ordered (took ∙ ap (second_line c n) is) (ap (sdu_of r.est id) is)
        by (flight.Air i g num tag pdu) is = idle_ordered (took ∙ ap (second_line c n) is) (ap (sdu_of r.est id) is)
        by (flight.Ack i g num) is = idle_ordered (took ∙ ap (second_line c n) is) (ap (sdu_of r.est id) is)
        by (flight.Tun tag packet) is = idle_ordered (took ∙ ap (second_line c n) is) (ap (sdu_of r.est id) is)
        by (flight.Ctl q) is = idle_ordered (took ∙ ap (second_line c n) is) (ap (sdu_of r.est id) is)
