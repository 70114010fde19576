-- A step of the anchor of a secondary node, by what comes over the air or through a tunnel, or is asked of it, keeps the order of the
-- downlink.
use Rattle.std.proofs.Common.{Bool, List, None, Some, [], refl, sym, subst, ap, arith, ℕ, ◌++◌, ◌≡◌, ◌≤◌, ◌∙◌}
use Rattle.std.specs.List.{AllByRecursion}
use Rattle.std.specs.Option.{option_map}
use Rattle.std.proofs.lemmas.List.{append-nil}
use Rattle.dc_base.specs.declared.flights.Flight.{Flight}
use Rattle.dc_base.specs.declared.nodes.LinkId.{LinkId}
use Rattle.dc_base.specs.declared.nodes.Node.{Node}
use Rattle.pdcp_tx.specs.Sender.{Sender, low}
use Rattle.master_runs.proofs.Holding.{held-same}
use Rattle.node_rules.specs.Anchor.{Active, AnchorState, Waiting, active_anchor, setup_at, waiting_anchor}
use Rattle.node_rules.specs.Choices.{Send}
use Rattle.node_rules.specs.Feed.{Fed}
use Rattle.node_rules.specs.Held.{held}
use Rattle.node_rules.specs.Secondary.{SecondNode, anchored, fed_did, name_of}
use Rattle.node_rules.specs.declared.bearers.AnchorOut.{AnchorOut}
use Rattle.node_rules.specs.declared.commands.Row.{Row}
use Rattle.node_rules.specs.declared.inputs.Effects.{Effects}
use Rattle.run_receivers.specs.Submitted.{Submitted}
use Rattle.run_senders.specs.Holders.{IfThere}
use Rattle.run_ordered.specs.Anchors.{AnchorServes, AnchorWaits}
use Rattle.run_ordered.specs.Feeds.{AreUpto, IsLastLineOf, IsLineOf, IsSinceUpto, sdus_of}
use Rattle.run_ordered.specs.Forwarding.{IsBeforeFreeze, IsOfSender, IsQuiet}
use Rattle.run_ordered.specs.Fronts.{ArePayloads, HasFront}
use Rattle.run_ordered.specs.Orders.{IsOrdered, IsWindowOf, Place, Scene, second_place}
use Rattle.run_ordered.specs.Scenes.{AnchorTakes, Follows, HasRisen, IsWindowAt, KeepsLine, WaitsOn}
use Rattle.run_ordered.proofs.Handing.{receives_ordered}
use Rattle.run_ordered.proofs.Lines.{SaysLittle, alone_of, effects_say, window_of}
use Rattle.run_ordered.proofs.Scenes.{served_ordered, waits_ordered}

-- Low, where there is an entity
abbrev kind_low : AnchorState → ℕ
kind_low (waiting_anchor v) = 0
kind_low (active_anchor b) = low b.entity.tx

module _ (u : Submitted) (r : Row) (id : ℕ) (s s' : Scene) (x : Node) (n : SecondNode) (line told told' : List Flight) (here : s.at x ≡ second_place n id line told) (y : Fed) (had : held id n.anchors ≡ Some y) (out : AnchorState × AnchorOut)
    (done : SecondNode × Effects) (is_done : done ≡ fed_did n id (anchored y out)) (after : s'.at x ≡ second_place done.0 id line told') (follows : Follows s s' x done.1.sends) where
  z : Fed
  z = record y { anchor = out.0 }

  has : held id done.0.anchors ≡ Some (record y { anchor = out.0 })
  has = ap (λ (d : SecondNode × Effects). held id d.0.anchors) is_done ∙ held-same id (record y { anchor = out.0 }) n.anchors

  before : (s.at x).fed ≡ Some y
  before = ap (λ (p : Place). p.fed) here ∙ had

  now : (s'.at x).fed ≡ Some (record y { anchor = out.0 })
  now = ap (λ (p : Place). p.fed) after ∙ has

  same : (s'.at x).line ≡ (s.at x).line
  same = ap (λ (p : Place). p.line) after ∙ sym (ap (λ (p : Place). p.line) here)

  anchor_was : (s.at x).anchor ≡ Some y.anchor
  anchor_was = ap (λ (p : Place). p.anchor) here ∙ ap (λ o. option_map (λ (k : Fed). k.anchor) o) had

  anchor_is : (s'.at x).anchor ≡ Some out.0
  anchor_is = ap (λ (p : Place). p.anchor) after ∙ ap (λ o. option_map (λ (k : Fed). k.anchor) o) has

  -- its line is as it was
  keeps : KeepsLine r.est id (s.at x) (s'.at x)
  keeps = record {
    line = λ all. subst (IfThere (λ (k : Fed). IsLineOf r.est id k (s'.at x).line)) (sym now)
        (let l = subst (IfThere (λ (k : Fed). IsLineOf r.est id k (s.at x).line)) before all in
        subst (IsLineOf r.est id (record y { anchor = out.0 })) (sym same) (record { since = l.since; from = l.from }));
    upto = λ h all. subst (IsSinceUpto h) (sym now) (subst (IsSinceUpto h) before all);
    known = λ h all. subst (λ l. AreUpto id h l (s'.at x).fed) (sym same)
        (record { stand = all.stand; taken = subst (IfThere (λ (k : Fed). (j : ℕ) → k.ended ≡ Some j → j ≤ h)) (sym now) (subst (IfThere (λ (k : Fed). (j : ℕ) → k.ended ≡ Some j → j ≤ h)) before all.taken) });
    last = λ h all. subst (IfThere (λ (k : Fed). IsLastLineOf r.est id h k (s'.at x).line)) (sym now)
        (let l = subst (IfThere (λ (k : Fed). IsLastLineOf r.est id h k (s.at x).line)) before all in
        subst (IsLastLineOf r.est id h (record y { anchor = out.0 })) (sym same) (record { before = l.before; ends = l.ends; ended = l.ended }));
    frozen = ap (λ (p : Place). p.frozen) after ∙ ap (λ (d : SecondNode × Effects). held id d.0.frozen) is_done ∙ sym (ap (λ (p : Place). p.frozen) here);
  }

  says : (most : ℕ) → AllByRecursion (λ (k : Send). IsQuiet k.1) out.1.sends → ((k : ℕ) → out.1.low ≡ Some k → k ≤ most) → SaysLittle r.est id most done.1.sends
  says most quiet le =
      subst (λ (d : SecondNode × Effects). SaysLittle r.est id most d.1.sends) (sym is_done)
      (effects_say r.est id most (name_of n) id (setup_at out.0).g out.1 quiet (λ k low_is named. le k low_is))

  -- of an active anchor
  pub active_steps : (a : Active) → y.anchor ≡ active_anchor a → AnchorServes a [] out → IsOrdered u r id s → IsOrdered u r id s'
  active_steps a at serve ordered =
      let little = says (low serve.after.entity.tx) serve.silent serve.told in
      served_ordered u r id s s' x a serve.after
      (record {
        alone = alone_of r.est id s s' x done.1.sends follows little.silent;
        was = anchor_was ∙ ap (λ t. Some t) at;
        is = anchor_is ∙ ap (λ t. Some t) serve.is;
        line = keeps;
        front = λ v later front. subst (λ l. HasFront v (sdus_of r.est id l ++ later) serve.after) (sym same) (serve.front v (sdus_of r.est id (s.at x).line ++ later) front);
        told = λ v. window_of r.est id s s' x done.1.sends follows v a.entity.tx serve.after.entity.tx serve.rises little;
      }) ordered

  -- of one that waits on
  pub waiting_steps : (w : Waiting) → y.anchor ≡ waiting_anchor w → AnchorWaits w [] out → IsOrdered u r id s → IsOrdered u r id s'
  waiting_steps w at wait ordered =
      let none : (most : ℕ) → SaysLittle r.est id most done.1.sends = λ most. says most wait.silent_out (λ k low_is. absurd (no_low k (sym (ap (λ (o : AnchorOut). o.low) wait.out) ∙ low_is))) in
      waits_ordered u r id s s' x w wait.after
      (record {
        alone = alone_of r.est id s s' x done.1.sends follows (none 0).silent;
        was = anchor_was ∙ ap (λ t. Some t) at;
        is = anchor_is ∙ ap (λ t. Some t) wait.is;
        line = keeps;
        coming = ap (λ xs. xs ++ sdus_of r.est id (s'.at x).line) (wait.fresh ∙ append-nil w.fresh) ∙ ap (λ l. w.fresh ++ sdus_of r.est id l) same;
        same_g = wait.same_g;
        same_n = wait.same_n;
        transfer = wait.transfer;
        down = wait.down;
        told = λ v tx is. window_of r.est id s s' x done.1.sends follows v tx tx (omega arith) (none (low tx)) is;
      }) ordered
    where
      no_low : (k : ℕ) → None ≡ Some k → ⊥
      no_low k bad = cc

  -- of one to which something came that it waits for
  pub taking_steps : ArePayloads u → (w : Waiting) → y.anchor ≡ waiting_anchor w → (of : Sender → Bool → Type 0) (first : Type 0) → AnchorTakes w of first out
      → ((tx : Sender) (closed : Bool) → ((l : LinkId) → AllByRecursion (IsOfSender tx closed w.setup.g id) (s.flights l)) → of tx closed)
      → (((l : LinkId) → AllByRecursion (IsBeforeFreeze w.setup.g id) (s.flights l)) → first) → IsOrdered u r id s → IsOrdered u r id s'
  taking_steps payloads w at of first takes of_it first_it ordered =
      receives_ordered u r id s s' payloads x w out.0
      (record {
        alone = alone_of r.est id s s' x done.1.sends follows silent_out.silent;
        was = anchor_was ∙ ap (λ t. Some t) at;
        is = anchor_is;
        line = keeps;
        same = ap (sdus_of r.est id) same;
        before = λ all no_transfer nothing. waits_on (takes.waits (first_it all) no_transfer nothing);
        after = λ v old rest tx closed goods none all taking moving. takes.after v old rest tx closed goods none (of_it tx closed all) taking moving;
        told = λ v tx risen is. told_at v tx out.0 refl risen is;
      }) ordered
    where
      none_low : (t : Waiting) → out.0 ≡ waiting_anchor t → (k : ℕ) → out.1.low ≡ Some k → ⊥
      none_low t is k low_is = differ k (sym (takes.untold t is) ∙ low_is)
        where
          differ : (k : ℕ) → None ≡ Some k → ⊥
          differ k bad = cc

      by_kind : (t : AnchorState) → out.0 ≡ t → (most : ℕ) → ((b : Active) → out.0 ≡ active_anchor b → low b.entity.tx ≤ most) → SaysLittle r.est id most done.1.sends
      by_kind (waiting_anchor v) is most le = says most takes.silent_out (λ k low_is. absurd (none_low v is k low_is))
      by_kind (active_anchor b) is most le = says most takes.silent_out (λ k low_is. let few = takes.told b is k low_is in let more = le b is in omega arith)

      silent_out : SaysLittle r.est id (kind_low out.0) done.1.sends
      silent_out = by_kind out.0 refl (kind_low out.0) (λ b is. subst (λ t. low b.entity.tx ≤ kind_low t) (sym is) (omega arith))

      waits_on : AnchorWaits w [] out → (v : Waiting) × WaitsOn r.est id s s' x w v
      waits_on wait =
          let none : (most : ℕ) → SaysLittle r.est id most done.1.sends = λ most. says most wait.silent_out (λ k low_is. absurd (none_low wait.after wait.is k low_is)) in (
            wait.after,
            record {
              alone = alone_of r.est id s s' x done.1.sends follows (none 0).silent;
              was = anchor_was ∙ ap (λ t. Some t) at;
              is = anchor_is ∙ ap (λ t. Some t) wait.is;
              line = keeps;
              coming = ap (λ xs. xs ++ sdus_of r.est id (s'.at x).line) (wait.fresh ∙ append-nil w.fresh) ∙ ap (λ l. w.fresh ++ sdus_of r.est id l) same;
              same_g = wait.same_g;
              same_n = wait.same_n;
              transfer = wait.transfer;
              down = wait.down;
              told = λ v tx is. window_of r.est id s s' x done.1.sends follows v tx tx (omega arith) (none (low tx)) is;
            },
          )

      told_at : (v : Submitted) (tx : Sender) (t : AnchorState) → out.0 ≡ t → HasRisen tx t → IsWindowOf v r.est id s tx → IsWindowAt v r.est id s' tx t
      told_at v tx (waiting_anchor k) is risen told = window_of r.est id s s' x done.1.sends follows v tx tx (omega arith) (says (low tx) takes.silent_out (λ j low_is. absurd (none_low k is j low_is))) told
      told_at v tx (active_anchor b) is risen told = window_of r.est id s s' x done.1.sends follows v tx b.entity.tx risen (says (low b.entity.tx) takes.silent_out (takes.told b is)) told
