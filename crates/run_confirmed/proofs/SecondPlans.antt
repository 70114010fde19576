-- A secondary node carries a plan out: what it sets up has an empty story.
use Rattle.std.proofs.Common.{◌≡◌, ℕ, ◌<◌, ◌^◌, true, false, Bool, List, [], ◌∷◌, Option, Some, None, map, refl, sym, ap, ◌∙◌, subst, inl, inr}
use Rattle.std.specs.Prelude.{if◌then◌else◌, not}
use Rattle.std.specs.List.{AllByRecursion}
use Rattle.std.proofs.lemmas.Bool.{and_parts, cases_Bool}
use Rattle.dc_base.specs.Nodes.{is_same_node}
use Rattle.dc_base.specs.Records.{item_id}
use Rattle.dc_base.specs.declared.nodes.Alg.{Alg}
use Rattle.dc_base.specs.declared.nodes.Node.{Node}
use Rattle.dc_base.specs.declared.nodes.Node.TheVariants.{T}
use Rattle.dc_base.specs.declared.nodes.Shape.{Shape}
use Rattle.dc_base.specs.declared.numbers.SnLen.{SnLen}
use Rattle.dc_base.specs.declared.records.Item.{Item}
use Rattle.dc_base.specs.declared.records.Item.TheVariants as item
use Rattle.dc_base.specs.declared.records.Plan.{Plan}
use Rattle.transcript.proofs.OnEach.{each_append}
use Rattle.nr_u.specs.declared.tunnel.outbound.Sent.{Sent}
use Rattle.pdcp_tx.proofs.Entries.{in_window-none}
use Rattle.node_rules.specs.Anchor.{Active, AnchorState, active_anchor, fresh, renew, setup_at, waiting, waiting_anchor}
use Rattle.node_rules.specs.Effects.{in_turn}
use Rattle.node_rules.specs.Feed.{Fed, has_ended}
use Rattle.node_rules.specs.Held.{held, holding}
use Rattle.node_rules.specs.Host.{new_host}
use Rattle.node_rules.specs.Parts.{host_at, moved_part, set_part}
use Rattle.node_rules.specs.Places.{anchor_at, has_leg_at, is_host_at}
use Rattle.node_rules.specs.SecondPlan.{beginning, frozen_active, frozen_there, renewed_active, renewed_there, second_item, second_part}
use Rattle.node_rules.specs.Secondary.{SecondNode, active_in, name_of}
use Rattle.node_rules.specs.Setup.{Setup, new_legs}
use Rattle.node_rules.specs.declared.inputs.Effects.{Effects}
use Rattle.node_rules.specs.declared.parts.Part.{Part}
use Rattle.node_rules.specs.declared.parts.Part.TheVariants.{Awaits as awaits, Drops as drops, Establishes as establishes, HandsOver as hands_over, HasNoAnchor as has_no_anchor, Renews as renews}
use Rattle.run_confirms.specs.Anchors.{as_sent}
use Rattle.run_confirms.specs.States.{StateSent}
use Rattle.run_confirms.proofs.Adopting.{fresh_sent, renew_sent, waiting_sent}
use Rattle.run_confirms.proofs.Hosts.{host_new}
use Rattle.run_pairs.proofs.Replies.{same_node}
use Rattle.run_senders.specs.Holders.{IfThere}
use Rattle.run_confirmed.specs.Flights.{IsTrueSend}
use Rattle.run_confirmed.specs.Nodes.{IsNameable, IsAnchorOf, IsHostOf, IsSecondOf, IsSteady}
use Rattle.run_confirmed.specs.Plans.{IsLaidOut, SetsAsLaidOut}
use Rattle.run_confirmed.specs.Stories.{IsInOrder, IsNew, Layout, ReceivedBy, Stories, fitting}
use Rattle.run_confirmed.proofs.Asides.{freeze_true}
use Rattle.run_confirmed.proofs.Held.{set_ascends, set_so}
use Rattle.run_confirmed.proofs.Seconds.{put_fed}
use Rattle.run_confirmed.proofs.Steps.{itself}

-- ---- what is set up

not_true : (b : Bool) → not b ≡ true → b ≡ false
not_true true is = absurd (let bad : false ≡ true = is in cc)
not_true false is = refl

-- a node has the anchor from an item on
abbrev pub takes_anchor : Part → Bool
takes_anchor establishes = true
takes_anchor renews = true
takes_anchor awaits = true
takes_anchor (hands_over to) = false
takes_anchor drops = false
takes_anchor has_no_anchor = false

-- then it is the node of the anchor
pub part_home : (x new : Node) (old : Option Node) → takes_anchor (set_part x new old) ≡ true → is_same_node x new ≡ true
part_home x new None = by (is_same_node x new)
  where
    by : (b : Bool) → takes_anchor (if b then establishes else has_no_anchor) ≡ true → b ≡ true
    by true is = refl
    by false is = absurd (let bad : false ≡ true = is in cc)
part_home x new (Some old) = by (is_same_node x old) (is_same_node x new)
  where
    by : (a b : Bool) → takes_anchor (moved_part new a b) ≡ true → b ≡ true
    by true true is = refl
    by true false is = absurd (let bad : false ≡ true = is in cc)
    by false true is = refl
    by false false is = absurd (let bad : false ≡ true = is in cc)

module _ (layout : Layout) (x : Node) (stories : Stories) (p : Plan) (new : IsNew layout x stories p.g) where
  -- a leg host of the plan
  pub host_set : (id : ℕ) (n : SnLen) (first : ℕ) (shape : Shape) → IsLaidOut layout p id n first shape
      → IfThere (IsHostOf layout stories x id) (if is_host_at p.sec shape x then Some (new_host x (anchor_at p.sec shape) p.g id n) else None)
  host_set id n first shape laid =
      elim (cases_Bool (is_host_at p.sec shape x)) [
        | inl hosts ↦
            let host = laid.host x hosts in
            let away = not_true (is_same_node x (anchor_at p.sec shape)) (and_parts (has_leg_at p.sec shape x) (not (is_same_node x (anchor_at p.sec shape))) hosts).1 in
            rw hosts (record {
              same_id = refl;
              node = refl;
              host = host;
              apart = ap (is_same_node x) laid.home ∙ away;
              n = laid.same_n;
              has = host_new (fitting (stories id p.g).tunnel) (ReceivedBy (stories id p.g).rx) x (anchor_at p.sec shape) p.g id n;
              leg = sym ((new id).far (ap (is_same_node x) host ∙ itself x));
              named = laid.named;
            })
        | inr none ↦ rw none tt
      ]

  pub host_so : (i : Item) → SetsAsLaidOut layout p i → IfThere (IsHostOf layout stories x (item_id i)) (host_at x p i)
  host_so (item.Set id n first shape threshold policy key old) laid = host_set id n first shape laid
  host_so (item.Unset id) laid = tt

  -- a setup of the plan at the node of its anchor
  pub record IsSetHere (id : ℕ) (st : Setup) : Type 0 where
    pub same_id : st.id ≡ id
    pub node : st.node ≡ x
    pub g : st.g ≡ p.g
    pub home : layout.home id p.g ≡ x
    pub n : st.n ≡ layout.n id p.g
    pub small : st.first < 2 ^ 32
    pub named : IsNameable id p.g
    pub legs : (st.legs.mcg.pdus ≡ []) × (st.legs.scg.pdus ≡ [])

  -- an anchor of it that sent nothing
  anchor_so : (id : ℕ) (st : Setup) (a : AnchorState) → IsSetHere id st → setup_at a ≡ st → StateSent [] [] a → IsSteady a → IsAnchorOf layout stories x id a
  anchor_so id st a set is sent steady =
      let g_is : (setup_at a).g ≡ p.g = ap (λ (z : Setup). z.g) is ∙ set.g in
      let here : is_same_node x (layout.home id p.g) ≡ true = ap (is_same_node x) set.home ∙ itself x in
      let own = (new id).own here in
      let tunnel = (new id).tunnel here in
      record {
        same_id = ap (λ (z : Setup). z.id) is ∙ set.same_id;
        node = ap (λ (z : Setup). z.node) is ∙ set.node;
        home = ap (layout.home id) g_is ∙ set.home;
        n = ap (λ (z : Setup). z.n) is ∙ set.n ∙ ap (layout.n id) (sym g_is);
        sent = subst (λ (k : ℕ). StateSent (stories id k).own (stories id k).tunnel a) (sym g_is)
            (subst (λ (o : List (Option ℕ)). StateSent o (stories id p.g).tunnel a) (sym own) (subst (λ (t : List Sent). StateSent [] t a) (sym tunnel) sent));
        steady = steady;
        named = subst (IsNameable id) (sym g_is) set.named;
      }

  pub fresh_so : (id : ℕ) (st : Setup) → IsSetHere id st → IsAnchorOf layout stories x id (fresh st)
  fresh_so id st set =
      anchor_so id st (fresh st) set refl (fresh_sent st (ap (map as_sent) set.legs.0, ap (map as_sent) set.legs.1)) (record { window = in_window-none st.n st.first; small = set.small })

  pub waiting_so : (id : ℕ) (st : Setup) → IsSetHere id st → IsAnchorOf layout stories x id (waiting st)
  waiting_so id st set = anchor_so id st (waiting st) set refl (waiting_sent st (ap (map as_sent) set.legs.0, ap (map as_sent) set.legs.1)) tt

  pub renew_so : (id : ℕ) (st : Setup) (a : Active) → IsSetHere id st → IsSteady (active_anchor a) → IsAnchorOf layout stories x id (active_anchor (renew a st))
  renew_so id st a set steady =
      anchor_so id st (active_anchor (renew a st)) set refl (renew_sent a st (ap (map as_sent) set.legs.0, ap (map as_sent) set.legs.1)) (record { window = steady.window; small = steady.small })

-- ---- an item

module _ (layout : Layout) (x : Node) (other : is_same_node x T ≡ false) (stories : Stories) (order : (id g : ℕ) → IsInOrder (stories id g)) (p : Plan) (new : IsNew layout x stories p.g) where
  -- what a node has, and what comes of a step that adds nothing
  abbrev Has : SecondNode → Type 0
  Has s = IsSecondOf layout x stories s

  -- after it all that the node has is so by the same stories
  abbrev Stays : SecondNode × Effects → Type 0
  Stays done = Has done.0 × AllByRecursion (IsTrueSend layout stories) done.1.sends

  put : (s : SecondNode) (id : ℕ) (o : Option Fed) → IfThere (λ (f : Fed). IsAnchorOf layout stories x id f.anchor) o → Has s
      → Has (record s { anchors = holding id o s.anchors })
  put s id o here is = put_fed layout x other stories s id o here is

  renew_stays : (s : SecondNode) (id : ℕ) (st : Setup) (f : Fed) (a : AnchorState) → IsSetHere layout x stories p new id st → IsSteady a → Has s
      → Stays (renewed_active s id p.g st f (active_in a))
  renew_stays s id st f (waiting_anchor w) set steady is = (is, tt)
  renew_stays s id st f (active_anchor a) set steady is =
      (put s id (Some (record f { anchor = active_anchor (renew a st) })) (renew_so layout x stories p new id st a set steady) is, tt)

  freeze_stays : (s : SecondNode) (id : ℕ) (to : Node) (f : Fed) (a : AnchorState) → IsSteady a → Has s → Stays (frozen_active s id p.g to f (active_in a))
  freeze_stays s id to f (waiting_anchor w) steady is = (is, tt)
  freeze_stays s id to f (active_anchor a) steady is =
      let out = put s id None tt is in (
        record { name = out.name; anchors = out.anchors; hosts = out.hosts; anchors_ascend = out.anchors_ascend; hosts_ascend = out.hosts_ascend },
        (steady.small, freeze_true layout stories a to p.g (has_ended f.ended p.g)),
      )

  part_stays : (s : SecondNode) (st : Setup) (id : ℕ) (part : Part) → (takes_anchor part ≡ true → IsSetHere layout x stories p new id st) → Has s
      → Stays (second_part s p (Some st) id part)
  part_stays s st id establishes set is = (put s id (Some (beginning p.g (fresh st))) (fresh_so layout x stories p new id st (set refl)) is, tt)
  part_stays s st id renews set is = by (held id s.anchors) (is.anchors id)
    where
      by : (o : Option Fed) → IfThere (λ (f : Fed). IsAnchorOf layout stories x id f.anchor) o → Stays (renewed_there s id p.g (Some st) o)
      by None here = (is, tt)
      by (Some f) here = renew_stays s id st f f.anchor (set refl) here.steady is
  part_stays s st id awaits set is = (put s id (Some (beginning p.g (waiting st))) (waiting_so layout x stories p new id st (set refl)) is, tt)
  part_stays s st id (hands_over to) set is = by (held id s.anchors) (is.anchors id)
    where
      by : (o : Option Fed) → IfThere (λ (f : Fed). IsAnchorOf layout stories x id f.anchor) o → Stays (frozen_there s id p.g to o)
      by None here = (is, tt)
      by (Some f) here = freeze_stays s id to f f.anchor here.steady is
  part_stays s st id drops set is = (put s id None tt is, tt)
  part_stays s st id has_no_anchor set is = (is, tt)

  with_host : (s : SecondNode) (i : Item) → SetsAsLaidOut layout p i → Has s → Has (record s { hosts = holding (item_id i) (host_at (name_of s) p i) s.hosts })
  with_host s i laid is = record {
    name = is.name;
    anchors = is.anchors;
    hosts = set_so (λ k y. IsHostOf layout stories x k y) (item_id i) (host_at (name_of s) p i) s.hosts is.hosts_ascend
        (subst (λ (y : Node). IfThere (IsHostOf layout stories x (item_id i)) (host_at y p i)) (sym is.name) (host_so layout x stories p new i laid)) (λ k apart. is.hosts k);
    anchors_ascend = is.anchors_ascend;
    hosts_ascend = set_ascends (λ k y. IsHostOf layout stories x k y) (item_id i) (host_at (name_of s) p i) s.hosts is.hosts_ascend;
  }

  set_here : (id : ℕ) (n : SnLen) (first : ℕ) (shape : Shape) (threshold policy : ℕ) (alg : Alg) (key : List ℕ) (me : Node) → me ≡ x
      → IsLaidOut layout p id n first shape
      → is_same_node me (anchor_at p.sec shape) ≡ true
      → IsSetHere layout x stories p new id (record { node = me; sec = p.sec; g = p.g; id = id; n = n; first = first; alg = alg; key = key; legs = new_legs shape threshold policy })
  set_here id n first shape threshold policy alg key me name laid here = record {
    same_id = refl;
    node = name;
    g = refl;
    home = laid.home ∙ sym (same_node me (anchor_at p.sec shape) here) ∙ name;
    n = laid.same_n;
    small = laid.small;
    named = laid.named;
    legs = (refl, refl);
  }

  item_stays : (key : List ℕ) (s : SecondNode) (i : Item) → SetsAsLaidOut layout p i → Has s → Stays (second_item key p s i)
  item_stays key s (item.Set id n first shape threshold policy name old) laid is =
      let i = item.Set id n first shape threshold policy name old in
      let me = name_of s in
      let st : Setup = record { node = me; sec = p.sec; g = p.g; id = id; n = n; first = first; alg = s.alg; key = key; legs = new_legs shape threshold policy } in
      part_stays (record s { hosts = holding id (host_at me p i) s.hosts }) st id (set_part me (anchor_at p.sec shape) old)
      (λ takes. set_here id n first shape threshold policy s.alg key me is.name laid (part_home me (anchor_at p.sec shape) old takes)) (with_host s i laid is)
  item_stays key s (item.Unset id) laid is =
      let i = item.Unset id in
      let s' = record s { hosts = holding id (host_at (name_of s) p i) s.hosts } in
      (put s' id None tt (with_host s i laid is), tt)

  pub items_stay : (key : List ℕ) (s : SecondNode) (items : List Item) → AllByRecursion (SetsAsLaidOut layout p) items → Has s
      → Stays (in_turn (second_item key p) s items)
  items_stay key s [] laid is = (is, tt)
  items_stay key s (i ∷ items) laid is =
      let here = item_stays key s i laid.0 is in
      let rest = items_stay key (second_item key p s i).0 items laid.1 here.0 in
      (rest.0, each_append (IsTrueSend layout stories) (second_item key p s i).1.sends (in_turn (second_item key p) (second_item key p s i).0 items).1.sends here.1 rest.1)
