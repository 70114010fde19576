-- A secondary node that carries a plan out sends no PDU; what it has of the bearers then begins with nothing sent, if nothing of the
-- plan's generation was sent.
use Rattle.std.proofs.Common.{ℕ, ◌≡◌, ◌≤◌, ◌<◌, ◌==◌, Bool, true, false, List, [], ◌∷◌, Option, Some, None, refl, sym, ap, subst, ◌∙◌}
use Rattle.std.specs.Prelude.{if◌then◌else◌, not, ⊤, ◌&&◌, ◌^◌}
use Rattle.std.proofs.lemmas.Bool.{eq-eqb}
use Rattle.dc_base.specs.Links.{link}
use Rattle.dc_base.specs.Nodes.{is_same_node}
use Rattle.dc_base.specs.declared.flights.Flight.TheVariants as flight
use Rattle.dc_base.specs.declared.nodes.Class.TheVariants.{Ctl}
use Rattle.dc_base.specs.declared.nodes.KeyName.{KeyName}
use Rattle.dc_base.specs.declared.nodes.Node.{Node}
use Rattle.dc_base.specs.declared.nodes.Node.TheVariants.{M}
use Rattle.dc_base.specs.declared.nodes.Shape.{Shape}
use Rattle.dc_base.specs.declared.numbers.SnLen.{SnLen}
use Rattle.dc_base.specs.declared.records.Item.{Item}
use Rattle.dc_base.specs.declared.records.Item.TheVariants as item
use Rattle.dc_base.specs.declared.records.Plan.{Plan}
use Rattle.dc_base.specs.declared.records.Rec.TheVariants as rec
use Rattle.dc_base.specs.Records.{item_id}
use Rattle.node_rules.specs.Anchor.{Active, active_anchor, fresh, renew, setup_at, waiting}
use Rattle.node_rules.specs.Choices.{Send}
use Rattle.node_rules.specs.Feed.{Fed, freeze_fed, has_ended}
use Rattle.node_rules.specs.Held.{held, holding}
use Rattle.node_rules.specs.Host.{new_host}
use Rattle.node_rules.specs.Parts.{moved_part, set_part}
use Rattle.node_rules.specs.Places.{anchor_at, has_leg_at, is_host_at}
use Rattle.node_rules.specs.SecondPlan.{beginning, frozen_active, frozen_there, renewed_active, renewed_there, second_item, second_part}
use Rattle.node_rules.specs.Secondary.{SecondNode, active_in, name_of}
use Rattle.node_rules.specs.Setup.{Setup, new_legs, setup_of}
use Rattle.node_rules.specs.declared.inputs.Effects.{Effects}
use Rattle.node_rules.specs.declared.parts.Part.{Part}
use Rattle.node_rules.specs.declared.parts.Part.TheVariants.{Awaits as awaits, Drops as drops, Establishes as establishes, HandsOver as hands_over, HasNoAnchor as has_no_anchor, Renews as renews}
use Rattle.run_numbers.specs.Histories.{NoneOf}
use Rattle.run_numbers.specs.Records.{AreBearersPut, IsInRange, IsSecondPut, SecondGoes}
use Rattle.run_numbers.proofs.Bearers.{anchor_begins, anchor_ends, host_begins, host_ends}
use Rattle.run_numbers.proofs.Forwarding.{freeze_none}
use Rattle.run_numbers.proofs.Holding.{held_without, none_both, record_none}
use Rattle.run_numbers.proofs.Seconds.{fed_setup, idle, quiet_goes}

-- the node has an anchor of its own from then on
abbrev MakesAnchor : Part → Type 0
MakesAnchor establishes = ⊤
MakesAnchor renews = ⊤
MakesAnchor awaits = ⊤
MakesAnchor (hands_over to) = ⊥
MakesAnchor drops = ⊥
MakesAnchor has_no_anchor = ⊥

module _ (sent : List Send) (s : SecondNode) (put : IsSecondPut sent s) where
  -- with other anchors and leg hosts, and no PDU sent
  then_quiet : (done : SecondNode × Effects) → IsSecondPut sent done.0 → ((i h : ℕ) → NoneOf i h done.1.sends) → SecondGoes sent done
  then_quiet done is none = quiet_goes sent done.0 is done.0 done.1 refl refl none

  module _ (p : Plan) (setup : Setup) (id : ℕ) (named : setup.id ≡ id) (range : IsInRange setup) (mcg : setup.legs.mcg.pdus ≡ []) (scg : setup.legs.scg.pdus ≡ []) (none : NoneOf setup.id setup.g sent) where
    begins : (x : Fed) → setup_at x.anchor ≡ setup → held id s.hosts ≡ None → AreBearersPut fed_setup sent (holding id (Some x) s.anchors) s.hosts
    begins x is free =
        anchor_begins fed_setup sent s.anchors s.hosts put id x (ap (λ (u : Setup). u.id) is ∙ named) (subst IsInRange (sym is) range) (ap (λ (u : Setup). u.legs.mcg.pdus) is ∙ mcg) (ap (λ (u : Setup). u.legs.scg.pdus) is ∙ scg)
        (subst (λ (u : Setup). NoneOf u.id u.g sent) (sym is) none) (λ h at. absurd (let bad : None ≡ Some h = sym free ∙ at in cc))

    renewed_goes : (o : Option Fed) → held id s.hosts ≡ None → SecondGoes sent (renewed_there s id p.g (Some setup) o)
    renewed_goes None free = idle sent s put
    renewed_goes (Some x) free = by (active_in x.anchor)
      where
        by : (o : Option Active) → SecondGoes sent (renewed_active s id p.g setup x o)
        by None = idle sent s put
        by (Some a) = then_quiet (renewed_active s id p.g setup x (Some a)) (begins (record x { anchor = active_anchor (renew a setup) }) refl free) (λ i h l. refl)

    frozen_goes : (to : Node) (o : Option Fed) → SecondGoes sent (frozen_there s id p.g to o)
    frozen_goes to None = idle sent s put
    frozen_goes to (Some x) = by (active_in x.anchor)
      where
        by : (o : Option Active) → SecondGoes sent (frozen_active s id p.g to x o)
        by None = idle sent s put
        by (Some a) =
            then_quiet (frozen_active s id p.g to x (Some a)) (anchor_ends fed_setup sent s.anchors s.hosts put id)
            (λ i h.
            none_both i h ((link (name_of s) M Ctl, flight.Ctl (rec.Snst (freeze_fed x a to p.g).status)) ∷ []) (freeze_fed x a to p.g).sends
            (record_none (link (name_of s) M Ctl) (rec.Snst (freeze_fed x a to p.g).status) i h) (freeze_none i h a to p.g (has_ended x.ended p.g)))

    part_goes : (part : Part) → (MakesAnchor part → held id s.hosts ≡ None) → SecondGoes sent (second_part s p (Some setup) id part)
    part_goes establishes free = then_quiet (second_part s p (Some setup) id establishes) (begins (beginning p.g (fresh setup)) refl (free tt)) (λ i h l. refl)
    part_goes renews free = renewed_goes (held id s.anchors) (free tt)
    part_goes awaits free = then_quiet (second_part s p (Some setup) id awaits) (begins (beginning p.g (waiting setup)) refl (free tt)) (λ i h l. refl)
    part_goes (hands_over to) free = frozen_goes to (held id s.anchors)
    part_goes drops free = then_quiet (second_part s p (Some setup) id drops) (anchor_ends fed_setup sent s.anchors s.hosts put id) (λ i h l. refl)
    part_goes has_no_anchor free = idle sent s put

-- ---- an item

-- a node that is not the anchor's makes none
makes_none : (me new : Node) (old : Option Node) → is_same_node me new ≡ false → MakesAnchor (set_part me new old) → ⊥
makes_none me new None apart = by (is_same_node me new) apart
  where
    by : (b : Bool) → b ≡ false → MakesAnchor (if b then establishes else has_no_anchor) → ⊥
    by true is makes = absurd (let bad : true ≡ false = is in cc)
    by false is makes = makes
makes_none me new (Some old) apart = by (is_same_node me old) (is_same_node me new) apart
  where
    by : (a b : Bool) → b ≡ false → MakesAnchor (moved_part new a b) → ⊥
    by true true is makes = absurd (let bad : true ≡ false = is in cc)
    by true false is makes = makes
    by false true is makes = absurd (let bad : true ≡ false = is in cc)
    by false false is makes = makes

-- a leg host is at another node than the anchor
host_apart : (sec : Option Node) (shape : Shape) (me : Node) → is_host_at sec shape me ≡ true → is_same_node me (anchor_at sec shape) ≡ false
host_apart sec shape me is = by (has_leg_at sec shape me) (is_same_node me (anchor_at sec shape)) is
  where
    by : (a b : Bool) → (a && not b) ≡ true → b ≡ false
    by true true is' = absurd (let bad : false ≡ true = is' in cc)
    by true false is' = refl
    by false b is' = absurd (let bad : false ≡ true = is' in cc)

module _ (sent : List Send) (s : SecondNode) (put : IsSecondPut sent s) (key : List ℕ) (p : Plan) (small : p.g < 2 ^ 24) where
  set_goes : (id : ℕ) (n : SnLen) (first : ℕ) (shape : Shape) (threshold policy : ℕ) (name : KeyName) (old : Option Node) → 1 ≤ id → id ≤ 32 → NoneOf id p.g sent
      → ((x : Fed) → held id s.anchors ≡ Some x → ((fed_setup x).g == p.g) ≡ false) → SecondGoes sent (second_item key p s (item.Set id n first shape threshold policy name old))
  set_goes id n first shape threshold policy name old one most none older = by (is_host_at p.sec shape (name_of s)) refl
    where
      by : (b : Bool) → is_host_at p.sec shape (name_of s) ≡ b
          → SecondGoes sent (second_part (record s { hosts = holding id (if b then Some (new_host (name_of s) (anchor_at p.sec shape) p.g id n) else None) s.hosts }) p (setup_of (name_of s) p s.alg key (item.Set id n first shape threshold policy name old)) id (set_part (name_of s) (anchor_at p.sec shape) old))
      by true is =
          part_goes sent (record s { hosts = holding id (Some (new_host (name_of s) (anchor_at p.sec shape) p.g id n)) s.hosts })
          (host_begins fed_setup sent s.anchors s.hosts put id (new_host (name_of s) (anchor_at p.sec shape) p.g id n) refl refl none older) p
          (record { node = name_of s; sec = p.sec; g = p.g; id = id; n = n; first = first; alg = s.alg; key = key; legs = new_legs shape threshold policy }) id refl (one, most, small) refl refl none
          (set_part (name_of s) (anchor_at p.sec shape) old) (λ makes. absurd (makes_none (name_of s) (anchor_at p.sec shape) old (host_apart p.sec shape (name_of s) is) makes))
      by false is =
          part_goes sent (record s { hosts = holding id None s.hosts }) (host_ends fed_setup sent s.anchors s.hosts put id) p
          (record { node = name_of s; sec = p.sec; g = p.g; id = id; n = n; first = first; alg = s.alg; key = key; legs = new_legs shape threshold policy }) id refl (one, most, small) refl refl none
          (set_part (name_of s) (anchor_at p.sec shape) old)
          (λ makes. held_without id id s.hosts put.hosts_ascend ∙ ap (λ b. if b then None else held id s.hosts) (eq-eqb id id refl))

  -- an item of a plan, of whose generation nothing was sent for its identity, and which the node's anchor of it has not yet
  pub item_goes : (i : Item) → 1 ≤ item_id i → item_id i ≤ 32 → NoneOf (item_id i) p.g sent → ((x : Fed) → held (item_id i) s.anchors ≡ Some x → ((fed_setup x).g == p.g) ≡ false)
      → SecondGoes sent (second_item key p s i)
  item_goes (item.Set id n first shape threshold policy name old) one most none older = set_goes id n first shape threshold policy name old one most none older
  item_goes (item.Unset id) one most none older =
      let t = record s { hosts = holding id None s.hosts } in
      let ended = host_ends fed_setup sent s.anchors s.hosts put id in
      then_quiet sent t ended (second_item key p s (item.Unset id)) (anchor_ends fed_setup sent t.anchors t.hosts ended id) (λ i h l. refl)
