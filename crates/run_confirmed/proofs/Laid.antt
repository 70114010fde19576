-- A plan that was drawn lays bearers out as the layout of the plans drawn says.
use Rattle.std.proofs.Common.{◌≡◌, ◌⊎◌, ℕ, ◌==◌, ◌&&◌, ◌||◌, ◌<◌, ◌≤◌, ◌^◌, true, false, Bool, List, [], ◌∷◌, Option, Some, None, refl, sym, ap, ◌∙◌, subst, inl, inr}
use Rattle.std.specs.Prelude.{find, if◌then◌else◌, not}
use Rattle.std.specs.List.{AllByRecursion}
use Rattle.std.specs.Option.{option_and_then}
use Rattle.std.proofs.lemmas.Bool.{and_parts, cases_Bool}
use Rattle.dc_base.specs.Nodes.{is_same_node}
use Rattle.dc_base.specs.declared.nodes.Node.{Node}
use Rattle.dc_base.specs.declared.nodes.Node.TheVariants.{M}
use Rattle.dc_base.specs.declared.nodes.Shape.{Shape}
use Rattle.dc_base.specs.declared.numbers.SnLen.{SnLen}
use Rattle.dc_base.specs.declared.records.Item.{Item}
use Rattle.dc_base.specs.declared.records.Item.TheVariants.{Set, Unset}
use Rattle.dc_base.specs.declared.records.Plan.{Plan}
use Rattle.claims.specs.Reading.{Setting, sets, setting_of}
use Rattle.node_rules.specs.Places.{anchor_at, has_mcg, has_scg, is_at, is_host_at, node_or_master}
use Rattle.run_pairs.proofs.Replies.{same_node}
use Rattle.run_table.specs.View.{planned}
use Rattle.run_uplinks.specs.Seen.{setting_in}
use Rattle.run_relays.proofs.Planned.{FoundIn, Runs, each_found}
use Rattle.run_confirmed.specs.Laid.{AreLow, Place, SetsLow, host_in, layout_of, place_in, place_or, placed}
use Rattle.run_confirmed.specs.Plans.{IsLaidOut, LaysOut, SetsAsLaidOut}

-- ---- the leg host

not_both : (b : Bool) → b ≡ true → not b ≡ true → ⊥
not_both true yes' no' = let bad : false ≡ true = no' in cc
not_both false yes' no' = let bad : false ≡ true = yes' in cc

or_parts : (a b : Bool) → (a || b) ≡ true → (a ≡ true) ⊎ (b ≡ true)
or_parts true b is = inl refl
or_parts false b is = inr is

-- a node that has a leg of the shape, and not its anchor
host_of_parts : (sec : Option Node) (at_second mcg scg : Bool) (y : Node) → (is_same_node y M && mcg) ≡ true ⊎ (is_at y sec && scg) ≡ true
    → not (is_same_node y (if at_second then node_or_master sec else M)) ≡ true → (if at_second then M else node_or_master sec) ≡ y
host_of_parts None true mcg scg y (inl at_master) away = absurd (not_both (is_same_node y M) (and_parts (is_same_node y M) mcg at_master).0 away)
host_of_parts None false mcg scg y (inl at_master) away = absurd (not_both (is_same_node y M) (and_parts (is_same_node y M) mcg at_master).0 away)
host_of_parts None b mcg scg y (inr at_it) away = absurd (let bad : false ≡ true = (and_parts false scg at_it).0 in cc)
host_of_parts (Some z) true mcg scg y (inl at_master) away = sym (same_node y M (and_parts (is_same_node y M) mcg at_master).0)
host_of_parts (Some z) true mcg scg y (inr at_it) away = absurd (not_both (is_same_node y z) (and_parts (is_same_node y z) scg at_it).0 away)
host_of_parts (Some z) false mcg scg y (inl at_master) away = absurd (not_both (is_same_node y M) (and_parts (is_same_node y M) mcg at_master).0 away)
host_of_parts (Some z) false mcg scg y (inr at_it) away = sym (same_node y z (and_parts (is_same_node y z) scg at_it).0)

host_is : (sec : Option Node) (s : Shape) (y : Node) → is_host_at sec s y ≡ true → host_in sec s ≡ y
host_is sec s y is =
    let legs = (is_same_node y M && has_mcg s.legs) || (is_at y sec && has_scg s.legs) in
    let parts = and_parts legs (not (is_same_node y (anchor_at sec s))) is in
    host_of_parts sec s.at_second (has_mcg s.legs) (has_scg s.legs) y (or_parts (is_same_node y M && has_mcg s.legs) (is_at y sec && has_scg s.legs) parts.0) parts.1

-- ---- an item

module _ (plans : List Plan) where
  -- what plans set has an identity and a generation that a TEID names
  abbrev pub AreNamed : Type 0
  AreNamed = (id g : ℕ) (x : Setting) → setting_in plans id g ≡ Some x → (1 ≤ id) × (id ≤ 32) × (g < 2 ^ 24)

  module _ (named : AreNamed) (p : Plan) (drawn : planned plans p.g ≡ Some p) where
    set_laid : (id : ℕ) (n : SnLen) (first : ℕ) (shape : Shape) (place : Place) (x : Setting) → placed p.sec (find (sets id) p.items) ≡ Some place
        → setting_of p.sec (find (sets id) p.items) ≡ Some x
        → place.home ≡ anchor_at p.sec shape → place.host ≡ host_in p.sec shape → place.n ≡ n → first < 2 ^ 32
        → IsLaidOut (layout_of plans) p id n first shape
    set_laid id n first shape place x at setting home host same_n small =
        let here : place_or (place_in plans id p.g) ≡ place =
        ap place_or (ap (option_and_then (λ (q : Plan). placed q.sec (find (sets id) q.items))) drawn ∙ at) in
        let within = named id p.g x (ap (option_and_then (λ (q : Plan). setting_of q.sec (find (sets id) q.items))) drawn ∙ setting) in
        record {
          home = ap (λ (z : Place). z.home) here ∙ home;
          host = λ y is. ap (λ (z : Place). z.host) here ∙ host ∙ host_is p.sec shape y is;
          same_n = sym (ap (λ (z : Place). z.n) here ∙ same_n);
          named = record { some = within.0; small = within.1; generation = within.2 };
          small = small;
        }

    item_laid : (i : Item) → FoundIn p.items i → SetsLow i → SetsAsLaidOut (layout_of plans) p i
    item_laid (Set id n first shape threshold policy key old) found low =
        set_laid id n first shape (record { home = anchor_at p.sec shape; host = host_in p.sec shape; n = n }) (record { sec = p.sec; shape = shape; key = key; old = old }) (ap (placed p.sec) found) (ap (setting_of p.sec) found) refl refl
        refl low
    item_laid (Unset id) found low = tt

    items_laid : (items : List Item) → AllByRecursion (FoundIn p.items) items → AllByRecursion SetsLow items → AllByRecursion (SetsAsLaidOut (layout_of plans) p) items
    items_laid [] found low = tt
    items_laid (i ∷ items) found low = (item_laid i found.0 low.0, items_laid items found.1 low.1)

  low_found : (ps : List Plan) (g : ℕ) (p : Plan) → AreLow ps → planned ps g ≡ Some p → AllByRecursion SetsLow p.items
  low_found [] g p low at = absurd (let bad : None ≡ Some p = at in cc)
  low_found (q ∷ ps) g p low at =
      elim (cases_Bool (q.g == g)) [
        | inl here ↦ let same : q ≡ p = let e = rw here at at in cc in subst (λ (y : Plan). AllByRecursion SetsLow y.items) same low.0
        | inr there ↦ low_found ps g p low.1 (rw there at at)
      ]

  -- a plan that was drawn
  pub laid_out : AreNamed → AreLow plans → (p : Plan) → Runs plans p → LaysOut (layout_of plans) p
  laid_out named low p runs = items_laid named p runs.0 p.items (each_found 0 p.items runs.1) (low_found plans p.g p low runs.0)
