-- An anchor at a secondary node is renewed only with the length of SNs that it has: a record that would have it otherwise does not fit.
use Rattle.std.proofs.Common.{ℕ, ◌≡◌, ◌==◌, ◌&&◌, ◌||◌, ◌∙◌, Bool, true, false, List, [], ◌∷◌, Some, None, not, refl, sym, ap}
use Rattle.std.specs.List.{AllByRecursion, list_any}
use Rattle.std.specs.Prelude.{if◌then◌else◌}
use Rattle.dc_base.specs.Count.{bits}
use Rattle.dc_base.specs.Nodes.{is_same_node}
use Rattle.dc_base.specs.Records.{item_id}
use Rattle.dc_base.specs.declared.nodes.Node.{Node}
use Rattle.dc_base.specs.declared.nodes.Node.TheVariants.{A, B, M, T}
use Rattle.dc_base.specs.declared.numbers.SnLen.{SnLen}
use Rattle.dc_base.specs.declared.numbers.SnLen.TheVariants.{S12, S18}
use Rattle.dc_base.specs.declared.records.Item.{Item}
use Rattle.dc_base.specs.declared.records.Item.TheVariants as item
use Rattle.dc_base.specs.declared.records.Plan.{Plan}
use Rattle.node_rules.specs.Anchor.{Active}
use Rattle.node_rules.specs.Entity.{renewed}
use Rattle.node_rules.specs.Parts.{moved_part, part_at}
use Rattle.node_rules.specs.Places.{anchor_at}
use Rattle.node_rules.specs.SecondStep.{is_fit_plan, is_like, is_unfit}
use Rattle.node_rules.specs.Secondary.{SecondNode, active_at, name_of}
use Rattle.node_rules.specs.Setup.{Setup, setup_of}
use Rattle.node_rules.specs.declared.parts.Part.TheVariants.{Awaits as awaits, Drops as drops, Establishes as establishes, HandsOver as hands_over, HasNoAnchor as has_no_anchor, Renews as renews}
use Rattle.run_downlinks.specs.Entities.{HasLength}

-- each item of a plan that fits does
none_of : (s : SecondNode) (items : List Item) → list_any (is_unfit s) items ≡ false → AllByRecursion (λ (i : Item). is_unfit s i ≡ false) items
none_of s [] none = tt
none_of s (i ∷ items) none = let both = by (is_unfit s i) (list_any (is_unfit s) items) none in (both.0, none_of s items both.1)
  where
    by : (a b : Bool) → (a || b) ≡ false → (a ≡ false) × (b ≡ false)
    by true b bad = absurd cc
    by false b is = (refl, is)

pub fit_items : (s : SecondNode) (p : Plan) → is_fit_plan s (Some p) ≡ true → AllByRecursion (λ (i : Item). is_unfit s i ≡ false) p.items
fit_items s p fit = none_of s p.items (by (list_any (is_unfit s) p.items) fit)
  where
    by : (b : Bool) → not b ≡ true → b ≡ false
    by true bad = absurd cc
    by false is = refl

turned : (x y : Node) → is_same_node x y ≡ true → is_same_node y x ≡ true
turned T T is = refl
turned M M is = refl
turned A A is = refl
turned B B is = refl
turned T M is = absurd cc
turned T A is = absurd cc
turned T B is = absurd cc
turned M T is = absurd cc
turned M A is = absurd cc
turned M B is = absurd cc
turned A T is = absurd cc
turned A M is = absurd cc
turned A B is = absurd cc
turned B T is = absurd cc
turned B M is = absurd cc
turned B A is = absurd cc

same_bits : (a b : SnLen) → (bits a == bits b) ≡ true → a ≡ b
same_bits S12 S12 is = refl
same_bits S18 S18 is = refl
same_bits S12 S18 is = absurd cc
same_bits S18 S12 is = absurd cc

-- a part that renews is of a bearer that was at the node
renews_here : (new : Node) (was is : Bool) → moved_part new was is ≡ renews → was ≡ true
renews_here new true true part = refl
renews_here new true false part = absurd (let bad : hands_over new ≡ renews = part in cc)
renews_here new false true part = absurd (let bad : awaits ≡ renews = part in cc)
renews_here new false false part = absurd (let bad : has_no_anchor ≡ renews = part in cc)

-- the item sets the length of SNs that the anchor has
pub renews_length : (s : SecondNode) (p : Plan) (key : List ℕ) (i : Item) (setup : Setup) (a : Active) → is_unfit s i ≡ false → part_at (name_of s) p.sec i ≡ renews
    → setup_of (name_of s) p s.alg key i ≡ Some setup → active_at s (item_id i) ≡ Some a → setup.n ≡ a.entity.setup.n
renews_length s p key (item.Unset id) setup a fit part set there = absurd (let bad : drops ≡ renews = part in cc)
renews_length s p key (item.Set id n first shape threshold policy name None) setup a fit part set there = absurd (new (is_same_node (name_of s) (anchor_at p.sec shape)) part)
  where
    new : (b : Bool) → (if b then establishes else has_no_anchor) ≡ renews → ⊥
    new true bad = let one : establishes ≡ renews = bad in cc
    new false bad = let one : has_no_anchor ≡ renews = bad in cc
renews_length s p key (item.Set id n first shape threshold policy name (Some old)) setup a fit part set there =
    let here = renews_here (anchor_at p.sec shape) (is_same_node (name_of s) old) (is_same_node (name_of s) (anchor_at p.sec shape)) part in
    let like = by (is_same_node old (name_of s)) (turned (name_of s) old here) (is_like n first (active_at s id)) fit in
    of_setup setup set ∙ sym (same_bits a.entity.setup.n n (left_of (bits a.entity.setup.n == bits n) (a.entity.setup.first == first) (sym (ap (is_like n first) there) ∙ like)))
  where
    by : (b : Bool) → b ≡ true → (c : Bool) → (b && not c) ≡ false → c ≡ true
    by true is true none = refl
    by true is false none = absurd cc
    by false is c none = absurd cc

    left_of : (b c : Bool) → (b && c) ≡ true → b ≡ true
    left_of true c is = refl
    left_of false c is = is

    of_setup : (x : Setup) → setup_of (name_of s) p s.alg key (item.Set id n first shape threshold policy name (Some old)) ≡ Some x → x.n ≡ n
    of_setup x is = cc

-- so it keeps its length
pub renewed_length : (s : SecondNode) (p : Plan) (key : List ℕ) (i : Item) (setup : Setup) (a : Active) → is_unfit s i ≡ false → part_at (name_of s) p.sec i ≡ renews
    → setup_of (name_of s) p s.alg key i ≡ Some setup → active_at s (item_id i) ≡ Some a → HasLength a.entity → HasLength (renewed a.entity setup)
renewed_length s p key i setup a fit part set there is = is ∙ sym (renews_length s p key i setup a fit part set there)
