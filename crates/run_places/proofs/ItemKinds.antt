-- What part a node has in an item, by what kind of item it is; and what that part makes of an anchor that holds, or waits.
use Rattle.std.proofs.Common.{ℕ, ◌≡◌, ◌≤◌, ◌+◌, ◌==◌, ◌++◌, ◌∙◌, Bool, true, false, List, [], ◌∷◌, Option, Some, None, refl, sym, ap, subst, arith, inl, inr}
use Rattle.std.specs.List.{AllByRecursion, find, list_any}
use Rattle.std.specs.Prelude.{if◌then◌else◌, ⊤, ◌&&◌, ◌||◌, ◌⊎◌}
use Rattle.std.proofs.lemmas.Bool.{eq-eqb}
use Rattle.std.proofs.lemmas.Option.{same_Some}
use Rattle.dc_base.specs.Nodes.{is_same_node, is_secondary}
use Rattle.dc_base.specs.Records.{item_id}
use Rattle.dc_base.specs.declared.nodes.Node.{Node}
use Rattle.dc_base.specs.declared.nodes.Node.TheVariants.{A, B, M, T}
use Rattle.dc_base.specs.declared.records.Item.{Item}
use Rattle.dc_base.specs.declared.records.Item.TheVariants as item
use Rattle.node_rules.specs.MasterGo.{moving_of}
use Rattle.node_rules.specs.MasterRecords.{is_moving}
use Rattle.node_rules.specs.Parts.{moved_part, part_at}
use Rattle.node_rules.specs.Places.{anchor_at, is_at, node_or_master}
use Rattle.node_rules.specs.declared.commands.Row.{Row}
use Rattle.node_rules.specs.declared.parts.Part.{Part}
use Rattle.node_rules.specs.declared.parts.Part.TheVariants.{Awaits as awaits, Drops as drops, Establishes as establishes, HandsOver as hands_over, HasNoAnchor as has_no_anchor, Renews as renews}
use Rattle.run_control.specs.SecondControl.{holds_there, is_holding, made, renewed, renewed_at, set_by}
use Rattle.run_control.specs.Sound.{IsSecond}
use Rattle.run_control.specs.Views.{Bearer, Stage, View, has_status, holds, lacks_status}
use Rattle.run_control.proofs.Turns.{never}
use Rattle.run_pairs.specs.Bearers.{IsOfRow, IsRowOf}
use Rattle.dc_base.specs.declared.nodes.KeyName.{KeyName}
use Rattle.dc_base.specs.declared.nodes.Shape.{Shape}
use Rattle.dc_base.specs.declared.numbers.SnLen.{SnLen}
use Rattle.run_pairs.proofs.Replies.{apart_turned, node_itself, same_node}
use Rattle.run_places.proofs.Parts.{setting}
use Rattle.run_places.proofs.Plans.{anchor_by}
use Rattle.run_places.proofs.States.{is_new, row_in}

-- ---- of several items

pub found_each : (P : Item → Type 0) (items : List Item) (k : ℕ) (i : Item) → AllByRecursion P items → find (λ j. item_id j == k) items ≡ Some i → P i
found_each P [] k i all found = absurd cc
found_each P (j ∷ items) k i all found = by (item_id j == k) found (λ rest. found_each P items k i all.1 rest)
  where
    the : Option Item → Item
    the None = j
    the (Some z) = z

    by : (b : Bool) → (if b then Some j else find (λ z. item_id z == k) items) ≡ Some i → (find (λ z. item_id z == k) items ≡ Some i → P i) → P i
    by true is more = subst P (ap the is) all.0
    by false is more = more is

-- ---- an item that sets a bearer up at a node

-- an item sets up nothing at a node; or it sets up a new bearer, with its anchor there
pub data SetsUp (x : Node) (sec : Option Node) (i : Item) : Type 0 where
  sets_none : (is : setting (part_at x sec i) ≡ 0) → SetsUp x sec i
  sets_new : (is : setting (part_at x sec i) ≡ 1) → (new : is_new i ≡ true) → (there : anchor_by sec i ≡ Some x) → SetsUp x sec i

moved_sets : (new : Node) (b d : Bool) → setting (moved_part new b d) ≡ 0
moved_sets new true true = refl
moved_sets new true false = refl
moved_sets new false true = refl
moved_sets new false false = refl

pub sets_up : (x : Node) (sec : Option Node) (i : Item) → SetsUp x sec i
sets_up x sec (item.Set id n first shape threshold policy key None) = by (is_same_node x (anchor_at sec shape)) refl
  where
    it : Item
    it = item.Set id n first shape threshold policy key None

    by : (b : Bool) → is_same_node x (anchor_at sec shape) ≡ b → SetsUp x sec it
    by true here = sets_new (ap (λ b. setting (if b then establishes else has_no_anchor)) here) refl (ap (λ z. Some z) (sym (same_node x (anchor_at sec shape) here)))
    by false apart = sets_none (ap (λ b. setting (if b then establishes else has_no_anchor)) apart)
sets_up x sec (item.Set id n first shape threshold policy key (Some old)) = sets_none (moved_sets (anchor_at sec shape) (is_same_node x old) (is_same_node x (anchor_at sec shape)))
sets_up x sec (item.Unset id) = sets_none refl

-- not at two nodes
pub sets_once : (x y : Node) (sec : Option Node) (i : Item) → is_same_node x y ≡ false → setting (part_at x sec i) + setting (part_at y sec i) ≤ 1
sets_once x y sec i apart = by (sets_up x sec i) (sets_up y sec i)
  where
    by : SetsUp x sec i → SetsUp y sec i → setting (part_at x sec i) + setting (part_at y sec i) ≤ 1
    by (sets_none is) (sets_none js) = omega (arith, is, js)
    by (sets_none is) (sets_new js new there) = omega (arith, is, js)
    by (sets_new is new there) (sets_none js) = omega (arith, is, js)
    by (sets_new is new there) (sets_new js new' there') =
        absurd (never (is_same_node x y) (subst (λ z. is_same_node x z ≡ true) (same_Some x y (sym there ∙ there')) (node_itself x)) apart)

pub anchor_second : (x : Node) (sec : Option Node) (shape : Shape) → is_secondary x ≡ true → anchor_at sec shape ≡ x → is_at x sec ≡ true
anchor_second x sec shape second is = by shape.at_second is
  where
    or_master : (o : Option Node) → node_or_master o ≡ x → is_at x o ≡ true
    or_master None same = absurd (never (is_secondary x) second (ap is_secondary (sym same)))
    or_master (Some z) same = subst (λ y. is_same_node x y ≡ true) (sym same) (node_itself x)

    by : (b : Bool) → (if b then node_or_master sec else M) ≡ x → is_at x sec ≡ true
    by true same = or_master sec same
    by false same = absurd (never (is_secondary x) second (ap is_secondary (sym same)))

-- nor at a secondary node that is not that of the plan
pub sets_aside : (x : Node) (sec : Option Node) (i : Item) → is_secondary x ≡ true → is_at x sec ≡ false → setting (part_at x sec i) ≡ 0
sets_aside x sec i second apart = by (sets_up x sec i)
  where
    there : (j : Item) → anchor_by sec j ≡ Some x → is_at x sec ≡ true
    there (item.Set id n first shape threshold policy key old) is = anchor_second x sec shape second (same_Some (anchor_at sec shape) x is)
    there (item.Unset id) is = absurd cc

    by : SetsUp x sec i → setting (part_at x sec i) ≡ 0
    by (sets_none is) = is
    by (sets_new is new at) = absurd (never (is_at x sec) (there i at) apart)

-- ---- an item by which a node waits for a bearer

abbrev pub is_awaits : Part → Bool
is_awaits establishes = false
is_awaits renews = false
is_awaits awaits = true
is_awaits (hands_over to) = false
is_awaits drops = false
is_awaits has_no_anchor = false

pub moved_awaits : (new : Node) (b d : Bool) → is_awaits (moved_part new b d) ≡ true → (b ≡ false) × (d ≡ true)
moved_awaits new true true is = absurd cc
moved_awaits new true false is = absurd cc
moved_awaits new false true is = (refl, refl)
moved_awaits new false false is = absurd cc

-- the plan moves the bearer there
pub awaits_moves : (x : Node) (sec : Option Node) (i : Item) (k : ℕ) → item_id i ≡ k → is_awaits (part_at x sec i) ≡ true → list_any (is_moving k x) (moving_of sec i) ≡ true
awaits_moves x sec (item.Set id n first shape threshold policy key None) k here is = absurd (by (is_same_node x (anchor_at sec shape)) is)
  where
    by : (b : Bool) → is_awaits (if b then establishes else has_no_anchor) ≡ true → ⊥
    by true is = absurd cc
    by false is = absurd cc
awaits_moves x sec (item.Set id n first shape threshold policy key (Some old)) k here is =
    let so = moved_awaits (anchor_at sec shape) (is_same_node x old) (is_same_node x (anchor_at sec shape)) is in
    let new : x ≡ anchor_at sec shape = same_node x (anchor_at sec shape) so.1 in
    let other : is_same_node old (anchor_at sec shape) ≡ false = ap (is_same_node old) (sym new) ∙ apart_turned x old so.0 in
    ap (λ b. list_any (is_moving k x) (if b then [] else (id, anchor_at sec shape) ∷ [])) other
    ∙ ap (λ b. ((id == k) && b) || false) so.1 ∙ ap (λ b. (b && true) || false) (eq-eqb id k here)
awaits_moves x sec (item.Unset id) k here is = absurd cc

-- ---- an anchor that holds

pub renewed_holds : (b : Bearer) (o : Option View) → holds_there o ≡ true → holds_there (renewed (Some b) o) ≡ true
renewed_holds b None is = absurd cc
renewed_holds b (Some v) is = by v.stage refl is
  where
    by : (k : Stage) → v.stage ≡ k → is_holding k ≡ true → is_holding (renewed_at k b v).stage ≡ true
    by holds at is = refl
    by lacks_status at is = absurd cc
    by has_status at is = absurd cc

-- an item of a bearer whose anchor was at this node: its old anchor is here
pub old_here : (x : Node) (rows : List Row) (id : ℕ) (n : SnLen) (first : ℕ) (shape : Shape) (threshold policy : ℕ) (key : KeyName) (old : Node) (r : Row)
    → IsOfRow rows (item.Set id n first shape threshold policy key (Some old)) → row_in id rows ≡ Some r → r.anchor ≡ x → is_same_node x old ≡ true
old_here x rows id n first shape threshold policy key old r of at here = by (row_in id rows) at of
  where
    the : Option Row → Row
    the None = r
    the (Some z) = z

    by : (o : Option Row) → o ≡ Some r → IsRowOf old n first o → is_same_node x old ≡ true
    by None is so = absurd so
    by (Some q) is so = subst (λ y. is_same_node x y ≡ true) (sym here ∙ ap (λ (z : Row). z.anchor) (sym (ap the is)) ∙ so.0) (node_itself x)
