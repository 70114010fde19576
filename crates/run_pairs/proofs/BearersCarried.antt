-- A plan that a secondary node agrees to: what it has of each bearer then is what the table has, once the plan is carried out.
use Rattle.std.proofs.Common.{ℕ, ◌≡◌, ◌==◌, Bool, true, false, List, [], ◌∷◌, Option, Some, None, refl, sym, ap, subst, ◌∙◌, inl, inr}
use Rattle.std.specs.Prelude.{find, fold, if◌then◌else◌, not, ◌&&◌, ◌||◌, ◌⊎◌}
use Rattle.std.specs.List.{flat_map, list_any}
use Rattle.std.proofs.lemmas.Bool.{eq-eqb, eqb-true}
use Rattle.std.proofs.lemmas.List.Folds.{list_any-append}
use Rattle.std.proofs.lemmas.Option.{same_Some}
use Rattle.dc_base.specs.Count.{bits}
use Rattle.dc_base.specs.Nodes.{is_same_node}
use Rattle.dc_base.specs.Records.{item_id}
use Rattle.dc_base.specs.declared.nodes.Node.{Node}
use Rattle.dc_base.specs.declared.numbers.SnLen.{SnLen}
use Rattle.dc_base.specs.declared.records.Item.{Item}
use Rattle.dc_base.specs.declared.records.Item.TheVariants as item
use Rattle.dc_base.specs.declared.records.Plan.{Plan}
use Rattle.node_rules.specs.CommandTable.{Table, establishment, row, rows_after}
use Rattle.node_rules.specs.MasterGo.{moving_by, moving_of}
use Rattle.node_rules.specs.MasterRecords.{is_moving}
use Rattle.node_rules.specs.Parts.{moved_part, part_at}
use Rattle.node_rules.specs.Places.{anchor_at}
use Rattle.node_rules.specs.declared.commands.Row.{Row}
use Rattle.node_rules.specs.declared.parts.Part.TheVariants.{Establishes as establishes, HasNoAnchor as has_no_anchor}
use Rattle.master_runs.proofs.Holding.{row-same}
use Rattle.run_control.specs.SecondControl.{Views, carried_by, fits_plan, holds_like, holds_like_at, holds_there, misses, part_view, renewed, renewed_at, with_item}
use Rattle.run_control.specs.Views.{Stage, View, has_status, holds, lacks_status}
use Rattle.run_control.proofs.Turns.{never, not_is, or_first, or_later}
use Rattle.run_pairs.specs.Bearers.{AreApart, AreHeld, IsHeldAt, is_alike}
use Rattle.run_pairs.proofs.Placed.{gone_row, item_apart}
use Rattle.run_pairs.proofs.Replies.{apart_turned, node_itself, same_node}

-- ---- an item among several

-- the items of another identity, in front, are passed over
found_item : (i : Item) (items : List Item) (k : ℕ) (b : Bool) → (item_id i == k) ≡ b → find (λ j. item_id j == k) (i ∷ items) ≡ (if b then Some i else find (λ j. item_id j == k) items)
found_item i items k b is = ap (λ c. if c then Some i else find (λ j. item_id j == k) items) is

-- none is of the identity
none_found : (items : List Item) (k : ℕ) → find (λ j. item_id j == k) items ≡ None → list_any (λ j. item_id j == k) items ≡ false
none_found [] k none = refl
none_found (i ∷ items) k none = by (item_id i == k) none (λ rest. none_found items k rest)
  where
    by : (b : Bool) → (if b then Some i else find (λ j. item_id j == k) items) ≡ None → (find (λ j. item_id j == k) items ≡ None → list_any (λ j. item_id j == k) items ≡ false) → (b || list_any (λ j. item_id j == k) items) ≡ false
    by true none more = absurd cc
    by false none more = more none

some_is : {X : Type 0} (x y : X) → Some x ≡ Some y → x ≡ y
some_is x y e = same_Some x y e

module _ (me : Node) (p : Plan) where
  -- what is not named stays
  unnamed_stays : (items : List Item) (views : Views) (k : ℕ) → list_any (λ j. item_id j == k) items ≡ false → carried_by me p items views k ≡ views k
  unnamed_stays [] views k none = refl
  unnamed_stays (i ∷ items) views k none =
      unnamed_stays items (with_item me p i views) k (or_later (item_id i == k) (list_any (λ j. item_id j == k) items) none)
      ∙ ap (λ b. if b then part_view p.g i (part_at me p.sec i) (views (item_id i)) else views k) (or_first (item_id i == k) (list_any (λ j. item_id j == k) items) none)

  -- what is named once becomes what its item makes of it
  named_becomes : (items : List Item) → AreApart items → (views : Views) (k : ℕ) (i : Item) → find (λ j. item_id j == k) items ≡ Some i → carried_by me p items views k ≡ part_view p.g i (part_at me p.sec i) (views k)
  named_becomes [] apart views k i found = absurd cc
  named_becomes (j ∷ items) apart views k i found = by (item_id j == k) refl (λ rest. named_becomes items apart.1 (with_item me p j views) k i rest)
    where
      by : (b : Bool) → (item_id j == k) ≡ b → (find (λ z. item_id z == k) items ≡ Some i → carried_by me p items (with_item me p j views) k ≡ part_view p.g i (part_at me p.sec i) (with_item me p j views k))
          → carried_by me p items (with_item me p j views) k ≡ part_view p.g i (part_at me p.sec i) (views k)
      by true here more =
          let same : item_id j ≡ k = eqb-true (item_id j) k here in
          let is : j ≡ i = some_is j i (sym (found_item j items k true here) ∙ found) in
          unnamed_stays items (with_item me p j views) k (ap (λ n. list_any (λ z. item_id z == n) items) (sym same) ∙ apart.0)
          ∙ ap (λ b. if b then part_view p.g j (part_at me p.sec j) (views (item_id j)) else views k) here
          ∙ ap (λ n. part_view p.g j (part_at me p.sec j) (views n)) same
          ∙ ap (λ z. part_view p.g z (part_at me p.sec z) (views k)) is
      by false other more =
          more (sym (found_item j items k false other) ∙ found)
          ∙ ap (λ v. part_view p.g i (part_at me p.sec i) v) (ap (λ b. if b then part_view p.g j (part_at me p.sec j) (views (item_id j)) else views k) other)

-- ---- the table

-- the row that an item sets
abbrev set_row : Table → ℕ → Option Node → Item → Option Row
set_row t g sec (item.Set id n first shape threshold policy key old) =
    Some (record { id = id; est = establishment g old (row t id); n = n; first = first; shape = shape; threshold = threshold; policy = policy; key = key; anchor = anchor_at sec shape; g = g })
set_row t g sec (item.Unset id) = None

module _ (t : Table) (g : ℕ) (sec : Option Node) where
  pub row_set : (rows : List Row) (i : Item) (k : ℕ) → (item_id i == k) ≡ true → find (λ (r : Row). r.id == k) (rows_after t g sec rows i) ≡ set_row t g sec i
  row_set rows (item.Set id n first shape threshold policy key old) k here =
      subst (λ j. find (λ (r : Row). r.id == j) (rows_after t g sec rows (item.Set id n first shape threshold policy key old)) ≡ set_row t g sec (item.Set id n first shape threshold policy key old)) (eqb-true id k here) (row-same _ rows)
  row_set rows (item.Unset id) k here = gone_row id rows k ∙ ap (λ b. if b then None else find (λ (r : Row). r.id == k) rows) here

  rows_stay : (items : List Item) (rows : List Row) (k : ℕ) → list_any (λ j. item_id j == k) items ≡ false → find (λ (r : Row). r.id == k) (fold (rows_after t g sec) rows items) ≡ find (λ (r : Row). r.id == k) rows
  rows_stay [] rows k none = refl
  rows_stay (i ∷ items) rows k none =
      rows_stay items (rows_after t g sec rows i) k (or_later (item_id i == k) (list_any (λ j. item_id j == k) items) none) ∙ item_apart t g sec rows i k (or_first (item_id i == k) (list_any (λ j. item_id j == k) items) none)

  rows_become : (items : List Item) → AreApart items → (rows : List Row) (k : ℕ) (i : Item) → find (λ j. item_id j == k) items ≡ Some i → find (λ (r : Row). r.id == k) (fold (rows_after t g sec) rows items) ≡ set_row t g sec i
  rows_become [] apart rows k i found = absurd cc
  rows_become (j ∷ items) apart rows k i found = by (item_id j == k) refl (λ rest. rows_become items apart.1 (rows_after t g sec rows j) k i rest)
    where
      by : (b : Bool) → (item_id j == k) ≡ b → (find (λ z. item_id z == k) items ≡ Some i → find (λ (r : Row). r.id == k) (fold (rows_after t g sec) (rows_after t g sec rows j) items) ≡ set_row t g sec i)
          → find (λ (r : Row). r.id == k) (fold (rows_after t g sec) (rows_after t g sec rows j) items) ≡ set_row t g sec i
      by true here more =
          rows_stay items (rows_after t g sec rows j) k (ap (λ n. list_any (λ z. item_id z == n) items) (sym (eqb-true (item_id j) k here)) ∙ apart.0)
          ∙ row_set rows j k here ∙ ap (set_row t g sec) (some_is j i (sym (found_item j items k true here) ∙ found))
      by false other more = more (sym (found_item j items k false other) ∙ found)

-- ---- what moves

or_second : (b d : Bool) → d ≡ true → (b || d) ≡ true
or_second true d is = refl
or_second false d is = is

moves_among : (x : Node) (sec : Option Node) (items : List Item) (k : ℕ) (i : Item) → find (λ j. item_id j == k) items ≡ Some i → list_any (is_moving k x) (moving_of sec i) ≡ true → list_any (is_moving k x) (flat_map (moving_of sec) items) ≡ true
moves_among x sec [] k i found moves = absurd cc
moves_among x sec (j ∷ items) k i found moves =
    list_any-append (is_moving k x) (moving_of sec j) (flat_map (moving_of sec) items) ∙ by (item_id j == k) refl (λ rest. moves_among x sec items k i rest moves)
  where
    by : (b : Bool) → (item_id j == k) ≡ b → (find (λ z. item_id z == k) items ≡ Some i → list_any (is_moving k x) (flat_map (moving_of sec) items) ≡ true)
        → (list_any (is_moving k x) (moving_of sec j) || list_any (is_moving k x) (flat_map (moving_of sec) items)) ≡ true
    by true here more =
        ap (λ b. b || list_any (is_moving k x) (flat_map (moving_of sec) items)) (ap (λ z. list_any (is_moving k x) (moving_of sec z)) (some_is j i (sym (found_item j items k true here) ∙ found)) ∙ moves)
    by false other more = or_second (list_any (is_moving k x) (moving_of sec j)) (list_any (is_moving k x) (flat_map (moving_of sec) items)) (more (sym (found_item j items k false other) ∙ found))

-- ---- an item that sets a bearer

alike_itself : (n : SnLen) (first : ℕ) → ((bits n == bits n) && (first == first)) ≡ true
alike_itself n first = ap (λ b. b && (first == first)) (eq-eqb (bits n) (bits n) refl) ∙ eq-eqb first first refl

-- the plan does not miss the bearer that it presupposes
not_missing : (x : Node) (views : Views) (items : List Item) (k : ℕ) (i : Item) → list_any (misses x views) items ≡ false → find (λ j. item_id j == k) items ≡ Some i → misses x views i ≡ false
not_missing x views [] k i none found = absurd cc
not_missing x views (j ∷ items) k i none found = by (item_id j == k) refl (λ rest. not_missing x views items k i (or_later (misses x views j) (list_any (misses x views) items) none) rest)
  where
    by : (b : Bool) → (item_id j == k) ≡ b → (find (λ z. item_id z == k) items ≡ Some i → misses x views i ≡ false) → misses x views i ≡ false
    by true here more = ap (misses x views) (sym (some_is j i (sym (found_item j items k true here) ∙ found))) ∙ or_first (misses x views j) (list_any (misses x views) items) none
    by false other more = more (sym (found_item j items k false other) ∙ found)

named_here : (items : List Item) (k : ℕ) (i : Item) → find (λ j. item_id j == k) items ≡ Some i → (item_id i == k) ≡ true
named_here [] k i found = absurd cc
named_here (j ∷ items) k i found = by (item_id j == k) refl (λ rest. named_here items k i rest)
  where
    by : (b : Bool) → (item_id j == k) ≡ b → (find (λ z. item_id z == k) items ≡ Some i → (item_id i == k) ≡ true) → (item_id i == k) ≡ true
    by true here more = ap (λ z. item_id z == k) (sym (some_is j i (sym (found_item j items k true here) ∙ found))) ∙ here
    by false other more = more (sym (found_item j items k false other) ∙ found)

not_not : (b : Bool) → not b ≡ false → b ≡ true
not_not true is = refl
not_not false is = absurd cc

-- a bearer that was held is held in the new generation
abbrev IsSetHeld : SnLen → ℕ → Option View → Type 0
IsSetHeld n first v = (is_alike n first v ≡ true) × (holds_there v ≡ true)

renewed_held_at : (g : ℕ) (id : ℕ) (n : SnLen) (first : ℕ) (k : Stage) (v : View) → v.stage ≡ k → holds_like_at k n first v.bearer ≡ true
    → IsSetHeld n first (Some (renewed_at k (record { id = id; g = g; n = n; first = first }) v))
renewed_held_at g id n first holds v is held = (alike_itself n first, refl)
renewed_held_at g id n first lacks_status v is held = absurd cc
renewed_held_at g id n first has_status v is held = absurd cc

renewed_held : (g : ℕ) (id : ℕ) (n : SnLen) (first : ℕ) (o : Option View) → holds_like n first o ≡ true → IsSetHeld n first (renewed (Some (record { id = id; g = g; n = n; first = first })) o)
renewed_held g id n first None held = absurd cc
renewed_held g id n first (Some v) held = renewed_held_at g id n first v.stage v refl held

-- what the item makes of the bearer, where its new anchor is at the node: it is held, or it moves there
set_at : (x : Node) (p : Plan) (v : Option View) (k : ℕ) (i : Item) (r : Row) (t : Table) → set_row t p.g p.sec i ≡ Some r → (item_id i == k) ≡ true → is_same_node x r.anchor ≡ true → (misses x (λ j. v) i ≡ false)
    → (is_alike r.n r.first (part_view p.g i (part_at x p.sec i) v) ≡ true) × ((list_any (is_moving k x) (moving_of p.sec i) ≡ true) ⊎ (holds_there (part_view p.g i (part_at x p.sec i) v) ≡ true))
set_at x p v k (item.Unset id) r t set named here fit = absurd cc
set_at x p v k (item.Set id n first shape threshold policy key None) r t set named here fit =
    let same = some_is (row_of None) r set in
    subst (λ (z : Row). (is_alike z.n z.first (part_view p.g (the None) (part_at x p.sec (the None)) v) ≡ true) × ((list_any (is_moving k x) (moving_of p.sec (the None)) ≡ true) ⊎ (holds_there (part_view p.g (the None) (part_at x p.sec (the None)) v) ≡ true))) same
    (subst (λ b. (is_alike n first (part_view p.g (the None) (if b then establishes else has_no_anchor) v) ≡ true) × ((list_any (is_moving k x) (moving_of p.sec (the None)) ≡ true) ⊎ (holds_there (part_view p.g (the None) (if b then establishes else has_no_anchor) v) ≡ true)))
    (sym (ap (λ (z : Row). is_same_node x z.anchor) same ∙ here)) (alike_itself n first, inr refl))
  where
    the : Option Node → Item
    the old = item.Set id n first shape threshold policy key old

    row_of : Option Node → Row
    row_of old = record { id = id; est = establishment p.g old (row t id); n = n; first = first; shape = shape; threshold = threshold; policy = policy; key = key; anchor = anchor_at p.sec shape; g = p.g }
set_at x p v k (item.Set id n first shape threshold policy key (Some old)) r t set named here fit =
    let same = some_is (row_of (Some old)) r set in
    let there : is_same_node x (anchor_at p.sec shape) ≡ true = ap (λ (z : Row). is_same_node x z.anchor) same ∙ here in
    subst (λ (z : Row). (is_alike z.n z.first (part_view p.g (the (Some old)) (part_at x p.sec (the (Some old))) v) ≡ true) × ((list_any (is_moving k x) (moving_of p.sec (the (Some old))) ≡ true) ⊎ (holds_there (part_view p.g (the (Some old)) (part_at x p.sec (the (Some old))) v) ≡ true))) same
    (subst (λ b. (is_alike n first (part_view p.g (the (Some old)) (moved_part (anchor_at p.sec shape) (is_same_node x old) b) v) ≡ true) × ((list_any (is_moving k x) (moving_of p.sec (the (Some old))) ≡ true) ⊎ (holds_there (part_view p.g (the (Some old)) (moved_part (anchor_at p.sec shape) (is_same_node x old) b) v) ≡ true)))
    (sym there) (by (is_same_node x old) refl there))
  where
    the : Option Node → Item
    the o = item.Set id n first shape threshold policy key o

    row_of : Option Node → Row
    row_of o = record { id = id; est = establishment p.g o (row t id); n = n; first = first; shape = shape; threshold = threshold; policy = policy; key = key; anchor = anchor_at p.sec shape; g = p.g }

    moves : is_same_node x old ≡ false → is_same_node x (anchor_at p.sec shape) ≡ true → list_any (is_moving k x) (moving_of p.sec (the (Some old))) ≡ true
    moves apart there =
        let new : x ≡ anchor_at p.sec shape = same_node x (anchor_at p.sec shape) there in
        let other : is_same_node old (anchor_at p.sec shape) ≡ false = ap (is_same_node old) (sym new) ∙ apart_turned x old apart in
        ap (λ b. list_any (is_moving k x) (if b then [] else (id, anchor_at p.sec shape) ∷ [])) other
        ∙ ap (λ b. ((id == k) && b) || false) there ∙ ap (λ b. (b && true) || false) named

    by : (b : Bool) → is_same_node x old ≡ b → is_same_node x (anchor_at p.sec shape) ≡ true
        → (is_alike n first (part_view p.g (the (Some old)) (moved_part (anchor_at p.sec shape) b true) v) ≡ true) × ((list_any (is_moving k x) (moving_of p.sec (the (Some old))) ≡ true) ⊎ (holds_there (part_view p.g (the (Some old)) (moved_part (anchor_at p.sec shape) b true) v) ≡ true))
    by false apart there = (alike_itself n first, inl (moves apart there))
    by true mine there =
        let turned : is_same_node old x ≡ true = subst (λ z. is_same_node z x ≡ true) (same_node x old mine) (node_itself x) in
        let held = renewed_held p.g id n first v (not_not (holds_like n first v) (sym (ap (λ b. b && not (holds_like n first v)) turned) ∙ fit)) in
        (held.0, inr held.1)

-- ---- the plan

moves_or : {b : Bool} {P : Type 0} → (b ≡ true) ⊎ P → b ≡ false → P
moves_or {b} (inl yes') no' = never b yes' no'
moves_or (inr is) no' = is

-- what a node has, once it agreed to a plan that fits, is what the table has of it once the plan is carried out; what it has then
-- that moves to it may wait
pub agreed_held : (t : Table) (x : Node) (p : Plan) (views : Views) (rows : List Row) → AreApart p.items → fits_plan x views (Some p) ≡ true → AreHeld x views [] rows
    → AreHeld x (carried_by x p p.items views) (moving_by p) (fold (rows_after t p.g p.sec) rows p.items)
agreed_held t x p views rows apart fit held k = by (find (λ j. item_id j == k) p.items) refl
  where
    After : Option View → Option Row → Type 0
    After v o = IsHeldAt x v (list_any (is_moving k x) (moving_by p)) o

    kept : (o : Option Row) → IsHeldAt x (views k) false o → After (views k) o
    kept None is = tt
    kept (Some r) is = λ here. ((is here).0, λ still. (is here).1 refl)

    set : (i : Item) → find (λ j. item_id j == k) p.items ≡ Some i → (o : Option Row) → set_row t p.g p.sec i ≡ o → After (part_view p.g i (part_at x p.sec i) (views k)) o
    set i found None is = tt
    set i found (Some r) is = λ here.
        let named = named_here p.items k i found in
        let fits' : misses x (λ j. views k) i ≡ false = same_misses i named ∙ not_missing x views p.items k i (not_is (list_any (misses x views) p.items) fit) found in
        let at = set_at x p (views k) k i r t is named here fits' in
        (at.0, λ still. settled at.1 still)
      where
        same_misses : (i : Item) → (item_id i == k) ≡ true → misses x (λ j. views k) i ≡ misses x views i
        same_misses (item.Set id n first shape threshold policy key None) named = refl
        same_misses (item.Set id n first shape threshold policy key (Some old)) named = ap (λ j. is_same_node old x && not (holds_like n first (views j))) (sym (eqb-true id k named))
        same_misses (item.Unset id) named = refl

        settled : (list_any (is_moving k x) (moving_of p.sec i) ≡ true) ⊎ (holds_there (part_view p.g i (part_at x p.sec i) (views k)) ≡ true) → list_any (is_moving k x) (moving_by p) ≡ false
            → holds_there (part_view p.g i (part_at x p.sec i) (views k)) ≡ true
        settled (inl moves) still = never (list_any (is_moving k x) (moving_by p)) (moves_among x p.sec p.items k i found moves) still
        settled (inr is') still = is'

    by : (o : Option Item) → find (λ j. item_id j == k) p.items ≡ o → After (carried_by x p p.items views k) (find (λ (r : Row). r.id == k) (fold (rows_after t p.g p.sec) rows p.items))
    by None none =
        let unnamed = none_found p.items k none in
        subst (λ v. After v (find (λ (r : Row). r.id == k) (fold (rows_after t p.g p.sec) rows p.items))) (sym (unnamed_stays x p p.items views k unnamed))
        (subst (After (views k)) (sym (rows_stay t p.g p.sec p.items rows k unnamed)) (kept (find (λ (r : Row). r.id == k) rows) (held k)))
    by (Some i) found =
        subst (λ v. After v (find (λ (r : Row). r.id == k) (fold (rows_after t p.g p.sec) rows p.items))) (sym (named_becomes x p p.items apart views k i found))
        (subst (After (part_view p.g i (part_at x p.sec i) (views k))) (sym (rows_become t p.g p.sec p.items apart rows k i found)) (set i found (set_row t p.g p.sec i) refl))
