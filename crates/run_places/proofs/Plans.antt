-- What a plan makes of the row of one bearer, and whether it moves it: by the item of that bearer, where no two are of one identity.
use Rattle.std.proofs.Common.{ℕ, ◌≡◌, ◌+◌, ◌==◌, ◌++◌, ◌∙◌, Bool, true, false, List, [], ◌∷◌, Option, Some, None, refl, sym, ap, subst, arith}
use Rattle.std.specs.List.{find, flat_map, fold, list_any}
use Rattle.std.specs.Prelude.{if◌then◌else◌, ◌&&◌, ◌||◌}
use Rattle.std.proofs.lemmas.Bool.{eqb-true}
use Rattle.std.proofs.lemmas.List.Folds.{list_any-append}
use Rattle.std.proofs.lemmas.Option.{same_Some}
use Rattle.run_pairs.proofs.Replies.{same_node}
use Rattle.dc_base.specs.Nodes.{is_same_node}
use Rattle.dc_base.specs.Records.{item_id}
use Rattle.dc_base.specs.declared.nodes.Node.{Node}
use Rattle.dc_base.specs.declared.records.Item.{Item}
use Rattle.dc_base.specs.declared.records.Item.TheVariants as item
use Rattle.node_rules.specs.CommandTable.{Table, establishment, row, rows_after}
use Rattle.node_rules.specs.MasterGo.{moving_of}
use Rattle.node_rules.specs.MasterRecords.{is_moving}
use Rattle.node_rules.specs.Places.{anchor_at}
use Rattle.node_rules.specs.declared.commands.Row.{Row}
use Rattle.run_control.proofs.Turns.{never, or_first, or_later}
use Rattle.run_pairs.specs.Bearers.{AreApart}
use Rattle.run_pairs.proofs.BearersCarried.{row_set}
use Rattle.run_pairs.proofs.Placed.{item_apart}
use Rattle.run_places.proofs.States.{row_in}

-- ---- the item of a bearer

any_none : (items : List Item) (k : ℕ) → list_any (λ j. item_id j == k) items ≡ false → find (λ j. item_id j == k) items ≡ None
any_none [] k none = refl
any_none (i ∷ items) k none =
    ap (λ b. if b then Some i else find (λ j. item_id j == k) items) (or_first (item_id i == k) (list_any (λ j. item_id j == k) items) none)
    ∙ any_none items k (or_later (item_id i == k) (list_any (λ j. item_id j == k) items) none)

-- what it finds is of the bearer
pub found_here : (items : List Item) (k : ℕ) (i : Item) → find (λ j. item_id j == k) items ≡ Some i → item_id i ≡ k
found_here [] k i found = absurd cc
found_here (j ∷ items) k i found = by (item_id j == k) refl found (λ rest. found_here items k i rest)
  where
    by : (b : Bool) → (item_id j == k) ≡ b → (if b then Some j else find (λ z. item_id z == k) items) ≡ Some i → (find (λ z. item_id z == k) items ≡ Some i → item_id i ≡ k) → item_id i ≡ k
    by true here is more = ap item_id (sym (same_Some j i is)) ∙ eqb-true (item_id j) k here
    by false other is more = more is

-- of several items: the first, or one of the others
pub data FirstItem (j : Item) (items : List Item) (k : ℕ) (o : Option Item) : Type 0 where
  is_first : (here : (item_id j == k) ≡ true) → (is : o ≡ Some j) → (rest : find (λ z. item_id z == k) items ≡ None) → FirstItem j items k o
  is_later : (other : (item_id j == k) ≡ false) → (rest : find (λ z. item_id z == k) items ≡ o) → FirstItem j items k o

pub first_item : (j : Item) (items : List Item) (k : ℕ) → AreApart (j ∷ items) → FirstItem j items k (find (λ z. item_id z == k) (j ∷ items))
first_item j items k apart = by (item_id j == k) refl
  where
    by : (b : Bool) → (item_id j == k) ≡ b → FirstItem j items k (if b then Some j else find (λ z. item_id z == k) items)
    by true here = is_first here refl (any_none items k (subst (λ n. list_any (λ z. item_id z == n) items ≡ false) (eqb-true (item_id j) k here) apart.0))
    by false other = is_later other refl

-- ---- the row

-- that an item sets
abbrev pub row_by : Table → ℕ → Option Node → Item → Option Row
row_by t g sec (item.Set id n first shape threshold policy key old) =
    Some (record { id = id; est = establishment g old (row t id); n = n; first = first; shape = shape; threshold = threshold; policy = policy; key = key; anchor = anchor_at sec shape; g = g })
row_by t g sec (item.Unset id) = None

-- after the item of a bearer, if there is one
abbrev pub row_then : Table → ℕ → Option Node → Option Item → Option Row → Option Row
row_then t g sec None o = o
row_then t g sec (Some i) o = row_by t g sec i

module _ (t : Table) (g : ℕ) (sec : Option Node) where
  set_by : (rows : List Row) (i : Item) (k : ℕ) → (item_id i == k) ≡ true → row_in k (rows_after t g sec rows i) ≡ row_by t g sec i
  set_by rows (item.Set id n first shape threshold policy key old) k here = row_set t g sec rows (item.Set id n first shape threshold policy key old) k here
  set_by rows (item.Unset id) k here = row_set t g sec rows (item.Unset id) k here

  pub row_after : (items : List Item) (rows : List Row) (k : ℕ) → AreApart items → row_in k (fold (rows_after t g sec) rows items) ≡ row_then t g sec (find (λ j. item_id j == k) items) (row_in k rows)
  row_after [] rows k apart = refl
  row_after (i ∷ items) rows k apart = row_after items (rows_after t g sec rows i) k apart.1 ∙ by (find (λ j. item_id j == k) (i ∷ items)) (first_item i items k apart)
    where
      by : (o : Option Item) → FirstItem i items k o → row_then t g sec (find (λ j. item_id j == k) items) (row_in k (rows_after t g sec rows i)) ≡ row_then t g sec o (row_in k rows)
      by o (is_first here is rest) =
          ap (λ z. row_then t g sec z (row_in k (rows_after t g sec rows i))) rest ∙ set_by rows i k here ∙ ap (λ z. row_then t g sec z (row_in k rows)) (sym is)
      by o (is_later other rest) =
          ap (λ z. row_then t g sec z (row_in k (rows_after t g sec rows i))) rest ∙ ap (row_then t g sec o) (item_apart t g sec rows i k other)

-- ---- what moves

-- by the item of a bearer, if there is one
abbrev pub moves_then : ℕ → Node → Option Node → Option Item → Bool
moves_then k y sec None = false
moves_then k y sec (Some i) = list_any (is_moving k y) (moving_of sec i)

other_moves : (k : ℕ) (y : Node) (sec : Option Node) (i : Item) → (item_id i == k) ≡ false → list_any (is_moving k y) (moving_of sec i) ≡ false
other_moves k y sec (item.Set id n first shape threshold policy key None) other = refl
other_moves k y sec (item.Set id n first shape threshold policy key (Some old)) other = by (is_same_node old (anchor_at sec shape))
  where
    by : (b : Bool) → list_any (is_moving k y) (if b then [] else (id, anchor_at sec shape) ∷ []) ≡ false
    by true = refl
    by false = ap (λ b. (b && is_same_node y (anchor_at sec shape)) || false) other
other_moves k y sec (item.Unset id) other = refl

pub moves_by : (k : ℕ) (y : Node) (sec : Option Node) (items : List Item) → AreApart items → list_any (is_moving k y) (flat_map (moving_of sec) items) ≡ moves_then k y sec (find (λ j. item_id j == k) items)
moves_by k y sec [] apart = refl
moves_by k y sec (i ∷ items) apart =
    list_any-append (is_moving k y) (moving_of sec i) (flat_map (moving_of sec) items)
    ∙ ap (λ b. list_any (is_moving k y) (moving_of sec i) || b) (moves_by k y sec items apart.1) ∙ by (find (λ j. item_id j == k) (i ∷ items)) (first_item i items k apart)
  where
    or_false : (b : Bool) → (b || false) ≡ b
    or_false true = refl
    or_false false = refl

    by : (o : Option Item) → FirstItem i items k o → (list_any (is_moving k y) (moving_of sec i) || moves_then k y sec (find (λ j. item_id j == k) items)) ≡ moves_then k y sec o
    by o (is_first here is rest) =
        ap (λ z. list_any (is_moving k y) (moving_of sec i) || moves_then k y sec z) rest ∙ or_false (list_any (is_moving k y) (moving_of sec i)) ∙ ap (moves_then k y sec) (sym is)
    by o (is_later other rest) = ap (λ b. b || moves_then k y sec (find (λ j. item_id j == k) items)) (other_moves k y sec i other) ∙ ap (moves_then k y sec) rest

-- where an item has its anchor
abbrev pub anchor_by : Option Node → Item → Option Node
anchor_by sec (item.Set id n first shape threshold policy key old) = Some (anchor_at sec shape)
anchor_by sec (item.Unset id) = None

-- a bearer that an item moves to a node has its anchor there
pub moves_there : (k : ℕ) (y : Node) (sec : Option Node) (i : Item) → list_any (is_moving k y) (moving_of sec i) ≡ true → anchor_by sec i ≡ Some y
moves_there k y sec (item.Set id n first shape threshold policy key None) moves = absurd cc
moves_there k y sec (item.Set id n first shape threshold policy key (Some old)) moves = by (is_same_node old (anchor_at sec shape)) moves
  where
    second : (b d : Bool) → ((b && d) || false) ≡ true → d ≡ true
    second true true is = refl
    second true false is = absurd cc
    second false d is = absurd cc

    by : (b : Bool) → list_any (is_moving k y) (if b then [] else (id, anchor_at sec shape) ∷ []) ≡ true → Some (anchor_at sec shape) ≡ Some y
    by true is = absurd cc
    by false is = ap (λ z. Some z) (sym (same_node y (anchor_at sec shape) (second (id == k) (is_same_node y (anchor_at sec shape)) is)))
moves_there k y sec (item.Unset id) moves = absurd cc
