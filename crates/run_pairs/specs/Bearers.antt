-- Which bearers a secondary node is to have by the master's table, and which it holds.
use Rattle.std.specs.List.{AllByRecursion, list_any}
use Rattle.std.specs.Prelude.{Bool, List, None, Option, Some, [], false, find, not, true, ℕ, ⊤, ◌&&◌, ◌==◌, ◌∷◌, ◌≡◌}
use Rattle.dc_base.specs.Count.{bits}
use Rattle.dc_base.specs.Nodes.{is_same_node}
use Rattle.dc_base.specs.Records.{item_id}
use Rattle.dc_base.specs.declared.nodes.Node.{Node}
use Rattle.dc_base.specs.declared.numbers.SnLen.{SnLen}
use Rattle.dc_base.specs.declared.records.Item.{Item}
use Rattle.dc_base.specs.declared.records.Item.TheVariants as item
use Rattle.dc_base.specs.declared.records.Rec.{Rec}
use Rattle.dc_base.specs.declared.records.Rec.TheVariants as rec
use Rattle.dc_base.specs.declared.nodes.Node.TheVariants.{M}
use Rattle.node_rules.specs.MasterRecords.{is_moving}
use Rattle.node_rules.specs.Places.{anchor_at}
use Rattle.node_rules.specs.declared.commands.Row.{Row}
use Rattle.run_control.specs.SecondControl.{Views, fits, holds_there}
use Rattle.run_control.specs.Views.{View}

-- the node has the bearer, or waits for it, with this SN length and first COUNT
abbrev pub is_alike : SnLen → ℕ → Option View → Bool
is_alike n first None = false
is_alike n first (Some v) = (bits v.bearer.n == bits n) && (v.bearer.first == first)

-- a row with its anchor at the node: the node has such a bearer, and holds it unless it still moves there
abbrev pub IsHeldAt : Node → Option View → Bool → Option Row → Type 0
IsHeldAt x v moving None = ⊤
IsHeldAt x v moving (Some r) = is_same_node x r.anchor ≡ true → (is_alike r.n r.first v ≡ true) × (moving ≡ false → holds_there v ≡ true)

-- each row, where these bearers move
abbrev pub AreHeld : Node → Views → List (ℕ × Node) → List Row → Type 0
AreHeld x views moving rows = (k : ℕ) → IsHeldAt x (views k) (list_any (is_moving k x) moving) (find (λ r. r.id == k) rows)

-- no two items are of one identity
abbrev pub AreApart : List Item → Type 0
AreApart [] = ⊤
AreApart (i ∷ items) = (list_any (λ j. item_id j == item_id i) items ≡ false) × AreApart items

-- what the node held, of whatever SN length and first COUNT, it holds still
abbrev pub KeepsHeld : Option View → Option View → Type 0
KeepsHeld before after = ((n : SnLen) (first : ℕ) → is_alike n first before ≡ true → is_alike n first after ≡ true) × (holds_there before ≡ true → holds_there after ≡ true)

-- for each identity
abbrev pub KeepsAll : Views → Views → Type 0
KeepsAll before after = (k : ℕ) → KeepsHeld (before k) (after k)

-- ---- the line to a secondary node

-- the record may change what the node holds: a plan that it may agree to, or that it leaves by, or the end of its context
abbrev pub is_mover : Rec → Bool
is_mover (rec.Addreq plan key) = true
is_mover (rec.Modreq plan key) = true
is_mover (rec.Relreq plan) = true
is_mover (rec.Chgcnf plan) = true
is_mover (rec.Relcnf plan) = not (plan.g == 0)
is_mover (rec.Uecr g) = true
is_mover _ = false

-- the record fits whatever the node holds
abbrev pub IsFree : Node → Rec → Type 0
IsFree x r = (views : Views) → fits x views r ≡ true

-- each record fits what the node holds where it comes; behind one that may change that, whatever it holds
abbrev pub IsFitLine : Node → Views → List Rec → Type 0
IsFitLine x views [] = ⊤
IsFitLine x views (r ∷ q) = (fits x views r ≡ true) × (is_mover r ≡ true → AllByRecursion (IsFree x) q) × IsFitLine x views q

-- ---- plans

-- the row has this old anchor, SN length and first COUNT
abbrev pub IsRowOf : Node → SnLen → ℕ → Option Row → Type 0
IsRowOf old n first None = ⊥
IsRowOf old n first (Some r) = (r.anchor ≡ old) × (r.n ≡ n) × (r.first ≡ first)

-- an item that presupposes an old anchor is of a row of the table
abbrev pub IsOfRow : List Row → Item → Type 0
IsOfRow rows (item.Set id n first shape threshold policy key None) = ⊤
IsOfRow rows (item.Set id n first shape threshold policy key (Some old)) = IsRowOf old n first (find (λ r. r.id == id) rows)
IsOfRow rows (item.Unset id) = ⊤

-- each item of a plan is, and no two are of one identity
pub record IsOfTable (rows : List Row) (items : List Item) : Type 0 where
  pub olds : AllByRecursion (IsOfRow rows) items
  pub apart : AreApart items

-- the new anchor of an item is at the master
abbrev pub IsAtMaster : Option Node → Item → Type 0
IsAtMaster sec (item.Set id n first shape threshold policy key old) = anchor_at sec shape ≡ M
IsAtMaster sec (item.Unset id) = ⊤
