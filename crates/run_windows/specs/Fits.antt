-- What the procedures of the master hold of each bearer, as it is seen of the past.
use Rattle.std.specs.Prelude.{◌≡◌, ◌≤◌, ◌+◌, ℕ, Bool, true, false, List, [], ◌∷◌, Option, Some, None, ⊤}
use Rattle.std.specs.List.{AllByRecursion, list_any}
use Rattle.std.proofs.Common.{◌⊎◌}
use Rattle.dc_base.specs.declared.nodes.KeyName.{KeyName}
use Rattle.dc_base.specs.declared.nodes.Node.{Node}
use Rattle.dc_base.specs.declared.nodes.Shape.{Shape}
use Rattle.dc_base.specs.declared.numbers.SnLen.{SnLen}
use Rattle.dc_base.specs.declared.records.Item.{Item}
use Rattle.dc_base.specs.declared.records.Item.TheVariants as item
use Rattle.dc_base.specs.declared.records.Plan.{Plan}
use Rattle.claims.specs.Table.{Kind, is_change}
use Rattle.node_rules.specs.CommandTable.{Table, row}
use Rattle.node_rules.specs.MasterState.{MasterProc, is_unsettled, is_unsettled_by}
use Rattle.node_rules.specs.declared.commands.Change.{Change}
use Rattle.node_rules.specs.declared.commands.Command.{Command}
use Rattle.node_rules.specs.declared.commands.Command.TheVariants.{Asked as asked, Gone as gone, Recovering as recovering}
use Rattle.node_rules.specs.declared.commands.First.{First}
use Rattle.node_rules.specs.declared.commands.Going.{Going}
use Rattle.node_rules.specs.declared.commands.Row.{Row}
use Rattle.run_windows.specs.Seen.{Count, Face, Seen, latest}
use Rattle.run_windows.specs.Windows.{set_up_by}

-- the open command is the change that set the establishment of this name up
abbrev pub is_kind_of : ℕ → Option Kind → Bool
is_kind_of g None = false
is_kind_of g (Some k) = is_change g k

-- an establishment that the master does not have: it was dropped, or never done and is not being set up
abbrev pub IsOut : Option Kind → Face × Count → Type 0
IsOut k b = (b.0.is_dropped ≡ true) ⊎ ((b.0.is_done ≡ false) × (is_kind_of b.0.g k ≡ false))

-- where there is one
abbrev pub IsNoneOrOut : Option Kind → Option (Face × Count) → Type 0
IsNoneOrOut k None = ⊤
IsNoneOrOut k (Some b) = IsOut k b

-- an establishment that is being set up
abbrev pub IsNew : Option Kind → Face × Count → Type 0
IsNew k b = (b.0.is_done ≡ false) × (b.0.is_dropped ≡ false) × (is_kind_of b.0.g k ≡ true)

-- a row of the table is that of an establishment
abbrev pub IsRow : Row → Face × Count → Type 0
IsRow r b = (r.n ≡ b.0.n) × (r.first ≡ b.0.first)

-- of an identity the master has no row, and the latest establishment is out or to be set up; or it has the row of the latest
-- establishment, which is being set up, or is done and, unless it is dropped, no command changes that
pub data Fits (s : Seen) (m : MasterProc) (id : ℕ) : Type 0 where
  absent : (none : row m.table id ≡ None) → (out : IsNoneOrOut s.kind (latest id s.bearers)) → Fits s m id
  awaited : (b : Face × Count) → (at : latest id s.bearers ≡ Some b) → (none : row m.table id ≡ None)
      → (c : Change) → (first : First) → (who : Node) → (wanted : Bool) → (opened : m.command ≡ Some (asked c first who wanted))
      → (sets : set_up_by c.plan.items ≡ Some (id, b.0.n, b.0.first)) → (new : IsNew s.kind b) → Fits s m id
  set_up : (b : Face × Count) → (at : latest id s.bearers ≡ Some b) → (r : Row) → (is : row m.table id ≡ Some r) → (same : IsRow r b)
      → (plan : Plan) → (going : Going) → (opened : m.command ≡ Some (gone plan going))
      → (sets : list_any (is_unsettled_by id) plan.items ≡ true) → (new : IsNew s.kind b) → Fits s m id
  there : (b : Face × Count) → (at : latest id s.bearers ≡ Some b) → (r : Row) → (is : row m.table id ≡ Some r) → (same : IsRow r b)
      → (done : b.0.is_done ≡ true) → (settled : b.0.is_dropped ≡ false → is_unsettled id m.command ≡ false) → Fits s m id

-- an item sets a bearer of the table, with the length of SNs and the first COUNT that it has there
abbrev pub IsOfRow : Table → Item → Type 0
IsOfRow t (item.Set id n first shape threshold policy key None) = ⊥
IsOfRow t (item.Set id n first shape threshold policy key (Some old)) = (r : Row) × (row t id ≡ Some r) × (r.n ≡ n) × (r.first ≡ first)
IsOfRow t (item.Unset id) = ⊥

-- the items of a plan: each sets a bearer of the table; or the one sets a bearer up, or drops one
pub data AreFit (s : Seen) (t : Table) (items : List Item) : Type 0 where
  settings : (all : AllByRecursion (IsOfRow t) items) → AreFit s t items
  setting_up : (id : ℕ) → (n : SnLen) → (first : ℕ) → (shape : Shape) → (threshold : ℕ) → (policy : ℕ) → (key : KeyName)
      → (is : items ≡ item.Set id n first shape threshold policy key None ∷ []) → (none : row t id ≡ None)
      → (b : Face × Count) → (at : latest id s.bearers ≡ Some b) → (same_n : b.0.n ≡ n) → (same_first : b.0.first ≡ first) → (new : IsNew s.kind b) → AreFit s t items
  dropping : (id : ℕ) → (is : items ≡ item.Unset id ∷ []) → AreFit s t items

-- those of a command that is not carried out yet
abbrev pub IsOpened : Seen → Table → Option Command → Type 0
IsOpened s t None = ⊤
IsOpened s t (Some (asked c first who wanted)) = AreFit s t c.plan.items
IsOpened s t (Some (gone plan going)) = ⊤
IsOpened s t (Some (recovering id terminal second)) = ⊤

-- rows by ascending identities, from this one on
abbrev pub AreAscending : ℕ → List Row → Type 0
AreAscending low [] = ⊤
AreAscending low (r ∷ rs) = (low ≤ r.id) × AreAscending (r.id + 1) rs

-- the past and the master agree on each identity and on the open command; no establishment is later than the last generation, and
-- the master's rows ascend
pub record Fit (s : Seen) (m : MasterProc) : Type 0 where
  pub each : (id : ℕ) → Fits s m id
  pub opened : IsOpened s m.table m.command
  pub bound : (id : ℕ) (b : Face × Count) → latest id s.bearers ≡ Some b → b.0.g ≤ s.last
  pub ascends : AreAscending 0 m.table.rows
