-- What is to be agreed of each bearer between the master and the terminal: its SN length and its first COUNT.
use Rattle.std.specs.List.{AllByRecursion}
use Rattle.std.specs.Option.{option_map}
use Rattle.std.specs.Prelude.{Bool, List, None, Option, Some, [], find, if◌then◌else◌, is_none, is_some, false, true, ℕ, ⊤, ◌+◌, ◌==◌, ◌∷◌, ◌≡◌, ◌≤◌, ◌&&◌}
use Rattle.std.specs.List.{flat_map}
use Rattle.dc_base.specs.Count.{bits}
use Rattle.dc_base.specs.Records.{item_id}
use Rattle.dc_base.specs.declared.records.Item.{Item}
use Rattle.dc_base.specs.declared.records.Item.TheVariants as item
use Rattle.dc_base.specs.declared.records.Plan.{Plan}
use Rattle.dc_base.specs.declared.records.Rec.{Rec}
use Rattle.dc_base.specs.declared.records.Rec.TheVariants as rec
use Rattle.node_rules.specs.MasterState.{MasterActs, MasterProc}
use Rattle.node_rules.specs.declared.commands.Command.{Command}
use Rattle.node_rules.specs.declared.commands.Command.TheVariants.{Asked as asked, Gone as gone, Recovering as recovering}
use Rattle.node_rules.specs.declared.commands.Row.{Row}
use Rattle.run_control.specs.Telling.{told_by_act}
use Rattle.run_control.specs.TerminalControl.{Bearers}
use Rattle.run_control.specs.Views.{Bearer}

-- by identities
abbrev pub Have : Type 0
Have = ℕ → Option (ℕ × ℕ)

-- by the table
abbrev pub row_has : Option Row → Option (ℕ × ℕ)
row_has o = option_map (λ (r : Row). (bits r.n, r.first)) o

-- SN length and first COUNT of each bearer of the master's rows
abbrev pub rows_have : List Row → Have
rows_have rows id = row_has (find (λ (r : Row). r.id == id) rows)

-- at the terminal
abbrev pub bearer_has : Option Bearer → Option (ℕ × ℕ)
bearer_has o = option_map (λ (b : Bearer). (bits b.n, b.first)) o

-- those of each bearer that the terminal has
abbrev pub bearers_have : Bearers → Have
bearers_have bearers id = bearer_has (bearers id)

-- ---- plans

-- after an item
abbrev pub item_has : Item → Option (ℕ × ℕ)
item_has (item.Set id n first shape threshold policy key old) = Some (bits n, first)
item_has (item.Unset id) = None

-- and after an item: those of the bearer that it sets, none of the one that it drops
abbrev pub have_with : Item → Have → Have
have_with i have id = if item_id i == id then item_has i else have id

-- after several
abbrev pub have_after : List Item → Have → Have
have_after [] have = have
have_after (i ∷ items) have = have_after items (have_with i have)

-- a bearer is there, with this SN length and first COUNT
abbrev pub has_like : ℕ → ℕ → Option (ℕ × ℕ) → Bool
has_like n first None = false
has_like n first (Some x) = (x.0 == n) && (x.1 == first)

-- an item can be taken
abbrev pub item_fits : Have → Item → Bool
item_fits have (item.Set id n first shape threshold policy key None) = is_none (have id)
item_fits have (item.Set id n first shape threshold policy key (Some old)) = has_like (bits n) first (have id)
item_fits have (item.Unset id) = is_some (have id)

-- each item can
abbrev pub Fit : Have → List Item → Type 0
Fit have items = AllByRecursion (λ i. item_fits have i ≡ true) items

-- ---- the master's procedures

-- the rows stand by ascending identities, from this one on
abbrev pub RowsFrom : ℕ → List Row → Type 0
RowsFrom from [] = ⊤
RowsFrom from (r ∷ rows) = (from ≤ r.id) × RowsFrom (r.id + 1) rows

-- the plan that awaits its agreement fits the rows
abbrev pub CommandFits : Have → Option Command → Type 0
CommandFits have None = ⊤
CommandFits have (Some (asked c first who wanted)) = Fit have c.plan.items
CommandFits have (Some (gone plan going)) = ⊤
CommandFits have (Some (recovering id terminal second)) = ⊤

-- the state
pub record IsBooked (m : MasterProc) : Type 0 where
  pub rows : RowsFrom 0 m.table.rows
  pub command : CommandFits (rows_have m.table.rows) m.command

-- a step: nothing is told, and the rows stay; a plan is told that fits the rows, which they are after it; or a recovery of a bearer that is there
pub data Books (have : Have) (r : MasterActs) : Type 0 where
  books_nothing : (told : flat_map told_by_act r.1 ≡ []) → (same : (k : ℕ) → rows_have r.0.table.rows k ≡ have k) → Books have r
  books_plan : (p : Plan) (key : List ℕ) → (told : flat_map told_by_act r.1 ≡ rec.Reconf p key ∷ []) → (fits : Fit have p.items) → (after : (k : ℕ) → rows_have r.0.table.rows k ≡ have_after p.items have k) → Books have r
  books_recovery : (id : ℕ) → (told : flat_map told_by_act r.1 ≡ rec.Recov id ∷ []) → (same : (k : ℕ) → rows_have r.0.table.rows k ≡ have k) → (there : is_some (have id) ≡ true) → Books have r

-- ---- both

-- what the terminal has is what the table has, once it has taken what is on its way
abbrev pub HaveBoth : Have → List Rec → Have → Type 0
HaveBoth at_terminal [] at_master = (k : ℕ) → at_terminal k ≡ at_master k
HaveBoth at_terminal (rec.Reconf p key ∷ rest) at_master = Fit at_terminal p.items × ((k : ℕ) → have_after p.items at_terminal k ≡ at_master k)
HaveBoth at_terminal (rec.Recov id ∷ rest) at_master = (is_some (at_terminal id) ≡ true) × ((k : ℕ) → at_terminal k ≡ at_master k)
HaveBoth at_terminal (r ∷ rest) at_master = ⊥
