-- Identities in their range (TS 38.331, 6.3.2: DRB-Identity).
use Rattle.std.specs.List.{AllByRecursion}
use Rattle.std.specs.Prelude.{⊤, ℕ, ◌≤◌}
use Rattle.dc_base.specs.declared.events.Event.{Event}
use Rattle.dc_base.specs.declared.events.Event.TheVariants as event
use Rattle.dc_base.specs.declared.records.Item.{Item}
use Rattle.dc_base.specs.declared.records.Item.TheVariants.{Set, Unset}
use Rattle.dc_base.specs.declared.records.Plan.{Plan}
use Rattle.claims.specs.Table.{Row}
use Rattle.run_table.specs.View.{View}

-- an identity of a bearer
abbrev pub IsIdentity : ℕ → Type 0
IsIdentity id = (1 ≤ id) × (id ≤ 32)

-- an event that sets up a bearer names one
abbrev pub NamesIdentity : Event → Type 0
NamesIdentity (event.Bearer id n first shape threshold policy) = IsIdentity id
NamesIdentity _ = ⊤

-- an item that sets something does
abbrev pub IsNamedItem : Item → Type 0
IsNamedItem (Set id n first shape threshold policy key old) = IsIdentity id
IsNamedItem (Unset id) = ⊤

-- a row does
abbrev pub IsNamedRow : Row → Type 0
IsNamedRow r = IsIdentity r.id

-- a plan does
abbrev pub IsNamedPlan : Plan → Type 0
IsNamedPlan q = AllByRecursion IsNamedItem q.items

-- all rows and plans do, and no generation was drawn past this one
pub record IsNamed (k : ℕ) (v : View) : Type 0 where
  pub rows : AllByRecursion IsNamedRow v.table.rows
  pub plans : AllByRecursion IsNamedPlan v.plans
  pub last : v.table.last ≤ k
