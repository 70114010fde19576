-- Where the plans that were drawn have the anchor and the leg host of each bearer (TS 37.340, 4.2.2 and 8), and how long its SNs are.
use Rattle.std.specs.Prelude.{List, None, Option, Some, find, if◌then◌else◌, ⊤, ℕ, ◌<◌, ◌^◌}
use Rattle.std.specs.List.{AllByRecursion}
use Rattle.std.specs.Option.{option_and_then}
use Rattle.dc_base.specs.declared.nodes.Node.{Node}
use Rattle.dc_base.specs.declared.nodes.Node.TheVariants.{M}
use Rattle.dc_base.specs.declared.nodes.Shape.{Shape}
use Rattle.dc_base.specs.declared.numbers.SnLen.{SnLen}
use Rattle.dc_base.specs.declared.numbers.SnLen.TheVariants.{S12}
use Rattle.dc_base.specs.declared.records.Item.{Item}
use Rattle.dc_base.specs.declared.records.Item.TheVariants.{Set, Unset}
use Rattle.dc_base.specs.declared.records.Plan.{Plan}
use Rattle.claims.specs.Reading.{sets}
use Rattle.node_rules.specs.Places.{anchor_at, node_or_master}
use Rattle.claims.specs.Table.{Row}
use Rattle.dc_base.specs.declared.events.Event.{Event}
use Rattle.dc_base.specs.declared.events.Event.TheVariants as event
use Rattle.run_table.specs.View.{View, planned}
use Rattle.run_confirmed.specs.Stories.{Layout}

-- of a bearer in one generation: the node of its anchor, that of its leg host, if it has one, and the length of its SNs
pub record Place : Type 0 where
  pub home : Node
  pub host : Node
  pub n : SnLen

-- the node of the leg host of a bearer of this shape, if it has one: the other one of master and secondary node
abbrev pub host_in : Option Node → Shape → Node
host_in sec s = if s.at_second then M else node_or_master sec

-- as an item sets it
abbrev pub placed : Option Node → Option Item → Option Place
placed sec None = None
placed sec (Some (Set id n first shape threshold policy key old)) = Some (record { home = anchor_at sec shape; host = host_in sec shape; n = n })
placed sec (Some (Unset id)) = None

-- as the plan of a generation does
abbrev pub place_in : List Plan → ℕ → ℕ → Option Place
place_in plans id g = option_and_then (λ (q : Plan). placed q.sec (find (sets id) q.items)) (planned plans g)

-- what no plan sets is at the master, as far as it matters
abbrev pub place_or : Option Place → Place
place_or None = record { home = M; host = M; n = S12 }
place_or (Some p) = p

-- by these plans
abbrev pub layout_of : List Plan → Layout
layout_of plans = record {
  home = λ id g. (place_or (place_in plans id g)).home;
  host = λ id g. (place_or (place_in plans id g)).host;
  n = λ id g. (place_or (place_in plans id g)).n;
}

-- the first COUNT that an item sets has 32 bits
abbrev pub SetsLow : Item → Type 0
SetsLow (Set id n first shape threshold policy key old) = first < 2 ^ 32
SetsLow (Unset id) = ⊤

-- so do those of each plan
abbrev pub AreLow : List Plan → Type 0
AreLow plans = AllByRecursion (λ (q : Plan). AllByRecursion SetsLow q.items) plans

-- that of a row
abbrev pub IsLowRow : Row → Type 0
IsLowRow r = r.first < 2 ^ 32

-- of all rows and plans
pub record HasLow (v : View) : Type 0 where
  pub rows : AllByRecursion IsLowRow v.table.rows
  pub plans : AreLow v.plans

-- an event that sets up a bearer has it begin with such a COUNT
abbrev pub BeginsLow : Event → Type 0
BeginsLow (event.Bearer id n first shape threshold policy) = first < 2 ^ 32
BeginsLow _ = ⊤
