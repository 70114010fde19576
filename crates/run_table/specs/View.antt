-- What the past of the claims keeps of commands, and what changes it.
use Rattle.std.specs.List.{find}
use Rattle.std.specs.Prelude.{Bool, List, None, Option, Some, false, fold, not, true, ℕ, ◌&&◌, ◌==◌, ◌∷◌}
use Rattle.dc_base.specs.declared.events.Event.{Event}
use Rattle.dc_base.specs.declared.nodes.Node.{Node}
use Rattle.dc_base.specs.declared.records.Plan.{Plan}
use Rattle.claims.specs.Carrying.{plan_of, with_command, with_item}
use Rattle.claims.specs.Drafts.{Draft, draft}
use Rattle.claims.specs.Past.{Past}
use Rattle.claims.specs.Table.{Command, Table, is_change}

-- the command table, and the plans drawn
pub record View : Type 0 where
  pub table : Table
  pub plans : List Plan

-- of a past
abbrev pub view : Past → View
view p = record { table = p.table; plans = p.plans }

-- a draft is drawn
abbrev pub draws_if : Event → Option Node → Option Draft → View → View
draws_if e asker None v = v
draws_if e asker (Some d) v = record { table = with_command v.table e asker d; plans = plan_of v.table d ∷ v.plans }

-- a command is drawn
abbrev pub draws : Event → Option Node → View → View
draws e asker v = draws_if e asker (draft v.table e) v

-- the plan of a generation
abbrev pub planned : List Plan → ℕ → Option Plan
planned plans g = find (λ q. q.g == g) plans

-- a plan is carried out
abbrev pub carries_plan : ℕ → Command → Option Plan → View → View
carries_plan g c None v = v
carries_plan g c (Some q) v = record v {
  table = record (fold (with_item g) v.table q.items) { sec = q.sec; root = c.root; second_key = c.second_key; command = Some (record c { is_carried = true }) };
}

-- if it is the command's, and was not carried out yet
abbrev pub carries_if : ℕ → Command → Bool → View → View
carries_if g c false v = v
carries_if g c true v = carries_plan g c (planned v.plans g) v

-- with the command that is open
abbrev pub carries_with : ℕ → Option Command → View → View
carries_with g None v = v
carries_with g (Some c) v = carries_if g c (is_change g c.kind && not c.is_carried) v

-- the plan of a generation is carried out
abbrev pub carries : ℕ → View → View
carries g v = carries_with g v.table.command v

-- no command is open
abbrev pub ends : View → View
ends v = record v { table = record v.table { command = None } }
