-- A bearer that was dropped is gone from the table, or its drop is asked for: no drop is rejected.
use Rattle.std.specs.List.{list_any}
use Rattle.std.specs.Prelude.{Bool, List, None, Option, Some, [], false, true, ℕ, ⊤, ◌==◌, ◌∷◌, ◌≡◌}
use Rattle.dc_base.specs.declared.events.Event.{Event}
use Rattle.dc_base.specs.declared.events.Event.TheVariants as event
use Rattle.dc_base.specs.declared.nodes.Node.{Node}
use Rattle.dc_base.specs.declared.records.Item.TheVariants as item
use Rattle.claims.specs.Past.{Past}
use Rattle.claims.specs.Reading.{sets}
use Rattle.node_rules.specs.CommandTable.{row}
use Rattle.node_rules.specs.MasterState.{MasterProc}
use Rattle.node_rules.specs.World.{World}
use Rattle.node_rules.specs.declared.commands.Change.{Change}
use Rattle.node_rules.specs.declared.commands.Command.{Command}
use Rattle.node_rules.specs.declared.commands.Command.TheVariants.{Asked as asked, Gone as gone, Recovering as recovering}
use Rattle.node_rules.specs.declared.commands.First.{First}
use Rattle.run_windows.specs.Seen.{Count, Face, latest, seen}

-- the plan that awaits its agreement does not set the bearer
abbrev pub IsUnset : ℕ → Option Command → Type 0
IsUnset id None = ⊤
IsUnset id (Some (asked c first who wanted)) = list_any (sets id) c.plan.items ≡ false
IsUnset id (Some (gone plan going)) = ⊤
IsUnset id (Some (recovering i terminal second)) = ⊤

-- the table has no such bearer, and none is set; or the open command asks for the drop of it alone
pub data IsGoneOrGoing (id : ℕ) (m : MasterProc) : Type 0 where
  is_gone : (none : row m.table id ≡ None) → (unset : IsUnset id m.command) → IsGoneOrGoing id m
  is_going : (c : Change) → (first : First) → (who : Node) → (wanted : Bool) → (opened : m.command ≡ Some (asked c first who wanted)) → (items : c.plan.items ≡ item.Unset id ∷ [])
      → IsGoneOrGoing id m

-- whether a bearer is there and was dropped
abbrev pub is_dropped_in : Option (Face × Count) → Bool
is_dropped_in None = false
is_dropped_in (Some b) = b.0.is_dropped

-- of the latest establishment of an identity
abbrev pub is_dropped_at : ℕ → List (Face × Count) → Bool
is_dropped_at id bs = is_dropped_in (latest id bs)

-- each bearer that was dropped is gone, or goes
abbrev pub DropsGoOn : Past → World → Type 0
DropsGoOn p w = (id : ℕ) → is_dropped_at id (seen p).bearers ≡ true → IsGoneOrGoing id w.master.proc

-- the event sets up a bearer of this identity
abbrev pub sets_up : ℕ → Event → Bool
sets_up id (event.Bearer i n first shape threshold policy) = i == id
sets_up id _ = false

-- the event drops it
abbrev pub drops : ℕ → Event → Bool
drops id (event.Remove i) = i == id
drops id _ = false
