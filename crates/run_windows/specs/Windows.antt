-- The windows of the master, as they are seen of the past.
use Rattle.std.specs.Prelude.{◌≡◌, ◌≤◌, ◌+◌, ℕ, List, [], ◌∷◌, Option, Some, None, ⊤}
use Rattle.dc_base.specs.Count.{window}
use Rattle.dc_base.specs.declared.numbers.SnLen.{SnLen}
use Rattle.dc_base.specs.declared.records.Item.{Item}
use Rattle.dc_base.specs.declared.records.Item.TheVariants as item
use Rattle.node_rules.specs.declared.commands.Command.{Command}
use Rattle.node_rules.specs.declared.commands.Command.TheVariants.{Asked as asked, Gone as gone, Recovering as recovering}
use Rattle.node_rules.specs.Held.{held}
use Rattle.node_rules.specs.declared.bearers.Window.{Window}
use Rattle.run_windows.specs.Seen.{Count, Face, latest}

-- the window is what is seen of a bearer, and the next COUNT is at most a window past its beginning (TS 38.323, 5.2.1)
pub record IsWindow (b : Face × Count) (w : Window) : Type 0 where
  pub accepted : w.accepted ≡ b.1.submitted
  pub told : w.told ≡ b.1.freed
  pub within : b.0.first + b.1.submitted ≤ b.1.freed + window b.0.n

-- entries by ascending keys, from this one on
abbrev pub Ascends : {X : Type 0} → ℕ → List (ℕ × X) → Type 0
Ascends low [] = ⊤
Ascends low (e ∷ es) = (low ≤ e.0) × Ascends (e.0 + 1) es

-- the bearer that the first item sets up: identity, length of SNs and first COUNT
abbrev pub set_up_by : List Item → Option (ℕ × SnLen × ℕ)
set_up_by [] = None
set_up_by (item.Set id n first shape threshold policy key None ∷ items) = Some (id, n, first)
set_up_by (item.Set id n first shape threshold policy key (Some old) ∷ items) = None
set_up_by (item.Unset id ∷ items) = None

-- the bearer that the open command is to set up and did not yet
abbrev pub pending : Option Command → Option (ℕ × SnLen × ℕ)
pending None = None
pending (Some (asked c first who wanted)) = set_up_by c.plan.items
pending (Some (gone plan going)) = None
pending (Some (recovering id terminal second)) = None

-- the count of a new bearer
abbrev pub fresh_count : ℕ → Count
fresh_count first = record { submitted = 0; freed = first }

-- each window is that of the latest establishment of its identity, and nothing was counted of a bearer to be set up
pub record AreCounted (to_set_up : Option (ℕ × SnLen × ℕ)) (bs : List (Face × Count)) (ws : List (ℕ × Window)) : Type 0 where
  pub each : (id : ℕ) (w : Window) → held id ws ≡ Some w → (b : Face × Count) × (latest id bs ≡ Some b) × IsWindow b w
  pub fresh : (id : ℕ) (n : SnLen) (first : ℕ) → to_set_up ≡ Some (id, n, first)
      → (held id ws ≡ None) × ((b : Face × Count) × (latest id bs ≡ Some b) × (b.0.n ≡ n) × (b.0.first ≡ first) × (b.1 ≡ fresh_count first))
  pub ascends : Ascends 0 ws
