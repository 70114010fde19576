-- A key is in use for an establishment (TS 33.501, 6.10.3.1).
use Rattle.std.specs.List.{AllByRecursion, list_any}
use Rattle.std.specs.Prelude.{Bool, List, Option, Some, false, find, map, nat_le, true, ℕ, ◌&&◌, ◌==◌, ◌≡◌, ◌≤◌}
use Rattle.dc_base.specs.Nodes.{is_same_node}
use Rattle.dc_base.specs.declared.events.Line.{Line}
use Rattle.dc_base.specs.declared.events.Line.TheVariants as line
use Rattle.dc_base.specs.declared.flights.Flight.{Flight}
use Rattle.dc_base.specs.declared.flights.Flight.TheVariants as flight
use Rattle.dc_base.specs.declared.nodes.KeyName.{KeyName}
use Rattle.dc_base.specs.declared.nodes.LinkId.{LinkId}
use Rattle.dc_base.specs.declared.nodes.Node.TheVariants.{T}
use Rattle.claims.specs.Past.{Past}
use Rattle.claims.specs.Reading.{Setting, setting}
use Rattle.claims.specs.Sameness.{is_same_key}
use Rattle.claims.specs.Views.{carried_plan}
use Rattle.node_rules.specs.World.{World, flights_on}
use Rattle.run_windows.specs.Seen.{Count, Face, Seen, seen}
use Rattle.run_plans.proofs.Runs.{HoldsPlans}
use Rattle.run_keys.specs.Halves.{HalvesOf, SetsOnly}
use Rattle.run_keys.specs.Names.{HoldsKeys}
use Rattle.run_keys.specs.Tables.{OfSome}

-- the name of an establishment, with its identity
abbrev pub named : Face × Count → ℕ × ℕ
named b = (b.0.g, b.0.id)

-- those of all, the latest first
abbrev pub names : Seen → List (ℕ × ℕ)
names s = map named s.bearers

-- the establishment of an identity that a generation is one of: the latest that was drawn by then
abbrev pub name_at : ℕ → ℕ → List (ℕ × ℕ) → Option (ℕ × ℕ)
name_at id g ns = find (λ (n : ℕ × ℕ). (n.1 == id) && nat_le n.0 g) ns

-- a use is of this identity, key and establishment
abbrev pub own_use : ℕ → KeyName → ℕ → ℕ → KeyName → ℕ → Bool
own_use id key e i k b = ((i == id) && is_same_key key k) && (b == e)

-- the key that the plan of a generation sets for an identity is in use for the establishment that the generation is one of
pub record IsInUse (p : Past) (id g : ℕ) : Type 0 where
  pub set : Setting
  pub at : setting p id g ≡ Some set
  pub est : ℕ
  pub named : name_at id g (names (seen p)) ≡ Some (est, id)
  pub used : list_any (λ u. own_use id set.key est u.id u.key u.bearer) p.table.uses ≡ true
  pub upto : g ≤ p.table.last

-- of the plan that a flight has the terminal carry out
abbrev pub IsFlightInUse : Past → Flight → Type 0
IsFlightInUse p f = OfSome (SetsOnly (IsInUse p)) (carried_plan f)

-- a line sends a PDU from the terminal over the air
abbrev pub is_terminal_pdu : Line → Bool
is_terminal_pdu (line.Send l (flight.Air id g num tag pdu)) = is_same_node l.from T
is_terminal_pdu _ = false

-- what holds at each moment of a run: the keys of each plan that is on its way to the terminal, and of each bearer there, are in use
pub record HoldsUses (p : Past) (w : World) : Type 0 where
  pub keys : HoldsKeys p w
  pub plans : HoldsPlans p w
  pub orders : (l : LinkId) → AllByRecursion (IsFlightInUse p) (flights_on l w.links)
  pub halves : HalvesOf (IsInUse p) w.terminal
