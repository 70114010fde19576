-- The first record of a change, and the octets of the K_SN that it carries (TS 33.501, 6.10.2.1; TS 38.423, 8.3.1 and 8.3.3).
use Rattle.std.specs.List.{AllByRecursion, list_any}
use Rattle.std.specs.Prelude.{Bool, List, Some, false, ℕ, ◌≡◌, ⊤}
use Rattle.dc_base.specs.declared.events.Line.{Line}
use Rattle.dc_base.specs.declared.events.Line.TheVariants as line
use Rattle.dc_base.specs.declared.flights.Flight.{Flight}
use Rattle.dc_base.specs.declared.flights.Flight.TheVariants as flight
use Rattle.dc_base.specs.declared.nodes.Node.{Node}
use Rattle.dc_base.specs.declared.records.Rec.TheVariants as rec
use Rattle.key_chain.specs.KeyNames.{octets}
use Rattle.node_rules.specs.Choices.{Send}
use Rattle.node_rules.specs.Lines.{is_end}
use Rattle.node_rules.specs.MasterState.{MasterProc}
use Rattle.node_rules.specs.declared.commands.Change.{Change}
use Rattle.node_rules.specs.declared.commands.Command.TheVariants.{Asked as asked}
use Rattle.node_rules.specs.declared.commands.First.{First}
use Rattle.node_rules.specs.declared.inputs.Effects.{Effects}
use Rattle.run_plans.specs.Leading.{is_first}

-- the flight is a first record that carries a K_SN
abbrev pub is_first_flight : Flight → Bool
is_first_flight (flight.Ctl r) = is_first r
is_first_flight _ = false

-- the line sends one
abbrev pub is_first_line : Line → Bool
is_first_line (line.Send l f) = is_first_flight f
is_first_line _ = false

-- one is of this change, with the octets of its K_SN
abbrev pub IsFirstOf : List (List ℕ) → Change → Flight → Type 0
IsFirstOf roots c (flight.Ctl (rec.Addreq q key)) = (q ≡ c.plan) × (key ≡ octets roots c.second_key)
IsFirstOf roots c (flight.Ctl (rec.Modreq q key)) = (q ≡ c.plan) × (key ≡ octets roots c.second_key)
IsFirstOf roots c _ = ⊤

-- what comes of a step of the master: no first record; or those of the change that is asked, and then no command ends
pub data AsksBy (m : MasterProc) (x : Effects) : Type 0 where
  asks_none : (none : AllByRecursion (λ (s : Send). is_first_flight s.1 ≡ false) x.sends) → AsksBy m x
  asks_for : (c : Change) → (first : First) → (who : Node) → (wanted : Bool) → (opened : m.command ≡ Some (asked c first who wanted))
      → (are : AllByRecursion (λ (s : Send). IsFirstOf m.table.book.roots c s.1) x.sends) → (goes_on : list_any is_end x.notes ≡ false) → AsksBy m x
