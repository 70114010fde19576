-- Which lines draw no plan, and which carry none that is drawn.
use Rattle.std.specs.Prelude.{Bool, List, None, ⊤, false, true, ℕ, ◌≡◌, ◌≤◌}
use Rattle.std.specs.List.{AllByRecursion}
use Rattle.std.proofs.Common.{◌⊎◌}
use Rattle.dc_base.specs.declared.events.Line.{Line}
use Rattle.dc_base.specs.declared.events.Line.TheVariants as line
use Rattle.dc_base.specs.declared.events.Note.{Note}
use Rattle.dc_base.specs.declared.events.Note.TheVariants as note
use Rattle.dc_base.specs.declared.flights.Flight.{Flight}
use Rattle.dc_base.specs.declared.flights.Flight.TheVariants as flight
use Rattle.dc_base.specs.declared.records.Plan.{Plan}
use Rattle.dc_base.specs.declared.records.Rec.TheVariants as rec
use Rattle.claims.specs.Planned.{plan_in}
use Rattle.run_relays.specs.Setups.{no_release}

-- the note says that a command begins for a secondary node
abbrev pub is_begin : Note → Bool
is_begin (note.Begin w) = true
is_begin _ = false

-- the line draws no plan
abbrev pub IsStill : Line → Type 0
IsStill (line.Note n) = is_begin n ≡ false
IsStill (line.Send l f) = ⊤
IsStill (line.Event e) = ⊤
IsStill (line.Answer a) = ⊤

-- the flight carries no plan, or the one that says that there is nothing to release
abbrev pub IsFreeFlight : Flight → Type 0
IsFreeFlight (flight.Ctl r) = (plan_in r ≡ None) ⊎ (r ≡ rec.Relcnf no_release)
IsFreeFlight _ = ⊤

-- so does the line
abbrev pub IsFree : Line → Type 0
IsFree (line.Send l f) = IsFreeFlight f
IsFree (line.Note n) = ⊤
IsFree (line.Event e) = ⊤
IsFree (line.Answer a) = ⊤

-- the generations of plans begin with 1
abbrev pub AreLater : List Plan → Type 0
AreLater plans = AllByRecursion (λ (q : Plan). 1 ≤ q.g) plans
