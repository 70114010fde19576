-- Flights in order, as runs of flights that stand next to one another.
use Rattle.std.specs.Option.{option_map}
use Rattle.std.specs.Prelude.{List, None, Option, Some, [], if◌then◌else◌, length, nat_lt, suc, ℕ, ◌++◌, ◌-◌, ◌∷◌}
use Rattle.dc_base.specs.declared.flights.Flight.{Flight}

-- all of them, one run after another
abbrev pub joined : List (List Flight) → List Flight
joined [] = []
joined (r ∷ rs) = r ++ joined rs

-- the place of a run, and that of a flight in it
abbrev pub next_run : ℕ × ℕ → ℕ × ℕ
next_run p = (suc p.0, p.1)

-- the run that has the flight at this place of all, and the flight's place in it
abbrev pub place_in : List (List Flight) → ℕ → Option (ℕ × ℕ)
place_in [] k = None
place_in (r ∷ rs) k = if nat_lt k (length r) then Some (0, k) else option_map next_run (place_in rs (k - length r))
