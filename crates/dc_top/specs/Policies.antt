-- The routing policies that the program is shipped with.
use Rattle.std.specs.Prelude.{List, [], ◌∷◌}
use Rattle.split_leg.specs.Routing.{Margins}

-- the leg with fewer octets, MCG where both have as many
abbrev pub even : Margins
even = record { plus = 0; minus = 1 }

-- the SCG leg while it has at most 100,000 octets more
abbrev pub second : Margins
second = record { plus = 100000; minus = 0 }

-- both, by their numbers
abbrev pub shipped : List Margins
shipped = even ∷ second ∷ []
