-- What stands on a link after an event, in its order.
use Rattle.std.specs.Prelude.{Bool, List, [], if◌then◌else◌, not, true, ◌∷◌}
use Rattle.std.specs.List.{filter_map, flat_map, list_any}
use Rattle.std.specs.Prelude.{None, Option, Some}
use Rattle.dc_base.specs.Links.{link}
use Rattle.dc_base.specs.declared.flights.Flight.{Flight}
use Rattle.dc_base.specs.declared.flights.Flight.TheVariants as flight
use Rattle.dc_base.specs.declared.nodes.Class.TheVariants.{Ctl}
use Rattle.dc_base.specs.declared.nodes.LinkId.{LinkId}
use Rattle.dc_base.specs.declared.nodes.Node.{Node}
use Rattle.dc_base.specs.declared.records.Rec.{Rec}
use Rattle.node_rules.specs.Choices.{Send}
use Rattle.node_rules.specs.World.{World, flights_on}
use Rattle.transcript.specs.Content.{on_link}

-- the record in a flight
abbrev pub record_of : Flight → Option Rec
record_of (flight.Ctl r) = Some r
record_of _ = None

-- the records between two nodes, in their order
abbrev pub records_on : Node → Node → World → List Rec
records_on x y w = filter_map record_of (flights_on (link x y Ctl) w.links)

-- the flights of sends on a link, in their order
abbrev pub sent_on : LinkId → List Send → List Flight
sent_on l sends = flat_map (on_link l) sends

-- the idle ones come first, and none later
abbrev pub idles_first : {X : Type 0} → (X → Bool) → List X → Bool
idles_first is_idle [] = true
idles_first is_idle (x ∷ xs) = if is_idle x then idles_first is_idle xs else not (list_any is_idle xs)

-- from the first one on that opens
abbrev pub is_in_turn : {X : Type 0} → (X → Bool) → (X → Bool) → List X → Bool
is_in_turn is_idle opens [] = true
is_in_turn is_idle opens (x ∷ xs) = if opens x then idles_first is_idle (x ∷ xs) else is_in_turn is_idle opens xs
