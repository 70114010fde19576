-- Where requests to modify are on their way.
use Rattle.std.specs.List.{AllByRecursion}
use Rattle.std.specs.Prelude.{true, ◌≡◌, ⊤}
use Rattle.dc_base.specs.Nodes.{is_secondary}
use Rattle.dc_base.specs.declared.events.Line.{Line}
use Rattle.dc_base.specs.declared.events.Line.TheVariants as line
use Rattle.dc_base.specs.declared.flights.Flight.{Flight}
use Rattle.dc_base.specs.declared.flights.Flight.TheVariants as flight
use Rattle.dc_base.specs.declared.nodes.LinkId.{LinkId}
use Rattle.dc_base.specs.declared.records.Rec.TheVariants as rec
use Rattle.node_rules.specs.World.{World, flights_on}

-- a request to modify is for a secondary node
abbrev pub AsksSecond : LinkId → Flight → Type 0
AsksSecond l (flight.Ctl (rec.Modreq q key)) = is_secondary l.to ≡ true
AsksSecond l _ = ⊤

-- so is one that a line sends
abbrev pub LineAsks : Line → Type 0
LineAsks (line.Send l f) = AsksSecond l f
LineAsks _ = ⊤

-- and each that is on its way
abbrev pub AskSecond : World → Type 0
AskSecond w = (l : LinkId) → AllByRecursion (AsksSecond l) (flights_on l w.links)
