-- Who sends on which kind of link.
use Rattle.std.specs.Prelude.{◌≡◌, List}
use Rattle.std.specs.List.{AllByRecursion}
use Rattle.dc_base.specs.declared.flights.Flight.{Flight}
use Rattle.dc_base.specs.declared.flights.Flight.TheVariants as flight
use Rattle.dc_base.specs.declared.nodes.Class.{Class}
use Rattle.dc_base.specs.declared.nodes.Class.TheVariants.{Air, Ctl, Feed, Tun}
use Rattle.dc_base.specs.declared.nodes.Node.{Node}
use Rattle.node_rules.specs.Choices.{Send}

-- the class of the links that a flight travels on
abbrev pub class_of : Flight → Class
class_of (flight.Air id g num tag pdu) = Air
class_of (flight.Ack id g num) = Air
class_of (flight.Tun tag packet) = Tun
class_of (flight.Sdu id g sdu) = Feed
class_of (flight.End id g) = Feed
class_of (flight.Told id g count) = Feed
class_of (flight.Ctl r) = Ctl

-- a send is on a link that begins at this node and has the class of its flight
abbrev pub IsBy : Node → Send → Type 0
IsBy x s = (s.0.from ≡ x) × (s.0.class ≡ class_of s.1)

-- each is
abbrev pub AreBy : Node → List Send → Type 0
AreBy x ss = AllByRecursion (IsBy x) ss
