-- What may come from the terminal, and what stands on a link.
use Rattle.std.specs.Prelude.{Bool, false, true, ⊤, ◌&&◌, ◌≡◌}
use Rattle.dc_base.specs.Nodes.{is_same_node}
use Rattle.dc_base.specs.declared.events.Line.{Line}
use Rattle.dc_base.specs.declared.events.Line.TheVariants as line
use Rattle.dc_base.specs.declared.flights.Flight.{Flight}
use Rattle.dc_base.specs.declared.flights.Flight.TheVariants as flight
use Rattle.dc_base.specs.declared.nodes.Class.TheVariants.{Air, Ctl}
use Rattle.dc_base.specs.declared.nodes.LinkId.{LinkId}
use Rattle.dc_base.specs.declared.nodes.Node.TheVariants.{M, T}
use Rattle.claims.specs.Links.{is_class, is_from_to}
use Rattle.claims.specs.OnLink.{record_fits}
use Rattle.run_words.specs.Senders.{class_of}

-- a PDU or an ack on the air, or a record for the master whose ends are these
abbrev pub is_of_terminal : LinkId → Flight → Bool
is_of_terminal l (flight.Air id g num tag pdu) = is_class Air l
is_of_terminal l (flight.Ack id g num) = is_class Air l
is_of_terminal l (flight.Ctl r) = is_class Ctl l && is_from_to T M l && record_fits l r
is_of_terminal l (flight.Tun tag packet) = false
is_of_terminal l (flight.Sdu id g sdu) = false
is_of_terminal l (flight.End id g) = false
is_of_terminal l (flight.Told id g count) = false

-- a flight may be on a link: it is of the link's class, and may come from the terminal if the link does
pub record MayBeOn (l : LinkId) (f : Flight) : Type 0 where
  pub class : l.class ≡ class_of f
  pub terminal : is_same_node l.from T ≡ true → is_of_terminal l f ≡ true

-- each that a line sends may be on its link
abbrev pub MayStand : Line → Type 0
MayStand (line.Send l f) = MayBeOn l f
MayStand (line.Note n) = ⊤
MayStand (line.Event e) = ⊤
MayStand (line.Answer a) = ⊤
