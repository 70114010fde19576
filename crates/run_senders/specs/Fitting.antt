-- A record is on a link between the ends that it has.
use Rattle.std.specs.Prelude.{Bool, false, true, ◌≡◌, ⊤}
use Rattle.dc_base.specs.declared.events.Line.{Line}
use Rattle.dc_base.specs.declared.events.Line.TheVariants as line
use Rattle.dc_base.specs.declared.flights.Flight.{Flight}
use Rattle.dc_base.specs.declared.flights.Flight.TheVariants as flight
use Rattle.dc_base.specs.declared.nodes.LinkId.{LinkId}
use Rattle.claims.specs.OnLink.{record_fits}
use Rattle.node_rules.specs.Choices.{Send}

-- a flight that is a record is between its ends
abbrev pub FitsOn : LinkId → Flight → Type 0
FitsOn l (flight.Ctl r) = record_fits l r ≡ true
FitsOn l (flight.Air id g num tag pdu) = ⊤
FitsOn l (flight.Ack id g num) = ⊤
FitsOn l (flight.Tun tag packet) = ⊤
FitsOn l (flight.Sdu id g sdu) = ⊤
FitsOn l (flight.End id g) = ⊤
FitsOn l (flight.Told id g count) = ⊤

-- of a send
abbrev pub IsFitting : Send → Type 0
IsFitting s = FitsOn s.0 s.1

-- and of a line
abbrev pub IsFittingLine : Line → Type 0
IsFittingLine (line.Send l f) = FitsOn l f
IsFittingLine (line.Note n) = ⊤
IsFittingLine (line.Event e) = ⊤
IsFittingLine (line.Answer a) = ⊤

-- a record, or an ack of a PDU on the air
abbrev pub is_record_or_ack : Line → Bool
is_record_or_ack (line.Send l (flight.Ctl r)) = true
is_record_or_ack (line.Send l (flight.Ack id g num)) = true
is_record_or_ack _ = false
