-- How many events, flights and octets of flights lines have, and the limits of a run.
use Rattle.std.specs.Prelude.{Bool, List, count_by, false, length, sum_by, true, ℕ, ◌+◌, ◌^◌, ◌≤◌}
use Rattle.dc_base.specs.declared.events.Line.{Line}
use Rattle.dc_base.specs.declared.events.Line.TheVariants as line
use Rattle.dc_base.specs.declared.flights.Flight.{Flight}
use Rattle.dc_base.specs.declared.flights.Flight.TheVariants as flight
use Rattle.dc_base.specs.declared.nodes.LinkId.{LinkId}
use Rattle.dc_network.specs.declared.counting.Counts.{Counts}
use Rattle.transcript.specs.Transcript.{sends}

-- the octets that a flight counts: those of its PDU, its packet or its payload
abbrev pub octets_of : LinkId × Flight → ℕ
octets_of (l, flight.Air id g num tag pdu) = length pdu
octets_of (l, flight.Tun tag packet) = length packet
octets_of (l, flight.Sdu id g sdu) = length sdu
octets_of _ = 0

-- whether a line is an event
abbrev pub is_event : Line → Bool
is_event (line.Event e) = true
is_event _ = false

-- a number of events, of flights and of octets of flights
abbrev pub Counted : Type 0
Counted = Counts

-- how many of them some lines have
abbrev pub counted : List Line → Counted
counted lines = record {
  events = count_by is_event lines;
  flights = length (sends lines);
  octets = sum_by octets_of (sends lines);
}

-- the counts of both
abbrev pub counts_of_both : Counted → Counted → Counted
counts_of_both a b = record { events = a.events + b.events; flights = a.flights + b.flights; octets = a.octets + b.octets }

-- within the limits of a run: 1,048,576 events, 4,194,304 flights and 256 MiB of flight octets
pub record IsWithin (c : Counted) : Type 0 where
  pub events : c.events ≤ 2 ^ 20
  pub flights : c.flights ≤ 2 ^ 22
  pub octets : c.octets ≤ 2 ^ 28
