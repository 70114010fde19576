-- Which bearer and generation a flight is of.
use Rattle.std.specs.Prelude.{List, None, Option, Some, if◌then◌else◌, ℕ}
use Rattle.dc_base.specs.declared.flights.Flight.{Flight}
use Rattle.dc_base.specs.declared.flights.Flight.TheVariants as flight
use Rattle.pdcp_pdu.specs.DataPdu.{is_data}
use Rattle.nr_u.specs.Frames.{number}
use Rattle.nr_u.specs.declared.frame.Frame.{Frame}
use Rattle.nr_u.specs.declared.frame.Frame.TheVariants as frame
use Rattle.node_rules.specs.Packets.{Packet, delivery, forwarding, nothing, packet_of, pdu_down, pdu_up}
use Rattle.node_rules.specs.declared.bearers.Weight.{Weight}
use Rattle.node_rules.specs.declared.bearers.Weight.TheVariants.{DataPduOf as data_pdu_of, DeliveryOf as delivery_of, Weightless as weightless}

-- an identity and a generation (this product's own)
abbrev pub Named : Type 0
Named = ℕ × ℕ

-- of a packet (this product's own)
abbrev pub packet_named : Packet → Option Named
packet_named (pdu_down id g number repeat pdu) = Some (id, g)
packet_named (pdu_up id g pdu) = Some (id, g)
packet_named (delivery id g status) = Some (id, g)
packet_named (forwarding id g d load) = Some (id, g)
packet_named nothing = None

-- of a flight of user data; a record is of no one bearer (this product's own)
abbrev pub flight_named : Flight → Option Named
flight_named (flight.Air id g num tag pdu) = Some (id, g)
flight_named (flight.Ack id g num) = Some (id, g)
flight_named (flight.Tun tag packet) = packet_named (packet_of packet)
flight_named (flight.Sdu id g payload) = Some (id, g)
flight_named (flight.End id g) = Some (id, g)
flight_named (flight.Told id g count) = Some (id, g)
flight_named (flight.Ctl r) = None

-- ---- by which edge of its receiver's windows a flight ages: the premise on packet lifetime (this product's own)

-- a PDU with its COUNT (this product's own)
abbrev pub pdu_weight : ℕ → ℕ → ℕ → List ℕ → Weight
pdu_weight id g count pdu = if is_data pdu then data_pdu_of id g count else weightless

-- a frame with a COUNT (this product's own)
abbrev pub frame_weight : ℕ → ℕ → ℕ → Frame → Weight
frame_weight id g count (frame.User number user repeat) = weightless
frame_weight id g count (frame.Status None lost) = weightless
frame_weight id g count (frame.Status (Some highest) lost) = delivery_of id g count

-- a packet with a COUNT (this product's own)
abbrev pub packet_weight : ℕ → Packet → Weight
packet_weight count (pdu_down id g number repeat pdu) = pdu_weight id g count pdu
packet_weight count (pdu_up id g pdu) = pdu_weight id g count pdu
packet_weight count (delivery id g status) = frame_weight id g count status
packet_weight count (forwarding id g d load) = weightless
packet_weight count nothing = weightless

-- a flight: without a tag it has none (this product's own)
abbrev pub weight : Flight → Weight
weight (flight.Air id g num None pdu) = weightless
weight (flight.Air id g num (Some count) pdu) = pdu_weight id g count pdu
weight (flight.Ack id g num) = weightless
weight (flight.Tun None packet) = weightless
weight (flight.Tun (Some count) packet) = packet_weight count (packet_of packet)
weight (flight.Sdu id g payload) = weightless
weight (flight.End id g) = weightless
weight (flight.Told id g count) = weightless
weight (flight.Ctl r) = weightless
