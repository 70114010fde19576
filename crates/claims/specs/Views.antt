-- One view of every PDU, on the air or in a tunnel, and of what else a flight says.
use Rattle.std.specs.Prelude.{Bool, List, None, Ok, Option, Result, Some, false, if◌then◌else◌, ℕ}
use Rattle.dc_base.specs.Count.{bits}
use Rattle.dc_base.specs.declared.flights.Flight.{Flight}
use Rattle.dc_base.specs.declared.flights.Flight.TheVariants as flight
use Rattle.dc_base.specs.declared.records.Plan.{Plan}
use Rattle.dc_base.specs.declared.records.Rec.{Rec}
use Rattle.dc_base.specs.declared.records.Rec.TheVariants as rec
use Rattle.key_chain.specs.KeyNames.{octets}
use Rattle.nr_u.specs.declared.frame.Range.{Range}
use Rattle.pdcp_pdu.specs.DataPdu.{is_data}
use Rattle.pdcp_pdu.specs.Pdu.{Content, report}
use Rattle.pdcp_pdu.specs.declared.pdu.PduErr.{PduErr}
use Rattle.claims.specs.Packets.{Packet, closing, downlink, forwarded, packet_of, status, total, uplink}
use Rattle.claims.specs.Confirming.{Confirmation, reported}

-- a PDU of a bearer and generation: its number on the leg (none for uplink in a tunnel), whether it is marked as a
-- repeat, its tag and its octets
pub record Pdu : Type 0 where
  pub id : ℕ
  pub g : ℕ
  pub num : Option ℕ
  pub is_repeat : Bool
  pub tag : Option ℕ
  pub octets : List ℕ

-- the PDU in a packet
abbrev pub pdu_in : Option ℕ → Option Packet → Option Pdu
pdu_in tag (Some (downlink id g number is_repeat pdu)) = Some (record { id = id; g = g; num = Some number; is_repeat = is_repeat; tag = tag; octets = pdu })
pdu_in tag (Some (uplink id g pdu)) = Some (record { id = id; g = g; num = None; is_repeat = false; tag = tag; octets = pdu })
pdu_in tag (Some (status id g highest lost)) = None
pdu_in tag (Some (forwarded id g d number s sdu)) = None
pdu_in tag (Some (total id g d number)) = None
pdu_in tag (Some (closing id g d)) = None
pdu_in tag None = None

-- the packet that a flight is
abbrev pub packet_in : Flight → Option Packet
packet_in (flight.Tun tag packet) = packet_of packet
packet_in _ = None

-- the PDU that a flight carries
abbrev pub pdu_of : Flight → Option Pdu
pdu_of (flight.Air id g num tag pdu) = Some (record { id = id; g = g; num = Some num; is_repeat = false; tag = tag; octets = pdu })
pdu_of (flight.Tun tag packet) = pdu_in tag (packet_of packet)
pdu_of _ = None

-- the same if it is a data PDU
abbrev pub if_data : Option Pdu → Option Pdu
if_data None = None
if_data (Some u) = if is_data u.octets then Some u else None

-- the data PDU that a flight carries
abbrev pub data_of : Flight → Option Pdu
data_of f = if_data (pdu_of f)

-- what a PDU that was read names, if it is a status report
abbrev pub report_in : Result Content PduErr → Option Confirmation
report_in (Ok (report fmc bits)) = Some (reported fmc bits)
report_in _ = None

-- the delivery status that a flight is: its tag is the COUNT of the highest sequence number
pub record Delivery : Type 0 where
  pub id : ℕ
  pub g : ℕ
  pub tag : Option ℕ
  pub highest : Option ℕ
  pub lost : List Range

-- the delivery status that a packet is
abbrev pub delivery_in : Option ℕ → Option Packet → Option Delivery
delivery_in tag (Some (status id g highest lost)) = Some (record { id = id; g = g; tag = tag; highest = highest; lost = lost })
delivery_in tag _ = None

-- the delivery status that a flight is
abbrev pub delivery_of : Flight → Option Delivery
delivery_of (flight.Tun tag packet) = delivery_in tag (packet_of packet)
delivery_of _ = None

-- the identity and generation for which a packet forwards: an SDU, a total or an End Marker
abbrev pub forwarding_in : Option Packet → Option (ℕ × ℕ)
forwarding_in (Some (forwarded id g d number s sdu)) = Some (id, g)
forwarding_in (Some (total id g d number)) = Some (id, g)
forwarding_in (Some (closing id g d)) = Some (id, g)
forwarding_in _ = None

-- and a flight
abbrev pub forwarding_of : Flight → Option (ℕ × ℕ)
forwarding_of f = forwarding_in (packet_in f)

-- the identity and generation that a packet is of
abbrev pub packet_owner : Option Packet → Option (ℕ × ℕ)
packet_owner (Some (downlink id g number is_repeat pdu)) = Some (id, g)
packet_owner (Some (uplink id g pdu)) = Some (id, g)
packet_owner (Some (status id g highest lost)) = Some (id, g)
packet_owner (Some (forwarded id g d number s sdu)) = Some (id, g)
packet_owner (Some (total id g d number)) = Some (id, g)
packet_owner (Some (closing id g d)) = Some (id, g)
packet_owner None = None

-- the identity and generation that a flight is of; a record is of none
abbrev pub owner_of : Flight → Option (ℕ × ℕ)
owner_of (flight.Air id g num tag pdu) = Some (id, g)
owner_of (flight.Ack id g num) = Some (id, g)
owner_of (flight.Tun tag packet) = packet_owner (packet_of packet)
owner_of (flight.Sdu id g sdu) = Some (id, g)
owner_of (flight.End id g) = Some (id, g)
owner_of (flight.Told id g count) = Some (id, g)
owner_of (flight.Ctl r) = None

-- the record that a flight is
abbrev pub record_in : Flight → Option Rec
record_in (flight.Ctl r) = Some r
record_in _ = None

-- the plan that a flight carries out: the one that the terminal is sent
abbrev pub carried_plan : Flight → Option Plan
carried_plan (flight.Ctl (rec.Reconf q key)) = Some q
carried_plan _ = None
