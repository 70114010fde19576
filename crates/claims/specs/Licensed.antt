-- Each send has a reason in its own event.
use Rattle.std.specs.List.{list_any}
use Rattle.std.specs.Prelude.{Bool, None, Option, Some, length, nat_le, not, true, ◌&&◌}
use Rattle.dc_base.specs.declared.events.Line.{Line}
use Rattle.dc_base.specs.declared.events.Line.TheVariants as line
use Rattle.dc_base.specs.declared.flights.Flight.{Flight}
use Rattle.dc_base.specs.declared.flights.Flight.TheVariants as flight
use Rattle.dc_base.specs.declared.nodes.LinkId.{LinkId}
use Rattle.claims.specs.Sameness.{is_some_and}
use Rattle.claims.specs.Packets.{Packet, packet_of}
use Rattle.claims.specs.Views.{Pdu, pdu_in, pdu_of}
use Rattle.claims.specs.Past.{Past}
use Rattle.claims.specs.Reading.{bearer_of, said_sends}
use Rattle.claims.specs.Protected.{is_copy}
use Rattle.claims.specs.Told.{tells_rise}
use Rattle.claims.specs.LicencePdus.{acks, is_ack, pdu_reason}
use Rattle.claims.specs.LicenceForward.{end_reason, feed_reason, packet_reason}
use Rattle.claims.specs.LicenceRecords.{is_once, record_reason}

-- why a packet is sent: as a PDU, or for forwarding
abbrev pub tunnel_reason : Past → LinkId → Option Pdu → Option Packet → Bool
tunnel_reason p l (Some u) view = pdu_reason p l u
tunnel_reason p l None view = is_some_and (packet_reason p l) view

-- why a flight is sent
abbrev pub flight_reason : Past → LinkId → Flight → Bool
flight_reason p l (flight.Air id g num tag pdu) = is_some_and (pdu_reason p l) (pdu_of (flight.Air id g num tag pdu))
flight_reason p l (flight.Ack id g num) = is_some_and (acks p l id g num) p.given && not (list_any is_ack (said_sends p))
flight_reason p l (flight.Tun tag packet) = let view = packet_of packet in tunnel_reason p l (pdu_in tag view) view
flight_reason p l (flight.Sdu id g sdu) = feed_reason p l id g sdu
flight_reason p l (flight.End id g) = end_reason p l id g
flight_reason p l (flight.Told id g count) = tells_rise l.from g count (bearer_of p id g)
flight_reason p l (flight.Ctl r) = is_once p l r && record_reason p l r

-- an `again` has one send, its copy; any other event sends what it has a reason for
abbrev pub send_reason : Past → LinkId → Flight → Option (LinkId × Flight) → Bool
send_reason p l f None = flight_reason p l f
send_reason p l f (Some s) = is_copy p l f && nat_le (length (said_sends p)) 0

-- each send has its reason
abbrev pub is_licensed : Past → Line → Bool
is_licensed p (line.Send l f) = send_reason p l f p.copied
is_licensed p _ = true
