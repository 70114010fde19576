-- What a leg's host does: downlink PDUs go from the tunnel to the leg, uplink PDUs from the leg to the tunnel, and each
-- confirm of the leg gives a delivery status (TS 38.425, 5.4).
use Rattle.std.specs.Prelude.{ℕ, ◌==◌, ◌&&◌, ◌++◌, if◌then◌else◌, Bool, List, [], ◌∷◌, length, slice_get, Option, Some, None, Result, Ok, Err}
use Rattle.dc_base.specs.declared.flights.Flight.{Flight}
use Rattle.dc_base.specs.declared.flights.Flight.TheVariants as flight
use Rattle.dc_base.specs.declared.nodes.Class.TheVariants.{Air, Tun}
use Rattle.dc_base.specs.declared.nodes.Node.TheVariants.{T}
use Rattle.nr_u.specs.Tunnel.Delivery.{status_of, tag_of}
use Rattle.nr_u.specs.Tunnel.Incoming.{has, with_ack, with_arrival}
use Rattle.pdcp_pdu.specs.Pdu.{Content, sdu, report, decoded}
use Rattle.pdcp_pdu.specs.declared.pdu.PduErr.{PduErr}
use Rattle.dc_base.specs.Links.{link}
use Rattle.node_rules.specs.Choices.{Send}
use Rattle.node_rules.specs.Host.{Host}
use Rattle.node_rules.specs.Packets.{Packet, delivery, forwarding, nothing, packet_of, pdu_down, pdu_up, status_packet, up_packet}

-- whether this is of the host's bearer and generation (part of the rule host_air_in)
abbrev pub is_hosts : Host → ℕ → ℕ → Bool
is_hosts h id g = (h.id == id) && (h.g == g)

-- a packet to the anchor, with the tag of what it carries (TS 29.281, 5; the tag is this product's own)
abbrev pub to_anchor : Host → Option ℕ → List ℕ → Send
to_anchor h tag packet = (link h.node h.anchor Tun, flight.Tun tag packet)

-- a flight to the terminal (part of the rule put_on_leg)
abbrev pub to_terminal : Host → Flight → Send
to_terminal h f = (link h.node T Air, f)

-- ---- on the leg

-- the PDU that had this number in the tunnel was confirmed: the host sends a delivery status. No PDU had a number (None)
-- (TS 38.425, 5.4.2; when it is sent is this product's own)
abbrev pub confirmed : Host → Option ℕ → Host × List Send
confirmed h None = (h, [])
confirmed h (Some number) =
    let tunnel = with_ack h.tunnel number in
    (record h { tunnel = tunnel }, to_anchor h (tag_of tunnel) (status_packet h.g h.id (status_of tunnel)) ∷ [])

-- a flight comes over the air: a PDU is confirmed and relayed unread, and the confirm of a PDU is told to the anchor
-- (TS 38.425, 5.4; the confirm is this product's own)
abbrev pub host_air_in : Host → Flight → Host × List Send
host_air_in h (flight.Air id g num tag pdu) =
    if is_hosts h id g then (h, to_terminal h (flight.Ack id g num) ∷ to_anchor h tag (up_packet g id pdu) ∷ []) else (h, [])
host_air_in h (flight.Ack id g num) = if is_hosts h id g then confirmed h (slice_get h.carried num) else (h, [])
host_air_in h (flight.Tun tag packet) = (h, [])
host_air_in h (flight.Sdu id g payload) = (h, [])
host_air_in h (flight.End id g) = (h, [])
host_air_in h (flight.Told id g count) = (h, [])
host_air_in h (flight.Ctl rec) = (h, [])

-- ---- through the tunnel

-- the SN of a PDU; a status report has none (part of the rule put_on_leg)
abbrev pub sn_in : Content → Option ℕ
sn_in (sdu sn body) = Some sn
sn_in (report fmc bits) = None

-- a PDU with a new number is put on the leg, with its tag (TS 38.425, 5.4.1)
abbrev pub put_on_leg : Host → ℕ → Bool → Option ℕ → List ℕ → Option ℕ → Host × List Send
put_on_leg h number repeat tag pdu sn = (
  record h {
    tunnel = with_arrival h.tunnel number (record { sn = sn; repeat = repeat; tag = tag });
    carried = h.carried ++ number ∷ [];
  },
  to_terminal h (flight.Air h.id h.g (length h.carried) tag pdu) ∷ [],
)

-- a PDU that can not be read is dropped, and so is one whose number came before
-- (TS 38.425, 5.4.1; what is dropped is this product's own)
abbrev pub pdu_came : Host → ℕ → Bool → Option ℕ → List ℕ → Result Content PduErr → Host × List Send
pdu_came h number repeat tag pdu (Err e) = (h, [])
pdu_came h number repeat tag pdu (Ok x) = if has number h.tunnel.came then (h, []) else put_on_leg h number repeat tag pdu (sn_in x)

-- what a packet with this tag says comes to the host (TS 38.425, 5.4.1)
abbrev pub host_packet : Host → Option ℕ → Packet → Host × List Send
host_packet h tag (pdu_down id g number repeat pdu) =
    if is_hosts h id g then pdu_came h number repeat tag pdu (decoded h.tunnel.n pdu) else (h, [])
host_packet h tag (pdu_up id g pdu) = (h, [])
host_packet h tag (delivery id g status) = (h, [])
host_packet h tag (forwarding id g d load) = (h, [])
host_packet h tag nothing = (h, [])

-- a flight comes through the tunnel (TS 29.281, 5; TS 38.425, 5.4.1)
abbrev pub host_tunnel_in : Host → Flight → Host × List Send
host_tunnel_in h (flight.Tun tag packet) = host_packet h tag (packet_of packet)
host_tunnel_in h (flight.Air id g num tag pdu) = (h, [])
host_tunnel_in h (flight.Ack id g num) = (h, [])
host_tunnel_in h (flight.Sdu id g payload) = (h, [])
host_tunnel_in h (flight.End id g) = (h, [])
host_tunnel_in h (flight.Told id g count) = (h, [])
host_tunnel_in h (flight.Ctl rec) = (h, [])
