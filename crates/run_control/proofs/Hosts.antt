-- What a leg host sends is traffic.
use Rattle.std.proofs.Common.{ℕ, ◌≡◌, Bool, List, [], ◌∷◌, Option, Some, None, refl}
use Rattle.std.specs.Prelude.{Err, Ok, Result, slice_get}
use Rattle.dc_base.specs.declared.flights.Flight.{Flight}
use Rattle.dc_base.specs.declared.flights.Flight.TheVariants as flight
use Rattle.nr_u.specs.Tunnel.Incoming.{has}
use Rattle.pdcp_pdu.specs.Pdu.{Content, decoded}
use Rattle.pdcp_pdu.specs.declared.pdu.PduErr.{PduErr}
use Rattle.node_rules.specs.Choices.{Send}
use Rattle.node_rules.specs.Host.{Host}
use Rattle.node_rules.specs.HostRules.{confirmed, host_air_in, host_packet, host_tunnel_in, is_hosts, pdu_came, put_on_leg, sn_in, to_anchor, to_terminal}
use Rattle.node_rules.specs.Packets.{Packet, delivery, forwarding, nothing, packet_of, pdu_down, pdu_up, up_packet}
use Rattle.run_control.specs.Views.{controls}
use Rattle.run_control.proofs.Sent.{either}

-- no record is sent
abbrev Only : Host × List Send → Type 0
Only done = controls done.1 ≡ []

confirmed_none : (h : Host) (o : Option ℕ) → controls (confirmed h o).1 ≡ []
confirmed_none h None = refl
confirmed_none h (Some number) = refl

-- over the air
pub host_air_none : (h : Host) (f : Flight) → controls (host_air_in h f).1 ≡ []
host_air_none h (flight.Air id g num tag pdu) =
    either Only (is_hosts h id g) (h, to_terminal h (flight.Ack id g num) ∷ to_anchor h tag (up_packet g id pdu) ∷ []) (h, []) refl refl
host_air_none h (flight.Ack id g num) = either Only (is_hosts h id g) (confirmed h (slice_get h.carried num)) (h, []) (confirmed_none h (slice_get h.carried num)) refl
host_air_none h (flight.Tun tag packet) = refl
host_air_none h (flight.Sdu id g payload) = refl
host_air_none h (flight.End id g) = refl
host_air_none h (flight.Told id g count) = refl
host_air_none h (flight.Ctl r) = refl

came_none : (h : Host) (number : ℕ) (repeat : Bool) (tag : Option ℕ) (pdu : List ℕ) (r : Result Content PduErr) → controls (pdu_came h number repeat tag pdu r).1 ≡ []
came_none h number repeat tag pdu (Err e) = refl
came_none h number repeat tag pdu (Ok x) = either Only (has number h.tunnel.came) (h, []) (put_on_leg h number repeat tag pdu (sn_in x)) refl refl

packet_none : (h : Host) (tag : Option ℕ) (p : Packet) → controls (host_packet h tag p).1 ≡ []
packet_none h tag (pdu_down id g number repeat pdu) =
    either Only (is_hosts h id g) (pdu_came h number repeat tag pdu (decoded h.tunnel.n pdu)) (h, []) (came_none h number repeat tag pdu (decoded h.tunnel.n pdu)) refl
packet_none h tag (pdu_up id g pdu) = refl
packet_none h tag (delivery id g status) = refl
packet_none h tag (forwarding id g d load) = refl
packet_none h tag nothing = refl

-- through a tunnel
pub host_tunnel_none : (h : Host) (f : Flight) → controls (host_tunnel_in h f).1 ≡ []
host_tunnel_none h (flight.Tun tag packet) = packet_none h tag (packet_of packet)
host_tunnel_none h (flight.Air id g num tag pdu) = refl
host_tunnel_none h (flight.Ack id g num) = refl
host_tunnel_none h (flight.Sdu id g payload) = refl
host_tunnel_none h (flight.End id g) = refl
host_tunnel_none h (flight.Told id g count) = refl
host_tunnel_none h (flight.Ctl r) = refl
