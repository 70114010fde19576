-- What a leg host sends begins at its node.
use Rattle.std.proofs.Common.{ℕ, Bool, List, [], ◌∷◌, Option, Some, None, refl}
use Rattle.std.specs.Prelude.{Err, Ok, Result, slice_get}
use Rattle.dc_base.specs.declared.flights.Flight.{Flight}
use Rattle.dc_base.specs.declared.flights.Flight.TheVariants as flight
use Rattle.nr_u.specs.Tunnel.Incoming.{has}
use Rattle.pdcp_pdu.specs.Pdu.{Content, decoded}
use Rattle.pdcp_pdu.specs.declared.pdu.PduErr.{PduErr}
use Rattle.node_rules.specs.Host.{Host}
use Rattle.node_rules.specs.HostRules.{confirmed, host_air_in, host_packet, host_tunnel_in, is_hosts, pdu_came, put_on_leg, sn_in, to_anchor, to_terminal}
use Rattle.node_rules.specs.Packets.{Packet, delivery, forwarding, nothing, packet_of, pdu_down, pdu_up, up_packet}
use Rattle.run_control.proofs.Sent.{either}
use Rattle.run_senders.specs.Holders.{HostStays}

-- nothing comes of it
idle : (h : Host) → HostStays h (h, [])
idle h = record { node = refl; by = tt }

by_confirmed : (h : Host) (o : Option ℕ) → HostStays h (confirmed h o)
by_confirmed h None = idle h
by_confirmed h (Some number) = record { node = refl; by = ((refl, refl), tt) }

-- over the air
pub host_air_stays : (h : Host) (f : Flight) → HostStays h (host_air_in h f)
host_air_stays h (flight.Air id g num tag pdu) =
    either (HostStays h) (is_hosts h id g) (h, to_terminal h (flight.Ack id g num) ∷ to_anchor h tag (up_packet g id pdu) ∷ []) (h, [])
    (record { node = refl; by = ((refl, refl), ((refl, refl), tt)) }) (idle h)
host_air_stays h (flight.Ack id g num) = either (HostStays h) (is_hosts h id g) (confirmed h (slice_get h.carried num)) (h, []) (by_confirmed h (slice_get h.carried num)) (idle h)
host_air_stays h (flight.Tun tag packet) = idle h
host_air_stays h (flight.Sdu id g payload) = idle h
host_air_stays h (flight.End id g) = idle h
host_air_stays h (flight.Told id g count) = idle h
host_air_stays h (flight.Ctl r) = idle h

by_came : (h : Host) (number : ℕ) (repeat : Bool) (tag : Option ℕ) (pdu : List ℕ) (r : Result Content PduErr) → HostStays h (pdu_came h number repeat tag pdu r)
by_came h number repeat tag pdu (Err e) = idle h
by_came h number repeat tag pdu (Ok x) =
    either (HostStays h) (has number h.tunnel.came) (h, []) (put_on_leg h number repeat tag pdu (sn_in x)) (idle h) (record { node = refl; by = ((refl, refl), tt) })

by_packet : (h : Host) (tag : Option ℕ) (p : Packet) → HostStays h (host_packet h tag p)
by_packet h tag (pdu_down id g number repeat pdu) =
    either (HostStays h) (is_hosts h id g) (pdu_came h number repeat tag pdu (decoded h.tunnel.n pdu)) (h, []) (by_came h number repeat tag pdu (decoded h.tunnel.n pdu)) (idle h)
by_packet h tag (pdu_up id g pdu) = idle h
by_packet h tag (delivery id g status) = idle h
by_packet h tag (forwarding id g d load) = idle h
by_packet h tag nothing = idle h

-- through a tunnel
pub host_tunnel_stays : (h : Host) (f : Flight) → HostStays h (host_tunnel_in h f)
host_tunnel_stays h (flight.Tun tag packet) = by_packet h tag (packet_of packet)
host_tunnel_stays h (flight.Air id g num tag pdu) = idle h
host_tunnel_stays h (flight.Ack id g num) = idle h
host_tunnel_stays h (flight.Sdu id g payload) = idle h
host_tunnel_stays h (flight.End id g) = idle h
host_tunnel_stays h (flight.Told id g count) = idle h
host_tunnel_stays h (flight.Ctl r) = idle h
