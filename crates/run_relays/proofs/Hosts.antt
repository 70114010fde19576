-- What a leg host sends is no uplink PDU, or passes on the one that comes to it.
use Rattle.std.proofs.Common.{ℕ, ◌==◌, Bool, List, [], ◌∷◌, Option, Some, None, refl, inl, inr}
use Rattle.std.specs.Prelude.{Err, Ok, Result, slice_get}
use Rattle.std.proofs.lemmas.Bool.{and_parts, cases_Bool, eqb-true}
use Rattle.dc_base.specs.declared.flights.Flight.{Flight}
use Rattle.dc_base.specs.declared.flights.Flight.TheVariants as flight
use Rattle.nr_u.specs.Frames.{written}
use Rattle.nr_u.specs.Tunnel.Delivery.{status_of}
use Rattle.nr_u.specs.Tunnel.Incoming.{has, with_ack}
use Rattle.pdcp_pdu.specs.Pdu.{Content, decoded}
use Rattle.pdcp_pdu.specs.declared.pdu.PduErr.{PduErr}
use Rattle.node_rules.specs.Choices.{Send}
use Rattle.node_rules.specs.Host.{Host}
use Rattle.node_rules.specs.HostRules.{confirmed, host_air_in, host_packet, host_tunnel_in, is_hosts, pdu_came, put_on_leg, sn_in}
use Rattle.node_rules.specs.Packets.{Packet, delivery, forwarding, nothing, packet_of, pdu_down, pdu_up}
use Rattle.run_relays.specs.Relays.{ArePlain, AreSentFor}
use Rattle.run_relays.proofs.AnchorSends.{if_plain, own_other}

-- sends that are none
pub plain_for : (H : Host → Type 0) (f : Flight) (ss : List Send) → ArePlain ss → AreSentFor H f ss
plain_for H f [] plain = tt
plain_for H f (s ∷ ss) plain = (inl plain.0, plain_for H f ss plain.1)

by_confirmed : (h : Host) (o : Option ℕ) → ArePlain (confirmed h o).1
by_confirmed h None = tt
by_confirmed h (Some number) = (own_other h.g h.id (written (status_of (with_ack h.tunnel number))) [], tt)

-- a PDU of its bearer and generation
by_air : (H : Host → Type 0) (h : Host) → H h → (id g num : ℕ) (tag : Option ℕ) (pdu : List ℕ) → AreSentFor H (flight.Air id g num tag pdu) (host_air_in h (flight.Air id g num tag pdu)).1
by_air H h so id g num tag pdu =
    elim (cases_Bool (is_hosts h id g)) [
      | inl its ↦
          let both = and_parts (h.id == id) (h.g == g) its in
          rw its (inl tt, (inr (record { id = id; g = g; num = num; tag = tag; pdu = pdu; is = refl; relays = refl; host = h; so = so; of_id = eqb-true h.id id both.0; of_g = eqb-true h.g g both.1; from = refl }), tt))
      | inr other ↦ rw other tt
    ]

-- over the air
pub host_air_sends : (H : Host → Type 0) (h : Host) → H h → (f : Flight) → AreSentFor H f (host_air_in h f).1
host_air_sends H h so (flight.Air id g num tag pdu) = by_air H h so id g num tag pdu
host_air_sends H h so (flight.Ack id g num) =
    plain_for H (flight.Ack id g num) (host_air_in h (flight.Ack id g num)).1 (if_plain (is_hosts h id g) (confirmed h (slice_get h.carried num)) (h, []) (by_confirmed h (slice_get h.carried num)) tt)
host_air_sends H h so (flight.Tun tag packet) = tt
host_air_sends H h so (flight.Sdu id g payload) = tt
host_air_sends H h so (flight.End id g) = tt
host_air_sends H h so (flight.Told id g count) = tt
host_air_sends H h so (flight.Ctl r) = tt

by_put : (h : Host) (number : ℕ) (repeat : Bool) (tag : Option ℕ) (pdu : List ℕ) (r : Result Content PduErr) → ArePlain (pdu_came h number repeat tag pdu r).1
by_put h number repeat tag pdu (Err e) = tt
by_put h number repeat tag pdu (Ok x) = if_plain (has number h.tunnel.came) (h, []) (put_on_leg h number repeat tag pdu (sn_in x)) tt (refl, tt)

by_packet : (h : Host) (tag : Option ℕ) (p : Packet) → ArePlain (host_packet h tag p).1
by_packet h tag (pdu_down id g number repeat pdu) = if_plain (is_hosts h id g) (pdu_came h number repeat tag pdu (decoded h.tunnel.n pdu)) (h, []) (by_put h number repeat tag pdu (decoded h.tunnel.n pdu)) tt
by_packet h tag (pdu_up id g pdu) = tt
by_packet h tag (delivery id g status) = tt
by_packet h tag (forwarding id g d load) = tt
by_packet h tag nothing = tt

-- through a tunnel
pub host_tunnel_sends : (H : Host → Type 0) (h : Host) (f : Flight) → AreSentFor H f (host_tunnel_in h f).1
host_tunnel_sends H h (flight.Tun tag packet) = plain_for H (flight.Tun tag packet) (host_packet h tag (packet_of packet)).1 (by_packet h tag (packet_of packet))
host_tunnel_sends H h (flight.Air id g num tag pdu) = tt
host_tunnel_sends H h (flight.Ack id g num) = tt
host_tunnel_sends H h (flight.Sdu id g payload) = tt
host_tunnel_sends H h (flight.End id g) = tt
host_tunnel_sends H h (flight.Told id g count) = tt
host_tunnel_sends H h (flight.Ctl r) = tt
