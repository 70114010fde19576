-- A leg host sends no downlink PDU but the one that it takes through the tunnel, to the terminal.
use Rattle.std.proofs.Common.{ℕ, ◌≡◌, ◌==◌, ◌&&◌, Bool, true, false, List, [], ◌∷◌, Option, Some, None, refl, sym, subst, inl, inr}
use Rattle.std.specs.Prelude.{Err, Ok, Result, slice_get}
use Rattle.std.specs.List.{AllByRecursion}
use Rattle.std.specs.Option.{option_and_then}
use Rattle.std.proofs.lemmas.Bool.{cases_Bool, eqb-true}
use Rattle.dc_base.specs.declared.flights.Flight.{Flight}
use Rattle.dc_base.specs.declared.flights.Flight.TheVariants as flight
use Rattle.nr_u.specs.Tunnel.Incoming.{Numbered, has, listed, named, with_ack}
use Rattle.pdcp_pdu.specs.Pdu.{Content, decoded}
use Rattle.pdcp_pdu.specs.declared.pdu.PduErr.{PduErr}
use Rattle.node_rules.specs.Choices.{Send}
use Rattle.node_rules.specs.Host.{Host}
use Rattle.node_rules.specs.HostRules.{confirmed, host_air_in, host_packet, host_tunnel_in, is_hosts, pdu_came, put_on_leg, sn_in, to_anchor, to_terminal}
use Rattle.node_rules.specs.Packets.{Packet, delivery, forwarding, nothing, packet_of, pdu_down, pdu_up, up_packet}
use Rattle.run_control.proofs.Sent.{either}
use Rattle.run_uplinks.specs.Readings.{Reading}
use Rattle.run_downlinks.specs.Downlinks.{IsDownSend, PassesDown}
use Rattle.run_downlinks.proofs.Others.{status_is_other, up_is_other}

module _ (r : Reading) where
  -- all that a step of a host sends, which a flight came to
  abbrev Passes : Flight → Host × List Send → Type 0
  Passes f done = AllByRecursion (IsDownSend (PassesDown f) r) done.1

  confirm_passes : (f : Flight) (h : Host) (o : Option ℕ) → Passes f (confirmed h o)
  confirm_passes f h None = tt
  confirm_passes f h (Some number) =
      let tunnel = with_ack h.tunnel number in (inl (status_is_other h.g h.id (option_and_then (λ (a : Numbered). a.1.sn) (named tunnel)) (listed tunnel.came)), tt)

  -- what comes over the air
  pub host_air_passes : (h : Host) (f : Flight) → Passes f (host_air_in h f)
  host_air_passes h (flight.Air id g num tag pdu) =
      either (Passes (flight.Air id g num tag pdu)) (is_hosts h id g) (h, to_terminal h (flight.Ack id g num) ∷ to_anchor h tag (up_packet g id pdu) ∷ []) (h, []) (tt, (inl (up_is_other g id pdu), tt)) tt
  host_air_passes h (flight.Ack id g num) = either (Passes (flight.Ack id g num)) (is_hosts h id g) (confirmed h (slice_get h.carried num)) (h, []) (confirm_passes (flight.Ack id g num) h (slice_get h.carried num)) tt
  host_air_passes h (flight.Tun tag packet) = tt
  host_air_passes h (flight.Sdu id g sdu) = tt
  host_air_passes h (flight.End id g) = tt
  host_air_passes h (flight.Told id g count) = tt
  host_air_passes h (flight.Ctl c) = tt

  module _ (tag : Option ℕ) (packet : List ℕ) where
    abbrev f : Flight
    f = flight.Tun tag packet

    came_passes : (h : Host) (number : ℕ) (repeat : Bool) (pdu : List ℕ) (x : Result Content PduErr) → packet_of packet ≡ pdu_down h.id h.g number repeat pdu → Passes f (pdu_came h number repeat tag pdu x)
    came_passes h number repeat pdu (Err e) says = tt
    came_passes h number repeat pdu (Ok x) says =
        either (Passes f) (has number h.tunnel.came) (h, []) (put_on_leg h number repeat tag pdu (sn_in x)) tt
        (inr (refl, record { packet = packet; is = refl; number = number; repeat = repeat; says = says }), tt)

    same_says : (a b id g number : ℕ) (repeat : Bool) (pdu : List ℕ) → ((a == id) && (b == g)) ≡ true → packet_of packet ≡ pdu_down id g number repeat pdu → packet_of packet ≡ pdu_down a b number repeat pdu
    same_says a b id g number repeat pdu is says =
        elim (cases_Bool (a == id)) [
          | inl one ↦
              let two : (b == g) ≡ true = rw one at is in
              subst (λ k. packet_of packet ≡ pdu_down k b number repeat pdu) (sym (eqb-true a id one)) (subst (λ k. packet_of packet ≡ pdu_down id k number repeat pdu) (sym (eqb-true b g two)) says)
          | inr no' ↦ absurd (let bad : false ≡ true = rw no' at is in cc)
        ]

    packet_passes : (h : Host) (x : Packet) → packet_of packet ≡ x → Passes f (host_packet h tag x)
    packet_passes h (pdu_down id g number repeat pdu) says =
        elim (cases_Bool (is_hosts h id g)) [
          | inl its ↦ rw its (came_passes h number repeat pdu (decoded h.tunnel.n pdu) (same_says h.id h.g id g number repeat pdu its says))
          | inr other ↦ rw other tt
        ]
    packet_passes h (pdu_up id g pdu) says = tt
    packet_passes h (delivery id g status) says = tt
    packet_passes h (forwarding id g d load) says = tt
    packet_passes h nothing says = tt

  -- what comes through a tunnel
  pub host_tunnel_passes : (h : Host) (f : Flight) → Passes f (host_tunnel_in h f)
  host_tunnel_passes h (flight.Tun tag packet) = packet_passes tag packet h (packet_of packet) refl
  host_tunnel_passes h (flight.Air id g num tag pdu) = tt
  host_tunnel_passes h (flight.Ack id g num) = tt
  host_tunnel_passes h (flight.Sdu id g sdu) = tt
  host_tunnel_passes h (flight.End id g) = tt
  host_tunnel_passes h (flight.Told id g count) = tt
  host_tunnel_passes h (flight.Ctl c) = tt
