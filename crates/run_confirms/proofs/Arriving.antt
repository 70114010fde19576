-- Flights that come to the host of a leg: through the tunnel and over the air.
use Rattle.std.proofs.Common.{◌≡◌, ℕ, ◌≤◌, ◌^◌, [], true, List, Option, length, refl, sym, inl, inr}
use Rattle.std.specs.Prelude.{◌==◌}
use Rattle.std.proofs.lemmas.Bool.{and_parts, cases_Bool, eqb-true}
use Rattle.std.proofs.lemmas.List.{append-nil}
use Rattle.dc_base.specs.declared.flights.Flight.TheVariants as flight
use Rattle.nr_u.specs.declared.tunnel.outbound.Sent.{Sent}
use Rattle.nr_u.specs.Tunnel.Ends.{FirstSendsRise}
use Rattle.pdcp_pdu.specs.Pdu.{decoded}
use Rattle.node_rules.specs.Host.{Host}
use Rattle.node_rules.specs.HostRules.{host_air_in, host_packet, is_hosts}
use Rattle.node_rules.specs.Packets.{Packet, delivery, forwarding, nothing, pdu_down, pdu_up}
use Rattle.run_confirms.specs.Hosts.{HasTaken, HasTold, HostHas, host_leg}
use Rattle.run_confirms.specs.Packets.{IsTrueFor}
use Rattle.run_confirms.specs.Statuses.{FirstsBelow, IsAckOf}
use Rattle.run_confirms.proofs.Hosts.{host_came, host_confirmed, host_leg_grows, host_leg_stays, host_puts, host_says}

hosts_id : (h : Host) (id g : ℕ) → is_hosts h id g ≡ true → (id ≡ h.id) × (g ≡ h.g)
hosts_id h id g is = let both = and_parts (h.id == id) (h.g == g) is in (sym (eqb-true h.id id both.0), sym (eqb-true h.g g both.1))

-- ---- through the tunnel

nothing_taken : (tun : List Sent) (received : ℕ → Type 0) (h : Host) → HostHas tun received h → HasTaken tun received h (h, [])
nothing_taken tun received h is = record { has = is; more = []; leg = sym (append-nil (host_leg tun h)); puts = tt }

-- through host_tunnel_in this is what a flight does
pub host_takes : (tun : List Sent) (received : ℕ → Type 0) (h : Host) (tag : Option ℕ) (packet : Packet)
    → IsTrueFor h.id h.g h.tunnel.n tun received tag packet → HostHas tun received h
    → HasTaken tun received h (host_packet h tag packet)
host_takes tun received h tag (pdu_down id g number repeat pdu) truth is =
    elim (cases_Bool (is_hosts h id g)) [
      | inl ours ↦
          let name = hosts_id h id g ours in
          let sent = truth name.0 name.1 in
          let x = decoded h.tunnel.n pdu in
          let grown = host_leg_grows tun h number repeat tag pdu x in
          rw ours (record {
            has = host_came tun received h number repeat tag pdu x sent.0 sent.1 is;
            more = grown.0;
            leg = grown.1;
            puts = host_puts tun received h number repeat tag pdu x sent.0;
          })
      | inr others ↦ rw others (nothing_taken tun received h is)
    ]
host_takes tun received h tag (pdu_up id g pdu) truth is = nothing_taken tun received h is
host_takes tun received h tag (delivery id g status) truth is = nothing_taken tun received h is
host_takes tun received h tag (forwarding id g d load) truth is = nothing_taken tun received h is
host_takes tun received h tag nothing truth is = nothing_taken tun received h is

-- ---- over the air

-- an ack over the air that says the truth
pub host_hears : (tun : List Sent) (received : ℕ → Type 0) (h : Host) (id g num : ℕ) → FirstSendsRise tun → FirstsBelow (2 ^ 32) tun → length tun ≤ 2 ^ 24
    → (is_hosts h id g ≡ true → IsAckOf (host_leg tun h) received num) → HostHas tun received h → HasTold tun received h (host_air_in h (flight.Ack id g num))
host_hears tun received h id g num rise small short acks is =
    elim (cases_Bool (is_hosts h id g)) [
      | inl ours ↦ rw ours (record {
        has = host_confirmed tun received h num (acks ours) is;
        leg = host_leg_stays tun h num;
        says = host_says tun received h num rise small short (acks ours) is;
      })
      | inr others ↦ rw others (record { has = is; leg = refl; says = tt })
    ]

-- an uplink PDU that it relays changes nothing that it has
pub host_relays : (h : Host) (id g num : ℕ) (tag : Option ℕ) (pdu : List ℕ) → (host_air_in h (flight.Air id g num tag pdu)).0 ≡ h
host_relays h id g num tag pdu = elim (cases_Bool (is_hosts h id g)) [ inl ours ↦ rw ours refl | inr others ↦ rw others refl ]
