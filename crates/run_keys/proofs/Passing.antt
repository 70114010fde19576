-- A leg host puts on the air the downlink PDUs alone that come to it, under their identity and generation.
use Rattle.std.proofs.Common.{ℕ, ◌≡◌, ◌==◌, ◌&&◌, Bool, true, false, List, [], ◌∷◌, Option, Some, None, refl, sym, subst, inl, inr}
use Rattle.std.specs.Prelude.{Err, Ok, Result, slice_get}
use Rattle.std.proofs.lemmas.Bool.{cases_Bool, eqb-true}
use Rattle.dc_base.specs.declared.flights.Flight.{Flight}
use Rattle.dc_base.specs.declared.flights.Flight.TheVariants as flight
use Rattle.nr_u.specs.Tunnel.Incoming.{has}
use Rattle.pdcp_pdu.specs.Pdu.{Content, decoded}
use Rattle.pdcp_pdu.specs.declared.pdu.PduErr.{PduErr}
use Rattle.node_rules.specs.Choices.{Send}
use Rattle.node_rules.specs.Host.{Host}
use Rattle.node_rules.specs.HostRules.{confirmed, host_air_in, host_packet, host_tunnel_in, is_hosts, pdu_came, put_on_leg, sn_in, to_anchor, to_terminal}
use Rattle.node_rules.specs.Packets.{Packet, delivery, forwarding, nothing, packet_of, pdu_down, pdu_up, up_packet}
use Rattle.run_control.proofs.Sent.{either}
use Rattle.run_keys.specs.Halves.{AreSentOf}
use Rattle.run_keys.specs.Passed.{BringsDownOf, SaysDownOf}

module _ (P : ℕ → ℕ → Type 0) where
  abbrev Airs : Host × List Send → Type 0
  Airs done = AreSentOf P done.1

  confirm_airs : (h : Host) (o : Option ℕ) → Airs (confirmed h o)
  confirm_airs h None = tt
  confirm_airs h (Some number) = (tt, tt)

  -- what comes over the air puts none on it
  pub host_air_airs : (h : Host) (f : Flight) → Airs (host_air_in h f)
  host_air_airs h (flight.Air id g num tag pdu) =
      either Airs (is_hosts h id g) (h, to_terminal h (flight.Ack id g num) ∷ to_anchor h tag (up_packet g id pdu) ∷ []) (h, []) (tt, (tt, tt)) tt
  host_air_airs h (flight.Ack id g num) = either Airs (is_hosts h id g) (confirmed h (slice_get h.carried num)) (h, []) (confirm_airs h (slice_get h.carried num)) tt
  host_air_airs h (flight.Tun tag packet) = tt
  host_air_airs h (flight.Sdu id g sdu) = tt
  host_air_airs h (flight.End id g) = tt
  host_air_airs h (flight.Told id g count) = tt
  host_air_airs h (flight.Ctl r) = tt

  came_airs : (h : Host) (number : ℕ) (repeat : Bool) (tag : Option ℕ) (pdu : List ℕ) (r : Result Content PduErr) → P h.id h.g
      → Airs (pdu_came h number repeat tag pdu r)
  came_airs h number repeat tag pdu (Err e) so = tt
  came_airs h number repeat tag pdu (Ok x) so = either Airs (has number h.tunnel.came) (h, []) (put_on_leg h number repeat tag pdu (sn_in x)) tt (so, tt)

  same_so : (a b id g : ℕ) → ((a == id) && (b == g)) ≡ true → P id g → P a b
  same_so a b id g is so =
      elim (cases_Bool (a == id)) [
        | inl one ↦ let two : (b == g) ≡ true = rw one at is in
            subst (λ k. P k b) (sym (eqb-true a id one)) (subst (λ k. P id k) (sym (eqb-true b g two)) so)
        | inr no' ↦ absurd (let bad : false ≡ true = rw no' at is in cc)
      ]

  packet_airs : (h : Host) (tag : Option ℕ) (x : Packet) → SaysDownOf P x → Airs (host_packet h tag x)
  packet_airs h tag (pdu_down id g number repeat pdu) brings =
      elim (cases_Bool (is_hosts h id g)) [
        | inl its ↦ rw its (came_airs h number repeat tag pdu (decoded h.tunnel.n pdu) (same_so h.id h.g id g its (brings id g number repeat pdu refl)))
        | inr other ↦ rw other tt
      ]
  packet_airs h tag (pdu_up id g pdu) brings = tt
  packet_airs h tag (delivery id g status) brings = tt
  packet_airs h tag (forwarding id g d load) brings = tt
  packet_airs h tag nothing brings = tt

  -- what comes through a tunnel
  pub host_tunnel_airs : (h : Host) (f : Flight) → BringsDownOf P f → Airs (host_tunnel_in h f)
  host_tunnel_airs h (flight.Tun tag packet) brings = packet_airs h tag (packet_of packet) brings
  host_tunnel_airs h (flight.Air id g num tag pdu) brings = tt
  host_tunnel_airs h (flight.Ack id g num) brings = tt
  host_tunnel_airs h (flight.Sdu id g sdu) brings = tt
  host_tunnel_airs h (flight.End id g) brings = tt
  host_tunnel_airs h (flight.Told id g count) brings = tt
  host_tunnel_airs h (flight.Ctl r) brings = tt
