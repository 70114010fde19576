-- What comes to an anchor: what it sends for it, and that an ack or a delivery status confirms only what came to the terminal.
use Rattle.std.proofs.Common.{◌≡◌, ℕ, true, List, Option, sym, inl, inr}
use Rattle.std.specs.Prelude.{◌==◌, is_some}
use Rattle.std.proofs.lemmas.Bool.{and_parts, cases_Bool, eqb-true}
use Rattle.dc_base.specs.declared.flights.Flight.{Flight}
use Rattle.dc_base.specs.declared.flights.Flight.TheVariants as flight
use Rattle.dc_base.specs.declared.nodes.Cell.{Cell}
use Rattle.nr_u.specs.declared.frame.Frame.{Frame}
use Rattle.nr_u.specs.declared.tunnel.outbound.Sent.{Sent}
use Rattle.pdcp_pdu.specs.Pdu.{decoded}
use Rattle.node_rules.specs.Anchor.{AnchorState, active_anchor, setup_at, silent, waiting_anchor}
use Rattle.node_rules.specs.AnchorReceiving.{air_ack, air_in, delivery_in, is_from_host, is_on_leg, packet_in, tunnel_in}
use Rattle.node_rules.specs.Choices.{Choices}
use Rattle.node_rules.specs.Packets.{Packet, delivery, forwarding, nothing, packet_of, pdu_down, pdu_up}
use Rattle.node_rules.specs.Setup.{Setup, host_of, is_of}
use Rattle.run_confirms.specs.Anchors.{KeptOrReceived}
use Rattle.run_confirms.specs.Packets.{IsTrueFor}
use Rattle.run_confirms.specs.States.{IsReadNear, StateSends, StateSent, kept_at}
use Rattle.run_confirms.specs.Statuses.{IsAckOf, IsStatusOf}
use Rattle.run_confirms.proofs.Adopting.{forward_sends}
use Rattle.run_confirms.proofs.Confirming.{all_kept}
use Rattle.run_confirms.proofs.States.{delivery_sends, relayed_sends, stays_at}
use Rattle.run_confirms.proofs.Verdicts.{ack_found, delivery_found}

-- ---- what it sends

packet_sends : (c : Choices) (air : List (Option ℕ)) (tun : List Sent) (s : AnchorState) (p : Packet) → StateSent air tun s
    → StateSends air tun s (packet_in c s p)
packet_sends c air tun s (pdu_down id g number repeat pdu) is = stays_at air tun s (s, silent) is tt
packet_sends c air tun s (pdu_up id g pdu) is =
    elim (cases_Bool (is_from_host (setup_at s) id g)) [
      | inl ours ↦ rw ours (relayed_sends air tun s (decoded (setup_at s).n pdu) is)
      | inr others ↦ rw others (stays_at air tun s (s, silent) is tt)
    ]
packet_sends c air tun s (delivery id g status) is =
    elim (cases_Bool (is_from_host (setup_at s) id g)) [
      | inl ours ↦ rw ours (delivery_sends c air tun s status is)
      | inr others ↦ rw others (stays_at air tun s (s, silent) is tt)
    ]
packet_sends c air tun s (forwarding id g d load) is =
    elim (cases_Bool (is_of (setup_at s) id g)) [
      | inl ours ↦ rw ours (forward_sends c air tun s d load is)
      | inr others ↦ rw others (stays_at air tun s (s, silent) is tt)
    ]
packet_sends c air tun s nothing is = stays_at air tun s (s, silent) is tt

-- a flight comes through a tunnel
pub tunnel_sends : (c : Choices) (air : List (Option ℕ)) (tun : List Sent) (s : AnchorState) (f : Flight) → StateSent air tun s
    → StateSends air tun s (tunnel_in c s f)
tunnel_sends c air tun s (flight.Tun tag packet) is = packet_sends c air tun s (packet_of packet) is
tunnel_sends c air tun s (flight.Air id g num tag pdu) is = stays_at air tun s (s, silent) is tt
tunnel_sends c air tun s (flight.Ack id g num) is = stays_at air tun s (s, silent) is tt
tunnel_sends c air tun s (flight.Sdu id g payload) is = stays_at air tun s (s, silent) is tt
tunnel_sends c air tun s (flight.End id g) is = stays_at air tun s (s, silent) is tt
tunnel_sends c air tun s (flight.Told id g count) is = stays_at air tun s (s, silent) is tt
tunnel_sends c air tun s (flight.Ctl r) is = stays_at air tun s (s, silent) is tt

-- ---- what it confirms

ack_at : (air : List (Option ℕ)) (tun : List Sent) (received : ℕ → Type 0) (s : AnchorState) (num : ℕ) → IsAckOf air received num → StateSent air tun s
    → KeptOrReceived received (kept_at s) (kept_at (air_ack s num).0)
ack_at air tun received (waiting_anchor w) num acks is = tt
ack_at air tun received (active_anchor a) num acks is = ack_found air tun received a num is.sent acks

-- by an ack over the air
pub ack_finds : (air : List (Option ℕ)) (tun : List Sent) (received : ℕ → Type 0) (s : AnchorState) (cell : Cell) (id g num : ℕ)
    → (is_on_leg (setup_at s) cell id g ≡ true → IsAckOf air received num) → StateSent air tun s
    → KeptOrReceived received (kept_at s) (kept_at (air_in s cell (flight.Ack id g num)).0)
ack_finds air tun received s cell id g num acks is =
    elim (cases_Bool (is_on_leg (setup_at s) cell id g)) [
      | inl ours ↦ rw ours (ack_at air tun received s num (acks ours) is)
      | inr others ↦ rw others (all_kept received (kept_at s))
    ]

from_host : (s : Setup) (id g : ℕ) → is_from_host s id g ≡ true → (id ≡ s.id) × (g ≡ s.g)
from_host s id g is =
    let both = and_parts (s.id == id) (s.g == g) (and_parts (is_of s id g) (is_some (host_of s)) is).0 in (sym (eqb-true s.id id both.0), sym (eqb-true s.g g both.1))

delivery_at_state : (c : Choices) (air : List (Option ℕ)) (tun : List Sent) (received : ℕ → Type 0) (s : AnchorState) (tag : Option ℕ) (status : Frame)
    → IsStatusOf (setup_at s).n tun received tag status → IsReadNear s tag
    → StateSent air tun s → KeptOrReceived received (kept_at s) (kept_at (delivery_in c s status).0)
delivery_at_state c air tun received (waiting_anchor w) tag status truth near is = tt
delivery_at_state c air tun received (active_anchor a) tag status truth near is = delivery_found air tun received a tag status is.sent near.1 near.0 truth

-- by a delivery status in the tunnel
pub delivery_finds : (c : Choices) (air : List (Option ℕ)) (tun : List Sent) (received : ℕ → Type 0) (s : AnchorState) (tag : Option ℕ) (id g : ℕ) (status : Frame)
    → IsTrueFor (setup_at s).id (setup_at s).g (setup_at s).n tun received tag (delivery id g status)
    → (is_from_host (setup_at s) id g ≡ true → IsReadNear s tag) → StateSent air tun s
    → KeptOrReceived received (kept_at s) (kept_at (packet_in c s (delivery id g status)).0)
delivery_finds c air tun received s tag id g status truth near is =
    elim (cases_Bool (is_from_host (setup_at s) id g)) [
      | inl ours ↦
          let name = from_host (setup_at s) id g ours in
          rw ours (delivery_at_state c air tun received s tag status (truth name.0 name.1) (near ours) is)
      | inr others ↦ rw others (all_kept received (kept_at s))
    ]
