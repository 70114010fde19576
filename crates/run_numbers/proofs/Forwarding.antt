-- What is forwarded is no PDU: a packet of a forwarding tunnel has another kind of TEID (TS 29.281, 5).
use Rattle.std.proofs.Common.{ℕ, ◌≡◌, ◌≤◌, ◌+◌, ◌==◌, Bool, true, false, List, [], ◌∷◌, Option, Some, None, length, refl, ap, ◌∙◌, arith}
use Rattle.std.specs.Prelude.{if◌then◌else◌, nat_le, nat_lt, slice_index, ◌%◌, ◌&&◌}
use Rattle.dc_base.specs.Tunnel.{teid}
use Rattle.dc_base.specs.declared.flights.Flight.TheVariants as flight
use Rattle.claims.specs.Packets as claims
use Rattle.claims.specs.Views.{pdu_in, pdu_of}
use Rattle.forward.specs.Load.{Sdu}
use Rattle.forward.specs.Outgoing.{end_marker, sdu_packet, total_packet}
use Rattle.gtpu.specs.Content.{Content}
use Rattle.gtpu.specs.Spelling.{spelling}
use Rattle.node_rules.specs.Anchor.{Active}
use Rattle.node_rules.specs.Choices.{Send}
use Rattle.node_rules.specs.Feed.{Frozen, frozen_end_in, frozen_sdu_in}
use Rattle.node_rules.specs.Freezing.{Tunnel, closing, down_sdus, down_sends, forward_end, forward_fresh, freeze, new_tunnel, packet_send, pieces, up_sdus, whole_tunnel}
use Rattle.dc_base.specs.declared.nodes.Node.{Node}
use Rattle.run_numbers.specs.Histories.{NoneOf, numbered_if}
use Rattle.run_numbers.proofs.Holding.{none_both}
use Rattle.run_numbers.proofs.Hosts.{flight_none, nothing_of, read_back}

-- the last octet of a TEID
no_kind : (g id kind h i : ℕ) → 1 ≤ kind → kind ≤ 3 → teid h i 0 % 256 ≡ teid g id kind % 256 → ⊥
no_kind g id kind h i one most same = omega (arith, one, most, same)

-- a packet of a forwarding tunnel is not read as a PDU for a host
no_down : (p : Content) (g id kind : ℕ) → p.teid ≡ teid g id kind → 1 ≤ kind → kind ≤ 3 → (i h number : ℕ) (repeat : Bool) (pdu : List ℕ) → claims.octets_of (claims.downlink i h number repeat pdu) ≡ spelling p → ⊥
no_down p g id kind at one most i h number repeat pdu same = no_kind g id kind h i one most (ap (λ xs. slice_index xs 7) same ∙ ap (λ t. t % 256) at)

pub forward_none : (tag : Option ℕ) (p : Content) (g id kind : ℕ) → p.teid ≡ teid g id kind → 1 ≤ kind → kind ≤ 3 → (i h : ℕ) → numbered_if i h (pdu_of (flight.Tun tag (spelling p))) ≡ []
forward_none tag p g id kind at one most i h = by (claims.packet_of (spelling p)) refl
  where
    by : (o : Option claims.Packet) → claims.packet_of (spelling p) ≡ o → numbered_if i h (pdu_in tag o) ≡ []
    by None is = refl
    by (Some (claims.downlink j k number repeat pdu)) is = absurd (no_down p g id kind at one most j k number repeat pdu (read_back (spelling p) (claims.downlink j k number repeat pdu) is))
    by (Some (claims.uplink j k pdu)) is = nothing_of ((j == i) && (k == h))
    by (Some (claims.status j k top gaps)) is = refl
    by (Some (claims.forwarded j k d number sn sdu)) is = refl
    by (Some (claims.total j k d number)) is = refl
    by (Some (claims.closing j k d)) is = refl

-- ---- what an anchor sends that is frozen

module _ (i h : ℕ) where
  one_none : (t : Tunnel) (p : Content) (g id kind : ℕ) → p.teid ≡ teid g id kind → 1 ≤ kind → kind ≤ 3 → NoneOf i h (packet_send t p ∷ [])
  one_none t p g id kind at one most = flight_none ((packet_send t p).0) (flight.Tun None (spelling p)) (forward_none None p g id kind at one most) i h

  pieces_none : (t : Tunnel) (g id kind number : ℕ) (sdus : List Sdu) → 1 ≤ kind → kind ≤ 3 → NoneOf i h (pieces t (teid g id kind) number sdus)
  pieces_none t g id kind number [] one most = λ l. refl
  pieces_none t g id kind number (s ∷ ss) one most =
      none_both i h (packet_send t (sdu_packet (teid g id kind) t.n number s) ∷ []) (pieces t (teid g id kind) (number + 1) ss)
      (one_none t (sdu_packet (teid g id kind) t.n number s) g id kind refl one most) (pieces_none t g id kind (number + 1) ss one most)

  closing_none : (t : Tunnel) (g id kind total : ℕ) → 1 ≤ kind → kind ≤ 3 → NoneOf i h (closing t (teid g id kind) total)
  closing_none t g id kind total one most =
      none_both i h (packet_send t (total_packet (teid g id kind) total) ∷ []) (packet_send t (end_marker (teid g id kind)) ∷ [])
      (one_none t (total_packet (teid g id kind) total) g id kind refl one most) (one_none t (end_marker (teid g id kind)) g id kind refl one most)

  whole_none : (t : Tunnel) (g id kind : ℕ) (sdus : List Sdu) → 1 ≤ kind → kind ≤ 3 → NoneOf i h (whole_tunnel t (teid g id kind) sdus)
  whole_none t g id kind sdus one most =
      none_both i h (pieces t (teid g id kind) 0 sdus) (closing t (teid g id kind) (length sdus)) (pieces_none t g id kind 0 sdus one most) (closing_none t g id kind (length sdus) one most)

  down_none : (t : Tunnel) (last : Bool) (sdus : List Sdu) → NoneOf i h (down_sends t last sdus)
  down_none t true sdus = whole_none t t.g t.id 1 sdus (omega arith) (omega arith)
  down_none t false sdus = pieces_none t t.g t.id 1 0 sdus (omega arith) (omega arith)

  pub freeze_none : (a : Active) (to : Node) (g : ℕ) (last : Bool) → NoneOf i h (freeze a to g last).sends
  freeze_none a to g last =
      let t = new_tunnel a.entity to g in
      none_both i h (down_sends t last (down_sdus a.entity)) (whole_tunnel t (teid g a.entity.setup.id 2) (up_sdus a.entity)) (down_none t last (down_sdus a.entity))
      (whole_none t g a.entity.setup.id 2 (up_sdus a.entity) (omega arith) (omega arith))

  pub frozen_sdu_none : (f : Frozen) (g : ℕ) (sdu : List ℕ) → NoneOf i h (frozen_sdu_in f g sdu).1
  frozen_sdu_none f g sdu = by (nat_le f.since g && nat_lt g f.tunnel.g)
    where
      forwarded : Frozen × List Send
      forwarded = (record f { tunnel = (forward_fresh f.tunnel sdu).0 }, (forward_fresh f.tunnel sdu).1)

      kept : Frozen × List Send
      kept = (f, [])

      by : (b : Bool) → NoneOf i h (if b then forwarded else kept).1
      by true = pieces_none f.tunnel f.tunnel.g f.tunnel.id 1 f.tunnel.next ((None, sdu) ∷ []) (omega arith) (omega arith)
      by false = λ l. refl

  pub frozen_end_none : (f : Frozen) (g : ℕ) → NoneOf i h (frozen_end_in f g).1
  frozen_end_none f g = by (f.tunnel.g == g)
    where
      none_left : Option Frozen × List Send
      none_left = (None, forward_end f.tunnel)

      some_left : Option Frozen × List Send
      some_left = (Some f, [])

      by : (b : Bool) → NoneOf i h (if b then none_left else some_left).1
      by true = closing_none f.tunnel f.tunnel.g f.tunnel.id 1 f.tunnel.next (omega arith) (omega arith)
      by false = λ l. refl
