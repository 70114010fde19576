-- Packets in tunnels with neither a PDU for a host nor a delivery status: relayed PDUs, and what is forwarded.
use Rattle.std.proofs.Common.{ℕ, zero, suc, ◌≡◌, ◌≤◌, ◌<◌, ◌+◌, ◌==◌, Bool, true, false, List, [], ◌∷◌, Option, Some, None, Result, Ok, Err, length, refl, sym, ap, ◌∙◌, arith, inr}
use Rattle.std.specs.Prelude.{slice_index, nat_le, nat_lt, ◌&&◌}
use Rattle.std.specs.List.{AllByRecursion}
use Rattle.std.specs.Int.{w32, from_be_bytes, to_be_bytes}
use Rattle.dc_base.specs.Tunnel.{teid, teid_kind}
use Rattle.dc_base.specs.declared.nodes.Node.{Node}
use Rattle.transcript.proofs.OnEach.{each_append}
use Rattle.forward.specs.Load.{Sdu}
use Rattle.forward.specs.Outgoing.{end_marker, sdu_packet, total_packet}
use Rattle.gtpu.specs.Content.{Content, kind_of}
use Rattle.gtpu.specs.Decoded.{behind_checks, decoded, of_kind}
use Rattle.gtpu.specs.Fault.{header_fault}
use Rattle.gtpu.specs.Spelling.{spelling}
use Rattle.gtpu.specs.declared.faults.GtpErr.{GtpErr}
use Rattle.gtpu.specs.declared.packet.GtpKind.{GtpKind}
use Rattle.gtpu.specs.declared.packet.GtpKind.TheVariants.{EchoRequest, EchoResponse, EndMarker, ErrorIndication, GPdu}
use Rattle.node_rules.specs.Anchor.{Active}
use Rattle.node_rules.specs.Choices.{Send}
use Rattle.node_rules.specs.Feed.{Frozen, frozen_end_in, frozen_sdu_in}
use Rattle.node_rules.specs.Freezing.{Tunnel, closing, down_sdus, down_sends, forward_end, forward_fresh, freeze, new_tunnel, pieces, up_sdus, whole_tunnel}
use Rattle.node_rules.specs.Packets.{Packet, nothing, of_message, packet_of, said_by, up_packet}
use Rattle.node_rules.specs.Packets as packets
use Rattle.run_control.proofs.Sent.{either}
use Rattle.run_receivers.proofs.Packets.{kind_in_teid, teid_read}
use Rattle.run_confirmed.specs.Flights.{IsTrueSend, is_aside}
use Rattle.run_confirmed.specs.Stories.{Layout, Stories}

-- ---- as they are read

-- whatever the checks of the header find
said_as : (octets : List ℕ) (P : Packet → Type 0) → P nothing → P (said_by (of_kind octets (kind_of (slice_index octets 1)))) → P (packet_of octets)
unfolding decoded
said_as octets P none some = by (header_fault octets)
  where
    by : (o : Option GtpErr) → P (said_by (behind_checks octets o))
    by (Some e) = none
    by None = some

without_frame : (t k : ℕ) (pdu : List ℕ) → is_aside (packets.of_kind (record { kind = GPdu; teid = t; container = None; number = None; body = pdu }) k) ≡ true
without_frame t zero pdu = refl
without_frame t (suc zero) pdu = refl
without_frame t (suc (suc zero)) pdu = refl
without_frame t (suc (suc (suc k))) pdu = refl

-- a relayed PDU
pub up_aside : (g id : ℕ) (pdu : List ℕ) → is_aside (packet_of (up_packet g id pdu)) ≡ true
up_aside g id pdu =
    let t = from_be_bytes w32 (to_be_bytes w32 (teid g id 0)) in
    said_as (up_packet g id pdu) (λ p. is_aside p ≡ true) refl (without_frame t (teid_kind t) pdu)

forwarded : (q : Content) (k : ℕ) → (k ≡ 0 → ⊥) → is_aside (packets.of_kind q k) ≡ true
forwarded q zero some = absurd (some refl)
forwarded q (suc zero) some = refl
forwarded q (suc (suc zero)) some = refl
forwarded q (suc (suc (suc k))) some = refl

of_messages : (q : Content) (kind : GtpKind) → (teid_kind q.teid ≡ 0 → ⊥) → is_aside (of_message q kind) ≡ true
of_messages q GPdu some = forwarded q (teid_kind q.teid) some
of_messages q EndMarker some = refl
of_messages q EchoRequest some = refl
of_messages q EchoResponse some = refl
of_messages q ErrorIndication some = refl

-- the kind is among the four octets of a TEID that are written
kind_written : (n : ℕ) → teid_kind (from_be_bytes w32 (to_be_bytes w32 n)) ≡ teid_kind n
kind_written n = omega arith

-- a packet of a forwarding tunnel
pub other_kind_aside : (p : Content) → (teid_kind p.teid ≡ 0 → ⊥) → is_aside (packet_of (spelling p)) ≡ true
other_kind_aside p some = by (decoded (spelling p)) refl
  where
    by : (r : Result Content GtpErr) → decoded (spelling p) ≡ r → is_aside (said_by r) ≡ true
    by (Err e) at = refl
    by (Ok q) at =
        let kind : teid_kind q.teid ≡ teid_kind p.teid = ap teid_kind (teid_read (spelling p) q at) ∙ kind_written p.teid in
        of_messages q q.kind (λ none. some (sym kind ∙ none))

-- ---- what is forwarded

not_own : (g id k : ℕ) → k < 4 → 1 ≤ k → teid_kind (teid g id k) ≡ 0 → ⊥
not_own g id k small some is = omega (arith, kind_in_teid g id k small, is, some)

module _ (layout : Layout) (stories : Stories) where
  abbrev AllTrue : List Send → Type 0
  AllTrue ss = AllByRecursion (IsTrueSend layout stories) ss

  pieces_true : (t : Tunnel) (teid' number : ℕ) (sdus : List Sdu) → (teid_kind teid' ≡ 0 → ⊥) → AllTrue (pieces t teid' number sdus)
  pieces_true t teid' number [] some = tt
  pieces_true t teid' number (s ∷ ss) some = (inr (inr (other_kind_aside (sdu_packet teid' t.n number s) some)), pieces_true t teid' (number + 1) ss some)

  closing_true : (t : Tunnel) (teid' total : ℕ) → (teid_kind teid' ≡ 0 → ⊥) → AllTrue (closing t teid' total)
  closing_true t teid' total some = (inr (inr (other_kind_aside (total_packet teid' total) some)), (inr (inr (other_kind_aside (end_marker teid') some)), tt))

  whole_true : (t : Tunnel) (teid' : ℕ) (sdus : List Sdu) → (teid_kind teid' ≡ 0 → ⊥) → AllTrue (whole_tunnel t teid' sdus)
  whole_true t teid' sdus some =
      each_append (IsTrueSend layout stories) (pieces t teid' 0 sdus) (closing t teid' (length sdus)) (pieces_true t teid' 0 sdus some) (closing_true t teid' (length sdus) some)

  down_true : (t : Tunnel) (last : Bool) (sdus : List Sdu) → AllTrue (down_sends t last sdus)
  down_true t true sdus = whole_true t (teid t.g t.id 1) sdus (not_own t.g t.id 1 (omega arith) (omega arith))
  down_true t false sdus = pieces_true t (teid t.g t.id 1) 0 sdus (not_own t.g t.id 1 (omega arith) (omega arith))

  -- what an anchor forwards as it is frozen
  pub freeze_true : (a : Active) (to : Node) (g : ℕ) (last : Bool) → AllTrue (freeze a to g last).sends
  freeze_true a to g last =
      let t = new_tunnel a.entity to g in
      each_append (IsTrueSend layout stories) (down_sends t last (down_sdus a.entity)) (whole_tunnel t (teid g a.entity.setup.id 2) (up_sdus a.entity))
      (down_true t last (down_sdus a.entity)) (whole_true t (teid g a.entity.setup.id 2) (up_sdus a.entity) (not_own g a.entity.setup.id 2 (omega arith) (omega arith)))

  -- and what it forwards then
  pub frozen_sdu_true : (f : Frozen) (g : ℕ) (sdu : List ℕ) → AllTrue (frozen_sdu_in f g sdu).1
  frozen_sdu_true f g sdu =
      either (λ (done : Frozen × List Send). AllTrue done.1) (nat_le f.since g && nat_lt g f.tunnel.g) (record f { tunnel = (forward_fresh f.tunnel sdu).0 }, (forward_fresh f.tunnel sdu).1) (f, [])
      (pieces_true f.tunnel (teid f.tunnel.g f.tunnel.id 1) f.tunnel.next ((None, sdu) ∷ []) (not_own f.tunnel.g f.tunnel.id 1 (omega arith) (omega arith))) tt

  pub frozen_end_true : (f : Frozen) (g : ℕ) → AllTrue (frozen_end_in f g).1
  frozen_end_true f g =
      either (λ (done : Option Frozen × List Send). AllTrue done.1) (f.tunnel.g == g) (None, forward_end f.tunnel) (Some f, [])
      (closing_true f.tunnel (teid f.tunnel.g f.tunnel.id 1) f.tunnel.next (not_own f.tunnel.g f.tunnel.id 1 (omega arith) (omega arith))) tt
