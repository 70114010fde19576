-- How the claims view the packets in tunnels: only a relayed PDU is an uplink PDU.
use Rattle.std.proofs.Common.{ℕ, ◌≡◌, ◌≤◌, ◌<◌, ◌/◌, ◌%◌, ◌^◌, true, false, List, ◌∷◌, Option, Some, None, drop, refl, ap, subst, ◌∙◌, arith, inl, inr}
use Rattle.std.specs.Prelude.{if◌then◌else◌, is_none, is_some, slice_index, ◌||◌}
use Rattle.std.proofs.lemmas.Bool.{cases_Bool}
use Rattle.dc_base.specs.Tunnel.{teid, teid_gen, teid_id}
use Rattle.gtpu.specs.Spelling.{spelling}
use Rattle.gtpu.specs.declared.packet.GtpKind.{GtpKind}
use Rattle.gtpu.specs.declared.packet.GtpKind.TheVariants.{EchoRequest, EchoResponse, EndMarker, ErrorIndication, GPdu}
use Rattle.gtpu.specs.declared.packet.PduNumber.{PduNumber}
use Rattle.claims.specs.Packets.{Packet, closing, downlink, forwarded, if_spelled, number4, octets_of, packet_of, read_packet, status, total, uplink}
use Rattle.claims.specs.Sameness.{is_same_octets, is_some_and}
use Rattle.claims.specs.Views.{Pdu, pdu_in}
use Rattle.claims.proofs.Readable.{octets_are}
use Rattle.node_rules.specs.Packets.{up_packet}
use Rattle.run_uplinks.proofs.Establishments.{some_is}
use Rattle.run_relays.specs.Relays.{IsOther, is_marker}
use Rattle.run_relays.proofs.FromTerminal.{octets_same}
use Rattle.run_relays.proofs.Packets.{teid_is}

-- ---- another packet

-- a packet of the claims is the one way in which it is written
spelled : (octets : List ℕ) (p : Packet) → packet_of octets ≡ Some p → octets_of p ≡ octets
spelled octets p is = by (read_packet octets) is
  where
    by : (q : Packet) → if_spelled octets q ≡ Some p → octets_of p ≡ octets
    by q at =
        elim (cases_Bool (is_same_octets (octets_of q) octets)) [
          | inl same ↦ let it = some_is q p (rw same at at) in subst (λ x. octets_of x ≡ octets) it (octets_are (octets_of q) octets same)
          | inr other ↦ absurd (let bad : None ≡ Some p = rw other at at in cc)
        ]

-- the first octet, or the second, is another than that of a relayed PDU
no_up : (kind : GtpKind) (t : ℕ) (c : Option (List ℕ)) (number : Option PduNumber) (body octets : List ℕ) (id g : ℕ) (pdu : List ℕ) → (is_some c || is_marker kind) ≡ true
    → octets_of (uplink id g pdu) ≡ spelling (record { kind = kind; teid = t; container = c; number = number; body = body }) → ⊥
no_up kind t (Some c) number body octets id g pdu other same = let bad : 0x30 ≡ 0x34 = ap (λ xs. slice_index xs 0) same in absurd (omega (arith, bad))
no_up EndMarker t None number body octets id g pdu other same = let bad : 255 ≡ 254 = ap (λ xs. slice_index xs 1) same in absurd (omega (arith, bad))
no_up GPdu t None number body octets id g pdu other same = absurd (let bad : false ≡ true = other in cc)
no_up EchoRequest t None number body octets id g pdu other same = absurd (let bad : false ≡ true = other in cc)
no_up EchoResponse t None number body octets id g pdu other same = absurd (let bad : false ≡ true = other in cc)
no_up ErrorIndication t None number body octets id g pdu other same = absurd (let bad : false ≡ true = other in cc)

-- of another packet no PDU is without a number
pub other_numbered : (tag : Option ℕ) (packet : List ℕ) → IsOther packet → is_some_and (λ (u : Pdu). is_none u.num) (pdu_in tag (packet_of packet)) ≡ false
other_numbered tag packet is = by (packet_of packet) refl
  where
    by : (o : Option Packet) → packet_of packet ≡ o → is_some_and (λ (u : Pdu). is_none u.num) (pdu_in tag o) ≡ false
    by None at = refl
    by (Some (downlink id g number repeat pdu)) at = refl
    by (Some (uplink id g pdu)) at =
        let p = is.content in absurd (no_up p.kind p.teid p.container p.number p.body packet id g pdu is.other (spelled packet (uplink id g pdu) at ∙ is.is))
    by (Some (status id g highest lost)) at = refl
    by (Some (forwarded id g d number s sdu)) at = refl
    by (Some (total id g d number)) at = refl
    by (Some (closing id g d)) at = refl

-- ---- a relayed PDU

-- the four octets of a TEID
four : (t : ℕ) (rest : List ℕ) → t < 2 ^ 32 → number4 ((t / 16777216 % 256) ∷ (t / 65536 % 256) ∷ (t / 256 % 256) ∷ (t % 256) ∷ rest) ≡ t
four t rest small = omega (arith, small)

-- it is viewed as this, if as anything
pub up_viewed : (g id : ℕ) (pdu : List ℕ)
    → packet_of (up_packet g id pdu) ≡ if_spelled (up_packet g id pdu) (uplink (teid_id (number4 (drop 4 (up_packet g id pdu)))) (teid_gen (number4 (drop 4 (up_packet g id pdu)))) pdu)
up_viewed g id pdu = refl

-- in range as the PDU that it is
pub up_is_viewed : (g id : ℕ) (pdu : List ℕ) → 1 ≤ id → id ≤ 32 → g < 2 ^ 24 → packet_of (up_packet g id pdu) ≡ Some (uplink id g pdu)
up_is_viewed g id pdu one most small =
    let octets = up_packet g id pdu in
    let parts = teid_is g id one most small in
    let t : number4 (drop 4 octets) ≡ teid g id 0 = four (teid g id 0) pdu parts.2 in
    up_viewed g id pdu ∙ ap (λ n. if_spelled octets (uplink (teid_id n) (teid_gen n) pdu)) t
    ∙ ap (λ i. if_spelled octets (uplink i (teid_gen (teid g id 0)) pdu)) parts.0 ∙ ap (λ h. if_spelled octets (uplink id h pdu)) parts.1
    ∙ ap (λ b. if b then Some (uplink id g pdu) else None) (octets_same octets octets refl)
