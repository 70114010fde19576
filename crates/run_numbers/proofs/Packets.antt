-- The packet with which an anchor sends a PDU to the host is viewed as that PDU, with its number and its mark (TS 38.425, 5.5.2.1).
use Rattle.std.proofs.Common.{ℕ, ◌≡◌, ◌<◌, ◌≤◌, ◌==◌, Bool, true, false, List, [], ◌∷◌, Some, None, refl, ap, ◌∙◌, arith}
use Rattle.std.specs.Prelude.{drop, if◌then◌else◌, ◌%◌, ◌/◌, ◌^◌}
use Rattle.dc_base.specs.Tunnel.{teid, teid_gen, teid_id, teid_kind}
use Rattle.claims.specs.Packets.{direction_of_kind, downlink, forwarded, if_spelled, number3, number4, packet_of, read_packet, total, with_user}
use Rattle.node_rules.specs.Packets.{down_packet}
use Rattle.run_relays.proofs.FromTerminal.{octets_same}
use Rattle.run_relays.proofs.Packets.{teid_is}

-- the four octets of a TEID
four : (t : ℕ) (rest : List ℕ) → t < 2 ^ 32 → number4 ((t / 16777216 % 256) ∷ (t / 65536 % 256) ∷ (t / 256 % 256) ∷ (t % 256) ∷ rest) ≡ t
four t rest small = omega (arith, small)

-- the three of a number
three : (n : ℕ) (rest : List ℕ) → n < 2 ^ 24 → number3 ((n / 65536 % 256) ∷ (n / 256 % 256) ∷ (n % 256) ∷ rest) ≡ n
three n rest small = omega (arith, small)

-- the octets of a number, as they stand in the frame
abbrev spelled : ℕ → List ℕ
spelled n = (n / 65536 % 256) ∷ (n / 256 % 256) ∷ (n % 256) ∷ 0 ∷ 0 ∷ []

-- the flags of a PDU with this mark
abbrev flags : Bool → ℕ
flags repeat = if repeat then 3 else 1

-- what is read of the octets
reads : (g id number : ℕ) (repeat : Bool) (pdu : List ℕ) → read_packet (down_packet g id number repeat pdu) ≡ with_user (number4 (drop 4 (down_packet g id number repeat pdu))) (flags repeat) None (spelled number) pdu
reads g id number true pdu = refl
reads g id number false pdu = refl

kind_none : (g id : ℕ) → teid_kind (teid g id 0) ≡ 0
kind_none g id = omega arith

-- in range as the PDU that it is
user_is : (g id number : ℕ) (repeat : Bool) (pdu : List ℕ) → 1 ≤ id → id ≤ 32 → g < 2 ^ 24 → number < 2 ^ 24
    → with_user (teid g id 0) (flags repeat) None (spelled number) pdu ≡ downlink id g number repeat pdu
user_is g id number repeat pdu one most small few =
    let parts = teid_is g id one most small in
    ap (λ k. if k == 0 then downlink (teid_id (teid g id 0)) (teid_gen (teid g id 0)) (number3 (spelled number)) (flags repeat / 2 == 1) pdu else if flags repeat == 0 then total (teid_id (teid g id 0)) (teid_gen (teid g id 0)) (direction_of_kind k) (number3 (spelled number)) else forwarded (teid_id (teid g id 0)) (teid_gen (teid g id 0)) (direction_of_kind k) (number3 (spelled number)) None pdu) (kind_none g id)
    ∙ ap (λ i. downlink i (teid_gen (teid g id 0)) (number3 (spelled number)) (flags repeat / 2 == 1) pdu) parts.0
    ∙ ap (λ h. downlink id h (number3 (spelled number)) (flags repeat / 2 == 1) pdu) parts.1
    ∙ ap (λ n. downlink id g n (flags repeat / 2 == 1) pdu) (three number (0 ∷ 0 ∷ []) few) ∙ ap (λ b. downlink id g number b pdu) (mark repeat)
  where
    mark : (b : Bool) → (flags b / 2 == 1) ≡ b
    mark true = refl
    mark false = refl

pub down_is_viewed : (g id number : ℕ) (repeat : Bool) (pdu : List ℕ) → 1 ≤ id → id ≤ 32 → g < 2 ^ 24 → number < 2 ^ 24 → packet_of (down_packet g id number repeat pdu) ≡ Some (downlink id g number repeat pdu)
down_is_viewed g id number repeat pdu one most small few =
    let octets = down_packet g id number repeat pdu in
    let parts = teid_is g id one most small in
    ap (if_spelled octets)
    (reads g id number repeat pdu ∙ ap (λ t. with_user t (flags repeat) None (spelled number) pdu) (four (teid g id 0) (drop 8 octets) parts.2) ∙ user_is g id number repeat pdu one most small few)
    ∙ ap (λ b. if b then Some (downlink id g number repeat pdu) else None) (octets_same octets octets refl)
