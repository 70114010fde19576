-- The packet with which an anchor sends a PDU to the host is read, and viewed, as that PDU (TS 38.425, 5.5.2.1).
use Rattle.std.proofs.Common.{ℕ, ◌≡◌, ◌∙◌, Bool, List, Some, sym, ap, arith}
use Rattle.claims.specs.Packets.{downlink}
use Rattle.claims.specs.Packets as claims
use Rattle.node_rules.specs.Packets.{packet_of, pdu_down}
use Rattle.run_confirms.proofs.Packets.{down_is_read}
use Rattle.run_numbers.proofs.Packets as numbers
use Rattle.run_downlinks.specs.Downlinks.{IsDownOf}

module _ (packet : List ℕ) (is : IsDownOf packet) where
  -- what a node reads of it is what it brings
  pub record ReadAs (id g : ℕ) (pdu : List ℕ) : Type 0 where
    pub of_id : is.id ≡ id
    pub of_g : is.g ≡ g
    pub octets : is.pdu ≡ pdu

  pub down_says : (id g number : ℕ) (repeat : Bool) (pdu : List ℕ) → packet_of packet ≡ pdu_down id g number repeat pdu → ReadAs id g pdu
  down_says id g number repeat pdu says =
      let small = is.small in
      let read = down_is_read is.id is.g is.number is.repeat is.pdu is.few (record { some = is.some; small = is.most; generation = omega (arith, small); short = is.short }) in
      let both : pdu_down is.id is.g is.number is.repeat is.pdu ≡ pdu_down id g number repeat pdu = sym (ap packet_of is.is ∙ read) ∙ says in record { of_id = cc; of_g = cc; octets = cc }

-- as the claims view it
pub down_is_viewed : (packet : List ℕ) (is : IsDownOf packet) → claims.packet_of packet ≡ Some (downlink is.id is.g is.number is.repeat is.pdu)
down_is_viewed packet is = ap claims.packet_of is.is ∙ numbers.down_is_viewed is.g is.id is.number is.repeat is.pdu is.some is.most is.small is.few
