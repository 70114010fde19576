-- What a packet in the tunnel between the anchor and the host of a bearer says, in one generation.
use Rattle.std.specs.Prelude.{List, Option, ⊤, ℕ, ◌≡◌}
use Rattle.dc_base.specs.declared.numbers.SnLen.{SnLen}
use Rattle.nr_u.specs.declared.tunnel.outbound.Sent.{Sent}
use Rattle.pdcp_pdu.specs.Pdu.{decoded}
use Rattle.node_rules.specs.Packets.{Packet, delivery, pdu_down}
use Rattle.run_confirms.specs.Hosts.{Shows, WasSent}
use Rattle.run_confirms.specs.Statuses.{IsStatusOf}

-- if the packet is of this bearer and generation: its PDU was sent under its number, with its mark and tag, whose sequence number it
-- shows; its delivery status says the truth
abbrev pub IsTrueFor : ℕ → ℕ → SnLen → List Sent → (ℕ → Type 0) → Option ℕ → Packet → Type 0
IsTrueFor id g n tun received tag (pdu_down i h number repeat pdu) = i ≡ id → h ≡ g → WasSent tun number repeat tag × Shows n tag (decoded n pdu)
IsTrueFor id g n tun received tag (delivery i h status) = i ≡ id → h ≡ g → IsStatusOf n tun received tag status
IsTrueFor id g n tun received tag _ = ⊤
