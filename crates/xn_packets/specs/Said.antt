-- What a packet says whose parts lie elsewhere.
use Rattle.forward.specs.Reading.{said_load}
use Rattle.node_rules.specs.Packets.{Packet, pdu_down, pdu_up, delivery, forwarding, nothing}
use Rattle.xn_packets.specs.declared.reading.Packet.{Packet as Lent}
use Rattle.xn_packets.specs.declared.reading.Packet.TheVariants as lent

-- a packet as it was read
abbrev pub said : Lent → Packet
said (lent.PduDown id g number repeat pdu) = pdu_down id g number repeat pdu.now
said (lent.PduUp id g pdu) = pdu_up id g pdu.now
said (lent.Delivery id g status) = delivery id g status
said (lent.Forwarding id g dir load) = forwarding id g dir (said_load load)
said lent.Nothing = nothing
