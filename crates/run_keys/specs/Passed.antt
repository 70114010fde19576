-- The downlink PDU that a packet brings to a leg host.
use Rattle.std.specs.Prelude.{Bool, List, ℕ, ⊤, ◌≡◌}
use Rattle.dc_base.specs.declared.flights.Flight.{Flight}
use Rattle.dc_base.specs.declared.flights.Flight.TheVariants as flight
use Rattle.node_rules.specs.Packets.{Packet, packet_of, pdu_down}

-- it is so of the identity and generation of the downlink PDU that a packet says, if it says one
abbrev pub SaysDownOf : (ℕ → ℕ → Type 0) → Packet → Type 0
SaysDownOf P x = (id g number : ℕ) (repeat : Bool) (pdu : List ℕ) → x ≡ pdu_down id g number repeat pdu → P id g

-- of the one that a flight brings through a tunnel
abbrev pub BringsDownOf : (ℕ → ℕ → Type 0) → Flight → Type 0
BringsDownOf P (flight.Tun tag packet) = SaysDownOf P (packet_of packet)
BringsDownOf P (flight.Air id g num tag pdu) = ⊤
BringsDownOf P (flight.Ack id g num) = ⊤
BringsDownOf P (flight.Sdu id g sdu) = ⊤
BringsDownOf P (flight.End id g) = ⊤
BringsDownOf P (flight.Told id g count) = ⊤
BringsDownOf P (flight.Ctl r) = ⊤
