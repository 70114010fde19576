-- What flights on their way say of what was sent for the terminal, and of what it received (TS 38.425, 5.4).
use Rattle.std.specs.Prelude.{Bool, IfSome, length, List, Option, Some, [], false, slice_get, true, ⊤, ℕ, ◌<◌, ◌^◌, ◌≡◌, ◌≤◌, ◌⊎◌}
use Rattle.dc_base.specs.Nodes.{is_same_node}
use Rattle.dc_base.specs.declared.flights.Flight.{Flight}
use Rattle.dc_base.specs.declared.flights.Flight.TheVariants as flight
use Rattle.dc_base.specs.declared.nodes.LinkId.{LinkId}
use Rattle.dc_base.specs.declared.nodes.Node.TheVariants.{T}
use Rattle.dc_base.specs.declared.numbers.SnLen.{SnLen}
use Rattle.dc_base.specs.declared.records.Rec.{Rec}
use Rattle.dc_base.specs.declared.records.Rec.TheVariants as rec
use Rattle.nr_u.specs.Frames.{IsWritable}
use Rattle.nr_u.specs.declared.frame.Frame.{Frame}
use Rattle.pdcp_pdu.specs.DataPdu.{is_data}
use Rattle.pdcp_pdu.specs.Pdu.{decoded}
use Rattle.node_rules.specs.Choices.{Send}
use Rattle.node_rules.specs.Packets.{Packet, delivery, forwarding, nothing, packet_of, pdu_down, pdu_up, status_packet}
use Rattle.run_confirms.specs.Anchors.{IsInTunnel}
use Rattle.run_confirms.specs.Hosts.{Shows}
use Rattle.run_confirms.specs.Statuses.{IsAckOf, IsStatusOf}
use Rattle.run_confirms.proofs.Packets.{IsNamedRight}
use Rattle.run_confirmed.specs.Stories.{Layout, ReceivedBy, Stories, fitting, leg_of}

-- a packet with a PDU for a host, as its anchor sent it
pub record IsDown (stories : Stories) (tag : Option ℕ) (packet : List ℕ) : Type 0 where
  pub id : ℕ
  pub g : ℕ
  pub sent : IsInTunnel id g (stories id g).tunnel tag packet
  pub named : IsNamedRight id g []

-- a packet with a delivery status that says the truth
pub record IsTold (layout : Layout) (stories : Stories) (tag : Option ℕ) (packet : List ℕ) : Type 0 where
  pub id : ℕ
  pub g : ℕ
  pub status : Frame
  pub is : packet ≡ status_packet g id status
  pub truth : IsStatusOf (layout.n id g) (fitting (stories id g).tunnel) (ReceivedBy (stories id g).rx) tag status
  pub fits : IsWritable status
  pub named : IsNamedRight id g []

-- a packet has neither a PDU for a host nor a delivery status
abbrev pub is_aside : Packet → Bool
is_aside (pdu_down id g number repeat pdu) = false
is_aside (pdu_up id g pdu) = true
is_aside (delivery id g status) = false
is_aside (forwarding id g d load) = true
is_aside nothing = true

-- what a packet says is so
abbrev pub IsTruePacket : Layout → Stories → Option ℕ → List ℕ → Type 0
IsTruePacket layout stories tag packet = IsDown stories tag packet ⊎ (IsTold layout stories tag packet ⊎ (is_aside (packet_of packet) ≡ true))

-- a status transfer has a COUNT of 32 bits
abbrev pub IsSmallStatus : Rec → Type 0
IsSmallStatus (rec.Snst status) = status.dl < 2 ^ 32
IsSmallStatus _ = ⊤

-- what a flight on a link says is so: a PDU from another node than the terminal has its COUNT under its number on the leg, and what the terminal acks it
-- received
abbrev pub IsTrue : Layout → Stories → LinkId → Flight → Type 0
IsTrue layout stories l (flight.Air id g num tag pdu) = is_same_node l.from T ≡ false → slice_get (leg_of layout stories id g l.from) num ≡ Some tag
IsTrue layout stories l (flight.Ack id g num) = is_same_node l.from T ≡ true → IsAckOf (leg_of layout stories id g l.to) (ReceivedBy (stories id g).rx) num
IsTrue layout stories l (flight.Tun tag packet) = IsTruePacket layout stories tag packet
IsTrue layout stories l (flight.Ctl r) = IsSmallStatus r
IsTrue layout stories l (flight.Sdu id g payload) = ⊤
IsTrue layout stories l (flight.End id g) = ⊤
IsTrue layout stories l (flight.Told id g count) = ⊤

-- of a send
abbrev pub IsTrueSend : Layout → Stories → Send → Type 0
IsTrueSend layout stories s = IsTrue layout stories s.0 s.1

-- a PDU shows its COUNT, and is a data PDU if it has one
pub record ShowsTag (n : SnLen) (tag : Option ℕ) (pdu : List ℕ) : Type 0 where
  pub shows : Shows n tag (decoded n pdu)
  pub data' : IfSome tag (λ count. is_data pdu ≡ true)

-- a PDU for a host is read as it was sent: its number has 24 bits, it has at most 32,768 octets, and it shows its COUNT
pub record IsReadDown (layout : Layout) (id g number : ℕ) (tag : Option ℕ) (pdu : List ℕ) : Type 0 where
  pub small : number < 2 ^ 24
  pub short : length pdu ≤ 2 ^ 15
  pub shows : ShowsTag (layout.n id g) tag pdu

-- a flight is read as it was sent: a PDU in a tunnel, by whatever number of the stories it was
abbrev pub IsReadRight : Layout → Stories → LinkId → Flight → Type 0
IsReadRight layout stories l (flight.Tun tag packet) = (d : IsDown stories tag packet) → IsReadDown layout d.id d.g d.sent.number tag d.sent.pdu
IsReadRight layout stories l (flight.Air id g num tag pdu) = is_same_node l.from T ≡ false → ShowsTag (layout.n id g) tag pdu
IsReadRight layout stories l _ = ⊤
