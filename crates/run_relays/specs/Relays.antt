-- What stands on links and in tunnels on the way to an anchor.
use Rattle.std.specs.List.{AllByRecursion}
use Rattle.std.specs.Prelude.{Bool, List, Option, false, is_some, true, ⊤, ℕ, ◌||◌, ◌≡◌}
use Rattle.std.proofs.Common.{◌⊎◌}
use Rattle.dc_base.specs.Nodes.{is_same_node}
use Rattle.dc_base.specs.declared.events.Line.{Line}
use Rattle.dc_base.specs.declared.events.Line.TheVariants as line
use Rattle.dc_base.specs.declared.flights.Flight.{Flight}
use Rattle.dc_base.specs.declared.flights.Flight.TheVariants as flight
use Rattle.dc_base.specs.declared.nodes.LinkId.{LinkId}
use Rattle.dc_base.specs.declared.nodes.Node.TheVariants.{T}
use Rattle.gtpu.specs.Content.{Content}
use Rattle.gtpu.specs.Spelling.{spelling}
use Rattle.gtpu.specs.declared.packet.GtpKind.{GtpKind}
use Rattle.gtpu.specs.declared.packet.GtpKind.TheVariants.{EchoRequest, EchoResponse, EndMarker, ErrorIndication, GPdu}
use Rattle.node_rules.specs.Choices.{Send}
use Rattle.node_rules.specs.Host.{Host}
use Rattle.node_rules.specs.Packets.{up_packet}
use Rattle.node_rules.specs.World.{World, flights_on}
use Rattle.run_uplinks.specs.Readings.{Reading}
use Rattle.run_relays.specs.Pdus.{IsPromised}

-- ---- packets

-- an End Marker
abbrev pub is_marker : GtpKind → Bool
is_marker EndMarker = true
is_marker GPdu = false
is_marker EchoRequest = false
is_marker EchoResponse = false
is_marker ErrorIndication = false

-- a packet that is no relayed PDU: it has a container, or is an End Marker (TS 29.281, 5.2.1; TS 38.425, 5.5)
pub record IsOther (packet : List ℕ) : Type 0 where
  pub content : Content
  pub is : packet ≡ spelling content
  pub other : (is_some content.container || is_marker content.kind) ≡ true

-- a relayed PDU: the packet in which a leg host passes it on, with its tag
pub record IsRelayed (r : Reading) (tag : Option ℕ) (packet : List ℕ) : Type 0 where
  pub id : ℕ
  pub g : ℕ
  pub pdu : List ℕ
  pub is : packet ≡ up_packet g id pdu
  pub promised : IsPromised r id g tag pdu

-- ---- flights

-- a PDU on the air to another node than the terminal is the PDU of its submission, and so is each that is relayed in a tunnel
abbrev pub OnLink : Reading → LinkId → Flight → Type 0
OnLink r l (flight.Air id g num tag pdu) = is_same_node l.to T ≡ false → IsPromised r id g tag pdu
OnLink r l (flight.Tun tag packet) = IsOther packet ⊎ IsRelayed r tag packet
OnLink r l (flight.Ack id g num) = ⊤
OnLink r l (flight.Sdu id g sdu) = ⊤
OnLink r l (flight.End id g) = ⊤
OnLink r l (flight.Told id g count) = ⊤
OnLink r l (flight.Ctl rec) = ⊤

-- each flight on each link
abbrev pub AreOnLinks : Reading → World → Type 0
AreOnLinks r w = (l : LinkId) → AllByRecursion (OnLink r l) (flights_on l w.links)

-- ---- sends

-- a send is no uplink PDU: a PDU on the air goes to the terminal, and a packet is no relayed PDU
abbrev pub IsPlain : Send → Type 0
IsPlain (l, flight.Air id g num tag pdu) = l.to ≡ T
IsPlain (l, flight.Tun tag packet) = IsOther packet
IsPlain (l, flight.Ack id g num) = ⊤
IsPlain (l, flight.Sdu id g sdu) = ⊤
IsPlain (l, flight.End id g) = ⊤
IsPlain (l, flight.Told id g count) = ⊤
IsPlain (l, flight.Ctl rec) = ⊤

-- each
abbrev pub ArePlain : List Send → Type 0
ArePlain ss = AllByRecursion IsPlain ss

-- a send passes this flight on: the flight is a PDU on the air, and the send is the packet of it, with its tag, from a leg host of its
-- bearer and generation of which this is so (TS 38.425, 5.4)
pub record PassesOn (H : Host → Type 0) (f : Flight) (s : Send) : Type 0 where
  pub id : ℕ
  pub g : ℕ
  pub num : ℕ
  pub tag : Option ℕ
  pub pdu : List ℕ
  pub is : f ≡ flight.Air id g num tag pdu
  pub relays : s.1 ≡ flight.Tun tag (up_packet g id pdu)
  pub host : Host
  pub so : H host
  pub of_id : host.id ≡ id
  pub of_g : host.g ≡ g
  pub from : s.0.from ≡ host.node

-- a send is no uplink PDU, or passes this flight on
abbrev pub IsSentFor : (Host → Type 0) → Flight → Send → Type 0
IsSentFor H f s = IsPlain s ⊎ PassesOn H f s

-- each
abbrev pub AreSentFor : (Host → Type 0) → Flight → List Send → Type 0
AreSentFor H f ss = AllByRecursion (IsSentFor H f) ss

-- ---- lines

-- what a line sends
abbrev pub OnLine : Reading → Line → Type 0
OnLine r (line.Send l f) = OnLink r l f
OnLine r (line.Note n) = ⊤
OnLine r (line.Event e) = ⊤
OnLine r (line.Answer a) = ⊤
