-- What is on its way of an uplink: its PDUs, status reports of it, and what a frozen anchor hands over (TS 38.323, 5.2 and 5.4;
-- TS 38.423, 8.2.2).
use Rattle.std.specs.List.{list_any}
use Rattle.std.specs.Prelude.{Bool, List, None, Ok, Option, Some, false, true, ⊤, ℕ, ◌<◌, ◌==◌, ◌&&◌, ◌≡◌, ◌≤◌}
use Rattle.dc_base.specs.Nodes.{is_same_node}
use Rattle.dc_base.specs.declared.flights.Flight.{Flight}
use Rattle.dc_base.specs.declared.flights.Flight.TheVariants as flight
use Rattle.dc_base.specs.declared.nodes.Dir.TheVariants.{Ul}
use Rattle.dc_base.specs.declared.nodes.LinkId.{LinkId}
use Rattle.dc_base.specs.declared.nodes.Node.TheVariants.{T}
use Rattle.dc_base.specs.declared.records.Rec.{Rec}
use Rattle.dc_base.specs.declared.records.Rec.TheVariants as rec
use Rattle.node_rules.specs.Choices.{Send}
use Rattle.node_rules.specs.Packets.{Packet, delivery, forwarding, nothing, packet_of, pdu_down, pdu_up}
use Rattle.pdcp_pdu.specs.DataPdu.{is_data}
use Rattle.pdcp_pdu.specs.Pdu.{decoded, report}
use Rattle.pdcp_rx.specs.Receiver.{Received}
use Rattle.pdcp_rx.specs.declared.entity.RxParts.{RxParts}
use Rattle.run_receivers.specs.Frozen.{IsForwardedOf, SaysOf}
use Rattle.run_receivers.specs.Reports.{NamesReceived}
use Rattle.run_receivers.specs.Submitted.{next_of}
use Rattle.run_received.specs.Receipts.{Receipt, submitted_to}

-- the generation is one of the establishment
abbrev pub IsOf : Receipt → ℕ → ℕ → Type 0
IsOf r id g = (id ≡ r.id) × (r.g ≤ g)

-- a flight is a PDU of this identity and generation on the air
abbrev pub is_air_of : ℕ → ℕ → Flight → Bool
is_air_of id g (flight.Air i h num tag pdu) = (i == id) && (h == g)
is_air_of id g _ = false

-- among these sends is a PDU of this identity and generation on the air
abbrev pub is_sent_in : ℕ → ℕ → List Send → Bool
is_sent_in id g ss = list_any (λ (s : Send). is_air_of id g s.1) ss

-- an uplink data PDU with this COUNT: the terminal, which sent all these, sent in its generation; the COUNT was submitted; the terminal
-- has that generation, or a later one; and where no anchor was active yet in it, the COUNT is not below the terminal's Low
pub record IsDue (sent : List Send) (r : Receipt) (g : ℕ) (tag : Option ℕ) : Type 0 where
  pub count : ℕ
  pub tagged : tag ≡ Some count
  pub from : r.first ≤ count
  pub submitted : count < next_of (submitted_to r)
  pub sends : is_sent_in r.id g sent ≡ true
  pub set : (h : ℕ) → r.terminal ≡ Some h → g ≤ h
  pub late : r.owned < g → r.freed ≤ count

-- a PDU on its way to an anchor
abbrev pub UpComes : List Send → Receipt → ℕ → ℕ → Option ℕ → List ℕ → Type 0
UpComes sent r id g tag pdu = IsOf r id g → is_data pdu ≡ true → IsDue sent r g tag

-- a status report of the uplink names only what was received, and comes of an anchor that was active in its generation
pub record IsTrueReport (r : Receipt) (rx : RxParts) (g fmc : ℕ) (bits : List ℕ) : Type 0 where
  pub owned : g ≤ r.owned
  pub names : NamesReceived rx fmc bits

-- a PDU on its way to the terminal, if it is one
abbrev pub DownComes : Receipt → RxParts → ℕ → ℕ → List ℕ → Type 0
DownComes r rx id g pdu = IsOf r id g → (fmc : ℕ) (bits : List ℕ) → decoded r.n pdu ≡ Ok (report fmc bits) → IsTrueReport r rx g fmc bits

-- what is handed over in a generation: in one in which no anchor was active yet, nobody holds the bearer, and this is so
pub record IsHandedOver (r : Receipt) (g : ℕ) (P : Type 0) : Type 0 where
  pub says : r.owned < g → (r.holder ≡ None) × P

-- what a packet says of the uplink
abbrev pub PacketComes : List Send → Receipt → RxParts → Option ℕ → Packet → Type 0
PacketComes sent r rx tag (pdu_down id g number repeat pdu) = DownComes r rx id g pdu
PacketComes sent r rx tag (pdu_up id g pdu) = UpComes sent r id g tag pdu
PacketComes sent r rx tag (delivery id g status) = ⊤
PacketComes sent r rx tag (forwarding id g d load) = d ≡ Ul → IsOf r id g → IsHandedOver r g (IsForwardedOf rx load)
PacketComes sent r rx tag nothing = ⊤

-- what a record says of it
abbrev pub RecordComes : Receipt → RxParts → Rec → Type 0
RecordComes r rx (rec.Snst st) = IsOf r st.id st.g → IsHandedOver r st.g (SaysOf rx st)
RecordComes r rx _ = ⊤

-- a PDU on the air, by whether it goes to the terminal
abbrev pub AirComes : List Send → Receipt → RxParts → Bool → ℕ → ℕ → Option ℕ → List ℕ → Type 0
AirComes sent r rx true id g tag pdu = DownComes r rx id g pdu
AirComes sent r rx false id g tag pdu = UpComes sent r id g tag pdu

-- what a flight on a link says of it
abbrev pub Comes : List Send → Receipt → RxParts → LinkId → Flight → Type 0
Comes sent r rx l (flight.Air id g num tag pdu) = AirComes sent r rx (is_same_node l.to T) id g tag pdu
Comes sent r rx l (flight.Tun tag packet) = PacketComes sent r rx tag (packet_of packet)
Comes sent r rx l (flight.Ctl c) = RecordComes r rx c
Comes sent r rx l (flight.Ack id g num) = ⊤
Comes sent r rx l (flight.Sdu id g sdu) = ⊤
Comes sent r rx l (flight.End id g) = ⊤
Comes sent r rx l (flight.Told id g count) = ⊤

-- what an uplink and its receiving entity become, where no anchor begins or ends and the terminal keeps its generation: more may be
-- submitted and received; Low rises only where nothing of a generation is on its way in which no anchor was active yet; and a frozen
-- entity stays as it is
pub record Grows (r s : Receipt) (rx ry : RxParts) : Type 0 where
  pub g : s.g ≡ r.g
  pub id : s.id ≡ r.id
  pub n : s.n ≡ r.n
  pub first : s.first ≡ r.first
  pub more : next_of (submitted_to r) ≤ next_of (submitted_to s)
  pub terminal : s.terminal ≡ r.terminal
  pub owned : s.owned ≡ r.owned
  pub holder : s.holder ≡ r.holder
  pub freed : (g : ℕ) → r.owned < g → ((h : ℕ) → r.terminal ≡ Some h → g ≤ h) → s.freed ≤ r.freed
  pub deliv : rx.deliv ≤ ry.deliv
  pub received : (c : ℕ) → Received rx c → Received ry c
  pub frozen : r.holder ≡ None → ry ≡ rx

-- all that was sent before was sent
abbrev pub SentAlso : List Send → List Send → Type 0
SentAlso before after = (id g : ℕ) → is_sent_in id g before ≡ true → is_sent_in id g after ≡ true
