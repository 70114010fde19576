-- The data PDUs that an anchor sends: each is the PDU of an SDU that its entity keeps (TS 38.323, 5.2.1 and 5.8; TS 38.425, 5.4.1).
use Rattle.std.specs.Prelude.{Bool, List, Option, Some, false, length, true, ℕ, ⊤, ◌≡◌, ◌≤◌}
use Rattle.std.specs.List.{AllByRecursion}
use Rattle.dc_base.specs.Count.{sn}
use Rattle.dc_base.specs.declared.flights.Flight.TheVariants as flight
use Rattle.dc_base.specs.declared.nodes.Alg.{Alg}
use Rattle.dc_base.specs.declared.nodes.Dir.{Dir}
use Rattle.dc_base.specs.declared.numbers.SnLen.{SnLen}
use Rattle.nea2.specs.Combined.{combined}
use Rattle.pdcp_pdu.specs.DataPdu.{data_pdu, is_data}
use Rattle.pdcp_tx.specs.Sender.{Entry}
use Rattle.transcript.specs.Content.{direction_from}
use Rattle.node_rules.specs.Anchor.{AnchorState, active_anchor, setup_at, waiting_anchor}
use Rattle.node_rules.specs.Choices.{Send}
use Rattle.node_rules.specs.Entity.{stream}
use Rattle.node_rules.specs.Packets.{down_packet}
use Rattle.node_rules.specs.Setup.{Setup}
use Rattle.node_rules.specs.declared.bearers.AnchorOut.{AnchorOut}

-- what of a setup decides about the data PDUs that are sent under it
pub record Keying : Type 0 where
  pub g : ℕ
  pub id : ℕ
  pub n : SnLen
  pub alg : Alg
  pub key : List ℕ
  pub d : Dir

-- of a setup
abbrev pub keying : Setup → Keying
keying s = record { g = s.g; id = s.id; n = s.n; alg = s.alg; key = s.key; d = direction_from s.node }

-- the data PDU of an SDU with its COUNT
abbrev pub pdu_by : Keying → Entry → List ℕ
pdu_by k e = data_pdu k.n (sn k.n e.0) (combined e.1 (stream k.alg k.key e.0 k.id k.d (length e.1)))

-- a PDU with this tag is that of an SDU of which this is so, and the tag is its COUNT
pub record IsPduOf (k : Keying) (P : Entry → Type 0) (tag : Option ℕ) (pdu : List ℕ) : Type 0 where
  pub entry : Entry
  pub so : P entry
  pub tagged : tag ≡ Some entry.0
  pub is : pdu ≡ pdu_by k entry

-- so is each data PDU; of a control PDU nothing is said
abbrev pub IsDataOf : Keying → (Entry → Type 0) → Option ℕ → List ℕ → Type 0
IsDataOf k P tag pdu = is_data pdu ≡ true → IsPduOf k P tag pdu

-- a packet brings such a PDU, or a control PDU, to the leg host
pub record IsPacketOf (k : Keying) (P : Entry → Type 0) (tag : Option ℕ) (packet : List ℕ) : Type 0 where
  pub number : ℕ
  pub repeat : Bool
  pub pdu : List ℕ
  pub is : packet ≡ down_packet k.g k.id number repeat pdu
  pub so : IsDataOf k P tag pdu
  pub control : is_data pdu ≡ false → length pdu ≤ 9000

-- a PDU that is sent on the air is such a one, of the same bearer and generation; and each packet brings one
abbrev pub IsSentOf : Keying → (Entry → Type 0) → Send → Type 0
IsSentOf k P (l, flight.Air id g num tag pdu) = (id ≡ k.id) × (g ≡ k.g) × IsDataOf k P tag pdu
IsSentOf k P (l, flight.Tun tag packet) = IsPacketOf k P tag packet
IsSentOf k P (l, flight.Ack id g num) = ⊤
IsSentOf k P (l, flight.Sdu id g sdu) = ⊤
IsSentOf k P (l, flight.End id g) = ⊤
IsSentOf k P (l, flight.Told id g count) = ⊤
IsSentOf k P (l, flight.Ctl r) = ⊤

-- each send is
abbrev pub AreSentOf : Keying → (Entry → Type 0) → List Send → Type 0
AreSentOf k P ss = AllByRecursion (IsSentOf k P) ss

-- it is so of all that an anchor keeps
abbrev pub KeptAt : (Entry → Type 0) → AnchorState → Type 0
KeptAt P (waiting_anchor w) = ⊤
KeptAt P (active_anchor a) = AllByRecursion P a.entity.tx.kept

-- a step of an anchor: it goes on to send under the same keying, and each data PDU that it sends is that of an SDU that it keeps then
pub record IsCanonical (s : AnchorState) (done : AnchorState × AnchorOut) : Type 1 where
  pub same : keying (setup_at done.0) ≡ keying (setup_at s)
  pub sends : (P : Entry → Type 0) → KeptAt P done.0 → AreSentOf (keying (setup_at s)) P done.1.sends
