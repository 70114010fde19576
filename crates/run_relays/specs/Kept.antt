-- What an anchor keeps while it waits (TS 38.323, 5.2.2; that it keeps what comes is this product's own).
use Rattle.std.specs.List.{AllByRecursion}
use Rattle.std.specs.Prelude.{List, Ok, Option, Some, ⊤, ℕ, ◌^◌, ◌<◌, ◌≡◌, ◌≤◌}
use Rattle.dc_base.specs.declared.flights.Flight.{Flight}
use Rattle.dc_base.specs.declared.flights.Flight.TheVariants as flight
use Rattle.dc_base.specs.Count.{sn}
use Rattle.pdcp_pdu.specs.Pdu.{Content, decoded, sdu}
use Rattle.node_rules.specs.Anchor.{AnchorState, active_anchor, waiting_anchor}
use Rattle.node_rules.specs.Feed.{Fed}
use Rattle.node_rules.specs.Packets.{packet_of, pdu_up}
use Rattle.node_rules.specs.Setup.{Setup}
use Rattle.node_rules.specs.World.{World}
use Rattle.claims.specs.Reading.{Setting}
use Rattle.run_uplinks.specs.Readings.{Reading}
use Rattle.run_uplinks.specs.Seen.{setting_in}
use Rattle.run_senders.specs.Holders.{AllHeld}
use Rattle.run_relays.specs.Pdus.{IsGoodPdu, IsPromised, ciphered}

-- a content is read of a PDU of the setup's identity and generation of which this is so
pub record IsReadOf (P : ℕ → ℕ → List ℕ → Type 0) (s : Setup) (x : Content) : Type 0 where
  pub pdu : List ℕ
  pub reads : decoded s.n pdu ≡ Ok x
  pub so : P s.id s.g pdu

-- each content that a waiting anchor keeps
abbrev pub KeepsOf : (ℕ → ℕ → List ℕ → Type 0) → AnchorState → Type 0
KeepsOf P (waiting_anchor w) = AllByRecursion (IsReadOf P w.setup) w.pdus
KeepsOf P (active_anchor a) = ⊤

-- of an anchor with its line from the core
abbrev pub FedKeepsOf : (ℕ → ℕ → List ℕ → Type 0) → Fed → Type 0
FedKeepsOf P f = KeepsOf P f.anchor

-- it is so of the PDU that a flight brings to an anchor, on the air or relayed in a tunnel
abbrev pub Brings : (ℕ → ℕ → List ℕ → Type 0) → Flight → Type 0
Brings P (flight.Air id g num tag pdu) = P id g pdu
Brings P (flight.Tun tag packet) = (id g : ℕ) (pdu : List ℕ) → packet_of packet ≡ pdu_up id g pdu → P id g pdu
Brings P (flight.Ack id g num) = ⊤
Brings P (flight.Sdu id g payload) = ⊤
Brings P (flight.End id g) = ⊤
Brings P (flight.Told id g count) = ⊤
Brings P (flight.Ctl r) = ⊤

-- a PDU is promised under some tag
pub record HasTag (r : Reading) (id g : ℕ) (pdu : List ℕ) : Type 0 where
  pub tag : Option ℕ
  pub promised : IsPromised r id g tag pdu

-- all that the waiting anchors of the nodes keep is read of PDUs of their submissions
pub record AreKept (r : Reading) (w : World) : Type 0 where
  pub master : AllHeld (KeepsOf (HasTag r)) w.master.anchors
  pub a : AllHeld (FedKeepsOf (HasTag r)) w.a.anchors
  pub b : AllHeld (FedKeepsOf (HasTag r)) w.b.anchors

-- each plan that sets an identity is of a generation below 2^24, and the identity is 1 to 32: then a TEID names both
abbrev pub AreSmall : Reading → Type 0
AreSmall r = (id g : ℕ) (x : Setting) → setting_in r.plans id g ≡ Some x → (1 ≤ id) × (id ≤ 32) × (g < 2 ^ 24)

-- a kept SDU with its SN: read of the PDU of a submission of the setup's identity and generation; where the setup has the length of
-- SNs of the establishment, it is the ciphered payload of that submission, under the SN of its COUNT (TS 38.323, 5.2.1 and 5.8)
pub record IsKeptSdu (r : Reading) (s : Setup) (k : ℕ) (body : List ℕ) : Type 0 where
  pub tag : Option ℕ
  pub pdu : List ℕ
  pub good : IsGoodPdu r s.id s.g tag pdu
  pub sn_is : s.n ≡ good.face.n → sdu k body ≡ sdu (sn good.face.n good.count) (ciphered r good.face good.set.key good.count good.payload)
