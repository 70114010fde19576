-- A downlink data PDU is the PDU of its submission (TS 38.323, 5.2.1 and 5.8; TS 33.501, D.2.1), and where it comes from.
use Rattle.std.specs.Prelude.{Bool, List, Option, Some, [], ⊤, false, is_none, length, not, true, ℕ, ◌<◌, ◌^◌, ◌≡◌, ◌≤◌, ◌⊎◌, ◌∷◌}
use Rattle.std.specs.List.{AllByRecursion}
use Rattle.dc_base.specs.Count.{sn}
use Rattle.dc_base.specs.Nodes.{is_same_node}
use Rattle.dc_base.specs.declared.events.Event.{Event}
use Rattle.dc_base.specs.declared.events.Line.{Line}
use Rattle.dc_base.specs.declared.events.Line.TheVariants as line
use Rattle.dc_base.specs.declared.flights.Flight.{Flight}
use Rattle.dc_base.specs.declared.flights.Flight.TheVariants as flight
use Rattle.dc_base.specs.declared.nodes.Dir.TheVariants.{Dl}
use Rattle.dc_base.specs.declared.nodes.KeyName.{KeyName}
use Rattle.dc_base.specs.declared.nodes.LinkId.{LinkId}
use Rattle.dc_base.specs.declared.nodes.Node.TheVariants.{A, B, M, T}
use Rattle.nea2.specs.Combined.{combined}
use Rattle.pdcp_pdu.specs.DataPdu.{data_pdu, is_data}
use Rattle.claims.specs.Judged.{judged}
use Rattle.claims.specs.Noted.{after}
use Rattle.claims.specs.Packets as claims
use Rattle.claims.specs.Past.{Past}
use Rattle.claims.specs.Protected.{stream}
use Rattle.claims.specs.Reading.{Setting, anchor_in}
use Rattle.claims.specs.Sameness.{is_some_and}
use Rattle.claims.specs.Views.{Pdu, pdu_in}
use Rattle.node_rules.specs.Choices.{Choices, Send}
use Rattle.node_rules.specs.Packets.{down_packet, packet_of, pdu_down}
use Rattle.node_rules.specs.Run.{Happening, carried_on, given_to, happening, on_links, refused_for, world_step}
use Rattle.node_rules.specs.World.{World, flights_on}
use Rattle.node_rules.specs.declared.inputs.Input.TheVariants.{Cmd, Come}
use Rattle.run_relays.specs.Pdus.{named_face, payload_of}
use Rattle.run_uplinks.specs.Readings.{Face, Reading}
use Rattle.run_uplinks.specs.Seen.{setting_in}
use Rattle.run_downlinks.specs.Seen.{down_reading}

-- ---- PDUs

-- the octets of the PDU of a payload of an establishment, under a key
abbrev pub down_octets : Reading → Face → KeyName → ℕ → List ℕ → List ℕ
down_octets r f key c payload = data_pdu f.n (sn f.n c) (combined payload (stream r.alg r.roots key c f.id Dl (length payload)))

-- a PDU of an identity and generation is the one of the submission with its tag as COUNT, under the key of the generation's plan,
-- whose root was named
pub record IsGoodDown (r : Reading) (id g : ℕ) (tag : Option ℕ) (pdu : List ℕ) : Type 0 where
  pub set : Setting
  pub in_plan : setting_in r.plans id g ≡ Some set
  pub root : set.key.root < length r.roots
  pub face : Face
  pub of_face : named_face id g r.faces ≡ Some face
  pub count : ℕ
  pub tagged : tag ≡ Some count
  pub payload : List ℕ
  pub submitted : payload_of face count ≡ Some payload
  pub octets : pdu ≡ down_octets r face set.key count payload

-- it comes from the node of the anchor of its plan
pub record IsOwn (r : Reading) (l : LinkId) (id g : ℕ) (tag : Option ℕ) (pdu : List ℕ) : Type 0 where
  pub good : IsGoodDown r id g tag pdu
  pub from : is_same_node l.from (anchor_in good.set) ≡ true

-- ---- packets

-- a packet brings a PDU to a leg host, with identity, generation and number in their ranges
pub record IsDownOf (packet : List ℕ) : Type 0 where
  pub id : ℕ
  pub g : ℕ
  pub number : ℕ
  pub repeat : Bool
  pub pdu : List ℕ
  pub is : packet ≡ down_packet g id number repeat pdu
  pub some : 1 ≤ id
  pub most : id ≤ 32
  pub small : g < 2 ^ 24
  pub few : number < 2 ^ 24
  pub short : length pdu ≤ 2 ^ 15

-- a packet brings no PDU to a leg host, to whoever reads it
pub record IsOtherDown (packet : List ℕ) : Type 0 where
  pub unread : (id g number : ℕ) (repeat : Bool) (pdu : List ℕ) → packet_of packet ≡ pdu_down id g number repeat pdu → ⊥
  pub unseen : (tag : Option ℕ) → is_some_and (λ (u : Pdu). not (is_none u.num)) (pdu_in tag (claims.packet_of packet)) ≡ false

-- the anchor of the plan sends the PDU of its submission in a packet
pub record IsOwnPacket (r : Reading) (l : LinkId) (tag : Option ℕ) (packet : List ℕ) : Type 0 where
  pub of : IsDownOf packet
  pub own : is_data of.pdu ≡ true → IsOwn r l of.id of.g tag of.pdu

-- ---- what stands on links

-- each packet in a tunnel that brings a PDU to a leg host comes from the anchor of its plan, and brings that of its submission
abbrev pub InTunnel : Reading → LinkId → Flight → Type 0
InTunnel r l (flight.Tun tag packet) = IsOtherDown packet ⊎ IsOwnPacket r l tag packet
InTunnel r l (flight.Air id g num tag pdu) = ⊤
InTunnel r l (flight.Ack id g num) = ⊤
InTunnel r l (flight.Sdu id g sdu) = ⊤
InTunnel r l (flight.End id g) = ⊤
InTunnel r l (flight.Told id g count) = ⊤
InTunnel r l (flight.Ctl c) = ⊤

-- each on each link
abbrev pub AreInTunnels : Reading → World → Type 0
AreInTunnels r w = (l : LinkId) → AllByRecursion (InTunnel r l) (flights_on l w.links)

-- what a line sends
abbrev pub LineIn : Reading → Line → Type 0
LineIn r (line.Send l f) = InTunnel r l f
LineIn r (line.Note n) = ⊤
LineIn r (line.Event e) = ⊤
LineIn r (line.Answer a) = ⊤

-- ---- what a network node sends

-- a PDU on the air is the one that this flight brings through a tunnel: a leg host passes it on (TS 38.425, 5.4)
pub record PassesDown (f : Flight) (id g : ℕ) (tag : Option ℕ) (pdu : List ℕ) : Type 0 where
  pub packet : List ℕ
  pub is : f ≡ flight.Tun tag packet
  pub number : ℕ
  pub repeat : Bool
  pub says : packet_of packet ≡ pdu_down id g number repeat pdu

-- a data PDU on the air comes from the anchor of its plan and is that of its submission, or is passed on to the terminal; and a packet
-- brings no PDU to a leg host, or one that comes from the anchor of its plan
abbrev pub IsDownSend : (ℕ → ℕ → Option ℕ → List ℕ → Type 0) → Reading → Send → Type 0
IsDownSend Passes r (l, flight.Air id g num tag pdu) = (is_data pdu ≡ true → IsOwn r l id g tag pdu) ⊎ ((l.to ≡ T) × Passes id g tag pdu)
IsDownSend Passes r (l, flight.Tun tag packet) = IsOtherDown packet ⊎ IsOwnPacket r l tag packet
IsDownSend Passes r (l, flight.Ack id g num) = ⊤
IsDownSend Passes r (l, flight.Sdu id g sdu) = ⊤
IsDownSend Passes r (l, flight.End id g) = ⊤
IsDownSend Passes r (l, flight.Told id g count) = ⊤
IsDownSend Passes r (l, flight.Ctl c) = ⊤

-- nothing is passed on
abbrev pub PassesNone : ℕ → ℕ → Option ℕ → List ℕ → Type 0
PassesNone id g tag pdu = ⊥

-- in what happens, all that another node than the terminal sends
abbrev pub SendDown : Reading → Happening → List Send → Type 0
SendDown r (given_to T i) ss = ⊤
SendDown r (given_to M (Come l f)) ss = AllByRecursion (IsDownSend (PassesDown f) r) ss
SendDown r (given_to A (Come l f)) ss = AllByRecursion (IsDownSend (PassesDown f) r) ss
SendDown r (given_to B (Come l f)) ss = AllByRecursion (IsDownSend (PassesDown f) r) ss
SendDown r (given_to M (Cmd e)) ss = AllByRecursion (IsDownSend PassesNone r) ss
SendDown r (given_to A (Cmd e)) ss = AllByRecursion (IsDownSend PassesNone r) ss
SendDown r (given_to B (Cmd e)) ss = AllByRecursion (IsDownSend PassesNone r) ss
SendDown r (refused_for why) ss = ⊤
SendDown r (on_links effects) ss = ⊤

-- in each event of a run
abbrev pub AllSendDown : Choices → Past → World → List Event → Type 0
AllSendDown c p w [] = ⊤
AllSendDown c p w (e ∷ es) =
    let x = (world_step c w e).1 in
    SendDown (down_reading (judged e x.answer p)) (happening w e) (carried_on c w (happening w e)).1.sends × AllSendDown c (after p x) (world_step c w e).0 es
