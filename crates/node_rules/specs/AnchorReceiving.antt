-- What comes to an anchor over the leg of its own node and through the tunnels (TS 38.323, 5.2.2; TS 38.425, 5.4).
use Rattle.std.specs.Prelude.{ℕ, ◌++◌, ◌&&◌, nat_lt, if◌then◌else◌, Bool, true, false, List, [], ◌∷◌, is_some, Result, Ok, Err}
use Rattle.dc_base.specs.declared.flights.Flight.{Flight}
use Rattle.dc_base.specs.declared.flights.Flight.TheVariants as flight
use Rattle.dc_base.specs.declared.nodes.Cell.{Cell}
use Rattle.dc_base.specs.declared.nodes.Class.TheVariants.{Air}
use Rattle.dc_base.specs.declared.nodes.Node.TheVariants.{T}
use Rattle.nr_u.specs.declared.frame.Frame.{Frame}
use Rattle.nr_u.specs.Tunnel.Incoming.{contains}
use Rattle.nr_u.specs.Tunnel.Verdicts.{after_frame, confirmed_of, again_of}
use Rattle.pdcp_pdu.specs.Pdu.{Content, decoded}
use Rattle.pdcp_pdu.specs.declared.pdu.PduErr.{PduErr}
use Rattle.pdcp_tx.specs.Sender.{low}
use Rattle.split_leg.specs.Legs.{acked_count, leg_at, with_ack, with_leg}
use Rattle.dc_base.specs.Links.{link}
use Rattle.node_rules.specs.Adopting.{forward_in}
use Rattle.node_rules.specs.declared.bearers.AnchorOut.{AnchorOut}
use Rattle.node_rules.specs.Anchor.{Active, AnchorState, active_anchor, setup_at, silent, waiting_anchor}
use Rattle.node_rules.specs.AnchorSending.{anchor_sends}
use Rattle.node_rules.specs.Choices.{Choices, Send}
use Rattle.node_rules.specs.Entity.{Entity, confirmed_count, confirmed_where, risen_low, take_pdu}
use Rattle.node_rules.specs.Packets.{Packet, delivery, forwarding, nothing, packet_of, pdu_down, pdu_up}
use Rattle.node_rules.specs.Setup.{Setup, anchor_cell, has_cell, has_failed, host_of, is_of, is_same_cell}

-- ---- PDUs

-- the anchor with its entity after a step, what was handed up, and Low where it rose (part of the rule pdu_in)
abbrev pub stepped : Active → Entity × List (ℕ × List ℕ) → AnchorState × AnchorOut
stepped a done =
    (active_anchor (record a { entity = done.0 }), record silent { ups = done.1; low = risen_low a.entity done.0 })

-- an uplink PDU comes: a waiting anchor keeps it (TS 38.323, 5.2.2; that a waiting anchor keeps it is this product's own)
abbrev pub pdu_in : AnchorState → Content → AnchorState × AnchorOut
pdu_in (waiting_anchor w) x = (waiting_anchor (record w { pdus = w.pdus ++ x ∷ [] }), silent)
pdu_in (active_anchor a) x = stepped a (take_pdu a.entity x)

-- ---- on the leg of the anchor's own node

-- the confirm of an uplink PDU; on a leg that is marked as failed there is none (the confirm is this product's own)
abbrev pub ack : Setup → ℕ → Bool → List Send
ack s num true = []
ack s num false = (link s.node T Air, flight.Ack s.id s.g num) ∷ []

-- with the confirm, at once (part of the rule air_pdu)
abbrev pub with_confirm : List Send → AnchorState × AnchorOut → AnchorState × AnchorOut
with_confirm acks done = (done.0, record done.1 { sends = acks ++ done.1.sends })

-- a PDU comes as this number of the leg; one that can not be read has no confirm
-- (TS 38.323, 5.2.2; the confirm is this product's own)
abbrev pub air_pdu : AnchorState → ℕ → Result Content PduErr → AnchorState × AnchorOut
air_pdu s num (Err e) = (s, silent)
air_pdu s num (Ok x) =
    let setup = setup_at s in
    with_confirm (ack setup num (has_failed setup (anchor_cell setup.legs.shape))) (pdu_in s x)

-- the entity, once the PDU of this number on the leg is acked (part of the rule air_ack)
abbrev pub acked : Entity → Cell → ℕ → Entity
acked e cell num =
    let leg = leg_at e.setup.legs cell in
    confirmed_count (record e { setup = record e.setup { legs = with_leg e.setup.legs cell (with_ack leg num) } }) (acked_count leg.pdus num)

-- the confirm of a downlink PDU comes: it confirms the PDU's COUNT (the confirm is this product's own)
abbrev pub air_ack : AnchorState → ℕ → AnchorState × AnchorOut
air_ack (waiting_anchor w) num = (waiting_anchor w, silent)
air_ack (active_anchor a) num = stepped a (acked a.entity (anchor_cell a.entity.setup.legs.shape) num, [])

-- whether a flight on the leg over this cell group is the anchor's: of the bearer, the generation, and its own node's leg
-- (part of the rule air_in)
abbrev pub is_on_leg : Setup → Cell → ℕ → ℕ → Bool
is_on_leg s cell id g = is_of s id g && is_same_cell cell (anchor_cell s.legs.shape) && has_cell s cell

-- a flight comes over the air; only PDUs and their confirms do (TS 38.323, 5.2.2)
abbrev pub air_in : AnchorState → Cell → Flight → AnchorState × AnchorOut
air_in s cell (flight.Air id g num tag pdu) =
    if is_on_leg (setup_at s) cell id g then air_pdu s num (decoded (setup_at s).n pdu) else (s, silent)
air_in s cell (flight.Ack id g num) = if is_on_leg (setup_at s) cell id g then air_ack s num else (s, silent)
air_in s cell (flight.Tun tag packet) = (s, silent)
air_in s cell (flight.Sdu id g sdu) = (s, silent)
air_in s cell (flight.End id g) = (s, silent)
air_in s cell (flight.Told id g count) = (s, silent)
air_in s cell (flight.Ctl rec) = (s, silent)

-- ---- through the tunnel to the host

-- a PDU that the host relays; one that can not be read does nothing (part of the rule packet_in)
abbrev pub relayed_pdu : AnchorState → Result Content PduErr → AnchorState × AnchorOut
relayed_pdu s (Err e) = (s, silent)
relayed_pdu s (Ok x) = pdu_in s x

-- a COUNT in its place among ascending ones (part of the rule ascending)
abbrev pub in_place : ℕ → List ℕ → List ℕ
in_place c [] = c ∷ []
in_place c (x ∷ xs) = if nat_lt x c then x ∷ in_place c xs else c ∷ x ∷ xs

-- COUNTs in ascending order, each as often as it is there (part of the rule delivery_at)
abbrev pub ascending : List ℕ → List ℕ
ascending [] = []
ascending (x ∷ xs) = in_place x (ascending xs)

-- the anchor after the confirmations of a delivery status (TS 38.425, 5.4.2)
abbrev pub with_delivery : Active → Frame → Active
with_delivery a status =
    let reference = low a.entity.tx in
    record a {
      entity = confirmed_where (λ c. contains c (confirmed_of a.tunnel reference status)) a.entity;
      tunnel = after_frame a.tunnel reference status;
    }

-- a delivery status comes (TS 38.425, 5.4.2): first it confirms; then what it asks for is sent again, in ascending COUNT
abbrev pub delivery_at : Choices → Active → Frame → AnchorState × AnchorOut
delivery_at c a status =
    let confirmed = with_delivery a status in
    let done = anchor_sends c confirmed (ascending (again_of a.tunnel (low a.entity.tx) status)) in
    (active_anchor done.0, record silent { low = risen_low a.entity done.0.entity; sends = done.1 })

-- a waiting anchor sent nothing, and a status says nothing to it (TS 38.425, 5.4.2)
abbrev pub delivery_in : Choices → AnchorState → Frame → AnchorState × AnchorOut
delivery_in c (waiting_anchor w) status = (waiting_anchor w, silent)
delivery_in c (active_anchor a) status = delivery_at c a status

-- whether a packet of the bearer's own traffic is the anchor's: there is a host (part of the rule packet_in)
abbrev pub is_from_host : Setup → ℕ → ℕ → Bool
is_from_host s id g = is_of s id g && is_some (host_of s)

-- what a packet says comes to the anchor (TS 38.425, 5.4; TS 38.323, 5.2.2)
abbrev pub packet_in : Choices → AnchorState → Packet → AnchorState × AnchorOut
packet_in c s (pdu_down id g number repeat pdu) = (s, silent)
packet_in c s (pdu_up id g pdu) =
    if is_from_host (setup_at s) id g then relayed_pdu s (decoded (setup_at s).n pdu) else (s, silent)
packet_in c s (delivery id g status) = if is_from_host (setup_at s) id g then delivery_in c s status else (s, silent)
packet_in c s (forwarding id g d load) = if is_of (setup_at s) id g then forward_in c s d load else (s, silent)
packet_in c s nothing = (s, silent)

-- a flight comes through a tunnel (TS 29.281, 5; TS 38.425, 5.4)
abbrev pub tunnel_in : Choices → AnchorState → Flight → AnchorState × AnchorOut
tunnel_in c s (flight.Tun tag packet) = packet_in c s (packet_of packet)
tunnel_in c s (flight.Air id g num tag pdu) = (s, silent)
tunnel_in c s (flight.Ack id g num) = (s, silent)
tunnel_in c s (flight.Sdu id g sdu) = (s, silent)
tunnel_in c s (flight.End id g) = (s, silent)
tunnel_in c s (flight.Told id g count) = (s, silent)
tunnel_in c s (flight.Ctl rec) = (s, silent)
