-- What a packet in a tunnel says to the node that takes it (TS 29.281, 5; TS 38.425, 5.5), and how each is written.
use Rattle.std.specs.Prelude.{ℕ, zero, suc, Bool, true, false, List, [], ◌∷◌, Option, Some, None, Result, Ok, Err}
use Rattle.dc_base.specs.Tunnel.{teid, teid_gen, teid_id, teid_kind}
use Rattle.dc_base.specs.declared.nodes.Dir.{Dir}
use Rattle.dc_base.specs.declared.nodes.Dir.TheVariants.{Ul, Dl}
use Rattle.forward.specs.Load.{Load}
use Rattle.forward.specs.Reading.{load_in}
use Rattle.gtpu.specs.Content.{Content}
use Rattle.gtpu.specs.Decoded.{decoded}
use Rattle.gtpu.specs.Spelling.{spelling}
use Rattle.gtpu.specs.declared.faults.GtpErr.{GtpErr}
use Rattle.gtpu.specs.declared.packet.GtpKind.{GtpKind}
use Rattle.gtpu.specs.declared.packet.GtpKind.TheVariants.{GPdu, EndMarker, EchoRequest, EchoResponse, ErrorIndication}
use Rattle.nr_u.specs.Frames.{written}
use Rattle.nr_u.specs.Reading.{decoded as frame_in}
use Rattle.nr_u.specs.declared.frame.Frame.{Frame}
use Rattle.nr_u.specs.declared.frame.Frame.TheVariants.{User, Status}
use Rattle.nr_u.specs.declared.frame.NruErr.{NruErr}

-- a packet of a bearer and generation (TS 29.281, 5; TS 38.425, 5.5; the form is this product's own)
pub data Packet : Type 0 where
  pdu_down : (id g number : ℕ) (repeat : Bool) (pdu : List ℕ) → Packet  -- to a host: the PDU with its number in the tunnel
  pdu_up : (id g : ℕ) (pdu : List ℕ) → Packet  -- to an anchor
  delivery : (id g : ℕ) (status : Frame) → Packet  -- the delivery status of a host
  forwarding : (id g : ℕ) (d : Dir) (load : Load) → Packet  -- of a forwarding tunnel
  nothing : Packet  -- any other packet

-- what a frame says in a packet of a bearer's own traffic; a user data frame without user data says nothing (TS 38.425, 5.5.2)
abbrev pub with_frame : ℕ → ℕ → List ℕ → Result Frame NruErr → Packet
with_frame id g body (Err e) = nothing
with_frame id g body (Ok (User number true repeat)) = pdu_down id g number repeat body
with_frame id g body (Ok (User number false repeat)) = nothing
with_frame id g body (Ok (Status highest lost)) = delivery id g (Status highest lost)

-- a packet of a bearer's own traffic (TS 38.425, 5.5.2; TS 29.281, 5)
abbrev pub with_container : ℕ → ℕ → List ℕ → Option (List ℕ) → Packet
with_container id g body None = pdu_up id g body
with_container id g body (Some octets) = with_frame id g body (frame_in octets)

-- a G-PDU, by the kind of its TEID: 0 for the bearer's own traffic, 1 for downlink and 2 for uplink forwarding
-- (TS 29.281, 5; the kinds of TEID are this product's own)
abbrev pub of_kind : Content → ℕ → Packet
of_kind p zero = with_container (teid_id p.teid) (teid_gen p.teid) p.body p.container
of_kind p (suc zero) = forwarding (teid_id p.teid) (teid_gen p.teid) Dl (load_in p p.container)
of_kind p (suc (suc zero)) = forwarding (teid_id p.teid) (teid_gen p.teid) Ul (load_in p p.container)
of_kind p (suc (suc (suc k))) = nothing

-- an End Marker says nothing, and so do the other messages (TS 29.281, 7)
abbrev pub of_message : Content → GtpKind → Packet
of_message p GPdu = of_kind p (teid_kind p.teid)
of_message p EndMarker = nothing
of_message p EchoRequest = nothing
of_message p EchoResponse = nothing
of_message p ErrorIndication = nothing

-- octets that are no packet say nothing (part of the rule packet_of)
abbrev pub said_by : Result Content GtpErr → Packet
said_by (Err e) = nothing
said_by (Ok p) = of_message p p.kind

-- what the octets of a packet say (TS 29.281, 5)
abbrev pub packet_of : List ℕ → Packet
packet_of octets = said_by (decoded octets)

-- ---- as they are written

-- a G-PDU of a bearer's own traffic (TS 29.281, 5)
abbrev pub own_packet : ℕ → ℕ → Option (List ℕ) → List ℕ → List ℕ
own_packet g id container body =
    spelling (record { kind = GPdu; teid = teid g id 0; container = container; number = None; body = body })

-- a downlink PDU to a host (TS 38.425, 5.5.2.1)
abbrev pub down_packet : ℕ → ℕ → ℕ → Bool → List ℕ → List ℕ
down_packet g id number repeat pdu = own_packet g id (Some (written (User number true repeat))) pdu

-- an uplink PDU to the anchor (TS 29.281, 5)
abbrev pub up_packet : ℕ → ℕ → List ℕ → List ℕ
up_packet g id pdu = own_packet g id None pdu

-- a delivery status to the anchor (TS 38.425, 5.5.2.2)
abbrev pub status_packet : ℕ → ℕ → Frame → List ℕ
status_packet g id status = own_packet g id (Some (written status)) []
