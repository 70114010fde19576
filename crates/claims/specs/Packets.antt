-- What a packet in a tunnel says.
use Rattle.std.specs.Prelude.{Bool, List, None, Option, Some, [], drop, false, if◌then◌else◌, nat_lt, slice_index, take, true, ℕ, ◌*◌, ◌+◌, ◌-◌, ◌/◌, ◌==◌, ◌∷◌}
use Rattle.dc_base.specs.Count.{sn}
use Rattle.dc_base.specs.Tunnel.{teid, teid_gen, teid_id, teid_kind}
use Rattle.dc_base.specs.declared.nodes.Dir.{Dir}
use Rattle.dc_base.specs.declared.nodes.Dir.TheVariants.{Dl, Ul}
use Rattle.gtpu.specs.Spelling.{spelling}
use Rattle.gtpu.specs.declared.packet.GtpKind.TheVariants.{EndMarker, GPdu}
use Rattle.gtpu.specs.declared.packet.PduNumber.{PduNumber}
use Rattle.gtpu.specs.declared.packet.PduNumber.TheVariants.{Long, Short}
use Rattle.key_chain.specs.KeyNames.{octets}
use Rattle.nr_u.specs.Frames.{written}
use Rattle.nr_u.specs.declared.frame.Frame.TheVariants.{Status, User}
use Rattle.nr_u.specs.declared.frame.Range.{Range}
use Rattle.claims.specs.Sameness.{is_same_octets}

-- a packet of one bearer and generation: what a tunnel carries
pub data Packet : Type 0 where
  downlink : (id g number : ℕ) (is_repeat : Bool) (pdu : List ℕ) → Packet
  uplink : (id g : ℕ) (pdu : List ℕ) → Packet
  status : (id g : ℕ) (highest : Option ℕ) (lost : List Range) → Packet
  forwarded : (id g : ℕ) (d : Dir) (number : ℕ) (sn : Option PduNumber) (sdu : List ℕ) → Packet
  total : (id g : ℕ) (d : Dir) (number : ℕ) → Packet
  closing : (id g : ℕ) (d : Dir) → Packet

-- the kind of traffic that forwards a direction
abbrev pub kind_of : Dir → ℕ
kind_of Dl = 1
kind_of Ul = 2

-- the container of a user data frame
abbrev pub framed : ℕ → Bool → Bool → Option (List ℕ)
framed number user is_repeat = Some (written (User number user is_repeat))

-- the octets that a packet has (TS 29.281, 5.1; the frames are this product's own, after TS 38.425, 5.5.2)
abbrev pub octets_of : Packet → List ℕ
octets_of (downlink id g number is_repeat pdu) = spelling (record { kind = GPdu; teid = teid g id 0; container = framed number true is_repeat; number = None; body = pdu })
octets_of (uplink id g pdu) = spelling (record { kind = GPdu; teid = teid g id 0; container = None; number = None; body = pdu })
octets_of (status id g highest lost) = spelling (record { kind = GPdu; teid = teid g id 0; container = Some (written (Status highest lost)); number = None; body = [] })
octets_of (forwarded id g d number sn sdu) = spelling (record { kind = GPdu; teid = teid g id (kind_of d); container = framed number true false; number = sn; body = sdu })
octets_of (total id g d number) = spelling (record { kind = GPdu; teid = teid g id (kind_of d); container = framed number false false; number = None; body = [] })
octets_of (closing id g d) = spelling (record { kind = EndMarker; teid = teid g id (kind_of d); container = None; number = None; body = [] })

-- ---- how octets are read as one

-- a number of two octets, the most significant first
abbrev pub number2 : List ℕ → ℕ
number2 (a ∷ b ∷ rest) = 256 * a + b
number2 _ = 0

-- one of three
abbrev pub number3 : List ℕ → ℕ
number3 (a ∷ b ∷ c ∷ rest) = 65536 * a + 256 * b + c
number3 _ = 0

-- one of four
abbrev pub number4 : List ℕ → ℕ
number4 octets = 65536 * number2 octets + number2 (drop 2 octets)

-- the direction that a kind of traffic forwards
abbrev pub direction_of_kind : ℕ → Dir
direction_of_kind k = if k == 2 then Ul else Dl

-- ranges of numbers, six octets each
abbrev pub ranges : List ℕ → List Range
ranges (a ∷ b ∷ c ∷ d ∷ e ∷ f ∷ rest) = record { from = 65536 * a + 256 * b + c; to = 65536 * d + 256 * e + f } ∷ ranges rest
ranges _ = []

-- a user data frame: a PDU, a total, or a forwarded SDU
abbrev pub with_user : ℕ → ℕ → Option PduNumber → List ℕ → List ℕ → Packet
with_user teid flags sn frame body =
    if teid_kind teid == 0 then downlink (teid_id teid) (teid_gen teid) (number3 frame) (flags / 2 == 1) body
    else if flags == 0 then total (teid_id teid) (teid_gen teid) (direction_of_kind (teid_kind teid)) (number3 frame)
    else forwarded (teid_id teid) (teid_gen teid) (direction_of_kind (teid_kind teid)) (number3 frame) sn body

-- a frame: user data, or a delivery status without or with a highest sequence number
abbrev pub with_frame : ℕ → Option PduNumber → List ℕ → List ℕ → Packet
with_frame teid sn (flags ∷ frame) body =
    if nat_lt flags 16 then with_user teid flags sn frame body
    else if flags == 16 then status (teid_id teid) (teid_gen teid) None (ranges (take (6 * slice_index frame 0) (drop 1 frame)))
    else status (teid_id teid) (teid_gen teid) (Some (number3 (drop 1 frame))) (ranges (take (6 * slice_index frame 0) (drop 4 frame)))
with_frame teid sn [] body = closing 0 0 Dl

-- what follows the container: a PDCP PDU number, if there is one, and the body
abbrev pub with_rest : ℕ → List ℕ → List ℕ → Packet
with_rest teid frame [] = closing 0 0 Dl
with_rest teid frame (next ∷ rest) =
    if next == 0xC0 then with_frame teid (Some (Short (number2 (drop 1 rest)))) frame (drop 4 rest)
    else if next == 0x82 then with_frame teid (Some (Long (number3 (drop 1 rest)))) frame (drop 8 rest)
    else with_frame teid None frame rest

-- the one packet that these octets may be
abbrev pub read_packet : List ℕ → Packet
read_packet octets =
    let t = number4 (drop 4 octets) in
    let len = 4 * slice_index octets 12 - 2 in
    if slice_index octets 0 == 0x34 then with_rest t (take len (drop 13 octets)) (drop (13 + len) octets)
    else if slice_index octets 1 == 254 then closing (teid_id t) (teid_gen t) (direction_of_kind (teid_kind t))
    else uplink (teid_id t) (teid_gen t) (drop 8 octets)

-- it is, where the octets are the one way in which it is written
abbrev pub if_spelled : List ℕ → Packet → Option Packet
if_spelled octets p = if is_same_octets (octets_of p) octets then Some p else None

-- the packet that octets are, if they are one
abbrev pub packet_of : List ℕ → Option Packet
packet_of octets = if_spelled octets (read_packet octets)
