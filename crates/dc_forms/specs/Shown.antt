-- What octets are shown as: one line, also for octets that are none of the kind.
use Rattle.std.specs.Prelude.{◌≡◌, ℕ, ◌+◌, ◌*◌, ◌⊎◌, Bool, true, false, if◌then◌else◌, List, [], ◌∷◌, ◌++◌, length, codes, Option, Some, None, Result, Ok, Err, zero, suc}
use Rattle.std.specs.List.{flat_map}
use Rattle.std.specs.Fmt.{decimal}
use Rattle.hex.specs.Hex.{encode_lower}
use Rattle.dc_base.specs.declared.numbers.SnLen.TheVariants.{S12, S18}
use Rattle.pdcp_pdu.specs.Bitmap.{is_shown}
use Rattle.pdcp_pdu.specs.Pdu.{Content, sdu, report, decoded}
use Rattle.pdcp_pdu.specs.declared.pdu.PduErr.{PduErr}
use Rattle.pdcp_pdu.specs.declared.pdu.PduErr.TheVariants as pdu
use Rattle.gtpu.specs.Content.{Content as PacketContent}
use Rattle.gtpu.specs.Grammar.{IsPacket}
use Rattle.gtpu.specs.Fault.{HasFault}
use Rattle.gtpu.specs.declared.packet.GtpKind.{GtpKind}
use Rattle.gtpu.specs.declared.packet.GtpKind.TheVariants.{GPdu, EndMarker, EchoRequest, EchoResponse, ErrorIndication}
use Rattle.gtpu.specs.declared.packet.PduNumber.{PduNumber}
use Rattle.gtpu.specs.declared.packet.PduNumber.TheVariants.{Short, Long}
use Rattle.gtpu.specs.declared.faults.GtpErr.{GtpErr}
use Rattle.gtpu.specs.declared.faults.GtpErr.TheVariants as gtp
use Rattle.nr_u.specs.Frames.{IsFrame}
use Rattle.nr_u.specs.Faults.{IsFaultOf}
use Rattle.nr_u.specs.declared.frame.Frame.{Frame}
use Rattle.nr_u.specs.declared.frame.Frame.TheVariants.{User, Status}
use Rattle.nr_u.specs.declared.frame.Range.{Range}
use Rattle.nr_u.specs.declared.frame.NruErr.{NruErr}
use Rattle.nr_u.specs.declared.frame.NruErr.TheVariants as nru
use Rattle.transcript.specs.Text.{ended}
use Rattle.dc_forms.specs.declared.form.Kind.{Kind}
use Rattle.dc_forms.specs.declared.form.Kind.TheVariants.{Pdu12, Pdu18, Gtp, Nru}

-- a word and a number
abbrev pub numbered : List ℕ → ℕ → List ℕ
numbered word n = word ++ decimal n

-- octets of no kind: the word of the first check that fails, and its place
abbrev pub bad : List ℕ → ℕ → List ℕ
bad word place = numbered (codes "bad " ++ word ++ codes " ") place

-- ---- PDCP PDUs

-- the COUNT above FMC of bit k of a bitmap, if the bit is 1
abbrev pub shown_at : ℕ → List ℕ → ℕ → List ℕ
shown_at fmc bits k = if is_shown bits k then numbered (codes " ") (fmc + k) else []

-- so many of them, from bit k on
abbrev pub shown_from : ℕ → List ℕ → ℕ → ℕ → List ℕ
shown_from fmc bits k zero = []
shown_from fmc bits k (suc n) = shown_at fmc bits k ++ shown_from fmc bits (k + 1) n

-- the COUNTs, after a word if there is one
abbrev pub received : List ℕ → List ℕ
received [] = []
received (o ∷ os) = codes " received" ++ o ∷ os

-- what a PDCP PDU says: an SN and its SDU, or FMC and the received COUNTs above it; or why octets are none
abbrev pub pdu_text : Result Content PduErr → List ℕ
pdu_text (Ok (sdu sn body)) = numbered (codes "data sn ") sn ++ codes " body " ++ encode_lower body
pdu_text (Ok (report fmc bits)) = numbered (codes "report fmc ") fmc ++ received (shown_from fmc bits 1 (8 * length bits))
pdu_text (Err (pdu.Short place)) = bad (codes "short") place
pdu_text (Err (pdu.ControlKind place)) = bad (codes "controlkind") place
pdu_text (Err (pdu.TooLong place)) = bad (codes "toolong") place
pdu_text (Err (pdu.BadReport place)) = bad (codes "badreport") place

-- ---- GTP-U packets

-- the word for a packet's message type (TS 29.281, 6.1)
abbrev pub kind_name : GtpKind → List ℕ
kind_name GPdu = codes "gpdu"
kind_name EndMarker = codes "endmarker"
kind_name EchoRequest = codes "echorequest"
kind_name EchoResponse = codes "echoresponse"
kind_name ErrorIndication = codes "errorindication"

-- the content of a packet's NR RAN container; nothing for a packet that has none (None)
abbrev pub container_text : Option (List ℕ) → List ℕ
container_text None = []
container_text (Some octets) = codes " container " ++ encode_lower octets

-- a packet's PDCP PDU number, written alike if short or long; nothing for a packet that has none (None)
abbrev pub number_text : Option PduNumber → List ℕ
number_text None = []
number_text (Some (Short n)) = numbered (codes " number ") n
number_text (Some (Long n)) = numbered (codes " number ") n

-- all octets behind a packet's header; nothing where there are none
abbrev pub body_text : List ℕ → List ℕ
body_text [] = []
body_text (o ∷ os) = codes " body " ++ encode_lower (o ∷ os)

-- what a packet says: its message type and TEID, and then those of container, number and body that it has
abbrev pub packet_text : PacketContent → List ℕ
packet_text p = kind_name p.kind ++ numbered (codes " teid ") p.teid ++ container_text p.container ++ number_text p.number ++ body_text p.body

-- why octets are no packet: the first check that fails, and its place
abbrev pub gtp_fault_text : GtpErr → List ℕ
gtp_fault_text (gtp.Short place) = bad (codes "short") place
gtp_fault_text (gtp.Version place) = bad (codes "version") place
gtp_fault_text (gtp.Length place) = bad (codes "length") place
gtp_fault_text (gtp.Extension place) = bad (codes "extension") place
gtp_fault_text (gtp.UnknownRequired place) = bad (codes "unknownrequired") place
gtp_fault_text (gtp.Kind place) = bad (codes "kind") place

-- ---- NR-U frames

-- a flag of a frame: 1 if it is set, else 0
abbrev pub flag : Bool → List ℕ
flag true = codes "1"
flag false = codes "0"

-- a range of lost numbers: its first number and its last
abbrev pub range_text : Range → List ℕ
range_text r = numbered (codes " ") r.from ++ numbered (codes "-") r.to

-- the highest PDCP SN that a delivery status names; nothing for a status that names none (None)
abbrev pub highest_text : Option ℕ → List ℕ
highest_text None = []
highest_text (Some sn) = numbered (codes " highest ") sn

-- the ranges of lost numbers of a delivery status; nothing where it lists none
abbrev pub lost_text : List Range → List ℕ
lost_text [] = []
lost_text (r ∷ rs) = codes " lost" ++ flat_map range_text (r ∷ rs)

-- what a frame says: user data with its number in the tunnel and its two flags, or a delivery status
abbrev pub frame_text : Frame → List ℕ
frame_text (User n user repeat) = numbered (codes "user number ") n ++ codes " user " ++ flag user ++ codes " repeat " ++ flag repeat
frame_text (Status highest lost) = codes "status" ++ highest_text highest ++ lost_text lost

-- the text is the line for why octets are no frame: the first check that fails, and its place; want of memory is no check, so it has no line
abbrev pub IsNruFaultLine : NruErr → List ℕ → Type 0
IsNruFaultLine (nru.Short place) text = text ≡ ended (bad (codes "short") place)
IsNruFaultLine (nru.Kind place) text = text ≡ ended (bad (codes "kind") place)
IsNruFaultLine (nru.Ranges place) text = text ≡ ended (bad (codes "ranges") place)
IsNruFaultLine (nru.Trailing place) text = text ≡ ended (bad (codes "trailing") place)
IsNruFaultLine nru.Memory text = ⊥

-- ---- any of these

-- the text is the line for octets as this kind: what they say, or why they are none
abbrev pub IsShown : Kind → List ℕ → List ℕ → Type 0
IsShown Pdu12 octets text = text ≡ ended (pdu_text (decoded S12 octets))
IsShown Pdu18 octets text = text ≡ ended (pdu_text (decoded S18 octets))
IsShown Gtp octets text =
    ((p : PacketContent) × IsPacket p octets × (text ≡ ended (packet_text p))) ⊎ ((e : GtpErr) × HasFault octets e × (text ≡ ended (gtp_fault_text e)))
IsShown Nru octets text =
    ((f : Frame) × IsFrame octets f × (text ≡ ended (frame_text f))) ⊎ ((e : NruErr) × IsFaultOf octets e × IsNruFaultLine e text)
