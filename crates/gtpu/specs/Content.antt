-- What a GTP-U packet says, without where its parts lie in memory.
use Rattle.std.specs.Prelude.{ℕ, ◌==◌, List, Option, Some, None, if◌then◌else◌}
use Rattle.std.specs.Option.{option_copied}
use Rattle.gtpu.specs.declared.packet.GtpKind.{GtpKind}
use Rattle.gtpu.specs.declared.packet.GtpKind.TheVariants.{GPdu, EndMarker, EchoRequest, EchoResponse, ErrorIndication}
use Rattle.gtpu.specs.declared.packet.Packet.{Packet}
use Rattle.gtpu.specs.declared.packet.PduNumber.{PduNumber}

-- a packet: message type, TEID, NR RAN container and PDCP PDU number (each None if absent), and what follows the header
pub record Content : Type 0 where
  pub kind : GtpKind
  pub teid : ℕ
  pub container : Option (List ℕ)
  pub number : Option PduNumber
  pub body : List ℕ

-- what a packet says that was read
abbrev pub view : Packet → Content
view p =
    record { kind = p.kind; teid = p.teid; container = option_copied p.container; number = p.number; body = p.body.now }

-- the message type: TS 29.281, 6.1
abbrev pub message_type : GtpKind → ℕ
message_type GPdu = 255
message_type EndMarker = 254
message_type EchoRequest = 1
message_type EchoResponse = 2
message_type ErrorIndication = 26

-- the message types that are taken here
abbrev pub kind_of : ℕ → Option GtpKind
kind_of n =
    if n == 255 then Some GPdu
    else if n == 254 then Some EndMarker
    else if n == 1 then Some EchoRequest
    else if n == 2 then Some EchoResponse
    else if n == 26 then Some ErrorIndication
    else None
