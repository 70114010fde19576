-- What a packet of a forwarding tunnel is read as, by a function that computes, and what a load says that lies elsewhere.
use Rattle.std.specs.Prelude.{ℕ, true, false, List, [], ◌∷◌, Option, Some, None, Result, Ok, Err}
use Rattle.std.specs.Option.{option_map}
use Rattle.forward.specs.Load.{Load, Piece, Total, Nothing, sn_of}
use Rattle.forward.specs.declared.load.Load.{Load as Lent}
use Rattle.forward.specs.declared.load.Load.TheVariants as lent
use Rattle.gtpu.specs.Content.{Content}
use Rattle.gtpu.specs.declared.packet.GtpKind.{GtpKind}
use Rattle.gtpu.specs.declared.packet.GtpKind.TheVariants.{GPdu, EndMarker, EchoRequest, EchoResponse, ErrorIndication}
use Rattle.gtpu.specs.declared.packet.PduNumber.{PduNumber}
use Rattle.nr_u.specs.Reading.{decoded as frame_in}
use Rattle.nr_u.specs.declared.frame.Frame.{Frame}
use Rattle.nr_u.specs.declared.frame.Frame.TheVariants.{User, Status}
use Rattle.nr_u.specs.declared.frame.NruErr.{NruErr}

-- the number of all stands without a PDCP SN and without user data
abbrev pub total_in : ℕ → Option PduNumber → List ℕ → Load
total_in number None [] = Total number
total_in number None (octet ∷ body) = Nothing
total_in number (Some n) body = Nothing

-- what a frame says in a forwarding tunnel
abbrev pub load_with : Content → Result Frame NruErr → Load
load_with p (Err e) = Nothing
load_with p (Ok (User number true repeat)) = Piece number (option_map sn_of p.number, p.body)
load_with p (Ok (User number false repeat)) = total_in number p.number p.body
load_with p (Ok (Status highest lost)) = Nothing

-- what a packet of a forwarding tunnel carries
abbrev pub load_in : Content → Option (List ℕ) → Load
load_in p None = Nothing
load_in p (Some octets) = load_with p (frame_in octets)

-- only a G-PDU carries something
abbrev pub load_of_kind : Content → GtpKind → Load
load_of_kind p GPdu = load_in p p.container
load_of_kind p EndMarker = Nothing
load_of_kind p EchoRequest = Nothing
load_of_kind p EchoResponse = Nothing
load_of_kind p ErrorIndication = Nothing

-- what a packet carries
abbrev pub carried : Content → Load
carried p = load_of_kind p p.kind

-- a load as it is said by one whose SDU lies elsewhere
abbrev pub said_load : Lent → Load
said_load (lent.Piece number sn sdu) = Piece number (sn, sdu.now)
said_load (lent.Total number) = Total number
said_load lent.Nothing = Nothing
