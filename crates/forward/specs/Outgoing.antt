-- The packets that a forwarding tunnel is given.
use Rattle.std.specs.Prelude.{◌≡◌, ℕ, Bool, true, false, List, [], Some, None, Ok}
use Rattle.std.specs.Option.{option_map}
use Rattle.dc_base.specs.declared.numbers.SnLen.{SnLen}
use Rattle.dc_base.specs.declared.numbers.SnLen.TheVariants.{S12, S18}
use Rattle.gtpu.specs.declared.packet.GtpKind.TheVariants.{GPdu, EndMarker}
use Rattle.gtpu.specs.declared.packet.PduNumber.{PduNumber}
use Rattle.gtpu.specs.declared.packet.PduNumber.TheVariants.{Short, Long}
use Rattle.gtpu.specs.Content.{Content}
use Rattle.gtpu.specs.Grammar.{IsPacket}
use Rattle.gtpu.specs.Decoded.{decoded}
use Rattle.gtpu.specs.Spelling.{spelling}
use Rattle.nr_u.specs.declared.frame.Frame.TheVariants.{User}
use Rattle.nr_u.specs.Frames.{written}
use Rattle.forward.specs.Load.{Sdu}

-- the sending end: its TEID, the forward number of the next SDU (as many were given before), and whether it is closed
pub record Outgoing : Type 0 where
  pub teid : ℕ
  pub next : ℕ
  pub closed : Bool

-- an SN of 12 bits is a short number, one of 18 bits a long one
abbrev pub pdu_number : SnLen → ℕ → PduNumber
pdu_number S12 sn = Short sn
pdu_number S18 sn = Long sn

-- user data with its forward number
abbrev pub sdu_packet : ℕ → SnLen → ℕ → Sdu → Content
sdu_packet teid n number sdu =
    record {
      kind = GPdu;
      teid = teid;
      container = Some (written (User number true false));
      number = option_map (pdu_number n) sdu.0;
      body = sdu.1;
    }

-- the total in place of a forward number
abbrev pub total_packet : ℕ → ℕ → Content
total_packet teid total =
    record { kind = GPdu; teid = teid; container = Some (written (User total false false)); number = None; body = [] }

-- the end marker of the tunnel, after which it is given nothing more
abbrev pub end_marker : ℕ → Content
end_marker teid = record { kind = EndMarker; teid = teid; container = None; number = None; body = [] }

-- the one spelling of a packet, which is read as that packet
pub record IsWritten (p : Content) (octets : List ℕ) : Type 0 where
  pub spelled : octets ≡ spelling p
  pub reads : IsPacket p octets
  pub decoded_is : decoded octets ≡ Ok p
