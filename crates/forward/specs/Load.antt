-- What a packet of a forwarding tunnel carries.
use Rattle.std.specs.Prelude.{◌≡◌, ℕ, Bool, true, false, List, [], Option, Some, None}
use Rattle.std.specs.Option.{option_map}
use Rattle.gtpu.specs.declared.packet.GtpKind.TheVariants.{GPdu}
use Rattle.gtpu.specs.declared.packet.PduNumber.{PduNumber}
use Rattle.gtpu.specs.declared.packet.PduNumber.TheVariants.{Short, Long}
use Rattle.gtpu.specs.Content.{Content}
use Rattle.nr_u.specs.declared.frame.Frame.TheVariants.{User}
use Rattle.nr_u.specs.Frames.{IsFrame}

-- an SDU with its PDCP SN, if it has one
abbrev pub Sdu : Type 0
Sdu = Option ℕ × List ℕ

-- an SDU with its forward number, the number of all SDUs, or nothing that counts
pub data Load : Type 0 where
  Piece : (number : ℕ) → (sdu : Sdu) → Load
  Total : (total : ℕ) → Load
  Nothing : Load

-- the PDCP SN that a PDU number carries, short or long
abbrev pub sn_of : PduNumber → ℕ
sn_of (Short sn) = sn
sn_of (Long sn) = sn

-- a G-PDU with a user data frame of this number, which says whether user data is with it
pub record HasNumber (p : Content) (number : ℕ) (user : Bool) : Type 0 where
  pub is_g_pdu : p.kind ≡ GPdu
  pub octets : List ℕ
  pub has_container : p.container ≡ Some octets
  pub repeat : Bool
  pub frame : IsFrame octets (User number user repeat)

-- The total stands without user data, in a packet without number and body.
abbrev pub Carries : Content → Load → Type 0
Carries p (Piece number sdu) = HasNumber p number true × (sdu ≡ (option_map sn_of p.number, p.body))
Carries p (Total total) = HasNumber p total false × (p.number ≡ None) × (p.body ≡ [])
Carries p Nothing =
    ((number : ℕ) → HasNumber p number true → ⊥) × ((total : ℕ) → HasNumber p total false → p.number ≡ None → p.body ≡ [] → ⊥)
