-- What is wrong with octets that are no packet: the first check that fails, with its place.
use Rattle.std.specs.Prelude.{◌≡◌, ℕ, ◌+◌, ◌-◌, ◌*◌, ◌/◌, ◌%◌, ◌<◌, ◌≤◌, ◌⊎◌, Bool, true, not, ◌&&◌, ◌||◌, ◌==◌, nat_lt, if◌then◌else◌, List, [], ◌∷◌, length, drop, slice_index, Option, Some, None, is_some, is_none}
use Rattle.gtpu.specs.declared.faults.GtpErr.{GtpErr}
use Rattle.gtpu.specs.declared.faults.GtpErr.TheVariants.{Short, Version, Length, Extension, UnknownRequired, Kind}
use Rattle.gtpu.specs.declared.packet.PduNumber.{PduNumber}
use Rattle.gtpu.specs.Content.{kind_of}
use Rattle.gtpu.specs.Extension.{is_unknown_required, may_have_length, AreExtensions}

-- the checks before the extension headers, in their order
abbrev pub header_fault : List ℕ → Option GtpErr
header_fault octets =
    if nat_lt (length octets) 8 then Some (Short (length octets))
    else if not (slice_index octets 0 / 16 == 3) then Some (Version 0)
    else if is_none (kind_of (slice_index octets 1)) then Some (Kind 1)
    else if not (256 * slice_index octets 2 + slice_index octets 3 + 8 == length octets) then Some (Length 2)
    else if nat_lt 0 (slice_index octets 0 % 8) && nat_lt (length octets) 12 then Some (Short (length octets))
    else None

-- the length octet is missing, 0 or none that the type may have, or the header ends past the packet
abbrev pub is_misshapen : ℕ → List ℕ → Bool
is_misshapen type [] = true
is_misshapen type (units ∷ after) =
    units == 0 || not (may_have_length type units) || nat_lt (length after + 1) (4 * units)

-- a second container, or a second number
abbrev pub is_second : Option (List ℕ) → Option PduNumber → ℕ → Bool
is_second container number type =
    (type == 0x84 && is_some container) || ((type == 0xC0 || type == 0x82) && is_some number)

-- the checks of an extension header behind others, at the place of the octet that names its type
abbrev pub extension_fault : Option (List ℕ) → Option PduNumber → ℕ → List ℕ → ℕ → Option GtpErr
extension_fault container number type after place =
    if is_unknown_required type then Some (UnknownRequired place)
    else if is_misshapen type after || is_second container number type then Some (Extension (place + 1))
    else None

-- the first extension header with a fault, behind those without
pub record HasExtensionFault (octets : List ℕ) (e : GtpErr) : Type 0 where
  pub container : Option (List ℕ)
  pub number : Option PduNumber
  pub type : ℕ
  pub after : List ℕ
  pub before : AreExtensions (drop 11 octets) container number (type ∷ after)
  pub some : 0 < type
  pub fault : extension_fault container number type after (length octets - (length after + 1)) ≡ Some e

-- the first fault; extension headers are there with the flag E
abbrev pub HasFault : List ℕ → GtpErr → Type 0
HasFault octets e =
    (header_fault octets ≡ Some e)
    ⊎ ((header_fault octets ≡ None) × (4 ≤ slice_index octets 0 % 8) × HasExtensionFault octets e)
