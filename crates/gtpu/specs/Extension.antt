-- Extension headers: TS 29.281, 5.2.1, and the types that are understood here (5.2.2).
use Rattle.std.specs.Prelude.{◌≡◌, ℕ, ◌+◌, ◌*◌, ◌%◌, ◌^◌, ◌<◌, Bool, true, false, not, ◌&&◌, ◌||◌, ◌==◌, nat_le, if◌then◌else◌, List, ◌∷◌, ◌++◌, length, Option, Some, None}
use Rattle.std.specs.Option.{option_to_list}
use Rattle.std.specs.List.{flat_map, filter_map, AllByRecursion}
use Rattle.gtpu.specs.declared.packet.PduNumber.{PduNumber}
use Rattle.gtpu.specs.declared.packet.PduNumber.TheVariants.{Short, Long}

-- an extension header behind the octet that names its type; its length is in units of 4 octets
pub record Extension : Type 0 where
  pub type : ℕ
  pub units : ℕ
  pub content : List ℕ

-- the octet that names its type, its length, its content
abbrev pub octets_of : Extension → List ℕ
octets_of x = x.type ∷ x.units ∷ x.content

-- The first bit of the type says that the header must be understood, and it is none of those that are. Whether
-- that bit decides alone is this product's own.
abbrev pub is_unknown_required : ℕ → Bool
is_unknown_required type = nat_le 0x80 type && not (type == 0x84 || type == 0xC0 || type == 0x82)

-- a type of a PDCP PDU number has one length
abbrev pub may_have_length : ℕ → ℕ → Bool
may_have_length type units = if type == 0xC0 then units == 1 else if type == 0x82 then units == 2 else true

-- the length counts the length octet, the content and the octet with the next type
pub record IsExtension (x : Extension) : Type 0 where
  pub some : 0 < x.type
  pub understood : is_unknown_required x.type ≡ false
  pub whole : length x.content + 2 ≡ 4 * x.units
  pub prescribed : may_have_length x.type x.units ≡ true

-- an NR RAN container is its content (TS 29.281, 5.2.2.6)
abbrev pub container_of : ℕ → List ℕ → Option (List ℕ)
container_of type content = if type == 0x84 then Some content else None

-- a PDCP PDU number of two octets (TS 29.281, 5.2.2.2)
abbrev pub short_number : List ℕ → ℕ
short_number (high ∷ low ∷ rest) = 256 * high + low
short_number content = 0

-- a long PDCP PDU number, with the octets of TS 29.281, 5.2.2.2A: three, of which the low 18 bits count, and
-- three that are spare
abbrev pub long_number : List ℕ → ℕ
long_number (high ∷ middle ∷ low ∷ rest) = (65536 * high + 256 * middle + low) % 2 ^ 18
long_number content = 0

-- a PDCP PDU number, in either of its two types
abbrev pub number_of : ℕ → List ℕ → Option PduNumber
number_of type content =
    if type == 0xC0 then Some (Short (short_number content))
    else if type == 0x82 then Some (Long (long_number content))
    else None

-- the contents of the NR RAN containers among extension headers, in order
abbrev pub containers : List Extension → List (List ℕ)
containers xs = filter_map (λ x. container_of x.type x.content) xs

-- the PDCP PDU numbers among extension headers, in order
abbrev pub numbers : List Extension → List PduNumber
numbers xs = filter_map (λ x. number_of x.type x.content) xs

-- The octets are extension headers, and then rest. Among the headers are one container and one number
-- at most, which are these.
pub record AreExtensions (octets : List ℕ) (container : Option (List ℕ)) (number : Option PduNumber) (rest : List ℕ) : Type 0 where
  pub headers : List Extension
  pub spelled : octets ≡ flat_map octets_of headers ++ rest
  pub each : AllByRecursion IsExtension headers
  pub one_container : containers headers ≡ option_to_list container
  pub one_number : numbers headers ≡ option_to_list number
