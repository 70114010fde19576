-- The one way in which a packet is written.
use Rattle.std.specs.Prelude.{◌≡◌, ℕ, ◌+◌, ◌/◌, ◌%◌, ◌^◌, ◌<◌, ◌≤◌, ⊤, Bool, ◌||◌, if◌then◌else◌, List, [], ◌∷◌, ◌++◌, length, drop, Option, Some, None, is_some}
use Rattle.std.specs.Int.{w16, w32, to_be_bytes}
use Rattle.std.specs.List.{flat_map}
use Rattle.gtpu.specs.declared.packet.PduNumber.{PduNumber}
use Rattle.gtpu.specs.declared.packet.PduNumber.TheVariants.{Short, Long}
use Rattle.gtpu.specs.Content.{Content, message_type}
use Rattle.gtpu.specs.Extension.{Extension, octets_of}

-- an extension header, whose length follows from its content
abbrev pub extension : ℕ → List ℕ → Extension
extension type content = record { type = type; units = (length content + 2) / 4; content = content }

-- the extension header of an NR RAN container; no header for a packet without one (None)
abbrev pub container_header : Option (List ℕ) → List Extension
container_header None = []
container_header (Some content) = extension 0x84 content ∷ []

-- spare octets are 0
abbrev pub number_header : Option PduNumber → List Extension
number_header None = []
number_header (Some (Short n)) = extension 0xC0 (to_be_bytes w16 n) ∷ []
number_header (Some (Long n)) = extension 0x82 (drop 1 (to_be_bytes w32 n) ++ 0 ∷ 0 ∷ 0 ∷ []) ∷ []

-- the packet has extension headers, for a container, a number or both
abbrev pub is_extended : Content → Bool
is_extended p = is_some p.container || is_some p.number

-- sequence and N-PDU number 0, and the extension headers, the container before the number
abbrev pub extensions : Content → List ℕ
extensions p =
    if is_extended p then 0 ∷ 0 ∷ 0 ∷ flat_map octets_of (container_header p.container ++ number_header p.number) ++ 0 ∷ []
    else []

-- of the flags only E is set, exactly where there are extension headers
abbrev pub spelling : Content → List ℕ
spelling p =
    (if is_extended p then 0x34 else 0x30) ∷ message_type p.kind ∷ to_be_bytes w16 (length (extensions p) + length p.body)
    ++ to_be_bytes w32 p.teid ++ extensions p ++ p.body

-- a container fills whole units of 4 octets, with its length and the next type
abbrev pub IsContainer : List ℕ → Type 0
IsContainer content = ((length content + 2) % 4 ≡ 0) × (length content ≤ 1018)

-- a long number has 18 bits
abbrev pub FitsLong : PduNumber → Type 0
FitsLong (Short n) = ⊤
FitsLong (Long n) = n < 2 ^ 18

-- a short number has 16 bits, as its type says
abbrev pub FitsShort : PduNumber → Type 0
FitsShort (Short n) = n < 2 ^ 16
FitsShort (Long n) = ⊤
