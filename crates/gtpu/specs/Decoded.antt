-- What octets are read as: a packet, or the first check that they fail. Total functions, by which other
-- definitions read packets: there is a packet exactly where the grammar has one, and it is that one.
use Rattle.std.specs.Prelude.{ℕ, zero, suc, ◌+◌, ◌-◌, ◌*◌, ◌%◌, true, false, ◌==◌, nat_lt, List, [], ◌∷◌, length, take, drop, slice_index, Option, Some, None, Result, Ok, Err}
use Rattle.std.specs.Option.{option_or}
use Rattle.std.specs.Int.{w32, from_be_bytes}
use Rattle.gtpu.specs.declared.faults.GtpErr.{GtpErr}
use Rattle.gtpu.specs.declared.faults.GtpErr.TheVariants.{Short, Kind}
use Rattle.gtpu.specs.declared.packet.GtpKind.{GtpKind}
use Rattle.gtpu.specs.declared.packet.Packet.{Packet}
use Rattle.gtpu.specs.declared.packet.PduNumber.{PduNumber}
use Rattle.gtpu.specs.Content.{Content, view, kind_of}
use Rattle.gtpu.specs.Extension.{container_of, number_of}
use Rattle.gtpu.specs.Fault.{header_fault, extension_fault}

-- what a decoder returned, without where its parts lie in memory
abbrev pub outcome : Result Packet GtpErr → Result Content GtpErr
outcome (Ok p) = Ok (view p)
outcome (Err e) = Err e

-- what stands behind the TEID: an NR RAN container and a PDCP PDU number (each None if absent), and the body
pub record Parts : Type 0 where
  pub container : Option (List ℕ)
  pub number : Option PduNumber
  pub body : List ℕ

-- the content of an extension header, from its length octet on
abbrev pub content_of : List ℕ → List ℕ
content_of [] = []
content_of (units ∷ after) = take (4 * units - 2) after

-- what follows an extension header, from its length octet on: the next type comes first
abbrev pub behind : List ℕ → List ℕ
behind [] = []
behind (units ∷ after) = drop (4 * units - 2) after

-- The extension headers from one of this type on, of a packet of this size, and the body behind a next type of
-- 0. A container and a number may have come before. There are fewer headers than octets.
abbrev pub extensions_from : ℕ → ℕ → Option (List ℕ) → Option PduNumber → ℕ → List ℕ → Result Parts GtpErr
extensions_from zero size container number type after = Err (Short size)
extensions_from (suc headers) size container number type after =
    elim (type == 0) [
      | true ↦ Ok (record { container = container; number = number; body = after })
      | false ↦ elim (extension_fault container number type after (size - (length after + 1))) [
        | Some e ↦ Err e
        | None ↦
            extensions_from headers size (option_or container (container_of type (content_of after)))
            (option_or number (number_of type (content_of after))) (slice_index (behind after) 0) (drop 1 (behind after))
      ]
    ]

-- what stands behind the TEID, by the flags E (4), S (2) and PN (1)
abbrev pub parts_of : List ℕ → ℕ → Result Parts GtpErr
parts_of octets flags =
    elim (flags == 0) [
      | true ↦ Ok (record { container = None; number = None; body = drop 8 octets })
      | false ↦ elim (nat_lt flags 4) [
        | true ↦ Ok (record { container = None; number = None; body = drop 12 octets })
        | false ↦ extensions_from (length octets) (length octets) None None (slice_index octets 11) (drop 12 octets)
      ]
    ]

-- a packet of these parts
abbrev pub with_parts : GtpKind → ℕ → Result Parts GtpErr → Result Content GtpErr
with_parts kind teid (Err e) = Err e
with_parts kind teid (Ok parts) =
    Ok (record { kind = kind; teid = teid; container = parts.container; number = parts.number; body = parts.body })

-- behind the message type, if it is one that is taken here
abbrev pub of_kind : List ℕ → Option GtpKind → Result Content GtpErr
of_kind octets None = Err (Kind 1)
of_kind octets (Some kind) =
    with_parts kind (from_be_bytes w32 (take 4 (drop 4 octets))) (parts_of octets (slice_index octets 0 % 8))

-- behind the checks of the header
abbrev pub behind_checks : List ℕ → Option GtpErr → Result Content GtpErr
behind_checks octets (Some e) = Err e
behind_checks octets None = of_kind octets (kind_of (slice_index octets 1))

-- what octets are read as: the packet, or the first check that they fail, with its place
unfoldable pub decoded : List ℕ → Result Content GtpErr
decoded octets = behind_checks octets (header_fault octets)
