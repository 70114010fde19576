-- PDCP PDUs of a data radio bearer in acknowledged mode as they are read: what each is, and the first check
-- that octets fail which are none.
use Rattle.std.specs.Prelude.{◌≡◌, ℕ, ◌+◌, ◌-◌, ◌*◌, ◌%◌, ◌^◌, nat_lt, nat_le, ◌==◌, if◌then◌else◌, List, ◌++◌, drop, length, slice_index, Option, Some, None, Result, Ok, Err}
use Rattle.dc_base.specs.declared.numbers.SnLen.{SnLen}
use Rattle.dc_base.specs.declared.numbers.SnLen.TheVariants.{S12, S18}
use Rattle.pdcp_pdu.specs.declared.pdu.Pdu.{Pdu}
use Rattle.pdcp_pdu.specs.declared.pdu.Pdu.TheVariants.{Sdu, Report}
use Rattle.pdcp_pdu.specs.declared.pdu.PduErr.{PduErr}
use Rattle.pdcp_pdu.specs.declared.pdu.PduErr.TheVariants.{Short, ControlKind, TooLong, BadReport}
use Rattle.pdcp_pdu.specs.DataPdu.{header_len, data_pdu, is_data, IsDataPdu}
use Rattle.pdcp_pdu.specs.StatusReport.{IsStatusReport, IsFirstBeyond, first_beyond, report_header}

-- what a PDU says: an SDU under its sequence number, or FMC and the bitmap of a status report
pub data Content : Type 0 where
  sdu : (sn : ℕ) (body : List ℕ) → Content
  report : (fmc : ℕ) (bits : List ℕ) → Content

-- the octets are a PDU that says this
abbrev pub IsPdu : SnLen → Content → List ℕ → Type 0
IsPdu n (sdu sn body) octets = IsDataPdu n sn body octets
IsPdu n (report fmc bits) octets = IsStatusReport fmc bits octets

-- the octets of what a PDU says, in their one canonical form: the R bits are 0
abbrev pub encoded : SnLen → Content → List ℕ
encoded n (sdu sn body) = data_pdu n sn body
encoded n (report fmc bits) = report_header 0 fmc ++ bits

-- a PDU that was read, without where it lies in memory
abbrev pub content : Pdu → Content
content (Sdu sn body) = sdu sn body.now
content (Report fmc bits) = report fmc bits.now

-- what a decoder returned, without where it lies in memory
abbrev pub outcome : Result Pdu PduErr → Result Content PduErr
outcome (Ok pdu) = Ok (content pdu)
outcome (Err e) = Err e

-- the sequence number that a header shows
abbrev pub shown_sn : SnLen → List ℕ → ℕ
shown_sn S12 octets = slice_index octets 0 % 16 * 256 + slice_index octets 1
shown_sn S18 octets = slice_index octets 0 % 4 * 65536 + slice_index octets 1 * 256 + slice_index octets 2

-- the FMC that a report shows
abbrev pub shown_fmc : List ℕ → ℕ
shown_fmc octets = slice_index octets 1 * 16777216 + slice_index octets 2 * 65536 + slice_index octets 3 * 256 + slice_index octets 4

-- the checks of a data PDU in their order: header and one octet of data are there; at most 9000 octets of data
unfoldable pub read_data : SnLen → List ℕ → Result Content PduErr
read_data n octets =
    if nat_lt (length octets) (header_len n + 1) then Err (Short (length octets))
    else if nat_lt (header_len n + 9000) (length octets) then Err (TooLong (header_len n + 9000))
    else Ok (sdu (shown_sn n octets) (drop (header_len n) octets))

-- a report whose bitmap is good, or bad at an octet
abbrev pub judged : ℕ → List ℕ → Option ℕ → Result Content PduErr
judged fmc bits None = Ok (report fmc bits)
judged fmc bits (Some i) = Err (BadReport (5 + i))

-- the checks of a status report in their order: FMC is there; at most 9000 octets; no 1 for a number above 2^32 - 1
unfoldable pub read_report : List ℕ → Result Content PduErr
read_report octets =
    if nat_lt (length octets) 5 then Err (Short (length octets))
    else if nat_lt 9000 (length octets) then Err (TooLong 9000)
    else judged (shown_fmc octets) (drop 5 octets) (first_beyond (2 ^ 32 - 1 - shown_fmc octets) (drop 5 octets))

-- what octets are read as, or the first check that they fail with its place: there is an octet; D/C bit 1 is a
-- data PDU, else the type of control PDU is 000; then the checks of that kind of PDU
unfoldable pub decoded : SnLen → List ℕ → Result Content PduErr
decoded n octets =
    if length octets == 0 then Err (Short 0)
    else if is_data octets then read_data n octets
    else if nat_le 16 (slice_index octets 0) then Err (ControlKind 0)
    else read_report octets

-- a bad report is bad at its first octet with a 1 for a number above 2^32 - 1
abbrev pub IsBadAt : List ℕ → PduErr → Type 0
IsBadAt octets (BadReport place) = (i : ℕ) × (place ≡ 5 + i) × IsFirstBeyond (shown_fmc octets) (drop 5 octets) i
IsBadAt octets _ = Unit {0}
