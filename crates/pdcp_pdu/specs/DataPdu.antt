-- The PDCP data PDU for a data radio bearer (TS 38.323, 6.2.2.2 and 6.2.2.3).
use Rattle.std.specs.Prelude.{◌≡◌, ℕ, ◌+◌, ◌*◌, ◌/◌, ◌%◌, ◌<◌, ◌≤◌, nat_le, Bool, List, [], ◌∷◌, ◌++◌, length, slice_index}
use Rattle.dc_base.specs.declared.numbers.SnLen.{SnLen}
use Rattle.dc_base.specs.declared.numbers.SnLen.TheVariants.{S12, S18}
use Rattle.dc_base.specs.Count.{modulus}

-- how many octets the header has
abbrev pub header_len : SnLen → ℕ
header_len S12 = 2
header_len S18 = 3

-- how many values the R bits can have: they are three bits, or five
abbrev pub reserved : SnLen → ℕ
reserved S12 = 8
reserved S18 = 32

-- the header: D/C bit 1, the R bits, the sequence number with its highest bits first
abbrev pub header : SnLen → ℕ → ℕ → List ℕ
header S12 r sn = (128 + 16 * r + sn / 256) ∷ (sn % 256) ∷ []
header S18 r sn = (128 + 4 * r + sn / 65536) ∷ (sn / 256 % 256) ∷ (sn % 256) ∷ []

-- each number is that of an octet
abbrev pub IsBytes : List ℕ → Type 0
IsBytes octets = (i : ℕ) → slice_index octets i < 256

-- what a data PDU carries, and a submission has: 1 to 9000 octets
pub record IsPayload (body : List ℕ) : Type 0 where
  pub some : 1 ≤ length body
  pub most : length body ≤ 9000
  pub bytes : IsBytes body

-- the octets are those of a data PDU, and not of a control PDU: the D/C bit, bit 7 of the first, is 1 (TS 38.323, 6.3.7)
abbrev pub is_data : List ℕ → Bool
is_data octets = nat_le 128 (slice_index octets 0)

-- the octets are a data PDU with this sequence number and body, whatever its R bits are
pub record IsDataPdu (n : SnLen) (sn : ℕ) (body octets : List ℕ) : Type 0 where
  pub small : sn < modulus n
  pub payload : IsPayload body
  pub r : ℕ
  pub r_small : r < reserved n
  pub spelled : octets ≡ header n r sn ++ body

-- the data PDU as it is sent: the R bits are 0
unfoldable pub data_pdu : SnLen → ℕ → List ℕ → List ℕ
data_pdu n sn body = header n 0 sn ++ body
