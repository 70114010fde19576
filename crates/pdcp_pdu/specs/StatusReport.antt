-- The PDCP status report (TS 38.323, 6.2.3.1).
use Rattle.std.specs.Prelude.{◌≡◌, ℕ, ◌+◌, ◌-◌, ◌/◌, ◌%◌, ◌^◌, ◌<◌, ◌≤◌, nat_lt, ◌||◌, ◌&&◌, min, Bool, true, List, [], ◌∷◌, ◌++◌, length, Option, Some, None, suc, ◌==◌, if◌then◌else◌}
use Rattle.std.specs.Option.{option_map}
use Rattle.pdcp_pdu.specs.Bitmap.{names, is_shown, is_among, bitmap, bitmap_len}

-- D/C bit 0, PDU type 000 and the R bits; then FMC, the first missing COUNT
abbrev pub report_header : ℕ → ℕ → List ℕ
report_header r fmc = r ∷ (fmc / 16777216) ∷ (fmc / 65536 % 256) ∷ (fmc / 256 % 256) ∷ (fmc % 256) ∷ []

-- the octets are a status report with this FMC and this bitmap, whatever its R bits are; each COUNT that it
-- names is a COUNT
pub record IsStatusReport (fmc : ℕ) (bits octets : List ℕ) : Type 0 where
  pub fmc_small : fmc < 2 ^ 32
  pub most : length bits ≤ 8995
  pub counts : (c : ℕ) → names fmc bits c ≡ true → c < 2 ^ 32
  pub r : ℕ
  pub r_small : r < 16
  pub spelled : octets ≡ report_header r fmc ++ bits

-- the octets are a status report with this FMC that names exactly this set of COUNTs as received
pub record NamesReceived (fmc : ℕ) (set : ℕ → Bool) (octets : List ℕ) : Type 0 where
  pub bits : List ℕ
  pub report : IsStatusReport fmc bits octets
  pub named : (c : ℕ) → names fmc bits c ≡ set c

-- the status report for the COUNTs received above FMC, ascending, as it is sent: the R bits are 0, and the
-- bitmap ends with the octet that has the last of them, or at 9000 octets of PDU
abbrev pub sent_bits : ℕ → List ℕ → List ℕ
sent_bits fmc received = bitmap (is_among received) (fmc + 1) (min 8995 (bitmap_len fmc received))

-- the octets of the report that is sent: its header, with R bits 0, and that bitmap
unfoldable pub report_pdu : ℕ → List ℕ → List ℕ
report_pdu fmc received = report_header 0 fmc ++ sent_bits fmc received

-- the same bitmap, never cut, as SN STATUS TRANSFER carries it (TS 38.423, 8.2.2)
abbrev pub whole_bits : ℕ → List ℕ → List ℕ
whole_bits fmc received = bitmap (is_among received) (fmc + 1) (bitmap_len fmc received)

-- the COUNTs that a sent report names: those below FMC, and the received ones that 8995 octets of bitmap can show
abbrev pub sent_set : ℕ → List ℕ → ℕ → Bool
sent_set fmc received count = nat_lt count fmc || (is_among received count && nat_lt count (fmc + 71961))

-- the first octet of a bitmap with a 1 for a number that is no COUNT, where `room` COUNTs lie above FMC
abbrev pub first_beyond : ℕ → List ℕ → Option ℕ
first_beyond room [] = None
first_beyond room (octet ∷ bits) = if octet % 2 ^ (8 - room) == 0 then option_map (λ i. suc i) (first_beyond (room - 8) bits) else Some 0

-- octet i of the bitmap has a 1 for a number above 2^32 - 1, and no octet before it has
pub record IsFirstBeyond (fmc : ℕ) (bits : List ℕ) (i : ℕ) : Type 0 where
  pub bit : ℕ
  pub here : bit / 8 ≡ i
  pub shown : is_shown bits (suc bit) ≡ true
  pub beyond : 2 ^ 32 ≤ fmc + suc bit
  pub first : (b : ℕ) → is_shown bits (suc b) ≡ true → 2 ^ 32 ≤ fmc + suc b → i ≤ b / 8
