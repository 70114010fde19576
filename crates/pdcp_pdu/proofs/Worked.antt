-- The definitions at worked PDUs: each is computed.
use Rattle.std.proofs.Common.{◌≡◌, ℕ, List, [], ◌∷◌, Ok, Err, true, false, refl}
use Rattle.dc_base.specs.declared.numbers.SnLen.TheVariants.{S12, S18}
use Rattle.pdcp_pdu.specs.declared.pdu.PduErr.TheVariants.{BadReport}
use Rattle.pdcp_pdu.specs.DataPdu.{data_pdu, is_data}
use Rattle.pdcp_pdu.specs.Pdu.{sdu, report, decoded, encoded, read_data, read_report}
use Rattle.pdcp_pdu.specs.StatusReport.{report_pdu}

-- "hi" under the sequence numbers 0 and 5
short_data : decoded S12 (0x80 ∷ 0x00 ∷ 0x68 ∷ 0x69 ∷ []) ≡ Ok (sdu 0 (0x68 ∷ 0x69 ∷ []))
unfolding decoded read_data
short_data = refl

long_data : decoded S18 (0x80 ∷ 0x00 ∷ 0x05 ∷ 0x68 ∷ 0x69 ∷ []) ≡ Ok (sdu 5 (0x68 ∷ 0x69 ∷ []))
unfolding decoded read_data
long_data = refl

short_octets : encoded S12 (sdu 0 (0x68 ∷ 0x69 ∷ [])) ≡ 0x80 ∷ 0x00 ∷ 0x68 ∷ 0x69 ∷ []
unfolding data_pdu
short_octets = refl

long_octets : encoded S18 (sdu 5 (0x68 ∷ 0x69 ∷ [])) ≡ 0x80 ∷ 0x00 ∷ 0x05 ∷ 0x68 ∷ 0x69 ∷ []
unfolding data_pdu
long_octets = refl

-- COUNTs 7 and 8 received above FMC 5
seven_and_eight : decoded S12 (0x00 ∷ 0 ∷ 0 ∷ 0 ∷ 5 ∷ 0x60 ∷ []) ≡ Ok (report 5 (0x60 ∷ []))
unfolding decoded read_report
seven_and_eight = refl

seven_and_eight_octets : encoded S18 (report 5 (0x60 ∷ [])) ≡ 0x00 ∷ 0 ∷ 0 ∷ 0 ∷ 5 ∷ 0x60 ∷ []
seven_and_eight_octets = refl

seven_and_eight_sent : report_pdu 5 (7 ∷ 8 ∷ []) ≡ 0x00 ∷ 0 ∷ 0 ∷ 0 ∷ 5 ∷ 0x60 ∷ []
unfolding report_pdu
seven_and_eight_sent = refl

-- a bitmap that names 2^32
above_every_count : decoded S12 (0x00 ∷ 0xff ∷ 0xff ∷ 0xff ∷ 0xff ∷ 0x80 ∷ []) ≡ Err (BadReport 5)
unfolding decoded read_report
above_every_count = refl

above_every_count_later : decoded S12 (0x00 ∷ 0xff ∷ 0xff ∷ 0xff ∷ 0xff ∷ 0x00 ∷ 0x80 ∷ []) ≡ Err (BadReport 6)
unfolding decoded read_report
above_every_count_later = refl

first_octets : (is_data (0x80 ∷ []) ≡ true) × (is_data (0x7f ∷ []) ≡ false) × (is_data [] ≡ false)
first_octets = (refl, refl, refl)
