-- The uplink of a bearer that moves to the secondary node, under 128-NEA2 (TS 33.501, 6.10; TS 38.323, 5.8).
use Rattle.std.specs.Prelude.{◌≡◌, ◌∷◌, [], true, codes}
use Rattle.std.proofs.Common.{refl}
use Rattle.std.specs.Fmt.{digits}
use Rattle.hex.specs.Hex.{encode_with}
use Rattle.dc_base.specs.Count.{count_for, distance, modulus, sn, window}
use Rattle.gtpu.specs.Decoded.{decoded as packet_decoded}
use Rattle.nea2.specs.Cipher as cipher
use Rattle.nea2.specs.Field as field
use Rattle.nea2.specs.Keystream.{counter_block, keystream, stream_blocks}
use Rattle.pdcp_pdu.specs.DataPdu.{data_pdu}
use Rattle.pdcp_pdu.specs.Pdu.{decoded, read_data, read_report}
use Rattle.pdcp_pdu.specs.StatusReport.{report_pdu}
use Rattle.sha2.specs.Sha256 as hash
use Rattle.node_rules.proofs.Scripts.{output, stand_in}
use Rattle.worked_rules.proofs.Ciphered.{ciphered, moved_under_a_cipher}

-- the terminal sends again what it keeps, under K_SN
uplink_under_k_sn : stand_in (
    codes "- set 1 3"
    ∷ codes "- send ta.air pdu 1 3 0 0 800097"
    ∷ codes "- send ta.air pdu 1 3 1 1 800167"
    ∷ codes "- own a 1 3"
    ∷ []) (output ciphered moved_under_a_cipher) ≡ true
unfolding digits encode_with sn window modulus count_for distance data_pdu decoded read_data read_report report_pdu keystream counter_block stream_blocks packet_decoded cipher.substitution cipher.round_key cipher.rounds cipher.cipher field.product hash.sha256 hash.digest_bytes hash.hash_after hash.compress hash.rounds hash.schedule hash.first_words
uplink_under_k_sn = refl

-- the secondary node hands up what came so
uplink_handed_up : stand_in (
    codes "- own a 1 3"
    ∷ codes "- up a 1 ul 0 cc"
    ∷ []) (output ciphered moved_under_a_cipher) ≡ true
unfolding digits encode_with sn window modulus count_for distance data_pdu decoded read_data read_report report_pdu keystream counter_block stream_blocks packet_decoded cipher.substitution cipher.round_key cipher.rounds cipher.cipher field.product hash.sha256 hash.digest_bytes hash.hash_after hash.compress hash.rounds hash.schedule hash.first_words
uplink_handed_up = refl

-- and what was forwarded
forwarded_handed_up : stand_in (
    codes "- own a 1 3"
    ∷ codes "- up a 1 ul 1 dd"
    ∷ codes "- send am.ctl moved 3 1"
    ∷ []) (output ciphered moved_under_a_cipher) ≡ true
unfolding digits encode_with sn window modulus count_for distance data_pdu decoded read_data read_report report_pdu keystream counter_block stream_blocks packet_decoded cipher.substitution cipher.round_key cipher.rounds cipher.cipher field.product hash.sha256 hash.digest_bytes hash.hash_after hash.compress hash.rounds hash.schedule hash.first_words
forwarded_handed_up = refl
