-- What is forwarded of a bearer that moves to the secondary node, and its downlink, under 128-NEA2 (TS 33.501, 6.10; TS 38.323, 5.8).
use Rattle.std.specs.Prelude.{◌≡◌, ◌∷◌, [], true, codes}
use Rattle.std.proofs.Common.{refl}
use Rattle.std.specs.Fmt.{digits}
use Rattle.hex.specs.Hex.{encode_with}
use Rattle.dc_base.specs.Count.{count_for, distance, modulus, sn, window}
use Rattle.gtpu.specs.Decoded.{decoded as packet_decoded}
use Rattle.nea2.specs.Cipher as cipher
use Rattle.nea2.specs.Field as field
use Rattle.nea2.specs.Keystream.{counter_block, keystream, stream_blocks}
use Rattle.pdcp_pdu.specs.DataPdu.{data_pdu}
use Rattle.pdcp_pdu.specs.Pdu.{decoded, read_data, read_report}
use Rattle.pdcp_pdu.specs.StatusReport.{report_pdu}
use Rattle.sha2.specs.Sha256 as hash
use Rattle.node_rules.proofs.Scripts.{output, stand_in}
use Rattle.worked_rules.proofs.Ciphered.{ciphered, moved_under_a_cipher}

-- the move: what is forwarded is in clear
forwards_in_clear : stand_in (
    codes "> shape 1 ss"
    ∷ codes "= ok"
    ∷ codes "- send ma.ctl modreq 3 a 1/12/0/ss/0/0/s0.0/m"
    ∷ codes "- give m 1 3"
    ∷ codes "- send ma.ctl snst 3 1 0 80 2"
    ∷ codes "- send ma.tun gtp - 34ff0011000001810000008402010000000000c001000000aa"
    ∷ codes "- set 1 3"
    ∷ codes "- own a 1 3"
    ∷ codes "- send am.ctl moved 3 1"
    ∷ codes "- done"
    ∷ codes "- freed 1 dl 1"
    ∷ codes "- freed 1 dl 2"
    ∷ []) (output ciphered moved_under_a_cipher) ≡ true
unfolding digits encode_with sn window modulus count_for distance data_pdu decoded read_data read_report report_pdu keystream counter_block stream_blocks packet_decoded cipher.substitution cipher.round_key cipher.rounds cipher.cipher field.product hash.sha256 hash.digest_bytes hash.hash_after hash.compress hash.rounds hash.schedule hash.first_words
forwards_in_clear = refl

-- the secondary node sends what was forwarded, under K_SN, and the terminal hands it up
downlink_under_k_sn : stand_in (
    codes "- send am.ctl moved 3 1"
    ∷ codes "- send at.air pdu 1 3 0 0 8000bd"
    ∷ codes "- done"
    ∷ codes "- up t 1 dl 0 aa"
    ∷ []) (output ciphered moved_under_a_cipher) ≡ true
unfolding digits encode_with sn window modulus count_for distance data_pdu decoded read_data read_report report_pdu keystream counter_block stream_blocks packet_decoded cipher.substitution cipher.round_key cipher.rounds cipher.cipher field.product hash.sha256 hash.digest_bytes hash.hash_after hash.compress hash.rounds hash.schedule hash.first_words
downlink_under_k_sn = refl

-- and what comes after it
downlink_handed_up : stand_in (
    codes "- done"
    ∷ codes "- up t 1 dl 1 bb"
    ∷ codes "- freed 1 dl 1"
    ∷ codes "- freed 1 dl 2"
    ∷ []) (output ciphered moved_under_a_cipher) ≡ true
unfolding digits encode_with sn window modulus count_for distance data_pdu decoded read_data read_report report_pdu keystream counter_block stream_blocks packet_decoded cipher.substitution cipher.round_key cipher.rounds cipher.cipher field.product hash.sha256 hash.digest_bytes hash.hash_after hash.compress hash.rounds hash.schedule hash.first_words
downlink_handed_up = refl
