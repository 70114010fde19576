-- What is ciphered, and the octets of keys in records: by computing.
use Rattle.std.specs.Prelude.{◌≡◌, ◌++◌, ℕ, Bool, true, false, List, [], ◌∷◌, replicate, Option, Some, None}
use Rattle.std.proofs.Common.{refl}
use Rattle.dc_base.specs.declared.numbers.SnLen.TheVariants.{S12, S18}
use Rattle.dc_base.specs.declared.nodes.Alg.TheVariants.{Nea0, Nea2}
use Rattle.dc_base.specs.declared.nodes.Node.TheVariants.{T, M, A, B}
use Rattle.dc_base.specs.declared.nodes.Class.TheVariants.{Ctl, Feed, Air, Tun}
use Rattle.dc_base.specs.declared.nodes.Dir.TheVariants.{Ul, Dl}
use Rattle.dc_base.specs.declared.nodes.Cell.TheVariants as cell
use Rattle.dc_base.specs.declared.nodes.LegSet.TheVariants.{Mcg, Scg, Split}
use Rattle.dc_base.specs.declared.nodes.Side.TheVariants.{Master, Second as SecondKey}
use Rattle.dc_base.specs.declared.nodes.Want.TheVariants as want
use Rattle.dc_base.specs.declared.flights.Flight.TheVariants as flight
use Rattle.dc_base.specs.declared.records.Item.TheVariants.{Set, Unset}
use Rattle.dc_base.specs.declared.records.Rec.TheVariants as rec
use Rattle.dc_base.specs.declared.answers.Word.TheVariants as word
use Rattle.dc_base.specs.declared.answers.Refusal.TheVariants as refusal
use Rattle.dc_base.specs.declared.answers.Answer.TheVariants as answer
use Rattle.dc_base.specs.declared.events.Event.TheVariants as event
use Rattle.dc_base.specs.declared.events.Note.TheVariants as note
use Rattle.dc_base.specs.declared.events.Line.TheVariants as line
use Rattle.transcript.specs.Transcript.{Entry}
use Rattle.dc_base.specs.Links.{link}
use Rattle.claims.specs.Writing.{a_shape, a_key, a_plan, a_transfer, a_header, an_entry}
use Rattle.claims.specs.Names.{protected, breaks, breaks_of, keyed}
use Rattle.dc_base.specs.Count.{modulus, window, sn, distance, count_for}
use Rattle.nea2.specs.Keystream.{keystream, counter_block, stream_blocks}
use Rattle.pdcp_pdu.specs.DataPdu.{data_pdu}
use Rattle.pdcp_pdu.specs.Pdu.{decoded, read_data, read_report}
use Rattle.pdcp_pdu.specs.StatusReport.{report_pdu}
use Rattle.nea2.specs.Cipher as cipher
use Rattle.nea2.specs.Field as field
use Rattle.sha2.specs.Sha256 as hash

-- what comes before
abbrev before_pdu_ciphered_under_the_master_key : List Entry
before_pdu_ciphered_under_the_master_key =
    an_entry (event.Add A) answer.Ok (line.Send (link M A Ctl) (flight.Ctl (rec.Addreq (a_plan 1 (Some A) []) [])) ∷ [])
    ∷ an_entry (event.Step (link M A Ctl) 0) answer.Ok (line.Note (note.Join A 1) ∷ line.Send (link A M Ctl) (flight.Ctl (rec.Addack 1)) ∷ [])
    ∷ an_entry (event.Step (link A M Ctl) 0) answer.Ok (line.Send (link M T Ctl) (flight.Ctl (rec.Reconf (a_plan 1 (Some A) []) [])) ∷ [])
    ∷ an_entry (event.Step (link M T Ctl) 0) answer.Ok (line.Send (link T M Ctl) (flight.Ctl (rec.Rcomp 1)) ∷ [])
    ∷ an_entry (event.Step (link T M Ctl) 0) answer.Ok (line.Send (link M A Ctl) (flight.Ctl (rec.Recfg 1)) ∷ line.Note note.Done ∷ [])
    ∷ an_entry (event.Step (link M A Ctl) 0) answer.Ok []
    ∷ an_entry (event.Bearer 1 S12 0 (a_shape true Scg false) 0 0) answer.Ok (line.Send (link M A Ctl) (flight.Ctl (rec.Modreq (a_plan 2 (Some A) (Set 1 S12 0 (a_shape true Scg false) 0 0 (a_key 0 (SecondKey 0)) None ∷ [])) [])) ∷ [])
    ∷ an_entry (event.Step (link M A Ctl) 0) answer.Ok (line.Note (note.Own A 1 2) ∷ line.Send (link A M Ctl) (flight.Ctl (rec.Modack 2)) ∷ [])
    ∷ an_entry (event.Step (link A M Ctl) 0) answer.Ok (line.Send (link M T Ctl) (flight.Ctl (rec.Reconf (a_plan 2 (Some A) (Set 1 S12 0 (a_shape true Scg false) 0 0 (a_key 0 (SecondKey 0)) None ∷ [])) [])) ∷ [])
    ∷ an_entry (event.Step (link M T Ctl) 0) answer.Ok (line.Note (note.Set 1 2) ∷ line.Send (link T M Ctl) (flight.Ctl (rec.Rcomp 2)) ∷ [])
    ∷ an_entry (event.Step (link T M Ctl) 0) answer.Ok (line.Send (link M A Ctl) (flight.Ctl (rec.Recfg 2)) ∷ line.Note note.Done ∷ [])
    ∷ an_entry (event.Step (link M A Ctl) 0) answer.Ok []
    ∷ an_entry (event.Submit 1 Dl (170 ∷ 187 ∷ 204 ∷ 221 ∷ [])) answer.Ok (line.Send (link M A Feed) (flight.Sdu 1 2 (170 ∷ 187 ∷ 204 ∷ 221 ∷ [])) ∷ [])
    ∷ []

pdu_ciphered_under_the_master_key_is_wrong : breaks (a_header Nea2 0 (replicate 32 0)) (before_pdu_ciphered_under_the_master_key ++
    an_entry (event.Step (link M A Feed) 0) answer.Ok (line.Send (link A T Air) (flight.Air 1 2 0 (Some 0) (128 ∷ 0 ∷ 127 ∷ 60 ∷ 36 ∷ 249 ∷ [])) ∷ [])
    ∷ []) ≡ protected ∷ []
unfolding sn window modulus distance count_for data_pdu decoded read_data read_report keystream counter_block stream_blocks report_pdu cipher.substitution cipher.round_key cipher.rounds cipher.cipher field.product hash.sha256 hash.digest_bytes hash.hash_after hash.compress hash.rounds hash.schedule hash.first_words
pdu_ciphered_under_the_master_key_is_wrong = refl

pdu_ciphered_under_the_master_key_is_right : breaks (a_header Nea2 0 (replicate 32 0)) (before_pdu_ciphered_under_the_master_key ++
    an_entry (event.Step (link M A Feed) 0) answer.Ok (line.Send (link A T Air) (flight.Air 1 2 0 (Some 0) (128 ∷ 0 ∷ 189 ∷ 234 ∷ 145 ∷ 172 ∷ [])) ∷ [])
    ∷ []) ≡ []
unfolding sn window modulus distance count_for data_pdu decoded read_data read_report keystream counter_block stream_blocks report_pdu cipher.substitution cipher.round_key cipher.rounds cipher.cipher field.product hash.sha256 hash.digest_bytes hash.hash_after hash.compress hash.rounds hash.schedule hash.first_words
pdu_ciphered_under_the_master_key_is_right = refl

-- what comes before
abbrev before_pdu_ciphered_for_the_other_direction : List Entry
before_pdu_ciphered_for_the_other_direction =
    an_entry (event.Bearer 1 S12 0 (a_shape false Mcg false) 0 0) answer.Ok (line.Note (note.Own M 1 1) ∷ line.Send (link M T Ctl) (flight.Ctl (rec.Reconf (a_plan 1 None (Set 1 S12 0 (a_shape false Mcg false) 0 0 (a_key 0 Master) None ∷ [])) [])) ∷ [])
    ∷ an_entry (event.Step (link M T Ctl) 0) answer.Ok (line.Note (note.Set 1 1) ∷ line.Send (link T M Ctl) (flight.Ctl (rec.Rcomp 1)) ∷ [])
    ∷ an_entry (event.Step (link T M Ctl) 0) answer.Ok (line.Note note.Done ∷ [])
    ∷ []

pdu_ciphered_for_the_other_direction_is_wrong : breaks (a_header Nea2 0 (replicate 32 0)) (before_pdu_ciphered_for_the_other_direction ++
    an_entry (event.Submit 1 Dl (170 ∷ 187 ∷ 204 ∷ 221 ∷ [])) answer.Ok (line.Send (link M T Air) (flight.Air 1 1 0 (Some 0) (128 ∷ 0 ∷ 69 ∷ 200 ∷ 159 ∷ 14 ∷ [])) ∷ [])
    ∷ []) ≡ protected ∷ []
unfolding sn window modulus distance count_for data_pdu decoded read_data read_report keystream counter_block stream_blocks report_pdu cipher.substitution cipher.round_key cipher.rounds cipher.cipher field.product hash.sha256 hash.digest_bytes hash.hash_after hash.compress hash.rounds hash.schedule hash.first_words
pdu_ciphered_for_the_other_direction_is_wrong = refl

pdu_ciphered_for_the_other_direction_is_right : breaks (a_header Nea2 0 (replicate 32 0)) (before_pdu_ciphered_for_the_other_direction ++
    an_entry (event.Submit 1 Dl (170 ∷ 187 ∷ 204 ∷ 221 ∷ [])) answer.Ok (line.Send (link M T Air) (flight.Air 1 1 0 (Some 0) (128 ∷ 0 ∷ 127 ∷ 60 ∷ 36 ∷ 249 ∷ [])) ∷ [])
    ∷ []) ≡ []
unfolding sn window modulus distance count_for data_pdu decoded read_data read_report keystream counter_block stream_blocks report_pdu cipher.substitution cipher.round_key cipher.rounds cipher.cipher field.product hash.sha256 hash.digest_bytes hash.hash_after hash.compress hash.rounds hash.schedule hash.first_words
pdu_ciphered_for_the_other_direction_is_right = refl

pdu_in_clear_under_nea2_is_wrong : breaks (a_header Nea2 0 (replicate 32 0)) (before_pdu_ciphered_for_the_other_direction ++
    an_entry (event.Submit 1 Dl (170 ∷ 187 ∷ 204 ∷ 221 ∷ [])) answer.Ok (line.Send (link M T Air) (flight.Air 1 1 0 (Some 0) (128 ∷ 0 ∷ 170 ∷ 187 ∷ 204 ∷ 221 ∷ [])) ∷ [])
    ∷ []) ≡ protected ∷ []
unfolding sn window modulus distance count_for data_pdu decoded read_data read_report keystream counter_block stream_blocks report_pdu cipher.substitution cipher.round_key cipher.rounds cipher.cipher field.product hash.sha256 hash.digest_bytes hash.hash_after hash.compress hash.rounds hash.schedule hash.first_words
pdu_in_clear_under_nea2_is_wrong = refl

pdu_in_clear_under_nea2_is_right : breaks (a_header Nea2 0 (replicate 32 0)) (before_pdu_ciphered_for_the_other_direction ++
    an_entry (event.Submit 1 Dl (170 ∷ 187 ∷ 204 ∷ 221 ∷ [])) answer.Ok (line.Send (link M T Air) (flight.Air 1 1 0 (Some 0) (128 ∷ 0 ∷ 127 ∷ 60 ∷ 36 ∷ 249 ∷ [])) ∷ [])
    ∷ []) ≡ []
unfolding sn window modulus distance count_for data_pdu decoded read_data read_report keystream counter_block stream_blocks report_pdu cipher.substitution cipher.round_key cipher.rounds cipher.cipher field.product hash.sha256 hash.digest_bytes hash.hash_after hash.compress hash.rounds hash.schedule hash.first_words
pdu_in_clear_under_nea2_is_right = refl

addition_with_the_first_k_sn_is_right : breaks_of (keyed ∷ []) (a_header Nea0 0 (replicate 32 0)) (
    an_entry (event.Add A) answer.Ok (line.Send (link M A Ctl) (flight.Ctl (rec.Addreq (a_plan 1 (Some A) []) (233 ∷ 113 ∷ 36 ∷ 244 ∷ 140 ∷ 110 ∷ 42 ∷ 68 ∷ 133 ∷ 14 ∷ 217 ∷ 174 ∷ 49 ∷ 211 ∷ 37 ∷ 129 ∷ 237 ∷ 0 ∷ 148 ∷ 152 ∷ 125 ∷ 191 ∷ 30 ∷ 148 ∷ 120 ∷ 60 ∷ 69 ∷ 12 ∷ 100 ∷ 61 ∷ 192 ∷ 127 ∷ []))) ∷ [])
    ∷ []) ≡ []
unfolding sn window modulus distance count_for data_pdu decoded read_data read_report keystream counter_block stream_blocks report_pdu cipher.substitution cipher.round_key cipher.rounds cipher.cipher field.product hash.sha256 hash.digest_bytes hash.hash_after hash.compress hash.rounds hash.schedule hash.first_words
addition_with_the_first_k_sn_is_right = refl

addition_with_the_second_k_sn_is_wrong : breaks_of (keyed ∷ []) (a_header Nea0 0 (replicate 32 0)) (
    an_entry (event.Add A) answer.Ok (line.Send (link M A Ctl) (flight.Ctl (rec.Addreq (a_plan 1 (Some A) []) (183 ∷ 226 ∷ 190 ∷ 9 ∷ 141 ∷ 91 ∷ 45 ∷ 149 ∷ 48 ∷ 134 ∷ 9 ∷ 36 ∷ 88 ∷ 37 ∷ 183 ∷ 66 ∷ 68 ∷ 211 ∷ 136 ∷ 35 ∷ 224 ∷ 158 ∷ 152 ∷ 168 ∷ 76 ∷ 192 ∷ 70 ∷ 18 ∷ 180 ∷ 233 ∷ 117 ∷ 83 ∷ []))) ∷ [])
    ∷ []) ≡ keyed ∷ []
unfolding sn window modulus distance count_for data_pdu decoded read_data read_report keystream counter_block stream_blocks report_pdu cipher.substitution cipher.round_key cipher.rounds cipher.cipher field.product hash.sha256 hash.digest_bytes hash.hash_after hash.compress hash.rounds hash.schedule hash.first_words
addition_with_the_second_k_sn_is_wrong = refl

addition_with_the_root_is_wrong : breaks_of (keyed ∷ []) (a_header Nea0 0 (replicate 32 0)) (
    an_entry (event.Add A) answer.Ok (line.Send (link M A Ctl) (flight.Ctl (rec.Addreq (a_plan 1 (Some A) []) (replicate 32 0))) ∷ [])
    ∷ []) ≡ keyed ∷ []
unfolding sn window modulus distance count_for data_pdu decoded read_data read_report keystream counter_block stream_blocks report_pdu cipher.substitution cipher.round_key cipher.rounds cipher.cipher field.product hash.sha256 hash.digest_bytes hash.hash_after hash.compress hash.rounds hash.schedule hash.first_words
addition_with_the_root_is_wrong = refl

bearer_with_the_root_is_right : breaks_of (keyed ∷ []) (a_header Nea0 0 (replicate 32 0)) (
    an_entry (event.Bearer 1 S12 0 (a_shape false Mcg false) 0 0) answer.Ok (line.Note (note.Own M 1 1) ∷ line.Send (link M T Ctl) (flight.Ctl (rec.Reconf (a_plan 1 None (Set 1 S12 0 (a_shape false Mcg false) 0 0 (a_key 0 Master) None ∷ [])) (replicate 32 0))) ∷ [])
    ∷ []) ≡ []
unfolding sn window modulus distance count_for data_pdu decoded read_data read_report keystream counter_block stream_blocks report_pdu cipher.substitution cipher.round_key cipher.rounds cipher.cipher field.product hash.sha256 hash.digest_bytes hash.hash_after hash.compress hash.rounds hash.schedule hash.first_words
bearer_with_the_root_is_right = refl

bearer_with_another_root_is_wrong : breaks_of (keyed ∷ []) (a_header Nea0 0 (replicate 32 0)) (
    an_entry (event.Bearer 1 S12 0 (a_shape false Mcg false) 0 0) answer.Ok (line.Note (note.Own M 1 1) ∷ line.Send (link M T Ctl) (flight.Ctl (rec.Reconf (a_plan 1 None (Set 1 S12 0 (a_shape false Mcg false) 0 0 (a_key 0 Master) None ∷ [])) (replicate 32 17))) ∷ [])
    ∷ []) ≡ keyed ∷ []
unfolding sn window modulus distance count_for data_pdu decoded read_data read_report keystream counter_block stream_blocks report_pdu cipher.substitution cipher.round_key cipher.rounds cipher.cipher field.product hash.sha256 hash.digest_bytes hash.hash_after hash.compress hash.rounds hash.schedule hash.first_words
bearer_with_another_root_is_wrong = refl

rekey_with_the_new_root_is_right : breaks_of (keyed ∷ []) (a_header Nea0 0 (replicate 32 0)) (
    an_entry (event.Bearer 1 S12 0 (a_shape false Mcg false) 0 0) answer.Ok (line.Note (note.Own M 1 1) ∷ line.Send (link M T Ctl) (flight.Ctl (rec.Reconf (a_plan 1 None (Set 1 S12 0 (a_shape false Mcg false) 0 0 (a_key 0 Master) None ∷ [])) (replicate 32 0))) ∷ [])
    ∷ an_entry (event.Step (link M T Ctl) 0) answer.Ok (line.Note (note.Set 1 1) ∷ line.Send (link T M Ctl) (flight.Ctl (rec.Rcomp 1)) ∷ [])
    ∷ an_entry (event.Step (link T M Ctl) 0) answer.Ok (line.Note note.Done ∷ [])
    ∷ an_entry (event.RekeyMaster (replicate 32 17)) answer.Ok (line.Note (note.Own M 1 2) ∷ line.Send (link M T Ctl) (flight.Ctl (rec.Reconf (a_plan 2 None (Set 1 S12 0 (a_shape false Mcg false) 0 0 (a_key 1 Master) (Some M) ∷ [])) (replicate 32 17))) ∷ [])
    ∷ []) ≡ []
unfolding sn window modulus distance count_for data_pdu decoded read_data read_report keystream counter_block stream_blocks report_pdu cipher.substitution cipher.round_key cipher.rounds cipher.cipher field.product hash.sha256 hash.digest_bytes hash.hash_after hash.compress hash.rounds hash.schedule hash.first_words
rekey_with_the_new_root_is_right = refl

rekey_with_the_old_root_is_wrong : breaks_of (keyed ∷ []) (a_header Nea0 0 (replicate 32 0)) (
    an_entry (event.Bearer 1 S12 0 (a_shape false Mcg false) 0 0) answer.Ok (line.Note (note.Own M 1 1) ∷ line.Send (link M T Ctl) (flight.Ctl (rec.Reconf (a_plan 1 None (Set 1 S12 0 (a_shape false Mcg false) 0 0 (a_key 0 Master) None ∷ [])) (replicate 32 0))) ∷ [])
    ∷ an_entry (event.Step (link M T Ctl) 0) answer.Ok (line.Note (note.Set 1 1) ∷ line.Send (link T M Ctl) (flight.Ctl (rec.Rcomp 1)) ∷ [])
    ∷ an_entry (event.Step (link T M Ctl) 0) answer.Ok (line.Note note.Done ∷ [])
    ∷ an_entry (event.RekeyMaster (replicate 32 17)) answer.Ok (line.Note (note.Own M 1 2) ∷ line.Send (link M T Ctl) (flight.Ctl (rec.Reconf (a_plan 2 None (Set 1 S12 0 (a_shape false Mcg false) 0 0 (a_key 1 Master) (Some M) ∷ [])) (replicate 32 0))) ∷ [])
    ∷ []) ≡ keyed ∷ []
unfolding sn window modulus distance count_for data_pdu decoded read_data read_report keystream counter_block stream_blocks report_pdu cipher.substitution cipher.round_key cipher.rounds cipher.cipher field.product hash.sha256 hash.digest_bytes hash.hash_after hash.compress hash.rounds hash.schedule hash.first_words
rekey_with_the_old_root_is_wrong = refl
