-- What wrong transcripts break, and that their right neighbours break nothing: by computing.
use Rattle.std.specs.Prelude.{◌≡◌, ◌++◌, ℕ, Bool, true, false, List, [], ◌∷◌, replicate, Option, Some, None}
use Rattle.std.proofs.Common.{refl}
use Rattle.dc_base.specs.declared.numbers.SnLen.TheVariants.{S12, S18}
use Rattle.dc_base.specs.declared.nodes.Alg.TheVariants.{Nea0, Nea2}
use Rattle.dc_base.specs.declared.nodes.Node.TheVariants.{T, M, A, B}
use Rattle.dc_base.specs.declared.nodes.Class.TheVariants.{Ctl, Feed, Air, Tun}
use Rattle.dc_base.specs.declared.nodes.Dir.TheVariants.{Ul, Dl}
use Rattle.dc_base.specs.declared.nodes.Cell.TheVariants as cell
use Rattle.dc_base.specs.declared.nodes.LegSet.TheVariants.{Mcg, Scg, Split}
use Rattle.dc_base.specs.declared.nodes.Side.TheVariants.{Master, Second as SecondKey}
use Rattle.dc_base.specs.declared.nodes.Want.TheVariants as want
use Rattle.dc_base.specs.declared.flights.Flight.TheVariants as flight
use Rattle.dc_base.specs.declared.records.Item.TheVariants.{Set, Unset}
use Rattle.dc_base.specs.declared.records.Rec.TheVariants as rec
use Rattle.dc_base.specs.declared.answers.Word.TheVariants as word
use Rattle.dc_base.specs.declared.answers.Refusal.TheVariants as refusal
use Rattle.dc_base.specs.declared.answers.Answer.TheVariants as answer
use Rattle.dc_base.specs.declared.events.Event.TheVariants as event
use Rattle.dc_base.specs.declared.events.Note.TheVariants as note
use Rattle.dc_base.specs.declared.events.Line.TheVariants as line
use Rattle.transcript.specs.Transcript.{Entry}
use Rattle.dc_base.specs.Links.{link}
use Rattle.claims.specs.Writing.{a_shape, a_key, a_plan, a_transfer, a_header, an_entry}
use Rattle.claims.specs.Names.{all_of_it, carried, come, consequence, drained, front, holder, licensed, numbered, ordered, placed, planned, protected, replied, told, true_report, unstalled, windowed, breaks}
use Rattle.dc_base.specs.Count.{modulus, window, sn, distance, count_for}
use Rattle.nea2.specs.Keystream.{keystream, counter_block, stream_blocks}
use Rattle.pdcp_pdu.specs.DataPdu.{data_pdu}
use Rattle.pdcp_pdu.specs.Pdu.{decoded, read_data, read_report}
use Rattle.pdcp_pdu.specs.StatusReport.{report_pdu}

-- what comes before
abbrev before_scgf_names_another_generation : List Entry
before_scgf_names_another_generation =
    an_entry (event.Add A) answer.Ok (line.Send (link M A Ctl) (flight.Ctl (rec.Addreq (a_plan 1 (Some A) []) [])) ∷ [])
    ∷ an_entry (event.Step (link M A Ctl) 0) answer.Ok (line.Note (note.Join A 1) ∷ line.Send (link A M Ctl) (flight.Ctl (rec.Addack 1)) ∷ [])
    ∷ an_entry (event.Step (link A M Ctl) 0) answer.Ok (line.Send (link M T Ctl) (flight.Ctl (rec.Reconf (a_plan 1 (Some A) []) [])) ∷ [])
    ∷ an_entry (event.Step (link M T Ctl) 0) answer.Ok (line.Send (link T M Ctl) (flight.Ctl (rec.Rcomp 1)) ∷ [])
    ∷ an_entry (event.Step (link T M Ctl) 0) answer.Ok (line.Send (link M A Ctl) (flight.Ctl (rec.Recfg 1)) ∷ line.Note note.Done ∷ [])
    ∷ an_entry (event.Step (link M A Ctl) 0) answer.Ok []
    ∷ an_entry (event.Bearer 1 S12 0 (a_shape false Scg false) 0 0) answer.Ok (line.Send (link M A Ctl) (flight.Ctl (rec.Modreq (a_plan 2 (Some A) (Set 1 S12 0 (a_shape false Scg false) 0 0 (a_key 0 Master) None ∷ [])) [])) ∷ [])
    ∷ an_entry (event.Step (link M A Ctl) 0) answer.Ok (line.Send (link A M Ctl) (flight.Ctl (rec.Modack 2)) ∷ [])
    ∷ an_entry (event.Step (link A M Ctl) 0) answer.Ok (line.Note (note.Own M 1 2) ∷ line.Send (link M T Ctl) (flight.Ctl (rec.Reconf (a_plan 2 (Some A) (Set 1 S12 0 (a_shape false Scg false) 0 0 (a_key 0 Master) None ∷ [])) [])) ∷ [])
    ∷ an_entry (event.Step (link M T Ctl) 0) answer.Ok (line.Note (note.Set 1 2) ∷ line.Send (link T M Ctl) (flight.Ctl (rec.Rcomp 2)) ∷ [])
    ∷ an_entry (event.Step (link T M Ctl) 0) answer.Ok (line.Send (link M A Ctl) (flight.Ctl (rec.Recfg 2)) ∷ line.Note note.Done ∷ [])
    ∷ []

scgf_names_another_generation_is_wrong : breaks (a_header Nea0 0 (replicate 32 0)) (before_scgf_names_another_generation ++
    an_entry (event.ScgFail) answer.Ok (line.Send (link T M Ctl) (flight.Ctl (rec.Scgf ((1, 1) ∷ []))) ∷ [])
    ∷ []) ≡ licensed ∷ []
unfolding sn window modulus distance count_for data_pdu decoded read_data read_report keystream counter_block stream_blocks report_pdu
scgf_names_another_generation_is_wrong = refl

scgf_names_another_generation_is_right : breaks (a_header Nea0 0 (replicate 32 0)) (before_scgf_names_another_generation ++
    an_entry (event.ScgFail) answer.Ok (line.Send (link T M Ctl) (flight.Ctl (rec.Scgf ((1, 2) ∷ []))) ∷ [])
    ∷ []) ≡ []
unfolding sn window modulus distance count_for data_pdu decoded read_data read_report keystream counter_block stream_blocks report_pdu
scgf_names_another_generation_is_right = refl

-- what comes before
abbrev before_scgf_twice_for_one_scgfail : List Entry
before_scgf_twice_for_one_scgfail =
    an_entry (event.Add A) answer.Ok (line.Send (link M A Ctl) (flight.Ctl (rec.Addreq (a_plan 1 (Some A) []) [])) ∷ [])
    ∷ an_entry (event.Step (link M A Ctl) 0) answer.Ok (line.Note (note.Join A 1) ∷ line.Send (link A M Ctl) (flight.Ctl (rec.Addack 1)) ∷ [])
    ∷ an_entry (event.Step (link A M Ctl) 0) answer.Ok (line.Send (link M T Ctl) (flight.Ctl (rec.Reconf (a_plan 1 (Some A) []) [])) ∷ [])
    ∷ an_entry (event.Step (link M T Ctl) 0) answer.Ok (line.Send (link T M Ctl) (flight.Ctl (rec.Rcomp 1)) ∷ [])
    ∷ an_entry (event.Step (link T M Ctl) 0) answer.Ok (line.Send (link M A Ctl) (flight.Ctl (rec.Recfg 1)) ∷ line.Note note.Done ∷ [])
    ∷ an_entry (event.Step (link M A Ctl) 0) answer.Ok []
    ∷ []

scgf_twice_for_one_scgfail_is_wrong : breaks (a_header Nea0 0 (replicate 32 0)) (before_scgf_twice_for_one_scgfail ++
    an_entry (event.ScgFail) answer.Ok (line.Send (link T M Ctl) (flight.Ctl (rec.Scgf [])) ∷ line.Send (link T M Ctl) (flight.Ctl (rec.Scgf [])) ∷ [])
    ∷ []) ≡ licensed ∷ []
unfolding sn window modulus distance count_for data_pdu decoded read_data read_report keystream counter_block stream_blocks report_pdu
scgf_twice_for_one_scgfail_is_wrong = refl

scgf_twice_for_one_scgfail_is_right : breaks (a_header Nea0 0 (replicate 32 0)) (before_scgf_twice_for_one_scgfail ++
    an_entry (event.ScgFail) answer.Ok (line.Send (link T M Ctl) (flight.Ctl (rec.Scgf [])) ∷ [])
    ∷ []) ≡ []
unfolding sn window modulus distance count_for data_pdu decoded read_data read_report keystream counter_block stream_blocks report_pdu
scgf_twice_for_one_scgfail_is_right = refl

-- what comes before
abbrev before_sdu_of_an_earlier_submission : List Entry
before_sdu_of_an_earlier_submission =
    an_entry (event.Add A) answer.Ok (line.Send (link M A Ctl) (flight.Ctl (rec.Addreq (a_plan 1 (Some A) []) [])) ∷ [])
    ∷ an_entry (event.Step (link M A Ctl) 0) answer.Ok (line.Note (note.Join A 1) ∷ line.Send (link A M Ctl) (flight.Ctl (rec.Addack 1)) ∷ [])
    ∷ an_entry (event.Step (link A M Ctl) 0) answer.Ok (line.Send (link M T Ctl) (flight.Ctl (rec.Reconf (a_plan 1 (Some A) []) [])) ∷ [])
    ∷ an_entry (event.Step (link M T Ctl) 0) answer.Ok (line.Send (link T M Ctl) (flight.Ctl (rec.Rcomp 1)) ∷ [])
    ∷ an_entry (event.Step (link T M Ctl) 0) answer.Ok (line.Send (link M A Ctl) (flight.Ctl (rec.Recfg 1)) ∷ line.Note note.Done ∷ [])
    ∷ an_entry (event.Step (link M A Ctl) 0) answer.Ok []
    ∷ an_entry (event.Bearer 1 S12 0 (a_shape true Scg false) 0 0) answer.Ok (line.Send (link M A Ctl) (flight.Ctl (rec.Modreq (a_plan 2 (Some A) (Set 1 S12 0 (a_shape true Scg false) 0 0 (a_key 0 (SecondKey 0)) None ∷ [])) [])) ∷ [])
    ∷ an_entry (event.Step (link M A Ctl) 0) answer.Ok (line.Note (note.Own A 1 2) ∷ line.Send (link A M Ctl) (flight.Ctl (rec.Modack 2)) ∷ [])
    ∷ an_entry (event.Step (link A M Ctl) 0) answer.Ok (line.Send (link M T Ctl) (flight.Ctl (rec.Reconf (a_plan 2 (Some A) (Set 1 S12 0 (a_shape true Scg false) 0 0 (a_key 0 (SecondKey 0)) None ∷ [])) [])) ∷ [])
    ∷ an_entry (event.Step (link M T Ctl) 0) answer.Ok (line.Note (note.Set 1 2) ∷ line.Send (link T M Ctl) (flight.Ctl (rec.Rcomp 2)) ∷ [])
    ∷ an_entry (event.Step (link T M Ctl) 0) answer.Ok (line.Send (link M A Ctl) (flight.Ctl (rec.Recfg 2)) ∷ line.Note note.Done ∷ [])
    ∷ an_entry (event.Step (link M A Ctl) 0) answer.Ok []
    ∷ an_entry (event.Submit 1 Dl (170 ∷ [])) answer.Ok (line.Send (link M A Feed) (flight.Sdu 1 2 (170 ∷ [])) ∷ [])
    ∷ []

sdu_of_an_earlier_submission_is_wrong : breaks (a_header Nea0 0 (replicate 32 0)) (before_sdu_of_an_earlier_submission ++
    an_entry (event.Submit 1 Dl (187 ∷ [])) answer.Ok (line.Send (link M A Feed) (flight.Sdu 1 2 (170 ∷ [])) ∷ [])
    ∷ []) ≡ licensed ∷ []
unfolding sn window modulus distance count_for data_pdu decoded read_data read_report keystream counter_block stream_blocks report_pdu
sdu_of_an_earlier_submission_is_wrong = refl

sdu_of_an_earlier_submission_is_right : breaks (a_header Nea0 0 (replicate 32 0)) (before_sdu_of_an_earlier_submission ++
    an_entry (event.Submit 1 Dl (187 ∷ [])) answer.Ok (line.Send (link M A Feed) (flight.Sdu 1 2 (187 ∷ [])) ∷ [])
    ∷ []) ≡ []
unfolding sn window modulus distance count_for data_pdu decoded read_data read_report keystream counter_block stream_blocks report_pdu
sdu_of_an_earlier_submission_is_right = refl

-- what comes before
abbrev before_sdu_to_the_node_that_is_no_anchor : List Entry
before_sdu_to_the_node_that_is_no_anchor =
    an_entry (event.Add A) answer.Ok (line.Send (link M A Ctl) (flight.Ctl (rec.Addreq (a_plan 1 (Some A) []) [])) ∷ [])
    ∷ an_entry (event.Step (link M A Ctl) 0) answer.Ok (line.Note (note.Join A 1) ∷ line.Send (link A M Ctl) (flight.Ctl (rec.Addack 1)) ∷ [])
    ∷ an_entry (event.Step (link A M Ctl) 0) answer.Ok (line.Send (link M T Ctl) (flight.Ctl (rec.Reconf (a_plan 1 (Some A) []) [])) ∷ [])
    ∷ an_entry (event.Step (link M T Ctl) 0) answer.Ok (line.Send (link T M Ctl) (flight.Ctl (rec.Rcomp 1)) ∷ [])
    ∷ an_entry (event.Step (link T M Ctl) 0) answer.Ok (line.Send (link M A Ctl) (flight.Ctl (rec.Recfg 1)) ∷ line.Note note.Done ∷ [])
    ∷ an_entry (event.Step (link M A Ctl) 0) answer.Ok []
    ∷ an_entry (event.Bearer 1 S12 0 (a_shape true Scg false) 0 0) answer.Ok (line.Send (link M A Ctl) (flight.Ctl (rec.Modreq (a_plan 2 (Some A) (Set 1 S12 0 (a_shape true Scg false) 0 0 (a_key 0 (SecondKey 0)) None ∷ [])) [])) ∷ [])
    ∷ an_entry (event.Step (link M A Ctl) 0) answer.Ok (line.Note (note.Own A 1 2) ∷ line.Send (link A M Ctl) (flight.Ctl (rec.Modack 2)) ∷ [])
    ∷ an_entry (event.Step (link A M Ctl) 0) answer.Ok (line.Send (link M T Ctl) (flight.Ctl (rec.Reconf (a_plan 2 (Some A) (Set 1 S12 0 (a_shape true Scg false) 0 0 (a_key 0 (SecondKey 0)) None ∷ [])) [])) ∷ [])
    ∷ an_entry (event.Step (link M T Ctl) 0) answer.Ok (line.Note (note.Set 1 2) ∷ line.Send (link T M Ctl) (flight.Ctl (rec.Rcomp 2)) ∷ [])
    ∷ an_entry (event.Step (link T M Ctl) 0) answer.Ok (line.Send (link M A Ctl) (flight.Ctl (rec.Recfg 2)) ∷ line.Note note.Done ∷ [])
    ∷ an_entry (event.Step (link M A Ctl) 0) answer.Ok []
    ∷ []

sdu_to_the_node_that_is_no_anchor_is_wrong : breaks (a_header Nea0 0 (replicate 32 0)) (before_sdu_to_the_node_that_is_no_anchor ++
    an_entry (event.Submit 1 Dl (170 ∷ [])) answer.Ok (line.Send (link M B Feed) (flight.Sdu 1 2 (170 ∷ [])) ∷ [])
    ∷ []) ≡ licensed ∷ []
unfolding sn window modulus distance count_for data_pdu decoded read_data read_report keystream counter_block stream_blocks report_pdu
sdu_to_the_node_that_is_no_anchor_is_wrong = refl

sdu_to_the_node_that_is_no_anchor_is_right : breaks (a_header Nea0 0 (replicate 32 0)) (before_sdu_to_the_node_that_is_no_anchor ++
    an_entry (event.Submit 1 Dl (170 ∷ [])) answer.Ok (line.Send (link M A Feed) (flight.Sdu 1 2 (170 ∷ [])) ∷ [])
    ∷ []) ≡ []
unfolding sn window modulus distance count_for data_pdu decoded read_data read_report keystream counter_block stream_blocks report_pdu
sdu_to_the_node_that_is_no_anchor_is_right = refl

sdu_twice_for_one_dl_is_wrong : breaks (a_header Nea0 0 (replicate 32 0)) (before_sdu_to_the_node_that_is_no_anchor ++
    an_entry (event.Submit 1 Dl (170 ∷ [])) answer.Ok (line.Send (link M A Feed) (flight.Sdu 1 2 (170 ∷ [])) ∷ line.Send (link M A Feed) (flight.Sdu 1 2 (170 ∷ [])) ∷ [])
    ∷ []) ≡ licensed ∷ []
unfolding sn window modulus distance count_for data_pdu decoded read_data read_report keystream counter_block stream_blocks report_pdu
sdu_twice_for_one_dl_is_wrong = refl

sdu_twice_for_one_dl_is_right : breaks (a_header Nea0 0 (replicate 32 0)) (before_sdu_to_the_node_that_is_no_anchor ++
    an_entry (event.Submit 1 Dl (170 ∷ [])) answer.Ok (line.Send (link M A Feed) (flight.Sdu 1 2 (170 ∷ [])) ∷ [])
    ∷ []) ≡ []
unfolding sn window modulus distance count_for data_pdu decoded read_data read_report keystream counter_block stream_blocks report_pdu
sdu_twice_for_one_dl_is_right = refl

sdu_with_another_payload_is_wrong : breaks (a_header Nea0 0 (replicate 32 0)) (before_sdu_to_the_node_that_is_no_anchor ++
    an_entry (event.Submit 1 Dl (170 ∷ [])) answer.Ok (line.Send (link M A Feed) (flight.Sdu 1 2 (171 ∷ [])) ∷ [])
    ∷ []) ≡ licensed ∷ []
unfolding sn window modulus distance count_for data_pdu decoded read_data read_report keystream counter_block stream_blocks report_pdu
sdu_with_another_payload_is_wrong = refl

sdu_with_another_payload_is_right : breaks (a_header Nea0 0 (replicate 32 0)) (before_sdu_to_the_node_that_is_no_anchor ++
    an_entry (event.Submit 1 Dl (170 ∷ [])) answer.Ok (line.Send (link M A Feed) (flight.Sdu 1 2 (170 ∷ [])) ∷ [])
    ∷ []) ≡ []
unfolding sn window modulus distance count_for data_pdu decoded read_data read_report keystream counter_block stream_blocks report_pdu
sdu_with_another_payload_is_right = refl

sdu_without_a_dl_is_wrong : breaks (a_header Nea0 0 (replicate 32 0)) (before_sdu_to_the_node_that_is_no_anchor ++
    an_entry (event.Submit 1 Ul (170 ∷ [])) answer.Ok (line.Send (link M A Feed) (flight.Sdu 1 2 (170 ∷ [])) ∷ line.Send (link T A Air) (flight.Air 1 2 0 (Some 0) (128 ∷ 0 ∷ 170 ∷ [])) ∷ [])
    ∷ []) ≡ licensed ∷ []
unfolding sn window modulus distance count_for data_pdu decoded read_data read_report keystream counter_block stream_blocks report_pdu
sdu_without_a_dl_is_wrong = refl

sdu_without_a_dl_is_right : breaks (a_header Nea0 0 (replicate 32 0)) (before_sdu_to_the_node_that_is_no_anchor ++
    an_entry (event.Submit 1 Ul (170 ∷ [])) answer.Ok (line.Send (link T A Air) (flight.Air 1 2 0 (Some 0) (128 ∷ 0 ∷ 170 ∷ [])) ∷ [])
    ∷ []) ≡ []
unfolding sn window modulus distance count_for data_pdu decoded read_data read_report keystream counter_block stream_blocks report_pdu
sdu_without_a_dl_is_right = refl

second_answer_to_one_event_is_wrong : breaks (a_header Nea0 0 (replicate 32 0)) (
    an_entry (event.Bearer 1 S12 0 (a_shape false Mcg false) 0 0) answer.Ok (line.Answer (answer.No refusal.Busy) ∷ line.Note (note.Own M 1 1) ∷ line.Send (link M T Ctl) (flight.Ctl (rec.Reconf (a_plan 1 None (Set 1 S12 0 (a_shape false Mcg false) 0 0 (a_key 0 Master) None ∷ [])) [])) ∷ [])
    ∷ []) ≡ consequence ∷ []
unfolding sn window modulus distance count_for data_pdu decoded read_data read_report keystream counter_block stream_blocks report_pdu
second_answer_to_one_event_is_wrong = refl

second_answer_to_one_event_is_right : breaks (a_header Nea0 0 (replicate 32 0)) (
    an_entry (event.Bearer 1 S12 0 (a_shape false Mcg false) 0 0) answer.Ok (line.Note (note.Own M 1 1) ∷ line.Send (link M T Ctl) (flight.Ctl (rec.Reconf (a_plan 1 None (Set 1 S12 0 (a_shape false Mcg false) 0 0 (a_key 0 Master) None ∷ [])) [])) ∷ [])
    ∷ []) ≡ []
unfolding sn window modulus distance count_for data_pdu decoded read_data read_report keystream counter_block stream_blocks report_pdu
second_answer_to_one_event_is_right = refl

-- what comes before
abbrev before_second_copy_of_a_duplicate_handed_up : List Entry
before_second_copy_of_a_duplicate_handed_up =
    an_entry (event.Add A) answer.Ok (line.Send (link M A Ctl) (flight.Ctl (rec.Addreq (a_plan 1 (Some A) []) [])) ∷ [])
    ∷ an_entry (event.Step (link M A Ctl) 0) answer.Ok (line.Note (note.Join A 1) ∷ line.Send (link A M Ctl) (flight.Ctl (rec.Addack 1)) ∷ [])
    ∷ an_entry (event.Step (link A M Ctl) 0) answer.Ok (line.Send (link M T Ctl) (flight.Ctl (rec.Reconf (a_plan 1 (Some A) []) [])) ∷ [])
    ∷ an_entry (event.Step (link M T Ctl) 0) answer.Ok (line.Send (link T M Ctl) (flight.Ctl (rec.Rcomp 1)) ∷ [])
    ∷ an_entry (event.Step (link T M Ctl) 0) answer.Ok (line.Send (link M A Ctl) (flight.Ctl (rec.Recfg 1)) ∷ line.Note note.Done ∷ [])
    ∷ an_entry (event.Step (link M A Ctl) 0) answer.Ok []
    ∷ an_entry (event.Bearer 1 S12 0 (a_shape false (Split cell.Mcg) true) 0 0) answer.Ok (line.Send (link M A Ctl) (flight.Ctl (rec.Modreq (a_plan 2 (Some A) (Set 1 S12 0 (a_shape false (Split cell.Mcg) true) 0 0 (a_key 0 Master) None ∷ [])) [])) ∷ [])
    ∷ an_entry (event.Step (link M A Ctl) 0) answer.Ok (line.Send (link A M Ctl) (flight.Ctl (rec.Modack 2)) ∷ [])
    ∷ an_entry (event.Step (link A M Ctl) 0) answer.Ok (line.Note (note.Own M 1 2) ∷ line.Send (link M T Ctl) (flight.Ctl (rec.Reconf (a_plan 2 (Some A) (Set 1 S12 0 (a_shape false (Split cell.Mcg) true) 0 0 (a_key 0 Master) None ∷ [])) [])) ∷ [])
    ∷ an_entry (event.Step (link M T Ctl) 0) answer.Ok (line.Note (note.Set 1 2) ∷ line.Send (link T M Ctl) (flight.Ctl (rec.Rcomp 2)) ∷ [])
    ∷ an_entry (event.Step (link T M Ctl) 0) answer.Ok (line.Send (link M A Ctl) (flight.Ctl (rec.Recfg 2)) ∷ line.Note note.Done ∷ [])
    ∷ an_entry (event.Step (link M A Ctl) 0) answer.Ok []
    ∷ an_entry (event.Submit 1 Dl (170 ∷ [])) answer.Ok (line.Send (link M T Air) (flight.Air 1 2 0 (Some 0) (128 ∷ 0 ∷ 170 ∷ [])) ∷ line.Send (link M A Tun) (flight.Tun (Some 0) (52 ∷ 255 ∷ 0 ∷ 15 ∷ 0 ∷ 0 ∷ 1 ∷ 0 ∷ 0 ∷ 0 ∷ 0 ∷ 132 ∷ 2 ∷ 1 ∷ 0 ∷ 0 ∷ 0 ∷ 0 ∷ 0 ∷ 0 ∷ 128 ∷ 0 ∷ 170 ∷ [])) ∷ [])
    ∷ an_entry (event.Step (link M T Air) 0) answer.Ok (line.Note (note.Up T 1 Dl 0 (170 ∷ [])) ∷ line.Send (link T M Air) (flight.Ack 1 2 0) ∷ [])
    ∷ an_entry (event.Step (link M A Tun) 0) answer.Ok (line.Send (link A T Air) (flight.Air 1 2 0 (Some 0) (128 ∷ 0 ∷ 170 ∷ [])) ∷ [])
    ∷ []

second_copy_of_a_duplicate_handed_up_is_wrong : breaks (a_header Nea0 0 (replicate 32 0)) (before_second_copy_of_a_duplicate_handed_up ++
    an_entry (event.Step (link A T Air) 0) answer.Ok (line.Note (note.Up T 1 Dl 0 (170 ∷ [])) ∷ line.Send (link T A Air) (flight.Ack 1 2 0) ∷ [])
    ∷ []) ≡ front ∷ windowed ∷ []
unfolding sn window modulus distance count_for data_pdu decoded read_data read_report keystream counter_block stream_blocks report_pdu
second_copy_of_a_duplicate_handed_up_is_wrong = refl

second_copy_of_a_duplicate_handed_up_is_right : breaks (a_header Nea0 0 (replicate 32 0)) (before_second_copy_of_a_duplicate_handed_up ++
    an_entry (event.Step (link A T Air) 0) answer.Ok (line.Send (link T A Air) (flight.Ack 1 2 0) ∷ [])
    ∷ []) ≡ []
unfolding sn window modulus distance count_for data_pdu decoded read_data read_report keystream counter_block stream_blocks report_pdu
second_copy_of_a_duplicate_handed_up_is_right = refl

-- what comes before
abbrev before_send_line_before_the_up_line : List Entry
before_send_line_before_the_up_line =
    an_entry (event.Bearer 1 S12 0 (a_shape false Mcg false) 0 0) answer.Ok (line.Note (note.Own M 1 1) ∷ line.Send (link M T Ctl) (flight.Ctl (rec.Reconf (a_plan 1 None (Set 1 S12 0 (a_shape false Mcg false) 0 0 (a_key 0 Master) None ∷ [])) [])) ∷ [])
    ∷ an_entry (event.Step (link M T Ctl) 0) answer.Ok (line.Note (note.Set 1 1) ∷ line.Send (link T M Ctl) (flight.Ctl (rec.Rcomp 1)) ∷ [])
    ∷ an_entry (event.Step (link T M Ctl) 0) answer.Ok (line.Note note.Done ∷ [])
    ∷ an_entry (event.Submit 1 Dl (104 ∷ 105 ∷ [])) answer.Ok (line.Send (link M T Air) (flight.Air 1 1 0 (Some 0) (128 ∷ 0 ∷ 104 ∷ 105 ∷ [])) ∷ [])
    ∷ []

send_line_before_the_up_line_is_wrong : breaks (a_header Nea0 0 (replicate 32 0)) (before_send_line_before_the_up_line ++
    an_entry (event.Step (link M T Air) 0) answer.Ok (line.Send (link T M Air) (flight.Ack 1 1 0) ∷ line.Note (note.Up T 1 Dl 0 (104 ∷ 105 ∷ [])) ∷ [])
    ∷ []) ≡ ordered ∷ []
unfolding sn window modulus distance count_for data_pdu decoded read_data read_report keystream counter_block stream_blocks report_pdu
send_line_before_the_up_line_is_wrong = refl

send_line_before_the_up_line_is_right : breaks (a_header Nea0 0 (replicate 32 0)) (before_send_line_before_the_up_line ++
    an_entry (event.Step (link M T Air) 0) answer.Ok (line.Note (note.Up T 1 Dl 0 (104 ∷ 105 ∷ [])) ∷ line.Send (link T M Air) (flight.Ack 1 1 0) ∷ [])
    ∷ []) ≡ []
unfolding sn window modulus distance count_for data_pdu decoded read_data read_report keystream counter_block stream_blocks report_pdu
send_line_before_the_up_line_is_right = refl

-- what comes before
abbrev before_sends_of_one_event_out_of_link_order : List Entry
before_sends_of_one_event_out_of_link_order =
    an_entry (event.Add A) answer.Ok (line.Send (link M A Ctl) (flight.Ctl (rec.Addreq (a_plan 1 (Some A) []) [])) ∷ [])
    ∷ an_entry (event.Step (link M A Ctl) 0) answer.Ok (line.Note (note.Join A 1) ∷ line.Send (link A M Ctl) (flight.Ctl (rec.Addack 1)) ∷ [])
    ∷ an_entry (event.Step (link A M Ctl) 0) answer.Ok (line.Send (link M T Ctl) (flight.Ctl (rec.Reconf (a_plan 1 (Some A) []) [])) ∷ [])
    ∷ an_entry (event.Step (link M T Ctl) 0) answer.Ok (line.Send (link T M Ctl) (flight.Ctl (rec.Rcomp 1)) ∷ [])
    ∷ an_entry (event.Step (link T M Ctl) 0) answer.Ok (line.Send (link M A Ctl) (flight.Ctl (rec.Recfg 1)) ∷ line.Note note.Done ∷ [])
    ∷ an_entry (event.Step (link M A Ctl) 0) answer.Ok []
    ∷ an_entry (event.Bearer 1 S12 0 (a_shape false Scg false) 0 0) answer.Ok (line.Send (link M A Ctl) (flight.Ctl (rec.Modreq (a_plan 2 (Some A) (Set 1 S12 0 (a_shape false Scg false) 0 0 (a_key 0 Master) None ∷ [])) [])) ∷ [])
    ∷ an_entry (event.Step (link M A Ctl) 0) answer.Ok (line.Send (link A M Ctl) (flight.Ctl (rec.Modack 2)) ∷ [])
    ∷ an_entry (event.Step (link A M Ctl) 0) answer.Ok (line.Note (note.Own M 1 2) ∷ line.Send (link M T Ctl) (flight.Ctl (rec.Reconf (a_plan 2 (Some A) (Set 1 S12 0 (a_shape false Scg false) 0 0 (a_key 0 Master) None ∷ [])) [])) ∷ [])
    ∷ an_entry (event.Step (link M T Ctl) 0) answer.Ok (line.Note (note.Set 1 2) ∷ line.Send (link T M Ctl) (flight.Ctl (rec.Rcomp 2)) ∷ [])
    ∷ an_entry (event.Step (link T M Ctl) 0) answer.Ok (line.Send (link M A Ctl) (flight.Ctl (rec.Recfg 2)) ∷ line.Note note.Done ∷ [])
    ∷ an_entry (event.Submit 1 Dl (170 ∷ [])) answer.Ok (line.Send (link M A Tun) (flight.Tun (Some 0) (52 ∷ 255 ∷ 0 ∷ 15 ∷ 0 ∷ 0 ∷ 1 ∷ 0 ∷ 0 ∷ 0 ∷ 0 ∷ 132 ∷ 2 ∷ 1 ∷ 0 ∷ 0 ∷ 0 ∷ 0 ∷ 0 ∷ 0 ∷ 128 ∷ 0 ∷ 170 ∷ [])) ∷ [])
    ∷ []

sends_of_one_event_out_of_link_order_is_wrong : breaks (a_header Nea0 0 (replicate 32 0)) (before_sends_of_one_event_out_of_link_order ++
    an_entry (event.Recover 1) answer.Ok (line.Send (link M A Tun) (flight.Tun (Some 0) (52 ∷ 255 ∷ 0 ∷ 15 ∷ 0 ∷ 0 ∷ 1 ∷ 0 ∷ 0 ∷ 0 ∷ 0 ∷ 132 ∷ 2 ∷ 3 ∷ 0 ∷ 0 ∷ 1 ∷ 0 ∷ 0 ∷ 0 ∷ 128 ∷ 0 ∷ 170 ∷ [])) ∷ line.Send (link M T Ctl) (flight.Ctl (rec.Recov 1)) ∷ [])
    ∷ []) ≡ ordered ∷ []
unfolding sn window modulus distance count_for data_pdu decoded read_data read_report keystream counter_block stream_blocks report_pdu
sends_of_one_event_out_of_link_order_is_wrong = refl

sends_of_one_event_out_of_link_order_is_right : breaks (a_header Nea0 0 (replicate 32 0)) (before_sends_of_one_event_out_of_link_order ++
    an_entry (event.Recover 1) answer.Ok (line.Send (link M T Ctl) (flight.Ctl (rec.Recov 1)) ∷ line.Send (link M A Tun) (flight.Tun (Some 0) (52 ∷ 255 ∷ 0 ∷ 15 ∷ 0 ∷ 0 ∷ 1 ∷ 0 ∷ 0 ∷ 0 ∷ 0 ∷ 132 ∷ 2 ∷ 3 ∷ 0 ∷ 0 ∷ 1 ∷ 0 ∷ 0 ∷ 0 ∷ 128 ∷ 0 ∷ 170 ∷ [])) ∷ [])
    ∷ []) ≡ []
unfolding sn window modulus distance count_for data_pdu decoded read_data read_report keystream counter_block stream_blocks report_pdu
sends_of_one_event_out_of_link_order_is_right = refl

-- what comes before
abbrev before_set_with_another_generation : List Entry
before_set_with_another_generation =
    an_entry (event.Bearer 1 S12 0 (a_shape false Mcg false) 0 0) answer.Ok (line.Note (note.Own M 1 1) ∷ line.Send (link M T Ctl) (flight.Ctl (rec.Reconf (a_plan 1 None (Set 1 S12 0 (a_shape false Mcg false) 0 0 (a_key 0 Master) None ∷ [])) [])) ∷ [])
    ∷ []

set_with_another_generation_is_wrong : breaks (a_header Nea0 0 (replicate 32 0)) (before_set_with_another_generation ++
    an_entry (event.Step (link M T Ctl) 0) answer.Ok (line.Note (note.Set 1 2) ∷ line.Send (link T M Ctl) (flight.Ctl (rec.Rcomp 1)) ∷ [])
    ∷ []) ≡ placed ∷ come ∷ []
unfolding sn window modulus distance count_for data_pdu decoded read_data read_report keystream counter_block stream_blocks report_pdu
set_with_another_generation_is_wrong = refl

set_with_another_generation_is_right : breaks (a_header Nea0 0 (replicate 32 0)) (before_set_with_another_generation ++
    an_entry (event.Step (link M T Ctl) 0) answer.Ok (line.Note (note.Set 1 1) ∷ line.Send (link T M Ctl) (flight.Ctl (rec.Rcomp 1)) ∷ [])
    ∷ []) ≡ []
unfolding sn window modulus distance count_for data_pdu decoded read_data read_report keystream counter_block stream_blocks report_pdu
set_with_another_generation_is_right = refl

-- what comes before
abbrev before_snst_passed_on_to_nobody : List Entry
before_snst_passed_on_to_nobody =
    an_entry (event.Add A) answer.Ok (line.Send (link M A Ctl) (flight.Ctl (rec.Addreq (a_plan 1 (Some A) []) [])) ∷ [])
    ∷ an_entry (event.Step (link M A Ctl) 0) answer.Ok (line.Note (note.Join A 1) ∷ line.Send (link A M Ctl) (flight.Ctl (rec.Addack 1)) ∷ [])
    ∷ an_entry (event.Step (link A M Ctl) 0) answer.Ok (line.Send (link M T Ctl) (flight.Ctl (rec.Reconf (a_plan 1 (Some A) []) [])) ∷ [])
    ∷ an_entry (event.Step (link M T Ctl) 0) answer.Ok (line.Send (link T M Ctl) (flight.Ctl (rec.Rcomp 1)) ∷ [])
    ∷ an_entry (event.Step (link T M Ctl) 0) answer.Ok (line.Send (link M A Ctl) (flight.Ctl (rec.Recfg 1)) ∷ line.Note note.Done ∷ [])
    ∷ an_entry (event.Step (link M A Ctl) 0) answer.Ok []
    ∷ an_entry (event.Bearer 1 S12 0 (a_shape true Scg false) 0 0) answer.Ok (line.Send (link M A Ctl) (flight.Ctl (rec.Modreq (a_plan 2 (Some A) (Set 1 S12 0 (a_shape true Scg false) 0 0 (a_key 0 (SecondKey 0)) None ∷ [])) [])) ∷ [])
    ∷ an_entry (event.Step (link M A Ctl) 0) answer.Ok (line.Note (note.Own A 1 2) ∷ line.Send (link A M Ctl) (flight.Ctl (rec.Modack 2)) ∷ [])
    ∷ an_entry (event.Step (link A M Ctl) 0) answer.Ok (line.Send (link M T Ctl) (flight.Ctl (rec.Reconf (a_plan 2 (Some A) (Set 1 S12 0 (a_shape true Scg false) 0 0 (a_key 0 (SecondKey 0)) None ∷ [])) [])) ∷ [])
    ∷ an_entry (event.Step (link M T Ctl) 0) answer.Ok (line.Note (note.Set 1 2) ∷ line.Send (link T M Ctl) (flight.Ctl (rec.Rcomp 2)) ∷ [])
    ∷ an_entry (event.Step (link T M Ctl) 0) answer.Ok (line.Send (link M A Ctl) (flight.Ctl (rec.Recfg 2)) ∷ line.Note note.Done ∷ [])
    ∷ an_entry (event.Step (link M A Ctl) 0) answer.Ok []
    ∷ an_entry (event.Reshape 1 (a_shape false Mcg false)) answer.Ok (line.Send (link M A Ctl) (flight.Ctl (rec.Modreq (a_plan 3 (Some A) (Set 1 S12 0 (a_shape false Mcg false) 0 0 (a_key 0 Master) (Some A) ∷ [])) [])) ∷ [])
    ∷ an_entry (event.Step (link M A Ctl) 0) answer.Ok (line.Note (note.Give A 1 3) ∷ line.Send (link A M Ctl) (flight.Ctl (rec.Modack 3)) ∷ line.Send (link A M Ctl) (flight.Ctl (rec.Snst (a_transfer 3 1 0 [] 0))) ∷ line.Send (link A M Tun) (flight.Tun None (52 ∷ 255 ∷ 0 ∷ 12 ∷ 0 ∷ 0 ∷ 1 ∷ 130 ∷ 0 ∷ 0 ∷ 0 ∷ 132 ∷ 2 ∷ 0 ∷ 0 ∷ 0 ∷ 0 ∷ 0 ∷ 0 ∷ 0 ∷ [])) ∷ line.Send (link A M Tun) (flight.Tun None (48 ∷ 254 ∷ 0 ∷ 0 ∷ 0 ∷ 0 ∷ 1 ∷ 130 ∷ [])) ∷ [])
    ∷ an_entry (event.Step (link A M Ctl) 0) answer.Ok (line.Send (link M T Ctl) (flight.Ctl (rec.Reconf (a_plan 3 (Some A) (Set 1 S12 0 (a_shape false Mcg false) 0 0 (a_key 0 Master) (Some A) ∷ [])) [])) ∷ line.Send (link M A Feed) (flight.End 1 3) ∷ [])
    ∷ []

snst_passed_on_to_nobody_is_wrong : breaks (a_header Nea0 0 (replicate 32 0)) (before_snst_passed_on_to_nobody ++
    an_entry (event.Step (link A M Ctl) 0) answer.Ok (line.Send (link M B Ctl) (flight.Ctl (rec.Snst (a_transfer 3 1 0 [] 0))) ∷ [])
    ∷ []) ≡ licensed ∷ []
unfolding sn window modulus distance count_for data_pdu decoded read_data read_report keystream counter_block stream_blocks report_pdu
snst_passed_on_to_nobody_is_wrong = refl

snst_passed_on_to_nobody_is_right : breaks (a_header Nea0 0 (replicate 32 0)) (before_snst_passed_on_to_nobody ++
    an_entry (event.Step (link A M Ctl) 0) answer.Ok []
    ∷ []) ≡ []
unfolding sn window modulus distance count_for data_pdu decoded read_data read_report keystream counter_block stream_blocks report_pdu
snst_passed_on_to_nobody_is_right = refl

-- what comes before
abbrev before_snst_twice : List Entry
before_snst_twice =
    an_entry (event.Bearer 1 S12 0 (a_shape false Mcg false) 0 0) answer.Ok (line.Note (note.Own M 1 1) ∷ line.Send (link M T Ctl) (flight.Ctl (rec.Reconf (a_plan 1 None (Set 1 S12 0 (a_shape false Mcg false) 0 0 (a_key 0 Master) None ∷ [])) [])) ∷ [])
    ∷ an_entry (event.Step (link M T Ctl) 0) answer.Ok (line.Note (note.Set 1 1) ∷ line.Send (link T M Ctl) (flight.Ctl (rec.Rcomp 1)) ∷ [])
    ∷ an_entry (event.Step (link T M Ctl) 0) answer.Ok (line.Note note.Done ∷ [])
    ∷ an_entry (event.Add A) answer.Ok (line.Send (link M A Ctl) (flight.Ctl (rec.Addreq (a_plan 2 (Some A) []) [])) ∷ [])
    ∷ an_entry (event.Step (link M A Ctl) 0) answer.Ok (line.Note (note.Join A 2) ∷ line.Send (link A M Ctl) (flight.Ctl (rec.Addack 2)) ∷ [])
    ∷ an_entry (event.Step (link A M Ctl) 0) answer.Ok (line.Send (link M T Ctl) (flight.Ctl (rec.Reconf (a_plan 2 (Some A) []) [])) ∷ [])
    ∷ an_entry (event.Step (link M T Ctl) 0) answer.Ok (line.Send (link T M Ctl) (flight.Ctl (rec.Rcomp 2)) ∷ [])
    ∷ an_entry (event.Step (link T M Ctl) 0) answer.Ok (line.Send (link M A Ctl) (flight.Ctl (rec.Recfg 2)) ∷ line.Note note.Done ∷ [])
    ∷ an_entry (event.Reshape 1 (a_shape true Scg false)) answer.Ok (line.Send (link M A Ctl) (flight.Ctl (rec.Modreq (a_plan 3 (Some A) (Set 1 S12 0 (a_shape true Scg false) 0 0 (a_key 0 (SecondKey 0)) (Some M) ∷ [])) [])) ∷ [])
    ∷ an_entry (event.Step (link M A Ctl) 0) answer.Ok []
    ∷ an_entry (event.Step (link M A Ctl) 0) answer.Ok (line.Send (link A M Ctl) (flight.Ctl (rec.Modack 3)) ∷ [])
    ∷ []

snst_twice_is_wrong : breaks (a_header Nea0 0 (replicate 32 0)) (before_snst_twice ++
    an_entry (event.Step (link A M Ctl) 0) answer.Ok (line.Note (note.Give M 1 3) ∷ line.Send (link M T Ctl) (flight.Ctl (rec.Reconf (a_plan 3 (Some A) (Set 1 S12 0 (a_shape true Scg false) 0 0 (a_key 0 (SecondKey 0)) (Some M) ∷ [])) [])) ∷ line.Send (link M A Ctl) (flight.Ctl (rec.Snst (a_transfer 3 1 0 [] 0))) ∷ line.Send (link M A Ctl) (flight.Ctl (rec.Snst (a_transfer 3 1 0 [] 0))) ∷ line.Send (link M A Tun) (flight.Tun None (52 ∷ 255 ∷ 0 ∷ 12 ∷ 0 ∷ 0 ∷ 1 ∷ 129 ∷ 0 ∷ 0 ∷ 0 ∷ 132 ∷ 2 ∷ 0 ∷ 0 ∷ 0 ∷ 0 ∷ 0 ∷ 0 ∷ 0 ∷ [])) ∷ line.Send (link M A Tun) (flight.Tun None (48 ∷ 254 ∷ 0 ∷ 0 ∷ 0 ∷ 0 ∷ 1 ∷ 129 ∷ [])) ∷ line.Send (link M A Tun) (flight.Tun None (52 ∷ 255 ∷ 0 ∷ 12 ∷ 0 ∷ 0 ∷ 1 ∷ 130 ∷ 0 ∷ 0 ∷ 0 ∷ 132 ∷ 2 ∷ 0 ∷ 0 ∷ 0 ∷ 0 ∷ 0 ∷ 0 ∷ 0 ∷ [])) ∷ line.Send (link M A Tun) (flight.Tun None (48 ∷ 254 ∷ 0 ∷ 0 ∷ 0 ∷ 0 ∷ 1 ∷ 130 ∷ [])) ∷ [])
    ∷ []) ≡ licensed ∷ []
unfolding sn window modulus distance count_for data_pdu decoded read_data read_report keystream counter_block stream_blocks report_pdu
snst_twice_is_wrong = refl

snst_twice_is_right : breaks (a_header Nea0 0 (replicate 32 0)) (before_snst_twice ++
    an_entry (event.Step (link A M Ctl) 0) answer.Ok (line.Note (note.Give M 1 3) ∷ line.Send (link M T Ctl) (flight.Ctl (rec.Reconf (a_plan 3 (Some A) (Set 1 S12 0 (a_shape true Scg false) 0 0 (a_key 0 (SecondKey 0)) (Some M) ∷ [])) [])) ∷ line.Send (link M A Ctl) (flight.Ctl (rec.Snst (a_transfer 3 1 0 [] 0))) ∷ line.Send (link M A Tun) (flight.Tun None (52 ∷ 255 ∷ 0 ∷ 12 ∷ 0 ∷ 0 ∷ 1 ∷ 129 ∷ 0 ∷ 0 ∷ 0 ∷ 132 ∷ 2 ∷ 0 ∷ 0 ∷ 0 ∷ 0 ∷ 0 ∷ 0 ∷ 0 ∷ [])) ∷ line.Send (link M A Tun) (flight.Tun None (48 ∷ 254 ∷ 0 ∷ 0 ∷ 0 ∷ 0 ∷ 1 ∷ 129 ∷ [])) ∷ line.Send (link M A Tun) (flight.Tun None (52 ∷ 255 ∷ 0 ∷ 12 ∷ 0 ∷ 0 ∷ 1 ∷ 130 ∷ 0 ∷ 0 ∷ 0 ∷ 132 ∷ 2 ∷ 0 ∷ 0 ∷ 0 ∷ 0 ∷ 0 ∷ 0 ∷ 0 ∷ [])) ∷ line.Send (link M A Tun) (flight.Tun None (48 ∷ 254 ∷ 0 ∷ 0 ∷ 0 ∷ 0 ∷ 1 ∷ 130 ∷ [])) ∷ [])
    ∷ []) ≡ []
unfolding sn window modulus distance count_for data_pdu decoded read_data read_report keystream counter_block stream_blocks report_pdu
snst_twice_is_right = refl

-- what comes before
abbrev before_snst_with_a_dl_that_the_fresh_sdu_contradicts : List Entry
before_snst_with_a_dl_that_the_fresh_sdu_contradicts =
    an_entry (event.Add A) answer.Ok (line.Send (link M A Ctl) (flight.Ctl (rec.Addreq (a_plan 1 (Some A) []) [])) ∷ [])
    ∷ an_entry (event.Step (link M A Ctl) 0) answer.Ok (line.Note (note.Join A 1) ∷ line.Send (link A M Ctl) (flight.Ctl (rec.Addack 1)) ∷ [])
    ∷ an_entry (event.Step (link A M Ctl) 0) answer.Ok (line.Send (link M T Ctl) (flight.Ctl (rec.Reconf (a_plan 1 (Some A) []) [])) ∷ [])
    ∷ an_entry (event.Step (link M T Ctl) 0) answer.Ok (line.Send (link T M Ctl) (flight.Ctl (rec.Rcomp 1)) ∷ [])
    ∷ an_entry (event.Step (link T M Ctl) 0) answer.Ok (line.Send (link M A Ctl) (flight.Ctl (rec.Recfg 1)) ∷ line.Note note.Done ∷ [])
    ∷ an_entry (event.Step (link M A Ctl) 0) answer.Ok []
    ∷ an_entry (event.Bearer 1 S12 0 (a_shape true Scg false) 0 0) answer.Ok (line.Send (link M A Ctl) (flight.Ctl (rec.Modreq (a_plan 2 (Some A) (Set 1 S12 0 (a_shape true Scg false) 0 0 (a_key 0 (SecondKey 0)) None ∷ [])) [])) ∷ [])
    ∷ an_entry (event.Step (link M A Ctl) 0) answer.Ok (line.Note (note.Own A 1 2) ∷ line.Send (link A M Ctl) (flight.Ctl (rec.Modack 2)) ∷ [])
    ∷ an_entry (event.Step (link A M Ctl) 0) answer.Ok (line.Send (link M T Ctl) (flight.Ctl (rec.Reconf (a_plan 2 (Some A) (Set 1 S12 0 (a_shape true Scg false) 0 0 (a_key 0 (SecondKey 0)) None ∷ [])) [])) ∷ [])
    ∷ an_entry (event.Step (link M T Ctl) 0) answer.Ok (line.Note (note.Set 1 2) ∷ line.Send (link T M Ctl) (flight.Ctl (rec.Rcomp 2)) ∷ [])
    ∷ an_entry (event.Step (link T M Ctl) 0) answer.Ok (line.Send (link M A Ctl) (flight.Ctl (rec.Recfg 2)) ∷ line.Note note.Done ∷ [])
    ∷ an_entry (event.Step (link M A Ctl) 0) answer.Ok []
    ∷ an_entry (event.Submit 1 Dl (170 ∷ [])) answer.Ok (line.Send (link M A Feed) (flight.Sdu 1 2 (170 ∷ [])) ∷ [])
    ∷ an_entry (event.Step (link M A Feed) 0) answer.Ok (line.Send (link A T Air) (flight.Air 1 2 0 (Some 0) (128 ∷ 0 ∷ 170 ∷ [])) ∷ [])
    ∷ an_entry (event.Submit 1 Dl (187 ∷ [])) answer.Ok (line.Send (link M A Feed) (flight.Sdu 1 2 (187 ∷ [])) ∷ [])
    ∷ an_entry (event.Reshape 1 (a_shape false Mcg false)) answer.Ok (line.Send (link M A Ctl) (flight.Ctl (rec.Modreq (a_plan 3 (Some A) (Set 1 S12 0 (a_shape false Mcg false) 0 0 (a_key 0 Master) (Some A) ∷ [])) [])) ∷ [])
    ∷ []

snst_with_a_dl_that_the_fresh_sdu_contradicts_is_wrong : breaks (a_header Nea0 0 (replicate 32 0)) (before_snst_with_a_dl_that_the_fresh_sdu_contradicts ++
    an_entry (event.Step (link M A Ctl) 0) answer.Ok (line.Note (note.Give A 1 3) ∷ line.Send (link A M Ctl) (flight.Ctl (rec.Modack 3)) ∷ line.Send (link A M Ctl) (flight.Ctl (rec.Snst (a_transfer 3 1 0 [] 0))) ∷ line.Send (link A M Tun) (flight.Tun None (52 ∷ 255 ∷ 0 ∷ 17 ∷ 0 ∷ 0 ∷ 1 ∷ 129 ∷ 0 ∷ 0 ∷ 0 ∷ 132 ∷ 2 ∷ 1 ∷ 0 ∷ 0 ∷ 0 ∷ 0 ∷ 0 ∷ 192 ∷ 1 ∷ 0 ∷ 0 ∷ 0 ∷ 170 ∷ [])) ∷ line.Send (link A M Tun) (flight.Tun None (52 ∷ 255 ∷ 0 ∷ 12 ∷ 0 ∷ 0 ∷ 1 ∷ 130 ∷ 0 ∷ 0 ∷ 0 ∷ 132 ∷ 2 ∷ 0 ∷ 0 ∷ 0 ∷ 0 ∷ 0 ∷ 0 ∷ 0 ∷ [])) ∷ line.Send (link A M Tun) (flight.Tun None (48 ∷ 254 ∷ 0 ∷ 0 ∷ 0 ∷ 0 ∷ 1 ∷ 130 ∷ [])) ∷ [])
    ∷ an_entry (event.Step (link M A Feed) 0) answer.Ok (line.Send (link A M Tun) (flight.Tun None (52 ∷ 255 ∷ 0 ∷ 13 ∷ 0 ∷ 0 ∷ 1 ∷ 129 ∷ 0 ∷ 0 ∷ 0 ∷ 132 ∷ 2 ∷ 1 ∷ 0 ∷ 0 ∷ 1 ∷ 0 ∷ 0 ∷ 0 ∷ 187 ∷ [])) ∷ [])
    ∷ []) ≡ licensed ∷ []
unfolding sn window modulus distance count_for data_pdu decoded read_data read_report keystream counter_block stream_blocks report_pdu
snst_with_a_dl_that_the_fresh_sdu_contradicts_is_wrong = refl

snst_with_a_dl_that_the_fresh_sdu_contradicts_is_right : breaks (a_header Nea0 0 (replicate 32 0)) (before_snst_with_a_dl_that_the_fresh_sdu_contradicts ++
    an_entry (event.Step (link M A Ctl) 0) answer.Ok (line.Note (note.Give A 1 3) ∷ line.Send (link A M Ctl) (flight.Ctl (rec.Modack 3)) ∷ line.Send (link A M Ctl) (flight.Ctl (rec.Snst (a_transfer 3 1 0 [] 1))) ∷ line.Send (link A M Tun) (flight.Tun None (52 ∷ 255 ∷ 0 ∷ 17 ∷ 0 ∷ 0 ∷ 1 ∷ 129 ∷ 0 ∷ 0 ∷ 0 ∷ 132 ∷ 2 ∷ 1 ∷ 0 ∷ 0 ∷ 0 ∷ 0 ∷ 0 ∷ 192 ∷ 1 ∷ 0 ∷ 0 ∷ 0 ∷ 170 ∷ [])) ∷ line.Send (link A M Tun) (flight.Tun None (52 ∷ 255 ∷ 0 ∷ 12 ∷ 0 ∷ 0 ∷ 1 ∷ 130 ∷ 0 ∷ 0 ∷ 0 ∷ 132 ∷ 2 ∷ 0 ∷ 0 ∷ 0 ∷ 0 ∷ 0 ∷ 0 ∷ 0 ∷ [])) ∷ line.Send (link A M Tun) (flight.Tun None (48 ∷ 254 ∷ 0 ∷ 0 ∷ 0 ∷ 0 ∷ 1 ∷ 130 ∷ [])) ∷ [])
    ∷ an_entry (event.Step (link M A Feed) 0) answer.Ok (line.Send (link A M Tun) (flight.Tun None (52 ∷ 255 ∷ 0 ∷ 13 ∷ 0 ∷ 0 ∷ 1 ∷ 129 ∷ 0 ∷ 0 ∷ 0 ∷ 132 ∷ 2 ∷ 1 ∷ 0 ∷ 0 ∷ 1 ∷ 0 ∷ 0 ∷ 0 ∷ 187 ∷ [])) ∷ [])
    ∷ []) ≡ []
unfolding sn window modulus distance count_for data_pdu decoded read_data read_report keystream counter_block stream_blocks report_pdu
snst_with_a_dl_that_the_fresh_sdu_contradicts_is_right = refl

-- what comes before
abbrev before_snst_with_a_dl_too_small : List Entry
before_snst_with_a_dl_too_small =
    an_entry (event.Bearer 1 S12 0 (a_shape false Mcg false) 0 0) answer.Ok (line.Note (note.Own M 1 1) ∷ line.Send (link M T Ctl) (flight.Ctl (rec.Reconf (a_plan 1 None (Set 1 S12 0 (a_shape false Mcg false) 0 0 (a_key 0 Master) None ∷ [])) [])) ∷ [])
    ∷ an_entry (event.Step (link M T Ctl) 0) answer.Ok (line.Note (note.Set 1 1) ∷ line.Send (link T M Ctl) (flight.Ctl (rec.Rcomp 1)) ∷ [])
    ∷ an_entry (event.Step (link T M Ctl) 0) answer.Ok (line.Note note.Done ∷ [])
    ∷ an_entry (event.Submit 1 Dl (170 ∷ [])) answer.Ok (line.Send (link M T Air) (flight.Air 1 1 0 (Some 0) (128 ∷ 0 ∷ 170 ∷ [])) ∷ [])
    ∷ an_entry (event.Add A) answer.Ok (line.Send (link M A Ctl) (flight.Ctl (rec.Addreq (a_plan 2 (Some A) []) [])) ∷ [])
    ∷ an_entry (event.Step (link M A Ctl) 0) answer.Ok (line.Note (note.Join A 2) ∷ line.Send (link A M Ctl) (flight.Ctl (rec.Addack 2)) ∷ [])
    ∷ an_entry (event.Step (link A M Ctl) 0) answer.Ok (line.Send (link M T Ctl) (flight.Ctl (rec.Reconf (a_plan 2 (Some A) []) [])) ∷ [])
    ∷ an_entry (event.Step (link M T Ctl) 0) answer.Ok (line.Send (link T M Ctl) (flight.Ctl (rec.Rcomp 2)) ∷ [])
    ∷ an_entry (event.Step (link T M Ctl) 0) answer.Ok (line.Send (link M A Ctl) (flight.Ctl (rec.Recfg 2)) ∷ line.Note note.Done ∷ [])
    ∷ an_entry (event.Reshape 1 (a_shape true Scg false)) answer.Ok (line.Send (link M A Ctl) (flight.Ctl (rec.Modreq (a_plan 3 (Some A) (Set 1 S12 0 (a_shape true Scg false) 0 0 (a_key 0 (SecondKey 0)) (Some M) ∷ [])) [])) ∷ [])
    ∷ an_entry (event.Step (link M A Ctl) 0) answer.Ok []
    ∷ an_entry (event.Step (link M A Ctl) 0) answer.Ok (line.Send (link A M Ctl) (flight.Ctl (rec.Modack 3)) ∷ [])
    ∷ []

snst_with_a_dl_too_small_is_wrong : breaks (a_header Nea0 0 (replicate 32 0)) (before_snst_with_a_dl_too_small ++
    an_entry (event.Step (link A M Ctl) 0) answer.Ok (line.Note (note.Give M 1 3) ∷ line.Send (link M T Ctl) (flight.Ctl (rec.Reconf (a_plan 3 (Some A) (Set 1 S12 0 (a_shape true Scg false) 0 0 (a_key 0 (SecondKey 0)) (Some M) ∷ [])) [])) ∷ line.Send (link M A Ctl) (flight.Ctl (rec.Snst (a_transfer 3 1 0 [] 0))) ∷ line.Send (link M A Tun) (flight.Tun None (52 ∷ 255 ∷ 0 ∷ 17 ∷ 0 ∷ 0 ∷ 1 ∷ 129 ∷ 0 ∷ 0 ∷ 0 ∷ 132 ∷ 2 ∷ 1 ∷ 0 ∷ 0 ∷ 0 ∷ 0 ∷ 0 ∷ 192 ∷ 1 ∷ 0 ∷ 0 ∷ 0 ∷ 170 ∷ [])) ∷ line.Send (link M A Tun) (flight.Tun None (52 ∷ 255 ∷ 0 ∷ 12 ∷ 0 ∷ 0 ∷ 1 ∷ 129 ∷ 0 ∷ 0 ∷ 0 ∷ 132 ∷ 2 ∷ 0 ∷ 0 ∷ 0 ∷ 1 ∷ 0 ∷ 0 ∷ 0 ∷ [])) ∷ line.Send (link M A Tun) (flight.Tun None (48 ∷ 254 ∷ 0 ∷ 0 ∷ 0 ∷ 0 ∷ 1 ∷ 129 ∷ [])) ∷ line.Send (link M A Tun) (flight.Tun None (52 ∷ 255 ∷ 0 ∷ 12 ∷ 0 ∷ 0 ∷ 1 ∷ 130 ∷ 0 ∷ 0 ∷ 0 ∷ 132 ∷ 2 ∷ 0 ∷ 0 ∷ 0 ∷ 0 ∷ 0 ∷ 0 ∷ 0 ∷ [])) ∷ line.Send (link M A Tun) (flight.Tun None (48 ∷ 254 ∷ 0 ∷ 0 ∷ 0 ∷ 0 ∷ 1 ∷ 130 ∷ [])) ∷ [])
    ∷ []) ≡ licensed ∷ []
unfolding sn window modulus distance count_for data_pdu decoded read_data read_report keystream counter_block stream_blocks report_pdu
snst_with_a_dl_too_small_is_wrong = refl

snst_with_a_dl_too_small_is_right : breaks (a_header Nea0 0 (replicate 32 0)) (before_snst_with_a_dl_too_small ++
    an_entry (event.Step (link A M Ctl) 0) answer.Ok (line.Note (note.Give M 1 3) ∷ line.Send (link M T Ctl) (flight.Ctl (rec.Reconf (a_plan 3 (Some A) (Set 1 S12 0 (a_shape true Scg false) 0 0 (a_key 0 (SecondKey 0)) (Some M) ∷ [])) [])) ∷ line.Send (link M A Ctl) (flight.Ctl (rec.Snst (a_transfer 3 1 0 [] 1))) ∷ line.Send (link M A Tun) (flight.Tun None (52 ∷ 255 ∷ 0 ∷ 17 ∷ 0 ∷ 0 ∷ 1 ∷ 129 ∷ 0 ∷ 0 ∷ 0 ∷ 132 ∷ 2 ∷ 1 ∷ 0 ∷ 0 ∷ 0 ∷ 0 ∷ 0 ∷ 192 ∷ 1 ∷ 0 ∷ 0 ∷ 0 ∷ 170 ∷ [])) ∷ line.Send (link M A Tun) (flight.Tun None (52 ∷ 255 ∷ 0 ∷ 12 ∷ 0 ∷ 0 ∷ 1 ∷ 129 ∷ 0 ∷ 0 ∷ 0 ∷ 132 ∷ 2 ∷ 0 ∷ 0 ∷ 0 ∷ 1 ∷ 0 ∷ 0 ∷ 0 ∷ [])) ∷ line.Send (link M A Tun) (flight.Tun None (48 ∷ 254 ∷ 0 ∷ 0 ∷ 0 ∷ 0 ∷ 1 ∷ 129 ∷ [])) ∷ line.Send (link M A Tun) (flight.Tun None (52 ∷ 255 ∷ 0 ∷ 12 ∷ 0 ∷ 0 ∷ 1 ∷ 130 ∷ 0 ∷ 0 ∷ 0 ∷ 132 ∷ 2 ∷ 0 ∷ 0 ∷ 0 ∷ 0 ∷ 0 ∷ 0 ∷ 0 ∷ [])) ∷ line.Send (link M A Tun) (flight.Tun None (48 ∷ 254 ∷ 0 ∷ 0 ∷ 0 ∷ 0 ∷ 1 ∷ 130 ∷ [])) ∷ [])
    ∷ []) ≡ []
unfolding sn window modulus distance count_for data_pdu decoded read_data read_report keystream counter_block stream_blocks report_pdu
snst_with_a_dl_too_small_is_right = refl

-- what comes before
abbrev before_snst_with_another_ul : List Entry
before_snst_with_another_ul =
    an_entry (event.Bearer 1 S12 0 (a_shape false Mcg false) 0 0) answer.Ok (line.Note (note.Own M 1 1) ∷ line.Send (link M T Ctl) (flight.Ctl (rec.Reconf (a_plan 1 None (Set 1 S12 0 (a_shape false Mcg false) 0 0 (a_key 0 Master) None ∷ [])) [])) ∷ [])
    ∷ an_entry (event.Step (link M T Ctl) 0) answer.Ok (line.Note (note.Set 1 1) ∷ line.Send (link T M Ctl) (flight.Ctl (rec.Rcomp 1)) ∷ [])
    ∷ an_entry (event.Step (link T M Ctl) 0) answer.Ok (line.Note note.Done ∷ [])
    ∷ an_entry (event.Submit 1 Ul (204 ∷ [])) answer.Ok (line.Send (link T M Air) (flight.Air 1 1 0 (Some 0) (128 ∷ 0 ∷ 204 ∷ [])) ∷ [])
    ∷ an_entry (event.Step (link T M Air) 0) answer.Ok (line.Note (note.Up M 1 Ul 0 (204 ∷ [])) ∷ line.Send (link M T Air) (flight.Ack 1 1 0) ∷ [])
    ∷ an_entry (event.Add A) answer.Ok (line.Send (link M A Ctl) (flight.Ctl (rec.Addreq (a_plan 2 (Some A) []) [])) ∷ [])
    ∷ an_entry (event.Step (link M A Ctl) 0) answer.Ok (line.Note (note.Join A 2) ∷ line.Send (link A M Ctl) (flight.Ctl (rec.Addack 2)) ∷ [])
    ∷ an_entry (event.Step (link A M Ctl) 0) answer.Ok (line.Send (link M T Ctl) (flight.Ctl (rec.Reconf (a_plan 2 (Some A) []) [])) ∷ [])
    ∷ an_entry (event.Step (link M T Ctl) 0) answer.Ok (line.Send (link T M Ctl) (flight.Ctl (rec.Rcomp 2)) ∷ [])
    ∷ an_entry (event.Step (link T M Ctl) 0) answer.Ok (line.Send (link M A Ctl) (flight.Ctl (rec.Recfg 2)) ∷ line.Note note.Done ∷ [])
    ∷ an_entry (event.Reshape 1 (a_shape true Scg false)) answer.Ok (line.Send (link M A Ctl) (flight.Ctl (rec.Modreq (a_plan 3 (Some A) (Set 1 S12 0 (a_shape true Scg false) 0 0 (a_key 0 (SecondKey 0)) (Some M) ∷ [])) [])) ∷ [])
    ∷ an_entry (event.Step (link M A Ctl) 0) answer.Ok []
    ∷ an_entry (event.Step (link M A Ctl) 0) answer.Ok (line.Send (link A M Ctl) (flight.Ctl (rec.Modack 3)) ∷ [])
    ∷ []

snst_with_another_ul_is_wrong : breaks (a_header Nea0 0 (replicate 32 0)) (before_snst_with_another_ul ++
    an_entry (event.Step (link A M Ctl) 0) answer.Ok (line.Note (note.Give M 1 3) ∷ line.Send (link M T Ctl) (flight.Ctl (rec.Reconf (a_plan 3 (Some A) (Set 1 S12 0 (a_shape true Scg false) 0 0 (a_key 0 (SecondKey 0)) (Some M) ∷ [])) [])) ∷ line.Send (link M A Ctl) (flight.Ctl (rec.Snst (a_transfer 3 1 0 [] 0))) ∷ line.Send (link M A Tun) (flight.Tun None (52 ∷ 255 ∷ 0 ∷ 12 ∷ 0 ∷ 0 ∷ 1 ∷ 129 ∷ 0 ∷ 0 ∷ 0 ∷ 132 ∷ 2 ∷ 0 ∷ 0 ∷ 0 ∷ 0 ∷ 0 ∷ 0 ∷ 0 ∷ [])) ∷ line.Send (link M A Tun) (flight.Tun None (48 ∷ 254 ∷ 0 ∷ 0 ∷ 0 ∷ 0 ∷ 1 ∷ 129 ∷ [])) ∷ line.Send (link M A Tun) (flight.Tun None (52 ∷ 255 ∷ 0 ∷ 12 ∷ 0 ∷ 0 ∷ 1 ∷ 130 ∷ 0 ∷ 0 ∷ 0 ∷ 132 ∷ 2 ∷ 0 ∷ 0 ∷ 0 ∷ 0 ∷ 0 ∷ 0 ∷ 0 ∷ [])) ∷ line.Send (link M A Tun) (flight.Tun None (48 ∷ 254 ∷ 0 ∷ 0 ∷ 0 ∷ 0 ∷ 1 ∷ 130 ∷ [])) ∷ [])
    ∷ []) ≡ licensed ∷ []
unfolding sn window modulus distance count_for data_pdu decoded read_data read_report keystream counter_block stream_blocks report_pdu
snst_with_another_ul_is_wrong = refl

snst_with_another_ul_is_right : breaks (a_header Nea0 0 (replicate 32 0)) (before_snst_with_another_ul ++
    an_entry (event.Step (link A M Ctl) 0) answer.Ok (line.Note (note.Give M 1 3) ∷ line.Send (link M T Ctl) (flight.Ctl (rec.Reconf (a_plan 3 (Some A) (Set 1 S12 0 (a_shape true Scg false) 0 0 (a_key 0 (SecondKey 0)) (Some M) ∷ [])) [])) ∷ line.Send (link M A Ctl) (flight.Ctl (rec.Snst (a_transfer 3 1 1 [] 0))) ∷ line.Send (link M A Tun) (flight.Tun None (52 ∷ 255 ∷ 0 ∷ 12 ∷ 0 ∷ 0 ∷ 1 ∷ 129 ∷ 0 ∷ 0 ∷ 0 ∷ 132 ∷ 2 ∷ 0 ∷ 0 ∷ 0 ∷ 0 ∷ 0 ∷ 0 ∷ 0 ∷ [])) ∷ line.Send (link M A Tun) (flight.Tun None (48 ∷ 254 ∷ 0 ∷ 0 ∷ 0 ∷ 0 ∷ 1 ∷ 129 ∷ [])) ∷ line.Send (link M A Tun) (flight.Tun None (52 ∷ 255 ∷ 0 ∷ 12 ∷ 0 ∷ 0 ∷ 1 ∷ 130 ∷ 0 ∷ 0 ∷ 0 ∷ 132 ∷ 2 ∷ 0 ∷ 0 ∷ 0 ∷ 0 ∷ 0 ∷ 0 ∷ 0 ∷ [])) ∷ line.Send (link M A Tun) (flight.Tun None (48 ∷ 254 ∷ 0 ∷ 0 ∷ 0 ∷ 0 ∷ 1 ∷ 130 ∷ [])) ∷ [])
    ∷ []) ≡ []
unfolding sn window modulus distance count_for data_pdu decoded read_data read_report keystream counter_block stream_blocks report_pdu
snst_with_another_ul_is_right = refl

-- what comes before
abbrev before_snst_without_a_move : List Entry
before_snst_without_a_move =
    an_entry (event.Bearer 1 S12 0 (a_shape false Mcg false) 0 0) answer.Ok (line.Note (note.Own M 1 1) ∷ line.Send (link M T Ctl) (flight.Ctl (rec.Reconf (a_plan 1 None (Set 1 S12 0 (a_shape false Mcg false) 0 0 (a_key 0 Master) None ∷ [])) [])) ∷ [])
    ∷ an_entry (event.Step (link M T Ctl) 0) answer.Ok (line.Note (note.Set 1 1) ∷ line.Send (link T M Ctl) (flight.Ctl (rec.Rcomp 1)) ∷ [])
    ∷ an_entry (event.Step (link T M Ctl) 0) answer.Ok (line.Note note.Done ∷ [])
    ∷ []

snst_without_a_move_is_wrong : breaks (a_header Nea0 0 (replicate 32 0)) (before_snst_without_a_move ++
    an_entry (event.RekeyMaster (replicate 32 17)) answer.Ok (line.Note (note.Own M 1 2) ∷ line.Send (link M A Ctl) (flight.Ctl (rec.Snst (a_transfer 2 1 0 [] 0))) ∷ line.Send (link M T Ctl) (flight.Ctl (rec.Reconf (a_plan 2 None (Set 1 S12 0 (a_shape false Mcg false) 0 0 (a_key 1 Master) (Some M) ∷ [])) [])) ∷ [])
    ∷ []) ≡ licensed ∷ ordered ∷ []
unfolding sn window modulus distance count_for data_pdu decoded read_data read_report keystream counter_block stream_blocks report_pdu
snst_without_a_move_is_wrong = refl

snst_without_a_move_is_right : breaks (a_header Nea0 0 (replicate 32 0)) (before_snst_without_a_move ++
    an_entry (event.RekeyMaster (replicate 32 17)) answer.Ok (line.Note (note.Own M 1 2) ∷ line.Send (link M T Ctl) (flight.Ctl (rec.Reconf (a_plan 2 None (Set 1 S12 0 (a_shape false Mcg false) 0 0 (a_key 1 Master) (Some M) ∷ [])) [])) ∷ [])
    ∷ []) ≡ []
unfolding sn window modulus distance count_for data_pdu decoded read_data read_report keystream counter_block stream_blocks report_pdu
snst_without_a_move_is_right = refl

-- what comes before
abbrev before_snst_without_its_bitmap : List Entry
before_snst_without_its_bitmap =
    an_entry (event.Bearer 1 S12 0 (a_shape false Mcg false) 0 0) answer.Ok (line.Note (note.Own M 1 1) ∷ line.Send (link M T Ctl) (flight.Ctl (rec.Reconf (a_plan 1 None (Set 1 S12 0 (a_shape false Mcg false) 0 0 (a_key 0 Master) None ∷ [])) [])) ∷ [])
    ∷ an_entry (event.Step (link M T Ctl) 0) answer.Ok (line.Note (note.Set 1 1) ∷ line.Send (link T M Ctl) (flight.Ctl (rec.Rcomp 1)) ∷ [])
    ∷ an_entry (event.Step (link T M Ctl) 0) answer.Ok (line.Note note.Done ∷ [])
    ∷ an_entry (event.Submit 1 Ul (204 ∷ [])) answer.Ok (line.Send (link T M Air) (flight.Air 1 1 0 (Some 0) (128 ∷ 0 ∷ 204 ∷ [])) ∷ [])
    ∷ an_entry (event.Submit 1 Ul (221 ∷ [])) answer.Ok (line.Send (link T M Air) (flight.Air 1 1 1 (Some 1) (128 ∷ 1 ∷ 221 ∷ [])) ∷ [])
    ∷ an_entry (event.Step (link T M Air) 1) answer.Ok (line.Send (link M T Air) (flight.Ack 1 1 1) ∷ [])
    ∷ an_entry (event.Add A) answer.Ok (line.Send (link M A Ctl) (flight.Ctl (rec.Addreq (a_plan 2 (Some A) []) [])) ∷ [])
    ∷ an_entry (event.Step (link M A Ctl) 0) answer.Ok (line.Note (note.Join A 2) ∷ line.Send (link A M Ctl) (flight.Ctl (rec.Addack 2)) ∷ [])
    ∷ an_entry (event.Step (link A M Ctl) 0) answer.Ok (line.Send (link M T Ctl) (flight.Ctl (rec.Reconf (a_plan 2 (Some A) []) [])) ∷ [])
    ∷ an_entry (event.Step (link M T Ctl) 0) answer.Ok (line.Send (link T M Ctl) (flight.Ctl (rec.Rcomp 2)) ∷ [])
    ∷ an_entry (event.Step (link T M Ctl) 0) answer.Ok (line.Send (link M A Ctl) (flight.Ctl (rec.Recfg 2)) ∷ line.Note note.Done ∷ [])
    ∷ an_entry (event.Reshape 1 (a_shape true Scg false)) answer.Ok (line.Send (link M A Ctl) (flight.Ctl (rec.Modreq (a_plan 3 (Some A) (Set 1 S12 0 (a_shape true Scg false) 0 0 (a_key 0 (SecondKey 0)) (Some M) ∷ [])) [])) ∷ [])
    ∷ an_entry (event.Step (link M A Ctl) 0) answer.Ok []
    ∷ an_entry (event.Step (link M A Ctl) 0) answer.Ok (line.Send (link A M Ctl) (flight.Ctl (rec.Modack 3)) ∷ [])
    ∷ []

snst_without_its_bitmap_is_wrong : breaks (a_header Nea0 0 (replicate 32 0)) (before_snst_without_its_bitmap ++
    an_entry (event.Step (link A M Ctl) 0) answer.Ok (line.Note (note.Give M 1 3) ∷ line.Send (link M T Ctl) (flight.Ctl (rec.Reconf (a_plan 3 (Some A) (Set 1 S12 0 (a_shape true Scg false) 0 0 (a_key 0 (SecondKey 0)) (Some M) ∷ [])) [])) ∷ line.Send (link M A Ctl) (flight.Ctl (rec.Snst (a_transfer 3 1 0 [] 0))) ∷ line.Send (link M A Tun) (flight.Tun None (52 ∷ 255 ∷ 0 ∷ 12 ∷ 0 ∷ 0 ∷ 1 ∷ 129 ∷ 0 ∷ 0 ∷ 0 ∷ 132 ∷ 2 ∷ 0 ∷ 0 ∷ 0 ∷ 0 ∷ 0 ∷ 0 ∷ 0 ∷ [])) ∷ line.Send (link M A Tun) (flight.Tun None (48 ∷ 254 ∷ 0 ∷ 0 ∷ 0 ∷ 0 ∷ 1 ∷ 129 ∷ [])) ∷ line.Send (link M A Tun) (flight.Tun None (52 ∷ 255 ∷ 0 ∷ 17 ∷ 0 ∷ 0 ∷ 1 ∷ 130 ∷ 0 ∷ 0 ∷ 0 ∷ 132 ∷ 2 ∷ 1 ∷ 0 ∷ 0 ∷ 0 ∷ 0 ∷ 0 ∷ 192 ∷ 1 ∷ 0 ∷ 1 ∷ 0 ∷ 221 ∷ [])) ∷ line.Send (link M A Tun) (flight.Tun None (52 ∷ 255 ∷ 0 ∷ 12 ∷ 0 ∷ 0 ∷ 1 ∷ 130 ∷ 0 ∷ 0 ∷ 0 ∷ 132 ∷ 2 ∷ 0 ∷ 0 ∷ 0 ∷ 1 ∷ 0 ∷ 0 ∷ 0 ∷ [])) ∷ line.Send (link M A Tun) (flight.Tun None (48 ∷ 254 ∷ 0 ∷ 0 ∷ 0 ∷ 0 ∷ 1 ∷ 130 ∷ [])) ∷ [])
    ∷ []) ≡ licensed ∷ []
unfolding sn window modulus distance count_for data_pdu decoded read_data read_report keystream counter_block stream_blocks report_pdu
snst_without_its_bitmap_is_wrong = refl

snst_without_its_bitmap_is_right : breaks (a_header Nea0 0 (replicate 32 0)) (before_snst_without_its_bitmap ++
    an_entry (event.Step (link A M Ctl) 0) answer.Ok (line.Note (note.Give M 1 3) ∷ line.Send (link M T Ctl) (flight.Ctl (rec.Reconf (a_plan 3 (Some A) (Set 1 S12 0 (a_shape true Scg false) 0 0 (a_key 0 (SecondKey 0)) (Some M) ∷ [])) [])) ∷ line.Send (link M A Ctl) (flight.Ctl (rec.Snst (a_transfer 3 1 0 (128 ∷ []) 0))) ∷ line.Send (link M A Tun) (flight.Tun None (52 ∷ 255 ∷ 0 ∷ 12 ∷ 0 ∷ 0 ∷ 1 ∷ 129 ∷ 0 ∷ 0 ∷ 0 ∷ 132 ∷ 2 ∷ 0 ∷ 0 ∷ 0 ∷ 0 ∷ 0 ∷ 0 ∷ 0 ∷ [])) ∷ line.Send (link M A Tun) (flight.Tun None (48 ∷ 254 ∷ 0 ∷ 0 ∷ 0 ∷ 0 ∷ 1 ∷ 129 ∷ [])) ∷ line.Send (link M A Tun) (flight.Tun None (52 ∷ 255 ∷ 0 ∷ 17 ∷ 0 ∷ 0 ∷ 1 ∷ 130 ∷ 0 ∷ 0 ∷ 0 ∷ 132 ∷ 2 ∷ 1 ∷ 0 ∷ 0 ∷ 0 ∷ 0 ∷ 0 ∷ 192 ∷ 1 ∷ 0 ∷ 1 ∷ 0 ∷ 221 ∷ [])) ∷ line.Send (link M A Tun) (flight.Tun None (52 ∷ 255 ∷ 0 ∷ 12 ∷ 0 ∷ 0 ∷ 1 ∷ 130 ∷ 0 ∷ 0 ∷ 0 ∷ 132 ∷ 2 ∷ 0 ∷ 0 ∷ 0 ∷ 1 ∷ 0 ∷ 0 ∷ 0 ∷ [])) ∷ line.Send (link M A Tun) (flight.Tun None (48 ∷ 254 ∷ 0 ∷ 0 ∷ 0 ∷ 0 ∷ 1 ∷ 130 ∷ [])) ∷ [])
    ∷ []) ≡ []
unfolding sn window modulus distance count_for data_pdu decoded read_data read_report keystream counter_block stream_blocks report_pdu
snst_without_its_bitmap_is_right = refl

step_of_a_pdu_without_its_ack_is_wrong : breaks (a_header Nea0 0 (replicate 32 0)) (before_send_line_before_the_up_line ++
    an_entry (event.Step (link M T Air) 0) answer.Ok (line.Note (note.Up T 1 Dl 0 (104 ∷ 105 ∷ [])) ∷ [])
    ∷ []) ≡ come ∷ []
unfolding sn window modulus distance count_for data_pdu decoded read_data read_report keystream counter_block stream_blocks report_pdu
step_of_a_pdu_without_its_ack_is_wrong = refl

step_of_a_pdu_without_its_ack_is_right : breaks (a_header Nea0 0 (replicate 32 0)) (before_send_line_before_the_up_line ++
    an_entry (event.Step (link M T Air) 0) answer.Ok (line.Note (note.Up T 1 Dl 0 (104 ∷ 105 ∷ [])) ∷ line.Send (link T M Air) (flight.Ack 1 1 0) ∷ [])
    ∷ []) ≡ []
unfolding sn window modulus distance count_for data_pdu decoded read_data read_report keystream counter_block stream_blocks report_pdu
step_of_a_pdu_without_its_ack_is_right = refl

-- what comes before
abbrev before_stronger_loss_of_another_bearer : List Entry
before_stronger_loss_of_another_bearer =
    an_entry (event.Add A) answer.Ok (line.Send (link M A Ctl) (flight.Ctl (rec.Addreq (a_plan 1 (Some A) []) [])) ∷ [])
    ∷ an_entry (event.Step (link M A Ctl) 0) answer.Ok (line.Note (note.Join A 1) ∷ line.Send (link A M Ctl) (flight.Ctl (rec.Addack 1)) ∷ [])
    ∷ an_entry (event.Step (link A M Ctl) 0) answer.Ok (line.Send (link M T Ctl) (flight.Ctl (rec.Reconf (a_plan 1 (Some A) []) [])) ∷ [])
    ∷ an_entry (event.Step (link M T Ctl) 0) answer.Ok (line.Send (link T M Ctl) (flight.Ctl (rec.Rcomp 1)) ∷ [])
    ∷ an_entry (event.Step (link T M Ctl) 0) answer.Ok (line.Send (link M A Ctl) (flight.Ctl (rec.Recfg 1)) ∷ line.Note note.Done ∷ [])
    ∷ an_entry (event.Step (link M A Ctl) 0) answer.Ok []
    ∷ an_entry (event.Bearer 2 S12 0 (a_shape false Scg false) 0 0) answer.Ok (line.Send (link M A Ctl) (flight.Ctl (rec.Modreq (a_plan 2 (Some A) (Set 2 S12 0 (a_shape false Scg false) 0 0 (a_key 0 Master) None ∷ [])) [])) ∷ [])
    ∷ an_entry (event.Step (link M A Ctl) 0) answer.Ok (line.Send (link A M Ctl) (flight.Ctl (rec.Modack 2)) ∷ [])
    ∷ an_entry (event.Step (link A M Ctl) 0) answer.Ok (line.Note (note.Own M 2 2) ∷ line.Send (link M T Ctl) (flight.Ctl (rec.Reconf (a_plan 2 (Some A) (Set 2 S12 0 (a_shape false Scg false) 0 0 (a_key 0 Master) None ∷ [])) [])) ∷ [])
    ∷ an_entry (event.Step (link M T Ctl) 0) answer.Ok (line.Note (note.Set 2 2) ∷ line.Send (link T M Ctl) (flight.Ctl (rec.Rcomp 2)) ∷ [])
    ∷ an_entry (event.Step (link T M Ctl) 0) answer.Ok (line.Send (link M A Ctl) (flight.Ctl (rec.Recfg 2)) ∷ line.Note note.Done ∷ [])
    ∷ an_entry (event.Step (link M A Ctl) 0) answer.Ok []
    ∷ an_entry (event.Bearer 1 S12 0 (a_shape false Mcg false) 0 0) answer.Ok (line.Note (note.Own M 1 3) ∷ line.Send (link M T Ctl) (flight.Ctl (rec.Reconf (a_plan 3 (Some A) (Set 1 S12 0 (a_shape false Mcg false) 0 0 (a_key 0 Master) None ∷ [])) [])) ∷ [])
    ∷ an_entry (event.Step (link M T Ctl) 0) answer.Ok (line.Note (note.Set 1 3) ∷ line.Send (link T M Ctl) (flight.Ctl (rec.Rcomp 3)) ∷ [])
    ∷ an_entry (event.Step (link T M Ctl) 0) answer.Ok (line.Note note.Done ∷ [])
    ∷ an_entry (event.Submit 2 Dl (187 ∷ [])) answer.Ok (line.Send (link M A Tun) (flight.Tun (Some 0) (52 ∷ 255 ∷ 0 ∷ 15 ∷ 0 ∷ 0 ∷ 1 ∷ 4 ∷ 0 ∷ 0 ∷ 0 ∷ 132 ∷ 2 ∷ 1 ∷ 0 ∷ 0 ∷ 0 ∷ 0 ∷ 0 ∷ 0 ∷ 128 ∷ 0 ∷ 187 ∷ [])) ∷ [])
    ∷ an_entry (event.Lose (link M A Tun) 0) answer.Ok []
    ∷ []

stronger_loss_of_another_bearer_is_wrong : breaks (a_header Nea0 0 (replicate 32 0)) (before_stronger_loss_of_another_bearer ++
    an_entry (event.Submit 1 Dl (170 ∷ [])) answer.Ok []
    ∷ []) ≡ come ∷ all_of_it ∷ []
unfolding sn window modulus distance count_for data_pdu decoded read_data read_report keystream counter_block stream_blocks report_pdu
stronger_loss_of_another_bearer_is_wrong = refl

stronger_loss_of_another_bearer_is_right : breaks (a_header Nea0 0 (replicate 32 0)) (before_stronger_loss_of_another_bearer ++
    an_entry (event.Submit 1 Dl (170 ∷ [])) answer.Ok (line.Send (link M T Air) (flight.Air 1 3 0 (Some 0) (128 ∷ 0 ∷ 170 ∷ [])) ∷ [])
    ∷ []) ≡ []
unfolding sn window modulus distance count_for data_pdu decoded read_data read_report keystream counter_block stream_blocks report_pdu
stronger_loss_of_another_bearer_is_right = refl

-- what comes before
abbrev before_stronger_other_command_after_the_recover : List Entry
before_stronger_other_command_after_the_recover =
    an_entry (event.Bearer 1 S12 0 (a_shape false Mcg false) 0 0) answer.Ok (line.Note (note.Own M 1 1) ∷ line.Send (link M T Ctl) (flight.Ctl (rec.Reconf (a_plan 1 None (Set 1 S12 0 (a_shape false Mcg false) 0 0 (a_key 0 Master) None ∷ [])) [])) ∷ [])
    ∷ an_entry (event.Step (link M T Ctl) 0) answer.Ok (line.Note (note.Set 1 1) ∷ line.Send (link T M Ctl) (flight.Ctl (rec.Rcomp 1)) ∷ [])
    ∷ an_entry (event.Step (link T M Ctl) 0) answer.Ok (line.Note note.Done ∷ [])
    ∷ an_entry (event.RekeyMaster (replicate 32 17)) answer.Ok (line.Note (note.Own M 1 2) ∷ line.Send (link M T Ctl) (flight.Ctl (rec.Reconf (a_plan 2 None (Set 1 S12 0 (a_shape false Mcg false) 0 0 (a_key 1 Master) (Some M) ∷ [])) [])) ∷ [])
    ∷ an_entry (event.Step (link M T Ctl) 0) answer.Ok (line.Note (note.Set 1 2) ∷ line.Send (link T M Ctl) (flight.Ctl (rec.Rcomp 2)) ∷ [])
    ∷ an_entry (event.Step (link T M Ctl) 0) answer.Ok (line.Note note.Done ∷ [])
    ∷ an_entry (event.Recover 1) answer.Ok (line.Send (link M T Ctl) (flight.Ctl (rec.Recov 1)) ∷ [])
    ∷ an_entry (event.Step (link M T Ctl) 0) answer.Ok (line.Send (link T M Ctl) (flight.Ctl (rec.Recovd 1)) ∷ [])
    ∷ an_entry (event.Step (link T M Ctl) 0) answer.Ok (line.Note note.Done ∷ [])
    ∷ an_entry (event.Add A) answer.Ok (line.Send (link M A Ctl) (flight.Ctl (rec.Addreq (a_plan 3 (Some A) []) [])) ∷ [])
    ∷ an_entry (event.Step (link M A Ctl) 0) answer.Ok (line.Note (note.Join A 3) ∷ line.Send (link A M Ctl) (flight.Ctl (rec.Addack 3)) ∷ [])
    ∷ an_entry (event.Step (link A M Ctl) 0) answer.Ok (line.Send (link M T Ctl) (flight.Ctl (rec.Reconf (a_plan 3 (Some A) []) [])) ∷ [])
    ∷ an_entry (event.Step (link M T Ctl) 0) answer.Ok (line.Send (link T M Ctl) (flight.Ctl (rec.Rcomp 3)) ∷ [])
    ∷ an_entry (event.Step (link T M Ctl) 0) answer.Ok (line.Send (link M A Ctl) (flight.Ctl (rec.Recfg 3)) ∷ line.Note note.Done ∷ [])
    ∷ an_entry (event.Step (link M A Ctl) 0) answer.Ok []
    ∷ []

stronger_other_command_after_the_recover_is_wrong : breaks (a_header Nea0 0 (replicate 32 0)) (before_stronger_other_command_after_the_recover ++
    an_entry (event.Submit 1 Dl (170 ∷ [])) answer.Ok []
    ∷ []) ≡ come ∷ all_of_it ∷ []
unfolding sn window modulus distance count_for data_pdu decoded read_data read_report keystream counter_block stream_blocks report_pdu
stronger_other_command_after_the_recover_is_wrong = refl

stronger_other_command_after_the_recover_is_right : breaks (a_header Nea0 0 (replicate 32 0)) (before_stronger_other_command_after_the_recover ++
    an_entry (event.Submit 1 Dl (170 ∷ [])) answer.Ok (line.Send (link M T Air) (flight.Air 1 2 0 (Some 0) (128 ∷ 0 ∷ 170 ∷ [])) ∷ [])
    ∷ []) ≡ []
unfolding sn window modulus distance count_for data_pdu decoded read_data read_report keystream counter_block stream_blocks report_pdu
stronger_other_command_after_the_recover_is_right = refl

-- what comes before
abbrev before_stronger_rejected_plan_that_would_set_the_bearer : List Entry
before_stronger_rejected_plan_that_would_set_the_bearer =
    an_entry (event.Bearer 1 S12 0 (a_shape false Mcg false) 0 0) answer.Ok (line.Note (note.Own M 1 1) ∷ line.Send (link M T Ctl) (flight.Ctl (rec.Reconf (a_plan 1 None (Set 1 S12 0 (a_shape false Mcg false) 0 0 (a_key 0 Master) None ∷ [])) [])) ∷ [])
    ∷ an_entry (event.Step (link M T Ctl) 0) answer.Ok (line.Note (note.Set 1 1) ∷ line.Send (link T M Ctl) (flight.Ctl (rec.Rcomp 1)) ∷ [])
    ∷ an_entry (event.Step (link T M Ctl) 0) answer.Ok (line.Note note.Done ∷ [])
    ∷ an_entry (event.Add A) answer.Ok (line.Send (link M A Ctl) (flight.Ctl (rec.Addreq (a_plan 2 (Some A) []) [])) ∷ [])
    ∷ an_entry (event.Step (link M A Ctl) 0) answer.Ok (line.Note (note.Join A 2) ∷ line.Send (link A M Ctl) (flight.Ctl (rec.Addack 2)) ∷ [])
    ∷ an_entry (event.Step (link A M Ctl) 0) answer.Ok (line.Send (link M T Ctl) (flight.Ctl (rec.Reconf (a_plan 2 (Some A) []) [])) ∷ [])
    ∷ an_entry (event.Step (link M T Ctl) 0) answer.Ok (line.Send (link T M Ctl) (flight.Ctl (rec.Rcomp 2)) ∷ [])
    ∷ an_entry (event.Step (link T M Ctl) 0) answer.Ok (line.Send (link M A Ctl) (flight.Ctl (rec.Recfg 2)) ∷ line.Note note.Done ∷ [])
    ∷ an_entry (event.Step (link M A Ctl) 0) answer.Ok []
    ∷ an_entry (event.Deny A true) answer.Ok []
    ∷ an_entry (event.Reshape 1 (a_shape false Scg false)) answer.Ok (line.Send (link M A Ctl) (flight.Ctl (rec.Modreq (a_plan 3 (Some A) (Set 1 S12 0 (a_shape false Scg false) 0 0 (a_key 0 Master) (Some M) ∷ [])) [])) ∷ [])
    ∷ an_entry (event.Step (link M A Ctl) 0) answer.Ok (line.Send (link A M Ctl) (flight.Ctl (rec.Modrej 3)) ∷ [])
    ∷ an_entry (event.Step (link A M Ctl) 0) answer.Ok (line.Note note.Rejected ∷ [])
    ∷ []

stronger_rejected_plan_that_would_set_the_bearer_is_wrong : breaks (a_header Nea0 0 (replicate 32 0)) (before_stronger_rejected_plan_that_would_set_the_bearer ++
    an_entry (event.Submit 1 Dl (170 ∷ [])) answer.Ok []
    ∷ []) ≡ come ∷ all_of_it ∷ []
unfolding sn window modulus distance count_for data_pdu decoded read_data read_report keystream counter_block stream_blocks report_pdu
stronger_rejected_plan_that_would_set_the_bearer_is_wrong = refl

stronger_rejected_plan_that_would_set_the_bearer_is_right : breaks (a_header Nea0 0 (replicate 32 0)) (before_stronger_rejected_plan_that_would_set_the_bearer ++
    an_entry (event.Submit 1 Dl (170 ∷ [])) answer.Ok (line.Send (link M T Air) (flight.Air 1 1 0 (Some 0) (128 ∷ 0 ∷ 170 ∷ [])) ∷ [])
    ∷ []) ≡ []
unfolding sn window modulus distance count_for data_pdu decoded read_data read_report keystream counter_block stream_blocks report_pdu
stronger_rejected_plan_that_would_set_the_bearer_is_right = refl

-- what comes before
abbrev before_stronger_scgfail_that_fails_no_leg_of_the_bearer : List Entry
before_stronger_scgfail_that_fails_no_leg_of_the_bearer =
    an_entry (event.Add A) answer.Ok (line.Send (link M A Ctl) (flight.Ctl (rec.Addreq (a_plan 1 (Some A) []) [])) ∷ [])
    ∷ an_entry (event.Step (link M A Ctl) 0) answer.Ok (line.Note (note.Join A 1) ∷ line.Send (link A M Ctl) (flight.Ctl (rec.Addack 1)) ∷ [])
    ∷ an_entry (event.Step (link A M Ctl) 0) answer.Ok (line.Send (link M T Ctl) (flight.Ctl (rec.Reconf (a_plan 1 (Some A) []) [])) ∷ [])
    ∷ an_entry (event.Step (link M T Ctl) 0) answer.Ok (line.Send (link T M Ctl) (flight.Ctl (rec.Rcomp 1)) ∷ [])
    ∷ an_entry (event.Step (link T M Ctl) 0) answer.Ok (line.Send (link M A Ctl) (flight.Ctl (rec.Recfg 1)) ∷ line.Note note.Done ∷ [])
    ∷ an_entry (event.Step (link M A Ctl) 0) answer.Ok []
    ∷ an_entry (event.Bearer 1 S12 0 (a_shape false Mcg false) 0 0) answer.Ok (line.Note (note.Own M 1 2) ∷ line.Send (link M T Ctl) (flight.Ctl (rec.Reconf (a_plan 2 (Some A) (Set 1 S12 0 (a_shape false Mcg false) 0 0 (a_key 0 Master) None ∷ [])) [])) ∷ [])
    ∷ an_entry (event.Step (link M T Ctl) 0) answer.Ok (line.Note (note.Set 1 2) ∷ line.Send (link T M Ctl) (flight.Ctl (rec.Rcomp 2)) ∷ [])
    ∷ an_entry (event.Step (link T M Ctl) 0) answer.Ok (line.Note note.Done ∷ [])
    ∷ an_entry (event.ScgFail) answer.Ok (line.Send (link T M Ctl) (flight.Ctl (rec.Scgf [])) ∷ [])
    ∷ an_entry (event.Step (link T M Ctl) 0) answer.Ok []
    ∷ []

stronger_scgfail_that_fails_no_leg_of_the_bearer_is_wrong : breaks (a_header Nea0 0 (replicate 32 0)) (before_stronger_scgfail_that_fails_no_leg_of_the_bearer ++
    an_entry (event.Submit 1 Dl (170 ∷ [])) answer.Ok []
    ∷ []) ≡ come ∷ all_of_it ∷ []
unfolding sn window modulus distance count_for data_pdu decoded read_data read_report keystream counter_block stream_blocks report_pdu
stronger_scgfail_that_fails_no_leg_of_the_bearer_is_wrong = refl

stronger_scgfail_that_fails_no_leg_of_the_bearer_is_right : breaks (a_header Nea0 0 (replicate 32 0)) (before_stronger_scgfail_that_fails_no_leg_of_the_bearer ++
    an_entry (event.Submit 1 Dl (170 ∷ [])) answer.Ok (line.Send (link M T Air) (flight.Air 1 2 0 (Some 0) (128 ∷ 0 ∷ 170 ∷ [])) ∷ [])
    ∷ []) ≡ []
unfolding sn window modulus distance count_for data_pdu decoded read_data read_report keystream counter_block stream_blocks report_pdu
stronger_scgfail_that_fails_no_leg_of_the_bearer_is_right = refl

-- what comes before
abbrev before_told_between_drop_and_its_go_is_ignored : List Entry
before_told_between_drop_and_its_go_is_ignored =
    an_entry (event.Add A) answer.Ok (line.Send (link M A Ctl) (flight.Ctl (rec.Addreq (a_plan 1 (Some A) []) [])) ∷ [])
    ∷ an_entry (event.Step (link M A Ctl) 0) answer.Ok (line.Note (note.Join A 1) ∷ line.Send (link A M Ctl) (flight.Ctl (rec.Addack 1)) ∷ [])
    ∷ an_entry (event.Step (link A M Ctl) 0) answer.Ok (line.Send (link M T Ctl) (flight.Ctl (rec.Reconf (a_plan 1 (Some A) []) [])) ∷ [])
    ∷ an_entry (event.Step (link M T Ctl) 0) answer.Ok (line.Send (link T M Ctl) (flight.Ctl (rec.Rcomp 1)) ∷ [])
    ∷ an_entry (event.Step (link T M Ctl) 0) answer.Ok (line.Send (link M A Ctl) (flight.Ctl (rec.Recfg 1)) ∷ line.Note note.Done ∷ [])
    ∷ an_entry (event.Step (link M A Ctl) 0) answer.Ok []
    ∷ an_entry (event.Bearer 1 S12 0 (a_shape true Scg false) 0 0) answer.Ok (line.Send (link M A Ctl) (flight.Ctl (rec.Modreq (a_plan 2 (Some A) (Set 1 S12 0 (a_shape true Scg false) 0 0 (a_key 0 (SecondKey 0)) None ∷ [])) [])) ∷ [])
    ∷ an_entry (event.Step (link M A Ctl) 0) answer.Ok (line.Note (note.Own A 1 2) ∷ line.Send (link A M Ctl) (flight.Ctl (rec.Modack 2)) ∷ [])
    ∷ an_entry (event.Step (link A M Ctl) 0) answer.Ok (line.Send (link M T Ctl) (flight.Ctl (rec.Reconf (a_plan 2 (Some A) (Set 1 S12 0 (a_shape true Scg false) 0 0 (a_key 0 (SecondKey 0)) None ∷ [])) [])) ∷ [])
    ∷ an_entry (event.Step (link M T Ctl) 0) answer.Ok (line.Note (note.Set 1 2) ∷ line.Send (link T M Ctl) (flight.Ctl (rec.Rcomp 2)) ∷ [])
    ∷ an_entry (event.Step (link T M Ctl) 0) answer.Ok (line.Send (link M A Ctl) (flight.Ctl (rec.Recfg 2)) ∷ line.Note note.Done ∷ [])
    ∷ an_entry (event.Step (link M A Ctl) 0) answer.Ok []
    ∷ an_entry (event.Submit 1 Dl (170 ∷ [])) answer.Ok (line.Send (link M A Feed) (flight.Sdu 1 2 (170 ∷ [])) ∷ [])
    ∷ an_entry (event.Step (link M A Feed) 0) answer.Ok (line.Send (link A T Air) (flight.Air 1 2 0 (Some 0) (128 ∷ 0 ∷ 170 ∷ [])) ∷ [])
    ∷ an_entry (event.Step (link A T Air) 0) answer.Ok (line.Note (note.Up T 1 Dl 0 (170 ∷ [])) ∷ line.Send (link T A Air) (flight.Ack 1 2 0) ∷ [])
    ∷ an_entry (event.Step (link T A Air) 0) answer.Ok (line.Send (link A M Feed) (flight.Told 1 2 1) ∷ [])
    ∷ an_entry (event.Remove 1) answer.Ok (line.Send (link M A Ctl) (flight.Ctl (rec.Modreq (a_plan 3 (Some A) (Unset 1 ∷ [])) [])) ∷ [])
    ∷ []

told_between_drop_and_its_go_is_ignored_is_wrong : breaks (a_header Nea0 0 (replicate 32 0)) (before_told_between_drop_and_its_go_is_ignored ++
    an_entry (event.Step (link A M Feed) 0) answer.Ok []
    ∷ []) ≡ told ∷ []
unfolding sn window modulus distance count_for data_pdu decoded read_data read_report keystream counter_block stream_blocks report_pdu
told_between_drop_and_its_go_is_ignored_is_wrong = refl

told_between_drop_and_its_go_is_ignored_is_right : breaks (a_header Nea0 0 (replicate 32 0)) (before_told_between_drop_and_its_go_is_ignored ++
    an_entry (event.Step (link A M Feed) 0) answer.Ok (line.Note (note.Freed 1 Dl 1) ∷ [])
    ∷ []) ≡ []
unfolding sn window modulus distance count_for data_pdu decoded read_data read_report keystream counter_block stream_blocks report_pdu
told_between_drop_and_its_go_is_ignored_is_right = refl

-- what comes before
abbrev before_told_missing_where_low_rises_at_a_secondary : List Entry
before_told_missing_where_low_rises_at_a_secondary =
    an_entry (event.Add A) answer.Ok (line.Send (link M A Ctl) (flight.Ctl (rec.Addreq (a_plan 1 (Some A) []) [])) ∷ [])
    ∷ an_entry (event.Step (link M A Ctl) 0) answer.Ok (line.Note (note.Join A 1) ∷ line.Send (link A M Ctl) (flight.Ctl (rec.Addack 1)) ∷ [])
    ∷ an_entry (event.Step (link A M Ctl) 0) answer.Ok (line.Send (link M T Ctl) (flight.Ctl (rec.Reconf (a_plan 1 (Some A) []) [])) ∷ [])
    ∷ an_entry (event.Step (link M T Ctl) 0) answer.Ok (line.Send (link T M Ctl) (flight.Ctl (rec.Rcomp 1)) ∷ [])
    ∷ an_entry (event.Step (link T M Ctl) 0) answer.Ok (line.Send (link M A Ctl) (flight.Ctl (rec.Recfg 1)) ∷ line.Note note.Done ∷ [])
    ∷ an_entry (event.Step (link M A Ctl) 0) answer.Ok []
    ∷ an_entry (event.Bearer 1 S12 0 (a_shape true Scg false) 0 0) answer.Ok (line.Send (link M A Ctl) (flight.Ctl (rec.Modreq (a_plan 2 (Some A) (Set 1 S12 0 (a_shape true Scg false) 0 0 (a_key 0 (SecondKey 0)) None ∷ [])) [])) ∷ [])
    ∷ an_entry (event.Step (link M A Ctl) 0) answer.Ok (line.Note (note.Own A 1 2) ∷ line.Send (link A M Ctl) (flight.Ctl (rec.Modack 2)) ∷ [])
    ∷ an_entry (event.Step (link A M Ctl) 0) answer.Ok (line.Send (link M T Ctl) (flight.Ctl (rec.Reconf (a_plan 2 (Some A) (Set 1 S12 0 (a_shape true Scg false) 0 0 (a_key 0 (SecondKey 0)) None ∷ [])) [])) ∷ [])
    ∷ an_entry (event.Step (link M T Ctl) 0) answer.Ok (line.Note (note.Set 1 2) ∷ line.Send (link T M Ctl) (flight.Ctl (rec.Rcomp 2)) ∷ [])
    ∷ an_entry (event.Step (link T M Ctl) 0) answer.Ok (line.Send (link M A Ctl) (flight.Ctl (rec.Recfg 2)) ∷ line.Note note.Done ∷ [])
    ∷ an_entry (event.Step (link M A Ctl) 0) answer.Ok []
    ∷ an_entry (event.Submit 1 Dl (170 ∷ [])) answer.Ok (line.Send (link M A Feed) (flight.Sdu 1 2 (170 ∷ [])) ∷ [])
    ∷ an_entry (event.Step (link M A Feed) 0) answer.Ok (line.Send (link A T Air) (flight.Air 1 2 0 (Some 0) (128 ∷ 0 ∷ 170 ∷ [])) ∷ [])
    ∷ an_entry (event.Step (link A T Air) 0) answer.Ok (line.Note (note.Up T 1 Dl 0 (170 ∷ [])) ∷ line.Send (link T A Air) (flight.Ack 1 2 0) ∷ [])
    ∷ []

told_missing_where_low_rises_at_a_secondary_is_wrong : breaks (a_header Nea0 0 (replicate 32 0)) (before_told_missing_where_low_rises_at_a_secondary ++
    an_entry (event.Step (link T A Air) 0) answer.Ok []
    ∷ []) ≡ told ∷ []
unfolding sn window modulus distance count_for data_pdu decoded read_data read_report keystream counter_block stream_blocks report_pdu
told_missing_where_low_rises_at_a_secondary_is_wrong = refl

told_missing_where_low_rises_at_a_secondary_is_right : breaks (a_header Nea0 0 (replicate 32 0)) (before_told_missing_where_low_rises_at_a_secondary ++
    an_entry (event.Step (link T A Air) 0) answer.Ok (line.Send (link A M Feed) (flight.Told 1 2 1) ∷ [])
    ∷ []) ≡ []
unfolding sn window modulus distance count_for data_pdu decoded read_data read_report keystream counter_block stream_blocks report_pdu
told_missing_where_low_rises_at_a_secondary_is_right = refl

-- what comes before
abbrev before_told_of_a_dropped_bearer_raises_told : List Entry
before_told_of_a_dropped_bearer_raises_told =
    an_entry (event.Add A) answer.Ok (line.Send (link M A Ctl) (flight.Ctl (rec.Addreq (a_plan 1 (Some A) []) [])) ∷ [])
    ∷ an_entry (event.Step (link M A Ctl) 0) answer.Ok (line.Note (note.Join A 1) ∷ line.Send (link A M Ctl) (flight.Ctl (rec.Addack 1)) ∷ [])
    ∷ an_entry (event.Step (link A M Ctl) 0) answer.Ok (line.Send (link M T Ctl) (flight.Ctl (rec.Reconf (a_plan 1 (Some A) []) [])) ∷ [])
    ∷ an_entry (event.Step (link M T Ctl) 0) answer.Ok (line.Send (link T M Ctl) (flight.Ctl (rec.Rcomp 1)) ∷ [])
    ∷ an_entry (event.Step (link T M Ctl) 0) answer.Ok (line.Send (link M A Ctl) (flight.Ctl (rec.Recfg 1)) ∷ line.Note note.Done ∷ [])
    ∷ an_entry (event.Step (link M A Ctl) 0) answer.Ok []
    ∷ an_entry (event.Bearer 1 S12 0 (a_shape true Scg false) 0 0) answer.Ok (line.Send (link M A Ctl) (flight.Ctl (rec.Modreq (a_plan 2 (Some A) (Set 1 S12 0 (a_shape true Scg false) 0 0 (a_key 0 (SecondKey 0)) None ∷ [])) [])) ∷ [])
    ∷ an_entry (event.Step (link M A Ctl) 0) answer.Ok (line.Note (note.Own A 1 2) ∷ line.Send (link A M Ctl) (flight.Ctl (rec.Modack 2)) ∷ [])
    ∷ an_entry (event.Step (link A M Ctl) 0) answer.Ok (line.Send (link M T Ctl) (flight.Ctl (rec.Reconf (a_plan 2 (Some A) (Set 1 S12 0 (a_shape true Scg false) 0 0 (a_key 0 (SecondKey 0)) None ∷ [])) [])) ∷ [])
    ∷ an_entry (event.Step (link M T Ctl) 0) answer.Ok (line.Note (note.Set 1 2) ∷ line.Send (link T M Ctl) (flight.Ctl (rec.Rcomp 2)) ∷ [])
    ∷ an_entry (event.Step (link T M Ctl) 0) answer.Ok (line.Send (link M A Ctl) (flight.Ctl (rec.Recfg 2)) ∷ line.Note note.Done ∷ [])
    ∷ an_entry (event.Step (link M A Ctl) 0) answer.Ok []
    ∷ an_entry (event.Submit 1 Dl (170 ∷ [])) answer.Ok (line.Send (link M A Feed) (flight.Sdu 1 2 (170 ∷ [])) ∷ [])
    ∷ an_entry (event.Step (link M A Feed) 0) answer.Ok (line.Send (link A T Air) (flight.Air 1 2 0 (Some 0) (128 ∷ 0 ∷ 170 ∷ [])) ∷ [])
    ∷ an_entry (event.Step (link A T Air) 0) answer.Ok (line.Note (note.Up T 1 Dl 0 (170 ∷ [])) ∷ line.Send (link T A Air) (flight.Ack 1 2 0) ∷ [])
    ∷ an_entry (event.Remove 1) answer.Ok (line.Send (link M A Ctl) (flight.Ctl (rec.Modreq (a_plan 3 (Some A) (Unset 1 ∷ [])) [])) ∷ [])
    ∷ an_entry (event.Step (link T A Air) 0) answer.Ok (line.Send (link A M Feed) (flight.Told 1 2 1) ∷ [])
    ∷ an_entry (event.Step (link M A Ctl) 0) answer.Ok (line.Send (link A M Ctl) (flight.Ctl (rec.Modack 3)) ∷ [])
    ∷ an_entry (event.Step (link A M Ctl) 0) answer.Ok (line.Send (link M T Ctl) (flight.Ctl (rec.Reconf (a_plan 3 (Some A) (Unset 1 ∷ [])) [])) ∷ [])
    ∷ []

told_of_a_dropped_bearer_raises_told_is_wrong : breaks (a_header Nea0 0 (replicate 32 0)) (before_told_of_a_dropped_bearer_raises_told ++
    an_entry (event.Step (link A M Feed) 0) answer.Ok (line.Note (note.Freed 1 Dl 1) ∷ [])
    ∷ []) ≡ told ∷ []
unfolding sn window modulus distance count_for data_pdu decoded read_data read_report keystream counter_block stream_blocks report_pdu
told_of_a_dropped_bearer_raises_told_is_wrong = refl

told_of_a_dropped_bearer_raises_told_is_right : breaks (a_header Nea0 0 (replicate 32 0)) (before_told_of_a_dropped_bearer_raises_told ++
    an_entry (event.Step (link A M Feed) 0) answer.Ok []
    ∷ []) ≡ []
unfolding sn window modulus distance count_for data_pdu decoded read_data read_report keystream counter_block stream_blocks report_pdu
told_of_a_dropped_bearer_raises_told_is_right = refl

-- what comes before
abbrev before_told_of_an_earlier_establishment_raises_told : List Entry
before_told_of_an_earlier_establishment_raises_told =
    an_entry (event.Add A) answer.Ok (line.Send (link M A Ctl) (flight.Ctl (rec.Addreq (a_plan 1 (Some A) []) [])) ∷ [])
    ∷ an_entry (event.Step (link M A Ctl) 0) answer.Ok (line.Note (note.Join A 1) ∷ line.Send (link A M Ctl) (flight.Ctl (rec.Addack 1)) ∷ [])
    ∷ an_entry (event.Step (link A M Ctl) 0) answer.Ok (line.Send (link M T Ctl) (flight.Ctl (rec.Reconf (a_plan 1 (Some A) []) [])) ∷ [])
    ∷ an_entry (event.Step (link M T Ctl) 0) answer.Ok (line.Send (link T M Ctl) (flight.Ctl (rec.Rcomp 1)) ∷ [])
    ∷ an_entry (event.Step (link T M Ctl) 0) answer.Ok (line.Send (link M A Ctl) (flight.Ctl (rec.Recfg 1)) ∷ line.Note note.Done ∷ [])
    ∷ an_entry (event.Step (link M A Ctl) 0) answer.Ok []
    ∷ an_entry (event.Bearer 1 S12 0 (a_shape true Scg false) 0 0) answer.Ok (line.Send (link M A Ctl) (flight.Ctl (rec.Modreq (a_plan 2 (Some A) (Set 1 S12 0 (a_shape true Scg false) 0 0 (a_key 0 (SecondKey 0)) None ∷ [])) [])) ∷ [])
    ∷ an_entry (event.Step (link M A Ctl) 0) answer.Ok (line.Note (note.Own A 1 2) ∷ line.Send (link A M Ctl) (flight.Ctl (rec.Modack 2)) ∷ [])
    ∷ an_entry (event.Step (link A M Ctl) 0) answer.Ok (line.Send (link M T Ctl) (flight.Ctl (rec.Reconf (a_plan 2 (Some A) (Set 1 S12 0 (a_shape true Scg false) 0 0 (a_key 0 (SecondKey 0)) None ∷ [])) [])) ∷ [])
    ∷ an_entry (event.Step (link M T Ctl) 0) answer.Ok (line.Note (note.Set 1 2) ∷ line.Send (link T M Ctl) (flight.Ctl (rec.Rcomp 2)) ∷ [])
    ∷ an_entry (event.Step (link T M Ctl) 0) answer.Ok (line.Send (link M A Ctl) (flight.Ctl (rec.Recfg 2)) ∷ line.Note note.Done ∷ [])
    ∷ an_entry (event.Step (link M A Ctl) 0) answer.Ok []
    ∷ an_entry (event.Submit 1 Dl (170 ∷ [])) answer.Ok (line.Send (link M A Feed) (flight.Sdu 1 2 (170 ∷ [])) ∷ [])
    ∷ an_entry (event.Step (link M A Feed) 0) answer.Ok (line.Send (link A T Air) (flight.Air 1 2 0 (Some 0) (128 ∷ 0 ∷ 170 ∷ [])) ∷ [])
    ∷ an_entry (event.Step (link A T Air) 0) answer.Ok (line.Note (note.Up T 1 Dl 0 (170 ∷ [])) ∷ line.Send (link T A Air) (flight.Ack 1 2 0) ∷ [])
    ∷ an_entry (event.Step (link T A Air) 0) answer.Ok (line.Send (link A M Feed) (flight.Told 1 2 1) ∷ [])
    ∷ an_entry (event.Remove 1) answer.Ok (line.Send (link M A Ctl) (flight.Ctl (rec.Modreq (a_plan 3 (Some A) (Unset 1 ∷ [])) [])) ∷ [])
    ∷ an_entry (event.Step (link M A Ctl) 0) answer.Ok (line.Send (link A M Ctl) (flight.Ctl (rec.Modack 3)) ∷ [])
    ∷ an_entry (event.Step (link A M Ctl) 0) answer.Ok (line.Send (link M T Ctl) (flight.Ctl (rec.Reconf (a_plan 3 (Some A) (Unset 1 ∷ [])) [])) ∷ [])
    ∷ an_entry (event.Step (link M T Ctl) 0) answer.Ok (line.Note (note.Unset 1) ∷ line.Send (link T M Ctl) (flight.Ctl (rec.Rcomp 3)) ∷ [])
    ∷ an_entry (event.Step (link T M Ctl) 0) answer.Ok (line.Send (link M A Ctl) (flight.Ctl (rec.Recfg 3)) ∷ line.Note note.Done ∷ [])
    ∷ an_entry (event.Bearer 1 S12 0 (a_shape false Mcg false) 0 0) answer.Ok (line.Note (note.Own M 1 4) ∷ line.Send (link M T Ctl) (flight.Ctl (rec.Reconf (a_plan 4 (Some A) (Set 1 S12 0 (a_shape false Mcg false) 0 0 (a_key 0 Master) None ∷ [])) [])) ∷ [])
    ∷ []

told_of_an_earlier_establishment_raises_told_is_wrong : breaks (a_header Nea0 0 (replicate 32 0)) (before_told_of_an_earlier_establishment_raises_told ++
    an_entry (event.Step (link A M Feed) 0) answer.Ok (line.Note (note.Freed 1 Dl 1) ∷ [])
    ∷ []) ≡ told ∷ []
unfolding sn window modulus distance count_for data_pdu decoded read_data read_report keystream counter_block stream_blocks report_pdu
told_of_an_earlier_establishment_raises_told_is_wrong = refl

told_of_an_earlier_establishment_raises_told_is_right : breaks (a_header Nea0 0 (replicate 32 0)) (before_told_of_an_earlier_establishment_raises_told ++
    an_entry (event.Step (link A M Feed) 0) answer.Ok []
    ∷ []) ≡ []
unfolding sn window modulus distance count_for data_pdu decoded read_data read_report keystream counter_block stream_blocks report_pdu
told_of_an_earlier_establishment_raises_told_is_right = refl

-- what comes before
abbrev before_told_rises_over_what_was_handed_up : List Entry
before_told_rises_over_what_was_handed_up =
    an_entry (event.Add A) answer.Ok (line.Send (link M A Ctl) (flight.Ctl (rec.Addreq (a_plan 1 (Some A) []) [])) ∷ [])
    ∷ an_entry (event.Step (link M A Ctl) 0) answer.Ok (line.Note (note.Join A 1) ∷ line.Send (link A M Ctl) (flight.Ctl (rec.Addack 1)) ∷ [])
    ∷ an_entry (event.Step (link A M Ctl) 0) answer.Ok (line.Send (link M T Ctl) (flight.Ctl (rec.Reconf (a_plan 1 (Some A) []) [])) ∷ [])
    ∷ an_entry (event.Step (link M T Ctl) 0) answer.Ok (line.Send (link T M Ctl) (flight.Ctl (rec.Rcomp 1)) ∷ [])
    ∷ an_entry (event.Step (link T M Ctl) 0) answer.Ok (line.Send (link M A Ctl) (flight.Ctl (rec.Recfg 1)) ∷ line.Note note.Done ∷ [])
    ∷ an_entry (event.Step (link M A Ctl) 0) answer.Ok []
    ∷ an_entry (event.Bearer 1 S12 0 (a_shape true Scg false) 0 0) answer.Ok (line.Send (link M A Ctl) (flight.Ctl (rec.Modreq (a_plan 2 (Some A) (Set 1 S12 0 (a_shape true Scg false) 0 0 (a_key 0 (SecondKey 0)) None ∷ [])) [])) ∷ [])
    ∷ an_entry (event.Step (link M A Ctl) 0) answer.Ok (line.Note (note.Own A 1 2) ∷ line.Send (link A M Ctl) (flight.Ctl (rec.Modack 2)) ∷ [])
    ∷ an_entry (event.Step (link A M Ctl) 0) answer.Ok (line.Send (link M T Ctl) (flight.Ctl (rec.Reconf (a_plan 2 (Some A) (Set 1 S12 0 (a_shape true Scg false) 0 0 (a_key 0 (SecondKey 0)) None ∷ [])) [])) ∷ [])
    ∷ an_entry (event.Step (link M T Ctl) 0) answer.Ok (line.Note (note.Set 1 2) ∷ line.Send (link T M Ctl) (flight.Ctl (rec.Rcomp 2)) ∷ [])
    ∷ an_entry (event.Step (link T M Ctl) 0) answer.Ok (line.Send (link M A Ctl) (flight.Ctl (rec.Recfg 2)) ∷ line.Note note.Done ∷ [])
    ∷ an_entry (event.Step (link M A Ctl) 0) answer.Ok []
    ∷ an_entry (event.Submit 1 Dl (170 ∷ [])) answer.Ok (line.Send (link M A Feed) (flight.Sdu 1 2 (170 ∷ [])) ∷ [])
    ∷ an_entry (event.Step (link M A Feed) 0) answer.Ok (line.Send (link A T Air) (flight.Air 1 2 0 (Some 0) (128 ∷ 0 ∷ 170 ∷ [])) ∷ [])
    ∷ an_entry (event.Step (link A T Air) 0) answer.Ok (line.Note (note.Up T 1 Dl 0 (170 ∷ [])) ∷ line.Send (link T A Air) (flight.Ack 1 2 0) ∷ [])
    ∷ an_entry (event.Step (link T A Air) 0) answer.Ok (line.Send (link A M Feed) (flight.Told 1 2 1) ∷ [])
    ∷ []

told_rises_over_what_was_handed_up_is_wrong : breaks (a_header Nea0 0 (replicate 32 0)) (before_told_rises_over_what_was_handed_up ++
    an_entry (event.Step (link A M Feed) 0) answer.Ok (line.Note (note.Freed 1 Dl 2) ∷ [])
    ∷ []) ≡ told ∷ []
unfolding sn window modulus distance count_for data_pdu decoded read_data read_report keystream counter_block stream_blocks report_pdu
told_rises_over_what_was_handed_up_is_wrong = refl

told_rises_over_what_was_handed_up_is_right : breaks (a_header Nea0 0 (replicate 32 0)) (before_told_rises_over_what_was_handed_up ++
    an_entry (event.Step (link A M Feed) 0) answer.Ok (line.Note (note.Freed 1 Dl 1) ∷ [])
    ∷ []) ≡ []
unfolding sn window modulus distance count_for data_pdu decoded read_data read_report keystream counter_block stream_blocks report_pdu
told_rises_over_what_was_handed_up_is_right = refl

-- what comes before
abbrev before_told_that_is_not_greater_gives_a_freed : List Entry
before_told_that_is_not_greater_gives_a_freed =
    an_entry (event.Add A) answer.Ok (line.Send (link M A Ctl) (flight.Ctl (rec.Addreq (a_plan 1 (Some A) []) [])) ∷ [])
    ∷ an_entry (event.Step (link M A Ctl) 0) answer.Ok (line.Note (note.Join A 1) ∷ line.Send (link A M Ctl) (flight.Ctl (rec.Addack 1)) ∷ [])
    ∷ an_entry (event.Step (link A M Ctl) 0) answer.Ok (line.Send (link M T Ctl) (flight.Ctl (rec.Reconf (a_plan 1 (Some A) []) [])) ∷ [])
    ∷ an_entry (event.Step (link M T Ctl) 0) answer.Ok (line.Send (link T M Ctl) (flight.Ctl (rec.Rcomp 1)) ∷ [])
    ∷ an_entry (event.Step (link T M Ctl) 0) answer.Ok (line.Send (link M A Ctl) (flight.Ctl (rec.Recfg 1)) ∷ line.Note note.Done ∷ [])
    ∷ an_entry (event.Step (link M A Ctl) 0) answer.Ok []
    ∷ an_entry (event.Bearer 1 S12 0 (a_shape true Scg false) 0 0) answer.Ok (line.Send (link M A Ctl) (flight.Ctl (rec.Modreq (a_plan 2 (Some A) (Set 1 S12 0 (a_shape true Scg false) 0 0 (a_key 0 (SecondKey 0)) None ∷ [])) [])) ∷ [])
    ∷ an_entry (event.Step (link M A Ctl) 0) answer.Ok (line.Note (note.Own A 1 2) ∷ line.Send (link A M Ctl) (flight.Ctl (rec.Modack 2)) ∷ [])
    ∷ an_entry (event.Step (link A M Ctl) 0) answer.Ok (line.Send (link M T Ctl) (flight.Ctl (rec.Reconf (a_plan 2 (Some A) (Set 1 S12 0 (a_shape true Scg false) 0 0 (a_key 0 (SecondKey 0)) None ∷ [])) [])) ∷ [])
    ∷ an_entry (event.Step (link M T Ctl) 0) answer.Ok (line.Note (note.Set 1 2) ∷ line.Send (link T M Ctl) (flight.Ctl (rec.Rcomp 2)) ∷ [])
    ∷ an_entry (event.Step (link T M Ctl) 0) answer.Ok (line.Send (link M A Ctl) (flight.Ctl (rec.Recfg 2)) ∷ line.Note note.Done ∷ [])
    ∷ an_entry (event.Step (link M A Ctl) 0) answer.Ok []
    ∷ an_entry (event.Submit 1 Dl (170 ∷ [])) answer.Ok (line.Send (link M A Feed) (flight.Sdu 1 2 (170 ∷ [])) ∷ [])
    ∷ an_entry (event.Step (link M A Feed) 0) answer.Ok (line.Send (link A T Air) (flight.Air 1 2 0 (Some 0) (128 ∷ 0 ∷ 170 ∷ [])) ∷ [])
    ∷ an_entry (event.Step (link A T Air) 0) answer.Ok (line.Note (note.Up T 1 Dl 0 (170 ∷ [])) ∷ line.Send (link T A Air) (flight.Ack 1 2 0) ∷ [])
    ∷ an_entry (event.Step (link T A Air) 0) answer.Ok (line.Send (link A M Feed) (flight.Told 1 2 1) ∷ [])
    ∷ an_entry (event.Reshape 1 (a_shape false Mcg false)) answer.Ok (line.Send (link M A Ctl) (flight.Ctl (rec.Modreq (a_plan 3 (Some A) (Set 1 S12 0 (a_shape false Mcg false) 0 0 (a_key 0 Master) (Some A) ∷ [])) [])) ∷ [])
    ∷ an_entry (event.Step (link M A Ctl) 0) answer.Ok (line.Note (note.Give A 1 3) ∷ line.Send (link A M Ctl) (flight.Ctl (rec.Modack 3)) ∷ line.Send (link A M Ctl) (flight.Ctl (rec.Snst (a_transfer 3 1 0 [] 1))) ∷ line.Send (link A M Tun) (flight.Tun None (52 ∷ 255 ∷ 0 ∷ 12 ∷ 0 ∷ 0 ∷ 1 ∷ 130 ∷ 0 ∷ 0 ∷ 0 ∷ 132 ∷ 2 ∷ 0 ∷ 0 ∷ 0 ∷ 0 ∷ 0 ∷ 0 ∷ 0 ∷ [])) ∷ line.Send (link A M Tun) (flight.Tun None (48 ∷ 254 ∷ 0 ∷ 0 ∷ 0 ∷ 0 ∷ 1 ∷ 130 ∷ [])) ∷ [])
    ∷ an_entry (event.Step (link A M Ctl) 0) answer.Ok (line.Send (link M T Ctl) (flight.Ctl (rec.Reconf (a_plan 3 (Some A) (Set 1 S12 0 (a_shape false Mcg false) 0 0 (a_key 0 Master) (Some A) ∷ [])) [])) ∷ line.Send (link M A Feed) (flight.End 1 3) ∷ [])
    ∷ an_entry (event.Step (link A M Ctl) 0) answer.Ok []
    ∷ an_entry (event.Step (link M T Ctl) 0) answer.Ok (line.Note (note.Set 1 3) ∷ line.Send (link T M Ctl) (flight.Ctl (rec.Rcomp 3)) ∷ [])
    ∷ an_entry (event.Step (link T M Ctl) 0) answer.Ok (line.Send (link M A Ctl) (flight.Ctl (rec.Recfg 3)) ∷ [])
    ∷ an_entry (event.Step (link M A Feed) 0) answer.Ok (line.Send (link A M Tun) (flight.Tun None (52 ∷ 255 ∷ 0 ∷ 12 ∷ 0 ∷ 0 ∷ 1 ∷ 129 ∷ 0 ∷ 0 ∷ 0 ∷ 132 ∷ 2 ∷ 0 ∷ 0 ∷ 0 ∷ 0 ∷ 0 ∷ 0 ∷ 0 ∷ [])) ∷ line.Send (link A M Tun) (flight.Tun None (48 ∷ 254 ∷ 0 ∷ 0 ∷ 0 ∷ 0 ∷ 1 ∷ 129 ∷ [])) ∷ [])
    ∷ an_entry (event.Step (link A M Tun) 0) answer.Ok []
    ∷ an_entry (event.Step (link A M Tun) 1) answer.Ok (line.Note (note.Own M 1 3) ∷ line.Note note.Done ∷ [])
    ∷ an_entry (event.Submit 1 Dl (187 ∷ [])) answer.Ok (line.Send (link M T Air) (flight.Air 1 3 0 (Some 1) (128 ∷ 1 ∷ 187 ∷ [])) ∷ [])
    ∷ an_entry (event.Step (link M T Air) 0) answer.Ok (line.Note (note.Up T 1 Dl 1 (187 ∷ [])) ∷ line.Send (link T M Air) (flight.Ack 1 3 0) ∷ [])
    ∷ an_entry (event.Step (link T M Air) 0) answer.Ok (line.Note (note.Freed 1 Dl 2) ∷ [])
    ∷ []

told_that_is_not_greater_gives_a_freed_is_wrong : breaks (a_header Nea0 0 (replicate 32 0)) (before_told_that_is_not_greater_gives_a_freed ++
    an_entry (event.Step (link A M Feed) 0) answer.Ok (line.Note (note.Freed 1 Dl 1) ∷ [])
    ∷ []) ≡ told ∷ []
unfolding sn window modulus distance count_for data_pdu decoded read_data read_report keystream counter_block stream_blocks report_pdu
told_that_is_not_greater_gives_a_freed_is_wrong = refl

told_that_is_not_greater_gives_a_freed_is_right : breaks (a_header Nea0 0 (replicate 32 0)) (before_told_that_is_not_greater_gives_a_freed ++
    an_entry (event.Step (link A M Feed) 0) answer.Ok []
    ∷ []) ≡ []
unfolding sn window modulus distance count_for data_pdu decoded read_data read_report keystream counter_block stream_blocks report_pdu
told_that_is_not_greater_gives_a_freed_is_right = refl

told_twice_is_wrong : breaks (a_header Nea0 0 (replicate 32 0)) (before_told_missing_where_low_rises_at_a_secondary ++
    an_entry (event.Step (link T A Air) 0) answer.Ok (line.Send (link A M Feed) (flight.Told 1 2 1) ∷ line.Send (link A M Feed) (flight.Told 1 2 1) ∷ [])
    ∷ []) ≡ told ∷ licensed ∷ []
unfolding sn window modulus distance count_for data_pdu decoded read_data read_report keystream counter_block stream_blocks report_pdu
told_twice_is_wrong = refl

told_twice_is_right : breaks (a_header Nea0 0 (replicate 32 0)) (before_told_missing_where_low_rises_at_a_secondary ++
    an_entry (event.Step (link T A Air) 0) answer.Ok (line.Send (link A M Feed) (flight.Told 1 2 1) ∷ [])
    ∷ []) ≡ []
unfolding sn window modulus distance count_for data_pdu decoded read_data read_report keystream counter_block stream_blocks report_pdu
told_twice_is_right = refl

told_with_another_generation_is_wrong : breaks (a_header Nea0 0 (replicate 32 0)) (before_told_missing_where_low_rises_at_a_secondary ++
    an_entry (event.Step (link T A Air) 0) answer.Ok (line.Send (link A M Feed) (flight.Told 1 1 1) ∷ [])
    ∷ []) ≡ told ∷ licensed ∷ []
unfolding sn window modulus distance count_for data_pdu decoded read_data read_report keystream counter_block stream_blocks report_pdu
told_with_another_generation_is_wrong = refl

told_with_another_generation_is_right : breaks (a_header Nea0 0 (replicate 32 0)) (before_told_missing_where_low_rises_at_a_secondary ++
    an_entry (event.Step (link T A Air) 0) answer.Ok (line.Send (link A M Feed) (flight.Told 1 2 1) ∷ [])
    ∷ []) ≡ []
unfolding sn window modulus distance count_for data_pdu decoded read_data read_report keystream counter_block stream_blocks report_pdu
told_with_another_generation_is_right = refl

told_with_another_value_is_wrong : breaks (a_header Nea0 0 (replicate 32 0)) (before_told_missing_where_low_rises_at_a_secondary ++
    an_entry (event.Step (link T A Air) 0) answer.Ok (line.Send (link A M Feed) (flight.Told 1 2 2) ∷ [])
    ∷ []) ≡ told ∷ licensed ∷ []
unfolding sn window modulus distance count_for data_pdu decoded read_data read_report keystream counter_block stream_blocks report_pdu
told_with_another_value_is_wrong = refl

told_with_another_value_is_right : breaks (a_header Nea0 0 (replicate 32 0)) (before_told_missing_where_low_rises_at_a_secondary ++
    an_entry (event.Step (link T A Air) 0) answer.Ok (line.Send (link A M Feed) (flight.Told 1 2 1) ∷ [])
    ∷ []) ≡ []
unfolding sn window modulus distance count_for data_pdu decoded read_data read_report keystream counter_block stream_blocks report_pdu
told_with_another_value_is_right = refl

-- what comes before
abbrev before_told_without_a_rise_of_low : List Entry
before_told_without_a_rise_of_low =
    an_entry (event.Add A) answer.Ok (line.Send (link M A Ctl) (flight.Ctl (rec.Addreq (a_plan 1 (Some A) []) [])) ∷ [])
    ∷ an_entry (event.Step (link M A Ctl) 0) answer.Ok (line.Note (note.Join A 1) ∷ line.Send (link A M Ctl) (flight.Ctl (rec.Addack 1)) ∷ [])
    ∷ an_entry (event.Step (link A M Ctl) 0) answer.Ok (line.Send (link M T Ctl) (flight.Ctl (rec.Reconf (a_plan 1 (Some A) []) [])) ∷ [])
    ∷ an_entry (event.Step (link M T Ctl) 0) answer.Ok (line.Send (link T M Ctl) (flight.Ctl (rec.Rcomp 1)) ∷ [])
    ∷ an_entry (event.Step (link T M Ctl) 0) answer.Ok (line.Send (link M A Ctl) (flight.Ctl (rec.Recfg 1)) ∷ line.Note note.Done ∷ [])
    ∷ an_entry (event.Step (link M A Ctl) 0) answer.Ok []
    ∷ an_entry (event.Bearer 1 S12 0 (a_shape true Scg false) 0 0) answer.Ok (line.Send (link M A Ctl) (flight.Ctl (rec.Modreq (a_plan 2 (Some A) (Set 1 S12 0 (a_shape true Scg false) 0 0 (a_key 0 (SecondKey 0)) None ∷ [])) [])) ∷ [])
    ∷ an_entry (event.Step (link M A Ctl) 0) answer.Ok (line.Note (note.Own A 1 2) ∷ line.Send (link A M Ctl) (flight.Ctl (rec.Modack 2)) ∷ [])
    ∷ an_entry (event.Step (link A M Ctl) 0) answer.Ok (line.Send (link M T Ctl) (flight.Ctl (rec.Reconf (a_plan 2 (Some A) (Set 1 S12 0 (a_shape true Scg false) 0 0 (a_key 0 (SecondKey 0)) None ∷ [])) [])) ∷ [])
    ∷ an_entry (event.Step (link M T Ctl) 0) answer.Ok (line.Note (note.Set 1 2) ∷ line.Send (link T M Ctl) (flight.Ctl (rec.Rcomp 2)) ∷ [])
    ∷ an_entry (event.Step (link T M Ctl) 0) answer.Ok (line.Send (link M A Ctl) (flight.Ctl (rec.Recfg 2)) ∷ line.Note note.Done ∷ [])
    ∷ an_entry (event.Step (link M A Ctl) 0) answer.Ok []
    ∷ an_entry (event.Submit 1 Dl (170 ∷ [])) answer.Ok (line.Send (link M A Feed) (flight.Sdu 1 2 (170 ∷ [])) ∷ [])
    ∷ an_entry (event.Step (link M A Feed) 0) answer.Ok (line.Send (link A T Air) (flight.Air 1 2 0 (Some 0) (128 ∷ 0 ∷ 170 ∷ [])) ∷ [])
    ∷ []

told_without_a_rise_of_low_is_wrong : breaks (a_header Nea0 0 (replicate 32 0)) (before_told_without_a_rise_of_low ++
    an_entry (event.Step (link A T Air) 0) answer.Ok (line.Note (note.Up T 1 Dl 0 (170 ∷ [])) ∷ line.Send (link T A Air) (flight.Ack 1 2 0) ∷ line.Send (link A M Feed) (flight.Told 1 2 1) ∷ [])
    ∷ []) ≡ told ∷ licensed ∷ ordered ∷ []
unfolding sn window modulus distance count_for data_pdu decoded read_data read_report keystream counter_block stream_blocks report_pdu
told_without_a_rise_of_low_is_wrong = refl

told_without_a_rise_of_low_is_right : breaks (a_header Nea0 0 (replicate 32 0)) (before_told_without_a_rise_of_low ++
    an_entry (event.Step (link A T Air) 0) answer.Ok (line.Note (note.Up T 1 Dl 0 (170 ∷ [])) ∷ line.Send (link T A Air) (flight.Ack 1 2 0) ∷ [])
    ∷ []) ≡ []
unfolding sn window modulus distance count_for data_pdu decoded read_data read_report keystream counter_block stream_blocks report_pdu
told_without_a_rise_of_low_is_right = refl

total_too_small_is_wrong : breaks (a_header Nea0 0 (replicate 32 0)) (before_snst_with_a_dl_too_small ++
    an_entry (event.Step (link A M Ctl) 0) answer.Ok (line.Note (note.Give M 1 3) ∷ line.Send (link M T Ctl) (flight.Ctl (rec.Reconf (a_plan 3 (Some A) (Set 1 S12 0 (a_shape true Scg false) 0 0 (a_key 0 (SecondKey 0)) (Some M) ∷ [])) [])) ∷ line.Send (link M A Ctl) (flight.Ctl (rec.Snst (a_transfer 3 1 0 [] 1))) ∷ line.Send (link M A Tun) (flight.Tun None (52 ∷ 255 ∷ 0 ∷ 17 ∷ 0 ∷ 0 ∷ 1 ∷ 129 ∷ 0 ∷ 0 ∷ 0 ∷ 132 ∷ 2 ∷ 1 ∷ 0 ∷ 0 ∷ 0 ∷ 0 ∷ 0 ∷ 192 ∷ 1 ∷ 0 ∷ 0 ∷ 0 ∷ 170 ∷ [])) ∷ line.Send (link M A Tun) (flight.Tun None (52 ∷ 255 ∷ 0 ∷ 12 ∷ 0 ∷ 0 ∷ 1 ∷ 129 ∷ 0 ∷ 0 ∷ 0 ∷ 132 ∷ 2 ∷ 0 ∷ 0 ∷ 0 ∷ 0 ∷ 0 ∷ 0 ∷ 0 ∷ [])) ∷ line.Send (link M A Tun) (flight.Tun None (48 ∷ 254 ∷ 0 ∷ 0 ∷ 0 ∷ 0 ∷ 1 ∷ 129 ∷ [])) ∷ line.Send (link M A Tun) (flight.Tun None (52 ∷ 255 ∷ 0 ∷ 12 ∷ 0 ∷ 0 ∷ 1 ∷ 130 ∷ 0 ∷ 0 ∷ 0 ∷ 132 ∷ 2 ∷ 0 ∷ 0 ∷ 0 ∷ 0 ∷ 0 ∷ 0 ∷ 0 ∷ [])) ∷ line.Send (link M A Tun) (flight.Tun None (48 ∷ 254 ∷ 0 ∷ 0 ∷ 0 ∷ 0 ∷ 1 ∷ 130 ∷ [])) ∷ [])
    ∷ []) ≡ numbered ∷ []
unfolding sn window modulus distance count_for data_pdu decoded read_data read_report keystream counter_block stream_blocks report_pdu
total_too_small_is_wrong = refl

total_too_small_is_right : breaks (a_header Nea0 0 (replicate 32 0)) (before_snst_with_a_dl_too_small ++
    an_entry (event.Step (link A M Ctl) 0) answer.Ok (line.Note (note.Give M 1 3) ∷ line.Send (link M T Ctl) (flight.Ctl (rec.Reconf (a_plan 3 (Some A) (Set 1 S12 0 (a_shape true Scg false) 0 0 (a_key 0 (SecondKey 0)) (Some M) ∷ [])) [])) ∷ line.Send (link M A Ctl) (flight.Ctl (rec.Snst (a_transfer 3 1 0 [] 1))) ∷ line.Send (link M A Tun) (flight.Tun None (52 ∷ 255 ∷ 0 ∷ 17 ∷ 0 ∷ 0 ∷ 1 ∷ 129 ∷ 0 ∷ 0 ∷ 0 ∷ 132 ∷ 2 ∷ 1 ∷ 0 ∷ 0 ∷ 0 ∷ 0 ∷ 0 ∷ 192 ∷ 1 ∷ 0 ∷ 0 ∷ 0 ∷ 170 ∷ [])) ∷ line.Send (link M A Tun) (flight.Tun None (52 ∷ 255 ∷ 0 ∷ 12 ∷ 0 ∷ 0 ∷ 1 ∷ 129 ∷ 0 ∷ 0 ∷ 0 ∷ 132 ∷ 2 ∷ 0 ∷ 0 ∷ 0 ∷ 1 ∷ 0 ∷ 0 ∷ 0 ∷ [])) ∷ line.Send (link M A Tun) (flight.Tun None (48 ∷ 254 ∷ 0 ∷ 0 ∷ 0 ∷ 0 ∷ 1 ∷ 129 ∷ [])) ∷ line.Send (link M A Tun) (flight.Tun None (52 ∷ 255 ∷ 0 ∷ 12 ∷ 0 ∷ 0 ∷ 1 ∷ 130 ∷ 0 ∷ 0 ∷ 0 ∷ 132 ∷ 2 ∷ 0 ∷ 0 ∷ 0 ∷ 0 ∷ 0 ∷ 0 ∷ 0 ∷ [])) ∷ line.Send (link M A Tun) (flight.Tun None (48 ∷ 254 ∷ 0 ∷ 0 ∷ 0 ∷ 0 ∷ 1 ∷ 130 ∷ [])) ∷ [])
    ∷ []) ≡ []
unfolding sn window modulus distance count_for data_pdu decoded read_data read_report keystream counter_block stream_blocks report_pdu
total_too_small_is_right = refl

total_twice_is_wrong : breaks (a_header Nea0 0 (replicate 32 0)) (before_snst_twice ++
    an_entry (event.Step (link A M Ctl) 0) answer.Ok (line.Note (note.Give M 1 3) ∷ line.Send (link M T Ctl) (flight.Ctl (rec.Reconf (a_plan 3 (Some A) (Set 1 S12 0 (a_shape true Scg false) 0 0 (a_key 0 (SecondKey 0)) (Some M) ∷ [])) [])) ∷ line.Send (link M A Ctl) (flight.Ctl (rec.Snst (a_transfer 3 1 0 [] 0))) ∷ line.Send (link M A Tun) (flight.Tun None (52 ∷ 255 ∷ 0 ∷ 12 ∷ 0 ∷ 0 ∷ 1 ∷ 129 ∷ 0 ∷ 0 ∷ 0 ∷ 132 ∷ 2 ∷ 0 ∷ 0 ∷ 0 ∷ 0 ∷ 0 ∷ 0 ∷ 0 ∷ [])) ∷ line.Send (link M A Tun) (flight.Tun None (52 ∷ 255 ∷ 0 ∷ 12 ∷ 0 ∷ 0 ∷ 1 ∷ 129 ∷ 0 ∷ 0 ∷ 0 ∷ 132 ∷ 2 ∷ 0 ∷ 0 ∷ 0 ∷ 0 ∷ 0 ∷ 0 ∷ 0 ∷ [])) ∷ line.Send (link M A Tun) (flight.Tun None (48 ∷ 254 ∷ 0 ∷ 0 ∷ 0 ∷ 0 ∷ 1 ∷ 129 ∷ [])) ∷ line.Send (link M A Tun) (flight.Tun None (52 ∷ 255 ∷ 0 ∷ 12 ∷ 0 ∷ 0 ∷ 1 ∷ 130 ∷ 0 ∷ 0 ∷ 0 ∷ 132 ∷ 2 ∷ 0 ∷ 0 ∷ 0 ∷ 0 ∷ 0 ∷ 0 ∷ 0 ∷ [])) ∷ line.Send (link M A Tun) (flight.Tun None (48 ∷ 254 ∷ 0 ∷ 0 ∷ 0 ∷ 0 ∷ 1 ∷ 130 ∷ [])) ∷ [])
    ∷ []) ≡ licensed ∷ []
unfolding sn window modulus distance count_for data_pdu decoded read_data read_report keystream counter_block stream_blocks report_pdu
total_twice_is_wrong = refl

total_twice_is_right : breaks (a_header Nea0 0 (replicate 32 0)) (before_snst_twice ++
    an_entry (event.Step (link A M Ctl) 0) answer.Ok (line.Note (note.Give M 1 3) ∷ line.Send (link M T Ctl) (flight.Ctl (rec.Reconf (a_plan 3 (Some A) (Set 1 S12 0 (a_shape true Scg false) 0 0 (a_key 0 (SecondKey 0)) (Some M) ∷ [])) [])) ∷ line.Send (link M A Ctl) (flight.Ctl (rec.Snst (a_transfer 3 1 0 [] 0))) ∷ line.Send (link M A Tun) (flight.Tun None (52 ∷ 255 ∷ 0 ∷ 12 ∷ 0 ∷ 0 ∷ 1 ∷ 129 ∷ 0 ∷ 0 ∷ 0 ∷ 132 ∷ 2 ∷ 0 ∷ 0 ∷ 0 ∷ 0 ∷ 0 ∷ 0 ∷ 0 ∷ [])) ∷ line.Send (link M A Tun) (flight.Tun None (48 ∷ 254 ∷ 0 ∷ 0 ∷ 0 ∷ 0 ∷ 1 ∷ 129 ∷ [])) ∷ line.Send (link M A Tun) (flight.Tun None (52 ∷ 255 ∷ 0 ∷ 12 ∷ 0 ∷ 0 ∷ 1 ∷ 130 ∷ 0 ∷ 0 ∷ 0 ∷ 132 ∷ 2 ∷ 0 ∷ 0 ∷ 0 ∷ 0 ∷ 0 ∷ 0 ∷ 0 ∷ [])) ∷ line.Send (link M A Tun) (flight.Tun None (48 ∷ 254 ∷ 0 ∷ 0 ∷ 0 ∷ 0 ∷ 1 ∷ 130 ∷ [])) ∷ [])
    ∷ []) ≡ []
unfolding sn window modulus distance count_for data_pdu decoded read_data read_report keystream counter_block stream_blocks report_pdu
total_twice_is_right = refl

tunnel_packet_with_a_count_not_submitted_is_wrong : breaks (a_header Nea0 0 (replicate 32 0)) (before_scgf_names_another_generation ++
    an_entry (event.Submit 1 Dl (170 ∷ [])) answer.Ok (line.Send (link M A Tun) (flight.Tun (Some 1) (52 ∷ 255 ∷ 0 ∷ 15 ∷ 0 ∷ 0 ∷ 1 ∷ 0 ∷ 0 ∷ 0 ∷ 0 ∷ 132 ∷ 2 ∷ 1 ∷ 0 ∷ 0 ∷ 0 ∷ 0 ∷ 0 ∷ 0 ∷ 128 ∷ 1 ∷ 170 ∷ [])) ∷ [])
    ∷ []) ≡ protected ∷ come ∷ []
unfolding sn window modulus distance count_for data_pdu decoded read_data read_report keystream counter_block stream_blocks report_pdu
tunnel_packet_with_a_count_not_submitted_is_wrong = refl

tunnel_packet_with_a_count_not_submitted_is_right : breaks (a_header Nea0 0 (replicate 32 0)) (before_scgf_names_another_generation ++
    an_entry (event.Submit 1 Dl (170 ∷ [])) answer.Ok (line.Send (link M A Tun) (flight.Tun (Some 0) (52 ∷ 255 ∷ 0 ∷ 15 ∷ 0 ∷ 0 ∷ 1 ∷ 0 ∷ 0 ∷ 0 ∷ 0 ∷ 132 ∷ 2 ∷ 1 ∷ 0 ∷ 0 ∷ 0 ∷ 0 ∷ 0 ∷ 0 ∷ 128 ∷ 0 ∷ 170 ∷ [])) ∷ [])
    ∷ []) ≡ []
unfolding sn window modulus distance count_for data_pdu decoded read_data read_report keystream counter_block stream_blocks report_pdu
tunnel_packet_with_a_count_not_submitted_is_right = refl

tunnel_packet_with_another_payload_is_wrong : breaks (a_header Nea0 0 (replicate 32 0)) (before_scgf_names_another_generation ++
    an_entry (event.Submit 1 Dl (170 ∷ [])) answer.Ok (line.Send (link M A Tun) (flight.Tun (Some 0) (52 ∷ 255 ∷ 0 ∷ 15 ∷ 0 ∷ 0 ∷ 1 ∷ 0 ∷ 0 ∷ 0 ∷ 0 ∷ 132 ∷ 2 ∷ 1 ∷ 0 ∷ 0 ∷ 0 ∷ 0 ∷ 0 ∷ 0 ∷ 128 ∷ 0 ∷ 171 ∷ [])) ∷ [])
    ∷ []) ≡ protected ∷ []
unfolding sn window modulus distance count_for data_pdu decoded read_data read_report keystream counter_block stream_blocks report_pdu
tunnel_packet_with_another_payload_is_wrong = refl

tunnel_packet_with_another_payload_is_right : breaks (a_header Nea0 0 (replicate 32 0)) (before_scgf_names_another_generation ++
    an_entry (event.Submit 1 Dl (170 ∷ [])) answer.Ok (line.Send (link M A Tun) (flight.Tun (Some 0) (52 ∷ 255 ∷ 0 ∷ 15 ∷ 0 ∷ 0 ∷ 1 ∷ 0 ∷ 0 ∷ 0 ∷ 0 ∷ 132 ∷ 2 ∷ 1 ∷ 0 ∷ 0 ∷ 0 ∷ 0 ∷ 0 ∷ 0 ∷ 128 ∷ 0 ∷ 170 ∷ [])) ∷ [])
    ∷ []) ≡ []
unfolding sn window modulus distance count_for data_pdu decoded read_data read_report keystream counter_block stream_blocks report_pdu
tunnel_packet_with_another_payload_is_right = refl

tunnel_to_the_node_that_is_no_secondary_is_wrong : breaks (a_header Nea0 0 (replicate 32 0)) (before_scgf_names_another_generation ++
    an_entry (event.Submit 1 Dl (170 ∷ [])) answer.Ok (line.Send (link M B Tun) (flight.Tun (Some 0) (52 ∷ 255 ∷ 0 ∷ 15 ∷ 0 ∷ 0 ∷ 1 ∷ 0 ∷ 0 ∷ 0 ∷ 0 ∷ 132 ∷ 2 ∷ 1 ∷ 0 ∷ 0 ∷ 0 ∷ 0 ∷ 0 ∷ 0 ∷ 128 ∷ 0 ∷ 170 ∷ [])) ∷ [])
    ∷ []) ≡ licensed ∷ []
unfolding sn window modulus distance count_for data_pdu decoded read_data read_report keystream counter_block stream_blocks report_pdu
tunnel_to_the_node_that_is_no_secondary_is_wrong = refl

tunnel_to_the_node_that_is_no_secondary_is_right : breaks (a_header Nea0 0 (replicate 32 0)) (before_scgf_names_another_generation ++
    an_entry (event.Submit 1 Dl (170 ∷ [])) answer.Ok (line.Send (link M A Tun) (flight.Tun (Some 0) (52 ∷ 255 ∷ 0 ∷ 15 ∷ 0 ∷ 0 ∷ 1 ∷ 0 ∷ 0 ∷ 0 ∷ 0 ∷ 132 ∷ 2 ∷ 1 ∷ 0 ∷ 0 ∷ 0 ∷ 0 ∷ 0 ∷ 0 ∷ 128 ∷ 0 ∷ 170 ∷ [])) ∷ [])
    ∷ []) ≡ []
unfolding sn window modulus distance count_for data_pdu decoded read_data read_report keystream counter_block stream_blocks report_pdu
tunnel_to_the_node_that_is_no_secondary_is_right = refl

two_acks_of_one_pdu_is_wrong : breaks (a_header Nea0 0 (replicate 32 0)) (before_send_line_before_the_up_line ++
    an_entry (event.Step (link M T Air) 0) answer.Ok (line.Note (note.Up T 1 Dl 0 (104 ∷ 105 ∷ [])) ∷ line.Send (link T M Air) (flight.Ack 1 1 0) ∷ line.Send (link T M Air) (flight.Ack 1 1 0) ∷ [])
    ∷ []) ≡ licensed ∷ []
unfolding sn window modulus distance count_for data_pdu decoded read_data read_report keystream counter_block stream_blocks report_pdu
two_acks_of_one_pdu_is_wrong = refl

two_acks_of_one_pdu_is_right : breaks (a_header Nea0 0 (replicate 32 0)) (before_send_line_before_the_up_line ++
    an_entry (event.Step (link M T Air) 0) answer.Ok (line.Note (note.Up T 1 Dl 0 (104 ∷ 105 ∷ [])) ∷ line.Send (link T M Air) (flight.Ack 1 1 0) ∷ [])
    ∷ []) ≡ []
unfolding sn window modulus distance count_for data_pdu decoded read_data read_report keystream counter_block stream_blocks report_pdu
two_acks_of_one_pdu_is_right = refl

two_copies_for_one_again_is_wrong : breaks (a_header Nea0 0 (replicate 32 0)) (before_sends_of_one_event_out_of_link_order ++
    an_entry (event.Again (link M A Tun) 0) answer.Ok (line.Send (link M A Tun) (flight.Tun (Some 0) (52 ∷ 255 ∷ 0 ∷ 15 ∷ 0 ∷ 0 ∷ 1 ∷ 0 ∷ 0 ∷ 0 ∷ 0 ∷ 132 ∷ 2 ∷ 1 ∷ 0 ∷ 0 ∷ 0 ∷ 0 ∷ 0 ∷ 0 ∷ 128 ∷ 0 ∷ 170 ∷ [])) ∷ line.Send (link M A Tun) (flight.Tun (Some 0) (52 ∷ 255 ∷ 0 ∷ 15 ∷ 0 ∷ 0 ∷ 1 ∷ 0 ∷ 0 ∷ 0 ∷ 0 ∷ 132 ∷ 2 ∷ 1 ∷ 0 ∷ 0 ∷ 0 ∷ 0 ∷ 0 ∷ 0 ∷ 128 ∷ 0 ∷ 170 ∷ [])) ∷ [])
    ∷ []) ≡ licensed ∷ come ∷ []
unfolding sn window modulus distance count_for data_pdu decoded read_data read_report keystream counter_block stream_blocks report_pdu
two_copies_for_one_again_is_wrong = refl

two_copies_for_one_again_is_right : breaks (a_header Nea0 0 (replicate 32 0)) (before_sends_of_one_event_out_of_link_order ++
    an_entry (event.Again (link M A Tun) 0) answer.Ok (line.Send (link M A Tun) (flight.Tun (Some 0) (52 ∷ 255 ∷ 0 ∷ 15 ∷ 0 ∷ 0 ∷ 1 ∷ 0 ∷ 0 ∷ 0 ∷ 0 ∷ 132 ∷ 2 ∷ 1 ∷ 0 ∷ 0 ∷ 0 ∷ 0 ∷ 0 ∷ 0 ∷ 128 ∷ 0 ∷ 170 ∷ [])) ∷ [])
    ∷ []) ≡ []
unfolding sn window modulus distance count_for data_pdu decoded read_data read_report keystream counter_block stream_blocks report_pdu
two_copies_for_one_again_is_right = refl

-- what comes before
abbrev before_two_delivery_statuses_for_one_ack : List Entry
before_two_delivery_statuses_for_one_ack =
    an_entry (event.Add A) answer.Ok (line.Send (link M A Ctl) (flight.Ctl (rec.Addreq (a_plan 1 (Some A) []) [])) ∷ [])
    ∷ an_entry (event.Step (link M A Ctl) 0) answer.Ok (line.Note (note.Join A 1) ∷ line.Send (link A M Ctl) (flight.Ctl (rec.Addack 1)) ∷ [])
    ∷ an_entry (event.Step (link A M Ctl) 0) answer.Ok (line.Send (link M T Ctl) (flight.Ctl (rec.Reconf (a_plan 1 (Some A) []) [])) ∷ [])
    ∷ an_entry (event.Step (link M T Ctl) 0) answer.Ok (line.Send (link T M Ctl) (flight.Ctl (rec.Rcomp 1)) ∷ [])
    ∷ an_entry (event.Step (link T M Ctl) 0) answer.Ok (line.Send (link M A Ctl) (flight.Ctl (rec.Recfg 1)) ∷ line.Note note.Done ∷ [])
    ∷ an_entry (event.Step (link M A Ctl) 0) answer.Ok []
    ∷ an_entry (event.Bearer 1 S12 0 (a_shape false Scg false) 0 0) answer.Ok (line.Send (link M A Ctl) (flight.Ctl (rec.Modreq (a_plan 2 (Some A) (Set 1 S12 0 (a_shape false Scg false) 0 0 (a_key 0 Master) None ∷ [])) [])) ∷ [])
    ∷ an_entry (event.Step (link M A Ctl) 0) answer.Ok (line.Send (link A M Ctl) (flight.Ctl (rec.Modack 2)) ∷ [])
    ∷ an_entry (event.Step (link A M Ctl) 0) answer.Ok (line.Note (note.Own M 1 2) ∷ line.Send (link M T Ctl) (flight.Ctl (rec.Reconf (a_plan 2 (Some A) (Set 1 S12 0 (a_shape false Scg false) 0 0 (a_key 0 Master) None ∷ [])) [])) ∷ [])
    ∷ an_entry (event.Step (link M T Ctl) 0) answer.Ok (line.Note (note.Set 1 2) ∷ line.Send (link T M Ctl) (flight.Ctl (rec.Rcomp 2)) ∷ [])
    ∷ an_entry (event.Step (link T M Ctl) 0) answer.Ok (line.Send (link M A Ctl) (flight.Ctl (rec.Recfg 2)) ∷ line.Note note.Done ∷ [])
    ∷ an_entry (event.Step (link M A Ctl) 0) answer.Ok []
    ∷ an_entry (event.Submit 1 Dl (170 ∷ [])) answer.Ok (line.Send (link M A Tun) (flight.Tun (Some 0) (52 ∷ 255 ∷ 0 ∷ 15 ∷ 0 ∷ 0 ∷ 1 ∷ 0 ∷ 0 ∷ 0 ∷ 0 ∷ 132 ∷ 2 ∷ 1 ∷ 0 ∷ 0 ∷ 0 ∷ 0 ∷ 0 ∷ 0 ∷ 128 ∷ 0 ∷ 170 ∷ [])) ∷ [])
    ∷ an_entry (event.Step (link M A Tun) 0) answer.Ok (line.Send (link A T Air) (flight.Air 1 2 0 (Some 0) (128 ∷ 0 ∷ 170 ∷ [])) ∷ [])
    ∷ an_entry (event.Step (link A T Air) 0) answer.Ok (line.Note (note.Up T 1 Dl 0 (170 ∷ [])) ∷ line.Send (link T A Air) (flight.Ack 1 2 0) ∷ [])
    ∷ []

two_delivery_statuses_for_one_ack_is_wrong : breaks (a_header Nea0 0 (replicate 32 0)) (before_two_delivery_statuses_for_one_ack ++
    an_entry (event.Step (link T A Air) 0) answer.Ok (line.Send (link A M Tun) (flight.Tun (Some 0) (52 ∷ 255 ∷ 0 ∷ 12 ∷ 0 ∷ 0 ∷ 1 ∷ 0 ∷ 0 ∷ 0 ∷ 0 ∷ 132 ∷ 2 ∷ 17 ∷ 0 ∷ 0 ∷ 0 ∷ 0 ∷ 0 ∷ 0 ∷ [])) ∷ line.Send (link A M Tun) (flight.Tun (Some 0) (52 ∷ 255 ∷ 0 ∷ 12 ∷ 0 ∷ 0 ∷ 1 ∷ 0 ∷ 0 ∷ 0 ∷ 0 ∷ 132 ∷ 2 ∷ 17 ∷ 0 ∷ 0 ∷ 0 ∷ 0 ∷ 0 ∷ 0 ∷ [])) ∷ [])
    ∷ []) ≡ licensed ∷ []
unfolding sn window modulus distance count_for data_pdu decoded read_data read_report keystream counter_block stream_blocks report_pdu
two_delivery_statuses_for_one_ack_is_wrong = refl

two_delivery_statuses_for_one_ack_is_right : breaks (a_header Nea0 0 (replicate 32 0)) (before_two_delivery_statuses_for_one_ack ++
    an_entry (event.Step (link T A Air) 0) answer.Ok (line.Send (link A M Tun) (flight.Tun (Some 0) (52 ∷ 255 ∷ 0 ∷ 12 ∷ 0 ∷ 0 ∷ 1 ∷ 0 ∷ 0 ∷ 0 ∷ 0 ∷ 132 ∷ 2 ∷ 17 ∷ 0 ∷ 0 ∷ 0 ∷ 0 ∷ 0 ∷ 0 ∷ [])) ∷ [])
    ∷ []) ≡ []
unfolding sn window modulus distance count_for data_pdu decoded read_data read_report keystream counter_block stream_blocks report_pdu
two_delivery_statuses_for_one_ack_is_right = refl

-- what comes before
abbrev before_two_records_of_one_plan_differ : List Entry
before_two_records_of_one_plan_differ =
    an_entry (event.Add A) answer.Ok (line.Send (link M A Ctl) (flight.Ctl (rec.Addreq (a_plan 1 (Some A) []) [])) ∷ [])
    ∷ an_entry (event.Step (link M A Ctl) 0) answer.Ok (line.Note (note.Join A 1) ∷ line.Send (link A M Ctl) (flight.Ctl (rec.Addack 1)) ∷ [])
    ∷ an_entry (event.Step (link A M Ctl) 0) answer.Ok (line.Send (link M T Ctl) (flight.Ctl (rec.Reconf (a_plan 1 (Some A) []) [])) ∷ [])
    ∷ an_entry (event.Step (link M T Ctl) 0) answer.Ok (line.Send (link T M Ctl) (flight.Ctl (rec.Rcomp 1)) ∷ [])
    ∷ an_entry (event.Step (link T M Ctl) 0) answer.Ok (line.Send (link M A Ctl) (flight.Ctl (rec.Recfg 1)) ∷ line.Note note.Done ∷ [])
    ∷ an_entry (event.Step (link M A Ctl) 0) answer.Ok []
    ∷ an_entry (event.Bearer 1 S12 0 (a_shape true Scg false) 0 0) answer.Ok (line.Send (link M A Ctl) (flight.Ctl (rec.Modreq (a_plan 2 (Some A) (Set 1 S12 0 (a_shape true Scg false) 0 0 (a_key 0 (SecondKey 0)) None ∷ [])) [])) ∷ [])
    ∷ an_entry (event.Step (link M A Ctl) 0) answer.Ok (line.Note (note.Own A 1 2) ∷ line.Send (link A M Ctl) (flight.Ctl (rec.Modack 2)) ∷ [])
    ∷ []

two_records_of_one_plan_differ_is_wrong : breaks (a_header Nea0 0 (replicate 32 0)) (before_two_records_of_one_plan_differ ++
    an_entry (event.Step (link A M Ctl) 0) answer.Ok (line.Send (link M T Ctl) (flight.Ctl (rec.Reconf (a_plan 2 (Some A) (Set 1 S12 0 (a_shape true Scg false) 0 0 (a_key 0 (SecondKey 1)) None ∷ [])) [])) ∷ [])
    ∷ []) ≡ planned ∷ []
unfolding sn window modulus distance count_for data_pdu decoded read_data read_report keystream counter_block stream_blocks report_pdu
two_records_of_one_plan_differ_is_wrong = refl

two_records_of_one_plan_differ_is_right : breaks (a_header Nea0 0 (replicate 32 0)) (before_two_records_of_one_plan_differ ++
    an_entry (event.Step (link A M Ctl) 0) answer.Ok (line.Send (link M T Ctl) (flight.Ctl (rec.Reconf (a_plan 2 (Some A) (Set 1 S12 0 (a_shape true Scg false) 0 0 (a_key 0 (SecondKey 0)) None ∷ [])) [])) ∷ [])
    ∷ []) ≡ []
unfolding sn window modulus distance count_for data_pdu decoded read_data read_report keystream counter_block stream_blocks report_pdu
two_records_of_one_plan_differ_is_right = refl

two_reports_for_one_report_event_is_wrong : breaks (a_header Nea0 0 (replicate 32 0)) (before_snst_without_a_move ++
    an_entry (event.Report M 1) answer.Ok (line.Send (link M T Air) (flight.Air 1 1 0 None (0 ∷ 0 ∷ 0 ∷ 0 ∷ 0 ∷ [])) ∷ line.Send (link M T Air) (flight.Air 1 1 1 None (0 ∷ 0 ∷ 0 ∷ 0 ∷ 0 ∷ [])) ∷ [])
    ∷ []) ≡ licensed ∷ []
unfolding sn window modulus distance count_for data_pdu decoded read_data read_report keystream counter_block stream_blocks report_pdu
two_reports_for_one_report_event_is_wrong = refl

two_reports_for_one_report_event_is_right : breaks (a_header Nea0 0 (replicate 32 0)) (before_snst_without_a_move ++
    an_entry (event.Report M 1) answer.Ok (line.Send (link M T Air) (flight.Air 1 1 0 None (0 ∷ 0 ∷ 0 ∷ 0 ∷ 0 ∷ [])) ∷ [])
    ∷ []) ≡ []
unfolding sn window modulus distance count_for data_pdu decoded read_data read_report keystream counter_block stream_blocks report_pdu
two_reports_for_one_report_event_is_right = refl

-- what comes before
abbrev before_uecr_twice : List Entry
before_uecr_twice =
    an_entry (event.Add A) answer.Ok (line.Send (link M A Ctl) (flight.Ctl (rec.Addreq (a_plan 1 (Some A) []) [])) ∷ [])
    ∷ an_entry (event.Step (link M A Ctl) 0) answer.Ok (line.Note (note.Join A 1) ∷ line.Send (link A M Ctl) (flight.Ctl (rec.Addack 1)) ∷ [])
    ∷ an_entry (event.Step (link A M Ctl) 0) answer.Ok (line.Send (link M T Ctl) (flight.Ctl (rec.Reconf (a_plan 1 (Some A) []) [])) ∷ [])
    ∷ an_entry (event.Step (link M T Ctl) 0) answer.Ok (line.Send (link T M Ctl) (flight.Ctl (rec.Rcomp 1)) ∷ [])
    ∷ an_entry (event.Step (link T M Ctl) 0) answer.Ok (line.Send (link M A Ctl) (flight.Ctl (rec.Recfg 1)) ∷ line.Note note.Done ∷ [])
    ∷ an_entry (event.Step (link M A Ctl) 0) answer.Ok []
    ∷ an_entry (event.Release) answer.Ok (line.Send (link M A Ctl) (flight.Ctl (rec.Relreq (a_plan 2 None []))) ∷ [])
    ∷ an_entry (event.Step (link M A Ctl) 0) answer.Ok (line.Note (note.Leave A 2) ∷ line.Send (link A M Ctl) (flight.Ctl (rec.Relack 2)) ∷ [])
    ∷ an_entry (event.Step (link A M Ctl) 0) answer.Ok (line.Send (link M T Ctl) (flight.Ctl (rec.Reconf (a_plan 2 None []) [])) ∷ [])
    ∷ an_entry (event.Step (link M T Ctl) 0) answer.Ok (line.Send (link T M Ctl) (flight.Ctl (rec.Rcomp 2)) ∷ [])
    ∷ []

uecr_twice_is_wrong : breaks (a_header Nea0 0 (replicate 32 0)) (before_uecr_twice ++
    an_entry (event.Step (link T M Ctl) 0) answer.Ok (line.Send (link M A Ctl) (flight.Ctl (rec.Uecr 2)) ∷ line.Send (link M A Ctl) (flight.Ctl (rec.Uecr 2)) ∷ line.Note note.Done ∷ [])
    ∷ []) ≡ licensed ∷ []
unfolding sn window modulus distance count_for data_pdu decoded read_data read_report keystream counter_block stream_blocks report_pdu
uecr_twice_is_wrong = refl

uecr_twice_is_right : breaks (a_header Nea0 0 (replicate 32 0)) (before_uecr_twice ++
    an_entry (event.Step (link T M Ctl) 0) answer.Ok (line.Send (link M A Ctl) (flight.Ctl (rec.Uecr 2)) ∷ line.Note note.Done ∷ [])
    ∷ []) ≡ []
unfolding sn window modulus distance count_for data_pdu decoded read_data read_report keystream counter_block stream_blocks report_pdu
uecr_twice_is_right = refl

-- what comes before
abbrev before_uecr_without_a_release : List Entry
before_uecr_without_a_release =
    an_entry (event.Add A) answer.Ok (line.Send (link M A Ctl) (flight.Ctl (rec.Addreq (a_plan 1 (Some A) []) [])) ∷ [])
    ∷ an_entry (event.Step (link M A Ctl) 0) answer.Ok (line.Note (note.Join A 1) ∷ line.Send (link A M Ctl) (flight.Ctl (rec.Addack 1)) ∷ [])
    ∷ an_entry (event.Step (link A M Ctl) 0) answer.Ok (line.Send (link M T Ctl) (flight.Ctl (rec.Reconf (a_plan 1 (Some A) []) [])) ∷ [])
    ∷ an_entry (event.Step (link M T Ctl) 0) answer.Ok (line.Send (link T M Ctl) (flight.Ctl (rec.Rcomp 1)) ∷ [])
    ∷ []

uecr_without_a_release_is_wrong : breaks (a_header Nea0 0 (replicate 32 0)) (before_uecr_without_a_release ++
    an_entry (event.Step (link T M Ctl) 0) answer.Ok (line.Send (link M A Ctl) (flight.Ctl (rec.Recfg 1)) ∷ line.Send (link M A Ctl) (flight.Ctl (rec.Uecr 1)) ∷ line.Note note.Done ∷ [])
    ∷ []) ≡ licensed ∷ []
unfolding sn window modulus distance count_for data_pdu decoded read_data read_report keystream counter_block stream_blocks report_pdu
uecr_without_a_release_is_wrong = refl

uecr_without_a_release_is_right : breaks (a_header Nea0 0 (replicate 32 0)) (before_uecr_without_a_release ++
    an_entry (event.Step (link T M Ctl) 0) answer.Ok (line.Send (link M A Ctl) (flight.Ctl (rec.Recfg 1)) ∷ line.Note note.Done ∷ [])
    ∷ []) ≡ []
unfolding sn window modulus distance count_for data_pdu decoded read_data read_report keystream counter_block stream_blocks report_pdu
uecr_without_a_release_is_right = refl

undisturbed_and_never_handed_up_is_wrong : breaks (a_header Nea0 0 (replicate 32 0)) (before_send_line_before_the_up_line ++
    an_entry (event.Step (link M T Air) 0) answer.Ok (line.Send (link T M Air) (flight.Ack 1 1 0) ∷ [])
    ∷ an_entry (event.Step (link T M Air) 0) answer.Ok (line.Note (note.Freed 1 Dl 1) ∷ [])
    ∷ []) ≡ drained ∷ windowed ∷ all_of_it ∷ []
unfolding sn window modulus distance count_for data_pdu decoded read_data read_report keystream counter_block stream_blocks report_pdu
undisturbed_and_never_handed_up_is_wrong = refl

undisturbed_and_never_handed_up_is_right : breaks (a_header Nea0 0 (replicate 32 0)) (before_send_line_before_the_up_line ++
    an_entry (event.Step (link M T Air) 0) answer.Ok (line.Note (note.Up T 1 Dl 0 (104 ∷ 105 ∷ [])) ∷ line.Send (link T M Air) (flight.Ack 1 1 0) ∷ [])
    ∷ an_entry (event.Step (link T M Air) 0) answer.Ok (line.Note (note.Freed 1 Dl 1) ∷ [])
    ∷ []) ≡ []
unfolding sn window modulus distance count_for data_pdu decoded read_data read_report keystream counter_block stream_blocks report_pdu
undisturbed_and_never_handed_up_is_right = refl

-- what comes before
abbrev before_undisturbed_uplink_not_handed_up : List Entry
before_undisturbed_uplink_not_handed_up =
    an_entry (event.Add A) answer.Ok (line.Send (link M A Ctl) (flight.Ctl (rec.Addreq (a_plan 1 (Some A) []) [])) ∷ [])
    ∷ an_entry (event.Step (link M A Ctl) 0) answer.Ok (line.Note (note.Join A 1) ∷ line.Send (link A M Ctl) (flight.Ctl (rec.Addack 1)) ∷ [])
    ∷ an_entry (event.Step (link A M Ctl) 0) answer.Ok (line.Send (link M T Ctl) (flight.Ctl (rec.Reconf (a_plan 1 (Some A) []) [])) ∷ [])
    ∷ an_entry (event.Step (link M T Ctl) 0) answer.Ok (line.Send (link T M Ctl) (flight.Ctl (rec.Rcomp 1)) ∷ [])
    ∷ an_entry (event.Step (link T M Ctl) 0) answer.Ok (line.Send (link M A Ctl) (flight.Ctl (rec.Recfg 1)) ∷ line.Note note.Done ∷ [])
    ∷ an_entry (event.Step (link M A Ctl) 0) answer.Ok []
    ∷ an_entry (event.Bearer 1 S12 0 (a_shape false Scg false) 0 0) answer.Ok (line.Send (link M A Ctl) (flight.Ctl (rec.Modreq (a_plan 2 (Some A) (Set 1 S12 0 (a_shape false Scg false) 0 0 (a_key 0 Master) None ∷ [])) [])) ∷ [])
    ∷ an_entry (event.Step (link M A Ctl) 0) answer.Ok (line.Send (link A M Ctl) (flight.Ctl (rec.Modack 2)) ∷ [])
    ∷ an_entry (event.Step (link A M Ctl) 0) answer.Ok (line.Note (note.Own M 1 2) ∷ line.Send (link M T Ctl) (flight.Ctl (rec.Reconf (a_plan 2 (Some A) (Set 1 S12 0 (a_shape false Scg false) 0 0 (a_key 0 Master) None ∷ [])) [])) ∷ [])
    ∷ an_entry (event.Step (link M T Ctl) 0) answer.Ok (line.Note (note.Set 1 2) ∷ line.Send (link T M Ctl) (flight.Ctl (rec.Rcomp 2)) ∷ [])
    ∷ an_entry (event.Step (link T M Ctl) 0) answer.Ok (line.Send (link M A Ctl) (flight.Ctl (rec.Recfg 2)) ∷ line.Note note.Done ∷ [])
    ∷ an_entry (event.Step (link M A Ctl) 0) answer.Ok []
    ∷ an_entry (event.Submit 1 Ul (187 ∷ [])) answer.Ok (line.Send (link T A Air) (flight.Air 1 2 0 (Some 0) (128 ∷ 0 ∷ 187 ∷ [])) ∷ [])
    ∷ an_entry (event.Step (link T A Air) 0) answer.Ok (line.Send (link A T Air) (flight.Ack 1 2 0) ∷ line.Send (link A M Tun) (flight.Tun (Some 0) (48 ∷ 255 ∷ 0 ∷ 3 ∷ 0 ∷ 0 ∷ 1 ∷ 0 ∷ 128 ∷ 0 ∷ 187 ∷ [])) ∷ [])
    ∷ an_entry (event.Step (link A T Air) 0) answer.Ok []
    ∷ []

undisturbed_uplink_not_handed_up_is_wrong : breaks (a_header Nea0 0 (replicate 32 0)) (before_undisturbed_uplink_not_handed_up ++
    an_entry (event.Step (link A M Tun) 0) answer.Ok []
    ∷ []) ≡ drained ∷ all_of_it ∷ []
unfolding sn window modulus distance count_for data_pdu decoded read_data read_report keystream counter_block stream_blocks report_pdu
undisturbed_uplink_not_handed_up_is_wrong = refl

undisturbed_uplink_not_handed_up_is_right : breaks (a_header Nea0 0 (replicate 32 0)) (before_undisturbed_uplink_not_handed_up ++
    an_entry (event.Step (link A M Tun) 0) answer.Ok (line.Note (note.Up M 1 Ul 0 (187 ∷ [])) ∷ [])
    ∷ []) ≡ []
unfolding sn window modulus distance count_for data_pdu decoded read_data read_report keystream counter_block stream_blocks report_pdu
undisturbed_uplink_not_handed_up_is_right = refl

-- what comes before
abbrev before_unset_line_missing : List Entry
before_unset_line_missing =
    an_entry (event.Bearer 1 S12 0 (a_shape false Mcg false) 0 0) answer.Ok (line.Note (note.Own M 1 1) ∷ line.Send (link M T Ctl) (flight.Ctl (rec.Reconf (a_plan 1 None (Set 1 S12 0 (a_shape false Mcg false) 0 0 (a_key 0 Master) None ∷ [])) [])) ∷ [])
    ∷ an_entry (event.Step (link M T Ctl) 0) answer.Ok (line.Note (note.Set 1 1) ∷ line.Send (link T M Ctl) (flight.Ctl (rec.Rcomp 1)) ∷ [])
    ∷ an_entry (event.Step (link T M Ctl) 0) answer.Ok (line.Note note.Done ∷ [])
    ∷ an_entry (event.Remove 1) answer.Ok (line.Send (link M T Ctl) (flight.Ctl (rec.Reconf (a_plan 2 None (Unset 1 ∷ [])) [])) ∷ [])
    ∷ []

unset_line_missing_is_wrong : breaks (a_header Nea0 0 (replicate 32 0)) (before_unset_line_missing ++
    an_entry (event.Step (link M T Ctl) 0) answer.Ok (line.Send (link T M Ctl) (flight.Ctl (rec.Rcomp 2)) ∷ [])
    ∷ []) ≡ come ∷ []
unfolding sn window modulus distance count_for data_pdu decoded read_data read_report keystream counter_block stream_blocks report_pdu
unset_line_missing_is_wrong = refl

unset_line_missing_is_right : breaks (a_header Nea0 0 (replicate 32 0)) (before_unset_line_missing ++
    an_entry (event.Step (link M T Ctl) 0) answer.Ok (line.Note (note.Unset 1) ∷ line.Send (link T M Ctl) (flight.Ctl (rec.Rcomp 2)) ∷ [])
    ∷ []) ≡ []
unfolding sn window modulus distance count_for data_pdu decoded read_data read_report keystream counter_block stream_blocks report_pdu
unset_line_missing_is_right = refl

unset_line_without_a_drop_is_wrong : breaks (a_header Nea0 0 (replicate 32 0)) (
    an_entry (event.Bearer 1 S12 0 (a_shape false Mcg false) 0 0) answer.Ok (line.Note (note.Own M 1 1) ∷ line.Note (note.Unset 4) ∷ line.Send (link M T Ctl) (flight.Ctl (rec.Reconf (a_plan 1 None (Set 1 S12 0 (a_shape false Mcg false) 0 0 (a_key 0 Master) None ∷ [])) [])) ∷ [])
    ∷ []) ≡ placed ∷ []
unfolding sn window modulus distance count_for data_pdu decoded read_data read_report keystream counter_block stream_blocks report_pdu
unset_line_without_a_drop_is_wrong = refl

unset_line_without_a_drop_is_right : breaks (a_header Nea0 0 (replicate 32 0)) (
    an_entry (event.Bearer 1 S12 0 (a_shape false Mcg false) 0 0) answer.Ok (line.Note (note.Own M 1 1) ∷ line.Send (link M T Ctl) (flight.Ctl (rec.Reconf (a_plan 1 None (Set 1 S12 0 (a_shape false Mcg false) 0 0 (a_key 0 Master) None ∷ [])) [])) ∷ [])
    ∷ []) ≡ []
unfolding sn window modulus distance count_for data_pdu decoded read_data read_report keystream counter_block stream_blocks report_pdu
unset_line_without_a_drop_is_right = refl

up_in_the_entry_of_the_bearer_command_is_wrong : breaks (a_header Nea0 0 (replicate 32 0)) (
    an_entry (event.Bearer 1 S12 0 (a_shape false Mcg false) 0 0) answer.Ok (line.Note (note.Own M 1 1) ∷ line.Note (note.Up T 1 Dl 0 (222 ∷ 173 ∷ [])) ∷ line.Send (link M T Ctl) (flight.Ctl (rec.Reconf (a_plan 1 None (Set 1 S12 0 (a_shape false Mcg false) 0 0 (a_key 0 Master) None ∷ [])) [])) ∷ [])
    ∷ []) ≡ carried ∷ front ∷ windowed ∷ []
unfolding sn window modulus distance count_for data_pdu decoded read_data read_report keystream counter_block stream_blocks report_pdu
up_in_the_entry_of_the_bearer_command_is_wrong = refl

up_in_the_entry_of_the_bearer_command_is_right : breaks (a_header Nea0 0 (replicate 32 0)) (
    an_entry (event.Bearer 1 S12 0 (a_shape false Mcg false) 0 0) answer.Ok (line.Note (note.Own M 1 1) ∷ line.Send (link M T Ctl) (flight.Ctl (rec.Reconf (a_plan 1 None (Set 1 S12 0 (a_shape false Mcg false) 0 0 (a_key 0 Master) None ∷ [])) [])) ∷ [])
    ∷ []) ≡ []
unfolding sn window modulus distance count_for data_pdu decoded read_data read_report keystream counter_block stream_blocks report_pdu
up_in_the_entry_of_the_bearer_command_is_right = refl

-- what comes before
abbrev before_up_line_counts_from_0_with_first_5 : List Entry
before_up_line_counts_from_0_with_first_5 =
    an_entry (event.Bearer 1 S12 5 (a_shape false Mcg false) 0 0) answer.Ok (line.Note (note.Own M 1 1) ∷ line.Send (link M T Ctl) (flight.Ctl (rec.Reconf (a_plan 1 None (Set 1 S12 5 (a_shape false Mcg false) 0 0 (a_key 0 Master) None ∷ [])) [])) ∷ [])
    ∷ an_entry (event.Step (link M T Ctl) 0) answer.Ok (line.Note (note.Set 1 1) ∷ line.Send (link T M Ctl) (flight.Ctl (rec.Rcomp 1)) ∷ [])
    ∷ an_entry (event.Step (link T M Ctl) 0) answer.Ok (line.Note note.Done ∷ [])
    ∷ an_entry (event.Submit 1 Dl (170 ∷ [])) answer.Ok (line.Send (link M T Air) (flight.Air 1 1 0 (Some 5) (128 ∷ 5 ∷ 170 ∷ [])) ∷ [])
    ∷ []

up_line_counts_from_0_with_first_5_is_wrong : breaks (a_header Nea0 0 (replicate 32 0)) (before_up_line_counts_from_0_with_first_5 ++
    an_entry (event.Step (link M T Air) 0) answer.Ok (line.Note (note.Up T 1 Dl 0 (170 ∷ [])) ∷ line.Send (link T M Air) (flight.Ack 1 1 0) ∷ [])
    ∷ []) ≡ carried ∷ front ∷ []
unfolding sn window modulus distance count_for data_pdu decoded read_data read_report keystream counter_block stream_blocks report_pdu
up_line_counts_from_0_with_first_5_is_wrong = refl

up_line_counts_from_0_with_first_5_is_right : breaks (a_header Nea0 0 (replicate 32 0)) (before_up_line_counts_from_0_with_first_5 ++
    an_entry (event.Step (link M T Air) 0) answer.Ok (line.Note (note.Up T 1 Dl 5 (170 ∷ [])) ∷ line.Send (link T M Air) (flight.Ack 1 1 0) ∷ [])
    ∷ []) ≡ []
unfolding sn window modulus distance count_for data_pdu decoded read_data read_report keystream counter_block stream_blocks report_pdu
up_line_counts_from_0_with_first_5_is_right = refl

-- what comes before
abbrev before_up_lines_of_one_event_in_the_wrong_order : List Entry
before_up_lines_of_one_event_in_the_wrong_order =
    an_entry (event.Bearer 1 S12 0 (a_shape false Mcg false) 0 0) answer.Ok (line.Note (note.Own M 1 1) ∷ line.Send (link M T Ctl) (flight.Ctl (rec.Reconf (a_plan 1 None (Set 1 S12 0 (a_shape false Mcg false) 0 0 (a_key 0 Master) None ∷ [])) [])) ∷ [])
    ∷ an_entry (event.Step (link M T Ctl) 0) answer.Ok (line.Note (note.Set 1 1) ∷ line.Send (link T M Ctl) (flight.Ctl (rec.Rcomp 1)) ∷ [])
    ∷ an_entry (event.Step (link T M Ctl) 0) answer.Ok (line.Note note.Done ∷ [])
    ∷ an_entry (event.Submit 1 Dl (170 ∷ [])) answer.Ok (line.Send (link M T Air) (flight.Air 1 1 0 (Some 0) (128 ∷ 0 ∷ 170 ∷ [])) ∷ [])
    ∷ an_entry (event.Submit 1 Dl (187 ∷ [])) answer.Ok (line.Send (link M T Air) (flight.Air 1 1 1 (Some 1) (128 ∷ 1 ∷ 187 ∷ [])) ∷ [])
    ∷ an_entry (event.Step (link M T Air) 1) answer.Ok (line.Send (link T M Air) (flight.Ack 1 1 1) ∷ [])
    ∷ []

up_lines_of_one_event_in_the_wrong_order_is_wrong : breaks (a_header Nea0 0 (replicate 32 0)) (before_up_lines_of_one_event_in_the_wrong_order ++
    an_entry (event.Step (link M T Air) 0) answer.Ok (line.Note (note.Up T 1 Dl 1 (187 ∷ [])) ∷ line.Note (note.Up T 1 Dl 0 (170 ∷ [])) ∷ line.Send (link T M Air) (flight.Ack 1 1 0) ∷ [])
    ∷ []) ≡ front ∷ ordered ∷ []
unfolding sn window modulus distance count_for data_pdu decoded read_data read_report keystream counter_block stream_blocks report_pdu
up_lines_of_one_event_in_the_wrong_order_is_wrong = refl

up_lines_of_one_event_in_the_wrong_order_is_right : breaks (a_header Nea0 0 (replicate 32 0)) (before_up_lines_of_one_event_in_the_wrong_order ++
    an_entry (event.Step (link M T Air) 0) answer.Ok (line.Note (note.Up T 1 Dl 0 (170 ∷ [])) ∷ line.Note (note.Up T 1 Dl 1 (187 ∷ [])) ∷ line.Send (link T M Air) (flight.Ack 1 1 0) ∷ [])
    ∷ []) ≡ []
unfolding sn window modulus distance count_for data_pdu decoded read_data read_report keystream counter_block stream_blocks report_pdu
up_lines_of_one_event_in_the_wrong_order_is_right = refl

up_of_an_identity_never_set_up_is_wrong : breaks (a_header Nea0 0 (replicate 32 0)) (
    an_entry (event.Submit 7 Dl (0 ∷ [])) (answer.No refusal.NoBearer) (line.Note (note.Up T 7 Dl 0 (222 ∷ 173 ∷ [])) ∷ [])
    ∷ []) ≡ carried ∷ front ∷ []
unfolding sn window modulus distance count_for data_pdu decoded read_data read_report keystream counter_block stream_blocks report_pdu
up_of_an_identity_never_set_up_is_wrong = refl

up_of_an_identity_never_set_up_is_right : breaks (a_header Nea0 0 (replicate 32 0)) (
    an_entry (event.Submit 7 Dl (0 ∷ [])) (answer.No refusal.NoBearer) []
    ∷ []) ≡ []
unfolding sn window modulus distance count_for data_pdu decoded read_data read_report keystream counter_block stream_blocks report_pdu
up_of_an_identity_never_set_up_is_right = refl

-- what comes before
abbrev before_uplink_freed_at_an_ack : List Entry
before_uplink_freed_at_an_ack =
    an_entry (event.Bearer 1 S12 0 (a_shape false Mcg false) 0 0) answer.Ok (line.Note (note.Own M 1 1) ∷ line.Send (link M T Ctl) (flight.Ctl (rec.Reconf (a_plan 1 None (Set 1 S12 0 (a_shape false Mcg false) 0 0 (a_key 0 Master) None ∷ [])) [])) ∷ [])
    ∷ an_entry (event.Step (link M T Ctl) 0) answer.Ok (line.Note (note.Set 1 1) ∷ line.Send (link T M Ctl) (flight.Ctl (rec.Rcomp 1)) ∷ [])
    ∷ an_entry (event.Step (link T M Ctl) 0) answer.Ok (line.Note note.Done ∷ [])
    ∷ an_entry (event.Submit 1 Ul (170 ∷ [])) answer.Ok (line.Send (link T M Air) (flight.Air 1 1 0 (Some 0) (128 ∷ 0 ∷ 170 ∷ [])) ∷ [])
    ∷ an_entry (event.Step (link T M Air) 0) answer.Ok (line.Note (note.Up M 1 Ul 0 (170 ∷ [])) ∷ line.Send (link M T Air) (flight.Ack 1 1 0) ∷ [])
    ∷ []

uplink_freed_at_an_ack_is_wrong : breaks (a_header Nea0 0 (replicate 32 0)) (before_uplink_freed_at_an_ack ++
    an_entry (event.Step (link M T Air) 0) answer.Ok (line.Note (note.Freed 1 Ul 1) ∷ [])
    ∷ []) ≡ told ∷ []
unfolding sn window modulus distance count_for data_pdu decoded read_data read_report keystream counter_block stream_blocks report_pdu
uplink_freed_at_an_ack_is_wrong = refl

uplink_freed_at_an_ack_is_right : breaks (a_header Nea0 0 (replicate 32 0)) (before_uplink_freed_at_an_ack ++
    an_entry (event.Step (link M T Air) 0) answer.Ok []
    ∷ []) ≡ []
unfolding sn window modulus distance count_for data_pdu decoded read_data read_report keystream counter_block stream_blocks report_pdu
uplink_freed_at_an_ack_is_right = refl

-- what comes before
abbrev before_uplink_freed_missing_at_a_report : List Entry
before_uplink_freed_missing_at_a_report =
    an_entry (event.Bearer 1 S12 0 (a_shape false Mcg false) 0 0) answer.Ok (line.Note (note.Own M 1 1) ∷ line.Send (link M T Ctl) (flight.Ctl (rec.Reconf (a_plan 1 None (Set 1 S12 0 (a_shape false Mcg false) 0 0 (a_key 0 Master) None ∷ [])) [])) ∷ [])
    ∷ an_entry (event.Step (link M T Ctl) 0) answer.Ok (line.Note (note.Set 1 1) ∷ line.Send (link T M Ctl) (flight.Ctl (rec.Rcomp 1)) ∷ [])
    ∷ an_entry (event.Step (link T M Ctl) 0) answer.Ok (line.Note note.Done ∷ [])
    ∷ an_entry (event.Submit 1 Ul (170 ∷ [])) answer.Ok (line.Send (link T M Air) (flight.Air 1 1 0 (Some 0) (128 ∷ 0 ∷ 170 ∷ [])) ∷ [])
    ∷ an_entry (event.Step (link T M Air) 0) answer.Ok (line.Note (note.Up M 1 Ul 0 (170 ∷ [])) ∷ line.Send (link M T Air) (flight.Ack 1 1 0) ∷ [])
    ∷ an_entry (event.Report M 1) answer.Ok (line.Send (link M T Air) (flight.Air 1 1 0 None (0 ∷ 0 ∷ 0 ∷ 0 ∷ 1 ∷ [])) ∷ [])
    ∷ []

uplink_freed_missing_at_a_report_is_wrong : breaks (a_header Nea0 0 (replicate 32 0)) (before_uplink_freed_missing_at_a_report ++
    an_entry (event.Step (link M T Air) 1) answer.Ok (line.Send (link T M Air) (flight.Ack 1 1 0) ∷ [])
    ∷ []) ≡ told ∷ []
unfolding sn window modulus distance count_for data_pdu decoded read_data read_report keystream counter_block stream_blocks report_pdu
uplink_freed_missing_at_a_report_is_wrong = refl

uplink_freed_missing_at_a_report_is_right : breaks (a_header Nea0 0 (replicate 32 0)) (before_uplink_freed_missing_at_a_report ++
    an_entry (event.Step (link M T Air) 1) answer.Ok (line.Note (note.Freed 1 Ul 1) ∷ line.Send (link T M Air) (flight.Ack 1 1 0) ∷ [])
    ∷ []) ≡ []
unfolding sn window modulus distance count_for data_pdu decoded read_data read_report keystream counter_block stream_blocks report_pdu
uplink_freed_missing_at_a_report_is_right = refl

uplink_pdu_on_the_air_of_the_other_node_is_wrong : breaks (a_header Nea0 0 (replicate 32 0)) (before_scgf_names_another_generation ++
    an_entry (event.Submit 1 Ul (187 ∷ [])) answer.Ok (line.Send (link T B Air) (flight.Air 1 2 0 (Some 0) (128 ∷ 0 ∷ 187 ∷ [])) ∷ [])
    ∷ []) ≡ licensed ∷ []
unfolding sn window modulus distance count_for data_pdu decoded read_data read_report keystream counter_block stream_blocks report_pdu
uplink_pdu_on_the_air_of_the_other_node_is_wrong = refl

uplink_pdu_on_the_air_of_the_other_node_is_right : breaks (a_header Nea0 0 (replicate 32 0)) (before_scgf_names_another_generation ++
    an_entry (event.Submit 1 Ul (187 ∷ [])) answer.Ok (line.Send (link T A Air) (flight.Air 1 2 0 (Some 0) (128 ∷ 0 ∷ 187 ∷ [])) ∷ [])
    ∷ []) ≡ []
unfolding sn window modulus distance count_for data_pdu decoded read_data read_report keystream counter_block stream_blocks report_pdu
uplink_pdu_on_the_air_of_the_other_node_is_right = refl

-- what comes before
abbrev before_uplink_pdu_sent_by_the_host_itself : List Entry
before_uplink_pdu_sent_by_the_host_itself =
    an_entry (event.Add A) answer.Ok (line.Send (link M A Ctl) (flight.Ctl (rec.Addreq (a_plan 1 (Some A) []) [])) ∷ [])
    ∷ an_entry (event.Step (link M A Ctl) 0) answer.Ok (line.Note (note.Join A 1) ∷ line.Send (link A M Ctl) (flight.Ctl (rec.Addack 1)) ∷ [])
    ∷ an_entry (event.Step (link A M Ctl) 0) answer.Ok (line.Send (link M T Ctl) (flight.Ctl (rec.Reconf (a_plan 1 (Some A) []) [])) ∷ [])
    ∷ an_entry (event.Step (link M T Ctl) 0) answer.Ok (line.Send (link T M Ctl) (flight.Ctl (rec.Rcomp 1)) ∷ [])
    ∷ an_entry (event.Step (link T M Ctl) 0) answer.Ok (line.Send (link M A Ctl) (flight.Ctl (rec.Recfg 1)) ∷ line.Note note.Done ∷ [])
    ∷ an_entry (event.Step (link M A Ctl) 0) answer.Ok []
    ∷ an_entry (event.Bearer 1 S12 0 (a_shape false (Split cell.Scg) false) 0 0) answer.Ok (line.Send (link M A Ctl) (flight.Ctl (rec.Modreq (a_plan 2 (Some A) (Set 1 S12 0 (a_shape false (Split cell.Scg) false) 0 0 (a_key 0 Master) None ∷ [])) [])) ∷ [])
    ∷ an_entry (event.Step (link M A Ctl) 0) answer.Ok (line.Send (link A M Ctl) (flight.Ctl (rec.Modack 2)) ∷ [])
    ∷ an_entry (event.Step (link A M Ctl) 0) answer.Ok (line.Note (note.Own M 1 2) ∷ line.Send (link M T Ctl) (flight.Ctl (rec.Reconf (a_plan 2 (Some A) (Set 1 S12 0 (a_shape false (Split cell.Scg) false) 0 0 (a_key 0 Master) None ∷ [])) [])) ∷ [])
    ∷ an_entry (event.Step (link M T Ctl) 0) answer.Ok (line.Note (note.Set 1 2) ∷ line.Send (link T M Ctl) (flight.Ctl (rec.Rcomp 2)) ∷ [])
    ∷ an_entry (event.Step (link T M Ctl) 0) answer.Ok (line.Send (link M A Ctl) (flight.Ctl (rec.Recfg 2)) ∷ line.Note note.Done ∷ [])
    ∷ []

uplink_pdu_sent_by_the_host_itself_is_wrong : breaks (a_header Nea0 0 (replicate 32 0)) (before_uplink_pdu_sent_by_the_host_itself ++
    an_entry (event.Submit 1 Ul (187 ∷ [])) answer.Ok (line.Send (link A M Tun) (flight.Tun (Some 0) (48 ∷ 255 ∷ 0 ∷ 3 ∷ 0 ∷ 0 ∷ 1 ∷ 0 ∷ 128 ∷ 0 ∷ 187 ∷ [])) ∷ [])
    ∷ []) ≡ protected ∷ licensed ∷ come ∷ []
unfolding sn window modulus distance count_for data_pdu decoded read_data read_report keystream counter_block stream_blocks report_pdu
uplink_pdu_sent_by_the_host_itself_is_wrong = refl

uplink_pdu_sent_by_the_host_itself_is_right : breaks (a_header Nea0 0 (replicate 32 0)) (before_uplink_pdu_sent_by_the_host_itself ++
    an_entry (event.Submit 1 Ul (187 ∷ [])) answer.Ok (line.Send (link T M Air) (flight.Air 1 2 0 (Some 0) (128 ∷ 0 ∷ 187 ∷ [])) ∷ [])
    ∷ []) ≡ []
unfolding sn window modulus distance count_for data_pdu decoded read_data read_report keystream counter_block stream_blocks report_pdu
uplink_pdu_sent_by_the_host_itself_is_right = refl

-- what comes before
abbrev before_uplink_report_after_unset_confirms : List Entry
before_uplink_report_after_unset_confirms =
    an_entry (event.Bearer 1 S12 0 (a_shape false Mcg false) 0 0) answer.Ok (line.Note (note.Own M 1 1) ∷ line.Send (link M T Ctl) (flight.Ctl (rec.Reconf (a_plan 1 None (Set 1 S12 0 (a_shape false Mcg false) 0 0 (a_key 0 Master) None ∷ [])) [])) ∷ [])
    ∷ an_entry (event.Step (link M T Ctl) 0) answer.Ok (line.Note (note.Set 1 1) ∷ line.Send (link T M Ctl) (flight.Ctl (rec.Rcomp 1)) ∷ [])
    ∷ an_entry (event.Step (link T M Ctl) 0) answer.Ok (line.Note note.Done ∷ [])
    ∷ an_entry (event.Submit 1 Ul (170 ∷ [])) answer.Ok (line.Send (link T M Air) (flight.Air 1 1 0 (Some 0) (128 ∷ 0 ∷ 170 ∷ [])) ∷ [])
    ∷ an_entry (event.Step (link T M Air) 0) answer.Ok (line.Note (note.Up M 1 Ul 0 (170 ∷ [])) ∷ line.Send (link M T Air) (flight.Ack 1 1 0) ∷ [])
    ∷ an_entry (event.Report M 1) answer.Ok (line.Send (link M T Air) (flight.Air 1 1 0 None (0 ∷ 0 ∷ 0 ∷ 0 ∷ 1 ∷ [])) ∷ [])
    ∷ an_entry (event.Remove 1) answer.Ok (line.Send (link M T Ctl) (flight.Ctl (rec.Reconf (a_plan 2 None (Unset 1 ∷ [])) [])) ∷ [])
    ∷ an_entry (event.Step (link M T Ctl) 0) answer.Ok (line.Note (note.Unset 1) ∷ line.Send (link T M Ctl) (flight.Ctl (rec.Rcomp 2)) ∷ [])
    ∷ []

uplink_report_after_unset_confirms_is_wrong : breaks (a_header Nea0 0 (replicate 32 0)) (before_uplink_report_after_unset_confirms ++
    an_entry (event.Step (link M T Air) 1) answer.Ok (line.Note (note.Freed 1 Ul 1) ∷ [])
    ∷ []) ≡ told ∷ []
unfolding sn window modulus distance count_for data_pdu decoded read_data read_report keystream counter_block stream_blocks report_pdu
uplink_report_after_unset_confirms_is_wrong = refl

uplink_report_after_unset_confirms_is_right : breaks (a_header Nea0 0 (replicate 32 0)) (before_uplink_report_after_unset_confirms ++
    an_entry (event.Step (link M T Air) 1) answer.Ok []
    ∷ []) ≡ []
unfolding sn window modulus distance count_for data_pdu decoded read_data read_report keystream counter_block stream_blocks report_pdu
uplink_report_after_unset_confirms_is_right = refl

-- what comes before
abbrev before_uplink_report_of_an_old_generation_confirms : List Entry
before_uplink_report_of_an_old_generation_confirms =
    an_entry (event.Bearer 1 S12 0 (a_shape false Mcg false) 0 0) answer.Ok (line.Note (note.Own M 1 1) ∷ line.Send (link M T Ctl) (flight.Ctl (rec.Reconf (a_plan 1 None (Set 1 S12 0 (a_shape false Mcg false) 0 0 (a_key 0 Master) None ∷ [])) [])) ∷ [])
    ∷ an_entry (event.Step (link M T Ctl) 0) answer.Ok (line.Note (note.Set 1 1) ∷ line.Send (link T M Ctl) (flight.Ctl (rec.Rcomp 1)) ∷ [])
    ∷ an_entry (event.Step (link T M Ctl) 0) answer.Ok (line.Note note.Done ∷ [])
    ∷ an_entry (event.Submit 1 Ul (170 ∷ [])) answer.Ok (line.Send (link T M Air) (flight.Air 1 1 0 (Some 0) (128 ∷ 0 ∷ 170 ∷ [])) ∷ [])
    ∷ an_entry (event.Step (link T M Air) 0) answer.Ok (line.Note (note.Up M 1 Ul 0 (170 ∷ [])) ∷ line.Send (link M T Air) (flight.Ack 1 1 0) ∷ [])
    ∷ an_entry (event.Report M 1) answer.Ok (line.Send (link M T Air) (flight.Air 1 1 0 None (0 ∷ 0 ∷ 0 ∷ 0 ∷ 1 ∷ [])) ∷ [])
    ∷ an_entry (event.RekeyMaster (replicate 32 17)) answer.Ok (line.Note (note.Own M 1 2) ∷ line.Send (link M T Ctl) (flight.Ctl (rec.Reconf (a_plan 2 None (Set 1 S12 0 (a_shape false Mcg false) 0 0 (a_key 1 Master) (Some M) ∷ [])) [])) ∷ [])
    ∷ an_entry (event.Step (link M T Ctl) 0) answer.Ok (line.Note (note.Set 1 2) ∷ line.Send (link T M Ctl) (flight.Ctl (rec.Rcomp 2)) ∷ line.Send (link T M Air) (flight.Air 1 2 0 (Some 0) (128 ∷ 0 ∷ 170 ∷ [])) ∷ [])
    ∷ []

uplink_report_of_an_old_generation_confirms_is_wrong : breaks (a_header Nea0 0 (replicate 32 0)) (before_uplink_report_of_an_old_generation_confirms ++
    an_entry (event.Step (link M T Air) 1) answer.Ok (line.Note (note.Freed 1 Ul 1) ∷ [])
    ∷ []) ≡ told ∷ []
unfolding sn window modulus distance count_for data_pdu decoded read_data read_report keystream counter_block stream_blocks report_pdu
uplink_report_of_an_old_generation_confirms_is_wrong = refl

uplink_report_of_an_old_generation_confirms_is_right : breaks (a_header Nea0 0 (replicate 32 0)) (before_uplink_report_of_an_old_generation_confirms ++
    an_entry (event.Step (link M T Air) 1) answer.Ok []
    ∷ []) ≡ []
unfolding sn window modulus distance count_for data_pdu decoded read_data read_report keystream counter_block stream_blocks report_pdu
uplink_report_of_an_old_generation_confirms_is_right = refl

-- what comes before
abbrev before_uplink_report_on_a_failed_leg_confirms : List Entry
before_uplink_report_on_a_failed_leg_confirms =
    an_entry (event.Add A) answer.Ok (line.Send (link M A Ctl) (flight.Ctl (rec.Addreq (a_plan 1 (Some A) []) [])) ∷ [])
    ∷ an_entry (event.Step (link M A Ctl) 0) answer.Ok (line.Note (note.Join A 1) ∷ line.Send (link A M Ctl) (flight.Ctl (rec.Addack 1)) ∷ [])
    ∷ an_entry (event.Step (link A M Ctl) 0) answer.Ok (line.Send (link M T Ctl) (flight.Ctl (rec.Reconf (a_plan 1 (Some A) []) [])) ∷ [])
    ∷ an_entry (event.Step (link M T Ctl) 0) answer.Ok (line.Send (link T M Ctl) (flight.Ctl (rec.Rcomp 1)) ∷ [])
    ∷ an_entry (event.Step (link T M Ctl) 0) answer.Ok (line.Send (link M A Ctl) (flight.Ctl (rec.Recfg 1)) ∷ line.Note note.Done ∷ [])
    ∷ an_entry (event.Step (link M A Ctl) 0) answer.Ok []
    ∷ an_entry (event.Bearer 1 S12 0 (a_shape false (Split cell.Scg) false) 0 0) answer.Ok (line.Send (link M A Ctl) (flight.Ctl (rec.Modreq (a_plan 2 (Some A) (Set 1 S12 0 (a_shape false (Split cell.Scg) false) 0 0 (a_key 0 Master) None ∷ [])) [])) ∷ [])
    ∷ an_entry (event.Step (link M A Ctl) 0) answer.Ok (line.Send (link A M Ctl) (flight.Ctl (rec.Modack 2)) ∷ [])
    ∷ an_entry (event.Step (link A M Ctl) 0) answer.Ok (line.Note (note.Own M 1 2) ∷ line.Send (link M T Ctl) (flight.Ctl (rec.Reconf (a_plan 2 (Some A) (Set 1 S12 0 (a_shape false (Split cell.Scg) false) 0 0 (a_key 0 Master) None ∷ [])) [])) ∷ [])
    ∷ an_entry (event.Step (link M T Ctl) 0) answer.Ok (line.Note (note.Set 1 2) ∷ line.Send (link T M Ctl) (flight.Ctl (rec.Rcomp 2)) ∷ [])
    ∷ an_entry (event.Step (link T M Ctl) 0) answer.Ok (line.Send (link M A Ctl) (flight.Ctl (rec.Recfg 2)) ∷ line.Note note.Done ∷ [])
    ∷ an_entry (event.Submit 1 Ul (187 ∷ [])) answer.Ok (line.Send (link T M Air) (flight.Air 1 2 0 (Some 0) (128 ∷ 0 ∷ 187 ∷ [])) ∷ [])
    ∷ an_entry (event.Step (link T M Air) 0) answer.Ok (line.Note (note.Up M 1 Ul 0 (187 ∷ [])) ∷ line.Send (link M T Air) (flight.Ack 1 2 0) ∷ [])
    ∷ an_entry (event.Report M 1) answer.Ok (line.Send (link M A Tun) (flight.Tun None (52 ∷ 255 ∷ 0 ∷ 17 ∷ 0 ∷ 0 ∷ 1 ∷ 0 ∷ 0 ∷ 0 ∷ 0 ∷ 132 ∷ 2 ∷ 1 ∷ 0 ∷ 0 ∷ 0 ∷ 0 ∷ 0 ∷ 0 ∷ 0 ∷ 0 ∷ 0 ∷ 0 ∷ 1 ∷ [])) ∷ [])
    ∷ an_entry (event.Step (link M A Ctl) 0) answer.Ok []
    ∷ an_entry (event.Step (link M A Tun) 0) answer.Ok (line.Send (link A T Air) (flight.Air 1 2 0 None (0 ∷ 0 ∷ 0 ∷ 0 ∷ 1 ∷ [])) ∷ [])
    ∷ an_entry (event.ScgFail) answer.Ok (line.Send (link T M Ctl) (flight.Ctl (rec.Scgf ((1, 2) ∷ []))) ∷ [])
    ∷ []

uplink_report_on_a_failed_leg_confirms_is_wrong : breaks (a_header Nea0 0 (replicate 32 0)) (before_uplink_report_on_a_failed_leg_confirms ++
    an_entry (event.Step (link A T Air) 0) answer.Ok (line.Note (note.Freed 1 Ul 1) ∷ [])
    ∷ []) ≡ told ∷ []
unfolding sn window modulus distance count_for data_pdu decoded read_data read_report keystream counter_block stream_blocks report_pdu
uplink_report_on_a_failed_leg_confirms_is_wrong = refl

uplink_report_on_a_failed_leg_confirms_is_right : breaks (a_header Nea0 0 (replicate 32 0)) (before_uplink_report_on_a_failed_leg_confirms ++
    an_entry (event.Step (link A T Air) 0) answer.Ok []
    ∷ []) ≡ []
unfolding sn window modulus distance count_for data_pdu decoded read_data read_report keystream counter_block stream_blocks report_pdu
uplink_report_on_a_failed_leg_confirms_is_right = refl

-- what comes before
abbrev before_uplink_up_after_a_move_starts_at_first_again : List Entry
before_uplink_up_after_a_move_starts_at_first_again =
    an_entry (event.Bearer 1 S12 0 (a_shape false Mcg false) 0 0) answer.Ok (line.Note (note.Own M 1 1) ∷ line.Send (link M T Ctl) (flight.Ctl (rec.Reconf (a_plan 1 None (Set 1 S12 0 (a_shape false Mcg false) 0 0 (a_key 0 Master) None ∷ [])) [])) ∷ [])
    ∷ an_entry (event.Step (link M T Ctl) 0) answer.Ok (line.Note (note.Set 1 1) ∷ line.Send (link T M Ctl) (flight.Ctl (rec.Rcomp 1)) ∷ [])
    ∷ an_entry (event.Step (link T M Ctl) 0) answer.Ok (line.Note note.Done ∷ [])
    ∷ an_entry (event.Submit 1 Ul (204 ∷ [])) answer.Ok (line.Send (link T M Air) (flight.Air 1 1 0 (Some 0) (128 ∷ 0 ∷ 204 ∷ [])) ∷ [])
    ∷ an_entry (event.Step (link T M Air) 0) answer.Ok (line.Note (note.Up M 1 Ul 0 (204 ∷ [])) ∷ line.Send (link M T Air) (flight.Ack 1 1 0) ∷ [])
    ∷ an_entry (event.Add A) answer.Ok (line.Send (link M A Ctl) (flight.Ctl (rec.Addreq (a_plan 2 (Some A) []) [])) ∷ [])
    ∷ an_entry (event.Step (link M A Ctl) 0) answer.Ok (line.Note (note.Join A 2) ∷ line.Send (link A M Ctl) (flight.Ctl (rec.Addack 2)) ∷ [])
    ∷ an_entry (event.Step (link A M Ctl) 0) answer.Ok (line.Send (link M T Ctl) (flight.Ctl (rec.Reconf (a_plan 2 (Some A) []) [])) ∷ [])
    ∷ an_entry (event.Step (link M T Ctl) 0) answer.Ok (line.Send (link T M Ctl) (flight.Ctl (rec.Rcomp 2)) ∷ [])
    ∷ an_entry (event.Step (link T M Ctl) 0) answer.Ok (line.Send (link M A Ctl) (flight.Ctl (rec.Recfg 2)) ∷ line.Note note.Done ∷ [])
    ∷ an_entry (event.Reshape 1 (a_shape true Scg false)) answer.Ok (line.Send (link M A Ctl) (flight.Ctl (rec.Modreq (a_plan 3 (Some A) (Set 1 S12 0 (a_shape true Scg false) 0 0 (a_key 0 (SecondKey 0)) (Some M) ∷ [])) [])) ∷ [])
    ∷ an_entry (event.Step (link M A Ctl) 0) answer.Ok []
    ∷ an_entry (event.Step (link M A Ctl) 0) answer.Ok (line.Send (link A M Ctl) (flight.Ctl (rec.Modack 3)) ∷ [])
    ∷ an_entry (event.Step (link A M Ctl) 0) answer.Ok (line.Note (note.Give M 1 3) ∷ line.Send (link M T Ctl) (flight.Ctl (rec.Reconf (a_plan 3 (Some A) (Set 1 S12 0 (a_shape true Scg false) 0 0 (a_key 0 (SecondKey 0)) (Some M) ∷ [])) [])) ∷ line.Send (link M A Ctl) (flight.Ctl (rec.Snst (a_transfer 3 1 1 [] 0))) ∷ line.Send (link M A Tun) (flight.Tun None (52 ∷ 255 ∷ 0 ∷ 12 ∷ 0 ∷ 0 ∷ 1 ∷ 129 ∷ 0 ∷ 0 ∷ 0 ∷ 132 ∷ 2 ∷ 0 ∷ 0 ∷ 0 ∷ 0 ∷ 0 ∷ 0 ∷ 0 ∷ [])) ∷ line.Send (link M A Tun) (flight.Tun None (48 ∷ 254 ∷ 0 ∷ 0 ∷ 0 ∷ 0 ∷ 1 ∷ 129 ∷ [])) ∷ line.Send (link M A Tun) (flight.Tun None (52 ∷ 255 ∷ 0 ∷ 12 ∷ 0 ∷ 0 ∷ 1 ∷ 130 ∷ 0 ∷ 0 ∷ 0 ∷ 132 ∷ 2 ∷ 0 ∷ 0 ∷ 0 ∷ 0 ∷ 0 ∷ 0 ∷ 0 ∷ [])) ∷ line.Send (link M A Tun) (flight.Tun None (48 ∷ 254 ∷ 0 ∷ 0 ∷ 0 ∷ 0 ∷ 1 ∷ 130 ∷ [])) ∷ [])
    ∷ an_entry (event.Step (link M T Ctl) 0) answer.Ok (line.Note (note.Set 1 3) ∷ line.Send (link T M Ctl) (flight.Ctl (rec.Rcomp 3)) ∷ line.Send (link T A Air) (flight.Air 1 3 0 (Some 0) (128 ∷ 0 ∷ 204 ∷ [])) ∷ [])
    ∷ an_entry (event.Step (link M A Ctl) 0) answer.Ok []
    ∷ an_entry (event.Step (link M A Tun) 0) answer.Ok []
    ∷ an_entry (event.Step (link M A Tun) 1) answer.Ok (line.Note (note.Own A 1 3) ∷ line.Send (link A M Ctl) (flight.Ctl (rec.Moved 3 1)) ∷ [])
    ∷ an_entry (event.Step (link T M Ctl) 0) answer.Ok (line.Send (link M A Ctl) (flight.Ctl (rec.Recfg 3)) ∷ [])
    ∷ an_entry (event.Step (link M A Ctl) 0) answer.Ok []
    ∷ []

uplink_up_after_a_move_starts_at_first_again_is_wrong : breaks (a_header Nea0 0 (replicate 32 0)) (before_uplink_up_after_a_move_starts_at_first_again ++
    an_entry (event.Step (link T A Air) 0) answer.Ok (line.Note (note.Up A 1 Ul 0 (204 ∷ [])) ∷ line.Send (link A T Air) (flight.Ack 1 3 0) ∷ [])
    ∷ []) ≡ front ∷ windowed ∷ []
unfolding sn window modulus distance count_for data_pdu decoded read_data read_report keystream counter_block stream_blocks report_pdu
uplink_up_after_a_move_starts_at_first_again_is_wrong = refl

uplink_up_after_a_move_starts_at_first_again_is_right : breaks (a_header Nea0 0 (replicate 32 0)) (before_uplink_up_after_a_move_starts_at_first_again ++
    an_entry (event.Step (link T A Air) 0) answer.Ok (line.Send (link A T Air) (flight.Ack 1 3 0) ∷ [])
    ∷ []) ≡ []
unfolding sn window modulus distance count_for data_pdu decoded read_data read_report keystream counter_block stream_blocks report_pdu
uplink_up_after_a_move_starts_at_first_again_is_right = refl

-- what comes before
abbrev before_uplink_up_at_a_secondary_before_its_pdu : List Entry
before_uplink_up_at_a_secondary_before_its_pdu =
    an_entry (event.Add A) answer.Ok (line.Send (link M A Ctl) (flight.Ctl (rec.Addreq (a_plan 1 (Some A) []) [])) ∷ [])
    ∷ an_entry (event.Step (link M A Ctl) 0) answer.Ok (line.Note (note.Join A 1) ∷ line.Send (link A M Ctl) (flight.Ctl (rec.Addack 1)) ∷ [])
    ∷ an_entry (event.Step (link A M Ctl) 0) answer.Ok (line.Send (link M T Ctl) (flight.Ctl (rec.Reconf (a_plan 1 (Some A) []) [])) ∷ [])
    ∷ an_entry (event.Step (link M T Ctl) 0) answer.Ok (line.Send (link T M Ctl) (flight.Ctl (rec.Rcomp 1)) ∷ [])
    ∷ an_entry (event.Step (link T M Ctl) 0) answer.Ok (line.Send (link M A Ctl) (flight.Ctl (rec.Recfg 1)) ∷ line.Note note.Done ∷ [])
    ∷ an_entry (event.Step (link M A Ctl) 0) answer.Ok []
    ∷ an_entry (event.Bearer 1 S12 0 (a_shape true Scg false) 0 0) answer.Ok (line.Send (link M A Ctl) (flight.Ctl (rec.Modreq (a_plan 2 (Some A) (Set 1 S12 0 (a_shape true Scg false) 0 0 (a_key 0 (SecondKey 0)) None ∷ [])) [])) ∷ [])
    ∷ an_entry (event.Step (link M A Ctl) 0) answer.Ok (line.Note (note.Own A 1 2) ∷ line.Send (link A M Ctl) (flight.Ctl (rec.Modack 2)) ∷ [])
    ∷ an_entry (event.Step (link A M Ctl) 0) answer.Ok (line.Send (link M T Ctl) (flight.Ctl (rec.Reconf (a_plan 2 (Some A) (Set 1 S12 0 (a_shape true Scg false) 0 0 (a_key 0 (SecondKey 0)) None ∷ [])) [])) ∷ [])
    ∷ an_entry (event.Step (link M T Ctl) 0) answer.Ok (line.Note (note.Set 1 2) ∷ line.Send (link T M Ctl) (flight.Ctl (rec.Rcomp 2)) ∷ [])
    ∷ an_entry (event.Step (link T M Ctl) 0) answer.Ok (line.Send (link M A Ctl) (flight.Ctl (rec.Recfg 2)) ∷ line.Note note.Done ∷ [])
    ∷ an_entry (event.Step (link M A Ctl) 0) answer.Ok []
    ∷ an_entry (event.Submit 1 Ul (187 ∷ [])) answer.Ok (line.Send (link T A Air) (flight.Air 1 2 0 (Some 0) (128 ∷ 0 ∷ 187 ∷ [])) ∷ [])
    ∷ []

uplink_up_at_a_secondary_before_its_pdu_is_wrong : breaks (a_header Nea0 0 (replicate 32 0)) (before_uplink_up_at_a_secondary_before_its_pdu ++
    an_entry (event.Report A 1) answer.Ok (line.Note (note.Up A 1 Ul 0 (187 ∷ [])) ∷ line.Send (link A T Air) (flight.Air 1 2 0 None (0 ∷ 0 ∷ 0 ∷ 0 ∷ 0 ∷ [])) ∷ [])
    ∷ []) ≡ carried ∷ true_report ∷ []
unfolding sn window modulus distance count_for data_pdu decoded read_data read_report keystream counter_block stream_blocks report_pdu
uplink_up_at_a_secondary_before_its_pdu_is_wrong = refl

uplink_up_at_a_secondary_before_its_pdu_is_right : breaks (a_header Nea0 0 (replicate 32 0)) (before_uplink_up_at_a_secondary_before_its_pdu ++
    an_entry (event.Report A 1) answer.Ok (line.Send (link A T Air) (flight.Air 1 2 0 None (0 ∷ 0 ∷ 0 ∷ 0 ∷ 0 ∷ [])) ∷ [])
    ∷ []) ≡ []
unfolding sn window modulus distance count_for data_pdu decoded read_data read_report keystream counter_block stream_blocks report_pdu
uplink_up_at_a_secondary_before_its_pdu_is_right = refl

-- what comes before
abbrev before_uplink_up_at_a_secondary_that_gave : List Entry
before_uplink_up_at_a_secondary_that_gave =
    an_entry (event.Add A) answer.Ok (line.Send (link M A Ctl) (flight.Ctl (rec.Addreq (a_plan 1 (Some A) []) [])) ∷ [])
    ∷ an_entry (event.Step (link M A Ctl) 0) answer.Ok (line.Note (note.Join A 1) ∷ line.Send (link A M Ctl) (flight.Ctl (rec.Addack 1)) ∷ [])
    ∷ an_entry (event.Step (link A M Ctl) 0) answer.Ok (line.Send (link M T Ctl) (flight.Ctl (rec.Reconf (a_plan 1 (Some A) []) [])) ∷ [])
    ∷ an_entry (event.Step (link M T Ctl) 0) answer.Ok (line.Send (link T M Ctl) (flight.Ctl (rec.Rcomp 1)) ∷ [])
    ∷ an_entry (event.Step (link T M Ctl) 0) answer.Ok (line.Send (link M A Ctl) (flight.Ctl (rec.Recfg 1)) ∷ line.Note note.Done ∷ [])
    ∷ an_entry (event.Step (link M A Ctl) 0) answer.Ok []
    ∷ an_entry (event.Bearer 1 S12 0 (a_shape true Scg false) 0 0) answer.Ok (line.Send (link M A Ctl) (flight.Ctl (rec.Modreq (a_plan 2 (Some A) (Set 1 S12 0 (a_shape true Scg false) 0 0 (a_key 0 (SecondKey 0)) None ∷ [])) [])) ∷ [])
    ∷ an_entry (event.Step (link M A Ctl) 0) answer.Ok (line.Note (note.Own A 1 2) ∷ line.Send (link A M Ctl) (flight.Ctl (rec.Modack 2)) ∷ [])
    ∷ an_entry (event.Step (link A M Ctl) 0) answer.Ok (line.Send (link M T Ctl) (flight.Ctl (rec.Reconf (a_plan 2 (Some A) (Set 1 S12 0 (a_shape true Scg false) 0 0 (a_key 0 (SecondKey 0)) None ∷ [])) [])) ∷ [])
    ∷ an_entry (event.Step (link M T Ctl) 0) answer.Ok (line.Note (note.Set 1 2) ∷ line.Send (link T M Ctl) (flight.Ctl (rec.Rcomp 2)) ∷ [])
    ∷ an_entry (event.Step (link T M Ctl) 0) answer.Ok (line.Send (link M A Ctl) (flight.Ctl (rec.Recfg 2)) ∷ line.Note note.Done ∷ [])
    ∷ an_entry (event.Step (link M A Ctl) 0) answer.Ok []
    ∷ an_entry (event.Submit 1 Ul (187 ∷ [])) answer.Ok (line.Send (link T A Air) (flight.Air 1 2 0 (Some 0) (128 ∷ 0 ∷ 187 ∷ [])) ∷ [])
    ∷ an_entry (event.Reshape 1 (a_shape false Mcg false)) answer.Ok (line.Send (link M A Ctl) (flight.Ctl (rec.Modreq (a_plan 3 (Some A) (Set 1 S12 0 (a_shape false Mcg false) 0 0 (a_key 0 Master) (Some A) ∷ [])) [])) ∷ [])
    ∷ an_entry (event.Step (link M A Ctl) 0) answer.Ok (line.Note (note.Give A 1 3) ∷ line.Send (link A M Ctl) (flight.Ctl (rec.Modack 3)) ∷ line.Send (link A M Ctl) (flight.Ctl (rec.Snst (a_transfer 3 1 0 [] 0))) ∷ line.Send (link A M Tun) (flight.Tun None (52 ∷ 255 ∷ 0 ∷ 12 ∷ 0 ∷ 0 ∷ 1 ∷ 130 ∷ 0 ∷ 0 ∷ 0 ∷ 132 ∷ 2 ∷ 0 ∷ 0 ∷ 0 ∷ 0 ∷ 0 ∷ 0 ∷ 0 ∷ [])) ∷ line.Send (link A M Tun) (flight.Tun None (48 ∷ 254 ∷ 0 ∷ 0 ∷ 0 ∷ 0 ∷ 1 ∷ 130 ∷ [])) ∷ [])
    ∷ []

uplink_up_at_a_secondary_that_gave_is_wrong : breaks (a_header Nea0 0 (replicate 32 0)) (before_uplink_up_at_a_secondary_that_gave ++
    an_entry (event.Step (link T A Air) 0) answer.Ok (line.Note (note.Up A 1 Ul 0 (187 ∷ [])) ∷ line.Send (link A T Air) (flight.Ack 1 2 0) ∷ [])
    ∷ []) ≡ carried ∷ holder ∷ licensed ∷ []
unfolding sn window modulus distance count_for data_pdu decoded read_data read_report keystream counter_block stream_blocks report_pdu
uplink_up_at_a_secondary_that_gave_is_wrong = refl

uplink_up_at_a_secondary_that_gave_is_right : breaks (a_header Nea0 0 (replicate 32 0)) (before_uplink_up_at_a_secondary_that_gave ++
    an_entry (event.Step (link T A Air) 0) answer.Ok []
    ∷ []) ≡ []
unfolding sn window modulus distance count_for data_pdu decoded read_data read_report keystream counter_block stream_blocks report_pdu
uplink_up_at_a_secondary_that_gave_is_right = refl

-- what comes before
abbrev before_uplink_up_at_an_adoption_of_a_pdu_that_nobody_took : List Entry
before_uplink_up_at_an_adoption_of_a_pdu_that_nobody_took =
    an_entry (event.Bearer 1 S12 0 (a_shape false Mcg false) 0 0) answer.Ok (line.Note (note.Own M 1 1) ∷ line.Send (link M T Ctl) (flight.Ctl (rec.Reconf (a_plan 1 None (Set 1 S12 0 (a_shape false Mcg false) 0 0 (a_key 0 Master) None ∷ [])) [])) ∷ [])
    ∷ an_entry (event.Step (link M T Ctl) 0) answer.Ok (line.Note (note.Set 1 1) ∷ line.Send (link T M Ctl) (flight.Ctl (rec.Rcomp 1)) ∷ [])
    ∷ an_entry (event.Step (link T M Ctl) 0) answer.Ok (line.Note note.Done ∷ [])
    ∷ an_entry (event.Submit 1 Ul (204 ∷ [])) answer.Ok (line.Send (link T M Air) (flight.Air 1 1 0 (Some 0) (128 ∷ 0 ∷ 204 ∷ [])) ∷ [])
    ∷ an_entry (event.Submit 1 Ul (221 ∷ [])) answer.Ok (line.Send (link T M Air) (flight.Air 1 1 1 (Some 1) (128 ∷ 1 ∷ 221 ∷ [])) ∷ [])
    ∷ an_entry (event.Step (link T M Air) 1) answer.Ok (line.Send (link M T Air) (flight.Ack 1 1 1) ∷ [])
    ∷ an_entry (event.Add A) answer.Ok (line.Send (link M A Ctl) (flight.Ctl (rec.Addreq (a_plan 2 (Some A) []) [])) ∷ [])
    ∷ an_entry (event.Step (link M A Ctl) 0) answer.Ok (line.Note (note.Join A 2) ∷ line.Send (link A M Ctl) (flight.Ctl (rec.Addack 2)) ∷ [])
    ∷ an_entry (event.Step (link A M Ctl) 0) answer.Ok (line.Send (link M T Ctl) (flight.Ctl (rec.Reconf (a_plan 2 (Some A) []) [])) ∷ [])
    ∷ an_entry (event.Step (link M T Ctl) 0) answer.Ok (line.Send (link T M Ctl) (flight.Ctl (rec.Rcomp 2)) ∷ [])
    ∷ an_entry (event.Step (link T M Ctl) 0) answer.Ok (line.Send (link M A Ctl) (flight.Ctl (rec.Recfg 2)) ∷ line.Note note.Done ∷ [])
    ∷ an_entry (event.Reshape 1 (a_shape true Scg false)) answer.Ok (line.Send (link M A Ctl) (flight.Ctl (rec.Modreq (a_plan 3 (Some A) (Set 1 S12 0 (a_shape true Scg false) 0 0 (a_key 0 (SecondKey 0)) (Some M) ∷ [])) [])) ∷ [])
    ∷ an_entry (event.Step (link M A Ctl) 0) answer.Ok []
    ∷ an_entry (event.Step (link M A Ctl) 0) answer.Ok (line.Send (link A M Ctl) (flight.Ctl (rec.Modack 3)) ∷ [])
    ∷ an_entry (event.Step (link A M Ctl) 0) answer.Ok (line.Note (note.Give M 1 3) ∷ line.Send (link M T Ctl) (flight.Ctl (rec.Reconf (a_plan 3 (Some A) (Set 1 S12 0 (a_shape true Scg false) 0 0 (a_key 0 (SecondKey 0)) (Some M) ∷ [])) [])) ∷ line.Send (link M A Ctl) (flight.Ctl (rec.Snst (a_transfer 3 1 0 (128 ∷ []) 0))) ∷ line.Send (link M A Tun) (flight.Tun None (52 ∷ 255 ∷ 0 ∷ 12 ∷ 0 ∷ 0 ∷ 1 ∷ 129 ∷ 0 ∷ 0 ∷ 0 ∷ 132 ∷ 2 ∷ 0 ∷ 0 ∷ 0 ∷ 0 ∷ 0 ∷ 0 ∷ 0 ∷ [])) ∷ line.Send (link M A Tun) (flight.Tun None (48 ∷ 254 ∷ 0 ∷ 0 ∷ 0 ∷ 0 ∷ 1 ∷ 129 ∷ [])) ∷ line.Send (link M A Tun) (flight.Tun None (52 ∷ 255 ∷ 0 ∷ 17 ∷ 0 ∷ 0 ∷ 1 ∷ 130 ∷ 0 ∷ 0 ∷ 0 ∷ 132 ∷ 2 ∷ 1 ∷ 0 ∷ 0 ∷ 0 ∷ 0 ∷ 0 ∷ 192 ∷ 1 ∷ 0 ∷ 1 ∷ 0 ∷ 221 ∷ [])) ∷ line.Send (link M A Tun) (flight.Tun None (52 ∷ 255 ∷ 0 ∷ 12 ∷ 0 ∷ 0 ∷ 1 ∷ 130 ∷ 0 ∷ 0 ∷ 0 ∷ 132 ∷ 2 ∷ 0 ∷ 0 ∷ 0 ∷ 1 ∷ 0 ∷ 0 ∷ 0 ∷ [])) ∷ line.Send (link M A Tun) (flight.Tun None (48 ∷ 254 ∷ 0 ∷ 0 ∷ 0 ∷ 0 ∷ 1 ∷ 130 ∷ [])) ∷ [])
    ∷ an_entry (event.Step (link M A Ctl) 0) answer.Ok []
    ∷ an_entry (event.Step (link M A Tun) 0) answer.Ok []
    ∷ an_entry (event.Step (link M A Tun) 1) answer.Ok []
    ∷ []

uplink_up_at_an_adoption_of_a_pdu_that_nobody_took_is_wrong : breaks (a_header Nea0 0 (replicate 32 0)) (before_uplink_up_at_an_adoption_of_a_pdu_that_nobody_took ++
    an_entry (event.Step (link M A Tun) 1) answer.Ok (line.Note (note.Own A 1 3) ∷ line.Note (note.Up A 1 Ul 0 (204 ∷ [])) ∷ line.Send (link A M Ctl) (flight.Ctl (rec.Moved 3 1)) ∷ [])
    ∷ []) ≡ carried ∷ drained ∷ []
unfolding sn window modulus distance count_for data_pdu decoded read_data read_report keystream counter_block stream_blocks report_pdu
uplink_up_at_an_adoption_of_a_pdu_that_nobody_took_is_wrong = refl

uplink_up_at_an_adoption_of_a_pdu_that_nobody_took_is_right : breaks (a_header Nea0 0 (replicate 32 0)) (before_uplink_up_at_an_adoption_of_a_pdu_that_nobody_took ++
    an_entry (event.Step (link M A Tun) 1) answer.Ok (line.Note (note.Own A 1 3) ∷ line.Send (link A M Ctl) (flight.Ctl (rec.Moved 3 1)) ∷ [])
    ∷ []) ≡ []
unfolding sn window modulus distance count_for data_pdu decoded read_data read_report keystream counter_block stream_blocks report_pdu
uplink_up_at_an_adoption_of_a_pdu_that_nobody_took_is_right = refl

-- what comes before
abbrev before_uplink_up_at_the_master_when_only_the_host_took_it : List Entry
before_uplink_up_at_the_master_when_only_the_host_took_it =
    an_entry (event.Add A) answer.Ok (line.Send (link M A Ctl) (flight.Ctl (rec.Addreq (a_plan 1 (Some A) []) [])) ∷ [])
    ∷ an_entry (event.Step (link M A Ctl) 0) answer.Ok (line.Note (note.Join A 1) ∷ line.Send (link A M Ctl) (flight.Ctl (rec.Addack 1)) ∷ [])
    ∷ an_entry (event.Step (link A M Ctl) 0) answer.Ok (line.Send (link M T Ctl) (flight.Ctl (rec.Reconf (a_plan 1 (Some A) []) [])) ∷ [])
    ∷ an_entry (event.Step (link M T Ctl) 0) answer.Ok (line.Send (link T M Ctl) (flight.Ctl (rec.Rcomp 1)) ∷ [])
    ∷ an_entry (event.Step (link T M Ctl) 0) answer.Ok (line.Send (link M A Ctl) (flight.Ctl (rec.Recfg 1)) ∷ line.Note note.Done ∷ [])
    ∷ an_entry (event.Step (link M A Ctl) 0) answer.Ok []
    ∷ an_entry (event.Bearer 1 S12 0 (a_shape false Scg false) 0 0) answer.Ok (line.Send (link M A Ctl) (flight.Ctl (rec.Modreq (a_plan 2 (Some A) (Set 1 S12 0 (a_shape false Scg false) 0 0 (a_key 0 Master) None ∷ [])) [])) ∷ [])
    ∷ an_entry (event.Step (link M A Ctl) 0) answer.Ok (line.Send (link A M Ctl) (flight.Ctl (rec.Modack 2)) ∷ [])
    ∷ an_entry (event.Step (link A M Ctl) 0) answer.Ok (line.Note (note.Own M 1 2) ∷ line.Send (link M T Ctl) (flight.Ctl (rec.Reconf (a_plan 2 (Some A) (Set 1 S12 0 (a_shape false Scg false) 0 0 (a_key 0 Master) None ∷ [])) [])) ∷ [])
    ∷ an_entry (event.Step (link M T Ctl) 0) answer.Ok (line.Note (note.Set 1 2) ∷ line.Send (link T M Ctl) (flight.Ctl (rec.Rcomp 2)) ∷ [])
    ∷ an_entry (event.Step (link T M Ctl) 0) answer.Ok (line.Send (link M A Ctl) (flight.Ctl (rec.Recfg 2)) ∷ line.Note note.Done ∷ [])
    ∷ an_entry (event.Submit 1 Ul (187 ∷ [])) answer.Ok (line.Send (link T A Air) (flight.Air 1 2 0 (Some 0) (128 ∷ 0 ∷ 187 ∷ [])) ∷ [])
    ∷ []

uplink_up_at_the_master_when_only_the_host_took_it_is_wrong : breaks (a_header Nea0 0 (replicate 32 0)) (before_uplink_up_at_the_master_when_only_the_host_took_it ++
    an_entry (event.Step (link T A Air) 0) answer.Ok (line.Note (note.Up M 1 Ul 0 (187 ∷ [])) ∷ line.Send (link A T Air) (flight.Ack 1 2 0) ∷ line.Send (link A M Tun) (flight.Tun (Some 0) (48 ∷ 255 ∷ 0 ∷ 3 ∷ 0 ∷ 0 ∷ 1 ∷ 0 ∷ 128 ∷ 0 ∷ 187 ∷ [])) ∷ [])
    ∷ []) ≡ carried ∷ []
unfolding sn window modulus distance count_for data_pdu decoded read_data read_report keystream counter_block stream_blocks report_pdu
uplink_up_at_the_master_when_only_the_host_took_it_is_wrong = refl

uplink_up_at_the_master_when_only_the_host_took_it_is_right : breaks (a_header Nea0 0 (replicate 32 0)) (before_uplink_up_at_the_master_when_only_the_host_took_it ++
    an_entry (event.Step (link T A Air) 0) answer.Ok (line.Send (link A T Air) (flight.Ack 1 2 0) ∷ line.Send (link A M Tun) (flight.Tun (Some 0) (48 ∷ 255 ∷ 0 ∷ 3 ∷ 0 ∷ 0 ∷ 1 ∷ 0 ∷ 128 ∷ 0 ∷ 187 ∷ [])) ∷ [])
    ∷ []) ≡ []
unfolding sn window modulus distance count_for data_pdu decoded read_data read_report keystream counter_block stream_blocks report_pdu
uplink_up_at_the_master_when_only_the_host_took_it_is_right = refl

-- what comes before
abbrev before_uplink_up_at_the_terminal : List Entry
before_uplink_up_at_the_terminal =
    an_entry (event.Bearer 1 S12 0 (a_shape false Mcg false) 0 0) answer.Ok (line.Note (note.Own M 1 1) ∷ line.Send (link M T Ctl) (flight.Ctl (rec.Reconf (a_plan 1 None (Set 1 S12 0 (a_shape false Mcg false) 0 0 (a_key 0 Master) None ∷ [])) [])) ∷ [])
    ∷ an_entry (event.Step (link M T Ctl) 0) answer.Ok (line.Note (note.Set 1 1) ∷ line.Send (link T M Ctl) (flight.Ctl (rec.Rcomp 1)) ∷ [])
    ∷ an_entry (event.Step (link T M Ctl) 0) answer.Ok (line.Note note.Done ∷ [])
    ∷ an_entry (event.Submit 1 Ul (170 ∷ [])) answer.Ok (line.Send (link T M Air) (flight.Air 1 1 0 (Some 0) (128 ∷ 0 ∷ 170 ∷ [])) ∷ [])
    ∷ []

uplink_up_at_the_terminal_is_wrong : breaks (a_header Nea0 0 (replicate 32 0)) (before_uplink_up_at_the_terminal ++
    an_entry (event.Step (link T M Air) 0) answer.Ok (line.Note (note.Up T 1 Ul 0 (170 ∷ [])) ∷ line.Send (link M T Air) (flight.Ack 1 1 0) ∷ [])
    ∷ []) ≡ carried ∷ holder ∷ []
unfolding sn window modulus distance count_for data_pdu decoded read_data read_report keystream counter_block stream_blocks report_pdu
uplink_up_at_the_terminal_is_wrong = refl

uplink_up_at_the_terminal_is_right : breaks (a_header Nea0 0 (replicate 32 0)) (before_uplink_up_at_the_terminal ++
    an_entry (event.Step (link T M Air) 0) answer.Ok (line.Note (note.Up M 1 Ul 0 (170 ∷ [])) ∷ line.Send (link M T Air) (flight.Ack 1 1 0) ∷ [])
    ∷ []) ≡ []
unfolding sn window modulus distance count_for data_pdu decoded read_data read_report keystream counter_block stream_blocks report_pdu
uplink_up_at_the_terminal_is_right = refl

-- what comes before
abbrev before_waiting_anchor_sends_before_its_own : List Entry
before_waiting_anchor_sends_before_its_own =
    an_entry (event.Bearer 1 S12 0 (a_shape false Mcg false) 0 0) answer.Ok (line.Note (note.Own M 1 1) ∷ line.Send (link M T Ctl) (flight.Ctl (rec.Reconf (a_plan 1 None (Set 1 S12 0 (a_shape false Mcg false) 0 0 (a_key 0 Master) None ∷ [])) [])) ∷ [])
    ∷ an_entry (event.Step (link M T Ctl) 0) answer.Ok (line.Note (note.Set 1 1) ∷ line.Send (link T M Ctl) (flight.Ctl (rec.Rcomp 1)) ∷ [])
    ∷ an_entry (event.Step (link T M Ctl) 0) answer.Ok (line.Note note.Done ∷ [])
    ∷ an_entry (event.Add A) answer.Ok (line.Send (link M A Ctl) (flight.Ctl (rec.Addreq (a_plan 2 (Some A) []) [])) ∷ [])
    ∷ an_entry (event.Step (link M A Ctl) 0) answer.Ok (line.Note (note.Join A 2) ∷ line.Send (link A M Ctl) (flight.Ctl (rec.Addack 2)) ∷ [])
    ∷ an_entry (event.Step (link A M Ctl) 0) answer.Ok (line.Send (link M T Ctl) (flight.Ctl (rec.Reconf (a_plan 2 (Some A) []) [])) ∷ [])
    ∷ an_entry (event.Step (link M T Ctl) 0) answer.Ok (line.Send (link T M Ctl) (flight.Ctl (rec.Rcomp 2)) ∷ [])
    ∷ an_entry (event.Step (link T M Ctl) 0) answer.Ok (line.Send (link M A Ctl) (flight.Ctl (rec.Recfg 2)) ∷ line.Note note.Done ∷ [])
    ∷ an_entry (event.Reshape 1 (a_shape true Scg false)) answer.Ok (line.Send (link M A Ctl) (flight.Ctl (rec.Modreq (a_plan 3 (Some A) (Set 1 S12 0 (a_shape true Scg false) 0 0 (a_key 0 (SecondKey 0)) (Some M) ∷ [])) [])) ∷ [])
    ∷ an_entry (event.Step (link M A Ctl) 0) answer.Ok []
    ∷ an_entry (event.Step (link M A Ctl) 0) answer.Ok (line.Send (link A M Ctl) (flight.Ctl (rec.Modack 3)) ∷ [])
    ∷ an_entry (event.Step (link A M Ctl) 0) answer.Ok (line.Note (note.Give M 1 3) ∷ line.Send (link M T Ctl) (flight.Ctl (rec.Reconf (a_plan 3 (Some A) (Set 1 S12 0 (a_shape true Scg false) 0 0 (a_key 0 (SecondKey 0)) (Some M) ∷ [])) [])) ∷ line.Send (link M A Ctl) (flight.Ctl (rec.Snst (a_transfer 3 1 0 [] 0))) ∷ line.Send (link M A Tun) (flight.Tun None (52 ∷ 255 ∷ 0 ∷ 12 ∷ 0 ∷ 0 ∷ 1 ∷ 129 ∷ 0 ∷ 0 ∷ 0 ∷ 132 ∷ 2 ∷ 0 ∷ 0 ∷ 0 ∷ 0 ∷ 0 ∷ 0 ∷ 0 ∷ [])) ∷ line.Send (link M A Tun) (flight.Tun None (48 ∷ 254 ∷ 0 ∷ 0 ∷ 0 ∷ 0 ∷ 1 ∷ 129 ∷ [])) ∷ line.Send (link M A Tun) (flight.Tun None (52 ∷ 255 ∷ 0 ∷ 12 ∷ 0 ∷ 0 ∷ 1 ∷ 130 ∷ 0 ∷ 0 ∷ 0 ∷ 132 ∷ 2 ∷ 0 ∷ 0 ∷ 0 ∷ 0 ∷ 0 ∷ 0 ∷ 0 ∷ [])) ∷ line.Send (link M A Tun) (flight.Tun None (48 ∷ 254 ∷ 0 ∷ 0 ∷ 0 ∷ 0 ∷ 1 ∷ 130 ∷ [])) ∷ [])
    ∷ an_entry (event.Submit 1 Dl (170 ∷ [])) answer.Ok (line.Send (link M A Feed) (flight.Sdu 1 3 (170 ∷ [])) ∷ [])
    ∷ an_entry (event.Step (link M A Ctl) 0) answer.Ok []
    ∷ []

waiting_anchor_sends_before_its_own_is_wrong : breaks (a_header Nea0 0 (replicate 32 0)) (before_waiting_anchor_sends_before_its_own ++
    an_entry (event.Step (link M A Feed) 0) answer.Ok (line.Send (link A T Air) (flight.Air 1 3 0 (Some 0) (128 ∷ 0 ∷ 170 ∷ [])) ∷ [])
    ∷ []) ≡ holder ∷ []
unfolding sn window modulus distance count_for data_pdu decoded read_data read_report keystream counter_block stream_blocks report_pdu
waiting_anchor_sends_before_its_own_is_wrong = refl

waiting_anchor_sends_before_its_own_is_right : breaks (a_header Nea0 0 (replicate 32 0)) (before_waiting_anchor_sends_before_its_own ++
    an_entry (event.Step (link M A Feed) 0) answer.Ok []
    ∷ []) ≡ []
unfolding sn window modulus distance count_for data_pdu decoded read_data read_report keystream counter_block stream_blocks report_pdu
waiting_anchor_sends_before_its_own_is_right = refl

-- what comes before
abbrev before_want_answered_without_its_line : List Entry
before_want_answered_without_its_line =
    an_entry (event.Add A) answer.Ok (line.Send (link M A Ctl) (flight.Ctl (rec.Addreq (a_plan 1 (Some A) []) [])) ∷ [])
    ∷ an_entry (event.Step (link M A Ctl) 0) answer.Ok (line.Note (note.Join A 1) ∷ line.Send (link A M Ctl) (flight.Ctl (rec.Addack 1)) ∷ [])
    ∷ an_entry (event.Step (link A M Ctl) 0) answer.Ok (line.Send (link M T Ctl) (flight.Ctl (rec.Reconf (a_plan 1 (Some A) []) [])) ∷ [])
    ∷ an_entry (event.Step (link M T Ctl) 0) answer.Ok (line.Send (link T M Ctl) (flight.Ctl (rec.Rcomp 1)) ∷ [])
    ∷ an_entry (event.Step (link T M Ctl) 0) answer.Ok (line.Send (link M A Ctl) (flight.Ctl (rec.Recfg 1)) ∷ line.Note note.Done ∷ [])
    ∷ an_entry (event.Step (link M A Ctl) 0) answer.Ok []
    ∷ an_entry (event.Ask A want.Rekey) answer.Ok (line.Send (link A M Ctl) (flight.Ctl (rec.Modrqd)) ∷ [])
    ∷ an_entry (event.Bearer 1 S12 0 (a_shape false Mcg false) 0 0) answer.Ok (line.Note (note.Own M 1 2) ∷ line.Send (link M T Ctl) (flight.Ctl (rec.Reconf (a_plan 2 (Some A) (Set 1 S12 0 (a_shape false Mcg false) 0 0 (a_key 0 Master) None ∷ [])) [])) ∷ [])
    ∷ an_entry (event.Step (link A M Ctl) 0) answer.Ok (line.Send (link M A Ctl) (flight.Ctl (rec.Modref word.Busy)) ∷ [])
    ∷ []

want_answered_without_its_line_is_wrong : breaks (a_header Nea0 0 (replicate 32 0)) (before_want_answered_without_its_line ++
    an_entry (event.Step (link M A Ctl) 0) answer.Ok []
    ∷ an_entry (event.Step (link M T Ctl) 0) answer.Ok (line.Note (note.Set 1 2) ∷ line.Send (link T M Ctl) (flight.Ctl (rec.Rcomp 2)) ∷ [])
    ∷ an_entry (event.Step (link T M Ctl) 0) answer.Ok (line.Note note.Done ∷ [])
    ∷ []) ≡ come ∷ unstalled ∷ []
unfolding sn window modulus distance count_for data_pdu decoded read_data read_report keystream counter_block stream_blocks report_pdu
want_answered_without_its_line_is_wrong = refl

want_answered_without_its_line_is_right : breaks (a_header Nea0 0 (replicate 32 0)) (before_want_answered_without_its_line ++
    an_entry (event.Step (link M A Ctl) 0) answer.Ok (line.Note (note.Refused A word.Busy) ∷ [])
    ∷ an_entry (event.Step (link M T Ctl) 0) answer.Ok (line.Note (note.Set 1 2) ∷ line.Send (link T M Ctl) (flight.Ctl (rec.Rcomp 2)) ∷ [])
    ∷ an_entry (event.Step (link T M Ctl) 0) answer.Ok (line.Note note.Done ∷ [])
    ∷ []) ≡ []
unfolding sn window modulus distance count_for data_pdu decoded read_data read_report keystream counter_block stream_blocks report_pdu
want_answered_without_its_line_is_right = refl

-- what comes before
abbrev before_want_never_answered : List Entry
before_want_never_answered =
    an_entry (event.Add A) answer.Ok (line.Send (link M A Ctl) (flight.Ctl (rec.Addreq (a_plan 1 (Some A) []) [])) ∷ [])
    ∷ an_entry (event.Step (link M A Ctl) 0) answer.Ok (line.Note (note.Join A 1) ∷ line.Send (link A M Ctl) (flight.Ctl (rec.Addack 1)) ∷ [])
    ∷ an_entry (event.Step (link A M Ctl) 0) answer.Ok (line.Send (link M T Ctl) (flight.Ctl (rec.Reconf (a_plan 1 (Some A) []) [])) ∷ [])
    ∷ an_entry (event.Step (link M T Ctl) 0) answer.Ok (line.Send (link T M Ctl) (flight.Ctl (rec.Rcomp 1)) ∷ [])
    ∷ an_entry (event.Step (link T M Ctl) 0) answer.Ok (line.Send (link M A Ctl) (flight.Ctl (rec.Recfg 1)) ∷ line.Note note.Done ∷ [])
    ∷ an_entry (event.Step (link M A Ctl) 0) answer.Ok []
    ∷ an_entry (event.Ask A want.Rekey) answer.Ok (line.Send (link A M Ctl) (flight.Ctl (rec.Modrqd)) ∷ [])
    ∷ []

want_never_answered_is_wrong : breaks (a_header Nea0 0 (replicate 32 0)) (before_want_never_answered ++
    an_entry (event.Step (link A M Ctl) 0) answer.Ok []
    ∷ []) ≡ replied ∷ unstalled ∷ []
unfolding sn window modulus distance count_for data_pdu decoded read_data read_report keystream counter_block stream_blocks report_pdu
want_never_answered_is_wrong = refl

want_never_answered_is_right : breaks (a_header Nea0 0 (replicate 32 0)) (before_want_never_answered ++
    an_entry (event.Step (link A M Ctl) 0) answer.Ok (line.Note (note.Begin want.Rekey) ∷ line.Send (link M A Ctl) (flight.Ctl (rec.Modreq (a_plan 2 (Some A) []) [])) ∷ [])
    ∷ []) ≡ []
unfolding sn window modulus distance count_for data_pdu decoded read_data read_report keystream counter_block stream_blocks report_pdu
want_never_answered_is_right = refl

-- what comes before
abbrev before_want_release_never_tried : List Entry
before_want_release_never_tried =
    an_entry (event.Add A) answer.Ok (line.Send (link M A Ctl) (flight.Ctl (rec.Addreq (a_plan 1 (Some A) []) [])) ∷ [])
    ∷ an_entry (event.Step (link M A Ctl) 0) answer.Ok (line.Note (note.Join A 1) ∷ line.Send (link A M Ctl) (flight.Ctl (rec.Addack 1)) ∷ [])
    ∷ an_entry (event.Step (link A M Ctl) 0) answer.Ok (line.Send (link M T Ctl) (flight.Ctl (rec.Reconf (a_plan 1 (Some A) []) [])) ∷ [])
    ∷ an_entry (event.Step (link M T Ctl) 0) answer.Ok (line.Send (link T M Ctl) (flight.Ctl (rec.Rcomp 1)) ∷ [])
    ∷ an_entry (event.Step (link T M Ctl) 0) answer.Ok (line.Send (link M A Ctl) (flight.Ctl (rec.Recfg 1)) ∷ line.Note note.Done ∷ [])
    ∷ an_entry (event.Step (link M A Ctl) 0) answer.Ok []
    ∷ an_entry (event.Ask A want.Release) answer.Ok (line.Send (link A M Ctl) (flight.Ctl (rec.Relrqd)) ∷ [])
    ∷ []

want_release_never_tried_is_wrong : breaks (a_header Nea0 0 (replicate 32 0)) (before_want_release_never_tried ++
    an_entry (event.Step (link A M Ctl) 0) answer.Ok []
    ∷ []) ≡ replied ∷ unstalled ∷ []
unfolding sn window modulus distance count_for data_pdu decoded read_data read_report keystream counter_block stream_blocks report_pdu
want_release_never_tried_is_wrong = refl

want_release_never_tried_is_right : breaks (a_header Nea0 0 (replicate 32 0)) (before_want_release_never_tried ++
    an_entry (event.Step (link A M Ctl) 0) answer.Ok (line.Note (note.Begin want.Release) ∷ line.Send (link M T Ctl) (flight.Ctl (rec.Reconf (a_plan 2 None []) [])) ∷ line.Send (link M A Ctl) (flight.Ctl (rec.Relcnf (a_plan 2 None []))) ∷ [])
    ∷ []) ≡ []
unfolding sn window modulus distance count_for data_pdu decoded read_data read_report keystream counter_block stream_blocks report_pdu
want_release_never_tried_is_right = refl
