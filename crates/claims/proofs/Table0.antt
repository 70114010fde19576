-- What wrong transcripts break, and that their right neighbours break nothing: by computing.
use Rattle.std.specs.Prelude.{◌≡◌, ◌++◌, ℕ, Bool, true, false, List, [], ◌∷◌, replicate, Option, Some, None}
use Rattle.std.proofs.Common.{refl}
use Rattle.dc_base.specs.declared.numbers.SnLen.TheVariants.{S12, S18}
use Rattle.dc_base.specs.declared.nodes.Alg.TheVariants.{Nea0, Nea2}
use Rattle.dc_base.specs.declared.nodes.Node.TheVariants.{T, M, A, B}
use Rattle.dc_base.specs.declared.nodes.Class.TheVariants.{Ctl, Feed, Air, Tun}
use Rattle.dc_base.specs.declared.nodes.Dir.TheVariants.{Ul, Dl}
use Rattle.dc_base.specs.declared.nodes.Cell.TheVariants as cell
use Rattle.dc_base.specs.declared.nodes.LegSet.TheVariants.{Mcg, Scg, Split}
use Rattle.dc_base.specs.declared.nodes.Side.TheVariants.{Master, Second as SecondKey}
use Rattle.dc_base.specs.declared.nodes.Want.TheVariants as want
use Rattle.dc_base.specs.declared.flights.Flight.TheVariants as flight
use Rattle.dc_base.specs.declared.records.Item.TheVariants.{Set, Unset}
use Rattle.dc_base.specs.declared.records.Rec.TheVariants as rec
use Rattle.dc_base.specs.declared.answers.Word.TheVariants as word
use Rattle.dc_base.specs.declared.answers.Refusal.TheVariants as refusal
use Rattle.dc_base.specs.declared.answers.Answer.TheVariants as answer
use Rattle.dc_base.specs.declared.events.Event.TheVariants as event
use Rattle.dc_base.specs.declared.events.Note.TheVariants as note
use Rattle.dc_base.specs.declared.events.Line.TheVariants as line
use Rattle.transcript.specs.Transcript.{Entry}
use Rattle.dc_base.specs.Links.{link}
use Rattle.claims.specs.Writing.{a_shape, a_key, a_plan, a_transfer, a_header, an_entry}
use Rattle.claims.specs.Names.{carried, cause, come, drained, front, holder, licensed, numbered, on_link, one_use, placed, planned, protected, replied, told, unstalled, windowed, breaks}
use Rattle.dc_base.specs.Count.{modulus, window, sn, distance, count_for}
use Rattle.nea2.specs.Keystream.{keystream, counter_block, stream_blocks}
use Rattle.pdcp_pdu.specs.DataPdu.{data_pdu}
use Rattle.pdcp_pdu.specs.Pdu.{decoded, read_data, read_report}
use Rattle.pdcp_pdu.specs.StatusReport.{report_pdu}

-- what comes before
abbrev before_c1_up_line_with_an_altered_payload : List Entry
before_c1_up_line_with_an_altered_payload =
    an_entry (event.Bearer 1 S12 0 (a_shape false Mcg false) 0 0) answer.Ok (line.Note (note.Own M 1 1) ∷ line.Send (link M T Ctl) (flight.Ctl (rec.Reconf (a_plan 1 None (Set 1 S12 0 (a_shape false Mcg false) 0 0 (a_key 0 Master) None ∷ [])) [])) ∷ [])
    ∷ an_entry (event.Step (link M T Ctl) 0) answer.Ok (line.Note (note.Set 1 1) ∷ line.Send (link T M Ctl) (flight.Ctl (rec.Rcomp 1)) ∷ [])
    ∷ an_entry (event.Step (link T M Ctl) 0) answer.Ok (line.Note note.Done ∷ [])
    ∷ an_entry (event.Submit 1 Dl (104 ∷ 105 ∷ [])) answer.Ok (line.Send (link M T Air) (flight.Air 1 1 0 (Some 0) (128 ∷ 0 ∷ 104 ∷ 105 ∷ [])) ∷ [])
    ∷ []

c1_up_line_with_an_altered_payload_is_wrong : breaks (a_header Nea0 0 (replicate 32 0)) (before_c1_up_line_with_an_altered_payload ++
    an_entry (event.Step (link M T Air) 0) answer.Ok (line.Note (note.Up T 1 Dl 0 (104 ∷ 104 ∷ [])) ∷ line.Send (link T M Air) (flight.Ack 1 1 0) ∷ [])
    ∷ []) ≡ front ∷ []
unfolding sn window modulus distance count_for data_pdu decoded read_data read_report keystream counter_block stream_blocks report_pdu
c1_up_line_with_an_altered_payload_is_wrong = refl

c1_up_line_with_an_altered_payload_is_right : breaks (a_header Nea0 0 (replicate 32 0)) (before_c1_up_line_with_an_altered_payload ++
    an_entry (event.Step (link M T Air) 0) answer.Ok (line.Note (note.Up T 1 Dl 0 (104 ∷ 105 ∷ [])) ∷ line.Send (link T M Air) (flight.Ack 1 1 0) ∷ [])
    ∷ []) ≡ []
unfolding sn window modulus distance count_for data_pdu decoded read_data read_report keystream counter_block stream_blocks report_pdu
c1_up_line_with_an_altered_payload_is_right = refl

-- what comes before
abbrev before_c2_handed_up_at_its_submission : List Entry
before_c2_handed_up_at_its_submission =
    an_entry (event.Bearer 1 S12 0 (a_shape false Mcg false) 0 0) answer.Ok (line.Note (note.Own M 1 1) ∷ line.Send (link M T Ctl) (flight.Ctl (rec.Reconf (a_plan 1 None (Set 1 S12 0 (a_shape false Mcg false) 0 0 (a_key 0 Master) None ∷ [])) [])) ∷ [])
    ∷ an_entry (event.Step (link M T Ctl) 0) answer.Ok (line.Note (note.Set 1 1) ∷ line.Send (link T M Ctl) (flight.Ctl (rec.Rcomp 1)) ∷ [])
    ∷ an_entry (event.Step (link T M Ctl) 0) answer.Ok (line.Note note.Done ∷ [])
    ∷ []

c2_handed_up_at_its_submission_is_wrong : breaks (a_header Nea0 0 (replicate 32 0)) (before_c2_handed_up_at_its_submission ++
    an_entry (event.Submit 1 Dl (104 ∷ 105 ∷ [])) answer.Ok (line.Note (note.Up T 1 Dl 0 (104 ∷ 105 ∷ [])) ∷ line.Send (link M T Air) (flight.Air 1 1 0 (Some 0) (128 ∷ 0 ∷ 104 ∷ 105 ∷ [])) ∷ [])
    ∷ []) ≡ carried ∷ []
unfolding sn window modulus distance count_for data_pdu decoded read_data read_report keystream counter_block stream_blocks report_pdu
c2_handed_up_at_its_submission_is_wrong = refl

c2_handed_up_at_its_submission_is_right : breaks (a_header Nea0 0 (replicate 32 0)) (before_c2_handed_up_at_its_submission ++
    an_entry (event.Submit 1 Dl (104 ∷ 105 ∷ [])) answer.Ok (line.Send (link M T Air) (flight.Air 1 1 0 (Some 0) (128 ∷ 0 ∷ 104 ∷ 105 ∷ [])) ∷ [])
    ∷ []) ≡ []
unfolding sn window modulus distance count_for data_pdu decoded read_data read_report keystream counter_block stream_blocks report_pdu
c2_handed_up_at_its_submission_is_right = refl

-- what comes before
abbrev before_accepted_change_without_reconf : List Entry
before_accepted_change_without_reconf =
    an_entry (event.Add A) answer.Ok (line.Send (link M A Ctl) (flight.Ctl (rec.Addreq (a_plan 1 (Some A) []) [])) ∷ [])
    ∷ an_entry (event.Step (link M A Ctl) 0) answer.Ok (line.Note (note.Join A 1) ∷ line.Send (link A M Ctl) (flight.Ctl (rec.Addack 1)) ∷ [])
    ∷ an_entry (event.Step (link A M Ctl) 0) answer.Ok (line.Send (link M T Ctl) (flight.Ctl (rec.Reconf (a_plan 1 (Some A) []) [])) ∷ [])
    ∷ an_entry (event.Step (link M T Ctl) 0) answer.Ok (line.Send (link T M Ctl) (flight.Ctl (rec.Rcomp 1)) ∷ [])
    ∷ an_entry (event.Step (link T M Ctl) 0) answer.Ok (line.Send (link M A Ctl) (flight.Ctl (rec.Recfg 1)) ∷ line.Note note.Done ∷ [])
    ∷ an_entry (event.Step (link M A Ctl) 0) answer.Ok []
    ∷ an_entry (event.Bearer 1 S12 0 (a_shape true Scg false) 0 0) answer.Ok (line.Send (link M A Ctl) (flight.Ctl (rec.Modreq (a_plan 2 (Some A) (Set 1 S12 0 (a_shape true Scg false) 0 0 (a_key 0 (SecondKey 0)) None ∷ [])) [])) ∷ [])
    ∷ an_entry (event.Step (link M A Ctl) 0) answer.Ok (line.Note (note.Own A 1 2) ∷ line.Send (link A M Ctl) (flight.Ctl (rec.Modack 2)) ∷ [])
    ∷ []

accepted_change_without_reconf_is_wrong : breaks (a_header Nea0 0 (replicate 32 0)) (before_accepted_change_without_reconf ++
    an_entry (event.Step (link A M Ctl) 0) answer.Ok []
    ∷ []) ≡ come ∷ unstalled ∷ []
unfolding sn window modulus distance count_for data_pdu decoded read_data read_report keystream counter_block stream_blocks report_pdu
accepted_change_without_reconf_is_wrong = refl

accepted_change_without_reconf_is_right : breaks (a_header Nea0 0 (replicate 32 0)) (before_accepted_change_without_reconf ++
    an_entry (event.Step (link A M Ctl) 0) answer.Ok (line.Send (link M T Ctl) (flight.Ctl (rec.Reconf (a_plan 2 (Some A) (Set 1 S12 0 (a_shape true Scg false) 0 0 (a_key 0 (SecondKey 0)) None ∷ [])) [])) ∷ [])
    ∷ []) ≡ []
unfolding sn window modulus distance count_for data_pdu decoded read_data read_report keystream counter_block stream_blocks report_pdu
accepted_change_without_reconf_is_right = refl

-- what comes before
abbrev before_ack_of_a_report_confirms_a_count : List Entry
before_ack_of_a_report_confirms_a_count =
    an_entry (event.Bearer 1 S12 0 (a_shape false Mcg false) 0 0) answer.Ok (line.Note (note.Own M 1 1) ∷ line.Send (link M T Ctl) (flight.Ctl (rec.Reconf (a_plan 1 None (Set 1 S12 0 (a_shape false Mcg false) 0 0 (a_key 0 Master) None ∷ [])) [])) ∷ [])
    ∷ an_entry (event.Step (link M T Ctl) 0) answer.Ok (line.Note (note.Set 1 1) ∷ line.Send (link T M Ctl) (flight.Ctl (rec.Rcomp 1)) ∷ [])
    ∷ an_entry (event.Step (link T M Ctl) 0) answer.Ok (line.Note note.Done ∷ [])
    ∷ an_entry (event.Submit 1 Dl (104 ∷ 105 ∷ [])) answer.Ok (line.Send (link M T Air) (flight.Air 1 1 0 (Some 0) (128 ∷ 0 ∷ 104 ∷ 105 ∷ [])) ∷ [])
    ∷ an_entry (event.Report M 1) answer.Ok (line.Send (link M T Air) (flight.Air 1 1 1 None (0 ∷ 0 ∷ 0 ∷ 0 ∷ 0 ∷ [])) ∷ [])
    ∷ an_entry (event.Step (link M T Air) 1) answer.Ok (line.Send (link T M Air) (flight.Ack 1 1 1) ∷ [])
    ∷ []

ack_of_a_report_confirms_a_count_is_wrong : breaks (a_header Nea0 0 (replicate 32 0)) (before_ack_of_a_report_confirms_a_count ++
    an_entry (event.Step (link T M Air) 0) answer.Ok (line.Note (note.Freed 1 Dl 1) ∷ [])
    ∷ []) ≡ told ∷ []
unfolding sn window modulus distance count_for data_pdu decoded read_data read_report keystream counter_block stream_blocks report_pdu
ack_of_a_report_confirms_a_count_is_wrong = refl

ack_of_a_report_confirms_a_count_is_right : breaks (a_header Nea0 0 (replicate 32 0)) (before_ack_of_a_report_confirms_a_count ++
    an_entry (event.Step (link T M Air) 0) answer.Ok []
    ∷ []) ≡ []
unfolding sn window modulus distance count_for data_pdu decoded read_data read_report keystream counter_block stream_blocks report_pdu
ack_of_a_report_confirms_a_count_is_right = refl

-- what comes before
abbrev before_ack_of_an_old_generation_confirms : List Entry
before_ack_of_an_old_generation_confirms =
    an_entry (event.Bearer 1 S12 0 (a_shape false Mcg false) 0 0) answer.Ok (line.Note (note.Own M 1 1) ∷ line.Send (link M T Ctl) (flight.Ctl (rec.Reconf (a_plan 1 None (Set 1 S12 0 (a_shape false Mcg false) 0 0 (a_key 0 Master) None ∷ [])) [])) ∷ [])
    ∷ an_entry (event.Step (link M T Ctl) 0) answer.Ok (line.Note (note.Set 1 1) ∷ line.Send (link T M Ctl) (flight.Ctl (rec.Rcomp 1)) ∷ [])
    ∷ an_entry (event.Step (link T M Ctl) 0) answer.Ok (line.Note note.Done ∷ [])
    ∷ an_entry (event.Submit 1 Dl (170 ∷ [])) answer.Ok (line.Send (link M T Air) (flight.Air 1 1 0 (Some 0) (128 ∷ 0 ∷ 170 ∷ [])) ∷ [])
    ∷ an_entry (event.Step (link M T Air) 0) answer.Ok (line.Note (note.Up T 1 Dl 0 (170 ∷ [])) ∷ line.Send (link T M Air) (flight.Ack 1 1 0) ∷ [])
    ∷ an_entry (event.RekeyMaster (replicate 32 17)) answer.Ok (line.Note (note.Own M 1 2) ∷ line.Send (link M T Ctl) (flight.Ctl (rec.Reconf (a_plan 2 None (Set 1 S12 0 (a_shape false Mcg false) 0 0 (a_key 1 Master) (Some M) ∷ [])) [])) ∷ [])
    ∷ []

ack_of_an_old_generation_confirms_is_wrong : breaks (a_header Nea0 0 (replicate 32 0)) (before_ack_of_an_old_generation_confirms ++
    an_entry (event.Step (link T M Air) 0) answer.Ok (line.Note (note.Freed 1 Dl 1) ∷ [])
    ∷ []) ≡ told ∷ []
unfolding sn window modulus distance count_for data_pdu decoded read_data read_report keystream counter_block stream_blocks report_pdu
ack_of_an_old_generation_confirms_is_wrong = refl

ack_of_an_old_generation_confirms_is_right : breaks (a_header Nea0 0 (replicate 32 0)) (before_ack_of_an_old_generation_confirms ++
    an_entry (event.Step (link T M Air) 0) answer.Ok []
    ∷ []) ≡ []
unfolding sn window modulus distance count_for data_pdu decoded read_data read_report keystream counter_block stream_blocks report_pdu
ack_of_an_old_generation_confirms_is_right = refl

-- what comes before
abbrev before_ack_of_another_num : List Entry
before_ack_of_another_num =
    an_entry (event.Bearer 1 S12 0 (a_shape false Mcg false) 0 0) answer.Ok (line.Note (note.Own M 1 1) ∷ line.Send (link M T Ctl) (flight.Ctl (rec.Reconf (a_plan 1 None (Set 1 S12 0 (a_shape false Mcg false) 0 0 (a_key 0 Master) None ∷ [])) [])) ∷ [])
    ∷ an_entry (event.Step (link M T Ctl) 0) answer.Ok (line.Note (note.Set 1 1) ∷ line.Send (link T M Ctl) (flight.Ctl (rec.Rcomp 1)) ∷ [])
    ∷ an_entry (event.Step (link T M Ctl) 0) answer.Ok (line.Note note.Done ∷ [])
    ∷ an_entry (event.Submit 1 Dl (104 ∷ 105 ∷ [])) answer.Ok (line.Send (link M T Air) (flight.Air 1 1 0 (Some 0) (128 ∷ 0 ∷ 104 ∷ 105 ∷ [])) ∷ [])
    ∷ an_entry (event.Submit 1 Dl (121 ∷ 111 ∷ [])) answer.Ok (line.Send (link M T Air) (flight.Air 1 1 1 (Some 1) (128 ∷ 1 ∷ 121 ∷ 111 ∷ [])) ∷ [])
    ∷ []

ack_of_another_num_is_wrong : breaks (a_header Nea0 0 (replicate 32 0)) (before_ack_of_another_num ++
    an_entry (event.Step (link M T Air) 0) answer.Ok (line.Note (note.Up T 1 Dl 0 (104 ∷ 105 ∷ [])) ∷ line.Send (link T M Air) (flight.Ack 1 1 1) ∷ [])
    ∷ []) ≡ licensed ∷ []
unfolding sn window modulus distance count_for data_pdu decoded read_data read_report keystream counter_block stream_blocks report_pdu
ack_of_another_num_is_wrong = refl

ack_of_another_num_is_right : breaks (a_header Nea0 0 (replicate 32 0)) (before_ack_of_another_num ++
    an_entry (event.Step (link M T Air) 0) answer.Ok (line.Note (note.Up T 1 Dl 0 (104 ∷ 105 ∷ [])) ∷ line.Send (link T M Air) (flight.Ack 1 1 0) ∷ [])
    ∷ []) ≡ []
unfolding sn window modulus distance count_for data_pdu decoded read_data read_report keystream counter_block stream_blocks report_pdu
ack_of_another_num_is_right = refl

ack_on_the_same_link_is_wrong : breaks (a_header Nea0 0 (replicate 32 0)) (before_c1_up_line_with_an_altered_payload ++
    an_entry (event.Step (link M T Air) 0) answer.Ok (line.Note (note.Up T 1 Dl 0 (104 ∷ 105 ∷ [])) ∷ line.Send (link M T Air) (flight.Ack 1 1 0) ∷ [])
    ∷ []) ≡ licensed ∷ []
unfolding sn window modulus distance count_for data_pdu decoded read_data read_report keystream counter_block stream_blocks report_pdu
ack_on_the_same_link_is_wrong = refl

ack_on_the_same_link_is_right : breaks (a_header Nea0 0 (replicate 32 0)) (before_c1_up_line_with_an_altered_payload ++
    an_entry (event.Step (link M T Air) 0) answer.Ok (line.Note (note.Up T 1 Dl 0 (104 ∷ 105 ∷ [])) ∷ line.Send (link T M Air) (flight.Ack 1 1 0) ∷ [])
    ∷ []) ≡ []
unfolding sn window modulus distance count_for data_pdu decoded read_data read_report keystream counter_block stream_blocks report_pdu
ack_on_the_same_link_is_right = refl

-- what comes before
abbrev before_ack_taken_by_the_host_confirms_at_the_anchor : List Entry
before_ack_taken_by_the_host_confirms_at_the_anchor =
    an_entry (event.Add A) answer.Ok (line.Send (link M A Ctl) (flight.Ctl (rec.Addreq (a_plan 1 (Some A) []) [])) ∷ [])
    ∷ an_entry (event.Step (link M A Ctl) 0) answer.Ok (line.Note (note.Join A 1) ∷ line.Send (link A M Ctl) (flight.Ctl (rec.Addack 1)) ∷ [])
    ∷ an_entry (event.Step (link A M Ctl) 0) answer.Ok (line.Send (link M T Ctl) (flight.Ctl (rec.Reconf (a_plan 1 (Some A) []) [])) ∷ [])
    ∷ an_entry (event.Step (link M T Ctl) 0) answer.Ok (line.Send (link T M Ctl) (flight.Ctl (rec.Rcomp 1)) ∷ [])
    ∷ an_entry (event.Step (link T M Ctl) 0) answer.Ok (line.Send (link M A Ctl) (flight.Ctl (rec.Recfg 1)) ∷ line.Note note.Done ∷ [])
    ∷ an_entry (event.Step (link M A Ctl) 0) answer.Ok []
    ∷ an_entry (event.Bearer 1 S12 0 (a_shape false Scg false) 0 0) answer.Ok (line.Send (link M A Ctl) (flight.Ctl (rec.Modreq (a_plan 2 (Some A) (Set 1 S12 0 (a_shape false Scg false) 0 0 (a_key 0 Master) None ∷ [])) [])) ∷ [])
    ∷ an_entry (event.Step (link M A Ctl) 0) answer.Ok (line.Send (link A M Ctl) (flight.Ctl (rec.Modack 2)) ∷ [])
    ∷ an_entry (event.Step (link A M Ctl) 0) answer.Ok (line.Note (note.Own M 1 2) ∷ line.Send (link M T Ctl) (flight.Ctl (rec.Reconf (a_plan 2 (Some A) (Set 1 S12 0 (a_shape false Scg false) 0 0 (a_key 0 Master) None ∷ [])) [])) ∷ [])
    ∷ an_entry (event.Step (link M T Ctl) 0) answer.Ok (line.Note (note.Set 1 2) ∷ line.Send (link T M Ctl) (flight.Ctl (rec.Rcomp 2)) ∷ [])
    ∷ an_entry (event.Step (link T M Ctl) 0) answer.Ok (line.Send (link M A Ctl) (flight.Ctl (rec.Recfg 2)) ∷ line.Note note.Done ∷ [])
    ∷ an_entry (event.Step (link M A Ctl) 0) answer.Ok []
    ∷ an_entry (event.Submit 1 Dl (170 ∷ [])) answer.Ok (line.Send (link M A Tun) (flight.Tun (Some 0) (52 ∷ 255 ∷ 0 ∷ 15 ∷ 0 ∷ 0 ∷ 1 ∷ 0 ∷ 0 ∷ 0 ∷ 0 ∷ 132 ∷ 2 ∷ 1 ∷ 0 ∷ 0 ∷ 0 ∷ 0 ∷ 0 ∷ 0 ∷ 128 ∷ 0 ∷ 170 ∷ [])) ∷ [])
    ∷ an_entry (event.Step (link M A Tun) 0) answer.Ok (line.Send (link A T Air) (flight.Air 1 2 0 (Some 0) (128 ∷ 0 ∷ 170 ∷ [])) ∷ [])
    ∷ an_entry (event.Step (link A T Air) 0) answer.Ok (line.Note (note.Up T 1 Dl 0 (170 ∷ [])) ∷ line.Send (link T A Air) (flight.Ack 1 2 0) ∷ [])
    ∷ []

ack_taken_by_the_host_confirms_at_the_anchor_is_wrong : breaks (a_header Nea0 0 (replicate 32 0)) (before_ack_taken_by_the_host_confirms_at_the_anchor ++
    an_entry (event.Step (link T A Air) 0) answer.Ok (line.Note (note.Freed 1 Dl 1) ∷ line.Send (link A M Tun) (flight.Tun (Some 0) (52 ∷ 255 ∷ 0 ∷ 12 ∷ 0 ∷ 0 ∷ 1 ∷ 0 ∷ 0 ∷ 0 ∷ 0 ∷ 132 ∷ 2 ∷ 17 ∷ 0 ∷ 0 ∷ 0 ∷ 0 ∷ 0 ∷ 0 ∷ [])) ∷ [])
    ∷ []) ≡ told ∷ []
unfolding sn window modulus distance count_for data_pdu decoded read_data read_report keystream counter_block stream_blocks report_pdu
ack_taken_by_the_host_confirms_at_the_anchor_is_wrong = refl

ack_taken_by_the_host_confirms_at_the_anchor_is_right : breaks (a_header Nea0 0 (replicate 32 0)) (before_ack_taken_by_the_host_confirms_at_the_anchor ++
    an_entry (event.Step (link T A Air) 0) answer.Ok (line.Send (link A M Tun) (flight.Tun (Some 0) (52 ∷ 255 ∷ 0 ∷ 12 ∷ 0 ∷ 0 ∷ 1 ∷ 0 ∷ 0 ∷ 0 ∷ 0 ∷ 132 ∷ 2 ∷ 17 ∷ 0 ∷ 0 ∷ 0 ∷ 0 ∷ 0 ∷ 0 ∷ [])) ∷ [])
    ∷ []) ≡ []
unfolding sn window modulus distance count_for data_pdu decoded read_data read_report keystream counter_block stream_blocks report_pdu
ack_taken_by_the_host_confirms_at_the_anchor_is_right = refl

ack_without_a_pdu_is_wrong : breaks (a_header Nea0 0 (replicate 32 0)) (before_c2_handed_up_at_its_submission ++
    an_entry (event.Submit 1 Dl (104 ∷ 105 ∷ [])) answer.Ok (line.Send (link M T Air) (flight.Air 1 1 0 (Some 0) (128 ∷ 0 ∷ 104 ∷ 105 ∷ [])) ∷ line.Send (link T M Air) (flight.Ack 1 1 0) ∷ [])
    ∷ []) ≡ licensed ∷ []
unfolding sn window modulus distance count_for data_pdu decoded read_data read_report keystream counter_block stream_blocks report_pdu
ack_without_a_pdu_is_wrong = refl

ack_without_a_pdu_is_right : breaks (a_header Nea0 0 (replicate 32 0)) (before_c2_handed_up_at_its_submission ++
    an_entry (event.Submit 1 Dl (104 ∷ 105 ∷ [])) answer.Ok (line.Send (link M T Air) (flight.Air 1 1 0 (Some 0) (128 ∷ 0 ∷ 104 ∷ 105 ∷ [])) ∷ [])
    ∷ []) ≡ []
unfolding sn window modulus distance count_for data_pdu decoded read_data read_report keystream counter_block stream_blocks report_pdu
ack_without_a_pdu_is_right = refl

-- what comes before
abbrev before_addack_twice : List Entry
before_addack_twice =
    an_entry (event.Add A) answer.Ok (line.Send (link M A Ctl) (flight.Ctl (rec.Addreq (a_plan 1 (Some A) []) [])) ∷ [])
    ∷ []

addack_twice_is_wrong : breaks (a_header Nea0 0 (replicate 32 0)) (before_addack_twice ++
    an_entry (event.Step (link M A Ctl) 0) answer.Ok (line.Note (note.Join A 1) ∷ line.Send (link A M Ctl) (flight.Ctl (rec.Addack 1)) ∷ line.Send (link A M Ctl) (flight.Ctl (rec.Addack 1)) ∷ [])
    ∷ []) ≡ licensed ∷ []
unfolding sn window modulus distance count_for data_pdu decoded read_data read_report keystream counter_block stream_blocks report_pdu
addack_twice_is_wrong = refl

addack_twice_is_right : breaks (a_header Nea0 0 (replicate 32 0)) (before_addack_twice ++
    an_entry (event.Step (link M A Ctl) 0) answer.Ok (line.Note (note.Join A 1) ∷ line.Send (link A M Ctl) (flight.Ctl (rec.Addack 1)) ∷ [])
    ∷ []) ≡ []
unfolding sn window modulus distance count_for data_pdu decoded read_data read_report keystream counter_block stream_blocks report_pdu
addack_twice_is_right = refl

-- what comes before
abbrev before_addition_that_never_ends : List Entry
before_addition_that_never_ends =
    an_entry (event.Add A) answer.Ok (line.Send (link M A Ctl) (flight.Ctl (rec.Addreq (a_plan 1 (Some A) []) [])) ∷ [])
    ∷ an_entry (event.Step (link M A Ctl) 0) answer.Ok (line.Note (note.Join A 1) ∷ line.Send (link A M Ctl) (flight.Ctl (rec.Addack 1)) ∷ [])
    ∷ an_entry (event.Step (link A M Ctl) 0) answer.Ok (line.Send (link M T Ctl) (flight.Ctl (rec.Reconf (a_plan 1 (Some A) []) [])) ∷ [])
    ∷ an_entry (event.Step (link M T Ctl) 0) answer.Ok (line.Send (link T M Ctl) (flight.Ctl (rec.Rcomp 1)) ∷ [])
    ∷ []

addition_that_never_ends_is_wrong : breaks (a_header Nea0 0 (replicate 32 0)) (before_addition_that_never_ends ++
    an_entry (event.Step (link T M Ctl) 0) answer.Ok (line.Send (link M A Ctl) (flight.Ctl (rec.Recfg 1)) ∷ [])
    ∷ an_entry (event.Step (link M A Ctl) 0) answer.Ok []
    ∷ []) ≡ come ∷ unstalled ∷ []
unfolding sn window modulus distance count_for data_pdu decoded read_data read_report keystream counter_block stream_blocks report_pdu
addition_that_never_ends_is_wrong = refl

addition_that_never_ends_is_right : breaks (a_header Nea0 0 (replicate 32 0)) (before_addition_that_never_ends ++
    an_entry (event.Step (link T M Ctl) 0) answer.Ok (line.Send (link M A Ctl) (flight.Ctl (rec.Recfg 1)) ∷ line.Note note.Done ∷ [])
    ∷ an_entry (event.Step (link M A Ctl) 0) answer.Ok []
    ∷ []) ≡ []
unfolding sn window modulus distance count_for data_pdu decoded read_data read_report keystream counter_block stream_blocks report_pdu
addition_that_never_ends_is_right = refl

-- what comes before
abbrev before_again_without_its_copy : List Entry
before_again_without_its_copy =
    an_entry (event.Add A) answer.Ok (line.Send (link M A Ctl) (flight.Ctl (rec.Addreq (a_plan 1 (Some A) []) [])) ∷ [])
    ∷ an_entry (event.Step (link M A Ctl) 0) answer.Ok (line.Note (note.Join A 1) ∷ line.Send (link A M Ctl) (flight.Ctl (rec.Addack 1)) ∷ [])
    ∷ an_entry (event.Step (link A M Ctl) 0) answer.Ok (line.Send (link M T Ctl) (flight.Ctl (rec.Reconf (a_plan 1 (Some A) []) [])) ∷ [])
    ∷ an_entry (event.Step (link M T Ctl) 0) answer.Ok (line.Send (link T M Ctl) (flight.Ctl (rec.Rcomp 1)) ∷ [])
    ∷ an_entry (event.Step (link T M Ctl) 0) answer.Ok (line.Send (link M A Ctl) (flight.Ctl (rec.Recfg 1)) ∷ line.Note note.Done ∷ [])
    ∷ an_entry (event.Step (link M A Ctl) 0) answer.Ok []
    ∷ an_entry (event.Bearer 1 S12 0 (a_shape false Scg false) 0 0) answer.Ok (line.Send (link M A Ctl) (flight.Ctl (rec.Modreq (a_plan 2 (Some A) (Set 1 S12 0 (a_shape false Scg false) 0 0 (a_key 0 Master) None ∷ [])) [])) ∷ [])
    ∷ an_entry (event.Step (link M A Ctl) 0) answer.Ok (line.Send (link A M Ctl) (flight.Ctl (rec.Modack 2)) ∷ [])
    ∷ an_entry (event.Step (link A M Ctl) 0) answer.Ok (line.Note (note.Own M 1 2) ∷ line.Send (link M T Ctl) (flight.Ctl (rec.Reconf (a_plan 2 (Some A) (Set 1 S12 0 (a_shape false Scg false) 0 0 (a_key 0 Master) None ∷ [])) [])) ∷ [])
    ∷ an_entry (event.Step (link M T Ctl) 0) answer.Ok (line.Note (note.Set 1 2) ∷ line.Send (link T M Ctl) (flight.Ctl (rec.Rcomp 2)) ∷ [])
    ∷ an_entry (event.Step (link T M Ctl) 0) answer.Ok (line.Send (link M A Ctl) (flight.Ctl (rec.Recfg 2)) ∷ line.Note note.Done ∷ [])
    ∷ an_entry (event.Submit 1 Dl (170 ∷ [])) answer.Ok (line.Send (link M A Tun) (flight.Tun (Some 0) (52 ∷ 255 ∷ 0 ∷ 15 ∷ 0 ∷ 0 ∷ 1 ∷ 0 ∷ 0 ∷ 0 ∷ 0 ∷ 132 ∷ 2 ∷ 1 ∷ 0 ∷ 0 ∷ 0 ∷ 0 ∷ 0 ∷ 0 ∷ 128 ∷ 0 ∷ 170 ∷ [])) ∷ [])
    ∷ []

again_without_its_copy_is_wrong : breaks (a_header Nea0 0 (replicate 32 0)) (before_again_without_its_copy ++
    an_entry (event.Again (link M A Tun) 0) answer.Ok []
    ∷ []) ≡ come ∷ []
unfolding sn window modulus distance count_for data_pdu decoded read_data read_report keystream counter_block stream_blocks report_pdu
again_without_its_copy_is_wrong = refl

again_without_its_copy_is_right : breaks (a_header Nea0 0 (replicate 32 0)) (before_again_without_its_copy ++
    an_entry (event.Again (link M A Tun) 0) answer.Ok (line.Send (link M A Tun) (flight.Tun (Some 0) (52 ∷ 255 ∷ 0 ∷ 15 ∷ 0 ∷ 0 ∷ 1 ∷ 0 ∷ 0 ∷ 0 ∷ 0 ∷ 132 ∷ 2 ∷ 1 ∷ 0 ∷ 0 ∷ 0 ∷ 0 ∷ 0 ∷ 0 ∷ 128 ∷ 0 ∷ 170 ∷ [])) ∷ [])
    ∷ []) ≡ []
unfolding sn window modulus distance count_for data_pdu decoded read_data read_report keystream counter_block stream_blocks report_pdu
again_without_its_copy_is_right = refl

-- what comes before
abbrev before_anchor_frozen_without_forwarding : List Entry
before_anchor_frozen_without_forwarding =
    an_entry (event.Bearer 1 S12 0 (a_shape false Mcg false) 0 0) answer.Ok (line.Note (note.Own M 1 1) ∷ line.Send (link M T Ctl) (flight.Ctl (rec.Reconf (a_plan 1 None (Set 1 S12 0 (a_shape false Mcg false) 0 0 (a_key 0 Master) None ∷ [])) [])) ∷ [])
    ∷ an_entry (event.Step (link M T Ctl) 0) answer.Ok (line.Note (note.Set 1 1) ∷ line.Send (link T M Ctl) (flight.Ctl (rec.Rcomp 1)) ∷ [])
    ∷ an_entry (event.Step (link T M Ctl) 0) answer.Ok (line.Note note.Done ∷ [])
    ∷ an_entry (event.Add A) answer.Ok (line.Send (link M A Ctl) (flight.Ctl (rec.Addreq (a_plan 2 (Some A) []) [])) ∷ [])
    ∷ an_entry (event.Step (link M A Ctl) 0) answer.Ok (line.Note (note.Join A 2) ∷ line.Send (link A M Ctl) (flight.Ctl (rec.Addack 2)) ∷ [])
    ∷ an_entry (event.Step (link A M Ctl) 0) answer.Ok (line.Send (link M T Ctl) (flight.Ctl (rec.Reconf (a_plan 2 (Some A) []) [])) ∷ [])
    ∷ an_entry (event.Step (link M T Ctl) 0) answer.Ok (line.Send (link T M Ctl) (flight.Ctl (rec.Rcomp 2)) ∷ [])
    ∷ an_entry (event.Step (link T M Ctl) 0) answer.Ok (line.Send (link M A Ctl) (flight.Ctl (rec.Recfg 2)) ∷ line.Note note.Done ∷ [])
    ∷ an_entry (event.Reshape 1 (a_shape true Scg false)) answer.Ok (line.Send (link M A Ctl) (flight.Ctl (rec.Modreq (a_plan 3 (Some A) (Set 1 S12 0 (a_shape true Scg false) 0 0 (a_key 0 (SecondKey 0)) (Some M) ∷ [])) [])) ∷ [])
    ∷ an_entry (event.Step (link M A Ctl) 0) answer.Ok []
    ∷ an_entry (event.Step (link M A Ctl) 0) answer.Ok (line.Send (link A M Ctl) (flight.Ctl (rec.Modack 3)) ∷ [])
    ∷ []

anchor_frozen_without_forwarding_is_wrong : breaks (a_header Nea0 0 (replicate 32 0)) (before_anchor_frozen_without_forwarding ++
    an_entry (event.Step (link A M Ctl) 0) answer.Ok (line.Note (note.Give M 1 3) ∷ line.Send (link M T Ctl) (flight.Ctl (rec.Reconf (a_plan 3 (Some A) (Set 1 S12 0 (a_shape true Scg false) 0 0 (a_key 0 (SecondKey 0)) (Some M) ∷ [])) [])) ∷ line.Send (link M A Ctl) (flight.Ctl (rec.Snst (a_transfer 3 1 0 [] 0))) ∷ [])
    ∷ an_entry (event.Step (link M T Ctl) 0) answer.Ok (line.Note (note.Set 1 3) ∷ line.Send (link T M Ctl) (flight.Ctl (rec.Rcomp 3)) ∷ [])
    ∷ an_entry (event.Step (link T M Ctl) 0) answer.Ok (line.Send (link M A Ctl) (flight.Ctl (rec.Recfg 3)) ∷ [])
    ∷ an_entry (event.Step (link M A Ctl) 0) answer.Ok []
    ∷ an_entry (event.Step (link M A Ctl) 0) answer.Ok []
    ∷ []) ≡ come ∷ unstalled ∷ []
unfolding sn window modulus distance count_for data_pdu decoded read_data read_report keystream counter_block stream_blocks report_pdu
anchor_frozen_without_forwarding_is_wrong = refl

anchor_frozen_without_forwarding_is_right : breaks (a_header Nea0 0 (replicate 32 0)) (before_anchor_frozen_without_forwarding ++
    an_entry (event.Step (link A M Ctl) 0) answer.Ok (line.Note (note.Give M 1 3) ∷ line.Send (link M T Ctl) (flight.Ctl (rec.Reconf (a_plan 3 (Some A) (Set 1 S12 0 (a_shape true Scg false) 0 0 (a_key 0 (SecondKey 0)) (Some M) ∷ [])) [])) ∷ line.Send (link M A Ctl) (flight.Ctl (rec.Snst (a_transfer 3 1 0 [] 0))) ∷ line.Send (link M A Tun) (flight.Tun None (52 ∷ 255 ∷ 0 ∷ 12 ∷ 0 ∷ 0 ∷ 1 ∷ 129 ∷ 0 ∷ 0 ∷ 0 ∷ 132 ∷ 2 ∷ 0 ∷ 0 ∷ 0 ∷ 0 ∷ 0 ∷ 0 ∷ 0 ∷ [])) ∷ line.Send (link M A Tun) (flight.Tun None (48 ∷ 254 ∷ 0 ∷ 0 ∷ 0 ∷ 0 ∷ 1 ∷ 129 ∷ [])) ∷ line.Send (link M A Tun) (flight.Tun None (52 ∷ 255 ∷ 0 ∷ 12 ∷ 0 ∷ 0 ∷ 1 ∷ 130 ∷ 0 ∷ 0 ∷ 0 ∷ 132 ∷ 2 ∷ 0 ∷ 0 ∷ 0 ∷ 0 ∷ 0 ∷ 0 ∷ 0 ∷ [])) ∷ line.Send (link M A Tun) (flight.Tun None (48 ∷ 254 ∷ 0 ∷ 0 ∷ 0 ∷ 0 ∷ 1 ∷ 130 ∷ [])) ∷ [])
    ∷ an_entry (event.Step (link M T Ctl) 0) answer.Ok (line.Note (note.Set 1 3) ∷ line.Send (link T M Ctl) (flight.Ctl (rec.Rcomp 3)) ∷ [])
    ∷ an_entry (event.Step (link T M Ctl) 0) answer.Ok (line.Send (link M A Ctl) (flight.Ctl (rec.Recfg 3)) ∷ [])
    ∷ an_entry (event.Step (link M A Ctl) 0) answer.Ok []
    ∷ an_entry (event.Step (link M A Ctl) 0) answer.Ok []
    ∷ []) ≡ []
unfolding sn window modulus distance count_for data_pdu decoded read_data read_report keystream counter_block stream_blocks report_pdu
anchor_frozen_without_forwarding_is_right = refl

bearer_command_without_its_reconf_is_wrong : breaks (a_header Nea0 0 (replicate 32 0)) (
    an_entry (event.Bearer 1 S12 0 (a_shape false Mcg false) 0 0) answer.Ok (line.Note (note.Own M 1 1) ∷ [])
    ∷ []) ≡ come ∷ unstalled ∷ []
unfolding sn window modulus distance count_for data_pdu decoded read_data read_report keystream counter_block stream_blocks report_pdu
bearer_command_without_its_reconf_is_wrong = refl

bearer_command_without_its_reconf_is_right : breaks (a_header Nea0 0 (replicate 32 0)) (
    an_entry (event.Bearer 1 S12 0 (a_shape false Mcg false) 0 0) answer.Ok (line.Note (note.Own M 1 1) ∷ line.Send (link M T Ctl) (flight.Ctl (rec.Reconf (a_plan 1 None (Set 1 S12 0 (a_shape false Mcg false) 0 0 (a_key 0 Master) None ∷ [])) [])) ∷ [])
    ∷ []) ≡ []
unfolding sn window modulus distance count_for data_pdu decoded read_data read_report keystream counter_block stream_blocks report_pdu
bearer_command_without_its_reconf_is_right = refl

bearer_set_up_without_any_record_is_wrong : breaks (a_header Nea0 0 (replicate 32 0)) (
    an_entry (event.Bearer 1 S12 0 (a_shape false Mcg false) 0 0) answer.Ok (line.Note (note.Own M 1 1) ∷ line.Note (note.Set 1 1) ∷ line.Note note.Done ∷ [])
    ∷ []) ≡ placed ∷ []
unfolding sn window modulus distance count_for data_pdu decoded read_data read_report keystream counter_block stream_blocks report_pdu
bearer_set_up_without_any_record_is_wrong = refl

bearer_set_up_without_any_record_is_right : breaks (a_header Nea0 0 (replicate 32 0)) (
    an_entry (event.Bearer 1 S12 0 (a_shape false Mcg false) 0 0) answer.Ok (line.Note (note.Own M 1 1) ∷ line.Send (link M T Ctl) (flight.Ctl (rec.Reconf (a_plan 1 None (Set 1 S12 0 (a_shape false Mcg false) 0 0 (a_key 0 Master) None ∷ [])) [])) ∷ [])
    ∷ []) ≡ []
unfolding sn window modulus distance count_for data_pdu decoded read_data read_report keystream counter_block stream_blocks report_pdu
bearer_set_up_without_any_record_is_right = refl

begin_line_that_nobody_asked_for_is_wrong : breaks (a_header Nea0 0 (replicate 32 0)) (
    an_entry (event.Bearer 1 S12 0 (a_shape false Mcg false) 0 0) answer.Ok (line.Note (note.Begin want.Rekey) ∷ line.Note (note.Own M 1 1) ∷ line.Send (link M T Ctl) (flight.Ctl (rec.Reconf (a_plan 1 None (Set 1 S12 0 (a_shape false Mcg false) 0 0 (a_key 0 Master) None ∷ [])) [])) ∷ [])
    ∷ []) ≡ licensed ∷ placed ∷ come ∷ replied ∷ []
unfolding sn window modulus distance count_for data_pdu decoded read_data read_report keystream counter_block stream_blocks report_pdu
begin_line_that_nobody_asked_for_is_wrong = refl

begin_line_that_nobody_asked_for_is_right : breaks (a_header Nea0 0 (replicate 32 0)) (
    an_entry (event.Bearer 1 S12 0 (a_shape false Mcg false) 0 0) answer.Ok (line.Note (note.Own M 1 1) ∷ line.Send (link M T Ctl) (flight.Ctl (rec.Reconf (a_plan 1 None (Set 1 S12 0 (a_shape false Mcg false) 0 0 (a_key 0 Master) None ∷ [])) [])) ∷ [])
    ∷ []) ≡ []
unfolding sn window modulus distance count_for data_pdu decoded read_data read_report keystream counter_block stream_blocks report_pdu
begin_line_that_nobody_asked_for_is_right = refl

-- what comes before
abbrev before_both_legs_without_duplication : List Entry
before_both_legs_without_duplication =
    an_entry (event.Add A) answer.Ok (line.Send (link M A Ctl) (flight.Ctl (rec.Addreq (a_plan 1 (Some A) []) [])) ∷ [])
    ∷ an_entry (event.Step (link M A Ctl) 0) answer.Ok (line.Note (note.Join A 1) ∷ line.Send (link A M Ctl) (flight.Ctl (rec.Addack 1)) ∷ [])
    ∷ an_entry (event.Step (link A M Ctl) 0) answer.Ok (line.Send (link M T Ctl) (flight.Ctl (rec.Reconf (a_plan 1 (Some A) []) [])) ∷ [])
    ∷ an_entry (event.Step (link M T Ctl) 0) answer.Ok (line.Send (link T M Ctl) (flight.Ctl (rec.Rcomp 1)) ∷ [])
    ∷ an_entry (event.Step (link T M Ctl) 0) answer.Ok (line.Send (link M A Ctl) (flight.Ctl (rec.Recfg 1)) ∷ line.Note note.Done ∷ [])
    ∷ an_entry (event.Step (link M A Ctl) 0) answer.Ok []
    ∷ an_entry (event.Bearer 1 S12 0 (a_shape false (Split cell.Mcg) false) 0 0) answer.Ok (line.Send (link M A Ctl) (flight.Ctl (rec.Modreq (a_plan 2 (Some A) (Set 1 S12 0 (a_shape false (Split cell.Mcg) false) 0 0 (a_key 0 Master) None ∷ [])) [])) ∷ [])
    ∷ an_entry (event.Step (link M A Ctl) 0) answer.Ok (line.Send (link A M Ctl) (flight.Ctl (rec.Modack 2)) ∷ [])
    ∷ an_entry (event.Step (link A M Ctl) 0) answer.Ok (line.Note (note.Own M 1 2) ∷ line.Send (link M T Ctl) (flight.Ctl (rec.Reconf (a_plan 2 (Some A) (Set 1 S12 0 (a_shape false (Split cell.Mcg) false) 0 0 (a_key 0 Master) None ∷ [])) [])) ∷ [])
    ∷ an_entry (event.Step (link M T Ctl) 0) answer.Ok (line.Note (note.Set 1 2) ∷ line.Send (link T M Ctl) (flight.Ctl (rec.Rcomp 2)) ∷ [])
    ∷ an_entry (event.Step (link T M Ctl) 0) answer.Ok (line.Send (link M A Ctl) (flight.Ctl (rec.Recfg 2)) ∷ line.Note note.Done ∷ [])
    ∷ []

both_legs_without_duplication_is_wrong : breaks (a_header Nea0 0 (replicate 32 0)) (before_both_legs_without_duplication ++
    an_entry (event.Submit 1 Dl (170 ∷ [])) answer.Ok (line.Send (link M T Air) (flight.Air 1 2 0 (Some 0) (128 ∷ 0 ∷ 170 ∷ [])) ∷ line.Send (link M A Tun) (flight.Tun (Some 0) (52 ∷ 255 ∷ 0 ∷ 15 ∷ 0 ∷ 0 ∷ 1 ∷ 0 ∷ 0 ∷ 0 ∷ 0 ∷ 132 ∷ 2 ∷ 1 ∷ 0 ∷ 0 ∷ 0 ∷ 0 ∷ 0 ∷ 0 ∷ 128 ∷ 0 ∷ 170 ∷ [])) ∷ [])
    ∷ []) ≡ licensed ∷ []
unfolding sn window modulus distance count_for data_pdu decoded read_data read_report keystream counter_block stream_blocks report_pdu
both_legs_without_duplication_is_wrong = refl

both_legs_without_duplication_is_right : breaks (a_header Nea0 0 (replicate 32 0)) (before_both_legs_without_duplication ++
    an_entry (event.Submit 1 Dl (170 ∷ [])) answer.Ok (line.Send (link M T Air) (flight.Air 1 2 0 (Some 0) (128 ∷ 0 ∷ 170 ∷ [])) ∷ [])
    ∷ []) ≡ []
unfolding sn window modulus distance count_for data_pdu decoded read_data read_report keystream counter_block stream_blocks report_pdu
both_legs_without_duplication_is_right = refl

-- what comes before
abbrev before_command_done_and_rejected : List Entry
before_command_done_and_rejected =
    an_entry (event.Deny A true) answer.Ok []
    ∷ an_entry (event.Add A) answer.Ok (line.Send (link M A Ctl) (flight.Ctl (rec.Addreq (a_plan 1 (Some A) []) [])) ∷ [])
    ∷ an_entry (event.Step (link M A Ctl) 0) answer.Ok (line.Send (link A M Ctl) (flight.Ctl (rec.Addrej 1)) ∷ [])
    ∷ []

command_done_and_rejected_is_wrong : breaks (a_header Nea0 0 (replicate 32 0)) (before_command_done_and_rejected ++
    an_entry (event.Step (link A M Ctl) 0) answer.Ok (line.Note note.Done ∷ line.Note note.Rejected ∷ [])
    ∷ []) ≡ placed ∷ []
unfolding sn window modulus distance count_for data_pdu decoded read_data read_report keystream counter_block stream_blocks report_pdu
command_done_and_rejected_is_wrong = refl

command_done_and_rejected_is_right : breaks (a_header Nea0 0 (replicate 32 0)) (before_command_done_and_rejected ++
    an_entry (event.Step (link A M Ctl) 0) answer.Ok (line.Note note.Rejected ∷ [])
    ∷ []) ≡ []
unfolding sn window modulus distance count_for data_pdu decoded read_data read_report keystream counter_block stream_blocks report_pdu
command_done_and_rejected_is_right = refl

command_that_ends_twice_is_wrong : breaks (a_header Nea0 0 (replicate 32 0)) (before_addition_that_never_ends ++
    an_entry (event.Step (link T M Ctl) 0) answer.Ok (line.Send (link M A Ctl) (flight.Ctl (rec.Recfg 1)) ∷ line.Note note.Done ∷ line.Note note.Done ∷ [])
    ∷ []) ≡ placed ∷ []
unfolding sn window modulus distance count_for data_pdu decoded read_data read_report keystream counter_block stream_blocks report_pdu
command_that_ends_twice_is_wrong = refl

command_that_ends_twice_is_right : breaks (a_header Nea0 0 (replicate 32 0)) (before_addition_that_never_ends ++
    an_entry (event.Step (link T M Ctl) 0) answer.Ok (line.Send (link M A Ctl) (flight.Ctl (rec.Recfg 1)) ∷ line.Note note.Done ∷ [])
    ∷ []) ≡ []
unfolding sn window modulus distance count_for data_pdu decoded read_data read_report keystream counter_block stream_blocks report_pdu
command_that_ends_twice_is_right = refl

-- what comes before
abbrev before_confirmed_count_sent_again_after_a_rekey : List Entry
before_confirmed_count_sent_again_after_a_rekey =
    an_entry (event.Bearer 1 S12 0 (a_shape false Mcg false) 0 0) answer.Ok (line.Note (note.Own M 1 1) ∷ line.Send (link M T Ctl) (flight.Ctl (rec.Reconf (a_plan 1 None (Set 1 S12 0 (a_shape false Mcg false) 0 0 (a_key 0 Master) None ∷ [])) [])) ∷ [])
    ∷ an_entry (event.Step (link M T Ctl) 0) answer.Ok (line.Note (note.Set 1 1) ∷ line.Send (link T M Ctl) (flight.Ctl (rec.Rcomp 1)) ∷ [])
    ∷ an_entry (event.Step (link T M Ctl) 0) answer.Ok (line.Note note.Done ∷ [])
    ∷ an_entry (event.Submit 1 Dl (170 ∷ [])) answer.Ok (line.Send (link M T Air) (flight.Air 1 1 0 (Some 0) (128 ∷ 0 ∷ 170 ∷ [])) ∷ [])
    ∷ an_entry (event.Step (link M T Air) 0) answer.Ok (line.Note (note.Up T 1 Dl 0 (170 ∷ [])) ∷ line.Send (link T M Air) (flight.Ack 1 1 0) ∷ [])
    ∷ an_entry (event.Step (link T M Air) 0) answer.Ok (line.Note (note.Freed 1 Dl 1) ∷ [])
    ∷ an_entry (event.RekeyMaster (replicate 32 17)) answer.Ok (line.Note (note.Own M 1 2) ∷ line.Send (link M T Ctl) (flight.Ctl (rec.Reconf (a_plan 2 None (Set 1 S12 0 (a_shape false Mcg false) 0 0 (a_key 1 Master) (Some M) ∷ [])) [])) ∷ [])
    ∷ an_entry (event.Step (link M T Ctl) 0) answer.Ok (line.Note (note.Set 1 2) ∷ line.Send (link T M Ctl) (flight.Ctl (rec.Rcomp 2)) ∷ [])
    ∷ []

confirmed_count_sent_again_after_a_rekey_is_wrong : breaks (a_header Nea0 0 (replicate 32 0)) (before_confirmed_count_sent_again_after_a_rekey ++
    an_entry (event.Step (link T M Ctl) 0) answer.Ok (line.Send (link M T Air) (flight.Air 1 2 0 (Some 0) (128 ∷ 0 ∷ 170 ∷ [])) ∷ line.Note note.Done ∷ [])
    ∷ []) ≡ licensed ∷ []
unfolding sn window modulus distance count_for data_pdu decoded read_data read_report keystream counter_block stream_blocks report_pdu
confirmed_count_sent_again_after_a_rekey_is_wrong = refl

confirmed_count_sent_again_after_a_rekey_is_right : breaks (a_header Nea0 0 (replicate 32 0)) (before_confirmed_count_sent_again_after_a_rekey ++
    an_entry (event.Step (link T M Ctl) 0) answer.Ok (line.Note note.Done ∷ [])
    ∷ []) ≡ []
unfolding sn window modulus distance count_for data_pdu decoded read_data read_report keystream counter_block stream_blocks report_pdu
confirmed_count_sent_again_after_a_rekey_is_right = refl

confirmed_line_of_the_terminal_is_wrong : breaks (a_header Nea0 0 (replicate 32 0)) (
    an_entry (event.Bearer 1 S12 0 (a_shape false Mcg false) 0 0) answer.Ok (line.Note (note.Own M 1 1) ∷ line.Send (link M T Ctl) (flight.Ctl (rec.Reconf (a_plan 1 None (Set 1 S12 0 (a_shape false Mcg false) 0 0 (a_key 0 Master) None ∷ [])) [])) ∷ line.Note (note.Confirmed T) ∷ [])
    ∷ []) ≡ placed ∷ []
unfolding sn window modulus distance count_for data_pdu decoded read_data read_report keystream counter_block stream_blocks report_pdu
confirmed_line_of_the_terminal_is_wrong = refl

confirmed_line_of_the_terminal_is_right : breaks (a_header Nea0 0 (replicate 32 0)) (
    an_entry (event.Bearer 1 S12 0 (a_shape false Mcg false) 0 0) answer.Ok (line.Note (note.Own M 1 1) ∷ line.Send (link M T Ctl) (flight.Ctl (rec.Reconf (a_plan 1 None (Set 1 S12 0 (a_shape false Mcg false) 0 0 (a_key 0 Master) None ∷ [])) [])) ∷ [])
    ∷ []) ≡ []
unfolding sn window modulus distance count_for data_pdu decoded read_data read_report keystream counter_block stream_blocks report_pdu
confirmed_line_of_the_terminal_is_right = refl

-- what comes before
abbrev before_control_pdu_passed_on_that_was_not_taken : List Entry
before_control_pdu_passed_on_that_was_not_taken =
    an_entry (event.Add A) answer.Ok (line.Send (link M A Ctl) (flight.Ctl (rec.Addreq (a_plan 1 (Some A) []) [])) ∷ [])
    ∷ an_entry (event.Step (link M A Ctl) 0) answer.Ok (line.Note (note.Join A 1) ∷ line.Send (link A M Ctl) (flight.Ctl (rec.Addack 1)) ∷ [])
    ∷ an_entry (event.Step (link A M Ctl) 0) answer.Ok (line.Send (link M T Ctl) (flight.Ctl (rec.Reconf (a_plan 1 (Some A) []) [])) ∷ [])
    ∷ an_entry (event.Step (link M T Ctl) 0) answer.Ok (line.Send (link T M Ctl) (flight.Ctl (rec.Rcomp 1)) ∷ [])
    ∷ an_entry (event.Step (link T M Ctl) 0) answer.Ok (line.Send (link M A Ctl) (flight.Ctl (rec.Recfg 1)) ∷ line.Note note.Done ∷ [])
    ∷ an_entry (event.Step (link M A Ctl) 0) answer.Ok []
    ∷ an_entry (event.Bearer 1 S12 0 (a_shape false Scg false) 0 0) answer.Ok (line.Send (link M A Ctl) (flight.Ctl (rec.Modreq (a_plan 2 (Some A) (Set 1 S12 0 (a_shape false Scg false) 0 0 (a_key 0 Master) None ∷ [])) [])) ∷ [])
    ∷ an_entry (event.Step (link M A Ctl) 0) answer.Ok (line.Send (link A M Ctl) (flight.Ctl (rec.Modack 2)) ∷ [])
    ∷ an_entry (event.Step (link A M Ctl) 0) answer.Ok (line.Note (note.Own M 1 2) ∷ line.Send (link M T Ctl) (flight.Ctl (rec.Reconf (a_plan 2 (Some A) (Set 1 S12 0 (a_shape false Scg false) 0 0 (a_key 0 Master) None ∷ [])) [])) ∷ [])
    ∷ an_entry (event.Step (link M T Ctl) 0) answer.Ok (line.Note (note.Set 1 2) ∷ line.Send (link T M Ctl) (flight.Ctl (rec.Rcomp 2)) ∷ [])
    ∷ an_entry (event.Step (link T M Ctl) 0) answer.Ok (line.Send (link M A Ctl) (flight.Ctl (rec.Recfg 2)) ∷ line.Note note.Done ∷ [])
    ∷ an_entry (event.Step (link M A Ctl) 0) answer.Ok []
    ∷ an_entry (event.Submit 1 Dl (170 ∷ [])) answer.Ok (line.Send (link M A Tun) (flight.Tun (Some 0) (52 ∷ 255 ∷ 0 ∷ 15 ∷ 0 ∷ 0 ∷ 1 ∷ 0 ∷ 0 ∷ 0 ∷ 0 ∷ 132 ∷ 2 ∷ 1 ∷ 0 ∷ 0 ∷ 0 ∷ 0 ∷ 0 ∷ 0 ∷ 128 ∷ 0 ∷ 170 ∷ [])) ∷ [])
    ∷ []

control_pdu_passed_on_that_was_not_taken_is_wrong : breaks (a_header Nea0 0 (replicate 32 0)) (before_control_pdu_passed_on_that_was_not_taken ++
    an_entry (event.Step (link M A Tun) 0) answer.Ok (line.Send (link A T Air) (flight.Air 1 2 0 (Some 0) (128 ∷ 0 ∷ 170 ∷ [])) ∷ line.Send (link A T Air) (flight.Air 1 2 1 None (0 ∷ 0 ∷ 0 ∷ 0 ∷ 0 ∷ [])) ∷ [])
    ∷ []) ≡ licensed ∷ []
unfolding sn window modulus distance count_for data_pdu decoded read_data read_report keystream counter_block stream_blocks report_pdu
control_pdu_passed_on_that_was_not_taken_is_wrong = refl

control_pdu_passed_on_that_was_not_taken_is_right : breaks (a_header Nea0 0 (replicate 32 0)) (before_control_pdu_passed_on_that_was_not_taken ++
    an_entry (event.Step (link M A Tun) 0) answer.Ok (line.Send (link A T Air) (flight.Air 1 2 0 (Some 0) (128 ∷ 0 ∷ 170 ∷ [])) ∷ [])
    ∷ []) ≡ []
unfolding sn window modulus distance count_for data_pdu decoded read_data read_report keystream counter_block stream_blocks report_pdu
control_pdu_passed_on_that_was_not_taken_is_right = refl

-- what comes before
abbrev before_copy_of_again_is_another_flight : List Entry
before_copy_of_again_is_another_flight =
    an_entry (event.Add A) answer.Ok (line.Send (link M A Ctl) (flight.Ctl (rec.Addreq (a_plan 1 (Some A) []) [])) ∷ [])
    ∷ an_entry (event.Step (link M A Ctl) 0) answer.Ok (line.Note (note.Join A 1) ∷ line.Send (link A M Ctl) (flight.Ctl (rec.Addack 1)) ∷ [])
    ∷ an_entry (event.Step (link A M Ctl) 0) answer.Ok (line.Send (link M T Ctl) (flight.Ctl (rec.Reconf (a_plan 1 (Some A) []) [])) ∷ [])
    ∷ an_entry (event.Step (link M T Ctl) 0) answer.Ok (line.Send (link T M Ctl) (flight.Ctl (rec.Rcomp 1)) ∷ [])
    ∷ an_entry (event.Step (link T M Ctl) 0) answer.Ok (line.Send (link M A Ctl) (flight.Ctl (rec.Recfg 1)) ∷ line.Note note.Done ∷ [])
    ∷ an_entry (event.Step (link M A Ctl) 0) answer.Ok []
    ∷ an_entry (event.Bearer 1 S12 0 (a_shape false Scg false) 0 0) answer.Ok (line.Send (link M A Ctl) (flight.Ctl (rec.Modreq (a_plan 2 (Some A) (Set 1 S12 0 (a_shape false Scg false) 0 0 (a_key 0 Master) None ∷ [])) [])) ∷ [])
    ∷ an_entry (event.Step (link M A Ctl) 0) answer.Ok (line.Send (link A M Ctl) (flight.Ctl (rec.Modack 2)) ∷ [])
    ∷ an_entry (event.Step (link A M Ctl) 0) answer.Ok (line.Note (note.Own M 1 2) ∷ line.Send (link M T Ctl) (flight.Ctl (rec.Reconf (a_plan 2 (Some A) (Set 1 S12 0 (a_shape false Scg false) 0 0 (a_key 0 Master) None ∷ [])) [])) ∷ [])
    ∷ an_entry (event.Step (link M T Ctl) 0) answer.Ok (line.Note (note.Set 1 2) ∷ line.Send (link T M Ctl) (flight.Ctl (rec.Rcomp 2)) ∷ [])
    ∷ an_entry (event.Step (link T M Ctl) 0) answer.Ok (line.Send (link M A Ctl) (flight.Ctl (rec.Recfg 2)) ∷ line.Note note.Done ∷ [])
    ∷ an_entry (event.Submit 1 Dl (170 ∷ [])) answer.Ok (line.Send (link M A Tun) (flight.Tun (Some 0) (52 ∷ 255 ∷ 0 ∷ 15 ∷ 0 ∷ 0 ∷ 1 ∷ 0 ∷ 0 ∷ 0 ∷ 0 ∷ 132 ∷ 2 ∷ 1 ∷ 0 ∷ 0 ∷ 0 ∷ 0 ∷ 0 ∷ 0 ∷ 128 ∷ 0 ∷ 170 ∷ [])) ∷ [])
    ∷ an_entry (event.Submit 1 Dl (187 ∷ [])) answer.Ok (line.Send (link M A Tun) (flight.Tun (Some 1) (52 ∷ 255 ∷ 0 ∷ 15 ∷ 0 ∷ 0 ∷ 1 ∷ 0 ∷ 0 ∷ 0 ∷ 0 ∷ 132 ∷ 2 ∷ 1 ∷ 0 ∷ 0 ∷ 1 ∷ 0 ∷ 0 ∷ 0 ∷ 128 ∷ 1 ∷ 187 ∷ [])) ∷ [])
    ∷ []

copy_of_again_is_another_flight_is_wrong : breaks (a_header Nea0 0 (replicate 32 0)) (before_copy_of_again_is_another_flight ++
    an_entry (event.Again (link M A Tun) 0) answer.Ok (line.Send (link M A Tun) (flight.Tun (Some 1) (52 ∷ 255 ∷ 0 ∷ 15 ∷ 0 ∷ 0 ∷ 1 ∷ 0 ∷ 0 ∷ 0 ∷ 0 ∷ 132 ∷ 2 ∷ 1 ∷ 0 ∷ 0 ∷ 1 ∷ 0 ∷ 0 ∷ 0 ∷ 128 ∷ 1 ∷ 187 ∷ [])) ∷ [])
    ∷ []) ≡ numbered ∷ licensed ∷ []
unfolding sn window modulus distance count_for data_pdu decoded read_data read_report keystream counter_block stream_blocks report_pdu
copy_of_again_is_another_flight_is_wrong = refl

copy_of_again_is_another_flight_is_right : breaks (a_header Nea0 0 (replicate 32 0)) (before_copy_of_again_is_another_flight ++
    an_entry (event.Again (link M A Tun) 0) answer.Ok (line.Send (link M A Tun) (flight.Tun (Some 0) (52 ∷ 255 ∷ 0 ∷ 15 ∷ 0 ∷ 0 ∷ 1 ∷ 0 ∷ 0 ∷ 0 ∷ 0 ∷ 132 ∷ 2 ∷ 1 ∷ 0 ∷ 0 ∷ 0 ∷ 0 ∷ 0 ∷ 0 ∷ 128 ∷ 0 ∷ 170 ∷ [])) ∷ [])
    ∷ []) ≡ []
unfolding sn window modulus distance count_for data_pdu decoded read_data read_report keystream counter_block stream_blocks report_pdu
copy_of_again_is_another_flight_is_right = refl

copy_of_again_with_another_tag_is_wrong : breaks (a_header Nea0 0 (replicate 32 0)) (before_copy_of_again_is_another_flight ++
    an_entry (event.Again (link M A Tun) 0) answer.Ok (line.Send (link M A Tun) (flight.Tun (Some 1) (52 ∷ 255 ∷ 0 ∷ 15 ∷ 0 ∷ 0 ∷ 1 ∷ 0 ∷ 0 ∷ 0 ∷ 0 ∷ 132 ∷ 2 ∷ 1 ∷ 0 ∷ 0 ∷ 0 ∷ 0 ∷ 0 ∷ 0 ∷ 128 ∷ 0 ∷ 170 ∷ [])) ∷ [])
    ∷ []) ≡ protected ∷ numbered ∷ licensed ∷ []
unfolding sn window modulus distance count_for data_pdu decoded read_data read_report keystream counter_block stream_blocks report_pdu
copy_of_again_with_another_tag_is_wrong = refl

copy_of_again_with_another_tag_is_right : breaks (a_header Nea0 0 (replicate 32 0)) (before_copy_of_again_is_another_flight ++
    an_entry (event.Again (link M A Tun) 0) answer.Ok (line.Send (link M A Tun) (flight.Tun (Some 0) (52 ∷ 255 ∷ 0 ∷ 15 ∷ 0 ∷ 0 ∷ 1 ∷ 0 ∷ 0 ∷ 0 ∷ 0 ∷ 132 ∷ 2 ∷ 1 ∷ 0 ∷ 0 ∷ 0 ∷ 0 ∷ 0 ∷ 0 ∷ 128 ∷ 0 ∷ 170 ∷ [])) ∷ [])
    ∷ []) ≡ []
unfolding sn window modulus distance count_for data_pdu decoded read_data read_report keystream counter_block stream_blocks report_pdu
copy_of_again_with_another_tag_is_right = refl

copy_without_an_again_is_wrong : breaks (a_header Nea0 0 (replicate 32 0)) (before_again_without_its_copy ++
    an_entry (event.Submit 1 Dl (187 ∷ [])) answer.Ok (line.Send (link M A Tun) (flight.Tun (Some 0) (52 ∷ 255 ∷ 0 ∷ 15 ∷ 0 ∷ 0 ∷ 1 ∷ 0 ∷ 0 ∷ 0 ∷ 0 ∷ 132 ∷ 2 ∷ 1 ∷ 0 ∷ 0 ∷ 0 ∷ 0 ∷ 0 ∷ 0 ∷ 128 ∷ 0 ∷ 170 ∷ [])) ∷ line.Send (link M A Tun) (flight.Tun (Some 1) (52 ∷ 255 ∷ 0 ∷ 15 ∷ 0 ∷ 0 ∷ 1 ∷ 0 ∷ 0 ∷ 0 ∷ 0 ∷ 132 ∷ 2 ∷ 1 ∷ 0 ∷ 0 ∷ 1 ∷ 0 ∷ 0 ∷ 0 ∷ 128 ∷ 1 ∷ 187 ∷ [])) ∷ [])
    ∷ []) ≡ numbered ∷ licensed ∷ []
unfolding sn window modulus distance count_for data_pdu decoded read_data read_report keystream counter_block stream_blocks report_pdu
copy_without_an_again_is_wrong = refl

copy_without_an_again_is_right : breaks (a_header Nea0 0 (replicate 32 0)) (before_again_without_its_copy ++
    an_entry (event.Submit 1 Dl (187 ∷ [])) answer.Ok (line.Send (link M A Tun) (flight.Tun (Some 1) (52 ∷ 255 ∷ 0 ∷ 15 ∷ 0 ∷ 0 ∷ 1 ∷ 0 ∷ 0 ∷ 0 ∷ 0 ∷ 132 ∷ 2 ∷ 1 ∷ 0 ∷ 0 ∷ 1 ∷ 0 ∷ 0 ∷ 0 ∷ 128 ∷ 1 ∷ 187 ∷ [])) ∷ [])
    ∷ []) ≡ []
unfolding sn window modulus distance count_for data_pdu decoded read_data read_report keystream counter_block stream_blocks report_pdu
copy_without_an_again_is_right = refl

count_1_handed_up_before_count_0_is_wrong : breaks (a_header Nea0 0 (replicate 32 0)) (before_ack_of_another_num ++
    an_entry (event.Step (link M T Air) 1) answer.Ok (line.Note (note.Up T 1 Dl 1 (121 ∷ 111 ∷ [])) ∷ line.Send (link T M Air) (flight.Ack 1 1 1) ∷ [])
    ∷ []) ≡ front ∷ drained ∷ []
unfolding sn window modulus distance count_for data_pdu decoded read_data read_report keystream counter_block stream_blocks report_pdu
count_1_handed_up_before_count_0_is_wrong = refl

count_1_handed_up_before_count_0_is_right : breaks (a_header Nea0 0 (replicate 32 0)) (before_ack_of_another_num ++
    an_entry (event.Step (link M T Air) 1) answer.Ok (line.Send (link T M Air) (flight.Ack 1 1 1) ∷ [])
    ∷ []) ≡ []
unfolding sn window modulus distance count_for data_pdu decoded read_data read_report keystream counter_block stream_blocks report_pdu
count_1_handed_up_before_count_0_is_right = refl

-- what comes before
abbrev before_count_handed_up_twice_over_a_rekey : List Entry
before_count_handed_up_twice_over_a_rekey =
    an_entry (event.Bearer 1 S12 0 (a_shape false Mcg false) 0 0) answer.Ok (line.Note (note.Own M 1 1) ∷ line.Send (link M T Ctl) (flight.Ctl (rec.Reconf (a_plan 1 None (Set 1 S12 0 (a_shape false Mcg false) 0 0 (a_key 0 Master) None ∷ [])) [])) ∷ [])
    ∷ an_entry (event.Step (link M T Ctl) 0) answer.Ok (line.Note (note.Set 1 1) ∷ line.Send (link T M Ctl) (flight.Ctl (rec.Rcomp 1)) ∷ [])
    ∷ an_entry (event.Step (link T M Ctl) 0) answer.Ok (line.Note note.Done ∷ [])
    ∷ an_entry (event.Submit 1 Dl (170 ∷ [])) answer.Ok (line.Send (link M T Air) (flight.Air 1 1 0 (Some 0) (128 ∷ 0 ∷ 170 ∷ [])) ∷ [])
    ∷ an_entry (event.Step (link M T Air) 0) answer.Ok (line.Note (note.Up T 1 Dl 0 (170 ∷ [])) ∷ line.Send (link T M Air) (flight.Ack 1 1 0) ∷ [])
    ∷ an_entry (event.RekeyMaster (replicate 32 17)) answer.Ok (line.Note (note.Own M 1 2) ∷ line.Send (link M T Ctl) (flight.Ctl (rec.Reconf (a_plan 2 None (Set 1 S12 0 (a_shape false Mcg false) 0 0 (a_key 1 Master) (Some M) ∷ [])) [])) ∷ [])
    ∷ an_entry (event.Step (link M T Ctl) 0) answer.Ok (line.Note (note.Set 1 2) ∷ line.Send (link T M Ctl) (flight.Ctl (rec.Rcomp 2)) ∷ [])
    ∷ an_entry (event.Step (link T M Ctl) 0) answer.Ok (line.Send (link M T Air) (flight.Air 1 2 0 (Some 0) (128 ∷ 0 ∷ 170 ∷ [])) ∷ line.Note note.Done ∷ [])
    ∷ []

count_handed_up_twice_over_a_rekey_is_wrong : breaks (a_header Nea0 0 (replicate 32 0)) (before_count_handed_up_twice_over_a_rekey ++
    an_entry (event.Step (link M T Air) 0) answer.Ok (line.Note (note.Up T 1 Dl 0 (170 ∷ [])) ∷ line.Send (link T M Air) (flight.Ack 1 2 0) ∷ [])
    ∷ []) ≡ front ∷ windowed ∷ []
unfolding sn window modulus distance count_for data_pdu decoded read_data read_report keystream counter_block stream_blocks report_pdu
count_handed_up_twice_over_a_rekey_is_wrong = refl

count_handed_up_twice_over_a_rekey_is_right : breaks (a_header Nea0 0 (replicate 32 0)) (before_count_handed_up_twice_over_a_rekey ++
    an_entry (event.Step (link M T Air) 0) answer.Ok (line.Send (link T M Air) (flight.Ack 1 2 0) ∷ [])
    ∷ []) ≡ []
unfolding sn window modulus distance count_for data_pdu decoded read_data read_report keystream counter_block stream_blocks report_pdu
count_handed_up_twice_over_a_rekey_is_right = refl

-- what comes before
abbrev before_counter_0_again_after_a_rejection : List Entry
before_counter_0_again_after_a_rejection =
    an_entry (event.Deny A true) answer.Ok []
    ∷ an_entry (event.Add A) answer.Ok (line.Send (link M A Ctl) (flight.Ctl (rec.Addreq (a_plan 1 (Some A) []) [])) ∷ [])
    ∷ an_entry (event.Step (link M A Ctl) 0) answer.Ok (line.Send (link A M Ctl) (flight.Ctl (rec.Addrej 1)) ∷ [])
    ∷ an_entry (event.Step (link A M Ctl) 0) answer.Ok (line.Note note.Rejected ∷ [])
    ∷ an_entry (event.Deny A false) answer.Ok []
    ∷ an_entry (event.Add A) answer.Ok (line.Send (link M A Ctl) (flight.Ctl (rec.Addreq (a_plan 2 (Some A) []) [])) ∷ [])
    ∷ an_entry (event.Step (link M A Ctl) 0) answer.Ok (line.Note (note.Join A 2) ∷ line.Send (link A M Ctl) (flight.Ctl (rec.Addack 2)) ∷ [])
    ∷ an_entry (event.Step (link A M Ctl) 0) answer.Ok (line.Send (link M T Ctl) (flight.Ctl (rec.Reconf (a_plan 2 (Some A) []) [])) ∷ [])
    ∷ an_entry (event.Step (link M T Ctl) 0) answer.Ok (line.Send (link T M Ctl) (flight.Ctl (rec.Rcomp 2)) ∷ [])
    ∷ an_entry (event.Step (link T M Ctl) 0) answer.Ok (line.Send (link M A Ctl) (flight.Ctl (rec.Recfg 2)) ∷ line.Note note.Done ∷ [])
    ∷ an_entry (event.Step (link M A Ctl) 0) answer.Ok []
    ∷ []

counter_0_again_after_a_rejection_is_wrong : breaks (a_header Nea0 0 (replicate 32 0)) (before_counter_0_again_after_a_rejection ++
    an_entry (event.Bearer 1 S12 0 (a_shape true Scg false) 0 0) answer.Ok (line.Send (link M A Ctl) (flight.Ctl (rec.Modreq (a_plan 3 (Some A) (Set 1 S12 0 (a_shape true Scg false) 0 0 (a_key 0 (SecondKey 0)) None ∷ [])) [])) ∷ [])
    ∷ []) ≡ planned ∷ []
unfolding sn window modulus distance count_for data_pdu decoded read_data read_report keystream counter_block stream_blocks report_pdu
counter_0_again_after_a_rejection_is_wrong = refl

counter_0_again_after_a_rejection_is_right : breaks (a_header Nea0 0 (replicate 32 0)) (before_counter_0_again_after_a_rejection ++
    an_entry (event.Bearer 1 S12 0 (a_shape true Scg false) 0 0) answer.Ok (line.Send (link M A Ctl) (flight.Ctl (rec.Modreq (a_plan 3 (Some A) (Set 1 S12 0 (a_shape true Scg false) 0 0 (a_key 0 (SecondKey 1)) None ∷ [])) [])) ∷ [])
    ∷ []) ≡ []
unfolding sn window modulus distance count_for data_pdu decoded read_data read_report keystream counter_block stream_blocks report_pdu
counter_0_again_after_a_rejection_is_right = refl

-- what comes before
abbrev before_counter_0_again_after_a_release : List Entry
before_counter_0_again_after_a_release =
    an_entry (event.Add A) answer.Ok (line.Send (link M A Ctl) (flight.Ctl (rec.Addreq (a_plan 1 (Some A) []) [])) ∷ [])
    ∷ an_entry (event.Step (link M A Ctl) 0) answer.Ok (line.Note (note.Join A 1) ∷ line.Send (link A M Ctl) (flight.Ctl (rec.Addack 1)) ∷ [])
    ∷ an_entry (event.Step (link A M Ctl) 0) answer.Ok (line.Send (link M T Ctl) (flight.Ctl (rec.Reconf (a_plan 1 (Some A) []) [])) ∷ [])
    ∷ an_entry (event.Step (link M T Ctl) 0) answer.Ok (line.Send (link T M Ctl) (flight.Ctl (rec.Rcomp 1)) ∷ [])
    ∷ an_entry (event.Step (link T M Ctl) 0) answer.Ok (line.Send (link M A Ctl) (flight.Ctl (rec.Recfg 1)) ∷ line.Note note.Done ∷ [])
    ∷ an_entry (event.Step (link M A Ctl) 0) answer.Ok []
    ∷ an_entry (event.Release) answer.Ok (line.Send (link M A Ctl) (flight.Ctl (rec.Relreq (a_plan 2 None []))) ∷ [])
    ∷ an_entry (event.Step (link M A Ctl) 0) answer.Ok (line.Note (note.Leave A 2) ∷ line.Send (link A M Ctl) (flight.Ctl (rec.Relack 2)) ∷ [])
    ∷ an_entry (event.Step (link A M Ctl) 0) answer.Ok (line.Send (link M T Ctl) (flight.Ctl (rec.Reconf (a_plan 2 None []) [])) ∷ [])
    ∷ an_entry (event.Step (link M T Ctl) 0) answer.Ok (line.Send (link T M Ctl) (flight.Ctl (rec.Rcomp 2)) ∷ [])
    ∷ an_entry (event.Step (link T M Ctl) 0) answer.Ok (line.Send (link M A Ctl) (flight.Ctl (rec.Uecr 2)) ∷ line.Note note.Done ∷ [])
    ∷ an_entry (event.Step (link M A Ctl) 0) answer.Ok []
    ∷ an_entry (event.Add A) answer.Ok (line.Send (link M A Ctl) (flight.Ctl (rec.Addreq (a_plan 3 (Some A) []) [])) ∷ [])
    ∷ an_entry (event.Step (link M A Ctl) 0) answer.Ok (line.Note (note.Join A 3) ∷ line.Send (link A M Ctl) (flight.Ctl (rec.Addack 3)) ∷ [])
    ∷ an_entry (event.Step (link A M Ctl) 0) answer.Ok (line.Send (link M T Ctl) (flight.Ctl (rec.Reconf (a_plan 3 (Some A) []) [])) ∷ [])
    ∷ an_entry (event.Step (link M T Ctl) 0) answer.Ok (line.Send (link T M Ctl) (flight.Ctl (rec.Rcomp 3)) ∷ [])
    ∷ an_entry (event.Step (link T M Ctl) 0) answer.Ok (line.Send (link M A Ctl) (flight.Ctl (rec.Recfg 3)) ∷ line.Note note.Done ∷ [])
    ∷ []

counter_0_again_after_a_release_is_wrong : breaks (a_header Nea0 0 (replicate 32 0)) (before_counter_0_again_after_a_release ++
    an_entry (event.Bearer 1 S12 0 (a_shape true Scg false) 0 0) answer.Ok (line.Send (link M A Ctl) (flight.Ctl (rec.Modreq (a_plan 4 (Some A) (Set 1 S12 0 (a_shape true Scg false) 0 0 (a_key 0 (SecondKey 0)) None ∷ [])) [])) ∷ [])
    ∷ []) ≡ planned ∷ []
unfolding sn window modulus distance count_for data_pdu decoded read_data read_report keystream counter_block stream_blocks report_pdu
counter_0_again_after_a_release_is_wrong = refl

counter_0_again_after_a_release_is_right : breaks (a_header Nea0 0 (replicate 32 0)) (before_counter_0_again_after_a_release ++
    an_entry (event.Bearer 1 S12 0 (a_shape true Scg false) 0 0) answer.Ok (line.Send (link M A Ctl) (flight.Ctl (rec.Modreq (a_plan 4 (Some A) (Set 1 S12 0 (a_shape true Scg false) 0 0 (a_key 0 (SecondKey 1)) None ∷ [])) [])) ∷ [])
    ∷ []) ≡ []
unfolding sn window modulus distance count_for data_pdu decoded read_data read_report keystream counter_block stream_blocks report_pdu
counter_0_again_after_a_release_is_right = refl

-- what comes before
abbrev before_counter_0_again_at_rekey_s : List Entry
before_counter_0_again_at_rekey_s =
    an_entry (event.Add A) answer.Ok (line.Send (link M A Ctl) (flight.Ctl (rec.Addreq (a_plan 1 (Some A) []) [])) ∷ [])
    ∷ an_entry (event.Step (link M A Ctl) 0) answer.Ok (line.Note (note.Join A 1) ∷ line.Send (link A M Ctl) (flight.Ctl (rec.Addack 1)) ∷ [])
    ∷ an_entry (event.Step (link A M Ctl) 0) answer.Ok (line.Send (link M T Ctl) (flight.Ctl (rec.Reconf (a_plan 1 (Some A) []) [])) ∷ [])
    ∷ an_entry (event.Step (link M T Ctl) 0) answer.Ok (line.Send (link T M Ctl) (flight.Ctl (rec.Rcomp 1)) ∷ [])
    ∷ an_entry (event.Step (link T M Ctl) 0) answer.Ok (line.Send (link M A Ctl) (flight.Ctl (rec.Recfg 1)) ∷ line.Note note.Done ∷ [])
    ∷ an_entry (event.Step (link M A Ctl) 0) answer.Ok []
    ∷ an_entry (event.Bearer 1 S12 0 (a_shape true Scg false) 0 0) answer.Ok (line.Send (link M A Ctl) (flight.Ctl (rec.Modreq (a_plan 2 (Some A) (Set 1 S12 0 (a_shape true Scg false) 0 0 (a_key 0 (SecondKey 0)) None ∷ [])) [])) ∷ [])
    ∷ an_entry (event.Step (link M A Ctl) 0) answer.Ok (line.Note (note.Own A 1 2) ∷ line.Send (link A M Ctl) (flight.Ctl (rec.Modack 2)) ∷ [])
    ∷ an_entry (event.Step (link A M Ctl) 0) answer.Ok (line.Send (link M T Ctl) (flight.Ctl (rec.Reconf (a_plan 2 (Some A) (Set 1 S12 0 (a_shape true Scg false) 0 0 (a_key 0 (SecondKey 0)) None ∷ [])) [])) ∷ [])
    ∷ an_entry (event.Step (link M T Ctl) 0) answer.Ok (line.Note (note.Set 1 2) ∷ line.Send (link T M Ctl) (flight.Ctl (rec.Rcomp 2)) ∷ [])
    ∷ an_entry (event.Step (link T M Ctl) 0) answer.Ok (line.Send (link M A Ctl) (flight.Ctl (rec.Recfg 2)) ∷ line.Note note.Done ∷ [])
    ∷ an_entry (event.Step (link M A Ctl) 0) answer.Ok []
    ∷ []

counter_0_again_at_rekey_s_is_wrong : breaks (a_header Nea0 0 (replicate 32 0)) (before_counter_0_again_at_rekey_s ++
    an_entry (event.RekeySecond) answer.Ok (line.Send (link M A Ctl) (flight.Ctl (rec.Modreq (a_plan 3 (Some A) (Set 1 S12 0 (a_shape true Scg false) 0 0 (a_key 0 (SecondKey 0)) (Some A) ∷ [])) [])) ∷ [])
    ∷ []) ≡ planned ∷ []
unfolding sn window modulus distance count_for data_pdu decoded read_data read_report keystream counter_block stream_blocks report_pdu
counter_0_again_at_rekey_s_is_wrong = refl

counter_0_again_at_rekey_s_is_right : breaks (a_header Nea0 0 (replicate 32 0)) (before_counter_0_again_at_rekey_s ++
    an_entry (event.RekeySecond) answer.Ok (line.Send (link M A Ctl) (flight.Ctl (rec.Modreq (a_plan 3 (Some A) (Set 1 S12 0 (a_shape true Scg false) 0 0 (a_key 0 (SecondKey 1)) (Some A) ∷ [])) [])) ∷ [])
    ∷ []) ≡ []
unfolding sn window modulus distance count_for data_pdu decoded read_data read_report keystream counter_block stream_blocks report_pdu
counter_0_again_at_rekey_s_is_right = refl

-- what comes before
abbrev before_counter_does_not_begin_at_used : List Entry
before_counter_does_not_begin_at_used =
    an_entry (event.Add A) answer.Ok (line.Send (link M A Ctl) (flight.Ctl (rec.Addreq (a_plan 1 (Some A) []) [])) ∷ [])
    ∷ an_entry (event.Step (link M A Ctl) 0) answer.Ok (line.Note (note.Join A 1) ∷ line.Send (link A M Ctl) (flight.Ctl (rec.Addack 1)) ∷ [])
    ∷ an_entry (event.Step (link A M Ctl) 0) answer.Ok (line.Send (link M T Ctl) (flight.Ctl (rec.Reconf (a_plan 1 (Some A) []) [])) ∷ [])
    ∷ an_entry (event.Step (link M T Ctl) 0) answer.Ok (line.Send (link T M Ctl) (flight.Ctl (rec.Rcomp 1)) ∷ [])
    ∷ an_entry (event.Step (link T M Ctl) 0) answer.Ok (line.Send (link M A Ctl) (flight.Ctl (rec.Recfg 1)) ∷ line.Note note.Done ∷ [])
    ∷ an_entry (event.Step (link M A Ctl) 0) answer.Ok []
    ∷ []

counter_does_not_begin_at_used_is_wrong : breaks (a_header Nea0 5 (replicate 32 0)) (before_counter_does_not_begin_at_used ++
    an_entry (event.Bearer 1 S12 0 (a_shape true Scg false) 0 0) answer.Ok (line.Send (link M A Ctl) (flight.Ctl (rec.Modreq (a_plan 2 (Some A) (Set 1 S12 0 (a_shape true Scg false) 0 0 (a_key 0 (SecondKey 0)) None ∷ [])) [])) ∷ [])
    ∷ []) ≡ planned ∷ []
unfolding sn window modulus distance count_for data_pdu decoded read_data read_report keystream counter_block stream_blocks report_pdu
counter_does_not_begin_at_used_is_wrong = refl

counter_does_not_begin_at_used_is_right : breaks (a_header Nea0 5 (replicate 32 0)) (before_counter_does_not_begin_at_used ++
    an_entry (event.Bearer 1 S12 0 (a_shape true Scg false) 0 0) answer.Ok (line.Send (link M A Ctl) (flight.Ctl (rec.Modreq (a_plan 2 (Some A) (Set 1 S12 0 (a_shape true Scg false) 0 0 (a_key 0 (SecondKey 5)) None ∷ [])) [])) ∷ [])
    ∷ []) ≡ []
unfolding sn window modulus distance count_for data_pdu decoded read_data read_report keystream counter_block stream_blocks report_pdu
counter_does_not_begin_at_used_is_right = refl

data_pdu_without_a_tag_is_wrong : breaks (a_header Nea0 0 (replicate 32 0)) (before_c2_handed_up_at_its_submission ++
    an_entry (event.Submit 1 Dl (104 ∷ 105 ∷ [])) answer.Ok (line.Send (link M T Air) (flight.Air 1 1 0 None (128 ∷ 0 ∷ 104 ∷ 105 ∷ [])) ∷ [])
    ∷ []) ≡ on_link ∷ protected ∷ licensed ∷ come ∷ []
unfolding sn window modulus distance count_for data_pdu decoded read_data read_report keystream counter_block stream_blocks report_pdu
data_pdu_without_a_tag_is_wrong = refl

data_pdu_without_a_tag_is_right : breaks (a_header Nea0 0 (replicate 32 0)) (before_c2_handed_up_at_its_submission ++
    an_entry (event.Submit 1 Dl (104 ∷ 105 ∷ [])) answer.Ok (line.Send (link M T Air) (flight.Air 1 1 0 (Some 0) (128 ∷ 0 ∷ 104 ∷ 105 ∷ [])) ∷ [])
    ∷ []) ≡ []
unfolding sn window modulus distance count_for data_pdu decoded read_data read_report keystream counter_block stream_blocks report_pdu
data_pdu_without_a_tag_is_right = refl

-- what comes before
abbrev before_delivery_status_confirms_a_number_in_a_listed_gap : List Entry
before_delivery_status_confirms_a_number_in_a_listed_gap =
    an_entry (event.Add A) answer.Ok (line.Send (link M A Ctl) (flight.Ctl (rec.Addreq (a_plan 1 (Some A) []) [])) ∷ [])
    ∷ an_entry (event.Step (link M A Ctl) 0) answer.Ok (line.Note (note.Join A 1) ∷ line.Send (link A M Ctl) (flight.Ctl (rec.Addack 1)) ∷ [])
    ∷ an_entry (event.Step (link A M Ctl) 0) answer.Ok (line.Send (link M T Ctl) (flight.Ctl (rec.Reconf (a_plan 1 (Some A) []) [])) ∷ [])
    ∷ an_entry (event.Step (link M T Ctl) 0) answer.Ok (line.Send (link T M Ctl) (flight.Ctl (rec.Rcomp 1)) ∷ [])
    ∷ an_entry (event.Step (link T M Ctl) 0) answer.Ok (line.Send (link M A Ctl) (flight.Ctl (rec.Recfg 1)) ∷ line.Note note.Done ∷ [])
    ∷ an_entry (event.Step (link M A Ctl) 0) answer.Ok []
    ∷ an_entry (event.Bearer 1 S12 0 (a_shape false Scg false) 0 0) answer.Ok (line.Send (link M A Ctl) (flight.Ctl (rec.Modreq (a_plan 2 (Some A) (Set 1 S12 0 (a_shape false Scg false) 0 0 (a_key 0 Master) None ∷ [])) [])) ∷ [])
    ∷ an_entry (event.Step (link M A Ctl) 0) answer.Ok (line.Send (link A M Ctl) (flight.Ctl (rec.Modack 2)) ∷ [])
    ∷ an_entry (event.Step (link A M Ctl) 0) answer.Ok (line.Note (note.Own M 1 2) ∷ line.Send (link M T Ctl) (flight.Ctl (rec.Reconf (a_plan 2 (Some A) (Set 1 S12 0 (a_shape false Scg false) 0 0 (a_key 0 Master) None ∷ [])) [])) ∷ [])
    ∷ an_entry (event.Step (link M T Ctl) 0) answer.Ok (line.Note (note.Set 1 2) ∷ line.Send (link T M Ctl) (flight.Ctl (rec.Rcomp 2)) ∷ [])
    ∷ an_entry (event.Step (link T M Ctl) 0) answer.Ok (line.Send (link M A Ctl) (flight.Ctl (rec.Recfg 2)) ∷ line.Note note.Done ∷ [])
    ∷ an_entry (event.Step (link M A Ctl) 0) answer.Ok []
    ∷ an_entry (event.Submit 1 Dl (170 ∷ [])) answer.Ok (line.Send (link M A Tun) (flight.Tun (Some 0) (52 ∷ 255 ∷ 0 ∷ 15 ∷ 0 ∷ 0 ∷ 1 ∷ 0 ∷ 0 ∷ 0 ∷ 0 ∷ 132 ∷ 2 ∷ 1 ∷ 0 ∷ 0 ∷ 0 ∷ 0 ∷ 0 ∷ 0 ∷ 128 ∷ 0 ∷ 170 ∷ [])) ∷ [])
    ∷ an_entry (event.Submit 1 Dl (187 ∷ [])) answer.Ok (line.Send (link M A Tun) (flight.Tun (Some 1) (52 ∷ 255 ∷ 0 ∷ 15 ∷ 0 ∷ 0 ∷ 1 ∷ 0 ∷ 0 ∷ 0 ∷ 0 ∷ 132 ∷ 2 ∷ 1 ∷ 0 ∷ 0 ∷ 1 ∷ 0 ∷ 0 ∷ 0 ∷ 128 ∷ 1 ∷ 187 ∷ [])) ∷ [])
    ∷ an_entry (event.Step (link M A Tun) 1) answer.Ok (line.Send (link A T Air) (flight.Air 1 2 0 (Some 1) (128 ∷ 1 ∷ 187 ∷ [])) ∷ [])
    ∷ an_entry (event.Step (link A T Air) 0) answer.Ok (line.Send (link T A Air) (flight.Ack 1 2 0) ∷ [])
    ∷ an_entry (event.Step (link T A Air) 0) answer.Ok (line.Send (link A M Tun) (flight.Tun (Some 1) (52 ∷ 255 ∷ 0 ∷ 20 ∷ 0 ∷ 0 ∷ 1 ∷ 0 ∷ 0 ∷ 0 ∷ 0 ∷ 132 ∷ 4 ∷ 17 ∷ 1 ∷ 0 ∷ 0 ∷ 1 ∷ 0 ∷ 0 ∷ 0 ∷ 0 ∷ 0 ∷ 0 ∷ 0 ∷ 0 ∷ 0 ∷ 0 ∷ [])) ∷ [])
    ∷ []

delivery_status_confirms_a_number_in_a_listed_gap_is_wrong : breaks (a_header Nea0 0 (replicate 32 0)) (before_delivery_status_confirms_a_number_in_a_listed_gap ++
    an_entry (event.Step (link A M Tun) 0) answer.Ok (line.Note (note.Freed 1 Dl 2) ∷ line.Send (link M A Tun) (flight.Tun (Some 0) (52 ∷ 255 ∷ 0 ∷ 15 ∷ 0 ∷ 0 ∷ 1 ∷ 0 ∷ 0 ∷ 0 ∷ 0 ∷ 132 ∷ 2 ∷ 3 ∷ 0 ∷ 0 ∷ 2 ∷ 0 ∷ 0 ∷ 0 ∷ 128 ∷ 0 ∷ 170 ∷ [])) ∷ [])
    ∷ []) ≡ told ∷ []
unfolding sn window modulus distance count_for data_pdu decoded read_data read_report keystream counter_block stream_blocks report_pdu
delivery_status_confirms_a_number_in_a_listed_gap_is_wrong = refl

delivery_status_confirms_a_number_in_a_listed_gap_is_right : breaks (a_header Nea0 0 (replicate 32 0)) (before_delivery_status_confirms_a_number_in_a_listed_gap ++
    an_entry (event.Step (link A M Tun) 0) answer.Ok (line.Send (link M A Tun) (flight.Tun (Some 0) (52 ∷ 255 ∷ 0 ∷ 15 ∷ 0 ∷ 0 ∷ 1 ∷ 0 ∷ 0 ∷ 0 ∷ 0 ∷ 132 ∷ 2 ∷ 3 ∷ 0 ∷ 0 ∷ 2 ∷ 0 ∷ 0 ∷ 0 ∷ 128 ∷ 0 ∷ 170 ∷ [])) ∷ [])
    ∷ []) ≡ []
unfolding sn window modulus distance count_for data_pdu decoded read_data read_report keystream counter_block stream_blocks report_pdu
delivery_status_confirms_a_number_in_a_listed_gap_is_right = refl

-- what comes before
abbrev before_delivery_status_confirms_a_repeat : List Entry
before_delivery_status_confirms_a_repeat =
    an_entry (event.Add A) answer.Ok (line.Send (link M A Ctl) (flight.Ctl (rec.Addreq (a_plan 1 (Some A) []) [])) ∷ [])
    ∷ an_entry (event.Step (link M A Ctl) 0) answer.Ok (line.Note (note.Join A 1) ∷ line.Send (link A M Ctl) (flight.Ctl (rec.Addack 1)) ∷ [])
    ∷ an_entry (event.Step (link A M Ctl) 0) answer.Ok (line.Send (link M T Ctl) (flight.Ctl (rec.Reconf (a_plan 1 (Some A) []) [])) ∷ [])
    ∷ an_entry (event.Step (link M T Ctl) 0) answer.Ok (line.Send (link T M Ctl) (flight.Ctl (rec.Rcomp 1)) ∷ [])
    ∷ an_entry (event.Step (link T M Ctl) 0) answer.Ok (line.Send (link M A Ctl) (flight.Ctl (rec.Recfg 1)) ∷ line.Note note.Done ∷ [])
    ∷ an_entry (event.Step (link M A Ctl) 0) answer.Ok []
    ∷ an_entry (event.Bearer 1 S12 0 (a_shape false Scg false) 0 0) answer.Ok (line.Send (link M A Ctl) (flight.Ctl (rec.Modreq (a_plan 2 (Some A) (Set 1 S12 0 (a_shape false Scg false) 0 0 (a_key 0 Master) None ∷ [])) [])) ∷ [])
    ∷ an_entry (event.Step (link M A Ctl) 0) answer.Ok (line.Send (link A M Ctl) (flight.Ctl (rec.Modack 2)) ∷ [])
    ∷ an_entry (event.Step (link A M Ctl) 0) answer.Ok (line.Note (note.Own M 1 2) ∷ line.Send (link M T Ctl) (flight.Ctl (rec.Reconf (a_plan 2 (Some A) (Set 1 S12 0 (a_shape false Scg false) 0 0 (a_key 0 Master) None ∷ [])) [])) ∷ [])
    ∷ an_entry (event.Step (link M T Ctl) 0) answer.Ok (line.Note (note.Set 1 2) ∷ line.Send (link T M Ctl) (flight.Ctl (rec.Rcomp 2)) ∷ [])
    ∷ an_entry (event.Step (link T M Ctl) 0) answer.Ok (line.Send (link M A Ctl) (flight.Ctl (rec.Recfg 2)) ∷ line.Note note.Done ∷ [])
    ∷ an_entry (event.Submit 1 Dl (170 ∷ [])) answer.Ok (line.Send (link M A Tun) (flight.Tun (Some 0) (52 ∷ 255 ∷ 0 ∷ 15 ∷ 0 ∷ 0 ∷ 1 ∷ 0 ∷ 0 ∷ 0 ∷ 0 ∷ 132 ∷ 2 ∷ 1 ∷ 0 ∷ 0 ∷ 0 ∷ 0 ∷ 0 ∷ 0 ∷ 128 ∷ 0 ∷ 170 ∷ [])) ∷ [])
    ∷ an_entry (event.Recover 1) answer.Ok (line.Send (link M T Ctl) (flight.Ctl (rec.Recov 1)) ∷ line.Send (link M A Tun) (flight.Tun (Some 0) (52 ∷ 255 ∷ 0 ∷ 15 ∷ 0 ∷ 0 ∷ 1 ∷ 0 ∷ 0 ∷ 0 ∷ 0 ∷ 132 ∷ 2 ∷ 3 ∷ 0 ∷ 0 ∷ 1 ∷ 0 ∷ 0 ∷ 0 ∷ 128 ∷ 0 ∷ 170 ∷ [])) ∷ [])
    ∷ an_entry (event.Step (link M A Tun) 1) answer.Ok (line.Send (link A T Air) (flight.Air 1 2 0 (Some 0) (128 ∷ 0 ∷ 170 ∷ [])) ∷ [])
    ∷ an_entry (event.Step (link A T Air) 0) answer.Ok (line.Note (note.Up T 1 Dl 0 (170 ∷ [])) ∷ line.Send (link T A Air) (flight.Ack 1 2 0) ∷ [])
    ∷ an_entry (event.Step (link T A Air) 0) answer.Ok (line.Send (link A M Tun) (flight.Tun None (52 ∷ 255 ∷ 0 ∷ 16 ∷ 0 ∷ 0 ∷ 1 ∷ 0 ∷ 0 ∷ 0 ∷ 0 ∷ 132 ∷ 3 ∷ 16 ∷ 1 ∷ 0 ∷ 0 ∷ 0 ∷ 0 ∷ 0 ∷ 0 ∷ 0 ∷ 0 ∷ 0 ∷ [])) ∷ [])
    ∷ []

delivery_status_confirms_a_repeat_is_wrong : breaks (a_header Nea0 0 (replicate 32 0)) (before_delivery_status_confirms_a_repeat ++
    an_entry (event.Step (link A M Tun) 0) answer.Ok (line.Note (note.Freed 1 Dl 1) ∷ line.Send (link M A Tun) (flight.Tun (Some 0) (52 ∷ 255 ∷ 0 ∷ 15 ∷ 0 ∷ 0 ∷ 1 ∷ 0 ∷ 0 ∷ 0 ∷ 0 ∷ 132 ∷ 2 ∷ 3 ∷ 0 ∷ 0 ∷ 2 ∷ 0 ∷ 0 ∷ 0 ∷ 128 ∷ 0 ∷ 170 ∷ [])) ∷ [])
    ∷ []) ≡ told ∷ []
unfolding sn window modulus distance count_for data_pdu decoded read_data read_report keystream counter_block stream_blocks report_pdu
delivery_status_confirms_a_repeat_is_wrong = refl

delivery_status_confirms_a_repeat_is_right : breaks (a_header Nea0 0 (replicate 32 0)) (before_delivery_status_confirms_a_repeat ++
    an_entry (event.Step (link A M Tun) 0) answer.Ok (line.Send (link M A Tun) (flight.Tun (Some 0) (52 ∷ 255 ∷ 0 ∷ 15 ∷ 0 ∷ 0 ∷ 1 ∷ 0 ∷ 0 ∷ 0 ∷ 0 ∷ 132 ∷ 2 ∷ 3 ∷ 0 ∷ 0 ∷ 2 ∷ 0 ∷ 0 ∷ 0 ∷ 128 ∷ 0 ∷ 170 ∷ [])) ∷ [])
    ∷ []) ≡ []
unfolding sn window modulus distance count_for data_pdu decoded read_data read_report keystream counter_block stream_blocks report_pdu
delivery_status_confirms_a_repeat_is_right = refl

delivery_status_missing_is_wrong : breaks (a_header Nea0 0 (replicate 32 0)) (before_ack_taken_by_the_host_confirms_at_the_anchor ++
    an_entry (event.Step (link T A Air) 0) answer.Ok []
    ∷ []) ≡ []
unfolding sn window modulus distance count_for data_pdu decoded read_data read_report keystream counter_block stream_blocks report_pdu
delivery_status_missing_is_wrong = refl

delivery_status_missing_is_right : breaks (a_header Nea0 0 (replicate 32 0)) (before_ack_taken_by_the_host_confirms_at_the_anchor ++
    an_entry (event.Step (link T A Air) 0) answer.Ok (line.Send (link A M Tun) (flight.Tun (Some 0) (52 ∷ 255 ∷ 0 ∷ 12 ∷ 0 ∷ 0 ∷ 1 ∷ 0 ∷ 0 ∷ 0 ∷ 0 ∷ 132 ∷ 2 ∷ 17 ∷ 0 ∷ 0 ∷ 0 ∷ 0 ∷ 0 ∷ 0 ∷ [])) ∷ [])
    ∷ []) ≡ []
unfolding sn window modulus distance count_for data_pdu decoded read_data read_report keystream counter_block stream_blocks report_pdu
delivery_status_missing_is_right = refl

-- what comes before
abbrev before_delivery_status_names_a_number_not_acked : List Entry
before_delivery_status_names_a_number_not_acked =
    an_entry (event.Add A) answer.Ok (line.Send (link M A Ctl) (flight.Ctl (rec.Addreq (a_plan 1 (Some A) []) [])) ∷ [])
    ∷ an_entry (event.Step (link M A Ctl) 0) answer.Ok (line.Note (note.Join A 1) ∷ line.Send (link A M Ctl) (flight.Ctl (rec.Addack 1)) ∷ [])
    ∷ an_entry (event.Step (link A M Ctl) 0) answer.Ok (line.Send (link M T Ctl) (flight.Ctl (rec.Reconf (a_plan 1 (Some A) []) [])) ∷ [])
    ∷ an_entry (event.Step (link M T Ctl) 0) answer.Ok (line.Send (link T M Ctl) (flight.Ctl (rec.Rcomp 1)) ∷ [])
    ∷ an_entry (event.Step (link T M Ctl) 0) answer.Ok (line.Send (link M A Ctl) (flight.Ctl (rec.Recfg 1)) ∷ line.Note note.Done ∷ [])
    ∷ an_entry (event.Step (link M A Ctl) 0) answer.Ok []
    ∷ an_entry (event.Bearer 1 S12 0 (a_shape false Scg false) 0 0) answer.Ok (line.Send (link M A Ctl) (flight.Ctl (rec.Modreq (a_plan 2 (Some A) (Set 1 S12 0 (a_shape false Scg false) 0 0 (a_key 0 Master) None ∷ [])) [])) ∷ [])
    ∷ an_entry (event.Step (link M A Ctl) 0) answer.Ok (line.Send (link A M Ctl) (flight.Ctl (rec.Modack 2)) ∷ [])
    ∷ an_entry (event.Step (link A M Ctl) 0) answer.Ok (line.Note (note.Own M 1 2) ∷ line.Send (link M T Ctl) (flight.Ctl (rec.Reconf (a_plan 2 (Some A) (Set 1 S12 0 (a_shape false Scg false) 0 0 (a_key 0 Master) None ∷ [])) [])) ∷ [])
    ∷ an_entry (event.Step (link M T Ctl) 0) answer.Ok (line.Note (note.Set 1 2) ∷ line.Send (link T M Ctl) (flight.Ctl (rec.Rcomp 2)) ∷ [])
    ∷ an_entry (event.Step (link T M Ctl) 0) answer.Ok (line.Send (link M A Ctl) (flight.Ctl (rec.Recfg 2)) ∷ line.Note note.Done ∷ [])
    ∷ an_entry (event.Step (link M A Ctl) 0) answer.Ok []
    ∷ an_entry (event.Submit 1 Dl (170 ∷ [])) answer.Ok (line.Send (link M A Tun) (flight.Tun (Some 0) (52 ∷ 255 ∷ 0 ∷ 15 ∷ 0 ∷ 0 ∷ 1 ∷ 0 ∷ 0 ∷ 0 ∷ 0 ∷ 132 ∷ 2 ∷ 1 ∷ 0 ∷ 0 ∷ 0 ∷ 0 ∷ 0 ∷ 0 ∷ 128 ∷ 0 ∷ 170 ∷ [])) ∷ [])
    ∷ an_entry (event.Submit 1 Dl (187 ∷ [])) answer.Ok (line.Send (link M A Tun) (flight.Tun (Some 1) (52 ∷ 255 ∷ 0 ∷ 15 ∷ 0 ∷ 0 ∷ 1 ∷ 0 ∷ 0 ∷ 0 ∷ 0 ∷ 132 ∷ 2 ∷ 1 ∷ 0 ∷ 0 ∷ 1 ∷ 0 ∷ 0 ∷ 0 ∷ 128 ∷ 1 ∷ 187 ∷ [])) ∷ [])
    ∷ an_entry (event.Step (link M A Tun) 0) answer.Ok (line.Send (link A T Air) (flight.Air 1 2 0 (Some 0) (128 ∷ 0 ∷ 170 ∷ [])) ∷ [])
    ∷ an_entry (event.Step (link M A Tun) 0) answer.Ok (line.Send (link A T Air) (flight.Air 1 2 1 (Some 1) (128 ∷ 1 ∷ 187 ∷ [])) ∷ [])
    ∷ an_entry (event.Step (link A T Air) 0) answer.Ok (line.Note (note.Up T 1 Dl 0 (170 ∷ [])) ∷ line.Send (link T A Air) (flight.Ack 1 2 0) ∷ [])
    ∷ []

delivery_status_names_a_number_not_acked_is_wrong : breaks (a_header Nea0 0 (replicate 32 0)) (before_delivery_status_names_a_number_not_acked ++
    an_entry (event.Step (link T A Air) 0) answer.Ok (line.Send (link A M Tun) (flight.Tun (Some 1) (52 ∷ 255 ∷ 0 ∷ 12 ∷ 0 ∷ 0 ∷ 1 ∷ 0 ∷ 0 ∷ 0 ∷ 0 ∷ 132 ∷ 2 ∷ 17 ∷ 0 ∷ 0 ∷ 0 ∷ 1 ∷ 0 ∷ 0 ∷ [])) ∷ [])
    ∷ []) ≡ []
unfolding sn window modulus distance count_for data_pdu decoded read_data read_report keystream counter_block stream_blocks report_pdu
delivery_status_names_a_number_not_acked_is_wrong = refl

delivery_status_names_a_number_not_acked_is_right : breaks (a_header Nea0 0 (replicate 32 0)) (before_delivery_status_names_a_number_not_acked ++
    an_entry (event.Step (link T A Air) 0) answer.Ok (line.Send (link A M Tun) (flight.Tun (Some 0) (52 ∷ 255 ∷ 0 ∷ 12 ∷ 0 ∷ 0 ∷ 1 ∷ 0 ∷ 0 ∷ 0 ∷ 0 ∷ 132 ∷ 2 ∷ 17 ∷ 0 ∷ 0 ∷ 0 ∷ 0 ∷ 0 ∷ 0 ∷ [])) ∷ [])
    ∷ []) ≡ []
unfolding sn window modulus distance count_for data_pdu decoded read_data read_report keystream counter_block stream_blocks report_pdu
delivery_status_names_a_number_not_acked_is_right = refl

-- what comes before
abbrev before_delivery_status_that_confirms_gives_no_freed : List Entry
before_delivery_status_that_confirms_gives_no_freed =
    an_entry (event.Add A) answer.Ok (line.Send (link M A Ctl) (flight.Ctl (rec.Addreq (a_plan 1 (Some A) []) [])) ∷ [])
    ∷ an_entry (event.Step (link M A Ctl) 0) answer.Ok (line.Note (note.Join A 1) ∷ line.Send (link A M Ctl) (flight.Ctl (rec.Addack 1)) ∷ [])
    ∷ an_entry (event.Step (link A M Ctl) 0) answer.Ok (line.Send (link M T Ctl) (flight.Ctl (rec.Reconf (a_plan 1 (Some A) []) [])) ∷ [])
    ∷ an_entry (event.Step (link M T Ctl) 0) answer.Ok (line.Send (link T M Ctl) (flight.Ctl (rec.Rcomp 1)) ∷ [])
    ∷ an_entry (event.Step (link T M Ctl) 0) answer.Ok (line.Send (link M A Ctl) (flight.Ctl (rec.Recfg 1)) ∷ line.Note note.Done ∷ [])
    ∷ an_entry (event.Step (link M A Ctl) 0) answer.Ok []
    ∷ an_entry (event.Bearer 1 S12 0 (a_shape false Scg false) 0 0) answer.Ok (line.Send (link M A Ctl) (flight.Ctl (rec.Modreq (a_plan 2 (Some A) (Set 1 S12 0 (a_shape false Scg false) 0 0 (a_key 0 Master) None ∷ [])) [])) ∷ [])
    ∷ an_entry (event.Step (link M A Ctl) 0) answer.Ok (line.Send (link A M Ctl) (flight.Ctl (rec.Modack 2)) ∷ [])
    ∷ an_entry (event.Step (link A M Ctl) 0) answer.Ok (line.Note (note.Own M 1 2) ∷ line.Send (link M T Ctl) (flight.Ctl (rec.Reconf (a_plan 2 (Some A) (Set 1 S12 0 (a_shape false Scg false) 0 0 (a_key 0 Master) None ∷ [])) [])) ∷ [])
    ∷ an_entry (event.Step (link M T Ctl) 0) answer.Ok (line.Note (note.Set 1 2) ∷ line.Send (link T M Ctl) (flight.Ctl (rec.Rcomp 2)) ∷ [])
    ∷ an_entry (event.Step (link T M Ctl) 0) answer.Ok (line.Send (link M A Ctl) (flight.Ctl (rec.Recfg 2)) ∷ line.Note note.Done ∷ [])
    ∷ an_entry (event.Step (link M A Ctl) 0) answer.Ok []
    ∷ an_entry (event.Submit 1 Dl (170 ∷ [])) answer.Ok (line.Send (link M A Tun) (flight.Tun (Some 0) (52 ∷ 255 ∷ 0 ∷ 15 ∷ 0 ∷ 0 ∷ 1 ∷ 0 ∷ 0 ∷ 0 ∷ 0 ∷ 132 ∷ 2 ∷ 1 ∷ 0 ∷ 0 ∷ 0 ∷ 0 ∷ 0 ∷ 0 ∷ 128 ∷ 0 ∷ 170 ∷ [])) ∷ [])
    ∷ an_entry (event.Step (link M A Tun) 0) answer.Ok (line.Send (link A T Air) (flight.Air 1 2 0 (Some 0) (128 ∷ 0 ∷ 170 ∷ [])) ∷ [])
    ∷ an_entry (event.Step (link A T Air) 0) answer.Ok (line.Note (note.Up T 1 Dl 0 (170 ∷ [])) ∷ line.Send (link T A Air) (flight.Ack 1 2 0) ∷ [])
    ∷ an_entry (event.Step (link T A Air) 0) answer.Ok (line.Send (link A M Tun) (flight.Tun (Some 0) (52 ∷ 255 ∷ 0 ∷ 12 ∷ 0 ∷ 0 ∷ 1 ∷ 0 ∷ 0 ∷ 0 ∷ 0 ∷ 132 ∷ 2 ∷ 17 ∷ 0 ∷ 0 ∷ 0 ∷ 0 ∷ 0 ∷ 0 ∷ [])) ∷ [])
    ∷ []

delivery_status_that_confirms_gives_no_freed_is_wrong : breaks (a_header Nea0 0 (replicate 32 0)) (before_delivery_status_that_confirms_gives_no_freed ++
    an_entry (event.Step (link A M Tun) 0) answer.Ok []
    ∷ []) ≡ told ∷ []
unfolding sn window modulus distance count_for data_pdu decoded read_data read_report keystream counter_block stream_blocks report_pdu
delivery_status_that_confirms_gives_no_freed_is_wrong = refl

delivery_status_that_confirms_gives_no_freed_is_right : breaks (a_header Nea0 0 (replicate 32 0)) (before_delivery_status_that_confirms_gives_no_freed ++
    an_entry (event.Step (link A M Tun) 0) answer.Ok (line.Note (note.Freed 1 Dl 1) ∷ [])
    ∷ []) ≡ []
unfolding sn window modulus distance count_for data_pdu decoded read_data read_report keystream counter_block stream_blocks report_pdu
delivery_status_that_confirms_gives_no_freed_is_right = refl

delivery_status_without_an_ack_is_wrong : breaks (a_header Nea0 0 (replicate 32 0)) (before_control_pdu_passed_on_that_was_not_taken ++
    an_entry (event.Step (link M A Tun) 0) answer.Ok (line.Send (link A T Air) (flight.Air 1 2 0 (Some 0) (128 ∷ 0 ∷ 170 ∷ [])) ∷ line.Send (link A M Tun) (flight.Tun None (52 ∷ 255 ∷ 0 ∷ 8 ∷ 0 ∷ 0 ∷ 1 ∷ 0 ∷ 0 ∷ 0 ∷ 0 ∷ 132 ∷ 1 ∷ 16 ∷ 0 ∷ 0 ∷ [])) ∷ [])
    ∷ []) ≡ licensed ∷ []
unfolding sn window modulus distance count_for data_pdu decoded read_data read_report keystream counter_block stream_blocks report_pdu
delivery_status_without_an_ack_is_wrong = refl

delivery_status_without_an_ack_is_right : breaks (a_header Nea0 0 (replicate 32 0)) (before_control_pdu_passed_on_that_was_not_taken ++
    an_entry (event.Step (link M A Tun) 0) answer.Ok (line.Send (link A T Air) (flight.Air 1 2 0 (Some 0) (128 ∷ 0 ∷ 170 ∷ [])) ∷ [])
    ∷ []) ≡ []
unfolding sn window modulus distance count_for data_pdu decoded read_data read_report keystream counter_block stream_blocks report_pdu
delivery_status_without_an_ack_is_right = refl

-- what comes before
abbrev before_delivery_status_without_its_gap : List Entry
before_delivery_status_without_its_gap =
    an_entry (event.Add A) answer.Ok (line.Send (link M A Ctl) (flight.Ctl (rec.Addreq (a_plan 1 (Some A) []) [])) ∷ [])
    ∷ an_entry (event.Step (link M A Ctl) 0) answer.Ok (line.Note (note.Join A 1) ∷ line.Send (link A M Ctl) (flight.Ctl (rec.Addack 1)) ∷ [])
    ∷ an_entry (event.Step (link A M Ctl) 0) answer.Ok (line.Send (link M T Ctl) (flight.Ctl (rec.Reconf (a_plan 1 (Some A) []) [])) ∷ [])
    ∷ an_entry (event.Step (link M T Ctl) 0) answer.Ok (line.Send (link T M Ctl) (flight.Ctl (rec.Rcomp 1)) ∷ [])
    ∷ an_entry (event.Step (link T M Ctl) 0) answer.Ok (line.Send (link M A Ctl) (flight.Ctl (rec.Recfg 1)) ∷ line.Note note.Done ∷ [])
    ∷ an_entry (event.Step (link M A Ctl) 0) answer.Ok []
    ∷ an_entry (event.Bearer 1 S12 0 (a_shape false Scg false) 0 0) answer.Ok (line.Send (link M A Ctl) (flight.Ctl (rec.Modreq (a_plan 2 (Some A) (Set 1 S12 0 (a_shape false Scg false) 0 0 (a_key 0 Master) None ∷ [])) [])) ∷ [])
    ∷ an_entry (event.Step (link M A Ctl) 0) answer.Ok (line.Send (link A M Ctl) (flight.Ctl (rec.Modack 2)) ∷ [])
    ∷ an_entry (event.Step (link A M Ctl) 0) answer.Ok (line.Note (note.Own M 1 2) ∷ line.Send (link M T Ctl) (flight.Ctl (rec.Reconf (a_plan 2 (Some A) (Set 1 S12 0 (a_shape false Scg false) 0 0 (a_key 0 Master) None ∷ [])) [])) ∷ [])
    ∷ an_entry (event.Step (link M T Ctl) 0) answer.Ok (line.Note (note.Set 1 2) ∷ line.Send (link T M Ctl) (flight.Ctl (rec.Rcomp 2)) ∷ [])
    ∷ an_entry (event.Step (link T M Ctl) 0) answer.Ok (line.Send (link M A Ctl) (flight.Ctl (rec.Recfg 2)) ∷ line.Note note.Done ∷ [])
    ∷ an_entry (event.Step (link M A Ctl) 0) answer.Ok []
    ∷ an_entry (event.Submit 1 Dl (170 ∷ [])) answer.Ok (line.Send (link M A Tun) (flight.Tun (Some 0) (52 ∷ 255 ∷ 0 ∷ 15 ∷ 0 ∷ 0 ∷ 1 ∷ 0 ∷ 0 ∷ 0 ∷ 0 ∷ 132 ∷ 2 ∷ 1 ∷ 0 ∷ 0 ∷ 0 ∷ 0 ∷ 0 ∷ 0 ∷ 128 ∷ 0 ∷ 170 ∷ [])) ∷ [])
    ∷ an_entry (event.Submit 1 Dl (187 ∷ [])) answer.Ok (line.Send (link M A Tun) (flight.Tun (Some 1) (52 ∷ 255 ∷ 0 ∷ 15 ∷ 0 ∷ 0 ∷ 1 ∷ 0 ∷ 0 ∷ 0 ∷ 0 ∷ 132 ∷ 2 ∷ 1 ∷ 0 ∷ 0 ∷ 1 ∷ 0 ∷ 0 ∷ 0 ∷ 128 ∷ 1 ∷ 187 ∷ [])) ∷ [])
    ∷ an_entry (event.Step (link M A Tun) 1) answer.Ok (line.Send (link A T Air) (flight.Air 1 2 0 (Some 1) (128 ∷ 1 ∷ 187 ∷ [])) ∷ [])
    ∷ an_entry (event.Step (link A T Air) 0) answer.Ok (line.Send (link T A Air) (flight.Ack 1 2 0) ∷ [])
    ∷ []

delivery_status_without_its_gap_is_wrong : breaks (a_header Nea0 0 (replicate 32 0)) (before_delivery_status_without_its_gap ++
    an_entry (event.Step (link T A Air) 0) answer.Ok (line.Send (link A M Tun) (flight.Tun (Some 1) (52 ∷ 255 ∷ 0 ∷ 12 ∷ 0 ∷ 0 ∷ 1 ∷ 0 ∷ 0 ∷ 0 ∷ 0 ∷ 132 ∷ 2 ∷ 17 ∷ 0 ∷ 0 ∷ 0 ∷ 1 ∷ 0 ∷ 0 ∷ [])) ∷ [])
    ∷ []) ≡ []
unfolding sn window modulus distance count_for data_pdu decoded read_data read_report keystream counter_block stream_blocks report_pdu
delivery_status_without_its_gap_is_wrong = refl

delivery_status_without_its_gap_is_right : breaks (a_header Nea0 0 (replicate 32 0)) (before_delivery_status_without_its_gap ++
    an_entry (event.Step (link T A Air) 0) answer.Ok (line.Send (link A M Tun) (flight.Tun (Some 1) (52 ∷ 255 ∷ 0 ∷ 20 ∷ 0 ∷ 0 ∷ 1 ∷ 0 ∷ 0 ∷ 0 ∷ 0 ∷ 132 ∷ 4 ∷ 17 ∷ 1 ∷ 0 ∷ 0 ∷ 1 ∷ 0 ∷ 0 ∷ 0 ∷ 0 ∷ 0 ∷ 0 ∷ 0 ∷ 0 ∷ 0 ∷ 0 ∷ [])) ∷ [])
    ∷ []) ≡ []
unfolding sn window modulus distance count_for data_pdu decoded read_data read_report keystream counter_block stream_blocks report_pdu
delivery_status_without_its_gap_is_right = refl

-- what comes before
abbrev before_dl_of_an_unknown_identity_answered_ok : List Entry
before_dl_of_an_unknown_identity_answered_ok =
    an_entry (event.Bearer 1 S12 0 (a_shape false Mcg false) 0 0) answer.Ok (line.Note (note.Own M 1 1) ∷ line.Send (link M T Ctl) (flight.Ctl (rec.Reconf (a_plan 1 None (Set 1 S12 0 (a_shape false Mcg false) 0 0 (a_key 0 Master) None ∷ [])) [])) ∷ [])
    ∷ []

dl_of_an_unknown_identity_answered_ok_is_wrong : breaks (a_header Nea0 0 (replicate 32 0)) (before_dl_of_an_unknown_identity_answered_ok ++
    an_entry (event.Submit 5 Dl (255 ∷ 255 ∷ [])) answer.Ok []
    ∷ []) ≡ cause ∷ []
unfolding sn window modulus distance count_for data_pdu decoded read_data read_report keystream counter_block stream_blocks report_pdu
dl_of_an_unknown_identity_answered_ok_is_wrong = refl

dl_of_an_unknown_identity_answered_ok_is_right : breaks (a_header Nea0 0 (replicate 32 0)) (before_dl_of_an_unknown_identity_answered_ok ++
    an_entry (event.Submit 5 Dl (255 ∷ 255 ∷ [])) (answer.No refusal.NoBearer) []
    ∷ []) ≡ []
unfolding sn window modulus distance count_for data_pdu decoded read_data read_report keystream counter_block stream_blocks report_pdu
dl_of_an_unknown_identity_answered_ok_is_right = refl

-- what comes before
abbrev before_done_before_the_move_is_adopted : List Entry
before_done_before_the_move_is_adopted =
    an_entry (event.Bearer 1 S12 0 (a_shape false Mcg false) 0 0) answer.Ok (line.Note (note.Own M 1 1) ∷ line.Send (link M T Ctl) (flight.Ctl (rec.Reconf (a_plan 1 None (Set 1 S12 0 (a_shape false Mcg false) 0 0 (a_key 0 Master) None ∷ [])) [])) ∷ [])
    ∷ an_entry (event.Step (link M T Ctl) 0) answer.Ok (line.Note (note.Set 1 1) ∷ line.Send (link T M Ctl) (flight.Ctl (rec.Rcomp 1)) ∷ [])
    ∷ an_entry (event.Step (link T M Ctl) 0) answer.Ok (line.Note note.Done ∷ [])
    ∷ an_entry (event.Add A) answer.Ok (line.Send (link M A Ctl) (flight.Ctl (rec.Addreq (a_plan 2 (Some A) []) [])) ∷ [])
    ∷ an_entry (event.Step (link M A Ctl) 0) answer.Ok (line.Note (note.Join A 2) ∷ line.Send (link A M Ctl) (flight.Ctl (rec.Addack 2)) ∷ [])
    ∷ an_entry (event.Step (link A M Ctl) 0) answer.Ok (line.Send (link M T Ctl) (flight.Ctl (rec.Reconf (a_plan 2 (Some A) []) [])) ∷ [])
    ∷ an_entry (event.Step (link M T Ctl) 0) answer.Ok (line.Send (link T M Ctl) (flight.Ctl (rec.Rcomp 2)) ∷ [])
    ∷ an_entry (event.Step (link T M Ctl) 0) answer.Ok (line.Send (link M A Ctl) (flight.Ctl (rec.Recfg 2)) ∷ line.Note note.Done ∷ [])
    ∷ an_entry (event.Reshape 1 (a_shape true Scg false)) answer.Ok (line.Send (link M A Ctl) (flight.Ctl (rec.Modreq (a_plan 3 (Some A) (Set 1 S12 0 (a_shape true Scg false) 0 0 (a_key 0 (SecondKey 0)) (Some M) ∷ [])) [])) ∷ [])
    ∷ an_entry (event.Step (link M A Ctl) 0) answer.Ok []
    ∷ an_entry (event.Step (link M A Ctl) 0) answer.Ok (line.Send (link A M Ctl) (flight.Ctl (rec.Modack 3)) ∷ [])
    ∷ an_entry (event.Step (link A M Ctl) 0) answer.Ok (line.Note (note.Give M 1 3) ∷ line.Send (link M T Ctl) (flight.Ctl (rec.Reconf (a_plan 3 (Some A) (Set 1 S12 0 (a_shape true Scg false) 0 0 (a_key 0 (SecondKey 0)) (Some M) ∷ [])) [])) ∷ line.Send (link M A Ctl) (flight.Ctl (rec.Snst (a_transfer 3 1 0 [] 0))) ∷ line.Send (link M A Tun) (flight.Tun None (52 ∷ 255 ∷ 0 ∷ 12 ∷ 0 ∷ 0 ∷ 1 ∷ 129 ∷ 0 ∷ 0 ∷ 0 ∷ 132 ∷ 2 ∷ 0 ∷ 0 ∷ 0 ∷ 0 ∷ 0 ∷ 0 ∷ 0 ∷ [])) ∷ line.Send (link M A Tun) (flight.Tun None (48 ∷ 254 ∷ 0 ∷ 0 ∷ 0 ∷ 0 ∷ 1 ∷ 129 ∷ [])) ∷ line.Send (link M A Tun) (flight.Tun None (52 ∷ 255 ∷ 0 ∷ 12 ∷ 0 ∷ 0 ∷ 1 ∷ 130 ∷ 0 ∷ 0 ∷ 0 ∷ 132 ∷ 2 ∷ 0 ∷ 0 ∷ 0 ∷ 0 ∷ 0 ∷ 0 ∷ 0 ∷ [])) ∷ line.Send (link M A Tun) (flight.Tun None (48 ∷ 254 ∷ 0 ∷ 0 ∷ 0 ∷ 0 ∷ 1 ∷ 130 ∷ [])) ∷ [])
    ∷ an_entry (event.Step (link M T Ctl) 0) answer.Ok (line.Note (note.Set 1 3) ∷ line.Send (link T M Ctl) (flight.Ctl (rec.Rcomp 3)) ∷ [])
    ∷ []

done_before_the_move_is_adopted_is_wrong : breaks (a_header Nea0 0 (replicate 32 0)) (before_done_before_the_move_is_adopted ++
    an_entry (event.Step (link T M Ctl) 0) answer.Ok (line.Send (link M A Ctl) (flight.Ctl (rec.Recfg 3)) ∷ line.Note note.Done ∷ [])
    ∷ []) ≡ placed ∷ []
unfolding sn window modulus distance count_for data_pdu decoded read_data read_report keystream counter_block stream_blocks report_pdu
done_before_the_move_is_adopted_is_wrong = refl

done_before_the_move_is_adopted_is_right : breaks (a_header Nea0 0 (replicate 32 0)) (before_done_before_the_move_is_adopted ++
    an_entry (event.Step (link T M Ctl) 0) answer.Ok (line.Send (link M A Ctl) (flight.Ctl (rec.Recfg 3)) ∷ [])
    ∷ []) ≡ []
unfolding sn window modulus distance count_for data_pdu decoded read_data read_report keystream counter_block stream_blocks report_pdu
done_before_the_move_is_adopted_is_right = refl

done_before_the_terminal_answered_is_wrong : breaks (a_header Nea0 0 (replicate 32 0)) (
    an_entry (event.Bearer 1 S12 0 (a_shape false Mcg false) 0 0) answer.Ok (line.Note (note.Own M 1 1) ∷ line.Send (link M T Ctl) (flight.Ctl (rec.Reconf (a_plan 1 None (Set 1 S12 0 (a_shape false Mcg false) 0 0 (a_key 0 Master) None ∷ [])) [])) ∷ line.Note note.Done ∷ [])
    ∷ []) ≡ placed ∷ []
unfolding sn window modulus distance count_for data_pdu decoded read_data read_report keystream counter_block stream_blocks report_pdu
done_before_the_terminal_answered_is_wrong = refl

done_before_the_terminal_answered_is_right : breaks (a_header Nea0 0 (replicate 32 0)) (
    an_entry (event.Bearer 1 S12 0 (a_shape false Mcg false) 0 0) answer.Ok (line.Note (note.Own M 1 1) ∷ line.Send (link M T Ctl) (flight.Ctl (rec.Reconf (a_plan 1 None (Set 1 S12 0 (a_shape false Mcg false) 0 0 (a_key 0 Master) None ∷ [])) [])) ∷ [])
    ∷ []) ≡ []
unfolding sn window modulus distance count_for data_pdu decoded read_data read_report keystream counter_block stream_blocks report_pdu
done_before_the_terminal_answered_is_right = refl

downlink_up_at_node_b_is_wrong : breaks (a_header Nea0 0 (replicate 32 0)) (before_c1_up_line_with_an_altered_payload ++
    an_entry (event.Step (link M T Air) 0) answer.Ok (line.Note (note.Up B 1 Dl 0 (104 ∷ 105 ∷ [])) ∷ line.Send (link T M Air) (flight.Ack 1 1 0) ∷ [])
    ∷ []) ≡ carried ∷ holder ∷ []
unfolding sn window modulus distance count_for data_pdu decoded read_data read_report keystream counter_block stream_blocks report_pdu
downlink_up_at_node_b_is_wrong = refl

downlink_up_at_node_b_is_right : breaks (a_header Nea0 0 (replicate 32 0)) (before_c1_up_line_with_an_altered_payload ++
    an_entry (event.Step (link M T Air) 0) answer.Ok (line.Note (note.Up T 1 Dl 0 (104 ∷ 105 ∷ [])) ∷ line.Send (link T M Air) (flight.Ack 1 1 0) ∷ [])
    ∷ []) ≡ []
unfolding sn window modulus distance count_for data_pdu decoded read_data read_report keystream counter_block stream_blocks report_pdu
downlink_up_at_node_b_is_right = refl

downlink_up_when_only_the_host_took_it_is_wrong : breaks (a_header Nea0 0 (replicate 32 0)) (before_control_pdu_passed_on_that_was_not_taken ++
    an_entry (event.Step (link M A Tun) 0) answer.Ok (line.Note (note.Up T 1 Dl 0 (170 ∷ [])) ∷ line.Send (link A T Air) (flight.Air 1 2 0 (Some 0) (128 ∷ 0 ∷ 170 ∷ [])) ∷ [])
    ∷ []) ≡ carried ∷ []
unfolding sn window modulus distance count_for data_pdu decoded read_data read_report keystream counter_block stream_blocks report_pdu
downlink_up_when_only_the_host_took_it_is_wrong = refl

downlink_up_when_only_the_host_took_it_is_right : breaks (a_header Nea0 0 (replicate 32 0)) (before_control_pdu_passed_on_that_was_not_taken ++
    an_entry (event.Step (link M A Tun) 0) answer.Ok (line.Send (link A T Air) (flight.Air 1 2 0 (Some 0) (128 ∷ 0 ∷ 170 ∷ [])) ∷ [])
    ∷ []) ≡ []
unfolding sn window modulus distance count_for data_pdu decoded read_data read_report keystream counter_block stream_blocks report_pdu
downlink_up_when_only_the_host_took_it_is_right = refl

-- what comes before
abbrev before_dropped_identity_claims_the_same_key_without_traffic : List Entry
before_dropped_identity_claims_the_same_key_without_traffic =
    an_entry (event.Bearer 1 S12 0 (a_shape false Mcg false) 0 0) answer.Ok (line.Note (note.Own M 1 1) ∷ line.Send (link M T Ctl) (flight.Ctl (rec.Reconf (a_plan 1 None (Set 1 S12 0 (a_shape false Mcg false) 0 0 (a_key 0 Master) None ∷ [])) [])) ∷ [])
    ∷ an_entry (event.Step (link M T Ctl) 0) answer.Ok (line.Note (note.Set 1 1) ∷ line.Send (link T M Ctl) (flight.Ctl (rec.Rcomp 1)) ∷ [])
    ∷ an_entry (event.Step (link T M Ctl) 0) answer.Ok (line.Note note.Done ∷ [])
    ∷ an_entry (event.Remove 1) answer.Ok (line.Send (link M T Ctl) (flight.Ctl (rec.Reconf (a_plan 2 None (Unset 1 ∷ [])) [])) ∷ [])
    ∷ an_entry (event.Step (link M T Ctl) 0) answer.Ok (line.Note (note.Unset 1) ∷ line.Send (link T M Ctl) (flight.Ctl (rec.Rcomp 2)) ∷ [])
    ∷ an_entry (event.Step (link T M Ctl) 0) answer.Ok (line.Note note.Done ∷ [])
    ∷ []

dropped_identity_claims_the_same_key_without_traffic_is_wrong : breaks (a_header Nea0 0 (replicate 32 0)) (before_dropped_identity_claims_the_same_key_without_traffic ++
    an_entry (event.Bearer 1 S12 0 (a_shape false Mcg false) 0 0) answer.Ok (line.Note (note.Own M 1 3) ∷ line.Send (link M T Ctl) (flight.Ctl (rec.Reconf (a_plan 3 None (Set 1 S12 0 (a_shape false Mcg false) 0 0 (a_key 0 Master) None ∷ [])) [])) ∷ [])
    ∷ []) ≡ one_use ∷ cause ∷ []
unfolding sn window modulus distance count_for data_pdu decoded read_data read_report keystream counter_block stream_blocks report_pdu
dropped_identity_claims_the_same_key_without_traffic_is_wrong = refl

dropped_identity_claims_the_same_key_without_traffic_is_right : breaks (a_header Nea0 0 (replicate 32 0)) (before_dropped_identity_claims_the_same_key_without_traffic ++
    an_entry (event.Bearer 1 S12 0 (a_shape false Mcg false) 0 0) (answer.No refusal.IdSpent) []
    ∷ []) ≡ []
unfolding sn window modulus distance count_for data_pdu decoded read_data read_report keystream counter_block stream_blocks report_pdu
dropped_identity_claims_the_same_key_without_traffic_is_right = refl

-- what comes before
abbrev before_dropped_identity_comes_back_under_the_same_key : List Entry
before_dropped_identity_comes_back_under_the_same_key =
    an_entry (event.Bearer 1 S12 0 (a_shape false Mcg false) 0 0) answer.Ok (line.Note (note.Own M 1 1) ∷ line.Send (link M T Ctl) (flight.Ctl (rec.Reconf (a_plan 1 None (Set 1 S12 0 (a_shape false Mcg false) 0 0 (a_key 0 Master) None ∷ [])) [])) ∷ [])
    ∷ an_entry (event.Step (link M T Ctl) 0) answer.Ok (line.Note (note.Set 1 1) ∷ line.Send (link T M Ctl) (flight.Ctl (rec.Rcomp 1)) ∷ [])
    ∷ an_entry (event.Step (link T M Ctl) 0) answer.Ok (line.Note note.Done ∷ [])
    ∷ an_entry (event.Submit 1 Dl (170 ∷ [])) answer.Ok (line.Send (link M T Air) (flight.Air 1 1 0 (Some 0) (128 ∷ 0 ∷ 170 ∷ [])) ∷ [])
    ∷ an_entry (event.Remove 1) answer.Ok (line.Send (link M T Ctl) (flight.Ctl (rec.Reconf (a_plan 2 None (Unset 1 ∷ [])) [])) ∷ [])
    ∷ an_entry (event.Step (link M T Ctl) 0) answer.Ok (line.Note (note.Unset 1) ∷ line.Send (link T M Ctl) (flight.Ctl (rec.Rcomp 2)) ∷ [])
    ∷ an_entry (event.Step (link T M Ctl) 0) answer.Ok (line.Note note.Done ∷ [])
    ∷ []

dropped_identity_comes_back_under_the_same_key_is_wrong : breaks (a_header Nea0 0 (replicate 32 0)) (before_dropped_identity_comes_back_under_the_same_key ++
    an_entry (event.Bearer 1 S12 0 (a_shape false Mcg false) 0 0) answer.Ok (line.Note (note.Own M 1 3) ∷ line.Send (link M T Ctl) (flight.Ctl (rec.Reconf (a_plan 3 None (Set 1 S12 0 (a_shape false Mcg false) 0 0 (a_key 0 Master) None ∷ [])) [])) ∷ [])
    ∷ an_entry (event.Step (link M T Ctl) 0) answer.Ok (line.Note (note.Set 1 3) ∷ line.Send (link T M Ctl) (flight.Ctl (rec.Rcomp 3)) ∷ [])
    ∷ an_entry (event.Step (link T M Ctl) 0) answer.Ok (line.Note note.Done ∷ [])
    ∷ an_entry (event.Submit 1 Dl (187 ∷ [])) answer.Ok (line.Send (link M T Air) (flight.Air 1 3 0 (Some 0) (128 ∷ 0 ∷ 187 ∷ [])) ∷ [])
    ∷ []) ≡ one_use ∷ cause ∷ []
unfolding sn window modulus distance count_for data_pdu decoded read_data read_report keystream counter_block stream_blocks report_pdu
dropped_identity_comes_back_under_the_same_key_is_wrong = refl

dropped_identity_comes_back_under_the_same_key_is_right : breaks (a_header Nea0 0 (replicate 32 0)) (before_dropped_identity_comes_back_under_the_same_key ++
    an_entry (event.Bearer 1 S12 0 (a_shape false Mcg false) 0 0) (answer.No refusal.IdSpent) []
    ∷ []) ≡ []
unfolding sn window modulus distance count_for data_pdu decoded read_data read_report keystream counter_block stream_blocks report_pdu
dropped_identity_comes_back_under_the_same_key_is_right = refl

-- what comes before
abbrev before_due_addrej_accepted : List Entry
before_due_addrej_accepted =
    an_entry (event.Deny A true) answer.Ok []
    ∷ an_entry (event.Add A) answer.Ok (line.Send (link M A Ctl) (flight.Ctl (rec.Addreq (a_plan 1 (Some A) []) [])) ∷ [])
    ∷ []

due_addrej_accepted_is_wrong : breaks (a_header Nea0 0 (replicate 32 0)) (before_due_addrej_accepted ++
    an_entry (event.Step (link M A Ctl) 0) answer.Ok (line.Note (note.Join A 1) ∷ line.Send (link A M Ctl) (flight.Ctl (rec.Addack 1)) ∷ [])
    ∷ []) ≡ licensed ∷ placed ∷ replied ∷ []
unfolding sn window modulus distance count_for data_pdu decoded read_data read_report keystream counter_block stream_blocks report_pdu
due_addrej_accepted_is_wrong = refl

due_addrej_accepted_is_right : breaks (a_header Nea0 0 (replicate 32 0)) (before_due_addrej_accepted ++
    an_entry (event.Step (link M A Ctl) 0) answer.Ok (line.Send (link A M Ctl) (flight.Ctl (rec.Addrej 1)) ∷ [])
    ∷ []) ≡ []
unfolding sn window modulus distance count_for data_pdu decoded read_data read_report keystream counter_block stream_blocks report_pdu
due_addrej_accepted_is_right = refl

due_bearerthere_answered_ok_is_wrong : breaks (a_header Nea0 0 (replicate 32 0)) (before_c2_handed_up_at_its_submission ++
    an_entry (event.Bearer 1 S12 0 (a_shape false Mcg false) 0 0) answer.Ok (line.Note (note.Own M 1 2) ∷ line.Send (link M T Ctl) (flight.Ctl (rec.Reconf (a_plan 2 None (Set 1 S12 0 (a_shape false Mcg false) 0 0 (a_key 0 Master) None ∷ [])) [])) ∷ [])
    ∷ []) ≡ one_use ∷ cause ∷ []
unfolding sn window modulus distance count_for data_pdu decoded read_data read_report keystream counter_block stream_blocks report_pdu
due_bearerthere_answered_ok_is_wrong = refl

due_bearerthere_answered_ok_is_right : breaks (a_header Nea0 0 (replicate 32 0)) (before_c2_handed_up_at_its_submission ++
    an_entry (event.Bearer 1 S12 0 (a_shape false Mcg false) 0 0) (answer.No refusal.BearerThere) []
    ∷ []) ≡ []
unfolding sn window modulus distance count_for data_pdu decoded read_data read_report keystream counter_block stream_blocks report_pdu
due_bearerthere_answered_ok_is_right = refl

due_bearerthere_answered_with_a_later_word_is_wrong : breaks (a_header Nea0 0 (replicate 32 0)) (before_c2_handed_up_at_its_submission ++
    an_entry (event.Bearer 1 S12 0 (a_shape true Scg false) 0 9) (answer.No refusal.NoPolicy) []
    ∷ []) ≡ cause ∷ []
unfolding sn window modulus distance count_for data_pdu decoded read_data read_report keystream counter_block stream_blocks report_pdu
due_bearerthere_answered_with_a_later_word_is_wrong = refl

due_bearerthere_answered_with_a_later_word_is_right : breaks (a_header Nea0 0 (replicate 32 0)) (before_c2_handed_up_at_its_submission ++
    an_entry (event.Bearer 1 S12 0 (a_shape true Scg false) 0 9) (answer.No refusal.BearerThere) []
    ∷ []) ≡ []
unfolding sn window modulus distance count_for data_pdu decoded read_data read_report keystream counter_block stream_blocks report_pdu
due_bearerthere_answered_with_a_later_word_is_right = refl

due_busy_answered_ok_is_wrong : breaks (a_header Nea0 0 (replicate 32 0)) (before_dl_of_an_unknown_identity_answered_ok ++
    an_entry (event.Bearer 2 S12 0 (a_shape false Mcg false) 0 0) answer.Ok (line.Note (note.Own M 2 2) ∷ line.Send (link M T Ctl) (flight.Ctl (rec.Reconf (a_plan 2 None (Set 2 S12 0 (a_shape false Mcg false) 0 0 (a_key 0 Master) None ∷ [])) [])) ∷ [])
    ∷ []) ≡ cause ∷ []
unfolding sn window modulus distance count_for data_pdu decoded read_data read_report keystream counter_block stream_blocks report_pdu
due_busy_answered_ok_is_wrong = refl

due_busy_answered_ok_is_right : breaks (a_header Nea0 0 (replicate 32 0)) (before_dl_of_an_unknown_identity_answered_ok ++
    an_entry (event.Bearer 2 S12 0 (a_shape false Mcg false) 0 0) (answer.No refusal.Busy) []
    ∷ []) ≡ []
unfolding sn window modulus distance count_for data_pdu decoded read_data read_report keystream counter_block stream_blocks report_pdu
due_busy_answered_ok_is_right = refl

-- what comes before
abbrev before_due_busy_answered_with_a_later_word : List Entry
before_due_busy_answered_with_a_later_word =
    an_entry (event.Add A) answer.Ok (line.Send (link M A Ctl) (flight.Ctl (rec.Addreq (a_plan 1 (Some A) []) [])) ∷ [])
    ∷ an_entry (event.Step (link M A Ctl) 0) answer.Ok (line.Note (note.Join A 1) ∷ line.Send (link A M Ctl) (flight.Ctl (rec.Addack 1)) ∷ [])
    ∷ an_entry (event.Step (link A M Ctl) 0) answer.Ok (line.Send (link M T Ctl) (flight.Ctl (rec.Reconf (a_plan 1 (Some A) []) [])) ∷ [])
    ∷ an_entry (event.Step (link M T Ctl) 0) answer.Ok (line.Send (link T M Ctl) (flight.Ctl (rec.Rcomp 1)) ∷ [])
    ∷ an_entry (event.Step (link T M Ctl) 0) answer.Ok (line.Send (link M A Ctl) (flight.Ctl (rec.Recfg 1)) ∷ line.Note note.Done ∷ [])
    ∷ an_entry (event.Step (link M A Ctl) 0) answer.Ok []
    ∷ an_entry (event.Bearer 1 S12 0 (a_shape false Mcg false) 0 0) answer.Ok (line.Note (note.Own M 1 2) ∷ line.Send (link M T Ctl) (flight.Ctl (rec.Reconf (a_plan 2 (Some A) (Set 1 S12 0 (a_shape false Mcg false) 0 0 (a_key 0 Master) None ∷ [])) [])) ∷ [])
    ∷ []

due_busy_answered_with_a_later_word_is_wrong : breaks (a_header Nea0 0 (replicate 32 0)) (before_due_busy_answered_with_a_later_word ++
    an_entry (event.Add B) (answer.No refusal.SecondaryThere) []
    ∷ []) ≡ cause ∷ []
unfolding sn window modulus distance count_for data_pdu decoded read_data read_report keystream counter_block stream_blocks report_pdu
due_busy_answered_with_a_later_word_is_wrong = refl

due_busy_answered_with_a_later_word_is_right : breaks (a_header Nea0 0 (replicate 32 0)) (before_due_busy_answered_with_a_later_word ++
    an_entry (event.Add B) (answer.No refusal.Busy) []
    ∷ []) ≡ []
unfolding sn window modulus distance count_for data_pdu decoded read_data read_report keystream counter_block stream_blocks report_pdu
due_busy_answered_with_a_later_word_is_right = refl

-- what comes before
abbrev before_due_busy_of_want_answered_ok : List Entry
before_due_busy_of_want_answered_ok =
    an_entry (event.Add A) answer.Ok (line.Send (link M A Ctl) (flight.Ctl (rec.Addreq (a_plan 1 (Some A) []) [])) ∷ [])
    ∷ an_entry (event.Step (link M A Ctl) 0) answer.Ok (line.Note (note.Join A 1) ∷ line.Send (link A M Ctl) (flight.Ctl (rec.Addack 1)) ∷ [])
    ∷ an_entry (event.Step (link A M Ctl) 0) answer.Ok (line.Send (link M T Ctl) (flight.Ctl (rec.Reconf (a_plan 1 (Some A) []) [])) ∷ [])
    ∷ an_entry (event.Step (link M T Ctl) 0) answer.Ok (line.Send (link T M Ctl) (flight.Ctl (rec.Rcomp 1)) ∷ [])
    ∷ an_entry (event.Step (link T M Ctl) 0) answer.Ok (line.Send (link M A Ctl) (flight.Ctl (rec.Recfg 1)) ∷ line.Note note.Done ∷ [])
    ∷ an_entry (event.Step (link M A Ctl) 0) answer.Ok []
    ∷ an_entry (event.Ask A want.Rekey) answer.Ok (line.Send (link A M Ctl) (flight.Ctl (rec.Modrqd)) ∷ [])
    ∷ []

due_busy_of_want_answered_ok_is_wrong : breaks (a_header Nea0 0 (replicate 32 0)) (before_due_busy_of_want_answered_ok ++
    an_entry (event.Ask A want.Change) answer.Ok (line.Send (link A M Ctl) (flight.Ctl (rec.Chgrqd)) ∷ [])
    ∷ []) ≡ cause ∷ []
unfolding sn window modulus distance count_for data_pdu decoded read_data read_report keystream counter_block stream_blocks report_pdu
due_busy_of_want_answered_ok_is_wrong = refl

due_busy_of_want_answered_ok_is_right : breaks (a_header Nea0 0 (replicate 32 0)) (before_due_busy_of_want_answered_ok ++
    an_entry (event.Ask A want.Change) (answer.No refusal.Busy) []
    ∷ []) ≡ []
unfolding sn window modulus distance count_for data_pdu decoded read_data read_report keystream counter_block stream_blocks report_pdu
due_busy_of_want_answered_ok_is_right = refl

-- what comes before
abbrev before_due_chgref_busy_begun : List Entry
before_due_chgref_busy_begun =
    an_entry (event.Add A) answer.Ok (line.Send (link M A Ctl) (flight.Ctl (rec.Addreq (a_plan 1 (Some A) []) [])) ∷ [])
    ∷ an_entry (event.Step (link M A Ctl) 0) answer.Ok (line.Note (note.Join A 1) ∷ line.Send (link A M Ctl) (flight.Ctl (rec.Addack 1)) ∷ [])
    ∷ an_entry (event.Step (link A M Ctl) 0) answer.Ok (line.Send (link M T Ctl) (flight.Ctl (rec.Reconf (a_plan 1 (Some A) []) [])) ∷ [])
    ∷ an_entry (event.Step (link M T Ctl) 0) answer.Ok (line.Send (link T M Ctl) (flight.Ctl (rec.Rcomp 1)) ∷ [])
    ∷ an_entry (event.Step (link T M Ctl) 0) answer.Ok (line.Send (link M A Ctl) (flight.Ctl (rec.Recfg 1)) ∷ line.Note note.Done ∷ [])
    ∷ an_entry (event.Step (link M A Ctl) 0) answer.Ok []
    ∷ an_entry (event.Ask A want.Change) answer.Ok (line.Send (link A M Ctl) (flight.Ctl (rec.Chgrqd)) ∷ [])
    ∷ an_entry (event.Bearer 1 S12 0 (a_shape false Mcg false) 0 0) answer.Ok (line.Note (note.Own M 1 2) ∷ line.Send (link M T Ctl) (flight.Ctl (rec.Reconf (a_plan 2 (Some A) (Set 1 S12 0 (a_shape false Mcg false) 0 0 (a_key 0 Master) None ∷ [])) [])) ∷ [])
    ∷ []

due_chgref_busy_begun_is_wrong : breaks (a_header Nea0 0 (replicate 32 0)) (before_due_chgref_busy_begun ++
    an_entry (event.Step (link A M Ctl) 0) answer.Ok (line.Note (note.Begin want.Change) ∷ line.Send (link M B Ctl) (flight.Ctl (rec.Addreq (a_plan 3 (Some B) []) [])) ∷ [])
    ∷ []) ≡ placed ∷ replied ∷ []
unfolding sn window modulus distance count_for data_pdu decoded read_data read_report keystream counter_block stream_blocks report_pdu
due_chgref_busy_begun_is_wrong = refl

due_chgref_busy_begun_is_right : breaks (a_header Nea0 0 (replicate 32 0)) (before_due_chgref_busy_begun ++
    an_entry (event.Step (link A M Ctl) 0) answer.Ok (line.Send (link M A Ctl) (flight.Ctl (rec.Chgref word.Busy)) ∷ [])
    ∷ []) ≡ []
unfolding sn window modulus distance count_for data_pdu decoded read_data read_report keystream counter_block stream_blocks report_pdu
due_chgref_busy_begun_is_right = refl

-- what comes before
abbrev before_due_chgref_counterspent_begun : List Entry
before_due_chgref_counterspent_begun =
    an_entry (event.Add A) answer.Ok (line.Send (link M A Ctl) (flight.Ctl (rec.Addreq (a_plan 1 (Some A) []) [])) ∷ [])
    ∷ an_entry (event.Step (link M A Ctl) 0) answer.Ok (line.Note (note.Join A 1) ∷ line.Send (link A M Ctl) (flight.Ctl (rec.Addack 1)) ∷ [])
    ∷ an_entry (event.Step (link A M Ctl) 0) answer.Ok (line.Send (link M T Ctl) (flight.Ctl (rec.Reconf (a_plan 1 (Some A) []) [])) ∷ [])
    ∷ an_entry (event.Step (link M T Ctl) 0) answer.Ok (line.Send (link T M Ctl) (flight.Ctl (rec.Rcomp 1)) ∷ [])
    ∷ an_entry (event.Step (link T M Ctl) 0) answer.Ok (line.Send (link M A Ctl) (flight.Ctl (rec.Recfg 1)) ∷ line.Note note.Done ∷ [])
    ∷ an_entry (event.Step (link M A Ctl) 0) answer.Ok []
    ∷ an_entry (event.Ask A want.Change) answer.Ok (line.Send (link A M Ctl) (flight.Ctl (rec.Chgrqd)) ∷ [])
    ∷ []

due_chgref_counterspent_begun_is_wrong : breaks (a_header Nea0 65535 (replicate 32 0)) (before_due_chgref_counterspent_begun ++
    an_entry (event.Step (link A M Ctl) 0) answer.Ok (line.Note (note.Begin want.Change) ∷ line.Send (link M B Ctl) (flight.Ctl (rec.Addreq (a_plan 2 (Some B) []) [])) ∷ [])
    ∷ []) ≡ placed ∷ replied ∷ []
unfolding sn window modulus distance count_for data_pdu decoded read_data read_report keystream counter_block stream_blocks report_pdu
due_chgref_counterspent_begun_is_wrong = refl

due_chgref_counterspent_begun_is_right : breaks (a_header Nea0 65535 (replicate 32 0)) (before_due_chgref_counterspent_begun ++
    an_entry (event.Step (link A M Ctl) 0) answer.Ok (line.Send (link M A Ctl) (flight.Ctl (rec.Chgref word.CounterSpent)) ∷ [])
    ∷ []) ≡ []
unfolding sn window modulus distance count_for data_pdu decoded read_data read_report keystream counter_block stream_blocks report_pdu
due_chgref_counterspent_begun_is_right = refl

-- what comes before
abbrev before_due_chgref_nosecondary_missing : List Entry
before_due_chgref_nosecondary_missing =
    an_entry (event.Add A) answer.Ok (line.Send (link M A Ctl) (flight.Ctl (rec.Addreq (a_plan 1 (Some A) []) [])) ∷ [])
    ∷ an_entry (event.Step (link M A Ctl) 0) answer.Ok (line.Note (note.Join A 1) ∷ line.Send (link A M Ctl) (flight.Ctl (rec.Addack 1)) ∷ [])
    ∷ an_entry (event.Step (link A M Ctl) 0) answer.Ok (line.Send (link M T Ctl) (flight.Ctl (rec.Reconf (a_plan 1 (Some A) []) [])) ∷ [])
    ∷ an_entry (event.Step (link M T Ctl) 0) answer.Ok (line.Send (link T M Ctl) (flight.Ctl (rec.Rcomp 1)) ∷ [])
    ∷ an_entry (event.Step (link T M Ctl) 0) answer.Ok (line.Send (link M A Ctl) (flight.Ctl (rec.Recfg 1)) ∷ line.Note note.Done ∷ [])
    ∷ an_entry (event.Step (link M A Ctl) 0) answer.Ok []
    ∷ an_entry (event.Ask A want.Change) answer.Ok (line.Send (link A M Ctl) (flight.Ctl (rec.Chgrqd)) ∷ [])
    ∷ an_entry (event.Change) answer.Ok (line.Send (link M B Ctl) (flight.Ctl (rec.Addreq (a_plan 2 (Some B) []) [])) ∷ [])
    ∷ an_entry (event.Step (link M B Ctl) 0) answer.Ok (line.Note (note.Join B 2) ∷ line.Send (link B M Ctl) (flight.Ctl (rec.Addack 2)) ∷ [])
    ∷ an_entry (event.Step (link B M Ctl) 0) answer.Ok (line.Send (link M T Ctl) (flight.Ctl (rec.Reconf (a_plan 2 (Some B) []) [])) ∷ line.Send (link M A Ctl) (flight.Ctl (rec.Relreq (a_plan 2 (Some B) []))) ∷ [])
    ∷ []

due_chgref_nosecondary_missing_is_wrong : breaks (a_header Nea0 0 (replicate 32 0)) (before_due_chgref_nosecondary_missing ++
    an_entry (event.Step (link A M Ctl) 0) answer.Ok []
    ∷ []) ≡ replied ∷ []
unfolding sn window modulus distance count_for data_pdu decoded read_data read_report keystream counter_block stream_blocks report_pdu
due_chgref_nosecondary_missing_is_wrong = refl

due_chgref_nosecondary_missing_is_right : breaks (a_header Nea0 0 (replicate 32 0)) (before_due_chgref_nosecondary_missing ++
    an_entry (event.Step (link A M Ctl) 0) answer.Ok (line.Send (link M A Ctl) (flight.Ctl (rec.Chgref word.NoSecondary)) ∷ [])
    ∷ []) ≡ []
unfolding sn window modulus distance count_for data_pdu decoded read_data read_report keystream counter_block stream_blocks report_pdu
due_chgref_nosecondary_missing_is_right = refl

-- what comes before
abbrev before_due_chgref_rejected_missing : List Entry
before_due_chgref_rejected_missing =
    an_entry (event.Add A) answer.Ok (line.Send (link M A Ctl) (flight.Ctl (rec.Addreq (a_plan 1 (Some A) []) [])) ∷ [])
    ∷ an_entry (event.Step (link M A Ctl) 0) answer.Ok (line.Note (note.Join A 1) ∷ line.Send (link A M Ctl) (flight.Ctl (rec.Addack 1)) ∷ [])
    ∷ an_entry (event.Step (link A M Ctl) 0) answer.Ok (line.Send (link M T Ctl) (flight.Ctl (rec.Reconf (a_plan 1 (Some A) []) [])) ∷ [])
    ∷ an_entry (event.Step (link M T Ctl) 0) answer.Ok (line.Send (link T M Ctl) (flight.Ctl (rec.Rcomp 1)) ∷ [])
    ∷ an_entry (event.Step (link T M Ctl) 0) answer.Ok (line.Send (link M A Ctl) (flight.Ctl (rec.Recfg 1)) ∷ line.Note note.Done ∷ [])
    ∷ an_entry (event.Step (link M A Ctl) 0) answer.Ok []
    ∷ an_entry (event.Ask A want.Change) answer.Ok (line.Send (link A M Ctl) (flight.Ctl (rec.Chgrqd)) ∷ [])
    ∷ an_entry (event.Deny B true) answer.Ok []
    ∷ an_entry (event.Step (link A M Ctl) 0) answer.Ok (line.Note (note.Begin want.Change) ∷ line.Send (link M B Ctl) (flight.Ctl (rec.Addreq (a_plan 2 (Some B) []) [])) ∷ [])
    ∷ an_entry (event.Step (link M B Ctl) 0) answer.Ok (line.Send (link B M Ctl) (flight.Ctl (rec.Addrej 2)) ∷ [])
    ∷ []

due_chgref_rejected_missing_is_wrong : breaks (a_header Nea0 0 (replicate 32 0)) (before_due_chgref_rejected_missing ++
    an_entry (event.Step (link B M Ctl) 0) answer.Ok (line.Note note.Rejected ∷ [])
    ∷ []) ≡ replied ∷ unstalled ∷ []
unfolding sn window modulus distance count_for data_pdu decoded read_data read_report keystream counter_block stream_blocks report_pdu
due_chgref_rejected_missing_is_wrong = refl

due_chgref_rejected_missing_is_right : breaks (a_header Nea0 0 (replicate 32 0)) (before_due_chgref_rejected_missing ++
    an_entry (event.Step (link B M Ctl) 0) answer.Ok (line.Send (link M A Ctl) (flight.Ctl (rec.Chgref word.Rejected)) ∷ line.Note note.Rejected ∷ [])
    ∷ []) ≡ []
unfolding sn window modulus distance count_for data_pdu decoded read_data read_report keystream counter_block stream_blocks report_pdu
due_chgref_rejected_missing_is_right = refl

due_counterspent_answered_ok_is_wrong : breaks (a_header Nea0 65536 (replicate 32 0)) (
    an_entry (event.Add A) answer.Ok (line.Send (link M A Ctl) (flight.Ctl (rec.Addreq (a_plan 1 (Some A) []) [])) ∷ [])
    ∷ []) ≡ cause ∷ []
unfolding sn window modulus distance count_for data_pdu decoded read_data read_report keystream counter_block stream_blocks report_pdu
due_counterspent_answered_ok_is_wrong = refl

due_counterspent_answered_ok_is_right : breaks (a_header Nea0 65536 (replicate 32 0)) (
    an_entry (event.Add A) (answer.No refusal.CounterSpent) []
    ∷ []) ≡ []
unfolding sn window modulus distance count_for data_pdu decoded read_data read_report keystream counter_block stream_blocks report_pdu
due_counterspent_answered_ok_is_right = refl

due_counterspent_of_rekey_s_answered_ok_is_wrong : breaks (a_header Nea0 65535 (replicate 32 0)) (before_counter_does_not_begin_at_used ++
    an_entry (event.RekeySecond) answer.Ok (line.Send (link M A Ctl) (flight.Ctl (rec.Modreq (a_plan 2 (Some A) []) [])) ∷ [])
    ∷ []) ≡ cause ∷ []
unfolding sn window modulus distance count_for data_pdu decoded read_data read_report keystream counter_block stream_blocks report_pdu
due_counterspent_of_rekey_s_answered_ok_is_wrong = refl

due_counterspent_of_rekey_s_answered_ok_is_right : breaks (a_header Nea0 65535 (replicate 32 0)) (before_counter_does_not_begin_at_used ++
    an_entry (event.RekeySecond) (answer.No refusal.CounterSpent) []
    ∷ []) ≡ []
unfolding sn window modulus distance count_for data_pdu decoded read_data read_report keystream counter_block stream_blocks report_pdu
due_counterspent_of_rekey_s_answered_ok_is_right = refl

-- what comes before
abbrev before_due_exhausted_answered_ok : List Entry
before_due_exhausted_answered_ok =
    an_entry (event.Bearer 1 S12 4294967294 (a_shape false Mcg false) 0 0) answer.Ok (line.Note (note.Own M 1 1) ∷ line.Send (link M T Ctl) (flight.Ctl (rec.Reconf (a_plan 1 None (Set 1 S12 4294967294 (a_shape false Mcg false) 0 0 (a_key 0 Master) None ∷ [])) [])) ∷ [])
    ∷ an_entry (event.Step (link M T Ctl) 0) answer.Ok (line.Note (note.Set 1 1) ∷ line.Send (link T M Ctl) (flight.Ctl (rec.Rcomp 1)) ∷ [])
    ∷ an_entry (event.Step (link T M Ctl) 0) answer.Ok (line.Note note.Done ∷ [])
    ∷ an_entry (event.Submit 1 Dl (0 ∷ [])) answer.Ok (line.Send (link M T Air) (flight.Air 1 1 0 (Some 4294967294) (143 ∷ 254 ∷ 0 ∷ [])) ∷ [])
    ∷ []

due_exhausted_answered_ok_is_wrong : breaks (a_header Nea0 0 (replicate 32 0)) (before_due_exhausted_answered_ok ++
    an_entry (event.Submit 1 Dl (1 ∷ [])) answer.Ok (line.Send (link M T Air) (flight.Air 1 1 1 (Some 4294967295) (143 ∷ 255 ∷ 1 ∷ [])) ∷ [])
    ∷ []) ≡ cause ∷ []
unfolding sn window modulus distance count_for data_pdu decoded read_data read_report keystream counter_block stream_blocks report_pdu
due_exhausted_answered_ok_is_wrong = refl

due_exhausted_answered_ok_is_right : breaks (a_header Nea0 0 (replicate 32 0)) (before_due_exhausted_answered_ok ++
    an_entry (event.Submit 1 Dl (1 ∷ [])) (answer.No refusal.Exhausted) []
    ∷ []) ≡ []
unfolding sn window modulus distance count_for data_pdu decoded read_data read_report keystream counter_block stream_blocks report_pdu
due_exhausted_answered_ok_is_right = refl

-- what comes before
abbrev before_due_idspent_of_release_answered_ok : List Entry
before_due_idspent_of_release_answered_ok =
    an_entry (event.Bearer 1 S12 0 (a_shape false Mcg false) 0 0) answer.Ok (line.Note (note.Own M 1 1) ∷ line.Send (link M T Ctl) (flight.Ctl (rec.Reconf (a_plan 1 None (Set 1 S12 0 (a_shape false Mcg false) 0 0 (a_key 0 Master) None ∷ [])) [])) ∷ [])
    ∷ an_entry (event.Step (link M T Ctl) 0) answer.Ok (line.Note (note.Set 1 1) ∷ line.Send (link T M Ctl) (flight.Ctl (rec.Rcomp 1)) ∷ [])
    ∷ an_entry (event.Step (link T M Ctl) 0) answer.Ok (line.Note note.Done ∷ [])
    ∷ an_entry (event.Remove 1) answer.Ok (line.Send (link M T Ctl) (flight.Ctl (rec.Reconf (a_plan 2 None (Unset 1 ∷ [])) [])) ∷ [])
    ∷ an_entry (event.Step (link M T Ctl) 0) answer.Ok (line.Note (note.Unset 1) ∷ line.Send (link T M Ctl) (flight.Ctl (rec.Rcomp 2)) ∷ [])
    ∷ an_entry (event.Step (link T M Ctl) 0) answer.Ok (line.Note note.Done ∷ [])
    ∷ an_entry (event.Add A) answer.Ok (line.Send (link M A Ctl) (flight.Ctl (rec.Addreq (a_plan 3 (Some A) []) [])) ∷ [])
    ∷ an_entry (event.Step (link M A Ctl) 0) answer.Ok (line.Note (note.Join A 3) ∷ line.Send (link A M Ctl) (flight.Ctl (rec.Addack 3)) ∷ [])
    ∷ an_entry (event.Step (link A M Ctl) 0) answer.Ok (line.Send (link M T Ctl) (flight.Ctl (rec.Reconf (a_plan 3 (Some A) []) [])) ∷ [])
    ∷ an_entry (event.Step (link M T Ctl) 0) answer.Ok (line.Send (link T M Ctl) (flight.Ctl (rec.Rcomp 3)) ∷ [])
    ∷ an_entry (event.Step (link T M Ctl) 0) answer.Ok (line.Send (link M A Ctl) (flight.Ctl (rec.Recfg 3)) ∷ line.Note note.Done ∷ [])
    ∷ an_entry (event.Step (link M A Ctl) 0) answer.Ok []
    ∷ an_entry (event.Bearer 1 S12 0 (a_shape true Scg false) 0 0) answer.Ok (line.Send (link M A Ctl) (flight.Ctl (rec.Modreq (a_plan 4 (Some A) (Set 1 S12 0 (a_shape true Scg false) 0 0 (a_key 0 (SecondKey 0)) None ∷ [])) [])) ∷ [])
    ∷ an_entry (event.Step (link M A Ctl) 0) answer.Ok (line.Note (note.Own A 1 4) ∷ line.Send (link A M Ctl) (flight.Ctl (rec.Modack 4)) ∷ [])
    ∷ an_entry (event.Step (link A M Ctl) 0) answer.Ok (line.Send (link M T Ctl) (flight.Ctl (rec.Reconf (a_plan 4 (Some A) (Set 1 S12 0 (a_shape true Scg false) 0 0 (a_key 0 (SecondKey 0)) None ∷ [])) [])) ∷ [])
    ∷ an_entry (event.Step (link M T Ctl) 0) answer.Ok (line.Note (note.Set 1 4) ∷ line.Send (link T M Ctl) (flight.Ctl (rec.Rcomp 4)) ∷ [])
    ∷ an_entry (event.Step (link T M Ctl) 0) answer.Ok (line.Send (link M A Ctl) (flight.Ctl (rec.Recfg 4)) ∷ line.Note note.Done ∷ [])
    ∷ []

due_idspent_of_release_answered_ok_is_wrong : breaks (a_header Nea0 0 (replicate 32 0)) (before_due_idspent_of_release_answered_ok ++
    an_entry (event.Release) answer.Ok (line.Send (link M A Ctl) (flight.Ctl (rec.Relreq (a_plan 5 None (Set 1 S12 0 (a_shape false Mcg false) 0 0 (a_key 0 Master) (Some A) ∷ [])))) ∷ [])
    ∷ []) ≡ cause ∷ []
unfolding sn window modulus distance count_for data_pdu decoded read_data read_report keystream counter_block stream_blocks report_pdu
due_idspent_of_release_answered_ok_is_wrong = refl

due_idspent_of_release_answered_ok_is_right : breaks (a_header Nea0 0 (replicate 32 0)) (before_due_idspent_of_release_answered_ok ++
    an_entry (event.Release) (answer.No refusal.IdSpent) []
    ∷ []) ≡ []
unfolding sn window modulus distance count_for data_pdu decoded read_data read_report keystream counter_block stream_blocks report_pdu
due_idspent_of_release_answered_ok_is_right = refl

due_idspent_of_shape_answered_ok_is_wrong : breaks (a_header Nea0 0 (replicate 32 0)) (before_due_idspent_of_release_answered_ok ++
    an_entry (event.Reshape 1 (a_shape false Mcg false)) answer.Ok (line.Send (link M A Ctl) (flight.Ctl (rec.Modreq (a_plan 5 (Some A) (Set 1 S12 0 (a_shape false Mcg false) 0 0 (a_key 0 Master) (Some A) ∷ [])) [])) ∷ [])
    ∷ []) ≡ cause ∷ []
unfolding sn window modulus distance count_for data_pdu decoded read_data read_report keystream counter_block stream_blocks report_pdu
due_idspent_of_shape_answered_ok_is_wrong = refl

due_idspent_of_shape_answered_ok_is_right : breaks (a_header Nea0 0 (replicate 32 0)) (before_due_idspent_of_release_answered_ok ++
    an_entry (event.Reshape 1 (a_shape false Mcg false)) (answer.No refusal.IdSpent) []
    ∷ []) ≡ []
unfolding sn window modulus distance count_for data_pdu decoded read_data read_report keystream counter_block stream_blocks report_pdu
due_idspent_of_shape_answered_ok_is_right = refl

-- what comes before
abbrev before_due_modref_busy_begun : List Entry
before_due_modref_busy_begun =
    an_entry (event.Add A) answer.Ok (line.Send (link M A Ctl) (flight.Ctl (rec.Addreq (a_plan 1 (Some A) []) [])) ∷ [])
    ∷ an_entry (event.Step (link M A Ctl) 0) answer.Ok (line.Note (note.Join A 1) ∷ line.Send (link A M Ctl) (flight.Ctl (rec.Addack 1)) ∷ [])
    ∷ an_entry (event.Step (link A M Ctl) 0) answer.Ok (line.Send (link M T Ctl) (flight.Ctl (rec.Reconf (a_plan 1 (Some A) []) [])) ∷ [])
    ∷ an_entry (event.Step (link M T Ctl) 0) answer.Ok (line.Send (link T M Ctl) (flight.Ctl (rec.Rcomp 1)) ∷ [])
    ∷ an_entry (event.Step (link T M Ctl) 0) answer.Ok (line.Send (link M A Ctl) (flight.Ctl (rec.Recfg 1)) ∷ line.Note note.Done ∷ [])
    ∷ an_entry (event.Step (link M A Ctl) 0) answer.Ok []
    ∷ an_entry (event.Ask A want.Rekey) answer.Ok (line.Send (link A M Ctl) (flight.Ctl (rec.Modrqd)) ∷ [])
    ∷ an_entry (event.Bearer 1 S12 0 (a_shape false Mcg false) 0 0) answer.Ok (line.Note (note.Own M 1 2) ∷ line.Send (link M T Ctl) (flight.Ctl (rec.Reconf (a_plan 2 (Some A) (Set 1 S12 0 (a_shape false Mcg false) 0 0 (a_key 0 Master) None ∷ [])) [])) ∷ [])
    ∷ []

due_modref_busy_begun_is_wrong : breaks (a_header Nea0 0 (replicate 32 0)) (before_due_modref_busy_begun ++
    an_entry (event.Step (link A M Ctl) 0) answer.Ok (line.Note (note.Begin want.Rekey) ∷ line.Send (link M A Ctl) (flight.Ctl (rec.Modreq (a_plan 3 (Some A) []) [])) ∷ [])
    ∷ []) ≡ placed ∷ replied ∷ []
unfolding sn window modulus distance count_for data_pdu decoded read_data read_report keystream counter_block stream_blocks report_pdu
due_modref_busy_begun_is_wrong = refl

due_modref_busy_begun_is_right : breaks (a_header Nea0 0 (replicate 32 0)) (before_due_modref_busy_begun ++
    an_entry (event.Step (link A M Ctl) 0) answer.Ok (line.Send (link M A Ctl) (flight.Ctl (rec.Modref word.Busy)) ∷ [])
    ∷ []) ≡ []
unfolding sn window modulus distance count_for data_pdu decoded read_data read_report keystream counter_block stream_blocks report_pdu
due_modref_busy_begun_is_right = refl

due_modref_counterspent_begun_is_wrong : breaks (a_header Nea0 65535 (replicate 32 0)) (before_due_busy_of_want_answered_ok ++
    an_entry (event.Step (link A M Ctl) 0) answer.Ok (line.Note (note.Begin want.Rekey) ∷ line.Send (link M A Ctl) (flight.Ctl (rec.Modreq (a_plan 2 (Some A) []) [])) ∷ [])
    ∷ []) ≡ placed ∷ replied ∷ []
unfolding sn window modulus distance count_for data_pdu decoded read_data read_report keystream counter_block stream_blocks report_pdu
due_modref_counterspent_begun_is_wrong = refl

due_modref_counterspent_begun_is_right : breaks (a_header Nea0 65535 (replicate 32 0)) (before_due_busy_of_want_answered_ok ++
    an_entry (event.Step (link A M Ctl) 0) answer.Ok (line.Send (link M A Ctl) (flight.Ctl (rec.Modref word.CounterSpent)) ∷ [])
    ∷ []) ≡ []
unfolding sn window modulus distance count_for data_pdu decoded read_data read_report keystream counter_block stream_blocks report_pdu
due_modref_counterspent_begun_is_right = refl

-- what comes before
abbrev before_due_modref_nosecondary_given_as_busy : List Entry
before_due_modref_nosecondary_given_as_busy =
    an_entry (event.Add A) answer.Ok (line.Send (link M A Ctl) (flight.Ctl (rec.Addreq (a_plan 1 (Some A) []) [])) ∷ [])
    ∷ an_entry (event.Step (link M A Ctl) 0) answer.Ok (line.Note (note.Join A 1) ∷ line.Send (link A M Ctl) (flight.Ctl (rec.Addack 1)) ∷ [])
    ∷ an_entry (event.Step (link A M Ctl) 0) answer.Ok (line.Send (link M T Ctl) (flight.Ctl (rec.Reconf (a_plan 1 (Some A) []) [])) ∷ [])
    ∷ an_entry (event.Step (link M T Ctl) 0) answer.Ok (line.Send (link T M Ctl) (flight.Ctl (rec.Rcomp 1)) ∷ [])
    ∷ an_entry (event.Step (link T M Ctl) 0) answer.Ok (line.Send (link M A Ctl) (flight.Ctl (rec.Recfg 1)) ∷ line.Note note.Done ∷ [])
    ∷ an_entry (event.Step (link M A Ctl) 0) answer.Ok []
    ∷ an_entry (event.Ask A want.Rekey) answer.Ok (line.Send (link A M Ctl) (flight.Ctl (rec.Modrqd)) ∷ [])
    ∷ an_entry (event.Change) answer.Ok (line.Send (link M B Ctl) (flight.Ctl (rec.Addreq (a_plan 2 (Some B) []) [])) ∷ [])
    ∷ an_entry (event.Step (link M B Ctl) 0) answer.Ok (line.Note (note.Join B 2) ∷ line.Send (link B M Ctl) (flight.Ctl (rec.Addack 2)) ∷ [])
    ∷ an_entry (event.Step (link B M Ctl) 0) answer.Ok (line.Send (link M T Ctl) (flight.Ctl (rec.Reconf (a_plan 2 (Some B) []) [])) ∷ line.Send (link M A Ctl) (flight.Ctl (rec.Relreq (a_plan 2 (Some B) []))) ∷ [])
    ∷ []

due_modref_nosecondary_given_as_busy_is_wrong : breaks (a_header Nea0 0 (replicate 32 0)) (before_due_modref_nosecondary_given_as_busy ++
    an_entry (event.Step (link A M Ctl) 0) answer.Ok (line.Send (link M A Ctl) (flight.Ctl (rec.Modref word.Busy)) ∷ [])
    ∷ []) ≡ licensed ∷ replied ∷ []
unfolding sn window modulus distance count_for data_pdu decoded read_data read_report keystream counter_block stream_blocks report_pdu
due_modref_nosecondary_given_as_busy_is_wrong = refl

due_modref_nosecondary_given_as_busy_is_right : breaks (a_header Nea0 0 (replicate 32 0)) (before_due_modref_nosecondary_given_as_busy ++
    an_entry (event.Step (link A M Ctl) 0) answer.Ok (line.Send (link M A Ctl) (flight.Ctl (rec.Modref word.NoSecondary)) ∷ [])
    ∷ []) ≡ []
unfolding sn window modulus distance count_for data_pdu decoded read_data read_report keystream counter_block stream_blocks report_pdu
due_modref_nosecondary_given_as_busy_is_right = refl

due_modref_nosecondary_missing_is_wrong : breaks (a_header Nea0 0 (replicate 32 0)) (before_due_modref_nosecondary_given_as_busy ++
    an_entry (event.Step (link A M Ctl) 0) answer.Ok []
    ∷ []) ≡ replied ∷ []
unfolding sn window modulus distance count_for data_pdu decoded read_data read_report keystream counter_block stream_blocks report_pdu
due_modref_nosecondary_missing_is_wrong = refl

due_modref_nosecondary_missing_is_right : breaks (a_header Nea0 0 (replicate 32 0)) (before_due_modref_nosecondary_given_as_busy ++
    an_entry (event.Step (link A M Ctl) 0) answer.Ok (line.Send (link M A Ctl) (flight.Ctl (rec.Modref word.NoSecondary)) ∷ [])
    ∷ []) ≡ []
unfolding sn window modulus distance count_for data_pdu decoded read_data read_report keystream counter_block stream_blocks report_pdu
due_modref_nosecondary_missing_is_right = refl

-- what comes before
abbrev before_due_modref_rejected_missing : List Entry
before_due_modref_rejected_missing =
    an_entry (event.Add A) answer.Ok (line.Send (link M A Ctl) (flight.Ctl (rec.Addreq (a_plan 1 (Some A) []) [])) ∷ [])
    ∷ an_entry (event.Step (link M A Ctl) 0) answer.Ok (line.Note (note.Join A 1) ∷ line.Send (link A M Ctl) (flight.Ctl (rec.Addack 1)) ∷ [])
    ∷ an_entry (event.Step (link A M Ctl) 0) answer.Ok (line.Send (link M T Ctl) (flight.Ctl (rec.Reconf (a_plan 1 (Some A) []) [])) ∷ [])
    ∷ an_entry (event.Step (link M T Ctl) 0) answer.Ok (line.Send (link T M Ctl) (flight.Ctl (rec.Rcomp 1)) ∷ [])
    ∷ an_entry (event.Step (link T M Ctl) 0) answer.Ok (line.Send (link M A Ctl) (flight.Ctl (rec.Recfg 1)) ∷ line.Note note.Done ∷ [])
    ∷ an_entry (event.Step (link M A Ctl) 0) answer.Ok []
    ∷ an_entry (event.Ask A want.Rekey) answer.Ok (line.Send (link A M Ctl) (flight.Ctl (rec.Modrqd)) ∷ [])
    ∷ an_entry (event.Deny A true) answer.Ok []
    ∷ an_entry (event.Step (link A M Ctl) 0) answer.Ok (line.Note (note.Begin want.Rekey) ∷ line.Send (link M A Ctl) (flight.Ctl (rec.Modreq (a_plan 2 (Some A) []) [])) ∷ [])
    ∷ an_entry (event.Step (link M A Ctl) 0) answer.Ok (line.Send (link A M Ctl) (flight.Ctl (rec.Modrej 2)) ∷ [])
    ∷ []

due_modref_rejected_missing_is_wrong : breaks (a_header Nea0 0 (replicate 32 0)) (before_due_modref_rejected_missing ++
    an_entry (event.Step (link A M Ctl) 0) answer.Ok (line.Note note.Rejected ∷ [])
    ∷ []) ≡ replied ∷ unstalled ∷ []
unfolding sn window modulus distance count_for data_pdu decoded read_data read_report keystream counter_block stream_blocks report_pdu
due_modref_rejected_missing_is_wrong = refl

due_modref_rejected_missing_is_right : breaks (a_header Nea0 0 (replicate 32 0)) (before_due_modref_rejected_missing ++
    an_entry (event.Step (link A M Ctl) 0) answer.Ok (line.Send (link M A Ctl) (flight.Ctl (rec.Modref word.Rejected)) ∷ line.Note note.Rejected ∷ [])
    ∷ []) ≡ []
unfolding sn window modulus distance count_for data_pdu decoded read_data read_report keystream counter_block stream_blocks report_pdu
due_modref_rejected_missing_is_right = refl

-- what comes before
abbrev before_due_modrej_accepted : List Entry
before_due_modrej_accepted =
    an_entry (event.Add A) answer.Ok (line.Send (link M A Ctl) (flight.Ctl (rec.Addreq (a_plan 1 (Some A) []) [])) ∷ [])
    ∷ an_entry (event.Step (link M A Ctl) 0) answer.Ok (line.Note (note.Join A 1) ∷ line.Send (link A M Ctl) (flight.Ctl (rec.Addack 1)) ∷ [])
    ∷ an_entry (event.Step (link A M Ctl) 0) answer.Ok (line.Send (link M T Ctl) (flight.Ctl (rec.Reconf (a_plan 1 (Some A) []) [])) ∷ [])
    ∷ an_entry (event.Step (link M T Ctl) 0) answer.Ok (line.Send (link T M Ctl) (flight.Ctl (rec.Rcomp 1)) ∷ [])
    ∷ an_entry (event.Step (link T M Ctl) 0) answer.Ok (line.Send (link M A Ctl) (flight.Ctl (rec.Recfg 1)) ∷ line.Note note.Done ∷ [])
    ∷ an_entry (event.Step (link M A Ctl) 0) answer.Ok []
    ∷ an_entry (event.Deny A true) answer.Ok []
    ∷ an_entry (event.Bearer 1 S12 0 (a_shape true Scg false) 0 0) answer.Ok (line.Send (link M A Ctl) (flight.Ctl (rec.Modreq (a_plan 2 (Some A) (Set 1 S12 0 (a_shape true Scg false) 0 0 (a_key 0 (SecondKey 0)) None ∷ [])) [])) ∷ [])
    ∷ []

due_modrej_accepted_is_wrong : breaks (a_header Nea0 0 (replicate 32 0)) (before_due_modrej_accepted ++
    an_entry (event.Step (link M A Ctl) 0) answer.Ok (line.Note (note.Own A 1 2) ∷ line.Send (link A M Ctl) (flight.Ctl (rec.Modack 2)) ∷ [])
    ∷ []) ≡ licensed ∷ placed ∷ replied ∷ []
unfolding sn window modulus distance count_for data_pdu decoded read_data read_report keystream counter_block stream_blocks report_pdu
due_modrej_accepted_is_wrong = refl

due_modrej_accepted_is_right : breaks (a_header Nea0 0 (replicate 32 0)) (before_due_modrej_accepted ++
    an_entry (event.Step (link M A Ctl) 0) answer.Ok (line.Send (link A M Ctl) (flight.Ctl (rec.Modrej 2)) ∷ [])
    ∷ []) ≡ []
unfolding sn window modulus distance count_for data_pdu decoded read_data read_report keystream counter_block stream_blocks report_pdu
due_modrej_accepted_is_right = refl

-- what comes before
abbrev before_due_nobearer_after_drop_answered_ok : List Entry
before_due_nobearer_after_drop_answered_ok =
    an_entry (event.Bearer 1 S12 0 (a_shape false Mcg false) 0 0) answer.Ok (line.Note (note.Own M 1 1) ∷ line.Send (link M T Ctl) (flight.Ctl (rec.Reconf (a_plan 1 None (Set 1 S12 0 (a_shape false Mcg false) 0 0 (a_key 0 Master) None ∷ [])) [])) ∷ [])
    ∷ an_entry (event.Step (link M T Ctl) 0) answer.Ok (line.Note (note.Set 1 1) ∷ line.Send (link T M Ctl) (flight.Ctl (rec.Rcomp 1)) ∷ [])
    ∷ an_entry (event.Step (link T M Ctl) 0) answer.Ok (line.Note note.Done ∷ [])
    ∷ an_entry (event.Remove 1) answer.Ok (line.Send (link M T Ctl) (flight.Ctl (rec.Reconf (a_plan 2 None (Unset 1 ∷ [])) [])) ∷ [])
    ∷ []

due_nobearer_after_drop_answered_ok_is_wrong : breaks (a_header Nea0 0 (replicate 32 0)) (before_due_nobearer_after_drop_answered_ok ++
    an_entry (event.Submit 1 Dl (0 ∷ [])) answer.Ok (line.Send (link M T Air) (flight.Air 1 1 0 (Some 0) (128 ∷ 0 ∷ 0 ∷ [])) ∷ [])
    ∷ []) ≡ holder ∷ cause ∷ []
unfolding sn window modulus distance count_for data_pdu decoded read_data read_report keystream counter_block stream_blocks report_pdu
due_nobearer_after_drop_answered_ok_is_wrong = refl

due_nobearer_after_drop_answered_ok_is_right : breaks (a_header Nea0 0 (replicate 32 0)) (before_due_nobearer_after_drop_answered_ok ++
    an_entry (event.Submit 1 Dl (0 ∷ [])) (answer.No refusal.NoBearer) []
    ∷ []) ≡ []
unfolding sn window modulus distance count_for data_pdu decoded read_data read_report keystream counter_block stream_blocks report_pdu
due_nobearer_after_drop_answered_ok_is_right = refl

-- what comes before
abbrev before_due_nobearer_after_give_answered_ok : List Entry
before_due_nobearer_after_give_answered_ok =
    an_entry (event.Add A) answer.Ok (line.Send (link M A Ctl) (flight.Ctl (rec.Addreq (a_plan 1 (Some A) []) [])) ∷ [])
    ∷ an_entry (event.Step (link M A Ctl) 0) answer.Ok (line.Note (note.Join A 1) ∷ line.Send (link A M Ctl) (flight.Ctl (rec.Addack 1)) ∷ [])
    ∷ an_entry (event.Step (link A M Ctl) 0) answer.Ok (line.Send (link M T Ctl) (flight.Ctl (rec.Reconf (a_plan 1 (Some A) []) [])) ∷ [])
    ∷ an_entry (event.Step (link M T Ctl) 0) answer.Ok (line.Send (link T M Ctl) (flight.Ctl (rec.Rcomp 1)) ∷ [])
    ∷ an_entry (event.Step (link T M Ctl) 0) answer.Ok (line.Send (link M A Ctl) (flight.Ctl (rec.Recfg 1)) ∷ line.Note note.Done ∷ [])
    ∷ an_entry (event.Step (link M A Ctl) 0) answer.Ok []
    ∷ an_entry (event.Bearer 1 S12 0 (a_shape true Scg false) 0 0) answer.Ok (line.Send (link M A Ctl) (flight.Ctl (rec.Modreq (a_plan 2 (Some A) (Set 1 S12 0 (a_shape true Scg false) 0 0 (a_key 0 (SecondKey 0)) None ∷ [])) [])) ∷ [])
    ∷ an_entry (event.Step (link M A Ctl) 0) answer.Ok (line.Note (note.Own A 1 2) ∷ line.Send (link A M Ctl) (flight.Ctl (rec.Modack 2)) ∷ [])
    ∷ an_entry (event.Step (link A M Ctl) 0) answer.Ok (line.Send (link M T Ctl) (flight.Ctl (rec.Reconf (a_plan 2 (Some A) (Set 1 S12 0 (a_shape true Scg false) 0 0 (a_key 0 (SecondKey 0)) None ∷ [])) [])) ∷ [])
    ∷ an_entry (event.Step (link M T Ctl) 0) answer.Ok (line.Note (note.Set 1 2) ∷ line.Send (link T M Ctl) (flight.Ctl (rec.Rcomp 2)) ∷ [])
    ∷ an_entry (event.Step (link T M Ctl) 0) answer.Ok (line.Send (link M A Ctl) (flight.Ctl (rec.Recfg 2)) ∷ line.Note note.Done ∷ [])
    ∷ an_entry (event.Step (link M A Ctl) 0) answer.Ok []
    ∷ an_entry (event.Reshape 1 (a_shape false Mcg false)) answer.Ok (line.Send (link M A Ctl) (flight.Ctl (rec.Modreq (a_plan 3 (Some A) (Set 1 S12 0 (a_shape false Mcg false) 0 0 (a_key 0 Master) (Some A) ∷ [])) [])) ∷ [])
    ∷ an_entry (event.Step (link M A Ctl) 0) answer.Ok (line.Note (note.Give A 1 3) ∷ line.Send (link A M Ctl) (flight.Ctl (rec.Modack 3)) ∷ line.Send (link A M Ctl) (flight.Ctl (rec.Snst (a_transfer 3 1 0 [] 0))) ∷ line.Send (link A M Tun) (flight.Tun None (52 ∷ 255 ∷ 0 ∷ 12 ∷ 0 ∷ 0 ∷ 1 ∷ 130 ∷ 0 ∷ 0 ∷ 0 ∷ 132 ∷ 2 ∷ 0 ∷ 0 ∷ 0 ∷ 0 ∷ 0 ∷ 0 ∷ 0 ∷ [])) ∷ line.Send (link A M Tun) (flight.Tun None (48 ∷ 254 ∷ 0 ∷ 0 ∷ 0 ∷ 0 ∷ 1 ∷ 130 ∷ [])) ∷ [])
    ∷ []

due_nobearer_after_give_answered_ok_is_wrong : breaks (a_header Nea0 0 (replicate 32 0)) (before_due_nobearer_after_give_answered_ok ++
    an_entry (event.Report A 1) answer.Ok []
    ∷ []) ≡ cause ∷ []
unfolding sn window modulus distance count_for data_pdu decoded read_data read_report keystream counter_block stream_blocks report_pdu
due_nobearer_after_give_answered_ok_is_wrong = refl

due_nobearer_after_give_answered_ok_is_right : breaks (a_header Nea0 0 (replicate 32 0)) (before_due_nobearer_after_give_answered_ok ++
    an_entry (event.Report A 1) (answer.No refusal.NoBearer) []
    ∷ []) ≡ []
unfolding sn window modulus distance count_for data_pdu decoded read_data read_report keystream counter_block stream_blocks report_pdu
due_nobearer_after_give_answered_ok_is_right = refl

due_nobearer_answered_ok_at_a_secondary_is_wrong : breaks (a_header Nea0 0 (replicate 32 0)) (before_c2_handed_up_at_its_submission ++
    an_entry (event.Report A 1) answer.Ok []
    ∷ []) ≡ cause ∷ []
unfolding sn window modulus distance count_for data_pdu decoded read_data read_report keystream counter_block stream_blocks report_pdu
due_nobearer_answered_ok_at_a_secondary_is_wrong = refl

due_nobearer_answered_ok_at_a_secondary_is_right : breaks (a_header Nea0 0 (replicate 32 0)) (before_c2_handed_up_at_its_submission ++
    an_entry (event.Report A 1) (answer.No refusal.NoBearer) []
    ∷ []) ≡ []
unfolding sn window modulus distance count_for data_pdu decoded read_data read_report keystream counter_block stream_blocks report_pdu
due_nobearer_answered_ok_at_a_secondary_is_right = refl

-- what comes before
abbrev before_due_nobearer_answered_ok_before_done : List Entry
before_due_nobearer_answered_ok_before_done =
    an_entry (event.Bearer 1 S12 0 (a_shape false Mcg false) 0 0) answer.Ok (line.Note (note.Own M 1 1) ∷ line.Send (link M T Ctl) (flight.Ctl (rec.Reconf (a_plan 1 None (Set 1 S12 0 (a_shape false Mcg false) 0 0 (a_key 0 Master) None ∷ [])) [])) ∷ [])
    ∷ an_entry (event.Step (link M T Ctl) 0) answer.Ok (line.Note (note.Set 1 1) ∷ line.Send (link T M Ctl) (flight.Ctl (rec.Rcomp 1)) ∷ [])
    ∷ []

due_nobearer_answered_ok_before_done_is_wrong : breaks (a_header Nea0 0 (replicate 32 0)) (before_due_nobearer_answered_ok_before_done ++
    an_entry (event.Submit 1 Dl (0 ∷ [])) answer.Ok (line.Send (link M T Air) (flight.Air 1 1 0 (Some 0) (128 ∷ 0 ∷ 0 ∷ [])) ∷ [])
    ∷ []) ≡ holder ∷ cause ∷ []
unfolding sn window modulus distance count_for data_pdu decoded read_data read_report keystream counter_block stream_blocks report_pdu
due_nobearer_answered_ok_before_done_is_wrong = refl

due_nobearer_answered_ok_before_done_is_right : breaks (a_header Nea0 0 (replicate 32 0)) (before_due_nobearer_answered_ok_before_done ++
    an_entry (event.Submit 1 Dl (0 ∷ [])) (answer.No refusal.NoBearer) []
    ∷ []) ≡ []
unfolding sn window modulus distance count_for data_pdu decoded read_data read_report keystream counter_block stream_blocks report_pdu
due_nobearer_answered_ok_before_done_is_right = refl

due_noflight_answered_ok_is_wrong : breaks (a_header Nea0 0 (replicate 32 0)) (
    an_entry (event.Step (link M T Air) 0) answer.Ok []
    ∷ []) ≡ cause ∷ []
unfolding sn window modulus distance count_for data_pdu decoded read_data read_report keystream counter_block stream_blocks report_pdu
due_noflight_answered_ok_is_wrong = refl

due_noflight_answered_ok_is_right : breaks (a_header Nea0 0 (replicate 32 0)) (
    an_entry (event.Step (link M T Air) 0) (answer.No refusal.NoFlight) []
    ∷ []) ≡ []
unfolding sn window modulus distance count_for data_pdu decoded read_data read_report keystream counter_block stream_blocks report_pdu
due_noflight_answered_ok_is_right = refl

due_nopolicy_answered_ok_is_wrong : breaks (a_header Nea0 0 (replicate 32 0)) (
    an_entry (event.Bearer 1 S12 0 (a_shape false Mcg false) 0 2) answer.Ok (line.Note (note.Own M 1 1) ∷ line.Send (link M T Ctl) (flight.Ctl (rec.Reconf (a_plan 1 None (Set 1 S12 0 (a_shape false Mcg false) 0 2 (a_key 0 Master) None ∷ [])) [])) ∷ [])
    ∷ []) ≡ cause ∷ []
unfolding sn window modulus distance count_for data_pdu decoded read_data read_report keystream counter_block stream_blocks report_pdu
due_nopolicy_answered_ok_is_wrong = refl

due_nopolicy_answered_ok_is_right : breaks (a_header Nea0 0 (replicate 32 0)) (
    an_entry (event.Bearer 1 S12 0 (a_shape false Mcg false) 0 2) (answer.No refusal.NoPolicy) []
    ∷ []) ≡ []
unfolding sn window modulus distance count_for data_pdu decoded read_data read_report keystream counter_block stream_blocks report_pdu
due_nopolicy_answered_ok_is_right = refl

due_nosecondary_answered_ok_is_wrong : breaks (a_header Nea0 0 (replicate 32 0)) (
    an_entry (event.Bearer 1 S12 0 (a_shape false Scg false) 0 0) answer.Ok []
    ∷ []) ≡ come ∷ cause ∷ unstalled ∷ []
unfolding sn window modulus distance count_for data_pdu decoded read_data read_report keystream counter_block stream_blocks report_pdu
due_nosecondary_answered_ok_is_wrong = refl

due_nosecondary_answered_ok_is_right : breaks (a_header Nea0 0 (replicate 32 0)) (
    an_entry (event.Bearer 1 S12 0 (a_shape false Scg false) 0 0) (answer.No refusal.NoSecondary) []
    ∷ []) ≡ []
unfolding sn window modulus distance count_for data_pdu decoded read_data read_report keystream counter_block stream_blocks report_pdu
due_nosecondary_answered_ok_is_right = refl

-- what comes before
abbrev before_due_nosecondary_of_scgfail_answered_ok : List Entry
before_due_nosecondary_of_scgfail_answered_ok =
    an_entry (event.Add A) answer.Ok (line.Send (link M A Ctl) (flight.Ctl (rec.Addreq (a_plan 1 (Some A) []) [])) ∷ [])
    ∷ an_entry (event.Step (link M A Ctl) 0) answer.Ok (line.Note (note.Join A 1) ∷ line.Send (link A M Ctl) (flight.Ctl (rec.Addack 1)) ∷ [])
    ∷ an_entry (event.Step (link A M Ctl) 0) answer.Ok (line.Send (link M T Ctl) (flight.Ctl (rec.Reconf (a_plan 1 (Some A) []) [])) ∷ [])
    ∷ []

due_nosecondary_of_scgfail_answered_ok_is_wrong : breaks (a_header Nea0 0 (replicate 32 0)) (before_due_nosecondary_of_scgfail_answered_ok ++
    an_entry (event.ScgFail) answer.Ok (line.Send (link T M Ctl) (flight.Ctl (rec.Scgf [])) ∷ [])
    ∷ []) ≡ cause ∷ []
unfolding sn window modulus distance count_for data_pdu decoded read_data read_report keystream counter_block stream_blocks report_pdu
due_nosecondary_of_scgfail_answered_ok_is_wrong = refl

due_nosecondary_of_scgfail_answered_ok_is_right : breaks (a_header Nea0 0 (replicate 32 0)) (before_due_nosecondary_of_scgfail_answered_ok ++
    an_entry (event.ScgFail) (answer.No refusal.NoSecondary) []
    ∷ []) ≡ []
unfolding sn window modulus distance count_for data_pdu decoded read_data read_report keystream counter_block stream_blocks report_pdu
due_nosecondary_of_scgfail_answered_ok_is_right = refl

due_nosecondary_of_want_answered_ok_is_wrong : breaks (a_header Nea0 0 (replicate 32 0)) (before_counter_does_not_begin_at_used ++
    an_entry (event.Ask B want.Rekey) answer.Ok (line.Send (link B M Ctl) (flight.Ctl (rec.Modrqd)) ∷ [])
    ∷ []) ≡ cause ∷ []
unfolding sn window modulus distance count_for data_pdu decoded read_data read_report keystream counter_block stream_blocks report_pdu
due_nosecondary_of_want_answered_ok_is_wrong = refl

due_nosecondary_of_want_answered_ok_is_right : breaks (a_header Nea0 0 (replicate 32 0)) (before_counter_does_not_begin_at_used ++
    an_entry (event.Ask B want.Rekey) (answer.No refusal.NoSecondary) []
    ∷ []) ≡ []
unfolding sn window modulus distance count_for data_pdu decoded read_data read_report keystream counter_block stream_blocks report_pdu
due_nosecondary_of_want_answered_ok_is_right = refl

-- what comes before
abbrev before_due_notfirst_answered_ok : List Entry
before_due_notfirst_answered_ok =
    an_entry (event.Add A) answer.Ok (line.Send (link M A Ctl) (flight.Ctl (rec.Addreq (a_plan 1 (Some A) []) [])) ∷ [])
    ∷ an_entry (event.Step (link M A Ctl) 0) answer.Ok (line.Note (note.Join A 1) ∷ line.Send (link A M Ctl) (flight.Ctl (rec.Addack 1)) ∷ [])
    ∷ an_entry (event.Step (link A M Ctl) 0) answer.Ok (line.Send (link M T Ctl) (flight.Ctl (rec.Reconf (a_plan 1 (Some A) []) [])) ∷ [])
    ∷ an_entry (event.Step (link M T Ctl) 0) answer.Ok (line.Send (link T M Ctl) (flight.Ctl (rec.Rcomp 1)) ∷ [])
    ∷ an_entry (event.Step (link T M Ctl) 0) answer.Ok (line.Send (link M A Ctl) (flight.Ctl (rec.Recfg 1)) ∷ line.Note note.Done ∷ [])
    ∷ an_entry (event.Step (link M A Ctl) 0) answer.Ok []
    ∷ an_entry (event.Bearer 1 S12 0 (a_shape true Scg false) 0 0) answer.Ok (line.Send (link M A Ctl) (flight.Ctl (rec.Modreq (a_plan 2 (Some A) (Set 1 S12 0 (a_shape true Scg false) 0 0 (a_key 0 (SecondKey 0)) None ∷ [])) [])) ∷ [])
    ∷ an_entry (event.Step (link M A Ctl) 0) answer.Ok (line.Note (note.Own A 1 2) ∷ line.Send (link A M Ctl) (flight.Ctl (rec.Modack 2)) ∷ [])
    ∷ an_entry (event.Step (link A M Ctl) 0) answer.Ok (line.Send (link M T Ctl) (flight.Ctl (rec.Reconf (a_plan 2 (Some A) (Set 1 S12 0 (a_shape true Scg false) 0 0 (a_key 0 (SecondKey 0)) None ∷ [])) [])) ∷ [])
    ∷ an_entry (event.Step (link M T Ctl) 0) answer.Ok (line.Note (note.Set 1 2) ∷ line.Send (link T M Ctl) (flight.Ctl (rec.Rcomp 2)) ∷ [])
    ∷ an_entry (event.Step (link T M Ctl) 0) answer.Ok (line.Send (link M A Ctl) (flight.Ctl (rec.Recfg 2)) ∷ line.Note note.Done ∷ [])
    ∷ an_entry (event.Step (link M A Ctl) 0) answer.Ok []
    ∷ an_entry (event.Submit 1 Dl (170 ∷ [])) answer.Ok (line.Send (link M A Feed) (flight.Sdu 1 2 (170 ∷ [])) ∷ [])
    ∷ an_entry (event.Submit 1 Dl (187 ∷ [])) answer.Ok (line.Send (link M A Feed) (flight.Sdu 1 2 (187 ∷ [])) ∷ [])
    ∷ []

due_notfirst_answered_ok_is_wrong : breaks (a_header Nea0 0 (replicate 32 0)) (before_due_notfirst_answered_ok ++
    an_entry (event.Step (link M A Feed) 1) answer.Ok (line.Send (link A T Air) (flight.Air 1 2 0 (Some 1) (128 ∷ 1 ∷ 187 ∷ [])) ∷ [])
    ∷ []) ≡ come ∷ cause ∷ []
unfolding sn window modulus distance count_for data_pdu decoded read_data read_report keystream counter_block stream_blocks report_pdu
due_notfirst_answered_ok_is_wrong = refl

due_notfirst_answered_ok_is_right : breaks (a_header Nea0 0 (replicate 32 0)) (before_due_notfirst_answered_ok ++
    an_entry (event.Step (link M A Feed) 1) (answer.No refusal.NotFirst) []
    ∷ []) ≡ []
unfolding sn window modulus distance count_for data_pdu decoded read_data read_report keystream counter_block stream_blocks report_pdu
due_notfirst_answered_ok_is_right = refl

due_nottunnel_answered_noflight_is_wrong : breaks (a_header Nea0 0 (replicate 32 0)) (
    an_entry (event.Again (link M T Air) 0) (answer.No refusal.NoFlight) []
    ∷ []) ≡ cause ∷ []
unfolding sn window modulus distance count_for data_pdu decoded read_data read_report keystream counter_block stream_blocks report_pdu
due_nottunnel_answered_noflight_is_wrong = refl

due_nottunnel_answered_noflight_is_right : breaks (a_header Nea0 0 (replicate 32 0)) (
    an_entry (event.Again (link M T Air) 0) (answer.No refusal.NotTunnel) []
    ∷ []) ≡ []
unfolding sn window modulus distance count_for data_pdu decoded read_data read_report keystream counter_block stream_blocks report_pdu
due_nottunnel_answered_noflight_is_right = refl

due_nottunnel_answered_ok_is_wrong : breaks (a_header Nea0 0 (replicate 32 0)) (before_c1_up_line_with_an_altered_payload ++
    an_entry (event.Lose (link M T Air) 0) answer.Ok []
    ∷ []) ≡ cause ∷ []
unfolding sn window modulus distance count_for data_pdu decoded read_data read_report keystream counter_block stream_blocks report_pdu
due_nottunnel_answered_ok_is_wrong = refl

due_nottunnel_answered_ok_is_right : breaks (a_header Nea0 0 (replicate 32 0)) (before_c1_up_line_with_an_altered_payload ++
    an_entry (event.Lose (link M T Air) 0) (answer.No refusal.NotTunnel) []
    ∷ []) ≡ []
unfolding sn window modulus distance count_for data_pdu decoded read_data read_report keystream counter_block stream_blocks report_pdu
due_nottunnel_answered_ok_is_right = refl

-- what comes before
abbrev before_due_relcnf_0_missing : List Entry
before_due_relcnf_0_missing =
    an_entry (event.Add A) answer.Ok (line.Send (link M A Ctl) (flight.Ctl (rec.Addreq (a_plan 1 (Some A) []) [])) ∷ [])
    ∷ an_entry (event.Step (link M A Ctl) 0) answer.Ok (line.Note (note.Join A 1) ∷ line.Send (link A M Ctl) (flight.Ctl (rec.Addack 1)) ∷ [])
    ∷ an_entry (event.Step (link A M Ctl) 0) answer.Ok (line.Send (link M T Ctl) (flight.Ctl (rec.Reconf (a_plan 1 (Some A) []) [])) ∷ [])
    ∷ an_entry (event.Step (link M T Ctl) 0) answer.Ok (line.Send (link T M Ctl) (flight.Ctl (rec.Rcomp 1)) ∷ [])
    ∷ an_entry (event.Step (link T M Ctl) 0) answer.Ok (line.Send (link M A Ctl) (flight.Ctl (rec.Recfg 1)) ∷ line.Note note.Done ∷ [])
    ∷ an_entry (event.Step (link M A Ctl) 0) answer.Ok []
    ∷ an_entry (event.Ask A want.Release) answer.Ok (line.Send (link A M Ctl) (flight.Ctl (rec.Relrqd)) ∷ [])
    ∷ an_entry (event.Release) answer.Ok (line.Send (link M A Ctl) (flight.Ctl (rec.Relreq (a_plan 2 None []))) ∷ [])
    ∷ an_entry (event.Step (link M A Ctl) 0) answer.Ok (line.Note (note.Leave A 2) ∷ line.Send (link A M Ctl) (flight.Ctl (rec.Relack 2)) ∷ [])
    ∷ an_entry (event.Step (link A M Ctl) 0) answer.Ok []
    ∷ an_entry (event.Step (link A M Ctl) 0) answer.Ok (line.Send (link M T Ctl) (flight.Ctl (rec.Reconf (a_plan 2 None []) [])) ∷ [])
    ∷ an_entry (event.Step (link M T Ctl) 0) answer.Ok (line.Send (link T M Ctl) (flight.Ctl (rec.Rcomp 2)) ∷ [])
    ∷ []

due_relcnf_0_missing_is_wrong : breaks (a_header Nea0 0 (replicate 32 0)) (before_due_relcnf_0_missing ++
    an_entry (event.Step (link T M Ctl) 0) answer.Ok (line.Send (link M A Ctl) (flight.Ctl (rec.Uecr 2)) ∷ line.Note note.Done ∷ [])
    ∷ []) ≡ replied ∷ []
unfolding sn window modulus distance count_for data_pdu decoded read_data read_report keystream counter_block stream_blocks report_pdu
due_relcnf_0_missing_is_wrong = refl

due_relcnf_0_missing_is_right : breaks (a_header Nea0 0 (replicate 32 0)) (before_due_relcnf_0_missing ++
    an_entry (event.Step (link T M Ctl) 0) answer.Ok (line.Send (link M A Ctl) (flight.Ctl (rec.Uecr 2)) ∷ line.Note note.Done ∷ line.Send (link M A Ctl) (flight.Ctl (rec.Relcnf (a_plan 0 None []))) ∷ [])
    ∷ []) ≡ []
unfolding sn window modulus distance count_for data_pdu decoded read_data read_report keystream counter_block stream_blocks report_pdu
due_relcnf_0_missing_is_right = refl
