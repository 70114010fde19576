-- What wrong transcripts break, and that their right neighbours break nothing: by computing.
use Rattle.std.specs.Prelude.{◌≡◌, ◌++◌, ℕ, Bool, true, false, List, [], ◌∷◌, replicate, Option, Some, None}
use Rattle.std.proofs.Common.{refl}
use Rattle.dc_base.specs.declared.numbers.SnLen.TheVariants.{S12, S18}
use Rattle.dc_base.specs.declared.nodes.Alg.TheVariants.{Nea0, Nea2}
use Rattle.dc_base.specs.declared.nodes.Node.TheVariants.{T, M, A, B}
use Rattle.dc_base.specs.declared.nodes.Class.TheVariants.{Ctl, Feed, Air, Tun}
use Rattle.dc_base.specs.declared.nodes.Dir.TheVariants.{Ul, Dl}
use Rattle.dc_base.specs.declared.nodes.Cell.TheVariants as cell
use Rattle.dc_base.specs.declared.nodes.LegSet.TheVariants.{Mcg, Scg, Split}
use Rattle.dc_base.specs.declared.nodes.Side.TheVariants.{Master, Second as SecondKey}
use Rattle.dc_base.specs.declared.nodes.Want.TheVariants as want
use Rattle.dc_base.specs.declared.flights.Flight.TheVariants as flight
use Rattle.dc_base.specs.declared.records.Item.TheVariants.{Set, Unset}
use Rattle.dc_base.specs.declared.records.Rec.TheVariants as rec
use Rattle.dc_base.specs.declared.answers.Word.TheVariants as word
use Rattle.dc_base.specs.declared.answers.Refusal.TheVariants as refusal
use Rattle.dc_base.specs.declared.answers.Answer.TheVariants as answer
use Rattle.dc_base.specs.declared.events.Event.TheVariants as event
use Rattle.dc_base.specs.declared.events.Note.TheVariants as note
use Rattle.dc_base.specs.declared.events.Line.TheVariants as line
use Rattle.transcript.specs.Transcript.{Entry}
use Rattle.dc_base.specs.Links.{link}
use Rattle.claims.specs.Writing.{a_shape, a_key, a_plan, a_transfer, a_header, an_entry}
use Rattle.claims.specs.Names.{all_of_it, carried, cause, come, drained, holder, licensed, numbered, one_use, placed, planned, protected, replied, told, breaks}
use Rattle.dc_base.specs.Count.{modulus, window, sn, distance, count_for}
use Rattle.nea2.specs.Keystream.{keystream, counter_block, stream_blocks}
use Rattle.pdcp_pdu.specs.DataPdu.{data_pdu}
use Rattle.pdcp_pdu.specs.Pdu.{decoded, read_data, read_report}
use Rattle.pdcp_pdu.specs.StatusReport.{report_pdu}

-- what comes before
abbrev before_due_relrej_accepted : List Entry
before_due_relrej_accepted =
    an_entry (event.Add A) answer.Ok (line.Send (link M A Ctl) (flight.Ctl (rec.Addreq (a_plan 1 (Some A) []) [])) ∷ [])
    ∷ an_entry (event.Step (link M A Ctl) 0) answer.Ok (line.Note (note.Join A 1) ∷ line.Send (link A M Ctl) (flight.Ctl (rec.Addack 1)) ∷ [])
    ∷ an_entry (event.Step (link A M Ctl) 0) answer.Ok (line.Send (link M T Ctl) (flight.Ctl (rec.Reconf (a_plan 1 (Some A) []) [])) ∷ [])
    ∷ an_entry (event.Step (link M T Ctl) 0) answer.Ok (line.Send (link T M Ctl) (flight.Ctl (rec.Rcomp 1)) ∷ [])
    ∷ an_entry (event.Step (link T M Ctl) 0) answer.Ok (line.Send (link M A Ctl) (flight.Ctl (rec.Recfg 1)) ∷ line.Note note.Done ∷ [])
    ∷ an_entry (event.Step (link M A Ctl) 0) answer.Ok []
    ∷ an_entry (event.Deny A true) answer.Ok []
    ∷ an_entry (event.Release) answer.Ok (line.Send (link M A Ctl) (flight.Ctl (rec.Relreq (a_plan 2 None []))) ∷ [])
    ∷ []

due_relrej_accepted_is_wrong : breaks (a_header Nea0 0 (replicate 32 0)) (before_due_relrej_accepted ++
    an_entry (event.Step (link M A Ctl) 0) answer.Ok (line.Note (note.Leave A 2) ∷ line.Send (link A M Ctl) (flight.Ctl (rec.Relack 2)) ∷ [])
    ∷ []) ≡ licensed ∷ placed ∷ replied ∷ []
unfolding sn window modulus distance count_for data_pdu decoded read_data read_report keystream counter_block stream_blocks report_pdu
due_relrej_accepted_is_wrong = refl

due_relrej_accepted_is_right : breaks (a_header Nea0 0 (replicate 32 0)) (before_due_relrej_accepted ++
    an_entry (event.Step (link M A Ctl) 0) answer.Ok (line.Send (link A M Ctl) (flight.Ctl (rec.Relrej 2)) ∷ [])
    ∷ []) ≡ []
unfolding sn window modulus distance count_for data_pdu decoded read_data read_report keystream counter_block stream_blocks report_pdu
due_relrej_accepted_is_right = refl

-- what comes before
abbrev before_due_rootused_after_a_rejected_rekey_answered_ok : List Entry
before_due_rootused_after_a_rejected_rekey_answered_ok =
    an_entry (event.Add A) answer.Ok (line.Send (link M A Ctl) (flight.Ctl (rec.Addreq (a_plan 1 (Some A) []) [])) ∷ [])
    ∷ an_entry (event.Step (link M A Ctl) 0) answer.Ok (line.Note (note.Join A 1) ∷ line.Send (link A M Ctl) (flight.Ctl (rec.Addack 1)) ∷ [])
    ∷ an_entry (event.Step (link A M Ctl) 0) answer.Ok (line.Send (link M T Ctl) (flight.Ctl (rec.Reconf (a_plan 1 (Some A) []) [])) ∷ [])
    ∷ an_entry (event.Step (link M T Ctl) 0) answer.Ok (line.Send (link T M Ctl) (flight.Ctl (rec.Rcomp 1)) ∷ [])
    ∷ an_entry (event.Step (link T M Ctl) 0) answer.Ok (line.Send (link M A Ctl) (flight.Ctl (rec.Recfg 1)) ∷ line.Note note.Done ∷ [])
    ∷ an_entry (event.Step (link M A Ctl) 0) answer.Ok []
    ∷ an_entry (event.Deny A true) answer.Ok []
    ∷ an_entry (event.RekeyMaster (replicate 32 17)) answer.Ok (line.Send (link M A Ctl) (flight.Ctl (rec.Modreq (a_plan 2 (Some A) []) [])) ∷ [])
    ∷ an_entry (event.Step (link M A Ctl) 0) answer.Ok (line.Send (link A M Ctl) (flight.Ctl (rec.Modrej 2)) ∷ [])
    ∷ an_entry (event.Step (link A M Ctl) 0) answer.Ok (line.Note note.Rejected ∷ [])
    ∷ []

due_rootused_after_a_rejected_rekey_answered_ok_is_wrong : breaks (a_header Nea0 0 (replicate 32 0)) (before_due_rootused_after_a_rejected_rekey_answered_ok ++
    an_entry (event.RekeyMaster (replicate 32 17)) answer.Ok (line.Send (link M A Ctl) (flight.Ctl (rec.Modreq (a_plan 3 (Some A) []) [])) ∷ [])
    ∷ []) ≡ cause ∷ []
unfolding sn window modulus distance count_for data_pdu decoded read_data read_report keystream counter_block stream_blocks report_pdu
due_rootused_after_a_rejected_rekey_answered_ok_is_wrong = refl

due_rootused_after_a_rejected_rekey_answered_ok_is_right : breaks (a_header Nea0 0 (replicate 32 0)) (before_due_rootused_after_a_rejected_rekey_answered_ok ++
    an_entry (event.RekeyMaster (replicate 32 17)) (answer.No refusal.RootUsed) []
    ∷ []) ≡ []
unfolding sn window modulus distance count_for data_pdu decoded read_data read_report keystream counter_block stream_blocks report_pdu
due_rootused_after_a_rejected_rekey_answered_ok_is_right = refl

-- what comes before
abbrev before_due_rootused_answered_ok : List Entry
before_due_rootused_answered_ok =
    an_entry (event.Bearer 1 S12 0 (a_shape false Mcg false) 0 0) answer.Ok (line.Note (note.Own M 1 1) ∷ line.Send (link M T Ctl) (flight.Ctl (rec.Reconf (a_plan 1 None (Set 1 S12 0 (a_shape false Mcg false) 0 0 (a_key 0 Master) None ∷ [])) [])) ∷ [])
    ∷ an_entry (event.Step (link M T Ctl) 0) answer.Ok (line.Note (note.Set 1 1) ∷ line.Send (link T M Ctl) (flight.Ctl (rec.Rcomp 1)) ∷ [])
    ∷ an_entry (event.Step (link T M Ctl) 0) answer.Ok (line.Note note.Done ∷ [])
    ∷ []

due_rootused_answered_ok_is_wrong : breaks (a_header Nea0 0 (replicate 32 0)) (before_due_rootused_answered_ok ++
    an_entry (event.RekeyMaster (replicate 32 0)) answer.Ok (line.Note (note.Own M 1 2) ∷ line.Send (link M T Ctl) (flight.Ctl (rec.Reconf (a_plan 2 None (Set 1 S12 0 (a_shape false Mcg false) 0 0 (a_key 1 Master) (Some M) ∷ [])) [])) ∷ [])
    ∷ []) ≡ cause ∷ []
unfolding sn window modulus distance count_for data_pdu decoded read_data read_report keystream counter_block stream_blocks report_pdu
due_rootused_answered_ok_is_wrong = refl

due_rootused_answered_ok_is_right : breaks (a_header Nea0 0 (replicate 32 0)) (before_due_rootused_answered_ok ++
    an_entry (event.RekeyMaster (replicate 32 0)) (answer.No refusal.RootUsed) []
    ∷ []) ≡ []
unfolding sn window modulus distance count_for data_pdu decoded read_data read_report keystream counter_block stream_blocks report_pdu
due_rootused_answered_ok_is_right = refl

-- what comes before
abbrev before_due_sameshape_answered_ok : List Entry
before_due_sameshape_answered_ok =
    an_entry (event.Bearer 1 S12 0 (a_shape false Mcg false) 0 0) answer.Ok (line.Note (note.Own M 1 1) ∷ line.Send (link M T Ctl) (flight.Ctl (rec.Reconf (a_plan 1 None (Set 1 S12 0 (a_shape false Mcg false) 0 0 (a_key 0 Master) None ∷ [])) [])) ∷ [])
    ∷ an_entry (event.Step (link M T Ctl) 0) answer.Ok (line.Note (note.Set 1 1) ∷ line.Send (link T M Ctl) (flight.Ctl (rec.Rcomp 1)) ∷ [])
    ∷ an_entry (event.Step (link T M Ctl) 0) answer.Ok (line.Note note.Done ∷ [])
    ∷ an_entry (event.Add A) answer.Ok (line.Send (link M A Ctl) (flight.Ctl (rec.Addreq (a_plan 2 (Some A) []) [])) ∷ [])
    ∷ an_entry (event.Step (link M A Ctl) 0) answer.Ok (line.Note (note.Join A 2) ∷ line.Send (link A M Ctl) (flight.Ctl (rec.Addack 2)) ∷ [])
    ∷ an_entry (event.Step (link A M Ctl) 0) answer.Ok (line.Send (link M T Ctl) (flight.Ctl (rec.Reconf (a_plan 2 (Some A) []) [])) ∷ [])
    ∷ an_entry (event.Step (link M T Ctl) 0) answer.Ok (line.Send (link T M Ctl) (flight.Ctl (rec.Rcomp 2)) ∷ [])
    ∷ an_entry (event.Step (link T M Ctl) 0) answer.Ok (line.Send (link M A Ctl) (flight.Ctl (rec.Recfg 2)) ∷ line.Note note.Done ∷ [])
    ∷ an_entry (event.Step (link M A Ctl) 0) answer.Ok []
    ∷ []

due_sameshape_answered_ok_is_wrong : breaks (a_header Nea0 0 (replicate 32 0)) (before_due_sameshape_answered_ok ++
    an_entry (event.Reshape 1 (a_shape false Mcg false)) answer.Ok (line.Send (link M A Ctl) (flight.Ctl (rec.Modreq (a_plan 3 (Some A) (Set 1 S12 0 (a_shape false Mcg false) 0 0 (a_key 0 Master) (Some M) ∷ [])) [])) ∷ [])
    ∷ []) ≡ cause ∷ []
unfolding sn window modulus distance count_for data_pdu decoded read_data read_report keystream counter_block stream_blocks report_pdu
due_sameshape_answered_ok_is_wrong = refl

due_sameshape_answered_ok_is_right : breaks (a_header Nea0 0 (replicate 32 0)) (before_due_sameshape_answered_ok ++
    an_entry (event.Reshape 1 (a_shape false Mcg false)) (answer.No refusal.SameShape) []
    ∷ []) ≡ []
unfolding sn window modulus distance count_for data_pdu decoded read_data read_report keystream counter_block stream_blocks report_pdu
due_sameshape_answered_ok_is_right = refl

-- what comes before
abbrev before_due_secondarythere_answered_ok : List Entry
before_due_secondarythere_answered_ok =
    an_entry (event.Add A) answer.Ok (line.Send (link M A Ctl) (flight.Ctl (rec.Addreq (a_plan 1 (Some A) []) [])) ∷ [])
    ∷ an_entry (event.Step (link M A Ctl) 0) answer.Ok (line.Note (note.Join A 1) ∷ line.Send (link A M Ctl) (flight.Ctl (rec.Addack 1)) ∷ [])
    ∷ an_entry (event.Step (link A M Ctl) 0) answer.Ok (line.Send (link M T Ctl) (flight.Ctl (rec.Reconf (a_plan 1 (Some A) []) [])) ∷ [])
    ∷ an_entry (event.Step (link M T Ctl) 0) answer.Ok (line.Send (link T M Ctl) (flight.Ctl (rec.Rcomp 1)) ∷ [])
    ∷ an_entry (event.Step (link T M Ctl) 0) answer.Ok (line.Send (link M A Ctl) (flight.Ctl (rec.Recfg 1)) ∷ line.Note note.Done ∷ [])
    ∷ an_entry (event.Step (link M A Ctl) 0) answer.Ok []
    ∷ []

due_secondarythere_answered_ok_is_wrong : breaks (a_header Nea0 0 (replicate 32 0)) (before_due_secondarythere_answered_ok ++
    an_entry (event.Add B) answer.Ok (line.Send (link M B Ctl) (flight.Ctl (rec.Addreq (a_plan 2 (Some B) []) [])) ∷ [])
    ∷ []) ≡ cause ∷ []
unfolding sn window modulus distance count_for data_pdu decoded read_data read_report keystream counter_block stream_blocks report_pdu
due_secondarythere_answered_ok_is_wrong = refl

due_secondarythere_answered_ok_is_right : breaks (a_header Nea0 0 (replicate 32 0)) (before_due_secondarythere_answered_ok ++
    an_entry (event.Add B) (answer.No refusal.SecondaryThere) []
    ∷ []) ≡ []
unfolding sn window modulus distance count_for data_pdu decoded read_data read_report keystream counter_block stream_blocks report_pdu
due_secondarythere_answered_ok_is_right = refl

-- what comes before
abbrev before_end_marker_twice : List Entry
before_end_marker_twice =
    an_entry (event.Bearer 1 S12 0 (a_shape false Mcg false) 0 0) answer.Ok (line.Note (note.Own M 1 1) ∷ line.Send (link M T Ctl) (flight.Ctl (rec.Reconf (a_plan 1 None (Set 1 S12 0 (a_shape false Mcg false) 0 0 (a_key 0 Master) None ∷ [])) [])) ∷ [])
    ∷ an_entry (event.Step (link M T Ctl) 0) answer.Ok (line.Note (note.Set 1 1) ∷ line.Send (link T M Ctl) (flight.Ctl (rec.Rcomp 1)) ∷ [])
    ∷ an_entry (event.Step (link T M Ctl) 0) answer.Ok (line.Note note.Done ∷ [])
    ∷ an_entry (event.Add A) answer.Ok (line.Send (link M A Ctl) (flight.Ctl (rec.Addreq (a_plan 2 (Some A) []) [])) ∷ [])
    ∷ an_entry (event.Step (link M A Ctl) 0) answer.Ok (line.Note (note.Join A 2) ∷ line.Send (link A M Ctl) (flight.Ctl (rec.Addack 2)) ∷ [])
    ∷ an_entry (event.Step (link A M Ctl) 0) answer.Ok (line.Send (link M T Ctl) (flight.Ctl (rec.Reconf (a_plan 2 (Some A) []) [])) ∷ [])
    ∷ an_entry (event.Step (link M T Ctl) 0) answer.Ok (line.Send (link T M Ctl) (flight.Ctl (rec.Rcomp 2)) ∷ [])
    ∷ an_entry (event.Step (link T M Ctl) 0) answer.Ok (line.Send (link M A Ctl) (flight.Ctl (rec.Recfg 2)) ∷ line.Note note.Done ∷ [])
    ∷ an_entry (event.Reshape 1 (a_shape true Scg false)) answer.Ok (line.Send (link M A Ctl) (flight.Ctl (rec.Modreq (a_plan 3 (Some A) (Set 1 S12 0 (a_shape true Scg false) 0 0 (a_key 0 (SecondKey 0)) (Some M) ∷ [])) [])) ∷ [])
    ∷ an_entry (event.Step (link M A Ctl) 0) answer.Ok []
    ∷ an_entry (event.Step (link M A Ctl) 0) answer.Ok (line.Send (link A M Ctl) (flight.Ctl (rec.Modack 3)) ∷ [])
    ∷ []

end_marker_twice_is_wrong : breaks (a_header Nea0 0 (replicate 32 0)) (before_end_marker_twice ++
    an_entry (event.Step (link A M Ctl) 0) answer.Ok (line.Note (note.Give M 1 3) ∷ line.Send (link M T Ctl) (flight.Ctl (rec.Reconf (a_plan 3 (Some A) (Set 1 S12 0 (a_shape true Scg false) 0 0 (a_key 0 (SecondKey 0)) (Some M) ∷ [])) [])) ∷ line.Send (link M A Ctl) (flight.Ctl (rec.Snst (a_transfer 3 1 0 [] 0))) ∷ line.Send (link M A Tun) (flight.Tun None (52 ∷ 255 ∷ 0 ∷ 12 ∷ 0 ∷ 0 ∷ 1 ∷ 129 ∷ 0 ∷ 0 ∷ 0 ∷ 132 ∷ 2 ∷ 0 ∷ 0 ∷ 0 ∷ 0 ∷ 0 ∷ 0 ∷ 0 ∷ [])) ∷ line.Send (link M A Tun) (flight.Tun None (48 ∷ 254 ∷ 0 ∷ 0 ∷ 0 ∷ 0 ∷ 1 ∷ 129 ∷ [])) ∷ line.Send (link M A Tun) (flight.Tun None (48 ∷ 254 ∷ 0 ∷ 0 ∷ 0 ∷ 0 ∷ 1 ∷ 129 ∷ [])) ∷ line.Send (link M A Tun) (flight.Tun None (52 ∷ 255 ∷ 0 ∷ 12 ∷ 0 ∷ 0 ∷ 1 ∷ 130 ∷ 0 ∷ 0 ∷ 0 ∷ 132 ∷ 2 ∷ 0 ∷ 0 ∷ 0 ∷ 0 ∷ 0 ∷ 0 ∷ 0 ∷ [])) ∷ line.Send (link M A Tun) (flight.Tun None (48 ∷ 254 ∷ 0 ∷ 0 ∷ 0 ∷ 0 ∷ 1 ∷ 130 ∷ [])) ∷ [])
    ∷ []) ≡ licensed ∷ []
unfolding sn window modulus distance count_for data_pdu decoded read_data read_report keystream counter_block stream_blocks report_pdu
end_marker_twice_is_wrong = refl

end_marker_twice_is_right : breaks (a_header Nea0 0 (replicate 32 0)) (before_end_marker_twice ++
    an_entry (event.Step (link A M Ctl) 0) answer.Ok (line.Note (note.Give M 1 3) ∷ line.Send (link M T Ctl) (flight.Ctl (rec.Reconf (a_plan 3 (Some A) (Set 1 S12 0 (a_shape true Scg false) 0 0 (a_key 0 (SecondKey 0)) (Some M) ∷ [])) [])) ∷ line.Send (link M A Ctl) (flight.Ctl (rec.Snst (a_transfer 3 1 0 [] 0))) ∷ line.Send (link M A Tun) (flight.Tun None (52 ∷ 255 ∷ 0 ∷ 12 ∷ 0 ∷ 0 ∷ 1 ∷ 129 ∷ 0 ∷ 0 ∷ 0 ∷ 132 ∷ 2 ∷ 0 ∷ 0 ∷ 0 ∷ 0 ∷ 0 ∷ 0 ∷ 0 ∷ [])) ∷ line.Send (link M A Tun) (flight.Tun None (48 ∷ 254 ∷ 0 ∷ 0 ∷ 0 ∷ 0 ∷ 1 ∷ 129 ∷ [])) ∷ line.Send (link M A Tun) (flight.Tun None (52 ∷ 255 ∷ 0 ∷ 12 ∷ 0 ∷ 0 ∷ 1 ∷ 130 ∷ 0 ∷ 0 ∷ 0 ∷ 132 ∷ 2 ∷ 0 ∷ 0 ∷ 0 ∷ 0 ∷ 0 ∷ 0 ∷ 0 ∷ [])) ∷ line.Send (link M A Tun) (flight.Tun None (48 ∷ 254 ∷ 0 ∷ 0 ∷ 0 ∷ 0 ∷ 1 ∷ 130 ∷ [])) ∷ [])
    ∷ []) ≡ []
unfolding sn window modulus distance count_for data_pdu decoded read_data read_report keystream counter_block stream_blocks report_pdu
end_marker_twice_is_right = refl

-- what comes before
abbrev before_end_missing : List Entry
before_end_missing =
    an_entry (event.Add A) answer.Ok (line.Send (link M A Ctl) (flight.Ctl (rec.Addreq (a_plan 1 (Some A) []) [])) ∷ [])
    ∷ an_entry (event.Step (link M A Ctl) 0) answer.Ok (line.Note (note.Join A 1) ∷ line.Send (link A M Ctl) (flight.Ctl (rec.Addack 1)) ∷ [])
    ∷ an_entry (event.Step (link A M Ctl) 0) answer.Ok (line.Send (link M T Ctl) (flight.Ctl (rec.Reconf (a_plan 1 (Some A) []) [])) ∷ [])
    ∷ an_entry (event.Step (link M T Ctl) 0) answer.Ok (line.Send (link T M Ctl) (flight.Ctl (rec.Rcomp 1)) ∷ [])
    ∷ an_entry (event.Step (link T M Ctl) 0) answer.Ok (line.Send (link M A Ctl) (flight.Ctl (rec.Recfg 1)) ∷ line.Note note.Done ∷ [])
    ∷ an_entry (event.Step (link M A Ctl) 0) answer.Ok []
    ∷ an_entry (event.Bearer 1 S12 0 (a_shape true Scg false) 0 0) answer.Ok (line.Send (link M A Ctl) (flight.Ctl (rec.Modreq (a_plan 2 (Some A) (Set 1 S12 0 (a_shape true Scg false) 0 0 (a_key 0 (SecondKey 0)) None ∷ [])) [])) ∷ [])
    ∷ an_entry (event.Step (link M A Ctl) 0) answer.Ok (line.Note (note.Own A 1 2) ∷ line.Send (link A M Ctl) (flight.Ctl (rec.Modack 2)) ∷ [])
    ∷ an_entry (event.Step (link A M Ctl) 0) answer.Ok (line.Send (link M T Ctl) (flight.Ctl (rec.Reconf (a_plan 2 (Some A) (Set 1 S12 0 (a_shape true Scg false) 0 0 (a_key 0 (SecondKey 0)) None ∷ [])) [])) ∷ [])
    ∷ an_entry (event.Step (link M T Ctl) 0) answer.Ok (line.Note (note.Set 1 2) ∷ line.Send (link T M Ctl) (flight.Ctl (rec.Rcomp 2)) ∷ [])
    ∷ an_entry (event.Step (link T M Ctl) 0) answer.Ok (line.Send (link M A Ctl) (flight.Ctl (rec.Recfg 2)) ∷ line.Note note.Done ∷ [])
    ∷ an_entry (event.Step (link M A Ctl) 0) answer.Ok []
    ∷ an_entry (event.Reshape 1 (a_shape false Mcg false)) answer.Ok (line.Send (link M A Ctl) (flight.Ctl (rec.Modreq (a_plan 3 (Some A) (Set 1 S12 0 (a_shape false Mcg false) 0 0 (a_key 0 Master) (Some A) ∷ [])) [])) ∷ [])
    ∷ an_entry (event.Step (link M A Ctl) 0) answer.Ok (line.Note (note.Give A 1 3) ∷ line.Send (link A M Ctl) (flight.Ctl (rec.Modack 3)) ∷ line.Send (link A M Ctl) (flight.Ctl (rec.Snst (a_transfer 3 1 0 [] 0))) ∷ line.Send (link A M Tun) (flight.Tun None (52 ∷ 255 ∷ 0 ∷ 12 ∷ 0 ∷ 0 ∷ 1 ∷ 130 ∷ 0 ∷ 0 ∷ 0 ∷ 132 ∷ 2 ∷ 0 ∷ 0 ∷ 0 ∷ 0 ∷ 0 ∷ 0 ∷ 0 ∷ [])) ∷ line.Send (link A M Tun) (flight.Tun None (48 ∷ 254 ∷ 0 ∷ 0 ∷ 0 ∷ 0 ∷ 1 ∷ 130 ∷ [])) ∷ [])
    ∷ []

end_missing_is_wrong : breaks (a_header Nea0 0 (replicate 32 0)) (before_end_missing ++
    an_entry (event.Step (link A M Ctl) 0) answer.Ok (line.Send (link M T Ctl) (flight.Ctl (rec.Reconf (a_plan 3 (Some A) (Set 1 S12 0 (a_shape false Mcg false) 0 0 (a_key 0 Master) (Some A) ∷ [])) [])) ∷ [])
    ∷ []) ≡ come ∷ []
unfolding sn window modulus distance count_for data_pdu decoded read_data read_report keystream counter_block stream_blocks report_pdu
end_missing_is_wrong = refl

end_missing_is_right : breaks (a_header Nea0 0 (replicate 32 0)) (before_end_missing ++
    an_entry (event.Step (link A M Ctl) 0) answer.Ok (line.Send (link M T Ctl) (flight.Ctl (rec.Reconf (a_plan 3 (Some A) (Set 1 S12 0 (a_shape false Mcg false) 0 0 (a_key 0 Master) (Some A) ∷ [])) [])) ∷ line.Send (link M A Feed) (flight.End 1 3) ∷ [])
    ∷ []) ≡ []
unfolding sn window modulus distance count_for data_pdu decoded read_data read_report keystream counter_block stream_blocks report_pdu
end_missing_is_right = refl

end_twice_is_wrong : breaks (a_header Nea0 0 (replicate 32 0)) (before_end_missing ++
    an_entry (event.Step (link A M Ctl) 0) answer.Ok (line.Send (link M T Ctl) (flight.Ctl (rec.Reconf (a_plan 3 (Some A) (Set 1 S12 0 (a_shape false Mcg false) 0 0 (a_key 0 Master) (Some A) ∷ [])) [])) ∷ line.Send (link M A Feed) (flight.End 1 3) ∷ line.Send (link M A Feed) (flight.End 1 3) ∷ [])
    ∷ []) ≡ licensed ∷ []
unfolding sn window modulus distance count_for data_pdu decoded read_data read_report keystream counter_block stream_blocks report_pdu
end_twice_is_wrong = refl

end_twice_is_right : breaks (a_header Nea0 0 (replicate 32 0)) (before_end_missing ++
    an_entry (event.Step (link A M Ctl) 0) answer.Ok (line.Send (link M T Ctl) (flight.Ctl (rec.Reconf (a_plan 3 (Some A) (Set 1 S12 0 (a_shape false Mcg false) 0 0 (a_key 0 Master) (Some A) ∷ [])) [])) ∷ line.Send (link M A Feed) (flight.End 1 3) ∷ [])
    ∷ []) ≡ []
unfolding sn window modulus distance count_for data_pdu decoded read_data read_report keystream counter_block stream_blocks report_pdu
end_twice_is_right = refl

-- what comes before
abbrev before_end_without_a_move : List Entry
before_end_without_a_move =
    an_entry (event.Add A) answer.Ok (line.Send (link M A Ctl) (flight.Ctl (rec.Addreq (a_plan 1 (Some A) []) [])) ∷ [])
    ∷ an_entry (event.Step (link M A Ctl) 0) answer.Ok (line.Note (note.Join A 1) ∷ line.Send (link A M Ctl) (flight.Ctl (rec.Addack 1)) ∷ [])
    ∷ an_entry (event.Step (link A M Ctl) 0) answer.Ok (line.Send (link M T Ctl) (flight.Ctl (rec.Reconf (a_plan 1 (Some A) []) [])) ∷ [])
    ∷ an_entry (event.Step (link M T Ctl) 0) answer.Ok (line.Send (link T M Ctl) (flight.Ctl (rec.Rcomp 1)) ∷ [])
    ∷ an_entry (event.Step (link T M Ctl) 0) answer.Ok (line.Send (link M A Ctl) (flight.Ctl (rec.Recfg 1)) ∷ line.Note note.Done ∷ [])
    ∷ an_entry (event.Step (link M A Ctl) 0) answer.Ok []
    ∷ an_entry (event.Bearer 1 S12 0 (a_shape true Scg false) 0 0) answer.Ok (line.Send (link M A Ctl) (flight.Ctl (rec.Modreq (a_plan 2 (Some A) (Set 1 S12 0 (a_shape true Scg false) 0 0 (a_key 0 (SecondKey 0)) None ∷ [])) [])) ∷ [])
    ∷ an_entry (event.Step (link M A Ctl) 0) answer.Ok (line.Note (note.Own A 1 2) ∷ line.Send (link A M Ctl) (flight.Ctl (rec.Modack 2)) ∷ [])
    ∷ an_entry (event.Step (link A M Ctl) 0) answer.Ok (line.Send (link M T Ctl) (flight.Ctl (rec.Reconf (a_plan 2 (Some A) (Set 1 S12 0 (a_shape true Scg false) 0 0 (a_key 0 (SecondKey 0)) None ∷ [])) [])) ∷ [])
    ∷ an_entry (event.Step (link M T Ctl) 0) answer.Ok (line.Note (note.Set 1 2) ∷ line.Send (link T M Ctl) (flight.Ctl (rec.Rcomp 2)) ∷ [])
    ∷ an_entry (event.Step (link T M Ctl) 0) answer.Ok (line.Send (link M A Ctl) (flight.Ctl (rec.Recfg 2)) ∷ line.Note note.Done ∷ [])
    ∷ an_entry (event.Step (link M A Ctl) 0) answer.Ok []
    ∷ an_entry (event.RekeySecond) answer.Ok (line.Send (link M A Ctl) (flight.Ctl (rec.Modreq (a_plan 3 (Some A) (Set 1 S12 0 (a_shape true Scg false) 0 0 (a_key 0 (SecondKey 1)) (Some A) ∷ [])) [])) ∷ [])
    ∷ an_entry (event.Step (link M A Ctl) 0) answer.Ok (line.Note (note.Own A 1 3) ∷ line.Send (link A M Ctl) (flight.Ctl (rec.Modack 3)) ∷ [])
    ∷ []

end_without_a_move_is_wrong : breaks (a_header Nea0 0 (replicate 32 0)) (before_end_without_a_move ++
    an_entry (event.Step (link A M Ctl) 0) answer.Ok (line.Send (link M T Ctl) (flight.Ctl (rec.Reconf (a_plan 3 (Some A) (Set 1 S12 0 (a_shape true Scg false) 0 0 (a_key 0 (SecondKey 1)) (Some A) ∷ [])) [])) ∷ line.Send (link M A Feed) (flight.End 1 3) ∷ [])
    ∷ []) ≡ licensed ∷ []
unfolding sn window modulus distance count_for data_pdu decoded read_data read_report keystream counter_block stream_blocks report_pdu
end_without_a_move_is_wrong = refl

end_without_a_move_is_right : breaks (a_header Nea0 0 (replicate 32 0)) (before_end_without_a_move ++
    an_entry (event.Step (link A M Ctl) 0) answer.Ok (line.Send (link M T Ctl) (flight.Ctl (rec.Reconf (a_plan 3 (Some A) (Set 1 S12 0 (a_shape true Scg false) 0 0 (a_key 0 (SecondKey 1)) (Some A) ∷ [])) [])) ∷ [])
    ∷ []) ≡ []
unfolding sn window modulus distance count_for data_pdu decoded read_data read_report keystream counter_block stream_blocks report_pdu
end_without_a_move_is_right = refl

first_send_by_a_node_that_is_no_anchor_is_wrong : breaks (a_header Nea0 0 (replicate 32 0)) (before_due_rootused_answered_ok ++
    an_entry (event.Submit 1 Dl (104 ∷ 105 ∷ [])) answer.Ok (line.Send (link A T Air) (flight.Air 1 1 0 (Some 0) (128 ∷ 0 ∷ 104 ∷ 105 ∷ [])) ∷ [])
    ∷ []) ≡ protected ∷ holder ∷ licensed ∷ come ∷ []
unfolding sn window modulus distance count_for data_pdu decoded read_data read_report keystream counter_block stream_blocks report_pdu
first_send_by_a_node_that_is_no_anchor_is_wrong = refl

first_send_by_a_node_that_is_no_anchor_is_right : breaks (a_header Nea0 0 (replicate 32 0)) (before_due_rootused_answered_ok ++
    an_entry (event.Submit 1 Dl (104 ∷ 105 ∷ [])) answer.Ok (line.Send (link M T Air) (flight.Air 1 1 0 (Some 0) (128 ∷ 0 ∷ 104 ∷ 105 ∷ [])) ∷ [])
    ∷ []) ≡ []
unfolding sn window modulus distance count_for data_pdu decoded read_data read_report keystream counter_block stream_blocks report_pdu
first_send_by_a_node_that_is_no_anchor_is_right = refl

first_send_twice_in_one_event_is_wrong : breaks (a_header Nea0 0 (replicate 32 0)) (before_due_rootused_answered_ok ++
    an_entry (event.Submit 1 Dl (104 ∷ 105 ∷ [])) answer.Ok (line.Send (link M T Air) (flight.Air 1 1 0 (Some 0) (128 ∷ 0 ∷ 104 ∷ 105 ∷ [])) ∷ line.Send (link M T Air) (flight.Air 1 1 1 (Some 0) (128 ∷ 0 ∷ 104 ∷ 105 ∷ [])) ∷ [])
    ∷ []) ≡ licensed ∷ []
unfolding sn window modulus distance count_for data_pdu decoded read_data read_report keystream counter_block stream_blocks report_pdu
first_send_twice_in_one_event_is_wrong = refl

first_send_twice_in_one_event_is_right : breaks (a_header Nea0 0 (replicate 32 0)) (before_due_rootused_answered_ok ++
    an_entry (event.Submit 1 Dl (104 ∷ 105 ∷ [])) answer.Ok (line.Send (link M T Air) (flight.Air 1 1 0 (Some 0) (128 ∷ 0 ∷ 104 ∷ 105 ∷ [])) ∷ [])
    ∷ []) ≡ []
unfolding sn window modulus distance count_for data_pdu decoded read_data read_report keystream counter_block stream_blocks report_pdu
first_send_twice_in_one_event_is_right = refl

-- what comes before
abbrev before_first_send_with_a_number_left_out : List Entry
before_first_send_with_a_number_left_out =
    an_entry (event.Add A) answer.Ok (line.Send (link M A Ctl) (flight.Ctl (rec.Addreq (a_plan 1 (Some A) []) [])) ∷ [])
    ∷ an_entry (event.Step (link M A Ctl) 0) answer.Ok (line.Note (note.Join A 1) ∷ line.Send (link A M Ctl) (flight.Ctl (rec.Addack 1)) ∷ [])
    ∷ an_entry (event.Step (link A M Ctl) 0) answer.Ok (line.Send (link M T Ctl) (flight.Ctl (rec.Reconf (a_plan 1 (Some A) []) [])) ∷ [])
    ∷ an_entry (event.Step (link M T Ctl) 0) answer.Ok (line.Send (link T M Ctl) (flight.Ctl (rec.Rcomp 1)) ∷ [])
    ∷ an_entry (event.Step (link T M Ctl) 0) answer.Ok (line.Send (link M A Ctl) (flight.Ctl (rec.Recfg 1)) ∷ line.Note note.Done ∷ [])
    ∷ an_entry (event.Step (link M A Ctl) 0) answer.Ok []
    ∷ an_entry (event.Bearer 1 S12 0 (a_shape false Scg false) 0 0) answer.Ok (line.Send (link M A Ctl) (flight.Ctl (rec.Modreq (a_plan 2 (Some A) (Set 1 S12 0 (a_shape false Scg false) 0 0 (a_key 0 Master) None ∷ [])) [])) ∷ [])
    ∷ an_entry (event.Step (link M A Ctl) 0) answer.Ok (line.Send (link A M Ctl) (flight.Ctl (rec.Modack 2)) ∷ [])
    ∷ an_entry (event.Step (link A M Ctl) 0) answer.Ok (line.Note (note.Own M 1 2) ∷ line.Send (link M T Ctl) (flight.Ctl (rec.Reconf (a_plan 2 (Some A) (Set 1 S12 0 (a_shape false Scg false) 0 0 (a_key 0 Master) None ∷ [])) [])) ∷ [])
    ∷ an_entry (event.Step (link M T Ctl) 0) answer.Ok (line.Note (note.Set 1 2) ∷ line.Send (link T M Ctl) (flight.Ctl (rec.Rcomp 2)) ∷ [])
    ∷ an_entry (event.Step (link T M Ctl) 0) answer.Ok (line.Send (link M A Ctl) (flight.Ctl (rec.Recfg 2)) ∷ line.Note note.Done ∷ [])
    ∷ []

first_send_with_a_number_left_out_is_wrong : breaks (a_header Nea0 0 (replicate 32 0)) (before_first_send_with_a_number_left_out ++
    an_entry (event.Submit 1 Dl (170 ∷ [])) answer.Ok (line.Send (link M A Tun) (flight.Tun (Some 0) (52 ∷ 255 ∷ 0 ∷ 15 ∷ 0 ∷ 0 ∷ 1 ∷ 0 ∷ 0 ∷ 0 ∷ 0 ∷ 132 ∷ 2 ∷ 1 ∷ 0 ∷ 0 ∷ 1 ∷ 0 ∷ 0 ∷ 0 ∷ 128 ∷ 0 ∷ 170 ∷ [])) ∷ [])
    ∷ []) ≡ numbered ∷ []
unfolding sn window modulus distance count_for data_pdu decoded read_data read_report keystream counter_block stream_blocks report_pdu
first_send_with_a_number_left_out_is_wrong = refl

first_send_with_a_number_left_out_is_right : breaks (a_header Nea0 0 (replicate 32 0)) (before_first_send_with_a_number_left_out ++
    an_entry (event.Submit 1 Dl (170 ∷ [])) answer.Ok (line.Send (link M A Tun) (flight.Tun (Some 0) (52 ∷ 255 ∷ 0 ∷ 15 ∷ 0 ∷ 0 ∷ 1 ∷ 0 ∷ 0 ∷ 0 ∷ 0 ∷ 132 ∷ 2 ∷ 1 ∷ 0 ∷ 0 ∷ 0 ∷ 0 ∷ 0 ∷ 0 ∷ 128 ∷ 0 ∷ 170 ∷ [])) ∷ [])
    ∷ []) ≡ []
unfolding sn window modulus distance count_for data_pdu decoded read_data read_report keystream counter_block stream_blocks report_pdu
first_send_with_a_number_left_out_is_right = refl

-- what comes before
abbrev before_flight_at_another_index_taken : List Entry
before_flight_at_another_index_taken =
    an_entry (event.Bearer 1 S12 0 (a_shape false Mcg false) 0 0) answer.Ok (line.Note (note.Own M 1 1) ∷ line.Send (link M T Ctl) (flight.Ctl (rec.Reconf (a_plan 1 None (Set 1 S12 0 (a_shape false Mcg false) 0 0 (a_key 0 Master) None ∷ [])) [])) ∷ [])
    ∷ an_entry (event.Step (link M T Ctl) 0) answer.Ok (line.Note (note.Set 1 1) ∷ line.Send (link T M Ctl) (flight.Ctl (rec.Rcomp 1)) ∷ [])
    ∷ an_entry (event.Step (link T M Ctl) 0) answer.Ok (line.Note note.Done ∷ [])
    ∷ an_entry (event.Submit 1 Dl (104 ∷ 105 ∷ [])) answer.Ok (line.Send (link M T Air) (flight.Air 1 1 0 (Some 0) (128 ∷ 0 ∷ 104 ∷ 105 ∷ [])) ∷ [])
    ∷ an_entry (event.Submit 1 Dl (121 ∷ 111 ∷ [])) answer.Ok (line.Send (link M T Air) (flight.Air 1 1 1 (Some 1) (128 ∷ 1 ∷ 121 ∷ 111 ∷ [])) ∷ [])
    ∷ []

flight_at_another_index_taken_is_wrong : breaks (a_header Nea0 0 (replicate 32 0)) (before_flight_at_another_index_taken ++
    an_entry (event.Step (link M T Air) 1) answer.Ok (line.Note (note.Up T 1 Dl 0 (104 ∷ 105 ∷ [])) ∷ line.Send (link T M Air) (flight.Ack 1 1 0) ∷ [])
    ∷ []) ≡ carried ∷ drained ∷ licensed ∷ []
unfolding sn window modulus distance count_for data_pdu decoded read_data read_report keystream counter_block stream_blocks report_pdu
flight_at_another_index_taken_is_wrong = refl

flight_at_another_index_taken_is_right : breaks (a_header Nea0 0 (replicate 32 0)) (before_flight_at_another_index_taken ++
    an_entry (event.Step (link M T Air) 1) answer.Ok (line.Send (link T M Air) (flight.Ack 1 1 1) ∷ [])
    ∷ []) ≡ []
unfolding sn window modulus distance count_for data_pdu decoded read_data read_report keystream counter_block stream_blocks report_pdu
flight_at_another_index_taken_is_right = refl

-- what comes before
abbrev before_flight_taken_twice : List Entry
before_flight_taken_twice =
    an_entry (event.Bearer 1 S12 0 (a_shape false Mcg false) 0 0) answer.Ok (line.Note (note.Own M 1 1) ∷ line.Send (link M T Ctl) (flight.Ctl (rec.Reconf (a_plan 1 None (Set 1 S12 0 (a_shape false Mcg false) 0 0 (a_key 0 Master) None ∷ [])) [])) ∷ [])
    ∷ an_entry (event.Step (link M T Ctl) 0) answer.Ok (line.Note (note.Set 1 1) ∷ line.Send (link T M Ctl) (flight.Ctl (rec.Rcomp 1)) ∷ [])
    ∷ an_entry (event.Step (link T M Ctl) 0) answer.Ok (line.Note note.Done ∷ [])
    ∷ an_entry (event.Submit 1 Dl (104 ∷ 105 ∷ [])) answer.Ok (line.Send (link M T Air) (flight.Air 1 1 0 (Some 0) (128 ∷ 0 ∷ 104 ∷ 105 ∷ [])) ∷ [])
    ∷ an_entry (event.Step (link M T Air) 0) answer.Ok (line.Note (note.Up T 1 Dl 0 (104 ∷ 105 ∷ [])) ∷ line.Send (link T M Air) (flight.Ack 1 1 0) ∷ [])
    ∷ []

flight_taken_twice_is_wrong : breaks (a_header Nea0 0 (replicate 32 0)) (before_flight_taken_twice ++
    an_entry (event.Step (link M T Air) 0) answer.Ok []
    ∷ []) ≡ cause ∷ []
unfolding sn window modulus distance count_for data_pdu decoded read_data read_report keystream counter_block stream_blocks report_pdu
flight_taken_twice_is_wrong = refl

flight_taken_twice_is_right : breaks (a_header Nea0 0 (replicate 32 0)) (before_flight_taken_twice ++
    an_entry (event.Step (link M T Air) 0) (answer.No refusal.NoFlight) []
    ∷ []) ≡ []
unfolding sn window modulus distance count_for data_pdu decoded read_data read_report keystream counter_block stream_blocks report_pdu
flight_taken_twice_is_right = refl

-- what comes before
abbrev before_forward_number_twice : List Entry
before_forward_number_twice =
    an_entry (event.Bearer 1 S12 0 (a_shape false Mcg false) 0 0) answer.Ok (line.Note (note.Own M 1 1) ∷ line.Send (link M T Ctl) (flight.Ctl (rec.Reconf (a_plan 1 None (Set 1 S12 0 (a_shape false Mcg false) 0 0 (a_key 0 Master) None ∷ [])) [])) ∷ [])
    ∷ an_entry (event.Step (link M T Ctl) 0) answer.Ok (line.Note (note.Set 1 1) ∷ line.Send (link T M Ctl) (flight.Ctl (rec.Rcomp 1)) ∷ [])
    ∷ an_entry (event.Step (link T M Ctl) 0) answer.Ok (line.Note note.Done ∷ [])
    ∷ an_entry (event.Submit 1 Dl (170 ∷ [])) answer.Ok (line.Send (link M T Air) (flight.Air 1 1 0 (Some 0) (128 ∷ 0 ∷ 170 ∷ [])) ∷ [])
    ∷ an_entry (event.Add A) answer.Ok (line.Send (link M A Ctl) (flight.Ctl (rec.Addreq (a_plan 2 (Some A) []) [])) ∷ [])
    ∷ an_entry (event.Step (link M A Ctl) 0) answer.Ok (line.Note (note.Join A 2) ∷ line.Send (link A M Ctl) (flight.Ctl (rec.Addack 2)) ∷ [])
    ∷ an_entry (event.Step (link A M Ctl) 0) answer.Ok (line.Send (link M T Ctl) (flight.Ctl (rec.Reconf (a_plan 2 (Some A) []) [])) ∷ [])
    ∷ an_entry (event.Step (link M T Ctl) 0) answer.Ok (line.Send (link T M Ctl) (flight.Ctl (rec.Rcomp 2)) ∷ [])
    ∷ an_entry (event.Step (link T M Ctl) 0) answer.Ok (line.Send (link M A Ctl) (flight.Ctl (rec.Recfg 2)) ∷ line.Note note.Done ∷ [])
    ∷ an_entry (event.Reshape 1 (a_shape true Scg false)) answer.Ok (line.Send (link M A Ctl) (flight.Ctl (rec.Modreq (a_plan 3 (Some A) (Set 1 S12 0 (a_shape true Scg false) 0 0 (a_key 0 (SecondKey 0)) (Some M) ∷ [])) [])) ∷ [])
    ∷ an_entry (event.Step (link M A Ctl) 0) answer.Ok []
    ∷ an_entry (event.Step (link M A Ctl) 0) answer.Ok (line.Send (link A M Ctl) (flight.Ctl (rec.Modack 3)) ∷ [])
    ∷ []

forward_number_twice_is_wrong : breaks (a_header Nea0 0 (replicate 32 0)) (before_forward_number_twice ++
    an_entry (event.Step (link A M Ctl) 0) answer.Ok (line.Note (note.Give M 1 3) ∷ line.Send (link M T Ctl) (flight.Ctl (rec.Reconf (a_plan 3 (Some A) (Set 1 S12 0 (a_shape true Scg false) 0 0 (a_key 0 (SecondKey 0)) (Some M) ∷ [])) [])) ∷ line.Send (link M A Ctl) (flight.Ctl (rec.Snst (a_transfer 3 1 0 [] 1))) ∷ line.Send (link M A Tun) (flight.Tun None (52 ∷ 255 ∷ 0 ∷ 17 ∷ 0 ∷ 0 ∷ 1 ∷ 129 ∷ 0 ∷ 0 ∷ 0 ∷ 132 ∷ 2 ∷ 1 ∷ 0 ∷ 0 ∷ 0 ∷ 0 ∷ 0 ∷ 192 ∷ 1 ∷ 0 ∷ 0 ∷ 0 ∷ 170 ∷ [])) ∷ line.Send (link M A Tun) (flight.Tun None (52 ∷ 255 ∷ 0 ∷ 17 ∷ 0 ∷ 0 ∷ 1 ∷ 129 ∷ 0 ∷ 0 ∷ 0 ∷ 132 ∷ 2 ∷ 1 ∷ 0 ∷ 0 ∷ 0 ∷ 0 ∷ 0 ∷ 192 ∷ 1 ∷ 0 ∷ 0 ∷ 0 ∷ 170 ∷ [])) ∷ line.Send (link M A Tun) (flight.Tun None (52 ∷ 255 ∷ 0 ∷ 12 ∷ 0 ∷ 0 ∷ 1 ∷ 129 ∷ 0 ∷ 0 ∷ 0 ∷ 132 ∷ 2 ∷ 0 ∷ 0 ∷ 0 ∷ 1 ∷ 0 ∷ 0 ∷ 0 ∷ [])) ∷ line.Send (link M A Tun) (flight.Tun None (48 ∷ 254 ∷ 0 ∷ 0 ∷ 0 ∷ 0 ∷ 1 ∷ 129 ∷ [])) ∷ line.Send (link M A Tun) (flight.Tun None (52 ∷ 255 ∷ 0 ∷ 12 ∷ 0 ∷ 0 ∷ 1 ∷ 130 ∷ 0 ∷ 0 ∷ 0 ∷ 132 ∷ 2 ∷ 0 ∷ 0 ∷ 0 ∷ 0 ∷ 0 ∷ 0 ∷ 0 ∷ [])) ∷ line.Send (link M A Tun) (flight.Tun None (48 ∷ 254 ∷ 0 ∷ 0 ∷ 0 ∷ 0 ∷ 1 ∷ 130 ∷ [])) ∷ [])
    ∷ []) ≡ numbered ∷ come ∷ []
unfolding sn window modulus distance count_for data_pdu decoded read_data read_report keystream counter_block stream_blocks report_pdu
forward_number_twice_is_wrong = refl

forward_number_twice_is_right : breaks (a_header Nea0 0 (replicate 32 0)) (before_forward_number_twice ++
    an_entry (event.Step (link A M Ctl) 0) answer.Ok (line.Note (note.Give M 1 3) ∷ line.Send (link M T Ctl) (flight.Ctl (rec.Reconf (a_plan 3 (Some A) (Set 1 S12 0 (a_shape true Scg false) 0 0 (a_key 0 (SecondKey 0)) (Some M) ∷ [])) [])) ∷ line.Send (link M A Ctl) (flight.Ctl (rec.Snst (a_transfer 3 1 0 [] 1))) ∷ line.Send (link M A Tun) (flight.Tun None (52 ∷ 255 ∷ 0 ∷ 17 ∷ 0 ∷ 0 ∷ 1 ∷ 129 ∷ 0 ∷ 0 ∷ 0 ∷ 132 ∷ 2 ∷ 1 ∷ 0 ∷ 0 ∷ 0 ∷ 0 ∷ 0 ∷ 192 ∷ 1 ∷ 0 ∷ 0 ∷ 0 ∷ 170 ∷ [])) ∷ line.Send (link M A Tun) (flight.Tun None (52 ∷ 255 ∷ 0 ∷ 12 ∷ 0 ∷ 0 ∷ 1 ∷ 129 ∷ 0 ∷ 0 ∷ 0 ∷ 132 ∷ 2 ∷ 0 ∷ 0 ∷ 0 ∷ 1 ∷ 0 ∷ 0 ∷ 0 ∷ [])) ∷ line.Send (link M A Tun) (flight.Tun None (48 ∷ 254 ∷ 0 ∷ 0 ∷ 0 ∷ 0 ∷ 1 ∷ 129 ∷ [])) ∷ line.Send (link M A Tun) (flight.Tun None (52 ∷ 255 ∷ 0 ∷ 12 ∷ 0 ∷ 0 ∷ 1 ∷ 130 ∷ 0 ∷ 0 ∷ 0 ∷ 132 ∷ 2 ∷ 0 ∷ 0 ∷ 0 ∷ 0 ∷ 0 ∷ 0 ∷ 0 ∷ [])) ∷ line.Send (link M A Tun) (flight.Tun None (48 ∷ 254 ∷ 0 ∷ 0 ∷ 0 ∷ 0 ∷ 1 ∷ 130 ∷ [])) ∷ [])
    ∷ []) ≡ []
unfolding sn window modulus distance count_for data_pdu decoded read_data read_report keystream counter_block stream_blocks report_pdu
forward_number_twice_is_right = refl

forwarded_fresh_sdu_where_it_has_a_number_is_wrong : breaks (a_header Nea0 0 (replicate 32 0)) (before_forward_number_twice ++
    an_entry (event.Step (link A M Ctl) 0) answer.Ok (line.Note (note.Give M 1 3) ∷ line.Send (link M T Ctl) (flight.Ctl (rec.Reconf (a_plan 3 (Some A) (Set 1 S12 0 (a_shape true Scg false) 0 0 (a_key 0 (SecondKey 0)) (Some M) ∷ [])) [])) ∷ line.Send (link M A Ctl) (flight.Ctl (rec.Snst (a_transfer 3 1 0 [] 1))) ∷ line.Send (link M A Tun) (flight.Tun None (52 ∷ 255 ∷ 0 ∷ 13 ∷ 0 ∷ 0 ∷ 1 ∷ 129 ∷ 0 ∷ 0 ∷ 0 ∷ 132 ∷ 2 ∷ 1 ∷ 0 ∷ 0 ∷ 0 ∷ 0 ∷ 0 ∷ 0 ∷ 170 ∷ [])) ∷ line.Send (link M A Tun) (flight.Tun None (52 ∷ 255 ∷ 0 ∷ 12 ∷ 0 ∷ 0 ∷ 1 ∷ 129 ∷ 0 ∷ 0 ∷ 0 ∷ 132 ∷ 2 ∷ 0 ∷ 0 ∷ 0 ∷ 1 ∷ 0 ∷ 0 ∷ 0 ∷ [])) ∷ line.Send (link M A Tun) (flight.Tun None (48 ∷ 254 ∷ 0 ∷ 0 ∷ 0 ∷ 0 ∷ 1 ∷ 129 ∷ [])) ∷ line.Send (link M A Tun) (flight.Tun None (52 ∷ 255 ∷ 0 ∷ 12 ∷ 0 ∷ 0 ∷ 1 ∷ 130 ∷ 0 ∷ 0 ∷ 0 ∷ 132 ∷ 2 ∷ 0 ∷ 0 ∷ 0 ∷ 0 ∷ 0 ∷ 0 ∷ 0 ∷ [])) ∷ line.Send (link M A Tun) (flight.Tun None (48 ∷ 254 ∷ 0 ∷ 0 ∷ 0 ∷ 0 ∷ 1 ∷ 130 ∷ [])) ∷ [])
    ∷ []) ≡ licensed ∷ come ∷ []
unfolding sn window modulus distance count_for data_pdu decoded read_data read_report keystream counter_block stream_blocks report_pdu
forwarded_fresh_sdu_where_it_has_a_number_is_wrong = refl

forwarded_fresh_sdu_where_it_has_a_number_is_right : breaks (a_header Nea0 0 (replicate 32 0)) (before_forward_number_twice ++
    an_entry (event.Step (link A M Ctl) 0) answer.Ok (line.Note (note.Give M 1 3) ∷ line.Send (link M T Ctl) (flight.Ctl (rec.Reconf (a_plan 3 (Some A) (Set 1 S12 0 (a_shape true Scg false) 0 0 (a_key 0 (SecondKey 0)) (Some M) ∷ [])) [])) ∷ line.Send (link M A Ctl) (flight.Ctl (rec.Snst (a_transfer 3 1 0 [] 1))) ∷ line.Send (link M A Tun) (flight.Tun None (52 ∷ 255 ∷ 0 ∷ 17 ∷ 0 ∷ 0 ∷ 1 ∷ 129 ∷ 0 ∷ 0 ∷ 0 ∷ 132 ∷ 2 ∷ 1 ∷ 0 ∷ 0 ∷ 0 ∷ 0 ∷ 0 ∷ 192 ∷ 1 ∷ 0 ∷ 0 ∷ 0 ∷ 170 ∷ [])) ∷ line.Send (link M A Tun) (flight.Tun None (52 ∷ 255 ∷ 0 ∷ 12 ∷ 0 ∷ 0 ∷ 1 ∷ 129 ∷ 0 ∷ 0 ∷ 0 ∷ 132 ∷ 2 ∷ 0 ∷ 0 ∷ 0 ∷ 1 ∷ 0 ∷ 0 ∷ 0 ∷ [])) ∷ line.Send (link M A Tun) (flight.Tun None (48 ∷ 254 ∷ 0 ∷ 0 ∷ 0 ∷ 0 ∷ 1 ∷ 129 ∷ [])) ∷ line.Send (link M A Tun) (flight.Tun None (52 ∷ 255 ∷ 0 ∷ 12 ∷ 0 ∷ 0 ∷ 1 ∷ 130 ∷ 0 ∷ 0 ∷ 0 ∷ 132 ∷ 2 ∷ 0 ∷ 0 ∷ 0 ∷ 0 ∷ 0 ∷ 0 ∷ 0 ∷ [])) ∷ line.Send (link M A Tun) (flight.Tun None (48 ∷ 254 ∷ 0 ∷ 0 ∷ 0 ∷ 0 ∷ 1 ∷ 130 ∷ [])) ∷ [])
    ∷ []) ≡ []
unfolding sn window modulus distance count_for data_pdu decoded read_data read_report keystream counter_block stream_blocks report_pdu
forwarded_fresh_sdu_where_it_has_a_number_is_right = refl

-- what comes before
abbrev before_forwarded_packet_without_a_freeze : List Entry
before_forwarded_packet_without_a_freeze =
    an_entry (event.Bearer 1 S12 0 (a_shape false Mcg false) 0 0) answer.Ok (line.Note (note.Own M 1 1) ∷ line.Send (link M T Ctl) (flight.Ctl (rec.Reconf (a_plan 1 None (Set 1 S12 0 (a_shape false Mcg false) 0 0 (a_key 0 Master) None ∷ [])) [])) ∷ [])
    ∷ an_entry (event.Step (link M T Ctl) 0) answer.Ok (line.Note (note.Set 1 1) ∷ line.Send (link T M Ctl) (flight.Ctl (rec.Rcomp 1)) ∷ [])
    ∷ an_entry (event.Step (link T M Ctl) 0) answer.Ok (line.Note note.Done ∷ [])
    ∷ an_entry (event.Submit 1 Dl (170 ∷ [])) answer.Ok (line.Send (link M T Air) (flight.Air 1 1 0 (Some 0) (128 ∷ 0 ∷ 170 ∷ [])) ∷ [])
    ∷ an_entry (event.Add A) answer.Ok (line.Send (link M A Ctl) (flight.Ctl (rec.Addreq (a_plan 2 (Some A) []) [])) ∷ [])
    ∷ an_entry (event.Step (link M A Ctl) 0) answer.Ok (line.Note (note.Join A 2) ∷ line.Send (link A M Ctl) (flight.Ctl (rec.Addack 2)) ∷ [])
    ∷ an_entry (event.Step (link A M Ctl) 0) answer.Ok (line.Send (link M T Ctl) (flight.Ctl (rec.Reconf (a_plan 2 (Some A) []) [])) ∷ [])
    ∷ an_entry (event.Step (link M T Ctl) 0) answer.Ok (line.Send (link T M Ctl) (flight.Ctl (rec.Rcomp 2)) ∷ [])
    ∷ an_entry (event.Step (link T M Ctl) 0) answer.Ok (line.Send (link M A Ctl) (flight.Ctl (rec.Recfg 2)) ∷ line.Note note.Done ∷ [])
    ∷ an_entry (event.Reshape 1 (a_shape true Scg false)) answer.Ok (line.Send (link M A Ctl) (flight.Ctl (rec.Modreq (a_plan 3 (Some A) (Set 1 S12 0 (a_shape true Scg false) 0 0 (a_key 0 (SecondKey 0)) (Some M) ∷ [])) [])) ∷ [])
    ∷ an_entry (event.Step (link M A Ctl) 0) answer.Ok []
    ∷ []

forwarded_packet_without_a_freeze_is_wrong : breaks (a_header Nea0 0 (replicate 32 0)) (before_forwarded_packet_without_a_freeze ++
    an_entry (event.Step (link M A Ctl) 0) answer.Ok (line.Send (link A M Ctl) (flight.Ctl (rec.Modack 3)) ∷ line.Send (link M A Tun) (flight.Tun None (52 ∷ 255 ∷ 0 ∷ 17 ∷ 0 ∷ 0 ∷ 1 ∷ 129 ∷ 0 ∷ 0 ∷ 0 ∷ 132 ∷ 2 ∷ 1 ∷ 0 ∷ 0 ∷ 0 ∷ 0 ∷ 0 ∷ 192 ∷ 1 ∷ 0 ∷ 0 ∷ 0 ∷ 170 ∷ [])) ∷ [])
    ∷ []) ≡ licensed ∷ []
unfolding sn window modulus distance count_for data_pdu decoded read_data read_report keystream counter_block stream_blocks report_pdu
forwarded_packet_without_a_freeze_is_wrong = refl

forwarded_packet_without_a_freeze_is_right : breaks (a_header Nea0 0 (replicate 32 0)) (before_forwarded_packet_without_a_freeze ++
    an_entry (event.Step (link M A Ctl) 0) answer.Ok (line.Send (link A M Ctl) (flight.Ctl (rec.Modack 3)) ∷ [])
    ∷ []) ≡ []
unfolding sn window modulus distance count_for data_pdu decoded read_data read_report keystream counter_block stream_blocks report_pdu
forwarded_packet_without_a_freeze_is_right = refl

forwarded_sdu_with_another_payload_is_wrong : breaks (a_header Nea0 0 (replicate 32 0)) (before_forward_number_twice ++
    an_entry (event.Step (link A M Ctl) 0) answer.Ok (line.Note (note.Give M 1 3) ∷ line.Send (link M T Ctl) (flight.Ctl (rec.Reconf (a_plan 3 (Some A) (Set 1 S12 0 (a_shape true Scg false) 0 0 (a_key 0 (SecondKey 0)) (Some M) ∷ [])) [])) ∷ line.Send (link M A Ctl) (flight.Ctl (rec.Snst (a_transfer 3 1 0 [] 1))) ∷ line.Send (link M A Tun) (flight.Tun None (52 ∷ 255 ∷ 0 ∷ 17 ∷ 0 ∷ 0 ∷ 1 ∷ 129 ∷ 0 ∷ 0 ∷ 0 ∷ 132 ∷ 2 ∷ 1 ∷ 0 ∷ 0 ∷ 0 ∷ 0 ∷ 0 ∷ 192 ∷ 1 ∷ 0 ∷ 0 ∷ 0 ∷ 171 ∷ [])) ∷ line.Send (link M A Tun) (flight.Tun None (52 ∷ 255 ∷ 0 ∷ 12 ∷ 0 ∷ 0 ∷ 1 ∷ 129 ∷ 0 ∷ 0 ∷ 0 ∷ 132 ∷ 2 ∷ 0 ∷ 0 ∷ 0 ∷ 1 ∷ 0 ∷ 0 ∷ 0 ∷ [])) ∷ line.Send (link M A Tun) (flight.Tun None (48 ∷ 254 ∷ 0 ∷ 0 ∷ 0 ∷ 0 ∷ 1 ∷ 129 ∷ [])) ∷ line.Send (link M A Tun) (flight.Tun None (52 ∷ 255 ∷ 0 ∷ 12 ∷ 0 ∷ 0 ∷ 1 ∷ 130 ∷ 0 ∷ 0 ∷ 0 ∷ 132 ∷ 2 ∷ 0 ∷ 0 ∷ 0 ∷ 0 ∷ 0 ∷ 0 ∷ 0 ∷ [])) ∷ line.Send (link M A Tun) (flight.Tun None (48 ∷ 254 ∷ 0 ∷ 0 ∷ 0 ∷ 0 ∷ 1 ∷ 130 ∷ [])) ∷ [])
    ∷ []) ≡ licensed ∷ []
unfolding sn window modulus distance count_for data_pdu decoded read_data read_report keystream counter_block stream_blocks report_pdu
forwarded_sdu_with_another_payload_is_wrong = refl

forwarded_sdu_with_another_payload_is_right : breaks (a_header Nea0 0 (replicate 32 0)) (before_forward_number_twice ++
    an_entry (event.Step (link A M Ctl) 0) answer.Ok (line.Note (note.Give M 1 3) ∷ line.Send (link M T Ctl) (flight.Ctl (rec.Reconf (a_plan 3 (Some A) (Set 1 S12 0 (a_shape true Scg false) 0 0 (a_key 0 (SecondKey 0)) (Some M) ∷ [])) [])) ∷ line.Send (link M A Ctl) (flight.Ctl (rec.Snst (a_transfer 3 1 0 [] 1))) ∷ line.Send (link M A Tun) (flight.Tun None (52 ∷ 255 ∷ 0 ∷ 17 ∷ 0 ∷ 0 ∷ 1 ∷ 129 ∷ 0 ∷ 0 ∷ 0 ∷ 132 ∷ 2 ∷ 1 ∷ 0 ∷ 0 ∷ 0 ∷ 0 ∷ 0 ∷ 192 ∷ 1 ∷ 0 ∷ 0 ∷ 0 ∷ 170 ∷ [])) ∷ line.Send (link M A Tun) (flight.Tun None (52 ∷ 255 ∷ 0 ∷ 12 ∷ 0 ∷ 0 ∷ 1 ∷ 129 ∷ 0 ∷ 0 ∷ 0 ∷ 132 ∷ 2 ∷ 0 ∷ 0 ∷ 0 ∷ 1 ∷ 0 ∷ 0 ∷ 0 ∷ [])) ∷ line.Send (link M A Tun) (flight.Tun None (48 ∷ 254 ∷ 0 ∷ 0 ∷ 0 ∷ 0 ∷ 1 ∷ 129 ∷ [])) ∷ line.Send (link M A Tun) (flight.Tun None (52 ∷ 255 ∷ 0 ∷ 12 ∷ 0 ∷ 0 ∷ 1 ∷ 130 ∷ 0 ∷ 0 ∷ 0 ∷ 132 ∷ 2 ∷ 0 ∷ 0 ∷ 0 ∷ 0 ∷ 0 ∷ 0 ∷ 0 ∷ [])) ∷ line.Send (link M A Tun) (flight.Tun None (48 ∷ 254 ∷ 0 ∷ 0 ∷ 0 ∷ 0 ∷ 1 ∷ 130 ∷ [])) ∷ [])
    ∷ []) ≡ []
unfolding sn window modulus distance count_for data_pdu decoded read_data read_report keystream counter_block stream_blocks report_pdu
forwarded_sdu_with_another_payload_is_right = refl

-- what comes before
abbrev before_forwarded_sdus_with_their_sns_exchanged : List Entry
before_forwarded_sdus_with_their_sns_exchanged =
    an_entry (event.Bearer 1 S12 0 (a_shape false Mcg false) 0 0) answer.Ok (line.Note (note.Own M 1 1) ∷ line.Send (link M T Ctl) (flight.Ctl (rec.Reconf (a_plan 1 None (Set 1 S12 0 (a_shape false Mcg false) 0 0 (a_key 0 Master) None ∷ [])) [])) ∷ [])
    ∷ an_entry (event.Step (link M T Ctl) 0) answer.Ok (line.Note (note.Set 1 1) ∷ line.Send (link T M Ctl) (flight.Ctl (rec.Rcomp 1)) ∷ [])
    ∷ an_entry (event.Step (link T M Ctl) 0) answer.Ok (line.Note note.Done ∷ [])
    ∷ an_entry (event.Submit 1 Dl (170 ∷ [])) answer.Ok (line.Send (link M T Air) (flight.Air 1 1 0 (Some 0) (128 ∷ 0 ∷ 170 ∷ [])) ∷ [])
    ∷ an_entry (event.Submit 1 Dl (187 ∷ [])) answer.Ok (line.Send (link M T Air) (flight.Air 1 1 1 (Some 1) (128 ∷ 1 ∷ 187 ∷ [])) ∷ [])
    ∷ an_entry (event.Add A) answer.Ok (line.Send (link M A Ctl) (flight.Ctl (rec.Addreq (a_plan 2 (Some A) []) [])) ∷ [])
    ∷ an_entry (event.Step (link M A Ctl) 0) answer.Ok (line.Note (note.Join A 2) ∷ line.Send (link A M Ctl) (flight.Ctl (rec.Addack 2)) ∷ [])
    ∷ an_entry (event.Step (link A M Ctl) 0) answer.Ok (line.Send (link M T Ctl) (flight.Ctl (rec.Reconf (a_plan 2 (Some A) []) [])) ∷ [])
    ∷ an_entry (event.Step (link M T Ctl) 0) answer.Ok (line.Send (link T M Ctl) (flight.Ctl (rec.Rcomp 2)) ∷ [])
    ∷ an_entry (event.Step (link T M Ctl) 0) answer.Ok (line.Send (link M A Ctl) (flight.Ctl (rec.Recfg 2)) ∷ line.Note note.Done ∷ [])
    ∷ an_entry (event.Reshape 1 (a_shape true Scg false)) answer.Ok (line.Send (link M A Ctl) (flight.Ctl (rec.Modreq (a_plan 3 (Some A) (Set 1 S12 0 (a_shape true Scg false) 0 0 (a_key 0 (SecondKey 0)) (Some M) ∷ [])) [])) ∷ [])
    ∷ an_entry (event.Step (link M A Ctl) 0) answer.Ok []
    ∷ an_entry (event.Step (link M A Ctl) 0) answer.Ok (line.Send (link A M Ctl) (flight.Ctl (rec.Modack 3)) ∷ [])
    ∷ []

forwarded_sdus_with_their_sns_exchanged_is_wrong : breaks (a_header Nea0 0 (replicate 32 0)) (before_forwarded_sdus_with_their_sns_exchanged ++
    an_entry (event.Step (link A M Ctl) 0) answer.Ok (line.Note (note.Give M 1 3) ∷ line.Send (link M T Ctl) (flight.Ctl (rec.Reconf (a_plan 3 (Some A) (Set 1 S12 0 (a_shape true Scg false) 0 0 (a_key 0 (SecondKey 0)) (Some M) ∷ [])) [])) ∷ line.Send (link M A Ctl) (flight.Ctl (rec.Snst (a_transfer 3 1 0 [] 2))) ∷ line.Send (link M A Tun) (flight.Tun None (52 ∷ 255 ∷ 0 ∷ 17 ∷ 0 ∷ 0 ∷ 1 ∷ 129 ∷ 0 ∷ 0 ∷ 0 ∷ 132 ∷ 2 ∷ 1 ∷ 0 ∷ 0 ∷ 0 ∷ 0 ∷ 0 ∷ 192 ∷ 1 ∷ 0 ∷ 0 ∷ 0 ∷ 187 ∷ [])) ∷ line.Send (link M A Tun) (flight.Tun None (52 ∷ 255 ∷ 0 ∷ 17 ∷ 0 ∷ 0 ∷ 1 ∷ 129 ∷ 0 ∷ 0 ∷ 0 ∷ 132 ∷ 2 ∷ 1 ∷ 0 ∷ 0 ∷ 1 ∷ 0 ∷ 0 ∷ 192 ∷ 1 ∷ 0 ∷ 1 ∷ 0 ∷ 170 ∷ [])) ∷ line.Send (link M A Tun) (flight.Tun None (52 ∷ 255 ∷ 0 ∷ 12 ∷ 0 ∷ 0 ∷ 1 ∷ 129 ∷ 0 ∷ 0 ∷ 0 ∷ 132 ∷ 2 ∷ 0 ∷ 0 ∷ 0 ∷ 2 ∷ 0 ∷ 0 ∷ 0 ∷ [])) ∷ line.Send (link M A Tun) (flight.Tun None (48 ∷ 254 ∷ 0 ∷ 0 ∷ 0 ∷ 0 ∷ 1 ∷ 129 ∷ [])) ∷ line.Send (link M A Tun) (flight.Tun None (52 ∷ 255 ∷ 0 ∷ 12 ∷ 0 ∷ 0 ∷ 1 ∷ 130 ∷ 0 ∷ 0 ∷ 0 ∷ 132 ∷ 2 ∷ 0 ∷ 0 ∷ 0 ∷ 0 ∷ 0 ∷ 0 ∷ 0 ∷ [])) ∷ line.Send (link M A Tun) (flight.Tun None (48 ∷ 254 ∷ 0 ∷ 0 ∷ 0 ∷ 0 ∷ 1 ∷ 130 ∷ [])) ∷ [])
    ∷ []) ≡ licensed ∷ []
unfolding sn window modulus distance count_for data_pdu decoded read_data read_report keystream counter_block stream_blocks report_pdu
forwarded_sdus_with_their_sns_exchanged_is_wrong = refl

forwarded_sdus_with_their_sns_exchanged_is_right : breaks (a_header Nea0 0 (replicate 32 0)) (before_forwarded_sdus_with_their_sns_exchanged ++
    an_entry (event.Step (link A M Ctl) 0) answer.Ok (line.Note (note.Give M 1 3) ∷ line.Send (link M T Ctl) (flight.Ctl (rec.Reconf (a_plan 3 (Some A) (Set 1 S12 0 (a_shape true Scg false) 0 0 (a_key 0 (SecondKey 0)) (Some M) ∷ [])) [])) ∷ line.Send (link M A Ctl) (flight.Ctl (rec.Snst (a_transfer 3 1 0 [] 2))) ∷ line.Send (link M A Tun) (flight.Tun None (52 ∷ 255 ∷ 0 ∷ 17 ∷ 0 ∷ 0 ∷ 1 ∷ 129 ∷ 0 ∷ 0 ∷ 0 ∷ 132 ∷ 2 ∷ 1 ∷ 0 ∷ 0 ∷ 0 ∷ 0 ∷ 0 ∷ 192 ∷ 1 ∷ 0 ∷ 0 ∷ 0 ∷ 170 ∷ [])) ∷ line.Send (link M A Tun) (flight.Tun None (52 ∷ 255 ∷ 0 ∷ 17 ∷ 0 ∷ 0 ∷ 1 ∷ 129 ∷ 0 ∷ 0 ∷ 0 ∷ 132 ∷ 2 ∷ 1 ∷ 0 ∷ 0 ∷ 1 ∷ 0 ∷ 0 ∷ 192 ∷ 1 ∷ 0 ∷ 1 ∷ 0 ∷ 187 ∷ [])) ∷ line.Send (link M A Tun) (flight.Tun None (52 ∷ 255 ∷ 0 ∷ 12 ∷ 0 ∷ 0 ∷ 1 ∷ 129 ∷ 0 ∷ 0 ∷ 0 ∷ 132 ∷ 2 ∷ 0 ∷ 0 ∷ 0 ∷ 2 ∷ 0 ∷ 0 ∷ 0 ∷ [])) ∷ line.Send (link M A Tun) (flight.Tun None (48 ∷ 254 ∷ 0 ∷ 0 ∷ 0 ∷ 0 ∷ 1 ∷ 129 ∷ [])) ∷ line.Send (link M A Tun) (flight.Tun None (52 ∷ 255 ∷ 0 ∷ 12 ∷ 0 ∷ 0 ∷ 1 ∷ 130 ∷ 0 ∷ 0 ∷ 0 ∷ 132 ∷ 2 ∷ 0 ∷ 0 ∷ 0 ∷ 0 ∷ 0 ∷ 0 ∷ 0 ∷ [])) ∷ line.Send (link M A Tun) (flight.Tun None (48 ∷ 254 ∷ 0 ∷ 0 ∷ 0 ∷ 0 ∷ 1 ∷ 130 ∷ [])) ∷ [])
    ∷ []) ≡ []
unfolding sn window modulus distance count_for data_pdu decoded read_data read_report keystream counter_block stream_blocks report_pdu
forwarded_sdus_with_their_sns_exchanged_is_right = refl

-- what comes before
abbrev before_forwarded_uplink_sdu_with_another_payload : List Entry
before_forwarded_uplink_sdu_with_another_payload =
    an_entry (event.Bearer 1 S12 0 (a_shape false Mcg false) 0 0) answer.Ok (line.Note (note.Own M 1 1) ∷ line.Send (link M T Ctl) (flight.Ctl (rec.Reconf (a_plan 1 None (Set 1 S12 0 (a_shape false Mcg false) 0 0 (a_key 0 Master) None ∷ [])) [])) ∷ [])
    ∷ an_entry (event.Step (link M T Ctl) 0) answer.Ok (line.Note (note.Set 1 1) ∷ line.Send (link T M Ctl) (flight.Ctl (rec.Rcomp 1)) ∷ [])
    ∷ an_entry (event.Step (link T M Ctl) 0) answer.Ok (line.Note note.Done ∷ [])
    ∷ an_entry (event.Submit 1 Ul (204 ∷ [])) answer.Ok (line.Send (link T M Air) (flight.Air 1 1 0 (Some 0) (128 ∷ 0 ∷ 204 ∷ [])) ∷ [])
    ∷ an_entry (event.Submit 1 Ul (221 ∷ [])) answer.Ok (line.Send (link T M Air) (flight.Air 1 1 1 (Some 1) (128 ∷ 1 ∷ 221 ∷ [])) ∷ [])
    ∷ an_entry (event.Step (link T M Air) 1) answer.Ok (line.Send (link M T Air) (flight.Ack 1 1 1) ∷ [])
    ∷ an_entry (event.Add A) answer.Ok (line.Send (link M A Ctl) (flight.Ctl (rec.Addreq (a_plan 2 (Some A) []) [])) ∷ [])
    ∷ an_entry (event.Step (link M A Ctl) 0) answer.Ok (line.Note (note.Join A 2) ∷ line.Send (link A M Ctl) (flight.Ctl (rec.Addack 2)) ∷ [])
    ∷ an_entry (event.Step (link A M Ctl) 0) answer.Ok (line.Send (link M T Ctl) (flight.Ctl (rec.Reconf (a_plan 2 (Some A) []) [])) ∷ [])
    ∷ an_entry (event.Step (link M T Ctl) 0) answer.Ok (line.Send (link T M Ctl) (flight.Ctl (rec.Rcomp 2)) ∷ [])
    ∷ an_entry (event.Step (link T M Ctl) 0) answer.Ok (line.Send (link M A Ctl) (flight.Ctl (rec.Recfg 2)) ∷ line.Note note.Done ∷ [])
    ∷ an_entry (event.Reshape 1 (a_shape true Scg false)) answer.Ok (line.Send (link M A Ctl) (flight.Ctl (rec.Modreq (a_plan 3 (Some A) (Set 1 S12 0 (a_shape true Scg false) 0 0 (a_key 0 (SecondKey 0)) (Some M) ∷ [])) [])) ∷ [])
    ∷ an_entry (event.Step (link M A Ctl) 0) answer.Ok []
    ∷ an_entry (event.Step (link M A Ctl) 0) answer.Ok (line.Send (link A M Ctl) (flight.Ctl (rec.Modack 3)) ∷ [])
    ∷ []

forwarded_uplink_sdu_with_another_payload_is_wrong : breaks (a_header Nea0 0 (replicate 32 0)) (before_forwarded_uplink_sdu_with_another_payload ++
    an_entry (event.Step (link A M Ctl) 0) answer.Ok (line.Note (note.Give M 1 3) ∷ line.Send (link M T Ctl) (flight.Ctl (rec.Reconf (a_plan 3 (Some A) (Set 1 S12 0 (a_shape true Scg false) 0 0 (a_key 0 (SecondKey 0)) (Some M) ∷ [])) [])) ∷ line.Send (link M A Ctl) (flight.Ctl (rec.Snst (a_transfer 3 1 0 (128 ∷ []) 0))) ∷ line.Send (link M A Tun) (flight.Tun None (52 ∷ 255 ∷ 0 ∷ 12 ∷ 0 ∷ 0 ∷ 1 ∷ 129 ∷ 0 ∷ 0 ∷ 0 ∷ 132 ∷ 2 ∷ 0 ∷ 0 ∷ 0 ∷ 0 ∷ 0 ∷ 0 ∷ 0 ∷ [])) ∷ line.Send (link M A Tun) (flight.Tun None (48 ∷ 254 ∷ 0 ∷ 0 ∷ 0 ∷ 0 ∷ 1 ∷ 129 ∷ [])) ∷ line.Send (link M A Tun) (flight.Tun None (52 ∷ 255 ∷ 0 ∷ 17 ∷ 0 ∷ 0 ∷ 1 ∷ 130 ∷ 0 ∷ 0 ∷ 0 ∷ 132 ∷ 2 ∷ 1 ∷ 0 ∷ 0 ∷ 0 ∷ 0 ∷ 0 ∷ 192 ∷ 1 ∷ 0 ∷ 1 ∷ 0 ∷ 204 ∷ [])) ∷ line.Send (link M A Tun) (flight.Tun None (52 ∷ 255 ∷ 0 ∷ 12 ∷ 0 ∷ 0 ∷ 1 ∷ 130 ∷ 0 ∷ 0 ∷ 0 ∷ 132 ∷ 2 ∷ 0 ∷ 0 ∷ 0 ∷ 1 ∷ 0 ∷ 0 ∷ 0 ∷ [])) ∷ line.Send (link M A Tun) (flight.Tun None (48 ∷ 254 ∷ 0 ∷ 0 ∷ 0 ∷ 0 ∷ 1 ∷ 130 ∷ [])) ∷ [])
    ∷ []) ≡ licensed ∷ []
unfolding sn window modulus distance count_for data_pdu decoded read_data read_report keystream counter_block stream_blocks report_pdu
forwarded_uplink_sdu_with_another_payload_is_wrong = refl

forwarded_uplink_sdu_with_another_payload_is_right : breaks (a_header Nea0 0 (replicate 32 0)) (before_forwarded_uplink_sdu_with_another_payload ++
    an_entry (event.Step (link A M Ctl) 0) answer.Ok (line.Note (note.Give M 1 3) ∷ line.Send (link M T Ctl) (flight.Ctl (rec.Reconf (a_plan 3 (Some A) (Set 1 S12 0 (a_shape true Scg false) 0 0 (a_key 0 (SecondKey 0)) (Some M) ∷ [])) [])) ∷ line.Send (link M A Ctl) (flight.Ctl (rec.Snst (a_transfer 3 1 0 (128 ∷ []) 0))) ∷ line.Send (link M A Tun) (flight.Tun None (52 ∷ 255 ∷ 0 ∷ 12 ∷ 0 ∷ 0 ∷ 1 ∷ 129 ∷ 0 ∷ 0 ∷ 0 ∷ 132 ∷ 2 ∷ 0 ∷ 0 ∷ 0 ∷ 0 ∷ 0 ∷ 0 ∷ 0 ∷ [])) ∷ line.Send (link M A Tun) (flight.Tun None (48 ∷ 254 ∷ 0 ∷ 0 ∷ 0 ∷ 0 ∷ 1 ∷ 129 ∷ [])) ∷ line.Send (link M A Tun) (flight.Tun None (52 ∷ 255 ∷ 0 ∷ 17 ∷ 0 ∷ 0 ∷ 1 ∷ 130 ∷ 0 ∷ 0 ∷ 0 ∷ 132 ∷ 2 ∷ 1 ∷ 0 ∷ 0 ∷ 0 ∷ 0 ∷ 0 ∷ 192 ∷ 1 ∷ 0 ∷ 1 ∷ 0 ∷ 221 ∷ [])) ∷ line.Send (link M A Tun) (flight.Tun None (52 ∷ 255 ∷ 0 ∷ 12 ∷ 0 ∷ 0 ∷ 1 ∷ 130 ∷ 0 ∷ 0 ∷ 0 ∷ 132 ∷ 2 ∷ 0 ∷ 0 ∷ 0 ∷ 1 ∷ 0 ∷ 0 ∷ 0 ∷ [])) ∷ line.Send (link M A Tun) (flight.Tun None (48 ∷ 254 ∷ 0 ∷ 0 ∷ 0 ∷ 0 ∷ 1 ∷ 130 ∷ [])) ∷ [])
    ∷ []) ≡ []
unfolding sn window modulus distance count_for data_pdu decoded read_data read_report keystream counter_block stream_blocks report_pdu
forwarded_uplink_sdu_with_another_payload_is_right = refl

-- what comes before
abbrev before_freed_at_an_adoption : List Entry
before_freed_at_an_adoption =
    an_entry (event.Add A) answer.Ok (line.Send (link M A Ctl) (flight.Ctl (rec.Addreq (a_plan 1 (Some A) []) [])) ∷ [])
    ∷ an_entry (event.Step (link M A Ctl) 0) answer.Ok (line.Note (note.Join A 1) ∷ line.Send (link A M Ctl) (flight.Ctl (rec.Addack 1)) ∷ [])
    ∷ an_entry (event.Step (link A M Ctl) 0) answer.Ok (line.Send (link M T Ctl) (flight.Ctl (rec.Reconf (a_plan 1 (Some A) []) [])) ∷ [])
    ∷ an_entry (event.Step (link M T Ctl) 0) answer.Ok (line.Send (link T M Ctl) (flight.Ctl (rec.Rcomp 1)) ∷ [])
    ∷ an_entry (event.Step (link T M Ctl) 0) answer.Ok (line.Send (link M A Ctl) (flight.Ctl (rec.Recfg 1)) ∷ line.Note note.Done ∷ [])
    ∷ an_entry (event.Step (link M A Ctl) 0) answer.Ok []
    ∷ an_entry (event.Bearer 1 S12 0 (a_shape true Scg false) 0 0) answer.Ok (line.Send (link M A Ctl) (flight.Ctl (rec.Modreq (a_plan 2 (Some A) (Set 1 S12 0 (a_shape true Scg false) 0 0 (a_key 0 (SecondKey 0)) None ∷ [])) [])) ∷ [])
    ∷ an_entry (event.Step (link M A Ctl) 0) answer.Ok (line.Note (note.Own A 1 2) ∷ line.Send (link A M Ctl) (flight.Ctl (rec.Modack 2)) ∷ [])
    ∷ an_entry (event.Step (link A M Ctl) 0) answer.Ok (line.Send (link M T Ctl) (flight.Ctl (rec.Reconf (a_plan 2 (Some A) (Set 1 S12 0 (a_shape true Scg false) 0 0 (a_key 0 (SecondKey 0)) None ∷ [])) [])) ∷ [])
    ∷ an_entry (event.Step (link M T Ctl) 0) answer.Ok (line.Note (note.Set 1 2) ∷ line.Send (link T M Ctl) (flight.Ctl (rec.Rcomp 2)) ∷ [])
    ∷ an_entry (event.Step (link T M Ctl) 0) answer.Ok (line.Send (link M A Ctl) (flight.Ctl (rec.Recfg 2)) ∷ line.Note note.Done ∷ [])
    ∷ an_entry (event.Step (link M A Ctl) 0) answer.Ok []
    ∷ an_entry (event.Submit 1 Dl (170 ∷ [])) answer.Ok (line.Send (link M A Feed) (flight.Sdu 1 2 (170 ∷ [])) ∷ [])
    ∷ an_entry (event.Step (link M A Feed) 0) answer.Ok (line.Send (link A T Air) (flight.Air 1 2 0 (Some 0) (128 ∷ 0 ∷ 170 ∷ [])) ∷ [])
    ∷ an_entry (event.Step (link A T Air) 0) answer.Ok (line.Note (note.Up T 1 Dl 0 (170 ∷ [])) ∷ line.Send (link T A Air) (flight.Ack 1 2 0) ∷ [])
    ∷ an_entry (event.Step (link T A Air) 0) answer.Ok (line.Send (link A M Feed) (flight.Told 1 2 1) ∷ [])
    ∷ an_entry (event.Reshape 1 (a_shape false Mcg false)) answer.Ok (line.Send (link M A Ctl) (flight.Ctl (rec.Modreq (a_plan 3 (Some A) (Set 1 S12 0 (a_shape false Mcg false) 0 0 (a_key 0 Master) (Some A) ∷ [])) [])) ∷ [])
    ∷ an_entry (event.Step (link M A Ctl) 0) answer.Ok (line.Note (note.Give A 1 3) ∷ line.Send (link A M Ctl) (flight.Ctl (rec.Modack 3)) ∷ line.Send (link A M Ctl) (flight.Ctl (rec.Snst (a_transfer 3 1 0 [] 1))) ∷ line.Send (link A M Tun) (flight.Tun None (52 ∷ 255 ∷ 0 ∷ 12 ∷ 0 ∷ 0 ∷ 1 ∷ 130 ∷ 0 ∷ 0 ∷ 0 ∷ 132 ∷ 2 ∷ 0 ∷ 0 ∷ 0 ∷ 0 ∷ 0 ∷ 0 ∷ 0 ∷ [])) ∷ line.Send (link A M Tun) (flight.Tun None (48 ∷ 254 ∷ 0 ∷ 0 ∷ 0 ∷ 0 ∷ 1 ∷ 130 ∷ [])) ∷ [])
    ∷ an_entry (event.Step (link A M Ctl) 0) answer.Ok (line.Send (link M T Ctl) (flight.Ctl (rec.Reconf (a_plan 3 (Some A) (Set 1 S12 0 (a_shape false Mcg false) 0 0 (a_key 0 Master) (Some A) ∷ [])) [])) ∷ line.Send (link M A Feed) (flight.End 1 3) ∷ [])
    ∷ an_entry (event.Step (link A M Ctl) 0) answer.Ok []
    ∷ an_entry (event.Step (link M T Ctl) 0) answer.Ok (line.Note (note.Set 1 3) ∷ line.Send (link T M Ctl) (flight.Ctl (rec.Rcomp 3)) ∷ [])
    ∷ an_entry (event.Step (link T M Ctl) 0) answer.Ok (line.Send (link M A Ctl) (flight.Ctl (rec.Recfg 3)) ∷ [])
    ∷ an_entry (event.Step (link M A Feed) 0) answer.Ok (line.Send (link A M Tun) (flight.Tun None (52 ∷ 255 ∷ 0 ∷ 12 ∷ 0 ∷ 0 ∷ 1 ∷ 129 ∷ 0 ∷ 0 ∷ 0 ∷ 132 ∷ 2 ∷ 0 ∷ 0 ∷ 0 ∷ 0 ∷ 0 ∷ 0 ∷ 0 ∷ [])) ∷ line.Send (link A M Tun) (flight.Tun None (48 ∷ 254 ∷ 0 ∷ 0 ∷ 0 ∷ 0 ∷ 1 ∷ 129 ∷ [])) ∷ [])
    ∷ an_entry (event.Step (link A M Tun) 0) answer.Ok []
    ∷ []

freed_at_an_adoption_is_wrong : breaks (a_header Nea0 0 (replicate 32 0)) (before_freed_at_an_adoption ++
    an_entry (event.Step (link A M Tun) 1) answer.Ok (line.Note (note.Own M 1 3) ∷ line.Note (note.Freed 1 Dl 1) ∷ line.Note note.Done ∷ [])
    ∷ []) ≡ told ∷ []
unfolding sn window modulus distance count_for data_pdu decoded read_data read_report keystream counter_block stream_blocks report_pdu
freed_at_an_adoption_is_wrong = refl

freed_at_an_adoption_is_right : breaks (a_header Nea0 0 (replicate 32 0)) (before_freed_at_an_adoption ++
    an_entry (event.Step (link A M Tun) 1) answer.Ok (line.Note (note.Own M 1 3) ∷ line.Note note.Done ∷ [])
    ∷ []) ≡ []
unfolding sn window modulus distance count_for data_pdu decoded read_data read_report keystream counter_block stream_blocks report_pdu
freed_at_an_adoption_is_right = refl

-- what comes before
abbrev before_freed_at_the_freeze : List Entry
before_freed_at_the_freeze =
    an_entry (event.Bearer 1 S12 0 (a_shape false Mcg false) 0 0) answer.Ok (line.Note (note.Own M 1 1) ∷ line.Send (link M T Ctl) (flight.Ctl (rec.Reconf (a_plan 1 None (Set 1 S12 0 (a_shape false Mcg false) 0 0 (a_key 0 Master) None ∷ [])) [])) ∷ [])
    ∷ an_entry (event.Step (link M T Ctl) 0) answer.Ok (line.Note (note.Set 1 1) ∷ line.Send (link T M Ctl) (flight.Ctl (rec.Rcomp 1)) ∷ [])
    ∷ an_entry (event.Step (link T M Ctl) 0) answer.Ok (line.Note note.Done ∷ [])
    ∷ an_entry (event.Submit 1 Dl (170 ∷ [])) answer.Ok (line.Send (link M T Air) (flight.Air 1 1 0 (Some 0) (128 ∷ 0 ∷ 170 ∷ [])) ∷ [])
    ∷ an_entry (event.Step (link M T Air) 0) answer.Ok (line.Note (note.Up T 1 Dl 0 (170 ∷ [])) ∷ line.Send (link T M Air) (flight.Ack 1 1 0) ∷ [])
    ∷ an_entry (event.Add A) answer.Ok (line.Send (link M A Ctl) (flight.Ctl (rec.Addreq (a_plan 2 (Some A) []) [])) ∷ [])
    ∷ an_entry (event.Step (link M A Ctl) 0) answer.Ok (line.Note (note.Join A 2) ∷ line.Send (link A M Ctl) (flight.Ctl (rec.Addack 2)) ∷ [])
    ∷ an_entry (event.Step (link A M Ctl) 0) answer.Ok (line.Send (link M T Ctl) (flight.Ctl (rec.Reconf (a_plan 2 (Some A) []) [])) ∷ [])
    ∷ an_entry (event.Step (link M T Ctl) 0) answer.Ok (line.Send (link T M Ctl) (flight.Ctl (rec.Rcomp 2)) ∷ [])
    ∷ an_entry (event.Step (link T M Ctl) 0) answer.Ok (line.Send (link M A Ctl) (flight.Ctl (rec.Recfg 2)) ∷ line.Note note.Done ∷ [])
    ∷ an_entry (event.Reshape 1 (a_shape true Scg false)) answer.Ok (line.Send (link M A Ctl) (flight.Ctl (rec.Modreq (a_plan 3 (Some A) (Set 1 S12 0 (a_shape true Scg false) 0 0 (a_key 0 (SecondKey 0)) (Some M) ∷ [])) [])) ∷ [])
    ∷ an_entry (event.Step (link M A Ctl) 0) answer.Ok []
    ∷ an_entry (event.Step (link M A Ctl) 0) answer.Ok (line.Send (link A M Ctl) (flight.Ctl (rec.Modack 3)) ∷ [])
    ∷ []

freed_at_the_freeze_is_wrong : breaks (a_header Nea0 0 (replicate 32 0)) (before_freed_at_the_freeze ++
    an_entry (event.Step (link A M Ctl) 0) answer.Ok (line.Note (note.Give M 1 3) ∷ line.Note (note.Freed 1 Dl 1) ∷ line.Send (link M T Ctl) (flight.Ctl (rec.Reconf (a_plan 3 (Some A) (Set 1 S12 0 (a_shape true Scg false) 0 0 (a_key 0 (SecondKey 0)) (Some M) ∷ [])) [])) ∷ line.Send (link M A Ctl) (flight.Ctl (rec.Snst (a_transfer 3 1 0 [] 1))) ∷ line.Send (link M A Tun) (flight.Tun None (52 ∷ 255 ∷ 0 ∷ 17 ∷ 0 ∷ 0 ∷ 1 ∷ 129 ∷ 0 ∷ 0 ∷ 0 ∷ 132 ∷ 2 ∷ 1 ∷ 0 ∷ 0 ∷ 0 ∷ 0 ∷ 0 ∷ 192 ∷ 1 ∷ 0 ∷ 0 ∷ 0 ∷ 170 ∷ [])) ∷ line.Send (link M A Tun) (flight.Tun None (52 ∷ 255 ∷ 0 ∷ 12 ∷ 0 ∷ 0 ∷ 1 ∷ 129 ∷ 0 ∷ 0 ∷ 0 ∷ 132 ∷ 2 ∷ 0 ∷ 0 ∷ 0 ∷ 1 ∷ 0 ∷ 0 ∷ 0 ∷ [])) ∷ line.Send (link M A Tun) (flight.Tun None (48 ∷ 254 ∷ 0 ∷ 0 ∷ 0 ∷ 0 ∷ 1 ∷ 129 ∷ [])) ∷ line.Send (link M A Tun) (flight.Tun None (52 ∷ 255 ∷ 0 ∷ 12 ∷ 0 ∷ 0 ∷ 1 ∷ 130 ∷ 0 ∷ 0 ∷ 0 ∷ 132 ∷ 2 ∷ 0 ∷ 0 ∷ 0 ∷ 0 ∷ 0 ∷ 0 ∷ 0 ∷ [])) ∷ line.Send (link M A Tun) (flight.Tun None (48 ∷ 254 ∷ 0 ∷ 0 ∷ 0 ∷ 0 ∷ 1 ∷ 130 ∷ [])) ∷ [])
    ∷ []) ≡ told ∷ []
unfolding sn window modulus distance count_for data_pdu decoded read_data read_report keystream counter_block stream_blocks report_pdu
freed_at_the_freeze_is_wrong = refl

freed_at_the_freeze_is_right : breaks (a_header Nea0 0 (replicate 32 0)) (before_freed_at_the_freeze ++
    an_entry (event.Step (link A M Ctl) 0) answer.Ok (line.Note (note.Give M 1 3) ∷ line.Send (link M T Ctl) (flight.Ctl (rec.Reconf (a_plan 3 (Some A) (Set 1 S12 0 (a_shape true Scg false) 0 0 (a_key 0 (SecondKey 0)) (Some M) ∷ [])) [])) ∷ line.Send (link M A Ctl) (flight.Ctl (rec.Snst (a_transfer 3 1 0 [] 1))) ∷ line.Send (link M A Tun) (flight.Tun None (52 ∷ 255 ∷ 0 ∷ 17 ∷ 0 ∷ 0 ∷ 1 ∷ 129 ∷ 0 ∷ 0 ∷ 0 ∷ 132 ∷ 2 ∷ 1 ∷ 0 ∷ 0 ∷ 0 ∷ 0 ∷ 0 ∷ 192 ∷ 1 ∷ 0 ∷ 0 ∷ 0 ∷ 170 ∷ [])) ∷ line.Send (link M A Tun) (flight.Tun None (52 ∷ 255 ∷ 0 ∷ 12 ∷ 0 ∷ 0 ∷ 1 ∷ 129 ∷ 0 ∷ 0 ∷ 0 ∷ 132 ∷ 2 ∷ 0 ∷ 0 ∷ 0 ∷ 1 ∷ 0 ∷ 0 ∷ 0 ∷ [])) ∷ line.Send (link M A Tun) (flight.Tun None (48 ∷ 254 ∷ 0 ∷ 0 ∷ 0 ∷ 0 ∷ 1 ∷ 129 ∷ [])) ∷ line.Send (link M A Tun) (flight.Tun None (52 ∷ 255 ∷ 0 ∷ 12 ∷ 0 ∷ 0 ∷ 1 ∷ 130 ∷ 0 ∷ 0 ∷ 0 ∷ 132 ∷ 2 ∷ 0 ∷ 0 ∷ 0 ∷ 0 ∷ 0 ∷ 0 ∷ 0 ∷ [])) ∷ line.Send (link M A Tun) (flight.Tun None (48 ∷ 254 ∷ 0 ∷ 0 ∷ 0 ∷ 0 ∷ 1 ∷ 130 ∷ [])) ∷ [])
    ∷ []) ≡ []
unfolding sn window modulus distance count_for data_pdu decoded read_data read_report keystream counter_block stream_blocks report_pdu
freed_at_the_freeze_is_right = refl

freed_in_the_entry_of_the_bearer_command_is_wrong : breaks (a_header Nea0 0 (replicate 32 0)) (
    an_entry (event.Bearer 1 S12 0 (a_shape false Mcg false) 0 0) answer.Ok (line.Note (note.Own M 1 1) ∷ line.Note (note.Freed 1 Ul 77) ∷ line.Send (link M T Ctl) (flight.Ctl (rec.Reconf (a_plan 1 None (Set 1 S12 0 (a_shape false Mcg false) 0 0 (a_key 0 Master) None ∷ [])) [])) ∷ [])
    ∷ []) ≡ told ∷ []
unfolding sn window modulus distance count_for data_pdu decoded read_data read_report keystream counter_block stream_blocks report_pdu
freed_in_the_entry_of_the_bearer_command_is_wrong = refl

freed_in_the_entry_of_the_bearer_command_is_right : breaks (a_header Nea0 0 (replicate 32 0)) (
    an_entry (event.Bearer 1 S12 0 (a_shape false Mcg false) 0 0) answer.Ok (line.Note (note.Own M 1 1) ∷ line.Send (link M T Ctl) (flight.Ctl (rec.Reconf (a_plan 1 None (Set 1 S12 0 (a_shape false Mcg false) 0 0 (a_key 0 Master) None ∷ [])) [])) ∷ [])
    ∷ []) ≡ []
unfolding sn window modulus distance count_for data_pdu decoded read_data read_report keystream counter_block stream_blocks report_pdu
freed_in_the_entry_of_the_bearer_command_is_right = refl

freed_line_missing_is_wrong : breaks (a_header Nea0 0 (replicate 32 0)) (before_flight_taken_twice ++
    an_entry (event.Step (link T M Air) 0) answer.Ok []
    ∷ []) ≡ told ∷ []
unfolding sn window modulus distance count_for data_pdu decoded read_data read_report keystream counter_block stream_blocks report_pdu
freed_line_missing_is_wrong = refl

freed_line_missing_is_right : breaks (a_header Nea0 0 (replicate 32 0)) (before_flight_taken_twice ++
    an_entry (event.Step (link T M Air) 0) answer.Ok (line.Note (note.Freed 1 Dl 1) ∷ [])
    ∷ []) ≡ []
unfolding sn window modulus distance count_for data_pdu decoded read_data read_report keystream counter_block stream_blocks report_pdu
freed_line_missing_is_right = refl

-- what comes before
abbrev before_freed_line_without_a_confirm : List Entry
before_freed_line_without_a_confirm =
    an_entry (event.Bearer 1 S12 0 (a_shape false Mcg false) 0 0) answer.Ok (line.Note (note.Own M 1 1) ∷ line.Send (link M T Ctl) (flight.Ctl (rec.Reconf (a_plan 1 None (Set 1 S12 0 (a_shape false Mcg false) 0 0 (a_key 0 Master) None ∷ [])) [])) ∷ [])
    ∷ an_entry (event.Step (link M T Ctl) 0) answer.Ok (line.Note (note.Set 1 1) ∷ line.Send (link T M Ctl) (flight.Ctl (rec.Rcomp 1)) ∷ [])
    ∷ an_entry (event.Step (link T M Ctl) 0) answer.Ok (line.Note note.Done ∷ [])
    ∷ an_entry (event.Submit 1 Dl (104 ∷ 105 ∷ [])) answer.Ok (line.Send (link M T Air) (flight.Air 1 1 0 (Some 0) (128 ∷ 0 ∷ 104 ∷ 105 ∷ [])) ∷ [])
    ∷ []

freed_line_without_a_confirm_is_wrong : breaks (a_header Nea0 0 (replicate 32 0)) (before_freed_line_without_a_confirm ++
    an_entry (event.Step (link M T Air) 0) answer.Ok (line.Note (note.Up T 1 Dl 0 (104 ∷ 105 ∷ [])) ∷ line.Note (note.Freed 1 Dl 1) ∷ line.Send (link T M Air) (flight.Ack 1 1 0) ∷ [])
    ∷ []) ≡ told ∷ []
unfolding sn window modulus distance count_for data_pdu decoded read_data read_report keystream counter_block stream_blocks report_pdu
freed_line_without_a_confirm_is_wrong = refl

freed_line_without_a_confirm_is_right : breaks (a_header Nea0 0 (replicate 32 0)) (before_freed_line_without_a_confirm ++
    an_entry (event.Step (link M T Air) 0) answer.Ok (line.Note (note.Up T 1 Dl 0 (104 ∷ 105 ∷ [])) ∷ line.Send (link T M Air) (flight.Ack 1 1 0) ∷ [])
    ∷ []) ≡ []
unfolding sn window modulus distance count_for data_pdu decoded read_data read_report keystream counter_block stream_blocks report_pdu
freed_line_without_a_confirm_is_right = refl

-- what comes before
abbrev before_freed_missing_at_a_told : List Entry
before_freed_missing_at_a_told =
    an_entry (event.Add A) answer.Ok (line.Send (link M A Ctl) (flight.Ctl (rec.Addreq (a_plan 1 (Some A) []) [])) ∷ [])
    ∷ an_entry (event.Step (link M A Ctl) 0) answer.Ok (line.Note (note.Join A 1) ∷ line.Send (link A M Ctl) (flight.Ctl (rec.Addack 1)) ∷ [])
    ∷ an_entry (event.Step (link A M Ctl) 0) answer.Ok (line.Send (link M T Ctl) (flight.Ctl (rec.Reconf (a_plan 1 (Some A) []) [])) ∷ [])
    ∷ an_entry (event.Step (link M T Ctl) 0) answer.Ok (line.Send (link T M Ctl) (flight.Ctl (rec.Rcomp 1)) ∷ [])
    ∷ an_entry (event.Step (link T M Ctl) 0) answer.Ok (line.Send (link M A Ctl) (flight.Ctl (rec.Recfg 1)) ∷ line.Note note.Done ∷ [])
    ∷ an_entry (event.Step (link M A Ctl) 0) answer.Ok []
    ∷ an_entry (event.Bearer 1 S12 0 (a_shape true Scg false) 0 0) answer.Ok (line.Send (link M A Ctl) (flight.Ctl (rec.Modreq (a_plan 2 (Some A) (Set 1 S12 0 (a_shape true Scg false) 0 0 (a_key 0 (SecondKey 0)) None ∷ [])) [])) ∷ [])
    ∷ an_entry (event.Step (link M A Ctl) 0) answer.Ok (line.Note (note.Own A 1 2) ∷ line.Send (link A M Ctl) (flight.Ctl (rec.Modack 2)) ∷ [])
    ∷ an_entry (event.Step (link A M Ctl) 0) answer.Ok (line.Send (link M T Ctl) (flight.Ctl (rec.Reconf (a_plan 2 (Some A) (Set 1 S12 0 (a_shape true Scg false) 0 0 (a_key 0 (SecondKey 0)) None ∷ [])) [])) ∷ [])
    ∷ an_entry (event.Step (link M T Ctl) 0) answer.Ok (line.Note (note.Set 1 2) ∷ line.Send (link T M Ctl) (flight.Ctl (rec.Rcomp 2)) ∷ [])
    ∷ an_entry (event.Step (link T M Ctl) 0) answer.Ok (line.Send (link M A Ctl) (flight.Ctl (rec.Recfg 2)) ∷ line.Note note.Done ∷ [])
    ∷ an_entry (event.Step (link M A Ctl) 0) answer.Ok []
    ∷ an_entry (event.Submit 1 Dl (170 ∷ [])) answer.Ok (line.Send (link M A Feed) (flight.Sdu 1 2 (170 ∷ [])) ∷ [])
    ∷ an_entry (event.Step (link M A Feed) 0) answer.Ok (line.Send (link A T Air) (flight.Air 1 2 0 (Some 0) (128 ∷ 0 ∷ 170 ∷ [])) ∷ [])
    ∷ an_entry (event.Step (link A T Air) 0) answer.Ok (line.Note (note.Up T 1 Dl 0 (170 ∷ [])) ∷ line.Send (link T A Air) (flight.Ack 1 2 0) ∷ [])
    ∷ an_entry (event.Step (link T A Air) 0) answer.Ok (line.Send (link A M Feed) (flight.Told 1 2 1) ∷ [])
    ∷ []

freed_missing_at_a_told_is_wrong : breaks (a_header Nea0 0 (replicate 32 0)) (before_freed_missing_at_a_told ++
    an_entry (event.Step (link A M Feed) 0) answer.Ok []
    ∷ []) ≡ told ∷ []
unfolding sn window modulus distance count_for data_pdu decoded read_data read_report keystream counter_block stream_blocks report_pdu
freed_missing_at_a_told_is_wrong = refl

freed_missing_at_a_told_is_right : breaks (a_header Nea0 0 (replicate 32 0)) (before_freed_missing_at_a_told ++
    an_entry (event.Step (link A M Feed) 0) answer.Ok (line.Note (note.Freed 1 Dl 1) ∷ [])
    ∷ []) ≡ []
unfolding sn window modulus distance count_for data_pdu decoded read_data read_report keystream counter_block stream_blocks report_pdu
freed_missing_at_a_told_is_right = refl

freed_of_an_identity_never_set_up_is_wrong : breaks (a_header Nea0 0 (replicate 32 0)) (
    an_entry (event.Submit 7 Dl (0 ∷ [])) (answer.No refusal.NoBearer) (line.Note (note.Freed 7 Dl 99) ∷ [])
    ∷ []) ≡ told ∷ []
unfolding sn window modulus distance count_for data_pdu decoded read_data read_report keystream counter_block stream_blocks report_pdu
freed_of_an_identity_never_set_up_is_wrong = refl

freed_of_an_identity_never_set_up_is_right : breaks (a_header Nea0 0 (replicate 32 0)) (
    an_entry (event.Submit 7 Dl (0 ∷ [])) (answer.No refusal.NoBearer) []
    ∷ []) ≡ []
unfolding sn window modulus distance count_for data_pdu decoded read_data read_report keystream counter_block stream_blocks report_pdu
freed_of_an_identity_never_set_up_is_right = refl

-- what comes before
abbrev before_freed_when_the_told_is_sent : List Entry
before_freed_when_the_told_is_sent =
    an_entry (event.Add A) answer.Ok (line.Send (link M A Ctl) (flight.Ctl (rec.Addreq (a_plan 1 (Some A) []) [])) ∷ [])
    ∷ an_entry (event.Step (link M A Ctl) 0) answer.Ok (line.Note (note.Join A 1) ∷ line.Send (link A M Ctl) (flight.Ctl (rec.Addack 1)) ∷ [])
    ∷ an_entry (event.Step (link A M Ctl) 0) answer.Ok (line.Send (link M T Ctl) (flight.Ctl (rec.Reconf (a_plan 1 (Some A) []) [])) ∷ [])
    ∷ an_entry (event.Step (link M T Ctl) 0) answer.Ok (line.Send (link T M Ctl) (flight.Ctl (rec.Rcomp 1)) ∷ [])
    ∷ an_entry (event.Step (link T M Ctl) 0) answer.Ok (line.Send (link M A Ctl) (flight.Ctl (rec.Recfg 1)) ∷ line.Note note.Done ∷ [])
    ∷ an_entry (event.Step (link M A Ctl) 0) answer.Ok []
    ∷ an_entry (event.Bearer 1 S12 0 (a_shape true Scg false) 0 0) answer.Ok (line.Send (link M A Ctl) (flight.Ctl (rec.Modreq (a_plan 2 (Some A) (Set 1 S12 0 (a_shape true Scg false) 0 0 (a_key 0 (SecondKey 0)) None ∷ [])) [])) ∷ [])
    ∷ an_entry (event.Step (link M A Ctl) 0) answer.Ok (line.Note (note.Own A 1 2) ∷ line.Send (link A M Ctl) (flight.Ctl (rec.Modack 2)) ∷ [])
    ∷ an_entry (event.Step (link A M Ctl) 0) answer.Ok (line.Send (link M T Ctl) (flight.Ctl (rec.Reconf (a_plan 2 (Some A) (Set 1 S12 0 (a_shape true Scg false) 0 0 (a_key 0 (SecondKey 0)) None ∷ [])) [])) ∷ [])
    ∷ an_entry (event.Step (link M T Ctl) 0) answer.Ok (line.Note (note.Set 1 2) ∷ line.Send (link T M Ctl) (flight.Ctl (rec.Rcomp 2)) ∷ [])
    ∷ an_entry (event.Step (link T M Ctl) 0) answer.Ok (line.Send (link M A Ctl) (flight.Ctl (rec.Recfg 2)) ∷ line.Note note.Done ∷ [])
    ∷ an_entry (event.Step (link M A Ctl) 0) answer.Ok []
    ∷ an_entry (event.Submit 1 Dl (170 ∷ [])) answer.Ok (line.Send (link M A Feed) (flight.Sdu 1 2 (170 ∷ [])) ∷ [])
    ∷ an_entry (event.Step (link M A Feed) 0) answer.Ok (line.Send (link A T Air) (flight.Air 1 2 0 (Some 0) (128 ∷ 0 ∷ 170 ∷ [])) ∷ [])
    ∷ an_entry (event.Step (link A T Air) 0) answer.Ok (line.Note (note.Up T 1 Dl 0 (170 ∷ [])) ∷ line.Send (link T A Air) (flight.Ack 1 2 0) ∷ [])
    ∷ []

freed_when_the_told_is_sent_is_wrong : breaks (a_header Nea0 0 (replicate 32 0)) (before_freed_when_the_told_is_sent ++
    an_entry (event.Step (link T A Air) 0) answer.Ok (line.Note (note.Freed 1 Dl 1) ∷ line.Send (link A M Feed) (flight.Told 1 2 1) ∷ [])
    ∷ []) ≡ told ∷ []
unfolding sn window modulus distance count_for data_pdu decoded read_data read_report keystream counter_block stream_blocks report_pdu
freed_when_the_told_is_sent_is_wrong = refl

freed_when_the_told_is_sent_is_right : breaks (a_header Nea0 0 (replicate 32 0)) (before_freed_when_the_told_is_sent ++
    an_entry (event.Step (link T A Air) 0) answer.Ok (line.Send (link A M Feed) (flight.Told 1 2 1) ∷ [])
    ∷ []) ≡ []
unfolding sn window modulus distance count_for data_pdu decoded read_data read_report keystream counter_block stream_blocks report_pdu
freed_when_the_told_is_sent_is_right = refl

-- what comes before
abbrev before_fresh_sdu_forwarded_with_an_sn : List Entry
before_fresh_sdu_forwarded_with_an_sn =
    an_entry (event.Add A) answer.Ok (line.Send (link M A Ctl) (flight.Ctl (rec.Addreq (a_plan 1 (Some A) []) [])) ∷ [])
    ∷ an_entry (event.Step (link M A Ctl) 0) answer.Ok (line.Note (note.Join A 1) ∷ line.Send (link A M Ctl) (flight.Ctl (rec.Addack 1)) ∷ [])
    ∷ an_entry (event.Step (link A M Ctl) 0) answer.Ok (line.Send (link M T Ctl) (flight.Ctl (rec.Reconf (a_plan 1 (Some A) []) [])) ∷ [])
    ∷ an_entry (event.Step (link M T Ctl) 0) answer.Ok (line.Send (link T M Ctl) (flight.Ctl (rec.Rcomp 1)) ∷ [])
    ∷ an_entry (event.Step (link T M Ctl) 0) answer.Ok (line.Send (link M A Ctl) (flight.Ctl (rec.Recfg 1)) ∷ line.Note note.Done ∷ [])
    ∷ an_entry (event.Step (link M A Ctl) 0) answer.Ok []
    ∷ an_entry (event.Bearer 1 S12 0 (a_shape true Scg false) 0 0) answer.Ok (line.Send (link M A Ctl) (flight.Ctl (rec.Modreq (a_plan 2 (Some A) (Set 1 S12 0 (a_shape true Scg false) 0 0 (a_key 0 (SecondKey 0)) None ∷ [])) [])) ∷ [])
    ∷ an_entry (event.Step (link M A Ctl) 0) answer.Ok (line.Note (note.Own A 1 2) ∷ line.Send (link A M Ctl) (flight.Ctl (rec.Modack 2)) ∷ [])
    ∷ an_entry (event.Step (link A M Ctl) 0) answer.Ok (line.Send (link M T Ctl) (flight.Ctl (rec.Reconf (a_plan 2 (Some A) (Set 1 S12 0 (a_shape true Scg false) 0 0 (a_key 0 (SecondKey 0)) None ∷ [])) [])) ∷ [])
    ∷ an_entry (event.Step (link M T Ctl) 0) answer.Ok (line.Note (note.Set 1 2) ∷ line.Send (link T M Ctl) (flight.Ctl (rec.Rcomp 2)) ∷ [])
    ∷ an_entry (event.Step (link T M Ctl) 0) answer.Ok (line.Send (link M A Ctl) (flight.Ctl (rec.Recfg 2)) ∷ line.Note note.Done ∷ [])
    ∷ an_entry (event.Step (link M A Ctl) 0) answer.Ok []
    ∷ an_entry (event.Submit 1 Dl (170 ∷ [])) answer.Ok (line.Send (link M A Feed) (flight.Sdu 1 2 (170 ∷ [])) ∷ [])
    ∷ an_entry (event.Submit 1 Dl (187 ∷ [])) answer.Ok (line.Send (link M A Feed) (flight.Sdu 1 2 (187 ∷ [])) ∷ [])
    ∷ an_entry (event.Reshape 1 (a_shape false Mcg false)) answer.Ok (line.Send (link M A Ctl) (flight.Ctl (rec.Modreq (a_plan 3 (Some A) (Set 1 S12 0 (a_shape false Mcg false) 0 0 (a_key 0 Master) (Some A) ∷ [])) [])) ∷ [])
    ∷ an_entry (event.Step (link M A Ctl) 0) answer.Ok (line.Note (note.Give A 1 3) ∷ line.Send (link A M Ctl) (flight.Ctl (rec.Modack 3)) ∷ line.Send (link A M Ctl) (flight.Ctl (rec.Snst (a_transfer 3 1 0 [] 0))) ∷ line.Send (link A M Tun) (flight.Tun None (52 ∷ 255 ∷ 0 ∷ 12 ∷ 0 ∷ 0 ∷ 1 ∷ 130 ∷ 0 ∷ 0 ∷ 0 ∷ 132 ∷ 2 ∷ 0 ∷ 0 ∷ 0 ∷ 0 ∷ 0 ∷ 0 ∷ 0 ∷ [])) ∷ line.Send (link A M Tun) (flight.Tun None (48 ∷ 254 ∷ 0 ∷ 0 ∷ 0 ∷ 0 ∷ 1 ∷ 130 ∷ [])) ∷ [])
    ∷ []

fresh_sdu_forwarded_with_an_sn_is_wrong : breaks (a_header Nea0 0 (replicate 32 0)) (before_fresh_sdu_forwarded_with_an_sn ++
    an_entry (event.Step (link M A Feed) 0) answer.Ok (line.Send (link A M Tun) (flight.Tun None (52 ∷ 255 ∷ 0 ∷ 17 ∷ 0 ∷ 0 ∷ 1 ∷ 129 ∷ 0 ∷ 0 ∷ 0 ∷ 132 ∷ 2 ∷ 1 ∷ 0 ∷ 0 ∷ 0 ∷ 0 ∷ 0 ∷ 192 ∷ 1 ∷ 0 ∷ 0 ∷ 0 ∷ 170 ∷ [])) ∷ [])
    ∷ []) ≡ licensed ∷ come ∷ []
unfolding sn window modulus distance count_for data_pdu decoded read_data read_report keystream counter_block stream_blocks report_pdu
fresh_sdu_forwarded_with_an_sn_is_wrong = refl

fresh_sdu_forwarded_with_an_sn_is_right : breaks (a_header Nea0 0 (replicate 32 0)) (before_fresh_sdu_forwarded_with_an_sn ++
    an_entry (event.Step (link M A Feed) 0) answer.Ok (line.Send (link A M Tun) (flight.Tun None (52 ∷ 255 ∷ 0 ∷ 13 ∷ 0 ∷ 0 ∷ 1 ∷ 129 ∷ 0 ∷ 0 ∷ 0 ∷ 132 ∷ 2 ∷ 1 ∷ 0 ∷ 0 ∷ 0 ∷ 0 ∷ 0 ∷ 0 ∷ 170 ∷ [])) ∷ [])
    ∷ []) ≡ []
unfolding sn window modulus distance count_for data_pdu decoded read_data read_report keystream counter_block stream_blocks report_pdu
fresh_sdu_forwarded_with_an_sn_is_right = refl

fresh_sdus_forwarded_in_another_order_is_wrong : breaks (a_header Nea0 0 (replicate 32 0)) (before_fresh_sdu_forwarded_with_an_sn ++
    an_entry (event.Step (link M A Feed) 0) answer.Ok (line.Send (link A M Tun) (flight.Tun None (52 ∷ 255 ∷ 0 ∷ 13 ∷ 0 ∷ 0 ∷ 1 ∷ 129 ∷ 0 ∷ 0 ∷ 0 ∷ 132 ∷ 2 ∷ 1 ∷ 0 ∷ 0 ∷ 0 ∷ 0 ∷ 0 ∷ 0 ∷ 187 ∷ [])) ∷ [])
    ∷ []) ≡ licensed ∷ []
unfolding sn window modulus distance count_for data_pdu decoded read_data read_report keystream counter_block stream_blocks report_pdu
fresh_sdus_forwarded_in_another_order_is_wrong = refl

fresh_sdus_forwarded_in_another_order_is_right : breaks (a_header Nea0 0 (replicate 32 0)) (before_fresh_sdu_forwarded_with_an_sn ++
    an_entry (event.Step (link M A Feed) 0) answer.Ok (line.Send (link A M Tun) (flight.Tun None (52 ∷ 255 ∷ 0 ∷ 13 ∷ 0 ∷ 0 ∷ 1 ∷ 129 ∷ 0 ∷ 0 ∷ 0 ∷ 132 ∷ 2 ∷ 1 ∷ 0 ∷ 0 ∷ 0 ∷ 0 ∷ 0 ∷ 0 ∷ 170 ∷ [])) ∷ [])
    ∷ []) ≡ []
unfolding sn window modulus distance count_for data_pdu decoded read_data read_report keystream counter_block stream_blocks report_pdu
fresh_sdus_forwarded_in_another_order_is_right = refl

generation_drawn_twice_is_wrong : breaks (a_header Nea0 0 (replicate 32 0)) (before_due_rootused_answered_ok ++
    an_entry (event.Add A) answer.Ok (line.Send (link M A Ctl) (flight.Ctl (rec.Addreq (a_plan 1 (Some A) []) [])) ∷ [])
    ∷ []) ≡ planned ∷ licensed ∷ come ∷ []
unfolding sn window modulus distance count_for data_pdu decoded read_data read_report keystream counter_block stream_blocks report_pdu
generation_drawn_twice_is_wrong = refl

generation_drawn_twice_is_right : breaks (a_header Nea0 0 (replicate 32 0)) (before_due_rootused_answered_ok ++
    an_entry (event.Add A) answer.Ok (line.Send (link M A Ctl) (flight.Ctl (rec.Addreq (a_plan 2 (Some A) []) [])) ∷ [])
    ∷ []) ≡ []
unfolding sn window modulus distance count_for data_pdu decoded read_data read_report keystream counter_block stream_blocks report_pdu
generation_drawn_twice_is_right = refl

generation_left_out_is_wrong : breaks (a_header Nea0 0 (replicate 32 0)) (
    an_entry (event.Bearer 1 S12 0 (a_shape false Mcg false) 0 0) answer.Ok (line.Note (note.Own M 1 2) ∷ line.Send (link M T Ctl) (flight.Ctl (rec.Reconf (a_plan 2 None (Set 1 S12 0 (a_shape false Mcg false) 0 0 (a_key 0 Master) None ∷ [])) [])) ∷ [])
    ∷ []) ≡ one_use ∷ holder ∷ planned ∷ licensed ∷ placed ∷ come ∷ []
unfolding sn window modulus distance count_for data_pdu decoded read_data read_report keystream counter_block stream_blocks report_pdu
generation_left_out_is_wrong = refl

generation_left_out_is_right : breaks (a_header Nea0 0 (replicate 32 0)) (
    an_entry (event.Bearer 1 S12 0 (a_shape false Mcg false) 0 0) answer.Ok (line.Note (note.Own M 1 1) ∷ line.Send (link M T Ctl) (flight.Ctl (rec.Reconf (a_plan 1 None (Set 1 S12 0 (a_shape false Mcg false) 0 0 (a_key 0 Master) None ∷ [])) [])) ∷ [])
    ∷ []) ≡ []
unfolding sn window modulus distance count_for data_pdu decoded read_data read_report keystream counter_block stream_blocks report_pdu
generation_left_out_is_right = refl

-- what comes before
abbrev before_give_at_a_node_that_does_not_hold : List Entry
before_give_at_a_node_that_does_not_hold =
    an_entry (event.Bearer 1 S12 0 (a_shape false Mcg false) 0 0) answer.Ok (line.Note (note.Own M 1 1) ∷ line.Send (link M T Ctl) (flight.Ctl (rec.Reconf (a_plan 1 None (Set 1 S12 0 (a_shape false Mcg false) 0 0 (a_key 0 Master) None ∷ [])) [])) ∷ [])
    ∷ an_entry (event.Step (link M T Ctl) 0) answer.Ok (line.Note (note.Set 1 1) ∷ line.Send (link T M Ctl) (flight.Ctl (rec.Rcomp 1)) ∷ [])
    ∷ an_entry (event.Step (link T M Ctl) 0) answer.Ok (line.Note note.Done ∷ [])
    ∷ an_entry (event.Add A) answer.Ok (line.Send (link M A Ctl) (flight.Ctl (rec.Addreq (a_plan 2 (Some A) []) [])) ∷ [])
    ∷ an_entry (event.Step (link M A Ctl) 0) answer.Ok (line.Note (note.Join A 2) ∷ line.Send (link A M Ctl) (flight.Ctl (rec.Addack 2)) ∷ [])
    ∷ an_entry (event.Step (link A M Ctl) 0) answer.Ok (line.Send (link M T Ctl) (flight.Ctl (rec.Reconf (a_plan 2 (Some A) []) [])) ∷ [])
    ∷ an_entry (event.Step (link M T Ctl) 0) answer.Ok (line.Send (link T M Ctl) (flight.Ctl (rec.Rcomp 2)) ∷ [])
    ∷ an_entry (event.Step (link T M Ctl) 0) answer.Ok (line.Send (link M A Ctl) (flight.Ctl (rec.Recfg 2)) ∷ line.Note note.Done ∷ [])
    ∷ an_entry (event.Reshape 1 (a_shape true Scg false)) answer.Ok (line.Send (link M A Ctl) (flight.Ctl (rec.Modreq (a_plan 3 (Some A) (Set 1 S12 0 (a_shape true Scg false) 0 0 (a_key 0 (SecondKey 0)) (Some M) ∷ [])) [])) ∷ [])
    ∷ an_entry (event.Step (link M A Ctl) 0) answer.Ok []
    ∷ []

give_at_a_node_that_does_not_hold_is_wrong : breaks (a_header Nea0 0 (replicate 32 0)) (before_give_at_a_node_that_does_not_hold ++
    an_entry (event.Step (link M A Ctl) 0) answer.Ok (line.Note (note.Give A 1 3) ∷ line.Send (link A M Ctl) (flight.Ctl (rec.Modack 3)) ∷ [])
    ∷ []) ≡ holder ∷ placed ∷ come ∷ []
unfolding sn window modulus distance count_for data_pdu decoded read_data read_report keystream counter_block stream_blocks report_pdu
give_at_a_node_that_does_not_hold_is_wrong = refl

give_at_a_node_that_does_not_hold_is_right : breaks (a_header Nea0 0 (replicate 32 0)) (before_give_at_a_node_that_does_not_hold ++
    an_entry (event.Step (link M A Ctl) 0) answer.Ok (line.Send (link A M Ctl) (flight.Ctl (rec.Modack 3)) ∷ [])
    ∷ []) ≡ []
unfolding sn window modulus distance count_for data_pdu decoded read_data read_report keystream counter_block stream_blocks report_pdu
give_at_a_node_that_does_not_hold_is_right = refl

give_line_missing_is_wrong : breaks (a_header Nea0 0 (replicate 32 0)) (before_end_marker_twice ++
    an_entry (event.Step (link A M Ctl) 0) answer.Ok (line.Send (link M T Ctl) (flight.Ctl (rec.Reconf (a_plan 3 (Some A) (Set 1 S12 0 (a_shape true Scg false) 0 0 (a_key 0 (SecondKey 0)) (Some M) ∷ [])) [])) ∷ line.Send (link M A Ctl) (flight.Ctl (rec.Snst (a_transfer 3 1 0 [] 0))) ∷ line.Send (link M A Tun) (flight.Tun None (52 ∷ 255 ∷ 0 ∷ 12 ∷ 0 ∷ 0 ∷ 1 ∷ 129 ∷ 0 ∷ 0 ∷ 0 ∷ 132 ∷ 2 ∷ 0 ∷ 0 ∷ 0 ∷ 0 ∷ 0 ∷ 0 ∷ 0 ∷ [])) ∷ line.Send (link M A Tun) (flight.Tun None (48 ∷ 254 ∷ 0 ∷ 0 ∷ 0 ∷ 0 ∷ 1 ∷ 129 ∷ [])) ∷ line.Send (link M A Tun) (flight.Tun None (52 ∷ 255 ∷ 0 ∷ 12 ∷ 0 ∷ 0 ∷ 1 ∷ 130 ∷ 0 ∷ 0 ∷ 0 ∷ 132 ∷ 2 ∷ 0 ∷ 0 ∷ 0 ∷ 0 ∷ 0 ∷ 0 ∷ 0 ∷ [])) ∷ line.Send (link M A Tun) (flight.Tun None (48 ∷ 254 ∷ 0 ∷ 0 ∷ 0 ∷ 0 ∷ 1 ∷ 130 ∷ [])) ∷ [])
    ∷ []) ≡ licensed ∷ come ∷ []
unfolding sn window modulus distance count_for data_pdu decoded read_data read_report keystream counter_block stream_blocks report_pdu
give_line_missing_is_wrong = refl

give_line_missing_is_right : breaks (a_header Nea0 0 (replicate 32 0)) (before_end_marker_twice ++
    an_entry (event.Step (link A M Ctl) 0) answer.Ok (line.Note (note.Give M 1 3) ∷ line.Send (link M T Ctl) (flight.Ctl (rec.Reconf (a_plan 3 (Some A) (Set 1 S12 0 (a_shape true Scg false) 0 0 (a_key 0 (SecondKey 0)) (Some M) ∷ [])) [])) ∷ line.Send (link M A Ctl) (flight.Ctl (rec.Snst (a_transfer 3 1 0 [] 0))) ∷ line.Send (link M A Tun) (flight.Tun None (52 ∷ 255 ∷ 0 ∷ 12 ∷ 0 ∷ 0 ∷ 1 ∷ 129 ∷ 0 ∷ 0 ∷ 0 ∷ 132 ∷ 2 ∷ 0 ∷ 0 ∷ 0 ∷ 0 ∷ 0 ∷ 0 ∷ 0 ∷ [])) ∷ line.Send (link M A Tun) (flight.Tun None (48 ∷ 254 ∷ 0 ∷ 0 ∷ 0 ∷ 0 ∷ 1 ∷ 129 ∷ [])) ∷ line.Send (link M A Tun) (flight.Tun None (52 ∷ 255 ∷ 0 ∷ 12 ∷ 0 ∷ 0 ∷ 1 ∷ 130 ∷ 0 ∷ 0 ∷ 0 ∷ 132 ∷ 2 ∷ 0 ∷ 0 ∷ 0 ∷ 0 ∷ 0 ∷ 0 ∷ 0 ∷ [])) ∷ line.Send (link M A Tun) (flight.Tun None (48 ∷ 254 ∷ 0 ∷ 0 ∷ 0 ∷ 0 ∷ 1 ∷ 130 ∷ [])) ∷ [])
    ∷ []) ≡ []
unfolding sn window modulus distance count_for data_pdu decoded read_data read_report keystream counter_block stream_blocks report_pdu
give_line_missing_is_right = refl

-- what comes before
abbrev before_host_alters_an_uplink_pdu : List Entry
before_host_alters_an_uplink_pdu =
    an_entry (event.Add A) answer.Ok (line.Send (link M A Ctl) (flight.Ctl (rec.Addreq (a_plan 1 (Some A) []) [])) ∷ [])
    ∷ an_entry (event.Step (link M A Ctl) 0) answer.Ok (line.Note (note.Join A 1) ∷ line.Send (link A M Ctl) (flight.Ctl (rec.Addack 1)) ∷ [])
    ∷ an_entry (event.Step (link A M Ctl) 0) answer.Ok (line.Send (link M T Ctl) (flight.Ctl (rec.Reconf (a_plan 1 (Some A) []) [])) ∷ [])
    ∷ an_entry (event.Step (link M T Ctl) 0) answer.Ok (line.Send (link T M Ctl) (flight.Ctl (rec.Rcomp 1)) ∷ [])
    ∷ an_entry (event.Step (link T M Ctl) 0) answer.Ok (line.Send (link M A Ctl) (flight.Ctl (rec.Recfg 1)) ∷ line.Note note.Done ∷ [])
    ∷ an_entry (event.Step (link M A Ctl) 0) answer.Ok []
    ∷ an_entry (event.Bearer 1 S12 0 (a_shape false Scg false) 0 0) answer.Ok (line.Send (link M A Ctl) (flight.Ctl (rec.Modreq (a_plan 2 (Some A) (Set 1 S12 0 (a_shape false Scg false) 0 0 (a_key 0 Master) None ∷ [])) [])) ∷ [])
    ∷ an_entry (event.Step (link M A Ctl) 0) answer.Ok (line.Send (link A M Ctl) (flight.Ctl (rec.Modack 2)) ∷ [])
    ∷ an_entry (event.Step (link A M Ctl) 0) answer.Ok (line.Note (note.Own M 1 2) ∷ line.Send (link M T Ctl) (flight.Ctl (rec.Reconf (a_plan 2 (Some A) (Set 1 S12 0 (a_shape false Scg false) 0 0 (a_key 0 Master) None ∷ [])) [])) ∷ [])
    ∷ an_entry (event.Step (link M T Ctl) 0) answer.Ok (line.Note (note.Set 1 2) ∷ line.Send (link T M Ctl) (flight.Ctl (rec.Rcomp 2)) ∷ [])
    ∷ an_entry (event.Step (link T M Ctl) 0) answer.Ok (line.Send (link M A Ctl) (flight.Ctl (rec.Recfg 2)) ∷ line.Note note.Done ∷ [])
    ∷ an_entry (event.Submit 1 Ul (187 ∷ [])) answer.Ok (line.Send (link T A Air) (flight.Air 1 2 0 (Some 0) (128 ∷ 0 ∷ 187 ∷ [])) ∷ [])
    ∷ []

host_alters_an_uplink_pdu_is_wrong : breaks (a_header Nea0 0 (replicate 32 0)) (before_host_alters_an_uplink_pdu ++
    an_entry (event.Step (link T A Air) 0) answer.Ok (line.Send (link A T Air) (flight.Ack 1 2 0) ∷ line.Send (link A M Tun) (flight.Tun (Some 0) (48 ∷ 255 ∷ 0 ∷ 3 ∷ 0 ∷ 0 ∷ 1 ∷ 0 ∷ 128 ∷ 0 ∷ 186 ∷ [])) ∷ [])
    ∷ []) ≡ protected ∷ licensed ∷ []
unfolding sn window modulus distance count_for data_pdu decoded read_data read_report keystream counter_block stream_blocks report_pdu
host_alters_an_uplink_pdu_is_wrong = refl

host_alters_an_uplink_pdu_is_right : breaks (a_header Nea0 0 (replicate 32 0)) (before_host_alters_an_uplink_pdu ++
    an_entry (event.Step (link T A Air) 0) answer.Ok (line.Send (link A T Air) (flight.Ack 1 2 0) ∷ line.Send (link A M Tun) (flight.Tun (Some 0) (48 ∷ 255 ∷ 0 ∷ 3 ∷ 0 ∷ 0 ∷ 1 ∷ 0 ∷ 128 ∷ 0 ∷ 187 ∷ [])) ∷ [])
    ∷ []) ≡ []
unfolding sn window modulus distance count_for data_pdu decoded read_data read_report keystream counter_block stream_blocks report_pdu
host_alters_an_uplink_pdu_is_right = refl

-- what comes before
abbrev before_host_passes_a_pdu_on_twice : List Entry
before_host_passes_a_pdu_on_twice =
    an_entry (event.Add A) answer.Ok (line.Send (link M A Ctl) (flight.Ctl (rec.Addreq (a_plan 1 (Some A) []) [])) ∷ [])
    ∷ an_entry (event.Step (link M A Ctl) 0) answer.Ok (line.Note (note.Join A 1) ∷ line.Send (link A M Ctl) (flight.Ctl (rec.Addack 1)) ∷ [])
    ∷ an_entry (event.Step (link A M Ctl) 0) answer.Ok (line.Send (link M T Ctl) (flight.Ctl (rec.Reconf (a_plan 1 (Some A) []) [])) ∷ [])
    ∷ an_entry (event.Step (link M T Ctl) 0) answer.Ok (line.Send (link T M Ctl) (flight.Ctl (rec.Rcomp 1)) ∷ [])
    ∷ an_entry (event.Step (link T M Ctl) 0) answer.Ok (line.Send (link M A Ctl) (flight.Ctl (rec.Recfg 1)) ∷ line.Note note.Done ∷ [])
    ∷ an_entry (event.Step (link M A Ctl) 0) answer.Ok []
    ∷ an_entry (event.Bearer 1 S12 0 (a_shape false Scg false) 0 0) answer.Ok (line.Send (link M A Ctl) (flight.Ctl (rec.Modreq (a_plan 2 (Some A) (Set 1 S12 0 (a_shape false Scg false) 0 0 (a_key 0 Master) None ∷ [])) [])) ∷ [])
    ∷ an_entry (event.Step (link M A Ctl) 0) answer.Ok (line.Send (link A M Ctl) (flight.Ctl (rec.Modack 2)) ∷ [])
    ∷ an_entry (event.Step (link A M Ctl) 0) answer.Ok (line.Note (note.Own M 1 2) ∷ line.Send (link M T Ctl) (flight.Ctl (rec.Reconf (a_plan 2 (Some A) (Set 1 S12 0 (a_shape false Scg false) 0 0 (a_key 0 Master) None ∷ [])) [])) ∷ [])
    ∷ an_entry (event.Step (link M T Ctl) 0) answer.Ok (line.Note (note.Set 1 2) ∷ line.Send (link T M Ctl) (flight.Ctl (rec.Rcomp 2)) ∷ [])
    ∷ an_entry (event.Step (link T M Ctl) 0) answer.Ok (line.Send (link M A Ctl) (flight.Ctl (rec.Recfg 2)) ∷ line.Note note.Done ∷ [])
    ∷ an_entry (event.Step (link M A Ctl) 0) answer.Ok []
    ∷ an_entry (event.Submit 1 Dl (170 ∷ [])) answer.Ok (line.Send (link M A Tun) (flight.Tun (Some 0) (52 ∷ 255 ∷ 0 ∷ 15 ∷ 0 ∷ 0 ∷ 1 ∷ 0 ∷ 0 ∷ 0 ∷ 0 ∷ 132 ∷ 2 ∷ 1 ∷ 0 ∷ 0 ∷ 0 ∷ 0 ∷ 0 ∷ 0 ∷ 128 ∷ 0 ∷ 170 ∷ [])) ∷ [])
    ∷ []

host_passes_a_pdu_on_twice_is_wrong : breaks (a_header Nea0 0 (replicate 32 0)) (before_host_passes_a_pdu_on_twice ++
    an_entry (event.Step (link M A Tun) 0) answer.Ok (line.Send (link A T Air) (flight.Air 1 2 0 (Some 0) (128 ∷ 0 ∷ 170 ∷ [])) ∷ line.Send (link A T Air) (flight.Air 1 2 1 (Some 0) (128 ∷ 0 ∷ 170 ∷ [])) ∷ [])
    ∷ []) ≡ licensed ∷ []
unfolding sn window modulus distance count_for data_pdu decoded read_data read_report keystream counter_block stream_blocks report_pdu
host_passes_a_pdu_on_twice_is_wrong = refl

host_passes_a_pdu_on_twice_is_right : breaks (a_header Nea0 0 (replicate 32 0)) (before_host_passes_a_pdu_on_twice ++
    an_entry (event.Step (link M A Tun) 0) answer.Ok (line.Send (link A T Air) (flight.Air 1 2 0 (Some 0) (128 ∷ 0 ∷ 170 ∷ [])) ∷ [])
    ∷ []) ≡ []
unfolding sn window modulus distance count_for data_pdu decoded read_data read_report keystream counter_block stream_blocks report_pdu
host_passes_a_pdu_on_twice_is_right = refl

-- what comes before
abbrev before_host_passes_on_a_number_that_it_has_had : List Entry
before_host_passes_on_a_number_that_it_has_had =
    an_entry (event.Add A) answer.Ok (line.Send (link M A Ctl) (flight.Ctl (rec.Addreq (a_plan 1 (Some A) []) [])) ∷ [])
    ∷ an_entry (event.Step (link M A Ctl) 0) answer.Ok (line.Note (note.Join A 1) ∷ line.Send (link A M Ctl) (flight.Ctl (rec.Addack 1)) ∷ [])
    ∷ an_entry (event.Step (link A M Ctl) 0) answer.Ok (line.Send (link M T Ctl) (flight.Ctl (rec.Reconf (a_plan 1 (Some A) []) [])) ∷ [])
    ∷ an_entry (event.Step (link M T Ctl) 0) answer.Ok (line.Send (link T M Ctl) (flight.Ctl (rec.Rcomp 1)) ∷ [])
    ∷ an_entry (event.Step (link T M Ctl) 0) answer.Ok (line.Send (link M A Ctl) (flight.Ctl (rec.Recfg 1)) ∷ line.Note note.Done ∷ [])
    ∷ an_entry (event.Step (link M A Ctl) 0) answer.Ok []
    ∷ an_entry (event.Bearer 1 S12 0 (a_shape false Scg false) 0 0) answer.Ok (line.Send (link M A Ctl) (flight.Ctl (rec.Modreq (a_plan 2 (Some A) (Set 1 S12 0 (a_shape false Scg false) 0 0 (a_key 0 Master) None ∷ [])) [])) ∷ [])
    ∷ an_entry (event.Step (link M A Ctl) 0) answer.Ok (line.Send (link A M Ctl) (flight.Ctl (rec.Modack 2)) ∷ [])
    ∷ an_entry (event.Step (link A M Ctl) 0) answer.Ok (line.Note (note.Own M 1 2) ∷ line.Send (link M T Ctl) (flight.Ctl (rec.Reconf (a_plan 2 (Some A) (Set 1 S12 0 (a_shape false Scg false) 0 0 (a_key 0 Master) None ∷ [])) [])) ∷ [])
    ∷ an_entry (event.Step (link M T Ctl) 0) answer.Ok (line.Note (note.Set 1 2) ∷ line.Send (link T M Ctl) (flight.Ctl (rec.Rcomp 2)) ∷ [])
    ∷ an_entry (event.Step (link T M Ctl) 0) answer.Ok (line.Send (link M A Ctl) (flight.Ctl (rec.Recfg 2)) ∷ line.Note note.Done ∷ [])
    ∷ an_entry (event.Step (link M A Ctl) 0) answer.Ok []
    ∷ an_entry (event.Submit 1 Dl (170 ∷ [])) answer.Ok (line.Send (link M A Tun) (flight.Tun (Some 0) (52 ∷ 255 ∷ 0 ∷ 15 ∷ 0 ∷ 0 ∷ 1 ∷ 0 ∷ 0 ∷ 0 ∷ 0 ∷ 132 ∷ 2 ∷ 1 ∷ 0 ∷ 0 ∷ 0 ∷ 0 ∷ 0 ∷ 0 ∷ 128 ∷ 0 ∷ 170 ∷ [])) ∷ [])
    ∷ an_entry (event.Again (link M A Tun) 0) answer.Ok (line.Send (link M A Tun) (flight.Tun (Some 0) (52 ∷ 255 ∷ 0 ∷ 15 ∷ 0 ∷ 0 ∷ 1 ∷ 0 ∷ 0 ∷ 0 ∷ 0 ∷ 132 ∷ 2 ∷ 1 ∷ 0 ∷ 0 ∷ 0 ∷ 0 ∷ 0 ∷ 0 ∷ 128 ∷ 0 ∷ 170 ∷ [])) ∷ [])
    ∷ an_entry (event.Step (link M A Tun) 0) answer.Ok (line.Send (link A T Air) (flight.Air 1 2 0 (Some 0) (128 ∷ 0 ∷ 170 ∷ [])) ∷ [])
    ∷ []

host_passes_on_a_number_that_it_has_had_is_wrong : breaks (a_header Nea0 0 (replicate 32 0)) (before_host_passes_on_a_number_that_it_has_had ++
    an_entry (event.Step (link M A Tun) 0) answer.Ok (line.Send (link A T Air) (flight.Air 1 2 1 (Some 0) (128 ∷ 0 ∷ 170 ∷ [])) ∷ [])
    ∷ []) ≡ []
unfolding sn window modulus distance count_for data_pdu decoded read_data read_report keystream counter_block stream_blocks report_pdu
host_passes_on_a_number_that_it_has_had_is_wrong = refl

host_passes_on_a_number_that_it_has_had_is_right : breaks (a_header Nea0 0 (replicate 32 0)) (before_host_passes_on_a_number_that_it_has_had ++
    an_entry (event.Step (link M A Tun) 0) answer.Ok []
    ∷ []) ≡ []
unfolding sn window modulus distance count_for data_pdu decoded read_data read_report keystream counter_block stream_blocks report_pdu
host_passes_on_a_number_that_it_has_had_is_right = refl

-- what comes before
abbrev before_host_passes_on_another_pdu_than_it_took : List Entry
before_host_passes_on_another_pdu_than_it_took =
    an_entry (event.Add A) answer.Ok (line.Send (link M A Ctl) (flight.Ctl (rec.Addreq (a_plan 1 (Some A) []) [])) ∷ [])
    ∷ an_entry (event.Step (link M A Ctl) 0) answer.Ok (line.Note (note.Join A 1) ∷ line.Send (link A M Ctl) (flight.Ctl (rec.Addack 1)) ∷ [])
    ∷ an_entry (event.Step (link A M Ctl) 0) answer.Ok (line.Send (link M T Ctl) (flight.Ctl (rec.Reconf (a_plan 1 (Some A) []) [])) ∷ [])
    ∷ an_entry (event.Step (link M T Ctl) 0) answer.Ok (line.Send (link T M Ctl) (flight.Ctl (rec.Rcomp 1)) ∷ [])
    ∷ an_entry (event.Step (link T M Ctl) 0) answer.Ok (line.Send (link M A Ctl) (flight.Ctl (rec.Recfg 1)) ∷ line.Note note.Done ∷ [])
    ∷ an_entry (event.Step (link M A Ctl) 0) answer.Ok []
    ∷ an_entry (event.Bearer 1 S12 0 (a_shape false Scg false) 0 0) answer.Ok (line.Send (link M A Ctl) (flight.Ctl (rec.Modreq (a_plan 2 (Some A) (Set 1 S12 0 (a_shape false Scg false) 0 0 (a_key 0 Master) None ∷ [])) [])) ∷ [])
    ∷ an_entry (event.Step (link M A Ctl) 0) answer.Ok (line.Send (link A M Ctl) (flight.Ctl (rec.Modack 2)) ∷ [])
    ∷ an_entry (event.Step (link A M Ctl) 0) answer.Ok (line.Note (note.Own M 1 2) ∷ line.Send (link M T Ctl) (flight.Ctl (rec.Reconf (a_plan 2 (Some A) (Set 1 S12 0 (a_shape false Scg false) 0 0 (a_key 0 Master) None ∷ [])) [])) ∷ [])
    ∷ an_entry (event.Step (link M T Ctl) 0) answer.Ok (line.Note (note.Set 1 2) ∷ line.Send (link T M Ctl) (flight.Ctl (rec.Rcomp 2)) ∷ [])
    ∷ an_entry (event.Step (link T M Ctl) 0) answer.Ok (line.Send (link M A Ctl) (flight.Ctl (rec.Recfg 2)) ∷ line.Note note.Done ∷ [])
    ∷ an_entry (event.Step (link M A Ctl) 0) answer.Ok []
    ∷ an_entry (event.Submit 1 Dl (170 ∷ [])) answer.Ok (line.Send (link M A Tun) (flight.Tun (Some 0) (52 ∷ 255 ∷ 0 ∷ 15 ∷ 0 ∷ 0 ∷ 1 ∷ 0 ∷ 0 ∷ 0 ∷ 0 ∷ 132 ∷ 2 ∷ 1 ∷ 0 ∷ 0 ∷ 0 ∷ 0 ∷ 0 ∷ 0 ∷ 128 ∷ 0 ∷ 170 ∷ [])) ∷ [])
    ∷ an_entry (event.Submit 1 Dl (187 ∷ [])) answer.Ok (line.Send (link M A Tun) (flight.Tun (Some 1) (52 ∷ 255 ∷ 0 ∷ 15 ∷ 0 ∷ 0 ∷ 1 ∷ 0 ∷ 0 ∷ 0 ∷ 0 ∷ 132 ∷ 2 ∷ 1 ∷ 0 ∷ 0 ∷ 1 ∷ 0 ∷ 0 ∷ 0 ∷ 128 ∷ 1 ∷ 187 ∷ [])) ∷ [])
    ∷ []

host_passes_on_another_pdu_than_it_took_is_wrong : breaks (a_header Nea0 0 (replicate 32 0)) (before_host_passes_on_another_pdu_than_it_took ++
    an_entry (event.Step (link M A Tun) 0) answer.Ok (line.Send (link A T Air) (flight.Air 1 2 0 (Some 1) (128 ∷ 1 ∷ 187 ∷ [])) ∷ [])
    ∷ []) ≡ protected ∷ holder ∷ licensed ∷ []
unfolding sn window modulus distance count_for data_pdu decoded read_data read_report keystream counter_block stream_blocks report_pdu
host_passes_on_another_pdu_than_it_took_is_wrong = refl

host_passes_on_another_pdu_than_it_took_is_right : breaks (a_header Nea0 0 (replicate 32 0)) (before_host_passes_on_another_pdu_than_it_took ++
    an_entry (event.Step (link M A Tun) 0) answer.Ok (line.Send (link A T Air) (flight.Air 1 2 0 (Some 0) (128 ∷ 0 ∷ 170 ∷ [])) ∷ [])
    ∷ []) ≡ []
unfolding sn window modulus distance count_for data_pdu decoded read_data read_report keystream counter_block stream_blocks report_pdu
host_passes_on_another_pdu_than_it_took_is_right = refl

host_passes_on_under_another_generation_is_wrong : breaks (a_header Nea0 0 (replicate 32 0)) (before_host_passes_a_pdu_on_twice ++
    an_entry (event.Step (link M A Tun) 0) answer.Ok (line.Send (link A T Air) (flight.Air 1 1 0 (Some 0) (128 ∷ 0 ∷ 170 ∷ [])) ∷ [])
    ∷ []) ≡ protected ∷ one_use ∷ holder ∷ licensed ∷ all_of_it ∷ []
unfolding sn window modulus distance count_for data_pdu decoded read_data read_report keystream counter_block stream_blocks report_pdu
host_passes_on_under_another_generation_is_wrong = refl

host_passes_on_under_another_generation_is_right : breaks (a_header Nea0 0 (replicate 32 0)) (before_host_passes_a_pdu_on_twice ++
    an_entry (event.Step (link M A Tun) 0) answer.Ok (line.Send (link A T Air) (flight.Air 1 2 0 (Some 0) (128 ∷ 0 ∷ 170 ∷ [])) ∷ [])
    ∷ []) ≡ []
unfolding sn window modulus distance count_for data_pdu decoded read_data read_report keystream counter_block stream_blocks report_pdu
host_passes_on_under_another_generation_is_right = refl

host_passes_on_with_another_tag_is_wrong : breaks (a_header Nea0 0 (replicate 32 0)) (before_host_passes_on_another_pdu_than_it_took ++
    an_entry (event.Step (link M A Tun) 0) answer.Ok (line.Send (link A T Air) (flight.Air 1 2 0 (Some 1) (128 ∷ 0 ∷ 170 ∷ [])) ∷ [])
    ∷ []) ≡ protected ∷ holder ∷ licensed ∷ []
unfolding sn window modulus distance count_for data_pdu decoded read_data read_report keystream counter_block stream_blocks report_pdu
host_passes_on_with_another_tag_is_wrong = refl

host_passes_on_with_another_tag_is_right : breaks (a_header Nea0 0 (replicate 32 0)) (before_host_passes_on_another_pdu_than_it_took ++
    an_entry (event.Step (link M A Tun) 0) answer.Ok (line.Send (link A T Air) (flight.Air 1 2 0 (Some 0) (128 ∷ 0 ∷ 170 ∷ [])) ∷ [])
    ∷ []) ≡ []
unfolding sn window modulus distance count_for data_pdu decoded read_data read_report keystream counter_block stream_blocks report_pdu
host_passes_on_with_another_tag_is_right = refl

host_swallows_a_pdu_undisturbed_is_wrong : breaks (a_header Nea0 0 (replicate 32 0)) (before_host_passes_a_pdu_on_twice ++
    an_entry (event.Step (link M A Tun) 0) answer.Ok []
    ∷ []) ≡ all_of_it ∷ []
unfolding sn window modulus distance count_for data_pdu decoded read_data read_report keystream counter_block stream_blocks report_pdu
host_swallows_a_pdu_undisturbed_is_wrong = refl

host_swallows_a_pdu_undisturbed_is_right : breaks (a_header Nea0 0 (replicate 32 0)) (before_host_passes_a_pdu_on_twice ++
    an_entry (event.Step (link M A Tun) 0) answer.Ok (line.Send (link A T Air) (flight.Air 1 2 0 (Some 0) (128 ∷ 0 ∷ 170 ∷ [])) ∷ [])
    ∷ []) ≡ []
unfolding sn window modulus distance count_for data_pdu decoded read_data read_report keystream counter_block stream_blocks report_pdu
host_swallows_a_pdu_undisturbed_is_right = refl

-- what comes before
abbrev before_join_line_missing : List Entry
before_join_line_missing =
    an_entry (event.Add A) answer.Ok (line.Send (link M A Ctl) (flight.Ctl (rec.Addreq (a_plan 1 (Some A) []) [])) ∷ [])
    ∷ []

join_line_missing_is_wrong : breaks (a_header Nea0 0 (replicate 32 0)) (before_join_line_missing ++
    an_entry (event.Step (link M A Ctl) 0) answer.Ok (line.Send (link A M Ctl) (flight.Ctl (rec.Addack 1)) ∷ [])
    ∷ []) ≡ come ∷ []
unfolding sn window modulus distance count_for data_pdu decoded read_data read_report keystream counter_block stream_blocks report_pdu
join_line_missing_is_wrong = refl

join_line_missing_is_right : breaks (a_header Nea0 0 (replicate 32 0)) (before_join_line_missing ++
    an_entry (event.Step (link M A Ctl) 0) answer.Ok (line.Note (note.Join A 1) ∷ line.Send (link A M Ctl) (flight.Ctl (rec.Addack 1)) ∷ [])
    ∷ []) ≡ []
unfolding sn window modulus distance count_for data_pdu decoded read_data read_report keystream counter_block stream_blocks report_pdu
join_line_missing_is_right = refl

-- what comes before
abbrev before_leave_line_missing : List Entry
before_leave_line_missing =
    an_entry (event.Add A) answer.Ok (line.Send (link M A Ctl) (flight.Ctl (rec.Addreq (a_plan 1 (Some A) []) [])) ∷ [])
    ∷ an_entry (event.Step (link M A Ctl) 0) answer.Ok (line.Note (note.Join A 1) ∷ line.Send (link A M Ctl) (flight.Ctl (rec.Addack 1)) ∷ [])
    ∷ an_entry (event.Step (link A M Ctl) 0) answer.Ok (line.Send (link M T Ctl) (flight.Ctl (rec.Reconf (a_plan 1 (Some A) []) [])) ∷ [])
    ∷ an_entry (event.Step (link M T Ctl) 0) answer.Ok (line.Send (link T M Ctl) (flight.Ctl (rec.Rcomp 1)) ∷ [])
    ∷ an_entry (event.Step (link T M Ctl) 0) answer.Ok (line.Send (link M A Ctl) (flight.Ctl (rec.Recfg 1)) ∷ line.Note note.Done ∷ [])
    ∷ an_entry (event.Step (link M A Ctl) 0) answer.Ok []
    ∷ an_entry (event.Release) answer.Ok (line.Send (link M A Ctl) (flight.Ctl (rec.Relreq (a_plan 2 None []))) ∷ [])
    ∷ []

leave_line_missing_is_wrong : breaks (a_header Nea0 0 (replicate 32 0)) (before_leave_line_missing ++
    an_entry (event.Step (link M A Ctl) 0) answer.Ok (line.Send (link A M Ctl) (flight.Ctl (rec.Relack 2)) ∷ [])
    ∷ []) ≡ come ∷ []
unfolding sn window modulus distance count_for data_pdu decoded read_data read_report keystream counter_block stream_blocks report_pdu
leave_line_missing_is_wrong = refl

leave_line_missing_is_right : breaks (a_header Nea0 0 (replicate 32 0)) (before_leave_line_missing ++
    an_entry (event.Step (link M A Ctl) 0) answer.Ok (line.Note (note.Leave A 2) ∷ line.Send (link A M Ctl) (flight.Ctl (rec.Relack 2)) ∷ [])
    ∷ []) ≡ []
unfolding sn window modulus distance count_for data_pdu decoded read_data read_report keystream counter_block stream_blocks report_pdu
leave_line_missing_is_right = refl

leave_line_of_no_secondary_is_wrong : breaks (a_header Nea0 0 (replicate 32 0)) (
    an_entry (event.Bearer 1 S12 0 (a_shape false Mcg false) 0 0) answer.Ok (line.Note (note.Leave B 9) ∷ line.Note (note.Own M 1 1) ∷ line.Send (link M T Ctl) (flight.Ctl (rec.Reconf (a_plan 1 None (Set 1 S12 0 (a_shape false Mcg false) 0 0 (a_key 0 Master) None ∷ [])) [])) ∷ [])
    ∷ []) ≡ placed ∷ []
unfolding sn window modulus distance count_for data_pdu decoded read_data read_report keystream counter_block stream_blocks report_pdu
leave_line_of_no_secondary_is_wrong = refl

leave_line_of_no_secondary_is_right : breaks (a_header Nea0 0 (replicate 32 0)) (
    an_entry (event.Bearer 1 S12 0 (a_shape false Mcg false) 0 0) answer.Ok (line.Note (note.Own M 1 1) ∷ line.Send (link M T Ctl) (flight.Ctl (rec.Reconf (a_plan 1 None (Set 1 S12 0 (a_shape false Mcg false) 0 0 (a_key 0 Master) None ∷ [])) [])) ∷ [])
    ∷ []) ≡ []
unfolding sn window modulus distance count_for data_pdu decoded read_data read_report keystream counter_block stream_blocks report_pdu
leave_line_of_no_secondary_is_right = refl

-- what comes before
abbrev before_listed_number_not_sent_again : List Entry
before_listed_number_not_sent_again =
    an_entry (event.Add A) answer.Ok (line.Send (link M A Ctl) (flight.Ctl (rec.Addreq (a_plan 1 (Some A) []) [])) ∷ [])
    ∷ an_entry (event.Step (link M A Ctl) 0) answer.Ok (line.Note (note.Join A 1) ∷ line.Send (link A M Ctl) (flight.Ctl (rec.Addack 1)) ∷ [])
    ∷ an_entry (event.Step (link A M Ctl) 0) answer.Ok (line.Send (link M T Ctl) (flight.Ctl (rec.Reconf (a_plan 1 (Some A) []) [])) ∷ [])
    ∷ an_entry (event.Step (link M T Ctl) 0) answer.Ok (line.Send (link T M Ctl) (flight.Ctl (rec.Rcomp 1)) ∷ [])
    ∷ an_entry (event.Step (link T M Ctl) 0) answer.Ok (line.Send (link M A Ctl) (flight.Ctl (rec.Recfg 1)) ∷ line.Note note.Done ∷ [])
    ∷ an_entry (event.Step (link M A Ctl) 0) answer.Ok []
    ∷ an_entry (event.Bearer 1 S12 0 (a_shape false Scg false) 0 0) answer.Ok (line.Send (link M A Ctl) (flight.Ctl (rec.Modreq (a_plan 2 (Some A) (Set 1 S12 0 (a_shape false Scg false) 0 0 (a_key 0 Master) None ∷ [])) [])) ∷ [])
    ∷ an_entry (event.Step (link M A Ctl) 0) answer.Ok (line.Send (link A M Ctl) (flight.Ctl (rec.Modack 2)) ∷ [])
    ∷ an_entry (event.Step (link A M Ctl) 0) answer.Ok (line.Note (note.Own M 1 2) ∷ line.Send (link M T Ctl) (flight.Ctl (rec.Reconf (a_plan 2 (Some A) (Set 1 S12 0 (a_shape false Scg false) 0 0 (a_key 0 Master) None ∷ [])) [])) ∷ [])
    ∷ an_entry (event.Step (link M T Ctl) 0) answer.Ok (line.Note (note.Set 1 2) ∷ line.Send (link T M Ctl) (flight.Ctl (rec.Rcomp 2)) ∷ [])
    ∷ an_entry (event.Step (link T M Ctl) 0) answer.Ok (line.Send (link M A Ctl) (flight.Ctl (rec.Recfg 2)) ∷ line.Note note.Done ∷ [])
    ∷ an_entry (event.Step (link M A Ctl) 0) answer.Ok []
    ∷ an_entry (event.Submit 1 Dl (170 ∷ [])) answer.Ok (line.Send (link M A Tun) (flight.Tun (Some 0) (52 ∷ 255 ∷ 0 ∷ 15 ∷ 0 ∷ 0 ∷ 1 ∷ 0 ∷ 0 ∷ 0 ∷ 0 ∷ 132 ∷ 2 ∷ 1 ∷ 0 ∷ 0 ∷ 0 ∷ 0 ∷ 0 ∷ 0 ∷ 128 ∷ 0 ∷ 170 ∷ [])) ∷ [])
    ∷ an_entry (event.Submit 1 Dl (187 ∷ [])) answer.Ok (line.Send (link M A Tun) (flight.Tun (Some 1) (52 ∷ 255 ∷ 0 ∷ 15 ∷ 0 ∷ 0 ∷ 1 ∷ 0 ∷ 0 ∷ 0 ∷ 0 ∷ 132 ∷ 2 ∷ 1 ∷ 0 ∷ 0 ∷ 1 ∷ 0 ∷ 0 ∷ 0 ∷ 128 ∷ 1 ∷ 187 ∷ [])) ∷ [])
    ∷ an_entry (event.Step (link M A Tun) 1) answer.Ok (line.Send (link A T Air) (flight.Air 1 2 0 (Some 1) (128 ∷ 1 ∷ 187 ∷ [])) ∷ [])
    ∷ an_entry (event.Step (link A T Air) 0) answer.Ok (line.Send (link T A Air) (flight.Ack 1 2 0) ∷ [])
    ∷ an_entry (event.Step (link T A Air) 0) answer.Ok (line.Send (link A M Tun) (flight.Tun (Some 1) (52 ∷ 255 ∷ 0 ∷ 20 ∷ 0 ∷ 0 ∷ 1 ∷ 0 ∷ 0 ∷ 0 ∷ 0 ∷ 132 ∷ 4 ∷ 17 ∷ 1 ∷ 0 ∷ 0 ∷ 1 ∷ 0 ∷ 0 ∷ 0 ∷ 0 ∷ 0 ∷ 0 ∷ 0 ∷ 0 ∷ 0 ∷ 0 ∷ [])) ∷ [])
    ∷ []

listed_number_not_sent_again_is_wrong : breaks (a_header Nea0 0 (replicate 32 0)) (before_listed_number_not_sent_again ++
    an_entry (event.Step (link A M Tun) 0) answer.Ok []
    ∷ []) ≡ come ∷ []
unfolding sn window modulus distance count_for data_pdu decoded read_data read_report keystream counter_block stream_blocks report_pdu
listed_number_not_sent_again_is_wrong = refl

listed_number_not_sent_again_is_right : breaks (a_header Nea0 0 (replicate 32 0)) (before_listed_number_not_sent_again ++
    an_entry (event.Step (link A M Tun) 0) answer.Ok (line.Send (link M A Tun) (flight.Tun (Some 0) (52 ∷ 255 ∷ 0 ∷ 15 ∷ 0 ∷ 0 ∷ 1 ∷ 0 ∷ 0 ∷ 0 ∷ 0 ∷ 132 ∷ 2 ∷ 3 ∷ 0 ∷ 0 ∷ 2 ∷ 0 ∷ 0 ∷ 0 ∷ 128 ∷ 0 ∷ 170 ∷ [])) ∷ [])
    ∷ []) ≡ []
unfolding sn window modulus distance count_for data_pdu decoded read_data read_report keystream counter_block stream_blocks report_pdu
listed_number_not_sent_again_is_right = refl

listed_number_sent_again_twice_is_wrong : breaks (a_header Nea0 0 (replicate 32 0)) (before_listed_number_not_sent_again ++
    an_entry (event.Step (link A M Tun) 0) answer.Ok (line.Send (link M A Tun) (flight.Tun (Some 0) (52 ∷ 255 ∷ 0 ∷ 15 ∷ 0 ∷ 0 ∷ 1 ∷ 0 ∷ 0 ∷ 0 ∷ 0 ∷ 132 ∷ 2 ∷ 3 ∷ 0 ∷ 0 ∷ 2 ∷ 0 ∷ 0 ∷ 0 ∷ 128 ∷ 0 ∷ 170 ∷ [])) ∷ line.Send (link M A Tun) (flight.Tun (Some 0) (52 ∷ 255 ∷ 0 ∷ 15 ∷ 0 ∷ 0 ∷ 1 ∷ 0 ∷ 0 ∷ 0 ∷ 0 ∷ 132 ∷ 2 ∷ 3 ∷ 0 ∷ 0 ∷ 3 ∷ 0 ∷ 0 ∷ 0 ∷ 128 ∷ 0 ∷ 170 ∷ [])) ∷ [])
    ∷ []) ≡ licensed ∷ []
unfolding sn window modulus distance count_for data_pdu decoded read_data read_report keystream counter_block stream_blocks report_pdu
listed_number_sent_again_twice_is_wrong = refl

listed_number_sent_again_twice_is_right : breaks (a_header Nea0 0 (replicate 32 0)) (before_listed_number_not_sent_again ++
    an_entry (event.Step (link A M Tun) 0) answer.Ok (line.Send (link M A Tun) (flight.Tun (Some 0) (52 ∷ 255 ∷ 0 ∷ 15 ∷ 0 ∷ 0 ∷ 1 ∷ 0 ∷ 0 ∷ 0 ∷ 0 ∷ 132 ∷ 2 ∷ 3 ∷ 0 ∷ 0 ∷ 2 ∷ 0 ∷ 0 ∷ 0 ∷ 128 ∷ 0 ∷ 170 ∷ [])) ∷ [])
    ∷ []) ≡ []
unfolding sn window modulus distance count_for data_pdu decoded read_data read_report keystream counter_block stream_blocks report_pdu
listed_number_sent_again_twice_is_right = refl

-- what comes before
abbrev before_lost_flight_taken : List Entry
before_lost_flight_taken =
    an_entry (event.Add A) answer.Ok (line.Send (link M A Ctl) (flight.Ctl (rec.Addreq (a_plan 1 (Some A) []) [])) ∷ [])
    ∷ an_entry (event.Step (link M A Ctl) 0) answer.Ok (line.Note (note.Join A 1) ∷ line.Send (link A M Ctl) (flight.Ctl (rec.Addack 1)) ∷ [])
    ∷ an_entry (event.Step (link A M Ctl) 0) answer.Ok (line.Send (link M T Ctl) (flight.Ctl (rec.Reconf (a_plan 1 (Some A) []) [])) ∷ [])
    ∷ an_entry (event.Step (link M T Ctl) 0) answer.Ok (line.Send (link T M Ctl) (flight.Ctl (rec.Rcomp 1)) ∷ [])
    ∷ an_entry (event.Step (link T M Ctl) 0) answer.Ok (line.Send (link M A Ctl) (flight.Ctl (rec.Recfg 1)) ∷ line.Note note.Done ∷ [])
    ∷ an_entry (event.Step (link M A Ctl) 0) answer.Ok []
    ∷ an_entry (event.Bearer 1 S12 0 (a_shape false Scg false) 0 0) answer.Ok (line.Send (link M A Ctl) (flight.Ctl (rec.Modreq (a_plan 2 (Some A) (Set 1 S12 0 (a_shape false Scg false) 0 0 (a_key 0 Master) None ∷ [])) [])) ∷ [])
    ∷ an_entry (event.Step (link M A Ctl) 0) answer.Ok (line.Send (link A M Ctl) (flight.Ctl (rec.Modack 2)) ∷ [])
    ∷ an_entry (event.Step (link A M Ctl) 0) answer.Ok (line.Note (note.Own M 1 2) ∷ line.Send (link M T Ctl) (flight.Ctl (rec.Reconf (a_plan 2 (Some A) (Set 1 S12 0 (a_shape false Scg false) 0 0 (a_key 0 Master) None ∷ [])) [])) ∷ [])
    ∷ an_entry (event.Step (link M T Ctl) 0) answer.Ok (line.Note (note.Set 1 2) ∷ line.Send (link T M Ctl) (flight.Ctl (rec.Rcomp 2)) ∷ [])
    ∷ an_entry (event.Step (link T M Ctl) 0) answer.Ok (line.Send (link M A Ctl) (flight.Ctl (rec.Recfg 2)) ∷ line.Note note.Done ∷ [])
    ∷ an_entry (event.Step (link M A Ctl) 0) answer.Ok []
    ∷ an_entry (event.Submit 1 Dl (170 ∷ [])) answer.Ok (line.Send (link M A Tun) (flight.Tun (Some 0) (52 ∷ 255 ∷ 0 ∷ 15 ∷ 0 ∷ 0 ∷ 1 ∷ 0 ∷ 0 ∷ 0 ∷ 0 ∷ 132 ∷ 2 ∷ 1 ∷ 0 ∷ 0 ∷ 0 ∷ 0 ∷ 0 ∷ 0 ∷ 128 ∷ 0 ∷ 170 ∷ [])) ∷ [])
    ∷ an_entry (event.Lose (link M A Tun) 0) answer.Ok []
    ∷ []

lost_flight_taken_is_wrong : breaks (a_header Nea0 0 (replicate 32 0)) (before_lost_flight_taken ++
    an_entry (event.Step (link M A Tun) 0) answer.Ok (line.Send (link A T Air) (flight.Air 1 2 0 (Some 0) (128 ∷ 0 ∷ 170 ∷ [])) ∷ [])
    ∷ []) ≡ protected ∷ holder ∷ licensed ∷ cause ∷ []
unfolding sn window modulus distance count_for data_pdu decoded read_data read_report keystream counter_block stream_blocks report_pdu
lost_flight_taken_is_wrong = refl

lost_flight_taken_is_right : breaks (a_header Nea0 0 (replicate 32 0)) (before_lost_flight_taken ++
    an_entry (event.Step (link M A Tun) 0) (answer.No refusal.NoFlight) []
    ∷ []) ≡ []
unfolding sn window modulus distance count_for data_pdu decoded read_data read_report keystream counter_block stream_blocks report_pdu
lost_flight_taken_is_right = refl

modrqd_twice_for_one_want_is_wrong : breaks (a_header Nea0 0 (replicate 32 0)) (before_due_secondarythere_answered_ok ++
    an_entry (event.Ask A want.Rekey) answer.Ok (line.Send (link A M Ctl) (flight.Ctl (rec.Modrqd)) ∷ line.Send (link A M Ctl) (flight.Ctl (rec.Modrqd)) ∷ [])
    ∷ []) ≡ licensed ∷ []
unfolding sn window modulus distance count_for data_pdu decoded read_data read_report keystream counter_block stream_blocks report_pdu
modrqd_twice_for_one_want_is_wrong = refl

modrqd_twice_for_one_want_is_right : breaks (a_header Nea0 0 (replicate 32 0)) (before_due_secondarythere_answered_ok ++
    an_entry (event.Ask A want.Rekey) answer.Ok (line.Send (link A M Ctl) (flight.Ctl (rec.Modrqd)) ∷ [])
    ∷ []) ≡ []
unfolding sn window modulus distance count_for data_pdu decoded read_data read_report keystream counter_block stream_blocks report_pdu
modrqd_twice_for_one_want_is_right = refl

-- what comes before
abbrev before_moved_bearer_keeps_the_master_key : List Entry
before_moved_bearer_keeps_the_master_key =
    an_entry (event.Bearer 1 S12 0 (a_shape false Mcg false) 0 0) answer.Ok (line.Note (note.Own M 1 1) ∷ line.Send (link M T Ctl) (flight.Ctl (rec.Reconf (a_plan 1 None (Set 1 S12 0 (a_shape false Mcg false) 0 0 (a_key 0 Master) None ∷ [])) [])) ∷ [])
    ∷ an_entry (event.Step (link M T Ctl) 0) answer.Ok (line.Note (note.Set 1 1) ∷ line.Send (link T M Ctl) (flight.Ctl (rec.Rcomp 1)) ∷ [])
    ∷ an_entry (event.Step (link T M Ctl) 0) answer.Ok (line.Note note.Done ∷ [])
    ∷ an_entry (event.Add A) answer.Ok (line.Send (link M A Ctl) (flight.Ctl (rec.Addreq (a_plan 2 (Some A) []) [])) ∷ [])
    ∷ an_entry (event.Step (link M A Ctl) 0) answer.Ok (line.Note (note.Join A 2) ∷ line.Send (link A M Ctl) (flight.Ctl (rec.Addack 2)) ∷ [])
    ∷ an_entry (event.Step (link A M Ctl) 0) answer.Ok (line.Send (link M T Ctl) (flight.Ctl (rec.Reconf (a_plan 2 (Some A) []) [])) ∷ [])
    ∷ an_entry (event.Step (link M T Ctl) 0) answer.Ok (line.Send (link T M Ctl) (flight.Ctl (rec.Rcomp 2)) ∷ [])
    ∷ an_entry (event.Step (link T M Ctl) 0) answer.Ok (line.Send (link M A Ctl) (flight.Ctl (rec.Recfg 2)) ∷ line.Note note.Done ∷ [])
    ∷ []

moved_bearer_keeps_the_master_key_is_wrong : breaks (a_header Nea0 0 (replicate 32 0)) (before_moved_bearer_keeps_the_master_key ++
    an_entry (event.Reshape 1 (a_shape true Scg false)) answer.Ok (line.Send (link M A Ctl) (flight.Ctl (rec.Modreq (a_plan 3 (Some A) (Set 1 S12 0 (a_shape true Scg false) 0 0 (a_key 0 Master) (Some M) ∷ [])) [])) ∷ [])
    ∷ []) ≡ planned ∷ []
unfolding sn window modulus distance count_for data_pdu decoded read_data read_report keystream counter_block stream_blocks report_pdu
moved_bearer_keeps_the_master_key_is_wrong = refl

moved_bearer_keeps_the_master_key_is_right : breaks (a_header Nea0 0 (replicate 32 0)) (before_moved_bearer_keeps_the_master_key ++
    an_entry (event.Reshape 1 (a_shape true Scg false)) answer.Ok (line.Send (link M A Ctl) (flight.Ctl (rec.Modreq (a_plan 3 (Some A) (Set 1 S12 0 (a_shape true Scg false) 0 0 (a_key 0 (SecondKey 0)) (Some M) ∷ [])) [])) ∷ [])
    ∷ []) ≡ []
unfolding sn window modulus distance count_for data_pdu decoded read_data read_report keystream counter_block stream_blocks report_pdu
moved_bearer_keeps_the_master_key_is_right = refl

moved_without_an_adoption_is_wrong : breaks (a_header Nea0 0 (replicate 32 0)) (before_give_at_a_node_that_does_not_hold ++
    an_entry (event.Step (link M A Ctl) 0) answer.Ok (line.Send (link A M Ctl) (flight.Ctl (rec.Modack 3)) ∷ line.Send (link A M Ctl) (flight.Ctl (rec.Moved 3 1)) ∷ [])
    ∷ []) ≡ licensed ∷ []
unfolding sn window modulus distance count_for data_pdu decoded read_data read_report keystream counter_block stream_blocks report_pdu
moved_without_an_adoption_is_wrong = refl

moved_without_an_adoption_is_right : breaks (a_header Nea0 0 (replicate 32 0)) (before_give_at_a_node_that_does_not_hold ++
    an_entry (event.Step (link M A Ctl) 0) answer.Ok (line.Send (link A M Ctl) (flight.Ctl (rec.Modack 3)) ∷ [])
    ∷ []) ≡ []
unfolding sn window modulus distance count_for data_pdu decoded read_data read_report keystream counter_block stream_blocks report_pdu
moved_without_an_adoption_is_right = refl

not_due_addrej_is_wrong : breaks (a_header Nea0 0 (replicate 32 0)) (before_join_line_missing ++
    an_entry (event.Step (link M A Ctl) 0) answer.Ok (line.Send (link A M Ctl) (flight.Ctl (rec.Addrej 1)) ∷ [])
    ∷ []) ≡ licensed ∷ come ∷ replied ∷ []
unfolding sn window modulus distance count_for data_pdu decoded read_data read_report keystream counter_block stream_blocks report_pdu
not_due_addrej_is_wrong = refl

not_due_addrej_is_right : breaks (a_header Nea0 0 (replicate 32 0)) (before_join_line_missing ++
    an_entry (event.Step (link M A Ctl) 0) answer.Ok (line.Note (note.Join A 1) ∷ line.Send (link A M Ctl) (flight.Ctl (rec.Addack 1)) ∷ [])
    ∷ []) ≡ []
unfolding sn window modulus distance count_for data_pdu decoded read_data read_report keystream counter_block stream_blocks report_pdu
not_due_addrej_is_right = refl

not_due_aged_is_wrong : breaks (a_header Nea0 0 (replicate 32 0)) (before_freed_line_without_a_confirm ++
    an_entry (event.Step (link M T Air) 0) (answer.No refusal.Aged) []
    ∷ []) ≡ cause ∷ all_of_it ∷ []
unfolding sn window modulus distance count_for data_pdu decoded read_data read_report keystream counter_block stream_blocks report_pdu
not_due_aged_is_wrong = refl

not_due_aged_is_right : breaks (a_header Nea0 0 (replicate 32 0)) (before_freed_line_without_a_confirm ++
    an_entry (event.Step (link M T Air) 0) answer.Ok (line.Note (note.Up T 1 Dl 0 (104 ∷ 105 ∷ [])) ∷ line.Send (link T M Air) (flight.Ack 1 1 0) ∷ [])
    ∷ []) ≡ []
unfolding sn window modulus distance count_for data_pdu decoded read_data read_report keystream counter_block stream_blocks report_pdu
not_due_aged_is_right = refl

not_due_bearerthere_is_wrong : breaks (a_header Nea0 0 (replicate 32 0)) (before_due_rootused_answered_ok ++
    an_entry (event.Bearer 2 S12 0 (a_shape false Mcg false) 0 0) (answer.No refusal.BearerThere) []
    ∷ []) ≡ cause ∷ []
unfolding sn window modulus distance count_for data_pdu decoded read_data read_report keystream counter_block stream_blocks report_pdu
not_due_bearerthere_is_wrong = refl

not_due_bearerthere_is_right : breaks (a_header Nea0 0 (replicate 32 0)) (before_due_rootused_answered_ok ++
    an_entry (event.Bearer 2 S12 0 (a_shape false Mcg false) 0 0) answer.Ok (line.Note (note.Own M 2 2) ∷ line.Send (link M T Ctl) (flight.Ctl (rec.Reconf (a_plan 2 None (Set 2 S12 0 (a_shape false Mcg false) 0 0 (a_key 0 Master) None ∷ [])) [])) ∷ [])
    ∷ []) ≡ []
unfolding sn window modulus distance count_for data_pdu decoded read_data read_report keystream counter_block stream_blocks report_pdu
not_due_bearerthere_is_right = refl

not_due_busy_is_wrong : breaks (a_header Nea0 0 (replicate 32 0)) (before_due_rootused_answered_ok ++
    an_entry (event.Recover 1) (answer.No refusal.Busy) []
    ∷ []) ≡ cause ∷ []
unfolding sn window modulus distance count_for data_pdu decoded read_data read_report keystream counter_block stream_blocks report_pdu
not_due_busy_is_wrong = refl

not_due_busy_is_right : breaks (a_header Nea0 0 (replicate 32 0)) (before_due_rootused_answered_ok ++
    an_entry (event.Recover 1) answer.Ok (line.Send (link M T Ctl) (flight.Ctl (rec.Recov 1)) ∷ [])
    ∷ []) ≡ []
unfolding sn window modulus distance count_for data_pdu decoded read_data read_report keystream counter_block stream_blocks report_pdu
not_due_busy_is_right = refl

-- what comes before
abbrev before_not_due_busy_of_want_while_a_command_is_open : List Entry
before_not_due_busy_of_want_while_a_command_is_open =
    an_entry (event.Add A) answer.Ok (line.Send (link M A Ctl) (flight.Ctl (rec.Addreq (a_plan 1 (Some A) []) [])) ∷ [])
    ∷ an_entry (event.Step (link M A Ctl) 0) answer.Ok (line.Note (note.Join A 1) ∷ line.Send (link A M Ctl) (flight.Ctl (rec.Addack 1)) ∷ [])
    ∷ an_entry (event.Step (link A M Ctl) 0) answer.Ok (line.Send (link M T Ctl) (flight.Ctl (rec.Reconf (a_plan 1 (Some A) []) [])) ∷ [])
    ∷ an_entry (event.Step (link M T Ctl) 0) answer.Ok (line.Send (link T M Ctl) (flight.Ctl (rec.Rcomp 1)) ∷ [])
    ∷ an_entry (event.Step (link T M Ctl) 0) answer.Ok (line.Send (link M A Ctl) (flight.Ctl (rec.Recfg 1)) ∷ line.Note note.Done ∷ [])
    ∷ an_entry (event.Step (link M A Ctl) 0) answer.Ok []
    ∷ an_entry (event.Bearer 1 S12 0 (a_shape false Mcg false) 0 0) answer.Ok (line.Note (note.Own M 1 2) ∷ line.Send (link M T Ctl) (flight.Ctl (rec.Reconf (a_plan 2 (Some A) (Set 1 S12 0 (a_shape false Mcg false) 0 0 (a_key 0 Master) None ∷ [])) [])) ∷ [])
    ∷ []

not_due_busy_of_want_while_a_command_is_open_is_wrong : breaks (a_header Nea0 0 (replicate 32 0)) (before_not_due_busy_of_want_while_a_command_is_open ++
    an_entry (event.Ask A want.Rekey) (answer.No refusal.Busy) []
    ∷ []) ≡ cause ∷ []
unfolding sn window modulus distance count_for data_pdu decoded read_data read_report keystream counter_block stream_blocks report_pdu
not_due_busy_of_want_while_a_command_is_open_is_wrong = refl

not_due_busy_of_want_while_a_command_is_open_is_right : breaks (a_header Nea0 0 (replicate 32 0)) (before_not_due_busy_of_want_while_a_command_is_open ++
    an_entry (event.Ask A want.Rekey) answer.Ok (line.Send (link A M Ctl) (flight.Ctl (rec.Modrqd)) ∷ [])
    ∷ []) ≡ []
unfolding sn window modulus distance count_for data_pdu decoded read_data read_report keystream counter_block stream_blocks report_pdu
not_due_busy_of_want_while_a_command_is_open_is_right = refl

-- what comes before
abbrev before_not_due_chgref_busy : List Entry
before_not_due_chgref_busy =
    an_entry (event.Add A) answer.Ok (line.Send (link M A Ctl) (flight.Ctl (rec.Addreq (a_plan 1 (Some A) []) [])) ∷ [])
    ∷ an_entry (event.Step (link M A Ctl) 0) answer.Ok (line.Note (note.Join A 1) ∷ line.Send (link A M Ctl) (flight.Ctl (rec.Addack 1)) ∷ [])
    ∷ an_entry (event.Step (link A M Ctl) 0) answer.Ok (line.Send (link M T Ctl) (flight.Ctl (rec.Reconf (a_plan 1 (Some A) []) [])) ∷ [])
    ∷ an_entry (event.Step (link M T Ctl) 0) answer.Ok (line.Send (link T M Ctl) (flight.Ctl (rec.Rcomp 1)) ∷ [])
    ∷ an_entry (event.Step (link T M Ctl) 0) answer.Ok (line.Send (link M A Ctl) (flight.Ctl (rec.Recfg 1)) ∷ line.Note note.Done ∷ [])
    ∷ an_entry (event.Step (link M A Ctl) 0) answer.Ok []
    ∷ an_entry (event.Ask A want.Change) answer.Ok (line.Send (link A M Ctl) (flight.Ctl (rec.Chgrqd)) ∷ [])
    ∷ []

not_due_chgref_busy_is_wrong : breaks (a_header Nea0 0 (replicate 32 0)) (before_not_due_chgref_busy ++
    an_entry (event.Step (link A M Ctl) 0) answer.Ok (line.Send (link M A Ctl) (flight.Ctl (rec.Chgref word.Busy)) ∷ [])
    ∷ []) ≡ licensed ∷ replied ∷ []
unfolding sn window modulus distance count_for data_pdu decoded read_data read_report keystream counter_block stream_blocks report_pdu
not_due_chgref_busy_is_wrong = refl

not_due_chgref_busy_is_right : breaks (a_header Nea0 0 (replicate 32 0)) (before_not_due_chgref_busy ++
    an_entry (event.Step (link A M Ctl) 0) answer.Ok (line.Note (note.Begin want.Change) ∷ line.Send (link M B Ctl) (flight.Ctl (rec.Addreq (a_plan 2 (Some B) []) [])) ∷ [])
    ∷ []) ≡ []
unfolding sn window modulus distance count_for data_pdu decoded read_data read_report keystream counter_block stream_blocks report_pdu
not_due_chgref_busy_is_right = refl

not_due_chgref_counterspent_is_wrong : breaks (a_header Nea0 0 (replicate 32 0)) (before_not_due_chgref_busy ++
    an_entry (event.Step (link A M Ctl) 0) answer.Ok (line.Send (link M A Ctl) (flight.Ctl (rec.Chgref word.CounterSpent)) ∷ [])
    ∷ []) ≡ licensed ∷ replied ∷ []
unfolding sn window modulus distance count_for data_pdu decoded read_data read_report keystream counter_block stream_blocks report_pdu
not_due_chgref_counterspent_is_wrong = refl

not_due_chgref_counterspent_is_right : breaks (a_header Nea0 0 (replicate 32 0)) (before_not_due_chgref_busy ++
    an_entry (event.Step (link A M Ctl) 0) answer.Ok (line.Note (note.Begin want.Change) ∷ line.Send (link M B Ctl) (flight.Ctl (rec.Addreq (a_plan 2 (Some B) []) [])) ∷ [])
    ∷ []) ≡ []
unfolding sn window modulus distance count_for data_pdu decoded read_data read_report keystream counter_block stream_blocks report_pdu
not_due_chgref_counterspent_is_right = refl

not_due_chgref_nosecondary_is_wrong : breaks (a_header Nea0 0 (replicate 32 0)) (before_not_due_chgref_busy ++
    an_entry (event.Step (link A M Ctl) 0) answer.Ok (line.Send (link M A Ctl) (flight.Ctl (rec.Chgref word.NoSecondary)) ∷ [])
    ∷ []) ≡ licensed ∷ replied ∷ []
unfolding sn window modulus distance count_for data_pdu decoded read_data read_report keystream counter_block stream_blocks report_pdu
not_due_chgref_nosecondary_is_wrong = refl

not_due_chgref_nosecondary_is_right : breaks (a_header Nea0 0 (replicate 32 0)) (before_not_due_chgref_busy ++
    an_entry (event.Step (link A M Ctl) 0) answer.Ok (line.Note (note.Begin want.Change) ∷ line.Send (link M B Ctl) (flight.Ctl (rec.Addreq (a_plan 2 (Some B) []) [])) ∷ [])
    ∷ []) ≡ []
unfolding sn window modulus distance count_for data_pdu decoded read_data read_report keystream counter_block stream_blocks report_pdu
not_due_chgref_nosecondary_is_right = refl

-- what comes before
abbrev before_not_due_chgref_rejected : List Entry
before_not_due_chgref_rejected =
    an_entry (event.Add A) answer.Ok (line.Send (link M A Ctl) (flight.Ctl (rec.Addreq (a_plan 1 (Some A) []) [])) ∷ [])
    ∷ an_entry (event.Step (link M A Ctl) 0) answer.Ok (line.Note (note.Join A 1) ∷ line.Send (link A M Ctl) (flight.Ctl (rec.Addack 1)) ∷ [])
    ∷ an_entry (event.Step (link A M Ctl) 0) answer.Ok (line.Send (link M T Ctl) (flight.Ctl (rec.Reconf (a_plan 1 (Some A) []) [])) ∷ [])
    ∷ an_entry (event.Step (link M T Ctl) 0) answer.Ok (line.Send (link T M Ctl) (flight.Ctl (rec.Rcomp 1)) ∷ [])
    ∷ an_entry (event.Step (link T M Ctl) 0) answer.Ok (line.Send (link M A Ctl) (flight.Ctl (rec.Recfg 1)) ∷ line.Note note.Done ∷ [])
    ∷ an_entry (event.Step (link M A Ctl) 0) answer.Ok []
    ∷ an_entry (event.Change) answer.Ok (line.Send (link M B Ctl) (flight.Ctl (rec.Addreq (a_plan 2 (Some B) []) [])) ∷ [])
    ∷ an_entry (event.Deny B true) answer.Ok []
    ∷ an_entry (event.Step (link M B Ctl) 0) answer.Ok (line.Send (link B M Ctl) (flight.Ctl (rec.Addrej 2)) ∷ [])
    ∷ []

not_due_chgref_rejected_is_wrong : breaks (a_header Nea0 0 (replicate 32 0)) (before_not_due_chgref_rejected ++
    an_entry (event.Step (link B M Ctl) 0) answer.Ok (line.Send (link M A Ctl) (flight.Ctl (rec.Chgref word.Rejected)) ∷ line.Note note.Rejected ∷ [])
    ∷ []) ≡ licensed ∷ replied ∷ []
unfolding sn window modulus distance count_for data_pdu decoded read_data read_report keystream counter_block stream_blocks report_pdu
not_due_chgref_rejected_is_wrong = refl

not_due_chgref_rejected_is_right : breaks (a_header Nea0 0 (replicate 32 0)) (before_not_due_chgref_rejected ++
    an_entry (event.Step (link B M Ctl) 0) answer.Ok (line.Note note.Rejected ∷ [])
    ∷ []) ≡ []
unfolding sn window modulus distance count_for data_pdu decoded read_data read_report keystream counter_block stream_blocks report_pdu
not_due_chgref_rejected_is_right = refl

not_due_counterspent_is_wrong : breaks (a_header Nea0 65535 (replicate 32 0)) (
    an_entry (event.Add A) (answer.No refusal.CounterSpent) []
    ∷ []) ≡ cause ∷ []
unfolding sn window modulus distance count_for data_pdu decoded read_data read_report keystream counter_block stream_blocks report_pdu
not_due_counterspent_is_wrong = refl

not_due_counterspent_is_right : breaks (a_header Nea0 65535 (replicate 32 0)) (
    an_entry (event.Add A) answer.Ok (line.Send (link M A Ctl) (flight.Ctl (rec.Addreq (a_plan 1 (Some A) []) [])) ∷ [])
    ∷ []) ≡ []
unfolding sn window modulus distance count_for data_pdu decoded read_data read_report keystream counter_block stream_blocks report_pdu
not_due_counterspent_is_right = refl

-- what comes before
abbrev before_not_due_exhausted : List Entry
before_not_due_exhausted =
    an_entry (event.Bearer 1 S12 4294967294 (a_shape false Mcg false) 0 0) answer.Ok (line.Note (note.Own M 1 1) ∷ line.Send (link M T Ctl) (flight.Ctl (rec.Reconf (a_plan 1 None (Set 1 S12 4294967294 (a_shape false Mcg false) 0 0 (a_key 0 Master) None ∷ [])) [])) ∷ [])
    ∷ an_entry (event.Step (link M T Ctl) 0) answer.Ok (line.Note (note.Set 1 1) ∷ line.Send (link T M Ctl) (flight.Ctl (rec.Rcomp 1)) ∷ [])
    ∷ an_entry (event.Step (link T M Ctl) 0) answer.Ok (line.Note note.Done ∷ [])
    ∷ []

not_due_exhausted_is_wrong : breaks (a_header Nea0 0 (replicate 32 0)) (before_not_due_exhausted ++
    an_entry (event.Submit 1 Dl (0 ∷ [])) (answer.No refusal.Exhausted) []
    ∷ []) ≡ cause ∷ []
unfolding sn window modulus distance count_for data_pdu decoded read_data read_report keystream counter_block stream_blocks report_pdu
not_due_exhausted_is_wrong = refl

not_due_exhausted_is_right : breaks (a_header Nea0 0 (replicate 32 0)) (before_not_due_exhausted ++
    an_entry (event.Submit 1 Dl (0 ∷ [])) answer.Ok (line.Send (link M T Air) (flight.Air 1 1 0 (Some 4294967294) (143 ∷ 254 ∷ 0 ∷ [])) ∷ [])
    ∷ []) ≡ []
unfolding sn window modulus distance count_for data_pdu decoded read_data read_report keystream counter_block stream_blocks report_pdu
not_due_exhausted_is_right = refl

not_due_full_is_wrong : breaks (a_header Nea0 0 (replicate 32 0)) (before_due_rootused_answered_ok ++
    an_entry (event.Submit 1 Dl (104 ∷ 105 ∷ [])) (answer.No refusal.Full) []
    ∷ []) ≡ cause ∷ []
unfolding sn window modulus distance count_for data_pdu decoded read_data read_report keystream counter_block stream_blocks report_pdu
not_due_full_is_wrong = refl

not_due_full_is_right : breaks (a_header Nea0 0 (replicate 32 0)) (before_due_rootused_answered_ok ++
    an_entry (event.Submit 1 Dl (104 ∷ 105 ∷ [])) answer.Ok (line.Send (link M T Air) (flight.Air 1 1 0 (Some 0) (128 ∷ 0 ∷ 104 ∷ 105 ∷ [])) ∷ [])
    ∷ []) ≡ []
unfolding sn window modulus distance count_for data_pdu decoded read_data read_report keystream counter_block stream_blocks report_pdu
not_due_full_is_right = refl

-- what comes before
abbrev before_not_due_idspent_after_a_rejection : List Entry
before_not_due_idspent_after_a_rejection =
    an_entry (event.Add A) answer.Ok (line.Send (link M A Ctl) (flight.Ctl (rec.Addreq (a_plan 1 (Some A) []) [])) ∷ [])
    ∷ an_entry (event.Step (link M A Ctl) 0) answer.Ok (line.Note (note.Join A 1) ∷ line.Send (link A M Ctl) (flight.Ctl (rec.Addack 1)) ∷ [])
    ∷ an_entry (event.Step (link A M Ctl) 0) answer.Ok (line.Send (link M T Ctl) (flight.Ctl (rec.Reconf (a_plan 1 (Some A) []) [])) ∷ [])
    ∷ an_entry (event.Step (link M T Ctl) 0) answer.Ok (line.Send (link T M Ctl) (flight.Ctl (rec.Rcomp 1)) ∷ [])
    ∷ an_entry (event.Step (link T M Ctl) 0) answer.Ok (line.Send (link M A Ctl) (flight.Ctl (rec.Recfg 1)) ∷ line.Note note.Done ∷ [])
    ∷ an_entry (event.Step (link M A Ctl) 0) answer.Ok []
    ∷ an_entry (event.Deny A true) answer.Ok []
    ∷ an_entry (event.Bearer 1 S12 0 (a_shape false Scg false) 0 0) answer.Ok (line.Send (link M A Ctl) (flight.Ctl (rec.Modreq (a_plan 2 (Some A) (Set 1 S12 0 (a_shape false Scg false) 0 0 (a_key 0 Master) None ∷ [])) [])) ∷ [])
    ∷ an_entry (event.Step (link M A Ctl) 0) answer.Ok (line.Send (link A M Ctl) (flight.Ctl (rec.Modrej 2)) ∷ [])
    ∷ an_entry (event.Step (link A M Ctl) 0) answer.Ok (line.Note note.Rejected ∷ [])
    ∷ []

not_due_idspent_after_a_rejection_is_wrong : breaks (a_header Nea0 0 (replicate 32 0)) (before_not_due_idspent_after_a_rejection ++
    an_entry (event.Bearer 1 S12 0 (a_shape false Mcg false) 0 0) (answer.No refusal.IdSpent) []
    ∷ []) ≡ cause ∷ []
unfolding sn window modulus distance count_for data_pdu decoded read_data read_report keystream counter_block stream_blocks report_pdu
not_due_idspent_after_a_rejection_is_wrong = refl

not_due_idspent_after_a_rejection_is_right : breaks (a_header Nea0 0 (replicate 32 0)) (before_not_due_idspent_after_a_rejection ++
    an_entry (event.Bearer 1 S12 0 (a_shape false Mcg false) 0 0) answer.Ok (line.Note (note.Own M 1 3) ∷ line.Send (link M T Ctl) (flight.Ctl (rec.Reconf (a_plan 3 (Some A) (Set 1 S12 0 (a_shape false Mcg false) 0 0 (a_key 0 Master) None ∷ [])) [])) ∷ [])
    ∷ []) ≡ []
unfolding sn window modulus distance count_for data_pdu decoded read_data read_report keystream counter_block stream_blocks report_pdu
not_due_idspent_after_a_rejection_is_right = refl

-- what comes before
abbrev before_not_due_idspent_after_rekey_m : List Entry
before_not_due_idspent_after_rekey_m =
    an_entry (event.Bearer 1 S12 0 (a_shape false Mcg false) 0 0) answer.Ok (line.Note (note.Own M 1 1) ∷ line.Send (link M T Ctl) (flight.Ctl (rec.Reconf (a_plan 1 None (Set 1 S12 0 (a_shape false Mcg false) 0 0 (a_key 0 Master) None ∷ [])) [])) ∷ [])
    ∷ an_entry (event.Step (link M T Ctl) 0) answer.Ok (line.Note (note.Set 1 1) ∷ line.Send (link T M Ctl) (flight.Ctl (rec.Rcomp 1)) ∷ [])
    ∷ an_entry (event.Step (link T M Ctl) 0) answer.Ok (line.Note note.Done ∷ [])
    ∷ an_entry (event.Remove 1) answer.Ok (line.Send (link M T Ctl) (flight.Ctl (rec.Reconf (a_plan 2 None (Unset 1 ∷ [])) [])) ∷ [])
    ∷ an_entry (event.Step (link M T Ctl) 0) answer.Ok (line.Note (note.Unset 1) ∷ line.Send (link T M Ctl) (flight.Ctl (rec.Rcomp 2)) ∷ [])
    ∷ an_entry (event.Step (link T M Ctl) 0) answer.Ok (line.Note note.Done ∷ [])
    ∷ an_entry (event.RekeyMaster (replicate 32 17)) answer.Ok (line.Send (link M T Ctl) (flight.Ctl (rec.Reconf (a_plan 3 None []) [])) ∷ [])
    ∷ an_entry (event.Step (link M T Ctl) 0) answer.Ok (line.Send (link T M Ctl) (flight.Ctl (rec.Rcomp 3)) ∷ [])
    ∷ an_entry (event.Step (link T M Ctl) 0) answer.Ok (line.Note note.Done ∷ [])
    ∷ []

not_due_idspent_after_rekey_m_is_wrong : breaks (a_header Nea0 0 (replicate 32 0)) (before_not_due_idspent_after_rekey_m ++
    an_entry (event.Bearer 1 S12 0 (a_shape false Mcg false) 0 0) (answer.No refusal.IdSpent) []
    ∷ []) ≡ cause ∷ []
unfolding sn window modulus distance count_for data_pdu decoded read_data read_report keystream counter_block stream_blocks report_pdu
not_due_idspent_after_rekey_m_is_wrong = refl

not_due_idspent_after_rekey_m_is_right : breaks (a_header Nea0 0 (replicate 32 0)) (before_not_due_idspent_after_rekey_m ++
    an_entry (event.Bearer 1 S12 0 (a_shape false Mcg false) 0 0) answer.Ok (line.Note (note.Own M 1 4) ∷ line.Send (link M T Ctl) (flight.Ctl (rec.Reconf (a_plan 4 None (Set 1 S12 0 (a_shape false Mcg false) 0 0 (a_key 1 Master) None ∷ [])) [])) ∷ [])
    ∷ []) ≡ []
unfolding sn window modulus distance count_for data_pdu decoded read_data read_report keystream counter_block stream_blocks report_pdu
not_due_idspent_after_rekey_m_is_right = refl

-- what comes before
abbrev before_not_due_idspent_for_another_identity : List Entry
before_not_due_idspent_for_another_identity =
    an_entry (event.Bearer 1 S12 0 (a_shape false Mcg false) 0 0) answer.Ok (line.Note (note.Own M 1 1) ∷ line.Send (link M T Ctl) (flight.Ctl (rec.Reconf (a_plan 1 None (Set 1 S12 0 (a_shape false Mcg false) 0 0 (a_key 0 Master) None ∷ [])) [])) ∷ [])
    ∷ an_entry (event.Step (link M T Ctl) 0) answer.Ok (line.Note (note.Set 1 1) ∷ line.Send (link T M Ctl) (flight.Ctl (rec.Rcomp 1)) ∷ [])
    ∷ an_entry (event.Step (link T M Ctl) 0) answer.Ok (line.Note note.Done ∷ [])
    ∷ an_entry (event.Remove 1) answer.Ok (line.Send (link M T Ctl) (flight.Ctl (rec.Reconf (a_plan 2 None (Unset 1 ∷ [])) [])) ∷ [])
    ∷ an_entry (event.Step (link M T Ctl) 0) answer.Ok (line.Note (note.Unset 1) ∷ line.Send (link T M Ctl) (flight.Ctl (rec.Rcomp 2)) ∷ [])
    ∷ an_entry (event.Step (link T M Ctl) 0) answer.Ok (line.Note note.Done ∷ [])
    ∷ []

not_due_idspent_for_another_identity_is_wrong : breaks (a_header Nea0 0 (replicate 32 0)) (before_not_due_idspent_for_another_identity ++
    an_entry (event.Bearer 2 S12 0 (a_shape false Mcg false) 0 0) (answer.No refusal.IdSpent) []
    ∷ []) ≡ cause ∷ []
unfolding sn window modulus distance count_for data_pdu decoded read_data read_report keystream counter_block stream_blocks report_pdu
not_due_idspent_for_another_identity_is_wrong = refl

not_due_idspent_for_another_identity_is_right : breaks (a_header Nea0 0 (replicate 32 0)) (before_not_due_idspent_for_another_identity ++
    an_entry (event.Bearer 2 S12 0 (a_shape false Mcg false) 0 0) answer.Ok (line.Note (note.Own M 2 3) ∷ line.Send (link M T Ctl) (flight.Ctl (rec.Reconf (a_plan 3 None (Set 2 S12 0 (a_shape false Mcg false) 0 0 (a_key 0 Master) None ∷ [])) [])) ∷ [])
    ∷ []) ≡ []
unfolding sn window modulus distance count_for data_pdu decoded read_data read_report keystream counter_block stream_blocks report_pdu
not_due_idspent_for_another_identity_is_right = refl

-- what comes before
abbrev before_not_due_modref_busy : List Entry
before_not_due_modref_busy =
    an_entry (event.Add A) answer.Ok (line.Send (link M A Ctl) (flight.Ctl (rec.Addreq (a_plan 1 (Some A) []) [])) ∷ [])
    ∷ an_entry (event.Step (link M A Ctl) 0) answer.Ok (line.Note (note.Join A 1) ∷ line.Send (link A M Ctl) (flight.Ctl (rec.Addack 1)) ∷ [])
    ∷ an_entry (event.Step (link A M Ctl) 0) answer.Ok (line.Send (link M T Ctl) (flight.Ctl (rec.Reconf (a_plan 1 (Some A) []) [])) ∷ [])
    ∷ an_entry (event.Step (link M T Ctl) 0) answer.Ok (line.Send (link T M Ctl) (flight.Ctl (rec.Rcomp 1)) ∷ [])
    ∷ an_entry (event.Step (link T M Ctl) 0) answer.Ok (line.Send (link M A Ctl) (flight.Ctl (rec.Recfg 1)) ∷ line.Note note.Done ∷ [])
    ∷ an_entry (event.Step (link M A Ctl) 0) answer.Ok []
    ∷ an_entry (event.Ask A want.Rekey) answer.Ok (line.Send (link A M Ctl) (flight.Ctl (rec.Modrqd)) ∷ [])
    ∷ []

not_due_modref_busy_is_wrong : breaks (a_header Nea0 0 (replicate 32 0)) (before_not_due_modref_busy ++
    an_entry (event.Step (link A M Ctl) 0) answer.Ok (line.Send (link M A Ctl) (flight.Ctl (rec.Modref word.Busy)) ∷ [])
    ∷ []) ≡ licensed ∷ replied ∷ []
unfolding sn window modulus distance count_for data_pdu decoded read_data read_report keystream counter_block stream_blocks report_pdu
not_due_modref_busy_is_wrong = refl

not_due_modref_busy_is_right : breaks (a_header Nea0 0 (replicate 32 0)) (before_not_due_modref_busy ++
    an_entry (event.Step (link A M Ctl) 0) answer.Ok (line.Note (note.Begin want.Rekey) ∷ line.Send (link M A Ctl) (flight.Ctl (rec.Modreq (a_plan 2 (Some A) []) [])) ∷ [])
    ∷ []) ≡ []
unfolding sn window modulus distance count_for data_pdu decoded read_data read_report keystream counter_block stream_blocks report_pdu
not_due_modref_busy_is_right = refl

not_due_modref_counterspent_is_wrong : breaks (a_header Nea0 0 (replicate 32 0)) (before_not_due_modref_busy ++
    an_entry (event.Step (link A M Ctl) 0) answer.Ok (line.Send (link M A Ctl) (flight.Ctl (rec.Modref word.CounterSpent)) ∷ [])
    ∷ []) ≡ licensed ∷ replied ∷ []
unfolding sn window modulus distance count_for data_pdu decoded read_data read_report keystream counter_block stream_blocks report_pdu
not_due_modref_counterspent_is_wrong = refl

not_due_modref_counterspent_is_right : breaks (a_header Nea0 0 (replicate 32 0)) (before_not_due_modref_busy ++
    an_entry (event.Step (link A M Ctl) 0) answer.Ok (line.Note (note.Begin want.Rekey) ∷ line.Send (link M A Ctl) (flight.Ctl (rec.Modreq (a_plan 2 (Some A) []) [])) ∷ [])
    ∷ []) ≡ []
unfolding sn window modulus distance count_for data_pdu decoded read_data read_report keystream counter_block stream_blocks report_pdu
not_due_modref_counterspent_is_right = refl

not_due_modref_nosecondary_is_wrong : breaks (a_header Nea0 0 (replicate 32 0)) (before_not_due_modref_busy ++
    an_entry (event.Step (link A M Ctl) 0) answer.Ok (line.Send (link M A Ctl) (flight.Ctl (rec.Modref word.NoSecondary)) ∷ [])
    ∷ []) ≡ licensed ∷ replied ∷ []
unfolding sn window modulus distance count_for data_pdu decoded read_data read_report keystream counter_block stream_blocks report_pdu
not_due_modref_nosecondary_is_wrong = refl

not_due_modref_nosecondary_is_right : breaks (a_header Nea0 0 (replicate 32 0)) (before_not_due_modref_busy ++
    an_entry (event.Step (link A M Ctl) 0) answer.Ok (line.Note (note.Begin want.Rekey) ∷ line.Send (link M A Ctl) (flight.Ctl (rec.Modreq (a_plan 2 (Some A) []) [])) ∷ [])
    ∷ []) ≡ []
unfolding sn window modulus distance count_for data_pdu decoded read_data read_report keystream counter_block stream_blocks report_pdu
not_due_modref_nosecondary_is_right = refl

-- what comes before
abbrev before_not_due_modref_rejected : List Entry
before_not_due_modref_rejected =
    an_entry (event.Add A) answer.Ok (line.Send (link M A Ctl) (flight.Ctl (rec.Addreq (a_plan 1 (Some A) []) [])) ∷ [])
    ∷ an_entry (event.Step (link M A Ctl) 0) answer.Ok (line.Note (note.Join A 1) ∷ line.Send (link A M Ctl) (flight.Ctl (rec.Addack 1)) ∷ [])
    ∷ an_entry (event.Step (link A M Ctl) 0) answer.Ok (line.Send (link M T Ctl) (flight.Ctl (rec.Reconf (a_plan 1 (Some A) []) [])) ∷ [])
    ∷ an_entry (event.Step (link M T Ctl) 0) answer.Ok (line.Send (link T M Ctl) (flight.Ctl (rec.Rcomp 1)) ∷ [])
    ∷ an_entry (event.Step (link T M Ctl) 0) answer.Ok (line.Send (link M A Ctl) (flight.Ctl (rec.Recfg 1)) ∷ line.Note note.Done ∷ [])
    ∷ an_entry (event.Step (link M A Ctl) 0) answer.Ok []
    ∷ an_entry (event.Deny A true) answer.Ok []
    ∷ an_entry (event.Bearer 1 S12 0 (a_shape true Scg false) 0 0) answer.Ok (line.Send (link M A Ctl) (flight.Ctl (rec.Modreq (a_plan 2 (Some A) (Set 1 S12 0 (a_shape true Scg false) 0 0 (a_key 0 (SecondKey 0)) None ∷ [])) [])) ∷ [])
    ∷ an_entry (event.Step (link M A Ctl) 0) answer.Ok (line.Send (link A M Ctl) (flight.Ctl (rec.Modrej 2)) ∷ [])
    ∷ []

not_due_modref_rejected_is_wrong : breaks (a_header Nea0 0 (replicate 32 0)) (before_not_due_modref_rejected ++
    an_entry (event.Step (link A M Ctl) 0) answer.Ok (line.Send (link M A Ctl) (flight.Ctl (rec.Modref word.Rejected)) ∷ line.Note note.Rejected ∷ [])
    ∷ []) ≡ licensed ∷ replied ∷ []
unfolding sn window modulus distance count_for data_pdu decoded read_data read_report keystream counter_block stream_blocks report_pdu
not_due_modref_rejected_is_wrong = refl

not_due_modref_rejected_is_right : breaks (a_header Nea0 0 (replicate 32 0)) (before_not_due_modref_rejected ++
    an_entry (event.Step (link A M Ctl) 0) answer.Ok (line.Note note.Rejected ∷ [])
    ∷ []) ≡ []
unfolding sn window modulus distance count_for data_pdu decoded read_data read_report keystream counter_block stream_blocks report_pdu
not_due_modref_rejected_is_right = refl

-- what comes before
abbrev before_not_due_modrej : List Entry
before_not_due_modrej =
    an_entry (event.Add A) answer.Ok (line.Send (link M A Ctl) (flight.Ctl (rec.Addreq (a_plan 1 (Some A) []) [])) ∷ [])
    ∷ an_entry (event.Step (link M A Ctl) 0) answer.Ok (line.Note (note.Join A 1) ∷ line.Send (link A M Ctl) (flight.Ctl (rec.Addack 1)) ∷ [])
    ∷ an_entry (event.Step (link A M Ctl) 0) answer.Ok (line.Send (link M T Ctl) (flight.Ctl (rec.Reconf (a_plan 1 (Some A) []) [])) ∷ [])
    ∷ an_entry (event.Step (link M T Ctl) 0) answer.Ok (line.Send (link T M Ctl) (flight.Ctl (rec.Rcomp 1)) ∷ [])
    ∷ an_entry (event.Step (link T M Ctl) 0) answer.Ok (line.Send (link M A Ctl) (flight.Ctl (rec.Recfg 1)) ∷ line.Note note.Done ∷ [])
    ∷ an_entry (event.Step (link M A Ctl) 0) answer.Ok []
    ∷ an_entry (event.Bearer 1 S12 0 (a_shape true Scg false) 0 0) answer.Ok (line.Send (link M A Ctl) (flight.Ctl (rec.Modreq (a_plan 2 (Some A) (Set 1 S12 0 (a_shape true Scg false) 0 0 (a_key 0 (SecondKey 0)) None ∷ [])) [])) ∷ [])
    ∷ []

not_due_modrej_is_wrong : breaks (a_header Nea0 0 (replicate 32 0)) (before_not_due_modrej ++
    an_entry (event.Step (link M A Ctl) 0) answer.Ok (line.Send (link A M Ctl) (flight.Ctl (rec.Modrej 2)) ∷ [])
    ∷ []) ≡ licensed ∷ come ∷ replied ∷ []
unfolding sn window modulus distance count_for data_pdu decoded read_data read_report keystream counter_block stream_blocks report_pdu
not_due_modrej_is_wrong = refl

not_due_modrej_is_right : breaks (a_header Nea0 0 (replicate 32 0)) (before_not_due_modrej ++
    an_entry (event.Step (link M A Ctl) 0) answer.Ok (line.Note (note.Own A 1 2) ∷ line.Send (link A M Ctl) (flight.Ctl (rec.Modack 2)) ∷ [])
    ∷ []) ≡ []
unfolding sn window modulus distance count_for data_pdu decoded read_data read_report keystream counter_block stream_blocks report_pdu
not_due_modrej_is_right = refl

-- what comes before
abbrev before_not_due_modrej_of_one_drop : List Entry
before_not_due_modrej_of_one_drop =
    an_entry (event.Add A) answer.Ok (line.Send (link M A Ctl) (flight.Ctl (rec.Addreq (a_plan 1 (Some A) []) [])) ∷ [])
    ∷ an_entry (event.Step (link M A Ctl) 0) answer.Ok (line.Note (note.Join A 1) ∷ line.Send (link A M Ctl) (flight.Ctl (rec.Addack 1)) ∷ [])
    ∷ an_entry (event.Step (link A M Ctl) 0) answer.Ok (line.Send (link M T Ctl) (flight.Ctl (rec.Reconf (a_plan 1 (Some A) []) [])) ∷ [])
    ∷ an_entry (event.Step (link M T Ctl) 0) answer.Ok (line.Send (link T M Ctl) (flight.Ctl (rec.Rcomp 1)) ∷ [])
    ∷ an_entry (event.Step (link T M Ctl) 0) answer.Ok (line.Send (link M A Ctl) (flight.Ctl (rec.Recfg 1)) ∷ line.Note note.Done ∷ [])
    ∷ an_entry (event.Step (link M A Ctl) 0) answer.Ok []
    ∷ an_entry (event.Bearer 1 S12 0 (a_shape false Scg false) 0 0) answer.Ok (line.Send (link M A Ctl) (flight.Ctl (rec.Modreq (a_plan 2 (Some A) (Set 1 S12 0 (a_shape false Scg false) 0 0 (a_key 0 Master) None ∷ [])) [])) ∷ [])
    ∷ an_entry (event.Step (link M A Ctl) 0) answer.Ok (line.Send (link A M Ctl) (flight.Ctl (rec.Modack 2)) ∷ [])
    ∷ an_entry (event.Step (link A M Ctl) 0) answer.Ok (line.Note (note.Own M 1 2) ∷ line.Send (link M T Ctl) (flight.Ctl (rec.Reconf (a_plan 2 (Some A) (Set 1 S12 0 (a_shape false Scg false) 0 0 (a_key 0 Master) None ∷ [])) [])) ∷ [])
    ∷ an_entry (event.Step (link M T Ctl) 0) answer.Ok (line.Note (note.Set 1 2) ∷ line.Send (link T M Ctl) (flight.Ctl (rec.Rcomp 2)) ∷ [])
    ∷ an_entry (event.Step (link T M Ctl) 0) answer.Ok (line.Send (link M A Ctl) (flight.Ctl (rec.Recfg 2)) ∷ line.Note note.Done ∷ [])
    ∷ an_entry (event.Step (link M A Ctl) 0) answer.Ok []
    ∷ an_entry (event.Deny A true) answer.Ok []
    ∷ an_entry (event.Remove 1) answer.Ok (line.Send (link M A Ctl) (flight.Ctl (rec.Modreq (a_plan 3 (Some A) (Unset 1 ∷ [])) [])) ∷ [])
    ∷ []

not_due_modrej_of_one_drop_is_wrong : breaks (a_header Nea0 0 (replicate 32 0)) (before_not_due_modrej_of_one_drop ++
    an_entry (event.Step (link M A Ctl) 0) answer.Ok (line.Send (link A M Ctl) (flight.Ctl (rec.Modrej 3)) ∷ [])
    ∷ []) ≡ licensed ∷ replied ∷ []
unfolding sn window modulus distance count_for data_pdu decoded read_data read_report keystream counter_block stream_blocks report_pdu
not_due_modrej_of_one_drop_is_wrong = refl

not_due_modrej_of_one_drop_is_right : breaks (a_header Nea0 0 (replicate 32 0)) (before_not_due_modrej_of_one_drop ++
    an_entry (event.Step (link M A Ctl) 0) answer.Ok (line.Send (link A M Ctl) (flight.Ctl (rec.Modack 3)) ∷ [])
    ∷ []) ≡ []
unfolding sn window modulus distance count_for data_pdu decoded read_data read_report keystream counter_block stream_blocks report_pdu
not_due_modrej_of_one_drop_is_right = refl

not_due_nobearer_is_wrong : breaks (a_header Nea0 0 (replicate 32 0)) (before_due_rootused_answered_ok ++
    an_entry (event.Submit 1 Dl (0 ∷ [])) (answer.No refusal.NoBearer) []
    ∷ []) ≡ cause ∷ []
unfolding sn window modulus distance count_for data_pdu decoded read_data read_report keystream counter_block stream_blocks report_pdu
not_due_nobearer_is_wrong = refl

not_due_nobearer_is_right : breaks (a_header Nea0 0 (replicate 32 0)) (before_due_rootused_answered_ok ++
    an_entry (event.Submit 1 Dl (0 ∷ [])) answer.Ok (line.Send (link M T Air) (flight.Air 1 1 0 (Some 0) (128 ∷ 0 ∷ 0 ∷ [])) ∷ [])
    ∷ []) ≡ []
unfolding sn window modulus distance count_for data_pdu decoded read_data read_report keystream counter_block stream_blocks report_pdu
not_due_nobearer_is_right = refl

-- what comes before
abbrev before_not_due_nobearer_at_a_secondary : List Entry
before_not_due_nobearer_at_a_secondary =
    an_entry (event.Add A) answer.Ok (line.Send (link M A Ctl) (flight.Ctl (rec.Addreq (a_plan 1 (Some A) []) [])) ∷ [])
    ∷ an_entry (event.Step (link M A Ctl) 0) answer.Ok (line.Note (note.Join A 1) ∷ line.Send (link A M Ctl) (flight.Ctl (rec.Addack 1)) ∷ [])
    ∷ an_entry (event.Step (link A M Ctl) 0) answer.Ok (line.Send (link M T Ctl) (flight.Ctl (rec.Reconf (a_plan 1 (Some A) []) [])) ∷ [])
    ∷ an_entry (event.Step (link M T Ctl) 0) answer.Ok (line.Send (link T M Ctl) (flight.Ctl (rec.Rcomp 1)) ∷ [])
    ∷ an_entry (event.Step (link T M Ctl) 0) answer.Ok (line.Send (link M A Ctl) (flight.Ctl (rec.Recfg 1)) ∷ line.Note note.Done ∷ [])
    ∷ an_entry (event.Step (link M A Ctl) 0) answer.Ok []
    ∷ an_entry (event.Bearer 1 S12 0 (a_shape true Scg false) 0 0) answer.Ok (line.Send (link M A Ctl) (flight.Ctl (rec.Modreq (a_plan 2 (Some A) (Set 1 S12 0 (a_shape true Scg false) 0 0 (a_key 0 (SecondKey 0)) None ∷ [])) [])) ∷ [])
    ∷ an_entry (event.Step (link M A Ctl) 0) answer.Ok (line.Note (note.Own A 1 2) ∷ line.Send (link A M Ctl) (flight.Ctl (rec.Modack 2)) ∷ [])
    ∷ an_entry (event.Step (link A M Ctl) 0) answer.Ok (line.Send (link M T Ctl) (flight.Ctl (rec.Reconf (a_plan 2 (Some A) (Set 1 S12 0 (a_shape true Scg false) 0 0 (a_key 0 (SecondKey 0)) None ∷ [])) [])) ∷ [])
    ∷ an_entry (event.Step (link M T Ctl) 0) answer.Ok (line.Note (note.Set 1 2) ∷ line.Send (link T M Ctl) (flight.Ctl (rec.Rcomp 2)) ∷ [])
    ∷ an_entry (event.Step (link T M Ctl) 0) answer.Ok (line.Send (link M A Ctl) (flight.Ctl (rec.Recfg 2)) ∷ line.Note note.Done ∷ [])
    ∷ []

not_due_nobearer_at_a_secondary_is_wrong : breaks (a_header Nea0 0 (replicate 32 0)) (before_not_due_nobearer_at_a_secondary ++
    an_entry (event.Report A 1) (answer.No refusal.NoBearer) []
    ∷ []) ≡ cause ∷ []
unfolding sn window modulus distance count_for data_pdu decoded read_data read_report keystream counter_block stream_blocks report_pdu
not_due_nobearer_at_a_secondary_is_wrong = refl

not_due_nobearer_at_a_secondary_is_right : breaks (a_header Nea0 0 (replicate 32 0)) (before_not_due_nobearer_at_a_secondary ++
    an_entry (event.Report A 1) answer.Ok []
    ∷ []) ≡ []
unfolding sn window modulus distance count_for data_pdu decoded read_data read_report keystream counter_block stream_blocks report_pdu
not_due_nobearer_at_a_secondary_is_right = refl

-- what comes before
abbrev before_not_due_nobearer_for_the_terminal_before_unset : List Entry
before_not_due_nobearer_for_the_terminal_before_unset =
    an_entry (event.Bearer 1 S12 0 (a_shape false Mcg false) 0 0) answer.Ok (line.Note (note.Own M 1 1) ∷ line.Send (link M T Ctl) (flight.Ctl (rec.Reconf (a_plan 1 None (Set 1 S12 0 (a_shape false Mcg false) 0 0 (a_key 0 Master) None ∷ [])) [])) ∷ [])
    ∷ an_entry (event.Step (link M T Ctl) 0) answer.Ok (line.Note (note.Set 1 1) ∷ line.Send (link T M Ctl) (flight.Ctl (rec.Rcomp 1)) ∷ [])
    ∷ an_entry (event.Step (link T M Ctl) 0) answer.Ok (line.Note note.Done ∷ [])
    ∷ an_entry (event.Remove 1) answer.Ok (line.Send (link M T Ctl) (flight.Ctl (rec.Reconf (a_plan 2 None (Unset 1 ∷ [])) [])) ∷ [])
    ∷ []

not_due_nobearer_for_the_terminal_before_unset_is_wrong : breaks (a_header Nea0 0 (replicate 32 0)) (before_not_due_nobearer_for_the_terminal_before_unset ++
    an_entry (event.Submit 1 Ul (0 ∷ [])) (answer.No refusal.NoBearer) []
    ∷ []) ≡ cause ∷ []
unfolding sn window modulus distance count_for data_pdu decoded read_data read_report keystream counter_block stream_blocks report_pdu
not_due_nobearer_for_the_terminal_before_unset_is_wrong = refl

not_due_nobearer_for_the_terminal_before_unset_is_right : breaks (a_header Nea0 0 (replicate 32 0)) (before_not_due_nobearer_for_the_terminal_before_unset ++
    an_entry (event.Submit 1 Ul (0 ∷ [])) answer.Ok (line.Send (link T M Air) (flight.Air 1 1 0 (Some 0) (128 ∷ 0 ∷ 0 ∷ [])) ∷ [])
    ∷ []) ≡ []
unfolding sn window modulus distance count_for data_pdu decoded read_data read_report keystream counter_block stream_blocks report_pdu
not_due_nobearer_for_the_terminal_before_unset_is_right = refl

-- what comes before
abbrev before_not_due_noflight : List Entry
before_not_due_noflight =
    an_entry (event.Bearer 1 S12 0 (a_shape false Mcg false) 0 0) answer.Ok (line.Note (note.Own M 1 1) ∷ line.Send (link M T Ctl) (flight.Ctl (rec.Reconf (a_plan 1 None (Set 1 S12 0 (a_shape false Mcg false) 0 0 (a_key 0 Master) None ∷ [])) [])) ∷ [])
    ∷ an_entry (event.Step (link M T Ctl) 0) answer.Ok (line.Note (note.Set 1 1) ∷ line.Send (link T M Ctl) (flight.Ctl (rec.Rcomp 1)) ∷ [])
    ∷ an_entry (event.Step (link T M Ctl) 0) answer.Ok (line.Note note.Done ∷ [])
    ∷ an_entry (event.Submit 1 Dl (0 ∷ [])) answer.Ok (line.Send (link M T Air) (flight.Air 1 1 0 (Some 0) (128 ∷ 0 ∷ 0 ∷ [])) ∷ [])
    ∷ []

not_due_noflight_is_wrong : breaks (a_header Nea0 0 (replicate 32 0)) (before_not_due_noflight ++
    an_entry (event.Step (link M T Air) 0) (answer.No refusal.NoFlight) []
    ∷ []) ≡ cause ∷ []
unfolding sn window modulus distance count_for data_pdu decoded read_data read_report keystream counter_block stream_blocks report_pdu
not_due_noflight_is_wrong = refl

not_due_noflight_is_right : breaks (a_header Nea0 0 (replicate 32 0)) (before_not_due_noflight ++
    an_entry (event.Step (link M T Air) 0) answer.Ok (line.Note (note.Up T 1 Dl 0 (0 ∷ [])) ∷ line.Send (link T M Air) (flight.Ack 1 1 0) ∷ [])
    ∷ []) ≡ []
unfolding sn window modulus distance count_for data_pdu decoded read_data read_report keystream counter_block stream_blocks report_pdu
not_due_noflight_is_right = refl

not_due_nopolicy_is_wrong : breaks (a_header Nea0 0 (replicate 32 0)) (
    an_entry (event.Bearer 1 S12 0 (a_shape false Mcg false) 0 1) (answer.No refusal.NoPolicy) []
    ∷ []) ≡ cause ∷ []
unfolding sn window modulus distance count_for data_pdu decoded read_data read_report keystream counter_block stream_blocks report_pdu
not_due_nopolicy_is_wrong = refl

not_due_nopolicy_is_right : breaks (a_header Nea0 0 (replicate 32 0)) (
    an_entry (event.Bearer 1 S12 0 (a_shape false Mcg false) 0 1) answer.Ok (line.Note (note.Own M 1 1) ∷ line.Send (link M T Ctl) (flight.Ctl (rec.Reconf (a_plan 1 None (Set 1 S12 0 (a_shape false Mcg false) 0 1 (a_key 0 Master) None ∷ [])) [])) ∷ [])
    ∷ []) ≡ []
unfolding sn window modulus distance count_for data_pdu decoded read_data read_report keystream counter_block stream_blocks report_pdu
not_due_nopolicy_is_right = refl

not_due_nosecondary_is_wrong : breaks (a_header Nea0 0 (replicate 32 0)) (
    an_entry (event.Bearer 1 S12 0 (a_shape false Mcg false) 0 0) (answer.No refusal.NoSecondary) []
    ∷ []) ≡ cause ∷ []
unfolding sn window modulus distance count_for data_pdu decoded read_data read_report keystream counter_block stream_blocks report_pdu
not_due_nosecondary_is_wrong = refl

not_due_nosecondary_is_right : breaks (a_header Nea0 0 (replicate 32 0)) (
    an_entry (event.Bearer 1 S12 0 (a_shape false Mcg false) 0 0) answer.Ok (line.Note (note.Own M 1 1) ∷ line.Send (link M T Ctl) (flight.Ctl (rec.Reconf (a_plan 1 None (Set 1 S12 0 (a_shape false Mcg false) 0 0 (a_key 0 Master) None ∷ [])) [])) ∷ [])
    ∷ []) ≡ []
unfolding sn window modulus distance count_for data_pdu decoded read_data read_report keystream counter_block stream_blocks report_pdu
not_due_nosecondary_is_right = refl

-- what comes before
abbrev before_not_due_nosecondary_of_scgfail : List Entry
before_not_due_nosecondary_of_scgfail =
    an_entry (event.Add A) answer.Ok (line.Send (link M A Ctl) (flight.Ctl (rec.Addreq (a_plan 1 (Some A) []) [])) ∷ [])
    ∷ an_entry (event.Step (link M A Ctl) 0) answer.Ok (line.Note (note.Join A 1) ∷ line.Send (link A M Ctl) (flight.Ctl (rec.Addack 1)) ∷ [])
    ∷ an_entry (event.Step (link A M Ctl) 0) answer.Ok (line.Send (link M T Ctl) (flight.Ctl (rec.Reconf (a_plan 1 (Some A) []) [])) ∷ [])
    ∷ an_entry (event.Step (link M T Ctl) 0) answer.Ok (line.Send (link T M Ctl) (flight.Ctl (rec.Rcomp 1)) ∷ [])
    ∷ an_entry (event.Step (link T M Ctl) 0) answer.Ok (line.Send (link M A Ctl) (flight.Ctl (rec.Recfg 1)) ∷ line.Note note.Done ∷ [])
    ∷ an_entry (event.Step (link M A Ctl) 0) answer.Ok []
    ∷ an_entry (event.Release) answer.Ok (line.Send (link M A Ctl) (flight.Ctl (rec.Relreq (a_plan 2 None []))) ∷ [])
    ∷ an_entry (event.Step (link M A Ctl) 0) answer.Ok (line.Note (note.Leave A 2) ∷ line.Send (link A M Ctl) (flight.Ctl (rec.Relack 2)) ∷ [])
    ∷ an_entry (event.Step (link A M Ctl) 0) answer.Ok (line.Send (link M T Ctl) (flight.Ctl (rec.Reconf (a_plan 2 None []) [])) ∷ [])
    ∷ []

not_due_nosecondary_of_scgfail_is_wrong : breaks (a_header Nea0 0 (replicate 32 0)) (before_not_due_nosecondary_of_scgfail ++
    an_entry (event.ScgFail) (answer.No refusal.NoSecondary) []
    ∷ []) ≡ cause ∷ []
unfolding sn window modulus distance count_for data_pdu decoded read_data read_report keystream counter_block stream_blocks report_pdu
not_due_nosecondary_of_scgfail_is_wrong = refl

not_due_nosecondary_of_scgfail_is_right : breaks (a_header Nea0 0 (replicate 32 0)) (before_not_due_nosecondary_of_scgfail ++
    an_entry (event.ScgFail) answer.Ok (line.Send (link T M Ctl) (flight.Ctl (rec.Scgf [])) ∷ [])
    ∷ []) ≡ []
unfolding sn window modulus distance count_for data_pdu decoded read_data read_report keystream counter_block stream_blocks report_pdu
not_due_nosecondary_of_scgfail_is_right = refl

not_due_nosecondary_of_want_is_wrong : breaks (a_header Nea0 0 (replicate 32 0)) (before_due_secondarythere_answered_ok ++
    an_entry (event.Ask A want.Rekey) (answer.No refusal.NoSecondary) []
    ∷ []) ≡ cause ∷ []
unfolding sn window modulus distance count_for data_pdu decoded read_data read_report keystream counter_block stream_blocks report_pdu
not_due_nosecondary_of_want_is_wrong = refl

not_due_nosecondary_of_want_is_right : breaks (a_header Nea0 0 (replicate 32 0)) (before_due_secondarythere_answered_ok ++
    an_entry (event.Ask A want.Rekey) answer.Ok (line.Send (link A M Ctl) (flight.Ctl (rec.Modrqd)) ∷ [])
    ∷ []) ≡ []
unfolding sn window modulus distance count_for data_pdu decoded read_data read_report keystream counter_block stream_blocks report_pdu
not_due_nosecondary_of_want_is_right = refl

-- what comes before
abbrev before_not_due_notfirst : List Entry
before_not_due_notfirst =
    an_entry (event.Bearer 1 S12 0 (a_shape false Mcg false) 0 0) answer.Ok (line.Note (note.Own M 1 1) ∷ line.Send (link M T Ctl) (flight.Ctl (rec.Reconf (a_plan 1 None (Set 1 S12 0 (a_shape false Mcg false) 0 0 (a_key 0 Master) None ∷ [])) [])) ∷ [])
    ∷ []

not_due_notfirst_is_wrong : breaks (a_header Nea0 0 (replicate 32 0)) (before_not_due_notfirst ++
    an_entry (event.Step (link M T Ctl) 0) (answer.No refusal.NotFirst) []
    ∷ []) ≡ cause ∷ []
unfolding sn window modulus distance count_for data_pdu decoded read_data read_report keystream counter_block stream_blocks report_pdu
not_due_notfirst_is_wrong = refl

not_due_notfirst_is_right : breaks (a_header Nea0 0 (replicate 32 0)) (before_not_due_notfirst ++
    an_entry (event.Step (link M T Ctl) 0) answer.Ok (line.Note (note.Set 1 1) ∷ line.Send (link T M Ctl) (flight.Ctl (rec.Rcomp 1)) ∷ [])
    ∷ []) ≡ []
unfolding sn window modulus distance count_for data_pdu decoded read_data read_report keystream counter_block stream_blocks report_pdu
not_due_notfirst_is_right = refl
