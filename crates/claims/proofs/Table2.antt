-- What wrong transcripts break, and that their right neighbours break nothing: by computing.
use Rattle.std.specs.Prelude.{◌≡◌, ◌++◌, ℕ, Bool, true, false, List, [], ◌∷◌, replicate, Option, Some, None}
use Rattle.std.proofs.Common.{refl}
use Rattle.dc_base.specs.declared.numbers.SnLen.TheVariants.{S12, S18}
use Rattle.dc_base.specs.declared.nodes.Alg.TheVariants.{Nea0, Nea2}
use Rattle.dc_base.specs.declared.nodes.Node.TheVariants.{T, M, A, B}
use Rattle.dc_base.specs.declared.nodes.Class.TheVariants.{Ctl, Feed, Air, Tun}
use Rattle.dc_base.specs.declared.nodes.Dir.TheVariants.{Ul, Dl}
use Rattle.dc_base.specs.declared.nodes.Cell.TheVariants as cell
use Rattle.dc_base.specs.declared.nodes.LegSet.TheVariants.{Mcg, Scg, Split}
use Rattle.dc_base.specs.declared.nodes.Side.TheVariants.{Master, Second as SecondKey}
use Rattle.dc_base.specs.declared.nodes.Want.TheVariants as want
use Rattle.dc_base.specs.declared.flights.Flight.TheVariants as flight
use Rattle.dc_base.specs.declared.records.Item.TheVariants.{Set, Unset}
use Rattle.dc_base.specs.declared.records.Rec.TheVariants as rec
use Rattle.dc_base.specs.declared.answers.Word.TheVariants as word
use Rattle.dc_base.specs.declared.answers.Refusal.TheVariants as refusal
use Rattle.dc_base.specs.declared.answers.Answer.TheVariants as answer
use Rattle.dc_base.specs.declared.events.Event.TheVariants as event
use Rattle.dc_base.specs.declared.events.Note.TheVariants as note
use Rattle.dc_base.specs.declared.events.Line.TheVariants as line
use Rattle.transcript.specs.Transcript.{Entry}
use Rattle.dc_base.specs.Links.{link}
use Rattle.claims.specs.Writing.{a_shape, a_key, a_plan, a_transfer, a_header, an_entry}
use Rattle.claims.specs.Names.{all_of_it, carried, cause, come, front, holder, licensed, numbered, on_link, ordered, placed, planned, protected, replied, told, true_report, unstalled, windowed, breaks}
use Rattle.dc_base.specs.Count.{modulus, window, sn, distance, count_for}
use Rattle.nea2.specs.Keystream.{keystream, counter_block, stream_blocks}
use Rattle.pdcp_pdu.specs.DataPdu.{data_pdu}
use Rattle.pdcp_pdu.specs.Pdu.{decoded, read_data, read_report}
use Rattle.pdcp_pdu.specs.StatusReport.{report_pdu}

-- what comes before
abbrev before_not_due_notfirst_on_air : List Entry
before_not_due_notfirst_on_air =
    an_entry (event.Bearer 1 S12 0 (a_shape false Mcg false) 0 0) answer.Ok (line.Note (note.Own M 1 1) ∷ line.Send (link M T Ctl) (flight.Ctl (rec.Reconf (a_plan 1 None (Set 1 S12 0 (a_shape false Mcg false) 0 0 (a_key 0 Master) None ∷ [])) [])) ∷ [])
    ∷ an_entry (event.Step (link M T Ctl) 0) answer.Ok (line.Note (note.Set 1 1) ∷ line.Send (link T M Ctl) (flight.Ctl (rec.Rcomp 1)) ∷ [])
    ∷ an_entry (event.Step (link T M Ctl) 0) answer.Ok (line.Note note.Done ∷ [])
    ∷ an_entry (event.Submit 1 Dl (104 ∷ 105 ∷ [])) answer.Ok (line.Send (link M T Air) (flight.Air 1 1 0 (Some 0) (128 ∷ 0 ∷ 104 ∷ 105 ∷ [])) ∷ [])
    ∷ an_entry (event.Submit 1 Dl (121 ∷ 111 ∷ [])) answer.Ok (line.Send (link M T Air) (flight.Air 1 1 1 (Some 1) (128 ∷ 1 ∷ 121 ∷ 111 ∷ [])) ∷ [])
    ∷ []

not_due_notfirst_on_air_is_wrong : breaks (a_header Nea0 0 (replicate 32 0)) (before_not_due_notfirst_on_air ++
    an_entry (event.Step (link M T Air) 1) (answer.No refusal.NotFirst) []
    ∷ []) ≡ cause ∷ []
unfolding sn window modulus distance count_for data_pdu decoded read_data read_report keystream counter_block stream_blocks report_pdu
not_due_notfirst_on_air_is_wrong = refl

not_due_notfirst_on_air_is_right : breaks (a_header Nea0 0 (replicate 32 0)) (before_not_due_notfirst_on_air ++
    an_entry (event.Step (link M T Air) 1) answer.Ok (line.Send (link T M Air) (flight.Ack 1 1 1) ∷ [])
    ∷ []) ≡ []
unfolding sn window modulus distance count_for data_pdu decoded read_data read_report keystream counter_block stream_blocks report_pdu
not_due_notfirst_on_air_is_right = refl

-- what comes before
abbrev before_not_due_nottunnel : List Entry
before_not_due_nottunnel =
    an_entry (event.Add A) answer.Ok (line.Send (link M A Ctl) (flight.Ctl (rec.Addreq (a_plan 1 (Some A) []) [])) ∷ [])
    ∷ an_entry (event.Step (link M A Ctl) 0) answer.Ok (line.Note (note.Join A 1) ∷ line.Send (link A M Ctl) (flight.Ctl (rec.Addack 1)) ∷ [])
    ∷ an_entry (event.Step (link A M Ctl) 0) answer.Ok (line.Send (link M T Ctl) (flight.Ctl (rec.Reconf (a_plan 1 (Some A) []) [])) ∷ [])
    ∷ an_entry (event.Step (link M T Ctl) 0) answer.Ok (line.Send (link T M Ctl) (flight.Ctl (rec.Rcomp 1)) ∷ [])
    ∷ an_entry (event.Step (link T M Ctl) 0) answer.Ok (line.Send (link M A Ctl) (flight.Ctl (rec.Recfg 1)) ∷ line.Note note.Done ∷ [])
    ∷ an_entry (event.Step (link M A Ctl) 0) answer.Ok []
    ∷ an_entry (event.Bearer 1 S12 0 (a_shape false Scg false) 0 0) answer.Ok (line.Send (link M A Ctl) (flight.Ctl (rec.Modreq (a_plan 2 (Some A) (Set 1 S12 0 (a_shape false Scg false) 0 0 (a_key 0 Master) None ∷ [])) [])) ∷ [])
    ∷ an_entry (event.Step (link M A Ctl) 0) answer.Ok (line.Send (link A M Ctl) (flight.Ctl (rec.Modack 2)) ∷ [])
    ∷ an_entry (event.Step (link A M Ctl) 0) answer.Ok (line.Note (note.Own M 1 2) ∷ line.Send (link M T Ctl) (flight.Ctl (rec.Reconf (a_plan 2 (Some A) (Set 1 S12 0 (a_shape false Scg false) 0 0 (a_key 0 Master) None ∷ [])) [])) ∷ [])
    ∷ an_entry (event.Step (link M T Ctl) 0) answer.Ok (line.Note (note.Set 1 2) ∷ line.Send (link T M Ctl) (flight.Ctl (rec.Rcomp 2)) ∷ [])
    ∷ an_entry (event.Step (link T M Ctl) 0) answer.Ok (line.Send (link M A Ctl) (flight.Ctl (rec.Recfg 2)) ∷ line.Note note.Done ∷ [])
    ∷ an_entry (event.Submit 1 Dl (170 ∷ [])) answer.Ok (line.Send (link M A Tun) (flight.Tun (Some 0) (52 ∷ 255 ∷ 0 ∷ 15 ∷ 0 ∷ 0 ∷ 1 ∷ 0 ∷ 0 ∷ 0 ∷ 0 ∷ 132 ∷ 2 ∷ 1 ∷ 0 ∷ 0 ∷ 0 ∷ 0 ∷ 0 ∷ 0 ∷ 128 ∷ 0 ∷ 170 ∷ [])) ∷ [])
    ∷ []

not_due_nottunnel_is_wrong : breaks (a_header Nea0 0 (replicate 32 0)) (before_not_due_nottunnel ++
    an_entry (event.Lose (link M A Tun) 0) (answer.No refusal.NotTunnel) []
    ∷ []) ≡ cause ∷ []
unfolding sn window modulus distance count_for data_pdu decoded read_data read_report keystream counter_block stream_blocks report_pdu
not_due_nottunnel_is_wrong = refl

not_due_nottunnel_is_right : breaks (a_header Nea0 0 (replicate 32 0)) (before_not_due_nottunnel ++
    an_entry (event.Lose (link M A Tun) 0) answer.Ok []
    ∷ []) ≡ []
unfolding sn window modulus distance count_for data_pdu decoded read_data read_report keystream counter_block stream_blocks report_pdu
not_due_nottunnel_is_right = refl

-- what comes before
abbrev before_not_due_relcnf_0 : List Entry
before_not_due_relcnf_0 =
    an_entry (event.Add A) answer.Ok (line.Send (link M A Ctl) (flight.Ctl (rec.Addreq (a_plan 1 (Some A) []) [])) ∷ [])
    ∷ an_entry (event.Step (link M A Ctl) 0) answer.Ok (line.Note (note.Join A 1) ∷ line.Send (link A M Ctl) (flight.Ctl (rec.Addack 1)) ∷ [])
    ∷ an_entry (event.Step (link A M Ctl) 0) answer.Ok (line.Send (link M T Ctl) (flight.Ctl (rec.Reconf (a_plan 1 (Some A) []) [])) ∷ [])
    ∷ an_entry (event.Step (link M T Ctl) 0) answer.Ok (line.Send (link T M Ctl) (flight.Ctl (rec.Rcomp 1)) ∷ [])
    ∷ an_entry (event.Step (link T M Ctl) 0) answer.Ok (line.Send (link M A Ctl) (flight.Ctl (rec.Recfg 1)) ∷ line.Note note.Done ∷ [])
    ∷ an_entry (event.Step (link M A Ctl) 0) answer.Ok []
    ∷ an_entry (event.Ask A want.Release) answer.Ok (line.Send (link A M Ctl) (flight.Ctl (rec.Relrqd)) ∷ [])
    ∷ []

not_due_relcnf_0_is_wrong : breaks (a_header Nea0 0 (replicate 32 0)) (before_not_due_relcnf_0 ++
    an_entry (event.Step (link A M Ctl) 0) answer.Ok (line.Send (link M A Ctl) (flight.Ctl (rec.Relcnf (a_plan 0 None []))) ∷ [])
    ∷ []) ≡ licensed ∷ replied ∷ []
unfolding sn window modulus distance count_for data_pdu decoded read_data read_report keystream counter_block stream_blocks report_pdu
not_due_relcnf_0_is_wrong = refl

not_due_relcnf_0_is_right : breaks (a_header Nea0 0 (replicate 32 0)) (before_not_due_relcnf_0 ++
    an_entry (event.Step (link A M Ctl) 0) answer.Ok (line.Note (note.Begin want.Release) ∷ line.Send (link M T Ctl) (flight.Ctl (rec.Reconf (a_plan 2 None []) [])) ∷ line.Send (link M A Ctl) (flight.Ctl (rec.Relcnf (a_plan 2 None []))) ∷ [])
    ∷ []) ≡ []
unfolding sn window modulus distance count_for data_pdu decoded read_data read_report keystream counter_block stream_blocks report_pdu
not_due_relcnf_0_is_right = refl

-- what comes before
abbrev before_not_due_relrej : List Entry
before_not_due_relrej =
    an_entry (event.Add A) answer.Ok (line.Send (link M A Ctl) (flight.Ctl (rec.Addreq (a_plan 1 (Some A) []) [])) ∷ [])
    ∷ an_entry (event.Step (link M A Ctl) 0) answer.Ok (line.Note (note.Join A 1) ∷ line.Send (link A M Ctl) (flight.Ctl (rec.Addack 1)) ∷ [])
    ∷ an_entry (event.Step (link A M Ctl) 0) answer.Ok (line.Send (link M T Ctl) (flight.Ctl (rec.Reconf (a_plan 1 (Some A) []) [])) ∷ [])
    ∷ an_entry (event.Step (link M T Ctl) 0) answer.Ok (line.Send (link T M Ctl) (flight.Ctl (rec.Rcomp 1)) ∷ [])
    ∷ an_entry (event.Step (link T M Ctl) 0) answer.Ok (line.Send (link M A Ctl) (flight.Ctl (rec.Recfg 1)) ∷ line.Note note.Done ∷ [])
    ∷ an_entry (event.Step (link M A Ctl) 0) answer.Ok []
    ∷ an_entry (event.Release) answer.Ok (line.Send (link M A Ctl) (flight.Ctl (rec.Relreq (a_plan 2 None []))) ∷ [])
    ∷ []

not_due_relrej_is_wrong : breaks (a_header Nea0 0 (replicate 32 0)) (before_not_due_relrej ++
    an_entry (event.Step (link M A Ctl) 0) answer.Ok (line.Send (link A M Ctl) (flight.Ctl (rec.Relrej 2)) ∷ [])
    ∷ []) ≡ licensed ∷ come ∷ replied ∷ []
unfolding sn window modulus distance count_for data_pdu decoded read_data read_report keystream counter_block stream_blocks report_pdu
not_due_relrej_is_wrong = refl

not_due_relrej_is_right : breaks (a_header Nea0 0 (replicate 32 0)) (before_not_due_relrej ++
    an_entry (event.Step (link M A Ctl) 0) answer.Ok (line.Note (note.Leave A 2) ∷ line.Send (link A M Ctl) (flight.Ctl (rec.Relack 2)) ∷ [])
    ∷ []) ≡ []
unfolding sn window modulus distance count_for data_pdu decoded read_data read_report keystream counter_block stream_blocks report_pdu
not_due_relrej_is_right = refl

-- what comes before
abbrev before_not_due_relrej_of_a_change : List Entry
before_not_due_relrej_of_a_change =
    an_entry (event.Add A) answer.Ok (line.Send (link M A Ctl) (flight.Ctl (rec.Addreq (a_plan 1 (Some A) []) [])) ∷ [])
    ∷ an_entry (event.Step (link M A Ctl) 0) answer.Ok (line.Note (note.Join A 1) ∷ line.Send (link A M Ctl) (flight.Ctl (rec.Addack 1)) ∷ [])
    ∷ an_entry (event.Step (link A M Ctl) 0) answer.Ok (line.Send (link M T Ctl) (flight.Ctl (rec.Reconf (a_plan 1 (Some A) []) [])) ∷ [])
    ∷ an_entry (event.Step (link M T Ctl) 0) answer.Ok (line.Send (link T M Ctl) (flight.Ctl (rec.Rcomp 1)) ∷ [])
    ∷ an_entry (event.Step (link T M Ctl) 0) answer.Ok (line.Send (link M A Ctl) (flight.Ctl (rec.Recfg 1)) ∷ line.Note note.Done ∷ [])
    ∷ an_entry (event.Step (link M A Ctl) 0) answer.Ok []
    ∷ an_entry (event.Deny A true) answer.Ok []
    ∷ an_entry (event.Change) answer.Ok (line.Send (link M B Ctl) (flight.Ctl (rec.Addreq (a_plan 2 (Some B) []) [])) ∷ [])
    ∷ an_entry (event.Step (link M B Ctl) 0) answer.Ok (line.Note (note.Join B 2) ∷ line.Send (link B M Ctl) (flight.Ctl (rec.Addack 2)) ∷ [])
    ∷ an_entry (event.Step (link B M Ctl) 0) answer.Ok (line.Send (link M T Ctl) (flight.Ctl (rec.Reconf (a_plan 2 (Some B) []) [])) ∷ line.Send (link M A Ctl) (flight.Ctl (rec.Relreq (a_plan 2 (Some B) []))) ∷ [])
    ∷ []

not_due_relrej_of_a_change_is_wrong : breaks (a_header Nea0 0 (replicate 32 0)) (before_not_due_relrej_of_a_change ++
    an_entry (event.Step (link M A Ctl) 0) answer.Ok (line.Send (link A M Ctl) (flight.Ctl (rec.Relrej 2)) ∷ [])
    ∷ []) ≡ licensed ∷ come ∷ replied ∷ []
unfolding sn window modulus distance count_for data_pdu decoded read_data read_report keystream counter_block stream_blocks report_pdu
not_due_relrej_of_a_change_is_wrong = refl

not_due_relrej_of_a_change_is_right : breaks (a_header Nea0 0 (replicate 32 0)) (before_not_due_relrej_of_a_change ++
    an_entry (event.Step (link M A Ctl) 0) answer.Ok (line.Note (note.Leave A 2) ∷ line.Send (link A M Ctl) (flight.Ctl (rec.Relack 2)) ∷ [])
    ∷ []) ≡ []
unfolding sn window modulus distance count_for data_pdu decoded read_data read_report keystream counter_block stream_blocks report_pdu
not_due_relrej_of_a_change_is_right = refl

-- what comes before
abbrev before_not_due_rootused : List Entry
before_not_due_rootused =
    an_entry (event.Bearer 1 S12 0 (a_shape false Mcg false) 0 0) answer.Ok (line.Note (note.Own M 1 1) ∷ line.Send (link M T Ctl) (flight.Ctl (rec.Reconf (a_plan 1 None (Set 1 S12 0 (a_shape false Mcg false) 0 0 (a_key 0 Master) None ∷ [])) [])) ∷ [])
    ∷ an_entry (event.Step (link M T Ctl) 0) answer.Ok (line.Note (note.Set 1 1) ∷ line.Send (link T M Ctl) (flight.Ctl (rec.Rcomp 1)) ∷ [])
    ∷ an_entry (event.Step (link T M Ctl) 0) answer.Ok (line.Note note.Done ∷ [])
    ∷ []

not_due_rootused_is_wrong : breaks (a_header Nea0 0 (replicate 32 0)) (before_not_due_rootused ++
    an_entry (event.RekeyMaster (replicate 32 17)) (answer.No refusal.RootUsed) []
    ∷ []) ≡ cause ∷ []
unfolding sn window modulus distance count_for data_pdu decoded read_data read_report keystream counter_block stream_blocks report_pdu
not_due_rootused_is_wrong = refl

not_due_rootused_is_right : breaks (a_header Nea0 0 (replicate 32 0)) (before_not_due_rootused ++
    an_entry (event.RekeyMaster (replicate 32 17)) answer.Ok (line.Note (note.Own M 1 2) ∷ line.Send (link M T Ctl) (flight.Ctl (rec.Reconf (a_plan 2 None (Set 1 S12 0 (a_shape false Mcg false) 0 0 (a_key 1 Master) (Some M) ∷ [])) [])) ∷ [])
    ∷ []) ≡ []
unfolding sn window modulus distance count_for data_pdu decoded read_data read_report keystream counter_block stream_blocks report_pdu
not_due_rootused_is_right = refl

-- what comes before
abbrev before_not_due_sameshape : List Entry
before_not_due_sameshape =
    an_entry (event.Bearer 1 S12 0 (a_shape false Mcg false) 0 0) answer.Ok (line.Note (note.Own M 1 1) ∷ line.Send (link M T Ctl) (flight.Ctl (rec.Reconf (a_plan 1 None (Set 1 S12 0 (a_shape false Mcg false) 0 0 (a_key 0 Master) None ∷ [])) [])) ∷ [])
    ∷ an_entry (event.Step (link M T Ctl) 0) answer.Ok (line.Note (note.Set 1 1) ∷ line.Send (link T M Ctl) (flight.Ctl (rec.Rcomp 1)) ∷ [])
    ∷ an_entry (event.Step (link T M Ctl) 0) answer.Ok (line.Note note.Done ∷ [])
    ∷ an_entry (event.Add A) answer.Ok (line.Send (link M A Ctl) (flight.Ctl (rec.Addreq (a_plan 2 (Some A) []) [])) ∷ [])
    ∷ an_entry (event.Step (link M A Ctl) 0) answer.Ok (line.Note (note.Join A 2) ∷ line.Send (link A M Ctl) (flight.Ctl (rec.Addack 2)) ∷ [])
    ∷ an_entry (event.Step (link A M Ctl) 0) answer.Ok (line.Send (link M T Ctl) (flight.Ctl (rec.Reconf (a_plan 2 (Some A) []) [])) ∷ [])
    ∷ an_entry (event.Step (link M T Ctl) 0) answer.Ok (line.Send (link T M Ctl) (flight.Ctl (rec.Rcomp 2)) ∷ [])
    ∷ an_entry (event.Step (link T M Ctl) 0) answer.Ok (line.Send (link M A Ctl) (flight.Ctl (rec.Recfg 2)) ∷ line.Note note.Done ∷ [])
    ∷ an_entry (event.Step (link M A Ctl) 0) answer.Ok []
    ∷ []

not_due_sameshape_is_wrong : breaks (a_header Nea0 0 (replicate 32 0)) (before_not_due_sameshape ++
    an_entry (event.Reshape 1 (a_shape false Scg false)) (answer.No refusal.SameShape) []
    ∷ []) ≡ cause ∷ []
unfolding sn window modulus distance count_for data_pdu decoded read_data read_report keystream counter_block stream_blocks report_pdu
not_due_sameshape_is_wrong = refl

not_due_sameshape_is_right : breaks (a_header Nea0 0 (replicate 32 0)) (before_not_due_sameshape ++
    an_entry (event.Reshape 1 (a_shape false Scg false)) answer.Ok (line.Send (link M A Ctl) (flight.Ctl (rec.Modreq (a_plan 3 (Some A) (Set 1 S12 0 (a_shape false Scg false) 0 0 (a_key 0 Master) (Some M) ∷ [])) [])) ∷ [])
    ∷ []) ≡ []
unfolding sn window modulus distance count_for data_pdu decoded read_data read_report keystream counter_block stream_blocks report_pdu
not_due_sameshape_is_right = refl

not_due_secondarythere_is_wrong : breaks (a_header Nea0 0 (replicate 32 0)) (
    an_entry (event.Add A) (answer.No refusal.SecondaryThere) []
    ∷ []) ≡ cause ∷ []
unfolding sn window modulus distance count_for data_pdu decoded read_data read_report keystream counter_block stream_blocks report_pdu
not_due_secondarythere_is_wrong = refl

not_due_secondarythere_is_right : breaks (a_header Nea0 0 (replicate 32 0)) (
    an_entry (event.Add A) answer.Ok (line.Send (link M A Ctl) (flight.Ctl (rec.Addreq (a_plan 1 (Some A) []) [])) ∷ [])
    ∷ []) ≡ []
unfolding sn window modulus distance count_for data_pdu decoded read_data read_report keystream counter_block stream_blocks report_pdu
not_due_secondarythere_is_right = refl

-- what comes before
abbrev before_num_0_for_every_pdu : List Entry
before_num_0_for_every_pdu =
    an_entry (event.Bearer 1 S12 0 (a_shape false Mcg false) 0 0) answer.Ok (line.Note (note.Own M 1 1) ∷ line.Send (link M T Ctl) (flight.Ctl (rec.Reconf (a_plan 1 None (Set 1 S12 0 (a_shape false Mcg false) 0 0 (a_key 0 Master) None ∷ [])) [])) ∷ [])
    ∷ an_entry (event.Step (link M T Ctl) 0) answer.Ok (line.Note (note.Set 1 1) ∷ line.Send (link T M Ctl) (flight.Ctl (rec.Rcomp 1)) ∷ [])
    ∷ an_entry (event.Step (link T M Ctl) 0) answer.Ok (line.Note note.Done ∷ [])
    ∷ an_entry (event.Submit 1 Dl (104 ∷ 105 ∷ [])) answer.Ok (line.Send (link M T Air) (flight.Air 1 1 0 (Some 0) (128 ∷ 0 ∷ 104 ∷ 105 ∷ [])) ∷ [])
    ∷ []

num_0_for_every_pdu_is_wrong : breaks (a_header Nea0 0 (replicate 32 0)) (before_num_0_for_every_pdu ++
    an_entry (event.Submit 1 Dl (121 ∷ 111 ∷ [])) answer.Ok (line.Send (link M T Air) (flight.Air 1 1 0 (Some 1) (128 ∷ 1 ∷ 121 ∷ 111 ∷ [])) ∷ [])
    ∷ []) ≡ numbered ∷ []
unfolding sn window modulus distance count_for data_pdu decoded read_data read_report keystream counter_block stream_blocks report_pdu
num_0_for_every_pdu_is_wrong = refl

num_0_for_every_pdu_is_right : breaks (a_header Nea0 0 (replicate 32 0)) (before_num_0_for_every_pdu ++
    an_entry (event.Submit 1 Dl (121 ∷ 111 ∷ [])) answer.Ok (line.Send (link M T Air) (flight.Air 1 1 1 (Some 1) (128 ∷ 1 ∷ 121 ∷ 111 ∷ [])) ∷ [])
    ∷ []) ≡ []
unfolding sn window modulus distance count_for data_pdu decoded read_data read_report keystream counter_block stream_blocks report_pdu
num_0_for_every_pdu_is_right = refl

-- what comes before
abbrev before_numbers_from_0_again_after_a_change_of_generation : List Entry
before_numbers_from_0_again_after_a_change_of_generation =
    an_entry (event.Bearer 1 S12 0 (a_shape false Mcg false) 0 0) answer.Ok (line.Note (note.Own M 1 1) ∷ line.Send (link M T Ctl) (flight.Ctl (rec.Reconf (a_plan 1 None (Set 1 S12 0 (a_shape false Mcg false) 0 0 (a_key 0 Master) None ∷ [])) [])) ∷ [])
    ∷ an_entry (event.Step (link M T Ctl) 0) answer.Ok (line.Note (note.Set 1 1) ∷ line.Send (link T M Ctl) (flight.Ctl (rec.Rcomp 1)) ∷ [])
    ∷ an_entry (event.Step (link T M Ctl) 0) answer.Ok (line.Note note.Done ∷ [])
    ∷ an_entry (event.Submit 1 Dl (170 ∷ [])) answer.Ok (line.Send (link M T Air) (flight.Air 1 1 0 (Some 0) (128 ∷ 0 ∷ 170 ∷ [])) ∷ [])
    ∷ an_entry (event.Step (link M T Air) 0) answer.Ok (line.Note (note.Up T 1 Dl 0 (170 ∷ [])) ∷ line.Send (link T M Air) (flight.Ack 1 1 0) ∷ [])
    ∷ an_entry (event.Step (link T M Air) 0) answer.Ok (line.Note (note.Freed 1 Dl 1) ∷ [])
    ∷ an_entry (event.RekeyMaster (replicate 32 17)) answer.Ok (line.Note (note.Own M 1 2) ∷ line.Send (link M T Ctl) (flight.Ctl (rec.Reconf (a_plan 2 None (Set 1 S12 0 (a_shape false Mcg false) 0 0 (a_key 1 Master) (Some M) ∷ [])) [])) ∷ [])
    ∷ an_entry (event.Step (link M T Ctl) 0) answer.Ok (line.Note (note.Set 1 2) ∷ line.Send (link T M Ctl) (flight.Ctl (rec.Rcomp 2)) ∷ [])
    ∷ an_entry (event.Step (link T M Ctl) 0) answer.Ok (line.Note note.Done ∷ [])
    ∷ []

numbers_from_0_again_after_a_change_of_generation_is_wrong : breaks (a_header Nea0 0 (replicate 32 0)) (before_numbers_from_0_again_after_a_change_of_generation ++
    an_entry (event.Submit 1 Dl (187 ∷ [])) answer.Ok (line.Send (link M T Air) (flight.Air 1 2 0 (Some 0) (128 ∷ 0 ∷ 187 ∷ [])) ∷ [])
    ∷ []) ≡ protected ∷ licensed ∷ come ∷ []
unfolding sn window modulus distance count_for data_pdu decoded read_data read_report keystream counter_block stream_blocks report_pdu
numbers_from_0_again_after_a_change_of_generation_is_wrong = refl

numbers_from_0_again_after_a_change_of_generation_is_right : breaks (a_header Nea0 0 (replicate 32 0)) (before_numbers_from_0_again_after_a_change_of_generation ++
    an_entry (event.Submit 1 Dl (187 ∷ [])) answer.Ok (line.Send (link M T Air) (flight.Air 1 2 0 (Some 1) (128 ∷ 1 ∷ 187 ∷ [])) ∷ [])
    ∷ []) ≡ []
unfolding sn window modulus distance count_for data_pdu decoded read_data read_report keystream counter_block stream_blocks report_pdu
numbers_from_0_again_after_a_change_of_generation_is_right = refl

-- what comes before
abbrev before_old_anchor_hands_up_after_its_give : List Entry
before_old_anchor_hands_up_after_its_give =
    an_entry (event.Bearer 1 S12 0 (a_shape false Mcg false) 0 0) answer.Ok (line.Note (note.Own M 1 1) ∷ line.Send (link M T Ctl) (flight.Ctl (rec.Reconf (a_plan 1 None (Set 1 S12 0 (a_shape false Mcg false) 0 0 (a_key 0 Master) None ∷ [])) [])) ∷ [])
    ∷ an_entry (event.Step (link M T Ctl) 0) answer.Ok (line.Note (note.Set 1 1) ∷ line.Send (link T M Ctl) (flight.Ctl (rec.Rcomp 1)) ∷ [])
    ∷ an_entry (event.Step (link T M Ctl) 0) answer.Ok (line.Note note.Done ∷ [])
    ∷ an_entry (event.Submit 1 Ul (204 ∷ [])) answer.Ok (line.Send (link T M Air) (flight.Air 1 1 0 (Some 0) (128 ∷ 0 ∷ 204 ∷ [])) ∷ [])
    ∷ an_entry (event.Add A) answer.Ok (line.Send (link M A Ctl) (flight.Ctl (rec.Addreq (a_plan 2 (Some A) []) [])) ∷ [])
    ∷ an_entry (event.Step (link M A Ctl) 0) answer.Ok (line.Note (note.Join A 2) ∷ line.Send (link A M Ctl) (flight.Ctl (rec.Addack 2)) ∷ [])
    ∷ an_entry (event.Step (link A M Ctl) 0) answer.Ok (line.Send (link M T Ctl) (flight.Ctl (rec.Reconf (a_plan 2 (Some A) []) [])) ∷ [])
    ∷ an_entry (event.Step (link M T Ctl) 0) answer.Ok (line.Send (link T M Ctl) (flight.Ctl (rec.Rcomp 2)) ∷ [])
    ∷ an_entry (event.Step (link T M Ctl) 0) answer.Ok (line.Send (link M A Ctl) (flight.Ctl (rec.Recfg 2)) ∷ line.Note note.Done ∷ [])
    ∷ an_entry (event.Reshape 1 (a_shape true Scg false)) answer.Ok (line.Send (link M A Ctl) (flight.Ctl (rec.Modreq (a_plan 3 (Some A) (Set 1 S12 0 (a_shape true Scg false) 0 0 (a_key 0 (SecondKey 0)) (Some M) ∷ [])) [])) ∷ [])
    ∷ an_entry (event.Step (link M A Ctl) 0) answer.Ok []
    ∷ an_entry (event.Step (link M A Ctl) 0) answer.Ok (line.Send (link A M Ctl) (flight.Ctl (rec.Modack 3)) ∷ [])
    ∷ an_entry (event.Step (link A M Ctl) 0) answer.Ok (line.Note (note.Give M 1 3) ∷ line.Send (link M T Ctl) (flight.Ctl (rec.Reconf (a_plan 3 (Some A) (Set 1 S12 0 (a_shape true Scg false) 0 0 (a_key 0 (SecondKey 0)) (Some M) ∷ [])) [])) ∷ line.Send (link M A Ctl) (flight.Ctl (rec.Snst (a_transfer 3 1 0 [] 0))) ∷ line.Send (link M A Tun) (flight.Tun None (52 ∷ 255 ∷ 0 ∷ 12 ∷ 0 ∷ 0 ∷ 1 ∷ 129 ∷ 0 ∷ 0 ∷ 0 ∷ 132 ∷ 2 ∷ 0 ∷ 0 ∷ 0 ∷ 0 ∷ 0 ∷ 0 ∷ 0 ∷ [])) ∷ line.Send (link M A Tun) (flight.Tun None (48 ∷ 254 ∷ 0 ∷ 0 ∷ 0 ∷ 0 ∷ 1 ∷ 129 ∷ [])) ∷ line.Send (link M A Tun) (flight.Tun None (52 ∷ 255 ∷ 0 ∷ 12 ∷ 0 ∷ 0 ∷ 1 ∷ 130 ∷ 0 ∷ 0 ∷ 0 ∷ 132 ∷ 2 ∷ 0 ∷ 0 ∷ 0 ∷ 0 ∷ 0 ∷ 0 ∷ 0 ∷ [])) ∷ line.Send (link M A Tun) (flight.Tun None (48 ∷ 254 ∷ 0 ∷ 0 ∷ 0 ∷ 0 ∷ 1 ∷ 130 ∷ [])) ∷ [])
    ∷ []

old_anchor_hands_up_after_its_give_is_wrong : breaks (a_header Nea0 0 (replicate 32 0)) (before_old_anchor_hands_up_after_its_give ++
    an_entry (event.Step (link T M Air) 0) answer.Ok (line.Note (note.Up M 1 Ul 0 (204 ∷ [])) ∷ line.Send (link M T Air) (flight.Ack 1 1 0) ∷ [])
    ∷ []) ≡ carried ∷ holder ∷ licensed ∷ []
unfolding sn window modulus distance count_for data_pdu decoded read_data read_report keystream counter_block stream_blocks report_pdu
old_anchor_hands_up_after_its_give_is_wrong = refl

old_anchor_hands_up_after_its_give_is_right : breaks (a_header Nea0 0 (replicate 32 0)) (before_old_anchor_hands_up_after_its_give ++
    an_entry (event.Step (link T M Air) 0) answer.Ok []
    ∷ []) ≡ []
unfolding sn window modulus distance count_for data_pdu decoded read_data read_report keystream counter_block stream_blocks report_pdu
old_anchor_hands_up_after_its_give_is_right = refl

-- what comes before
abbrev before_old_anchor_sends_after_its_give : List Entry
before_old_anchor_sends_after_its_give =
    an_entry (event.Bearer 1 S12 0 (a_shape false Mcg false) 0 0) answer.Ok (line.Note (note.Own M 1 1) ∷ line.Send (link M T Ctl) (flight.Ctl (rec.Reconf (a_plan 1 None (Set 1 S12 0 (a_shape false Mcg false) 0 0 (a_key 0 Master) None ∷ [])) [])) ∷ [])
    ∷ an_entry (event.Step (link M T Ctl) 0) answer.Ok (line.Note (note.Set 1 1) ∷ line.Send (link T M Ctl) (flight.Ctl (rec.Rcomp 1)) ∷ [])
    ∷ an_entry (event.Step (link T M Ctl) 0) answer.Ok (line.Note note.Done ∷ [])
    ∷ an_entry (event.Submit 1 Dl (170 ∷ [])) answer.Ok (line.Send (link M T Air) (flight.Air 1 1 0 (Some 0) (128 ∷ 0 ∷ 170 ∷ [])) ∷ [])
    ∷ an_entry (event.Add A) answer.Ok (line.Send (link M A Ctl) (flight.Ctl (rec.Addreq (a_plan 2 (Some A) []) [])) ∷ [])
    ∷ an_entry (event.Step (link M A Ctl) 0) answer.Ok (line.Note (note.Join A 2) ∷ line.Send (link A M Ctl) (flight.Ctl (rec.Addack 2)) ∷ [])
    ∷ an_entry (event.Step (link A M Ctl) 0) answer.Ok (line.Send (link M T Ctl) (flight.Ctl (rec.Reconf (a_plan 2 (Some A) []) [])) ∷ [])
    ∷ an_entry (event.Step (link M T Ctl) 0) answer.Ok (line.Send (link T M Ctl) (flight.Ctl (rec.Rcomp 2)) ∷ [])
    ∷ an_entry (event.Step (link T M Ctl) 0) answer.Ok (line.Send (link M A Ctl) (flight.Ctl (rec.Recfg 2)) ∷ line.Note note.Done ∷ [])
    ∷ an_entry (event.Reshape 1 (a_shape true Scg false)) answer.Ok (line.Send (link M A Ctl) (flight.Ctl (rec.Modreq (a_plan 3 (Some A) (Set 1 S12 0 (a_shape true Scg false) 0 0 (a_key 0 (SecondKey 0)) (Some M) ∷ [])) [])) ∷ [])
    ∷ an_entry (event.Step (link M A Ctl) 0) answer.Ok []
    ∷ an_entry (event.Step (link M A Ctl) 0) answer.Ok (line.Send (link A M Ctl) (flight.Ctl (rec.Modack 3)) ∷ [])
    ∷ []

old_anchor_sends_after_its_give_is_wrong : breaks (a_header Nea0 0 (replicate 32 0)) (before_old_anchor_sends_after_its_give ++
    an_entry (event.Step (link A M Ctl) 0) answer.Ok (line.Note (note.Give M 1 3) ∷ line.Send (link M T Ctl) (flight.Ctl (rec.Reconf (a_plan 3 (Some A) (Set 1 S12 0 (a_shape true Scg false) 0 0 (a_key 0 (SecondKey 0)) (Some M) ∷ [])) [])) ∷ line.Send (link M A Ctl) (flight.Ctl (rec.Snst (a_transfer 3 1 0 [] 1))) ∷ line.Send (link M T Air) (flight.Air 1 1 1 (Some 0) (128 ∷ 0 ∷ 170 ∷ [])) ∷ line.Send (link M A Tun) (flight.Tun None (52 ∷ 255 ∷ 0 ∷ 17 ∷ 0 ∷ 0 ∷ 1 ∷ 129 ∷ 0 ∷ 0 ∷ 0 ∷ 132 ∷ 2 ∷ 1 ∷ 0 ∷ 0 ∷ 0 ∷ 0 ∷ 0 ∷ 192 ∷ 1 ∷ 0 ∷ 0 ∷ 0 ∷ 170 ∷ [])) ∷ line.Send (link M A Tun) (flight.Tun None (52 ∷ 255 ∷ 0 ∷ 12 ∷ 0 ∷ 0 ∷ 1 ∷ 129 ∷ 0 ∷ 0 ∷ 0 ∷ 132 ∷ 2 ∷ 0 ∷ 0 ∷ 0 ∷ 1 ∷ 0 ∷ 0 ∷ 0 ∷ [])) ∷ line.Send (link M A Tun) (flight.Tun None (48 ∷ 254 ∷ 0 ∷ 0 ∷ 0 ∷ 0 ∷ 1 ∷ 129 ∷ [])) ∷ line.Send (link M A Tun) (flight.Tun None (52 ∷ 255 ∷ 0 ∷ 12 ∷ 0 ∷ 0 ∷ 1 ∷ 130 ∷ 0 ∷ 0 ∷ 0 ∷ 132 ∷ 2 ∷ 0 ∷ 0 ∷ 0 ∷ 0 ∷ 0 ∷ 0 ∷ 0 ∷ [])) ∷ line.Send (link M A Tun) (flight.Tun None (48 ∷ 254 ∷ 0 ∷ 0 ∷ 0 ∷ 0 ∷ 1 ∷ 130 ∷ [])) ∷ [])
    ∷ []) ≡ holder ∷ licensed ∷ []
unfolding sn window modulus distance count_for data_pdu decoded read_data read_report keystream counter_block stream_blocks report_pdu
old_anchor_sends_after_its_give_is_wrong = refl

old_anchor_sends_after_its_give_is_right : breaks (a_header Nea0 0 (replicate 32 0)) (before_old_anchor_sends_after_its_give ++
    an_entry (event.Step (link A M Ctl) 0) answer.Ok (line.Note (note.Give M 1 3) ∷ line.Send (link M T Ctl) (flight.Ctl (rec.Reconf (a_plan 3 (Some A) (Set 1 S12 0 (a_shape true Scg false) 0 0 (a_key 0 (SecondKey 0)) (Some M) ∷ [])) [])) ∷ line.Send (link M A Ctl) (flight.Ctl (rec.Snst (a_transfer 3 1 0 [] 1))) ∷ line.Send (link M A Tun) (flight.Tun None (52 ∷ 255 ∷ 0 ∷ 17 ∷ 0 ∷ 0 ∷ 1 ∷ 129 ∷ 0 ∷ 0 ∷ 0 ∷ 132 ∷ 2 ∷ 1 ∷ 0 ∷ 0 ∷ 0 ∷ 0 ∷ 0 ∷ 192 ∷ 1 ∷ 0 ∷ 0 ∷ 0 ∷ 170 ∷ [])) ∷ line.Send (link M A Tun) (flight.Tun None (52 ∷ 255 ∷ 0 ∷ 12 ∷ 0 ∷ 0 ∷ 1 ∷ 129 ∷ 0 ∷ 0 ∷ 0 ∷ 132 ∷ 2 ∷ 0 ∷ 0 ∷ 0 ∷ 1 ∷ 0 ∷ 0 ∷ 0 ∷ [])) ∷ line.Send (link M A Tun) (flight.Tun None (48 ∷ 254 ∷ 0 ∷ 0 ∷ 0 ∷ 0 ∷ 1 ∷ 129 ∷ [])) ∷ line.Send (link M A Tun) (flight.Tun None (52 ∷ 255 ∷ 0 ∷ 12 ∷ 0 ∷ 0 ∷ 1 ∷ 130 ∷ 0 ∷ 0 ∷ 0 ∷ 132 ∷ 2 ∷ 0 ∷ 0 ∷ 0 ∷ 0 ∷ 0 ∷ 0 ∷ 0 ∷ [])) ∷ line.Send (link M A Tun) (flight.Tun None (48 ∷ 254 ∷ 0 ∷ 0 ∷ 0 ∷ 0 ∷ 1 ∷ 130 ∷ [])) ∷ [])
    ∷ []) ≡ []
unfolding sn window modulus distance count_for data_pdu decoded read_data read_report keystream counter_block stream_blocks report_pdu
old_anchor_sends_after_its_give_is_right = refl

-- what comes before
abbrev before_old_root_used_after_rekey_m : List Entry
before_old_root_used_after_rekey_m =
    an_entry (event.Bearer 1 S12 0 (a_shape false Mcg false) 0 0) answer.Ok (line.Note (note.Own M 1 1) ∷ line.Send (link M T Ctl) (flight.Ctl (rec.Reconf (a_plan 1 None (Set 1 S12 0 (a_shape false Mcg false) 0 0 (a_key 0 Master) None ∷ [])) [])) ∷ [])
    ∷ an_entry (event.Step (link M T Ctl) 0) answer.Ok (line.Note (note.Set 1 1) ∷ line.Send (link T M Ctl) (flight.Ctl (rec.Rcomp 1)) ∷ [])
    ∷ an_entry (event.Step (link T M Ctl) 0) answer.Ok (line.Note note.Done ∷ [])
    ∷ an_entry (event.RekeyMaster (replicate 32 17)) answer.Ok (line.Note (note.Own M 1 2) ∷ line.Send (link M T Ctl) (flight.Ctl (rec.Reconf (a_plan 2 None (Set 1 S12 0 (a_shape false Mcg false) 0 0 (a_key 1 Master) (Some M) ∷ [])) [])) ∷ [])
    ∷ an_entry (event.Step (link M T Ctl) 0) answer.Ok (line.Note (note.Set 1 2) ∷ line.Send (link T M Ctl) (flight.Ctl (rec.Rcomp 2)) ∷ [])
    ∷ an_entry (event.Step (link T M Ctl) 0) answer.Ok (line.Note note.Done ∷ [])
    ∷ []

old_root_used_after_rekey_m_is_wrong : breaks (a_header Nea0 0 (replicate 32 0)) (before_old_root_used_after_rekey_m ++
    an_entry (event.Bearer 2 S12 0 (a_shape false Mcg false) 0 0) answer.Ok (line.Note (note.Own M 2 3) ∷ line.Send (link M T Ctl) (flight.Ctl (rec.Reconf (a_plan 3 None (Set 2 S12 0 (a_shape false Mcg false) 0 0 (a_key 0 Master) None ∷ [])) [])) ∷ [])
    ∷ []) ≡ planned ∷ []
unfolding sn window modulus distance count_for data_pdu decoded read_data read_report keystream counter_block stream_blocks report_pdu
old_root_used_after_rekey_m_is_wrong = refl

old_root_used_after_rekey_m_is_right : breaks (a_header Nea0 0 (replicate 32 0)) (before_old_root_used_after_rekey_m ++
    an_entry (event.Bearer 2 S12 0 (a_shape false Mcg false) 0 0) answer.Ok (line.Note (note.Own M 2 3) ∷ line.Send (link M T Ctl) (flight.Ctl (rec.Reconf (a_plan 3 None (Set 2 S12 0 (a_shape false Mcg false) 0 0 (a_key 1 Master) None ∷ [])) [])) ∷ [])
    ∷ []) ≡ []
unfolding sn window modulus distance count_for data_pdu decoded read_data read_report keystream counter_block stream_blocks report_pdu
old_root_used_after_rekey_m_is_right = refl

-- what comes before
abbrev before_one_ack_frees_two_counts : List Entry
before_one_ack_frees_two_counts =
    an_entry (event.Bearer 1 S12 0 (a_shape false Mcg false) 0 0) answer.Ok (line.Note (note.Own M 1 1) ∷ line.Send (link M T Ctl) (flight.Ctl (rec.Reconf (a_plan 1 None (Set 1 S12 0 (a_shape false Mcg false) 0 0 (a_key 0 Master) None ∷ [])) [])) ∷ [])
    ∷ an_entry (event.Step (link M T Ctl) 0) answer.Ok (line.Note (note.Set 1 1) ∷ line.Send (link T M Ctl) (flight.Ctl (rec.Rcomp 1)) ∷ [])
    ∷ an_entry (event.Step (link T M Ctl) 0) answer.Ok (line.Note note.Done ∷ [])
    ∷ an_entry (event.Submit 1 Dl (104 ∷ 105 ∷ [])) answer.Ok (line.Send (link M T Air) (flight.Air 1 1 0 (Some 0) (128 ∷ 0 ∷ 104 ∷ 105 ∷ [])) ∷ [])
    ∷ an_entry (event.Submit 1 Dl (121 ∷ 111 ∷ [])) answer.Ok (line.Send (link M T Air) (flight.Air 1 1 1 (Some 1) (128 ∷ 1 ∷ 121 ∷ 111 ∷ [])) ∷ [])
    ∷ an_entry (event.Step (link M T Air) 0) answer.Ok (line.Note (note.Up T 1 Dl 0 (104 ∷ 105 ∷ [])) ∷ line.Send (link T M Air) (flight.Ack 1 1 0) ∷ [])
    ∷ []

one_ack_frees_two_counts_is_wrong : breaks (a_header Nea0 0 (replicate 32 0)) (before_one_ack_frees_two_counts ++
    an_entry (event.Step (link T M Air) 0) answer.Ok (line.Note (note.Freed 1 Dl 2) ∷ [])
    ∷ []) ≡ told ∷ []
unfolding sn window modulus distance count_for data_pdu decoded read_data read_report keystream counter_block stream_blocks report_pdu
one_ack_frees_two_counts_is_wrong = refl

one_ack_frees_two_counts_is_right : breaks (a_header Nea0 0 (replicate 32 0)) (before_one_ack_frees_two_counts ++
    an_entry (event.Step (link T M Air) 0) answer.Ok (line.Note (note.Freed 1 Dl 1) ∷ [])
    ∷ []) ≡ []
unfolding sn window modulus distance count_for data_pdu decoded read_data read_report keystream counter_block stream_blocks report_pdu
one_ack_frees_two_counts_is_right = refl

one_ack_of_a_num_given_twice_frees_both_is_wrong : breaks (a_header Nea0 0 (replicate 32 0)) (before_num_0_for_every_pdu ++
    an_entry (event.Submit 1 Dl (121 ∷ 111 ∷ [])) answer.Ok (line.Send (link M T Air) (flight.Air 1 1 0 (Some 1) (128 ∷ 1 ∷ 121 ∷ 111 ∷ [])) ∷ [])
    ∷ an_entry (event.Step (link M T Air) 0) answer.Ok (line.Note (note.Up T 1 Dl 0 (104 ∷ 105 ∷ [])) ∷ line.Send (link T M Air) (flight.Ack 1 1 0) ∷ [])
    ∷ an_entry (event.Step (link T M Air) 0) answer.Ok (line.Note (note.Freed 1 Dl 2) ∷ [])
    ∷ []) ≡ told ∷ numbered ∷ []
unfolding sn window modulus distance count_for data_pdu decoded read_data read_report keystream counter_block stream_blocks report_pdu
one_ack_of_a_num_given_twice_frees_both_is_wrong = refl

one_ack_of_a_num_given_twice_frees_both_is_right : breaks (a_header Nea0 0 (replicate 32 0)) (before_num_0_for_every_pdu ++
    an_entry (event.Submit 1 Dl (121 ∷ 111 ∷ [])) answer.Ok (line.Send (link M T Air) (flight.Air 1 1 1 (Some 1) (128 ∷ 1 ∷ 121 ∷ 111 ∷ [])) ∷ [])
    ∷ an_entry (event.Step (link M T Air) 0) answer.Ok (line.Note (note.Up T 1 Dl 0 (104 ∷ 105 ∷ [])) ∷ line.Send (link T M Air) (flight.Ack 1 1 0) ∷ [])
    ∷ an_entry (event.Step (link T M Air) 0) answer.Ok (line.Note (note.Freed 1 Dl 1) ∷ [])
    ∷ []) ≡ []
unfolding sn window modulus distance count_for data_pdu decoded read_data read_report keystream counter_block stream_blocks report_pdu
one_ack_of_a_num_given_twice_frees_both_is_right = refl

-- what comes before
abbrev before_one_leg_with_duplication : List Entry
before_one_leg_with_duplication =
    an_entry (event.Add A) answer.Ok (line.Send (link M A Ctl) (flight.Ctl (rec.Addreq (a_plan 1 (Some A) []) [])) ∷ [])
    ∷ an_entry (event.Step (link M A Ctl) 0) answer.Ok (line.Note (note.Join A 1) ∷ line.Send (link A M Ctl) (flight.Ctl (rec.Addack 1)) ∷ [])
    ∷ an_entry (event.Step (link A M Ctl) 0) answer.Ok (line.Send (link M T Ctl) (flight.Ctl (rec.Reconf (a_plan 1 (Some A) []) [])) ∷ [])
    ∷ an_entry (event.Step (link M T Ctl) 0) answer.Ok (line.Send (link T M Ctl) (flight.Ctl (rec.Rcomp 1)) ∷ [])
    ∷ an_entry (event.Step (link T M Ctl) 0) answer.Ok (line.Send (link M A Ctl) (flight.Ctl (rec.Recfg 1)) ∷ line.Note note.Done ∷ [])
    ∷ an_entry (event.Step (link M A Ctl) 0) answer.Ok []
    ∷ an_entry (event.Bearer 1 S12 0 (a_shape false (Split cell.Mcg) true) 0 0) answer.Ok (line.Send (link M A Ctl) (flight.Ctl (rec.Modreq (a_plan 2 (Some A) (Set 1 S12 0 (a_shape false (Split cell.Mcg) true) 0 0 (a_key 0 Master) None ∷ [])) [])) ∷ [])
    ∷ an_entry (event.Step (link M A Ctl) 0) answer.Ok (line.Send (link A M Ctl) (flight.Ctl (rec.Modack 2)) ∷ [])
    ∷ an_entry (event.Step (link A M Ctl) 0) answer.Ok (line.Note (note.Own M 1 2) ∷ line.Send (link M T Ctl) (flight.Ctl (rec.Reconf (a_plan 2 (Some A) (Set 1 S12 0 (a_shape false (Split cell.Mcg) true) 0 0 (a_key 0 Master) None ∷ [])) [])) ∷ [])
    ∷ an_entry (event.Step (link M T Ctl) 0) answer.Ok (line.Note (note.Set 1 2) ∷ line.Send (link T M Ctl) (flight.Ctl (rec.Rcomp 2)) ∷ [])
    ∷ an_entry (event.Step (link T M Ctl) 0) answer.Ok (line.Send (link M A Ctl) (flight.Ctl (rec.Recfg 2)) ∷ line.Note note.Done ∷ [])
    ∷ []

one_leg_with_duplication_is_wrong : breaks (a_header Nea0 0 (replicate 32 0)) (before_one_leg_with_duplication ++
    an_entry (event.Submit 1 Dl (170 ∷ [])) answer.Ok (line.Send (link M T Air) (flight.Air 1 2 0 (Some 0) (128 ∷ 0 ∷ 170 ∷ [])) ∷ [])
    ∷ []) ≡ come ∷ []
unfolding sn window modulus distance count_for data_pdu decoded read_data read_report keystream counter_block stream_blocks report_pdu
one_leg_with_duplication_is_wrong = refl

one_leg_with_duplication_is_right : breaks (a_header Nea0 0 (replicate 32 0)) (before_one_leg_with_duplication ++
    an_entry (event.Submit 1 Dl (170 ∷ [])) answer.Ok (line.Send (link M T Air) (flight.Air 1 2 0 (Some 0) (128 ∷ 0 ∷ 170 ∷ [])) ∷ line.Send (link M A Tun) (flight.Tun (Some 0) (52 ∷ 255 ∷ 0 ∷ 15 ∷ 0 ∷ 0 ∷ 1 ∷ 0 ∷ 0 ∷ 0 ∷ 0 ∷ 132 ∷ 2 ∷ 1 ∷ 0 ∷ 0 ∷ 0 ∷ 0 ∷ 0 ∷ 0 ∷ 128 ∷ 0 ∷ 170 ∷ [])) ∷ [])
    ∷ []) ≡ []
unfolding sn window modulus distance count_for data_pdu decoded read_data read_report keystream counter_block stream_blocks report_pdu
one_leg_with_duplication_is_right = refl

-- what comes before
abbrev before_own_at_the_new_anchor_while_the_old_one_holds : List Entry
before_own_at_the_new_anchor_while_the_old_one_holds =
    an_entry (event.Bearer 1 S12 0 (a_shape false Mcg false) 0 0) answer.Ok (line.Note (note.Own M 1 1) ∷ line.Send (link M T Ctl) (flight.Ctl (rec.Reconf (a_plan 1 None (Set 1 S12 0 (a_shape false Mcg false) 0 0 (a_key 0 Master) None ∷ [])) [])) ∷ [])
    ∷ an_entry (event.Step (link M T Ctl) 0) answer.Ok (line.Note (note.Set 1 1) ∷ line.Send (link T M Ctl) (flight.Ctl (rec.Rcomp 1)) ∷ [])
    ∷ an_entry (event.Step (link T M Ctl) 0) answer.Ok (line.Note note.Done ∷ [])
    ∷ an_entry (event.Add A) answer.Ok (line.Send (link M A Ctl) (flight.Ctl (rec.Addreq (a_plan 2 (Some A) []) [])) ∷ [])
    ∷ an_entry (event.Step (link M A Ctl) 0) answer.Ok (line.Note (note.Join A 2) ∷ line.Send (link A M Ctl) (flight.Ctl (rec.Addack 2)) ∷ [])
    ∷ an_entry (event.Step (link A M Ctl) 0) answer.Ok (line.Send (link M T Ctl) (flight.Ctl (rec.Reconf (a_plan 2 (Some A) []) [])) ∷ [])
    ∷ an_entry (event.Step (link M T Ctl) 0) answer.Ok (line.Send (link T M Ctl) (flight.Ctl (rec.Rcomp 2)) ∷ [])
    ∷ an_entry (event.Step (link T M Ctl) 0) answer.Ok (line.Send (link M A Ctl) (flight.Ctl (rec.Recfg 2)) ∷ line.Note note.Done ∷ [])
    ∷ an_entry (event.Reshape 1 (a_shape true Scg false)) answer.Ok (line.Send (link M A Ctl) (flight.Ctl (rec.Modreq (a_plan 3 (Some A) (Set 1 S12 0 (a_shape true Scg false) 0 0 (a_key 0 (SecondKey 0)) (Some M) ∷ [])) [])) ∷ [])
    ∷ an_entry (event.Step (link M A Ctl) 0) answer.Ok []
    ∷ []

own_at_the_new_anchor_while_the_old_one_holds_is_wrong : breaks (a_header Nea0 0 (replicate 32 0)) (before_own_at_the_new_anchor_while_the_old_one_holds ++
    an_entry (event.Step (link M A Ctl) 0) answer.Ok (line.Note (note.Own A 1 3) ∷ line.Send (link A M Ctl) (flight.Ctl (rec.Modack 3)) ∷ [])
    ∷ []) ≡ holder ∷ placed ∷ come ∷ []
unfolding sn window modulus distance count_for data_pdu decoded read_data read_report keystream counter_block stream_blocks report_pdu
own_at_the_new_anchor_while_the_old_one_holds_is_wrong = refl

own_at_the_new_anchor_while_the_old_one_holds_is_right : breaks (a_header Nea0 0 (replicate 32 0)) (before_own_at_the_new_anchor_while_the_old_one_holds ++
    an_entry (event.Step (link M A Ctl) 0) answer.Ok (line.Send (link A M Ctl) (flight.Ctl (rec.Modack 3)) ∷ [])
    ∷ []) ≡ []
unfolding sn window modulus distance count_for data_pdu decoded read_data read_report keystream counter_block stream_blocks report_pdu
own_at_the_new_anchor_while_the_old_one_holds_is_right = refl

-- what comes before
abbrev before_own_before_the_totals_are_in : List Entry
before_own_before_the_totals_are_in =
    an_entry (event.Bearer 1 S12 0 (a_shape false Mcg false) 0 0) answer.Ok (line.Note (note.Own M 1 1) ∷ line.Send (link M T Ctl) (flight.Ctl (rec.Reconf (a_plan 1 None (Set 1 S12 0 (a_shape false Mcg false) 0 0 (a_key 0 Master) None ∷ [])) [])) ∷ [])
    ∷ an_entry (event.Step (link M T Ctl) 0) answer.Ok (line.Note (note.Set 1 1) ∷ line.Send (link T M Ctl) (flight.Ctl (rec.Rcomp 1)) ∷ [])
    ∷ an_entry (event.Step (link T M Ctl) 0) answer.Ok (line.Note note.Done ∷ [])
    ∷ an_entry (event.Add A) answer.Ok (line.Send (link M A Ctl) (flight.Ctl (rec.Addreq (a_plan 2 (Some A) []) [])) ∷ [])
    ∷ an_entry (event.Step (link M A Ctl) 0) answer.Ok (line.Note (note.Join A 2) ∷ line.Send (link A M Ctl) (flight.Ctl (rec.Addack 2)) ∷ [])
    ∷ an_entry (event.Step (link A M Ctl) 0) answer.Ok (line.Send (link M T Ctl) (flight.Ctl (rec.Reconf (a_plan 2 (Some A) []) [])) ∷ [])
    ∷ an_entry (event.Step (link M T Ctl) 0) answer.Ok (line.Send (link T M Ctl) (flight.Ctl (rec.Rcomp 2)) ∷ [])
    ∷ an_entry (event.Step (link T M Ctl) 0) answer.Ok (line.Send (link M A Ctl) (flight.Ctl (rec.Recfg 2)) ∷ line.Note note.Done ∷ [])
    ∷ an_entry (event.Reshape 1 (a_shape true Scg false)) answer.Ok (line.Send (link M A Ctl) (flight.Ctl (rec.Modreq (a_plan 3 (Some A) (Set 1 S12 0 (a_shape true Scg false) 0 0 (a_key 0 (SecondKey 0)) (Some M) ∷ [])) [])) ∷ [])
    ∷ an_entry (event.Step (link M A Ctl) 0) answer.Ok []
    ∷ an_entry (event.Step (link M A Ctl) 0) answer.Ok (line.Send (link A M Ctl) (flight.Ctl (rec.Modack 3)) ∷ [])
    ∷ an_entry (event.Step (link A M Ctl) 0) answer.Ok (line.Note (note.Give M 1 3) ∷ line.Send (link M T Ctl) (flight.Ctl (rec.Reconf (a_plan 3 (Some A) (Set 1 S12 0 (a_shape true Scg false) 0 0 (a_key 0 (SecondKey 0)) (Some M) ∷ [])) [])) ∷ line.Send (link M A Ctl) (flight.Ctl (rec.Snst (a_transfer 3 1 0 [] 0))) ∷ line.Send (link M A Tun) (flight.Tun None (52 ∷ 255 ∷ 0 ∷ 12 ∷ 0 ∷ 0 ∷ 1 ∷ 129 ∷ 0 ∷ 0 ∷ 0 ∷ 132 ∷ 2 ∷ 0 ∷ 0 ∷ 0 ∷ 0 ∷ 0 ∷ 0 ∷ 0 ∷ [])) ∷ line.Send (link M A Tun) (flight.Tun None (48 ∷ 254 ∷ 0 ∷ 0 ∷ 0 ∷ 0 ∷ 1 ∷ 129 ∷ [])) ∷ line.Send (link M A Tun) (flight.Tun None (52 ∷ 255 ∷ 0 ∷ 12 ∷ 0 ∷ 0 ∷ 1 ∷ 130 ∷ 0 ∷ 0 ∷ 0 ∷ 132 ∷ 2 ∷ 0 ∷ 0 ∷ 0 ∷ 0 ∷ 0 ∷ 0 ∷ 0 ∷ [])) ∷ line.Send (link M A Tun) (flight.Tun None (48 ∷ 254 ∷ 0 ∷ 0 ∷ 0 ∷ 0 ∷ 1 ∷ 130 ∷ [])) ∷ [])
    ∷ an_entry (event.Step (link M A Ctl) 0) answer.Ok []
    ∷ []

own_before_the_totals_are_in_is_wrong : breaks (a_header Nea0 0 (replicate 32 0)) (before_own_before_the_totals_are_in ++
    an_entry (event.Step (link M A Tun) 0) answer.Ok (line.Note (note.Own A 1 3) ∷ [])
    ∷ []) ≡ placed ∷ come ∷ []
unfolding sn window modulus distance count_for data_pdu decoded read_data read_report keystream counter_block stream_blocks report_pdu
own_before_the_totals_are_in_is_wrong = refl

own_before_the_totals_are_in_is_right : breaks (a_header Nea0 0 (replicate 32 0)) (before_own_before_the_totals_are_in ++
    an_entry (event.Step (link M A Tun) 0) answer.Ok []
    ∷ []) ≡ []
unfolding sn window modulus distance count_for data_pdu decoded read_data read_report keystream counter_block stream_blocks report_pdu
own_before_the_totals_are_in_is_right = refl

own_line_at_a_secondary_for_a_bearer_at_the_master_is_wrong : breaks (a_header Nea0 0 (replicate 32 0)) (
    an_entry (event.Bearer 1 S12 0 (a_shape false Mcg false) 0 0) answer.Ok (line.Note (note.Own A 1 1) ∷ line.Send (link M T Ctl) (flight.Ctl (rec.Reconf (a_plan 1 None (Set 1 S12 0 (a_shape false Mcg false) 0 0 (a_key 0 Master) None ∷ [])) [])) ∷ [])
    ∷ []) ≡ holder ∷ placed ∷ []
unfolding sn window modulus distance count_for data_pdu decoded read_data read_report keystream counter_block stream_blocks report_pdu
own_line_at_a_secondary_for_a_bearer_at_the_master_is_wrong = refl

own_line_at_a_secondary_for_a_bearer_at_the_master_is_right : breaks (a_header Nea0 0 (replicate 32 0)) (
    an_entry (event.Bearer 1 S12 0 (a_shape false Mcg false) 0 0) answer.Ok (line.Note (note.Own M 1 1) ∷ line.Send (link M T Ctl) (flight.Ctl (rec.Reconf (a_plan 1 None (Set 1 S12 0 (a_shape false Mcg false) 0 0 (a_key 0 Master) None ∷ [])) [])) ∷ [])
    ∷ []) ≡ []
unfolding sn window modulus distance count_for data_pdu decoded read_data read_report keystream counter_block stream_blocks report_pdu
own_line_at_a_secondary_for_a_bearer_at_the_master_is_right = refl

-- what comes before
abbrev before_payload_handed_up_twice : List Entry
before_payload_handed_up_twice =
    an_entry (event.Bearer 1 S12 0 (a_shape false Mcg false) 0 0) answer.Ok (line.Note (note.Own M 1 1) ∷ line.Send (link M T Ctl) (flight.Ctl (rec.Reconf (a_plan 1 None (Set 1 S12 0 (a_shape false Mcg false) 0 0 (a_key 0 Master) None ∷ [])) [])) ∷ [])
    ∷ an_entry (event.Step (link M T Ctl) 0) answer.Ok (line.Note (note.Set 1 1) ∷ line.Send (link T M Ctl) (flight.Ctl (rec.Rcomp 1)) ∷ [])
    ∷ an_entry (event.Step (link T M Ctl) 0) answer.Ok (line.Note note.Done ∷ [])
    ∷ an_entry (event.Submit 1 Dl (104 ∷ 105 ∷ [])) answer.Ok (line.Send (link M T Air) (flight.Air 1 1 0 (Some 0) (128 ∷ 0 ∷ 104 ∷ 105 ∷ [])) ∷ [])
    ∷ an_entry (event.Step (link M T Air) 0) answer.Ok (line.Note (note.Up T 1 Dl 0 (104 ∷ 105 ∷ [])) ∷ line.Send (link T M Air) (flight.Ack 1 1 0) ∷ [])
    ∷ an_entry (event.Recover 1) answer.Ok (line.Send (link M T Ctl) (flight.Ctl (rec.Recov 1)) ∷ line.Send (link M T Air) (flight.Air 1 1 1 (Some 0) (128 ∷ 0 ∷ 104 ∷ 105 ∷ [])) ∷ [])
    ∷ []

payload_handed_up_twice_is_wrong : breaks (a_header Nea0 0 (replicate 32 0)) (before_payload_handed_up_twice ++
    an_entry (event.Step (link M T Air) 0) answer.Ok (line.Note (note.Up T 1 Dl 0 (104 ∷ 105 ∷ [])) ∷ line.Send (link T M Air) (flight.Ack 1 1 1) ∷ [])
    ∷ []) ≡ front ∷ windowed ∷ []
unfolding sn window modulus distance count_for data_pdu decoded read_data read_report keystream counter_block stream_blocks report_pdu
payload_handed_up_twice_is_wrong = refl

payload_handed_up_twice_is_right : breaks (a_header Nea0 0 (replicate 32 0)) (before_payload_handed_up_twice ++
    an_entry (event.Step (link M T Air) 0) answer.Ok (line.Send (link T M Air) (flight.Ack 1 1 1) ∷ [])
    ∷ []) ≡ []
unfolding sn window modulus distance count_for data_pdu decoded read_data read_report keystream counter_block stream_blocks report_pdu
payload_handed_up_twice_is_right = refl

-- what comes before
abbrev before_pdu_before_rcomp_at_the_master : List Entry
before_pdu_before_rcomp_at_the_master =
    an_entry (event.Bearer 1 S12 0 (a_shape false Mcg false) 0 0) answer.Ok (line.Note (note.Own M 1 1) ∷ line.Send (link M T Ctl) (flight.Ctl (rec.Reconf (a_plan 1 None (Set 1 S12 0 (a_shape false Mcg false) 0 0 (a_key 0 Master) None ∷ [])) [])) ∷ [])
    ∷ an_entry (event.Step (link M T Ctl) 0) answer.Ok (line.Note (note.Set 1 1) ∷ line.Send (link T M Ctl) (flight.Ctl (rec.Rcomp 1)) ∷ [])
    ∷ an_entry (event.Step (link T M Ctl) 0) answer.Ok (line.Note note.Done ∷ [])
    ∷ an_entry (event.RekeyMaster (replicate 32 17)) answer.Ok (line.Note (note.Own M 1 2) ∷ line.Send (link M T Ctl) (flight.Ctl (rec.Reconf (a_plan 2 None (Set 1 S12 0 (a_shape false Mcg false) 0 0 (a_key 1 Master) (Some M) ∷ [])) [])) ∷ [])
    ∷ []

pdu_before_rcomp_at_the_master_is_wrong : breaks (a_header Nea0 0 (replicate 32 0)) (before_pdu_before_rcomp_at_the_master ++
    an_entry (event.Submit 1 Dl (170 ∷ [])) answer.Ok (line.Send (link M T Air) (flight.Air 1 2 0 (Some 0) (128 ∷ 0 ∷ 170 ∷ [])) ∷ [])
    ∷ []) ≡ holder ∷ []
unfolding sn window modulus distance count_for data_pdu decoded read_data read_report keystream counter_block stream_blocks report_pdu
pdu_before_rcomp_at_the_master_is_wrong = refl

pdu_before_rcomp_at_the_master_is_right : breaks (a_header Nea0 0 (replicate 32 0)) (before_pdu_before_rcomp_at_the_master ++
    an_entry (event.Submit 1 Dl (170 ∷ [])) answer.Ok []
    ∷ []) ≡ []
unfolding sn window modulus distance count_for data_pdu decoded read_data read_report keystream counter_block stream_blocks report_pdu
pdu_before_rcomp_at_the_master_is_right = refl

-- what comes before
abbrev before_pdu_before_recfg_at_a_secondary : List Entry
before_pdu_before_recfg_at_a_secondary =
    an_entry (event.Add A) answer.Ok (line.Send (link M A Ctl) (flight.Ctl (rec.Addreq (a_plan 1 (Some A) []) [])) ∷ [])
    ∷ an_entry (event.Step (link M A Ctl) 0) answer.Ok (line.Note (note.Join A 1) ∷ line.Send (link A M Ctl) (flight.Ctl (rec.Addack 1)) ∷ [])
    ∷ an_entry (event.Step (link A M Ctl) 0) answer.Ok (line.Send (link M T Ctl) (flight.Ctl (rec.Reconf (a_plan 1 (Some A) []) [])) ∷ [])
    ∷ an_entry (event.Step (link M T Ctl) 0) answer.Ok (line.Send (link T M Ctl) (flight.Ctl (rec.Rcomp 1)) ∷ [])
    ∷ an_entry (event.Step (link T M Ctl) 0) answer.Ok (line.Send (link M A Ctl) (flight.Ctl (rec.Recfg 1)) ∷ line.Note note.Done ∷ [])
    ∷ an_entry (event.Step (link M A Ctl) 0) answer.Ok []
    ∷ an_entry (event.Bearer 1 S12 0 (a_shape true Scg false) 0 0) answer.Ok (line.Send (link M A Ctl) (flight.Ctl (rec.Modreq (a_plan 2 (Some A) (Set 1 S12 0 (a_shape true Scg false) 0 0 (a_key 0 (SecondKey 0)) None ∷ [])) [])) ∷ [])
    ∷ an_entry (event.Step (link M A Ctl) 0) answer.Ok (line.Note (note.Own A 1 2) ∷ line.Send (link A M Ctl) (flight.Ctl (rec.Modack 2)) ∷ [])
    ∷ an_entry (event.Step (link A M Ctl) 0) answer.Ok (line.Send (link M T Ctl) (flight.Ctl (rec.Reconf (a_plan 2 (Some A) (Set 1 S12 0 (a_shape true Scg false) 0 0 (a_key 0 (SecondKey 0)) None ∷ [])) [])) ∷ [])
    ∷ an_entry (event.Step (link M T Ctl) 0) answer.Ok (line.Note (note.Set 1 2) ∷ line.Send (link T M Ctl) (flight.Ctl (rec.Rcomp 2)) ∷ [])
    ∷ an_entry (event.Step (link T M Ctl) 0) answer.Ok (line.Send (link M A Ctl) (flight.Ctl (rec.Recfg 2)) ∷ line.Note note.Done ∷ [])
    ∷ an_entry (event.Submit 1 Dl (170 ∷ [])) answer.Ok (line.Send (link M A Feed) (flight.Sdu 1 2 (170 ∷ [])) ∷ [])
    ∷ []

pdu_before_recfg_at_a_secondary_is_wrong : breaks (a_header Nea0 0 (replicate 32 0)) (before_pdu_before_recfg_at_a_secondary ++
    an_entry (event.Step (link M A Feed) 0) answer.Ok (line.Send (link A T Air) (flight.Air 1 2 0 (Some 0) (128 ∷ 0 ∷ 170 ∷ [])) ∷ [])
    ∷ []) ≡ holder ∷ []
unfolding sn window modulus distance count_for data_pdu decoded read_data read_report keystream counter_block stream_blocks report_pdu
pdu_before_recfg_at_a_secondary_is_wrong = refl

pdu_before_recfg_at_a_secondary_is_right : breaks (a_header Nea0 0 (replicate 32 0)) (before_pdu_before_recfg_at_a_secondary ++
    an_entry (event.Step (link M A Feed) 0) answer.Ok []
    ∷ []) ≡ []
unfolding sn window modulus distance count_for data_pdu decoded read_data read_report keystream counter_block stream_blocks report_pdu
pdu_before_recfg_at_a_secondary_is_right = refl

pdu_of_no_submission_is_wrong : breaks (a_header Nea0 0 (replicate 32 0)) (before_not_due_rootused ++
    an_entry (event.Submit 1 Dl (104 ∷ 105 ∷ [])) answer.Ok (line.Send (link M T Air) (flight.Air 1 1 0 (Some 1) (128 ∷ 1 ∷ 104 ∷ 105 ∷ [])) ∷ [])
    ∷ []) ≡ protected ∷ come ∷ []
unfolding sn window modulus distance count_for data_pdu decoded read_data read_report keystream counter_block stream_blocks report_pdu
pdu_of_no_submission_is_wrong = refl

pdu_of_no_submission_is_right : breaks (a_header Nea0 0 (replicate 32 0)) (before_not_due_rootused ++
    an_entry (event.Submit 1 Dl (104 ∷ 105 ∷ [])) answer.Ok (line.Send (link M T Air) (flight.Air 1 1 0 (Some 0) (128 ∷ 0 ∷ 104 ∷ 105 ∷ [])) ∷ [])
    ∷ []) ≡ []
unfolding sn window modulus distance count_for data_pdu decoded read_data read_report keystream counter_block stream_blocks report_pdu
pdu_of_no_submission_is_right = refl

-- what comes before
abbrev before_pdu_of_the_anchor_sent_by_the_host : List Entry
before_pdu_of_the_anchor_sent_by_the_host =
    an_entry (event.Add A) answer.Ok (line.Send (link M A Ctl) (flight.Ctl (rec.Addreq (a_plan 1 (Some A) []) [])) ∷ [])
    ∷ an_entry (event.Step (link M A Ctl) 0) answer.Ok (line.Note (note.Join A 1) ∷ line.Send (link A M Ctl) (flight.Ctl (rec.Addack 1)) ∷ [])
    ∷ an_entry (event.Step (link A M Ctl) 0) answer.Ok (line.Send (link M T Ctl) (flight.Ctl (rec.Reconf (a_plan 1 (Some A) []) [])) ∷ [])
    ∷ an_entry (event.Step (link M T Ctl) 0) answer.Ok (line.Send (link T M Ctl) (flight.Ctl (rec.Rcomp 1)) ∷ [])
    ∷ an_entry (event.Step (link T M Ctl) 0) answer.Ok (line.Send (link M A Ctl) (flight.Ctl (rec.Recfg 1)) ∷ line.Note note.Done ∷ [])
    ∷ an_entry (event.Step (link M A Ctl) 0) answer.Ok []
    ∷ an_entry (event.Bearer 1 S12 0 (a_shape false Scg false) 0 0) answer.Ok (line.Send (link M A Ctl) (flight.Ctl (rec.Modreq (a_plan 2 (Some A) (Set 1 S12 0 (a_shape false Scg false) 0 0 (a_key 0 Master) None ∷ [])) [])) ∷ [])
    ∷ an_entry (event.Step (link M A Ctl) 0) answer.Ok (line.Send (link A M Ctl) (flight.Ctl (rec.Modack 2)) ∷ [])
    ∷ an_entry (event.Step (link A M Ctl) 0) answer.Ok (line.Note (note.Own M 1 2) ∷ line.Send (link M T Ctl) (flight.Ctl (rec.Reconf (a_plan 2 (Some A) (Set 1 S12 0 (a_shape false Scg false) 0 0 (a_key 0 Master) None ∷ [])) [])) ∷ [])
    ∷ an_entry (event.Step (link M T Ctl) 0) answer.Ok (line.Note (note.Set 1 2) ∷ line.Send (link T M Ctl) (flight.Ctl (rec.Rcomp 2)) ∷ [])
    ∷ an_entry (event.Step (link T M Ctl) 0) answer.Ok (line.Send (link M A Ctl) (flight.Ctl (rec.Recfg 2)) ∷ line.Note note.Done ∷ [])
    ∷ []

pdu_of_the_anchor_sent_by_the_host_is_wrong : breaks (a_header Nea0 0 (replicate 32 0)) (before_pdu_of_the_anchor_sent_by_the_host ++
    an_entry (event.Submit 1 Dl (170 ∷ [])) answer.Ok (line.Send (link A T Air) (flight.Air 1 2 0 (Some 0) (128 ∷ 0 ∷ 170 ∷ [])) ∷ [])
    ∷ []) ≡ protected ∷ holder ∷ licensed ∷ come ∷ []
unfolding sn window modulus distance count_for data_pdu decoded read_data read_report keystream counter_block stream_blocks report_pdu
pdu_of_the_anchor_sent_by_the_host_is_wrong = refl

pdu_of_the_anchor_sent_by_the_host_is_right : breaks (a_header Nea0 0 (replicate 32 0)) (before_pdu_of_the_anchor_sent_by_the_host ++
    an_entry (event.Submit 1 Dl (170 ∷ [])) answer.Ok (line.Send (link M A Tun) (flight.Tun (Some 0) (52 ∷ 255 ∷ 0 ∷ 15 ∷ 0 ∷ 0 ∷ 1 ∷ 0 ∷ 0 ∷ 0 ∷ 0 ∷ 132 ∷ 2 ∷ 1 ∷ 0 ∷ 0 ∷ 0 ∷ 0 ∷ 0 ∷ 0 ∷ 128 ∷ 0 ∷ 170 ∷ [])) ∷ [])
    ∷ []) ≡ []
unfolding sn window modulus distance count_for data_pdu decoded read_data read_report keystream counter_block stream_blocks report_pdu
pdu_of_the_anchor_sent_by_the_host_is_right = refl

pdu_of_the_generation_before_is_wrong : breaks (a_header Nea0 0 (replicate 32 0)) (before_pdu_before_rcomp_at_the_master ++
    an_entry (event.Submit 1 Dl (170 ∷ [])) answer.Ok (line.Send (link M T Air) (flight.Air 1 1 0 (Some 0) (128 ∷ 0 ∷ 170 ∷ [])) ∷ [])
    ∷ []) ≡ holder ∷ []
unfolding sn window modulus distance count_for data_pdu decoded read_data read_report keystream counter_block stream_blocks report_pdu
pdu_of_the_generation_before_is_wrong = refl

pdu_of_the_generation_before_is_right : breaks (a_header Nea0 0 (replicate 32 0)) (before_pdu_before_rcomp_at_the_master ++
    an_entry (event.Submit 1 Dl (170 ∷ [])) answer.Ok []
    ∷ []) ≡ []
unfolding sn window modulus distance count_for data_pdu decoded read_data read_report keystream counter_block stream_blocks report_pdu
pdu_of_the_generation_before_is_right = refl

pdu_with_a_reserved_bit_is_wrong : breaks (a_header Nea0 0 (replicate 32 0)) (before_not_due_rootused ++
    an_entry (event.Submit 1 Dl (104 ∷ 105 ∷ [])) answer.Ok (line.Send (link M T Air) (flight.Air 1 1 0 (Some 0) (144 ∷ 0 ∷ 104 ∷ 105 ∷ [])) ∷ [])
    ∷ []) ≡ protected ∷ []
unfolding sn window modulus distance count_for data_pdu decoded read_data read_report keystream counter_block stream_blocks report_pdu
pdu_with_a_reserved_bit_is_wrong = refl

pdu_with_a_reserved_bit_is_right : breaks (a_header Nea0 0 (replicate 32 0)) (before_not_due_rootused ++
    an_entry (event.Submit 1 Dl (104 ∷ 105 ∷ [])) answer.Ok (line.Send (link M T Air) (flight.Air 1 1 0 (Some 0) (128 ∷ 0 ∷ 104 ∷ 105 ∷ [])) ∷ [])
    ∷ []) ≡ []
unfolding sn window modulus distance count_for data_pdu decoded read_data read_report keystream counter_block stream_blocks report_pdu
pdu_with_a_reserved_bit_is_right = refl

pdu_with_another_sn_is_wrong : breaks (a_header Nea0 0 (replicate 32 0)) (before_not_due_rootused ++
    an_entry (event.Submit 1 Dl (104 ∷ 105 ∷ [])) answer.Ok (line.Send (link M T Air) (flight.Air 1 1 0 (Some 0) (128 ∷ 1 ∷ 104 ∷ 105 ∷ [])) ∷ [])
    ∷ []) ≡ protected ∷ []
unfolding sn window modulus distance count_for data_pdu decoded read_data read_report keystream counter_block stream_blocks report_pdu
pdu_with_another_sn_is_wrong = refl

pdu_with_another_sn_is_right : breaks (a_header Nea0 0 (replicate 32 0)) (before_not_due_rootused ++
    an_entry (event.Submit 1 Dl (104 ∷ 105 ∷ [])) answer.Ok (line.Send (link M T Air) (flight.Air 1 1 0 (Some 0) (128 ∷ 0 ∷ 104 ∷ 105 ∷ [])) ∷ [])
    ∷ []) ≡ []
unfolding sn window modulus distance count_for data_pdu decoded read_data read_report keystream counter_block stream_blocks report_pdu
pdu_with_another_sn_is_right = refl

-- what comes before
abbrev before_plan_with_a_bearer_left_out : List Entry
before_plan_with_a_bearer_left_out =
    an_entry (event.Add A) answer.Ok (line.Send (link M A Ctl) (flight.Ctl (rec.Addreq (a_plan 1 (Some A) []) [])) ∷ [])
    ∷ an_entry (event.Step (link M A Ctl) 0) answer.Ok (line.Note (note.Join A 1) ∷ line.Send (link A M Ctl) (flight.Ctl (rec.Addack 1)) ∷ [])
    ∷ an_entry (event.Step (link A M Ctl) 0) answer.Ok (line.Send (link M T Ctl) (flight.Ctl (rec.Reconf (a_plan 1 (Some A) []) [])) ∷ [])
    ∷ an_entry (event.Step (link M T Ctl) 0) answer.Ok (line.Send (link T M Ctl) (flight.Ctl (rec.Rcomp 1)) ∷ [])
    ∷ an_entry (event.Step (link T M Ctl) 0) answer.Ok (line.Send (link M A Ctl) (flight.Ctl (rec.Recfg 1)) ∷ line.Note note.Done ∷ [])
    ∷ an_entry (event.Step (link M A Ctl) 0) answer.Ok []
    ∷ an_entry (event.Bearer 1 S12 0 (a_shape false Scg false) 0 0) answer.Ok (line.Send (link M A Ctl) (flight.Ctl (rec.Modreq (a_plan 2 (Some A) (Set 1 S12 0 (a_shape false Scg false) 0 0 (a_key 0 Master) None ∷ [])) [])) ∷ [])
    ∷ an_entry (event.Step (link M A Ctl) 0) answer.Ok (line.Send (link A M Ctl) (flight.Ctl (rec.Modack 2)) ∷ [])
    ∷ an_entry (event.Step (link A M Ctl) 0) answer.Ok (line.Note (note.Own M 1 2) ∷ line.Send (link M T Ctl) (flight.Ctl (rec.Reconf (a_plan 2 (Some A) (Set 1 S12 0 (a_shape false Scg false) 0 0 (a_key 0 Master) None ∷ [])) [])) ∷ [])
    ∷ an_entry (event.Step (link M T Ctl) 0) answer.Ok (line.Note (note.Set 1 2) ∷ line.Send (link T M Ctl) (flight.Ctl (rec.Rcomp 2)) ∷ [])
    ∷ an_entry (event.Step (link T M Ctl) 0) answer.Ok (line.Send (link M A Ctl) (flight.Ctl (rec.Recfg 2)) ∷ line.Note note.Done ∷ [])
    ∷ an_entry (event.Step (link M A Ctl) 0) answer.Ok []
    ∷ []

plan_with_a_bearer_left_out_is_wrong : breaks (a_header Nea0 0 (replicate 32 0)) (before_plan_with_a_bearer_left_out ++
    an_entry (event.Release) answer.Ok (line.Send (link M A Ctl) (flight.Ctl (rec.Relreq (a_plan 3 None []))) ∷ [])
    ∷ []) ≡ planned ∷ []
unfolding sn window modulus distance count_for data_pdu decoded read_data read_report keystream counter_block stream_blocks report_pdu
plan_with_a_bearer_left_out_is_wrong = refl

plan_with_a_bearer_left_out_is_right : breaks (a_header Nea0 0 (replicate 32 0)) (before_plan_with_a_bearer_left_out ++
    an_entry (event.Release) answer.Ok (line.Send (link M A Ctl) (flight.Ctl (rec.Relreq (a_plan 3 None (Set 1 S12 0 (a_shape false Mcg false) 0 0 (a_key 0 Master) (Some M) ∷ [])))) ∷ [])
    ∷ []) ≡ []
unfolding sn window modulus distance count_for data_pdu decoded read_data read_report keystream counter_block stream_blocks report_pdu
plan_with_a_bearer_left_out_is_right = refl

plan_with_a_bearer_too_many_is_wrong : breaks (a_header Nea0 0 (replicate 32 0)) (before_not_due_sameshape ++
    an_entry (event.Change) answer.Ok (line.Send (link M B Ctl) (flight.Ctl (rec.Addreq (a_plan 3 (Some B) (Set 1 S12 0 (a_shape false Mcg false) 0 0 (a_key 0 Master) (Some M) ∷ [])) [])) ∷ [])
    ∷ []) ≡ planned ∷ []
unfolding sn window modulus distance count_for data_pdu decoded read_data read_report keystream counter_block stream_blocks report_pdu
plan_with_a_bearer_too_many_is_wrong = refl

plan_with_a_bearer_too_many_is_right : breaks (a_header Nea0 0 (replicate 32 0)) (before_not_due_sameshape ++
    an_entry (event.Change) answer.Ok (line.Send (link M B Ctl) (flight.Ctl (rec.Addreq (a_plan 3 (Some B) []) [])) ∷ [])
    ∷ []) ≡ []
unfolding sn window modulus distance count_for data_pdu decoded read_data read_report keystream counter_block stream_blocks report_pdu
plan_with_a_bearer_too_many_is_right = refl

-- what comes before
abbrev before_plan_with_another_shape : List Entry
before_plan_with_another_shape =
    an_entry (event.Add A) answer.Ok (line.Send (link M A Ctl) (flight.Ctl (rec.Addreq (a_plan 1 (Some A) []) [])) ∷ [])
    ∷ an_entry (event.Step (link M A Ctl) 0) answer.Ok (line.Note (note.Join A 1) ∷ line.Send (link A M Ctl) (flight.Ctl (rec.Addack 1)) ∷ [])
    ∷ an_entry (event.Step (link A M Ctl) 0) answer.Ok (line.Send (link M T Ctl) (flight.Ctl (rec.Reconf (a_plan 1 (Some A) []) [])) ∷ [])
    ∷ an_entry (event.Step (link M T Ctl) 0) answer.Ok (line.Send (link T M Ctl) (flight.Ctl (rec.Rcomp 1)) ∷ [])
    ∷ an_entry (event.Step (link T M Ctl) 0) answer.Ok (line.Send (link M A Ctl) (flight.Ctl (rec.Recfg 1)) ∷ line.Note note.Done ∷ [])
    ∷ an_entry (event.Step (link M A Ctl) 0) answer.Ok []
    ∷ an_entry (event.Bearer 1 S12 0 (a_shape true Scg false) 0 0) answer.Ok (line.Send (link M A Ctl) (flight.Ctl (rec.Modreq (a_plan 2 (Some A) (Set 1 S12 0 (a_shape true Scg false) 0 0 (a_key 0 (SecondKey 0)) None ∷ [])) [])) ∷ [])
    ∷ an_entry (event.Step (link M A Ctl) 0) answer.Ok (line.Note (note.Own A 1 2) ∷ line.Send (link A M Ctl) (flight.Ctl (rec.Modack 2)) ∷ [])
    ∷ []

plan_with_another_shape_is_wrong : breaks (a_header Nea0 0 (replicate 32 0)) (before_plan_with_another_shape ++
    an_entry (event.Step (link A M Ctl) 0) answer.Ok (line.Send (link M T Ctl) (flight.Ctl (rec.Reconf (a_plan 2 (Some A) (Set 1 S12 0 (a_shape true Mcg false) 0 0 (a_key 0 (SecondKey 0)) None ∷ [])) [])) ∷ [])
    ∷ []) ≡ planned ∷ []
unfolding sn window modulus distance count_for data_pdu decoded read_data read_report keystream counter_block stream_blocks report_pdu
plan_with_another_shape_is_wrong = refl

plan_with_another_shape_is_right : breaks (a_header Nea0 0 (replicate 32 0)) (before_plan_with_another_shape ++
    an_entry (event.Step (link A M Ctl) 0) answer.Ok (line.Send (link M T Ctl) (flight.Ctl (rec.Reconf (a_plan 2 (Some A) (Set 1 S12 0 (a_shape true Scg false) 0 0 (a_key 0 (SecondKey 0)) None ∷ [])) [])) ∷ [])
    ∷ []) ≡ []
unfolding sn window modulus distance count_for data_pdu decoded read_data read_report keystream counter_block stream_blocks report_pdu
plan_with_another_shape_is_right = refl

plan_with_another_threshold_is_wrong : breaks (a_header Nea0 0 (replicate 32 0)) (
    an_entry (event.Bearer 1 S12 0 (a_shape false Mcg false) 0 0) answer.Ok (line.Note (note.Own M 1 1) ∷ line.Send (link M T Ctl) (flight.Ctl (rec.Reconf (a_plan 1 None (Set 1 S12 0 (a_shape false Mcg false) 7 0 (a_key 0 Master) None ∷ [])) [])) ∷ [])
    ∷ []) ≡ planned ∷ []
unfolding sn window modulus distance count_for data_pdu decoded read_data read_report keystream counter_block stream_blocks report_pdu
plan_with_another_threshold_is_wrong = refl

plan_with_another_threshold_is_right : breaks (a_header Nea0 0 (replicate 32 0)) (
    an_entry (event.Bearer 1 S12 0 (a_shape false Mcg false) 0 0) answer.Ok (line.Note (note.Own M 1 1) ∷ line.Send (link M T Ctl) (flight.Ctl (rec.Reconf (a_plan 1 None (Set 1 S12 0 (a_shape false Mcg false) 0 0 (a_key 0 Master) None ∷ [])) [])) ∷ [])
    ∷ []) ≡ []
unfolding sn window modulus distance count_for data_pdu decoded read_data read_report keystream counter_block stream_blocks report_pdu
plan_with_another_threshold_is_right = refl

-- what comes before
abbrev before_plan_with_the_wrong_old_anchor : List Entry
before_plan_with_the_wrong_old_anchor =
    an_entry (event.Bearer 1 S12 0 (a_shape false Mcg false) 0 0) answer.Ok (line.Note (note.Own M 1 1) ∷ line.Send (link M T Ctl) (flight.Ctl (rec.Reconf (a_plan 1 None (Set 1 S12 0 (a_shape false Mcg false) 0 0 (a_key 0 Master) None ∷ [])) [])) ∷ [])
    ∷ an_entry (event.Step (link M T Ctl) 0) answer.Ok (line.Note (note.Set 1 1) ∷ line.Send (link T M Ctl) (flight.Ctl (rec.Rcomp 1)) ∷ [])
    ∷ an_entry (event.Step (link T M Ctl) 0) answer.Ok (line.Note note.Done ∷ [])
    ∷ an_entry (event.Add A) answer.Ok (line.Send (link M A Ctl) (flight.Ctl (rec.Addreq (a_plan 2 (Some A) []) [])) ∷ [])
    ∷ an_entry (event.Step (link M A Ctl) 0) answer.Ok (line.Note (note.Join A 2) ∷ line.Send (link A M Ctl) (flight.Ctl (rec.Addack 2)) ∷ [])
    ∷ an_entry (event.Step (link A M Ctl) 0) answer.Ok (line.Send (link M T Ctl) (flight.Ctl (rec.Reconf (a_plan 2 (Some A) []) [])) ∷ [])
    ∷ an_entry (event.Step (link M T Ctl) 0) answer.Ok (line.Send (link T M Ctl) (flight.Ctl (rec.Rcomp 2)) ∷ [])
    ∷ an_entry (event.Step (link T M Ctl) 0) answer.Ok (line.Send (link M A Ctl) (flight.Ctl (rec.Recfg 2)) ∷ line.Note note.Done ∷ [])
    ∷ []

plan_with_the_wrong_old_anchor_is_wrong : breaks (a_header Nea0 0 (replicate 32 0)) (before_plan_with_the_wrong_old_anchor ++
    an_entry (event.Reshape 1 (a_shape true Scg false)) answer.Ok (line.Send (link M A Ctl) (flight.Ctl (rec.Modreq (a_plan 3 (Some A) (Set 1 S12 0 (a_shape true Scg false) 0 0 (a_key 0 (SecondKey 0)) None ∷ [])) [])) ∷ [])
    ∷ []) ≡ planned ∷ []
unfolding sn window modulus distance count_for data_pdu decoded read_data read_report keystream counter_block stream_blocks report_pdu
plan_with_the_wrong_old_anchor_is_wrong = refl

plan_with_the_wrong_old_anchor_is_right : breaks (a_header Nea0 0 (replicate 32 0)) (before_plan_with_the_wrong_old_anchor ++
    an_entry (event.Reshape 1 (a_shape true Scg false)) answer.Ok (line.Send (link M A Ctl) (flight.Ctl (rec.Modreq (a_plan 3 (Some A) (Set 1 S12 0 (a_shape true Scg false) 0 0 (a_key 0 (SecondKey 0)) (Some M) ∷ [])) [])) ∷ [])
    ∷ []) ≡ []
unfolding sn window modulus distance count_for data_pdu decoded read_data read_report keystream counter_block stream_blocks report_pdu
plan_with_the_wrong_old_anchor_is_right = refl

-- what comes before
abbrev before_plan_with_the_wrong_secondary : List Entry
before_plan_with_the_wrong_secondary =
    an_entry (event.Add A) answer.Ok (line.Send (link M A Ctl) (flight.Ctl (rec.Addreq (a_plan 1 (Some A) []) [])) ∷ [])
    ∷ an_entry (event.Step (link M A Ctl) 0) answer.Ok (line.Note (note.Join A 1) ∷ line.Send (link A M Ctl) (flight.Ctl (rec.Addack 1)) ∷ [])
    ∷ []

plan_with_the_wrong_secondary_is_wrong : breaks (a_header Nea0 0 (replicate 32 0)) (before_plan_with_the_wrong_secondary ++
    an_entry (event.Step (link A M Ctl) 0) answer.Ok (line.Send (link M T Ctl) (flight.Ctl (rec.Reconf (a_plan 1 (Some B) []) [])) ∷ [])
    ∷ []) ≡ planned ∷ []
unfolding sn window modulus distance count_for data_pdu decoded read_data read_report keystream counter_block stream_blocks report_pdu
plan_with_the_wrong_secondary_is_wrong = refl

plan_with_the_wrong_secondary_is_right : breaks (a_header Nea0 0 (replicate 32 0)) (before_plan_with_the_wrong_secondary ++
    an_entry (event.Step (link A M Ctl) 0) answer.Ok (line.Send (link M T Ctl) (flight.Ctl (rec.Reconf (a_plan 1 (Some A) []) [])) ∷ [])
    ∷ []) ≡ []
unfolding sn window modulus distance count_for data_pdu decoded read_data read_report keystream counter_block stream_blocks report_pdu
plan_with_the_wrong_secondary_is_right = refl

-- what comes before
abbrev before_rcomp_twice : List Entry
before_rcomp_twice =
    an_entry (event.Bearer 1 S12 0 (a_shape false Mcg false) 0 0) answer.Ok (line.Note (note.Own M 1 1) ∷ line.Send (link M T Ctl) (flight.Ctl (rec.Reconf (a_plan 1 None (Set 1 S12 0 (a_shape false Mcg false) 0 0 (a_key 0 Master) None ∷ [])) [])) ∷ [])
    ∷ []

rcomp_twice_is_wrong : breaks (a_header Nea0 0 (replicate 32 0)) (before_rcomp_twice ++
    an_entry (event.Step (link M T Ctl) 0) answer.Ok (line.Note (note.Set 1 1) ∷ line.Send (link T M Ctl) (flight.Ctl (rec.Rcomp 1)) ∷ line.Send (link T M Ctl) (flight.Ctl (rec.Rcomp 1)) ∷ [])
    ∷ []) ≡ licensed ∷ []
unfolding sn window modulus distance count_for data_pdu decoded read_data read_report keystream counter_block stream_blocks report_pdu
rcomp_twice_is_wrong = refl

rcomp_twice_is_right : breaks (a_header Nea0 0 (replicate 32 0)) (before_rcomp_twice ++
    an_entry (event.Step (link M T Ctl) 0) answer.Ok (line.Note (note.Set 1 1) ∷ line.Send (link T M Ctl) (flight.Ctl (rec.Rcomp 1)) ∷ [])
    ∷ []) ≡ []
unfolding sn window modulus distance count_for data_pdu decoded read_data read_report keystream counter_block stream_blocks report_pdu
rcomp_twice_is_right = refl

-- what comes before
abbrev before_recfg_where_modcnf_is_due : List Entry
before_recfg_where_modcnf_is_due =
    an_entry (event.Add A) answer.Ok (line.Send (link M A Ctl) (flight.Ctl (rec.Addreq (a_plan 1 (Some A) []) [])) ∷ [])
    ∷ an_entry (event.Step (link M A Ctl) 0) answer.Ok (line.Note (note.Join A 1) ∷ line.Send (link A M Ctl) (flight.Ctl (rec.Addack 1)) ∷ [])
    ∷ an_entry (event.Step (link A M Ctl) 0) answer.Ok (line.Send (link M T Ctl) (flight.Ctl (rec.Reconf (a_plan 1 (Some A) []) [])) ∷ [])
    ∷ an_entry (event.Step (link M T Ctl) 0) answer.Ok (line.Send (link T M Ctl) (flight.Ctl (rec.Rcomp 1)) ∷ [])
    ∷ an_entry (event.Step (link T M Ctl) 0) answer.Ok (line.Send (link M A Ctl) (flight.Ctl (rec.Recfg 1)) ∷ line.Note note.Done ∷ [])
    ∷ an_entry (event.Step (link M A Ctl) 0) answer.Ok []
    ∷ an_entry (event.Ask A want.Rekey) answer.Ok (line.Send (link A M Ctl) (flight.Ctl (rec.Modrqd)) ∷ [])
    ∷ an_entry (event.Step (link A M Ctl) 0) answer.Ok (line.Note (note.Begin want.Rekey) ∷ line.Send (link M A Ctl) (flight.Ctl (rec.Modreq (a_plan 2 (Some A) []) [])) ∷ [])
    ∷ an_entry (event.Step (link M A Ctl) 0) answer.Ok (line.Send (link A M Ctl) (flight.Ctl (rec.Modack 2)) ∷ [])
    ∷ an_entry (event.Step (link A M Ctl) 0) answer.Ok (line.Send (link M T Ctl) (flight.Ctl (rec.Reconf (a_plan 2 (Some A) []) [])) ∷ [])
    ∷ an_entry (event.Step (link M T Ctl) 0) answer.Ok (line.Send (link T M Ctl) (flight.Ctl (rec.Rcomp 2)) ∷ [])
    ∷ []

recfg_where_modcnf_is_due_is_wrong : breaks (a_header Nea0 0 (replicate 32 0)) (before_recfg_where_modcnf_is_due ++
    an_entry (event.Step (link T M Ctl) 0) answer.Ok (line.Send (link M A Ctl) (flight.Ctl (rec.Recfg 2)) ∷ line.Note note.Done ∷ [])
    ∷ []) ≡ licensed ∷ []
unfolding sn window modulus distance count_for data_pdu decoded read_data read_report keystream counter_block stream_blocks report_pdu
recfg_where_modcnf_is_due_is_wrong = refl

recfg_where_modcnf_is_due_is_right : breaks (a_header Nea0 0 (replicate 32 0)) (before_recfg_where_modcnf_is_due ++
    an_entry (event.Step (link T M Ctl) 0) answer.Ok (line.Send (link M A Ctl) (flight.Ctl (rec.Modcnf 2)) ∷ line.Note note.Done ∷ [])
    ∷ []) ≡ []
unfolding sn window modulus distance count_for data_pdu decoded read_data read_report keystream counter_block stream_blocks report_pdu
recfg_where_modcnf_is_due_is_right = refl

-- what comes before
abbrev before_recfg_without_a_request : List Entry
before_recfg_without_a_request =
    an_entry (event.Bearer 1 S12 0 (a_shape false Mcg false) 0 0) answer.Ok (line.Note (note.Own M 1 1) ∷ line.Send (link M T Ctl) (flight.Ctl (rec.Reconf (a_plan 1 None (Set 1 S12 0 (a_shape false Mcg false) 0 0 (a_key 0 Master) None ∷ [])) [])) ∷ [])
    ∷ an_entry (event.Step (link M T Ctl) 0) answer.Ok (line.Note (note.Set 1 1) ∷ line.Send (link T M Ctl) (flight.Ctl (rec.Rcomp 1)) ∷ [])
    ∷ []

recfg_without_a_request_is_wrong : breaks (a_header Nea0 0 (replicate 32 0)) (before_recfg_without_a_request ++
    an_entry (event.Step (link T M Ctl) 0) answer.Ok (line.Send (link M A Ctl) (flight.Ctl (rec.Recfg 1)) ∷ line.Note note.Done ∷ [])
    ∷ []) ≡ licensed ∷ []
unfolding sn window modulus distance count_for data_pdu decoded read_data read_report keystream counter_block stream_blocks report_pdu
recfg_without_a_request_is_wrong = refl

recfg_without_a_request_is_right : breaks (a_header Nea0 0 (replicate 32 0)) (before_recfg_without_a_request ++
    an_entry (event.Step (link T M Ctl) 0) answer.Ok (line.Note note.Done ∷ [])
    ∷ []) ≡ []
unfolding sn window modulus distance count_for data_pdu decoded read_data read_report keystream counter_block stream_blocks report_pdu
recfg_without_a_request_is_right = refl

-- what comes before
abbrev before_reconf_before_the_acknowledge : List Entry
before_reconf_before_the_acknowledge =
    an_entry (event.Add A) answer.Ok (line.Send (link M A Ctl) (flight.Ctl (rec.Addreq (a_plan 1 (Some A) []) [])) ∷ [])
    ∷ an_entry (event.Step (link M A Ctl) 0) answer.Ok (line.Note (note.Join A 1) ∷ line.Send (link A M Ctl) (flight.Ctl (rec.Addack 1)) ∷ [])
    ∷ an_entry (event.Step (link A M Ctl) 0) answer.Ok (line.Send (link M T Ctl) (flight.Ctl (rec.Reconf (a_plan 1 (Some A) []) [])) ∷ [])
    ∷ an_entry (event.Step (link M T Ctl) 0) answer.Ok (line.Send (link T M Ctl) (flight.Ctl (rec.Rcomp 1)) ∷ [])
    ∷ an_entry (event.Step (link T M Ctl) 0) answer.Ok (line.Send (link M A Ctl) (flight.Ctl (rec.Recfg 1)) ∷ line.Note note.Done ∷ [])
    ∷ an_entry (event.Step (link M A Ctl) 0) answer.Ok []
    ∷ []

reconf_before_the_acknowledge_is_wrong : breaks (a_header Nea0 0 (replicate 32 0)) (before_reconf_before_the_acknowledge ++
    an_entry (event.Bearer 1 S12 0 (a_shape false Scg false) 0 0) answer.Ok (line.Send (link M T Ctl) (flight.Ctl (rec.Reconf (a_plan 2 (Some A) (Set 1 S12 0 (a_shape false Scg false) 0 0 (a_key 0 Master) None ∷ [])) [])) ∷ line.Send (link M A Ctl) (flight.Ctl (rec.Modreq (a_plan 2 (Some A) (Set 1 S12 0 (a_shape false Scg false) 0 0 (a_key 0 Master) None ∷ [])) [])) ∷ [])
    ∷ []) ≡ licensed ∷ come ∷ []
unfolding sn window modulus distance count_for data_pdu decoded read_data read_report keystream counter_block stream_blocks report_pdu
reconf_before_the_acknowledge_is_wrong = refl

reconf_before_the_acknowledge_is_right : breaks (a_header Nea0 0 (replicate 32 0)) (before_reconf_before_the_acknowledge ++
    an_entry (event.Bearer 1 S12 0 (a_shape false Scg false) 0 0) answer.Ok (line.Send (link M A Ctl) (flight.Ctl (rec.Modreq (a_plan 2 (Some A) (Set 1 S12 0 (a_shape false Scg false) 0 0 (a_key 0 Master) None ∷ [])) [])) ∷ [])
    ∷ []) ≡ []
unfolding sn window modulus distance count_for data_pdu decoded read_data read_report keystream counter_block stream_blocks report_pdu
reconf_before_the_acknowledge_is_right = refl

reconf_twice_is_wrong : breaks (a_header Nea0 0 (replicate 32 0)) (
    an_entry (event.Bearer 1 S12 0 (a_shape false Mcg false) 0 0) answer.Ok (line.Note (note.Own M 1 1) ∷ line.Send (link M T Ctl) (flight.Ctl (rec.Reconf (a_plan 1 None (Set 1 S12 0 (a_shape false Mcg false) 0 0 (a_key 0 Master) None ∷ [])) [])) ∷ line.Send (link M T Ctl) (flight.Ctl (rec.Reconf (a_plan 1 None (Set 1 S12 0 (a_shape false Mcg false) 0 0 (a_key 0 Master) None ∷ [])) [])) ∷ [])
    ∷ []) ≡ licensed ∷ []
unfolding sn window modulus distance count_for data_pdu decoded read_data read_report keystream counter_block stream_blocks report_pdu
reconf_twice_is_wrong = refl

reconf_twice_is_right : breaks (a_header Nea0 0 (replicate 32 0)) (
    an_entry (event.Bearer 1 S12 0 (a_shape false Mcg false) 0 0) answer.Ok (line.Note (note.Own M 1 1) ∷ line.Send (link M T Ctl) (flight.Ctl (rec.Reconf (a_plan 1 None (Set 1 S12 0 (a_shape false Mcg false) 0 0 (a_key 0 Master) None ∷ [])) [])) ∷ [])
    ∷ []) ≡ []
unfolding sn window modulus distance count_for data_pdu decoded read_data read_report keystream counter_block stream_blocks report_pdu
reconf_twice_is_right = refl

recov_twice_for_one_recover_is_wrong : breaks (a_header Nea0 0 (replicate 32 0)) (before_not_due_rootused ++
    an_entry (event.Recover 1) answer.Ok (line.Send (link M T Ctl) (flight.Ctl (rec.Recov 1)) ∷ line.Send (link M T Ctl) (flight.Ctl (rec.Recov 1)) ∷ [])
    ∷ []) ≡ licensed ∷ []
unfolding sn window modulus distance count_for data_pdu decoded read_data read_report keystream counter_block stream_blocks report_pdu
recov_twice_for_one_recover_is_wrong = refl

recov_twice_for_one_recover_is_right : breaks (a_header Nea0 0 (replicate 32 0)) (before_not_due_rootused ++
    an_entry (event.Recover 1) answer.Ok (line.Send (link M T Ctl) (flight.Ctl (rec.Recov 1)) ∷ [])
    ∷ []) ≡ []
unfolding sn window modulus distance count_for data_pdu decoded read_data read_report keystream counter_block stream_blocks report_pdu
recov_twice_for_one_recover_is_right = refl

-- what comes before
abbrev before_recovd_twice : List Entry
before_recovd_twice =
    an_entry (event.Bearer 1 S12 0 (a_shape false Mcg false) 0 0) answer.Ok (line.Note (note.Own M 1 1) ∷ line.Send (link M T Ctl) (flight.Ctl (rec.Reconf (a_plan 1 None (Set 1 S12 0 (a_shape false Mcg false) 0 0 (a_key 0 Master) None ∷ [])) [])) ∷ [])
    ∷ an_entry (event.Step (link M T Ctl) 0) answer.Ok (line.Note (note.Set 1 1) ∷ line.Send (link T M Ctl) (flight.Ctl (rec.Rcomp 1)) ∷ [])
    ∷ an_entry (event.Step (link T M Ctl) 0) answer.Ok (line.Note note.Done ∷ [])
    ∷ an_entry (event.Recover 1) answer.Ok (line.Send (link M T Ctl) (flight.Ctl (rec.Recov 1)) ∷ [])
    ∷ []

recovd_twice_is_wrong : breaks (a_header Nea0 0 (replicate 32 0)) (before_recovd_twice ++
    an_entry (event.Step (link M T Ctl) 0) answer.Ok (line.Send (link T M Ctl) (flight.Ctl (rec.Recovd 1)) ∷ line.Send (link T M Ctl) (flight.Ctl (rec.Recovd 1)) ∷ [])
    ∷ []) ≡ licensed ∷ []
unfolding sn window modulus distance count_for data_pdu decoded read_data read_report keystream counter_block stream_blocks report_pdu
recovd_twice_is_wrong = refl

recovd_twice_is_right : breaks (a_header Nea0 0 (replicate 32 0)) (before_recovd_twice ++
    an_entry (event.Step (link M T Ctl) 0) answer.Ok (line.Send (link T M Ctl) (flight.Ctl (rec.Recovd 1)) ∷ [])
    ∷ []) ≡ []
unfolding sn window modulus distance count_for data_pdu decoded read_data read_report keystream counter_block stream_blocks report_pdu
recovd_twice_is_right = refl

-- what comes before
abbrev before_recover_that_ends_at_once : List Entry
before_recover_that_ends_at_once =
    an_entry (event.Bearer 1 S12 0 (a_shape false Mcg false) 0 0) answer.Ok (line.Note (note.Own M 1 1) ∷ line.Send (link M T Ctl) (flight.Ctl (rec.Reconf (a_plan 1 None (Set 1 S12 0 (a_shape false Mcg false) 0 0 (a_key 0 Master) None ∷ [])) [])) ∷ [])
    ∷ an_entry (event.Step (link M T Ctl) 0) answer.Ok (line.Note (note.Set 1 1) ∷ line.Send (link T M Ctl) (flight.Ctl (rec.Rcomp 1)) ∷ [])
    ∷ an_entry (event.Step (link T M Ctl) 0) answer.Ok (line.Note note.Done ∷ [])
    ∷ an_entry (event.Submit 1 Dl (104 ∷ 105 ∷ [])) answer.Ok (line.Send (link M T Air) (flight.Air 1 1 0 (Some 0) (128 ∷ 0 ∷ 104 ∷ 105 ∷ [])) ∷ [])
    ∷ an_entry (event.Step (link M T Air) 0) answer.Ok (line.Note (note.Up T 1 Dl 0 (104 ∷ 105 ∷ [])) ∷ line.Send (link T M Air) (flight.Ack 1 1 0) ∷ [])
    ∷ an_entry (event.Step (link T M Air) 0) answer.Ok (line.Note (note.Freed 1 Dl 1) ∷ [])
    ∷ []

recover_that_ends_at_once_is_wrong : breaks (a_header Nea0 0 (replicate 32 0)) (before_recover_that_ends_at_once ++
    an_entry (event.Recover 1) answer.Ok (line.Send (link M T Ctl) (flight.Ctl (rec.Recov 1)) ∷ line.Note note.Done ∷ [])
    ∷ []) ≡ placed ∷ []
unfolding sn window modulus distance count_for data_pdu decoded read_data read_report keystream counter_block stream_blocks report_pdu
recover_that_ends_at_once_is_wrong = refl

recover_that_ends_at_once_is_right : breaks (a_header Nea0 0 (replicate 32 0)) (before_recover_that_ends_at_once ++
    an_entry (event.Recover 1) answer.Ok (line.Send (link M T Ctl) (flight.Ctl (rec.Recov 1)) ∷ [])
    ∷ []) ≡ []
unfolding sn window modulus distance count_for data_pdu decoded read_data read_report keystream counter_block stream_blocks report_pdu
recover_that_ends_at_once_is_right = refl

-- what comes before
abbrev before_recover_that_never_ends : List Entry
before_recover_that_never_ends =
    an_entry (event.Bearer 1 S12 0 (a_shape false Mcg false) 0 0) answer.Ok (line.Note (note.Own M 1 1) ∷ line.Send (link M T Ctl) (flight.Ctl (rec.Reconf (a_plan 1 None (Set 1 S12 0 (a_shape false Mcg false) 0 0 (a_key 0 Master) None ∷ [])) [])) ∷ [])
    ∷ an_entry (event.Step (link M T Ctl) 0) answer.Ok (line.Note (note.Set 1 1) ∷ line.Send (link T M Ctl) (flight.Ctl (rec.Rcomp 1)) ∷ [])
    ∷ an_entry (event.Step (link T M Ctl) 0) answer.Ok (line.Note note.Done ∷ [])
    ∷ an_entry (event.Recover 1) answer.Ok (line.Send (link M T Ctl) (flight.Ctl (rec.Recov 1)) ∷ [])
    ∷ an_entry (event.Step (link M T Ctl) 0) answer.Ok (line.Send (link T M Ctl) (flight.Ctl (rec.Recovd 1)) ∷ [])
    ∷ []

recover_that_never_ends_is_wrong : breaks (a_header Nea0 0 (replicate 32 0)) (before_recover_that_never_ends ++
    an_entry (event.Step (link T M Ctl) 0) answer.Ok []
    ∷ []) ≡ come ∷ unstalled ∷ []
unfolding sn window modulus distance count_for data_pdu decoded read_data read_report keystream counter_block stream_blocks report_pdu
recover_that_never_ends_is_wrong = refl

recover_that_never_ends_is_right : breaks (a_header Nea0 0 (replicate 32 0)) (before_recover_that_never_ends ++
    an_entry (event.Step (link T M Ctl) 0) answer.Ok (line.Note note.Done ∷ [])
    ∷ []) ≡ []
unfolding sn window modulus distance count_for data_pdu decoded read_data read_report keystream counter_block stream_blocks report_pdu
recover_that_never_ends_is_right = refl

-- what comes before
abbrev before_recover_that_sends_nothing_again : List Entry
before_recover_that_sends_nothing_again =
    an_entry (event.Bearer 1 S12 0 (a_shape false Mcg false) 0 0) answer.Ok (line.Note (note.Own M 1 1) ∷ line.Send (link M T Ctl) (flight.Ctl (rec.Reconf (a_plan 1 None (Set 1 S12 0 (a_shape false Mcg false) 0 0 (a_key 0 Master) None ∷ [])) [])) ∷ [])
    ∷ an_entry (event.Step (link M T Ctl) 0) answer.Ok (line.Note (note.Set 1 1) ∷ line.Send (link T M Ctl) (flight.Ctl (rec.Rcomp 1)) ∷ [])
    ∷ an_entry (event.Step (link T M Ctl) 0) answer.Ok (line.Note note.Done ∷ [])
    ∷ an_entry (event.Submit 1 Dl (104 ∷ 105 ∷ [])) answer.Ok (line.Send (link M T Air) (flight.Air 1 1 0 (Some 0) (128 ∷ 0 ∷ 104 ∷ 105 ∷ [])) ∷ [])
    ∷ an_entry (event.Step (link M T Air) 0) answer.Ok (line.Note (note.Up T 1 Dl 0 (104 ∷ 105 ∷ [])) ∷ line.Send (link T M Air) (flight.Ack 1 1 0) ∷ [])
    ∷ []

recover_that_sends_nothing_again_is_wrong : breaks (a_header Nea0 0 (replicate 32 0)) (before_recover_that_sends_nothing_again ++
    an_entry (event.Recover 1) answer.Ok (line.Send (link M T Ctl) (flight.Ctl (rec.Recov 1)) ∷ [])
    ∷ []) ≡ come ∷ []
unfolding sn window modulus distance count_for data_pdu decoded read_data read_report keystream counter_block stream_blocks report_pdu
recover_that_sends_nothing_again_is_wrong = refl

recover_that_sends_nothing_again_is_right : breaks (a_header Nea0 0 (replicate 32 0)) (before_recover_that_sends_nothing_again ++
    an_entry (event.Recover 1) answer.Ok (line.Send (link M T Ctl) (flight.Ctl (rec.Recov 1)) ∷ line.Send (link M T Air) (flight.Air 1 1 1 (Some 0) (128 ∷ 0 ∷ 104 ∷ 105 ∷ [])) ∷ [])
    ∷ []) ≡ []
unfolding sn window modulus distance count_for data_pdu decoded read_data read_report keystream counter_block stream_blocks report_pdu
recover_that_sends_nothing_again_is_right = refl

recover_without_its_record_is_wrong : breaks (a_header Nea0 0 (replicate 32 0)) (before_recover_that_sends_nothing_again ++
    an_entry (event.Recover 1) answer.Ok (line.Send (link M T Air) (flight.Air 1 1 1 (Some 0) (128 ∷ 0 ∷ 104 ∷ 105 ∷ [])) ∷ [])
    ∷ []) ≡ come ∷ []
unfolding sn window modulus distance count_for data_pdu decoded read_data read_report keystream counter_block stream_blocks report_pdu
recover_without_its_record_is_wrong = refl

recover_without_its_record_is_right : breaks (a_header Nea0 0 (replicate 32 0)) (before_recover_that_sends_nothing_again ++
    an_entry (event.Recover 1) answer.Ok (line.Send (link M T Ctl) (flight.Ctl (rec.Recov 1)) ∷ line.Send (link M T Air) (flight.Air 1 1 1 (Some 0) (128 ∷ 0 ∷ 104 ∷ 105 ∷ [])) ∷ [])
    ∷ []) ≡ []
unfolding sn window modulus distance count_for data_pdu decoded read_data read_report keystream counter_block stream_blocks report_pdu
recover_without_its_record_is_right = refl

-- what comes before
abbrev before_recovery_does_not_bring_what_was_lost : List Entry
before_recovery_does_not_bring_what_was_lost =
    an_entry (event.Add A) answer.Ok (line.Send (link M A Ctl) (flight.Ctl (rec.Addreq (a_plan 1 (Some A) []) [])) ∷ [])
    ∷ an_entry (event.Step (link M A Ctl) 0) answer.Ok (line.Note (note.Join A 1) ∷ line.Send (link A M Ctl) (flight.Ctl (rec.Addack 1)) ∷ [])
    ∷ an_entry (event.Step (link A M Ctl) 0) answer.Ok (line.Send (link M T Ctl) (flight.Ctl (rec.Reconf (a_plan 1 (Some A) []) [])) ∷ [])
    ∷ an_entry (event.Step (link M T Ctl) 0) answer.Ok (line.Send (link T M Ctl) (flight.Ctl (rec.Rcomp 1)) ∷ [])
    ∷ an_entry (event.Step (link T M Ctl) 0) answer.Ok (line.Send (link M A Ctl) (flight.Ctl (rec.Recfg 1)) ∷ line.Note note.Done ∷ [])
    ∷ an_entry (event.Step (link M A Ctl) 0) answer.Ok []
    ∷ an_entry (event.Bearer 1 S12 0 (a_shape false Scg false) 0 0) answer.Ok (line.Send (link M A Ctl) (flight.Ctl (rec.Modreq (a_plan 2 (Some A) (Set 1 S12 0 (a_shape false Scg false) 0 0 (a_key 0 Master) None ∷ [])) [])) ∷ [])
    ∷ an_entry (event.Step (link M A Ctl) 0) answer.Ok (line.Send (link A M Ctl) (flight.Ctl (rec.Modack 2)) ∷ [])
    ∷ an_entry (event.Step (link A M Ctl) 0) answer.Ok (line.Note (note.Own M 1 2) ∷ line.Send (link M T Ctl) (flight.Ctl (rec.Reconf (a_plan 2 (Some A) (Set 1 S12 0 (a_shape false Scg false) 0 0 (a_key 0 Master) None ∷ [])) [])) ∷ [])
    ∷ an_entry (event.Step (link M T Ctl) 0) answer.Ok (line.Note (note.Set 1 2) ∷ line.Send (link T M Ctl) (flight.Ctl (rec.Rcomp 2)) ∷ [])
    ∷ an_entry (event.Step (link T M Ctl) 0) answer.Ok (line.Send (link M A Ctl) (flight.Ctl (rec.Recfg 2)) ∷ line.Note note.Done ∷ [])
    ∷ an_entry (event.Step (link M A Ctl) 0) answer.Ok []
    ∷ an_entry (event.Submit 1 Dl (170 ∷ [])) answer.Ok (line.Send (link M A Tun) (flight.Tun (Some 0) (52 ∷ 255 ∷ 0 ∷ 15 ∷ 0 ∷ 0 ∷ 1 ∷ 0 ∷ 0 ∷ 0 ∷ 0 ∷ 132 ∷ 2 ∷ 1 ∷ 0 ∷ 0 ∷ 0 ∷ 0 ∷ 0 ∷ 0 ∷ 128 ∷ 0 ∷ 170 ∷ [])) ∷ [])
    ∷ an_entry (event.Lose (link M A Tun) 0) answer.Ok []
    ∷ []

recovery_does_not_bring_what_was_lost_is_wrong : breaks (a_header Nea0 0 (replicate 32 0)) (before_recovery_does_not_bring_what_was_lost ++
    an_entry (event.Recover 1) answer.Ok (line.Send (link M T Ctl) (flight.Ctl (rec.Recov 1)) ∷ [])
    ∷ an_entry (event.Step (link M T Ctl) 0) answer.Ok (line.Send (link T M Ctl) (flight.Ctl (rec.Recovd 1)) ∷ [])
    ∷ an_entry (event.Step (link T M Ctl) 0) answer.Ok (line.Note note.Done ∷ [])
    ∷ []) ≡ come ∷ all_of_it ∷ []
unfolding sn window modulus distance count_for data_pdu decoded read_data read_report keystream counter_block stream_blocks report_pdu
recovery_does_not_bring_what_was_lost_is_wrong = refl

recovery_does_not_bring_what_was_lost_is_right : breaks (a_header Nea0 0 (replicate 32 0)) (before_recovery_does_not_bring_what_was_lost ++
    an_entry (event.Recover 1) answer.Ok (line.Send (link M T Ctl) (flight.Ctl (rec.Recov 1)) ∷ line.Send (link M A Tun) (flight.Tun (Some 0) (52 ∷ 255 ∷ 0 ∷ 15 ∷ 0 ∷ 0 ∷ 1 ∷ 0 ∷ 0 ∷ 0 ∷ 0 ∷ 132 ∷ 2 ∷ 3 ∷ 0 ∷ 0 ∷ 1 ∷ 0 ∷ 0 ∷ 0 ∷ 128 ∷ 0 ∷ 170 ∷ [])) ∷ [])
    ∷ an_entry (event.Step (link M T Ctl) 0) answer.Ok (line.Send (link T M Ctl) (flight.Ctl (rec.Recovd 1)) ∷ [])
    ∷ an_entry (event.Step (link T M Ctl) 0) answer.Ok (line.Note note.Done ∷ [])
    ∷ []) ≡ []
unfolding sn window modulus distance count_for data_pdu decoded read_data read_report keystream counter_block stream_blocks report_pdu
recovery_does_not_bring_what_was_lost_is_right = refl

recovery_of_a_confirmed_count_is_wrong : breaks (a_header Nea0 0 (replicate 32 0)) (before_recover_that_ends_at_once ++
    an_entry (event.Recover 1) answer.Ok (line.Send (link M T Ctl) (flight.Ctl (rec.Recov 1)) ∷ line.Send (link M T Air) (flight.Air 1 1 1 (Some 0) (128 ∷ 0 ∷ 104 ∷ 105 ∷ [])) ∷ [])
    ∷ []) ≡ licensed ∷ []
unfolding sn window modulus distance count_for data_pdu decoded read_data read_report keystream counter_block stream_blocks report_pdu
recovery_of_a_confirmed_count_is_wrong = refl

recovery_of_a_confirmed_count_is_right : breaks (a_header Nea0 0 (replicate 32 0)) (before_recover_that_ends_at_once ++
    an_entry (event.Recover 1) answer.Ok (line.Send (link M T Ctl) (flight.Ctl (rec.Recov 1)) ∷ [])
    ∷ []) ≡ []
unfolding sn window modulus distance count_for data_pdu decoded read_data read_report keystream counter_block stream_blocks report_pdu
recovery_of_a_confirmed_count_is_right = refl

-- what comes before
abbrev before_refused_with_another_word : List Entry
before_refused_with_another_word =
    an_entry (event.Add A) answer.Ok (line.Send (link M A Ctl) (flight.Ctl (rec.Addreq (a_plan 1 (Some A) []) [])) ∷ [])
    ∷ an_entry (event.Step (link M A Ctl) 0) answer.Ok (line.Note (note.Join A 1) ∷ line.Send (link A M Ctl) (flight.Ctl (rec.Addack 1)) ∷ [])
    ∷ an_entry (event.Step (link A M Ctl) 0) answer.Ok (line.Send (link M T Ctl) (flight.Ctl (rec.Reconf (a_plan 1 (Some A) []) [])) ∷ [])
    ∷ an_entry (event.Step (link M T Ctl) 0) answer.Ok (line.Send (link T M Ctl) (flight.Ctl (rec.Rcomp 1)) ∷ [])
    ∷ an_entry (event.Step (link T M Ctl) 0) answer.Ok (line.Send (link M A Ctl) (flight.Ctl (rec.Recfg 1)) ∷ line.Note note.Done ∷ [])
    ∷ an_entry (event.Step (link M A Ctl) 0) answer.Ok []
    ∷ an_entry (event.Ask A want.Rekey) answer.Ok (line.Send (link A M Ctl) (flight.Ctl (rec.Modrqd)) ∷ [])
    ∷ an_entry (event.Bearer 1 S12 0 (a_shape false Mcg false) 0 0) answer.Ok (line.Note (note.Own M 1 2) ∷ line.Send (link M T Ctl) (flight.Ctl (rec.Reconf (a_plan 2 (Some A) (Set 1 S12 0 (a_shape false Mcg false) 0 0 (a_key 0 Master) None ∷ [])) [])) ∷ [])
    ∷ an_entry (event.Step (link A M Ctl) 0) answer.Ok (line.Send (link M A Ctl) (flight.Ctl (rec.Modref word.Busy)) ∷ [])
    ∷ []

refused_with_another_word_is_wrong : breaks (a_header Nea0 0 (replicate 32 0)) (before_refused_with_another_word ++
    an_entry (event.Step (link M A Ctl) 0) answer.Ok (line.Note (note.Refused A word.CounterSpent) ∷ [])
    ∷ []) ≡ placed ∷ []
unfolding sn window modulus distance count_for data_pdu decoded read_data read_report keystream counter_block stream_blocks report_pdu
refused_with_another_word_is_wrong = refl

refused_with_another_word_is_right : breaks (a_header Nea0 0 (replicate 32 0)) (before_refused_with_another_word ++
    an_entry (event.Step (link M A Ctl) 0) answer.Ok (line.Note (note.Refused A word.Busy) ∷ [])
    ∷ []) ≡ []
unfolding sn window modulus distance count_for data_pdu decoded read_data read_report keystream counter_block stream_blocks report_pdu
refused_with_another_word_is_right = refl

rejected_line_in_a_command_without_a_request_is_wrong : breaks (a_header Nea0 0 (replicate 32 0)) (
    an_entry (event.Bearer 1 S12 0 (a_shape false Mcg false) 0 0) answer.Ok (line.Note (note.Own M 1 1) ∷ line.Send (link M T Ctl) (flight.Ctl (rec.Reconf (a_plan 1 None (Set 1 S12 0 (a_shape false Mcg false) 0 0 (a_key 0 Master) None ∷ [])) [])) ∷ line.Note note.Rejected ∷ [])
    ∷ []) ≡ placed ∷ []
unfolding sn window modulus distance count_for data_pdu decoded read_data read_report keystream counter_block stream_blocks report_pdu
rejected_line_in_a_command_without_a_request_is_wrong = refl

rejected_line_in_a_command_without_a_request_is_right : breaks (a_header Nea0 0 (replicate 32 0)) (
    an_entry (event.Bearer 1 S12 0 (a_shape false Mcg false) 0 0) answer.Ok (line.Note (note.Own M 1 1) ∷ line.Send (link M T Ctl) (flight.Ctl (rec.Reconf (a_plan 1 None (Set 1 S12 0 (a_shape false Mcg false) 0 0 (a_key 0 Master) None ∷ [])) [])) ∷ [])
    ∷ []) ≡ []
unfolding sn window modulus distance count_for data_pdu decoded read_data read_report keystream counter_block stream_blocks report_pdu
rejected_line_in_a_command_without_a_request_is_right = refl

rejected_without_a_rejection_is_wrong : breaks (a_header Nea0 0 (replicate 32 0)) (before_plan_with_the_wrong_secondary ++
    an_entry (event.Step (link A M Ctl) 0) answer.Ok (line.Note note.Rejected ∷ [])
    ∷ []) ≡ placed ∷ come ∷ []
unfolding sn window modulus distance count_for data_pdu decoded read_data read_report keystream counter_block stream_blocks report_pdu
rejected_without_a_rejection_is_wrong = refl

rejected_without_a_rejection_is_right : breaks (a_header Nea0 0 (replicate 32 0)) (before_plan_with_the_wrong_secondary ++
    an_entry (event.Step (link A M Ctl) 0) answer.Ok (line.Send (link M T Ctl) (flight.Ctl (rec.Reconf (a_plan 1 (Some A) []) [])) ∷ [])
    ∷ []) ≡ []
unfolding sn window modulus distance count_for data_pdu decoded read_data read_report keystream counter_block stream_blocks report_pdu
rejected_without_a_rejection_is_right = refl

-- what comes before
abbrev before_rejection_that_does_not_end_the_command : List Entry
before_rejection_that_does_not_end_the_command =
    an_entry (event.Deny A true) answer.Ok []
    ∷ an_entry (event.Add A) answer.Ok (line.Send (link M A Ctl) (flight.Ctl (rec.Addreq (a_plan 1 (Some A) []) [])) ∷ [])
    ∷ an_entry (event.Step (link M A Ctl) 0) answer.Ok (line.Send (link A M Ctl) (flight.Ctl (rec.Addrej 1)) ∷ [])
    ∷ []

rejection_that_does_not_end_the_command_is_wrong : breaks (a_header Nea0 0 (replicate 32 0)) (before_rejection_that_does_not_end_the_command ++
    an_entry (event.Step (link A M Ctl) 0) answer.Ok []
    ∷ []) ≡ come ∷ unstalled ∷ []
unfolding sn window modulus distance count_for data_pdu decoded read_data read_report keystream counter_block stream_blocks report_pdu
rejection_that_does_not_end_the_command_is_wrong = refl

rejection_that_does_not_end_the_command_is_right : breaks (a_header Nea0 0 (replicate 32 0)) (before_rejection_that_does_not_end_the_command ++
    an_entry (event.Step (link A M Ctl) 0) answer.Ok (line.Note note.Rejected ∷ [])
    ∷ []) ≡ []
unfolding sn window modulus distance count_for data_pdu decoded read_data read_report keystream counter_block stream_blocks report_pdu
rejection_that_does_not_end_the_command_is_right = refl

-- what comes before
abbrev before_relcnf_0_before_the_open_command_ends : List Entry
before_relcnf_0_before_the_open_command_ends =
    an_entry (event.Add A) answer.Ok (line.Send (link M A Ctl) (flight.Ctl (rec.Addreq (a_plan 1 (Some A) []) [])) ∷ [])
    ∷ an_entry (event.Step (link M A Ctl) 0) answer.Ok (line.Note (note.Join A 1) ∷ line.Send (link A M Ctl) (flight.Ctl (rec.Addack 1)) ∷ [])
    ∷ an_entry (event.Step (link A M Ctl) 0) answer.Ok (line.Send (link M T Ctl) (flight.Ctl (rec.Reconf (a_plan 1 (Some A) []) [])) ∷ [])
    ∷ an_entry (event.Step (link M T Ctl) 0) answer.Ok (line.Send (link T M Ctl) (flight.Ctl (rec.Rcomp 1)) ∷ [])
    ∷ an_entry (event.Step (link T M Ctl) 0) answer.Ok (line.Send (link M A Ctl) (flight.Ctl (rec.Recfg 1)) ∷ line.Note note.Done ∷ [])
    ∷ an_entry (event.Step (link M A Ctl) 0) answer.Ok []
    ∷ an_entry (event.Ask A want.Release) answer.Ok (line.Send (link A M Ctl) (flight.Ctl (rec.Relrqd)) ∷ [])
    ∷ an_entry (event.Change) answer.Ok (line.Send (link M B Ctl) (flight.Ctl (rec.Addreq (a_plan 2 (Some B) []) [])) ∷ [])
    ∷ an_entry (event.Step (link M B Ctl) 0) answer.Ok (line.Note (note.Join B 2) ∷ line.Send (link B M Ctl) (flight.Ctl (rec.Addack 2)) ∷ [])
    ∷ an_entry (event.Step (link B M Ctl) 0) answer.Ok (line.Send (link M T Ctl) (flight.Ctl (rec.Reconf (a_plan 2 (Some B) []) [])) ∷ line.Send (link M A Ctl) (flight.Ctl (rec.Relreq (a_plan 2 (Some B) []))) ∷ [])
    ∷ []

relcnf_0_before_the_open_command_ends_is_wrong : breaks (a_header Nea0 0 (replicate 32 0)) (before_relcnf_0_before_the_open_command_ends ++
    an_entry (event.Step (link A M Ctl) 0) answer.Ok (line.Send (link M A Ctl) (flight.Ctl (rec.Relcnf (a_plan 0 None []))) ∷ [])
    ∷ []) ≡ licensed ∷ replied ∷ []
unfolding sn window modulus distance count_for data_pdu decoded read_data read_report keystream counter_block stream_blocks report_pdu
relcnf_0_before_the_open_command_ends_is_wrong = refl

relcnf_0_before_the_open_command_ends_is_right : breaks (a_header Nea0 0 (replicate 32 0)) (before_relcnf_0_before_the_open_command_ends ++
    an_entry (event.Step (link A M Ctl) 0) answer.Ok []
    ∷ []) ≡ []
unfolding sn window modulus distance count_for data_pdu decoded read_data read_report keystream counter_block stream_blocks report_pdu
relcnf_0_before_the_open_command_ends_is_right = refl

-- what comes before
abbrev before_release_done_in_the_event_in_which_it_begins : List Entry
before_release_done_in_the_event_in_which_it_begins =
    an_entry (event.Add A) answer.Ok (line.Send (link M A Ctl) (flight.Ctl (rec.Addreq (a_plan 1 (Some A) []) [])) ∷ [])
    ∷ an_entry (event.Step (link M A Ctl) 0) answer.Ok (line.Note (note.Join A 1) ∷ line.Send (link A M Ctl) (flight.Ctl (rec.Addack 1)) ∷ [])
    ∷ an_entry (event.Step (link A M Ctl) 0) answer.Ok (line.Send (link M T Ctl) (flight.Ctl (rec.Reconf (a_plan 1 (Some A) []) [])) ∷ [])
    ∷ an_entry (event.Step (link M T Ctl) 0) answer.Ok (line.Send (link T M Ctl) (flight.Ctl (rec.Rcomp 1)) ∷ [])
    ∷ an_entry (event.Step (link T M Ctl) 0) answer.Ok (line.Send (link M A Ctl) (flight.Ctl (rec.Recfg 1)) ∷ line.Note note.Done ∷ [])
    ∷ an_entry (event.Step (link M A Ctl) 0) answer.Ok []
    ∷ an_entry (event.Bearer 1 S12 0 (a_shape true Scg false) 0 0) answer.Ok (line.Send (link M A Ctl) (flight.Ctl (rec.Modreq (a_plan 2 (Some A) (Set 1 S12 0 (a_shape true Scg false) 0 0 (a_key 0 (SecondKey 0)) None ∷ [])) [])) ∷ [])
    ∷ an_entry (event.Step (link M A Ctl) 0) answer.Ok (line.Note (note.Own A 1 2) ∷ line.Send (link A M Ctl) (flight.Ctl (rec.Modack 2)) ∷ [])
    ∷ an_entry (event.Step (link A M Ctl) 0) answer.Ok (line.Send (link M T Ctl) (flight.Ctl (rec.Reconf (a_plan 2 (Some A) (Set 1 S12 0 (a_shape true Scg false) 0 0 (a_key 0 (SecondKey 0)) None ∷ [])) [])) ∷ [])
    ∷ an_entry (event.Step (link M T Ctl) 0) answer.Ok (line.Note (note.Set 1 2) ∷ line.Send (link T M Ctl) (flight.Ctl (rec.Rcomp 2)) ∷ [])
    ∷ an_entry (event.Step (link T M Ctl) 0) answer.Ok (line.Send (link M A Ctl) (flight.Ctl (rec.Recfg 2)) ∷ line.Note note.Done ∷ [])
    ∷ an_entry (event.Step (link M A Ctl) 0) answer.Ok []
    ∷ an_entry (event.Submit 1 Dl (170 ∷ [])) answer.Ok (line.Send (link M A Feed) (flight.Sdu 1 2 (170 ∷ [])) ∷ [])
    ∷ an_entry (event.Step (link M A Feed) 0) answer.Ok (line.Send (link A T Air) (flight.Air 1 2 0 (Some 0) (128 ∷ 0 ∷ 170 ∷ [])) ∷ [])
    ∷ an_entry (event.Reshape 1 (a_shape false (Split cell.Mcg) false)) answer.Ok (line.Send (link M A Ctl) (flight.Ctl (rec.Modreq (a_plan 3 (Some A) (Set 1 S12 0 (a_shape false (Split cell.Mcg) false) 0 0 (a_key 0 Master) (Some A) ∷ [])) [])) ∷ [])
    ∷ an_entry (event.Step (link M A Ctl) 0) answer.Ok (line.Note (note.Give A 1 3) ∷ line.Send (link A M Ctl) (flight.Ctl (rec.Modack 3)) ∷ line.Send (link A M Ctl) (flight.Ctl (rec.Snst (a_transfer 3 1 0 [] 1))) ∷ line.Send (link A M Tun) (flight.Tun None (52 ∷ 255 ∷ 0 ∷ 17 ∷ 0 ∷ 0 ∷ 1 ∷ 129 ∷ 0 ∷ 0 ∷ 0 ∷ 132 ∷ 2 ∷ 1 ∷ 0 ∷ 0 ∷ 0 ∷ 0 ∷ 0 ∷ 192 ∷ 1 ∷ 0 ∷ 0 ∷ 0 ∷ 170 ∷ [])) ∷ line.Send (link A M Tun) (flight.Tun None (52 ∷ 255 ∷ 0 ∷ 12 ∷ 0 ∷ 0 ∷ 1 ∷ 130 ∷ 0 ∷ 0 ∷ 0 ∷ 132 ∷ 2 ∷ 0 ∷ 0 ∷ 0 ∷ 0 ∷ 0 ∷ 0 ∷ 0 ∷ [])) ∷ line.Send (link A M Tun) (flight.Tun None (48 ∷ 254 ∷ 0 ∷ 0 ∷ 0 ∷ 0 ∷ 1 ∷ 130 ∷ [])) ∷ [])
    ∷ an_entry (event.Step (link A M Ctl) 0) answer.Ok (line.Send (link M T Ctl) (flight.Ctl (rec.Reconf (a_plan 3 (Some A) (Set 1 S12 0 (a_shape false (Split cell.Mcg) false) 0 0 (a_key 0 Master) (Some A) ∷ [])) [])) ∷ line.Send (link M A Feed) (flight.End 1 3) ∷ [])
    ∷ an_entry (event.Step (link M T Ctl) 0) answer.Ok (line.Note (note.Set 1 3) ∷ line.Send (link T M Ctl) (flight.Ctl (rec.Rcomp 3)) ∷ [])
    ∷ an_entry (event.Step (link T M Ctl) 0) answer.Ok (line.Send (link M A Ctl) (flight.Ctl (rec.Recfg 3)) ∷ [])
    ∷ an_entry (event.Ask A want.Release) answer.Ok (line.Send (link A M Ctl) (flight.Ctl (rec.Relrqd)) ∷ [])
    ∷ an_entry (event.Step (link A M Ctl) 0) answer.Ok []
    ∷ an_entry (event.Step (link A M Ctl) 0) answer.Ok []
    ∷ an_entry (event.Step (link M A Feed) 0) answer.Ok (line.Send (link A M Tun) (flight.Tun None (52 ∷ 255 ∷ 0 ∷ 12 ∷ 0 ∷ 0 ∷ 1 ∷ 129 ∷ 0 ∷ 0 ∷ 0 ∷ 132 ∷ 2 ∷ 0 ∷ 0 ∷ 0 ∷ 1 ∷ 0 ∷ 0 ∷ 0 ∷ [])) ∷ line.Send (link A M Tun) (flight.Tun None (48 ∷ 254 ∷ 0 ∷ 0 ∷ 0 ∷ 0 ∷ 1 ∷ 129 ∷ [])) ∷ [])
    ∷ an_entry (event.Step (link A M Tun) 0) answer.Ok []
    ∷ an_entry (event.Step (link A M Tun) 0) answer.Ok []
    ∷ an_entry (event.Step (link A M Tun) 0) answer.Ok []
    ∷ []

release_done_in_the_event_in_which_it_begins_is_wrong : breaks (a_header Nea0 0 (replicate 32 0)) (before_release_done_in_the_event_in_which_it_begins ++
    an_entry (event.Step (link A M Tun) 0) answer.Ok (line.Note (note.Own M 1 3) ∷ line.Send (link M T Air) (flight.Air 1 3 0 (Some 0) (128 ∷ 0 ∷ 170 ∷ [])) ∷ line.Note note.Done ∷ line.Note (note.Begin want.Release) ∷ line.Note (note.Own M 1 4) ∷ line.Send (link M T Ctl) (flight.Ctl (rec.Reconf (a_plan 4 None (Set 1 S12 0 (a_shape false Mcg false) 0 0 (a_key 0 Master) (Some M) ∷ [])) [])) ∷ line.Send (link M A Ctl) (flight.Ctl (rec.Relcnf (a_plan 4 None (Set 1 S12 0 (a_shape false Mcg false) 0 0 (a_key 0 Master) (Some M) ∷ [])))) ∷ line.Note note.Done ∷ [])
    ∷ []) ≡ placed ∷ []
unfolding sn window modulus distance count_for data_pdu decoded read_data read_report keystream counter_block stream_blocks report_pdu
release_done_in_the_event_in_which_it_begins_is_wrong = refl

release_done_in_the_event_in_which_it_begins_is_right : breaks (a_header Nea0 0 (replicate 32 0)) (before_release_done_in_the_event_in_which_it_begins ++
    an_entry (event.Step (link A M Tun) 0) answer.Ok (line.Note (note.Own M 1 3) ∷ line.Send (link M T Air) (flight.Air 1 3 0 (Some 0) (128 ∷ 0 ∷ 170 ∷ [])) ∷ line.Note note.Done ∷ line.Note (note.Begin want.Release) ∷ line.Note (note.Own M 1 4) ∷ line.Send (link M T Ctl) (flight.Ctl (rec.Reconf (a_plan 4 None (Set 1 S12 0 (a_shape false Mcg false) 0 0 (a_key 0 Master) (Some M) ∷ [])) [])) ∷ line.Send (link M A Ctl) (flight.Ctl (rec.Relcnf (a_plan 4 None (Set 1 S12 0 (a_shape false Mcg false) 0 0 (a_key 0 Master) (Some M) ∷ [])))) ∷ [])
    ∷ []) ≡ []
unfolding sn window modulus distance count_for data_pdu decoded read_data read_report keystream counter_block stream_blocks report_pdu
release_done_in_the_event_in_which_it_begins_is_right = refl

-- what comes before
abbrev before_relreq_where_chgcnf_is_due : List Entry
before_relreq_where_chgcnf_is_due =
    an_entry (event.Add A) answer.Ok (line.Send (link M A Ctl) (flight.Ctl (rec.Addreq (a_plan 1 (Some A) []) [])) ∷ [])
    ∷ an_entry (event.Step (link M A Ctl) 0) answer.Ok (line.Note (note.Join A 1) ∷ line.Send (link A M Ctl) (flight.Ctl (rec.Addack 1)) ∷ [])
    ∷ an_entry (event.Step (link A M Ctl) 0) answer.Ok (line.Send (link M T Ctl) (flight.Ctl (rec.Reconf (a_plan 1 (Some A) []) [])) ∷ [])
    ∷ an_entry (event.Step (link M T Ctl) 0) answer.Ok (line.Send (link T M Ctl) (flight.Ctl (rec.Rcomp 1)) ∷ [])
    ∷ an_entry (event.Step (link T M Ctl) 0) answer.Ok (line.Send (link M A Ctl) (flight.Ctl (rec.Recfg 1)) ∷ line.Note note.Done ∷ [])
    ∷ an_entry (event.Step (link M A Ctl) 0) answer.Ok []
    ∷ an_entry (event.Ask A want.Change) answer.Ok (line.Send (link A M Ctl) (flight.Ctl (rec.Chgrqd)) ∷ [])
    ∷ an_entry (event.Step (link A M Ctl) 0) answer.Ok (line.Note (note.Begin want.Change) ∷ line.Send (link M B Ctl) (flight.Ctl (rec.Addreq (a_plan 2 (Some B) []) [])) ∷ [])
    ∷ an_entry (event.Step (link M B Ctl) 0) answer.Ok (line.Note (note.Join B 2) ∷ line.Send (link B M Ctl) (flight.Ctl (rec.Addack 2)) ∷ [])
    ∷ []

relreq_where_chgcnf_is_due_is_wrong : breaks (a_header Nea0 0 (replicate 32 0)) (before_relreq_where_chgcnf_is_due ++
    an_entry (event.Step (link B M Ctl) 0) answer.Ok (line.Send (link M T Ctl) (flight.Ctl (rec.Reconf (a_plan 2 (Some B) []) [])) ∷ line.Send (link M A Ctl) (flight.Ctl (rec.Relreq (a_plan 2 (Some B) []))) ∷ [])
    ∷ []) ≡ licensed ∷ []
unfolding sn window modulus distance count_for data_pdu decoded read_data read_report keystream counter_block stream_blocks report_pdu
relreq_where_chgcnf_is_due_is_wrong = refl

relreq_where_chgcnf_is_due_is_right : breaks (a_header Nea0 0 (replicate 32 0)) (before_relreq_where_chgcnf_is_due ++
    an_entry (event.Step (link B M Ctl) 0) answer.Ok (line.Send (link M T Ctl) (flight.Ctl (rec.Reconf (a_plan 2 (Some B) []) [])) ∷ line.Send (link M A Ctl) (flight.Ctl (rec.Chgcnf (a_plan 2 (Some B) []))) ∷ [])
    ∷ []) ≡ []
unfolding sn window modulus distance count_for data_pdu decoded read_data read_report keystream counter_block stream_blocks report_pdu
relreq_where_chgcnf_is_due_is_right = refl

repeat_flag_on_a_first_send_is_wrong : breaks (a_header Nea0 0 (replicate 32 0)) (before_pdu_of_the_anchor_sent_by_the_host ++
    an_entry (event.Submit 1 Dl (170 ∷ [])) answer.Ok (line.Send (link M A Tun) (flight.Tun (Some 0) (52 ∷ 255 ∷ 0 ∷ 15 ∷ 0 ∷ 0 ∷ 1 ∷ 0 ∷ 0 ∷ 0 ∷ 0 ∷ 132 ∷ 2 ∷ 3 ∷ 0 ∷ 0 ∷ 0 ∷ 0 ∷ 0 ∷ 0 ∷ 128 ∷ 0 ∷ 170 ∷ [])) ∷ [])
    ∷ []) ≡ licensed ∷ []
unfolding sn window modulus distance count_for data_pdu decoded read_data read_report keystream counter_block stream_blocks report_pdu
repeat_flag_on_a_first_send_is_wrong = refl

repeat_flag_on_a_first_send_is_right : breaks (a_header Nea0 0 (replicate 32 0)) (before_pdu_of_the_anchor_sent_by_the_host ++
    an_entry (event.Submit 1 Dl (170 ∷ [])) answer.Ok (line.Send (link M A Tun) (flight.Tun (Some 0) (52 ∷ 255 ∷ 0 ∷ 15 ∷ 0 ∷ 0 ∷ 1 ∷ 0 ∷ 0 ∷ 0 ∷ 0 ∷ 132 ∷ 2 ∷ 1 ∷ 0 ∷ 0 ∷ 0 ∷ 0 ∷ 0 ∷ 0 ∷ 128 ∷ 0 ∷ 170 ∷ [])) ∷ [])
    ∷ []) ≡ []
unfolding sn window modulus distance count_for data_pdu decoded read_data read_report keystream counter_block stream_blocks report_pdu
repeat_flag_on_a_first_send_is_right = refl

-- what comes before
abbrev before_report_at_a_waiting_anchor_counts_at_once : List Entry
before_report_at_a_waiting_anchor_counts_at_once =
    an_entry (event.Bearer 1 S12 0 (a_shape false Mcg false) 0 0) answer.Ok (line.Note (note.Own M 1 1) ∷ line.Send (link M T Ctl) (flight.Ctl (rec.Reconf (a_plan 1 None (Set 1 S12 0 (a_shape false Mcg false) 0 0 (a_key 0 Master) None ∷ [])) [])) ∷ [])
    ∷ an_entry (event.Step (link M T Ctl) 0) answer.Ok (line.Note (note.Set 1 1) ∷ line.Send (link T M Ctl) (flight.Ctl (rec.Rcomp 1)) ∷ [])
    ∷ an_entry (event.Step (link T M Ctl) 0) answer.Ok (line.Note note.Done ∷ [])
    ∷ an_entry (event.Submit 1 Dl (170 ∷ [])) answer.Ok (line.Send (link M T Air) (flight.Air 1 1 0 (Some 0) (128 ∷ 0 ∷ 170 ∷ [])) ∷ [])
    ∷ an_entry (event.Step (link M T Air) 0) answer.Ok (line.Note (note.Up T 1 Dl 0 (170 ∷ [])) ∷ line.Send (link T M Air) (flight.Ack 1 1 0) ∷ [])
    ∷ an_entry (event.Add A) answer.Ok (line.Send (link M A Ctl) (flight.Ctl (rec.Addreq (a_plan 2 (Some A) []) [])) ∷ [])
    ∷ an_entry (event.Step (link M A Ctl) 0) answer.Ok (line.Note (note.Join A 2) ∷ line.Send (link A M Ctl) (flight.Ctl (rec.Addack 2)) ∷ [])
    ∷ an_entry (event.Step (link A M Ctl) 0) answer.Ok (line.Send (link M T Ctl) (flight.Ctl (rec.Reconf (a_plan 2 (Some A) []) [])) ∷ [])
    ∷ an_entry (event.Step (link M T Ctl) 0) answer.Ok (line.Send (link T M Ctl) (flight.Ctl (rec.Rcomp 2)) ∷ [])
    ∷ an_entry (event.Step (link T M Ctl) 0) answer.Ok (line.Send (link M A Ctl) (flight.Ctl (rec.Recfg 2)) ∷ line.Note note.Done ∷ [])
    ∷ an_entry (event.Reshape 1 (a_shape true Scg false)) answer.Ok (line.Send (link M A Ctl) (flight.Ctl (rec.Modreq (a_plan 3 (Some A) (Set 1 S12 0 (a_shape true Scg false) 0 0 (a_key 0 (SecondKey 0)) (Some M) ∷ [])) [])) ∷ [])
    ∷ an_entry (event.Step (link M A Ctl) 0) answer.Ok []
    ∷ an_entry (event.Step (link M A Ctl) 0) answer.Ok (line.Send (link A M Ctl) (flight.Ctl (rec.Modack 3)) ∷ [])
    ∷ an_entry (event.Step (link A M Ctl) 0) answer.Ok (line.Note (note.Give M 1 3) ∷ line.Send (link M T Ctl) (flight.Ctl (rec.Reconf (a_plan 3 (Some A) (Set 1 S12 0 (a_shape true Scg false) 0 0 (a_key 0 (SecondKey 0)) (Some M) ∷ [])) [])) ∷ line.Send (link M A Ctl) (flight.Ctl (rec.Snst (a_transfer 3 1 0 [] 1))) ∷ line.Send (link M A Tun) (flight.Tun None (52 ∷ 255 ∷ 0 ∷ 17 ∷ 0 ∷ 0 ∷ 1 ∷ 129 ∷ 0 ∷ 0 ∷ 0 ∷ 132 ∷ 2 ∷ 1 ∷ 0 ∷ 0 ∷ 0 ∷ 0 ∷ 0 ∷ 192 ∷ 1 ∷ 0 ∷ 0 ∷ 0 ∷ 170 ∷ [])) ∷ line.Send (link M A Tun) (flight.Tun None (52 ∷ 255 ∷ 0 ∷ 12 ∷ 0 ∷ 0 ∷ 1 ∷ 129 ∷ 0 ∷ 0 ∷ 0 ∷ 132 ∷ 2 ∷ 0 ∷ 0 ∷ 0 ∷ 1 ∷ 0 ∷ 0 ∷ 0 ∷ [])) ∷ line.Send (link M A Tun) (flight.Tun None (48 ∷ 254 ∷ 0 ∷ 0 ∷ 0 ∷ 0 ∷ 1 ∷ 129 ∷ [])) ∷ line.Send (link M A Tun) (flight.Tun None (52 ∷ 255 ∷ 0 ∷ 12 ∷ 0 ∷ 0 ∷ 1 ∷ 130 ∷ 0 ∷ 0 ∷ 0 ∷ 132 ∷ 2 ∷ 0 ∷ 0 ∷ 0 ∷ 0 ∷ 0 ∷ 0 ∷ 0 ∷ [])) ∷ line.Send (link M A Tun) (flight.Tun None (48 ∷ 254 ∷ 0 ∷ 0 ∷ 0 ∷ 0 ∷ 1 ∷ 130 ∷ [])) ∷ [])
    ∷ an_entry (event.Step (link M T Ctl) 0) answer.Ok (line.Note (note.Set 1 3) ∷ line.Send (link T M Ctl) (flight.Ctl (rec.Rcomp 3)) ∷ [])
    ∷ an_entry (event.Report T 1) answer.Ok (line.Send (link T A Air) (flight.Air 1 3 0 None (0 ∷ 0 ∷ 0 ∷ 0 ∷ 1 ∷ [])) ∷ [])
    ∷ []

report_at_a_waiting_anchor_counts_at_once_is_wrong : breaks (a_header Nea0 0 (replicate 32 0)) (before_report_at_a_waiting_anchor_counts_at_once ++
    an_entry (event.Step (link T A Air) 0) answer.Ok (line.Send (link A M Feed) (flight.Told 1 3 1) ∷ line.Send (link A T Air) (flight.Ack 1 3 0) ∷ [])
    ∷ []) ≡ told ∷ licensed ∷ []
unfolding sn window modulus distance count_for data_pdu decoded read_data read_report keystream counter_block stream_blocks report_pdu
report_at_a_waiting_anchor_counts_at_once_is_wrong = refl

report_at_a_waiting_anchor_counts_at_once_is_right : breaks (a_header Nea0 0 (replicate 32 0)) (before_report_at_a_waiting_anchor_counts_at_once ++
    an_entry (event.Step (link T A Air) 0) answer.Ok (line.Send (link A T Air) (flight.Ack 1 3 0) ∷ [])
    ∷ []) ≡ []
unfolding sn window modulus distance count_for data_pdu decoded read_data read_report keystream counter_block stream_blocks report_pdu
report_at_a_waiting_anchor_counts_at_once_is_right = refl

-- what comes before
abbrev before_report_at_a_waiting_anchor_never_counts : List Entry
before_report_at_a_waiting_anchor_never_counts =
    an_entry (event.Bearer 1 S12 0 (a_shape false Mcg false) 0 0) answer.Ok (line.Note (note.Own M 1 1) ∷ line.Send (link M T Ctl) (flight.Ctl (rec.Reconf (a_plan 1 None (Set 1 S12 0 (a_shape false Mcg false) 0 0 (a_key 0 Master) None ∷ [])) [])) ∷ [])
    ∷ an_entry (event.Step (link M T Ctl) 0) answer.Ok (line.Note (note.Set 1 1) ∷ line.Send (link T M Ctl) (flight.Ctl (rec.Rcomp 1)) ∷ [])
    ∷ an_entry (event.Step (link T M Ctl) 0) answer.Ok (line.Note note.Done ∷ [])
    ∷ an_entry (event.Submit 1 Dl (170 ∷ [])) answer.Ok (line.Send (link M T Air) (flight.Air 1 1 0 (Some 0) (128 ∷ 0 ∷ 170 ∷ [])) ∷ [])
    ∷ an_entry (event.Step (link M T Air) 0) answer.Ok (line.Note (note.Up T 1 Dl 0 (170 ∷ [])) ∷ line.Send (link T M Air) (flight.Ack 1 1 0) ∷ [])
    ∷ an_entry (event.Add A) answer.Ok (line.Send (link M A Ctl) (flight.Ctl (rec.Addreq (a_plan 2 (Some A) []) [])) ∷ [])
    ∷ an_entry (event.Step (link M A Ctl) 0) answer.Ok (line.Note (note.Join A 2) ∷ line.Send (link A M Ctl) (flight.Ctl (rec.Addack 2)) ∷ [])
    ∷ an_entry (event.Step (link A M Ctl) 0) answer.Ok (line.Send (link M T Ctl) (flight.Ctl (rec.Reconf (a_plan 2 (Some A) []) [])) ∷ [])
    ∷ an_entry (event.Step (link M T Ctl) 0) answer.Ok (line.Send (link T M Ctl) (flight.Ctl (rec.Rcomp 2)) ∷ [])
    ∷ an_entry (event.Step (link T M Ctl) 0) answer.Ok (line.Send (link M A Ctl) (flight.Ctl (rec.Recfg 2)) ∷ line.Note note.Done ∷ [])
    ∷ an_entry (event.Reshape 1 (a_shape true Scg false)) answer.Ok (line.Send (link M A Ctl) (flight.Ctl (rec.Modreq (a_plan 3 (Some A) (Set 1 S12 0 (a_shape true Scg false) 0 0 (a_key 0 (SecondKey 0)) (Some M) ∷ [])) [])) ∷ [])
    ∷ an_entry (event.Step (link M A Ctl) 0) answer.Ok []
    ∷ an_entry (event.Step (link M A Ctl) 0) answer.Ok (line.Send (link A M Ctl) (flight.Ctl (rec.Modack 3)) ∷ [])
    ∷ an_entry (event.Step (link A M Ctl) 0) answer.Ok (line.Note (note.Give M 1 3) ∷ line.Send (link M T Ctl) (flight.Ctl (rec.Reconf (a_plan 3 (Some A) (Set 1 S12 0 (a_shape true Scg false) 0 0 (a_key 0 (SecondKey 0)) (Some M) ∷ [])) [])) ∷ line.Send (link M A Ctl) (flight.Ctl (rec.Snst (a_transfer 3 1 0 [] 1))) ∷ line.Send (link M A Tun) (flight.Tun None (52 ∷ 255 ∷ 0 ∷ 17 ∷ 0 ∷ 0 ∷ 1 ∷ 129 ∷ 0 ∷ 0 ∷ 0 ∷ 132 ∷ 2 ∷ 1 ∷ 0 ∷ 0 ∷ 0 ∷ 0 ∷ 0 ∷ 192 ∷ 1 ∷ 0 ∷ 0 ∷ 0 ∷ 170 ∷ [])) ∷ line.Send (link M A Tun) (flight.Tun None (52 ∷ 255 ∷ 0 ∷ 12 ∷ 0 ∷ 0 ∷ 1 ∷ 129 ∷ 0 ∷ 0 ∷ 0 ∷ 132 ∷ 2 ∷ 0 ∷ 0 ∷ 0 ∷ 1 ∷ 0 ∷ 0 ∷ 0 ∷ [])) ∷ line.Send (link M A Tun) (flight.Tun None (48 ∷ 254 ∷ 0 ∷ 0 ∷ 0 ∷ 0 ∷ 1 ∷ 129 ∷ [])) ∷ line.Send (link M A Tun) (flight.Tun None (52 ∷ 255 ∷ 0 ∷ 12 ∷ 0 ∷ 0 ∷ 1 ∷ 130 ∷ 0 ∷ 0 ∷ 0 ∷ 132 ∷ 2 ∷ 0 ∷ 0 ∷ 0 ∷ 0 ∷ 0 ∷ 0 ∷ 0 ∷ [])) ∷ line.Send (link M A Tun) (flight.Tun None (48 ∷ 254 ∷ 0 ∷ 0 ∷ 0 ∷ 0 ∷ 1 ∷ 130 ∷ [])) ∷ [])
    ∷ an_entry (event.Step (link M T Ctl) 0) answer.Ok (line.Note (note.Set 1 3) ∷ line.Send (link T M Ctl) (flight.Ctl (rec.Rcomp 3)) ∷ [])
    ∷ an_entry (event.Report T 1) answer.Ok (line.Send (link T A Air) (flight.Air 1 3 0 None (0 ∷ 0 ∷ 0 ∷ 0 ∷ 1 ∷ [])) ∷ [])
    ∷ an_entry (event.Step (link T A Air) 0) answer.Ok (line.Send (link A T Air) (flight.Ack 1 3 0) ∷ [])
    ∷ an_entry (event.Step (link T M Ctl) 0) answer.Ok (line.Send (link M A Ctl) (flight.Ctl (rec.Recfg 3)) ∷ [])
    ∷ an_entry (event.Step (link M A Ctl) 0) answer.Ok []
    ∷ an_entry (event.Step (link M A Tun) 0) answer.Ok []
    ∷ an_entry (event.Step (link M A Tun) 0) answer.Ok []
    ∷ []

report_at_a_waiting_anchor_never_counts_is_wrong : breaks (a_header Nea0 0 (replicate 32 0)) (before_report_at_a_waiting_anchor_never_counts ++
    an_entry (event.Step (link M A Tun) 1) answer.Ok (line.Note (note.Own A 1 3) ∷ line.Send (link A M Ctl) (flight.Ctl (rec.Moved 3 1)) ∷ [])
    ∷ []) ≡ told ∷ []
unfolding sn window modulus distance count_for data_pdu decoded read_data read_report keystream counter_block stream_blocks report_pdu
report_at_a_waiting_anchor_never_counts_is_wrong = refl

report_at_a_waiting_anchor_never_counts_is_right : breaks (a_header Nea0 0 (replicate 32 0)) (before_report_at_a_waiting_anchor_never_counts ++
    an_entry (event.Step (link M A Tun) 1) answer.Ok (line.Note (note.Own A 1 3) ∷ line.Send (link A M Ctl) (flight.Ctl (rec.Moved 3 1)) ∷ line.Send (link A M Feed) (flight.Told 1 3 1) ∷ [])
    ∷ []) ≡ []
unfolding sn window modulus distance count_for data_pdu decoded read_data read_report keystream counter_block stream_blocks report_pdu
report_at_a_waiting_anchor_never_counts_is_right = refl

-- what comes before
abbrev before_report_names_more_than_was_handed_up : List Entry
before_report_names_more_than_was_handed_up =
    an_entry (event.Add A) answer.Ok (line.Send (link M A Ctl) (flight.Ctl (rec.Addreq (a_plan 1 (Some A) []) [])) ∷ [])
    ∷ an_entry (event.Step (link M A Ctl) 0) answer.Ok (line.Note (note.Join A 1) ∷ line.Send (link A M Ctl) (flight.Ctl (rec.Addack 1)) ∷ [])
    ∷ an_entry (event.Step (link A M Ctl) 0) answer.Ok (line.Send (link M T Ctl) (flight.Ctl (rec.Reconf (a_plan 1 (Some A) []) [])) ∷ [])
    ∷ an_entry (event.Step (link M T Ctl) 0) answer.Ok (line.Send (link T M Ctl) (flight.Ctl (rec.Rcomp 1)) ∷ [])
    ∷ an_entry (event.Step (link T M Ctl) 0) answer.Ok (line.Send (link M A Ctl) (flight.Ctl (rec.Recfg 1)) ∷ line.Note note.Done ∷ [])
    ∷ an_entry (event.Step (link M A Ctl) 0) answer.Ok []
    ∷ an_entry (event.Bearer 1 S12 0 (a_shape true Scg false) 0 0) answer.Ok (line.Send (link M A Ctl) (flight.Ctl (rec.Modreq (a_plan 2 (Some A) (Set 1 S12 0 (a_shape true Scg false) 0 0 (a_key 0 (SecondKey 0)) None ∷ [])) [])) ∷ [])
    ∷ an_entry (event.Step (link M A Ctl) 0) answer.Ok (line.Note (note.Own A 1 2) ∷ line.Send (link A M Ctl) (flight.Ctl (rec.Modack 2)) ∷ [])
    ∷ an_entry (event.Step (link A M Ctl) 0) answer.Ok (line.Send (link M T Ctl) (flight.Ctl (rec.Reconf (a_plan 2 (Some A) (Set 1 S12 0 (a_shape true Scg false) 0 0 (a_key 0 (SecondKey 0)) None ∷ [])) [])) ∷ [])
    ∷ an_entry (event.Step (link M T Ctl) 0) answer.Ok (line.Note (note.Set 1 2) ∷ line.Send (link T M Ctl) (flight.Ctl (rec.Rcomp 2)) ∷ [])
    ∷ an_entry (event.Step (link T M Ctl) 0) answer.Ok (line.Send (link M A Ctl) (flight.Ctl (rec.Recfg 2)) ∷ line.Note note.Done ∷ [])
    ∷ an_entry (event.Step (link M A Ctl) 0) answer.Ok []
    ∷ an_entry (event.Submit 1 Ul (187 ∷ [])) answer.Ok (line.Send (link T A Air) (flight.Air 1 2 0 (Some 0) (128 ∷ 0 ∷ 187 ∷ [])) ∷ [])
    ∷ []

report_names_more_than_was_handed_up_is_wrong : breaks (a_header Nea0 0 (replicate 32 0)) (before_report_names_more_than_was_handed_up ++
    an_entry (event.Report A 1) answer.Ok (line.Send (link A T Air) (flight.Air 1 2 0 None (0 ∷ 0 ∷ 0 ∷ 0 ∷ 1 ∷ [])) ∷ [])
    ∷ an_entry (event.Step (link A T Air) 0) answer.Ok (line.Note (note.Freed 1 Ul 1) ∷ line.Send (link T A Air) (flight.Ack 1 2 0) ∷ [])
    ∷ []) ≡ windowed ∷ true_report ∷ []
unfolding sn window modulus distance count_for data_pdu decoded read_data read_report keystream counter_block stream_blocks report_pdu
report_names_more_than_was_handed_up_is_wrong = refl

report_names_more_than_was_handed_up_is_right : breaks (a_header Nea0 0 (replicate 32 0)) (before_report_names_more_than_was_handed_up ++
    an_entry (event.Report A 1) answer.Ok (line.Send (link A T Air) (flight.Air 1 2 0 None (0 ∷ 0 ∷ 0 ∷ 0 ∷ 0 ∷ [])) ∷ [])
    ∷ an_entry (event.Step (link A T Air) 0) answer.Ok (line.Send (link T A Air) (flight.Ack 1 2 0) ∷ [])
    ∷ []) ≡ []
unfolding sn window modulus distance count_for data_pdu decoded read_data read_report keystream counter_block stream_blocks report_pdu
report_names_more_than_was_handed_up_is_right = refl

-- what comes before
abbrev before_report_of_an_old_generation_confirms : List Entry
before_report_of_an_old_generation_confirms =
    an_entry (event.Bearer 1 S12 0 (a_shape false Mcg false) 0 0) answer.Ok (line.Note (note.Own M 1 1) ∷ line.Send (link M T Ctl) (flight.Ctl (rec.Reconf (a_plan 1 None (Set 1 S12 0 (a_shape false Mcg false) 0 0 (a_key 0 Master) None ∷ [])) [])) ∷ [])
    ∷ an_entry (event.Step (link M T Ctl) 0) answer.Ok (line.Note (note.Set 1 1) ∷ line.Send (link T M Ctl) (flight.Ctl (rec.Rcomp 1)) ∷ [])
    ∷ an_entry (event.Step (link T M Ctl) 0) answer.Ok (line.Note note.Done ∷ [])
    ∷ an_entry (event.Submit 1 Dl (170 ∷ [])) answer.Ok (line.Send (link M T Air) (flight.Air 1 1 0 (Some 0) (128 ∷ 0 ∷ 170 ∷ [])) ∷ [])
    ∷ an_entry (event.Step (link M T Air) 0) answer.Ok (line.Note (note.Up T 1 Dl 0 (170 ∷ [])) ∷ line.Send (link T M Air) (flight.Ack 1 1 0) ∷ [])
    ∷ an_entry (event.Report T 1) answer.Ok (line.Send (link T M Air) (flight.Air 1 1 0 None (0 ∷ 0 ∷ 0 ∷ 0 ∷ 1 ∷ [])) ∷ [])
    ∷ an_entry (event.RekeyMaster (replicate 32 17)) answer.Ok (line.Note (note.Own M 1 2) ∷ line.Send (link M T Ctl) (flight.Ctl (rec.Reconf (a_plan 2 None (Set 1 S12 0 (a_shape false Mcg false) 0 0 (a_key 1 Master) (Some M) ∷ [])) [])) ∷ [])
    ∷ []

report_of_an_old_generation_confirms_is_wrong : breaks (a_header Nea0 0 (replicate 32 0)) (before_report_of_an_old_generation_confirms ++
    an_entry (event.Step (link T M Air) 1) answer.Ok (line.Note (note.Freed 1 Dl 1) ∷ [])
    ∷ []) ≡ told ∷ []
unfolding sn window modulus distance count_for data_pdu decoded read_data read_report keystream counter_block stream_blocks report_pdu
report_of_an_old_generation_confirms_is_wrong = refl

report_of_an_old_generation_confirms_is_right : breaks (a_header Nea0 0 (replicate 32 0)) (before_report_of_an_old_generation_confirms ++
    an_entry (event.Step (link T M Air) 1) answer.Ok []
    ∷ []) ≡ []
unfolding sn window modulus distance count_for data_pdu decoded read_data read_report keystream counter_block stream_blocks report_pdu
report_of_an_old_generation_confirms_is_right = refl

report_of_garbage_octets_is_wrong : breaks (a_header Nea0 0 (replicate 32 0)) (before_not_due_rootused ++
    an_entry (event.Report T 1) answer.Ok (line.Send (link T M Air) (flight.Air 1 1 0 None (127 ∷ [])) ∷ [])
    ∷ []) ≡ true_report ∷ []
unfolding sn window modulus distance count_for data_pdu decoded read_data read_report keystream counter_block stream_blocks report_pdu
report_of_garbage_octets_is_wrong = refl

report_of_garbage_octets_is_right : breaks (a_header Nea0 0 (replicate 32 0)) (before_not_due_rootused ++
    an_entry (event.Report T 1) answer.Ok (line.Send (link T M Air) (flight.Air 1 1 0 None (0 ∷ 0 ∷ 0 ∷ 0 ∷ 0 ∷ [])) ∷ [])
    ∷ []) ≡ []
unfolding sn window modulus distance count_for data_pdu decoded read_data read_report keystream counter_block stream_blocks report_pdu
report_of_garbage_octets_is_right = refl

report_on_a_leg_that_is_not_there_is_wrong : breaks (a_header Nea0 0 (replicate 32 0)) (before_not_due_rootused ++
    an_entry (event.Report T 1) answer.Ok (line.Send (link T A Air) (flight.Air 1 1 0 None (0 ∷ 0 ∷ 0 ∷ 0 ∷ 0 ∷ [])) ∷ [])
    ∷ []) ≡ licensed ∷ []
unfolding sn window modulus distance count_for data_pdu decoded read_data read_report keystream counter_block stream_blocks report_pdu
report_on_a_leg_that_is_not_there_is_wrong = refl

report_on_a_leg_that_is_not_there_is_right : breaks (a_header Nea0 0 (replicate 32 0)) (before_not_due_rootused ++
    an_entry (event.Report T 1) answer.Ok (line.Send (link T M Air) (flight.Air 1 1 0 None (0 ∷ 0 ∷ 0 ∷ 0 ∷ 0 ∷ [])) ∷ [])
    ∷ []) ≡ []
unfolding sn window modulus distance count_for data_pdu decoded read_data read_report keystream counter_block stream_blocks report_pdu
report_on_a_leg_that_is_not_there_is_right = refl

report_on_a_link_that_is_not_there_is_wrong : breaks (a_header Nea0 0 (replicate 32 0)) (before_not_due_rootused ++
    an_entry (event.Report M 1) answer.Ok (line.Send (link M M Air) (flight.Air 1 1 0 None (0 ∷ 0 ∷ 0 ∷ 0 ∷ 0 ∷ [])) ∷ [])
    ∷ []) ≡ on_link ∷ licensed ∷ []
unfolding sn window modulus distance count_for data_pdu decoded read_data read_report keystream counter_block stream_blocks report_pdu
report_on_a_link_that_is_not_there_is_wrong = refl

report_on_a_link_that_is_not_there_is_right : breaks (a_header Nea0 0 (replicate 32 0)) (before_not_due_rootused ++
    an_entry (event.Report M 1) answer.Ok (line.Send (link M T Air) (flight.Air 1 1 0 None (0 ∷ 0 ∷ 0 ∷ 0 ∷ 0 ∷ [])) ∷ [])
    ∷ []) ≡ []
unfolding sn window modulus distance count_for data_pdu decoded read_data read_report keystream counter_block stream_blocks report_pdu
report_on_a_link_that_is_not_there_is_right = refl

report_on_the_air_of_the_other_node_is_wrong : breaks (a_header Nea0 0 (replicate 32 0)) (before_pdu_of_the_anchor_sent_by_the_host ++
    an_entry (event.Report T 1) answer.Ok (line.Send (link T B Air) (flight.Air 1 2 0 None (0 ∷ 0 ∷ 0 ∷ 0 ∷ 0 ∷ [])) ∷ [])
    ∷ []) ≡ licensed ∷ []
unfolding sn window modulus distance count_for data_pdu decoded read_data read_report keystream counter_block stream_blocks report_pdu
report_on_the_air_of_the_other_node_is_wrong = refl

report_on_the_air_of_the_other_node_is_right : breaks (a_header Nea0 0 (replicate 32 0)) (before_pdu_of_the_anchor_sent_by_the_host ++
    an_entry (event.Report T 1) answer.Ok (line.Send (link T A Air) (flight.Air 1 2 0 None (0 ∷ 0 ∷ 0 ∷ 0 ∷ 0 ∷ [])) ∷ [])
    ∷ []) ≡ []
unfolding sn window modulus distance count_for data_pdu decoded read_data read_report keystream counter_block stream_blocks report_pdu
report_on_the_air_of_the_other_node_is_right = refl

report_pdu_without_a_report_event_is_wrong : breaks (a_header Nea0 0 (replicate 32 0)) (before_not_due_rootused ++
    an_entry (event.Submit 1 Dl (104 ∷ 105 ∷ [])) answer.Ok (line.Send (link M T Air) (flight.Air 1 1 0 (Some 0) (128 ∷ 0 ∷ 104 ∷ 105 ∷ [])) ∷ line.Send (link M T Air) (flight.Air 1 1 1 None (0 ∷ 0 ∷ 0 ∷ 0 ∷ 0 ∷ [])) ∷ [])
    ∷ []) ≡ licensed ∷ []
unfolding sn window modulus distance count_for data_pdu decoded read_data read_report keystream counter_block stream_blocks report_pdu
report_pdu_without_a_report_event_is_wrong = refl

report_pdu_without_a_report_event_is_right : breaks (a_header Nea0 0 (replicate 32 0)) (before_not_due_rootused ++
    an_entry (event.Submit 1 Dl (104 ∷ 105 ∷ [])) answer.Ok (line.Send (link M T Air) (flight.Air 1 1 0 (Some 0) (128 ∷ 0 ∷ 104 ∷ 105 ∷ [])) ∷ [])
    ∷ []) ≡ []
unfolding sn window modulus distance count_for data_pdu decoded read_data read_report keystream counter_block stream_blocks report_pdu
report_pdu_without_a_report_event_is_right = refl

report_that_names_what_did_not_come_is_wrong : breaks (a_header Nea0 0 (replicate 32 0)) (before_not_due_notfirst_on_air ++
    an_entry (event.Report T 1) answer.Ok (line.Send (link T M Air) (flight.Air 1 1 0 None (0 ∷ 255 ∷ 255 ∷ 255 ∷ 255 ∷ [])) ∷ [])
    ∷ an_entry (event.Step (link T M Air) 0) answer.Ok (line.Note (note.Freed 1 Dl 2) ∷ line.Send (link M T Air) (flight.Ack 1 1 0) ∷ [])
    ∷ []) ≡ windowed ∷ true_report ∷ []
unfolding sn window modulus distance count_for data_pdu decoded read_data read_report keystream counter_block stream_blocks report_pdu
report_that_names_what_did_not_come_is_wrong = refl

report_that_names_what_did_not_come_is_right : breaks (a_header Nea0 0 (replicate 32 0)) (before_not_due_notfirst_on_air ++
    an_entry (event.Report T 1) answer.Ok (line.Send (link T M Air) (flight.Air 1 1 0 None (0 ∷ 0 ∷ 0 ∷ 0 ∷ 0 ∷ [])) ∷ [])
    ∷ an_entry (event.Step (link T M Air) 0) answer.Ok (line.Send (link M T Air) (flight.Ack 1 1 0) ∷ [])
    ∷ []) ≡ []
unfolding sn window modulus distance count_for data_pdu decoded read_data read_report keystream counter_block stream_blocks report_pdu
report_that_names_what_did_not_come_is_right = refl

report_that_sends_nothing_is_wrong : breaks (a_header Nea0 0 (replicate 32 0)) (before_not_due_rootused ++
    an_entry (event.Report M 1) answer.Ok []
    ∷ []) ≡ come ∷ []
unfolding sn window modulus distance count_for data_pdu decoded read_data read_report keystream counter_block stream_blocks report_pdu
report_that_sends_nothing_is_wrong = refl

report_that_sends_nothing_is_right : breaks (a_header Nea0 0 (replicate 32 0)) (before_not_due_rootused ++
    an_entry (event.Report M 1) answer.Ok (line.Send (link M T Air) (flight.Air 1 1 0 None (0 ∷ 0 ∷ 0 ∷ 0 ∷ 0 ∷ [])) ∷ [])
    ∷ []) ≡ []
unfolding sn window modulus distance count_for data_pdu decoded read_data read_report keystream counter_block stream_blocks report_pdu
report_that_sends_nothing_is_right = refl

-- what comes before
abbrev before_report_under_generation_999 : List Entry
before_report_under_generation_999 =
    an_entry (event.Bearer 1 S12 0 (a_shape false Mcg false) 0 0) answer.Ok (line.Note (note.Own M 1 1) ∷ line.Send (link M T Ctl) (flight.Ctl (rec.Reconf (a_plan 1 None (Set 1 S12 0 (a_shape false Mcg false) 0 0 (a_key 0 Master) None ∷ [])) [])) ∷ [])
    ∷ an_entry (event.Step (link M T Ctl) 0) answer.Ok (line.Note (note.Set 1 1) ∷ line.Send (link T M Ctl) (flight.Ctl (rec.Rcomp 1)) ∷ [])
    ∷ an_entry (event.Step (link T M Ctl) 0) answer.Ok (line.Note note.Done ∷ [])
    ∷ an_entry (event.Submit 1 Ul (170 ∷ [])) answer.Ok (line.Send (link T M Air) (flight.Air 1 1 0 (Some 0) (128 ∷ 0 ∷ 170 ∷ [])) ∷ [])
    ∷ an_entry (event.Step (link T M Air) 0) answer.Ok (line.Note (note.Up M 1 Ul 0 (170 ∷ [])) ∷ line.Send (link M T Air) (flight.Ack 1 1 0) ∷ [])
    ∷ []

report_under_generation_999_is_wrong : breaks (a_header Nea0 0 (replicate 32 0)) (before_report_under_generation_999 ++
    an_entry (event.Report M 1) answer.Ok (line.Send (link M T Air) (flight.Air 1 999 0 None (0 ∷ 0 ∷ 0 ∷ 0 ∷ 1 ∷ [])) ∷ [])
    ∷ []) ≡ true_report ∷ licensed ∷ []
unfolding sn window modulus distance count_for data_pdu decoded read_data read_report keystream counter_block stream_blocks report_pdu
report_under_generation_999_is_wrong = refl

report_under_generation_999_is_right : breaks (a_header Nea0 0 (replicate 32 0)) (before_report_under_generation_999 ++
    an_entry (event.Report M 1) answer.Ok (line.Send (link M T Air) (flight.Air 1 1 0 None (0 ∷ 0 ∷ 0 ∷ 0 ∷ 1 ∷ [])) ∷ [])
    ∷ []) ≡ []
unfolding sn window modulus distance count_for data_pdu decoded read_data read_report keystream counter_block stream_blocks report_pdu
report_under_generation_999_is_right = refl

report_under_generation_999_confirms_is_wrong : breaks (a_header Nea0 0 (replicate 32 0)) (before_report_under_generation_999 ++
    an_entry (event.Report M 1) answer.Ok (line.Send (link M T Air) (flight.Air 1 999 0 None (0 ∷ 0 ∷ 0 ∷ 0 ∷ 1 ∷ [])) ∷ [])
    ∷ an_entry (event.Step (link M T Air) 1) answer.Ok (line.Note (note.Freed 1 Ul 1) ∷ line.Send (link T M Air) (flight.Ack 1 999 0) ∷ [])
    ∷ []) ≡ told ∷ true_report ∷ licensed ∷ []
unfolding sn window modulus distance count_for data_pdu decoded read_data read_report keystream counter_block stream_blocks report_pdu
report_under_generation_999_confirms_is_wrong = refl

report_under_generation_999_confirms_is_right : breaks (a_header Nea0 0 (replicate 32 0)) (before_report_under_generation_999 ++
    an_entry (event.Report M 1) answer.Ok (line.Send (link M T Air) (flight.Air 1 1 0 None (0 ∷ 0 ∷ 0 ∷ 0 ∷ 1 ∷ [])) ∷ [])
    ∷ an_entry (event.Step (link M T Air) 1) answer.Ok (line.Note (note.Freed 1 Ul 1) ∷ line.Send (link T M Air) (flight.Ack 1 1 0) ∷ [])
    ∷ []) ≡ []
unfolding sn window modulus distance count_for data_pdu decoded read_data read_report keystream counter_block stream_blocks report_pdu
report_under_generation_999_confirms_is_right = refl

report_with_a_bitmap_that_is_not_needed_is_wrong : breaks (a_header Nea0 0 (replicate 32 0)) (before_not_due_rootused ++
    an_entry (event.Report M 1) answer.Ok (line.Send (link M T Air) (flight.Air 1 1 0 None (0 ∷ 0 ∷ 0 ∷ 0 ∷ 0 ∷ 0 ∷ [])) ∷ [])
    ∷ []) ≡ true_report ∷ []
unfolding sn window modulus distance count_for data_pdu decoded read_data read_report keystream counter_block stream_blocks report_pdu
report_with_a_bitmap_that_is_not_needed_is_wrong = refl

report_with_a_bitmap_that_is_not_needed_is_right : breaks (a_header Nea0 0 (replicate 32 0)) (before_not_due_rootused ++
    an_entry (event.Report M 1) answer.Ok (line.Send (link M T Air) (flight.Air 1 1 0 None (0 ∷ 0 ∷ 0 ∷ 0 ∷ 0 ∷ [])) ∷ [])
    ∷ []) ≡ []
unfolding sn window modulus distance count_for data_pdu decoded read_data read_report keystream counter_block stream_blocks report_pdu
report_with_a_bitmap_that_is_not_needed_is_right = refl

resend_in_an_event_that_is_no_recovery_is_wrong : breaks (a_header Nea0 0 (replicate 32 0)) (before_num_0_for_every_pdu ++
    an_entry (event.Report M 1) answer.Ok (line.Send (link M T Air) (flight.Air 1 1 1 None (0 ∷ 0 ∷ 0 ∷ 0 ∷ 0 ∷ [])) ∷ line.Send (link M T Air) (flight.Air 1 1 2 (Some 0) (128 ∷ 0 ∷ 104 ∷ 105 ∷ [])) ∷ [])
    ∷ []) ≡ licensed ∷ []
unfolding sn window modulus distance count_for data_pdu decoded read_data read_report keystream counter_block stream_blocks report_pdu
resend_in_an_event_that_is_no_recovery_is_wrong = refl

resend_in_an_event_that_is_no_recovery_is_right : breaks (a_header Nea0 0 (replicate 32 0)) (before_num_0_for_every_pdu ++
    an_entry (event.Report M 1) answer.Ok (line.Send (link M T Air) (flight.Air 1 1 1 None (0 ∷ 0 ∷ 0 ∷ 0 ∷ 0 ∷ [])) ∷ [])
    ∷ []) ≡ []
unfolding sn window modulus distance count_for data_pdu decoded read_data read_report keystream counter_block stream_blocks report_pdu
resend_in_an_event_that_is_no_recovery_is_right = refl

-- what comes before
abbrev before_resend_of_a_number_that_is_not_listed : List Entry
before_resend_of_a_number_that_is_not_listed =
    an_entry (event.Add A) answer.Ok (line.Send (link M A Ctl) (flight.Ctl (rec.Addreq (a_plan 1 (Some A) []) [])) ∷ [])
    ∷ an_entry (event.Step (link M A Ctl) 0) answer.Ok (line.Note (note.Join A 1) ∷ line.Send (link A M Ctl) (flight.Ctl (rec.Addack 1)) ∷ [])
    ∷ an_entry (event.Step (link A M Ctl) 0) answer.Ok (line.Send (link M T Ctl) (flight.Ctl (rec.Reconf (a_plan 1 (Some A) []) [])) ∷ [])
    ∷ an_entry (event.Step (link M T Ctl) 0) answer.Ok (line.Send (link T M Ctl) (flight.Ctl (rec.Rcomp 1)) ∷ [])
    ∷ an_entry (event.Step (link T M Ctl) 0) answer.Ok (line.Send (link M A Ctl) (flight.Ctl (rec.Recfg 1)) ∷ line.Note note.Done ∷ [])
    ∷ an_entry (event.Step (link M A Ctl) 0) answer.Ok []
    ∷ an_entry (event.Bearer 1 S12 0 (a_shape false Scg false) 0 0) answer.Ok (line.Send (link M A Ctl) (flight.Ctl (rec.Modreq (a_plan 2 (Some A) (Set 1 S12 0 (a_shape false Scg false) 0 0 (a_key 0 Master) None ∷ [])) [])) ∷ [])
    ∷ an_entry (event.Step (link M A Ctl) 0) answer.Ok (line.Send (link A M Ctl) (flight.Ctl (rec.Modack 2)) ∷ [])
    ∷ an_entry (event.Step (link A M Ctl) 0) answer.Ok (line.Note (note.Own M 1 2) ∷ line.Send (link M T Ctl) (flight.Ctl (rec.Reconf (a_plan 2 (Some A) (Set 1 S12 0 (a_shape false Scg false) 0 0 (a_key 0 Master) None ∷ [])) [])) ∷ [])
    ∷ an_entry (event.Step (link M T Ctl) 0) answer.Ok (line.Note (note.Set 1 2) ∷ line.Send (link T M Ctl) (flight.Ctl (rec.Rcomp 2)) ∷ [])
    ∷ an_entry (event.Step (link T M Ctl) 0) answer.Ok (line.Send (link M A Ctl) (flight.Ctl (rec.Recfg 2)) ∷ line.Note note.Done ∷ [])
    ∷ an_entry (event.Submit 1 Dl (170 ∷ [])) answer.Ok (line.Send (link M A Tun) (flight.Tun (Some 0) (52 ∷ 255 ∷ 0 ∷ 15 ∷ 0 ∷ 0 ∷ 1 ∷ 0 ∷ 0 ∷ 0 ∷ 0 ∷ 132 ∷ 2 ∷ 1 ∷ 0 ∷ 0 ∷ 0 ∷ 0 ∷ 0 ∷ 0 ∷ 128 ∷ 0 ∷ 170 ∷ [])) ∷ [])
    ∷ an_entry (event.Submit 1 Dl (187 ∷ [])) answer.Ok (line.Send (link M A Tun) (flight.Tun (Some 1) (52 ∷ 255 ∷ 0 ∷ 15 ∷ 0 ∷ 0 ∷ 1 ∷ 0 ∷ 0 ∷ 0 ∷ 0 ∷ 132 ∷ 2 ∷ 1 ∷ 0 ∷ 0 ∷ 1 ∷ 0 ∷ 0 ∷ 0 ∷ 128 ∷ 1 ∷ 187 ∷ [])) ∷ [])
    ∷ an_entry (event.Step (link M A Tun) 0) answer.Ok (line.Send (link A T Air) (flight.Air 1 2 0 (Some 0) (128 ∷ 0 ∷ 170 ∷ [])) ∷ [])
    ∷ an_entry (event.Step (link A T Air) 0) answer.Ok (line.Note (note.Up T 1 Dl 0 (170 ∷ [])) ∷ line.Send (link T A Air) (flight.Ack 1 2 0) ∷ [])
    ∷ an_entry (event.Step (link T A Air) 0) answer.Ok (line.Send (link A M Tun) (flight.Tun (Some 0) (52 ∷ 255 ∷ 0 ∷ 12 ∷ 0 ∷ 0 ∷ 1 ∷ 0 ∷ 0 ∷ 0 ∷ 0 ∷ 132 ∷ 2 ∷ 17 ∷ 0 ∷ 0 ∷ 0 ∷ 0 ∷ 0 ∷ 0 ∷ [])) ∷ [])
    ∷ []

resend_of_a_number_that_is_not_listed_is_wrong : breaks (a_header Nea0 0 (replicate 32 0)) (before_resend_of_a_number_that_is_not_listed ++
    an_entry (event.Step (link A M Tun) 0) answer.Ok (line.Note (note.Freed 1 Dl 1) ∷ line.Send (link M A Tun) (flight.Tun (Some 1) (52 ∷ 255 ∷ 0 ∷ 15 ∷ 0 ∷ 0 ∷ 1 ∷ 0 ∷ 0 ∷ 0 ∷ 0 ∷ 132 ∷ 2 ∷ 3 ∷ 0 ∷ 0 ∷ 2 ∷ 0 ∷ 0 ∷ 0 ∷ 128 ∷ 1 ∷ 187 ∷ [])) ∷ [])
    ∷ []) ≡ licensed ∷ []
unfolding sn window modulus distance count_for data_pdu decoded read_data read_report keystream counter_block stream_blocks report_pdu
resend_of_a_number_that_is_not_listed_is_wrong = refl

resend_of_a_number_that_is_not_listed_is_right : breaks (a_header Nea0 0 (replicate 32 0)) (before_resend_of_a_number_that_is_not_listed ++
    an_entry (event.Step (link A M Tun) 0) answer.Ok (line.Note (note.Freed 1 Dl 1) ∷ [])
    ∷ []) ≡ []
unfolding sn window modulus distance count_for data_pdu decoded read_data read_report keystream counter_block stream_blocks report_pdu
resend_of_a_number_that_is_not_listed_is_right = refl

resend_on_a_control_link_is_wrong : breaks (a_header Nea0 0 (replicate 32 0)) (before_recover_that_sends_nothing_again ++
    an_entry (event.Recover 1) answer.Ok (line.Send (link M T Ctl) (flight.Ctl (rec.Recov 1)) ∷ line.Send (link M T Ctl) (flight.Air 1 1 1 (Some 0) (128 ∷ 0 ∷ 104 ∷ 105 ∷ [])) ∷ [])
    ∷ []) ≡ on_link ∷ numbered ∷ licensed ∷ ordered ∷ []
unfolding sn window modulus distance count_for data_pdu decoded read_data read_report keystream counter_block stream_blocks report_pdu
resend_on_a_control_link_is_wrong = refl

resend_on_a_control_link_is_right : breaks (a_header Nea0 0 (replicate 32 0)) (before_recover_that_sends_nothing_again ++
    an_entry (event.Recover 1) answer.Ok (line.Send (link M T Ctl) (flight.Ctl (rec.Recov 1)) ∷ line.Send (link M T Air) (flight.Air 1 1 1 (Some 0) (128 ∷ 0 ∷ 104 ∷ 105 ∷ [])) ∷ [])
    ∷ []) ≡ []
unfolding sn window modulus distance count_for data_pdu decoded read_data read_report keystream counter_block stream_blocks report_pdu
resend_on_a_control_link_is_right = refl

resend_on_a_tunnel_link_is_wrong : breaks (a_header Nea0 0 (replicate 32 0)) (before_recover_that_sends_nothing_again ++
    an_entry (event.Recover 1) answer.Ok (line.Send (link M T Ctl) (flight.Ctl (rec.Recov 1)) ∷ line.Send (link A B Tun) (flight.Air 1 1 1 (Some 0) (128 ∷ 0 ∷ 104 ∷ 105 ∷ [])) ∷ [])
    ∷ []) ≡ on_link ∷ protected ∷ numbered ∷ licensed ∷ come ∷ []
unfolding sn window modulus distance count_for data_pdu decoded read_data read_report keystream counter_block stream_blocks report_pdu
resend_on_a_tunnel_link_is_wrong = refl

resend_on_a_tunnel_link_is_right : breaks (a_header Nea0 0 (replicate 32 0)) (before_recover_that_sends_nothing_again ++
    an_entry (event.Recover 1) answer.Ok (line.Send (link M T Ctl) (flight.Ctl (rec.Recov 1)) ∷ line.Send (link M T Air) (flight.Air 1 1 1 (Some 0) (128 ∷ 0 ∷ 104 ∷ 105 ∷ [])) ∷ [])
    ∷ []) ≡ []
unfolding sn window modulus distance count_for data_pdu decoded read_data read_report keystream counter_block stream_blocks report_pdu
resend_on_a_tunnel_link_is_right = refl

accept_lost_forwarding_packet_and_an_open_command_is_right : breaks (a_header Nea0 0 (replicate 32 0)) (
    an_entry (event.Bearer 1 S12 0 (a_shape false Mcg false) 0 0) answer.Ok (line.Note (note.Own M 1 1) ∷ line.Send (link M T Ctl) (flight.Ctl (rec.Reconf (a_plan 1 None (Set 1 S12 0 (a_shape false Mcg false) 0 0 (a_key 0 Master) None ∷ [])) [])) ∷ [])
    ∷ an_entry (event.Step (link M T Ctl) 0) answer.Ok (line.Note (note.Set 1 1) ∷ line.Send (link T M Ctl) (flight.Ctl (rec.Rcomp 1)) ∷ [])
    ∷ an_entry (event.Step (link T M Ctl) 0) answer.Ok (line.Note note.Done ∷ [])
    ∷ an_entry (event.Add A) answer.Ok (line.Send (link M A Ctl) (flight.Ctl (rec.Addreq (a_plan 2 (Some A) []) [])) ∷ [])
    ∷ an_entry (event.Step (link M A Ctl) 0) answer.Ok (line.Note (note.Join A 2) ∷ line.Send (link A M Ctl) (flight.Ctl (rec.Addack 2)) ∷ [])
    ∷ an_entry (event.Step (link A M Ctl) 0) answer.Ok (line.Send (link M T Ctl) (flight.Ctl (rec.Reconf (a_plan 2 (Some A) []) [])) ∷ [])
    ∷ an_entry (event.Step (link M T Ctl) 0) answer.Ok (line.Send (link T M Ctl) (flight.Ctl (rec.Rcomp 2)) ∷ [])
    ∷ an_entry (event.Step (link T M Ctl) 0) answer.Ok (line.Send (link M A Ctl) (flight.Ctl (rec.Recfg 2)) ∷ line.Note note.Done ∷ [])
    ∷ an_entry (event.Reshape 1 (a_shape true Scg false)) answer.Ok (line.Send (link M A Ctl) (flight.Ctl (rec.Modreq (a_plan 3 (Some A) (Set 1 S12 0 (a_shape true Scg false) 0 0 (a_key 0 (SecondKey 0)) (Some M) ∷ [])) [])) ∷ [])
    ∷ an_entry (event.Step (link M A Ctl) 0) answer.Ok []
    ∷ an_entry (event.Step (link M A Ctl) 0) answer.Ok (line.Send (link A M Ctl) (flight.Ctl (rec.Modack 3)) ∷ [])
    ∷ an_entry (event.Step (link A M Ctl) 0) answer.Ok (line.Note (note.Give M 1 3) ∷ line.Send (link M T Ctl) (flight.Ctl (rec.Reconf (a_plan 3 (Some A) (Set 1 S12 0 (a_shape true Scg false) 0 0 (a_key 0 (SecondKey 0)) (Some M) ∷ [])) [])) ∷ line.Send (link M A Ctl) (flight.Ctl (rec.Snst (a_transfer 3 1 0 [] 0))) ∷ line.Send (link M A Tun) (flight.Tun None (52 ∷ 255 ∷ 0 ∷ 12 ∷ 0 ∷ 0 ∷ 1 ∷ 129 ∷ 0 ∷ 0 ∷ 0 ∷ 132 ∷ 2 ∷ 0 ∷ 0 ∷ 0 ∷ 0 ∷ 0 ∷ 0 ∷ 0 ∷ [])) ∷ line.Send (link M A Tun) (flight.Tun None (48 ∷ 254 ∷ 0 ∷ 0 ∷ 0 ∷ 0 ∷ 1 ∷ 129 ∷ [])) ∷ line.Send (link M A Tun) (flight.Tun None (52 ∷ 255 ∷ 0 ∷ 12 ∷ 0 ∷ 0 ∷ 1 ∷ 130 ∷ 0 ∷ 0 ∷ 0 ∷ 132 ∷ 2 ∷ 0 ∷ 0 ∷ 0 ∷ 0 ∷ 0 ∷ 0 ∷ 0 ∷ [])) ∷ line.Send (link M A Tun) (flight.Tun None (48 ∷ 254 ∷ 0 ∷ 0 ∷ 0 ∷ 0 ∷ 1 ∷ 130 ∷ [])) ∷ [])
    ∷ an_entry (event.Lose (link M A Tun) 0) answer.Ok []
    ∷ an_entry (event.Step (link M T Ctl) 0) answer.Ok (line.Note (note.Set 1 3) ∷ line.Send (link T M Ctl) (flight.Ctl (rec.Rcomp 3)) ∷ [])
    ∷ an_entry (event.Step (link T M Ctl) 0) answer.Ok (line.Send (link M A Ctl) (flight.Ctl (rec.Recfg 3)) ∷ [])
    ∷ an_entry (event.Step (link M A Ctl) 0) answer.Ok []
    ∷ an_entry (event.Step (link M A Ctl) 0) answer.Ok []
    ∷ an_entry (event.Step (link M A Tun) 0) answer.Ok []
    ∷ an_entry (event.Step (link M A Tun) 0) answer.Ok []
    ∷ an_entry (event.Step (link M A Tun) 0) answer.Ok []
    ∷ []) ≡ []
unfolding sn window modulus distance count_for data_pdu decoded read_data read_report keystream counter_block stream_blocks report_pdu
accept_lost_forwarding_packet_and_an_open_command_is_right = refl

accept_payload_that_stays_since_the_only_leg_failed_is_right : breaks (a_header Nea0 0 (replicate 32 0)) (
    an_entry (event.Add A) answer.Ok (line.Send (link M A Ctl) (flight.Ctl (rec.Addreq (a_plan 1 (Some A) []) [])) ∷ [])
    ∷ an_entry (event.Step (link M A Ctl) 0) answer.Ok (line.Note (note.Join A 1) ∷ line.Send (link A M Ctl) (flight.Ctl (rec.Addack 1)) ∷ [])
    ∷ an_entry (event.Step (link A M Ctl) 0) answer.Ok (line.Send (link M T Ctl) (flight.Ctl (rec.Reconf (a_plan 1 (Some A) []) [])) ∷ [])
    ∷ an_entry (event.Step (link M T Ctl) 0) answer.Ok (line.Send (link T M Ctl) (flight.Ctl (rec.Rcomp 1)) ∷ [])
    ∷ an_entry (event.Step (link T M Ctl) 0) answer.Ok (line.Send (link M A Ctl) (flight.Ctl (rec.Recfg 1)) ∷ line.Note note.Done ∷ [])
    ∷ an_entry (event.Step (link M A Ctl) 0) answer.Ok []
    ∷ an_entry (event.Bearer 1 S12 0 (a_shape false Scg false) 0 0) answer.Ok (line.Send (link M A Ctl) (flight.Ctl (rec.Modreq (a_plan 2 (Some A) (Set 1 S12 0 (a_shape false Scg false) 0 0 (a_key 0 Master) None ∷ [])) [])) ∷ [])
    ∷ an_entry (event.Step (link M A Ctl) 0) answer.Ok (line.Send (link A M Ctl) (flight.Ctl (rec.Modack 2)) ∷ [])
    ∷ an_entry (event.Step (link A M Ctl) 0) answer.Ok (line.Note (note.Own M 1 2) ∷ line.Send (link M T Ctl) (flight.Ctl (rec.Reconf (a_plan 2 (Some A) (Set 1 S12 0 (a_shape false Scg false) 0 0 (a_key 0 Master) None ∷ [])) [])) ∷ [])
    ∷ an_entry (event.Step (link M T Ctl) 0) answer.Ok (line.Note (note.Set 1 2) ∷ line.Send (link T M Ctl) (flight.Ctl (rec.Rcomp 2)) ∷ [])
    ∷ an_entry (event.Step (link T M Ctl) 0) answer.Ok (line.Send (link M A Ctl) (flight.Ctl (rec.Recfg 2)) ∷ line.Note note.Done ∷ [])
    ∷ an_entry (event.Step (link M A Ctl) 0) answer.Ok []
    ∷ an_entry (event.Submit 1 Dl (170 ∷ [])) answer.Ok (line.Send (link M A Tun) (flight.Tun (Some 0) (52 ∷ 255 ∷ 0 ∷ 15 ∷ 0 ∷ 0 ∷ 1 ∷ 0 ∷ 0 ∷ 0 ∷ 0 ∷ 132 ∷ 2 ∷ 1 ∷ 0 ∷ 0 ∷ 0 ∷ 0 ∷ 0 ∷ 0 ∷ 128 ∷ 0 ∷ 170 ∷ [])) ∷ [])
    ∷ an_entry (event.ScgFail) answer.Ok (line.Send (link T M Ctl) (flight.Ctl (rec.Scgf ((1, 2) ∷ []))) ∷ [])
    ∷ an_entry (event.Step (link T M Ctl) 0) answer.Ok []
    ∷ an_entry (event.Step (link M A Tun) 0) answer.Ok (line.Send (link A T Air) (flight.Air 1 2 0 (Some 0) (128 ∷ 0 ∷ 170 ∷ [])) ∷ [])
    ∷ an_entry (event.Step (link A T Air) 0) answer.Ok []
    ∷ an_entry (event.Recover 1) answer.Ok (line.Send (link M T Ctl) (flight.Ctl (rec.Recov 1)) ∷ [])
    ∷ an_entry (event.Step (link M T Ctl) 0) answer.Ok (line.Send (link T M Ctl) (flight.Ctl (rec.Recovd 1)) ∷ [])
    ∷ an_entry (event.Step (link T M Ctl) 0) answer.Ok (line.Note note.Done ∷ [])
    ∷ []) ≡ []
unfolding sn window modulus distance count_for data_pdu decoded read_data read_report keystream counter_block stream_blocks report_pdu
accept_payload_that_stays_since_the_only_leg_failed_is_right = refl

accept_pdu_of_a_generation_before_a_begin_in_the_same_event_is_right : breaks (a_header Nea0 0 (replicate 32 0)) (
    an_entry (event.Add A) answer.Ok (line.Send (link M A Ctl) (flight.Ctl (rec.Addreq (a_plan 1 (Some A) []) [])) ∷ [])
    ∷ an_entry (event.Step (link M A Ctl) 0) answer.Ok (line.Note (note.Join A 1) ∷ line.Send (link A M Ctl) (flight.Ctl (rec.Addack 1)) ∷ [])
    ∷ an_entry (event.Step (link A M Ctl) 0) answer.Ok (line.Send (link M T Ctl) (flight.Ctl (rec.Reconf (a_plan 1 (Some A) []) [])) ∷ [])
    ∷ an_entry (event.Step (link M T Ctl) 0) answer.Ok (line.Send (link T M Ctl) (flight.Ctl (rec.Rcomp 1)) ∷ [])
    ∷ an_entry (event.Step (link T M Ctl) 0) answer.Ok (line.Send (link M A Ctl) (flight.Ctl (rec.Recfg 1)) ∷ line.Note note.Done ∷ [])
    ∷ an_entry (event.Step (link M A Ctl) 0) answer.Ok []
    ∷ an_entry (event.Bearer 1 S12 0 (a_shape true Scg false) 0 0) answer.Ok (line.Send (link M A Ctl) (flight.Ctl (rec.Modreq (a_plan 2 (Some A) (Set 1 S12 0 (a_shape true Scg false) 0 0 (a_key 0 (SecondKey 0)) None ∷ [])) [])) ∷ [])
    ∷ an_entry (event.Step (link M A Ctl) 0) answer.Ok (line.Note (note.Own A 1 2) ∷ line.Send (link A M Ctl) (flight.Ctl (rec.Modack 2)) ∷ [])
    ∷ an_entry (event.Step (link A M Ctl) 0) answer.Ok (line.Send (link M T Ctl) (flight.Ctl (rec.Reconf (a_plan 2 (Some A) (Set 1 S12 0 (a_shape true Scg false) 0 0 (a_key 0 (SecondKey 0)) None ∷ [])) [])) ∷ [])
    ∷ an_entry (event.Step (link M T Ctl) 0) answer.Ok (line.Note (note.Set 1 2) ∷ line.Send (link T M Ctl) (flight.Ctl (rec.Rcomp 2)) ∷ [])
    ∷ an_entry (event.Step (link T M Ctl) 0) answer.Ok (line.Send (link M A Ctl) (flight.Ctl (rec.Recfg 2)) ∷ line.Note note.Done ∷ [])
    ∷ an_entry (event.Step (link M A Ctl) 0) answer.Ok []
    ∷ an_entry (event.Submit 1 Dl (170 ∷ [])) answer.Ok (line.Send (link M A Feed) (flight.Sdu 1 2 (170 ∷ [])) ∷ [])
    ∷ an_entry (event.Step (link M A Feed) 0) answer.Ok (line.Send (link A T Air) (flight.Air 1 2 0 (Some 0) (128 ∷ 0 ∷ 170 ∷ [])) ∷ [])
    ∷ an_entry (event.Reshape 1 (a_shape false (Split cell.Mcg) false)) answer.Ok (line.Send (link M A Ctl) (flight.Ctl (rec.Modreq (a_plan 3 (Some A) (Set 1 S12 0 (a_shape false (Split cell.Mcg) false) 0 0 (a_key 0 Master) (Some A) ∷ [])) [])) ∷ [])
    ∷ an_entry (event.Step (link M A Ctl) 0) answer.Ok (line.Note (note.Give A 1 3) ∷ line.Send (link A M Ctl) (flight.Ctl (rec.Modack 3)) ∷ line.Send (link A M Ctl) (flight.Ctl (rec.Snst (a_transfer 3 1 0 [] 1))) ∷ line.Send (link A M Tun) (flight.Tun None (52 ∷ 255 ∷ 0 ∷ 17 ∷ 0 ∷ 0 ∷ 1 ∷ 129 ∷ 0 ∷ 0 ∷ 0 ∷ 132 ∷ 2 ∷ 1 ∷ 0 ∷ 0 ∷ 0 ∷ 0 ∷ 0 ∷ 192 ∷ 1 ∷ 0 ∷ 0 ∷ 0 ∷ 170 ∷ [])) ∷ line.Send (link A M Tun) (flight.Tun None (52 ∷ 255 ∷ 0 ∷ 12 ∷ 0 ∷ 0 ∷ 1 ∷ 130 ∷ 0 ∷ 0 ∷ 0 ∷ 132 ∷ 2 ∷ 0 ∷ 0 ∷ 0 ∷ 0 ∷ 0 ∷ 0 ∷ 0 ∷ [])) ∷ line.Send (link A M Tun) (flight.Tun None (48 ∷ 254 ∷ 0 ∷ 0 ∷ 0 ∷ 0 ∷ 1 ∷ 130 ∷ [])) ∷ [])
    ∷ an_entry (event.Step (link A M Ctl) 0) answer.Ok (line.Send (link M T Ctl) (flight.Ctl (rec.Reconf (a_plan 3 (Some A) (Set 1 S12 0 (a_shape false (Split cell.Mcg) false) 0 0 (a_key 0 Master) (Some A) ∷ [])) [])) ∷ line.Send (link M A Feed) (flight.End 1 3) ∷ [])
    ∷ an_entry (event.Step (link M T Ctl) 0) answer.Ok (line.Note (note.Set 1 3) ∷ line.Send (link T M Ctl) (flight.Ctl (rec.Rcomp 3)) ∷ [])
    ∷ an_entry (event.Step (link T M Ctl) 0) answer.Ok (line.Send (link M A Ctl) (flight.Ctl (rec.Recfg 3)) ∷ [])
    ∷ an_entry (event.Ask A want.Release) answer.Ok (line.Send (link A M Ctl) (flight.Ctl (rec.Relrqd)) ∷ [])
    ∷ an_entry (event.Step (link A M Ctl) 0) answer.Ok []
    ∷ an_entry (event.Step (link A M Ctl) 0) answer.Ok []
    ∷ an_entry (event.Step (link M A Feed) 0) answer.Ok (line.Send (link A M Tun) (flight.Tun None (52 ∷ 255 ∷ 0 ∷ 12 ∷ 0 ∷ 0 ∷ 1 ∷ 129 ∷ 0 ∷ 0 ∷ 0 ∷ 132 ∷ 2 ∷ 0 ∷ 0 ∷ 0 ∷ 1 ∷ 0 ∷ 0 ∷ 0 ∷ [])) ∷ line.Send (link A M Tun) (flight.Tun None (48 ∷ 254 ∷ 0 ∷ 0 ∷ 0 ∷ 0 ∷ 1 ∷ 129 ∷ [])) ∷ [])
    ∷ an_entry (event.Step (link A M Tun) 0) answer.Ok []
    ∷ an_entry (event.Step (link A M Tun) 0) answer.Ok []
    ∷ an_entry (event.Step (link A M Tun) 0) answer.Ok []
    ∷ an_entry (event.Step (link A M Tun) 0) answer.Ok (line.Note (note.Own M 1 3) ∷ line.Send (link M T Air) (flight.Air 1 3 0 (Some 0) (128 ∷ 0 ∷ 170 ∷ [])) ∷ line.Note note.Done ∷ line.Note (note.Begin want.Release) ∷ line.Note (note.Own M 1 4) ∷ line.Send (link M T Ctl) (flight.Ctl (rec.Reconf (a_plan 4 None (Set 1 S12 0 (a_shape false Mcg false) 0 0 (a_key 0 Master) (Some M) ∷ [])) [])) ∷ line.Send (link M A Ctl) (flight.Ctl (rec.Relcnf (a_plan 4 None (Set 1 S12 0 (a_shape false Mcg false) 0 0 (a_key 0 Master) (Some M) ∷ [])))) ∷ [])
    ∷ an_entry (event.Step (link A M Tun) 0) answer.Ok []
    ∷ []) ≡ []
unfolding sn window modulus distance count_for data_pdu decoded read_data read_report keystream counter_block stream_blocks report_pdu
accept_pdu_of_a_generation_before_a_begin_in_the_same_event_is_right = refl

accept_second_generation_while_a_rejected_one_failed_nothing_is_right : breaks (a_header Nea0 0 (replicate 32 0)) (
    an_entry (event.Add A) answer.Ok (line.Send (link M A Ctl) (flight.Ctl (rec.Addreq (a_plan 1 (Some A) []) [])) ∷ [])
    ∷ an_entry (event.Step (link M A Ctl) 0) answer.Ok (line.Note (note.Join A 1) ∷ line.Send (link A M Ctl) (flight.Ctl (rec.Addack 1)) ∷ [])
    ∷ an_entry (event.Step (link A M Ctl) 0) answer.Ok (line.Send (link M T Ctl) (flight.Ctl (rec.Reconf (a_plan 1 (Some A) []) [])) ∷ [])
    ∷ an_entry (event.Step (link M T Ctl) 0) answer.Ok (line.Send (link T M Ctl) (flight.Ctl (rec.Rcomp 1)) ∷ [])
    ∷ an_entry (event.Step (link T M Ctl) 0) answer.Ok (line.Send (link M A Ctl) (flight.Ctl (rec.Recfg 1)) ∷ line.Note note.Done ∷ [])
    ∷ an_entry (event.Step (link M A Ctl) 0) answer.Ok []
    ∷ an_entry (event.Deny A true) answer.Ok []
    ∷ an_entry (event.Bearer 1 S12 0 (a_shape false Scg false) 0 0) answer.Ok (line.Send (link M A Ctl) (flight.Ctl (rec.Modreq (a_plan 2 (Some A) (Set 1 S12 0 (a_shape false Scg false) 0 0 (a_key 0 Master) None ∷ [])) [])) ∷ [])
    ∷ an_entry (event.Step (link M A Ctl) 0) answer.Ok (line.Send (link A M Ctl) (flight.Ctl (rec.Modrej 2)) ∷ [])
    ∷ an_entry (event.Step (link A M Ctl) 0) answer.Ok (line.Note note.Rejected ∷ [])
    ∷ an_entry (event.Deny A false) answer.Ok []
    ∷ an_entry (event.Bearer 1 S12 0 (a_shape false Scg false) 0 0) answer.Ok (line.Send (link M A Ctl) (flight.Ctl (rec.Modreq (a_plan 3 (Some A) (Set 1 S12 0 (a_shape false Scg false) 0 0 (a_key 0 Master) None ∷ [])) [])) ∷ [])
    ∷ an_entry (event.Step (link M A Ctl) 0) answer.Ok (line.Send (link A M Ctl) (flight.Ctl (rec.Modack 3)) ∷ [])
    ∷ an_entry (event.Step (link A M Ctl) 0) answer.Ok (line.Note (note.Own M 1 3) ∷ line.Send (link M T Ctl) (flight.Ctl (rec.Reconf (a_plan 3 (Some A) (Set 1 S12 0 (a_shape false Scg false) 0 0 (a_key 0 Master) None ∷ [])) [])) ∷ [])
    ∷ an_entry (event.Step (link M T Ctl) 0) answer.Ok (line.Note (note.Set 1 3) ∷ line.Send (link T M Ctl) (flight.Ctl (rec.Rcomp 3)) ∷ [])
    ∷ an_entry (event.Step (link T M Ctl) 0) answer.Ok (line.Send (link M A Ctl) (flight.Ctl (rec.Recfg 3)) ∷ line.Note note.Done ∷ [])
    ∷ []) ≡ []
unfolding sn window modulus distance count_for data_pdu decoded read_data read_report keystream counter_block stream_blocks report_pdu
accept_second_generation_while_a_rejected_one_failed_nothing_is_right = refl

accept_uplink_up_of_a_pdu_that_an_earlier_anchor_took_is_right : breaks (a_header Nea0 0 (replicate 32 0)) (
    an_entry (event.Bearer 1 S12 0 (a_shape false Mcg false) 0 0) answer.Ok (line.Note (note.Own M 1 1) ∷ line.Send (link M T Ctl) (flight.Ctl (rec.Reconf (a_plan 1 None (Set 1 S12 0 (a_shape false Mcg false) 0 0 (a_key 0 Master) None ∷ [])) [])) ∷ [])
    ∷ an_entry (event.Step (link M T Ctl) 0) answer.Ok (line.Note (note.Set 1 1) ∷ line.Send (link T M Ctl) (flight.Ctl (rec.Rcomp 1)) ∷ [])
    ∷ an_entry (event.Step (link T M Ctl) 0) answer.Ok (line.Note note.Done ∷ [])
    ∷ an_entry (event.Submit 1 Ul (204 ∷ [])) answer.Ok (line.Send (link T M Air) (flight.Air 1 1 0 (Some 0) (128 ∷ 0 ∷ 204 ∷ [])) ∷ [])
    ∷ an_entry (event.Submit 1 Ul (221 ∷ [])) answer.Ok (line.Send (link T M Air) (flight.Air 1 1 1 (Some 1) (128 ∷ 1 ∷ 221 ∷ [])) ∷ [])
    ∷ an_entry (event.Step (link T M Air) 1) answer.Ok (line.Send (link M T Air) (flight.Ack 1 1 1) ∷ [])
    ∷ an_entry (event.Add A) answer.Ok (line.Send (link M A Ctl) (flight.Ctl (rec.Addreq (a_plan 2 (Some A) []) [])) ∷ [])
    ∷ an_entry (event.Step (link M A Ctl) 0) answer.Ok (line.Note (note.Join A 2) ∷ line.Send (link A M Ctl) (flight.Ctl (rec.Addack 2)) ∷ [])
    ∷ an_entry (event.Step (link A M Ctl) 0) answer.Ok (line.Send (link M T Ctl) (flight.Ctl (rec.Reconf (a_plan 2 (Some A) []) [])) ∷ [])
    ∷ an_entry (event.Step (link M T Ctl) 0) answer.Ok (line.Send (link T M Ctl) (flight.Ctl (rec.Rcomp 2)) ∷ [])
    ∷ an_entry (event.Step (link T M Ctl) 0) answer.Ok (line.Send (link M A Ctl) (flight.Ctl (rec.Recfg 2)) ∷ line.Note note.Done ∷ [])
    ∷ an_entry (event.Reshape 1 (a_shape true Scg false)) answer.Ok (line.Send (link M A Ctl) (flight.Ctl (rec.Modreq (a_plan 3 (Some A) (Set 1 S12 0 (a_shape true Scg false) 0 0 (a_key 0 (SecondKey 0)) (Some M) ∷ [])) [])) ∷ [])
    ∷ an_entry (event.Step (link M A Ctl) 0) answer.Ok []
    ∷ an_entry (event.Step (link M A Ctl) 0) answer.Ok (line.Send (link A M Ctl) (flight.Ctl (rec.Modack 3)) ∷ [])
    ∷ an_entry (event.Step (link A M Ctl) 0) answer.Ok (line.Note (note.Give M 1 3) ∷ line.Send (link M T Ctl) (flight.Ctl (rec.Reconf (a_plan 3 (Some A) (Set 1 S12 0 (a_shape true Scg false) 0 0 (a_key 0 (SecondKey 0)) (Some M) ∷ [])) [])) ∷ line.Send (link M A Ctl) (flight.Ctl (rec.Snst (a_transfer 3 1 0 (128 ∷ []) 0))) ∷ line.Send (link M A Tun) (flight.Tun None (52 ∷ 255 ∷ 0 ∷ 12 ∷ 0 ∷ 0 ∷ 1 ∷ 129 ∷ 0 ∷ 0 ∷ 0 ∷ 132 ∷ 2 ∷ 0 ∷ 0 ∷ 0 ∷ 0 ∷ 0 ∷ 0 ∷ 0 ∷ [])) ∷ line.Send (link M A Tun) (flight.Tun None (48 ∷ 254 ∷ 0 ∷ 0 ∷ 0 ∷ 0 ∷ 1 ∷ 129 ∷ [])) ∷ line.Send (link M A Tun) (flight.Tun None (52 ∷ 255 ∷ 0 ∷ 17 ∷ 0 ∷ 0 ∷ 1 ∷ 130 ∷ 0 ∷ 0 ∷ 0 ∷ 132 ∷ 2 ∷ 1 ∷ 0 ∷ 0 ∷ 0 ∷ 0 ∷ 0 ∷ 192 ∷ 1 ∷ 0 ∷ 1 ∷ 0 ∷ 221 ∷ [])) ∷ line.Send (link M A Tun) (flight.Tun None (52 ∷ 255 ∷ 0 ∷ 12 ∷ 0 ∷ 0 ∷ 1 ∷ 130 ∷ 0 ∷ 0 ∷ 0 ∷ 132 ∷ 2 ∷ 0 ∷ 0 ∷ 0 ∷ 1 ∷ 0 ∷ 0 ∷ 0 ∷ [])) ∷ line.Send (link M A Tun) (flight.Tun None (48 ∷ 254 ∷ 0 ∷ 0 ∷ 0 ∷ 0 ∷ 1 ∷ 130 ∷ [])) ∷ [])
    ∷ an_entry (event.Step (link M T Ctl) 0) answer.Ok (line.Note (note.Set 1 3) ∷ line.Send (link T M Ctl) (flight.Ctl (rec.Rcomp 3)) ∷ line.Send (link T A Air) (flight.Air 1 3 0 (Some 0) (128 ∷ 0 ∷ 204 ∷ [])) ∷ line.Send (link T A Air) (flight.Air 1 3 1 (Some 1) (128 ∷ 1 ∷ 221 ∷ [])) ∷ [])
    ∷ an_entry (event.Step (link T M Ctl) 0) answer.Ok (line.Send (link M A Ctl) (flight.Ctl (rec.Recfg 3)) ∷ [])
    ∷ an_entry (event.Step (link M A Ctl) 0) answer.Ok []
    ∷ an_entry (event.Step (link M A Ctl) 0) answer.Ok []
    ∷ an_entry (event.Step (link M A Tun) 0) answer.Ok []
    ∷ an_entry (event.Step (link M A Tun) 1) answer.Ok []
    ∷ an_entry (event.Step (link M A Tun) 1) answer.Ok (line.Note (note.Own A 1 3) ∷ line.Send (link A M Ctl) (flight.Ctl (rec.Moved 3 1)) ∷ [])
    ∷ an_entry (event.Step (link T A Air) 0) answer.Ok (line.Note (note.Up A 1 Ul 0 (204 ∷ [])) ∷ line.Note (note.Up A 1 Ul 1 (221 ∷ [])) ∷ line.Send (link A T Air) (flight.Ack 1 3 0) ∷ [])
    ∷ []) ≡ []
unfolding sn window modulus distance count_for data_pdu decoded read_data read_report keystream counter_block stream_blocks report_pdu
accept_uplink_up_of_a_pdu_that_an_earlier_anchor_took_is_right = refl

accept_want_release_that_waits_for_a_spent_identity_is_right : breaks (a_header Nea0 0 (replicate 32 0)) (
    an_entry (event.Bearer 1 S12 0 (a_shape false Mcg false) 0 0) answer.Ok (line.Note (note.Own M 1 1) ∷ line.Send (link M T Ctl) (flight.Ctl (rec.Reconf (a_plan 1 None (Set 1 S12 0 (a_shape false Mcg false) 0 0 (a_key 0 Master) None ∷ [])) [])) ∷ [])
    ∷ an_entry (event.Step (link M T Ctl) 0) answer.Ok (line.Note (note.Set 1 1) ∷ line.Send (link T M Ctl) (flight.Ctl (rec.Rcomp 1)) ∷ [])
    ∷ an_entry (event.Step (link T M Ctl) 0) answer.Ok (line.Note note.Done ∷ [])
    ∷ an_entry (event.Remove 1) answer.Ok (line.Send (link M T Ctl) (flight.Ctl (rec.Reconf (a_plan 2 None (Unset 1 ∷ [])) [])) ∷ [])
    ∷ an_entry (event.Step (link M T Ctl) 0) answer.Ok (line.Note (note.Unset 1) ∷ line.Send (link T M Ctl) (flight.Ctl (rec.Rcomp 2)) ∷ [])
    ∷ an_entry (event.Step (link T M Ctl) 0) answer.Ok (line.Note note.Done ∷ [])
    ∷ an_entry (event.Add A) answer.Ok (line.Send (link M A Ctl) (flight.Ctl (rec.Addreq (a_plan 3 (Some A) []) [])) ∷ [])
    ∷ an_entry (event.Step (link M A Ctl) 0) answer.Ok (line.Note (note.Join A 3) ∷ line.Send (link A M Ctl) (flight.Ctl (rec.Addack 3)) ∷ [])
    ∷ an_entry (event.Step (link A M Ctl) 0) answer.Ok (line.Send (link M T Ctl) (flight.Ctl (rec.Reconf (a_plan 3 (Some A) []) [])) ∷ [])
    ∷ an_entry (event.Step (link M T Ctl) 0) answer.Ok (line.Send (link T M Ctl) (flight.Ctl (rec.Rcomp 3)) ∷ [])
    ∷ an_entry (event.Step (link T M Ctl) 0) answer.Ok (line.Send (link M A Ctl) (flight.Ctl (rec.Recfg 3)) ∷ line.Note note.Done ∷ [])
    ∷ an_entry (event.Step (link M A Ctl) 0) answer.Ok []
    ∷ an_entry (event.Bearer 1 S12 0 (a_shape true Scg false) 0 0) answer.Ok (line.Send (link M A Ctl) (flight.Ctl (rec.Modreq (a_plan 4 (Some A) (Set 1 S12 0 (a_shape true Scg false) 0 0 (a_key 0 (SecondKey 0)) None ∷ [])) [])) ∷ [])
    ∷ an_entry (event.Step (link M A Ctl) 0) answer.Ok (line.Note (note.Own A 1 4) ∷ line.Send (link A M Ctl) (flight.Ctl (rec.Modack 4)) ∷ [])
    ∷ an_entry (event.Step (link A M Ctl) 0) answer.Ok (line.Send (link M T Ctl) (flight.Ctl (rec.Reconf (a_plan 4 (Some A) (Set 1 S12 0 (a_shape true Scg false) 0 0 (a_key 0 (SecondKey 0)) None ∷ [])) [])) ∷ [])
    ∷ an_entry (event.Step (link M T Ctl) 0) answer.Ok (line.Note (note.Set 1 4) ∷ line.Send (link T M Ctl) (flight.Ctl (rec.Rcomp 4)) ∷ [])
    ∷ an_entry (event.Step (link T M Ctl) 0) answer.Ok (line.Send (link M A Ctl) (flight.Ctl (rec.Recfg 4)) ∷ line.Note note.Done ∷ [])
    ∷ an_entry (event.Step (link M A Ctl) 0) answer.Ok []
    ∷ an_entry (event.Ask A want.Release) answer.Ok (line.Send (link A M Ctl) (flight.Ctl (rec.Relrqd)) ∷ [])
    ∷ an_entry (event.Step (link A M Ctl) 0) answer.Ok []
    ∷ []) ≡ []
unfolding sn window modulus distance count_for data_pdu decoded read_data read_report keystream counter_block stream_blocks report_pdu
accept_want_release_that_waits_for_a_spent_identity_is_right = refl

accepted_change_without_reconf_is_right : breaks (a_header Nea0 0 (replicate 32 0)) (
    an_entry (event.Add A) answer.Ok (line.Send (link M A Ctl) (flight.Ctl (rec.Addreq (a_plan 1 (Some A) []) [])) ∷ [])
    ∷ an_entry (event.Step (link M A Ctl) 0) answer.Ok (line.Note (note.Join A 1) ∷ line.Send (link A M Ctl) (flight.Ctl (rec.Addack 1)) ∷ [])
    ∷ an_entry (event.Step (link A M Ctl) 0) answer.Ok (line.Send (link M T Ctl) (flight.Ctl (rec.Reconf (a_plan 1 (Some A) []) [])) ∷ [])
    ∷ an_entry (event.Step (link M T Ctl) 0) answer.Ok (line.Send (link T M Ctl) (flight.Ctl (rec.Rcomp 1)) ∷ [])
    ∷ an_entry (event.Step (link T M Ctl) 0) answer.Ok (line.Send (link M A Ctl) (flight.Ctl (rec.Recfg 1)) ∷ line.Note note.Done ∷ [])
    ∷ an_entry (event.Step (link M A Ctl) 0) answer.Ok []
    ∷ an_entry (event.Bearer 1 S12 0 (a_shape true Scg false) 0 0) answer.Ok (line.Send (link M A Ctl) (flight.Ctl (rec.Modreq (a_plan 2 (Some A) (Set 1 S12 0 (a_shape true Scg false) 0 0 (a_key 0 (SecondKey 0)) None ∷ [])) [])) ∷ [])
    ∷ an_entry (event.Step (link M A Ctl) 0) answer.Ok (line.Note (note.Own A 1 2) ∷ line.Send (link A M Ctl) (flight.Ctl (rec.Modack 2)) ∷ [])
    ∷ an_entry (event.Step (link A M Ctl) 0) answer.Ok (line.Send (link M T Ctl) (flight.Ctl (rec.Reconf (a_plan 2 (Some A) (Set 1 S12 0 (a_shape true Scg false) 0 0 (a_key 0 (SecondKey 0)) None ∷ [])) [])) ∷ [])
    ∷ []) ≡ []
unfolding sn window modulus distance count_for data_pdu decoded read_data read_report keystream counter_block stream_blocks report_pdu
accepted_change_without_reconf_is_right = refl

-- what comes before
abbrev before_root_of_a_rejected_rekey_m_becomes_current : List Entry
before_root_of_a_rejected_rekey_m_becomes_current =
    an_entry (event.Add A) answer.Ok (line.Send (link M A Ctl) (flight.Ctl (rec.Addreq (a_plan 1 (Some A) []) [])) ∷ [])
    ∷ an_entry (event.Step (link M A Ctl) 0) answer.Ok (line.Note (note.Join A 1) ∷ line.Send (link A M Ctl) (flight.Ctl (rec.Addack 1)) ∷ [])
    ∷ an_entry (event.Step (link A M Ctl) 0) answer.Ok (line.Send (link M T Ctl) (flight.Ctl (rec.Reconf (a_plan 1 (Some A) []) [])) ∷ [])
    ∷ an_entry (event.Step (link M T Ctl) 0) answer.Ok (line.Send (link T M Ctl) (flight.Ctl (rec.Rcomp 1)) ∷ [])
    ∷ an_entry (event.Step (link T M Ctl) 0) answer.Ok (line.Send (link M A Ctl) (flight.Ctl (rec.Recfg 1)) ∷ line.Note note.Done ∷ [])
    ∷ an_entry (event.Step (link M A Ctl) 0) answer.Ok []
    ∷ an_entry (event.Deny A true) answer.Ok []
    ∷ an_entry (event.RekeyMaster (replicate 32 17)) answer.Ok (line.Send (link M A Ctl) (flight.Ctl (rec.Modreq (a_plan 2 (Some A) []) [])) ∷ [])
    ∷ an_entry (event.Step (link M A Ctl) 0) answer.Ok (line.Send (link A M Ctl) (flight.Ctl (rec.Modrej 2)) ∷ [])
    ∷ an_entry (event.Step (link A M Ctl) 0) answer.Ok (line.Note note.Rejected ∷ [])
    ∷ []

root_of_a_rejected_rekey_m_becomes_current_is_wrong : breaks (a_header Nea0 0 (replicate 32 0)) (before_root_of_a_rejected_rekey_m_becomes_current ++
    an_entry (event.Bearer 1 S12 0 (a_shape false Mcg false) 0 0) answer.Ok (line.Note (note.Own M 1 3) ∷ line.Send (link M T Ctl) (flight.Ctl (rec.Reconf (a_plan 3 (Some A) (Set 1 S12 0 (a_shape false Mcg false) 0 0 (a_key 1 Master) None ∷ [])) [])) ∷ [])
    ∷ []) ≡ planned ∷ []
unfolding sn window modulus distance count_for data_pdu decoded read_data read_report keystream counter_block stream_blocks report_pdu
root_of_a_rejected_rekey_m_becomes_current_is_wrong = refl

root_of_a_rejected_rekey_m_becomes_current_is_right : breaks (a_header Nea0 0 (replicate 32 0)) (before_root_of_a_rejected_rekey_m_becomes_current ++
    an_entry (event.Bearer 1 S12 0 (a_shape false Mcg false) 0 0) answer.Ok (line.Note (note.Own M 1 3) ∷ line.Send (link M T Ctl) (flight.Ctl (rec.Reconf (a_plan 3 (Some A) (Set 1 S12 0 (a_shape false Mcg false) 0 0 (a_key 0 Master) None ∷ [])) [])) ∷ [])
    ∷ []) ≡ []
unfolding sn window modulus distance count_for data_pdu decoded read_data read_report keystream counter_block stream_blocks report_pdu
root_of_a_rejected_rekey_m_becomes_current_is_right = refl
