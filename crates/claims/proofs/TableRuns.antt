-- Whole runs break nothing: by computing.
use Rattle.std.specs.Prelude.{◌≡◌, ◌++◌, ℕ, Bool, true, false, List, [], ◌∷◌, replicate, Option, Some, None}
use Rattle.std.proofs.Common.{refl}
use Rattle.dc_base.specs.declared.numbers.SnLen.TheVariants.{S12, S18}
use Rattle.dc_base.specs.declared.nodes.Alg.TheVariants.{Nea0, Nea2}
use Rattle.dc_base.specs.declared.nodes.Node.TheVariants.{T, M, A, B}
use Rattle.dc_base.specs.declared.nodes.Class.TheVariants.{Ctl, Feed, Air, Tun}
use Rattle.dc_base.specs.declared.nodes.Dir.TheVariants.{Ul, Dl}
use Rattle.dc_base.specs.declared.nodes.Cell.TheVariants as cell
use Rattle.dc_base.specs.declared.nodes.LegSet.TheVariants.{Mcg, Scg, Split}
use Rattle.dc_base.specs.declared.nodes.Side.TheVariants.{Master, Second as SecondKey}
use Rattle.dc_base.specs.declared.nodes.Want.TheVariants as want
use Rattle.dc_base.specs.declared.flights.Flight.TheVariants as flight
use Rattle.dc_base.specs.declared.records.Item.TheVariants.{Set, Unset}
use Rattle.dc_base.specs.declared.records.Rec.TheVariants as rec
use Rattle.dc_base.specs.declared.answers.Word.TheVariants as word
use Rattle.dc_base.specs.declared.answers.Refusal.TheVariants as refusal
use Rattle.dc_base.specs.declared.answers.Answer.TheVariants as answer
use Rattle.dc_base.specs.declared.events.Event.TheVariants as event
use Rattle.dc_base.specs.declared.events.Note.TheVariants as note
use Rattle.dc_base.specs.declared.events.Line.TheVariants as line
use Rattle.transcript.specs.Transcript.{Entry}
use Rattle.dc_base.specs.Links.{link}
use Rattle.claims.specs.Writing.{a_shape, a_key, a_plan, a_transfer, a_header, an_entry}
use Rattle.claims.specs.Names.{breaks}
use Rattle.dc_base.specs.Count.{modulus, window, sn, distance, count_for}
use Rattle.nea2.specs.Keystream.{keystream, counter_block, stream_blocks}
use Rattle.pdcp_pdu.specs.DataPdu.{data_pdu}
use Rattle.pdcp_pdu.specs.Pdu.{decoded, read_data, read_report}
use Rattle.pdcp_pdu.specs.StatusReport.{report_pdu}

row_13_is_right : breaks (a_header Nea0 0 (replicate 32 0)) (
    an_entry (event.Bearer 1 S12 0 (a_shape false Mcg false) 0 0) answer.Ok (line.Note (note.Own M 1 1) ∷ line.Send (link M T Ctl) (flight.Ctl (rec.Reconf (a_plan 1 None (Set 1 S12 0 (a_shape false Mcg false) 0 0 (a_key 0 Master) None ∷ [])) [])) ∷ [])
    ∷ an_entry (event.Step (link M T Ctl) 0) answer.Ok (line.Note (note.Set 1 1) ∷ line.Send (link T M Ctl) (flight.Ctl (rec.Rcomp 1)) ∷ [])
    ∷ an_entry (event.Step (link T M Ctl) 0) answer.Ok (line.Note note.Done ∷ [])
    ∷ an_entry (event.Add A) answer.Ok (line.Send (link M A Ctl) (flight.Ctl (rec.Addreq (a_plan 2 (Some A) []) [])) ∷ [])
    ∷ an_entry (event.Step (link M A Ctl) 0) answer.Ok (line.Note (note.Join A 2) ∷ line.Send (link A M Ctl) (flight.Ctl (rec.Addack 2)) ∷ [])
    ∷ an_entry (event.Step (link A M Ctl) 0) answer.Ok (line.Send (link M T Ctl) (flight.Ctl (rec.Reconf (a_plan 2 (Some A) []) [])) ∷ [])
    ∷ an_entry (event.Step (link M T Ctl) 0) answer.Ok (line.Send (link T M Ctl) (flight.Ctl (rec.Rcomp 2)) ∷ [])
    ∷ an_entry (event.Step (link T M Ctl) 0) answer.Ok (line.Send (link M A Ctl) (flight.Ctl (rec.Recfg 2)) ∷ line.Note note.Done ∷ [])
    ∷ an_entry (event.Step (link M A Ctl) 0) answer.Ok []
    ∷ an_entry (event.Reshape 1 (a_shape false (Split cell.Mcg) true)) answer.Ok (line.Send (link M A Ctl) (flight.Ctl (rec.Modreq (a_plan 3 (Some A) (Set 1 S12 0 (a_shape false (Split cell.Mcg) true) 0 0 (a_key 0 Master) (Some M) ∷ [])) [])) ∷ [])
    ∷ an_entry (event.Step (link M A Ctl) 0) answer.Ok (line.Send (link A M Ctl) (flight.Ctl (rec.Modack 3)) ∷ [])
    ∷ an_entry (event.Step (link A M Ctl) 0) answer.Ok (line.Note (note.Own M 1 3) ∷ line.Send (link M T Ctl) (flight.Ctl (rec.Reconf (a_plan 3 (Some A) (Set 1 S12 0 (a_shape false (Split cell.Mcg) true) 0 0 (a_key 0 Master) (Some M) ∷ [])) [])) ∷ [])
    ∷ an_entry (event.Step (link M T Ctl) 0) answer.Ok (line.Note (note.Set 1 3) ∷ line.Send (link T M Ctl) (flight.Ctl (rec.Rcomp 3)) ∷ [])
    ∷ an_entry (event.Step (link T M Ctl) 0) answer.Ok (line.Send (link M A Ctl) (flight.Ctl (rec.Recfg 3)) ∷ line.Note note.Done ∷ [])
    ∷ an_entry (event.Step (link M A Ctl) 0) answer.Ok []
    ∷ an_entry (event.Submit 1 Dl (104 ∷ 105 ∷ [])) answer.Ok (line.Send (link M T Air) (flight.Air 1 3 0 (Some 0) (128 ∷ 0 ∷ 104 ∷ 105 ∷ [])) ∷ line.Send (link M A Tun) (flight.Tun (Some 0) (52 ∷ 255 ∷ 0 ∷ 16 ∷ 0 ∷ 0 ∷ 1 ∷ 128 ∷ 0 ∷ 0 ∷ 0 ∷ 132 ∷ 2 ∷ 1 ∷ 0 ∷ 0 ∷ 0 ∷ 0 ∷ 0 ∷ 0 ∷ 128 ∷ 0 ∷ 104 ∷ 105 ∷ [])) ∷ [])
    ∷ an_entry (event.Step (link M T Air) 0) answer.Ok (line.Note (note.Up T 1 Dl 0 (104 ∷ 105 ∷ [])) ∷ line.Send (link T M Air) (flight.Ack 1 3 0) ∷ [])
    ∷ an_entry (event.Step (link M A Tun) 0) answer.Ok (line.Send (link A T Air) (flight.Air 1 3 0 (Some 0) (128 ∷ 0 ∷ 104 ∷ 105 ∷ [])) ∷ [])
    ∷ an_entry (event.Step (link A T Air) 0) answer.Ok (line.Send (link T A Air) (flight.Ack 1 3 0) ∷ [])
    ∷ []) ≡ []
unfolding sn window modulus distance count_for data_pdu decoded read_data read_report keystream counter_block stream_blocks report_pdu
row_13_is_right = refl

row_15_is_right : breaks (a_header Nea0 0 (replicate 32 0)) (
    an_entry (event.Bearer 1 S12 0 (a_shape false Mcg false) 0 0) answer.Ok (line.Note (note.Own M 1 1) ∷ line.Send (link M T Ctl) (flight.Ctl (rec.Reconf (a_plan 1 None (Set 1 S12 0 (a_shape false Mcg false) 0 0 (a_key 0 Master) None ∷ [])) [])) ∷ [])
    ∷ an_entry (event.Step (link M T Ctl) 0) answer.Ok (line.Note (note.Set 1 1) ∷ line.Send (link T M Ctl) (flight.Ctl (rec.Rcomp 1)) ∷ [])
    ∷ an_entry (event.Step (link T M Ctl) 0) answer.Ok (line.Note note.Done ∷ [])
    ∷ an_entry (event.Add A) answer.Ok (line.Send (link M A Ctl) (flight.Ctl (rec.Addreq (a_plan 2 (Some A) []) [])) ∷ [])
    ∷ an_entry (event.Step (link M A Ctl) 0) answer.Ok (line.Note (note.Join A 2) ∷ line.Send (link A M Ctl) (flight.Ctl (rec.Addack 2)) ∷ [])
    ∷ an_entry (event.Step (link A M Ctl) 0) answer.Ok (line.Send (link M T Ctl) (flight.Ctl (rec.Reconf (a_plan 2 (Some A) []) [])) ∷ [])
    ∷ an_entry (event.Step (link M T Ctl) 0) answer.Ok (line.Send (link T M Ctl) (flight.Ctl (rec.Rcomp 2)) ∷ [])
    ∷ an_entry (event.Step (link T M Ctl) 0) answer.Ok (line.Send (link M A Ctl) (flight.Ctl (rec.Recfg 2)) ∷ line.Note note.Done ∷ [])
    ∷ an_entry (event.Step (link M A Ctl) 0) answer.Ok []
    ∷ an_entry (event.Reshape 1 (a_shape false Scg false)) answer.Ok (line.Send (link M A Ctl) (flight.Ctl (rec.Modreq (a_plan 3 (Some A) (Set 1 S12 0 (a_shape false Scg false) 0 0 (a_key 0 Master) (Some M) ∷ [])) [])) ∷ [])
    ∷ an_entry (event.Step (link M A Ctl) 0) answer.Ok (line.Send (link A M Ctl) (flight.Ctl (rec.Modack 3)) ∷ [])
    ∷ an_entry (event.Step (link A M Ctl) 0) answer.Ok (line.Note (note.Own M 1 3) ∷ line.Send (link M T Ctl) (flight.Ctl (rec.Reconf (a_plan 3 (Some A) (Set 1 S12 0 (a_shape false Scg false) 0 0 (a_key 0 Master) (Some M) ∷ [])) [])) ∷ [])
    ∷ an_entry (event.Step (link M T Ctl) 0) answer.Ok (line.Note (note.Set 1 3) ∷ line.Send (link T M Ctl) (flight.Ctl (rec.Rcomp 3)) ∷ [])
    ∷ an_entry (event.Step (link T M Ctl) 0) answer.Ok (line.Send (link M A Ctl) (flight.Ctl (rec.Recfg 3)) ∷ line.Note note.Done ∷ [])
    ∷ an_entry (event.Step (link M A Ctl) 0) answer.Ok []
    ∷ an_entry (event.Submit 1 Dl (170 ∷ [])) answer.Ok (line.Send (link M A Tun) (flight.Tun (Some 0) (52 ∷ 255 ∷ 0 ∷ 15 ∷ 0 ∷ 0 ∷ 1 ∷ 128 ∷ 0 ∷ 0 ∷ 0 ∷ 132 ∷ 2 ∷ 1 ∷ 0 ∷ 0 ∷ 0 ∷ 0 ∷ 0 ∷ 0 ∷ 128 ∷ 0 ∷ 170 ∷ [])) ∷ [])
    ∷ an_entry (event.Submit 1 Dl (187 ∷ [])) answer.Ok (line.Send (link M A Tun) (flight.Tun (Some 1) (52 ∷ 255 ∷ 0 ∷ 15 ∷ 0 ∷ 0 ∷ 1 ∷ 128 ∷ 0 ∷ 0 ∷ 0 ∷ 132 ∷ 2 ∷ 1 ∷ 0 ∷ 0 ∷ 1 ∷ 0 ∷ 0 ∷ 0 ∷ 128 ∷ 1 ∷ 187 ∷ [])) ∷ [])
    ∷ an_entry (event.Lose (link M A Tun) 0) answer.Ok []
    ∷ an_entry (event.Step (link M A Tun) 0) answer.Ok (line.Send (link A T Air) (flight.Air 1 3 0 (Some 1) (128 ∷ 1 ∷ 187 ∷ [])) ∷ [])
    ∷ an_entry (event.Step (link A T Air) 0) answer.Ok (line.Send (link T A Air) (flight.Ack 1 3 0) ∷ [])
    ∷ an_entry (event.Step (link T A Air) 0) answer.Ok (line.Send (link A M Tun) (flight.Tun (Some 1) (52 ∷ 255 ∷ 0 ∷ 20 ∷ 0 ∷ 0 ∷ 1 ∷ 128 ∷ 0 ∷ 0 ∷ 0 ∷ 132 ∷ 4 ∷ 17 ∷ 1 ∷ 0 ∷ 0 ∷ 1 ∷ 0 ∷ 0 ∷ 0 ∷ 0 ∷ 0 ∷ 0 ∷ 0 ∷ 0 ∷ 0 ∷ 0 ∷ [])) ∷ [])
    ∷ an_entry (event.Step (link A M Tun) 0) answer.Ok (line.Send (link M A Tun) (flight.Tun (Some 0) (52 ∷ 255 ∷ 0 ∷ 15 ∷ 0 ∷ 0 ∷ 1 ∷ 128 ∷ 0 ∷ 0 ∷ 0 ∷ 132 ∷ 2 ∷ 3 ∷ 0 ∷ 0 ∷ 2 ∷ 0 ∷ 0 ∷ 0 ∷ 128 ∷ 0 ∷ 170 ∷ [])) ∷ [])
    ∷ an_entry (event.Step (link M A Tun) 0) answer.Ok (line.Send (link A T Air) (flight.Air 1 3 1 (Some 0) (128 ∷ 0 ∷ 170 ∷ [])) ∷ [])
    ∷ an_entry (event.Step (link A T Air) 0) answer.Ok (line.Note (note.Up T 1 Dl 0 (170 ∷ [])) ∷ line.Note (note.Up T 1 Dl 1 (187 ∷ [])) ∷ line.Send (link T A Air) (flight.Ack 1 3 1) ∷ [])
    ∷ an_entry (event.Step (link T A Air) 0) answer.Ok (line.Send (link A M Tun) (flight.Tun (Some 1) (52 ∷ 255 ∷ 0 ∷ 20 ∷ 0 ∷ 0 ∷ 1 ∷ 128 ∷ 0 ∷ 0 ∷ 0 ∷ 132 ∷ 4 ∷ 17 ∷ 1 ∷ 0 ∷ 0 ∷ 1 ∷ 0 ∷ 0 ∷ 0 ∷ 0 ∷ 0 ∷ 0 ∷ 0 ∷ 0 ∷ 0 ∷ 0 ∷ [])) ∷ [])
    ∷ an_entry (event.Step (link A M Tun) 0) answer.Ok []
    ∷ an_entry (event.Report T 1) answer.Ok (line.Send (link T A Air) (flight.Air 1 3 0 None (0 ∷ 0 ∷ 0 ∷ 0 ∷ 2 ∷ [])) ∷ [])
    ∷ an_entry (event.Step (link T A Air) 0) answer.Ok (line.Send (link A T Air) (flight.Ack 1 3 0) ∷ line.Send (link A M Tun) (flight.Tun None (48 ∷ 255 ∷ 0 ∷ 5 ∷ 0 ∷ 0 ∷ 1 ∷ 128 ∷ 0 ∷ 0 ∷ 0 ∷ 0 ∷ 2 ∷ [])) ∷ [])
    ∷ an_entry (event.Step (link A T Air) 0) answer.Ok []
    ∷ an_entry (event.Step (link A M Tun) 0) answer.Ok (line.Note (note.Freed 1 Dl 2) ∷ [])
    ∷ []) ≡ []
unfolding sn window modulus distance count_for data_pdu decoded read_data read_report keystream counter_block stream_blocks report_pdu
row_15_is_right = refl

row_16_is_right : breaks (a_header Nea0 0 (replicate 32 0)) (
    an_entry (event.Bearer 1 S12 0 (a_shape false Mcg false) 0 0) answer.Ok (line.Note (note.Own M 1 1) ∷ line.Send (link M T Ctl) (flight.Ctl (rec.Reconf (a_plan 1 None (Set 1 S12 0 (a_shape false Mcg false) 0 0 (a_key 0 Master) None ∷ [])) [])) ∷ [])
    ∷ an_entry (event.Step (link M T Ctl) 0) answer.Ok (line.Note (note.Set 1 1) ∷ line.Send (link T M Ctl) (flight.Ctl (rec.Rcomp 1)) ∷ [])
    ∷ an_entry (event.Step (link T M Ctl) 0) answer.Ok (line.Note note.Done ∷ [])
    ∷ an_entry (event.Add A) answer.Ok (line.Send (link M A Ctl) (flight.Ctl (rec.Addreq (a_plan 2 (Some A) []) [])) ∷ [])
    ∷ an_entry (event.Step (link M A Ctl) 0) answer.Ok (line.Note (note.Join A 2) ∷ line.Send (link A M Ctl) (flight.Ctl (rec.Addack 2)) ∷ [])
    ∷ an_entry (event.Step (link A M Ctl) 0) answer.Ok (line.Send (link M T Ctl) (flight.Ctl (rec.Reconf (a_plan 2 (Some A) []) [])) ∷ [])
    ∷ an_entry (event.Step (link M T Ctl) 0) answer.Ok (line.Send (link T M Ctl) (flight.Ctl (rec.Rcomp 2)) ∷ [])
    ∷ an_entry (event.Step (link T M Ctl) 0) answer.Ok (line.Send (link M A Ctl) (flight.Ctl (rec.Recfg 2)) ∷ line.Note note.Done ∷ [])
    ∷ an_entry (event.Step (link M A Ctl) 0) answer.Ok []
    ∷ an_entry (event.Reshape 1 (a_shape false (Split cell.Mcg) false)) answer.Ok (line.Send (link M A Ctl) (flight.Ctl (rec.Modreq (a_plan 3 (Some A) (Set 1 S12 0 (a_shape false (Split cell.Mcg) false) 0 0 (a_key 0 Master) (Some M) ∷ [])) [])) ∷ [])
    ∷ an_entry (event.Step (link M A Ctl) 0) answer.Ok (line.Send (link A M Ctl) (flight.Ctl (rec.Modack 3)) ∷ [])
    ∷ an_entry (event.Step (link A M Ctl) 0) answer.Ok (line.Note (note.Own M 1 3) ∷ line.Send (link M T Ctl) (flight.Ctl (rec.Reconf (a_plan 3 (Some A) (Set 1 S12 0 (a_shape false (Split cell.Mcg) false) 0 0 (a_key 0 Master) (Some M) ∷ [])) [])) ∷ [])
    ∷ an_entry (event.Step (link M T Ctl) 0) answer.Ok (line.Note (note.Set 1 3) ∷ line.Send (link T M Ctl) (flight.Ctl (rec.Rcomp 3)) ∷ [])
    ∷ an_entry (event.Step (link T M Ctl) 0) answer.Ok (line.Send (link M A Ctl) (flight.Ctl (rec.Recfg 3)) ∷ line.Note note.Done ∷ [])
    ∷ an_entry (event.Step (link M A Ctl) 0) answer.Ok []
    ∷ an_entry (event.Submit 1 Dl (170 ∷ [])) answer.Ok (line.Send (link M T Air) (flight.Air 1 3 0 (Some 0) (128 ∷ 0 ∷ 170 ∷ [])) ∷ [])
    ∷ an_entry (event.Submit 1 Dl (187 ∷ [])) answer.Ok (line.Send (link M A Tun) (flight.Tun (Some 1) (52 ∷ 255 ∷ 0 ∷ 15 ∷ 0 ∷ 0 ∷ 1 ∷ 128 ∷ 0 ∷ 0 ∷ 0 ∷ 132 ∷ 2 ∷ 1 ∷ 0 ∷ 0 ∷ 0 ∷ 0 ∷ 0 ∷ 0 ∷ 128 ∷ 1 ∷ 187 ∷ [])) ∷ [])
    ∷ an_entry (event.ScgFail) answer.Ok (line.Send (link T M Ctl) (flight.Ctl (rec.Scgf ((1, 3) ∷ []))) ∷ [])
    ∷ an_entry (event.Step (link T M Ctl) 0) answer.Ok (line.Send (link M T Air) (flight.Air 1 3 1 (Some 0) (128 ∷ 0 ∷ 170 ∷ [])) ∷ line.Send (link M T Air) (flight.Air 1 3 2 (Some 1) (128 ∷ 1 ∷ 187 ∷ [])) ∷ [])
    ∷ an_entry (event.Step (link M T Air) 0) answer.Ok (line.Note (note.Up T 1 Dl 0 (170 ∷ [])) ∷ line.Send (link T M Air) (flight.Ack 1 3 0) ∷ [])
    ∷ an_entry (event.Step (link M T Air) 0) answer.Ok (line.Send (link T M Air) (flight.Ack 1 3 1) ∷ [])
    ∷ an_entry (event.Step (link M T Air) 0) answer.Ok (line.Note (note.Up T 1 Dl 1 (187 ∷ [])) ∷ line.Send (link T M Air) (flight.Ack 1 3 2) ∷ [])
    ∷ an_entry (event.Step (link T M Air) 0) answer.Ok (line.Note (note.Freed 1 Dl 1) ∷ [])
    ∷ an_entry (event.Step (link T M Air) 0) answer.Ok []
    ∷ an_entry (event.Step (link T M Air) 0) answer.Ok (line.Note (note.Freed 1 Dl 2) ∷ [])
    ∷ an_entry (event.Step (link M A Tun) 0) answer.Ok (line.Send (link A T Air) (flight.Air 1 3 0 (Some 1) (128 ∷ 1 ∷ 187 ∷ [])) ∷ [])
    ∷ an_entry (event.Step (link A T Air) 0) answer.Ok []
    ∷ an_entry (event.Recover 1) answer.Ok (line.Send (link M T Ctl) (flight.Ctl (rec.Recov 1)) ∷ [])
    ∷ an_entry (event.Step (link M T Ctl) 0) answer.Ok (line.Send (link T M Ctl) (flight.Ctl (rec.Recovd 1)) ∷ [])
    ∷ an_entry (event.Step (link T M Ctl) 0) answer.Ok (line.Note note.Done ∷ [])
    ∷ []) ≡ []
unfolding sn window modulus distance count_for data_pdu decoded read_data read_report keystream counter_block stream_blocks report_pdu
row_16_is_right = refl

row_17_is_right : breaks (a_header Nea0 0 (replicate 32 0)) (
    an_entry (event.Bearer 1 S12 0 (a_shape false Mcg false) 0 0) answer.Ok (line.Note (note.Own M 1 1) ∷ line.Send (link M T Ctl) (flight.Ctl (rec.Reconf (a_plan 1 None (Set 1 S12 0 (a_shape false Mcg false) 0 0 (a_key 0 Master) None ∷ [])) [])) ∷ [])
    ∷ an_entry (event.Step (link M T Ctl) 0) answer.Ok (line.Note (note.Set 1 1) ∷ line.Send (link T M Ctl) (flight.Ctl (rec.Rcomp 1)) ∷ [])
    ∷ an_entry (event.Step (link T M Ctl) 0) answer.Ok (line.Note note.Done ∷ [])
    ∷ an_entry (event.Add A) answer.Ok (line.Send (link M A Ctl) (flight.Ctl (rec.Addreq (a_plan 2 (Some A) []) [])) ∷ [])
    ∷ an_entry (event.Step (link M A Ctl) 0) answer.Ok (line.Note (note.Join A 2) ∷ line.Send (link A M Ctl) (flight.Ctl (rec.Addack 2)) ∷ [])
    ∷ an_entry (event.Step (link A M Ctl) 0) answer.Ok (line.Send (link M T Ctl) (flight.Ctl (rec.Reconf (a_plan 2 (Some A) []) [])) ∷ [])
    ∷ an_entry (event.Step (link M T Ctl) 0) answer.Ok (line.Send (link T M Ctl) (flight.Ctl (rec.Rcomp 2)) ∷ [])
    ∷ an_entry (event.Step (link T M Ctl) 0) answer.Ok (line.Send (link M A Ctl) (flight.Ctl (rec.Recfg 2)) ∷ line.Note note.Done ∷ [])
    ∷ an_entry (event.Step (link M A Ctl) 0) answer.Ok []
    ∷ an_entry (event.Submit 1 Dl (170 ∷ [])) answer.Ok (line.Send (link M T Air) (flight.Air 1 1 0 (Some 0) (128 ∷ 0 ∷ 170 ∷ [])) ∷ [])
    ∷ an_entry (event.Submit 1 Dl (187 ∷ [])) answer.Ok (line.Send (link M T Air) (flight.Air 1 1 1 (Some 1) (128 ∷ 1 ∷ 187 ∷ [])) ∷ [])
    ∷ an_entry (event.Submit 1 Ul (204 ∷ [])) answer.Ok (line.Send (link T M Air) (flight.Air 1 1 0 (Some 0) (128 ∷ 0 ∷ 204 ∷ [])) ∷ [])
    ∷ an_entry (event.Submit 1 Ul (221 ∷ [])) answer.Ok (line.Send (link T M Air) (flight.Air 1 1 1 (Some 1) (128 ∷ 1 ∷ 221 ∷ [])) ∷ [])
    ∷ an_entry (event.Step (link T M Air) 1) answer.Ok (line.Send (link M T Air) (flight.Ack 1 1 1) ∷ [])
    ∷ an_entry (event.Reshape 1 (a_shape true Scg false)) answer.Ok (line.Send (link M A Ctl) (flight.Ctl (rec.Modreq (a_plan 3 (Some A) (Set 1 S12 0 (a_shape true Scg false) 0 0 (a_key 0 (SecondKey 0)) (Some M) ∷ [])) [])) ∷ [])
    ∷ an_entry (event.Step (link M A Ctl) 0) answer.Ok (line.Send (link A M Ctl) (flight.Ctl (rec.Modack 3)) ∷ [])
    ∷ an_entry (event.Step (link A M Ctl) 0) answer.Ok (line.Note (note.Give M 1 3) ∷ line.Send (link M T Ctl) (flight.Ctl (rec.Reconf (a_plan 3 (Some A) (Set 1 S12 0 (a_shape true Scg false) 0 0 (a_key 0 (SecondKey 0)) (Some M) ∷ [])) [])) ∷ line.Send (link M A Ctl) (flight.Ctl (rec.Snst (a_transfer 3 1 0 (128 ∷ []) 2))) ∷ line.Send (link M A Tun) (flight.Tun None (52 ∷ 255 ∷ 0 ∷ 17 ∷ 0 ∷ 0 ∷ 1 ∷ 129 ∷ 0 ∷ 0 ∷ 0 ∷ 132 ∷ 2 ∷ 1 ∷ 0 ∷ 0 ∷ 0 ∷ 0 ∷ 0 ∷ 192 ∷ 1 ∷ 0 ∷ 0 ∷ 0 ∷ 170 ∷ [])) ∷ line.Send (link M A Tun) (flight.Tun None (52 ∷ 255 ∷ 0 ∷ 17 ∷ 0 ∷ 0 ∷ 1 ∷ 129 ∷ 0 ∷ 0 ∷ 0 ∷ 132 ∷ 2 ∷ 1 ∷ 0 ∷ 0 ∷ 1 ∷ 0 ∷ 0 ∷ 192 ∷ 1 ∷ 0 ∷ 1 ∷ 0 ∷ 187 ∷ [])) ∷ line.Send (link M A Tun) (flight.Tun None (52 ∷ 255 ∷ 0 ∷ 12 ∷ 0 ∷ 0 ∷ 1 ∷ 129 ∷ 0 ∷ 0 ∷ 0 ∷ 132 ∷ 2 ∷ 0 ∷ 0 ∷ 0 ∷ 2 ∷ 0 ∷ 0 ∷ 0 ∷ [])) ∷ line.Send (link M A Tun) (flight.Tun None (48 ∷ 254 ∷ 0 ∷ 0 ∷ 0 ∷ 0 ∷ 1 ∷ 129 ∷ [])) ∷ line.Send (link M A Tun) (flight.Tun None (52 ∷ 255 ∷ 0 ∷ 17 ∷ 0 ∷ 0 ∷ 1 ∷ 130 ∷ 0 ∷ 0 ∷ 0 ∷ 132 ∷ 2 ∷ 1 ∷ 0 ∷ 0 ∷ 0 ∷ 0 ∷ 0 ∷ 192 ∷ 1 ∷ 0 ∷ 1 ∷ 0 ∷ 221 ∷ [])) ∷ line.Send (link M A Tun) (flight.Tun None (52 ∷ 255 ∷ 0 ∷ 12 ∷ 0 ∷ 0 ∷ 1 ∷ 130 ∷ 0 ∷ 0 ∷ 0 ∷ 132 ∷ 2 ∷ 0 ∷ 0 ∷ 0 ∷ 1 ∷ 0 ∷ 0 ∷ 0 ∷ [])) ∷ line.Send (link M A Tun) (flight.Tun None (48 ∷ 254 ∷ 0 ∷ 0 ∷ 0 ∷ 0 ∷ 1 ∷ 130 ∷ [])) ∷ [])
    ∷ an_entry (event.Step (link M T Ctl) 0) answer.Ok (line.Note (note.Set 1 3) ∷ line.Send (link T M Ctl) (flight.Ctl (rec.Rcomp 3)) ∷ line.Send (link T A Air) (flight.Air 1 3 0 (Some 0) (128 ∷ 0 ∷ 204 ∷ [])) ∷ line.Send (link T A Air) (flight.Air 1 3 1 (Some 1) (128 ∷ 1 ∷ 221 ∷ [])) ∷ [])
    ∷ an_entry (event.Step (link T M Ctl) 0) answer.Ok (line.Send (link M A Ctl) (flight.Ctl (rec.Recfg 3)) ∷ [])
    ∷ an_entry (event.Step (link M A Ctl) 0) answer.Ok []
    ∷ an_entry (event.Step (link M A Ctl) 0) answer.Ok []
    ∷ an_entry (event.Step (link M T Air) 0) answer.Ok []
    ∷ an_entry (event.Step (link M T Air) 0) answer.Ok []
    ∷ an_entry (event.Step (link M T Air) 0) answer.Ok []
    ∷ an_entry (event.Step (link T M Air) 0) answer.Ok []
    ∷ an_entry (event.Step (link T A Air) 0) answer.Ok (line.Send (link A T Air) (flight.Ack 1 3 0) ∷ [])
    ∷ an_entry (event.Step (link A T Air) 0) answer.Ok []
    ∷ an_entry (event.Step (link T A Air) 0) answer.Ok (line.Send (link A T Air) (flight.Ack 1 3 1) ∷ [])
    ∷ an_entry (event.Step (link A T Air) 0) answer.Ok []
    ∷ an_entry (event.Step (link M A Tun) 0) answer.Ok []
    ∷ an_entry (event.Step (link M A Tun) 0) answer.Ok []
    ∷ an_entry (event.Step (link M A Tun) 0) answer.Ok []
    ∷ an_entry (event.Step (link M A Tun) 0) answer.Ok []
    ∷ an_entry (event.Step (link M A Tun) 0) answer.Ok []
    ∷ an_entry (event.Step (link M A Tun) 0) answer.Ok (line.Note (note.Own A 1 3) ∷ line.Note (note.Up A 1 Ul 0 (204 ∷ [])) ∷ line.Note (note.Up A 1 Ul 1 (221 ∷ [])) ∷ line.Send (link A M Ctl) (flight.Ctl (rec.Moved 3 1)) ∷ line.Send (link A T Air) (flight.Air 1 3 0 (Some 0) (128 ∷ 0 ∷ 170 ∷ [])) ∷ line.Send (link A T Air) (flight.Air 1 3 1 (Some 1) (128 ∷ 1 ∷ 187 ∷ [])) ∷ [])
    ∷ an_entry (event.Step (link A M Ctl) 0) answer.Ok (line.Note note.Done ∷ [])
    ∷ an_entry (event.Step (link A T Air) 0) answer.Ok (line.Note (note.Up T 1 Dl 0 (170 ∷ [])) ∷ line.Send (link T A Air) (flight.Ack 1 3 0) ∷ [])
    ∷ an_entry (event.Step (link A T Air) 0) answer.Ok (line.Note (note.Up T 1 Dl 1 (187 ∷ [])) ∷ line.Send (link T A Air) (flight.Ack 1 3 1) ∷ [])
    ∷ an_entry (event.Step (link T A Air) 0) answer.Ok (line.Send (link A M Feed) (flight.Told 1 3 1) ∷ [])
    ∷ an_entry (event.Step (link A M Feed) 0) answer.Ok (line.Note (note.Freed 1 Dl 1) ∷ [])
    ∷ an_entry (event.Step (link T A Air) 0) answer.Ok (line.Send (link A M Feed) (flight.Told 1 3 2) ∷ [])
    ∷ an_entry (event.Step (link A M Feed) 0) answer.Ok (line.Note (note.Freed 1 Dl 2) ∷ [])
    ∷ an_entry (event.Step (link M A Tun) 0) answer.Ok []
    ∷ []) ≡ []
unfolding sn window modulus distance count_for data_pdu decoded read_data read_report keystream counter_block stream_blocks report_pdu
row_17_is_right = refl

row_18_is_right : breaks (a_header Nea0 0 (replicate 32 0)) (
    an_entry (event.Bearer 1 S12 0 (a_shape false Mcg false) 0 0) answer.Ok (line.Note (note.Own M 1 1) ∷ line.Send (link M T Ctl) (flight.Ctl (rec.Reconf (a_plan 1 None (Set 1 S12 0 (a_shape false Mcg false) 0 0 (a_key 0 Master) None ∷ [])) [])) ∷ [])
    ∷ an_entry (event.Step (link M T Ctl) 0) answer.Ok (line.Note (note.Set 1 1) ∷ line.Send (link T M Ctl) (flight.Ctl (rec.Rcomp 1)) ∷ [])
    ∷ an_entry (event.Step (link T M Ctl) 0) answer.Ok (line.Note note.Done ∷ [])
    ∷ an_entry (event.Add A) answer.Ok (line.Send (link M A Ctl) (flight.Ctl (rec.Addreq (a_plan 2 (Some A) []) [])) ∷ [])
    ∷ an_entry (event.Step (link M A Ctl) 0) answer.Ok (line.Note (note.Join A 2) ∷ line.Send (link A M Ctl) (flight.Ctl (rec.Addack 2)) ∷ [])
    ∷ an_entry (event.Step (link A M Ctl) 0) answer.Ok (line.Send (link M T Ctl) (flight.Ctl (rec.Reconf (a_plan 2 (Some A) []) [])) ∷ [])
    ∷ an_entry (event.Step (link M T Ctl) 0) answer.Ok (line.Send (link T M Ctl) (flight.Ctl (rec.Rcomp 2)) ∷ [])
    ∷ an_entry (event.Step (link T M Ctl) 0) answer.Ok (line.Send (link M A Ctl) (flight.Ctl (rec.Recfg 2)) ∷ line.Note note.Done ∷ [])
    ∷ an_entry (event.Step (link M A Ctl) 0) answer.Ok []
    ∷ an_entry (event.Submit 1 Dl (170 ∷ [])) answer.Ok (line.Send (link M T Air) (flight.Air 1 1 0 (Some 0) (128 ∷ 0 ∷ 170 ∷ [])) ∷ [])
    ∷ an_entry (event.Submit 1 Dl (187 ∷ [])) answer.Ok (line.Send (link M T Air) (flight.Air 1 1 1 (Some 1) (128 ∷ 1 ∷ 187 ∷ [])) ∷ [])
    ∷ an_entry (event.Submit 1 Ul (204 ∷ [])) answer.Ok (line.Send (link T M Air) (flight.Air 1 1 0 (Some 0) (128 ∷ 0 ∷ 204 ∷ [])) ∷ [])
    ∷ an_entry (event.Submit 1 Ul (221 ∷ [])) answer.Ok (line.Send (link T M Air) (flight.Air 1 1 1 (Some 1) (128 ∷ 1 ∷ 221 ∷ [])) ∷ [])
    ∷ an_entry (event.Step (link T M Air) 1) answer.Ok (line.Send (link M T Air) (flight.Ack 1 1 1) ∷ [])
    ∷ an_entry (event.Reshape 1 (a_shape true Scg false)) answer.Ok (line.Send (link M A Ctl) (flight.Ctl (rec.Modreq (a_plan 3 (Some A) (Set 1 S12 0 (a_shape true Scg false) 0 0 (a_key 0 (SecondKey 0)) (Some M) ∷ [])) [])) ∷ [])
    ∷ an_entry (event.Step (link M A Ctl) 0) answer.Ok (line.Send (link A M Ctl) (flight.Ctl (rec.Modack 3)) ∷ [])
    ∷ an_entry (event.Step (link A M Ctl) 0) answer.Ok (line.Note (note.Give M 1 3) ∷ line.Send (link M T Ctl) (flight.Ctl (rec.Reconf (a_plan 3 (Some A) (Set 1 S12 0 (a_shape true Scg false) 0 0 (a_key 0 (SecondKey 0)) (Some M) ∷ [])) [])) ∷ line.Send (link M A Ctl) (flight.Ctl (rec.Snst (a_transfer 3 1 0 (128 ∷ []) 2))) ∷ line.Send (link M A Tun) (flight.Tun None (52 ∷ 255 ∷ 0 ∷ 17 ∷ 0 ∷ 0 ∷ 1 ∷ 129 ∷ 0 ∷ 0 ∷ 0 ∷ 132 ∷ 2 ∷ 1 ∷ 0 ∷ 0 ∷ 0 ∷ 0 ∷ 0 ∷ 192 ∷ 1 ∷ 0 ∷ 0 ∷ 0 ∷ 170 ∷ [])) ∷ line.Send (link M A Tun) (flight.Tun None (52 ∷ 255 ∷ 0 ∷ 17 ∷ 0 ∷ 0 ∷ 1 ∷ 129 ∷ 0 ∷ 0 ∷ 0 ∷ 132 ∷ 2 ∷ 1 ∷ 0 ∷ 0 ∷ 1 ∷ 0 ∷ 0 ∷ 192 ∷ 1 ∷ 0 ∷ 1 ∷ 0 ∷ 187 ∷ [])) ∷ line.Send (link M A Tun) (flight.Tun None (52 ∷ 255 ∷ 0 ∷ 12 ∷ 0 ∷ 0 ∷ 1 ∷ 129 ∷ 0 ∷ 0 ∷ 0 ∷ 132 ∷ 2 ∷ 0 ∷ 0 ∷ 0 ∷ 2 ∷ 0 ∷ 0 ∷ 0 ∷ [])) ∷ line.Send (link M A Tun) (flight.Tun None (48 ∷ 254 ∷ 0 ∷ 0 ∷ 0 ∷ 0 ∷ 1 ∷ 129 ∷ [])) ∷ line.Send (link M A Tun) (flight.Tun None (52 ∷ 255 ∷ 0 ∷ 17 ∷ 0 ∷ 0 ∷ 1 ∷ 130 ∷ 0 ∷ 0 ∷ 0 ∷ 132 ∷ 2 ∷ 1 ∷ 0 ∷ 0 ∷ 0 ∷ 0 ∷ 0 ∷ 192 ∷ 1 ∷ 0 ∷ 1 ∷ 0 ∷ 221 ∷ [])) ∷ line.Send (link M A Tun) (flight.Tun None (52 ∷ 255 ∷ 0 ∷ 12 ∷ 0 ∷ 0 ∷ 1 ∷ 130 ∷ 0 ∷ 0 ∷ 0 ∷ 132 ∷ 2 ∷ 0 ∷ 0 ∷ 0 ∷ 1 ∷ 0 ∷ 0 ∷ 0 ∷ [])) ∷ line.Send (link M A Tun) (flight.Tun None (48 ∷ 254 ∷ 0 ∷ 0 ∷ 0 ∷ 0 ∷ 1 ∷ 130 ∷ [])) ∷ [])
    ∷ an_entry (event.Lose (link M A Tun) 1) answer.Ok []
    ∷ an_entry (event.Step (link M T Ctl) 0) answer.Ok (line.Note (note.Set 1 3) ∷ line.Send (link T M Ctl) (flight.Ctl (rec.Rcomp 3)) ∷ line.Send (link T A Air) (flight.Air 1 3 0 (Some 0) (128 ∷ 0 ∷ 204 ∷ [])) ∷ line.Send (link T A Air) (flight.Air 1 3 1 (Some 1) (128 ∷ 1 ∷ 221 ∷ [])) ∷ [])
    ∷ an_entry (event.Step (link T M Ctl) 0) answer.Ok (line.Send (link M A Ctl) (flight.Ctl (rec.Recfg 3)) ∷ [])
    ∷ an_entry (event.Step (link M A Ctl) 0) answer.Ok []
    ∷ an_entry (event.Step (link M A Ctl) 0) answer.Ok []
    ∷ an_entry (event.Step (link M T Air) 0) answer.Ok []
    ∷ an_entry (event.Step (link M T Air) 0) answer.Ok []
    ∷ an_entry (event.Step (link M T Air) 0) answer.Ok []
    ∷ an_entry (event.Step (link T M Air) 0) answer.Ok []
    ∷ an_entry (event.Step (link T A Air) 0) answer.Ok (line.Send (link A T Air) (flight.Ack 1 3 0) ∷ [])
    ∷ an_entry (event.Step (link A T Air) 0) answer.Ok []
    ∷ an_entry (event.Step (link T A Air) 0) answer.Ok (line.Send (link A T Air) (flight.Ack 1 3 1) ∷ [])
    ∷ an_entry (event.Step (link A T Air) 0) answer.Ok []
    ∷ an_entry (event.Step (link M A Tun) 0) answer.Ok []
    ∷ an_entry (event.Step (link M A Tun) 0) answer.Ok []
    ∷ an_entry (event.Step (link M A Tun) 0) answer.Ok []
    ∷ an_entry (event.Step (link M A Tun) 0) answer.Ok []
    ∷ an_entry (event.Step (link M A Tun) 0) answer.Ok []
    ∷ an_entry (event.Step (link M A Tun) 0) answer.Ok []
    ∷ an_entry (event.Recover 1) (answer.No refusal.Busy) []
    ∷ []) ≡ []
unfolding sn window modulus distance count_for data_pdu decoded read_data read_report keystream counter_block stream_blocks report_pdu
row_18_is_right = refl

row_19_is_right : breaks (a_header Nea0 0 (replicate 32 0)) (
    an_entry (event.Bearer 1 S12 0 (a_shape false Mcg false) 0 0) answer.Ok (line.Note (note.Own M 1 1) ∷ line.Send (link M T Ctl) (flight.Ctl (rec.Reconf (a_plan 1 None (Set 1 S12 0 (a_shape false Mcg false) 0 0 (a_key 0 Master) None ∷ [])) [])) ∷ [])
    ∷ an_entry (event.Step (link M T Ctl) 0) answer.Ok (line.Note (note.Set 1 1) ∷ line.Send (link T M Ctl) (flight.Ctl (rec.Rcomp 1)) ∷ [])
    ∷ an_entry (event.Step (link T M Ctl) 0) answer.Ok (line.Note note.Done ∷ [])
    ∷ an_entry (event.Remove 1) answer.Ok (line.Send (link M T Ctl) (flight.Ctl (rec.Reconf (a_plan 2 None (Unset 1 ∷ [])) [])) ∷ [])
    ∷ an_entry (event.Step (link M T Ctl) 0) answer.Ok (line.Note (note.Unset 1) ∷ line.Send (link T M Ctl) (flight.Ctl (rec.Rcomp 2)) ∷ [])
    ∷ an_entry (event.Step (link T M Ctl) 0) answer.Ok (line.Note note.Done ∷ [])
    ∷ an_entry (event.Bearer 1 S12 0 (a_shape false Mcg false) 0 0) (answer.No refusal.IdSpent) []
    ∷ an_entry (event.RekeyMaster (replicate 32 17)) answer.Ok (line.Send (link M T Ctl) (flight.Ctl (rec.Reconf (a_plan 3 None []) [])) ∷ [])
    ∷ an_entry (event.Step (link M T Ctl) 0) answer.Ok (line.Send (link T M Ctl) (flight.Ctl (rec.Rcomp 3)) ∷ [])
    ∷ an_entry (event.Step (link T M Ctl) 0) answer.Ok (line.Note note.Done ∷ [])
    ∷ an_entry (event.Bearer 1 S12 0 (a_shape false Mcg false) 0 0) answer.Ok (line.Note (note.Own M 1 4) ∷ line.Send (link M T Ctl) (flight.Ctl (rec.Reconf (a_plan 4 None (Set 1 S12 0 (a_shape false Mcg false) 0 0 (a_key 1 Master) None ∷ [])) [])) ∷ [])
    ∷ an_entry (event.Step (link M T Ctl) 0) answer.Ok (line.Note (note.Set 1 4) ∷ line.Send (link T M Ctl) (flight.Ctl (rec.Rcomp 4)) ∷ [])
    ∷ an_entry (event.Step (link T M Ctl) 0) answer.Ok (line.Note note.Done ∷ [])
    ∷ an_entry (event.RekeyMaster (replicate 32 0)) (answer.No refusal.RootUsed) []
    ∷ []) ≡ []
unfolding sn window modulus distance count_for data_pdu decoded read_data read_report keystream counter_block stream_blocks report_pdu
row_19_is_right = refl

row_20_is_right : breaks (a_header Nea0 65535 (replicate 32 0)) (
    an_entry (event.Add A) answer.Ok (line.Send (link M A Ctl) (flight.Ctl (rec.Addreq (a_plan 1 (Some A) []) [])) ∷ [])
    ∷ an_entry (event.Step (link M A Ctl) 0) answer.Ok (line.Note (note.Join A 1) ∷ line.Send (link A M Ctl) (flight.Ctl (rec.Addack 1)) ∷ [])
    ∷ an_entry (event.Step (link A M Ctl) 0) answer.Ok (line.Send (link M T Ctl) (flight.Ctl (rec.Reconf (a_plan 1 (Some A) []) [])) ∷ [])
    ∷ an_entry (event.Step (link M T Ctl) 0) answer.Ok (line.Send (link T M Ctl) (flight.Ctl (rec.Rcomp 1)) ∷ [])
    ∷ an_entry (event.Step (link T M Ctl) 0) answer.Ok (line.Send (link M A Ctl) (flight.Ctl (rec.Recfg 1)) ∷ line.Note note.Done ∷ [])
    ∷ an_entry (event.Step (link M A Ctl) 0) answer.Ok []
    ∷ an_entry (event.RekeySecond) (answer.No refusal.CounterSpent) []
    ∷ an_entry (event.RekeyMaster (replicate 32 17)) answer.Ok (line.Send (link M A Ctl) (flight.Ctl (rec.Modreq (a_plan 2 (Some A) []) [])) ∷ [])
    ∷ an_entry (event.Step (link M A Ctl) 0) answer.Ok (line.Send (link A M Ctl) (flight.Ctl (rec.Modack 2)) ∷ [])
    ∷ an_entry (event.Step (link A M Ctl) 0) answer.Ok (line.Send (link M T Ctl) (flight.Ctl (rec.Reconf (a_plan 2 (Some A) []) [])) ∷ [])
    ∷ an_entry (event.Step (link M T Ctl) 0) answer.Ok (line.Send (link T M Ctl) (flight.Ctl (rec.Rcomp 2)) ∷ [])
    ∷ an_entry (event.Step (link T M Ctl) 0) answer.Ok (line.Send (link M A Ctl) (flight.Ctl (rec.Recfg 2)) ∷ line.Note note.Done ∷ [])
    ∷ an_entry (event.Step (link M A Ctl) 0) answer.Ok []
    ∷ an_entry (event.Bearer 1 S12 0 (a_shape true Scg false) 0 0) answer.Ok (line.Send (link M A Ctl) (flight.Ctl (rec.Modreq (a_plan 3 (Some A) (Set 1 S12 0 (a_shape true Scg false) 0 0 (a_key 1 (SecondKey 0)) None ∷ [])) [])) ∷ [])
    ∷ []) ≡ []
unfolding sn window modulus distance count_for data_pdu decoded read_data read_report keystream counter_block stream_blocks report_pdu
row_20_is_right = refl

row_21_is_right : breaks (a_header Nea0 0 (replicate 32 0)) (
    an_entry (event.Deny A true) answer.Ok []
    ∷ an_entry (event.Add A) answer.Ok (line.Send (link M A Ctl) (flight.Ctl (rec.Addreq (a_plan 1 (Some A) []) [])) ∷ [])
    ∷ an_entry (event.Step (link M A Ctl) 0) answer.Ok (line.Send (link A M Ctl) (flight.Ctl (rec.Addrej 1)) ∷ [])
    ∷ an_entry (event.Step (link A M Ctl) 0) answer.Ok (line.Note note.Rejected ∷ [])
    ∷ an_entry (event.Deny A false) answer.Ok []
    ∷ an_entry (event.Add A) answer.Ok (line.Send (link M A Ctl) (flight.Ctl (rec.Addreq (a_plan 2 (Some A) []) [])) ∷ [])
    ∷ an_entry (event.Step (link M A Ctl) 0) answer.Ok (line.Note (note.Join A 2) ∷ line.Send (link A M Ctl) (flight.Ctl (rec.Addack 2)) ∷ [])
    ∷ an_entry (event.Step (link A M Ctl) 0) answer.Ok (line.Send (link M T Ctl) (flight.Ctl (rec.Reconf (a_plan 2 (Some A) []) [])) ∷ [])
    ∷ an_entry (event.Step (link M T Ctl) 0) answer.Ok (line.Send (link T M Ctl) (flight.Ctl (rec.Rcomp 2)) ∷ [])
    ∷ an_entry (event.Step (link T M Ctl) 0) answer.Ok (line.Send (link M A Ctl) (flight.Ctl (rec.Recfg 2)) ∷ line.Note note.Done ∷ [])
    ∷ an_entry (event.Step (link M A Ctl) 0) answer.Ok []
    ∷ an_entry (event.Ask A want.Rekey) answer.Ok (line.Send (link A M Ctl) (flight.Ctl (rec.Modrqd)) ∷ [])
    ∷ an_entry (event.Step (link A M Ctl) 0) answer.Ok (line.Note (note.Begin want.Rekey) ∷ line.Send (link M A Ctl) (flight.Ctl (rec.Modreq (a_plan 3 (Some A) []) [])) ∷ [])
    ∷ an_entry (event.Step (link M A Ctl) 0) answer.Ok (line.Send (link A M Ctl) (flight.Ctl (rec.Modack 3)) ∷ [])
    ∷ an_entry (event.Step (link A M Ctl) 0) answer.Ok (line.Send (link M T Ctl) (flight.Ctl (rec.Reconf (a_plan 3 (Some A) []) [])) ∷ [])
    ∷ an_entry (event.Step (link M T Ctl) 0) answer.Ok (line.Send (link T M Ctl) (flight.Ctl (rec.Rcomp 3)) ∷ [])
    ∷ an_entry (event.Step (link T M Ctl) 0) answer.Ok (line.Send (link M A Ctl) (flight.Ctl (rec.Modcnf 3)) ∷ line.Note note.Done ∷ [])
    ∷ an_entry (event.Step (link M A Ctl) 0) answer.Ok (line.Note (note.Confirmed A) ∷ [])
    ∷ []) ≡ []
unfolding sn window modulus distance count_for data_pdu decoded read_data read_report keystream counter_block stream_blocks report_pdu
row_21_is_right = refl

row_38_is_right : breaks (a_header Nea0 0 (replicate 32 0)) (
    an_entry (event.Bearer 1 S12 0 (a_shape false Mcg false) 0 0) answer.Ok (line.Note (note.Own M 1 1) ∷ line.Send (link M T Ctl) (flight.Ctl (rec.Reconf (a_plan 1 None (Set 1 S12 0 (a_shape false Mcg false) 0 0 (a_key 0 Master) None ∷ [])) [])) ∷ [])
    ∷ an_entry (event.Step (link M T Ctl) 0) answer.Ok (line.Note (note.Set 1 1) ∷ line.Send (link T M Ctl) (flight.Ctl (rec.Rcomp 1)) ∷ [])
    ∷ an_entry (event.Step (link T M Ctl) 0) answer.Ok (line.Note note.Done ∷ [])
    ∷ an_entry (event.Add A) answer.Ok (line.Send (link M A Ctl) (flight.Ctl (rec.Addreq (a_plan 2 (Some A) []) [])) ∷ [])
    ∷ an_entry (event.Step (link M A Ctl) 0) answer.Ok (line.Note (note.Join A 2) ∷ line.Send (link A M Ctl) (flight.Ctl (rec.Addack 2)) ∷ [])
    ∷ an_entry (event.Step (link A M Ctl) 0) answer.Ok (line.Send (link M T Ctl) (flight.Ctl (rec.Reconf (a_plan 2 (Some A) []) [])) ∷ [])
    ∷ an_entry (event.Step (link M T Ctl) 0) answer.Ok (line.Send (link T M Ctl) (flight.Ctl (rec.Rcomp 2)) ∷ [])
    ∷ an_entry (event.Step (link T M Ctl) 0) answer.Ok (line.Send (link M A Ctl) (flight.Ctl (rec.Recfg 2)) ∷ line.Note note.Done ∷ [])
    ∷ an_entry (event.Step (link M A Ctl) 0) answer.Ok []
    ∷ an_entry (event.Reshape 1 (a_shape false (Split cell.Mcg) false)) answer.Ok (line.Send (link M A Ctl) (flight.Ctl (rec.Modreq (a_plan 3 (Some A) (Set 1 S12 0 (a_shape false (Split cell.Mcg) false) 0 0 (a_key 0 Master) (Some M) ∷ [])) [])) ∷ [])
    ∷ an_entry (event.Step (link M A Ctl) 0) answer.Ok (line.Send (link A M Ctl) (flight.Ctl (rec.Modack 3)) ∷ [])
    ∷ an_entry (event.Step (link A M Ctl) 0) answer.Ok (line.Note (note.Own M 1 3) ∷ line.Send (link M T Ctl) (flight.Ctl (rec.Reconf (a_plan 3 (Some A) (Set 1 S12 0 (a_shape false (Split cell.Mcg) false) 0 0 (a_key 0 Master) (Some M) ∷ [])) [])) ∷ [])
    ∷ an_entry (event.Step (link M T Ctl) 0) answer.Ok (line.Note (note.Set 1 3) ∷ line.Send (link T M Ctl) (flight.Ctl (rec.Rcomp 3)) ∷ [])
    ∷ an_entry (event.Step (link T M Ctl) 0) answer.Ok (line.Send (link M A Ctl) (flight.Ctl (rec.Recfg 3)) ∷ line.Note note.Done ∷ [])
    ∷ an_entry (event.Step (link M A Ctl) 0) answer.Ok []
    ∷ an_entry (event.Release) answer.Ok (line.Send (link M A Ctl) (flight.Ctl (rec.Relreq (a_plan 4 None (Set 1 S12 0 (a_shape false Mcg false) 0 0 (a_key 0 Master) (Some M) ∷ [])))) ∷ [])
    ∷ an_entry (event.Step (link M A Ctl) 0) answer.Ok (line.Note (note.Leave A 4) ∷ line.Send (link A M Ctl) (flight.Ctl (rec.Relack 4)) ∷ [])
    ∷ an_entry (event.Step (link A M Ctl) 0) answer.Ok (line.Note (note.Own M 1 4) ∷ line.Send (link M T Ctl) (flight.Ctl (rec.Reconf (a_plan 4 None (Set 1 S12 0 (a_shape false Mcg false) 0 0 (a_key 0 Master) (Some M) ∷ [])) [])) ∷ [])
    ∷ an_entry (event.Step (link M T Ctl) 0) answer.Ok (line.Note (note.Set 1 4) ∷ line.Send (link T M Ctl) (flight.Ctl (rec.Rcomp 4)) ∷ [])
    ∷ an_entry (event.Step (link T M Ctl) 0) answer.Ok (line.Send (link M A Ctl) (flight.Ctl (rec.Uecr 4)) ∷ line.Note note.Done ∷ [])
    ∷ an_entry (event.Step (link M A Ctl) 0) answer.Ok []
    ∷ []) ≡ []
unfolding sn window modulus distance count_for data_pdu decoded read_data read_report keystream counter_block stream_blocks report_pdu
row_38_is_right = refl

row_39_is_right : breaks (a_header Nea0 65536 (replicate 32 0)) (
    an_entry (event.Add A) (answer.No refusal.CounterSpent) []
    ∷ []) ≡ []
unfolding sn window modulus distance count_for data_pdu decoded read_data read_report keystream counter_block stream_blocks report_pdu
row_39_is_right = refl

row_41_is_right : breaks (a_header Nea0 0 (replicate 32 0)) (
    an_entry (event.Add A) answer.Ok (line.Send (link M A Ctl) (flight.Ctl (rec.Addreq (a_plan 1 (Some A) []) [])) ∷ [])
    ∷ an_entry (event.Step (link M A Ctl) 0) answer.Ok (line.Note (note.Join A 1) ∷ line.Send (link A M Ctl) (flight.Ctl (rec.Addack 1)) ∷ [])
    ∷ an_entry (event.Step (link A M Ctl) 0) answer.Ok (line.Send (link M T Ctl) (flight.Ctl (rec.Reconf (a_plan 1 (Some A) []) [])) ∷ [])
    ∷ an_entry (event.Step (link M T Ctl) 0) answer.Ok (line.Send (link T M Ctl) (flight.Ctl (rec.Rcomp 1)) ∷ [])
    ∷ an_entry (event.Step (link T M Ctl) 0) answer.Ok (line.Send (link M A Ctl) (flight.Ctl (rec.Recfg 1)) ∷ line.Note note.Done ∷ [])
    ∷ an_entry (event.Step (link M A Ctl) 0) answer.Ok []
    ∷ an_entry (event.Bearer 1 S12 0 (a_shape true Scg false) 0 0) answer.Ok (line.Send (link M A Ctl) (flight.Ctl (rec.Modreq (a_plan 2 (Some A) (Set 1 S12 0 (a_shape true Scg false) 0 0 (a_key 0 (SecondKey 0)) None ∷ [])) [])) ∷ [])
    ∷ an_entry (event.Step (link M A Ctl) 0) answer.Ok (line.Note (note.Own A 1 2) ∷ line.Send (link A M Ctl) (flight.Ctl (rec.Modack 2)) ∷ [])
    ∷ an_entry (event.Step (link A M Ctl) 0) answer.Ok (line.Send (link M T Ctl) (flight.Ctl (rec.Reconf (a_plan 2 (Some A) (Set 1 S12 0 (a_shape true Scg false) 0 0 (a_key 0 (SecondKey 0)) None ∷ [])) [])) ∷ [])
    ∷ an_entry (event.Step (link M T Ctl) 0) answer.Ok (line.Note (note.Set 1 2) ∷ line.Send (link T M Ctl) (flight.Ctl (rec.Rcomp 2)) ∷ [])
    ∷ an_entry (event.Step (link T M Ctl) 0) answer.Ok (line.Send (link M A Ctl) (flight.Ctl (rec.Recfg 2)) ∷ line.Note note.Done ∷ [])
    ∷ an_entry (event.Step (link M A Ctl) 0) answer.Ok []
    ∷ an_entry (event.RekeySecond) answer.Ok (line.Send (link M A Ctl) (flight.Ctl (rec.Modreq (a_plan 3 (Some A) (Set 1 S12 0 (a_shape true Scg false) 0 0 (a_key 0 (SecondKey 1)) (Some A) ∷ [])) [])) ∷ [])
    ∷ an_entry (event.Step (link M A Ctl) 0) answer.Ok (line.Note (note.Own A 1 3) ∷ line.Send (link A M Ctl) (flight.Ctl (rec.Modack 3)) ∷ [])
    ∷ an_entry (event.Step (link A M Ctl) 0) answer.Ok (line.Send (link M T Ctl) (flight.Ctl (rec.Reconf (a_plan 3 (Some A) (Set 1 S12 0 (a_shape true Scg false) 0 0 (a_key 0 (SecondKey 1)) (Some A) ∷ [])) [])) ∷ [])
    ∷ an_entry (event.Step (link M T Ctl) 0) answer.Ok (line.Note (note.Set 1 3) ∷ line.Send (link T M Ctl) (flight.Ctl (rec.Rcomp 3)) ∷ [])
    ∷ an_entry (event.Step (link T M Ctl) 0) answer.Ok (line.Send (link M A Ctl) (flight.Ctl (rec.Recfg 3)) ∷ line.Note note.Done ∷ [])
    ∷ an_entry (event.Step (link M A Ctl) 0) answer.Ok []
    ∷ []) ≡ []
unfolding sn window modulus distance count_for data_pdu decoded read_data read_report keystream counter_block stream_blocks report_pdu
row_41_is_right = refl

row_42_is_right : breaks (a_header Nea0 0 (replicate 32 0)) (
    an_entry (event.Bearer 1 S12 0 (a_shape false Mcg false) 0 0) answer.Ok (line.Note (note.Own M 1 1) ∷ line.Send (link M T Ctl) (flight.Ctl (rec.Reconf (a_plan 1 None (Set 1 S12 0 (a_shape false Mcg false) 0 0 (a_key 0 Master) None ∷ [])) [])) ∷ [])
    ∷ an_entry (event.Step (link M T Ctl) 0) answer.Ok (line.Note (note.Set 1 1) ∷ line.Send (link T M Ctl) (flight.Ctl (rec.Rcomp 1)) ∷ [])
    ∷ an_entry (event.Step (link T M Ctl) 0) answer.Ok (line.Note note.Done ∷ [])
    ∷ an_entry (event.Add A) answer.Ok (line.Send (link M A Ctl) (flight.Ctl (rec.Addreq (a_plan 2 (Some A) []) [])) ∷ [])
    ∷ an_entry (event.Step (link M A Ctl) 0) answer.Ok (line.Note (note.Join A 2) ∷ line.Send (link A M Ctl) (flight.Ctl (rec.Addack 2)) ∷ [])
    ∷ an_entry (event.Step (link A M Ctl) 0) answer.Ok (line.Send (link M T Ctl) (flight.Ctl (rec.Reconf (a_plan 2 (Some A) []) [])) ∷ [])
    ∷ an_entry (event.Step (link M T Ctl) 0) answer.Ok (line.Send (link T M Ctl) (flight.Ctl (rec.Rcomp 2)) ∷ [])
    ∷ an_entry (event.Step (link T M Ctl) 0) answer.Ok (line.Send (link M A Ctl) (flight.Ctl (rec.Recfg 2)) ∷ line.Note note.Done ∷ [])
    ∷ an_entry (event.Step (link M A Ctl) 0) answer.Ok []
    ∷ an_entry (event.Reshape 1 (a_shape true Scg false)) answer.Ok (line.Send (link M A Ctl) (flight.Ctl (rec.Modreq (a_plan 3 (Some A) (Set 1 S12 0 (a_shape true Scg false) 0 0 (a_key 0 (SecondKey 0)) (Some M) ∷ [])) [])) ∷ [])
    ∷ an_entry (event.Step (link M A Ctl) 0) answer.Ok (line.Send (link A M Ctl) (flight.Ctl (rec.Modack 3)) ∷ [])
    ∷ an_entry (event.Step (link A M Ctl) 0) answer.Ok (line.Note (note.Give M 1 3) ∷ line.Send (link M T Ctl) (flight.Ctl (rec.Reconf (a_plan 3 (Some A) (Set 1 S12 0 (a_shape true Scg false) 0 0 (a_key 0 (SecondKey 0)) (Some M) ∷ [])) [])) ∷ line.Send (link M A Ctl) (flight.Ctl (rec.Snst (a_transfer 3 1 0 [] 0))) ∷ line.Send (link M A Tun) (flight.Tun None (52 ∷ 255 ∷ 0 ∷ 12 ∷ 0 ∷ 0 ∷ 1 ∷ 129 ∷ 0 ∷ 0 ∷ 0 ∷ 132 ∷ 2 ∷ 0 ∷ 0 ∷ 0 ∷ 0 ∷ 0 ∷ 0 ∷ 0 ∷ [])) ∷ line.Send (link M A Tun) (flight.Tun None (48 ∷ 254 ∷ 0 ∷ 0 ∷ 0 ∷ 0 ∷ 1 ∷ 129 ∷ [])) ∷ line.Send (link M A Tun) (flight.Tun None (52 ∷ 255 ∷ 0 ∷ 12 ∷ 0 ∷ 0 ∷ 1 ∷ 130 ∷ 0 ∷ 0 ∷ 0 ∷ 132 ∷ 2 ∷ 0 ∷ 0 ∷ 0 ∷ 0 ∷ 0 ∷ 0 ∷ 0 ∷ [])) ∷ line.Send (link M A Tun) (flight.Tun None (48 ∷ 254 ∷ 0 ∷ 0 ∷ 0 ∷ 0 ∷ 1 ∷ 130 ∷ [])) ∷ [])
    ∷ an_entry (event.Step (link M T Ctl) 0) answer.Ok (line.Note (note.Set 1 3) ∷ line.Send (link T M Ctl) (flight.Ctl (rec.Rcomp 3)) ∷ [])
    ∷ an_entry (event.Step (link T M Ctl) 0) answer.Ok (line.Send (link M A Ctl) (flight.Ctl (rec.Recfg 3)) ∷ [])
    ∷ an_entry (event.Step (link M A Ctl) 0) answer.Ok []
    ∷ an_entry (event.Step (link M A Ctl) 0) answer.Ok []
    ∷ an_entry (event.Step (link M A Tun) 0) answer.Ok []
    ∷ an_entry (event.Step (link M A Tun) 0) answer.Ok []
    ∷ an_entry (event.Step (link M A Tun) 0) answer.Ok (line.Note (note.Own A 1 3) ∷ line.Send (link A M Ctl) (flight.Ctl (rec.Moved 3 1)) ∷ [])
    ∷ an_entry (event.Step (link A M Ctl) 0) answer.Ok (line.Note note.Done ∷ [])
    ∷ an_entry (event.Step (link M A Tun) 0) answer.Ok []
    ∷ an_entry (event.Change) answer.Ok (line.Send (link M B Ctl) (flight.Ctl (rec.Addreq (a_plan 4 (Some B) (Set 1 S12 0 (a_shape true Scg false) 0 0 (a_key 0 (SecondKey 1)) (Some A) ∷ [])) [])) ∷ [])
    ∷ an_entry (event.Step (link M B Ctl) 0) answer.Ok (line.Note (note.Join B 4) ∷ line.Send (link B M Ctl) (flight.Ctl (rec.Addack 4)) ∷ [])
    ∷ an_entry (event.Step (link B M Ctl) 0) answer.Ok (line.Send (link M T Ctl) (flight.Ctl (rec.Reconf (a_plan 4 (Some B) (Set 1 S12 0 (a_shape true Scg false) 0 0 (a_key 0 (SecondKey 1)) (Some A) ∷ [])) [])) ∷ line.Send (link M A Ctl) (flight.Ctl (rec.Relreq (a_plan 4 (Some B) (Set 1 S12 0 (a_shape true Scg false) 0 0 (a_key 0 (SecondKey 1)) (Some A) ∷ [])))) ∷ line.Send (link M A Feed) (flight.End 1 4) ∷ [])
    ∷ an_entry (event.Step (link M T Ctl) 0) answer.Ok (line.Note (note.Set 1 4) ∷ line.Send (link T M Ctl) (flight.Ctl (rec.Rcomp 4)) ∷ [])
    ∷ an_entry (event.Step (link T M Ctl) 0) answer.Ok (line.Send (link M B Ctl) (flight.Ctl (rec.Recfg 4)) ∷ [])
    ∷ an_entry (event.Step (link M A Ctl) 0) answer.Ok (line.Note (note.Leave A 4) ∷ line.Note (note.Give A 1 4) ∷ line.Send (link A M Ctl) (flight.Ctl (rec.Relack 4)) ∷ line.Send (link A M Ctl) (flight.Ctl (rec.Snst (a_transfer 4 1 0 [] 0))) ∷ line.Send (link A B Tun) (flight.Tun None (52 ∷ 255 ∷ 0 ∷ 12 ∷ 0 ∷ 0 ∷ 2 ∷ 2 ∷ 0 ∷ 0 ∷ 0 ∷ 132 ∷ 2 ∷ 0 ∷ 0 ∷ 0 ∷ 0 ∷ 0 ∷ 0 ∷ 0 ∷ [])) ∷ line.Send (link A B Tun) (flight.Tun None (48 ∷ 254 ∷ 0 ∷ 0 ∷ 0 ∷ 0 ∷ 2 ∷ 2 ∷ [])) ∷ [])
    ∷ an_entry (event.Step (link A M Ctl) 0) answer.Ok []
    ∷ an_entry (event.Step (link A M Ctl) 0) answer.Ok (line.Send (link M B Ctl) (flight.Ctl (rec.Snst (a_transfer 4 1 0 [] 0))) ∷ [])
    ∷ an_entry (event.Step (link M B Ctl) 0) answer.Ok []
    ∷ an_entry (event.Step (link M B Ctl) 0) answer.Ok []
    ∷ an_entry (event.Step (link M A Feed) 0) answer.Ok (line.Send (link A B Tun) (flight.Tun None (52 ∷ 255 ∷ 0 ∷ 12 ∷ 0 ∷ 0 ∷ 2 ∷ 1 ∷ 0 ∷ 0 ∷ 0 ∷ 132 ∷ 2 ∷ 0 ∷ 0 ∷ 0 ∷ 0 ∷ 0 ∷ 0 ∷ 0 ∷ [])) ∷ line.Send (link A B Tun) (flight.Tun None (48 ∷ 254 ∷ 0 ∷ 0 ∷ 0 ∷ 0 ∷ 2 ∷ 1 ∷ [])) ∷ [])
    ∷ an_entry (event.Step (link A B Tun) 0) answer.Ok []
    ∷ an_entry (event.Step (link A B Tun) 0) answer.Ok []
    ∷ an_entry (event.Step (link A B Tun) 0) answer.Ok (line.Note (note.Own B 1 4) ∷ line.Send (link B M Ctl) (flight.Ctl (rec.Moved 4 1)) ∷ [])
    ∷ an_entry (event.Step (link B M Ctl) 0) answer.Ok (line.Send (link M A Ctl) (flight.Ctl (rec.Uecr 4)) ∷ line.Note note.Done ∷ [])
    ∷ an_entry (event.Step (link M A Ctl) 0) answer.Ok []
    ∷ an_entry (event.Step (link A B Tun) 0) answer.Ok []
    ∷ []) ≡ []
unfolding sn window modulus distance count_for data_pdu decoded read_data read_report keystream counter_block stream_blocks report_pdu
row_42_is_right = refl

adoption_with_fresh_sdus_forwarded_is_right : breaks (a_header Nea0 0 (10 ∷ 175 ∷ 9 ∷ 87 ∷ 137 ∷ 209 ∷ 37 ∷ 124 ∷ 42 ∷ 3 ∷ 98 ∷ 33 ∷ 197 ∷ 236 ∷ 156 ∷ 1 ∷ 2 ∷ 214 ∷ 184 ∷ 148 ∷ 224 ∷ 108 ∷ 128 ∷ 111 ∷ 240 ∷ 9 ∷ 239 ∷ 141 ∷ 208 ∷ 227 ∷ 74 ∷ 135 ∷ [])) (
    an_entry (event.Add B) answer.Ok (line.Send (link M B Ctl) (flight.Ctl (rec.Addreq (a_plan 1 (Some B) []) [])) ∷ [])
    ∷ an_entry (event.Step (link M B Ctl) 0) answer.Ok (line.Note (note.Join B 1) ∷ line.Send (link B M Ctl) (flight.Ctl (rec.Addack 1)) ∷ [])
    ∷ an_entry (event.Step (link B M Ctl) 0) answer.Ok (line.Send (link M T Ctl) (flight.Ctl (rec.Reconf (a_plan 1 (Some B) []) [])) ∷ [])
    ∷ an_entry (event.Step (link M T Ctl) 0) answer.Ok (line.Send (link T M Ctl) (flight.Ctl (rec.Rcomp 1)) ∷ [])
    ∷ an_entry (event.Step (link T M Ctl) 0) answer.Ok (line.Send (link M B Ctl) (flight.Ctl (rec.Recfg 1)) ∷ line.Note note.Done ∷ [])
    ∷ an_entry (event.Step (link M B Ctl) 0) answer.Ok []
    ∷ an_entry (event.Bearer 4 S12 2039 (a_shape true Mcg false) 10 1) answer.Ok (line.Send (link M B Ctl) (flight.Ctl (rec.Modreq (a_plan 2 (Some B) (Set 4 S12 2039 (a_shape true Mcg false) 10 1 (a_key 0 (SecondKey 0)) None ∷ [])) [])) ∷ [])
    ∷ an_entry (event.Step (link M B Ctl) 0) answer.Ok (line.Note (note.Own B 4 2) ∷ line.Send (link B M Ctl) (flight.Ctl (rec.Modack 2)) ∷ [])
    ∷ an_entry (event.Step (link B M Ctl) 0) answer.Ok (line.Send (link M T Ctl) (flight.Ctl (rec.Reconf (a_plan 2 (Some B) (Set 4 S12 2039 (a_shape true Mcg false) 10 1 (a_key 0 (SecondKey 0)) None ∷ [])) [])) ∷ [])
    ∷ an_entry (event.Step (link M T Ctl) 0) answer.Ok (line.Note (note.Set 4 2) ∷ line.Send (link T M Ctl) (flight.Ctl (rec.Rcomp 2)) ∷ [])
    ∷ an_entry (event.Step (link T M Ctl) 0) answer.Ok (line.Send (link M B Ctl) (flight.Ctl (rec.Recfg 2)) ∷ line.Note note.Done ∷ [])
    ∷ an_entry (event.Step (link M B Ctl) 0) answer.Ok []
    ∷ an_entry (event.Ask B want.Release) answer.Ok (line.Send (link B M Ctl) (flight.Ctl (rec.Relrqd)) ∷ [])
    ∷ an_entry (event.Submit 4 Dl (0 ∷ 0 ∷ 0 ∷ 3 ∷ [])) answer.Ok (line.Send (link M B Feed) (flight.Sdu 4 2 (0 ∷ 0 ∷ 0 ∷ 3 ∷ [])) ∷ [])
    ∷ an_entry (event.Step (link B M Ctl) 0) answer.Ok (line.Note (note.Begin want.Release) ∷ line.Send (link M T Ctl) (flight.Ctl (rec.Reconf (a_plan 3 None (Set 4 S12 2039 (a_shape false Mcg false) 10 1 (a_key 0 Master) (Some B) ∷ [])) [])) ∷ line.Send (link M B Ctl) (flight.Ctl (rec.Relcnf (a_plan 3 None (Set 4 S12 2039 (a_shape false Mcg false) 10 1 (a_key 0 Master) (Some B) ∷ [])))) ∷ line.Send (link M B Feed) (flight.End 4 3) ∷ [])
    ∷ an_entry (event.Step (link M T Ctl) 0) answer.Ok (line.Note (note.Set 4 3) ∷ line.Send (link T M Ctl) (flight.Ctl (rec.Rcomp 3)) ∷ [])
    ∷ an_entry (event.Step (link T M Ctl) 0) answer.Ok []
    ∷ an_entry (event.Step (link M B Ctl) 0) answer.Ok (line.Note (note.Leave B 3) ∷ line.Note (note.Give B 4 3) ∷ line.Send (link B M Ctl) (flight.Ctl (rec.Snst (a_transfer 3 4 2039 [] 2039))) ∷ line.Send (link B M Tun) (flight.Tun None (52 ∷ 255 ∷ 0 ∷ 12 ∷ 0 ∷ 0 ∷ 1 ∷ 142 ∷ 0 ∷ 0 ∷ 0 ∷ 132 ∷ 2 ∷ 0 ∷ 0 ∷ 0 ∷ 0 ∷ 0 ∷ 0 ∷ 0 ∷ [])) ∷ line.Send (link B M Tun) (flight.Tun None (48 ∷ 254 ∷ 0 ∷ 0 ∷ 0 ∷ 0 ∷ 1 ∷ 142 ∷ [])) ∷ line.Note (note.Confirmed B) ∷ [])
    ∷ an_entry (event.Step (link B M Ctl) 0) answer.Ok []
    ∷ an_entry (event.Step (link M B Feed) 0) answer.Ok (line.Send (link B M Tun) (flight.Tun None (52 ∷ 255 ∷ 0 ∷ 16 ∷ 0 ∷ 0 ∷ 1 ∷ 141 ∷ 0 ∷ 0 ∷ 0 ∷ 132 ∷ 2 ∷ 1 ∷ 0 ∷ 0 ∷ 0 ∷ 0 ∷ 0 ∷ 0 ∷ 0 ∷ 0 ∷ 0 ∷ 3 ∷ [])) ∷ [])
    ∷ an_entry (event.Step (link M B Feed) 0) answer.Ok (line.Send (link B M Tun) (flight.Tun None (52 ∷ 255 ∷ 0 ∷ 12 ∷ 0 ∷ 0 ∷ 1 ∷ 141 ∷ 0 ∷ 0 ∷ 0 ∷ 132 ∷ 2 ∷ 0 ∷ 0 ∷ 0 ∷ 1 ∷ 0 ∷ 0 ∷ 0 ∷ [])) ∷ line.Send (link B M Tun) (flight.Tun None (48 ∷ 254 ∷ 0 ∷ 0 ∷ 0 ∷ 0 ∷ 1 ∷ 141 ∷ [])) ∷ [])
    ∷ an_entry (event.Step (link B M Tun) 0) answer.Ok []
    ∷ an_entry (event.Step (link B M Tun) 0) answer.Ok []
    ∷ an_entry (event.Step (link B M Tun) 0) answer.Ok []
    ∷ an_entry (event.Step (link B M Tun) 0) answer.Ok (line.Note (note.Own M 4 3) ∷ line.Send (link M B Ctl) (flight.Ctl (rec.Uecr 3)) ∷ line.Send (link M T Air) (flight.Air 4 3 0 (Some 2039) (135 ∷ 247 ∷ 0 ∷ 0 ∷ 0 ∷ 3 ∷ [])) ∷ line.Note note.Done ∷ [])
    ∷ an_entry (event.Step (link M B Ctl) 0) answer.Ok []
    ∷ an_entry (event.Step (link M T Air) 0) answer.Ok (line.Note (note.Up T 4 Dl 2039 (0 ∷ 0 ∷ 0 ∷ 3 ∷ [])) ∷ line.Send (link T M Air) (flight.Ack 4 3 0) ∷ [])
    ∷ an_entry (event.Step (link T M Air) 0) answer.Ok (line.Note (note.Freed 4 Dl 2040) ∷ [])
    ∷ an_entry (event.Step (link B M Tun) 0) answer.Ok []
    ∷ []) ≡ []
unfolding sn window modulus distance count_for data_pdu decoded read_data read_report keystream counter_block stream_blocks report_pdu
adoption_with_fresh_sdus_forwarded_is_right = refl

adoption_with_stored_uplink_sdus_is_right : breaks (a_header Nea0 0 (10 ∷ 175 ∷ 9 ∷ 87 ∷ 137 ∷ 209 ∷ 37 ∷ 124 ∷ 42 ∷ 3 ∷ 98 ∷ 33 ∷ 197 ∷ 236 ∷ 156 ∷ 1 ∷ 2 ∷ 214 ∷ 184 ∷ 148 ∷ 224 ∷ 108 ∷ 128 ∷ 111 ∷ 240 ∷ 9 ∷ 239 ∷ 141 ∷ 208 ∷ 227 ∷ 74 ∷ 135 ∷ [])) (
    an_entry (event.Add B) answer.Ok (line.Send (link M B Ctl) (flight.Ctl (rec.Addreq (a_plan 1 (Some B) []) [])) ∷ [])
    ∷ an_entry (event.Step (link M B Ctl) 0) answer.Ok (line.Note (note.Join B 1) ∷ line.Send (link B M Ctl) (flight.Ctl (rec.Addack 1)) ∷ [])
    ∷ an_entry (event.Step (link B M Ctl) 0) answer.Ok (line.Send (link M T Ctl) (flight.Ctl (rec.Reconf (a_plan 1 (Some B) []) [])) ∷ [])
    ∷ an_entry (event.Step (link M T Ctl) 0) answer.Ok (line.Send (link T M Ctl) (flight.Ctl (rec.Rcomp 1)) ∷ [])
    ∷ an_entry (event.Step (link T M Ctl) 0) answer.Ok (line.Send (link M B Ctl) (flight.Ctl (rec.Recfg 1)) ∷ line.Note note.Done ∷ [])
    ∷ an_entry (event.Step (link M B Ctl) 0) answer.Ok []
    ∷ an_entry (event.Bearer 4 S12 2039 (a_shape true Mcg false) 10 1) answer.Ok (line.Send (link M B Ctl) (flight.Ctl (rec.Modreq (a_plan 2 (Some B) (Set 4 S12 2039 (a_shape true Mcg false) 10 1 (a_key 0 (SecondKey 0)) None ∷ [])) [])) ∷ [])
    ∷ an_entry (event.Step (link M B Ctl) 0) answer.Ok (line.Note (note.Own B 4 2) ∷ line.Send (link B M Ctl) (flight.Ctl (rec.Modack 2)) ∷ [])
    ∷ an_entry (event.Step (link B M Ctl) 0) answer.Ok (line.Send (link M T Ctl) (flight.Ctl (rec.Reconf (a_plan 2 (Some B) (Set 4 S12 2039 (a_shape true Mcg false) 10 1 (a_key 0 (SecondKey 0)) None ∷ [])) [])) ∷ [])
    ∷ an_entry (event.Step (link M T Ctl) 0) answer.Ok (line.Note (note.Set 4 2) ∷ line.Send (link T M Ctl) (flight.Ctl (rec.Rcomp 2)) ∷ [])
    ∷ an_entry (event.Step (link T M Ctl) 0) answer.Ok (line.Send (link M B Ctl) (flight.Ctl (rec.Recfg 2)) ∷ line.Note note.Done ∷ [])
    ∷ an_entry (event.Step (link M B Ctl) 0) answer.Ok []
    ∷ an_entry (event.Ask B want.Release) answer.Ok (line.Send (link B M Ctl) (flight.Ctl (rec.Relrqd)) ∷ [])
    ∷ an_entry (event.Submit 4 Ul (0 ∷ 0 ∷ 0 ∷ 16 ∷ [])) answer.Ok (line.Send (link T M Air) (flight.Air 4 2 0 (Some 2039) (135 ∷ 247 ∷ 0 ∷ 0 ∷ 0 ∷ 16 ∷ [])) ∷ [])
    ∷ an_entry (event.Submit 4 Ul (0 ∷ 0 ∷ 0 ∷ 17 ∷ [])) answer.Ok (line.Send (link T M Air) (flight.Air 4 2 1 (Some 2040) (135 ∷ 248 ∷ 0 ∷ 0 ∷ 0 ∷ 17 ∷ [])) ∷ [])
    ∷ an_entry (event.Step (link T M Air) 0) answer.Ok (line.Send (link M T Air) (flight.Ack 4 2 0) ∷ line.Send (link M B Tun) (flight.Tun (Some 2039) (48 ∷ 255 ∷ 0 ∷ 6 ∷ 0 ∷ 0 ∷ 1 ∷ 12 ∷ 135 ∷ 247 ∷ 0 ∷ 0 ∷ 0 ∷ 16 ∷ [])) ∷ [])
    ∷ an_entry (event.Lose (link M B Tun) 0) answer.Ok []
    ∷ an_entry (event.Step (link T M Air) 0) answer.Ok (line.Send (link M T Air) (flight.Ack 4 2 1) ∷ line.Send (link M B Tun) (flight.Tun (Some 2040) (48 ∷ 255 ∷ 0 ∷ 6 ∷ 0 ∷ 0 ∷ 1 ∷ 12 ∷ 135 ∷ 248 ∷ 0 ∷ 0 ∷ 0 ∷ 17 ∷ [])) ∷ [])
    ∷ an_entry (event.Step (link M B Tun) 0) answer.Ok []
    ∷ an_entry (event.Step (link B M Ctl) 0) answer.Ok (line.Note (note.Begin want.Release) ∷ line.Send (link M T Ctl) (flight.Ctl (rec.Reconf (a_plan 3 None (Set 4 S12 2039 (a_shape false Mcg false) 10 1 (a_key 0 Master) (Some B) ∷ [])) [])) ∷ line.Send (link M B Ctl) (flight.Ctl (rec.Relcnf (a_plan 3 None (Set 4 S12 2039 (a_shape false Mcg false) 10 1 (a_key 0 Master) (Some B) ∷ [])))) ∷ line.Send (link M B Feed) (flight.End 4 3) ∷ [])
    ∷ an_entry (event.Step (link M T Ctl) 0) answer.Ok (line.Note (note.Set 4 3) ∷ line.Send (link T M Ctl) (flight.Ctl (rec.Rcomp 3)) ∷ line.Send (link T M Air) (flight.Air 4 3 0 (Some 2039) (135 ∷ 247 ∷ 0 ∷ 0 ∷ 0 ∷ 16 ∷ [])) ∷ line.Send (link T M Air) (flight.Air 4 3 1 (Some 2040) (135 ∷ 248 ∷ 0 ∷ 0 ∷ 0 ∷ 17 ∷ [])) ∷ [])
    ∷ an_entry (event.Step (link T M Ctl) 0) answer.Ok []
    ∷ an_entry (event.Step (link M B Ctl) 0) answer.Ok (line.Note (note.Leave B 3) ∷ line.Note (note.Give B 4 3) ∷ line.Send (link B M Ctl) (flight.Ctl (rec.Snst (a_transfer 3 4 2039 (128 ∷ []) 2039))) ∷ line.Send (link B M Tun) (flight.Tun None (52 ∷ 255 ∷ 0 ∷ 20 ∷ 0 ∷ 0 ∷ 1 ∷ 142 ∷ 0 ∷ 0 ∷ 0 ∷ 132 ∷ 2 ∷ 1 ∷ 0 ∷ 0 ∷ 0 ∷ 0 ∷ 0 ∷ 192 ∷ 1 ∷ 7 ∷ 248 ∷ 0 ∷ 0 ∷ 0 ∷ 0 ∷ 17 ∷ [])) ∷ line.Send (link B M Tun) (flight.Tun None (52 ∷ 255 ∷ 0 ∷ 12 ∷ 0 ∷ 0 ∷ 1 ∷ 142 ∷ 0 ∷ 0 ∷ 0 ∷ 132 ∷ 2 ∷ 0 ∷ 0 ∷ 0 ∷ 1 ∷ 0 ∷ 0 ∷ 0 ∷ [])) ∷ line.Send (link B M Tun) (flight.Tun None (48 ∷ 254 ∷ 0 ∷ 0 ∷ 0 ∷ 0 ∷ 1 ∷ 142 ∷ [])) ∷ line.Note (note.Confirmed B) ∷ [])
    ∷ an_entry (event.Step (link B M Ctl) 0) answer.Ok []
    ∷ an_entry (event.Step (link M B Feed) 0) answer.Ok (line.Send (link B M Tun) (flight.Tun None (52 ∷ 255 ∷ 0 ∷ 12 ∷ 0 ∷ 0 ∷ 1 ∷ 141 ∷ 0 ∷ 0 ∷ 0 ∷ 132 ∷ 2 ∷ 0 ∷ 0 ∷ 0 ∷ 0 ∷ 0 ∷ 0 ∷ 0 ∷ [])) ∷ line.Send (link B M Tun) (flight.Tun None (48 ∷ 254 ∷ 0 ∷ 0 ∷ 0 ∷ 0 ∷ 1 ∷ 141 ∷ [])) ∷ [])
    ∷ an_entry (event.Step (link M T Air) 0) answer.Ok []
    ∷ an_entry (event.Step (link M T Air) 0) answer.Ok []
    ∷ an_entry (event.Step (link T M Air) 0) answer.Ok (line.Send (link M T Air) (flight.Ack 4 3 0) ∷ [])
    ∷ an_entry (event.Step (link M T Air) 0) answer.Ok []
    ∷ an_entry (event.Step (link T M Air) 0) answer.Ok (line.Send (link M T Air) (flight.Ack 4 3 1) ∷ [])
    ∷ an_entry (event.Step (link M T Air) 0) answer.Ok []
    ∷ an_entry (event.Step (link B M Tun) 0) answer.Ok []
    ∷ an_entry (event.Step (link B M Tun) 0) answer.Ok []
    ∷ an_entry (event.Step (link B M Tun) 0) answer.Ok []
    ∷ an_entry (event.Step (link B M Tun) 0) answer.Ok (line.Note (note.Own M 4 3) ∷ line.Note (note.Up M 4 Ul 2039 (0 ∷ 0 ∷ 0 ∷ 16 ∷ [])) ∷ line.Note (note.Up M 4 Ul 2040 (0 ∷ 0 ∷ 0 ∷ 17 ∷ [])) ∷ line.Send (link M B Ctl) (flight.Ctl (rec.Uecr 3)) ∷ line.Note note.Done ∷ [])
    ∷ an_entry (event.Step (link M B Ctl) 0) answer.Ok []
    ∷ an_entry (event.Step (link B M Tun) 0) answer.Ok []
    ∷ []) ≡ []
unfolding sn window modulus distance count_for data_pdu decoded read_data read_report keystream counter_block stream_blocks report_pdu
adoption_with_stored_uplink_sdus_is_right = refl

chgref_rejected_context_true_is_right : breaks (a_header Nea0 5 (228 ∷ 222 ∷ 197 ∷ 132 ∷ 72 ∷ 10 ∷ 223 ∷ 124 ∷ 197 ∷ 91 ∷ 42 ∷ 183 ∷ 166 ∷ 64 ∷ 78 ∷ 255 ∷ 146 ∷ 24 ∷ 25 ∷ 55 ∷ 147 ∷ 248 ∷ 34 ∷ 208 ∷ 190 ∷ 10 ∷ 127 ∷ 224 ∷ 62 ∷ 63 ∷ 181 ∷ 56 ∷ [])) (
    an_entry (event.Add B) answer.Ok (line.Send (link M B Ctl) (flight.Ctl (rec.Addreq (a_plan 1 (Some B) []) [])) ∷ [])
    ∷ an_entry (event.Step (link M B Ctl) 0) answer.Ok (line.Note (note.Join B 1) ∷ line.Send (link B M Ctl) (flight.Ctl (rec.Addack 1)) ∷ [])
    ∷ an_entry (event.Step (link B M Ctl) 0) answer.Ok (line.Send (link M T Ctl) (flight.Ctl (rec.Reconf (a_plan 1 (Some B) []) [])) ∷ [])
    ∷ an_entry (event.Step (link M T Ctl) 0) answer.Ok (line.Send (link T M Ctl) (flight.Ctl (rec.Rcomp 1)) ∷ [])
    ∷ an_entry (event.Step (link T M Ctl) 0) answer.Ok (line.Send (link M B Ctl) (flight.Ctl (rec.Recfg 1)) ∷ line.Note note.Done ∷ [])
    ∷ an_entry (event.Step (link M B Ctl) 0) answer.Ok []
    ∷ an_entry (event.Change) answer.Ok (line.Send (link M A Ctl) (flight.Ctl (rec.Addreq (a_plan 2 (Some A) []) [])) ∷ [])
    ∷ an_entry (event.Step (link M A Ctl) 0) answer.Ok (line.Note (note.Join A 2) ∷ line.Send (link A M Ctl) (flight.Ctl (rec.Addack 2)) ∷ [])
    ∷ an_entry (event.Step (link A M Ctl) 0) answer.Ok (line.Send (link M T Ctl) (flight.Ctl (rec.Reconf (a_plan 2 (Some A) []) [])) ∷ line.Send (link M B Ctl) (flight.Ctl (rec.Relreq (a_plan 2 (Some A) []))) ∷ [])
    ∷ an_entry (event.Step (link M T Ctl) 0) answer.Ok (line.Send (link T M Ctl) (flight.Ctl (rec.Rcomp 2)) ∷ [])
    ∷ an_entry (event.Step (link T M Ctl) 0) answer.Ok (line.Send (link M A Ctl) (flight.Ctl (rec.Recfg 2)) ∷ line.Send (link M B Ctl) (flight.Ctl (rec.Uecr 2)) ∷ line.Note note.Done ∷ [])
    ∷ an_entry (event.Step (link M B Ctl) 0) answer.Ok (line.Note (note.Leave B 2) ∷ line.Send (link B M Ctl) (flight.Ctl (rec.Relack 2)) ∷ [])
    ∷ an_entry (event.Step (link M B Ctl) 0) answer.Ok []
    ∷ an_entry (event.Step (link B M Ctl) 0) answer.Ok []
    ∷ an_entry (event.Deny B true) answer.Ok []
    ∷ an_entry (event.Step (link M A Ctl) 0) answer.Ok []
    ∷ an_entry (event.Ask A want.Change) answer.Ok (line.Send (link A M Ctl) (flight.Ctl (rec.Chgrqd)) ∷ [])
    ∷ an_entry (event.Step (link A M Ctl) 0) answer.Ok (line.Note (note.Begin want.Change) ∷ line.Send (link M B Ctl) (flight.Ctl (rec.Addreq (a_plan 3 (Some B) []) [])) ∷ [])
    ∷ an_entry (event.Step (link M B Ctl) 0) answer.Ok (line.Send (link B M Ctl) (flight.Ctl (rec.Addrej 3)) ∷ [])
    ∷ an_entry (event.Step (link B M Ctl) 0) answer.Ok (line.Send (link M A Ctl) (flight.Ctl (rec.Chgref word.Rejected)) ∷ line.Note note.Rejected ∷ [])
    ∷ an_entry (event.Step (link M A Ctl) 0) answer.Ok (line.Note (note.Refused A word.Rejected) ∷ [])
    ∷ []) ≡ []
unfolding sn window modulus distance count_for data_pdu decoded read_data read_report keystream counter_block stream_blocks report_pdu
chgref_rejected_context_true_is_right = refl

control_pdu_in_the_volume_is_right : breaks (a_header Nea0 0 (replicate 32 0)) (
    an_entry (event.Add A) answer.Ok (line.Send (link M A Ctl) (flight.Ctl (rec.Addreq (a_plan 1 (Some A) []) [])) ∷ [])
    ∷ an_entry (event.Step (link M A Ctl) 0) answer.Ok (line.Note (note.Join A 1) ∷ line.Send (link A M Ctl) (flight.Ctl (rec.Addack 1)) ∷ [])
    ∷ an_entry (event.Step (link A M Ctl) 0) answer.Ok (line.Send (link M T Ctl) (flight.Ctl (rec.Reconf (a_plan 1 (Some A) []) [])) ∷ [])
    ∷ an_entry (event.Step (link M T Ctl) 0) answer.Ok (line.Send (link T M Ctl) (flight.Ctl (rec.Rcomp 1)) ∷ [])
    ∷ an_entry (event.Step (link T M Ctl) 0) answer.Ok (line.Send (link M A Ctl) (flight.Ctl (rec.Recfg 1)) ∷ line.Note note.Done ∷ [])
    ∷ an_entry (event.Step (link M A Ctl) 0) answer.Ok []
    ∷ an_entry (event.Bearer 1 S12 0 (a_shape false (Split cell.Scg) false) 8 0) answer.Ok (line.Send (link M A Ctl) (flight.Ctl (rec.Modreq (a_plan 2 (Some A) (Set 1 S12 0 (a_shape false (Split cell.Scg) false) 8 0 (a_key 0 Master) None ∷ [])) [])) ∷ [])
    ∷ an_entry (event.Step (link M A Ctl) 0) answer.Ok (line.Send (link A M Ctl) (flight.Ctl (rec.Modack 2)) ∷ [])
    ∷ an_entry (event.Step (link A M Ctl) 0) answer.Ok (line.Note (note.Own M 1 2) ∷ line.Send (link M T Ctl) (flight.Ctl (rec.Reconf (a_plan 2 (Some A) (Set 1 S12 0 (a_shape false (Split cell.Scg) false) 8 0 (a_key 0 Master) None ∷ [])) [])) ∷ [])
    ∷ an_entry (event.Step (link M T Ctl) 0) answer.Ok (line.Note (note.Set 1 2) ∷ line.Send (link T M Ctl) (flight.Ctl (rec.Rcomp 2)) ∷ [])
    ∷ an_entry (event.Step (link T M Ctl) 0) answer.Ok (line.Send (link M A Ctl) (flight.Ctl (rec.Recfg 2)) ∷ line.Note note.Done ∷ [])
    ∷ an_entry (event.Step (link M A Ctl) 0) answer.Ok []
    ∷ an_entry (event.Report M 1) answer.Ok (line.Send (link M A Tun) (flight.Tun None (52 ∷ 255 ∷ 0 ∷ 17 ∷ 0 ∷ 0 ∷ 1 ∷ 0 ∷ 0 ∷ 0 ∷ 0 ∷ 132 ∷ 2 ∷ 1 ∷ 0 ∷ 0 ∷ 0 ∷ 0 ∷ 0 ∷ 0 ∷ 0 ∷ 0 ∷ 0 ∷ 0 ∷ 0 ∷ [])) ∷ [])
    ∷ an_entry (event.Step (link M A Tun) 0) answer.Ok (line.Send (link A T Air) (flight.Air 1 2 0 None (0 ∷ 0 ∷ 0 ∷ 0 ∷ 0 ∷ [])) ∷ [])
    ∷ an_entry (event.Step (link A T Air) 0) answer.Ok (line.Send (link T A Air) (flight.Ack 1 2 0) ∷ [])
    ∷ an_entry (event.Step (link T A Air) 0) answer.Ok (line.Send (link A M Tun) (flight.Tun None (52 ∷ 255 ∷ 0 ∷ 8 ∷ 0 ∷ 0 ∷ 1 ∷ 0 ∷ 0 ∷ 0 ∷ 0 ∷ 132 ∷ 1 ∷ 16 ∷ 0 ∷ 0 ∷ [])) ∷ [])
    ∷ an_entry (event.Step (link A M Tun) 0) answer.Ok []
    ∷ an_entry (event.Submit 1 Dl (170 ∷ [])) answer.Ok (line.Send (link M A Tun) (flight.Tun (Some 0) (52 ∷ 255 ∷ 0 ∷ 15 ∷ 0 ∷ 0 ∷ 1 ∷ 0 ∷ 0 ∷ 0 ∷ 0 ∷ 132 ∷ 2 ∷ 1 ∷ 0 ∷ 0 ∷ 1 ∷ 0 ∷ 0 ∷ 0 ∷ 128 ∷ 0 ∷ 170 ∷ [])) ∷ [])
    ∷ an_entry (event.Submit 1 Dl (187 ∷ [])) answer.Ok (line.Send (link M T Air) (flight.Air 1 2 0 (Some 1) (128 ∷ 1 ∷ 187 ∷ [])) ∷ [])
    ∷ an_entry (event.Step (link M T Air) 0) answer.Ok (line.Send (link T M Air) (flight.Ack 1 2 0) ∷ [])
    ∷ an_entry (event.Step (link T M Air) 0) answer.Ok []
    ∷ an_entry (event.Step (link M A Tun) 0) answer.Ok (line.Send (link A T Air) (flight.Air 1 2 1 (Some 0) (128 ∷ 0 ∷ 170 ∷ [])) ∷ [])
    ∷ an_entry (event.Step (link A T Air) 0) answer.Ok (line.Note (note.Up T 1 Dl 0 (170 ∷ [])) ∷ line.Note (note.Up T 1 Dl 1 (187 ∷ [])) ∷ line.Send (link T A Air) (flight.Ack 1 2 1) ∷ [])
    ∷ an_entry (event.Step (link T A Air) 0) answer.Ok (line.Send (link A M Tun) (flight.Tun (Some 0) (52 ∷ 255 ∷ 0 ∷ 12 ∷ 0 ∷ 0 ∷ 1 ∷ 0 ∷ 0 ∷ 0 ∷ 0 ∷ 132 ∷ 2 ∷ 17 ∷ 0 ∷ 0 ∷ 0 ∷ 0 ∷ 0 ∷ 0 ∷ [])) ∷ [])
    ∷ an_entry (event.Step (link A M Tun) 0) answer.Ok (line.Note (note.Freed 1 Dl 2) ∷ [])
    ∷ []) ≡ []
unfolding sn window modulus distance count_for data_pdu decoded read_data read_report keystream counter_block stream_blocks report_pdu
control_pdu_in_the_volume_is_right = refl

end_before_the_freeze_is_right : breaks (a_header Nea0 5 (148 ∷ 218 ∷ 165 ∷ 96 ∷ 245 ∷ 83 ∷ 149 ∷ 37 ∷ 181 ∷ 91 ∷ 136 ∷ 48 ∷ 214 ∷ 167 ∷ 43 ∷ 237 ∷ 50 ∷ 199 ∷ 35 ∷ 124 ∷ 173 ∷ 112 ∷ 18 ∷ 53 ∷ 42 ∷ 211 ∷ 48 ∷ 58 ∷ 77 ∷ 19 ∷ 161 ∷ 90 ∷ [])) (
    an_entry (event.Add A) answer.Ok (line.Send (link M A Ctl) (flight.Ctl (rec.Addreq (a_plan 1 (Some A) []) [])) ∷ [])
    ∷ an_entry (event.Step (link M A Ctl) 0) answer.Ok (line.Note (note.Join A 1) ∷ line.Send (link A M Ctl) (flight.Ctl (rec.Addack 1)) ∷ [])
    ∷ an_entry (event.Step (link A M Ctl) 0) answer.Ok (line.Send (link M T Ctl) (flight.Ctl (rec.Reconf (a_plan 1 (Some A) []) [])) ∷ [])
    ∷ an_entry (event.Step (link M T Ctl) 0) answer.Ok (line.Send (link T M Ctl) (flight.Ctl (rec.Rcomp 1)) ∷ [])
    ∷ an_entry (event.Step (link T M Ctl) 0) answer.Ok (line.Send (link M A Ctl) (flight.Ctl (rec.Recfg 1)) ∷ line.Note note.Done ∷ [])
    ∷ an_entry (event.Step (link M A Ctl) 0) answer.Ok []
    ∷ an_entry (event.Bearer 20 S12 7 (a_shape true Scg false) 1000 1) answer.Ok (line.Send (link M A Ctl) (flight.Ctl (rec.Modreq (a_plan 2 (Some A) (Set 20 S12 7 (a_shape true Scg false) 1000 1 (a_key 0 (SecondKey 5)) None ∷ [])) [])) ∷ [])
    ∷ an_entry (event.Step (link M A Ctl) 0) answer.Ok (line.Note (note.Own A 20 2) ∷ line.Send (link A M Ctl) (flight.Ctl (rec.Modack 2)) ∷ [])
    ∷ an_entry (event.Step (link A M Ctl) 0) answer.Ok (line.Send (link M T Ctl) (flight.Ctl (rec.Reconf (a_plan 2 (Some A) (Set 20 S12 7 (a_shape true Scg false) 1000 1 (a_key 0 (SecondKey 5)) None ∷ [])) [])) ∷ [])
    ∷ an_entry (event.Step (link M T Ctl) 0) answer.Ok (line.Note (note.Set 20 2) ∷ line.Send (link T M Ctl) (flight.Ctl (rec.Rcomp 2)) ∷ [])
    ∷ an_entry (event.Step (link T M Ctl) 0) answer.Ok (line.Send (link M A Ctl) (flight.Ctl (rec.Recfg 2)) ∷ line.Note note.Done ∷ [])
    ∷ an_entry (event.Step (link M A Ctl) 0) answer.Ok []
    ∷ an_entry (event.Change) answer.Ok (line.Send (link M B Ctl) (flight.Ctl (rec.Addreq (a_plan 3 (Some B) (Set 20 S12 7 (a_shape true Scg false) 1000 1 (a_key 0 (SecondKey 6)) (Some A) ∷ [])) [])) ∷ [])
    ∷ an_entry (event.Step (link M B Ctl) 0) answer.Ok (line.Note (note.Join B 3) ∷ line.Send (link B M Ctl) (flight.Ctl (rec.Addack 3)) ∷ [])
    ∷ an_entry (event.Step (link B M Ctl) 0) answer.Ok (line.Send (link M T Ctl) (flight.Ctl (rec.Reconf (a_plan 3 (Some B) (Set 20 S12 7 (a_shape true Scg false) 1000 1 (a_key 0 (SecondKey 6)) (Some A) ∷ [])) [])) ∷ line.Send (link M A Ctl) (flight.Ctl (rec.Relreq (a_plan 3 (Some B) (Set 20 S12 7 (a_shape true Scg false) 1000 1 (a_key 0 (SecondKey 6)) (Some A) ∷ [])))) ∷ line.Send (link M A Feed) (flight.End 20 3) ∷ [])
    ∷ an_entry (event.Step (link M A Feed) 0) answer.Ok []
    ∷ []) ≡ []
unfolding sn window modulus distance count_for data_pdu decoded read_data read_report keystream counter_block stream_blocks report_pdu
end_before_the_freeze_is_right = refl

forwarding_packet_after_the_adoption_is_right : breaks (a_header Nea0 0 (replicate 32 0)) (
    an_entry (event.Bearer 1 S12 0 (a_shape false Mcg false) 0 0) answer.Ok (line.Note (note.Own M 1 1) ∷ line.Send (link M T Ctl) (flight.Ctl (rec.Reconf (a_plan 1 None (Set 1 S12 0 (a_shape false Mcg false) 0 0 (a_key 0 Master) None ∷ [])) [])) ∷ [])
    ∷ an_entry (event.Step (link M T Ctl) 0) answer.Ok (line.Note (note.Set 1 1) ∷ line.Send (link T M Ctl) (flight.Ctl (rec.Rcomp 1)) ∷ [])
    ∷ an_entry (event.Step (link T M Ctl) 0) answer.Ok (line.Note note.Done ∷ [])
    ∷ an_entry (event.Add A) answer.Ok (line.Send (link M A Ctl) (flight.Ctl (rec.Addreq (a_plan 2 (Some A) []) [])) ∷ [])
    ∷ an_entry (event.Step (link M A Ctl) 0) answer.Ok (line.Note (note.Join A 2) ∷ line.Send (link A M Ctl) (flight.Ctl (rec.Addack 2)) ∷ [])
    ∷ an_entry (event.Step (link A M Ctl) 0) answer.Ok (line.Send (link M T Ctl) (flight.Ctl (rec.Reconf (a_plan 2 (Some A) []) [])) ∷ [])
    ∷ an_entry (event.Step (link M T Ctl) 0) answer.Ok (line.Send (link T M Ctl) (flight.Ctl (rec.Rcomp 2)) ∷ [])
    ∷ an_entry (event.Step (link T M Ctl) 0) answer.Ok (line.Send (link M A Ctl) (flight.Ctl (rec.Recfg 2)) ∷ line.Note note.Done ∷ [])
    ∷ an_entry (event.Step (link M A Ctl) 0) answer.Ok []
    ∷ an_entry (event.Submit 1 Dl (170 ∷ [])) answer.Ok (line.Send (link M T Air) (flight.Air 1 1 0 (Some 0) (128 ∷ 0 ∷ 170 ∷ [])) ∷ [])
    ∷ an_entry (event.Reshape 1 (a_shape true Scg false)) answer.Ok (line.Send (link M A Ctl) (flight.Ctl (rec.Modreq (a_plan 3 (Some A) (Set 1 S12 0 (a_shape true Scg false) 0 0 (a_key 0 (SecondKey 0)) (Some M) ∷ [])) [])) ∷ [])
    ∷ an_entry (event.Step (link M A Ctl) 0) answer.Ok (line.Send (link A M Ctl) (flight.Ctl (rec.Modack 3)) ∷ [])
    ∷ an_entry (event.Step (link M A Ctl) 0) (answer.No refusal.NoFlight) []
    ∷ an_entry (event.Step (link A M Ctl) 0) answer.Ok (line.Note (note.Give M 1 3) ∷ line.Send (link M T Ctl) (flight.Ctl (rec.Reconf (a_plan 3 (Some A) (Set 1 S12 0 (a_shape true Scg false) 0 0 (a_key 0 (SecondKey 0)) (Some M) ∷ [])) [])) ∷ line.Send (link M A Ctl) (flight.Ctl (rec.Snst (a_transfer 3 1 0 [] 1))) ∷ line.Send (link M A Tun) (flight.Tun None (52 ∷ 255 ∷ 0 ∷ 17 ∷ 0 ∷ 0 ∷ 1 ∷ 129 ∷ 0 ∷ 0 ∷ 0 ∷ 132 ∷ 2 ∷ 1 ∷ 0 ∷ 0 ∷ 0 ∷ 0 ∷ 0 ∷ 192 ∷ 1 ∷ 0 ∷ 0 ∷ 0 ∷ 170 ∷ [])) ∷ line.Send (link M A Tun) (flight.Tun None (52 ∷ 255 ∷ 0 ∷ 12 ∷ 0 ∷ 0 ∷ 1 ∷ 129 ∷ 0 ∷ 0 ∷ 0 ∷ 132 ∷ 2 ∷ 0 ∷ 0 ∷ 0 ∷ 1 ∷ 0 ∷ 0 ∷ 0 ∷ [])) ∷ line.Send (link M A Tun) (flight.Tun None (48 ∷ 254 ∷ 0 ∷ 0 ∷ 0 ∷ 0 ∷ 1 ∷ 129 ∷ [])) ∷ line.Send (link M A Tun) (flight.Tun None (52 ∷ 255 ∷ 0 ∷ 12 ∷ 0 ∷ 0 ∷ 1 ∷ 130 ∷ 0 ∷ 0 ∷ 0 ∷ 132 ∷ 2 ∷ 0 ∷ 0 ∷ 0 ∷ 0 ∷ 0 ∷ 0 ∷ 0 ∷ [])) ∷ line.Send (link M A Tun) (flight.Tun None (48 ∷ 254 ∷ 0 ∷ 0 ∷ 0 ∷ 0 ∷ 1 ∷ 130 ∷ [])) ∷ [])
    ∷ an_entry (event.Again (link M A Tun) 0) answer.Ok (line.Send (link M A Tun) (flight.Tun None (52 ∷ 255 ∷ 0 ∷ 17 ∷ 0 ∷ 0 ∷ 1 ∷ 129 ∷ 0 ∷ 0 ∷ 0 ∷ 132 ∷ 2 ∷ 1 ∷ 0 ∷ 0 ∷ 0 ∷ 0 ∷ 0 ∷ 192 ∷ 1 ∷ 0 ∷ 0 ∷ 0 ∷ 170 ∷ [])) ∷ [])
    ∷ an_entry (event.Step (link M A Ctl) 0) answer.Ok []
    ∷ an_entry (event.Step (link M A Tun) 0) answer.Ok []
    ∷ an_entry (event.Step (link M A Tun) 0) answer.Ok []
    ∷ an_entry (event.Step (link M A Tun) 0) answer.Ok []
    ∷ an_entry (event.Step (link M A Tun) 0) answer.Ok (line.Note (note.Own A 1 3) ∷ line.Send (link A M Ctl) (flight.Ctl (rec.Moved 3 1)) ∷ [])
    ∷ an_entry (event.Step (link M A Tun) 0) answer.Ok []
    ∷ an_entry (event.Step (link M A Tun) 0) answer.Ok []
    ∷ an_entry (event.Step (link M T Ctl) 0) answer.Ok (line.Note (note.Set 1 3) ∷ line.Send (link T M Ctl) (flight.Ctl (rec.Rcomp 3)) ∷ [])
    ∷ an_entry (event.Step (link T M Ctl) 0) answer.Ok (line.Send (link M A Ctl) (flight.Ctl (rec.Recfg 3)) ∷ [])
    ∷ an_entry (event.Step (link M A Ctl) 0) answer.Ok (line.Send (link A T Air) (flight.Air 1 3 0 (Some 0) (128 ∷ 0 ∷ 170 ∷ [])) ∷ [])
    ∷ an_entry (event.Step (link A M Ctl) 0) answer.Ok (line.Note note.Done ∷ [])
    ∷ an_entry (event.Step (link M T Air) 0) answer.Ok []
    ∷ an_entry (event.Step (link A T Air) 0) answer.Ok (line.Note (note.Up T 1 Dl 0 (170 ∷ [])) ∷ line.Send (link T A Air) (flight.Ack 1 3 0) ∷ [])
    ∷ an_entry (event.Step (link T A Air) 0) answer.Ok (line.Send (link A M Feed) (flight.Told 1 3 1) ∷ [])
    ∷ an_entry (event.Step (link A M Feed) 0) answer.Ok (line.Note (note.Freed 1 Dl 1) ∷ [])
    ∷ []) ≡ []
unfolding sn window modulus distance count_for data_pdu decoded read_data read_report keystream counter_block stream_blocks report_pdu
forwarding_packet_after_the_adoption_is_right = refl

order_of_sending_again_is_right : breaks (a_header Nea0 0 (replicate 32 0)) (
    an_entry (event.Add A) answer.Ok (line.Send (link M A Ctl) (flight.Ctl (rec.Addreq (a_plan 1 (Some A) []) [])) ∷ [])
    ∷ an_entry (event.Step (link M A Ctl) 0) answer.Ok (line.Note (note.Join A 1) ∷ line.Send (link A M Ctl) (flight.Ctl (rec.Addack 1)) ∷ [])
    ∷ an_entry (event.Step (link A M Ctl) 0) answer.Ok (line.Send (link M T Ctl) (flight.Ctl (rec.Reconf (a_plan 1 (Some A) []) [])) ∷ [])
    ∷ an_entry (event.Step (link M T Ctl) 0) answer.Ok (line.Send (link T M Ctl) (flight.Ctl (rec.Rcomp 1)) ∷ [])
    ∷ an_entry (event.Step (link T M Ctl) 0) answer.Ok (line.Send (link M A Ctl) (flight.Ctl (rec.Recfg 1)) ∷ line.Note note.Done ∷ [])
    ∷ an_entry (event.Step (link M A Ctl) 0) answer.Ok []
    ∷ an_entry (event.Bearer 1 S12 0 (a_shape false Scg false) 0 0) answer.Ok (line.Send (link M A Ctl) (flight.Ctl (rec.Modreq (a_plan 2 (Some A) (Set 1 S12 0 (a_shape false Scg false) 0 0 (a_key 0 Master) None ∷ [])) [])) ∷ [])
    ∷ an_entry (event.Step (link M A Ctl) 0) answer.Ok (line.Send (link A M Ctl) (flight.Ctl (rec.Modack 2)) ∷ [])
    ∷ an_entry (event.Step (link A M Ctl) 0) answer.Ok (line.Note (note.Own M 1 2) ∷ line.Send (link M T Ctl) (flight.Ctl (rec.Reconf (a_plan 2 (Some A) (Set 1 S12 0 (a_shape false Scg false) 0 0 (a_key 0 Master) None ∷ [])) [])) ∷ [])
    ∷ an_entry (event.Step (link M T Ctl) 0) answer.Ok (line.Note (note.Set 1 2) ∷ line.Send (link T M Ctl) (flight.Ctl (rec.Rcomp 2)) ∷ [])
    ∷ an_entry (event.Step (link T M Ctl) 0) answer.Ok (line.Send (link M A Ctl) (flight.Ctl (rec.Recfg 2)) ∷ line.Note note.Done ∷ [])
    ∷ an_entry (event.Step (link M A Ctl) 0) answer.Ok []
    ∷ an_entry (event.Submit 1 Dl (170 ∷ [])) answer.Ok (line.Send (link M A Tun) (flight.Tun (Some 0) (52 ∷ 255 ∷ 0 ∷ 15 ∷ 0 ∷ 0 ∷ 1 ∷ 0 ∷ 0 ∷ 0 ∷ 0 ∷ 132 ∷ 2 ∷ 1 ∷ 0 ∷ 0 ∷ 0 ∷ 0 ∷ 0 ∷ 0 ∷ 128 ∷ 0 ∷ 170 ∷ [])) ∷ [])
    ∷ an_entry (event.Submit 1 Dl (187 ∷ [])) answer.Ok (line.Send (link M A Tun) (flight.Tun (Some 1) (52 ∷ 255 ∷ 0 ∷ 15 ∷ 0 ∷ 0 ∷ 1 ∷ 0 ∷ 0 ∷ 0 ∷ 0 ∷ 132 ∷ 2 ∷ 1 ∷ 0 ∷ 0 ∷ 1 ∷ 0 ∷ 0 ∷ 0 ∷ 128 ∷ 1 ∷ 187 ∷ [])) ∷ [])
    ∷ an_entry (event.Submit 1 Dl (204 ∷ [])) answer.Ok (line.Send (link M A Tun) (flight.Tun (Some 2) (52 ∷ 255 ∷ 0 ∷ 15 ∷ 0 ∷ 0 ∷ 1 ∷ 0 ∷ 0 ∷ 0 ∷ 0 ∷ 132 ∷ 2 ∷ 1 ∷ 0 ∷ 0 ∷ 2 ∷ 0 ∷ 0 ∷ 0 ∷ 128 ∷ 2 ∷ 204 ∷ [])) ∷ [])
    ∷ an_entry (event.Lose (link M A Tun) 0) answer.Ok []
    ∷ an_entry (event.Recover 1) answer.Ok (line.Send (link M T Ctl) (flight.Ctl (rec.Recov 1)) ∷ line.Send (link M A Tun) (flight.Tun (Some 0) (52 ∷ 255 ∷ 0 ∷ 15 ∷ 0 ∷ 0 ∷ 1 ∷ 0 ∷ 0 ∷ 0 ∷ 0 ∷ 132 ∷ 2 ∷ 3 ∷ 0 ∷ 0 ∷ 3 ∷ 0 ∷ 0 ∷ 0 ∷ 128 ∷ 0 ∷ 170 ∷ [])) ∷ line.Send (link M A Tun) (flight.Tun (Some 1) (52 ∷ 255 ∷ 0 ∷ 15 ∷ 0 ∷ 0 ∷ 1 ∷ 0 ∷ 0 ∷ 0 ∷ 0 ∷ 132 ∷ 2 ∷ 3 ∷ 0 ∷ 0 ∷ 4 ∷ 0 ∷ 0 ∷ 0 ∷ 128 ∷ 1 ∷ 187 ∷ [])) ∷ line.Send (link M A Tun) (flight.Tun (Some 2) (52 ∷ 255 ∷ 0 ∷ 15 ∷ 0 ∷ 0 ∷ 1 ∷ 0 ∷ 0 ∷ 0 ∷ 0 ∷ 132 ∷ 2 ∷ 3 ∷ 0 ∷ 0 ∷ 5 ∷ 0 ∷ 0 ∷ 0 ∷ 128 ∷ 2 ∷ 204 ∷ [])) ∷ [])
    ∷ an_entry (event.Lose (link M A Tun) 0) answer.Ok []
    ∷ an_entry (event.Lose (link M A Tun) 1) answer.Ok []
    ∷ an_entry (event.Step (link M A Tun) 1) answer.Ok (line.Send (link A T Air) (flight.Air 1 2 0 (Some 1) (128 ∷ 1 ∷ 187 ∷ [])) ∷ [])
    ∷ an_entry (event.Step (link A T Air) 0) answer.Ok (line.Send (link T A Air) (flight.Ack 1 2 0) ∷ [])
    ∷ an_entry (event.Step (link T A Air) 0) answer.Ok (line.Send (link A M Tun) (flight.Tun None (52 ∷ 255 ∷ 0 ∷ 16 ∷ 0 ∷ 0 ∷ 1 ∷ 0 ∷ 0 ∷ 0 ∷ 0 ∷ 132 ∷ 3 ∷ 16 ∷ 1 ∷ 0 ∷ 0 ∷ 0 ∷ 0 ∷ 0 ∷ 3 ∷ 0 ∷ 0 ∷ 0 ∷ [])) ∷ [])
    ∷ an_entry (event.Step (link A M Tun) 0) answer.Ok (line.Send (link M A Tun) (flight.Tun (Some 0) (52 ∷ 255 ∷ 0 ∷ 15 ∷ 0 ∷ 0 ∷ 1 ∷ 0 ∷ 0 ∷ 0 ∷ 0 ∷ 132 ∷ 2 ∷ 3 ∷ 0 ∷ 0 ∷ 6 ∷ 0 ∷ 0 ∷ 0 ∷ 128 ∷ 0 ∷ 170 ∷ [])) ∷ line.Send (link M A Tun) (flight.Tun (Some 0) (52 ∷ 255 ∷ 0 ∷ 15 ∷ 0 ∷ 0 ∷ 1 ∷ 0 ∷ 0 ∷ 0 ∷ 0 ∷ 132 ∷ 2 ∷ 3 ∷ 0 ∷ 0 ∷ 7 ∷ 0 ∷ 0 ∷ 0 ∷ 128 ∷ 0 ∷ 170 ∷ [])) ∷ line.Send (link M A Tun) (flight.Tun (Some 1) (52 ∷ 255 ∷ 0 ∷ 15 ∷ 0 ∷ 0 ∷ 1 ∷ 0 ∷ 0 ∷ 0 ∷ 0 ∷ 132 ∷ 2 ∷ 3 ∷ 0 ∷ 0 ∷ 8 ∷ 0 ∷ 0 ∷ 0 ∷ 128 ∷ 1 ∷ 187 ∷ [])) ∷ line.Send (link M A Tun) (flight.Tun (Some 2) (52 ∷ 255 ∷ 0 ∷ 15 ∷ 0 ∷ 0 ∷ 1 ∷ 0 ∷ 0 ∷ 0 ∷ 0 ∷ 132 ∷ 2 ∷ 3 ∷ 0 ∷ 0 ∷ 9 ∷ 0 ∷ 0 ∷ 0 ∷ 128 ∷ 2 ∷ 204 ∷ [])) ∷ [])
    ∷ []) ≡ []
unfolding sn window modulus distance count_for data_pdu decoded read_data read_report keystream counter_block stream_blocks report_pdu
order_of_sending_again_is_right = refl

path_generation_of_sdu_is_right : breaks (a_header Nea0 0 (replicate 32 0)) (
    an_entry (event.Add A) answer.Ok (line.Send (link M A Ctl) (flight.Ctl (rec.Addreq (a_plan 1 (Some A) []) [])) ∷ [])
    ∷ an_entry (event.Step (link M A Ctl) 0) answer.Ok (line.Note (note.Join A 1) ∷ line.Send (link A M Ctl) (flight.Ctl (rec.Addack 1)) ∷ [])
    ∷ an_entry (event.Step (link A M Ctl) 0) answer.Ok (line.Send (link M T Ctl) (flight.Ctl (rec.Reconf (a_plan 1 (Some A) []) [])) ∷ [])
    ∷ an_entry (event.Step (link M T Ctl) 0) answer.Ok (line.Send (link T M Ctl) (flight.Ctl (rec.Rcomp 1)) ∷ [])
    ∷ an_entry (event.Step (link T M Ctl) 0) answer.Ok (line.Send (link M A Ctl) (flight.Ctl (rec.Recfg 1)) ∷ line.Note note.Done ∷ [])
    ∷ an_entry (event.Step (link M A Ctl) 0) answer.Ok []
    ∷ an_entry (event.Bearer 1 S12 0 (a_shape true Scg false) 0 0) answer.Ok (line.Send (link M A Ctl) (flight.Ctl (rec.Modreq (a_plan 2 (Some A) (Set 1 S12 0 (a_shape true Scg false) 0 0 (a_key 0 (SecondKey 0)) None ∷ [])) [])) ∷ [])
    ∷ an_entry (event.Step (link M A Ctl) 0) answer.Ok (line.Note (note.Own A 1 2) ∷ line.Send (link A M Ctl) (flight.Ctl (rec.Modack 2)) ∷ [])
    ∷ an_entry (event.Step (link A M Ctl) 0) answer.Ok (line.Send (link M T Ctl) (flight.Ctl (rec.Reconf (a_plan 2 (Some A) (Set 1 S12 0 (a_shape true Scg false) 0 0 (a_key 0 (SecondKey 0)) None ∷ [])) [])) ∷ [])
    ∷ an_entry (event.Step (link M T Ctl) 0) answer.Ok (line.Note (note.Set 1 2) ∷ line.Send (link T M Ctl) (flight.Ctl (rec.Rcomp 2)) ∷ [])
    ∷ an_entry (event.Step (link T M Ctl) 0) answer.Ok (line.Send (link M A Ctl) (flight.Ctl (rec.Recfg 2)) ∷ line.Note note.Done ∷ [])
    ∷ an_entry (event.Step (link M A Ctl) 0) answer.Ok []
    ∷ an_entry (event.Submit 1 Dl (170 ∷ [])) answer.Ok (line.Send (link M A Feed) (flight.Sdu 1 2 (170 ∷ [])) ∷ [])
    ∷ an_entry (event.RekeySecond) answer.Ok (line.Send (link M A Ctl) (flight.Ctl (rec.Modreq (a_plan 3 (Some A) (Set 1 S12 0 (a_shape true Scg false) 0 0 (a_key 0 (SecondKey 1)) (Some A) ∷ [])) [])) ∷ [])
    ∷ an_entry (event.Step (link M A Ctl) 0) answer.Ok (line.Note (note.Own A 1 3) ∷ line.Send (link A M Ctl) (flight.Ctl (rec.Modack 3)) ∷ [])
    ∷ an_entry (event.Submit 1 Dl (187 ∷ [])) answer.Ok (line.Send (link M A Feed) (flight.Sdu 1 2 (187 ∷ [])) ∷ [])
    ∷ an_entry (event.Step (link A M Ctl) 0) answer.Ok (line.Send (link M T Ctl) (flight.Ctl (rec.Reconf (a_plan 3 (Some A) (Set 1 S12 0 (a_shape true Scg false) 0 0 (a_key 0 (SecondKey 1)) (Some A) ∷ [])) [])) ∷ [])
    ∷ an_entry (event.Submit 1 Dl (204 ∷ [])) answer.Ok (line.Send (link M A Feed) (flight.Sdu 1 3 (204 ∷ [])) ∷ [])
    ∷ an_entry (event.Step (link M T Ctl) 0) answer.Ok (line.Note (note.Set 1 3) ∷ line.Send (link T M Ctl) (flight.Ctl (rec.Rcomp 3)) ∷ [])
    ∷ an_entry (event.Step (link T M Ctl) 0) answer.Ok (line.Send (link M A Ctl) (flight.Ctl (rec.Recfg 3)) ∷ line.Note note.Done ∷ [])
    ∷ an_entry (event.Step (link M A Ctl) 0) answer.Ok []
    ∷ an_entry (event.Step (link M A Feed) 0) answer.Ok (line.Send (link A T Air) (flight.Air 1 3 0 (Some 0) (128 ∷ 0 ∷ 170 ∷ [])) ∷ [])
    ∷ an_entry (event.Step (link M A Feed) 0) answer.Ok (line.Send (link A T Air) (flight.Air 1 3 1 (Some 1) (128 ∷ 1 ∷ 187 ∷ [])) ∷ [])
    ∷ an_entry (event.Step (link M A Feed) 0) answer.Ok (line.Send (link A T Air) (flight.Air 1 3 2 (Some 2) (128 ∷ 2 ∷ 204 ∷ [])) ∷ [])
    ∷ an_entry (event.Step (link A T Air) 0) answer.Ok (line.Note (note.Up T 1 Dl 0 (170 ∷ [])) ∷ line.Send (link T A Air) (flight.Ack 1 3 0) ∷ [])
    ∷ an_entry (event.Step (link A T Air) 0) answer.Ok (line.Note (note.Up T 1 Dl 1 (187 ∷ [])) ∷ line.Send (link T A Air) (flight.Ack 1 3 1) ∷ [])
    ∷ an_entry (event.Step (link A T Air) 0) answer.Ok (line.Note (note.Up T 1 Dl 2 (204 ∷ [])) ∷ line.Send (link T A Air) (flight.Ack 1 3 2) ∷ [])
    ∷ an_entry (event.Step (link T A Air) 0) answer.Ok (line.Send (link A M Feed) (flight.Told 1 3 1) ∷ [])
    ∷ an_entry (event.Step (link A M Feed) 0) answer.Ok (line.Note (note.Freed 1 Dl 1) ∷ [])
    ∷ an_entry (event.Step (link T A Air) 0) answer.Ok (line.Send (link A M Feed) (flight.Told 1 3 2) ∷ [])
    ∷ an_entry (event.Step (link A M Feed) 0) answer.Ok (line.Note (note.Freed 1 Dl 2) ∷ [])
    ∷ an_entry (event.Step (link T A Air) 0) answer.Ok (line.Send (link A M Feed) (flight.Told 1 3 3) ∷ [])
    ∷ an_entry (event.Step (link A M Feed) 0) answer.Ok (line.Note (note.Freed 1 Dl 3) ∷ [])
    ∷ an_entry (event.Submit 1 Dl (221 ∷ [])) answer.Ok (line.Send (link M A Feed) (flight.Sdu 1 3 (221 ∷ [])) ∷ [])
    ∷ an_entry (event.Step (link M A Feed) 0) answer.Ok (line.Send (link A T Air) (flight.Air 1 3 3 (Some 3) (128 ∷ 3 ∷ 221 ∷ [])) ∷ [])
    ∷ an_entry (event.Step (link A T Air) 0) answer.Ok (line.Note (note.Up T 1 Dl 3 (221 ∷ [])) ∷ line.Send (link T A Air) (flight.Ack 1 3 3) ∷ [])
    ∷ an_entry (event.Step (link T A Air) 0) answer.Ok (line.Send (link A M Feed) (flight.Told 1 3 4) ∷ [])
    ∷ an_entry (event.Step (link A M Feed) 0) answer.Ok (line.Note (note.Freed 1 Dl 4) ∷ [])
    ∷ []) ≡ []
unfolding sn window modulus distance count_for data_pdu decoded read_data read_report keystream counter_block stream_blocks report_pdu
path_generation_of_sdu_is_right = refl

scgf_at_a_waiting_anchor_of_m_is_right : breaks (a_header Nea0 65533 (3 ∷ 86 ∷ 247 ∷ 124 ∷ 15 ∷ 139 ∷ 108 ∷ 154 ∷ 176 ∷ 3 ∷ 1 ∷ 190 ∷ 114 ∷ 186 ∷ 150 ∷ 15 ∷ 36 ∷ 10 ∷ 163 ∷ 25 ∷ 128 ∷ 167 ∷ 125 ∷ 65 ∷ 112 ∷ 153 ∷ 45 ∷ 53 ∷ 222 ∷ 187 ∷ 142 ∷ 124 ∷ [])) (
    an_entry (event.Add A) answer.Ok (line.Send (link M A Ctl) (flight.Ctl (rec.Addreq (a_plan 1 (Some A) []) [])) ∷ [])
    ∷ an_entry (event.Step (link M A Ctl) 0) answer.Ok (line.Note (note.Join A 1) ∷ line.Send (link A M Ctl) (flight.Ctl (rec.Addack 1)) ∷ [])
    ∷ an_entry (event.Step (link A M Ctl) 0) answer.Ok (line.Send (link M T Ctl) (flight.Ctl (rec.Reconf (a_plan 1 (Some A) []) [])) ∷ [])
    ∷ an_entry (event.Step (link M T Ctl) 0) answer.Ok (line.Send (link T M Ctl) (flight.Ctl (rec.Rcomp 1)) ∷ [])
    ∷ an_entry (event.Step (link T M Ctl) 0) answer.Ok (line.Send (link M A Ctl) (flight.Ctl (rec.Recfg 1)) ∷ line.Note note.Done ∷ [])
    ∷ an_entry (event.Step (link M A Ctl) 0) answer.Ok []
    ∷ an_entry (event.Bearer 6 S18 3347754820 (a_shape true (Split cell.Scg) true) 10 1) answer.Ok (line.Send (link M A Ctl) (flight.Ctl (rec.Modreq (a_plan 2 (Some A) (Set 6 S18 3347754820 (a_shape true (Split cell.Scg) true) 10 1 (a_key 0 (SecondKey 65533)) None ∷ [])) [])) ∷ [])
    ∷ an_entry (event.Step (link M A Ctl) 0) answer.Ok (line.Note (note.Own A 6 2) ∷ line.Send (link A M Ctl) (flight.Ctl (rec.Modack 2)) ∷ [])
    ∷ an_entry (event.Step (link A M Ctl) 0) answer.Ok (line.Send (link M T Ctl) (flight.Ctl (rec.Reconf (a_plan 2 (Some A) (Set 6 S18 3347754820 (a_shape true (Split cell.Scg) true) 10 1 (a_key 0 (SecondKey 65533)) None ∷ [])) [])) ∷ [])
    ∷ an_entry (event.Step (link M T Ctl) 0) answer.Ok (line.Note (note.Set 6 2) ∷ line.Send (link T M Ctl) (flight.Ctl (rec.Rcomp 2)) ∷ [])
    ∷ an_entry (event.Step (link T M Ctl) 0) answer.Ok (line.Send (link M A Ctl) (flight.Ctl (rec.Recfg 2)) ∷ line.Note note.Done ∷ [])
    ∷ an_entry (event.Step (link M A Ctl) 0) answer.Ok []
    ∷ an_entry (event.Change) answer.Ok (line.Send (link M B Ctl) (flight.Ctl (rec.Addreq (a_plan 3 (Some B) (Set 6 S18 3347754820 (a_shape true (Split cell.Scg) true) 10 1 (a_key 0 (SecondKey 65534)) (Some A) ∷ [])) [])) ∷ [])
    ∷ an_entry (event.Step (link M B Ctl) 0) answer.Ok (line.Note (note.Join B 3) ∷ line.Send (link B M Ctl) (flight.Ctl (rec.Addack 3)) ∷ [])
    ∷ an_entry (event.Step (link B M Ctl) 0) answer.Ok (line.Send (link M T Ctl) (flight.Ctl (rec.Reconf (a_plan 3 (Some B) (Set 6 S18 3347754820 (a_shape true (Split cell.Scg) true) 10 1 (a_key 0 (SecondKey 65534)) (Some A) ∷ [])) [])) ∷ line.Send (link M A Ctl) (flight.Ctl (rec.Relreq (a_plan 3 (Some B) (Set 6 S18 3347754820 (a_shape true (Split cell.Scg) true) 10 1 (a_key 0 (SecondKey 65534)) (Some A) ∷ [])))) ∷ line.Send (link M A Feed) (flight.End 6 3) ∷ [])
    ∷ an_entry (event.Step (link M T Ctl) 0) answer.Ok (line.Note (note.Set 6 3) ∷ line.Send (link T M Ctl) (flight.Ctl (rec.Rcomp 3)) ∷ [])
    ∷ an_entry (event.Step (link T M Ctl) 0) answer.Ok (line.Send (link M B Ctl) (flight.Ctl (rec.Recfg 3)) ∷ [])
    ∷ an_entry (event.Step (link M A Ctl) 0) answer.Ok (line.Note (note.Leave A 3) ∷ line.Note (note.Give A 6 3) ∷ line.Send (link A M Ctl) (flight.Ctl (rec.Relack 3)) ∷ line.Send (link A M Ctl) (flight.Ctl (rec.Snst (a_transfer 3 6 3347754820 [] 3347754820))) ∷ line.Send (link A B Tun) (flight.Tun None (52 ∷ 255 ∷ 0 ∷ 12 ∷ 0 ∷ 0 ∷ 1 ∷ 150 ∷ 0 ∷ 0 ∷ 0 ∷ 132 ∷ 2 ∷ 0 ∷ 0 ∷ 0 ∷ 0 ∷ 0 ∷ 0 ∷ 0 ∷ [])) ∷ line.Send (link A B Tun) (flight.Tun None (48 ∷ 254 ∷ 0 ∷ 0 ∷ 0 ∷ 0 ∷ 1 ∷ 150 ∷ [])) ∷ [])
    ∷ an_entry (event.Step (link A M Ctl) 0) answer.Ok []
    ∷ an_entry (event.Step (link A M Ctl) 0) answer.Ok (line.Send (link M B Ctl) (flight.Ctl (rec.Snst (a_transfer 3 6 3347754820 [] 3347754820))) ∷ [])
    ∷ an_entry (event.Step (link M B Ctl) 0) answer.Ok []
    ∷ an_entry (event.Step (link M B Ctl) 0) answer.Ok []
    ∷ an_entry (event.Step (link M A Feed) 0) answer.Ok (line.Send (link A B Tun) (flight.Tun None (52 ∷ 255 ∷ 0 ∷ 12 ∷ 0 ∷ 0 ∷ 1 ∷ 149 ∷ 0 ∷ 0 ∷ 0 ∷ 132 ∷ 2 ∷ 0 ∷ 0 ∷ 0 ∷ 0 ∷ 0 ∷ 0 ∷ 0 ∷ [])) ∷ line.Send (link A B Tun) (flight.Tun None (48 ∷ 254 ∷ 0 ∷ 0 ∷ 0 ∷ 0 ∷ 1 ∷ 149 ∷ [])) ∷ [])
    ∷ an_entry (event.Step (link A B Tun) 0) answer.Ok []
    ∷ an_entry (event.Step (link A B Tun) 0) answer.Ok []
    ∷ an_entry (event.Step (link A B Tun) 0) answer.Ok (line.Note (note.Own B 6 3) ∷ line.Send (link B M Ctl) (flight.Ctl (rec.Moved 3 6)) ∷ [])
    ∷ an_entry (event.Step (link B M Ctl) 0) answer.Ok (line.Send (link M A Ctl) (flight.Ctl (rec.Uecr 3)) ∷ line.Note note.Done ∷ [])
    ∷ an_entry (event.Step (link M A Ctl) 0) answer.Ok []
    ∷ an_entry (event.Step (link A B Tun) 0) answer.Ok []
    ∷ an_entry (event.Reshape 6 (a_shape false (Split cell.Mcg) false)) answer.Ok (line.Send (link M B Ctl) (flight.Ctl (rec.Modreq (a_plan 4 (Some B) (Set 6 S18 3347754820 (a_shape false (Split cell.Mcg) false) 10 1 (a_key 0 Master) (Some B) ∷ [])) [])) ∷ [])
    ∷ an_entry (event.Step (link M B Ctl) 0) answer.Ok (line.Note (note.Give B 6 4) ∷ line.Send (link B M Ctl) (flight.Ctl (rec.Modack 4)) ∷ line.Send (link B M Ctl) (flight.Ctl (rec.Snst (a_transfer 4 6 3347754820 [] 3347754820))) ∷ line.Send (link B M Tun) (flight.Tun None (52 ∷ 255 ∷ 0 ∷ 12 ∷ 0 ∷ 0 ∷ 2 ∷ 22 ∷ 0 ∷ 0 ∷ 0 ∷ 132 ∷ 2 ∷ 0 ∷ 0 ∷ 0 ∷ 0 ∷ 0 ∷ 0 ∷ 0 ∷ [])) ∷ line.Send (link B M Tun) (flight.Tun None (48 ∷ 254 ∷ 0 ∷ 0 ∷ 0 ∷ 0 ∷ 2 ∷ 22 ∷ [])) ∷ [])
    ∷ an_entry (event.Step (link B M Ctl) 0) answer.Ok (line.Send (link M T Ctl) (flight.Ctl (rec.Reconf (a_plan 4 (Some B) (Set 6 S18 3347754820 (a_shape false (Split cell.Mcg) false) 10 1 (a_key 0 Master) (Some B) ∷ [])) [])) ∷ line.Send (link M B Feed) (flight.End 6 4) ∷ [])
    ∷ an_entry (event.Step (link M T Ctl) 0) answer.Ok (line.Note (note.Set 6 4) ∷ line.Send (link T M Ctl) (flight.Ctl (rec.Rcomp 4)) ∷ [])
    ∷ an_entry (event.ScgFail) answer.Ok (line.Send (link T M Ctl) (flight.Ctl (rec.Scgf ((6, 4) ∷ []))) ∷ [])
    ∷ an_entry (event.Step (link T M Ctl) 0) answer.Ok (line.Send (link M B Ctl) (flight.Ctl (rec.Recfg 4)) ∷ [])
    ∷ an_entry (event.Step (link T M Ctl) 0) answer.Ok []
    ∷ []) ≡ []
unfolding sn window modulus distance count_for data_pdu decoded read_data read_report keystream counter_block stream_blocks report_pdu
scgf_at_a_waiting_anchor_of_m_is_right = refl

scgn_without_effect_gone_is_right : breaks (a_header Nea0 5 (212 ∷ 183 ∷ 75 ∷ 163 ∷ 10 ∷ 82 ∷ 76 ∷ 36 ∷ 190 ∷ 48 ∷ 106 ∷ 31 ∷ 74 ∷ 122 ∷ 2 ∷ 30 ∷ 229 ∷ 123 ∷ 182 ∷ 52 ∷ 200 ∷ 91 ∷ 18 ∷ 112 ∷ 52 ∷ 50 ∷ 87 ∷ 136 ∷ 175 ∷ 19 ∷ 197 ∷ 118 ∷ [])) (
    an_entry (event.Add B) answer.Ok (line.Send (link M B Ctl) (flight.Ctl (rec.Addreq (a_plan 1 (Some B) []) [])) ∷ [])
    ∷ an_entry (event.Step (link M B Ctl) 0) answer.Ok (line.Note (note.Join B 1) ∷ line.Send (link B M Ctl) (flight.Ctl (rec.Addack 1)) ∷ [])
    ∷ an_entry (event.Step (link B M Ctl) 0) answer.Ok (line.Send (link M T Ctl) (flight.Ctl (rec.Reconf (a_plan 1 (Some B) []) [])) ∷ [])
    ∷ an_entry (event.Step (link M T Ctl) 0) answer.Ok (line.Send (link T M Ctl) (flight.Ctl (rec.Rcomp 1)) ∷ [])
    ∷ an_entry (event.Step (link T M Ctl) 0) answer.Ok (line.Send (link M B Ctl) (flight.Ctl (rec.Recfg 1)) ∷ line.Note note.Done ∷ [])
    ∷ an_entry (event.Change) answer.Ok (line.Send (link M A Ctl) (flight.Ctl (rec.Addreq (a_plan 2 (Some A) []) [])) ∷ [])
    ∷ an_entry (event.Step (link M A Ctl) 0) answer.Ok (line.Note (note.Join A 2) ∷ line.Send (link A M Ctl) (flight.Ctl (rec.Addack 2)) ∷ [])
    ∷ an_entry (event.Step (link A M Ctl) 0) answer.Ok (line.Send (link M T Ctl) (flight.Ctl (rec.Reconf (a_plan 2 (Some A) []) [])) ∷ line.Send (link M B Ctl) (flight.Ctl (rec.Relreq (a_plan 2 (Some A) []))) ∷ [])
    ∷ an_entry (event.Step (link M T Ctl) 0) answer.Ok (line.Send (link T M Ctl) (flight.Ctl (rec.Rcomp 2)) ∷ [])
    ∷ an_entry (event.Step (link T M Ctl) 0) answer.Ok (line.Send (link M A Ctl) (flight.Ctl (rec.Recfg 2)) ∷ line.Send (link M B Ctl) (flight.Ctl (rec.Uecr 2)) ∷ line.Note note.Done ∷ [])
    ∷ an_entry (event.Step (link M A Ctl) 0) answer.Ok []
    ∷ an_entry (event.Bearer 22 S12 4294966995 (a_shape true (Split cell.Mcg) false) 0 1) answer.Ok (line.Send (link M A Ctl) (flight.Ctl (rec.Modreq (a_plan 3 (Some A) (Set 22 S12 4294966995 (a_shape true (Split cell.Mcg) false) 0 1 (a_key 0 (SecondKey 6)) None ∷ [])) [])) ∷ [])
    ∷ an_entry (event.Step (link M A Ctl) 0) answer.Ok (line.Note (note.Own A 22 3) ∷ line.Send (link A M Ctl) (flight.Ctl (rec.Modack 3)) ∷ [])
    ∷ an_entry (event.Step (link A M Ctl) 0) answer.Ok (line.Send (link M T Ctl) (flight.Ctl (rec.Reconf (a_plan 3 (Some A) (Set 22 S12 4294966995 (a_shape true (Split cell.Mcg) false) 0 1 (a_key 0 (SecondKey 6)) None ∷ [])) [])) ∷ [])
    ∷ an_entry (event.Step (link M T Ctl) 0) answer.Ok (line.Note (note.Set 22 3) ∷ line.Send (link T M Ctl) (flight.Ctl (rec.Rcomp 3)) ∷ [])
    ∷ an_entry (event.Step (link T M Ctl) 0) answer.Ok (line.Send (link M A Ctl) (flight.Ctl (rec.Recfg 3)) ∷ line.Note note.Done ∷ [])
    ∷ an_entry (event.Step (link M A Ctl) 0) answer.Ok []
    ∷ an_entry (event.Remove 22) answer.Ok (line.Send (link M A Ctl) (flight.Ctl (rec.Modreq (a_plan 4 (Some A) (Unset 22 ∷ [])) [])) ∷ [])
    ∷ an_entry (event.ScgFail) answer.Ok (line.Send (link T M Ctl) (flight.Ctl (rec.Scgf ((22, 3) ∷ []))) ∷ [])
    ∷ an_entry (event.Step (link T M Ctl) 0) answer.Ok (line.Send (link M A Ctl) (flight.Ctl (rec.Scgn 22 3)) ∷ [])
    ∷ an_entry (event.Step (link M A Ctl) 0) answer.Ok (line.Send (link A M Ctl) (flight.Ctl (rec.Modack 4)) ∷ [])
    ∷ an_entry (event.Step (link M A Ctl) 0) answer.Ok []
    ∷ []) ≡ []
unfolding sn window modulus distance count_for data_pdu decoded read_data read_report keystream counter_block stream_blocks report_pdu
scgn_without_effect_gone_is_right = refl

scgn_without_effect_renewed_is_right : breaks (a_header Nea0 0 (237 ∷ 209 ∷ 44 ∷ 174 ∷ 65 ∷ 144 ∷ 120 ∷ 172 ∷ 172 ∷ 110 ∷ 67 ∷ 46 ∷ 170 ∷ 139 ∷ 149 ∷ 244 ∷ 83 ∷ 50 ∷ 160 ∷ 166 ∷ 29 ∷ 88 ∷ 154 ∷ 212 ∷ 235 ∷ 115 ∷ 67 ∷ 27 ∷ 34 ∷ 251 ∷ 172 ∷ 209 ∷ [])) (
    an_entry (event.Add A) answer.Ok (line.Send (link M A Ctl) (flight.Ctl (rec.Addreq (a_plan 1 (Some A) []) [])) ∷ [])
    ∷ an_entry (event.Step (link M A Ctl) 0) answer.Ok (line.Note (note.Join A 1) ∷ line.Send (link A M Ctl) (flight.Ctl (rec.Addack 1)) ∷ [])
    ∷ an_entry (event.Step (link A M Ctl) 0) answer.Ok (line.Send (link M T Ctl) (flight.Ctl (rec.Reconf (a_plan 1 (Some A) []) [])) ∷ [])
    ∷ an_entry (event.Step (link M T Ctl) 0) answer.Ok (line.Send (link T M Ctl) (flight.Ctl (rec.Rcomp 1)) ∷ [])
    ∷ an_entry (event.Step (link T M Ctl) 0) answer.Ok (line.Send (link M A Ctl) (flight.Ctl (rec.Recfg 1)) ∷ line.Note note.Done ∷ [])
    ∷ an_entry (event.Step (link M A Ctl) 0) answer.Ok []
    ∷ an_entry (event.Bearer 24 S12 4294967293 (a_shape true (Split cell.Scg) false) 1000 0) answer.Ok (line.Send (link M A Ctl) (flight.Ctl (rec.Modreq (a_plan 2 (Some A) (Set 24 S12 4294967293 (a_shape true (Split cell.Scg) false) 1000 0 (a_key 0 (SecondKey 0)) None ∷ [])) [])) ∷ [])
    ∷ an_entry (event.Step (link M A Ctl) 0) answer.Ok (line.Note (note.Own A 24 2) ∷ line.Send (link A M Ctl) (flight.Ctl (rec.Modack 2)) ∷ [])
    ∷ an_entry (event.Step (link A M Ctl) 0) answer.Ok (line.Send (link M T Ctl) (flight.Ctl (rec.Reconf (a_plan 2 (Some A) (Set 24 S12 4294967293 (a_shape true (Split cell.Scg) false) 1000 0 (a_key 0 (SecondKey 0)) None ∷ [])) [])) ∷ [])
    ∷ an_entry (event.Step (link M T Ctl) 0) answer.Ok (line.Note (note.Set 24 2) ∷ line.Send (link T M Ctl) (flight.Ctl (rec.Rcomp 2)) ∷ [])
    ∷ an_entry (event.Step (link T M Ctl) 0) answer.Ok (line.Send (link M A Ctl) (flight.Ctl (rec.Recfg 2)) ∷ line.Note note.Done ∷ [])
    ∷ an_entry (event.Step (link M A Ctl) 0) answer.Ok []
    ∷ an_entry (event.Change) answer.Ok (line.Send (link M B Ctl) (flight.Ctl (rec.Addreq (a_plan 3 (Some B) (Set 24 S12 4294967293 (a_shape true (Split cell.Scg) false) 1000 0 (a_key 0 (SecondKey 1)) (Some A) ∷ [])) [])) ∷ [])
    ∷ an_entry (event.Step (link M B Ctl) 0) answer.Ok (line.Note (note.Join B 3) ∷ line.Send (link B M Ctl) (flight.Ctl (rec.Addack 3)) ∷ [])
    ∷ an_entry (event.Step (link B M Ctl) 0) answer.Ok (line.Send (link M T Ctl) (flight.Ctl (rec.Reconf (a_plan 3 (Some B) (Set 24 S12 4294967293 (a_shape true (Split cell.Scg) false) 1000 0 (a_key 0 (SecondKey 1)) (Some A) ∷ [])) [])) ∷ line.Send (link M A Ctl) (flight.Ctl (rec.Relreq (a_plan 3 (Some B) (Set 24 S12 4294967293 (a_shape true (Split cell.Scg) false) 1000 0 (a_key 0 (SecondKey 1)) (Some A) ∷ [])))) ∷ line.Send (link M A Feed) (flight.End 24 3) ∷ [])
    ∷ an_entry (event.Step (link M T Ctl) 0) answer.Ok (line.Note (note.Set 24 3) ∷ line.Send (link T M Ctl) (flight.Ctl (rec.Rcomp 3)) ∷ [])
    ∷ an_entry (event.Step (link T M Ctl) 0) answer.Ok (line.Send (link M B Ctl) (flight.Ctl (rec.Recfg 3)) ∷ [])
    ∷ an_entry (event.Step (link M A Ctl) 0) answer.Ok (line.Note (note.Leave A 3) ∷ line.Note (note.Give A 24 3) ∷ line.Send (link A M Ctl) (flight.Ctl (rec.Relack 3)) ∷ line.Send (link A M Ctl) (flight.Ctl (rec.Snst (a_transfer 3 24 4294967293 [] 4294967293))) ∷ line.Send (link A B Tun) (flight.Tun None (52 ∷ 255 ∷ 0 ∷ 12 ∷ 0 ∷ 0 ∷ 1 ∷ 222 ∷ 0 ∷ 0 ∷ 0 ∷ 132 ∷ 2 ∷ 0 ∷ 0 ∷ 0 ∷ 0 ∷ 0 ∷ 0 ∷ 0 ∷ [])) ∷ line.Send (link A B Tun) (flight.Tun None (48 ∷ 254 ∷ 0 ∷ 0 ∷ 0 ∷ 0 ∷ 1 ∷ 222 ∷ [])) ∷ [])
    ∷ an_entry (event.Step (link A M Ctl) 0) answer.Ok []
    ∷ an_entry (event.Step (link A M Ctl) 0) answer.Ok (line.Send (link M B Ctl) (flight.Ctl (rec.Snst (a_transfer 3 24 4294967293 [] 4294967293))) ∷ [])
    ∷ an_entry (event.Step (link M B Ctl) 0) answer.Ok []
    ∷ an_entry (event.Step (link M B Ctl) 0) answer.Ok []
    ∷ an_entry (event.Step (link M A Feed) 0) answer.Ok (line.Send (link A B Tun) (flight.Tun None (52 ∷ 255 ∷ 0 ∷ 12 ∷ 0 ∷ 0 ∷ 1 ∷ 221 ∷ 0 ∷ 0 ∷ 0 ∷ 132 ∷ 2 ∷ 0 ∷ 0 ∷ 0 ∷ 0 ∷ 0 ∷ 0 ∷ 0 ∷ [])) ∷ line.Send (link A B Tun) (flight.Tun None (48 ∷ 254 ∷ 0 ∷ 0 ∷ 0 ∷ 0 ∷ 1 ∷ 221 ∷ [])) ∷ [])
    ∷ an_entry (event.Step (link A B Tun) 0) answer.Ok []
    ∷ an_entry (event.Step (link A B Tun) 0) answer.Ok []
    ∷ an_entry (event.Step (link A B Tun) 0) answer.Ok (line.Note (note.Own B 24 3) ∷ line.Send (link B M Ctl) (flight.Ctl (rec.Moved 3 24)) ∷ [])
    ∷ an_entry (event.Step (link B M Ctl) 0) answer.Ok (line.Send (link M A Ctl) (flight.Ctl (rec.Uecr 3)) ∷ line.Note note.Done ∷ [])
    ∷ an_entry (event.Step (link M A Ctl) 0) answer.Ok []
    ∷ an_entry (event.Step (link A B Tun) 0) answer.Ok []
    ∷ an_entry (event.RekeyMaster (210 ∷ 196 ∷ 161 ∷ 108 ∷ 115 ∷ 60 ∷ 226 ∷ 152 ∷ 76 ∷ 11 ∷ 154 ∷ 104 ∷ 120 ∷ 111 ∷ 96 ∷ 159 ∷ 135 ∷ 234 ∷ 102 ∷ 154 ∷ 152 ∷ 117 ∷ 162 ∷ 70 ∷ 169 ∷ 178 ∷ 224 ∷ 106 ∷ 23 ∷ 138 ∷ 237 ∷ 154 ∷ [])) answer.Ok (line.Send (link M B Ctl) (flight.Ctl (rec.Modreq (a_plan 4 (Some B) (Set 24 S12 4294967293 (a_shape true (Split cell.Scg) false) 1000 0 (a_key 1 (SecondKey 0)) (Some B) ∷ [])) [])) ∷ [])
    ∷ an_entry (event.ScgFail) answer.Ok (line.Send (link T M Ctl) (flight.Ctl (rec.Scgf ((24, 3) ∷ []))) ∷ [])
    ∷ an_entry (event.Step (link T M Ctl) 0) answer.Ok (line.Send (link M B Ctl) (flight.Ctl (rec.Scgn 24 3)) ∷ [])
    ∷ an_entry (event.Step (link M B Ctl) 0) answer.Ok (line.Note (note.Own B 24 4) ∷ line.Send (link B M Ctl) (flight.Ctl (rec.Modack 4)) ∷ [])
    ∷ an_entry (event.Step (link M B Ctl) 0) answer.Ok []
    ∷ []) ≡ []
unfolding sn window modulus distance count_for data_pdu decoded read_data read_report keystream counter_block stream_blocks report_pdu
scgn_without_effect_renewed_is_right = refl

told_between_drop_and_its_go_is_right : breaks (a_header Nea0 5 (212 ∷ 183 ∷ 75 ∷ 163 ∷ 10 ∷ 82 ∷ 76 ∷ 36 ∷ 190 ∷ 48 ∷ 106 ∷ 31 ∷ 74 ∷ 122 ∷ 2 ∷ 30 ∷ 229 ∷ 123 ∷ 182 ∷ 52 ∷ 200 ∷ 91 ∷ 18 ∷ 112 ∷ 52 ∷ 50 ∷ 87 ∷ 136 ∷ 175 ∷ 19 ∷ 197 ∷ 118 ∷ [])) (
    an_entry (event.Add B) answer.Ok (line.Send (link M B Ctl) (flight.Ctl (rec.Addreq (a_plan 1 (Some B) []) [])) ∷ [])
    ∷ an_entry (event.Step (link M B Ctl) 0) answer.Ok (line.Note (note.Join B 1) ∷ line.Send (link B M Ctl) (flight.Ctl (rec.Addack 1)) ∷ [])
    ∷ an_entry (event.Step (link B M Ctl) 0) answer.Ok (line.Send (link M T Ctl) (flight.Ctl (rec.Reconf (a_plan 1 (Some B) []) [])) ∷ [])
    ∷ an_entry (event.Step (link M T Ctl) 0) answer.Ok (line.Send (link T M Ctl) (flight.Ctl (rec.Rcomp 1)) ∷ [])
    ∷ an_entry (event.Step (link T M Ctl) 0) answer.Ok (line.Send (link M B Ctl) (flight.Ctl (rec.Recfg 1)) ∷ line.Note note.Done ∷ [])
    ∷ an_entry (event.Change) answer.Ok (line.Send (link M A Ctl) (flight.Ctl (rec.Addreq (a_plan 2 (Some A) []) [])) ∷ [])
    ∷ an_entry (event.Step (link M A Ctl) 0) answer.Ok (line.Note (note.Join A 2) ∷ line.Send (link A M Ctl) (flight.Ctl (rec.Addack 2)) ∷ [])
    ∷ an_entry (event.Step (link A M Ctl) 0) answer.Ok (line.Send (link M T Ctl) (flight.Ctl (rec.Reconf (a_plan 2 (Some A) []) [])) ∷ line.Send (link M B Ctl) (flight.Ctl (rec.Relreq (a_plan 2 (Some A) []))) ∷ [])
    ∷ an_entry (event.Step (link M T Ctl) 0) answer.Ok (line.Send (link T M Ctl) (flight.Ctl (rec.Rcomp 2)) ∷ [])
    ∷ an_entry (event.Step (link T M Ctl) 0) answer.Ok (line.Send (link M A Ctl) (flight.Ctl (rec.Recfg 2)) ∷ line.Send (link M B Ctl) (flight.Ctl (rec.Uecr 2)) ∷ line.Note note.Done ∷ [])
    ∷ an_entry (event.Step (link M A Ctl) 0) answer.Ok []
    ∷ an_entry (event.Bearer 22 S12 4294966995 (a_shape true (Split cell.Mcg) false) 0 1) answer.Ok (line.Send (link M A Ctl) (flight.Ctl (rec.Modreq (a_plan 3 (Some A) (Set 22 S12 4294966995 (a_shape true (Split cell.Mcg) false) 0 1 (a_key 0 (SecondKey 6)) None ∷ [])) [])) ∷ [])
    ∷ an_entry (event.Step (link M A Ctl) 0) answer.Ok (line.Note (note.Own A 22 3) ∷ line.Send (link A M Ctl) (flight.Ctl (rec.Modack 3)) ∷ [])
    ∷ an_entry (event.Step (link A M Ctl) 0) answer.Ok (line.Send (link M T Ctl) (flight.Ctl (rec.Reconf (a_plan 3 (Some A) (Set 22 S12 4294966995 (a_shape true (Split cell.Mcg) false) 0 1 (a_key 0 (SecondKey 6)) None ∷ [])) [])) ∷ [])
    ∷ an_entry (event.Step (link M T Ctl) 0) answer.Ok (line.Note (note.Set 22 3) ∷ line.Send (link T M Ctl) (flight.Ctl (rec.Rcomp 3)) ∷ [])
    ∷ an_entry (event.Step (link T M Ctl) 0) answer.Ok (line.Send (link M A Ctl) (flight.Ctl (rec.Recfg 3)) ∷ line.Note note.Done ∷ [])
    ∷ an_entry (event.Step (link M A Ctl) 0) answer.Ok []
    ∷ an_entry (event.Submit 22 Dl (0 ∷ 0 ∷ 0 ∷ 13 ∷ 171 ∷ 171 ∷ 171 ∷ 171 ∷ 171 ∷ 171 ∷ 171 ∷ [])) answer.Ok (line.Send (link M A Feed) (flight.Sdu 22 3 (0 ∷ 0 ∷ 0 ∷ 13 ∷ 171 ∷ 171 ∷ 171 ∷ 171 ∷ 171 ∷ 171 ∷ 171 ∷ [])) ∷ [])
    ∷ an_entry (event.Step (link M A Feed) 0) answer.Ok (line.Send (link A T Air) (flight.Air 22 3 0 (Some 4294966995) (142 ∷ 211 ∷ 0 ∷ 0 ∷ 0 ∷ 13 ∷ 171 ∷ 171 ∷ 171 ∷ 171 ∷ 171 ∷ 171 ∷ 171 ∷ [])) ∷ [])
    ∷ an_entry (event.Step (link A T Air) 0) answer.Ok (line.Note (note.Up T 22 Dl 4294966995 (0 ∷ 0 ∷ 0 ∷ 13 ∷ 171 ∷ 171 ∷ 171 ∷ 171 ∷ 171 ∷ 171 ∷ 171 ∷ [])) ∷ line.Send (link T A Air) (flight.Ack 22 3 0) ∷ [])
    ∷ an_entry (event.Remove 22) answer.Ok (line.Send (link M A Ctl) (flight.Ctl (rec.Modreq (a_plan 4 (Some A) (Unset 22 ∷ [])) [])) ∷ [])
    ∷ an_entry (event.Step (link T A Air) 0) answer.Ok (line.Send (link A M Feed) (flight.Told 22 3 4294966996) ∷ [])
    ∷ an_entry (event.Step (link A M Feed) 0) answer.Ok (line.Note (note.Freed 22 Dl 4294966996) ∷ [])
    ∷ []) ≡ []
unfolding sn window modulus distance count_for data_pdu decoded read_data read_report keystream counter_block stream_blocks report_pdu
told_between_drop_and_its_go_is_right = refl

told_that_is_not_greater_is_right : breaks (a_header Nea0 65520 (174 ∷ 105 ∷ 6 ∷ 187 ∷ 41 ∷ 206 ∷ 90 ∷ 47 ∷ 239 ∷ 162 ∷ 140 ∷ 100 ∷ 153 ∷ 15 ∷ 135 ∷ 125 ∷ 55 ∷ 203 ∷ 0 ∷ 255 ∷ 185 ∷ 139 ∷ 88 ∷ 210 ∷ 192 ∷ 128 ∷ 7 ∷ 60 ∷ 117 ∷ 71 ∷ 11 ∷ 175 ∷ [])) (
    an_entry (event.Add A) answer.Ok (line.Send (link M A Ctl) (flight.Ctl (rec.Addreq (a_plan 1 (Some A) []) [])) ∷ [])
    ∷ an_entry (event.Step (link M A Ctl) 0) answer.Ok (line.Note (note.Join A 1) ∷ line.Send (link A M Ctl) (flight.Ctl (rec.Addack 1)) ∷ [])
    ∷ an_entry (event.Step (link A M Ctl) 0) answer.Ok (line.Send (link M T Ctl) (flight.Ctl (rec.Reconf (a_plan 1 (Some A) []) [])) ∷ [])
    ∷ an_entry (event.Step (link M T Ctl) 0) answer.Ok (line.Send (link T M Ctl) (flight.Ctl (rec.Rcomp 1)) ∷ [])
    ∷ an_entry (event.Step (link T M Ctl) 0) answer.Ok (line.Send (link M A Ctl) (flight.Ctl (rec.Recfg 1)) ∷ line.Note note.Done ∷ [])
    ∷ an_entry (event.Step (link M A Ctl) 0) answer.Ok []
    ∷ an_entry (event.Bearer 1 S12 0 (a_shape true Scg false) 1000 0) answer.Ok (line.Send (link M A Ctl) (flight.Ctl (rec.Modreq (a_plan 2 (Some A) (Set 1 S12 0 (a_shape true Scg false) 1000 0 (a_key 0 (SecondKey 65520)) None ∷ [])) [])) ∷ [])
    ∷ an_entry (event.Step (link M A Ctl) 0) answer.Ok (line.Note (note.Own A 1 2) ∷ line.Send (link A M Ctl) (flight.Ctl (rec.Modack 2)) ∷ [])
    ∷ an_entry (event.Step (link A M Ctl) 0) answer.Ok (line.Send (link M T Ctl) (flight.Ctl (rec.Reconf (a_plan 2 (Some A) (Set 1 S12 0 (a_shape true Scg false) 1000 0 (a_key 0 (SecondKey 65520)) None ∷ [])) [])) ∷ [])
    ∷ an_entry (event.Step (link M T Ctl) 0) answer.Ok (line.Note (note.Set 1 2) ∷ line.Send (link T M Ctl) (flight.Ctl (rec.Rcomp 2)) ∷ [])
    ∷ an_entry (event.Step (link T M Ctl) 0) answer.Ok (line.Send (link M A Ctl) (flight.Ctl (rec.Recfg 2)) ∷ line.Note note.Done ∷ [])
    ∷ an_entry (event.Step (link M A Ctl) 0) answer.Ok []
    ∷ an_entry (event.Submit 1 Dl (0 ∷ 0 ∷ 0 ∷ 11 ∷ [])) answer.Ok (line.Send (link M A Feed) (flight.Sdu 1 2 (0 ∷ 0 ∷ 0 ∷ 11 ∷ [])) ∷ [])
    ∷ an_entry (event.Step (link M A Feed) 0) answer.Ok (line.Send (link A T Air) (flight.Air 1 2 0 (Some 0) (128 ∷ 0 ∷ 0 ∷ 0 ∷ 0 ∷ 11 ∷ [])) ∷ [])
    ∷ an_entry (event.Step (link A T Air) 0) answer.Ok (line.Note (note.Up T 1 Dl 0 (0 ∷ 0 ∷ 0 ∷ 11 ∷ [])) ∷ line.Send (link T A Air) (flight.Ack 1 2 0) ∷ [])
    ∷ an_entry (event.Step (link T A Air) 0) answer.Ok (line.Send (link A M Feed) (flight.Told 1 2 1) ∷ [])
    ∷ an_entry (event.Change) answer.Ok (line.Send (link M B Ctl) (flight.Ctl (rec.Addreq (a_plan 3 (Some B) (Set 1 S12 0 (a_shape true Scg false) 1000 0 (a_key 0 (SecondKey 65521)) (Some A) ∷ [])) [])) ∷ [])
    ∷ an_entry (event.Step (link M B Ctl) 0) answer.Ok (line.Note (note.Join B 3) ∷ line.Send (link B M Ctl) (flight.Ctl (rec.Addack 3)) ∷ [])
    ∷ an_entry (event.Step (link B M Ctl) 0) answer.Ok (line.Send (link M T Ctl) (flight.Ctl (rec.Reconf (a_plan 3 (Some B) (Set 1 S12 0 (a_shape true Scg false) 1000 0 (a_key 0 (SecondKey 65521)) (Some A) ∷ [])) [])) ∷ line.Send (link M A Ctl) (flight.Ctl (rec.Relreq (a_plan 3 (Some B) (Set 1 S12 0 (a_shape true Scg false) 1000 0 (a_key 0 (SecondKey 65521)) (Some A) ∷ [])))) ∷ line.Send (link M A Feed) (flight.End 1 3) ∷ [])
    ∷ an_entry (event.Step (link M A Feed) 0) answer.Ok []
    ∷ an_entry (event.Step (link M T Ctl) 0) answer.Ok (line.Note (note.Set 1 3) ∷ line.Send (link T M Ctl) (flight.Ctl (rec.Rcomp 3)) ∷ [])
    ∷ an_entry (event.Step (link T M Ctl) 0) answer.Ok (line.Send (link M B Ctl) (flight.Ctl (rec.Recfg 3)) ∷ [])
    ∷ an_entry (event.Step (link M A Ctl) 0) answer.Ok (line.Note (note.Leave A 3) ∷ line.Note (note.Give A 1 3) ∷ line.Send (link A M Ctl) (flight.Ctl (rec.Relack 3)) ∷ line.Send (link A M Ctl) (flight.Ctl (rec.Snst (a_transfer 3 1 0 [] 1))) ∷ line.Send (link A B Tun) (flight.Tun None (52 ∷ 255 ∷ 0 ∷ 12 ∷ 0 ∷ 0 ∷ 1 ∷ 129 ∷ 0 ∷ 0 ∷ 0 ∷ 132 ∷ 2 ∷ 0 ∷ 0 ∷ 0 ∷ 0 ∷ 0 ∷ 0 ∷ 0 ∷ [])) ∷ line.Send (link A B Tun) (flight.Tun None (48 ∷ 254 ∷ 0 ∷ 0 ∷ 0 ∷ 0 ∷ 1 ∷ 129 ∷ [])) ∷ line.Send (link A B Tun) (flight.Tun None (52 ∷ 255 ∷ 0 ∷ 12 ∷ 0 ∷ 0 ∷ 1 ∷ 130 ∷ 0 ∷ 0 ∷ 0 ∷ 132 ∷ 2 ∷ 0 ∷ 0 ∷ 0 ∷ 0 ∷ 0 ∷ 0 ∷ 0 ∷ [])) ∷ line.Send (link A B Tun) (flight.Tun None (48 ∷ 254 ∷ 0 ∷ 0 ∷ 0 ∷ 0 ∷ 1 ∷ 130 ∷ [])) ∷ [])
    ∷ an_entry (event.Step (link A M Ctl) 0) answer.Ok []
    ∷ an_entry (event.Step (link A M Ctl) 0) answer.Ok (line.Send (link M B Ctl) (flight.Ctl (rec.Snst (a_transfer 3 1 0 [] 1))) ∷ [])
    ∷ an_entry (event.Step (link A B Tun) 0) answer.Ok []
    ∷ an_entry (event.Step (link A B Tun) 0) answer.Ok []
    ∷ an_entry (event.Step (link A B Tun) 0) answer.Ok []
    ∷ an_entry (event.Step (link M B Ctl) 0) answer.Ok []
    ∷ an_entry (event.Submit 1 Dl (0 ∷ 0 ∷ 0 ∷ 32 ∷ 171 ∷ 171 ∷ 171 ∷ 171 ∷ 171 ∷ 171 ∷ 171 ∷ 171 ∷ 171 ∷ 171 ∷ 171 ∷ 171 ∷ 171 ∷ 171 ∷ 171 ∷ 171 ∷ 171 ∷ 171 ∷ 171 ∷ 171 ∷ 171 ∷ 171 ∷ 171 ∷ 171 ∷ 171 ∷ 171 ∷ 171 ∷ 171 ∷ 171 ∷ 171 ∷ 171 ∷ 171 ∷ 171 ∷ 171 ∷ 171 ∷ 171 ∷ 171 ∷ 171 ∷ 171 ∷ 171 ∷ 171 ∷ 171 ∷ 171 ∷ 171 ∷ 171 ∷ 171 ∷ 171 ∷ 171 ∷ 171 ∷ 171 ∷ 171 ∷ 171 ∷ 171 ∷ 171 ∷ 171 ∷ 171 ∷ 171 ∷ 171 ∷ 171 ∷ 171 ∷ 171 ∷ 171 ∷ 171 ∷ 171 ∷ 171 ∷ 171 ∷ 171 ∷ 171 ∷ 171 ∷ 171 ∷ 171 ∷ 171 ∷ 171 ∷ 171 ∷ 171 ∷ 171 ∷ 171 ∷ 171 ∷ 171 ∷ 171 ∷ 171 ∷ 171 ∷ 171 ∷ 171 ∷ 171 ∷ 171 ∷ 171 ∷ 171 ∷ 171 ∷ 171 ∷ 171 ∷ 171 ∷ 171 ∷ 171 ∷ 171 ∷ 171 ∷ 171 ∷ 171 ∷ 171 ∷ 171 ∷ 171 ∷ 171 ∷ 171 ∷ 171 ∷ 171 ∷ 171 ∷ 171 ∷ 171 ∷ 171 ∷ 171 ∷ 171 ∷ 171 ∷ 171 ∷ 171 ∷ 171 ∷ 171 ∷ 171 ∷ 171 ∷ 171 ∷ 171 ∷ 171 ∷ 171 ∷ 171 ∷ 171 ∷ 171 ∷ 171 ∷ 171 ∷ 171 ∷ 171 ∷ 171 ∷ 171 ∷ 171 ∷ 171 ∷ 171 ∷ 171 ∷ 171 ∷ 171 ∷ 171 ∷ 171 ∷ 171 ∷ 171 ∷ 171 ∷ 171 ∷ 171 ∷ 171 ∷ 171 ∷ 171 ∷ 171 ∷ 171 ∷ 171 ∷ 171 ∷ 171 ∷ 171 ∷ 171 ∷ 171 ∷ 171 ∷ 171 ∷ 171 ∷ 171 ∷ 171 ∷ 171 ∷ 171 ∷ 171 ∷ 171 ∷ 171 ∷ 171 ∷ 171 ∷ 171 ∷ 171 ∷ 171 ∷ 171 ∷ 171 ∷ 171 ∷ 171 ∷ 171 ∷ 171 ∷ 171 ∷ 171 ∷ 171 ∷ 171 ∷ 171 ∷ 171 ∷ 171 ∷ 171 ∷ 171 ∷ 171 ∷ 171 ∷ 171 ∷ 171 ∷ 171 ∷ 171 ∷ 171 ∷ 171 ∷ 171 ∷ 171 ∷ 171 ∷ 171 ∷ 171 ∷ 171 ∷ 171 ∷ 171 ∷ 171 ∷ 171 ∷ 171 ∷ 171 ∷ 171 ∷ 171 ∷ 171 ∷ 171 ∷ 171 ∷ 171 ∷ 171 ∷ 171 ∷ 171 ∷ 171 ∷ 171 ∷ 171 ∷ 171 ∷ 171 ∷ 171 ∷ 171 ∷ 171 ∷ 171 ∷ 171 ∷ 171 ∷ 171 ∷ 171 ∷ 171 ∷ 171 ∷ 171 ∷ 171 ∷ 171 ∷ 171 ∷ 171 ∷ 171 ∷ 171 ∷ 171 ∷ 171 ∷ 171 ∷ 171 ∷ 171 ∷ 171 ∷ 171 ∷ 171 ∷ 171 ∷ 171 ∷ 171 ∷ 171 ∷ 171 ∷ 171 ∷ 171 ∷ 171 ∷ 171 ∷ 171 ∷ 171 ∷ 171 ∷ 171 ∷ 171 ∷ 171 ∷ 171 ∷ 171 ∷ 171 ∷ 171 ∷ 171 ∷ 171 ∷ 171 ∷ 171 ∷ 171 ∷ 171 ∷ 171 ∷ 171 ∷ 171 ∷ 171 ∷ 171 ∷ 171 ∷ 171 ∷ 171 ∷ 171 ∷ 171 ∷ 171 ∷ 171 ∷ 171 ∷ 171 ∷ 171 ∷ 171 ∷ 171 ∷ 171 ∷ 171 ∷ 171 ∷ 171 ∷ 171 ∷ 171 ∷ 171 ∷ 171 ∷ 171 ∷ 171 ∷ 171 ∷ 171 ∷ 171 ∷ 171 ∷ 171 ∷ 171 ∷ 171 ∷ 171 ∷ 171 ∷ 171 ∷ 171 ∷ 171 ∷ 171 ∷ 171 ∷ 171 ∷ 171 ∷ 171 ∷ 171 ∷ 171 ∷ 171 ∷ 171 ∷ 171 ∷ 171 ∷ 171 ∷ 171 ∷ 171 ∷ 171 ∷ 171 ∷ 171 ∷ 171 ∷ 171 ∷ 171 ∷ 171 ∷ 171 ∷ 171 ∷ 171 ∷ 171 ∷ 171 ∷ 171 ∷ 171 ∷ 171 ∷ 171 ∷ 171 ∷ 171 ∷ 171 ∷ 171 ∷ 171 ∷ 171 ∷ 171 ∷ 171 ∷ 171 ∷ 171 ∷ 171 ∷ 171 ∷ 171 ∷ 171 ∷ 171 ∷ 171 ∷ 171 ∷ 171 ∷ 171 ∷ 171 ∷ 171 ∷ 171 ∷ 171 ∷ 171 ∷ 171 ∷ 171 ∷ 171 ∷ 171 ∷ 171 ∷ 171 ∷ 171 ∷ 171 ∷ 171 ∷ 171 ∷ 171 ∷ 171 ∷ 171 ∷ 171 ∷ 171 ∷ 171 ∷ 171 ∷ 171 ∷ 171 ∷ 171 ∷ 171 ∷ 171 ∷ 171 ∷ 171 ∷ 171 ∷ 171 ∷ 171 ∷ 171 ∷ 171 ∷ 171 ∷ 171 ∷ 171 ∷ 171 ∷ 171 ∷ 171 ∷ 171 ∷ 171 ∷ 171 ∷ [])) answer.Ok (line.Send (link M B Feed) (flight.Sdu 1 3 (0 ∷ 0 ∷ 0 ∷ 32 ∷ 171 ∷ 171 ∷ 171 ∷ 171 ∷ 171 ∷ 171 ∷ 171 ∷ 171 ∷ 171 ∷ 171 ∷ 171 ∷ 171 ∷ 171 ∷ 171 ∷ 171 ∷ 171 ∷ 171 ∷ 171 ∷ 171 ∷ 171 ∷ 171 ∷ 171 ∷ 171 ∷ 171 ∷ 171 ∷ 171 ∷ 171 ∷ 171 ∷ 171 ∷ 171 ∷ 171 ∷ 171 ∷ 171 ∷ 171 ∷ 171 ∷ 171 ∷ 171 ∷ 171 ∷ 171 ∷ 171 ∷ 171 ∷ 171 ∷ 171 ∷ 171 ∷ 171 ∷ 171 ∷ 171 ∷ 171 ∷ 171 ∷ 171 ∷ 171 ∷ 171 ∷ 171 ∷ 171 ∷ 171 ∷ 171 ∷ 171 ∷ 171 ∷ 171 ∷ 171 ∷ 171 ∷ 171 ∷ 171 ∷ 171 ∷ 171 ∷ 171 ∷ 171 ∷ 171 ∷ 171 ∷ 171 ∷ 171 ∷ 171 ∷ 171 ∷ 171 ∷ 171 ∷ 171 ∷ 171 ∷ 171 ∷ 171 ∷ 171 ∷ 171 ∷ 171 ∷ 171 ∷ 171 ∷ 171 ∷ 171 ∷ 171 ∷ 171 ∷ 171 ∷ 171 ∷ 171 ∷ 171 ∷ 171 ∷ 171 ∷ 171 ∷ 171 ∷ 171 ∷ 171 ∷ 171 ∷ 171 ∷ 171 ∷ 171 ∷ 171 ∷ 171 ∷ 171 ∷ 171 ∷ 171 ∷ 171 ∷ 171 ∷ 171 ∷ 171 ∷ 171 ∷ 171 ∷ 171 ∷ 171 ∷ 171 ∷ 171 ∷ 171 ∷ 171 ∷ 171 ∷ 171 ∷ 171 ∷ 171 ∷ 171 ∷ 171 ∷ 171 ∷ 171 ∷ 171 ∷ 171 ∷ 171 ∷ 171 ∷ 171 ∷ 171 ∷ 171 ∷ 171 ∷ 171 ∷ 171 ∷ 171 ∷ 171 ∷ 171 ∷ 171 ∷ 171 ∷ 171 ∷ 171 ∷ 171 ∷ 171 ∷ 171 ∷ 171 ∷ 171 ∷ 171 ∷ 171 ∷ 171 ∷ 171 ∷ 171 ∷ 171 ∷ 171 ∷ 171 ∷ 171 ∷ 171 ∷ 171 ∷ 171 ∷ 171 ∷ 171 ∷ 171 ∷ 171 ∷ 171 ∷ 171 ∷ 171 ∷ 171 ∷ 171 ∷ 171 ∷ 171 ∷ 171 ∷ 171 ∷ 171 ∷ 171 ∷ 171 ∷ 171 ∷ 171 ∷ 171 ∷ 171 ∷ 171 ∷ 171 ∷ 171 ∷ 171 ∷ 171 ∷ 171 ∷ 171 ∷ 171 ∷ 171 ∷ 171 ∷ 171 ∷ 171 ∷ 171 ∷ 171 ∷ 171 ∷ 171 ∷ 171 ∷ 171 ∷ 171 ∷ 171 ∷ 171 ∷ 171 ∷ 171 ∷ 171 ∷ 171 ∷ 171 ∷ 171 ∷ 171 ∷ 171 ∷ 171 ∷ 171 ∷ 171 ∷ 171 ∷ 171 ∷ 171 ∷ 171 ∷ 171 ∷ 171 ∷ 171 ∷ 171 ∷ 171 ∷ 171 ∷ 171 ∷ 171 ∷ 171 ∷ 171 ∷ 171 ∷ 171 ∷ 171 ∷ 171 ∷ 171 ∷ 171 ∷ 171 ∷ 171 ∷ 171 ∷ 171 ∷ 171 ∷ 171 ∷ 171 ∷ 171 ∷ 171 ∷ 171 ∷ 171 ∷ 171 ∷ 171 ∷ 171 ∷ 171 ∷ 171 ∷ 171 ∷ 171 ∷ 171 ∷ 171 ∷ 171 ∷ 171 ∷ 171 ∷ 171 ∷ 171 ∷ 171 ∷ 171 ∷ 171 ∷ 171 ∷ 171 ∷ 171 ∷ 171 ∷ 171 ∷ 171 ∷ 171 ∷ 171 ∷ 171 ∷ 171 ∷ 171 ∷ 171 ∷ 171 ∷ 171 ∷ 171 ∷ 171 ∷ 171 ∷ 171 ∷ 171 ∷ 171 ∷ 171 ∷ 171 ∷ 171 ∷ 171 ∷ 171 ∷ 171 ∷ 171 ∷ 171 ∷ 171 ∷ 171 ∷ 171 ∷ 171 ∷ 171 ∷ 171 ∷ 171 ∷ 171 ∷ 171 ∷ 171 ∷ 171 ∷ 171 ∷ 171 ∷ 171 ∷ 171 ∷ 171 ∷ 171 ∷ 171 ∷ 171 ∷ 171 ∷ 171 ∷ 171 ∷ 171 ∷ 171 ∷ 171 ∷ 171 ∷ 171 ∷ 171 ∷ 171 ∷ 171 ∷ 171 ∷ 171 ∷ 171 ∷ 171 ∷ 171 ∷ 171 ∷ 171 ∷ 171 ∷ 171 ∷ 171 ∷ 171 ∷ 171 ∷ 171 ∷ 171 ∷ 171 ∷ 171 ∷ 171 ∷ 171 ∷ 171 ∷ 171 ∷ 171 ∷ 171 ∷ 171 ∷ 171 ∷ 171 ∷ 171 ∷ 171 ∷ 171 ∷ 171 ∷ 171 ∷ 171 ∷ 171 ∷ 171 ∷ 171 ∷ 171 ∷ 171 ∷ 171 ∷ 171 ∷ 171 ∷ 171 ∷ 171 ∷ 171 ∷ 171 ∷ 171 ∷ 171 ∷ 171 ∷ 171 ∷ 171 ∷ 171 ∷ 171 ∷ 171 ∷ 171 ∷ 171 ∷ 171 ∷ 171 ∷ 171 ∷ 171 ∷ 171 ∷ 171 ∷ 171 ∷ 171 ∷ 171 ∷ 171 ∷ 171 ∷ 171 ∷ 171 ∷ 171 ∷ 171 ∷ 171 ∷ 171 ∷ 171 ∷ 171 ∷ 171 ∷ 171 ∷ 171 ∷ 171 ∷ 171 ∷ 171 ∷ 171 ∷ 171 ∷ 171 ∷ [])) ∷ [])
    ∷ an_entry (event.Step (link M B Feed) 0) answer.Ok []
    ∷ an_entry (event.Step (link M B Ctl) 0) answer.Ok (line.Note (note.Own B 1 3) ∷ line.Send (link B M Ctl) (flight.Ctl (rec.Moved 3 1)) ∷ line.Send (link B T Air) (flight.Air 1 3 0 (Some 1) (128 ∷ 1 ∷ 0 ∷ 0 ∷ 0 ∷ 32 ∷ 171 ∷ 171 ∷ 171 ∷ 171 ∷ 171 ∷ 171 ∷ 171 ∷ 171 ∷ 171 ∷ 171 ∷ 171 ∷ 171 ∷ 171 ∷ 171 ∷ 171 ∷ 171 ∷ 171 ∷ 171 ∷ 171 ∷ 171 ∷ 171 ∷ 171 ∷ 171 ∷ 171 ∷ 171 ∷ 171 ∷ 171 ∷ 171 ∷ 171 ∷ 171 ∷ 171 ∷ 171 ∷ 171 ∷ 171 ∷ 171 ∷ 171 ∷ 171 ∷ 171 ∷ 171 ∷ 171 ∷ 171 ∷ 171 ∷ 171 ∷ 171 ∷ 171 ∷ 171 ∷ 171 ∷ 171 ∷ 171 ∷ 171 ∷ 171 ∷ 171 ∷ 171 ∷ 171 ∷ 171 ∷ 171 ∷ 171 ∷ 171 ∷ 171 ∷ 171 ∷ 171 ∷ 171 ∷ 171 ∷ 171 ∷ 171 ∷ 171 ∷ 171 ∷ 171 ∷ 171 ∷ 171 ∷ 171 ∷ 171 ∷ 171 ∷ 171 ∷ 171 ∷ 171 ∷ 171 ∷ 171 ∷ 171 ∷ 171 ∷ 171 ∷ 171 ∷ 171 ∷ 171 ∷ 171 ∷ 171 ∷ 171 ∷ 171 ∷ 171 ∷ 171 ∷ 171 ∷ 171 ∷ 171 ∷ 171 ∷ 171 ∷ 171 ∷ 171 ∷ 171 ∷ 171 ∷ 171 ∷ 171 ∷ 171 ∷ 171 ∷ 171 ∷ 171 ∷ 171 ∷ 171 ∷ 171 ∷ 171 ∷ 171 ∷ 171 ∷ 171 ∷ 171 ∷ 171 ∷ 171 ∷ 171 ∷ 171 ∷ 171 ∷ 171 ∷ 171 ∷ 171 ∷ 171 ∷ 171 ∷ 171 ∷ 171 ∷ 171 ∷ 171 ∷ 171 ∷ 171 ∷ 171 ∷ 171 ∷ 171 ∷ 171 ∷ 171 ∷ 171 ∷ 171 ∷ 171 ∷ 171 ∷ 171 ∷ 171 ∷ 171 ∷ 171 ∷ 171 ∷ 171 ∷ 171 ∷ 171 ∷ 171 ∷ 171 ∷ 171 ∷ 171 ∷ 171 ∷ 171 ∷ 171 ∷ 171 ∷ 171 ∷ 171 ∷ 171 ∷ 171 ∷ 171 ∷ 171 ∷ 171 ∷ 171 ∷ 171 ∷ 171 ∷ 171 ∷ 171 ∷ 171 ∷ 171 ∷ 171 ∷ 171 ∷ 171 ∷ 171 ∷ 171 ∷ 171 ∷ 171 ∷ 171 ∷ 171 ∷ 171 ∷ 171 ∷ 171 ∷ 171 ∷ 171 ∷ 171 ∷ 171 ∷ 171 ∷ 171 ∷ 171 ∷ 171 ∷ 171 ∷ 171 ∷ 171 ∷ 171 ∷ 171 ∷ 171 ∷ 171 ∷ 171 ∷ 171 ∷ 171 ∷ 171 ∷ 171 ∷ 171 ∷ 171 ∷ 171 ∷ 171 ∷ 171 ∷ 171 ∷ 171 ∷ 171 ∷ 171 ∷ 171 ∷ 171 ∷ 171 ∷ 171 ∷ 171 ∷ 171 ∷ 171 ∷ 171 ∷ 171 ∷ 171 ∷ 171 ∷ 171 ∷ 171 ∷ 171 ∷ 171 ∷ 171 ∷ 171 ∷ 171 ∷ 171 ∷ 171 ∷ 171 ∷ 171 ∷ 171 ∷ 171 ∷ 171 ∷ 171 ∷ 171 ∷ 171 ∷ 171 ∷ 171 ∷ 171 ∷ 171 ∷ 171 ∷ 171 ∷ 171 ∷ 171 ∷ 171 ∷ 171 ∷ 171 ∷ 171 ∷ 171 ∷ 171 ∷ 171 ∷ 171 ∷ 171 ∷ 171 ∷ 171 ∷ 171 ∷ 171 ∷ 171 ∷ 171 ∷ 171 ∷ 171 ∷ 171 ∷ 171 ∷ 171 ∷ 171 ∷ 171 ∷ 171 ∷ 171 ∷ 171 ∷ 171 ∷ 171 ∷ 171 ∷ 171 ∷ 171 ∷ 171 ∷ 171 ∷ 171 ∷ 171 ∷ 171 ∷ 171 ∷ 171 ∷ 171 ∷ 171 ∷ 171 ∷ 171 ∷ 171 ∷ 171 ∷ 171 ∷ 171 ∷ 171 ∷ 171 ∷ 171 ∷ 171 ∷ 171 ∷ 171 ∷ 171 ∷ 171 ∷ 171 ∷ 171 ∷ 171 ∷ 171 ∷ 171 ∷ 171 ∷ 171 ∷ 171 ∷ 171 ∷ 171 ∷ 171 ∷ 171 ∷ 171 ∷ 171 ∷ 171 ∷ 171 ∷ 171 ∷ 171 ∷ 171 ∷ 171 ∷ 171 ∷ 171 ∷ 171 ∷ 171 ∷ 171 ∷ 171 ∷ 171 ∷ 171 ∷ 171 ∷ 171 ∷ 171 ∷ 171 ∷ 171 ∷ 171 ∷ 171 ∷ 171 ∷ 171 ∷ 171 ∷ 171 ∷ 171 ∷ 171 ∷ 171 ∷ 171 ∷ 171 ∷ 171 ∷ 171 ∷ 171 ∷ 171 ∷ 171 ∷ 171 ∷ 171 ∷ 171 ∷ 171 ∷ 171 ∷ 171 ∷ 171 ∷ 171 ∷ 171 ∷ 171 ∷ 171 ∷ 171 ∷ 171 ∷ 171 ∷ 171 ∷ 171 ∷ 171 ∷ 171 ∷ 171 ∷ 171 ∷ 171 ∷ 171 ∷ 171 ∷ 171 ∷ 171 ∷ 171 ∷ 171 ∷ 171 ∷ 171 ∷ 171 ∷ 171 ∷ 171 ∷ 171 ∷ 171 ∷ 171 ∷ 171 ∷ 171 ∷ 171 ∷ 171 ∷ 171 ∷ 171 ∷ 171 ∷ 171 ∷ 171 ∷ 171 ∷ 171 ∷ 171 ∷ 171 ∷ 171 ∷ 171 ∷ 171 ∷ 171 ∷ 171 ∷ [])) ∷ [])
    ∷ an_entry (event.Step (link B T Air) 0) answer.Ok (line.Note (note.Up T 1 Dl 1 (0 ∷ 0 ∷ 0 ∷ 32 ∷ 171 ∷ 171 ∷ 171 ∷ 171 ∷ 171 ∷ 171 ∷ 171 ∷ 171 ∷ 171 ∷ 171 ∷ 171 ∷ 171 ∷ 171 ∷ 171 ∷ 171 ∷ 171 ∷ 171 ∷ 171 ∷ 171 ∷ 171 ∷ 171 ∷ 171 ∷ 171 ∷ 171 ∷ 171 ∷ 171 ∷ 171 ∷ 171 ∷ 171 ∷ 171 ∷ 171 ∷ 171 ∷ 171 ∷ 171 ∷ 171 ∷ 171 ∷ 171 ∷ 171 ∷ 171 ∷ 171 ∷ 171 ∷ 171 ∷ 171 ∷ 171 ∷ 171 ∷ 171 ∷ 171 ∷ 171 ∷ 171 ∷ 171 ∷ 171 ∷ 171 ∷ 171 ∷ 171 ∷ 171 ∷ 171 ∷ 171 ∷ 171 ∷ 171 ∷ 171 ∷ 171 ∷ 171 ∷ 171 ∷ 171 ∷ 171 ∷ 171 ∷ 171 ∷ 171 ∷ 171 ∷ 171 ∷ 171 ∷ 171 ∷ 171 ∷ 171 ∷ 171 ∷ 171 ∷ 171 ∷ 171 ∷ 171 ∷ 171 ∷ 171 ∷ 171 ∷ 171 ∷ 171 ∷ 171 ∷ 171 ∷ 171 ∷ 171 ∷ 171 ∷ 171 ∷ 171 ∷ 171 ∷ 171 ∷ 171 ∷ 171 ∷ 171 ∷ 171 ∷ 171 ∷ 171 ∷ 171 ∷ 171 ∷ 171 ∷ 171 ∷ 171 ∷ 171 ∷ 171 ∷ 171 ∷ 171 ∷ 171 ∷ 171 ∷ 171 ∷ 171 ∷ 171 ∷ 171 ∷ 171 ∷ 171 ∷ 171 ∷ 171 ∷ 171 ∷ 171 ∷ 171 ∷ 171 ∷ 171 ∷ 171 ∷ 171 ∷ 171 ∷ 171 ∷ 171 ∷ 171 ∷ 171 ∷ 171 ∷ 171 ∷ 171 ∷ 171 ∷ 171 ∷ 171 ∷ 171 ∷ 171 ∷ 171 ∷ 171 ∷ 171 ∷ 171 ∷ 171 ∷ 171 ∷ 171 ∷ 171 ∷ 171 ∷ 171 ∷ 171 ∷ 171 ∷ 171 ∷ 171 ∷ 171 ∷ 171 ∷ 171 ∷ 171 ∷ 171 ∷ 171 ∷ 171 ∷ 171 ∷ 171 ∷ 171 ∷ 171 ∷ 171 ∷ 171 ∷ 171 ∷ 171 ∷ 171 ∷ 171 ∷ 171 ∷ 171 ∷ 171 ∷ 171 ∷ 171 ∷ 171 ∷ 171 ∷ 171 ∷ 171 ∷ 171 ∷ 171 ∷ 171 ∷ 171 ∷ 171 ∷ 171 ∷ 171 ∷ 171 ∷ 171 ∷ 171 ∷ 171 ∷ 171 ∷ 171 ∷ 171 ∷ 171 ∷ 171 ∷ 171 ∷ 171 ∷ 171 ∷ 171 ∷ 171 ∷ 171 ∷ 171 ∷ 171 ∷ 171 ∷ 171 ∷ 171 ∷ 171 ∷ 171 ∷ 171 ∷ 171 ∷ 171 ∷ 171 ∷ 171 ∷ 171 ∷ 171 ∷ 171 ∷ 171 ∷ 171 ∷ 171 ∷ 171 ∷ 171 ∷ 171 ∷ 171 ∷ 171 ∷ 171 ∷ 171 ∷ 171 ∷ 171 ∷ 171 ∷ 171 ∷ 171 ∷ 171 ∷ 171 ∷ 171 ∷ 171 ∷ 171 ∷ 171 ∷ 171 ∷ 171 ∷ 171 ∷ 171 ∷ 171 ∷ 171 ∷ 171 ∷ 171 ∷ 171 ∷ 171 ∷ 171 ∷ 171 ∷ 171 ∷ 171 ∷ 171 ∷ 171 ∷ 171 ∷ 171 ∷ 171 ∷ 171 ∷ 171 ∷ 171 ∷ 171 ∷ 171 ∷ 171 ∷ 171 ∷ 171 ∷ 171 ∷ 171 ∷ 171 ∷ 171 ∷ 171 ∷ 171 ∷ 171 ∷ 171 ∷ 171 ∷ 171 ∷ 171 ∷ 171 ∷ 171 ∷ 171 ∷ 171 ∷ 171 ∷ 171 ∷ 171 ∷ 171 ∷ 171 ∷ 171 ∷ 171 ∷ 171 ∷ 171 ∷ 171 ∷ 171 ∷ 171 ∷ 171 ∷ 171 ∷ 171 ∷ 171 ∷ 171 ∷ 171 ∷ 171 ∷ 171 ∷ 171 ∷ 171 ∷ 171 ∷ 171 ∷ 171 ∷ 171 ∷ 171 ∷ 171 ∷ 171 ∷ 171 ∷ 171 ∷ 171 ∷ 171 ∷ 171 ∷ 171 ∷ 171 ∷ 171 ∷ 171 ∷ 171 ∷ 171 ∷ 171 ∷ 171 ∷ 171 ∷ 171 ∷ 171 ∷ 171 ∷ 171 ∷ 171 ∷ 171 ∷ 171 ∷ 171 ∷ 171 ∷ 171 ∷ 171 ∷ 171 ∷ 171 ∷ 171 ∷ 171 ∷ 171 ∷ 171 ∷ 171 ∷ 171 ∷ 171 ∷ 171 ∷ 171 ∷ 171 ∷ 171 ∷ 171 ∷ 171 ∷ 171 ∷ 171 ∷ 171 ∷ 171 ∷ 171 ∷ 171 ∷ 171 ∷ 171 ∷ 171 ∷ 171 ∷ 171 ∷ 171 ∷ 171 ∷ 171 ∷ 171 ∷ 171 ∷ 171 ∷ 171 ∷ 171 ∷ 171 ∷ 171 ∷ 171 ∷ 171 ∷ 171 ∷ 171 ∷ 171 ∷ 171 ∷ 171 ∷ 171 ∷ 171 ∷ 171 ∷ 171 ∷ 171 ∷ 171 ∷ 171 ∷ 171 ∷ 171 ∷ 171 ∷ 171 ∷ 171 ∷ 171 ∷ 171 ∷ 171 ∷ 171 ∷ 171 ∷ 171 ∷ 171 ∷ 171 ∷ 171 ∷ 171 ∷ 171 ∷ 171 ∷ 171 ∷ [])) ∷ line.Send (link T B Air) (flight.Ack 1 3 0) ∷ [])
    ∷ an_entry (event.Step (link T B Air) 0) answer.Ok (line.Send (link B M Feed) (flight.Told 1 3 2) ∷ [])
    ∷ an_entry (event.Step (link B M Feed) 0) answer.Ok (line.Note (note.Freed 1 Dl 2) ∷ [])
    ∷ an_entry (event.Step (link A M Feed) 0) answer.Ok []
    ∷ []) ≡ []
unfolding sn window modulus distance count_for data_pdu decoded read_data read_report keystream counter_block stream_blocks report_pdu
told_that_is_not_greater_is_right = refl

two_relrqd_wait_is_right : breaks (a_header Nea0 0 (replicate 32 0)) (
    an_entry (event.Add A) answer.Ok (line.Send (link M A Ctl) (flight.Ctl (rec.Addreq (a_plan 1 (Some A) []) [])) ∷ [])
    ∷ an_entry (event.Step (link M A Ctl) 0) answer.Ok (line.Note (note.Join A 1) ∷ line.Send (link A M Ctl) (flight.Ctl (rec.Addack 1)) ∷ [])
    ∷ an_entry (event.Step (link A M Ctl) 0) answer.Ok (line.Send (link M T Ctl) (flight.Ctl (rec.Reconf (a_plan 1 (Some A) []) [])) ∷ [])
    ∷ an_entry (event.Step (link M T Ctl) 0) answer.Ok (line.Send (link T M Ctl) (flight.Ctl (rec.Rcomp 1)) ∷ [])
    ∷ an_entry (event.Step (link T M Ctl) 0) answer.Ok (line.Send (link M A Ctl) (flight.Ctl (rec.Recfg 1)) ∷ line.Note note.Done ∷ [])
    ∷ an_entry (event.Step (link M A Ctl) 0) answer.Ok []
    ∷ an_entry (event.Change) answer.Ok (line.Send (link M B Ctl) (flight.Ctl (rec.Addreq (a_plan 2 (Some B) []) [])) ∷ [])
    ∷ an_entry (event.Ask A want.Release) answer.Ok (line.Send (link A M Ctl) (flight.Ctl (rec.Relrqd)) ∷ [])
    ∷ an_entry (event.Step (link A M Ctl) 0) answer.Ok []
    ∷ an_entry (event.Step (link M B Ctl) 0) answer.Ok (line.Note (note.Join B 2) ∷ line.Send (link B M Ctl) (flight.Ctl (rec.Addack 2)) ∷ [])
    ∷ an_entry (event.Ask B want.Release) answer.Ok (line.Send (link B M Ctl) (flight.Ctl (rec.Relrqd)) ∷ [])
    ∷ an_entry (event.Step (link B M Ctl) 0) answer.Ok (line.Send (link M T Ctl) (flight.Ctl (rec.Reconf (a_plan 2 (Some B) []) [])) ∷ line.Send (link M A Ctl) (flight.Ctl (rec.Relreq (a_plan 2 (Some B) []))) ∷ [])
    ∷ an_entry (event.Step (link M T Ctl) 0) answer.Ok (line.Send (link T M Ctl) (flight.Ctl (rec.Rcomp 2)) ∷ [])
    ∷ an_entry (event.Step (link T M Ctl) 0) answer.Ok (line.Send (link M A Ctl) (flight.Ctl (rec.Uecr 2)) ∷ line.Send (link M B Ctl) (flight.Ctl (rec.Recfg 2)) ∷ line.Note note.Done ∷ line.Send (link M A Ctl) (flight.Ctl (rec.Relcnf (a_plan 0 None []))) ∷ [])
    ∷ an_entry (event.Step (link M A Ctl) 0) answer.Ok (line.Note (note.Leave A 2) ∷ line.Send (link A M Ctl) (flight.Ctl (rec.Relack 2)) ∷ [])
    ∷ an_entry (event.Step (link M A Ctl) 0) answer.Ok []
    ∷ an_entry (event.Step (link M A Ctl) 0) answer.Ok (line.Note (note.Confirmed A) ∷ [])
    ∷ an_entry (event.Step (link A M Ctl) 0) answer.Ok []
    ∷ an_entry (event.Step (link M B Ctl) 0) answer.Ok []
    ∷ an_entry (event.Step (link B M Ctl) 0) answer.Ok (line.Note (note.Begin want.Release) ∷ line.Send (link M T Ctl) (flight.Ctl (rec.Reconf (a_plan 3 None []) [])) ∷ line.Send (link M B Ctl) (flight.Ctl (rec.Relcnf (a_plan 3 None []))) ∷ [])
    ∷ an_entry (event.Step (link M T Ctl) 0) answer.Ok (line.Send (link T M Ctl) (flight.Ctl (rec.Rcomp 3)) ∷ [])
    ∷ an_entry (event.Step (link T M Ctl) 0) answer.Ok (line.Send (link M B Ctl) (flight.Ctl (rec.Uecr 3)) ∷ line.Note note.Done ∷ [])
    ∷ an_entry (event.Step (link M B Ctl) 0) answer.Ok (line.Note (note.Leave B 3) ∷ line.Note (note.Confirmed B) ∷ [])
    ∷ an_entry (event.Step (link M B Ctl) 0) answer.Ok []
    ∷ []) ≡ []
unfolding sn window modulus distance count_for data_pdu decoded read_data read_report keystream counter_block stream_blocks report_pdu
two_relrqd_wait_is_right = refl

n1_old_sdu_at_frozen_is_right : breaks (a_header Nea0 0 (replicate 32 0)) (
    an_entry (event.Add A) answer.Ok (line.Send (link M A Ctl) (flight.Ctl (rec.Addreq (a_plan 1 (Some A) []) [])) ∷ [])
    ∷ an_entry (event.Step (link M A Ctl) 0) answer.Ok (line.Note (note.Join A 1) ∷ line.Send (link A M Ctl) (flight.Ctl (rec.Addack 1)) ∷ [])
    ∷ an_entry (event.Step (link A M Ctl) 0) answer.Ok (line.Send (link M T Ctl) (flight.Ctl (rec.Reconf (a_plan 1 (Some A) []) [])) ∷ [])
    ∷ an_entry (event.Step (link M T Ctl) 0) answer.Ok (line.Send (link T M Ctl) (flight.Ctl (rec.Rcomp 1)) ∷ [])
    ∷ an_entry (event.Step (link T M Ctl) 0) answer.Ok (line.Send (link M A Ctl) (flight.Ctl (rec.Recfg 1)) ∷ line.Note note.Done ∷ [])
    ∷ an_entry (event.Step (link M A Ctl) 0) answer.Ok []
    ∷ an_entry (event.Bearer 1 S12 0 (a_shape true Scg false) 0 0) answer.Ok (line.Send (link M A Ctl) (flight.Ctl (rec.Modreq (a_plan 2 (Some A) (Set 1 S12 0 (a_shape true Scg false) 0 0 (a_key 0 (SecondKey 0)) None ∷ [])) [])) ∷ [])
    ∷ an_entry (event.Step (link M A Ctl) 0) answer.Ok (line.Note (note.Own A 1 2) ∷ line.Send (link A M Ctl) (flight.Ctl (rec.Modack 2)) ∷ [])
    ∷ an_entry (event.Step (link A M Ctl) 0) answer.Ok (line.Send (link M T Ctl) (flight.Ctl (rec.Reconf (a_plan 2 (Some A) (Set 1 S12 0 (a_shape true Scg false) 0 0 (a_key 0 (SecondKey 0)) None ∷ [])) [])) ∷ [])
    ∷ an_entry (event.Step (link M T Ctl) 0) answer.Ok (line.Note (note.Set 1 2) ∷ line.Send (link T M Ctl) (flight.Ctl (rec.Rcomp 2)) ∷ [])
    ∷ an_entry (event.Step (link T M Ctl) 0) answer.Ok (line.Send (link M A Ctl) (flight.Ctl (rec.Recfg 2)) ∷ line.Note note.Done ∷ [])
    ∷ an_entry (event.Step (link M A Ctl) 0) answer.Ok []
    ∷ an_entry (event.Submit 1 Dl (1 ∷ [])) answer.Ok (line.Send (link M A Feed) (flight.Sdu 1 2 (1 ∷ [])) ∷ [])
    ∷ an_entry (event.Remove 1) answer.Ok (line.Send (link M A Ctl) (flight.Ctl (rec.Modreq (a_plan 3 (Some A) (Unset 1 ∷ [])) [])) ∷ [])
    ∷ an_entry (event.Step (link M A Ctl) 0) answer.Ok (line.Send (link A M Ctl) (flight.Ctl (rec.Modack 3)) ∷ [])
    ∷ an_entry (event.Step (link A M Ctl) 0) answer.Ok (line.Send (link M T Ctl) (flight.Ctl (rec.Reconf (a_plan 3 (Some A) (Unset 1 ∷ [])) [])) ∷ [])
    ∷ an_entry (event.Step (link M T Ctl) 0) answer.Ok (line.Note (note.Unset 1) ∷ line.Send (link T M Ctl) (flight.Ctl (rec.Rcomp 3)) ∷ [])
    ∷ an_entry (event.Step (link T M Ctl) 0) answer.Ok (line.Send (link M A Ctl) (flight.Ctl (rec.Recfg 3)) ∷ line.Note note.Done ∷ [])
    ∷ an_entry (event.RekeyMaster (replicate 32 17)) answer.Ok (line.Send (link M A Ctl) (flight.Ctl (rec.Modreq (a_plan 4 (Some A) []) [])) ∷ [])
    ∷ an_entry (event.Step (link M A Ctl) 0) answer.Ok []
    ∷ an_entry (event.Step (link M A Ctl) 0) answer.Ok (line.Send (link A M Ctl) (flight.Ctl (rec.Modack 4)) ∷ [])
    ∷ an_entry (event.Step (link A M Ctl) 0) answer.Ok (line.Send (link M T Ctl) (flight.Ctl (rec.Reconf (a_plan 4 (Some A) []) [])) ∷ [])
    ∷ an_entry (event.Step (link M T Ctl) 0) answer.Ok (line.Send (link T M Ctl) (flight.Ctl (rec.Rcomp 4)) ∷ [])
    ∷ an_entry (event.Step (link T M Ctl) 0) answer.Ok (line.Send (link M A Ctl) (flight.Ctl (rec.Recfg 4)) ∷ line.Note note.Done ∷ [])
    ∷ an_entry (event.Bearer 1 S12 0 (a_shape true Scg false) 0 0) answer.Ok (line.Send (link M A Ctl) (flight.Ctl (rec.Modreq (a_plan 5 (Some A) (Set 1 S12 0 (a_shape true Scg false) 0 0 (a_key 1 (SecondKey 0)) None ∷ [])) [])) ∷ [])
    ∷ an_entry (event.Step (link M A Ctl) 0) answer.Ok []
    ∷ an_entry (event.Step (link M A Ctl) 0) answer.Ok (line.Note (note.Own A 1 5) ∷ line.Send (link A M Ctl) (flight.Ctl (rec.Modack 5)) ∷ [])
    ∷ an_entry (event.Step (link A M Ctl) 0) answer.Ok (line.Send (link M T Ctl) (flight.Ctl (rec.Reconf (a_plan 5 (Some A) (Set 1 S12 0 (a_shape true Scg false) 0 0 (a_key 1 (SecondKey 0)) None ∷ [])) [])) ∷ [])
    ∷ an_entry (event.Step (link M T Ctl) 0) answer.Ok (line.Note (note.Set 1 5) ∷ line.Send (link T M Ctl) (flight.Ctl (rec.Rcomp 5)) ∷ [])
    ∷ an_entry (event.Step (link T M Ctl) 0) answer.Ok (line.Send (link M A Ctl) (flight.Ctl (rec.Recfg 5)) ∷ line.Note note.Done ∷ [])
    ∷ an_entry (event.Step (link M A Ctl) 0) answer.Ok []
    ∷ an_entry (event.Change) answer.Ok (line.Send (link M B Ctl) (flight.Ctl (rec.Addreq (a_plan 6 (Some B) (Set 1 S12 0 (a_shape true Scg false) 0 0 (a_key 1 (SecondKey 1)) (Some A) ∷ [])) [])) ∷ [])
    ∷ an_entry (event.Step (link M B Ctl) 0) answer.Ok (line.Note (note.Join B 6) ∷ line.Send (link B M Ctl) (flight.Ctl (rec.Addack 6)) ∷ [])
    ∷ an_entry (event.Step (link B M Ctl) 0) answer.Ok (line.Send (link M T Ctl) (flight.Ctl (rec.Reconf (a_plan 6 (Some B) (Set 1 S12 0 (a_shape true Scg false) 0 0 (a_key 1 (SecondKey 1)) (Some A) ∷ [])) [])) ∷ line.Send (link M A Ctl) (flight.Ctl (rec.Relreq (a_plan 6 (Some B) (Set 1 S12 0 (a_shape true Scg false) 0 0 (a_key 1 (SecondKey 1)) (Some A) ∷ [])))) ∷ line.Send (link M A Feed) (flight.End 1 6) ∷ [])
    ∷ an_entry (event.Step (link M A Ctl) 0) answer.Ok (line.Note (note.Leave A 6) ∷ line.Note (note.Give A 1 6) ∷ line.Send (link A M Ctl) (flight.Ctl (rec.Relack 6)) ∷ line.Send (link A M Ctl) (flight.Ctl (rec.Snst (a_transfer 6 1 0 [] 0))) ∷ line.Send (link A B Tun) (flight.Tun None (52 ∷ 255 ∷ 0 ∷ 12 ∷ 0 ∷ 0 ∷ 3 ∷ 2 ∷ 0 ∷ 0 ∷ 0 ∷ 132 ∷ 2 ∷ 0 ∷ 0 ∷ 0 ∷ 0 ∷ 0 ∷ 0 ∷ 0 ∷ [])) ∷ line.Send (link A B Tun) (flight.Tun None (48 ∷ 254 ∷ 0 ∷ 0 ∷ 0 ∷ 0 ∷ 3 ∷ 2 ∷ [])) ∷ [])
    ∷ an_entry (event.Step (link M A Feed) 0) answer.Ok []
    ∷ an_entry (event.Step (link M T Ctl) 0) answer.Ok (line.Note (note.Set 1 6) ∷ line.Send (link T M Ctl) (flight.Ctl (rec.Rcomp 6)) ∷ [])
    ∷ an_entry (event.Step (link T M Ctl) 0) answer.Ok (line.Send (link M B Ctl) (flight.Ctl (rec.Recfg 6)) ∷ [])
    ∷ an_entry (event.Step (link A M Ctl) 0) answer.Ok []
    ∷ an_entry (event.Step (link A M Ctl) 0) answer.Ok (line.Send (link M B Ctl) (flight.Ctl (rec.Snst (a_transfer 6 1 0 [] 0))) ∷ [])
    ∷ an_entry (event.Step (link M B Ctl) 0) answer.Ok []
    ∷ an_entry (event.Step (link M B Ctl) 0) answer.Ok []
    ∷ an_entry (event.Step (link M A Feed) 0) answer.Ok (line.Send (link A B Tun) (flight.Tun None (52 ∷ 255 ∷ 0 ∷ 12 ∷ 0 ∷ 0 ∷ 3 ∷ 1 ∷ 0 ∷ 0 ∷ 0 ∷ 132 ∷ 2 ∷ 0 ∷ 0 ∷ 0 ∷ 0 ∷ 0 ∷ 0 ∷ 0 ∷ [])) ∷ line.Send (link A B Tun) (flight.Tun None (48 ∷ 254 ∷ 0 ∷ 0 ∷ 0 ∷ 0 ∷ 3 ∷ 1 ∷ [])) ∷ [])
    ∷ an_entry (event.Step (link A B Tun) 0) answer.Ok []
    ∷ an_entry (event.Step (link A B Tun) 0) answer.Ok []
    ∷ an_entry (event.Step (link A B Tun) 0) answer.Ok (line.Note (note.Own B 1 6) ∷ line.Send (link B M Ctl) (flight.Ctl (rec.Moved 6 1)) ∷ [])
    ∷ an_entry (event.Step (link B M Ctl) 0) answer.Ok (line.Send (link M A Ctl) (flight.Ctl (rec.Uecr 6)) ∷ line.Note note.Done ∷ [])
    ∷ an_entry (event.Step (link M A Ctl) 0) answer.Ok []
    ∷ an_entry (event.Step (link A B Tun) 0) answer.Ok []
    ∷ []) ≡ []
unfolding sn window modulus distance count_for data_pdu decoded read_data read_report keystream counter_block stream_blocks report_pdu
n1_old_sdu_at_frozen_is_right = refl
