-- A split bearer: duplication, delivery statuses, and the failure of the SCG.
use Rattle.std.specs.Prelude.{◌≡◌, ◌∷◌, ◌++◌, [], List, ℕ, Bool, true, false, None, codes, replicate}
use Rattle.std.proofs.Common.{refl}
use Rattle.std.specs.Fmt.{digits}
use Rattle.hex.specs.Hex.{encode_with}
use Rattle.dc_base.specs.Count.{sn, window, modulus, count_for, distance}
use Rattle.dc_base.specs.Links.{link}
use Rattle.dc_base.specs.declared.numbers.SnLen.TheVariants.{S12, S18}
use Rattle.dc_base.specs.declared.nodes.Alg.TheVariants.{Nea2}
use Rattle.dc_base.specs.declared.nodes.Node.TheVariants.{T, M, A, B}
use Rattle.dc_base.specs.declared.nodes.Class.TheVariants.{Ctl, Feed, Air, Tun}
use Rattle.dc_base.specs.declared.nodes.Dir.TheVariants.{Ul, Dl}
use Rattle.dc_base.specs.declared.nodes.LegSet.TheVariants.{Mcg, Scg, Split}
use Rattle.dc_base.specs.declared.nodes.Cell.TheVariants as cell
use Rattle.dc_base.specs.declared.nodes.Want.TheVariants as want
use Rattle.dc_base.specs.declared.events.Event.TheVariants as event
use Rattle.nea2.specs.Keystream.{keystream, counter_block, stream_blocks}
use Rattle.pdcp_pdu.specs.DataPdu.{data_pdu}
use Rattle.gtpu.specs.Decoded.{decoded as packet_decoded}
use Rattle.pdcp_pdu.specs.Pdu.{decoded, read_data, read_report}
use Rattle.pdcp_pdu.specs.StatusReport.{report_pdu}
use Rattle.node_rules.proofs.Scripts.{Scripted, one, drain, output, stand_in, first_difference, shape, plain}

-- copies of one PDU on both legs: the second one to come is confirmed alone
abbrev duplicated : List Scripted
duplicated =
    one (event.Bearer 1 S12 0 (shape false Mcg false) 0 0)
    ∷ drain
    ∷ one (event.Add A)
    ∷ drain
    ∷ one (event.Reshape 1 (shape false (Split cell.Mcg) true))
    ∷ drain
    ∷ one (event.Submit 1 Dl (104 ∷ 105 ∷ []))
    ∷ one (event.Step (link M T Air) 0)
    ∷ one (event.Step (link M A Tun) 0)
    ∷ one (event.Step (link A T Air) 0)
    ∷ []

duplicated_output : stand_in (
    codes "> dl 1 6869"
    ∷ codes "= ok"
    ∷ codes "- send mt.air pdu 1 3 0 0 80006869"
    ∷ codes "- send ma.tun gtp 0 34ff00100000018000000084020100000000000080006869"
    ∷ codes "> step mt.air 0"
    ∷ codes "= ok"
    ∷ codes "- up t 1 dl 0 6869"
    ∷ codes "- send tm.air ack 1 3 0"
    ∷ codes "> step ma.tun 0"
    ∷ codes "= ok"
    ∷ codes "- send at.air pdu 1 3 0 0 80006869"
    ∷ codes "> step at.air 0"
    ∷ codes "= ok"
    ∷ codes "- send ta.air ack 1 3 0"
    ∷ []) (output (plain 0 (replicate 32 0)) duplicated) ≡ true
unfolding digits encode_with sn window modulus count_for distance data_pdu decoded read_data read_report report_pdu keystream counter_block stream_blocks packet_decoded
duplicated_output = refl

-- a PDU lost in the tunnel is listed, and sent again
abbrev lost_in_the_tunnel : List Scripted
lost_in_the_tunnel =
    one (event.Bearer 1 S12 0 (shape false Mcg false) 0 0)
    ∷ drain
    ∷ one (event.Add A)
    ∷ drain
    ∷ one (event.Reshape 1 (shape false Scg false))
    ∷ drain
    ∷ one (event.Submit 1 Dl (170 ∷ []))
    ∷ one (event.Submit 1 Dl (187 ∷ []))
    ∷ one (event.Lose (link M A Tun) 0)
    ∷ drain
    ∷ one (event.Report T 1)
    ∷ drain
    ∷ []

lost_in_the_tunnel_output : stand_in (
    codes "- send at.air pdu 1 3 0 1 8001bb"
    ∷ codes "- send am.tun gtp 1 34ff0014000001800000008404110100000100000000000000000000"
    ∷ codes "- send ma.tun gtp 0 34ff000f000001800000008402030000020000008000aa"
    ∷ codes "- up t 1 dl 0 aa"
    ∷ codes "- up t 1 dl 1 bb"
    ∷ codes "- send ta.air ctl 1 3 0 0000000002"
    ∷ codes "- send am.tun gtp - 30ff0005000001800000000002"
    ∷ codes "- freed 1 dl 2"
    ∷ []) (output (plain 0 (replicate 32 0)) lost_in_the_tunnel) ≡ true
unfolding digits encode_with sn window modulus count_for distance data_pdu decoded read_data read_report report_pdu keystream counter_block stream_blocks packet_decoded
lost_in_the_tunnel_output = refl

-- a copy in the tunnel is not put on the air
abbrev repeated_in_the_tunnel : List Scripted
repeated_in_the_tunnel =
    one (event.Bearer 1 S12 0 (shape false Mcg false) 0 0)
    ∷ drain
    ∷ one (event.Add A)
    ∷ drain
    ∷ one (event.Reshape 1 (shape false Scg false))
    ∷ drain
    ∷ one (event.Submit 1 Dl (170 ∷ []))
    ∷ one (event.Submit 1 Dl (187 ∷ []))
    ∷ one (event.Lose (link M A Tun) 0)
    ∷ one (event.Again (link M A Tun) 0)
    ∷ drain
    ∷ []

repeated_in_the_tunnel_output : stand_in (
    codes "- send at.air pdu 1 3 0 1 8001bb"
    ∷ codes "> step ma.tun 0"
    ∷ codes "= ok"
    ∷ codes "> step ma.tun 0"
    ∷ codes "= ok"
    ∷ codes "- send at.air pdu 1 3 1 0 8000aa"
    ∷ []) (output (plain 0 (replicate 32 0)) repeated_in_the_tunnel) ≡ true
unfolding digits encode_with sn window modulus count_for distance data_pdu decoded read_data read_report report_pdu keystream counter_block stream_blocks packet_decoded
repeated_in_the_tunnel_output = refl

-- the SCG fails: the master sends all again on the other leg
abbrev failed_scg : List Scripted
failed_scg =
    one (event.Bearer 1 S12 0 (shape false Mcg false) 0 0)
    ∷ drain
    ∷ one (event.Add A)
    ∷ drain
    ∷ one (event.Reshape 1 (shape false (Split cell.Mcg) false))
    ∷ drain
    ∷ one (event.Submit 1 Dl (170 ∷ []))
    ∷ one (event.Submit 1 Dl (187 ∷ []))
    ∷ one event.ScgFail
    ∷ drain
    ∷ one (event.Recover 1)
    ∷ drain
    ∷ []

failed_scg_output : stand_in (
    codes "- send tm.ctl scgf 1/3"
    ∷ codes "- send mt.air pdu 1 3 1 0 8000aa"
    ∷ codes "- send mt.air pdu 1 3 2 1 8001bb"
    ∷ codes "- up t 1 dl 0 aa"
    ∷ codes "- up t 1 dl 1 bb"
    ∷ codes "- freed 1 dl 1"
    ∷ codes "- freed 1 dl 2"
    ∷ codes "> recover 1"
    ∷ codes "- done"
    ∷ []) (output (plain 0 (replicate 32 0)) failed_scg) ≡ true
unfolding digits encode_with sn window modulus count_for distance data_pdu decoded read_data read_report report_pdu keystream counter_block stream_blocks packet_decoded
failed_scg_output = refl
