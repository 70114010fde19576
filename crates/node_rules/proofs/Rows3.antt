-- Orders of sending, the generation of a path, and windows: whole transcripts.
use Rattle.std.specs.Prelude.{◌≡◌, ◌∷◌, ◌++◌, [], List, ℕ, Bool, true, false, None, codes, replicate}
use Rattle.std.proofs.Common.{refl}
use Rattle.std.specs.Fmt.{digits}
use Rattle.hex.specs.Hex.{encode_with}
use Rattle.dc_base.specs.Count.{sn, window, modulus, count_for, distance}
use Rattle.dc_base.specs.Links.{link}
use Rattle.dc_base.specs.declared.numbers.SnLen.TheVariants.{S12, S18}
use Rattle.dc_base.specs.declared.nodes.Alg.TheVariants.{Nea2}
use Rattle.dc_base.specs.declared.nodes.Node.TheVariants.{T, M, A, B}
use Rattle.dc_base.specs.declared.nodes.Class.TheVariants.{Ctl, Feed, Air, Tun}
use Rattle.dc_base.specs.declared.nodes.Dir.TheVariants.{Ul, Dl}
use Rattle.dc_base.specs.declared.nodes.LegSet.TheVariants.{Mcg, Scg, Split}
use Rattle.dc_base.specs.declared.nodes.Cell.TheVariants as cell
use Rattle.dc_base.specs.declared.nodes.Want.TheVariants as want
use Rattle.dc_base.specs.declared.events.Event.TheVariants as event
use Rattle.nea2.specs.Keystream.{keystream, counter_block, stream_blocks}
use Rattle.pdcp_pdu.specs.DataPdu.{data_pdu}
use Rattle.gtpu.specs.Decoded.{decoded as packet_decoded}
use Rattle.pdcp_pdu.specs.Pdu.{decoded, read_data, read_report}
use Rattle.pdcp_pdu.specs.StatusReport.{report_pdu}
use Rattle.node_rules.proofs.Scripts.{Scripted, one, drain, output, stand_in, first_difference, shape, plain}

-- listed PDUs are sent again in ascending COUNT, one COUNT under two numbers twice
abbrev order_of_sending_again : List Scripted
order_of_sending_again =
    one (event.Add A)
    ∷ drain
    ∷ one (event.Bearer 1 S12 0 (shape false Scg false) 0 0)
    ∷ drain
    ∷ one (event.Submit 1 Dl (170 ∷ []))
    ∷ one (event.Submit 1 Dl (187 ∷ []))
    ∷ one (event.Submit 1 Dl (204 ∷ []))
    ∷ one (event.Lose (link M A Tun) 0)
    ∷ one (event.Recover 1)
    ∷ one (event.Lose (link M A Tun) 0)
    ∷ one (event.Lose (link M A Tun) 1)
    ∷ one (event.Step (link M A Tun) 1)
    ∷ one (event.Step (link A T Air) 0)
    ∷ one (event.Step (link T A Air) 0)
    ∷ one (event.Step (link A M Tun) 0)
    ∷ []

order_of_sending_again_output : first_difference 0 (output (plain 0 (replicate 32 0)) order_of_sending_again) (
    codes "> add a"
    ∷ codes "= ok"
    ∷ codes "- send ma.ctl addreq 1 a"
    ∷ codes "> step ma.ctl 0"
    ∷ codes "= ok"
    ∷ codes "- join a 1"
    ∷ codes "- send am.ctl addack 1"
    ∷ codes "> step am.ctl 0"
    ∷ codes "= ok"
    ∷ codes "- send mt.ctl reconf 1 a"
    ∷ codes "> step mt.ctl 0"
    ∷ codes "= ok"
    ∷ codes "- send tm.ctl rcomp 1"
    ∷ codes "> step tm.ctl 0"
    ∷ codes "= ok"
    ∷ codes "- send ma.ctl recfg 1"
    ∷ codes "- done"
    ∷ codes "> step ma.ctl 0"
    ∷ codes "= ok"
    ∷ codes "> bearer 1 12 0 ms 0 0"
    ∷ codes "= ok"
    ∷ codes "- send ma.ctl modreq 2 a 1/12/0/ms/0/0/m0/-"
    ∷ codes "> step ma.ctl 0"
    ∷ codes "= ok"
    ∷ codes "- send am.ctl modack 2"
    ∷ codes "> step am.ctl 0"
    ∷ codes "= ok"
    ∷ codes "- own m 1 2"
    ∷ codes "- send mt.ctl reconf 2 a 1/12/0/ms/0/0/m0/-"
    ∷ codes "> step mt.ctl 0"
    ∷ codes "= ok"
    ∷ codes "- set 1 2"
    ∷ codes "- send tm.ctl rcomp 2"
    ∷ codes "> step tm.ctl 0"
    ∷ codes "= ok"
    ∷ codes "- send ma.ctl recfg 2"
    ∷ codes "- done"
    ∷ codes "> step ma.ctl 0"
    ∷ codes "= ok"
    ∷ codes "> dl 1 aa"
    ∷ codes "= ok"
    ∷ codes "- send ma.tun gtp 0 34ff000f000001000000008402010000000000008000aa"
    ∷ codes "> dl 1 bb"
    ∷ codes "= ok"
    ∷ codes "- send ma.tun gtp 1 34ff000f000001000000008402010000010000008001bb"
    ∷ codes "> dl 1 cc"
    ∷ codes "= ok"
    ∷ codes "- send ma.tun gtp 2 34ff000f000001000000008402010000020000008002cc"
    ∷ codes "> lose ma.tun 0"
    ∷ codes "= ok"
    ∷ codes "> recover 1"
    ∷ codes "= ok"
    ∷ codes "- send mt.ctl recov 1"
    ∷ codes "- send ma.tun gtp 0 34ff000f000001000000008402030000030000008000aa"
    ∷ codes "- send ma.tun gtp 1 34ff000f000001000000008402030000040000008001bb"
    ∷ codes "- send ma.tun gtp 2 34ff000f000001000000008402030000050000008002cc"
    ∷ codes "> lose ma.tun 0"
    ∷ codes "= ok"
    ∷ codes "> lose ma.tun 1"
    ∷ codes "= ok"
    ∷ codes "> step ma.tun 1"
    ∷ codes "= ok"
    ∷ codes "- send at.air pdu 1 2 0 1 8001bb"
    ∷ codes "> step at.air 0"
    ∷ codes "= ok"
    ∷ codes "- send ta.air ack 1 2 0"
    ∷ codes "> step ta.air 0"
    ∷ codes "= ok"
    ∷ codes "- send am.tun gtp - 34ff00100000010000000084031001000000000003000000"
    ∷ codes "> step am.tun 0"
    ∷ codes "= ok"
    ∷ codes "- send ma.tun gtp 0 34ff000f000001000000008402030000060000008000aa"
    ∷ codes "- send ma.tun gtp 0 34ff000f000001000000008402030000070000008000aa"
    ∷ codes "- send ma.tun gtp 1 34ff000f000001000000008402030000080000008001bb"
    ∷ codes "- send ma.tun gtp 2 34ff000f000001000000008402030000090000008002cc"
    ∷ []) ≡ None
unfolding digits encode_with sn window modulus count_for distance data_pdu decoded read_data read_report report_pdu keystream counter_block stream_blocks packet_decoded
order_of_sending_again_output = refl

-- an SDU on the core's line has the generation of the last plan carried out for its bearer
abbrev path_generation : List Scripted
path_generation =
    one (event.Add A)
    ∷ drain
    ∷ one (event.Bearer 1 S12 0 (shape true Scg false) 0 0)
    ∷ drain
    ∷ one (event.Submit 1 Dl (170 ∷ []))
    ∷ one event.RekeySecond
    ∷ one (event.Step (link M A Ctl) 0)
    ∷ one (event.Submit 1 Dl (187 ∷ []))
    ∷ one (event.Step (link A M Ctl) 0)
    ∷ one (event.Submit 1 Dl (204 ∷ []))
    ∷ drain
    ∷ one (event.Submit 1 Dl (221 ∷ []))
    ∷ drain
    ∷ []

path_generation_output : first_difference 0 (output (plain 0 (replicate 32 0)) path_generation) (
    codes "> add a"
    ∷ codes "= ok"
    ∷ codes "- send ma.ctl addreq 1 a"
    ∷ codes "> step ma.ctl 0"
    ∷ codes "= ok"
    ∷ codes "- join a 1"
    ∷ codes "- send am.ctl addack 1"
    ∷ codes "> step am.ctl 0"
    ∷ codes "= ok"
    ∷ codes "- send mt.ctl reconf 1 a"
    ∷ codes "> step mt.ctl 0"
    ∷ codes "= ok"
    ∷ codes "- send tm.ctl rcomp 1"
    ∷ codes "> step tm.ctl 0"
    ∷ codes "= ok"
    ∷ codes "- send ma.ctl recfg 1"
    ∷ codes "- done"
    ∷ codes "> step ma.ctl 0"
    ∷ codes "= ok"
    ∷ codes "> bearer 1 12 0 ss 0 0"
    ∷ codes "= ok"
    ∷ codes "- send ma.ctl modreq 2 a 1/12/0/ss/0/0/s0.0/-"
    ∷ codes "> step ma.ctl 0"
    ∷ codes "= ok"
    ∷ codes "- own a 1 2"
    ∷ codes "- send am.ctl modack 2"
    ∷ codes "> step am.ctl 0"
    ∷ codes "= ok"
    ∷ codes "- send mt.ctl reconf 2 a 1/12/0/ss/0/0/s0.0/-"
    ∷ codes "> step mt.ctl 0"
    ∷ codes "= ok"
    ∷ codes "- set 1 2"
    ∷ codes "- send tm.ctl rcomp 2"
    ∷ codes "> step tm.ctl 0"
    ∷ codes "= ok"
    ∷ codes "- send ma.ctl recfg 2"
    ∷ codes "- done"
    ∷ codes "> step ma.ctl 0"
    ∷ codes "= ok"
    ∷ codes "> dl 1 aa"
    ∷ codes "= ok"
    ∷ codes "- send ma.feed sdu 1 2 aa"
    ∷ codes "> rekey s"
    ∷ codes "= ok"
    ∷ codes "- send ma.ctl modreq 3 a 1/12/0/ss/0/0/s0.1/a"
    ∷ codes "> step ma.ctl 0"
    ∷ codes "= ok"
    ∷ codes "- own a 1 3"
    ∷ codes "- send am.ctl modack 3"
    ∷ codes "> dl 1 bb"
    ∷ codes "= ok"
    ∷ codes "- send ma.feed sdu 1 2 bb"
    ∷ codes "> step am.ctl 0"
    ∷ codes "= ok"
    ∷ codes "- send mt.ctl reconf 3 a 1/12/0/ss/0/0/s0.1/a"
    ∷ codes "> dl 1 cc"
    ∷ codes "= ok"
    ∷ codes "- send ma.feed sdu 1 3 cc"
    ∷ codes "> step mt.ctl 0"
    ∷ codes "= ok"
    ∷ codes "- set 1 3"
    ∷ codes "- send tm.ctl rcomp 3"
    ∷ codes "> step tm.ctl 0"
    ∷ codes "= ok"
    ∷ codes "- send ma.ctl recfg 3"
    ∷ codes "- done"
    ∷ codes "> step ma.ctl 0"
    ∷ codes "= ok"
    ∷ codes "> step ma.feed 0"
    ∷ codes "= ok"
    ∷ codes "- send at.air pdu 1 3 0 0 8000aa"
    ∷ codes "> step ma.feed 0"
    ∷ codes "= ok"
    ∷ codes "- send at.air pdu 1 3 1 1 8001bb"
    ∷ codes "> step ma.feed 0"
    ∷ codes "= ok"
    ∷ codes "- send at.air pdu 1 3 2 2 8002cc"
    ∷ codes "> step at.air 0"
    ∷ codes "= ok"
    ∷ codes "- up t 1 dl 0 aa"
    ∷ codes "- send ta.air ack 1 3 0"
    ∷ codes "> step at.air 0"
    ∷ codes "= ok"
    ∷ codes "- up t 1 dl 1 bb"
    ∷ codes "- send ta.air ack 1 3 1"
    ∷ codes "> step at.air 0"
    ∷ codes "= ok"
    ∷ codes "- up t 1 dl 2 cc"
    ∷ codes "- send ta.air ack 1 3 2"
    ∷ codes "> step ta.air 0"
    ∷ codes "= ok"
    ∷ codes "- send am.feed told 1 3 1"
    ∷ codes "> step am.feed 0"
    ∷ codes "= ok"
    ∷ codes "- freed 1 dl 1"
    ∷ codes "> step ta.air 0"
    ∷ codes "= ok"
    ∷ codes "- send am.feed told 1 3 2"
    ∷ codes "> step am.feed 0"
    ∷ codes "= ok"
    ∷ codes "- freed 1 dl 2"
    ∷ codes "> step ta.air 0"
    ∷ codes "= ok"
    ∷ codes "- send am.feed told 1 3 3"
    ∷ codes "> step am.feed 0"
    ∷ codes "= ok"
    ∷ codes "- freed 1 dl 3"
    ∷ codes "> dl 1 dd"
    ∷ codes "= ok"
    ∷ codes "- send ma.feed sdu 1 3 dd"
    ∷ codes "> step ma.feed 0"
    ∷ codes "= ok"
    ∷ codes "- send at.air pdu 1 3 3 3 8003dd"
    ∷ codes "> step at.air 0"
    ∷ codes "= ok"
    ∷ codes "- up t 1 dl 3 dd"
    ∷ codes "- send ta.air ack 1 3 3"
    ∷ codes "> step ta.air 0"
    ∷ codes "= ok"
    ∷ codes "- send am.feed told 1 3 4"
    ∷ codes "> step am.feed 0"
    ∷ codes "= ok"
    ∷ codes "- freed 1 dl 4"
    ∷ []) ≡ None
unfolding digits encode_with sn window modulus count_for distance data_pdu decoded read_data read_report report_pdu keystream counter_block stream_blocks packet_decoded
path_generation_output = refl

-- the line ends before the anchor has heard of the change
abbrev early_end : List Scripted
early_end =
    one (event.Add A)
    ∷ drain
    ∷ one (event.Bearer 20 S12 7 (shape true Scg false) 1000 1)
    ∷ drain
    ∷ one event.Change
    ∷ one (event.Step (link M B Ctl) 0)
    ∷ one (event.Step (link B M Ctl) 0)
    ∷ one (event.Step (link M A Feed) 0)
    ∷ []

early_end_output : first_difference 0 (output (plain 5 (148 ∷ 218 ∷ 165 ∷ 96 ∷ 245 ∷ 83 ∷ 149 ∷ 37 ∷ 181 ∷ 91 ∷ 136 ∷ 48 ∷ 214 ∷ 167 ∷ 43 ∷ 237 ∷ 50 ∷ 199 ∷ 35 ∷ 124 ∷ 173 ∷ 112 ∷ 18 ∷ 53 ∷ 42 ∷ 211 ∷ 48 ∷ 58 ∷ 77 ∷ 19 ∷ 161 ∷ 90 ∷ [])) early_end) (
    codes "> add a"
    ∷ codes "= ok"
    ∷ codes "- send ma.ctl addreq 1 a"
    ∷ codes "> step ma.ctl 0"
    ∷ codes "= ok"
    ∷ codes "- join a 1"
    ∷ codes "- send am.ctl addack 1"
    ∷ codes "> step am.ctl 0"
    ∷ codes "= ok"
    ∷ codes "- send mt.ctl reconf 1 a"
    ∷ codes "> step mt.ctl 0"
    ∷ codes "= ok"
    ∷ codes "- send tm.ctl rcomp 1"
    ∷ codes "> step tm.ctl 0"
    ∷ codes "= ok"
    ∷ codes "- send ma.ctl recfg 1"
    ∷ codes "- done"
    ∷ codes "> step ma.ctl 0"
    ∷ codes "= ok"
    ∷ codes "> bearer 20 12 7 ss 1000 1"
    ∷ codes "= ok"
    ∷ codes "- send ma.ctl modreq 2 a 20/12/7/ss/1000/1/s0.5/-"
    ∷ codes "> step ma.ctl 0"
    ∷ codes "= ok"
    ∷ codes "- own a 20 2"
    ∷ codes "- send am.ctl modack 2"
    ∷ codes "> step am.ctl 0"
    ∷ codes "= ok"
    ∷ codes "- send mt.ctl reconf 2 a 20/12/7/ss/1000/1/s0.5/-"
    ∷ codes "> step mt.ctl 0"
    ∷ codes "= ok"
    ∷ codes "- set 20 2"
    ∷ codes "- send tm.ctl rcomp 2"
    ∷ codes "> step tm.ctl 0"
    ∷ codes "= ok"
    ∷ codes "- send ma.ctl recfg 2"
    ∷ codes "- done"
    ∷ codes "> step ma.ctl 0"
    ∷ codes "= ok"
    ∷ codes "> change"
    ∷ codes "= ok"
    ∷ codes "- send mb.ctl addreq 3 b 20/12/7/ss/1000/1/s0.6/a"
    ∷ codes "> step mb.ctl 0"
    ∷ codes "= ok"
    ∷ codes "- join b 3"
    ∷ codes "- send bm.ctl addack 3"
    ∷ codes "> step bm.ctl 0"
    ∷ codes "= ok"
    ∷ codes "- send mt.ctl reconf 3 b 20/12/7/ss/1000/1/s0.6/a"
    ∷ codes "- send ma.ctl relreq 3 b 20/12/7/ss/1000/1/s0.6/a"
    ∷ codes "- send ma.feed end 20 3"
    ∷ codes "> step ma.feed 0"
    ∷ codes "= ok"
    ∷ []) ≡ None
unfolding digits encode_with sn window modulus count_for distance data_pdu decoded read_data read_report report_pdu keystream counter_block stream_blocks packet_decoded
early_end_output = refl

-- Low told after an adoption frees nothing until it is greater
abbrev told_not_greater : List Scripted
told_not_greater =
    one (event.Add A)
    ∷ one (event.Step (link M A Ctl) 0)
    ∷ one (event.Step (link A M Ctl) 0)
    ∷ one (event.Step (link M T Ctl) 0)
    ∷ one (event.Step (link T M Ctl) 0)
    ∷ one (event.Step (link M A Ctl) 0)
    ∷ one (event.Bearer 1 S12 0 (shape true Scg false) 1000 0)
    ∷ one (event.Step (link M A Ctl) 0)
    ∷ one (event.Step (link A M Ctl) 0)
    ∷ one (event.Step (link M T Ctl) 0)
    ∷ one (event.Step (link T M Ctl) 0)
    ∷ one (event.Step (link M A Ctl) 0)
    ∷ one (event.Submit 1 Dl (0 ∷ 0 ∷ 0 ∷ 11 ∷ []))
    ∷ one (event.Step (link M A Feed) 0)
    ∷ one (event.Step (link A T Air) 0)
    ∷ one (event.Step (link T A Air) 0)
    ∷ one event.Change
    ∷ one (event.Step (link M B Ctl) 0)
    ∷ one (event.Step (link B M Ctl) 0)
    ∷ one (event.Step (link M A Feed) 0)
    ∷ one (event.Step (link M T Ctl) 0)
    ∷ one (event.Step (link T M Ctl) 0)
    ∷ one (event.Step (link M A Ctl) 0)
    ∷ one (event.Step (link A M Ctl) 0)
    ∷ one (event.Step (link A M Ctl) 0)
    ∷ one (event.Step (link A B Tun) 0)
    ∷ one (event.Step (link A B Tun) 0)
    ∷ one (event.Step (link A B Tun) 0)
    ∷ one (event.Step (link M B Ctl) 0)
    ∷ one (event.Submit 1 Dl (0 ∷ 0 ∷ 0 ∷ 32 ∷ 171 ∷ 171 ∷ 171 ∷ 171 ∷ 171 ∷ 171 ∷ 171 ∷ 171 ∷ 171 ∷ 171 ∷ 171 ∷ 171 ∷ 171 ∷ 171 ∷ 171 ∷ 171 ∷ 171 ∷ 171 ∷ 171 ∷ 171 ∷ 171 ∷ 171 ∷ 171 ∷ 171 ∷ 171 ∷ 171 ∷ 171 ∷ 171 ∷ 171 ∷ 171 ∷ 171 ∷ 171 ∷ 171 ∷ 171 ∷ 171 ∷ 171 ∷ 171 ∷ 171 ∷ 171 ∷ 171 ∷ 171 ∷ 171 ∷ 171 ∷ 171 ∷ 171 ∷ 171 ∷ 171 ∷ 171 ∷ 171 ∷ 171 ∷ 171 ∷ 171 ∷ 171 ∷ 171 ∷ 171 ∷ 171 ∷ 171 ∷ 171 ∷ 171 ∷ 171 ∷ 171 ∷ 171 ∷ 171 ∷ 171 ∷ 171 ∷ 171 ∷ 171 ∷ 171 ∷ 171 ∷ 171 ∷ 171 ∷ 171 ∷ 171 ∷ 171 ∷ 171 ∷ 171 ∷ 171 ∷ 171 ∷ 171 ∷ 171 ∷ 171 ∷ 171 ∷ 171 ∷ 171 ∷ 171 ∷ 171 ∷ 171 ∷ 171 ∷ 171 ∷ 171 ∷ 171 ∷ 171 ∷ 171 ∷ 171 ∷ 171 ∷ 171 ∷ 171 ∷ 171 ∷ 171 ∷ 171 ∷ 171 ∷ 171 ∷ 171 ∷ 171 ∷ 171 ∷ 171 ∷ 171 ∷ 171 ∷ 171 ∷ 171 ∷ 171 ∷ 171 ∷ 171 ∷ 171 ∷ 171 ∷ 171 ∷ 171 ∷ 171 ∷ 171 ∷ 171 ∷ 171 ∷ 171 ∷ 171 ∷ 171 ∷ 171 ∷ 171 ∷ 171 ∷ 171 ∷ 171 ∷ 171 ∷ 171 ∷ 171 ∷ 171 ∷ 171 ∷ 171 ∷ 171 ∷ 171 ∷ 171 ∷ 171 ∷ 171 ∷ 171 ∷ 171 ∷ 171 ∷ 171 ∷ 171 ∷ 171 ∷ 171 ∷ 171 ∷ 171 ∷ 171 ∷ 171 ∷ 171 ∷ 171 ∷ 171 ∷ 171 ∷ 171 ∷ 171 ∷ 171 ∷ 171 ∷ 171 ∷ 171 ∷ 171 ∷ 171 ∷ 171 ∷ 171 ∷ 171 ∷ 171 ∷ 171 ∷ 171 ∷ 171 ∷ 171 ∷ 171 ∷ 171 ∷ 171 ∷ 171 ∷ 171 ∷ 171 ∷ 171 ∷ 171 ∷ 171 ∷ 171 ∷ 171 ∷ 171 ∷ 171 ∷ 171 ∷ 171 ∷ 171 ∷ 171 ∷ 171 ∷ 171 ∷ 171 ∷ 171 ∷ 171 ∷ 171 ∷ 171 ∷ 171 ∷ 171 ∷ 171 ∷ 171 ∷ 171 ∷ 171 ∷ 171 ∷ 171 ∷ 171 ∷ 171 ∷ 171 ∷ 171 ∷ 171 ∷ 171 ∷ 171 ∷ 171 ∷ 171 ∷ 171 ∷ 171 ∷ 171 ∷ 171 ∷ 171 ∷ 171 ∷ 171 ∷ 171 ∷ 171 ∷ 171 ∷ 171 ∷ 171 ∷ 171 ∷ 171 ∷ 171 ∷ 171 ∷ 171 ∷ 171 ∷ 171 ∷ 171 ∷ 171 ∷ 171 ∷ 171 ∷ 171 ∷ 171 ∷ 171 ∷ 171 ∷ 171 ∷ 171 ∷ 171 ∷ 171 ∷ 171 ∷ 171 ∷ 171 ∷ 171 ∷ 171 ∷ 171 ∷ 171 ∷ 171 ∷ 171 ∷ 171 ∷ 171 ∷ 171 ∷ 171 ∷ 171 ∷ 171 ∷ 171 ∷ 171 ∷ 171 ∷ 171 ∷ 171 ∷ 171 ∷ 171 ∷ 171 ∷ 171 ∷ 171 ∷ 171 ∷ 171 ∷ 171 ∷ 171 ∷ 171 ∷ 171 ∷ 171 ∷ 171 ∷ 171 ∷ 171 ∷ 171 ∷ 171 ∷ 171 ∷ 171 ∷ 171 ∷ 171 ∷ 171 ∷ 171 ∷ 171 ∷ 171 ∷ 171 ∷ 171 ∷ 171 ∷ 171 ∷ 171 ∷ 171 ∷ 171 ∷ 171 ∷ 171 ∷ 171 ∷ 171 ∷ 171 ∷ 171 ∷ 171 ∷ 171 ∷ 171 ∷ 171 ∷ 171 ∷ 171 ∷ 171 ∷ 171 ∷ 171 ∷ 171 ∷ 171 ∷ 171 ∷ 171 ∷ 171 ∷ 171 ∷ 171 ∷ 171 ∷ 171 ∷ 171 ∷ 171 ∷ 171 ∷ 171 ∷ 171 ∷ 171 ∷ 171 ∷ 171 ∷ 171 ∷ 171 ∷ 171 ∷ 171 ∷ 171 ∷ 171 ∷ 171 ∷ 171 ∷ 171 ∷ 171 ∷ 171 ∷ 171 ∷ 171 ∷ 171 ∷ 171 ∷ 171 ∷ 171 ∷ 171 ∷ 171 ∷ 171 ∷ 171 ∷ 171 ∷ 171 ∷ 171 ∷ 171 ∷ 171 ∷ 171 ∷ 171 ∷ 171 ∷ 171 ∷ 171 ∷ 171 ∷ 171 ∷ 171 ∷ 171 ∷ 171 ∷ 171 ∷ 171 ∷ 171 ∷ 171 ∷ 171 ∷ 171 ∷ 171 ∷ 171 ∷ 171 ∷ 171 ∷ 171 ∷ 171 ∷ 171 ∷ 171 ∷ 171 ∷ 171 ∷ 171 ∷ 171 ∷ 171 ∷ 171 ∷ 171 ∷ 171 ∷ 171 ∷ 171 ∷ 171 ∷ 171 ∷ 171 ∷ 171 ∷ 171 ∷ 171 ∷ 171 ∷ 171 ∷ 171 ∷ 171 ∷ 171 ∷ 171 ∷ 171 ∷ []))
    ∷ one (event.Step (link M B Feed) 0)
    ∷ one (event.Step (link M B Ctl) 0)
    ∷ one (event.Step (link B T Air) 0)
    ∷ one (event.Step (link T B Air) 0)
    ∷ one (event.Step (link B M Feed) 0)
    ∷ one (event.Step (link A M Feed) 0)
    ∷ []

told_not_greater_output : first_difference 0 (output (plain 65520 (174 ∷ 105 ∷ 6 ∷ 187 ∷ 41 ∷ 206 ∷ 90 ∷ 47 ∷ 239 ∷ 162 ∷ 140 ∷ 100 ∷ 153 ∷ 15 ∷ 135 ∷ 125 ∷ 55 ∷ 203 ∷ 0 ∷ 255 ∷ 185 ∷ 139 ∷ 88 ∷ 210 ∷ 192 ∷ 128 ∷ 7 ∷ 60 ∷ 117 ∷ 71 ∷ 11 ∷ 175 ∷ [])) told_not_greater) (
    codes "> add a"
    ∷ codes "= ok"
    ∷ codes "- send ma.ctl addreq 1 a"
    ∷ codes "> step ma.ctl 0"
    ∷ codes "= ok"
    ∷ codes "- join a 1"
    ∷ codes "- send am.ctl addack 1"
    ∷ codes "> step am.ctl 0"
    ∷ codes "= ok"
    ∷ codes "- send mt.ctl reconf 1 a"
    ∷ codes "> step mt.ctl 0"
    ∷ codes "= ok"
    ∷ codes "- send tm.ctl rcomp 1"
    ∷ codes "> step tm.ctl 0"
    ∷ codes "= ok"
    ∷ codes "- send ma.ctl recfg 1"
    ∷ codes "- done"
    ∷ codes "> step ma.ctl 0"
    ∷ codes "= ok"
    ∷ codes "> bearer 1 12 0 ss 1000 0"
    ∷ codes "= ok"
    ∷ codes "- send ma.ctl modreq 2 a 1/12/0/ss/1000/0/s0.65520/-"
    ∷ codes "> step ma.ctl 0"
    ∷ codes "= ok"
    ∷ codes "- own a 1 2"
    ∷ codes "- send am.ctl modack 2"
    ∷ codes "> step am.ctl 0"
    ∷ codes "= ok"
    ∷ codes "- send mt.ctl reconf 2 a 1/12/0/ss/1000/0/s0.65520/-"
    ∷ codes "> step mt.ctl 0"
    ∷ codes "= ok"
    ∷ codes "- set 1 2"
    ∷ codes "- send tm.ctl rcomp 2"
    ∷ codes "> step tm.ctl 0"
    ∷ codes "= ok"
    ∷ codes "- send ma.ctl recfg 2"
    ∷ codes "- done"
    ∷ codes "> step ma.ctl 0"
    ∷ codes "= ok"
    ∷ codes "> dl 1 0000000b"
    ∷ codes "= ok"
    ∷ codes "- send ma.feed sdu 1 2 0000000b"
    ∷ codes "> step ma.feed 0"
    ∷ codes "= ok"
    ∷ codes "- send at.air pdu 1 2 0 0 80000000000b"
    ∷ codes "> step at.air 0"
    ∷ codes "= ok"
    ∷ codes "- up t 1 dl 0 0000000b"
    ∷ codes "- send ta.air ack 1 2 0"
    ∷ codes "> step ta.air 0"
    ∷ codes "= ok"
    ∷ codes "- send am.feed told 1 2 1"
    ∷ codes "> change"
    ∷ codes "= ok"
    ∷ codes "- send mb.ctl addreq 3 b 1/12/0/ss/1000/0/s0.65521/a"
    ∷ codes "> step mb.ctl 0"
    ∷ codes "= ok"
    ∷ codes "- join b 3"
    ∷ codes "- send bm.ctl addack 3"
    ∷ codes "> step bm.ctl 0"
    ∷ codes "= ok"
    ∷ codes "- send mt.ctl reconf 3 b 1/12/0/ss/1000/0/s0.65521/a"
    ∷ codes "- send ma.ctl relreq 3 b 1/12/0/ss/1000/0/s0.65521/a"
    ∷ codes "- send ma.feed end 1 3"
    ∷ codes "> step ma.feed 0"
    ∷ codes "= ok"
    ∷ codes "> step mt.ctl 0"
    ∷ codes "= ok"
    ∷ codes "- set 1 3"
    ∷ codes "- send tm.ctl rcomp 3"
    ∷ codes "> step tm.ctl 0"
    ∷ codes "= ok"
    ∷ codes "- send mb.ctl recfg 3"
    ∷ codes "> step ma.ctl 0"
    ∷ codes "= ok"
    ∷ codes "- leave a 3"
    ∷ codes "- give a 1 3"
    ∷ codes "- send am.ctl relack 3"
    ∷ codes "- send am.ctl snst 3 1 0 - 1"
    ∷ codes "- send ab.tun gtp - 34ff000c00000181000000840200000000000000"
    ∷ codes "- send ab.tun gtp - 30fe000000000181"
    ∷ codes "- send ab.tun gtp - 34ff000c00000182000000840200000000000000"
    ∷ codes "- send ab.tun gtp - 30fe000000000182"
    ∷ codes "> step am.ctl 0"
    ∷ codes "= ok"
    ∷ codes "> step am.ctl 0"
    ∷ codes "= ok"
    ∷ codes "- send mb.ctl snst 3 1 0 - 1"
    ∷ codes "> step ab.tun 0"
    ∷ codes "= ok"
    ∷ codes "> step ab.tun 0"
    ∷ codes "= ok"
    ∷ codes "> step ab.tun 0"
    ∷ codes "= ok"
    ∷ codes "> step mb.ctl 0"
    ∷ codes "= ok"
    ∷ codes "> dl 1 00000020abababababababababababababababababababababababababababababababababababababababababababababababababababababababababababababababababababababababababababababababababababababababababababababababababababababababababababababababababababababababababababababababababababababababababababababababababababababababababababababababababababababababababababababababababababababababababababababababababababababababababababababababababababababababababababababababababababababababababababababababababababababababababababababababababababababababababababababababababababababababababababababababababababababababababababababababababababababababababababababababababababababababababababababababababababababababababababababababababababababababababababababababababababababababababababababababababababababababababababababababab"
    ∷ codes "= ok"
    ∷ codes "- send mb.feed sdu 1 3 00000020abababababababababababababababababababababababababababababababababababababababababababababababababababababababababababababababababababababababababababababababababababababababababababababababababababababababababababababababababababababababababababababababababababababababababababababababababababababababababababababababababababababababababababababababababababababababababababababababababababababababababababababababababababababababababababababababababababababababababababababababababababababababababababababababababababababababababababababababababababababababababababababababababababababababababababababababababababababababababababababababababababababababababababababababababababababababababababababababababababababababababababababababababababababababababababababababababababababababababababababababab"
    ∷ codes "> step mb.feed 0"
    ∷ codes "= ok"
    ∷ codes "> step mb.ctl 0"
    ∷ codes "= ok"
    ∷ codes "- own b 1 3"
    ∷ codes "- send bm.ctl moved 3 1"
    ∷ codes "- send bt.air pdu 1 3 0 1 800100000020abababababababababababababababababababababababababababababababababababababababababababababababababababababababababababababababababababababababababababababababababababababababababababababababababababababababababababababababababababababababababababababababababababababababababababababababababababababababababababababababababababababababababababababababababababababababababababababababababababababababababababababababababababababababababababababababababababababababababababababababababababababababababababababababababababababababababababababababababababababababababababababababababababababababababababababababababababababababababababababababababababababababababababababababababababababababababababababababababababababababababababababababababababababababababababababababababababababababababababababababab"
    ∷ codes "> step bt.air 0"
    ∷ codes "= ok"
    ∷ codes "- up t 1 dl 1 00000020abababababababababababababababababababababababababababababababababababababababababababababababababababababababababababababababababababababababababababababababababababababababababababababababababababababababababababababababababababababababababababababababababababababababababababababababababababababababababababababababababababababababababababababababababababababababababababababababababababababababababababababababababababababababababababababababababababababababababababababababababababababababababababababababababababababababababababababababababababababababababababababababababababababababababababababababababababababababababababababababababababababababababababababababababababababababababababababababababababababababababababababababababababababababababababababababababababababababababababababababab"
    ∷ codes "- send tb.air ack 1 3 0"
    ∷ codes "> step tb.air 0"
    ∷ codes "= ok"
    ∷ codes "- send bm.feed told 1 3 2"
    ∷ codes "> step bm.feed 0"
    ∷ codes "= ok"
    ∷ codes "- freed 1 dl 2"
    ∷ codes "> step am.feed 0"
    ∷ codes "= ok"
    ∷ []) ≡ None
unfolding digits encode_with sn window modulus count_for distance data_pdu decoded read_data read_report report_pdu keystream counter_block stream_blocks packet_decoded
told_not_greater_output = refl

-- a status report in a tunnel counts in the volume of its leg
abbrev control_in_volume : List Scripted
control_in_volume =
    one (event.Add A)
    ∷ drain
    ∷ one (event.Bearer 1 S12 0 (shape false (Split cell.Scg) false) 8 0)
    ∷ drain
    ∷ one (event.Report M 1)
    ∷ drain
    ∷ one (event.Submit 1 Dl (170 ∷ []))
    ∷ one (event.Submit 1 Dl (187 ∷ []))
    ∷ drain
    ∷ []

control_in_volume_output : first_difference 0 (output (plain 0 (replicate 32 0)) control_in_volume) (
    codes "> add a"
    ∷ codes "= ok"
    ∷ codes "- send ma.ctl addreq 1 a"
    ∷ codes "> step ma.ctl 0"
    ∷ codes "= ok"
    ∷ codes "- join a 1"
    ∷ codes "- send am.ctl addack 1"
    ∷ codes "> step am.ctl 0"
    ∷ codes "= ok"
    ∷ codes "- send mt.ctl reconf 1 a"
    ∷ codes "> step mt.ctl 0"
    ∷ codes "= ok"
    ∷ codes "- send tm.ctl rcomp 1"
    ∷ codes "> step tm.ctl 0"
    ∷ codes "= ok"
    ∷ codes "- send ma.ctl recfg 1"
    ∷ codes "- done"
    ∷ codes "> step ma.ctl 0"
    ∷ codes "= ok"
    ∷ codes "> bearer 1 12 0 mxs 8 0"
    ∷ codes "= ok"
    ∷ codes "- send ma.ctl modreq 2 a 1/12/0/mxs/8/0/m0/-"
    ∷ codes "> step ma.ctl 0"
    ∷ codes "= ok"
    ∷ codes "- send am.ctl modack 2"
    ∷ codes "> step am.ctl 0"
    ∷ codes "= ok"
    ∷ codes "- own m 1 2"
    ∷ codes "- send mt.ctl reconf 2 a 1/12/0/mxs/8/0/m0/-"
    ∷ codes "> step mt.ctl 0"
    ∷ codes "= ok"
    ∷ codes "- set 1 2"
    ∷ codes "- send tm.ctl rcomp 2"
    ∷ codes "> step tm.ctl 0"
    ∷ codes "= ok"
    ∷ codes "- send ma.ctl recfg 2"
    ∷ codes "- done"
    ∷ codes "> step ma.ctl 0"
    ∷ codes "= ok"
    ∷ codes "> report m 1"
    ∷ codes "= ok"
    ∷ codes "- send ma.tun gtp - 34ff0011000001000000008402010000000000000000000000"
    ∷ codes "> step ma.tun 0"
    ∷ codes "= ok"
    ∷ codes "- send at.air ctl 1 2 0 0000000000"
    ∷ codes "> step at.air 0"
    ∷ codes "= ok"
    ∷ codes "- send ta.air ack 1 2 0"
    ∷ codes "> step ta.air 0"
    ∷ codes "= ok"
    ∷ codes "- send am.tun gtp - 34ff0008000001000000008401100000"
    ∷ codes "> step am.tun 0"
    ∷ codes "= ok"
    ∷ codes "> dl 1 aa"
    ∷ codes "= ok"
    ∷ codes "- send ma.tun gtp 0 34ff000f000001000000008402010000010000008000aa"
    ∷ codes "> dl 1 bb"
    ∷ codes "= ok"
    ∷ codes "- send mt.air pdu 1 2 0 1 8001bb"
    ∷ codes "> step mt.air 0"
    ∷ codes "= ok"
    ∷ codes "- send tm.air ack 1 2 0"
    ∷ codes "> step tm.air 0"
    ∷ codes "= ok"
    ∷ codes "> step ma.tun 0"
    ∷ codes "= ok"
    ∷ codes "- send at.air pdu 1 2 1 0 8000aa"
    ∷ codes "> step at.air 0"
    ∷ codes "= ok"
    ∷ codes "- up t 1 dl 0 aa"
    ∷ codes "- up t 1 dl 1 bb"
    ∷ codes "- send ta.air ack 1 2 1"
    ∷ codes "> step ta.air 0"
    ∷ codes "= ok"
    ∷ codes "- send am.tun gtp 0 34ff000c00000100000000840211000000000000"
    ∷ codes "> step am.tun 0"
    ∷ codes "= ok"
    ∷ codes "- freed 1 dl 2"
    ∷ []) ≡ None
unfolding digits encode_with sn window modulus count_for distance data_pdu decoded read_data read_report report_pdu keystream counter_block stream_blocks packet_decoded
control_in_volume_output = refl
