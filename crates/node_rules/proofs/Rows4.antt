-- Moves and requests of the secondary nodes: whole transcripts.
use Rattle.std.specs.Prelude.{◌≡◌, ◌∷◌, ◌++◌, [], List, ℕ, Bool, true, false, None, codes, replicate}
use Rattle.std.proofs.Common.{refl}
use Rattle.std.specs.Fmt.{digits}
use Rattle.hex.specs.Hex.{encode_with}
use Rattle.dc_base.specs.Count.{sn, window, modulus, count_for, distance}
use Rattle.dc_base.specs.Links.{link}
use Rattle.dc_base.specs.declared.numbers.SnLen.TheVariants.{S12, S18}
use Rattle.dc_base.specs.declared.nodes.Alg.TheVariants.{Nea2}
use Rattle.dc_base.specs.declared.nodes.Node.TheVariants.{T, M, A, B}
use Rattle.dc_base.specs.declared.nodes.Class.TheVariants.{Ctl, Feed, Air, Tun}
use Rattle.dc_base.specs.declared.nodes.Dir.TheVariants.{Ul, Dl}
use Rattle.dc_base.specs.declared.nodes.LegSet.TheVariants.{Mcg, Scg, Split}
use Rattle.dc_base.specs.declared.nodes.Cell.TheVariants as cell
use Rattle.dc_base.specs.declared.nodes.Want.TheVariants as want
use Rattle.dc_base.specs.declared.events.Event.TheVariants as event
use Rattle.nea2.specs.Keystream.{keystream, counter_block, stream_blocks}
use Rattle.pdcp_pdu.specs.DataPdu.{data_pdu}
use Rattle.gtpu.specs.Decoded.{decoded as packet_decoded}
use Rattle.pdcp_pdu.specs.Pdu.{decoded, read_data, read_report}
use Rattle.pdcp_pdu.specs.StatusReport.{report_pdu}
use Rattle.node_rules.proofs.Scripts.{Scripted, one, drain, output, stand_in, first_difference, shape, plain}

-- an adoption with SDUs that had no COUNT
abbrev fresh_forwarded : List Scripted
fresh_forwarded =
    one (event.Add B)
    ∷ drain
    ∷ one (event.Bearer 4 S12 2039 (shape true Mcg false) 10 1)
    ∷ drain
    ∷ one (event.Ask B want.Release)
    ∷ one (event.Submit 4 Dl (0 ∷ 0 ∷ 0 ∷ 3 ∷ []))
    ∷ drain
    ∷ []

fresh_forwarded_output : first_difference 0 (output (plain 0 (10 ∷ 175 ∷ 9 ∷ 87 ∷ 137 ∷ 209 ∷ 37 ∷ 124 ∷ 42 ∷ 3 ∷ 98 ∷ 33 ∷ 197 ∷ 236 ∷ 156 ∷ 1 ∷ 2 ∷ 214 ∷ 184 ∷ 148 ∷ 224 ∷ 108 ∷ 128 ∷ 111 ∷ 240 ∷ 9 ∷ 239 ∷ 141 ∷ 208 ∷ 227 ∷ 74 ∷ 135 ∷ [])) fresh_forwarded) (
    codes "> add b"
    ∷ codes "= ok"
    ∷ codes "- send mb.ctl addreq 1 b"
    ∷ codes "> step mb.ctl 0"
    ∷ codes "= ok"
    ∷ codes "- join b 1"
    ∷ codes "- send bm.ctl addack 1"
    ∷ codes "> step bm.ctl 0"
    ∷ codes "= ok"
    ∷ codes "- send mt.ctl reconf 1 b"
    ∷ codes "> step mt.ctl 0"
    ∷ codes "= ok"
    ∷ codes "- send tm.ctl rcomp 1"
    ∷ codes "> step tm.ctl 0"
    ∷ codes "= ok"
    ∷ codes "- send mb.ctl recfg 1"
    ∷ codes "- done"
    ∷ codes "> step mb.ctl 0"
    ∷ codes "= ok"
    ∷ codes "> bearer 4 12 2039 sm 10 1"
    ∷ codes "= ok"
    ∷ codes "- send mb.ctl modreq 2 b 4/12/2039/sm/10/1/s0.0/-"
    ∷ codes "> step mb.ctl 0"
    ∷ codes "= ok"
    ∷ codes "- own b 4 2"
    ∷ codes "- send bm.ctl modack 2"
    ∷ codes "> step bm.ctl 0"
    ∷ codes "= ok"
    ∷ codes "- send mt.ctl reconf 2 b 4/12/2039/sm/10/1/s0.0/-"
    ∷ codes "> step mt.ctl 0"
    ∷ codes "= ok"
    ∷ codes "- set 4 2"
    ∷ codes "- send tm.ctl rcomp 2"
    ∷ codes "> step tm.ctl 0"
    ∷ codes "= ok"
    ∷ codes "- send mb.ctl recfg 2"
    ∷ codes "- done"
    ∷ codes "> step mb.ctl 0"
    ∷ codes "= ok"
    ∷ codes "> want b release"
    ∷ codes "= ok"
    ∷ codes "- send bm.ctl relrqd"
    ∷ codes "> dl 4 00000003"
    ∷ codes "= ok"
    ∷ codes "- send mb.feed sdu 4 2 00000003"
    ∷ codes "> step bm.ctl 0"
    ∷ codes "= ok"
    ∷ codes "- begin release"
    ∷ codes "- send mt.ctl reconf 3 - 4/12/2039/mm/10/1/m0/b"
    ∷ codes "- send mb.ctl relcnf 3 - 4/12/2039/mm/10/1/m0/b"
    ∷ codes "- send mb.feed end 4 3"
    ∷ codes "> step mt.ctl 0"
    ∷ codes "= ok"
    ∷ codes "- set 4 3"
    ∷ codes "- send tm.ctl rcomp 3"
    ∷ codes "> step tm.ctl 0"
    ∷ codes "= ok"
    ∷ codes "> step mb.ctl 0"
    ∷ codes "= ok"
    ∷ codes "- leave b 3"
    ∷ codes "- give b 4 3"
    ∷ codes "- send bm.ctl snst 3 4 2039 - 2039"
    ∷ codes "- send bm.tun gtp - 34ff000c0000018e000000840200000000000000"
    ∷ codes "- send bm.tun gtp - 30fe00000000018e"
    ∷ codes "- confirmed b"
    ∷ codes "> step bm.ctl 0"
    ∷ codes "= ok"
    ∷ codes "> step mb.feed 0"
    ∷ codes "= ok"
    ∷ codes "- send bm.tun gtp - 34ff00100000018d00000084020100000000000000000003"
    ∷ codes "> step mb.feed 0"
    ∷ codes "= ok"
    ∷ codes "- send bm.tun gtp - 34ff000c0000018d000000840200000001000000"
    ∷ codes "- send bm.tun gtp - 30fe00000000018d"
    ∷ codes "> step bm.tun 0"
    ∷ codes "= ok"
    ∷ codes "> step bm.tun 0"
    ∷ codes "= ok"
    ∷ codes "> step bm.tun 0"
    ∷ codes "= ok"
    ∷ codes "> step bm.tun 0"
    ∷ codes "= ok"
    ∷ codes "- own m 4 3"
    ∷ codes "- send mb.ctl uecr 3"
    ∷ codes "- send mt.air pdu 4 3 0 2039 87f700000003"
    ∷ codes "- done"
    ∷ codes "> step mb.ctl 0"
    ∷ codes "= ok"
    ∷ codes "> step mt.air 0"
    ∷ codes "= ok"
    ∷ codes "- up t 4 dl 2039 00000003"
    ∷ codes "- send tm.air ack 4 3 0"
    ∷ codes "> step tm.air 0"
    ∷ codes "= ok"
    ∷ codes "- freed 4 dl 2040"
    ∷ codes "> step bm.tun 0"
    ∷ codes "= ok"
    ∷ []) ≡ None
unfolding digits encode_with sn window modulus count_for distance data_pdu decoded read_data read_report report_pdu keystream counter_block stream_blocks packet_decoded
fresh_forwarded_output = refl

-- an adoption with uplink SDUs that were stored
abbrev stored_forwarded : List Scripted
stored_forwarded =
    one (event.Add B)
    ∷ drain
    ∷ one (event.Bearer 4 S12 2039 (shape true Mcg false) 10 1)
    ∷ drain
    ∷ one (event.Ask B want.Release)
    ∷ one (event.Submit 4 Ul (0 ∷ 0 ∷ 0 ∷ 16 ∷ []))
    ∷ one (event.Submit 4 Ul (0 ∷ 0 ∷ 0 ∷ 17 ∷ []))
    ∷ one (event.Step (link T M Air) 0)
    ∷ one (event.Lose (link M B Tun) 0)
    ∷ one (event.Step (link T M Air) 0)
    ∷ one (event.Step (link M B Tun) 0)
    ∷ drain
    ∷ []

stored_forwarded_output : first_difference 0 (output (plain 0 (10 ∷ 175 ∷ 9 ∷ 87 ∷ 137 ∷ 209 ∷ 37 ∷ 124 ∷ 42 ∷ 3 ∷ 98 ∷ 33 ∷ 197 ∷ 236 ∷ 156 ∷ 1 ∷ 2 ∷ 214 ∷ 184 ∷ 148 ∷ 224 ∷ 108 ∷ 128 ∷ 111 ∷ 240 ∷ 9 ∷ 239 ∷ 141 ∷ 208 ∷ 227 ∷ 74 ∷ 135 ∷ [])) stored_forwarded) (
    codes "> add b"
    ∷ codes "= ok"
    ∷ codes "- send mb.ctl addreq 1 b"
    ∷ codes "> step mb.ctl 0"
    ∷ codes "= ok"
    ∷ codes "- join b 1"
    ∷ codes "- send bm.ctl addack 1"
    ∷ codes "> step bm.ctl 0"
    ∷ codes "= ok"
    ∷ codes "- send mt.ctl reconf 1 b"
    ∷ codes "> step mt.ctl 0"
    ∷ codes "= ok"
    ∷ codes "- send tm.ctl rcomp 1"
    ∷ codes "> step tm.ctl 0"
    ∷ codes "= ok"
    ∷ codes "- send mb.ctl recfg 1"
    ∷ codes "- done"
    ∷ codes "> step mb.ctl 0"
    ∷ codes "= ok"
    ∷ codes "> bearer 4 12 2039 sm 10 1"
    ∷ codes "= ok"
    ∷ codes "- send mb.ctl modreq 2 b 4/12/2039/sm/10/1/s0.0/-"
    ∷ codes "> step mb.ctl 0"
    ∷ codes "= ok"
    ∷ codes "- own b 4 2"
    ∷ codes "- send bm.ctl modack 2"
    ∷ codes "> step bm.ctl 0"
    ∷ codes "= ok"
    ∷ codes "- send mt.ctl reconf 2 b 4/12/2039/sm/10/1/s0.0/-"
    ∷ codes "> step mt.ctl 0"
    ∷ codes "= ok"
    ∷ codes "- set 4 2"
    ∷ codes "- send tm.ctl rcomp 2"
    ∷ codes "> step tm.ctl 0"
    ∷ codes "= ok"
    ∷ codes "- send mb.ctl recfg 2"
    ∷ codes "- done"
    ∷ codes "> step mb.ctl 0"
    ∷ codes "= ok"
    ∷ codes "> want b release"
    ∷ codes "= ok"
    ∷ codes "- send bm.ctl relrqd"
    ∷ codes "> ul 4 00000010"
    ∷ codes "= ok"
    ∷ codes "- send tm.air pdu 4 2 0 2039 87f700000010"
    ∷ codes "> ul 4 00000011"
    ∷ codes "= ok"
    ∷ codes "- send tm.air pdu 4 2 1 2040 87f800000011"
    ∷ codes "> step tm.air 0"
    ∷ codes "= ok"
    ∷ codes "- send mt.air ack 4 2 0"
    ∷ codes "- send mb.tun gtp 2039 30ff00060000010c87f700000010"
    ∷ codes "> lose mb.tun 0"
    ∷ codes "= ok"
    ∷ codes "> step tm.air 0"
    ∷ codes "= ok"
    ∷ codes "- send mt.air ack 4 2 1"
    ∷ codes "- send mb.tun gtp 2040 30ff00060000010c87f800000011"
    ∷ codes "> step mb.tun 0"
    ∷ codes "= ok"
    ∷ codes "> step bm.ctl 0"
    ∷ codes "= ok"
    ∷ codes "- begin release"
    ∷ codes "- send mt.ctl reconf 3 - 4/12/2039/mm/10/1/m0/b"
    ∷ codes "- send mb.ctl relcnf 3 - 4/12/2039/mm/10/1/m0/b"
    ∷ codes "- send mb.feed end 4 3"
    ∷ codes "> step mt.ctl 0"
    ∷ codes "= ok"
    ∷ codes "- set 4 3"
    ∷ codes "- send tm.ctl rcomp 3"
    ∷ codes "- send tm.air pdu 4 3 0 2039 87f700000010"
    ∷ codes "- send tm.air pdu 4 3 1 2040 87f800000011"
    ∷ codes "> step tm.ctl 0"
    ∷ codes "= ok"
    ∷ codes "> step mb.ctl 0"
    ∷ codes "= ok"
    ∷ codes "- leave b 3"
    ∷ codes "- give b 4 3"
    ∷ codes "- send bm.ctl snst 3 4 2039 80 2039"
    ∷ codes "- send bm.tun gtp - 34ff00140000018e0000008402010000000000c00107f80000000011"
    ∷ codes "- send bm.tun gtp - 34ff000c0000018e000000840200000001000000"
    ∷ codes "- send bm.tun gtp - 30fe00000000018e"
    ∷ codes "- confirmed b"
    ∷ codes "> step bm.ctl 0"
    ∷ codes "= ok"
    ∷ codes "> step mb.feed 0"
    ∷ codes "= ok"
    ∷ codes "- send bm.tun gtp - 34ff000c0000018d000000840200000000000000"
    ∷ codes "- send bm.tun gtp - 30fe00000000018d"
    ∷ codes "> step mt.air 0"
    ∷ codes "= ok"
    ∷ codes "> step mt.air 0"
    ∷ codes "= ok"
    ∷ codes "> step tm.air 0"
    ∷ codes "= ok"
    ∷ codes "- send mt.air ack 4 3 0"
    ∷ codes "> step mt.air 0"
    ∷ codes "= ok"
    ∷ codes "> step tm.air 0"
    ∷ codes "= ok"
    ∷ codes "- send mt.air ack 4 3 1"
    ∷ codes "> step mt.air 0"
    ∷ codes "= ok"
    ∷ codes "> step bm.tun 0"
    ∷ codes "= ok"
    ∷ codes "> step bm.tun 0"
    ∷ codes "= ok"
    ∷ codes "> step bm.tun 0"
    ∷ codes "= ok"
    ∷ codes "> step bm.tun 0"
    ∷ codes "= ok"
    ∷ codes "- own m 4 3"
    ∷ codes "- up m 4 ul 2039 00000010"
    ∷ codes "- up m 4 ul 2040 00000011"
    ∷ codes "- send mb.ctl uecr 3"
    ∷ codes "- done"
    ∷ codes "> step mb.ctl 0"
    ∷ codes "= ok"
    ∷ codes "> step bm.tun 0"
    ∷ codes "= ok"
    ∷ []) ≡ None
unfolding digits encode_with sn window modulus count_for distance data_pdu decoded read_data read_report report_pdu keystream counter_block stream_blocks packet_decoded
stored_forwarded_output = refl

-- the acknowledge of a node that left comes after the end of its change
abbrev late_relack : List Scripted
late_relack =
    one (event.Add A)
    ∷ one (event.Step (link M A Ctl) 0)
    ∷ one (event.Step (link A M Ctl) 0)
    ∷ one (event.Step (link M T Ctl) 0)
    ∷ one (event.Step (link T M Ctl) 0)
    ∷ one event.Change
    ∷ drain
    ∷ []

late_relack_output : first_difference 0 (output (plain 0 (189 ∷ 137 ∷ 245 ∷ 119 ∷ 0 ∷ 122 ∷ 20 ∷ 132 ∷ 8 ∷ 28 ∷ 204 ∷ 108 ∷ 51 ∷ 125 ∷ 209 ∷ 147 ∷ 85 ∷ 222 ∷ 94 ∷ 194 ∷ 47 ∷ 181 ∷ 208 ∷ 177 ∷ 203 ∷ 241 ∷ 107 ∷ 164 ∷ 111 ∷ 226 ∷ 224 ∷ 110 ∷ [])) late_relack) (
    codes "> add a"
    ∷ codes "= ok"
    ∷ codes "- send ma.ctl addreq 1 a"
    ∷ codes "> step ma.ctl 0"
    ∷ codes "= ok"
    ∷ codes "- join a 1"
    ∷ codes "- send am.ctl addack 1"
    ∷ codes "> step am.ctl 0"
    ∷ codes "= ok"
    ∷ codes "- send mt.ctl reconf 1 a"
    ∷ codes "> step mt.ctl 0"
    ∷ codes "= ok"
    ∷ codes "- send tm.ctl rcomp 1"
    ∷ codes "> step tm.ctl 0"
    ∷ codes "= ok"
    ∷ codes "- send ma.ctl recfg 1"
    ∷ codes "- done"
    ∷ codes "> change"
    ∷ codes "= ok"
    ∷ codes "- send mb.ctl addreq 2 b"
    ∷ codes "> step ma.ctl 0"
    ∷ codes "= ok"
    ∷ codes "> step mb.ctl 0"
    ∷ codes "= ok"
    ∷ codes "- join b 2"
    ∷ codes "- send bm.ctl addack 2"
    ∷ codes "> step bm.ctl 0"
    ∷ codes "= ok"
    ∷ codes "- send mt.ctl reconf 2 b"
    ∷ codes "- send ma.ctl relreq 2 b"
    ∷ codes "> step mt.ctl 0"
    ∷ codes "= ok"
    ∷ codes "- send tm.ctl rcomp 2"
    ∷ codes "> step tm.ctl 0"
    ∷ codes "= ok"
    ∷ codes "- send ma.ctl uecr 2"
    ∷ codes "- send mb.ctl recfg 2"
    ∷ codes "- done"
    ∷ codes "> step ma.ctl 0"
    ∷ codes "= ok"
    ∷ codes "- leave a 2"
    ∷ codes "- send am.ctl relack 2"
    ∷ codes "> step ma.ctl 0"
    ∷ codes "= ok"
    ∷ codes "> step am.ctl 0"
    ∷ codes "= ok"
    ∷ codes "> step mb.ctl 0"
    ∷ codes "= ok"
    ∷ []) ≡ None
unfolding digits encode_with sn window modulus count_for distance data_pdu decoded read_data read_report report_pdu keystream counter_block stream_blocks packet_decoded
late_relack_output = refl

-- a change that a node asked for is rejected by the other one
abbrev rejected_change : List Scripted
rejected_change =
    one (event.Add B)
    ∷ one (event.Step (link M B Ctl) 0)
    ∷ one (event.Step (link B M Ctl) 0)
    ∷ one (event.Step (link M T Ctl) 0)
    ∷ one (event.Step (link T M Ctl) 0)
    ∷ one (event.Step (link M B Ctl) 0)
    ∷ one event.Change
    ∷ one (event.Step (link M A Ctl) 0)
    ∷ one (event.Step (link A M Ctl) 0)
    ∷ one (event.Step (link M T Ctl) 0)
    ∷ one (event.Step (link T M Ctl) 0)
    ∷ one (event.Step (link M B Ctl) 0)
    ∷ one (event.Step (link M B Ctl) 0)
    ∷ one (event.Step (link B M Ctl) 0)
    ∷ one (event.Deny B true)
    ∷ one (event.Step (link M A Ctl) 0)
    ∷ one (event.Ask A want.Change)
    ∷ one (event.Step (link A M Ctl) 0)
    ∷ one (event.Step (link M B Ctl) 0)
    ∷ one (event.Step (link B M Ctl) 0)
    ∷ one (event.Step (link M A Ctl) 0)
    ∷ []

rejected_change_output : first_difference 0 (output (plain 5 (228 ∷ 222 ∷ 197 ∷ 132 ∷ 72 ∷ 10 ∷ 223 ∷ 124 ∷ 197 ∷ 91 ∷ 42 ∷ 183 ∷ 166 ∷ 64 ∷ 78 ∷ 255 ∷ 146 ∷ 24 ∷ 25 ∷ 55 ∷ 147 ∷ 248 ∷ 34 ∷ 208 ∷ 190 ∷ 10 ∷ 127 ∷ 224 ∷ 62 ∷ 63 ∷ 181 ∷ 56 ∷ [])) rejected_change) (
    codes "> add b"
    ∷ codes "= ok"
    ∷ codes "- send mb.ctl addreq 1 b"
    ∷ codes "> step mb.ctl 0"
    ∷ codes "= ok"
    ∷ codes "- join b 1"
    ∷ codes "- send bm.ctl addack 1"
    ∷ codes "> step bm.ctl 0"
    ∷ codes "= ok"
    ∷ codes "- send mt.ctl reconf 1 b"
    ∷ codes "> step mt.ctl 0"
    ∷ codes "= ok"
    ∷ codes "- send tm.ctl rcomp 1"
    ∷ codes "> step tm.ctl 0"
    ∷ codes "= ok"
    ∷ codes "- send mb.ctl recfg 1"
    ∷ codes "- done"
    ∷ codes "> step mb.ctl 0"
    ∷ codes "= ok"
    ∷ codes "> change"
    ∷ codes "= ok"
    ∷ codes "- send ma.ctl addreq 2 a"
    ∷ codes "> step ma.ctl 0"
    ∷ codes "= ok"
    ∷ codes "- join a 2"
    ∷ codes "- send am.ctl addack 2"
    ∷ codes "> step am.ctl 0"
    ∷ codes "= ok"
    ∷ codes "- send mt.ctl reconf 2 a"
    ∷ codes "- send mb.ctl relreq 2 a"
    ∷ codes "> step mt.ctl 0"
    ∷ codes "= ok"
    ∷ codes "- send tm.ctl rcomp 2"
    ∷ codes "> step tm.ctl 0"
    ∷ codes "= ok"
    ∷ codes "- send ma.ctl recfg 2"
    ∷ codes "- send mb.ctl uecr 2"
    ∷ codes "- done"
    ∷ codes "> step mb.ctl 0"
    ∷ codes "= ok"
    ∷ codes "- leave b 2"
    ∷ codes "- send bm.ctl relack 2"
    ∷ codes "> step mb.ctl 0"
    ∷ codes "= ok"
    ∷ codes "> step bm.ctl 0"
    ∷ codes "= ok"
    ∷ codes "> deny b on"
    ∷ codes "= ok"
    ∷ codes "> step ma.ctl 0"
    ∷ codes "= ok"
    ∷ codes "> want a change"
    ∷ codes "= ok"
    ∷ codes "- send am.ctl chgrqd"
    ∷ codes "> step am.ctl 0"
    ∷ codes "= ok"
    ∷ codes "- begin change"
    ∷ codes "- send mb.ctl addreq 3 b"
    ∷ codes "> step mb.ctl 0"
    ∷ codes "= ok"
    ∷ codes "- send bm.ctl addrej 3"
    ∷ codes "> step bm.ctl 0"
    ∷ codes "= ok"
    ∷ codes "- send ma.ctl chgref rejected"
    ∷ codes "- rejected"
    ∷ codes "> step ma.ctl 0"
    ∷ codes "= ok"
    ∷ codes "- refused a rejected"
    ∷ []) ≡ None
unfolding digits encode_with sn window modulus count_for distance data_pdu decoded read_data read_report report_pdu keystream counter_block stream_blocks packet_decoded
rejected_change_output = refl

-- two requests for a release wait for the end of a command
abbrev two_releases : List Scripted
two_releases =
    one (event.Add A)
    ∷ drain
    ∷ one event.Change
    ∷ one (event.Ask A want.Release)
    ∷ one (event.Step (link A M Ctl) 0)
    ∷ one (event.Step (link M B Ctl) 0)
    ∷ one (event.Ask B want.Release)
    ∷ drain
    ∷ []

two_releases_output : first_difference 0 (output (plain 0 (replicate 32 0)) two_releases) (
    codes "> add a"
    ∷ codes "= ok"
    ∷ codes "- send ma.ctl addreq 1 a"
    ∷ codes "> step ma.ctl 0"
    ∷ codes "= ok"
    ∷ codes "- join a 1"
    ∷ codes "- send am.ctl addack 1"
    ∷ codes "> step am.ctl 0"
    ∷ codes "= ok"
    ∷ codes "- send mt.ctl reconf 1 a"
    ∷ codes "> step mt.ctl 0"
    ∷ codes "= ok"
    ∷ codes "- send tm.ctl rcomp 1"
    ∷ codes "> step tm.ctl 0"
    ∷ codes "= ok"
    ∷ codes "- send ma.ctl recfg 1"
    ∷ codes "- done"
    ∷ codes "> step ma.ctl 0"
    ∷ codes "= ok"
    ∷ codes "> change"
    ∷ codes "= ok"
    ∷ codes "- send mb.ctl addreq 2 b"
    ∷ codes "> want a release"
    ∷ codes "= ok"
    ∷ codes "- send am.ctl relrqd"
    ∷ codes "> step am.ctl 0"
    ∷ codes "= ok"
    ∷ codes "> step mb.ctl 0"
    ∷ codes "= ok"
    ∷ codes "- join b 2"
    ∷ codes "- send bm.ctl addack 2"
    ∷ codes "> want b release"
    ∷ codes "= ok"
    ∷ codes "- send bm.ctl relrqd"
    ∷ codes "> step bm.ctl 0"
    ∷ codes "= ok"
    ∷ codes "- send mt.ctl reconf 2 b"
    ∷ codes "- send ma.ctl relreq 2 b"
    ∷ codes "> step mt.ctl 0"
    ∷ codes "= ok"
    ∷ codes "- send tm.ctl rcomp 2"
    ∷ codes "> step tm.ctl 0"
    ∷ codes "= ok"
    ∷ codes "- send ma.ctl uecr 2"
    ∷ codes "- send mb.ctl recfg 2"
    ∷ codes "- done"
    ∷ codes "- send ma.ctl relcnf 0 -"
    ∷ codes "> step ma.ctl 0"
    ∷ codes "= ok"
    ∷ codes "- leave a 2"
    ∷ codes "- send am.ctl relack 2"
    ∷ codes "> step ma.ctl 0"
    ∷ codes "= ok"
    ∷ codes "> step ma.ctl 0"
    ∷ codes "= ok"
    ∷ codes "- confirmed a"
    ∷ codes "> step am.ctl 0"
    ∷ codes "= ok"
    ∷ codes "> step mb.ctl 0"
    ∷ codes "= ok"
    ∷ codes "> step bm.ctl 0"
    ∷ codes "= ok"
    ∷ codes "- begin release"
    ∷ codes "- send mt.ctl reconf 3 -"
    ∷ codes "- send mb.ctl relcnf 3 -"
    ∷ codes "> step mt.ctl 0"
    ∷ codes "= ok"
    ∷ codes "- send tm.ctl rcomp 3"
    ∷ codes "> step tm.ctl 0"
    ∷ codes "= ok"
    ∷ codes "- send mb.ctl uecr 3"
    ∷ codes "- done"
    ∷ codes "> step mb.ctl 0"
    ∷ codes "= ok"
    ∷ codes "- leave b 3"
    ∷ codes "- confirmed b"
    ∷ codes "> step mb.ctl 0"
    ∷ codes "= ok"
    ∷ []) ≡ None
unfolding digits encode_with sn window modulus count_for distance data_pdu decoded read_data read_report report_pdu keystream counter_block stream_blocks packet_decoded
two_releases_output = refl

-- an SDU of an earlier establishment is not forwarded
abbrev older_sdu : List Scripted
older_sdu =
    one (event.Add A)
    ∷ drain
    ∷ one (event.Bearer 1 S12 0 (shape true Scg false) 0 0)
    ∷ drain
    ∷ one (event.Submit 1 Dl (1 ∷ []))
    ∷ one (event.Remove 1)
    ∷ one (event.Step (link M A Ctl) 0)
    ∷ one (event.Step (link A M Ctl) 0)
    ∷ one (event.Step (link M T Ctl) 0)
    ∷ one (event.Step (link T M Ctl) 0)
    ∷ one (event.RekeyMaster (replicate 32 17))
    ∷ one (event.Step (link M A Ctl) 0)
    ∷ one (event.Step (link M A Ctl) 0)
    ∷ one (event.Step (link A M Ctl) 0)
    ∷ one (event.Step (link M T Ctl) 0)
    ∷ one (event.Step (link T M Ctl) 0)
    ∷ one (event.Bearer 1 S12 0 (shape true Scg false) 0 0)
    ∷ one (event.Step (link M A Ctl) 0)
    ∷ one (event.Step (link M A Ctl) 0)
    ∷ one (event.Step (link A M Ctl) 0)
    ∷ one (event.Step (link M T Ctl) 0)
    ∷ one (event.Step (link T M Ctl) 0)
    ∷ one (event.Step (link M A Ctl) 0)
    ∷ one event.Change
    ∷ one (event.Step (link M B Ctl) 0)
    ∷ one (event.Step (link B M Ctl) 0)
    ∷ one (event.Step (link M A Ctl) 0)
    ∷ one (event.Step (link M A Feed) 0)
    ∷ drain
    ∷ []

older_sdu_output : first_difference 0 (output (plain 0 (replicate 32 0)) older_sdu) (
    codes "> add a"
    ∷ codes "= ok"
    ∷ codes "- send ma.ctl addreq 1 a"
    ∷ codes "> step ma.ctl 0"
    ∷ codes "= ok"
    ∷ codes "- join a 1"
    ∷ codes "- send am.ctl addack 1"
    ∷ codes "> step am.ctl 0"
    ∷ codes "= ok"
    ∷ codes "- send mt.ctl reconf 1 a"
    ∷ codes "> step mt.ctl 0"
    ∷ codes "= ok"
    ∷ codes "- send tm.ctl rcomp 1"
    ∷ codes "> step tm.ctl 0"
    ∷ codes "= ok"
    ∷ codes "- send ma.ctl recfg 1"
    ∷ codes "- done"
    ∷ codes "> step ma.ctl 0"
    ∷ codes "= ok"
    ∷ codes "> bearer 1 12 0 ss 0 0"
    ∷ codes "= ok"
    ∷ codes "- send ma.ctl modreq 2 a 1/12/0/ss/0/0/s0.0/-"
    ∷ codes "> step ma.ctl 0"
    ∷ codes "= ok"
    ∷ codes "- own a 1 2"
    ∷ codes "- send am.ctl modack 2"
    ∷ codes "> step am.ctl 0"
    ∷ codes "= ok"
    ∷ codes "- send mt.ctl reconf 2 a 1/12/0/ss/0/0/s0.0/-"
    ∷ codes "> step mt.ctl 0"
    ∷ codes "= ok"
    ∷ codes "- set 1 2"
    ∷ codes "- send tm.ctl rcomp 2"
    ∷ codes "> step tm.ctl 0"
    ∷ codes "= ok"
    ∷ codes "- send ma.ctl recfg 2"
    ∷ codes "- done"
    ∷ codes "> step ma.ctl 0"
    ∷ codes "= ok"
    ∷ codes "> dl 1 01"
    ∷ codes "= ok"
    ∷ codes "- send ma.feed sdu 1 2 01"
    ∷ codes "> drop 1"
    ∷ codes "= ok"
    ∷ codes "- send ma.ctl modreq 3 a -1"
    ∷ codes "> step ma.ctl 0"
    ∷ codes "= ok"
    ∷ codes "- send am.ctl modack 3"
    ∷ codes "> step am.ctl 0"
    ∷ codes "= ok"
    ∷ codes "- send mt.ctl reconf 3 a -1"
    ∷ codes "> step mt.ctl 0"
    ∷ codes "= ok"
    ∷ codes "- unset 1"
    ∷ codes "- send tm.ctl rcomp 3"
    ∷ codes "> step tm.ctl 0"
    ∷ codes "= ok"
    ∷ codes "- send ma.ctl recfg 3"
    ∷ codes "- done"
    ∷ codes "> rekey m 1111111111111111111111111111111111111111111111111111111111111111"
    ∷ codes "= ok"
    ∷ codes "- send ma.ctl modreq 4 a"
    ∷ codes "> step ma.ctl 0"
    ∷ codes "= ok"
    ∷ codes "> step ma.ctl 0"
    ∷ codes "= ok"
    ∷ codes "- send am.ctl modack 4"
    ∷ codes "> step am.ctl 0"
    ∷ codes "= ok"
    ∷ codes "- send mt.ctl reconf 4 a"
    ∷ codes "> step mt.ctl 0"
    ∷ codes "= ok"
    ∷ codes "- send tm.ctl rcomp 4"
    ∷ codes "> step tm.ctl 0"
    ∷ codes "= ok"
    ∷ codes "- send ma.ctl recfg 4"
    ∷ codes "- done"
    ∷ codes "> bearer 1 12 0 ss 0 0"
    ∷ codes "= ok"
    ∷ codes "- send ma.ctl modreq 5 a 1/12/0/ss/0/0/s1.0/-"
    ∷ codes "> step ma.ctl 0"
    ∷ codes "= ok"
    ∷ codes "> step ma.ctl 0"
    ∷ codes "= ok"
    ∷ codes "- own a 1 5"
    ∷ codes "- send am.ctl modack 5"
    ∷ codes "> step am.ctl 0"
    ∷ codes "= ok"
    ∷ codes "- send mt.ctl reconf 5 a 1/12/0/ss/0/0/s1.0/-"
    ∷ codes "> step mt.ctl 0"
    ∷ codes "= ok"
    ∷ codes "- set 1 5"
    ∷ codes "- send tm.ctl rcomp 5"
    ∷ codes "> step tm.ctl 0"
    ∷ codes "= ok"
    ∷ codes "- send ma.ctl recfg 5"
    ∷ codes "- done"
    ∷ codes "> step ma.ctl 0"
    ∷ codes "= ok"
    ∷ codes "> change"
    ∷ codes "= ok"
    ∷ codes "- send mb.ctl addreq 6 b 1/12/0/ss/0/0/s1.1/a"
    ∷ codes "> step mb.ctl 0"
    ∷ codes "= ok"
    ∷ codes "- join b 6"
    ∷ codes "- send bm.ctl addack 6"
    ∷ codes "> step bm.ctl 0"
    ∷ codes "= ok"
    ∷ codes "- send mt.ctl reconf 6 b 1/12/0/ss/0/0/s1.1/a"
    ∷ codes "- send ma.ctl relreq 6 b 1/12/0/ss/0/0/s1.1/a"
    ∷ codes "- send ma.feed end 1 6"
    ∷ codes "> step ma.ctl 0"
    ∷ codes "= ok"
    ∷ codes "- leave a 6"
    ∷ codes "- give a 1 6"
    ∷ codes "- send am.ctl relack 6"
    ∷ codes "- send am.ctl snst 6 1 0 - 0"
    ∷ codes "- send ab.tun gtp - 34ff000c00000302000000840200000000000000"
    ∷ codes "- send ab.tun gtp - 30fe000000000302"
    ∷ codes "> step ma.feed 0"
    ∷ codes "= ok"
    ∷ codes "> step mt.ctl 0"
    ∷ codes "= ok"
    ∷ codes "- set 1 6"
    ∷ codes "- send tm.ctl rcomp 6"
    ∷ codes "> step tm.ctl 0"
    ∷ codes "= ok"
    ∷ codes "- send mb.ctl recfg 6"
    ∷ codes "> step am.ctl 0"
    ∷ codes "= ok"
    ∷ codes "> step am.ctl 0"
    ∷ codes "= ok"
    ∷ codes "- send mb.ctl snst 6 1 0 - 0"
    ∷ codes "> step mb.ctl 0"
    ∷ codes "= ok"
    ∷ codes "> step mb.ctl 0"
    ∷ codes "= ok"
    ∷ codes "> step ma.feed 0"
    ∷ codes "= ok"
    ∷ codes "- send ab.tun gtp - 34ff000c00000301000000840200000000000000"
    ∷ codes "- send ab.tun gtp - 30fe000000000301"
    ∷ codes "> step ab.tun 0"
    ∷ codes "= ok"
    ∷ codes "> step ab.tun 0"
    ∷ codes "= ok"
    ∷ codes "> step ab.tun 0"
    ∷ codes "= ok"
    ∷ codes "- own b 1 6"
    ∷ codes "- send bm.ctl moved 6 1"
    ∷ codes "> step bm.ctl 0"
    ∷ codes "= ok"
    ∷ codes "- send ma.ctl uecr 6"
    ∷ codes "- done"
    ∷ codes "> step ma.ctl 0"
    ∷ codes "= ok"
    ∷ codes "> step ab.tun 0"
    ∷ codes "= ok"
    ∷ []) ≡ None
unfolding digits encode_with sn window modulus count_for distance data_pdu decoded read_data read_report report_pdu keystream counter_block stream_blocks packet_decoded
older_sdu_output = refl
