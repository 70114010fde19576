-- Moves, releases and keys.
use Rattle.std.specs.Prelude.{◌≡◌, ◌∷◌, ◌++◌, [], List, ℕ, Bool, true, false, None, codes, replicate}
use Rattle.std.proofs.Common.{refl}
use Rattle.std.specs.Fmt.{digits}
use Rattle.hex.specs.Hex.{encode_with}
use Rattle.dc_base.specs.Count.{sn, window, modulus, count_for, distance}
use Rattle.dc_base.specs.Links.{link}
use Rattle.dc_base.specs.declared.numbers.SnLen.TheVariants.{S12, S18}
use Rattle.dc_base.specs.declared.nodes.Alg.TheVariants.{Nea2}
use Rattle.dc_base.specs.declared.nodes.Node.TheVariants.{T, M, A, B}
use Rattle.dc_base.specs.declared.nodes.Class.TheVariants.{Ctl, Feed, Air, Tun}
use Rattle.dc_base.specs.declared.nodes.Dir.TheVariants.{Ul, Dl}
use Rattle.dc_base.specs.declared.nodes.LegSet.TheVariants.{Mcg, Scg, Split}
use Rattle.dc_base.specs.declared.nodes.Cell.TheVariants as cell
use Rattle.dc_base.specs.declared.nodes.Want.TheVariants as want
use Rattle.dc_base.specs.declared.events.Event.TheVariants as event
use Rattle.nea2.specs.Keystream.{keystream, counter_block, stream_blocks}
use Rattle.pdcp_pdu.specs.DataPdu.{data_pdu}
use Rattle.gtpu.specs.Decoded.{decoded as packet_decoded}
use Rattle.pdcp_pdu.specs.Pdu.{decoded, read_data, read_report}
use Rattle.pdcp_pdu.specs.StatusReport.{report_pdu}
use Rattle.node_rules.proofs.Scripts.{Scripted, one, drain, output, stand_in, first_difference, shape, plain}

-- the anchor moves to the secondary node, with what is not confirmed
abbrev moved : List Scripted
moved =
    one (event.Bearer 1 S12 0 (shape false Mcg false) 0 0)
    ∷ drain
    ∷ one (event.Add A)
    ∷ drain
    ∷ one (event.Submit 1 Dl (170 ∷ []))
    ∷ one (event.Submit 1 Dl (187 ∷ []))
    ∷ one (event.Submit 1 Ul (204 ∷ []))
    ∷ one (event.Submit 1 Ul (221 ∷ []))
    ∷ one (event.Step (link T M Air) 1)
    ∷ one (event.Reshape 1 (shape true Scg false))
    ∷ drain
    ∷ []

moved_output : stand_in (
    codes "- send ma.ctl modreq 3 a 1/12/0/ss/0/0/s0.0/m"
    ∷ codes "- give m 1 3"
    ∷ codes "- send ma.ctl snst 3 1 0 80 2"
    ∷ codes "- send ma.tun gtp - 34ff0011000001810000008402010000000000c001000000aa"
    ∷ codes "- set 1 3"
    ∷ codes "- send ta.air pdu 1 3 0 0 8000cc"
    ∷ codes "- send ta.air pdu 1 3 1 1 8001dd"
    ∷ codes "- own a 1 3"
    ∷ codes "- up a 1 ul 0 cc"
    ∷ codes "- up a 1 ul 1 dd"
    ∷ codes "- send am.ctl moved 3 1"
    ∷ codes "- send at.air pdu 1 3 0 0 8000aa"
    ∷ codes "- done"
    ∷ codes "- up t 1 dl 0 aa"
    ∷ codes "- up t 1 dl 1 bb"
    ∷ codes "- freed 1 dl 1"
    ∷ codes "- freed 1 dl 2"
    ∷ []) (output (plain 0 (replicate 32 0)) moved) ≡ true
unfolding digits encode_with sn window modulus count_for distance data_pdu decoded read_data read_report report_pdu keystream counter_block stream_blocks packet_decoded
moved_output = refl

-- a forwarded packet is lost: the command does not end
abbrev not_adopted : List Scripted
not_adopted =
    one (event.Bearer 1 S12 0 (shape false Mcg false) 0 0)
    ∷ drain
    ∷ one (event.Add A)
    ∷ drain
    ∷ one (event.Submit 1 Dl (170 ∷ []))
    ∷ one (event.Submit 1 Dl (187 ∷ []))
    ∷ one (event.Submit 1 Ul (204 ∷ []))
    ∷ one (event.Submit 1 Ul (221 ∷ []))
    ∷ one (event.Step (link T M Air) 1)
    ∷ one (event.Reshape 1 (shape true Scg false))
    ∷ one (event.Step (link M A Ctl) 0)
    ∷ one (event.Step (link A M Ctl) 0)
    ∷ one (event.Lose (link M A Tun) 1)
    ∷ drain
    ∷ one (event.Recover 1)
    ∷ []

not_adopted_output : stand_in (
    codes "> lose ma.tun 1"
    ∷ codes "= ok"
    ∷ codes "> recover 1"
    ∷ codes "= no busy"
    ∷ []) (output (plain 0 (replicate 32 0)) not_adopted) ≡ true
unfolding digits encode_with sn window modulus count_for distance data_pdu decoded read_data read_report report_pdu keystream counter_block stream_blocks packet_decoded
not_adopted_output = refl

-- an identity is not set up again under the same key
abbrev spent : List Scripted
spent =
    one (event.Bearer 1 S12 0 (shape false Mcg false) 0 0)
    ∷ drain
    ∷ one (event.Remove 1)
    ∷ drain
    ∷ one (event.Bearer 1 S12 0 (shape false Mcg false) 0 0)
    ∷ one (event.RekeyMaster (replicate 32 17))
    ∷ drain
    ∷ one (event.Bearer 1 S12 0 (shape false Mcg false) 0 0)
    ∷ drain
    ∷ one (event.RekeyMaster (replicate 32 0))
    ∷ []

spent_output : stand_in (
    codes "> bearer 1 12 0 mm 0 0"
    ∷ codes "= no idspent"
    ∷ codes "- send mt.ctl reconf 4 - 1/12/0/mm/0/0/m1/-"
    ∷ codes "> rekey m 0000000000000000000000000000000000000000000000000000000000000000"
    ∷ codes "= no rootused"
    ∷ []) (output (plain 0 (replicate 32 0)) spent) ≡ true
unfolding digits encode_with sn window modulus count_for distance data_pdu decoded read_data read_report report_pdu keystream counter_block stream_blocks packet_decoded
spent_output = refl

-- the last SN Counter of a root is drawn; a new root has its own
abbrev counters : List Scripted
counters =
    one (event.Add A)
    ∷ drain
    ∷ one event.RekeySecond
    ∷ one (event.RekeyMaster (replicate 32 17))
    ∷ drain
    ∷ one (event.Bearer 1 S12 0 (shape true Scg false) 0 0)
    ∷ []

counters_output : stand_in (
    codes "> rekey s"
    ∷ codes "= no counterspent"
    ∷ codes "- send ma.ctl modreq 3 a 1/12/0/ss/0/0/s1.0/-"
    ∷ []) (output (plain 65535 (replicate 32 0)) counters) ≡ true
unfolding digits encode_with sn window modulus count_for distance data_pdu decoded read_data read_report report_pdu keystream counter_block stream_blocks packet_decoded
counters_output = refl

-- no SN Counter is left
abbrev no_counter : List Scripted
no_counter =
    one (event.Add A)
    ∷ []

no_counter_output : stand_in (
    codes "> add a"
    ∷ codes "= no counterspent"
    ∷ []) (output (plain 65536 (replicate 32 0)) no_counter) ≡ true
unfolding digits encode_with sn window modulus count_for distance data_pdu decoded read_data read_report report_pdu keystream counter_block stream_blocks packet_decoded
no_counter_output = refl

-- a node rejects its addition; later it asks for a new key
abbrev denied : List Scripted
denied =
    one (event.Deny A true)
    ∷ one (event.Add A)
    ∷ drain
    ∷ one (event.Deny A false)
    ∷ one (event.Add A)
    ∷ drain
    ∷ one (event.Ask A want.Rekey)
    ∷ drain
    ∷ []

denied_output : stand_in (
    codes "- send am.ctl addrej 1"
    ∷ codes "- rejected"
    ∷ codes "- join a 2"
    ∷ codes "- done"
    ∷ codes "- send am.ctl modrqd"
    ∷ codes "- begin rekey"
    ∷ codes "- send ma.ctl modreq 3 a"
    ∷ codes "- send ma.ctl modcnf 3"
    ∷ codes "- done"
    ∷ codes "- confirmed a"
    ∷ []) (output (plain 0 (replicate 32 0)) denied) ≡ true
unfolding digits encode_with sn window modulus count_for distance data_pdu decoded read_data read_report report_pdu keystream counter_block stream_blocks packet_decoded
denied_output = refl

-- a release of the secondary node
abbrev released : List Scripted
released =
    one (event.Bearer 1 S12 0 (shape false Mcg false) 0 0)
    ∷ drain
    ∷ one (event.Add A)
    ∷ drain
    ∷ one (event.Reshape 1 (shape false (Split cell.Mcg) false))
    ∷ drain
    ∷ one event.Release
    ∷ drain
    ∷ []

released_output : stand_in (
    codes "> release"
    ∷ codes "- send ma.ctl relreq 4 - 1/12/0/mm/0/0/m0/m"
    ∷ codes "- leave a 4"
    ∷ codes "- send am.ctl relack 4"
    ∷ codes "- own m 1 4"
    ∷ codes "- send mt.ctl reconf 4 - 1/12/0/mm/0/0/m0/m"
    ∷ codes "- set 1 4"
    ∷ codes "- send tm.ctl rcomp 4"
    ∷ codes "- send ma.ctl uecr 4"
    ∷ codes "- done"
    ∷ []) (output (plain 0 (replicate 32 0)) released) ≡ true
unfolding digits encode_with sn window modulus count_for distance data_pdu decoded read_data read_report report_pdu keystream counter_block stream_blocks packet_decoded
released_output = refl

-- a new K_SN
abbrev rekeyed : List Scripted
rekeyed =
    one (event.Add A)
    ∷ drain
    ∷ one (event.Bearer 1 S12 0 (shape true Scg false) 0 0)
    ∷ drain
    ∷ one event.RekeySecond
    ∷ drain
    ∷ []

rekeyed_output : stand_in (
    codes "> rekey s"
    ∷ codes "- send ma.ctl modreq 3 a 1/12/0/ss/0/0/s0.1/a"
    ∷ codes "- own a 1 3"
    ∷ codes "- send am.ctl modack 3"
    ∷ codes "- send mt.ctl reconf 3 a 1/12/0/ss/0/0/s0.1/a"
    ∷ codes "- set 1 3"
    ∷ codes "- send tm.ctl rcomp 3"
    ∷ codes "- send ma.ctl recfg 3"
    ∷ codes "- done"
    ∷ []) (output (plain 0 (replicate 32 0)) rekeyed) ≡ true
unfolding digits encode_with sn window modulus count_for distance data_pdu decoded read_data read_report report_pdu keystream counter_block stream_blocks packet_decoded
rekeyed_output = refl

-- a change of the secondary node
abbrev changed : List Scripted
changed =
    one (event.Bearer 1 S12 0 (shape false Mcg false) 0 0)
    ∷ drain
    ∷ one (event.Add A)
    ∷ drain
    ∷ one (event.Reshape 1 (shape true Scg false))
    ∷ drain
    ∷ one event.Change
    ∷ drain
    ∷ []

changed_output : stand_in (
    codes "> change"
    ∷ codes "- send mb.ctl addreq 4 b 1/12/0/ss/0/0/s0.1/a"
    ∷ codes "- join b 4"
    ∷ codes "- send bm.ctl addack 4"
    ∷ codes "- send mt.ctl reconf 4 b 1/12/0/ss/0/0/s0.1/a"
    ∷ codes "- send ma.ctl relreq 4 b 1/12/0/ss/0/0/s0.1/a"
    ∷ codes "- send ma.feed end 1 4"
    ∷ codes "- leave a 4"
    ∷ codes "- give a 1 4"
    ∷ codes "- send am.ctl relack 4"
    ∷ codes "- send am.ctl snst 4 1 0 - 0"
    ∷ codes "- send ab.tun gtp - 34ff000c00000202000000840200000000000000"
    ∷ codes "- send ab.tun gtp - 30fe000000000202"
    ∷ codes "- own b 1 4"
    ∷ codes "- send bm.ctl moved 4 1"
    ∷ codes "- send ma.ctl uecr 4"
    ∷ codes "- done"
    ∷ []) (output (plain 0 (replicate 32 0)) changed) ≡ true
unfolding digits encode_with sn window modulus count_for distance data_pdu decoded read_data read_report report_pdu keystream counter_block stream_blocks packet_decoded
changed_output = refl
