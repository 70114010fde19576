-- A PDU that stayed on a link while its receiver went on by a window: it is aged, and one before it is not (this product's own).
use Rattle.std.specs.Prelude.{◌≡◌, ◌∷◌, ◌++◌, ◌+◌, ℕ, [], Bool, List, None, Some, true, false, codes, if◌then◌else◌, length, map, replicate}
use Rattle.std.proofs.Common.{refl}
use Rattle.std.specs.Fmt.{digits}
use Rattle.std.specs.List.{flat_map, range_with_len}
use Rattle.std.specs.Option.{unwrap_or}
use Rattle.hex.specs.Hex.{encode_with}
use Rattle.dc_base.specs.Count.{count_for, distance, modulus, sn, window}
use Rattle.dc_base.specs.Links.{link}
use Rattle.dc_base.specs.declared.events.Event.TheVariants as event
use Rattle.dc_base.specs.declared.events.Line.TheVariants as line
use Rattle.dc_base.specs.declared.flights.Flight.TheVariants as flight
use Rattle.dc_base.specs.declared.nodes.Cell.TheVariants as cell
use Rattle.dc_base.specs.declared.nodes.Class.TheVariants.{Air, Tun}
use Rattle.dc_base.specs.declared.nodes.Dir.TheVariants.{Dl}
use Rattle.dc_base.specs.declared.nodes.LegSet.TheVariants.{Mcg, Split}
use Rattle.dc_base.specs.declared.nodes.Node.TheVariants.{A, M, T}
use Rattle.dc_base.specs.declared.numbers.SnLen.TheVariants.{S12}
use Rattle.gtpu.specs.Decoded.{decoded as packet_decoded}
use Rattle.nea2.specs.Keystream.{counter_block, keystream, stream_blocks}
use Rattle.pdcp_pdu.specs.DataPdu.{data_pdu}
use Rattle.pdcp_pdu.specs.Pdu.{decoded, read_data, read_report}
use Rattle.pdcp_pdu.specs.StatusReport.{report_pdu}
use Rattle.split_leg.specs.Legs.{LegState}
use Rattle.split_leg.specs.declared.leg.Pdu.{Pdu}
use Rattle.transcript.specs.Text.{line_text, mark}
use Rattle.transcript.specs.Transcript.{entry_lines}
use Rattle.node_rules.specs.Anchor.{AnchorState, active_anchor, waiting_anchor}
use Rattle.node_rules.specs.Choices.{Choices}
use Rattle.node_rules.specs.Packets.{down_packet}
use Rattle.node_rules.specs.Run.{world_step}
use Rattle.node_rules.specs.TerminalHalf.{TerminalHalf}
use Rattle.node_rules.specs.World.{World, flights_on, new_world, with_flights}
use Rattle.node_rules.specs.declared.bearers.Window.{Window}
use Rattle.node_rules.proofs.Scripts.{Scripted, drain, drained, first_difference, one, plain, script_run, shape, two_policies}

-- the PDU of COUNT 0 on both legs: one came and was confirmed, the other stands on its link
abbrev left_behind : List Scripted
left_behind =
    one (event.Bearer 1 S12 0 (shape false Mcg false) 0 0)
    ∷ drain
    ∷ one (event.Add A)
    ∷ drain
    ∷ one (event.Reshape 1 (shape false (Split cell.Mcg) true))
    ∷ drain
    ∷ one (event.Submit 1 Dl (104 ∷ 105 ∷ []))
    ∷ one (event.Step (link M T Air) 0)
    ∷ one (event.Step (link M A Tun) 0)
    ∷ one (event.Step (link T M Air) 0)
    ∷ []

-- one more PDU: it comes, and is confirmed
abbrev one_more : List Scripted
one_more = one (event.Submit 1 Dl (0 ∷ [])) ∷ one (event.Step (link M T Air) 0) ∷ one (event.Step (link T M Air) 0) ∷ []

-- the step of the PDU that was left behind
abbrev at_last : Scripted
at_last = one (event.Step (link A T Air) 0)

-- what is made of the world after a script
abbrev world_then : Choices → World → List Scripted → (World → List (List ℕ)) → List (List ℕ)
world_then c w [] f = f w
world_then c w (one e ∷ ss) f = let x = world_step c w e in world_then c x.0 ss f
world_then c w (drain ∷ ss) f = let x = drained c 1000 w in world_then c x.0 ss f

abbrev from_start : List Scripted → (World → List (List ℕ)) → List (List ℕ)
from_start ss f = world_then two_policies (new_world (plain 0 (replicate 32 0))) ss f

-- the lines of a script that is run from a world
abbrev lines_from : List Scripted → World → List (List ℕ)
lines_from ss w = map (λ l. mark l ++ line_text l) (flat_map entry_lines (script_run two_policies w ss))

-- ---- the same after many more

-- of the PDU of this COUNT: 2 octets of its own beside the payload; the ack of the one on the first leg came
abbrev on_first : ℕ → Pdu
on_first k = record { count = Some k; octets = 3; repeat = false; acked = true; settled = false }

abbrev on_second : ℕ → Pdu
on_second k = record { count = Some k; octets = 3; repeat = false; acked = false; settled = true }

-- a leg after so many more
abbrev leg_after : ℕ → (ℕ → Pdu) → LegState → LegState
leg_after n pdu leg = record leg { pdus = leg.pdus ++ map pdu (range_with_len 1 n); before = n }

-- what the anchor has then
abbrev anchor_after : ℕ → AnchorState → AnchorState
anchor_after n (waiting_anchor w) = waiting_anchor w
anchor_after n (active_anchor a) = active_anchor (record a {
  entity = record a.entity {
    tx = record a.entity.tx { next = n + 1 };
    setup = record a.entity.setup {
      legs = record a.entity.setup.legs {
        mcg = leg_after n on_first a.entity.setup.legs.mcg;
        scg = leg_after n on_second a.entity.setup.legs.scg;
      };
    };
  };
  tunnel = record a.tunnel {
    next = n + 1;
    waiting = a.tunnel.waiting ++ map (λ k. (k, k)) (range_with_len 1 n);
    unasked = a.tunnel.unasked ++ map (λ k. (k, k)) (range_with_len 1 n);
  };
})

-- the world after so many more PDUs came and were confirmed over the first leg; in the tunnel their copies stand
abbrev after_more : ℕ → World → World
after_more n w = record w {
  terminal = record w.terminal { halves = map (λ (x : ℕ × TerminalHalf). (x.0, record x.1 { rx = record x.1.rx { deliv = n + 1 } })) w.terminal.halves };
  master = record w.master {
    anchors = map (λ (x : ℕ × AnchorState). (x.0, anchor_after n x.1)) w.master.anchors;
    windows = map (λ (x : ℕ × Window). (x.0, record { accepted = n + 1; told = n + 1 })) w.master.windows;
  };
  links = with_flights (link M A Tun) (map (λ k. flight.Tun (Some k) (down_packet 3 1 k false (data_pdu S12 k (0 ∷ [])))) (range_with_len 1 n)) w.links;
}

-- ---- that it is the one of the rules, for a few

abbrev bit : Bool → ℕ
bit b = if b then 1 else 0

-- a PDU on a leg, and a leg, in numbers
abbrev of_pdu : Pdu → List ℕ
of_pdu p = unwrap_or p.count 0 ∷ p.octets ∷ bit p.repeat ∷ bit p.acked ∷ bit p.settled ∷ []

abbrev of_leg : LegState → List ℕ
of_leg leg = leg.before ∷ bit leg.failed ∷ length leg.pdus ∷ flat_map of_pdu leg.pdus

-- what after_more changes of an anchor
abbrev of_anchor : AnchorState → List ℕ
of_anchor (waiting_anchor w) = []
of_anchor (active_anchor a) =
    a.entity.tx.next ∷ length a.entity.tx.kept ∷ (of_leg a.entity.setup.legs.mcg ++ of_leg a.entity.setup.legs.scg)
    ++ a.tunnel.next ∷ (map (λ (x : ℕ × ℕ). x.0) a.tunnel.waiting ++ map (λ (x : ℕ × ℕ). x.1) a.tunnel.waiting)
    ++ map (λ (x : ℕ × ℕ). x.0) a.tunnel.unasked ++ map (λ (x : ℕ × ℕ). x.1) a.tunnel.unasked ++ a.tunnel.confirmed

-- of a world: the terminal's RX_DELIV, the master's anchors and windows, and what stands in the tunnel to the secondary node
abbrev figures : World → List (List ℕ)
figures w =
    map (λ (x : ℕ × TerminalHalf). x.1.rx.deliv) w.terminal.halves
    ∷ flat_map (λ (x : ℕ × AnchorState). of_anchor x.1) w.master.anchors
    ∷ flat_map (λ (x : ℕ × Window). x.1.accepted ∷ x.1.told ∷ []) w.master.windows
    ∷ map (λ f. line_text (line.Send (link M A Tun) f)) (flights_on (link M A Tun) w.links)

-- after three more it is so
after_three_more : first_difference 0 (from_start (left_behind ++ one_more ++ one_more ++ one_more) figures)
    (from_start left_behind (λ w. let v = after_more 3 w in figures v)) ≡ None
unfolding digits encode_with sn window modulus count_for distance data_pdu decoded read_data read_report report_pdu keystream counter_block stream_blocks packet_decoded
after_three_more = refl

-- ---- at the edge of the window

-- after so many more, the lines of one more, and of the step of the PDU that was left behind
abbrev at_last_after : ℕ → List (List ℕ)
at_last_after n = from_start left_behind (λ w. let v = after_more n w in lines_from (one_more ++ at_last ∷ []) v)

-- 2,048 more came, the last of them here: RX_DELIV is 2,049, and the PDU of COUNT 0 is more than a window behind it
aged_by_one : first_difference 0 (at_last_after 2047) (
    codes "> dl 1 00"
    ∷ codes "= ok"
    ∷ codes "- send mt.air pdu 1 3 2048 2048 880000"
    ∷ codes "- send ma.tun gtp 2048 34ff000f00000180000000840201000800000000880000"
    ∷ codes "> step mt.air 0"
    ∷ codes "= ok"
    ∷ codes "- up t 1 dl 2048 00"
    ∷ codes "- send tm.air ack 1 3 2048"
    ∷ codes "> step tm.air 0"
    ∷ codes "= ok"
    ∷ codes "- freed 1 dl 2049"
    ∷ codes "> step at.air 0"
    ∷ codes "= no aged"
    ∷ []) ≡ None
unfolding digits encode_with sn window modulus count_for distance data_pdu decoded read_data read_report report_pdu keystream counter_block stream_blocks packet_decoded
aged_by_one = refl

-- 2,047 more came, the last of them here: it is taken, and confirmed alone
not_yet_aged : first_difference 0 (at_last_after 2046) (
    codes "> dl 1 00"
    ∷ codes "= ok"
    ∷ codes "- send mt.air pdu 1 3 2047 2047 87ff00"
    ∷ codes "- send ma.tun gtp 2047 34ff000f000001800000008402010007ff00000087ff00"
    ∷ codes "> step mt.air 0"
    ∷ codes "= ok"
    ∷ codes "- up t 1 dl 2047 00"
    ∷ codes "- send tm.air ack 1 3 2047"
    ∷ codes "> step tm.air 0"
    ∷ codes "= ok"
    ∷ codes "- freed 1 dl 2048"
    ∷ codes "> step at.air 0"
    ∷ codes "= ok"
    ∷ codes "- send ta.air ack 1 3 0"
    ∷ []) ≡ None
unfolding digits encode_with sn window modulus count_for distance data_pdu decoded read_data read_report report_pdu keystream counter_block stream_blocks packet_decoded
not_yet_aged = refl
