-- Single calls of the rules by computing: an anchor, the procedures, a forwarding tunnel, and the refusals that take a whole
-- window to come to.
use Rattle.std.specs.Prelude.{◌≡◌, ◌∷◌, ◌++◌, [], List, ℕ, Bool, true, false, None, codes, replicate}
use Rattle.std.proofs.Common.{refl}
use Rattle.std.specs.Fmt.{digits}
use Rattle.hex.specs.Hex.{encode_with}
use Rattle.dc_base.specs.Count.{sn, window, modulus, count_for, distance}
use Rattle.dc_base.specs.Links.{link}
use Rattle.dc_base.specs.declared.numbers.SnLen.TheVariants.{S12, S18}
use Rattle.dc_base.specs.declared.nodes.Alg.TheVariants.{Nea2}
use Rattle.dc_base.specs.declared.nodes.Node.TheVariants.{T, M, A, B}
use Rattle.dc_base.specs.declared.nodes.Class.TheVariants.{Ctl, Feed, Air, Tun}
use Rattle.dc_base.specs.declared.nodes.Dir.TheVariants.{Ul, Dl}
use Rattle.dc_base.specs.declared.nodes.LegSet.TheVariants.{Mcg, Scg, Split}
use Rattle.dc_base.specs.declared.nodes.Cell.TheVariants as cell
use Rattle.dc_base.specs.declared.nodes.Want.TheVariants as want
use Rattle.dc_base.specs.declared.events.Event.{Event}
use Rattle.dc_base.specs.declared.events.Event.TheVariants as event
use Rattle.nea2.specs.Keystream.{keystream, counter_block, stream_blocks}
use Rattle.pdcp_pdu.specs.DataPdu.{data_pdu}
use Rattle.gtpu.specs.Decoded.{decoded as packet_decoded}
use Rattle.pdcp_pdu.specs.Pdu.{decoded, read_data, read_report}
use Rattle.pdcp_pdu.specs.StatusReport.{report_pdu}
use Rattle.std.specs.Prelude.{Option, Some, Ok, Err}
use Rattle.std.specs.Option.{option_map}
use Rattle.dc_base.specs.declared.answers.Answer.TheVariants as answer
use Rattle.dc_base.specs.declared.answers.Refusal.TheVariants as refusal
use Rattle.dc_base.specs.declared.flights.Flight.TheVariants as flight
use Rattle.dc_base.specs.declared.nodes.Alg.TheVariants.{Nea0}
use Rattle.dc_base.specs.declared.nodes.Side.TheVariants.{Master}
use Rattle.dc_base.specs.declared.records.Item.{Item}
use Rattle.dc_base.specs.declared.records.Item.TheVariants as item
use Rattle.dc_base.specs.declared.records.Plan.{Plan}
use Rattle.dc_base.specs.declared.records.Rec.TheVariants as rec
use Rattle.dc_base.specs.declared.answers.Answer.{Answer}
use Rattle.node_rules.specs.Choices.{Send}
use Rattle.node_rules.specs.Setup.{setup_of}
use Rattle.node_rules.specs.Anchor.{fresh}
use Rattle.node_rules.specs.AnchorSending.{submit, unlock}
use Rattle.node_rules.specs.Freezing.{Tunnel, pieces, closing}
use Rattle.node_rules.specs.MasterState.{MasterProc, new_master_proc, MasterActs}
use Rattle.node_rules.specs.MasterCommands.{master_command}
use Rattle.node_rules.specs.MasterTaking.{master_take}
use Rattle.dc_base.specs.declared.answers.Refusal.{Refusal}
use Rattle.node_rules.specs.Acts.{first_refusal}
use Rattle.node_rules.specs.declared.commands.Row.{Row}
use Rattle.node_rules.specs.Flights.{weight}
use Rattle.node_rules.specs.MasterStep.{submit_refusals}
use Rattle.node_rules.specs.NodeRule.{NodeState, terminal_node}
use Rattle.node_rules.specs.Readers.{is_aged_for}
use Rattle.node_rules.specs.Setup.{Setup}
use Rattle.node_rules.specs.Terminal.{new_terminal}
use Rattle.node_rules.specs.TerminalHalf.{terminal_new}
use Rattle.node_rules.specs.World.{World, new_world}
use Rattle.node_rules.specs.Run.{world_step}
use Rattle.node_rules.proofs.Scripts.{one, drain, shape, plain, two_policies, script_world, shown_acts, proc_after}

-- ---- an anchor

-- the item that gives bearer 1 two legs with duplication
abbrev duplicating : Item
duplicating = item.Set 1 S12 0 (shape false (Split cell.Mcg) true) 0 0 (record { root = 0; side = Master }) None

-- it is fresh at the master, opens, and a payload is submitted: two copies are sent
submitted_on_both : option_map (λ s. (submit two_policies (unlock two_policies (fresh s)).0 (104 ∷ 105 ∷ [])).1.sends) (setup_of M (record { g = 3; sec = Some A; items = duplicating ∷ [] }) Nea0 [] duplicating)
    ≡ Some ((link M T Air, flight.Air 1 3 0 (Some 0) (128 ∷ 0 ∷ 104 ∷ 105 ∷ [])) ∷ (link M A Tun, flight.Tun (Some 0) (52 ∷ 255 ∷ 0 ∷ 16 ∷ 0 ∷ 0 ∷ 1 ∷ 128 ∷ 0 ∷ 0 ∷ 0 ∷ 132 ∷ 2 ∷ 1 ∷ 0 ∷ 0 ∷ 0 ∷ 0 ∷ 0 ∷ 0 ∷ 128 ∷ 0 ∷ 104 ∷ 105 ∷ [])) ∷ [])
unfolding digits encode_with sn window modulus count_for distance data_pdu decoded read_data read_report report_pdu keystream counter_block stream_blocks packet_decoded
submitted_on_both = refl

-- ---- the procedures of the master

-- before the first command
abbrev at_start : MasterProc
at_start = new_master_proc 0 (replicate 32 0)

-- with the addition of a secondary node open
abbrev adding : MasterProc
adding = proc_after at_start (master_command 2 at_start (event.Add A))

-- and with it rejected
abbrev add_rejected : MasterProc
add_rejected = proc_after adding (master_take A adding (rec.Addrej 1))

-- an addition, a second command, a rejection, and the same again
procedure_of_addition : shown_acts (master_command 2 at_start (event.Add A)) ∷ shown_acts (master_command 2 adding (event.Add A))
    ∷ shown_acts (master_take A adding (rec.Addrej 1)) ∷ shown_acts (master_take A add_rejected (rec.Addrej 1)) ∷ []
    ≡ (codes "send a addreq 1 a" ∷ []) ∷ (codes "busy" ∷ []) ∷ (codes "say rejected" ∷ []) ∷ (codes "unexpected" ∷ []) ∷ []
unfolding digits encode_with sn window modulus count_for distance data_pdu decoded read_data read_report report_pdu keystream counter_block stream_blocks packet_decoded
procedure_of_addition = refl

-- ---- a forwarding tunnel

-- from the master to a secondary node, for the change of generation 3
abbrev forwarding : Tunnel
forwarding = record { node = M; target = A; g = 3; id = 1; n = S12; next = 0 }

-- an SDU with a sequence number, one without, the number of both, and the End Marker
forwarded_packets : pieces forwarding 385 0 ((Some 0, 170 ∷ []) ∷ (None, 187 ∷ []) ∷ []) ++ closing forwarding 385 2
    ≡ (link M A Tun, flight.Tun None (52 ∷ 255 ∷ 0 ∷ 17 ∷ 0 ∷ 0 ∷ 1 ∷ 129 ∷ 0 ∷ 0 ∷ 0 ∷ 132 ∷ 2 ∷ 1 ∷ 0 ∷ 0 ∷ 0 ∷ 0 ∷ 0 ∷ 192 ∷ 1 ∷ 0 ∷ 0 ∷ 0 ∷ 170 ∷ [])) ∷ (link M A Tun, flight.Tun None (52 ∷ 255 ∷ 0 ∷ 13 ∷ 0 ∷ 0 ∷ 1 ∷ 129 ∷ 0 ∷ 0 ∷ 0 ∷ 132 ∷ 2 ∷ 1 ∷ 0 ∷ 0 ∷ 1 ∷ 0 ∷ 0 ∷ 0 ∷ 187 ∷ [])) ∷ (link M A Tun, flight.Tun None (52 ∷ 255 ∷ 0 ∷ 12 ∷ 0 ∷ 0 ∷ 1 ∷ 129 ∷ 0 ∷ 0 ∷ 0 ∷ 132 ∷ 2 ∷ 0 ∷ 0 ∷ 0 ∷ 2 ∷ 0 ∷ 0 ∷ 0 ∷ [])) ∷ (link M A Tun, flight.Tun None (48 ∷ 254 ∷ 0 ∷ 0 ∷ 0 ∷ 0 ∷ 1 ∷ 129 ∷ [])) ∷ []
unfolding digits encode_with sn window modulus count_for distance data_pdu decoded read_data read_report report_pdu keystream counter_block stream_blocks packet_decoded
forwarded_packets = refl

-- ---- refusals at the edge of a window

-- a terminal that has bearer 1 in generation 3, with RX_DELIV there
abbrev with_deliv : ℕ → Setup → NodeState
with_deliv count s = terminal_node (record (new_terminal Nea0) { halves = (1, record (terminal_new s) { rx = record (terminal_new s).rx { deliv = count } }) ∷ [] })

-- whether the PDU of COUNT 0 is aged for it
abbrev is_aged_at : ℕ → Option Bool
is_aged_at count = option_map (λ s. is_aged_for (with_deliv count s) (weight (flight.Air 1 3 0 (Some 0) (128 ∷ 0 ∷ 104 ∷ 105 ∷ []))))
    (setup_of T (record { g = 3; sec = Some A; items = duplicating ∷ [] }) Nea0 [] duplicating)

-- it is once it lies more than a window behind
aged_by_one : is_aged_at 2048 ∷ is_aged_at 2049 ∷ [] ≡ Some false ∷ Some true ∷ []
unfolding digits encode_with sn window modulus count_for distance data_pdu decoded read_data read_report report_pdu keystream counter_block stream_blocks packet_decoded
aged_by_one = refl

-- a bearer of the table that begins with this COUNT
abbrev beginning_at : ℕ → Row
beginning_at first = record { id = 1; est = 1; n = S12; first = first; shape = shape false Mcg false; threshold = 0; policy = 0; key = record { root = 0; side = Master }; anchor = M; g = 1 }

-- why a submission is refused, after so many with Low told there
abbrev refusal_after : ℕ → ℕ → ℕ → Option Refusal
refusal_after first accepted told = first_refusal (submit_refusals (beginning_at first) (record { accepted = accepted; told = told }))

-- a window of submissions and no more; the last COUNT is not used
full_by_one : refusal_after 0 2047 0 ∷ refusal_after 0 2048 0 ∷ refusal_after 0 2048 1 ∷ refusal_after 4294967294 0 4294967294 ∷ refusal_after 4294967294 1 4294967294 ∷ []
    ≡ None ∷ Some refusal.Full ∷ None ∷ None ∷ Some refusal.Exhausted ∷ []
unfolding digits encode_with sn window modulus count_for distance data_pdu decoded read_data read_report report_pdu keystream counter_block stream_blocks packet_decoded
full_by_one = refl

-- the answer to an event
abbrev answer_to : World → Event → Answer
answer_to w e = (world_step two_policies w e).1.answer

-- two SDUs on the core's line to a secondary anchor
abbrev with_two_sdus : World
with_two_sdus = script_world (plain 0 (replicate 32 0)) (
    one (event.Add A)
    ∷ drain
    ∷ one (event.Bearer 1 S12 0 (shape true Scg false) 0 0)
    ∷ drain
    ∷ one (event.Submit 1 Dl (170 ∷ []))
    ∷ one (event.Submit 1 Dl (187 ∷ []))
    ∷ []
    )

-- on a link that keeps its order only the first flight is given
only_the_first : answer_to with_two_sdus (event.Step (link M A Feed) 0) ∷ answer_to with_two_sdus (event.Step (link M A Feed) 1) ∷ answer_to with_two_sdus (event.Step (link M A Feed) 2) ∷ []
    ≡ answer.Ok ∷ answer.No refusal.NotFirst ∷ answer.No refusal.NoFlight ∷ []
unfolding digits encode_with sn window modulus count_for distance data_pdu decoded read_data read_report report_pdu keystream counter_block stream_blocks packet_decoded
only_the_first = refl
