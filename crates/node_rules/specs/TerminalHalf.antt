-- What the terminal holds of a bearer, and what it does with it: the PDCP entity over the legs (TS 38.323, 4.2.2 and 5).
use Rattle.std.specs.Prelude.{ℕ, ◌&&◌, not, if◌then◌else◌, Bool, List, [], ◌∷◌, Option, Some, None, Result, Ok, Err}
use Rattle.std.specs.List.{flat_map}
use Rattle.dc_base.specs.declared.answers.Answer.{Answer}
use Rattle.dc_base.specs.declared.answers.Answer.TheVariants as answer
use Rattle.dc_base.specs.declared.answers.Refusal.TheVariants as refusal
use Rattle.dc_base.specs.declared.flights.Flight.{Flight}
use Rattle.dc_base.specs.declared.flights.Flight.TheVariants as flight
use Rattle.dc_base.specs.declared.nodes.Cell.{Cell}
use Rattle.dc_base.specs.declared.nodes.Cell.TheVariants.{Scg}
use Rattle.dc_base.specs.declared.nodes.Class.TheVariants.{Air}
use Rattle.dc_base.specs.declared.nodes.Node.{Node}
use Rattle.dc_base.specs.declared.nodes.Node.TheVariants.{T}
use Rattle.pdcp_pdu.specs.Pdu.{Content, decoded}
use Rattle.pdcp_pdu.specs.declared.pdu.PduErr.{PduErr}
use Rattle.pdcp_tx.specs.Sender.{Sender}
use Rattle.pdcp_tx.specs.Sending.{take_sdu}
use Rattle.pdcp_tx.specs.declared.tx.TxErr.{TxErr}
use Rattle.pdcp_tx.specs.declared.tx.TxErr.TheVariants as unable
use Rattle.split_leg.specs.Legs.{leg_at, with_ack, with_leg}
use Rattle.dc_base.specs.Links.{link}
use Rattle.node_rules.specs.Choices.{Choices, Send}
use Rattle.node_rules.specs.Entity.{Entity, new_entity, renewed, risen_low, take_pdu}
use Rattle.node_rules.specs.declared.bearers.OnLeg.{OnLeg}
use Rattle.node_rules.specs.Sending.{send_counts, send_kept, send_report}
use Rattle.node_rules.specs.Setup.{Setup, cell_of, has_cell, has_failed, has_leg_at, is_of, node_of, with_failed_scg}
use Rattle.node_rules.specs.declared.bearers.HalfOut.{HalfOut}

-- the terminal's half of a bearer is its PDCP entity (TS 38.323, 4.2.2)
abbrev pub TerminalHalf : Type 0
TerminalHalf = Entity

-- only sends come of it (this product's own)
abbrev pub sending : List Send → HalfOut
sending sends = record { ups = []; low = None; sends = sends }

-- nothing comes of it (this product's own)
abbrev pub silent : HalfOut
silent = sending []

-- ---- how PDUs leave the terminal

-- a PDU goes over the air to the node of its leg (TS 38.323, 5.2.1)
abbrev pub leg_send : Setup → OnLeg → Option Node → List Send
leg_send s p None = []
leg_send s p (Some node) = (link T node Air, flight.Air s.id s.g p.num p.pdu.0 p.pdu.1) ∷ []

-- the half, with what its entity put on the legs as sends (part of the rule terminal_submit)
abbrev pub with_sends : Entity × List OnLeg → TerminalHalf × List Send
with_sends done = (done.0, flat_map (λ p. leg_send done.0.setup p (node_of done.0.setup.sec p.cell)) done.1)

-- ---- events and records

-- a submission that was numbered is sent; one for which there is no room, or no COUNT, is refused
-- (part of the rule terminal_submit)
abbrev pub submit_as : Choices → TerminalHalf → Result (Sender × ℕ) TxErr → TerminalHalf × Answer × List Send
submit_as c h (Ok (tx, count)) =
    let done = with_sends (send_counts c (record h { tx = tx }) (count ∷ [])) in (done.0, answer.Ok, done.1)
submit_as c h (Err (unable.Full lowest next)) = (h, answer.No refusal.Full, [])
submit_as c h (Err unable.Exhausted) = (h, answer.No refusal.Exhausted, [])
submit_as c h (Err unable.Memory) = (h, answer.No refusal.Full, [])

-- an SDU is submitted (TS 38.323, 5.2.1)
abbrev pub terminal_submit : Choices → TerminalHalf → List ℕ → TerminalHalf × Answer × List Send
terminal_submit c h sdu = submit_as c h (take_sdu h.tx sdu)

-- all that is kept is sent again (TS 38.323, 5.4.1 and 5.5)
abbrev pub terminal_recover : Choices → TerminalHalf → TerminalHalf × List Send
terminal_recover c h = with_sends (send_kept c h)

-- a new bearer (TS 38.331, 5.3.5.6.5)
abbrev pub terminal_new : Setup → TerminalHalf
terminal_new s = new_entity s

-- the bearer in a new generation: new legs and a new key, and all that is kept is sent again
-- (TS 38.331, 5.3.5.6.5; TS 38.323, 5.1.2 and 5.5)
abbrev pub terminal_renew : Choices → TerminalHalf → Setup → TerminalHalf × List Send
terminal_renew c h s = terminal_recover c (renewed h s)

-- the bearer has an SCG leg that did not fail yet (TS 37.340, 7.7)
abbrev pub has_live_scg : TerminalHalf → Bool
has_live_scg h = has_cell h.setup Scg && not (has_failed h.setup Scg)

-- the SCG fails (TS 37.340, 7.7): the SCG leg, if there is one, is marked
abbrev pub terminal_fail : TerminalHalf → TerminalHalf
terminal_fail h = if has_cell h.setup Scg then record h { setup = with_failed_scg h.setup } else h

-- a status report is asked for (TS 38.323, 5.4.1)
abbrev pub terminal_report : Choices → TerminalHalf → TerminalHalf × List Send
terminal_report c h = with_sends (send_report c h)

-- ---- over the air

-- the confirm of a downlink PDU, to the node that sent it (the confirm is this product's own)
abbrev pub ack : Setup → Node → ℕ → List Send
ack s from num = (link T from Air, flight.Ack s.id s.g num) ∷ []

-- the half after a step of its entity (part of the rule pdu_came)
abbrev pub stepped : TerminalHalf → List Send → Entity × List (ℕ × List ℕ) → TerminalHalf × HalfOut
stepped h sends done = (done.0, record { ups = done.1; low = risen_low h done.0; sends = sends })

-- a PDU comes as this number of the leg of a node; one that can not be read has no confirm
-- (TS 38.323, 5.2.2; the confirm is this product's own)
abbrev pub pdu_came : TerminalHalf → Node → ℕ → Result Content PduErr → TerminalHalf × HalfOut
pdu_came h from num (Err e) = (h, silent)
pdu_came h from num (Ok x) = stepped h (ack h.setup from num) (take_pdu h x)

-- the confirm of an uplink PDU comes: its octets are outstanding no more, and nothing is confirmed
-- (the confirm is this product's own)
abbrev pub acked : TerminalHalf → Cell → ℕ → TerminalHalf
acked h cell num =
    record h { setup = record h.setup { legs = with_leg h.setup.legs cell (with_ack (leg_at h.setup.legs cell) num) } }

-- whether the terminal takes what comes from a node: of the bearer, the generation, a leg that it has there and that did
-- not fail (part of the rule terminal_air_in)
abbrev pub is_taken : Setup → Node → ℕ → ℕ → Bool
is_taken s from id g = is_of s id g && has_leg_at s from && not (has_failed s (cell_of from))

-- a flight comes over the air from a node; only PDUs and their confirms do (TS 38.323, 5.2.2)
abbrev pub terminal_air_in : TerminalHalf → Node → Flight → TerminalHalf × HalfOut
terminal_air_in h from (flight.Air id g num tag pdu) =
    if is_taken h.setup from id g then pdu_came h from num (decoded h.setup.n pdu) else (h, silent)
terminal_air_in h from (flight.Ack id g num) = if is_taken h.setup from id g then (acked h (cell_of from) num, silent) else (h, silent)
terminal_air_in h from (flight.Tun tag packet) = (h, silent)
terminal_air_in h from (flight.Sdu id g sdu) = (h, silent)
terminal_air_in h from (flight.End id g) = (h, silent)
terminal_air_in h from (flight.Told id g count) = (h, silent)
terminal_air_in h from (flight.Ctl rec) = (h, silent)
