-- How a PDCP entity puts PDUs on its legs (TS 38.323, 5.2.1 and 5.11.1).
use Rattle.std.specs.Prelude.{ℕ, Bool, List, [], ◌∷◌, ◌++◌, length, Option, Some, None, is_some}
use Rattle.std.specs.List.{filter_map}
use Rattle.std.specs.Option.{option_map}
use Rattle.dc_base.specs.declared.nodes.Cell.{Cell}
use Rattle.dc_base.specs.declared.nodes.Cell.TheVariants.{Mcg, Scg}
use Rattle.pdcp_pdu.specs.StatusReport.{report_pdu}
use Rattle.pdcp_rx.specs.Entries.{counts_of}
use Rattle.pdcp_tx.specs.Sender.{counts, sdu_at}
use Rattle.split_leg.specs.Legs.{LegsState, leg_at, with_leg, with_pdu, with_send, is_repeat}
use Rattle.split_leg.specs.Routes.{route_of}
use Rattle.split_leg.specs.declared.legs.Route.{Route}
use Rattle.split_leg.specs.declared.legs.Route.TheVariants as route
use Rattle.node_rules.specs.Choices.{Choices}
use Rattle.node_rules.specs.Entity.{Entity, pdu_of}
use Rattle.node_rules.specs.declared.bearers.OnLeg.{OnLeg}

-- a PDU to be sent: its octets, with its COUNT if it is a data PDU (this product's own)
abbrev pub Pdu : Type 0
Pdu = Option ℕ × List ℕ

-- a PDU is put on a leg, under the next number there (TS 38.323, 5.2.1; the number on the leg is this product's own)
abbrev pub put_on : Cell → Bool → Pdu → LegsState → LegsState × OnLeg
put_on cell repeat pdu legs = (
  with_leg legs cell (with_pdu (leg_at legs cell) pdu.0 (length pdu.1) repeat),
  record { cell = cell; num = length (leg_at legs cell).pdus; repeat = repeat; pdu = pdu },
)

-- it is put on the legs of its route; on both it is one send (TS 38.323, 5.2.1 and 5.11.1)
abbrev pub put_by : Route → Bool → Pdu → LegsState → LegsState × List OnLeg
put_by route.None repeat pdu legs = (legs, [])
put_by (route.One cell) repeat pdu legs = let done = put_on cell repeat pdu legs in (done.0, done.1 ∷ [])
put_by route.Both repeat pdu legs =
    let mcg = put_on Mcg repeat pdu legs in
    let scg = put_on Scg repeat pdu mcg.0 in
    (scg.0, mcg.1 ∷ scg.1 ∷ [])

-- one send (TS 38.323, 5.2.1 and 5.11.1)
abbrev pub send_one : Choices → Pdu → LegsState → LegsState × List OnLeg
send_one c pdu legs =
    put_by (route_of legs c.policies (is_some pdu.0)) (is_repeat (with_send legs) pdu.0) pdu (with_send legs)

-- one send after another (part of the rule sends)
abbrev pub send_each : Choices → List Pdu → LegsState → LegsState × List OnLeg
send_each c [] legs = (legs, [])
send_each c (pdu ∷ pdus) legs =
    let here = send_one c pdu legs in
    let later = send_each c pdus here.0 in
    (later.0, here.1 ++ later.1)

-- the entity sends these PDUs (TS 38.323, 5.2.1)
abbrev pub sends : Choices → Entity → List Pdu → Entity × List OnLeg
sends c e pdus =
    let done = send_each c pdus e.setup.legs in
    (record e { setup = record e.setup { legs = done.0 } }, done.1)

-- the data PDU of a COUNT, if its SDU is kept (part of the rule send_counts)
abbrev pub pdu_at : Entity → ℕ → Option Pdu
pdu_at e count = option_map (λ sdu. (Some count, pdu_of e.setup (count, sdu))) (sdu_at e.tx.kept count)

-- the entity sends the kept SDUs of these COUNTs, in this order (TS 38.323, 5.2.1)
abbrev pub send_counts : Choices → Entity → List ℕ → Entity × List OnLeg
send_counts c e cs = sends c e (filter_map (pdu_at e) cs)

-- it recovers: all that is kept is sent again, in ascending COUNT (TS 38.323, 5.4.1 and 5.5)
abbrev pub send_kept : Choices → Entity → Entity × List OnLeg
send_kept c e = send_counts c e (counts e.tx.kept)

-- it sends a status report (TS 38.323, 5.4.1)
abbrev pub send_report : Choices → Entity → Entity × List OnLeg
send_report c e = sends c e ((None, report_pdu e.rx.deliv (counts_of e.rx.stored)) ∷ [])
