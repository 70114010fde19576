-- What an anchor sends, and when: SDUs that are submitted, all that is kept at its opening, at a recovery and at the failure
-- of the SCG, and status reports.
use Rattle.std.specs.Prelude.{ℕ, not, ◌++◌, Bool, true, false, List, [], ◌∷◌, fold, Option, Some, None, Result, Ok, Err}
use Rattle.std.specs.List.{flat_map}
use Rattle.dc_base.specs.declared.flights.Flight.TheVariants as flight
use Rattle.dc_base.specs.declared.nodes.Class.TheVariants.{Air, Tun}
use Rattle.dc_base.specs.declared.nodes.Node.{Node}
use Rattle.dc_base.specs.declared.nodes.Node.TheVariants.{T}
use Rattle.nr_u.specs.Tunnel.Outgoing.{Outgoing, with_sent}
use Rattle.pdcp_tx.specs.Sender.{Sender}
use Rattle.pdcp_tx.specs.Sending.{take_sdu, hold_sdu, give_numbers}
use Rattle.pdcp_tx.specs.declared.tx.TxErr.{TxErr}
use Rattle.dc_base.specs.Links.{link}
use Rattle.node_rules.specs.declared.bearers.AnchorOut.{AnchorOut}
use Rattle.node_rules.specs.Anchor.{Active, AnchorState, active_anchor, sending, silent, waiting_anchor}
use Rattle.node_rules.specs.Choices.{Choices, Send}
use Rattle.node_rules.specs.Entity.{Entity}
use Rattle.node_rules.specs.Packets.{down_packet}
use Rattle.node_rules.specs.declared.bearers.OnLeg.{OnLeg}
use Rattle.node_rules.specs.Sending.{send_counts, send_kept, send_report}
use Rattle.node_rules.specs.Setup.{Setup, anchor_cell, host_of, is_same_cell, with_failed_scg}

-- ---- how PDUs leave the anchor

-- a PDU on the leg of the anchor's own node (TS 38.323, 5.2.1)
abbrev pub air_send : Setup → OnLeg → Send
air_send s p = (link s.node T Air, flight.Air s.id s.g p.num p.pdu.0 p.pdu.1)

-- a PDU on the other leg goes through the tunnel, under the same number (TS 38.425, 5.4.1)
abbrev pub tunnel_send : Setup → OnLeg → Option Node → List Send
tunnel_send s p None = []
tunnel_send s p (Some host) = (link s.node host Tun, flight.Tun p.pdu.0 (down_packet s.g s.id p.num p.repeat p.pdu.1)) ∷ []

-- by whether the leg is that of the anchor's own node (part of the rule with_sends)
abbrev pub leg_send : Setup → OnLeg → Bool → List Send
leg_send s p true = air_send s p ∷ []
leg_send s p false = tunnel_send s p (host_of s)

-- whether a PDU is on the leg of the anchor's own node (part of the rule with_sends)
abbrev pub is_local : Setup → OnLeg → Bool
is_local s p = is_same_cell p.cell (anchor_cell s.legs.shape)

-- what the tunnel has of a PDU that was put on a leg (TS 38.425, 5.4.1)
abbrev pub tunnelled : Outgoing → OnLeg → Bool → Outgoing
tunnelled o p true = o
tunnelled o p false = with_sent o (record { count = p.pdu.0; repeat = p.repeat })

-- the anchor with what its entity put on the legs, and the sends (TS 38.323, 5.2.1; TS 38.425, 5.4.1)
abbrev pub with_sends : Active → Entity × List OnLeg → Active × List Send
with_sends a done = (
  record a {
    entity = done.0;
    tunnel = fold (λ o p. tunnelled o p (is_local a.entity.setup p)) a.tunnel done.1;
  },
  flat_map (λ p. leg_send a.entity.setup p (is_local a.entity.setup p)) done.1,
)

-- the anchor sends the kept SDUs of these COUNTs, in this order (TS 38.323, 5.2.1)
abbrev pub anchor_sends : Choices → Active → List ℕ → Active × List Send
anchor_sends c a cs = with_sends a (send_counts c a.entity cs)

-- it sends all that is kept (TS 38.323, 5.4.1 and 5.5)
abbrev pub anchor_recovers : Choices → Active → Active × List Send
anchor_recovers c a = with_sends a (send_kept c a.entity)

-- an active anchor, and what it sent (part of the rule submit)
abbrev pub sent_by : Active × List Send → AnchorState × AnchorOut
sent_by done = (active_anchor done.0, sending done.1)

-- ---- submission

-- the anchor with this sending side (part of the rule submit)
abbrev pub with_tx : Active → Sender → Active
with_tx a tx = record a { entity = record a.entity { tx = tx } }

-- a submission that was numbered is sent; one for which there is no room is held (part of the rule submit)
abbrev pub submit_as : Choices → Active → List ℕ → Result (Sender × ℕ) TxErr → Active × List Send
submit_as c a sdu (Ok (tx, count)) = anchor_sends c (with_tx a tx) (count ∷ [])
submit_as c a sdu (Err e) = (with_tx a (hold_sdu a.entity.tx sdu), [])

-- an open anchor numbers and sends a submission, a closed one holds it (part of the rule submit)
abbrev pub submit_at : Bool → Choices → Active → List ℕ → Active × List Send
submit_at true c a sdu = submit_as c a sdu (take_sdu a.entity.tx sdu)
submit_at false c a sdu = (with_tx a (hold_sdu a.entity.tx sdu), [])

-- an SDU is submitted (TS 38.323, 5.2.1)
abbrev pub submit : Choices → AnchorState → List ℕ → AnchorState × AnchorOut
submit c (waiting_anchor w) sdu = (waiting_anchor (record w { fresh = w.fresh ++ sdu ∷ [] }), silent)
submit c (active_anchor a) sdu = sent_by (submit_at a.is_open c a sdu)

-- ---- opening

-- the SDUs that were held and were given COUNTs are sent; where there is no room they stay held (part of the rule opens)
abbrev pub with_numbers : Choices → Active → Result (Sender × List ℕ) TxErr → Active × List Send
with_numbers c a (Ok (tx, given)) = anchor_sends c (with_tx a tx) given
with_numbers c a (Err e) = (a, [])

-- it opens: it sends all that is kept, and then numbers and sends what is held
-- (TS 37.340, 10.2 to 10.5; TS 38.323, 5.2.1 and 5.5; the order is this product's own)
abbrev pub opens : Choices → Active → Active × List Send
opens c a =
    let again = anchor_recovers c (record a { is_open = true }) in
    let first = with_numbers c again.0 (give_numbers again.0.entity.tx) in
    (first.0, again.1 ++ first.1)

-- by whether it is to open (part of the rule unlock)
abbrev pub open_if : Bool → Choices → Active → Active × List Send
open_if true c a = opens c a
open_if false c a = (a, [])

-- the reconfiguration is complete (TS 37.340, 10.2 to 10.5: SN RECONFIGURATION COMPLETE): a waiting anchor notes it
abbrev pub unlock : Choices → AnchorState → AnchorState × AnchorOut
unlock c (waiting_anchor w) = (waiting_anchor (record w { is_told = true }), silent)
unlock c (active_anchor a) = sent_by (open_if (not a.is_open) c a)

-- ---- recovery, the failure of the SCG, and reports

-- only an open anchor recovers (part of the rule recover)
abbrev pub recover_at : Bool → Choices → Active → Active × List Send
recover_at true c a = anchor_recovers c a
recover_at false c a = (a, [])

-- PDCP data recovery is asked for (TS 38.323, 5.5)
abbrev pub recover : Choices → AnchorState → AnchorState × AnchorOut
recover c (waiting_anchor w) = (waiting_anchor w, silent)
recover c (active_anchor a) = sent_by (recover_at a.is_open c a)

-- the entity with the SCG leg marked as failed (part of the rule fail_scg)
abbrev pub with_failure : Entity → Entity
with_failure e = record e { setup = with_failed_scg e.setup }

-- the anchor learns that the SCG leg failed (TS 37.340, 7.7): it marks the leg, and recovers if it is open
abbrev pub fail_scg : Choices → AnchorState → AnchorState × AnchorOut
fail_scg c (waiting_anchor w) = (waiting_anchor (record w { setup = with_failed_scg w.setup }), silent)
fail_scg c (active_anchor a) = sent_by (recover_at a.is_open c (record a { entity = with_failure a.entity }))

-- only an open anchor sends a report (part of the rule report)
abbrev pub report_at : Bool → Choices → Active → Active × List Send
report_at true c a = with_sends a (send_report c a.entity)
report_at false c a = (a, [])

-- a status report is asked for (TS 38.323, 5.4.1)
abbrev pub report : Choices → AnchorState → AnchorState × AnchorOut
report c (waiting_anchor w) = (waiting_anchor w, silent)
report c (active_anchor a) = sent_by (report_at a.is_open c a)
