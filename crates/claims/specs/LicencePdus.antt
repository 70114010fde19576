-- The reasons of the user plane: why a PDU, an ack or a delivery status is sent.
use Rattle.std.specs.List.{list_any}
use Rattle.std.specs.Option.{option_map}
use Rattle.std.specs.Prelude.{Bool, List, Option, false, filter, if◌then◌else◌, is_some, length, nat_lt, not, take, true, unwrap_or, ℕ, ◌&&◌, ◌-◌, ◌==◌, ◌||◌}
use Rattle.dc_base.specs.Links.{is_same_link, reverse}
use Rattle.dc_base.specs.Nodes.{is_same_node}
use Rattle.dc_base.specs.declared.events.Event.{Event}
use Rattle.dc_base.specs.declared.events.Event.TheVariants as event
use Rattle.dc_base.specs.declared.events.Line.{Line}
use Rattle.dc_base.specs.declared.events.Line.TheVariants as line
use Rattle.dc_base.specs.declared.events.Note.TheVariants as note
use Rattle.dc_base.specs.declared.flights.Flight.{Flight}
use Rattle.dc_base.specs.declared.flights.Flight.TheVariants as flight
use Rattle.dc_base.specs.declared.nodes.Cell.{Cell}
use Rattle.dc_base.specs.declared.nodes.Cell.TheVariants as cell
use Rattle.dc_base.specs.declared.nodes.Class.TheVariants.{Air, Tun}
use Rattle.dc_base.specs.declared.nodes.Dir.{Dir}
use Rattle.dc_base.specs.declared.nodes.LinkId.{LinkId}
use Rattle.dc_base.specs.declared.nodes.Node.{Node}
use Rattle.dc_base.specs.declared.nodes.Node.TheVariants.{A, B, M, T}
use Rattle.dc_base.specs.declared.records.Rec.{Rec}
use Rattle.dc_base.specs.declared.records.Rec.TheVariants as rec
use Rattle.pdcp_pdu.specs.DataPdu.{is_data}
use Rattle.claims.specs.Links.{is_class}
use Rattle.claims.specs.Sameness.{cell_number, implies, is_among, is_number, is_ok, is_same_number, is_some_and}
use Rattle.claims.specs.Shapes.{has_both, has_leg, primary}
use Rattle.claims.specs.Confirming.{is_confirmed}
use Rattle.claims.specs.Views.{Pdu, delivery_of}
use Rattle.claims.specs.Past.{Bearer, Past}
use Rattle.claims.specs.Reading.{Setting, anchor_in, bearer_of, current, given_record, given_to, is_open_at, knows_failure, lane, said_sends, setting}
use Rattle.claims.specs.Taking.{direction_in, direction_of, receives, tunnelled}
use Rattle.claims.specs.Protected.{is_origin, is_passed_on, is_same_pdu}

-- ---- what was sent

-- the PDUs of this event so far
abbrev pub said_pdus : Past → List (LinkId × Pdu)
said_pdus p = take (length p.pdus - length p.earlier) p.pdus

-- a PDU of this node with the same identity, generation and COUNT
abbrev pub is_send_of : Node → Pdu → LinkId × Pdu → Bool
is_send_of x u (k, v) = is_same_node x k.from && (u.id == v.id) && (u.g == v.g) && is_same_number u.tag v.tag

-- the plan has duplication active (TS 38.323, 5.11)
abbrev pub is_dup : Option Setting → Bool
is_dup s = is_some_and (λ t. t.shape.dup) s

-- it was sent in an earlier event of this generation
abbrev pub was_sent : Past → LinkId → Pdu → Bool
was_sent p l u = list_any (is_send_of l.from u) p.earlier

-- a PDU of this event that is the same send: the two copies by duplication are one
abbrev pub is_second_in_event : Past → LinkId → Pdu → LinkId × Pdu → Bool
is_second_in_event p l u (k, v) = is_send_of l.from u (k, v) && (is_same_link l k || not (is_dup (setting p u.id u.g)))

-- how often it was sent before in this event
abbrev pub how_often_said : Past → LinkId → Pdu → ℕ
how_often_said p l u = length (filter (is_second_in_event p l u) (said_pdus p))

-- it was
abbrev pub was_said : Past → LinkId → Pdu → Bool
was_said p l u = nat_lt 0 (how_often_said p l u)

-- ---- legs

-- a leg of the plan: from the terminal to a node that has one; from the anchor its own, or the tunnel to the host
abbrev pub is_leg : LinkId → Setting → Bool
is_leg l s =
    if is_same_node l.from T then is_class Air l && has_leg s.sec s.shape l.to
    else if is_class Air l then is_same_node l.to T && has_leg s.sec s.shape l.from
    else is_class Tun l && has_leg s.sec s.shape l.to && not (is_same_node l.to l.from)

-- the node of a leg: that of its air link, or the host
abbrev pub leg_node : LinkId → Node
leg_node l = if is_same_node l.from T then l.to else if is_class Air l then l.from else l.to

-- the leg is in the secondary cell group, and its sender knows that it failed
abbrev pub is_known_failed : LinkId → ℕ → Bearer → Bool
is_known_failed l g b = not (is_same_node (leg_node l) M) && knows_failure l.from g b

-- the link is a leg of the plan that its sender does not know to have failed
abbrev pub is_on_leg : Past → LinkId → Pdu → Bearer → Bool
is_on_leg p l u b = is_some_and (is_leg l) (setting p u.id u.g) && not (is_known_failed l u.g b)

-- the cell group of a leg's node
abbrev pub cell_of : Node → Cell
cell_of M = cell.Mcg
cell_of T = cell.Scg
cell_of A = cell.Scg
cell_of B = cell.Scg

-- a control PDU goes on the primary path where both legs are there
abbrev pub is_primary : LinkId → ℕ → Bearer → Option Setting → Bool
is_primary l g b s =
    is_some_and (λ t. implies (has_both (knows_failure l.from g b) t.shape.legs) (cell_number (cell_of (leg_node l)) == cell_number (primary t.shape.legs))) s

-- ---- why a data PDU is sent

-- its COUNT is not confirmed
abbrev pub is_unconfirmed : Dir → Option ℕ → Bearer → Bool
is_unconfirmed d c b = is_some_and (λ k. not (is_confirmed (lane d b).confirms k)) c

-- a line makes the node's anchor active in this generation
abbrev pub owns_now : Node → ℕ → ℕ → Line → Bool
owns_now x id g (line.Note (note.Own y i h)) = is_same_node x y && (i == id) && (h == g)
owns_now x id g _ = false

-- pairs list this identity and generation
abbrev pub lists : ℕ → ℕ → List (ℕ × ℕ) → Bool
lists id g pairs = list_any (λ q. (q.0 == id) && (q.1 == g)) pairs

-- a record makes its receiver recover (TS 38.323, 5.5): an order, a new generation, a failed leg, or the completion that
-- opens an anchor
abbrev pub recovers_by : Node → ℕ → ℕ → Rec → Bool
recovers_by x id g (rec.Recov i) = i == id
recovers_by x id g (rec.Reconf q key) = q.g == g
recovers_by x id g (rec.Scgf pairs) = lists id g pairs
recovers_by x id g (rec.Scgn i h) = (i == id) && (h == g)
recovers_by x id g (rec.Rcomp h) = h == g
recovers_by x id g (rec.Recfg h) = h == g
recovers_by x id g (rec.Modcnf h) = h == g
recovers_by x id g _ = false

-- the event is this recovery
abbrev pub is_recover_of : ℕ → Event → Bool
is_recover_of id (event.Recover i) = i == id
is_recover_of id _ = false

-- the event makes the node recover a generation of an identity
abbrev pub recovers : Past → Node → ℕ → ℕ → Bool
recovers p x id g =
    (is_same_node x M && is_recover_of id p.event && is_ok p.answer) || (given_to x p && is_some_and (recovers_by x id g) (given_record p))
    || list_any (owns_now x id g) p.said

-- a PDU that was sent has this COUNT, and a number that is listed for the first time
abbrev pub is_fresh_number : Past → Option ℕ → Pdu → Bool
is_fresh_number p c v = is_same_number c v.tag && is_some_and (λ k. is_among k p.fresh) v.num

-- how many numbers of this COUNT the delivery status just taken lists for the first time
abbrev pub asked_for : Past → ℕ → ℕ → Option ℕ → ℕ
asked_for p id g c = unwrap_or (option_map (λ s. length (filter (is_fresh_number p c) (tunnelled (reverse s.0) id g p))) p.given) 0

-- it is the first send of its generation, a recovery, or a number that is asked for
abbrev pub is_due_pdu : Past → LinkId → Pdu → Bool
is_due_pdu p l u =
    (not (was_said p l u) && (not (was_sent p l u) || recovers p l.from u.id u.g)) || nat_lt (how_often_said p l u) (asked_for p u.id u.g u.tag)

-- it is passed on once
abbrev pub is_passed_once : Past → LinkId → Pdu → Bool
is_passed_once p l u = is_passed_on p l u && not (list_any (λ s. is_same_node l.from s.0.from && is_same_pdu u s.1) (said_pdus p))

-- in a tunnel it is marked as a repeat where it was sent before in its generation
abbrev pub has_right_mark : Past → LinkId → Pdu → Bool
has_right_mark p l u =
    let before = was_sent p l u || was_said p l u in
    not (is_some u.num && is_class Tun l) || (if u.is_repeat then before else not before)

-- why a data PDU is sent
abbrev pub data_reason : Past → LinkId → Pdu → Bool
data_reason p l u =
    let d = direction_of p l u in
    is_passed_once p l u
    || (is_origin l d (setting p u.id u.g) && has_right_mark p l u && is_due_pdu p l u
    && is_some_and (λ b. is_unconfirmed d u.tag b && is_on_leg p l u b) (bearer_of p u.id u.g))

-- ---- why a control PDU is sent

-- the event asks this node for a report of the identity
abbrev pub is_report_of : Node → ℕ → Event → Bool
is_report_of x id (event.Report y i) = is_same_node x y && (i == id)
is_report_of x id _ = false

-- the PDU is a control PDU
abbrev pub is_control : LinkId × Pdu → Bool
is_control (k, v) = not (is_data v.octets)

-- a report was asked for, and this is the one
abbrev pub reports_now : Past → LinkId → Pdu → Bearer → Bool
reports_now p l u b =
    is_report_of l.from u.id p.event && is_ok p.answer && is_number u.g (current l.from b) && is_open_at p l.from u.g && is_on_leg p l u b
    && is_primary l u.g b (setting p u.id u.g) && not (list_any is_control (said_pdus p))

-- why a control PDU is sent
abbrev pub control_reason : Past → LinkId → Pdu → Bool
control_reason p l u = is_passed_once p l u || is_some_and (reports_now p l u) (bearer_of p u.id u.g)

-- why a PDU is sent
abbrev pub pdu_reason : Past → LinkId → Pdu → Bool
pdu_reason p l u = if is_data u.octets then data_reason p l u else control_reason p l u

-- ---- why an ack or a delivery status is sent

-- the flight is an ack
abbrev pub is_ack : LinkId × Flight → Bool
is_ack (l, flight.Ack id g num) = true
is_ack _ = false

-- the receiver of a PDU acks it: the terminal on a leg that has not failed; an anchor that has the generation, on a leg
-- that it does not know to have failed
abbrev pub acks_for : LinkId → ℕ → Bearer → Setting → Bool
acks_for k g b s = receives k g s (direction_in k s) b && not (is_known_failed (reverse k) g b)

-- a node that has a leg for another node's anchor acks as well
abbrev pub is_host_of : Node → Setting → Bool
is_host_of x s = not (is_same_node x T) && not (is_same_node x (anchor_in s)) && has_leg s.sec s.shape x

-- the PDU just taken may be acked by its receiver
abbrev pub may_ack : Past → LinkId → ℕ → ℕ → Bool
may_ack p k id g = is_some_and (λ s. is_host_of k.to s || is_some_and (λ b. acks_for k g b s) (bearer_of p id g)) (setting p id g)

-- the ack is of the PDU just taken, the other way
abbrev pub acks : Past → LinkId → ℕ → ℕ → ℕ → LinkId × Flight → Bool
acks p l id g num (k, flight.Air i h m tag pdu) = is_same_link l (reverse k) && (i == id) && (h == g) && (m == num) && may_ack p k id g
acks p l id g num _ = false

-- an ack was just taken by the host of this identity and generation
abbrev pub is_ack_at_host : Past → LinkId → ℕ → ℕ → LinkId × Flight → Bool
is_ack_at_host p l id g (k, flight.Ack i h m) =
    is_same_node k.from T && is_same_node k.to l.from && (i == id) && (h == g) && is_some_and (λ s. is_same_node l.to (anchor_in s) && is_host_of l.from s) (setting p id g)
is_ack_at_host p l id g _ = false

-- the flight is a delivery status
abbrev pub is_delivery : LinkId × Flight → Bool
is_delivery s = is_some (delivery_of s.1)

-- why a delivery status is sent: after each ack that the host takes, one
abbrev pub delivery_reason : Past → LinkId → ℕ → ℕ → Bool
delivery_reason p l id g = is_some_and (is_ack_at_host p l id g) p.given && not (list_any is_delivery (said_sends p))
