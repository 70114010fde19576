-- What must come in the user plane. Everywhere p is the past before the event, and q after it.
use Rattle.std.specs.List.{list_all, list_any}
use Rattle.std.specs.Prelude.{Bool, List, Some, [], false, filter, is_some, length, nat_le, not, true, ℕ, ◌&&◌, ◌+◌, ◌-◌, ◌==◌, ◌||◌, ◌∷◌}
use Rattle.dc_base.specs.Links.{is_same_link, reverse}
use Rattle.dc_base.specs.Nodes.{is_same_node}
use Rattle.dc_base.specs.declared.answers.Answer.{Answer}
use Rattle.dc_base.specs.declared.answers.Answer.TheVariants as answer
use Rattle.dc_base.specs.declared.events.Event.{Event}
use Rattle.dc_base.specs.declared.events.Event.TheVariants as event
use Rattle.dc_base.specs.declared.events.Line.{Line}
use Rattle.dc_base.specs.declared.flights.Flight.{Flight}
use Rattle.dc_base.specs.declared.flights.Flight.TheVariants as flight
use Rattle.dc_base.specs.declared.nodes.Dir.{Dir}
use Rattle.dc_base.specs.declared.nodes.Dir.TheVariants.{Dl, Ul}
use Rattle.dc_base.specs.declared.nodes.LinkId.{LinkId}
use Rattle.dc_base.specs.declared.nodes.Node.{Node}
use Rattle.dc_base.specs.declared.nodes.Node.TheVariants.{A, B, M, T}
use Rattle.dc_base.specs.declared.numbers.SnLen.{SnLen}
use Rattle.key_chain.specs.KeyNames.{octets}
use Rattle.pdcp_pdu.specs.DataPdu.{is_data}
use Rattle.pdcp_pdu.specs.Pdu.{decoded}
use Rattle.transcript.specs.Transcript.{Entry}
use Rattle.claims.specs.Sameness.{implies, is_none_or, is_number, is_some_and}
use Rattle.claims.specs.Shapes.{has_both}
use Rattle.claims.specs.Confirming.{is_confirmed}
use Rattle.claims.specs.Views.{Delivery, Pdu, delivery_of, report_in}
use Rattle.claims.specs.Past.{Bearer, Past}
use Rattle.claims.specs.Reading.{Setting, anchor_in, bearer_of, can_send, current, kept, knows_failure, latest, next_count, reached, sends_in, setting}
use Rattle.claims.specs.Taking.{direction_of, tunnelled}
use Rattle.claims.specs.Protected.{is_origin}
use Rattle.claims.specs.Causes.{at_node}
use Rattle.claims.specs.LicencePdus.{acks_for, asked_for, is_ack, is_control, is_send_of, recovers, said_pdus}
use Rattle.claims.specs.LicenceForward.{is_sdu}

-- ---- PDUs

-- the PDUs that an event sent
abbrev pub sent_pdus : Past → List (LinkId × Pdu)
sent_pdus q = said_pdus q

-- one of them is of this node, identity and generation, and has this COUNT
abbrev pub is_count_of : Node → ℕ → ℕ → ℕ → LinkId × Pdu → Bool
is_count_of x id g c (k, v) = is_same_node x k.from && (v.id == id) && (v.g == g) && is_number c v.tag

-- the node sends this COUNT in the event
abbrev pub sends_count : Past → Node → ℕ → ℕ → ℕ → Bool
sends_count q x id g c = list_any (is_count_of x id g c) (sent_pdus q)

-- if the node can send in the bearer's generation, it sends these COUNTs
abbrev pub sends_all : Past → Node → Bearer → List ℕ → ℕ → Bool
sends_all q x b cs g = implies (can_send q x g b (setting q b.id g)) (list_all (sends_count q x b.id g) cs)

-- ---- recoveries

-- a node that recovers sends all that it keeps (TS 38.323, 5.5)
abbrev pub recovery_comes : Past → Node → Bearer → Bool
recovery_comes q x b = is_none_or (λ g. implies (recovers q x b.id g) (sends_all q x b (kept q x b) g)) (current x b)

-- so do the terminal and the holder
abbrev pub recoveries_come : Past → Bearer → Bool
recoveries_come q b = recovery_comes q T b && recovery_comes q M b && recovery_comes q A b && recovery_comes q B b

-- ---- submissions

-- the node sends the bearer's last submission, if it has one in this direction
abbrev pub last_is_sent : Past → Node → Bearer → ℕ → Bool
last_is_sent q x b next = is_none_or (sends_all q x b ((next - 1) ∷ [])) (current x b)

-- the path of the bearer leads to a secondary
abbrev pub is_path_away : Past → Bearer → Bool
is_path_away q b = is_some_and (λ s. not (is_same_node (anchor_in s) M)) (setting q b.id b.carried)

-- a submission is sent, or goes on the feed
abbrev pub submission_comes : Past → List Line → Dir → Bearer → Bool
submission_comes q xs Ul b = last_is_sent q T b (next_count Ul b)
submission_comes q xs Dl b = last_is_sent q M b (next_count Dl b) && implies (is_path_away q b) (list_any is_sdu (sends_in xs))

-- the submission of an event does
abbrev pub submitted_comes : Past → List Line → Event → Answer → Bool
submitted_comes q xs (event.Submit id d sdu) answer.Ok = is_none_or (submission_comes q xs d) (latest q id)
submitted_comes q xs _ _ = true

-- what the feed brings to a holder is sent
abbrev pub fed_comes : Past → LinkId × Flight → Bool
fed_comes q (l, flight.Sdu id g sdu) = is_none_or (λ b. last_is_sent q l.to b (b.first + reached q l.to b)) (bearer_of q id g)
fed_comes q _ = true

-- ---- both legs

-- another of the event's PDUs is the copy of a send on the other leg
abbrev pub is_other_copy : LinkId → Pdu → LinkId × Pdu → Bool
is_other_copy l u (k, v) = not (is_same_link l k) && is_send_of l.from u (k, v)

-- with duplication active and both legs there a data PDU goes on both (TS 38.323, 5.11)
abbrev pub is_on_both : Past → LinkId → Pdu → Setting → Bearer → Bool
is_on_both q l u s b = implies (s.shape.dup && has_both (knows_failure l.from u.g b) s.shape.legs) (list_any (is_other_copy l u) (sent_pdus q))

-- so does each that its own node sent, if it is a data PDU
abbrev pub copy_comes : Past → LinkId × Pdu → Bool
copy_comes q (l, u) =
    not (is_data u.octets) || not (is_origin l (direction_of q l u) (setting q u.id u.g))
    || is_some_and (λ s. is_some_and (is_on_both q l u s) (bearer_of q u.id u.g)) (setting q u.id u.g)

-- all of an event's PDUs
abbrev pub copies_come : Past → Bool
copies_come q = list_all (copy_comes q) (sent_pdus q)

-- ---- acks, statuses and reports

-- a PDU is one: a data PDU, or a status report
abbrev pub is_readable : SnLen → List ℕ → Bool
is_readable n octets = is_data octets || is_some (report_in (decoded n octets))

-- a PDU that terminal or anchor takes is acked
abbrev pub is_ack_due : Past → LinkId × Flight → Bool
is_ack_due p (k, flight.Air id g num tag pdu) =
    is_some_and (λ s. is_some_and (λ b. acks_for k g b s && is_readable b.n pdu) (bearer_of p id g)) (setting p id g)
is_ack_due p _ = false

-- the ack comes
abbrev pub ack_comes : Past → Past → List Line → Bool
ack_comes p q xs = implies (is_some_and (is_ack_due p) q.given) (list_any is_ack (sends_in xs))

-- a report is sent, where an open entity has a leg
abbrev pub is_report_due : Past → Event → Answer → Bool
is_report_due q (event.Report x id) answer.Ok = is_some_and (λ b. is_some_and (λ g. can_send q x g b (setting q id g)) (current x b)) (at_node q x id)
is_report_due q _ _ = false

-- the report that was asked for comes
abbrev pub report_comes : Past → Entry → Bool
report_comes q e = implies (is_report_due q e.event e.answer) (list_any is_control (sent_pdus q))

-- ---- numbers that are asked for

-- how often the holder sends a COUNT in the event
abbrev pub how_often_sent : Past → Node → ℕ → ℕ → ℕ → ℕ
how_often_sent q x id g c = length (filter (is_count_of x id g c) (sent_pdus q))

-- a PDU with a number that is listed for the first time is sent again, if its COUNT is not confirmed; once a number
abbrev pub asked_comes : Past → Node → Bearer → ℕ → Pdu → Bool
asked_comes q x b g u =
    is_none_or (λ c. is_confirmed b.down.confirms c || nat_le (asked_for q b.id g (Some c)) (how_often_sent q x b.id g c)) u.tag

-- all that a delivery status lists, where the holder can send
abbrev pub delivery_comes : Past → LinkId → Delivery → Bearer → Bool
delivery_comes q l v b =
    implies (can_send q l.to v.g b (setting q v.id v.g)) (list_all (asked_comes q l.to b v.g) (tunnelled (reverse l) v.id v.g q))

-- of the delivery status that the event gives
abbrev pub asked_come : Past → LinkId × Flight → Bool
asked_come q (l, f) =
    nat_le (length q.fresh) 0 || is_none_or (λ v. is_none_or (delivery_comes q l v) (bearer_of q v.id v.g)) (delivery_of f)

-- an `again` sends its copy
abbrev pub again_comes : Past → List Line → Bool
again_comes q xs = implies (is_some q.copied) (length (sends_in xs) == 1)

-- all of the user plane comes
abbrev pub user_plane_comes : Past → Entry → Past → Bool
user_plane_comes p e q =
    ack_comes p q e.lines && report_comes q e && submitted_comes q e.lines e.event e.answer && is_none_or (fed_comes q) q.given
    && is_none_or (asked_come q) q.given && list_all (recoveries_come q) q.bearers && copies_come q && again_comes q e.lines
