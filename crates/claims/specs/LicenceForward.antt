-- The reasons of forwarding: the feed, SN STATUS TRANSFER and the forwarded packets of a move (TS 38.423, 8.2.2; TS 38.300,
-- 9.2.3.2).
use Rattle.std.specs.List.{filter_map, list_any}
use Rattle.std.specs.Option.{option_and_then}
use Rattle.std.specs.Prelude.{Bool, List, None, Option, Some, [], false, fold, if◌then◌else◌, is_none, is_some, max, not, true, ℕ, ◌&&◌, ◌+◌, ◌-◌, ◌==◌, ◌||◌, ◌∷◌}
use Rattle.dc_base.specs.Count.{count_for}
use Rattle.dc_base.specs.Nodes.{is_same_dir, is_same_node}
use Rattle.dc_base.specs.declared.events.Event.{Event}
use Rattle.dc_base.specs.declared.events.Event.TheVariants as event
use Rattle.dc_base.specs.declared.events.Line.{Line}
use Rattle.dc_base.specs.declared.events.Line.TheVariants as line
use Rattle.dc_base.specs.declared.events.Note.TheVariants as note
use Rattle.dc_base.specs.declared.flights.Flight.{Flight}
use Rattle.dc_base.specs.declared.flights.Flight.TheVariants as flight
use Rattle.dc_base.specs.declared.nodes.Dir.{Dir}
use Rattle.dc_base.specs.declared.nodes.Dir.TheVariants.{Dl, Ul}
use Rattle.dc_base.specs.declared.nodes.LinkId.{LinkId}
use Rattle.dc_base.specs.declared.nodes.Node.{Node}
use Rattle.dc_base.specs.declared.nodes.Node.TheVariants.{M}
use Rattle.dc_base.specs.declared.numbers.SnLen.{SnLen}
use Rattle.dc_base.specs.declared.records.Rec.{Rec}
use Rattle.dc_base.specs.declared.records.Rec.TheVariants as rec
use Rattle.dc_base.specs.declared.records.StatusTransfer.{StatusTransfer}
use Rattle.gtpu.specs.declared.packet.PduNumber.{PduNumber}
use Rattle.gtpu.specs.declared.packet.PduNumber.TheVariants.{Long, Short}
use Rattle.key_chain.specs.KeyNames.{octets}
use Rattle.pdcp_pdu.specs.StatusReport.{whole_bits}
use Rattle.claims.specs.Sameness.{is_at, is_ok, is_payload, is_same_octets, is_some_and, kept_if}
use Rattle.claims.specs.Packets.{Packet, closing, downlink, forwarded, status, total, uplink}
use Rattle.claims.specs.Views.{record_in}
use Rattle.claims.specs.Past.{Bearer, Past}
use Rattle.claims.specs.Reading.{Setting, anchor_in, bearer_of, deliv, given_record, reached, said_sends, setting, stored, submission}
use Rattle.claims.specs.LicencePdus.{delivery_reason}

-- ---- the feed

-- the event submits this payload
abbrev pub submits : ℕ → List ℕ → Event → Bool
submits id octets (event.Submit i Dl sdu) = (i == id) && is_same_octets octets sdu
submits id octets _ = false

-- the flight is an SDU of the feed
abbrev pub is_sdu : LinkId × Flight → Bool
is_sdu (l, flight.Sdu id g sdu) = true
is_sdu _ = false

-- the path of a bearer has this generation, and goes to this node
abbrev pub is_path : Node → ℕ → Option Setting → Option Bearer → Bool
is_path x g s b = is_some_and (λ y. y.carried == g) b && is_some_and (λ t. is_same_node x (anchor_in t)) s

-- why an SDU goes on the feed: a submission just accepted, on the bearer's path, once
abbrev pub feed_reason : Past → LinkId → ℕ → ℕ → List ℕ → Bool
feed_reason p l id g sdu =
    submits id sdu p.event && is_ok p.answer && is_path l.to g (setting p id g) (bearer_of p id g) && not (list_any is_sdu (said_sends p))

-- the flight ends the feed of this identity, for this change
abbrev pub is_end_of : ℕ → ℕ → LinkId × Flight → Bool
is_end_of id g (l, flight.End i h) = (i == id) && (h == g)
is_end_of id g _ = false

-- the plan moves the anchor away from this node
abbrev pub moves_from : Node → Setting → Bool
moves_from x s = is_at x s.old && not (is_same_node x (anchor_in s))

-- the plan of this generation was carried out last of the bearer's
abbrev pub is_carried_in : ℕ → Option Bearer → Bool
is_carried_in g b = is_some_and (λ y. y.carried == g) b

-- why a feed ends: the plan that moves the anchor away was carried out; once
abbrev pub end_reason : Past → LinkId → ℕ → ℕ → Bool
end_reason p l id g =
    is_carried_in g (bearer_of p id g) && is_some_and (moves_from l.to) (setting p id g) && not (list_any (is_end_of id g) p.sent)

-- ---- SN STATUS TRANSFER

-- a line freezes the node's anchor for this change
abbrev pub gives_now : Node → ℕ → ℕ → Line → Bool
gives_now x id g (line.Note (note.Give y i h)) = is_same_node x y && (i == id) && (h == g)
gives_now x id g _ = false

-- it says exactly what is handed up and stored in uplink, and how far downlink is numbered
abbrev pub is_true_transfer : Past → Node → StatusTransfer → Bearer → Bool
is_true_transfer p x t b =
    (t.ul == deliv Ul b) && is_same_octets t.bits (whole_bits (deliv Ul b) (stored Ul b)) && (t.dl == b.first + reached p x b)

-- the same transfer
abbrev pub is_same_transfer : StatusTransfer → StatusTransfer → Bool
is_same_transfer t u = (t.g == u.g) && (t.id == u.id) && (t.ul == u.ul) && (t.dl == u.dl) && is_same_octets t.bits u.bits

-- the transfer that a record is
abbrev pub transfer_in : Rec → Option StatusTransfer
transfer_in (rec.Snst t) = Some t
transfer_in _ = None

-- the node is the new anchor
abbrev pub is_new_anchor : Node → Option Setting → Bool
is_new_anchor x s = is_some_and (λ t. is_same_node x (anchor_in t)) s

-- a frozen anchor sends its transfer to the new one, a secondary by way of the master
abbrev pub is_own_transfer : Past → LinkId → StatusTransfer → Bool
is_own_transfer p l t =
    list_any (gives_now l.from t.id t.g) p.said && is_some_and (is_true_transfer p l.from t) (bearer_of p t.id t.g)
    && (is_same_node l.to M || is_new_anchor l.to (setting p t.id t.g))

-- the master passes one on to the new anchor
abbrev pub is_passed_transfer : Past → LinkId → StatusTransfer → Bool
is_passed_transfer p l t =
    is_same_node l.from M && is_some_and (is_same_transfer t) (option_and_then transfer_in (given_record p)) && is_new_anchor l.to (setting p t.id t.g)

-- why a transfer is sent
abbrev pub transfer_reason : Past → LinkId → StatusTransfer → Bool
transfer_reason p l t = is_own_transfer p l t || is_passed_transfer p l t

-- ---- forwarded packets

-- the transfer of an identity and generation, where a flight is one
abbrev pub transfer_for : ℕ → ℕ → LinkId × Flight → Option StatusTransfer
transfer_for id g s = kept_if (λ t. (t.id == id) && (t.g == g)) (option_and_then transfer_in (record_in s.1))

-- the first of a list
abbrev pub first_of : {X : Type 0} → List X → Option X
first_of [] = None
first_of (x ∷ xs) = Some x

-- the transfer of a change
abbrev pub transfer_of : Past → ℕ → ℕ → Option StatusTransfer
transfer_of p id g = first_of (filter_map (transfer_for id g) p.sent)

-- the reference of a direction
abbrev pub reference : Dir → StatusTransfer → ℕ
reference Dl t = t.dl
reference Ul t = t.ul

-- the number after that of a forwarded SDU with a sequence number
abbrev pub numbered_after : ℕ → ℕ → Dir → LinkId × Packet → ℕ
numbered_after id g d (l, forwarded i h e k (Some s) sdu) = if (i == id) && (h == g) && is_same_dir d e then k + 1 else 0
numbered_after id g d _ = 0

-- how many SDUs of a tunnel have one
abbrev pub numbered_forwards : Past → ℕ → ℕ → Dir → ℕ
numbered_forwards p id g d = fold (λ k s. max k (numbered_after id g d s)) 0 p.forwards

-- a total of the tunnel
abbrev pub is_total : ℕ → ℕ → Dir → LinkId × Packet → Bool
is_total id g d (l, total i h e k) = (i == id) && (h == g) && is_same_dir d e
is_total id g d _ = false

-- an End Marker of the tunnel
abbrev pub is_closing : ℕ → ℕ → Dir → LinkId × Packet → Bool
is_closing id g d (l, closing i h e) = (i == id) && (h == g) && is_same_dir d e
is_closing id g d _ = false

-- the tunnel has its total
abbrev pub is_closed : Past → ℕ → ℕ → Dir → Bool
is_closed p id g d = list_any (is_total id g d) p.forwards

-- a sequence number
abbrev pub sn_value : PduNumber → ℕ
sn_value (Short n) = n
sn_value (Long n) = n

-- the COUNT of a forwarded SDU: by its sequence number, or by its place among the fresh ones of downlink
abbrev pub forward_count : Past → ℕ → ℕ → Dir → ℕ → SnLen → StatusTransfer → Option PduNumber → Option ℕ
forward_count p id g d k n t (Some s) = count_for n (reference d t) (sn_value s)
forward_count p id g Dl k n t None = Some (t.dl + (k - numbered_forwards p id g Dl))
forward_count p id g Ul k n t None = None

-- it is the submission of its COUNT
abbrev pub forwards_right : Past → ℕ → ℕ → Dir → ℕ → Option PduNumber → List ℕ → Option Bearer → Option StatusTransfer → Bool
forwards_right p id g d k s octets (Some b) (Some t) =
    is_some_and (λ c. is_payload (submission d c b) octets) (forward_count p id g d k b.n t s)
forwards_right p id g d k s octets _ _ = false

-- the tunnel of a move: from the old anchor to the new one
abbrev pub is_forward_link : LinkId → Option Setting → Bool
is_forward_link l s = is_some_and (λ t. is_at l.from t.old && is_same_node l.to (anchor_in t) && not (is_same_node l.from l.to)) s

-- an SDU of the feed was just taken
abbrev pub is_feed_given : Past → Bool
is_feed_given p = is_some_and is_sdu p.given

-- why a forwarded SDU, a total, an End Marker or a delivery status is sent
abbrev pub packet_reason : Past → LinkId → Packet → Bool
packet_reason p l (forwarded id g d k s octets) =
    is_forward_link l (setting p id g) && forwards_right p id g d k s octets (bearer_of p id g) (transfer_of p id g)
    && not (is_closed p id g d) && (is_none s || not (is_feed_given p))
packet_reason p l (total id g d k) = is_forward_link l (setting p id g) && not (is_closed p id g d) && is_some (transfer_of p id g)
packet_reason p l (closing id g d) = is_forward_link l (setting p id g) && is_closed p id g d && not (list_any (is_closing id g d) p.forwards)
packet_reason p l (status id g highest lost) = delivery_reason p l id g
packet_reason p l (downlink id g number is_repeat pdu) = false
packet_reason p l (uplink id g pdu) = false
