-- What is handed up (TS 38.323, 5.2.2.1).
use Rattle.std.specs.List.{list_all}
use Rattle.std.specs.Prelude.{Bool, List, Option, filter, is_none, nat_le, nat_lt, not, true, ℕ, ◌&&◌, ◌+◌, ◌==◌, ◌||◌}
use Rattle.dc_base.specs.Count.{window}
use Rattle.dc_base.specs.Nodes.{is_same_node}
use Rattle.dc_base.specs.declared.events.Line.{Line}
use Rattle.dc_base.specs.declared.events.Line.TheVariants as line
use Rattle.dc_base.specs.declared.events.Note.TheVariants as note
use Rattle.dc_base.specs.declared.flights.Flight.{Flight}
use Rattle.dc_base.specs.declared.nodes.Dir.{Dir}
use Rattle.dc_base.specs.declared.nodes.Dir.TheVariants.{Dl, Ul}
use Rattle.dc_base.specs.declared.nodes.LinkId.{LinkId}
use Rattle.dc_base.specs.declared.nodes.Node.{Node}
use Rattle.dc_base.specs.declared.nodes.Node.TheVariants.{T}
use Rattle.dc_base.specs.declared.numbers.SnLen.{SnLen}
use Rattle.transcript.specs.Transcript.{Entry}
use Rattle.claims.specs.Sameness.{implies, is_among, is_none_or, is_number, is_payload, is_some_and}
use Rattle.claims.specs.Views.{data_of, delivery_of}
use Rattle.claims.specs.Past.{Bearer, Past}
use Rattle.claims.specs.Reading.{bearer_of, deliv, holds, lane, latest, low, submission}
use Rattle.claims.specs.Taking.{direction_of}
use Rattle.claims.specs.Noted.{is_early_at}

-- the COUNT was taken
abbrev pub has_taken : Dir → ℕ → Option Bearer → Bool
has_taken d c b = is_some_and (λ x. is_among c (lane d x).taken) b

-- the payload is handed up at a node that may: in downlink the terminal, in uplink another
abbrev pub is_up_at : Node → Dir → Bool
is_up_at x Dl = is_same_node x T
is_up_at x Ul = not (is_same_node x T)

-- what is handed up was carried by a data PDU that the receiving entity's node took
abbrev pub is_carried : Past → Line → Bool
is_carried p (line.Note (note.Up x id d c sdu)) = has_taken d c (latest p id) && is_up_at x d
is_carried p _ = true

-- the payload is the submission of the next COUNT to hand up
abbrev pub is_next : Dir → ℕ → List ℕ → Option Bearer → Bool
is_next d c sdu b = is_some_and (λ x. (c == deliv d x) && is_payload (submission d c x) sdu) b

-- what is handed up is the next submission, under its COUNT: so it is a front of what was submitted
abbrev pub is_front : Past → Line → Bool
is_front p (line.Note (note.Up x id d c sdu)) = is_next d c sdu (latest p id)
is_front p _ = true

-- the next COUNT to hand up is not stored; in uplink, while some node has the anchor
abbrev pub lane_is_drained : Dir → Bearer → Bool
lane_is_drained Dl b = not (is_among (deliv Dl b) b.down.taken)
lane_is_drained Ul b = is_none b.holder || not (is_among (deliv Ul b) b.up.taken)

-- so nothing waits that could be handed up
abbrev pub is_drained : Past → Bool
is_drained p = list_all (λ b. lane_is_drained Dl b && lane_is_drained Ul b) p.bearers

-- ---- inferring

-- the COUNT is the one that is inferred from its sequence number: it is within a window of the reference
abbrev pub is_within : SnLen → ℕ → ℕ → Bool
is_within n reference c = nat_le reference (c + window n) && nat_lt c (reference + window n)

-- the receiving entity of a direction is active at the receiver, in this generation
abbrev pub is_active_at : LinkId → ℕ → Dir → Bearer → Bool
is_active_at l g Dl b = is_same_node l.to T && is_number g b.terminal
is_active_at l g Ul b = holds l.to g b.holder

-- the COUNT that is inferred from a data PDU is its tag
abbrev pub pdu_is_inferred : Dir → LinkId → ℕ → Option ℕ → Option Bearer → Bool
pdu_is_inferred d l g tag b = is_none_or (λ x. implies (is_active_at l g d x) (is_some_and (is_within x.n (deliv d x)) tag)) b

-- the one that is inferred from a delivery status at the holder is its tag
abbrev pub delivery_is_inferred : LinkId → ℕ → Option ℕ → Option Bearer → Bool
delivery_is_inferred l g tag b = is_none_or (λ x. implies (holds l.to g x.holder) (is_none_or (is_within x.n (low Dl x)) tag)) b

-- of a flight that is given, with the past before
abbrev pub flight_is_inferred : Past → LinkId × Flight → Bool
flight_is_inferred p (l, f) =
    is_none_or (λ u. pdu_is_inferred (direction_of p l u) l u.g u.tag (bearer_of p u.id u.g)) (data_of f)
    && is_none_or (λ v. delivery_is_inferred l v.g v.tag (bearer_of p v.id v.g)) (delivery_of f)

-- each COUNT that is inferred from a flight which is not aged is its tag
abbrev pub is_inferred : Past → Entry → Past → Bool
is_inferred p e q = is_none_or (flight_is_inferred p) q.given

-- so is each that an anchor infers, when it becomes active, from what it took before
abbrev pub early_is_inferred : Node → ℕ → Bearer → Bool
early_is_inferred x g b = list_all (λ w. is_within b.n (deliv Ul b) w.count) (filter (is_early_at x g) b.early)

-- at the line where it does
abbrev pub is_inferred_early : Past → Line → Bool
is_inferred_early p (line.Note (note.Own x id g)) = is_none_or (early_is_inferred x g) (bearer_of p id g)
is_inferred_early p _ = true
