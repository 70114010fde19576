-- The order of an event's lines.
use Rattle.std.specs.List.{last_or}
use Rattle.std.specs.Option.{option_map}
use Rattle.std.specs.Prelude.{Bool, List, None, Option, Some, [], false, if◌then◌else◌, nat_lt, true, unwrap_or, ℕ, ◌&&◌, ◌+◌, ◌==◌, ◌||◌, ◌∷◌}
use Rattle.dc_base.specs.Links.{all_links, is_same_link}
use Rattle.dc_base.specs.declared.events.Line.{Line}
use Rattle.dc_base.specs.declared.events.Line.TheVariants as line
use Rattle.dc_base.specs.declared.events.Note.{Note}
use Rattle.dc_base.specs.declared.events.Note.TheVariants as note
use Rattle.dc_base.specs.declared.flights.Flight.{Flight}
use Rattle.dc_base.specs.declared.flights.Flight.TheVariants as flight
use Rattle.dc_base.specs.declared.nodes.LinkId.{LinkId}
use Rattle.dc_base.specs.declared.records.Rec.{Rec}
use Rattle.dc_base.specs.declared.records.Rec.TheVariants as rec
use Rattle.claims.specs.Sameness.{is_none_or}
use Rattle.claims.specs.Packets.{Packet, closing, forwarded, kind_of, packet_of, total}
use Rattle.claims.specs.Views.{packet_owner}
use Rattle.claims.specs.Past.{Past}

-- the place of a link among the 22, from k on
abbrev pub place_of : ℕ → LinkId → List LinkId → ℕ
place_of k l [] = k
place_of k l (x ∷ xs) = if is_same_link l x then k else place_of (k + 1) l xs

-- the place of a note: what begins; who joins or leaves; anchors and the terminal by identity; what goes up by identity
-- and COUNT; what is freed; then sends; answers to a `want`; the end of the command
abbrev pub place_of_note : Note → List ℕ
place_of_note (note.Begin w) = 0 ∷ []
place_of_note (note.Join x g) = 1 ∷ []
place_of_note (note.Leave x g) = 1 ∷ []
place_of_note (note.Give x id g) = 2 ∷ id ∷ []
place_of_note (note.Own x id g) = 2 ∷ id ∷ []
place_of_note (note.Set id g) = 2 ∷ id ∷ []
place_of_note (note.Unset id) = 2 ∷ id ∷ []
place_of_note (note.Up x id d c sdu) = 3 ∷ id ∷ c ∷ []
place_of_note (note.Freed id d c) = 4 ∷ id ∷ []
place_of_note (note.Confirmed x) = 6 ∷ []
place_of_note (note.Refused x w) = 6 ∷ []
place_of_note note.Done = 7 ∷ []
place_of_note note.Rejected = 7 ∷ []

-- a record on its link: answers to requests, transfers by identity, others, and last the end of a context
abbrev pub place_of_record : Rec → List ℕ
place_of_record (rec.Addack g) = 0 ∷ []
place_of_record (rec.Modack g) = 0 ∷ []
place_of_record (rec.Relack g) = 0 ∷ []
place_of_record (rec.Snst t) = 1 ∷ t.id ∷ []
place_of_record (rec.Uecr g) = 3 ∷ []
place_of_record _ = 2 ∷ []

-- a packet in its tunnel: PDUs by identity and COUNT, then forwarding by identity, downlink first: SDUs, total, End Marker
abbrev pub place_of_packet : Option ℕ → Option Packet → List ℕ
place_of_packet tag (Some (forwarded id g d k s sdu)) = 2 ∷ id ∷ kind_of d ∷ 0 ∷ k ∷ []
place_of_packet tag (Some (total id g d k)) = 2 ∷ id ∷ kind_of d ∷ 1 ∷ []
place_of_packet tag (Some (closing id g d)) = 2 ∷ id ∷ kind_of d ∷ 2 ∷ []
place_of_packet tag v = 1 ∷ unwrap_or (option_map (λ o. o.0) (packet_owner v)) 0 ∷ unwrap_or tag 0 ∷ []

-- a flight on its link: an ack before PDUs, PDUs by identity and COUNT
abbrev pub place_of_flight : Flight → List ℕ
place_of_flight (flight.Air id g num tag pdu) = 1 ∷ id ∷ unwrap_or tag 0 ∷ []
place_of_flight (flight.Ack id g num) = 0 ∷ []
place_of_flight (flight.Tun tag packet) = place_of_packet tag (packet_of packet)
place_of_flight (flight.Sdu id g sdu) = 1 ∷ id ∷ []
place_of_flight (flight.End id g) = 1 ∷ id ∷ []
place_of_flight (flight.Told id g count) = 1 ∷ id ∷ []
place_of_flight (flight.Ctl r) = place_of_record r

-- the place of a line
abbrev pub place : Line → List ℕ
place (line.Note n) = place_of_note n
place (line.Send l f) = 5 ∷ place_of 0 l all_links ∷ place_of_flight f
place (line.Event e) = []
place (line.Answer a) = []

-- the one place is not after the other
abbrev pub is_not_after : List ℕ → List ℕ → Bool
is_not_after [] ys = true
is_not_after (x ∷ xs) [] = false
is_not_after (x ∷ xs) (y ∷ ys) = nat_lt x y || ((x == y) && is_not_after xs ys)

-- a line ends a command, or answers a waiting request for release of which nothing is left to release: after it the lines of
-- another command begin
abbrev pub ends_row : Line → Bool
ends_row (line.Note note.Done) = true
ends_row (line.Note note.Rejected) = true
ends_row (line.Send l (flight.Ctl (rec.Relcnf plan))) = plan.g == 0
ends_row _ = false

-- the last line of an event so far
abbrev pub last_line : List Line → Option Line
last_line xs = last_or None xs

-- the lines of an event stand in their order
abbrev pub is_in_order : Past → Line → Bool
is_in_order p x = is_none_or (λ y. ends_row y || is_not_after (place y) (place x)) (last_line p.said)
