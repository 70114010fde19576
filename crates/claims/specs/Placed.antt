-- Each note stands where its rule says.
use Rattle.std.specs.List.{filter_map, list_all, list_any, range_with_len}
use Rattle.std.specs.Option.{option_and_then}
use Rattle.std.specs.Prelude.{Bool, None, Option, Some, false, if◌then◌else◌, is_some, nat_lt, not, true, ℕ, ◌&&◌, ◌+◌, ◌==◌, ◌||◌}
use Rattle.dc_base.specs.Links.{link}
use Rattle.dc_base.specs.Nodes.{is_same_dir, is_same_node}
use Rattle.dc_base.specs.declared.answers.Word.{Word}
use Rattle.dc_base.specs.declared.events.Line.{Line}
use Rattle.dc_base.specs.declared.events.Line.TheVariants as line
use Rattle.dc_base.specs.declared.events.Note.{Note}
use Rattle.dc_base.specs.declared.events.Note.TheVariants as note
use Rattle.dc_base.specs.declared.flights.Flight.{Flight}
use Rattle.dc_base.specs.declared.flights.Flight.TheVariants as flight
use Rattle.dc_base.specs.declared.nodes.Class.TheVariants.{Tun}
use Rattle.dc_base.specs.declared.nodes.Dir.{Dir}
use Rattle.dc_base.specs.declared.nodes.Dir.TheVariants.{Dl, Ul}
use Rattle.dc_base.specs.declared.nodes.LinkId.{LinkId}
use Rattle.dc_base.specs.declared.nodes.Node.{Node}
use Rattle.dc_base.specs.declared.nodes.Node.TheVariants.{A, B, M, T}
use Rattle.dc_base.specs.declared.records.Rec.{Rec}
use Rattle.dc_base.specs.declared.records.Rec.TheVariants as rec
use Rattle.claims.specs.Sameness.{is_number, is_same_word, is_some_and}
use Rattle.claims.specs.Packets.{Packet, packet_of, total}
use Rattle.claims.specs.Views.{packet_in, record_in}
use Rattle.claims.specs.Table.{command_has, is_change}
use Rattle.claims.specs.Past.{Past}
use Rattle.claims.specs.Reading.{Setting, bearer_of, given_record, given_to, is_moved, latest, second, sets, setting, unsets}
use Rattle.claims.specs.Numbers.{forward_after}
use Rattle.claims.specs.LicenceForward.{first_of, moves_from, transfer_in}
use Rattle.claims.specs.LicenceRecords.{Request, addition, due_reply, gives_record, goes, may_end, rejects, release, request_number}
use Rattle.claims.specs.Replied.{begins}

-- ---- carrying out at a secondary

-- a record that ends what a secondary asked for, and makes it leave
abbrev pub tells_leave : ℕ → Rec → Bool
tells_leave g (rec.Relcnf q) = q.g == g
tells_leave g (rec.Chgcnf q) = q.g == g
tells_leave g _ = false

-- the node accepts a request of this generation now
abbrev pub is_accepting : Past → Node → ℕ → Bool
is_accepting p x g = is_some_and (λ y. not y.is_rejection && (y.g == g)) (due_reply p x)

-- one of this kind
abbrev pub is_accepting_of : Past → Node → Request → ℕ → Bool
is_accepting_of p x r g = is_accepting p x g && is_some_and (λ y. request_number y.to == request_number r) (due_reply p x)

-- the node carries the plan of this generation out now
abbrev pub is_carrying : Past → Node → ℕ → Bool
is_carrying p T g = false
is_carrying p M g = goes p g
is_carrying p A g = is_accepting p A g || (given_to A p && gives_record (tells_leave g) p)
is_carrying p B g = is_accepting p B g || (given_to B p && gives_record (tells_leave g) p)

-- ---- adopting

-- the node took a flight of which the test holds
abbrev pub has_arrived : Past → Node → (Flight → Bool) → Bool
has_arrived p x f = list_any (λ s. is_same_node s.0.to x && f s.1) p.arrived

-- the flight is the transfer of this identity and generation
abbrev pub is_transfer_of : ℕ → ℕ → Flight → Bool
is_transfer_of id g f = is_some_and (λ t. (t.id == id) && (t.g == g)) (option_and_then transfer_in (record_in f))

-- the total of the tunnel, if a packet is one
abbrev pub total_in : ℕ → ℕ → Dir → Packet → Option ℕ
total_in id g d (total i h e k) = if (i == id) && (h == g) && is_same_dir d e then Some k else None
total_in id g d _ = None

-- the first total that a node took
abbrev pub total_at : Past → Node → ℕ → ℕ → Dir → Option ℕ
total_at p x id g d =
    first_of (filter_map (λ (s : LinkId × Flight). if is_same_node s.0.to x then option_and_then (total_in id g d) (packet_in s.1) else None) p.arrived)

-- the flight is the forwarded SDU of this number
abbrev pub is_forward_of : ℕ → ℕ → Dir → ℕ → Flight → Bool
is_forward_of id g d k (flight.Tun tag packet) = is_some_and (λ v. forward_after id g d (link M M Tun, v) == k + 1) (packet_of packet)
is_forward_of id g d k _ = false

-- the node has the total of a tunnel, and every packet below it
abbrev pub is_whole_tunnel : Past → Node → ℕ → ℕ → Dir → Bool
is_whole_tunnel p x id g d =
    is_some_and (λ n. list_all (λ k. has_arrived p x (is_forward_of id g d k)) (range_with_len 0 n)) (total_at p x id g d)

-- it has the transfer and both tunnels
abbrev pub is_all_in : Past → Node → ℕ → ℕ → Bool
is_all_in p x id g = has_arrived p x (is_transfer_of id g) && is_whole_tunnel p x id g Dl && is_whole_tunnel p x id g Ul

-- an anchor that is fresh or stays is active when the node carries the plan out; one that moves when all of it is in
abbrev pub may_become : Past → Node → ℕ → ℕ → Setting → Bool
may_become p x id g s = if is_moved s then is_all_in p x id g else is_carrying p x g

-- ---- what the terminal and the secondaries take

-- a plan that the terminal takes sets this identity in this generation
abbrev pub given_sets : ℕ → ℕ → Rec → Bool
given_sets id g (rec.Reconf q key) = (q.g == g) && list_any (sets id) q.items
given_sets id g _ = false

-- it drops it
abbrev pub given_unsets : ℕ → Rec → Bool
given_unsets id (rec.Reconf q key) = list_any (unsets id) q.items
given_unsets id _ = false

-- a record says yes to a `want`
abbrev pub confirms_want : Rec → Bool
confirms_want (rec.Modcnf g) = true
confirms_want (rec.Chgcnf q) = true
confirms_want (rec.Relcnf q) = true
confirms_want _ = false

-- a record says no to a `want`, with this word
abbrev pub refuses_want : Word → Rec → Bool
refuses_want w (rec.Modref v) = is_same_word w v
refuses_want w (rec.Chgref v) = is_same_word w v
refuses_want w _ = false

-- a `want` of the node waits for its answer
abbrev pub is_wanting : Past → Node → Bool
is_wanting p x = is_some (second x p).wants

-- ---- the notes

-- where a note may stand; what goes up and what is freed have claims of their own
abbrev pub note_reason : Past → Note → Bool
note_reason p (note.Begin w) = begins w p
note_reason p (note.Join x g) = not (second x p).joined && is_accepting_of p x addition g
note_reason p (note.Leave x g) = (second x p).joined && (is_accepting_of p x release g || (given_to x p && gives_record (tells_leave g) p))
note_reason p (note.Give x id g) = is_carrying p x g && is_some_and (moves_from x) (setting p id g)
note_reason p (note.Own x id g) = is_some_and (λ b. nat_lt b.owned g) (bearer_of p id g) && is_some_and (may_become p x id g) (setting p id g)
note_reason p (note.Set id g) = given_to T p && gives_record (given_sets id g) p && is_some_and (λ b. not (is_number g b.terminal)) (bearer_of p id g)
note_reason p (note.Unset id) = given_to T p && gives_record (given_unsets id) p && is_some_and (λ b. is_some b.terminal) (latest p id)
note_reason p (note.Up x id d c sdu) = true
note_reason p (note.Freed id d c) = true
note_reason p (note.Confirmed x) = is_wanting p x && given_to x p && gives_record confirms_want p
note_reason p (note.Refused x w) = is_wanting p x && given_to x p && gives_record (refuses_want w) p
note_reason p note.Done = command_has (λ c. may_end p c.kind) p.table
note_reason p note.Rejected = command_has (λ c. is_some_and (λ g. is_change g c.kind) (option_and_then rejects (given_record p))) p.table

-- each note stands in its place
abbrev pub is_placed : Past → Line → Bool
is_placed p (line.Note n) = note_reason p n
is_placed p _ = true
