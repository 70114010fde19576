-- The step of a line, and the fold.
use Rattle.std.specs.Prelude.{Bool, List, None, Option, Some, [], false, filter, fold, if◌then◌else◌, map, not, true, ℕ, ◌&&◌, ◌++◌, ◌==◌, ◌∷◌}
use Rattle.dc_base.specs.Nodes.{is_same_node}
use Rattle.dc_base.specs.declared.events.Header.{Header}
use Rattle.dc_base.specs.declared.events.Line.{Line}
use Rattle.dc_base.specs.declared.events.Line.TheVariants as line
use Rattle.dc_base.specs.declared.events.Note.{Note}
use Rattle.dc_base.specs.declared.events.Note.TheVariants as note
use Rattle.dc_base.specs.declared.flights.Flight.{Flight}
use Rattle.dc_base.specs.declared.flights.Flight.TheVariants as flight
use Rattle.dc_base.specs.declared.nodes.Dir.TheVariants.{Dl}
use Rattle.dc_base.specs.declared.nodes.LinkId.{LinkId}
use Rattle.dc_base.specs.declared.nodes.Node.{Node}
use Rattle.dc_base.specs.declared.nodes.Want.{Want}
use Rattle.dc_base.specs.declared.records.Rec.{Rec}
use Rattle.dc_base.specs.declared.records.Rec.TheVariants as rec
use Rattle.transcript.specs.Transcript.{Entry}
use Rattle.claims.specs.Packets.{Packet, closing, forwarded, total}
use Rattle.claims.specs.Views.{Pdu, packet_in, pdu_of}
use Rattle.claims.specs.Table.{Command, is_change}
use Rattle.claims.specs.Past.{Bearer, Early, Lane, Past, Waiting, new_past}
use Rattle.claims.specs.Reading.{change_bearer, lane, low, on_latest, second, with_lane, with_second}
use Rattle.claims.specs.Drafts.{command_of}
use Rattle.claims.specs.Carrying.{carry, drawn_by, dropped_at}
use Rattle.claims.specs.Taking.{confirmed_by}
use Rattle.claims.specs.Judged.{judged}

-- ---- anchors

-- a report that this node took while it waited for this generation
abbrev pub is_kept_by : Node → ℕ → Waiting → Bool
is_kept_by x g w = is_same_node x w.node && (w.g == g)

-- a data PDU that it took so
abbrev pub is_early_at : Node → ℕ → Early → Bool
is_early_at x g w = is_same_node x w.node && (w.g == g)

-- the data PDUs that it took so come to its receiving entity
abbrev pub with_early : Node → ℕ → Bearer → Bearer
with_early x g b = record b {
  up = record b.up { taken = map (λ w. w.count) (filter (is_early_at x g) b.early) ++ b.up.taken };
  early = filter (λ w. not (is_early_at x g w)) b.early;
}

-- its anchor is the active one: it takes Low over
abbrev pub with_holder : Node → ℕ → Bearer → Bearer
with_holder x g b =
    record b { holder = Some (x, g); owned = g; tells = low Dl b; reports = filter (λ w. not (is_kept_by x g w)) b.reports }

-- an anchor becomes active: then what it took while it was waiting counts
abbrev pub owned_by : Node → ℕ → Bearer → Bearer
owned_by x g b = confirmed_by Dl (map (λ w. w.names) (filter (is_kept_by x g) b.reports)) (with_early x g (with_holder x g b))

-- it is frozen
abbrev pub given_away : Node → ℕ → Bearer → Bearer
given_away x g b = record (dropped_at x b) { gave = Some (x, g) }

-- ---- the terminal

-- it took a generation
abbrev pub set_to_generation : ℕ → Bearer → Bearer
set_to_generation g b = record b { terminal = Some g; is_failed = false }

-- a direction with one more payload handed up
abbrev pub with_up : ℕ → List ℕ → Lane → Lane
with_up c sdu x = record x { handed = x.handed ++ (c, sdu) ∷ [] }

-- ---- commands

-- the bearers once the command is done: the one that it set up is established
abbrev pub done_by : Option Command → List Bearer → List Bearer
done_by None bs = bs
done_by (Some c) bs = map (λ (b : Bearer). if is_change b.g c.kind then record b { is_done = true } else b) bs

-- no command is open
abbrev pub ended : Past → Past
ended p = record p { table = record p.table { command = None } }

-- a request is answered
abbrev pub answers : Node → Past → Past
answers x p = with_second x (record (second x p) { request = None }) p

-- a request is begun
abbrev pub begun : Option Node → Want → Past → Past
begun None w p = drawn_by (command_of w) None p
begun (Some x) w p = drawn_by (command_of w) (Some x) (answers x p)

-- ---- lines

-- a note does what it says
abbrev pub noted_note : Note → Past → Past
noted_note (note.Begin w) p = begun p.table.sec w p
noted_note (note.Join x g) p = with_second x (record (second x p) { joined = true }) p
noted_note (note.Leave x g) p = with_second x (record (second x p) { joined = false }) p
noted_note (note.Give x id g) p = record p { bearers = on_latest id (given_away x g) p.bearers }
noted_note (note.Own x id g) p = record p { bearers = change_bearer p id g (owned_by x g) }
noted_note (note.Set id g) p = record p { bearers = change_bearer p id g (set_to_generation g) }
noted_note (note.Unset id) p = record p { bearers = on_latest id (λ b. record b { terminal = None }) p.bearers }
noted_note (note.Up x id d count sdu) p = record p { bearers = on_latest id (λ b. with_lane d (with_up count sdu (lane d b)) b) p.bearers }
noted_note (note.Freed id d count) p = record p { bearers = on_latest id (λ b. with_lane d (record (lane d b) { freed = count }) b) p.bearers }
noted_note (note.Confirmed x) p = with_second x (record (second x p) { wants = None }) p
noted_note (note.Refused x w) p = with_second x (record (second x p) { wants = None }) p
noted_note note.Done p = record (ended p) { bearers = done_by p.table.command p.bearers }
noted_note note.Rejected p = ended p

-- a record that is sent carries its plan out, or answers a request
abbrev pub noted_record : Node → Rec → Past → Past
noted_record x (rec.Reconf q key) p = carry q.g p
noted_record x (rec.Modref w) p = answers x p
noted_record x (rec.Chgref w) p = answers x p
noted_record x (rec.Relcnf q) p = answers x p
noted_record x _ p = p

-- a flight that is sent
abbrev pub noted_flight : LinkId → Flight → Past → Past
noted_flight l (flight.Told id g count) p = record p { bearers = change_bearer p id g (λ b. record b { tells = count }) }
noted_flight l (flight.Ctl r) p = noted_record l.to r p
noted_flight l _ p = p

-- the PDUs sent, with the one that a flight carries
abbrev pub with_pdu : LinkId → Option Pdu → List (LinkId × Pdu) → List (LinkId × Pdu)
with_pdu l None us = us
with_pdu l (Some u) us = (l, u) ∷ us

-- the packets that forward, with the one that a flight is
abbrev pub with_forward : LinkId → Option Packet → List (LinkId × Packet) → List (LinkId × Packet)
with_forward l (Some (forwarded id g d number s sdu)) fs = (l, forwarded id g d number s sdu) ∷ fs
with_forward l (Some (total id g d number)) fs = (l, total id g d number) ∷ fs
with_forward l (Some (closing id g d)) fs = (l, closing id g d) ∷ fs
with_forward l _ fs = fs

-- the PDU and the packet that a flight is, among those sent; the copy of an `again` is no send
abbrev pub as_send : Option (LinkId × Flight) → LinkId → Flight → Past → Past
as_send None l f p = record p { pdus = with_pdu l (pdu_of f) p.pdus; forwards = with_forward l (packet_in f) p.forwards }
as_send (Some s) l f p = p

-- a flight stands at the end of its link
abbrev pub at_the_end : LinkId → Flight → Past → Past
at_the_end l f p = record p { standing = p.standing ++ (l, f) ∷ []; sent = (l, f) ∷ p.sent }

-- it is put there
abbrev pub put : LinkId → Flight → Past → Past
put l f p = at_the_end l f (as_send p.copied l f p)

-- a line does what it says; an event or an answer is no consequence
abbrev pub noted_line : Line → Past → Past
noted_line (line.Note n) p = noted_note n p
noted_line (line.Send l f) p = noted_flight l f (put l f p)
noted_line _ p = p

-- the event has one more line
abbrev pub with_said : Line → Past → Past
with_said x p = record p { said = p.said ++ x ∷ [] }

-- the past with a line
abbrev pub noted : Past → Line → Past
noted p x = with_said x (noted_line x p)

-- ---- the fold

-- the past after an entry
abbrev pub after : Past → Entry → Past
after p e = fold noted (judged e.event e.answer p) e.lines

-- after entries
abbrev pub past_from : Past → List Entry → Past
past_from p t = fold after p t

-- the past of a transcript of a run with so many policies
abbrev pub past : Header → ℕ → List Entry → Past
past h policies t = past_from (new_past h policies) t
