-- What secondaries are answered, and what they ask for: where it is due, and wherever it is.
use Rattle.std.specs.List.{list_any}
use Rattle.std.specs.Prelude.{Bool, List, false, is_none, is_some, not, true, ◌&&◌, ◌||◌}
use Rattle.dc_base.specs.Nodes.{is_same_node}
use Rattle.dc_base.specs.declared.answers.Word.TheVariants as word
use Rattle.dc_base.specs.declared.events.Event.TheVariants as event
use Rattle.dc_base.specs.declared.events.Line.{Line}
use Rattle.dc_base.specs.declared.events.Line.TheVariants as line
use Rattle.dc_base.specs.declared.events.Note.TheVariants as note
use Rattle.dc_base.specs.declared.flights.Flight.TheVariants as flight
use Rattle.dc_base.specs.declared.nodes.LinkId.{LinkId}
use Rattle.dc_base.specs.declared.nodes.Node.{Node}
use Rattle.dc_base.specs.declared.nodes.Node.TheVariants.{A, B}
use Rattle.dc_base.specs.declared.nodes.Want.{Want}
use Rattle.dc_base.specs.declared.nodes.Want.TheVariants as want
use Rattle.dc_base.specs.declared.records.Rec.{Rec}
use Rattle.dc_base.specs.declared.records.Rec.TheVariants as rec
use Rattle.transcript.specs.Transcript.{Entry}
use Rattle.claims.specs.Sameness.{implies, is_at, is_none_or, is_same_want, is_same_word, is_some_and}
use Rattle.claims.specs.Views.{record_in}
use Rattle.claims.specs.Past.{Past}
use Rattle.claims.specs.Reading.{second, sends_in}
use Rattle.claims.specs.Drafts.{spends}
use Rattle.claims.specs.Causes.{is_busy, is_counter_spent}
use Rattle.claims.specs.LicenceRecords.{confirms_release, due_reply, has_request, is_due_reply, refuses, reply_of}

-- ---- begun

-- a release is not begun where it would spend an identity, a new K_SN not where the counters are spent
abbrev pub may_begin : Want → Past → Bool
may_begin want.Release p = not (spends p.table event.Release)
may_begin want.Rekey p = not (is_counter_spent p)
may_begin want.Change p = not (is_counter_spent p)

-- a request is begun: of the secondary, with no command open
abbrev pub begins : Want → Past → Bool
begins w p = is_some_and (λ x. has_request p x w) p.table.sec && not (is_busy p) && may_begin w p

-- ---- where it is due

-- an answer, a refusal and a `relcnf` come only where they are due
abbrev pub record_is_due : Past → LinkId → Rec → Bool
record_is_due p l (rec.Modref w) = refuses p l want.Rekey w
record_is_due p l (rec.Chgref w) = refuses p l want.Change w
record_is_due p l (rec.Relcnf q) = confirms_release p l.to q
record_is_due p l r = is_none (reply_of r) || is_due_reply p l r

-- and so does a `begin`
abbrev pub is_due_line : Past → Line → Bool
is_due_line p (line.Send l (flight.Ctl r)) = record_is_due p l r
is_due_line p (line.Note (note.Begin w)) = begins w p
is_due_line p _ = true

-- ---- wherever it is

-- some sent flight is a record of which the test holds
abbrev pub sends_record : (Rec → Bool) → List Line → Bool
sends_record f xs = list_any (λ s. is_some_and f (record_in s.1)) (sends_in xs)

-- to this node
abbrev pub sends_record_to : Node → (Rec → Bool) → List Line → Bool
sends_record_to x f xs = list_any (λ s. is_same_node x s.0.to && is_some_and f (record_in s.1)) (sends_in xs)

-- an answer to a request
abbrev pub is_reply : Rec → Bool
is_reply r = is_some (reply_of r)

-- a request that a node takes is answered
abbrev pub reply_comes : Past → Node → List Line → Bool
reply_comes q x xs = implies (is_some (due_reply q x)) (sends_record is_reply xs)

-- a request that the master took was answered or begun; or it is a release that waits: for the open command, or for an
-- identity that it would spend
abbrev pub is_tried : Past → Node → Want → Bool
is_tried p x w = is_same_want w want.Release && (is_busy p || (is_at x p.table.sec && spends p.table event.Release))

-- so of each secondary
abbrev pub has_tried : Past → Node → Bool
has_tried p x = is_none_or (is_tried p x) (second x p).request

-- the line ends a command by a rejection
abbrev pub is_rejected_line : Line → Bool
is_rejected_line (line.Note note.Rejected) = true
is_rejected_line _ = false

-- the record tells a secondary that what it asked for was rejected
abbrev pub is_rejected_word : Rec → Bool
is_rejected_word (rec.Modref w) = is_same_word w word.Rejected
is_rejected_word (rec.Chgref w) = is_same_word w word.Rejected
is_rejected_word _ = false

-- the secondary that asked for a command is told where that is rejected
abbrev pub asker_is_told : Past → List Line → Bool
asker_is_told p xs =
    implies (list_any is_rejected_line xs) (is_none_or (λ c. is_none_or (λ x. sends_record_to x is_rejected_word xs) c.asker) p.table.command)

-- nothing that is due is missing after an event
abbrev pub all_replied : Past → Entry → Past → Bool
all_replied p e q = reply_comes q A e.lines && reply_comes q B e.lines && has_tried q A && has_tried q B && asker_is_told p e.lines
