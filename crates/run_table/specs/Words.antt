-- The lines that change the command table: a command ends, one is begun for a secondary node, and a plan is carried out.
use Rattle.std.specs.Prelude.{Bool, List, None, Option, Some, [], false, fold, map, true, ℕ, ◌++◌, ◌∷◌}
use Rattle.dc_base.specs.Links.{link}
use Rattle.dc_base.specs.declared.events.Line.{Line}
use Rattle.dc_base.specs.declared.events.Line.TheVariants as line
use Rattle.dc_base.specs.declared.events.Note.{Note}
use Rattle.dc_base.specs.declared.events.Note.TheVariants as note
use Rattle.dc_base.specs.declared.flights.Flight.{Flight}
use Rattle.dc_base.specs.declared.flights.Flight.TheVariants as flight
use Rattle.dc_base.specs.declared.nodes.Class.TheVariants.{Ctl}
use Rattle.dc_base.specs.declared.nodes.Node.TheVariants.{M, T}
use Rattle.dc_base.specs.declared.nodes.Want.{Want}
use Rattle.dc_base.specs.declared.records.Plan.{Plan}
use Rattle.dc_base.specs.declared.records.Rec.{Rec}
use Rattle.dc_base.specs.declared.records.Rec.TheVariants as rec
use Rattle.node_rules.specs.Choices.{Send}
use Rattle.claims.specs.Drafts.{command_of}
use Rattle.run_table.specs.View.{View, carries, draws, ends}

-- the note is such a line
abbrev pub is_word : Note → Bool
is_word (note.Begin w) = true
is_word note.Done = true
is_word note.Rejected = true
is_word _ = false

-- the record is
abbrev pub is_order : Rec → Bool
is_order (rec.Reconf plan key) = true
is_order _ = false

-- the flight is
abbrev pub orders : Flight → Bool
orders (flight.Ctl r) = is_order r
orders _ = false

-- the send is
abbrev pub is_order_sent : Send → Bool
is_order_sent s = orders s.1

-- the line is
abbrev pub is_word_line : Line → Bool
is_word_line (line.Note n) = is_word n
is_word_line (line.Send l f) = orders f
is_word_line _ = false

-- a note changes the table
abbrev pub hears_note : View → Note → View
hears_note v (note.Begin w) = draws (command_of w) v.table.sec v
hears_note v note.Done = ends v
hears_note v note.Rejected = ends v
hears_note v _ = v

-- a record
abbrev pub hears_record : View → Rec → View
hears_record v (rec.Reconf plan key) = carries plan.g v
hears_record v _ = v

-- a flight
abbrev pub hears_flight : View → Flight → View
hears_flight v (flight.Ctl r) = hears_record v r
hears_flight v _ = v

-- a line
abbrev pub hears : View → Line → View
hears v (line.Note n) = hears_note v n
hears v (line.Send l f) = hears_flight v f
hears v _ = v

-- how a command ends
pub data Ending : Type 0 where
  done : Ending
  rejected : Ending

-- the note that says so
abbrev pub ending_note : Ending → Note
ending_note done = note.Done
ending_note rejected = note.Rejected

-- what an event says of commands: whether one ends, whether one begins for a secondary node, and which plan is carried out,
-- with the octets of its root
pub record Words : Type 0 where
  pub over : Option Ending
  pub begun : Option Want
  pub order : Option (Plan × List ℕ)

-- nothing
abbrev pub no_words : Words
no_words = record { over = None; begun = None; order = None }

-- as notes
abbrev pub over_notes : Option Ending → List Note
over_notes None = []
over_notes (Some x) = ending_note x ∷ []

-- the note of a command that is begun for a secondary node
abbrev pub begun_notes : Option Want → List Note
begun_notes None = []
begun_notes (Some w) = note.Begin w ∷ []

-- the notes of it
abbrev pub notes_of : Words → List Note
notes_of w = over_notes w.over ++ begun_notes w.begun

-- the record to the terminal
abbrev pub order_sends : Option (Plan × List ℕ) → List Send
order_sends None = []
order_sends (Some x) = (link M T Ctl, flight.Ctl (rec.Reconf x.0 x.1)) ∷ []

-- the lines of it, in order
abbrev pub lines_in : List Note → List Send → List Line
lines_in ns ss = map (λ n. line.Note n) ns ++ map (λ (s : Send). line.Send s.0 s.1) ss

-- what becomes of the table by them
abbrev pub by_words : Words → View → View
by_words w v = fold hears v (lines_in (notes_of w) (order_sends w.order))
