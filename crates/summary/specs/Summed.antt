-- What the lines of a transcript come to.
use Rattle.std.specs.Prelude.{ℕ, ◌+◌, List, [], fold}
use Rattle.dc_base.specs.declared.answers.Answer.{Answer}
use Rattle.dc_base.specs.declared.answers.Answer.TheVariants as answer
use Rattle.dc_base.specs.declared.events.Line.{Line}
use Rattle.dc_base.specs.declared.events.Line.TheVariants as line
use Rattle.dc_base.specs.declared.events.Note.{Note}
use Rattle.dc_base.specs.declared.events.Note.TheVariants.{Up}
use Rattle.summary.specs.declared.tallies.Concern.{Concern}
use Rattle.summary.specs.declared.tallies.Concern.TheVariants.{Nothing}
use Rattle.summary.specs.declared.tallies.Tally.{Tally}
use Rattle.summary.specs.Totals.{concern_of, with_concern, with_handed, with_latest}

-- the establishments, the oldest first; how many events, flights and answers other than ok there were; and what the event just
-- read may add
pub record Totals : Type 0 where
  pub bearers : List Tally
  pub events : ℕ
  pub flights : ℕ
  pub refused : ℕ
  pub concern : Concern

-- before the first line
abbrev pub nothing : Totals
nothing = record { bearers = []; events = 0; flights = 0; refused = 0; concern = Nothing }

-- after an answer
abbrev pub with_answer : Totals → Answer → Totals
with_answer t answer.Ok = record t { bearers = with_concern t.concern t.bearers }
with_answer t (answer.No why) = record t { refused = t.refused + 1 }

-- after a note: a payload that is handed up counts for the latest establishment of its identity
abbrev pub with_note : Totals → Note → Totals
with_note t (Up node id dir count sdu) = record t { bearers = with_latest id (with_handed dir) t.bearers }
with_note t _ = t

-- after one more line
abbrev pub with_line : Totals → Line → Totals
with_line t (line.Event e) = record t { events = t.events + 1; concern = concern_of e }
with_line t (line.Answer a) = with_answer t a
with_line t (line.Note n) = with_note t n
with_line t (line.Send l f) = record t { flights = t.flights + 1 }

-- after more lines
abbrev pub with_lines : Totals → List Line → Totals
with_lines t lines = fold with_line t lines

-- what the lines of a transcript come to
abbrev pub totals : List Line → Totals
totals lines = with_lines nothing lines
