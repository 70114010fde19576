-- What is made of a seed and a number of turns: the text of the script, and what its run comes to.
use Rattle.std.specs.Prelude.{ℕ, ◌≤◌, List, ◌++◌, codes, length, map}
use Rattle.std.specs.List.{flat_map}
use Rattle.dc_base.specs.declared.events.Event.{Event}
use Rattle.dc_base.specs.declared.events.Line.{Line}
use Rattle.transcript.specs.Text.{ended, event_text, header_text}
use Rattle.transcript.specs.Transcript.{entry_lines}
use Rattle.script_text.specs.declared.scripted.Scripted.{Scripted}
use Rattle.script_text.specs.declared.scripted.Scripted.TheVariants.{Drain, One}
use Rattle.node_rules.specs.Choices.{Choices}
use Rattle.node_rules.specs.Run.{entries_from}
use Rattle.node_rules.specs.World.{new_world}
use Rattle.dc_network.specs.Counting.{IsWithin, counted}
use Rattle.made_scripts.specs.Scripts.{made_header, made_lines, opened, opening, script_events, turns_from}
use Rattle.summary.specs.Summed.{totals}
use Rattle.summary.specs.Texts.{summary_text}

-- ---- the text of the script

-- a line of a script, without its end
abbrev pub line_words : Scripted → List ℕ
line_words (One e) = event_text e
line_words Drain = codes "drain"

-- lines, each with its end
abbrev pub lines_words : List Scripted → List ℕ
lines_words lines = flat_map (λ l. ended (line_words l)) lines

-- the lines of events
abbrev pub event_lines : List Event → List ℕ
event_lines es = lines_words (map (λ e. One e) es)

-- the script: its header and its lines
abbrev pub made_text : Choices → ℕ → ℕ → List ℕ
made_text c seed turns = ended (header_text made_header) ++ lines_words (made_lines c seed turns)

-- ---- its run

-- its events up to the last turn
abbrev pub turned : Choices → ℕ → ℕ → List Event
turned c seed turns = script_events c (new_world made_header) opening ++ turns_from c (opened c) 0 seed turns

-- all its events
abbrev pub made_events : Choices → ℕ → ℕ → List Event
made_events c seed turns = script_events c (new_world made_header) (made_lines c seed turns)

-- the lines of the transcript of events under its header, by the rules of the nodes and the links
abbrev pub run_lines : Choices → List Event → List Line
run_lines c es = flat_map entry_lines (entries_from c (new_world made_header) es)

-- what the transcript of the script comes to
abbrev pub made_summary : Choices → ℕ → ℕ → List ℕ
made_summary c seed turns = summary_text (totals (run_lines c (made_events c seed turns)))

-- ---- the limits

-- the most octets of a script
abbrev pub most_octets : ℕ
most_octets = 16777216

-- the run up to the last turn is within the limits of a run, and the script within that of a script
pub record IsMakeable (c : Choices) (seed turns : ℕ) : Type 0 where
  pub ran : IsWithin (counted (run_lines c (turned c seed turns)))
  pub short : length (made_text c seed turns) ≤ most_octets

-- the run of the script is within the limits of a run
abbrev pub IsSummable : Choices → ℕ → ℕ → Type 0
IsSummable c seed turns = IsWithin (counted (run_lines c (made_events c seed turns)))
