-- How a run of some octets ends, by its status, and what it has written then.
use Rattle.std.specs.Prelude.{◌≡◌, ℕ, ◌+◌, ◌≤◌, ◌⊎◌, List, [], ◌∷◌, ◌++◌, length, take, Option, Some}
use Rattle.std.specs.List.{flat_map}
use Rattle.std.specs.Io.KnownBytes.{Appends, IsAtEnd}
use Rattle.dc_base.specs.declared.answers.Status.{Status}
use Rattle.dc_base.specs.declared.answers.Status.TheVariants as status
use Rattle.dc_base.specs.declared.events.Header.{Header}
use Rattle.dc_outside.specs.Octets.{AppendsFront}
use Rattle.dc_text.specs.Lines.{IsCutOff}
use Rattle.transcript.specs.Text.{header_text, ended, lines_text}
use Rattle.transcript.specs.Transcript.{Entry, entry_lines}
use Rattle.script_text.specs.Scripts.{IsScriptHeader}
use Rattle.node_rules.specs.Choices.{Choices}
use Rattle.dc_network.specs.Counting.{IsWithin, counted}
use Rattle.dc_top.specs.Script.{HasRead, HasBadHeader, HasBadLine, HasLine, IsTooLong, script_text}
use Rattle.dc_top.specs.Run.{IsTranscriptOf, IsFrontOf, RanTo, RanUpTo}

-- line 1 is bad and nothing is written, or a later line is, after a run of the lines before it
abbrev pub IsBadAt : Choices → List ℕ → ℕ → ℕ → List ℕ → Type 0
IsBadAt c input line column text =
    (HasBadHeader input column × (line ≡ 1) × (text ≡ []))
    ⊎ ((rest : List ℕ) × (ran : RanTo c IsTranscriptOf input rest text) × HasLine (length ran.read.taken) rest × HasBadLine rest column
    × (line ≡ length ran.lines + 2))

-- the source failed before the LF of the next line, line 1 or a later one; each line before it was taken with its LF
abbrev pub IsCutOffAt : Choices → List ℕ → List ℕ → Option (List ℕ) → Type 0
IsCutOffAt c input text left =
    ((text ≡ []) × IsCutOff (Some input) left)
    ⊎ ((rest : List ℕ) × (ran : RanTo c IsTranscriptOf input rest text) × (ran.read.taken ≡ script_text ran.header ran.lines)
    × IsCutOff (Some rest) left)

-- the next event passes a limit of the counts
abbrev pub PassesLimit : Choices → List ℕ → List ℕ → Type 0
PassesLimit c input text =
    (rest : List ℕ) × (e : Entry) × (ran : RanUpTo c e input rest text) × (IsWithin (counted (flat_map entry_lines (ran.entries ++ e ∷ []))) → ⊥)

-- a limit is passed: by line 1, by a later line, or by an event
abbrev pub IsTooLongAt : Choices → List ℕ → List ℕ → Type 0
IsTooLongAt c input text =
    ((text ≡ []) × IsTooLong 0 input)
    ⊎ ((rest : List ℕ) × (ran : RanTo c IsTranscriptOf input rest text) × IsTooLong (length ran.read.taken) rest)
    ⊎ PassesLimit c input text

-- a run of a front of the lines, the last of which may have ended early; or of nothing
abbrev pub IsRunOfFront : Choices → List ℕ → List ℕ → Type 0
IsRunOfFront c input text = (text ≡ []) ⊎ ((rest : List ℕ) × RanTo c IsFrontOf input rest text)

-- how many octets are read at a time
abbrev pub most_read : ℕ
most_read = 65536

-- past the octets before this rest at most one read was taken from the source
pub record IsAhead (rest : List ℕ) (left : Option (List ℕ)) : Type 0 where
  pub unread : List ℕ
  pub told : left ≡ Some unread
  pub few : length rest ≤ most_read + length unread

-- a front of the line of the header was put out, and no line after it was needed
pub record IsCutInHeader (input : List ℕ) (left old new : Option (List ℕ)) : Type 0 where
  pub header : Header
  pub good : IsScriptHeader header
  pub rest : List ℕ
  pub read : HasRead input header [] rest
  pub put_out : AppendsFront old new (ended (header_text header))
  pub ahead : IsAhead rest left

-- the whole text before an event, and a front of the event's own, were put out, and no line after the event's was needed
pub record IsCutInEvent (c : Choices) (input : List ℕ) (left old new : Option (List ℕ)) : Type 0 where
  pub entry : Entry
  pub rest : List ℕ
  pub text : List ℕ
  pub ran : RanUpTo c entry input rest text
  pub within : IsWithin (counted (flat_map entry_lines (ran.entries ++ entry ∷ [])))
  pub front : ℕ
  pub put_out : Appends old new (text ++ take front (lines_text (entry_lines entry)))
  pub ahead : IsAhead rest left

-- what is said of the octets put out before and after a run of these octets that ended so, with these left at the source:
-- after Ok the source is at its end
abbrev pub HasEnded : Choices → List ℕ → Status → Option (List ℕ) → Option (List ℕ) → Option (List ℕ) → Type 0
HasEnded c input status.Ok left old new = (text : List ℕ) × RanTo c IsTranscriptOf input [] text × Appends old new text × IsAtEnd left
HasEnded c input (status.BadLine line column) left old new = (text : List ℕ) × IsBadAt c input line column text × Appends old new text
HasEnded c input status.ReadFault left old new = (text : List ℕ) × IsCutOffAt c input text left × Appends old new text
HasEnded c input status.TooLong left old new = (text : List ℕ) × IsTooLongAt c input text × Appends old new text
HasEnded c input status.Memory left old new = (text : List ℕ) × IsRunOfFront c input text × Appends old new text
HasEnded c input status.WriteFault left old new = IsCutInHeader input left old new ⊎ IsCutInEvent c input left old new
HasEnded c input status.Usage left old new = ⊥
