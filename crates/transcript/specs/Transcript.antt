-- A transcript: what happened in a run, event by event.
use Rattle.std.specs.Prelude.{ℕ, List, [], ◌∷◌, ◌++◌, ◌⊎◌, ⊤}
use Rattle.std.specs.List.{flat_map}
use Rattle.dc_base.specs.declared.answers.Answer.{Answer}
use Rattle.dc_base.specs.declared.events.Header.{Header}
use Rattle.dc_base.specs.declared.events.Event.{Event}
use Rattle.dc_base.specs.declared.events.Line.{Line}
use Rattle.dc_base.specs.declared.events.Line.TheVariants as line
use Rattle.dc_base.specs.declared.nodes.LinkId.{LinkId}
use Rattle.dc_base.specs.declared.flights.Flight.{Flight}
use Rattle.transcript.specs.Text.{header_text, ended, lines_text}

-- an event, its answer, and its consequences: notes and sends, in the order of their lines
pub record Entry : Type 0 where
  pub event : Event
  pub answer : Answer
  pub lines : List Line

-- all lines of an entry
abbrev pub entry_lines : Entry → List Line
entry_lines e = line.Event e.event ∷ line.Answer e.answer ∷ e.lines

-- the text of a transcript: the header, and then the lines of each entry, the oldest first
abbrev pub transcript_text : Header → List Entry → List ℕ
transcript_text h t = ended (header_text h) ++ lines_text (flat_map entry_lines t)

-- the flights that lines put on links
abbrev pub sends_of : Line → List (LinkId × Flight)
sends_of (line.Send l f) = (l, f) ∷ []
sends_of _ = []

-- the flights that lines put on links, each with its link, in order
abbrev pub sends : List Line → List (LinkId × Flight)
sends lines = flat_map sends_of lines

-- what each entry gives, with the entries before it: one list
abbrev pub gathered_from : {A : Type 0} → (List Entry → Entry → List A) → List Entry → List Entry → List A
gathered_from f before [] = []
gathered_from f before (e ∷ es) = f before e ++ gathered_from f (before ++ e ∷ []) es

-- what the entries of a whole transcript give, the oldest first
abbrev pub gathered : {A : Type 0} → (List Entry → Entry → List A) → List Entry → List A
gathered f t = gathered_from f [] t

-- a claim holds of each entry, with the entries before it: so it holds at every moment of the run
abbrev pub EachFrom : (List Entry → Entry → Type 0) → List Entry → List Entry → Type 0
EachFrom P before [] = ⊤
EachFrom P before (e ∷ es) = P before e × EachFrom P (before ++ e ∷ []) es

-- a claim holds of each entry of a whole transcript
abbrev pub Each : (List Entry → Entry → Type 0) → List Entry → Type 0
Each P t = EachFrom P [] t

-- it holds of some entry
abbrev pub SomeFrom : (List Entry → Entry → Type 0) → List Entry → List Entry → Type 0
SomeFrom P before [] = ⊥
SomeFrom P before (e ∷ es) = P before e ⊎ SomeFrom P (before ++ e ∷ []) es

-- a claim holds of some entry of a whole transcript
abbrev pub SomeEntry : (List Entry → Entry → Type 0) → List Entry → Type 0
SomeEntry P t = SomeFrom P [] t
