-- Which sort of line may stand where, and where octets leave the grammar of transcripts.
use Rattle.std.specs.Prelude.{◌≡◌, ◌≢◌, ℕ, ◌+◌, ◌<◌, ◌≤◌, ◌⊎◌, List, [], ◌∷◌, length, Option, Some, None}
use Rattle.std.specs.Option.{option_and_then}
use Rattle.std.specs.List.{AllByRecursion}
use Rattle.dc_base.specs.declared.events.Line.{Line}
use Rattle.dc_base.specs.declared.events.Line.TheVariants as line
use Rattle.dc_text.specs.Lines.{line_of, rest_of}
use Rattle.transcript_text.specs.Grammar.{IsColumn}
use Rattle.transcript_text.specs.Ranges.{IsLine}
use Rattle.transcript_text.specs.Spelling.{IsShown, IsTextOf}
use Rattle.transcript_entries.specs.Lines.{AreFirstLines, texts}

-- what comes next: an event, or nothing; the answer of an event; or a further line of an entry, or the next event
pub data Place : Type 0 where
  opening : Place
  answering : Place
  within : Place

-- the place after a line; None where a line of this sort may not stand
abbrev pub place_after_line : Place → Line → Option Place
place_after_line opening (line.Event e) = Some answering
place_after_line opening _ = None
place_after_line answering (line.Answer a) = Some within
place_after_line answering _ = None
place_after_line within (line.Event e) = Some answering
place_after_line within _ = Some within

-- the place after lines; None where one of them may not stand
abbrev pub place_after : Place → List Line → Option Place
place_after place [] = Some place
place_after place (l ∷ ls) = option_and_then (λ q. place_after q ls) (place_after_line place l)

-- a line that is read: its parts are in their ranges, and nothing of it is hidden by its text
pub record IsRead (l : Line) : Type 0 where
  pub in_range : IsLine l
  pub shown : IsShown l

-- the first line of octets is none of a transcript, and this is its column
pub record HasNoLine (octets : List ℕ) (column : ℕ) : Type 0 where
  pub outside : (l : Line) → IsTextOf l (line_of octets) → ⊥
  pub first_bad : IsColumn (line_of octets) column

-- it is a line, but may not stand here
pub record HasMisplaced (place : Place) (octets : List ℕ) (column : ℕ) : Type 0 where
  pub found : Line
  pub text : IsTextOf found (line_of octets)
  pub misplaced : place_after_line place found ≡ None
  pub first : column ≡ 1

-- the octets leave the grammar at this column of their first line: they end where an answer is due, or that line is bad
abbrev pub IsBadAt : Place → List ℕ → ℕ → Type 0
IsBadAt place octets column =
    ((octets ≡ []) × (place ≡ answering) × (column ≡ 1))
    ⊎ ((octets ≢ []) × (HasNoLine octets column ⊎ HasMisplaced place octets column))

-- from a place on, some lines of octets are read, and may stand as they do; this is the place after them, and the rest of
-- the octets
pub record AreReadFrom (place : Place) (octets : List ℕ) (lines : List Line) (now : Place) (rest : List ℕ) : Type 0 where
  pub read : AreFirstLines octets (texts lines) rest
  pub good : AllByRecursion IsRead lines
  pub placed : place_after place lines ≡ Some now
