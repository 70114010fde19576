-- A script as octets, and how much of it was read.
use Rattle.std.specs.Prelude.{◌≡◌, ℕ, ◌+◌, ◌<◌, ◌≤◌, ◌⊎◌, List, [], ◌∷◌, ◌++◌, length, codes, Option, IfSome, ⊤}
use Rattle.std.specs.List.{flat_map}
use Rattle.dc_base.specs.declared.answers.Status.{Status}
use Rattle.dc_base.specs.declared.answers.Status.TheVariants as status
use Rattle.dc_base.specs.declared.events.Header.{Header}
use Rattle.dc_text.specs.Lines.{IsCutOff, line_of, span}
use Rattle.transcript.specs.Text.{header_text, event_text, ended}
use Rattle.script_text.specs.Grammar.{IsColumn, IsHeaderColumn}
use Rattle.script_text.specs.Scripts.{IsScripted, IsScriptHeader, IsLineOf}
use Rattle.script_text.specs.declared.scripted.Scripted.{Scripted}
use Rattle.script_text.specs.declared.scripted.Scripted.TheVariants.{One, Drain}

-- the most octets that a script has: 16 MiB
abbrev pub most_octets : ℕ
most_octets = 16777216

-- the most octets that a line has
abbrev pub most_line : ℕ
most_line = 20000

-- a line of a script after its header, without its LF
abbrev pub script_line : Scripted → List ℕ
script_line (One e) = event_text e
script_line Drain = codes "drain"

-- a header and the lines after it, each with its LF
abbrev pub script_text : Header → List Scripted → List ℕ
script_text h lines = ended (header_text h) ++ flat_map (λ l. ended (script_line l)) lines

-- the parts of a line are in their ranges
abbrev pub IsInRange : Scripted → Type 0
IsInRange (One e) = IsScripted e
IsInRange Drain = ⊤

-- a line that a run takes
pub record IsTaken (line : Scripted) : Type 0 where
  pub in_range : IsInRange line
  pub short : length (script_line line) ≤ most_line

-- octets begin with a header and these lines, and then the rest comes; the last line may lack its LF, with no rest then
pub record HasRead (input : List ℕ) (h : Header) (lines : List Scripted) (rest : List ℕ) : Type 0 where
  pub taken : List ℕ
  pub whole : input ≡ taken ++ rest
  pub spelled : (taken ≡ script_text h lines) ⊎ ((taken ++ 10 ∷ [] ≡ script_text h lines) × (rest ≡ []))
  pub short : length taken ≤ most_octets

-- the first line of the rest, after so many octets, passes a limit
abbrev pub IsTooLong : ℕ → List ℕ → Type 0
IsTooLong passed rest = (most_line < length (line_of rest)) ⊎ (most_octets < passed + span rest)

-- the first line of octets is no header, and this is its column; without a line it is the empty one
pub record HasBadHeader (input : List ℕ) (column : ℕ) : Type 0 where
  pub outside : (h : Header) → IsScriptHeader h → line_of input ≡ header_text h → ⊥
  pub first_bad : IsHeaderColumn (line_of input) column
  pub short : length (line_of input) ≤ most_line

-- the first line of the rest, after so many octets, is there and within the limits
pub record HasLine (passed : ℕ) (rest : List ℕ) : Type 0 where
  pub there : rest ≡ [] → ⊥
  pub short : length (line_of rest) ≤ most_line
  pub total : passed + span rest ≤ most_octets

-- the first line of octets is neither an event nor a drain, and this is its column
pub record HasBadLine (rest : List ℕ) (column : ℕ) : Type 0 where
  pub outside : (s : Scripted) → IsLineOf s (line_of rest) → ⊥
  pub first_bad : IsColumn (line_of rest) column

-- why no line came, by the status: what was to be read, how many octets were passed before, and what is left at the source
abbrev pub IsUnread : Status → Option (List ℕ) → ℕ → Option (List ℕ) → Type 0
IsUnread status.ReadFault rest passed left = IsCutOff rest left
IsUnread status.TooLong rest passed left = IfSome rest (IsTooLong passed)
IsUnread status.Memory rest passed left = ⊤
IsUnread _ rest passed left = ⊥

-- why no header came
abbrev pub IsUnreadHeader : Status → Option (List ℕ) → ℕ → Option (List ℕ) → Type 0
IsUnreadHeader (status.BadLine line column) rest passed left = (line ≡ 1) × IfSome rest (λ octets. HasBadHeader octets column)
IsUnreadHeader s rest passed left = IsUnread s rest passed left

-- why no line of this number came
abbrev pub IsUnreadLine : Status → ℕ → Option (List ℕ) → ℕ → Option (List ℕ) → Type 0
IsUnreadLine (status.BadLine line column) number rest passed left = (line ≡ number) × IfSome rest (λ octets. HasLine passed octets × HasBadLine octets column)
IsUnreadLine s number rest passed left = IsUnread s rest passed left
