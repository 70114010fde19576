-- The lines of octets, and how far they were read.
use Rattle.std.specs.Prelude.{◌≡◌, ◌≢◌, ℕ, ◌+◌, Bool, true, List, [], ◌∷◌, ◌++◌, length, map, Option, Some, None, ⊤}
use Rattle.std.specs.List.{flat_map}
use Rattle.std.specs.Io.KnownBytes.{IsAtEnd}
use Rattle.dc_base.specs.declared.events.Header.{Header}
use Rattle.dc_base.specs.declared.events.Line.{Line}
use Rattle.dc_text.specs.Lines.{line_of, rest_of}
use Rattle.transcript.specs.Text.{header_text, line_text, mark}
use Rattle.transcript.specs.Transcript.{Entry, entry_lines}

-- the first lines of octets are these, without their LFs, and the rest comes after them; the last line of all may lack its LF
abbrev pub AreFirstLines : List ℕ → List (List ℕ) → List ℕ → Type 0
AreFirstLines octets [] rest = octets ≡ rest
AreFirstLines octets (t ∷ ts) rest = (octets ≢ []) × (t ≡ line_of octets) × AreFirstLines (rest_of octets) ts rest

-- the text of a line of a transcript, without its end
abbrev pub text_of : Line → List ℕ
text_of l = mark l ++ line_text l

-- the texts of lines
abbrev pub texts : List Line → List (List ℕ)
texts lines = map text_of lines

-- the octets are a transcript: its header and the lines of its entries, and nothing else
abbrev pub IsTranscript : List ℕ → Header → List Entry → Type 0
IsTranscript octets h entries = AreFirstLines octets (header_text h ∷ texts (flat_map entry_lines entries)) []

-- how far a reader is: the octets that are still to be read, where they are told; how many were read; and whether it found
-- the end
pub record Ahead : Type 0 where
  pub octets : Option (List ℕ)
  pub passed : ℕ
  pub ended : Bool

-- these lines are read of octets, and so far is the reader then; once it found the end nothing is left
abbrev pub HaveReadOf : Option (List ℕ) → ℕ → List (List ℕ) → Ahead → Type 0
HaveReadOf None passed ts new = ⊤
HaveReadOf (Some octets) passed ts new =
    (rest : List ℕ) × AreFirstLines octets ts rest × (new.octets ≡ Some rest) × (new.passed + length rest ≡ passed + length octets)
    × (new.ended ≡ true → rest ≡ [])

-- these lines were read between the one moment and the other, where the octets are told
abbrev pub HaveRead : Ahead → List (List ℕ) → Ahead → Type 0
HaveRead old ts new = HaveReadOf old.octets old.passed ts new

-- once the end was found nothing is left
abbrev pub IsSettled : Ahead → Type 0
IsSettled at = at.ended ≡ true → IsAtEnd at.octets
