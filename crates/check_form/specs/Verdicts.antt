-- What each verdict says of the octets that were to be checked.
use Rattle.std.specs.Prelude.{◌≡◌, ◌⊎◌, ℕ, ◌+◌, List, [], ◌∷◌, ◌++◌, length, Option, Some, None}
use Rattle.std.specs.List.{flat_map}
use Rattle.dc_base.specs.declared.events.Event.{Event}
use Rattle.dc_base.specs.declared.events.Header.{Header}
use Rattle.transcript.specs.Text.{header_text}
use Rattle.transcript.specs.Transcript.{Entry, entry_lines}
use Rattle.script_text.specs.Scripts.{IsScriptHeader}
use Rattle.claims.specs.Claim.{Each}
use Rattle.claims.specs.Noted.{past}
use Rattle.claims.specs.Past.{new_past}
use Rattle.checker.specs.Decided.{claim_of, first_broken}
use Rattle.checker.specs.Parts.{ArePartsOf, Parts}
use Rattle.checker.specs.declared.claim.Broken.{Broken}
use Rattle.checker.specs.declared.claim.Claim.{Claim}
use Rattle.transcript_entries.specs.declared.fault.EntryFault.{EntryFault}
use Rattle.transcript_entries.specs.declared.fault.EntryFault.TheVariants as fault
use Rattle.transcript_entries.specs.Lines.{Ahead, IsTranscript, texts}
use Rattle.transcript_entries.specs.Places.{answering}
use Rattle.transcript_entries.specs.Read.{Entries, HaveReadUp, IsUnopened, IsUnread, event_line, unread}
use Rattle.check_form.specs.declared.verdict.Verdict.{Verdict}
use Rattle.check_form.specs.declared.verdict.Verdict.TheVariants as verdict

-- every claim that is decided holds of each entry, however many policies there are
abbrev pub AllHold : Header → List Entry → Type 0
AllHold h t = (policies : ℕ) (c : Claim) → Each (claim_of c) (new_past h policies) t

-- octets begin with a header and the lines of these entries, and go on with the line of this event, or end if there is none; so
-- far is the reader then
pub record BeginsWith (octets : List ℕ) (h : Header) (t : List Entry) (next : Option Event) (now : Ahead) : Type 0 where
  pub header : IsScriptHeader h
  pub read : HaveReadUp next (unread (Some octets)) (header_text h ∷ texts (flat_map entry_lines t ++ event_line next)) now

-- the number of the line of the event after these entries
abbrev pub line_after : List Entry → ℕ
line_after t = length (flat_map entry_lines t) + 2

-- the number of the line that breaks a claim, in the entry whose event has this number; that of the event where the entry breaks
-- it as a whole
abbrev pub broken_line : ℕ → Option ℕ → ℕ
broken_line event None = event
broken_line event (Some k) = event + 2 + k

-- the entries before meet every claim that is decided, and this claim is the first that the next one breaks, at this line
pub record FailsAt (octets : List ℕ) (number : ℕ) (claim : Claim) : Type 0 where
  pub header : Header
  pub before : List Entry
  pub entry : Entry
  pub next : Option Event
  pub now : Ahead
  pub begins : BeginsWith octets header (before ++ entry ∷ []) next now
  pub hold : AllHold header before
  pub broken : Broken
  pub first : (policies : ℕ) → first_broken (past header policies before) entry ≡ Some broken
  pub which : claim ≡ broken.claim
  pub place : number ≡ broken_line (line_after before) broken.line

-- the entries before meet every claim that is decided, and the octets after them give no entry
pub record IsCutAfter (f : EntryFault) (octets : List ℕ) : Type 0 where
  pub header : Header
  pub before : List Entry
  pub event : Event
  pub now : Ahead
  pub begins : BeginsWith octets header before (Some event) now
  pub hold : AllHold header before
  pub cut : IsUnread f answering (line_after before) now

-- what a verdict says of octets
abbrev pub IsVerdict : Verdict → List ℕ → Type 0
IsVerdict (verdict.Holds entries) octets =
    (h : Header) × (t : List Entry) × IsScriptHeader h × IsTranscript octets h t × (length t ≡ entries) × AllHold h t
IsVerdict (verdict.Fails line claim) octets = FailsAt octets line claim
IsVerdict (verdict.Unread f) octets = IsUnopened f (Some octets) ⊎ IsCutAfter f octets

-- ---- while it is checked

-- the entries so far meet every claim that is decided, and this is what the checker and the reader have then
pub record IsSoFar (octets : List ℕ) (h : Header) (t : List Entry) (at : Entries) (now : Ahead) (parts : Parts) : Type 0 where
  pub begins : BeginsWith octets h t at.event now
  pub taken : at.taken ≡ 1 + length (flat_map entry_lines t) + length (event_line at.event)
  pub hold : AllHold h t
  pub are : (policies : ℕ) → ArePartsOf parts (past h policies t)

-- after so many entries
pub record IsAfter (octets : List ℕ) (count : ℕ) (at : Entries) (now : Ahead) (parts : Parts) : Type 0 where
  pub header : Header
  pub before : List Entry
  pub so_far : IsSoFar octets header before at now parts
  pub counted : length before ≡ count
