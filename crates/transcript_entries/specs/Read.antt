-- What a reader of entries has, what one call gives, and why it gives none.
use Rattle.std.specs.Prelude.{◌≡◌, ◌≢◌, ℕ, ◌+◌, ◌-◌, ◌<◌, ◌≤◌, ◌⊎◌, false, List, [], ◌∷◌, ◌++◌, length, Option, Some, None, IfSome, ⊤}
use Rattle.std.specs.Io.KnownBytes.{IsAtEnd}
use Rattle.std.specs.List.{AllByRecursion}
use Rattle.dc_base.specs.declared.events.Event.{Event}
use Rattle.dc_base.specs.declared.events.Header.{Header}
use Rattle.dc_base.specs.declared.events.Line.{Line}
use Rattle.dc_base.specs.declared.events.Line.TheVariants as line
use Rattle.dc_text.specs.Lines.{Reader, input, line_of, rest_of, span}
use Rattle.transcript.specs.Text.{header_text}
use Rattle.transcript.specs.Transcript.{Entry}
use Rattle.script_text.specs.Grammar.{IsHeaderColumn}
use Rattle.script_text.specs.Scripts.{IsScriptHeader}
use Rattle.transcript_entries.specs.declared.entry.ReadEntry.{ReadEntry}
use Rattle.transcript_entries.specs.declared.fault.EntryFault.{EntryFault}
use Rattle.transcript_entries.specs.declared.fault.EntryFault.TheVariants as fault
use Rattle.transcript_entries.specs.Lines.{Ahead, AreFirstLines, HaveRead, texts}
use Rattle.transcript_entries.specs.Places.{AreReadFrom, HasNoLine, IsBadAt, IsRead, Place, answering, opening}

-- the entry that was read
abbrev pub entry_of : ReadEntry → Entry
entry_of e = record { event = e.event; answer = e.answer; lines = e.lines }

-- how far a reader of lines is, with what its source has left
abbrev pub ahead : Reader → Option (List ℕ) → Ahead
ahead reader left = record { octets = input reader left; passed = reader.passed; ended = reader.ended }

-- a reader that took nothing of these octets
abbrev pub unread : Option (List ℕ) → Ahead
unread octets = record { octets = octets; passed = 0; ended = false }

-- a reader of entries: how many lines it took, the event whose line it took last, if an entry is left, and its reader of lines
pub record Entries : Type 0 where
  pub taken : ℕ
  pub event : Option Event
  pub reader : Reader

-- the line of an event
abbrev pub event_line : Option Event → List Line
event_line None = []
event_line (Some e) = line.Event e ∷ []

-- a line is no event
abbrev pub IsNoEvent : Line → Type 0
IsNoEvent (line.Event e) = ⊥
IsNoEvent _ = ⊤

-- lines were read up to this event, or, where there is none, up to the end of the octets
abbrev pub HaveReadUp : Option Event → Ahead → List (List ℕ) → Ahead → Type 0
HaveReadUp (Some e) old ts new = HaveRead old ts new
HaveReadUp None old ts new = IfSome old.octets (λ os. AreFirstLines os ts [] × IsAtEnd new.octets)

-- an entry was read: the lines from its answer on, up to the next event's, which was read too, or to the end
pub record GivesEntry (old new : Entries) (before after : Option (List ℕ)) (e : ReadEntry) : Type 0 where
  pub event : old.event ≡ Some e.event
  pub read : HaveReadUp new.event (ahead old.reader before) (texts (line.Answer e.answer ∷ e.lines ++ event_line new.event)) (ahead new.reader after)
  pub good : AllByRecursion IsRead (e.lines ++ event_line new.event)
  pub no_event : AllByRecursion IsNoEvent e.lines
  pub number : e.number ≡ old.taken
  pub taken : new.taken ≡ old.taken + 1 + length e.lines + length (event_line new.event)

-- the header and the line of the first event, if there is one, were read
pub record IsOpened (before after : Option (List ℕ)) (h : Header) (new : Entries) : Type 0 where
  pub header : IsScriptHeader h
  pub read : HaveReadUp new.event (unread before) (header_text h ∷ texts (event_line new.event)) (ahead new.reader after)
  pub good : AllByRecursion IsRead (event_line new.event)
  pub taken : new.taken ≡ 1 + length (event_line new.event)

-- ---- limits

-- the first line of octets passes a limit: on its octets, or on all octets
abbrev pub IsLong : ℕ → List ℕ → Type 0
IsLong passed octets = (20000 < length (line_of octets)) ⊎ (16777216 < passed + span octets)

-- so it does, or there are too many lines before it
abbrev pub PassesLimit : ℕ → ℕ → List ℕ → Type 0
PassesLimit taken passed octets = (4294967295 ≤ taken) ⊎ IsLong passed octets

-- ---- from a place on, with so many lines and octets before

-- octets leave the grammar at this line and column
pub record IsBadFrom (place : Place) (taken : ℕ) (octets : List ℕ) (number column : ℕ) : Type 0 where
  pub lines : List Line
  pub rest : List ℕ
  pub now : Place
  pub before : AreReadFrom place octets lines now rest
  pub bad : IsBadAt now rest column
  pub counted : number ≡ taken + length lines + 1

-- they pass a limit
pub record IsLongFrom (place : Place) (taken passed : ℕ) (octets : List ℕ) : Type 0 where
  pub lines : List Line
  pub rest : List ℕ
  pub now : Place
  pub before : AreReadFrom place octets lines now rest
  pub passes : PassesLimit (taken + length lines) (passed + (length octets - length rest)) rest

-- why no entry came, by the fault
abbrev pub IsUnread : EntryFault → Place → ℕ → Ahead → Type 0
IsUnread (fault.BadLine number column) place taken at = IfSome at.octets (λ os. IsBadFrom place taken os number column)
IsUnread fault.TooLong place taken at = IfSome at.octets (IsLongFrom place taken at.passed)
IsUnread fault.ReadFault place taken at = ⊤
IsUnread fault.Memory place taken at = ⊤

-- why no octets of a line came
abbrev pub IsUncut : EntryFault → Ahead → Type 0
IsUncut (fault.BadLine number column) at = ⊥
IsUncut fault.TooLong at = IfSome at.octets (IsLong at.passed)
IsUncut fault.ReadFault at = ⊤
IsUncut fault.Memory at = ⊤

-- why no line of this number came
abbrev pub IsNoLineNext : EntryFault → ℕ → Ahead → Type 0
IsNoLineNext (fault.BadLine line column) number at = (line ≡ number) × IfSome at.octets (λ os. (os ≢ []) × HasNoLine os column)
IsNoLineNext f number at = IsUncut f at

-- ---- the beginning

-- the first line of octets is no header, and this is its column; without a line it is the empty one
pub record HasNoHeader (octets : List ℕ) (column : ℕ) : Type 0 where
  pub outside : (h : Header) → IsScriptHeader h → line_of octets ≡ header_text h → ⊥
  pub first_bad : IsHeaderColumn (line_of octets) column

-- a header is read of octets, and what follows comes of the rest
pub record HasHeader (octets : List ℕ) (P : List ℕ → Type 0) : Type 0 where
  pub header : Header
  pub good : IsScriptHeader header
  pub there : octets ≢ []
  pub text : header_text header ≡ line_of octets
  pub rest : P (rest_of octets)

-- line 1 is no header; or it is one, and the octets after it leave the grammar
abbrev pub IsBadStart : ℕ → ℕ → List ℕ → Type 0
IsBadStart number column octets =
    ((number ≡ 1) × HasNoHeader octets column) ⊎ HasHeader octets (λ rest. IsBadFrom opening 1 rest number column)

-- a limit is passed by line 1, or after it
abbrev pub IsLongStart : List ℕ → Type 0
IsLongStart octets = IsLong 0 octets ⊎ HasHeader octets (IsLongFrom opening 1 (span octets))

-- why the header and the first event did not come
abbrev pub IsUnopened : EntryFault → Option (List ℕ) → Type 0
IsUnopened (fault.BadLine number column) octets = IfSome octets (IsBadStart number column)
IsUnopened fault.TooLong octets = IfSome octets IsLongStart
IsUnopened fault.ReadFault octets = ⊤
IsUnopened fault.Memory octets = ⊤

-- why the header did not come
abbrev pub IsNoHeader : EntryFault → Option (List ℕ) → Type 0
IsNoHeader (fault.BadLine number column) octets = (number ≡ 1) × IfSome octets (λ os. HasNoHeader os column)
IsNoHeader fault.TooLong octets = IfSome octets (IsLong 0)
IsNoHeader fault.ReadFault octets = ⊤
IsNoHeader fault.Memory octets = ⊤
