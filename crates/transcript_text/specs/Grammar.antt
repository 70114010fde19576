-- The grammar of a line of a transcript, and the column of a line that is none.
use Rattle.std.specs.Prelude.{◌≡◌, ◌≢◌, ℕ, ◌+◌, ◌≤◌, ◌<◌, ◌==◌, ◌⊎◌, List, [], ◌∷◌, length, codes, map, Bool, true, false, Option, IsTrue}
use Rattle.std.specs.Fmt.{decimal}
use Rattle.std.specs.List.{slice_split}
use Rattle.hex.specs.Hex.{encode_lower, IsBytes}
use Rattle.dc_base.specs.declared.answers.Refusal.{Refusal}
use Rattle.dc_base.specs.declared.answers.Word.{Word}
use Rattle.dc_base.specs.declared.nodes.Dir.{Dir}
use Rattle.dc_base.specs.declared.nodes.KeyName.{KeyName}
use Rattle.dc_base.specs.declared.nodes.LinkId.{LinkId}
use Rattle.dc_base.specs.declared.nodes.Node.{Node}
use Rattle.dc_base.specs.declared.nodes.Shape.{Shape}
use Rattle.dc_base.specs.declared.nodes.Want.{Want}
use Rattle.dc_base.specs.declared.numbers.SnLen.{SnLen}
use Rattle.dc_base.specs.declared.records.Item.{Item}
use Rattle.dc_base.specs.declared.records.RecKind.{RecKind}
use Rattle.dc_base.specs.declared.records.RecKind.TheVariants as record_kind
use Rattle.dc_base.specs.Links.{is_link}
use Rattle.dc_base.specs.Nodes.{is_shape}
use Rattle.pdcp_pdu.specs.DataPdu.{is_data}
use Rattle.transcript.specs.Words.{spaced, or_dash, octets_or_dash, dir_word, node_word, sn_word, link_word, shape_word, key_word, want_word, refusal_word, cause_word}
use Rattle.transcript.specs.Text.{item_text, pair_text}
use Rattle.script_text.specs.Grammar.{IsFaultOf}
use Rattle.transcript_text.specs.declared.words.Mark.{Mark}
use Rattle.transcript_text.specs.declared.words.Mark.TheVariants as mark
use Rattle.transcript_text.specs.declared.words.Verdict.{Verdict}
use Rattle.transcript_text.specs.declared.words.Verdict.TheVariants as verdict
use Rattle.transcript_text.specs.declared.words.Consequence.{Consequence}
use Rattle.transcript_text.specs.declared.words.Consequence.TheVariants as consequence
use Rattle.transcript_text.specs.declared.words.Carried.{Carried}
use Rattle.transcript_text.specs.declared.words.Carried.TheVariants as carried
use Rattle.transcript_text.specs.Words.{mark_word, verdict_word, consequence_word, carried_word}
use Rattle.transcript_text.specs.Ranges.{IsHex, IsTag, IsKey, IsItem, IsPair}

-- ---- fields

-- the sorts of fields
pub data Kind : Type 0 where
  Number : ℕ → ℕ → Kind  -- of at least and at most so many
  Octets : Kind
  Pdu : Bool → Kind  -- of data, or of control
  Bits : Kind  -- a bitmap, or a dash for none
  Tag : Kind  -- a COUNT, or a dash for none
  AnyNode : Kind
  MaybeNode : Kind  -- a node, or a dash for none
  Direction : Kind
  Linked : Kind
  Wanted : Kind
  Refused : Kind
  Cause : Kind
  Sequence : Kind
  Shaped : Kind
  Key : Kind
  PlanItem : Kind
  BearerPair : Kind

-- the fields of a sort
abbrev pub Allows : Kind → List ℕ → Type 0
Allows (Number low high) f = (n : ℕ) × ((low ≤ n) × (n ≤ high)) × (f ≡ decimal n)
Allows Octets f = (x : List ℕ) × IsHex x × (f ≡ encode_lower x)
Allows (Pdu data') f = (x : List ℕ) × (IsHex x × (is_data x ≡ data')) × (f ≡ encode_lower x)
Allows Bits f = (x : List ℕ) × IsBytes x × (f ≡ octets_or_dash x)
Allows Tag f = (t : Option ℕ) × IsTag t × (f ≡ or_dash decimal t)
Allows AnyNode f = (n : Node) × (f ≡ node_word n)
Allows MaybeNode f = (n : Option Node) × (f ≡ or_dash node_word n)
Allows Direction f = (d : Dir) × (f ≡ dir_word d)
Allows Linked f = (l : LinkId) × IsTrue (is_link l) × (f ≡ link_word l)
Allows Wanted f = (w : Want) × (f ≡ want_word w)
Allows Refused f = (r : Refusal) × (f ≡ refusal_word r)
Allows Cause f = (w : Word) × (f ≡ cause_word w)
Allows Sequence f = (n : SnLen) × (f ≡ sn_word n)
Allows Shaped f = (s : Shape) × IsTrue (is_shape s) × (f ≡ shape_word s)
Allows Key f = (k : KeyName) × IsKey k × (f ≡ key_word k)
Allows PlanItem f = (i : Item) × IsItem i × (f ≡ item_text i)
Allows BearerPair f = (p : ℕ × ℕ) × IsPair p × (f ≡ pair_text p)

-- the identity of a bearer: 1 to 32
abbrev pub identity : Kind
identity = Number 1 32

-- a number of 32 bits: a generation, a COUNT, a number on a leg
abbrev pub word_32 : Kind
word_32 = Number 0 4294967295

-- as many fields of one sort as are left
abbrev pub each : Kind → List (List ℕ) → List Kind
each kind fields = map (λ _. kind) fields

-- as many items as are left after the generation and the secondary node
abbrev pub items : List (List ℕ) → List Kind
items (g ∷ sec ∷ rest) = each PlanItem rest
items _ = []

-- the fields of a plan
abbrev pub plan_kinds : List (List ℕ) → List Kind
plan_kinds rest = word_32 ∷ MaybeNode ∷ items rest

-- the fields after the name of a record
abbrev pub record_kinds : RecKind → List (List ℕ) → List Kind
record_kinds record_kind.Reconf rest = plan_kinds rest
record_kinds record_kind.Rcomp rest = word_32 ∷ []
record_kinds record_kind.Scgf rest = each BearerPair rest
record_kinds record_kind.Recov rest = identity ∷ []
record_kinds record_kind.Recovd rest = identity ∷ []
record_kinds record_kind.Addreq rest = plan_kinds rest
record_kinds record_kind.Addack rest = word_32 ∷ []
record_kinds record_kind.Addrej rest = word_32 ∷ []
record_kinds record_kind.Modreq rest = plan_kinds rest
record_kinds record_kind.Modack rest = word_32 ∷ []
record_kinds record_kind.Modrej rest = word_32 ∷ []
record_kinds record_kind.Recfg rest = word_32 ∷ []
record_kinds record_kind.Relreq rest = plan_kinds rest
record_kinds record_kind.Relack rest = word_32 ∷ []
record_kinds record_kind.Relrej rest = word_32 ∷ []
record_kinds record_kind.Uecr rest = word_32 ∷ []
record_kinds record_kind.Snst rest = word_32 ∷ identity ∷ word_32 ∷ Bits ∷ word_32 ∷ []
record_kinds record_kind.Moved rest = word_32 ∷ identity ∷ []
record_kinds record_kind.Scgn rest = BearerPair ∷ []
record_kinds record_kind.Modrqd rest = []
record_kinds record_kind.Modcnf rest = word_32 ∷ []
record_kinds record_kind.Modref rest = Cause ∷ []
record_kinds record_kind.Chgrqd rest = []
record_kinds record_kind.Chgcnf rest = plan_kinds rest
record_kinds record_kind.Chgref rest = Cause ∷ []
record_kinds record_kind.Relrqd rest = []
record_kinds record_kind.Relcnf rest = plan_kinds rest

-- the fields after the first word of a flight
abbrev pub flight_kinds : Carried → List (List ℕ) → List Kind
flight_kinds carried.Data rest = identity ∷ word_32 ∷ word_32 ∷ Tag ∷ Pdu true ∷ []
flight_kinds carried.Control rest = identity ∷ word_32 ∷ word_32 ∷ Pdu false ∷ []
flight_kinds carried.Ack rest = identity ∷ word_32 ∷ word_32 ∷ []
flight_kinds carried.Packet rest = Tag ∷ Octets ∷ []
flight_kinds carried.Sdu rest = identity ∷ word_32 ∷ Octets ∷ []
flight_kinds carried.End rest = identity ∷ word_32 ∷ []
flight_kinds carried.Told rest = identity ∷ word_32 ∷ word_32 ∷ []
flight_kinds (carried.Record k) rest = record_kinds k rest

-- ---- columns

-- c is the column of the first field that is not allowed, where the sorts of the fields are given and the first of them
-- would begin after `at` octets; a missing field has the column after the line's end, a field too many its own
abbrev pub IsFault : List Kind → ℕ → List (List ℕ) → ℕ → Type 0
IsFault [] at [] c = ⊥
IsFault [] at (f ∷ fs) c = c ≡ at + 1
IsFault (k ∷ ks) at [] c = c ≡ at
IsFault (k ∷ ks) at (f ∷ fs) c = ((Allows k f → ⊥) × (c ≡ at + 1)) ⊎ (Allows k f × IsFault ks (at + length f + 1) fs c)

-- c is the column of the next field, which is not of this sort
abbrev pub IsNotHere : Kind → ℕ → List (List ℕ) → ℕ → Type 0
IsNotHere k at [] c = c ≡ at
IsNotHere k at (f ∷ fs) c = (Allows k f → ⊥) × (c ≡ at + 1)

-- c is the column of the next field, which is none of the words that may stand there
abbrev pub IsNoWord : {W : Type 0} → (W → List ℕ) → ℕ → List (List ℕ) → ℕ → Type 0
IsNoWord word at [] c = c ≡ at
IsNoWord word at (f ∷ fs) c = ((w : _) → f ≢ word w) × (c ≡ at + 1)

-- the same where the next field is one of the words that decide what comes after it
abbrev pub IsFaultAfter : {W : Type 0} → (W → List ℕ) → (W → ℕ → List (List ℕ) → ℕ → Type 0) → ℕ → List (List ℕ) → ℕ → Type 0
IsFaultAfter word after at [] c = c ≡ at
IsFaultAfter word after at (f ∷ fs) c =
    IsNoWord word at (f ∷ fs) c ⊎ ((w : _) × (f ≡ word w) × after w (at + length f + 1) fs c)

-- the same after the first word of a flight
abbrev pub AfterCarried : Carried → ℕ → List (List ℕ) → ℕ → Type 0
AfterCarried k at fs c = IsFault (flight_kinds k fs) at fs c

-- the same of a flight
abbrev pub IsFlightFault : ℕ → List (List ℕ) → ℕ → Type 0
IsFlightFault at fs c = IsFaultAfter carried_word AfterCarried at fs c

-- the same of a link and a flight on it
abbrev pub IsSendFault : ℕ → List (List ℕ) → ℕ → Type 0
IsSendFault at [] c = c ≡ at
IsSendFault at (f ∷ fs) c =
    IsNotHere Linked at (f ∷ fs) c ⊎ (Allows Linked f × IsFlightFault (at + length f + 1) fs c)

-- the same after the first word of a consequence
abbrev pub AfterConsequence : Consequence → ℕ → List (List ℕ) → ℕ → Type 0
AfterConsequence consequence.Send at fs c = IsSendFault at fs c
AfterConsequence consequence.Begin at fs c = IsFault (Wanted ∷ []) at fs c
AfterConsequence consequence.Join at fs c = IsFault (AnyNode ∷ word_32 ∷ []) at fs c
AfterConsequence consequence.Leave at fs c = IsFault (AnyNode ∷ word_32 ∷ []) at fs c
AfterConsequence consequence.Give at fs c = IsFault (AnyNode ∷ identity ∷ word_32 ∷ []) at fs c
AfterConsequence consequence.Own at fs c = IsFault (AnyNode ∷ identity ∷ word_32 ∷ []) at fs c
AfterConsequence consequence.Set at fs c = IsFault (identity ∷ word_32 ∷ []) at fs c
AfterConsequence consequence.Unset at fs c = IsFault (identity ∷ []) at fs c
AfterConsequence consequence.Up at fs c = IsFault (AnyNode ∷ identity ∷ Direction ∷ word_32 ∷ Octets ∷ []) at fs c
AfterConsequence consequence.Freed at fs c = IsFault (identity ∷ Direction ∷ word_32 ∷ []) at fs c
AfterConsequence consequence.Confirmed at fs c = IsFault (AnyNode ∷ []) at fs c
AfterConsequence consequence.Refused at fs c = IsFault (AnyNode ∷ Cause ∷ []) at fs c
AfterConsequence consequence.Done at fs c = IsFault [] at fs c
AfterConsequence consequence.Rejected at fs c = IsFault [] at fs c

-- the same after the first word of an answer
abbrev pub AfterVerdict : Verdict → ℕ → List (List ℕ) → ℕ → Type 0
AfterVerdict verdict.Ok at fs c = IsFault [] at fs c
AfterVerdict verdict.No at fs c = IsFault (Refused ∷ []) at fs c

-- the same of an event, by the grammar of a script's lines: `drain` is none, and a line of a script has at most 20,000
-- octets, so in a longer one the first octet too many is the place
abbrev pub IsEventFault : ℕ → List (List ℕ) → ℕ → Type 0
IsEventFault at [] c = c ≡ at
IsEventFault at (f ∷ fs) c =
    ((20000 < length (spaced (f ∷ fs))) × (c ≡ at + 20001))
    ⊎ ((length (spaced (f ∷ fs)) ≤ 20000)
    × (((d : ℕ) × IsFaultOf (f ∷ fs) d × (c ≡ at + d)) ⊎ ((f ∷ fs ≡ codes "drain" ∷ []) × (c ≡ at + 1))))

-- the same after the mark of a line
abbrev pub AfterMark : Mark → ℕ → List (List ℕ) → ℕ → Type 0
AfterMark mark.Event at fs c = IsEventFault at fs c
AfterMark mark.Answer at fs c = IsFaultAfter verdict_word AfterVerdict at fs c
AfterMark mark.Consequence at fs c = IsFaultAfter consequence_word AfterConsequence at fs c

-- the fields of a text: what stands between its separators
abbrev pub parts : ℕ → List ℕ → List (List ℕ)
parts separator text = slice_split (λ o. o == separator) text

-- c is the column of a line that is none of a transcript
abbrev pub IsColumn : List ℕ → ℕ → Type 0
IsColumn line c = IsFaultAfter mark_word AfterMark 0 (parts 32 line) c
