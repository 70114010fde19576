-- The transcript of a script, said of the transcript alone, and a run of the first lines of some octets.
use Rattle.std.specs.Prelude.{◌≡◌, ℕ, ◌⊎◌, List, [], ◌∷◌, ◌++◌, length, map, Some, None}
use Rattle.std.specs.List.{AllByRecursion, flat_map}
use Rattle.dc_base.specs.declared.nodes.LinkId.{LinkId}
use Rattle.dc_base.specs.declared.events.Header.{Header}
use Rattle.dc_base.specs.declared.events.Event.{Event}
use Rattle.dc_base.specs.declared.events.Event.TheVariants.{Step}
use Rattle.transcript.specs.Transcript.{Entry, EachFrom, entry_lines, transcript_text}
use Rattle.transcript.specs.Content.{first_loaded}
use Rattle.transcript.specs.Claims.{IsFaithful}
use Rattle.script_text.specs.Scripts.{IsScriptHeader}
use Rattle.script_text.specs.declared.scripted.Scripted.{Scripted}
use Rattle.script_text.specs.declared.scripted.Scripted.TheVariants.{One, Drain}
use Rattle.node_rules.specs.Choices.{Choices}
use Rattle.node_rules.specs.Run.{entries_from, world_after}
use Rattle.node_rules.specs.World.{new_world}
use Rattle.dc_network.specs.Counting.{IsWithin, counted}
use Rattle.master_runs.specs.OfMaster.{AreOfMaster}
use Rattle.run_control.specs.Claims.{NeverStalls}
use Rattle.run_claims.specs.KeepsClaims.{KeepsClaims}
use Rattle.dc_top.specs.Script.{IsTaken, HasRead}

-- an entry is the step of the first flight on the first link on which one stands after the entries before it
pub record IsDrainStep (before : List Entry) (e : Entry) : Type 0 where
  pub link : LinkId
  pub first : first_loaded before ≡ Some link
  pub step : e.event ≡ Step link 0

-- the entries of a line, after the entries before it: that of its event, or those of a drain's steps until all links are empty
abbrev pub AreEntriesOf : Scripted → List Entry → List Entry → Type 0
AreEntriesOf (One event) before es = map (λ e. e.event) es ≡ event ∷ []
AreEntriesOf Drain before es = EachFrom IsDrainStep before es × (first_loaded (before ++ es) ≡ None)

-- a front of them
abbrev pub AreFirstEntriesOf : Scripted → List Entry → List Entry → Type 0
AreFirstEntriesOf (One event) before es = (es ≡ []) ⊎ (map (λ e. e.event) es ≡ event ∷ [])
AreFirstEntriesOf Drain before es = EachFrom IsDrainStep before es

-- the entries are those of the lines, line by line
pub data IsTranscriptOf : List Scripted → List Entry → Type 0 where
  no_lines : IsTranscriptOf [] []
  one_more : (lines : List Scripted) (before : List Entry) (line : Scripted) (es : List Entry) → IsTranscriptOf lines before
      → AreEntriesOf line before es → IsTranscriptOf (lines ++ line ∷ []) (before ++ es)

-- so they are, but the last line may have a front of its entries alone
pub data IsFrontOf : List Scripted → List Entry → Type 0 where
  whole : (lines : List Scripted) (entries : List Entry) → IsTranscriptOf lines entries → IsFrontOf lines entries
  part : (lines : List Scripted) (before : List Entry) (line : Scripted) (es : List Entry) → IsTranscriptOf lines before
      → AreFirstEntriesOf line before es → IsFrontOf (lines ++ line ∷ []) (before ++ es)

-- so they are, but the last line has a front of its entries alone, and this is its next one
pub data IsNextOf : List Scripted → List Entry → Entry → Type 0 where
  next : (lines : List Scripted) (before : List Entry) (line : Scripted) (es : List Entry) (e : Entry) → IsTranscriptOf lines before
      → AreFirstEntriesOf line before (es ++ e ∷ []) → IsNextOf (lines ++ line ∷ []) (before ++ es) e

-- the events of entries
abbrev pub events_of : List Entry → List Event
events_of entries = map (λ e. e.event) entries

-- a transcript by the rules: its answers and lines are those that the rules of the nodes and the links give for its events,
-- from the opening state on; it keeps the claims that every run keeps; in the state after it nothing stalls on the control plane;
-- and where all its bearers are at the master, it meets all claims
pub record IsByRules (c : Choices) (h : Header) (entries : List Entry) : Type 0 where
  pub by_rules : entries ≡ entries_from c (new_world h) (events_of entries)
  pub keeps : KeepsClaims h (length c.policies) entries
  pub unstalled : NeverStalls (world_after c (new_world h) (events_of entries))
  pub faithful : AreOfMaster (events_of entries) → IsFaithful h (length c.policies) entries

-- a run of the header and the first lines of octets, of which this rest is left, and the text of its entries
pub record RanTo (c : Choices) (Of : List Scripted → List Entry → Type 0) (input rest text : List ℕ) : Type 0 where
  pub header : Header
  pub lines : List Scripted
  pub entries : List Entry
  pub good : IsScriptHeader header
  pub taken : AllByRecursion IsTaken lines
  pub read : HasRead input header lines rest
  pub transcript : Of lines entries
  pub ruled : IsByRules c header entries
  pub within : IsWithin (counted (flat_map entry_lines entries))
  pub spelled : text ≡ transcript_text header entries

-- a run up to this entry of the last of its lines, and the text of the entries before it
pub record RanUpTo (c : Choices) (e : Entry) (input rest text : List ℕ) : Type 0 where
  pub header : Header
  pub lines : List Scripted
  pub entries : List Entry
  pub good : IsScriptHeader header
  pub taken : AllByRecursion IsTaken lines
  pub read : HasRead input header lines rest
  pub next : IsNextOf lines entries e
  pub ruled : IsByRules c header (entries ++ e ∷ [])
  pub within : IsWithin (counted (flat_map entry_lines entries))
  pub spelled : text ≡ transcript_text header entries
