-- A run after its header and first lines: what was read, what there is then, and what was put out.
use Rattle.std.specs.Prelude.{◌≡◌, ℕ, ◌+◌, Bool, false, true, List, [], length, Option, Some, None, ⊤}
use Rattle.std.specs.List.{AllByRecursion, flat_map}
use Rattle.std.specs.Io.KnownBytes.{Appends}
use Rattle.dc_base.specs.declared.events.Event.{Event}
use Rattle.dc_base.specs.declared.events.Header.{Header}
use Rattle.transcript.specs.Transcript.{entry_lines, transcript_text}
use Rattle.script_text.specs.Scripts.{IsScriptHeader}
use Rattle.script_text.specs.declared.scripted.Scripted.{Scripted}
use Rattle.node_rules.specs.Choices.{Choices}
use Rattle.node_rules.specs.Run.{entries_from, world_after}
use Rattle.node_rules.specs.World.{new_world}
use Rattle.dc_network.specs.Counting.{IsWithin, counted}
use Rattle.run_control.specs.Sound.{AddsSecond}
use Rattle.run_relays.specs.Ranges.{NamesIdentity}
use Rattle.dc_top.specs.Run.{IsTranscriptOf}
use Rattle.dc_top.specs.Script.{HasRead, IsTaken, script_text}
use Rattle.counted_network.specs.Counted.{Counting}

-- what there is after events from the start
abbrev pub counting_from : Choices → Header → List Event → Counting
counting_from c h es = record { world = world_after c (new_world h) es; counts = counted (flat_map entry_lines (entries_from c (new_world h) es)) }

-- an event adds no node but a secondary one, and a bearer that it sets up has an identity of 1 to 32
abbrev pub IsFit : Event → Type 0
IsFit e = AddsSecond e × NamesIdentity e

-- the header and these lines were run: what there is then, and what was put out before and after
pub record IsSoFar (c : Choices) (h : Header) (lines : List Scripted) (k : Counting) (old new : Option (List ℕ)) : Type 0 where
  pub good : IsScriptHeader h
  pub taken : AllByRecursion IsTaken lines
  pub events : List Event
  pub fit : AllByRecursion IsFit events
  pub after : k ≡ counting_from c h events
  pub transcript : IsTranscriptOf lines (entries_from c (new_world h) events)
  pub within : IsWithin k.counts
  pub written : Appends old new (transcript_text h (entries_from c (new_world h) events))

-- the header and these lines were read, and this is what the lines to come are made of; after the end there is nothing
pub record IsAtRest (input : List ℕ) (h : Header) (lines : List Scripted) (now : Option (List ℕ)) (passed : ℕ) (last : Bool) : Type 0 where
  pub rest : List ℕ
  pub told : now ≡ Some rest
  pub read : HasRead input h lines rest
  pub counted : passed ≡ length read.taken
  pub with_feeds : last ≡ false → read.taken ≡ script_text h lines
  pub at_end : last ≡ true → rest ≡ []

-- the same, where the octets are told
abbrev pub ReadsOn : Option (List ℕ) → Header → List Scripted → Option (List ℕ) → ℕ → Bool → Type 0
ReadsOn None h lines now passed last = ⊤
ReadsOn (Some input) h lines now passed last = IsAtRest input h lines now passed last

-- the lines before this number were read and run
pub record IsAfterLines (c : Choices) (k : Counting) (number passed : ℕ) (last : Bool) (all now old new : Option (List ℕ)) : Type 0 where
  pub header : Header
  pub lines : List Scripted
  pub so_far : IsSoFar c header lines k old new
  pub reads : ReadsOn all header lines now passed last
  pub counted : number ≡ length lines + 2
