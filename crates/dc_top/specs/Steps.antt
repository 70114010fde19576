-- Events given to the nodes, one after another, and their lines written.
use Rattle.std.specs.Prelude.{◌≡◌, ℕ, ◌⊎◌, List, [], ◌∷◌, ◌++◌, take, Option, Some, None, ⊤}
use Rattle.std.specs.List.{flat_map}
use Rattle.std.specs.Io.KnownBytes.{Appends}
use Rattle.dc_base.specs.declared.answers.Status.{Status}
use Rattle.dc_base.specs.declared.answers.Status.TheVariants as status
use Rattle.dc_base.specs.declared.nodes.LinkId.{LinkId}
use Rattle.dc_base.specs.declared.events.Event.{Event}
use Rattle.dc_base.specs.declared.events.Event.TheVariants.{Step}
use Rattle.dc_outside.specs.Octets.{AppendsFront}
use Rattle.transcript.specs.Text.{lines_text}
use Rattle.transcript.specs.Transcript.{entry_lines}
use Rattle.script_text.specs.declared.scripted.Scripted.{Scripted}
use Rattle.script_text.specs.declared.scripted.Scripted.TheVariants.{One, Drain}
use Rattle.node_rules.specs.Choices.{Choices}
use Rattle.node_rules.specs.Run.{entries_from, world_step}
use Rattle.node_rules.specs.World.{World, first_loaded}
use Rattle.dc_network.specs.Counting.{IsWithin}
use Rattle.counted_network.specs.Counted.{Counting, counting_after_all}

-- a text was not written whole, by the status: none of it, or a front where the sink failed
abbrev pub IsUnwritten : Status → List ℕ → Option (List ℕ) → Option (List ℕ) → Type 0
IsUnwritten status.Memory text old new = Appends old new []
IsUnwritten status.WriteFault text old new = AppendsFront old new text
IsUnwritten _ text old new = ⊥

-- the text of the entries that events make
abbrev pub events_text : Choices → World → List Event → List ℕ
events_text c w es = lines_text (flat_map entry_lines (entries_from c w es))

-- the event is the step of the first flight on the first link on which one stands
pub record IsFirstStep (w : World) (e : Event) : Type 0 where
  pub link : LinkId
  pub first : first_loaded w.links ≡ Some link
  pub step : e ≡ Step link 0

-- each event is so in its turn
abbrev pub AreFirstSteps : Choices → World → List Event → Type 0
AreFirstSteps c w [] = ⊤
AreFirstSteps c w (e ∷ es) = IsFirstStep w e × AreFirstSteps c (world_step c w e).0 es

-- the events of a line: its own, or the steps of a drain until no flight stands on any link
abbrev pub AreEventsOf : Choices → Scripted → Counting → List Event → Type 0
AreEventsOf c (One e) k es = es ≡ e ∷ []
AreEventsOf c Drain k es = AreFirstSteps c k.world es × (first_loaded (counting_after_all c k es).world.links ≡ None)

-- a front of them
abbrev pub AreBegun : Choices → Scripted → Counting → List Event → Type 0
AreBegun c (One e) k es = (es ≡ []) ⊎ (es ≡ e ∷ [])
AreBegun c Drain k es = AreFirstSteps c k.world es

-- events were run, and their text was written whole
pub record HasRun (c : Choices) (k : Counting) (es : List Event) (k' : Counting) (old new : Option (List ℕ)) : Type 0 where
  pub after : k' ≡ counting_after_all c k es
  pub within : IsWithin k'.counts
  pub written : Appends old new (events_text c k.world es)

-- events were run and written, and the one after them ended the run: what was put out then, by the status
abbrev pub HasStopped : Choices → Status → Counting → List Event → Event → Option (List ℕ) → Option (List ℕ) → Type 0
HasStopped c status.Memory k es e old new = IsWithin (counting_after_all c k es).counts × Appends old new (events_text c k.world es)
HasStopped c status.TooLong k es e old new =
    IsWithin (counting_after_all c k es).counts × (IsWithin (counting_after_all c k (es ++ e ∷ [])).counts → ⊥) × Appends old new (events_text c k.world es)
HasStopped c status.WriteFault k es e old new =
    (n : ℕ) × IsWithin (counting_after_all c k (es ++ e ∷ [])).counts
    × Appends old new (events_text c k.world es ++ take n (events_text c (counting_after_all c k es).world (e ∷ [])))
HasStopped c _ k es e old new = ⊥

-- a run ended so in the steps of a drain
pub record HasStoppedDraining (c : Choices) (s : Status) (k : Counting) (old new : Option (List ℕ)) : Type 0 where
  pub before : List Event
  pub event : Event
  pub steps : AreFirstSteps c k.world (before ++ event ∷ [])
  pub stopped : HasStopped c s k before event old new

-- a run ended so in the events of a line
pub record HasStoppedIn (c : Choices) (s : Status) (line : Scripted) (k : Counting) (old new : Option (List ℕ)) : Type 0 where
  pub before : List Event
  pub event : Event
  pub begun : AreBegun c line k before
  pub next : AreBegun c line k (before ++ event ∷ [])
  pub stopped : HasStopped c s k before event old new
