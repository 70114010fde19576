-- The script of merged journals, and what its run has to give.
use Rattle.std.specs.Prelude.{List, map, ℕ, ◌≡◌}
use Rattle.dc_base.specs.Nodes.{node_number}
use Rattle.dc_base.specs.declared.events.Event.{Event}
use Rattle.dc_base.specs.declared.events.Event.TheVariants as event
use Rattle.dc_base.specs.declared.events.Header.{Header}
use Rattle.dc_base.specs.declared.nodes.Node.{Node}
use Rattle.journal_runs.specs.OwnSteps.{inputs_taken}
use Rattle.journals.specs.declared.entries.JournalEntry.{JournalEntry}
use Rattle.journals.specs.declared.entries.What.{What}
use Rattle.journals.specs.declared.entries.What.TheVariants.{Driver, Loss, Step}
use Rattle.node_rules.specs.Choices.{Choices}
use Rattle.node_rules.specs.NodeRule.{NodeState}
use Rattle.node_rules.specs.Run.{entries_from, inputs_of, node_at, world_after}
use Rattle.node_rules.specs.World.{new_world}
use Rattle.transcript.specs.Transcript.{Entry}

-- the event of what a worker took: a message stands first on its link
abbrev pub event_of : What → Event
event_of (Driver e) = e
event_of (Step m) = event.Step m.link 0
event_of (Loss m) = event.Lose m.link 0

-- the events of merged journals
abbrev pub script : List (Node × JournalEntry) → List Event
script xs = map (λ (x : Node × JournalEntry). event_of x.1.what) xs

-- an entry of a transcript that says the same
abbrev pub as_entry : JournalEntry → Entry
as_entry e = record { event = event_of e.what; answer = e.answer; lines = e.lines }

-- the run of the script says what the journals say, each node gets in it what its worker took, and ends as its worker left it
pub record IsRunOf (c : Choices) (h : Header) (j : ℕ → List JournalEntry) (ends : Node → NodeState) (xs : List (Node × JournalEntry)) : Type 0 where
  pub entries : entries_from c (new_world h) (script xs) ≡ map (λ (x : Node × JournalEntry). as_entry x.1) xs
  pub inputs : (n : Node) → inputs_of c n (new_world h) (script xs) ≡ inputs_taken c (node_at (new_world h) n) (j (node_number n))
  pub ends_are : (n : Node) → node_at (world_after c (new_world h) (script xs)) n ≡ ends n
