-- What workers leave after their last turn.
use Rattle.std.specs.Prelude.{List, [], true, ℕ, ◌<◌, ◌≡◌}
use Rattle.std.specs.List.{AllByRecursion}
use Rattle.atomic_table.specs.Seated.{TableId}
use Rattle.crossbeam_queue.specs.Passes.{view}
use Rattle.dc_base.specs.Nodes.{node_number}
use Rattle.dc_base.specs.declared.events.Event.{Event}
use Rattle.dc_base.specs.declared.nodes.Node.{Node}
use Rattle.inbox.specs.Inbox.{view_of}
use Rattle.journals.specs.Journals.{Rising, Stamped, sent, taken}
use Rattle.journals.specs.Messages.{to}
use Rattle.journals.specs.declared.entries.JournalEntry.{JournalEntry}
use Rattle.node_rules.specs.Choices.{Choices}
use Rattle.node_rules.specs.NodeRule.{NodeState}
use Rattle.outlets.specs.Ways.{AreWays, IsTicketOf}
use Rattle.workers.specs.Working.{AreDrivenAt, LosesNone, Opening, Worked}
use Rattle.workers.specs.declared.worker.Worker.{Worker}

-- A journal of so many turns, and the lines that are left: the entries are steps of the node from its opening state on, and take
-- the lines of its plan in order. In each turn without an entry no line was left, or the next one was not ready.
pub record Ran (c : Choices) (o : Opening) (turns : ℕ) (es : List JournalEntry) (left : List Event) : Type 0 where
  pub end : NodeState
  pub worked : Worked c o.me o.state o.plan 0 es end left turns
  pub in_turns : AllByRecursion (λ (e : JournalEntry). e.turn < turns) es
  pub left_for : AreDrivenAt o.me left
  pub lossless : o.lossless ≡ true → LosesNone es

-- what is so of the worker of a node when it has ended, whatever its core, its gate and its shaper are
pub record IsDone {C G S : Type 0} (ids : ℕ → TableId) (n : Node) (w : Worker C G S) : Type 0 where
  pub pass : IsTicketOf (ids (node_number n)) w.ticket
  pub right : view w.ticket ≡ view_of true (taken w.journal) []
  pub ways : AreWays ids (node_number n) (λ k. to k (sent w.journal)) w.outlets
  pub stamped : AllByRecursion (Stamped (node_number n)) w.journal
  pub rising : Rising 0 0 w.journal
