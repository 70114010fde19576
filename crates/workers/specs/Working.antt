-- What is so of a worker between its turns.
use Rattle.std.specs.Prelude.{Bool, List, Some, [], false, true, ⊤, ℕ, ◌+◌, ◌++◌, ◌<◌, ◌∷◌, ◌≡◌, ◌≤◌}
use Rattle.std.specs.List.{AllByRecursion}
use Rattle.atomic_table.specs.Seated.{TableId}
use Rattle.crossbeam_queue.specs.Passes.{view}
use Rattle.dc_base.specs.Nodes.{node_number}
use Rattle.dc_base.specs.declared.answers.Answer.{Answer}
use Rattle.dc_base.specs.declared.events.Event.{Event}
use Rattle.dc_base.specs.declared.events.Line.{Line}
use Rattle.dc_base.specs.declared.nodes.Node.{Node}
use Rattle.inbox.specs.Inbox.{view_of}
use Rattle.journal_runs.specs.OwnSteps.{MayTake, Says, driven, own_step}
use Rattle.journals.specs.Journals.{Rising, Stamped, sent, taken, took}
use Rattle.journals.specs.Messages.{messages, to}
use Rattle.journals.specs.declared.entries.JournalEntry.{JournalEntry}
use Rattle.journals.specs.declared.entries.Message.{Message}
use Rattle.journals.specs.declared.entries.What.{What}
use Rattle.journals.specs.declared.entries.What.TheVariants.{Driver, Loss, Step}
use Rattle.node_rules.specs.Choices.{Choices}
use Rattle.node_rules.specs.Lines.{lines_of}
use Rattle.node_rules.specs.NodeRule.{NodeState}
use Rattle.outlets.specs.Ways.{AreOf, AreWays, IsTicketOf, posted}
use Rattle.workers.specs.Plans.{Waits, line_in}
use Rattle.workers.specs.declared.worker.Worker.{Worker}

-- what stands around the workers: which inboxes, and the choices
pub record Around : Type 0 where
  pub ids : ℕ → TableId
  pub choices : Choices

-- of these
abbrev pub around : (ℕ → TableId) → Choices → Around
around ids choices = record { ids = ids; choices = choices }

-- how a worker begins: its node, the state of the node, the lines of the plan for it, and whether its shaper loses nothing
pub record Opening : Type 0 where
  pub me : Node
  pub state : NodeState
  pub plan : List Event
  pub lossless : Bool

-- of these
abbrev pub opening : Node → NodeState → List Event → Bool → Opening
opening me state plan lossless = record { me = me; state = state; plan = plan; lossless = lossless }

-- each is a line for this node
abbrev pub AreDrivenAt : Node → List Event → Type 0
AreDrivenAt n ls = AllByRecursion (λ (e : Event). driven e ≡ Some n) ls

-- what a node did with what its worker took: its state, answer and lines
pub record Done (c : Choices) (s : NodeState) (what : What) (t : NodeState) (answer : Answer) (lines : List Line) : Type 0 where
  pub state : t ≡ (own_step c s what).0
  pub answer_is : answer ≡ (own_step c s what).1.answer
  pub lines_are : lines ≡ lines_of (own_step c s what).1

-- From state s, the lines ls and the turn t on, the entries are steps of node n and take the lines in order, up to the state d, the
-- lines ks and the turn u. In each turn without an entry there was no line or the next one was not ready.
abbrev pub Worked : Choices → Node → NodeState → List Event → ℕ → List JournalEntry → NodeState → List Event → ℕ → Type 0
Worked c n s ls t [] d ks u = (s ≡ d) × (ls ≡ ks) × (t < u → Waits s ls)
Worked c n s ls t (e ∷ es) d ks u =
    (t < e.turn → Waits s ls) × MayTake n e.what × Says (own_step c s e.what).1 e
    × (rest : List Event) × (ls ≡ line_in e.what ++ rest) × Worked c n (own_step c s e.what).0 rest (e.turn + 1) es d ks u

-- the stamp is at most the clock, and the turn is an earlier one
abbrev pub Until : ℕ → ℕ → JournalEntry → Type 0
Until clock turn e = (e.stamp ≤ clock) × (e.turn < turn)

-- whether a message was lost
abbrev pub is_loss : What → Bool
is_loss (Driver e) = false
is_loss (Step m) = false
is_loss (Loss m) = true

-- no message was lost
abbrev pub LosesNone : List JournalEntry → Type 0
LosesNone es = AllByRecursion (λ (e : JournalEntry). is_loss e.what ≡ false) es

-- before this turn, where these messages were taken
pub record Sound {C G S : Type 0} (node : C → NodeState) (is_lossless : S → Bool) (x : Around) (o : Opening) (turn : ℕ) (got : List Message) (w : Worker C G S) : Type 0 where
  pub me : w.me ≡ o.me
  pub pass : IsTicketOf (x.ids (node_number w.me)) w.ticket
  pub right : view w.ticket ≡ view_of true got []
  pub ways : AreWays x.ids (node_number w.me) (λ k. to k (sent w.journal)) w.outlets
  pub stamped : AllByRecursion (Stamped (node_number w.me)) w.journal
  pub rising : Rising 0 0 w.journal
  pub until : AllByRecursion (Until w.clock turn) w.journal
  pub driven_by : AreDrivenAt w.me w.lines.items
  pub worked : Worked x.choices w.me o.state o.plan 0 w.journal (node w.core) w.lines.items turn
  pub shaper : is_lossless w.shaper ≡ o.lossless
  pub lossless : o.lossless ≡ true → LosesNone w.journal

-- an entry was written, and what it sends is on its way
pub record Noted {C G S : Type 0} (node : C → NodeState) (c : Choices) (w : Worker C G S) (turn clock : ℕ) (what : What) (v : Worker C G S) : Type 0 where
  pub answer : Answer
  pub lines : List Line
  pub done : Done c (node w.core) what (node v.core) answer lines
  pub own : AreOf (node_number w.me) (messages clock lines)
  pub outlets : v.outlets ≡ posted w.outlets (messages clock lines)
  pub journal : v.journal ≡ w.journal ++ record { stamp = clock; turn = turn; what = what; answer = answer; lines = lines } ∷ []
  pub clock_is : v.clock ≡ clock
  pub me : v.me ≡ w.me
  pub ticket : v.ticket ≡ w.ticket
  pub left : v.lines.items ≡ w.lines.items
  pub shaper : v.shaper ≡ w.shaper

-- what becomes of a message that was taken
pub record IsTaken {C G S : Type 0} (is_lossless : S → Bool) (w : Worker C G S) (m : Message) (what : What) (v : Worker C G S) : Type 0 where
  pub takes : took what ≡ m ∷ []
  pub no_line : line_in what ≡ []
  pub may : (n : Node) → MayTake n what
  pub kept : is_lossless w.shaper ≡ true → is_loss what ≡ false
  pub rest : v ≡ record w { shaped = v.shaped }

-- before an entry is written
pub record Ready {C G S : Type 0} (node : C → NodeState) (is_lossless : S → Bool) (x : Around) (o : Opening) (turn clock : ℕ) (what : What) (w : Worker C G S) : Type 0 where
  pub me : w.me ≡ o.me
  pub pass : IsTicketOf (x.ids (node_number w.me)) w.ticket
  pub right : view w.ticket ≡ view_of true (taken w.journal ++ took what) []
  pub ways : AreWays x.ids (node_number w.me) (λ k. to k (sent w.journal)) w.outlets
  pub stamped : AllByRecursion (Stamped (node_number w.me)) w.journal
  pub rising : Rising 0 0 w.journal
  pub until : AllByRecursion (Until w.clock turn) w.journal
  pub driven_by : AreDrivenAt w.me w.lines.items
  pub ahead : List Event
  pub worked : Worked x.choices w.me o.state o.plan 0 w.journal (node w.core) ahead turn
  pub takes_line : ahead ≡ line_in what ++ w.lines.items
  pub may : MayTake w.me what
  pub shaper : is_lossless w.shaper ≡ o.lossless
  pub lossless : o.lossless ≡ true → LosesNone w.journal
  pub kept : is_lossless w.shaper ≡ true → is_loss what ≡ false
  pub later : w.clock < clock
  pub early : AllByRecursion (λ (m : Message). m.stamp < clock) (took what)

-- it may take its first turn
pub record MayRun {C G S : Type 0} (node : C → NodeState) (is_lossless : S → Bool) (x : Around) (w : Worker C G S) : Type 0 where
  pub opens : Opening
  pub sound : Sound node is_lossless x opens 0 (taken w.journal) w

-- however the first worker began, the second is what it has become when it has taken so many turns
pub record HasRun {C G S : Type 0} (node : C → NodeState) (is_lossless : S → Bool) (x : Around) (turns : ℕ) (w v : Worker C G S) : Type 0 where
  pub now : (o : Opening) → Sound node is_lossless x o 0 (taken w.journal) w → Sound node is_lossless x o turns (taken v.journal) v
