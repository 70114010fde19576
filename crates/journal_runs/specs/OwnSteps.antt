-- What the node of a worker does with what the worker takes, and the entries that say so.
use Rattle.std.specs.Prelude.{List, None, Option, Some, [], if◌then◌else◌, true, ⊤, ◌++◌, ◌∷◌, ◌≡◌}
use Rattle.dc_base.specs.Links.{is_tunnel}
use Rattle.dc_base.specs.declared.answers.Refusal.TheVariants.{Aged}
use Rattle.dc_base.specs.declared.events.Event.{Event}
use Rattle.dc_base.specs.declared.events.Event.TheVariants as event
use Rattle.dc_base.specs.declared.nodes.Node.{Node}
use Rattle.dc_base.specs.declared.nodes.Node.TheVariants.{M, T}
use Rattle.journals.specs.declared.entries.JournalEntry.{JournalEntry}
use Rattle.journals.specs.declared.entries.Message.{Message}
use Rattle.journals.specs.declared.entries.What.{What}
use Rattle.journals.specs.declared.entries.What.TheVariants.{Driver, Loss, Step}
use Rattle.node_rules.specs.Choices.{Choices}
use Rattle.node_rules.specs.Effects.{accepted, quiet, turned_down}
use Rattle.node_rules.specs.Flights.{weight}
use Rattle.node_rules.specs.Lines.{lines_of}
use Rattle.node_rules.specs.NodeRule.{NodeState, node_step}
use Rattle.node_rules.specs.Readers.{is_aged_for}
use Rattle.node_rules.specs.Run.{submitter}
use Rattle.node_rules.specs.declared.inputs.Input.{Input}
use Rattle.node_rules.specs.declared.inputs.Input.TheVariants.{Cmd, Come}
use Rattle.node_rules.specs.declared.inputs.Outcome.{Outcome}

-- the node that takes a line of a plan; what happens to flights on links is no such line
abbrev pub driven : Event → Option Node
driven (event.Bearer id n first shape threshold policy) = Some M
driven (event.Reshape id shape) = Some M
driven (event.Remove id) = Some M
driven (event.Add node) = Some M
driven event.Change = Some M
driven event.Release = Some M
driven event.RekeySecond = Some M
driven (event.RekeyMaster root) = Some M
driven (event.Recover id) = Some M
driven (event.Report node id) = Some node
driven (event.Deny node on) = Some node
driven (event.Ask node what) = Some node
driven event.ScgFail = Some T
driven (event.Submit id d payload) = Some (submitter d)
driven (event.Step l i) = None
driven (event.Lose l i) = None
driven (event.Again l i) = None

-- what a worker of this node may take: lines for the node; messages; and a tunnel alone loses
abbrev pub MayTake : Node → What → Type 0
MayTake n (Driver e) = driven e ≡ Some n
MayTake n (Step m) = ⊤
MayTake n (Loss m) = is_tunnel m.link.class ≡ true

-- a message is given to the node unless it is aged for it
abbrev pub given : Choices → NodeState → Message → NodeState × Outcome
given c s m = if is_aged_for s (weight m.flight) then turned_down s Aged else node_step c s (Come m.link m.flight)

-- what the node does with what the worker takes
abbrev pub own_step : Choices → NodeState → What → NodeState × Outcome
own_step c s (Driver e) = node_step c s (Cmd e)
own_step c s (Step m) = given c s m
own_step c s (Loss m) = accepted (s, quiet)

-- an entry has the answer and the lines of an outcome
abbrev pub Says : Outcome → JournalEntry → Type 0
Says o e = (e.answer ≡ o.answer) × (e.lines ≡ lines_of o)

-- the entries are steps of node n, from state s to state t
abbrev pub AreOwnSteps : Choices → Node → NodeState → List JournalEntry → NodeState → Type 0
AreOwnSteps c n s [] t = s ≡ t
AreOwnSteps c n s (e ∷ es) t =
    MayTake n e.what × Says (own_step c s e.what).1 e × AreOwnSteps c n (own_step c s e.what).0 es t

-- the inputs that the node gets by what the worker takes
abbrev pub own_inputs : Choices → NodeState → What → List Input
own_inputs c s (Driver e) = Cmd e ∷ []
own_inputs c s (Step m) = if is_aged_for s (weight m.flight) then [] else Come m.link m.flight ∷ []
own_inputs c s (Loss m) = []

-- and by all entries of a journal
abbrev pub inputs_taken : Choices → NodeState → List JournalEntry → List Input
inputs_taken c s [] = []
inputs_taken c s (e ∷ es) = own_inputs c s e.what ++ inputs_taken c (own_step c s e.what).0 es
