-- When a node may take the next line of its plan.
use Rattle.std.specs.Prelude.{Bool, List, [], false, not, true, ⊤, ◌∷◌, ◌≡◌}
use Rattle.dc_base.specs.declared.events.Event.{Event}
use Rattle.dc_base.specs.declared.events.Event.TheVariants as event
use Rattle.journals.specs.declared.entries.What.{What}
use Rattle.journals.specs.declared.entries.What.TheVariants.{Driver, Loss, Step}
use Rattle.node_rules.specs.NodeRule.{NodeState, master_node, second_node, terminal_node}
use Rattle.node_rules.specs.Readers.{has, is_busy}

-- a command is open at the node
abbrev pub is_open : NodeState → Bool
is_open (terminal_node t) = false
is_open (master_node m) = is_busy m
is_open (second_node s) = false

-- a command waits while one is open, a payload and a report until the node has the bearer; no other line waits
abbrev pub is_ready : NodeState → Event → Bool
is_ready s (event.Bearer id n first shape threshold policy) = not (is_open s)
is_ready s (event.Reshape id shape) = not (is_open s)
is_ready s (event.Remove id) = not (is_open s)
is_ready s (event.Add node) = not (is_open s)
is_ready s event.Change = not (is_open s)
is_ready s event.Release = not (is_open s)
is_ready s event.RekeySecond = not (is_open s)
is_ready s (event.RekeyMaster root) = not (is_open s)
is_ready s (event.Recover id) = not (is_open s)
is_ready s (event.Report node id) = has s id
is_ready s (event.Submit id d payload) = has s id
is_ready s _ = true

-- the next line is not ready, or there is none
abbrev pub Waits : NodeState → List Event → Type 0
Waits s [] = ⊤
Waits s (l ∷ ls) = is_ready s l ≡ false

-- the line of the plan that was taken, if one was
abbrev pub line_in : What → List Event
line_in (Driver e) = e ∷ []
line_in (Step m) = []
line_in (Loss m) = []
