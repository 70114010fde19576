-- A node of any kind, and what it does with one input: from state to state, with the outcome.
use Rattle.std.specs.Prelude.{List, [], ◌∷◌}
use Rattle.node_rules.specs.declared.inputs.Input.{Input}
use Rattle.node_rules.specs.declared.inputs.Outcome.{Outcome}
use Rattle.node_rules.specs.Choices.{Choices}
use Rattle.node_rules.specs.Master.{MasterNode}
use Rattle.node_rules.specs.MasterStep.{master_step}
use Rattle.node_rules.specs.SecondStep.{second_step}
use Rattle.node_rules.specs.Secondary.{SecondNode}
use Rattle.node_rules.specs.Terminal.{TerminalNode, terminal_step}

-- the terminal, the master, or a secondary node (this product's own)
pub data NodeState : Type 0 where
  terminal_node : (t : TerminalNode) → NodeState
  master_node : (m : MasterNode) → NodeState
  second_node : (s : SecondNode) → NodeState

-- the state after a step, as that of a node (this product's own)
abbrev pub as_node : {S : Type 0} → (S → NodeState) → S × Outcome → NodeState × Outcome
as_node f done = (f done.0, done.1)

-- the rule of a node (this product's own)
abbrev pub node_step : Choices → NodeState → Input → NodeState × Outcome
node_step c (terminal_node t) i = as_node terminal_node (terminal_step c t i)
node_step c (master_node m) i = as_node master_node (master_step c m i)
node_step c (second_node s) i = as_node second_node (second_step c s i)

-- a node after inputs, one after another (this product's own)
abbrev pub after_inputs : Choices → NodeState → List Input → NodeState
after_inputs c s [] = s
after_inputs c s (i ∷ is) = after_inputs c (node_step c s i).0 is
