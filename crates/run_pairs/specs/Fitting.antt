-- What comes first to each secondary node fits its anchors, in a state and in each state of a run.
use Rattle.std.specs.Prelude.{List, [], true, ⊤, ◌∷◌, ◌≡◌}
use Rattle.dc_base.specs.Nodes.{is_secondary}
use Rattle.dc_base.specs.declared.events.Event.{Event}
use Rattle.dc_base.specs.declared.nodes.Node.{Node}
use Rattle.dc_base.specs.declared.nodes.Node.TheVariants.{M}
use Rattle.node_rules.specs.Choices.{Choices}
use Rattle.node_rules.specs.Run.{world_step}
use Rattle.node_rules.specs.World.{World}
use Rattle.run_control.specs.Claims.{FirstIs, second_at}
use Rattle.run_control.specs.Links.{records_on}
use Rattle.run_control.specs.SecondControl.{fits}
use Rattle.run_control.specs.Views.{second_view}

-- what comes first to a secondary node fits its anchors
abbrev pub FitsFirst : World → Type 0
FitsFirst w = (x : Node) → is_secondary x ≡ true → FirstIs (λ r. fits x (second_view (second_at x w)) r ≡ true) (records_on M x w)

-- in each state of a run but the last
abbrev pub FitsWhile : Choices → World → List Event → Type 0
FitsWhile c w [] = ⊤
FitsWhile c w (e ∷ es) = FitsFirst w × FitsWhile c (world_step c w e).0 es
