-- One event of a run, for each node: its own inputs of it, and what comes of them.
use Rattle.std.proofs.Common.{refl, ◌∙◌, ◌≡◌}
use Rattle.dc_base.specs.declared.events.Event.{Event}
use Rattle.dc_base.specs.declared.nodes.Node.{Node}
use Rattle.dc_base.specs.declared.nodes.Node.TheVariants.{A, B, M, T}
use Rattle.node_rules.specs.Choices.{Choices}
use Rattle.node_rules.specs.NodeRule.{after_inputs, node_step}
use Rattle.node_rules.specs.Run.{Happening, carried_on, given_to, happening, input_of, moved_on, node_at, on_links, refused_for, takes, world_step}
use Rattle.node_rules.specs.World.{World}
use Rattle.node_rules.specs.declared.inputs.Input.{Input}
use Rattle.node_rules.specs.declared.inputs.Outcome.{Outcome}

-- one input, taken by one of the nodes
node_at_takes : (c : Choices) (w : World) (i : Input) (x y : Node) → node_at (takes c w i y).0 x ≡ after_inputs c (node_at w x) (input_of x (given_to y i))
node_at_takes c w i T T = refl
node_at_takes c w i T M = refl
node_at_takes c w i T A = refl
node_at_takes c w i T B = refl
node_at_takes c w i M T = refl
node_at_takes c w i M M = refl
node_at_takes c w i M A = refl
node_at_takes c w i M B = refl
node_at_takes c w i A T = refl
node_at_takes c w i A M = refl
node_at_takes c w i A A = refl
node_at_takes c w i A B = refl
node_at_takes c w i B T = refl
node_at_takes c w i B M = refl
node_at_takes c w i B A = refl
node_at_takes c w i B B = refl

-- whatever happens
node_at_carried_on : (c : Choices) (w : World) (x : Node) (h : Happening) → node_at (carried_on c w h).0 x ≡ after_inputs c (node_at w x) (input_of x h)
node_at_carried_on c w x (given_to y i) = node_at_takes c w i x y
node_at_carried_on c w x (refused_for why) = refl
node_at_carried_on c w x (on_links effects) = refl

-- the links are no part of a node
node_at_moved_on : (e : Event) (done : World × Outcome) (x : Node) → node_at (moved_on e done).0 x ≡ node_at done.0 x
node_at_moved_on e done T = refl
node_at_moved_on e done M = refl
node_at_moved_on e done A = refl
node_at_moved_on e done B = refl

-- one event
pub node_at_world_step : (c : Choices) (w : World) (x : Node) (e : Event) → node_at (world_step c w e).0 x ≡ after_inputs c (node_at w x) (input_of x (happening w e))
node_at_world_step c w x e = node_at_moved_on e (carried_on c w (happening w e)) x ∙ node_at_carried_on c w x (happening w e)

-- what an event gives is what the node gave that took it
pub outcome_takes : (c : Choices) (w : World) (i : Input) (y : Node) → (takes c w i y).1 ≡ (node_step c (node_at w y) i).1
outcome_takes c w i T = refl
outcome_takes c w i M = refl
outcome_takes c w i A = refl
outcome_takes c w i B = refl
