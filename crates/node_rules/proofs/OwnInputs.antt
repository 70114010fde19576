-- A node's part of a run is its own steps on its own inputs.
use Rattle.std.proofs.Common.{◌≡◌, ◌++◌, List, [], ◌∷◌, refl, sym, ap, ◌∙◌}
use Rattle.dc_base.specs.declared.events.Event.{Event}
use Rattle.dc_base.specs.declared.nodes.Node.{Node}
use Rattle.dc_base.specs.declared.nodes.Node.TheVariants.{T, M, A, B}
use Rattle.node_rules.specs.declared.inputs.Input.{Input}
use Rattle.node_rules.specs.declared.inputs.Outcome.{Outcome}
use Rattle.node_rules.specs.Choices.{Choices}
use Rattle.node_rules.specs.NodeRule.{NodeState, node_step, after_inputs}
use Rattle.node_rules.specs.Run.{Happening, given_to, refused_for, on_links, happening, takes, carried_on, moved_on, world_step, world_after, node_at, input_of, inputs_of}
use Rattle.node_rules.specs.World.{World}

-- inputs in two parts
after_inputs-append : (c : Choices) (s : NodeState) (xs ys : List Input) → after_inputs c s (xs ++ ys) ≡ after_inputs c (after_inputs c s xs) ys
after_inputs-append c s [] ys = refl
after_inputs-append c s (x ∷ xs) ys = after_inputs-append c (node_step c s x).0 xs ys

-- one input, taken by one of the nodes
node_at-takes : (c : Choices) (w : World) (i : Input) (x y : Node) → node_at (takes c w i y).0 x ≡ after_inputs c (node_at w x) (input_of x (given_to y i))
node_at-takes c w i T T = refl
node_at-takes c w i T M = refl
node_at-takes c w i T A = refl
node_at-takes c w i T B = refl
node_at-takes c w i M T = refl
node_at-takes c w i M M = refl
node_at-takes c w i M A = refl
node_at-takes c w i M B = refl
node_at-takes c w i A T = refl
node_at-takes c w i A M = refl
node_at-takes c w i A A = refl
node_at-takes c w i A B = refl
node_at-takes c w i B T = refl
node_at-takes c w i B M = refl
node_at-takes c w i B A = refl
node_at-takes c w i B B = refl

-- whatever happens
node_at-carried_on : (c : Choices) (w : World) (x : Node) (h : Happening) → node_at (carried_on c w h).0 x ≡ after_inputs c (node_at w x) (input_of x h)
node_at-carried_on c w x (given_to y i) = node_at-takes c w i x y
node_at-carried_on c w x (refused_for why) = refl
node_at-carried_on c w x (on_links effects) = refl

-- the links are no part of a node
node_at-moved_on : (e : Event) (done : World × Outcome) (x : Node) → node_at (moved_on e done).0 x ≡ node_at done.0 x
node_at-moved_on e done T = refl
node_at-moved_on e done M = refl
node_at-moved_on e done A = refl
node_at-moved_on e done B = refl

-- one event
node_at-world_step : (c : Choices) (w : World) (x : Node) (e : Event) → node_at (world_step c w e).0 x ≡ after_inputs c (node_at w x) (input_of x (happening w e))
node_at-world_step c w x e = node_at-moved_on e (carried_on c w (happening w e)) x ∙ node_at-carried_on c w x (happening w e)

-- a whole run
pub node_at-world_after : (c : Choices) (x : Node) (w : World) (es : List Event) → node_at (world_after c w es) x ≡ after_inputs c (node_at w x) (inputs_of c x w es)
node_at-world_after c x w [] = refl
node_at-world_after c x w (e ∷ es) =
    node_at-world_after c x (world_step c w e).0 es
    ∙ ap (λ s. after_inputs c s (inputs_of c x (world_step c w e).0 es)) (node_at-world_step c w x e)
    ∙ sym (after_inputs-append c (node_at w x) (input_of x (happening w e)) (inputs_of c x (world_step c w e).0 es))

-- what an event gives is what the node gave that took it
pub outcome-takes : (c : Choices) (w : World) (i : Input) (y : Node) → (takes c w i y).1 ≡ (node_step c (node_at w y) i).1
outcome-takes c w i T = refl
outcome-takes c w i M = refl
outcome-takes c w i A = refl
outcome-takes c w i B = refl
