-- To whom an event goes, and the world without the flight that it took.
use Rattle.std.specs.Prelude.{None, ⊤, ◌≡◌}
use Rattle.dc_base.specs.declared.answers.Answer.{Answer}
use Rattle.dc_base.specs.declared.events.Event.{Event}
use Rattle.dc_base.specs.declared.events.Event.TheVariants.{Again, Lose, Step}
use Rattle.dc_base.specs.declared.nodes.Node.{Node}
use Rattle.transcript.specs.Content.{place_taken}
use Rattle.node_rules.specs.declared.inputs.Input.TheVariants.{Cmd}
use Rattle.node_rules.specs.declared.inputs.Outcome.{Outcome}
use Rattle.node_rules.specs.Run.{given_to, happening}
use Rattle.node_rules.specs.World.{World, without}

-- it is for a node, and takes no flight from a link
pub record IsFor (x : Node) (e : Event) : Type 0 where
  pub given : (w : World) → happening w e ≡ given_to x (Cmd e)
  pub alone : (a : Answer) → place_taken e a ≡ None

-- it happens to a flight
abbrev pub IsOfFlight : Event → Type 0
IsOfFlight (Step l i) = ⊤
IsOfFlight (Lose l i) = ⊤
IsOfFlight (Again l i) = ⊤
IsOfFlight _ = ⊥

-- what an event did, without the flight that it took
abbrev pub taken : Event → World × Outcome → World × Outcome
taken e done = (record done.0 { links = without (place_taken e done.1.answer) done.0.links }, done.1)
