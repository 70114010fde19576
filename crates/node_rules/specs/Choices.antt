-- What a node is given and what it gives: the same for the terminal, the master and the secondaries.
use Rattle.std.specs.Prelude.{List}
use Rattle.dc_base.specs.declared.nodes.LinkId.{LinkId}
use Rattle.dc_base.specs.declared.flights.Flight.{Flight}
use Rattle.dc_base.specs.declared.answers.Answer.{Answer}
use Rattle.dc_base.specs.declared.events.Event.{Event}
use Rattle.dc_base.specs.declared.events.Note.{Note}
use Rattle.split_leg.specs.Routing.{Margins}
use Rattle.node_rules.specs.declared.inputs.Input.{Input}
use Rattle.node_rules.specs.declared.inputs.Outcome.{Outcome}

-- what was handed in: the two numbers of each stored routing policy, in the order of the policies' numbers, from 0
-- (this product's own)
pub record Choices : Type 0 where
  pub policies : List Margins

-- the choices of these policies (this product's own)
abbrev pub by_policies : List Margins → Choices
by_policies policies = record { policies = policies }

-- a flight that is put at the end of a link (this product's own)
abbrev pub Send : Type 0
Send = LinkId × Flight
