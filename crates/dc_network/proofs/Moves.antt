-- What an event does to the nodes and to the flight that it takes.
use Rattle.std.proofs.Common.{◌≡◌, ◌&&◌, Err, Ok, Result, Some, ap, false, refl, subst, sym, ℕ}
use Rattle.std.specs.Prelude.{IfOk, nat_lt, slice_get}
use Rattle.dc_base.specs.Links.{is_ordered}
use Rattle.dc_base.specs.declared.events.Event.TheVariants.{Step}
use Rattle.dc_base.specs.declared.flights.Flight.{Flight}
use Rattle.dc_base.specs.declared.lists.Memory.{Memory}
use Rattle.dc_base.specs.declared.nodes.LinkId.{LinkId}
use Rattle.dc_base.specs.declared.nodes.Node.{Node}
use Rattle.dc_base.specs.declared.nodes.Node.TheVariants.{A, B, M, T}
use Rattle.node_rules.specs.declared.bearers.Weight.{Weight}
use Rattle.node_rules.specs.declared.inputs.Input.{Input}
use Rattle.node_rules.specs.declared.inputs.Input.TheVariants.{Come}
use Rattle.node_rules.specs.declared.inputs.Outcome.{Outcome}
use Rattle.node_rules.specs.Choices.{Choices}
use Rattle.node_rules.specs.Flights.{weight}
use Rattle.node_rules.specs.Readers.{is_aged_for}
use Rattle.node_rules.specs.Run.{carried_on, node_at, step_of, takes}
use Rattle.node_rules.specs.SecondStep.{second_step}
use Rattle.node_rules.specs.Secondary.{SecondNode}
use Rattle.node_rules.specs.World.{Links, World, flights_on, without}
use Rattle.dc_network.specs.Events.{taken}

-- the links are no part of a node
pub node_at-links : (w : World) (links : Links) (x : Node) → node_at (record w { links = links }) x ≡ node_at w x
node_at-links w links T = refl
node_at-links w links M = refl
node_at-links w links A = refl
node_at-links w links B = refl

-- a node takes a flight that is gone from its link
come : (c : Choices) (w : World) (l : LinkId) (i : ℕ) (f : Flight) (x : Node)
    → takes c (record w { links = without (Some (l, i)) w.links }) (Come l f) x ≡ taken (Step l i) (takes c w (Come l f) x)
come c w l i f T = refl
come c w l i f M = refl
come c w l i f A = refl
come c w l i f B = refl

-- ---- a step

-- what a step comes to
abbrev pub step_done : Choices → World → LinkId → ℕ → World × Outcome
step_done c w l i = taken (Step l i) (carried_on c w (step_of w l i (slice_get (flights_on l w.links) i)))

-- a flight that is gone from its link is given to the receiver
given : (c : Choices) (w : World) (l : LinkId) (i : ℕ) (f : Flight) → slice_get (flights_on l w.links) i ≡ Some f
    → (is_ordered l.class && nat_lt 0 i) ≡ false → is_aged_for (node_at w l.to) (weight f) ≡ false
    → takes c (record w { links = without (Some (l, i)) w.links }) (Come l f) l.to ≡ step_done c w l i
given c w l i f there in_turn young = rw (there, in_turn, young) (come c w l i f l.to)

-- the outcome of a step that gives a flight
pub step_given : (c : Choices) (w : World) (l : LinkId) (i : ℕ) (f : Flight) (links : Links) (weighed : Weight) (after : World) (r : Result Outcome Memory)
    → slice_get (flights_on l w.links) i ≡ Some f
    → (is_ordered l.class && nat_lt 0 i) ≡ false
    → links ≡ without (Some (l, i)) w.links
    → weighed ≡ weight f
    → false ≡ is_aged_for (node_at (record w { links = links }) l.to) weighed
    → IfOk r (λ out. (after, out) ≡ takes c (record w { links = links }) (Come l f) l.to)
    → IfOk r (λ out. (after, out) ≡ step_done c w l i)
step_given c w l i f links weighed after r there in_turn gone same young done =
    let fresh : is_aged_for (node_at w l.to) (weight f) ≡ false = rw (← same, ← node_at-links w links l.to) (sym young) in
    let whole : takes c (record w { links = links }) (Come l f) l.to ≡ step_done c w l i = rw gone (given c w l i f there in_turn fresh) in
    let Done : World × Outcome → Type 0 = λ d. IfOk r (λ out. (after, out) ≡ d) in
    subst Done whole done

-- ---- a secondary node takes an input

-- the one secondary node
pub gives_a : (c : Choices) (w : World) (i : Input) (s : SecondNode) (r : Result Outcome Memory) → IfOk r (λ out. (s, out) ≡ second_step c w.a i)
    → IfOk r (λ out. (record w { a = s }, out) ≡ takes c w i A)
gives_a c w i s (Ok out) h = ap (λ (d : SecondNode × Outcome). (record w { a = d.0 }, d.1)) h
gives_a c w i s (Err e) h = h

-- the other one
pub gives_b : (c : Choices) (w : World) (i : Input) (s : SecondNode) (r : Result Outcome Memory) → IfOk r (λ out. (s, out) ≡ second_step c w.b i)
    → IfOk r (λ out. (record w { b = s }, out) ≡ takes c w i B)
gives_b c w i s (Ok out) h = ap (λ (d : SecondNode × Outcome). (record w { b = d.0 }, d.1)) h
gives_b c w i s (Err e) h = h
