-- A run of the four nodes and the links between them, one event after another.
use Rattle.std.specs.Prelude.{List, None, Option, Some, [], if◌then◌else◌, nat_lt, slice_get, ℕ, ◌&&◌, ◌++◌, ◌∷◌}
use Rattle.dc_base.specs.Links.{is_ordered, is_tunnel}
use Rattle.dc_base.specs.Nodes.{is_same_node}
use Rattle.dc_base.specs.declared.answers.Refusal.{Refusal}
use Rattle.dc_base.specs.declared.answers.Refusal.TheVariants as refusal
use Rattle.dc_base.specs.declared.events.Event.{Event}
use Rattle.dc_base.specs.declared.events.Event.TheVariants as event
use Rattle.dc_base.specs.declared.flights.Flight.{Flight}
use Rattle.dc_base.specs.declared.nodes.Class.{Class}
use Rattle.dc_base.specs.declared.nodes.Dir.{Dir}
use Rattle.dc_base.specs.declared.nodes.Dir.TheVariants.{Dl, Ul}
use Rattle.dc_base.specs.declared.nodes.LinkId.{LinkId}
use Rattle.dc_base.specs.declared.nodes.Node.{Node}
use Rattle.dc_base.specs.declared.nodes.Node.TheVariants.{A, B, M, T}
use Rattle.transcript.specs.Content.{place_taken}
use Rattle.transcript.specs.Transcript.{Entry}
use Rattle.node_rules.specs.declared.inputs.Input.{Input}
use Rattle.node_rules.specs.declared.inputs.Outcome.{Outcome}
use Rattle.node_rules.specs.declared.inputs.Input.TheVariants.{Cmd, Come}
use Rattle.node_rules.specs.Choices.{Choices}
use Rattle.node_rules.specs.declared.inputs.Effects.{Effects}
use Rattle.node_rules.specs.Effects.{accepted, quiet, sent, turned_down}
use Rattle.node_rules.specs.Flights.{weight}
use Rattle.node_rules.specs.Lines.{lines_of}
use Rattle.node_rules.specs.MasterStep.{master_step}
use Rattle.node_rules.specs.NodeRule.{NodeState, master_node, second_node, terminal_node}
use Rattle.node_rules.specs.Readers.{is_aged_for}
use Rattle.node_rules.specs.SecondStep.{second_step}
use Rattle.node_rules.specs.Terminal.{terminal_step}
use Rattle.node_rules.specs.World.{World, flights_on, links_after}

-- ---- what an event comes to

-- the state of a node (this product's own)
abbrev pub node_at : World → Node → NodeState
node_at w T = terminal_node w.terminal
node_at w M = master_node w.master
node_at w A = second_node w.a
node_at w B = second_node w.b

-- an input for a node; a refusal; or what happens to flights alone (this product's own)
pub data Happening : Type 0 where
  given_to : (node : Node) → (input : Input) → Happening
  refused_for : (why : Refusal) → Happening
  on_links : (effects : Effects) → Happening

-- a flight is given to the receiver of its link, unless the link keeps its order and it is not the first, or it is aged
-- (this product's own)
abbrev pub step_of : World → LinkId → ℕ → Option Flight → Happening
step_of w l i None = refused_for refusal.NoFlight
step_of w l i (Some f) =
    if is_ordered l.class && nat_lt 0 i then refused_for refusal.NotFirst
    else if is_aged_for (node_at w l.to) (weight f) then refused_for refusal.Aged
    else given_to l.to (Come l f)

-- a flight is lost (this product's own)
abbrev pub loss_of : Option Flight → Happening
loss_of None = refused_for refusal.NoFlight
loss_of (Some f) = on_links quiet

-- a copy of a flight is put at the end of its link (this product's own)
abbrev pub copy_of : LinkId → Option Flight → Happening
copy_of l None = refused_for refusal.NoFlight
copy_of l (Some f) = on_links (sent l f)

-- only a tunnel loses and repeats (this product's own)
abbrev pub in_tunnel : Class → Happening → Happening
in_tunnel k h = if is_tunnel k then h else refused_for refusal.NotTunnel

-- the node that a submission comes to (this product's own)
abbrev pub submitter : Dir → Node
submitter Ul = T
submitter Dl = M

-- commands are for the master; a submission for the sender of its direction; the rest for the node or the link that it names
-- (this product's own)
abbrev pub happening : World → Event → Happening
happening w (event.Bearer id n first shape threshold policy) = given_to M (Cmd (event.Bearer id n first shape threshold policy))
happening w (event.Reshape id shape) = given_to M (Cmd (event.Reshape id shape))
happening w (event.Remove id) = given_to M (Cmd (event.Remove id))
happening w (event.Add node) = given_to M (Cmd (event.Add node))
happening w event.Change = given_to M (Cmd event.Change)
happening w event.Release = given_to M (Cmd event.Release)
happening w event.RekeySecond = given_to M (Cmd event.RekeySecond)
happening w (event.RekeyMaster root) = given_to M (Cmd (event.RekeyMaster root))
happening w (event.Recover id) = given_to M (Cmd (event.Recover id))
happening w (event.Report node id) = given_to node (Cmd (event.Report node id))
happening w (event.Deny node on) = given_to node (Cmd (event.Deny node on))
happening w (event.Ask node what) = given_to node (Cmd (event.Ask node what))
happening w event.ScgFail = given_to T (Cmd event.ScgFail)
happening w (event.Submit id d payload) = given_to (submitter d) (Cmd (event.Submit id d payload))
happening w (event.Step l i) = step_of w l i (slice_get (flights_on l w.links) i)
happening w (event.Lose l i) = in_tunnel l.class (loss_of (slice_get (flights_on l w.links) i))
happening w (event.Again l i) = in_tunnel l.class (copy_of l (slice_get (flights_on l w.links) i))

-- ---- one event

-- a node takes an input (this product's own)
abbrev pub takes : Choices → World → Input → Node → World × Outcome
takes c w i T = let done = terminal_step c w.terminal i in (record w { terminal = done.0 }, done.1)
takes c w i M = let done = master_step c w.master i in (record w { master = done.0 }, done.1)
takes c w i A = let done = second_step c w.a i in (record w { a = done.0 }, done.1)
takes c w i B = let done = second_step c w.b i in (record w { b = done.0 }, done.1)

-- what an event does to the nodes, with its outcome (this product's own)
abbrev pub carried_on : Choices → World → Happening → World × Outcome
carried_on c w (given_to node i) = takes c w i node
carried_on c w (refused_for why) = turned_down w why
carried_on c w (on_links effects) = accepted (w, effects)

-- the entry of an event with its outcome (this product's own)
abbrev pub entry_with : Event → Outcome → Entry
entry_with e o = record { event = e; answer = o.answer; lines = lines_of o }

-- the world after an event: the flight that it took is gone, and what it sent stands at the end, in the order of the lines
-- (this product's own)
abbrev pub moved_on : Event → World × Outcome → World × Entry
moved_on e done =
    let x = entry_with e done.1 in
    (record done.0 { links = links_after (place_taken e x.answer) x.lines done.0.links }, x)

-- an event happens (this product's own)
abbrev pub world_step : Choices → World → Event → World × Entry
world_step c w e = moved_on e (carried_on c w (happening w e))

-- ---- a run

-- the world after events (this product's own)
abbrev pub world_after : Choices → World → List Event → World
world_after c w [] = w
world_after c w (e ∷ es) = world_after c (world_step c w e).0 es

-- their entries: the transcript (this product's own)
abbrev pub entries_from : Choices → World → List Event → List Entry
entries_from c w [] = []
entries_from c w (e ∷ es) = (world_step c w e).1 ∷ entries_from c (world_step c w e).0 es

-- ---- a node's part of a run

-- the input that a node gets of it (this product's own)
abbrev pub input_of : Node → Happening → List Input
input_of x (given_to y i) = if is_same_node x y then i ∷ [] else []
input_of x (refused_for why) = []
input_of x (on_links effects) = []

-- the inputs that a node gets in a run (this product's own)
abbrev pub inputs_of : Choices → Node → World → List Event → List Input
inputs_of c x w [] = []
inputs_of c x w (e ∷ es) = input_of x (happening w e) ++ inputs_of c x (world_step c w e).0 es
