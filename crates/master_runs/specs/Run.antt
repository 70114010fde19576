-- A run of the nodes and the links between them, one event after another.
use Rattle.std.specs.Prelude.{ℕ, ◌&&◌, nat_lt, if◌then◌else◌, List, [], ◌∷◌, slice_get, Option, Some, None}
use Rattle.dc_base.specs.declared.nodes.Class.{Class}
use Rattle.dc_base.specs.declared.nodes.Class.TheVariants.{Ctl, Air}
use Rattle.dc_base.specs.declared.nodes.Dir.{Dir}
use Rattle.dc_base.specs.declared.nodes.Dir.TheVariants.{Ul, Dl}
use Rattle.dc_base.specs.declared.nodes.Node.{Node}
use Rattle.dc_base.specs.declared.nodes.Node.TheVariants.{T, M}
use Rattle.dc_base.specs.declared.nodes.LinkId.{LinkId}
use Rattle.dc_base.specs.declared.flights.Flight.{Flight}
use Rattle.dc_base.specs.declared.answers.Answer.TheVariants as answer
use Rattle.dc_base.specs.declared.answers.Refusal.TheVariants.{NoBearer, NoFlight, NotFirst, NotTunnel, Aged}
use Rattle.dc_base.specs.declared.events.Header.{Header}
use Rattle.dc_base.specs.declared.events.Event.{Event}
use Rattle.dc_base.specs.declared.events.Event.TheVariants.{Bearer, Recover, Report, Submit, Step, Lose, Again}
use Rattle.dc_base.specs.declared.events.Line.{Line}
use Rattle.dc_base.specs.declared.events.Line.TheVariants as line
use Rattle.dc_base.specs.Links.{is_ordered, is_tunnel}
use Rattle.transcript.specs.Transcript.{Entry}
use Rattle.transcript.specs.Content.{place_taken}
use Rattle.master_runs.specs.Entities.{Entities, Table, no_bearers, bearer_in, with_bearer}
use Rattle.master_runs.specs.Plane.{Outcome, submitted, air_taken, is_aged, reports}
use Rattle.master_runs.specs.Control.{Nodes, new_nodes, commanded, unless_open, recovery_commanded, told_terminal, told_master}
use Rattle.master_runs.specs.Links.{Links, no_links, on, moved}

-- what the nodes hold, and what stands on the links
pub record WorldState : Type 0 where
  pub header : Header
  pub nodes : Nodes
  pub links : Links

-- no bearer, and nothing under way
abbrev pub new_world : Header → WorldState
new_world h = record { header = h; nodes = new_nodes; links = no_links }

-- a payload is submitted: in downlink at the master, in uplink at the terminal
abbrev pub submission : Header → Nodes → ℕ → List ℕ → Dir → Nodes × Outcome
submission h s id payload Dl =
    let done = submitted h Dl s.master id payload (unless_open s.busy (bearer_in s.master id)) in
    (record s { master = done.0 }, done.1)
submission h s id payload Ul =
    let done = submitted h Ul s.terminal id payload (bearer_in s.terminal id) in
    (record s { terminal = done.0 }, done.1)

-- the receiving entity of a bearer makes its node send a status report
abbrev pub reported_by : Dir → Table → ℕ → Option Entities → Table × Outcome
reported_by d table id None = (table, (answer.No NoBearer, []))
reported_by d table id (Some e) = let done = reports d e in (with_bearer table id (Some done.0), (answer.Ok, done.1))

-- a report is asked of a node; a secondary has no bearer
abbrev pub report_of : Nodes → Node → ℕ → Nodes × Outcome
report_of s M id =
    let done = reported_by Dl s.master id (unless_open s.busy (bearer_in s.master id)) in (record s { master = done.0 }, done.1)
report_of s T id = let done = reported_by Ul s.terminal id (bearer_in s.terminal id) in (record s { terminal = done.0 }, done.1)
report_of s _ id = (s, (answer.No NoBearer, []))

-- the bearers of the node that receives
abbrev pub table_at : Node → Nodes → Table
table_at T s = s.terminal
table_at M s = s.master
table_at _ s = no_bearers

-- the receiver of a link takes a flight from it
abbrev pub taken_from : Header → Nodes → Node → Node → Class → Flight → Nodes × List Line
taken_from h s M T Ctl f = told_terminal h s f
taken_from h s T M Ctl f = told_master s f
taken_from h s M T Air f = let done = air_taken h Dl s.terminal f in (record s { terminal = done.0 }, done.1)
taken_from h s T M Air f = let done = air_taken h Ul s.master f in (record s { master = done.0 }, done.1)
taken_from h s _ _ _ f = (s, [])

-- a step, with the flight at its place
abbrev pub stepped : WorldState → LinkId → ℕ → Option Flight → Nodes × Outcome
stepped w l i None = (w.nodes, (answer.No NoFlight, []))
stepped w l i (Some f) =
    if is_ordered l.class && nat_lt 0 i then (w.nodes, (answer.No NotFirst, []))
    else if is_aged (table_at l.to w.nodes) f then (w.nodes, (answer.No Aged, []))
    else (let done = taken_from w.header w.nodes l.from l.to l.class f in (done.0, (answer.Ok, done.1)))

-- a loss or a repeat, with the flight at its place and the lines that it gives
abbrev pub tunnelled_at : WorldState → Option Flight → (Flight → List Line) → Nodes × Outcome
tunnelled_at w None lines = (w.nodes, (answer.No NoFlight, []))
tunnelled_at w (Some f) lines = (w.nodes, (answer.Ok, lines f))

-- it is refused on any link but a tunnel
abbrev pub tunnelled : WorldState → LinkId → Option Flight → (Flight → List Line) → Nodes × Outcome
tunnelled w l f lines =
    if is_tunnel l.class then tunnelled_at w f lines else (w.nodes, (answer.No NotTunnel, []))

-- what an event does at the nodes, and its answer with the lines after it, where there are so many policies
abbrev pub decided : ℕ → WorldState → Event → Nodes × Outcome
decided policies w (Bearer id n first shape threshold policy) = commanded policies w.header w.nodes id n first shape threshold policy
decided policies w (Recover id) = recovery_commanded w.header w.nodes id
decided policies w (Report node id) = report_of w.nodes node id
decided policies w (Submit id d payload) = submission w.header w.nodes id payload d
decided policies w (Step l i) = stepped w l i (slice_get (on w.links l) i)
decided policies w (Lose l i) = tunnelled w l (slice_get (on w.links l) i) (λ f. [])
decided policies w (Again l i) = tunnelled w l (slice_get (on w.links l) i) (λ f. line.Send l f ∷ [])
decided policies w _ = (w.nodes, (answer.Ok, []))

-- one event
abbrev pub happen : ℕ → WorldState → Event → WorldState × Outcome
happen policies w e =
    let done = decided policies w e in
    (record w { nodes = done.0; links = moved w.links (place_taken e done.1.0) done.1.1 }, done.1)

-- the entry that an event makes
abbrev pub entry_of : ℕ → WorldState → Event → Entry
entry_of policies w e = let o = (happen policies w e).1 in record { event = e; answer = o.0; lines = o.1 }

-- the world after events
abbrev pub world_after : ℕ → WorldState → List Event → WorldState
world_after policies w [] = w
world_after policies w (e ∷ es) = world_after policies (happen policies w e).0 es

-- and their entries
abbrev pub entries_from : ℕ → WorldState → List Event → List Entry
entries_from policies w [] = []
entries_from policies w (e ∷ es) = entry_of policies w e ∷ entries_from policies (happen policies w e).0 es
