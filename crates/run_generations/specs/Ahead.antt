-- What a node has is older than each plan that is on its way to it (this product's own).
use Rattle.std.specs.Prelude.{List, [], if◌then◌else◌, ℕ, ⊤, ◌+◌, ◌++◌, ◌∷◌, ◌≡◌, ◌≤◌}
use Rattle.std.specs.List.{AllByRecursion, flat_map}
use Rattle.dc_base.specs.Nodes.{is_same_node}
use Rattle.dc_base.specs.Tunnel.{teid}
use Rattle.dc_base.specs.declared.events.Event.{Event}
use Rattle.dc_base.specs.declared.flights.Flight.TheVariants as flight
use Rattle.dc_base.specs.declared.nodes.Node.{Node}
use Rattle.dc_base.specs.declared.nodes.Node.TheVariants.{A, B, M, T}
use Rattle.dc_base.specs.declared.records.Rec.{Rec}
use Rattle.gtpu.specs.Content.{Content}
use Rattle.gtpu.specs.Spelling.{spelling}
use Rattle.node_rules.specs.Anchor.{setup_at}
use Rattle.node_rules.specs.Choices.{Choices, Send}
use Rattle.node_rules.specs.Feed.{Fed, Frozen}
use Rattle.node_rules.specs.Host.{Host}
use Rattle.node_rules.specs.Run.{Happening, carried_on, given_to, happening, on_links, refused_for, world_step}
use Rattle.node_rules.specs.Secondary.{SecondNode}
use Rattle.node_rules.specs.Terminal.{TerminalNode}
use Rattle.node_rules.specs.TerminalHalf.{TerminalHalf}
use Rattle.node_rules.specs.World.{World}
use Rattle.run_control.specs.Links.{records_on}
use Rattle.run_generations.specs.Newer.{Between, fresh_from, plan_generation}

-- the generations of the plans in several records
abbrev pub generations : List Rec → List ℕ
generations rs = flat_map plan_generation rs

-- each is below this one
abbrev pub AllBelow : ℕ → List ℕ → Type 0
AllBelow below gs = AllByRecursion (λ g. g + 1 ≤ below) gs

-- ---- what a node has

-- a bearer at the terminal
abbrev pub IsHalfBelow : ℕ → TerminalHalf → Type 0
IsHalfBelow below h = h.setup.g + 1 ≤ below

-- an anchor with its line
abbrev pub IsFedBelow : ℕ → Fed → Type 0
IsFedBelow below x = (setup_at x.anchor).g + 1 ≤ below

-- a leg host
abbrev pub IsHostBelow : ℕ → Host → Type 0
IsHostBelow below h = h.g + 1 ≤ below

-- what is left of a frozen anchor: its forwarding tunnel
abbrev pub IsFrozenBelow : ℕ → Frozen → Type 0
IsFrozenBelow below f = f.tunnel.g + 1 ≤ below

-- all that the terminal has
abbrev pub HalvesBelow : ℕ → TerminalNode → Type 0
HalvesBelow below t = AllByRecursion (λ (x : ℕ × TerminalHalf). IsHalfBelow below x.1) t.halves

-- all that a secondary node has: its anchors, its leg hosts, and its forwarding tunnels
abbrev pub HasBelow : ℕ → SecondNode → Type 0
HasBelow below s =
    AllByRecursion (λ (x : ℕ × Fed). IsFedBelow below x.1) s.anchors × (AllByRecursion (λ (x : ℕ × Host). IsHostBelow below x.1) s.hosts × AllByRecursion (λ (x : ℕ × Frozen). IsFrozenBelow below x.1) s.frozen)

-- all that a node has is of a generation below this one; of the master nothing is said
abbrev pub IsOlder : Node → ℕ → World → Type 0
IsOlder T below w = HalvesBelow below w.terminal
IsOlder M below w = ⊤
IsOlder A below w = HasBelow below w.a
IsOlder B below w = HasBelow below w.b

-- ---- what a node sends

-- the packet is written for a tunnel of a generation below this one
pub record IsPacketBelow (below : ℕ) (packet : List ℕ) : Type 0 where
  pub content : Content
  pub g : ℕ
  pub id : ℕ
  pub kind : ℕ
  pub is : packet ≡ spelling content
  pub of : content.teid ≡ teid g id kind
  pub le : g + 1 ≤ below

-- a PDU on a leg, or a packet in a tunnel, is of a generation below this one
abbrev pub IsSentBelow : ℕ → Send → Type 0
IsSentBelow below (l, flight.Air id g num tag pdu) = g + 1 ≤ below
IsSentBelow below (l, flight.Tun tag packet) = IsPacketBelow below packet
IsSentBelow below (l, flight.Ack id g num) = ⊤
IsSentBelow below (l, flight.Sdu id g sdu) = ⊤
IsSentBelow below (l, flight.End id g) = ⊤
IsSentBelow below (l, flight.Told id g count) = ⊤
IsSentBelow below (l, flight.Ctl r) = ⊤

-- each send
abbrev pub AreSentBelow : ℕ → List Send → Type 0
AreSentBelow below sends = AllByRecursion (IsSentBelow below) sends

-- of what happens, what this node sends
abbrev pub sends_by : Node → Happening → List Send → List Send
sends_by y (given_to x i) sends = if is_same_node y x then sends else []
sends_by y (refused_for why) sends = []
sends_by y (on_links effects) sends = []

-- what it sends in a run
abbrev pub sent_in : Node → Choices → World → List Event → List Send
sent_in y c w [] = []
sent_in y c w (e ∷ es) = sends_by y (happening w e) (carried_on c w (happening w e)).1.sends ++ sent_in y c (world_step c w e).0 es

-- ---- what is on its way

-- all that the node has, and all these that it sent, is below a bound, and these generations ascend from there, to below those of
-- which it may still be told
pub record IsAheadBy (y : Node) (w : World) (gs : List ℕ) (sent : List Send) : Type 0 where
  pub bound : ℕ
  pub some : 1 ≤ bound
  pub older : IsOlder y bound w
  pub below : AreSentBelow bound sent
  pub line : Between bound gs (fresh_from y w.master.proc)

-- those of the plans that stand on the control link to the node
abbrev pub IsAhead : Node → World → List Send → Type 0
IsAhead y w sent = IsAheadBy y w (generations (records_on M y w)) sent
