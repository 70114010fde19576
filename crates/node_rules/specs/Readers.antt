-- What can be read of a node: of a bearer in a generation, where the node has its active entity, the SN length, RX_DELIV and Low;
-- and which bearers it has.
use Rattle.pdcp_tx.specs.Sender.{low}
use Rattle.std.specs.Prelude.{Bool, None, Option, Some, false, if◌then◌else◌, is_some, nat_lt, option_and_then, option_map, ℕ, ◌+◌, ◌==◌}
use Rattle.dc_base.specs.Count.{window}
use Rattle.dc_base.specs.declared.numbers.SnLen.{SnLen}
use Rattle.node_rules.specs.Anchor.{Active, AnchorState}
use Rattle.node_rules.specs.Entity.{Entity}
use Rattle.node_rules.specs.declared.bearers.Weight.{Weight}
use Rattle.node_rules.specs.declared.bearers.Weight.TheVariants.{DataPduOf as data_pdu_of, DeliveryOf as delivery_of, Weightless as weightless}
use Rattle.node_rules.specs.Held.{held}
use Rattle.node_rules.specs.Master.{MasterNode}
use Rattle.node_rules.specs.MasterState.{has_bearer}
use Rattle.node_rules.specs.NodeRule.{NodeState, master_node, second_node, terminal_node}
use Rattle.node_rules.specs.Secondary.{active_at, active_in}
use Rattle.node_rules.specs.declared.bearers.Edges.{Edges}

-- those of a PDCP entity (this product's own)
abbrev pub entity_edges : Entity → Edges
entity_edges e = record { n = e.setup.n; deliv = e.rx.deliv; low = low e.tx }

-- those of an active entity, where it is of this generation (this product's own)
abbrev pub edges_of : ℕ → Option Entity → Option Edges
edges_of g None = None
edges_of g (Some e) = if e.setup.g == g then Some (entity_edges e) else None

-- the entity of an active anchor (this product's own)
abbrev pub entity_in : AnchorState → Option Entity
entity_in a = option_map (λ (x : Active). x.entity) (active_in a)

-- the active entity of a bearer at a node (this product's own)
abbrev pub entity_at : NodeState → ℕ → Option Entity
entity_at (terminal_node t) id = held id t.halves
entity_at (master_node m) id = option_and_then entity_in (held id m.anchors)
entity_at (second_node s) id = option_map (λ (x : Active). x.entity) (active_at s id)

-- what a node shows of a bearer in a generation (this product's own)
abbrev pub edges_at : NodeState → ℕ → ℕ → Option Edges
edges_at s id g = edges_of g (entity_at s id)

-- a status report of the bearer is not refused at the node (this product's own)
abbrev pub has : NodeState → ℕ → Bool
has (terminal_node t) id = is_some (held id t.halves)
has (master_node m) id = has_bearer m.proc id
has (second_node s) id = is_some (active_at s id)

-- a command is open at the master (this product's own)
abbrev pub is_busy : MasterNode → Bool
is_busy m = is_some m.proc.command

-- ---- ageing

-- a COUNT lies more than a window behind an edge, which is there where the receiver has the active entity (this product's own)
abbrev pub is_behind : ℕ → (Edges → ℕ) → Option Edges → Bool
is_behind count edge None = false
is_behind count edge (Some e) = nat_lt (count + window e.n) (edge e)

-- a flight is aged for its receiver: a data PDU by RX_DELIV, a delivery status by Low (this product's own)
abbrev pub is_aged_for : NodeState → Weight → Bool
is_aged_for s (data_pdu_of id g count) = is_behind count (λ e. e.deliv) (edges_at s id g)
is_aged_for s (delivery_of id g count) = is_behind count (λ e. e.low) (edges_at s id g)
is_aged_for s weightless = false
