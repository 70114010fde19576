-- What nodes have of what was sent for the terminal, and what it received.
use Rattle.std.specs.Prelude.{IfSome, List, Some, false, ℕ, ◌<◌, ◌^◌, ◌≡◌, ◌≤◌}
use Rattle.std.specs.List.{AllByRecursion}
use Rattle.dc_base.specs.Nodes.{is_same_node}
use Rattle.dc_base.specs.declared.nodes.Node.{Node}
use Rattle.dc_base.specs.declared.nodes.Node.TheVariants.{M}
use Rattle.pdcp_tx.specs.Sender.{InWindow}
use Rattle.node_rules.specs.Anchor.{AnchorState, active_anchor, setup_at, waiting_anchor}
use Rattle.node_rules.specs.Choices.{Send}
use Rattle.node_rules.specs.Entity.{Entity}
use Rattle.node_rules.specs.Feed.{Fed}
use Rattle.node_rules.specs.Held.{held}
use Rattle.node_rules.specs.Host.{Host}
use Rattle.node_rules.specs.Master.{MasterNode}
use Rattle.node_rules.specs.Secondary.{SecondNode, name_of}
use Rattle.node_rules.specs.Terminal.{TerminalNode}
use Rattle.node_rules.specs.TerminalHalf.{TerminalHalf}
use Rattle.run_control.specs.Orders.{Ascends}
use Rattle.run_confirms.specs.Hosts.{HostHas, host_leg}
use Rattle.run_confirms.specs.States.{StateSent}
use Rattle.run_senders.specs.Holders.{IfThere}
use Rattle.run_confirmed.specs.Flights.{IsTrueSend}
use Rattle.run_confirmed.specs.Stories.{AreBy, Layout, ReceivedBy, Stories, fitting}

-- what a sending entity keeps rises and lies in its window, and COUNTs have 32 bits (TS 38.323, 5.2.1)
pub record IsSteadyEntity (e : Entity) : Type 0 where
  pub window : InWindow e.tx.n e.tx.next e.tx.kept
  pub small : e.tx.next < 2 ^ 32

-- so does an active anchor; the status transfer of a waiting one has a COUNT of 32 bits
abbrev pub IsSteady : AnchorState → Type 0
IsSteady (waiting_anchor w) = IfSome w.transfer (λ status. status.dl < 2 ^ 32)
IsSteady (active_anchor a) = IsSteadyEntity a.entity

-- a TEID names the identity and the generation
pub record IsNameable (id g : ℕ) : Type 0 where
  pub some : 1 ≤ id
  pub small : id ≤ 32
  pub generation : g < 2 ^ 24

-- an anchor of an identity at a node sent what the story of its generation says
pub record IsAnchorOf (layout : Layout) (stories : Stories) (x : Node) (id : ℕ) (a : AnchorState) : Type 0 where
  pub same_id : (setup_at a).id ≡ id
  pub node : (setup_at a).node ≡ x
  pub home : layout.home id (setup_at a).g ≡ x
  pub n : (setup_at a).n ≡ layout.n id (setup_at a).g
  pub sent : StateSent (stories id (setup_at a).g).own (stories id (setup_at a).g).tunnel a
  pub steady : IsSteady a
  pub named : IsNameable id (setup_at a).g

-- a leg host of an identity at a node has what the story says
pub record IsHostOf (layout : Layout) (stories : Stories) (x : Node) (id : ℕ) (h : Host) : Type 0 where
  pub same_id : h.id ≡ id
  pub node : h.node ≡ x
  pub host : layout.host id h.g ≡ x
  pub apart : is_same_node x (layout.home id h.g) ≡ false
  pub n : h.tunnel.n ≡ layout.n id h.g
  pub has : HostHas (fitting (stories id h.g).tunnel) (ReceivedBy (stories id h.g).rx) h
  pub leg : host_leg (fitting (stories id h.g).tunnel) h ≡ (stories id h.g).far
  pub named : IsNameable id h.g

-- the terminal's half of an identity received what the story says
pub record IsHalfOf (layout : Layout) (stories : Stories) (id : ℕ) (h : TerminalHalf) : Type 0 where
  pub same_id : h.setup.id ≡ id
  pub n : h.setup.n ≡ layout.n id h.setup.g
  pub rx : (stories id h.setup.g).rx ≡ Some h.rx

-- of all that a secondary node has
pub record IsSecondOf (layout : Layout) (x : Node) (stories : Stories) (s : SecondNode) : Type 0 where
  pub name : name_of s ≡ x
  pub anchors : (id : ℕ) → IfThere (λ (f : Fed). IsAnchorOf layout stories x id f.anchor) (held id s.anchors)
  pub hosts : (id : ℕ) → IfThere (IsHostOf layout stories x id) (held id s.hosts)
  pub anchors_ascend : Ascends s.anchors
  pub hosts_ascend : Ascends s.hosts

-- of all that the master has
pub record IsMasterOf (layout : Layout) (stories : Stories) (m : MasterNode) : Type 0 where
  pub anchors : (id : ℕ) → IfThere (IsAnchorOf layout stories M id) (held id m.anchors)
  pub hosts : (id : ℕ) → IfThere (IsHostOf layout stories M id) (held id m.hosts)
  pub anchors_ascend : Ascends m.anchors
  pub hosts_ascend : Ascends m.hosts

-- of all that the terminal has
pub record IsTerminalOf (layout : Layout) (stories : Stories) (t : TerminalNode) : Type 0 where
  pub halves : (id : ℕ) → IfThere (IsHalfOf layout stories id) (held id t.halves)
  pub ascend : Ascends t.halves

-- after a step of a node: the stories are later by what it added, what it has is so, and so is what its sends say
pub record Goes {S : Type 0} (layout : Layout) (x : Node) (P : Stories → S → Type 0) (stories : Stories) (state : S) (sent : List Send) : Type 0 where
  pub later : Stories
  pub by : AreBy layout x stories later
  pub so : P later state
  pub sends : AllByRecursion (IsTrueSend layout later) sent
