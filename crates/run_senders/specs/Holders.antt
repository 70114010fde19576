-- What a node holds is its own: anchors, leg hosts and forwarding tunnels that begin there.
use Rattle.std.specs.Prelude.{List, None, Option, Some, ℕ, ◌≡◌, ⊤}
use Rattle.std.specs.List.{AllByRecursion}
use Rattle.dc_base.specs.declared.nodes.Node.{Node}
use Rattle.dc_base.specs.declared.nodes.Node.TheVariants.{A, B, M}
use Rattle.node_rules.specs.Anchor.{Active, AnchorState, setup_at}
use Rattle.node_rules.specs.Choices.{Send}
use Rattle.node_rules.specs.Feed.{Fed, Frozen}
use Rattle.node_rules.specs.Host.{Host}
use Rattle.node_rules.specs.Master.{MasterNode}
use Rattle.node_rules.specs.Secondary.{SecondNode, name_of}
use Rattle.node_rules.specs.World.{World}
use Rattle.node_rules.specs.declared.bearers.AnchorOut.{AnchorOut}
use Rattle.node_rules.specs.declared.inputs.Effects.{Effects}
use Rattle.run_words.specs.Senders.{AreBy}

-- the bearer of an anchor, waiting or active, is set up at this node
abbrev pub IsAnchorAt : Node → AnchorState → Type 0
IsAnchorAt x a = (setup_at a).node ≡ x

-- of an anchor with its line from the core
abbrev pub IsFedAt : Node → Fed → Type 0
IsFedAt x f = IsAnchorAt x f.anchor

-- the leg host is at this node
abbrev pub IsHostAt : Node → Host → Type 0
IsHostAt x h = h.node ≡ x

-- the forwarding tunnel of a frozen anchor begins at this node
abbrev pub IsFrozenAt : Node → Frozen → Type 0
IsFrozenAt x f = f.tunnel.node ≡ x

-- so is what is held of each identity
abbrev pub AllHeld : {X : Type 0} → (X → Type 0) → List (ℕ × X) → Type 0
AllHeld P xs = AllByRecursion (λ e. P e.1) xs

-- if there is one
abbrev pub IfThere : {X : Type 0} → (X → Type 0) → Option X → Type 0
IfThere P None = ⊤
IfThere P (Some x) = P x

-- all that the master holds is at the master
pub record IsMaster (m : MasterNode) : Type 0 where
  pub anchors : AllHeld (IsAnchorAt M) m.anchors
  pub hosts : AllHeld (IsHostAt M) m.hosts

-- a secondary node is this one, and all that it holds is there
pub record IsSecond (x : Node) (s : SecondNode) : Type 0 where
  pub name : name_of s ≡ x
  pub anchors : AllHeld (IsFedAt x) s.anchors
  pub frozen : AllHeld (IsFrozenAt x) s.frozen
  pub hosts : AllHeld (IsHostAt x) s.hosts

-- master and secondary nodes are where they are called
pub record AreThere (w : World) : Type 0 where
  pub master : IsMaster w.master
  pub a : IsSecond A w.a
  pub b : IsSecond B w.b

-- ---- steps

-- an active anchor stays at its node, and sends from there
pub record Serves (a : Active) (done : Active × List Send) : Type 0 where
  pub node : done.0.entity.setup.node ≡ a.entity.setup.node
  pub by : AreBy a.entity.setup.node done.1

-- so does an anchor
pub record Stays (s : AnchorState) (done : AnchorState × AnchorOut) : Type 0 where
  pub node : (setup_at done.0).node ≡ (setup_at s).node
  pub by : AreBy (setup_at s).node done.1.sends

-- and a leg host
pub record HostStays (h : Host) (done : Host × List Send) : Type 0 where
  pub node : done.0.node ≡ h.node
  pub by : AreBy h.node done.1

-- a step of a node after which this is so, with sends from this node
pub record Leaves {S : Type 0} (P : S → Type 0) (x : Node) (done : S × Effects) : Type 0 where
  pub so : P done.0
  pub by : AreBy x done.1.sends
