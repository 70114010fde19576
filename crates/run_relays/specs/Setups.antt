-- What anchors and leg hosts are set up with, but for their keys and their traffic.
use Rattle.std.specs.Prelude.{List, None, Option, Some, [], find, true, ℕ, ◌≡◌}
use Rattle.dc_base.specs.declared.nodes.KeyName.{KeyName}
use Rattle.dc_base.specs.declared.nodes.Node.{Node}
use Rattle.dc_base.specs.declared.nodes.Shape.{Shape}
use Rattle.dc_base.specs.declared.numbers.SnLen.{SnLen}
use Rattle.dc_base.specs.declared.records.Item.TheVariants.{Set}
use Rattle.dc_base.specs.declared.records.Plan.{Plan}
use Rattle.claims.specs.Reading.{sets}
use Rattle.node_rules.specs.Anchor.{AnchorState, setup_at}
use Rattle.node_rules.specs.Feed.{Fed}
use Rattle.node_rules.specs.Host.{Host}
use Rattle.node_rules.specs.Places.{anchor_at, is_host_at}
use Rattle.node_rules.specs.Setup.{Setup}
use Rattle.node_rules.specs.World.{World}
use Rattle.run_senders.specs.Holders.{AllHeld}
use Rattle.run_table.specs.View.{planned}

-- of a bearer in one generation: the secondary node of the plan, generation and identity, length of SNs, first COUNT and shape
pub record Core : Type 0 where
  pub sec : Option Node
  pub g : ℕ
  pub id : ℕ
  pub n : SnLen
  pub first : ℕ
  pub shape : Shape

-- of a setup
abbrev pub core : Setup → Core
core s = record { sec = s.sec; g = s.g; id = s.id; n = s.n; first = s.first; shape = s.legs.shape }

-- of a leg host: its node and that of the anchor, generation and identity
pub record HostCore : Type 0 where
  pub node : Node
  pub anchor : Node
  pub g : ℕ
  pub id : ℕ

-- of a host
abbrev pub host_core : Host → HostCore
host_core h = record { node = h.node; anchor = h.anchor; g = h.g; id = h.id }

-- an item of the plan that was drawn with the generation sets it so (TS 37.340, 10.2 to 10.5)
pub record IsOfPlan (plans : List Plan) (x : Core) : Type 0 where
  pub plan : Plan
  pub drawn : planned plans x.g ≡ Some plan
  pub threshold : ℕ
  pub policy : ℕ
  pub key : KeyName
  pub old : Option Node
  pub item : find (sets x.id) plan.items ≡ Some (Set x.id x.n x.first x.shape threshold policy key old)
  pub sec : x.sec ≡ plan.sec

-- and the node has a leg there, with the anchor at the other node
pub record IsHostOfPlan (plans : List Plan) (h : HostCore) : Type 0 where
  pub of : Core
  pub is : IsOfPlan plans of
  pub g : h.g ≡ of.g
  pub id : h.id ≡ of.id
  pub hosts : is_host_at of.sec of.shape h.node ≡ true
  pub anchor : h.anchor ≡ anchor_at of.sec of.shape

-- of an anchor
abbrev pub AnchorOf : (Core → Type 0) → AnchorState → Type 0
AnchorOf S a = S (core (setup_at a))

-- of an anchor with its line from the core
abbrev pub FedOf : (Core → Type 0) → Fed → Type 0
FedOf S f = AnchorOf S f.anchor

-- of a leg host
abbrev pub HostOf : (HostCore → Type 0) → Host → Type 0
HostOf H h = H (host_core h)

-- all that the nodes have is set up so
pub record AreSetUp (plans : List Plan) (w : World) : Type 0 where
  pub anchors : AllHeld (AnchorOf (IsOfPlan plans)) w.master.anchors
  pub hosts : AllHeld (HostOf (IsHostOfPlan plans)) w.master.hosts
  pub a_anchors : AllHeld (FedOf (IsOfPlan plans)) w.a.anchors
  pub a_hosts : AllHeld (HostOf (IsHostOfPlan plans)) w.a.hosts
  pub b_anchors : AllHeld (FedOf (IsOfPlan plans)) w.b.anchors
  pub b_hosts : AllHeld (HostOf (IsHostOfPlan plans)) w.b.hosts

-- the plan with which a node is told that there is nothing to release (this product's own)
abbrev pub no_release : Plan
no_release = record { g = 0; sec = None; items = [] }
