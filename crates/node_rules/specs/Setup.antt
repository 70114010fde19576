-- A bearer as a node has it in one generation: what the plan of that generation set, and the legs, which begin anew with
-- each generation (TS 37.340, 10; TS 38.331, 5.3.5.6.5).
use Rattle.std.specs.Prelude.{ℕ, ◌==◌, ◌&&◌, if◌then◌else◌, Bool, true, false, List, [], Option, Some, None}
use Rattle.dc_base.specs.declared.numbers.SnLen.{SnLen}
use Rattle.dc_base.specs.declared.nodes.Alg.{Alg}
use Rattle.dc_base.specs.declared.nodes.Cell.{Cell}
use Rattle.dc_base.specs.declared.nodes.Cell.TheVariants.{Mcg, Scg}
use Rattle.dc_base.specs.declared.nodes.Node.{Node}
use Rattle.dc_base.specs.declared.nodes.Node.TheVariants.{M}
use Rattle.dc_base.specs.declared.nodes.Shape.{Shape}
use Rattle.dc_base.specs.declared.records.Item.{Item}
use Rattle.dc_base.specs.declared.records.Item.TheVariants.{Set, Unset}
use Rattle.dc_base.specs.declared.records.Plan.{Plan}
use Rattle.split_leg.specs.Legs.{LegsState, LegState, leg_at, with_leg}
use Rattle.split_leg.specs.Routes.{has_leg}
use Rattle.dc_base.specs.Nodes.{is_same_node}

-- a bearer in one generation at a node (TS 38.331, 5.3.5.6.5; the form is this product's own)
pub record Setup : Type 0 where
  pub node : Node  -- where it is set up
  pub sec : Option Node  -- the secondary of the plan
  pub g : ℕ
  pub id : ℕ
  pub n : SnLen
  pub first : ℕ  -- the COUNT of the first submission, in both directions
  pub alg : Alg
  pub key : List ℕ  -- the 32 octets of the root or the K_SN from which the ciphering key is derived
  pub legs : LegsState

-- a leg on which nothing was put (part of the rule new_legs)
abbrev pub new_leg : LegState
new_leg = record { pdus = []; before = 0; failed = false }

-- legs on which nothing was put (part of the rule setup_of)
abbrev pub new_legs : Shape → ℕ → ℕ → LegsState
new_legs shape threshold policy = record { shape = shape; threshold = threshold; policy = policy; mcg = new_leg; scg = new_leg }

-- what a plan sets up at a node, under a key; None for an item that drops (TS 38.331, 5.3.5.6.5)
abbrev pub setup_of : Node → Plan → Alg → List ℕ → Item → Option Setup
setup_of node plan alg key (Set id n first shape threshold policy name old) = Some (record {
  node = node;
  sec = plan.sec;
  g = plan.g;
  id = id;
  n = n;
  first = first;
  alg = alg;
  key = key;
  legs = new_legs shape threshold policy;
})
setup_of node plan alg key (Unset id) = None

-- both are of this bearer and generation (this product's own)
abbrev pub is_of : Setup → ℕ → ℕ → Bool
is_of s id g = (s.id == id) && (s.g == g)

-- ---- where its legs are

-- the cell group of a node (TS 37.340, 4.2.2)
abbrev pub cell_of : Node → Cell
cell_of M = Mcg
cell_of _ = Scg

-- the other cell group (part of the rule host_of)
abbrev pub other_cell : Cell → Cell
other_cell Mcg = Scg
other_cell Scg = Mcg

-- both are one cell group (this product's own)
abbrev pub is_same_cell : Cell → Cell → Bool
is_same_cell Mcg Mcg = true
is_same_cell Mcg Scg = false
is_same_cell Scg Mcg = false
is_same_cell Scg Scg = true

-- the node of a cell group: the master, or the secondary of the plan (TS 37.340, 4.2.2)
abbrev pub node_of : Option Node → Cell → Option Node
node_of sec Mcg = Some M
node_of sec Scg = sec

-- the node is the one that may be there (part of the rule has_leg_at)
abbrev pub is_there : Node → Option Node → Bool
is_there x None = false
is_there x (Some y) = is_same_node x y

-- the bearer has a leg over the cells of this node (TS 37.340, 4.2.2)
abbrev pub has_leg_at : Setup → Node → Bool
has_leg_at s x = has_leg s.legs.shape.legs (cell_of x) && is_there x (node_of s.sec (cell_of x))

-- the cell group in which the anchor is (TS 37.340, 4.2.2)
abbrev pub anchor_cell : Shape → Cell
anchor_cell shape = if shape.at_second then Scg else Mcg

-- the host: the node of the leg that goes through a tunnel, if there is such a leg (TS 37.340, 4.2.2)
abbrev pub host_of : Setup → Option Node
host_of s =
    let cell = other_cell (anchor_cell s.legs.shape) in
    if has_leg s.legs.shape.legs cell then node_of s.sec cell else None

-- the bearer has a leg over this cell group (TS 37.340, 4.2.2)
abbrev pub has_cell : Setup → Cell → Bool
has_cell s cell = has_leg s.legs.shape.legs cell

-- the node marked the leg over this cell group as failed (TS 37.340, 7.7)
abbrev pub has_failed : Setup → Cell → Bool
has_failed s cell = (leg_at s.legs cell).failed

-- the SCG leg failed (TS 37.340, 7.7)
abbrev pub with_failed_scg : Setup → Setup
with_failed_scg s = record s { legs = with_leg s.legs Scg (record (leg_at s.legs Scg) { failed = true }) }
