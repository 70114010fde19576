-- Where a bearer has its anchor and its legs (TS 37.340, 4.2.2 and 8): at which nodes, for a shape and a secondary node.
use Rattle.std.specs.Prelude.{Bool, None, Option, Some, false, if◌then◌else◌, not, true, ◌&&◌, ◌||◌}
use Rattle.dc_base.specs.Nodes.{is_same_node}
use Rattle.dc_base.specs.declared.nodes.LegSet.{LegSet}
use Rattle.dc_base.specs.declared.nodes.LegSet.TheVariants.{Mcg, Scg, Split}
use Rattle.dc_base.specs.declared.nodes.Node.{Node}
use Rattle.dc_base.specs.declared.nodes.Node.TheVariants.{A, B, M, T}
use Rattle.dc_base.specs.declared.nodes.Shape.{Shape}

-- the node that may be there is this one (this product's own)
abbrev pub is_at : Node → Option Node → Bool
is_at x None = false
is_at x (Some y) = is_same_node x y

-- the secondary node that is not this one; that of the master and of the terminal does not matter (this product's own)
abbrev pub other_second : Node → Node
other_second A = B
other_second B = A
other_second M = A
other_second T = A

-- the secondary node where there is one, else the master (part of the rule anchor_at)
abbrev pub node_or_master : Option Node → Node
node_or_master None = M
node_or_master (Some x) = x

-- the node of the anchor of a bearer of this shape (TS 37.340, 4.2.2)
abbrev pub anchor_at : Option Node → Shape → Node
anchor_at sec s = if s.at_second then node_or_master sec else M

-- there is a leg over the master cell group (TS 37.340, 4.2.2)
abbrev pub has_mcg : LegSet → Bool
has_mcg Mcg = true
has_mcg Scg = false
has_mcg (Split primary) = true

-- there is a leg over the secondary cell group (TS 37.340, 4.2.2)
abbrev pub has_scg : LegSet → Bool
has_scg Mcg = false
has_scg Scg = true
has_scg (Split primary) = true

-- the bearer has a leg at this node (TS 37.340, 4.2.2)
abbrev pub has_leg_at : Option Node → Shape → Node → Bool
has_leg_at sec s x = (is_same_node x M && has_mcg s.legs) || (is_at x sec && has_scg s.legs)

-- it has a leg there, and its anchor elsewhere: the node is the leg's host (TS 37.340, 4.2.2)
abbrev pub is_host_at : Option Node → Shape → Node → Bool
is_host_at sec s x = has_leg_at sec s x && not (is_same_node x (anchor_at sec s))

-- the anchor and the only leg at the master: an MCG bearer with its PDCP there (TS 37.340, 4.2.2)
abbrev pub mm : Shape
mm = record { at_second = false; legs = Mcg; dup = false }
