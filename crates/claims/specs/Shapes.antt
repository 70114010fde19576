-- Shapes and the legs they give (TS 37.340, 4.2.2).
use Rattle.std.specs.Prelude.{Bool, None, Option, Some, false, if◌then◌else◌, not, true, ◌&&◌, ◌||◌}
use Rattle.dc_base.specs.Nodes.{is_same_node}
use Rattle.dc_base.specs.declared.nodes.Cell.{Cell}
use Rattle.dc_base.specs.declared.nodes.Cell.TheVariants as cell
use Rattle.dc_base.specs.declared.nodes.LegSet.{LegSet}
use Rattle.dc_base.specs.declared.nodes.LegSet.TheVariants.{Mcg, Scg, Split}
use Rattle.dc_base.specs.declared.nodes.Node.{Node}
use Rattle.dc_base.specs.declared.nodes.Node.TheVariants.{A, B, M, T}
use Rattle.dc_base.specs.declared.nodes.Shape.{Shape}
use Rattle.claims.specs.Sameness.{is_at}

-- the anchor's node where it is the secondary; the master if there is none
abbrev pub node_or_master : Option Node → Node
node_or_master None = M
node_or_master (Some x) = x

-- where a bearer of this shape has its anchor
abbrev pub anchor_at : Option Node → Shape → Node
anchor_at sec s = if s.at_second then node_or_master sec else M

-- there is a leg in the master cell group
abbrev pub has_mcg : LegSet → Bool
has_mcg Mcg = true
has_mcg Scg = false
has_mcg (Split primary) = true

-- there is a leg in the secondary cell group
abbrev pub has_scg : LegSet → Bool
has_scg Mcg = false
has_scg Scg = true
has_scg (Split primary) = true

-- the shape with anchor and only leg at the master
abbrev pub mm : Shape
mm = record { at_second = false; legs = Mcg; dup = false }

-- the node has a leg of this shape
abbrev pub has_leg : Option Node → Shape → Node → Bool
has_leg sec s x = (is_same_node x M && has_mcg s.legs) || (is_at x sec && has_scg s.legs)

-- some leg is there, where the one in the secondary cell group may have failed
abbrev pub has_leg_left : Bool → LegSet → Bool
has_leg_left failed legs = has_mcg legs || not failed

-- both legs are
abbrev pub has_both : Bool → LegSet → Bool
has_both failed legs = has_mcg legs && has_scg legs && not failed

-- the cell group of the primary path
abbrev pub primary : LegSet → Cell
primary Mcg = cell.Mcg
primary Scg = cell.Scg
primary (Split c) = c

-- the other secondary
abbrev pub other_second : Option Node → Node
other_second (Some A) = B
other_second (Some T) = A
other_second (Some M) = A
other_second (Some B) = A
other_second None = A
