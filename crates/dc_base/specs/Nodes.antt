-- Nodes, directions, shapes (TS 37.340, clauses 3.1 and 4.2) and names of keys.
use Rattle.std.specs.Prelude.{ℕ, ◌==◌, ◌&&◌, Bool, true, false, not}
use Rattle.dc_base.specs.declared.nodes.Node.{Node}
use Rattle.dc_base.specs.declared.nodes.Node.TheVariants.{T, M, A, B}
use Rattle.dc_base.specs.declared.nodes.Dir.{Dir}
use Rattle.dc_base.specs.declared.nodes.Dir.TheVariants.{Ul, Dl}
use Rattle.dc_base.specs.declared.nodes.Cell.{Cell}
use Rattle.dc_base.specs.declared.nodes.KeyName.{KeyName}
use Rattle.dc_base.specs.declared.nodes.LegSet.{LegSet}
use Rattle.dc_base.specs.declared.nodes.LegSet.TheVariants.{Mcg, Scg, Split}
use Rattle.dc_base.specs.declared.nodes.Shape.{Shape}
use Rattle.dc_base.specs.declared.nodes.Side.{Side}
use Rattle.dc_base.specs.declared.nodes.Side.TheVariants.{Master, Second}

-- nodes are told apart by numbers
abbrev pub node_number : Node → ℕ
node_number T = 0
node_number M = 1
node_number A = 2
node_number B = 3

-- whether both are the same node
abbrev pub is_same_node : Node → Node → Bool
is_same_node x y = node_number x == node_number y

-- a secondary node
abbrev pub is_secondary : Node → Bool
is_secondary T = false
is_secondary M = false
is_secondary A = true
is_secondary B = true

-- both are the same direction
abbrev pub is_same_dir : Dir → Dir → Bool
is_same_dir Ul Ul = true
is_same_dir Dl Dl = true
is_same_dir _ _ = false

-- the other direction
abbrev pub opposite : Dir → Dir
opposite Ul = Dl
opposite Dl = Ul

-- both are the master's, or both are K_SN of the same SN Counter
abbrev pub is_same_side : Side → Side → Bool
is_same_side Master Master = true
is_same_side Master (Second d) = false
is_same_side (Second c) Master = false
is_same_side (Second c) (Second d) = c == d

-- both names are of one key: the same root by its number, and the same side
abbrev pub is_same_key : KeyName → KeyName → Bool
is_same_key a b = (a.root == b.root) && is_same_side a.side b.side

-- whether the master's cell group has the only leg
abbrev pub is_mcg : LegSet → Bool
is_mcg Mcg = true
is_mcg Scg = false
is_mcg (Split primary) = false

-- only two legs are duplicated (TS 38.323, 5.11)
abbrev pub may_duplicate : LegSet → Bool → Bool
may_duplicate (Split primary) dup = true
may_duplicate legs dup = not dup

-- one of the twelve shapes
abbrev pub is_shape : Shape → Bool
is_shape s = may_duplicate s.legs s.dup

-- whether the shape has its anchor and its only leg at the master: so it needs no secondary
abbrev pub is_mm : Shape → Bool
is_mm shape = not shape.at_second && is_mcg shape.legs
