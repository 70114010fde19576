-- The part that a node has in an item of a plan: what it is to do with the bearer there (TS 37.340, 10.2 to 10.5).
use Rattle.std.specs.Prelude.{Bool, None, Option, Some, false, if◌then◌else◌, true}
use Rattle.dc_base.specs.Nodes.{is_same_node}
use Rattle.dc_base.specs.declared.nodes.KeyName.{KeyName}
use Rattle.dc_base.specs.declared.nodes.Node.{Node}
use Rattle.dc_base.specs.declared.records.Item.{Item}
use Rattle.dc_base.specs.declared.records.Item.TheVariants as item
use Rattle.dc_base.specs.declared.records.Plan.{Plan}
use Rattle.node_rules.specs.Host.{Host, new_host}
use Rattle.node_rules.specs.Places.{anchor_at, is_host_at}
use Rattle.node_rules.specs.declared.parts.Part.{Part}
use Rattle.node_rules.specs.declared.parts.Part.TheVariants.{Establishes as establishes, Renews as renews, Awaits as awaits, HandsOver as hands_over, Drops as drops, HasNoAnchor as has_no_anchor}

-- by whether the anchor is here before and after (part of the rule set_part)
abbrev pub moved_part : Node → Bool → Bool → Part
moved_part new true true = renews
moved_part new true false = hands_over new
moved_part new false true = awaits
moved_part new false false = has_no_anchor

-- of a bearer that is new (None) or was there before (TS 37.340, 10.2 to 10.5)
abbrev pub set_part : Node → Node → Option Node → Part
set_part me new None = if is_same_node me new then establishes else has_no_anchor
set_part me new (Some old) = moved_part new (is_same_node me old) (is_same_node me new)

-- in an item of a plan with this secondary node (TS 37.340, 10.2 to 10.5)
abbrev pub part_at : Node → Option Node → Item → Part
part_at me sec (item.Set id n first shape threshold policy key old) = set_part me (anchor_at sec shape) old
part_at me sec (item.Unset id) = drops

-- the host that a node has from an item on: there, if the bearer has a leg at the node and its anchor elsewhere
-- (TS 37.340, 4.2.2; TS 38.425, 5.4)
abbrev pub host_at : Node → Plan → Item → Option Host
host_at me p (item.Set id n first shape threshold policy key old) =
    if is_host_at p.sec shape me then Some (new_host me (anchor_at p.sec shape) p.g id n) else None
host_at me p (item.Unset id) = None

-- the name of the key that an item sets (this product's own)
abbrev pub item_key : Item → Option KeyName
item_key (item.Set id n first shape threshold policy key old) = Some key
item_key (item.Unset id) = None
