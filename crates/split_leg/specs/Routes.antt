-- To which legs a PDU goes (TS 38.323, 5.2.1 and 5.11.1, in both directions).
use Rattle.std.specs.Prelude.{◌+◌, Bool, true, false, ◌&&◌, not, nat_lt, List, if◌then◌else◌}
use Rattle.dc_base.specs.declared.nodes.Cell.{Cell}
use Rattle.dc_base.specs.declared.nodes.Cell.TheVariants.{Mcg, Scg}
use Rattle.dc_base.specs.declared.nodes.LegSet.{LegSet}
use Rattle.dc_base.specs.declared.nodes.LegSet.TheVariants.{Mcg as only_mcg, Scg as only_scg, Split}
use Rattle.split_leg.specs.declared.policies.Choice.{Choice}
use Rattle.split_leg.specs.declared.policies.Choice.TheVariants.{Mcg as choose_mcg, Scg as choose_scg}
use Rattle.split_leg.specs.declared.legs.Route.{Route}
use Rattle.split_leg.specs.declared.legs.Route.TheVariants.{None, One, Both}
use Rattle.split_leg.specs.Legs.{LegsState, leg_at, volume}
use Rattle.split_leg.specs.Routing.{Margins, chosen, margins_at}

-- a bearer of these legs has one over this cell group
abbrev pub has_leg : LegSet → Cell → Bool
has_leg only_mcg Mcg = true
has_leg only_mcg Scg = false
has_leg only_scg Mcg = false
has_leg only_scg Scg = true
has_leg (Split primary) cell = true

-- the bearer has the leg, and it did not fail
abbrev pub is_live : LegsState → Cell → Bool
is_live legs cell = has_leg legs.shape.legs cell && not (leg_at legs cell).failed

-- the primary leg of a split bearer, and else the one leg that there is
abbrev pub primary_of : LegSet → Cell
primary_of only_mcg = Mcg
primary_of only_scg = Scg
primary_of (Split primary) = primary

-- the cell group of the leg that a policy chooses
abbrev pub cell_of : Choice → Cell
cell_of choose_mcg = Mcg
cell_of choose_scg = Scg

-- a data PDU with two live legs: on both under duplication, on the primary while less than the threshold is
-- outstanding, and else on the leg that the policy chooses
abbrev pub data_route : LegsState → List Margins → Route
data_route legs margins =
    let mcg = volume legs.mcg.pdus in
    let scg = volume legs.scg.pdus in
    if legs.shape.dup then Both
    else if nat_lt (mcg + scg) legs.threshold then One (primary_of legs.shape.legs)
    else One (cell_of (chosen (margins_at margins legs.policy) mcg scg))

-- with one live leg all goes there, with none nowhere
abbrev pub route_by : Bool → Bool → Route → Route
route_by false false split = None
route_by true false split = One Mcg
route_by false true split = One Scg
route_by true true split = split

-- the route of a PDU: a control PDU goes to the primary leg
abbrev pub route_of : LegsState → List Margins → Bool → Route
route_of legs margins is_data =
    route_by (is_live legs Mcg) (is_live legs Scg)
    (if is_data then data_route legs margins else One (primary_of legs.shape.legs))
