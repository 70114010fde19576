-- The 22 links, in their order (RRC, Xn-C, the core's feed, the air legs, Xn-U).
use Rattle.std.specs.Prelude.{ℕ, ◌+◌, ◌*◌, ◌==◌, Bool, true, false, List, [], ◌∷◌}
use Rattle.dc_base.specs.declared.nodes.Node.{Node}
use Rattle.dc_base.specs.declared.nodes.Node.TheVariants.{T, M, A, B}
use Rattle.dc_base.specs.declared.nodes.Class.{Class}
use Rattle.dc_base.specs.declared.nodes.Class.TheVariants.{Ctl, Feed, Air, Tun}
use Rattle.dc_base.specs.declared.nodes.LinkId.{LinkId}
use Rattle.dc_base.specs.Nodes.{node_number, is_secondary}

-- a link by its ends and its class
abbrev pub link : Node → Node → Class → LinkId
link from to class = record { from = from; to = to; class = class }

-- all links, in their order
abbrev pub all_links : List LinkId
all_links =
    link M T Ctl ∷ link T M Ctl ∷ link M A Ctl ∷ link A M Ctl ∷ link M B Ctl ∷ link B M Ctl
    ∷ link M A Feed ∷ link A M Feed ∷ link M B Feed ∷ link B M Feed
    ∷ link M T Air ∷ link T M Air ∷ link A T Air ∷ link T A Air ∷ link B T Air ∷ link T B Air
    ∷ link M A Tun ∷ link A M Tun ∷ link M B Tun ∷ link B M Tun ∷ link A B Tun ∷ link B A Tun ∷ []

-- the master and a secondary node
abbrev pub are_master_and_secondary : Node → Node → Bool
are_master_and_secondary M y = is_secondary y
are_master_and_secondary x M = is_secondary x
are_master_and_secondary x y = false

-- the ends of a link: for control the master and another node, for the feed the master and a secondary node, on the
-- air the terminal and another node, for a tunnel two nodes of the network
abbrev pub joins : Class → Node → Node → Bool
joins Ctl M T = true
joins Ctl T M = true
joins Ctl x y = are_master_and_secondary x y
joins Feed x y = are_master_and_secondary x y
joins Air T T = false
joins Air T y = true
joins Air x T = true
joins Air x y = false
joins Tun A B = true
joins Tun B A = true
joins Tun x y = are_master_and_secondary x y

-- one of the 22 links
abbrev pub is_link : LinkId → Bool
is_link l = joins l.class l.from l.to

-- whether the link keeps its order
abbrev pub is_ordered : Class → Bool
is_ordered Ctl = true
is_ordered Feed = true
is_ordered Air = false
is_ordered Tun = false

-- whether the link may lose flights and repeat them
abbrev pub is_tunnel : Class → Bool
is_tunnel Ctl = false
is_tunnel Feed = false
is_tunnel Air = false
is_tunnel Tun = true

-- the number of a class of links: no two classes have the same
abbrev pub class_number : Class → ℕ
class_number Ctl = 0
class_number Feed = 1
class_number Air = 2
class_number Tun = 3

-- the number of a link, from its two ends and its class: no two links have the same
abbrev pub link_number : LinkId → ℕ
link_number l = node_number l.from + 4 * node_number l.to + 16 * class_number l.class

-- both links have the same sender, receiver and class
abbrev pub is_same_link : LinkId → LinkId → Bool
is_same_link l k = link_number l == link_number k

-- whether this node receives from it
abbrev pub is_to : Node → LinkId → Bool
is_to node l = node_number l.to == node_number node

-- the link of the same class the other way
abbrev pub reverse : LinkId → LinkId
reverse l = link l.to l.from l.class
