-- The places of flights on links.
use Rattle.std.specs.Prelude.{Bool, List, None, Option, Some, [], if◌then◌else◌, suc, zero, ℕ, ◌&&◌, ◌==◌, ◌∷◌}
use Rattle.dc_base.specs.Links.{class_number, is_same_link}
use Rattle.dc_base.specs.Nodes.{node_number}
use Rattle.dc_base.specs.declared.flights.Flight.{Flight}
use Rattle.dc_base.specs.declared.nodes.Class.{Class}
use Rattle.dc_base.specs.declared.nodes.LinkId.{LinkId}
use Rattle.dc_base.specs.declared.nodes.Node.{Node}

-- its class is this one
abbrev pub is_class : Class → LinkId → Bool
is_class c l = class_number l.class == class_number c

-- it goes from the one node to the other
abbrev pub is_from_to : Node → Node → LinkId → Bool
is_from_to x y l = (node_number l.from == node_number x) && (node_number l.to == node_number y)

-- the flight at a place of a link, counted among those of the link
abbrev pub find_at : LinkId → ℕ → List (LinkId × Flight) → Option (LinkId × Flight)
find_at l i [] = None
find_at l zero (s ∷ ss) = if is_same_link l s.0 then Some s else find_at l zero ss
find_at l (suc i) (s ∷ ss) = if is_same_link l s.0 then find_at l i ss else find_at l (suc i) ss

-- all flights but the one at a place of a link
abbrev pub without : LinkId → ℕ → List (LinkId × Flight) → List (LinkId × Flight)
without l i [] = []
without l zero (s ∷ ss) = if is_same_link l s.0 then ss else s ∷ without l zero ss
without l (suc i) (s ∷ ss) = if is_same_link l s.0 then s ∷ without l i ss else s ∷ without l (suc i) ss
