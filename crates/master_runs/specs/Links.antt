-- The links, each a list of flights in order.
use Rattle.std.specs.Prelude.{ℕ, List, [], ◌∷◌, ◌++◌, fold, remove, replicate, slice_index_or, slice_set, Option, Some, None}
use Rattle.dc_base.specs.declared.nodes.LinkId.{LinkId}
use Rattle.dc_base.specs.declared.flights.Flight.{Flight}
use Rattle.dc_base.specs.declared.events.Line.{Line}
use Rattle.dc_base.specs.Links.{link_number}
use Rattle.transcript.specs.Transcript.{sends}

-- what stands on the links, by their numbers
abbrev pub Links : Type 0
Links = List (List Flight)

-- nothing stands on any
abbrev pub no_links : Links
no_links = replicate 64 []

-- what stands on a link
abbrev pub on : Links → LinkId → List Flight
on links l = slice_index_or links (link_number l) []

-- the links with these flights on this one
abbrev pub with_flights : Links → LinkId → List Flight → Links
with_flights links l flights = slice_set links (link_number l) flights

-- a flight is put at the end of a link
abbrev pub put_on_one : Links → LinkId × Flight → Links
put_on_one links s = with_flights links s.0 (on links s.0 ++ s.1 ∷ [])

-- the flight at a place is taken away, if there is such a place
abbrev pub taken_out : Links → Option (LinkId × ℕ) → Links
taken_out links None = links
taken_out links (Some place) = with_flights links place.0 (remove (on links place.0) place.1)

-- a flight is taken away, and then the sends of these lines are put on their links, in order
abbrev pub moved : Links → Option (LinkId × ℕ) → List Line → Links
moved links place lines = fold put_on_one (taken_out links place) (sends lines)
