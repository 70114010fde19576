-- The parts of the past that the checker has, and how: each further part is a field here, and a field of `ArePartsOf`.
use Rattle.std.specs.Prelude.{◌≡◌, List, [], slice_index_or}
use Rattle.dc_base.specs.Links.{link_number}
use Rattle.dc_base.specs.declared.flights.Flight.{Flight}
use Rattle.dc_base.specs.declared.nodes.LinkId.{LinkId}
use Rattle.claims.specs.Past.{Past}
use Rattle.claims.specs.Reading.{content}
use Rattle.checker_state.specs.Kept.{kept}

-- the flights on each link, in order, by the number of the link
abbrev pub Queues : Type 0
Queues = List (List Flight)

-- those of one link
abbrev pub flights_on : LinkId → Queues → List Flight
flights_on l queues = slice_index_or queues (link_number l) []

-- what the checker has
pub record Parts : Type 0 where
  pub queues : Queues
  pub state : Past

-- it is this of the past: on each link stands what stands there by the past, and what is kept of the past is its state
pub record ArePartsOf (s : Parts) (p : Past) : Type 0 where
  pub standing : (l : LinkId) → content l p ≡ flights_on l s.queues
  pub keeps : s.state ≡ kept p
