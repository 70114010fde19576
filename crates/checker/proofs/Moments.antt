-- Of a past, what stands on the links, and the lines of the event so far.
use Rattle.std.specs.Prelude.{ℕ, List, Option, Some, None}
use Rattle.dc_base.specs.declared.events.Line.{Line}
use Rattle.dc_base.specs.declared.flights.Flight.{Flight}
use Rattle.dc_base.specs.declared.nodes.LinkId.{LinkId}
use Rattle.claims.specs.Links.{without}
use Rattle.claims.specs.Past.{Past}

-- the flights that stand and the lines of the event so far
pub record Moment : Type 0 where
  pub standing : List (LinkId × Flight)
  pub said : List Line

-- of a past
abbrev pub moment : Past → Moment
moment p = record { standing = p.standing; said = p.said }

-- what is left where a flight was taken from a place, or none was
abbrev pub left_after : Option (LinkId × ℕ) → List (LinkId × Flight) → List (LinkId × Flight)
left_after None ss = ss
left_after (Some place) ss = without place.0 place.1 ss
