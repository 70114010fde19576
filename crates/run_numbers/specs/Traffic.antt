-- What a past has of the PDUs and forwarded packets that were sent, and the flight of which a copy is made.
use Rattle.std.specs.Prelude.{List, None, Option}
use Rattle.dc_base.specs.declared.answers.Answer.{Answer}
use Rattle.dc_base.specs.declared.answers.Answer.TheVariants as answer
use Rattle.dc_base.specs.declared.events.Event.{Event}
use Rattle.dc_base.specs.declared.events.Event.TheVariants as event
use Rattle.dc_base.specs.declared.flights.Flight.{Flight}
use Rattle.dc_base.specs.declared.nodes.LinkId.{LinkId}
use Rattle.claims.specs.Links.{find_at}
use Rattle.claims.specs.Packets.{Packet}
use Rattle.claims.specs.Past.{Past}
use Rattle.claims.specs.Views.{Pdu}

-- the PDUs and the forwarded packets that were sent, and the flight that is copied
pub record Traffic : Type 0 where
  pub pdus : List (LinkId × Pdu)
  pub forwards : List (LinkId × Packet)
  pub copied : Option (LinkId × Flight)

-- of a past
abbrev pub traffic : Past → Traffic
traffic p = record { pdus = p.pdus; forwards = p.forwards; copied = p.copied }

-- the flight of which an event makes a copy, where these stand
abbrev pub copied_by : Answer → Event → List (LinkId × Flight) → Option (LinkId × Flight)
copied_by (answer.No why) e standing = None
copied_by answer.Ok (event.Again l i) standing = find_at l i standing
copied_by answer.Ok e standing = None
