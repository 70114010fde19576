-- What may stand as a consequence, and on which link.
use Rattle.std.specs.Prelude.{Bool, false, if◌then◌else◌, is_none, is_some, true, ◌&&◌, ◌||◌}
use Rattle.dc_base.specs.Links.{is_link}
use Rattle.dc_base.specs.Nodes.{is_same_node, is_secondary}
use Rattle.dc_base.specs.declared.events.Line.{Line}
use Rattle.dc_base.specs.declared.events.Line.TheVariants as line
use Rattle.dc_base.specs.declared.flights.Flight.{Flight}
use Rattle.dc_base.specs.declared.flights.Flight.TheVariants as flight
use Rattle.dc_base.specs.declared.nodes.Class.TheVariants.{Air, Ctl, Feed, Tun}
use Rattle.dc_base.specs.declared.nodes.LinkId.{LinkId}
use Rattle.dc_base.specs.declared.nodes.Node.TheVariants.{M, T}
use Rattle.dc_base.specs.declared.records.Rec.{Rec}
use Rattle.dc_base.specs.declared.records.Rec.TheVariants as rec
use Rattle.pdcp_pdu.specs.DataPdu.{is_data}
use Rattle.claims.specs.Links.{is_class, is_from_to}
use Rattle.claims.specs.Sameness.{is_none_or}
use Rattle.claims.specs.Packets.{packet_of}
use Rattle.claims.specs.Views.{Pdu, pdu_in, pdu_of}
use Rattle.claims.specs.Past.{Past}

-- a consequence is a note or a send: one event has one answer
abbrev pub is_consequence : Past → Line → Bool
is_consequence p (line.Note n) = true
is_consequence p (line.Send l f) = true
is_consequence p (line.Event e) = false
is_consequence p (line.Answer a) = false

-- the ends of a record: control of the terminal, or between master and secondary
abbrev pub record_fits : LinkId → Rec → Bool
record_fits l (rec.Reconf q key) = is_from_to M T l
record_fits l (rec.Rcomp g) = is_from_to T M l
record_fits l (rec.Scgf pairs) = is_from_to T M l
record_fits l (rec.Recov id) = is_same_node l.from M
record_fits l (rec.Recovd id) = is_same_node l.to M
record_fits l (rec.Addreq q key) = is_secondary l.to
record_fits l (rec.Addack g) = is_secondary l.from
record_fits l (rec.Addrej g) = is_secondary l.from
record_fits l (rec.Modreq q key) = is_secondary l.to
record_fits l (rec.Modack g) = is_secondary l.from
record_fits l (rec.Modrej g) = is_secondary l.from
record_fits l (rec.Recfg g) = is_secondary l.to
record_fits l (rec.Relreq q) = is_secondary l.to
record_fits l (rec.Relack g) = is_secondary l.from
record_fits l (rec.Relrej g) = is_secondary l.from
record_fits l (rec.Uecr g) = is_secondary l.to
record_fits l (rec.Snst s) = is_secondary l.from || is_secondary l.to
record_fits l (rec.Moved g id) = is_secondary l.from
record_fits l (rec.Scgn id g) = is_secondary l.to
record_fits l rec.Modrqd = is_secondary l.from
record_fits l (rec.Modcnf g) = is_secondary l.to
record_fits l (rec.Modref w) = is_secondary l.to
record_fits l rec.Chgrqd = is_secondary l.from
record_fits l (rec.Chgcnf q) = is_secondary l.to
record_fits l (rec.Chgref w) = is_secondary l.to
record_fits l rec.Relrqd = is_secondary l.from
record_fits l (rec.Relcnf q) = is_secondary l.to

-- a data PDU has its COUNT as a tag, a control PDU has none
abbrev pub is_tagged : Pdu → Bool
is_tagged u = if is_data u.octets then is_some u.tag else is_none u.tag

-- the link is of the class of the flight, and the flight is formed as it has to be: a packet in the one way it is written
abbrev pub flight_fits : LinkId → Flight → Bool
flight_fits l (flight.Air id g num tag pdu) = is_class Air l && is_none_or is_tagged (pdu_of (flight.Air id g num tag pdu))
flight_fits l (flight.Ack id g num) = is_class Air l
flight_fits l (flight.Tun tag packet) = let view = packet_of packet in is_class Tun l && is_some view && is_none_or is_tagged (pdu_in tag view)
flight_fits l (flight.Sdu id g sdu) = is_class Feed l && is_same_node l.from M
flight_fits l (flight.End id g) = is_class Feed l && is_same_node l.from M
flight_fits l (flight.Told id g count) = is_class Feed l && is_same_node l.to M
flight_fits l (flight.Ctl r) = is_class Ctl l && record_fits l r

-- a send is on one of the 22 links
abbrev pub is_on_link : Past → Line → Bool
is_on_link p (line.Send l f) = is_link l && flight_fits l f
is_on_link p _ = true
