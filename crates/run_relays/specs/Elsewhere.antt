-- A relayed PDU comes from another node than the anchor of its plan.
use Rattle.std.specs.Prelude.{List, Some, false, ⊤, ℕ, ◌≡◌}
use Rattle.std.specs.List.{AllByRecursion}
use Rattle.std.proofs.Common.{◌⊎◌}
use Rattle.dc_base.specs.Nodes.{is_same_node}
use Rattle.dc_base.specs.declared.flights.Flight.{Flight}
use Rattle.dc_base.specs.declared.flights.Flight.TheVariants as flight
use Rattle.dc_base.specs.declared.nodes.LinkId.{LinkId}
use Rattle.claims.specs.Reading.{Setting, anchor_in}
use Rattle.node_rules.specs.Packets.{up_packet}
use Rattle.node_rules.specs.World.{World, flights_on}
use Rattle.run_uplinks.specs.Readings.{Reading}
use Rattle.run_uplinks.specs.Seen.{setting_in}
use Rattle.run_relays.specs.Relays.{IsOther}

-- the plan of a generation sets an identity, with the anchor at another node than the one where the link begins
pub record IsElsewhere (r : Reading) (l : LinkId) (id g : ℕ) : Type 0 where
  pub set : Setting
  pub in_plan : setting_in r.plans id g ≡ Some set
  pub apart : is_same_node l.from (anchor_in set) ≡ false

-- a relayed PDU, from such a node
pub record IsFromElsewhere (r : Reading) (l : LinkId) (packet : List ℕ) : Type 0 where
  pub id : ℕ
  pub g : ℕ
  pub pdu : List ℕ
  pub is : packet ≡ up_packet g id pdu
  pub elsewhere : IsElsewhere r l id g

-- a packet is another, or such a PDU
abbrev pub InTunnel : Reading → LinkId → Flight → Type 0
InTunnel r l (flight.Tun tag packet) = IsOther packet ⊎ IsFromElsewhere r l packet
InTunnel r l (flight.Air id g num tag pdu) = ⊤
InTunnel r l (flight.Ack id g num) = ⊤
InTunnel r l (flight.Sdu id g sdu) = ⊤
InTunnel r l (flight.End id g) = ⊤
InTunnel r l (flight.Told id g count) = ⊤
InTunnel r l (flight.Ctl rec) = ⊤

-- each in each tunnel
abbrev pub AreFromElsewhere : Reading → World → Type 0
AreFromElsewhere r w = (l : LinkId) → AllByRecursion (InTunnel r l) (flights_on l w.links)
