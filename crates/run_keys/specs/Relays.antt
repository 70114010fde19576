-- Uplink PDUs on links, each of a key that is in use for its establishment.
use Rattle.std.specs.List.{AllByRecursion}
use Rattle.std.specs.Prelude.{List, false, ℕ, ⊤, ◌≡◌, ◌⊎◌}
use Rattle.dc_base.specs.Nodes.{is_same_node}
use Rattle.dc_base.specs.declared.flights.Flight.{Flight}
use Rattle.dc_base.specs.declared.flights.Flight.TheVariants as flight
use Rattle.dc_base.specs.declared.nodes.LinkId.{LinkId}
use Rattle.dc_base.specs.declared.nodes.Node.TheVariants.{T}
use Rattle.claims.specs.Past.{Past}
use Rattle.node_rules.specs.Packets.{up_packet}
use Rattle.node_rules.specs.World.{World, flights_on}
use Rattle.run_relays.specs.Relays.{IsOther}
use Rattle.run_keys.specs.InUse.{HoldsUses, IsInUse}

-- a relayed PDU is of such a key
pub record RelaysInUse (p : Past) (packet : List ℕ) : Type 0 where
  pub id : ℕ
  pub g : ℕ
  pub pdu : List ℕ
  pub is : packet ≡ up_packet g id pdu
  pub in_use : IsInUse p id g

-- so is a PDU on the air to another node than the terminal, and each that is relayed in a tunnel
abbrev pub IsUpInUse : Past → LinkId → Flight → Type 0
IsUpInUse p l (flight.Air id g num tag pdu) = is_same_node l.to T ≡ false → IsInUse p id g
IsUpInUse p l (flight.Tun tag packet) = IsOther packet ⊎ RelaysInUse p packet
IsUpInUse p l (flight.Ack id g num) = ⊤
IsUpInUse p l (flight.Sdu id g sdu) = ⊤
IsUpInUse p l (flight.End id g) = ⊤
IsUpInUse p l (flight.Told id g count) = ⊤
IsUpInUse p l (flight.Ctl r) = ⊤

-- what holds at each moment of a run: the keys of each uplink PDU that is on its way are in use, too
pub record HoldsRelays (p : Past) (w : World) : Type 0 where
  pub uses : HoldsUses p w
  pub up : (l : LinkId) → AllByRecursion (IsUpInUse p l) (flights_on l w.links)
