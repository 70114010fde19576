-- What a frozen receiving entity is handed over by (TS 38.423, 8.2.2; TS 37.340, 10): SN STATUS TRANSFER and the tunnel of what it
-- stores.
use Rattle.std.specs.Prelude.{ℕ, ◌≡◌, true, ⊤}
use Rattle.dc_base.specs.declared.flights.Flight.{Flight}
use Rattle.dc_base.specs.declared.flights.Flight.TheVariants as flight
use Rattle.dc_base.specs.declared.nodes.Dir.TheVariants.{Ul}
use Rattle.dc_base.specs.declared.records.Rec.{Rec}
use Rattle.dc_base.specs.declared.records.Rec.TheVariants as rec
use Rattle.dc_base.specs.declared.records.StatusTransfer.{StatusTransfer}
use Rattle.forward.specs.Load.{Carries, Load}
use Rattle.forward.specs.Tunnel.{IsPacketOf, Tunnel}
use Rattle.gtpu.specs.Content.{Content}
use Rattle.node_rules.specs.Freezing.{numbered}
use Rattle.node_rules.specs.Packets.{forwarding, packet_of}
use Rattle.pdcp_pdu.specs.StatusReport.{whole_bits}
use Rattle.pdcp_rx.specs.Entries.{counts_of}
use Rattle.pdcp_rx.specs.declared.entity.RxParts.{RxParts}

-- the uplink tunnel of the entity: what it stores, in its order, and the end
abbrev pub up_tunnel : RxParts → Tunnel
up_tunnel rx = record { sdus = numbered rx.n rx.stored; closed = true }

-- what comes of that tunnel is of the entity
abbrev pub IsForwardedOf : RxParts → Load → Type 0
IsForwardedOf rx load = (p : Content) × IsPacketOf (up_tunnel rx) p × Carries p load

-- a status transfer says where the entity is, and which COUNTs it stores
pub record SaysOf (rx : RxParts) (st : StatusTransfer) : Type 0 where
  pub ul : st.ul ≡ rx.deliv
  pub bits : st.bits ≡ whole_bits rx.deliv (counts_of rx.stored)

-- it does so if it is of this bearer and generation
abbrev pub IsTransferOf : RxParts → ℕ → ℕ → StatusTransfer → Type 0
IsTransferOf rx g id st = st.g ≡ g → st.id ≡ id → SaysOf rx st

-- a record, if it is a status transfer
abbrev pub IsRecordOf : RxParts → ℕ → ℕ → Rec → Type 0
IsRecordOf rx g id (rec.Snst st) = IsTransferOf rx g id st
IsRecordOf rx g id _ = ⊤

-- what a flight says of this bearer and generation is of the frozen entity
abbrev pub IsOfFrozen : RxParts → ℕ → ℕ → Flight → Type 0
IsOfFrozen rx g id (flight.Tun tag packet) = (load : Load) → packet_of packet ≡ forwarding id g Ul load → IsForwardedOf rx load
IsOfFrozen rx g id (flight.Ctl r) = IsRecordOf rx g id r
IsOfFrozen rx g id _ = ⊤
