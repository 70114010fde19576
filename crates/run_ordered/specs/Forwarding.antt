-- What a frozen sending entity is handed over by (TS 38.423, 8.2.2; TS 37.340, 10): SN STATUS TRANSFER and the tunnel of what it keeps
-- and holds, to which more may come from the core.
use Rattle.std.specs.Prelude.{Bool, List, ℕ, ⊤, ◌++◌, ◌≡◌, Some}
use Rattle.dc_base.specs.declared.flights.Flight.{Flight}
use Rattle.dc_base.specs.declared.flights.Flight.TheVariants as flight
use Rattle.dc_base.specs.declared.nodes.Dir.TheVariants.{Dl}
use Rattle.dc_base.specs.declared.records.Rec.{Rec}
use Rattle.dc_base.specs.declared.records.Rec.TheVariants as rec
use Rattle.dc_base.specs.declared.records.StatusTransfer.{StatusTransfer}
use Rattle.forward.specs.Load.{Carries, Load, Sdu}
use Rattle.forward.specs.Tunnel.{IsEndOf, IsPacketOf, Tunnel}
use Rattle.gtpu.specs.Content.{Content}
use Rattle.node_rules.specs.Anchor.{Waiting}
use Rattle.node_rules.specs.Freezing.{numbered}
use Rattle.node_rules.specs.Packets.{forwarding, packet_of}
use Rattle.pdcp_tx.specs.Sender.{Sender}
use Rattle.run_moves.proofs.Taken.{unnumbered}

-- what the entity forwards: what it keeps, under its SNs, and then what it holds
abbrev pub forwarded_by : Sender → List Sdu
forwarded_by tx = numbered tx.n tx.kept ++ unnumbered tx.held

-- the downlink tunnel of the entity, closed once no more comes from the core
abbrev pub down_tunnel : Sender → Bool → Tunnel
down_tunnel tx closed = record { sdus = forwarded_by tx; closed = closed }

-- what comes of that tunnel is of the entity
abbrev pub IsForwardedOf : Sender → Bool → Load → Type 0
IsForwardedOf tx closed load = (p : Content) × IsPacketOf (down_tunnel tx closed) p × Carries p load

-- a status transfer of this bearer and generation says which COUNT is next
abbrev pub IsTransferOf : Sender → ℕ → ℕ → StatusTransfer → Type 0
IsTransferOf tx g id st = st.g ≡ g → st.id ≡ id → st.dl ≡ tx.next

-- a record, if it is a status transfer
abbrev pub IsRecordOf : Sender → ℕ → ℕ → Rec → Type 0
IsRecordOf tx g id (rec.Snst st) = IsTransferOf tx g id st
IsRecordOf tx g id _ = ⊤

-- what a flight says of this bearer and generation is of the frozen entity
abbrev pub IsOfSender : Sender → Bool → ℕ → ℕ → Flight → Type 0
IsOfSender tx closed g id (flight.Tun tag packet) = (load : Load) → packet_of packet ≡ forwarding id g Dl load → IsForwardedOf tx closed load
IsOfSender tx closed g id (flight.Ctl r) = IsRecordOf tx g id r
IsOfSender tx closed g id _ = ⊤

-- a waiting anchor takes the entity over: what it has of the transfer and of the downlink tunnel is of the entity
pub record IsTakingOver (tx : Sender) (closed : Bool) (w : Waiting) : Type 0 where
  pub same_n : w.setup.n ≡ tx.n
  pub transfer : (st : StatusTransfer) → w.transfer ≡ Some st → st.dl ≡ tx.next
  pub down : IsEndOf (down_tunnel tx closed) w.down

-- a record is no status transfer of this bearer and generation
abbrev pub IsOtherRecord : ℕ → ℕ → Rec → Type 0
IsOtherRecord g id (rec.Snst st) = st.g ≡ g → st.id ≡ id → ⊥
IsOtherRecord g id _ = ⊤

-- nothing that is handed over in this generation is in a flight: nothing was frozen yet
abbrev pub IsBeforeFreeze : ℕ → ℕ → Flight → Type 0
IsBeforeFreeze g id (flight.Tun tag packet) = (load : Load) → packet_of packet ≡ forwarding id g Dl load → ⊥
IsBeforeFreeze g id (flight.Ctl r) = IsOtherRecord g id r
IsBeforeFreeze g id _ = ⊤

-- a record is no status transfer, or one of this entity, bearer and generation
abbrev pub SaysRecordOf : Sender → ℕ → ℕ → Rec → Type 0
SaysRecordOf tx g id (rec.Snst st) = (st.g ≡ g) × (st.id ≡ id) × (st.dl ≡ tx.next)
SaysRecordOf tx g id _ = ⊤

-- whatever a flight says of a sending entity that is handed over, it says of this one, in this generation of this bearer
abbrev pub SaysOnlyOf : Sender → Bool → ℕ → ℕ → Flight → Type 0
SaysOnlyOf tx closed g id (flight.Tun tag packet) =
    (i h : ℕ) (load : Load) → packet_of packet ≡ forwarding i h Dl load → (h ≡ g) × (i ≡ id) × IsForwardedOf tx closed load
SaysOnlyOf tx closed g id (flight.Ctl r) = SaysRecordOf tx g id r
SaysOnlyOf tx closed g id _ = ⊤

-- a record is no status transfer
abbrev pub IsNoTransfer : Rec → Type 0
IsNoTransfer (rec.Snst st) = ⊥
IsNoTransfer _ = ⊤

-- a flight says nothing of any
abbrev pub IsSilent : Flight → Type 0
IsSilent (flight.Tun tag packet) = (i h : ℕ) (load : Load) → packet_of packet ≡ forwarding i h Dl load → ⊥
IsSilent (flight.Ctl r) = IsNoTransfer r
IsSilent _ = ⊤

-- nor does it tell a COUNT
abbrev pub IsQuiet : Flight → Type 0
IsQuiet (flight.Tun tag packet) = (i h : ℕ) (load : Load) → packet_of packet ≡ forwarding i h Dl load → ⊥
IsQuiet (flight.Ctl r) = IsNoTransfer r
IsQuiet (flight.Told i g count) = ⊥
IsQuiet _ = ⊤

-- a record is no status transfer of this identity
abbrev pub IsTransferElse : ℕ → Rec → Type 0
IsTransferElse id (rec.Snst st) = st.id ≡ id → ⊥
IsTransferElse id _ = ⊤

-- a flight says nothing of a sending entity of this identity
abbrev pub IsSilentOf : ℕ → Flight → Type 0
IsSilentOf id (flight.Tun tag packet) = (i h : ℕ) (load : Load) → packet_of packet ≡ forwarding i h Dl load → i ≡ id → ⊥
IsSilentOf id (flight.Ctl r) = IsTransferElse id r
IsSilentOf id _ = ⊤
