-- The receiving entity at an anchor, whichever state that is in, and what a step makes of it (TS 37.340, 10; TS 38.323, 5.2.2).
use Rattle.std.specs.Prelude.{ℕ, ◌≡◌, ◌+◌, ◌≤◌, ◌⊎◌, ◌++◌, true, List, [], ◌∷◌, Option, Some, None, ⊤}
use Rattle.dc_base.specs.Count.{window}
use Rattle.dc_base.specs.declared.flights.Flight.{Flight}
use Rattle.dc_base.specs.declared.flights.Flight.TheVariants as flight
use Rattle.dc_base.specs.declared.records.StatusTransfer.{StatusTransfer}
use Rattle.forward.specs.Tunnel.{IsEndOf}
use Rattle.node_rules.specs.Anchor.{Active, AnchorState, Waiting, active_anchor, setup_at, waiting_anchor}
use Rattle.node_rules.specs.Packets.{packet_of, pdu_up}
use Rattle.node_rules.specs.Setup.{is_of}
use Rattle.node_rules.specs.declared.bearers.AnchorOut.{AnchorOut}
use Rattle.pdcp_rx.specs.declared.entity.RxParts.{RxParts}
use Rattle.run_receivers.specs.Frozen.{IsOfFrozen, SaysOf, up_tunnel}
use Rattle.run_receivers.specs.Pdus.{ArePdus, Ciphering, IsFrom, IsPduIn, IsReader}
use Rattle.run_receivers.specs.Receiving.{HasTaken}
use Rattle.run_receivers.specs.Submitted.{Submitted}

-- a waiting anchor gathers this entity, and keeps PDUs with these COUNTs: what it has of the transfer and of the uplink tunnel is of
-- the entity
pub record IsGathering (u : Submitted) (low : ℕ) (k : Ciphering) (rx : RxParts) (tags : List (Option ℕ)) (w : Waiting) : Type 0 where
  pub reader : IsReader u k w.setup
  pub transfer : (st : StatusTransfer) → w.transfer ≡ Some st → SaysOf rx st
  pub up : IsEndOf (up_tunnel rx) w.up
  pub kept : ArePdus u k low tags w.pdus

-- an active anchor has this entity, and keeps no PDUs
pub record IsReceivingAt (u : Submitted) (k : Ciphering) (rx : RxParts) (tags : List (Option ℕ)) (a : Active) : Type 0 where
  pub reader : IsReader u k a.entity.setup
  pub is : a.entity.rx ≡ rx
  pub none : tags ≡ []

-- the receiving entity at an anchor is this one, and PDUs with these COUNTs are kept for it
abbrev pub HasReceiver : Submitted → ℕ → Ciphering → RxParts → List (Option ℕ) → AnchorState → Type 0
HasReceiver u low k rx tags (waiting_anchor w) = IsGathering u low k rx tags w
HasReceiver u low k rx tags (active_anchor a) = IsReceivingAt u k rx tags a

-- a step of the anchor, to which PDUs with the COUNTs `new` came: each that was kept or came was taken, or is kept
pub record HasStepped (u : Submitted) (low : ℕ) (k : Ciphering) (rx : RxParts) (kept new : List (Option ℕ)) (done : AnchorState × AnchorOut) : Type 0 where
  pub after : RxParts
  pub tags : List (Option ℕ)
  pub left : List (Option ℕ)
  pub taken : HasTaken u low tags rx after done.1.ups
  pub holds : HasReceiver u low k after left done.0
  pub those : tags ++ left ≡ kept ++ new

-- ---- what may come

-- the COUNT, if there is one, is not aged: not more than a window below RX_DELIV
abbrev pub IsYoung : Submitted → RxParts → Option ℕ → Type 0
IsYoung u rx (Some tag) = rx.deliv ≤ tag + window u.n
IsYoung u rx None = ⊤

-- a PDU with this COUNT may come to an anchor: one that is not aged to an active anchor, one that is not below Low to a waiting one
abbrev pub MayCome : Submitted → ℕ → RxParts → Option ℕ → AnchorState → Type 0
MayCome u low rx tag (waiting_anchor w) = IsFrom low tag
MayCome u low rx tag (active_anchor a) = IsYoung u rx tag

-- the octets of a PDU that may come
abbrev pub IsPduFor : Submitted → ℕ → Ciphering → RxParts → AnchorState → Option ℕ → List ℕ → Type 0
IsPduFor u low k rx s tag pdu = IsPduIn u k tag pdu × MayCome u low rx tag s

-- what comes to a waiting anchor in a forwarding tunnel is of the frozen entity
abbrev pub IsForwardedTo : RxParts → AnchorState → Flight → Type 0
IsForwardedTo rx (waiting_anchor w) f = IsOfFrozen rx w.setup.g w.setup.id f
IsForwardedTo rx (active_anchor a) f = ⊤

-- what a flight is to an anchor of its bearer and generation
abbrev pub IsForAnchor : Submitted → ℕ → Ciphering → RxParts → AnchorState → Flight → Type 0
IsForAnchor u low k rx s (flight.Air id g num tag pdu) = is_of (setup_at s) id g ≡ true → IsPduFor u low k rx s tag pdu
IsForAnchor u low k rx s (flight.Tun tag packet) =
    ((id g : ℕ) (pdu : List ℕ) → packet_of packet ≡ pdu_up id g pdu → is_of (setup_at s) id g ≡ true → IsPduFor u low k rx s tag pdu)
    × IsForwardedTo rx s (flight.Tun tag packet)
IsForAnchor u low k rx s _ = ⊤

-- the COUNT that a flight carries
abbrev pub tag_in : Flight → Option ℕ
tag_in (flight.Air id g num tag pdu) = tag
tag_in (flight.Tun tag packet) = tag
tag_in _ = None

-- a flight came to the anchor: its PDU was taken or kept, or it brought none
pub record HasCome (u : Submitted) (low : ℕ) (k : Ciphering) (rx : RxParts) (kept : List (Option ℕ)) (f : Flight)
    (done : AnchorState × AnchorOut) : Type 0 where
  pub new : List (Option ℕ)
  pub one : (new ≡ []) ⊎ (new ≡ tag_in f ∷ [])
  pub stepped : HasStepped u low k rx kept new done
