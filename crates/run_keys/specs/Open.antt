-- Anchors that may send, and the downlink PDUs that they send.
use Rattle.std.specs.List.{AllByRecursion}
use Rattle.std.specs.Prelude.{Bool, List, [], false, true, ℕ, ⊤, ◌≡◌}
use Rattle.dc_base.specs.declared.flights.Flight.TheVariants as flight
use Rattle.nr_u.specs.Tunnel.Outgoing.{Counted}
use Rattle.node_rules.specs.Anchor.{AnchorState, active_anchor, setup_at, waiting_anchor}
use Rattle.node_rules.specs.Choices.{Send}
use Rattle.node_rules.specs.Packets.{down_packet}
use Rattle.node_rules.specs.declared.bearers.AnchorOut.{AnchorOut}

-- an anchor is open, or waits and was told that the reconfiguration is complete
abbrev pub is_unlocked : AnchorState → Bool
is_unlocked (waiting_anchor w) = w.is_told
is_unlocked (active_anchor a) = a.is_open

-- of the identity and generation of an anchor
abbrev pub AtAnchor : (ℕ → ℕ → Type 0) → AnchorState → Type 0
AtAnchor P s = P (setup_at s).id (setup_at s).g

-- the data PDUs in its tunnel that were not asked for again; there is none while it waits
abbrev pub unasked_at : AnchorState → List Counted
unasked_at (waiting_anchor w) = []
unasked_at (active_anchor a) = a.tunnel.unasked

-- of those of an anchor that is unlocked; one that is not has nothing in its tunnel
pub record OpenOf (P : ℕ → ℕ → Type 0) (s : AnchorState) : Type 0 where
  pub may : is_unlocked s ≡ true → AtAnchor P s
  pub shut : is_unlocked s ≡ false → unasked_at s ≡ []

-- a packet is a downlink PDU to a host, of an identity and generation of which this is so
pub record IsDownPacketOf (P : ℕ → ℕ → Type 0) (packet : List ℕ) : Type 0 where
  pub id : ℕ
  pub g : ℕ
  pub number : ℕ
  pub repeat : Bool
  pub pdu : List ℕ
  pub is : packet ≡ down_packet g id number repeat pdu
  pub so : P id g

-- of a PDU that is sent on the air; and a packet that is sent is such a downlink PDU
abbrev pub IsDownOf : (ℕ → ℕ → Type 0) → Send → Type 0
IsDownOf P (l, flight.Air id g num tag pdu) = P id g
IsDownOf P (l, flight.Tun tag packet) = IsDownPacketOf P packet
IsDownOf P (l, flight.Ack id g num) = ⊤
IsDownOf P (l, flight.Sdu id g sdu) = ⊤
IsDownOf P (l, flight.End id g) = ⊤
IsDownOf P (l, flight.Told id g count) = ⊤
IsDownOf P (l, flight.Ctl r) = ⊤

-- each
abbrev pub AreDownOf : (ℕ → ℕ → Type 0) → List Send → Type 0
AreDownOf P ss = AllByRecursion (IsDownOf P) ss

-- what comes of a step of an anchor: it is so of the anchor then, and of all that it sends
pub record OpenDoes (P : ℕ → ℕ → Type 0) (done : AnchorState × AnchorOut) : Type 0 where
  pub opens : OpenOf P done.0
  pub sends : AreDownOf P done.1.sends
