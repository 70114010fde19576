-- A tunnel that may lose, repeat and reorder packets, and may still be given more.
use Rattle.std.specs.Prelude.{◌≡◌, ℕ, ◌<◌, ◌^◌, Bool, true, List, [], ◌∷◌, ◌++◌, length, All, Some, slice_get, Ok}
use Rattle.dc_base.specs.declared.numbers.SnLen.{SnLen}
use Rattle.gtpu.specs.Content.{Content}
use Rattle.gtpu.specs.Decoded.{decoded}
use Rattle.forward.specs.Load.{Sdu, Load, Carries}
use Rattle.forward.specs.Outgoing.{sdu_packet, total_packet, end_marker}
use Rattle.forward.specs.Forwarded.{Forwarded, nothing_came, sdu_under, after}

-- what a tunnel was given so far: SDUs in their order, the first with number 0, and whether it is closed
pub record Tunnel : Type 0 where
  pub sdus : List Sdu
  pub closed : Bool

-- a packet that was sent in the tunnel: SDU k of the list under number k; the total and the End Marker only once it is closed
pub data IsPacketOf (t : Tunnel) (p : Content) : Type 0 where
  sdu_of : (teid : ℕ) (n : SnLen) (number : ℕ) (sdu : Sdu) → slice_get t.sdus number ≡ Some sdu → p ≡ sdu_packet teid n number sdu → IsPacketOf t p
  total_of : (teid : ℕ) → t.closed ≡ true → p ≡ total_packet teid (length t.sdus) → IsPacketOf t p
  marker_of : (teid : ℕ) → t.closed ≡ true → p ≡ end_marker teid → IsPacketOf t p

-- octets that are read as a packet of the tunnel
abbrev pub IsSentIn : Tunnel → List ℕ → Type 0
IsSentIn t octets = (p : Content) × (decoded octets ≡ Ok p) × IsPacketOf t p

-- The receiving end has nothing that the tunnel was not given: what is there under number k is SDU k of the
-- list, and a total is there only if the tunnel is closed, and is the number of all.
pub record IsEndOf (t : Tunnel) (i : Forwarded) : Type 0 where
  pub each : (number : ℕ) (sdu : Sdu) → sdu_under i number ≡ Some sdu → slice_get t.sdus number ≡ Some sdu
  pub whole : (total : ℕ) → i.total ≡ Some total → (t.closed ≡ true) × (total ≡ length t.sdus)

-- the same tunnel later: it was given more, but nothing once it was closed
pub record IsLater (t later : Tunnel) : Type 0 where
  pub more : List Sdu
  pub longer : later.sdus ≡ t.sdus ++ more
  pub last : t.closed ≡ true → (later.closed ≡ true) × (more ≡ [])

-- what is there after these packets came one after another
abbrev pub Comes : Forwarded → List Content → Forwarded → Type 0
Comes before [] now = now ≡ before
Comes before (p ∷ ps) now = (load : Load) × Carries p load × Comes (after before load) ps now

-- Whatever came of the packets of a tunnel, in any order and any number of times: the list is what the tunnel
-- was given, in its order, and the tunnel is closed.
abbrev pub IsListSent : Forwarded → List Sdu → Type 0
IsListSent now list =
    (t : Tunnel) → length t.sdus < 2 ^ 24 → (came : List Content) → All (IsPacketOf t) came → Comes nothing_came came now → (list ≡ t.sdus) × (t.closed ≡ true)
