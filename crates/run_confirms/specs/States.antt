-- What the anchor of a bearer sent in its generation, active or waiting, and each of its steps.
use Rattle.std.specs.Prelude.{List, Option, [], ℕ, ◌++◌, ◌^◌, ◌≡◌, ◌≤◌}
use Rattle.std.specs.List.{AllByRecursion}
use Rattle.nr_u.specs.declared.tunnel.outbound.Sent.{Sent}
use Rattle.pdcp_tx.specs.Sender.{InWindow, low}
use Rattle.node_rules.specs.Anchor.{AnchorState, active_anchor, setup_at, waiting_anchor}
use Rattle.node_rules.specs.Choices.{Send}
use Rattle.node_rules.specs.declared.bearers.AnchorOut.{AnchorOut}
use Rattle.node_rules.specs.Setup.{Setup}
use Rattle.run_confirms.specs.Anchors.{AnchorSent, IsOfAnchor, sent_on}
use Rattle.run_confirms.specs.Statuses.{IsNear}

-- nothing was put on the legs
abbrev pub HasEmptyLegs : Setup → Type 0
HasEmptyLegs s = (sent_on s.legs.mcg ≡ []) × (sent_on s.legs.scg ≡ [])

-- what an anchor sent; a waiting one sent nothing
abbrev pub StateSent : List (Option ℕ) → List Sent → AnchorState → Type 0
StateSent air tun (waiting_anchor w) = (air ≡ []) × (tun ≡ []) × HasEmptyLegs w.setup
StateSent air tun (active_anchor a) = AnchorSent air tun a

-- what it sends in a step is behind what it sent before
pub record StateSends (air : List (Option ℕ)) (tun : List Sent) (s : AnchorState) (done : AnchorState × AnchorOut) : Type 0 where
  pub more_air : List (Option ℕ)
  pub more_tun : List Sent
  pub after : StateSent (air ++ more_air) (tun ++ more_tun) done.0
  pub flights : AllByRecursion (λ (x : Send). IsOfAnchor (setup_at s).id (setup_at s).g (air ++ more_air) (tun ++ more_tun) x.1) done.1.sends

-- what an active anchor keeps rises, and lies in its window
abbrev pub KeepsInWindow : AnchorState → Type 0
KeepsInWindow (waiting_anchor w) = Unit {0}
KeepsInWindow (active_anchor a) = InWindow a.entity.setup.n a.entity.tx.next a.entity.tx.kept

-- the SDUs that an anchor keeps for the downlink; a waiting one keeps none yet
abbrev pub kept_at : AnchorState → List (ℕ × List ℕ)
kept_at (waiting_anchor w) = []
kept_at (active_anchor a) = a.entity.tx.kept

-- a delivery status with this tag comes while the tag lies in the window round Low; COUNTs have 32 bits
abbrev pub IsReadNear : AnchorState → Option ℕ → Type 0
IsReadNear (waiting_anchor w) tag = Unit {0}
IsReadNear (active_anchor a) tag = IsNear a.entity.setup.n (low a.entity.tx) tag × (a.entity.tx.next ≤ 2 ^ 32)
