-- What each step of an anchor keeps, whatever comes.
use Rattle.std.specs.Prelude.{Some, false, ◌++◌, ◌≡◌, ◌≤◌, List, ℕ}
use Rattle.dc_base.specs.declared.flights.Flight.{Flight}
use Rattle.dc_base.specs.declared.nodes.Cell.{Cell}
use Rattle.dc_base.specs.declared.records.StatusTransfer.{StatusTransfer}
use Rattle.node_rules.specs.Adopting.{status_in}
use Rattle.node_rules.specs.Anchor.{Waiting, silent, waiting_anchor, Active, AnchorState, active_anchor, fresh, renew, waiting}
use Rattle.node_rules.specs.AnchorReceiving.{air_in, tunnel_in}
use Rattle.node_rules.specs.AnchorSending.{fail_scg, recover, report, submit, unlock}
use Rattle.node_rules.specs.Choices.{Choices, Send}
use Rattle.node_rules.specs.declared.bearers.AnchorOut.{AnchorOut}
use Rattle.std.specs.List.{AllByRecursion}
use Rattle.pdcp_tx.specs.Sender.{low}
use Rattle.run_receivers.specs.Submitted.{Submitted}
use Rattle.run_ordered.specs.Forwarding.{IsQuiet}
use Rattle.run_ordered.specs.Fronts.{HasFront}
use Rattle.node_rules.specs.Feed.{Fed}
use Rattle.node_rules.specs.Setup.{Setup}
use Rattle.node_rules.specs.World.{World}
use Rattle.run_senders.specs.Holders.{AllHeld}

-- it is so of an anchor as it begins and in a new generation, and each step keeps it
pub record IsLaw (c : Choices) (P : AnchorState → Type 0) : Type 0 where
  pub begins : (s : Setup) → P (fresh s)
  pub waits : (s : Setup) → P (waiting s)
  pub renews : (a : Active) (s : Setup) → P (active_anchor a) → P (active_anchor (renew a s))
  pub submits : (s : AnchorState) (payload : List ℕ) → P s → P (submit c s payload).0
  pub unlocks : (s : AnchorState) → P s → P (unlock c s).0
  pub recovers : (s : AnchorState) → P s → P (recover c s).0
  pub fails : (s : AnchorState) → P s → P (fail_scg c s).0
  pub reports : (s : AnchorState) → P s → P (report c s).0
  pub hears : (s : AnchorState) (cell : Cell) (f : Flight) → P s → P (air_in s cell f).0
  pub tunnels : (s : AnchorState) (f : Flight) → P s → P (tunnel_in c s f).0
  pub transfers : (s : AnchorState) (status : StatusTransfer) → P s → P (status_in c s status).0

-- it is so of all anchors of the nodes
pub record AllAnchors (P : AnchorState → Type 0) (w : World) : Type 0 where
  pub master : AllHeld P w.master.anchors
  pub a : AllHeld (λ (f : Fed). P f.anchor) w.a.anchors
  pub b : AllHeld (λ (f : Fed). P f.anchor) w.b.anchors

-- ---- the sending entity in a step

-- an active anchor took these submissions, or none, in a step: the others have yet to come to it in their order, Low has not fallen and
-- was told at most as it is, and nothing that was sent says of an entity that it is handed over
pub record AnchorServes (a : Active) (taken : List (List ℕ)) (done : AnchorState × AnchorOut) : Type 0 where
  pub after : Active
  pub is : done.0 ≡ active_anchor after
  pub front : (u : Submitted) (rest : List (List ℕ)) → HasFront u (taken ++ rest) a → HasFront u rest after
  pub rises : low a.entity.tx ≤ low after.entity.tx
  pub told : (k : ℕ) → done.1.low ≡ Some k → k ≤ low after.entity.tx
  pub stays : done.1.adopted ≡ false
  pub silent : AllByRecursion (λ (x : Send). IsQuiet x.1) done.1.sends

-- a waiting anchor that was given these goes on to wait, in the same generation and with all else that it has of the downlink
pub record AnchorWaits (w : Waiting) (given : List (List ℕ)) (done : AnchorState × AnchorOut) : Type 0 where
  pub after : Waiting
  pub is : done.0 ≡ waiting_anchor after
  pub fresh : after.fresh ≡ w.fresh ++ given
  pub same_g : after.setup.g ≡ w.setup.g
  pub same_n : after.setup.n ≡ w.setup.n
  pub transfer : after.transfer ≡ w.transfer
  pub down : after.down ≡ w.down
  pub out : done.1 ≡ record silent { sends = done.1.sends }
  pub silent_out : AllByRecursion (λ (x : Send). IsQuiet x.1) done.1.sends
