-- What an anchor is to do, and what a flight of user data does to an anchor and to a leg host: the rules' steps by their names.
use Rattle.std.specs.Prelude.{Bool, List, None, Option, Some, false, true, ℕ, ◌==◌}
use Rattle.dc_base.specs.declared.nodes.Cell.TheVariants as cell
use Rattle.node_rules.specs.Adopting.{status_in}
use Rattle.node_rules.specs.Anchor.{AnchorState, active_anchor, renew, waiting_anchor}
use Rattle.node_rules.specs.AnchorReceiving.{air_in, tunnel_in}
use Rattle.node_rules.specs.AnchorSending.{fail_scg, recover, report, unlock}
use Rattle.node_rules.specs.Choices.{Choices, Send}
use Rattle.node_rules.specs.Effects.{quiet}
use Rattle.node_rules.specs.Feed.{Fed, Frozen}
use Rattle.node_rules.specs.Host.{Host}
use Rattle.node_rules.specs.HostRules.{host_air_in, host_tunnel_in}
use Rattle.node_rules.specs.declared.bearers.AnchorOut.{AnchorOut}
use Rattle.node_rules.specs.declared.inputs.Effects.{Effects}
use Rattle.node_rules.specs.SecondPlan.{with_fed}
use Rattle.node_rules.specs.Secondary.{SecondNode}
use Rattle.node_rules.specs.Setup.{Setup}
use Rattle.second_core.specs.declared.steps.AnchorStep.{AnchorStep}
use Rattle.second_core.specs.declared.steps.AnchorStep.TheVariants as step
use Rattle.second_core.specs.declared.steps.UserFlight.{UserFlight}
use Rattle.second_core.specs.declared.steps.UserFlight.TheVariants as user

-- the anchor takes a flight of user data
abbrev pub anchor_takes : Choices → UserFlight → AnchorState → AnchorState × AnchorOut
anchor_takes c (user.OverAir f) a = air_in a cell.Scg f
anchor_takes c (user.ThroughTunnel f) a = tunnel_in c a f

-- the leg host takes it
abbrev pub host_takes : UserFlight → Host → Host × List Send
host_takes (user.OverAir f) h = host_air_in h f
host_takes (user.ThroughTunnel f) h = host_tunnel_in h f

-- the anchor does this
abbrev pub anchor_does : Choices → AnchorStep → AnchorState → AnchorState × AnchorOut
anchor_does c step.Unlock a = unlock c a
anchor_does c step.Recover a = recover c a
anchor_does c step.FailScg a = fail_scg c a
anchor_does c step.Report a = report c a
anchor_does c (step.Pass status) a = status_in c a status
anchor_does c (step.Take f) a = anchor_takes c f a

-- an active anchor with its line in a new generation, and whether it is one; a waiting one stays as it is
abbrev pub renewed_as : Fed → Setup → AnchorState → Fed × Bool
renewed_as f s (waiting_anchor w) = (f, false)
renewed_as f s (active_anchor a) = (record f { anchor = active_anchor (renew a s) }, true)

-- what is frozen was frozen for this change
abbrev pub is_frozen_for : ℕ → Option Frozen → Bool
is_frozen_for g None = false
is_frozen_for g (Some f) = f.tunnel.g == g

-- the anchor of a bearer that comes from another node waits from now on
abbrev pub awaited_there : SecondNode → ℕ → Option Fed → SecondNode × Effects
awaited_there s id x = (with_fed s id x, quiet)
