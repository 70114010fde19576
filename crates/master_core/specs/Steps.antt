-- What an anchor is to do, and what a flight of user data does to an anchor and to a leg host: the rules' steps by their names.
use Rattle.std.specs.Prelude.{List, None, Option, Some, ℕ}
use Rattle.dc_base.specs.declared.nodes.Cell.TheVariants as cell
use Rattle.dc_base.specs.declared.nodes.Dir.TheVariants.{Ul}
use Rattle.dc_base.specs.declared.nodes.Node.TheVariants.{M}
use Rattle.node_rules.specs.Adopting.{status_in}
use Rattle.node_rules.specs.Anchor.{AnchorState, setup_at}
use Rattle.node_rules.specs.AnchorReceiving.{air_in, tunnel_in}
use Rattle.node_rules.specs.AnchorSending.{fail_scg, recover, report, submit, unlock}
use Rattle.node_rules.specs.Choices.{Choices, Send}
use Rattle.node_rules.specs.Effects.{after_effects}
use Rattle.node_rules.specs.Held.{holding}
use Rattle.node_rules.specs.Host.{Host}
use Rattle.node_rules.specs.HostRules.{host_air_in, host_tunnel_in}
use Rattle.node_rules.specs.Master.{MasterNode, handed_up, low_rises}
use Rattle.node_rules.specs.declared.bearers.AnchorOut.{AnchorOut}
use Rattle.node_rules.specs.declared.inputs.Effects.{Effects}
use Rattle.master_core.specs.declared.steps.AnchorStep.{AnchorStep}
use Rattle.master_core.specs.declared.steps.AnchorStep.TheVariants as step
use Rattle.master_core.specs.declared.steps.UserFlight.{UserFlight}
use Rattle.master_core.specs.declared.steps.UserFlight.TheVariants as user

-- the anchor takes a flight of user data
abbrev pub anchor_takes : Choices → UserFlight → AnchorState → AnchorState × AnchorOut
anchor_takes c (user.OverAir f) a = air_in a cell.Mcg f
anchor_takes c (user.ThroughTunnel f) a = tunnel_in c a f

-- the leg host takes it
abbrev pub host_takes : UserFlight → Host → Host × List Send
host_takes (user.OverAir f) h = host_air_in h f
host_takes (user.ThroughTunnel f) h = host_tunnel_in h f

-- the anchor does this
abbrev pub anchor_does : Choices → AnchorStep → AnchorState → AnchorState × AnchorOut
anchor_does c step.Unlock a = unlock c a
anchor_does c step.Recover a = recover c a
anchor_does c step.FailScg a = fail_scg c a
anchor_does c step.Report a = report c a
anchor_does c (step.Submit sdu) a = submit c a sdu
anchor_does c (step.Pass status) a = status_in c a status
anchor_does c (step.Take f) a = anchor_takes c f a

-- the master after a step of an anchor that it has, with the anchor's generation and what the step gave
abbrev pub stepped : MasterNode → ℕ → (AnchorState → AnchorState × AnchorOut) → Option AnchorState → MasterNode × Option (ℕ × AnchorOut)
stepped m id f None = (m, None)
stepped m id f (Some a) = let done = f a in (record m { anchors = holding id (Some done.0) m.anchors }, Some ((setup_at a).g, done.1))

-- what comes of such a step: the SDUs handed up and the sends, and Low told at once
abbrev pub stepped_out : MasterNode → ℕ → AnchorOut → MasterNode × Effects
stepped_out m id out = after_effects (record { notes = handed_up M id Ul out.ups; sends = out.sends }) (low_rises m id out.low)
