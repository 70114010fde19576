-- Nothing stalls in the control plane, in any run.
use Rattle.std.proofs.Common.{List}
use Rattle.dc_base.specs.declared.events.Event.{Event}
use Rattle.dc_base.specs.declared.events.Header.{Header}
use Rattle.node_rules.specs.Choices.{Choices}
use Rattle.node_rules.specs.Run.{world_after}
use Rattle.node_rules.specs.World.{new_world}
use Rattle.run_control.specs.Claims.{NeverStalls}
use Rattle.run_control.specs.Sound.{AreSound}
use Rattle.run_agreed.proofs.Stalls.{never_stalls}
use Rattle.run_pairs.proofs.Agreement.{agrees_always}
use Rattle.run_expected.proofs.RecoveryRuns.{recoveries_stand}
use Rattle.run_expected.proofs.Wants.{wants_stand_always}

-- in each state of each run in which no record is on a control link no command is open, or one was carried out and answered and a
-- bearer still moves; and what a secondary node asked for was answered, or is a release that waits since it would set a spent key
pub never_stalls_always : (c : Choices) (h : Header) (es : List Event) → AreSound es → NeverStalls (world_after c (new_world h) es)
never_stalls_always c h es sound = never_stalls c h (agrees_always c h) es sound (recoveries_stand c h es sound) (wants_stand_always c h es sound)
