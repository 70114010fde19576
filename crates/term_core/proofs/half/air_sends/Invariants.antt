use Rattle.std.proofs.Common.{◌≡◌}
use Rattle.std.specs.List.{flat_map}
use Rattle.node_rules.specs.Setup.{node_of}
use Rattle.node_rules.specs.TerminalHalf.{leg_send}
use Rattle.node_rules.specs.declared.bearers.OnLeg.{OnLeg}
use Rattle.term_core.proofs.half.air_sends.Given as goal

abbrev pub invariant-loop-on_leg : goal.invariant-loop-on_leg
invariant-loop-on_leg l = l.sends ≡ flat_map (λ (p : OnLeg). leg_send l.setup p (node_of l.setup.sec p.cell)) l.yielded
