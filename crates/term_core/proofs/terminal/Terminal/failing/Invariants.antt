use Rattle.std.proofs.Common.{◌≡◌, ◌++◌}
use Rattle.std.specs.List.{flat_map}
use Rattle.node_rules.specs.Terminal.{failing_half}
use Rattle.term_core.proofs.terminal.Terminal.failing.Given as goal

abbrev pub invariant-loop-id : goal.invariant-loop-id
invariant-loop-id l = l.failed ++ flat_map failing_half l.id-iterator ≡ flat_map failing_half l.self.halves
