use Rattle.std.proofs.Common.{◌≡◌}
use Rattle.journal_runs.specs.Scripts.{script}
use Rattle.merging.proofs.script.Given as goal

abbrev pub invariant-loop-tagged : goal.invariant-loop-tagged
invariant-loop-tagged l = l.events ≡ script l.yielded
