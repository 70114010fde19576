use Rattle.std.proofs.Common.{◌-◌, ◌^◌}
use Rattle.node_rules.specs.Choices.{by_policies}
use Rattle.split_leg.specs.Stored.{margins}
use Rattle.made_runs.proofs.Draining.{IsDraining}
use Rattle.made_runs.proofs.running.MadeRun.drain.Given as goal

abbrev pub invariant-loop-link : goal.invariant-loop-link
invariant-loop-link g l = IsDraining (by_policies (margins l.fn.policies)) l.initial.self l.self

abbrev pub decreases-loop-link : goal.decreases-loop-link
decreases-loop-link g l = 2 ^ 20 - l.self.counting.counts.events
