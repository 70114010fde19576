use Rattle.node_rules.specs.Choices.{by_policies}
use Rattle.split_leg.specs.Stored.{margins}
use Rattle.made_runs.proofs.Turns.{HasRunLines}
use Rattle.made_runs.proofs.running.MadeRun.lines.Given as goal

abbrev pub invariant-loop-line : goal.invariant-loop-line
invariant-loop-line g l = HasRunLines (by_policies (margins l.fn.policies)) l.initial.self l.lines l.line-index l.self
