use Rattle.node_rules.specs.Choices.{by_policies}
use Rattle.split_leg.specs.Stored.{margins}
use Rattle.made_runs.proofs.Turns.{HasTurned}
use Rattle.made_runs.proofs.turning.run_turns.Given as goal

abbrev pub invariant-loop-number : goal.invariant-loop-number
invariant-loop-number g l =
    HasTurned (by_policies (margins l.fn.policies)) l.fn.run l.fn.seed l.fn.turns l.number l.draws l.run l.fn.text l.text
