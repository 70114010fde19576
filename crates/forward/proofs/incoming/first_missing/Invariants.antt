use Rattle.std.proofs.Common.{◌-◌, ◌^◌}
use Rattle.forward.specs.Kept.{CameBelow}
use Rattle.forward.proofs.incoming.first_missing.Given as goal

-- all before came
abbrev pub invariant-loop-missing : goal.invariant-loop-missing
invariant-loop-missing l = CameBelow l.sdus.entries l.missing

abbrev pub decreases-loop-missing : goal.decreases-loop-missing
decreases-loop-missing l = 2 ^ 24 - l.missing
