use Rattle.std.proofs.Common.{◌≡◌, drop}
use Rattle.node_rules.specs.Acts.{first_refusal}
use Rattle.xn_procs.proofs.refusing.first_refusal.Given as goal

abbrev pub invariant-loop-holds : goal.invariant-loop-holds
invariant-loop-holds l = first_refusal (drop l.holds-index l.rows) ≡ first_refusal l.rows
