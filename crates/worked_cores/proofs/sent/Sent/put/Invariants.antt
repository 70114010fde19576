use Rattle.std.proofs.Common.{◌≡◌, ◌++◌}
use Rattle.transcript.specs.Transcript.{sends}
use Rattle.worked_cores.proofs.sent.Sent.put.Given as goal

abbrev pub invariant-loop-line : goal.invariant-loop-line
invariant-loop-line l = l.self-inside.flights.items ≡ l.initial.self-inside.flights.items ++ sends l.yielded
