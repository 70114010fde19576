use Rattle.std.proofs.Common.{drop}
use Rattle.nr_u.proofs.Confirming.{Walk}
use Rattle.nr_u.proofs.tunnel.confirming.confirmed_between.Given as goal

abbrev pub invariant-loop-range : goal.invariant-loop-range
invariant-loop-range l = Walk l.highest l.from l.lost (drop l.range-index l.lost) l.found.items l.waiting.entries
