use Rattle.std.proofs.Common.{take}
use Rattle.nr_u.proofs.Asking.{AfterRanges}
use Rattle.nr_u.proofs.tunnel.asking.take_asked.Given as goal

abbrev pub invariant-loop-range : goal.invariant-loop-range
invariant-loop-range l = AfterRanges l.low l.confirmed.keys (take l.range-index l.lost) l.fn.unasked.entries l.fn.askable.entries l.unasked.entries l.askable.entries l.again.items
