use Rattle.std.proofs.Common.{◌≡◌, ◌++◌, leb}
use Rattle.std.specs.Prelude.{filter, take_while}
use Rattle.nr_u.specs.Tunnel.Waiting.{lies_in}
use Rattle.nr_u.proofs.tunnel.confirming.add_between.Given as goal

abbrev pub invariant-loop-number : goal.invariant-loop-number
invariant-loop-number l =
    l.found.items ++ take_while (λ e. leb e.1 l.highest) l.number-iterator
    ≡ l.fn.found.items ++ take_while (λ e. leb e.1 l.highest) (filter (lies_in l.from l.end) l.waiting.entries)
