use Rattle.std.proofs.Common.{◌≡◌, ◌++◌, take}
use Rattle.std.specs.Prelude.{map}
use Rattle.nr_u.proofs.tunnel.entries.add_counts.Given as goal

abbrev pub invariant-loop-entry : goal.invariant-loop-entry
invariant-loop-entry l = l.counts.items ≡ l.fn.counts.items ++ map (λ e. e.1) (take l.entry-index l.entries)
