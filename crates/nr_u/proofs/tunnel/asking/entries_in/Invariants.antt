use Rattle.std.proofs.Common.{◌≡◌, ◌++◌, [], ◌∷◌}
use Rattle.std.specs.Prelude.{filter}
use Rattle.nr_u.specs.Tunnel.Outgoing.{is_listed}
use Rattle.nr_u.proofs.tunnel.asking.entries_in.Given as goal

abbrev pub invariant-loop-number : goal.invariant-loop-number
invariant-loop-number l = l.found.items ++ l.number-iterator ≡ filter (λ e. is_listed (l.fn.range ∷ []) e.0) l.askable.entries
