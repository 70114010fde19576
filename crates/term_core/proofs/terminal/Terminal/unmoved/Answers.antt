use Rattle.std.proofs.Common.{subst}
use Rattle.std.specs.List.Sorted.{IsStrictlySortedBy}
use Rattle.std.specs.Map.{keys_of}
use Rattle.std.specs.Ordering.{nat_cmp}
use Rattle.node_rules.specs.Terminal.{TerminalNode}
use Rattle.term_core.proofs.Halves.{with_half-same}
use Rattle.term_core.proofs.terminal.Terminal.unmoved.Goals as goal

pub returns-clause-same : goal.returns-clause-same
returns-clause-same c id h there =
    let Sorted : TerminalNode → Type 0 = λ t. IsStrictlySortedBy nat_cmp (keys_of t.halves) in
    with_half-same c.args.self.now id h (subst Sorted c.self.view_is c.len-bearers.ensures.ordered) there
