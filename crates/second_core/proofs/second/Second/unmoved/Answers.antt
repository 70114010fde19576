use Rattle.std.proofs.Common.{subst}
use Rattle.std.specs.List.Sorted.{IsStrictlySortedBy}
use Rattle.std.specs.Map.{keys_of}
use Rattle.std.specs.Ordering.{nat_cmp}
use Rattle.node_rules.specs.Secondary.{SecondNode}
use Rattle.second_core.proofs.Maps.{frozen-same}
use Rattle.second_core.proofs.second.Second.unmoved.Goals as goal

pub returns-clause-same : goal.returns-clause-same
returns-clause-same c id f there =
    let Sorted : SecondNode → Type 0 = λ s. IsStrictlySortedBy nat_cmp (keys_of s.frozen) in
    frozen-same c.args.self.now id f (subst Sorted c.self.view_is c.len-frozen.ensures.ordered) there
