use Rattle.std.proofs.Common.{◌≡◌, fold, take}
use Rattle.claims.specs.Taking.{drop_taken}
use Rattle.checker_state.proofs.lists.drop_all.Given as goal

abbrev pub invariant-loop-item : goal.invariant-loop-item
invariant-loop-item l = l.bearers.items ≡ fold (drop_taken l.node l.g) l.fn.bearers.items (take l.item-index l.items)
