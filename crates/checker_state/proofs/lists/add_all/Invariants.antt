use Rattle.std.proofs.Common.{◌≡◌, fold, take}
use Rattle.claims.specs.Carrying.{with_new}
use Rattle.checker_state.proofs.lists.add_all.Given as goal

abbrev pub invariant-loop-item : goal.invariant-loop-item
invariant-loop-item l = l.bearers.items ≡ fold (with_new l.g) l.fn.bearers.items (take l.item-index l.items)
