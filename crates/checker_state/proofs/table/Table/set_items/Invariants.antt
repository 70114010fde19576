use Rattle.std.proofs.Common.{◌≡◌, fold, take}
use Rattle.claims.specs.Carrying.{with_item}
use Rattle.checker_state.proofs.table.Table.set_items.Given as goal

abbrev pub invariant-loop-item : goal.invariant-loop-item
invariant-loop-item l = l.self ≡ fold (with_item l.g) l.fn.self (take l.item-index l.items)
