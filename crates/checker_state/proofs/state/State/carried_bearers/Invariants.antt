use Rattle.std.proofs.Common.{◌≡◌, fold, take}
use Rattle.claims.specs.Carrying.{on_item}
use Rattle.checker_state.proofs.state.State.carried_bearers.Given as goal

abbrev pub invariant-loop-item : goal.invariant-loop-item
invariant-loop-item l = l.bearers.items ≡ fold (on_item l.self l.g) l.self.bearers (take l.item-index l.items)
