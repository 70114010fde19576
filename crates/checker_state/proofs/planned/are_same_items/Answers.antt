use Rattle.std.proofs.Common.{arith}
use Rattle.checker_state.proofs.SameItems.{other_length}
use Rattle.checker_state.proofs.planned.are_same_items.Goals as goal

pub returns-then-one-other : goal.returns-then-one-other
returns-then-one-other c = other_length c.args.one.now c.args.other.now (λ same. omega arith)
