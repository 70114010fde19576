use Rattle.std.proofs.Common.{◌≡◌, drop, length}
use Rattle.claims.specs.Sameness.{are_same_items}
use Rattle.checker_state.proofs.planned.are_same_items.Given as goal

abbrev pub invariant-loop-place : goal.invariant-loop-place
invariant-loop-place l = (length l.one ≡ length l.other) × (are_same_items l.one l.other ≡ are_same_items (drop l.place l.one) (drop l.place l.other))
