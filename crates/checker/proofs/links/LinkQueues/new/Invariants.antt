use Rattle.std.proofs.Common.{ℕ, ◌≡◌, [], length, slice_index_or}
use Rattle.checker.proofs.links.LinkQueues.new.Given as goal

abbrev pub invariant-loop-place : goal.invariant-loop-place
invariant-loop-place l = (length l.queues.items ≡ l._place) × ((n : ℕ) → slice_index_or l.queues.items n [] ≡ [])
