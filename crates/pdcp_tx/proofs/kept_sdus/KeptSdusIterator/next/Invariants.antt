use Rattle.std.proofs.Common.{◌≡◌, ◌-◌, drop, length}
use Rattle.pdcp_tx.specs.Slots.{live}
use Rattle.pdcp_tx.proofs.kept_sdus.KeptSdusIterator.next.Given as goal

-- only empty slots were passed over
abbrev pub invariant-loop-mark : goal.invariant-loop-mark
invariant-loop-mark l = live l.self-inside.next (drop l.self-inside.place l.self-inside.slots.now.items) ≡ l.fn.self

abbrev pub decreases-loop-mark : goal.decreases-loop-mark
decreases-loop-mark l = length l.self-inside.slots.now.items - l.self-inside.place
