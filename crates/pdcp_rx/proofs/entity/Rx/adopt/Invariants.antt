use Rattle.std.proofs.Common.{◌≡◌, ◌++◌}
use Rattle.std.specs.Vec.Iter.{into_iter_items}
use Rattle.pdcp_rx.specs.Entries.{past_greatest}
use Rattle.pdcp_rx.specs.Ring.{ring_from}
use Rattle.pdcp_rx.proofs.entity.Rx.adopt.Given as goal

abbrev pub invariant-loop-count : goal.invariant-loop-count
invariant-loop-count l = record {
  stored : ring_from l.ring l.parts.deliv ++ into_iter_items l.count-iterator ≡ l.parts.stored;
  next : l.next ≡ past_greatest l.parts.deliv (ring_from l.ring l.parts.deliv);
}
