use Rattle.std.proofs.Common.{◌≡◌, ℕ, true, take}
use Rattle.std.specs.Prelude.{fold}
use Rattle.std.specs.Ordering.{nat_cmp}
use Rattle.std.specs.BTreeSet.{insert_key}
use Rattle.nr_u.specs.Tunnel.Incoming.{contains}
use Rattle.nr_u.proofs.tunnel.outbound.add_all.Given as goal

abbrev pub invariant-loop-count : goal.invariant-loop-count
invariant-loop-count l = l.set.keys ≡ fold (insert_key nat_cmp) l.fn.set.keys (take l.count-index l.counts)
