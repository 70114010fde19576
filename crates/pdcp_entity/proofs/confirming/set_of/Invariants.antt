use Rattle.std.proofs.Common.{◌≡◌, ℕ, take}
use Rattle.std.specs.BTreeSet.{contains as has}
use Rattle.std.specs.Ordering.{nat_cmp}
use Rattle.nr_u.specs.Tunnel.Incoming.{contains}
use Rattle.pdcp_entity.proofs.confirming.set_of.Given as goal

abbrev pub invariant-loop-count : goal.invariant-loop-count
invariant-loop-count l = (c : ℕ) → has nat_cmp l.set c ≡ contains c (take l.count-index l.counts)
