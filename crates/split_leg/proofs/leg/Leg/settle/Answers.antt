use Rattle.std.specs.BTreeMap.{get}
use Rattle.std.specs.BTreeSet.{contains}
use Rattle.std.specs.Ordering.{nat_cmp}
use Rattle.split_leg.proofs.Outstanding.{indexed_settled}
use Rattle.split_leg.proofs.leg.Leg.settle.Goals as goal

pub invariant_of-self : goal.invariant_of-self
invariant_of-self c =
    indexed_settled c.args.first c.args.end c.self.inside.pdus.items c.settle_open.new.pdus.items c.self.inside.outstanding c.settle_open.result (λ q. get nat_cmp c.self.inside.firsts q)
    (λ k. contains nat_cmp c.self.inside.open_keys k) (λ k. contains nat_cmp c.settle_open.new.open_keys k) c.self.invariant c.settle_open.ensures.after c.settle_open.ensures.octets c.settle_open.ensures.keys
