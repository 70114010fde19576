use Rattle.std.proofs.Common.{◌<◌, length, arith}
use Rattle.std.specs.BTreeMap.{get}
use Rattle.std.specs.BTreeSet.{contains}
use Rattle.std.specs.Ordering.{nat_cmp}
use Rattle.split_leg.proofs.Acks.{acked_count_is, with_ack_again, with_ack_is}
use Rattle.split_leg.proofs.Outstanding.{indexed_acked}
use Rattle.split_leg.proofs.leg.Leg.acked.Goals as goal

pub returns-then-pdu-clause-after : goal.returns-then-pdu-clause-after
returns-then-pdu-clause-after c =
    let inside : c.args.num < length c.self.inside.pdus.items = omega (arith, c.len.ensures, c.self.inside.pdus.ok.0) in
    rw (← c.self.view_is) (with_ack_again _ c.args.num c.index.result.now inside c.index.ensures c.if-pdu.true)

pub invariant_of-self : goal.invariant_of-self
invariant_of-self c =
    let inside : c.args.num < length c.self.inside.pdus.items = omega (arith, c.len.ensures, c.self.inside.pdus.ok.0) in
    indexed_acked c.self.inside.pdus.items c.self.inside.outstanding c.open_octets.result (λ q. get nat_cmp c.self.inside.firsts q) (λ k. contains nat_cmp c.self.inside.open_keys k)
    (λ k. contains nat_cmp c.forget_open.new.open_keys k) c.args.num c.index.result.now c.self.invariant inside c.index.ensures c.open_octets.ensures c.forget_open.ensures

pub returns-clause-count : goal.returns-clause-count
returns-clause-count c =
    let inside : c.args.num < length c.self.inside.pdus.items = omega (arith, c.len.ensures, c.self.inside.pdus.ok.0) in
    rw (← c.self.view_is) (acked_count_is c.self.inside.pdus.items c.args.num c.index.result.now inside c.index.ensures c.if-pdu.false)

pub returns-clause-after : goal.returns-clause-after
returns-clause-after c =
    let inside : c.args.num < length c.self.inside.pdus.items = omega (arith, c.len.ensures, c.self.inside.pdus.ok.0) in
    rw (← c.self.view_is) (with_ack_is _ c.args.num c.index.result.now inside c.index.ensures)
