use Rattle.std.proofs.Common.{◌≡◌, ◌<◌, ◌^◌, ℕ, get_or, arith}
use Rattle.std.specs.BTreeSet.{contains}
use Rattle.std.specs.Ordering.{nat_cmp}
use Rattle.split_leg.proofs.Outstanding.{fewer_open, settling_all, settling_more}
use Rattle.split_leg.proofs.leg.settle_open.Goals as goal

pub loop-num-smaller : goal.loop-num-smaller
loop-num-smaller c =
    let found = c.in-Some.ensures.found in
    rw c.settle-octets.ensures.after
    (fewer_open c.args.first c.args.end found.0 c.in-Some.num c.args.pdus.now.items c.loop-num.pdus.items c.loop-num.octets (λ k. contains nat_cmp c.loop-num.open_keys k)
    c.index_mut-pdu.result.now c.loop-num.invariant (omega arith) found.1 found.2 found.3 c.index_mut-pdu.ensures.value)

pub loop-num-preserved : goal.loop-num-preserved
loop-num-preserved c =
    let found = c.in-Some.ensures.found in
    let counted = rw c.settle-octets.ensures.after at c.settle-octets.ensures.octets in
    rw c.settle-octets.ensures.after
    (settling_more c.args.first c.args.end found.0 c.in-Some.num c.args.pdus.now.items c.loop-num.pdus.items c.loop-num.octets c.settle-octets.result (λ k. contains nat_cmp c.loop-num.open_keys k)
    (λ k. contains nat_cmp c.forget_open.new.open_keys k) c.index_mut-pdu.result.now c.loop-num.invariant (omega arith) found.1 found.2 found.3 c.index_mut-pdu.ensures.value counted c.forget_open.ensures)

pub overflow_add-octets : goal.overflow_add-octets
overflow_add-octets c =
    let more = loop-num-preserved c in
    let rest = more.rest in
    let fits = c.requires.fits in
    omega (arith, rest, fits)

pub returns-clause-after : goal.returns-clause-after
returns-clause-after c =
    settling_all c.args.first c.args.end c.args.pdus.now.items c.loop-num.pdus.items c.loop-num.octets (λ k. contains nat_cmp c.loop-num.open_keys k) c.loop-num.invariant c.requires.fewer c.in_default.ensures.none
