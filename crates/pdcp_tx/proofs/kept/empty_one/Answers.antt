use Rattle.std.proofs.Common.{◌<◌, ◌^◌, sym, arith}
use Rattle.pdcp_tx.proofs.Emptied.{emptied-live, emptied-slots}
use Rattle.pdcp_tx.proofs.Slots.{without-not_kept}
use Rattle.pdcp_tx.proofs.kept.empty_one.Goals as goal

pub returns-then-is_there-clause-live : goal.returns-then-is_there-clause-live
returns-then-is_there-clause-live c =
    let there = rw c.if-is_there.true at c.is_there.ensures.there in
    let fits : c.args.next < 2 ^ 32 = omega arith in
    rw c.empty.ensures (emptied-live c.args.next c.args.count c.args.kept.now.items c.place_of-place.result there.0 c.requires fits (record { inside = there.1; at = there.2; same = there.3; live = there.4 }))

pub returns-then-is_there-clause-slots : goal.returns-then-is_there-clause-slots
returns-then-is_there-clause-slots c =
    let there = rw c.if-is_there.true at c.is_there.ensures.there in
    let fits : c.args.next < 2 ^ 32 = omega arith in
    rw c.empty.ensures (emptied-slots c.args.next c.args.count c.args.kept.now.items c.place_of-place.result there.0 c.requires fits (record { inside = there.1; at = there.2; same = there.3; live = there.4 }))

pub returns-else-is_there-clause-live : goal.returns-else-is_there-clause-live
returns-else-is_there-clause-live c = sym (without-not_kept c.args.count _ (rw c.if-is_there.false at c.is_there.ensures.other))
