use Rattle.std.proofs.Common.{◌≡◌, ◌<◌, ◌%◌, length, ap, arith}
use Rattle.pdcp_rx.proofs.Marks.{MarksAre-put}
use Rattle.pdcp_rx.proofs.ring.Ring.place.Goals as goal

pub invariant_of-self : goal.invariant_of-self
invariant_of-self c =
    let n = c.len.result in
    let same = ap length c.self.view_is in
    let len : length c.self.inside.slots.items ≡ n = omega arith in
    let within : c.args.count % n < length c.self.inside.slots.items = let some' : 0 < n = omega arith in omega arith in
    rw c.mark.ensures (MarksAre-put c.self.inside.marks.items c.self.inside.slots.items (c.args.count % n) c.args.sdu within c.self.invariant)
