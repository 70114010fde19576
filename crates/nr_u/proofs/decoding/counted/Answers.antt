use Rattle.std.proofs.Common.{arith}
use Rattle.nr_u.proofs.Status.{status_frame}
use Rattle.nr_u.proofs.decoding.counted.Goals as goal

pub returns-clause-frame : goal.returns-clause-frame
returns-clause-frame c =
    let lost = c.in_ok-lost.ensures.found in
    let front = c.split_at.ensures in
    let back = c.split_at-2.ensures in
    status_frame c.args.first c.args.count _ c.args.rest.now _ _ _ _ _ _ c.requires (omega arith) c.highest_len-start.ensures front.front_len front.front front.back back.front_len back.front back.back c.in_ok-highest.ensures.found lost.0 lost.1 c.if-padding-gt3.false
