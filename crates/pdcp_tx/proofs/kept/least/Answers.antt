use Rattle.std.proofs.Common.{◌<◌, length, rules}
use Rattle.pdcp_tx.proofs.Slots.{least-front}
use Rattle.pdcp_tx.proofs.kept.least.Goals as goal

pub returns-in-Some : goal.returns-in-Some
returns-in-Some c =
    let some : 0 < length c.args.kept.now.items = search rules in
    least-front c.args.next c.args.kept.now.items c.in-Some.field-0.now c.requires.slots c.requires.begins some c.in-Some.ensures.lookup
