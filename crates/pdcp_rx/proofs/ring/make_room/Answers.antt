use Rattle.std.proofs.Common.{Option, None, List, ℕ, length, ap, arith}
use Rattle.std.proofs.lemmas.List.{length-replicate}
use Rattle.pdcp_rx.proofs.ring.make_room.Goals as goal

pub returns-clause-ok : goal.returns-clause-ok
returns-clause-ok c =
    let x : Option (List ℕ) = None in
    omega (arith, c.move_all.ensures.len, ap length c.in_ok-more.ensures, length-replicate c.slots_for.result x, c.slots_for.ensures.reaches)
