use Rattle.std.proofs.Common.{◌-◌, length, sym, ◌∙◌, arith, le-ltb}
use Rattle.pdcp_rx.proofs.Rings.{stored_slot, stored_past}
use Rattle.pdcp_rx.proofs.ring.is_held.Goals as goal

pub returns-then-count-deliv : goal.returns-then-count-deliv
returns-then-count-deliv c =
    let s = c.args.ring.now in
    c.is_taken.ensures ∙ sym (stored_slot s c.args.deliv c.args.count (length s) c.requires (omega arith))

pub returns-else-count-deliv : goal.returns-else-count-deliv
returns-else-count-deliv c =
    let s = c.args.ring.now in
    le-ltb (c.args.count - c.args.deliv) c.len.result c.if-count-deliv.false ∙ sym (stored_past s c.args.deliv c.args.count (length s) (omega arith))
