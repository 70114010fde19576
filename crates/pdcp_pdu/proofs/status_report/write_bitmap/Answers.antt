use Rattle.std.proofs.Common.{ℕ, ◌≡◌, ◌+◌, ◌-◌, length, get_or, arith, sym, ap, ◌∙◌}
use Rattle.pdcp_pdu.proofs.Ascending.{ascending, get_or-above}
use Rattle.pdcp_pdu.proofs.Bitmaps.{bitmap-none, mark_more, past_more, mark_fits}
use Rattle.pdcp_pdu.proofs.status_report.write_bitmap.Goals as goal
use Rattle.pdcp_pdu.proofs.status_report.write_bitmap.Goals.{then-bit-len, else-bit-len}

pub loop-count-init : goal.loop-count-init
loop-count-init c = c.requires.zero ∙ sym (bitmap-none (c.args.fmc + 1) (length c.args.bits.now))

pub mark-requires-clause-room : goal.mark-requires-clause-room
mark-requires-clause-room c =
    let xs = c.args.received.now in
    let i = c.loop-count.count-index in
    let up = ascending c.args.fmc xs c.requires.ascending c.requires.above in
    let above = get_or-above c.args.fmc xs i up c.loop-count-test.true in
    rw c.loop-count.invariant (mark_fits c.args.fmc (length c.args.bits.now) xs i (get_or xs i 0 - c.args.fmc - 1) up c.loop-count-test.true (omega arith) c.if-bit-len.true)

pub loop-count-preserved : goal.loop-count-preserved
loop-count-preserved c =
    let xs = c.args.received.now in
    let i = c.loop-count.count-index in
    let up = ascending c.args.fmc xs c.requires.ascending c.requires.above in
    let above = get_or-above c.args.fmc xs i up c.loop-count-test.true in
    let p : ℕ = get_or xs i 0 - c.args.fmc - 1 in
    elim c.if-bit-len.branch [
      | then-bit-len w ↦
          let marked = w.mark.ensures in
          w.bits-is ∙ rw c.loop-count.invariant at marked ∙ mark_more c.args.fmc (length c.args.bits.now) xs i p up c.loop-count-test.true (omega arith) w.if-bit-len.true
      | else-bit-len w ↦
          w.bits-is ∙ c.loop-count.invariant ∙ past_more c.args.fmc (length c.args.bits.now) xs i p up c.loop-count-test.true (omega arith) w.if-bit-len.false
    ]
