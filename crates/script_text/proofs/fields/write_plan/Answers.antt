use Rattle.std.proofs.Common.{arith}
use Rattle.transcript.specs.Text.{item_text}
use Rattle.script_text.proofs.Pieces.{joined_two_done}
use Rattle.script_text.proofs.fields.write_plan.Goals as goal

pub returns : goal.returns
returns c =
    rw (c.as_slice-item-items.ensures) at (joined_two_done item_text 32 c.args.out.now _ _ _ _ c.as_slice-item-items.result.now c.loop-item.item-index c.in_ok-write_spaced.ensures (omega arith) c.loop-item.invariant)
