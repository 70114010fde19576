use Rattle.std.proofs.Common.{arith}
use Rattle.transcript.specs.Text.{pair_text}
use Rattle.script_text.proofs.Pieces.{joined_done}
use Rattle.script_text.proofs.flights.write_failed.Goals as goal

pub returns : goal.returns
returns c =
    rw (c.as_slice-pair-items.ensures) at (joined_done pair_text 32 c.args.out.now _ _ _ c.as_slice-pair-items.result.now c.loop-pair.pair-index c.in_ok-write_text.ensures (omega arith) c.loop-pair.invariant)
