use Rattle.std.proofs.Common.{◌≤◌, ap, sym, ◌∙◌, arith}
use Rattle.std.specs.Prelude.{is_some}
use Rattle.forward.proofs.Numbers.{front-more}
use Rattle.forward.proofs.incoming.in_order.Goals as goal

pub take_out-sdu-requires : goal.take_out-sdu-requires
take_out-sdu-requires c =
    let here : c.loop-number.number ≤ c.loop-number.number = omega arith in
    ap is_some (c.loop-number.invariant.rest c.loop-number.number here) ∙ c.requires c.loop-number.number (omega arith)

pub loop-number-preserved : goal.loop-number-preserved
loop-number-preserved c =
    let here : c.loop-number.number ≤ c.loop-number.number = omega arith in
    record {
      front = front-more _ _ _ _ _ c.loop-number.invariant.front (sym (c.loop-number.invariant.rest c.loop-number.number here) ∙ c.take_out-sdu.ensures.value) c.in_ok-push.ensures.ok;
      rest = λ q later. c.take_out-sdu.ensures.others q (omega arith) ∙ c.loop-number.invariant.rest q (omega arith);
    }
