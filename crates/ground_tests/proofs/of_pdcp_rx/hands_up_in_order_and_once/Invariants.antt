use Rattle.std.proofs.Common.{◌≡◌}
use Rattle.dc_base.specs.declared.numbers.SnLen.TheVariants.{S12}
use Rattle.ground_tests.proofs.of_pdcp_rx.hands_up_in_order_and_once.Given as goal

abbrev pub invariant-loop-count : goal.invariant-loop-count
invariant-loop-count g l = l.rx.n ≡ S12
