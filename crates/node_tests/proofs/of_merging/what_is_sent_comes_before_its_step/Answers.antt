use Rattle.node_tests.proofs.Worked.{legal}
use Rattle.node_tests.proofs.of_merging.what_is_sent_comes_before_its_step.Goals as goal

pub merge-all-requires : goal.merge-all-requires
merge-all-requires g c = legal _ _ _ _ _ _ _ _ _ _ c.in_ok-lines.ensures c.new-none.ensures c.in_ok-t.ensures c.in_ok-m.ensures c.new-2.ensures c.new-3.ensures
