use Rattle.std.proofs.Common.{arith}
use Rattle.std.proofs.lemmas.Grind.{common_steps}
use Rattle.std.proofs.lemmas.List.Folds.{list_any-append}
use Rattle.pdcp_entity.proofs.confirming.set_of.Goals as goal

pub loop-count-preserved : goal.loop-count-preserved
loop-count-preserved c = λ n. grind (arith, common_steps, list_any-append, c.loop-count.invariant n)
