use Rattle.checker.proofs.Deciding.{new_parts}
use Rattle.checker.proofs.checker.Checker.new.Goals as goal

pub returns : goal.returns
returns c = λ policies. new_parts _ _ c.args.header.now policies c.in_ok-new.ensures c.in_ok-new-2.ensures
