use Rattle.journals.proofs.Orders.{merged_merged}
use Rattle.journals.proofs.laws.merged_is.Goals as goal

pub returns : goal.returns
returns c = merged_merged
