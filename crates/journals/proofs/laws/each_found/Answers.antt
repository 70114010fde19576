use Rattle.journals.proofs.Finding.{all_found}
use Rattle.journals.proofs.laws.each_found.Goals as goal

pub returns : goal.returns
returns c = all_found
