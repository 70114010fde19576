use Rattle.journals.proofs.Before.{all_before}
use Rattle.journals.proofs.laws.sent_before.Goals as goal

pub returns : goal.returns
returns c = all_before
