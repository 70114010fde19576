use Rattle.master_core.proofs.steps.anchor_does.Goals as goal

pub returns-in-Take : goal.returns-in-Take
returns-in-Take g c = rw c.in-Take.is c.anchor_takes.ensures
