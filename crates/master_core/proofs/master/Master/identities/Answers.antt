use Rattle.std.proofs.Common.{sym, ◌∙◌}
use Rattle.std.proofs.lemmas.List.{append-nil}
use Rattle.master_core.proofs.master.Master.identities.Goals as goal

pub returns : goal.returns
returns c = sym (append-nil c.loop-id.ids) ∙ (rw c.in-None.ensures.steps.0 at c.loop-id.invariant)
