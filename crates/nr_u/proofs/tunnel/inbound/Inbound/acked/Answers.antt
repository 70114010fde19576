use Rattle.nr_u.proofs.KeptLemmas.{state-remove}
use Rattle.nr_u.proofs.tunnel.inbound.Inbound.acked.Goals as goal

pub invariant_of-self : goal.invariant_of-self
invariant_of-self c =
    rw c.remove.ensures.keys (state-remove _ _ _ _ _ c.args.number c.self.invariant)
