use Rattle.anchor.proofs.forwarding.ForwardingTunnel.forward_fresh.Goals as goal

pub invariant_of-self : goal.invariant_of-self
invariant_of-self c = cc (c.piece.ensures.teid, c.piece.ensures.g, c.piece.ensures.id, c.self.invariant)
