use Rattle.pdcp_entity.proofs.entity.PdcpEntity.adopt.Goals as goal

pub invariant_of-result : goal.invariant_of-result
invariant_of-result c = rw (c.adopt.ensures, c.in_ok-adopt.ensures) (c.requires.tx_length, c.requires.rx_length, c.requires.kept, c.requires.held)
