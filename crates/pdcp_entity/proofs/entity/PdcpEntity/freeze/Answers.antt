use Rattle.pdcp_entity.proofs.entity.PdcpEntity.freeze.Goals as goal

pub returns-clause-payloads : goal.returns-clause-payloads
returns-clause-payloads c = rw c.freeze.ensures.parts (c.self.invariant.2, c.self.invariant.3)
