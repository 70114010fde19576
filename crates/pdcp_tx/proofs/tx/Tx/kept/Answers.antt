use Rattle.pdcp_tx.specs.Slots.{live}
use Rattle.pdcp_tx.proofs.Parts.{counts-increasing, counts-below, counts-near}
use Rattle.pdcp_tx.proofs.tx.Tx.kept.Goals as goal

pub returns-clause-ascending : goal.returns-clause-ascending
returns-clause-ascending c = rw (← c.self.view_is) (counts-increasing c.self.inside.n c.self.inside.next (live c.self.inside.next c.self.inside.kept.items) c.self.invariant.window)

pub returns-clause-below : goal.returns-clause-below
returns-clause-below c = rw (← c.self.view_is) (counts-below c.self.inside.n c.self.inside.next (live c.self.inside.next c.self.inside.kept.items) c.self.invariant.window)

pub returns-clause-near : goal.returns-clause-near
returns-clause-near c = rw (← c.self.view_is) (counts-near c.self.inside.n c.self.inside.next (live c.self.inside.next c.self.inside.kept.items) c.self.invariant.window)
