use Rattle.gtpu.proofs.decoding.packet.Goals as goal

pub returns : goal.returns
returns c = record { first = c.in_ok-first.first; after = _; header = c.in_ok-first.ensures.0; parts = c.in_ok-known.ensures }
