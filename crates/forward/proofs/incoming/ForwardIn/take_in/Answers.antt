use Rattle.std.proofs.lemmas.Result.{on_ok_weaker}
use Rattle.forward.specs.Reading.{said_load}
use Rattle.forward.proofs.incoming.ForwardIn.take_in.Goals as goal

pub returns-clause-ok : goal.returns-clause-ok
returns-clause-ok c = on_ok_weaker c.take.result (λ is. (said_load c.in_ok-load.load, c.in_ok-load.ensures.carries, is)) c.take.ensures.ok
