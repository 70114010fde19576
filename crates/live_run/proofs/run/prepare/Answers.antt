use Rattle.outlets.specs.Boxes.{ids}
use Rattle.workers.specs.Working.{around}
use Rattle.live_run.proofs.run.prepare.Goals as goal

pub returns-clause-t : goal.returns-clause-t
returns-clause-t g c = λ choices. c.new.ensures (around (ids c.in_ok-boxes.boxes) choices) c.in_ok-boxes.ensures.readers.t c.in_ok-boxes.ensures.ways.t c.requires.t

pub returns-clause-m : goal.returns-clause-m
returns-clause-m g c = λ choices. c.new-2.ensures (around (ids c.in_ok-boxes.boxes) choices) c.in_ok-boxes.ensures.readers.m c.in_ok-boxes.ensures.ways.m c.requires.m

pub returns-clause-a : goal.returns-clause-a
returns-clause-a g c = λ choices. c.new-3.ensures (around (ids c.in_ok-boxes.boxes) choices) c.in_ok-boxes.ensures.readers.a c.in_ok-boxes.ensures.ways.a c.requires.a

pub returns-clause-b : goal.returns-clause-b
returns-clause-b g c = λ choices. c.new-4.ensures (around (ids c.in_ok-boxes.boxes) choices) c.in_ok-boxes.ensures.readers.b c.in_ok-boxes.ensures.ways.b c.requires.b
