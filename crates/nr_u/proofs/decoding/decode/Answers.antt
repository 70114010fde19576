use Rattle.nr_u.proofs.Grammar.{reads_frame}
use Rattle.nr_u.proofs.decoding.decode.Goals as goal

pub returns-clause-only : goal.returns-clause-only
returns-clause-only c = λ f is. reads_frame c.args.input.now c.read.result f c.read.ensures.frame c.read.ensures.fault is
