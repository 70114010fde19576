use Rattle.std.proofs.Common.{arith, sym, ◌∙◌}
use Rattle.workers.proofs.Turns.{no_line, not_ready}
use Rattle.workers.proofs.worker.Worker.is_due.Goals as goal

pub returns-in-None-clause-waits : goal.returns-in-None-clause-waits
returns-in-None-clause-waits g c = λ is. no_line _ c.args.self.now.lines.items (λ less. let none = c.in-None.ensures.item.3 in omega arith)

pub returns-in-Some-clause-waits : goal.returns-in-Some-clause-waits
returns-in-Some-clause-waits g c = λ is. not_ready _ _ _ c.in-Some.ensures.lookup (sym c.is_ready.ensures ∙ is)
