use Rattle.std.proofs.Common.{refl}
use Rattle.term_core.proofs.terminal.Terminal.begin.Goals as goal

pub returns : goal.returns
returns c = rw (← c.self.view_is, c.in_ok-insert.ensures.entries, c.new.ensures) refl
