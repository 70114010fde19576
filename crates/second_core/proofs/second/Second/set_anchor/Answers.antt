use Rattle.std.proofs.Common.{refl}
use Rattle.second_core.proofs.second.Second.set_anchor.Goals as goal

pub returns-in_ok-insert-in-Some : goal.returns-in_ok-insert-in-Some
returns-in_ok-insert-in-Some c = rw (← c.self.view_is, c.in_ok-insert-in-Some.ensures.entries, c.in-Some.is) refl

pub returns-in-None : goal.returns-in-None
returns-in-None c = rw (← c.self.view_is, c.remove.ensures.entries, c.in-None.is) refl
