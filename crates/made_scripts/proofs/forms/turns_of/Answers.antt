use Rattle.made_scripts.proofs.Words.{no_turn}
use Rattle.made_scripts.proofs.forms.turns_of.Goals as goal

pub returns-then-turns-eq0 : goal.returns-then-turns-eq0
returns-then-turns-eq0 c = no_turn _ c.in_ok-turns.turns c.in_ok-turns.ensures.some.0 c.if-turns-eq0.true
