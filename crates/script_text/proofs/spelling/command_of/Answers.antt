use Rattle.std.proofs.Common.{◌≡◌, refl, true, List, ℕ, Option, Some, None}
use Rattle.std.specs.Prelude.{IfSome, IsTrue}
use Rattle.script_text.specs.Grammar.{command_word}
use Rattle.script_text.specs.declared.spelling.Command.{Command}
use Rattle.script_text.proofs.Tables.{found_spells}
use Rattle.script_text.proofs.spelling.command_of.Goals as goal

second : (o : Option Command) (f : List ℕ) → IfSome o (λ t. IsTrue true × (f ≡ command_word t)) → IfSome o (λ t. f ≡ command_word t)
second (Some t) f h = h.1
second None f h = tt

pub returns-clause-some : goal.returns-clause-some
returns-clause-some c =
    second c.lookup.result c.args.field.now (found_spells command_word (λ t. true) _ c.args.field.now c.lookup.result c.lookup.ensures refl)
