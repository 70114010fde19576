use Rattle.std.proofs.Common.{◌≡◌, refl, true, List, ℕ, Option, Some, None}
use Rattle.std.specs.Prelude.{IfSome, IsTrue}
use Rattle.transcript_text.specs.declared.words.Consequence.{Consequence}
use Rattle.transcript_text.specs.Words.{consequence_word}
use Rattle.script_text.proofs.Tables.{found_spells}
use Rattle.transcript_text.proofs.words.ConsequenceKeyword.of.Goals as goal

second : (o : Option Consequence) (f : List ℕ) → IfSome o (λ t. IsTrue true × (f ≡ consequence_word t)) → IfSome o (λ t. f ≡ consequence_word t)
second (Some t) f h = h.1
second None f h = tt

pub returns-clause-some : goal.returns-clause-some
returns-clause-some c =
    second c.lookup.result c.args.field.now (found_spells consequence_word (λ t. true) _ c.args.field.now c.lookup.result c.lookup.ensures refl)
