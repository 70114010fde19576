use Rattle.std.proofs.Common.{◌≡◌, refl, true, List, ℕ, Option, Some, None}
use Rattle.std.specs.Prelude.{IfSome, IsTrue}
use Rattle.dc_base.specs.declared.answers.Word.{Word}
use Rattle.transcript.specs.Words.{cause_word}
use Rattle.script_text.proofs.Tables.{found_spells}
use Rattle.transcript_text.proofs.named.WordSpelled.of.Goals as goal

any : (o : Option Word) (f : List ℕ) → IfSome o (λ t. IsTrue true × (f ≡ cause_word t)) → IfSome o (λ t. Unit {0} × (f ≡ cause_word t))
any (Some t) f h = (tt, h.1)
any None f h = tt

pub returns-clause-some : goal.returns-clause-some
returns-clause-some c =
    any c.lookup.result c.args.field.now (found_spells cause_word (λ t. true) _ c.args.field.now c.lookup.result c.lookup.ensures refl)
