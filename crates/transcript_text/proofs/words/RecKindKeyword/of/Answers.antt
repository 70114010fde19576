use Rattle.std.proofs.Common.{◌≡◌, refl, true, List, ℕ, Option, Some, None}
use Rattle.std.specs.Prelude.{IfSome, IsTrue}
use Rattle.dc_base.specs.declared.records.RecKind.{RecKind}
use Rattle.transcript_text.specs.Words.{record_word}
use Rattle.script_text.proofs.Tables.{found_spells}
use Rattle.transcript_text.proofs.words.RecKindKeyword.of.Goals as goal

second : (o : Option RecKind) (f : List ℕ) → IfSome o (λ t. IsTrue true × (f ≡ record_word t)) → IfSome o (λ t. f ≡ record_word t)
second (Some t) f h = h.1
second None f h = tt

pub returns-clause-some : goal.returns-clause-some
returns-clause-some c =
    second c.lookup.result c.args.field.now (found_spells record_word (λ t. true) _ c.args.field.now c.lookup.result c.lookup.ensures refl)
