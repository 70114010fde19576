use Rattle.std.proofs.Common.{◌≡◌, refl, true, Some}
use Rattle.std.specs.Prelude.{IsTrue}
use Rattle.transcript_text.specs.Words.{carried_word}
use Rattle.script_text.proofs.Tables.{found_spells}
use Rattle.transcript_text.proofs.words.CarriedKeyword.of.Goals as goal

pub returns-in-Some-clause-some : goal.returns-in-Some-clause-some
returns-in-Some-clause-some c =
    let found : IsTrue true × (c.args.field.now ≡ carried_word c.in-Some.carried) =
    found_spells carried_word (λ t. true) _ c.args.field.now (Some c.in-Some.carried) c.in-Some.ensures refl in
    found.1
