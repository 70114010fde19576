use Rattle.std.proofs.Common.{◌∙◌, ap, drop, refl}
use Rattle.transcript_text.specs.Grammar.{parts}
use Rattle.transcript_text.specs.Places.{Left, has_any}
use Rattle.transcript_text.proofs.EventFields.{has_a_part, any_left}
use Rattle.transcript_text.proofs.field_reader.FieldReader.has_more.Goals as goal

pub returns : goal.returns
returns c =
    let rest = drop c.self.inside.at c.self.inside.text.now in
    any_left _ (parts c.self.inside.separator rest) (has_a_part c.self.inside.separator rest (parts c.self.inside.separator rest) refl)
    ∙ ap (λ (l : Left). has_any l.fields) c.self.view_is
