use Rattle.std.proofs.Common.{◌≡◌, ◌-◌, length, take, drop, ap, sym, ◌∙◌, arith}
use Rattle.std.proofs.lemmas.List.{length-drop, take_all}
use Rattle.transcript_text.specs.Places.{Left}
use Rattle.transcript_text.proofs.Cuts.{first_field}
use Rattle.transcript_text.proofs.field_reader.FieldReader.next_field.Goals as goal

pub returns-clause-found : goal.returns-clause-found
returns-clause-found c =
    let text = c.self.inside.text.now in
    let at = c.self.inside.at in
    let len = length-drop at text in
    let whole : take (length text - at) (drop at text) ≡ drop at text = take_all (length text - at) (drop at text) (omega (arith, len)) in
    ap (λ (l : Left). l.fields) (sym c.self.view_is)
    ∙ rw whole (first_field c.self.inside.separator text at c.field_length-length.result (omega arith) (rw whole at c.field_length-length.ensures.value))
