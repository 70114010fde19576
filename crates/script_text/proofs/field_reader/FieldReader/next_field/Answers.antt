use Rattle.std.proofs.Common.{◌≡◌, ◌-◌, List, length, take, drop, ap, sym, ◌∙◌, arith}
use Rattle.std.proofs.lemmas.List.{length-drop, take_all}
use Rattle.script_text.specs.Places.{Left}
use Rattle.script_text.proofs.Cuts.{first_field}
use Rattle.script_text.proofs.field_reader.FieldReader.next_field.Goals as goal

pub returns-clause-found : goal.returns-clause-found
returns-clause-found c =
    let line = c.self.inside.line.now in
    let at = c.self.inside.at in
    let len = length-drop at line in
    let whole : take (length line - at) (drop at line) ≡ drop at line = take_all (length line - at) (drop at line) (omega (arith, len)) in
    ap (λ (l : Left). l.fields) (sym c.self.view_is)
    ∙ rw whole (first_field line at c.field_length-length.result (omega arith) (rw whole at c.field_length-length.ensures.value))
