-- What was written, with the text of the fields that are left, is the whole text.
use Rattle.std.proofs.Common.{◌≡◌, ◌++◌, ◌∷◌, drop}
use Rattle.std.specs.List.{flat_map}
use Rattle.script_text.specs.Fields.{field_text}
use Rattle.script_text.proofs.fields.write_joined.Given as goal

abbrev pub invariant-loop-field : goal.invariant-loop-field
invariant-loop-field l =
    l.out ++ flat_map (λ f. l.separator ∷ field_text f) (drop l.field-index l.rest)
    ≡ l.initial.out ++ flat_map (λ f. l.separator ∷ field_text f) l.rest
