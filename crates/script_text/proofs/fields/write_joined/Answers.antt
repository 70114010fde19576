use Rattle.std.proofs.Common.{rules, arith, ◌≡◌, ◌∷◌}
use Rattle.script_text.specs.Fields.{field_text}
use Rattle.script_text.proofs.Pieces.{joined_done}
use Rattle.script_text.proofs.fields.write_joined.Goals as goal

pub returns-after-loop-field : goal.returns-after-loop-field
returns-after-loop-field c =
    let parts : c.args.fields.now ≡ c.in-Some.first.now ∷ c.in-Some.rest.now = search rules in
    rw parts (joined_done field_text _ _ _ _ _ c.in-Some.rest.now c.loop-field.field-index c.in_ok-write_field.ensures (omega arith) c.loop-field.invariant)
