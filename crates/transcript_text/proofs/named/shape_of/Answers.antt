use Rattle.std.proofs.Common.{refl, Bool}
use Rattle.dc_base.specs.declared.nodes.LegSet.{LegSet}
use Rattle.dc_base.specs.declared.nodes.Shape.{Shape}
use Rattle.transcript.specs.Words.{shape_word}
use Rattle.dc_base.specs.Nodes.{is_shape}
use Rattle.script_text.proofs.Tables.{found_spells}
use Rattle.transcript_text.proofs.named.shape_of.Goals as goal

abbrev made : Bool × LegSet × Bool → Shape
made row = record { at_second = row.0; legs = row.1; dup = row.2 }

pub returns-in-Some-clause-some : goal.returns-in-Some-clause-some
returns-in-Some-clause-some c =
    found_spells (λ row. shape_word (made row)) (λ row. is_shape (made row)) _ c.args.field.now _ c.in-Some.ensures refl
