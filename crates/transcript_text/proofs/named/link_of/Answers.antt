use Rattle.std.proofs.Common.{refl}
use Rattle.dc_base.specs.declared.nodes.Node.{Node}
use Rattle.dc_base.specs.declared.nodes.Class.{Class}
use Rattle.dc_base.specs.declared.nodes.LinkId.{LinkId}
use Rattle.transcript.specs.Words.{link_word}
use Rattle.dc_base.specs.Links.{is_link}
use Rattle.script_text.proofs.Tables.{found_spells}
use Rattle.transcript_text.proofs.named.link_of.Goals as goal

abbrev made : Node × Node × Class → LinkId
made row = record { from = row.0; to = row.1; class = row.2 }

pub returns-in-Some-clause-some : goal.returns-in-Some-clause-some
returns-in-Some-clause-some c =
    found_spells (λ row. link_word (made row)) (λ row. is_link (made row)) _ c.args.field.now _ c.in-Some.ensures refl
