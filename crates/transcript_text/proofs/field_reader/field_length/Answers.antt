use Rattle.transcript_text.proofs.Cuts.{first_or_end}
use Rattle.transcript_text.proofs.field_reader.field_length.Goals as goal

pub returns-in-None-clause-value : goal.returns-in-None-clause-value
returns-in-None-clause-value c = first_or_end c.args.separator c.args.rest.now _ c.in-None.ensures
