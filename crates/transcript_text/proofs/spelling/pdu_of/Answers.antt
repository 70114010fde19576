use Rattle.std.proofs.Common.{ap, ◌∙◌}
use Rattle.pdcp_pdu.specs.DataPdu.{is_data}
use Rattle.transcript_text.proofs.Digits.{other_pdu}
use Rattle.transcript_text.proofs.spelling.pdu_of.Goals as goal

pub returns-else-is_data-data_wanted-clause-none : goal.returns-else-is_data-data_wanted-clause-none
returns-else-is_data-data_wanted-clause-none c =
    let some = rw c.in-Some.is at c.in_ok-pdu.ensures.some in
    other_pdu c.args.field.now c.in-Some.pdu c.is_data-is_data.result c.args.data_wanted (some.1, some.2) some.0
    (c.is_data-is_data.ensures ∙ ap is_data c.as_slice.ensures) c.if-is_data-data_wanted.false
