use Rattle.std.proofs.Common.{arith, ◌∙◌}
use Rattle.pdcp_pdu.proofs.Reading.{result_finds, result_bad_at, decoded_again}
use Rattle.pdcp_pdu.proofs.pdu.decode.Goals as goal

pub returns-clause-found : goal.returns-clause-found
returns-clause-found c = result_finds c.args.n c.args.input.now c.read.result (λ i. omega (arith, c.type_inv.input i)) c.read.ensures

pub returns-clause-only : goal.returns-clause-only
returns-clause-only c = λ said pdu. c.read.ensures ∙ decoded_again c.args.n c.args.input.now said pdu

pub returns-clause-bad_report : goal.returns-clause-bad_report
returns-clause-bad_report c = result_bad_at c.args.n c.args.input.now c.read.result c.read.ensures
