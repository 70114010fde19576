use Rattle.std.proofs.Common.{◌≡◌, List, ℕ, arith, Ok}
use Rattle.dc_base.specs.declared.numbers.SnLen.{SnLen}
use Rattle.pdcp_pdu.specs.StatusReport.{NamesReceived, report_pdu, sent_bits, sent_set}
use Rattle.pdcp_pdu.specs.Pdu.{report, decoded}
use Rattle.pdcp_pdu.proofs.Ascending.{ascending}
use Rattle.pdcp_pdu.proofs.Choices.{ok_implies}
use Rattle.pdcp_pdu.proofs.Reports.{report_names, sent_again}
use Rattle.pdcp_pdu.proofs.status_report.encode_report.Goals as goal

pub returns-clause-names : goal.returns-clause-names
returns-clause-names c =
    let xs = c.args.received.now in
    let up = ascending c.args.fmc xs c.requires.ascending c.requires.above in
    ok_implies (λ (o : List ℕ). o ≡ report_pdu c.args.fmc xs) (NamesReceived c.args.fmc (sent_set c.args.fmc xs)) c.spelled.result
    (λ o is. report_names c.args.fmc xs o (omega arith) (rw c.as_slice.ensures at c.spelled.ensures.counts) up is) (rw c.as_slice.ensures at c.spelled.ensures.octets)

pub returns-clause-again : goal.returns-clause-again
returns-clause-again c =
    let xs = c.args.received.now in
    let up = ascending c.args.fmc xs c.requires.ascending c.requires.above in
    ok_implies (λ (o : List ℕ). o ≡ report_pdu c.args.fmc xs) (λ o. (n : SnLen) → decoded n o ≡ Ok (report c.args.fmc (sent_bits c.args.fmc xs))) c.spelled.result
    (λ o is. sent_again c.args.fmc xs o (omega arith) (rw c.as_slice.ensures at c.spelled.ensures.counts) up is) (rw c.as_slice.ensures at c.spelled.ensures.octets)
