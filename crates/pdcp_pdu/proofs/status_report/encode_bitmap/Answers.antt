use Rattle.std.proofs.Common.{◌≡◌, ◌<◌, ◌||◌, ltb, List, ℕ}
use Rattle.pdcp_pdu.specs.Bitmap.{names, is_among}
use Rattle.pdcp_pdu.specs.StatusReport.{whole_bits}
use Rattle.pdcp_pdu.proofs.Ascending.{ascending}
use Rattle.pdcp_pdu.proofs.Choices.{ok_implies}
use Rattle.pdcp_pdu.proofs.Reports.{whole_names}
use Rattle.pdcp_pdu.proofs.status_report.encode_bitmap.Goals as goal

pub returns-clause-names : goal.returns-clause-names
returns-clause-names c =
    let xs = c.args.received.now in
    let up = ascending c.args.fmc xs c.requires.ascending c.requires.above in
    ok_implies (λ (o : List ℕ). o ≡ whole_bits c.args.fmc xs) (λ o. (k : ℕ) → names c.args.fmc o k ≡ (ltb k c.args.fmc || is_among xs k)) c.whole_bitmap.result
    (λ o is k. rw is (whole_names c.args.fmc xs k up)) (rw c.as_slice.ensures at c.whole_bitmap.ensures)
