use Rattle.std.proofs.Common.{◌≡◌, ◌++◌, rules}
use Rattle.pdcp_pdu.specs.DataPdu.{header}
use Rattle.pdcp_pdu.proofs.Reading.{data_again}
use Rattle.pdcp_pdu.proofs.data_pdu.encode_data.Goals as goal

pub returns-clause-again : goal.returns-clause-again
returns-clause-again c =
    let spelled : c.from_vec.result ≡ header c.args.n 0 c.args.sn ++ c.args.body.now = search rules in
    rw spelled (data_again c.args.n 0 c.args.sn c.args.body.now c.requires.small c.requires.some c.requires.most)
