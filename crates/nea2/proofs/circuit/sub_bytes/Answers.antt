use Rattle.nea2.proofs.Gates.{octet_of-substitution}
use Rattle.nea2.proofs.circuit.sub_bytes.Goals as goal

pub returns : goal.returns
returns c =
    let held = c.last_layer.ensures c.args.p (c.middle_layer.ensures c.args.p c.first_layer.ensures) in
    record {
      full = λ i low. (held i low).full;
      octets = octet_of-substitution c.args.p c.last_layer.result held;
    }
