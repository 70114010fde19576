use Rattle.std.proofs.Common.{arith}
use Rattle.dc_base.specs.Count.{modulus}
use Rattle.ground_tests.proofs.of_pdcp_pdu.writes_each_vector.Goals as goal

pub encode_data-requires-clause-small : goal.encode_data-requires-clause-small
unfolding modulus
encode_data-requires-clause-small g c = omega arith

pub encode_data-requires-2-clause-small : goal.encode_data-requires-2-clause-small
unfolding modulus
encode_data-requires-2-clause-small g c = omega arith
