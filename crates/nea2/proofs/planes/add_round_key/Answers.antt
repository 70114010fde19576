use Rattle.std.proofs.Common.{ℕ, ◌+◌, ◌*◌, bit_xor, arith}
use Rattle.nea2.specs.Planes.{block_of, octet_of}
use Rattle.nea2.proofs.Rows.{square-same}
use Rattle.nea2.proofs.planes.add_round_key.Goals as goal

pub returns-clause-each_block : goal.returns-clause-each_block
unfolding block_of
returns-clause-each_block c k block =
    square-same (λ (r column : ℕ). octet_of c.xored.result k (r + 4 * column))
    (λ (r column : ℕ). bit_xor (octet_of c.args.p k (r + 4 * column)) (octet_of c.args.key k (r + 4 * column)))
    (λ r column row_low column_low. c.xored.ensures.octets (r + 4 * column) k (omega arith))
