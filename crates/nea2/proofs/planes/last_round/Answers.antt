use Rattle.std.proofs.Common.{ℕ, ◌+◌, ◌*◌, ◌%◌, ◌<◌, bit_xor, ◌∙◌, arith}
use Rattle.nea2.specs.Cipher.{substitution}
use Rattle.nea2.specs.Planes.{block_of, octet_of}
use Rattle.nea2.proofs.Rows.{square-same}
use Rattle.nea2.proofs.planes.last_round.Goals as goal

pub returns-clause-each_block : goal.returns-clause-each_block
unfolding block_of
returns-clause-each_block c k block =
    let moved = λ (r column : ℕ) (row_low : r < 4) (column_low : column < 4).
    c.shift_rows-moved.ensures.octets r column k row_low column_low
    ∙ c.sub_bytes-s.ensures.octets (r + 4 * ((column + r) % 4)) k (omega arith) block in
    square-same (λ (r column : ℕ). octet_of c.xored.result k (r + 4 * column))
    (λ (r column : ℕ). bit_xor (substitution (octet_of c.args.p k (r + 4 * ((column + r) % 4)))) (octet_of c.args.key k (r + 4 * column)))
    (λ r column row_low column_low.
    c.xored.ensures.octets (r + 4 * column) k (omega arith)
    ∙ (λ x. bit_xor (moved r column row_low column_low x) (octet_of c.args.key k (r + 4 * column))))
