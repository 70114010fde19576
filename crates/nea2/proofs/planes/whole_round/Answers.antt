use Rattle.std.proofs.Common.{ℕ, ◌+◌, ◌*◌, ◌%◌, ◌<◌, bit_xor, ◌∙◌, arith}
use Rattle.nea2.specs.Cipher.{mixed, substitution}
use Rattle.nea2.specs.Planes.{block_of, octet_of}
use Rattle.nea2.proofs.Rows.{square-same}
use Rattle.nea2.proofs.planes.whole_round.Goals as goal

pub returns-clause-each_block : goal.returns-clause-each_block
unfolding block_of
returns-clause-each_block c k block =
    let moved = λ (r column : ℕ) (row_low : r < 4) (column_low : column < 4).
    c.shift_rows-moved.ensures.octets r column k row_low column_low
    ∙ c.sub_bytes-s.ensures.octets (r + 4 * ((column + r) % 4)) k (omega arith) block in
    square-same (λ (r column : ℕ). octet_of c.xored.result k (r + 4 * column))
    (λ (r column : ℕ). bit_xor (mixed r (substitution (octet_of c.args.p k (0 + 4 * ((column + 0) % 4)))) (substitution (octet_of c.args.p k (1 + 4 * ((column + 1) % 4))))
    (substitution (octet_of c.args.p k (2 + 4 * ((column + 2) % 4)))) (substitution (octet_of c.args.p k (3 + 4 * ((column + 3) % 4))))) (octet_of c.args.key k (r + 4 * column)))
    (λ r column row_low column_low.
    c.xored.ensures.octets (r + 4 * column) k (omega arith)
    ∙ (λ x. bit_xor ((c.mix_columns-mixed.ensures.octets r column k row_low column_low block
    ∙ (λ y. mixed r (moved 0 column (omega arith) column_low y) (moved 1 column (omega arith) column_low y) (moved 2 column (omega arith) column_low y) (moved 3 column (omega arith) column_low y))) x)
    (octet_of c.args.key k (r + 4 * column))))
