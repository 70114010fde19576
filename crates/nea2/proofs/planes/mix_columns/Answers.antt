use Rattle.std.proofs.Common.{◌≡◌, ℕ, ◌+◌, ◌*◌, ◌%◌, ◌<◌, bit_xor, ap, ◌∙◌, arith}
use Rattle.nea2.specs.Cipher.{mixed}
use Rattle.nea2.specs.Field.{times_x}
use Rattle.nea2.specs.Planes.{octet_of}
use Rattle.nea2.proofs.Octets.{octet_of-lt}
use Rattle.nea2.proofs.Rows.{below_four, mixed_0, mixed_1, mixed_2, mixed_3, summed}
use Rattle.nea2.proofs.planes.mix_columns.Goals as goal

pub returns-clause-octets : goal.returns-clause-octets
returns-clause-octets c r column k row_low column_low block =
    let p = c.args.p in
    let at = λ (row : ℕ). octet_of p k (row + 4 * column) in
    let code : (row : ℕ) → row < 4 → octet_of c.xored.result k (row + 4 * column) ≡ summed (at row) (at ((row + 1) % 4)) (at ((row + 2) % 4)) (at (((row + 2) % 4 + 1) % 4)) =
    λ row low.
    let j = row + 4 * column in
    let lane : j < 16 = omega arith in
    let two = (row + 2) % 4 in
    let two_low : two < 4 = omega arith in
    let up = c.rows_up_1-next.ensures.octets in
    c.xored.ensures.octets j k lane
    ∙ (λ x. bit_xor
    ((c.xored-sum.ensures.octets j k lane ∙ (λ y. bit_xor
    ((c.times_x-twice.ensures.octets j k lane block ∙ ap times_x (c.xored-pair.ensures.octets j k lane ∙ (λ z. bit_xor (at row) (up row column k low column_low z)))) y)
    (up row column k low column_low y))) x)
    ((c.rows_up_2-below.ensures.octets row column k low column_low ∙ c.xored-pair.ensures.octets (two + 4 * column) k (omega arith)
    ∙ (λ y. bit_xor (at two) (up two column k two_low column_low y))) x)) in
    let l = λ (row : ℕ). octet_of-lt p k (row + 4 * column) in
    below_four (λ (row : ℕ). octet_of c.xored.result k (row + 4 * column) ≡ mixed row (at 0) (at 1) (at 2) (at 3))
    (code 0 (omega arith) ∙ mixed_0 (at 0) (at 1) (at 2) (at 3) (l 0) (l 1) (l 2) (l 3))
    (code 1 (omega arith) ∙ mixed_1 (at 1) (at 2) (at 3) (at 0) (l 1) (l 2) (l 3) (l 0))
    (code 2 (omega arith) ∙ mixed_2 (at 2) (at 3) (at 0) (at 1) (l 2) (l 3) (l 0) (l 1))
    (code 3 (omega arith) ∙ mixed_3 (at 3) (at 0) (at 1) (at 2) (l 3) (l 0) (l 1) (l 2))
    r row_low
