-- Eight counter blocks that follow one another.
use Rattle.std.proofs.Common.{◌≡◌, ℕ, zero, suc, ◌+◌, ◌*◌, ◌/◌, ◌%◌, ◌^◌, ◌<◌, ◌≤◌, List, [], ◌∷◌, length, take, bit_xor, slice_index, refl, sym, ap, ◌∙◌, arith}
use Rattle.std.specs.Int.Bits.{xor_zero_r}
use Rattle.std.specs.Simd.Lanes.{put_chunk, zip2}
use Rattle.std.proofs.lemmas.Nat.{xor_block}
use Rattle.dc_base.specs.declared.nodes.Dir.{Dir}
use Rattle.nea2.specs.Cipher.{square}
use Rattle.nea2.specs.Combined.{combined}
use Rattle.nea2.specs.Keystream.{bearer, counter_block, direction}
use Rattle.nea2.specs.Planes.{number_octet}

low : (x k : ℕ) → k < 8 → (x * 8 + k) ≡ bit_xor (x * 2 ^ 3 + 0) k
low x k small =
    let alone : 0 * 2 ^ 3 + k ≡ k = omega arith in
    sym (ap (bit_xor (x * 2 ^ 3 + 0)) (sym alone) ∙ xor_block 3 x 0 0 k (omega arith) small ∙ (λ i. xor_zero_r x i * 2 ^ 3 + k))

last : (b k : ℕ) → k < 8 → (8 * b + k) % 2 ^ 8 ≡ bit_xor (8 * b % 2 ^ 8) k
last b k small =
    let x = b % 32 in
    let left : (8 * b + k) % 2 ^ 8 ≡ x * 8 + k = omega arith in
    let right : x * 2 ^ 3 + 0 ≡ 8 * b % 2 ^ 8 = omega arith in
    left ∙ low x k small ∙ ap (λ (n : ℕ). bit_xor n k) right

above : (b k t n : ℕ) → (8 * b + k) / n % 2 ^ 8 ≡ 8 * b / n % 2 ^ 8 → (8 * b + k) / n % 2 ^ 8 ≡ bit_xor (8 * b / n % 2 ^ 8) 0
above b k t n e = e ∙ sym (xor_zero_r (8 * b / n % 2 ^ 8))

-- the counter block k further on, by the octets of the first
pub counter_block-number_octet : (count id : ℕ) (dir : Dir) (b k : ℕ) → k < 8
    → square (λ r c. bit_xor (slice_index (counter_block count id dir (8 * b)) (r + 4 * c)) (number_octet (r + 4 * c) k)) ≡ counter_block count id dir (8 * b + k)
unfolding counter_block
counter_block-number_octet count id dir b k small =
    let z = xor_zero_r in
    let hi = λ (n : ℕ) (e : (8 * b + k) / n % 2 ^ 8 ≡ 8 * b / n % 2 ^ 8). sym (above b k 0 n e) in
    λ i. z (count / 2 ^ 24 % 2 ^ 8) i ∷ z (count / 2 ^ 16 % 2 ^ 8) i ∷ z (count / 2 ^ 8 % 2 ^ 8) i ∷ z (count % 2 ^ 8) i
    ∷ z ((bearer id * 2 + direction dir) * 4) i ∷ z 0 i ∷ z 0 i ∷ z 0 i
    ∷ hi (2 ^ 56) (omega arith) i ∷ hi (2 ^ 48) (omega arith) i ∷ hi (2 ^ 40) (omega arith) i ∷ hi (2 ^ 32) (omega arith) i
    ∷ hi (2 ^ 24) (omega arith) i ∷ hi (2 ^ 16) (omega arith) i ∷ hi (2 ^ 8) (omega arith) i ∷ sym (last b k small) i ∷ []

-- a vector combined with the front of the text
pub put_chunk-combined : (xs ys : List ℕ) (n : ℕ) → n ≡ length ys → n ≤ length xs → put_chunk 0 xs (zip2 bit_xor (take n xs) ys) ≡ combined xs ys
put_chunk-combined [] [] n e low = refl
put_chunk-combined (x ∷ xs) [] zero e low = refl
put_chunk-combined (x ∷ xs) [] (suc n) e low = absurd (omega arith)
put_chunk-combined [] (y ∷ ys) n e low = absurd (omega arith)
put_chunk-combined (x ∷ xs) (y ∷ ys) zero e low = absurd (omega arith)
put_chunk-combined (x ∷ xs) (y ∷ ys) (suc n) e low =
    ap (λ (rest : List ℕ). bit_xor x y ∷ rest) (put_chunk-combined xs ys n (omega arith) (omega arith))
