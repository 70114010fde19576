use Rattle.std.proofs.Common.{ℕ, [], ◌∷◌, slice_index, bit_xor, sym, ◌∙◌, ap, arith}
use Rattle.std.specs.Int.Bits.{xor_zero_r}
use Rattle.nea2.specs.Cipher.{substitution}
use Rattle.nea2.proofs.key_schedule.next_round_key.Goals as goal

pub returns : goal.returns
returns c =
    let k = λ (j : ℕ). slice_index c.args.key.now j in
    let s = c.substituted_block-s.ensures in
    let e0 = ap (λ (n : ℕ). bit_xor n c.args.constant) (s 13 (omega arith)) in
    let e1 = s 14 (omega arith) ∙ sym (xor_zero_r (substitution (k 14))) in
    let e2 = s 15 (omega arith) ∙ sym (xor_zero_r (substitution (k 15))) in
    let e3 = s 12 (omega arith) ∙ sym (xor_zero_r (substitution (k 12))) in
    λ i. bit_xor (k 0) (e0 i)
    ∷ bit_xor (k 1) (e1 i)
    ∷ bit_xor (k 2) (e2 i)
    ∷ bit_xor (k 3) (e3 i)
    ∷ bit_xor (k 4) (bit_xor (k 0) (e0 i))
    ∷ bit_xor (k 5) (bit_xor (k 1) (e1 i))
    ∷ bit_xor (k 6) (bit_xor (k 2) (e2 i))
    ∷ bit_xor (k 7) (bit_xor (k 3) (e3 i))
    ∷ bit_xor (k 8) (bit_xor (k 4) (bit_xor (k 0) (e0 i)))
    ∷ bit_xor (k 9) (bit_xor (k 5) (bit_xor (k 1) (e1 i)))
    ∷ bit_xor (k 10) (bit_xor (k 6) (bit_xor (k 2) (e2 i)))
    ∷ bit_xor (k 11) (bit_xor (k 7) (bit_xor (k 3) (e3 i)))
    ∷ bit_xor (k 12) (bit_xor (k 8) (bit_xor (k 4) (bit_xor (k 0) (e0 i))))
    ∷ bit_xor (k 13) (bit_xor (k 9) (bit_xor (k 5) (bit_xor (k 1) (e1 i))))
    ∷ bit_xor (k 14) (bit_xor (k 10) (bit_xor (k 6) (bit_xor (k 2) (e2 i))))
    ∷ bit_xor (k 15) (bit_xor (k 11) (bit_xor (k 7) (bit_xor (k 3) (e3 i)))) ∷ []
