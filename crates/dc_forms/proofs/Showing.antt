-- The COUNTs of a bitmap, one bit after another.
use Rattle.std.proofs.Common.{ℕ, zero, suc, ◌≡◌, ◌+◌, ◌++◌, List, sym, ap, ◌∙◌, arith, append_assoc, append-nil}
use Rattle.dc_forms.specs.Shown.{shown_at, shown_from}

one_more : (fmc : ℕ) (bits : List ℕ) (k n : ℕ) → shown_from fmc bits k (suc n) ≡ shown_from fmc bits k n ++ shown_at fmc bits (k + n)
one_more fmc bits k zero = append-nil _ ∙ (let same : k ≡ k + 0 = omega arith in ap (shown_at fmc bits) same)
one_more fmc bits k (suc n) =
    let same : k + 1 + n ≡ k + suc n = omega arith in
    ap (λ xs. shown_at fmc bits k ++ xs) (one_more fmc bits (k + 1) n ∙ ap (λ m. shown_from fmc bits (k + 1) n ++ shown_at fmc bits m) same)
    ∙ sym (append_assoc (shown_at fmc bits k) (shown_from fmc bits (k + 1) n) (shown_at fmc bits (k + suc n)))

-- bit n, from 0, comes after the n bits before it
pub shown_next : (fmc : ℕ) (bits : List ℕ) (n : ℕ) → shown_from fmc bits 1 (n + 1) ≡ shown_from fmc bits 1 n ++ shown_at fmc bits (n + 1)
shown_next fmc bits n =
    let more : n + 1 ≡ suc n = omega arith in let same : 1 + n ≡ n + 1 = omega arith in
    ap (shown_from fmc bits 1) more ∙ one_more fmc bits 1 n ∙ ap (λ m. shown_from fmc bits 1 n ++ shown_at fmc bits m) same
