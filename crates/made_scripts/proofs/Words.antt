-- Words that are no number of turns.
use Rattle.std.proofs.Common.{ℕ, ◌≡◌, ◌≤◌, List, sym, ◌∙◌, arith}
use Rattle.std.specs.Fmt.{decimal}
use Rattle.std.proofs.lemmas.Fmt.{decimal_injective}

-- none is too few
pub no_turn : (word : List ℕ) (m : ℕ) → word ≡ decimal m → m ≡ 0 → (n : ℕ) → 1 ≤ n → n ≤ 20000 → word ≡ decimal n → ⊥
no_turn word m is none n least most same = let equal : m ≡ n = decimal_injective m n (omega arith) (omega arith) (sym is ∙ same) in omega arith
