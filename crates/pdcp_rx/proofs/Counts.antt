-- The COUNTs of SDUs that ascend, as a status report takes them.
use Rattle.std.proofs.Common.{ℕ, zero, suc, ◌+◌, ◌<◌, List, [], ◌∷◌, All, add-one, arith}
use Rattle.std.specs.List.{AllByRecursion}
use Rattle.std.specs.List.Sorted.{IsStrictlyIncreasing}
use Rattle.std.proofs.lemmas.List.Elements.{All-from_recursion}
use Rattle.pdcp_rx.specs.Entries.{Entry, counts_of, AscendFrom}

pub counts_increase : (c : ℕ) (es : List Entry) → AscendFrom c es → IsStrictlyIncreasing (counts_of es)
counts_increase c [] ascends k lt = absurd (omega arith)
counts_increase c (e ∷ []) ascends k lt = absurd (omega arith)
counts_increase c (e ∷ f ∷ es) ascends zero lt = omega (arith, ascends.1.0)
counts_increase c (e ∷ f ∷ es) ascends (suc k) lt =
    let later = counts_increase (e.0 + 1) (f ∷ es) ascends.1 k (omega arith) in
    rw add-one (rw add-one at later)

each_count_above : (b c : ℕ) (es : List Entry) → b < c → AscendFrom c es → AllByRecursion (λ k. b < k) (counts_of es)
each_count_above b c [] lt ascends = tt
each_count_above b c (e ∷ es) lt ascends = (omega (arith, ascends.0), each_count_above b (e.0 + 1) es (omega (arith, ascends.0)) ascends.1)

pub counts_above : (b c : ℕ) (es : List Entry) → b < c → AscendFrom c es → All (λ k. b < k) (counts_of es)
counts_above b c es lt ascends = All-from_recursion _ _ (each_count_above b c es lt ascends)
