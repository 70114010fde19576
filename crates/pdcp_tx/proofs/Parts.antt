-- What is kept, as its COUNTs alone say it.
use Rattle.std.proofs.Common.{ℕ, zero, suc, ◌≡◌, ◌+◌, ◌-◌, ◌<◌, ◌≤◌, List, [], ◌∷◌, length, get_or, sym, subst, arith}
use Rattle.std.specs.List.{All, AllByRecursion}
use Rattle.std.specs.List.Sorted.{IsStrictlyIncreasing}
use Rattle.std.proofs.lemmas.List.Elements.{All-from_recursion, recursion_from_All}
use Rattle.dc_base.specs.declared.numbers.SnLen.{SnLen}
use Rattle.dc_base.specs.Count.{window}
use Rattle.pdcp_tx.specs.Sender.{Entry, counts, Rises, InWindow}

rises-increasing : (from next : ℕ) (es : List Entry) → Rises from next es → IsStrictlyIncreasing (counts es)
rises-increasing from next [] up k inside = absurd (omega arith)
rises-increasing from next (e ∷ []) up k inside = absurd (omega arith)
rises-increasing from next (e ∷ f ∷ es) up zero inside = omega (arith, up.1.0)
rises-increasing from next (e ∷ f ∷ es) up (suc k) inside =
    let step : suc k + 1 ≡ suc (k + 1) = omega arith in
    subst (λ (j : ℕ). get_or (counts (f ∷ es)) k 0 < get_or (counts (e ∷ f ∷ es)) j 0) (sym step) (rises-increasing (e.0 + 1) next (f ∷ es) up.1 k (omega arith))

rises-below : (from next : ℕ) (es : List Entry) → Rises from next es → AllByRecursion (λ c. c < next) (counts es)
rises-below from next [] up = tt
rises-below from next (e ∷ es) up = let head = rises-head (e.0 + 1) next es up.1 in (omega arith, rises-below (e.0 + 1) next es up.1)
  where
    rises-head : (from next : ℕ) (es : List Entry) → Rises from next es → from ≤ next
    rises-head from next [] up = up
    rises-head from next (e ∷ es) up = let rest = rises-head (e.0 + 1) next es up.1 in omega (arith, up.0)

rises-above : (least from next : ℕ) (es : List Entry) → least ≤ from → Rises from next es → AllByRecursion (λ c. least ≤ c) (counts es)
rises-above least from next [] le up = tt
rises-above least from next (e ∷ es) le up = (omega (arith, up.0), rises-above least (e.0 + 1) next es (omega (arith, up.0)) up.1)

near-each : (w next from : ℕ) (cs : List ℕ) → next ≤ from + w → AllByRecursion (λ c. from ≤ c) cs → AllByRecursion (λ c. next ≤ c + w) cs
near-each w next from [] near each = tt
near-each w next from (c ∷ cs) near each = (omega (arith, each.0), near-each w next from cs near each.1)

pub counts-increasing : (n : SnLen) (next : ℕ) (es : List Entry) → InWindow n next es → IsStrictlyIncreasing (counts es)
counts-increasing n next es w = rises-increasing w.from next es w.rises

pub counts-below : (n : SnLen) (next : ℕ) (es : List Entry) → InWindow n next es → All (λ c. c < next) (counts es)
counts-below n next es w = All-from_recursion (λ c. c < next) (counts es) (rises-below w.from next es w.rises)

pub counts-near : (n : SnLen) (next : ℕ) (es : List Entry) → InWindow n next es → All (λ c. next ≤ c + window n) (counts es)
counts-near n next es w =
    All-from_recursion (λ c. next ≤ c + window n) (counts es) (near-each (window n) next w.from (counts es) w.near (rises-above w.from w.from next es (omega arith) w.rises))

rises-from : (from next : ℕ) (es : List Entry) → from ≤ next → IsStrictlyIncreasing (counts es) → AllByRecursion (λ c. c < next) (counts es) → (0 < length (counts es) → from ≤ get_or (counts es) 0 0) → Rises from next es
rises-from from next [] le up below first = le
rises-from from next (e ∷ es) le up below first =
    let head : e.0 < next = below.0 in (
      first (omega arith),
      rises-from (e.0 + 1) next es (omega arith)
          (λ k inside. let step : suc k + 1 ≡ suc (k + 1) = omega arith in
          subst (λ (j : ℕ). get_or (counts es) k 0 < get_or (counts (e ∷ es)) j 0) step (up (suc k) (omega arith)))
          below.1 (λ some. let second = up 0 (omega arith) in omega arith),
    )

pub in_window-from : (n : SnLen) (next : ℕ) (es : List Entry) → IsStrictlyIncreasing (counts es) → All (λ c. c < next) (counts es) → All (λ c. next ≤ c + window n) (counts es) → InWindow n next es
in_window-from n next es up below near =
    record {
      from = next - window n;
      near = omega arith;
      rises = rises-from (next - window n) next es (omega arith) up (recursion_from_All (λ c. c < next) (counts es) below)
          (λ some. let first = near 0 0 some in omega arith);
    }
