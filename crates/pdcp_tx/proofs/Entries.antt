-- SDUs under ascending COUNTs: their least, one more, some fewer.
use Rattle.std.proofs.Common.{ℕ, suc, ◌≡◌, ◌+◌, ◌<◌, ◌≤◌, Bool, List, [], ◌∷◌, ◌++◌, length, ◌==◌, not, false, refl, ap, subst, arith, inl, inr}
use Rattle.std.specs.List.{filter, enumerate_from}
use Rattle.std.proofs.lemmas.Bool.{cases_Bool, ne_eqb}
use Rattle.dc_base.specs.declared.numbers.SnLen.{SnLen}
use Rattle.dc_base.specs.Count.{window}
use Rattle.pdcp_tx.specs.Sender.{Entry, least, Rises, InWindow}

pub Rises-weaker : (low from next : ℕ) (es : List Entry) → low ≤ from → Rises from next es → Rises low next es
Rises-weaker low from next [] le up = omega arith
Rises-weaker low from next (e ∷ es) le up = (omega (arith, up.0), up.1)

pub Rises-bounds : (from next : ℕ) (es : List Entry) → Rises from next es → (from ≤ least next es) × (least next es ≤ next)
Rises-bounds from next [] up = (up, omega arith)
Rises-bounds from next (e ∷ es) up = let rest = Rises-bounds (e.0 + 1) next es up.1 in (omega (arith, up.0, rest.0), omega (arith, rest.1))

-- the first of them is the least
pub least-first : (from next : ℕ) (e : Entry) (es : List Entry) → Rises from next (e ∷ es) → least next (e ∷ es) ≡ e.0
least-first from next e es up = let rest = Rises-bounds (e.0 + 1) next es up.1 in omega (arith, rest.0)

pub Rises-least : (from next : ℕ) (es : List Entry) → Rises from next es → Rises (least next es) next es
Rises-least from next [] up = omega arith
Rises-least from next (e ∷ es) up = (omega (arith, least-first from next e es up), up.1)

pub Rises-filter : (test : Entry → Bool) (from next : ℕ) (es : List Entry) → Rises from next es → Rises from next (filter test es)
Rises-filter test from next [] up = up
Rises-filter test from next (e ∷ es) up =
    elim (cases_Bool (test e)) [
      | inl yes' ↦ rw yes' (up.0, Rises-filter test (e.0 + 1) next es up.1)
      | inr no' ↦ rw no' (Rises-weaker from (e.0 + 1) next (filter test es) (omega (arith, up.0)) (Rises-filter test (e.0 + 1) next es up.1))
    ]

pub enumerated : (from next : ℕ) (sdus : List (List ℕ)) → from ≤ next → Rises from (next + length sdus) (enumerate_from next sdus)
enumerated from next [] le = omega arith
enumerated from next (sdu ∷ sdus) le =
    let end : next + 1 + length sdus ≡ next + suc (length sdus) = omega arith in
    (le, subst (λ (k : ℕ). Rises (next + 1) k (enumerate_from (next + 1) sdus)) end (enumerated (next + 1) (next + 1) sdus (omega arith)))

-- more of them, from the next COUNT on
pub Rises-enumerated : (from next : ℕ) (es : List Entry) (sdus : List (List ℕ)) → Rises from next es → Rises from (next + length sdus) (es ++ enumerate_from next sdus)
Rises-enumerated from next [] sdus up = enumerated from next sdus up
Rises-enumerated from next (e ∷ es) sdus up = (up.0, Rises-enumerated (e.0 + 1) next es sdus up.1)

-- ---- confirmed

-- none of these has a COUNT below the first of them
pub without_past : (count from next : ℕ) (es : List Entry) → Rises from next es → count < from → filter (λ e. not (e.0 == count)) es ≡ es
without_past count from next [] up past = refl
without_past count from next (e ∷ es) up past =
    let apart : e.0 == count ≡ false = ne_eqb _ _ (λ same. omega (arith, up.0)) in
    rw apart (ap (λ (xs : List Entry). e ∷ xs) (without_past count (e.0 + 1) next es up.1 (omega (arith, up.0))))

-- ---- in the window

pub in_window-none : (n : SnLen) (next : ℕ) → InWindow n next []
in_window-none n next = record { from = next; near = omega arith; rises = omega arith }

pub in_window-filter : (test : Entry → Bool) (n : SnLen) (next : ℕ) (es : List Entry) → InWindow n next es → InWindow n next (filter test es)
in_window-filter test n next es w = record { from = w.from; near = w.near; rises = Rises-filter test w.from next es w.rises }

pub in_window-enumerated : (n : SnLen) (next : ℕ) (es : List Entry) (sdus : List (List ℕ)) → InWindow n next es → next + length sdus ≤ least next es + window n
    → InWindow n (next + length sdus) (es ++ enumerate_from next sdus)
in_window-enumerated n next es sdus w room =
    record { from = least next es; near = room; rises = Rises-enumerated (least next es) next es sdus (Rises-least w.from next es w.rises) }

-- the window is never passed
pub in_window-near : (n : SnLen) (next : ℕ) (es : List Entry) → InWindow n next es → (next ≤ least next es + window n) × (least next es ≤ next)
in_window-near n next es w =
    let near = w.near in
    let bounds = Rises-bounds w.from next es w.rises in
    (omega (arith, bounds.0), bounds.1)
