-- SDUs under their COUNTs, in ascending COUNT.
use Rattle.std.specs.Prelude.{ℕ, ◌+◌, ◌≤◌, ◌==◌, ◌||◌, nat_lt, if◌then◌else◌, max, Bool, false, List, [], ◌∷◌, map, ⊤}

-- a COUNT with the SDU that has it
abbrev pub Entry : Type 0
Entry = ℕ × List ℕ

-- the COUNTs of these
abbrev pub counts_of : List Entry → List ℕ
counts_of es = map (λ e. e.0) es

-- the COUNTs ascend, and none is below c
abbrev pub AscendFrom : ℕ → List Entry → Type 0
AscendFrom c [] = ⊤
AscendFrom c (e ∷ es) = (c ≤ e.0) × AscendFrom (e.0 + 1) es

-- whether the COUNT is among these
abbrev pub is_stored : ℕ → List Entry → Bool
is_stored c [] = false
is_stored c (e ∷ es) = e.0 == c || is_stored c es

-- the entries with one more, before the first that has a higher COUNT
abbrev pub with_sdu : ℕ → List ℕ → List Entry → List Entry
with_sdu c sdu [] = (c, sdu) ∷ []
with_sdu c sdu (e ∷ es) = if nat_lt c e.0 then (c, sdu) ∷ e ∷ es else e ∷ with_sdu c sdu es

-- 1 + the greatest COUNT of these, or c where there is none
abbrev pub past_greatest : ℕ → List Entry → ℕ
past_greatest c [] = c
past_greatest c (e ∷ es) = max (e.0 + 1) (past_greatest c es)
