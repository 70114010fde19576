-- The run of SDUs that can be handed up: those with consecutive COUNTs (TS 38.323, 5.2.2.1).
use Rattle.std.specs.Prelude.{ℕ, ◌+◌, ◌==◌, ◌≡◌, if◌then◌else◌, List, [], ◌∷◌, ⊤}
use Rattle.pdcp_rx.specs.Entries.{Entry}

-- the COUNTs are c, c + 1 and so on
abbrev pub IsConsecutive : ℕ → List Entry → Type 0
IsConsecutive c [] = ⊤
IsConsecutive c (e ∷ es) = (e.0 ≡ c) × IsConsecutive (c + 1) es

-- the first entries, as far as their COUNTs are c, c + 1 and so on
abbrev pub run_from : ℕ → List Entry → List Entry
run_from c [] = []
run_from c (e ∷ es) = if e.0 == c then e ∷ run_from (c + 1) es else []
