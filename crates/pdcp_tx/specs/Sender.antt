-- What the transmitting PDCP entity holds (TS 38.323, 5.2.1 and 7.1).
use Rattle.std.specs.Prelude.{ℕ, ◌+◌, ◌≤◌, ◌==◌, min, Bool, List, [], ◌∷◌, map, Option}
use Rattle.std.specs.List.{find, list_any}
use Rattle.std.specs.Option.{option_map}
use Rattle.dc_base.specs.declared.numbers.SnLen.{SnLen}
use Rattle.dc_base.specs.Count.{window}

-- an SDU under its COUNT
abbrev pub Entry : Type 0
Entry = ℕ × List ℕ

-- the COUNT that is given next, the SDUs that have one and are not confirmed, and those that wait for one
pub record Sender : Type 0 where
  pub n : SnLen
  pub next : ℕ
  pub kept : List Entry
  pub held : List (List ℕ)

-- the least COUNT of these, or next where there is none
abbrev pub least : ℕ → List Entry → ℕ
least next [] = next
least next (e ∷ es) = min e.0 (least next es)

-- Low: the least COUNT that is not confirmed, or the next one
abbrev pub low : Sender → ℕ
low s = least s.next s.kept

-- the COUNTs of these
abbrev pub counts : List Entry → List ℕ
counts es = map (λ e. e.0) es

-- whether the SDU with this COUNT is kept
abbrev pub is_kept : List Entry → ℕ → Bool
is_kept es count = list_any (λ e. e.0 == count) es

-- the SDU with this COUNT, where it is kept
abbrev pub sdu_at : List Entry → ℕ → Option (List ℕ)
sdu_at es count = option_map (λ e. e.1) (find (λ e. e.0 == count) es)

-- the COUNTs rise, from `from` on and below `next`
abbrev pub Rises : ℕ → ℕ → List Entry → Type 0
Rises from next [] = from ≤ next
Rises from next (e ∷ es) = (from ≤ e.0) × Rises (e.0 + 1) next es

-- what is kept ascends, lies below next, and no further below it than the window is long
pub record InWindow (n : SnLen) (next : ℕ) (kept : List Entry) : Type 0 where
  pub from : ℕ
  pub near : next ≤ from + window n
  pub rises : Rises from next kept
