-- What `Inbound` keeps beside the PDUs that came, so that it need not look at all of them.
use Rattle.std.specs.Prelude.{◌≡◌, ℕ, ◌+◌, ◌-◌, ◌<◌, ◌≤◌, ◌^◌, ◌⊎◌, true, false, List, [], ◌∷◌, filter, map, slice_get, option_map, IfSome, nat_lt, nat_le, if◌then◌else◌, Option, Some, None}
use Rattle.std.specs.List.{AllByRecursion}
use Rattle.std.specs.Ordering.{nat_cmp}
use Rattle.std.specs.BTreeMap.{insert_entry, is_at}
use Rattle.std.specs.Map.{remove_entry}
use Rattle.nr_u.specs.declared.frame.Range.{Range}
use Rattle.nr_u.specs.Tunnel.Incoming.{Numbered, Ascends, has, contains, gaps, is_first}

-- one more than the highest number, and low where there is none
abbrev pub next_after : ℕ → List Numbered → ℕ
next_after low [] = low
next_after low (a ∷ rest) = next_after (a.0 + 1) rest

-- gaps by their ends: the last number of each, and its first
abbrev pub ByEnd : Type 0
ByEnd = List (ℕ × ℕ)

-- a gap as a range
abbrev pub gap_range : ℕ × ℕ → Range
gap_range e = record { from = e.1; to = e.0 }

-- the first gap that ends at the number or above: the one in which the number lies, if it lies in one
abbrev pub gap_at : ℕ → ByEnd → Option Range
gap_at number ends = option_map gap_range (slice_get (filter (λ e. nat_le number e.0) ends) 0)

-- where the gap begins
abbrev pub from_or : ℕ → Option Range → ℕ
from_or past None = past
from_or past (Some gap) = gap.from

-- with the numbers from here on, and below the number, as a gap, if there are some
abbrev pub with_below : ℕ → ℕ → ByEnd → ByEnd
with_below from number ends = if nat_lt from number then insert_entry nat_cmp ends (number - 1) from else ends

-- without them again
abbrev pub without_below : ℕ → ℕ → ByEnd → ByEnd
without_below from number ends = if nat_lt from number then remove_entry (is_at (nat_cmp (number - 1))) ends else ends

-- with what lies above the number in its gap, if there is something, in place of the gap
abbrev pub narrowed : ℕ → Option Range → ByEnd → ByEnd
narrowed number None ends = ends
narrowed number (Some gap) ends = if nat_lt number gap.to then insert_entry nat_cmp ends gap.to (number + 1) else remove_entry (is_at (nat_cmp gap.to)) ends

-- the least of the numbers, or a number past all of them
pub record IsFirstOf (numbers : List ℕ) (first : ℕ) : Type 0 where
  pub none_below : (k : ℕ) → k < first → contains k numbers ≡ false
  pub there : (first ≡ 2 ^ 24) ⊎ (contains first numbers ≡ true)

-- what is kept fits the PDUs that came: those not acked, data PDUs without repeats, gaps, one past the highest number; sequence numbers have 18 bits
pub record IsInboundState (came : List Numbered) (unacked : List ℕ) (firsts : List Numbered) (ends : ByEnd) (next : ℕ) : Type 0 where
  pub ascends : Ascends 0 came
  pub small : next_after 0 came ≤ 2 ^ 24
  pub unacked_came : AllByRecursion (λ number. has number came ≡ true) unacked
  pub firsts_are : firsts ≡ filter (λ a. is_first a.1) came
  pub gaps_are : map gap_range ends ≡ gaps 0 came
  pub next_is : next ≡ next_after 0 came
  pub sns : AllByRecursion (λ a. IfSome a.1.sn (λ s. s < 2 ^ 18)) came
