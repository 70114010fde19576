-- The bitmap of a PDCP status report (TS 38.323, 6.3.10 and 6.3.9): which COUNTs it names as received.
use Rattle.std.specs.Prelude.{ℕ, zero, suc, ◌+◌, ◌-◌, ◌*◌, ◌/◌, ◌%◌, ◌^◌, nat_lt, ◌==◌, ◌||◌, if◌then◌else◌, Bool, false, List, [], ◌∷◌, slice_index}
use Rattle.std.specs.Int.{bit_at}
use Rattle.std.specs.List.{list_any}

-- whether bit k is 1: bits count from 1, and the first is bit 7 of the first octet
abbrev pub is_shown : List ℕ → ℕ → Bool
is_shown bits zero = false
is_shown bits (suc i) = bit_at (slice_index bits (i / 8)) (7 - i % 8) == 1

-- whether a report names this COUNT as received: all below FMC are, and FMC + k where bit k is 1
abbrev pub names : ℕ → List ℕ → ℕ → Bool
names fmc bits count = nat_lt count fmc || is_shown bits (count - fmc)

-- whether the COUNT is among these
abbrev pub is_among : List ℕ → ℕ → Bool
is_among counts count = list_any (λ c. c == count) counts

-- the number whose k bits say, from the highest on, whether a COUNT is in the set: COUNT c, c + 1 and so on
abbrev pub bits_from : (ℕ → Bool) → ℕ → ℕ → ℕ
bits_from set c zero = 0
bits_from set c (suc k) = (if set c then 1 else 0) * 2 ^ k + bits_from set (c + 1) k

-- m octets of bitmap, of which the first bit stands for COUNT c
abbrev pub bitmap : (ℕ → Bool) → ℕ → ℕ → List ℕ
bitmap set c zero = []
bitmap set c (suc m) = bits_from set c 8 ∷ bitmap set (c + 8) m

-- the last of these, or this number where there is none
abbrev pub last_or : ℕ → List ℕ → ℕ
last_or c [] = c
last_or c (d ∷ counts) = last_or d counts

-- how many octets of bitmap show the COUNTs of an ascending list above FMC: up to the octet with the last
abbrev pub bitmap_len : ℕ → List ℕ → ℕ
bitmap_len fmc counts = (last_or fmc counts - fmc + 7) / 8
