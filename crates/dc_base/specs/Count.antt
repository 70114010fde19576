-- COUNTs, and the part of each that is sent (TS 38.323, 6.3.5, 7.1 and 7.2).
use Rattle.std.specs.Prelude.{ℕ, ◌≡◌, ◌+◌, ◌-◌, ◌%◌, ◌^◌, ◌<◌, ◌≤◌, nat_lt, if◌then◌else◌, Some, None, Option}
use Rattle.dc_base.specs.declared.numbers.SnLen.{SnLen}
use Rattle.dc_base.specs.declared.numbers.SnLen.TheVariants.{S12, S18}

-- how many bits of a COUNT are sent: the length of a sequence number
abbrev pub bits : SnLen → ℕ
bits S12 = 12
bits S18 = 18

-- how many sequence numbers there are
unfoldable pub modulus : SnLen → ℕ
modulus n = 2 ^ bits n

-- Window_Size: half of them
unfoldable pub window : SnLen → ℕ
window n = 2 ^ (bits n - 1)

-- the sequence number of a COUNT: its low bits
unfoldable pub sn : SnLen → ℕ → ℕ
sn n c = c % modulus n

-- c is the number from r - window on and below r + window that has the sequence number s
pub record IsCountFor (n : SnLen) (r s c : ℕ) : Type 0 where
  pub low : r ≤ c + window n
  pub high : c < r + window n
  pub shows : sn n c ≡ s

-- no COUNT is that number: it is below 0 or above 2^32 - 1
abbrev pub HasNoCountFor : SnLen → ℕ → ℕ → Type 0
HasNoCountFor n r s = (c : ℕ) → c < 2 ^ 32 → IsCountFor n r s c → ⊥

-- how far above the lower end of the window round r the first number with the sequence number s lies
unfoldable pub distance : SnLen → ℕ → ℕ → ℕ
distance n r s = (s + modulus n + window n - sn n r) % modulus n

-- x - w, where that is a COUNT
abbrev pub count_below : ℕ → ℕ → Option ℕ
count_below x w = if nat_lt x w then None else if nat_lt (x - w) (2 ^ 32) then Some (x - w) else None

-- the COUNT in the window round r that has the sequence number s (TS 38.323, 5.2.2.1): the one of `IsCountFor`, which
-- a clause of `infer` says
unfoldable pub count_for : SnLen → ℕ → ℕ → Option ℕ
count_for n r s = count_below (r + distance n r s) (window n)
