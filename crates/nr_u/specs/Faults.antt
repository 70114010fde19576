-- The checks on octets that should be a frame, in the order in which they are made.
use Rattle.std.specs.Prelude.{◌≡◌, ℕ, ◌+◌, ◌*◌, ◌/◌, ◌^◌, ◌==◌, ◌||◌, nat_lt, nat_le, if◌then◌else◌, List, [], ◌∷◌, length, take, drop, Option, Some, None, ⊤}
use Rattle.std.specs.Int.{w32, from_be_bytes}
use Rattle.nr_u.specs.declared.frame.NruErr.{NruErr}
use Rattle.nr_u.specs.declared.frame.NruErr.TheVariants.{Short, Kind, Ranges, Trailing, Memory}
use Rattle.nr_u.specs.Frames.{is_set}

-- the number of three octets, the most significant first
abbrev pub number_of : ℕ → ℕ → ℕ → ℕ
number_of a b c = from_be_bytes w32 (0 ∷ a ∷ b ∷ c ∷ [])

infixr 20 ◌else◌
-- the fault of the first check that fails, of two
abbrev pub ◌else◌ : Option NruErr → Option NruErr → Option NruErr
(Some e) else other = Some e
None else other = other

-- more than 3 octets after the frame, which ends before this place
abbrev pub padding_fault : ℕ → List ℕ → Option NruErr
padding_fault place padding = if nat_lt 3 (length padding) then Some (Trailing (place + 3)) else None

-- a highest sequence number of 2^18 or more
abbrev pub highest_fault : List ℕ → Option NruErr
highest_fault (a ∷ b ∷ c ∷ []) = if nat_le (2 ^ 18) (number_of a b c) then Some (Ranges 2) else None
highest_fault _ = None

-- the first range that begins below low or ends before it begins, of those that begin at this place; low is past the range before
abbrev pub range_fault : ℕ → ℕ → List ℕ → Option NruErr
range_fault low place (a ∷ b ∷ c ∷ d ∷ e ∷ f ∷ rest) =
    if nat_lt (number_of a b c) low || nat_lt (number_of d e f) (number_of a b c) then Some (Ranges place)
    else range_fault (number_of d e f + 1) (place + 6) rest
range_fault low place _ = None

-- of a user data frame, by its octets from octet 1 on
abbrev pub user_fault : List ℕ → Option NruErr
user_fault (a ∷ b ∷ c ∷ padding) = padding_fault 4 padding
user_fault rest = Some (Short (1 + length rest))

-- how many octets there are for a highest sequence number behind this octet 0
abbrev pub highest_len : ℕ → ℕ
highest_len first = if is_set first 0 then 3 else 0

-- of a delivery status with this octet 0, by its octets from octet 1 on
abbrev pub status_fault : ℕ → List ℕ → Option NruErr
status_fault first [] = Some (Short 1)
status_fault first (count ∷ rest) =
    let start = highest_len first in
    let len = 6 * count in
    if nat_lt (length rest) (start + len) then Some (Short (2 + length rest))
    else highest_fault (take start rest) else range_fault 0 (2 + start) (take len (drop start rest)) else padding_fault (2 + start + len) (drop len (drop start rest))

-- The first check that fails, with its place; None where all pass.
abbrev pub fault_of : List ℕ → Option NruErr
fault_of [] = Some (Short 0)
fault_of (first ∷ rest) =
    if first / 2 ^ 4 == 0 then user_fault rest
    else if first / 2 ^ 4 == 1 then status_fault first rest
    else Some (Kind 0)

-- an error of decoding: the first check that fails, or want of memory
abbrev pub IsFaultOf : List ℕ → NruErr → Type 0
IsFaultOf octets Memory = ⊤
IsFaultOf octets e = fault_of octets ≡ Some e
