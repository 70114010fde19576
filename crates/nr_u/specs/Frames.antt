-- The frames of a tunnel, octet by octet: this product's own layout, modelled on TS 38.425, 5.5.2.
use Rattle.std.specs.Prelude.{◌≡◌, ℕ, ◌+◌, ◌-◌, ◌*◌, ◌/◌, ◌%◌, ◌^◌, ◌<◌, ◌≤◌, ◌==◌, Bool, if◌then◌else◌, List, [], ◌∷◌, ◌++◌, length, drop, replicate, Option, Some, None, is_some, IfSome, ⊤}
use Rattle.std.specs.List.{flat_map, AllByRecursion}
use Rattle.std.specs.Int.{w32, to_be_bytes, bit_at}
use Rattle.nr_u.specs.declared.frame.Range.{Range}
use Rattle.nr_u.specs.declared.frame.Frame.{Frame}
use Rattle.nr_u.specs.declared.frame.Frame.TheVariants.{User, Status}

-- a number in three octets, the most significant first
abbrev pub number : ℕ → List ℕ
number n = drop 1 (to_be_bytes w32 n)

-- a range: its first number and its last
abbrev pub range : Range → List ℕ
range r = number r.from ++ number r.to

-- the highest sequence number of a delivery status, in three octets; no octets where it has none (None)
abbrev pub optional : Option ℕ → List ℕ
optional None = []
optional (Some n) = number n

-- the octets of a frame from octet 1 on, without the padding
abbrev pub fields : Frame → List ℕ
fields (User n user repeat) = number n
fields (Status highest lost) = length lost ∷ optional highest ++ flat_map range lost

-- whether the bit of the octet is 1
abbrev pub is_set : ℕ → ℕ → Bool
is_set octet bit = bit_at octet bit == 1

-- octet 0: the type in bits 7 to 4, and flags; the other bits are ignored
abbrev pub IsFirst : ℕ → Frame → Type 0
IsFirst octet (User n user repeat) = (octet / 2 ^ 4 ≡ 0) × (is_set octet 0 ≡ user) × (is_set octet 1 ≡ repeat)
IsFirst octet (Status highest lost) = (octet / 2 ^ 4 ≡ 1) × (is_set octet 0 ≡ is_some highest)

-- each range begins at low or above, and ends where it begins or above; low is past the range before
abbrev pub Rising : ℕ → List Range → Type 0
Rising low [] = ⊤
Rising low (r ∷ rs) = (low ≤ r.from) × (r.from ≤ r.to) × Rising (r.to + 1) rs

-- numbers of 24 bits in rising ranges
abbrev pub AreRanges : List Range → Type 0
AreRanges rs = Rising 0 rs × AllByRecursion (λ r. r.to < 2 ^ 24) rs

-- what has octets: numbers of 24 bits, a highest sequence number of 18 bits, and at most 255 ranges
abbrev pub Fits : Frame → Type 0
Fits (User n user repeat) = n < 2 ^ 24
Fits (Status highest lost) = IfSome highest (λ h. h < 2 ^ 18) × (length lost < 2 ^ 8) × AreRanges lost

-- The octets are this frame: octet 0, the fields, and 0 to 3 octets of padding, which are ignored.
pub record IsFrame (octets : List ℕ) (f : Frame) : Type 0 where
  pub first : ℕ
  pub padding : List ℕ
  pub parts : octets ≡ first ∷ fields f ++ padding
  pub first_is : IsFirst first f
  pub fits : Fits f
  pub short : length padding ≤ 3

-- what is written: at most 168 ranges, so that the frame ends within a container
abbrev pub IsWritable : Frame → Type 0
IsWritable (User n user repeat) = n < 2 ^ 24
IsWritable (Status highest lost) = IfSome highest (λ h. h < 2 ^ 18) × (length lost ≤ 168) × AreRanges lost

-- a flag as a bit of octet 0: 1 if it is set
abbrev pub flag : Bool → ℕ
flag b = if b then 1 else 0

-- octet 0 as it is written: the ignored bits are 0
abbrev pub first_octet : Frame → ℕ
first_octet (User n user repeat) = flag user + 2 * flag repeat
first_octet (Status highest lost) = 2 ^ 4 + flag (is_some highest)

-- the octets with 0 to 3 zeros after them, so that they are 4k - 2
abbrev pub padded : List ℕ → List ℕ
padded octets = octets ++ replicate ((6 - length octets % 4) % 4) 0

-- the one form in which a frame is written
abbrev pub written : Frame → List ℕ
written f = padded (first_octet f ∷ fields f)
