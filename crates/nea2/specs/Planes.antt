-- Eight blocks as eight planes: bit k of lane j of plane i is bit i of octet j of block k.
use Rattle.std.specs.Prelude.{◌≡◌, ℕ, ◌+◌, ◌*◌, ◌%◌, ◌==◌, if◌then◌else◌, ◌^◌, ◌<◌, List, [], length, slice_index, slice_index_or}
use Rattle.std.specs.Int.{bit_at, sum_through}
use Rattle.nea2.specs.Cipher.{square}

-- bit k of lane j of plane i
abbrev pub bit_of : List (List ℕ) → ℕ → ℕ → ℕ → ℕ
bit_of p i j k = bit_at (slice_index (slice_index_or p i []) j) k

-- each plane has 16 lanes
abbrev pub IsFull : List (List ℕ) → Type 0
IsFull p = (i : ℕ) → i < 8 → length (slice_index_or p i []) ≡ 16

-- octet j of block k
unfoldable pub octet_of : List (List ℕ) → ℕ → ℕ → ℕ
octet_of p k j = sum_through (λ i. bit_of p i j k * 2 ^ i) 7

-- block k
unfoldable pub block_of : List (List ℕ) → ℕ → List ℕ
block_of p k = square (λ r c. octet_of p k (r + 4 * c))

-- one of two by the lowest bit of a place
abbrev pub chosen : ℕ → ℕ → ℕ → ℕ
chosen place a b = if place % 2 == 0 then a else b

-- what octet j of counter block k differs by from that of the first of eight
abbrev pub number_octet : ℕ → ℕ → ℕ
number_octet j k = if j == 15 then k else 0
