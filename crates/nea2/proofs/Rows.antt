-- Octets of planes: exclusive or, rows that move, the product with x, and whole blocks.
use Rattle.std.proofs.Common.{◌≡◌, ℕ, zero, suc, ◌+◌, ◌*◌, ◌%◌, ◌^◌, ◌<◌, List, [], ◌∷◌, ◌++◌, length, map, get_or, slice_index, bit_xor, arith, refl, sym, ap, ◌∙◌}
use Rattle.std.specs.Prelude.{slice_index_or}
use Rattle.std.specs.Int.{bit_at, sum_through}
use Rattle.std.specs.List.{range_with_len}
use Rattle.std.specs.Simd.Lanes.{zip2}
use Rattle.std.proofs.lemmas.List.{get_or_append_left}
use Rattle.std.proofs.lemmas.List.FromFn.{get_or-map-range_with_len}
use Rattle.std.proofs.lemmas.Nat.{xor_of_8}
use Rattle.std.proofs.lemmas.Nat.Bits.{bit_at_xor, same_from_bits, same_from_bits_below}
use Rattle.std.proofs.lemmas.Simd.{get_or-zip2, length-zip2}
use Rattle.nea2.specs.Cipher.{mixed, square}
use Rattle.nea2.specs.Field.{product, times_x}
use Rattle.nea2.specs.Circuit.{AllFollow}
use Rattle.nea2.specs.Planes.{IsFull, octet_of}
use Rattle.nea2.proofs.Gates.{octet_of-tables}
use Rattle.nea2.proofs.Octets.{below_eight, octet_of-bit, octet_of-lt}

-- what holds of each of four
pub below_four : (P : ℕ → Type 0) → P 0 → P 1 → P 2 → P 3 → (j : ℕ) → j < 4 → P j
below_four P p0 p1 p2 p3 zero h = p0
below_four P p0 p1 p2 p3 (suc zero) h = p1
below_four P p0 p1 p2 p3 (suc (suc zero)) h = p2
below_four P p0 p1 p2 p3 (suc (suc (suc zero))) h = p3
below_four P p0 p1 p2 p3 (suc (suc (suc (suc n)))) h = absurd (omega arith)

-- what holds of each entry of a square
pub each_entry : (P : ℕ → ℕ → Type 0) → P 0 0 → P 1 0 → P 2 0 → P 3 0 → P 0 1 → P 1 1 → P 2 1 → P 3 1
    → P 0 2 → P 1 2 → P 2 2 → P 3 2 → P 0 3 → P 1 3 → P 2 3 → P 3 3 → (r c : ℕ) → r < 4 → c < 4 → P r c
each_entry P a0 a1 a2 a3 b0 b1 b2 b3 c0 c1 c2 c3 d0 d1 d2 d3 r c lr lc =
    below_four (λ (m : ℕ). (n : ℕ) → n < 4 → P n m) (below_four _ a0 a1 a2 a3) (below_four _ b0 b1 b2 b3) (below_four _ c0 c1 c2 c3) (below_four _ d0 d1 d2 d3) c lc r lr

-- a lane of a vector, as a shuffle reads it
pub picked : (p : List ℕ) → length p ≡ 16 → (k : ℕ) → k < 16 → slice_index_or (p ++ p) k 0 ≡ slice_index p k
picked p full k low = get_or_append_left p p 0 k (omega (arith, full))

-- the planes of an exclusive or
pub octet_of-xor : (p q s : List (List ℕ)) → IsFull p → IsFull q
    → ((i : ℕ) → i < 8 → slice_index_or s i [] ≡ zip2 bit_xor (slice_index_or p i []) (slice_index_or q i []))
    → (j k : ℕ) → j < 16 → octet_of s k j ≡ bit_xor (octet_of p k j) (octet_of q k j)
octet_of-xor p q s full_p full_q e j k lane =
    same_from_bits_below 8 _ _ (octet_of-lt s k j) (xor_of_8 (octet_of p k j) (octet_of q k j) (octet_of-lt p k j) (octet_of-lt q k j)) (λ i low.
    let a = slice_index_or p i [] in
    let b = slice_index_or q i [] in
    octet_of-bit s k j i low
    ∙ ap (λ (v : List ℕ). bit_at (slice_index v j) k) (e i low)
    ∙ ap (λ (n : ℕ). bit_at n k) (get_or-zip2 bit_xor a b j 0 0 0 (omega (arith, full_p i low)) (omega (arith, full_q i low)))
    ∙ bit_at_xor (slice_index a j) (slice_index b j) k
    ∙ (λ x. (sym (octet_of-bit p k j i low) x + sym (octet_of-bit q k j i low) x) % 2)
    ∙ sym (bit_at_xor (octet_of p k j) (octet_of q k j) i))

pub IsFull-xor : (p q s : List (List ℕ)) → IsFull p → IsFull q
    → ((i : ℕ) → i < 8 → slice_index_or s i [] ≡ zip2 bit_xor (slice_index_or p i []) (slice_index_or q i []))
    → IsFull s
IsFull-xor p q s full_p full_q e i low =
    ap length (e i low) ∙ length-zip2 bit_xor (slice_index_or p i []) (slice_index_or q i []) (full_p i low ∙ sym (full_q i low)) ∙ full_p i low

-- as the code makes them
abbrev pub xor_planes : List (List ℕ) → List (List ℕ) → List (List ℕ)
xor_planes p q =
    let v = λ (i : ℕ). zip2 bit_xor (slice_index_or p i []) (slice_index_or q i []) in
    v 0 ∷ v 1 ∷ v 2 ∷ v 3 ∷ v 4 ∷ v 5 ∷ v 6 ∷ v 7 ∷ []

xor_planes-each : (p q : List (List ℕ)) (i : ℕ) → i < 8 → slice_index_or (xor_planes p q) i [] ≡ zip2 bit_xor (slice_index_or p i []) (slice_index_or q i [])
xor_planes-each p q =
    below_eight (λ (i : ℕ). slice_index_or (xor_planes p q) i [] ≡ zip2 bit_xor (slice_index_or p i []) (slice_index_or q i []))
    refl refl refl refl refl refl refl refl

pub IsFull-xor_planes : (p q : List (List ℕ)) → IsFull p → IsFull q → IsFull (xor_planes p q)
IsFull-xor_planes p q full_p full_q = IsFull-xor p q (xor_planes p q) full_p full_q (xor_planes-each p q)

pub octet_of-xor_planes : (p q : List (List ℕ)) → IsFull p → IsFull q
    → (j k : ℕ) → j < 16 → octet_of (xor_planes p q) k j ≡ bit_xor (octet_of p k j) (octet_of q k j)
octet_of-xor_planes p q full_p full_q = octet_of-xor p q (xor_planes p q) full_p full_q (xor_planes-each p q)

-- squares with the same entries
pub square-same : (e f : ℕ → ℕ → ℕ) → ((r c : ℕ) → r < 4 → c < 4 → e r c ≡ f r c) → square e ≡ square f
square-same e f same =
    let s = λ (r c : ℕ) (lr : r < 4) (lc : c < 4). same r c lr lc in
    λ i. s 0 0 (omega arith) (omega arith) i ∷ s 1 0 (omega arith) (omega arith) i ∷ s 2 0 (omega arith) (omega arith) i ∷ s 3 0 (omega arith) (omega arith) i
    ∷ s 0 1 (omega arith) (omega arith) i ∷ s 1 1 (omega arith) (omega arith) i ∷ s 2 1 (omega arith) (omega arith) i ∷ s 3 1 (omega arith) (omega arith) i
    ∷ s 0 2 (omega arith) (omega arith) i ∷ s 1 2 (omega arith) (omega arith) i ∷ s 2 2 (omega arith) (omega arith) i ∷ s 3 2 (omega arith) (omega arith) i
    ∷ s 0 3 (omega arith) (omega arith) i ∷ s 1 3 (omega arith) (omega arith) i ∷ s 2 3 (omega arith) (omega arith) i ∷ s 3 3 (omega arith) (omega arith) i ∷ []

-- two functions that the checker computed on each octet
at_octet : (f g : ℕ → ℕ) → map f (range_with_len 0 256) ≡ map g (range_with_len 0 256) → (n : ℕ) → n < 256 → f n ≡ g n
at_octet f g rule n low =
    sym (get_or-map-range_with_len f 0 256 n n 0 low (omega arith))
    ∙ ap (λ (t : List ℕ). get_or t n 0) rule
    ∙ get_or-map-range_with_len g 0 256 n n 0 low (omega arith)

once : (n : ℕ) → n < 256 → product 1 n ≡ n
unfolding product
once = at_octet (product 1) (λ (n : ℕ). n) refl

twice : (n : ℕ) → n < 256 → product 2 n ≡ times_x n
unfolding product
twice = at_octet (product 2) times_x refl

thrice : (n : ℕ) → n < 256 → product 3 n ≡ bit_xor n (times_x n)
unfolding product
thrice = at_octet (product 3) (λ (n : ℕ). bit_xor n (times_x n)) refl

-- the product with x is linear: the checker computes it on each pair of octets
pairs : map (λ (a : ℕ). map (λ (b : ℕ). times_x (bit_xor a b)) (range_with_len 0 256)) (range_with_len 0 256)
    ≡ map (λ (a : ℕ). map (λ (b : ℕ). bit_xor (times_x a) (times_x b)) (range_with_len 0 256)) (range_with_len 0 256)
pairs = refl

pub times_x-xor : (a b : ℕ) → a < 256 → b < 256 → times_x (bit_xor a b) ≡ bit_xor (times_x a) (times_x b)
times_x-xor a b la lb =
    at_octet (λ (n : ℕ). times_x (bit_xor a n)) (λ (n : ℕ). bit_xor (times_x a) (times_x n))
    (sym (get_or-map-range_with_len (λ (m : ℕ). map (λ (n : ℕ). times_x (bit_xor m n)) (range_with_len 0 256)) 0 256 a a [] la (omega arith))
    ∙ ap (λ (t : List (List ℕ)). get_or t a []) pairs
    ∙ get_or-map-range_with_len (λ (m : ℕ). map (λ (n : ℕ). bit_xor (times_x m) (times_x n)) (range_with_len 0 256)) 0 256 a a [] la (omega arith))
    b lb

-- the tables of the bits of an octet times x
abbrev pub times_x_tables : List ℕ
times_x_tables =
    0xffffffffffffffffffffffffffffffff00000000000000000000000000000000 ∷ 0x55555555555555555555555555555555aaaaaaaaaaaaaaaaaaaaaaaaaaaaaaaa ∷ 0xcccccccccccccccccccccccccccccccccccccccccccccccccccccccccccccccc ∷ 0xf0f0f0f0f0f0f0f0f0f0f0f0f0f0f0ff0f0f0f0f0f0f0f0f0f0f0f0f0f0f0f0 ∷ 0xff00ff00ff00ff00ff00ff00ff00ffff00ff00ff00ff00ff00ff00ff00ff00 ∷ 0xffff0000ffff0000ffff0000ffff0000ffff0000ffff0000ffff0000ffff0000 ∷ 0xffffffff00000000ffffffff00000000ffffffff00000000ffffffff00000000 ∷ 0xffffffffffffffff0000000000000000ffffffffffffffff0000000000000000 ∷ []

times_x_rule : map (λ (n : ℕ). sum_through (λ (i : ℕ). bit_at (slice_index times_x_tables i) n * 2 ^ i) 7) (range_with_len 0 256)
    ≡ map times_x (range_with_len 0 256)
times_x_rule = refl

pub octet_of-times_x : (q p : List (List ℕ)) → AllFollow q p times_x_tables → (j k : ℕ) → j < 16 → k < 8
    → octet_of p k j ≡ times_x (octet_of q k j)
octet_of-times_x = octet_of-tables times_x times_x_tables times_x_rule refl

-- the same summands in another order
sum_0 : (A B b c d : ℕ) → bit_xor (bit_xor (bit_xor A B) b) (bit_xor c d) ≡ bit_xor (bit_xor (bit_xor A (bit_xor b B)) c) d
sum_0 A B b c d = same_from_bits _ _ (λ i. omega (
  arith,
  bit_at_xor A B i,
  bit_at_xor (bit_xor A B) b i,
  bit_at_xor c d i,
  bit_at_xor (bit_xor (bit_xor A B) b) (bit_xor c d) i,
  bit_at_xor b B i,
  bit_at_xor A (bit_xor b B) i,
  bit_at_xor (bit_xor A (bit_xor b B)) c i,
  bit_at_xor (bit_xor (bit_xor A (bit_xor b B)) c) d i,
))

sum_1 : (A B b c d : ℕ) → bit_xor (bit_xor (bit_xor A B) b) (bit_xor c d) ≡ bit_xor (bit_xor (bit_xor d A) (bit_xor b B)) c
sum_1 A B b c d = same_from_bits _ _ (λ i. omega (
  arith,
  bit_at_xor A B i,
  bit_at_xor (bit_xor A B) b i,
  bit_at_xor c d i,
  bit_at_xor (bit_xor (bit_xor A B) b) (bit_xor c d) i,
  bit_at_xor b B i,
  bit_at_xor d A i,
  bit_at_xor (bit_xor d A) (bit_xor b B) i,
  bit_at_xor (bit_xor (bit_xor d A) (bit_xor b B)) c i,
))

sum_2 : (A B b c d : ℕ) → bit_xor (bit_xor (bit_xor A B) b) (bit_xor c d) ≡ bit_xor (bit_xor (bit_xor c d) A) (bit_xor b B)
sum_2 A B b c d = same_from_bits _ _ (λ i. omega (
  arith,
  bit_at_xor A B i,
  bit_at_xor (bit_xor A B) b i,
  bit_at_xor c d i,
  bit_at_xor (bit_xor (bit_xor A B) b) (bit_xor c d) i,
  bit_at_xor b B i,
  bit_at_xor (bit_xor c d) A i,
  bit_at_xor (bit_xor (bit_xor c d) A) (bit_xor b B) i,
))

sum_3 : (A B b c d : ℕ) → bit_xor (bit_xor (bit_xor A B) b) (bit_xor c d) ≡ bit_xor (bit_xor (bit_xor (bit_xor b B) c) d) A
sum_3 A B b c d = same_from_bits _ _ (λ i. omega (
  arith,
  bit_at_xor A B i,
  bit_at_xor (bit_xor A B) b i,
  bit_at_xor c d i,
  bit_at_xor (bit_xor (bit_xor A B) b) (bit_xor c d) i,
  bit_at_xor b B i,
  bit_at_xor (bit_xor b B) c i,
  bit_at_xor (bit_xor (bit_xor b B) c) d i,
  bit_at_xor (bit_xor (bit_xor (bit_xor b B) c) d) A i,
))

-- what the code makes of the octets a of a row and b, c, d of the rows below it
abbrev pub summed : ℕ → ℕ → ℕ → ℕ → ℕ
summed a b c d = bit_xor (bit_xor (times_x (bit_xor a b)) b) (bit_xor c d)

linear : (a b c d : ℕ) → a < 256 → b < 256 → summed a b c d ≡ bit_xor (bit_xor (bit_xor (times_x a) (times_x b)) b) (bit_xor c d)
linear a b c d la lb = ap (λ (n : ℕ). bit_xor (bit_xor n b) (bit_xor c d)) (times_x-xor a b la lb)

pub mixed_0 : (a b c d : ℕ) → a < 256 → b < 256 → c < 256 → d < 256 → summed a b c d ≡ mixed 0 a b c d
mixed_0 a b c d la lb lc ld =
    linear a b c d la lb ∙ sum_0 (times_x a) (times_x b) b c d
    ∙ sym (λ i. bit_xor (bit_xor (bit_xor (twice a la i) (thrice b lb i)) (once c lc i)) (once d ld i))

pub mixed_1 : (a b c d : ℕ) → a < 256 → b < 256 → c < 256 → d < 256 → summed a b c d ≡ mixed 1 d a b c
mixed_1 a b c d la lb lc ld =
    linear a b c d la lb ∙ sum_1 (times_x a) (times_x b) b c d
    ∙ sym (λ i. bit_xor (bit_xor (bit_xor (once d ld i) (twice a la i)) (thrice b lb i)) (once c lc i))

pub mixed_2 : (a b c d : ℕ) → a < 256 → b < 256 → c < 256 → d < 256 → summed a b c d ≡ mixed 2 c d a b
mixed_2 a b c d la lb lc ld =
    linear a b c d la lb ∙ sum_2 (times_x a) (times_x b) b c d
    ∙ sym (λ i. bit_xor (bit_xor (bit_xor (once c lc i) (once d ld i)) (twice a la i)) (thrice b lb i))

pub mixed_3 : (a b c d : ℕ) → a < 256 → b < 256 → c < 256 → d < 256 → summed a b c d ≡ mixed 3 b c d a
mixed_3 a b c d la lb lc ld =
    linear a b c d la lb ∙ sum_3 (times_x a) (times_x b) b c d
    ∙ sym (λ i. bit_xor (bit_xor (bit_xor (thrice b lb i) (once c lc i)) (once d ld i)) (twice a la i))
