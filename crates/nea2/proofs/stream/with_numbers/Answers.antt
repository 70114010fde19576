use Rattle.std.proofs.Common.{◌≡◌, ℕ, [], ◌∷◌, ◌<◌, bit_xor, refl, ap, ◌∙◌, List}
use Rattle.std.specs.Prelude.{replicate}
use Rattle.nea2.specs.Planes.{number_octet, octet_of}
use Rattle.nea2.proofs.Octets.{below_eight}
use Rattle.nea2.proofs.Swaps.{below_sixteen}
use Rattle.nea2.proofs.stream.with_numbers.Goals as goal

abbrev numbers : List (List ℕ)
numbers =
    (0 ∷ 0 ∷ 0 ∷ 0 ∷ 0 ∷ 0 ∷ 0 ∷ 0 ∷ 0 ∷ 0 ∷ 0 ∷ 0 ∷ 0 ∷ 0 ∷ 0 ∷ 0xaa ∷ []) ∷ (0 ∷ 0 ∷ 0 ∷ 0 ∷ 0 ∷ 0 ∷ 0 ∷ 0 ∷ 0 ∷ 0 ∷ 0 ∷ 0 ∷ 0 ∷ 0 ∷ 0 ∷ 0xcc ∷ [])
    ∷ (0 ∷ 0 ∷ 0 ∷ 0 ∷ 0 ∷ 0 ∷ 0 ∷ 0 ∷ 0 ∷ 0 ∷ 0 ∷ 0 ∷ 0 ∷ 0 ∷ 0 ∷ 0xf0 ∷ []) ∷ replicate 16 0 ∷ replicate 16 0 ∷ replicate 16 0 ∷ replicate 16 0 ∷ replicate 16 0 ∷ []

eight : (j : ℕ) → (octet_of numbers 0 j ≡ number_octet j 0) → (octet_of numbers 1 j ≡ number_octet j 1) → (octet_of numbers 2 j ≡ number_octet j 2) → (octet_of numbers 3 j ≡ number_octet j 3)
    → (octet_of numbers 4 j ≡ number_octet j 4) → (octet_of numbers 5 j ≡ number_octet j 5) → (octet_of numbers 6 j ≡ number_octet j 6) → (octet_of numbers 7 j ≡ number_octet j 7)
    → (k : ℕ) → k < 8 → octet_of numbers k j ≡ number_octet j k
eight j = below_eight (λ (k : ℕ). octet_of numbers k j ≡ number_octet j k)

numbers_are : (j k : ℕ) → j < 16 → k < 8 → octet_of numbers k j ≡ number_octet j k
unfolding octet_of
numbers_are j k lane block =
    below_sixteen (λ (j : ℕ). (k : ℕ) → k < 8 → octet_of numbers k j ≡ number_octet j k)
    (eight 0 refl refl refl refl refl refl refl refl)
    (eight 1 refl refl refl refl refl refl refl refl)
    (eight 2 refl refl refl refl refl refl refl refl)
    (eight 3 refl refl refl refl refl refl refl refl)
    (eight 4 refl refl refl refl refl refl refl refl)
    (eight 5 refl refl refl refl refl refl refl refl)
    (eight 6 refl refl refl refl refl refl refl refl)
    (eight 7 refl refl refl refl refl refl refl refl)
    (eight 8 refl refl refl refl refl refl refl refl)
    (eight 9 refl refl refl refl refl refl refl refl)
    (eight 10 refl refl refl refl refl refl refl refl)
    (eight 11 refl refl refl refl refl refl refl refl)
    (eight 12 refl refl refl refl refl refl refl refl)
    (eight 13 refl refl refl refl refl refl refl refl)
    (eight 14 refl refl refl refl refl refl refl refl)
    (eight 15 refl refl refl refl refl refl refl refl)
    j lane k block

pub returns-clause-octets : goal.returns-clause-octets
returns-clause-octets c j k lane block =
    c.xored.ensures.octets j k lane ∙ ap (bit_xor (octet_of c.args.p k j)) (numbers_are j k lane block)
