use Rattle.std.proofs.Common.{◌≡◌, ℕ, [], ◌∷◌, slice_index, ◌∙◌}
use Rattle.std.specs.Prelude.{slice_index_or}
use Rattle.std.specs.Int.{bit_at}
use Rattle.std.proofs.lemmas.Nat.Bits.{same_from_bits_below}
use Rattle.nea2.specs.Planes.{octet_of}
use Rattle.nea2.proofs.Octets.{below_eight, octet_of-bit, octet_of-lt}
use Rattle.nea2.proofs.Swaps.{fits_lane}
use Rattle.nea2.proofs.transposition.copies.Goals as goal

pub returns-clause-octets : goal.returns-clause-octets
returns-clause-octets c j k lane block =
    let x = slice_index c.args.block j in
    let p = c.filled.result ∷ c.filled-2.result ∷ c.filled-3.result ∷ c.filled-4.result ∷ c.filled-5.result ∷ c.filled-6.result ∷ c.filled-7.result ∷ c.filled-8.result ∷ [] in
    same_from_bits_below 8 (octet_of p k j) x (octet_of-lt p k j) (fits_lane c.args.block c.fits-block.0 c.fits-block.1 j lane)
    (λ i low. octet_of-bit p k j i low
    ∙ below_eight (λ (i : ℕ). bit_at (slice_index (slice_index_or p i []) j) k ≡ bit_at x i)
    (c.filled.ensures.bits j k lane block)
    (c.filled-2.ensures.bits j k lane block)
    (c.filled-3.ensures.bits j k lane block)
    (c.filled-4.ensures.bits j k lane block)
    (c.filled-5.ensures.bits j k lane block)
    (c.filled-6.ensures.bits j k lane block)
    (c.filled-7.ensures.bits j k lane block)
    (c.filled-8.ensures.bits j k lane block) i low)
