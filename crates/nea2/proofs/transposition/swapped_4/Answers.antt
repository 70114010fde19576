use Rattle.std.proofs.Common.{ℕ, ◌*◌, ◌/◌, ◌%◌, ◌^◌, ◌<◌, ◌∙◌, ap, arith, subst, sym, slice_index, bit_and, bit_xor}
use Rattle.std.specs.Int.{bit_at}
use Rattle.nea2.proofs.Swaps.{both, fits_lane, high_4, high_fits, lanes, low_4, low_fits, splat}
use Rattle.nea2.proofs.transposition.swapped_4.Goals as goal

pub returns : goal.returns
returns c =
    let a = lanes c.args.a c.fits-a.0 in
    let b = lanes c.args.b c.fits-b.0 in
    let t = both bit_and (both bit_xor (both (λ (x n : ℕ). x / 2 ^ n) a (splat 4)) b) (splat 15) in
    let first = both bit_xor a (both (λ (x n : ℕ). x * 2 ^ n % 2 ^ 8) t (splat 4)) in
    let second = both bit_xor b t in
    record {
      full_first = first.full;
      full_second = second.full;
      fits_first = λ j lane.
          let x = slice_index c.args.a j in
          let y = slice_index c.args.b j in
          subst (λ (n : ℕ). n < 2 ^ 8) (sym (first.at j lane)) (low_fits 4 15 x y (fits_lane c.args.a c.fits-a.0 c.fits-a.1 j lane));
      fits_second = λ j lane.
          let x = slice_index c.args.a j in
          let y = slice_index c.args.b j in
          subst (λ (n : ℕ). n < 2 ^ 8) (sym (second.at j lane)) (high_fits 4 15 x y (fits_lane c.args.b c.fits-b.0 c.fits-b.1 j lane) (omega arith));
      first = λ j k lane block. ap (λ (n : ℕ). bit_at n k) (first.at j lane)
          ∙ low_4 (slice_index c.args.a j) (slice_index c.args.b j) k (fits_lane c.args.a c.fits-a.0 c.fits-a.1 j lane) (fits_lane c.args.b c.fits-b.0 c.fits-b.1 j lane) block;
      second = λ j k lane block. ap (λ (n : ℕ). bit_at n k) (second.at j lane)
          ∙ high_4 (slice_index c.args.a j) (slice_index c.args.b j) k (fits_lane c.args.a c.fits-a.0 c.fits-a.1 j lane) (fits_lane c.args.b c.fits-b.0 c.fits-b.1 j lane) block;
    }
