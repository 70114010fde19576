use Rattle.std.proofs.Common.{ℕ, ◌+◌, ◌-◌, ◌/◌, ◌%◌, ◌^◌, ◌∙◌, ap, slice_index, bit_and}
use Rattle.std.specs.Int.{bit_at}
use Rattle.nea2.proofs.Swaps.{both, filled_bit, lanes, splat}
use Rattle.nea2.proofs.transposition.filled.Goals as goal

pub returns : goal.returns
returns c =
    let i = c.args.i in
    let all = both (λ (a b : ℕ). (a + (2 ^ 8 - b)) % 2 ^ 8) (splat 0) (both bit_and (both (λ (x n : ℕ). x / 2 ^ n) (lanes c.args.block c.fits-block.0) (splat i)) (splat 1)) in
    record {
      full = all.full;
      bits = λ j k lane block. ap (λ (n : ℕ). bit_at n k) (all.at j lane) ∙ filled_bit (slice_index c.args.block j) i k block;
    }
