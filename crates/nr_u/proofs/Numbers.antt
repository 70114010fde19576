-- Numbers of three octets.
use Rattle.std.proofs.Common.{◌≡◌, ℕ, ◌/◌, ◌%◌, ◌^◌, ◌<◌, Option, Some, None, arith}
use Rattle.std.specs.Prelude.{IfSome}
use Rattle.dc_base.specs.declared.numbers.SnLen.{SnLen}
use Rattle.dc_base.specs.declared.numbers.SnLen.TheVariants.{S12, S18}
use Rattle.dc_base.specs.Count.{modulus}
use Rattle.nr_u.specs.Faults.{number_of}

-- a number is read back from its three octets
pub number_again : (n : ℕ) → n < 2 ^ 24 → number_of (n / 256 ^ 2 % 256) (n / 256 ^ 1 % 256) (n % 256) ≡ n
number_again n fits = omega arith

-- a number of 12 bits is a sequence number of either length
pub fits_each : (n : SnLen) (s : ℕ) → s < 4096 → s < modulus n
unfolding modulus
fits_each S12 s small = small
fits_each S18 s small = omega arith

-- a sequence number of either length has 18 bits
pub sn_small : (n : SnLen) (o : Option ℕ) → IfSome o (λ s. s < modulus n) → IfSome o (λ s. s < 2 ^ 18)
unfolding modulus
sn_small n None fits = tt
sn_small S12 (Some s) fits = omega (arith, fits)
sn_small S18 (Some s) fits = fits
