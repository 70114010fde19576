-- A number is not below itself.
use Rattle.std.proofs.Common.{◌≡◌, ℕ, false, nat_lt, arith}
use Rattle.std.proofs.lemmas.Bool.Decides.{nat_tests}

pub not_below : (n : ℕ) → nat_lt n n ≡ false
not_below n = grind (arith, nat_tests)
