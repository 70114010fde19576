-- The draws as they are computed: each operation modulo 2^64.
use Rattle.std.proofs.Common.{ℕ, ◌≡◌, ◌+◌, ◌*◌, ◌/◌, ◌%◌, ◌^◌, ◌≤◌, sym, ap, ◌∙◌, arith}
use Rattle.std.proofs.Math.Nat.{add-mul-mod_self_left, div-add-mod, mod-le}
use Rattle.made_scripts.specs.Draws.{next_state}

-- a sum modulo n, of which one part was taken modulo n before
mod_once : (a b n : ℕ) → (a % n + b) % n ≡ (a + b) % n
mod_once a b n =
    let whole : a % n + b + n * (a / n) ≡ a + b = omega (arith, div-add-mod a n) in
    sym (add-mul-mod_self_left (a % n + b) n (a / n)) ∙ ap (λ m. m % n) whole

pub next_computed : (x : ℕ) → (x * 6364136223846793005 % 2 ^ 64 + 1442695040888963407) % 2 ^ 64 ≡ next_state x
unfolding next_state
next_computed x = mod_once (x * 6364136223846793005) 1442695040888963407 (2 ^ 64)

-- what is left of a number is not more
pub not_more : (x n : ℕ) → x % n ≤ x
not_more x n = mod-le x n
