-- The numbers that a made script draws: a linear congruence modulo 2^64, of which a draw uses the upper 31 bits.
use Rattle.std.specs.Prelude.{ℕ, ◌+◌, ◌*◌, ◌/◌, ◌%◌, ◌^◌}

-- the state after one more draw
unfoldable pub next_state : ℕ → ℕ
next_state x = (x * 6364136223846793005 + 1442695040888963407) % 2 ^ 64

-- the number below this one that is drawn in a state
unfoldable pub drawn : ℕ → ℕ → ℕ
drawn x below = (x / 2 ^ 33) % below
