-- The round keys as the code keeps them: the planes of eight copies of each.
use Rattle.std.specs.Prelude.{◌≡◌, ℕ, ◌<◌, List, [], ◌∷◌, slice_index_or}
use Rattle.nea2.specs.Cipher.{round_key}
use Rattle.nea2.specs.declared.round_keys.RoundKey.{RoundKey}
use Rattle.nea2.specs.Planes.{IsFull, block_of}

-- the planes of a round key
abbrev pub planes_of : RoundKey → List (List ℕ)
planes_of k = k.p0 ∷ k.p1 ∷ k.p2 ∷ k.p3 ∷ k.p4 ∷ k.p5 ∷ k.p6 ∷ k.p7 ∷ []

-- what stands past the last of the round keys
abbrev pub no_round_key : RoundKey
no_round_key = record { p0 = []; p1 = []; p2 = []; p3 = []; p4 = []; p5 = []; p6 = []; p7 = [] }

-- the planes of round key r
abbrev pub planes_at : List RoundKey → ℕ → List (List ℕ)
planes_at keys r = planes_of (slice_index_or keys r no_round_key)

-- each plane of each round key has 16 lanes
abbrev pub AreFull : List RoundKey → Type 0
AreFull keys = (r : ℕ) → r < 11 → IsFull (planes_at keys r)

-- they are the round keys of the key, each in all eight blocks
abbrev pub HasRoundKeys : List RoundKey → List ℕ → Type 0
HasRoundKeys keys key = (r k : ℕ) → r < 11 → k < 8 → block_of (planes_at keys r) k ≡ round_key key r

-- the key, which is the first round key
abbrev pub key_of : List RoundKey → List ℕ
key_of keys = block_of (planes_at keys 0) 0
