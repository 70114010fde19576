-- The keys derived from a root, on lists of octets (TS 33.220, B.2; TS 33.501, A.8 and A.16).
use Rattle.std.specs.Prelude.{ℕ, ◌/◌, ◌%◌, List, [], ◌∷◌, ◌++◌, length, drop}
use Rattle.dc_base.specs.declared.nodes.Alg.{Alg}
use Rattle.dc_base.specs.declared.nodes.Alg.TheVariants.{Nea0, Nea2}
use Rattle.key_chain.specs.Hmac.{hmac}

-- a number below 65,536 in two octets, the high one first
abbrev pub two_octets : ℕ → List ℕ
two_octets n = n / 256 ∷ n % 256 ∷ []

-- the parameters, each followed by its length in two octets
abbrev pub parameters : List (List ℕ) → List ℕ
parameters [] = []
parameters (p ∷ ps) = p ++ two_octets (length p) ++ parameters ps

-- the key derivation function: the MAC of FC and the parameters (TS 33.220, B.2.0)
abbrev pub kdf : List ℕ → ℕ → List (List ℕ) → List ℕ
kdf key fc ps = hmac key (fc ∷ parameters ps)

-- K_SN of a root and an SN Counter (TS 33.501, A.16)
abbrev pub k_sn : List ℕ → ℕ → List ℕ
k_sn root counter = kdf root 0x79 (two_octets counter ∷ [])

-- the number of a ciphering algorithm (TS 33.501, 5.11.1.1)
abbrev pub algorithm_identity : Alg → ℕ
algorithm_identity Nea0 = 0
algorithm_identity Nea2 = 2

-- K_UPenc of a root or a K_SN: the last 16 of the 32 octets derived for the algorithm type 05, user
-- plane ciphering (TS 33.501, A.8)
abbrev pub k_upenc : List ℕ → Alg → List ℕ
k_upenc key alg = drop 16 (kdf key 0x69 ((0x05 ∷ []) ∷ (algorithm_identity alg ∷ []) ∷ []))
