-- The half of a derived key that is used.
use Rattle.std.proofs.Common.{◌≡◌, ◌∙◌, ℕ, ◌≤◌, List, [], ◌∷◌, length, take, drop, arith}
use Rattle.std.proofs.lemmas.List.{take_all, length-drop}
use Rattle.sha2.proofs.Facts256.{length-sha256}
use Rattle.dc_base.specs.declared.nodes.Alg.{Alg}
use Rattle.key_chain.specs.Hmac.{hmac}
use Rattle.key_chain.specs.Derived.{algorithm_identity, k_upenc}

-- a MAC has 32 octets
pub length-hmac : (key text : List ℕ) → length (hmac key text) ≡ 32
length-hmac key text = length-sha256 _

-- 16 octets from the 16th on are all that are left of a MAC
pub second_half : (mac key : List ℕ) (number : ℕ) (alg : Alg) → number ≡ algorithm_identity alg
    → mac ≡ hmac key (0x69 ∷ 0x05 ∷ 0 ∷ 1 ∷ number ∷ 0 ∷ 1 ∷ []) → take 16 (drop 16 mac) ≡ k_upenc key alg
second_half mac key number alg is e =
    let whole : length mac ≡ 32 = rw e (length-hmac key _) in
    let left : length (drop 16 mac) ≤ 16 = omega (arith, length-drop 16 mac) in
    take_all 16 (drop 16 mac) left ∙ rw (e, is) (λ _. k_upenc key alg)
