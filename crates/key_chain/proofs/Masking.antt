-- Padding and masking a block of octets.
use Rattle.std.proofs.Common.{◌≡◌, ℕ, ◌+◌, ◌<◌, List, ◌++◌, length, take, drop, replicate, get_or, set, bit_xor, arith, refl}
use Rattle.std.proofs.lemmas.List.{drop-replicate, get_or_default, length-append, length-map, length-take, length-drop}
use Rattle.std.proofs.lemmas.List.Edits.{map_over_more}
use Rattle.key_chain.specs.Hmac.{padded_to_block, xored_with}

-- a key written over the front of 64 zeros
pub written_key : (key front : List ℕ) → front ≡ key → front ++ drop (length key) (replicate 64 0) ≡ padded_to_block key
written_key key front e = rw (e, drop-replicate) refl

-- the octets below i are masked, and those from i on are the block's
abbrev pub masked_below : ℕ → List ℕ → ℕ → List ℕ
masked_below pad block i = xored_with pad (take i block) ++ drop i block

pub length-masked_below : (pad : ℕ) (block : List ℕ) (i : ℕ) → length (masked_below pad block i) ≡ length block
length-masked_below pad block i =
    omega (arith, length-append (xored_with pad (take i block)) (drop i block), length-map (take i block) (λ o. bit_xor o pad), length-take i block, length-drop i block)

-- one more octet masked
pub masked_more : (pad : ℕ) (block items : List ℕ) (i : ℕ) → i < length block → items ≡ masked_below pad block i
    → set items i (bit_xor (get_or items i 0) pad) ≡ masked_below pad block (i + 1)
masked_more pad block items i inside e =
    let long : length items ≡ length block = rw e (length-masked_below pad block i) in
    map_over_more (λ o. bit_xor o pad) block items i (get_or items i 0) inside e (get_or_default items i 0 (get_or items i 0) (omega arith))
