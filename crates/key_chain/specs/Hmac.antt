-- HMAC with SHA-256 (FIPS 198-1), on lists of octets. A block of SHA-256 has 64 octets.
use Rattle.std.specs.Prelude.{ℕ, ◌-◌, List, ◌++◌, length, map, replicate, bit_xor, nat_le, if◌then◌else◌}
use Rattle.sha2.specs.Sha256.{sha256}

-- the key with zeros behind it, up to a block
abbrev pub padded_to_block : List ℕ → List ℕ
padded_to_block key = key ++ replicate (64 - length key) 0

-- the key as one block: a longer key is hashed first (section 4, steps 1 to 3)
abbrev pub block_key : List ℕ → List ℕ
block_key key = if nat_le (length key) 64 then padded_to_block key else padded_to_block (sha256 key)

-- each octet combined with the same octet
abbrev pub xored_with : ℕ → List ℕ → List ℕ
xored_with pad octets = map (λ o. bit_xor o pad) octets

-- the MAC of the text under the key (section 4, steps 4 to 9): ipad is the octet 36, opad 5c
abbrev pub hmac : List ℕ → List ℕ → List ℕ
hmac key text =
    let k = block_key key in
    sha256 (xored_with 0x5c k ++ sha256 (xored_with 0x36 k ++ text))
