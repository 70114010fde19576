-- No key of an identity is claimed by two establishments (TS 33.501, 6.10.3.1; TS 38.331, 5.3.5.6.5).
use Rattle.std.specs.Prelude.{List, false, true, ◌≡◌}
use Rattle.key_chain.specs.Book.{Claim, is_claimed, is_spent}

-- each claim that stands is of the only establishment that claims that key for that identity
abbrev pub AreOne : List Claim → Type 0
AreOne cs = (c : Claim) → is_claimed cs c ≡ true → is_spent cs c.id c.est c.key ≡ false

-- the key of a claim is not spent for its identity
abbrev pub IsUnspent : List Claim → Claim → Type 0
IsUnspent cs c = is_spent cs c.id c.est c.key ≡ false
