-- The book that the maps of the code stand for: each root with its count, and each claimed key with its claimant.
use Rattle.std.specs.Prelude.{ℕ, List, map}
use Rattle.std.specs.Map.{keys_of, values_of}
use Rattle.key_chain.specs.declared.key_book.KeyOfId.{KeyOfId}
use Rattle.key_chain.specs.Book.{Book, Claim}

-- an entry of the claims
abbrev pub claim_of : KeyOfId × ℕ → Claim
claim_of entry = record { id = entry.0.id; key = entry.0.key; est = entry.1 }

-- the claims in the order made
abbrev pub claims_of : List (KeyOfId × ℕ) → List Claim
claims_of entries = map claim_of entries

-- the book of these roots, each with how many of its SN Counters were drawn, where the current root has this
-- number, and these claims were made
abbrev pub book_of : List (List ℕ × ℕ) → ℕ → List (KeyOfId × ℕ) → Book
book_of roots current claims =
    record { roots = keys_of roots; drawn = values_of roots; current = current; claims = claims_of claims }
