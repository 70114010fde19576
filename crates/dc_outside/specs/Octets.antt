-- What a read takes from the octets left, and what a write adds to the octets put out.
-- Both are told or not: of octets that are not told (None) nothing is said.
use Rattle.std.specs.Prelude.{◌≡◌, ℕ, ◌<◌, List, length, take, MatchResult, Option, Result}
use Rattle.std.specs.Io.KnownBytes.{Appends, Consumes, IsAtEnd, Keeps}

-- old begins with the octets given, and new is the rest; nothing is given only at the end or where there is no room
abbrev pub Reads : {E : Type 0} → Option (List ℕ) → Option (List ℕ) → Result ℕ E → List ℕ → Type 0
Reads old new result buffer =
    MatchResult result (λ n. Consumes old new (take n buffer) × (n ≡ 0 → 0 < length buffer → IsAtEnd new)) (λ _. Keeps old new)

-- new is old and then a front of these octets
abbrev pub AppendsFront : Option (List ℕ) → Option (List ℕ) → List ℕ → Type 0
AppendsFront old new octets = (n : ℕ) × Appends old new (take n octets)

-- all of the octets were added at Ok, a front of them at Err
abbrev pub Puts : {T E : Type 0} → Option (List ℕ) → Option (List ℕ) → Result T E → List ℕ → Type 0
Puts old new result octets = MatchResult result (λ _. Appends old new octets) (λ _. AppendsFront old new octets)
