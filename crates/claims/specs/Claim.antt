-- The form of a claim: a test of each line, with the past up to it, and a test of each entry, with the past before it and
-- after it.
use Rattle.std.specs.Prelude.{Bool, List, [], true, ⊤, ◌&&◌, ◌∷◌, ◌≡◌}
use Rattle.dc_base.specs.declared.events.Line.{Line}
use Rattle.transcript.specs.Transcript.{Entry}
use Rattle.claims.specs.Past.{Past}
use Rattle.claims.specs.Judged.{judged}
use Rattle.claims.specs.Noted.{after, noted}

-- the two tests
pub record Claim : Type 0 where
  pub of_line : Past → Line → Bool
  pub of_entry : Past → Entry → Past → Bool

-- the claim of lines alone
abbrev pub of_lines : (Past → Line → Bool) → Claim
of_lines f = record { of_line = f; of_entry = λ p e q. true }

-- the claim of entries alone
abbrev pub of_entries : (Past → Entry → Past → Bool) → Claim
of_entries f = record { of_line = λ p x. true; of_entry = f }

-- the claim holds of each of an event's lines
abbrev pub EachLine : (Past → Line → Bool) → Past → List Line → Type 0
EachLine c p [] = ⊤
EachLine c p (x ∷ xs) = (c p x ≡ true) × EachLine c (noted p x) xs

-- and of each entry
abbrev pub Each : Claim → Past → List Entry → Type 0
Each c p [] = ⊤
Each c p (e ∷ es) =
    EachLine c.of_line (judged e.event e.answer p) e.lines × (c.of_entry p e (after p e) ≡ true) × Each c (after p e) es

-- of lines, as a test
abbrev pub each_line : (Past → Line → Bool) → Past → List Line → Bool
each_line c p [] = true
each_line c p (x ∷ xs) = c p x && each_line c (noted p x) xs

-- of entries, as a test
abbrev pub each : Claim → Past → List Entry → Bool
each c p [] = true
each c p (e ∷ es) = each_line c.of_line (judged e.event e.answer p) e.lines && c.of_entry p e (after p e) && each c (after p e) es
