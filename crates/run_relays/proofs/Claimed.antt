-- What is claimed of a line by what is read of the past, the flight that its event gives and the one that it copies.
use Rattle.std.proofs.Common.{◌≡◌, Bool, true, List, [], ◌∷◌, ◌∙◌}
use Rattle.std.specs.List.{AllByRecursion}
use Rattle.dc_base.specs.declared.events.Line.{Line}
use Rattle.claims.specs.Claim.{EachLine}
use Rattle.claims.specs.Noted.{noted}
use Rattle.claims.specs.Past.{Past}
use Rattle.run_relays.proofs.Contexts.{context, noted_context}
use Rattle.run_relays.proofs.Pasts.{Becomes, becomes_then, noted_becomes}

-- the test holds of the line in each past that comes of this one while the same event happens
abbrev pub HoldsFrom : (Past → Line → Bool) → Past → Line → Type 0
HoldsFrom test p x = (q : Past) → Becomes p q → context q ≡ context p → test q x ≡ true

-- then it holds of each line
pub each_from : (test : Past → Line → Bool) (p : Past) (xs : List Line) (q : Past) → Becomes p q → context q ≡ context p → AllByRecursion (HoldsFrom test p) xs → EachLine test q xs
each_from test p [] q becomes same all = tt
each_from test p (x ∷ xs) q becomes same all =
    (all.0 q becomes same, each_from test p xs (noted q x) (becomes_then p q (noted q x) becomes (noted_becomes q x becomes.is)) (noted_context q x ∙ same) all.1)
