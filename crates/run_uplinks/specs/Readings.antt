-- What of the past decides whether an uplink PDU protects its submission.
use Rattle.std.specs.Prelude.{List, map, true, ℕ, ◌≡◌}
use Rattle.dc_base.specs.declared.events.Line.TheVariants as line
use Rattle.dc_base.specs.declared.nodes.Alg.{Alg}
use Rattle.dc_base.specs.declared.numbers.SnLen.{SnLen}
use Rattle.dc_base.specs.declared.records.Plan.{Plan}
use Rattle.claims.specs.Past.{Past}
use Rattle.claims.specs.Protected.{is_protected}
use Rattle.node_rules.specs.Choices.{Send}
use Rattle.run_uplinks.specs.Seen.{Seen, Uplink, seen}

-- of an establishment: its name, identity, length of SNs and first COUNT, and the payloads submitted in uplink
pub record Face : Type 0 where
  pub g : ℕ
  pub id : ℕ
  pub n : SnLen
  pub first : ℕ
  pub submitted : List (List ℕ)

-- of all
pub record Reading : Type 0 where
  pub alg : Alg
  pub roots : List (List ℕ)
  pub plans : List Plan
  pub faces : List Face

-- as it is seen of an establishment
abbrev pub face_of : Uplink → Face
face_of u = record { g = u.g; id = u.id; n = u.n; first = u.first; submitted = u.submitted }

-- as it is seen
abbrev pub reading : Seen → Reading
reading s = record { alg = s.alg; roots = s.roots; plans = s.plans; faces = map face_of s.bearers }

-- by each past of which this is read, a send protects the submission of its tag, if it carries a data PDU
abbrev pub IsGood : Reading → Send → Type 0
IsGood r x = (p : Past) → reading (seen p) ≡ r → is_protected p (line.Send x.0 x.1) ≡ true
