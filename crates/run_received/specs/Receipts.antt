-- What the past has of the uplink of an establishment: what was submitted, what the receiving entity took and handed up, and who has
-- that entity.
use Rattle.std.specs.Option.{option_map}
use Rattle.std.specs.Prelude.{Bool, List, Option, map, filter, ℕ}
use Rattle.dc_base.specs.declared.nodes.Node.{Node}
use Rattle.dc_base.specs.declared.numbers.SnLen.{SnLen}
use Rattle.claims.specs.Confirming.{Confirmation}
use Rattle.claims.specs.Noted.{is_early_at}
use Rattle.claims.specs.Past.{Bearer, Early, Past}
use Rattle.claims.specs.Reading.{latest}
use Rattle.run_receivers.specs.Submitted.{Submitted}

-- of an establishment: its name, identity, length of SNs and first COUNT; the generation that the terminal has, and whether its SCG leg
-- failed there; the payloads submitted, those handed up with their COUNTs, and the COUNTs that the receiving entity's node took; what confirmed, Told, and
-- the COUNT of the
-- last `freed` line; who holds it in which generation, and in which it was held last; and what came early to an anchor that waits
pub record Receipt : Type 0 where
  pub g : ℕ
  pub id : ℕ
  pub n : SnLen
  pub first : ℕ
  pub terminal : Option ℕ
  pub is_failed : Bool
  pub submitted : List (List ℕ)
  pub handed : List (ℕ × List ℕ)
  pub taken : List ℕ
  pub confirms : List Confirmation
  pub told : ℕ
  pub freed : ℕ
  pub holder : Option (Node × ℕ)
  pub owned : ℕ
  pub early : List Early

-- what the past has of an establishment
abbrev pub receipt_of : Bearer → Receipt
receipt_of b = record {
  g = b.g;
  id = b.id;
  n = b.n;
  first = b.first;
  terminal = b.terminal;
  is_failed = b.is_failed;
  submitted = b.up.submitted;
  handed = b.up.handed;
  taken = b.up.taken;
  confirms = b.up.confirms;
  told = b.up.told;
  freed = b.up.freed;
  holder = b.holder;
  owned = b.owned;
  early = b.early;
}

-- of the latest establishment of an identity
abbrev pub receipt : Past → ℕ → Option Receipt
receipt p id = option_map receipt_of (latest p id)

-- what was submitted to it
abbrev pub submitted_to : Receipt → Submitted
submitted_to r = record { n = r.n; first = r.first; payloads = r.submitted }

-- the COUNTs that came early to a node in a generation
abbrev pub early_counts : Node → ℕ → Receipt → List ℕ
early_counts x g r = map (λ (e : Early). e.count) (filter (is_early_at x g) r.early)
