-- Links that are told apart.
use Rattle.std.specs.Prelude.{◌≡◌, ℕ, ◌<◌, false, List, length, slice_index_or}
use Rattle.dc_base.specs.Links.{is_same_link}
use Rattle.dc_base.specs.declared.nodes.LinkId.{LinkId}

-- no link stands in two places of a list
abbrev pub AreApart : List LinkId → Type 0
AreApart links = (i k : ℕ) (d e : LinkId) → i < k → k < length links → is_same_link (slice_index_or links k d) (slice_index_or links i e) ≡ false
