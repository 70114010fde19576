-- The book of keys as plain lists.
use Rattle.std.specs.Prelude.{◌==◌, ℕ, ◌+◌, ◌<◌, Bool, true, false, ◌&&◌, not, IsTrue, List, [], ◌∷◌, ◌++◌, slice_index, slice_set, if◌then◌else◌}
use Rattle.std.specs.List.{list_any}
use Rattle.std.specs.Str.{bytes_eq}
use Rattle.dc_base.specs.declared.nodes.KeyName.{KeyName}
use Rattle.dc_base.specs.declared.nodes.Side.{Side}
use Rattle.dc_base.specs.Nodes.{is_same_key}
use Rattle.dc_base.specs.declared.nodes.Side.TheVariants.{Master, Second}

-- a claim: this establishment of this bearer identity uses this key. An establishment is named by the generation
-- in which the bearer was set up.
pub record Claim : Type 0 where
  pub id : ℕ
  pub key : KeyName
  pub est : ℕ

-- the roots in the order noted, how many SN Counters of each were drawn, the number of the current root,
-- and the claims in the order made
pub record Book : Type 0 where
  pub roots : List (List ℕ)
  pub drawn : List ℕ
  pub current : ℕ
  pub claims : List Claim

-- how many SN Counters of a root were drawn
abbrev pub counters_drawn : Book → ℕ → ℕ
counters_drawn book root = slice_index book.drawn root

-- the counter of the side is one of the first so many
abbrev pub IsSideBelow : Side → ℕ → Type 0
IsSideBelow Master n = ⊥
IsSideBelow (Second counter) n = counter < n

-- the name is that of a K_SN whose SN Counter was drawn
abbrev pub IsDrawn : Book → KeyName → Type 0
IsDrawn book name = IsSideBelow name.side (counters_drawn book name.root)

-- the name of the next K_SN of the current root
abbrev pub next_name : Book → KeyName
next_name book = record { root = book.current; side = Second (counters_drawn book book.current) }

-- one more SN Counter of the current root is drawn
abbrev pub with_next_drawn : Book → Book
with_next_drawn book = record book { drawn = slice_set book.drawn book.current (counters_drawn book book.current + 1) }

-- one of the roots has these octets
abbrev pub is_noted : List (List ℕ) → List ℕ → Bool
is_noted roots root = list_any (bytes_eq root) roots

-- one more root is noted, and none of its counters is drawn
abbrev pub noting : Book → List ℕ → Book
noting book root = record book { roots = book.roots ++ root ∷ []; drawn = book.drawn ++ 0 ∷ [] }

-- the claim is of this identity and for this key
abbrev pub is_for : ℕ → KeyName → Claim → Bool
is_for id key claim = (id == claim.id) && is_same_key key claim.key

-- the claim is of this identity and for this key, and of an establishment other than est
abbrev pub spends : ℕ → ℕ → KeyName → Claim → Bool
spends id est key claim = is_for id key claim && not (claim.est == est)

-- an establishment other than est claimed this identity and key
abbrev pub is_spent : List Claim → ℕ → ℕ → KeyName → Bool
is_spent claims id est key = list_any (spends id est key) claims

-- both claims are of the same identity and establishment and for the same key
abbrev pub is_same_claim : Claim → Claim → Bool
is_same_claim new claim = is_for new.id new.key claim && (claim.est == new.est)

-- the claim stands already
abbrev pub is_claimed : List Claim → Claim → Bool
is_claimed claims new = list_any (is_same_claim new) claims

-- the claims with one more, unless it stands already
abbrev pub with_claim : List Claim → Claim → List Claim
with_claim claims new = if is_claimed claims new then claims else claims ++ new ∷ []

-- no identity is claimed for one key by two establishments: each claim is the only one of its identity and key
abbrev pub HasOneClaimant : List Claim → Type 0
HasOneClaimant [] = Unit {0}
HasOneClaimant (claim ∷ claims) = IsTrue (not (list_any (is_for claim.id claim.key) claims)) × HasOneClaimant claims
