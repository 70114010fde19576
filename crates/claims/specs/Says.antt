-- What the claims say that a reader is told of: each a relation in plain words. That it follows from the test is a lemma.
use Rattle.std.specs.List.{AllByRecursion, Contains}
use Rattle.std.specs.Prelude.{List, Some, [], false, map, true, ℕ, ◌+◌, ◌<◌, ◌≡◌, ◌≤◌}
use Rattle.dc_base.specs.Count.{window}
use Rattle.dc_base.specs.declared.nodes.Dir.{Dir}
use Rattle.dc_base.specs.declared.nodes.KeyName.{KeyName}
use Rattle.claims.specs.Views.{Pdu}
use Rattle.claims.specs.Table.{Claimed}
use Rattle.claims.specs.Past.{Bearer, Lane, Past}
use Rattle.claims.specs.Reading.{Setting, bearer_of, deliv, lane, latest, next_count, setting, submission}
use Rattle.claims.specs.Protected.{protected_pdu}
use Rattle.claims.specs.AtRest.{has_live_leg, is_at_rest, is_lossless, is_undisturbed}
use Rattle.claims.specs.Names.{told}

-- a PDU protects a submission: it is the PDU that carries that payload, under its COUNT, ciphered with the key of its plan
pub record Protects (p : Past) (d : Dir) (u : Pdu) : Type 0 where
  pub bearer : Bearer
  pub of_bearer : bearer_of p u.id u.g ≡ Some bearer
  pub set : Setting
  pub in_plan : setting p u.id u.g ≡ Some set
  pub count : ℕ
  pub tagged : u.tag ≡ Some count
  pub sdu : List ℕ
  pub submitted : submission d count bearer ≡ Some sdu
  pub octets_are : u.octets ≡ protected_pdu p bearer set.key d count sdu

-- a payload that goes up was carried: the node of the receiving entity took a data PDU of its COUNT before
pub record IsCarriedUp (p : Past) (id : ℕ) (d : Dir) (count : ℕ) : Type 0 where
  pub bearer : Bearer
  pub is_latest : latest p id ≡ Some bearer
  pub taken : Contains (lane d bearer).taken count

-- it is the next of what was submitted: so what was handed up is at every moment a front of what was submitted
pub record IsNextUp (p : Past) (id : ℕ) (d : Dir) (count : ℕ) (sdu : List ℕ) : Type 0 where
  pub bearer : Bearer
  pub is_latest : latest p id ≡ Some bearer
  pub counted : count ≡ deliv d bearer
  pub submitted : submission d count bearer ≡ Some sdu

-- a use of a key by an identity is of this establishment
abbrev pub IsUseOf : Bearer → KeyName → Claimed → Type 0
IsUseOf b key c = c.id ≡ b.id → c.key ≡ key → c.bearer ≡ b.g

-- the key of a data PDU is in use by its own establishment alone
pub record IsUsedOnce (p : Past) (u : Pdu) : Type 0 where
  pub bearer : Bearer
  pub of_bearer : bearer_of p u.id u.g ≡ Some bearer
  pub set : Setting
  pub in_plan : setting p u.id u.g ≡ Some set
  pub alone : AllByRecursion (IsUseOf bearer set.key) p.table.uses

-- `freed` comes where Told rose, with its value
pub record IsFreed (p : Past) (id : ℕ) (d : Dir) (count : ℕ) : Type 0 where
  pub bearer : Bearer
  pub is_latest : latest p id ≡ Some bearer
  pub value : count ≡ (lane d bearer).told
  pub rises : (lane d bearer).freed < count

-- the window of a direction
pub record IsInWindow (d : Dir) (b : Bearer) : Type 0 where
  pub told : (lane d b).told ≤ deliv d b
  pub handed : deliv d b ≤ next_count d b
  pub submitted : next_count d b ≤ (lane d b).told + window b.n

-- the payloads handed up in a direction
abbrev pub payloads : Lane → List (List ℕ)
payloads x = map (λ h. h.1) x.handed

-- all that was submitted was handed up, in both directions
pub record HasAll (b : Bearer) : Type 0 where
  pub up : payloads b.up ≡ b.up.submitted
  pub down : payloads b.down ≡ b.down.submitted

-- a bearer that can have all of it: it is established and was not dropped, none of its forwarded packets was ever lost,
-- and a leg of its last carried-out generation has not failed
pub record IsAble (p : Past) (b : Bearer) : Type 0 where
  pub is_done : b.is_done ≡ true
  pub not_dropped : b.is_dropped ≡ false
  pub none_lost : b.lost_forward ≡ false
  pub leg_left : has_live_leg (setting p b.id b.carried) b ≡ true

-- all of it: an able bearer has it at rest (no flight on any control link, none of its own on any other), where no
-- flight of its own was lost since its beginning, its last recovery or the last plan that set it was carried out
abbrev pub HasAllOfIt : Past → Bearer → Type 0
HasAllOfIt p b = IsAble p b → is_at_rest p b ≡ true → is_lossless b.calm ≡ true → HasAll b

-- and so a fortiori where all links are empty, and nothing was lost or failed and no plan set it since its beginning, or
-- nothing was lost or failed and no command came since its last recovery
abbrev pub HasAllUndisturbed : Past → Bearer → Type 0
HasAllUndisturbed p b = IsAble p b → p.standing ≡ [] → is_undisturbed b.calm ≡ true → HasAll b
