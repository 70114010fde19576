-- No key, identity, direction and COUNT protects two payloads (TS 33.501, 6.10.3.1): a key of an identity is in use for one
-- establishment, and an establishment has one payload for each COUNT.
use Rattle.std.specs.List.{list_all}
use Rattle.std.specs.Prelude.{Bool, List, Option, Some, false, filter, length, nat_lt, true, ℕ, ◌&&◌, ◌==◌}
use Rattle.dc_base.specs.declared.events.Line.{Line}
use Rattle.dc_base.specs.declared.events.Line.TheVariants as line
use Rattle.dc_base.specs.declared.nodes.KeyName.{KeyName}
use Rattle.dc_base.specs.declared.records.Item.{Item}
use Rattle.dc_base.specs.declared.records.Item.TheVariants.{Set, Unset}
use Rattle.dc_base.specs.declared.records.Plan.{Plan}
use Rattle.claims.specs.Sameness.{is_none_or, is_same_key, is_some_and}
use Rattle.claims.specs.Views.{carried_plan, data_of}
use Rattle.claims.specs.Table.{Claimed}
use Rattle.claims.specs.Past.{Bearer, Past}
use Rattle.claims.specs.Reading.{Setting, bearer_of, setting}

-- the keys in use for an identity under this name
abbrev pub uses_of : ℕ → KeyName → List Claimed → List Claimed
uses_of id key cs = filter (λ c. (c.id == id) && is_same_key key c.key) cs

-- the key is in use for this establishment of the identity, and for no other
abbrev pub is_used_by : ℕ → KeyName → ℕ → List Claimed → Bool
is_used_by id key g cs = let same = uses_of id key cs in nat_lt 0 (length same) && list_all (λ c. c.bearer == g) same

-- so is the key of a data PDU
abbrev pub uses_once : Past → Option Setting → Option Bearer → Bool
uses_once p (Some s) (Some b) = is_used_by b.id s.key b.g p.table.uses
uses_once p _ _ = false

-- no other establishment of the identity uses the key that an item sets
abbrev pub is_unused : Past → ℕ → Item → Bool
is_unused p g (Set id n first shape threshold policy key old) =
    is_some_and (λ b. list_all (λ c. c.bearer == b.g) (uses_of id key p.table.uses)) (bearer_of p id g)
is_unused p g (Unset id) = true

-- a plan that is carried out brings no key of another establishment
abbrev pub plan_is_unused : Past → Plan → Bool
plan_is_unused p q = list_all (is_unused p q.g) q.items

-- so it is of each plan that the terminal is sent, and of the key of each data PDU
abbrev pub is_one_use : Past → Line → Bool
is_one_use p (line.Send l f) =
    is_none_or (λ u. uses_once p (setting p u.id u.g) (bearer_of p u.id u.g)) (data_of f) && is_none_or (plan_is_unused p) (carried_plan f)
is_one_use p _ = true
