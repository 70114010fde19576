-- The command table of the master: what the plans that were carried out made of the bearers, the keys and the secondary node.
use Rattle.std.specs.List.{list_any}
use Rattle.std.specs.Prelude.{Bool, List, None, Option, Some, [], filter, find, flat_map, fold, if◌then◌else◌, nat_lt, not, slice_set, ℕ, ◌+◌, ◌==◌, ◌∷◌}
use Rattle.dc_base.specs.declared.nodes.KeyName.{KeyName}
use Rattle.dc_base.specs.declared.nodes.Node.{Node}
use Rattle.dc_base.specs.declared.nodes.Shape.{Shape}
use Rattle.dc_base.specs.declared.nodes.Side.TheVariants as side
use Rattle.dc_base.specs.declared.numbers.SnLen.{SnLen}
use Rattle.dc_base.specs.declared.records.Item.{Item}
use Rattle.dc_base.specs.declared.records.Item.TheVariants as item
use Rattle.dc_base.specs.declared.records.Plan.{Plan}
use Rattle.key_chain.specs.Book.{Book, Claim, counters_drawn, is_spent, with_claim}
use Rattle.node_rules.specs.Places.{anchor_at}
use Rattle.node_rules.specs.declared.commands.Row.{Row}
use Rattle.node_rules.specs.declared.commands.Change.{Change}

-- the secondary node, the book of root keys, SN Counters and claims, the current K_SN, the bearers by ascending identity, and
-- the generation drawn last; before the first K_SN the name of the current one does not matter (this product's own)
pub record Table : Type 0 where
  pub sec : Option Node
  pub book : Book
  pub second_key : KeyName
  pub rows : List Row
  pub last : ℕ

-- the master's key of a root (TS 33.501, 6.10; the name is this product's own)
abbrev pub master_key_of : ℕ → KeyName
master_key_of root = record { root = root; side = side.Master }

-- K_SN of a root and an SN Counter (TS 33.501, 6.10.3.1)
abbrev pub second_key_of : ℕ → ℕ → KeyName
second_key_of root counter = record { root = root; side = side.Second counter }

-- the table before the first command, with so many SN Counters of the first root drawn before (this product's own)
abbrev pub new_table : ℕ → List ℕ → Table
new_table used root = record {
  sec = None;
  book = record { roots = root ∷ []; drawn = used ∷ []; current = 0; claims = [] };
  second_key = second_key_of 0 0;
  rows = [];
  last = 0;
}

-- the bearer of an identity (this product's own)
abbrev pub row : Table → ℕ → Option Row
row t id = find (λ r. r.id == id) t.rows

-- one more SN Counter of a root is drawn (TS 33.501, 6.10.3.1)
abbrev pub with_counter : Book → ℕ → Book
with_counter b root = record b { drawn = slice_set b.drawn root (counters_drawn b root + 1) }

-- SN Counter 65,535 of the current root was drawn (TS 33.501, 6.10.3.1)
abbrev pub is_counter_spent : Table → Bool
is_counter_spent t = nat_lt 65535 (counters_drawn t.book t.book.current)

-- a bearer in its place by ascending identity, instead of one that was there (part of the rule carried)
abbrev pub with_row : Row → List Row → List Row
with_row r [] = r ∷ []
with_row r (x ∷ xs) = if x.id == r.id then r ∷ xs else if nat_lt r.id x.id then r ∷ x ∷ xs else x ∷ with_row r xs

-- the establishment that an item sets: a new one of generation g without an old anchor, else that of the table
-- (part of the rule carried)
abbrev pub establishment : ℕ → Option Node → Option Row → ℕ
establishment g None r = g
establishment g (Some old) None = g
establishment g (Some old) (Some r) = r.est

-- the claim of a key that an item makes, in a plan of generation g (part of the rule claimed)
abbrev pub claims_of : Table → ℕ → Item → List Claim
claims_of t g (item.Set id n first shape threshold policy key old) = record { id = id; key = key; est = establishment g old (row t id) } ∷ []
claims_of t g (item.Unset id) = []

-- what an item of a plan of generation g and this secondary node makes of the bearers (part of the rule carried)
abbrev pub rows_after : Table → ℕ → Option Node → List Row → Item → List Row
rows_after t g sec rows (item.Set id n first shape threshold policy key old) =
    with_row (record { id = id; est = establishment g old (row t id); n = n; first = first; shape = shape; threshold = threshold; policy = policy; key = key; anchor = anchor_at sec shape; g = g }) rows
rows_after t g sec rows (item.Unset id) = filter (λ r. not (r.id == id)) rows

-- the book with the claims of a plan (TS 38.331, 5.3.5.6.5: a key is not used again for an identity)
abbrev pub claimed : Book → List Claim → Book
claimed b claims = record b { claims = fold with_claim b.claims claims }

-- the table after a change was carried out (TS 37.340, 10.2 to 10.5; the table is this product's own)
abbrev pub carried : Table → Change → Table
carried t c = record t {
  sec = c.plan.sec;
  book = claimed (record t.book { current = c.root }) (flat_map (claims_of t c.plan.g) c.plan.items);
  second_key = c.second_key;
  rows = fold (rows_after t c.plan.g c.plan.sec) t.rows c.plan.items;
}

-- a key that the plan would set is claimed for that identity by another establishment (TS 38.331, 5.3.5.6.5)
abbrev pub is_spent_by : Table → Plan → Bool
is_spent_by t p = list_any (λ c. is_spent t.book.claims c.id c.est c.key) (flat_map (claims_of t p.g) p.items)
