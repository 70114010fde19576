-- What stays of the command table where no plan is carried out: the secondary node, the bearers, the keys that are current, and the
-- claims. Drawing a plan draws a generation, and maybe a root and an SN Counter, which are not given back.
use Rattle.std.specs.Prelude.{Bool, false, true, ◌≡◌}
use Rattle.node_rules.specs.CommandTable.{Table}
use Rattle.node_rules.specs.declared.acts.Act.{Act}
use Rattle.node_rules.specs.declared.acts.Act.TheVariants.{Go as go}

-- both tables have the same secondary node, bearers, current root and K_SN, and claims
pub record SameBearers (t u : Table) : Type 0 where
  pub sec : u.sec ≡ t.sec
  pub rows : u.rows ≡ t.rows
  pub root : u.book.current ≡ t.book.current
  pub second_key : u.second_key ≡ t.second_key
  pub claims : u.book.claims ≡ t.book.claims

-- a plan is carried out
abbrev pub is_go : Act → Bool
is_go (go p) = true
is_go _ = false
