use Rattle.std.proofs.Common.{◌≡◌, ◌==◌, ◌&&◌, ℕ, Bool, List, Option, ap, not, sym, ◌∙◌, rules, tests}
use Rattle.std.specs.List.{list_any}
use Rattle.std.proofs.lemmas.Iterator.{YieldsList-from_slice}
use Rattle.std.proofs.lemmas.Iterator.Search.{any_from_yields_List}
use Rattle.dc_base.specs.declared.nodes.KeyName.{KeyName}
use Rattle.dc_base.specs.declared.nodes.Node.{Node}
use Rattle.dc_base.specs.declared.nodes.Shape.{Shape}
use Rattle.dc_base.specs.declared.numbers.SnLen.{SnLen}
use Rattle.dc_base.specs.declared.records.Item.{Item}
use Rattle.dc_base.specs.declared.records.Item.TheVariants.{Set}
use Rattle.claims.specs.Drafts.{is_spent, own_bearer}
use Rattle.claims.specs.Sameness.{is_number, is_same_key}
use Rattle.claims.specs.Table.{Claimed, Table}
use Rattle.checker_state.proofs.table.Table.is_spent.Goals as goal

-- the item is spent where a use of the key is of another establishment
abbrev is_another : ℕ → KeyName → Option ℕ → Claimed → Bool
is_another id key own d = (d.id == id) && is_same_key key d.key && not (is_number d.bearer own)

of_set : (t : Table) (us : List Claimed) (item : Item) (id : ℕ) (n : SnLen) (first : ℕ) (shape : Shape) (threshold : ℕ) (policy : ℕ) (key : KeyName)
    (old : Option Node) (own : Option ℕ) → us ≡ t.uses → own ≡ own_bearer t id old → item ≡ Set id n first shape threshold policy key old
    → list_any (is_another id key own) us ≡ is_spent t item
of_set t us item id n first shape threshold policy key old own uses is_own set =
    ap (list_any (is_another id key own)) uses ∙ ap (λ o. list_any (is_another id key o) t.uses) is_own ∙ sym (ap (is_spent t) set)

pub returns-in-Set : goal.returns-in-Set
returns-in-Set c =
    any_from_yields_List (is_another c.in-Set.id c.in-Set.key c.own_bearer-own.result) _ _ _ c.any.ensures.ran
    (YieldsList-from_slice c.self.inside.uses.items cc) (λ x b q k. search (rules, tests))
    ∙ of_set c.args.self.now c.self.inside.uses.items c.args.item.now c.in-Set.id c.in-Set.n c.in-Set.first c.in-Set.shape c.in-Set.threshold c.in-Set.policy
    c.in-Set.key c.in-Set.old c.own_bearer-own.result (ap (λ (t : Table). t.uses) c.self.view_is) c.own_bearer-own.ensures c.in-Set.is
