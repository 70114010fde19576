use Rattle.std.proofs.Common.{◌≡◌, ℕ, List, ◌∷◌, Option, ap, sym, ◌∙◌}
use Rattle.dc_base.specs.declared.nodes.KeyName.{KeyName}
use Rattle.dc_base.specs.declared.nodes.Node.{Node}
use Rattle.dc_base.specs.declared.nodes.Shape.{Shape}
use Rattle.dc_base.specs.declared.numbers.SnLen.{SnLen}
use Rattle.dc_base.specs.declared.records.Item.{Item}
use Rattle.dc_base.specs.declared.records.Item.TheVariants.{Set}
use Rattle.claims.specs.Carrying.{bearer_in_row, with_item, with_row}
use Rattle.claims.specs.Table.{Claimed, Row, Table, row}
use Rattle.checker_state.proofs.table.Table.set_item.Goals as goal

set_is : (t u : Table) (g : ℕ) (item : Item) (id : ℕ) (n : SnLen) (first : ℕ) (shape : Shape) (threshold : ℕ) (policy : ℕ) (key : KeyName)
    (old : Option Node) (b : ℕ) (rows : List Row) (uses : List Claimed) → t ≡ u → item ≡ Set id n first shape threshold policy key old
    → b ≡ bearer_in_row g old (row t id)
    → rows ≡ with_row (record { id = id; bearer = b; n = n; first = first; shape = shape; threshold = threshold; policy = policy; key = key }) t.rows
    → uses ≡ record { id = id; key = key; bearer = b } ∷ t.uses → record t { rows = rows; uses = uses } ≡ with_item g u item
set_is t u g item id n first shape threshold policy key old b rows uses same set named placed used =
    let at : with_item g t (Set id n first shape threshold policy key old) ≡ with_item g u item =
    ap (λ (x : Table). with_item g x (Set id n first shape threshold policy key old)) same ∙ ap (with_item g u) (sym set) in
    ap (λ (rs : List Row). record t { rows = rs; uses = uses }) placed
    ∙ ap (λ (us : List Claimed). record t {
      rows = with_row (record { id = id; bearer = b; n = n; first = first; shape = shape; threshold = threshold; policy = policy; key = key }) t.rows;
      uses = us;
    }) used
    ∙ ap (λ (k : ℕ). record t {
      rows = with_row (record { id = id; bearer = k; n = n; first = first; shape = shape; threshold = threshold; policy = policy; key = key }) t.rows;
      uses = record { id = id; key = key; bearer = k } ∷ t.uses;
    }) named
    ∙ at

pub returns-in_ok-insert-in-Set : goal.returns-in_ok-insert-in-Set
returns-in_ok-insert-in-Set c =
    set_is _ c.args.self.now c.args.g c.args.item.now c.in-Set.id c.in-Set.n c.in-Set.first c.in-Set.shape c.in-Set.threshold c.in-Set.policy
    c.in-Set.key c.in-Set.old c.bearer_in_row.result c.put_row.new.rows.items c.insert.new.self.items c.self.view_is c.in-Set.is
    (cc) c.in_ok-put_row-in-Set.ensures
    (c.in_ok-insert-in-Set.ensures.items
    ∙ ap (λ (k : ℕ). record { id = c.in-Set.id; key = c.in-Set.key; bearer = k } ∷ c.self.inside.uses.items) c.bearer.ensures)
