use Rattle.std.proofs.Common.{◌≡◌, ℕ, List, [], ◌∷◌, Some, true, fold, refl, ap, ◌∙◌}
use Rattle.dc_base.specs.declared.records.Item.{Item}
use Rattle.dc_base.specs.declared.records.Item.TheVariants.{Set, Unset}
use Rattle.claims.specs.Carrying.{with_item}
use Rattle.claims.specs.Table.{Table}
use Rattle.checker_state.proofs.table.Table.carry.Goals as goal

-- an item leaves the open command as it is
item_command : (g : ℕ) (t : Table) (item : Item) → (with_item g t item).command ≡ t.command
item_command g t (Set id n first shape threshold policy key old) = refl
item_command g t (Unset id) = refl

items_command : (g : ℕ) (items : List Item) (t : Table) → (fold (with_item g) t items).command ≡ t.command
items_command g [] t = refl
items_command g (item ∷ items) t = items_command g items (with_item g t item) ∙ item_command g t item

pub returns : goal.returns
returns c = λ k is.
    let t = c.args.self.now in
    let set = c.in_ok-set_items.ensures ∙ ap (λ (items : List Item). fold (with_item c.args.g) t items) c.as_slice.ensures in
    c.take_keys.ensures k (ap (λ (u : Table). u.command) set ∙ items_command c.args.g c.args.plan.now.items t ∙ is)
    ∙ ap (λ (u : Table). record u { sec = c.args.plan.now.sec; root = k.root; second_key = k.second_key; command = Some (record k { is_carried = true }) }) set
