use Rattle.std.proofs.Common.{sym, ◌∙◌, rules, tests}
use Rattle.std.specs.List.{list_any}
use Rattle.std.proofs.lemmas.Iterator.{YieldsList-from_slice}
use Rattle.std.proofs.lemmas.Iterator.Search.{any_from_yields_List}
use Rattle.dc_base.specs.declared.records.Item.{Item}
use Rattle.key_chain.specs.Book.{Claim, is_spent}
use Rattle.node_rules.specs.CommandTable.{claims_of}
use Rattle.command_table.proofs.Claims.{list_any-flat_map}
use Rattle.command_table.proofs.table.CommandTable.is_spent_by.Goals as goal

pub returns : goal.returns
returns c =
    let t = c.args.self.now in
    let p = c.args.plan.now in
    any_from_yields_List (λ (item : Item). list_any (λ (d : Claim). is_spent t.book.claims d.id d.est d.key) (claims_of t p.g item)) _ _ _ c.any.ensures.ran (YieldsList-from_slice p.items cc) (λ x b q k. search (rules, tests))
    ∙ sym (list_any-flat_map (λ (d : Claim). is_spent t.book.claims d.id d.est d.key) (claims_of t p.g) p.items)
