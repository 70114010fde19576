use Rattle.std.proofs.Common.{◌≡◌, take}
use Rattle.std.specs.List.{flat_map}
use Rattle.node_rules.specs.CommandTable.{claimed, claims_of}
use Rattle.command_table.proofs.table.CommandTable.claim_all.Given as goal

abbrev pub invariant-loop-item : goal.invariant-loop-item
invariant-loop-item l =
    let t = l.fn.self in
    l.self ≡ record t { book = claimed t.book (flat_map (claims_of t l.plan.g) (take l.item-index l.item-items)) }
