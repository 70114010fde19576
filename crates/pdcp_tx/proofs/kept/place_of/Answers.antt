use Rattle.std.proofs.Common.{ltb, rules}
use Rattle.std.proofs.lemmas.List.Sorted.{IsPartitionPoint-from_clause, IsPartitionedBy-ltb}
use Rattle.pdcp_tx.specs.Sender.{Entry}
use Rattle.pdcp_tx.specs.Slots.{count_at}
use Rattle.pdcp_tx.proofs.Slots.{non_decreasing}
use Rattle.pdcp_tx.proofs.kept.place_of.Goals as goal

pub returns-clause-place : goal.returns-clause-place
returns-clause-place c =
    let slots = c.args.kept.now.items in
    IsPartitionPoint-from_clause (λ (e : Entry). ltb (count_at c.args.next e.0) c.args.count) slots c.partition_point.result c.partition_point.ensures.partitioned
    (IsPartitionedBy-ltb (λ (e : Entry). count_at c.args.next e.0) slots c.args.count (non_decreasing c.requires.from c.args.next slots c.requires.rises))
    (λ a r f' called. search rules)
