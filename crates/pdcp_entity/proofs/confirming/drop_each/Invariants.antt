use Rattle.std.proofs.Common.{◌≡◌, fold, take}
use Rattle.pdcp_tx.specs.Sending.{confirm_count}
use Rattle.pdcp_entity.proofs.confirming.drop_each.Given as goal

abbrev pub invariant-loop-count : goal.invariant-loop-count
invariant-loop-count l = l.tx ≡ fold confirm_count l.initial.tx (take l.count-index l.counts)
