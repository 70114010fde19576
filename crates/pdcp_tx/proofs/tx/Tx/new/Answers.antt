use Rattle.std.proofs.Common.{◌≡◌, [], rules}
use Rattle.pdcp_tx.proofs.Entries.{in_window-none}
use Rattle.pdcp_tx.proofs.Grown.{kept-in_window}
use Rattle.pdcp_tx.proofs.tx.Tx.new.Goals as goal

pub invariant_of-result : goal.invariant_of-result
invariant_of-result c = let none : c.new.result.items ≡ [] = search rules in rw none (kept-in_window c.args.n c.args.first [] (in_window-none c.args.n c.args.first))
