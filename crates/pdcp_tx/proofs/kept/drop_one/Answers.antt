use Rattle.std.proofs.Common.{not, ◌==◌}
use Rattle.pdcp_tx.specs.Sender.{Entry}
use Rattle.pdcp_tx.specs.Slots.{live}
use Rattle.pdcp_tx.proofs.Entries.{in_window-filter}
use Rattle.pdcp_tx.proofs.kept.drop_one.Goals as goal

pub returns-clause-window : goal.returns-clause-window
returns-clause-window c = λ n w. rw (c.drop_empty.ensures.live, c.empty_one.ensures.live) (in_window-filter (λ (e : Entry). not (e.0 == c.args.count)) n c.args.next (live c.args.next c.args.kept.now.items) w)
