use Rattle.std.proofs.Common.{not}
use Rattle.pdcp_pdu.specs.Bitmap.{names}
use Rattle.pdcp_tx.specs.Sender.{Entry}
use Rattle.pdcp_tx.specs.Slots.{live}
use Rattle.pdcp_tx.proofs.Entries.{in_window-filter}
use Rattle.pdcp_tx.proofs.kept.drop_named.Goals as goal

pub returns-clause-window : goal.returns-clause-window
returns-clause-window c = λ n w. rw (c.drop_empty.ensures.live, c.empty_named.ensures.live) (in_window-filter (λ (e : Entry). not (names c.args.fmc c.args.bits.now e.0)) n c.args.next (live c.args.next c.args.kept.now.items) w)
