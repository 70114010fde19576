use Rattle.std.proofs.Common.{◌+◌, arith}
use Rattle.pdcp_rx.proofs.Counts.{counts_above, counts_increase}
use Rattle.anchor.proofs.freezing.status_transfer.Goals as goal

pub encode_bitmap-requires-clause-ascending : goal.encode_bitmap-requires-clause-ascending
encode_bitmap-requires-clause-ascending c =
    rw (c.in_ok-counts.ensures, c.as_slice.ensures) (counts_increase (c.args.rx.now.deliv + 1) c.args.rx.now.stored c.requires.ascends)

pub encode_bitmap-requires-clause-above : goal.encode_bitmap-requires-clause-above
encode_bitmap-requires-clause-above c =
    rw (c.in_ok-counts.ensures, c.as_slice.ensures) (counts_above c.args.rx.now.deliv (c.args.rx.now.deliv + 1) c.args.rx.now.stored (omega arith) c.requires.ascends)
