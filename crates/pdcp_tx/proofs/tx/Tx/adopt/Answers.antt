use Rattle.std.proofs.Common.{refl}
use Rattle.pdcp_tx.proofs.Parts.{in_window-from}
use Rattle.pdcp_tx.proofs.Grown.{live-in_window, kept-in_window}
use Rattle.pdcp_tx.proofs.tx.Tx.adopt.Goals as goal

pub invariant_of-result : goal.invariant_of-result
invariant_of-result c =
    rw (c.from_vec.ensures.items, c.into_vec.ensures)
    (kept-in_window c.args.parts.n c.args.parts.next c.args.parts.kept (in_window-from c.args.parts.n c.args.parts.next c.args.parts.kept c.requires.ascending c.requires.below c.requires.near))

pub returns : goal.returns
returns c =
    let w = in_window-from c.args.parts.n c.args.parts.next c.args.parts.kept c.requires.ascending c.requires.below c.requires.near in
    rw (c.from_vec.ensures.items, c.into_vec.ensures, live-in_window c.args.parts.n c.args.parts.next c.args.parts.kept w, c.from_vec-2.ensures.items, c.into_vec-2.ensures) refl
