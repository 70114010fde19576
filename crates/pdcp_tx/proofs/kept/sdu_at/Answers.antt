use Rattle.std.proofs.Common.{ℕ, List, Some, sym, ap, ◌∙◌}
use Rattle.std.proofs.lemmas.List.{get_or_default}
use Rattle.pdcp_tx.specs.Sender.{Entry}
use Rattle.pdcp_tx.proofs.Emptied.{found-there}
use Rattle.pdcp_tx.proofs.Slots.{sdu_at-not_kept}
use Rattle.pdcp_tx.proofs.kept.sdu_at.Goals as goal

pub returns-then-is_there : goal.returns-then-is_there
returns-then-is_there c =
    let there = rw c.if-is_there.true at c.is_there.ensures.there in
    let slots = c.args.kept.now.items in
    let same = c.index.ensures ∙ get_or_default slots c.place_of-place.result c.index.result.now there.0 there.1 ∙ sym there.2 in
    ap (λ (sdu : List ℕ). Some sdu) (c.as_slice.ensures ∙ ap (λ (e : Entry). e.1) same)
    ∙ sym (found-there c.args.count c.requires.from c.args.next slots c.place_of-place.result there.0 c.requires.rises (record { inside = there.1; at = there.2; same = there.3; live = there.4 }))

pub returns-else-is_there : goal.returns-else-is_there
returns-else-is_there c = sym (sdu_at-not_kept c.args.count _ (rw c.if-is_there.false at c.is_there.ensures.other))
