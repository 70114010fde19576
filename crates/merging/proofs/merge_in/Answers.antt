use Rattle.std.proofs.Common.{◌≡◌, ◌++◌, ◌∙◌, sym, subst, []}
use Rattle.std.proofs.lemmas.List.{append-nil}
use Rattle.journals.specs.Merging.{Sorted, put_all}
use Rattle.journals.proofs.Orders.{put_all_sorted}
use Rattle.std.proofs.lemmas.List.{nil_from_length}
use Rattle.std.proofs.Common.{arith}
use Rattle.merging.proofs.merge_in.Goals as goal

pub returns-clause-sorted : goal.returns-clause-sorted
returns-clause-sorted c =
    let none : c.loop-other.others.items ≡ [] = nil_from_length c.loop-other.others.items (omega (arith, c.in_default.ensures.cases.0)) in
    let whole : c.loop-other.merged.items ++ [] ≡ put_all c.args.node c.args.entries.items c.args.others.items = rw none at c.loop-other.invariant in
    let is : c.loop-other.merged.items ≡ put_all c.args.node c.args.entries.items c.args.others.items = sym (append-nil c.loop-other.merged.items) ∙ whole in
    subst Sorted (sym is) (put_all_sorted c.args.node c.args.entries.items c.args.others.items c.requires.sorted)
