use Rattle.std.proofs.Common.{◌≡◌, ap, ◌∙◌, sym, subst, []}
use Rattle.dc_base.specs.declared.nodes.Node.TheVariants.{A, B, M, T}
use Rattle.journals.specs.Merging.{Merged, merged, put_all, numbered}
use Rattle.journals.proofs.Orders.{merged_merged}
use Rattle.merging.proofs.merge_all.Goals as goal

pub merge_in-requires-clause-rising : goal.merge_in-requires-clause-rising
merge_in-requires-clause-rising c = c.requires.rising 3

pub merge_in-requires-2-clause-rising : goal.merge_in-requires-2-clause-rising
merge_in-requires-2-clause-rising c = c.requires.rising 2

pub merge_in-requires-3-clause-rising : goal.merge_in-requires-3-clause-rising
merge_in-requires-3-clause-rising c = c.requires.rising 1

pub returns : goal.returns
returns c =
    let t = c.args.t.items in
    let m = c.args.m.items in
    let a = c.args.a.items in
    let b = c.args.b.items in
    let e1 : c.in_ok-only_b.only_b.items ≡ put_all B b [] = c.in_ok-only_b.ensures.all ∙ ap (put_all B b) c.new.ensures.items in
    let e2 : c.in_ok-from_a.from_a.items ≡ put_all A a (put_all B b []) = c.in_ok-from_a.ensures.all ∙ ap (put_all A a) e1 in
    let e3 : c.in_ok-from_m.from_m.items ≡ put_all M m (put_all A a (put_all B b [])) = c.in_ok-from_m.ensures.all ∙ ap (put_all M m) e2 in
    let is : c.in_ok-all.all.items ≡ merged t m a b = c.in_ok-all.ensures.all ∙ ap (put_all T t) e3 in
    subst (Merged (numbered t m a b)) (sym is) (merged_merged t m a b c.requires)
