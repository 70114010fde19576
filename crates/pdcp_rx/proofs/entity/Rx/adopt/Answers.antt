use Rattle.std.proofs.Common.{◌≡◌, ◌+◌, ◌-◌, ◌<◌, ◌^◌, ◌∷◌, ◌++◌, [], max, sym, ap, ◌∙◌, subst, append_assoc, arith}
use Rattle.std.specs.List.{AllByRecursion}
use Rattle.std.specs.Vec.Iter.{into_iter_items}
use Rattle.dc_base.specs.Count.{window}
use Rattle.dc_base.proofs.Counting.{window_small}
use Rattle.pdcp_rx.specs.Entries.{Entry, AscendFrom, with_sdu, past_greatest}
use Rattle.pdcp_rx.specs.Ring.{ring_from}
use Rattle.pdcp_rx.proofs.Entries.{ascend_at}
use Rattle.pdcp_rx.proofs.RingSteps.{each_at, with_sdu_last, not_stored_last, past_greatest-with_sdu}
use Rattle.pdcp_rx.proofs.entity.Rx.adopt.Goals as goal

pub insert-requires-clause-above : goal.insert-requires-clause-above
insert-requires-clause-above c =
    let b = c.args.parts.deliv in
    let came = ring_from c.loop-count.ring b in
    let rest = into_iter_items c.next.new.self in
    let steps = rw c.in-Some.is at c.next.ensures.steps in
    let all : came ++ (c.in-Some.count, c.in-Some.sdu) ∷ rest ≡ c.args.parts.stored = ap (λ xs. came ++ xs) (sym steps.0) ∙ c.loop-count.invariant.stored in
    omega (arith, ascend_at (b + 1) c.in-Some.count c.in-Some.sdu came rest (subst (AscendFrom (b + 1)) (sym all) c.requires.ascends))

pub insert-requires-clause-near : goal.insert-requires-clause-near
insert-requires-clause-near c =
    let b = c.args.parts.deliv in
    let came = ring_from c.loop-count.ring b in
    let rest = into_iter_items c.next.new.self in
    let steps = rw c.in-Some.is at c.next.ensures.steps in
    let all : came ++ (c.in-Some.count, c.in-Some.sdu) ∷ rest ≡ c.args.parts.stored = ap (λ xs. came ++ xs) (sym steps.0) ∙ c.loop-count.invariant.stored in
    let P = λ (e : Entry). e.0 < b + window c.args.parts.n in
    let near : c.in-Some.count < b + window c.args.parts.n = each_at P (c.in-Some.count, c.in-Some.sdu) came rest (subst (AllByRecursion P)
    (sym all) c.requires.in_window) in
    omega (arith, near, window_small c.args.parts.n)

pub insert-requires-clause-new : goal.insert-requires-clause-new
insert-requires-clause-new c =
    let b = c.args.parts.deliv in
    let came = ring_from c.loop-count.ring b in
    let rest = into_iter_items c.next.new.self in
    let steps = rw c.in-Some.is at c.next.ensures.steps in
    let all : came ++ (c.in-Some.count, c.in-Some.sdu) ∷ rest ≡ c.args.parts.stored = ap (λ xs. came ++ xs) (sym steps.0) ∙ c.loop-count.invariant.stored in
    not_stored_last (b + 1) c.in-Some.count c.in-Some.sdu came rest (subst (AscendFrom (b + 1)) (sym all) c.requires.ascends)

pub overflow_add-count : goal.overflow_add-count
overflow_add-count c =
    let came = ring_from c.loop-count.ring c.args.parts.deliv in
    let rest = into_iter_items c.next.new.self in
    let steps = rw c.in-Some.is at c.next.ensures.steps in
    let all : came ++ (c.in-Some.count, c.in-Some.sdu) ∷ rest ≡ c.args.parts.stored = ap (λ xs. came ++ xs) (sym steps.0) ∙ c.loop-count.invariant.stored in
    let P = λ (e : Entry). e.0 < 2 ^ 32 - 1 in
    let last : c.in-Some.count < 2 ^ 32 - 1 = each_at P (c.in-Some.count, c.in-Some.sdu) came rest (subst (AllByRecursion P) (sym all) c.requires.not_last) in
    omega (arith, last)

pub loop-count-preserved : goal.loop-count-preserved
loop-count-preserved c =
    let b = c.args.parts.deliv in
    let came = ring_from c.loop-count.ring b in
    let rest = into_iter_items c.next.new.self in
    let steps = rw c.in-Some.is at c.next.ensures.steps in
    let ok : ring_from c.insert.new.ring b ≡ with_sdu c.in-Some.count c.in-Some.sdu came = c.in_ok-insert.ensures.ok in
    let all : came ++ (c.in-Some.count, c.in-Some.sdu) ∷ rest ≡ c.args.parts.stored = ap (λ xs. came ++ xs) (sym steps.0) ∙ c.loop-count.invariant.stored in
    let ascends = subst (AscendFrom (b + 1)) (sym all) c.requires.ascends in
    record {
      stored = ap (λ xs. xs ++ rest) (ok ∙ with_sdu_last (b + 1) c.in-Some.count c.in-Some.sdu came rest ascends) ∙ append_assoc came
          ((c.in-Some.count, c.in-Some.sdu) ∷ []) rest ∙ all;
      next = c.max-next.ensures ∙ ap (λ n. max n (c.in-Some.count + 1)) c.loop-count.invariant.next ∙ sym
          (past_greatest-with_sdu b c.in-Some.count c.in-Some.sdu came) ∙ ap (λ es. past_greatest b es) (sym ok);
    }
