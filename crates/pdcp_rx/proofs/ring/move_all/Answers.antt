use Rattle.std.proofs.Common.{ℕ, suc, ◌≡◌, ◌+◌, ◌-◌, ◌%◌, ◌++◌, None, Some, Option, List, [], length, sym, ap, ◌∙◌, arith, refl, length-set}
use Rattle.pdcp_rx.specs.Entries.{Entry, AscendFrom}
use Rattle.pdcp_rx.specs.Ring.{slots_from, ring_from}
use Rattle.pdcp_rx.proofs.Rings.{slots_ascend}
use Rattle.pdcp_rx.proofs.RingSteps.{slots_after, slots_replicate, all_free, all_moved}
use Rattle.pdcp_rx.proofs.ring.move_all.Goals.{in-Some, in-None}
use Rattle.pdcp_rx.proofs.ring.move_all.Goals as goal

pub loop-init : goal.loop-init
loop-init c =
    let n = length c.args.to.now in
    let x : Option (List ℕ) = None in
    let free : ring_from c.args.to.now c.args.deliv ≡ [] = ap (λ t. slots_from t c.args.deliv n) c.requires.free ∙ slots_replicate n c.args.deliv n in
    record {
      from_len = refl;
      to_len = refl;
      count = omega arith;
      items = ap (λ (es : List Entry). es ++ slots_from c.args.from.now c.args.deliv
          (length c.args.from.now - 0)) free ∙ ap (λ k. slots_from c.args.from.now c.args.deliv k) (omega arith);
    }

pub loop-preserved : goal.loop-preserved
loop-preserved c =
    let s = c.loop.from in
    let u = c.free.new.self in
    let k = length s - c.loop.counter in
    let m = length u - (c.loop.counter + 1) in
    let len : length u ≡ length s = ap length c.free.ensures.left ∙ length-set s (c.loop.count % length s) None in
    let i = c.loop.invariant in
    let more : k ≡ suc m = omega (arith, len, i.from_len, c.loop-test.true, c.len-end.ensures.number) in
    let all = ring_from c.args.from.now c.args.deliv in
    let ascends : AscendFrom c.args.deliv all = slots_ascend c.args.from.now c.args.deliv c.args.deliv (length c.args.from.now) (omega arith) in
    let after : slots_from u (c.loop.count + 1) m ≡ slots_from s (c.loop.count + 1) m = ap (λ u. slots_from u (c.loop.count + 1) m) c.free.ensures.left
    ∙ slots_after s c.loop.count m (omega arith) in
    let items : ring_from c.match-free.to c.args.deliv ++ slots_from s (c.loop.count + 1) m ≡ all =
    elim c.match-free.branch [
      | in-Some w ↦
          ap (λ t. ring_from t c.args.deliv ++ slots_from s (c.loop.count + 1) m) (w.to-is ∙ w.place.ensures)
          ∙ all_moved s c.loop.to c.args.deliv c.loop.count k m w.in-Some.sdu all more (omega (arith, c.loop.invariant.count)) (omega
          (arith, c.loop.invariant.count)) (sym c.free.ensures.was ∙ w.in-Some.is) ascends c.loop.invariant.items
      | in-None w ↦
          ap (λ t. ring_from t c.args.deliv ++ slots_from s (c.loop.count + 1) m) w.to-is
          ∙ all_free s c.loop.count k m (ring_from c.loop.to c.args.deliv) all more (sym c.free.ensures.was ∙ w.in-None.is) c.loop.invariant.items
    ] in
    let to_len : length c.match-free.to ≡ length c.args.to.now =
    elim c.match-free.branch [
      | in-Some w ↦ ap length (w.to-is ∙ w.place.ensures) ∙ length-set c.loop.to (c.loop.count % length c.loop.to) (Some w.in-Some.sdu) ∙ i.to_len
      | in-None w ↦ ap length w.to-is ∙ i.to_len
    ] in
    record {
      from_len = len ∙ i.from_len;
      to_len = to_len;
      count = omega (arith, c.loop.invariant.count);
      items = ap (λ es. ring_from c.match-free.to c.args.deliv ++ es) after ∙ items;
    }
