use Rattle.std.proofs.Common.{suc, ◌≡◌, ◌+◌, ◌-◌, ◌%◌, ◌<◌, ◌^◌, ◌++◌, None, [], ◌∷◌, length, Vec, Global, sym, ap, ◌∙◌, subst, arith, length-set}
use Rattle.std.specs.List.{AllByRecursion}
use Rattle.pdcp_rx.specs.Entries.{Entry}
use Rattle.pdcp_rx.specs.Ring.{slots_from, ring_from}
use Rattle.pdcp_rx.proofs.RingSteps.{slots_after, each_after, all_taken, all_free}
use Rattle.pdcp_rx.proofs.ring.take_all.Goals.{in-Some+in_ok-push-in-Some, in-None}
use Rattle.pdcp_rx.proofs.ring.take_all.Goals as goal

pub loop-preserved : goal.loop-preserved
loop-preserved c =
    let s = c.loop.ring in
    let t = c.free.new.self in
    let k = length s - c.loop.counter in
    let m = length t - (c.loop.counter + 1) in
    let len : length t ≡ length s = ap length c.free.ensures.left ∙ length-set s (c.loop.count % length s) None in
    let i = c.loop.invariant in
    let more : k ≡ suc m = omega (arith, len, i.len, c.loop-test.true, c.len-end.ensures.number) in
    let all = ring_from c.args.ring.now c.args.deliv in
    let after : slots_from t (c.loop.count + 1) m ≡ slots_from s (c.loop.count + 1) m = ap (λ u. slots_from u (c.loop.count + 1) m) c.free.ensures.left
    ∙ slots_after s c.loop.count m (omega arith) in
    let items : c.match-free.all.items ++ slots_from s (c.loop.count + 1) m ≡ all =
    elim c.match-free.branch [
      | in-Some+in_ok-push-in-Some w ↦
          let pushed : c.match-free.all.items ≡ c.loop.all.items ++ (c.loop.count, w.in-Some.sdu) ∷ [] = ap (λ (v : Vec Entry Global). v.items) w.all-is
          ∙ w.in_ok-push-in-Some.ensures.items in
          ap (λ es. es ++ slots_from s (c.loop.count + 1) m) pushed
          ∙ all_taken s c.loop.count k m w.in-Some.sdu c.loop.all.items all more (sym c.free.ensures.was ∙ w.in-Some.is) c.loop.invariant.items
      | in-None w ↦
          let same : c.match-free.all.items ≡ c.loop.all.items = ap (λ (v : Vec Entry Global). v.items) w.all-is in
          ap (λ es. es ++ slots_from s (c.loop.count + 1) m) same
          ∙ all_free s c.loop.count k m c.loop.all.items all more (sym c.free.ensures.was ∙ w.in-None.is) c.loop.invariant.items
    ] in
    record {
      len = len ∙ i.len;
      count = omega (arith, c.loop.invariant.count);
      rest = subst (AllByRecursion (λ (e : Entry). e.0 < 2 ^ 32 - 1)) (sym after) (each_after
          (λ e. e.0 < 2 ^ 32 - 1) s c.loop.count k m more c.loop.invariant.rest);
      items = ap (λ es. c.match-free.all.items ++ es) after ∙ items;
    }
