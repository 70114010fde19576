use Rattle.std.proofs.Common.{ℕ, suc, ◌≡◌, ◌+◌, ◌-◌, ◌<◌, ◌^◌, ◌++◌, [], ◌∷◌, length, Vec, Global, sym, ap, ◌∙◌, arith}
use Rattle.pdcp_rx.specs.Entries.{counts_of}
use Rattle.pdcp_rx.specs.Ring.{slots_from, ring_from}
use Rattle.pdcp_rx.proofs.RingSteps.{each_after, counts_taken, counts_free}
use Rattle.pdcp_rx.proofs.ring.counts.Goals.{then-is_taken+in_ok-push, else-is_taken}
use Rattle.pdcp_rx.proofs.ring.counts.Goals as goal

pub loop-preserved : goal.loop-preserved
loop-preserved c =
    let s = c.args.ring.now in
    let k = length s - c.loop.counter in
    let m = length s - (c.loop.counter + 1) in
    let more : k ≡ suc m = omega arith in
    let all = counts_of (ring_from s c.args.deliv) in
    let items : c.if-is_taken.counts.items ++ counts_of (slots_from s (c.loop.count + 1) m) ≡ all =
    elim c.if-is_taken.branch [
      | then-is_taken+in_ok-push w ↦
          let pushed : c.if-is_taken.counts.items ≡ c.loop.counts.items ++ c.loop.count ∷ [] = ap (λ (v : Vec ℕ Global). v.items) w.counts-is
          ∙ w.in_ok-push.ensures.items in
          ap (λ cs. cs ++ counts_of (slots_from s (c.loop.count + 1) m)) pushed
          ∙ counts_taken s c.loop.count k m c.loop.counts.items all more (sym c.is_taken.ensures ∙ w.if-is_taken.true) c.loop.invariant.items
      | else-is_taken w ↦
          let same : c.if-is_taken.counts.items ≡ c.loop.counts.items = ap (λ (v : Vec ℕ Global). v.items) w.counts-is in
          ap (λ cs. cs ++ counts_of (slots_from s (c.loop.count + 1) m)) same
          ∙ counts_free s c.loop.count k m c.loop.counts.items all more (sym c.is_taken.ensures ∙ w.if-is_taken.false) c.loop.invariant.items
    ] in
    record {
      count = omega (arith, c.loop.invariant.count);
      rest = each_after (λ e. e.0 < 2 ^ 32 - 1) s c.loop.count k m more c.loop.invariant.rest;
      items = items;
    }
