use Rattle.std.proofs.Common.{ℕ, zero, suc, ◌≡◌, ◌+◌, ◌++◌, Some, IsSome, List, [], ◌∷◌, length, take, drop, refl, sym, ap, ◌∙◌, subst, append_assoc, add-one, arith}
use Rattle.pdcp_rx.specs.Entries.{Entry}
use Rattle.pdcp_rx.specs.Run.{run_from}
use Rattle.pdcp_rx.specs.Ring.{slot_of, ring_from}
use Rattle.pdcp_rx.proofs.Runs.{run_first}
use Rattle.pdcp_rx.proofs.Rings.{ring_taken}
use Rattle.pdcp_rx.proofs.RingSteps.{taken, run_head}
use Rattle.pdcp_rx.proofs.ring.take_first.Goals as goal

-- the first of what is left goes to the end of what is taken
next_taken : (n : ℕ) (e : Entry) (es rest : List Entry) → drop n es ≡ e ∷ rest → (take (suc n) es ≡ take n es ++ e ∷ []) × (drop (suc n) es ≡ rest)
next_taken zero e [] rest is = absurd cc
next_taken zero e (f ∷ es) rest is = (cc, cc)
next_taken (suc n) e [] rest is = absurd cc
next_taken (suc n) e (f ∷ es) rest is = let more = next_taken n e es rest is in (ap (λ (xs : List Entry). f ∷ xs) more.0, more.1)

pub unwrap-sdu-requires : goal.unwrap-sdu-requires
unwrap-sdu-requires c =
    let head = run_head c.loop.ring c.loop.next (omega (arith, c.loop.invariant.there)) in
    let found = taken (slot_of c.loop.ring c.loop.next) head.1 in
    subst IsSome (sym (c.free.ensures.was ∙ found.1)) refl

pub loop-preserved : goal.loop-preserved
loop-preserved c =
    let s = c.loop.ring in
    let d = c.loop.next in
    let i = c.loop.invariant in
    let sdu = c.unwrap-sdu.result in
    let left = ring_from c.free.new.self (d + 1) in
    let head = run_head s d (omega (arith, i.there)) in
    let slot : slot_of s d ≡ Some sdu = sym c.free.ensures.was ∙ c.unwrap-sdu.ensures in
    let step : ring_from s d ≡ (d, sdu) ∷ left = ring_taken s d sdu head.0 slot ∙ ap (λ t. (d, sdu) ∷ ring_from t (d + 1)) (sym c.free.ensures.left) in
    let run = ap (λ es. length (run_from d es)) step ∙ ap length (run_first d sdu left) in
    let items = rw c.unwrap.ensures at c.push.ensures.items in
    let longer = rw c.unwrap.ensures at c.push.ensures.len in
    let all = ring_from c.args.ring.now c.args.count in
    let more = next_taken c.loop.counter (d, sdu) all left (sym i.left ∙ step) in
    record {
      there = omega (arith, i.there, run);
      next = omega (arith, i.next);
      room = omega (arith, i.room, longer, c.push.ensures.capacity, c.loop-test.true);
      handed = items ∙ ap (λ xs. xs ++ (d, sdu) ∷ []) i.handed ∙ append_assoc c.args.handed.now.items (take c.loop.counter all) ((d, sdu) ∷ []) ∙ ap
          (λ xs. c.args.handed.now.items ++ xs) (sym more.0 ∙ ap (λ n. take n all) (sym (add-one c.loop.counter)));
      left = sym more.1 ∙ ap (λ n. drop n all) (sym (add-one c.loop.counter));
    }
