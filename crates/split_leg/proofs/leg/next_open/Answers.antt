use Rattle.std.proofs.Common.{◌≡◌, ◌<◌, ◌≤◌, ◌^◌, ◌/◌, ◌%◌, ℕ, true, length, get_or, suc, ap, subst, sym, arith}
use Rattle.std.specs.BTreeSet.{contains}
use Rattle.std.specs.Ordering.{nat_cmp}
use Rattle.std.proofs.lemmas.Map.Keys.{le_from_not_gt}
use Rattle.split_leg.specs.Indexes.{key_of}
use Rattle.split_leg.proofs.leg.next_open.Goals as goal

pub returns-then-key-end-clause-found : goal.returns-then-key-end-clause-found
returns-then-key-end-clause-found c =
    let key = c.in_ok-key.field-0.now in
    let steps = c.in_ok-key.ensures.steps in
    let len = ap length steps in
    let all = (c.range.ensures.in_range tt).0 in
    let read : get_or c.range.result 0 0 ≡ key = ap (λ l. get_or l 0 0) steps in
    let there = rw read at (all 0 0 (omega (arith, len))) in
    let parts : key_of (key / 2 ^ 32) (key % 2 ^ 32) ≡ key = omega arith in
    let from = le_from_not_gt c.key_of.result key there.0.0 in
    (key / 2 ^ 32, rw parts there.1, omega (arith, from, c.key_of.ensures), omega (arith, c.if-key-end.true))
