use Rattle.std.proofs.Common.{◌≡◌, ℕ, ◌≤◌}
use Rattle.forward.specs.Kept.{under, IsFront}
use Rattle.forward.proofs.incoming.in_order.Given as goal

-- the SDUs so far, and those that are left
abbrev pub invariant-loop-number : goal.invariant-loop-number
invariant-loop-number l =
    record {
      front : IsFront l.fn.sdus.entries l.number l.list;
      rest : (q : ℕ) → l.number ≤ q → under l.sdus.entries q ≡ under l.fn.sdus.entries q;
    }
