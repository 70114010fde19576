use Rattle.std.proofs.Common.{sym, subst, arith}
use Rattle.forward.specs.Kept.{CameBelow, AreSmall}
use Rattle.forward.proofs.Numbers.{below-insert, small-insert}
use Rattle.forward.proofs.incoming.ForwardIn.take_piece.Goals as goal

pub first_missing-self-inside-requires-clause-below : goal.first_missing-self-inside-requires-clause-below
first_missing-self-inside-requires-clause-below c =
    subst (λ m. CameBelow m c.self.inside.missing) (sym c.in_ok-keep.ensures.ok) (below-insert _ _ _ c.self.inside.missing c.self.invariant.below)

pub first_missing-self-inside-requires-clause-small : goal.first_missing-self-inside-requires-clause-small
first_missing-self-inside-requires-clause-small c =
    subst AreSmall (sym c.in_ok-keep.ensures.ok) (small-insert _ _ _ (omega arith) c.self.invariant.small)
