use Rattle.std.proofs.Common.{ℕ, List, None, sym, subst}
use Rattle.forward.specs.Load.{Sdu}
use Rattle.forward.specs.Tunnel.{IsEndOf}
use Rattle.forward.proofs.Arrivals.{nothing_of}
use Rattle.forward.proofs.Numbers.{nothing_missing}
use Rattle.forward.proofs.incoming.ForwardIn.new.Goals as goal

pub invariant_of-result : goal.invariant_of-result
invariant_of-result c = nothing_missing _ c.new.ensures.empty

pub returns-clause-kept : goal.returns-clause-kept
returns-clause-kept c t = subst (λ (es : List (ℕ × Sdu)). IsEndOf t (record { sdus = es; total = None })) (sym c.new.ensures.empty) (nothing_of t)
