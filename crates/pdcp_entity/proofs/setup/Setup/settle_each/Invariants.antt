use Rattle.std.proofs.Common.{◌≡◌, ◌+◌, ℕ, fold, take}
use Rattle.split_leg.specs.Legs.{LegsState, settled_on_both}
use Rattle.pdcp_entity.proofs.setup.Setup.settle_each.Given as goal

abbrev pub invariant-loop-count : goal.invariant-loop-count
invariant-loop-count l =
    l.self ≡ record l.initial.self { legs = fold (λ (legs : LegsState) (c : ℕ). settled_on_both c (c + 1) legs) l.initial.self.legs (take l.count-index l.counts) }
