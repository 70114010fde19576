use Rattle.std.proofs.Common.{◌≡◌, ◌+◌, ℕ, fold, take}
use Rattle.std.specs.List.{filter}
use Rattle.pdcp_pdu.specs.Bitmap.{names}
use Rattle.split_leg.specs.Legs.{LegsState, settled_on_both}
use Rattle.pdcp_entity.proofs.setup.Setup.settle_named.Given as goal

abbrev pub invariant-loop-count : goal.invariant-loop-count
invariant-loop-count l =
    l.self ≡ record l.initial.self { legs = fold (λ (legs : LegsState) (c : ℕ). settled_on_both c (c + 1) legs) l.initial.self.legs (filter (names l.fmc l.bits) (take l.count-index l.counts)) }
