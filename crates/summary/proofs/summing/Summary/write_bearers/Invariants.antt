use Rattle.std.proofs.Common.{◌≡◌, ◌++◌, take}
use Rattle.std.specs.List.{flat_map}
use Rattle.summary.specs.Texts.{tally_text}
use Rattle.summary.proofs.summing.Summary.write_bearers.Given as goal

abbrev pub invariant-loop-tally : goal.invariant-loop-tally
invariant-loop-tally l = l.out ≡ l.initial.out ++ flat_map tally_text (take l.tally-index l.self.bearers)
