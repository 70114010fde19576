use Rattle.std.proofs.Common.{◌≡◌, ◌++◌, take}
use Rattle.std.specs.List.{flat_map}
use Rattle.dc_forms.specs.Shown.{range_text}
use Rattle.dc_forms.proofs.shown.write_ranges.Given as goal

abbrev pub invariant-loop-range : goal.invariant-loop-range
invariant-loop-range l = l.out ≡ l.initial.out ++ flat_map range_text (take l.range-index l.lost)
