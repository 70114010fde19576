use Rattle.std.proofs.Common.{◌≡◌}
use Rattle.dc_forms.specs.Shown.{shown_from}
use Rattle.dc_forms.proofs.shown.shown_counts.Given as goal

abbrev pub invariant-loop-k : goal.invariant-loop-k
invariant-loop-k l = l.counts ≡ shown_from l.fmc l.bits 1 l.k
