use Rattle.std.proofs.Common.{◌≡◌}
use Rattle.node_rules.specs.Master.{handed_up}
use Rattle.node_parts.proofs.effects.handed_up.Given as goal

abbrev pub invariant-loop-count : goal.invariant-loop-count
invariant-loop-count l = l.notes ≡ handed_up l.node l.id l.dir l.yielded
