use Rattle.std.proofs.Common.{◌≡◌, ◌++◌, map}
use Rattle.dc_base.specs.declared.events.Line.TheVariants as line
use Rattle.dc_network.proofs.outcome_lines.write_sends.Given as goal

abbrev pub invariant-loop-link : goal.invariant-loop-link
invariant-loop-link l = l.lines ≡ l.initial.lines ++ map (λ s. line.Send s.0 s.1) l.yielded
