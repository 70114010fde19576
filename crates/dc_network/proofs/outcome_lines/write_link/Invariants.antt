use Rattle.std.proofs.Common.{◌≡◌, ◌++◌, not}
use Rattle.std.specs.Prelude.{filter}
use Rattle.dc_base.specs.Links.{is_same_link}
use Rattle.node_rules.specs.Lines.{sends_on}
use Rattle.dc_network.proofs.outcome_lines.write_link.Given as goal

abbrev pub invariant-loop-on : goal.invariant-loop-on
invariant-loop-on l = record {
  left : l.others.items ≡ filter (λ s. not (is_same_link l.link s.0)) l.yielded;
  written : l.lines ≡ l.initial.lines ++ sends_on l.yielded l.link;
}
