use Rattle.std.proofs.Common.{◌≡◌, ◌++◌, ◌==◌, not}
use Rattle.std.specs.Prelude.{filter}
use Rattle.node_rules.specs.Lines.{notes_at, place}
use Rattle.dc_network.proofs.outcome_lines.write_place.Given as goal

abbrev pub invariant-loop-note : goal.invariant-loop-note
invariant-loop-note l = record {
  left : l.others.items ≡ filter (λ x. not (place x == l.at)) l.yielded;
  written : l.lines ≡ l.initial.lines ++ notes_at l.yielded l.at;
}
