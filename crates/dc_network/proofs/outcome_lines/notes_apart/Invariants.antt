use Rattle.std.proofs.Common.{◌≡◌}
use Rattle.std.specs.List.{list_any}
use Rattle.node_rules.specs.Lines.{is_end, notes_after, notes_before}
use Rattle.dc_network.proofs.outcome_lines.notes_apart.Given as goal

abbrev pub invariant-loop-note : goal.invariant-loop-note
invariant-loop-note l = record {
  flag : l.ended ≡ list_any is_end l.yielded;
  front : l.before.items ≡ notes_before l.yielded;
  back : l.after.items ≡ notes_after l.yielded;
}
