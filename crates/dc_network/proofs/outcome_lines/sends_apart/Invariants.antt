use Rattle.std.proofs.Common.{◌≡◌}
use Rattle.std.specs.List.{list_any}
use Rattle.std.specs.Prelude.{filter}
use Rattle.node_rules.specs.Lines.{is_idle_release, opens_release, sends_after, sends_before}
use Rattle.dc_network.proofs.outcome_lines.sends_apart.Given as goal

abbrev pub invariant-loop-link : goal.invariant-loop-link
invariant-loop-link l = record {
  flag : l.begun ≡ list_any opens_release l.yielded;
  front : l.apart.before.items ≡ sends_before l.yielded;
  idle : l.apart.idle.items ≡ filter is_idle_release l.yielded;
  back : l.apart.after.items ≡ sends_after l.yielded;
}
