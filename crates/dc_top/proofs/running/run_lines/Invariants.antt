use Rattle.std.proofs.Common.{ℕ, List, Option, ◌≡◌}
use Rattle.dc_network.specs.Counting.{IsWithin}
use Rattle.dc_text.specs.Lines.{input}
use Rattle.node_rules.specs.Choices.{by_policies}
use Rattle.split_leg.specs.Stored.{margins}
use Rattle.dc_top.specs.SoFar.{IsAfterLines}
use Rattle.dc_top.proofs.running.run_lines.Given as goal

abbrev pub invariant-loop-number : goal.invariant-loop-number
invariant-loop-number g l =
    ((all before : Option (List ℕ)) → IsAfterLines (by_policies (margins l.fn.policies)) l.fn.network 2 l.fn.reader.passed l.fn.reader.ended
    all (input l.fn.reader (g.S.Source.left l.fn.src)) before (g.K.Sink.put_out l.fn.out)
    → IsAfterLines (by_policies (margins l.fn.policies)) l.network l.number l.reader.passed l.reader.ended
    all (input l.reader (g.S.Source.left l.src)) before (g.K.Sink.put_out l.out))
    × IsWithin l.network.counts
    × (g.S.Source.fault_count l.src ≡ g.S.Source.fault_count l.fn.src) × (g.K.Sink.fault_count l.out ≡ g.K.Sink.fault_count l.fn.out)
