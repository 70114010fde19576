use Rattle.std.proofs.Common.{ℕ, ◌≡◌, ◌≤◌, List}
use Rattle.transcript_entries.specs.Read.{ahead}
use Rattle.check_form.specs.Verdicts.{IsAfter}
use Rattle.check_form.proofs.checking.check_entries.Given as goal

abbrev pub invariant-loop-entries : goal.invariant-loop-entries
invariant-loop-entries g l = record {
  after : (octets : List ℕ) → IsAfter octets 0 l.fn.reader (ahead l.fn.reader.reader (g.S.Source.left l.fn.source)) l.fn.checker
      → IsAfter octets l.entries l.reader (ahead l.reader.reader (g.S.Source.left l.source)) l.checker;
  few : l.reader.taken ≤ 4294967295;
  kept : g.S.Source.fault_count l.source ≡ g.S.Source.fault_count l.fn.source;
}
