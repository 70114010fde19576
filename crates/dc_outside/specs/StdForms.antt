-- The forms over a reader and a writer of std, as their callers see them.
use Rattle.std.specs.Prelude.{ℕ}
use Rattle.dc_outside.specs.declared.std_forms.StdSource.{StdSource}
use Rattle.dc_outside.specs.declared.std_forms.StdSink.{StdSink}

-- how many reads of a source failed
abbrev pub failed_reads : {I : Type 0} → StdSource I → ℕ
failed_reads s = s.faults

-- how many writes to a sink failed
abbrev pub failed_writes : {I : Type 0} → StdSink I → ℕ
failed_writes s = s.faults
