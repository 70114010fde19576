-- The rows before this one have other words.
use Rattle.std.proofs.Common.{◌≡◌, drop}
use Rattle.script_text.specs.Spelling.{value_of}
use Rattle.transcript_text.proofs.words.lookup.Given as goal

abbrev pub invariant-loop-row : goal.invariant-loop-row
invariant-loop-row g l = value_of (drop l.row-index l.rows) l.field ≡ value_of l.rows l.field
